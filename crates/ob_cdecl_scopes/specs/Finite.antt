-- The types around are finitely many.
use Rattle.std.proofs.Common.{◌≡◌, ℕ, suc, Bool, true, false, List, [], ◌∷◌, ◌++◌, map, Option, Some, None, refl, sym, ap, ◌∙◌, inl, inr, arith}
use Rattle.std.specs.Prelude.{◌⊎◌, Contains, bytes_eq, ◌&&◌, if◌then◌else◌}
use Rattle.std.specs.List.{find}
use Rattle.std.proofs.lemmas.List.Elements.{Contains-append_left, Contains-append_right}
use Rattle.std.proofs.lemmas.Slice.Eq.{bytes_eq-Decides}
use Rattle.ob_tree.specs.declared.names.QName.{QName}
use Rattle.ob_types.specs.declared.desc.Desc.{Desc}
use Rattle.ob_types.specs.declared.typed.TypedType.{TypedType}
use Rattle.ob_types.specs.Maps.{IsFinite}
use Rattle.ob_rules.specs.Shapes.{same_name}
use Rattle.ob_rules.specs.Names.{Around, map_of, type_desc, own_desc, out_string}
use Rattle.ob_cdecl_scopes.specs.declared.scope.Scope.{Scope}
use Rattle.ob_cdecl_scopes.specs.Scopes.{around_of}

equal_names : (a b : List ℕ) → bytes_eq a b ≡ true → a ≡ b
equal_names a b e = (bytes_eq-Decides a b).0 e

in_front : {X : Type 0} (xs : List X) (y x : X) → y ≡ x → Contains (y ∷ xs) x
in_front xs y x e = (0, omega arith, e)

behind : {X : Type 0} (xs : List X) (y x : X) → Contains xs x → Contains (y ∷ xs) x
behind xs y x h = let lt = h.1 in (suc h.0, omega (arith, lt), h.2)

same_qname : (p q : QName) → p.«module» ≡ q.«module» → p.object ≡ q.object → p ≡ q
same_qname p q e f = ap (λ m. record { «module» = m; object = p.object }) e ∙ ap (λ o. record { «module» = q.«module»; object = o }) f

both_true : (a b : Bool) → a && b ≡ true → (a ≡ true) × (b ≡ true)
both_true true true e = (refl, refl)
both_true true false e = absurd cc
both_true false b e = absurd cc

equal_qnames : (p q : QName) → same_name p q ≡ true → p ≡ q
equal_qnames p q e =
    let h = both_true (bytes_eq p.«module» q.«module») (bytes_eq p.object q.object) e in
    same_qname p q (equal_names p.«module» q.«module» h.0) (equal_names p.object q.object h.1)

pub own_covered : (unit : List ℕ) (q : QName) (own : List TypedType) → q.«module» ≡ unit → (own_desc (find (λ t. bytes_eq t.name q.object) own) ≡ None) ⊎ Contains (map (λ t. record { «module» = unit; object = t.name }) own) q
own_covered unit q [] e = inl refl
own_covered unit q (t ∷ own) e = go (bytes_eq t.name q.object) refl (own_covered unit q own e)
  where
    go : (b : Bool) → bytes_eq t.name q.object ≡ b → (own_desc (find (λ u. bytes_eq u.name q.object) own) ≡ None) ⊎ Contains (map (λ u. record { «module» = unit; object = u.name }) own) q → (own_desc (find (λ u. bytes_eq u.name q.object) (t ∷ own)) ≡ None) ⊎ Contains (map (λ u. record { «module» = unit; object = u.name }) (t ∷ own)) q
    go true f r = inr (in_front (map (λ u. record { «module» = unit; object = u.name }) own) (record { «module» = unit; object = t.name }) q (same_qname (record { «module» = unit; object = t.name }) q (sym e) (equal_names t.name q.object f)))
    go false f (inl n) = inl (ap (λ b. own_desc (if b then Some t else find (λ u. bytes_eq u.name q.object) own)) f ∙ n)
    go false f (inr c) = inr (behind (map (λ u. record { «module» = unit; object = u.name }) own) (record { «module» = unit; object = t.name }) q c)

abbrev Covered : Option Desc → List QName → QName → Type 0
Covered d names q = (d ≡ None) ⊎ Contains names q

left_of : (d : Option Desc) (xs ys : List QName) (q : QName) → Covered d xs q → Covered d (xs ++ ys) q
left_of d xs ys q (inl n) = inl n
left_of d xs ys q (inr c) = inr (Contains-append_left xs ys q c)

right_of : (d : Option Desc) (xs ys : List QName) (q : QName) → Covered d ys q → Covered d (xs ++ ys) q
right_of d xs ys q (inl n) = inl n
right_of d xs ys q (inr c) = inr (Contains-append_right xs ys q c)

one_more : (d : Option Desc) (xs : List QName) (x q : QName) → Covered d xs q → Covered d (x ∷ xs) q
one_more d xs x q (inl n) = inl n
one_more d xs x q (inr c) = inr (behind xs x q c)

pub map_finite : (u : Around) → IsFinite u.shown → IsFinite (map_of u)
map_finite u h = (map (λ t. record { «module» = u.unit; object = t.name }) u.own ++ out_string ∷ h.0, λ q. go q (bytes_eq q.«module» u.unit) refl (same_name q out_string) refl)
  where
    go : (q : QName) (a : Bool) → bytes_eq q.«module» u.unit ≡ a → (b : Bool) → same_name q out_string ≡ b → Covered (type_desc a b u q) (map (λ t. record { «module» = u.unit; object = t.name }) u.own ++ out_string ∷ h.0) q
    go q true e b f = left_of (type_desc true b u q) (map (λ t. record { «module» = u.unit; object = t.name }) u.own) (out_string ∷ h.0) q (own_covered u.unit q u.own (equal_names q.«module» u.unit e))
    go q false e true f = right_of (type_desc false true u q) (map (λ t. record { «module» = u.unit; object = t.name }) u.own) (out_string ∷ h.0) q (inr (in_front h.0 out_string q (sym (equal_qnames q out_string f))))
    go q false e false f = right_of (u.shown q) (map (λ t. record { «module» = u.unit; object = t.name }) u.own) (out_string ∷ h.0) q (one_more (u.shown q) h.0 out_string q (h.1 q))

pub scope_finite : {E : Type 0} (shown : E → QName → Option Desc) (s : Scope E) → IsFinite (shown s.imported.now) → IsFinite (map_of (around_of shown s))
scope_finite shown s h = map_finite (around_of shown s) h
