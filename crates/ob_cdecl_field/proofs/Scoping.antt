-- What stands around behind parameters, and when their types or their scope end.
use Rattle.std.proofs.Common.{◌≡◌, ℕ, suc, ◌+◌, ◌-◌, ◌<◌, true, List, [], ◌∷◌, ◌++◌, length, drop, Option, Some, None, refl, sym, ap, ◌∙◌, arith, add-one}
use Rattle.std.proofs.lemmas.List.{append_assoc}
use Rattle.ob_tree.specs.declared.ident.Ident.{Ident}
use Rattle.ob_types.specs.declared.types.Mode.{Mode}
use Rattle.ob_types.specs.declared.typed.TypedType.{TypedType}
use Rattle.ob_rules.specs.declared.entity.Known.{Known}
use Rattle.ob_rules.specs.Names.{Around}
use Rattle.ob_rules.specs.Types.{Typing, WrittenSection, mode_of, knows, parameter_as, declare_all, sections, inner}
use Rattle.ob_cdecl_scopes.specs.Descending.{are_within}
use Rattle.ob_cdecl_field.specs.ParameterMakes.{behind_names, section_typing, behind_section}
use Rattle.ob_cdecl_field.proofs.Cuts.{back}

-- with more types and more names in front
abbrev pub larger : Around → List TypedType → List Known → Around
larger u ts ks = record u { own = ts ++ u.own; known = ks ++ u.known }

-- more types and more names stand around
abbrev pub Grown : Around → Around → Type 0
Grown u v = (ts : List TypedType) × ((ks : List Known) × (v ≡ larger u ts ks))

pub grown_none : (u : Around) → Grown u u
grown_none u = ([], ([], refl))

grown_more : (u v w : Around) (ts : List TypedType) (ks : List Known) → w ≡ larger v ts ks → Grown u v → Grown u w
grown_more u v w ts ks e g =
    let put : List TypedType → List Known → Around = λ o k. record u { own = o; known = k } in (
      ts ++ g.0,
      (
        ks ++ g.1.0,
        e ∙ ap (λ a. larger a ts ks) g.1.1
            ∙ ap (λ o. put o (ks ++ (g.1.0 ++ u.known))) (sym (append_assoc ts g.0 u.own))
            ∙ ap (put ((ts ++ g.0) ++ u.own)) (sym (append_assoc ks g.1.0 u.known)),
      ),
    )

declared_more : (u : Around) (m : Mode) (t : Option Typing) (xs : List Ident) → (ks : List Known) × ((declare_all u m t xs).around ≡ larger u [] ks)
declared_more u m t [] = ([], refl)
declared_more u m t (x ∷ xs) =
    let e = parameter_as u m x t in
    let k : Known = record { name = x.name; scope = u.scope; what = e } in
    let h = declared_more (knows u x e) m t xs in
    (h.0 ++ k ∷ [], h.1 ∙ ap (λ l. record u { known = l }) (sym (append_assoc h.0 (k ∷ []) u.known)))

pub names_grown : (u v : Around) (m : Mode) (xs : List Ident) (t : Option Typing) → Grown u v → Grown u (behind_names v m xs t)
names_grown u v m xs None g = let h = declared_more v m None xs in grown_more u v (behind_names v m xs None) [] h.0 h.1 g
names_grown u v m xs (Some t) g =
    let h = declared_more v m (Some t) xs in
    grown_more u v (behind_names v m xs (Some t)) t.made h.0 (ap (λ a. larger a t.made []) h.1) g

-- the types that were added go again, and the names stay
pub cut_grown : (u v w : Around) (n : ℕ) → w ≡ record v { own = drop (length v.own - n) v.own } → n ≡ length u.own → Grown u v → w ≡ record u { known = v.known }
cut_grown u v w n e f g =
    let cut : Around → Around = λ a. record a { own = drop (length a.own - n) a.own } in
    let put : List TypedType → Around = λ o. record u { own = o; known = g.1.0 ++ u.known } in
    let known_in : Around → List Known = λ a. a.known in
    e ∙ ap cut g.1.1 ∙ ap put (back g.0 u.own n f) ∙ ap (λ k. record u { known = k }) (sym (ap known_in g.1.1))

pub sections_more : (u : Around) (name : List ℕ) (i : ℕ) (ss : List WrittenSection) → (ks : List Known) × ((sections u name i ss).known ≡ ks ++ u.known)
sections_more u name i [] = ([], refl)
sections_more u name i (s ∷ ss) =
    let w = behind_section u name i s in
    let g = names_grown u u (mode_of s.is_var) s.names (section_typing u name i s).node (grown_none u) in
    let h = sections_more w name (i + length s.names) ss in
    let known_in : Around → List Known = λ a. a.known in
    (h.0 ++ g.1.0, h.1 ∙ ap (λ l. h.0 ++ l) (ap known_in g.1.1) ∙ sym (append_assoc h.0 g.1.0 u.known))

-- AN INNER SCOPE

pub entered : (u v : Around) → v ≡ record u { scope = u.scope + 1 } → v ≡ inner u
entered u v e = e ∙ ap (λ n. record u { scope = n }) (add-one u.scope)

-- behind the parameters of an inner scope
abbrev pub Inside : Around → Around → Type 0
Inside u v = (ks : List Known) × (v ≡ record (inner u) { known = ks ++ u.known })

pub inside : (u v w : Around) (name : List ℕ) (ss : List WrittenSection) → v ≡ inner u → w ≡ record v { known = (sections v name 1 ss).known } → Inside u w
inside u v w name ss e f =
    let h = sections_more (inner u) name 1 ss in
    let behind : Around → Around = λ a. record a { known = (sections a name 1 ss).known } in
    let put : List Known → Around = λ k. record (inner u) { known = k } in
    (h.0, f ∙ ap behind e ∙ ap put h.1)

known_back : (u w : Around) (n : ℕ) → n ≡ length u.known → Inside u w → drop (length w.known - n) w.known ≡ u.known
known_back u w n e g =
    let cut : Around → List Known = λ a. drop (length a.known - n) a.known in
    ap cut g.1 ∙ back g.0 u.known n e

pub scope_back : (u w : Around) → Inside u w → w.scope - 1 ≡ u.scope
scope_back u w g =
    let number : Around → ℕ = λ a. a.scope - 1 in
    ap number g.1 ∙ omega arith

pub has_outer : (u w : Around) → Inside u w → 0 < w.scope
has_outer u w g =
    let number : Around → ℕ = λ a. a.scope in
    let e : w.scope ≡ suc u.scope = ap number g.1 in
    omega (arith, e)

pub falls : (u w : Around) (n : ℕ) → n ≡ length u.known → are_within u.scope u.known ≡ true → Inside u w → are_within (w.scope - 1) (drop (length w.known - n) w.known) ≡ true
falls u w n e f g =
    ap (λ k. are_within k (drop (length w.known - n) w.known)) (scope_back u w g)
    ∙ ap (are_within u.scope) (known_back u w n e g)
    ∙ f

-- the inner scope is left
pub left : (u v w : Around) (n m : ℕ) → w ≡ record v { scope = v.scope - 1; known = drop (length v.known - n) v.known; own = drop (length v.own - m) v.own } → n ≡ length u.known → m ≡ length u.own → Inside u v → w ≡ u
left u v w n m e f h g =
    let put : List TypedType → List Known → ℕ → Around = λ o k i. record u { own = o; known = k; scope = i } in
    let leave : Around → Around = λ a. record a { scope = a.scope - 1; known = drop (length a.known - n) a.known; own = drop (length a.own - m) a.own } in
    let one : suc u.scope - 1 ≡ u.scope = omega arith in
    e ∙ ap leave g.1
    ∙ ap (λ i. put (drop (length u.own - m) u.own) (drop (length (g.0 ++ u.known) - n) (g.0 ++ u.known)) i) one
    ∙ ap (λ k. put (drop (length u.own - m) u.own) k u.scope) (back g.0 u.known n f)
    ∙ ap (λ o. put o u.known u.scope) (back [] u.own m h)
