-- What a type stands for.
use Rattle.std.proofs.Common.{◌≡◌, ℕ, zero, suc, ◌≤◌, ◌<◌, ◌+◌, ◌-◌, true, false, List, [], ◌∷◌, Option, Some, None, refl, sym, ap, subst, ◌∙◌, arith}
use Rattle.std.specs.Prelude.{MatchOption, IsTrue}
use Rattle.std.specs.List.{AllByRecursion}
use Rattle.ob_tree.specs.declared.names.QName.{QName}
use Rattle.ob_tree.specs.declared.ident.Mark.{Mark}
use Rattle.ob_types.specs.declared.types.TypeRef.{TypeRef}
use Rattle.ob_types.specs.declared.types.TypeRef.TheVariants as types
use Rattle.ob_types.specs.declared.desc.Desc.{Desc}
use Rattle.ob_types.specs.declared.desc.Desc.TheVariants as desc
use Rattle.ob_types.specs.Maps.{IsWithin, is_type, stands_on}
use Rattle.ob_types.specs.Relations.{IsOwn, is_alias, StandsFor, itself, equated}
use Rattle.ob_types.specs.Tests.{target_of, alias_of, follow, target}

-- an alias is no own type
alias_own : (map : QName → Option Desc) (q : QName) (m : Mark) (t : TypeRef) → map q ≡ Some (desc.Alias m t) → IsOwn map (types.Named q) → ⊥
alias_own map q m t e own =
    let bad : true ≡ false = subst (λ (o : Option Desc). MatchOption o (Unit {0}) (λ d. is_alias d ≡ false)) e own in
    absurd cc

alias_is : (m k : Mark) (t u : TypeRef) (o : Option Desc) → o ≡ Some (desc.Alias m t) → o ≡ Some (desc.Alias k u) → t ≡ u
alias_is m k t u o a b = cc

moved : (map : QName → Option Desc) (t u w : TypeRef) → t ≡ u → StandsFor map u w → StandsFor map t w
moved map t u w e s = subst (λ (x : TypeRef). StandsFor map x w) (sym e) s

-- a type stands for one type
pub unique : (map : QName → Option Desc) {t u v : TypeRef} → StandsFor map t u → StandsFor map t v → u ≡ v
unique map (itself a) (itself b) = refl
unique map (itself a) (equated {q = q} {m = m} {t = t} e s) = absurd (alias_own map q m t e a)
unique map (equated {q = q} {m = m} {t = t} e s) (itself b) = absurd (alias_own map q m t e b)
unique map (equated {q = q} {m = m} {t = t} e s) (equated {m = k} {t = u} {u = w} f r) = unique map s (moved map t u w (alias_is m k t u (map q) e f) r)

-- what the target is
pub record IsTarget (map : QName → Option Desc) (n : ℕ) (t u : TypeRef) : Type 0 where
  pub stands : StandsFor map t u
  pub within : IsWithin map n u

all_more : (P Q : TypeRef → Type 0) → ((t : TypeRef) → P t → Q t) → (ts : List TypeRef) → AllByRecursion P ts → AllByRecursion Q ts
all_more P Q f [] h = tt
all_more P Q f (t ∷ ts) h = (f t h.0, all_more P Q f ts h.1)

desc_more : (P Q : TypeRef → Type 0) → ((t : TypeRef) → P t → Q t) → (o : Option Desc) → MatchOption o ⊥ (λ d. IsTrue (is_type d) × AllByRecursion P (stands_on d)) → MatchOption o ⊥ (λ d. IsTrue (is_type d) × AllByRecursion Q (stands_on d))
desc_more P Q f None h = absurd h
desc_more P Q f (Some d) h = (h.0, all_more P Q f (stands_on d) h.1)

pub more : (map : QName → Option Desc) (n : ℕ) (t : TypeRef) → IsWithin map n t → IsWithin map (suc n) t
unfolding IsWithin
more map n (types.Basic b) h = tt
more map zero (types.Named q) h = absurd h
more map (suc n) (types.Named q) h = desc_more (λ t. IsWithin map n t) (λ t. IsWithin map (suc n) t) (λ t p. more map n t p) (map q) h

own_at : (map : QName → Option Desc) (q : QName) (d : Desc) → map q ≡ Some d → is_alias d ≡ false → IsOwn map (types.Named q)
own_at map q d e is = subst (λ (o : Option Desc). MatchOption o (Unit {0}) (λ d. is_alias d ≡ false)) (sym e) is

-- one step, at what the map has of the name
step : (map : QName → Option Desc) (n k : ℕ) (q : QName) (o : Option Desc) → map q ≡ o → ((t : TypeRef) → IsWithin map n t → IsTarget map n t (target map k t)) → MatchOption o ⊥ (λ d. IsTrue (is_type d) × AllByRecursion (λ t. IsWithin map n t) (stands_on d)) → IsWithin map (suc n) (types.Named q)
    → IsTarget map (suc n) (types.Named q) (follow (target_of o) (types.Named q) (λ u. target map k u))
step map n k q None e below h whole = absurd h
step map n k q (Some (desc.Alias m t)) e below h whole =
    let u = below t h.1.0 in
    record { stands = equated e u.stands; within = more map n (target map k t) u.within }
step map n k q (Some (desc.Const v)) e below h whole = absurd (let bad : false ≡ true = h.0 in cc)
step map n k q (Some (desc.Var m t)) e below h whole = absurd (let bad : false ≡ true = h.0 in cc)
step map n k q (Some (desc.Proc s)) e below h whole = absurd (let bad : false ≡ true = h.0 in cc)
step map n k q (Some (desc.Array m c t)) e below h whole = record { stands = itself (own_at map q (desc.Array m c t) e refl); within = whole }
step map n k q (Some (desc.OpenArray m t)) e below h whole = record { stands = itself (own_at map q (desc.OpenArray m t) e refl); within = whole }
step map n k q (Some (desc.Pointer m t)) e below h whole = record { stands = itself (own_at map q (desc.Pointer m t) e refl); within = whole }
step map n k q (Some (desc.ProcType m s)) e below h whole = record { stands = itself (own_at map q (desc.ProcType m s) e refl); within = whole }
step map n k q (Some (desc.Record r)) e below h whole = record { stands = itself (own_at map q (desc.Record r) e refl); within = whole }

pub is_target : (map : QName → Option Desc) (n k : ℕ) (t : TypeRef) → n ≤ k → IsWithin map n t → IsTarget map n t (target map k t)
unfolding IsWithin target
is_target map n zero (types.Basic b) le h = record { stands = itself tt; within = tt }
is_target map n (suc k) (types.Basic b) le h = record { stands = itself tt; within = tt }
is_target map zero k (types.Named q) le h = absurd h
is_target map (suc n) zero (types.Named q) le h = absurd (omega arith)
is_target map (suc n) (suc k) (types.Named q) le h = step map n k q (map q) refl (λ t p. is_target map n k t (omega arith) p) h h

-- ---- the loop

pub stays : (map : QName → Option Desc) (n : ℕ) (t : TypeRef) → alias_of map t ≡ None → target map n t ≡ t
unfolding target
stays map zero t e = refl
stays map (suc n) t e = ap (λ (o : Option TypeRef). follow o t (λ u. target map n u)) e

pub goes : (map : QName → Option Desc) (i : ℕ) (t u : TypeRef) (w : TypeRef) → i < 201 → alias_of map t ≡ Some u → target map (201 - i) t ≡ w → target map (201 - (i + 1)) u ≡ w
unfolding target
goes map i t u w lt e so_far =
    let k : 201 - i ≡ suc (201 - (i + 1)) = omega arith in
    let one : target map (201 - i) t ≡ target map (201 - (i + 1)) u = ap (λ (n : ℕ). target map n t) k ∙ ap (λ (o : Option TypeRef). follow o t (λ v. target map (201 - (i + 1)) v)) e in
    sym one ∙ so_far

pub ends : (map : QName → Option Desc) (i : ℕ) (t w : TypeRef) → 201 ≤ i → target map (201 - i) t ≡ w → t ≡ w
unfolding target
ends map i t w le so_far =
    let k : 201 - i ≡ 0 = omega arith in
    let one : target map (201 - i) t ≡ t = rw k refl in
    sym one ∙ so_far
