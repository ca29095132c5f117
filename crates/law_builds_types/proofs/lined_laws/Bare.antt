-- Maps without the members of records.
use Rattle.std.proofs.Common.{◌≡◌, ℕ, zero, suc, Option, Some, None, refl, sym, ap, subst, ◌∙◌}
use Rattle.std.specs.Prelude.{true, MatchOption, IsTrue}
use Rattle.std.specs.Option.{option_map}
use Rattle.std.specs.List.{AllByRecursion}
use Rattle.ob_tree.specs.declared.names.QName.{QName}
use Rattle.ob_types.specs.declared.types.TypeRef.{TypeRef}
use Rattle.ob_types.specs.declared.types.TypeRef.TheVariants as ref
use Rattle.ob_types.specs.declared.desc.Desc.{Desc}
use Rattle.ob_types.specs.declared.desc.Desc.TheVariants as desc
use Rattle.ob_types.specs.Maps.{is_type, stands_on, IsHeld, IsWithin}
use Rattle.law_typing_forms.specs.Steady.{bare, without_members}
use Rattle.law_typing_forms.proofs.Within.{all_from}
use Rattle.law_typing_forms.proofs.Staying.{HasMore}
use Rattle.law_acyclic.proofs.Maps.{stands_bare}

pub type_bare : (d : Desc) → is_type (bare d) ≡ is_type d
type_bare (desc.Const v) = refl
type_bare (desc.Var m t) = refl
type_bare (desc.Proc s) = refl
type_bare (desc.Alias m t) = refl
type_bare (desc.Array m n t) = refl
type_bare (desc.OpenArray m t) = refl
type_bare (desc.Pointer m t) = refl
type_bare (desc.ProcType m s) = refl
type_bare (desc.Record r) = refl

-- a description of the map without members is one of the map, bare
pub bare_back : (o : Option Desc) (b : Desc) → option_map bare o ≡ Some b → (d : Desc) × ((o ≡ Some d) × (bare d ≡ b))
bare_back None b e = absurd cc
bare_back (Some d) b e = let k : bare d ≡ b = cc in (d, (refl, k))

pub more_bare : (small large : QName → Option Desc) → HasMore small large → HasMore (without_members small) (without_members large)
more_bare small large has q b e = let s = bare_back (small q) b e in ap (option_map bare) (has q s.0 s.1.0) ∙ ap (λ x. Some x) s.1.1

pub held_bare : (map : QName → Option Desc) (t : TypeRef) → IsHeld map t → IsHeld (without_members map) t
held_bare map (ref.Basic b) h = tt
held_bare map (ref.Named q) h = by (map q) h
  where
    by : (o : Option Desc) → MatchOption o ⊥ (λ d. IsTrue (is_type d)) → MatchOption (option_map bare o) ⊥ (λ d. IsTrue (is_type d))
    by None h = h
    by (Some d) h = type_bare d ∙ h

-- A chain of a map is a line of one that describes the same types with the same bases: members aside, it goes on to no more.
pub lines_larger : (small large : QName → Option Desc) → ((q : QName) (d : Desc) → small q ≡ Some d → is_type d ≡ true → (e : Desc) × ((large q ≡ Some e) × (bare e ≡ bare d))) → (n : ℕ) (t : TypeRef) → IsWithin small n t → IsWithin (without_members large) n t
unfolding IsWithin
lines_larger small large says n (ref.Basic b) h = tt
lines_larger small large says zero (ref.Named q) h = absurd h
lines_larger small large says (suc n) (ref.Named q) h = by (small q) refl h (λ t w. lines_larger small large says n t w)
  where
    by : (o : Option Desc) → small q ≡ o → MatchOption o ⊥ (λ d. IsTrue (is_type d) × AllByRecursion (λ t. IsWithin small n t) (stands_on d)) → ((t : TypeRef) → IsWithin small n t → IsWithin (without_members large) n t) → MatchOption (without_members large q) ⊥ (λ d. IsTrue (is_type d) × AllByRecursion (λ t. IsWithin (without_members large) n t) (stands_on d))
    by None e h r = absurd h
    by (Some d) e h r =
        let s = says q d e h.0 in
        let there : without_members large q ≡ Some (bare d) = ap (option_map bare) s.1.0 ∙ ap (λ x. Some x) s.1.1 in
        let parts = all_from (λ t. IsWithin small n t) (λ t. IsWithin (without_members large) n t) r (stands_on d) h.1 in
        subst (λ o. MatchOption o ⊥ (λ d. IsTrue (is_type d) × AllByRecursion (λ t. IsWithin (without_members large) n t) (stands_on d))) (sym there) (type_bare d ∙ h.0, stands_bare (λ t. IsWithin (without_members large) n t) d parts)
