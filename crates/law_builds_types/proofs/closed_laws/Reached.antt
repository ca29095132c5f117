-- What the interface of a module names of the module's own types is reached.
use Rattle.std.proofs.Common.{◌≡◌, inl, inr, true, List, [], ◌∷◌, ◌++◌, map as each, Option, Some, refl, sym, ap, subst, ◌∙◌}
use Rattle.std.specs.List.{filter, flat_map, AllByRecursion}
use Rattle.ob_tree.specs.declared.names.QName.{QName}
use Rattle.ob_types.specs.declared.types.TypeRef.{TypeRef}
use Rattle.ob_types.specs.declared.types.TypeRef.TheVariants as ref
use Rattle.ob_types.specs.declared.desc.Desc.{Desc}
use Rattle.ob_types.specs.declared.typed.TypedVariable.{TypedVariable}
use Rattle.ob_types.specs.TypedSyntax.{Procedure, Module}
use Rattle.ob_types.specs.Maps.{signature_types}
use Rattle.ob_desc.specs.Grammar.{is_shown, same_object}
use Rattle.ob_layout.specs.LaidOut.{type_named, is_own}
use Rattle.ob_env.specs.Shown.{is_visible}
use Rattle.ob_uses_roots.specs.Counts.{own_name}
use Rattle.ob_uses_roots.specs.Noted.{names_of}
use Rattle.ob_uses.specs.declared.way.Way.TheVariants as way
use Rattle.ob_uses.specs.Closed.{is_among, of_found}
use Rattle.ob_uses.specs.Reaching.{first, onward}
use Rattle.ob_uses.specs.Objects.{own_names, signature_of, is_exported, shown_types, reached_types}
use Rattle.ob_uses.specs.Ways.{desc_leads}
use Rattle.ob_uses.proofs.Searching.{itself, left_of, right_of, in_front, in_back}
use Rattle.ob_uses.proofs.Pairing.{has_of_among, among_of_has, kept_has}
use Rattle.law_typing_forms.specs.Said.{IsOneOf}
use Rattle.law_typing_env.proofs.Views.{one_each}
use Rattle.law_builds_types.proofs.closed_laws.Reaching.{to_reached, from_reached}
use Rattle.law_builds_types.proofs.closed_laws.Lists.{all_by, one_flat, one_kept}

names_one : (ts : List TypeRef) (p : QName) → IsOneOf ts (ref.Named p) → is_among (names_of ts) p ≡ true
names_one [] p h = absurd h
names_one (ref.Basic b ∷ ts) p (inl e) = absurd cc
names_one (ref.Basic b ∷ ts) p (inr k) = names_one ts p k
names_one (ref.Named q ∷ ts) p (inl e) = let s : q ≡ p = cc in left_of (same_object p q) (is_among (names_of ts) p) (subst (λ (x : QName). same_object p x ≡ true) (sym s) (itself p))
names_one (ref.Named q ∷ ts) p (inr k) = right_of (same_object p q) (is_among (names_of ts) p) (names_one ts p k)

module _ (m : Module) where
  -- a basic type, one of another module, or one that is reached
  abbrev pub IsIn : TypeRef → Type 0
  IsIn (ref.Basic b) = Unit {0}
  IsIn (ref.Named p) = is_own m p ≡ true → is_among (reached_types m) p ≡ true

  in_by : (t : TypeRef) → ((p : QName) → is_own m p ≡ true → t ≡ ref.Named p → is_among (reached_types m) p ≡ true) → IsIn t
  in_by (ref.Basic b) f = tt
  in_by (ref.Named p) f = λ own. f p own refl

  kept_own : (ts : List TypeRef) (p : QName) → is_own m p ≡ true → IsOneOf ts (ref.Named p) → is_among (own_names m ts) p ≡ true
  kept_own ts p own i = among_of_has (filter (is_own m) (names_of ts)) p (kept_has (is_own m) p (names_of ts) (has_of_among (names_of ts) p (names_one ts p i)) own)

  -- what a type that is reached shows
  pub type_in : (q : QName) (d : Desc) → type_named m.types q.object ≡ Some d → is_among (reached_types m) q ≡ true → AllByRecursion IsIn (shown_types d)
  type_in q d found there =
      all_by IsIn (shown_types d) (λ t i. in_by t (λ p own e.
      from_reached m p (onward (to_reached m q there) (ap (λ (o : Option Desc). is_among (of_found (desc_leads way.Shown m.name q) o) p) found ∙ kept_own (shown_types d) p own (subst (IsOneOf (shown_types d)) e i)))))

  abbrev us : List QName
  us = each (own_name m) (filter (λ t. is_visible t.desc) m.types)

  abbrev vs : List TypeRef
  vs = each (λ v. v.of) (filter (λ v. is_shown v.mark) m.variables)

  abbrev ps : List TypeRef
  ps = flat_map (λ p. signature_types (signature_of p)) (filter is_exported m.procedures)

  -- the type of a variable that is shown
  pub variable_in : (v : TypedVariable) → IsOneOf m.variables v → is_shown v.mark ≡ true → IsIn v.of
  variable_in v there shown = in_by v.of (λ p own e.
      let i : IsOneOf vs v.of = one_each (λ v. v.of) (filter (λ v. is_shown v.mark) m.variables) v (one_kept (λ v. is_shown v.mark) m.variables v shown there) in
      from_reached m p (first (in_front (us ++ own_names m vs) (own_names m ps) p (in_back us (own_names m vs) p (kept_own vs p own (subst (IsOneOf vs) e i))))))

  -- what an exported procedure takes and gives
  pub head_in : (p : Procedure) → IsOneOf m.procedures p → is_exported p ≡ true → AllByRecursion IsIn (signature_types (signature_of p))
  head_in p there shown = all_by IsIn (signature_types (signature_of p)) (λ t i. in_by t (λ x own e.
      let k : IsOneOf ps t = one_flat (λ p. signature_types (signature_of p)) (filter is_exported m.procedures) p t (one_kept is_exported m.procedures p shown there) i in
      from_reached m x (first (in_back (us ++ own_names m vs) (own_names m ps) x (kept_own ps x own (subst (IsOneOf ps) e k))))))
