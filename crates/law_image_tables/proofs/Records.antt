-- The record types of a module's file, by the bases that their declarations name.
use Rattle.std.proofs.Common.{◌≡◌, ℕ, suc, ◌+◌, List, [], ◌∷◌, ◌++◌, Option, Some, None, refl, sym, ap, ◌∙◌, subst}
use Rattle.std.specs.Prelude.{Bool, true, false, slice_get, if◌then◌else◌}
use Rattle.ob_tree.specs.declared.names.QName.{QName}
use Rattle.ob_types.specs.declared.desc.Desc.{Desc}
use Rattle.ob_types.specs.declared.desc.Desc.TheVariants as desc
use Rattle.ob_types.specs.declared.typed.TypedType.{TypedType}
use Rattle.ob_types.specs.TypedSyntax.{Module}
use Rattle.ob_obj.specs.declared.parts.RecordType.{RecordType}
use Rattle.ob_meaning.specs.Values.{Program}
use Rattle.ob_scheme.specs.Context.{is_own}
use Rattle.ob_scheme.specs.Numbers.{same_type, number_among, with_one}
use Rattle.ob_scheme.specs.Object.{own, base_type, base_in, record_in, records_in, with_base, with_record, with_bases, all_named, type_links}
use Rattle.law_simulation_relation.proofs.Names.{name_true, name_same}
use Rattle.law_image_tables.specs.Declared.{base_of, typed, IsBefore, HasItsBase, past, BasesDeclared}

-- LINKS: where the first of a name stands

abbrev pub IsLink : List QName → QName → Type 0
IsLink l q = slice_get l (number_among same_type l q) ≡ Some q

link_one : (l : List QName) (q : QName) → IsLink (with_one same_type l q) q
link_one [] q = ap (λ b. slice_get (q ∷ []) (if b then 0 else 1)) (name_same q)
link_one (y ∷ l) q = go (same_type q y) refl (link_one l q)
  where
    go : (b : Bool) → same_type q y ≡ b → IsLink (with_one same_type l q) q → IsLink (if b then y ∷ l else y ∷ with_one same_type l q) q
    go true e more = ap (λ b. slice_get (y ∷ l) (if b then 0 else suc (number_among same_type l q))) e ∙ ap (λ z. Some z) (sym (name_true q y e))
    go false e more = ap (λ b. slice_get (y ∷ with_one same_type l q) (if b then 0 else suc (number_among same_type (with_one same_type l q) q))) e ∙ more

link_stays : (l : List QName) (p q : QName) → IsLink l q → IsLink (with_one same_type l p) q
link_stays [] p q i = absurd (cc)
link_stays (y ∷ l) p q i = go (same_type q y) refl (same_type p y) i (λ j. link_stays l p q j)
  where
    go : (b : Bool) → same_type q y ≡ b → (z : Bool) → slice_get (y ∷ l) (if b then 0 else suc (number_among same_type l q)) ≡ Some q → (IsLink l q → IsLink (with_one same_type l p) q) → IsLink (if z then y ∷ l else y ∷ with_one same_type l p) q
    go true e true i more = ap (λ b. slice_get (y ∷ l) (if b then 0 else suc (number_among same_type l q))) e ∙ i
    go true e false i more = ap (λ b. slice_get (y ∷ with_one same_type l p) (if b then 0 else suc (number_among same_type (with_one same_type l p) q))) e ∙ i
    go false e true i more = ap (λ b. slice_get (y ∷ l) (if b then 0 else suc (number_among same_type l q))) e ∙ i
    go false e false i more = ap (λ b. slice_get (y ∷ with_one same_type l p) (if b then 0 else suc (number_among same_type (with_one same_type l p) q))) e ∙ more i

module _ (types : QName → Option Desc) (md : Module) where
  base_stays : (l : List QName) (o : Option QName) (q : QName) → IsLink l q → IsLink (with_base types md l o) q
  base_stays l None q i = i
  base_stays l (Some p) q i = go (is_own (own types md) p.«module»)
    where
      go : (b : Bool) → IsLink (if b then l else with_one same_type l p) q
      go true = i
      go false = link_stays l p q i

  record_stays : (l : List QName) (d : Desc) (q : QName) → IsLink l q → IsLink (with_record types md l d) q
  record_stays l (desc.Record r) q i = base_stays l (base_type types md r.base) q i
  record_stays l d q i = i

  bases_stay : (l : List QName) (ts : List TypedType) (q : QName) → IsLink l q → IsLink (with_bases types md l ts) q
  bases_stay l [] q i = i
  bases_stay l (t ∷ ts) q i = bases_stay (with_record types md l t.desc) ts q (record_stays l t.desc q i)

  -- a base of another module is linked
  abbrev pub IsLinked : List QName → Option QName → Type 0
  IsLinked l None = Unit {0}
  IsLinked l (Some q) = is_own (own types md) q.«module» ≡ false → IsLink l q

  abbrev BaseLinked : List QName → Desc → Type 0
  BaseLinked l (desc.Record r) = IsLinked l (base_type types md r.base)
  BaseLinked l d = Unit {0}

  abbrev AllLinked : List QName → List TypedType → Type 0
  AllLinked l [] = Unit {0}
  AllLinked l (t ∷ ts) = BaseLinked l t.desc × AllLinked l ts

  base_linked : (l : List QName) (o : Option QName) (ts : List TypedType) → IsLinked (with_bases types md (with_base types md l o) ts) o
  base_linked l None ts = tt
  base_linked l (Some q) ts = λ e. bases_stay (with_base types md l (Some q)) ts q (subst (λ b. IsLink (if b then l else with_one same_type l q) q) (sym e) (link_one l q))

  desc_linked : (l : List QName) (d : Desc) (ts : List TypedType) → BaseLinked (with_bases types md (with_record types md l d) ts) d
  desc_linked l (desc.Record r) ts = base_linked l (base_type types md r.base) ts
  desc_linked l d ts = tt

  all_linked : (l : List QName) (ts : List TypedType) → AllLinked (with_bases types md l ts) ts
  all_linked l [] = tt
  all_linked l (t ∷ ts) = (desc_linked l t.desc ts, all_linked (with_record types md l t.desc) ts)

  -- THE RECORD TYPES OF THE FILE

  module _ (program : Program) (links : List QName) where
    abbrev pub IsBased : List ℕ → RecordType → ℕ → Type 0
    IsBased x t i = (t.base ≡ base_in types md links (base_of program (typed md.name x))) × (IsBefore program types md i (base_of program (typed md.name x)) × IsLinked links (base_of program (typed md.name x)))

    abbrev pub RecordsBased : List RecordType → ℕ → Type 0
    RecordsBased [] i = Unit {0}
    RecordsBased (t ∷ own) i = IsBased t.name t i × RecordsBased own (suc i)

    of_desc : (x : List ℕ) (d : Desc) (i : ℕ) (more : List RecordType) → HasItsBase program types md x d i → BaseLinked links d → RecordsBased more (past program types md d i) → RecordsBased (record_in types md links x d ++ more) i
    of_desc x (desc.Record r) i more h k m = ((ap (base_in types md links) h.0, (h.1, subst (IsLinked links) h.0 k)), m)
    of_desc x d i more h k m = m

    of_types : (ts : List TypedType) (i : ℕ) → BasesDeclared program types md ts i → AllLinked links ts → RecordsBased (records_in types md links ts) i
    of_types [] i h k = tt
    of_types (t ∷ ts) i h k = of_desc t.name t.desc i (records_in types md links ts) h.0 k.0 (of_types ts (past program types md t.desc i) h.1 k.1)

  pub file_based : (program : Program) → BasesDeclared program types md md.types 0 → RecordsBased program (type_links types md) (records_in types md (type_links types md) md.types) 0
  file_based program h = of_types program (type_links types md) md.types 0 h (all_linked (all_named types md).types md.types)
