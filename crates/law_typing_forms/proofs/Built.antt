-- The types that a sound program declares are built as types are.
use Rattle.std.proofs.Common.{◌≡◌, ◌≢◌, ◌⊎◌, ⊎_elim, inl, inr, ℕ, zero, suc, List, [], ◌∷◌, map as each, Option, Some, None, refl, sym, ap, subst, ◌∙◌}
use Rattle.std.specs.Prelude.{Bool, true, false, ◌&&◌, bytes_eq, MatchOption, IfSome, IsTrue}
use Rattle.std.specs.List.{AllByRecursion}
use Rattle.ob_tree.specs.declared.names.QName.{QName}
use Rattle.ob_tree.specs.declared.ident.Mark.{Mark}
use Rattle.ob_types.specs.declared.types.TypeRef.{TypeRef}
use Rattle.ob_types.specs.declared.types.TypeRef.TheVariants as ref
use Rattle.ob_types.specs.declared.desc.Desc.{Desc}
use Rattle.ob_types.specs.declared.desc.Desc.TheVariants as desc
use Rattle.ob_types.specs.declared.desc.RecordDesc.{RecordDesc}
use Rattle.ob_types.specs.declared.desc.Field.{Field}
use Rattle.ob_types.specs.Maps.{listed, IsWithin}
use Rattle.ob_types.specs.Relations.{is_alias, StandsFor, itself, equated, Is, is_record, is_open}
use Rattle.ob_types.proofs.Targets.{unique, more}
use Rattle.ob_meaning.specs.Values.{same_name, Program, Form, BasicForm, PointerForm, ProcedureForm, ArrayForm, OpenForm, RecordForm, Fields, NoField, AField, joined, own_fields, base_line, base_fields, fields_of, described, form_in, record_in, description, number_of_types}
use Rattle.law_simulation_relation.specs.Relation.{FormOk, FieldsOk, FreshField}
use Rattle.law_simulation_relation.specs.Typed.{IsRecordForm}
use Rattle.law_simulation_relation.proofs.Names.{bytes_true, name_true}
use Rattle.law_typing_forms.proofs.Chains.{chains}
use Rattle.law_typing_forms.specs.Said.{IsSound, IsFreshName, HaveNames}
use Rattle.law_typing_forms.proofs.Within.{form_described, parts_within, nowhere, none_within}
use Rattle.law_typing_forms.proofs.Shapes.{basic_is}
use Rattle.law_lists.proofs.Lists.{all_back, all_front, and_left, and_right, false_if_not}

-- OWNERS

-- a field that the type declares is among them
abbrev pub OwnerIn : QName → Fields → Type 0
OwnerIn o NoField = ⊥
OwnerIn o (AField p x t fs) = (o ≡ p) ⊎ OwnerIn o fs

owner_either : (o : QName) (fs gs : Fields) → OwnerIn o (joined fs gs) → OwnerIn o fs ⊎ OwnerIn o gs
owner_either o NoField gs h = inr h
owner_either o (AField p x t fs) gs h = ⊎_elim (λ e. inl (inl e)) (λ k. ⊎_elim (λ i. inl (inr i)) (λ i. inr i) (owner_either o fs gs k)) h

own_owner : (form : TypeRef → Form) (o q : QName) (fs : List Field) → OwnerIn o (own_fields form q fs) → o ≡ q
own_owner form o q [] h = absurd h
own_owner form o q (f ∷ fs) h = ⊎_elim (λ e. e) (λ k. own_owner form o q fs k) h

-- FRESH FIELDS

fresh_joined : (o : QName) (x : List ℕ) (fs gs : Fields) → FreshField o x fs → FreshField o x gs → FreshField o x (joined fs gs)
fresh_joined o x NoField gs h k = k
fresh_joined o x (AField p y t fs) gs h k = (h.0, fresh_joined o x fs gs h.1 k)

fresh_other : (form : TypeRef → Form) (o q : QName) (x : List ℕ) (fs : List Field) → o ≢ q → FreshField o x (own_fields form q fs)
fresh_other form o q x [] n = tt
fresh_other form o q x (f ∷ fs) n = (false_if_not (bytes_eq x f.name && same_name o q) (λ e. n (name_true o q (and_right (bytes_eq x f.name) (same_name o q) e))), fresh_other form o q x fs n)

fresh_own : (form : TypeRef → Form) (q : QName) (x : List ℕ) (fs : List Field) → IsFreshName x fs → FreshField q x (own_fields form q fs)
fresh_own form q x [] h = tt
fresh_own form q x (f ∷ fs) h = (false_if_not (bytes_eq x f.name && same_name q q) (λ e. h.0 (bytes_true x f.name (and_left (bytes_eq x f.name) (same_name q q) e))), fresh_own form q x fs h.1)

module _ (program : Program) where
  own_ok : (q : QName) (fs : List Field) → HaveNames fs → AllByRecursion (λ f. FormOk program (form_in program f.of)) fs → FieldsOk program (own_fields (form_in program) q fs)
  own_ok q [] names h = tt
  own_ok q (f ∷ fs) names h = (fresh_own (form_in program) q f.name fs names.0, (h.0, own_ok q fs names.1 h.1))

  joined_ok : (q : QName) (bs : Fields) (fs : List Field) → FieldsOk program bs → FieldsOk program (own_fields (form_in program) q fs) → (OwnerIn q bs → ⊥) → FieldsOk program (joined bs (own_fields (form_in program) q fs))
  joined_ok q NoField fs h k never = k
  joined_ok q (AField o x t bs) fs h k never = (fresh_joined o x bs (own_fields (form_in program) q fs) h.0 (fresh_other (form_in program) o q x fs (λ e. never (inl (sym e)))), (h.1.0, joined_ok q bs fs h.1.1 k (λ i. never (inr i))))

  fields_ok : (t : Form) → FormOk program t → FieldsOk program (fields_of t)
  fields_ok (BasicForm b) h = tt
  fields_ok (PointerForm t) h = tt
  fields_ok (ProcedureForm s) h = tt
  fields_ok (ArrayForm n t) h = tt
  fields_ok (OpenForm t) h = tt
  fields_ok (RecordForm [] fs) h = absurd h
  fields_ok (RecordForm (q ∷ line) fs) h = h.1

module _ (program : Program) (sound : IsSound program) where
  abbrev form : TypeRef → Form
  form = form_in program

  abbrev types : QName → Option Desc
  types = description program

  -- BY DECLARATIONS

  pub declared_stands : {t u : TypeRef} → StandsFor types t u → form t ≡ form u
  declared_stands (itself own) = refl
  declared_stands (equated {q = q} {m = m} {t = t} e s) = form_described program sound q (desc.Alias m t) e ∙ declared_stands s

  -- a type of that kind
  pub record Found (kind : Desc → Bool) (t : TypeRef) : Type 0 where
    pub q : QName
    pub d : Desc
    pub stands : StandsFor types t (ref.Named q)
    pub has : types q ≡ Some d
    pub is : kind d ≡ true

  found_at : (kind : Desc → Bool) (t : TypeRef) (q : QName) → StandsFor types t (ref.Named q) → (o : Option Desc) → types q ≡ o → MatchOption o ⊥ (λ d. IsTrue (kind d)) → Found kind t
  found_at kind t q s None e h = absurd h
  found_at kind t q s (Some d) e h = record { q = q; d = d; stands = s; has = e; is = h }

  pub found : (kind : Desc → Bool) (t : TypeRef) → Is types kind t → Found kind t
  found kind t h = found_at kind t h.0 h.1.0 (types h.0) refl h.1.1

  record_not_open : (d : Desc) → is_record d ≡ true → is_open d ≡ true → ⊥
  record_not_open (desc.Const v) a b = absurd cc
  record_not_open (desc.Var m t) a b = absurd cc
  record_not_open (desc.Proc s) a b = absurd cc
  record_not_open (desc.Alias m t) a b = absurd cc
  record_not_open (desc.Array m n t) a b = absurd cc
  record_not_open (desc.OpenArray m t) a b = absurd cc
  record_not_open (desc.Pointer m t) a b = absurd cc
  record_not_open (desc.ProcType m s) a b = absurd cc
  record_not_open (desc.Record r) a b = absurd cc

  not_open : (t : TypeRef) → Is types is_record t → Is types is_open t → ⊥
  not_open t a b =
      let x = found is_record t a in
      let y = found is_open t b in
      let same : ref.Named x.q ≡ ref.Named y.q = unique types x.stands y.stands in
      let q : x.q ≡ y.q = cc in
      let d : Some x.d ≡ Some y.d = sym x.has ∙ ap types q ∙ y.has in
      let e : x.d ≡ y.d = cc in
      record_not_open x.d x.is (ap is_open e ∙ y.is)

  of_record : (t : TypeRef) (q : QName) (d : Desc) → StandsFor types t (ref.Named q) → types q ≡ Some d → is_record d ≡ true → IsRecordForm (form t)
  of_record t q (desc.Record r) s e h =
      let k : form t ≡ RecordForm (q ∷ base_line form r.base) (joined (base_fields form r.base) (own_fields form q r.fields)) = declared_stands s ∙ form_described program sound q (desc.Record r) e in
      (q ∷ base_line form r.base, k ∙ ap (λ fs. RecordForm (q ∷ base_line form r.base) fs) (sym (ap fields_of k)))
  of_record t q (desc.Const v) s e h = absurd cc
  of_record t q (desc.Var m u) s e h = absurd cc
  of_record t q (desc.Proc g) s e h = absurd cc
  of_record t q (desc.Alias m u) s e h = absurd cc
  of_record t q (desc.Array m n u) s e h = absurd cc
  of_record t q (desc.OpenArray m u) s e h = absurd cc
  of_record t q (desc.Pointer m u) s e h = absurd cc
  of_record t q (desc.ProcType m g) s e h = absurd cc

  pub record_base : (t : TypeRef) → Is types is_record t → IsRecordForm (form t)
  record_base t h = let x = found is_record t h in of_record t x.q x.d x.stands x.has x.is

  -- OWNERS ARE BASES

  owner_within : (n : ℕ) (t : TypeRef) (o : QName) → IsWithin types n t → OwnerIn o (fields_of (form t)) → IsWithin types n (ref.Named o)
  owner_within n (ref.Basic b) o h i = absurd (subst (λ f. OwnerIn o (fields_of f)) (basic_is program b) i)
  owner_within zero (ref.Named q) o h i = absurd (nowhere types q h)
  owner_within (suc n) (ref.Named q) o h i = by (types q) refl (λ t h i. owner_within n t o h i)
    where
      at : (d : Desc) → types q ≡ Some d → OwnerIn o (fields_of (described form q (Some d)))
      at d e = subst (λ f. OwnerIn o (fields_of f)) (form_described program sound q d e) i

      base : (b : Option TypeRef) → AllByRecursion (λ t. IsWithin types n t) (listed b) → OwnerIn o (base_fields form b) → ((t : TypeRef) → IsWithin types n t → OwnerIn o (fields_of (form t)) → IsWithin types n (ref.Named o)) → IsWithin types n (ref.Named o)
      base None w i r = absurd i
      base (Some c) w i r = r c w.0 i

      by : (d : Option Desc) → types q ≡ d → ((t : TypeRef) → IsWithin types n t → OwnerIn o (fields_of (form t)) → IsWithin types n (ref.Named o)) → IsWithin types (suc n) (ref.Named o)
      by None e r = absurd (none_within types n q e h)
      by (Some (desc.Const v)) e r = absurd (at (desc.Const v) e)
      by (Some (desc.Var m t)) e r = absurd (at (desc.Var m t) e)
      by (Some (desc.Proc s)) e r = absurd (at (desc.Proc s) e)
      by (Some (desc.Alias m t)) e r = more types n (ref.Named o) (r t (parts_within types n q (desc.Alias m t) e h).0 (at (desc.Alias m t) e))
      by (Some (desc.Array m k t)) e r = absurd (at (desc.Array m k t) e)
      by (Some (desc.OpenArray m t)) e r = absurd (at (desc.OpenArray m t) e)
      by (Some (desc.Pointer m t)) e r = absurd (at (desc.Pointer m t) e)
      by (Some (desc.ProcType m s)) e r = absurd (at (desc.ProcType m s) e)
      by (Some (desc.Record s)) e r =
          ⊎_elim (λ i. more types n (ref.Named o) (base s.base (all_front (λ t. IsWithin types n t) (listed s.base) (each (λ f. f.of) s.fields) (parts_within types n q (desc.Record s) e h)) i r))
          (λ i. subst (λ x. IsWithin types (suc n) (ref.Named x)) (sym (own_owner form o q s.fields i)) h)
          (owner_either o (base_fields form s.base) (own_fields form q s.fields) (at (desc.Record s) e))

  -- no record type is a base of itself
  no_cycle : (n : ℕ) (q : QName) (r : RecordDesc) → types q ≡ Some (desc.Record r) → IsWithin types n (ref.Named q) → OwnerIn q (base_fields form r.base) → ⊥
  no_cycle zero q r e h i = nowhere types q h
  no_cycle (suc n) q r e h i = by r.base (all_front (λ t. IsWithin types n t) (listed r.base) (each (λ f. f.of) r.fields) (parts_within types n q (desc.Record r) e h)) i (λ h. no_cycle n q r e h i)
    where
      by : (b : Option TypeRef) → AllByRecursion (λ t. IsWithin types n t) (listed b) → OwnerIn q (base_fields form b) → (IsWithin types n (ref.Named q) → ⊥) → ⊥
      by None w i k = absurd i
      by (Some c) w i k = k (owner_within n c q w.0 i)

  pub base_apart : (q : QName) (r : RecordDesc) → types q ≡ Some (desc.Record r) → OwnerIn q (base_fields form r.base) → ⊥
  base_apart q r e i = no_cycle (number_of_types program) q r e (chains program sound q (desc.Record r) e) i

  -- an alias is no owner of fields
  alias_cycle : (n : ℕ) (q : QName) (m : Mark) (t : TypeRef) → types q ≡ Some (desc.Alias m t) → IsWithin types n (ref.Named q) → OwnerIn q (fields_of (form t)) → ⊥
  alias_cycle zero q m t e h i = nowhere types q h
  alias_cycle (suc n) q m t e h i = alias_cycle n q m t e (owner_within n t q (parts_within types n q (desc.Alias m t) e h).0 i) i

  pub alias_apart : (q : QName) (m : Mark) (t : TypeRef) → types q ≡ Some (desc.Alias m t) → OwnerIn q (fields_of (form t)) → ⊥
  alias_apart q m t e i = alias_cycle (number_of_types program) q m t e (chains program sound q (desc.Alias m t) e) i

  -- TYPES ARE BUILT AS TYPES ARE

  fields_each : (n : ℕ) (fs : List Field) → AllByRecursion (λ t. IsWithin types n t) (each (λ f. f.of) fs) → AllByRecursion (λ f. Is types is_open f.of → ⊥) fs → ((t : TypeRef) → IsWithin types n t → (Is types is_open t → ⊥) → FormOk program (form t)) → AllByRecursion (λ f. FormOk program (form f.of)) fs
  fields_each n [] w k r = tt
  fields_each n (f ∷ fs) w k r = (r f.of w.0 k.0, fields_each n fs w.1 k.1 r)

  base_ok : (n : ℕ) (b : Option TypeRef) → AllByRecursion (λ t. IsWithin types n t) (listed b) → IfSome b (Is types is_record) → ((t : TypeRef) → IsWithin types n t → (Is types is_open t → ⊥) → FormOk program (form t)) → FieldsOk program (base_fields form b)
  base_ok n None w k r = tt
  base_ok n (Some c) w k r = fields_ok program (form c) (r c w.0 (not_open c k))

  pub built : (n : ℕ) (t : TypeRef) → IsWithin types n t → (Is types is_open t → ⊥) → FormOk program (form t)
  built n (ref.Basic b) h never = subst (FormOk program) (sym (basic_is program b)) tt
  built zero (ref.Named q) h never = absurd (nowhere types q h)
  built (suc n) (ref.Named q) h never = by (types q) refl (λ t h k. built n t h k)
    where
      so : (d : Desc) → types q ≡ Some d → FormOk program (described form q (Some d)) → FormOk program (record_in program q)
      so d e k = subst (FormOk program) (sym (form_described program sound q d e)) k

      by : (o : Option Desc) → types q ≡ o → ((t : TypeRef) → IsWithin types n t → (Is types is_open t → ⊥) → FormOk program (form t)) → FormOk program (record_in program q)
      by None e r = absurd (none_within types n q e h)
      by (Some (desc.Const v)) e r = so (desc.Const v) e tt
      by (Some (desc.Var m t)) e r = so (desc.Var m t) e tt
      by (Some (desc.Proc s)) e r = so (desc.Proc s) e tt
      by (Some (desc.Alias m t)) e r = so (desc.Alias m t) e (r t (parts_within types n q (desc.Alias m t) e h).0 (sound.keeps q (desc.Alias m t) e))
      by (Some (desc.Array m k t)) e r = so (desc.Array m k t) e (sound.lengths q m k t e, r t (parts_within types n q (desc.Array m k t) e h).0 (sound.keeps q (desc.Array m k t) e))
      by (Some (desc.OpenArray m t)) e r = absurd (never (q, (itself (subst (λ o. MatchOption o (Unit {0}) (λ d. is_alias d ≡ false)) (sym e) refl), subst (λ o. MatchOption o ⊥ (λ d. IsTrue (is_open d))) (sym e) refl)))
      by (Some (desc.Pointer m t)) e r = so (desc.Pointer m t) e tt
      by (Some (desc.ProcType m s)) e r = so (desc.ProcType m s) e tt
      by (Some (desc.Record s)) e r =
          let parts = parts_within types n q (desc.Record s) e h in
          let keeps = sound.keeps q (desc.Record s) e in
          let bases = base_ok n s.base (all_front (λ t. IsWithin types n t) (listed s.base) (each (λ f. f.of) s.fields) parts) keeps.0 r in
          let own = own_ok program q s.fields (sound.fields q s e) (fields_each n s.fields (all_back (λ t. IsWithin types n t) (listed s.base) (each (λ f. f.of) s.fields) parts) keeps.1.0 r) in
          so (desc.Record s) e (form_described program sound q (desc.Record s) e, joined_ok program q (base_fields form s.base) s.fields bases own (base_apart q s e))
