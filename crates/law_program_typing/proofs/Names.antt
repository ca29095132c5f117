-- The names of a sound program, as the code of a procedure looks them up.
use Rattle.std.proofs.Common.{◌≡◌, ◌≢◌, ◌⊎◌, ⊎_elim, inl, inr, refl, sym, ap, subst, ◌∙◌, ℕ, zero, suc, Bool, true, false, List, [], ◌∷◌, Option, Some, None}
use Rattle.std.specs.Prelude.{bytes_eq, ◌&&◌, if◌then◌else◌}
use Rattle.std.specs.List.{AllByRecursion}
use Rattle.ob_tree.specs.declared.names.QName.{QName}
use Rattle.ob_types.specs.declared.types.Basic.TheVariants as basic
use Rattle.ob_types.specs.declared.types.TypeRef.{TypeRef}
use Rattle.ob_types.specs.declared.types.TypeRef.TheVariants as ref
use Rattle.ob_types.specs.declared.desc.Desc.{Desc}
use Rattle.ob_types.specs.declared.desc.Desc.TheVariants as desc
use Rattle.ob_types.specs.declared.desc.Field.{Field}
use Rattle.ob_types.specs.declared.desc.RecordDesc.{RecordDesc}
use Rattle.ob_types.specs.declared.typed.TypedType.{TypedType}
use Rattle.ob_types.specs.AssigningTests.{is_value}
use Rattle.ob_types.specs.Maps.{IsWithin, stands_on}
use Rattle.ob_types.specs.TypedSyntax.{Procedure, Module}
use Rattle.ob_meaning.specs.Values.{same_name, Program, Form, BasicForm, RecordForm, Fields, NoField, AField, Formals, joined, fields_of, own_fields, base_fields, described, form_within, form_in, record_in, number_of_types, description, type_named, procedure_named, procedure_of}
use Rattle.ob_scheme.specs.Context.{Context, is_record, records_among}
use Rattle.ob_scheme.specs.Procedures.{within}
use Rattle.law_simulation_relation.specs.Relation.{OrElse, FieldIn}
use Rattle.law_simulation_relation.proofs.Names.{bytes_true, bytes_same, name_true}
use Rattle.law_image_code.specs.Fits.{IsKnown, IsNamed, AmongTypes, IsRecordType}
use Rattle.law_image_code.specs.Laws.{NamesStand}
use Rattle.law_typing_forms.specs.Said.{IsOneOf, IsSound}
use Rattle.law_typing_forms.specs.Whole.{Different, IsWhole}
use Rattle.law_typing_forms.proofs.Modules.{of_all, other_name}
use Rattle.law_typing_forms.proofs.Shapes.{basic_is}
use Rattle.law_typing_forms.proofs.Within.{parts_within, nowhere, none_within, form_described}
use Rattle.law_image_tables.proofs.Declared.{declared_record}
use Rattle.law_image_tables.proofs.Settled.{no_line}
use Rattle.law_typing_values.specs.Valued.{fits, values}

and_both : (a b : Bool) → a && b ≡ true → b ≡ true
and_both true b e = e
and_both false b e = absurd cc

-- ---- record types are among those of their module

among : (ts : List TypedType) (x : List ℕ) (r : RecordDesc) → type_named ts x ≡ Some (desc.Record r) → AmongTypes (records_among ts) x
among [] x r e = absurd cc
among (t ∷ ts) x r e = by (bytes_eq x t.name) refl (is_record t.desc) refl e (among ts x r)
  where
    by : (b : Bool) → bytes_eq x t.name ≡ b → (c : Bool) → is_record t.desc ≡ c → (if b then Some t.desc else type_named ts x) ≡ Some (desc.Record r) → (type_named ts x ≡ Some (desc.Record r) → AmongTypes (records_among ts) x) → AmongTypes (if c then t ∷ records_among ts else records_among ts) x
    by true f true g e up = subst (λ b. OrElse b (Unit {0}) (AmongTypes (records_among ts) x)) (sym f) tt
    by true f false g e up = let is : t.desc ≡ desc.Record r = cc in let bad : true ≡ false = sym (ap is_record is) ∙ g in absurd cc
    by false f true g e up = subst (λ b. OrElse b (Unit {0}) (AmongTypes (records_among ts) x)) (sym f) (up e)
    by false f false g e up = up e

description_in : (ms : List Module) → Different (λ (m : Module). m.name) ms → (md : Module) → IsOneOf ms md → (q : QName) → q.«module» ≡ md.name → description ms q ≡ type_named md.types q.object
description_in [] d md i q e = absurd i
description_in (m ∷ ms) d md (inl i) q e = ap (λ b. if b then type_named m.types q.object else description ms q) (ap (λ x. bytes_eq x m.name) (e ∙ sym (ap (λ (k : Module). k.name) i)) ∙ bytes_same m.name) ∙ ap (λ (k : Module). type_named k.types q.object) i
description_in (m ∷ ms) d md (inr i) q e = ap (λ b. if b then type_named m.types q.object else description ms q) (other_name q.«module» m.name (λ f. of_all (λ (y : Module). y.name ≢ m.name) ms md d.0 i (sym e ∙ f))) ∙ description_in ms d.1 md i q e

-- ---- fields

in_joined : (fs gs : Fields) (o : QName) (x : List ℕ) → FieldIn (joined fs gs) o x → FieldIn fs o x ⊎ FieldIn gs o x
in_joined NoField gs o x h = inr h
in_joined (AField owner name t fs) gs o x h = by (bytes_eq x name && same_name o owner) h (in_joined fs gs o x)
  where
    by : (b : Bool) → OrElse b (Unit {0}) (FieldIn (joined fs gs) o x) → (FieldIn (joined fs gs) o x → FieldIn fs o x ⊎ FieldIn gs o x) → OrElse b (Unit {0}) (FieldIn fs o x) ⊎ FieldIn gs o x
    by true h up = inl tt
    by false h up = up h

own_owner : (form : TypeRef → Form) (q : QName) (fs : List Field) (o : QName) (x : List ℕ) → FieldIn (own_fields form q fs) o x → o ≡ q
own_owner form q [] o x h = absurd h
own_owner form q (f ∷ fs) o x h = by (bytes_eq x f.name && same_name o q) refl h (own_owner form q fs o x)
  where
    by : (b : Bool) → (bytes_eq x f.name && same_name o q) ≡ b → OrElse b (Unit {0}) (FieldIn (own_fields form q fs) o x) → (FieldIn (own_fields form q fs) o x → o ≡ q) → o ≡ q
    by true e h up = name_true o q (and_both (bytes_eq x f.name) (same_name o q) e)
    by false e h up = up h

pub nothing_form : (types : QName → Option Desc) (n : ℕ) (q : QName) → types q ≡ None → form_within types n (ref.Named q) ≡ BasicForm basic.Boolean
nothing_form types zero q e = refl
nothing_form types (suc n) q e = ap (λ o. described (form_within types n) q o) e

-- ---- procedures

procedure_is : (ps : List Procedure) (x : List ℕ) (p : Procedure) → AllByRecursion (λ (p : Procedure). IsNamed p.name) ps → procedure_named ps x ≡ Some p → IsNamed x
procedure_is [] x p h e = absurd cc
procedure_is (k ∷ ps) x p h e = by (bytes_eq x k.name) refl e (procedure_is ps x p h.1)
  where
    by : (b : Bool) → bytes_eq x k.name ≡ b → (if b then Some k else procedure_named ps x) ≡ Some p → (procedure_named ps x ≡ Some p → IsNamed x) → IsNamed x
    by true f e up = subst IsNamed (sym (bytes_true x k.name f)) h.0
    by false f e up = up e

-- the procedures of the modules have names
abbrev pub AllNamed : List Module → Type 0
AllNamed ms = AllByRecursion (λ (m : Module). AllByRecursion (λ (p : Procedure). IsNamed p.name) m.procedures) ms

named_in : (ms : List Module) → AllNamed ms → (q : QName) (p : Procedure) → procedure_of ms q ≡ Some p → IsNamed q.object
named_in [] h q p e = absurd cc
named_in (m ∷ ms) h q p e = by (bytes_eq q.«module» m.name) e (named_in ms h.1 q p)
  where
    by : (b : Bool) → (if b then procedure_named m.procedures q.object else procedure_of ms q) ≡ Some p → (procedure_of ms q ≡ Some p → IsNamed q.object) → IsNamed q.object
    by true e up = procedure_is m.procedures q.object p h.0 e
    by false e up = up e

module _ (program : Program) (sound : IsSound program) (whole : IsWhole program) where
  abbrev D : QName → Option Desc
  D = description program

  abbrev In : QName → List ℕ → TypeRef → Type 0
  In o x t = FieldIn (fields_of (form_in program t)) o x

  owner_at : (n : ℕ) (q : QName) (d : Desc) → record_in program q ≡ described (form_in program) q (Some d) → AllByRecursion (λ t. IsWithin D n t) (stands_on d) → (o : QName) (x : List ℕ) → In o x (ref.Named q) → ((t : TypeRef) → IsWithin D n t → In o x t → In o x (ref.Named o)) → In o x (ref.Named o)
  owner_at n q (desc.Alias m t) f p o x h up = up t p.0 (subst (λ z. FieldIn (fields_of z) o x) f h)
  owner_at n q (desc.Record r) f p o x h up = ⊎_elim (based r.base p) (λ k. subst (λ (z : QName). FieldIn (fields_of (record_in program z)) o x) (sym (own_owner (form_in program) q r.fields o x k)) h) (in_joined (base_fields (form_in program) r.base) (own_fields (form_in program) q r.fields) o x (subst (λ z. FieldIn (fields_of z) o x) f h))
    where
      based : (b : Option TypeRef) → AllByRecursion (λ t. IsWithin D n t) (stands_on (desc.Record (record r { base = b }))) → FieldIn (base_fields (form_in program) b) o x → In o x (ref.Named o)
      based None p k = absurd k
      based (Some t) p k = up t p.0 k
  owner_at n q (desc.Const v) f p o x h up = absurd (subst (λ z. FieldIn (fields_of z) o x) f h)
  owner_at n q (desc.Var m t) f p o x h up = absurd (subst (λ z. FieldIn (fields_of z) o x) f h)
  owner_at n q (desc.Proc s) f p o x h up = absurd (subst (λ z. FieldIn (fields_of z) o x) f h)
  owner_at n q (desc.Array m l t) f p o x h up = absurd (subst (λ z. FieldIn (fields_of z) o x) f h)
  owner_at n q (desc.OpenArray m t) f p o x h up = absurd (subst (λ z. FieldIn (fields_of z) o x) f h)
  owner_at n q (desc.Pointer m t) f p o x h up = absurd (subst (λ z. FieldIn (fields_of z) o x) f h)
  owner_at n q (desc.ProcType m s) f p o x h up = absurd (subst (λ z. FieldIn (fields_of z) o x) f h)

  -- a field is where the type that declares it has it
  owner_within : (n : ℕ) (t : TypeRef) → IsWithin D n t → (o : QName) (x : List ℕ) → In o x t → In o x (ref.Named o)
  owner_within n (ref.Basic b) w o x h = absurd (subst (λ z. FieldIn (fields_of z) o x) (basic_is program b) h)
  owner_within zero (ref.Named q) w o x h = absurd (nowhere D q w)
  owner_within (suc n) (ref.Named q) w o x h = by (D q) refl (λ t v k. owner_within n t v o x k)
    where
      by : (d : Option Desc) → D q ≡ d → ((t : TypeRef) → IsWithin D n t → In o x t → In o x (ref.Named o)) → In o x (ref.Named o)
      by None e up = absurd (none_within D n q e w)
      by (Some d) e up = owner_at n q d (form_described program sound q d e) (parts_within D n q d e w) o x h up

  owner_has : (t : TypeRef) (o : QName) (x : List ℕ) → In o x t → In o x (ref.Named o)
  owner_has (ref.Basic b) o x h = absurd (subst (λ z. FieldIn (fields_of z) o x) (basic_is program b) h)
  owner_has (ref.Named q) o x h = by (D q) refl
    where
      by : (d : Option Desc) → D q ≡ d → In o x (ref.Named o)
      by None e = absurd (subst (λ z. FieldIn (fields_of z) o x) (nothing_form D (number_of_types program) q e) h)
      by (Some d) e = let w = sound.ends q d e in owner_within w.0 (ref.Named q) w.1 o x h

  module _ (named : AllNamed program) (types : QName → Option Desc) (md : Module) (there : IsOneOf program md) (p : Procedure) where
    abbrev C : Context
    C = within types md p

    known : (q : QName) (r : RecordDesc) → D q ≡ Some (desc.Record r) → IsKnown C q
    known q r e = by (bytes_eq q.«module» md.name) refl
      where
        by : (b : Bool) → bytes_eq q.«module» md.name ≡ b → OrElse b (AmongTypes (records_among md.types) q.object) (Unit {0})
        by true f = among md.types q.object r (sym (description_in program whole.names md there q (bytes_true q.«module» md.name f)) ∙ e)
        by false f = tt

    first_known : (t : TypeRef) (l : List QName) → form_in program t ≡ RecordForm l (fields_of (form_in program t)) → IsRecordType program C t
    first_known t [] e = absurd (no_line D (number_of_types program) t (fields_of (form_in program t)) e)
    first_known t (q ∷ line) e = let d = declared_record D (number_of_types program) t q line (fields_of (form_in program t)) e in (q, line, fields_of (form_in program t), e, known q d.0 d.1)

    value_named : (fs : Formals) (q : QName) → values program fs q ≡ true → IsNamed q.object
    value_named fs q e = by (procedure_of program q) refl (and_both (is_value q) (fits program fs (procedure_of program q)) e)
      where
        by : (o : Option Procedure) → procedure_of program q ≡ o → fits program fs o ≡ true → IsNamed q.object
        by None f e = absurd cc
        by (Some k) f e = named_in program named q k f

    pub names_stand : NamesStand program (values program) C
    names_stand = record {
      known = λ q h. let d = declared_record D (number_of_types program) (ref.Named q) q h.0 (fields_of (record_in program q)) h.1 in known q d.0 d.1;
      named = λ t h. first_known t h.0 h.1;
      fields = owner_has;
      procedures = λ q k e. named_in program named q k e;
      values = value_named;
    }
