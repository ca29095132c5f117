-- The members of a record type, as the program has them.
use Rattle.std.proofs.Common.{◌≡◌, ℕ, zero, suc, List, [], ◌∷◌, ◌++◌, map as each, Option, Some, None, refl, sym, ap, subst, ◌∙◌}
use Rattle.std.specs.Prelude.{Bool, true, false, bytes_eq, cond}
use Rattle.std.specs.List.{find, flat_map, AllByRecursion}
use Rattle.ob_tree.specs.declared.names.QName.{QName}
use Rattle.ob_types.specs.declared.types.TypeRef.{TypeRef}
use Rattle.ob_types.specs.declared.types.Signature.{Signature}
use Rattle.ob_types.specs.declared.desc.Desc.{Desc}
use Rattle.ob_types.specs.declared.desc.Desc.TheVariants as desc
use Rattle.ob_types.specs.declared.desc.RecordDesc.{RecordDesc}
use Rattle.ob_types.specs.declared.desc.Field.{Field}
use Rattle.ob_types.specs.declared.desc.Method.{Method}
use Rattle.ob_types.specs.Maps.{listed, signature_types}
use Rattle.ob_meaning.specs.Values.{Program, Form, BasicForm, PointerForm, ProcedureForm, ArrayForm, OpenForm, RecordForm, line_of, fields_of, FieldStep, bases_in, base_line, form_in, record_in, Formals, Held}
use Rattle.ob_meaning.specs.Meaning.{nearest, first_of_both}
use Rattle.law_simulation_relation.specs.Layout.{field_form}
use Rattle.law_simulation_relation.specs.Relation.{FieldIn, PathIn}
use Rattle.law_simulation_relation.specs.Typed.{FieldOk}
use Rattle.law_simulation_relation.proofs.Names.{bytes_true}
use Rattle.law_simulation_relation.proofs.Paths.{Same, sub_field}
use Rattle.ob_rules.specs.Shapes.{Member, AField, AMethod, field_or, own_member, base_type, base_record, record_if, or_in_base, member_within, member}
use Rattle.law_typing_forms.specs.Formed.{IsDeclared, IsFieldOf, IsMethodOf, introduced, Formed}
use Rattle.law_typing_forms.proofs.Shapes as shapes
use Rattle.law_typing_forms.proofs.Extending.{Above, above_same, above_on, base_above}
use Rattle.law_lists.proofs.Lists.{all_back, all_front, all_pairs}

-- what is found in a list holds what all hold, and passes the test
pub found : {A : Type 0} (P : A → Type 0) (test : A → Bool) (xs : List A) (y : A) → AllByRecursion P xs → find test xs ≡ Some y → P y × (test y ≡ true)
found P test [] y all e = absurd cc
found P test (x ∷ xs) y all e = by (test x) refl e (λ e. found P test xs y all.1 e)
  where
    by : (b : Bool) → test x ≡ b → cond b (Some x) (find test xs) ≡ Some y → (find test xs ≡ Some y → P y × (test y ≡ true)) → P y × (test y ≡ true)
    by true t e r = let h : x ≡ y = cc in (subst P h all.0, sym (ap test h) ∙ t)
    by false t e r = r e

fields_all : (P : TypeRef → Type 0) (fs : List Field) → AllByRecursion P (each (λ f. f.of) fs) → AllByRecursion (λ f. P f.of) fs
fields_all P [] h = tt
fields_all P (f ∷ fs) h = (h.0, fields_all P fs h.1)

methods_all : (P : TypeRef → Type 0) (ms : List Method) → AllByRecursion P (flat_map (λ m. signature_types m.signature) ms) → AllByRecursion (λ m. AllByRecursion P (signature_types m.signature)) ms
methods_all P [] h = tt
methods_all P (m ∷ ms) h = (all_front P (signature_types m.signature) (flat_map (λ m. signature_types m.signature) ms) h, methods_all P ms (all_back P (signature_types m.signature) (flat_map (λ m. signature_types m.signature) ms) h))

-- what has a field is a record
is_record : (t : Form) (o : QName) (x : List ℕ) → FieldIn (fields_of t) o x → t ≡ RecordForm (line_of t) (fields_of t)
is_record (BasicForm b) o x h = absurd h
is_record (PointerForm t) o x h = absurd h
is_record (ProcedureForm s) o x h = absurd h
is_record (ArrayForm n t) o x h = absurd h
is_record (OpenForm t) o x h = absurd h
is_record (RecordForm line fs) o x h = refl

in_fields : (t : Form) (o : QName) (x : List ℕ) → PathIn t (FieldStep o x ∷ []) → FieldIn (fields_of t) o x
in_fields (BasicForm b) o x h = absurd h
in_fields (PointerForm t) o x h = absurd h
in_fields (ProcedureForm s) o x h = absurd h
in_fields (ArrayForm n t) o x h = absurd h
in_fields (OpenForm t) o x h = absurd h
in_fields (RecordForm line fs) o x h = h.0

module _ (map : QName → Option Desc) (program : Program) (formed : Formed map program) where
  abbrev form : TypeRef → Form
  form = form_in program

  abbrev pub AreDeclared : Signature → Type 0
  AreDeclared s = AllByRecursion IsDeclared (signature_types s)

  -- the map has a record type of that name
  abbrev pub HasRecord : QName → Type 0
  HasRecord q = (r : RecordDesc) × (map q ≡ Some (desc.Record r))

  -- the field or the bound procedure of that name is there, of a type that the record extends
  abbrev pub MemberIs : QName → List ℕ → Member → Type 0
  MemberIs q x (AField o f) = Above (record_in program q) (record_in program o) × (IsFieldOf program o f × ((f.name ≡ x) × (IsDeclared f.of × HasRecord o)))
  MemberIs q x (AMethod o m) = Above (record_in program q) (record_in program o) × (IsMethodOf program o m × ((m.name ≡ x) × (AreDeclared m.signature × HasRecord o)))

  module _ (q : QName) (r : RecordDesc) (is : map q ≡ Some (desc.Record r)) where
    here : Above (record_in program q) (record_in program q)
    here = above_same (record_in program q) (record_in program q) refl

    named : AllByRecursion IsDeclared ((listed r.base ++ each (λ f. f.of) r.fields) ++ flat_map (λ m. signature_types m.signature) r.methods)
    named = formed.declared q (desc.Record r) is

    fields : AllByRecursion (λ f. IsFieldOf program q f × IsDeclared f.of) r.fields
    fields = all_pairs (λ f. IsFieldOf program q f) (λ f. IsDeclared f.of) r.fields (formed.records q r is).fields (fields_all IsDeclared r.fields (all_back IsDeclared (listed r.base) (each (λ f. f.of) r.fields) (all_front IsDeclared (listed r.base ++ each (λ f. f.of) r.fields) (flat_map (λ m. signature_types m.signature) r.methods) named)))

    methods : AllByRecursion (λ m. IsMethodOf program q m × AreDeclared m.signature) r.methods
    methods = all_pairs (λ m. IsMethodOf program q m) (λ m. AreDeclared m.signature) r.methods (formed.records q r is).methods (methods_all IsDeclared r.methods (all_back IsDeclared (listed r.base ++ each (λ f. f.of) r.fields) (flat_map (λ m. signature_types m.signature) r.methods) named))

    in_it : (x : List ℕ) (m : Member) (a : Option Field) (b : Option Method) → find (λ f. bytes_eq f.name x) r.fields ≡ a → find (λ m. bytes_eq m.name x) r.methods ≡ b → field_or q a b ≡ Some m → MemberIs q x m
    in_it x m None None ea eb e = absurd cc
    in_it x m None (Some n) ea eb e =
        let h = found (λ m. IsMethodOf program q m × AreDeclared m.signature) (λ m. bytes_eq m.name x) r.methods n methods eb in
        let g : AMethod q n ≡ m = cc in
        subst (λ m. MemberIs q x m) g (here, (h.0.0, (bytes_true n.name x h.1, (h.0.1, (r, is)))))
    in_it x m (Some f) b ea eb e =
        let h = found (λ f. IsFieldOf program q f × IsDeclared f.of) (λ f. bytes_eq f.name x) r.fields f fields ea in
        let g : AField q f ≡ m = cc in
        subst (λ m. MemberIs q x m) g (here, (h.0.0, (bytes_true f.name x h.1, (h.0.1, (r, is)))))

  own : (q : QName) (x : List ℕ) (m : Member) → own_member q (map q) x ≡ Some m → MemberIs q x m
  own q x m e = by (map q) refl e
    where
      by : (o : Option Desc) → map q ≡ o → own_member q o x ≡ Some m → MemberIs q x m
      by None is e = absurd cc
      by (Some (desc.Const v)) is e = absurd cc
      by (Some (desc.Var k t)) is e = absurd cc
      by (Some (desc.Proc s)) is e = absurd cc
      by (Some (desc.Alias k t)) is e = absurd cc
      by (Some (desc.Array k n t)) is e = absurd cc
      by (Some (desc.OpenArray k t)) is e = absurd cc
      by (Some (desc.Pointer k t)) is e = absurd cc
      by (Some (desc.ProcType k s)) is e = absurd cc
      by (Some (desc.Record r)) is e = in_it q r is x m (find (λ f. bytes_eq f.name x) r.fields) (find (λ m. bytes_eq m.name x) r.methods) refl refl e

  -- the base of a record
  pub based : (q b : QName) → base_record map q ≡ Some b → Above (record_in program q) (record_in program b)
  based q b e = by (map q) refl e
    where
      on : (r : RecordDesc) → map q ≡ Some (desc.Record r) → (o : Option TypeRef) → r.base ≡ o → record_if map o ≡ Some b → Above (record_in program q) (record_in program b)
      on r is None ea e = absurd cc
      on r is (Some c) ea e = subst (λ t. Above (record_in program q) t) (shapes.record_form map program formed c b e).form (base_above map program formed q r c (formed.records q r is) ea)

      by : (o : Option Desc) → map q ≡ o → record_if map (base_type o) ≡ Some b → Above (record_in program q) (record_in program b)
      by None is e = absurd cc
      by (Some (desc.Const v)) is e = absurd cc
      by (Some (desc.Var k t)) is e = absurd cc
      by (Some (desc.Proc s)) is e = absurd cc
      by (Some (desc.Alias k t)) is e = absurd cc
      by (Some (desc.Array k n t)) is e = absurd cc
      by (Some (desc.OpenArray k t)) is e = absurd cc
      by (Some (desc.Pointer k t)) is e = absurd cc
      by (Some (desc.ProcType k s)) is e = absurd cc
      by (Some (desc.Record r)) is e = on r is r.base refl e

  below : (q b : QName) (x : List ℕ) (m : Member) → Above (record_in program q) (record_in program b) → MemberIs b x m → MemberIs q x m
  below q b x (AField o f) a h = (above_on (record_in program q) (record_in program b) (record_in program o) a h.0, h.1)
  below q b x (AMethod o f) a h = (above_on (record_in program q) (record_in program b) (record_in program o) a h.0, h.1)

  pub member_is : (n : ℕ) (q : QName) (x : List ℕ) (m : Member) → member_within map n q x ≡ Some m → MemberIs q x m
  unfolding member_within
  member_is zero q x m e = absurd cc
  member_is (suc n) q x m e = by (own_member q (map q) x) (base_record map q) refl refl e (λ b e. member_is n b x m e)
    where
      by : (o : Option Member) (p : Option QName) → own_member q (map q) x ≡ o → base_record map q ≡ p → or_in_base o p (λ b. member_within map n b x) ≡ Some m → ((b : QName) → member_within map n b x ≡ Some m → MemberIs b x m) → MemberIs q x m
      by (Some k) p is at e r = own q x m (is ∙ e)
      by None None is at e r = absurd cc
      by None (Some b) is at e r = below q b x m (based q b at) (r b e)

  -- A FIELD, IN A RECORD TYPE OR AN EXTENSION
  module _ (Has : Formals → QName → Type 0) (unit : List ℕ) (held : List Held) (result : Option TypeRef) where
    pub field_ok : (t : Form) (q : QName) (r : RecordDesc) (x : List ℕ) (o : QName) (f : Field) → t ≡ record_in program q → map q ≡ Some (desc.Record r) → member map q x ≡ Some (AField o f) → FieldOk program Has unit held result t o x (form f.of)
    field_ok t q r x o f is has e =
        let h = member_is 201 q x (AField o f) e in
        let own : IsFieldOf program o f = h.1.0 in
        let name : f.name ≡ x = h.1.1.0 in
        let there : FieldIn (fields_of (record_in program o)) o x = subst (λ y. FieldIn (fields_of (record_in program o)) o y) name own.there in
        let same : Same (record_in program q) o x (fields_of (record_in program o)) = sub_field (record_in program q) (record_in program o) (line_of (record_in program o)) (fields_of (record_in program o)) o x h.0.sub (is_record (record_in program o) o x there) there in
        let line = shapes.record_type map program formed q r (formed.records q r has) in
        let g : field_form (fields_of (record_in program o)) o x ≡ form f.of = subst (λ y. field_form (fields_of (record_in program o)) o y ≡ form f.of) name own.form in
        subst (λ t. FieldOk program Has unit held result t o x (form f.of)) (sym is) (q ∷ line.0, line.1, in_fields (record_in program q) o x same.in_it, same.form ∙ g, same.offset)

  -- A BOUND PROCEDURE: the nearest of its family from the record type on that introduces it
  pub nearest_own : (o : QName) (r : RecordDesc) (m : Method) → map o ≡ Some (desc.Record r) → (k : IsMethodOf program o m) → nearest program (bases_in program o) (introduced o m) ≡ Some k.name
  nearest_own o r m e k =
      let line : bases_in program o ≡ o ∷ base_line (form_in program) r.base = ap line_of (formed.records o r e).is in
      let rest = nearest program (base_line (form_in program) r.base) (introduced o m) in
      ap (λ ts. nearest program ts (introduced o m)) line ∙ ap (λ x. first_of_both x rest) k.declared
