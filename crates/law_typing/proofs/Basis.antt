-- The forms of a program are as a map of descriptions that is formed and steady says.
use Rattle.std.proofs.Common.{◌≡◌, refl, sym, ◌∙◌, subst, ℕ, zero, suc, List, [], ◌∷◌, ◌++◌, map as each, Option, Some, None}
use Rattle.std.specs.Prelude.{bytes_eq}
use Rattle.std.specs.List.{find, flat_map, AllByRecursion}
use Rattle.ob_tree.specs.declared.names.QName.{QName}
use Rattle.ob_types.specs.declared.types.Mode.{Mode}
use Rattle.ob_types.specs.declared.types.TypeRef.{TypeRef}
use Rattle.ob_types.specs.declared.types.Signature.{Signature}
use Rattle.ob_types.specs.declared.desc.Desc.{Desc}
use Rattle.ob_types.specs.declared.desc.Desc.TheVariants as desc
use Rattle.ob_types.specs.declared.desc.RecordDesc.{RecordDesc}
use Rattle.ob_types.specs.declared.desc.Field.{Field}
use Rattle.ob_types.specs.declared.desc.Method.{Method}
use Rattle.ob_types.specs.Maps.{IsHeld, listed, signature_types, named_by}
use Rattle.ob_types.specs.Relations.{Is, is_open, IsPlainResult}
use Rattle.ob_meaning.specs.Values.{Program, form_in, record_in, Formals, Held}
use Rattle.law_simulation_relation.specs.Relation.{Sub}
use Rattle.law_simulation_relation.specs.Passed.{IsClosed}
use Rattle.law_simulation_relation.specs.Typed as typed
use Rattle.law_simulation_relation.specs.Typed.{passing_for}
use Rattle.ob_rules.specs.Shapes.{Map, Member, AField, AMethod, shape, pointed, signature_at, array_of, record_of, own_member, field_or, base_record, or_in_base, member, member_within}
use Rattle.law_typing_forms.specs.Formed.{Formed, IsMethodOf}
use Rattle.law_typing_forms.specs.Steady.{IsSteady}
use Rattle.law_typing_forms.proofs.Finds as finds
use Rattle.law_typing_forms.proofs.Shapes as shapes
use Rattle.law_typing_forms.proofs.Members as members
use Rattle.law_typing_forms.proofs.Members.{found}
use Rattle.law_typing_forms.proofs.Extending.{record_above}
use Rattle.law_typing_forms.proofs.Sorts.{passing_form, plain_form, form_ok}
use Rattle.law_typing_forms.proofs.Alike.{AreDeclared, alike_formals}
use Rattle.law_typing_forms.proofs.Taking.{array_length, scalar_takes, takes_sub}
use Rattle.law_typing.specs.Forms.{IsDeclared, IsKnown, AreKnown, ResultIs, SignatureIs, ArrayIs, Forms}
use Rattle.law_typing.specs.Known.{MethodIs}
use Rattle.law_typing.proofs.Basics.{closed_form}
use Rattle.law_lists.proofs.Lists.{all_parts, none_some, some_same}

fields_each : (P : TypeRef → Type 0) (fs : List Field) → AllByRecursion P (each (λ f. f.of) fs) → AllByRecursion (λ f. P f.of) fs
fields_each P [] h = tt
fields_each P (f ∷ fs) h = (h.0, fields_each P fs h.1)

methods_each : (P : TypeRef → Type 0) (ms : List Method) → AllByRecursion P (flat_map (λ m. signature_types m.signature) ms) → AllByRecursion (λ m. AllByRecursion P (signature_types m.signature)) ms
methods_each P [] h = tt
methods_each P (m ∷ ms) h = let r = all_parts P (signature_types m.signature) (flat_map (λ m. signature_types m.signature) ms) h in (r.0, methods_each P ms r.1)

module _ (map : Map) (program : Program) (formed : Formed map program) (steady : IsSteady map) where
  held_all : (q : QName) (d : Desc) → map q ≡ Some d → AllByRecursion (IsHeld map) (named_by d)
  held_all q d e = steady.held q d e

  -- SIGNATURES

  known_params : (ks : List (Mode × TypeRef)) (rest : List TypeRef) → AllByRecursion IsDeclared (each (λ p. p.1) ks ++ rest) → AllByRecursion (IsHeld map) (each (λ p. p.1) ks ++ rest) → AreKnown map ks
  known_params [] rest h k = tt
  known_params (x ∷ ks) rest h k = ((h.0, k.0), known_params ks rest h.1 k.1)

  result_known : (r : Option TypeRef) → AllByRecursion IsDeclared (listed r) → AllByRecursion (IsHeld map) (listed r) → IsPlainResult map (record { params = []; result = r }) → ResultIs program r
  result_known None h k p = tt
  result_known (Some t) h k p = (h.0, plain_form map program formed steady t k.0 p)

  pub signature_is : (s : Signature) → AllByRecursion IsDeclared (signature_types s) → AllByRecursion (IsHeld map) (signature_types s) → IsPlainResult map s → SignatureIs program map s
  signature_is s h k p =
      let a = all_parts IsDeclared (each (λ p. p.1) s.params) (listed s.result) h in
      let b = all_parts (IsHeld map) (each (λ p. p.1) s.params) (listed s.result) k in
      record { params = known_params s.params (listed s.result) h k; result = result_known s.result a.1 b.1 p; result_held = b.1 }

  declared_params : (ks : List (Mode × TypeRef)) → AreKnown map ks → AreDeclared ks
  declared_params [] h = tt
  declared_params (x ∷ ks) h = (h.0.0, declared_params ks h.1)

  -- WHAT A DESCRIPTION NAMES

  pointer_known : (t u : TypeRef) → pointed map t ≡ Some u → IsDeclared u × IsHeld map u
  pointer_known t u e =
      let h = finds.is_pointer (shape map t) u e in
      let s = shapes.shaped map program formed t (desc.Pointer h.0 u) h.1 in
      ((formed.declared s.q (desc.Pointer h.0 u) s.has).0, (held_all s.q (desc.Pointer h.0 u) s.has).0)

  procedure_known : (t : TypeRef) (g : Signature) → signature_at map t ≡ Some g → SignatureIs program map g
  procedure_known t g e =
      let h = finds.is_procedure (shape map t) g e in
      let s = shapes.shaped map program formed t (desc.ProcType h.0 g) h.1 in
      signature_is g (formed.declared s.q (desc.ProcType h.0 g) s.has) (held_all s.q (desc.ProcType h.0 g) s.has) (steady.keeps s.q (desc.ProcType h.0 g) s.has)

  array_known : (t u : TypeRef) (n : Option ℕ) → IsDeclared t → array_of map t ≡ Some (n, u) → ArrayIs program map (form_in program t) n u
  array_known t u None d e =
      let h = finds.is_open_array (shape map t) u e in
      let s = shapes.shaped map program formed t (desc.OpenArray h.0 u) h.1 in
      let k : IsKnown map u = ((formed.declared s.q (desc.OpenArray h.0 u) s.has).0, (held_all s.q (desc.OpenArray h.0 u) s.has).0) in
      (shapes.open_array_form map program formed t u d e, (k, form_ok map program formed steady u k.1 (steady.keeps s.q (desc.OpenArray h.0 u) s.has)))
  array_known t u (Some n) d e =
      let h = finds.is_array (shape map t) n u e in
      let s = shapes.shaped map program formed t (desc.Array h.0 n u) h.1 in
      let k : IsKnown map u = ((formed.declared s.q (desc.Array h.0 n u) s.has).0, (held_all s.q (desc.Array h.0 n u) s.has).0) in
      (shapes.array_form map program formed t n u e, (array_length map program formed t n u e, (k, form_ok map program formed steady u k.1 (steady.keeps s.q (desc.Array h.0 n u) s.has))))

  -- MEMBERS

  -- the types in a member are held
  abbrev MemberHeld : Member → Type 0
  MemberHeld (AField o f) = IsHeld map f.of × (Is map is_open f.of → ⊥)
  MemberHeld (AMethod o m) = AllByRecursion (IsHeld map) (signature_types m.signature) × IsPlainResult map m.signature

  two_all : {A : Type 0} (P Q : A → Type 0) (xs : List A) → AllByRecursion P xs → AllByRecursion Q xs → AllByRecursion (λ x. P x × Q x) xs
  two_all P Q [] h k = tt
  two_all P Q (x ∷ xs) h k = ((h.0, k.0), two_all P Q xs h.1 k.1)

  own_held : (q : QName) (r : RecordDesc) (x : List ℕ) (m : Member) → map q ≡ Some (desc.Record r) → (a : Option Field) (b : Option Method) → find (λ f. bytes_eq f.name x) r.fields ≡ a → find (λ m. bytes_eq m.name x) r.methods ≡ b → field_or q a b ≡ Some m → MemberHeld m
  own_held q r x m is a b ea eb e =
      let all = held_all q (desc.Record r) is in
      let s = all_parts (IsHeld map) (listed r.base ++ each (λ f. f.of) r.fields) (flat_map (λ m. signature_types m.signature) r.methods) all in
      let fs = two_all (λ f. IsHeld map f.of) (λ f. Is map is_open f.of → ⊥) r.fields (fields_each (IsHeld map) r.fields (all_parts (IsHeld map) (listed r.base) (each (λ f. f.of) r.fields) s.0).1) (steady.keeps q (desc.Record r) is).1.0 in
      let ms = two_all (λ m. AllByRecursion (IsHeld map) (signature_types m.signature)) (λ m. IsPlainResult map m.signature) r.methods (methods_each (IsHeld map) r.methods s.1) (steady.keeps q (desc.Record r) is).1.1 in
      by a b ea eb e fs ms
    where
      by : (a : Option Field) (b : Option Method) → find (λ f. bytes_eq f.name x) r.fields ≡ a → find (λ m. bytes_eq m.name x) r.methods ≡ b → field_or q a b ≡ Some m → AllByRecursion (λ f. IsHeld map f.of × (Is map is_open f.of → ⊥)) r.fields → AllByRecursion (λ m. AllByRecursion (IsHeld map) (signature_types m.signature) × IsPlainResult map m.signature) r.methods → MemberHeld m
      by None None ea eb e fs ms = none_some e
      by None (Some k) ea eb e fs ms = subst MemberHeld (some_same e) (found (λ m. AllByRecursion (IsHeld map) (signature_types m.signature) × IsPlainResult map m.signature) (λ m. bytes_eq m.name x) r.methods k ms eb).0
      by (Some f) b ea eb e fs ms = subst MemberHeld (some_same e) (found (λ f. IsHeld map f.of × (Is map is_open f.of → ⊥)) (λ f. bytes_eq f.name x) r.fields f fs ea).0

  desc_held : (q : QName) (x : List ℕ) (m : Member) (o : Option Desc) → map q ≡ o → own_member q o x ≡ Some m → MemberHeld m
  desc_held q x m (Some (desc.Record r)) is e = own_held q r x m is (find (λ f. bytes_eq f.name x) r.fields) (find (λ m. bytes_eq m.name x) r.methods) refl refl e
  desc_held q x m None is e = none_some e
  desc_held q x m (Some (desc.Const c)) is e = none_some e
  desc_held q x m (Some (desc.Var k t)) is e = none_some e
  desc_held q x m (Some (desc.Proc s)) is e = none_some e
  desc_held q x m (Some (desc.Alias k t)) is e = none_some e
  desc_held q x m (Some (desc.Array k n t)) is e = none_some e
  desc_held q x m (Some (desc.OpenArray k t)) is e = none_some e
  desc_held q x m (Some (desc.Pointer k t)) is e = none_some e
  desc_held q x m (Some (desc.ProcType k s)) is e = none_some e

  member_held : (n : ℕ) (q : QName) (x : List ℕ) (m : Member) → member_within map n q x ≡ Some m → MemberHeld m
  unfolding member_within
  member_held zero q x m e = none_some e
  member_held (suc n) q x m e = by (own_member q (map q) x) (base_record map q) refl e (λ b f. member_held n b x m f)
    where
      by : (o : Option Member) (p : Option QName) → own_member q (map q) x ≡ o → or_in_base o p (λ b. member_within map n b x) ≡ Some m → ((b : QName) → member_within map n b x ≡ Some m → MemberHeld m) → MemberHeld m
      by (Some k) p f e ih = desc_held q x m (map q) refl (f ∙ e)
      by None None f e ih = none_some e
      by None (Some b) f e ih = ih b e

  module _ (Has : Formals → QName → Type 0) (unit : List ℕ) (held : List Held) (result : Option TypeRef) where
    field_known : (q o : QName) (x : List ℕ) (f : Field) (t : TypeRef) → record_of map t ≡ Some q → member map q x ≡ Some (AField o f) → typed.FieldOk program Has unit held result (record_in program q) o f.name (form_in program f.of) × IsKnown map f.of × IsClosed (form_in program f.of)
    field_known q o x f t e k =
        let r = shapes.record_form map program formed t q e in
        let m = members.member_is map program formed 201 q x (AField o f) k in
        let ok = members.field_ok map program formed Has unit held result (record_in program q) q r.r x o f refl r.has k in
        let h = member_held 201 q x (AField o f) k in
        (subst (λ y. typed.FieldOk program Has unit held result (record_in program q) o y (form_in program f.of)) (sym m.1.1.0) ok, (m.1.1.1.0, h.0), closed_form program (form_in program f.of) (form_ok map program formed steady f.of h.0 h.1))

    -- the forms of the program, by the map
    pub forms_are : Forms program Has unit held result map
    forms_are = record {
      basics = shapes.basic_form map program formed;
      pointers = λ t u e. (shapes.pointer_form map program formed t u e, (pointer_known t u e).0);
      bases = λ t u e k. (pointer_known t u e).1;
      procedures = λ t s e. (shapes.procedure_form map program formed t s e, procedure_known t s e);
      alike = λ s t h k e. alike_formals map program formed s t (declared_params s.params h.params) (declared_params t.params k.params) e;
      arrays = array_known;
      records = λ t q e. let r = shapes.record_form map program formed t q e in (r.form, shapes.record_type map program formed q r.r r.is);
      same = shapes.same_form map program formed;
      extensions = λ a b t e k. let r = shapes.record_form map program formed t b e in (record_above map program formed a b r.r r.has k).sub;
      fields = field_known;
      passings = λ m t d. passing_form map program formed steady m t d.1 d.0;
      scalars = scalar_takes map program formed Has unit held result;
      structures = takes_sub map program formed Has unit held result;
    }

    -- a bound procedure that a member names
    pub method_is : (q o : QName) (x : List ℕ) (m : Method) → member map q x ≡ Some (AMethod o m) → MethodIs program Has unit held result map o m × Sub (record_in program q) (record_in program o)
    method_is q o x m e =
        let k = members.member_is map program formed 201 q x (AMethod o m) e in
        let i : IsMethodOf program o m = k.1.0 in
        let r = k.1.1.1.1 in
        let h = member_held 201 q x (AMethod o m) e in (
          record {
            name = i.name;
            p = i.p;
            type_is = shapes.record_type map program formed o r.0 (formed.records o r.0 r.1);
            near = members.nearest_own map program formed o r.0 m r.1 i;
            found = i.found;
            receives = i.receives;
            result_is = i.result;
            parameters = i.parameters;
            signature = signature_is m.signature k.1.1.1.0 h.0 h.1;
          },
          k.0.sub,
        )
