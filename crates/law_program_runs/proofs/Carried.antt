-- What stays of values, variables and objects from one setting to another one.
use Rattle.std.proofs.Common.{◌≡◌, ℕ, zero, suc, ◌+◌, ◌<◌, List, [], ◌∷◌, ◌++◌, length, Option, Some, None, refl, sym, ap, ◌∙◌, subst, arith, ⊎_elim, inl, inr}
use Rattle.std.proofs.lemmas.Bool.Decides.{nat_tests}
use Rattle.std.specs.Prelude.{ℤ, pos, Bool, true, false, nat_eq, if◌then◌else◌}
use Rattle.ob_tree.specs.declared.names.QName.{QName}
use Rattle.ob_types.specs.declared.types.Basic.{Basic}
use Rattle.ob_types.specs.declared.types.Basic.TheVariants as basic
use Rattle.ob_types.specs.declared.types.TypeRef.{TypeRef}
use Rattle.ob_types.specs.declared.types.TypeRef.TheVariants as ref
use Rattle.ob_types.specs.declared.desc.Desc.{Desc}
use Rattle.ob_instr.specs.Rows.{tag, proc_value}
use Rattle.ob_meaning.specs.Values.{description, Form, BasicForm, PointerForm, ProcedureForm, ArrayForm, OpenForm, RecordForm, Fields, NoField, AField, described, form_within, form_in, record_in, number_of_types, Value, field_of, element_of, AnObject, Whole, Opened, Formals}
use Rattle.law_simulation_relation.specs.Layout.{object_form, object_at, has_length_at, object_offset, heap_start, type_number}
use Rattle.law_simulation_relation.specs.Relation.{LengthFits, Sub, Scalar, IsStructure, FormOk, FieldsOk, IsBasic, IsPointer, IsProcedure, Fine, FieldsFine, ObjectsFine, word_of, flat, flat_fields, flat_elements, flat_objects, extra, number_of}
use Rattle.law_simulation_relation.proofs.Values.{sub_scalar}
use Rattle.law_simulation_relation.specs.Setting.{Setting, has_of}

-- the types that the first describes, the procedures that variables may have, and the numbers of both are the same in the second
pub record Carries (c d : Setting) : Type 0 where
  pub types : (q : QName) (t : Desc) → description c.program q ≡ Some t → record_in d.program q ≡ record_in c.program q
  pub has : (fs : Formals) (q : QName) → has_of c fs q → has_of d fs q
  pub numbers : (fs : Formals) (q : QName) → has_of c fs q → number_of d.program (has_of d) d.img q ≡ number_of c.program (has_of c) c.img q
  pub tags : (q : QName) (line : List QName) (fs : Fields) → record_in c.program q ≡ RecordForm (q ∷ line) fs → type_number d.img.types q ≡ type_number c.img.types q

basic_form : (types : QName → Option Desc) (n : ℕ) (b : Basic) → form_within types n (ref.Basic b) ≡ BasicForm b
basic_form types zero b = refl
basic_form types (suc n) b = refl

no_form : (types : QName → Option Desc) (n : ℕ) (q : QName) → types q ≡ None → form_within types n (ref.Named q) ≡ BasicForm basic.Boolean
no_form types zero q e = refl
no_form types (suc n) q e = ap (described (form_within types n) q) e

not_basic : (t u : Form) (b : Basic) → u ≡ BasicForm b → Sub t u → IsStructure t → ⊥
not_basic t u b e s i = subst IsStructure (sub_scalar t u s (subst Scalar (sym e) tt) ∙ e) i

no_record : (b : Basic) (line : List QName) (fs : Fields) → BasicForm b ≡ RecordForm line fs → ⊥
no_record b line fs e = absurd (cc)

abbrev pub Built : List AnObject → Type 0
Built os = (n : ℕ) → n < length os → IsStructure (object_at os n)

pub are_built : (c : Setting) (all os : List AnObject) (g : ℕ → Value) → ObjectsFine c.program (has_of c) c.img all os g → Built os
are_built c all [] g fine n lt = absurd (omega (arith, lt))
are_built c all (x ∷ xs) g fine n lt = go (nat_eq n (length xs)) refl (λ l. are_built c all xs g fine.0 n l)
  where
    go : (b : Bool) → nat_eq n (length xs) ≡ b → (n < length xs → IsStructure (object_at xs n)) → IsStructure (if b then object_form x else object_at xs n)
    go true e rest = fine.1.0.0
    go false e rest = rest (grind (arith, nat_tests))

module _ (c d : Setting) (k : Carries c d) where
  record_stays : (q : QName) (line : List QName) (fs : Fields) → record_in c.program q ≡ RecordForm line fs → record_in d.program q ≡ record_in c.program q
  record_stays q line fs e = go (description c.program q) refl
    where
      go : (o : Option Desc) → description c.program q ≡ o → record_in d.program q ≡ record_in c.program q
      go (Some t) f = k.types q t f
      go None f = absurd (no_record basic.Boolean line fs (sym (no_form (description c.program) (number_of_types c.program) q f) ∙ e))

  mutual
    pub form_ok : (t : Form) → FormOk c.program t → FormOk d.program t
    form_ok (BasicForm b) ok = tt
    form_ok (PointerForm t) ok = tt
    form_ok (ProcedureForm s) ok = tt
    form_ok (ArrayForm n t) ok = (ok.0, form_ok t ok.1)
    form_ok (OpenForm t) ok = absurd ok
    form_ok (RecordForm [] fs) ok = absurd ok
    form_ok (RecordForm (q ∷ line) fs) ok = (record_stays q (q ∷ line) fs ok.0 ∙ ok.0, fields_ok fs ok.1)

    fields_ok : (fs : Fields) → FieldsOk c.program fs → FieldsOk d.program fs
    fields_ok NoField ok = tt
    fields_ok (AField owner name t fs) ok = (ok.0, (form_ok t ok.1.0, fields_ok fs ok.1.1))

  abbrev Wd : List AnObject → Value → ℤ
  Wd os v = word_of d.program (has_of d) d.img os v

  abbrev Wc : List AnObject → Value → ℤ
  Wc os v = word_of c.program (has_of c) c.img os v

  pub heap_same : heap_start d.program d.img ≡ heap_start c.program c.img
  heap_same = omega (arith, c.globals, c.stack, d.globals, d.stack)

  -- VALUES

  module _ (os : List AnObject) (built : Built os) where
    pointer_stays : (t : TypeRef) (v : Value) → IsPointer c.program os t v → IsPointer d.program os t v
    pointer_stays (ref.Basic b) v h =
        let e : form_in d.program (ref.Basic b) ≡ form_in c.program (ref.Basic b) = basic_form (description d.program) (number_of_types d.program) b ∙ sym (basic_form (description c.program) (number_of_types c.program) b) in
        ⊎_elim (λ n. inl n) (λ x. inr (x.0, x.1, x.2, subst (λ u. Sub (object_at os x.0) u) (sym e) x.3, subst (λ u. LengthFits u (has_length_at os x.0)) (sym e) x.4)) h
    pointer_stays (ref.Named q) v h = go (description c.program q) refl
      where
        go : (o : Option Desc) → description c.program q ≡ o → IsPointer d.program os (ref.Named q) v
        go (Some t) f =
            let e : form_in d.program (ref.Named q) ≡ form_in c.program (ref.Named q) = k.types q t f in
            ⊎_elim (λ n. inl n) (λ x. inr (x.0, x.1, x.2, subst (λ u. Sub (object_at os x.0) u) (sym e) x.3, subst (λ u. LengthFits u (has_length_at os x.0)) (sym e) x.4)) h
        go None f = ⊎_elim (λ n. inl n) (λ x. absurd (not_basic (object_at os x.0) (form_in c.program (ref.Named q)) basic.Boolean (no_form (description c.program) (number_of_types c.program) q f) x.3 (built x.0 x.2))) h

    procedure_stays : (fs : Formals) (v : Value) → IsProcedure c.program (has_of c) fs v → IsProcedure d.program (has_of d) fs v
    procedure_stays s v h = ⊎_elim (λ n. inl n) (λ x. inr (x.0, x.1, k.has s x.0 x.2)) h

    mutual
      pub fine_stays : (t : Form) (v : Value) → Fine c.program (has_of c) os t v → Fine d.program (has_of d) os t v
      fine_stays (BasicForm b) v h = h
      fine_stays (PointerForm t) v h = pointer_stays t v h
      fine_stays (ProcedureForm s) v h = procedure_stays s v h
      fine_stays (ArrayForm n t) v h = (h.0, λ i lt. fine_stays t (element_of v i) (h.1 i lt))
      fine_stays (OpenForm t) v h = absurd h
      fine_stays (RecordForm line fs) v h = (h.0, fields_stay fs (field_of v) h.1)

      fields_stay : (fs : Fields) (g : QName → List ℕ → Value) → FieldsFine c.program (has_of c) os fs g → FieldsFine d.program (has_of d) os fs g
      fields_stay NoField g h = tt
      fields_stay (AField owner name t fs) g h = (fine_stays t (g owner name) h.0, fields_stay fs g h.1)

    -- THEIR WORDS

    basic_word : (b : Basic) (v : Value) → IsBasic b v → Wd os v ≡ Wc os v
    basic_word basic.Boolean v h = ap (Wd os) h.1 ∙ sym (ap (Wc os) h.1)
    basic_word basic.Char v h = ap (Wd os) h.2 ∙ sym (ap (Wc os) h.2)
    basic_word basic.ShortInt v h = ap (Wd os) h.2 ∙ sym (ap (Wc os) h.2)
    basic_word basic.Integer v h = ap (Wd os) h.2 ∙ sym (ap (Wc os) h.2)
    basic_word basic.LongInt v h = ap (Wd os) h.2 ∙ sym (ap (Wc os) h.2)
    basic_word basic.Set v h = ap (Wd os) h.1 ∙ sym (ap (Wc os) h.1)

    pointer_word : (t : TypeRef) (v : Value) → IsPointer c.program os t v → Wd os v ≡ Wc os v
    pointer_word t v h = ⊎_elim (λ e. ap (Wd os) e ∙ sym (ap (Wc os) e)) (λ x. ap (Wd os) x.1 ∙ ap (λ a. pos (a + object_offset os x.0)) heap_same ∙ sym (ap (Wc os) x.1)) h

    procedure_word : (fs : Formals) (v : Value) → IsProcedure c.program (has_of c) fs v → Wd os v ≡ Wc os v
    procedure_word s v h = ⊎_elim (λ e. ap (Wd os) e ∙ sym (ap (Wc os) e)) (λ x. ap (Wd os) x.1 ∙ ap proc_value (k.numbers s x.0 x.2) ∙ sym (ap (Wc os) x.1)) h

    abbrev Ed : ℕ → (ℕ → List ℤ) → List ℤ
    Ed n f = flat_elements d.program (has_of d) d.img n f

    abbrev Ec : ℕ → (ℕ → List ℤ) → List ℤ
    Ec n f = flat_elements c.program (has_of c) c.img n f

    elements_same : (n : ℕ) (f g : ℕ → List ℤ) → ((i : ℕ) → i < n → f i ≡ g i) → Ed n f ≡ Ec n g
    elements_same zero f g h = refl
    elements_same (suc n) f g h = ap (λ l. l ++ f n) (elements_same n f g (λ i lt. h i (omega (arith, lt)))) ∙ ap (λ l. Ec n g ++ l) (h n (omega arith))

    mutual
      pub words_stay : (t : Form) (v : Value) → Fine c.program (has_of c) os t v → flat d.program (has_of d) d.img os t v ≡ flat c.program (has_of c) c.img os t v
      words_stay (BasicForm b) v h = ap (λ w. w ∷ []) (basic_word b v h)
      words_stay (PointerForm t) v h = ap (λ w. w ∷ []) (pointer_word t v h)
      words_stay (ProcedureForm s) v h = ap (λ w. w ∷ []) (procedure_word s v h)
      words_stay (ArrayForm n t) v h = elements_same n (λ i. flat d.program (has_of d) d.img os t (element_of v i)) (λ i. flat c.program (has_of c) c.img os t (element_of v i)) (λ i lt. words_stay t (element_of v i) (h.1 i lt))
      words_stay (OpenForm t) v h = refl
      words_stay (RecordForm line fs) v h = fields_words_stay fs (field_of v) h.1

      fields_words_stay : (fs : Fields) (g : QName → List ℕ → Value) → FieldsFine c.program (has_of c) os fs g → flat_fields d.program (has_of d) d.img os fs g ≡ flat_fields c.program (has_of c) c.img os fs g
      fields_words_stay NoField g h = refl
      fields_words_stay (AField owner name t fs) g h = ap (λ l. l ++ flat_fields d.program (has_of d) d.img os fs g) (words_stay t (g owner name) h.0) ∙ ap (λ l. flat c.program (has_of c) c.img os t (g owner name) ++ l) (fields_words_stay fs g h.1)

    -- OBJECTS

    extra_stays : (x : AnObject) → FormOk c.program (object_form x) → extra d.program (has_of d) d.img x ≡ extra c.program (has_of c) c.img x
    extra_stays (Opened n t) ok = refl
    extra_stays (Whole (BasicForm b)) ok = refl
    extra_stays (Whole (PointerForm b)) ok = refl
    extra_stays (Whole (ProcedureForm b)) ok = refl
    extra_stays (Whole (ArrayForm n t)) ok = refl
    extra_stays (Whole (OpenForm t)) ok = refl
    extra_stays (Whole (RecordForm [] fs)) ok = refl
    extra_stays (Whole (RecordForm (q ∷ line) fs)) ok = ap (λ n. tag n ∷ []) (k.tags q line fs ok.0)

    pub objects_fine : (xs : List AnObject) (g : ℕ → Value) → ObjectsFine c.program (has_of c) c.img os xs g → ObjectsFine d.program (has_of d) d.img os xs g
    objects_fine [] g h = tt
    objects_fine (x ∷ xs) g h = (objects_fine xs g h.0, ((h.1.0.0, form_ok (object_form x) h.1.0.1), fine_stays (object_form x) (g (length xs)) h.1.1))

    pub objects_stay : (xs : List AnObject) (g : ℕ → Value) → ObjectsFine c.program (has_of c) c.img os xs g → flat_objects d.program (has_of d) d.img os xs g ≡ flat_objects c.program (has_of c) c.img os xs g
    objects_stay [] g h = refl
    objects_stay (x ∷ xs) g h =
        ap (λ l. l ++ (extra d.program (has_of d) d.img x ++ flat d.program (has_of d) d.img os (object_form x) (g (length xs)))) (objects_stay xs g h.0)
        ∙ ap (λ e. flat_objects c.program (has_of c) c.img os xs g ++ (e ++ flat d.program (has_of d) d.img os (object_form x) (g (length xs)))) (extra_stays x h.1.0.1)
        ∙ ap (λ l. flat_objects c.program (has_of c) c.img os xs g ++ (extra c.program (has_of c) c.img x ++ l)) (words_stay (object_form x) (g (length xs)) h.1.1)
