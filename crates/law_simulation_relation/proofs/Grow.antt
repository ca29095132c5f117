-- What stays when an object is made.
use Rattle.std.proofs.Common.{◌≡◌, ℕ, zero, suc, ◌+◌, ◌<◌, List, [], ◌∷◌, ◌++◌, length, refl, sym, ap, ◌∙◌, subst, arith, ⊎_elim}
use Rattle.std.proofs.Common.{inl, inr}
use Rattle.std.specs.Prelude.{ℤ, pos}
use Rattle.ob_tree.specs.declared.names.QName.{QName}
use Rattle.ob_types.specs.declared.types.Basic.{Basic}
use Rattle.ob_types.specs.declared.types.Basic.TheVariants as basic
use Rattle.ob_types.specs.declared.types.TypeRef.{TypeRef}
use Rattle.ob_meaning.specs.Values.{Form, BasicForm, PointerForm, ProcedureForm, ArrayForm, OpenForm, RecordForm, Fields, NoField, AField, form_in, words, Value, field_of, element_of, Root, OfModule, OfCall, OfObject, Place, At, Held, Own, Referred, Copied, Active, AnObject, Formals}
use Rattle.law_simulation_relation.specs.Layout.{object_form, path_offset, path_form, root_form, root_address, place_form, address, heap_start, slots_words, module_held}
use Rattle.law_simulation_relation.specs.Relation.{LengthFits, Sub, Scalar, IsBasic, IsPointer, IsProcedure, Fine, FieldsFine, PathIn, RootIn, PlaceIn, PlaceOf, HeldFine, CallsFine, ObjectsFine, ModulesFine, word_of, flat, flat_fields, flat_elements, flat_slots, flat_copies, flat_calls, flat_objects, pointing, extra, Grows, call_start, flat_modules, no_places}
use Rattle.ob_types.specs.TypedSyntax.{Module}
use Rattle.law_simulation_relation.specs.Texts.{module_texts}
use Rattle.law_simulation_relation.specs.Setting.{Setting, has_of}

module _ (c : Setting) where
  abbrev pub G : List AnObject → List AnObject → Type 0
  G os all = Grows c.program (has_of c) c.img os all

  pub grows_same : (os : List AnObject) → G os os
  grows_same os = record { len = omega arith; offset = λ n lt. refl; at = λ n lt. refl; has_length = λ n lt. refl }

  pub grows_on : (os mid all : List AnObject) → G os mid → G mid all → G os all
  grows_on os mid all g h = record {
    len = omega (arith, g.len, h.len);
    offset = λ n lt. h.offset n (omega (arith, g.len, lt)) ∙ g.offset n lt;
    at = λ n lt. h.at n (omega (arith, g.len, lt)) ∙ g.at n lt;
    has_length = λ n lt. h.has_length n (omega (arith, g.len, lt)) ∙ g.has_length n lt;
  }

  module _ (os all : List AnObject) (gr : G os all) where
    basic_word : (b : Basic) (v : Value) → IsBasic b v → word_of c.program (has_of c) c.img all v ≡ word_of c.program (has_of c) c.img os v
    basic_word basic.Boolean v h = ap (word_of c.program (has_of c) c.img all) h.1 ∙ sym (ap (word_of c.program (has_of c) c.img os) h.1)
    basic_word basic.Char v h = ap (word_of c.program (has_of c) c.img all) h.2 ∙ sym (ap (word_of c.program (has_of c) c.img os) h.2)
    basic_word basic.ShortInt v h = ap (word_of c.program (has_of c) c.img all) h.2 ∙ sym (ap (word_of c.program (has_of c) c.img os) h.2)
    basic_word basic.Integer v h = ap (word_of c.program (has_of c) c.img all) h.2 ∙ sym (ap (word_of c.program (has_of c) c.img os) h.2)
    basic_word basic.LongInt v h = ap (word_of c.program (has_of c) c.img all) h.2 ∙ sym (ap (word_of c.program (has_of c) c.img os) h.2)
    basic_word basic.Set v h = ap (word_of c.program (has_of c) c.img all) h.1 ∙ sym (ap (word_of c.program (has_of c) c.img os) h.1)

    pointer_word : (t : TypeRef) (v : Value) → IsPointer c.program os t v → word_of c.program (has_of c) c.img all v ≡ word_of c.program (has_of c) c.img os v
    pointer_word t v h = ⊎_elim (λ e. ap (word_of c.program (has_of c) c.img all) e ∙ sym (ap (word_of c.program (has_of c) c.img os) e)) (λ k. ap (word_of c.program (has_of c) c.img all) k.1 ∙ ap (λ n. pos (heap_start c.program c.img + n)) (gr.offset k.0 k.2) ∙ sym (ap (word_of c.program (has_of c) c.img os) k.1)) h

    procedure_word : (fs : Formals) (v : Value) → IsProcedure c.program (has_of c) fs v → word_of c.program (has_of c) c.img all v ≡ word_of c.program (has_of c) c.img os v
    procedure_word s v h = ⊎_elim (λ e. ap (word_of c.program (has_of c) c.img all) e ∙ sym (ap (word_of c.program (has_of c) c.img os) e)) (λ k. ap (word_of c.program (has_of c) c.img all) k.1 ∙ sym (ap (word_of c.program (has_of c) c.img os) k.1)) h

    -- scalars keep their words
    pub scalar_word : (t : Form) (v : Value) → Scalar t → Fine c.program (has_of c) os t v → word_of c.program (has_of c) c.img all v ≡ word_of c.program (has_of c) c.img os v
    scalar_word (BasicForm b) v sc fine = basic_word b v fine
    scalar_word (PointerForm t) v sc fine = pointer_word t v fine
    scalar_word (ProcedureForm s) v sc fine = procedure_word s v fine
    scalar_word (ArrayForm n t) v sc fine = absurd sc
    scalar_word (OpenForm t) v sc fine = absurd sc
    scalar_word (RecordForm line fs) v sc fine = absurd sc

    pointer_more : (t : TypeRef) (v : Value) → IsPointer c.program os t v → IsPointer c.program all t v
    pointer_more t v h = ⊎_elim (λ e. inl e) (λ k. inr (k.0, k.1, omega (arith, gr.len, k.2), subst (λ u. Sub u (form_in c.program t)) (sym (gr.at k.0 k.2)) k.3, subst (λ b. LengthFits (form_in c.program t) b) (sym (gr.has_length k.0 k.2)) k.4)) h

    mutual
      pub fine_more : (t : Form) (v : Value) → Fine c.program (has_of c) os t v → Fine c.program (has_of c) all t v
      fine_more (BasicForm b) v h = h
      fine_more (PointerForm t) v h = pointer_more t v h
      fine_more (ProcedureForm s) v h = h
      fine_more (ArrayForm n t) v h = (h.0, λ i lt. fine_more t (element_of v i) (h.1 i lt))
      fine_more (OpenForm t) v h = h
      fine_more (RecordForm line fs) v h = (h.0, fields_more fs (field_of v) h.1)

      fields_more : (fs : Fields) (g : QName → List ℕ → Value) → FieldsFine c.program (has_of c) os fs g → FieldsFine c.program (has_of c) all fs g
      fields_more NoField g h = tt
      fields_more (AField owner name t fs) g h = (fine_more t (g owner name) h.0, fields_more fs g h.1)

    root_form_same : (cs : List Active) (r : Root) → RootIn c.program (has_of c) c.img os cs r → root_form c.program c.img all cs r ≡ root_form c.program c.img os cs r
    root_form_same cs (OfModule m x) h = refl
    root_form_same cs (OfCall k x) h = refl
    root_form_same cs (OfObject n) h = gr.at n h

    root_same : (cs : List Active) (r : Root) → RootIn c.program (has_of c) c.img os cs r → root_address c.program c.img all cs r ≡ root_address c.program c.img os cs r
    root_same cs (OfModule m x) h = refl
    root_same cs (OfCall k x) h = refl
    root_same cs (OfObject n) h = ap (λ k. heap_start c.program c.img + k) (gr.offset n h)

    root_more : (cs : List Active) (r : Root) → RootIn c.program (has_of c) c.img os cs r → RootIn c.program (has_of c) c.img all cs r
    root_more cs (OfModule m x) h = h
    root_more cs (OfCall k x) h = h
    root_more cs (OfObject n) h = omega (arith, gr.len, h)

    pub form_same : (cs : List Active) (p : Place) → PlaceIn c.program (has_of c) c.img os cs p → place_form c.program c.img all cs p ≡ place_form c.program c.img os cs p
    form_same cs (At r path) h = ap (λ t. path_form t path) (root_form_same cs r h.0)

    pub address_same : (cs : List Active) (p : Place) → PlaceIn c.program (has_of c) c.img os cs p → address c.program c.img all cs p ≡ address c.program c.img os cs p
    address_same cs (At r path) h = ap (λ n. n + path_offset (root_form c.program c.img all cs r) path) (root_same cs r h.0) ∙ ap (λ t. root_address c.program c.img os cs r + path_offset t path) (root_form_same cs r h.0)

    pub place_more : (cs : List Active) (p : Place) → PlaceIn c.program (has_of c) c.img os cs p → PlaceIn c.program (has_of c) c.img all cs p
    place_more cs (At r path) h = (root_more cs r h.0, subst (λ t. PathIn t path) (sym (root_form_same cs r h.0)) h.1)

    pub place_of_more : (cs : List Active) (t : Form) (p : Place) → PlaceOf c.program (has_of c) c.img os cs t p → PlaceOf c.program (has_of c) c.img all cs t p
    place_of_more cs t p h = (place_more cs p h.0, subst (λ u. Sub u t) (sym (form_same cs p h.0)) h.1)

    -- WORDS THAT STAY

    abbrev Wo : Form → Value → List ℤ
    Wo t v = flat c.program (has_of c) c.img os t v

    abbrev Wa : Form → Value → List ℤ
    Wa t v = flat c.program (has_of c) c.img all t v

    elements_same : (n : ℕ) (f g : ℕ → List ℤ) → ((i : ℕ) → i < n → f i ≡ g i) → flat_elements c.program (has_of c) c.img n f ≡ flat_elements c.program (has_of c) c.img n g
    elements_same zero f g h = refl
    elements_same (suc n) f g h = ap (λ l. l ++ f n) (elements_same n f g (λ i lt. h i (omega (arith, lt)))) ∙ ap (λ l. flat_elements c.program (has_of c) c.img n g ++ l) (h n (omega arith))

    mutual
      pub flat_same : (t : Form) (v : Value) → Fine c.program (has_of c) os t v → Wa t v ≡ Wo t v
      flat_same (BasicForm b) v h = ap (λ z. z ∷ []) (basic_word b v h)
      flat_same (PointerForm t) v h = ap (λ z. z ∷ []) (pointer_word t v h)
      flat_same (ProcedureForm s) v h = ap (λ z. z ∷ []) (procedure_word s v h)
      flat_same (ArrayForm n t) v h = elements_same n (λ i. Wa t (element_of v i)) (λ i. Wo t (element_of v i)) (λ i lt. flat_same t (element_of v i) (h.1 i lt))
      flat_same (OpenForm t) v h = refl
      flat_same (RecordForm line fs) v h = fields_same fs (field_of v) h.1

      fields_same : (fs : Fields) (g : QName → List ℕ → Value) → FieldsFine c.program (has_of c) os fs g → flat_fields c.program (has_of c) c.img all fs g ≡ flat_fields c.program (has_of c) c.img os fs g
      fields_same NoField g h = refl
      fields_same (AField owner name t fs) g h = ap (λ l. l ++ flat_fields c.program (has_of c) c.img all fs g) (flat_same t (g owner name) h.0) ∙ ap (λ l. Wo t (g owner name) ++ l) (fields_same fs g h.1)

    pub slots_same : (cs : List Active) (places : List ℕ → Place) (base : ℕ) (hs : List Held) (g : List ℕ → Value) → HeldFine c.program (has_of c) c.img os cs places hs g → flat_slots c.program (has_of c) c.img all cs places base hs g ≡ flat_slots c.program (has_of c) c.img os cs places base hs g
    slots_same cs places base [] g h = refl
    slots_same cs places base (Own x t ∷ hs) g h = ap (λ l. l ++ flat_slots c.program (has_of c) c.img all cs places base hs g) (flat_same t (g x) h.1.0) ∙ ap (λ l. Wo t (g x) ++ l) (slots_same cs places base hs g h.1.1)
    slots_same cs places base (Referred x n t ∷ hs) g h =
        ap (λ z. pointing c.program (has_of c) c.img n z (place_form c.program c.img all cs (places x)) ++ flat_slots c.program (has_of c) c.img all cs places base hs g) (address_same cs (places x) h.1.0.0)
        ∙ ap (λ u. pointing c.program (has_of c) c.img n (address c.program c.img os cs (places x)) u ++ flat_slots c.program (has_of c) c.img all cs places base hs g) (form_same cs (places x) h.1.0.0)
        ∙ ap (λ l. pointing c.program (has_of c) c.img n (address c.program c.img os cs (places x)) (place_form c.program c.img os cs (places x)) ++ l) (slots_same cs places base hs g h.1.1)
    slots_same cs places base (Copied x n t ∷ hs) g h = ap (λ l. pointing c.program (has_of c) c.img n base t ++ l) (slots_same cs places (base + words t) hs g h.1.1)

    pub copies_same : (cs : List Active) (places : List ℕ → Place) (hs : List Held) (g : List ℕ → Value) → HeldFine c.program (has_of c) c.img os cs places hs g → flat_copies c.program (has_of c) c.img all hs g ≡ flat_copies c.program (has_of c) c.img os hs g
    copies_same cs places [] g h = refl
    copies_same cs places (Own x t ∷ hs) g h = copies_same cs places hs g h.1.1
    copies_same cs places (Referred x n t ∷ hs) g h = copies_same cs places hs g h.1.1
    copies_same cs places (Copied x n t ∷ hs) g h = ap (λ l. l ++ flat_copies c.program (has_of c) c.img all hs g) (flat_same t (g x) h.1.0) ∙ ap (λ l. Wo t (g x) ++ l) (copies_same cs places hs g h.1.1)

    pub held_more : (cs : List Active) (places : List ℕ → Place) (hs : List Held) (g : List ℕ → Value) → HeldFine c.program (has_of c) c.img os cs places hs g → HeldFine c.program (has_of c) c.img all cs places hs g
    held_more cs places [] g h = tt
    held_more cs places (Own x t ∷ hs) g h = (h.0, (fine_more t (g x) h.1.0, held_more cs places hs g h.1.1))
    held_more cs places (Referred x n t ∷ hs) g h = (h.0, (place_of_more cs t (places x) h.1.0, held_more cs places hs g h.1.1))
    held_more cs places (Copied x n t ∷ hs) g h = (h.0, (fine_more t (g x) h.1.0, held_more cs places hs g h.1.1))

    pub calls_same : (g : ℕ → List ℕ → Value) (cs : List Active) → CallsFine c.program (has_of c) c.img os g cs → flat_calls c.program (has_of c) c.img all g cs ≡ flat_calls c.program (has_of c) c.img os g cs
    calls_same g [] h = refl
    calls_same g (a ∷ cs) h =
        let base = call_start c.program (has_of c) c.img cs + slots_words a.held in
        ap (λ l. l ++ (flat_slots c.program (has_of c) c.img all cs a.places base a.held (g (length cs)) ++ flat_copies c.program (has_of c) c.img all a.held (g (length cs)))) (calls_same g cs h.0)
        ∙ ap (λ l. flat_calls c.program (has_of c) c.img os g cs ++ (l ++ flat_copies c.program (has_of c) c.img all a.held (g (length cs)))) (slots_same cs a.places base a.held (g (length cs)) h.1.1)
        ∙ ap (λ l. flat_calls c.program (has_of c) c.img os g cs ++ (flat_slots c.program (has_of c) c.img os cs a.places base a.held (g (length cs)) ++ l)) (copies_same cs a.places a.held (g (length cs)) h.1.1)

    pub calls_more : (g : ℕ → List ℕ → Value) (cs : List Active) → CallsFine c.program (has_of c) c.img os g cs → CallsFine c.program (has_of c) c.img all g cs
    calls_more g [] h = tt
    calls_more g (a ∷ cs) h = (calls_more g cs h.0, (h.1.0, held_more cs a.places a.held (g (length cs)) h.1.1))

    pub objects_same : (xs : List AnObject) (g : ℕ → Value) → ObjectsFine c.program (has_of c) c.img os xs g → flat_objects c.program (has_of c) c.img all xs g ≡ flat_objects c.program (has_of c) c.img os xs g
    objects_same [] g h = refl
    objects_same (x ∷ xs) g h =
        ap (λ l. l ++ (extra c.program (has_of c) c.img x ++ Wa (object_form x) (g (length xs)))) (objects_same xs g h.0) ∙ ap (λ l. flat_objects c.program (has_of c) c.img os xs g ++ (extra c.program (has_of c) c.img x ++ l)) (flat_same (object_form x) (g (length xs)) h.1.1)

    pub objects_more : (xs : List AnObject) (g : ℕ → Value) → ObjectsFine c.program (has_of c) c.img os xs g → ObjectsFine c.program (has_of c) c.img all xs g
    objects_more [] g h = tt
    objects_more (x ∷ xs) g h = (objects_more xs g h.0, (h.1.0, fine_more (object_form x) (g (length xs)) h.1.1))

    pub modules_same : (ms : List Module) (g : List ℕ → List ℕ → Value) → ModulesFine c.program (has_of c) c.img os ms g → flat_modules c.program (has_of c) c.img all ms g ≡ flat_modules c.program (has_of c) c.img os ms g
    modules_same [] g h = refl
    modules_same (m ∷ ms) g h =
        ap (λ l. (l ++ module_texts c.program m) ++ flat_modules c.program (has_of c) c.img all ms g) (slots_same [] (no_places c.program (has_of c) c.img) 0 (module_held c.program m) (g m.name) h.0)
        ∙ ap (λ l. (flat_slots c.program (has_of c) c.img os [] (no_places c.program (has_of c) c.img) 0 (module_held c.program m) (g m.name) ++ module_texts c.program m) ++ l) (modules_same ms g h.1)

    pub modules_more : (ms : List Module) (g : List ℕ → List ℕ → Value) → ModulesFine c.program (has_of c) c.img os ms g → ModulesFine c.program (has_of c) c.img all ms g
    modules_more [] g h = tt
    modules_more (m ∷ ms) g h = (held_more [] (no_places c.program (has_of c) c.img) (module_held c.program m) (g m.name) h.0, modules_more ms g h.1)
