-- A value's words among the words of what it is a part of, and how its type is kept.
use Rattle.std.proofs.lemmas.Bool.{eqb-true}
use Rattle.std.proofs.lemmas.Bool.Decides.{nat_tests}
use Rattle.std.proofs.Common.{◌≡◌, ℕ, zero, suc, ◌+◌, ◌*◌, ◌<◌, ◌≤◌, List, [], ◌∷◌, ◌++◌, length, Some, refl, sym, ap, ◌∙◌, subst, arith, append_assoc, append-nil, length-append}
use Rattle.std.specs.Prelude.{ℤ, Bool, true, false, nat_eq, ◌&&◌, bytes_eq, if◌then◌else◌}
use Rattle.ob_tree.specs.declared.names.QName.{QName}
use Rattle.ob_meaning.specs.Values.{same_name, changed_at, Form, BasicForm, PointerForm, ProcedureForm, ArrayForm, OpenForm, RecordForm, Fields, NoField, AField, words, fields_words, Value, Record, field_of, element_of, type_of, with_element, with_field, typed_record, Step, FieldStep, ElementStep, part, with_part, AnObject}
use Rattle.law_simulation_relation.specs.Layout.{field_offset, field_form, path_form, path_offset}
use Rattle.law_simulation_relation.specs.Relation.{OrElse, FieldIn, FreshField, FormOk, FieldsOk, PathIn, Fine, FieldsFine, flat, flat_fields, flat_elements}
use Rattle.law_simulation_relation.proofs.Names.{same_field, field_sym, field_true}
use Rattle.law_simulation_relation.specs.Setting.{Setting, has_of}

module _ (c : Setting) (os : List AnObject) where
  abbrev pub F : Form → Value → Type 0
  F t v = Fine c.program (has_of c) os t v

  abbrev pub Fs : Fields → (QName → List ℕ → Value) → Type 0
  Fs fs g = FieldsFine c.program (has_of c) os fs g

  abbrev pub W : Form → Value → List ℤ
  W t v = flat c.program (has_of c) c.img os t v

  abbrev pub Ws : Fields → (QName → List ℕ → Value) → List ℤ
  Ws fs g = flat_fields c.program (has_of c) c.img os fs g

  abbrev pub We : ℕ → (ℕ → List ℤ) → List ℤ
  We n f = flat_elements c.program (has_of c) c.img n f

  -- v's words stand at this offset in the words; with another value there, the words are as told
  pub record Part (t : Form) (v : Value) (now : List ℤ) (after : Value → List ℤ) (offset : ℕ) : Type 0 where
    pub before : List ℤ
    pub behind : List ℤ
    pub len : length before ≡ offset
    pub is : now ≡ before ++ (W t v ++ behind)
    pub will : (w : Value) → F t w → after w ≡ before ++ (W t w ++ behind)

  -- what stands before or behind
  pub part_before : (t : Form) (v : Value) (l now : List ℤ) (after : Value → List ℤ) (n : ℕ) → Part t v now after n → Part t v (l ++ now) (λ w. l ++ after w) (length l + n)
  part_before t v l now after n p = record {
    before = l ++ p.before;
    behind = p.behind;
    len = omega (arith, length-append l p.before, p.len);
    is = ap (λ k. l ++ k) p.is ∙ simp append_assoc;
    will = λ w f. ap (λ k. l ++ k) (p.will w f) ∙ simp append_assoc;
  }

  pub part_behind : (t : Form) (v : Value) (l now : List ℤ) (after : Value → List ℤ) (n : ℕ) → Part t v now after n → Part t v (now ++ l) (λ w. after w ++ l) n
  part_behind t v l now after n p = record {
    before = p.before;
    behind = p.behind ++ l;
    len = p.len;
    is = ap (λ k. k ++ l) p.is ∙ simp append_assoc;
    will = λ w f. ap (λ k. k ++ l) (p.will w f) ∙ simp append_assoc;
  }

  -- the same under other names
  pub part_same : (t : Form) (v v2 : Value) (now now2 : List ℤ) (after after2 : Value → List ℤ) (m n : ℕ) → Part t v now after m → v ≡ v2 → now ≡ now2 → ((w : Value) → F t w → after2 w ≡ after w) → m ≡ n → Part t v2 now2 after2 n
  part_same t v v2 now now2 after after2 m n p e e2 f h = record {
    before = p.before;
    behind = p.behind;
    len = p.len ∙ h;
    is = sym e2 ∙ p.is ∙ ap (λ x. p.before ++ (W t x ++ p.behind)) e;
    will = λ w g. f w g ∙ p.will w g;
  }

  elems_length : (n m : ℕ) (f : ℕ → List ℤ) → ((i : ℕ) → length (f i) ≡ m) → length (We n f) ≡ n * m
  elems_length zero m f h = omega arith
  elems_length (suc n) m f h = length-append (We n f) (f n) ∙ omega (arith, elems_length n m f h, h n)

  -- how many words there are
  mutual
    pub flat-length : (t : Form) (v : Value) → length (W t v) ≡ words t
    flat-length (BasicForm b) v = refl
    flat-length (PointerForm k) v = refl
    flat-length (ProcedureForm k) v = refl
    flat-length (ArrayForm n t) v = elems_length n (words t) (λ i. W t (element_of v i)) (λ i. flat-length t (element_of v i))
    flat-length (OpenForm t) v = refl
    flat-length (RecordForm line fs) v = fields-length fs (field_of v)

    pub fields-length : (fs : Fields) (g : QName → List ℕ → Value) → length (Ws fs g) ≡ fields_words fs
    fields-length NoField g = refl
    fields-length (AField owner name t fs) g = length-append (W t (g owner name)) (Ws fs g) ∙ omega (arith, flat-length t (g owner name), fields-length fs g)

  -- FIELDS

  -- a record's fields with one changed
  abbrev pub put : (QName → List ℕ → Value) → QName → List ℕ → Value → QName → List ℕ → Value
  put g o x w owner name = if bytes_eq name x && same_name owner o then w else g owner name

  pub put_other : (g : QName → List ℕ → Value) (o : QName) (x : List ℕ) (w : Value) (owner : QName) (name : List ℕ) → same_field o x owner name ≡ false → put g o x w owner name ≡ g owner name
  put_other g o x w owner name e = ap (λ b. if b then w else g owner name) (field_sym owner name o x ∙ e)

  pub put_own : (g : QName → List ℕ → Value) (o : QName) (x : List ℕ) (w : Value) (owner : QName) (name : List ℕ) → same_field o x owner name ≡ true → put g o x w owner name ≡ w
  put_own g o x w owner name e = ap (λ b. if b then w else g owner name) (field_sym owner name o x ∙ e)

  -- a field of another name keeps its words
  pub fields_fresh : (fs : Fields) (o : QName) (x : List ℕ) (g : QName → List ℕ → Value) (w : Value) → FreshField o x fs → Ws fs (put g o x w) ≡ Ws fs g
  fields_fresh NoField o x g w fresh = refl
  fields_fresh (AField owner name t fs) o x g w fresh =
      ap (λ v. W t v ++ Ws fs (put g o x w)) (put_other g o x w owner name fresh.0) ∙ ap (λ l. W t (g owner name) ++ l) (fields_fresh fs o x g w fresh.1)

  pub fresh_keeps : (fs : Fields) (o : QName) (x : List ℕ) (g : QName → List ℕ → Value) (w : Value) → FreshField o x fs → Fs fs g → Fs fs (put g o x w)
  fresh_keeps NoField o x g w fresh fine = tt
  fresh_keeps (AField owner name t fs) o x g w fresh fine = (subst (λ v. F t v) (sym (put_other g o x w owner name fresh.0)) fine.0, fresh_keeps fs o x g w fresh.1 fine.1)

  field_part : (fs : Fields) (o : QName) (x : List ℕ) (g : QName → List ℕ → Value) → FieldIn fs o x → FieldsOk c.program fs → Part (field_form fs o x) (g o x) (Ws fs g) (λ w. Ws fs (put g o x w)) (field_offset fs o x)
  field_part NoField o x g here ok = absurd here
  field_part (AField owner name t fs) o x g here ok = go (λ i. field_part fs o x g i ok.1.1) (same_field o x owner name) refl here
    where
      go : (FieldIn fs o x → Part (field_form fs o x) (g o x) (Ws fs g) (λ w. Ws fs (put g o x w)) (field_offset fs o x)) → (b : Bool) → same_field o x owner name ≡ b → OrElse b (Unit {0}) (FieldIn fs o x) → Part (if b then t else field_form fs o x) (g o x) (W t (g owner name) ++ Ws fs g) (λ w. W t (put g o x w owner name) ++ Ws fs (put g o x w)) (if b then 0 else words t + field_offset fs o x)
      go rest true e i =
          let h = field_true o x owner name e in
          let same : g o x ≡ g owner name = ap (λ q. g q x) h.0 ∙ ap (λ y. g owner y) h.1 in
          let fresh : FreshField o x fs = subst (λ q. FreshField q x fs) (sym h.0) (subst (λ y. FreshField owner y fs) (sym h.1) ok.0) in
          record {
            before = [];
            behind = Ws fs g;
            len = refl;
            is = ap (λ v. W t v ++ Ws fs g) (sym same);
            will = λ w f. ap (λ v. W t v ++ Ws fs (put g o x w)) (put_own g o x w owner name e) ∙ ap (λ l. W t w ++ l) (fields_fresh fs o x g w fresh);
          }
      go rest false e i =
          part_same (field_form fs o x) (g o x) (g o x) _ _ _ (λ w. W t (put g o x w owner name) ++ Ws fs (put g o x w)) _ _
          (part_before (field_form fs o x) (g o x) (W t (g owner name)) (Ws fs g) (λ w. Ws fs (put g o x w)) (field_offset fs o x) (rest i))
          refl refl (λ w f. ap (λ v. W t v ++ Ws fs (put g o x w)) (put_other g o x w owner name e)) (ap (λ n. n + field_offset fs o x) (flat-length t (g owner name)))

  pub field_ok : (fs : Fields) (o : QName) (x : List ℕ) → FieldIn fs o x → FieldsOk c.program fs → FormOk c.program (field_form fs o x)
  field_ok NoField o x here ok = absurd here
  field_ok (AField owner name t fs) o x here ok = go (same_field o x owner name) here (λ i. field_ok fs o x i ok.1.1)
    where
      go : (b : Bool) → OrElse b (Unit {0}) (FieldIn fs o x) → (FieldIn fs o x → FormOk c.program (field_form fs o x)) → FormOk c.program (if b then t else field_form fs o x)
      go true i rest = ok.1.0
      go false i rest = rest i

  field_fine : (fs : Fields) (o : QName) (x : List ℕ) (g : QName → List ℕ → Value) → FieldIn fs o x → Fs fs g → F (field_form fs o x) (g o x)
  field_fine NoField o x g here fine = absurd here
  field_fine (AField owner name t fs) o x g here fine = go (same_field o x owner name) refl here (λ i. field_fine fs o x g i fine.1)
    where
      go : (b : Bool) → same_field o x owner name ≡ b → OrElse b (Unit {0}) (FieldIn fs o x) → (FieldIn fs o x → F (field_form fs o x) (g o x)) → F (if b then t else field_form fs o x) (g o x)
      go true e i rest = let h = field_true o x owner name e in subst (λ v. F t v) (sym (ap (λ q. g q x) h.0 ∙ ap (λ y. g owner y) h.1)) fine.0
      go false e i rest = rest i

  field_keeps : (fs : Fields) (o : QName) (x : List ℕ) (g : QName → List ℕ → Value) (w : Value) → FieldIn fs o x → FieldsOk c.program fs → F (field_form fs o x) w → Fs fs g → Fs fs (put g o x w)
  field_keeps NoField o x g w here ok new fine = absurd here
  field_keeps (AField owner name t fs) o x g w here ok new fine = go (same_field o x owner name) refl here new (λ i n. field_keeps fs o x g w i ok.1.1 n fine.1)
    where
      go : (b : Bool) → same_field o x owner name ≡ b → OrElse b (Unit {0}) (FieldIn fs o x) → F (if b then t else field_form fs o x) w → (FieldIn fs o x → F (field_form fs o x) w → Fs fs (put g o x w)) → F t (put g o x w owner name) × Fs fs (put g o x w)
      go true e i new rest =
          let h = field_true o x owner name e in
          let fresh : FreshField o x fs = subst (λ q. FreshField q x fs) (sym h.0) (subst (λ y. FreshField owner y fs) (sym h.1) ok.0) in
          (subst (λ v. F t v) (sym (put_own g o x w owner name e)) new, fresh_keeps fs o x g w fresh fine.1)
      go false e i new rest = (subst (λ v. F t v) (sym (put_other g o x w owner name e)) fine.0, rest i new)

  -- ELEMENTS

  elems_other : (n i : ℕ) (t : Form) (g : ℕ → Value) (w : Value) → n ≤ i → We n (λ j. W t (changed_at g i w j)) ≡ We n (λ j. W t (g j))
  elems_other zero i t g w le = refl
  elems_other (suc n) i t g w le =
      let e : nat_eq n i ≡ false = grind (arith, nat_tests) in
      ap (λ l. l ++ W t (changed_at g i w n)) (elems_other n i t g w (omega arith)) ∙ ap (λ b. We n (λ j. W t (g j)) ++ W t (if b then w else g n)) e

  elem_part : (n i : ℕ) (t : Form) (g : ℕ → Value) → i < n → ((v : Value) → length (W t v) ≡ words t) → Part t (g i) (We n (λ j. W t (g j))) (λ w. We n (λ j. W t (changed_at g i w j))) (i * words t)
  elem_part zero i t g lt len = absurd (omega arith)
  elem_part (suc n) i t g lt len = go (nat_eq n i) refl (λ lt. elem_part n i t g lt len)
    where
      all : List ℤ
      all = We n (λ j. W t (g j))

      new : Value → List ℤ
      new w = We n (λ j. W t (changed_at g i w j))

      go : (b : Bool) → nat_eq n i ≡ b → (i < n → Part t (g i) all new (i * words t)) → Part t (g i) (all ++ W t (g n)) (λ w. new w ++ W t (changed_at g i w n)) (i * words t)
      go true e rest =
          let same : n ≡ i = eqb-true n i e in
          record {
            before = all;
            behind = [];
            len = elems_length n (words t) (λ j. W t (g j)) (λ j. len (g j)) ∙ ap (λ k. k * words t) same;
            is = ap (λ j. all ++ W t (g j)) same ∙ ap (λ l. all ++ l) (sym (append-nil _));
            will = λ w f. ap (λ l. l ++ W t (changed_at g i w n)) (elems_other n i t g w (omega arith)) ∙ ap (λ b. all ++ W t (if b then w else g n)) e ∙ ap (λ l. all ++ l) (sym (append-nil _));
          }
      go false e rest =
          let lt2 : i < n = grind (arith, nat_tests) in
          part_same t (g i) (g i) _ _ _ (λ w. new w ++ W t (changed_at g i w n)) _ _ (part_behind t (g i) (W t (g n)) all new _ (rest lt2)) refl refl (λ w f. ap (λ b. new w ++ W t (if b then w else g n)) e) refl

  -- PATHS

  -- what is known of a part: its words, its type, and that another value of the type may stand there
  pub record Known (t : Form) (v : Value) (now : List ℤ) (after : Value → List ℤ) (n : ℕ) (Fits : Value → Type 0) : Type 0 where
    pub part : Part t v now after n
    pub fine : F t v
    pub keeps : (w : Value) → F t w → Fits w

  -- a part of a part
  pub known_inside : (t u : Form) (v v2 : Value) (now : List ℤ) (after : Value → List ℤ) (change : Value → Value) (m n : ℕ) (Fits : Value → Type 0) → Known t v now after m Fits → Known u v2 (W t v) (λ w. W t (change w)) n (λ w. F t (change w)) → Known u v2 now (λ w. after (change w)) (m + n) (λ w. Fits (change w))
  known_inside t u v v2 now after change m n Fits p q = record {
    part = record {
      before = p.part.before ++ q.part.before;
      behind = q.part.behind ++ p.part.behind;
      len = omega (arith, length-append p.part.before q.part.before, p.part.len, q.part.len);
      is = p.part.is ∙ ap (λ l. p.part.before ++ (l ++ p.part.behind)) q.part.is ∙ simp append_assoc;
      will = λ w f. p.part.will (change w) (q.keeps w f) ∙ ap (λ l. p.part.before ++ (l ++ p.part.behind)) (q.part.will w f) ∙ simp append_assoc;
    };
    fine = q.fine;
    keeps = λ w f. p.keeps (change w) (q.keeps w f);
  }

  -- a record's field
  field_of_new : (v : Value) (q : QName) (o : QName) (x : List ℕ) (w : Value) → type_of v ≡ Some q → with_field v o x w ≡ Record q (put (field_of v) o x w)
  field_of_new v q o x w e = ap (λ t. typed_record t (put (field_of v) o x w)) e

  field_known : (q : QName) (line : List QName) (fs : Fields) (o : QName) (x : List ℕ) (v : Value) → FieldIn fs o x → FieldsOk c.program fs → F (RecordForm (q ∷ line) fs) v → Known (field_form fs o x) (field_of v o x) (W (RecordForm (q ∷ line) fs) v) (λ w. W (RecordForm (q ∷ line) fs) (with_field v o x w)) (field_offset fs o x) (λ w. F (RecordForm (q ∷ line) fs) (with_field v o x w))
  field_known q line fs o x v here ok fine = record {
    part = part_same (field_form fs o x) _ _ _ _ _ (λ w. Ws fs (field_of (with_field v o x w))) _ _ (field_part fs o x (field_of v) here ok) refl refl (λ w f. ap (λ n. Ws fs (field_of n)) (field_of_new v q o x w fine.0)) refl;
    fine = field_fine fs o x (field_of v) here fine.1;
    keeps = λ w f. subst (λ n. F (RecordForm (q ∷ line) fs) n) (sym (field_of_new v q o x w fine.0)) (refl, field_keeps fs o x (field_of v) w here ok f fine.1);
  }

  element_keeps : (n i : ℕ) (t : Form) (v w : Value) → F (ArrayForm n t) v → F t w → F (ArrayForm n t) (with_element v i w)
  element_keeps n i t v w fine f = (fine.0, λ j lt. pick (nat_eq j i) w (element_of v j) f (fine.1 j lt))
    where
      pick : (b : Bool) (x y : Value) → F t x → F t y → F t (if b then x else y)
      pick true x y h k = h
      pick false x y h k = k

  element_known : (n i : ℕ) (t : Form) (v : Value) → i < n → F (ArrayForm n t) v → Known t (element_of v i) (W (ArrayForm n t) v) (λ w. W (ArrayForm n t) (with_element v i w)) (i * words t) (λ w. F (ArrayForm n t) (with_element v i w))
  element_known n i t v lt fine = record {
    part = elem_part n i t (element_of v) lt (λ v. flat-length t v);
    fine = fine.1 i lt;
    keeps = λ w f. element_keeps n i t v w fine f;
  }

  pub path_known : (path : List Step) (t : Form) (v : Value) → FormOk c.program t → PathIn t path → F t v → Known (path_form t path) (part v path) (W t v) (λ w. W t (with_part v path w)) (path_offset t path) (λ w. F t (with_part v path w))
  path_known [] t v ok here fine = record {
    part = record { before = []; behind = []; len = refl; is = sym (append-nil _); will = λ w f. sym (append-nil _) };
    fine = fine;
    keeps = λ w f. f;
  }
  path_known (FieldStep o x ∷ path) (BasicForm b) v ok here fine = absurd here
  path_known (FieldStep o x ∷ path) (PointerForm b) v ok here fine = absurd here
  path_known (FieldStep o x ∷ path) (ProcedureForm b) v ok here fine = absurd here
  path_known (FieldStep o x ∷ path) (ArrayForm n t) v ok here fine = absurd here
  path_known (FieldStep o x ∷ path) (OpenForm t) v ok here fine = absurd here
  path_known (FieldStep o x ∷ path) (RecordForm [] fs) v ok here fine = absurd ok
  path_known (FieldStep o x ∷ path) (RecordForm (q ∷ line) fs) v ok here fine =
      known_inside (field_form fs o x) (path_form (field_form fs o x) path) (field_of v o x) (part (field_of v o x) path) (W (RecordForm (q ∷ line) fs) v) (λ w. W (RecordForm (q ∷ line) fs) (with_field v o x w)) (λ w. with_part (field_of v o x) path w) (field_offset fs o x) (path_offset (field_form fs o x) path) (λ w. F (RecordForm (q ∷ line) fs) (with_field v o x w))
      (field_known q line fs o x v here.0 ok.1 fine)
      (path_known path (field_form fs o x) (field_of v o x) (field_ok fs o x here.0 ok.1) here.1 (field_fine fs o x (field_of v) here.0 fine.1))
  path_known (ElementStep i ∷ path) (BasicForm b) v ok here fine = absurd here
  path_known (ElementStep i ∷ path) (PointerForm b) v ok here fine = absurd here
  path_known (ElementStep i ∷ path) (ProcedureForm b) v ok here fine = absurd here
  path_known (ElementStep i ∷ path) (OpenForm t) v ok here fine = absurd here
  path_known (ElementStep i ∷ path) (RecordForm line fs) v ok here fine = absurd here
  path_known (ElementStep i ∷ path) (ArrayForm n t) v ok here fine =
      known_inside t (path_form t path) (element_of v i) (part (element_of v i) path) (W (ArrayForm n t) v) (λ w. W (ArrayForm n t) (with_element v i w)) (λ w. with_part (element_of v i) path w) (i * words t) (path_offset t path) (λ w. F (ArrayForm n t) (with_element v i w))
      (element_known n i t v here.0 fine)
      (path_known path t (element_of v i) ok.1 here.1 (fine.1 i here.0))
