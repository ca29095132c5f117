-- What is copied for a structured parameter by value stands at the address that is passed.
use Rattle.std.proofs.Common.{◌≡◌, ℕ, zero, suc, ◌≤◌, ◌<◌, List, [], ◌∷◌, ◌++◌, length, refl, sym, ap, ◌∙◌, subst, arith, append_assoc, length-append}
use Rattle.std.specs.Prelude.{ℤ, pos, Bool, true, false, map, take, replicate, ◌||◌, if◌then◌else◌}
use Rattle.ob_tree.specs.declared.names.QName.{QName}
use Rattle.ob_instr.specs.Image.{World}
use Rattle.ob_meaning.specs.Values.{Form, BasicForm, PointerForm, ProcedureForm, ArrayForm, OpenForm, RecordForm, Fields, NoField, AField, joined, fields_of, record_in, Value, Nil, length_of, field_of, value_at, OfModule, OfCall, OfObject, Step, FieldStep, ElementStep, Place, At, Active, AnObject, State}
use Rattle.ob_meaning.specs.Meaning.{has_field}
use Rattle.ob_meaning.specs.Operators.{character_at, text_value}
use Rattle.ob_meaning.specs.Calls.{copied_place}
use Rattle.law_simulation_relation.specs.Layout.{field_form, path_form, place_form, address}
use Rattle.law_simulation_relation.specs.Relation.{OrElse, Sub, itself, extended, opened, FieldIn, FormOk, PathIn, PlaceIn, PlaceOf}
use Rattle.law_simulation_relation.specs.Texts.{text_words}
use Rattle.law_simulation_relation.specs.Typed.{AreCharacters, char}
use Rattle.law_simulation_relation.proofs.Names.{same_field, field_same}
use Rattle.law_simulation_relation.proofs.Statements.{AlwaysAt}
use Rattle.law_simulation_relation.proofs.Parts.{F, Fs, W, Ws, We, field_ok, flat-length}
use Rattle.law_simulation_relation.proofs.Places.{Cs, Os}
use Rattle.law_simulation_relation.proofs.Modules.{Ms, module_known}
use Rattle.law_simulation_relation.proofs.Located.{call_form_ok, object_form_ok, located}
use Rattle.law_simulation_relation.proofs.Copies.{among, Source}
use Rattle.law_simulation_relation.specs.Setting.{Setting, StandIn, has_of}

-- FIELDS OF A TYPE ALONE

there_is : (fs : Fields) (o : QName) (x : List ℕ) → FieldIn fs o x → has_field fs o x ≡ true
there_is NoField o x h = absurd h
there_is (AField owner name t fs) o x h = go (same_field o x owner name) h (λ i. there_is fs o x i)
  where
    go : (b : Bool) → OrElse b (Unit {0}) (FieldIn fs o x) → (FieldIn fs o x → has_field fs o x ≡ true) → (b || has_field fs o x) ≡ true
    go true h rest = refl
    go false h rest = rest h

later : (owner : QName) (name : List ℕ) (t : Form) (fs : Fields) (o : QName) (x : List ℕ) → FieldIn fs o x → FieldIn (AField owner name t fs) o x
later owner name t fs o x h = go (same_field o x owner name)
  where
    go : (b : Bool) → OrElse b (Unit {0}) (FieldIn fs o x)
    go true = tt
    go false = h

at_once : (owner : QName) (name : List ℕ) (t : Form) (fs : Fields) → FieldIn (AField owner name t fs) owner name
at_once owner name t fs = go (same_field owner name owner name) (field_same owner name)
  where
    go : (b : Bool) → b ≡ true → OrElse b (Unit {0}) (FieldIn fs owner name)
    go true e = tt
    go false e = absurd (cc)

abbrev only : Fields → (QName → List ℕ → Value) → QName → List ℕ → Value
only all g o x = if has_field all o x then g o x else Nil

only_it : (all : Fields) (g : QName → List ℕ → Value) (o : QName) (x : List ℕ) → has_field all o x ≡ true → only all g o x ≡ g o x
only_it all g o x e = ap (λ b. if b then g o x else Nil) e

module _ (c : Setting) (os : List AnObject) where
  only_words : (all fs : Fields) (g : QName → List ℕ → Value) → ((o : QName) (x : List ℕ) → FieldIn fs o x → has_field all o x ≡ true) → Ws c os fs (only all g) ≡ Ws c os fs g
  only_words all NoField g h = refl
  only_words all (AField owner name t fs) g h =
      ap (λ v. W c os t v ++ Ws c os fs (only all g)) (only_it all g owner name (h owner name (at_once owner name t fs))) ∙ ap (λ l. W c os t (g owner name) ++ l) (only_words all fs g (λ o x i. h o x (later owner name t fs o x i)))

  only_fine : (all fs : Fields) (g : QName → List ℕ → Value) → ((o : QName) (x : List ℕ) → FieldIn fs o x → has_field all o x ≡ true) → Fs c os fs g → Fs c os fs (only all g)
  only_fine all NoField g h f = tt
  only_fine all (AField owner name t fs) g h f =
      (subst (λ v. F c os t v) (sym (only_it all g owner name (h owner name (at_once owner name t fs)))) f.0, only_fine all fs g (λ o x i. h o x (later owner name t fs o x i)) f.1)

  joined_words : (fs gs : Fields) (g : QName → List ℕ → Value) → Ws c os (joined fs gs) g ≡ Ws c os fs g ++ Ws c os gs g
  joined_words NoField gs g = refl
  joined_words (AField owner name t fs) gs g = ap (λ l. W c os t (g owner name) ++ l) (joined_words fs gs g) ∙ sym (append_assoc (W c os t (g owner name)) (Ws c os fs g) (Ws c os gs g))

  joined_fine : (fs gs : Fields) (g : QName → List ℕ → Value) → Fs c os (joined fs gs) g → Fs c os fs g
  joined_fine NoField gs g f = tt
  joined_fine (AField owner name t fs) gs g f = (f.0, joined_fine fs gs g f.1)

  -- STRINGS

  elements_front : (n : ℕ) (f : ℕ → List ℤ) → We c os (suc n) f ≡ f 0 ++ We c os n (λ i. f (suc i))
  elements_front zero f = append_end (f 0)
    where
      append_end : (l : List ℤ) → l ≡ l ++ []
      append_end [] = refl
      append_end (x ∷ l) = ap (λ k. x ∷ k) (append_end l)
  elements_front (suc n) f = ap (λ l. l ++ f (suc n)) (elements_front n f) ∙ append_assoc (f 0) (We c os n (λ i. f (suc i))) (f (suc n))

  characters_words : (text : List ℕ) (n k : ℕ) → n ≤ k → We c os n (λ i. pos (character_at text i) ∷ []) ≡ take n (map pos text ++ replicate k (pos 0))
  characters_words text zero k le = refl
  characters_words [] (suc n) zero le = absurd (omega (arith, le))
  characters_words [] (suc n) (suc k) le = elements_front n (λ i. pos 0 ∷ []) ∙ ap (λ l. pos 0 ∷ l) (characters_words [] n k (omega (arith, le)))
  characters_words (x ∷ text) (suc n) k le = elements_front n (λ i. pos (character_at (x ∷ text) i) ∷ []) ∙ ap (λ l. pos x ∷ l) (characters_words text n k (omega (arith, le)))

  are_below : (text : List ℕ) (i : ℕ) → AreCharacters text → character_at text i < 256
  are_below [] i h = omega arith
  are_below (x ∷ text) zero h = h.0
  are_below (x ∷ text) (suc i) h = are_below text i h.1

  text_is : (text : List ℕ) (n : ℕ) → W c os (ArrayForm n char) (text_value n text) ≡ text_words text n
  text_is text n = characters_words text n n (omega arith)

  text_fine : (text : List ℕ) (n : ℕ) → AreCharacters text → F c os (ArrayForm n char) (text_value n text)
  text_fine text n h = (refl, λ i lt. (character_at text i, are_below text i h, refl))

-- THE WORDS OF A STATE, with any free words of the stack
module _ (c : Setting) (cs : List Active) (s : State) (w : World) (st : StandIn c cs s w) where
  abbrev pub front : List ℤ
  front = Ms c s.made c.program s.store.globals ++ (c.behind ++ Cs c s.made s.store.locals cs)

  abbrev pub back : List ℤ
  back = Os c s.made s.made s.store.objects ++ st.heap_free

  abbrev pub room : ℕ
  room = length st.stack_free

  with_free : (mid : List ℤ) → length mid ≡ room → StandIn c cs s (record w { words = among front back room mid })
  with_free mid e = record {
    stack_free = mid;
    heap_free = st.heap_free;
    words = simp append_assoc;
    globals_size = st.globals_size;
    stack_size = omega (arith, st.stack_size, e);
    heap_size = st.heap_size;
    stack = st.stack;
    heap_next = st.heap_next;
    turns = st.turns;
    out = st.out;
    modules_fine = st.modules_fine;
    calls_fine = st.calls_fine;
    objects_fine = st.objects_fine;
  }

  abbrev Src : ℕ → List ℤ → Type 0
  Src a ws = Source front back room a ws

  place_source : (q : Place) → PlaceIn c.program (has_of c) c.img s.made cs q → Src (address c.program c.img s.made cs q) (W c s.made (place_form c.program c.img s.made cs q) (value_at s.store q))
  place_source q here = record { stand = λ mid e. let k = located c cs s (record w { words = among front back room mid }) (with_free mid e) q here in record { before = k.before; behind = k.behind; at = k.at; is = k.is } }

  place_fine : (q : Place) → PlaceIn c.program (has_of c) c.img s.made cs q → F c s.made (place_form c.program c.img s.made cs q) (value_at s.store q)
  place_fine q here = (located c cs s w st q here).fine

  path_ok : (path : List Step) (t : Form) → FormOk c.program t → PathIn t path → FormOk c.program (path_form t path)
  path_ok [] t ok here = ok
  path_ok (FieldStep o x ∷ path) (BasicForm b) ok here = absurd here
  path_ok (FieldStep o x ∷ path) (PointerForm b) ok here = absurd here
  path_ok (FieldStep o x ∷ path) (ProcedureForm b) ok here = absurd here
  path_ok (FieldStep o x ∷ path) (ArrayForm n t) ok here = absurd here
  path_ok (FieldStep o x ∷ path) (OpenForm t) ok here = absurd here
  path_ok (FieldStep o x ∷ path) (RecordForm [] fs) ok here = absurd ok
  path_ok (FieldStep o x ∷ path) (RecordForm (q ∷ line) fs) ok here = path_ok path (field_form fs o x) (field_ok c s.made fs o x here.0 ok.1) here.1
  path_ok (ElementStep i ∷ path) (BasicForm b) ok here = absurd here
  path_ok (ElementStep i ∷ path) (PointerForm b) ok here = absurd here
  path_ok (ElementStep i ∷ path) (ProcedureForm b) ok here = absurd here
  path_ok (ElementStep i ∷ path) (OpenForm t) ok here = absurd here
  path_ok (ElementStep i ∷ path) (RecordForm line fs) ok here = absurd here
  path_ok (ElementStep i ∷ path) (ArrayForm n t) ok here = path_ok path t ok.1 here.1

  pub place_ok : (q : Place) → PlaceIn c.program (has_of c) c.img s.made cs q → FormOk c.program (place_form c.program c.img s.made cs q)
  place_ok (At (OfModule m x) path) here = path_ok path _ (module_known c s.made c.program s.store.globals m x c.ok here.0 st.modules_fine).ok here.1
  place_ok (At (OfCall k x) path) here = path_ok path _ (call_form_ok c s.made cs s.store.locals k x here.0.1 st.calls_fine) here.1
  place_ok (At (OfObject n) path) here = path_ok path _ (object_form_ok c s.made s.made s.store.objects n here.0 st.objects_fine) here.1

  front_source : (a : ℕ) (vs us : List ℤ) → Src a (vs ++ us) → Src a vs
  front_source a vs us r = record { stand = λ mid e. let k = r.stand mid e in record { before = k.before; behind = us ++ k.behind; at = k.at; is = k.is ∙ ap (λ l. k.before ++ l) (append_assoc vs us k.behind) } }

  always_source : (a : ℕ) (ws : List ℤ) → AlwaysAt c a ws → Src a ws
  always_source a ws h = record {
    stand = λ mid e.
        let k = h s.made s.store.globals in
        record { before = k.before; behind = k.behind ++ (c.behind ++ (Cs c s.made s.store.locals cs ++ (mid ++ back))); at = k.at; is = ap (λ l. (l ++ (c.behind ++ Cs c s.made s.store.locals cs)) ++ (mid ++ back)) k.is ∙ simp append_assoc };
  }

  -- a value that stands at an address, as its type asks for
  pub record CopyOf (t : Form) (a : ℕ) (v : Value) : Type 0 where
    pub source : Src a (W c s.made t v)
    pub fine : F c s.made t v

  record_copy : (q : QName) (line : List QName) (fs gs : Fields) (a : ℕ) (v : Value) → record_in c.program q ≡ RecordForm (q ∷ line) fs → Src a (Ws c s.made (joined fs gs) (field_of v)) → Fs c s.made (joined fs gs) (field_of v) → CopyOf (RecordForm (q ∷ line) fs) a (copied_place c.program (RecordForm (q ∷ line) fs) v)
  record_copy q line fs gs a v named source fine =
      let all = fields_of (record_in c.program q) in
      let g = field_of v in
      let is : all ≡ fs = ap fields_of named in
      let has : (o : QName) (x : List ℕ) → FieldIn fs o x → has_field all o x ≡ true = λ o x i. ap (λ fs. has_field fs o x) is ∙ there_is fs o x i in
      record {
        source = subst (λ l. Src a l) (sym (only_words c s.made all fs g has)) (front_source a (Ws c s.made fs g) (Ws c s.made gs g) (subst (λ l. Src a l) (joined_words c s.made fs gs g) source));
        fine = (refl, only_fine c s.made all fs g has (joined_fine c s.made fs gs g fine));
      }

  joined_none : (fs : Fields) → joined fs NoField ≡ fs
  joined_none NoField = refl
  joined_none (AField owner name t fs) = ap (λ gs. AField owner name t gs) (joined_none fs)

  same_copy : (t : Form) (a : ℕ) (v : Value) → FormOk c.program t → Src a (W c s.made t v) → F c s.made t v → CopyOf t a (copied_place c.program t v)
  same_copy (BasicForm b) a v ok source fine = record { source = source; fine = fine }
  same_copy (PointerForm b) a v ok source fine = record { source = source; fine = fine }
  same_copy (ProcedureForm b) a v ok source fine = record { source = source; fine = fine }
  same_copy (ArrayForm n t) a v ok source fine = record { source = source; fine = fine }
  same_copy (OpenForm t) a v ok source fine = absurd ok
  same_copy (RecordForm [] fs) a v ok source fine = absurd ok
  same_copy (RecordForm (q ∷ line) fs) a v ok source fine =
      record_copy q line fs NoField a v ok.0 (subst (λ gs. Src a (Ws c s.made gs (field_of v))) (sym (joined_none fs)) source) (subst (λ gs. Fs c s.made gs (field_of v)) (sym (joined_none fs)) fine.1)

  sub_copy : (u t : Form) (a : ℕ) (v : Value) → Sub u t → FormOk c.program t → Src a (W c s.made u v) → F c s.made u v → CopyOf t a (copied_place c.program t v)
  sub_copy _ t a v itself ok source fine = same_copy t a v ok source fine
  sub_copy _ _ a v (extended more gs {line = []} {fs = fs}) ok source fine = absurd ok
  sub_copy _ _ a v (extended more gs {line = q ∷ line} {fs = fs}) ok source fine = record_copy q line fs gs a v ok.0 source fine.1
  sub_copy _ _ a v (opened n) ok source fine = absurd ok

  -- a variable of a type, or of an extension
  pub structure_copy : (t : Form) (q : Place) → FormOk c.program t → PlaceOf c.program (has_of c) c.img s.made cs t q → CopyOf t (address c.program c.img s.made cs q) (copied_place c.program t (value_at s.store q))
  structure_copy t q ok h = sub_copy (place_form c.program c.img s.made cs q) t _ _ h.1 ok (place_source q h.0) (place_fine q h.0)

  -- an array whose length is not known before
  pub record OpenCopy (u : Form) (q : Place) : Type 0 where
    pub n : ℕ
    pub form : place_form c.program c.img s.made cs q ≡ ArrayForm n u
    pub len : length_of (value_at s.store q) ≡ n
    pub ok : FormOk c.program (ArrayForm n u)
    pub copy : CopyOf (ArrayForm n u) (address c.program c.img s.made cs q) (value_at s.store q)

  array_form : (f t u : Form) (v : Value) → Sub f t → t ≡ OpenForm u → F c s.made f v → (n : ℕ) × (f ≡ ArrayForm n u)
  array_form _ t u v itself e fine = absurd (subst (λ f. F c s.made f v) e fine)
  array_form _ _ u v (extended more gs) e fine = absurd (cc)
  array_form _ _ u v (opened n {t = t}) e fine = (n, ap (λ t. ArrayForm n (element t)) e)
    where
      element : Form → Form
      element (OpenForm t) = t
      element t = t

  pub open_copy : (u : Form) (q : Place) → PlaceOf c.program (has_of c) c.img s.made cs (OpenForm u) q → OpenCopy u q
  open_copy u q h =
      let fine = place_fine q h.0 in
      let k = array_form (place_form c.program c.img s.made cs q) (OpenForm u) u (value_at s.store q) h.1 refl fine in
      let there : F c s.made (ArrayForm k.0 u) (value_at s.store q) = subst (λ f. F c s.made f (value_at s.store q)) k.1 fine in
      record {
        n = k.0;
        form = k.1;
        len = there.0;
        ok = subst (λ f. FormOk c.program f) k.1 (place_ok q h.0);
        copy = record { source = subst (λ f. Src (address c.program c.img s.made cs q) (W c s.made f (value_at s.store q))) k.1 (place_source q h.0); fine = there };
      }

  pub text_copy : (text : List ℕ) (n a : ℕ) → AreCharacters text → AlwaysAt c a (text_words text n) → CopyOf (ArrayForm n char) a (text_value n text)
  text_copy text n a chars h = record { source = subst (λ l. Src a l) (sym (text_is c s.made text n)) (always_source a (text_words text n) h); fine = text_fine c s.made text n chars }

  -- and is as short as the globals are
  pub text_small : (text : List ℕ) (n a : ℕ) → AlwaysAt c a (text_words text n) → n < 2147483648
  text_small text n a h =
      let k = h s.made s.store.globals in
      let len = ap length k.is ∙ length-append k.before _ in
      let inner = length-append (text_words text n) k.behind in
      let size = ap length (sym (text_is c s.made text n)) ∙ flat-length c s.made (ArrayForm n char) (text_value n text) in
      omega (arith, len, inner, size, st.globals_size, c.globals)
