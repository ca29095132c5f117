-- A record copied to one of its type or of a base's: the words of the fields that both have.
use Rattle.std.proofs.Math.Seq.{take-append_seam, drop-append_seam}
use Rattle.std.proofs.lemmas.Bool.Decides.{nat_tests}
use Rattle.std.proofs.Common.{◌≡◌, ℕ, zero, suc, ◌+◌, ◌-◌, List, [], ◌∷◌, ◌++◌, length, take, drop, Some, None, refl, sym, ap, ◌∙◌, subst, arith, append_assoc, append-nil, length-append}
use Rattle.std.specs.Prelude.{ℤ, pos, true, ◌&&◌, ◌||◌, nat_le, bytes_eq, if◌then◌else◌}
use Rattle.ob_tree.specs.declared.names.QName.{QName}
use Rattle.ob_mem.specs.Words.{copied, with_words, words_at}
use Rattle.ob_instr.specs.Image.{World}
use Rattle.ob_meaning.specs.Values.{same_name, Form, RecordForm, Fields, NoField, AField, joined, fields_of, record_in, words, fields_words, Value, Nil, field_of, value_at, with_value_at, Place, Active, AnObject, State}
use Rattle.ob_meaning.specs.Meaning.{has_field, as_record}
use Rattle.law_simulation_relation.specs.Layout.{place_form, address}
use Rattle.law_simulation_relation.specs.Relation.{PlaceIn, PlaceOf, Sub, itself, extended, opened}
use Rattle.law_simulation_relation.proofs.Names.{bytes_same, name_same}
use Rattle.law_simulation_relation.proofs.Parts.{F, Fs, W, Ws, fields-length}
use Rattle.law_simulation_relation.proofs.Located.{located}
use Rattle.law_simulation_relation.proofs.Copies.{put_seam}
use Rattle.law_simulation_relation.specs.Setting.{Setting, StandIn, has_of}
use Rattle.law_lists.proofs.Lists.{or_second}

-- WORDS COPIED

none_long : (m : List ℤ) → length m ≡ 0 → m ≡ []
none_long [] e = refl
none_long (x ∷ m) e = absurd (omega (arith, e))

copied_words : (l f1 m1 b1 f2 m2 b2 : List ℤ) (n : ℕ) → l ≡ f1 ++ (m1 ++ b1) → l ≡ f2 ++ (m2 ++ b2) → length m1 ≡ n → length m2 ≡ n → copied l (pos (suc (length f1))) (pos (suc (length f2))) n ≡ Some (f1 ++ (m2 ++ b1))
copied_words l f1 m1 b1 f2 m2 b2 zero e1 e2 n1 n2 = ap Some (e1 ∙ ap (λ m. f1 ++ (m ++ b1)) (none_long m1 n1 ∙ sym (none_long m2 n2)))
copied_words l f1 m1 b1 f2 m2 b2 (suc n) e1 e2 n1 n2 =
    let all1 : length l ≡ length f1 + (length m1 + length b1) = ap length e1 ∙ length-append f1 (m1 ++ b1) ∙ ap (λ k. length f1 + k) (length-append m1 b1) in
    let all2 : length l ≡ length f2 + (length m2 + length b2) = ap length e2 ∙ length-append f2 (m2 ++ b2) ∙ ap (λ k. length f2 + k) (length-append m2 b2) in
    let there1 : nat_le (length f1 + suc n) (length l) ≡ true = grind (arith, nat_tests) in
    let there2 : nat_le (length f2 + suc n) (length l) ≡ true = grind (arith, nat_tests) in
    let first1 : suc (length f1) - 1 ≡ length f1 = omega arith in
    let first2 : suc (length f2) - 1 ≡ length f2 = omega arith in
    let read : words_at l (pos (suc (length f2))) (suc n) ≡ m2 =
    ap (λ k. take (suc n) (drop k l)) first2 ∙ ap (λ l. take (suc n) (drop (length f2) l)) e2 ∙ ap (take (suc n)) (drop-append_seam f2 (m2 ++ b2)) ∙ ap (λ k. take k (m2 ++ b2)) (sym n2) ∙ take-append_seam m2 b2 in
    ap (λ x. if x && nat_le (length f2 + suc n) (length l) then Some (with_words l (pos (suc (length f1))) (words_at l (pos (suc (length f2))) (suc n))) else None) there1
    ∙ ap (λ x. if x then Some (with_words l (pos (suc (length f1))) (words_at l (pos (suc (length f2))) (suc n))) else None) there2
    ∙ ap (λ m. Some (with_words l (pos (suc (length f1))) m)) read
    ∙ ap Some (put_seam l f1 m1 b1 m2 (suc (length f1) - 1) (suc n) e1 (sym first1) n1 n2)

-- THE FIELDS OF A TYPE ALONE

-- these fields are among those
abbrev Among : Fields → Fields → Type 0
Among NoField fs = Unit {0}
Among (AField owner name t gs) fs = (has_field fs owner name ≡ true) × Among gs fs

among_more : (gs : Fields) (owner : QName) (name : List ℕ) (t : Form) (fs : Fields) → Among gs fs → Among gs (AField owner name t fs)
among_more NoField owner name t fs h = tt
among_more (AField o x u gs) owner name t fs h = (or_second (bytes_eq x name && same_name o owner) (has_field fs o x) h.0, among_more gs owner name t fs h.1)

among_all : (fs : Fields) → Among fs fs
among_all NoField = tt
among_all (AField owner name t fs) =
    let own : (bytes_eq name name && same_name owner owner) ≡ true = ap (λ b. b && same_name owner owner) (bytes_same name) ∙ name_same owner in
    (ap (λ b. b || has_field fs owner name) own, among_more fs owner name t fs (among_all fs))

abbrev alone : Fields → (QName → List ℕ → Value) → QName → List ℕ → Value
alone fs g o x = if has_field fs o x then g o x else Nil

module _ (c : Setting) (os : List AnObject) where
  alone_words : (gs fs : Fields) (g : QName → List ℕ → Value) → Among gs fs → Ws c os gs (alone fs g) ≡ Ws c os gs g
  alone_words NoField fs g h = refl
  alone_words (AField owner name t gs) fs g h =
      ap (λ b. W c os t (if b then g owner name else Nil) ++ Ws c os gs (alone fs g)) h.0 ∙ ap (λ l. W c os t (g owner name) ++ l) (alone_words gs fs g h.1)

  alone_fine : (gs fs : Fields) (g : QName → List ℕ → Value) → Among gs fs → Fs c os gs g → Fs c os gs (alone fs g)
  alone_fine NoField fs g h fine = tt
  alone_fine (AField owner name t gs) fs g h fine = (subst (λ b. F c os t (if b then g owner name else Nil)) (sym h.0) fine.0, alone_fine gs fs g h.1 fine.1)

  first_words : (fs gs : Fields) (g : QName → List ℕ → Value) → Ws c os (joined fs gs) g ≡ Ws c os fs g ++ Ws c os gs g
  first_words NoField gs g = refl
  first_words (AField owner name t fs) gs g = ap (λ l. W c os t (g owner name) ++ l) (first_words fs gs g) ∙ simp append_assoc

  first_fields : (fs gs : Fields) (g : QName → List ℕ → Value) → Fs c os (joined fs gs) g → Fs c os fs g
  first_fields NoField gs g fine = tt
  first_fields (AField owner name t fs) gs g fine = (fine.0, first_fields fs gs g fine.1)

  -- a record's value as one of a type that it extends
  pub record FirstPart (fs : Fields) (t : Form) (v : Value) : Type 0 where
    pub rest : List ℤ
    pub is : W c os t v ≡ Ws c os fs (field_of v) ++ rest
    pub fine : F c os t v → Fs c os fs (field_of v)

  first_part : (t u : Form) (line : List QName) (fs : Fields) (v : Value) → Sub t u → u ≡ RecordForm line fs → FirstPart fs t v
  first_part t _ line fs v itself e = record { rest = []; is = ap (λ u. W c os u v) e ∙ sym (append-nil _); fine = λ f. (subst (λ u. F c os u v) e f).1 }
  first_part _ _ line fs v (extended more gs {line = line2} {fs = fs2}) e =
      let same : fs2 ≡ fs = ap fields_of e in
      record {
        rest = Ws c os gs (field_of v);
        is = first_words fs2 gs (field_of v) ∙ ap (λ k. Ws c os k (field_of v) ++ Ws c os gs (field_of v)) same;
        fine = λ f. subst (λ k. Fs c os k (field_of v)) same (first_fields fs2 gs (field_of v) f.1);
      }
  first_part _ _ line fs v (opened n) e = absurd (cc)

module _ (c : Setting) (cs : List Active) (s : State) (w : World) (st : StandIn c cs s w) where
  abbrev form_at : Place → Form
  form_at p = place_form c.program c.img s.made cs p

  abbrev address_at : Place → ℕ
  address_at p = address c.program c.img s.made cs p

  -- the words of a type's fields at a place of that type
  pub record FieldsAt (fs : Fields) (p : Place) : Type 0 where
    pub before : List ℤ
    pub behind : List ℤ
    pub at : suc (length before) ≡ address_at p
    pub is : w.words ≡ before ++ (Ws c s.made fs (field_of (value_at s.store p)) ++ behind)
    pub fine : Fs c s.made fs (field_of (value_at s.store p))

  fields_at : (t : Form) (line : List QName) (fs : Fields) (p : Place) → PlaceOf c.program (has_of c) c.img s.made cs t p → t ≡ RecordForm line fs → FieldsAt fs p
  fields_at t line fs p k e =
      let l = located c cs s w st p k.0 in
      let v = value_at s.store p in
      let f = first_part c s.made (form_at p) t line fs v k.1 e in
      record {
        before = l.before;
        behind = f.rest ++ l.behind;
        at = l.at;
        is = l.is ∙ ap (λ m. l.before ++ (m ++ l.behind)) f.is ∙ ap (λ m. l.before ++ m) (append_assoc (Ws c s.made fs (field_of v)) f.rest l.behind);
        fine = f.fine l.fine;
      }

  -- the words are there, whatever extension the target is
  pub copy_there : (t : Form) (line : List QName) (fs : Fields) (p p2 : Place) → t ≡ RecordForm line fs → PlaceOf c.program (has_of c) c.img s.made cs t p → PlaceOf c.program (has_of c) c.img s.made cs t p2 → (l : List ℤ) × (copied w.words (pos (address_at p)) (pos (address_at p2)) (words t) ≡ Some l)
  copy_there t line fs p p2 e k k2 =
      let x = fields_at t line fs p k e in
      let y = fields_at t line fs p2 k2 e in
      let g = field_of (value_at s.store p) in
      let h = field_of (value_at s.store p2) in
      let size : words t ≡ fields_words fs = ap words e in (
        x.before ++ (Ws c s.made fs h ++ x.behind),
        ap (λ m. copied w.words (pos m) (pos (address_at p2)) (words t)) (sym x.at) ∙ ap (λ m. copied w.words (pos (suc (length x.before))) (pos m) (words t)) (sym y.at)
            ∙ copied_words w.words x.before (Ws c s.made fs g) x.behind y.before (Ws c s.made fs h) y.behind (words t) x.is y.is (fields-length c s.made fs g ∙ sym size) (fields-length c s.made fs h ∙ sym size),
      )

  -- a copy to a target of the very type
  pub copy_stands : (q : QName) (line : List QName) (fs : Fields) (p p2 : Place) → record_in c.program q ≡ RecordForm (q ∷ line) fs → PlaceIn c.program (has_of c) c.img s.made cs p → form_at p ≡ record_in c.program q → PlaceOf c.program (has_of c) c.img s.made cs (record_in c.program q) p2 →
      (l : List ℤ) × (copied w.words (pos (address_at p)) (pos (address_at p2)) (words (record_in c.program q)) ≡ Some l) × StandIn c cs (record s { store = with_value_at s.store p (as_record c.program q (value_at s.store p2)) }) (record w { words = l })
  copy_stands q line fs p p2 e here exact k2 =
      let t = record_in c.program q in
      let x = located c cs s w st p here in
      let y = fields_at t (q ∷ line) fs p2 k2 e in
      let h = field_of (value_at s.store p2) in
      let new = as_record c.program q (value_at s.store p2) in
      let own : fields_of t ≡ fs = ap fields_of e in
      let size : words t ≡ fields_words fs = ap words e in
      let form : form_at p ≡ RecordForm (q ∷ line) fs = exact ∙ e in
      let old_is : W c s.made (form_at p) (value_at s.store p) ≡ Ws c s.made fs (field_of (value_at s.store p)) = ap (λ u. W c s.made u (value_at s.store p)) form in
      let new_is : W c s.made (form_at p) new ≡ Ws c s.made fs h = ap (λ u. W c s.made u new) form ∙ ap (λ k. Ws c s.made fs (alone k h)) own ∙ alone_words c s.made fs fs h (among_all fs) in
      let fine_fields : Fs c s.made fs (alone (fields_of t) h) = subst (λ k. Fs c s.made fs (alone k h)) (sym own) (alone_fine c s.made fs fs h (among_all fs) y.fine) in
      let fine : F c s.made (form_at p) new = subst (λ u. F c s.made u new) (sym form) (refl, fine_fields) in (
        x.before ++ (Ws c s.made fs h ++ x.behind),
        ap (λ m. copied w.words (pos m) (pos (address_at p2)) (words t)) (sym x.at) ∙ ap (λ m. copied w.words (pos (suc (length x.before))) (pos m) (words t)) (sym y.at)
            ∙ copied_words w.words x.before (Ws c s.made fs (field_of (value_at s.store p))) x.behind y.before (Ws c s.made fs h) y.behind (words t) (x.is ∙ ap (λ m. x.before ++ (m ++ x.behind)) old_is) y.is (fields-length c s.made fs (field_of (value_at s.store p)) ∙ sym size) (fields-length c s.made fs h ∙ sym size),
        subst (λ m. StandIn c cs (record s { store = with_value_at s.store p new }) (record w { words = x.before ++ (m ++ x.behind) })) new_is (x.stands new fine),
      )
