-- The form that stands at a place is the one of its name, and an object of a record type has its tag before its first word.
use Rattle.std.proofs.Common.{◌≡◌, ℕ, suc, ◌+◌, ◌<◌, List, [], ◌∷◌, ◌++◌, length, Some, refl, sym, ap, ◌∙◌, subst, arith, append_assoc}
use Rattle.std.proofs.lemmas.Bool.Decides.{nat_tests}
use Rattle.std.proofs.Math.IntN.{ -ℤ_one}
use Rattle.std.specs.Prelude.{◌-ℤ◌, ℤ, pos, Bool, true, false, ◌||◌, nat_eq, if◌then◌else◌}
use Rattle.ob_tree.specs.declared.names.QName.{QName}
use Rattle.ob_mem.specs.Words.{word_at}
use Rattle.ob_instr.specs.Image.{World}
use Rattle.ob_meaning.specs.Values.{same_name, Form, ArrayForm, OpenForm, RecordForm, Fields, NoField, AField, joined, line_of, fields_of, record_in, is_among, Value, type_of, value_at, Place, Active, AnObject, Whole, Opened, State}
use Rattle.ob_meaning.specs.Meaning.{costs_of}
use Rattle.law_simulation_relation.specs.Layout.{place_form, object_at, object_form, object_offset, extra_words, heap_start}
use Rattle.law_simulation_relation.specs.Relation.{FormOk, PlaceIn, Sub, itself, extended, opened, Fine, tag_of}
use Rattle.law_simulation_relation.proofs.Names.{name_true}
use Rattle.law_simulation_relation.proofs.Parts.{W}
use Rattle.law_simulation_relation.proofs.Places.{Os, Ex, Cs, objects-length, calls-length}
use Rattle.law_simulation_relation.proofs.Modules.{Ms}
use Rattle.law_simulation_relation.proofs.Located.{located}
use Rattle.law_simulation_relation.proofs.Slots.{WordAt, word_before, word_behind, word_same, word_got}
use Rattle.law_simulation_relation.specs.Setting.{Setting, StandIn, has_of}
use Rattle.law_simulation_records.specs.Bases.{BasesStand}
use Rattle.law_simulation_records.proofs.Bases.{own_fields}

pub one_less : (n : ℕ) → pos (suc n) -ℤ pos 1 ≡ pos n
one_less n = -ℤ_one (pos (suc n))

-- EXTENSIONS

joined_joined : (fs gs hs : Fields) → joined (joined fs gs) hs ≡ joined fs (joined gs hs)
joined_joined NoField gs hs = refl
joined_joined (AField owner name t fs) gs hs = ap (λ k. AField owner name t k) (joined_joined fs gs hs)

sub_more : (more : List QName) (gs : Fields) (line : List QName) (fs : Fields) (y z : Form) → y ≡ RecordForm line fs → Sub y z → Sub (RecordForm (more ++ line) (joined fs gs)) z
sub_more more gs line fs y _ e itself = subst (λ u. Sub (RecordForm (more ++ line) (joined fs gs)) u) (sym e) (extended more gs)
sub_more more gs line fs _ _ e (extended more2 gs2 {line = line2} {fs = fs2}) =
    let l : (more ++ more2) ++ line2 ≡ more ++ line = append_assoc more more2 line2 ∙ ap (λ k. more ++ line_of k) e in
    let f : joined fs2 (joined gs2 gs) ≡ joined fs gs = sym (joined_joined fs2 gs2 gs) ∙ ap (λ k. joined (fields_of k) gs) e in
    subst (λ k. Sub (RecordForm k (joined fs gs)) (RecordForm line2 fs2)) l (subst (λ k. Sub (RecordForm ((more ++ more2) ++ line2) k) (RecordForm line2 fs2)) f (extended (more ++ more2) (joined gs2 gs)))
sub_more more gs line fs _ _ e (opened n) = absurd (cc)

sub_open : (n : ℕ) (t y z : Form) → y ≡ OpenForm t → Sub y z → Sub (ArrayForm n t) z
sub_open n t y _ e itself = subst (λ u. Sub (ArrayForm n t) u) (sym e) (opened n)
sub_open n t _ _ e (extended more gs) = absurd (cc)
sub_open n t _ _ e (opened k) = absurd (cc)

-- an extension of an extension
pub sub_sub : (x y z : Form) → Sub x y → Sub y z → Sub x z
sub_sub x _ z itself h = h
sub_sub _ _ z (extended more gs {line = line} {fs = fs}) h = sub_more more gs line fs _ z refl h
sub_sub _ _ z (opened n {t = t}) h = sub_open n t _ z refl h

abbrev element_of_open : Form → Form → Form
element_of_open u (OpenForm t) = t
element_of_open u t = u

-- RECORDS AT PLACES

-- the form of a record, which is the one of its name
pub record IsRecord (c : Setting) (t : Form) : Type 0 where
  pub name : QName
  pub line : List QName
  pub fields : Fields
  pub is : t ≡ RecordForm (name ∷ line) fields
  pub built : record_in c.program name ≡ RecordForm (name ∷ line) fields

module _ (c : Setting) where
  pub is_record : (t : Form) (line : List QName) (fs : Fields) → t ≡ RecordForm line fs → FormOk c.program t → IsRecord c t
  is_record t [] fs e ok = absurd (subst (λ u. FormOk c.program u) e ok)
  is_record t (q ∷ line) fs e ok = record { name = q; line = line; fields = fs; is = e; built = (subst (λ u. FormOk c.program u) e ok).0 }

  -- what extends a record is one
  pub record_below : (t u : Form) (line : List QName) (fs : Fields) → Sub t u → u ≡ RecordForm line fs → FormOk c.program t → IsRecord c t
  record_below t _ line fs itself e ok = is_record t line fs e ok
  record_below _ _ line fs (extended more gs {line = line2} {fs = fs2}) e ok = is_record _ (more ++ line2) (joined fs2 gs) refl ok
  record_below _ _ line fs (opened n) e ok = absurd (cc)

  -- what a record extends is one
  pub record_above : (t u : Form) (line : List QName) (fs : Fields) → Sub t u → t ≡ RecordForm line fs → (l : List QName) × (u ≡ RecordForm l (fields_of u))
  record_above t _ line fs itself e = (line, e ∙ ap (λ g. RecordForm line g) (sym (ap fields_of e)))
  record_above _ _ line fs (extended more gs {line = line2} {fs = fs2}) e = (line2, refl)
  record_above _ _ line fs (opened n) e = absurd (cc)

  -- what stands where an open array is expected has a length
  pub array_below : (t v u : Form) → Sub t v → v ≡ OpenForm u → FormOk c.program t → (n : ℕ) × (t ≡ ArrayForm n u)
  array_below t _ u itself e ok = absurd (subst (λ z. FormOk c.program z) e ok)
  array_below _ _ u (extended more gs) e ok = absurd (cc)
  array_below _ _ u (opened n) e ok = (n, ap (λ z. ArrayForm n (element_of_open u z)) e)

  -- an object's tag, one word before its first
  pub record TagBefore (all os : List AnObject) (g : ℕ → Value) (n : ℕ) (q : QName) : Type 0 where
    pub at : ℕ
    pub next : suc at ≡ object_offset os n
    pub word : WordAt (Os c all os g) at (tag_of c.program (has_of c) c.img q)

  tag_before : (all os : List AnObject) (g : ℕ → Value) (n : ℕ) (q : QName) (line : List QName) (fs : Fields) → n < length os → object_at os n ≡ RecordForm (q ∷ line) fs → TagBefore all os g n q
  tag_before all [] g n q line fs lt e = absurd (omega arith)
  tag_before all (x ∷ xs) g n q line fs lt e = go (nat_eq n (length xs)) refl e (λ l f. tag_before all xs g n q line fs l f)
    where
      T : ℤ
      T = tag_of c.program (has_of c) c.img q

      V : List ℤ
      V = W c all (object_form x) (g (length xs))

      first : (x : AnObject) → object_form x ≡ RecordForm (q ∷ line) fs → (extra_words x ≡ 1) × (Ex c all x ≡ T ∷ [])
      first (Whole t) e = (refl, ap (λ u. Ex c all (Whole u)) e)
      first (Opened k t) e = absurd (cc)

      go : (b : Bool) → nat_eq n (length xs) ≡ b → (if b then object_form x else object_at xs n) ≡ RecordForm (q ∷ line) fs → (n < length xs → object_at xs n ≡ RecordForm (q ∷ line) fs → TagBefore all xs g n q) → TagBefore all (x ∷ xs) g n q
      go true e f rest =
          let k = first x f in
          let off : object_offset (x ∷ xs) n ≡ costs_of xs + extra_words x = ap (λ b. if b then costs_of xs + extra_words x else object_offset xs n) e in
          record {
            at = costs_of xs;
            next = omega (arith, off, k.0);
            word = record { before = Os c all xs g; behind = V; len = objects-length c all xs g; is = ap (λ l. Os c all xs g ++ (l ++ V)) k.1 };
          }
      go false e f rest =
          let r = rest (grind (arith, nat_tests)) f in
          record {
            at = r.at;
            next = r.next ∙ sym (ap (λ b. if b then costs_of xs + extra_words x else object_offset xs n) e);
            word = word_behind (Ex c all x ++ V) _ _ _ r.word;
          }

  module _ (cs : List Active) (s : State) (w : World) (st : StandIn c cs s w) where
    abbrev form_at : Place → Form
    form_at p = place_form c.program c.img s.made cs p

    -- the dynamic type of a record's value
    pub type_at : (p : Place) → PlaceIn c.program (has_of c) c.img s.made cs p → (r : IsRecord c (form_at p)) → type_of (value_at s.store p) ≡ Some r.name
    type_at p h r = (subst (λ u. Fine c.program (has_of c) s.made u (value_at s.store p)) r.is ((located c cs s w st p h).fine)).0

    pub record TagThere (n : ℕ) (q : QName) : Type 0 where
      pub at : ℕ
      pub next : heap_start c.program c.img + object_offset s.made n ≡ suc (suc at)
      pub word : word_at w.words (pos (suc at)) ≡ Some (tag_of c.program (has_of c) c.img q)

    pub object_tag : (n : ℕ) (q : QName) (line : List QName) (fs : Fields) → n < length s.made → object_at s.made n ≡ RecordForm (q ∷ line) fs → TagThere n q
    object_tag n q line fs lt e =
        let k = tag_before s.made s.made s.store.objects n q line fs lt e in
        let in_objects = word_behind st.heap_free _ _ _ k.word in
        let in_stack = word_before (Cs c s.made s.store.locals cs) _ _ _ (word_before st.stack_free _ _ _ in_objects) in
        let all = word_before (Ms c s.made c.program s.store.globals) _ _ _ (word_before c.behind _ _ _ in_stack) in
        let m = c.img.room.globals + (c.img.room.stack + k.at) in
        record {
          at = m;
          next = omega (arith, k.next);
          word = word_got c w.words _ (suc m) _ (word_same _ _ _ _ _ _ all (sym st.words) refl refl) (omega (arith, st.globals_size, st.stack_size, calls-length c s.made cs s.store.locals));
        }

module _ (c : Setting) (stand : BasesStand c) where
  -- a type among the bases is extended
  pub extends_it : (q target : QName) (line : List QName) (fs : Fields) → record_in c.program q ≡ RecordForm (q ∷ line) fs → is_among (q ∷ line) target ≡ true → Sub (RecordForm (q ∷ line) fs) (record_in c.program target)
  extends_it q target line fs e h = subst (λ u. Sub u (record_in c.program target)) e (go (same_name target q) refl h)
    where
      go : (b : Bool) → same_name target q ≡ b → (b || is_among line target) ≡ true → Sub (record_in c.program q) (record_in c.program target)
      go true f h = subst (λ z. Sub (record_in c.program q) (record_in c.program z)) (sym (name_true target q f)) itself
      go false f h = stand.extends q line (own_fields c stand q line fs e) target h
