-- Where the words of a text stand: of a string among those of its module, of an array at its place.
use Rattle.std.proofs.lemmas.List.{map-append, drop-map, take-append-drop, length-map, length-take-le}
use Rattle.std.proofs.Common.{◌≡◌, ℕ, suc, ◌+◌, ◌<◌, List, [], ◌∷◌, ◌++◌, length, ℤ, refl, sym, ap, ◌∙◌, subst, arith, append_assoc, length-append}
use Rattle.std.specs.Prelude.{pos, map, take, drop, Bool, true, false, nat_le, bytes_eq, if◌then◌else◌}
use Rattle.ob_types.specs.TypedSyntax.{Module}
use Rattle.ob_instr.specs.Image.{World}
use Rattle.ob_instr.specs.Rows.{chars_at}
use Rattle.ob_meaning.specs.Values.{Form, ArrayForm, Value, Character, length_of, element_of, Place, value_at, with_value_at, AnObject, State}
use Rattle.ob_meaning.specs.Globals.{globals_words}
use Rattle.ob_meaning.specs.Operators.{characters, up_to_end, character_at, with_text}
use Rattle.ob_meaning.specs.Meaning.{Source, Stands, Text, text_in}
use Rattle.law_simulation_relation.specs.Layout.{slots_words, module_held, module_offset, variables_in, address, place_form}
use Rattle.law_simulation_relation.specs.Texts.{module_texts, texts_in}
use Rattle.law_simulation_relation.specs.Relation.{PlaceIn, no_places, second_word}
use Rattle.law_simulation_relation.specs.Stands as code
use Rattle.law_simulation_relation.specs.Typed.{char, AreCharacters}
use Rattle.law_simulation_relation.proofs.Statements.{Activation, scope, K}
use Rattle.law_simulation_relation.proofs.Grow.{G, form_same, place_more}
use Rattle.law_simulation_relation.proofs.Parts.{F, W}
use Rattle.law_simulation_relation.proofs.Places.{slots-length}
use Rattle.law_simulation_relation.proofs.Modules.{Sm, M, Ms, one-length}
use Rattle.law_simulation_relation.proofs.Located.{Located, located}
use Rattle.law_simulation_arrays.proofs.Copies.{Between}
use Rattle.law_simulation_arrays.proofs.Chars.{found, chars_in, chars_flat, chars_small, chars_length, texted, texted_chars, character_small}
use Rattle.law_simulation_relation.specs.Setting.{Setting, StandIn, has_of}

-- BETWEEN

-- a part of a part
pub between_inside : (l part inner front back : List ℤ) (x y : ℕ) → Between l part x → part ≡ front ++ (inner ++ back) → x + length front ≡ y → Between l inner y
between_inside l part inner front back x y b e f = record {
  before = b.before ++ front;
  behind = back ++ b.behind;
  at = let h = length-append b.before front in let k = b.at in omega (arith, h, k, f);
  is = b.is ∙ ap (λ p. b.before ++ (p ++ b.behind)) e ∙ simp append_assoc;
}

between_same : (l l2 part part2 : List ℤ) (x y : ℕ) → Between l part x → l ≡ l2 → part ≡ part2 → x ≡ y → Between l2 part2 y
between_same l l2 part part2 x y b e f g = record { before = b.before; behind = b.behind; at = b.at ∙ g; is = sym e ∙ b.is ∙ ap (λ p. b.before ++ (p ++ b.behind)) f }

between_front : (l back part : List ℤ) (x : ℕ) → Between l part x → Between (l ++ back) part x
between_front l back part x b = record { before = b.before; behind = b.behind ++ back; at = b.at; is = ap (λ l. l ++ back) b.is ∙ simp append_assoc }

zero_ends : (text : List ℕ) → AreCharacters text → AreCharacters (text ++ 0 ∷ [])
zero_ends [] h = (omega arith, tt)
zero_ends (x ∷ text) h = (h.0, zero_ends text h.1)

module _ (c : Setting) where
  -- STRINGS

  texts_between : (os : List AnObject) (ms : List Module) (g : List ℕ → List ℕ → Value) (x : List ℕ) → Between (Ms c os ms g) (texts_in c.program ms x) (suc (module_offset c.program ms x + slots_words (variables_in c.program ms x)))
  texts_between os [] g x = record { before = []; behind = []; at = refl; is = refl }
  texts_between os (m ∷ ms) g x = go (bytes_eq x m.name) (texts_between os ms g x)
    where
      go : (b : Bool) → Between (Ms c os ms g) (texts_in c.program ms x) (suc (module_offset c.program ms x + slots_words (variables_in c.program ms x))) → Between (M c os m (g m.name) ++ Ms c os ms g) (if b then module_texts c.program m else texts_in c.program ms x) (suc ((if b then 0 else globals_words c.program m + module_offset c.program ms x) + slots_words (if b then module_held c.program m else variables_in c.program ms x)))
      go true rest = record {
        before = Sm c os m (g m.name);
        behind = Ms c os ms g;
        at = let h = slots-length c os [] (no_places c.program (has_of c) c.img) (module_held c.program m) 0 (g m.name) in omega (arith, h);
        is = append_assoc (Sm c os m (g m.name)) (module_texts c.program m) (Ms c os ms g);
      }
      go false rest = record {
        before = M c os m (g m.name) ++ rest.before;
        behind = rest.behind;
        at = let h = length-append (M c os m (g m.name)) rest.before in let k = one-length c os m (g m.name) in let r = rest.at in omega (arith, h, k, r);
        is = ap (λ l. M c os m (g m.name) ++ l) rest.is ∙ simp append_assoc;
      }

  module _ (a : Activation c) where
    pub text_between : (s : State) (w : World) → StandIn c (K c a) s w → (text : List ℕ) (at : ℕ) → code.TextStands (scope c a) text at → Between w.words (map pos (text ++ 0 ∷ [])) (a.u.first + at)
    text_between s w st text at t =
        let all = texts_between s.made c.program s.store.globals a.unit in
        let ends : map pos (text ++ 0 ∷ []) ≡ map pos text ++ pos 0 ∷ [] = map-append pos text (0 ∷ []) in
        let inner : texts_in c.program c.program a.unit ≡ t.before ++ (map pos (text ++ 0 ∷ []) ++ t.behind) = t.is ∙ ap (λ l. t.before ++ l) (sym (append_assoc (map pos text) (pos 0 ∷ []) t.behind)) ∙ ap (λ l. t.before ++ (l ++ t.behind)) (sym ends) in
        between_same _ w.words _ _ _ _ (between_front (Ms c s.made c.program s.store.globals) _ _ _ (between_inside _ _ (map pos (text ++ 0 ∷ [])) t.before t.behind _ (a.u.first + at) all inner (let f = a.first in let o = t.offset in omega (arith, f, o)))) (sym st.words) refl refl

    -- SOURCES

    abbrev pub SourceFine : ℕ → List AnObject → Source → Type 0
    SourceFine at os (Stands p) = PlaceIn c.program (has_of c) c.img os (K c a) p × ((m : ℕ) × (place_form c.program c.img os (K c a) p ≡ ArrayForm m char))
    SourceFine at os (Text text) = code.TextStands (scope c a) text at × AreCharacters text

    -- the address and the length of a source
    abbrev pub SourceWords : ℕ → Source → State → List ℤ
    SourceWords at (Stands p) s = pos (address c.program c.img s.made (K c a) p) ∷ second_word c.program (has_of c) c.img (place_form c.program c.img s.made (K c a) p) ∷ []
    SourceWords at (Text text) s = pos (a.u.first + at) ∷ pos (suc (length text)) ∷ []

    pub source_more : (at : ℕ) (os all : List AnObject) (x : Source) → G c os all → SourceFine at os x → SourceFine at all x
    source_more at os all (Stands p) g h = (place_more c os all g (K c a) p h.0, (h.1.0, form_same c os all g (K c a) p h.0 ∙ h.1.1))
    source_more at os all (Text text) g h = h

    -- the characters of a source, with 0X at the end of a string
    pub record Found (at : ℕ) (x : Source) (s : State) (w : World) : Type 0 where
      pub cs : List ℕ
      pub small : AreCharacters cs
      pub start : ℕ
      pub words : SourceWords at x s ≡ pos start ∷ pos (length cs) ∷ []
      pub between : Between w.words (map pos cs) start
      pub text : text_in x s.store ≡ up_to_end cs

    -- what is known of an array of characters
    pub record Array (p : Place) (m : ℕ) (s : State) (w : World) (st : StandIn c (K c a) s w) : Type 0 where
      pub here_it_is : Located c (K c a) s w st p
      pub fine : F c s.made (ArrayForm m char) (value_at s.store p)
      pub flat : W c s.made (ArrayForm m char) (value_at s.store p) ≡ map pos (characters m (element_of (value_at s.store p)))
      pub is : w.words ≡ here_it_is.before ++ (map pos (characters m (element_of (value_at s.store p))) ++ here_it_is.behind)

    pub array_at : (s : State) (w : World) (st : StandIn c (K c a) s w) (p : Place) (m : ℕ) → PlaceIn c.program (has_of c) c.img s.made (K c a) p → place_form c.program c.img s.made (K c a) p ≡ ArrayForm m char → Array p m s w st
    array_at s w st p m here_p form =
        let l = located c (K c a) s w st p here_p in
        let v = value_at s.store p in
        let fine : F c s.made (ArrayForm m char) v = subst (λ t. F c s.made t v) form l.fine in
        let flat = chars_flat c s.made m (element_of v) fine.1 in
        record {
          here_it_is = l;
          fine = fine;
          flat = flat;
          is = l.is ∙ ap (λ t. l.before ++ (W c s.made t v ++ l.behind)) form ∙ ap (λ q. l.before ++ (q ++ l.behind)) flat;
        }

    pub source_found : (at : ℕ) (x : Source) (s : State) (w : World) → StandIn c (K c a) s w → SourceFine at s.made x → Found at x s w
    source_found at (Stands p) s w st h =
        let m = h.1.0 in
        let v = value_at s.store p in
        let r = array_at s w st p m h.0 h.1.1 in
        let long = chars_length m (element_of v) in
        record {
          cs = characters m (element_of v);
          small = chars_small c s.made m (element_of v) r.fine.1;
          start = address c.program c.img s.made (K c a) p;
          words = ap (λ t. pos (address c.program c.img s.made (K c a) p) ∷ code_second t ∷ []) h.1.1 ∙ ap (λ m. pos (address c.program c.img s.made (K c a) p) ∷ pos m ∷ []) (sym long);
          between = record { before = r.here_it_is.before; behind = r.here_it_is.behind; at = r.here_it_is.at; is = r.is };
          text = ap (λ m. up_to_end (characters m (element_of v))) r.fine.0;
        }
      where
        code_second : Form → ℤ
        code_second t = second_word c.program (has_of c) c.img t
    source_found at (Text text) s w st h =
        let long : suc (length text) ≡ length (text ++ 0 ∷ []) = let k = length-append text (0 ∷ []) in omega (arith, k) in
        record {
          cs = text ++ 0 ∷ [];
          small = zero_ends text h.1;
          start = a.u.first + at;
          words = ap (λ n. pos (a.u.first + at) ∷ pos n ∷ []) long;
          between = text_between s w st text at h.0;
          text = refl;
        }

    -- what the machine finds there is the text
    pub text_found : (at : ℕ) (x : Source) (s : State) (w : World) → (r : Found at x s w) → chars_at w.words (pos r.start) (pos (length r.cs)) ≡ found (text_in x s.store)
    text_found at x s w r =
        let b = r.between in
        ap (λ n. chars_at w.words (pos n) (pos (length r.cs))) (sym b.at) ∙ chars_in c w.words b.before b.behind r.cs b.is ∙ ap found (sym r.text)

    -- A TEXT IS PUT INTO AN ARRAY

    pub record Put (p : Place) (text : List ℕ) (s : State) (w : World) : Type 0 where
      pub part : List ℤ
      pub between : Between w.words part (address c.program c.img s.made (K c a) p)
      pub long : length part ≡ suc (length text)
      pub stands : StandIn c (K c a) (record s { store = with_value_at s.store p (with_text text (length_of (value_at s.store p)) (element_of (value_at s.store p))) }) (record w { words = between.before ++ ((map pos text ++ pos 0 ∷ []) ++ between.behind) })

    pub put_text : (s : State) (w : World) → StandIn c (K c a) s w → (p : Place) (m : ℕ) (text : List ℕ) → PlaceIn c.program (has_of c) c.img s.made (K c a) p → place_form c.program c.img s.made (K c a) p ≡ ArrayForm m char → length text < m → AreCharacters text → Put p text s w
    put_text s w st p m text here_p form lt small =
        let r = array_at s w st p m here_p form in
        let v = value_at s.store p in
        let g = element_of v in
        let old = map pos (characters m g) in
        let k = suc (length text) in
        let new = map pos text ++ pos 0 ∷ [] in
        let u = with_text text (length_of v) g in
        let old_long : length old ≡ m = length-map (characters m g) pos ∙ chars_length m g in
        let b = r.here_it_is in
        let each : (i : ℕ) → i < m → F c s.made char (texted text g i) = λ i lt. one text g i small (r.fine.1 i lt) in
        let u_fine : F c s.made (ArrayForm m char) u = (r.fine.0, each) in
        let u_flat : W c s.made (ArrayForm m char) u ≡ new ++ drop k old =
        chars_flat c s.made m (λ i. texted text g i) each ∙ ap (map pos) (texted_chars text m g lt) ∙ map-append pos text (0 ∷ drop k (characters m g)) ∙ ap (λ l. map pos text ++ (pos 0 ∷ l)) (sym (drop-map pos k (characters m g))) ∙ sym (append_assoc (map pos text) (pos 0 ∷ []) (drop k old)) in
        let stands = r.here_it_is.stands u (subst (λ t. F c s.made t u) (sym form) u_fine) in
        record {
          part = take k old;
          between = record { before = b.before; behind = drop k old ++ b.behind; at = b.at; is = r.is ∙ ap (λ l. b.before ++ (l ++ b.behind)) (sym (take-append-drop k old)) ∙ ap (λ l. b.before ++ l) (append_assoc (take k old) (drop k old) b.behind) };
          long = length-take-le k old (omega (arith, old_long, lt));
          stands = subst (λ l. StandIn c (K c a) (record s { store = with_value_at s.store p u }) (record w { words = b.before ++ l })) (ap (λ t. W c s.made t u ++ b.behind) form ∙ ap (λ l. l ++ b.behind) u_flat ∙ append_assoc new (drop k old) b.behind) stands;
        }
      where
        one : (text : List ℕ) (g : ℕ → Value) (i : ℕ) → AreCharacters text → F c s.made char (g i) → F c s.made char (texted text g i)
        one text g i small old = by (nat_le i (length text))
          where
            by : (b : Bool) → F c s.made char (if b then Character (character_at text i) else g i)
            by true = (character_at text i, character_small text i small, refl)
            by false = old
