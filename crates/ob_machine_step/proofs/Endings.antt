-- The end of a text, and the order of two.
use Rattle.std.proofs.Common.{◌≡◌, ℕ, zero, suc, ◌+◌, ◌-◌, ◌≤◌, ◌<◌, List, [], ◌∷◌, ◌++◌, length, take, drop, get_or, true, false, Option, Some, None, ℤ, pos, negsuc, ◌+ℤ◌, ◌<ℤ◌, ◌≤ℤ◌, ◌≢◌, ⊎_elim, refl, sym, ap, subst, ◌∙◌, arith, add-one, length-drop, length-take, w32, of_z, to_z}
use Rattle.std.specs.Int.RustNames.{FitsSigned}
use Rattle.std.specs.Prelude.{if◌then◌else◌, min, slice_get, int_lt, ◌&&◌}
use Rattle.std.specs.Ordering.{int_eq}
use Rattle.std.proofs.lemmas.Bool.Decides.{nat_tests}
use Rattle.std.proofs.lemmas.Option.{slice_get_within, get_or_from_slice_get, slice_get-get_or}
use Rattle.std.proofs.lemmas.List.{get_or-drop, length-take-le, take_all, take-take}
use Rattle.std.proofs.lemmas.Bool.{cases_lt}
use Rattle.std.proofs.Math.Seq.{drop-cons, take-suc}
use Rattle.std.proofs.lemmas.Int.{ints, to_z-of_z}
use Rattle.std.proofs.lemmas.List.{get_or-take}
use Rattle.ob_mem.specs.Words.{word_at}
use Rattle.ob_instr.specs.Image.{World}
use Rattle.ob_instr.specs.Rows.{Effect, Next, on_found, on_four, placed, copies_chars, with_memory, Chars, Missing, Endless, Ends, onto, char_or_end, chars_at, chars_from, is_zero, chars_lt, chars_eq}
use Rattle.ob_machine_step.specs.Texts.{text}

pub word_after : (words : List ℤ) (n : ℕ) → word_at words (pos (n + 1)) ≡ slice_get words n
word_after words n = ap (λ k. word_at words (pos k)) (add-one n)

-- characters before a text
abbrev pub before_text : List ℤ → Chars → Chars
before_text [] t = t
before_text (y ∷ ys) t = onto y (before_text ys t)

before_onto : (ys : List ℤ) (c : ℤ) (t : Chars) → before_text (ys ++ c ∷ []) t ≡ before_text ys (onto c t)
before_onto [] c t = refl
before_onto (y ∷ ys) c t = ap (λ u. onto y u) (before_onto ys c t)

before_missing : (ys : List ℤ) → before_text ys Missing ≡ Missing
before_missing [] = refl
before_missing (y ∷ ys) = ap (λ u. onto y u) (before_missing ys)

before_endless : (ys : List ℤ) → before_text ys Endless ≡ Endless
before_endless [] = refl
before_endless (y ∷ ys) = ap (λ u. onto y u) (before_endless ys)

before_end : (ys : List ℤ) → before_text ys (Ends []) ≡ Ends ys
before_end [] = refl
before_end (y ∷ ys) = ap (λ u. onto y u) (before_end ys)

-- So many characters were seen.
pub record HasSeen (words : List ℤ) (start len i : ℕ) : Type 0 where
  pub within : i ≤ len
  pub is : chars_from words len (pos (suc start)) ≡ before_text (text words start i) (chars_from words (len - i) (pos (suc (start + i))))

pub seen_none : (words : List ℤ) (start len : ℕ) → HasSeen words start len 0
seen_none words start len =
    let a : len - 0 ≡ len = omega arith in
    let b : start + 0 ≡ start = omega arith in
    record { within = omega arith; is = ap (λ n. chars_from words n (pos (suc start))) (sym a) ∙ ap (λ n. chars_from words (len - 0) (pos (suc n))) (sym b) }

-- the text from the next word on
next_text : (words : List ℤ) (start len i : ℕ) (o : Option ℤ) → i < len → slice_get words (start + i) ≡ o → chars_from words (len - i) (pos (suc (start + i))) ≡ char_or_end o (chars_from words (len - (i + 1)) (pos (suc (start + (i + 1)))))
next_text words start len i o lt e =
    let a : len - i ≡ suc (len - (i + 1)) = omega arith in
    let b : suc (start + i) + 1 ≡ suc (start + (i + 1)) = omega arith in
    ap (λ n. chars_from words n (pos (suc (start + i)))) a
    ∙ ap (λ p. char_or_end p (chars_from words (len - (i + 1)) (pos (suc (start + i)) +ℤ pos 1))) e
    ∙ ap (λ n. char_or_end o (chars_from words (len - (i + 1)) (pos n))) b

one_more : (words : List ℤ) (start i : ℕ) (c : ℤ) → slice_get words (start + i) ≡ Some c → text words start (i + 1) ≡ text words start i ++ c ∷ []
one_more words start i c e =
    let lt = slice_get_within words (start + i) c e in
    let long : i < length (drop start words) = omega (arith, length-drop start words) in
    let here : get_or (drop start words) i c ≡ c = get_or-drop start words i c ∙ get_or_from_slice_get words (start + i) c c e in
    rw add-one (take-suc (drop start words) i c long ∙ ap (λ y. take i (drop start words) ++ y ∷ []) here)

pub seen_more : (words : List ℤ) (start len i : ℕ) (c : ℤ) → HasSeen words start len i → i < len → slice_get words (start + i) ≡ Some c → is_zero c ≡ false → HasSeen words start len (i + 1)
seen_more words start len i c seen lt e z =
    let t = chars_from words (len - (i + 1)) (pos (suc (start + (i + 1)))) in
    record {
      within = omega arith;
      is = seen.is
          ∙ ap (λ u. before_text (text words start i) u) (next_text words start len i (Some c) lt e ∙ ap (λ b. if b then Ends [] else onto c t) z)
          ∙ sym (before_onto (text words start i) c t)
          ∙ ap (λ l. before_text l t) (sym (one_more words start i c e));
    }

pub seen_end : (words : List ℤ) (start len i : ℕ) (c : ℤ) → HasSeen words start len i → i < len → slice_get words (start + i) ≡ Some c → is_zero c ≡ true → (start + i < length words) × (chars_from words len (pos (suc start)) ≡ Ends (text words start i))
seen_end words start len i c seen lt e z =
    let t = chars_from words (len - (i + 1)) (pos (suc (start + (i + 1)))) in
    (slice_get_within words (start + i) c e, seen.is ∙ ap (λ u. before_text (text words start i) u) (next_text words start len i (Some c) lt e ∙ ap (λ b. if b then Ends [] else onto c t) z) ∙ before_end (text words start i))

pub seen_missing : (words : List ℤ) (start len i : ℕ) → HasSeen words start len i → i < len → slice_get words (start + i) ≡ None → chars_from words len (pos (suc start)) ≡ Missing
seen_missing words start len i seen lt e = seen.is ∙ ap (λ u. before_text (text words start i) u) (next_text words start len i None lt e) ∙ before_missing (text words start i)

pub seen_all : (words : List ℤ) (start len i : ℕ) → HasSeen words start len i → len ≤ i → chars_from words len (pos (suc start)) ≡ Endless
seen_all words start len i seen le =
    let a : len - i ≡ 0 = omega arith in
    seen.is ∙ ap (λ u. before_text (text words start i) u) (ap (λ n. chars_from words n (pos (suc (start + i)))) a) ∙ before_endless (text words start i)

-- THE ORDER

-- Two texts are the same so far.
pub record SameSoFar (s t : List ℤ) (i : ℕ) : Type 0 where
  pub lt : chars_lt s t ≡ chars_lt (drop i s) (drop i t)
  pub gt : chars_lt t s ≡ chars_lt (drop i t) (drop i s)
  pub eq : chars_eq s t ≡ chars_eq (drop i s) (drop i t)

pub same_at_first : (s t : List ℤ) → SameSoFar s t 0
same_at_first s t = record { lt = refl; gt = refl; eq = refl }

pub length_text : (words : List ℤ) (start count : ℕ) → start + count ≤ length words → length (text words start count) ≡ count
length_text words start count le = let long : count ≤ length (drop start words) = omega (arith, length-drop start words) in length-take-le count (drop start words) long

pub text_at : (words : List ℤ) (start count i : ℕ) (c : ℤ) → start + count ≤ length words → i < count → slice_get words (start + i) ≡ Some c → drop i (text words start count) ≡ c ∷ drop (suc i) (text words start count)
text_at words start count i c le lt e =
    let len = length_text words start count le in
    let a : get_or (text words start count) i c ≡ get_or (drop start words) i c = get_or-take count (drop start words) i c lt in
    let here = a ∙ get_or-drop start words i c ∙ get_or_from_slice_get words (start + i) c c e in
    drop-cons (text words start count) i c (omega arith) ∙ ap (λ y. y ∷ drop (suc i) (text words start count)) here

int_eq_refl : (c : ℤ) → int_eq c c ≡ true
int_eq_refl (pos n) = grind (arith, nat_tests)
int_eq_refl (negsuc n) = grind (arith, nat_tests)

int_ne_lt : (c d : ℤ) → c <ℤ d → (int_eq c d ≡ false) × (int_eq d c ≡ false) × (int_lt c d ≡ true) × (int_lt d c ≡ false)
int_ne_lt c d lt = (grind (arith, ints), grind (arith, ints), grind (arith, ints), grind (arith, ints))

pub same_more : (s t : List ℤ) (i : ℕ) (c : ℤ) → SameSoFar s t i → drop i s ≡ c ∷ drop (suc i) s → drop i t ≡ c ∷ drop (suc i) t → SameSoFar s t (suc i)
same_more s t i c same es et =
    let e = int_eq_refl c in
    let u = drop (suc i) s in
    let v = drop (suc i) t in
    record {
      lt = same.lt ∙ ap (λ l. chars_lt l (drop i t)) es ∙ ap (λ l. chars_lt (c ∷ u) l) et ∙ ap (λ b. if b then chars_lt u v else int_lt c c) e;
      gt = same.gt ∙ ap (λ l. chars_lt l (drop i s)) et ∙ ap (λ l. chars_lt (c ∷ v) l) es ∙ ap (λ b. if b then chars_lt v u else int_lt c c) e;
      eq = same.eq ∙ ap (λ l. chars_eq l (drop i t)) es ∙ ap (λ l. chars_eq (c ∷ u) l) et ∙ ap (λ b. b && chars_eq u v) e;
    }

pub less_here : (s t : List ℤ) (i : ℕ) (c d : ℤ) → SameSoFar s t i → drop i s ≡ c ∷ drop (suc i) s → drop i t ≡ d ∷ drop (suc i) t → c <ℤ d → (chars_lt s t ≡ true) × (chars_lt t s ≡ false) × (chars_eq s t ≡ false)
less_here s t i c d same es et lt =
    let h = int_ne_lt c d lt in
    let u = drop (suc i) s in
    let v = drop (suc i) t in (
      same.lt ∙ ap (λ l. chars_lt l (drop i t)) es ∙ ap (λ l. chars_lt (c ∷ u) l) et ∙ ap (λ b. if b then chars_lt u v else int_lt c d) h.0 ∙ h.2,
      same.gt ∙ ap (λ l. chars_lt l (drop i s)) et ∙ ap (λ l. chars_lt (d ∷ v) l) es ∙ ap (λ b. if b then chars_lt v u else int_lt d c) h.1 ∙ h.3,
      same.eq ∙ ap (λ l. chars_eq l (drop i t)) es ∙ ap (λ l. chars_eq (c ∷ u) l) et ∙ ap (λ b. b && chars_eq u v) h.0,
    )

pub more_here : (s t : List ℤ) (i : ℕ) (c d : ℤ) → SameSoFar s t i → drop i s ≡ c ∷ drop (suc i) s → drop i t ≡ d ∷ drop (suc i) t → d <ℤ c → (chars_lt s t ≡ false) × (chars_lt t s ≡ true) × (chars_eq s t ≡ false)
more_here s t i c d same es et lt =
    let h = int_ne_lt d c lt in
    let u = drop (suc i) s in
    let v = drop (suc i) t in (
      same.lt ∙ ap (λ l. chars_lt l (drop i t)) es ∙ ap (λ l. chars_lt (c ∷ u) l) et ∙ ap (λ b. if b then chars_lt u v else int_lt c d) h.1 ∙ h.3,
      same.gt ∙ ap (λ l. chars_lt l (drop i s)) et ∙ ap (λ l. chars_lt (d ∷ v) l) es ∙ ap (λ b. if b then chars_lt v u else int_lt d c) h.0 ∙ h.2,
      same.eq ∙ ap (λ l. chars_eq l (drop i t)) es ∙ ap (λ l. chars_eq (c ∷ u) l) et ∙ ap (λ b. b && chars_eq u v) h.1,
    )

-- where one of them ends
less_ends : (u v : List ℤ) → length u ≡ 0 → 0 < length v → (chars_lt u v ≡ true) × (chars_lt v u ≡ false) × (chars_eq u v ≡ false)
less_ends [] [] e lt = absurd (omega arith)
less_ends [] (y ∷ v) e lt = (refl, refl, refl)
less_ends (x ∷ u) v e lt = absurd (omega arith)

both_end : (u v : List ℤ) → length u ≡ 0 → length v ≡ 0 → (chars_lt u v ≡ false) × (chars_lt v u ≡ false) × (chars_eq u v ≡ true)
both_end [] [] e f = (refl, refl, refl)
both_end [] (y ∷ v) e f = absurd (omega arith)
both_end (x ∷ u) v e f = absurd (omega arith)

more_ends : (u v : List ℤ) → 0 < length u → length v ≡ 0 → (chars_lt u v ≡ false) × (chars_lt v u ≡ true) × (chars_eq u v ≡ false)
more_ends [] v lt e = absurd (omega arith)
more_ends (x ∷ u) [] lt e = (refl, refl, refl)
more_ends (x ∷ u) (y ∷ v) lt e = absurd (omega arith)

pub less_at_end : (s t : List ℤ) (i : ℕ) → SameSoFar s t i → length s ≤ i → i < length t → (chars_lt s t ≡ true) × (chars_lt t s ≡ false) × (chars_eq s t ≡ false)
less_at_end s t i same le lt =
    let a : length (drop i s) ≡ 0 = omega (arith, length-drop i s) in
    let b : 0 < length (drop i t) = omega (arith, length-drop i t) in
    let h = less_ends (drop i s) (drop i t) a b in
    (same.lt ∙ h.0, same.gt ∙ h.1, same.eq ∙ h.2)

pub more_at_end : (s t : List ℤ) (i : ℕ) → SameSoFar s t i → i < length s → length t ≤ i → (chars_lt s t ≡ false) × (chars_lt t s ≡ true) × (chars_eq s t ≡ false)
more_at_end s t i same lt le =
    let a : 0 < length (drop i s) = omega (arith, length-drop i s) in
    let b : length (drop i t) ≡ 0 = omega (arith, length-drop i t) in
    let h = more_ends (drop i s) (drop i t) a b in
    (same.lt ∙ h.0, same.gt ∙ h.1, same.eq ∙ h.2)

pub same_at_end : (s t : List ℤ) (i : ℕ) → SameSoFar s t i → length s ≤ i → length t ≤ i → (chars_lt s t ≡ false) × (chars_lt t s ≡ false) × (chars_eq s t ≡ true)
same_at_end s t i same le me =
    let a : length (drop i s) ≡ 0 = omega (arith, length-drop i s) in
    let b : length (drop i t) ≡ 0 = omega (arith, length-drop i t) in
    let h = both_end (drop i s) (drop i t) a b in
    (same.lt ∙ h.0, same.gt ∙ h.1, same.eq ∙ h.2)

pub not_missing : (words : List ℤ) (i : ℕ) → i < length words → slice_get words i ≡ None → ⊥
not_missing words i lt e = let h = slice_get-get_or words i (pos 0) lt in cc

pub ruleset seen = (seen_none, seen_more, seen_end, seen_missing, seen_all)

pub ruleset ordered = (same_at_first, same_more, less_here, more_here, less_at_end, more_at_end, same_at_end, text_at, length_text, not_missing)

pub is_end : (x : ℤ) → FitsSigned w32 x → of_z w32 x ≡ 0 → is_zero x ≡ true
is_end (pos zero) f e = refl
is_end (pos (suc n)) f e = absurd (omega arith)
is_end (negsuc n) f e = let s = f.sfits in absurd (omega arith)

pub no_end : (x : ℤ) → of_z w32 x ≢ 0 → is_zero x ≡ false
no_end (pos zero) e = absurd (e refl)
no_end (pos (suc n)) e = refl
no_end (negsuc n) e = refl

pub low_missing : (words : List ℤ) (x n : ℤ) → pos 0 <ℤ n → x ≤ℤ pos 0 → chars_at words x n ≡ Missing
low_missing words x (pos zero) lt le = absurd (omega (arith, ints))
low_missing words (pos zero) (pos (suc n)) lt le = refl
low_missing words (pos (suc a)) (pos (suc n)) lt le = absurd (omega (arith, ints))
low_missing words (negsuc a) (pos (suc n)) lt le = refl
low_missing words x (negsuc n) lt le = absurd (omega (arith, ints))

at_least_one : (n : ℤ) → int_lt n (pos 1) ≡ false → (k : ℕ) × (n ≡ pos (suc k))
at_least_one (pos zero) e = absurd cc
at_least_one (pos (suc k)) e = (k, refl)
at_least_one (negsuc k) e = absurd cc

pub room_of : (n : ℤ) → FitsSigned w32 n → int_lt (to_z w32 (of_z w32 n)) (pos 1) ≡ false → (k : ℕ) × (n ≡ pos (suc k))
room_of n f e = at_least_one n (subst (λ z. int_lt z (pos 1) ≡ false) (to_z-of_z w32 n f) e)

shorter : (words : List ℤ) (start count k m : ℕ) → m ≡ min count k → take k (text words start count) ≡ text words start m
shorter words start count k m e =
    ⊎_elim
    (λ lt. let n : m ≡ count = omega arith in take_all k (text words start count) (omega (arith, length-take count (drop start words))) ∙ ap (λ i. take i (drop start words)) (sym n))
    (λ le. let n : m ≡ k = omega arith in take-take k count (drop start words) le ∙ ap (λ i. take i (drop start words)) (sym n))
    (cases_lt count k)

-- the row of a copied text
pub copy_row : (words : List ℤ) (ops rest : List ℤ) (x l y n : ℤ) (start count k m : ℕ) (w : World) (e : Effect) → ops ≡ n ∷ y ∷ l ∷ x ∷ rest → chars_at words x l ≡ Ends (text words start count) → n ≡ pos (suc k) → m ≡ min count k → on_found (placed w.words y (text words start m ++ pos 0 ∷ [])) (λ t. Next rest (with_memory w t)) ≡ e → on_four ops (λ x l y n rest. copies_chars (chars_at words x l) y n rest w) ≡ e
copy_row words ops rest x l y n start count k m w e is ends some least done =
    ap (λ o. on_four o (λ x l y n rest. copies_chars (chars_at words x l) y n rest w)) is
    ∙ ap (λ s. copies_chars s y n rest w) ends
    ∙ ap (λ z. copies_chars (Ends (text words start count)) y z rest w) some
    ∙ ap (λ t. on_found (placed w.words y (t ++ pos 0 ∷ [])) (λ t. Next rest (with_memory w t))) (shorter words start count k m least)
    ∙ done
