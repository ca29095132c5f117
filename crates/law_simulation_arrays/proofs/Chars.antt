-- Characters as words, up to their first 0X.
use Rattle.std.proofs.lemmas.Bool.Decides.{nat_tests}
use Rattle.std.proofs.Common.{◌≡◌, ℕ, zero, suc, ◌+◌, ◌<◌, List, [], ◌∷◌, ◌++◌, length, Option, Some, None, ℤ, refl, sym, ap, ◌∙◌, subst, arith, append-nil, append_assoc, length-append}
use Rattle.std.specs.Prelude.{pos, ◌+ℤ◌, Bool, true, false, not, ◌||◌, ◌&&◌, map, take, drop, nat_le, nat_lt, nat_eq, if◌then◌else◌}
use Rattle.ob_types.specs.declared.typed.Comparison.{Comparison}
use Rattle.ob_types.specs.declared.typed.Comparison.TheVariants as comparison
use Rattle.ob_mem.specs.Words.{word_at}
use Rattle.ob_instr.specs.Rows as rows_of
use Rattle.ob_instr.specs.Rows.{Chars, Endless, Ends, char_or_end, chars_from, chars_lt, chars_eq, related}
use Rattle.ob_meaning.specs.Values.{Value, Character, character_of, AnObject}
use Rattle.ob_types.specs.Numbers.{text_equal, text_less, holds}
use Rattle.ob_meaning.specs.Operators.{before_all, up_to_end, characters, character_at}
use Rattle.law_simulation_relation.specs.Stands.{comparison_number}
use Rattle.law_simulation_relation.specs.Typed.{char, AreCharacters}
use Rattle.law_simulation_relation.proofs.Slots.{word_got}
use Rattle.law_simulation_relation.proofs.Parts.{F, W, We}
use Rattle.law_simulation_relation.proofs.Values.{nat_equal}
use Rattle.law_simulation_relation.specs.Setting.{Setting}

-- what the machine finds of characters
abbrev pub found : Option (List ℕ) → Chars
found None = Endless
found (Some text) = Ends (map pos text)

found_onto : (c : ℕ) (o : Option (List ℕ)) → rows_of.onto (pos c) (found o) ≡ found (before_all c o)
found_onto c None = refl
found_onto c (Some text) = refl

char_found : (c : ℕ) (o : Option (List ℕ)) → char_or_end (Some (pos c)) (found o) ≡ found (if nat_eq c 0 then Some [] else before_all c o)
char_found zero o = refl
char_found (suc c) o = let e : nat_eq (suc c) 0 ≡ false = grind (arith, nat_tests) in found_onto (suc c) o ∙ ap (λ b. found (if b then Some [] else before_all (suc c) o)) (sym e)

pub chars_in : (c : Setting) (l before behind : List ℤ) (cs : List ℕ) → l ≡ before ++ (map pos cs ++ behind) → chars_from l (length cs) (pos (suc (length before))) ≡ found (up_to_end cs)
chars_in c l before behind [] e = refl
chars_in c l before behind (x ∷ cs) e =
    let got : word_at l (pos (suc (length before))) ≡ Some (pos x) = word_got c l (length before) (suc (length before)) (pos x) (record { before = before; behind = map pos cs ++ behind; len = refl; is = e }) refl in
    let next : suc (length before) + 1 ≡ suc (length (before ++ pos x ∷ [])) = let h = length-append before (pos x ∷ []) in omega (arith, h) in
    let rest = chars_in c l (before ++ pos x ∷ []) behind cs (e ∙ simp append_assoc) in
    ap (λ o. char_or_end o (chars_from l (length cs) (pos (suc (length before)) +ℤ pos 1))) got
    ∙ ap (λ n. char_or_end (Some (pos x)) (chars_from l (length cs) (pos n))) next
    ∙ ap (char_or_end (Some (pos x))) rest ∙ char_found x (up_to_end cs)

-- what is found are characters too
pub text_chars : (cs text : List ℕ) → AreCharacters cs → up_to_end cs ≡ Some text → AreCharacters text
text_chars [] text h e = absurd (cc)
text_chars (x ∷ cs) text h e = by (nat_eq x 0) (up_to_end cs) refl e (λ rest f. text_chars cs rest h.1 f)
  where
    some : (x y : List ℕ) → Some x ≡ Some y → AreCharacters x → AreCharacters y
    some x y e h = subst (λ o. Of o) e h
      where
        Of : Option (List ℕ) → Type 0
        Of None = ⊥
        Of (Some z) = AreCharacters z

    by : (b : Bool) (o : Option (List ℕ)) → up_to_end cs ≡ o → (if b then Some [] else before_all x o) ≡ Some text → ((rest : List ℕ) → up_to_end cs ≡ Some rest → AreCharacters rest) → AreCharacters text
    by true o f e more = some [] text e tt
    by false None f e more = absurd (cc)
    by false (Some rest) f e more = some (x ∷ rest) text e (h.0, more rest f)

pub take_chars : (n : ℕ) (text : List ℕ) → AreCharacters text → AreCharacters (take n text)
take_chars zero text h = tt
take_chars (suc n) [] h = tt
take_chars (suc n) (x ∷ text) h = (h.0, take_chars n text h.1)

-- THE WORDS OF AN ARRAY OF CHARACTERS

module _ (c : Setting) (os : List AnObject) where
  front : (n : ℕ) (f : ℕ → List ℤ) → We c os (suc n) f ≡ f 0 ++ We c os n (λ i. f (suc i))
  front zero f = sym (append-nil (f 0))
  front (suc n) f = ap (λ l. l ++ f (suc n)) (front n f) ∙ append_assoc (f 0) (We c os n (λ i. f (suc i))) (f (suc n))

  pub chars_flat : (n : ℕ) (g : ℕ → Value) → ((i : ℕ) → i < n → F c os char (g i)) → We c os n (λ i. W c os char (g i)) ≡ map pos (characters n g)
  chars_flat zero g h = refl
  chars_flat (suc n) g h =
      let v = h 0 (omega arith) in
      let one : W c os char (g 0) ≡ pos (character_of (g 0)) ∷ [] = ap (W c os char) v.2 ∙ ap (λ v. pos (character_of v) ∷ []) (sym v.2) in
      front n (λ i. W c os char (g i)) ∙ ap (λ l. l ++ We c os n (λ i. W c os char (g (suc i)))) one ∙ ap (λ l. pos (character_of (g 0)) ∷ l) (chars_flat n (λ i. g (suc i)) (λ i lt. h (suc i) (omega (arith, lt))))

  pub chars_small : (n : ℕ) (g : ℕ → Value) → ((i : ℕ) → i < n → F c os char (g i)) → AreCharacters (characters n g)
  chars_small zero g h = tt
  chars_small (suc n) g h =
      let v = h 0 (omega arith) in
      (subst (λ v. character_of v < 256) (sym v.2) v.1, chars_small n (λ i. g (suc i)) (λ i lt. h (suc i) (omega (arith, lt))))

pub chars_length : (n : ℕ) (g : ℕ → Value) → length (characters n g) ≡ n
chars_length zero g = refl
chars_length (suc n) g = ap suc (chars_length n (λ i. g (suc i)))

-- A STRING IN AN ARRAY

chars_same : (n : ℕ) (f g : ℕ → Value) → ((i : ℕ) → f i ≡ g i) → characters n f ≡ characters n g
chars_same zero f g h = refl
chars_same (suc n) f g h = ap (λ v. character_of v ∷ characters n (λ i. f (suc i))) (h 0) ∙ ap (λ l. character_of (g 0) ∷ l) (chars_same n (λ i. f (suc i)) (λ i. g (suc i)) (λ i. h (suc i)))

both_more : (m n : ℕ) → nat_le (suc m) (suc n) ≡ nat_le m n
both_more m n = go (nat_le m n) (nat_le (suc m) (suc n)) refl refl
  where
    go : (a b : Bool) → nat_le m n ≡ a → nat_le (suc m) (suc n) ≡ b → b ≡ a
    go true true e f = refl
    go false false e f = refl
    go true false e f = grind (arith, nat_tests)
    go false true e f = grind (arith, nat_tests)

-- an element of an array with a string in its front
abbrev pub texted : List ℕ → (ℕ → Value) → ℕ → Value
texted text g i = if nat_le i (length text) then Character (character_at text i) else g i

pub texted_chars : (text : List ℕ) (n : ℕ) (g : ℕ → Value) → length text < n → characters n (λ i. texted text g i) ≡ text ++ (0 ∷ drop (suc (length text)) (characters n g))
texted_chars text zero g lt = absurd (omega (arith, lt))
texted_chars [] (suc n) g lt =
    let above : (i : ℕ) → texted [] g (suc i) ≡ g (suc i) = λ i. let e : nat_le (suc i) 0 ≡ false = grind (arith, nat_tests) in ap (λ b. if b then Character (character_at [] (suc i)) else g (suc i)) e in
    ap (λ l. 0 ∷ l) (chars_same n (λ i. texted [] g (suc i)) (λ i. g (suc i)) above)
texted_chars (x ∷ text) (suc n) g lt =
    let first : nat_le 0 (suc (length text)) ≡ true = grind (arith, nat_tests) in
    let above : (i : ℕ) → texted (x ∷ text) g (suc i) ≡ texted text (λ i. g (suc i)) i = λ i. let e = both_more i (length text) in ap (λ b. if b then Character (character_at text i) else g (suc i)) e in
    ap (λ b. character_of (if b then Character x else g 0) ∷ characters n (λ i. texted (x ∷ text) g (suc i))) first
    ∙ ap (λ l. x ∷ l) (chars_same n (λ i. texted (x ∷ text) g (suc i)) (λ i. texted text (λ i. g (suc i)) i) above ∙ texted_chars text n (λ i. g (suc i)) (omega (arith, lt)))

pub character_small : (text : List ℕ) (i : ℕ) → AreCharacters text → character_at text i < 256
character_small [] i h = omega arith
character_small (x ∷ text) zero h = h.0
character_small (x ∷ text) (suc i) h = character_small text i h.1

-- TEXTS COMPARED

equal_same : (s t : List ℕ) → chars_eq (map pos s) (map pos t) ≡ text_equal s t
equal_same [] [] = refl
equal_same [] (y ∷ t) = refl
equal_same (x ∷ s) [] = refl
equal_same (x ∷ s) (y ∷ t) = ap (λ b. b && chars_eq (map pos s) (map pos t)) (nat_equal x y) ∙ ap (λ b. nat_eq x y && b) (equal_same s t)

less_same : (s t : List ℕ) → chars_lt (map pos s) (map pos t) ≡ text_less s t
less_same [] [] = refl
less_same (x ∷ s) [] = refl
less_same [] (y ∷ t) = refl
less_same (x ∷ s) (y ∷ t) = ap (λ b. if b then chars_lt (map pos s) (map pos t) else nat_lt x y) (nat_equal x y) ∙ ap (λ b. if nat_eq x y then b else nat_lt x y) (less_same s t) ∙ go (nat_eq x y) (nat_lt x y) refl refl (text_less s t)
  where
    go : (e l : Bool) → nat_eq x y ≡ e → nat_lt x y ≡ l → (r : Bool) → (if e then r else l) ≡ (l || (e && r))
    go true true f g r = absurd (let h = f in let k = g in let z : ⊥ = grind (arith, nat_tests) in z)
    go true false f g r = refl
    go false true f g r = refl
    go false false f g r = refl

-- of two texts one is less, or they are equal
one_is : (s t : List ℕ) → not (text_less t s) ≡ (text_equal s t || text_less s t)
one_is [] [] = refl
one_is [] (y ∷ t) = refl
one_is (x ∷ s) [] = refl
one_is (x ∷ s) (y ∷ t) = go (nat_lt x y) (nat_lt y x) (nat_eq x y) (nat_eq y x) refl refl refl refl (text_less t s) (text_less s t) (text_equal s t) (one_is s t)
  where
    go : (l m e f : Bool) → nat_lt x y ≡ l → nat_lt y x ≡ m → nat_eq x y ≡ e → nat_eq y x ≡ f → (p q r : Bool) → not p ≡ (r || q) → not (m || (f && p)) ≡ ((e && r) || (l || (e && q)))
    go l true true f a b c d p q r h = absurd (let z : ⊥ = grind (arith, nat_tests) in z)
    go true true e f a b c d p q r h = absurd (let z : ⊥ = grind (arith, nat_tests) in z)
    go true m true f a b c d p q r h = absurd (let z : ⊥ = grind (arith, nat_tests) in z)
    go l m true false a b c d p q r h = absurd (let z : ⊥ = grind (arith, nat_tests) in z)
    go l m false true a b c d p q r h = absurd (let z : ⊥ = grind (arith, nat_tests) in z)
    go false false false false a b c d p q r h = absurd (let z : ⊥ = grind (arith, nat_tests) in z)
    go false false true true a b c d p q r h = h
    go true false false false a b c d p q r h = refl
    go false true false false a b c d p q r h = refl

or_not : (a b c : Bool) → not a ≡ (b || c) → a ≡ not (b || c)
or_not true b c h = ap not h
or_not false b c h = ap not h

pub related_same : (r : Comparison) (s t : List ℕ) → related (comparison_number r) (map pos s) (map pos t) ≡ holds r (text_equal s t) (text_less s t)
related_same comparison.Equal s t = equal_same s t
related_same comparison.NotEqual s t = ap not (equal_same s t)
related_same comparison.Less s t = less_same s t
related_same comparison.LessEqual s t = ap not (less_same t s) ∙ one_is s t
related_same comparison.Greater s t = less_same t s ∙ or_not (text_less t s) (text_equal s t) (text_less s t) (one_is s t)
related_same comparison.GreaterEqual s t = ap not (less_same s t)
