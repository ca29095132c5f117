-- Names of different parts differ.
use Rattle.std.proofs.Common.{◌≡◌, ◌≢◌, ℕ, suc, ◌<◌, ◌^◌, Bool, true, false, List, [], ◌∷◌, ◌++◌, refl, sym, ap, subst, ◌∙◌, append_assoc, arith}
use Rattle.std.specs.Prelude.{◌==◌, ◌||◌}
use Rattle.std.specs.Fmt.{decimal}
use Rattle.std.specs.Char.{digit_value}
use Rattle.std.proofs.lemmas.List.{append-nil}
use Rattle.std.proofs.lemmas.Bool.{eqb-true}
use Rattle.std.proofs.lemmas.Fmt.{decimal_injective, decimal_is_IsNumeral}
use Rattle.std.specs.Str.Parse.{AllDigits}
use Rattle.law_names_distinct.specs.Parts.{is_mark, IsWord, IsTail, IsInScope, IsPart}
use Rattle.law_lists.proofs.Lists.{all_both, all_from, or_parts, same_behind}

pub word_scope : (x : List ℕ) → IsWord x → IsInScope x
word_scope x h = all_from (λ c. is_mark c ≡ false) (λ c. (c == 47) ≡ false) (λ c e. (or_parts (c == 47) _ e).0) x h

-- words in front of tails
words_agree : (f g s t : List ℕ) → IsWord f → IsWord g → IsTail s → IsTail t → f ++ s ≡ g ++ t → f ≡ g
words_agree [] [] s t a b c d e = refl
words_agree [] (y ∷ g) [] t a b c d e = absurd cc
words_agree [] (y ∷ g) (z ∷ s) t a b c d e = let i : z ≡ y = cc in let bad : true ≡ false = sym c ∙ ap is_mark i ∙ b.0 in absurd cc
words_agree (x ∷ f) [] s [] a b c d e = absurd cc
words_agree (x ∷ f) [] s (z ∷ t) a b c d e = let i : x ≡ z = cc in let bad : true ≡ false = sym d ∙ ap is_mark (sym i) ∙ a.0 in absurd cc
words_agree (x ∷ f) (y ∷ g) s t a b c d e =
    let r : f ++ s ≡ g ++ t = cc in
    let i : f ≡ g = words_agree f g s t a.1 b.1 c d r in
    cc

pub parts_differ : (r f g n k : List ℕ) → IsWord f → IsWord g → f ≢ g → IsPart (r ++ f) n → IsPart (r ++ g) k → n ≢ k
parts_differ r f g n k a b different p q e =
    different (words_agree f g p.rest q.rest a b p.tail q.tail (same_behind r (f ++ p.rest) (g ++ q.rest) (sym (append_assoc r f p.rest) ∙ sym p.is ∙ e ∙ q.is ∙ append_assoc r g q.rest)))

pub part_itself : (r : List ℕ) → IsPart r r
part_itself r = record { rest = []; is = sym (append-nil r); tail = tt; scope = tt }

-- behind a mark and a word
pub part_within : (r w n : List ℕ) (c : ℕ) → is_mark c ≡ true → (c == 47) ≡ false → IsWord w → IsPart (r ++ c ∷ w) n → IsPart r n
part_within r w n c m s h p = record {
  rest = c ∷ (w ++ p.rest);
  is = p.is ∙ append_assoc r (c ∷ w) p.rest;
  tail = m;
  scope = (s, all_both (λ c. (c == 47) ≡ false) w p.rest (word_scope w h) p.scope);
}

pub part_longer : (r w n : List ℕ) (c : ℕ) → IsPart (r ++ c ∷ w) n → n ≢ r
part_longer r w n c p e =
    let k : c ∷ (w ++ p.rest) ≡ [] = same_behind r (c ∷ (w ++ p.rest)) [] (sym (append_assoc r (c ∷ w) p.rest) ∙ sym p.is ∙ e ∙ sym (append-nil r)) in
    absurd cc

-- ---- numbers

not_digit : (c k : ℕ) → digit_value c < 10 → (digit_value k < 10 → ⊥) → (c == k) ≡ false
not_digit c k h n = by (c == k) refl
  where
    by : (b : Bool) → (c == k) ≡ b → b ≡ false
    by true e = absurd (n (subst (λ x. digit_value x < 10) (eqb-true c k e) h))
    by false e = refl

digit_word : (c : ℕ) → digit_value c < 10 → is_mark c ≡ false
digit_word c h =
    let a = not_digit c 47 h (λ k. omega (arith, k)) in
    let b = not_digit c 58 h (λ k. omega (arith, k)) in
    let d = not_digit c 94 h (λ k. omega (arith, k)) in
    let e = not_digit c 91 h (λ k. omega (arith, k)) in
    let f = not_digit c 46 h (λ k. omega (arith, k)) in
    let g = not_digit c 40 h (λ k. omega (arith, k)) in
    ap (λ x. x || ((c == 58) || ((c == 94) || ((c == 91) || ((c == 46) || (c == 40)))))) a
    ∙ ap (λ x. x || ((c == 94) || ((c == 91) || ((c == 46) || (c == 40))))) b
    ∙ ap (λ x. x || ((c == 91) || ((c == 46) || (c == 40)))) d
    ∙ ap (λ x. x || ((c == 46) || (c == 40))) e
    ∙ ap (λ x. x || (c == 40)) f
    ∙ g

digits_word : (ds : List ℕ) → AllDigits 10 ds → IsWord ds
digits_word [] h = tt
digits_word (d ∷ ds) h = (digit_word d h.0, digits_word ds h.1)

pub decimal_word : (n : ℕ) → n < 2 ^ 64 → IsWord (decimal n)
decimal_word n h = digits_word (decimal n) (decimal_is_IsNumeral n h).0.1

pub decimal_differs : (m n : ℕ) → m < 2 ^ 64 → n < 2 ^ 64 → m ≢ n → decimal m ≢ decimal n
decimal_differs m n a b d e = d (decimal_injective m n a b e)

-- behind one mark
pub parts_apart : (r f g n k : List ℕ) (c : ℕ) → IsWord f → IsWord g → f ≢ g → IsPart (r ++ c ∷ f) n → IsPart (r ++ c ∷ g) k → n ≢ k
parts_apart r f g n k c a b different p q e =
    let whole : c ∷ (f ++ p.rest) ≡ c ∷ (g ++ q.rest) = same_behind r (c ∷ (f ++ p.rest)) (c ∷ (g ++ q.rest)) (sym (append_assoc r (c ∷ f) p.rest) ∙ sym p.is ∙ e ∙ q.is ∙ append_assoc r (c ∷ g) q.rest) in
    let rest : f ++ p.rest ≡ g ++ q.rest = cc in
    different (words_agree f g p.rest q.rest a b p.tail q.tail rest)
