-- Which front of a text is the longest symbol.
use Rattle.std.proofs.Common.{◌≡◌, refl, sym, ap, subst, ◌∙◌, ℕ, zero, suc, ◌+◌, ◌<◌, ◌≤◌, Bool, true, false, ◌||◌, ◌&&◌, not, cond, ◌==◌, nat_le, [], ◌∷◌, length, take, get_or, Option, Some, None, ◌⊎◌, inl, inr, ⊎_elim, arith}
use Rattle.std.specs.List.{prefix_len}
use Rattle.std.specs.Prelude.{is_none}
use Rattle.std.proofs.lemmas.Bool.{and_parts}
use Rattle.std.proofs.lemmas.List.{length-take-le}
use Rattle.std.proofs.lemmas.List.Sums.{prefix_len-le-length}
use Rattle.ob_tree.specs.declared.symbol.Symbol.{Symbol}
use Rattle.ob_tree.specs.declared.symbol.Symbol.TheVariants as s
use Rattle.ob_scan.specs.Vocabulary.{Bytes, symbol_of, is_digit, is_letter, is_letter_or_digit, is_hex_digit, is_quote, is_plain, all_are, ends_in, is_string, word_symbol, mark_of, mark_of_one, mark_of_two}
use Rattle.ob_scan.specs.Scanning.{longest, or_shorter}

-- ---- the search

le_suc_cases : (n k : ℕ) → n ≤ suc k → (n ≡ suc k) ⊎ (n ≤ k)
le_suc_cases zero k h = inr (omega arith)
le_suc_cases (suc n) zero h = let e : suc n ≡ 1 = omega arith in inl e
le_suc_cases (suc n) (suc k) h = ⊎_elim (λ e. inl (ap suc e)) (λ l. inr (omega arith)) (le_suc_cases n k (omega arith))

pub longest_is : (k : ℕ) (text : Bytes) (x : Symbol) (n : ℕ) → n ≤ k → 0 < n → symbol_of (take n text) ≡ Some x
    → ((m : ℕ) → n < m → m ≤ k → symbol_of (take m text) ≡ None) → longest k text ≡ Some (x, n)
longest_is zero text x n le some is longer = absurd (omega arith)
longest_is (suc k) text x n le some is longer = by_place (le_suc_cases n k le) (λ l m. longest_is k text x n l some is m)
  where
    by_place : (n ≡ suc k) ⊎ (n ≤ k) → (n ≤ k → ((m : ℕ) → n < m → m ≤ k → symbol_of (take m text) ≡ None) → longest k text ≡ Some (x, n)) → longest (suc k) text ≡ Some (x, n)
    by_place (inl e) rest = let K : ℕ → Type 0 = λ m. or_shorter (symbol_of (take m text)) m (longest k text) ≡ Some (x, n) in subst K e (rw is refl)
    by_place (inr l) rest =
        let below : n < suc k = omega arith in
        let last : suc k ≤ suc k = omega arith in
        let none : symbol_of (take (suc k) text) ≡ None = longer (suc k) below last in
        let shorter : longest k text ≡ Some (x, n) = rest l fewer in
        rw none shorter
      where
        fewer : (m : ℕ) → n < m → m ≤ k → symbol_of (take m text) ≡ None
        fewer m a b = let c : m ≤ suc k = omega arith in longer m a c

pub none_longest : (k : ℕ) (text : Bytes) → ((m : ℕ) → 0 < m → m ≤ k → symbol_of (take m text) ≡ None) → longest k text ≡ None
none_longest zero text h = refl
none_longest (suc k) text h =
    let some : 0 < suc k = omega arith in
    let last : suc k ≤ suc k = omega arith in
    let none = h (suc k) some last in
    rw none (none_longest k text (λ m a b. let b' : m ≤ suc k = omega arith in h m a b'))

-- ---- fronts of one kind

by_bool : (b : Bool) → (b ≡ true) ⊎ (b ≡ false)
by_bool true = inl refl
by_bool false = inr refl

clash : (b : Bool) → b ≡ true → b ≡ false → ⊥
clash b e h = cc

prefix_on : (f : ℕ → Bool) (b : ℕ) (bs : Bytes) → f b ≡ true → prefix_len f (b ∷ bs) ≡ 1 + prefix_len f bs
prefix_on f b bs e = rw e refl

prefix_off : (f : ℕ → Bool) (b : ℕ) (bs : Bytes) → f b ≡ false → prefix_len f (b ∷ bs) ≡ 0
prefix_off f b bs e = rw e refl

pub take_all : (f : ℕ → Bool) (bs : Bytes) (m : ℕ) → m ≤ prefix_len f bs → all_are f (take m bs) ≡ true
take_all f [] zero h = refl
take_all f [] (suc m) h = refl
take_all f (b ∷ bs) zero h = refl
take_all f (b ∷ bs) (suc m) h =
    ⊎_elim (λ e. let l : m ≤ prefix_len f bs = omega (arith, prefix_on f b bs e) in rw e (take_all f bs m l))
    (λ e. absurd (omega (arith, prefix_off f b bs e))) (by_bool (f b))

pub take_not_all : (f : ℕ → Bool) (bs : Bytes) (m : ℕ) → prefix_len f bs < m → m ≤ length bs → all_are f (take m bs) ≡ false
take_not_all f [] m h l = absurd (omega arith)
take_not_all f (b ∷ bs) zero h l = absurd (omega arith)
take_not_all f (b ∷ bs) (suc m) h l =
    ⊎_elim (λ e. let g : prefix_len f bs < m = omega (arith, prefix_on f b bs e) in let l' : m ≤ length bs = omega arith in rw e (take_not_all f bs m g l'))
    (λ e. rw e refl) (by_bool (f b))

eq_of : (b c : ℕ) → (b == c) ≡ true → b ≡ c
eq_of b c h = grind arith

-- a front that ends in c, which is not of the kind, is the front of that kind and one more
pub ends_at : (f : ℕ → Bool) (c : ℕ) (bs : Bytes) (m z : ℕ) → f c ≡ false → m ≤ length bs → ends_in f c (take m bs) ≡ true
    → (m ≡ prefix_len f bs + 1) × (get_or bs (prefix_len f bs) z ≡ c)
ends_at f c [] zero z n l h = absurd (clash false h refl)
ends_at f c [] (suc m) z n l h = absurd (omega arith)
ends_at f c (b ∷ bs) zero z n l h = absurd (clash false h refl)
ends_at f c (b ∷ bs) (suc zero) z n l h =
    let e : b ≡ c = eq_of b c h in
    let off : f b ≡ false = ap f e ∙ n in
    let p = prefix_off f b bs off in
    rw p (refl, e)
ends_at f c (b ∷ []) (suc (suc m)) z n l h = absurd (omega arith)
ends_at f c (b ∷ d ∷ bs) (suc (suc m)) z n l h =
    let u = and_parts (f b) (ends_in f c (take (suc m) (d ∷ bs))) h in
    let r = ends_at f c (d ∷ bs) (suc m) z n (omega arith) u.1 in
    let p = prefix_on f b (d ∷ bs) u.0 in
    let e : 1 + prefix_len f (d ∷ bs) ≡ suc (prefix_len f (d ∷ bs)) = omega arith in
    rw (p, e) (omega (arith, r.0), r.1)

same_byte : (b c : ℕ) → b ≡ c → (b == c) ≡ true
same_byte b c h = grind arith

none_yes : (f : ℕ → Bool) (c b : ℕ) (bs : Bytes) (z : ℕ) → get_or (b ∷ bs) (prefix_len f (b ∷ bs)) z ≡ c → f b ≡ false → ends_in f c (take (prefix_len f (b ∷ bs) + 1) (b ∷ bs)) ≡ true
none_yes f c b bs z e off =
    let p = prefix_off f b bs off in
    let K : ℕ → Type 0 = λ n. get_or (b ∷ bs) n z ≡ c in
    let at : b ≡ c = subst K p e in
    let n : prefix_len f (b ∷ bs) + 1 ≡ suc zero = omega (arith, p) in
    let L : ℕ → Type 0 = λ m. ends_in f c (take m (b ∷ bs)) ≡ true in
    subst L (sym n) (same_byte b c at)

more_yes : (f : ℕ → Bool) (c b d : ℕ) (bs : Bytes) (z : ℕ) → prefix_len f (b ∷ d ∷ bs) < length (b ∷ d ∷ bs) → get_or (b ∷ d ∷ bs) (prefix_len f (b ∷ d ∷ bs)) z ≡ c → f b ≡ true
    → (prefix_len f (d ∷ bs) < length (d ∷ bs) → get_or (d ∷ bs) (prefix_len f (d ∷ bs)) z ≡ c → ends_in f c (take (prefix_len f (d ∷ bs) + 1) (d ∷ bs)) ≡ true)
    → ends_in f c (take (prefix_len f (b ∷ d ∷ bs) + 1) (b ∷ d ∷ bs)) ≡ true
more_yes f c b d bs z l e on rest =
    let p = prefix_on f b (d ∷ bs) on in
    let K : ℕ → Type 0 = λ n. get_or (b ∷ d ∷ bs) n z ≡ c in
    let q : prefix_len f (b ∷ d ∷ bs) ≡ suc (prefix_len f (d ∷ bs)) = omega (arith, p) in
    let below : prefix_len f (d ∷ bs) < length (d ∷ bs) = omega (arith, p) in
    let r = rest below (subst K q e) in
    let n : prefix_len f (b ∷ d ∷ bs) + 1 ≡ suc (suc (prefix_len f (d ∷ bs))) = omega (arith, p) in
    let n' : prefix_len f (d ∷ bs) + 1 ≡ suc (prefix_len f (d ∷ bs)) = omega arith in
    let L : ℕ → Type 0 = λ m. ends_in f c (take m (d ∷ bs)) ≡ true in
    let M : ℕ → Type 0 = λ m. ends_in f c (take m (b ∷ d ∷ bs)) ≡ true in
    subst M (sym n) (both_true (f b) _ on (subst L n' r))
  where
    both_true : (x y : Bool) → x ≡ true → y ≡ true → (x && y) ≡ true
    both_true x y e h = rw (e, h) refl

pub ends_yes : (f : ℕ → Bool) (c : ℕ) (bs : Bytes) (z : ℕ) → prefix_len f bs < length bs → get_or bs (prefix_len f bs) z ≡ c → ends_in f c (take (prefix_len f bs + 1) bs) ≡ true
ends_yes f c [] z l e = absurd (omega arith)
ends_yes f c (b ∷ []) z l e = ⊎_elim (λ (on : f b ≡ true). absurd (omega (arith, prefix_on f b [] on))) (λ off. none_yes f c b [] z e off) (by_bool (f b))
ends_yes f c (b ∷ d ∷ bs) z l e =
    ⊎_elim (λ (on : f b ≡ true). more_yes f c b d bs z l e on (λ l' e'. ends_yes f c (d ∷ bs) z l' e')) (λ off. none_yes f c b (d ∷ bs) z e off) (by_bool (f b))

-- ---- the first byte

check : (ℕ → Bool) → ℕ → Bool
check p zero = true
check p (suc n) = p n && check p n

checked : (p : ℕ → Bool) (n b : ℕ) → check p n ≡ true → b < n → p b ≡ true
unfolding check
checked p zero b h l = absurd (omega arith)
checked p (suc n) b h l =
    let u = and_parts (p n) (check p n) h in
    ⊎_elim (λ (e : b ≡ n). rw e u.0) (λ (l' : b < n). checked p n b u.1 l') (below b n l)
  where
    below : (b n : ℕ) → b < suc n → (b ≡ n) ⊎ (b < n)
    below zero zero l = inl refl
    below zero (suc n) l = inr (omega arith)
    below (suc b) zero l = absurd (omega arith)
    below (suc b) (suc n) l = ⊎_elim (λ e. inl (ap suc e)) (λ h. inr (omega arith)) (below b n (omega arith))

abbrev starts_long : ℕ → Bool
starts_long a = is_letter a || (is_digit a || is_quote a)

apart_digit : check (λ a. not (is_letter a && is_digit a)) 256 ≡ true
unfolding check
apart_digit = refl

apart_quote : check (λ a. not (is_quote a && (is_letter a || is_digit a))) 256 ≡ true
unfolding check
apart_quote = refl

apart_mark : check (λ a. not (starts_long a) || is_none (mark_of_one a)) 256 ≡ true
unfolding check
apart_mark = refl

apart_two : (b : ℕ) → check (λ a. not (starts_long a) || is_none (mark_of_two a b)) 256 ≡ true
unfolding check
apart_two b = refl

-- what a byte that starts a word, a number or a string is not
record Starts (a : ℕ) : Type 0 where
  mark : mark_of_one a ≡ None
  two : (b : ℕ) → mark_of_two a b ≡ None

no_of : (o : Option Symbol) → is_none o ≡ true → o ≡ None
no_of None h = refl
no_of (Some x) h = absurd (clash false h refl)

implies : (b c : Bool) → (not b || c) ≡ true → b ≡ true → c ≡ true
implies true c h e = h
implies false c h e = absurd (clash false e refl)

starts_of : (a : ℕ) → a < 256 → starts_long a ≡ true → Starts a
starts_of a l h = record {
  mark = no_of _ (implies (starts_long a) _ (checked (λ a. not (starts_long a) || is_none (mark_of_one a)) 256 a apart_mark l) h);
  two = λ b. no_of _ (implies (starts_long a) _ (checked (λ a. not (starts_long a) || is_none (mark_of_two a b)) 256 a (apart_two b) l) h);
}

not_both : (b c : Bool) → not (b && c) ≡ true → b ≡ true → c ≡ false
not_both true true h e = absurd (clash false h refl)
not_both true false h e = refl
not_both false c h e = absurd (clash false e refl)

or_left : (b c : Bool) → b ≡ true → (b || c) ≡ true
or_left true c e = refl
or_left false c e = absurd (clash false e refl)

or_right : (b c : Bool) → c ≡ true → (b || c) ≡ true
or_right true c e = refl
or_right false c e = e

or_off : (b c : Bool) → (b || c) ≡ false → (b ≡ false) × (c ≡ false)
or_off true c e = absurd (clash true refl e)
or_off false c e = (refl, e)

pub letter_no_digit : (a : ℕ) → a < 256 → is_letter a ≡ true → is_digit a ≡ false
letter_no_digit a l h = not_both (is_letter a) (is_digit a) (checked (λ a. not (is_letter a && is_digit a)) 256 a apart_digit l) h

flip : (b c : Bool) → (b ≡ true → c ≡ false) → c ≡ true → b ≡ false
flip true c f e = absurd (clash c e (f refl))
flip false c f e = refl

pub digit_no_letter : (a : ℕ) → a < 256 → is_digit a ≡ true → is_letter a ≡ false
digit_no_letter a l h = flip (is_letter a) (is_digit a) (λ e. letter_no_digit a l e) h

pub quote_apart : (a : ℕ) → a < 256 → is_quote a ≡ true → (is_letter a ≡ false) × (is_digit a ≡ false)
quote_apart a l h = or_off (is_letter a) (is_digit a) (not_both (is_quote a) (is_letter a || is_digit a) (checked (λ a. not (is_quote a && (is_letter a || is_digit a))) 256 a apart_quote l) h)

letter_no_quote : (a : ℕ) → a < 256 → is_letter a ≡ true → is_quote a ≡ false
letter_no_quote a l h = flip (is_quote a) (is_letter a) (λ e. (quote_apart a l e).0) h

digit_no_quote : (a : ℕ) → a < 256 → is_digit a ≡ true → is_quote a ≡ false
digit_no_quote a l h = flip (is_quote a) (is_digit a) (λ e. (quote_apart a l e).1) h

mark_none : (a : ℕ) → Starts a → (bs : Bytes) → mark_of (a ∷ bs) ≡ None
mark_none a S [] = S.mark
mark_none a S (b ∷ []) = S.two b
mark_none a S (b ∷ c ∷ bs) = refl

-- ---- words

module _ (b : ℕ) (bs : Bytes) (byte : b < 256) (letter : is_letter b ≡ true) where
  abbrev run : ℕ
  run = prefix_len is_letter_or_digit (b ∷ bs)

  one_more : run ≡ 1 + prefix_len is_letter_or_digit bs
  one_more = let e : is_letter_or_digit b ≡ true = or_left (is_letter b) (is_digit b) letter in prefix_on is_letter_or_digit b bs e

  word_front : (m : ℕ) → m ≤ prefix_len is_letter_or_digit bs → length (b ∷ take m bs) ≤ 64 → symbol_of (b ∷ take m bs) ≡ Some (word_symbol (b ∷ take m bs))
  word_front m l short =
      let a = take_all is_letter_or_digit bs m l in
      let n : nat_le (length (b ∷ take m bs)) 64 ≡ true = grind arith in
      rw (letter, a, n) refl

  word_no : (m : ℕ) → prefix_len is_letter_or_digit bs < m → m ≤ length bs → symbol_of (b ∷ take m bs) ≡ None
  word_no m l long =
      let a = take_not_all is_letter_or_digit bs m l long in
      let d = letter_no_digit b byte letter in let q = letter_no_quote b byte letter in
      let k = mark_none b (starts_of b byte (or_left (is_letter b) (is_digit b || is_quote b) letter)) (take m bs) in
      rw (letter, a, d, q) k

  pub word_longest : run ≤ 64 → longest (length (b ∷ bs)) (b ∷ bs) ≡ Some (word_symbol (take run (b ∷ bs)), run)
  word_longest short =
      let p = prefix_len is_letter_or_digit bs in
      let within : p ≤ length bs = prefix_len-le-length is_letter_or_digit bs in
      let e : run ≡ suc p = omega (arith, one_more) in
      let front : symbol_of (take (suc p) (b ∷ bs)) ≡ Some (word_symbol (take (suc p) (b ∷ bs))) =
      word_front p (omega arith) (omega (arith, length-take-le p bs within, one_more)) in
      let K : ℕ → Type 0 = λ n. longest (length (b ∷ bs)) (b ∷ bs) ≡ Some (word_symbol (take n (b ∷ bs)), n) in
      subst K (sym e) (longest_is (length (b ∷ bs)) (b ∷ bs) (word_symbol (take (suc p) (b ∷ bs))) (suc p) (omega arith) (omega arith) front longer)
    where
      longer : (m : ℕ) → suc (prefix_len is_letter_or_digit bs) < m → m ≤ length (b ∷ bs) → symbol_of (take m (b ∷ bs)) ≡ None
      longer zero l h = absurd (omega arith)
      longer (suc m) l h = word_no m (omega arith) (omega arith)

-- ---- numbers

module _ (b : ℕ) (bs : Bytes) (byte : b < 256) (digit : is_digit b ≡ true) where
  abbrev digits : ℕ
  digits = prefix_len is_digit bs

  abbrev hexes : ℕ
  hexes = prefix_len is_hex_digit bs

  num_none : (m : ℕ) → all_are is_digit (take m bs) ≡ false → ends_in is_hex_digit 72 (take m bs) ≡ false → ends_in is_hex_digit 88 (take m bs) ≡ false → symbol_of (b ∷ take m bs) ≡ None
  num_none m d h x =
      let l = digit_no_letter b byte digit in let q = digit_no_quote b byte digit in
      let k = mark_none b (starts_of b byte (or_right (is_letter b) (is_digit b || is_quote b) (or_left (is_digit b) (is_quote b) digit))) (take m bs) in
      rw (l, digit, d, h, x, q) k

  -- decimal digits are hexadecimal ones
  fewer : (bs : Bytes) → prefix_len is_digit bs ≤ prefix_len is_hex_digit bs
  fewer [] = omega arith
  fewer (c ∷ cs) = ⊎_elim
      (λ (e : is_digit c ≡ true). let e' : is_hex_digit c ≡ true = or_left (is_digit c) _ e in omega (arith, prefix_on is_digit c cs e, prefix_on is_hex_digit c cs e', fewer cs))
      (λ e. omega (arith, prefix_off is_digit c cs e)) (by_bool (is_digit c))

  not_ends : (c : ℕ) (m : ℕ) (z : ℕ) → is_hex_digit c ≡ false → m ≤ length bs → ((m ≡ hexes + 1) → (get_or bs hexes z ≡ c) → ⊥) → ends_in is_hex_digit c (take m bs) ≡ false
  not_ends c m z n l never = ⊎_elim (λ e. let r = ends_at is_hex_digit c bs m z n l e in absurd (never r.0 r.1)) (λ e. e) (by_bool (ends_in is_hex_digit c (take m bs)))

  -- behind the hexadecimal digits stands H
  pub hex_longest : (z : ℕ) → hexes < length bs → get_or bs hexes z ≡ 72 → longest (length (b ∷ bs)) (b ∷ bs) ≡ Some (s.Int, hexes + 2)
  hex_longest z l at =
      let e : hexes + 2 ≡ suc (hexes + 1) = omega arith in
      let y = ends_yes is_hex_digit 72 bs z l at in
      let nl = digit_no_letter b byte digit in
      let front : symbol_of (b ∷ take (hexes + 1) bs) ≡ Some s.Int = rw (nl, digit, y) (any_int _) in
      rw e (longest_is (length (b ∷ bs)) (b ∷ bs) s.Int (suc (hexes + 1)) (omega arith) (omega arith) front longer)
    where
      any_int : (c : Bool) → cond (c || true) (Some s.Int) (cond (ends_in is_hex_digit 88 (take (hexes + 1) bs)) (Some s.Char) (cond (is_string (b ∷ take (hexes + 1) bs)) (Some s.Str) (mark_of (b ∷ take (hexes + 1) bs)))) ≡ Some s.Int
      any_int true = refl
      any_int false = refl

      longer : (m : ℕ) → suc (hexes + 1) < m → m ≤ length (b ∷ bs) → symbol_of (take m (b ∷ bs)) ≡ None
      longer zero h k = absurd (omega arith)
      longer (suc m) h k =
          num_none m (take_not_all is_digit bs m (omega (arith, fewer bs)) (omega arith))
          (not_ends 72 m z refl (omega arith) (λ e g. omega (arith, e))) (not_ends 88 m z refl (omega arith) (λ e g. omega (arith, e)))

  -- or X
  pub char_longest : (z : ℕ) → hexes < length bs → get_or bs hexes z ≡ 88 → longest (length (b ∷ bs)) (b ∷ bs) ≡ Some (s.Char, hexes + 2)
  char_longest z l at =
      let e : hexes + 2 ≡ suc (hexes + 1) = omega arith in
      let y = ends_yes is_hex_digit 88 bs z l at in
      let nl = digit_no_letter b byte digit in
      let nd = take_not_all is_digit bs (hexes + 1) (omega (arith, fewer bs)) (omega arith) in
      let nh = not_ends 72 (hexes + 1) z refl (omega arith) (λ e' g. differ (sym g ∙ at)) in
      let front : symbol_of (b ∷ take (hexes + 1) bs) ≡ Some s.Char = rw (nl, digit, nd, nh, y) refl in
      rw e (longest_is (length (b ∷ bs)) (b ∷ bs) s.Char (suc (hexes + 1)) (omega arith) (omega arith) front longer)
    where
      differ : ◌≡◌ {A = ℕ} 72 88 → ⊥
      differ e = omega (arith, e)

      longer : (m : ℕ) → suc (hexes + 1) < m → m ≤ length (b ∷ bs) → symbol_of (take m (b ∷ bs)) ≡ None
      longer zero h k = absurd (omega arith)
      longer (suc m) h k =
          num_none m (take_not_all is_digit bs m (omega (arith, fewer bs)) (omega arith))
          (not_ends 72 m z refl (omega arith) (λ e g. omega (arith, e))) (not_ends 88 m z refl (omega arith) (λ e g. omega (arith, e)))

  -- or neither
  pub int_longest : (z : ℕ) → ((hexes < length bs) → get_or bs hexes z ≡ 72 → ⊥) → ((hexes < length bs) → get_or bs hexes z ≡ 88 → ⊥) → longest (length (b ∷ bs)) (b ∷ bs) ≡ Some (s.Int, digits + 1)
  int_longest z no_h no_x =
      let within : digits ≤ length bs = prefix_len-le-length is_digit bs in
      let e : digits + 1 ≡ suc digits = omega arith in
      let nl = digit_no_letter b byte digit in
      let a = take_all is_digit bs digits (omega arith) in
      let front : symbol_of (b ∷ take digits bs) ≡ Some s.Int = rw (nl, digit, a) refl in
      rw e (longest_is (length (b ∷ bs)) (b ∷ bs) s.Int (suc digits) (omega arith) (omega arith) front longer)
    where
      longer : (m : ℕ) → suc digits < m → m ≤ length (b ∷ bs) → symbol_of (take m (b ∷ bs)) ≡ None
      longer zero h k = absurd (omega arith)
      longer (suc m) h k =
          num_none m (take_not_all is_digit bs m (omega arith) (omega arith))
          (not_ends 72 m z refl (omega arith) (λ e g. no_h (omega (arith, e)) g)) (not_ends 88 m z refl (omega arith) (λ e g. no_x (omega (arith, e)) g))

-- ---- strings

module _ (q : ℕ) (bs : Bytes) (byte : q < 256) (quote : is_quote q ≡ true) where
  abbrev inner : ℕ
  inner = prefix_len (is_plain q) bs

  not_plain : is_plain q q ≡ false
  not_plain = last_false (nat_le q 127) (not (q == 10)) (q == q) same_byte
    where
      same_byte : (q == q) ≡ true
      same_byte = grind arith

      last_false : (a b c : Bool) → c ≡ true → (a && (b && not c)) ≡ false
      last_false true true c e = rw e refl
      last_false true false c e = refl
      last_false false b c e = refl

  string_none : (m : ℕ) → ends_in (is_plain q) q (take m bs) ≡ false → symbol_of (q ∷ take m bs) ≡ None
  string_none m n =
      let k = quote_apart q byte quote in
      let o = mark_none q (starts_of q byte (or_right (is_letter q) (is_digit q || is_quote q) (or_right (is_digit q) (is_quote q) quote))) (take m bs) in
      rw (k.0, k.1, quote, n) o

  not_closed : (m : ℕ) (z : ℕ) → m ≤ length bs → ((m ≡ inner + 1) → (get_or bs inner z ≡ q) → ⊥) → ends_in (is_plain q) q (take m bs) ≡ false
  not_closed m z l never = ⊎_elim (λ e. let r = ends_at (is_plain q) q bs m z not_plain l e in absurd (never r.0 r.1)) (λ e. e) (by_bool (ends_in (is_plain q) q (take m bs)))

  pub string_longest : (z : ℕ) → inner < length bs → get_or bs inner z ≡ q → longest (length (q ∷ bs)) (q ∷ bs) ≡ Some (s.Str, inner + 2)
  string_longest z l at =
      let e : inner + 2 ≡ suc (inner + 1) = omega arith in
      let y = ends_yes (is_plain q) q bs z l at in
      let k = quote_apart q byte quote in
      let front : symbol_of (q ∷ take (inner + 1) bs) ≡ Some s.Str = rw (k.0, k.1, quote, y) refl in
      rw e (longest_is (length (q ∷ bs)) (q ∷ bs) s.Str (suc (inner + 1)) (omega arith) (omega arith) front longer)
    where
      longer : (m : ℕ) → suc (inner + 1) < m → m ≤ length (q ∷ bs) → symbol_of (take m (q ∷ bs)) ≡ None
      longer zero h k = absurd (omega arith)
      longer (suc m) h k = string_none m (not_closed m z (omega arith) (λ e g. omega (arith, e)))

  pub string_unfinished : (z : ℕ) → ((inner < length bs) → get_or bs inner z ≡ q → ⊥) → longest (length (q ∷ bs)) (q ∷ bs) ≡ None
  string_unfinished z never = none_longest (length (q ∷ bs)) (q ∷ bs) all
    where
      all : (m : ℕ) → 0 < m → m ≤ length (q ∷ bs) → symbol_of (take m (q ∷ bs)) ≡ None
      all zero h k = absurd (omega arith)
      all (suc m) h k = string_none m (not_closed m z (omega arith) (λ e g. never (omega (arith, e)) g))

-- ---- marks

module _ (a : ℕ) (no_letter : is_letter a ≡ false) (no_digit : is_digit a ≡ false) (no_quote : is_quote a ≡ false) where
  mark_only : (bs : Bytes) → symbol_of (a ∷ bs) ≡ mark_of (a ∷ bs)
  mark_only bs = rw (no_letter, no_digit, no_quote) refl

  long_none : (bs : Bytes) (m : ℕ) → 2 < m → m ≤ length (a ∷ bs) → symbol_of (take m (a ∷ bs)) ≡ None
  long_none bs zero h k = absurd (omega arith)
  long_none bs (suc zero) h k = absurd (omega arith)
  long_none bs (suc (suc zero)) h k = absurd (omega arith)
  long_none [] (suc (suc (suc m))) h k = absurd (omega arith)
  long_none (b ∷ []) (suc (suc (suc m))) h k = absurd (omega arith)
  long_none (b ∷ c ∷ bs) (suc (suc (suc m))) h k = mark_only (b ∷ c ∷ take m bs)

  pub two_longest : (b : ℕ) (bs : Bytes) (x : Symbol) → mark_of_two a b ≡ Some x → longest (length (a ∷ b ∷ bs)) (a ∷ b ∷ bs) ≡ Some (x, 2)
  two_longest b bs x e =
      longest_is (length (a ∷ b ∷ bs)) (a ∷ b ∷ bs) x 2 (omega arith) (omega arith) (mark_only (b ∷ []) ∙ e) (λ m h k. long_none (b ∷ bs) m h k)

  one_by_two : (b : ℕ) (bs : Bytes) → mark_of_two a b ≡ None → (m : ℕ) → 1 < m → m ≤ length (a ∷ b ∷ bs) → symbol_of (take m (a ∷ b ∷ bs)) ≡ None
  one_by_two b bs e zero h k = absurd (omega arith)
  one_by_two b bs e (suc zero) h k = absurd (omega arith)
  one_by_two b bs e (suc (suc zero)) h k = mark_only (b ∷ []) ∙ e
  one_by_two b bs e (suc (suc (suc m))) h k = long_none (b ∷ bs) (suc (suc (suc m))) (omega arith) k

  pub one_longest : (b : ℕ) (bs : Bytes) (x : Symbol) → mark_of_two a b ≡ None → mark_of_one a ≡ Some x → longest (length (a ∷ b ∷ bs)) (a ∷ b ∷ bs) ≡ Some (x, 1)
  one_longest b bs x n e = longest_is (length (a ∷ b ∷ bs)) (a ∷ b ∷ bs) x 1 (omega arith) (omega arith) (mark_only [] ∙ e) (one_by_two b bs n)

  pub last_longest : (x : Symbol) → mark_of_one a ≡ Some x → longest (length (a ∷ [])) (a ∷ []) ≡ Some (x, 1)
  last_longest x e = longest_is (length (a ∷ [])) (a ∷ []) x 1 (omega arith) (omega arith) (mark_only [] ∙ e) (λ m h k. absurd (omega arith))

  pub none_of_two : (b : ℕ) (bs : Bytes) → mark_of_two a b ≡ None → mark_of_one a ≡ None → longest (length (a ∷ b ∷ bs)) (a ∷ b ∷ bs) ≡ None
  none_of_two b bs n e = none_longest (length (a ∷ b ∷ bs)) (a ∷ b ∷ bs) (λ m h k. all m h k)
    where
      all : (m : ℕ) → 0 < m → m ≤ length (a ∷ b ∷ bs) → symbol_of (take m (a ∷ b ∷ bs)) ≡ None
      all zero h k = absurd (omega arith)
      all (suc zero) h k = mark_only [] ∙ e
      all (suc (suc m)) h k = one_by_two b bs n (suc (suc m)) (omega arith) k

  pub none_of_one : mark_of_one a ≡ None → longest (length (a ∷ [])) (a ∷ []) ≡ None
  none_of_one e = none_longest (length (a ∷ [])) (a ∷ []) (λ m h k. all m h k)
    where
      all : (m : ℕ) → 0 < m → m ≤ length (a ∷ []) → symbol_of (take m (a ∷ [])) ≡ None
      all zero h k = absurd (omega arith)
      all (suc zero) h k = mark_only [] ∙ e
      all (suc (suc m)) h k = absurd (omega arith)
