-- What begins with each kind of byte.
use Rattle.std.proofs.Common.{◌≡◌, refl, sym, ap, subst, ◌∙◌, ℕ, zero, suc, ◌+◌, ◌-◌, ◌<◌, ◌≤◌, Bool, true, false, ◌&&◌, cond, nat_lt, [], ◌∷◌, length, take, drop, get_or, Option, Some, None, Result, Ok, Err, arith, length-drop, length-take-le}
use Rattle.std.specs.List.{prefix_len}
use Rattle.ob_tree.specs.declared.symbol.Symbol.{Symbol}
use Rattle.ob_tree.specs.declared.symbol.Symbol.TheVariants as s
use Rattle.ob_tree.specs.declared.pos.Pos.{Pos}
use Rattle.ob_scan.specs.declared.fault.ScanFault.{ScanFault}
use Rattle.ob_scan.specs.declared.fault.ScanFault.TheVariants as fault
use Rattle.ob_scan.specs.Vocabulary.{Bytes, is_digit, is_letter, is_letter_or_digit, is_hex_digit, is_quote, is_plain, word_symbol, symbol_of, mark_of_one, mark_of_two}
use Rattle.std.proofs.lemmas.List.{drop_more}
use Rattle.std.proofs.lemmas.List.Sums.{prefix_len-drop_all}
use Rattle.ob_scan.specs.Kinds.{symbol_first, two_of}
use Rattle.ob_scan.specs.Scanning.{longest, or_shorter, symbol_at, is_too_long, is_real, is_dot_alone, known}
use Rattle.ob_scan.proofs.Longest.{letter_no_digit, digit_no_letter, quote_apart, word_longest, hex_longest, char_longest, int_longest, string_longest, string_unfinished, two_longest, one_longest, last_longest, none_of_two, none_of_one}

abbrev pub Answer : Type 0
Answer = Result (Symbol × ℕ) ScanFault

abbrev pub found : Symbol → ℕ → Answer
found x n = Ok (x, n)

-- ---- what the order of the faults makes of it

at_long : (p : Pos) (text : Bytes) → is_too_long text ≡ true → symbol_at p text ≡ Err (fault.Limit p)
at_long p text e = rw e refl

at_real : (p : Pos) (text : Bytes) → is_too_long text ≡ false → is_real text ≡ true → symbol_at p text ≡ Err (fault.Real p)
at_real p text e h = rw (e, h) refl

at_known : (p : Pos) (text : Bytes) (o : Option (Symbol × ℕ)) → is_too_long text ≡ false → is_real text ≡ false → longest (length text) text ≡ o → symbol_at p text ≡ known p o
at_known p text o e h l = rw (e, h, l) refl

and_yes : (x y : Bool) → x ≡ true → y ≡ true → (x && y) ≡ true
and_yes x y e h = rw (e, h) refl

and_off : (x y : Bool) → x ≡ false → (x && y) ≡ false
and_off x y e = rw e refl

and_off_right : (x y : Bool) → y ≡ false → (x && y) ≡ false
and_off_right true y e = e
and_off_right false y e = refl

pub word_long : (text : Bytes) (p : Pos) (z : ℕ) → 0 < length text → is_letter (get_or text 0 z) ≡ true → 64 < prefix_len is_letter_or_digit text → symbol_at p text ≡ Err (fault.Limit p)
word_long [] p z some letter long = absurd (omega arith)
word_long (b ∷ bs) p z some letter long =
    let n : nat_lt 64 (prefix_len is_letter_or_digit (b ∷ bs)) ≡ true = grind arith in
    at_long p (b ∷ bs) (and_yes _ _ letter n)

pub word_short : (text : Bytes) (p : Pos) (z : ℕ) → 0 < length text → get_or text 0 z < 256 → is_letter (get_or text 0 z) ≡ true → prefix_len is_letter_or_digit text ≤ 64
    → symbol_at p text ≡ found (word_symbol (take (prefix_len is_letter_or_digit text) text)) (prefix_len is_letter_or_digit text)
word_short [] p z some byte letter short = absurd (omega arith)
word_short (b ∷ bs) p z some byte letter short =
    let n : nat_lt 64 (prefix_len is_letter_or_digit (b ∷ bs)) ≡ false = grind arith in
    let d = letter_no_digit b byte letter in
    at_known p (b ∷ bs) _ (and_off_right _ _ n) (and_off _ _ d) (word_longest b bs byte letter short)

pub real_found : (text : Bytes) (p : Pos) (z : ℕ) → 0 < length text → get_or text 0 z < 256 → is_digit (get_or text 0 z) ≡ true → is_dot_alone (drop (prefix_len is_digit text) text) ≡ true → symbol_at p text ≡ Err (fault.Real p)
real_found [] p z some byte digit dot = absurd (omega arith)
real_found (b ∷ bs) p z some byte digit dot = let l = digit_no_letter b byte digit in at_real p (b ∷ bs) (and_off _ _ l) (and_yes _ _ digit dot)

pub hex_found : (text : Bytes) (p : Pos) (z n : ℕ) → 0 < length text → get_or text 0 z < 256 → is_digit (get_or text 0 z) ≡ true → is_dot_alone (drop (prefix_len is_digit text) text) ≡ false
    → n ≡ 1 + prefix_len is_hex_digit (drop 1 text) → n < length text → get_or text n z ≡ 72 → symbol_at p text ≡ found s.Int (n + 1)
hex_found [] p z n some byte digit dot e l at = absurd (omega arith)
hex_found (b ∷ bs) p z n some byte digit dot e l at =
    let q : n ≡ suc (prefix_len is_hex_digit bs) = omega (arith, e) in
    let K : ℕ → Type 0 = λ m. get_or (b ∷ bs) m z ≡ 72 in
    let r = hex_longest b bs byte digit z (omega (arith, e)) (subst K q at) in
    let w : n + 1 ≡ prefix_len is_hex_digit bs + 2 = omega (arith, e) in
    let nl = digit_no_letter b byte digit in at_known p (b ∷ bs) _ (and_off _ _ nl) (and_off_right _ _ dot) r ∙ ap (λ m. found s.Int m) (sym w)

pub char_found : (text : Bytes) (p : Pos) (z n : ℕ) → 0 < length text → get_or text 0 z < 256 → is_digit (get_or text 0 z) ≡ true → is_dot_alone (drop (prefix_len is_digit text) text) ≡ false
    → n ≡ 1 + prefix_len is_hex_digit (drop 1 text) → n < length text → get_or text n z ≡ 88 → symbol_at p text ≡ found s.Char (n + 1)
char_found [] p z n some byte digit dot e l at = absurd (omega arith)
char_found (b ∷ bs) p z n some byte digit dot e l at =
    let q : n ≡ suc (prefix_len is_hex_digit bs) = omega (arith, e) in
    let K : ℕ → Type 0 = λ m. get_or (b ∷ bs) m z ≡ 88 in
    let r = char_longest b bs byte digit z (omega (arith, e)) (subst K q at) in
    let w : n + 1 ≡ prefix_len is_hex_digit bs + 2 = omega (arith, e) in
    let nl = digit_no_letter b byte digit in at_known p (b ∷ bs) _ (and_off _ _ nl) (and_off_right _ _ dot) r ∙ ap (λ m. found s.Char m) (sym w)

pub int_found : (text : Bytes) (p : Pos) (z n : ℕ) → 0 < length text → get_or text 0 z < 256 → is_digit (get_or text 0 z) ≡ true → is_dot_alone (drop (prefix_len is_digit text) text) ≡ false
    → n ≡ 1 + prefix_len is_hex_digit (drop 1 text) → (n < length text → get_or text n z ≡ 72 → ⊥) → (n < length text → get_or text n z ≡ 88 → ⊥) → symbol_at p text ≡ found s.Int (prefix_len is_digit text)
int_found [] p z n some byte digit dot e no_h no_x = absurd (omega arith)
int_found (b ∷ bs) p z n some byte digit dot e no_h no_x =
    let q : n ≡ suc (prefix_len is_hex_digit bs) = omega (arith, e) in
    let H : ℕ → Type 0 = λ m. m < length (b ∷ bs) → get_or (b ∷ bs) m z ≡ 72 → ⊥ in
    let X : ℕ → Type 0 = λ m. m < length (b ∷ bs) → get_or (b ∷ bs) m z ≡ 88 → ⊥ in
    let r = int_longest b bs byte digit z (λ l g. subst H q no_h (omega arith) g) (λ l g. subst X q no_x (omega arith) g) in
    let w : 1 + prefix_len is_digit bs ≡ prefix_len is_digit bs + 1 = omega arith in
    let nl = digit_no_letter b byte digit in
    let one_more : prefix_len is_digit (b ∷ bs) ≡ 1 + prefix_len is_digit bs = rw digit refl in
    at_known p (b ∷ bs) _ (and_off _ _ nl) (and_off_right _ _ dot) r ∙ ap (λ m. found s.Int m) (sym w ∙ sym one_more)

pub string_found : (text : Bytes) (p : Pos) (z n : ℕ) → 0 < length text → get_or text 0 z < 256 → is_quote (get_or text 0 z) ≡ true
    → n ≡ 1 + prefix_len (is_plain (get_or text 0 z)) (drop 1 text) → n < length text → get_or text n z ≡ get_or text 0 z → symbol_at p text ≡ found s.Str (n + 1)
string_found [] p z n some byte quote e l at = absurd (omega arith)
string_found (b ∷ bs) p z n some byte quote e l at =
    let q : n ≡ suc (prefix_len (is_plain b) bs) = omega (arith, e) in
    let K : ℕ → Type 0 = λ m. get_or (b ∷ bs) m z ≡ b in
    let r = string_longest b bs byte quote z (omega (arith, e)) (subst K q at) in
    let w : n + 1 ≡ prefix_len (is_plain b) bs + 2 = omega (arith, e) in
    let k = quote_apart b byte quote in at_known p (b ∷ bs) _ (and_off _ _ k.0) (and_off _ _ k.1) r ∙ ap (λ m. found s.Str m) (sym w)

pub string_fault : (text : Bytes) (p : Pos) (z n : ℕ) → 0 < length text → get_or text 0 z < 256 → is_quote (get_or text 0 z) ≡ true
    → n ≡ 1 + prefix_len (is_plain (get_or text 0 z)) (drop 1 text) → (n < length text → get_or text n z ≡ get_or text 0 z → ⊥) → symbol_at p text ≡ Err (fault.Symbol p)
string_fault [] p z n some byte quote e never = absurd (omega arith)
string_fault (b ∷ bs) p z n some byte quote e never =
    let q : n ≡ suc (prefix_len (is_plain b) bs) = omega (arith, e) in
    let K : ℕ → Type 0 = λ m. m < length (b ∷ bs) → get_or (b ∷ bs) m z ≡ b → ⊥ in
    let r = string_unfinished b bs byte quote z (λ l g. subst K q never (omega arith) g) in
    let k = quote_apart b byte quote in at_known p (b ∷ bs) _ (and_off _ _ k.0) (and_off _ _ k.1) r

pub two_found : (text : Bytes) (p : Pos) (z : ℕ) (x : Symbol) → 2 ≤ length text → is_letter (get_or text 0 z) ≡ false → is_digit (get_or text 0 z) ≡ false → is_quote (get_or text 0 z) ≡ false
    → mark_of_two (get_or text 0 z) (get_or text 1 z) ≡ Some x → symbol_at p text ≡ found x 2
two_found [] p z x long l d q e = absurd (omega arith)
two_found (a ∷ []) p z x long l d q e = absurd (omega arith)
two_found (a ∷ b ∷ bs) p z x long l d q e = let r = two_longest a l d q b bs x e in at_known p (a ∷ b ∷ bs) _ (and_off _ _ l) (and_off _ _ d) r

pub one_found : (text : Bytes) (p : Pos) (z : ℕ) (x : Symbol) → 0 < length text → is_letter (get_or text 0 z) ≡ false → is_digit (get_or text 0 z) ≡ false → is_quote (get_or text 0 z) ≡ false
    → (2 ≤ length text → mark_of_two (get_or text 0 z) (get_or text 1 z) ≡ None) → mark_of_one (get_or text 0 z) ≡ Some x → symbol_at p text ≡ found x 1
one_found [] p z x some l d q never e = absurd (omega arith)
one_found (a ∷ []) p z x some l d q never e = let r = last_longest a l d q x e in at_known p (a ∷ []) _ (and_off _ _ l) (and_off _ _ d) r
one_found (a ∷ b ∷ bs) p z x some l d q never e = let r = one_longest a l d q b bs x (never (omega arith)) e in at_known p (a ∷ b ∷ bs) _ (and_off _ _ l) (and_off _ _ d) r

pub mark_fault : (text : Bytes) (p : Pos) (z : ℕ) → 0 < length text → is_letter (get_or text 0 z) ≡ false → is_digit (get_or text 0 z) ≡ false → is_quote (get_or text 0 z) ≡ false
    → (2 ≤ length text → mark_of_two (get_or text 0 z) (get_or text 1 z) ≡ None) → mark_of_one (get_or text 0 z) ≡ None → symbol_at p text ≡ Err (fault.Symbol p)
mark_fault [] p z some l d q never e = absurd (omega arith)
mark_fault (a ∷ []) p z some l d q never e = let r = none_of_one a l d q e in at_known p (a ∷ []) _ (and_off _ _ l) (and_off _ _ d) r
mark_fault (a ∷ b ∷ bs) p z some l d q never e = let r = none_of_two a l d q b bs (never (omega arith)) e in at_known p (a ∷ b ∷ bs) _ (and_off _ _ l) (and_off _ _ d) r

-- ---- the same by the first two bytes

none_some : (x : Symbol) {C : Type 0} → None ≡ Some x → C
none_some x e = let none : ⊥ = cc in absurd none

pub by_two : (text : Bytes) (p : Pos) (z : ℕ) (x : Symbol) → is_letter (get_or text 0 z) ≡ false → is_digit (get_or text 0 z) ≡ false → is_quote (get_or text 0 z) ≡ false → two_of text ≡ Some x → symbol_at p text ≡ found x 2
by_two [] p z x l d q e = none_some x e
by_two (a ∷ []) p z x l d q e = none_some x e
by_two (a ∷ b ∷ bs) p z x l d q e = let long : 2 ≤ length (a ∷ b ∷ bs) = omega arith in two_found (a ∷ b ∷ bs) p z x long l d q e

not_two : (text : Bytes) (z : ℕ) → two_of text ≡ None → 2 ≤ length text → mark_of_two (get_or text 0 z) (get_or text 1 z) ≡ None
not_two [] z e h = absurd (omega arith)
not_two (a ∷ []) z e h = absurd (omega arith)
not_two (a ∷ b ∷ bs) z e h = e

pub by_one : (text : Bytes) (p : Pos) (z : ℕ) (x : Symbol) → 0 < length text → is_letter (get_or text 0 z) ≡ false → is_digit (get_or text 0 z) ≡ false → is_quote (get_or text 0 z) ≡ false → two_of text ≡ None
    → mark_of_one (get_or text 0 z) ≡ Some x → symbol_at p text ≡ found x 1
by_one text p z x some l d q n e = one_found text p z x some l d q (not_two text z n) e

pub by_none : (text : Bytes) (p : Pos) (z : ℕ) → 0 < length text → is_letter (get_or text 0 z) ≡ false → is_digit (get_or text 0 z) ≡ false → is_quote (get_or text 0 z) ≡ false → two_of text ≡ None
    → mark_of_one (get_or text 0 z) ≡ None → symbol_at p text ≡ Err (fault.Symbol p)
by_none text p z some l d q n e = mark_fault text p z some l d q (not_two text z n) e

-- ---- how long it is

within_one : (k : ℕ) (text : Bytes) (x : Symbol × ℕ) → k ≤ length text → longest k text ≡ Some x → (0 < x.1) × (x.1 ≤ length text)
within_one zero text x h e = let none : ⊥ = cc in absurd none
within_one (suc k) text x h e = by_front (symbol_of (take (suc k) text)) e (λ g. let l : k ≤ length text = omega arith in within_one k text x l g)
  where
    by_front : (o : Option Symbol) → or_shorter o (suc k) (longest k text) ≡ Some x → (longest k text ≡ Some x → (0 < x.1) × (x.1 ≤ length text)) → (0 < x.1) × (x.1 ≤ length text)
    by_front None g rest = rest g
    by_front (Some y) g rest =
        let v : (y, suc k) ≡ x = some_value (y, suc k) x g in
        let K : Symbol × ℕ → Type 0 = λ w. (0 < w.1) × (w.1 ≤ length text) in
        let some : 0 < suc k = omega arith in
        subst K v (some, h)
      where
        some_value : (a b : Symbol × ℕ) → Some a ≡ Some b → a ≡ b
        some_value a b e = cc

abbrev ok : Symbol × ℕ → Answer
ok x = Ok x

known_some : (p : Pos) (o : Option (Symbol × ℕ)) (x : Symbol × ℕ) → known p o ≡ Ok x → o ≡ Some x
known_some p None x e = let none : ⊥ = cc in absurd none
known_some p (Some y) x e = ap (λ w. Some w) (ok_value y x e)
  where
    ok_value : (a b : Symbol × ℕ) → ok a ≡ ok b → a ≡ b
    ok_value a b e = cc

err_not : (f : ScanFault) (x : Symbol × ℕ) {C : Type 0} → Err f ≡ Ok x → C
err_not f x e = let none : ⊥ = cc in absurd none

pub symbol_within : (p : Pos) (text : Bytes) (x : Symbol × ℕ) → symbol_at p text ≡ Ok x → (0 < x.1) × (x.1 ≤ length text)
symbol_within p text x e = by_long (is_too_long text) (is_real text) e
  where
    by_long : (t u : Bool) → cond t (Err (fault.Limit p)) (cond u (Err (fault.Real p)) (known p (longest (length text) text))) ≡ Ok x → (0 < x.1) × (x.1 ≤ length text)
    by_long true u h = err_not (fault.Limit p) x h
    by_long false true h = err_not (fault.Real p) x h
    by_long false false h = let l : length text ≤ length text = omega arith in within_one (length text) text x l (known_some p (longest (length text) text) x h)

-- ---- runs

pub run_more : (f : ℕ → Bool) (text : Bytes) (n z : ℕ) → n < length text → f (get_or text n z) ≡ true → prefix_len f (drop n text) ≡ 1 + prefix_len f (drop (n + 1) text)
run_more f text n z l e = let d = drop_more text n z l in rw (d, e) refl

pub run_stops : (f : ℕ → Bool) (text : Bytes) (n z : ℕ) → n < length text → f (get_or text n z) ≡ false → prefix_len f (drop n text) ≡ 0
run_stops f text n z l e = let d = drop_more text n z l in rw (d, e) refl

pub run_ends : (f : ℕ → Bool) (text : Bytes) (n : ℕ) → length text ≤ n → prefix_len f (drop n text) ≡ 0
run_ends f text n l = prefix_len-drop_all f text n l

-- what a symbol leaves of a text that stands behind a gap is shorter than all of it
pub is_shorter : (all : Bytes) (at n : ℕ) (p : Pos) (x : Symbol) → symbol_first (Ok (n, x)) ≡ symbol_at p (take (length all - at) (drop at all))
    → (n ≤ length (take (length all - at) (drop at all))) × (length (drop n (take (length all - at) (drop at all))) < length all)
is_shorter all at n p x e =
    let text = take (length all - at) (drop at all) in
    let w = symbol_within p text (x, n) (sym e) in
    let some = w.0 in
    let within = w.1 in
    let left = length-drop n text in
    let a = length-drop at all in
    let b = length-take-le (length all - at) (drop at all) (omega (arith, a)) in
    (within, omega (arith, some, within, left, b))
