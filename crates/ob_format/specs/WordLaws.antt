-- Words are exact where their parts are.
use Rattle.std.proofs.Common.{◌≡◌, ℕ, zero, suc, ◌+◌, ◌-◌, ◌*◌, ◌^◌, ◌<◌, ◌≤◌, ◌≢◌, Bool, true, false, cond, ltb, eqb, List, [], ◌∷◌, ◌++◌, length, get_or, Option, Some, None, refl, sym, ap, subst, ◌∙◌, append_assoc, arith}
use Rattle.std.specs.Prelude.{decimal, ℤ, pos, negsuc, FitsSigned}
use Rattle.std.specs.Int.{w32}
use Rattle.std.specs.Fmt.{signed_decimal}
use Rattle.std.proofs.lemmas.Int.{ints}
use Rattle.std.specs.List.{flat_map, AllByRecursion}
use Rattle.std.specs.Char.{is_ascii_digit, digit_value}
use Rattle.std.specs.Str.Parse.{AllDigits, digits_value_after, digits_value}
use Rattle.std.proofs.lemmas.Bool.{eqb-true, ltb-true, ltb-false, lt-ltb}
use Rattle.std.proofs.lemmas.Bool.Decides.{Decides-eqb, nat_tests}
use Rattle.std.proofs.lemmas.List.{length-append, append-nil, nil_from_length}
use Rattle.std.proofs.lemmas.List.Concat.{flat_map-cons}
use Rattle.std.proofs.lemmas.Option.{cond_some}
use Rattle.std.proofs.lemmas.Str.Parse.{numerals_by_value, tells_digits, IsNumeralModel}
use Rattle.std.proofs.lemmas.Fmt.{decimal_is_IsNumeral, decimal-digits_value, first_decimal, decimal_digit}
use Rattle.ob_format.specs.Format.{Format, ◌>>=◌, pair_at, ◌⊗◌, made_at, made, skip_at, lead_at, lead, whole}
use Rattle.ob_format.specs.Exact.{bind_some, guard_none, some_is, cond_then}
use Rattle.ob_format.specs.Words.{front, back, Word, IsWord, IsFree, IsClear, word_at, after_at, after, IsEnd, IsText, all_at, all_of, then_at, ◌▹◌, sole, mapped_at, mapped, signed_at, signed, digits_at, numeral_at, numeral, identifier_at, identifier}
use Rattle.ob_format.specs.Names.{is_identifier}

pub guard_not : {A : Type 0} (b : Bool) (x : Option A) (y : A) → cond b None x ≡ Some y → (b ≡ false) × (x ≡ Some y)
guard_not true x y e = absurd cc
guard_not false x y e = (refl, e)

pub front-back : (c : ℕ) (t : List ℕ) → t ≡ front c t ++ back c t
front-back c [] = refl
front-back c (b ∷ bs) = elim (eqb b c) as (λ v. b ∷ bs ≡ cond v [] (b ∷ front c bs) ++ cond v (b ∷ bs) (back c bs)) [
  | true ↦ refl
  | false ↦ ap (λ (l : List ℕ). b ∷ l) (front-back c bs)
]

pub front_free : (c : ℕ) (t : List ℕ) → IsFree c (front c t)
front_free c [] = tt
front_free c (b ∷ bs) = elim (eqb b c) as (λ v. eqb b c ≡ v → IsFree c (cond v [] (b ∷ front c bs))) [
  | true ↦ λ _. tt
  | false ↦ λ e. (e, front_free c bs)
] refl

pub front_whole : (c : ℕ) (t rest : List ℕ) → IsFree c t → front c (t ++ rest) ≡ t ++ front c rest
front_whole c [] rest free = refl
front_whole c (b ∷ bs) rest free = rw (free.0) (ap (λ (l : List ℕ). b ∷ l) (front_whole c bs rest free.1))

pub back_whole : (c : ℕ) (t rest : List ℕ) → IsFree c t → back c (t ++ rest) ≡ back c rest
back_whole c [] rest free = refl
back_whole c (b ∷ bs) rest free = rw (free.0) (back_whole c bs rest free.1)

pub front_end : (c : ℕ) (rest : List ℕ) → IsEnd c rest → front c rest ≡ []
front_end c [] e = refl
front_end c (b ∷ bs) e = rw ((Decides-eqb b c).1 e) refl

pub back_end : (c : ℕ) (rest : List ℕ) → IsEnd c rest → back c rest ≡ rest
back_end c [] e = refl
back_end c (b ∷ bs) e = rw ((Decides-eqb b c).1 e) refl

-- ---- words after a byte c

word_found : (c : ℕ) (bytes : List ℕ) (x : List ℕ × List ℕ) → word_at c bytes ≡ Some x → bytes ≡ (c ∷ x.0) ++ x.1
unfolding word_at
word_found c [] x e = absurd cc
word_found c (b ∷ bs) x e =
    let g = cond_some (eqb b c) (front c bs, back c bs) x e in
    let is : b ≡ c = eqb-true _ _ g.0 in
    let tail = front-back c bs in
    let whole : b ∷ bs ≡ c ∷ (front c bs ++ back c bs) = cc in
    subst (λ (y : List ℕ × List ℕ). b ∷ bs ≡ (c ∷ y.0) ++ y.1) g.1 whole

word_again : (c : ℕ) (t rest : List ℕ) → IsFree c t → IsEnd c rest → word_at c ((c ∷ t) ++ rest) ≡ Some (t, rest)
unfolding word_at
word_again c t rest free end =
    let f : front c (t ++ rest) ≡ t = front_whole c t rest free ∙ ap (λ (l : List ℕ). t ++ l) (front_end c rest end) ∙ append-nil t in
    let b : back c (t ++ rest) ≡ rest = back_whole c t rest free ∙ back_end c rest end in
    rw ((Decides-eqb c c).1 refl, f, b) refl

after_found : {A : Type 0} (c : ℕ) (w : Word A) → IsWord w → (bytes : List ℕ) (x : A × List ℕ) → after_at c w.parse bytes ≡ Some x → (bytes ≡ (c ∷ w.print x.0) ++ x.1) × w.fits x.0
unfolding after_at
after_found {A = A} c w law bytes x e =
    let word = bind_some (word_at c bytes) (λ word. w.parse word.0 >>= λ a. Some (a, word.1)) x e in
    let a = bind_some (w.parse word.0.0) (λ a. Some (a, word.0.1)) x word.2 in
    let t = law.found word.0.0 a.0 a.1 in
    let u = word_found c bytes word.0 word.1 in
    subst (λ (y : A × List ℕ). (bytes ≡ (c ∷ w.print y.0) ++ y.1) × w.fits y.0) (some_is (a.0, word.0.1) x a.2)
    (u ∙ ap (λ (l : List ℕ). (c ∷ l) ++ word.0.1) (sym t.0), t.1)

after_again : {A : Type 0} (c : ℕ) (w : Word A) → IsWord w → IsClear c w → (x : A) (rest : List ℕ) → w.fits x → IsEnd c rest → after_at c w.parse ((c ∷ w.print x) ++ rest) ≡ Some (x, rest)
unfolding after_at
after_again c w law clear x rest fits end = rw (word_again c (w.print x) rest (clear x fits) end, law.again x fits) refl

pub after_text : {A : Type 0} {c : ℕ} {w : Word A} → IsWord w → IsClear c w → IsText c (after c w)
after_text {c} {w} law clear = record { found = after_found c w law; again = after_again c w law clear; opens = λ x rest fits. refl }

-- ---- pairs, structs, tests

pair_found : {A B : Type 0} (c : ℕ) (f : Format A) (g : Format B) → IsText c f → IsText c g → (bytes : List ℕ) (x : (A × B) × List ℕ) → pair_at f.take g.take bytes ≡ Some x → (bytes ≡ (f.spell x.0.0 ++ g.spell x.0.1) ++ x.1) × (f.fits x.0.0 × g.fits x.0.1)
unfolding pair_at
pair_found {A = A} {B = B} c f g ef eg bytes x e =
    let a = bind_some (f.take bytes) (λ a. g.take a.1 >>= λ b. Some ((a.0, b.0), b.1)) x e in
    let b = bind_some (g.take a.0.1) (λ b. Some ((a.0.0, b.0), b.1)) x a.2 in
    let t = ef.found bytes a.0 a.1 in
    let u = eg.found a.0.1 b.0 b.1 in
    subst (λ (y : (A × B) × List ℕ). (bytes ≡ (f.spell y.0.0 ++ g.spell y.0.1) ++ y.1) × (f.fits y.0.0 × g.fits y.0.1)) (some_is ((a.0.0, b.0.0), b.0.1) x b.2)
    (t.0 ∙ ap (λ (r : List ℕ). f.spell a.0.0 ++ r) u.0 ∙ sym (append_assoc (f.spell a.0.0) (g.spell b.0.0) b.0.1), (t.1, u.1))

pair_again : {A B : Type 0} (c : ℕ) (f : Format A) (g : Format B) → IsText c f → IsText c g → (x : A × B) (rest : List ℕ) → f.fits x.0 × g.fits x.1 → IsEnd c rest → pair_at f.take g.take ((f.spell x.0 ++ g.spell x.1) ++ rest) ≡ Some (x, rest)
unfolding pair_at
pair_again c f g ef eg x rest fits end =
    ap (pair_at f.take g.take) (append_assoc (f.spell x.0) (g.spell x.1) rest) ∙
    rw (ef.again x.0 (g.spell x.1 ++ rest) fits.0 (eg.opens x.1 rest fits.1), eg.again x.1 rest fits.1 end) refl

pair_opens : {A B : Type 0} (c : ℕ) (f : Format A) (g : Format B) → IsText c f → IsText c g → (x : A × B) (rest : List ℕ) → f.fits x.0 × g.fits x.1 → IsEnd c ((f.spell x.0 ++ g.spell x.1) ++ rest)
pair_opens c f g ef eg x rest fits = rw append_assoc (ef.opens x.0 (g.spell x.1 ++ rest) fits.0)

pub pair_text : {A B : Type 0} {f : Format A} {g : Format B} {c : ℕ} → IsText c f → IsText c g → IsText c (f ⊗ g)
pair_text {f = f} {g = g} {c = c} ef eg = record { found = pair_found c f g ef eg; again = pair_again c f g ef eg; opens = pair_opens c f g ef eg }

made_found : {A B : Type 0} (c : ℕ) (f : Format A) (to : A → B) (from : B → A) → IsText c f → ((a : A) → from (to a) ≡ a) → (bytes : List ℕ) (x : B × List ℕ) → made_at f.take to bytes ≡ Some x → (bytes ≡ f.spell (from x.0) ++ x.1) × f.fits (from x.0)
unfolding made_at
made_found {A = A} {B = B} c f to from ef back bytes x e =
    let a = bind_some (f.take bytes) (λ a. Some (to a.0, a.1)) x e in
    let t = ef.found bytes a.0 a.1 in
    subst (λ (y : B × List ℕ). (bytes ≡ f.spell (from y.0) ++ y.1) × f.fits (from y.0)) (some_is (to a.0.0, a.0.1) x a.2)
    (subst (λ (z : A). (bytes ≡ f.spell z ++ a.0.1) × f.fits z) (sym (back a.0.0)) t)

made_again : {A B : Type 0} (c : ℕ) (f : Format A) (to : A → B) (from : B → A) → IsText c f → ((b : B) → to (from b) ≡ b) → (x : B) (rest : List ℕ) → f.fits (from x) → IsEnd c rest → made_at f.take to (f.spell (from x) ++ rest) ≡ Some (x, rest)
unfolding made_at
made_again c f to from ef back x rest fits end = rw (ef.again (from x) rest fits end, back x) refl

pub made_text : {A B : Type 0} {f : Format A} {c : ℕ} (to : A → B) (from : B → A) → IsText c f → ((a : A) → from (to a) ≡ a) → ((b : B) → to (from b) ≡ b) → IsText c (made f to from)
made_text {f = f} {c = c} to from ef one two = record { found = made_found c f to from ef one; again = made_again c f to from ef two; opens = λ x rest fits. ef.opens (from x) rest fits }

-- ---- a fixed front

skip_found : (front bytes rest : List ℕ) → skip_at front bytes ≡ Some rest → bytes ≡ front ++ rest
unfolding skip_at
skip_found [] bytes rest e = cc
skip_found (c ∷ cs) [] rest e = absurd cc
skip_found (c ∷ cs) (b ∷ bytes) rest e =
    let g = cond_then (eqb c b) (skip_at cs bytes) rest e in
    let same : c ≡ b = eqb-true _ _ g.0 in
    cc (skip_found cs bytes rest g.1, same)

skip_again : (front rest : List ℕ) → skip_at front (front ++ rest) ≡ Some rest
unfolding skip_at
skip_again [] rest = refl
skip_again (c ∷ cs) rest = rw ((Decides-eqb c c).1 refl) (skip_again cs rest)

lead_found : {A : Type 0} (c : ℕ) (before : List ℕ) (f : Format A) → IsText c f → (bytes : List ℕ) (x : A × List ℕ) → lead_at before f.take bytes ≡ Some x → (bytes ≡ (before ++ f.spell x.0) ++ x.1) × f.fits x.0
unfolding lead_at
lead_found c before f ef bytes x e =
    let a = bind_some (skip_at before bytes) f.take x e in
    let u = ef.found a.0 x a.2 in
    (skip_found before bytes a.0 a.1 ∙ ap (λ (r : List ℕ). before ++ r) u.0 ∙ sym (append_assoc before (f.spell x.0) x.1), u.1)

lead_again : {A : Type 0} (c : ℕ) (before : List ℕ) (f : Format A) → IsText c f → (x : A) (rest : List ℕ) → f.fits x → IsEnd c rest → lead_at before f.take ((before ++ f.spell x) ++ rest) ≡ Some (x, rest)
unfolding lead_at
lead_again c before f ef x rest fits end = ap (lead_at before f.take) (append_assoc before (f.spell x) rest) ∙ rw (skip_again before (f.spell x ++ rest)) (ef.again x rest fits end)

-- the front begins with the byte c
pub lead_text : {A : Type 0} {f : Format A} {c : ℕ} (more : List ℕ) → IsText c f → IsText c (lead (c ∷ more) f)
lead_text {f = f} {c = c} more ef = record { found = lead_found c (c ∷ more) f ef; again = lead_again c (c ∷ more) f ef; opens = λ x rest fits. refl }

-- ---- to the end

pub all_found : {A : Type 0} (c : ℕ) (f : Format A) → IsText c f → (n : ℕ) (t : List ℕ) (xs : List A) → all_at f.take n t ≡ Some xs → (flat_map f.spell xs ≡ t) × AllByRecursion f.fits xs
unfolding all_at
all_found {A = A} c f ef n [] xs e = subst (λ (l : List A). (flat_map f.spell l ≡ []) × AllByRecursion f.fits l) (some_is [] xs e) (refl, tt)
all_found c f ef zero (b ∷ bs) xs e = absurd cc
all_found {A = A} c f ef (suc n) (b ∷ bs) xs e =
    let a = bind_some (f.take (b ∷ bs)) (λ a. all_at f.take n a.1 >>= λ more. Some (a.0 ∷ more)) xs e in
    let m = bind_some (all_at f.take n a.0.1) (λ more. Some (a.0.0 ∷ more)) xs a.2 in
    let t = ef.found (b ∷ bs) a.0 a.1 in
    let u = all_found c f ef n a.0.1 m.0 m.1 in
    subst (λ (l : List A). (flat_map f.spell l ≡ b ∷ bs) × AllByRecursion f.fits l) (some_is (a.0.0 ∷ m.0) xs m.2)
    (flat_map-cons f.spell a.0.0 m.0 ∙ ap (λ (l : List ℕ). f.spell a.0.0 ++ l) u.0 ∙ sym t.0, (t.1, u.1))

-- each spelling has at least one byte
abbrev pub IsLong : {A : Type 0} → Format A → Type 0
IsLong {A} f = (x : A) → 0 < length (f.spell x)

pub ends : {A : Type 0} (c : ℕ) (f : Format A) → IsText c f → (xs : List A) → AllByRecursion f.fits xs → IsEnd c (flat_map f.spell xs)
ends c f ef [] fits = tt
ends c f ef (x ∷ xs) fits = rw flat_map-cons (ef.opens x (flat_map f.spell xs) fits.0)

pub all_step : {A : Type 0} (f : List ℕ → Option (A × List ℕ)) (n : ℕ) (t : List ℕ) (x : A) (rest : List ℕ) (xs : List A) → length rest < length t → length t ≤ n → f t ≡ Some (x, rest) → ((k : ℕ) → length rest ≤ k → all_at f k rest ≡ Some xs) → all_at f n t ≡ Some (x ∷ xs)
unfolding all_at
all_step f n [] x rest xs shorter le taken more = absurd (omega arith)
all_step f zero (b ∷ bs) x rest xs shorter le taken more = absurd (omega arith)
all_step f (suc n) (b ∷ bs) x rest xs shorter le taken more = rw (taken, more n (omega arith)) refl

pub all_again : {A : Type 0} (c : ℕ) (f : Format A) → IsText c f → IsLong f → (xs : List A) (n : ℕ) → length (flat_map f.spell xs) ≤ n → AllByRecursion f.fits xs → all_at f.take n (flat_map f.spell xs) ≡ Some xs
unfolding all_at
all_again c f ef long [] n le fits = refl
all_again c f ef long (x ∷ xs) n le fits =
    let parts = flat_map-cons f.spell x xs in
    let len : length (flat_map f.spell (x ∷ xs)) ≡ length (f.spell x) + length (flat_map f.spell xs) = ap length parts ∙ length-append (f.spell x) (flat_map f.spell xs) in
    let taken : f.take (flat_map f.spell (x ∷ xs)) ≡ Some (x, flat_map f.spell xs) = ap f.take parts ∙ ef.again x (flat_map f.spell xs) fits.0 (ends c f ef xs fits.1) in
    all_step f.take n (flat_map f.spell (x ∷ xs)) x (flat_map f.spell xs) xs (omega (arith, long x)) le taken (λ k small. all_again c f ef long xs k small fits.1)

pub all_word : {A : Type 0} {f : Format A} {c : ℕ} → IsText c f → IsLong f → IsWord (all_of f)
all_word {f = f} {c = c} ef long = record { found = λ t xs e. all_found c f ef (length t) t xs e; again = λ xs fits. all_again c f ef long xs (length (flat_map f.spell xs)) (omega arith) fits }

-- a format and the rest
then_found : {A B : Type 0} (c : ℕ) (f : Format A) (w : Word B) → IsText c f → IsWord w → (t : List ℕ) (x : A × B) → then_at f.take w.parse t ≡ Some x → ((f.spell x.0 ++ w.print x.1) ≡ t) × (f.fits x.0 × w.fits x.1)
unfolding then_at
then_found {A = A} {B = B} c f w ef ew t x e =
    let a = bind_some (f.take t) (λ a. w.parse a.1 >>= λ b. Some (a.0, b)) x e in
    let b = bind_some (w.parse a.0.1) (λ b. Some (a.0.0, b)) x a.2 in
    let u = ef.found t a.0 a.1 in
    let v = ew.found a.0.1 b.0 b.1 in
    subst (λ (y : A × B). ((f.spell y.0 ++ w.print y.1) ≡ t) × (f.fits y.0 × w.fits y.1)) (some_is (a.0.0, b.0) x b.2)
    (ap (λ (l : List ℕ). f.spell a.0.0 ++ l) v.0 ∙ sym u.0, (u.1, v.1))

-- the word stands where a word ends
abbrev pub Opens : {A : Type 0} → ℕ → Word A → Type 0
Opens {A} c w = (a : A) → w.fits a → IsEnd c (w.print a)

then_again : {A B : Type 0} (c : ℕ) (f : Format A) (w : Word B) → IsText c f → IsWord w → Opens c w → (x : A × B) → f.fits x.0 × w.fits x.1 → then_at f.take w.parse (f.spell x.0 ++ w.print x.1) ≡ Some x
unfolding then_at
then_again c f w ef ew opens x fits = rw (ef.again x.0 (w.print x.1) fits.0 (opens x.1 fits.1), ew.again x.1 fits.1) refl

pub then_word : {A B : Type 0} {f : Format A} {w : Word B} {c : ℕ} → IsText c f → IsWord w → Opens c w → IsWord (f ▹ w)
then_word {f = f} {w = w} {c = c} ef ew opens = record { found = then_found c f w ef ew; again = then_again c f w ef ew opens }

pub all_opens : {A : Type 0} (c : ℕ) (f : Format A) → IsText c f → Opens c (all_of f)
all_opens c f ef xs fits = ends c f ef xs fits

-- ---- numbers

own : IsNumeralModel (AllDigits 10) (digits_value 10)
own = numerals_by_value (AllDigits 10) tells_digits

digit_of : (c : ℕ) → is_ascii_digit c ≡ true → (digit_value c < 10) × (digit_value c ≡ c - 48)
digit_of c e = (grind (arith, nat_tests), grind (arith, nat_tests))

of_digit : (c : ℕ) → digit_value c < 10 → (is_ascii_digit c ≡ true) × (digit_value c ≡ c - 48)
of_digit c lt = (grind (arith, nat_tests), grind (arith, nat_tests))

after_ge : (n : ℕ) (cs : List ℕ) → n ≤ digits_value_after 10 n cs
after_ge n [] = omega arith
after_ge n (c ∷ cs) = omega (arith, after_ge (n * 10 + digit_value c) cs)

digits_found : (n : ℕ) (cs : List ℕ) (m : ℕ) → n < 2 ^ 32 → digits_at n cs ≡ Some m → AllDigits 10 cs × (digits_value_after 10 n cs ≡ m) × (m < 2 ^ 32)
unfolding digits_at
digits_found n [] m small e = let same : n ≡ m = cc in (tt, same, omega arith)
digits_found n (c ∷ cs) m small e =
    let g = cond_then (is_ascii_digit c) (cond (ltb (n * 10 + (c - 48)) (2 ^ 32)) (digits_at (n * 10 + (c - 48)) cs) None) m e in
    let h = cond_then (ltb (n * 10 + (c - 48)) (2 ^ 32)) (digits_at (n * 10 + (c - 48)) cs) m g.1 in
    let d = digit_of c g.0 in
    let rest = digits_found (n * 10 + (c - 48)) cs m (ltb-true _ _ h.0) h.1 in
    ((d.0, rest.0), rw (d.1) rest.1, rest.2)

digits_again : (n : ℕ) (cs : List ℕ) → AllDigits 10 cs → digits_value_after 10 n cs < 2 ^ 32 → digits_at n cs ≡ Some (digits_value_after 10 n cs)
unfolding digits_at
digits_again n [] all small = refl
digits_again n (c ∷ cs) all small =
    let d = of_digit c all.0 in
    let next : digits_value_after 10 (n * 10 + digit_value c) cs < 2 ^ 32 = small in
    let fits : n * 10 + (c - 48) < 2 ^ 32 = omega (arith, d.1, after_ge (n * 10 + digit_value c) cs) in
    let test : ltb (n * 10 + (c - 48)) (2 ^ 32) ≡ true = lt-ltb _ _ fits in
    let step : digits_at n (c ∷ cs) ≡ digits_at (n * 10 + (c - 48)) cs = rw (d.0, test) refl in
    step ∙ ap (λ (k : ℕ). digits_at (n * 10 + k) cs) (sym d.1) ∙ digits_again (n * 10 + digit_value c) cs all.1 next

numeral_digits : (t : List ℕ) (m : ℕ) → numeral_at t ≡ Some m → (digits_at 0 t ≡ Some m) × (0 < length t) × (get_or t 0 0 ≡ 48 → length t ≡ 1)
unfolding numeral_at
numeral_digits [] m e = absurd cc
numeral_digits (c ∷ []) m e = (e, omega arith, λ _. refl)
numeral_digits (c ∷ d ∷ ds) m e =
    let g = guard_not (eqb c 48) (digits_at 0 (c ∷ d ∷ ds)) m e in
    (g.1, omega arith, λ is. absurd (let yes : eqb c 48 ≡ true = (Decides-eqb c 48).1 is in cc (g.0, yes)))

digits_numeral : (t : List ℕ) → 0 < length t → (get_or t 0 0 ≡ 48 → length t ≡ 1) → numeral_at t ≡ digits_at 0 t
unfolding numeral_at
digits_numeral [] long first = absurd (omega arith)
digits_numeral (c ∷ []) long first = refl
digits_numeral (c ∷ d ∷ ds) long first =
    let apart : c ≢ 48 = λ is. let one : suc (suc (length ds)) ≡ 1 = first is in omega arith in
    let e : eqb c 48 ≡ false = grind (arith, nat_tests) in
    rw e refl

numeral_found : (t : List ℕ) (m : ℕ) → numeral_at t ≡ Some m → (decimal m ≡ t) × (m < 2 ^ 32)
numeral_found t m e =
    let d = numeral_digits t m e in
    let f = digits_found 0 t m (omega arith) d.0 in
    let small : digits_value 10 t < 2 ^ 64 = omega (arith, f.1, f.2) in
    (ap decimal (sym f.1) ∙ decimal-digits_value own t f.0 d.1 d.2 small, f.2)

-- the first digit is 0 in 0 alone
first_zero : (n : ℕ) → n < 2 ^ 32 → get_or (decimal n) 0 0 ≡ 48 → length (decimal n) ≡ 1
first_zero zero small e = ap length (decimal_digit 0 (omega arith))
first_zero (suc n) small e = absurd (omega (arith, first_decimal (suc n) (omega arith) (omega arith)))

numeral_again : (n : ℕ) → n < 2 ^ 32 → numeral_at (decimal n) ≡ Some n
numeral_again n small =
    let d = decimal_is_IsNumeral n (omega arith) in
    let v : digits_value 10 (decimal n) ≡ n = d.1 in
    digits_numeral (decimal n) d.0.0 (first_zero n small) ∙ digits_again 0 (decimal n) d.0.1 (omega arith) ∙ ap (λ (k : ℕ). Some k) v

pub numeral_word : IsWord numeral
numeral_word = record { found = numeral_found; again = numeral_again }

pub identifier_word : IsWord identifier
unfolding identifier_at
identifier_word = record {
  found = λ t a e. let g = cond_some (is_identifier t) t a e in (sym g.1, subst (λ (l : List ℕ). is_identifier l ≡ true) g.1 g.0);
  again = λ a fits. rw fits refl;
}

-- ---- one value to the end

sole_found : {A : Type 0} (c : ℕ) (f : Format A) → IsText c f → (t : List ℕ) (x : A) → whole f t ≡ Some x → (f.spell x ≡ t) × f.fits x
unfolding whole
sole_found {A = A} c f ef t x e =
    let b = bind_some (f.take t) (λ y. cond (ltb 0 (length y.1)) None (Some y.0)) x e in
    let g = guard_none (ltb 0 (length b.0.1)) b.0.0 x b.2 in
    let u = ef.found t b.0 b.1 in
    let nothing : b.0.1 ≡ [] = nil_from_length b.0.1 (omega (arith, ltb-false _ _ g.0)) in
    let same : t ≡ f.spell b.0.0 = u.0 ∙ ap (λ (r : List ℕ). f.spell b.0.0 ++ r) nothing ∙ append-nil (f.spell b.0.0) in
    subst (λ (y : A). (f.spell y ≡ t) × f.fits y) g.1 (sym same, u.1)

sole_again : {A : Type 0} (c : ℕ) (f : Format A) → IsText c f → (x : A) → f.fits x → whole f (f.spell x) ≡ Some x
unfolding whole
sole_again c f ef x fits =
    let taken : f.take (f.spell x) ≡ Some (x, []) = ap f.take (sym (append-nil (f.spell x))) ∙ ef.again x [] fits tt in
    rw taken refl

pub sole_word : {A : Type 0} {f : Format A} {c : ℕ} → IsText c f → IsWord (sole f)
sole_word {f = f} {c = c} ef = record { found = sole_found c f ef; again = sole_again c f ef }

-- ---- signed numbers

plain : (c : ℕ) (t : List ℕ) (z : ℤ) → (numeral_at (c ∷ t) >>= λ n. cond (ltb n (2 ^ 31)) (Some (pos n)) None) ≡ Some z → (signed_decimal z ≡ c ∷ t) × FitsSigned w32 z
plain c t z e =
    let n = bind_some (numeral_at (c ∷ t)) (λ n. cond (ltb n (2 ^ 31)) (Some (pos n)) None) z e in
    let g = cond_some (ltb n.0 (2 ^ 31)) (pos n.0) z n.2 in
    let u = numeral_found (c ∷ t) n.0 n.1 in
    let small : n.0 < 2 ^ 31 = ltb-true _ _ g.0 in
    subst (λ (y : ℤ). (signed_decimal y ≡ c ∷ t) × FitsSigned w32 y) g.1 (u.0, omega (arith, ints))

minus : (t : List ℕ) (z : ℤ) → (numeral_at t >>= λ n. cond (ltb 0 n) (cond (ltb n (2 ^ 31 + 1)) (Some (negsuc (n - 1))) None) None) ≡ Some z → (signed_decimal z ≡ 45 ∷ t) × FitsSigned w32 z
minus t z e =
    let n = bind_some (numeral_at t) (λ n. cond (ltb 0 n) (cond (ltb n (2 ^ 31 + 1)) (Some (negsuc (n - 1))) None) None) z e in
    let g = cond_then (ltb 0 n.0) (cond (ltb n.0 (2 ^ 31 + 1)) (Some (negsuc (n.0 - 1))) None) z n.2 in
    let h = cond_some (ltb n.0 (2 ^ 31 + 1)) (negsuc (n.0 - 1)) z g.1 in
    let u = numeral_found t n.0 n.1 in
    let low : 0 < n.0 = ltb-true _ _ g.0 in
    let high : n.0 < 2 ^ 31 + 1 = ltb-true _ _ h.0 in
    let back : suc (n.0 - 1) ≡ n.0 = omega arith in
    subst (λ (y : ℤ). (signed_decimal y ≡ 45 ∷ t) × FitsSigned w32 y) h.1 (ap (λ (k : ℕ). 45 ∷ decimal k) back ∙ ap (λ (l : List ℕ). 45 ∷ l) u.0, omega (arith, ints))

signed_found : (t : List ℕ) (z : ℤ) → signed_at t ≡ Some z → (signed_decimal z ≡ t) × FitsSigned w32 z
unfolding signed_at
signed_found [] z e = absurd cc
signed_found (c ∷ t) z e =
    elim (eqb c 45) as (λ v. eqb c 45 ≡ v → cond v (numeral_at t >>= λ n. cond (ltb 0 n) (cond (ltb n (2 ^ 31 + 1)) (Some (negsuc (n - 1))) None) None) (numeral_at (c ∷ t) >>= λ n. cond (ltb n (2 ^ 31)) (Some (pos n)) None) ≡ Some z → (signed_decimal z ≡ c ∷ t) × FitsSigned w32 z) [
      | true ↦ λ is e. subst (λ (k : ℕ). (signed_decimal z ≡ k ∷ t) × FitsSigned w32 z) (sym (eqb-true _ _ is)) (minus t z e)
      | false ↦ λ _ e. plain c t z e
    ] refl e

signed_plain : (t : List ℕ) (n : ℕ) → 0 < length t → get_or t 0 0 ≢ 45 → n < 2 ^ 31 → numeral_at t ≡ Some n → signed_at t ≡ Some (pos n)
unfolding signed_at
signed_plain [] n long apart small e = absurd (omega arith)
signed_plain (c ∷ t) n long apart small e =
    let apart' : c ≢ 45 = apart in
    let no45 : eqb c 45 ≡ false = grind (arith, nat_tests) in
    let test : ltb n (2 ^ 31) ≡ true = lt-ltb _ _ small in
    rw (no45, e, test) refl

first_digit : (t : List ℕ) → AllDigits 10 t → get_or t 0 0 ≢ 45
first_digit [] all is = omega arith
first_digit (c ∷ cs) all is = let c45 : c ≡ 45 = is in let bad : digit_value 45 < 10 = subst (λ (k : ℕ). digit_value k < 10) c45 all.0 in omega arith

signed_again : (z : ℤ) → FitsSigned w32 z → signed_at (signed_decimal z) ≡ Some z
unfolding signed_at
signed_again (pos n) fits =
    let small : n < 2 ^ 31 = fits.sfits in
    let d = decimal_is_IsNumeral n (omega arith) in
    signed_plain (decimal n) n d.0.0 (first_digit (decimal n) d.0.1) small (numeral_again n (omega arith))
signed_again (negsuc n) fits =
    let small : n < 2 ^ 31 = fits.sfits in
    let low : ltb 0 (suc n) ≡ true = lt-ltb _ _ (omega arith) in
    let high : ltb (suc n) (2 ^ 31 + 1) ≡ true = lt-ltb _ _ (omega arith) in
    let back : suc n - 1 ≡ n = omega arith in
    rw (numeral_again (suc n) (omega arith), low, high, back) refl

pub signed_word : IsWord signed
signed_word = record { found = signed_found; again = signed_again }

mapped_found : {A B : Type 0} (w : Word A) (to : A → B) (from : B → A) → IsWord w → ((a : A) → from (to a) ≡ a) → (t : List ℕ) (b : B) → mapped_at w.parse to t ≡ Some b → (w.print (from b) ≡ t) × w.fits (from b)
unfolding mapped_at
mapped_found {A = A} {B = B} w to from law one t b e =
    let a = bind_some (w.parse t) (λ a. Some (to a)) b e in
    let u = law.found t a.0 a.1 in
    subst (λ (y : B). (w.print (from y) ≡ t) × w.fits (from y)) (some_is (to a.0) b a.2) (subst (λ (z : A). (w.print z ≡ t) × w.fits z) (sym (one a.0)) u)

mapped_again : {A B : Type 0} (w : Word A) (to : A → B) (from : B → A) → IsWord w → ((b : B) → to (from b) ≡ b) → (b : B) → w.fits (from b) → mapped_at w.parse to (w.print (from b)) ≡ Some b
unfolding mapped_at
mapped_again w to from law two b fits = rw (law.again (from b) fits, two b) refl

pub mapped_word : {A B : Type 0} {w : Word A} (to : A → B) (from : B → A) → IsWord w → ((a : A) → from (to a) ≡ a) → ((b : B) → to (from b) ≡ b) → IsWord (mapped w to from)
mapped_word {w = w} to from law one two = record { found = mapped_found w to from law one; again = mapped_again w to from law two }
