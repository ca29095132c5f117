-- The forms of words are exact where their parts are.
use Rattle.std.proofs.Common.{◌≡◌, ℕ, zero, suc, ◌+◌, ◌<◌, ◌≤◌, Bool, true, false, cond, eqb, List, [], ◌∷◌, ◌++◌, length, Option, Some, None, refl, sym, ap, subst, ◌∙◌, append_assoc, arith}
use Rattle.std.specs.Prelude.{bytes_eq}
use Rattle.std.specs.Bool.{Decides}
use Rattle.std.specs.List.{flat_map, AllByRecursion}
use Rattle.std.specs.Cmp.Lexicographic.{bytes_decides}
use Rattle.std.proofs.lemmas.Bool.{eqb-true}
use Rattle.std.proofs.lemmas.Bool.Decides.{Decides-eqb}
use Rattle.std.proofs.lemmas.List.{length-append, append-nil}
use Rattle.std.proofs.lemmas.List.Concat.{flat_map-cons}
use Rattle.std.proofs.lemmas.Option.{cond_some}
use Rattle.ob_format.specs.Format.{Format, ◌>>=◌, made_at, skip_at}
use Rattle.ob_format.specs.Exact.{bind_some, guard_none, some_is, cond_then}
use Rattle.ob_format.specs.Words.{front, back, Word, IsWord, IsFree, IsEnd, IsText}
use Rattle.ob_format.specs.WordLaws.{front_end, back_end, front-back, front_whole, back_whole, IsLong}
use Rattle.ob_desc.specs.Forms.{lookup, last_at, last, led_at, led, kept_at, kept, made_where, chosen_at, run_at}

-- ---- tables

pub found_in : {K : Type 0} (table : List (List ℕ × K)) (name : K → List ℕ) → AllByRecursion (λ e. name e.1 ≡ e.0) table → (t : List ℕ) (k : K) → lookup table t ≡ Some k → name k ≡ t
found_in [] name all t k e = absurd cc
found_in (x ∷ xs) name all t k e =
    elim (bytes_eq t x.0) as (λ v. bytes_eq t x.0 ≡ v → cond v (Some x.1) (lookup xs t) ≡ Some k → name k ≡ t) [
      | true ↦ λ is e. let same : t ≡ x.0 = (bytes_decides t x.0).0 is in let one = some_is x.1 k e in rw (← one, all.0, same) refl
      | false ↦ λ _ e. found_in xs name all.1 t k e
    ] refl e

-- ---- a byte and a word to the end

last_found : {A : Type 0} (c : ℕ) (w : Word A) → IsWord w → (t : List ℕ) (a : A) → last_at c w.parse t ≡ Some a → (c ∷ w.print a ≡ t) × w.fits a
unfolding last_at
last_found c w law [] a e = absurd cc
last_found c w law (b ∷ t) a e =
    let g = cond_then (eqb b c) (w.parse t) a e in
    let is : b ≡ c = eqb-true _ _ g.0 in
    let u = law.found t a g.1 in
    (cc (is, u.0), u.1)

last_again : {A : Type 0} (c : ℕ) (w : Word A) → IsWord w → (a : A) → w.fits a → last_at c w.parse (c ∷ w.print a) ≡ Some a
unfolding last_at
last_again c w law a fits = rw ((Decides-eqb c c).1 refl) (law.again a fits)

pub last_word : {A : Type 0} {w : Word A} (c : ℕ) → IsWord w → IsWord (last c w)
last_word {w = w} c law = record { found = last_found c w law; again = last_again c w law }

-- ---- fixed bytes and a word

skip_found : (before bytes rest : List ℕ) → skip_at before bytes ≡ Some rest → bytes ≡ before ++ rest
unfolding skip_at
skip_found [] bytes rest e = cc
skip_found (c ∷ cs) [] rest e = absurd cc
skip_found (c ∷ cs) (b ∷ bytes) rest e =
    let g = cond_then (eqb c b) (skip_at cs bytes) rest e in
    let same : c ≡ b = eqb-true _ _ g.0 in
    cc (skip_found cs bytes rest g.1, same)

skip_again : (before rest : List ℕ) → skip_at before (before ++ rest) ≡ Some rest
unfolding skip_at
skip_again [] rest = refl
skip_again (c ∷ cs) rest = rw ((Decides-eqb c c).1 refl) (skip_again cs rest)

led_found : {A : Type 0} (before : List ℕ) (w : Word A) → IsWord w → (t : List ℕ) (a : A) → led_at before w.parse t ≡ Some a → (before ++ w.print a ≡ t) × w.fits a
unfolding led_at
led_found before w law t a e =
    let r = bind_some (skip_at before t) w.parse a e in
    let u = law.found r.0 a r.2 in
    (ap (λ (l : List ℕ). before ++ l) u.0 ∙ sym (skip_found before t r.0 r.1), u.1)

led_again : {A : Type 0} (before : List ℕ) (w : Word A) → IsWord w → (a : A) → w.fits a → led_at before w.parse (before ++ w.print a) ≡ Some a
unfolding led_at
led_again before w law a fits = rw (skip_again before (w.print a)) (law.again a fits)

pub led_word : {A : Type 0} {w : Word A} (before : List ℕ) → IsWord w → IsWord (led before w)
led_word {w = w} before law = record { found = led_found before w law; again = led_again before w law }

-- ---- tests

kept_found : {A : Type 0} (w : Word A) (p : A → Bool) (P : A → Type 0) → ((a : A) → Decides (p a) (P a)) → IsWord w → (t : List ℕ) (a : A) → kept_at w.parse p t ≡ Some a → (w.print a ≡ t) × (w.fits a × P a)
unfolding kept_at
kept_found {A = A} w p P decides law t a e =
    let b = bind_some (w.parse t) (λ a. cond (p a) (Some a) None) a e in
    let g = cond_some (p b.0) b.0 a b.2 in
    let u = law.found t b.0 b.1 in
    subst (λ (z : A). (w.print z ≡ t) × (w.fits z × P z)) g.1 (u.0, (u.1, (decides b.0).0 g.0))

kept_again : {A : Type 0} (w : Word A) (p : A → Bool) (P : A → Type 0) → ((a : A) → Decides (p a) (P a)) → IsWord w → (a : A) → w.fits a × P a → kept_at w.parse p (w.print a) ≡ Some a
unfolding kept_at
kept_again w p P decides law a fits = rw (law.again a fits.0, (decides a).1 fits.1) refl

pub kept_word : {A : Type 0} {w : Word A} (p : A → Bool) (P : A → Type 0) → ((a : A) → Decides (p a) (P a)) → IsWord w → IsWord (kept w p P)
kept_word {w = w} p P decides law = record { found = kept_found w p P decides law; again = kept_again w p P decides law }

-- ---- structs

where_found : {A B : Type 0} (c : ℕ) (f : Format A) (to : A → B) (from : B → A) (P : B → Type 0) → IsText c f → ((a : A) → from (to a) ≡ a) → ((a : A) → P (to a)) → (bytes : List ℕ) (x : B × List ℕ) → made_at f.take to bytes ≡ Some x → (bytes ≡ f.spell (from x.0) ++ x.1) × (f.fits (from x.0) × P x.0)
unfolding made_at
where_found {A = A} {B = B} c f to from P ef back holds bytes x e =
    let a = bind_some (f.take bytes) (λ a. Some (to a.0, a.1)) x e in
    let t = ef.found bytes a.0 a.1 in
    subst (λ (y : B × List ℕ). (bytes ≡ f.spell (from y.0) ++ y.1) × (f.fits (from y.0) × P y.0)) (some_is (to a.0.0, a.0.1) x a.2)
    (subst (λ (z : A). (bytes ≡ f.spell z ++ a.0.1) × (f.fits z × P (to a.0.0))) (sym (back a.0.0)) (t.0, (t.1, holds a.0.0)))

where_again : {A B : Type 0} (c : ℕ) (f : Format A) (to : A → B) (from : B → A) (P : B → Type 0) → IsText c f → ((b : B) → P b → to (from b) ≡ b) → (x : B) (rest : List ℕ) → f.fits (from x) × P x → IsEnd c rest → made_at f.take to (f.spell (from x) ++ rest) ≡ Some (x, rest)
unfolding made_at
where_again c f to from P ef back x rest fits end = rw (ef.again (from x) rest fits.0 end, back x fits.1) refl

pub where_text : {A B : Type 0} {f : Format A} {c : ℕ} (to : A → B) (from : B → A) (P : B → Type 0) → IsText c f → ((a : A) → from (to a) ≡ a) → ((a : A) → P (to a)) → ((b : B) → P b → to (from b) ≡ b) → IsText c (made_where f to from P)
where_text {f = f} {c = c} to from P ef one holds two = record { found = where_found c f to from P ef one holds; again = where_again c f to from P ef two; opens = λ x rest fits. ef.opens (from x) rest fits.0 }

-- ---- keywords

pub chosen_found : {K A : Type 0} (c : ℕ) (table : List (List ℕ × K)) (name : K → List ℕ) (by : K → List ℕ → Option A) (print : A → List ℕ) (fits : A → Type 0) → AllByRecursion (λ e. name e.1 ≡ e.0) table
    → ((k : K) (t : List ℕ) (a : A) → by k t ≡ Some a → (print a ≡ name k ++ t) × fits a) → (t : List ℕ) (a : A) → chosen_at c table by t ≡ Some a → (print a ≡ t) × fits a
unfolding chosen_at
chosen_found c table name by print fits names each t a e =
    let k = bind_some (lookup table (front c t)) (λ k. by k (back c t)) a e in
    let is : name k.0 ≡ front c t = found_in table name names (front c t) k.0 k.1 in
    let u = each k.0 (back c t) a k.2 in
    (u.0 ∙ ap (λ (l : List ℕ). l ++ back c t) is ∙ sym (front-back c t), u.1)

-- a keyword is told by the first c
pub keyed : {K A : Type 0} (c : ℕ) (table : List (List ℕ × K)) (name : List ℕ) (by : K → List ℕ → Option A) (k : K) (t : List ℕ) → IsFree c name → lookup table name ≡ Some k → IsEnd c t → chosen_at c table by (name ++ t) ≡ by k t
unfolding chosen_at
keyed c table name by k t free is end =
    let f : front c (name ++ t) ≡ name = front_whole c name t free ∙ ap (λ (l : List ℕ). name ++ l) (front_end c t end) ∙ append-nil name in
    let b : back c (name ++ t) ≡ t = back_whole c name t free ∙ back_end c t end in
    rw (f, is, b) refl

-- ---- runs

stops : {A : Type 0} (here : List ℕ → Bool) (f : Format A) (t : List ℕ) (x : List A × List ℕ) → ([], t) ≡ x → (t ≡ flat_map f.spell x.0 ++ x.1) × AllByRecursion f.fits x.0
stops {A = A} here f t x same = subst (λ (y : List A × List ℕ). (t ≡ flat_map f.spell y.0 ++ y.1) × AllByRecursion f.fits y.0) same (refl, tt)

pub run_found : {A : Type 0} (c : ℕ) (here : List ℕ → Bool) (f : Format A) → IsText c f → (n : ℕ) (t : List ℕ) (x : List A × List ℕ) → run_at here f.take n t ≡ Some x → (t ≡ flat_map f.spell x.0 ++ x.1) × AllByRecursion f.fits x.0
unfolding run_at
run_found c here f ef zero t x e =
    let g = guard_none (here t) ([], t) x e in
    stops here f t x g.1
run_found {A = A} c here f ef (suc n) t x e =
    elim (here t) as (λ v. cond v (f.take t >>= λ a. run_at here f.take n a.1 >>= λ more. Some (a.0 ∷ more.0, more.1)) (Some ([], t)) ≡ Some x → (t ≡ flat_map f.spell x.0 ++ x.1) × AllByRecursion f.fits x.0) [
      | true ↦ λ e.
          let a = bind_some (f.take t) (λ a. run_at here f.take n a.1 >>= λ more. Some (a.0 ∷ more.0, more.1)) x e in
          let m = bind_some (run_at here f.take n a.0.1) (λ more. Some (a.0.0 ∷ more.0, more.1)) x a.2 in
          let u = ef.found t a.0 a.1 in
          let v = run_found c here f ef n a.0.1 m.0 m.1 in
          let both : t ≡ (f.spell a.0.0 ++ flat_map f.spell m.0.0) ++ m.0.1 = u.0 ∙ ap (λ (r : List ℕ). f.spell a.0.0 ++ r) v.0 ∙ sym (append_assoc (f.spell a.0.0) (flat_map f.spell m.0.0) m.0.1) in
          subst (λ (y : List A × List ℕ). (t ≡ flat_map f.spell y.0 ++ y.1) × AllByRecursion f.fits y.0) (some_is (a.0.0 ∷ m.0.0, m.0.1) x m.2)
          (rw flat_map-cons both, (u.1, v.1))
      | false ↦ λ e. stops here f t x (some_is ([], t) x e)
    ] e

at_end : {A : Type 0} (here : List ℕ → Bool) (f : List ℕ → Option (A × List ℕ)) (n : ℕ) (rest : List ℕ) → here rest ≡ false → run_at here f n rest ≡ Some ([], rest)
unfolding run_at
at_end here f zero rest over = rw over refl
at_end here f (suc n) rest over = rw over refl

one_more : {A : Type 0} (here : List ℕ → Bool) (f : List ℕ → Option (A × List ℕ)) (n : ℕ) (t : List ℕ) (x : A) (after : List ℕ) (xs : List A) (rest : List ℕ) → here t ≡ true → length after < length t → length t ≤ n + length rest → f t ≡ Some (x, after)
    → ((k : ℕ) → length after ≤ k + length rest → run_at here f k after ≡ Some (xs, rest)) → length rest < length t → run_at here f n t ≡ Some (x ∷ xs, rest)
unfolding run_at
one_more here f zero t x after xs rest is shorter le taken more below = absurd (omega arith)
one_more here f (suc n) t x after xs rest is shorter le taken more below = rw (is, taken, more n (omega arith)) refl

pub run_opens : {A : Type 0} (c : ℕ) (f : Format A) → IsText c f → (xs : List A) (rest : List ℕ) → AllByRecursion f.fits xs → IsEnd c rest → IsEnd c (flat_map f.spell xs ++ rest)
run_opens c f ef [] rest fits end = end
run_opens c f ef (x ∷ xs) rest fits end = rw (flat_map-cons, append_assoc) (ef.opens x (flat_map f.spell xs ++ rest) fits.0)

pub run_again : {A : Type 0} (c : ℕ) (here : List ℕ → Bool) (f : Format A) → IsText c f → IsLong f → ((x : A) (r : List ℕ) → here (f.spell x ++ r) ≡ true) → (xs : List A) (rest : List ℕ) (n : ℕ) → length (flat_map f.spell xs ++ rest) ≤ n + length rest → AllByRecursion f.fits xs → IsEnd c rest → here rest ≡ false → run_at here f.take n (flat_map f.spell xs ++ rest) ≡ Some (xs, rest)
run_again c here f ef long begins [] rest n le fits end over = at_end here f.take n rest over
run_again {A = A} c here f ef long begins (x ∷ xs) rest n le fits end over =
    let tail = flat_map f.spell xs ++ rest in
    let parts : flat_map f.spell (x ∷ xs) ++ rest ≡ f.spell x ++ tail = ap (λ (l : List ℕ). l ++ rest) (flat_map-cons f.spell x xs) ∙ append_assoc (f.spell x) (flat_map f.spell xs) rest in
    let len : length (f.spell x ++ tail) ≡ length (f.spell x) + length tail = length-append (f.spell x) tail in
    let len2 : length tail ≡ length (flat_map f.spell xs) + length rest = length-append (flat_map f.spell xs) rest in
    let some : 0 < length (f.spell x) = long x in
    let opens : IsEnd c tail = run_opens c f ef xs rest fits.1 end in
    let taken : f.take (f.spell x ++ tail) ≡ Some (x, tail) = ef.again x tail fits.0 opens in
    let whole_le : length (f.spell x ++ tail) ≤ n + length rest = omega (arith, ap length parts) in
    ap (run_at here f.take n) parts ∙ one_more here f.take n (f.spell x ++ tail) x tail xs rest (begins x tail) (omega arith) whole_le taken (λ k small. run_again c here f ef long begins xs rest k small fits.1 end over) (omega arith)
