-- Each format is exact where its parts are.
use Rattle.std.proofs.Common.{◌≡◌, ℕ, zero, suc, ◌+◌, ◌^◌, ◌<◌, ◌≤◌, Bool, true, false, ◌&&◌, cond, not, ltb, leb, eqb, List, [], ◌∷◌, ◌++◌, length, take, drop, Option, Some, None, refl, sym, ap, subst, ◌∙◌, append_assoc, arith, inl, inr}
use Rattle.std.specs.Prelude.{IfSome, ℤ, FitsSigned}
use Rattle.std.specs.Int.{Width, w16, w32, byte_len, from_be_bytes, to_be_bytes, cast_signed, cast_unsigned}
use Rattle.std.specs.List.{flat_map, AllByRecursion, list_all, IsDistinct}
use Rattle.std.specs.Bool.{Decides}
use Rattle.std.proofs.lemmas.Int.{ints, to_z-of_z, of_z-to_z}
use Rattle.std.proofs.lemmas.Bool.{cases_lt, ltb-false, le-ltb, eqb-true}
use Rattle.std.proofs.lemmas.Bool.Decides.{Decides-eqb, Decides-and, nat_tests}
use Rattle.std.specs.Cmp.{IsTotalOrder}
use Rattle.std.specs.Ordering.{is_lt, is_eq}
use Rattle.std.specs.List.Sorted.{IsStrictlySortedBy}
use Rattle.std.specs.declared.cmp.Ordering.{Ordering}
use Rattle.std.specs.declared.cmp.Ordering.TheVariants.{Less, Equal, Greater}
use Rattle.ob_format.specs.Order.{rises, differ}
use Rattle.std.proofs.lemmas.List.{take_at, drop_at, take-append-drop, length-append, length-take, get_or-drop, get_or-take, get_or_past, get_or_append_left, append-nil, nil_from_length}
use Rattle.std.proofs.lemmas.List.Concat.{flat_map-cons}
use Rattle.std.proofs.lemmas.Nat.{be_bytes_2, from_be_bytes-to_be_bytes_2, be_bytes_4, from_be_bytes-to_be_bytes_4}
use Rattle.std.proofs.lemmas.Option.{cond_some}
use Rattle.ob_format.specs.Format.{Format, IsBytes, IsExact, Adds, ◌>>=◌, byte_at, byte, int, number_at, number, word16, word32, text16, text32, bytes_at, text_at, text, pair_at, ◌⊗◌, made_at, made, items_at, list_at, list_of, optional_at, optional_bytes, optional, parsed_at, parsed, IsParsed, such_that_at, such_that, skip_at, lead_at, lead, whole, fixed_at, fixed, rising, few}

IsBytes-drop : (n : ℕ) (bytes : List ℕ) → IsBytes bytes → IsBytes (drop n bytes)
IsBytes-drop n bytes h i = rw get_or-drop (h (n + i))

IsBytes-take : (n : ℕ) (bytes : List ℕ) → IsBytes bytes → IsBytes (take n bytes)
IsBytes-take n bytes h i =
    elim (cases_lt i n) [
      | inl lt ↦ rw (get_or-take n bytes i 0 lt) (h i)
      | inr le ↦ rw (get_or_past (take n bytes) i 0 (omega (arith, length-take n bytes))) (omega arith)
    ]

IsBytes-rest : (b : ℕ) (bytes : List ℕ) → IsBytes (b ∷ bytes) → IsBytes bytes
IsBytes-rest b bytes h i = h (suc i)

-- the value of a step that did not fail
pub bind_some : {A B : Type 0} (r : Option A) (f : A → Option B) (y : B) → (r >>= f) ≡ Some y → (x : A) × (r ≡ Some x) × (f x ≡ Some y)
bind_some (Some x) f y e = (x, refl, e)
bind_some None f y e = absurd cc

pub guard_none : {A : Type 0} (b : Bool) (x y : A) → cond b None (Some x) ≡ Some y → (b ≡ false) × (x ≡ y)
guard_none true x y e = absurd cc
guard_none false x y e = (refl, cc)

pub cond_then : {A : Type 0} (b : Bool) (x : Option A) (y : A) → cond b x None ≡ Some y → (b ≡ true) × (x ≡ Some y)
cond_then true x y e = (refl, e)
cond_then false x y e = absurd cc

abbrev done : {A : Type 0} → A → Option A
done x = Some x

pub some_is : {A : Type 0} (x y : A) → done x ≡ done y → x ≡ y
some_is x y e = cc

-- one part after another
pub then_adds : {a b c x y : List ℕ} → Adds a b x → Adds b c y → Adds a c (x ++ y)
then_adds {a = a} {x = x} {y = y} p q = record { is = q.is ∙ ap (λ (l : List ℕ). l ++ y) p.is ∙ append_assoc a x y }

-- what a reader took from the front
pub record Takes {A : Type 0} (f : Format A) (bytes : List ℕ) (x : A × List ℕ) : Type 0 where
  pub parts : bytes ≡ f.spell x.0 ++ x.1
  pub fit : f.fits x.0
  pub rest_fits : IsBytes x.1

pub takes : {A : Type 0} (f : Format A) → IsExact f → (bytes : List ℕ) (x : A × List ℕ) → IsBytes bytes → f.take bytes ≡ Some x → Takes f bytes x
takes f exact bytes x fits e = let t = exact.found bytes x fits e in record { parts = t.0; fit = t.1; rest_fits = t.2 }

-- ---- numbers

pub record IsWide (w : Width) (limit : ℕ) : Type 0 where
  pub len : (n : ℕ) → length (to_be_bytes w n) ≡ byte_len w
  pub back : (bytes : List ℕ) → length bytes ≡ byte_len w → IsBytes bytes → to_be_bytes w (from_be_bytes w bytes) ≡ bytes
  pub again : (n : ℕ) → n < limit → from_be_bytes w (to_be_bytes w n) ≡ n
  pub below : (bytes : List ℕ) → IsBytes bytes → from_be_bytes w bytes < limit

pub wide32 : IsWide w32 (2 ^ 32)
wide32 = record {
  len = λ n. refl;
  back = λ bytes len fits. be_bytes_4 bytes _ len fits refl;
  again = λ n lt. from_be_bytes-to_be_bytes_4 n lt;
  below = λ bytes fits. omega (arith, fits 0, fits 1, fits 2, fits 3);
}

pub wide16 : IsWide w16 (2 ^ 16)
wide16 = record {
  len = λ n. refl;
  back = λ bytes len fits. be_bytes_2 bytes _ len fits refl;
  again = λ n lt. from_be_bytes-to_be_bytes_2 n lt;
  below = λ bytes fits. omega (arith, fits 0, fits 1);
}

number_found : (w : Width) (limit : ℕ) (wide : IsWide w limit) (bytes : List ℕ) (x : ℕ × List ℕ) → IsBytes bytes → number_at w bytes ≡ Some x → (bytes ≡ to_be_bytes w x.0 ++ x.1) × (x.0 < limit) × IsBytes x.1
number_found w limit wide bytes x fits e =
    let g = guard_none (ltb (length bytes) (byte_len w)) (from_be_bytes w (take (byte_len w) bytes), drop (byte_len w) bytes) x e in
    let long : byte_len w ≤ length bytes = ltb-false _ _ g.0 in
    let front_fits = IsBytes-take (byte_len w) bytes fits in
    let front : to_be_bytes w (from_be_bytes w (take (byte_len w) bytes)) ≡ take (byte_len w) bytes = wide.back (take (byte_len w) bytes) (omega (arith, length-take (byte_len w) bytes)) front_fits in
    subst (λ (y : ℕ × List ℕ). (bytes ≡ to_be_bytes w y.0 ++ y.1) × (y.0 < limit) × IsBytes y.1) g.1
    (rw front (sym (take-append-drop (byte_len w) bytes)), wide.below (take (byte_len w) bytes) front_fits, IsBytes-drop (byte_len w) bytes fits)

number_again : (w : Width) (limit : ℕ) (wide : IsWide w limit) (n : ℕ) (rest : List ℕ) → n < limit → number_at w (to_be_bytes w n ++ rest) ≡ Some (n, rest)
number_again w limit wide n rest lt =
    let len = wide.len n in
    let long : ltb (length (to_be_bytes w n ++ rest)) (byte_len w) ≡ false = le-ltb _ _ (omega (arith, length-append (to_be_bytes w n) rest)) in
    rw (long, take_at (to_be_bytes w n) rest (byte_len w) len, drop_at (to_be_bytes w n) rest (byte_len w) len, wide.again n lt) refl

pub number_exact : (w : Width) (limit : ℕ) → IsWide w limit → IsExact (number w limit)
number_exact w limit wide = record { found = number_found w limit wide; again = number_again w limit wide }

pub word32_exact : IsExact word32
unfolding word32
word32_exact = number_exact w32 (2 ^ 32) wide32

pub word16_exact : IsExact word16
unfolding word16
word16_exact = number_exact w16 (2 ^ 16) wide16

-- ---- texts

text_found : (w : Width) (limit : ℕ) (wide : IsWide w limit) (bytes : List ℕ) (x : List ℕ × List ℕ) → IsBytes bytes → text_at w bytes ≡ Some x → (bytes ≡ (to_be_bytes w (length x.0) ++ x.0) ++ x.1) × (length x.0 < limit) × IsBytes x.1
unfolding text_at
text_found w limit wide bytes x fits e =
    let b = bind_some (number_at w bytes) (λ n. bytes_at n.0 n.1) x e in
    let n = b.0 in
    let t = number_found w limit wide bytes n fits b.1 in
    let g = guard_none (ltb (length n.1) n.0) (take n.0 n.1, drop n.0 n.1) x b.2 in
    let long : n.0 ≤ length n.1 = ltb-false _ _ g.0 in
    let len : length (take n.0 n.1) ≡ n.0 = omega (arith, length-take n.0 n.1) in
    let both : bytes ≡ (to_be_bytes w n.0 ++ take n.0 n.1) ++ drop n.0 n.1 = t.0 ∙ ap (λ (r : List ℕ). to_be_bytes w n.0 ++ r) (sym (take-append-drop n.0 n.1)) ∙ sym (append_assoc (to_be_bytes w n.0) (take n.0 n.1) (drop n.0 n.1)) in
    subst (λ (y : List ℕ × List ℕ). (bytes ≡ (to_be_bytes w (length y.0) ++ y.0) ++ y.1) × (length y.0 < limit) × IsBytes y.1) g.1
    (subst (λ (k : ℕ). bytes ≡ (to_be_bytes w k ++ take n.0 n.1) ++ drop n.0 n.1) (sym len) both, omega (arith, t.1), IsBytes-drop n.0 n.1 t.2)

text_again : (w : Width) (limit : ℕ) (wide : IsWide w limit) (t rest : List ℕ) → length t < limit → text_at w ((to_be_bytes w (length t) ++ t) ++ rest) ≡ Some (t, rest)
unfolding text_at
text_again w limit wide t rest lt =
    let long : ltb (length (t ++ rest)) (length t) ≡ false = le-ltb _ _ (omega (arith, length-append t rest)) in
    ap (text_at w) (append_assoc (to_be_bytes w (length t)) t rest) ∙
    rw (number_again w limit wide (length t) (t ++ rest) lt, long, take_at t rest (length t) refl, drop_at t rest (length t) refl) refl

pub text_exact : (w : Width) (limit : ℕ) → IsWide w limit → IsExact (text w limit)
text_exact w limit wide = record { found = text_found w limit wide; again = text_again w limit wide }

pub text32_exact : IsExact text32
unfolding text32
text32_exact = text_exact w32 (2 ^ 32) wide32

pub text16_exact : IsExact text16
unfolding text16
text16_exact = text_exact w16 (2 ^ 16) wide16

-- ---- pairs

pair_found : {A B : Type 0} (f : Format A) (g : Format B) → IsExact f → IsExact g → (bytes : List ℕ) (x : (A × B) × List ℕ) → IsBytes bytes → pair_at f.take g.take bytes ≡ Some x → (bytes ≡ (f.spell x.0.0 ++ g.spell x.0.1) ++ x.1) × (f.fits x.0.0 × g.fits x.0.1) × IsBytes x.1
unfolding pair_at
pair_found {A = A} {B = B} f g ef eg bytes x fits e =
    let a = bind_some (f.take bytes) (λ a. g.take a.1 >>= λ b. Some ((a.0, b.0), b.1)) x e in
    let b = bind_some (g.take a.0.1) (λ b. Some ((a.0.0, b.0), b.1)) x a.2 in
    let t = ef.found bytes a.0 fits a.1 in
    let u = eg.found a.0.1 b.0 t.2 b.1 in
    subst (λ (y : (A × B) × List ℕ). (bytes ≡ (f.spell y.0.0 ++ g.spell y.0.1) ++ y.1) × (f.fits y.0.0 × g.fits y.0.1) × IsBytes y.1) (some_is ((a.0.0, b.0.0), b.0.1) x b.2)
    (t.0 ∙ ap (λ (r : List ℕ). f.spell a.0.0 ++ r) u.0 ∙ sym (append_assoc (f.spell a.0.0) (g.spell b.0.0) b.0.1), (t.1, u.1), u.2)

pair_again : {A B : Type 0} (f : Format A) (g : Format B) → IsExact f → IsExact g → (x : A × B) (rest : List ℕ) → f.fits x.0 × g.fits x.1 → pair_at f.take g.take ((f.spell x.0 ++ g.spell x.1) ++ rest) ≡ Some (x, rest)
unfolding pair_at
pair_again f g ef eg x rest fits =
    ap (pair_at f.take g.take) (append_assoc (f.spell x.0) (g.spell x.1) rest) ∙
    rw (ef.again x.0 (g.spell x.1 ++ rest) fits.0, eg.again x.1 rest fits.1) refl

pub pair_exact : {A B : Type 0} {f : Format A} {g : Format B} → IsExact f → IsExact g → IsExact (f ⊗ g)
pair_exact {f} {g} ef eg = record { found = pair_found f g ef eg; again = pair_again f g ef eg }

-- ---- the same bytes for another type

made_found : {A B : Type 0} (f : Format A) (to : A → B) (from : B → A) → IsExact f → ((a : A) → from (to a) ≡ a) → (bytes : List ℕ) (x : B × List ℕ) → IsBytes bytes → made_at f.take to bytes ≡ Some x → (bytes ≡ f.spell (from x.0) ++ x.1) × f.fits (from x.0) × IsBytes x.1
unfolding made_at
made_found {A = A} {B = B} f to from ef back bytes x fits e =
    let a = bind_some (f.take bytes) (λ a. Some (to a.0, a.1)) x e in
    let t = ef.found bytes a.0 fits a.1 in
    subst (λ (y : B × List ℕ). (bytes ≡ f.spell (from y.0) ++ y.1) × f.fits (from y.0) × IsBytes y.1) (some_is (to a.0.0, a.0.1) x a.2)
    (subst (λ (z : A). (bytes ≡ f.spell z ++ a.0.1) × f.fits z × IsBytes a.0.1) (sym (back a.0.0)) t)

made_again : {A B : Type 0} (f : Format A) (to : A → B) (from : B → A) → IsExact f → ((b : B) → to (from b) ≡ b) → (x : B) (rest : List ℕ) → f.fits (from x) → made_at f.take to (f.spell (from x) ++ rest) ≡ Some (x, rest)
unfolding made_at
made_again f to from ef back x rest fits = rw (ef.again (from x) rest fits, back x) refl

pub made_exact : {A B : Type 0} {f : Format A} (to : A → B) (from : B → A) → IsExact f → ((a : A) → from (to a) ≡ a) → ((b : B) → to (from b) ≡ b) → IsExact (made f to from)
made_exact {f} to from ef one two = record { found = made_found f to from ef one; again = made_again f to from ef two }

-- ---- lists

items_found : {A : Type 0} (f : Format A) → IsExact f → (n : ℕ) (bytes : List ℕ) (x : List A × List ℕ) → IsBytes bytes → items_at f.take n bytes ≡ Some x → (bytes ≡ flat_map f.spell x.0 ++ x.1) × ((length x.0 ≡ n) × AllByRecursion f.fits x.0) × IsBytes x.1
unfolding items_at
items_found {A = A} f ef zero bytes x fits e =
    subst (λ (y : List A × List ℕ). (bytes ≡ flat_map f.spell y.0 ++ y.1) × ((length y.0 ≡ 0) × AllByRecursion f.fits y.0) × IsBytes y.1) (some_is ([], bytes) x e) (refl, (refl, tt), fits)
items_found {A = A} f ef (suc n) bytes x fits e =
    let a = bind_some (f.take bytes) (λ first. items_at f.take n first.1 >>= λ others. Some (first.0 ∷ others.0, others.1)) x e in
    let b = bind_some (items_at f.take n a.0.1) (λ others. Some (a.0.0 ∷ others.0, others.1)) x a.2 in
    let t = ef.found bytes a.0 fits a.1 in
    let u = items_found f ef n a.0.1 b.0 t.2 b.1 in
    let both : bytes ≡ (f.spell a.0.0 ++ flat_map f.spell b.0.0) ++ b.0.1 = t.0 ∙ ap (λ (r : List ℕ). f.spell a.0.0 ++ r) u.0 ∙ sym (append_assoc (f.spell a.0.0) (flat_map f.spell b.0.0) b.0.1) in
    subst (λ (y : List A × List ℕ). (bytes ≡ flat_map f.spell y.0 ++ y.1) × ((length y.0 ≡ suc n) × AllByRecursion f.fits y.0) × IsBytes y.1) (some_is (a.0.0 ∷ b.0.0, b.0.1) x b.2)
    (rw flat_map-cons both, (ap suc u.1.0, (t.1, u.1.1)), u.2)

items_again : {A : Type 0} (f : Format A) → IsExact f → (xs : List A) (rest : List ℕ) → AllByRecursion f.fits xs → items_at f.take (length xs) (flat_map f.spell xs ++ rest) ≡ Some (xs, rest)
unfolding items_at
items_again f ef [] rest fits = refl
items_again f ef (x ∷ xs) rest fits =
    let regrouped : flat_map f.spell (x ∷ xs) ++ rest ≡ f.spell x ++ (flat_map f.spell xs ++ rest) = ap (λ (l : List ℕ). l ++ rest) (flat_map-cons f.spell x xs) ∙ append_assoc (f.spell x) (flat_map f.spell xs) rest in
    ap (items_at f.take (suc (length xs))) regrouped ∙ rw (ef.again x (flat_map f.spell xs ++ rest) fits.0, items_again f ef xs rest fits.1) refl

list_found : {A : Type 0} (f : Format A) → IsExact f → (bytes : List ℕ) (x : List A × List ℕ) → IsBytes bytes → list_at f.take bytes ≡ Some x → (bytes ≡ (to_be_bytes w32 (length x.0) ++ flat_map f.spell x.0) ++ x.1) × ((length x.0 < 2 ^ 32) × AllByRecursion f.fits x.0) × IsBytes x.1
unfolding list_at
list_found f ef bytes x fits e =
    let b = bind_some (number_at w32 bytes) (λ n. items_at f.take n.0 n.1) x e in
    let t = number_found w32 (2 ^ 32) wide32 bytes b.0 fits b.1 in
    let u = items_found f ef b.0.0 b.0.1 x t.2 b.2 in
    let both : bytes ≡ (to_be_bytes w32 b.0.0 ++ flat_map f.spell x.0) ++ x.1 = t.0 ∙ ap (λ (r : List ℕ). to_be_bytes w32 b.0.0 ++ r) u.0 ∙ sym (append_assoc (to_be_bytes w32 b.0.0) (flat_map f.spell x.0) x.1) in
    (subst (λ (k : ℕ). bytes ≡ (to_be_bytes w32 k ++ flat_map f.spell x.0) ++ x.1) (sym u.1.0) both, (omega (arith, u.1.0, t.1), u.1.1), u.2)

list_again : {A : Type 0} (f : Format A) → IsExact f → (xs : List A) (rest : List ℕ) → (length xs < 2 ^ 32) × AllByRecursion f.fits xs → list_at f.take ((to_be_bytes w32 (length xs) ++ flat_map f.spell xs) ++ rest) ≡ Some (xs, rest)
unfolding list_at
list_again f ef xs rest fits =
    ap (list_at f.take) (append_assoc (to_be_bytes w32 (length xs)) (flat_map f.spell xs) rest) ∙
    rw (number_again w32 (2 ^ 32) wide32 (length xs) (flat_map f.spell xs ++ rest) fits.0) (items_again f ef xs rest fits.1)

pub list_exact : {A : Type 0} {f : Format A} → IsExact f → IsExact (list_of f)
unfolding list_of
list_exact {f} ef = record { found = list_found f ef; again = list_again f ef }

-- ---- a value behind a flag

optional_found : {A : Type 0} (f : Format A) → IsExact f → (bytes : List ℕ) (x : Option A × List ℕ) → IsBytes bytes → optional_at f.take bytes ≡ Some x → (bytes ≡ optional_bytes f x.0 ++ x.1) × IfSome x.0 f.fits × IsBytes x.1
unfolding optional_at
optional_found {A = A} f ef [] x fits e = absurd cc
optional_found {A = A} f ef (zero ∷ bytes) x fits e =
    subst (λ (y : Option A × List ℕ). (zero ∷ bytes ≡ optional_bytes f y.0 ++ y.1) × IfSome y.0 f.fits × IsBytes y.1) (some_is (None, bytes) x e) (refl, tt, IsBytes-rest 0 bytes fits)
optional_found {A = A} f ef (suc zero ∷ bytes) x fits e =
    let b = bind_some (f.take bytes) (λ y. Some (Some y.0, y.1)) x e in
    let t = ef.found bytes b.0 (IsBytes-rest 1 bytes fits) b.1 in
    subst (λ (y : Option A × List ℕ). (1 ∷ bytes ≡ optional_bytes f y.0 ++ y.1) × IfSome y.0 f.fits × IsBytes y.1) (some_is (Some b.0.0, b.0.1) x b.2) (ap (λ (w : List ℕ). 1 ∷ w) t.0, t.1, t.2)
optional_found {A = A} f ef (suc (suc b) ∷ bytes) x fits e = absurd cc

optional_again : {A : Type 0} (f : Format A) → IsExact f → (o : Option A) (rest : List ℕ) → IfSome o f.fits → optional_at f.take (optional_bytes f o ++ rest) ≡ Some (o, rest)
unfolding optional_at
optional_again f ef None rest h = refl
optional_again f ef (Some x) rest h = rw (ef.again x rest h) refl

pub optional_exact : {A : Type 0} {f : Format A} → IsExact f → IsExact (optional f)
unfolding optional
optional_exact {f} ef = record { found = optional_found f ef; again = optional_again f ef }

-- ---- the values that pass a test

such_that_found : {A : Type 0} (f : Format A) (p : A → Bool) (P : A → Type 0) → ((x : A) → Decides (p x) (P x)) → IsExact f → (bytes : List ℕ) (x : A × List ℕ) → IsBytes bytes → such_that_at f.take p bytes ≡ Some x → (bytes ≡ f.spell x.0 ++ x.1) × (f.fits x.0 × P x.0) × IsBytes x.1
unfolding such_that_at
such_that_found {A = A} f p P decides ef bytes x fits e =
    let b = bind_some (f.take bytes) (λ y. cond (p y.0) (Some y) None) x e in
    let g = cond_some (p b.0.0) b.0 x b.2 in
    let t = ef.found bytes b.0 fits b.1 in
    subst (λ (y : A × List ℕ). (bytes ≡ f.spell y.0 ++ y.1) × (f.fits y.0 × P y.0) × IsBytes y.1) g.1 (t.0, (t.1, (decides b.0.0).0 g.0), t.2)

such_that_again : {A : Type 0} (f : Format A) (p : A → Bool) (P : A → Type 0) → ((x : A) → Decides (p x) (P x)) → IsExact f → (x : A) (rest : List ℕ) → f.fits x × P x → such_that_at f.take p (f.spell x ++ rest) ≡ Some (x, rest)
unfolding such_that_at
such_that_again f p P decides ef x rest fits = rw (ef.again x rest fits.0, (decides x).1 fits.1) refl

pub such_that_exact : {A : Type 0} {f : Format A} (p : A → Bool) (P : A → Type 0) → ((x : A) → Decides (p x) (P x)) → IsExact f → IsExact (such_that f p P)
such_that_exact {f} p P decides ef = record { found = such_that_found f p P decides ef; again = such_that_again f p P decides ef }

-- ---- the values that a function reads

IsBytes-front : (a b : List ℕ) → IsBytes (a ++ b) → IsBytes a
IsBytes-front a b h i =
    elim (cases_lt i (length a)) [
      | inl lt ↦ rw (get_or_append_left a b 0 i lt) at (h i)
      | inr le ↦ rw (get_or_past a i 0 le) (omega arith)
    ]

parsed_found : {A B : Type 0} (f : Format A) (parse : A → Option B) (print : B → A) (fits : B → Type 0) → IsParsed f parse print fits → IsExact f → (bytes : List ℕ) (x : B × List ℕ) → IsBytes bytes → parsed_at f.take parse bytes ≡ Some x → (bytes ≡ f.spell (print x.0) ++ x.1) × fits x.0 × IsBytes x.1
unfolding parsed_at
parsed_found {A = A} {B = B} f parse print fits law ef bytes x bytes_fit e =
    let a = bind_some (f.take bytes) (λ a. parse a.0 >>= λ b. Some (b, a.1)) x e in
    let b = bind_some (parse a.0.0) (λ b. Some (b, a.0.1)) x a.2 in
    let t = ef.found bytes a.0 bytes_fit a.1 in
    let front : IsBytes (f.spell a.0.0) = IsBytes-front (f.spell a.0.0) a.0.1 (subst (λ (l : List ℕ). IsBytes l) t.0 bytes_fit) in
    let u = law.found a.0.0 b.0 t.1 front b.1 in
    subst (λ (y : B × List ℕ). (bytes ≡ f.spell (print y.0) ++ y.1) × fits y.0 × IsBytes y.1) (some_is (b.0, a.0.1) x b.2)
    (subst (λ (z : A). bytes ≡ f.spell z ++ a.0.1) (sym u.0) t.0, u.1, t.2)

parsed_again : {A B : Type 0} (f : Format A) (parse : A → Option B) (print : B → A) (fits : B → Type 0) → IsParsed f parse print fits → IsExact f → (x : B) (rest : List ℕ) → fits x → parsed_at f.take parse (f.spell (print x) ++ rest) ≡ Some (x, rest)
unfolding parsed_at
parsed_again f parse print fits law ef x rest fit = let u = law.again x fit in rw (ef.again (print x) rest u.0, u.1) refl

pub parsed_exact : {A B : Type 0} {f : Format A} {parse : A → Option B} {print : B → A} {fits : B → Type 0} → IsParsed f parse print fits → IsExact f → IsExact (parsed f parse print fits)
parsed_exact {f} {parse} {print} {fits} law ef = record { found = parsed_found f parse print fits law ef; again = parsed_again f parse print fits law ef }

-- ---- fixed bytes

skip_found : (front bytes rest : List ℕ) → IsBytes bytes → skip_at front bytes ≡ Some rest → (bytes ≡ front ++ rest) × IsBytes rest
unfolding skip_at
skip_found [] bytes rest fits e = let same : bytes ≡ rest = cc in (same, subst (λ (l : List ℕ). IsBytes l) same fits)
skip_found (c ∷ cs) [] rest fits e = absurd cc
skip_found (c ∷ cs) (b ∷ bytes) rest fits e =
    let g = cond_then (eqb c b) (skip_at cs bytes) rest e in
    let same : c ≡ b = eqb-true _ _ g.0 in
    let t = skip_found cs bytes rest (IsBytes-rest b bytes fits) g.1 in
    (cc (t.0, same), t.1)

skip_again : (front rest : List ℕ) → skip_at front (front ++ rest) ≡ Some rest
unfolding skip_at
skip_again [] rest = refl
skip_again (c ∷ cs) rest = rw ((Decides-eqb c c).1 refl) (skip_again cs rest)

lead_found : {A : Type 0} (front : List ℕ) (f : Format A) → IsExact f → (bytes : List ℕ) (x : A × List ℕ) → IsBytes bytes → lead_at front f.take bytes ≡ Some x → (bytes ≡ (front ++ f.spell x.0) ++ x.1) × f.fits x.0 × IsBytes x.1
unfolding lead_at
lead_found front f ef bytes x fits e =
    let a = bind_some (skip_at front bytes) f.take x e in
    let t = skip_found front bytes a.0 fits a.1 in
    let u = ef.found a.0 x t.1 a.2 in
    (t.0 ∙ ap (λ (r : List ℕ). front ++ r) u.0 ∙ sym (append_assoc front (f.spell x.0) x.1), u.1, u.2)

lead_again : {A : Type 0} (front : List ℕ) (f : Format A) → IsExact f → (x : A) (rest : List ℕ) → f.fits x → lead_at front f.take ((front ++ f.spell x) ++ rest) ≡ Some (x, rest)
unfolding lead_at
lead_again front f ef x rest fits = ap (lead_at front f.take) (append_assoc front (f.spell x) rest) ∙ rw (skip_again front (f.spell x ++ rest)) (ef.again x rest fits)

pub lead_exact : {A : Type 0} {f : Format A} (front : List ℕ) → IsExact f → IsExact (lead front f)
lead_exact {f} front ef = record { found = lead_found front f ef; again = lead_again front f ef }

-- ---- nothing follows

pub whole_found : {A : Type 0} (f : Format A) → IsExact f → (bytes : List ℕ) (x : A) → IsBytes bytes → whole f bytes ≡ Some x → f.fits x × (bytes ≡ f.spell x)
unfolding whole
whole_found {A = A} f ef bytes x fits e =
    let b = bind_some (f.take bytes) (λ y. cond (ltb 0 (length y.1)) None (Some y.0)) x e in
    let g = guard_none (ltb 0 (length b.0.1)) b.0.0 x b.2 in
    let t = ef.found bytes b.0 fits b.1 in
    let nothing : b.0.1 ≡ [] = nil_from_length b.0.1 (omega (arith, ltb-false _ _ g.0)) in
    subst (λ (y : A). f.fits y × (bytes ≡ f.spell y)) g.1 (t.1, t.0 ∙ ap (λ (r : List ℕ). f.spell b.0.0 ++ r) nothing ∙ append-nil (f.spell b.0.0))

pub whole_again : {A : Type 0} (f : Format A) → IsExact f → (x : A) → f.fits x → whole f (f.spell x) ≡ Some x
unfolding whole
whole_again f ef x fits =
    let taken : f.take (f.spell x) ≡ Some (x, []) = ap f.take (sym (append-nil (f.spell x))) ∙ ef.again x [] fits in
    rw taken refl

-- ---- bytes and signed numbers

byte_found : (bytes : List ℕ) (x : ℕ × List ℕ) → IsBytes bytes → byte_at bytes ≡ Some x → (bytes ≡ (x.0 ∷ []) ++ x.1) × (x.0 < 256) × IsBytes x.1
unfolding byte_at
byte_found [] x fits e = absurd cc
byte_found (b ∷ bytes) x fits e = subst (λ (y : ℕ × List ℕ). (b ∷ bytes ≡ (y.0 ∷ []) ++ y.1) × (y.0 < 256) × IsBytes y.1) (some_is (b, bytes) x e) (refl, fits 0, IsBytes-rest b bytes fits)

byte_again : (x : ℕ) (rest : List ℕ) → x < 256 → byte_at ((x ∷ []) ++ rest) ≡ Some (x, rest)
unfolding byte_at
byte_again x rest lt = refl

pub byte_exact : IsExact byte
unfolding byte
byte_exact = record { found = byte_found; again = byte_again }

signed_fits : (a : ℕ) → a < 2 ^ 32 → FitsSigned w32 (cast_signed w32 a)
signed_fits a small = grind (arith, ints)

int_law : IsParsed (number w32 (2 ^ 32)) (λ n. Some (cast_signed w32 n)) (cast_unsigned w32) (FitsSigned w32)
int_law = record {
  found = λ a b small bytes e. subst (λ (z : ℤ). (cast_unsigned w32 z ≡ a) × FitsSigned w32 z) (some_is (cast_signed w32 a) b e) (of_z-to_z w32 a small, signed_fits a small);
  again = λ b fits. (omega (arith, ints), ap (λ (z : ℤ). Some z) (to_z-of_z w32 b fits));
}

pub int_exact : IsExact int
unfolding int
int_exact = parsed_exact int_law (number_exact w32 (2 ^ 32) wide32)

-- ---- n bytes

fixed_found : (n : ℕ) (bytes : List ℕ) (x : List ℕ × List ℕ) → IsBytes bytes → fixed_at n bytes ≡ Some x → (bytes ≡ x.0 ++ x.1) × (length x.0 ≡ n) × IsBytes x.1
unfolding fixed_at
fixed_found n bytes x fits e =
    let g = guard_none (ltb (length bytes) n) (take n bytes, drop n bytes) x e in
    let long : n ≤ length bytes = ltb-false _ _ g.0 in
    subst (λ (y : List ℕ × List ℕ). (bytes ≡ y.0 ++ y.1) × (length y.0 ≡ n) × IsBytes y.1) g.1 (sym (take-append-drop n bytes), omega (arith, length-take n bytes), IsBytes-drop n bytes fits)

fixed_again : (n : ℕ) (t rest : List ℕ) → length t ≡ n → fixed_at n (t ++ rest) ≡ Some (t, rest)
unfolding fixed_at
fixed_again n t rest len =
    let long : ltb (length (t ++ rest)) n ≡ false = le-ltb _ _ (omega (arith, length-append t rest)) in
    rw (long, take_at t rest n len, drop_at t rest n len) refl

pub fixed_exact : (n : ℕ) → IsExact (fixed n)
fixed_exact n = record { found = fixed_found n; again = fixed_again n }

-- ---- lists that rise

self-decides : (b : Bool) → Decides b (b ≡ true)
self-decides b = (λ e. e, λ e. e)

Less-decides : (o : Ordering) → Decides (is_lt o) (o ≡ Less)
Less-decides Less = (λ _. refl, λ _. refl)
Less-decides Equal = (λ e. absurd cc, λ e. absurd cc)
Less-decides Greater = (λ e. absurd cc, λ e. absurd cc)

tail_rises : {A : Type 0} (R : A → A → Ordering) (x y : A) (ys : List A) → (is_lt (R x y) && rises R (y ∷ ys)) ≡ true → (R x y ≡ Less) × (rises R (y ∷ ys) ≡ true)
tail_rises R x y ys e = let d = Decides-and (is_lt (R x y)) (rises R (y ∷ ys)) (Less-decides (R x y)) (self-decides (rises R (y ∷ ys))) in d.0 e

below_later : {A : Type 0} (R : A → A → Ordering) → IsTotalOrder R → (x y : A) (ys : List A) → R x y ≡ Less → AllByRecursion (λ z. R y z ≡ Less) ys → AllByRecursion (λ z. R x z ≡ Less) ys
below_later R total x y [] lt all = tt
below_later R total x y (z ∷ zs) lt all = (total.trans x y z lt all.0, below_later R total x y zs lt all.1)

rises_sorted : {A : Type 0} (R : A → A → Ordering) → IsTotalOrder R → (xs : List A) → rises R xs ≡ true → IsStrictlySortedBy R xs
unfolding IsStrictlySortedBy
rises_sorted R total [] e = tt
rises_sorted R total (x ∷ []) e = (tt, tt)
rises_sorted R total (x ∷ y ∷ ys) e =
    let t = tail_rises R x y ys e in
    let rest = rises_sorted R total (y ∷ ys) t.1 in
    ((t.0, below_later R total x y ys t.0 rest.0), rest)

sorted_rises : {A : Type 0} (R : A → A → Ordering) (xs : List A) → IsStrictlySortedBy R xs → rises R xs ≡ true
unfolding IsStrictlySortedBy
sorted_rises R [] s = refl
sorted_rises R (x ∷ []) s = refl
sorted_rises R (x ∷ y ∷ ys) s =
    let rest = sorted_rises R (y ∷ ys) s.1 in
    rw (s.0.0) rest

pub rises_decides : {A : Type 0} (R : A → A → Ordering) → IsTotalOrder R → (xs : List A) → Decides (rises R xs) (IsStrictlySortedBy R xs)
rises_decides R total xs = (rises_sorted R total xs, sorted_rises R xs)

pub rising_exact : {A : Type 0} {f : Format A} {R : A → A → Ordering} → IsTotalOrder R → IsExact f → IsExact (rising f R)
rising_exact {R = R} total ef = such_that_exact (rises R) (IsStrictlySortedBy R) (rises_decides R total) (list_exact ef)

-- ---- lists whose items differ

-- a test of each item
pub each_decides : {A : Type 0} (p : A → Bool) (P : A → Type 0) → ((x : A) → Decides (p x) (P x)) → (xs : List A) → Decides (list_all p xs) (AllByRecursion P xs)
each_decides p P d [] = (λ _. tt, λ _. refl)
each_decides p P d (x ∷ xs) = Decides-and (p x) (list_all p xs) (d x) (each_decides p P d xs)

pub le_decides : (m n : ℕ) → Decides (leb m n) (m ≤ n)
le_decides m n = (λ e. grind (arith, nat_tests), λ h. grind (arith, nat_tests))

not-decides : (b : Bool) → Decides (not b) (b ≡ false)
not-decides true = (λ e. absurd cc, λ e. absurd cc)
not-decides false = (λ _. refl, λ _. refl)

differ_decides : {A : Type 0} (R : A → A → Ordering) (xs : List A) → Decides (differ R xs) (IsDistinct (λ x y. is_eq (R x y)) xs)
unfolding IsDistinct
differ_decides R [] = (λ _. tt, λ _. refl)
differ_decides R (x ∷ xs) = Decides-and (list_all (λ y. not (is_eq (R x y))) xs) (differ R xs) (each_decides (λ y. not (is_eq (R x y))) (λ y. is_eq (R x y) ≡ false) (λ y. not-decides (is_eq (R x y))) xs) (differ_decides R xs)

pub few_exact : {A : Type 0} {f : Format A} (n : ℕ) (R : A → A → Ordering) → IsExact f → IsExact (few n f R)
few_exact n R ef = such_that_exact (λ xs. leb (length xs) n && differ R xs) (λ xs. (length xs ≤ n) × IsDistinct (λ x y. is_eq (R x y)) xs) (λ xs. Decides-and (leb (length xs) n) (differ R xs) (le_decides (length xs) n) (differ_decides R xs)) (list_exact ef)
