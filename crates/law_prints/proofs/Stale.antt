-- Where prints tell apart what is compared, the first use that is not met is the same by prints.
use Rattle.std.proofs.Common.{◌≡◌, ℕ, zero, suc, Bool, true, false, List, [], ◌∷◌, Option, Some, None, Contains, refl, sym, ap, ◌∙◌, arith}
use Rattle.std.specs.Prelude.{map as each, bytes_eq}
use Rattle.std.specs.Option.{option_map}
use Rattle.std.specs.List.{AllByRecursion}
use Rattle.std.specs.Cmp.Lexicographic.{bytes_decides}
use Rattle.ob_tree.specs.declared.print.Print.{Print}
use Rattle.ob_fprint.specs.Print.{print_from}
use Rattle.ob_layout.specs.Lists.{or_else}
use Rattle.ob_env.specs.Faces.{Face, Wanted, text_in, print_in, printed}
use Rattle.ob_env.specs.Stale.{prints_agree, Found, AsWanted, IsAbsent, IsChanged, as_wanted, compared, found_as, unmet, first_among, first_stale}
use Rattle.law_prints.specs.Printed.{Text, wanted_printed, found_printed, stale_printed}
use Rattle.law_prints.specs.Alike.{AreCompared, AreToldApart}
use Rattle.law_prints.proofs.Faces.{print_is}

-- ---- one use

same_truth : (a b : Bool) → (a ≡ true → b ≡ true) → (b ≡ true → a ≡ true) → a ≡ b
same_truth true b f g = sym (f refl)
same_truth false true f g = g refl
same_truth false false f g = refl

-- prints of texts that they tell apart agree where the texts do
agree : (s t : Text) → (print_from s ≡ print_from t → s ≡ t) → prints_agree (print_from s) (print_from t) ≡ bytes_eq s t
agree s t told = same_truth (prints_agree (print_from s) (print_from t)) (bytes_eq s t)
    (λ e. (bytes_decides s t).1 (told (ap (λ (l : List ℕ). let x : Print = record { 0 = l } in x) ((bytes_decides (print_from s).0 (print_from t).0).0 e))))
    (λ e. (bytes_decides (print_from s).0 (print_from t).0).1 (ap (λ (x : Text). (print_from x).0) ((bytes_decides s t).0 e)))

meets : (k : Text) (o : Option Text) → ((t : Text) → o ≡ Some t → print_from k ≡ print_from t → k ≡ t) → compared prints_agree (print_from k) (option_map print_from o) ≡ found_printed (compared bytes_eq k o)
meets k None told = refl
meets k (Some t) told = ap (λ (b : Bool). as_wanted b (print_from t)) (agree k t (told t refl)) ∙ go (bytes_eq k t)
  where
    go : (b : Bool) → as_wanted b (print_from t) ≡ found_printed (as_wanted b t)
    go true = refl
    go false = refl

unmet_is : (m : List ℕ) (w : Wanted Text) (f : Found Text) → unmet m (wanted_printed w) (found_printed f) ≡ option_map stale_printed (unmet m w f)
unmet_is m w AsWanted = refl
unmet_is m w IsAbsent = refl
unmet_is m w (IsChanged t) = refl

-- ---- the first

else_is : {A B : Type 0} (g : A → B) (o p : Option A) → option_map g (or_else o p) ≡ or_else (option_map g o) (option_map g p)
else_is g None p = refl
else_is g (Some x) p = refl

first_is : {A B C D : Type 0} (g : A → C) (h : B → D) (f : C → Option D) (e : A → Option B) (xs : List A) → AllByRecursion (λ x. f (g x) ≡ option_map h (e x)) xs → first_among f (each g xs) ≡ option_map h (first_among e xs)
first_is g h f e [] all = refl
first_is g h f e (x ∷ xs) all = ap (λ o. or_else o (first_among f (each g xs))) all.0 ∙ ap (λ o. or_else (option_map h (e x)) o) (first_is g h f e xs all.1) ∙ sym (else_is h (e x) (first_among e xs))

pub all_from : {A : Type 0} (P : A → Type 0) (xs : List A) → ((x : A) → Contains xs x → P x) → AllByRecursion P xs
all_from P [] h = tt
all_from P (x ∷ xs) h = (h x (zero, omega arith, refl), all_from P xs (λ y c. h y (suc c.0, omega (arith, c.1), c.2)))

pub stale_is : (fs : List (Face Text)) → AreToldApart (AreCompared fs) → first_stale prints_agree (print_in (each printed fs)) (each printed fs) ≡ option_map stale_printed (first_stale bytes_eq (text_in fs) fs)
stale_is fs told =
    first_is printed stale_printed (λ f. first_among (λ w. unmet f.«module» w (found_as prints_agree (print_in (each printed fs)) w)) f.uses) (λ f. first_among (λ w. unmet f.«module» w (found_as bytes_eq (text_in fs) w)) f.uses) fs
    (all_from (λ f. first_among (λ w. unmet f.«module» w (found_as prints_agree (print_in (each printed fs)) w)) (each wanted_printed f.uses) ≡ option_map stale_printed (first_among (λ w. unmet f.«module» w (found_as bytes_eq (text_in fs) w)) f.uses)) fs
    (λ f c. first_is wanted_printed stale_printed (λ w. unmet f.«module» w (found_as prints_agree (print_in (each printed fs)) w)) (λ w. unmet f.«module» w (found_as bytes_eq (text_in fs) w)) f.uses
    (all_from (λ w. unmet f.«module» (wanted_printed w) (found_as prints_agree (print_in (each printed fs)) (wanted_printed w)) ≡ option_map stale_printed (unmet f.«module» w (found_as bytes_eq (text_in fs) w))) f.uses
    (λ w d. one f w (λ t e. told w.kept t (f, c, w, d, refl, e))))))
  where
    one : (f : Face Text) (w : Wanted Text) → ((t : Text) → text_in fs w.object w.aspect ≡ Some t → print_from w.kept ≡ print_from t → w.kept ≡ t) → unmet f.«module» (wanted_printed w) (found_as prints_agree (print_in (each printed fs)) (wanted_printed w)) ≡ option_map stale_printed (unmet f.«module» w (found_as bytes_eq (text_in fs) w))
    one f w k =
        ap (λ (o : Option Print). unmet f.«module» (wanted_printed w) (compared prints_agree (print_from w.kept) o)) (print_is fs w.object w.aspect)
        ∙ ap (unmet f.«module» (wanted_printed w)) (meets w.kept (text_in fs w.object w.aspect) k)
        ∙ unmet_is f.«module» w (found_as bytes_eq (text_in fs) w)
