-- The modules of a walk are those to which the imports lead, but for its root and Out.
use Rattle.std.proofs.Common.{◌≡◌, ℕ, zero, suc, ◌+◌, List, [], ◌∷◌, ◌++◌, Bool, true, false, length, refl, sym, ap, ◌∙◌, subst, codes}
use Rattle.std.specs.Prelude.{◌||◌, nat_le, bytes_eq}
use Rattle.std.specs.List.{AllByRecursion, list_any}
use Rattle.std.proofs.lemmas.Bool.{false≢true}
use Rattle.ob_env.specs.Faces.{Face}
use Rattle.ob_env_walk.specs.Walk.{Entry, Missing, Junk, Holds, Walked, Left, NoInterface, Damaged, Cycle, TooMany, go_on, is_among, is_passed_over, through, at_entry, at_module, entering, visit, walk}
use Rattle.ob_link.specs.Walk.{has}
use Rattle.law_lists.proofs.Lists.{all_last, same_bytes, bytes_itself, or_first, or_second, first_false}
use Rattle.law_make.proofs.Names.{all_there}

module _ {K : Type 0} (find : List ℕ → Entry K) (x : List ℕ) (test : List ℕ → Bool) where
  -- neither the root nor Out, and so it passes the test
  abbrev pub Passes : List ℕ → Type 0
  Passes n = bytes_eq n x ≡ false → bytes_eq n (codes "Out") ≡ false → test n ≡ true

  -- an interface that was found
  pub record IsFound (f : Face K) : Type 0 where
    pub found : find f.«module» ≡ Holds f
    pub passes : test f.«module» ≡ true

  abbrev Good : Walked K → Type 0
  Good (Left faces) = AllByRecursion IsFound faces
  Good (NoInterface m) = Unit {0}
  Good (Damaged m) = Unit {0}
  Good (Cycle m) = Unit {0}
  Good TooMany = Unit {0}

  good_on : (w : Walked K) (f : List (Face K) → Walked K) → Good w → ((more : List (Face K)) → AllByRecursion IsFound more → Good (f more)) → Good (go_on w f)
  good_on (Left faces) f h k = k faces h
  good_on (NoInterface m) f h k = tt
  good_on (Damaged m) f h k = tt
  good_on (Cycle m) f h k = tt
  good_on TooMany f h k = tt

  good_through : (at : List ℕ → List (Face K) → Walked K) → ((m : List ℕ) (left : List (Face K)) → Passes m → AllByRecursion IsFound left → Good (at m left)) → (ms : List (List ℕ)) (left : List (Face K)) → AllByRecursion Passes ms → AllByRecursion IsFound left → Good (through at ms left)
  good_through at one [] left h k = k
  good_through at one (m ∷ ms) left h k = good_on (at m left) (λ more. through at ms more) (one m left h.0 k) (λ more l. good_through at one ms more h.1 l)

  not_root : (path : List (List ℕ)) (m : List ℕ) → is_among x path ≡ true → is_among m path ≡ false → bytes_eq m x ≡ false
  not_root path m h k = go (bytes_eq m x) refl
    where
      go : (b : Bool) → bytes_eq m x ≡ b → bytes_eq m x ≡ false
      go true e = absurd (false≢true (sym k ∙ ap (λ n. is_among n path) (same_bytes m x e) ∙ h))
      go false e = e

  module _ (named : (m : List ℕ) (f : Face K) → find m ≡ Holds f → f.«module» ≡ m) (onward : (p n : List ℕ) (f : Face K) → test p ≡ true → find p ≡ Holds f → has n f.imports ≡ true → Passes n) where
    good_entry : (m : List ℕ) → test m ≡ true → (e : Entry K) → find m ≡ e → (b : Bool) (imports : List (List ℕ) → Walked K) → ((f : Face K) → find m ≡ Holds f → Good (imports f.imports)) → Good (at_entry e b imports m)
    good_entry m t Missing e b imports h = tt
    good_entry m t Junk e b imports h = tt
    good_entry m t (Holds f) e false imports h = tt
    good_entry m t (Holds f) e true imports h =
        let n : f.«module» ≡ m = named m f e in
        good_on (imports f.imports) (λ more. Left (more ++ f ∷ [])) (h f e) (λ more k. all_last IsFound more f k (record { found = ap find n ∙ e; passes = ap test n ∙ t }))

    good_visit : (n : ℕ) (path : List (List ℕ)) (m : List ℕ) (left : List (Face K)) → is_among x path ≡ true → Passes m → AllByRecursion IsFound left → Good (visit find n path m left)
    unfolding visit
    good_visit zero path m left r h k = tt
    good_visit (suc n) path m left r h k =
        at (is_passed_over m left) (is_among m path) refl refl
        (λ ms a. good_through (visit find n (m ∷ path)) (λ m1 left1 h1 k1. good_visit n (m ∷ path) m1 left1 (or_second (bytes_eq x m) (is_among x path) r) h1 k1) ms left a k)
      where
        at : (a b : Bool) → is_passed_over m left ≡ a → is_among m path ≡ b → ((ms : List (List ℕ)) → AllByRecursion Passes ms → Good (through (visit find n (m ∷ path)) ms left)) → Good (at_module a b path left (λ _. entering find (through (visit find n (m ∷ path))) path m left))
        at true b e f below = k
        at false true e f below = tt
        at false false e f below =
            let o : bytes_eq m (codes "Out") ≡ false = first_false (bytes_eq m (codes "Out")) (bytes_eq m (codes "SYSTEM")) (first_false (bytes_eq m (codes "Out") || bytes_eq m (codes "SYSTEM")) (list_any (λ g. bytes_eq m g.«module») left) e) in
            let t : test m ≡ true = h (not_root path m r f) o in
            good_entry m t (find m) refl (nat_le (length left + length path) 255) (λ imports. through (visit find n (m ∷ path)) imports left)
            (λ g i. below g.imports (all_there Passes g.imports (λ y j. onward m y g t i j)))

    -- THE WALK
    pub all_found : (imports : List (List ℕ)) (faces : List (Face K)) → ((n : List ℕ) → has n imports ≡ true → Passes n) → walk find x imports ≡ Left faces → AllByRecursion IsFound faces
    all_found imports faces h e = subst Good e (good_through (visit find 257 (x ∷ [])) (λ m left h1 k1. good_visit 257 (x ∷ []) m left (or_first (bytes_eq x x) (is_among x []) (bytes_itself x)) h1 k1) imports [] (all_there Passes imports h) tt)
