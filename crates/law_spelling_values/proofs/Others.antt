-- A walk that leaves interfaces has met no import of the module from which it starts.
use Rattle.std.proofs.Common.{◌≡◌, ◌⊎◌, inl, inr, ℕ, zero, suc, Bool, true, false, List, [], ◌∷◌, refl, sym, subst, codes}
use Rattle.std.specs.Prelude.{◌||◌, bytes_eq}
use Rattle.std.specs.List.{AllByRecursion, list_any}
use Rattle.std.proofs.lemmas.Bool.{false≢true}
use Rattle.std.proofs.lemmas.Slice.Eq.{bytes_eq-Decides}
use Rattle.ob_env.specs.Faces.{Face}
use Rattle.ob_env_walk.specs.Walk.{Entry, Walked, Left, NoInterface, Damaged, Cycle, TooMany, go_on, is_among, is_passed_over, through, at_module, visit, walk}
use Rattle.law_spelling.specs.Laws.{Text}
use Rattle.law_spelling.specs.Seen.{AreNamedEntries}
use Rattle.law_spelling.proofs.Walked.{LeavesApart, AreApart, visit_apart, other, itself}

-- one of the names that no file has
abbrev pub is_built_in : List ℕ → Bool
is_built_in m = bytes_eq m (codes "Out") || bytes_eq m (codes "SYSTEM")

abbrev pub IsOther : List ℕ → List ℕ → Type 0
IsOther root m = is_built_in m ≡ false → bytes_eq m root ≡ false

second : (a b : Bool) → a || b ≡ true → a ≡ false → b ≡ true
second true b e f = absurd (false≢true (sym f))
second false b e f = e

module _ (root : List ℕ) (find : List ℕ → Entry Text) (named : AreNamedEntries find) where
  any_other : (m : List ℕ) (left : List (Face Text)) → AreApart root find named left → list_any (λ f. bytes_eq m f.«module») left ≡ true → bytes_eq m root ≡ false
  any_other m [] h e = absurd (false≢true e)
  any_other m (f ∷ fs) h e = go (bytes_eq m f.«module») refl e (any_other m fs h.1)
    where
      go : (b : Bool) → bytes_eq m f.«module» ≡ b → b || list_any (λ f. bytes_eq m f.«module») fs ≡ true → (list_any (λ f. bytes_eq m f.«module») fs ≡ true → bytes_eq m root ≡ false) → bytes_eq m root ≡ false
      go true i e rest = subst (λ (x : List ℕ). bytes_eq x root ≡ false) (sym ((bytes_eq-Decides m f.«module»).0 i)) h.0
      go false i e rest = rest e

  passed_other : (m : List ℕ) (left : List (Face Text)) → AreApart root find named left → is_passed_over m left ≡ true → IsOther root m
  passed_other m left h e b = any_other m left h (second (is_built_in m) (list_any (λ f. bytes_eq m f.«module») left) e b)

  either_way : (p o : Bool) (path : List (List ℕ)) (left more : List (Face Text)) (enter : Unit {0} → Walked Text) → at_module p o path left enter ≡ Left more → (p ≡ true) ⊎ (o ≡ false)
  either_way true o path left more enter e = inl refl
  either_way false true path left more enter e = absurd cc
  either_way false false path left more enter e = inr refl

  step_other : (n : ℕ) (path : List (List ℕ)) → is_among root path ≡ true → (m : List ℕ) (left more : List (Face Text)) → AreApart root find named left → visit find n path m left ≡ Left more → IsOther root m
  unfolding visit
  step_other zero path r m left more h e = absurd cc
  step_other (suc n) path r m left more h e = go (either_way (is_passed_over m left) (is_among m path) path left more _ e)
    where
      go : (is_passed_over m left ≡ true) ⊎ (is_among m path ≡ false) → IsOther root m
      go (inl p) = passed_other m left h p
      go (inr o) = λ b. other root find named path m r o

  through_other : (n : ℕ) (path : List (List ℕ)) → is_among root path ≡ true → (ms : List (List ℕ)) (left more : List (Face Text)) → AreApart root find named left → through (visit find n path) ms left ≡ Left more → AllByRecursion (IsOther root) ms
  through_other n path r [] left more h e = tt
  through_other n path r (m ∷ ms) left more h e = go (visit find n path m left) refl (visit_apart root find named n path r m left h) e (λ l a k. through_other n path r ms l more a k)
    where
      go : (w : Walked Text) → visit find n path m left ≡ w → LeavesApart root find named w → go_on w (λ l. through (visit find n path) ms l) ≡ Left more → ((l : List (Face Text)) → AreApart root find named l → through (visit find n path) ms l ≡ Left more → AllByRecursion (IsOther root) ms) → AllByRecursion (IsOther root) (m ∷ ms)
      go (Left l) i a e rest = (step_other n path r m left l h i, rest l a e)
      go (NoInterface x) i a e rest = absurd cc
      go (Damaged x) i a e rest = absurd cc
      go (Cycle x) i a e rest = absurd cc
      go TooMany i a e rest = absurd cc

  pub walk_other : (imports : List (List ℕ)) (more : List (Face Text)) → walk find root imports ≡ Left more → AllByRecursion (IsOther root) imports
  walk_other imports more e = through_other 257 (root ∷ []) (itself root find named) imports [] more tt e
