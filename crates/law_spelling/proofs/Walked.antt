-- A walk leaves no interface of the module from which it starts.
use Rattle.std.proofs.Common.{◌≡◌, ℕ, zero, suc, ◌+◌, Bool, true, false, List, [], ◌∷◌, ◌++◌, length, refl, sym, ap, subst, ◌∙◌}
use Rattle.std.specs.Prelude.{◌||◌, nat_le, bytes_eq}
use Rattle.std.specs.List.{AllByRecursion}
use Rattle.std.proofs.lemmas.Bool.{false≢true}
use Rattle.std.proofs.lemmas.Slice.Eq.{bytes_eq-Decides}
use Rattle.ob_env.specs.Faces.{Face}
use Rattle.ob_env_walk.specs.Walk.{Entry, Missing, Junk, Holds, Walked, Left, NoInterface, Damaged, Cycle, TooMany, go_on, is_among, is_passed_over, through, entered, at_entry, at_module, visit, walk}
use Rattle.law_spelling.specs.Laws.{Text}
use Rattle.law_spelling.specs.Seen.{AreNamedEntries}
use Rattle.law_lists.proofs.Lists.{all_both}

module _ (root : List ℕ) (find : List ℕ → Entry Text) (named : AreNamedEntries find) where
  abbrev pub IsApart : Face Text → Type 0
  IsApart f = bytes_eq f.«module» root ≡ false

  abbrev pub AreApart : List (Face Text) → Type 0
  AreApart fs = AllByRecursion IsApart fs

  abbrev pub LeavesApart : Walked Text → Type 0
  LeavesApart (Left faces) = AreApart faces
  LeavesApart w = Unit {0}

  go_apart : (w : Walked Text) (f : List (Face Text) → Walked Text) → LeavesApart w → ((fs : List (Face Text)) → AreApart fs → LeavesApart (f fs)) → LeavesApart (go_on w f)
  go_apart (Left faces) f h k = k faces h
  go_apart (NoInterface m) f h k = tt
  go_apart (Damaged m) f h k = tt
  go_apart (Cycle m) f h k = tt
  go_apart TooMany f h k = tt

  abbrev KeepsApart : (List ℕ → List (Face Text) → Walked Text) → Type 0
  KeepsApart at = (m : List ℕ) (left : List (Face Text)) → AreApart left → LeavesApart (at m left)

  through_apart : (at : List ℕ → List (Face Text) → Walked Text) → KeepsApart at → (ms : List (List ℕ)) (left : List (Face Text)) → AreApart left → LeavesApart (through at ms left)
  through_apart at k [] left h = h
  through_apart at k (m ∷ ms) left h = go_apart (at m left) (λ more. through at ms more) (k m left h) (λ more a. through_apart at k ms more a)

  -- a module that is not on the path is another one than the first
  pub other : (path : List (List ℕ)) (m : List ℕ) → is_among root path ≡ true → is_among m path ≡ false → bytes_eq m root ≡ false
  other path m r n = go (bytes_eq m root) refl
    where
      go : (b : Bool) → bytes_eq m root ≡ b → b ≡ false
      go false e = refl
      go true e =
          let same : m ≡ root = (bytes_eq-Decides m root).0 e in
          absurd (false≢true (sym n ∙ ap (λ x. is_among x path) same ∙ r))

  entered_apart : (b : Bool) (imports : List (List ℕ) → Walked Text) (face : Face Text) → ((ms : List (List ℕ)) → LeavesApart (imports ms)) → IsApart face → LeavesApart (entered b imports face)
  entered_apart true imports face k a = go_apart (imports face.imports) (λ more. Left (more ++ face ∷ [])) (k face.imports) (λ more h. all_both IsApart more (face ∷ []) h (a, tt))
  entered_apart false imports face k a = tt

  entry_apart : (e : Entry Text) (b : Bool) (imports : List (List ℕ) → Walked Text) (m : List ℕ) → ((ms : List (List ℕ)) → LeavesApart (imports ms)) → ((f : Face Text) → e ≡ Holds f → IsApart f) → LeavesApart (at_entry e b imports m)
  entry_apart Missing b imports m k a = tt
  entry_apart Junk b imports m k a = tt
  entry_apart (Holds f) b imports m k a = entered_apart b imports f k (a f refl)

  at_apart : (p o : Bool) (path : List (List ℕ)) (left : List (Face Text)) (enter : Unit {0} → Walked Text) → AreApart left → (o ≡ false → LeavesApart (enter tt)) → LeavesApart (at_module p o path left enter)
  at_apart true o path left enter h k = h
  at_apart false true path left enter h k = tt
  at_apart false false path left enter h k = k refl

  among_more : (m : List ℕ) (path : List (List ℕ)) → is_among root path ≡ true → is_among root (m ∷ path) ≡ true
  among_more m path e = go (bytes_eq root m)
    where
      go : (b : Bool) → (b || is_among root path) ≡ true
      go true = refl
      go false = e

  pub visit_apart : (n : ℕ) (path : List (List ℕ)) → is_among root path ≡ true → KeepsApart (visit find n path)
  unfolding visit
  visit_apart zero path r m left h = tt
  visit_apart (suc n) path r m left h =
      at_apart (is_passed_over m left) (is_among m path) path left _ h
      (λ o. entry_apart (find m) (nat_le (length left + length path) 255) (λ imports. through (visit find n (m ∷ path)) imports left) m
      (λ ms. through_apart (visit find n (m ∷ path)) (visit_apart n (m ∷ path) (among_more m path r)) ms left h)
      (λ f e. subst (λ (x : List ℕ). bytes_eq x root ≡ false) (named m f e) (other path m r o)))

  pub itself : is_among root (root ∷ []) ≡ true
  itself = ap (λ b. b || false) ((bytes_eq-Decides root root).1 refl)

  pub walk_apart : (imports : List (List ℕ)) → LeavesApart (walk find root imports)
  walk_apart imports = through_apart (visit find 257 (root ∷ [])) (visit_apart 257 (root ∷ []) itself) imports [] tt
