-- No walk leaves an interface of Out, or of the module at its root.
use Rattle.std.proofs.Common.{◌≡◌, ℕ, zero, suc, List, [], ◌∷◌, ◌++◌, Bool, true, false, cond, Some, refl, sym, ap, ◌∙◌, inl, inr}
use Rattle.std.specs.Prelude.{◌⊎◌, ◌||◌, bytes_eq, nat_le, length, ◌+◌, codes, map as each}
use Rattle.std.specs.List.{AllByRecursion, list_any}
use Rattle.std.specs.Cmp.Lexicographic.{bytes_decides}
use Rattle.ob_env.specs.Faces.{Face, face_named}
use Rattle.ob_env_walk.specs.Walk.{Entry, Missing, Junk, Holds, Walked, Left, NoInterface, Damaged, Cycle, TooMany, go_on, is_among, is_passed_over, through, entered, at_entry, at_module, entering, visit, walk}
use Rattle.ob_uses.proofs.Sorting.{Has, has}
use Rattle.ob_builds.specs.Builds.{Text, entry_of}
use Rattle.law_local_files.specs.Laws.{HaveNoOut}
use Rattle.law_lists.proofs.Lists.{all_both, all_from}

-- what is found for a name is of it
abbrev pub AreNamed : (List ℕ → Entry Text) → Type 0
AreNamed find = (n : List ℕ) (f : Face Text) → find n ≡ Holds f → f.«module» ≡ n

-- an interface neither of Out nor of the module at the root of the walk
pub record IsBelow (root : List ℕ) (f : Face Text) : Type 0 where
  pub out : bytes_eq f.«module» (codes "Out") ≡ false
  pub other : bytes_eq f.«module» root ≡ false

not_first : (a b c : Bool) → (a || b) || c ≡ false → a ≡ false
not_first true b c e = absurd cc
not_first false b c e = refl

module _ (root : List ℕ) where
  abbrev AreBelow : List (Face Text) → Type 0
  AreBelow faces = AllByRecursion (IsBelow root) faces

  abbrev pub LeavesBelow : Walked Text → Type 0
  LeavesBelow (Left faces) = AllByRecursion (IsBelow root) faces
  LeavesBelow (NoInterface m) = Unit {0}
  LeavesBelow (Damaged m) = Unit {0}
  LeavesBelow (Cycle m) = Unit {0}
  LeavesBelow TooMany = Unit {0}

  go_below : (w : Walked Text) (f : List (Face Text) → Walked Text) → LeavesBelow w → ((more : List (Face Text)) → AreBelow more → LeavesBelow (f more)) → LeavesBelow (go_on w f)
  go_below (Left faces) f c h = h faces c
  go_below (NoInterface m) f c h = tt
  go_below (Damaged m) f c h = tt
  go_below (Cycle m) f c h = tt
  go_below TooMany f c h = tt

  through_below : (at : List ℕ → List (Face Text) → Walked Text) → ((m : List ℕ) (left : List (Face Text)) → AreBelow left → LeavesBelow (at m left)) → (ms : List (List ℕ)) (left : List (Face Text)) → AreBelow left → LeavesBelow (through at ms left)
  through_below at h [] left c = c
  through_below at h (m ∷ ms) left c = go_below (at m left) (λ more. through at ms more) (h m left c) (λ more d. through_below at h ms more d)

  entered_below : (b : Bool) (imports : List (List ℕ) → Walked Text) (f : Face Text) → IsBelow root f → ((ms : List (List ℕ)) → LeavesBelow (imports ms)) → LeavesBelow (entered b imports f)
  entered_below true imports f n h = go_below (imports f.imports) (λ more. Left (more ++ f ∷ [])) (h f.imports) (λ more c. all_both (IsBelow root) more (f ∷ []) c (n, tt))
  entered_below false imports f n h = tt

  entry_below : (e : Entry Text) (b : Bool) (imports : List (List ℕ) → Walked Text) (m : List ℕ) → ((f : Face Text) → e ≡ Holds f → IsBelow root f) → ((ms : List (List ℕ)) → LeavesBelow (imports ms)) → LeavesBelow (at_entry e b imports m)
  entry_below Missing b imports m n h = tt
  entry_below Junk b imports m n h = tt
  entry_below (Holds f) b imports m n h = entered_below b imports f (n f refl) h

  module_below : (b c : Bool) (path : List (List ℕ)) (left : List (Face Text)) (enter : Unit {0} → Walked Text) → AreBelow left → (b ≡ false → c ≡ false → LeavesBelow (enter tt)) → LeavesBelow (at_module b c path left enter)
  module_below true c path left enter n h = n
  module_below false true path left enter n h = tt
  module_below false false path left enter n h = h refl refl

  -- a name that is not on the path is not that of the root, which is
  off_path : (m : List ℕ) (path : List (List ℕ)) → is_among root path ≡ true → is_among m path ≡ false → bytes_eq m root ≡ false
  off_path m path there off = go (bytes_eq m root) refl
    where
      go : (b : Bool) → bytes_eq m root ≡ b → bytes_eq m root ≡ false
      go true e = let never : true ≡ false = sym there ∙ ap (λ n. is_among n path) (sym ((bytes_decides m root).0 e)) ∙ off in absurd cc
      go false e = e

  or_true : (a b : Bool) → b ≡ true → (a || b) ≡ true
  or_true true b e = refl
  or_true false b e = e

  visit_below : (find : List ℕ → Entry Text) → AreNamed find → (n : ℕ) (path : List (List ℕ)) → is_among root path ≡ true → (m : List ℕ) (left : List (Face Text)) → AreBelow left → LeavesBelow (visit find n path m left)
  unfolding visit
  visit_below find named zero path there m left c = tt
  visit_below find named (suc n) path there m left c =
      module_below (is_passed_over m left) (is_among m path) path left (λ _. entering find (through (visit find n (m ∷ path))) path m left) c
      (λ e o. entry_below (find m) (nat_le (length left + length path) 255) (λ imports. through (visit find n (m ∷ path)) imports left) m
      (λ f h. record {
        out = ap (λ k. bytes_eq k (codes "Out")) (named m f h) ∙ not_first (bytes_eq m (codes "Out")) (bytes_eq m (codes "SYSTEM")) (list_any (λ f. bytes_eq m f.«module») left) e;
        other = ap (λ k. bytes_eq k root) (named m f h) ∙ off_path m path there o;
      })
      (λ imports. through_below (visit find n (m ∷ path)) (λ k more d. visit_below find named n (m ∷ path) (or_true (bytes_eq root m) (is_among root path) there) k more d) imports left c))

  pub walk_below : (find : List ℕ → Entry Text) → AreNamed find → (imports : List (List ℕ)) → LeavesBelow (walk find root imports)
  walk_below find named imports = through_below (visit find 257 (root ∷ [])) (λ m left c. visit_below find named 257 (root ∷ []) (ap (λ b. b || false) ((bytes_decides root root).1 refl)) m left c) imports [] tt

-- ---- what a walk that leaves interfaces starts from

-- one of the names that no file has
abbrev pub is_built_in : List ℕ → Bool
is_built_in m = bytes_eq m (codes "Out") || bytes_eq m (codes "SYSTEM")

-- not the root, where it is not built in
abbrev pub IsNoRoot : List ℕ → List ℕ → Type 0
IsNoRoot root m = is_built_in m ≡ false → bytes_eq m root ≡ false

second : (a b : Bool) → (a || b) ≡ true → a ≡ false → b ≡ true
second true b e f = absurd cc
second false b e f = e

module _ (root : List ℕ) (find : List ℕ → Entry Text) (named : AreNamed find) where
  any_other : (m : List ℕ) (left : List (Face Text)) → AllByRecursion (IsBelow root) left → list_any (λ f. bytes_eq m f.«module») left ≡ true → bytes_eq m root ≡ false
  any_other m [] h e = absurd cc
  any_other m (f ∷ fs) h e = go (bytes_eq m f.«module») refl e (any_other m fs h.1)
    where
      go : (b : Bool) → bytes_eq m f.«module» ≡ b → (b || list_any (λ f. bytes_eq m f.«module») fs) ≡ true → (list_any (λ f. bytes_eq m f.«module») fs ≡ true → bytes_eq m root ≡ false) → bytes_eq m root ≡ false
      go true i e rest = ap (λ x. bytes_eq x root) ((bytes_decides m f.«module»).0 i) ∙ h.0.other
      go false i e rest = rest e

  either_way : (p o : Bool) (path : List (List ℕ)) (left more : List (Face Text)) (enter : Unit {0} → Walked Text) → at_module p o path left enter ≡ Left more → (p ≡ true) ⊎ (o ≡ false)
  either_way true o path left more enter e = inl refl
  either_way false true path left more enter e = absurd cc
  either_way false false path left more enter e = inr refl

  step_other : (n : ℕ) (path : List (List ℕ)) → is_among root path ≡ true → (m : List ℕ) (left more : List (Face Text)) → AllByRecursion (IsBelow root) left → visit find n path m left ≡ Left more → IsNoRoot root m
  unfolding visit
  step_other zero path r m left more h e = absurd cc
  step_other (suc n) path r m left more h e = go (either_way (is_passed_over m left) (is_among m path) path left more _ e)
    where
      go : (is_passed_over m left ≡ true) ⊎ (is_among m path ≡ false) → IsNoRoot root m
      go (inl p) = λ b. any_other m left h (second (is_built_in m) (list_any (λ f. bytes_eq m f.«module») left) p b)
      go (inr o) = λ b. off_path root m path r o

  through_other : (n : ℕ) (path : List (List ℕ)) → is_among root path ≡ true → (ms : List (List ℕ)) (left more : List (Face Text)) → AllByRecursion (IsBelow root) left → through (visit find n path) ms left ≡ Left more → AllByRecursion (IsNoRoot root) ms
  through_other n path r [] left more h e = tt
  through_other n path r (m ∷ ms) left more h e = go (visit find n path m left) refl (visit_below root find named n path r m left h) e (λ l a k. through_other n path r ms l more a k)
    where
      go : (w : Walked Text) → visit find n path m left ≡ w → LeavesBelow root w → go_on w (λ l. through (visit find n path) ms l) ≡ Left more → ((l : List (Face Text)) → AllByRecursion (IsBelow root) l → through (visit find n path) ms l ≡ Left more → AllByRecursion (IsNoRoot root) ms) → AllByRecursion (IsNoRoot root) (m ∷ ms)
      go (Left l) i a e rest = (step_other n path r m left l h i, rest l a e)
      go (NoInterface x) i a e rest = absurd cc
      go (Damaged x) i a e rest = absurd cc
      go (Cycle x) i a e rest = absurd cc
      go TooMany i a e rest = absurd cc

  pub walk_other : (imports : List (List ℕ)) (more : List (Face Text)) → walk find root imports ≡ Left more → AllByRecursion (IsNoRoot root) imports
  walk_other imports more e = through_other 257 (root ∷ []) (ap (λ b. b || false) ((bytes_decides root root).1 refl)) imports [] more tt e

-- ---- the interfaces of a build by name

held_or : Face Text → Entry Text → Face Text
held_or d (Holds f) = f
held_or d Missing = d
held_or d Junk = d

pub only_named : (fs : List (Face Text)) (n : List ℕ) (f : Face Text) → entry_of (face_named fs n) ≡ Holds f → f.«module» ≡ n
unfolding held_or
only_named [] n f e = absurd cc
only_named (g ∷ fs) n f e = go (bytes_eq n g.«module») refl (only_named fs n f) e
  where
    go : (b : Bool) → bytes_eq n g.«module» ≡ b → (entry_of (face_named fs n) ≡ Holds f → f.«module» ≡ n) → entry_of (cond b (Some g) (face_named fs n)) ≡ Holds f → f.«module» ≡ n
    go true i more h = ap (λ (k : Face Text). k.«module») (sym (ap (held_or g) h)) ∙ sym ((bytes_decides n g.«module»).0 i)
    go false i more h = more h

-- no interface of that name is there
not_there : (fs : List (Face Text)) (m : List ℕ) → AllByRecursion (λ f. bytes_eq f.«module» m ≡ false) fs → Has m (each (λ f. f.«module») fs) → ⊥
unfolding Has
not_there [] m c h = h
not_there (f ∷ fs) m c (inl e) = let never : true ≡ false = sym ((bytes_decides f.«module» m).1 (sym e)) ∙ c.0 in absurd cc
not_there (f ∷ fs) m c (inr h) = not_there fs m c.1 h

pub have_none : (root : List ℕ) (fs : List (Face Text)) → AllByRecursion (IsBelow root) fs → HaveNoOut fs
have_none root fs c h = not_there fs (codes "Out") (all_from (IsBelow root) (λ f. bytes_eq f.«module» (codes "Out") ≡ false) (λ f b. b.out) fs c) (has (each (λ f. f.«module») fs) (codes "Out") h)

pub have_no_root : (root : List ℕ) (fs : List (Face Text)) → AllByRecursion (IsBelow root) fs → Has root (each (λ f. f.«module») fs) → ⊥
have_no_root root fs c h = not_there fs root (all_from (IsBelow root) (λ f. bytes_eq f.«module» root ≡ false) (λ f b. b.other) fs c) h
