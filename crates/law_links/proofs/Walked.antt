-- No interface of a walk is of Out.
use Rattle.std.proofs.Common.{◌≡◌, ℕ, zero, suc, ◌+◌, Bool, true, false, cond, List, [], ◌∷◌, ◌++◌, length, Some, refl, ap, ◌∙◌}
use Rattle.std.specs.Prelude.{◌||◌, bytes_eq, codes, nat_le}
use Rattle.std.specs.List.{AllByRecursion, list_any}
use Rattle.std.proofs.lemmas.Slice.Eq.{bytes_eq-Decides}
use Rattle.ob_tree.specs.declared.names.QName.{QName}
use Rattle.ob_types.specs.declared.desc.Desc.{Desc}
use Rattle.ob_format.specs.Format.{◌>>=◌}
use Rattle.ob_env.specs.Faces.{Face, object_named, face_named, described}
use Rattle.ob_env_walk.specs.Walk.{Entry, Missing, Junk, Holds, Walked, Left, NoInterface, Damaged, Cycle, TooMany, go_on, is_among, is_passed_over, through, at_entry, at_module, entering, visit, walk}
use Rattle.law_names_procedures.specs.Named.{AreEntriesNamed}
use Rattle.law_load_plan.specs.Compiled.{Text}
use Rattle.law_lists.proofs.Lists.{all_both, first_false}

abbrev pub IsNotOut : Face Text → Type 0
IsNotOut f = bytes_eq f.«module» (codes "Out") ≡ false

abbrev pub AreNotOut : List (Face Text) → Type 0
AreNotOut fs = AllByRecursion IsNotOut fs

abbrev pub LeavesNone : Walked Text → Type 0
LeavesNone (Left fs) = AreNotOut fs
LeavesNone (NoInterface m) = Unit {0}
LeavesNone (Damaged m) = Unit {0}
LeavesNone (Cycle m) = Unit {0}
LeavesNone TooMany = Unit {0}

goes_on : (w : Walked Text) (f : List (Face Text) → Walked Text) → LeavesNone w → ((fs : List (Face Text)) → AreNotOut fs → LeavesNone (f fs)) → LeavesNone (go_on w f)
goes_on (Left fs) f h k = k fs h
goes_on (NoInterface m) f h k = tt
goes_on (Damaged m) f h k = tt
goes_on (Cycle m) f h k = tt
goes_on TooMany f h k = tt

through_none : (at : List ℕ → List (Face Text) → Walked Text) → ((m : List ℕ) (fs : List (Face Text)) → AreNotOut fs → LeavesNone (at m fs)) → (ms : List (List ℕ)) (fs : List (Face Text)) → AreNotOut fs → LeavesNone (through at ms fs)
through_none at h [] fs k = k
through_none at h (m ∷ ms) fs k = goes_on (at m fs) (λ more. through at ms more) (h m fs k) (λ gs l. through_none at h ms gs l)

module _ (entry : List ℕ → Entry Text) (named : AreEntriesNamed entry) where
  entry_none : (m : List ℕ) (e : Entry Text) → entry m ≡ e → bytes_eq m (codes "Out") ≡ false → (has_room : Bool) (imports : List (List ℕ) → Walked Text) → ((ms : List (List ℕ)) → LeavesNone (imports ms)) → LeavesNone (at_entry e has_room imports m)
  entry_none m Missing e o has_room imports h = tt
  entry_none m Junk e o has_room imports h = tt
  entry_none m (Holds f) e o true imports h = goes_on (imports f.imports) (λ more. Left (more ++ f ∷ [])) (h f.imports) (λ fs k. all_both IsNotOut fs (f ∷ []) k (ap (λ n. bytes_eq n (codes "Out")) (named m f e) ∙ o, tt))
  entry_none m (Holds f) e o false imports h = tt

  visit_none : (n : ℕ) (path : List (List ℕ)) (m : List ℕ) (fs : List (Face Text)) → AreNotOut fs → LeavesNone (visit entry n path m fs)
  unfolding visit
  visit_none zero path m fs k = tt
  visit_none (suc n) path m fs k = at (is_passed_over m fs) (is_among m path) refl (λ ms. through_none (visit entry n (m ∷ path)) (visit_none n (m ∷ path)) ms fs k)
    where
      at : (p q : Bool) → is_passed_over m fs ≡ p → ((ms : List (List ℕ)) → LeavesNone (through (visit entry n (m ∷ path)) ms fs)) → LeavesNone (at_module p q path fs (λ _. entering entry (through (visit entry n (m ∷ path))) path m fs))
      at true q e below = k
      at false true e below = tt
      at false false e below =
          entry_none m (entry m) refl (first_false (bytes_eq m (codes "Out")) (bytes_eq m (codes "SYSTEM")) (first_false (bytes_eq m (codes "Out") || bytes_eq m (codes "SYSTEM")) (list_any (λ f. bytes_eq m f.«module») fs) e)) (nat_le (length fs + length path) 255) (λ imports. through (visit entry n (m ∷ path)) imports fs) below

  pub walk_none : (root : List ℕ) (imports : List (List ℕ)) → LeavesNone (walk entry root imports)
  walk_none root imports = through_none (visit entry 257 (root ∷ [])) (visit_none 257 (root ∷ [])) imports [] tt

-- what is described is not of Out
pub not_of_out : (fs : List (Face Text)) → AreNotOut fs → (q : QName) (d : Desc) → described fs q ≡ Some d → bytes_eq q.«module» (codes "Out") ≡ false
not_of_out [] k q d e = absurd cc
not_of_out (f ∷ fs) k q d e = by (bytes_eq q.«module» f.«module») refl (λ i. not_of_out fs k.1 q d i) e
  where
    by : (b : Bool) → bytes_eq q.«module» f.«module» ≡ b → (described fs q ≡ Some d → bytes_eq q.«module» (codes "Out") ≡ false) → (cond b (Some f) (face_named fs q.«module») >>= λ g. object_named g.objects q.object) ≡ Some d → bytes_eq q.«module» (codes "Out") ≡ false
    by true i more e = ap (λ n. bytes_eq n (codes "Out")) ((bytes_eq-Decides q.«module» f.«module»).0 i) ∙ k.0
    by false i more e = more e
