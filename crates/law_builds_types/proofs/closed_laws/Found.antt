-- What interfaces show is shown with one more behind them, and so is what that one shows; and nothing else is.
use Rattle.std.proofs.Common.{◌≡◌, ◌⊎◌, inl, inr, ℕ, Bool, true, false, List, [], ◌∷◌, ◌++◌, map as each, Option, Some, None, sym, ap, refl, subst, ◌∙◌}
use Rattle.std.specs.Prelude.{cond, bytes_eq, IsSome, Contains}
use Rattle.ob_tree.specs.declared.names.QName.{QName}
use Rattle.ob_types.specs.declared.desc.Desc.{Desc}
use Rattle.ob_format.specs.Format.{◌>>=◌}
use Rattle.ob_env.specs.Faces.{Face, object_named, face_named, described}
use Rattle.law_simulation_relation.proofs.Names.{bytes_same, bytes_true}
use Rattle.ob_builds.specs.Builds.{Text, Build, shows_of, name_of}
use Rattle.law_builds.proofs.Members.{has_head, has_more}

abbrev in_face : Option (Face Text) → QName → Option Desc
in_face o q = o >>= λ (f : Face Text). object_named f.objects q.object

-- where an interface is the first of some, or the others are asked
abbrev first_or : Bool → Build → List Build → QName → Option Desc
first_or t x xs q = in_face (cond t (Some (shows_of x)) (face_named (each shows_of xs) q.«module»)) q

abbrev shows : List Build → QName → Option Desc
shows xs q = described (each shows_of xs) q

-- what is shown has a module among them
pub named_among : (xs : List Build) (q : QName) → IsSome (described (each shows_of xs) q) → Contains (each name_of xs) q.«module»
named_among [] q h = let bad : false ≡ true = h in absurd cc
named_among (x ∷ xs) q h = by (bytes_eq q.«module» (name_of x)) refl h (named_among xs q)
  where
    by : (t : Bool) → bytes_eq q.«module» (name_of x) ≡ t → IsSome (first_or t x xs q) → (IsSome (shows xs q) → Contains (each name_of xs) q.«module») → Contains (name_of x ∷ each name_of xs) q.«module»
    by true e h f = subst (λ (n : List ℕ). Contains (name_of x ∷ each name_of xs) n) (sym (bytes_true q.«module» (name_of x) e)) (has_head (name_of x) (each name_of xs))
    by false e h f = has_more (name_of x) (each name_of xs) q.«module» (f h)

module _ (P : Option Desc → Type 0) (none : P None → ⊥) where
  pub more_shown : (xs : List Build) (b : Build) (q : QName) → P (described (each shows_of xs) q) → P (described (each shows_of (xs ++ b ∷ [])) q)
  more_shown [] b q h = absurd (none h)
  more_shown (x ∷ xs) b q h = by (bytes_eq q.«module» (name_of x)) h (more_shown xs b q)
    where
      by : (t : Bool) → P (first_or t x xs q) → (P (shows xs q) → P (shows (xs ++ b ∷ []) q)) → P (first_or t x (xs ++ b ∷ []) q)
      by true h f = h
      by false h f = f h

  -- where none of the others has its name
  pub last_shown : (xs : List Build) (b : Build) (q : QName) → (Contains (each name_of xs) (name_of b) → ⊥) → q.«module» ≡ name_of b → P (object_named (shows_of b).objects q.object) → P (described (each shows_of (xs ++ b ∷ [])) q)
  last_shown [] b q new e h = subst (λ (t : Bool). P (first_or t b [] q)) (sym (ap (λ (n : List ℕ). bytes_eq n (name_of b)) e ∙ bytes_same (name_of b))) h
  last_shown (x ∷ xs) b q new e h = by (bytes_eq q.«module» (name_of x)) refl (last_shown xs b q (λ c. new (has_more (name_of x) (each name_of xs) (name_of b) c)) e h)
    where
      by : (t : Bool) → bytes_eq q.«module» (name_of x) ≡ t → P (shows (xs ++ b ∷ []) q) → P (first_or t x (xs ++ b ∷ []) q)
      by true i f = absurd (new (subst (λ (n : List ℕ). Contains (name_of x ∷ each name_of xs) n) (sym (bytes_true q.«module» (name_of x) i) ∙ e) (has_head (name_of x) (each name_of xs))))
      by false i f = f

abbrev IsLast : Build → QName → Desc → Type 0
IsLast b q d = object_named (shows_of b).objects q.object ≡ Some d

-- what is shown with one more behind is shown without it, or is an object of that one
pub shown_either : (xs : List Build) (b : Build) (q : QName) (d : Desc) → described (each shows_of (xs ++ b ∷ [])) q ≡ Some d → (described (each shows_of xs) q ≡ Some d) ⊎ (object_named (shows_of b).objects q.object ≡ Some d)
shown_either [] b q d e = by (bytes_eq q.«module» (name_of b)) e
  where
    by : (t : Bool) → first_or t b [] q ≡ Some d → (shows [] q ≡ Some d) ⊎ IsLast b q d
    by true i = inr i
    by false i = absurd cc
shown_either (x ∷ xs) b q d e = by (bytes_eq q.«module» (name_of x)) e (shown_either xs b q d)
  where
    by : (t : Bool) → first_or t x (xs ++ b ∷ []) q ≡ Some d → (shows (xs ++ b ∷ []) q ≡ Some d → (shows xs q ≡ Some d) ⊎ IsLast b q d) → (first_or t x xs q ≡ Some d) ⊎ IsLast b q d
    by true i f = inl i
    by false i f = f i
