-- The interfaces of a compile: none has the module's name, and what they show as a pointer's base they show.
use Rattle.std.proofs.Common.{◌≡◌, ℕ, zero, suc, ◌+◌, Bool, true, false, cond, List, [], ◌∷◌, ◌++◌, length, Option, Some, None, refl, sym, ap, subst, ◌∙◌}
use Rattle.std.specs.Prelude.{◌||◌, bytes_eq, is_some, nat_le}
use Rattle.std.specs.Option.{option_map}
use Rattle.std.specs.List.{AllByRecursion}
use Rattle.std.proofs.lemmas.Bool.{false≢true, and_parts}
use Rattle.std.proofs.lemmas.Slice.Eq.{bytes_eq-Decides}
use Rattle.ob_tree.specs.declared.names.QName.{QName}
use Rattle.ob_types.specs.declared.types.TypeRef.{TypeRef}
use Rattle.ob_types.specs.declared.types.TypeRef.TheVariants as ref
use Rattle.ob_types.specs.declared.desc.Desc.{Desc}
use Rattle.ob_types.specs.declared.desc.Desc.TheVariants as desc
use Rattle.ob_types.specs.AssigningTests.{described as is_described}
use Rattle.ob_types.specs.Maps.{is_type}
use Rattle.ob_types.specs.Tests.{pointer_of}
use Rattle.ob_format.specs.Format.{◌>>=◌}
use Rattle.ob_layout.specs.Lists.{or_else}
use Rattle.ob_env.specs.Faces.{Face, object_named, face_named, described}
use Rattle.ob_env.specs.Stale.{first_among}
use Rattle.ob_env.specs.Fit.{is_held, names_types, fits, steps_of, unless, misfit, first_unfit}
use Rattle.ob_env.specs.Shown.{blank, shown}
use Rattle.ob_env_walk.specs.Walk.{Entry, Missing, Junk, Holds, Walked, Left, NoInterface, Damaged, Cycle, TooMany, go_on, is_among, is_passed_over, through, at_entry, at_module, entering, visit, walk}
use Rattle.law_names_procedures.specs.Procedures.{IsShown, ShowBases}
use Rattle.law_names_procedures.specs.Named.{AreEntriesNamed}
use Rattle.law_lists.proofs.Lists.{all_both}

abbrev Text : Type 0
Text = List ℕ

-- ---- the walk never leaves the module itself

module _ (entry : List ℕ → Entry Text) (named : AreEntriesNamed entry) (root : List ℕ) where
  abbrev pub IsOther : Face Text → Type 0
  IsOther f = bytes_eq f.«module» root ≡ false

  abbrev pub AreOthers : List (Face Text) → Type 0
  AreOthers fs = AllByRecursion IsOther fs

  abbrev pub LeavesOthers : Walked Text → Type 0
  LeavesOthers (Left fs) = AreOthers fs
  LeavesOthers (NoInterface m) = Unit {0}
  LeavesOthers (Damaged m) = Unit {0}
  LeavesOthers (Cycle m) = Unit {0}
  LeavesOthers TooMany = Unit {0}

  goes_on : (w : Walked Text) (f : List (Face Text) → Walked Text) → LeavesOthers w → ((fs : List (Face Text)) → AreOthers fs → LeavesOthers (f fs)) → LeavesOthers (go_on w f)
  goes_on (Left fs) f h k = k fs h
  goes_on (NoInterface m) f h k = tt
  goes_on (Damaged m) f h k = tt
  goes_on (Cycle m) f h k = tt
  goes_on TooMany f h k = tt

  through_others : (at : List ℕ → List (Face Text) → Walked Text) → ((m : List ℕ) (fs : List (Face Text)) → AreOthers fs → LeavesOthers (at m fs)) → (ms : List (List ℕ)) (fs : List (Face Text)) → AreOthers fs → LeavesOthers (through at ms fs)
  through_others at h [] fs k = k
  through_others at h (m ∷ ms) fs k = goes_on (at m fs) (λ more. through at ms more) (h m fs k) (λ gs l. through_others at h ms gs l)

  other_of : (m : List ℕ) (path : List (List ℕ)) → is_among root path ≡ true → is_among m path ≡ false → bytes_eq m root ≡ false
  other_of m path h k = go (bytes_eq m root) refl
    where
      go : (b : Bool) → bytes_eq m root ≡ b → b ≡ false
      go false e = refl
      go true e = absurd (false≢true (sym k ∙ (ap (λ n. is_among n path) ((bytes_eq-Decides m root).0 e) ∙ h)))

  or_true : (a b : Bool) → b ≡ true → (a || b) ≡ true
  or_true true b e = refl
  or_true false b e = e

  entry_others : (m : List ℕ) (e : Entry Text) → entry m ≡ e → bytes_eq m root ≡ false → (has_room : Bool) (imports : List (List ℕ) → Walked Text) → ((ms : List (List ℕ)) → LeavesOthers (imports ms)) → LeavesOthers (at_entry e has_room imports m)
  entry_others m Missing e o has_room imports h = tt
  entry_others m Junk e o has_room imports h = tt
  entry_others m (Holds f) e o true imports h = goes_on (imports f.imports) (λ more. Left (more ++ f ∷ [])) (h f.imports) (λ fs k. all_both IsOther fs (f ∷ []) k (ap (λ n. bytes_eq n root) (named m f e) ∙ o, tt))
  entry_others m (Holds f) e o false imports h = tt

  visit_others : (n : ℕ) (path : List (List ℕ)) → is_among root path ≡ true → (m : List ℕ) (fs : List (Face Text)) → AreOthers fs → LeavesOthers (visit entry n path m fs)
  unfolding visit
  visit_others zero path h m fs k = tt
  visit_others (suc n) path h m fs k = at (is_passed_over m fs) (is_among m path) refl (λ ms. through_others (visit entry n (m ∷ path)) (visit_others n (m ∷ path) (or_true (bytes_eq root m) (is_among root path) h)) ms fs k)
    where
      at : (p q : Bool) → is_among m path ≡ q → ((ms : List (List ℕ)) → LeavesOthers (through (visit entry n (m ∷ path)) ms fs)) → LeavesOthers (at_module p q path fs (λ _. entering entry (through (visit entry n (m ∷ path))) path m fs))
      at true q e below = k
      at false true e below = tt
      at false false e below = entry_others m (entry m) refl (other_of m path h e) (nat_le (length fs + length path) 255) (λ imports. through (visit entry n (m ∷ path)) imports fs) below

  pub walk_others : (imports : List (List ℕ)) → LeavesOthers (walk entry root imports)
  walk_others imports = through_others (visit entry 257 (root ∷ [])) (visit_others 257 (root ∷ []) (ap (λ b. b || false) ((bytes_eq-Decides root root).1 refl))) imports [] tt

-- ---- what fits

or_none : {A : Type 0} (o p : Option A) → or_else o p ≡ None → (o ≡ None) × (p ≡ None)
or_none None p e = (refl, e)
or_none (Some a) p e = absurd cc

fit_if : (b : Bool) (q : QName) → unless b q ≡ None → b ≡ true
fit_if true q e = refl
fit_if false q e = absurd cc

module _ (types : QName → Option Desc) (steps : ℕ) where
  -- the description names types that are there
  abbrev Names : Desc → Type 0
  Names d = names_types types steps d ≡ true

  object_names : (m : List ℕ) (os : List (List ℕ × Desc)) (x : List ℕ) (d : Desc) → first_among (misfit types steps m) os ≡ None → object_named os x ≡ Some d → Names d
  object_names m [] x d none e = absurd cc
  object_names m (o ∷ os) x d none e =
      let parts = or_none (misfit types steps m o) (first_among (misfit types steps m) os) none in
      let q : QName = record { «module» = m; object = o.0 } in
      go (bytes_eq x o.0) (and_parts (names_types types steps o.1) _ (fit_if (fits types steps q o.1) q parts.0)).0 (λ i. object_names m os x d parts.1 i) e
    where
      go : (b : Bool) → Names o.1 → (object_named os x ≡ Some d → Names d) → cond b (Some o.1) (object_named os x) ≡ Some d → Names d
      go true h more e = let i : o.1 ≡ d = cc in subst Names i h
      go false h more e = more e

  faces_name : (fs : List (Face Text)) (q : QName) (d : Desc) → first_among (λ (f : Face Text). first_among (misfit types steps f.«module») f.objects) fs ≡ None → (face_named fs q.«module» >>= λ g. object_named g.objects q.object) ≡ Some d → Names d
  faces_name [] q d none e = absurd cc
  faces_name (f ∷ fs) q d none e =
      let parts = or_none (first_among (misfit types steps f.«module») f.objects) (first_among (λ (f : Face Text). first_among (misfit types steps f.«module») f.objects) fs) none in
      go (bytes_eq q.«module» f.«module») (λ i. object_names f.«module» f.objects q.object d parts.0 i) (λ i. faces_name fs q d parts.1 i) e
    where
      go : (b : Bool) → (object_named f.objects q.object ≡ Some d → Names d) → ((face_named fs q.«module» >>= λ g. object_named g.objects q.object) ≡ Some d → Names d) → (cond b (Some f) (face_named fs q.«module») >>= λ g. object_named g.objects q.object) ≡ Some d → Names d
      go true here more e = here e
      go false here more e = more e

other_named : (root : List ℕ) (fs : List (Face Text)) → AllByRecursion (λ (f : Face Text). bytes_eq f.«module» root ≡ false) fs → (m : List ℕ) (f : Face Text) → face_named fs m ≡ Some f → bytes_eq m root ≡ false
other_named root [] k m f e = absurd cc
other_named root (g ∷ fs) k m f e = go (bytes_eq m g.«module») refl (λ i. other_named root fs k.1 m f i) e
  where
    go : (b : Bool) → bytes_eq m g.«module» ≡ b → (face_named fs m ≡ Some f → bytes_eq m root ≡ false) → cond b (Some g) (face_named fs m) ≡ Some f → bytes_eq m root ≡ false
    go true i more e = ap (λ n. bytes_eq n root) ((bytes_eq-Decides m g.«module»).0 i) ∙ k.0
    go false i more e = more e

described_some : (o : Option Desc) → is_described is_type o ≡ true → is_some (option_map blank o) ≡ true
described_some None e = absurd (false≢true e)
described_some (Some d) e = refl

face_there : (fs : List (Face Text)) (p : QName) (o : Option (Face Text)) → face_named fs p.«module» ≡ o → is_described is_type (o >>= λ g. object_named g.objects p.object) ≡ true → (f : Face Text) × (face_named fs p.«module» ≡ Some f)
face_there fs p None e h = absurd (false≢true h)
face_there fs p (Some f) e h = (f, e)

module _ (root : List ℕ) (fs : List (Face Text)) (others : AllByRecursion (λ (f : Face Text). bytes_eq f.«module» root ≡ false) fs) (fit : first_unfit fs ≡ None) where
  base_shown : (b : TypeRef) → is_held (described fs) (steps_of fs) b ≡ true → IsShown (shown fs) root b
  base_shown (ref.Basic b) h = tt
  base_shown (ref.Named p) h =
      let f = face_there fs p (face_named fs p.«module») refl h in
      (other_named root fs others p.«module» f.0 f.1, described_some (described fs p) h)

  desc_shown : (d : Desc) (b : TypeRef) → names_types (described fs) (steps_of fs) d ≡ true → pointer_of (Some (blank d)) ≡ Some b → IsShown (shown fs) root b
  desc_shown (desc.Pointer m t) b h e = let i : t ≡ b = cc in subst (IsShown (shown fs) root) i (base_shown t (and_parts (is_held (described fs) (steps_of fs) t) true h).0)
  desc_shown (desc.Const x) b h e = absurd cc
  desc_shown (desc.Var m t) b h e = absurd cc
  desc_shown (desc.Proc s) b h e = absurd cc
  desc_shown (desc.Alias m t) b h e = absurd cc
  desc_shown (desc.Array m n t) b h e = absurd cc
  desc_shown (desc.OpenArray m t) b h e = absurd cc
  desc_shown (desc.ProcType m s) b h e = absurd cc
  desc_shown (desc.Record r) b h e = absurd cc

  shown_at : (q : QName) (b : TypeRef) (o : Option Desc) → described fs q ≡ o → pointer_of (option_map blank o) ≡ Some b → IsShown (shown fs) root b
  shown_at q b None e h = absurd cc
  shown_at q b (Some d) e h = desc_shown d b (faces_name (described fs) (steps_of fs) fs q d fit e) h

  pub faces_show : ShowBases (shown fs) root
  faces_show q b h = shown_at q b (described fs q) refl h
