-- The interfaces of a walk over a library: each is that of a valid build, whose uses have their texts among them.
use Rattle.std.proofs.Common.{◌≡◌, ℕ, List, [], ◌∷◌, Bool, true, false, cond, Option, Some, None, refl, sym, ap, subst, ◌∙◌}
use Rattle.std.specs.Prelude.{bytes_eq}
use Rattle.std.specs.List.{AllByRecursion}
use Rattle.std.specs.Cmp.Lexicographic.{bytes_decides}
use Rattle.ob_tree.specs.declared.names.QName.{QName}
use Rattle.ob_types.specs.declared.desc.Desc.{Desc}
use Rattle.ob_format.specs.Format.{◌>>=◌}
use Rattle.ob_sym.specs.Grammar.{face as face_form}
use Rattle.ob_env.specs.Faces.{Face, Wanted, object_named, face_named, described, text_in, printed, interface_of}
use Rattle.ob_env.specs.Stale.{as_wanted, compared, found_as, unmet, first_among, first_stale}
use Rattle.ob_env.proofs.Grounded.{or_none}
use Rattle.ob_env_walk.specs.Walk as walk
use Rattle.ob_env_walk.specs.Walk.{Left, walk as walked_from}
use Rattle.ob_link.specs.Plan.{Entry, Missing, TooLong, Junk, Holds}
use Rattle.ob_compile_model.specs.Compiling.{Compiled}
use Rattle.ob_builds.specs.Builds.{Text, Build, IsValid, shows_of, name_of}
use Rattle.ob_shell_model.specs.Library.{Library, IsLibrary, IsEntry}
use Rattle.ob_shell_model.specs.Model.{face_entry, interface_in}
use Rattle.law_local_files.specs.Laws.{AreSpelled, HaveNoOut, AreMet}
use Rattle.law_local.proofs.Walked.{LeavesBelow, AreNamed, walk_below, have_none}
use Rattle.law_builds.proofs.Again.{IsHeld, AreHeld, walk_again}
use Rattle.law_builds.proofs.Faces.{of_is}
use Rattle.law_builds_written.proofs.Upheld.{builds_are_written}

-- ---- uses that agree

met_by : (w : Wanted Text) (o : Option Text) (m : List ℕ) → unmet m w (compared bytes_eq w.kept o) ≡ None → o ≡ Some w.kept
met_by w None m e = absurd cc
met_by w (Some k) m e = by (bytes_eq w.kept k) refl e
  where
    by : (b : Bool) → bytes_eq w.kept k ≡ b → unmet m w (as_wanted b k) ≡ None → Some k ≡ Some w.kept
    by true i e = ap (λ (t : Text). Some t) (sym ((bytes_decides w.kept k).0 i))
    by false i e = absurd cc

uses_met : (faces : List (Face Text)) (m : List ℕ) (ws : List (Wanted Text)) → first_among (λ w. unmet m w (found_as bytes_eq (text_in faces) w)) ws ≡ None → AreMet faces ws
uses_met faces m [] e = tt
uses_met faces m (w ∷ ws) e =
    let p = or_none (unmet m w (found_as bytes_eq (text_in faces) w)) (first_among (λ w. unmet m w (found_as bytes_eq (text_in faces) w)) ws) e in
    (met_by w (text_in faces w.object w.aspect) m p.0, uses_met faces m ws p.1)

all_met : (faces fs : List (Face Text)) → first_stale bytes_eq (text_in faces) fs ≡ None → AllByRecursion (λ f. AreMet faces f.uses) fs
all_met faces [] e = tt
all_met faces (f ∷ fs) e =
    let p = or_none (first_among (λ w. unmet f.«module» w (found_as bytes_eq (text_in faces) w)) f.uses) (first_stale bytes_eq (text_in faces) fs) e in
    (uses_met faces f.«module» f.uses p.0, all_met faces fs p.1)

-- ---- entries

held_or : Face Text → walk.Entry Text → Face Text
held_or d (walk.Holds f) = f
held_or d e = d

is_held : walk.Entry Text → Bool
is_held (walk.Holds f) = true
is_held e = false

-- the interface of a valid build of this name
pub record IsOfBuild (l : Library) (n : List ℕ) (f : Face Text) : Type 0 where
  pub build : Build
  pub compiled : Compiled Text
  pub valid : IsValid build compiled
  pub holds : l.symbols n ≡ Holds build
  pub shows : shows_of build ≡ f
  pub named : f.«module» ≡ n

of_entry : (l : Library) (n : List ℕ) (f : Face Text) (e : Entry Build) → l.symbols n ≡ e → IsEntry n e → face_entry e ≡ walk.Holds f → IsOfBuild l n f
unfolding held_or is_held
of_entry l n f Missing s i h = let bad : false ≡ true = ap is_held h in absurd cc
of_entry l n f TooLong s i h = let bad : false ≡ true = ap is_held h in absurd cc
of_entry l n f Junk s i h = let bad : false ≡ true = ap is_held h in absurd cc
of_entry l n f (Holds b) s i h =
    let is : shows_of b ≡ f = ap (held_or (shows_of b)) h in
    record { build = b; compiled = i.0; valid = i.1; holds = s; shows = is; named = ap (λ (g : Face Text). g.«module») (sym is) ∙ i.2 }

abbrev pub IsOf : Library → Face Text → Type 0
IsOf l f = (n : List ℕ) × IsOfBuild l n f

-- ---- the one of a name

pub record Named (P : Face Text → Type 0) (faces : List (Face Text)) (m : List ℕ) (f : Face Text) : Type 0 where
  pub has : P f
  pub name : m ≡ f.«module»

pub named_has : (P : Face Text → Type 0) (faces : List (Face Text)) (m : List ℕ) (f : Face Text) → AllByRecursion P faces → face_named faces m ≡ Some f → Named P faces m f
named_has P [] m f h e = absurd cc
named_has P (g ∷ gs) m f h e = by (bytes_eq m g.«module») refl e (λ e. named_has P gs m f h.1 e)
  where
    by : (b : Bool) → bytes_eq m g.«module» ≡ b → cond b (Some g) (face_named gs m) ≡ Some f → (face_named gs m ≡ Some f → Named P gs m f) → Named P (g ∷ gs) m f
    by true i e r = let k : g ≡ f = cc in record { has = subst P k h.0; name = (bytes_decides m g.«module»).0 i ∙ ap (λ (x : Face Text). x.«module») k }
    by false i e r = let n = r e in record { has = n.has; name = n.name }

pub all_two : {A : Type 0} (P Q R : A → Type 0) → ((x : A) → P x → Q x → R x) → (xs : List A) → AllByRecursion P xs → AllByRecursion Q xs → AllByRecursion R xs
all_two P Q R f [] p q = tt
all_two P Q R f (x ∷ xs) p q = (f x p.0 q.0, all_two P Q R f xs p.1 q.1)

all_one : {A : Type 0} (P Q : A → Type 0) → ((x : A) → P x → Q x) → (xs : List A) → AllByRecursion P xs → AllByRecursion Q xs
all_one P Q f [] p = tt
all_one P Q f (x ∷ xs) p = (f x p.0, all_one P Q f xs p.1)

-- ---- what is described

-- what describes a name among interfaces that are those of builds
pub record Described (l : Library) (faces : List (Face Text)) (q : QName) (d : Desc) : Type 0 where
  pub build : Build
  pub compiled : Compiled Text
  pub valid : IsValid build compiled
  pub holds : l.symbols q.«module» ≡ Holds build
  pub name : q.«module» ≡ name_of build
  pub here : face_named faces (name_of build) ≡ Some (shows_of build)
  pub met : AreMet faces (shows_of build).uses
  pub object : object_named (shows_of build).objects q.object ≡ Some d

-- interfaces that are those of builds, and agree
pub record Agreed (l : Library) (faces : List (Face Text)) : Type 0 where
  pub builds : AllByRecursion (IsOf l) faces
  pub met : AllByRecursion (λ f. AreMet faces f.uses) faces
  pub spelled : AreSpelled faces
  pub out : HaveNoOut faces

pub is_described : (l : Library) (faces : List (Face Text)) → Agreed l faces → (q : QName) (d : Desc) → described faces q ≡ Some d → Described l faces q d
is_described l faces a q d e = by (face_named faces q.«module») refl e
  where
    by : (o : Option (Face Text)) → face_named faces q.«module» ≡ o → (o >>= λ (f : Face Text). object_named f.objects q.object) ≡ Some d → Described l faces q d
    by None i h = absurd cc
    by (Some f) i h =
        let n = named_has (λ g. IsOf l g × AreMet faces g.uses) faces q.«module» f (all_two (IsOf l) (λ g. AreMet faces g.uses) (λ g. IsOf l g × AreMet faces g.uses) (λ g p m. (p, m)) faces a.builds a.met) i in
        let k = n.has.0.1 in
        let name : q.«module» ≡ name_of k.build = n.name ∙ sym (ap (λ (x : Face Text). x.«module») k.shows) in
        record {
          build = k.build;
          compiled = k.compiled;
          valid = k.valid;
          holds = ap l.symbols (n.name ∙ k.named) ∙ k.holds;
          name = name;
          here = ap (face_named faces) (sym name) ∙ i ∙ ap (λ (x : Face Text). Some x) (sym k.shows);
          met = subst (λ (x : Face Text). AreMet faces x.uses) (sym k.shows) n.has.1;
          object = ap (λ (x : Face Text). object_named x.objects q.object) k.shows ∙ h;
        }

-- THE WALK
pub agreed_of : (l : Library) → IsLibrary l → (root : List ℕ) (imports : List (List ℕ)) (faces : List (Face Text)) → walked_from (interface_in l) root imports ≡ Left faces → first_stale bytes_eq (text_in faces) faces ≡ None → Agreed l faces
agreed_of l lib root imports faces w agree =
    let named : AreNamed (interface_in l) = λ n f h. (of_entry l n f (l.symbols n) refl (lib.symbols n) h).named in
    let held : AreHeld (interface_in l) faces = (walk_again (interface_in l) named root imports faces w).1 in
    let builds : AllByRecursion (IsOf l) faces = all_one (IsHeld (interface_in l)) (IsOf l) (λ f h. (h.0, of_entry l h.0 f (l.symbols h.0) refl (lib.symbols h.0) h.1)) faces held in
    let below : LeavesBelow root (Left faces) = subst (LeavesBelow root) w (walk_below root (interface_in l) named imports) in
    record {
      builds = builds;
      met = all_met faces faces agree;
      spelled = all_one (IsOf l) (λ f. face_form.fits (interface_of (printed f))) (λ f h. let k = h.1 in subst (λ (g : Face Text). face_form.fits (interface_of (printed g))) (ap (λ (x : Compiled Text). x.shows) (sym (of_is k.build k.compiled k.valid)) ∙ k.shows) (builds_are_written k.build k.compiled k.valid).symbols) faces builds;
      out = have_none root faces below;
    }
