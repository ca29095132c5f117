-- The texts of which a library's interfaces speak are those of its builds.
use Rattle.std.proofs.Common.{◌≡◌, ℕ, Bool, true, false, cond, List, [], ◌∷◌, ◌++◌, Option, Some, None, refl, sym, ap, ◌∙◌, subst, inl, inr, ⊎_elim}
use Rattle.std.specs.Prelude.{◌⊎◌, bytes_eq, Contains}
use Rattle.std.specs.List.{flat_map}
use Rattle.std.specs.Option.{option_map}
use Rattle.ob_format.specs.Format.{◌>>=◌}
use Rattle.ob_tree.specs.declared.names.QName.{QName}
use Rattle.ob_types.specs.declared.face.Aspect.{Aspect}
use Rattle.ob_types.specs.Maps.{listed}
use Rattle.ob_desc.specs.Grammar.{text_of}
use Rattle.ob_env.specs.Faces.{Face, Wanted, object_named, face_named, text_in}
use Rattle.ob_uses.specs.declared.pair.Pair.{Pair}
use Rattle.ob_uses.specs.Uses.{with_kept}
use Rattle.ob_env_walk.specs.Walk as walk
use Rattle.ob_link.specs.Plan.{Entry, Missing, TooLong, Junk, Holds}
use Rattle.ob_compile_model.specs.Compiling.{Compiled, texts, made}
use Rattle.law_prints.specs.Printed.{Text}
use Rattle.ob_builds.specs.Builds.{Build, IsValid, shows_of}
use Rattle.ob_shell_model.specs.Library.{Library, IsLibrary, IsEntry}
use Rattle.ob_shell_model.specs.Model.{face_entry, interface_in}
use Rattle.ob_builds.specs.Apart.{IsTextOf, IsTextOfBuild}
use Rattle.ob_shell_model.specs.Headline.{IsIn}
use Rattle.law_builds.proofs.Compiled.{Comes, comes}
use Rattle.law_builds.proofs.Members.{In, to_in, of_in}
use Rattle.law_builds.proofs.Faces.{of_is}
use Rattle.law_builds.proofs.Again.{AreNamed}

-- a text that a use of the interface keeps
abbrev pub IsKeptBy : Face Text → Text → Type 0
IsKeptBy f t = (w : Wanted Text) × Contains f.uses w × (w.kept ≡ t)

-- ---- a text that interfaces show is shown by one of them

pub record ShownAmong (fs : List (Face Text)) (q : QName) (a : Aspect) (t : Text) : Type 0 where
  pub face : Face Text
  pub among : In fs face
  pub shows : text_in (face ∷ []) q a ≡ Some t

pub shown_among : (fs : List (Face Text)) (q : QName) (a : Aspect) (t : Text) → text_in fs q a ≡ Some t → ShownAmong fs q a t
shown_among [] q a t e = absurd cc
shown_among (f ∷ fs) q a t e = go (bytes_eq q.«module» f.«module») refl (λ x. shown_among fs q a t x) e
  where
    go : (b : Bool) → bytes_eq q.«module» f.«module» ≡ b → (text_in fs q a ≡ Some t → ShownAmong fs q a t) → ((cond b (Some f) (face_named fs q.«module») >>= λ g. object_named g.objects q.object) >>= λ d. text_of q d a) ≡ Some t → ShownAmong (f ∷ fs) q a t
    go true is rest e = record { face = f; among = inl refl; shows = subst (λ (c : Bool). ((cond c (Some f) None >>= λ g. object_named g.objects q.object) >>= λ d. text_of q d a) ≡ Some t) (sym is) e }
    go false is rest e = let s = rest e in record { face = s.face; among = inr s.among; shows = s.shows }

-- ---- the texts that uses keep

either_in : {A : Type 0} (xs ys : List A) (x : A) → In (xs ++ ys) x → In xs x ⊎ In ys x
either_in [] ys x i = inr i
either_in (y ∷ xs) ys x (inl e) = inl (inl e)
either_in (y ∷ xs) ys x (inr i) = ⊎_elim (λ (a : In xs x). inl (inr a)) (λ (b : In ys x). inr b) (either_in xs ys x i)

kept_by_one : (has : QName → Aspect → Option Text) (p : Pair) (w : Wanted Text) → In (with_kept has p) w → has w.object w.aspect ≡ Some w.kept
kept_by_one has p w i = go (has p.object p.aspect) refl i
  where
    go : (o : Option Text) → has p.object p.aspect ≡ o → In (listed (option_map (λ (k : Text). let v : Wanted Text = record { object = p.object; aspect = p.aspect; kept = k } in v) o)) w → has w.object w.aspect ≡ Some w.kept
    go None e i = absurd i
    go (Some k) e (inl is) = subst (λ (v : Wanted Text). has v.object v.aspect ≡ Some v.kept) is e
    go (Some k) e (inr i) = absurd i

kept_by_all : (has : QName → Aspect → Option Text) (ps : List Pair) (w : Wanted Text) → In (flat_map (with_kept has) ps) w → has w.object w.aspect ≡ Some w.kept
kept_by_all has [] w i = absurd i
kept_by_all has (p ∷ ps) w i = ⊎_elim (λ (a : In (with_kept has p) w). kept_by_one has p w a) (λ (b : In (flat_map (with_kept has) ps) w). kept_by_all has ps w b) (either_in (with_kept has p) (flat_map (with_kept has) ps) w i)

-- a text that a use of a module keeps is one of the interfaces that it was compiled against
against : (c : Compiled Text) → Comes texts c → (t : Text) → IsKeptBy c.shows t → (q : QName) × (a : Aspect) × ShownAmong c.against q a t
against c k t kept =
    let is = k.is in
    subst (λ (x : Compiled Text). IsKeptBy x.shows t → (q : QName) × (a : Aspect) × ShownAmong x.against q a t) (sym is)
    (λ h. let w : Wanted Text = h.0 in
    let e = kept_by_all (text_in k.faces) _ w (to_in (made texts k.faces k.tree).shows.uses w h.1) in
    (w.object, w.aspect, shown_among k.faces w.object w.aspect t (e ∙ ap (λ (x : Text). Some x) h.2)))
    kept

-- ---- the texts of builds

pub of_build : (b : Build) (c : Compiled Text) → IsValid b c → (t : Text) → IsTextOf (shows_of b) t ⊎ IsKeptBy (shows_of b) t → IsTextOfBuild b t
of_build b c v t (inl s) = inl s
of_build b c v t (inr k) =
    let kept : IsKeptBy c.shows t = subst (λ (x : Compiled Text). IsKeptBy x.shows t) (of_is b c v) k in
    let s = against c (comes texts _ (Some b.source) c v.is) t kept in
    inr (s.2.face, of_in b.against s.2.face (subst (λ (fs : List (Face Text)). In fs s.2.face) v.whole s.2.among), (s.0, s.1, s.2.shows))

-- of a build that a library has
abbrev pub IsTextIn : Library → Text → Type 0
IsTextIn l t = (b : Build) × IsIn l b × IsTextOfBuild b t

of_entry : (l : Library) (m : List ℕ) (e : Entry Build) (f : Face Text) (t : Text) → l.symbols m ≡ e → IsEntry m e → face_entry e ≡ walk.Holds f → IsTextOf f t ⊎ IsKeptBy f t → IsTextIn l t
of_entry l m Missing f t is i e s = absurd (let bad : walk.Missing ≡ walk.Holds f = e in cc)
of_entry l m TooLong f t is i e s = absurd (let bad : walk.Junk ≡ walk.Holds f = e in cc)
of_entry l m Junk f t is i e s = absurd (let bad : walk.Junk ≡ walk.Holds f = e in cc)
of_entry l m (Holds b) f t is i e s =
    let same : f ≡ shows_of b = sym (ap (held_or f) e) in
    (b, (m, inr is), of_build b i.0 i.1 t (subst (λ (g : Face Text). IsTextOf g t ⊎ IsKeptBy g t) same s))
  where
    held_or : Face Text → walk.Entry Text → Face Text
    held_or d walk.Missing = d
    held_or d walk.Junk = d
    held_or d (walk.Holds g) = g

-- a text of an interface that is found in it
pub spoken : (l : Library) → IsLibrary l → (m : List ℕ) (f : Face Text) → interface_in l m ≡ walk.Holds f → (t : Text) → IsTextOf f t ⊎ IsKeptBy f t → IsTextIn l t
spoken l library m f e t s = of_entry l m (l.symbols m) f t refl (library.symbols m) e s

build_of : (l : Library) (m : List ℕ) (e : Entry Build) (f : Face Text) → l.symbols m ≡ e → face_entry e ≡ walk.Holds f → (b : Build) × IsIn l b × (shows_of b ≡ f)
build_of l m Missing f is e = absurd (let bad : walk.Missing ≡ walk.Holds f = e in cc)
build_of l m TooLong f is e = absurd (let bad : walk.Junk ≡ walk.Holds f = e in cc)
build_of l m Junk f is e = absurd (let bad : walk.Junk ≡ walk.Holds f = e in cc)
build_of l m (Holds b) f is e = let same : shows_of b ≡ f = cc in (b, (m, inr is), same)

-- what is found is the interface of a build of the library
pub found_build : (l : Library) (m : List ℕ) (f : Face Text) → interface_in l m ≡ walk.Holds f → (b : Build) × IsIn l b × (shows_of b ≡ f)
found_build l m f e = build_of l m (l.symbols m) f refl e

module_of : (l : Library) (m : List ℕ) (e : Entry Build) (f : Face Text) → IsEntry m e → face_entry e ≡ walk.Holds f → f.«module» ≡ m
module_of l m Missing f i e = absurd (let bad : walk.Missing ≡ walk.Holds f = e in cc)
module_of l m TooLong f i e = absurd (let bad : walk.Junk ≡ walk.Holds f = e in cc)
module_of l m Junk f i e = absurd (let bad : walk.Junk ≡ walk.Holds f = e in cc)
module_of l m (Holds b) f i e = let is : shows_of b ≡ f = cc in subst (λ (g : Face Text). g.«module» ≡ m) is i.2

-- what is found is of the module of that name
pub found_named : (l : Library) → IsLibrary l → AreNamed (interface_in l)
found_named l library m f e = module_of l m (l.symbols m) f (library.symbols m) e
