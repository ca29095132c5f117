-- What compiles against a library is a valid build.
use Rattle.std.proofs.Common.{◌≡◌, ℕ, List, [], ◌∷◌, length, Bool, true, false, refl, sym, ap, ◌∙◌, subst, Option, Some, None, Result, Ok, Err}
use Rattle.std.specs.Prelude.{nat_le, map as each}
use Rattle.std.specs.List.{AllByRecursion}
use Rattle.std.proofs.lemmas.Bool.{false≢true}
use Rattle.ob_tree.specs.declared.names.QName.{QName}
use Rattle.ob_tree.specs.declared.decl.Module.{Module as Tree}
use Rattle.ob_tree.specs.declared.which.Which.{Which}
use Rattle.ob_types.specs.declared.typed.TypedModule.{TypedModule}
use Rattle.ob_types.specs.TypedView.{module_view}
use Rattle.ob_rules.specs.declared.broken.Broken.{Broken}
use Rattle.ob_rules.specs.Declarations.{checked, first_break}
use Rattle.ob_layout.specs.LaidOut.{laid_out}
use Rattle.ob_sym.specs.Grammar.{face as face_form}
use Rattle.ob_env.specs.Faces.{Face, described, printed, interface_of}
use Rattle.ob_env.specs.Shown.{shown}
use Rattle.ob_env.specs.Stale.{StaleUse, first_stale}
use Rattle.ob_env.specs.Fit.{first_unfit}
use Rattle.ob_env.specs.Answer.{if_fit, if_coherent, standing}
use Rattle.ob_env_walk.specs.Walk as walk
use Rattle.ob_env_walk.specs.Walk.{Walked, Left, NoInterface, Damaged, Cycle, TooMany, walk as walked_from}
use Rattle.ob_env_walk.specs.Answer.{after_walk}
use Rattle.ob_parse_grammar.specs.TextReading.{NoModule, reading}
use Rattle.ob_link.specs.Plan.{Entry, Missing, TooLong, Junk, Holds}
use Rattle.ob_compile_model.specs.Compiling as c
use Rattle.ob_compile_model.specs.Compiling.{Refusal, Compiled, compiled, texts, made, within, exceeds, of_checked, of_break, by_rules, and_limits, unless_deep, is_deep, of_faces, of_standing, of_reached, of_few, of_tree, of_reading, of_short, most_imports, most_source, imported}
use Rattle.ob_builds.specs.Builds.{Text, Build, IsSpelled, shows_of}
use Rattle.ob_shell_model.specs.Library.{Library, IsLibrary, IsEntry}
use Rattle.ob_shell_model.specs.Model.{face_entry, interface_in}
use Rattle.ob_builds.specs.Written.{BuildsAreWritten}
use Rattle.law_session.specs.New.{NewIsValid}
use Rattle.law_builds.proofs.Compiled.{ok_is, err_no}
use Rattle.law_builds.proofs.Faces.{of_is}
use Rattle.law_builds.proofs.Again.{AreNamed, AreHeld, only, walk_again}

-- THE WALK BEHIND A COMPILE

abbrev Over : List (Face Text) → Result (Compiled Text) (Refusal Text) → Type 0
Over faces r = (x : Compiled Text) → r ≡ Ok x → x.against ≡ faces

no_module : (faces : List (Face Text)) (r : Refusal Text) → Over faces (Err r)
no_module faces r x e = absurd (err_no r x e)

over_checked : (faces : List (Face Text)) (o : Option TypedModule) → Over faces (of_checked texts faces o)
over_checked faces None = no_module faces c.NoSource
over_checked faces (Some m) = λ x e. sym (ap (λ (y : Compiled Text). y.against) (ok_is (made texts faces (laid_out (described faces) (module_view m))) x e))

over_break : (faces : List (Face Text)) (o : Option TypedModule) (b : Option Broken) → Over faces (of_break texts faces o b)
over_break faces o (Some b) = no_module faces (c.Broken b)
over_break faces o None = over_checked faces o

over_within : (faces : List (Face Text)) (y : Compiled Text) (o : Option Which) → y.against ≡ faces → Over faces (within y o)
over_within faces y (Some w) h = no_module faces (c.Limit w)
over_within faces y None h = λ x e. sym (ap (λ (z : Compiled Text). z.against) (ok_is y x e)) ∙ h

over_limits : (faces : List (Face Text)) (r : Result (Compiled Text) (Refusal Text)) → Over faces r → Over faces (and_limits texts r)
over_limits faces (Ok y) h = over_within faces y (exceeds texts y) (h y refl)
over_limits faces (Err r) h = h

over_deep : (faces : List (Face Text)) (b : Bool) (r : Result (Compiled Text) (Refusal Text)) → Over faces r → Over faces (unless_deep b r)
over_deep faces true r h = no_module faces _
over_deep faces false r h = h

over_faces : (faces : List (Face Text)) (tree : Tree) → Over faces (of_faces texts faces tree)
over_faces faces tree = over_deep faces (is_deep faces tree) (and_limits texts (by_rules texts faces tree)) (over_limits faces (by_rules texts faces tree) (over_break faces (checked (shown faces) tree) (first_break (shown faces) tree)))

over_fit : (faces : List (Face Text)) (tree : Tree) (o : Option QName) → Over faces (of_standing texts tree (if_fit o faces))
over_fit faces tree (Some q) = no_module faces (c.NoFit q)
over_fit faces tree None = over_faces faces tree

over_standing : (faces : List (Face Text)) (tree : Tree) (o : Option (StaleUse Text)) → Over faces (of_standing texts tree (if_coherent o faces))
over_standing faces tree (Some u) = no_module faces (c.Unmet u)
over_standing faces tree None = over_fit faces tree (first_unfit faces)

-- a compile goes by its walk alone
abbrev behind : Tree → Walked Text → Result (Compiled Text) (Refusal Text)
behind tree w = of_reached texts tree (after_walk (standing texts.same texts.keeps) w)

walk_of : (tree : Tree) (w : Walked Text) (x : Compiled Text) → behind tree w ≡ Ok x → w ≡ Left x.against
walk_of tree (Left faces) x e = ap Left (sym (over_standing faces tree (first_stale texts.same (texts.keeps faces) faces) x e))
walk_of tree (NoInterface m) x e = absurd (err_no (c.Walk (NoInterface m)) x e)
walk_of tree (Damaged m) x e = absurd (err_no (c.Walk (Damaged m)) x e)
walk_of tree (Cycle m) x e = absurd (err_no (c.Walk (Cycle m)) x e)
walk_of tree TooMany x e = absurd (err_no (c.Walk TooMany) x e)

abbrev walk_in : (List ℕ → walk.Entry Text) → Tree → Walked Text
walk_in find tree = walked_from find tree.name.name (each imported tree.imports)

abbrev few : Tree → Bool
few tree = nat_le (length tree.imports) most_imports

-- compiled once more where there are just these interfaces
again_tree : (find : List ℕ → walk.Entry Text) → AreNamed find → (tree : Tree) (x : Compiled Text) → of_tree texts find tree ≡ Ok x → (of_tree texts (only x.against) tree ≡ Ok x) × AreHeld find x.against
again_tree find named tree x e = go (few tree) refl e
  where
    go : (b : Bool) → few tree ≡ b → of_few b (behind tree (walk_in find tree)) ≡ Ok x → (of_few (few tree) (behind tree (walk_in (only x.against) tree)) ≡ Ok x) × AreHeld find x.against
    go true i h =
        let w : walk_in find tree ≡ Left x.against = walk_of tree (walk_in find tree) x h in
        let a = walk_again find named tree.name.name (each imported tree.imports) x.against w in
        (ap (λ b. of_few b (behind tree (walk_in (only x.against) tree))) i ∙ ap (behind tree) (a.0 ∙ sym w) ∙ h, a.1)
    go false i h = absurd (err_no _ x h)

again_reading : (find : List ℕ → walk.Entry Text) → AreNamed find → (r : Result Tree NoModule) (x : Compiled Text) → of_reading texts find r ≡ Ok x → (of_reading texts (only x.against) r ≡ Ok x) × AreHeld find x.against
again_reading find named (Ok tree) x e = again_tree find named tree x e
again_reading find named (Err f) x e = absurd (err_no (c.Unread f) x e)

again_short : (find : List ℕ → walk.Entry Text) → AreNamed find → (b : Bool) (r : Result Tree NoModule) (x : Compiled Text) → of_short b (of_reading texts find r) ≡ Ok x → (of_short b (of_reading texts (only x.against) r) ≡ Ok x) × AreHeld find x.against
again_short find named true r x e = again_reading find named r x e
again_short find named false r x e = absurd (err_no _ x e)

again_compiled : (find : List ℕ → walk.Entry Text) → AreNamed find → (source : List ℕ) (x : Compiled Text) → compiled texts find (Some source) ≡ Ok x → (compiled texts (only x.against) (Some source) ≡ Ok x) × AreHeld find x.against
unfolding compiled
again_compiled find named source x e = again_short find named (nat_le (length source) most_source) (reading source) x e

-- IN A LIBRARY

abbrev held_or : Face Text → walk.Entry Text → Face Text
held_or d (walk.Holds f) = f
held_or d e = d

abbrev is_held : walk.Entry Text → Bool
is_held (walk.Holds f) = true
is_held e = false

-- what an entry has is the interface of a valid build of that name, and has a spelling
record IsOfBuild (n : List ℕ) (f : Face Text) : Type 0 where
  named : f.«module» ≡ n
  spelled : IsSpelled f

of_entry : BuildsAreWritten → (n : List ℕ) (f : Face Text) (e : Entry Build) → IsEntry n e → face_entry e ≡ walk.Holds f → IsOfBuild n f
of_entry written n f Missing i h = absurd (false≢true (ap is_held h))
of_entry written n f TooLong i h = absurd (false≢true (ap is_held h))
of_entry written n f Junk i h = absurd (false≢true (ap is_held h))
of_entry written n f (Holds b) i h =
    let is : shows_of b ≡ f = ap (held_or (shows_of b)) h in
    let k : i.0.shows ≡ f = ap (λ (x : Compiled Text). x.shows) (sym (of_is b i.0 i.1)) ∙ is in
    record {
      named = ap (λ (g : Face Text). g.«module») (sym is) ∙ i.2;
      spelled = subst (λ (g : Face Text). face_form.fits (interface_of (printed g))) k (written b i.0 i.1).symbols;
    }

all_spelled : BuildsAreWritten → (l : Library) → IsLibrary l → (faces : List (Face Text)) → AreHeld (interface_in l) faces → AllByRecursion IsSpelled faces
all_spelled written l i [] h = tt
all_spelled written l i (f ∷ fs) h = ((of_entry written h.0.0 f (l.symbols h.0.0) (i.symbols h.0.0) h.0.1).spelled, all_spelled written l i fs h.1)

pub new_is_valid : BuildsAreWritten → NewIsValid
new_is_valid written l source x i e =
    let a = again_compiled (interface_in l) (λ n f h. (of_entry written n f (l.symbols n) (i.symbols n) h).named) source x e in
    record { is = a.0; whole = refl; spelled = all_spelled written l i x.against a.1 }
