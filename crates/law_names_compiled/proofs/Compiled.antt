-- The types of a module that compiles differ in name.
use Rattle.std.proofs.Common.{◌≡◌, ◌≢◌, ℕ, ◌<◌, Bool, true, false, List, [], ◌∷◌, length, map, Option, Some, None, Result, Ok, Err, refl, sym, ap, subst, arith}
use Rattle.std.specs.Prelude.{nat_le, bytes_eq}
use Rattle.std.specs.List.{AllByRecursion, IsDistinct}
use Rattle.std.proofs.lemmas.Bool.{leb-true}
use Rattle.ob_tree.specs.declared.which.Which.{Which}
use Rattle.ob_tree.specs.declared.names.QName.{QName}
use Rattle.ob_tree.specs.declared.decl.Module.{Module as Tree}
use Rattle.ob_types.specs.declared.desc.Desc.{Desc}
use Rattle.ob_types.specs.declared.typed.TypedType.{TypedType}
use Rattle.ob_types.specs.declared.typed.TypedModule.{TypedModule}
use Rattle.ob_types.specs.TypedSyntax.{Module}
use Rattle.ob_types.specs.TypedView.{module_view}
use Rattle.ob_rules.specs.declared.broken.Broken.{Broken as BrokenRule}
use Rattle.ob_rules.specs.Declarations.{first_break, checked}
use Rattle.ob_layout.specs.LaidOut.{laid_out, laid_type}
use Rattle.ob_env.specs.Faces.{Face, described}
use Rattle.ob_env.specs.Fit.{first_unfit}
use Rattle.ob_env.specs.Stale.{StaleUse, first_stale}
use Rattle.ob_env.specs.Answer.{if_fit, if_coherent, standing}
use Rattle.ob_env.specs.Shown.{shown}
use Rattle.ob_env_walk.specs.Walk.{Entry, Walked, Left, NoInterface, Damaged, Cycle, TooMany, walk}
use Rattle.ob_env_walk.specs.Answer.{after_walk}
use Rattle.ob_parse_grammar.specs.TextReading.{NoModule, reading}
use Rattle.ob_compile_model.specs.Compiling.{texts, Compiled, exceeds, within, made, of_checked, of_break, by_rules, and_limits, is_deep, unless_deep, of_standing, of_reached, most_imports, of_few, imported, of_reading, most_source, of_short, compiled}
use Rattle.law_names_procedures.specs.Procedures.{ShowBases}
use Rattle.law_names_procedures.specs.Named.{AreEntriesNamed}
use Rattle.law_names_procedures.proofs.Faces.{LeavesOthers, walk_others, faces_show}
use Rattle.law_names_procedures.proofs.Apart.{AreApart, distinct_from}
use Rattle.law_names_compiled.specs.Differ.{CompiledTypesDiffer}
use Rattle.law_names_compiled.proofs.Strokes.{Differ}
use Rattle.law_names_compiled.proofs.Modules.{read_types_differ}

abbrev Text : Type 0
Text = List ℕ

abbrev names_of : List TypedType → List (List ℕ)
names_of ts = map (λ (t : TypedType). t.name) ts

names_apart : (ts : List TypedType) → Differ ts → AreApart (names_of ts)
names_apart [] d = tt
names_apart (t ∷ ts) d = (others ts d.0, names_apart ts d.1)
  where
    others : (us : List TypedType) → AllByRecursion (λ (u : TypedType). u.name ≢ t.name) us → AllByRecursion (λ y. t.name ≡ y → ⊥) (names_of us)
    others [] h = tt
    others (u ∷ us) h = ((λ e. h.0 (sym e)), others us h.1)

same_names : (types : QName → Option Desc) (m : Module) (ts : List TypedType) → names_of (map (laid_type types m) ts) ≡ names_of ts
same_names types m [] = refl
same_names types m (t ∷ ts) = ap (λ ns. t.name ∷ ns) (same_names types m ts)

abbrev HasDistinct : Compiled Text → Type 0
HasDistinct c = IsDistinct bytes_eq (names_of c.tree.types)

module _ (c : Compiled Text) (source : Text) (few : length source < 4294967295) (tree : Tree) (read : reading source ≡ Ok tree) where
  within_kept : (d : Compiled Text) (o : Option Which) → within d o ≡ Ok c → d ≡ c
  within_kept d (Some w) e = absurd cc
  within_kept d None e = cc

  checked_differ : (faces : List (Face Text)) → ShowBases (shown faces) tree.name.name → (found : Option TypedModule) → checked (shown faces) tree ≡ found → and_limits texts (of_checked texts faces found) ≡ Ok c → HasDistinct c
  checked_differ faces s None is e = absurd cc
  checked_differ faces s (Some m) is e =
      let d : Compiled Text = made texts faces (laid_out (described faces) (module_view m)) in
      subst HasDistinct (within_kept d (exceeds texts d) e)
      (subst (IsDistinct bytes_eq) (sym (same_names (described faces) (module_view m) m.types)) (distinct_from (names_of m.types) (names_apart m.types (read_types_differ source tree (shown faces) m few s read is))))

  break_differ : (faces : List (Face Text)) → ShowBases (shown faces) tree.name.name → (b : Option BrokenRule) → and_limits texts (of_break texts faces (checked (shown faces) tree) b) ≡ Ok c → HasDistinct c
  break_differ faces s (Some b) e = absurd cc
  break_differ faces s None e = checked_differ faces s (checked (shown faces) tree) refl e

  deep_differ : (b : Bool) (faces : List (Face Text)) → ShowBases (shown faces) tree.name.name → unless_deep b (and_limits texts (by_rules texts faces tree)) ≡ Ok c → HasDistinct c
  deep_differ true faces s e = absurd cc
  deep_differ false faces s e = break_differ faces s (first_break (shown faces) tree) e

  fit_differ : (faces : List (Face Text)) → AllByRecursion (λ (f : Face Text). bytes_eq f.«module» tree.name.name ≡ false) faces → (o : Option QName) → first_unfit faces ≡ o → of_standing texts tree (if_fit o faces) ≡ Ok c → HasDistinct c
  fit_differ faces k None f e = deep_differ (is_deep faces tree) faces (faces_show tree.name.name faces k f) e
  fit_differ faces k (Some q) f e = absurd cc

  coherent_differ : (faces : List (Face Text)) → AllByRecursion (λ (f : Face Text). bytes_eq f.«module» tree.name.name ≡ false) faces → (o : Option (StaleUse Text)) → of_standing texts tree (if_coherent o faces) ≡ Ok c → HasDistinct c
  coherent_differ faces k None e = fit_differ faces k (first_unfit faces) refl e
  coherent_differ faces k (Some u) e = absurd cc

  walked_differ : (entry : List ℕ → Entry Text) (known : AreEntriesNamed entry) (w : Walked Text) → LeavesOthers entry known tree.name.name w → of_reached texts tree (after_walk (standing texts.same texts.keeps) w) ≡ Ok c → HasDistinct c
  walked_differ entry known (Left faces) k e = coherent_differ faces k (first_stale texts.same (texts.keeps faces) faces) e
  walked_differ entry known (NoInterface m) k e = absurd cc
  walked_differ entry known (Damaged m) k e = absurd cc
  walked_differ entry known (Cycle m) k e = absurd cc
  walked_differ entry known TooMany k e = absurd cc

  few_differ : (entry : List ℕ → Entry Text) → AreEntriesNamed entry → (b : Bool) → of_few b (of_reached texts tree (after_walk (standing texts.same texts.keeps) (walk entry tree.name.name (map imported tree.imports)))) ≡ Ok c → HasDistinct c
  few_differ entry known true e = walked_differ entry known (walk entry tree.name.name (map imported tree.imports)) (walk_others entry known tree.name.name (map imported tree.imports)) e
  few_differ entry known false e = absurd cc

reading_differ : (c : Compiled Text) (entry : List ℕ → Entry Text) → AreEntriesNamed entry → (text : Text) → length text < 4294967295 → (r : Result Tree NoModule) → reading text ≡ r → of_reading texts entry r ≡ Ok c → HasDistinct c
reading_differ c entry known text few (Ok tree) r e = few_differ c text few tree r entry known (nat_le (length tree.imports) most_imports) e
reading_differ c entry known text few (Err f) r e = absurd cc

short_differ : (c : Compiled Text) (entry : List ℕ → Entry Text) → AreEntriesNamed entry → (text : Text) (b : Bool) → nat_le (length text) most_source ≡ b → of_short b (of_reading texts entry (reading text)) ≡ Ok c → HasDistinct c
short_differ c entry known text true few e = let h = leb-true (length text) most_source few in reading_differ c entry known text (omega (arith, h)) (reading text) refl e
short_differ c entry known text false few e = absurd cc

pub compiled_types_differ : CompiledTypesDiffer
unfolding compiled
compiled_types_differ entry known None c e = absurd cc
compiled_types_differ entry known (Some source) c e = short_differ c entry known source (nat_le (length source) most_source) refl e
