-- A module that compiles is not named Out, and its procedures have different names.
use Rattle.std.proofs.Common.{◌≡◌, ℕ, Bool, true, false, List, [], ◌∷◌, length, map, Option, Some, None, Result, Ok, Err, refl, sym, ap, subst}
use Rattle.std.specs.Prelude.{nat_le, bytes_eq}
use Rattle.std.specs.List.{AllByRecursion, IsDistinct}
use Rattle.ob_tree.specs.declared.which.Which.{Which}
use Rattle.ob_tree.specs.declared.names.QName.{QName}
use Rattle.ob_tree.specs.declared.decl.Module.{Module as Tree}
use Rattle.ob_types.specs.declared.typed.TypedProcedure.{TypedProcedure}
use Rattle.ob_types.specs.declared.typed.TypedModule.{TypedModule}
use Rattle.ob_types.specs.TypedView.{procedure_view, module_view}
use Rattle.ob_rules.specs.declared.broken.Broken.{Broken as BrokenRule}
use Rattle.ob_rules.specs.Declarations.{first_break, checked}
use Rattle.ob_layout.specs.LaidOut.{laid_out}
use Rattle.ob_env.specs.Faces.{Face, described}
use Rattle.ob_env.specs.Fit.{first_unfit}
use Rattle.ob_env.specs.Stale.{StaleUse, first_stale}
use Rattle.ob_env.specs.Answer.{if_fit, if_coherent, standing}
use Rattle.ob_env.specs.Shown.{shown}
use Rattle.ob_env_walk.specs.Walk.{Entry, Walked, Left, NoInterface, Damaged, Cycle, TooMany, walk}
use Rattle.ob_env_walk.specs.Answer.{after_walk}
use Rattle.ob_parse_grammar.specs.TextReading.{NoModule, reading}
use Rattle.ob_compile_model.specs.Compiling.{texts, Compiled, exceeds, within, made, of_checked, of_break, by_rules, and_limits, is_deep, unless_deep, of_standing, of_reached, most_imports, of_few, imported, of_reading, most_source, of_short, compiled}
use Rattle.law_names_procedures.specs.Procedures.{all_true, is_named_plainly, ShowBases}
use Rattle.law_names_procedures.specs.Named.{AreEntriesNamed, AreNamedApart, CompiledNamesDiffer}
use Rattle.law_names_procedures.proofs.Faces.{LeavesOthers, walk_others, faces_show}
use Rattle.law_names_procedures.proofs.Modules.{procedures_are_apart, not_out}
use Rattle.law_names_procedures.proofs.Texts.{headings_are_named}

abbrev Text : Type 0
Text = List ℕ

same_names : (ps : List TypedProcedure) → map (λ p. p.name) (map procedure_view ps) ≡ map (λ p. p.name) ps
same_names [] = refl
same_names (p ∷ ps) = ap (λ ns. p.name ∷ ns) (same_names ps)

module _ (c : Compiled Text) (tree : Tree) (named : all_true (map is_named_plainly tree.decls) ≡ true) where
  within_kept : (d : Compiled Text) (o : Option Which) → within d o ≡ Ok c → d ≡ c
  within_kept d (Some w) e = absurd cc
  within_kept d None e = cc

  checked_apart : (faces : List (Face Text)) → ShowBases (shown faces) tree.name.name → (found : Option TypedModule) → checked (shown faces) tree ≡ found → and_limits texts (of_checked texts faces found) ≡ Ok c → AreNamedApart c
  checked_apart faces s None is e = absurd cc
  checked_apart faces s (Some m) is e =
      let d : Compiled Text = made texts faces (laid_out (described faces) (module_view m)) in
      subst AreNamedApart (within_kept d (exceeds texts d) e) (record { out = not_out (shown faces) tree m is; procedures = subst (IsDistinct bytes_eq) (sym (same_names m.procedures)) (procedures_are_apart (shown faces) tree m s named is) })

  break_apart : (faces : List (Face Text)) → ShowBases (shown faces) tree.name.name → (b : Option BrokenRule) → and_limits texts (of_break texts faces (checked (shown faces) tree) b) ≡ Ok c → AreNamedApart c
  break_apart faces s (Some b) e = absurd cc
  break_apart faces s None e = checked_apart faces s (checked (shown faces) tree) refl e

  deep_apart : (b : Bool) (faces : List (Face Text)) → ShowBases (shown faces) tree.name.name → unless_deep b (and_limits texts (by_rules texts faces tree)) ≡ Ok c → AreNamedApart c
  deep_apart true faces s e = absurd cc
  deep_apart false faces s e = break_apart faces s (first_break (shown faces) tree) e

  fit_apart : (faces : List (Face Text)) → AllByRecursion (λ (f : Face Text). bytes_eq f.«module» tree.name.name ≡ false) faces → (o : Option QName) → first_unfit faces ≡ o → of_standing texts tree (if_fit o faces) ≡ Ok c → AreNamedApart c
  fit_apart faces k None f e = deep_apart (is_deep faces tree) faces (faces_show tree.name.name faces k f) e
  fit_apart faces k (Some q) f e = absurd cc

  coherent_apart : (faces : List (Face Text)) → AllByRecursion (λ (f : Face Text). bytes_eq f.«module» tree.name.name ≡ false) faces → (o : Option (StaleUse Text)) → of_standing texts tree (if_coherent o faces) ≡ Ok c → AreNamedApart c
  coherent_apart faces k None e = fit_apart faces k (first_unfit faces) refl e
  coherent_apart faces k (Some u) e = absurd cc

  walked_apart : (entry : List ℕ → Entry Text) (known : AreEntriesNamed entry) (w : Walked Text) → LeavesOthers entry known tree.name.name w → of_reached texts tree (after_walk (standing texts.same texts.keeps) w) ≡ Ok c → AreNamedApart c
  walked_apart entry known (Left faces) k e = coherent_apart faces k (first_stale texts.same (texts.keeps faces) faces) e
  walked_apart entry known (NoInterface m) k e = absurd cc
  walked_apart entry known (Damaged m) k e = absurd cc
  walked_apart entry known (Cycle m) k e = absurd cc
  walked_apart entry known TooMany k e = absurd cc

  few_apart : (entry : List ℕ → Entry Text) → AreEntriesNamed entry → (b : Bool) → of_few b (of_reached texts tree (after_walk (standing texts.same texts.keeps) (walk entry tree.name.name (map imported tree.imports)))) ≡ Ok c → AreNamedApart c
  few_apart entry known true e = walked_apart entry known (walk entry tree.name.name (map imported tree.imports)) (walk_others entry known tree.name.name (map imported tree.imports)) e
  few_apart entry known false e = absurd cc

reading_apart : (c : Compiled Text) (entry : List ℕ → Entry Text) → AreEntriesNamed entry → (text : List ℕ) (r : Result Tree NoModule) → reading text ≡ r → of_reading texts entry r ≡ Ok c → AreNamedApart c
reading_apart c entry known text (Ok tree) r e = few_apart c tree (headings_are_named text tree r) entry known (nat_le (length tree.imports) most_imports) e
reading_apart c entry known text (Err f) r e = absurd cc

short_apart : (c : Compiled Text) (entry : List ℕ → Entry Text) → AreEntriesNamed entry → (text : List ℕ) (b : Bool) → of_short b (of_reading texts entry (reading text)) ≡ Ok c → AreNamedApart c
short_apart c entry known text true e = reading_apart c entry known text (reading text) refl e
short_apart c entry known text false e = absurd cc

pub compiled_apart : CompiledNamesDiffer
unfolding compiled
compiled_apart entry known None c e = absurd cc
compiled_apart entry known (Some source) c e = short_apart c entry known source (nat_le (length source) most_source) e
