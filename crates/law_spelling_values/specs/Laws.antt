-- The laws of constants and lengths: those that interfaces show, and those of a module that is read and keeps the rules.
use Rattle.std.specs.Prelude.{◌≡◌, ℕ, List, Option, Some, None, Ok, false, bytes_eq}
use Rattle.std.specs.List.{AllByRecursion}
use Rattle.ob_tree.specs.declared.decl.Module.{Module as Tree}
use Rattle.ob_types.specs.declared.typed.TypedModule.{TypedModule}
use Rattle.ob_types.specs.TypedSyntax.{Module}
use Rattle.ob_env.specs.Faces.{Face}
use Rattle.ob_env.specs.Fit.{first_unfit}
use Rattle.ob_env.specs.Shown.{shown}
use Rattle.ob_env_walk.specs.Walk.{Entry}
use Rattle.ob_parse_grammar.specs.TextReading.{reading}
use Rattle.ob_compile_model.specs.Compiling.{Compiled, texts, compiled}
use Rattle.ob_rules.specs.Declarations.{checked}
use Rattle.law_body_context.specs.Laws.{AreOthers}
use Rattle.law_body_context.specs.ConstantLaws.{AreShown}
use Rattle.law_spelling.specs.Laws.{Text, IsSpelled}
use Rattle.law_spelling.specs.Seen.{AreNamedEntries, LengthFits, ValueFits}

-- THE CONSTANTS AND THE LENGTHS of arrays that interfaces show are constants, where each interface has a spelling.
abbrev pub SpelledAreShown : Type 0
SpelledAreShown = (faces : List (Face Text)) → AllByRecursion IsSpelled faces → AreShown (shown faces)

-- constants are of their types, and lengths of LONGINT
pub record IsInRange (m : TypedModule) : Type 0 where
  pub constants : AllByRecursion (λ c. ValueFits c.value) m.constants
  pub lengths : AllByRecursion (λ t. LengthFits t.desc) m.types

-- SO THEY ARE of a module that is read, imports others than itself, and keeps the rules against such interfaces, which fit together.
abbrev pub ModulesAreInRange : Type 0
ModulesAreInRange = (faces : List (Face Text)) → AllByRecursion IsSpelled faces → (text : List ℕ) (tree : Tree) → reading text ≡ Ok tree → AreOthers tree.name.name tree.imports → AllByRecursion (λ f. bytes_eq f.«module» tree.name.name ≡ false) faces → first_unfit faces ≡ None → (m : TypedModule) → checked (shown faces) tree ≡ Some m → IsInRange m

-- so is a module that is laid out
pub record AreInRange (m : Module) : Type 0 where
  pub constants : AllByRecursion (λ c. ValueFits c.value) m.constants
  pub lengths : AllByRecursion (λ t. LengthFits t.desc) m.types

-- and that of each source that compiles, against interfaces that have a spelling
abbrev pub CompiledAreInRange : Type 0
CompiledAreInRange = (entry : List ℕ → Entry Text) → AreNamedEntries entry → (source : Option (List ℕ)) (c : Compiled Text) → compiled texts entry source ≡ Ok c → AllByRecursion IsSpelled c.against → AreInRange c.tree
