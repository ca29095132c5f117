-- The law: the rules of the language look at nothing of other modules but what counts for the module at hand.
use Rattle.std.specs.Prelude.{◌≡◌, ◌⊎◌, ℕ, true, false, List, Some, None, Ok, bytes_eq}
use Rattle.std.specs.List.{AllByRecursion}
use Rattle.ob_tree.specs.declared.names.QName.{QName}
use Rattle.ob_tree.specs.declared.decl.Module.{Module as Tree}
use Rattle.ob_types.specs.declared.typed.TypedModule.{TypedModule}
use Rattle.ob_types.specs.TypedSyntax.{Module}
use Rattle.ob_types.specs.TypedView.{module_view}
use Rattle.ob_layout.specs.LaidOut.{is_own}
use Rattle.ob_env.specs.Faces.{Face}
use Rattle.ob_env.specs.Fit.{first_unfit}
use Rattle.ob_env.specs.Shown.{shown}
use Rattle.ob_rules.specs.Declarations.{checked}
use Rattle.law_names_distinct.specs.Distinct.{AreDistinct}
use Rattle.ob_parse_grammar.specs.TextReading.{reading}
use Rattle.law_local_files.specs.Agreeing.{IsNear}
use Rattle.law_local_files.specs.Laws.{Text, HaveNoOut, over, view}
use Rattle.law_local_module.specs.Laws.{AreOthers, IsSameThere}

-- WHAT COUNTS for a module against these interfaces: what is near it, and its own names
abbrev pub CountsFor : List (Face Text) → Module → QName → Type 0
CountsFor faces m q = IsNear (view faces m) (over faces m) q ⊎ (is_own m q ≡ true)

-- other interfaces show the same of all that counts for the module
abbrev pub ShowAlike : List (Face Text) → List (Face Text) → Module → Type 0
ShowAlike faces others m = (q : QName) → CountsFor faces m q → shown others q ≡ shown faces q

-- The interfaces that a module is checked against fit, and none of them is of Out or of the module, which does not import itself.
pub record AreApart (faces : List (Face Text)) (tree : Tree) : Type 0 where
  pub fit : first_unfit faces ≡ None
  pub out : HaveNoOut faces
  pub others : AllByRecursion (λ f. bytes_eq f.«module» tree.name.name ≡ false) faces
  pub imports : AreOthers tree.name.name tree.imports

-- THE LAW: a module that breaks no rule, and whose types differ in name, is the same checked module, without a broken rule, against
-- others that show alike what counts for it.
abbrev pub RulesAreLocal : Type 0
RulesAreLocal =
    (faces others : List (Face Text)) (text : List ℕ) (tree : Tree) (m : TypedModule) → reading text ≡ Ok tree → checked (shown faces) tree ≡ Some m → AreDistinct (λ t. t.name) m.types
    → AreApart faces tree → HaveNoOut others → ShowAlike faces others (module_view m) → IsSameThere (shown others) tree m
