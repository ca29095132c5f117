-- The law of names: what the statements of a checked module name of other modules has a spelling.
use Rattle.std.specs.Prelude.{◌≡◌, List, Option, Some, None, false}
use Rattle.std.specs.List.{AllByRecursion}
use Rattle.ob_tree.specs.declared.names.QName.{QName}
use Rattle.ob_tree.specs.declared.decl.Module.{Module as Tree}
use Rattle.ob_types.specs.declared.desc.Desc.{Desc}
use Rattle.ob_types.specs.declared.typed.TypedModule.{TypedModule}
use Rattle.ob_types.specs.TypedSyntax.{Module}
use Rattle.ob_types.specs.TypedView.{module_view}
use Rattle.ob_layout.specs.Words.{words_of}
use Rattle.ob_layout.specs.LaidOut.{viewed, laid_out}
use Rattle.ob_env.specs.Faces.{Face, described}
use Rattle.ob_env.specs.Fit.{first_unfit}
use Rattle.ob_env.specs.Shown.{shown}
use Rattle.ob_scheme.specs.Procedures.{body_of, within}
use Rattle.ob_rules.specs.Declarations.{checked}
use Rattle.law_names_distinct.specs.Distinct.{AreDistinct}
use Rattle.law_spelling.specs.Coded.{BodyIsCoded, StmtsAreCoded}
use Rattle.law_spelling.specs.Laws.{Text, IsSpelled}
use Rattle.law_spelling_stmts.specs.Fits.{StmtsFit, BodyFits}

-- what is asked of the statements of a module, by its descriptions
pub record AreCoded (types : QName → Option Desc) (m : Module) : Type 0 where
  pub bodies : AllByRecursion (BodyIsCoded types m) m.procedures
  pub body : StmtsAreCoded (within types m (body_of m)) false m.body

-- the same, but for names
pub record AreFitting (types : QName → Option Desc) (m : Module) : Type 0 where
  pub bodies : AllByRecursion (BodyFits types) m.procedures
  pub body : StmtsFit (words_of types) false m.body

-- THE NAMES in the statements of a module, whose types differ in name, and that keeps the rules against interfaces that have a spelling and
-- fit together, have a spelling: where all else fits, all that is asked of them is so.
abbrev pub NamesAreCoded : Type 0
NamesAreCoded =
    (faces : List (Face Text)) → AllByRecursion IsSpelled faces → first_unfit faces ≡ None → (tree : Tree) (m : TypedModule) → checked (shown faces) tree ≡ Some m → AreDistinct (λ t. t.name) m.types
    → AreFitting (viewed (described faces) (laid_out (described faces) (module_view m))) (laid_out (described faces) (module_view m)) → AreCoded (viewed (described faces) (laid_out (described faces) (module_view m))) (laid_out (described faces) (module_view m))
