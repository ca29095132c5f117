-- The law: the statements of a module that is read and keeps the rules fit, where what interfaces show is in range and chains end.
use Rattle.std.specs.Prelude.{◌≡◌, ℕ, ◌<◌, ◌^◌, List, length, Option, Some, None, Ok, true, false, bytes_eq}
use Rattle.std.specs.List.{AllByRecursion}
use Rattle.ob_tree.specs.declared.names.QName.{QName}
use Rattle.ob_tree.specs.declared.ident.Mark.{Mark}
use Rattle.ob_tree.specs.declared.decl.Module.{Module as Tree}
use Rattle.ob_types.specs.declared.types.TypeRef.{TypeRef}
use Rattle.ob_types.specs.declared.types.TypeRef.TheVariants as ref
use Rattle.ob_types.specs.declared.value.Value.{Value}
use Rattle.ob_types.specs.declared.desc.Desc.{Desc}
use Rattle.ob_types.specs.declared.desc.Desc.TheVariants as desc
use Rattle.ob_types.specs.declared.typed.TypedModule.{TypedModule}
use Rattle.ob_types.specs.TypedSyntax.{Module}
use Rattle.ob_types.specs.TypedView.{module_view}
use Rattle.ob_layout.specs.LaidOut.{laid_out, viewed}
use Rattle.ob_env.specs.Faces.{Face, described}
use Rattle.ob_env.specs.Fit.{first_unfit, is_within}
use Rattle.ob_env.specs.Shown.{shown}
use Rattle.ob_parse_grammar.specs.TextReading.{reading}
use Rattle.ob_rules.specs.Declarations.{checked}
use Rattle.law_names_distinct.specs.Distinct.{AreDistinct}
use Rattle.law_typing.specs.Known.{ConstantIs}
use Rattle.law_spelling.specs.Laws.{Text, IsSpelled}
use Rattle.law_spelling.specs.Seen.{LengthFits}
use Rattle.law_spelling_stmts.specs.Laws.{AreFitting}

-- the constants and the lengths of arrays that are shown are in range
pub record AreInRange (shown : QName → Option Desc) : Type 0 where
  pub constants : (q : QName) (v : Value) → shown q ≡ Some (desc.Const v) → ConstantIs v
  pub lengths : (q : QName) (m : Mark) (n : ℕ) (t : TypeRef) → shown q ≡ Some (desc.Array m n t) → n < 2 ^ 31

-- of a module: its arrays are short, and the chains of its types end
pub record AreBounded (types : QName → Option Desc) (m : Module) : Type 0 where
  pub lengths : AllByRecursion (λ t. LengthFits t.desc) m.types
  pub grounded : AllByRecursion (λ t. is_within types 200 (ref.Named (record { «module» = m.name; object = t.name })) ≡ true) m.types

-- THE STATEMENTS of a module that is read from a text of fewer than 2^30 characters, and keeps the rules against interfaces that have a
-- spelling and fit together, none of them its own, fit: places, constants, numbers, and the room of strings.
abbrev pub ModulesFit : Type 0
ModulesFit = (faces : List (Face Text)) → AllByRecursion IsSpelled faces → AreInRange (shown faces) → first_unfit faces ≡ None → (text : List ℕ) → length text < 2 ^ 30 → (tree : Tree) → reading text ≡ Ok tree → AllByRecursion (λ f. bytes_eq f.«module» tree.name.name ≡ false) faces → (m : TypedModule) → checked (shown faces) tree ≡ Some m → AreDistinct (λ t. t.name) m.types →
    AreBounded (viewed (described faces) (laid_out (described faces) (module_view m))) (laid_out (described faces) (module_view m)) →
    AreFitting (viewed (described faces) (laid_out (described faces) (module_view m))) (laid_out (described faces) (module_view m))
