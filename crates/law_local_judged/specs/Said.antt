-- What notes and checked nodes mention, among the names that count.
use Rattle.std.specs.Prelude.{◌≡◌, List, [], ◌∷◌, Option, Some, None}
use Rattle.std.specs.List.{AllByRecursion}
use Rattle.ob_tree.specs.declared.names.QName.{QName}
use Rattle.ob_types.specs.declared.types.Signature.{Signature}
use Rattle.ob_types.specs.declared.typed.Designator.{Designator}
use Rattle.ob_types.specs.declared.typed.TypedExpr.{TypedExpr}
use Rattle.ob_types.specs.declared.typed.Actual.{Actual}
use Rattle.ob_types.specs.declared.typed.TypedStmt.{TypedStmt}
use Rattle.ob_types.specs.declared.typed.TypedProcedure.{TypedProcedure}
use Rattle.ob_types.specs.declared.typed.TypedModule.{TypedModule}
use Rattle.ob_types.specs.declared.typed.ExprType.{ExprType}
use Rattle.ob_types.specs.declared.typed.ExprType.TheVariants as kind
use Rattle.ob_types.specs.declared.value.Value.{Value}
use Rattle.ob_types.specs.Maps.{signature_types}
use Rattle.ob_types.specs.TypedView.{designator_view, expr_view, actual_view, stmt_view}
use Rattle.ob_uses_roots.specs.Counts.{Count, Shapes, Layouts, counts_of_designator, counts_of_expr, counts_of}
use Rattle.ob_rules.specs.declared.values.Place.{Place}
use Rattle.ob_rules.specs.declared.values.Valued.{Valued}
use Rattle.ob_rules.specs.declared.values.Valued.TheVariants as valued
use Rattle.ob_rules.specs.declared.meant.Chosen.{Chosen}
use Rattle.ob_rules.specs.declared.meant.ElementOf.{ElementOf}
use Rattle.ob_rules.specs.declared.meant.Meant.{Meant}
use Rattle.ob_rules.specs.declared.meant.Meant.TheVariants as means
use Rattle.ob_rules.specs.Judged.{Notes}
use Rattle.ob_rules.specs.Values.{type}
use Rattle.law_local_judged.specs.Agreement.{IsIn, AreIn}

-- the types in a signature are among these
abbrev pub SignatureIn : (QName → Type 0) → Signature → Type 0
SignatureIn P s = AreIn P (signature_types s)

-- the types in what an expression is are among these
abbrev pub KindIn : (QName → Type 0) → ExprType → Type 0
KindIn P (kind.Of t) = IsIn P t
KindIn P (kind.Procedure s) = SignatureIn P s
KindIn P k = Unit {0}

-- the types whose shapes count are among these
abbrev pub CountsIn : (QName → Type 0) → List Count → Type 0
CountsIn P [] = Unit {0}
CountsIn P (Shapes t ∷ cs) = IsIn P t × CountsIn P cs
CountsIn P (Layouts t ∷ cs) = CountsIn P cs

abbrev pub DesignatorIn : (QName → Type 0) → Designator → Type 0
DesignatorIn P x = CountsIn P (counts_of_designator (designator_view x))

abbrev pub ExprIn : (QName → Type 0) → TypedExpr → Type 0
ExprIn P x = CountsIn P (counts_of_expr (expr_view x))

abbrev pub StmtIn : (QName → Type 0) → TypedStmt → Type 0
StmtIn P x = CountsIn P (counts_of (stmt_view x))

-- what notes name is among these: objects of other modules, the types of MAX and MIN, and the designators of each LEN that is a constant
pub record SaidIn (P : QName → Type 0) (n : Notes) : Type 0 where
  pub objects : AllByRecursion P n.objects
  pub types : AreIn P n.types
  pub lengths : AllByRecursion (DesignatorIn P) n.lengths

abbrev pub PlaceIn : (QName → Type 0) → Place → Type 0
PlaceIn P p = DesignatorIn P p.designator.inner

abbrev pub ValuedIn : (QName → Type 0) → Valued → Type 0
ValuedIn P (valued.Constant v) = Unit {0}
ValuedIn P (valued.Place p) = PlaceIn P p
ValuedIn P (valued.Node n) = ExprIn P n.tree.inner

abbrev pub MeantIn : (QName → Type 0) → Meant → Type 0
MeantIn P (means.Place p) = PlaceIn P p
MeantIn P (means.Bound c) = PlaceIn P c.receiver
MeantIn P (means.Call x) = ValuedIn P x
MeantIn P (means.Statement s) = StmtIn P s.inner
MeantIn P m = Unit {0}

-- an actual parameter, with its formal one
abbrev pub ActualIn : (QName → Type 0) → Actual → Type 0
ActualIn P a = IsIn P (actual_view a).formal × CountsIn P (counts_of_expr (actual_view a).e)

-- an element of a set: a constant one mentions nothing
abbrev pub ElementBy : (QName → Type 0) → Option Value → TypedExpr → Type 0
ElementBy P None t = ExprIn P t
ElementBy P (Some c) t = Unit {0}

abbrev pub ElementIn : (QName → Type 0) → ElementOf → Type 0
ElementIn P x = ElementBy P x.constant x.node.inner

-- the type of a value is mentioned where its node is
abbrev pub ValuedTied : (QName → Type 0) → Valued → Type 0
ValuedTied P x = ValuedIn P x → KindIn P (type x)

abbrev pub PlaceTied : (QName → Type 0) → Place → Type 0
PlaceTied P p = PlaceIn P p → IsIn P p.of

-- the records of a bound procedure that is selected
pub record ChosenIn (P : QName → Type 0) (c : Chosen) : Type 0 where
  pub receiver : IsIn P c.receiver.of
  pub owner : P c.owner
  pub base : (b : QName) → c.base ≡ Some b → P b

abbrev pub MeantTied : (QName → Type 0) → Meant → Type 0
MeantTied P (means.Place p) = PlaceTied P p
MeantTied P (means.Bound c) = PlaceIn P c.receiver → ChosenIn P c
MeantTied P (means.Call x) = ValuedTied P x
MeantTied P m = Unit {0}

-- what a checked module mentions is among these: its notes, and the statements of its procedures and its body
pub record ModuleIn (P : QName → Type 0) (m : TypedModule) : Type 0 where
  pub objects : AllByRecursion P m.mentioned.objects
  pub types : AreIn P m.mentioned.types
  pub lengths : AllByRecursion (DesignatorIn P) m.mentioned.lengths
  pub bodies : AllByRecursion (λ (p : TypedProcedure). AllByRecursion (StmtIn P) p.body) m.procedures
  pub body : AllByRecursion (StmtIn P) m.body
