-- What the rules find where they are kept: constants, variables, expressions and what designators come to, well typed.
use Rattle.std.specs.Prelude.{◌≡◌, ℕ, List, Option, Bool, true}
use Rattle.ob_tree.specs.declared.names.QName.{QName}
use Rattle.ob_types.specs.declared.types.TypeRef.{TypeRef}
use Rattle.ob_types.specs.declared.typed.ExprType.{ExprType}
use Rattle.ob_types.specs.declared.typed.ExprType.TheVariants as kind
use Rattle.ob_types.specs.TypedSyntax.{Desig, Expr}
use Rattle.ob_types.specs.TypedKinds.{variable_type}
use Rattle.ob_types.specs.TypedView.{designator_view, expr_view}
use Rattle.ob_meaning.specs.Values.{Program, Form, ProcedureForm, Formals, form_in, formals_in, Held}
use Rattle.law_simulation_relation.specs.Relation.{Scalar}
use Rattle.law_simulation_relation.specs.Typed as typed
use Rattle.law_simulation_relation.specs.Typed.{IsVariableRecord}
use Rattle.ob_rules.specs.declared.values.Place.{Place}
use Rattle.ob_rules.specs.declared.values.Valued.{Valued}
use Rattle.ob_rules.specs.declared.values.Valued.TheVariants as valued
use Rattle.ob_rules.specs.Shapes.{Map, is_record}
use Rattle.law_typing.specs.Forms.{IsDeclared, IsKnown, SignatureIs, Widens}
use Rattle.law_typing.specs.Known.{ConstantIs}

module _ (program : Program) (Has : Formals → QName → Type 0) (unit : List ℕ) (held : List Held) (result : Option TypeRef) where
  -- a designator is well typed, and of that type; perhaps a VAR parameter of a record type
  pub record DesignatorIs (map : Map) (d : Desig) (t : TypeRef) (var_record : Bool) : Type 0 where
    pub fits : typed.DesigOk program Has unit held result d
    pub of_type : variable_type d ≡ t
    pub declared : IsKnown map t
    pub is_parameter : var_record ≡ true → IsVariableRecord d × (is_record map t ≡ true)

  abbrev pub PlaceIs : Map → Place → Type 0
  PlaceIs map p = DesignatorIs map (designator_view p.designator.inner) p.of p.var_record

  -- a node fits its type and each one that its type widens to; a procedure fits the procedure type of its signature
  abbrev pub NodeIs : Map → Expr → ExprType → Type 0
  NodeIs map x (kind.Of t) = IsDeclared t × Scalar (form_in program t) × ((v : Form) → Widens program Has unit held result (form_in program t) v → typed.ExprOk program Has unit held result x v)
  NodeIs map x (kind.Procedure s) = SignatureIs program map s × typed.ExprOk program Has unit held result x (ProcedureForm (formals_in program s))
  NodeIs map x k = ⊥

  abbrev pub ValuedIs : Map → Valued → Type 0
  ValuedIs map (valued.Constant v) = ConstantIs v
  ValuedIs map (valued.Place p) = PlaceIs map p
  ValuedIs map (valued.Node n) = NodeIs map (expr_view n.tree.inner) n.of
