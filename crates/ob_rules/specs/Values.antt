-- Checked expressions and variables, with what later rules ask of them.
use Rattle.std.specs.Prelude.{ℕ, Bool, true, false, List, [], ◌∷◌, Option, Some, None, is_some}
use Rattle.ob_tree.specs.declared.pos.Pos.{Pos}
use Rattle.ob_tree.specs.declared.names.QName.{QName}
use Rattle.ob_types.specs.declared.types.Basic.{Basic}
use Rattle.ob_types.specs.declared.types.Basic.TheVariants as basic
use Rattle.ob_types.specs.declared.types.TypeRef.{TypeRef}
use Rattle.ob_types.specs.declared.types.TypeRef.TheVariants as ref
use Rattle.ob_types.specs.declared.types.Signature.{Signature}
use Rattle.ob_types.specs.declared.value.Value.{Value}
use Rattle.ob_types.specs.declared.value.Value.TheVariants as literal
use Rattle.ob_types.specs.declared.typed.Width.{Width}
use Rattle.ob_types.specs.declared.typed.TypedExpr.{TypedExpr}
use Rattle.ob_types.specs.declared.typed.TypedExpr.TheVariants as e
use Rattle.ob_types.specs.declared.typed.ExprType.{ExprType}
use Rattle.ob_types.specs.declared.typed.ExprType.TheVariants as kind
use Rattle.ob_types.specs.Assigning.{characters}
use Rattle.ob_types.specs.AssigningTests.{takes_kind, takes_constant, alike_to}
use Rattle.ob_types.specs.TypedKinds.{constant_type}
use Rattle.ob_rules.specs.declared.values.Place.{Place}
use Rattle.ob_rules.specs.declared.values.Valued.{Valued}
use Rattle.ob_rules.specs.declared.values.Valued.TheVariants as valued
use Rattle.ob_rules.specs.Shapes.{Map, is_basic, basic_of, width_of, is_char_array, is_pointer, signature_at}

abbrev pub constant : Value → Valued
constant v = valued.Constant v

abbrev pub computed : TypedExpr → ExprType → Valued
computed t k = valued.Node (record { tree = record { inner = t }; of = k })

abbrev pub value_at : Place → Valued
value_at p = valued.Place p

-- its node
abbrev pub tree : Valued → TypedExpr
tree (valued.Constant v) = e.Constant v
tree (valued.Place p) = e.Designator p.designator.inner
tree (valued.Node n) = n.tree.inner

-- its type
abbrev pub type : Valued → ExprType
type (valued.Constant v) = constant_type v
type (valued.Place p) = kind.Of p.of
type (valued.Node n) = n.of

-- the constant that it is
abbrev pub constant_in : Valued → Option Value
constant_in (valued.Constant v) = Some v
constant_in x = None

-- the variable that it is
abbrev pub place_in : Valued → Option Place
place_in (valued.Place p) = Some p
place_in x = None

-- the type, where it is one with a name
abbrev pub type_in : ExprType → Option TypeRef
type_in (kind.Of t) = Some t
type_in k = None

abbrev pub type_is : (TypeRef → Bool) → ExprType → Bool
type_is f (kind.Of t) = f t
type_is f k = false

abbrev pub is : Map → Basic → Valued → Bool
is map b x = type_is (is_basic map b) (type x)

abbrev pub width_in : Map → ExprType → Option Width
width_in map (kind.Of t) = width_of (basic_of map t)
width_in map k = None

-- the width of an integer
abbrev pub width : Map → Valued → Option Width
width map x = width_in map (type x)

abbrev pub is_integer : Map → Valued → Bool
is_integer map x = is_some (width map x)

abbrev pub text_in : Option Value → Option (List ℕ)
text_in None = None
text_in (Some v) = characters v

-- the characters of a string or of a character constant
abbrev pub text_of : Valued → Option (List ℕ)
text_of x = text_in (constant_in x)

abbrev pub is_chars : Map → Valued → Bool
is_chars map x = type_is (is_char_array map) (type x)

abbrev pub is_nil : ExprType → Bool
is_nil kind.Nil = true
is_nil k = false

abbrev pub points : Map → ExprType → Bool
points map k = type_is (is_pointer map) k

-- the parameters of a procedure value
abbrev pub signature : Map → ExprType → Option Signature
signature map (kind.Of t) = signature_at map t
signature map (kind.Procedure s) = Some s
signature map k = None

-- as an array, a string of one character is no character
abbrev pub as_text : Option Value → TypedExpr → TypedExpr
as_text (Some (literal.Char c)) t = e.Constant (literal.Str (c ∷ []))
as_text v t = t

abbrev pub text_tree : Valued → TypedExpr
text_tree x = as_text (constant_in x) (tree x)

abbrev pub takes_value_of : Map → TypeRef → ExprType → Bool
takes_value_of map t (kind.Procedure s) = alike_to map s (signature_at map t)
takes_value_of map t k = takes_kind map t k

abbrev pub takes_by : Map → TypeRef → Option Value → ExprType → Bool
takes_by map t (Some v) k = takes_constant map t v
takes_by map t None k = takes_value_of map t k

-- whether a variable of that type takes the value: `takes` of its node, whose type and constant these are, where a procedure is one that may be a value
abbrev pub fits : Map → TypeRef → Valued → Bool
fits map t x = takes_by map t (constant_in x) (type x)
