-- Expressions: each rule of a node over what its parts come to.
use Rattle.std.specs.Prelude.{ℕ, zero, suc, ◌+◌, ◌*◌, ◌-◌, Bool, true, false, not, ◌&&◌, ◌||◌, nat_lt, nat_le, List, [], ◌∷◌, map, Option, Some, None, is_some, pos}
use Rattle.ob_tree.specs.declared.pos.Pos.{Pos}
use Rattle.ob_tree.specs.declared.names.QName.{QName}
use Rattle.ob_tree.specs.declared.ident.Ident.{Ident}
use Rattle.ob_tree.specs.declared.ident.Qualident.{Qualident}
use Rattle.ob_tree.specs.declared.expr.Operator.{Operator}
use Rattle.ob_tree.specs.declared.expr.Relation.{Relation}
use Rattle.ob_tree.specs.declared.expr.Relation.TheVariants as relates
use Rattle.ob_tree.specs.declared.expr.Expr.{Expr}
use Rattle.ob_tree.specs.declared.expr.Designator.{Designator}
use Rattle.ob_tree.specs.declared.expr.Element.{Element}
use Rattle.ob_tree.specs.declared.expr.Expr.TheOpen.{Expr-F, Tail-F, Element-F, Designator-F, Selector-F}
use Rattle.ob_tree.specs.declared.expr.Tail.{Tail}
use Rattle.ob_tree.specs.declared.expr.Selector.{Selector}
use Rattle.ob_tree.specs.declared.expr.Expr.TheFolds.{fold-Expr, fold-Designator, fold-Element, fold-Tail, fold-Selector}
use Rattle.ob_types.specs.declared.types.TypeRef.{TypeRef}
use Rattle.ob_types.specs.declared.types.TypeRef.TheVariants as ref
use Rattle.ob_types.specs.declared.types.Basic.TheVariants as basic
use Rattle.ob_types.specs.declared.value.Value.{Value}
use Rattle.ob_types.specs.declared.value.Value.TheVariants as literal
use Rattle.ob_types.specs.declared.typed.ExprType.TheVariants as kind
use Rattle.ob_types.specs.declared.typed.Guarded.{Guarded}
use Rattle.ob_types.specs.declared.typed.Guarded.TheVariants as guarded
use Rattle.ob_types.specs.declared.typed.TypedExpr.TheVariants as e
use Rattle.ob_types.specs.TypedKinds.{of_basic}
use Rattle.ob_types.specs.AssigningTests.{is_value}
use Rattle.ob_rules.specs.declared.meant.Meant.{Meant}
use Rattle.ob_rules.specs.declared.meant.Where.{Where}
use Rattle.ob_rules.specs.declared.meant.ElementOf.{ElementOf}
use Rattle.ob_rules.specs.declared.meant.Meant.TheVariants as means
use Rattle.ob_rules.specs.declared.meant.Where.TheVariants.{InExpression}
use Rattle.ob_rules.specs.Judged.{is_quiet, Judged, sound, silent, breaks, also, wants, found_or, both, each_sound, if_there, made, noted, joined, ◌▷◌}
use Rattle.ob_rules.specs.Shapes.{Map, pointed, pointed_record, record_of}
use Rattle.ob_rules.specs.Names.{Around, map_of, type_named}
use Rattle.ob_rules.specs.declared.values.Place.{Place}
use Rattle.ob_rules.specs.declared.values.Valued.{Valued}
use Rattle.ob_rules.specs.declared.values.Valued.TheVariants as valued
use Rattle.ob_rules.specs.declared.broken.Rule.TheVariants as rule
use Rattle.ob_rules.specs.Values.{constant, computed, value_at, points, type_in, tree, type, constant_in, place_in}
use Rattle.ob_rules.specs.Constants.{text_value}
use Rattle.ob_rules.specs.Operators.{combined, opposite, signed, related, element, set_of}
use Rattle.ob_rules.specs.Calls.{misplaced}
use Rattle.ob_rules.specs.Designators.{designates, guard_of, if_extends}
use Rattle.ob_rules.specs.Phrases.{Phrase, Behind, Dot, Index, Up, Round}

-- LITERALS

abbrev pub digit_of : Bool → ℕ → ℕ
digit_of true c = c - 48
digit_of false c = c - 55

abbrev pub digit : ℕ → ℕ
digit c = digit_of (nat_le c 57) c

abbrev pub number_in : ℕ → ℕ → List ℕ → ℕ
number_in base n [] = n
number_in base n (c ∷ cs) = number_in base (n * base + digit c) cs

-- decimal digits, or hexadecimal ones with H or X behind them
abbrev pub decimal : List ℕ → ℕ
decimal text = number_in 10 0 text

abbrev pub marked : ℕ → List ℕ → ℕ
marked n [] = n
marked n (c ∷ []) = n
marked n (c ∷ d ∷ cs) = marked (n * 16 + digit c) (d ∷ cs)

abbrev pub is_marked : List ℕ → Bool
is_marked [] = false
is_marked (c ∷ []) = nat_le 72 c
is_marked (c ∷ d ∷ cs) = is_marked (d ∷ cs)

abbrev pub integer_by : Bool → List ℕ → ℕ
integer_by true text = marked 0 text
integer_by false text = decimal text

abbrev pub integer_text : List ℕ → ℕ
integer_text text = integer_by (is_marked text) text

-- rule 9: an integer above 2147483647 or a character above 0FFX
abbrev pub integer_literal : Pos → ℕ → Judged Valued
integer_literal at n = wants (nat_le n 2147483647) rule.LiteralTooLarge at (constant (literal.Int (pos n)))

abbrev pub char_literal : Pos → ℕ → Judged Valued
char_literal at n = wants (nat_le n 255) rule.LiteralTooLarge at (constant (literal.Char n))

-- A DESIGNATOR AS A VALUE

abbrev pub procedure_value : Bool → Pos → QName → Valued → Judged Valued
procedure_value true at name x = sound x
procedure_value false at name x = breaks rule.UnfitProcedureValue at

-- rule 39: a predeclared, bound, inner or Out procedure is used as a value
abbrev pub value_meant : Pos → Meant → Judged Valued
value_meant at (means.Place p) = sound (value_at p)
value_meant at (means.Constant v) = sound (constant v)
value_meant at (means.Procedure name s) = procedure_value (is_value name) at name (computed (e.Procedure name s) (kind.Procedure s))
value_meant at (means.Call x) = sound x
value_meant at (means.Statement s) = silent
value_meant at m = breaks rule.UnfitProcedureValue at

abbrev pub name_alone : Ident → List Behind → Option Qualident
name_alone x [] = Some (record { qualifier = None; ident = x })
name_alone x (Dot at y ∷ []) = Some (record { qualifier = Some x; ident = y })
name_alone x bs = None

-- a designator, with its front and what stands behind
pub record Named : Type 0 where
  pub ident : Ident
  pub behind : List Behind

abbrev pub meant_by : Where → Named → Around → Judged Meant
meant_by w n u = designates u w n.ident n.behind

abbrev pub designator_phrase : Named → Phrase
designator_phrase n = record {
  start = n.ident.pos;
  name = name_alone n.ident n.behind;
  meant = Some (meant_by InExpression n);
  value = λ u. meant_by InExpression n u ▷ value_meant n.ident.pos;
}

-- TESTS

-- what is tested is a pointer, or a VAR parameter of a record type
abbrev pub var_record_in : Option Place → Bool
var_record_in None = false
var_record_in (Some p) = p.var_record

abbrev pub testable : Map → Valued → Bool
testable map x = points map (type x) || var_record_in (place_in x)

abbrev pub record_if : Map → Option TypeRef → Option QName
record_if map None = None
record_if map (Some t) = pointed_record map t

abbrev pub record_test : Place → Option (Guarded × QName) → Option Valued
record_test p None = None
record_test p (Some g) = Some (computed (e.IsRecord p.designator.inner g.1) (of_basic basic.Boolean))

abbrev pub pointer_test : Valued → Option (Guarded × QName) → Option Valued
pointer_test x None = None
pointer_test x (Some g) = Some (computed (e.IsPointer (tree x) g.1) (of_basic basic.Boolean))

abbrev pub test_record : Map → Option Place → TypeRef → Option Valued
test_record map None t = None
test_record map (Some p) t = record_test p (guard_of map p t)

-- a pointer of whatever origin is tested by its value
abbrev pub test_of : Map → Valued → TypeRef → Option QName → Option Valued
test_of map x t (Some a) = pointer_test x (if_extends map guarded.Pointer (Some a) (pointed_record map t))
test_of map x t None = test_record map (place_in x) t

-- rule 23: a test whose type is no extension of the static type, or on what is neither pointer nor VAR record parameter
abbrev pub test : Map → Pos → Valued → TypeRef → Judged Valued
test map at x t = found_or rule.UnfitTypeTest at (test_of map x t (record_if map (type_in (type x))))

abbrev pub untestable : Map → Pos → Judged Valued → Judged Valued
untestable map at x = x ▷ λ v. wants (testable map v) rule.UnfitTypeTest at v

-- a type's name behind IS, judged by itself
abbrev pub type_test : Around → Pos → Judged Valued → Qualident → Judged Valued
type_test u at x q = both (untestable (map_of u) at x) (type_named u q) ▷ λ p. test (map_of u) at p.0 p.1

-- rule 21: something else
abbrev pub other_test : Map → Pos → Judged Valued → Judged Valued → Judged Valued
other_test map at x y = both x y ▷ λ p. also (not (testable map p.0)) rule.UnfitTypeTest at (breaks rule.UnfitOperands at)

abbrev pub is_test : Around → Pos → Judged Valued → Phrase → Option Qualident → Judged Valued
is_test u at x r (Some q) = type_test u at x q
is_test u at x r None = other_test (map_of u) at x (r.value u)

-- NODES

-- an expression that is no designator
abbrev pub phrase : Pos → (Around → Judged Valued) → Phrase
phrase start f = record { start = start; name = None; meant = None; value = f }

pub record Tailed : Type 0 where
  pub operator : Operator
  pub at : Pos
  pub operand : Phrase

abbrev pub combine_all : Around → List Tailed → Judged Valued → Judged Valued
combine_all u [] x = x
combine_all u (t ∷ ts) x = combine_all u ts (both x (t.operand.value u) ▷ λ p. combined (map_of u) t.operator t.at p.0 p.1)

-- a value in round brackets is no variable that is tested or passed
abbrev pub bracketed : Valued → Valued
bracketed (valued.Place p) = value_at (record p { var_record = false })
bracketed x = x

pub record Ranged : Type 0 where
  pub low : Phrase
  pub high : Option Phrase

abbrev pub value_if : Around → Option Phrase → Judged (Option Valued)
value_if u None = sound None
value_if u (Some p) = made (λ x. Some x) (p.value u)

abbrev pub element_value : Around → Ranged → Judged ElementOf
element_value u r = both (r.low.value u) (value_if u r.high) ▷ λ p. element (map_of u) r.low.start p.0 p.1

abbrev pub relation_of : Around → Relation → Pos → Judged Valued → Phrase → Judged Valued
relation_of u relates.Is at x r = is_test u at x r r.name
relation_of u op at x r = both x (r.value u) ▷ λ p. related (map_of u) op at p.0 p.1

abbrev pub relation_value : Around → Relation → Pos → Phrase → Phrase → Judged Valued
relation_value u op at l r = relation_of u op at (l.value u) r

abbrev pub expr_rule : Expr-F Phrase Behind Named Ranged Tailed → Phrase
expr_rule (Expr-F.Designator n) = designator_phrase n
expr_rule (Expr-F.Int at text) = phrase at (λ u. integer_literal at (integer_text text))
expr_rule (Expr-F.Char at text) = phrase at (λ u. char_literal at (marked 0 text))
expr_rule (Expr-F.Str at text) = phrase at (λ u. sound (constant (text_value text)))
expr_rule (Expr-F.Nil at) = phrase at (λ u. sound (constant literal.Nil))
expr_rule (Expr-F.Set at xs) = phrase at (λ u. made set_of (each_sound (map (element_value u) xs)))
expr_rule (Expr-F.Paren at x) = phrase at (λ u. made bracketed (x.value u))
expr_rule (Expr-F.Not at x) = phrase at (λ u. x.value u ▷ opposite (map_of u) at)
expr_rule (Expr-F.Signed s at x) = phrase at (λ u. x.value u ▷ signed (map_of u) s at)
expr_rule (Expr-F.Chain x ts) = phrase x.start (λ u. combine_all u ts (x.value u))
expr_rule (Expr-F.Relate l op at r) = phrase l.start (λ u. relation_value u op at l r)

abbrev pub tail_rule : Tail-F Phrase Behind Named Ranged Tailed → Tailed
tail_rule t = record { operator = t.operator; at = t.pos; operand = t.operand }

abbrev pub element_rule : Element-F Phrase Behind Named Ranged Tailed → Ranged
element_rule x = record { low = x.low; high = x.high }

abbrev pub designator_rule : Designator-F Phrase Behind Named Ranged Tailed → Named
designator_rule n = record { ident = n.ident; behind = n.selectors }

abbrev pub selector_rule : Selector-F Phrase Behind Named Ranged Tailed → Behind
selector_rule (Selector-F.Field at x) = Dot at x
selector_rule (Selector-F.Index at i) = Index at i
selector_rule (Selector-F.Deref at) = Up at
selector_rule (Selector-F.Call at xs) = Round at xs

-- an expression, a designator, an element
abbrev pub phrase_of : Expr → Phrase
phrase_of = fold-Expr Phrase Behind Named Ranged Tailed expr_rule selector_rule designator_rule element_rule tail_rule

abbrev pub named_of : Designator → Named
named_of = fold-Designator Phrase Behind Named Ranged Tailed expr_rule selector_rule designator_rule element_rule tail_rule

abbrev pub ranged_of : Element → Ranged
ranged_of = fold-Element Phrase Behind Named Ranged Tailed expr_rule selector_rule designator_rule element_rule tail_rule

abbrev pub tailed_of : Tail → Tailed
tailed_of = fold-Tail Phrase Behind Named Ranged Tailed expr_rule selector_rule designator_rule element_rule tail_rule

abbrev pub behind_of : Selector → Behind
behind_of = fold-Selector Phrase Behind Named Ranged Tailed expr_rule selector_rule designator_rule element_rule tail_rule

-- CONSTANT EXPRESSIONS

abbrev pub constant_of : Pos → Option Value → Judged Value
constant_of start None = breaks rule.NotConstant start
constant_of start (Some v) = sound v

abbrev pub constant_if : Pos → Option Valued → Bool → Judged Value
constant_if start (Some x) quiet = constant_of start (constant_in x)
constant_if start None true = breaks rule.NotConstant start
constant_if start None false = silent

abbrev pub constant_judged : Pos → Judged Valued → Judged Value
constant_judged start j = noted j.notes (constant_if start j.node (is_quiet j.notes.broken))

-- rule 10: an expression is not constant where one must be. It speaks also where the expression names what is not known yet, and no rule speaks of that
abbrev pub constant_value : Around → Phrase → Judged Value
constant_value u p = constant_judged p.start (p.value u)
