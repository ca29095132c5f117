-- Chains of selectors and of operators: what a link of one has behind the code of what it stands on, and the code of the whole, put
-- from the innermost link outward.
use Rattle.std.specs.Prelude.{ℕ, suc, List, [], ◌∷◌, ◌++◌, Option, Some, None}
use Rattle.ob_types.specs.declared.typed.Connective.TheVariants as connective
use Rattle.ob_types.specs.TypedSyntax.{Desig, OfVariable, Field, Index, Deref, Guard, Expr, Dyadic, Logical}
use Rattle.ob_instr.specs.declared.opcode.Opcode.TheVariants as op
use Rattle.ob_scheme.specs.declared.want.Want.{Want}
use Rattle.ob_scheme.specs.declared.want.Want.TheVariants as want
use Rattle.ob_scheme.specs.Lines.{Line, plain, count, jump, jump_if_false}
use Rattle.ob_scheme.specs.Context.{Context}
use Rattle.ob_scheme.specs.Descriptions.{field_place}
use Rattle.ob_scheme.specs.Operations.{binary_line}
use Rattle.ob_scheme.specs.Coded.{Coded, appended, place_in}
use Rattle.ob_scheme.specs.Expressions.{from_place, from_pointer, from_guard, guard_line, index_line, variable_code, end_expr, expr_code}

-- the left operand of an operator that may stand in a chain
abbrev pub left_of : Expr → Option Expr
left_of (Dyadic o a b at) = Some a
left_of (Logical o a b) = Some a
left_of e = None

-- the lines of a selector alone, behind those of what it selects from; of a variable all its lines
abbrev pub selector_code : Context → Want → Desig → ℕ → List Line
selector_code c w (OfVariable v t) pc = variable_code c w v t
selector_code c w (Field d owner name t) pc = plain op.Offset (count (field_place c.types owner name)) ∷ from_place c w t
selector_code c w (Index d n i at t) pc = expr_code c want.Value i pc ++ (index_line c n t at ∷ from_place c w t)
selector_code c w (Deref d at t) pc = from_pointer c w t at
selector_code c w (Guard d g target at t) pc = guard_line c g target at ∷ from_guard c g w t

-- the lines of an operator and its right operand, behind those of its left one; of any other expression all its lines
abbrev pub operator_code : Context → Want → Expr → ℕ → List Line
operator_code c w (Dyadic o a b at) pc = expr_code c want.Value b pc ++ binary_line o at ∷ []
operator_code c w (Logical connective.And a b) pc =
    let p2 = end_expr c want.Value b (suc pc) in
    jump_if_false (suc p2) ∷ (expr_code c want.Value b (suc pc) ++ jump (suc (suc p2)) ∷ plain op.Int (count 0) ∷ [])
operator_code c w (Logical connective.Or a b) pc =
    let p2 = suc (suc (suc pc)) in
    jump_if_false p2 ∷ plain op.Int (count 1) ∷ jump (end_expr c want.Value b p2) ∷ expr_code c want.Value b p2
operator_code c w e pc = expr_code c w e pc

abbrev pub with_selector : Context → Want → Desig → Coded → Coded
with_selector c w d k = appended k (selector_code c w d (place_in k))

abbrev pub with_operator : Context → Want → Expr → Coded → Coded
with_operator c w e k = appended k (operator_code c w e (place_in k))

-- each step of a list, the last one first
abbrev pub outward : {A B : Type 0} → (A → B → B) → List A → B → B
outward f [] k = k
outward f (x ∷ xs) k = f x (outward f xs k)
