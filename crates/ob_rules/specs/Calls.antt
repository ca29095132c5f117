-- Calls of declared, bound and built-in procedures, and of procedure variables.
use Rattle.std.specs.Prelude.{ℕ, zero, suc, Bool, true, false, not, ◌&&◌, ◌||◌, nat_eq, List, [], ◌∷◌, ◌++◌, length, Option, Some, None, is_some, is_none, bytes_eq}
use Rattle.std.specs.List.{find}
use Rattle.ob_tree.specs.declared.pos.Pos.{Pos}
use Rattle.ob_tree.specs.declared.names.QName.{QName}
use Rattle.ob_types.specs.declared.types.Basic.TheVariants as basic
use Rattle.ob_types.specs.declared.types.Mode.{Mode}
use Rattle.ob_types.specs.declared.types.Mode.TheVariants as mode
use Rattle.ob_types.specs.declared.types.TypeRef.{TypeRef}
use Rattle.ob_types.specs.declared.types.TypeRef.TheVariants as ref
use Rattle.ob_types.specs.declared.types.Signature.{Signature}
use Rattle.ob_types.specs.declared.desc.Receiver.{Receiver}
use Rattle.ob_types.specs.declared.desc.Receiver.TheVariants as receiver
use Rattle.ob_types.specs.declared.typed.Passing.{Passing}
use Rattle.ob_types.specs.declared.typed.Passing.TheVariants as passing
use Rattle.ob_types.specs.declared.typed.OutProcedure.{OutProcedure}
use Rattle.ob_types.specs.declared.typed.OutProcedure.TheVariants as out
use Rattle.ob_types.specs.declared.typed.Family.{Family}
use Rattle.ob_types.specs.declared.typed.Callee.{Callee}
use Rattle.ob_types.specs.declared.typed.Callee.TheVariants as callee
use Rattle.ob_types.specs.declared.typed.Actual.{Actual, roll-Actual}
use Rattle.ob_types.specs.declared.typed.TypedExpr.{TypedExpr}
use Rattle.ob_types.specs.declared.typed.TypedExpr.TheVariants as e
use Rattle.ob_types.specs.TypedKinds.{result_type}
use Rattle.ob_types.specs.Tests.{same_at}
use Rattle.ob_rules.specs.declared.entity.Bound.{Bound}
use Rattle.ob_rules.specs.declared.meant.Chosen.{Chosen}
use Rattle.ob_rules.specs.declared.meant.Meant.{Meant}
use Rattle.ob_rules.specs.declared.meant.Where.{Where}
use Rattle.ob_rules.specs.declared.meant.Meant.TheVariants as means
use Rattle.ob_rules.specs.declared.meant.Where.TheVariants.{InExpression, AsStatement, Elsewhere}
use Rattle.ob_rules.specs.Judged.{Judged, sound, silent, breaks, also, wants, both, noted, ◌▷◌}
use Rattle.ob_rules.specs.Shapes.{Map, shape, open_element, array_of, element_is, passing_of, record_of, extends_record, is_array, base_record}
use Rattle.ob_rules.specs.Names.{bound_for, Around, map_of, out_string}
use Rattle.ob_rules.specs.declared.values.Place.{Place}
use Rattle.ob_rules.specs.declared.values.Valued.{Valued}
use Rattle.ob_rules.specs.declared.values.Valued.TheVariants as valued
use Rattle.ob_rules.specs.declared.broken.Rule.TheVariants as rule
use Rattle.ob_rules.specs.Values.{computed, value_at, fits, is_chars, text_of, text_tree, type_in, tree, type, constant_in, place_in}
use Rattle.ob_rules.specs.Phrases.{receiver_place, Phrase}

-- ACTUAL PARAMETERS

abbrev pub actual_of : Passing → TypeRef → TypedExpr → Actual
actual_of how t x = roll-Actual (record { passing = how; formal = t; value = x })

abbrev pub both_records : Map → Option QName → Option QName → Bool
both_records map (Some a) (Some b) = extends_record map a b
both_records map a b = false

-- a VAR parameter takes a variable of the same type, of record type an extension too, and of an open array type an array of the same elements
abbrev pub takes_variable : Map → Option TypeRef → TypeRef → TypeRef → Bool
takes_variable map (Some element) formal t = element_is map element (array_of map t)
takes_variable map None formal t = same_at map t formal || both_records map (record_of map t) (record_of map formal)

-- rule 38: a designator that ends in a guard on a pointer is passed as VAR
abbrev pub unless_guarded : Map → TypeRef → Pos → Place → Judged Actual
unless_guarded map t start p = also p.guarded rule.GuardedVarParameter start (sound (actual_of (passing_of map mode.Var t) t (e.Designator p.designator.inner)))

-- rule 26: a read-only thing is
abbrev pub unless_read_only : Map → TypeRef → Pos → Place → Judged Actual
unless_read_only map t start p = also p.read_only rule.NotChangeable start (unless_guarded map t start p)

-- rule 25: an actual parameter does not fit
abbrev pub variable_actual : Map → TypeRef → Pos → Place → Judged Actual
variable_actual map t start p = also (not (takes_variable map (open_element map t) t p.of)) rule.UnfitParameter start (unless_read_only map t start p)

-- rule 26: a constant or a procedure is passed as VAR; rule 25: an expression or a call
abbrev pub meant_actual : Map → TypeRef → Pos → Meant → Judged Actual
meant_actual map t start (means.Place p) = variable_actual map t start p
meant_actual map t start (means.Call x) = breaks rule.UnfitParameter start
meant_actual map t start m = breaks rule.NotChangeable start

abbrev pub var_actual : Around → TypeRef → Phrase → Option (Around → Judged Meant) → Judged Actual
var_actual u t p None = p.value u ▷ λ x. breaks rule.UnfitParameter p.start
var_actual u t p (Some meant) = meant u ▷ meant_actual (map_of u) t p.start

abbrev pub array_takes : Map → TypeRef → Option TypeRef → Bool
array_takes map element None = false
array_takes map element (Some t) = element_is map element (array_of map t)

-- an open array by value takes an array of the same elements, and of characters also a string
abbrev pub takes_value : Map → Option TypeRef → TypeRef → Valued → Bool
takes_value map (Some element) formal x = array_takes map element (type_in (type x)) || (same_at map element (ref.Basic basic.Char) && is_some (text_of x))
takes_value map None formal x = fits map formal x

abbrev pub tree_for : Bool → Valued → TypedExpr
tree_for true x = text_tree x
tree_for false x = (tree x)

-- rule 25
abbrev pub value_actual : Map → TypeRef → Pos → Valued → Judged Actual
value_actual map t start x = wants (takes_value map (open_element map t) t x) rule.UnfitParameter start (actual_of (passing_of map mode.Value t) t (tree_for (is_array map t) x))

abbrev pub actual : Around → Mode → TypeRef → Phrase → Judged Actual
actual u mode.Var t p = var_actual u t p p.meant
actual u mode.Value t p = p.value u ▷ value_actual (map_of u) t p.start

-- each actual parameter with its formal one; what stands behind the last formal one is judged too
abbrev pub actuals : Around → List (Mode × TypeRef) → List Phrase → Judged (List Actual)
actuals u fs [] = sound []
actuals u [] (p ∷ ps) = both (p.value u) (actuals u [] ps) ▷ λ r. sound r.1
actuals u (f ∷ fs) (p ∷ ps) = both (actual u f.0 f.1 p) (actuals u fs ps) ▷ λ r. sound (r.0 ∷ r.1)

-- CALLS

-- rule 27: a proper procedure in an expression, or a function as a statement
abbrev pub misplaced : Where → Bool → Bool
misplaced InExpression is_function = not is_function
misplaced AsStatement is_function = is_function
misplaced Elsewhere is_function = false

-- rule 24: the number of actual parameters differs
abbrev pub called_with : Where → Pos → Signature → ℕ → (List Actual → TypedExpr) → List Actual → Judged Valued
called_with w at s n f xs =
    wants (nat_eq n (length s.params)) rule.WrongParameterCount at xs
    ▷ λ ys. also (misplaced w (is_some s.result)) rule.MisplacedCall at (sound (computed (f ys) (result_type s.result)))

abbrev pub called : Around → Where → Pos → Signature → List Phrase → (List Actual → TypedExpr) → Judged Valued
called u w at s ps f = actuals u s.params ps ▷ called_with w at s (length ps) f

abbrev pub call_procedure : Around → Where → Pos → QName → Signature → List Phrase → Judged Valued
call_procedure u w at name s ps = called u w at s ps (λ xs. e.Call (callee.Declared name) xs at s.result)

abbrev pub call_variable : Around → Where → Pos → Place → Signature → List Phrase → Judged Valued
call_variable u w at p s ps = called u w at s ps (λ xs. e.CallVariable p.designator.inner xs at s.result)

abbrev pub by_value : TypeRef → Mode × TypeRef
by_value t = (mode.Value, t)

abbrev pub out_signature : OutProcedure → Signature
out_signature out.Char = record { params = by_value (ref.Basic basic.Char) ∷ []; result = None }
out_signature out.Str = record { params = by_value (ref.Named out_string) ∷ []; result = None }
out_signature out.Int = record { params = by_value (ref.Basic basic.LongInt) ∷ by_value (ref.Basic basic.LongInt) ∷ []; result = None }
out_signature out.Ln = record { params = []; result = None }

abbrev pub call_out : Around → Where → Pos → OutProcedure → List Phrase → Judged Valued
call_out u w at p ps = called u w at (out_signature p) ps (λ xs. e.Call (callee.Out p) xs at None)

-- BOUND PROCEDURES

abbrev pub family_of : Chosen → Family
family_of c = record { owner = c.introduced; name = c.method.name }

abbrev pub bound_callee : Chosen → Option QName → Callee
bound_callee c None = callee.Bound (family_of c) c.method.receiver
bound_callee c (Some base) = callee.Super base (family_of c) c.method.receiver

abbrev pub receiver_actual : Receiver → Chosen → Actual
receiver_actual receiver.Pointer c = actual_of passing.Scalar c.receiver.of (e.Designator c.receiver.designator.inner)
receiver_actual receiver.Record c = actual_of passing.VariableRecord (ref.Named c.owner) (e.Designator (receiver_place c).designator.inner)

abbrev pub is_record_receiver : Receiver → Bool
is_record_receiver receiver.Record = true
is_record_receiver receiver.Pointer = false

abbrev pub sound_or : Bool → Option Bound → Option QName → (QName → Bool) → Bool
sound_or false b base f = true
sound_or true (Some b) base f = is_some b.signature
sound_or true None None f = true
sound_or true None (Some b) f = f b

unfoldable pub nearest_sound : Around → ℕ → QName → List ℕ → Bool
nearest_sound u zero q x = true
nearest_sound u (suc n) q x = sound_or (bytes_eq q.module u.unit) (bound_for u.bound q x) (base_record (map_of u) q) (λ b. nearest_sound u n b x)

abbrev pub where_from : Chosen → Option QName → QName
where_from c None = c.owner
where_from c (Some base) = base

-- rule 26: a read-only record is passed as the receiver of a VAR record
abbrev pub call_bound_sound : Bool → Around → Where → Pos → Chosen → List Phrase → Judged Valued
call_bound_sound false u w at c ps = actuals u [] ps ▷ λ xs. silent
call_bound_sound true u w at c ps =
    also (is_record_receiver c.method.receiver && ((receiver_place c).read_only && is_none c.base)) rule.NotChangeable at (called u w at c.method.signature ps (λ xs. e.Call (bound_callee c c.base) (receiver_actual c.method.receiver c ∷ xs) at c.method.signature.result))

-- a call whose nearest declaration breaks a rule is silent
abbrev pub call_bound : Around → Where → Pos → Chosen → List Phrase → Judged Valued
call_bound u w at c ps = call_bound_sound (nearest_sound u 201 (where_from c c.base) c.method.name) u w at c ps
