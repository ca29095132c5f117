-- Actual parameters as they are handed on, and rows of them.
use Rattle.std.specs.Prelude.{List, [], ◌∷◌, ◌++◌, Option, Some, None}
use Rattle.std.specs.Option.{option_map}
use Rattle.ob_types.specs.declared.typed.Actual.{Actual}
use Rattle.ob_types.specs.declared.typed.TypedExpr.{TypedExpr}
use Rattle.ob_types_trees.specs.declared.expr.ActualTrees.{ActualTrees}
use Rattle.ob_rules.specs.declared.values.Valued.{Valued}
use Rattle.ob_rules.specs.Calls.{actual_of}
use Rattle.ob_cexpr_call.specs.declared.actuals.Passed.{Passed}

abbrev pub actual_seen : Passed → Actual
actual_seen p = actual_of p.passing p.formal p.value.inner

abbrev pub one_seen : Option Passed → Option Actual
one_seen p = option_map actual_seen p

-- the actual parameters of a row, where all of them are sound
abbrev pub row_seen : Option ActualTrees → Option (List Actual)
row_seen r = option_map (λ t. t.inner) r

-- the row with one more at its end
abbrev pub row_with : Option (List Actual) → Option Actual → Option (List Actual)
row_with None x = None
row_with (Some xs) None = None
row_with (Some xs) (Some x) = Some (xs ++ x ∷ [])

-- the row behind which a value stands that no formal parameter takes
abbrev pub row_before : Option (List Actual) → Option Valued → Option (List Actual)
row_before None x = None
row_before (Some xs) None = None
row_before (Some xs) (Some x) = Some xs
