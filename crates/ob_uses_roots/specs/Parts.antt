-- The parts of an expression that are still to count.
use Rattle.std.specs.Prelude.{ℕ, ◌+◌, List, [], ◌∷◌, ◌++◌}
use Rattle.ob_types.specs.declared.types.TypeRef.TheVariants as ref
use Rattle.ob_types.specs.TypedView.{designator_view, expr_view, actuals_view}
use Rattle.ob_layout.specs.Sizes.{size_of_designator, size_of_expr, size_of_actuals}
use Rattle.ob_uses_roots.specs.declared.exprs.Part.{Part}
use Rattle.ob_uses_roots.specs.declared.exprs.Part.TheVariants as part
use Rattle.ob_uses_roots.specs.Counts.{Count, Shapes, both, counts_of_call, counts_of_held_call, counts_of_designator, counts_of_expr, counts_of_actuals}

abbrev pub counts_of_part : Part → List Count
counts_of_part (part.Place d) = counts_of_designator (designator_view d.now)
counts_of_part (part.Value e) = counts_of_expr (expr_view e.now)
counts_of_part (part.Actuals es) = counts_of_actuals (actuals_view es.now)
counts_of_part (part.Shape t) = Shapes t.now ∷ []
counts_of_part (part.Element t) = both t.now
counts_of_part (part.Guard t target) = Shapes t.now ∷ Shapes (ref.Named target.now) ∷ []
counts_of_part (part.Target target) = Shapes (ref.Named target.now) ∷ []
counts_of_part (part.Call callee es t) = counts_of_call callee.now (actuals_view es.now) t.now
counts_of_part (part.HeldCall es t) = counts_of_held_call (actuals_view es.now) t.now

-- the last part counts first
abbrev pub counts_of_parts : List Part → List Count
counts_of_parts [] = []
counts_of_parts (p ∷ ps) = counts_of_parts ps ++ counts_of_part p

-- a node has at most one part beside the nodes in it
abbrev pub size_of_part : Part → ℕ
size_of_part (part.Place d) = size_of_designator (designator_view d.now) + size_of_designator (designator_view d.now)
size_of_part (part.Value e) = size_of_expr (expr_view e.now) + size_of_expr (expr_view e.now)
size_of_part (part.Actuals es) = size_of_actuals (actuals_view es.now) + size_of_actuals (actuals_view es.now)
size_of_part p = 1

abbrev pub size_of_parts : List Part → ℕ
size_of_parts [] = 0
size_of_parts (p ∷ ps) = size_of_part p + size_of_parts ps
