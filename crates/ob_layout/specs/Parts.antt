-- The parts of an expression whose strings are still to be found.
use Rattle.std.specs.Prelude.{ℕ, ◌+◌, List, [], ◌∷◌, ◌++◌}
use Rattle.ob_types.specs.declared.types.TypeRef.{TypeRef}
use Rattle.ob_types.specs.TypedView.{designator_view, expr_view, actuals_view}
use Rattle.ob_layout.specs.declared.texts.Part.{Part}
use Rattle.ob_layout.specs.declared.texts.Part.TheVariants as part
use Rattle.ob_layout.specs.Sizes.{size_of_designator, size_of_expr, size_of_actuals}
use Rattle.ob_layout.specs.Texts.{AText, texts_of_designator, texts_of_expr, texts_of_actuals}

abbrev pub size_of_part : Part → ℕ
size_of_part (part.Place d) = size_of_designator (designator_view d.now)
size_of_part (part.Value e) = size_of_expr (expr_view e.now)
size_of_part (part.Actuals es) = size_of_actuals (actuals_view es.now)

abbrev pub size_of_parts : List Part → ℕ
size_of_parts [] = 0
size_of_parts (p ∷ ps) = size_of_part p + size_of_parts ps

module _ (words : TypeRef → ℕ) where
  abbrev pub texts_of_part : Part → List AText
  texts_of_part (part.Place d) = texts_of_designator words (designator_view d.now)
  texts_of_part (part.Value e) = texts_of_expr words (expr_view e.now)
  texts_of_part (part.Actuals es) = texts_of_actuals words (actuals_view es.now)

  -- the last part comes first
  abbrev pub texts_of_parts : List Part → List AText
  texts_of_parts [] = []
  texts_of_parts (p ∷ ps) = texts_of_parts ps ++ texts_of_part p
