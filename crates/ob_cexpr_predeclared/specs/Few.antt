-- At most two parameters.
use Rattle.std.specs.Prelude.{List, [], ◌∷◌, Option, Some, None}
use Rattle.ob_tree.specs.declared.pos.Pos.{Pos}
use Rattle.ob_rules.specs.declared.values.Valued.{Valued}
use Rattle.ob_rules.specs.declared.meant.Meant.{Meant}
use Rattle.ob_rules.specs.declared.broken.Predeclared.{Predeclared}
use Rattle.ob_rules.specs.Judged.{Judged}
use Rattle.ob_rules.specs.Shapes.{Map}
use Rattle.ob_rules.specs.Predeclared.{fit_one, fit_two}
use Rattle.ob_cexpr_predeclared.specs.declared.fits.Few.{Few}
use Rattle.ob_cexpr_predeclared.specs.declared.fits.Few.TheVariants as are

abbrev pub few_of : List Valued → Few
few_of [] = are.Nothing
few_of (x ∷ []) = are.One x
few_of (x ∷ y ∷ []) = are.Two x y
few_of (x ∷ y ∷ z ∷ zs) = are.Many

-- of the last, the one before it and one further on
abbrev pub few_taken : Option Valued → Option Valued → Option Valued → Few
few_taken None b t = are.Nothing
few_taken (Some y) None t = are.One y
few_taken (Some y) (Some x) None = are.Two x y
few_taken (Some y) (Some x) (Some z) = are.Many

-- what fits, of so few
abbrev pub fit_few : Map → Predeclared → Pos → Few → Option (Judged Meant)
fit_few map f at are.Nothing = None
fit_few map f at (are.One x) = fit_one map f at x
fit_few map f at (are.Two x y) = fit_two map f at x y
fit_few map f at are.Many = None
