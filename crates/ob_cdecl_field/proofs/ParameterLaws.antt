-- How parameters are declared.
use Rattle.std.proofs.Common.{◌≡◌, Option, Some, None, refl}
use Rattle.std.specs.Prelude.{is_some}
use Rattle.ob_tree.specs.declared.pos.Pos.{Pos}
use Rattle.ob_rules.specs.declared.entity.Known.{Known}
use Rattle.ob_rules.specs.declared.broken.Rule.TheVariants as rule
use Rattle.ob_rules.specs.Judged.{notes_if}
use Rattle.ob_rules.specs.Types.{twice_if}

pub twice_same : (o : Option Known) (at : Pos) → notes_if (is_some o) rule.DeclaredTwice at ≡ twice_if o at
twice_same None at = refl
twice_same (Some k) at = refl
