-- INC and DEC.
use Rattle.std.specs.Prelude.{Bool, true, false}
use Rattle.ob_types.specs.declared.typed.Width.{Width}
use Rattle.ob_types.specs.declared.typed.Update.{Update}
use Rattle.ob_types.specs.declared.typed.Update.TheVariants as update

-- INC, or else DEC
abbrev pub update_of : Bool → Width → Update
update_of true w = update.Inc w
update_of false w = update.Dec w
