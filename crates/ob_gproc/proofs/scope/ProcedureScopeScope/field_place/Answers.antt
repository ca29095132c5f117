use Rattle.std.proofs.Common.{◌≡◌, ◌∙◌, ap, sym, unwrap_or, arith}
use Rattle.std.specs.Prelude.{pos}
use Rattle.std.specs.Int.{w32}
use Rattle.std.proofs.lemmas.Int.{to_z_pos}
use Rattle.ob_scheme.proofs.Descriptions.{field_place_is}
use Rattle.ob_gproc.proofs.scope.ProcedureScopeScope.field_place.Goals as goal

pub returns : goal.returns
returns g c = to_z_pos w32 c.unwrap_or-place.result (omega arith) ∙ ap pos (c.unwrap_or-place.ensures ∙ ap (λ o. unwrap_or o 0) c.field_place.ensures ∙ sym (field_place_is _ _ _))
