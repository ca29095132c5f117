use Rattle.std.proofs.Common.{◌≡◌, ◌∙◌, ap, sym, unwrap_or, arith}
use Rattle.std.specs.Prelude.{pos}
use Rattle.std.specs.Int.{w32}
use Rattle.std.proofs.lemmas.Int.{to_z_pos}
use Rattle.ob_scheme.proofs.Descriptions.{method_number_is}
use Rattle.ob_gproc.proofs.scope.ProcedureScopeScope.method_number.Goals as goal

pub returns : goal.returns
returns g c = to_z_pos w32 c.unwrap_or-number.result (omega arith) ∙ ap pos (c.unwrap_or-number.ensures ∙ ap (λ o. unwrap_or o 0) c.method_number.ensures ∙ sym (method_number_is _ _ _))
