use Rattle.std.proofs.Common.{◌<◌, ◌^◌, length, ap, ◌∙◌, w32, to_z, arith}
use Rattle.std.specs.Prelude.{pos}
use Rattle.std.proofs.lemmas.Int.{to_z_pos}
use Rattle.ob_scheme.specs.Numbers.{instr}
use Rattle.ob_scheme.specs.Coded.{with_instr}
use Rattle.ob_scheme.proofs.Appends.{aim_put}
use Rattle.ob_gexpr_code.proofs.code.Code.aim.Goals as goal

pub returns : goal.returns
returns c =
    let small : c.len-target.result < 2 ^ 31 = let l = c.if-target-gt-MOST.false in omega (arith, l) in
    aim_put c.self.inside.instrs.items c.self.inside.positions _ c.args.op c.args.at c.len-target.result (to_z w32 c.len-target.result) (to_z_pos w32 c.len-target.result small) (c.len-target.ensures ∙ c.self.inside.instrs.ok.0)
    ∙ ap (λ x. with_instr x c.args.at (instr c.args.op (pos (length x.instrs)) (pos 0))) c.self.view_is
