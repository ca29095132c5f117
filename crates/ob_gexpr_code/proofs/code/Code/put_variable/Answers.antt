use Rattle.std.proofs.Common.{[], ◌∷◌, ◌++◌, ap, ◌∙◌, None, w32}
use Rattle.std.specs.Prelude.{pos}
use Rattle.std.proofs.lemmas.Int.{to_z_pos}
use Rattle.ob_instr.specs.declared.opcode.Opcode.TheVariants as op
use Rattle.ob_scheme.specs.Lines.{OtherVariable, none, line_of}
use Rattle.ob_scheme.specs.Numbers.{instr}
use Rattle.ob_scheme.specs.Coded.{appended}
use Rattle.ob_scheme.proofs.Appends.{variable_put}
use Rattle.ob_gexpr_code.proofs.code.Code.put_variable.Goals as goal

pub returns : goal.returns
returns c =
    variable_put c.self.inside.instrs.items c.put_instr.new.instrs.items c.self.inside.positions _ c.number.new.self c.args.unit.now c.args.name.now (pos c.in_ok-number.number)
    (ap pos c.in_ok-number.ensures.number) c.in_ok-number.ensures.links
    (c.in_ok-put_instr.ensures ∙ ap (λ a. c.self.inside.instrs.items ++ instr op.ExtVar a (pos 0) ∷ []) (to_z_pos w32 c.in_ok-number.number c.in_ok-number.ensures.within))
    ∙ ap (λ x. appended x (line_of op.ExtVar (OtherVariable c.args.unit.now c.args.name.now) none None ∷ [])) c.self.view_is
