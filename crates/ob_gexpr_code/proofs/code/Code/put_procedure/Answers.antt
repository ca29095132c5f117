use Rattle.std.proofs.Common.{[], ◌∷◌, ◌++◌, ap, ◌∙◌, w32}
use Rattle.std.specs.Prelude.{pos}
use Rattle.std.proofs.lemmas.Int.{to_z_pos}
use Rattle.ob_scheme.specs.Lines.{OtherProcedure, none, line_of}
use Rattle.ob_scheme.specs.Numbers.{instr, with_position}
use Rattle.ob_scheme.specs.Coded.{appended}
use Rattle.ob_scheme.proofs.Appends.{procedure_put}
use Rattle.ob_gexpr_code.proofs.code.Code.put_procedure.Goals as goal

pub returns : goal.returns
returns c =
    procedure_put c.self.inside.instrs.items c.put_instr.new.instrs.items c.self.inside.positions c.put_position.new.positions _ c.number.new.self c.args.op c.args.unit.now c.args.name.now c.args.at (pos c.in_ok-number.number)
    (c.in_ok-put_position.ensures ∙ ap (λ k. c.self.inside.positions ++ with_position c.args.at k []) (c.len-place.ensures ∙ c.self.inside.instrs.ok.0))
    (ap pos c.in_ok-number.ensures.number) c.in_ok-number.ensures.links
    (c.in_ok-put_instr.ensures ∙ ap (λ a. c.self.inside.instrs.items ++ instr c.args.op a (pos 0) ∷ []) (to_z_pos w32 c.in_ok-number.number c.in_ok-number.ensures.within))
    ∙ ap (λ x. appended x (line_of c.args.op (OtherProcedure c.args.unit.now c.args.name.now) none c.args.at ∷ [])) c.self.view_is
