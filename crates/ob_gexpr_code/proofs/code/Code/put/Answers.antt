use Rattle.std.proofs.Common.{[], ◌∷◌, ◌++◌, ap, ◌∙◌, w32, to_z, of_z}
use Rattle.std.proofs.lemmas.Int.{to_z-of_z}
use Rattle.ob_scheme.specs.Lines.{Number, line_of}
use Rattle.ob_scheme.specs.Numbers.{with_position, instr}
use Rattle.ob_scheme.specs.Coded.{appended}
use Rattle.ob_scheme.proofs.Appends.{line_put}
use Rattle.ob_gexpr_code.proofs.code.Code.put.Goals as goal

pub returns : goal.returns
returns c =
    line_put c.self.inside.instrs.items c.put_instr.new.instrs.items c.self.inside.positions c.put_position.new.positions _ c.args.op c.args.a c.args.b c.args.at
    (c.in_ok-put_position.ensures ∙ ap (λ k. c.self.inside.positions ++ with_position c.args.at k []) (c.len-place.ensures ∙ c.self.inside.instrs.ok.0))
    (c.in_ok-put_instr.ensures ∙ ap (λ a. c.self.inside.instrs.items ++ instr c.args.op a (to_z w32 (of_z w32 c.args.b)) ∷ []) (to_z-of_z w32 c.args.a c.ranges.a) ∙ ap (λ b. c.self.inside.instrs.items ++ instr c.args.op c.args.a b ∷ []) (to_z-of_z w32 c.args.b c.ranges.b))
    ∙ ap (λ x. appended x (line_of c.args.op (Number c.args.a) (Number c.args.b) c.args.at ∷ [])) c.self.view_is
