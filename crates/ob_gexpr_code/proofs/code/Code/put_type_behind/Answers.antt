use Rattle.std.proofs.Common.{◌+◌, ◌<◌, ◌^◌, [], ◌∷◌, ◌++◌, ap, ◌∙◌, w32, to_z, of_z, arith, Some}
use Rattle.std.specs.Prelude.{pos}
use Rattle.std.proofs.lemmas.Int.{to_z_pos, to_z-of_z}
use Rattle.ob_scheme.specs.Lines.{Number, OtherType, line_of}
use Rattle.ob_scheme.specs.Numbers.{instr, with_position}
use Rattle.ob_scheme.specs.Coded.{appended}
use Rattle.ob_scheme.proofs.Appends.{type_behind_put}
use Rattle.ob_gexpr_code.proofs.code.Code.put_type_behind.Goals as goal

pub returns : goal.returns
returns c =
    let small : c.args.own + c.in_ok-number.number < 2 ^ 31 = let l = c.in_ok-number.ensures.within in let r = c.requires in omega (arith, l, r) in
    type_behind_put c.self.inside.instrs.items c.put_instr.new.instrs.items c.self.inside.positions c.put_position.new.positions _ c.number.new.self c.args.op c.args.own c.args.name.now c.args.a (Some c.args.at) (pos (c.args.own + c.in_ok-number.number))
    (c.in_ok-put_position.ensures ∙ ap (λ k. c.self.inside.positions ++ with_position (Some c.args.at) k []) (c.len-place.ensures ∙ c.self.inside.instrs.ok.0))
    (ap (λ n. pos (c.args.own + n)) c.in_ok-number.ensures.number) c.in_ok-number.ensures.links
    (c.in_ok-put_instr.ensures ∙ ap (λ a. c.self.inside.instrs.items ++ instr c.args.op (to_z w32 (of_z w32 c.args.a)) a ∷ []) (to_z_pos w32 (c.args.own + c.in_ok-number.number) small) ∙ ap (λ a. c.self.inside.instrs.items ++ instr c.args.op a (pos (c.args.own + c.in_ok-number.number)) ∷ []) (to_z-of_z w32 c.args.a c.ranges.a))
    ∙ ap (λ x. appended x (line_of c.args.op (Number c.args.a) (OtherType c.args.own c.args.name.now) (Some c.args.at) ∷ [])) c.self.view_is
