use Rattle.std.proofs.Common.{[], ◌∷◌, ◌++◌, ap, ◌∙◌, None, w32, refl}
use Rattle.std.specs.Prelude.{pos}
use Rattle.std.proofs.lemmas.Int.{to_z_pos}
use Rattle.ob_instr.specs.declared.opcode.Opcode.TheVariants as op
use Rattle.ob_scheme.specs.Lines.{StringHere, none, line_of}
use Rattle.ob_scheme.specs.Numbers.{instr}
use Rattle.ob_scheme.specs.Coded.{appended}
use Rattle.ob_scheme.proofs.Appends.{string_put}
use Rattle.ob_gexpr_code.proofs.code.Code.put_string.Goals as goal

pub returns : goal.returns
returns c =
    string_put c.self.inside.instrs.items c.put_instr.new.instrs.items c.self.inside.positions _ c.put_text.new.strings c.args.text.now c.args.words _ (pos c.self.inside.next)
    refl c.in_ok-put_text.ensures c.in_ok-next.ensures.is
    (c.in_ok-put_instr.ensures ∙ ap (λ a. c.self.inside.instrs.items ++ instr op.Global a (pos 0) ∷ []) (to_z_pos w32 c.self.inside.next c.in_ok-next.ensures.within))
    ∙ ap (λ x. appended x (line_of op.Global (StringHere c.args.text.now c.args.words) none None ∷ [])) c.self.view_is
