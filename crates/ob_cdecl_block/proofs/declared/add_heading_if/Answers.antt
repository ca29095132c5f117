use Rattle.std.proofs.Common.{suc, OnOk, sym, subst}
use Rattle.ob_rules.specs.Headings.{Heads, reversed}
use Rattle.ob_cdecl_heading.specs.Kept.{AreKept}
use Rattle.ob_cdecl_block.proofs.DeclViews.{added_procedure}
use Rattle.ob_cdecl_block.proofs.declared.add_heading_if.Goals as goal

pub returns-in-Procedure-clause-heads : goal.returns-in-Procedure-clause-heads
returns-in-Procedure-clause-heads g c = λ hs e k.
    let P : Heads → Type 0 = λ z. OnOk c.add_heading.result (AreKept (suc hs.around.scope) c.add_heading.new.heads (reversed z.before)) in
    subst P (sym (added_procedure c.args.d.now c.in-Procedure.heading c.in-Procedure.decls c.in-Procedure.body c.in-Procedure.closing hs c.in-Procedure.is)) (c.add_heading.ensures.heads hs e k)
