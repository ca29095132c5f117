use Rattle.std.proofs.Common.{◌≡◌, ◌+◌, ◌-◌, ◌≤◌, ◌∷◌, drop, ap, ◌∙◌, arith}
use Rattle.ob_cdecl_field.proofs.LoopLaws.{step_at}
use Rattle.ob_cdecl_block.proofs.ToldLaws.{one_name}
use Rattle.ob_cdecl_block.proofs.declared.type_names.Goals as goal

pub declarations-preserved : goal.declarations-preserved
declarations-preserved c =
    let i = c.declarations.i in
    let xs = c.args.decls.now in
    let x = c.index-decls-i.result in
    let low : i ≤ _ = c.declarations.invariant.within in
    let back : (i - 1) + 1 ≡ i = omega arith in
    record {
      within = omega arith;
      names = one_name x (drop i xs) (drop (i - 1) xs) c.add_type_name.new.names c.declarations.names (step_at xs (i - 1) x (omega arith) c.index-decls-i.is ∙ ap (λ k. x ∷ drop k xs) back) c.in_ok-add_type_name.ensures c.declarations.invariant.names;
    }
