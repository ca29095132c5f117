use Rattle.std.proofs.Common.{◌-◌, ◌∷◌, sym, ap, ◌∙◌, arith}
use Rattle.ob_cdecl_scopes.specs.Scopes.{around_of}
use Rattle.ob_rules.specs.Names.{is_among}
use Rattle.ob_cdecl_bound.specs.Told.{left_pointers}
use Rattle.ob_cdecl_bound.proofs.PointerLaws.{judged_next}
use Rattle.ob_cdecl_bound.proofs.pointers.+pointers.Goals as goal

pub judge_pointer-returns : goal.judge_pointer-returns
judge_pointer-returns g n c b t e =
    let p = c.args.progress.now in
    judged_next (around_of g.E.Types.types c.args.scope.now) (left_pointers c.args.all.now) (c.args.fuel - 1) c.args.fuel c.args.left.now b c.judge_base.new.book c.judge_one.new.book p (record p { judged = c.push.new.self }) c.judge_base.new.progress c.judge_one.new.progress t (omega arith) (ap (λ x. is_among x p.judged) (sym c.pointer_name.ensures) ∙ sym c.has.ensures ∙ c.if-has.false) (ap (λ x. record p { judged = x }) (c.in_ok-push.ensures.ok ∙ ap (λ x. x ∷ p.judged) c.pointer_name-2.ensures)) (c.in_ok-judge_base.ensures b t e) (λ m k. c.in_ok-judge_one.ensures b m k)
