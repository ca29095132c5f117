use Rattle.std.proofs.Common.{◌≡◌, length, ap, subst, ◌∙◌, arith}
use Rattle.ob_load.specs.Standing.{Standing, IsStanding}
use Rattle.ob_load.proofs.Starts.{few_in, can_in_run, finished}
use Rattle.ob_load.proofs.system.System.start.Goals as goal

pub overflow_cast-many : goal.overflow_cast-many
overflow_cast-many g c =
    let old = c.args.self.now in
    let m : c.count-first.result ≡ length old.members = c.count-first.ensures.count ∙ ap (λ (x : Standing). length x.members) c.self.view_is in
    let few = few_in old c.args.plan.files c.count-first.result (subst IsStanding c.self.view_is c.self.invariant) m c.count-first.ensures.most c.requires.enterable in
    omega (arith, few, c.len-many.ensures)

pub run_bodies-ended-requires-clause-can : goal.run_bodies-ended-requires-clause-can
run_bodies-ended-requires-clause-can g c =
    let old = c.args.self.now in
    let inside : Standing = record { members = c.self-2.inside.loaded; machine = c.self-2.inside.machine } in
    let m : c.count-first.result ≡ length old.members = c.count-first.ensures.count ∙ ap (λ (x : Standing). length x.members) c.self.view_is in
    can_in_run inside c.enter.new.self old c.args.plan c.count-first.result c.len-many.result (subst IsStanding c.self.view_is c.self.invariant) c.self-2.view_is c.requires c.in_ok-enter.ensures m c.len-many.ensures

pub run_bodies-ended-requires-clause-small : goal.run_bodies-ended-requires-clause-small
run_bodies-ended-requires-clause-small g c =
    let old = c.args.self.now in
    let m : c.count-first.result ≡ length old.members = c.count-first.ensures.count ∙ ap (λ (x : Standing). length x.members) c.self.view_is in
    let few = few_in old c.args.plan.files c.count-first.result (subst IsStanding c.self.view_is c.self.invariant) m c.count-first.ensures.most c.requires.enterable in
    omega (arith, few, m, c.len-many.ensures)

pub returns-clause-does : goal.returns-clause-does
returns-clause-does g c = λ fs s.
    let old = c.args.self.now in
    let inside : Standing = record { members = c.self-2.inside.loaded; machine = c.self-2.inside.machine } in
    let m : c.count-first.result ≡ length old.members = c.count-first.ensures.count ∙ ap (λ (x : Standing). length x.members) c.self.view_is in
    finished (g.S.Sink.tells c.args.out.now) (g.S.Sink.taken c.args.out.now) (g.S.Sink.taken c.run_bodies-ended.new.out) old c.enter.new.self inside c.run_bodies-ended.new.machine c.keep.new.self fs c.args.plan c.count-first.result c.len-many.result c.args.turns c.run_bodies-ended.result.count c.run_bodies-ended.result.outcome s c.requires c.in_ok-enter.ensures c.self-2.view_is c.run_bodies-ended.ensures.image c.run_bodies-ended.ensures.count m c.len-many.ensures c.keep.ensures c.run_bodies-ended.ensures.does
