-- The types that are left tell whether one of all is there.
use Rattle.std.proofs.Common.{◌≡◌, ◌+◌, drop, ap, ◌∙◌, arith}
use Rattle.std.specs.Prelude.{bytes_eq, is_some}
use Rattle.std.specs.List.{find}
use Rattle.ob_cdecl_scopes.specs.Scopes.{around_of}
use Rattle.ob_cdecl_field.proofs.LoopLaws.{step_at}
use Rattle.ob_cdecl_heading.proofs.There.{there_now, there_later}
use Rattle.ob_cdecl_heading.proofs.heading.are_there.Goals as goal

pub returns-then-has_type : goal.returns-then-has_type
returns-then-has_type g c =
    let u = around_of g.E.Types.types c.args.scope.now in
    let ts = c.args.types.now in
    let i = c.types.t-index in
    let t = c.t-item.result in
    there_now u t (drop (i + 1) ts) (drop i ts) ts c.has_type.result (step_at ts i t (omega arith) c.t-item.is) (c.has_type.ensures ∙ ap (λ n. is_some (find (λ k. bytes_eq k.name n) u.own)) c.as_bytes.ensures) c.if-has_type.true c.types.invariant

pub types-preserved : goal.types-preserved
types-preserved g c =
    let u = around_of g.E.Types.types c.args.scope.now in
    let ts = c.args.types.now in
    let i = c.types.t-index in
    let t = c.t-item.result in
    there_later u t (drop (i + 1) ts) (drop i ts) ts c.has_type.result (step_at ts i t (omega arith) c.t-item.is) (c.has_type.ensures ∙ ap (λ n. is_some (find (λ k. bytes_eq k.name n) u.own)) c.as_bytes.ensures) c.if-has_type.false c.types.invariant
