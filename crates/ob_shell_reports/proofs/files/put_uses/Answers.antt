use Rattle.std.proofs.Common.{◌≡◌, ◌-◌, List, ◌∷◌, take, drop, length, ◌∙◌, arith}
use Rattle.ob_cmp.specs.declared.verdict.Stale.{Stale}
use Rattle.ob_cmp.specs.Check.{stale_line}
use Rattle.ob_shell_reports.proofs.Along.{along_more, along_cut, front_is}
use Rattle.ob_shell_reports.proofs.files.put_uses.Goals as goal

pub returns-in-Err-clause-bytes : goal.returns-in-Err-clause-bytes
returns-in-Err-clause-bytes g c = λ told.
    let i = c.uses.invariant in
    let p = c.first-item.result in
    let ps : List Stale = take (length c.uses.rest.now - 1) (drop 1 c.uses.rest.now) in
    let e : c.uses.rest.now ≡ p ∷ ps = front_is c.uses.rest.now p c.in-len1-up.len_at_least c.first-item.is in
    along_cut stale_line (g.S.Sink.taken c.args.out.now) (g.S.Sink.taken c.uses.out) (g.S.Sink.taken c.put_use.new.out) c.args.uses.now c.uses.rest.now ps p (i.2 told) e (c.in-Err.ensures.bytes (i.0 ∙ told))

pub uses-preserved : goal.uses-preserved
uses-preserved g c =
    let i = c.uses.invariant in
    let d = c.in-Ok.ensures in
    let p = c.first-item.result in
    let ps : List Stale = take (length c.uses.rest.now - 1) (drop 1 c.uses.rest.now) in
    let e : c.uses.rest.now ≡ p ∷ ps = front_is c.uses.rest.now p c.in-len1-up.len_at_least c.first-item.is in
    let later = d.cause.later in
    let before = i.1 in (
      d.told ∙ i.0,
      omega (arith, later, before),
      λ told. along_more stale_line (g.S.Sink.taken c.args.out.now) (g.S.Sink.taken c.uses.out) (g.S.Sink.taken c.put_use.new.out) c.args.uses.now c.uses.rest.now ps p (i.2 told) e (d.bytes (i.0 ∙ told)),
    )
