use Rattle.std.proofs.Common.{ap, refl}
use Rattle.ob_tdesc.proofs.Kept.{entry_at, descriptor_at}
use Rattle.ob_tdesc.proofs.descriptors.Descriptors.words.Goals as goal

pub returns : goal.returns
returns c =
    let d = c.self.inside in
    let is = ap (λ v. v.list) c.self.view_is in
    let at = entry_at d.methods.items d.entries.items c.args.self.now.list c.args.a c.index.result.now is c.requires c.index.ensures in
    rw (descriptor_at d.methods.items d.entries.items c.args.self.now.list c.args.a c.index.result.now is at) refl
