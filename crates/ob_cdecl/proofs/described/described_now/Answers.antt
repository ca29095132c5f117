use Rattle.std.specs.Option.{option_copied}
use Rattle.ob_cdecl_scopes.specs.Scopes.{around_of}
use Rattle.ob_cdecl.proofs.ImportLaws.{described_ok}
use Rattle.ob_cdecl.proofs.described.described_now.Goals as goal

pub returns : goal.returns
returns g c = described_ok c.described.result (around_of g.E.Types.types c.args.scope.now) c.args.t.now (option_copied c.desc_of.result) c.in_ok-name.name c.desc_of.ensures c.in_ok-name.ensures c.described.ensures
