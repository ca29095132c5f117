use Rattle.std.proofs.Common.{Some}
use Rattle.ob_cdecl_scopes.proofs.Places.{puts_at}
use Rattle.ob_cdecl_scopes.proofs.stack.put_place.Goals as goal

pub returns-clause-ok : goal.returns-clause-ok
returns-clause-ok c = puts_at c.in_ok-key.key.items c.args.name.now c.args.places.now c.insert.new.self (Some c.args.place) c.in_ok-key.ensures.items c.in_ok-insert.ensures.updates
