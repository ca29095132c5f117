use Rattle.std.proofs.Common.{arith}
use Rattle.ob_link.proofs.Places.{below_of}
use Rattle.ob_link.proofs.loaded.Loaded.place.Goals as goal

pub overflow_cast-result : goal.overflow_cast-result
overflow_cast-result c =
    let b = below_of c.self.inside.names c.self.inside.members.items c.as_bytes.result.now c.in_ok-place.place c.self.invariant.0 c.self.invariant.1 c.in_ok-place.ensures in
    omega (arith, b)

pub returns-clause-few : goal.returns-clause-few
returns-clause-few c = below_of c.self.inside.names c.self.inside.members.items c.as_bytes.result.now c.in_ok-place.place c.self.invariant.0 c.self.invariant.1 c.in_ok-place.ensures
