use Rattle.std.proofs.Common.{◌+◌, ◌≤◌, length, refl, arith}
use Rattle.ob_machine.proofs.Runs.{begins_so, stack_so}
use Rattle.ob_machine.proofs.running.begin.Goals as goal

pub returns : goal.returns
returns c =
    let q = c.args.procedure.now in
    let fits : 262145 + q.locals ≤ length c.args.state.now.words.words + 1 = omega (arith, c.len.ensures.least, c.len.ensures.len, c.requires.locals) in
    record {
      words = begins_so c.args.state.now.words c.clear.new.self q c.locals-locals.result c.locals-locals.ensures c.requires.params fits c.clear.ensures.after;
      stack = stack_so q c.locals-locals.result c.locals-locals.ensures c.requires.params;
      empty = c.clear-2.ensures.items;
      full = refl;
      room = c.clear-2.ensures.capacity;
    }
