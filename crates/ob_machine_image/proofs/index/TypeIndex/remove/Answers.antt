use Rattle.std.proofs.Common.{rules, Some, None, sym, subst}
use Rattle.ob_machine_image.specs.Index.{PutsType}
use Rattle.ob_machine_image.proofs.Maps.{puts_at, put_in, was_there, none_there}
use Rattle.ob_machine_image.proofs.index.TypeIndex.remove.Goals as goal

pub returns-in-Some : goal.returns-in-Some
returns-in-Some c =
    let old = c.args.self.now.modules in
    let name = c.args.name.now in
    let inner = c.in-Some.numbers.now in
    let after = c.remove.new.self in
    let new = c.get_mut.follows.lender after in
    let outer = puts_at c.as_bytes.result.now name.«module» old new (Some after) c.as_bytes.ensures ((c.get_mut.follows.holds after).3 (search rules)) in
    let put = puts_at c.as_bytes-in-Some.result.now name.object inner after None c.as_bytes-in-Some.ensures c.remove.ensures.updates in
    put_in old new name inner after None outer put (λ n. was_there old c.as_bytes.result.now name.«module» n inner c.as_bytes.ensures c.in-Some.ensures.value)

pub returns-in-None : goal.returns-in-None
returns-in-None c =
    let old = c.args.self.now.modules in
    let name = c.args.name.now in
    subst (λ m. PutsType old m name None) (sym c.get_mut.follows.holds-at-none) (none_there old name c.as_bytes.result.now c.as_bytes.ensures c.in-None.ensures.value)
