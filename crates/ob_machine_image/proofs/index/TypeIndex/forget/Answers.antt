use Rattle.std.proofs.Common.{◌≡◌, Some, sym, subst}
use Rattle.ob_machine_image.specs.Index.{number_of}
use Rattle.ob_machine_image.proofs.Maps.{forgets_it, forgets_another, forgets_nothing}
use Rattle.ob_machine_image.proofs.index.TypeIndex.forget.Goals as goal

pub returns-in-None : goal.returns-in-None
returns-in-None c = forgets_nothing c.args.self.now.modules c.args.name.now c.args.number (sym c.in-None.ensures)

pub returns-then-found-number : goal.returns-then-found-number
returns-then-found-number c = forgets_another c.args.self.now.modules c.args.name.now c.args.number c.in-Some.found (sym c.in-Some.ensures) c.if-found-number.true

pub returns : goal.returns
returns c =
    let there : number_of c.args.self.now.modules c.args.name.now ≡ Some c.args.number = subst (λ n. number_of c.args.self.now.modules c.args.name.now ≡ Some n) c.if-found-number.false (sym c.in-Some.ensures) in
    forgets_it c.args.self.now.modules c.remove.new.self.modules c.args.name.now c.args.number there c.remove.ensures
