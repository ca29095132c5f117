use Rattle.std.proofs.Common.{◌≡◌, Some, sym, subst}
use Rattle.ob_link.specs.Index.{place_in}
use Rattle.ob_link.proofs.Maps.{forgets_it, forgets_another, forgets_nothing}
use Rattle.ob_link.proofs.index.Index.forget.Goals as goal

pub returns-in-None : goal.returns-in-None
returns-in-None c = forgets_nothing c.args.self.now.places c.args.name.now c.args.place (sym c.in-None.ensures)

pub returns-then-found-place : goal.returns-then-found-place
returns-then-found-place c = forgets_another c.args.self.now.places c.args.name.now c.args.place c.in-Some.found (sym c.in-Some.ensures) c.if-found-place.true

pub returns : goal.returns
returns c =
    let there : place_in c.args.self.now.places c.args.name.now ≡ Some c.args.place = subst (λ n. place_in c.args.self.now.places c.args.name.now ≡ Some n) c.if-found-place.false (sym c.in-Some.ensures) in
    forgets_it c.args.self.now.places c.remove.new.self.places c.args.name.now c.args.place there c.remove.ensures
