use Rattle.std.proofs.Common.{ap, sym, ◌∙◌}
use Rattle.std.specs.Option.{option_copied}
use Rattle.ob_make.specs.Faces.{kept_of}
use Rattle.ob_make.proofs.Keeping.{found}
use Rattle.ob_make.proofs.faces.Faces.get.Goals as goal

pub returns-clause-found : goal.returns-clause-found
returns-clause-found c = λ find.
    let m = c.args.«module».now in
    found find c.args.self.now m c.in-Some.face.now (ap (λ kept. kept_of kept m) (sym c.self.view_is) ∙ sym c.get.ensures ∙ ap option_copied c.in-Some.is)
