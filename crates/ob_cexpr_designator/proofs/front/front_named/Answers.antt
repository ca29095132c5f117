use Rattle.ob_rules.specs.Names.{named}
use Rattle.ob_rules.specs.Designators.{front_of, is_module}
use Rattle.ob_rules.specs.declared.entity.Entity.{Entity}
use Rattle.ob_rules.specs.declared.meant.Meant.{Meant}
use Rattle.ob_cexpr_designator.specs.declared.front.Front.{Front}
use Rattle.ob_cexpr_designator.proofs.FrontLaws.{front_noted}
use Rattle.ob_cexpr_designator.proofs.front.front_named.Goals as goal

pub returns-in_ok-meant-in-Some-clause-noted : goal.returns-in_ok-meant-in-Some-clause-noted
returns-in_ok-meant-in-Some-clause-noted g c =
    let u = g.S.Surroundings.around c.args.here.now in
    let front : Entity → Meant → Front = λ e m. record { meant = m; with_name = is_module e } in
    front_noted (named u c.args.x.now) c.in-Some.entity.now (λ e. front_of u c.args.x.now e c.args.dot) front c.args.book.now c.named.new.book c.front_of.new.book
    c.in-Some.ensures.made c.in-Some.ensures.noted c.in_ok-meant-in-Some.ensures.noted
