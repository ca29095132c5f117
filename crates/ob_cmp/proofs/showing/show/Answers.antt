use Rattle.std.proofs.Common.{sym, subst}
use Rattle.std.specs.List.{AllByRecursion}
use Rattle.ob_cmp.specs.Rising.{IsSpelledIn}
use Rattle.ob_cmp.proofs.Filed.{are_objects}
use Rattle.ob_cmp.proofs.showing.show.Goals as goal

pub put_objects-requires : goal.put_objects-requires
put_objects-requires c = subst (λ l. AllByRecursion (IsSpelledIn c.args.face.now.«module») l) (sym c.as_slice-objects.ensures) (are_objects c.args.face.now c.requires).spelled
