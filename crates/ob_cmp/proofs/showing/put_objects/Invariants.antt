use Rattle.std.proofs.Common.{◌≡◌, ◌++◌, length}
use Rattle.std.specs.List.{flat_map, AllByRecursion}
use Rattle.ob_cmp.specs.Rising.{IsSpelledIn, shown}
use Rattle.ob_cmp.specs.Show.{object_lines}
use Rattle.ob_cmp.proofs.showing.put_objects.Given as goal

abbrev pub invariant-objects : goal.invariant-objects
invariant-objects l = AllByRecursion (IsSpelledIn l.«module») l.rest × (l.out.items ++ flat_map (object_lines l.«module») (shown l.rest) ≡ l.initial.out.items ++ flat_map (object_lines l.«module») (shown l.objects))

abbrev pub decreases-objects : goal.decreases-objects
decreases-objects l = length l.rest
