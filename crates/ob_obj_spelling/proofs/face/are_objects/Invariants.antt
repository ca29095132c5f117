use Rattle.std.proofs.Common.{length}
use Rattle.std.specs.List.{AllByRecursion}
use Rattle.ob_sym.specs.Grammar.{IsObjectOf}
use Rattle.ob_obj_spelling.specs.Prints.{HasPrints}
use Rattle.ob_obj_spelling.proofs.face.are_objects.Given as goal

abbrev pub invariant-loop-rest : goal.invariant-loop-rest
invariant-loop-rest l =
    (AllByRecursion (HasPrints l.«module») l.objects → AllByRecursion (HasPrints l.«module») l.rest)
    × (AllByRecursion (IsObjectOf l.«module») l.rest → AllByRecursion (HasPrints l.«module») l.objects → AllByRecursion (IsObjectOf l.«module») l.objects)

abbrev pub decreases-loop-rest : goal.decreases-loop-rest
decreases-loop-rest l = length l.rest
