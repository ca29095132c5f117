use Rattle.std.proofs.Common.{◌≡◌, ◌+◌, ◌≤◌, length, take}
use Rattle.ob_obj.specs.Images.{with_types}
use Rattle.ob_machine_image.specs.Standing.{BasesStand}
use Rattle.ob_machine_image.specs.Declaring.{DefinitionsRise}
use Rattle.ob_machine_image.proofs.types.Types.add_all.Given as goal

abbrev pub invariant-loop-rest : goal.invariant-loop-rest
invariant-loop-rest l = record {
  first : l.first ≡ length l.fn.self;
  adds : with_types l.«module» l.first l.links l.number l.self l.rest ≡ with_types l.«module» l.first l.links l.number l.fn.self l.own;
  count : length l.self + length l.rest ≡ l.first + length l.own;
  rising : DefinitionsRise l.rest;
  bases : BasesStand l.first l.links (length l.self) l.rest;
  kept : take l.first l.self ≡ l.fn.self;
  more : l.first ≤ length l.self;
}

abbrev pub decreases-loop-rest : goal.decreases-loop-rest
decreases-loop-rest l = length l.rest
