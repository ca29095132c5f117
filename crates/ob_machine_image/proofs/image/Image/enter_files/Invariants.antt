use Rattle.std.proofs.Common.{◌≡◌, ◌≤◌, length, take}
use Rattle.ob_obj.specs.Images.{image_of, AreEnterable}
use Rattle.ob_machine_image.proofs.image.Image.enter_files.Given as goal

abbrev pub invariant-loop-rest : goal.invariant-loop-rest
invariant-loop-rest l = record {
  enters : image_of l.self l.rest ≡ image_of l.fn.self l.files;
  can : AreEnterable l.self l.rest;
  modules : take l.modules l.self.modules ≡ l.fn.self.modules;
  types : take l.types l.self.types ≡ l.fn.self.types;
  next : l.next ≡ l.fn.self.next;
  room : l.self.room ≡ l.fn.self.room;
  within : l.modules ≤ length l.self.modules;
  types_within : l.types ≤ length l.self.types;
}

abbrev pub decreases-loop-rest : goal.decreases-loop-rest
decreases-loop-rest l = length l.rest
