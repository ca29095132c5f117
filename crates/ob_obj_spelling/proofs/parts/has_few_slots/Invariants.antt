use Rattle.std.proofs.Common.{◌≡◌, ◌+◌, ◌≤◌, drop}
use Rattle.ob_instr.specs.Parts.{slots}
use Rattle.ob_obj_spelling.proofs.parts.has_few_slots.Given as goal

abbrev pub invariant-params : goal.invariant-params
invariant-params l = (l.total ≤ 4294967295) × (slots (drop l.param-index l.params) + l.total ≡ slots l.params + l.words)
