use Rattle.std.proofs.Common.{◌≡◌, ◌++◌, length}
use Rattle.std.specs.List.{flat_map, filter}
use Rattle.ob_desc.specs.Grammar.{field, is_shown}
use Rattle.ob_desc.proofs.writing.put_fields.Given as goal

abbrev pub invariant-loop-rest : goal.invariant-loop-rest
invariant-loop-rest l = l.out.items ++ flat_map field.spell (filter (λ x. is_shown x.mark) l.rest) ≡ l.fn.out.items ++ flat_map field.spell (filter (λ x. is_shown x.mark) l.fields)

abbrev pub decreases-loop-rest : goal.decreases-loop-rest
decreases-loop-rest l = length l.rest
