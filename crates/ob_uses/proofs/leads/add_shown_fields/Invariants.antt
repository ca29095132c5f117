use Rattle.std.proofs.Common.{◌≡◌, ◌++◌, drop, map}
use Rattle.std.specs.List.{filter, flat_map}
use Rattle.ob_desc.specs.Grammar.{is_shown}
use Rattle.ob_uses.specs.Ways.{type_names}
use Rattle.ob_uses.proofs.leads.add_shown_fields.Given as goal

-- what was added, and the rest after it, is the whole
abbrev pub invariant-fields : goal.invariant-fields
invariant-fields l = l.left.items ++ type_names l.alone l.own (map (λ f. f.of) (filter (λ f. is_shown f.mark) (drop l.field-index l.fields))) ≡ l.initial.left.items ++ type_names l.alone l.own (map (λ f. f.of) (filter (λ f. is_shown f.mark) l.fields))
