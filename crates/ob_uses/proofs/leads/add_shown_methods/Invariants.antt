use Rattle.std.proofs.Common.{◌≡◌, ◌++◌, drop, map}
use Rattle.std.specs.List.{filter, flat_map}
use Rattle.ob_desc.specs.Grammar.{is_shown}
use Rattle.ob_types.specs.Maps.{signature_types}
use Rattle.ob_uses.specs.Ways.{type_names}
use Rattle.ob_uses.proofs.leads.add_shown_methods.Given as goal

-- what was added, and the rest after it, is the whole
abbrev pub invariant-methods : goal.invariant-methods
invariant-methods l = l.left.items ++ type_names l.alone l.own (flat_map (λ p. signature_types p.signature) (filter (λ p. is_shown p.mark) (drop l.method-index l.methods))) ≡ l.initial.left.items ++ type_names l.alone l.own (flat_map (λ p. signature_types p.signature) (filter (λ p. is_shown p.mark) l.methods))
