use Rattle.std.proofs.Common.{◌≡◌, ◌++◌}
use Rattle.ob_layout.specs.Parts.{size_of_parts, texts_of_part, texts_of_parts}
use Rattle.ob_layout.specs.Used.{used, counted}
use Rattle.ob_layout.proofs.texts.texts_in.Given as goal

-- what was found, and what is still in the parts, is the whole
abbrev pub invariant-parts : goal.invariant-parts
invariant-parts g l = used l.out ++ texts_of_parts (counted (g.T.Types.types l.types)) l.parts.items ≡ used l.fn.out ++ texts_of_part (counted (g.T.Types.types l.types)) l.part

abbrev pub decreases-parts : goal.decreases-parts
decreases-parts g l = size_of_parts l.parts.items
