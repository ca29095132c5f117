-- A procedure and its forward declaration.
use Rattle.std.specs.Prelude.{Bool, not, ◌&&◌, Option, Some}
use Rattle.ob_rules.specs.Shapes.{Map}
use Rattle.ob_rules.specs.Operators.{signatures_match}
use Rattle.ob_rules.specs.Types.{Parameters}
use Rattle.ob_rules.specs.Headings.{BoundAs, Head, both_sound, signature_if, same_receiver}

abbrev pub alike : Map → Parameters → Parameters → Option BoundAs → Option BoundAs → Bool
alike map p q b c = signatures_match map (Some p.signature) (Some q.signature) && same_receiver map b c

-- both are sound, and not alike
abbrev pub differs : Map → Head → Head → Bool
differs map f h = both_sound f.parameters h.parameters && not (signatures_match map (signature_if f.parameters) (signature_if h.parameters) && same_receiver map f.bound h.bound)
