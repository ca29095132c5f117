-- Arguments that are judged, where what they say by themselves is noted already.
use Rattle.std.specs.Prelude.{List, [], ◌∷◌, Option, Some, None}
use Rattle.ob_tree.specs.declared.pos.Pos.{Pos}
use Rattle.ob_rules.specs.declared.values.Valued.{Valued}
use Rattle.ob_rules.specs.declared.meant.Meant.{Meant}
use Rattle.ob_rules.specs.declared.meant.Asked.{Asked}
use Rattle.ob_rules.specs.declared.meant.Asked.TheVariants as asked
use Rattle.ob_rules.specs.Judged.{Judged, Notes, ◌▷◌}
use Rattle.ob_rules.specs.Names.{Around}
use Rattle.ob_rules.specs.Phrases.{Phrase}
use Rattle.ob_rules.specs.Predeclared.{parameter}
use Rattle.ob_rules.specs.Expressions.{value_meant}
use Rattle.ob_cexpr_operand.specs.Plain.{plain}
use Rattle.ob_cexpr_arguments.specs.declared.arguments.Argument.{Argument}
use Rattle.ob_cexpr_arguments.specs.declared.arguments.Argument.TheVariants as are

-- an argument by what it comes to, if it is a designator, and by its value
abbrev pub argument_of : Around → Option (Around → Judged Meant) → Judged Valued → Argument
argument_of u None v = are.Other v.node
argument_of u (Some m) v = are.Designator (m u).node

-- what it says by itself
abbrev pub argument_says : Around → Option (Around → Judged Meant) → Judged Valued → Notes
argument_says u None v = v.notes
argument_says u (Some m) v = (m u).notes

-- and what it has left to say: as a value, and as a designator
abbrev pub value_left : Pos → Argument → Judged Valued
value_left at (are.Designator m) = plain m ▷ (λ x. value_meant at x)
value_left at (are.Other x) = plain x

abbrev pub meant_left : Argument → Option (Around → Judged Meant)
meant_left (are.Designator m) = Some (λ u. plain m)
meant_left (are.Other x) = None

abbrev pub left_of : Pos → Argument → Phrase
left_of at a = record { start = at; name = None; meant = meant_left a; value = λ u. value_left at a }

-- parameters by what is asked of the first and of the second
abbrev pub parameters_asked : Around → Asked → Asked → List Phrase → List (Judged Valued)
parameters_asked u a b [] = []
parameters_asked u a b (p ∷ ps) = parameter u a p ∷ parameters_asked u b asked.Value ps
