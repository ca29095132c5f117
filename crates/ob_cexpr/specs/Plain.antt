-- Parts whose notes are written down already, and rows of parts.
use Rattle.std.specs.Prelude.{Bool, true, false, List, [], ◌∷◌, map, Option, Some, None}
use Rattle.ob_tree.specs.declared.pos.Pos.{Pos}
use Rattle.ob_tree.specs.declared.expr.Element.{Element}
use Rattle.ob_types.specs.declared.types.TypeRef.{TypeRef}
use Rattle.ob_rules.specs.declared.values.Valued.{Valued}
use Rattle.ob_rules.specs.declared.meant.ElementOf.{ElementOf}
use Rattle.ob_rules.specs.declared.meant.Meant.{Meant}
use Rattle.ob_rules.specs.declared.meant.Where.{Where}
use Rattle.ob_rules.specs.declared.broken.Rule.TheVariants as rule
use Rattle.ob_rules.specs.Operators.{set_of}
use Rattle.ob_rules.specs.Expressions.{element_value, ranged_of}
use Rattle.ob_rules.specs.Judged.{Judged, Notes, no_notes, noted, silent, breaks, if_sound, also, made, each_sound, ◌▷◌}
use Rattle.ob_rules.specs.Names.{Around}
use Rattle.ob_rules.specs.Phrases.{Phrase, Behind, Dot, Index, Up, Round}
use Rattle.ob_rules.specs.Calls.{misplaced}
use Rattle.ob_rules.specs.Predeclared.{values}
use Rattle.ob_rules.specs.Designators.{all_visited, visited, go_on_with, step, through, where_of, behind}
use Rattle.ob_cexpr_designator.specs.declared.front.Front.{Front}
use Rattle.ob_cexpr_operand.specs.Plain.{plain}

-- the elements of a set
abbrev pub elements_judged : Around → List Element → Judged (List ElementOf)
elements_judged u xs = each_sound (map (λ x. element_value u x) (map ranged_of xs))

-- a set of these elements
unfoldable pub set_judged : Around → List Element → Judged Valued
set_judged u xs = made set_of (elements_judged u xs)

-- the values of one selector
abbrev pub visited_one : Around → Behind → Notes
visited_one u (Index at i) = (i.value u).notes
visited_one u (Round at ps) = visited u ps
visited_one u b = no_notes

-- selectors behind what the ones before came to
abbrev pub goes_on : Around → Where → Pos → List Behind → Option Meant → Judged Meant
goes_on u w start bs m = go_on_with u bs (λ n. through u w start bs n) m

-- one selector behind what the ones before came to
abbrev pub step_or : Around → Where → Pos → Behind → Bool → Option Meant → Judged Meant
step_or u w start b last None = record { node = None; notes = visited_one u b }
step_or u w start b last (Some m) = step u (where_of w last) start m b last

-- the same, unless it was taken with the front
abbrev pub step_if : Around → Where → Pos → Behind → Bool → Bool → Option Meant → Judged Meant
step_if u w start b true last m = plain m
step_if u w start b false last m = step_or u w start b last m

-- selectors behind the front
abbrev pub behind_front : Around → Where → Pos → List Behind → Option Front → Judged Meant
behind_front u w start bs None = noted (all_visited u bs) silent
behind_front u w start bs (Some f) = through u w start (behind f.with_name bs) f.meant

-- MAX or MIN with further parameters, behind what the first comes to
abbrev pub further_of : Around → Where → Pos → List Phrase → Option (Option TypeRef) → Judged Meant
further_of u w at ps first = if_sound first (λ t. each_sound (values u ps) ▷ λ xs. also (misplaced w true) rule.MisplacedCall at (breaks rule.UnfitPredeclaredParameters at))
