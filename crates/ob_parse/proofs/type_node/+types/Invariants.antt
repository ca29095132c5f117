use Rattle.std.proofs.Common.{◌+◌, ◌*◌, length}
use Rattle.ob_tree.specs.declared.symbol.Symbol.TheVariants as s
use Rattle.ob_parse_grammar.specs.Phrase.{many}
use Rattle.ob_parse_grammar.specs.Expressions as expr
use Rattle.ob_parse_grammar.specs.Types as types
use Rattle.ob_parse_grammar.specs.Grammar.{reads}
use Rattle.ob_parse_grammar.proofs.Loops.{GoesOn, JoinsOn}
use Rattle.ob_parse.proofs.type_node.+types.Given as goal

abbrev pub decreases-nested_type : goal.decreases-nested_type
decreases-nested_type l = 16 * l.levels

abbrev pub decreases-fields : goal.decreases-fields
decreases-fields l = 16 * l.levels + 1

abbrev pub decreases-section : goal.decreases-section
decreases-section l = 16 * l.levels + 1

abbrev pub decreases-array : goal.decreases-array
decreases-array l = 16 * l.levels + 1

abbrev pub decreases-pointer : goal.decreases-pointer
decreases-pointer l = 16 * l.levels + 1

abbrev pub decreases-field_list : goal.decreases-field_list
decreases-field_list l = 16 * l.levels + 2

abbrev pub decreases-next_field_list : goal.decreases-next_field_list
decreases-next_field_list l = 16 * l.levels + 3

abbrev pub decreases-field_lists : goal.decreases-field_lists
decreases-field_lists l = 16 * l.levels + 4

abbrev pub decreases-record_type : goal.decreases-record_type
decreases-record_type l = 16 * l.levels + 5

abbrev pub decreases-next_section : goal.decreases-next_section
decreases-next_section l = 16 * l.levels + 2

abbrev pub decreases-sections : goal.decreases-sections
decreases-sections l = 16 * l.levels + 4

abbrev pub decreases-formal_pars : goal.decreases-formal_pars
decreases-formal_pars l = 16 * l.levels + 5

abbrev pub decreases-parameters : goal.decreases-parameters
decreases-parameters l = 16 * l.levels + 6

abbrev pub decreases-procedure_type : goal.decreases-procedure_type
decreases-procedure_type l = 16 * l.levels + 7

abbrev pub decreases-type_node : goal.decreases-type_node
decreases-type_node l = 16 * l.levels + 8

abbrev pub invariant-further_sections-more : goal.invariant-further_sections-more
invariant-further_sections-more l = GoesOn (reads l.levels (many (expr.next_of s.Semicolon types.section)) l.fn.tokens) l.levels (expr.next_of s.Semicolon types.section) l.found l.tokens

abbrev pub decreases-further_sections-more : goal.decreases-further_sections-more
decreases-further_sections-more l = length l.tokens

abbrev pub invariant-field_lists-more : goal.invariant-field_lists-more
invariant-field_lists-more l = JoinsOn (reads l.levels (expr.separated s.Semicolon types.field_list) l.fn.tokens) l.levels (expr.next_of s.Semicolon types.field_list) l.found l.tokens

abbrev pub decreases-field_lists-more : goal.decreases-field_lists-more
decreases-field_lists-more l = length l.tokens

abbrev pub decreases-further_sections : goal.decreases-further_sections
decreases-further_sections l = 16 * l.levels + 3
