use Rattle.std.proofs.Common.{◌+◌, ◌*◌}
use Rattle.ob_layout_module.proofs.counts.+counts.Given as goal

abbrev pub decreases-count_at : goal.decreases-count_at
decreases-count_at l = 6 * l.steps

abbrev pub decreases-count_of_base : goal.decreases-count_of_base
decreases-count_of_base l = 6 * l.steps + 1

abbrev pub decreases-count_of_other : goal.decreases-count_of_other
decreases-count_of_other l = 6 * l.steps + 1

abbrev pub decreases-count_of_record : goal.decreases-count_of_record
decreases-count_of_record l = 6 * l.steps + 2

abbrev pub decreases-count_of_desc : goal.decreases-count_of_desc
decreases-count_of_desc l = 6 * l.steps + 3

abbrev pub decreases-own_count : goal.decreases-own_count
decreases-own_count l = 6 * l.steps + 4

abbrev pub decreases-count_of_name : goal.decreases-count_of_name
decreases-count_of_name l = 6 * l.steps + 5
