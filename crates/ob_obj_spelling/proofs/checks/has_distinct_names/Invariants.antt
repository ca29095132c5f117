use Rattle.std.proofs.Common.{◌≡◌, true, take, List, ℕ, Bor}
use Rattle.std.specs.List.{list_any}
use Rattle.std.specs.Ordering.{nat_cmp, is_eq}
use Rattle.std.specs.Cmp.Lexicographic.{slice_cmp}
use Rattle.std.specs.BTreeSet.{contains}
use Rattle.ob_format.specs.Order.{differ}
use Rattle.ob_obj.specs.Grammar.{by_name, by_type}
use Rattle.ob_obj_spelling.proofs.checks.has_distinct_names.Given as goal

abbrev pub invariant-loop-entry : goal.invariant-loop-entry
invariant-loop-entry l =
    ((q : Bor (List ℕ)) → contains (λ x y. slice_cmp nat_cmp x.now y.now) l.names q ≡ list_any (λ t. is_eq (by_name q.now t.name)) (take l.entry-index l.types))
    × (differ by_type (take l.entry-index l.types) ≡ true)
