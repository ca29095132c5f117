-- Orders of what stands in a module's tables.
use Rattle.std.specs.Prelude.{ℕ, List}
use Rattle.std.specs.Ordering.{nat_cmp}
use Rattle.std.specs.Cmp.{IsTotalOrder}
use Rattle.std.specs.Cmp.Lexicographic.{slice_cmp}
use Rattle.std.specs.declared.cmp.Ordering.{Ordering}
use Rattle.std.proofs.lemmas.Cmp.{nat_list_cmp_total, nat_cmp_total, on_total}
use Rattle.ob_obj.specs.declared.parts.Variable.{Variable}
use Rattle.ob_obj.specs.declared.parts.Command.{Command}
use Rattle.ob_obj.specs.declared.parts.Definition.{Definition}
use Rattle.ob_gproc_tables.specs.declared.named.Named.{Named}
use Rattle.ob_gproc_tables.specs.declared.defined.Defined.{Defined}

-- by name
abbrev pub by_named : Named → Named → Ordering
by_named a b = slice_cmp nat_cmp a.name b.name

pub named_total : IsTotalOrder by_named
named_total = on_total (λ u. u.name) nat_list_cmp_total

-- by number
abbrev pub by_defined : Defined → Defined → Ordering
by_defined a b = nat_cmp a.number b.number

pub defined_total : IsTotalOrder by_defined
defined_total = on_total (λ u. u.number) nat_cmp_total

abbrev pub of_variable : Variable → Named
of_variable v = record { name = v.name; number = v.place }

abbrev pub to_variable : Named → Variable
to_variable n = record { name = n.name; place = n.number }

abbrev pub of_command : Command → Named
of_command c = record { name = c.name; number = c.procedure }

abbrev pub to_command : Named → Command
to_command n = record { name = n.name; procedure = n.number }

abbrev pub of_definition : Definition → Defined
of_definition d = record { number = d.number; procedure = d.procedure }

abbrev pub to_definition : Defined → Definition
to_definition d = record { number = d.number; procedure = d.procedure }
