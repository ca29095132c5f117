-- What a bound procedure is bound to, and its name, step by step.
use Rattle.std.specs.Prelude.{Bool, ◌&&◌, List, ℕ, Option}
use Rattle.ob_tree.specs.declared.decl.Receiver.{Receiver}
use Rattle.ob_types.specs.declared.types.TypeRef.{TypeRef}
use Rattle.ob_tree.specs.declared.names.QName.{QName}
use Rattle.ob_rules.specs.Judged.{Judged}
use Rattle.ob_rules.specs.Shapes.{pointed}
use Rattle.ob_rules.specs.Names.{Around, map_of}
use Rattle.ob_rules.specs.Types.{is_module_level}
use Rattle.ob_rules.specs.Headings.{BoundAs, bound_to, silent_base, own_record, received_record}

-- the record of the module that a receiver of that type is for
abbrev pub record_received : Around → Bool → TypeRef → Option QName
record_received u var t = own_record u (received_record (map_of u) var t)

-- nothing is said of a receiver of that type
abbrev pub is_silent : Around → Bool → TypeRef → Bool
is_silent u var t = is_module_level u && silent_base (map_of u) var (pointed (map_of u) t)

abbrev pub bound_by : Around → Receiver → TypeRef → Judged BoundAs
bound_by u r t = bound_to r.owner.«pos» r.is_var t (is_silent u r.is_var t) (record_received u r.is_var t)
