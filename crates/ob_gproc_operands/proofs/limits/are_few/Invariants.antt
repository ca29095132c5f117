use Rattle.std.specs.Prelude.{map}
use Rattle.std.proofs.Common.{◌≡◌, drop, Option}
use Rattle.ob_tree.specs.declared.names.QName.{QName}
use Rattle.ob_types.specs.declared.desc.Desc.{Desc}
use Rattle.ob_types.specs.TypedSyntax.{Module}
use Rattle.ob_types.specs.TypedView.{procedure_view}
use Rattle.ob_scheme.specs.Needs.{have_few_operands}
use Rattle.ob_gproc_operands.proofs.limits.are_few.Given as goal

-- the rest decides
abbrev pub invariant-procedures : goal.invariant-procedures
invariant-procedures l = (types : QName → Option Desc) (m : Module) → have_few_operands types m (map procedure_view (drop l.procedure-index l.procedures)) ≡ have_few_operands types m (map procedure_view l.procedures)
