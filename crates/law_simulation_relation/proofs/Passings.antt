-- How a parameter is passed says what its form is.
use Rattle.std.proofs.Common.{◌≡◌}
use Rattle.ob_types.specs.declared.types.Mode.{Mode}
use Rattle.ob_types.specs.declared.types.Mode.TheVariants as mode
use Rattle.ob_types.specs.declared.types.TypeRef.{TypeRef}
use Rattle.ob_types.specs.declared.typed.Passing.{Passing}
use Rattle.ob_types.specs.declared.typed.Passing.TheVariants as passing
use Rattle.ob_meaning.specs.Values.{Program, Form, BasicForm, PointerForm, ProcedureForm, ArrayForm, OpenForm, RecordForm, form_in}
use Rattle.law_simulation_relation.specs.Relation.{IsStructure}
use Rattle.law_simulation_relation.specs.Passed.{passing_for}
use Rattle.law_simulation_relation.specs.Typed.{IsFormal}

pub structure_is : (m : Mode) (t : Form) → passing.Structure ≡ passing_for m t → IsStructure t
structure_is m (ArrayForm n t) e = tt
structure_is m (RecordForm line fs) e = tt
structure_is mode.Value (BasicForm b) e = absurd cc
structure_is mode.Value (PointerForm t) e = absurd cc
structure_is mode.Value (ProcedureForm s) e = absurd cc
structure_is mode.Value (OpenForm t) e = absurd cc
structure_is mode.Var (BasicForm b) e = absurd cc
structure_is mode.Var (PointerForm t) e = absurd cc
structure_is mode.Var (ProcedureForm s) e = absurd cc
structure_is mode.Var (OpenForm t) e = absurd cc

-- the type of an actual parameter is that of the formal one where their forms are equal
pub formal_is : (program : Program) (how : Passing) (m : Mode) (t u : TypeRef) → how ≡ passing_for m (form_in program u) → form_in program t ≡ form_in program u → IsFormal program how t u
formal_is program passing.Structure m t u p e = (e, structure_is m (form_in program u) p)
formal_is program passing.Scalar m t u p e = tt
formal_is program passing.OpenArray m t u p e = tt
formal_is program passing.Variable m t u p e = tt
formal_is program passing.VariableRecord m t u p e = tt
formal_is program passing.VariableOpenArray m t u p e = tt
