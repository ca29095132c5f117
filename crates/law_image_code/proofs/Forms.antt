-- What the way of passing says of forms, and which forms are no others.
use Rattle.std.proofs.Common.{◌≡◌, ◌⊎◌, inl, inr, refl, sym, subst, ℕ}
use Rattle.ob_types.specs.declared.types.Mode.{Mode}
use Rattle.ob_types.specs.declared.types.Mode.TheVariants as mode
use Rattle.ob_types.specs.declared.typed.Passing.{Passing}
use Rattle.ob_types.specs.declared.typed.Passing.TheVariants as passing
use Rattle.ob_meaning.specs.Values.{Form, BasicForm, PointerForm, ProcedureForm, ArrayForm, OpenForm, RecordForm, fields_of}
use Rattle.law_simulation_relation.specs.Relation.{Scalar}
use Rattle.law_simulation_relation.specs.Passed.{passing_for, IsOpen, IsClosed}
use Rattle.law_simulation_relation.specs.Typed.{IsRecordForm}
use Rattle.law_simulation.proofs.Forms.{IsArrayForm, IsPointerForm}

-- PASSING

abbrev pub IsOpenPassing : Passing → Type 0
IsOpenPassing passing.OpenArray = Unit {0}
IsOpenPassing passing.VariableOpenArray = Unit {0}
IsOpenPassing how = ⊥

pub closed_by : (how : Passing) (m : Mode) (t : Form) → how ≡ passing_for m t → (IsOpenPassing how → ⊥) → IsClosed t
closed_by how mode.Value (OpenForm t) e n = n (subst IsOpenPassing (sym e) tt)
closed_by how mode.Var (OpenForm t) e n = n (subst IsOpenPassing (sym e) tt)
closed_by how m (BasicForm b) e n = tt
closed_by how m (PointerForm t) e n = tt
closed_by how m (ProcedureForm s) e n = tt
closed_by how m (ArrayForm k t) e n = tt
closed_by how m (RecordForm line fs) e n = tt

abbrev IsRecordPassing : Passing → Type 0
IsRecordPassing passing.VariableRecord = Unit {0}
IsRecordPassing how = ⊥

pub open_by : (how : Passing) (m : Mode) (t : Form) → how ≡ passing_for m t → IsOpenPassing how → (u : Form) × (t ≡ OpenForm u)
open_by how m (OpenForm t) e n = (t, refl)
open_by how mode.Value (BasicForm b) e n = absurd (subst IsOpenPassing e n)
open_by how mode.Value (PointerForm t) e n = absurd (subst IsOpenPassing e n)
open_by how mode.Value (ProcedureForm s) e n = absurd (subst IsOpenPassing e n)
open_by how mode.Value (ArrayForm k t) e n = absurd (subst IsOpenPassing e n)
open_by how mode.Value (RecordForm line fs) e n = absurd (subst IsOpenPassing e n)
open_by how mode.Var (BasicForm b) e n = absurd (subst IsOpenPassing e n)
open_by how mode.Var (PointerForm t) e n = absurd (subst IsOpenPassing e n)
open_by how mode.Var (ProcedureForm s) e n = absurd (subst IsOpenPassing e n)
open_by how mode.Var (ArrayForm k t) e n = absurd (subst IsOpenPassing e n)
open_by how mode.Var (RecordForm line fs) e n = absurd (subst IsOpenPassing e n)

pub record_by : (m : Mode) (t : Form) → passing.VariableRecord ≡ passing_for m t → IsRecordForm t
record_by m (RecordForm line fs) e = (line, refl)
record_by mode.Value (BasicForm b) e = absurd (subst IsRecordPassing e tt)
record_by mode.Value (PointerForm t) e = absurd (subst IsRecordPassing e tt)
record_by mode.Value (ProcedureForm s) e = absurd (subst IsRecordPassing e tt)
record_by mode.Value (ArrayForm k t) e = absurd (subst IsRecordPassing e tt)
record_by mode.Value (OpenForm t) e = absurd (subst IsRecordPassing e tt)
record_by mode.Var (BasicForm b) e = absurd (subst IsRecordPassing e tt)
record_by mode.Var (PointerForm t) e = absurd (subst IsRecordPassing e tt)
record_by mode.Var (ProcedureForm s) e = absurd (subst IsRecordPassing e tt)
record_by mode.Var (ArrayForm k t) e = absurd (subst IsRecordPassing e tt)
record_by mode.Var (OpenForm t) e = absurd (subst IsRecordPassing e tt)

-- FORMS

abbrev IsRecordShape : Form → Type 0
IsRecordShape (RecordForm line fs) = Unit {0}
IsRecordShape t = ⊥

shape : (t : Form) → IsRecordForm t → IsRecordShape t
shape t r = subst IsRecordShape (sym r.1) tt

pub record_no_array : (t : Form) → IsRecordForm t → IsArrayForm t → ⊥
record_no_array t r a = by t (shape t r) a
  where
    by : (t : Form) → IsRecordShape t → IsArrayForm t → ⊥
    by (ArrayForm n t) s a = s
    by (OpenForm t) s a = s
    by (BasicForm b) s a = a
    by (PointerForm t) s a = a
    by (ProcedureForm g) s a = a
    by (RecordForm line fs) s a = a

pub record_no_scalar : (t : Form) → IsRecordForm t → Scalar t → ⊥
record_no_scalar t r c = by t (shape t r) c
  where
    by : (t : Form) → IsRecordShape t → Scalar t → ⊥
    by (BasicForm b) s a = s
    by (PointerForm t) s a = s
    by (ProcedureForm g) s a = s
    by (ArrayForm n t) s a = a
    by (OpenForm t) s a = a
    by (RecordForm line fs) s a = a

pub open_array : (t : Form) → IsOpen t → IsArrayForm t
open_array (OpenForm t) o = tt
open_array (BasicForm b) o = absurd o
open_array (PointerForm t) o = absurd o
open_array (ProcedureForm g) o = absurd o
open_array (ArrayForm n t) o = absurd o
open_array (RecordForm line fs) o = absurd o

pub open_closed : (t : Form) → IsOpen t → IsClosed t → ⊥
open_closed (OpenForm t) o c = c
open_closed (BasicForm b) o c = o
open_closed (PointerForm t) o c = o
open_closed (ProcedureForm g) o c = o
open_closed (ArrayForm n t) o c = o
open_closed (RecordForm line fs) o c = o

pub closed_array : (t : Form) → IsClosed t → IsArrayForm t → (n : ℕ) × (u : Form) × (t ≡ ArrayForm n u)
closed_array (ArrayForm n t) c a = (n, t, refl)
closed_array (OpenForm t) c a = absurd c
closed_array (BasicForm b) c a = absurd a
closed_array (PointerForm t) c a = absurd a
closed_array (ProcedureForm g) c a = absurd a
closed_array (RecordForm line fs) c a = absurd a

pub array_or_open : (t : Form) → IsArrayForm t → ((n : ℕ) × (u : Form) × (t ≡ ArrayForm n u)) ⊎ ((u : Form) × (t ≡ OpenForm u))
array_or_open (ArrayForm n t) a = inl (n, t, refl)
array_or_open (OpenForm t) a = inr (t, refl)
array_or_open (BasicForm b) a = absurd a
array_or_open (PointerForm t) a = absurd a
array_or_open (ProcedureForm g) a = absurd a
array_or_open (RecordForm line fs) a = absurd a

pub open_no_scalar : (t u : Form) → t ≡ OpenForm u → Scalar t → ⊥
open_no_scalar t u e s = subst Scalar e s

pub open_no_record : (t u : Form) → t ≡ OpenForm u → IsRecordForm t → ⊥
open_no_record t u e r = record_no_array t r (subst IsArrayForm (sym e) tt)
