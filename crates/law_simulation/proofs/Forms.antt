-- What the forms of variables say of how they are passed.
use Rattle.std.proofs.Common.{◌≡◌, refl, sym, subst, ℕ, List}
use Rattle.ob_tree.specs.declared.names.QName.{QName}
use Rattle.ob_types.specs.declared.types.Mode.{Mode}
use Rattle.ob_types.specs.declared.types.Mode.TheVariants as mode
use Rattle.ob_types.specs.declared.types.TypeRef.{TypeRef}
use Rattle.ob_types.specs.declared.typed.Width.{Width}
use Rattle.ob_types.specs.declared.typed.Passing.{Passing}
use Rattle.ob_types.specs.declared.typed.Passing.TheVariants as passing
use Rattle.ob_types.specs.declared.typed.Variable.{Variable}
use Rattle.ob_types.specs.declared.typed.Variable.TheVariants as variable
use Rattle.ob_types.specs.TypedSyntax.{OfVariable}
use Rattle.ob_meaning.specs.Values.{Form, BasicForm, PointerForm, ProcedureForm, ArrayForm, OpenForm, RecordForm, Fields, fields_of}
use Rattle.law_simulation_relation.specs.Relation.{Sub, itself, extended, opened, IsStructure}
use Rattle.law_simulation_relation.specs.Passed.{passing_for, IsClosed, IsPassed}
use Rattle.law_simulation_relation.specs.Typed.{IsRecordForm, integer}
use Rattle.law_simulation_relation.specs.Plain.{Plain}
use Rattle.law_simulation.specs.Slice.{InTaggedVariable, InArrayVariable, InOpen}

-- an array, open or of a length
abbrev pub IsArrayForm : Form → Type 0
IsArrayForm (ArrayForm n t) = Unit {0}
IsArrayForm (OpenForm t) = Unit {0}
IsArrayForm t = ⊥

abbrev pub IsPointerForm : Form → Type 0
IsPointerForm (PointerForm t) = Unit {0}
IsPointerForm t = ⊥

-- RECORDS

record_passed : (how : Passing) (m : Mode) (t : Form) → IsRecordForm t → how ≡ passing_for m t → (how ≡ passing.Structure → ⊥) → how ≡ passing.VariableRecord
record_passed how mode.Value t r e n = absurd (n (subst (λ f. how ≡ passing_for mode.Value f) r.1 e))
record_passed how mode.Var t r e n = subst (λ f. how ≡ passing_for mode.Var f) r.1 e

pub tagged_variable : (v : Variable) (t : Form) → IsPassed v t → IsRecordForm t → InTaggedVariable v
tagged_variable (variable.Module m x) t h r = tt
tagged_variable (variable.Local x) t h r = tt
tagged_variable (variable.Parameter passing.Scalar x) t h r = tt
tagged_variable (variable.Parameter passing.Structure x) t h r = tt
tagged_variable (variable.Parameter passing.Variable x) t h r = tt
tagged_variable (variable.Parameter passing.VariableRecord x) t h r = tt
tagged_variable (variable.Parameter passing.OpenArray x) t h r = different (record_passed passing.OpenArray h.0 t r h.1 (λ e. absurd cc))
  where
    different : passing.OpenArray ≡ passing.VariableRecord → ⊥
    different e = absurd cc
tagged_variable (variable.Parameter passing.VariableOpenArray x) t h r = different (record_passed passing.VariableOpenArray h.0 t r h.1 (λ e. absurd cc))
  where
    different : passing.VariableOpenArray ≡ passing.VariableRecord → ⊥
    different e = absurd cc

-- ARRAYS

no_record : (m : Mode) (t : Form) → IsArrayForm t → passing.VariableRecord ≡ passing_for m t → ⊥
no_record mode.Value (ArrayForm n t) a e = absurd cc
no_record mode.Var (ArrayForm n t) a e = absurd cc
no_record mode.Value (OpenForm t) a e = absurd cc
no_record mode.Var (OpenForm t) a e = absurd cc
no_record m (BasicForm b) a e = a
no_record m (PointerForm t) a e = a
no_record m (ProcedureForm s) a e = a
no_record m (RecordForm line fs) a e = a

pub array_variable : (v : Variable) (t : Form) → IsPassed v t → IsArrayForm t → InArrayVariable v
array_variable (variable.Module m x) t h a = tt
array_variable (variable.Local x) t h a = tt
array_variable (variable.Parameter passing.Scalar x) t h a = tt
array_variable (variable.Parameter passing.Structure x) t h a = tt
array_variable (variable.Parameter passing.OpenArray x) t h a = tt
array_variable (variable.Parameter passing.Variable x) t h a = tt
array_variable (variable.Parameter passing.VariableOpenArray x) t h a = tt
array_variable (variable.Parameter passing.VariableRecord x) t h a = no_record h.0 t a h.1

-- how an open array is passed
abbrev IsOpenPassing : Passing → Type 0
IsOpenPassing passing.OpenArray = Unit {0}
IsOpenPassing passing.VariableOpenArray = Unit {0}
IsOpenPassing how = ⊥

open_passed : (m : Mode) (u : Form) → IsOpenPassing (passing_for m (OpenForm u))
open_passed mode.Value u = tt
open_passed mode.Var u = tt

pub open_variable : (v : Variable) (r : TypeRef) (t u : Form) → IsPassed v t → t ≡ OpenForm u → InOpen (OfVariable v r)
open_variable (variable.Module m x) r t u h e = absurd (subst IsClosed e h)
open_variable (variable.Local x) r t u h e = absurd (subst IsClosed e h)
open_variable (variable.Parameter how x) r t u h e = by how (subst IsOpenPassing (sym (subst (λ f. how ≡ passing_for h.0 f) e h.1)) (open_passed h.0 u))
  where
    by : (how : Passing) → IsOpenPassing how → InOpen (OfVariable (variable.Parameter how x) r)
    by passing.OpenArray k = tt
    by passing.VariableOpenArray k = tt
    by passing.Scalar k = absurd k
    by passing.Structure k = absurd k
    by passing.Variable k = absurd k
    by passing.VariableRecord k = absurd k

-- SCALARS

abbrev IsPlainPassing : Passing → Type 0
IsPlainPassing passing.Scalar = Unit {0}
IsPlainPassing passing.Variable = Unit {0}
IsPlainPassing how = ⊥

integer_passed : (m : Mode) (w : Width) → IsPlainPassing (passing_for m (integer w))
integer_passed mode.Value w = tt
integer_passed mode.Var w = tt

pub plain_variable : (v : Variable) (w : Width) → IsPassed v (integer w) → Plain v
plain_variable (variable.Module m x) w h = tt
plain_variable (variable.Local x) w h = tt
plain_variable (variable.Parameter how x) w h = by how (subst IsPlainPassing (sym h.1) (integer_passed h.0 w))
  where
    by : (how : Passing) → IsPlainPassing how → Plain (variable.Parameter how x)
    by passing.Scalar k = tt
    by passing.Variable k = tt
    by passing.Structure k = absurd k
    by passing.OpenArray k = absurd k
    by passing.VariableRecord k = absurd k
    by passing.VariableOpenArray k = absurd k

-- EXTENSIONS

-- what a record extends is one
pub record_above : (t u : Form) → Sub t u → IsRecordForm t → IsRecordForm u
record_above _ t itself r = r
record_above _ _ (extended more gs {line = line} {fs = fs}) r = (line, refl)
record_above _ _ (opened n {t = t}) r = different n t r.0 (fields_of (ArrayForm n t)) r.1
  where
    different : (n : ℕ) (t : Form) (line : List QName) (fs : Fields) → ArrayForm n t ≡ RecordForm line fs → IsRecordForm (OpenForm t)
    different n t line fs e = absurd cc

-- what stands for no pointer is none
pub no_pointer : (t u : Form) → Sub t u → (IsPointerForm u → ⊥) → IsPointerForm t → ⊥
no_pointer _ t itself n p = n p
no_pointer _ _ (extended more gs) n p = p
no_pointer _ _ (opened k) n p = p

pub structure_no_pointer : (t : Form) → IsStructure t → IsPointerForm t → ⊥
structure_no_pointer (PointerForm t) s p = s
structure_no_pointer (BasicForm b) s p = p
structure_no_pointer (ProcedureForm g) s p = p
structure_no_pointer (ArrayForm n t) s p = p
structure_no_pointer (OpenForm t) s p = p
structure_no_pointer (RecordForm line fs) s p = p
