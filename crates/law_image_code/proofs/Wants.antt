-- What can be had of a designator, by its form.
use Rattle.std.proofs.Common.{◌≡◌, refl, subst}
use Rattle.ob_tree.specs.declared.pos.Pos.{Pos}
use Rattle.ob_tree.specs.declared.names.QName.{QName}
use Rattle.ob_types.specs.declared.types.TypeRef.{TypeRef}
use Rattle.ob_types.specs.declared.typed.Passing.TheVariants as passing
use Rattle.ob_types.specs.declared.typed.Variable.{Variable}
use Rattle.ob_types.specs.declared.typed.Variable.TheVariants as variable
use Rattle.ob_types.specs.declared.typed.Guarded.TheVariants as guarded
use Rattle.ob_types.specs.TypedSyntax.{Desig, OfVariable, Guard}
use Rattle.ob_types.specs.TypedKinds.{variable_type}
use Rattle.ob_meaning.specs.Values.{Program, Form, PointerForm, OpenForm, form_in}
use Rattle.ob_scheme.specs.declared.want.Want.{Want}
use Rattle.ob_scheme.specs.declared.want.Want.TheVariants as want
use Rattle.ob_scheme.specs.Context.{Context}
use Rattle.ob_scheme.specs.Expressions.{under_guard}
use Rattle.law_simulation_relation.specs.Relation.{Scalar}
use Rattle.law_simulation_relation.specs.Passed.{IsOpen, IsClosed, IsPassed}
use Rattle.law_simulation_relation.specs.Typed.{IsRecordForm, IsVariableRecord}
use Rattle.law_image_code.specs.Fits.{TaggedGives, GuardGives, IsRecordType, PlaceGives, OpenGives, VariableGives, PointerGives}
use Rattle.law_simulation.proofs.Forms.{IsArrayForm, IsPointerForm}
use Rattle.law_image_code.proofs.Forms.{closed_by, open_by, record_by, record_no_array, record_no_scalar, open_array, open_closed, closed_array, array_or_open, open_no_scalar, open_no_record}

-- the form that a want asks for
abbrev pub NeedForm : Want → Form → Type 0
NeedForm want.Value t = Scalar t
NeedForm want.Place t = Unit {0}
NeedForm (want.Room n) t = Unit {0}
NeedForm want.PlaceAndTag t = IsRecordForm t
NeedForm want.Tag t = ⊥
NeedForm want.PlaceAndLength t = IsArrayForm t
NeedForm want.Length t = IsOpen t

-- and of a designator: its tag alone is that of a VAR record
abbrev pub Need : Program → Want → Desig → Type 0
Need program want.Tag d = IsVariableRecord d
Need program want.Value d = NeedForm want.Value (form_in program (variable_type d))
Need program want.Place d = Unit {0}
Need program (want.Room n) d = Unit {0}
Need program want.PlaceAndTag d = NeedForm want.PlaceAndTag (form_in program (variable_type d))
Need program want.PlaceAndLength d = NeedForm want.PlaceAndLength (form_in program (variable_type d))
Need program want.Length d = NeedForm want.Length (form_in program (variable_type d))

pub plain_need : (program : Program) (w : Want) (d : Desig) → (IsVariableRecord d → ⊥) → Need program w d → NeedForm w (form_in program (variable_type d))
plain_need program want.Tag d n h = n h
plain_need program want.Value d n h = h
plain_need program want.Place d n h = tt
plain_need program (want.Room k) d n h = tt
plain_need program want.PlaceAndTag d n h = h
plain_need program want.PlaceAndLength d n h = h
plain_need program want.Length d n h = h

pub pointer_no_record : (t : Form) → IsPointerForm t → IsRecordForm t → ⊥
pointer_no_record (PointerForm t) p r = absurd cc
pointer_no_record t p r = p

pub pointer_no_array : (t : Form) → IsPointerForm t → IsArrayForm t → ⊥
pointer_no_array (PointerForm t) p a = a
pointer_no_array t p a = p

module _ (program : Program) (c : Context) (named : (t : TypeRef) → IsRecordForm (form_in program t) → IsRecordType program c t) where
  abbrev F : TypeRef → Form
  F t = form_in program t

  pub place_gives : (w : Want) (t : TypeRef) → IsClosed (F t) → NeedForm w (F t) → PlaceGives program c w t
  place_gives want.Value t k n = tt
  place_gives want.Place t k n = tt
  place_gives (want.Room m) t k n = tt
  place_gives want.PlaceAndTag t k n = named t n
  place_gives want.Tag t k n = n
  place_gives want.PlaceAndLength t k n = closed_array (F t) k n
  place_gives want.Length t k n = open_closed (F t) n k

  open_gives : (w : Want) (t : TypeRef) → (u : Form) × (F t ≡ OpenForm u) → NeedForm w (F t) → OpenGives program c w t
  open_gives want.Value t o n = open_no_scalar (F t) o.0 o.1 n
  open_gives want.Place t o n = tt
  open_gives (want.Room m) t o n = tt
  open_gives want.PlaceAndTag t o n = open_no_record (F t) o.0 o.1 n
  open_gives want.Tag t o n = n
  open_gives want.PlaceAndLength t o n = o
  open_gives want.Length t o n = tt

  pub pointer_gives : (w : Want) (t : TypeRef) → NeedForm w (F t) → PointerGives program c w t
  pointer_gives want.Value t n = tt
  pointer_gives want.Place t n = tt
  pointer_gives (want.Room m) t n = tt
  pointer_gives want.PlaceAndTag t n = tt
  pointer_gives want.Tag t n = n
  pointer_gives want.PlaceAndLength t n = array_or_open (F t) n
  pointer_gives want.Length t n = tt

  -- of a record by its tag
  tagged_gives : (w : Want) (t : TypeRef) (d : Desig) → variable_type d ≡ t → IsRecordForm (F t) → Need program w d → TaggedGives w
  tagged_gives want.Value t d e r n = record_no_scalar (F t) r (subst (λ z. Scalar (F z)) e n)
  tagged_gives want.Place t d e r n = tt
  tagged_gives (want.Room m) t d e r n = tt
  tagged_gives want.PlaceAndTag t d e r n = tt
  tagged_gives want.Tag t d e r n = tt
  tagged_gives want.PlaceAndLength t d e r n = record_no_array (F t) r (subst (λ z. IsArrayForm (F z)) e n)
  tagged_gives want.Length t d e r n = record_no_array (F t) r (open_array (F t) (subst (λ z. IsOpen (F z)) e n))

  pub variable_gives : (w : Want) (v : Variable) (t : TypeRef) → IsPassed v (F t) → Need program w (OfVariable v t) → VariableGives program c v w t
  variable_gives w (variable.Module m x) t h n = place_gives w t h (plain_need program w (OfVariable (variable.Module m x) t) (λ z. z) n)
  variable_gives w (variable.Local x) t h n = place_gives w t h (plain_need program w (OfVariable (variable.Local x) t) (λ z. z) n)
  variable_gives w (variable.Parameter passing.Scalar x) t h n = place_gives w t (closed_by passing.Scalar h.0 (F t) h.1 (λ z. z)) (plain_need program w (OfVariable (variable.Parameter passing.Scalar x) t) (λ z. z) n)
  variable_gives w (variable.Parameter passing.Structure x) t h n = place_gives w t (closed_by passing.Structure h.0 (F t) h.1 (λ z. z)) (plain_need program w (OfVariable (variable.Parameter passing.Structure x) t) (λ z. z) n)
  variable_gives w (variable.Parameter passing.Variable x) t h n = place_gives w t (closed_by passing.Variable h.0 (F t) h.1 (λ z. z)) (plain_need program w (OfVariable (variable.Parameter passing.Variable x) t) (λ z. z) n)
  variable_gives w (variable.Parameter passing.OpenArray x) t h n = open_gives w t (open_by passing.OpenArray h.0 (F t) h.1 tt) (plain_need program w (OfVariable (variable.Parameter passing.OpenArray x) t) (λ z. z) n)
  variable_gives w (variable.Parameter passing.VariableOpenArray x) t h n = open_gives w t (open_by passing.VariableOpenArray h.0 (F t) h.1 tt) (plain_need program w (OfVariable (variable.Parameter passing.VariableOpenArray x) t) (λ z. z) n)
  variable_gives w (variable.Parameter passing.VariableRecord x) t h n = tagged_gives w t (OfVariable (variable.Parameter passing.VariableRecord x) t) refl (record_by h.0 (F t) h.1) n

  -- GUARDS

  pub pointer_guard_gives : (w : Want) (d : Desig) (q : QName) (at : Pos) (t : TypeRef) → IsPointerForm (F t) → Need program w (Guard d guarded.Pointer q at t) → GuardGives guarded.Pointer w
  pointer_guard_gives want.Value d q at t p n = tt
  pointer_guard_gives want.Place d q at t p n = tt
  pointer_guard_gives (want.Room m) d q at t p n = tt
  pointer_guard_gives want.PlaceAndTag d q at t p n = pointer_no_record (F t) p n
  pointer_guard_gives want.Tag d q at t p n = n
  pointer_guard_gives want.PlaceAndLength d q at t p n = pointer_no_array (F t) p n
  pointer_guard_gives want.Length d q at t p n = pointer_no_array (F t) p (open_array (F t) n)

  pub record_guard_gives : (w : Want) (d : Desig) (q : QName) (at : Pos) (t : TypeRef) → IsRecordForm (F t) → Need program w (Guard d guarded.Record q at t) → GuardGives guarded.Record w
  record_guard_gives w d q at t r n = tagged_gives w t (Guard d guarded.Record q at t) refl r n

  -- what is wanted below a guard of a record
  pub below_guard : (w : Want) (d : Desig) (q : QName) (at : Pos) (t : TypeRef) → IsRecordForm (F (variable_type d)) → Need program w (Guard d guarded.Record q at t) → Need program (under_guard w) d
  below_guard want.Tag d q at t r n = n
  below_guard want.Value d q at t r n = r
  below_guard want.Place d q at t r n = r
  below_guard (want.Room m) d q at t r n = r
  below_guard want.PlaceAndTag d q at t r n = r
  below_guard want.PlaceAndLength d q at t r n = r
  below_guard want.Length d q at t r n = r
