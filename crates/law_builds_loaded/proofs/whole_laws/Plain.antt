-- What is no open array, and what is no array and no record, by how it is passed by value.
use Rattle.std.proofs.Common.{◌≡◌, refl, sym, ap, ◌∙◌, subst, Bool, true, false, Option, Some, None}
use Rattle.std.specs.Prelude.{◌||◌, is_some}
use Rattle.ob_types.specs.declared.types.Mode.TheVariants as mode
use Rattle.ob_types.specs.declared.types.TypeRef.{TypeRef}
use Rattle.ob_types.specs.declared.desc.Desc.{Desc}
use Rattle.ob_types.specs.declared.desc.Desc.TheVariants as desc
use Rattle.ob_meaning.specs.Values.{Form, BasicForm, PointerForm, ProcedureForm, ArrayForm, OpenForm, RecordForm}
use Rattle.law_simulation_relation.specs.Relation.{Scalar}
use Rattle.law_simulation_relation.specs.Passed.{IsOpen, passing_for}
use Rattle.ob_rules.specs.Shapes.{Map, shape, array_at, open_at, is_open, is_record, is_structured, by_value, passing_of}

-- an open array is an array
open_array : (o : Option Desc) → is_some (open_at o) ≡ true → is_some (array_at o) ≡ true
open_array None e = absurd cc
open_array (Some (desc.OpenArray m t)) e = refl
open_array (Some (desc.Const v)) e = absurd cc
open_array (Some (desc.Var m t)) e = absurd cc
open_array (Some (desc.Proc s)) e = absurd cc
open_array (Some (desc.Alias m t)) e = absurd cc
open_array (Some (desc.Array m n t)) e = absurd cc
open_array (Some (desc.Pointer m t)) e = absurd cc
open_array (Some (desc.ProcType m s)) e = absurd cc
open_array (Some (desc.Record r)) e = absurd cc

pub never_open : (map : Map) (t : TypeRef) (f : Form) → is_open map t ≡ false → passing_of map mode.Value t ≡ passing_for mode.Value f → IsOpen f → ⊥
never_open map t f e p = by (is_structured map t) f (subst (λ b. by_value b (is_structured map t) ≡ passing_for mode.Value f) e p)
  where
    by : (s : Bool) (f : Form) → by_value false s ≡ passing_for mode.Value f → IsOpen f → ⊥
    by true (OpenForm u) q k = absurd cc
    by false (OpenForm u) q k = absurd cc
    by s (BasicForm b) q k = k
    by s (PointerForm u) q k = k
    by s (ProcedureForm fs) q k = k
    by s (ArrayForm n u) q k = k
    by s (RecordForm line fs) q k = k

pub scalar_is : (map : Map) (t : TypeRef) (f : Form) → is_structured map t ≡ false → passing_of map mode.Value t ≡ passing_for mode.Value f → Scalar f
scalar_is map t f e p = by (is_open map t) refl f (subst (λ s. by_value (is_open map t) s ≡ passing_for mode.Value f) e p)
  where
    by : (o : Bool) → is_open map t ≡ o → (f : Form) → by_value o false ≡ passing_for mode.Value f → Scalar f
    by true i f q = let bad : true ≡ false = sym (ap (λ b. b || is_record map t) (open_array (shape map t) i)) ∙ e in absurd cc
    by false i (BasicForm b) q = tt
    by false i (PointerForm u) q = tt
    by false i (ProcedureForm fs) q = tt
    by false i (ArrayForm n u) q = absurd cc
    by false i (OpenForm u) q = absurd cc
    by false i (RecordForm line fs) q = absurd cc
