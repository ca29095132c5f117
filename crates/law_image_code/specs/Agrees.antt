-- That a procedure's scope in an image has what the scheme looks up for it.
use Rattle.std.specs.Prelude.{◌≡◌, ℕ, List, Some, true, slice_get}
use Rattle.ob_tree.specs.declared.names.QName.{QName}
use Rattle.ob_types.specs.declared.typed.Family.{Family}
use Rattle.ob_scheme.specs.Descriptions.{method_number}
use Rattle.ob_scheme.specs.Context.{Context, is_own, variable_place, parameter_slot, local_slot, procedure_index, type_index, own_types, records}
use Rattle.law_simulation_relation.specs.Layout.{type_number, slot, variables_in}
use Rattle.law_simulation_relation.specs.Relation.{number_of}
use Rattle.law_simulation_relation.specs.Stands.{Scope}
use Rattle.law_image_code.specs.Standing.{own_types_in}
use Rattle.law_image_code.specs.Described.{IsDescribed}
use Rattle.law_image_code.specs.Fits.{IsNamed, AmongLocals, AmongParameters, AmongTypes}

pub record Agrees (sc : Scope) (c : Context) : Type 0 where
  pub described : IsDescribed c.types sc.program
  pub unit : c.unit.name ≡ sc.unit
  pub own : own_types c ≡ own_types_in sc.img.types sc.unit
  pub methods : (f : Family) → sc.method_number f ≡ method_number c.types f.owner f.name
  pub variables : (m x : List ℕ) → is_own c m ≡ true → variable_place c x ≡ slot (variables_in sc.program sc.program m) x
  pub parameters : (x : List ℕ) → AmongParameters c.parameters x → parameter_slot c x ≡ slot sc.held x
  pub locals : (x : List ℕ) → AmongLocals c.locals x → local_slot c x ≡ slot sc.held x
  pub procedures : (q : QName) → is_own c q.module ≡ true → IsNamed q.object → procedure_index c q.object ≡ (number_of sc.program (λ s p. Unit {0}) sc.img q).proc
  pub types : (q : QName) → is_own c q.module ≡ true → AmongTypes (records c) q.object → slice_get sc.u.types (type_index c q.object) ≡ Some (type_number sc.img.types q)
