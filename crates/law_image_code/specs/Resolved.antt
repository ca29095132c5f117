-- That the links of a module's file have in its image what they name: the premise that linking keeps.
use Rattle.std.specs.Prelude.{◌≡◌, ℕ, suc, ◌+◌, Some, slice_get}
use Rattle.ob_tree.specs.declared.names.QName.{QName}
use Rattle.ob_obj.specs.declared.parts.Link.{Link}
use Rattle.ob_scheme.specs.Numbers.{Named}
use Rattle.law_simulation_relation.specs.Layout.{type_number, slot, variables_in, module_offset}
use Rattle.law_simulation_relation.specs.Relation.{number_of}
use Rattle.law_simulation_relation.specs.Stands.{Scope}
use Rattle.law_image_code.specs.Standing.{own_types_in}

-- Each link of the code has the address of the variable, the number of the procedure, the descriptor of the type that it names.
pub record LinksResolve (sc : Scope) (n : Named) : Type 0 where
  pub variables : (k : ℕ) (l : Link) → slice_get n.variables k ≡ Some l → slice_get sc.u.variable_links k ≡ Some (suc (module_offset sc.program sc.program l.«module» + slot (variables_in sc.program sc.program l.«module») l.name))
  pub procedures : (k : ℕ) (l : Link) → slice_get n.procedures k ≡ Some l → slice_get sc.u.procedure_links k ≡ Some (number_of sc.program (λ s q. Unit {0}) sc.img (record { «module» = l.«module»; object = l.name }))
  pub types : (k : ℕ) (q : QName) → slice_get n.types k ≡ Some q → slice_get sc.u.types (own_types_in sc.img.types sc.unit + k) ≡ Some (type_number sc.img.types q)
