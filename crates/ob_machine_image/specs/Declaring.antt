-- What the record types of a file declare.
use Rattle.std.specs.Prelude.{ℕ, List, map}
use Rattle.std.specs.List.{AllByRecursion}
use Rattle.std.specs.List.Sorted.{IsStrictlySortedBy}
use Rattle.ob_tdesc.specs.declared.declaration.OwnMethod.{OwnMethod}
use Rattle.ob_tdesc.specs.declared.declaration.Declaration.{Declaration}
use Rattle.ob_obj.specs.declared.parts.Definition.{Definition}
use Rattle.ob_obj.specs.declared.parts.RecordType.{RecordType}
use Rattle.ob_obj.specs.Grammar.{by_number}
use Rattle.ob_obj.specs.Images.{base_number}

-- the bound procedures that a type of the module m defines
abbrev pub own_methods : ℕ → List Definition → List OwnMethod
own_methods m definitions = map (λ d. record { number = d.number; procedure = record { «module» = m; proc = d.procedure } }) definitions

abbrev pub declaration_of : List ℕ → ℕ → List ℕ → ℕ → RecordType → Declaration
declaration_of module_name first links m t = record { «module» = module_name; name = t.name; base = base_number first links t.base; words = t.words; count = t.count; methods = own_methods m t.definitions }

-- each type defines procedures in the order of their numbers, each number once
abbrev pub DefinitionsRise : List RecordType → Type 0
DefinitionsRise types = AllByRecursion (λ t. IsStrictlySortedBy by_number t.definitions) types
