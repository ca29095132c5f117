-- The descriptors of the record types of a file are those of what the types declare.
use Rattle.std.proofs.Common.{◌≡◌, ℕ, List, [], ◌∷◌, Option, Some, None, take, replicate, ◌++◌, refl, ap, ◌∙◌}
use Rattle.std.specs.Prelude.{slice_get, slice_set}
use Rattle.std.specs.List.{AllByRecursion}
use Rattle.std.specs.List.Sorted.{IsStrictlySortedBy}
use Rattle.std.specs.declared.cmp.Ordering.TheVariants.{Less}
use Rattle.ob_format.specs.Format.{list_of}
use Rattle.ob_tree.specs.declared.proc_ref.ProcRef.{ProcRef}
use Rattle.ob_tdesc.specs.declared.descriptor.Descriptor.{Descriptor}
use Rattle.ob_tdesc.specs.Tables.{by_number as by_method, table_in, base_table, with_defined, declared}
use Rattle.ob_obj.specs.declared.parts.Definition.{Definition}
use Rattle.ob_obj.specs.declared.parts.RecordType.{RecordType}
use Rattle.ob_obj.specs.declared.file.ObjFile.{ObjFile}
use Rattle.ob_obj.specs.Grammar.{by_number, record_type, record_parts, body, file}
use Rattle.ob_obj.specs.Images.{base_number, methods_in, base_methods, with_own, descriptor_of}
use Rattle.ob_machine_image.specs.Declaring.{own_methods, declaration_of, DefinitionsRise}

-- THE SAME TABLES

own_is : (m : ℕ) (definitions : List Definition) (table : List (Option ProcRef)) → with_defined (own_methods m definitions) table ≡ with_own m definitions table
own_is m [] table = refl
own_is m (d ∷ definitions) table = own_is m definitions (slice_set table d.number (Some (record { «module» = m; proc = d.procedure })))

in_is : (o : Option Descriptor) → table_in o ≡ methods_in o
in_is None = refl
in_is (Some d) = refl

base_is : (types : List Descriptor) (o : Option ℕ) → base_table types o ≡ base_methods types o
base_is types None = refl
base_is types (Some b) = in_is (slice_get types b)

pub declared_is : (module_name : List ℕ) (first : ℕ) (links : List ℕ) (m : ℕ) (types : List Descriptor) (t : RecordType) → declared types (declaration_of module_name first links m t) ≡ descriptor_of module_name first links types m t
declared_is module_name first links m types t =
    let base = base_number first links t.base in
    let table = own_is m t.definitions (take t.count (base_table types base ++ replicate t.count None)) ∙ ap (λ b. with_own m t.definitions (take t.count (b ++ replicate t.count None))) (base_is types base) in
    ap (λ l. record { «module» = module_name; name = t.name; base = base; words = t.words; methods = l }) table

-- THE ORDER OF DEFINITIONS

below_each : (m : ℕ) (x : Definition) (definitions : List Definition) → AllByRecursion (λ y. by_number x y ≡ Less) definitions → AllByRecursion (λ y. by_method (record { number = x.number; procedure = record { «module» = m; proc = x.procedure } }) y ≡ Less) (own_methods m definitions)
below_each m x [] all = tt
below_each m x (d ∷ definitions) all = (all.0, below_each m x definitions all.1)

pub methods_rise : (m : ℕ) (definitions : List Definition) → IsStrictlySortedBy by_number definitions → IsStrictlySortedBy by_method (own_methods m definitions)
unfolding IsStrictlySortedBy
methods_rise m [] rises = tt
methods_rise m (d ∷ definitions) rises = (below_each m d definitions rises.0, methods_rise m definitions rises.1)

type_rises : (t : RecordType) → record_type.fits t → IsStrictlySortedBy by_number t.definitions
unfolding record_type record_parts
type_rises t fits = fits.0.1.1.1.1.1

each_rises : (types : List RecordType) → AllByRecursion record_type.fits types → DefinitionsRise types
each_rises [] all = tt
each_rises (t ∷ types) all = (type_rises t all.0, each_rises types all.1)

pub definitions_rise : (f : ObjFile) → file.fits f → DefinitionsRise f.body.types
unfolding file body list_of
definitions_rise f fits = each_rises f.body.types fits.0.1.1.1.0.0.1
