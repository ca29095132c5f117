-- Procedure tables: what the base has, and in its place what a type defines.
use Rattle.std.specs.Prelude.{ℕ, nat_eq, if◌then◌else◌, List, [], ◌∷◌, ◌++◌, take, replicate, Option, Some, None, slice_get, slice_set}
use Rattle.std.specs.Ordering.{nat_cmp}
use Rattle.std.specs.declared.cmp.Ordering.{Ordering}
use Rattle.ob_tree.specs.declared.proc_ref.ProcRef.{ProcRef}
use Rattle.ob_tdesc.specs.declared.descriptor.Descriptor.{Descriptor}
use Rattle.ob_tdesc.specs.declared.declaration.OwnMethod.{OwnMethod}
use Rattle.ob_tdesc.specs.declared.declaration.Declaration.{Declaration}

abbrev pub by_number : OwnMethod → OwnMethod → Ordering
by_number a b = nat_cmp a.number b.number

-- the procedure that is defined with a number
abbrev pub defined : List OwnMethod → ℕ → Option ProcRef
defined [] number = None
defined (x ∷ own) number = if nat_eq x.number number then Some x.procedure else defined own number

abbrev pub table_in : Option Descriptor → List (Option ProcRef)
table_in None = []
table_in (Some d) = d.methods

-- the procedure table of a base, where there is one
abbrev pub base_table : List Descriptor → Option ℕ → List (Option ProcRef)
base_table types None = []
base_table types (Some b) = table_in (slice_get types b)

-- what is defined, at its numbers in a table
abbrev pub with_defined : List OwnMethod → List (Option ProcRef) → List (Option ProcRef)
with_defined [] table = table
with_defined (x ∷ own) table = with_defined own (slice_set table x.number (Some x.procedure))

-- the base's table, cut at a number of procedures, then what is defined; a place left over holds none
abbrev pub table_of : ℕ → List OwnMethod → List (Option ProcRef) → List (Option ProcRef)
table_of count own table = with_defined own (take count (table ++ replicate count None))

-- the descriptor of a declared type behind others
abbrev pub declared : List Descriptor → Declaration → Descriptor
declared types d = record { «module» = d.«module»; name = d.name; base = d.base; words = d.words; methods = table_of d.count d.methods (base_table types d.base) }
