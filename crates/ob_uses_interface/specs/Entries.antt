-- The order of objects by name.
use Rattle.std.specs.Prelude.{ℕ, List}
use Rattle.std.specs.Ordering.{nat_cmp}
use Rattle.std.specs.Cmp.{IsTotalOrder}
use Rattle.std.specs.Cmp.Lexicographic.{slice_cmp}
use Rattle.std.specs.declared.cmp.Ordering.{Ordering}
use Rattle.std.proofs.lemmas.Cmp.{nat_list_cmp_total, on_total}
use Rattle.ob_types.specs.declared.desc.Desc.{Desc}
use Rattle.ob_env.specs.Faces.{object_of}
use Rattle.ob_uses_interface.specs.declared.entry.Entry.{Entry}

abbrev pub by_entry : Entry → Entry → Ordering
by_entry a b = slice_cmp nat_cmp a.object.name b.object.name

pub entries_total : IsTotalOrder by_entry
entries_total = on_total (λ u. u.object.name) nat_list_cmp_total

-- an object of the module m with its prints
abbrev pub entry_of : List ℕ → List ℕ × Desc → Entry
entry_of m o = record { object = object_of m o }
