-- Record types by their descriptors, named by number in a list, and the bases of each.
use Rattle.std.specs.Prelude.{ℕ, zero, suc, ◌-◌, Bool, false, ◌||◌, nat_eq, List, [], ◌∷◌, length, Option, Some, None, slice_get}
use Rattle.ob_tree.specs.declared.proc_ref.ProcRef.{ProcRef}
use Rattle.ob_tdesc.specs.declared.descriptor.Descriptor.{Descriptor}

abbrev pub base_in : Option Descriptor → Option ℕ
base_in None = None
base_in (Some d) = d.base

-- the base of a descriptor
abbrev pub base_of : List Descriptor → ℕ → Option ℕ
base_of types a = base_in (slice_get types a)

abbrev pub with_bases : ℕ → Option ℕ → (ℕ → List ℕ) → List ℕ
with_bases a None line = a ∷ []
with_bases a (Some b) line = a ∷ line b

-- a descriptor and its bases, from it on upward, n in all at most
abbrev pub line_from : List Descriptor → ℕ → ℕ → List ℕ
line_from types zero a = []
line_from types (suc n) a = with_bases a (base_of types a) (λ b. line_from types n b)

-- a descriptor and its bases; since each base stands before what it is the base of, these are all
abbrev pub line_of : List Descriptor → ℕ → List ℕ
line_of types a = line_from types (suc a) a

-- how many bases a descriptor has
abbrev pub level_of : List Descriptor → ℕ → ℕ
level_of types a = length (line_of types a) - 1

abbrev pub is_among : ℕ → List ℕ → Bool
is_among b [] = false
is_among b (a ∷ line) = nat_eq b a || is_among b line

-- whether b is a or one of its bases
abbrev pub is_or_has_base : List Descriptor → ℕ → ℕ → Bool
is_or_has_base types a b = is_among b (line_of types a)

-- the procedure of a number, where the list has one there
abbrev pub method_in : Option (Option ProcRef) → Option ProcRef
method_in None = None
method_in (Some p) = p

abbrev pub method_of : Descriptor → ℕ → Option ProcRef
method_of d number = method_in (slice_get d.methods number)
