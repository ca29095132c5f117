-- The index of the bound procedures.
use Rattle.std.specs.Prelude.{Bool, true, false, not, ◌||◌, List, [], ◌∷◌, Option, Some, None}
use Rattle.ob_cdecl_heading.specs.declared.head.BoundAs.{BoundAs}
use Rattle.ob_cdecl_heading.specs.declared.head.Head.{Head}
use Rattle.ob_cdecl_heading.specs.declared.heads.Latest.{Latest}
use Rattle.ob_cdecl_heading.specs.Keys.{key}

abbrev pub entry_if : Option BoundAs → Head → List Latest → List Latest
entry_if None h ls = ls
entry_if (Some b) h ls = record { key = key h.name b.owner.object; forward = h.forward } ∷ ls

-- an entry for each, the latest first
abbrev pub entries : List Head → List Latest
entries [] = []
entries (h ∷ hs) = entry_if h.bound h (entries hs)

abbrev pub comes_after : Bool → Option Latest → Bool
comes_after forward None = false
comes_after forward (Some l) = forward || not l.forward
