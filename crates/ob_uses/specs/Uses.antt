-- The uses of a module: the objects of other modules, by aspect, that it relies on.
use Rattle.std.specs.Prelude.{ℕ, Bool, true, false, not, ◌&&◌, List, [], ◌∷◌, ◌++◌, map as each, Option, Some, None, codes, bytes_eq}
use Rattle.std.specs.Option.{option_map}
use Rattle.std.specs.List.{filter, flat_map}
use Rattle.ob_tree.specs.declared.names.QName.{QName}
use Rattle.ob_types.specs.declared.types.TypeRef.{TypeRef}
use Rattle.ob_types.specs.declared.desc.Desc.{Desc}
use Rattle.ob_types.specs.declared.desc.Desc.TheVariants as desc
use Rattle.ob_types.specs.declared.desc.RecordDesc.{RecordDesc}
use Rattle.ob_types.specs.declared.face.Aspect.{Aspect}
use Rattle.ob_types.specs.declared.face.Aspect.TheVariants.{Shape, Layout}
use Rattle.ob_types.specs.Maps.{listed, signature_types}
use Rattle.ob_types.specs.Relations.{is_record}
use Rattle.ob_types.specs.AssigningTests.{described as is_described}
use Rattle.ob_types.specs.TypedSyntax.{Module}
use Rattle.ob_layout.specs.Lists.{in_order}
use Rattle.ob_layout.specs.LaidOut.{is_own}
use Rattle.ob_env.specs.Faces.{Wanted}
use Rattle.ob_uses.specs.declared.pair.Pair.{Pair}
use Rattle.ob_uses.specs.Order.{by_pair}
use Rattle.ob_uses_roots.specs.Counts.{Count, counts_of_module}
use Rattle.ob_uses_roots.specs.Noted.{names_of, shape_starts, layout_starts}
use Rattle.ob_uses.specs.Closed.{of_found, reached_from}

-- NEAR a type: an alias's target, a pointer's base, an array's element, a record's base, and the parameter and result types of a procedure type
abbrev pub near_types : Desc → List TypeRef
near_types (desc.Alias m t) = t ∷ []
near_types (desc.Array m n t) = t ∷ []
near_types (desc.OpenArray m t) = t ∷ []
near_types (desc.Pointer m t) = t ∷ []
near_types (desc.ProcType m s) = signature_types s
near_types (desc.Record r) = listed r.base
near_types d = []

-- FLAT goes through aliases, array elements, and base and fields of the module's own records
abbrev pub record_parts : (own : Bool) → RecordDesc → List TypeRef
record_parts true r = listed r.base ++ each (λ f. f.of) r.fields
record_parts false r = []

abbrev pub flat_types : (own : Bool) → Desc → List TypeRef
flat_types own (desc.Alias m t) = t ∷ []
flat_types own (desc.Array m n t) = t ∷ []
flat_types own (desc.OpenArray m t) = t ∷ []
flat_types own (desc.Record r) = record_parts own r
flat_types own d = []

-- an object of another module, but of Out
abbrev pub is_imported : Module → QName → Bool
is_imported m q = not (is_own m q) && not (bytes_eq q.«module» (codes "Out"))

abbrev pub as_shape : QName → Pair
as_shape q = record { object = q; aspect = Shape }

abbrev pub as_layout : QName → Pair
as_layout q = record { object = q; aspect = Layout }

-- a pair with the text, or the print, that it has in the interfaces compiled against
abbrev pub with_kept : {K : Type 0} → (QName → Aspect → Option K) → Pair → List (Wanted K)
with_kept has p = listed (option_map (λ k. record { object = p.object; aspect = p.aspect; kept = k }) (has p.object p.aspect))

-- The map is the view from the module, which holds so many names.
module _ (map : QName → Option Desc) (names : ℕ) (m : Module) where
  abbrev pub shape_pairs : List Count → List Pair
  shape_pairs cs = each as_shape (filter (is_imported m) (reached_from (λ q. of_found (λ d. names_of (near_types d)) (map q)) names (names_of (shape_starts cs))))

  -- the imported records among those that are reached
  abbrev pub layout_pairs : List Count → List Pair
  layout_pairs cs = each as_layout (filter (λ q. is_imported m q && is_described is_record (map q)) (reached_from (λ q. of_found (λ d. names_of (flat_types (is_own m q) d)) (map q)) names (names_of (layout_starts cs))))

  -- THE PAIRS of object and aspect, ascending, each once
  abbrev pub pairs_of : List Pair
  pairs_of =
      let cs : List Count = counts_of_module map m in
      in_order by_pair (shape_pairs cs ++ layout_pairs cs)

  abbrev pub uses_of : {K : Type 0} → (QName → Aspect → Option K) → List (Wanted K)
  uses_of has = flat_map (with_kept has) pairs_of
