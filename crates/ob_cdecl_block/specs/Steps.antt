-- A sequence of declarations, step by step.
use Rattle.std.specs.Prelude.{ℕ, Bool, true, false, List, [], ◌∷◌, ◌++◌, ◌-◌, length, drop, map, Option, Some, None}
use Rattle.std.specs.List.{filter_map}
use Rattle.ob_tree.specs.declared.decl.Decl.{Decl}
use Rattle.ob_rules.specs.declared.notes.Later.{Later}
use Rattle.ob_cdecl_scopes.specs.declared.scope.Marked.{Marked}
use Rattle.ob_cdecl_heading.specs.declared.head.Head.{Head as Kept}
use Rattle.ob_rules.specs.Judged.{Notes, joined}
use Rattle.ob_rules.specs.Names.{Around, map_of}
use Rattle.ob_rules.specs.Headings.{Heads, Binding, add_heading, forwards_judged, reversed}
use Rattle.ob_rules.specs.Declarations.{Declared, nothing_later, pointers_judged, Written_procedure, type_name_of, procedure_of, declaration, headings_in_order, with_bound, binding_at, all_judged, field_judged, heads_later}
use Rattle.ob_cdecl.specs.Order.{plain_in_order}

-- the types that the declarations are of
abbrev pub type_names : List Decl → List (List ℕ)
type_names ds = filter_map type_name_of (map declaration ds)

-- the procedures and forward declarations
abbrev pub procedures_in : List Decl → List Written_procedure
procedures_in ds = filter_map procedure_of (map declaration ds)

-- the headings, where that is around them
abbrev pub headings_from : List Decl → Heads → Heads
headings_from ds hs = headings_in_order (procedures_in ds) hs

abbrev pub headings : List Decl → Around → Heads
headings ds u = headings_from ds (record { around = u; before = [] })

-- the headings behind all other declarations
abbrev pub headed : List Decl → Around → Heads
headed ds u = headings ds (plain_in_order ds u).around

-- what is bound, at module level
abbrev pub binding_of : Bool → Heads → Binding
binding_of level hs = binding_at level hs.around (reversed hs.before)

-- what is around the procedures and statements
abbrev pub around_bound : Bool → Heads → Around
around_bound level hs = with_bound hs.around (binding_of level hs)

-- what is said of fields when all headings are known
abbrev pub field_notes : Around → List Later → Heads → Notes
field_notes u later hs = all_judged (field_judged (map_of u)) (later ++ heads_later hs.before)

-- what is said when all headings are known
abbrev pub bound_notes : Bool → List Later → Heads → Notes
bound_notes level later hs = joined (binding_of level hs).notes (joined (field_notes (around_bound level hs) later hs) (forwards_judged (map_of hs.around) (reversed hs.before) (reversed hs.before)))

-- what is said of declarations, and of the pointers that they and these headings have left
abbrev pub plain_notes : Declared → Heads → Notes
plain_notes d hs = joined (nothing_later d.part.notes) (pointers_judged hs.around (d.part.notes.later ++ heads_later hs.before))

-- what is said before the procedures and statements
abbrev pub declared_notes : Bool → List Decl → Around → Notes
declared_notes level ds u = joined (plain_notes (plain_in_order ds u) (headed ds u)) (bound_notes level (plain_in_order ds u).part.notes.later (headed ds u))

-- a procedure or forward declaration has a heading
abbrev pub heading_added : Option Written_procedure → Heads → Heads
heading_added None hs = hs
heading_added (Some p) hs = add_heading hs p.heading p.forward

-- what was left for later in headings that are kept
abbrev pub kept_later : List Kept → List Later
kept_later [] = []
kept_later (h ∷ hs) = h.notes.later ++ kept_later hs

-- what is around behind the sequence, below module level as before it
abbrev pub left_block : Bool → Marked → List (List ℕ) → Around → Around
left_block true m names u = u
left_block false m names u = record u { known = drop (length u.known - m.known) u.known; own = drop (length u.own - m.own) u.own; later_types = names }
