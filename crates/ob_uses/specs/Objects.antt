-- The interface of a module: its objects with their descriptions.
use Rattle.std.specs.Prelude.{◌≡◌, true, ℕ, Bool, ◌&&◌, List, [], ◌∷◌, ◌++◌, map as each, length, Option, Some, None, is_none}
use Rattle.std.specs.List.{filter, flat_map}
use Rattle.std.specs.Ordering.{nat_cmp}
use Rattle.std.specs.Cmp.Lexicographic.{slice_cmp}
use Rattle.std.specs.declared.cmp.Ordering.{Ordering}
use Rattle.ob_tree.specs.declared.names.QName.{QName}
use Rattle.ob_types.specs.declared.types.Mode.{Mode}
use Rattle.ob_types.specs.declared.types.TypeRef.{TypeRef}
use Rattle.ob_types.specs.declared.types.Signature.{Signature}
use Rattle.ob_types.specs.declared.desc.Desc.{Desc}
use Rattle.ob_types.specs.declared.desc.Desc.TheVariants as desc
use Rattle.ob_types.specs.declared.typed.TypedParameter.{TypedParameter}
use Rattle.ob_types.specs.declared.typed.TypedConstant.{TypedConstant}
use Rattle.ob_types.specs.declared.typed.TypedType.{TypedType}
use Rattle.ob_types.specs.declared.typed.TypedVariable.{TypedVariable}
use Rattle.ob_types.specs.TypedSyntax.{Procedure, Module}
use Rattle.ob_types.specs.Maps.{listed, signature_types}
use Rattle.ob_desc.specs.Grammar.{is_shown, by_place, seen}
use Rattle.ob_layout.specs.Lists.{in_order}
use Rattle.ob_layout.specs.LaidOut.{type_named, is_own}
use Rattle.ob_env.specs.Shown.{is_visible}
use Rattle.ob_uses_roots.specs.Counts.{mode_of, own_name}
use Rattle.ob_uses_roots.specs.Noted.{names_of}
use Rattle.ob_uses.specs.Closed.{is_among, of_found, reached_from}

-- ---- procedures

abbrev pub formal_of : TypedParameter → Mode × TypeRef
formal_of x = (mode_of x.passing, x.of)

-- of a procedure that is not bound, whose parameters have no receiver among them
abbrev pub signature_of : Procedure → Signature
signature_of p = record { params = each formal_of p.parameters; result = p.result }

-- an exported procedure that is not bound; inner ones are never exported
abbrev pub is_exported : Procedure → Bool
is_exported p = is_shown p.mark && is_none p.binding

-- ---- which types are objects

-- the types through which others are reached: an alias's target, a pointer's base, an array's element, a record's base, its exported fields and the parameters and results of the exported bound procedures that it introduces, and those of procedure types
abbrev pub shown_types : Desc → List TypeRef
shown_types (desc.Alias m t) = t ∷ []
shown_types (desc.Array m n t) = t ∷ []
shown_types (desc.OpenArray m t) = t ∷ []
shown_types (desc.Pointer m t) = t ∷ []
shown_types (desc.ProcType m s) = signature_types s
shown_types (desc.Record r) = listed r.base ++ each (λ f. f.of) (filter (λ f. is_shown f.mark) r.fields) ++ flat_map (λ p. signature_types p.signature) (filter (λ p. is_shown p.mark) r.methods)
shown_types d = []

abbrev pub own_names : Module → List TypeRef → List QName
own_names m ts = filter (is_own m) (names_of ts)

-- The map has the module's own types.
abbrev pub HasOwnTypes : (QName → Option Desc) → Module → Type 0
HasOwnTypes map m = (q : QName) → is_own m q ≡ true → map q ≡ type_named m.types q.object

-- where reaching begins: exported types, and the types of exported variables and of parameters and results of exported procedures
abbrev pub first_shown : Module → List QName
first_shown m =
    each (own_name m) (filter (λ t. is_visible t.desc) m.types)
    ++ own_names m (each (λ v. v.of) (filter (λ v. is_shown v.mark) m.variables))
    ++ own_names m (flat_map (λ p. signature_types (signature_of p)) (filter is_exported m.procedures))

abbrev pub reached_types : Module → List QName
reached_types m = reached_from (λ q. of_found (λ d. own_names m (shown_types d)) (type_named m.types q.object)) (length m.types) (first_shown m)

-- ---- the objects

abbrev pub constant_object : TypedConstant → List ℕ × Desc
constant_object c = (c.name, desc.Const c.value)

abbrev pub variable_object : TypedVariable → List ℕ × Desc
variable_object v = (v.name, desc.Var v.mark v.of)

abbrev pub procedure_object : Procedure → List ℕ × Desc
procedure_object p = (p.name, desc.Proc (signature_of p))

-- a record with its fields in the order of their places, and at one place of their names
abbrev pub in_places : Desc → Desc
in_places (desc.Record r) = desc.Record (record r { fields = in_order by_place r.fields })
in_places d = d

-- without the fields and bound procedures that are not exported
abbrev pub type_object : TypedType → List ℕ × Desc
type_object t = (t.name, seen (in_places t.desc))

abbrev pub by_name : List ℕ × Desc → List ℕ × Desc → Ordering
by_name a b = slice_cmp nat_cmp a.0 b.0

abbrev pub types_among : Module → List QName → List TypedType
types_among m shown = filter (λ t. is_among shown (own_name m t)) m.types

-- THE OBJECTS of a module that is laid out, ascending by name: exported constants, variables and procedures, and the types that are exported or reached
abbrev pub objects_of : Module → List (List ℕ × Desc)
objects_of m = in_order by_name (
    each constant_object (filter (λ c. is_shown c.mark) m.constants)
    ++ each variable_object (filter (λ v. is_shown v.mark) m.variables)
    ++ each procedure_object (filter is_exported m.procedures)
    ++ each type_object (types_among m (reached_types m)))
