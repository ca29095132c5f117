-- Declarations in their order, as they are judged one by one.
use Rattle.std.specs.Prelude.{ℕ, Bool, true, false, ◌||◌, List, ◌∷◌, ◌++◌, Option, Some, None}
use Rattle.std.specs.List.{filter_map, find}
use Rattle.ob_tree.specs.declared.decl.Decl.{Decl}
use Rattle.ob_types.specs.declared.types.TypeRef.{TypeRef}
use Rattle.std.specs.Prelude.{[], map, bytes_eq}
use Rattle.ob_tree.specs.declared.ident.Import.{Import}
use Rattle.ob_tree.specs.declared.ident.IdentDef.{IdentDef}
use Rattle.ob_types.specs.declared.desc.Desc.{Desc}
use Rattle.ob_types.specs.declared.typed.TypedType.{TypedType}
use Rattle.ob_rules.specs.declared.entity.Coming.{Coming}
use Rattle.ob_rules.specs.Names.{Around, is_among, is_out}
use Rattle.ob_rules.specs.Types.{Typing, Written}
use Rattle.ob_rules.specs.Declarations.{Declared, Declaration, Written_procedure, no_part, plain_of, procedure_of, declaration, in_order, import_declared, target_of, coming_in, described, type_declared}

-- what is no procedure
abbrev pub declared_by : Option (Around → Declared) → Around → Declared
declared_by None u = record { part = no_part; around = u }
declared_by (Some f) u = f u

abbrev pub plain_declared : Decl → Around → Declared
plain_declared d u = declared_by (plain_of (declaration d)) u

abbrev pub plain_in_order : List Decl → Around → Declared
plain_in_order ds u = in_order (filter_map plain_of (map declaration ds)) u

-- a type without the types that it makes
abbrev pub typing_only : Option TypeRef → Option Typing
typing_only None = None
typing_only (Some t) = Some (record { of = t; made = [] })

abbrev pub one_import : Import → Around → Declared
one_import i u = import_declared i (target_of i) u

-- one more imported module, unless it was imported before or is Out
abbrev pub added_unless : Bool → List (List ℕ) → List ℕ → List (List ℕ)
added_unless true found x = found
added_unless false found x = found ++ x ∷ []

abbrev pub import_added : List (List ℕ) → List (List ℕ) → List ℕ → List (List ℕ)
import_added found before x = added_unless (is_out x || is_among x before) found x

-- a type with what its description became
abbrev pub described_by : Option Desc → TypedType → TypedType
described_by None t = t
described_by (Some d) t = record { name = t.name; desc = d }

abbrev pub coming_by : Option Written_procedure → Option Coming
coming_by None = None
coming_by (Some p) = coming_in p

abbrev pub coming_within : List Decl → List Coming
coming_within ds = filter_map coming_in (filter_map procedure_of (map declaration ds))

abbrev pub described_here : List TypedType → TypedType → TypedType
described_here bound t = described (find (λ b. bytes_eq b.name t.name) bound) t

-- what stands around behind the declaration of a type
unfoldable pub type_around : IdentDef → Written → Around → Around
type_around d n u = (type_declared d n u).around
