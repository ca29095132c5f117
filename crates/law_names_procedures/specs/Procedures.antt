-- The names of a module's procedures.
use Rattle.std.specs.Prelude.{◌≡◌, ℕ, Bool, true, false, not, ◌&&◌, ◌||◌, ◌==◌, List, [], ◌∷◌, map, Option, Some, bytes_eq, is_some}
use Rattle.std.specs.List.{IsDistinct, list_all}
use Rattle.ob_tree.specs.declared.names.QName.{QName}
use Rattle.ob_tree.specs.declared.decl.Decl.{Decl}
use Rattle.ob_tree.specs.declared.decl.Decl.TheOpen.{Decl-F}
use Rattle.ob_tree.specs.declared.decl.Decl.TheFolds.{fold-Decl}
use Rattle.ob_tree.specs.declared.decl.Module.{Module as Tree}
use Rattle.ob_types.specs.declared.types.TypeRef.{TypeRef}
use Rattle.ob_types.specs.declared.types.TypeRef.TheVariants as ref
use Rattle.ob_types.specs.declared.desc.Desc.{Desc}
use Rattle.ob_types.specs.declared.typed.TypedModule.{TypedModule}
use Rattle.ob_types.specs.Tests.{pointer_of}
use Rattle.ob_rules.specs.Declarations.{checked}

-- a name without a stop and without a stroke, as identifiers are
abbrev pub is_plain : List ℕ → Bool
is_plain x = list_all (λ b. not (b == 46 || b == 47)) x

abbrev pub all_true : List Bool → Bool
all_true [] = true
all_true (b ∷ bs) = b && all_true bs

abbrev pub heading_layer : Decl-F Bool → Bool
heading_layer (Decl-F.Constant d x) = true
heading_layer (Decl-F.NamedType d n) = true
heading_layer (Decl-F.Variables ds n) = true
heading_layer (Decl-F.Procedure h ds body closing) = is_plain h.name.ident.name && all_true ds
heading_layer (Decl-F.Forward h) = is_plain h.name.ident.name

-- the procedures of a declaration, and those inside them, have such names
abbrev pub is_named_plainly : Decl → Bool
is_named_plainly = fold-Decl Bool heading_layer

-- what an imported module shows as a pointer's base is a type of another module, which is shown
abbrev pub IsShown : (QName → Option Desc) → List ℕ → TypeRef → Type 0
IsShown shown unit (ref.Basic b) = Unit {0}
IsShown shown unit (ref.Named q) = (bytes_eq q.«module» unit ≡ false) × (is_some (shown q) ≡ true)

abbrev pub ShowBases : (QName → Option Desc) → List ℕ → Type 0
ShowBases shown unit = (q : QName) (b : TypeRef) → pointer_of (shown q) ≡ Some b → IsShown shown unit b

-- The procedures of a checked module have different names, where headings are named by identifiers.
abbrev pub ProceduresDiffer : Type 0
ProceduresDiffer = (shown : QName → Option Desc) (tree : Tree) (m : TypedModule) → ShowBases shown tree.name.name → all_true (map is_named_plainly tree.decls) ≡ true → checked shown tree ≡ Some m → IsDistinct bytes_eq (map (λ p. p.name) m.procedures)
