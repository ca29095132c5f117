-- Where the bound procedures of a checked module are introduced.
use Rattle.std.specs.Prelude.{◌≡◌, ◌⊎◌, ℕ, zero, suc, true, List, Option, Some, bytes_eq, cond}
use Rattle.std.specs.List.{AllByRecursion, find}
use Rattle.ob_tree.specs.declared.names.QName.{QName}
use Rattle.ob_tree.specs.declared.decl.Module.{Module as Tree}
use Rattle.ob_types.specs.declared.types.TypeRef.{TypeRef}
use Rattle.ob_types.specs.declared.desc.Desc.{Desc}
use Rattle.ob_types.specs.declared.desc.Desc.TheVariants as desc
use Rattle.ob_types.specs.declared.desc.RecordDesc.{RecordDesc}
use Rattle.ob_types.specs.declared.desc.Method.{Method}
use Rattle.ob_types.specs.declared.typed.Binding.{Binding}
use Rattle.ob_types.specs.declared.typed.TypedModule.{TypedModule}
use Rattle.ob_rules.specs.Shapes.{record_of}
use Rattle.ob_rules.specs.Names.{own_desc}
use Rattle.ob_rules.specs.Declarations.{checked}
use Rattle.law_names_distinct.specs.Distinct.{AreDistinct}
use Rattle.law_spelling.specs.Raw.{decl_named}

-- the types of a module, and what is shown of the others
abbrev pub view : (QName → Option Desc) → TypedModule → QName → Option Desc
view shown m q = cond (bytes_eq q.«module» m.name) (own_desc (find (λ t. bytes_eq t.name q.object) m.types)) (shown q)

-- a record type, and the one that it extends
pub record IsBase (types : QName → Option Desc) (q b : QName) : Type 0 where
  pub r : RecordDesc
  pub is : types q ≡ Some (desc.Record r)
  pub t : TypeRef
  pub base : r.base ≡ Some t
  pub found : record_of types t ≡ Some b

-- the record type itself, or one of its bases, of so many
abbrev pub Extends : (QName → Option Desc) → ℕ → QName → QName → Type 0
Extends types zero q o = ⊥
Extends types (suc n) q o = (q ≡ o) ⊎ ((b : QName) × (IsBase types q b × Extends types n b o))

-- a record type introduces a procedure of that name
pub record Introduces (types : QName → Option Desc) (o : QName) (x : List ℕ) : Type 0 where
  pub r : RecordDesc
  pub is : types o ≡ Some (desc.Record r)
  pub m : Method
  pub found : find (λ m. bytes_eq m.name x) r.methods ≡ Some m

-- what a procedure is bound to: a record of the module, and a procedure that one of its bases introduces
pub record IsFamily (types : QName → Option Desc) (unit : List ℕ) (b : Binding) : Type 0 where
  pub own : bytes_eq b.owner.«module» unit ≡ true
  pub line : Extends types 201 b.owner b.family.owner
  pub introduced : Introduces types b.family.owner b.family.name

-- So each bound procedure of a checked module is, where its types have different names.
abbrev pub FamiliesAreThere : Type 0
FamiliesAreThere = (shown : QName → Option Desc) (tree : Tree) (m : TypedModule) → checked shown tree ≡ Some m → AreDistinct (λ t. t.name) m.types → AllByRecursion (λ d. decl_named d ≡ true) tree.decls →
    AllByRecursion (λ p. (b : Binding) → p.binding ≡ Some b → IsFamily (view shown m) m.name b) m.procedures
