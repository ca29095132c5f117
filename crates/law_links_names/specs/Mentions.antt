-- The variables and procedures of other modules that a checked module names.
use Rattle.std.specs.Prelude.{◌≡◌, ◌⊎◌, ℕ, false, List, [], ◌∷◌, Option, Some, bytes_eq}
use Rattle.std.specs.List.{AllByRecursion}
use Rattle.ob_tree.specs.declared.names.QName.{QName}
use Rattle.ob_tree.specs.declared.ident.Mark.{Mark}
use Rattle.ob_tree.specs.declared.decl.Module.{Module as Tree}
use Rattle.ob_types.specs.declared.types.TypeRef.{TypeRef}
use Rattle.ob_types.specs.declared.types.Signature.{Signature}
use Rattle.ob_types.specs.declared.desc.Desc.{Desc}
use Rattle.ob_types.specs.declared.desc.Desc.TheVariants as desc
use Rattle.ob_types.specs.declared.typed.TypedModule.{TypedModule}
use Rattle.ob_types.specs.TypedView.{stmts_view}
use Rattle.ob_rules.specs.Names.{is_out}
use Rattle.ob_rules.specs.Declarations.{checked}
use Rattle.law_links_names.specs.Trees.{StmtsNamed}

-- a variable of a module other than this one and Out that is mentioned, and shown as one
pub record IsVariable (shown : QName → Option Desc) (unit : List ℕ) (Mentioned : QName → Type 0) (q : QName) : Type 0 where
  pub other : bytes_eq q.«module» unit ≡ false
  pub mentioned : Mentioned q
  pub out : is_out q.«module» ≡ false
  pub mark : Mark
  pub of : TypeRef
  pub is : shown q ≡ Some (desc.Var mark of)

-- a procedure likewise
pub record IsProcedure (shown : QName → Option Desc) (unit : List ℕ) (Mentioned : QName → Type 0) (q : QName) : Type 0 where
  pub other : bytes_eq q.«module» unit ≡ false
  pub mentioned : Mentioned q
  pub out : is_out q.«module» ≡ false
  pub signature : Signature
  pub is : shown q ≡ Some (desc.Proc signature)

-- nothing is asked of record types
abbrev pub Any : QName → Type 0
Any q = Unit {0}

abbrev pub IsAmong : List QName → QName → Type 0
IsAmong [] q = ⊥
IsAmong (p ∷ ps) q = (p ≡ q) ⊎ IsAmong ps q

-- All variables and procedures of other modules that the statements of a checked module name are mentioned in its text, and shown as
-- variables and procedures.
pub record AreMentioned (shown : QName → Option Desc) (types : QName → Option Desc) (m : TypedModule) : Type 0 where
  pub body : StmtsNamed types m.name (IsVariable shown m.name (IsAmong m.mentioned.objects)) (IsProcedure shown m.name (IsAmong m.mentioned.objects)) Any (stmts_view m.body)
  pub procedures : AllByRecursion (λ p. StmtsNamed types m.name (IsVariable shown m.name (IsAmong m.mentioned.objects)) (IsProcedure shown m.name (IsAmong m.mentioned.objects)) Any (stmts_view p.body)) m.procedures

-- So it is of what keeps the rules, whatever is asked by descriptions.
abbrev pub ModulesMention : Type 0
ModulesMention = (shown types : QName → Option Desc) (tree : Tree) (m : TypedModule) → checked shown tree ≡ Some m → AreMentioned shown types m
