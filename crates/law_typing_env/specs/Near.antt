-- Modules over what they were compiled against, of which the types that they use are as the program has them.
use Rattle.std.specs.Prelude.{◌≡◌, ◌≢◌, Bool, true, false, ◌||◌, [], Option, Some}
use Rattle.std.specs.List.{AllByRecursion}
use Rattle.ob_tree.specs.declared.names.QName.{QName}
use Rattle.ob_types.specs.declared.types.TypeRef.{TypeRef}
use Rattle.ob_types.specs.declared.types.TypeRef.TheVariants as ref
use Rattle.ob_types.specs.declared.desc.Desc.{Desc}
use Rattle.ob_types.specs.declared.desc.Desc.TheVariants as desc
use Rattle.ob_types.specs.Maps.{is_type, named_by}
use Rattle.ob_types.specs.Relations.{IsGrounded}
use Rattle.ob_types.specs.TypedSyntax.{Module}
use Rattle.ob_meaning.specs.Values.{Program, description}
use Rattle.ob_layout.specs.LaidOut.{is_own, viewed}
use Rattle.ob_uses.specs.Uses.{near_types}
use Rattle.law_typing_env.specs.Ordered.{StandsOver}

-- a description without the members and the sizes of a record
abbrev pub core : Desc → Desc
core (desc.Record r) = desc.Record (record r { fields = []; methods = []; words = 0; procedures = 0 })
core d = d

-- a basic type, one of the module, or one of these
abbrev pub IsNear : Module → (QName → Bool) → TypeRef → Type 0
IsNear m near (ref.Basic b) = Unit {0}
IsNear m near (ref.Named q) = (is_own m q || near q) ≡ true

-- A type that the module was compiled against is in the program, alike but for the members and the sizes of a record; what it names is
-- among these too.
pub record IsUsed (before : Program) (m : Module) (types : QName → Option Desc) (near : QName → Bool) (q : QName) : Type 0 where
  pub d : Desc
  pub e : Desc
  pub of : types q ≡ Some d
  pub type : is_type d ≡ true
  pub has : description before q ≡ Some e
  pub alike : core e ≡ core d
  pub parts : AllByRecursion (IsNear m near) (near_types d)

-- The types of the module name no others than these, which are used alike.
pub record AreUsed (before : Program) (m : Module) (types : QName → Option Desc) (near : QName → Bool) : Type 0 where
  pub own : AllByRecursion (λ t. AllByRecursion (IsNear m near) (named_by t.desc)) m.types
  pub others : (q : QName) → is_own m q ≡ false → near q ≡ true → IsUsed before m types near q

-- THE LAW: a module whose own types are grounded over what it was compiled against, and that uses it alike, stands over the modules before
-- it. What it does not use may be another than it was.
abbrev pub UsersStand : Type 0
UsersStand = (before : Program) (m : Module) (types : QName → Option Desc) (near : QName → Bool) → AllByRecursion (λ k. k.name ≢ m.name) before → AllByRecursion (λ t. is_type t.desc ≡ true) m.types → IsGrounded (viewed types m) → AreUsed before m types near → StandsOver before m
