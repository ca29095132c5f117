-- The law: a checked module is tied to the types that it names, in the view from it, and what counts there is there.
use Rattle.std.specs.Prelude.{◌≡◌, true, List, Some, IsSome}
use Rattle.ob_tree.specs.declared.names.QName.{QName}
use Rattle.ob_tree.specs.declared.decl.Module.{Module as Tree}
use Rattle.ob_types.specs.declared.typed.TypedModule.{TypedModule}
use Rattle.ob_types.specs.Relations.{IsGrounded}
use Rattle.ob_types.specs.TypedSyntax.{Module}
use Rattle.ob_types.specs.TypedView.{module_view}
use Rattle.ob_rules.specs.Declarations.{checked}
use Rattle.law_names_distinct.specs.Distinct.{AreDistinct}
use Rattle.ob_env.specs.Faces.{Face, described}
use Rattle.ob_env.specs.Shown.{shown}
use Rattle.ob_uses.specs.Uses.{is_imported}
use Rattle.law_local_files.specs.Agreeing.{IsNear}
use Rattle.law_local_files.specs.Laws.{Text, over, view}
use Rattle.law_local_files.specs.Tied.{ModuleTied}

-- Over these interfaces the tree of the module is tied, and what counts of other modules is there.
pub record IsTiedOver (faces : List (Face Text)) (m : Module) : Type 0 where
  pub tied : ModuleTied (view faces m) m
  pub held : (q : QName) → IsNear (view faces m) (over faces m) q → is_imported m q ≡ true → IsSome (described faces q)

-- So is a module that was checked against interfaces whose map is grounded, and whose types differ in name.
abbrev pub ModulesTie : Type 0
ModulesTie = (faces : List (Face Text)) (tree : Tree) (m : TypedModule) → checked (shown faces) tree ≡ Some m → IsGrounded (described faces) → AreDistinct (λ t. t.name) m.types → IsTiedOver faces (module_view m)
