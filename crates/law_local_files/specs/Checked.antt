-- What the rules see to, of a checked module, so that what counts is all that its layout and code read.
use Rattle.std.specs.Prelude.{◌≡◌, true, List, Some, IsSome}
use Rattle.std.specs.List.{AllByRecursion}
use Rattle.ob_tree.specs.declared.names.QName.{QName}
use Rattle.ob_types.specs.TypedSyntax.{Module}
use Rattle.ob_layout.specs.LaidOut.{type_named}
use Rattle.ob_env.specs.Faces.{Face, described}
use Rattle.ob_uses.specs.Uses.{is_imported}
use Rattle.law_local_files.specs.Agreeing.{IsNear}
use Rattle.law_local_files.specs.Laws.{Text, over, view, IsTied}
use Rattle.law_local_files.specs.Tied.{ModuleTied}

-- The tree is tied, what counts is there, and each type of the module is the one of its name.
pub record IsChecked (faces : List (Face Text)) (m : Module) : Type 0 where
  pub tied : ModuleTied (view faces m) m
  pub held : (q : QName) → IsNear (view faces m) (over faces m) q → is_imported m q ≡ true → IsSome (described faces q)
  pub types : AllByRecursion (λ t. type_named m.types t.name ≡ Some t.desc) m.types

-- THE LAW: what counts is then all that layout and code read.
abbrev pub CountsAreEnough : Type 0
CountsAreEnough = (faces : List (Face Text)) (m : Module) → IsChecked faces m → IsTied faces m
