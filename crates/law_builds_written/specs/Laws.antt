-- The laws: the map that a module is compiled with is grounded, and chains of its own types are short.
use Rattle.std.specs.Prelude.{◌≡◌, ℕ, true, false, List, Some, None, bytes_eq}
use Rattle.std.specs.List.{AllByRecursion}
use Rattle.ob_tree.specs.declared.decl.Module.{Module as Tree}
use Rattle.ob_types.specs.declared.types.TypeRef.TheVariants as ref
use Rattle.ob_types.specs.declared.typed.TypedModule.{TypedModule}
use Rattle.ob_types.specs.TypedSyntax.{Module}
use Rattle.ob_types.specs.TypedView.{module_view}
use Rattle.ob_types.specs.Relations.{IsGrounded}
use Rattle.ob_layout.specs.LaidOut.{laid_out, viewed}
use Rattle.ob_env.specs.Faces.{Face, described}
use Rattle.ob_env.specs.Fit.{is_within}
use Rattle.ob_env.specs.Shown.{shown}
use Rattle.ob_rules.specs.Names.{out_string}
use Rattle.ob_rules.specs.Declarations.{target_of, checked}
use Rattle.ob_compile_model.specs.Compiling.{is_deep}
use Rattle.law_names_distinct.specs.Distinct.{AreDistinct}

abbrev pub Text : Type 0
Text = List ℕ

-- A module that keeps the rules and the limit of depth against these interfaces, whose map is grounded, and none of which is its own or
-- says what the parameter of Out.String is; it imports others alone, and its types differ in name.
pub record IsCheckedOver (faces : List (Face Text)) (tree : Tree) (m : TypedModule) : Type 0 where
  pub is : checked (shown faces) tree ≡ Some m
  pub shallow : is_deep faces tree ≡ false
  pub grounded : IsGrounded (described faces)
  pub others : AllByRecursion (λ f. bytes_eq f.«module» tree.name.name ≡ false) faces
  pub out : described faces out_string ≡ None
  pub imports : AllByRecursion (λ i. bytes_eq (target_of i).name tree.name.name ≡ false) tree.imports
  pub names : AreDistinct (λ t. t.name) m.types

-- the module with its records laid out
abbrev pub laid : List (Face Text) → TypedModule → Module
laid faces m = laid_out (described faces) (module_view m)

-- chains of the types of a module have at most 200 types
abbrev pub AreShort : List (Face Text) → Module → Type 0
AreShort faces m = AllByRecursion (λ t. is_within (viewed (described faces) m) 200 (ref.Named (record { «module» = m.name; object = t.name })) ≡ true) m.types

-- THE MAP IS GROUNDED
abbrev pub ViewsAreGrounded : Type 0
ViewsAreGrounded = (faces : List (Face Text)) (tree : Tree) (m : TypedModule) → IsCheckedOver faces tree m → IsGrounded (viewed (described faces) (laid faces m))

-- AND ITS CHAINS ARE SHORT
abbrev pub ViewsAreShort : Type 0
ViewsAreShort = (faces : List (Face Text)) (tree : Tree) (m : TypedModule) → IsCheckedOver faces tree m → AreShort faces (laid faces m)
