-- The numbers of bound procedures of a module that is laid out.
use Rattle.std.specs.Prelude.{◌≡◌, ℕ, List, Option, None, Some, true, false, bytes_eq}
use Rattle.std.specs.List.{AllByRecursion}
use Rattle.ob_tree.specs.declared.names.QName.{QName}
use Rattle.ob_types.specs.declared.types.TypeRef.TheVariants as ref
use Rattle.ob_types.specs.declared.desc.Desc.{Desc}
use Rattle.ob_types.specs.declared.typed.Binding.{Binding}
use Rattle.ob_types.specs.declared.typed.TypedModule.{TypedModule}
use Rattle.ob_types.specs.TypedSyntax.{Module}
use Rattle.ob_types.specs.TypedView.{module_view}
use Rattle.ob_layout.specs.LaidOut.{viewed, laid_out}
use Rattle.ob_env.specs.Faces.{Face, described}
use Rattle.ob_env.specs.Fit.{is_within, first_unfit}
use Rattle.ob_env.specs.Shown.{shown}
use Rattle.law_methods_introduced.specs.Families.{view, IsFamily}
use Rattle.law_spelling.specs.Files.{NumbersFit}

-- a checked module, laid out against these interfaces
abbrev pub laid_in : List (Face (List ℕ)) → TypedModule → Module
laid_in faces m = laid_out (described faces) (module_view m)

-- the types that it sees
abbrev pub seen_in : List (Face (List ℕ)) → TypedModule → QName → Option Desc
seen_in faces m = viewed (described faces) (laid_in faces m)

abbrev pub NumbersAreBelow : Type 0
NumbersAreBelow = (faces : List (Face (List ℕ))) (m : TypedModule) → first_unfit faces ≡ None → AllByRecursion (λ f. bytes_eq f.«module» m.name ≡ false) faces →
    AllByRecursion (λ t. is_within (seen_in faces m) 200 (ref.Named (record { «module» = m.name; object = t.name })) ≡ true) (laid_in faces m).types →
    AllByRecursion (λ p. (b : Binding) → p.binding ≡ Some b → IsFamily (view (shown faces) m) m.name b) m.procedures →
    AllByRecursion (λ t. NumbersFit (seen_in faces m) (laid_in faces m) t t.desc) (laid_in faces m).types
