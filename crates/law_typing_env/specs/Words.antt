-- Modules in order, each the checked one with its records laid out over what it sees.
use Rattle.std.specs.Prelude.{◌≤◌, List, [], ◌∷◌, ◌++◌}
use Rattle.std.specs.List.{AllByRecursion}
use Rattle.ob_types.specs.declared.types.TypeRef.{TypeRef}
use Rattle.ob_types.specs.declared.desc.Desc.{Desc}
use Rattle.ob_types.specs.declared.desc.Desc.TheVariants as desc
use Rattle.ob_types.specs.Maps.{IsHeld, IsWithin}
use Rattle.ob_types.specs.TypedSyntax.{Module}
use Rattle.ob_meaning.specs.Values.{Program}
use Rattle.ob_layout.specs.Words.{most_words}
use Rattle.ob_layout.specs.LaidOut.{viewed}
use Rattle.law_typing_env.specs.Views.{IsLaid}
use Rattle.law_typing_env.specs.Ordered.{StandsOver}

-- a record keeps the limit of words
abbrev pub IsSmall : Desc → Type 0
IsSmall (desc.Record r) = r.words ≤ most_words
IsSmall d = Unit {0}

pub record IsLaidOver (before : Program) (m : Module) : Type 0 where
  pub over : StandsOver before m
  pub checked : Module
  pub laid : IsLaid over.others checked m
  pub chains : (t : TypeRef) → IsHeld (viewed over.others checked) t → IsWithin (viewed over.others checked) 201 t
  pub small : AllByRecursion (λ t. IsSmall t.desc) m.types

abbrev pub AreLaidInOrder : Program → List Module → Type 0
AreLaidInOrder before [] = Unit {0}
AreLaidInOrder before (m ∷ ms) = IsLaidOver before m × AreLaidInOrder (before ++ m ∷ []) ms
