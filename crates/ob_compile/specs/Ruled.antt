-- What is known of a module that was judged.
use Rattle.std.specs.Prelude.{◌≡◌, Option, None, IsSome}
use Rattle.ob_rules.specs.declared.broken.Broken.{Broken}

-- A module that breaks no rule has its checked module.
abbrev pub IsChecked : {A : Type 0} → Option Broken → Option A → Type 0
IsChecked broken tree = broken ≡ None → IsSome tree
