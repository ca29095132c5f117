-- A make over files that keep a library is a make over the library.
use Rattle.std.specs.Prelude.{◌≡◌, ℕ, List, true}
use Rattle.ob_make.specs.Order.{order}
use Rattle.ob_make.specs.Stale.{turn_in}
use Rattle.ob_make.specs.Folder.{seen_in, prints}
use Rattle.ob_parse_grammar.specs.Identifiers.{is_identifier}
use Rattle.ob_builds.specs.Written.{BuildsAreWritten}
use Rattle.ob_shell_model.specs.Library.{IsLibrary, Kept}
use Rattle.ob_shell_model.specs.Model as model
use Rattle.ob_shell_model.specs.Model.{World, marks}
use Rattle.ob_shell_model.specs.OneAge.{ByCheck, AreToldApart}

-- THE LAW, where all builds can be written: the same modules have their turns, in the same order, and the same is done of each, where
-- prints tell apart what its check compares.
abbrev pub MakesAlike : Type 0
MakesAlike = BuildsAreWritten → (w : World) (m : List ℕ) → IsLibrary w.library → Kept w.files w.library → is_identifier m ≡ true →
    (order (seen_in w.files) m ≡ order (model.seen_in w) m)
    × ((x : List ℕ) → is_identifier x ≡ true → AreToldApart (ByCheck w.library x) → turn_in prints (seen_in w.files) m x ≡ turn_in marks (model.seen_in w) m x)
