-- Behind a line `make M` each module that was not passed over is up to date.
use Rattle.std.specs.Prelude.{◌≡◌, ℕ, List, [], true, false, Some, Ok}
use Rattle.ob_format.specs.Format.{IsBytes}
use Rattle.ob_link.specs.Walk.{has}
use Rattle.ob_link.specs.Files.{Files}
use Rattle.ob_cmp.specs.Check.{IsStale, check_of}
use Rattle.ob_words.specs.declared.asked.Settings.{Settings}
use Rattle.ob_make.specs.Order.{order}
use Rattle.ob_make.specs.Stale.{is_passed}
use Rattle.ob_make.specs.Folder.{seen_in}
use Rattle.ob_shell_model.specs.Folds.{world_from}
use Rattle.ob_shell_model.specs.Making.{make_answer}
use Rattle.ob_shell_model.specs.Bytes.{World, maker, start, answer}
use Rattle.ob_shell_model.specs.Library.{IsLibrary}
use Rattle.ob_shell_model.specs.Model as meaning

-- files hold bytes
abbrev pub AreBytes : Files → Type 0
AreBytes files = (name bytes : List ℕ) → files name ≡ Some bytes → IsBytes bytes

-- Where a make of m in this world has an order and is not refused, a check of each module of the order that was not passed over has
-- nothing to say of the files that it leaves.
abbrev pub BringsUpToDate : World → Type 0
BringsUpToDate w = (m : List ℕ) (xs : List (List ℕ)) → order (seen_in w.files) m ≡ Ok xs → (make_answer maker m w).refused ≡ false →
    (x : List ℕ) → has x xs ≡ true → is_passed (seen_in w.files) m x ≡ false → check_of (make_answer maker m w).world.files x ≡ IsStale []

-- THE LAW of each world, of whatever origin its files are
abbrev pub MakesBringUpToDate : Type 0
MakesBringUpToDate = (w : World) → AreBytes w.files → BringsUpToDate w

-- and of the world behind any lines of a session
abbrev pub SessionsBringUpToDate : Type 0
SessionsBringUpToDate = (s : Settings) (files : Files) (past : List (List ℕ)) → AreBytes files → BringsUpToDate (world_from (answer s) (start s files) 1 past)

-- By the meaning: over a library, whose object builds are checked against its symbol builds
abbrev pub MeaningBringsUpToDate : Type 0
MeaningBringsUpToDate = (w : meaning.World) → IsLibrary w.library → (m : List ℕ) (xs : List (List ℕ)) → order (meaning.seen_in w) m ≡ Ok xs → (make_answer meaning.maker m w).refused ≡ false →
    (x : List ℕ) → has x xs ≡ true → is_passed (meaning.seen_in w) m x ≡ false → meaning.check_in (make_answer meaning.maker m w).world.library x ≡ IsStale []
