-- The headline by what is compared, and sessions of one age.
use Rattle.std.specs.Prelude.{◌≡◌, ℕ, ◌≤◌, List}
use Rattle.std.specs.List.{AllByRecursion}
use Rattle.ob_link.specs.Files.{Files}
use Rattle.ob_shell_lines.specs.Lines.{done_lines, line_of}
use Rattle.ob_words.specs.declared.asked.Settings.{Settings}
use Rattle.ob_builds.specs.Simulated.{AreSettings}
use Rattle.ob_builds.specs.Promises.{Promises}
use Rattle.ob_shell_model.specs.Session as session
use Rattle.ob_shell_model.specs.Session.{Ends}
use Rattle.ob_shell_model.specs.Library.{Library, IsLibrary, Kept}
use Rattle.ob_shell_model.specs.Model.{start}
use Rattle.ob_shell_model.specs.Headline.{Headline, Stands}
use Rattle.ob_shell_model.specs.OneAge.{StandsAsCompared, StandsInOneAge, IsOfOneAge, StaysInOneAge, CompilesNothing}

-- Where no two texts of the builds spoken of share a print, prints tell apart all that is compared.
abbrev pub ApartAreTold : Type 0
ApartAreTold = Promises →
    (s : Settings) (l : Library) (files : Files) (script : List ℕ) → Stands s files l script → StandsAsCompared s files l script

-- THE HEADLINE, where prints tell apart what the session compares, whatever else shares a print
abbrev pub HeadlineHoldsAsCompared : Type 0
HeadlineHoldsAsCompared = Promises →
    (s : Settings) (l : Library) (before now : List ℕ) (old new : Files) (script : List ℕ) (status : ℕ) → AreSettings s → StandsAsCompared s old l script →
    (status ≡ 2 → ⊥) → status ≤ 7 →
    Ends (session.bytes s old) before now old new script status → Headline s before now old new l script status

-- THE HEADLINE OF ONE AGE: where all that the session compares is of one age, with nothing asked of prints
abbrev pub HeadlineHoldsInOneAge : Type 0
HeadlineHoldsInOneAge = Promises →
    (s : Settings) (l : Library) (before now : List ℕ) (old new : Files) (script : List ℕ) (status : ℕ) → AreSettings s → StandsInOneAge s old l script →
    (status ≡ 2 → ⊥) → status ≤ 7 →
    Ends (session.bytes s old) before now old new script status → Headline s before now old new l script status

-- Where each world on the way is of one age, all that the session compares is.
abbrev pub WorldsGiveOneAge : Type 0
WorldsGiveOneAge = Promises →
    (s : Settings) (l : Library) (files : Files) (script : List ℕ) → IsLibrary l → Kept files l → StaysInOneAge s files l script →
    StandsInOneAge s files l script

-- Where the library is of one age, lines that compile nothing compare only what is.
abbrev pub OneAgeStays : Type 0
OneAgeStays = (s : Settings) (l : Library) (files : Files) (script : List ℕ) →
    IsLibrary l → Kept files l → IsOfOneAge (start files l) → AllByRecursion (λ text. CompilesNothing (line_of text)) (done_lines script) →
    StandsInOneAge s files l script
