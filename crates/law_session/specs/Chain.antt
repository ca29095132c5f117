-- Sessions behind one another in one folder.
use Rattle.std.specs.Prelude.{ℕ, List}
use Rattle.ob_link.specs.Files.{Files}
use Rattle.ob_words.specs.declared.asked.Settings.{Settings}
use Rattle.ob_builds.specs.Apart.{Apart}
use Rattle.ob_shell_model.specs.Library.{Library}
use Rattle.ob_shell_model.specs.Headline.{Headline, Stands, IsText, left_by}

-- THE LAW: what a session leaves, whole or cut short, is what the next one starts from. Its files keep the library that it left, so the
-- headline of the next one, over that library, asks only that the texts spoken of then are apart.
abbrev pub SessionsChain : Type 0
SessionsChain = (s next : Settings) (before now : List ℕ) (old new : Files) (l : Library) (script more : List ℕ) (status : ℕ) →
    (h : Headline s before now old new l script status) →
    Apart (IsText next new (left_by s before now old new l script status h.keeps) more) →
    Stands next new (left_by s before now old new l script status h.keeps) more
