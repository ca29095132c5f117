-- The strings of a build's object file.
use Rattle.std.specs.Prelude.{◌≤◌, length}
use Rattle.std.specs.List.{AllByRecursion}
use Rattle.ob_compile_model.specs.Compiling.{Compiled}
use Rattle.ob_builds.specs.Builds.{Text, Build, IsValid, file_of}
use Rattle.ob_builds.specs.Written.{BuildsAreWritten}

-- No string of a valid build is longer than its words.
abbrev pub StringsFit : Type 0
StringsFit = BuildsAreWritten → (b : Build) (c : Compiled Text) → IsValid b c → AllByRecursion (λ s. length s.text ≤ s.words) (file_of b).globals.strings
