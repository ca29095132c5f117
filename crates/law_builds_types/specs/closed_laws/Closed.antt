-- What builds that are loaded together show is closed, and keeps what types have to: the law.
use Rattle.std.specs.Prelude.{List, ◌∷◌, ◌++◌, map, Option}
use Rattle.std.specs.List.{AllByRecursion}
use Rattle.ob_tree.specs.declared.names.QName.{QName}
use Rattle.ob_types.specs.declared.desc.Desc.{Desc}
use Rattle.ob_types.specs.Maps.{IsHeld, signature_types}
use Rattle.ob_types.specs.Relations.{IsPlainResult}
use Rattle.ob_types.specs.TypedSyntax.{Procedure}
use Rattle.ob_env.specs.Shown.{shown}
use Rattle.ob_uses.specs.Objects.{signature_of}
use Rattle.ob_compile_model.specs.Compiling.{Compiled}
use Rattle.law_acyclic.specs.Steady.{IsClosed}
use Rattle.ob_builds.specs.Builds.{Text, Build, IsValid, shows_of}
use Rattle.ob_builds.specs.Written.{BuildsAreWritten}
use Rattle.law_program_runs.specs.Builds.{AreLoaded}
use Rattle.law_builds_ruled.specs.ruled_laws.Ruled.{types_of, BuildsAreRuled}

-- what is shown by builds that are loaded together, and by those before one of them
pub record LoadedAreClosed : Type 0 where
  pub all : (bs : List Build) → AreLoaded bs → IsClosed (shown (map shows_of bs))
  pub front : (before : List Build) (b : Build) (after : List Build) → AreLoaded (before ++ b ∷ after) → IsClosed (shown (map shows_of before))

-- what a procedure takes and gives are types, and its result is neither record nor array
pub record IsHeadRuled (types : QName → Option Desc) (p : Procedure) : Type 0 where
  pub held : AllByRecursion (λ t. IsHeld types t) (signature_types (signature_of p))
  pub plain : IsPlainResult types (signature_of p)

-- so it is of each build alone, in the descriptions that it was compiled with
abbrev pub HeadsAreRuled : Type 0
HeadsAreRuled = (b : Build) (c : Compiled Text) → IsValid b c → AllByRecursion (IsHeadRuled (types_of c)) c.tree.procedures

-- THE LAWS
abbrev pub HeadsRuled : Type 0
HeadsRuled = BuildsAreRuled → HeadsAreRuled

abbrev pub LoadedClosed : Type 0
LoadedClosed = BuildsAreWritten → BuildsAreRuled → LoadedAreClosed
