-- What is left to be seen of a module that compiles, where its constants and lengths are in range.
use Rattle.std.specs.Prelude.{◌≡◌, ℕ, ◌<◌, ◌^◌, List, length, Option, true, Ok}
use Rattle.std.specs.List.{AllByRecursion}
use Rattle.ob_tree.specs.declared.names.QName.{QName}
use Rattle.ob_types.specs.declared.types.TypeRef.TheVariants as ref
use Rattle.ob_types.specs.declared.desc.Desc.{Desc}
use Rattle.ob_types.specs.TypedSyntax.{Module}
use Rattle.ob_layout.specs.LaidOut.{viewed}
use Rattle.ob_env.specs.Faces.{described}
use Rattle.ob_env.specs.Fit.{is_within}
use Rattle.ob_env_walk.specs.Walk.{Entry}
use Rattle.ob_compile_model.specs.Compiling.{Compiled, texts, compiled}
use Rattle.law_spelling.specs.Files.{BasesFit}
use Rattle.law_spelling.specs.Laws.{Text, IsSpelled, IsWritten}
use Rattle.law_spelling.specs.Seen.{AreNamedEntries}

-- WHAT IS LEFT, of a module that is laid out, by its descriptions
module _ (types : QName → Option Desc) (m : Module) where
  pub record IsLeft : Type 0 where
    -- names of types are short
    pub short : AllByRecursion (λ t. length t.name < 2 ^ 16) m.types
    -- the chains of own types end
    pub grounded : AllByRecursion (λ t. is_within types 200 (ref.Named (record { «module» = m.name; object = t.name })) ≡ true) m.types
    -- bases
    pub bases : BasesFit types m 0 m.types

-- What compiles against interfaces that have a spelling is written, where that is seen of its module.
abbrev pub LeftAreWritten : Type 0
LeftAreWritten = (entry : List ℕ → Entry Text) → AreNamedEntries entry → (source : Option (List ℕ)) (c : Compiled Text) → compiled texts entry source ≡ Ok c →
    AllByRecursion IsSpelled c.against → IsLeft (viewed (described c.against) c.tree) c.tree → IsWritten c
