-- Procedures and bodies keep the limits of activations and operands: the laws.
use Rattle.std.specs.Prelude.{◌≡◌, ◌+◌, ◌≤◌, List, ◌++◌, map, Option, None, Contains}
use Rattle.std.specs.List.{AllByRecursion}
use Rattle.ob_tree.specs.declared.names.QName.{QName}
use Rattle.ob_types.specs.declared.desc.Desc.{Desc}
use Rattle.ob_types.specs.TypedSyntax.{Procedure, Module}
use Rattle.ob_instr.specs.Parts.{slots}
use Rattle.ob_meaning.specs.Values.{description}
use Rattle.ob_layout.specs.LaidOut.{viewed}
use Rattle.ob_env.specs.Faces.{described}
use Rattle.ob_scheme.specs.Procedures.{body_of, within, all_local_words, param_for}
use Rattle.ob_scheme.specs.Needs.{need_stmts}
use Rattle.law_image_links.specs.Same.{ModuleSame}
use Rattle.ob_compile_model.specs.Compiling.{Compiled, texts, exceeds}
use Rattle.ob_builds.specs.Builds.{Text, Build, tree_of}
use Rattle.law_program_runs.specs.Builds.{program_of, AreLoaded}
use Rattle.law_program_image.specs.Premises.{LoadedAreSame}

module _ (types : QName → Option Desc) (md : Module) where
  -- Of a procedure: the slots of its parameters with the words of its locals, those of FOR and CASE among them; and the operands that stand
  -- at most while its statements run.
  pub record KeepsLimits (p : Procedure) : Type 0 where
    pub small : slots (map (λ x. param_for types md (within types md p) x.passing x.of) p.parameters) + all_local_words types md p ≤ 1048576
    pub few : need_stmts (within types md p) p.body ≤ 256

  pub record AllKeepLimits : Type 0 where
    pub procedures : AllByRecursion KeepsLimits md.procedures
    pub body : KeepsLimits (body_of md)

-- THE LAWS

-- by all descriptions that say of what a module names what those say with which it was compiled
abbrev pub CompiledKeepLimits : Type 0
CompiledKeepLimits = (c : Compiled Text) → exceeds texts c ≡ None → (types : QName → Option Desc) → ModuleSame (viewed (described c.against) c.tree) types c.tree → AllKeepLimits types c.tree

-- by the descriptions of the program
abbrev pub LoadedKeepLimits : Type 0
LoadedKeepLimits = LoadedAreSame → (bs more : List Build) → AreLoaded (bs ++ more) → (b : Build) → Contains bs b → AllKeepLimits (description (program_of bs)) (tree_of b)
