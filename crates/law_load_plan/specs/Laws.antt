-- The laws of plans.
use Rattle.std.specs.Prelude.{◌≡◌, ℕ, ◌≤◌, true, not, List, map, Option, Some, Ok}
use Rattle.std.specs.List.{AllByRecursion}
use Rattle.ob_tree.specs.declared.names.QName.{QName}
use Rattle.ob_types.specs.declared.desc.Desc.{Desc}
use Rattle.ob_types.specs.declared.face.Use.{Use}
use Rattle.ob_types.specs.Maps.{is_type}
use Rattle.ob_types.specs.TypedSyntax.{Procedure, Module}
use Rattle.ob_obj.specs.declared.parts.Export.{Export}
use Rattle.ob_obj.specs.declared.file.ObjFile.{ObjFile}
use Rattle.ob_obj.specs.Images.{global_words}
use Rattle.ob_meaning.specs.Commands.{is_hidden, command_named}
use Rattle.ob_layout.specs.Room.{globals_words}
use Rattle.ob_env_walk.specs.Walk as walk
use Rattle.ob_scheme.specs.Context.{procedure_index}
use Rattle.ob_scheme.specs.Object.{is_full, own, object_file}
use Rattle.ob_compile_model.specs.Compiling.{Compiled, compiled, texts}
use Rattle.ob_link.specs.Plan.{Entry, Asks, plan}
use Rattle.ob_link.specs.Files as files
use Rattle.ob_link.specs.Files.{Files, object_entry, file_plan}
use Rattle.law_load_plan.specs.Alike.{AreAskedAlike, AreEntriesAlike, Agrees}
use Rattle.law_load_plan.specs.Seen.{AreNamed, IsSeenTo}
use Rattle.law_load_plan.specs.Compiled.{Text, AreProceduresNamed}

-- Of modules that are known and of those that stand for them, two plans say the same: the modules of the one stand for those of the
-- other, and the refusals are named alike.
abbrev pub PlansAgree : Type 1
PlansAgree = (A B K L : Type 0) (asks : Asks A K) (others : Asks B L) (twin : A → B) (short : K → L) (IsKnown : A → Type 0) (IsAsked : List ℕ → Type 0) (entry : List ℕ → Entry A) (other : List ℕ → Entry B) →
    AreAskedAlike asks others twin short IsKnown → AreEntriesAlike asks others entry other twin short IsKnown IsAsked →
    (loaded : List A) → AllByRecursion IsKnown loaded → (name command : List ℕ) → IsAsked name →
    Agrees twin short IsKnown (plan asks entry loaded name command) (plan others other (map twin loaded) name command)

-- A plan that is not refused has seen to all that it is asked for.
abbrev pub PlanSees : Type 1
PlanSees = (A K : Type 0) (asks : Asks A K) (entry : List ℕ → Entry A) → AreNamed asks entry →
    (loaded : List A) (name command : List ℕ) (new : List A) → plan asks entry loaded name command ≡ Ok new → IsSeenTo asks entry loaded name command new

-- So has a load of object files.
abbrev pub LoadSees : Type 0
LoadSees = (folder : Files) (loaded : List ObjFile) (name command : List ℕ) (new : List ObjFile) → file_plan folder loaded name command ≡ Ok new → IsSeenTo files.asks (object_entry folder) loaded name command new

-- The words of an object file's globals are those of the layout, where these are no more than may be loaded.
abbrev pub WordsAgree : Type 0
WordsAgree = (types : QName → Option Desc) (m : Module) (exports : List Export) (uses : List Use) → globals_words types m ≤ 262144 → global_words (object_file types m exports uses) ≡ globals_words types m

-- The command of a name has in the object file the number of its procedure.
abbrev pub CommandsAreNumbered : Type 0
CommandsAreNumbered = (types : QName → Option Desc) (m : Module) (exports : List Export) (uses : List Use) → AreProceduresNamed m.procedures →
    (x : List ℕ) (p : Procedure) → command_named m x ≡ Some p → files.command_in (object_file types m exports uses) x ≡ Some (procedure_index (own types m) x)

-- Of a module that compiles the types are described as types, and each procedure is exported in full or hidden.
pub record IsMarked (c : Compiled Text) : Type 0 where
  pub types : AllByRecursion (λ t. is_type t.desc ≡ true) c.tree.types
  pub marks : AllByRecursion (λ p. is_full p.mark ≡ not (is_hidden p.mark)) c.tree.procedures

abbrev pub CompiledAreMarked : Type 0
CompiledAreMarked = (entry : List ℕ → walk.Entry Text) (source : Option (List ℕ)) (c : Compiled Text) → compiled texts entry source ≡ Ok c → IsMarked c
