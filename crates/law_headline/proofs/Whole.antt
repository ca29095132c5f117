-- All that the headline takes for granted of builds is there.
use Rattle.std.proofs.Common.{List, [], ◌∷◌, ◌++◌, Option, Some, sym, subst}
use Rattle.std.specs.Prelude.{map, Contains}
use Rattle.std.specs.List.{AllByRecursion}
use Rattle.ob_types.specs.TypedSyntax.{Procedure, Module}
use Rattle.ob_tree.specs.declared.names.QName.{QName}
use Rattle.ob_types.specs.declared.desc.Desc.{Desc}
use Rattle.ob_scheme.specs.Procedures.{body_of}
use Rattle.ob_meaning.specs.Values.{description}
use Rattle.ob_env.specs.Faces.{face_named}
use Rattle.law_simulation_relation.specs.Setting.{Setting}
use Rattle.law_image_code.specs.Described.{IsDescribed}
use Rattle.law_image_tables.specs.Image.{RulesKept}
use Rattle.law_typing_values.specs.Valued.{values}
use Rattle.law_program_scope.specs.Scoped.{BodyIsScoped, BodiesAreScoped}
use Rattle.law_program_scope.proofs.Modules.{programs_are_scoped}
use Rattle.law_program_typing.specs.Kept as kept
use Rattle.law_program_typing.specs.Accepted.{AreBuilt}
use Rattle.law_names_compiled.proofs.Compiled.{compiled_types_differ}
use Rattle.ob_builds.specs.Builds.{Build, tree_of, entry_of}
use Rattle.ob_builds.specs.Simulated.{Simulation}
use Rattle.law_builds.proofs.Apart.{entry_named}
use Rattle.law_builds.proofs.Linked.{builds_are_linked}
use Rattle.law_builds.proofs.Members.{has_head, has_more}
use Rattle.law_program_runs.specs.Builds.{program_of, AreLoaded, IsOf, BuildsStand}
use Rattle.law_program_runs.proofs.Whole.{commands_follow}
use Rattle.law_program_runs.proofs.Settings.{loaded_front}
use Rattle.law_local.proofs.Following.{locality_holds}
use Rattle.law_program_image.specs.Owed.{in_program}
use Rattle.law_builds_loaded.specs.Loaded.{BoundAreThere, LoadedAreWhole, LoadedAreLaid}
use Rattle.law_builds_loaded.proofs.Owing.{loaded_are_sound, loaded_describe}
use Rattle.law_builds_loaded.proofs.whole_laws.Whole.{loaded_whole}
use Rattle.law_builds_loaded.proofs.whole_laws.Passing.{loaded_passed}
use Rattle.law_builds_loaded.proofs.laying_laws.Loaded.{loaded_laid}
use Rattle.law_builds_types.proofs.pointed_laws.Loaded.{loaded_bases}
use Rattle.law_builds_methods.proofs.belonging_laws.Loaded.{bound_there}
use Rattle.law_program_image.specs.Premises.{builds_of, TypesDiffer, LoadedAreSound, LoadedDescribe, LoadedAreSame}
use Rattle.law_builds_loaded.specs.inherited_laws.Laws.{LoadedAreLike}
use Rattle.law_builds_loaded.proofs.inherited_laws.Loaded.{loaded_keep_rules}
use Rattle.law_builds_methods.proofs.likeness_laws.Loaded.{loaded_like}
use Rattle.law_builds_joint.proofs.Loaded.{loaded_are_same}
use Rattle.law_builds_bodies.specs.limits_laws.Limits.{KeepsLimits, AllKeepLimits}
use Rattle.law_builds_bodies.proofs.limits_laws.Loaded.{loaded_keep}
use Rattle.law_builds_bodies.specs.built_laws.Built.{IsBuiltModule}
use Rattle.law_builds_bodies.proofs.built_laws.Built.{loaded_are_built}
use Rattle.law_builds_bodies.proofs.built_laws.Nearest.{loaded_are_redefined}
use Rattle.law_builds_types.specs.encircled_laws.Encircled.{AreEncircled}
use Rattle.law_builds_types.proofs.encircled_laws.Encircled.{loaded_are_steady}
use Rattle.law_builds_types.specs.assured_laws.Checked.{IsLeft}
use Rattle.law_builds_types.proofs.assured_laws.Checked.{loaded_are_checked}
use Rattle.law_headline.specs.owing_laws.Left.{Left}
use Rattle.law_headline.proofs.owing_laws.Builds.{builds_ruled}
use Rattle.law_headline.proofs.owing_laws.Whole.{left_stands}
use Rattle.law_builds_written.proofs.Upheld.{builds_are_written, simulation_suffices}
use Rattle.law_headline.specs.Promised.{Promised}

types_differ : TypesDiffer
types_differ b c v = compiled_types_differ (λ name. entry_of (face_named b.against name)) (entry_named b.against) (Some b.source) c v.is

bound : BoundAreThere
bound = bound_there builds_are_written builds_ruled locality_holds

sound : LoadedAreSound
sound = loaded_are_sound builds_are_written builds_ruled bound

whole : LoadedAreWhole
whole = loaded_whole builds_ruled (loaded_passed builds_are_written builds_ruled)

laid : LoadedAreLaid
laid = loaded_laid builds_are_written builds_ruled locality_holds

describe : LoadedDescribe
describe = loaded_describe builds_are_written builds_ruled bound whole laid

same : LoadedAreSame
same = loaded_are_same builds_are_written builds_ruled sound

like : LoadedAreLike
like = loaded_like builds_are_written locality_holds types_differ sound whole (loaded_bases builds_are_written builds_ruled)

-- the maps of types around bodies are steady
steady : (bs : List Build) → AreLoaded bs → AreEncircled (program_of bs)
steady = loaded_are_steady builds_are_written builds_ruled locality_holds sound whole

-- WHAT IS LEFT OF PROCEDURES

module _ (c : Setting) (bs more : List Build) (loaded : AreLoaded (bs ++ more)) (is : IsOf c values bs more) where
  front : AreLoaded bs
  front = loaded_front bs more loaded

  described : IsDescribed (description (program_of bs)) c.program
  described = subst (λ p. IsDescribed (description (program_of bs)) p) (sym is.program) (describe bs front)

  procedure_left : (m : Module) (p : Procedure) → BodyIsScoped (description (program_of bs)) m p → KeepsLimits (description (program_of bs)) m p → kept.IsLeft c (description (program_of bs)) m p
  procedure_left m p s k = record { there = s; small = k.small; few = k.few }

  procedures_left : (m : Module) (ps : List Procedure) → AllByRecursion (BodyIsScoped (description (program_of bs)) m) ps → AllByRecursion (KeepsLimits (description (program_of bs)) m) ps → AllByRecursion (kept.IsLeft c (description (program_of bs)) m) ps
  procedures_left m [] s k = tt
  procedures_left m (p ∷ ps) s k = (procedure_left m p s.0 k.0, procedures_left m ps s.1 k.1)

  all_left : (xs : List Build) → ((b : Build) → Contains xs b → Contains bs b) → AllByRecursion (λ m. (types : QName → Option Desc) → BodiesAreScoped types m) (program_of xs) → AllByRecursion (IsBuiltModule (program_of bs)) (program_of xs) → AllByRecursion (kept.AreLeft c) (map (in_program (program_of bs)) xs)
  all_left [] i s b = tt
  all_left (x ∷ xs) i s b =
      let scoped = s.0 (description (program_of bs)) in
      let k : AllKeepLimits (description (program_of bs)) (tree_of x) = loaded_keep same bs more loaded x (i x (has_head x xs)) in (
        record {
          described = described;
          named = b.0.named;
          procedures = procedures_left (tree_of x) (tree_of x).procedures scoped.procedures k.procedures;
          body = procedure_left (tree_of x) (body_of (tree_of x)) scoped.body k.body;
        },
        all_left xs (λ y j. i y (has_more x xs y j)) s.1 b.1,
      )

  all_built : (ms : List Module) → AllByRecursion (IsBuiltModule (program_of bs)) ms → AllByRecursion (AreBuilt (program_of bs)) ms
  all_built [] b = tt
  all_built (m ∷ ms) b = (b.0.built, all_built ms b.1)

  left : AreEncircled (program_of bs) → IsLeft c bs
  left so =
      let b = loaded_are_built builds_are_written builds_ruled sound bs front in
      record {
        judged = so.judged;
        steady = so.steady;
        redefined = loaded_are_redefined builds_are_written locality_holds types_differ sound whole like bs front;
        built = all_built (program_of bs) b;
        limits = all_left bs (λ y j. j) (programs_are_scoped (program_of bs) so.judged) b;
      }

  rules : AreEncircled (program_of bs) → RulesKept c (builds_of bs)
  rules so =
      let checked = loaded_are_checked sound whole bs more loaded c is (left so) in
      loaded_keep_rules builds_are_written locality_holds types_differ sound whole laid describe same like bs more loaded c is checked.0 checked.1

-- COMMANDS

left_so : Left
left_so = record { written = builds_are_written; linked = builds_are_linked; same = same; rules = λ bs more loaded c is. rules c bs more loaded is (steady bs (loaded_front bs more loaded)) }

pub stand : BuildsStand
stand = left_stands left_so

pub simulation : Simulation
simulation = commands_follow stand

pub promised : Promised
promised = simulation_suffices simulation
