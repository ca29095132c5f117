-- Builds are written, and commands suffice.
use Rattle.std.proofs.Common.{◌≡◌, ◌≢◌, ℕ, false, List, [], ◌∷◌, map, Some, sym, subst, ◌∙◌}
use Rattle.std.specs.Prelude.{bytes_eq}
use Rattle.std.specs.List.{AllByRecursion, IsDistinct}
use Rattle.std.proofs.lemmas.Bool.{false≢true}
use Rattle.std.proofs.lemmas.Slice.Eq.{bytes_eq-Decides}
use Rattle.ob_types.specs.declared.typed.TypedType.{TypedType}
use Rattle.law_names_distinct.specs.Distinct.{AreDistinct}
use Rattle.ob_env.specs.Faces.{face_named}
use Rattle.ob_compile_model.specs.Compiling.{Compiled}
use Rattle.law_names_compiled.proofs.Compiled.{compiled_types_differ}
use Rattle.law_spelling_values.proofs.Left.{left_written}
use Rattle.ob_builds.specs.Builds.{Text, Build, IsSpelled, IsValid, entry_of}
use Rattle.ob_builds.specs.Written.{BuildsAreWritten}
use Rattle.law_builds.proofs.Apart.{entry_named}
use Rattle.law_local.proofs.Following.{locality_holds}
use Rattle.law_builds_written.proofs.grounds_laws.Builds.{builds_are_grounded}
use Rattle.law_builds_written.proofs.based_laws.Builds.{builds_are_based}
use Rattle.law_builds_written.proofs.short_builds_laws.Builds.{builds_short}
use Rattle.law_builds_written.specs.Upheld.{SimulationSuffices}

fresh : (x : List ℕ) (ts : List TypedType) → AllByRecursion (λ y. bytes_eq x y ≡ false) (map (λ t. t.name) ts) → AllByRecursion (λ t. t.name ≢ x) ts
fresh x [] h = tt
fresh x (t ∷ ts) h = ((λ e. false≢true (sym h.0 ∙ (bytes_eq-Decides x t.name).1 (sym e))), fresh x ts h.1)

distinct : (ts : List TypedType) → IsDistinct bytes_eq (map (λ t. t.name) ts) → AreDistinct (λ t. t.name) ts
unfolding IsDistinct
distinct [] h = tt
distinct (t ∷ ts) h = (fresh t.name ts h.0, distinct ts h.1)

-- the types of a build differ in name
pub builds_differ : (b : Build) (c : Compiled Text) → IsValid b c → AreDistinct (λ t. t.name) c.tree.types
builds_differ b c v = distinct c.tree.types (compiled_types_differ (λ name. entry_of (face_named b.against name)) (entry_named b.against) (Some b.source) c v.is)

pub builds_are_written : BuildsAreWritten
builds_are_written b c v =
    let d = builds_differ b c v in
    let g = builds_are_grounded b c v d in
    let w = left_written (λ name. entry_of (face_named b.against name)) (λ m f e. sym (entry_named b.against m f e)) (Some b.source) c v.is
    (subst (AllByRecursion IsSpelled) (sym v.whole) v.spelled)
    (record { short = builds_short b c v d; grounded = g.short; bases = builds_are_based b c v d }) in
    record { object = w.object; symbols = w.symbols }

pub simulation_suffices : SimulationSuffices
simulation_suffices simulation = record { locality = locality_holds; simulation = simulation; written = builds_are_written }
