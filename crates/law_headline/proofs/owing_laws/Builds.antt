-- Valid builds keep the rules on their types.
use Rattle.std.proofs.Common.{◌≡◌, ◌≢◌, false, List, ℕ, [], ◌∷◌, map, Some, sym, ◌∙◌}
use Rattle.std.specs.Prelude.{bytes_eq}
use Rattle.std.specs.List.{AllByRecursion, IsDistinct}
use Rattle.std.proofs.lemmas.Bool.{false≢true}
use Rattle.std.proofs.lemmas.Slice.Eq.{bytes_eq-Decides}
use Rattle.ob_types.specs.declared.typed.TypedType.{TypedType}
use Rattle.ob_env.specs.Faces.{face_named}
use Rattle.law_names_distinct.specs.Distinct.{AreDistinct}
use Rattle.ob_builds.specs.Builds.{entry_of}
use Rattle.law_builds.proofs.Apart.{entry_named}
use Rattle.law_names_compiled.proofs.Compiled.{compiled_types_differ}
use Rattle.law_builds_written.proofs.grounds_laws.Builds.{builds_are_grounded}
use Rattle.law_builds_ruled.specs.ruled_laws.Ruled.{BuildsDiffer, BuildsAreGrounded, BuildsAreRuled}
use Rattle.law_builds_ruled.proofs.ruled_laws.Builds.{builds_keep_rules}

fresh : (x : List ℕ) (ts : List TypedType) → AllByRecursion (λ y. bytes_eq x y ≡ false) (map (λ t. t.name) ts) → AllByRecursion (λ t. t.name ≢ x) ts
fresh x [] h = tt
fresh x (t ∷ ts) h = ((λ e. false≢true (sym h.0 ∙ (bytes_eq-Decides x t.name).1 (sym e))), fresh x ts h.1)

apart : (ts : List TypedType) → IsDistinct bytes_eq (map (λ t. t.name) ts) → AreDistinct (λ t. t.name) ts
unfolding IsDistinct
apart [] h = tt
apart (t ∷ ts) h = (fresh t.name ts h.0, apart ts h.1)

-- the types of a valid build have different names
pub builds_differ : BuildsDiffer
builds_differ b c v = apart c.tree.types (compiled_types_differ (λ name. entry_of (face_named b.against name)) (entry_named b.against) (Some b.source) c v.is)

-- the map that it was compiled with is grounded
pub builds_grounded : BuildsAreGrounded
builds_grounded b c v = (builds_are_grounded b c v (builds_differ b c v)).grounded

pub builds_ruled : BuildsAreRuled
builds_ruled = builds_keep_rules builds_differ builds_grounded
