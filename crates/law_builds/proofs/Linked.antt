-- Links name what is used.
use Rattle.std.proofs.Common.{Some}
use Rattle.law_links.proofs.Names.{compiled_used}
use Rattle.law_links.proofs.Types.{compiled_types}
use Rattle.ob_builds.specs.Builds.{entry_of}
use Rattle.law_builds.specs.Linked.{BuildsAreLinked}
use Rattle.law_builds.proofs.Apart.{entry_named}
use Rattle.ob_env.specs.Faces.{face_named}

pub builds_are_linked : BuildsAreLinked
builds_are_linked b c v =
    let n = compiled_used _ (Some b.source) c v.is in
    record { variables = n.variables; procedures = n.procedures; types = compiled_types (λ name. entry_of (face_named b.against name)) (entry_named b.against) (Some b.source) c v.is }
