-- Valid builds.
use Rattle.std.proofs.Common.{◌≡◌, sym, ap, subst}
use Rattle.std.specs.List.{AllByRecursion}
use Rattle.ob_types.specs.TypedSyntax.{Module}
use Rattle.ob_layout.specs.LaidOut.{viewed}
use Rattle.ob_env.specs.Faces.{described}
use Rattle.ob_compile_model.specs.Compiling.{Compiled}
use Rattle.law_spelling.specs.Laws.{IsSpelled}
use Rattle.law_spelling.specs.Files.{BasesFit}
use Rattle.law_builds_written.specs.Laws.{Text, laid}
use Rattle.law_builds_written.proofs.grounds_laws.Builds.{builds_are_checked}
use Rattle.law_builds_written.specs.based_laws.Laws.{BuildsAreBased}
use Rattle.law_builds_written.proofs.based_laws.Views.{views_are_based}

pub builds_are_based : BuildsAreBased
builds_are_based b c v names =
    let r = builds_are_checked b c v names in
    let k = r.from in
    let is : c.tree ≡ laid c.against k.module_is = ap (λ (x : Compiled Text). x.tree) k.is in
    subst (λ (m : Module). BasesFit (viewed (described c.against) m) m 0 m.types) (sym is)
    (views_are_based c.against k.tree k.module_is r.over (subst (AllByRecursion IsSpelled) (sym v.whole) v.spelled))
