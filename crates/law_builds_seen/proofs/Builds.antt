-- Valid builds name members that are there.
use Rattle.std.proofs.Common.{◌≡◌, sym, ap, subst}
use Rattle.std.specs.List.{AllByRecursion}
use Rattle.ob_types.specs.TypedSyntax.{Module}
use Rattle.ob_layout.specs.LaidOut.{viewed}
use Rattle.ob_env.specs.Faces.{described}
use Rattle.ob_env.specs.Shown.{shown}
use Rattle.ob_compile_model.specs.Compiling.{Compiled}
use Rattle.law_names_procedures.proofs.Faces.{faces_show}
use Rattle.law_names_procedures.proofs.Texts.{headings_are_named}
use Rattle.law_spelling.specs.Laws.{IsSpelled}
use Rattle.law_spelling.proofs.Reading.{readings_named}
use Rattle.law_methods_introduced.proofs.Families.{families_there}
use Rattle.law_spelling_read.proofs.Trees.{readings_spelled}
use Rattle.law_body_context.proofs.Expressions.{bodies_stand}
use Rattle.law_spelling_values.proofs.Shown.{spelled_shown}
use Rattle.law_builds_written.specs.Laws.{Text, laid}
use Rattle.law_builds_written.proofs.grounds_laws.Builds.{builds_are_checked}
use Rattle.law_builds_written.proofs.Upheld.{builds_differ}
use Rattle.law_builds_seen.specs.Seen.{ModuleSeen}
use Rattle.law_builds_seen.specs.Laws.{ModulesSee}
use Rattle.law_builds_seen.proofs.Modules.{module_seen}

pub modules_see : ModulesSee
modules_see b c v =
    let r = builds_are_checked b c v (builds_differ b c v) in
    let k = r.from in
    let faces = c.against in
    let m = k.module_is in
    let is : c.tree ≡ laid faces m = ap (λ (x : Compiled Text). x.tree) k.is in
    let bodies = bodies_stand (shown faces) k.tree m k.checked_is (readings_spelled b.source k.tree k.read) (faces_show k.tree.name.name faces r.over.others k.fit) (headings_are_named b.source k.tree k.read) r.over.imports (spelled_shown faces (subst (AllByRecursion IsSpelled) (sym v.whole) v.spelled)) in
    let families = families_there (shown faces) k.tree m k.checked_is r.over.names (readings_named b.source k.tree k.read).decls in
    subst (λ (x : Module). ModuleSeen (viewed (described faces) x) x) (sym is) (module_seen faces m r.over.names bodies families)
