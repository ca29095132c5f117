-- The laws of bodies and imports.
use Rattle.std.proofs.Common.{[], ◌≡◌, false, sym, subst}
use Rattle.std.specs.Prelude.{bytes_eq}
use Rattle.std.specs.List.{AllByRecursion}
use Rattle.ob_types.specs.declared.typed.TypedModule.{TypedModule}
use Rattle.law_typing.specs.Known.{ConstantIs}
use Rattle.law_body_context.specs.Laws.{BodiesJudged, ImportsAreOthers}
use Rattle.law_body_context.proofs.Modules.{unbroken_is, parts, whole, not_out, bodies_judged}
use Rattle.law_body_context.proofs.Imports.{imports_others}

pub bodies_known : BodiesJudged
bodies_known shown tree m e s bases plain o c = bodies_judged ConstantIs (λ b. tt) shown tree m e (λ out x k u h. (c u h x k).node) s bases plain o

pub imports_are_others : ImportsAreOthers
imports_are_others shown tree m e h =
    let r = unbroken_is (parts ConstantIs (λ b. tt) shown tree).notes.broken (whole ConstantIs (λ b. tt) shown tree) m e in
    imports_others tree.name.name (not_out ConstantIs (λ b. tt) shown tree r.0) tree.imports [] tt (subst (λ (x : TypedModule). AllByRecursion (λ y. bytes_eq y tree.name.name ≡ false) x.imports) (sym r.1) h)
