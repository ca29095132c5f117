use Rattle.std.proofs.Common.{ap, ◌∙◌}
use Rattle.ob_types.specs.declared.typed.TypedStmt.TheVariants as typed
use Rattle.ob_rules.specs.Judged.{if_sound, paired}
use Rattle.ob_rules.specs.Statements as spec
use Rattle.ob_rules.specs.Values.{tree}
use Rattle.ob_cstmt_parts.specs.Seen.{cases_in, else_in}
use Rattle.ob_cstmt.proofs.Steps.{alone_made}
use Rattle.ob_cstmt.proofs.single.case_alone.Goals as goal

pub returns : goal.returns
returns c =
    alone_made c.alone.result _ _ c.alone.ensures
    (c.case_made.ensures ∙ ap (λ v. (if_sound (paired v (paired (cases_in c.args.cases) (else_in c.args.otherwise))) (λ p. spec.one (typed.Case (tree p.0) p.1.0 p.1.1 c.args.at))).node) c.unboxed.ensures)
