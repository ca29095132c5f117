use Rattle.std.proofs.Common.{◌≡◌, ap, ◌∙◌}
use Rattle.std.proofs.lemmas.Result.{IfOk-weaker}
use Rattle.ob_types.specs.declared.types.TypeRef.TheVariants as ref
use Rattle.ob_scheme.specs.Context.{words}
use Rattle.ob_gstmt.proofs.straight.record_words.Goals as goal

pub returns-clause-is : goal.returns-clause-is
returns-clause-is g c =
    let x = g.S.Scope.context c.args.scope.now in
    IfOk-weaker c.words.result (λ n. n ≡ words x c.in_ok-of.of) (λ n. n ≡ words x (ref.Named c.args.name.now)) (λ n h. h ∙ ap (words x) c.in_ok-of.ensures) c.words.ensures.is
