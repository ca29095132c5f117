use Rattle.std.proofs.Common.{ℕ, ap, ◌∙◌}
use Rattle.ob_types.specs.declared.typed.TypedVariable.{TypedVariable}
use Rattle.ob_layout.specs.Words.{words_of}
use Rattle.ob_gproc.specs.Scoped.{variables_before, variables_words}
use Rattle.ob_gproc.proofs.Placing.{placing_turn, sum_turn}
use Rattle.ob_gproc.proofs.tables.places_of_variables.Goals as goal

pub variables-preserved : goal.variables-preserved
variables-preserved g c =
    let types = g.T.Types.types c.args.types.now in
    let size : TypedVariable → ℕ = λ v. words_of types v.of in
    let vs = c.args.variables.now in
    let v = c.variable-item.result in
    let s = c.in_ok-words.ensures ∙ ap size c.variable-item.is in (
      placing_turn (λ v. v.name) size vs c.variables.variable-index v c.variables.places.index.positions c.in_ok-places.places.index.positions c.variables.places.total c.in_ok-places.places.total c.in_ok-words.words c.as_bytes.result.now (variables_before types vs) c.variables-test.true (c.as_bytes.ensures ∙ ap (λ (v : TypedVariable). v.name) c.variable-item.is) s c.in_ok-places.ensures.noted c.in_ok-places.ensures.total c.variables.invariant.0,
      sum_turn (λ v. v.name) size vs c.variables.variable-index v c.variables.places.total c.in_ok-places.places.total c.in_ok-words.words (variables_words types vs) c.variables-test.true s c.in_ok-places.ensures.total c.variables.invariant.1,
    )
