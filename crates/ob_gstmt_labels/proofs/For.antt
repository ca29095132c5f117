-- Behind the end, the start and the test of FOR, step by step.
use Rattle.std.proofs.Common.{◌≡◌, ℕ, suc, ◌+◌, arith, ap, ◌∙◌}
use Rattle.ob_types.specs.declared.types.TypeRef.TheVariants as ref
use Rattle.ob_types.specs.declared.types.Basic.TheVariants as basic
use Rattle.ob_types.specs.declared.typed.Variable.{Variable}
use Rattle.ob_types.specs.TypedSyntax.{Expr}
use Rattle.ob_scheme.specs.declared.want.Want.TheVariants as want
use Rattle.ob_scheme.specs.Lines.{behind}
use Rattle.ob_scheme.specs.Context.{Context}
use Rattle.ob_scheme.specs.Expressions.{end_expr}
use Rattle.ob_scheme.specs.Statements.{for_place, end_for_test}
use Rattle.ob_gstmt_labels.specs.Sizes.{variable_size, end_for_head}
use Rattle.ob_gstmt_labels.proofs.Behinds.{variable_behind}

pub for_head_ends : (c : Context) (v : Variable) (start stop : Expr) (pc p1 p2 p3 p4 p5 p6 : ℕ)
    → p1 ≡ pc + 1 → p2 ≡ end_expr c want.Value stop p1 → p3 ≡ p2 + (variable_size want.Place v + 1) → p4 ≡ end_expr c want.Value start p3 → p5 ≡ p4 + 1 → p6 ≡ end_for_test c v p5 → p6 ≡ end_for_head c v start stop pc
for_head_ends c v start stop pc p1 p2 p3 p4 p5 p6 h1 h2 h3 h4 h5 h6 =
    let e1 : p1 ≡ suc pc = omega (arith, h1) in
    let e2 : p2 ≡ end_expr c want.Value stop (suc pc) = h2 ∙ ap (end_expr c want.Value stop) e1 in
    let q1 = suc (end_expr c want.Value stop (suc pc)) in
    let e3 : p3 ≡ behind (for_place c v) q1 = let k = variable_behind c want.Place v (ref.Basic basic.LongInt) q1 in omega (arith, h3, e2, k) in
    let e4 : p4 ≡ end_expr c want.Value start (behind (for_place c v) q1) = h4 ∙ ap (end_expr c want.Value start) e3 in
    let e5 : p5 ≡ suc (end_expr c want.Value start (behind (for_place c v) q1)) = omega (arith, h5, e4) in
    h6 ∙ ap (end_for_test c v) e5
