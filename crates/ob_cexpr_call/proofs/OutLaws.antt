-- Procedures of Out are proper.
use Rattle.std.proofs.Common.{◌≡◌, refl, sym, ap, ◌∙◌, ℕ, List, Option, Some, None}
use Rattle.ob_tree.specs.declared.pos.Pos.{Pos}
use Rattle.ob_types.specs.declared.types.TypeRef.{TypeRef}
use Rattle.ob_types.specs.declared.types.Signature.{Signature}
use Rattle.ob_types.specs.declared.typed.Actual.{Actual}
use Rattle.ob_types.specs.declared.typed.OutProcedure.{OutProcedure}
use Rattle.ob_types.specs.declared.typed.OutProcedure.TheVariants as out
use Rattle.ob_types.specs.declared.typed.Callee.TheVariants as callee
use Rattle.ob_types.specs.declared.typed.TypedExpr.TheVariants as e
use Rattle.ob_rules.specs.declared.meant.Where.{Where}
use Rattle.ob_rules.specs.declared.values.Valued.{Valued}
use Rattle.ob_rules.specs.Judged.{Judged}
use Rattle.ob_rules.specs.Calls.{called_with, out_signature}

no_result : (p : OutProcedure) → (out_signature p).result ≡ None
no_result out.Char = refl
no_result out.Str = refl
no_result out.Int = refl
no_result out.Ln = refl

pub by_out : (w : Where) (at : Pos) (s : Signature) (n : ℕ) (p : OutProcedure) (xs : List Actual) → s ≡ out_signature p → called_with w at s n (λ ys. e.Call (callee.Out p) ys at s.result) xs ≡ called_with w at (out_signature p) n (λ ys. e.Call (callee.Out p) ys at None) xs
by_out w at s n p xs h =
    let F : Signature → Judged Valued = λ t. called_with w at t n (λ ys. e.Call (callee.Out p) ys at t.result) xs in
    let G : Option TypeRef → Judged Valued = λ r. called_with w at (out_signature p) n (λ ys. e.Call (callee.Out p) ys at r) xs in
    ap F h ∙ ap G (no_result p)
