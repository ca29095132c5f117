-- The shapes of the pieces of FOR and CASE.
use Rattle.std.proofs.Common.{◌≡◌, ℕ, suc, [], ◌∷◌, ◌++◌, arith, ap, ◌∙◌}
use Rattle.ob_types.specs.declared.typed.Variable.{Variable}
use Rattle.ob_types.specs.TypedSyntax.{Expr}
use Rattle.ob_instr.specs.declared.opcode.Opcode.TheVariants as op
use Rattle.ob_scheme.specs.declared.want.Want.TheVariants as want
use Rattle.ob_scheme.specs.Lines.{plain, count, bare, behind}
use Rattle.ob_scheme.specs.Context.{Context}
use Rattle.ob_scheme.specs.Expressions.{expr_code}
use Rattle.ob_scheme.specs.Statements.{for_place}
use Rattle.ob_scheme.specs.Coded.{Coded, appended, place_in}
use Rattle.ob_scheme.proofs.Ends.{behind_is}
use Rattle.ob_scheme.proofs.Appends.{put_two, next_place}

-- a word's place, and a value with its store
pub stored_put : (c : Context) (k : ℕ) (e : Expr) (c0 c1 c2 : Coded) → c1 ≡ appended c0 (plain op.Local (count k) ∷ []) → c2 ≡ appended c1 (expr_code c want.Value e (place_in c1) ++ bare op.Store ∷ []) → c2 ≡ appended c0 (plain op.Local (count k) ∷ (expr_code c want.Value e (suc (place_in c0)) ++ bare op.Store ∷ []))
stored_put c k e c0 c1 c2 h m =
    let l1 = next_place c0 c1 (plain op.Local (count k) ∷ []) (suc (place_in c0)) h (omega arith) in
    put_two c0 c1 c2 (plain op.Local (count k) ∷ []) (expr_code c want.Value e (suc (place_in c0)) ++ bare op.Store ∷ []) h (m ∙ ap (λ n. appended c1 (expr_code c want.Value e n ++ bare op.Store ∷ [])) l1)

-- the place of FOR's variable, and a value with its store
pub start_put : (c : Context) (v : Variable) (e : Expr) (c0 c1 c2 : Coded) → c1 ≡ appended c0 (for_place c v) → c2 ≡ appended c1 (expr_code c want.Value e (place_in c1) ++ bare op.Store ∷ []) → c2 ≡ appended c0 (for_place c v ++ (expr_code c want.Value e (behind (for_place c v) (place_in c0)) ++ bare op.Store ∷ []))
start_put c v e c0 c1 c2 h m =
    let l1 = next_place c0 c1 (for_place c v) (behind (for_place c v) (place_in c0)) h (behind_is (for_place c v) (place_in c0)) in
    put_two c0 c1 c2 (for_place c v) (expr_code c want.Value e (behind (for_place c v) (place_in c0)) ++ bare op.Store ∷ []) h (m ∙ ap (λ n. appended c1 (expr_code c want.Value e n ++ bare op.Store ∷ [])) l1)
