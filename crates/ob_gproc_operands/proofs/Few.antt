-- The limit of operands, told from capped numbers.
use Rattle.std.specs.Prelude.{nat_le, map, ◌&&◌, min, Bool, true, false, Option}
use Rattle.std.proofs.Common.{◌≡◌, ◌<◌, ◌≤◌, ℕ, ◌+◌, List, [], ◌∷◌, length, drop, get_or, refl, sym, ap, ◌∙◌, subst, arith}
use Rattle.std.proofs.lemmas.List.{drop_more, drop_all}
use Rattle.std.proofs.lemmas.Bool.{le-leb, leb-true}
use Rattle.ob_tree.specs.declared.names.QName.{QName}
use Rattle.ob_types.specs.declared.desc.Desc.{Desc}
use Rattle.ob_types.specs.declared.typed.TypedProcedure.{TypedProcedure}
use Rattle.ob_types.specs.TypedSyntax.{Module, Stmts}
use Rattle.ob_types.specs.TypedView.{procedure_view, stmts_view}
use Rattle.ob_scheme.specs.Context.{Context}
use Rattle.ob_scheme.specs.Procedures.{within}
use Rattle.ob_scheme.specs.Needs.{need_stmts, have_few_operands}
use Rattle.ob_gproc_operands.specs.Capped.{capped}
use Rattle.ob_gproc_operands.specs.Nowhere.{nowhere}
use Rattle.ob_gproc_operands.proofs.Anywhere.{stmts_need}

true_when : (b : Bool) (n : ℕ) → nat_le n 256 ≡ b → nat_le (capped n) 256 ≡ b
true_when true n e = let h = leb-true n 256 e in le-leb (capped n) 256 (omega (arith, h))
true_when false n e = go (nat_le (capped n) 256) refl
  where
    go : (b : Bool) → nat_le (capped n) 256 ≡ b → b ≡ false
    go true k = let h = leb-true (capped n) 256 k in let l : n ≤ 256 = omega (arith, h) in sym (le-leb n 256 l) ∙ e
    go false k = refl

same_test : (n : ℕ) → nat_le (capped n) 256 ≡ nat_le n 256
same_test n = true_when (nat_le n 256) n refl

pub few_told : (c : Context) (s : Stmts) (n : ℕ) (r : Bool) → n ≡ capped (need_stmts nowhere s) → r ≡ nat_le n 256 → r ≡ nat_le (need_stmts c s) 256
few_told c s n r h e = e ∙ ap (λ k. nat_le k 256) h ∙ same_test (need_stmts nowhere s) ∙ ap (λ k. nat_le k 256) (stmts_need nowhere c s)

module _ (types : QName → Option Desc) (m : Module) where
  first_few : (ps : List TypedProcedure) (i : ℕ) (d : TypedProcedure) → i < length ps → have_few_operands types m (map procedure_view (drop i ps)) ≡ nat_le (need_stmts (within types m (procedure_view (get_or ps i d))) (stmts_view (get_or ps i d).body)) 256 && have_few_operands types m (map procedure_view (drop (i + 1) ps))
  first_few ps i d lt = ap (λ l. have_few_operands types m (map procedure_view l)) (drop_more ps i d lt)

  pub few_more : (ps : List TypedProcedure) (i : ℕ) (d : TypedProcedure) (whole r : Bool) → i < length ps → ((c : Context) → r ≡ nat_le (need_stmts c (stmts_view (get_or ps i d).body)) 256) → r ≡ true → have_few_operands types m (map procedure_view (drop i ps)) ≡ whole → have_few_operands types m (map procedure_view (drop (i + 1) ps)) ≡ whole
  few_more ps i d whole r lt h e inv =
      let t : nat_le (need_stmts (within types m (procedure_view (get_or ps i d))) (stmts_view (get_or ps i d).body)) 256 ≡ true = sym (h (within types m (procedure_view (get_or ps i d)))) ∙ e in
      sym (ap (λ b. b && have_few_operands types m (map procedure_view (drop (i + 1) ps))) t) ∙ sym (first_few ps i d lt) ∙ inv

  pub few_not : (ps : List TypedProcedure) (i : ℕ) (d : TypedProcedure) (whole r : Bool) → i < length ps → ((c : Context) → r ≡ nat_le (need_stmts c (stmts_view (get_or ps i d).body)) 256) → r ≡ false → have_few_operands types m (map procedure_view (drop i ps)) ≡ whole → false ≡ whole
  few_not ps i d whole r lt h e inv =
      let t : nat_le (need_stmts (within types m (procedure_view (get_or ps i d))) (stmts_view (get_or ps i d).body)) 256 ≡ false = sym (h (within types m (procedure_view (get_or ps i d)))) ∙ e in
      sym (ap (λ b. b && have_few_operands types m (map procedure_view (drop (i + 1) ps))) t) ∙ sym (first_few ps i d lt) ∙ inv

  pub few_over : (ps : List TypedProcedure) (i : ℕ) (whole : Bool) → length ps ≤ i → have_few_operands types m (map procedure_view (drop i ps)) ≡ whole → true ≡ whole
  few_over ps i whole past inv = ap (λ l. have_few_operands types m (map procedure_view l)) (sym (drop_all i ps past)) ∙ inv
