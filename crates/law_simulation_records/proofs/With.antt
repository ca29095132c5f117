-- The code of WITH follows its meaning.
use Rattle.std.proofs.Common.{ℕ, suc, [], refl, arith}
use Rattle.std.specs.Prelude.{pos}
use Rattle.ob_trap.specs.declared.trap.Trap.TheVariants as trap
use Rattle.ob_tree.specs.declared.pos.Pos.{Pos}
use Rattle.ob_types.specs.TypedSyntax.{With, Stmts, Branches, NoElse, Else}
use Rattle.ob_instr.proofs.Goes as rows
use Rattle.ob_meaning.specs.Results.{Trapped, stop, Caller}
use Rattle.ob_meaning.specs.Meaning.{execs}
use Rattle.law_simulation_relation.specs.Ends.{end_stmts, end_branches}
use Rattle.law_simulation_relation.proofs.Steps.{follows_stop, stands_any}
use Rattle.law_simulation_relation.proofs.Statements.{Activation, fb, here_in, StmtFollows, StmtsFollow, BranchesFollow}
use Rattle.law_simulation_relation.proofs.Behind.{stmts_end}
use Rattle.law_simulation_relation.proofs.Moves.{traps}
use Rattle.law_simulation_relation.specs.Setting.{Setting}

module _ (c : Setting) (a : Activation c) (n : ℕ) (call : Caller) (b : ℕ) where
  pub with_else_case : (branches : Branches) (body : Stmts) (at : Pos) → BranchesFollow c a n call b branches → StmtsFollow c a n call b body → StmtFollows c a n call b (With branches (Else body) at)
  with_else_case branches body at ih_b ih_o l exit pc k os s w le inside lies has ok st =
      let p1 = end_branches c.program branches pc in
      ih_b l (end_stmts c.program body p1) exit pc k os s w (execs body (here_in c a n call b)) (omega (arith, le)) (stmts_end c.program body p1) inside lies has.0 ok.0
      (λ s1 w1 st1. ih_o l exit p1 _ os s1 w1 (omega (arith, le)) inside lies has.1 ok.1 st1) st

  pub with_case : (branches : Branches) (at : Pos) → BranchesFollow c a n call b branches → StmtFollows c a n call b (With branches NoElse at)
  with_case branches at ih l exit pc k os s w le inside lies has ok st =
      let p1 = end_branches c.program branches pc in
      ih l (suc p1) exit pc k os s w (stop (Trapped trap.NoMatch (pos 0) a.unit at)) (omega (arith, le)) (omega arith) inside lies has.0 ok.0
      (λ s1 w1 st1. follows_stop c w1 (traps c a trap.NoMatch (pos 0) w1 has.1 (rows.trap_traps c.img a.u a.m a.p (fb c a) p1 w1 trap.NoMatch (pos 0) [])) (stands_any c st1)) st
