-- The words of FOR and CASE: the scheme counts them, the meaning names them by their places.
use Rattle.std.proofs.Common.{◌≡◌, ℕ, suc, ◌+◌, List, [], ◌∷◌, ◌++◌, length, subst, arith, length-append}
use Rattle.ob_tree.specs.declared.pos.Pos.{Pos}
use Rattle.ob_types.specs.TypedSyntax.{Stmt, Assign, CallProper, Updated, Copy, New, NewOpenArray, Assert, Halt, If, Case, While, Repeat, For, Loop, Exit, Return, With, Stmts, Nothing, Then, Branches, NoBranch, Branch, Cases, NoCase, OneCase, Otherwise, NoElse, Else}
use Rattle.ob_meaning.specs.Meaning.{hidden}
use Rattle.ob_meaning.specs.Calls.{hidden_of, hidden_of_all, hidden_of_branches, hidden_of_cases, hidden_of_else}
use Rattle.ob_scheme.specs.Context.{Context}
use Rattle.ob_scheme.specs.Statements.{next_stmt, next_stmts, next_branches, next_cases, next_else}
use Rattle.law_simulation_relation.specs.Layout.{slot}
use Rattle.law_simulation_relation.specs.Stands.{Scope}

module _ (sc : Scope) where
  -- the words of these places follow one another from a word on
  abbrev pub HiddenAt : List Pos → ℕ → Type 0
  HiddenAt [] t = Unit {0}
  HiddenAt (p ∷ ps) t = (slot sc.held (hidden p) ≡ t) × HiddenAt ps (suc t)

  pub hidden_apart : (a b : List Pos) (t : ℕ) → HiddenAt (a ++ b) t → HiddenAt a t × HiddenAt b (t + length a)
  hidden_apart [] b t h = let e : t ≡ t + 0 = omega arith in (tt, subst (λ n. HiddenAt b n) e h)
  hidden_apart (p ∷ a) b t h =
      let r = hidden_apart a b (suc t) h.1 in
      let e : suc t + length a ≡ t + suc (length a) = omega arith in
      ((h.0, r.0), subst (λ n. HiddenAt b n) e r.1)

module _ (c : Context) where
  mutual
    pub stmt_next : (s : Stmt) (t : ℕ) → next_stmt c s t ≡ t + length (hidden_of s)
    stmt_next (If branches otherwise) t = omega (arith, branches_next branches t, stmts_next otherwise (next_branches c branches t), length-append (hidden_of_branches branches) (hidden_of_all otherwise))
    stmt_next (Case e cases otherwise at) t = omega (arith, cases_next cases (suc t), else_next otherwise (next_cases c cases (suc t)), length-append (hidden_of_cases cases) (hidden_of_else otherwise))
    stmt_next (While e body at) t = stmts_next body t
    stmt_next (Repeat body e at) t = stmts_next body t
    stmt_next (For v w start stop step body at) t = omega (arith, stmts_next body (suc t))
    stmt_next (Loop body at) t = stmts_next body t
    stmt_next (With branches otherwise at) t = omega (arith, branches_next branches t, else_next otherwise (next_branches c branches t), length-append (hidden_of_branches branches) (hidden_of_else otherwise))
    stmt_next (Assign d how e at) t = omega arith
    stmt_next (CallProper e) t = omega arith
    stmt_next (Updated o d e at) t = omega arith
    stmt_next (Copy e d at) t = omega arith
    stmt_next (New d what at) t = omega arith
    stmt_next (NewOpenArray d e n at) t = omega arith
    stmt_next (Assert e number at) t = omega arith
    stmt_next (Halt number at) t = omega arith
    stmt_next Exit t = omega arith
    stmt_next (Return e) t = omega arith

    pub stmts_next : (s : Stmts) (t : ℕ) → next_stmts c s t ≡ t + length (hidden_of_all s)
    stmts_next Nothing t = omega arith
    stmts_next (Then s rest) t = omega (arith, stmt_next s t, stmts_next rest (next_stmt c s t), length-append (hidden_of s) (hidden_of_all rest))

    pub branches_next : (bs : Branches) (t : ℕ) → next_branches c bs t ≡ t + length (hidden_of_branches bs)
    branches_next NoBranch t = omega arith
    branches_next (Branch test body rest) t = omega (arith, stmts_next body t, branches_next rest (next_stmts c body t), length-append (hidden_of_all body) (hidden_of_branches rest))

    pub cases_next : (cs : Cases) (t : ℕ) → next_cases c cs t ≡ t + length (hidden_of_cases cs)
    cases_next NoCase t = omega arith
    cases_next (OneCase labels body rest) t = omega (arith, stmts_next body t, cases_next rest (next_stmts c body t), length-append (hidden_of_all body) (hidden_of_cases rest))

    pub else_next : (o : Otherwise) (t : ℕ) → next_else c o t ≡ t + length (hidden_of_else o)
    else_next NoElse t = omega arith
    else_next (Else body) t = stmts_next body t
