-- Statements.
use Rattle.std.specs.Prelude.{List, [], ◌∷◌, Option, Some, None}
use Rattle.ob_tree.specs.declared.symbol.Symbol.TheVariants as s
use Rattle.ob_tree.specs.declared.token.Token.{Token}
use Rattle.ob_tree.specs.declared.expr.Expr.{Expr}
use Rattle.ob_tree.specs.declared.expr.Element.{Element}
use Rattle.ob_tree.specs.declared.expr.Designator.{Designator}
use Rattle.ob_tree.specs.declared.stmt.Stmt.{Stmt}
use Rattle.ob_tree.specs.declared.stmt.Stmt.TheVariants as st
use Rattle.ob_tree.specs.declared.stmt.Branch.{Branch, roll-Branch}
use Rattle.ob_tree.specs.declared.stmt.Case.{Case, roll-Case}
use Rattle.ob_tree.specs.declared.stmt.GuardedBranch.{GuardedBranch, roll-GuardedBranch}
use Rattle.ob_tree.specs.declared.stmt.Guard.{Guard}
use Rattle.ob_parse_grammar.specs.Phrase.{AnExpr, Statements, Phrase, word, made, maybe, many, either, nest}
use Rattle.ob_parse_grammar.specs.Expressions.{◌⊗◌, next_of, separated, ident, qualident, designator, elements}

-- Designator [":=" Expr]
abbrev pub plain_of : Designator × Option (Token × Expr) → Stmt
plain_of (d, None) = st.Call d
plain_of (d, Some x) = st.Assign d x.0.pos x.1

abbrev pub plain : Phrase Stmt
plain = made plain_of (designator ⊗ maybe (word s.Becomes ⊗ nest AnExpr))

abbrev pub otherwise : Phrase (Option (List Stmt))
otherwise = maybe (next_of s.KwElse (nest Statements))

-- IF Expr THEN StatementSeq {ELSIF Expr THEN StatementSeq} [ELSE StatementSeq] END
abbrev pub branch : Phrase Branch
branch = made (λ x. roll-Branch (record { test = x.0; body = x.1.1 })) (nest AnExpr ⊗ word s.KwThen ⊗ nest Statements)

abbrev pub choice : Phrase Stmt
choice =
    made (λ x. st.If x.0.pos (x.1.0 ∷ x.1.1.0) x.1.1.1.0)
    (word s.KwIf ⊗ branch ⊗ many (next_of s.KwElsif branch) ⊗ otherwise ⊗ word s.KwEnd)

-- Case = [Label {"," Label} ":" StatementSeq], and a label is spelled as an element
abbrev pub case_of : Option (List Element × (Token × List Stmt)) → Case
case_of None = roll-Case (record { labels = []; body = [] })
case_of (Some x) = roll-Case (record { labels = x.0; body = x.1.1 })

abbrev pub labelled : Phrase (List Element × (Token × List Stmt))
labelled = elements ⊗ word s.Colon ⊗ nest Statements

abbrev pub case_branch : Phrase Case
case_branch = made case_of (maybe labelled)

-- CASE Expr OF Case {"|" Case} [ELSE StatementSeq] END
abbrev pub case_statement : Phrase Stmt
case_statement =
    made (λ x. st.Case x.0.pos x.1.0 x.1.1.1.0 x.1.1.1.1.0)
    (word s.KwCase ⊗ nest AnExpr ⊗ word s.KwOf ⊗ separated s.Bar case_branch ⊗ otherwise ⊗ word s.KwEnd)

-- WHILE Expr DO StatementSeq END
abbrev pub while_loop : Phrase Stmt
while_loop =
    made (λ x. st.While x.0.pos x.1.0 x.1.1.1.0)
    (word s.KwWhile ⊗ nest AnExpr ⊗ word s.KwDo ⊗ nest Statements ⊗ word s.KwEnd)

-- REPEAT StatementSeq UNTIL Expr
abbrev pub repeat_loop : Phrase Stmt
repeat_loop =
    made (λ x. st.Repeat x.0.pos x.1.0 x.1.1.1) (word s.KwRepeat ⊗ nest Statements ⊗ word s.KwUntil ⊗ nest AnExpr)

abbrev pub step : Phrase (Option Expr)
step = maybe (next_of s.KwBy (nest AnExpr))

-- FOR ident ":=" Expr TO Expr [BY Expr] DO StatementSeq END
abbrev pub for_loop : Phrase Stmt
for_loop =
    made (λ x. st.For x.0.pos x.1.0 x.1.1.1.0 x.1.1.1.1.1.0 x.1.1.1.1.1.1.0 x.1.1.1.1.1.1.1.1.0)
    (word s.KwFor ⊗ ident ⊗ word s.Becomes ⊗ nest AnExpr ⊗ word s.KwTo ⊗ nest AnExpr
    ⊗ step ⊗ word s.KwDo ⊗ nest Statements ⊗ word s.KwEnd)

-- LOOP StatementSeq END
abbrev pub endless_loop : Phrase Stmt
endless_loop = made (λ x. st.Loop x.0.pos x.1.0) (word s.KwLoop ⊗ nest Statements ⊗ word s.KwEnd)

abbrev pub exit_statement : Phrase Stmt
exit_statement = made (λ t. st.Exit t.pos) (word s.KwExit)

-- RETURN [Expr]
abbrev pub return_statement : Phrase Stmt
return_statement = made (λ x. st.Return x.0.pos x.1) (word s.KwReturn ⊗ maybe (nest AnExpr))

-- Guard = Qualident ":" Qualident
abbrev pub guard : Phrase Guard
guard = made (λ x. record { variable = x.0; target = x.1.1 }) (qualident ⊗ word s.Colon ⊗ qualident)

abbrev pub guarded : Phrase GuardedBranch
guarded = made (λ x. roll-GuardedBranch (record { guard = x.0; body = x.1.1 })) (guard ⊗ word s.KwDo ⊗ nest Statements)

-- WITH Guard DO StatementSeq {"|" Guard DO StatementSeq} [ELSE StatementSeq] END
abbrev pub with_statement : Phrase Stmt
with_statement =
    made (λ x. st.With x.0.pos x.1.0 x.1.1.0) (word s.KwWith ⊗ separated s.Bar guarded ⊗ otherwise ⊗ word s.KwEnd)

abbrev pub or_empty : Option Stmt → Stmt
or_empty None = st.Empty
or_empty (Some x) = x

abbrev pub some_statement : Phrase Stmt
some_statement =
    either plain (either choice (either case_statement (either while_loop (either repeat_loop (either for_loop
    (either endless_loop (either exit_statement (either return_statement with_statement))))))))

-- Statement = [one of these]
abbrev pub statement : Phrase Stmt
statement = made or_empty (maybe some_statement)

-- StatementSeq = Statement {";" Statement}
abbrev pub statements : Phrase (List Stmt)
statements = separated s.Semicolon statement
