-- Declarations and modules.
use Rattle.std.specs.Prelude.{List, ◌++◌, is_some}
use Rattle.ob_tree.specs.declared.symbol.Symbol.TheVariants as s
use Rattle.ob_tree.specs.declared.ident.Import.{Import}
use Rattle.ob_tree.specs.declared.stmt.Stmt.{Stmt}
use Rattle.ob_tree.specs.declared.decl.Decl.{Decl}
use Rattle.ob_tree.specs.declared.decl.Decl.TheVariants as d
use Rattle.ob_tree.specs.declared.decl.Receiver.{Receiver}
use Rattle.ob_tree.specs.declared.decl.Heading.{Heading}
use Rattle.ob_tree.specs.declared.decl.Module.{Module}
use Rattle.ob_parse_grammar.specs.Phrase.{AnExpr, AType, Statements, Procedure, Phrase, word, made, maybe, many, either, nest, fork}
use Rattle.ob_parse_grammar.specs.Expressions.{◌⊗◌, next_of, separated, optional, joined, ident, ident_def, ident_list}
use Rattle.ob_parse_grammar.specs.Types.{is_var, parameters}

-- CONST {IdentDef "=" Expr ";"} | TYPE {IdentDef "=" Type ";"} | VAR {IdentList ":" Type ";"}
abbrev pub constant : Phrase Decl
constant = made (λ x. d.Constant x.0 x.1.1.0) (ident_def ⊗ word s.Equal ⊗ nest AnExpr ⊗ word s.Semicolon)

abbrev pub named_type : Phrase Decl
named_type = made (λ x. d.NamedType x.0 x.1.1.0) (ident_def ⊗ word s.Equal ⊗ nest AType ⊗ word s.Semicolon)

abbrev pub variables : Phrase Decl
variables = made (λ x. d.Variables x.0 x.1.1.0) (ident_list ⊗ word s.Colon ⊗ nest AType ⊗ word s.Semicolon)

abbrev pub block : Phrase (List Decl)
block =
    either (next_of s.KwConst (many constant)) (either (next_of s.KwType (many named_type)) (next_of s.KwVar (many variables)))

-- Receiver = "(" [VAR] ident ":" ident ")"
abbrev pub receiver : Phrase Receiver
receiver =
    made (λ x. record { is_var = x.1.0; ident = x.1.1.0; owner = x.1.1.1.1.0 })
    (word s.LeftRound ⊗ is_var ⊗ ident ⊗ word s.Colon ⊗ ident ⊗ word s.RightRound)

-- [Receiver] IdentDef [FormalPars]
abbrev pub heading : Phrase Heading
heading =
    made (λ x. record { receiver = x.0; name = x.1.0; parameters = x.1.1 }) (maybe receiver ⊗ ident_def ⊗ parameters)

-- Forward = PROCEDURE "^" [Receiver] IdentDef [FormalPars], behind its PROCEDURE
abbrev pub forward : Phrase Decl
forward = made (λ x. d.Forward x.1) (word s.Caret ⊗ heading)

-- ProcDecl ";" | Forward ";"
abbrev pub procedure_item : Phrase Decl
procedure_item = made (λ x. x.0) (fork s.KwProcedure Procedure forward ⊗ word s.Semicolon)

abbrev pub blocks : Phrase (List Decl)
blocks = made joined (many block)

-- DeclSeq = {CONST .. | TYPE .. | VAR ..} {ProcDecl ";" | Forward ";"}
abbrev pub declarations : Phrase (List Decl)
declarations = made (λ x. x.0 ++ x.1) (blocks ⊗ many procedure_item)

-- [BEGIN StatementSeq]
abbrev pub body : Phrase (List Stmt)
body = optional (next_of s.KwBegin (nest Statements))

-- ProcDecl = PROCEDURE [Receiver] IdentDef [FormalPars] ";" DeclSeq [BEGIN StatementSeq] END ident, behind its PROCEDURE
abbrev pub procedure : Phrase Decl
procedure =
    made (λ x. d.Procedure x.0 x.1.1.0 x.1.1.1.0 x.1.1.1.1.1)
    (heading ⊗ word s.Semicolon ⊗ declarations ⊗ body ⊗ word s.KwEnd ⊗ ident)

-- Import = ident [":=" ident]
abbrev pub import_item : Phrase Import
import_item = made (λ x. record { ident = x.0; target = x.1 }) (ident ⊗ maybe (next_of s.Becomes ident))

-- IMPORT Import {"," Import} ";"
abbrev pub imports : Phrase (List Import)
imports = made (λ x. x.1.0) (word s.KwImport ⊗ separated s.Comma import_item ⊗ word s.Semicolon)

-- Module = MODULE ident ";" [IMPORT Import {"," Import} ";"] DeclSeq [BEGIN StatementSeq] END ident "." End
abbrev pub «module» : Phrase Module
«module» =
    made (λ x. record { name = x.1.0; imports = x.1.1.1.0; decls = x.1.1.1.1.0; body = x.1.1.1.1.1.0; closing = x.1.1.1.1.1.1.1.0 })
    (word s.KwModule ⊗ ident ⊗ word s.Semicolon ⊗ optional imports ⊗ declarations ⊗ body ⊗ word s.KwEnd ⊗ ident ⊗ word s.Dot ⊗ word s.End)
