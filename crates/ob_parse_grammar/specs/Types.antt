-- Types, as they are written.
use Rattle.std.specs.Prelude.{Bool, List, [], Option, Some, None, is_some, option_to_list}
use Rattle.ob_tree.specs.declared.symbol.Symbol.TheVariants as s
use Rattle.ob_tree.specs.declared.ident.Qualident.{Qualident}
use Rattle.ob_tree.specs.declared.type_node.TypeNode.{TypeNode}
use Rattle.ob_tree.specs.declared.type_node.TypeNode.TheVariants as node
use Rattle.ob_tree.specs.declared.type_node.FieldList.{FieldList, roll-FieldList}
use Rattle.ob_tree.specs.declared.type_node.FormalPars.{FormalPars, roll-FormalPars}
use Rattle.ob_tree.specs.declared.type_node.Section.{Section, roll-Section}
use Rattle.ob_parse_grammar.specs.Phrase.{AType, Phrase, word, made, maybe, either, nest}
use Rattle.ob_parse_grammar.specs.Expressions.{◌⊗◌, next_of, separated, optional, joined, ident, ident_list, qualident, exprs}

abbrev pub is_var : Phrase Bool
is_var = made is_some (maybe (word s.KwVar))

-- Section = [VAR] ident {"," ident} ":" Type
abbrev pub section : Phrase Section
section =
    made (λ x. roll-Section (record { is_var = x.0; names = x.1.0; node = x.1.1.1 }))
    (is_var ⊗ separated s.Comma ident ⊗ word s.Colon ⊗ nest AType)

abbrev pub sections : Phrase (List Section)
sections = separated s.Semicolon section

abbrev pub result_type : Phrase (Option Qualident)
result_type = maybe (next_of s.Colon qualident)

-- FormalPars = "(" [Section {";" Section}] ")" [":" Qualident]
abbrev pub formal_pars : Phrase FormalPars
formal_pars =
    made (λ x. roll-FormalPars (record { sections = x.1.0; result_type = x.1.1.1 }))
    (word s.LeftRound ⊗ optional sections ⊗ word s.RightRound ⊗ result_type)

-- where none are written, it is as if () were
abbrev pub parameters_of : Option FormalPars → FormalPars
parameters_of None = roll-FormalPars (record { sections = []; result_type = None })
parameters_of (Some x) = x

abbrev pub parameters : Phrase FormalPars
parameters = made parameters_of (maybe formal_pars)

-- FieldList = [IdentList ":" Type]
abbrev pub fields : Phrase FieldList
fields = made (λ x. roll-FieldList (record { names = x.0; node = x.1.1 })) (ident_list ⊗ word s.Colon ⊗ nest AType)

abbrev pub field_list : Phrase (List FieldList)
field_list = made option_to_list (maybe fields)

abbrev pub field_lists : Phrase (List FieldList)
field_lists = made joined (separated s.Semicolon field_list)

abbrev pub base : Phrase Qualident
base = made (λ x. x.1.0) (word s.LeftRound ⊗ qualident ⊗ word s.RightRound)

abbrev pub array : Phrase TypeNode
array =
    made (λ x. node.Array x.0.pos x.1.0 x.1.1.1)
    (word s.KwArray ⊗ optional exprs ⊗ word s.KwOf ⊗ nest AType)

abbrev pub record_type : Phrase TypeNode
record_type =
    made (λ x. node.Record x.0.pos x.1.0 x.1.1.0)
    (word s.KwRecord ⊗ maybe base ⊗ field_lists ⊗ word s.KwEnd)

abbrev pub pointer : Phrase TypeNode
pointer = made (λ x. node.Pointer x.0.pos x.1.1) (word s.KwPointer ⊗ word s.KwTo ⊗ nest AType)

abbrev pub procedure_type : Phrase TypeNode
procedure_type = made (λ x. node.Procedure x.0.pos x.1) (word s.KwProcedure ⊗ parameters)

abbrev pub named : Phrase TypeNode
named = made node.Named qualident

-- Type = Qualident | ARRAY [Expr {"," Expr}] OF Type
--   | RECORD ["(" Qualident ")"] FieldList {";" FieldList} END | POINTER TO Type | PROCEDURE [FormalPars]
abbrev pub type_node : Phrase TypeNode
type_node = either named (either array (either record_type (either pointer procedure_type)))
