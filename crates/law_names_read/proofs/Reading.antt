-- What a module that is read declares is named by words.
use Rattle.std.proofs.Common.{◌≡◌, ◌⊎◌, inl, inr, ℕ, zero, suc, Bool, true, false, List, [], ◌∷◌, ◌++◌, length, length-append, map, Option, Some, None, Result, Ok, Err, refl, sym, ap, subst, ◌∙◌, ◌≤◌, ◌<◌, cond, arith}
use Rattle.std.specs.Prelude.{◌&&◌, nat_le, IfSome, option_to_list}
use Rattle.std.specs.List.{AllByRecursion, list_all}
use Rattle.std.proofs.lemmas.Bool.{le-leb}
use Rattle.ob_tree.specs.declared.symbol.Symbol.{Symbol}
use Rattle.ob_tree.specs.declared.symbol.Symbol.TheVariants as s
use Rattle.ob_tree.specs.declared.token.Token.{Token}
use Rattle.ob_tree.specs.declared.pos.Pos.{Pos}
use Rattle.ob_tree.specs.declared.ident.Ident.{Ident}
use Rattle.ob_tree.specs.declared.ident.IdentDef.{IdentDef}
use Rattle.ob_tree.specs.declared.ident.Qualident.{Qualident}
use Rattle.ob_tree.specs.declared.expr.Expr.{Expr}
use Rattle.ob_tree.specs.declared.stmt.Stmt.{Stmt}
use Rattle.ob_tree.specs.declared.type_node.TypeNode.{TypeNode}
use Rattle.ob_tree.specs.declared.type_node.TypeNode.TheVariants as node
use Rattle.ob_tree.specs.declared.type_node.FieldList.{FieldList, roll-FieldList}
use Rattle.ob_tree.specs.declared.type_node.FormalPars.{FormalPars, roll-FormalPars}
use Rattle.ob_tree.specs.declared.type_node.Section.{Section, roll-Section}
use Rattle.ob_tree.specs.declared.type_node.TypeNode.TheOpen.{TypeNode-F, FieldList-F, FormalPars-F, Section-F}
use Rattle.ob_tree.specs.declared.type_node.TypeNode.TheFolds.{fold-roll-TypeNode, fold-roll-FieldList, fold-roll-FormalPars, fold-roll-Section}
use Rattle.ob_tree.specs.declared.decl.Heading.{Heading}
use Rattle.ob_tree.specs.declared.decl.Decl.{Decl}
use Rattle.ob_tree.specs.declared.decl.Decl.TheVariants as d
use Rattle.ob_tree.specs.declared.decl.Decl.TheOpen.{Decl-F}
use Rattle.ob_tree.specs.declared.decl.Decl.TheFolds.{fold-roll-Decl}
use Rattle.ob_tree.specs.declared.decl.Module.{Module as Module}
use Rattle.ob_scan.specs.declared.fault.ScanFault.{ScanFault}
use Rattle.ob_scan.specs.Scanning.{Input, Step, Gives, Faults, step, start_of}
use Rattle.ob_parse_grammar.specs.Phrase.{Tokens, same, spells_as, Nest, AnExpr, AType, Statements, Negated, Procedure, Tree, Phrase}
use Rattle.ob_parse_grammar.specs.Expressions.{next_of, list_of, joined, ident, ident_def_of, ident_def, ident_list, separated, optional}
use Rattle.ob_parse_grammar.specs.Types.{section, sections, formal_pars, parameters_of, parameters, fields, field_list, field_lists, type_node}
use Rattle.ob_parse_grammar.specs.Declarations.{constant, named_type, variables, block, heading, forward, procedure_item, declarations, procedure, «module»}
use Rattle.ob_parse_grammar.specs.Reading.{Read, Found, Fails, Wrong, Deep}
use Rattle.ob_parse_grammar.specs.Grammar.{rule, IsVoid, reads, spells}
use Rattle.ob_parse_grammar.proofs.Verdicts.{verdict}
use Rattle.ob_parse_grammar.specs.Depth.{limit}
use Rattle.ob_parse_grammar.specs.Texts.{listed, tokens_in, tokens_of}
use Rattle.ob_parse_grammar.specs.TextReading.{NoModule, fault_of, parsed, by_fault, reading}
use Rattle.ob_layout.specs.Lists.{sum_of}
use Rattle.law_names_distinct.specs.Named.{is_word, all_true, are_words, node_layer, fields_layer, parameters_layer, section_layer, type_named, fields_named, parameters_named, section_named, decl_layer, decl_named, tree_named}
use Rattle.law_spelling.proofs.Tokens.{is_name, IsNamedToken, tokens_named}
use Rattle.law_names_read.specs.Worded.{ReadingsAreWorded}
use Rattle.law_names_read.proofs.Phrases.{Any, Holds, holds}
use Rattle.law_names_read.proofs.Counts.{sections_count, sum_mapped}
use Rattle.law_names_read.proofs.Words.{identifier_word}
use Rattle.law_lists.proofs.Lists.{all_both, all_from, both_true}

-- ---- folds of what the grammar makes

array_is : (at : Pos) (ls : List Expr) (e : TypeNode) → type_named (node.Array at ls e) ≡ type_named e
array_is at ls e = ap type_named (sym (node.rolls-Array at ls e)) ∙ fold-roll-TypeNode Bool Bool Bool (Bool × ℕ) node_layer fields_layer parameters_layer section_layer (TypeNode-F.Array at ls e)

record_is : (at : Pos) (b : Option Qualident) (fs : List FieldList) → type_named (node.Record at b fs) ≡ all_true (map fields_named fs)
record_is at b fs = ap type_named (sym (node.rolls-Record at b fs)) ∙ fold-roll-TypeNode Bool Bool Bool (Bool × ℕ) node_layer fields_layer parameters_layer section_layer (TypeNode-F.Record at b fs)

pointer_is : (at : Pos) (e : TypeNode) → type_named (node.Pointer at e) ≡ type_named e
pointer_is at e = ap type_named (sym (node.rolls-Pointer at e)) ∙ fold-roll-TypeNode Bool Bool Bool (Bool × ℕ) node_layer fields_layer parameters_layer section_layer (TypeNode-F.Pointer at e)

procedure_is : (at : Pos) (p : FormalPars) → type_named (node.Procedure at p) ≡ parameters_named p
procedure_is at p = ap type_named (sym (node.rolls-Procedure at p)) ∙ fold-roll-TypeNode Bool Bool Bool (Bool × ℕ) node_layer fields_layer parameters_layer section_layer (TypeNode-F.Procedure at p)

named_is : (q : Qualident) → type_named (node.Named q) ≡ true
named_is q = ap type_named (sym (node.rolls-Named q)) ∙ fold-roll-TypeNode Bool Bool Bool (Bool × ℕ) node_layer fields_layer parameters_layer section_layer (TypeNode-F.Named q)

fields_are : (l : FieldList-F TypeNode FieldList FormalPars Section) → fields_named (roll-FieldList l) ≡ are_words (map (λ (d : IdentDef). d.ident.name) l.names) && type_named l.node
fields_are l = fold-roll-FieldList Bool Bool Bool (Bool × ℕ) node_layer fields_layer parameters_layer section_layer l

parameters_are : (p : FormalPars-F TypeNode FieldList FormalPars Section) → parameters_named (roll-FormalPars p) ≡ all_true (map (λ s. s.0) (map section_named p.sections)) && nat_le (sum_of (λ (s : Bool × ℕ). s.1) (map section_named p.sections)) 4294967295
parameters_are p = fold-roll-FormalPars Bool Bool Bool (Bool × ℕ) node_layer fields_layer parameters_layer section_layer p

section_is : (x : Section-F TypeNode FieldList FormalPars Section) → section_named (roll-Section x) ≡ (are_words (map (λ (i : Ident). i.name) x.names) && type_named x.node, length x.names)
section_is x = fold-roll-Section Bool Bool Bool (Bool × ℕ) node_layer fields_layer parameters_layer section_layer x

constant_is : (n : IdentDef) (x : Expr) → decl_named (d.Constant n x) ≡ is_word n.ident.name
constant_is n x = ap decl_named (sym (d.rolls-Constant n x)) ∙ fold-roll-Decl Bool decl_layer (Decl-F.Constant n x)

type_is : (n : IdentDef) (x : TypeNode) → decl_named (d.NamedType n x) ≡ is_word n.ident.name && type_named x
type_is n x = ap decl_named (sym (d.rolls-NamedType n x)) ∙ fold-roll-Decl Bool decl_layer (Decl-F.NamedType n x)

variables_are : (ns : List IdentDef) (x : TypeNode) → decl_named (d.Variables ns x) ≡ are_words (map (λ (n : IdentDef). n.ident.name) ns) && type_named x
variables_are ns x = ap decl_named (sym (d.rolls-Variables ns x)) ∙ fold-roll-Decl Bool decl_layer (Decl-F.Variables ns x)

procedure_decl_is : (h : Heading) (ds : List Decl) (body : List Stmt) (c : Ident) → decl_named (d.Procedure h ds body c) ≡ is_word h.name.ident.name && (parameters_named h.parameters && all_true (map decl_named ds))
procedure_decl_is h ds body c = ap decl_named (sym (d.rolls-Procedure h ds body c)) ∙ fold-roll-Decl Bool decl_layer (Decl-F.Procedure h ds body c)

forward_is : (h : Heading) → decl_named (d.Forward h) ≡ is_word h.name.ident.name && parameters_named h.parameters
forward_is h = ap decl_named (sym (d.rolls-Forward h)) ∙ fold-roll-Decl Bool decl_layer (Decl-F.Forward h)

-- ---- lists

all_of : {A : Type 0} (f : A → Bool) (xs : List A) → AllByRecursion (λ x. f x ≡ true) xs → all_true (map f xs) ≡ true
all_of f [] h = refl
all_of f (x ∷ xs) h = both_true (f x) (all_true (map f xs)) h.0 (all_of f xs h.1)

all_joined : {A : Type 0} (P : A → Type 0) (xss : List (List A)) → AllByRecursion (λ xs. AllByRecursion P xs) xss → AllByRecursion P (joined xss)
all_joined P [] h = tt
all_joined P (xs ∷ xss) h = all_both P xs (joined xss) h.0 (all_joined P xss h.1)

-- ---- phrases

-- types and procedures have named names
abbrev PN : (n : Nest) → Tree n → Type 0
PN AnExpr x = Unit {0}
PN AType x = type_named x ≡ true
PN Statements x = Unit {0}
PN Negated x = Unit {0}
PN Procedure x = decl_named x ≡ true

abbrev H : {A : Type 0} → Phrase A → A → Type 0
H p x = Holds IsNamedToken PN 4294967295 p x

ident_word : (i : Ident) → H ident i → is_word i.name ≡ true
ident_word i h =
    let t : Token = h.0 in
    subst (λ (j : Ident). is_word j.name ≡ true) h.1 (identifier_word t.text.now (h.2.1 (named (sym h.2.0))))
  where
    named : {x : Symbol} → s.Ident ≡ x → is_name (Some x) ≡ true
    named e = subst (λ (x : Symbol). is_name (Some x) ≡ true) e refl

def_ident : (i : Ident) (o : Option Token) → is_word i.name ≡ true → is_word (ident_def_of (i, o)).ident.name ≡ true
def_ident i None e = e
def_ident i (Some t) e = e

def_word : (n : IdentDef) → H ident_def n → is_word n.ident.name ≡ true
def_word n h = subst (λ (n : IdentDef). is_word n.ident.name ≡ true) h.1 (def_ident h.0.0 h.0.1 (ident_word h.0.0 h.2.0))

words_true : {A : Type 0} (name : A → List ℕ) (xs : List A) → AllByRecursion (λ x. is_word (name x) ≡ true) xs → list_all is_word (map name xs) ≡ true
words_true name [] h = refl
words_true name (x ∷ xs) h = both_true (is_word (name x)) (list_all is_word (map name xs)) h.0 (words_true name xs h.1)

-- items with symbols between them
next_all : {A : Type 0} (by : Symbol) (p : Phrase A) (Q : A → Type 0) → ((x : A) → H p x → Q x) → (xs : List A) → AllByRecursion (λ x. H (next_of by p) x) xs → AllByRecursion Q xs
next_all by p Q f [] h = tt
next_all by p Q f (x ∷ xs) h = (subst Q h.0.1 (f h.0.0.1 h.0.2.1), next_all by p Q f xs h.1)

separated_all : {A : Type 0} (by : Symbol) (p : Phrase A) (Q : A → Type 0) → ((x : A) → H p x → Q x) → (xs : List A) → H (separated by p) xs → AllByRecursion Q xs
separated_all by p Q f xs h = subst (AllByRecursion Q) h.1 (f h.0.0 h.2.0, next_all by p Q f h.0.1 h.2.1)

list_words : (ds : List IdentDef) → H ident_list ds → are_words (map (λ (n : IdentDef). n.ident.name) ds) ≡ true
list_words ds h =
    let name : IdentDef → List ℕ = λ n. n.ident.name in
    subst (λ (ds : List IdentDef). are_words (map (λ (n : IdentDef). n.ident.name) ds) ≡ true) h.1
    (both_true (is_word h.0.0.ident.name) (list_all is_word (map name h.0.1)) (def_word h.0.0 h.2.0) (words_true name h.0.1 (next_all s.Comma ident_def (λ n. is_word n.ident.name ≡ true) def_word h.0.1 h.2.1)))

idents_words : (xs : List Ident) → H (separated s.Comma ident) xs → are_words (map (λ (x : Ident). x.name) xs) ≡ true
idents_words xs h =
    let name : Ident → List ℕ = λ x. x.name in
    subst (λ (xs : List Ident). are_words (map (λ (x : Ident). x.name) xs) ≡ true) h.1
    (both_true (is_word h.0.0.name) (list_all is_word (map name h.0.1)) (ident_word h.0.0 h.2.0) (words_true name h.0.1 (next_all s.Comma ident (λ x. is_word x.name ≡ true) ident_word h.0.1 h.2.1)))

-- ---- types

section_named_is : (x : Section) → H section x → (section_named x).0 ≡ true
section_named_is x h =
    let y = h.0 in
    subst (λ (x : Section). (section_named x).0 ≡ true) h.1
    (ap (λ (s : Bool × ℕ). s.0) (section_is (record { is_var = y.0; names = y.1.0; node = y.1.1.1 })) ∙ both_true (are_words (map (λ (i : Ident). i.name) y.1.0)) (type_named y.1.1.1) (idents_words y.1.0 h.2.1.0) h.2.1.1.1)

sections_all : (o : Option (List Section)) → IfSome o (λ xs. H sections xs) → AllByRecursion (λ x. (section_named x).0 ≡ true) (list_of o)
sections_all None h = tt
sections_all (Some xs) h = separated_all s.Semicolon section (λ x. (section_named x).0 ≡ true) section_named_is xs h

firsts : (xs : List Section) → AllByRecursion (λ x. (section_named x).0 ≡ true) xs → all_true (map (λ (s : Bool × ℕ). s.0) (map section_named xs)) ≡ true
firsts [] h = refl
firsts (x ∷ xs) h = both_true (section_named x).0 (all_true (map (λ (s : Bool × ℕ). s.0) (map section_named xs))) h.0 (firsts xs h.1)

-- as few names as tokens
few_names : (xs : List Section) → (ts : Tokens) → length ts ≤ 4294967295 → spells_as Any (optional sections) xs ts → nat_le (sum_of (λ (s : Bool × ℕ). s.1) (map section_named xs)) 4294967295 ≡ true
few_names xs ts few h =
    let n = sections_count xs ts h in
    let m = sum_mapped section_named (λ (s : Bool × ℕ). s.1) xs in
    le-leb (sum_of (λ (s : Bool × ℕ). s.1) (map section_named xs)) 4294967295 (omega (arith, n, m, few))

formal_named : (p : FormalPars) → H formal_pars p → parameters_named p ≡ true
formal_named p h =
    let y = h.0 in
    let k = h.2.1.0 in
    let all : AllByRecursion (λ x. (section_named x).0 ≡ true) y.1.0 = subst (AllByRecursion (λ x. (section_named x).0 ≡ true)) k.1 (sections_all k.0 k.2) in
    let f = h.3 in
    let rest = f.2.4 in
    let a = ap length f.2.2 ∙ length-append f.2.0 f.2.1 in
    let b = ap length rest.2 ∙ length-append rest.0 rest.1 in
    let c = f.1 in
    subst (λ (p : FormalPars). parameters_named p ≡ true) h.1
    (parameters_are (record { sections = y.1.0; result_type = y.1.1.1 }) ∙ both_true (all_true (map (λ (s : Bool × ℕ). s.0) (map section_named y.1.0))) (nat_le (sum_of (λ (s : Bool × ℕ). s.1) (map section_named y.1.0)) 4294967295) (firsts y.1.0 all) (few_names y.1.0 rest.0 (omega (arith, a, b, c)) rest.3))

none_named : parameters_named (parameters_of None) ≡ true
none_named = parameters_are (record { sections = []; result_type = None }) ∙ le-leb 0 4294967295 (omega arith)

of_named : (o : Option FormalPars) → IfSome o (λ p. H formal_pars p) → parameters_named (parameters_of o) ≡ true
of_named None h = none_named
of_named (Some p) h = formal_named p h

parameters_named_is : (p : FormalPars) → H parameters p → parameters_named p ≡ true
parameters_named_is p h = subst (λ (p : FormalPars). parameters_named p ≡ true) h.1 (of_named h.0 h.2)

fields_named_is : (l : FieldList) → H fields l → fields_named l ≡ true
fields_named_is l h =
    let y = h.0 in
    subst (λ (l : FieldList). fields_named l ≡ true) h.1
    (fields_are (record { names = y.0; node = y.1.1 }) ∙ both_true (are_words (map (λ (n : IdentDef). n.ident.name) y.0)) (type_named y.1.1) (list_words y.0 h.2.0) h.2.1.1)

field_list_all : (ls : List FieldList) → H field_list ls → AllByRecursion (λ l. fields_named l ≡ true) ls
field_list_all ls h = subst (AllByRecursion (λ l. fields_named l ≡ true)) h.1 (go h.0 h.2)
  where
    go : (o : Option FieldList) → IfSome o (λ l. H fields l) → AllByRecursion (λ l. fields_named l ≡ true) (option_to_list o)
    go None k = tt
    go (Some l) k = (fields_named_is l k, tt)

field_lists_all : (ls : List FieldList) → H field_lists ls → AllByRecursion (λ l. fields_named l ≡ true) ls
field_lists_all ls h = subst (AllByRecursion (λ l. fields_named l ≡ true)) h.1 (all_joined (λ l. fields_named l ≡ true) h.0 (separated_all s.Semicolon field_list (λ ls. AllByRecursion (λ l. fields_named l ≡ true) ls) field_list_all h.0 h.2))

type_named_is : (x : TypeNode) → H type_node x → type_named x ≡ true
type_named_is x (inl h) = subst (λ (x : TypeNode). type_named x ≡ true) h.1 (named_is h.0)
type_named_is x (inr (inl h)) = let y = h.0 in subst (λ (x : TypeNode). type_named x ≡ true) h.1 (array_is y.0.pos y.1.0 y.1.1.1 ∙ h.2.1.1.1)
type_named_is x (inr (inr (inl h))) = let y = h.0 in subst (λ (x : TypeNode). type_named x ≡ true) h.1 (record_is y.0.pos y.1.0 y.1.1.0 ∙ all_of fields_named y.1.1.0 (field_lists_all y.1.1.0 h.2.1.1.0))
type_named_is x (inr (inr (inr (inl h)))) = let y = h.0 in subst (λ (x : TypeNode). type_named x ≡ true) h.1 (pointer_is y.0.pos y.1.1 ∙ h.2.1.1)
type_named_is x (inr (inr (inr (inr h)))) = let y = h.0 in subst (λ (x : TypeNode). type_named x ≡ true) h.1 (procedure_is y.0.pos y.1 ∙ parameters_named_is y.1 h.2.1)

-- ---- declarations

constant_named_is : (x : Decl) → H constant x → decl_named x ≡ true
constant_named_is x h = let y = h.0 in subst (λ (x : Decl). decl_named x ≡ true) h.1 (constant_is y.0 y.1.1.0 ∙ def_word y.0 h.2.0)

named_type_is : (x : Decl) → H named_type x → decl_named x ≡ true
named_type_is x h = let y = h.0 in subst (λ (x : Decl). decl_named x ≡ true) h.1 (type_is y.0 y.1.1.0 ∙ both_true (is_word y.0.ident.name) (type_named y.1.1.0) (def_word y.0 h.2.0) h.2.1.1.0)

variables_named_is : (x : Decl) → H variables x → decl_named x ≡ true
variables_named_is x h = let y = h.0 in subst (λ (x : Decl). decl_named x ≡ true) h.1 (variables_are y.0 y.1.1.0 ∙ both_true (are_words (map (λ (n : IdentDef). n.ident.name) y.0)) (type_named y.1.1.0) (list_words y.0 h.2.0) h.2.1.1.0)

-- a heading is named by a word, and its parameters by words
abbrev IsWorded : Heading → Type 0
IsWorded x = (is_word x.name.ident.name ≡ true) × (parameters_named x.parameters ≡ true)

heading_worded : (x : Heading) → H heading x → IsWorded x
heading_worded x h = let y = h.0 in subst IsWorded h.1 (def_word y.1.0 h.2.1.0, parameters_named_is y.1.1 h.2.1.1)

forward_named_is : (x : Decl) → H forward x → decl_named x ≡ true
forward_named_is x h =
    let y = h.0 in
    let k = heading_worded y.1 h.2.1 in
    subst (λ (x : Decl). decl_named x ≡ true) h.1 (forward_is y.1 ∙ both_true (is_word y.1.name.ident.name) (parameters_named y.1.parameters) k.0 k.1)

abbrev AllDecls : List Decl → Type 0
AllDecls ds = AllByRecursion (λ x. decl_named x ≡ true) ds

block_named_is : (ds : List Decl) → H block ds → AllDecls ds
block_named_is ds (inl h) = subst AllDecls h.1 (all_from (λ x. H constant x) (λ x. decl_named x ≡ true) constant_named_is h.0.1 h.2.1)
block_named_is ds (inr (inl h)) = subst AllDecls h.1 (all_from (λ x. H named_type x) (λ x. decl_named x ≡ true) named_type_is h.0.1 h.2.1)
block_named_is ds (inr (inr h)) = subst AllDecls h.1 (all_from (λ x. H variables x) (λ x. decl_named x ≡ true) variables_named_is h.0.1 h.2.1)

item_named_is : (x : Decl) → H procedure_item x → decl_named x ≡ true
item_named_is x h = subst (λ (x : Decl). decl_named x ≡ true) h.1 (go h.0.0 h.2.0)
  where
    go : (x : Decl) → (decl_named x ≡ true) ⊎ H forward x → decl_named x ≡ true
    go x (inl k) = k
    go x (inr k) = forward_named_is x k

declarations_named_is : (ds : List Decl) → H declarations ds → AllDecls ds
declarations_named_is ds h =
    let y = h.0 in
    let b = h.2.0 in
    let first : AllDecls y.0 = subst AllDecls b.1 (all_joined (λ x. decl_named x ≡ true) b.0 (all_from (λ ds. H block ds) AllDecls block_named_is b.0 b.2)) in
    subst AllDecls h.1 (all_both (λ x. decl_named x ≡ true) y.0 y.1 first (all_from (λ x. H procedure_item x) (λ x. decl_named x ≡ true) item_named_is y.1 h.2.1))

procedure_named_is : (x : Decl) → H procedure x → decl_named x ≡ true
procedure_named_is x h =
    let y = h.0 in
    let k = heading_worded y.0 h.2.0 in
    subst (λ (x : Decl). decl_named x ≡ true) h.1
    (procedure_decl_is y.0 y.1.1.0 y.1.1.1.0 y.1.1.1.1.1
    ∙ both_true (is_word y.0.name.ident.name) (parameters_named y.0.parameters && all_true (map decl_named y.1.1.0)) k.0 (both_true (parameters_named y.0.parameters) (all_true (map decl_named y.1.1.0)) k.1 (all_of decl_named y.1.1.0 (declarations_named_is y.1.1.0 h.2.1.1.0))))

-- ---- within any number of levels

rules : (n : Nest) (x : Tree n) → H (rule n) x → PN n x
rules AnExpr x h = tt
rules AType x h = type_named_is x h
rules Statements x h = tt
rules Negated x h = tt
rules Procedure x h = procedure_named_is x h

void : (n : Nest) (x : Tree n) → IsVoid n x → PN n x
void AnExpr x h = tt
void AType x h = absurd h
void Statements x h = tt
void Negated x h = tt
void Procedure x h = absurd h

abbrev AreNamed : Tokens → Type 0
AreNamed ts = AllByRecursion IsNamedToken ts × (length ts ≤ 4294967295)

nested : (d : ℕ) (n : Nest) (x : Tree n) (ts : Tokens) → AreNamed ts → spells d n x ts → PN n x
nested zero n x ts all h = void n x h.1
nested (suc d) n x ts all h = rules n x (holds IsNamedToken PN 4294967295 (spells d) (λ n x ts a k. nested d n x ts a k) (rule n) x ts all h)

-- ---- a module

module_named : (m : Module) → H «module» m → tree_named m ≡ true
module_named m h = let y = h.0 in subst (λ (m : Module). tree_named m ≡ true) h.1 (all_of decl_named y.1.1.1.1.0 (declarations_named_is y.1.1.1.1.0 h.2.1.1.1.1.0))

abbrev NamedBy : Result Module NoModule → Type 0
NamedBy (Ok tree) = tree_named tree ≡ true
NamedBy (Err f) = Unit {0}

left_part : (a b ts : Tokens) → ts ≡ a ++ b → AreNamed ts → AreNamed a
left_part a b ts e all = (go a (subst (AllByRecursion IsNamedToken) e all.0), let n = ap length e ∙ length-append a b in let m = all.1 in omega (arith, n, m))
  where
    go : (a : Tokens) → AllByRecursion IsNamedToken (a ++ b) → AllByRecursion IsNamedToken a
    go [] all = tt
    go (t ∷ a) all = (all.0, go a all.1)

parsed_named : (d : ℕ) (ts : Tokens) (r : Read Module) → AreNamed ts → reads d «module» ts ≡ r → NamedBy (parsed r)
parsed_named d ts (Found m rest) all e =
    let v = verdict d ts (Found m rest) e in
    module_named m (holds IsNamedToken PN 4294967295 (spells d) (λ n x ts a k. nested d n x ts a k) «module» m v.0 (left_part v.0 rest ts v.1 all) v.2)
parsed_named d ts (Fails Wrong rest) all e = tt
parsed_named d ts (Fails Deep rest) all e = tt

-- no more tokens than so many
tokens_few : (k : ℕ) (i : Input) → length (tokens_in k i) ≤ k
tokens_few zero i = omega arith
tokens_few (suc k) i = go (step i) (λ j. tokens_few k j)
  where
    ends : (b : Bool) (ts : Tokens) → length ts ≤ k → length (cond b [] ts) ≤ k
    ends true ts h = omega arith
    ends false ts h = h

    go : (r : Step) → ((j : Input) → length (tokens_in k j) ≤ k) → length (listed r (λ j. tokens_in k j)) ≤ suc k
    go (Gives l j) more = let n = ends (same l.symbol s.End) (tokens_in k j) (more j) in omega (arith, n)
    go (Faults f) more = omega arith

fault_named : (o : Option ScanFault) (i : Input) → length i.text < 4294967295 → NamedBy (by_fault o i)
fault_named (Some f) i few = tt
fault_named None i few =
    let n = tokens_few (suc (length i.text)) i in
    parsed_named limit (tokens_of i) (reads limit «module» (tokens_of i)) (tokens_named (suc (length i.text)) i, omega (arith, n, few)) refl

reading_named : (text : List ℕ) → length text < 4294967295 → NamedBy (reading text)
unfolding reading
reading_named text few = fault_named (fault_of (start_of text)) (start_of text) few

-- WHAT IS READ IS NAMED BY WORDS
pub readings_are_worded : ReadingsAreWorded
readings_are_worded text tree few e = subst NamedBy e (reading_named text few)
