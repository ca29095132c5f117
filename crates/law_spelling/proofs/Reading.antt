-- The names of a module that is read are identifiers.
use Rattle.std.proofs.Common.{◌≡◌, ◌⊎◌, inl, inr, ℕ, zero, suc, Bool, true, List, [], ◌∷◌, ◌++◌, length, map, Option, Some, None, Result, Ok, Err, refl, sym, ap, subst, ◌∙◌}
use Rattle.std.specs.Prelude.{◌&&◌, IfSome, option_to_list}
use Rattle.std.specs.List.{AllByRecursion}
use Rattle.ob_tree.specs.declared.symbol.Symbol.{Symbol}
use Rattle.ob_tree.specs.declared.symbol.Symbol.TheVariants as s
use Rattle.ob_tree.specs.declared.token.Token.{Token}
use Rattle.ob_tree.specs.declared.pos.Pos.{Pos}
use Rattle.ob_tree.specs.declared.ident.Ident.{Ident}
use Rattle.ob_tree.specs.declared.ident.IdentDef.{IdentDef}
use Rattle.ob_tree.specs.declared.ident.Import.{Import}
use Rattle.ob_tree.specs.declared.ident.Qualident.{Qualident}
use Rattle.ob_tree.specs.declared.expr.Expr.{Expr}
use Rattle.ob_tree.specs.declared.stmt.Stmt.{Stmt}
use Rattle.ob_tree.specs.declared.type_node.TypeNode.{TypeNode}
use Rattle.ob_tree.specs.declared.type_node.TypeNode.TheVariants as node
use Rattle.ob_tree.specs.declared.type_node.FieldList.{FieldList, roll-FieldList}
use Rattle.ob_tree.specs.declared.type_node.FormalPars.{FormalPars, roll-FormalPars}
use Rattle.ob_tree.specs.declared.type_node.Section.{Section, roll-Section}
use Rattle.ob_tree.specs.declared.type_node.TypeNode.TheOpen.{TypeNode-F, FieldList-F, FormalPars-F, Section-F}
use Rattle.ob_tree.specs.declared.type_node.TypeNode.TheFolds.{fold-roll-TypeNode, fold-roll-FieldList, fold-roll-FormalPars, fold-roll-Section}
use Rattle.ob_tree.specs.declared.decl.Heading.{Heading}
use Rattle.ob_tree.specs.declared.decl.Decl.{Decl}
use Rattle.ob_tree.specs.declared.decl.Decl.TheVariants as d
use Rattle.ob_tree.specs.declared.decl.Decl.TheOpen.{Decl-F}
use Rattle.ob_tree.specs.declared.decl.Decl.TheFolds.{fold-roll-Decl}
use Rattle.ob_tree.specs.declared.decl.Module.{Module as Module}
use Rattle.ob_scan.specs.declared.fault.ScanFault.{ScanFault}
use Rattle.ob_scan.specs.Scanning.{Input, start_of}
use Rattle.ob_parse_grammar.specs.Phrase.{Tokens, Nest, AnExpr, AType, Statements, Negated, Procedure, Tree, Phrase}
use Rattle.ob_parse_grammar.specs.Expressions.{next_of, list_of, joined, ident, ident_def_of, ident_def, ident_list, separated}
use Rattle.ob_parse_grammar.specs.Types.{section, sections, formal_pars, parameters_of, parameters, fields, field_list, field_lists, type_node}
use Rattle.ob_parse_grammar.specs.Declarations.{constant, named_type, variables, block, heading, forward, procedure_item, declarations, procedure, import_item, imports, «module»}
use Rattle.ob_parse_grammar.specs.Reading.{Read, Found, Fails, Wrong, Deep}
use Rattle.ob_parse_grammar.specs.Grammar.{rule, IsVoid, reads, spells}
use Rattle.ob_parse_grammar.proofs.Verdicts.{verdict}
use Rattle.ob_parse_grammar.specs.Depth.{limit}
use Rattle.ob_parse_grammar.specs.Texts.{tokens_of}
use Rattle.ob_parse_grammar.specs.TextReading.{NoModule, fault_of, parsed, by_fault, reading}
use Rattle.ob_format.specs.Names.{is_identifier}
use Rattle.ob_compile_model.specs.Compiling.{target_of, imported}
use Rattle.law_spelling.specs.Raw.{all_true, is_named, all_named, are_named, node_layer, fields_layer, parameters_layer, section_layer, type_named, fields_named, parameters_named, section_named, heading_named, decl_layer, decl_named, IsNamedTree, ReadingsAreNamed}
use Rattle.law_spelling.proofs.Phrases.{Holds, holds}
use Rattle.law_spelling.proofs.Tokens.{is_name, IsNamedToken, tokens_named}
use Rattle.law_lists.proofs.Lists.{all_both, all_from, both_true}

-- ---- folds of what the grammar makes

array_is : (at : Pos) (ls : List Expr) (e : TypeNode) → type_named (node.Array at ls e) ≡ type_named e
array_is at ls e = ap type_named (sym (node.rolls-Array at ls e)) ∙ fold-roll-TypeNode Bool Bool Bool Bool node_layer fields_layer parameters_layer section_layer (TypeNode-F.Array at ls e)

record_is : (at : Pos) (b : Option Qualident) (fs : List FieldList) → type_named (node.Record at b fs) ≡ all_true (map fields_named fs)
record_is at b fs = ap type_named (sym (node.rolls-Record at b fs)) ∙ fold-roll-TypeNode Bool Bool Bool Bool node_layer fields_layer parameters_layer section_layer (TypeNode-F.Record at b fs)

pointer_is : (at : Pos) (e : TypeNode) → type_named (node.Pointer at e) ≡ type_named e
pointer_is at e = ap type_named (sym (node.rolls-Pointer at e)) ∙ fold-roll-TypeNode Bool Bool Bool Bool node_layer fields_layer parameters_layer section_layer (TypeNode-F.Pointer at e)

procedure_is : (at : Pos) (p : FormalPars) → type_named (node.Procedure at p) ≡ parameters_named p
procedure_is at p = ap type_named (sym (node.rolls-Procedure at p)) ∙ fold-roll-TypeNode Bool Bool Bool Bool node_layer fields_layer parameters_layer section_layer (TypeNode-F.Procedure at p)

named_is : (q : Qualident) → type_named (node.Named q) ≡ true
named_is q = ap type_named (sym (node.rolls-Named q)) ∙ fold-roll-TypeNode Bool Bool Bool Bool node_layer fields_layer parameters_layer section_layer (TypeNode-F.Named q)

fields_are : (l : FieldList-F TypeNode FieldList FormalPars Section) → fields_named (roll-FieldList l) ≡ are_named l.names && type_named l.node
fields_are l = fold-roll-FieldList Bool Bool Bool Bool node_layer fields_layer parameters_layer section_layer l

parameters_are : (p : FormalPars-F TypeNode FieldList FormalPars Section) → parameters_named (roll-FormalPars p) ≡ all_true (map section_named p.sections)
parameters_are p = fold-roll-FormalPars Bool Bool Bool Bool node_layer fields_layer parameters_layer section_layer p

section_is : (x : Section-F TypeNode FieldList FormalPars Section) → section_named (roll-Section x) ≡ type_named x.node
section_is x = fold-roll-Section Bool Bool Bool Bool node_layer fields_layer parameters_layer section_layer x

constant_is : (n : IdentDef) (x : Expr) → decl_named (d.Constant n x) ≡ is_named n
constant_is n x = ap decl_named (sym (d.rolls-Constant n x)) ∙ fold-roll-Decl Bool decl_layer (Decl-F.Constant n x)

type_is : (n : IdentDef) (x : TypeNode) → decl_named (d.NamedType n x) ≡ is_named n && type_named x
type_is n x = ap decl_named (sym (d.rolls-NamedType n x)) ∙ fold-roll-Decl Bool decl_layer (Decl-F.NamedType n x)

variables_are : (ns : List IdentDef) (x : TypeNode) → decl_named (d.Variables ns x) ≡ are_named ns && type_named x
variables_are ns x = ap decl_named (sym (d.rolls-Variables ns x)) ∙ fold-roll-Decl Bool decl_layer (Decl-F.Variables ns x)

procedure_decl_is : (h : Heading) (ds : List Decl) (body : List Stmt) (c : Ident) → decl_named (d.Procedure h ds body c) ≡ heading_named h && all_true (map decl_named ds)
procedure_decl_is h ds body c = ap decl_named (sym (d.rolls-Procedure h ds body c)) ∙ fold-roll-Decl Bool decl_layer (Decl-F.Procedure h ds body c)

forward_is : (h : Heading) → decl_named (d.Forward h) ≡ heading_named h
forward_is h = ap decl_named (sym (d.rolls-Forward h)) ∙ fold-roll-Decl Bool decl_layer (Decl-F.Forward h)

-- ---- lists

all_of : {A : Type 0} (f : A → Bool) (xs : List A) → AllByRecursion (λ x. f x ≡ true) xs → all_true (map f xs) ≡ true
all_of f [] h = refl
all_of f (x ∷ xs) h = both_true (f x) (all_true (map f xs)) h.0 (all_of f xs h.1)

all_joined : {A : Type 0} (P : A → Type 0) (xss : List (List A)) → AllByRecursion (λ xs. AllByRecursion P xs) xss → AllByRecursion P (joined xss)
all_joined P [] h = tt
all_joined P (xs ∷ xss) h = all_both P xs (joined xss) h.0 (all_joined P xss h.1)

names_true : (ds : List IdentDef) → AllByRecursion (λ n. is_named n ≡ true) ds → all_named ds ≡ true
names_true [] h = refl
names_true (n ∷ ds) h = both_true (is_named n) (all_named ds) h.0 (names_true ds h.1)

-- ---- phrases

-- types and procedures have named names
abbrev PN : (n : Nest) → Tree n → Type 0
PN AnExpr x = Unit {0}
PN AType x = type_named x ≡ true
PN Statements x = Unit {0}
PN Negated x = Unit {0}
PN Procedure x = decl_named x ≡ true

abbrev H : {A : Type 0} → Phrase A → A → Type 0
H p x = Holds IsNamedToken PN p x

ident_named : (i : Ident) → H ident i → is_identifier i.name ≡ true
ident_named i h =
    let t : Token = h.0 in
    subst (λ (j : Ident). is_identifier j.name ≡ true) h.1 (h.2.1 (named (sym h.2.0)))
  where
    named : {x : Symbol} → s.Ident ≡ x → is_name (Some x) ≡ true
    named e = subst (λ (x : Symbol). is_name (Some x) ≡ true) e refl

def_ident : (i : Ident) (o : Option Token) → is_identifier i.name ≡ true → is_named (ident_def_of (i, o)) ≡ true
def_ident i None e = e
def_ident i (Some t) e = e

def_named : (n : IdentDef) → H ident_def n → is_named n ≡ true
def_named n h = subst (λ (n : IdentDef). is_named n ≡ true) h.1 (def_ident h.0.0 h.0.1 (ident_named h.0.0 h.2.0))

-- items with symbols between them
next_all : {A : Type 0} (by : Symbol) (p : Phrase A) (Q : A → Type 0) → ((x : A) → H p x → Q x) → (xs : List A) → AllByRecursion (λ x. H (next_of by p) x) xs → AllByRecursion Q xs
next_all by p Q f [] h = tt
next_all by p Q f (x ∷ xs) h = (subst Q h.0.1 (f h.0.0.1 h.0.2.1), next_all by p Q f xs h.1)

separated_all : {A : Type 0} (by : Symbol) (p : Phrase A) (Q : A → Type 0) → ((x : A) → H p x → Q x) → (xs : List A) → H (separated by p) xs → AllByRecursion Q xs
separated_all by p Q f xs h = subst (AllByRecursion Q) h.1 (f h.0.0 h.2.0, next_all by p Q f h.0.1 h.2.1)

list_named : (ds : List IdentDef) → H ident_list ds → are_named ds ≡ true
list_named ds h =
    subst (λ (ds : List IdentDef). are_named ds ≡ true) h.1
    (both_true (is_named h.0.0) (all_named h.0.1) (def_named h.0.0 h.2.0) (names_true h.0.1 (next_all s.Comma ident_def (λ n. is_named n ≡ true) def_named h.0.1 h.2.1)))

-- ---- types

section_named_is : (x : Section) → H section x → section_named x ≡ true
section_named_is x h =
    let y = h.0 in
    subst (λ (x : Section). section_named x ≡ true) h.1
    (section_is (record { is_var = y.0; names = y.1.0; node = y.1.1.1 }) ∙ h.2.1.1.1)

sections_all : (o : Option (List Section)) → IfSome o (λ xs. H sections xs) → AllByRecursion (λ x. section_named x ≡ true) (list_of o)
sections_all None h = tt
sections_all (Some xs) h = separated_all s.Semicolon section (λ x. section_named x ≡ true) section_named_is xs h

formal_named : (p : FormalPars) → H formal_pars p → parameters_named p ≡ true
formal_named p h =
    let y = h.0 in
    let k = h.2.1.0 in
    let all : AllByRecursion (λ x. section_named x ≡ true) y.1.0 = subst (AllByRecursion (λ x. section_named x ≡ true)) k.1 (sections_all k.0 k.2) in
    subst (λ (p : FormalPars). parameters_named p ≡ true) h.1
    (parameters_are (record { sections = y.1.0; result_type = y.1.1.1 }) ∙ all_of section_named y.1.0 all)

none_named : parameters_named (parameters_of None) ≡ true
none_named = parameters_are (record { sections = []; result_type = None })

of_named : (o : Option FormalPars) → IfSome o (λ p. H formal_pars p) → parameters_named (parameters_of o) ≡ true
of_named None h = none_named
of_named (Some p) h = formal_named p h

parameters_named_is : (p : FormalPars) → H parameters p → parameters_named p ≡ true
parameters_named_is p h = subst (λ (p : FormalPars). parameters_named p ≡ true) h.1 (of_named h.0 h.2)

fields_named_is : (l : FieldList) → H fields l → fields_named l ≡ true
fields_named_is l h =
    let y = h.0 in
    subst (λ (l : FieldList). fields_named l ≡ true) h.1
    (fields_are (record { names = y.0; node = y.1.1 }) ∙ both_true (are_named y.0) (type_named y.1.1) (list_named y.0 h.2.0) h.2.1.1)

field_list_all : (ls : List FieldList) → H field_list ls → AllByRecursion (λ l. fields_named l ≡ true) ls
field_list_all ls h = subst (AllByRecursion (λ l. fields_named l ≡ true)) h.1 (go h.0 h.2)
  where
    go : (o : Option FieldList) → IfSome o (λ l. H fields l) → AllByRecursion (λ l. fields_named l ≡ true) (option_to_list o)
    go None k = tt
    go (Some l) k = (fields_named_is l k, tt)

field_lists_all : (ls : List FieldList) → H field_lists ls → AllByRecursion (λ l. fields_named l ≡ true) ls
field_lists_all ls h = subst (AllByRecursion (λ l. fields_named l ≡ true)) h.1 (all_joined (λ l. fields_named l ≡ true) h.0 (separated_all s.Semicolon field_list (λ ls. AllByRecursion (λ l. fields_named l ≡ true) ls) field_list_all h.0 h.2))

type_named_is : (x : TypeNode) → H type_node x → type_named x ≡ true
type_named_is x (inl h) = subst (λ (x : TypeNode). type_named x ≡ true) h.1 (named_is h.0)
type_named_is x (inr (inl h)) = let y = h.0 in subst (λ (x : TypeNode). type_named x ≡ true) h.1 (array_is y.0.pos y.1.0 y.1.1.1 ∙ h.2.1.1.1)
type_named_is x (inr (inr (inl h))) = let y = h.0 in subst (λ (x : TypeNode). type_named x ≡ true) h.1 (record_is y.0.pos y.1.0 y.1.1.0 ∙ all_of fields_named y.1.1.0 (field_lists_all y.1.1.0 h.2.1.1.0))
type_named_is x (inr (inr (inr (inl h)))) = let y = h.0 in subst (λ (x : TypeNode). type_named x ≡ true) h.1 (pointer_is y.0.pos y.1.1 ∙ h.2.1.1)
type_named_is x (inr (inr (inr (inr h)))) = let y = h.0 in subst (λ (x : TypeNode). type_named x ≡ true) h.1 (procedure_is y.0.pos y.1 ∙ parameters_named_is y.1 h.2.1)

-- ---- declarations

constant_named_is : (x : Decl) → H constant x → decl_named x ≡ true
constant_named_is x h = let y = h.0 in subst (λ (x : Decl). decl_named x ≡ true) h.1 (constant_is y.0 y.1.1.0 ∙ def_named y.0 h.2.0)

named_type_is : (x : Decl) → H named_type x → decl_named x ≡ true
named_type_is x h = let y = h.0 in subst (λ (x : Decl). decl_named x ≡ true) h.1 (type_is y.0 y.1.1.0 ∙ both_true (is_named y.0) (type_named y.1.1.0) (def_named y.0 h.2.0) h.2.1.1.0)

variables_named_is : (x : Decl) → H variables x → decl_named x ≡ true
variables_named_is x h = let y = h.0 in subst (λ (x : Decl). decl_named x ≡ true) h.1 (variables_are y.0 y.1.1.0 ∙ both_true (are_named y.0) (type_named y.1.1.0) (list_named y.0 h.2.0) h.2.1.1.0)

heading_named_is : (x : Heading) → H heading x → heading_named x ≡ true
heading_named_is x h =
    let y = h.0 in
    subst (λ (x : Heading). heading_named x ≡ true) h.1 (both_true (is_named y.1.0) (parameters_named y.1.1) (def_named y.1.0 h.2.1.0) (parameters_named_is y.1.1 h.2.1.1))

forward_named_is : (x : Decl) → H forward x → decl_named x ≡ true
forward_named_is x h = let y = h.0 in subst (λ (x : Decl). decl_named x ≡ true) h.1 (forward_is y.1 ∙ heading_named_is y.1 h.2.1)

abbrev AllDecls : List Decl → Type 0
AllDecls ds = AllByRecursion (λ x. decl_named x ≡ true) ds

block_named_is : (ds : List Decl) → H block ds → AllDecls ds
block_named_is ds (inl h) = subst AllDecls h.1 (all_from (λ x. H constant x) (λ x. decl_named x ≡ true) constant_named_is h.0.1 h.2.1)
block_named_is ds (inr (inl h)) = subst AllDecls h.1 (all_from (λ x. H named_type x) (λ x. decl_named x ≡ true) named_type_is h.0.1 h.2.1)
block_named_is ds (inr (inr h)) = subst AllDecls h.1 (all_from (λ x. H variables x) (λ x. decl_named x ≡ true) variables_named_is h.0.1 h.2.1)

item_named_is : (x : Decl) → H procedure_item x → decl_named x ≡ true
item_named_is x h = subst (λ (x : Decl). decl_named x ≡ true) h.1 (go h.0.0 h.2.0)
  where
    go : (x : Decl) → (decl_named x ≡ true) ⊎ H forward x → decl_named x ≡ true
    go x (inl k) = k
    go x (inr k) = forward_named_is x k

declarations_named_is : (ds : List Decl) → H declarations ds → AllDecls ds
declarations_named_is ds h =
    let y = h.0 in
    let b = h.2.0 in
    let first : AllDecls y.0 = subst AllDecls b.1 (all_joined (λ x. decl_named x ≡ true) b.0 (all_from (λ ds. H block ds) AllDecls block_named_is b.0 b.2)) in
    subst AllDecls h.1 (all_both (λ x. decl_named x ≡ true) y.0 y.1 first (all_from (λ x. H procedure_item x) (λ x. decl_named x ≡ true) item_named_is y.1 h.2.1))

procedure_named_is : (x : Decl) → H procedure x → decl_named x ≡ true
procedure_named_is x h =
    let y = h.0 in
    subst (λ (x : Decl). decl_named x ≡ true) h.1
    (procedure_decl_is y.0 y.1.1.0 y.1.1.1.0 y.1.1.1.1.1 ∙ both_true (heading_named y.0) (all_true (map decl_named y.1.1.0)) (heading_named_is y.0 h.2.0) (all_of decl_named y.1.1.0 (declarations_named_is y.1.1.0 h.2.1.1.0)))

-- ---- within any number of levels

rules : (n : Nest) (x : Tree n) → H (rule n) x → PN n x
rules AnExpr x h = tt
rules AType x h = type_named_is x h
rules Statements x h = tt
rules Negated x h = tt
rules Procedure x h = procedure_named_is x h

void : (n : Nest) (x : Tree n) → IsVoid n x → PN n x
void AnExpr x h = tt
void AType x h = absurd h
void Statements x h = tt
void Negated x h = tt
void Procedure x h = absurd h

abbrev AreNamed : Tokens → Type 0
AreNamed ts = AllByRecursion IsNamedToken ts

nested : (d : ℕ) (n : Nest) (x : Tree n) (ts : Tokens) → AreNamed ts → spells d n x ts → PN n x
nested zero n x ts all h = void n x h.1
nested (suc d) n x ts all h = rules n x (holds IsNamedToken PN (spells d) (λ n x ts a k. nested d n x ts a k) (rule n) x ts all h)

-- ---- a module

target_named : (i : Ident) (o : Option Ident) → is_identifier i.name ≡ true → IfSome o (λ j. H (next_of s.Becomes ident) j) → is_identifier (target_of o i.name) ≡ true
target_named i None e h = e
target_named i (Some j) e h = subst (λ (k : Ident). is_identifier k.name ≡ true) h.1 (ident_named h.0.1 h.2.1)

abbrev IsNamedImport : Import → Type 0
IsNamedImport i = is_identifier (imported i) ≡ true

import_named : (i : Import) → H import_item i → IsNamedImport i
import_named i h = subst IsNamedImport h.1 (target_named h.0.0 h.0.1 (ident_named h.0.0 h.2.0) h.2.1)

imports_named : (o : Option (List Import)) → IfSome o (λ is. H imports is) → AllByRecursion IsNamedImport (list_of o)
imports_named None h = tt
imports_named (Some is) h = subst (AllByRecursion IsNamedImport) h.1 (separated_all s.Comma import_item IsNamedImport import_named h.0.1.0 h.2.1.0)

module_named : (m : Module) → H «module» m → IsNamedTree m
module_named m h =
    let y = h.0 in
    let k = h.2.1.1.1.0 in
    subst IsNamedTree h.1 (record {
      name = ident_named y.1.0 h.2.1.0;
      imports = subst (AllByRecursion IsNamedImport) k.1 (imports_named k.0 k.2);
      decls = declarations_named_is y.1.1.1.1.0 h.2.1.1.1.1.0;
    })

abbrev NamedBy : Result Module NoModule → Type 0
NamedBy (Ok tree) = IsNamedTree tree
NamedBy (Err f) = Unit {0}

left_part : (a b ts : Tokens) → ts ≡ a ++ b → AreNamed ts → AreNamed a
left_part a b ts e all = go a (subst AreNamed e all)
  where
    go : (a : Tokens) → AreNamed (a ++ b) → AreNamed a
    go [] all = tt
    go (t ∷ a) all = (all.0, go a all.1)

parsed_named : (d : ℕ) (ts : Tokens) (r : Read Module) → AreNamed ts → reads d «module» ts ≡ r → NamedBy (parsed r)
parsed_named d ts (Found m rest) all e =
    let v = verdict d ts (Found m rest) e in
    module_named m (holds IsNamedToken PN (spells d) (λ n x ts a k. nested d n x ts a k) «module» m v.0 (left_part v.0 rest ts v.1 all) v.2)
parsed_named d ts (Fails Wrong rest) all e = tt
parsed_named d ts (Fails Deep rest) all e = tt

fault_named : (o : Option ScanFault) (i : Input) → NamedBy (by_fault o i)
fault_named (Some f) i = tt
fault_named None i = parsed_named limit (tokens_of i) (reads limit «module» (tokens_of i)) (tokens_named (suc (length i.text)) i) refl

reading_named : (text : List ℕ) → NamedBy (reading text)
unfolding reading
reading_named text = fault_named (fault_of (start_of text)) (start_of text)

pub readings_named : ReadingsAreNamed
readings_named text tree e = subst NamedBy e (reading_named text)
