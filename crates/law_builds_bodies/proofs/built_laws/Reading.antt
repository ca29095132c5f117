-- The names of what is read begin with letters.
use Rattle.std.proofs.Common.{◌≡◌, ◌⊎◌, inl, inr, ℕ, zero, suc, ◌≤◌, Bool, true, false, List, [], ◌∷◌, ◌++◌, length, length-append, map, Option, Some, None, Result, Ok, Err, refl, sym, ap, subst, ◌∙◌, arith}
use Rattle.std.specs.Prelude.{◌&&◌, ◌==◌, not, nat_le, IfSome}
use Rattle.std.specs.List.{AllByRecursion, list_all}
use Rattle.std.specs.Char.{is_ascii_alphabetic, is_ascii_alphanumeric}
use Rattle.std.proofs.lemmas.Bool.{and_parts, eqb-true}
use Rattle.ob_tree.specs.declared.symbol.Symbol.{Symbol}
use Rattle.ob_tree.specs.declared.symbol.Symbol.TheVariants as s
use Rattle.ob_tree.specs.declared.token.Token.{Token}
use Rattle.ob_tree.specs.declared.ident.Ident.{Ident}
use Rattle.ob_tree.specs.declared.ident.IdentDef.{IdentDef}
use Rattle.ob_tree.specs.declared.expr.Expr.{Expr}
use Rattle.ob_tree.specs.declared.stmt.Stmt.{Stmt}
use Rattle.ob_tree.specs.declared.type_node.TypeNode.{TypeNode}
use Rattle.ob_tree.specs.declared.type_node.FieldList.{FieldList}
use Rattle.ob_tree.specs.declared.type_node.FormalPars.{FormalPars, roll-FormalPars}
use Rattle.ob_tree.specs.declared.type_node.Section.{Section, roll-Section}
use Rattle.ob_tree.specs.declared.type_node.TypeNode.TheOpen.{FormalPars-F, Section-F}
use Rattle.ob_tree.specs.declared.type_node.TypeNode.TheFolds.{fold-Section, fold-roll-FormalPars, fold-roll-Section}
use Rattle.ob_tree.specs.declared.decl.Receiver.{Receiver}
use Rattle.ob_tree.specs.declared.decl.Heading.{Heading}
use Rattle.ob_tree.specs.declared.decl.Decl.{Decl}
use Rattle.ob_tree.specs.declared.decl.Decl.TheVariants as d
use Rattle.ob_tree.specs.declared.decl.Decl.TheOpen.{Decl-F}
use Rattle.ob_tree.specs.declared.decl.Decl.TheFolds.{fold-roll-Decl}
use Rattle.ob_tree.specs.declared.decl.Module.{Module as Module}
use Rattle.ob_scan.specs.declared.fault.ScanFault.{ScanFault}
use Rattle.ob_scan.specs.Scanning.{Input, start_of}
use Rattle.ob_format.specs.Names.{is_letters, is_identifier}
use Rattle.ob_parse_grammar.specs.Phrase.{Tokens, Nest, AnExpr, AType, Statements, Negated, Procedure, Tree, Phrase}
use Rattle.ob_parse_grammar.specs.Expressions.{next_of, list_of, joined, ident, ident_def_of, ident_def, ident_list, separated}
use Rattle.ob_parse_grammar.specs.Types.{section, sections, formal_pars, parameters_of, parameters}
use Rattle.ob_parse_grammar.specs.Declarations.{constant, named_type, variables, block, receiver, heading, forward, procedure_item, declarations, procedure, «module»}
use Rattle.ob_parse_grammar.specs.Reading.{Read, Found, Fails, Wrong, Deep}
use Rattle.ob_parse_grammar.specs.Grammar.{rule, IsVoid, reads, spells}
use Rattle.ob_parse_grammar.proofs.Verdicts.{verdict}
use Rattle.ob_parse_grammar.specs.Depth.{limit}
use Rattle.ob_parse_grammar.specs.Texts.{tokens_of}
use Rattle.ob_parse_grammar.specs.TextReading.{NoModule, fault_of, parsed, by_fault, reading}
use Rattle.ob_rules.specs.Types.{Written, WrittenFields, WrittenParameters, WrittenSection, node_rule, fields_rule, parameters_rule, section_rule, written_parameters}
use Rattle.law_typing.specs.Spelled.{all_true}
use Rattle.law_spelling.proofs.Tokens.{is_name, IsNamedToken, tokens_named}
use Rattle.law_names_read.proofs.Phrases.{Holds, holds}
use Rattle.law_builds_bodies.specs.built_laws.Lettered.{is_lettered, receiver_lettered, section_lettered, heading_lettered, decl_layer, decl_lettered, tree_lettered, ReadingsAreLettered}
use Rattle.law_lists.proofs.Lists.{all_both, all_from, at_most, both_true}

-- ---- identifiers

no_letter : (c : ℕ) (x : List ℕ) → is_identifier (c ∷ x) ≡ true → (b : Bool) → (c == 0) ≡ b → not b ≡ true
no_letter c x e false i = refl
no_letter c x e true i =
    let bad : is_identifier (0 ∷ x) ≡ true = subst (λ k. is_identifier (k ∷ x) ≡ true) (eqb-true c 0 i) e in
    let wrong : false ≡ true = (and_parts (is_ascii_alphabetic 0) (list_all is_ascii_alphanumeric x) (and_parts (is_letters (0 ∷ x)) (nat_le (length (0 ∷ x)) 64) bad).0).0 in
    absurd cc

identifier_lettered : (x : List ℕ) → is_identifier x ≡ true → is_lettered x ≡ true
identifier_lettered [] e = let wrong : false ≡ true = e in absurd cc
identifier_lettered (c ∷ x) e = no_letter c x e (c == 0) refl

-- ---- folds of what the grammar makes

abbrev written_section : Section → WrittenSection
written_section = fold-Section Written WrittenFields WrittenParameters WrittenSection node_rule fields_rule parameters_rule section_rule

section_is : (x : Section-F TypeNode FieldList FormalPars Section) → section_lettered (written_section (roll-Section x)) ≡ list_all (λ (i : Ident). is_lettered i.name) x.names
section_is x = ap section_lettered (fold-roll-Section Written WrittenFields WrittenParameters WrittenSection node_rule fields_rule parameters_rule section_rule x)

abbrev Parameters : FormalPars → Bool
Parameters p = list_all section_lettered (written_parameters p).sections

parameters_are : (p : FormalPars-F TypeNode FieldList FormalPars Section) → Parameters (roll-FormalPars p) ≡ list_all section_lettered (map written_section p.sections)
parameters_are p = ap (λ (q : WrittenParameters). list_all section_lettered q.sections) (fold-roll-FormalPars Written WrittenFields WrittenParameters WrittenSection node_rule fields_rule parameters_rule section_rule p)

constant_is : (n : IdentDef) (x : Expr) → decl_lettered (d.Constant n x) ≡ true
constant_is n x = ap decl_lettered (sym (d.rolls-Constant n x)) ∙ fold-roll-Decl Bool decl_layer (Decl-F.Constant n x)

type_is : (n : IdentDef) (x : TypeNode) → decl_lettered (d.NamedType n x) ≡ true
type_is n x = ap decl_lettered (sym (d.rolls-NamedType n x)) ∙ fold-roll-Decl Bool decl_layer (Decl-F.NamedType n x)

variables_are : (ns : List IdentDef) (x : TypeNode) → decl_lettered (d.Variables ns x) ≡ list_all (λ (n : IdentDef). is_lettered n.ident.name) ns
variables_are ns x = ap decl_lettered (sym (d.rolls-Variables ns x)) ∙ fold-roll-Decl Bool decl_layer (Decl-F.Variables ns x)

procedure_is : (h : Heading) (ds : List Decl) (body : List Stmt) (c : Ident) → decl_lettered (d.Procedure h ds body c) ≡ heading_lettered h && all_true (map decl_lettered ds)
procedure_is h ds body c = ap decl_lettered (sym (d.rolls-Procedure h ds body c)) ∙ fold-roll-Decl Bool decl_layer (Decl-F.Procedure h ds body c)

forward_is : (h : Heading) → decl_lettered (d.Forward h) ≡ heading_lettered h
forward_is h = ap decl_lettered (sym (d.rolls-Forward h)) ∙ fold-roll-Decl Bool decl_layer (Decl-F.Forward h)

-- ---- lists

all_of : {A : Type 0} (f : A → Bool) (xs : List A) → AllByRecursion (λ x. f x ≡ true) xs → all_true (map f xs) ≡ true
all_of f [] h = refl
all_of f (x ∷ xs) h = both_true (f x) (all_true (map f xs)) h.0 (all_of f xs h.1)

list_true : {A : Type 0} (f : A → Bool) (xs : List A) → AllByRecursion (λ x. f x ≡ true) xs → list_all f xs ≡ true
list_true f [] h = refl
list_true f (x ∷ xs) h = both_true (f x) (list_all f xs) h.0 (list_true f xs h.1)

mapped_true : (xs : List Section) → AllByRecursion (λ x. section_lettered (written_section x) ≡ true) xs → list_all section_lettered (map written_section xs) ≡ true
mapped_true [] h = refl
mapped_true (x ∷ xs) h = both_true (section_lettered (written_section x)) (list_all section_lettered (map written_section xs)) h.0 (mapped_true xs h.1)

all_joined : {A : Type 0} (P : A → Type 0) (xss : List (List A)) → AllByRecursion (λ xs. AllByRecursion P xs) xss → AllByRecursion P (joined xss)
all_joined P [] h = tt
all_joined P (xs ∷ xss) h = all_both P xs (joined xss) h.0 (all_joined P xss h.1)

-- ---- phrases

abbrev IsLettered : Decl → Type 0
IsLettered x = decl_lettered x ≡ true

abbrev PN : (n : Nest) → Tree n → Type 0
PN AnExpr x = Unit {0}
PN AType x = Unit {0}
PN Statements x = Unit {0}
PN Negated x = Unit {0}
PN Procedure x = IsLettered x

abbrev LetteredBy : Result Module NoModule → Type 0
LetteredBy (Ok tree) = tree_lettered tree ≡ true
LetteredBy (Err f) = Unit {0}

-- of no more than so many tokens
module _ (most : ℕ) where
  abbrev H : {A : Type 0} → Phrase A → A → Type 0
  H p x = Holds IsNamedToken PN most p x

  ident_is : (i : Ident) → H ident i → is_lettered i.name ≡ true
  ident_is i h =
      let t : Token = h.0 in
      subst (λ (j : Ident). is_lettered j.name ≡ true) h.1 (identifier_lettered t.text.now (h.2.1 (named (sym h.2.0))))
    where
      named : {x : Symbol} → s.Ident ≡ x → is_name (Some x) ≡ true
      named e = subst (λ (x : Symbol). is_name (Some x) ≡ true) e refl

  def_ident : (i : Ident) (o : Option Token) → is_lettered i.name ≡ true → is_lettered (ident_def_of (i, o)).ident.name ≡ true
  def_ident i None e = e
  def_ident i (Some t) e = e

  def_is : (n : IdentDef) → H ident_def n → is_lettered n.ident.name ≡ true
  def_is n h = subst (λ (n : IdentDef). is_lettered n.ident.name ≡ true) h.1 (def_ident h.0.0 h.0.1 (ident_is h.0.0 h.2.0))

  -- items with symbols between them
  next_all : {A : Type 0} (by : Symbol) (p : Phrase A) (Q : A → Type 0) → ((x : A) → H p x → Q x) → (xs : List A) → AllByRecursion (λ x. H (next_of by p) x) xs → AllByRecursion Q xs
  next_all by p Q f [] h = tt
  next_all by p Q f (x ∷ xs) h = (subst Q h.0.1 (f h.0.0.1 h.0.2.1), next_all by p Q f xs h.1)

  separated_all : {A : Type 0} (by : Symbol) (p : Phrase A) (Q : A → Type 0) → ((x : A) → H p x → Q x) → (xs : List A) → H (separated by p) xs → AllByRecursion Q xs
  separated_all by p Q f xs h = subst (AllByRecursion Q) h.1 (f h.0.0 h.2.0, next_all by p Q f h.0.1 h.2.1)

  list_is : (ds : List IdentDef) → H ident_list ds → AllByRecursion (λ (n : IdentDef). is_lettered n.ident.name ≡ true) ds
  list_is ds h = separated_all s.Comma ident_def (λ n. is_lettered n.ident.name ≡ true) def_is ds h

  -- ---- headings

  section_is_so : (x : Section) → H section x → section_lettered (written_section x) ≡ true
  section_is_so x h =
      let y = h.0 in
      subst (λ (x : Section). section_lettered (written_section x) ≡ true) h.1
      (section_is (record { is_var = y.0; names = y.1.0; node = y.1.1.1 }) ∙ list_true (λ (i : Ident). is_lettered i.name) y.1.0 (separated_all s.Comma ident (λ i. is_lettered i.name ≡ true) ident_is y.1.0 h.2.1.0))

  sections_all : (o : Option (List Section)) → IfSome o (λ xs. H sections xs) → AllByRecursion (λ x. section_lettered (written_section x) ≡ true) (list_of o)
  sections_all None h = tt
  sections_all (Some xs) h = separated_all s.Semicolon section (λ x. section_lettered (written_section x) ≡ true) section_is_so xs h

  formal_is : (p : FormalPars) → H formal_pars p → Parameters p ≡ true
  formal_is p h =
      let y = h.0 in
      let k = h.2.1.0 in
      let all : AllByRecursion (λ x. section_lettered (written_section x) ≡ true) y.1.0 = subst (AllByRecursion (λ x. section_lettered (written_section x) ≡ true)) k.1 (sections_all k.0 k.2) in
      subst (λ (p : FormalPars). Parameters p ≡ true) h.1 (parameters_are (record { sections = y.1.0; result_type = y.1.1.1 }) ∙ mapped_true y.1.0 all)

  of_formal : (o : Option FormalPars) → IfSome o (λ p. H formal_pars p) → Parameters (parameters_of o) ≡ true
  of_formal None h = parameters_are (record { sections = []; result_type = None })
  of_formal (Some p) h = formal_is p h

  parameters_is : (p : FormalPars) → H parameters p → Parameters p ≡ true
  parameters_is p h = subst (λ (p : FormalPars). Parameters p ≡ true) h.1 (of_formal h.0 h.2)

  receiver_is : (o : Option Receiver) → IfSome o (λ r. H receiver r) → receiver_lettered o ≡ true
  receiver_is None h = refl
  receiver_is (Some r) h = subst (λ (r : Receiver). is_lettered r.ident.name ≡ true) h.1 (ident_is h.0.1.1.0 h.2.1.1.0)

  heading_is : (x : Heading) → H heading x → heading_lettered x ≡ true
  heading_is x h =
      let y = h.0 in
      subst (λ (x : Heading). heading_lettered x ≡ true) h.1
      (both_true (is_lettered y.1.0.ident.name) (receiver_lettered y.0 && Parameters y.1.1) (def_is y.1.0 h.2.1.0) (both_true (receiver_lettered y.0) (Parameters y.1.1) (receiver_is y.0 h.2.0) (parameters_is y.1.1 h.2.1.1)))

  -- ---- declarations

  constant_lettered : (x : Decl) → H constant x → IsLettered x
  constant_lettered x h = let y = h.0 in subst IsLettered h.1 (constant_is y.0 y.1.1.0)

  type_lettered : (x : Decl) → H named_type x → IsLettered x
  type_lettered x h = let y = h.0 in subst IsLettered h.1 (type_is y.0 y.1.1.0)

  variables_lettered : (x : Decl) → H variables x → IsLettered x
  variables_lettered x h = let y = h.0 in subst IsLettered h.1 (variables_are y.0 y.1.1.0 ∙ list_true (λ (n : IdentDef). is_lettered n.ident.name) y.0 (list_is y.0 h.2.0))

  forward_lettered : (x : Decl) → H forward x → IsLettered x
  forward_lettered x h = let y = h.0 in subst IsLettered h.1 (forward_is y.1 ∙ heading_is y.1 h.2.1)

  abbrev AllDecls : List Decl → Type 0
  AllDecls ds = AllByRecursion IsLettered ds

  block_lettered : (ds : List Decl) → H block ds → AllDecls ds
  block_lettered ds (inl h) = subst AllDecls h.1 (all_from (λ x. H constant x) IsLettered constant_lettered h.0.1 h.2.1)
  block_lettered ds (inr (inl h)) = subst AllDecls h.1 (all_from (λ x. H named_type x) IsLettered type_lettered h.0.1 h.2.1)
  block_lettered ds (inr (inr h)) = subst AllDecls h.1 (all_from (λ x. H variables x) IsLettered variables_lettered h.0.1 h.2.1)

  item_lettered : (x : Decl) → H procedure_item x → IsLettered x
  item_lettered x h = subst IsLettered h.1 (go h.0.0 h.2.0)
    where
      go : (x : Decl) → IsLettered x ⊎ H forward x → IsLettered x
      go x (inl k) = k
      go x (inr k) = forward_lettered x k

  declarations_lettered : (ds : List Decl) → H declarations ds → AllDecls ds
  declarations_lettered ds h =
      let y = h.0 in
      let b = h.2.0 in
      let first : AllDecls y.0 = subst AllDecls b.1 (all_joined IsLettered b.0 (all_from (λ ds. H block ds) AllDecls block_lettered b.0 b.2)) in
      subst AllDecls h.1 (all_both IsLettered y.0 y.1 first (all_from (λ x. H procedure_item x) IsLettered item_lettered y.1 h.2.1))

  procedure_lettered : (x : Decl) → H procedure x → IsLettered x
  procedure_lettered x h =
      let y = h.0 in
      subst IsLettered h.1
      (procedure_is y.0 y.1.1.0 y.1.1.1.0 y.1.1.1.1.1
      ∙ both_true (heading_lettered y.0) (all_true (map decl_lettered y.1.1.0)) (heading_is y.0 h.2.0) (all_of decl_lettered y.1.1.0 (declarations_lettered y.1.1.0 h.2.1.1.0)))

  -- ---- within any number of levels

  rules : (n : Nest) (x : Tree n) → H (rule n) x → PN n x
  rules AnExpr x h = tt
  rules AType x h = tt
  rules Statements x h = tt
  rules Negated x h = tt
  rules Procedure x h = procedure_lettered x h

  void : (n : Nest) (x : Tree n) → IsVoid n x → PN n x
  void AnExpr x h = tt
  void AType x h = tt
  void Statements x h = tt
  void Negated x h = tt
  void Procedure x h = absurd h

  abbrev AreNamed : Tokens → Type 0
  AreNamed ts = AllByRecursion IsNamedToken ts × (length ts ≤ most)

  nested : (k : ℕ) (n : Nest) (x : Tree n) (ts : Tokens) → AreNamed ts → spells k n x ts → PN n x
  nested zero n x ts all h = void n x h.1
  nested (suc k) n x ts all h = rules n x (holds IsNamedToken PN most (spells k) (λ n x ts a i. nested k n x ts a i) (rule n) x ts all h)

  -- ---- a module

  module_lettered : (m : Module) → H «module» m → tree_lettered m ≡ true
  module_lettered m h = let y = h.0 in subst (λ (m : Module). tree_lettered m ≡ true) h.1 (all_of decl_lettered y.1.1.1.1.0 (declarations_lettered y.1.1.1.1.0 h.2.1.1.1.1.0))

  left_part : (a b ts : Tokens) → ts ≡ a ++ b → AreNamed ts → AreNamed a
  left_part a b ts e all = (go a (subst (AllByRecursion IsNamedToken) e all.0), let n = ap length e ∙ length-append a b in let m = all.1 in omega (arith, n, m))
    where
      go : (a : Tokens) → AllByRecursion IsNamedToken (a ++ b) → AllByRecursion IsNamedToken a
      go [] all = tt
      go (t ∷ a) all = (all.0, go a all.1)

  parsed_lettered : (k : ℕ) (ts : Tokens) (r : Read Module) → AreNamed ts → reads k «module» ts ≡ r → LetteredBy (parsed r)
  parsed_lettered k ts (Found m rest) all e =
      let v = verdict k ts (Found m rest) e in
      module_lettered m (holds IsNamedToken PN most (spells k) (λ n x ts a i. nested k n x ts a i) «module» m v.0 (left_part v.0 rest ts v.1 all) v.2)
  parsed_lettered k ts (Fails Wrong rest) all e = tt
  parsed_lettered k ts (Fails Deep rest) all e = tt

fault_lettered : (o : Option ScanFault) (i : Input) → LetteredBy (by_fault o i)
fault_lettered (Some f) i = tt
fault_lettered None i = parsed_lettered (length (tokens_of i)) limit (tokens_of i) (reads limit «module» (tokens_of i)) (tokens_named (suc (length i.text)) i, at_most (length (tokens_of i))) refl

reading_lettered : (text : List ℕ) → LetteredBy (reading text)
unfolding reading
reading_lettered text = fault_lettered (fault_of (start_of text)) (start_of text)

pub readings_are_lettered : ReadingsAreLettered
readings_are_lettered text tree e = subst LetteredBy e (reading_lettered text)
