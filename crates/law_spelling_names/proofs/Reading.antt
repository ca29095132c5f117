-- What is read is nested in at most 200 levels, and what names its types is short.
use Rattle.std.proofs.Common.{◌≡◌, ◌⊎◌, inl, inr, ℕ, zero, suc, true, List, [], ◌∷◌, ◌++◌, length, map, Option, Some, None, Result, Ok, Err, refl, sym, ap, subst, ◌∙◌}
use Rattle.std.specs.Prelude.{◌&&◌, nat_le, IfSome, option_to_list}
use Rattle.std.specs.List.{AllByRecursion}
use Rattle.std.proofs.lemmas.Bool.{and_parts}
use Rattle.ob_tree.specs.declared.symbol.Symbol.{Symbol}
use Rattle.ob_tree.specs.declared.symbol.Symbol.TheVariants as s
use Rattle.ob_tree.specs.declared.token.Token.{Token}
use Rattle.ob_tree.specs.declared.pos.Pos.{Pos}
use Rattle.ob_tree.specs.declared.ident.Ident.{Ident}
use Rattle.ob_tree.specs.declared.ident.IdentDef.{IdentDef}
use Rattle.ob_tree.specs.declared.ident.Qualident.{Qualident}
use Rattle.ob_tree.specs.declared.expr.Expr.{Expr}
use Rattle.ob_tree.specs.declared.stmt.Stmt.{Stmt}
use Rattle.ob_tree.specs.declared.type_node.TypeNode.{TypeNode}
use Rattle.ob_tree.specs.declared.type_node.TypeNode.TheVariants as node
use Rattle.ob_tree.specs.declared.type_node.FieldList.{FieldList, roll-FieldList}
use Rattle.ob_tree.specs.declared.type_node.FormalPars.{FormalPars, roll-FormalPars}
use Rattle.ob_tree.specs.declared.type_node.Section.{Section, roll-Section}
use Rattle.ob_tree.specs.declared.type_node.TypeNode.TheOpen.{TypeNode-F, FieldList-F, FormalPars-F, Section-F}
use Rattle.ob_tree.specs.declared.type_node.TypeNode.TheFolds.{fold-roll-TypeNode, fold-roll-FieldList, fold-roll-FormalPars, fold-roll-Section}
use Rattle.ob_tree.specs.declared.decl.Heading.{Heading}
use Rattle.ob_tree.specs.declared.decl.Decl.{Decl}
use Rattle.ob_tree.specs.declared.decl.Decl.TheVariants as d
use Rattle.ob_tree.specs.declared.decl.Decl.TheOpen.{Decl-F}
use Rattle.ob_tree.specs.declared.decl.Decl.TheFolds.{fold-roll-Decl}
use Rattle.ob_tree.specs.declared.decl.Module.{Module}
use Rattle.ob_scan.specs.declared.fault.ScanFault.{ScanFault}
use Rattle.ob_scan.specs.Scanning.{Input, start_of}
use Rattle.ob_parse_grammar.specs.Phrase.{Tokens, Nest, AnExpr, AType, Statements, Negated, Procedure, Tree, Phrase}
use Rattle.ob_parse_grammar.specs.Expressions.{next_of, list_of, joined, ident, ident_def_of, ident_def, ident_list, qualident_of, qualident, separated}
use Rattle.ob_parse_grammar.specs.Types.{section, sections, formal_pars, parameters_of, parameters, fields, field_list, field_lists, type_node}
use Rattle.ob_parse_grammar.specs.Declarations.{constant, named_type, variables, block, heading, forward, procedure_item, declarations, procedure, «module»}
use Rattle.ob_parse_grammar.specs.Reading.{Read, Found, Fails, Wrong, Deep}
use Rattle.ob_parse_grammar.specs.Grammar.{rule, IsVoid, reads, spells}
use Rattle.ob_parse_grammar.proofs.Verdicts.{verdict}
use Rattle.ob_parse_grammar.specs.Depth.{limit}
use Rattle.ob_parse_grammar.specs.Texts.{tokens_of}
use Rattle.ob_parse_grammar.specs.TextReading.{NoModule, fault_of, parsed, by_fault, reading}
use Rattle.ob_format.specs.Names.{is_letters}
use Rattle.law_spelling.proofs.Phrases.{Holds, holds}
use Rattle.law_spelling.proofs.Tokens.{is_name, IsNamedToken, tokens_named}
use Rattle.law_spelling_names.specs.Nested.{Within, all_within, is_short, first_short, node_layer, fields_layer, parameters_layer, section_layer, type_within, fields_within, parameters_within, section_within, decl_layer, decl_within, tree_within}
use Rattle.law_spelling_names.specs.Laws.{ReadingsAreWithin}
use Rattle.law_lists.proofs.Lists.{all_both, all_from, both_true}

-- ---- folds of what the grammar makes

array_is : (at : Pos) (ls : List Expr) (e : TypeNode) (k : ℕ) → type_within (node.Array at ls e) (suc k) ≡ type_within e k
array_is at ls e k = ap (λ (f : TypeNode). type_within f (suc k)) (sym (node.rolls-Array at ls e)) ∙ ap (λ (f : Within). f (suc k)) (fold-roll-TypeNode Within Within Within Within node_layer fields_layer parameters_layer section_layer (TypeNode-F.Array at ls e))

record_is : (at : Pos) (b : Option Qualident) (fs : List FieldList) (k : ℕ) → type_within (node.Record at b fs) (suc k) ≡ all_within (map fields_within fs) k
record_is at b fs k = ap (λ (f : TypeNode). type_within f (suc k)) (sym (node.rolls-Record at b fs)) ∙ ap (λ (f : Within). f (suc k)) (fold-roll-TypeNode Within Within Within Within node_layer fields_layer parameters_layer section_layer (TypeNode-F.Record at b fs))

pointer_is : (at : Pos) (e : TypeNode) (k : ℕ) → type_within (node.Pointer at e) (suc k) ≡ type_within e k
pointer_is at e k = ap (λ (f : TypeNode). type_within f (suc k)) (sym (node.rolls-Pointer at e)) ∙ ap (λ (f : Within). f (suc k)) (fold-roll-TypeNode Within Within Within Within node_layer fields_layer parameters_layer section_layer (TypeNode-F.Pointer at e))

procedure_is : (at : Pos) (p : FormalPars) (k : ℕ) → type_within (node.Procedure at p) (suc k) ≡ parameters_within p k
procedure_is at p k = ap (λ (f : TypeNode). type_within f (suc k)) (sym (node.rolls-Procedure at p)) ∙ ap (λ (f : Within). f (suc k)) (fold-roll-TypeNode Within Within Within Within node_layer fields_layer parameters_layer section_layer (TypeNode-F.Procedure at p))

named_is : (q : Qualident) (k : ℕ) → type_within (node.Named q) (suc k) ≡ is_short q.ident.name
named_is q k = ap (λ (f : TypeNode). type_within f (suc k)) (sym (node.rolls-Named q)) ∙ ap (λ (f : Within). f (suc k)) (fold-roll-TypeNode Within Within Within Within node_layer fields_layer parameters_layer section_layer (TypeNode-F.Named q))

fields_are : (l : FieldList-F TypeNode FieldList FormalPars Section) (k : ℕ) → fields_within (roll-FieldList l) k ≡ first_short l.names && type_within l.node k
fields_are l k = ap (λ (f : Within). f k) (fold-roll-FieldList Within Within Within Within node_layer fields_layer parameters_layer section_layer l)

parameters_are : (p : FormalPars-F TypeNode FieldList FormalPars Section) (k : ℕ) → parameters_within (roll-FormalPars p) k ≡ all_within (map section_within p.sections) k
parameters_are p k = ap (λ (f : Within). f k) (fold-roll-FormalPars Within Within Within Within node_layer fields_layer parameters_layer section_layer p)

section_is : (x : Section-F TypeNode FieldList FormalPars Section) (k : ℕ) → section_within (roll-Section x) k ≡ type_within x.node k
section_is x k = ap (λ (f : Within). f k) (fold-roll-Section Within Within Within Within node_layer fields_layer parameters_layer section_layer x)

constant_is : (n : IdentDef) (x : Expr) (k : ℕ) → decl_within (d.Constant n x) k ≡ true
constant_is n x k = ap (λ (f : Decl). decl_within f k) (sym (d.rolls-Constant n x)) ∙ ap (λ (f : Within). f k) (fold-roll-Decl Within decl_layer (Decl-F.Constant n x))

type_is : (n : IdentDef) (x : TypeNode) (k : ℕ) → decl_within (d.NamedType n x) k ≡ is_short n.ident.name && type_within x k
type_is n x k = ap (λ (f : Decl). decl_within f k) (sym (d.rolls-NamedType n x)) ∙ ap (λ (f : Within). f k) (fold-roll-Decl Within decl_layer (Decl-F.NamedType n x))

variables_are : (ns : List IdentDef) (x : TypeNode) (k : ℕ) → decl_within (d.Variables ns x) k ≡ first_short ns && type_within x k
variables_are ns x k = ap (λ (f : Decl). decl_within f k) (sym (d.rolls-Variables ns x)) ∙ ap (λ (f : Within). f k) (fold-roll-Decl Within decl_layer (Decl-F.Variables ns x))

procedure_decl_is : (h : Heading) (ds : List Decl) (body : List Stmt) (c : Ident) (k : ℕ) → decl_within (d.Procedure h ds body c) (suc k) ≡ is_short h.name.ident.name && (parameters_within h.parameters k && all_within (map decl_within ds) k)
procedure_decl_is h ds body c k = ap (λ (f : Decl). decl_within f (suc k)) (sym (d.rolls-Procedure h ds body c)) ∙ ap (λ (f : Within). f (suc k)) (fold-roll-Decl Within decl_layer (Decl-F.Procedure h ds body c))

forward_is : (h : Heading) (k : ℕ) → decl_within (d.Forward h) k ≡ is_short h.name.ident.name && parameters_within h.parameters k
forward_is h k = ap (λ (f : Decl). decl_within f k) (sym (d.rolls-Forward h)) ∙ ap (λ (f : Within). f k) (fold-roll-Decl Within decl_layer (Decl-F.Forward h))

-- ---- lists

abbrev All : {A : Type 0} → (A → Within) → ℕ → List A → Type 0
All f k xs = AllByRecursion (λ x. f x k ≡ true) xs

all_of : {A : Type 0} (f : A → Within) (k : ℕ) (xs : List A) → All f k xs → all_within (map f xs) k ≡ true
all_of f k [] h = refl
all_of f k (x ∷ xs) h = both_true (f x k) (all_within (map f xs) k) h.0 (all_of f k xs h.1)

all_joined : {A : Type 0} (P : A → Type 0) (xss : List (List A)) → AllByRecursion (λ xs. AllByRecursion P xs) xss → AllByRecursion P (joined xss)
all_joined P [] h = tt
all_joined P (xs ∷ xss) h = all_both P xs (joined xss) h.0 (all_joined P xss h.1)

-- ---- phrases, with so many levels for what is nested

abbrev PN : ℕ → (n : Nest) → Tree n → Type 0
PN k AnExpr x = Unit {0}
PN k AType x = type_within x k ≡ true
PN k Statements x = Unit {0}
PN k Negated x = Unit {0}
PN k Procedure x = decl_within x k ≡ true

module _ (k : ℕ) where
  abbrev H : {A : Type 0} → Phrase A → A → Type 0
  H p x = Holds IsNamedToken (PN k) p x

  next_all : {A : Type 0} (by : Symbol) (p : Phrase A) (Q : A → Type 0) → ((x : A) → H p x → Q x) → (xs : List A) → AllByRecursion (λ x. H (next_of by p) x) xs → AllByRecursion Q xs
  next_all by p Q f [] h = tt
  next_all by p Q f (x ∷ xs) h = (subst Q h.0.1 (f h.0.0.1 h.0.2.1), next_all by p Q f xs h.1)

  separated_all : {A : Type 0} (by : Symbol) (p : Phrase A) (Q : A → Type 0) → ((x : A) → H p x → Q x) → (xs : List A) → H (separated by p) xs → AllByRecursion Q xs
  separated_all by p Q f xs h = subst (AllByRecursion Q) h.1 (f h.0.0 h.2.0, next_all by p Q f h.0.1 h.2.1)

  -- ---- names

  ident_short : (i : Ident) → H ident i → is_short i.name ≡ true
  ident_short i h =
      let t : Token = h.0 in
      subst (λ (j : Ident). is_short j.name ≡ true) h.1 (and_parts (is_letters t.text.now) (nat_le (length t.text.now) 64) (h.2.1 (named (sym h.2.0)))).1
    where
      named : {x : Symbol} → s.Ident ≡ x → is_name (Some x) ≡ true
      named e = subst (λ (x : Symbol). is_name (Some x) ≡ true) e refl

  def_ident : (i : Ident) (o : Option Token) → is_short i.name ≡ true → is_short (ident_def_of (i, o)).ident.name ≡ true
  def_ident i None e = e
  def_ident i (Some t) e = e

  def_short : (n : IdentDef) → H ident_def n → is_short n.ident.name ≡ true
  def_short n h = subst (λ (n : IdentDef). is_short n.ident.name ≡ true) h.1 (def_ident h.0.0 h.0.1 (ident_short h.0.0 h.2.0))

  list_short : (ds : List IdentDef) → H ident_list ds → first_short ds ≡ true
  list_short ds h = subst (λ (ds : List IdentDef). first_short ds ≡ true) h.1 (def_short h.0.0 h.2.0)

  qualified_short : (q : Qualident) → H qualident q → is_short q.ident.name ≡ true
  qualified_short q h = subst (λ (q : Qualident). is_short q.ident.name ≡ true) h.1 (go h.0.0 h.0.1 (ident_short h.0.0 h.2.0) h.2.1)
    where
      go : (i : Ident) (o : Option Ident) → is_short i.name ≡ true → IfSome o (λ x. H (next_of s.Dot ident) x) → is_short (qualident_of (i, o)).ident.name ≡ true
      go i None e m = e
      go i (Some j) e m = subst (λ (x : Ident). is_short x.name ≡ true) m.1 (ident_short m.0.1 m.2.1)

  -- ---- types

  section_ok : (x : Section) → H section x → section_within x k ≡ true
  section_ok x h = let y = h.0 in subst (λ (x : Section). section_within x k ≡ true) h.1 (section_is (record { is_var = y.0; names = y.1.0; node = y.1.1.1 }) k ∙ h.2.1.1.1)

  sections_ok : (o : Option (List Section)) → IfSome o (λ xs. H sections xs) → All section_within k (list_of o)
  sections_ok None h = tt
  sections_ok (Some xs) h = separated_all s.Semicolon section (λ x. section_within x k ≡ true) section_ok xs h

  formal_ok : (p : FormalPars) → H formal_pars p → parameters_within p k ≡ true
  formal_ok p h =
      let y = h.0 in
      let o = h.2.1.0 in
      let all : All section_within k y.1.0 = subst (All section_within k) o.1 (sections_ok o.0 o.2) in
      subst (λ (p : FormalPars). parameters_within p k ≡ true) h.1 (parameters_are (record { sections = y.1.0; result_type = y.1.1.1 }) k ∙ all_of section_within k y.1.0 all)

  of_ok : (o : Option FormalPars) → IfSome o (λ p. H formal_pars p) → parameters_within (parameters_of o) k ≡ true
  of_ok None h = parameters_are (record { sections = []; result_type = None }) k
  of_ok (Some p) h = formal_ok p h

  parameters_ok : (p : FormalPars) → H parameters p → parameters_within p k ≡ true
  parameters_ok p h = subst (λ (p : FormalPars). parameters_within p k ≡ true) h.1 (of_ok h.0 h.2)

  fields_ok : (l : FieldList) → H fields l → fields_within l k ≡ true
  fields_ok l h =
      let y = h.0 in
      subst (λ (l : FieldList). fields_within l k ≡ true) h.1 (fields_are (record { names = y.0; node = y.1.1 }) k ∙ both_true (first_short y.0) (type_within y.1.1 k) (list_short y.0 h.2.0) h.2.1.1)

  field_list_ok : (ls : List FieldList) → H field_list ls → All fields_within k ls
  field_list_ok ls h = subst (All fields_within k) h.1 (go h.0 h.2)
    where
      go : (o : Option FieldList) → IfSome o (λ l. H fields l) → All fields_within k (option_to_list o)
      go None e = tt
      go (Some l) e = (fields_ok l e, tt)

  field_lists_ok : (ls : List FieldList) → H field_lists ls → All fields_within k ls
  field_lists_ok ls h = subst (All fields_within k) h.1 (all_joined (λ l. fields_within l k ≡ true) h.0 (separated_all s.Semicolon field_list (λ ls. All fields_within k ls) field_list_ok h.0 h.2))

  type_ok : (x : TypeNode) → H type_node x → type_within x (suc k) ≡ true
  type_ok x (inl h) = subst (λ (x : TypeNode). type_within x (suc k) ≡ true) h.1 (named_is h.0 k ∙ qualified_short h.0 h.2)
  type_ok x (inr (inl h)) = let y = h.0 in subst (λ (x : TypeNode). type_within x (suc k) ≡ true) h.1 (array_is y.0.pos y.1.0 y.1.1.1 k ∙ h.2.1.1.1)
  type_ok x (inr (inr (inl h))) = let y = h.0 in subst (λ (x : TypeNode). type_within x (suc k) ≡ true) h.1 (record_is y.0.pos y.1.0 y.1.1.0 k ∙ all_of fields_within k y.1.1.0 (field_lists_ok y.1.1.0 h.2.1.1.0))
  type_ok x (inr (inr (inr (inl h)))) = let y = h.0 in subst (λ (x : TypeNode). type_within x (suc k) ≡ true) h.1 (pointer_is y.0.pos y.1.1 k ∙ h.2.1.1)
  type_ok x (inr (inr (inr (inr h)))) = let y = h.0 in subst (λ (x : TypeNode). type_within x (suc k) ≡ true) h.1 (procedure_is y.0.pos y.1 k ∙ parameters_ok y.1 h.2.1)

  -- ---- declarations

  abbrev IsDecl : Decl → Type 0
  IsDecl x = decl_within x k ≡ true

  constant_ok : (x : Decl) → H constant x → IsDecl x
  constant_ok x h = let y = h.0 in subst IsDecl h.1 (constant_is y.0 y.1.1.0 k)

  named_type_ok : (x : Decl) → H named_type x → IsDecl x
  named_type_ok x h = let y = h.0 in subst IsDecl h.1 (type_is y.0 y.1.1.0 k ∙ both_true (is_short y.0.ident.name) (type_within y.1.1.0 k) (def_short y.0 h.2.0) h.2.1.1.0)

  variables_ok : (x : Decl) → H variables x → IsDecl x
  variables_ok x h = let y = h.0 in subst IsDecl h.1 (variables_are y.0 y.1.1.0 k ∙ both_true (first_short y.0) (type_within y.1.1.0 k) (list_short y.0 h.2.0) h.2.1.1.0)

  -- a heading has a short name, and its parameters are within
  abbrev IsHeading : Heading → Type 0
  IsHeading x = (is_short x.name.ident.name ≡ true) × (parameters_within x.parameters k ≡ true)

  heading_ok : (x : Heading) → H heading x → IsHeading x
  heading_ok x h = let y = h.0 in subst IsHeading h.1 (def_short y.1.0 h.2.1.0, parameters_ok y.1.1 h.2.1.1)

  forward_ok : (x : Decl) → H forward x → IsDecl x
  forward_ok x h =
      let y = h.0 in
      let e = heading_ok y.1 h.2.1 in
      subst IsDecl h.1 (forward_is y.1 k ∙ both_true (is_short y.1.name.ident.name) (parameters_within y.1.parameters k) e.0 e.1)

  block_ok : (ds : List Decl) → H block ds → All decl_within k ds
  block_ok ds (inl h) = subst (All decl_within k) h.1 (all_from (λ x. H constant x) IsDecl constant_ok h.0.1 h.2.1)
  block_ok ds (inr (inl h)) = subst (All decl_within k) h.1 (all_from (λ x. H named_type x) IsDecl named_type_ok h.0.1 h.2.1)
  block_ok ds (inr (inr h)) = subst (All decl_within k) h.1 (all_from (λ x. H variables x) IsDecl variables_ok h.0.1 h.2.1)

  item_ok : (x : Decl) → H procedure_item x → IsDecl x
  item_ok x h = subst IsDecl h.1 (go h.0.0 h.2.0)
    where
      go : (x : Decl) → IsDecl x ⊎ H forward x → IsDecl x
      go x (inl e) = e
      go x (inr e) = forward_ok x e

  declarations_ok : (ds : List Decl) → H declarations ds → All decl_within k ds
  declarations_ok ds h =
      let y = h.0 in
      let b = h.2.0 in
      let first : All decl_within k y.0 = subst (All decl_within k) b.1 (all_joined IsDecl b.0 (all_from (λ ds. H block ds) (λ ds. All decl_within k ds) block_ok b.0 b.2)) in
      subst (All decl_within k) h.1 (all_both IsDecl y.0 y.1 first (all_from (λ x. H procedure_item x) IsDecl item_ok y.1 h.2.1))

  procedure_ok : (x : Decl) → H procedure x → decl_within x (suc k) ≡ true
  procedure_ok x h =
      let y = h.0 in
      let e = heading_ok y.0 h.2.0 in
      subst (λ (x : Decl). decl_within x (suc k) ≡ true) h.1
      (procedure_decl_is y.0 y.1.1.0 y.1.1.1.0 y.1.1.1.1.1 k
      ∙ both_true (is_short y.0.name.ident.name) (parameters_within y.0.parameters k && all_within (map decl_within y.1.1.0) k) e.0 (both_true (parameters_within y.0.parameters k) (all_within (map decl_within y.1.1.0) k) e.1 (all_of decl_within k y.1.1.0 (declarations_ok y.1.1.0 h.2.1.1.0))))

  rules : (n : Nest) (x : Tree n) → H (rule n) x → PN (suc k) n x
  rules AnExpr x h = tt
  rules AType x h = type_ok x h
  rules Statements x h = tt
  rules Negated x h = tt
  rules Procedure x h = procedure_ok x h

  module_ok : (m : Module) → H «module» m → tree_within m k ≡ true
  module_ok m h = let y = h.0 in subst (λ (m : Module). tree_within m k ≡ true) h.1 (all_of decl_within k y.1.1.1.1.0 (declarations_ok y.1.1.1.1.0 h.2.1.1.1.1.0))

-- ---- within so many levels

void : (k : ℕ) (n : Nest) (x : Tree n) → IsVoid n x → PN k n x
void k AnExpr x h = tt
void k AType x h = absurd h
void k Statements x h = tt
void k Negated x h = tt
void k Procedure x h = absurd h

abbrev AreNamed : Tokens → Type 0
AreNamed ts = AllByRecursion IsNamedToken ts

nested : (k : ℕ) (n : Nest) (x : Tree n) (ts : Tokens) → AreNamed ts → spells k n x ts → PN k n x
nested zero n x ts all h = void zero n x h.1
nested (suc k) n x ts all h = rules k n x (holds IsNamedToken (PN k) (spells k) (λ n x ts a i. nested k n x ts a i) (rule n) x ts all h)

-- ---- a module

abbrev WithinBy : ℕ → Result Module NoModule → Type 0
WithinBy k (Ok tree) = tree_within tree k ≡ true
WithinBy k (Err f) = Unit {0}

left_part : (a b ts : Tokens) → ts ≡ a ++ b → AreNamed ts → AreNamed a
left_part a b ts e all = go a (subst (AllByRecursion IsNamedToken) e all)
  where
    go : (a : Tokens) → AllByRecursion IsNamedToken (a ++ b) → AllByRecursion IsNamedToken a
    go [] all = tt
    go (t ∷ a) all = (all.0, go a all.1)

parsed_ok : (k : ℕ) (ts : Tokens) (r : Read Module) → AreNamed ts → reads k «module» ts ≡ r → WithinBy k (parsed r)
parsed_ok k ts (Found m rest) all e =
    let v = verdict k ts (Found m rest) e in
    module_ok k m (holds IsNamedToken (PN k) (spells k) (λ n x ts a i. nested k n x ts a i) «module» m v.0 (left_part v.0 rest ts v.1 all) v.2)
parsed_ok k ts (Fails Wrong rest) all e = tt
parsed_ok k ts (Fails Deep rest) all e = tt

fault_ok : (o : Option ScanFault) (i : Input) → WithinBy limit (by_fault o i)
fault_ok (Some f) i = tt
fault_ok None i = parsed_ok limit (tokens_of i) (reads limit «module» (tokens_of i)) (tokens_named (suc (length i.text)) i) refl

reading_ok : (text : List ℕ) → WithinBy limit (reading text)
unfolding reading
reading_ok text = fault_ok (fault_of (start_of text)) (start_of text)

limit_is : limit ≡ 200
unfolding limit
limit_is = refl

pub readings_within : ReadingsAreWithin
readings_within text tree e = subst (λ (k : ℕ). tree_within tree k ≡ true) limit_is (subst (WithinBy limit) e (reading_ok text))
