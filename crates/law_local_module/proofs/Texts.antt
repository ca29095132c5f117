-- Each declaration of variables of a module that is read declares one at least.
use Rattle.std.proofs.Common.{◌≡◌, ℕ, zero, suc, Bool, true, List, [], ◌∷◌, ◌++◌, map, Option, Some, None, Result, Ok, Err, refl, sym, ap, subst, ◌∙◌, inl, inr}
use Rattle.std.specs.Prelude.{◌⊎◌}
use Rattle.std.proofs.lemmas.Bool.{and_parts}
use Rattle.ob_tree.specs.declared.ident.Ident.{Ident}
use Rattle.ob_tree.specs.declared.ident.IdentDef.{IdentDef}
use Rattle.ob_tree.specs.declared.expr.Expr.{Expr}
use Rattle.ob_tree.specs.declared.stmt.Stmt.{Stmt}
use Rattle.ob_tree.specs.declared.type_node.TypeNode.{TypeNode}
use Rattle.ob_tree.specs.declared.decl.Heading.{Heading}
use Rattle.ob_tree.specs.declared.decl.Decl.{Decl}
use Rattle.ob_tree.specs.declared.decl.Decl.TheVariants as d
use Rattle.ob_tree.specs.declared.decl.Decl.TheOpen.{Decl-F}
use Rattle.ob_tree.specs.declared.decl.Decl.TheFolds.{fold-roll-Decl}
use Rattle.ob_tree.specs.declared.decl.Module.{Module as Tree}
use Rattle.ob_scan.specs.declared.fault.ScanFault.{ScanFault}
use Rattle.ob_scan.specs.Scanning.{Input, start_of}
use Rattle.ob_parse_grammar.specs.Phrase.{Tokens, Nest, Procedure, Tree as Nested, Spelling, spells_as, spells_many}
use Rattle.ob_parse_grammar.specs.Expressions.{joined, ident_list}
use Rattle.ob_parse_grammar.specs.Declarations.{constant, named_type, variables, block, forward, procedure_item, blocks, declarations, procedure, «module»}
use Rattle.ob_parse_grammar.specs.Reading.{Read, Found, Fails, Wrong, Deep}
use Rattle.ob_parse_grammar.specs.Grammar.{reads, spells}
use Rattle.ob_parse_grammar.proofs.Verdicts.{verdict}
use Rattle.ob_parse_grammar.specs.Depth.{limit}
use Rattle.ob_parse_grammar.specs.Texts.{tokens_of}
use Rattle.ob_parse_grammar.specs.TextReading.{NoModule, fault_of, parsed, by_fault, reading}
use Rattle.law_names_procedures.specs.Procedures.{all_true}
use Rattle.law_local_module.specs.Laws.{is_there, variables_layer, declares_variables}
use Rattle.law_local_module.specs.ReadingLaws.{ReadingsDeclare}
use Rattle.law_lists.proofs.Lists.{both_true}

-- ---- declarations

all_both_true : (xs ys : List Decl) → all_true (map declares_variables xs) ≡ true → all_true (map declares_variables ys) ≡ true → all_true (map declares_variables (xs ++ ys)) ≡ true
all_both_true [] ys e f = f
all_both_true (x ∷ xs) ys e f =
    let p = and_parts (declares_variables x) (all_true (map declares_variables xs)) e in
    both_true (declares_variables x) (all_true (map declares_variables (xs ++ ys))) p.0 (all_both_true xs ys p.1 f)

constant_is : (x : IdentDef) (y : Expr) → declares_variables (d.Constant x y) ≡ true
constant_is x y = ap declares_variables (sym (d.rolls-Constant x y)) ∙ fold-roll-Decl Bool variables_layer (Decl-F.Constant x y)

type_is : (x : IdentDef) (n : TypeNode) → declares_variables (d.NamedType x n) ≡ true
type_is x n = ap declares_variables (sym (d.rolls-NamedType x n)) ∙ fold-roll-Decl Bool variables_layer (Decl-F.NamedType x n)

variables_are : (xs : List IdentDef) (n : TypeNode) → is_there xs ≡ true → declares_variables (d.Variables xs n) ≡ true
variables_are xs n e = ap declares_variables (sym (d.rolls-Variables xs n)) ∙ fold-roll-Decl Bool variables_layer (Decl-F.Variables xs n) ∙ e

procedure_is : (h : Heading) (ds : List Decl) (body : List Stmt) (closing : Ident) → all_true (map declares_variables ds) ≡ true → declares_variables (d.Procedure h ds body closing) ≡ true
procedure_is h ds body closing e = ap declares_variables (sym (d.rolls-Procedure h ds body closing)) ∙ fold-roll-Decl Bool variables_layer (Decl-F.Procedure h ds body closing) ∙ e

forward_is : (h : Heading) → declares_variables (d.Forward h) ≡ true
forward_is h = ap declares_variables (sym (d.rolls-Forward h)) ∙ fold-roll-Decl Bool variables_layer (Decl-F.Forward h)

abbrev AreDecls : List Decl → Type 0
AreDecls ds = all_true (map declares_variables ds) ≡ true

module _ (S : (n : Nest) → Spelling (Nested n)) (inner : (x : Decl) (ts : Tokens) → S Procedure x ts → declares_variables x ≡ true) where
  list_there : (xs : List IdentDef) (ts : Tokens) → spells_as S ident_list xs ts → is_there xs ≡ true
  list_there xs ts h = subst (λ xs. is_there xs ≡ true) h.1 refl

  item_declares : (x : Decl) (ts : Tokens) → spells_as S procedure_item x ts → declares_variables x ≡ true
  item_declares x ts h = subst (λ (y : Decl). declares_variables y ≡ true) h.1 (either h.2.3.4)
    where
      either : {y : Decl} {ts : Tokens} → spells_as S forward y ts ⊎ S Procedure y ts → declares_variables y ≡ true
      either {y} {ts} (inl k) = subst (λ (y : Decl). declares_variables y ≡ true) k.1 (forward_is k.0.1)
      either {y} {ts} (inr k) = inner y ts k

  items_declare : (xs : List Decl) (ts : Tokens) → spells_many (spells_as S procedure_item) xs ts → AreDecls xs
  items_declare [] ts h = refl
  items_declare (x ∷ xs) ts h = both_true (declares_variables x) (all_true (map declares_variables xs)) (item_declares x h.0 h.3) (items_declare xs h.1 h.4)

  constants_declare : (xs : List Decl) (ts : Tokens) → spells_many (spells_as S constant) xs ts → AreDecls xs
  constants_declare [] ts h = refl
  constants_declare (x ∷ xs) ts h = both_true (declares_variables x) (all_true (map declares_variables xs)) (subst (λ (y : Decl). declares_variables y ≡ true) h.3.1 (constant_is h.3.0.0 h.3.0.1.1.0)) (constants_declare xs h.1 h.4)

  types_declare : (xs : List Decl) (ts : Tokens) → spells_many (spells_as S named_type) xs ts → AreDecls xs
  types_declare [] ts h = refl
  types_declare (x ∷ xs) ts h = both_true (declares_variables x) (all_true (map declares_variables xs)) (subst (λ (y : Decl). declares_variables y ≡ true) h.3.1 (type_is h.3.0.0 h.3.0.1.1.0)) (types_declare xs h.1 h.4)

  variables_declare : (xs : List Decl) (ts : Tokens) → spells_many (spells_as S variables) xs ts → AreDecls xs
  variables_declare [] ts h = refl
  variables_declare (x ∷ xs) ts h =
      both_true (declares_variables x) (all_true (map declares_variables xs))
      (subst (λ (y : Decl). declares_variables y ≡ true) h.3.1 (variables_are h.3.0.0 h.3.0.1.1.0 (list_there h.3.0.0 h.3.2.0 h.3.2.3))) (variables_declare xs h.1 h.4)

  block_declares : (xs : List Decl) (ts : Tokens) → spells_as S block xs ts → AreDecls xs
  block_declares xs ts (inl h) = subst AreDecls h.1 (constants_declare h.0.1 h.2.1 h.2.4)
  block_declares xs ts (inr (inl h)) = subst AreDecls h.1 (types_declare h.0.1 h.2.1 h.2.4)
  block_declares xs ts (inr (inr h)) = subst AreDecls h.1 (variables_declare h.0.1 h.2.1 h.2.4)

  blocks_all : (xss : List (List Decl)) (ts : Tokens) → spells_many (spells_as S block) xss ts → AreDecls (joined xss)
  blocks_all [] ts h = refl
  blocks_all (xs ∷ xss) ts h = all_both_true xs (joined xss) (block_declares xs h.0 h.3) (blocks_all xss h.1 h.4)

  blocks_declare : (xs : List Decl) (ts : Tokens) → spells_as S blocks xs ts → AreDecls xs
  blocks_declare xs ts h = subst AreDecls h.1 (blocks_all h.0 ts h.2)

  declarations_declare : (xs : List Decl) (ts : Tokens) → spells_as S declarations xs ts → AreDecls xs
  declarations_declare xs ts h = subst AreDecls h.1 (all_both_true h.0.0 h.0.1 (blocks_declare h.0.0 h.2.0 h.2.3) (items_declare h.0.1 h.2.1 h.2.4))

  procedure_declares : (x : Decl) (ts : Tokens) → spells_as S procedure x ts → declares_variables x ≡ true
  procedure_declares x ts h =
      let three = h.2.4.4 in
      subst (λ (y : Decl). declares_variables y ≡ true) h.1 (procedure_is h.0.0 h.0.1.1.0 h.0.1.1.1.0 h.0.1.1.1.1.1 (declarations_declare h.0.1.1.0 three.0 three.3))

  module_declares : (m : Tree) (ts : Tokens) → spells_as S «module» m ts → AreDecls m.decls
  module_declares m ts h =
      let five = h.2.4.4.4.4 in
      subst AreDecls (ap (λ (m : Tree). m.decls) h.1) (declarations_declare h.0.1.1.1.1.0 five.0 five.3)

-- ---- within any number of levels

level_declares : (n : ℕ) (x : Decl) (ts : Tokens) → spells n Procedure x ts → declares_variables x ≡ true
level_declares zero x ts h = absurd h.1
level_declares (suc n) x ts h = procedure_declares (spells n) (level_declares n) x ts h

-- ---- a text that is read

abbrev DeclaredBy : Result Tree NoModule → Type 0
DeclaredBy (Ok tree) = AreDecls tree.decls
DeclaredBy (Err f) = Unit {0}

parsed_declares : (n : ℕ) (ts : Tokens) (r : Read Tree) → reads n «module» ts ≡ r → DeclaredBy (parsed r)
parsed_declares n ts (Found m rest) e =
    let v = verdict n ts (Found m rest) e in
    module_declares (spells n) (level_declares n) m v.0 v.2
parsed_declares n ts (Fails Wrong rest) e = tt
parsed_declares n ts (Fails Deep rest) e = tt

fault_declares : (o : Option ScanFault) (i : Input) → DeclaredBy (by_fault o i)
fault_declares (Some f) i = tt
fault_declares None i = parsed_declares limit (tokens_of i) (reads limit «module» (tokens_of i)) refl

reading_declares : (text : List ℕ) → DeclaredBy (reading text)
unfolding reading
reading_declares text = fault_declares (fault_of (start_of text)) (start_of text)

pub readings_declare : ReadingsDeclare
readings_declare text tree e = subst DeclaredBy e (reading_declares text)
