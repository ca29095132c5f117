-- The procedures of a module that is read are named by identifiers.
use Rattle.std.proofs.Common.{◌≡◌, ℕ, zero, suc, Bool, true, false, List, [], ◌∷◌, ◌++◌, length, map, Option, Some, None, Result, Ok, Err, refl, sym, ap, subst, ◌∙◌, inl, inr, arith}
use Rattle.std.specs.Prelude.{◌&&◌, ◌||◌, ◌==◌, ◌⊎◌, not, nat_lt}
use Rattle.std.specs.List.{AllByRecursion, list_all}
use Rattle.std.proofs.lemmas.Bool.{false≢true, and_parts}
use Rattle.std.proofs.lemmas.Bool.Decides.{nat_tests}
use Rattle.ob_tree.specs.declared.symbol.Symbol.{Symbol}
use Rattle.ob_tree.specs.declared.symbol.Symbol.TheVariants as s
use Rattle.ob_tree.specs.declared.token.Token.{Token}
use Rattle.ob_tree.specs.declared.ident.Ident.{Ident}
use Rattle.ob_tree.specs.declared.ident.IdentDef.{IdentDef}
use Rattle.ob_tree.specs.declared.expr.Expr.{Expr}
use Rattle.ob_tree.specs.declared.stmt.Stmt.{Stmt}
use Rattle.ob_tree.specs.declared.type_node.TypeNode.{TypeNode}
use Rattle.ob_tree.specs.declared.decl.Heading.{Heading}
use Rattle.ob_tree.specs.declared.decl.Decl.{Decl}
use Rattle.ob_tree.specs.declared.decl.Decl.TheVariants as d
use Rattle.ob_tree.specs.declared.decl.Decl.TheOpen.{Decl-F}
use Rattle.ob_tree.specs.declared.decl.Decl.TheFolds.{fold-roll-Decl}
use Rattle.ob_tree.specs.declared.decl.Module.{Module as Tree}
use Rattle.ob_scan.specs.declared.fault.ScanFault.{ScanFault}
use Rattle.ob_scan.specs.Scanning.{Input, start_of}
use Rattle.ob_parse_grammar.specs.Phrase.{Tokens, Nest, Procedure, Tree as Nested, Spelling, spells_as, spells_many}
use Rattle.ob_parse_grammar.specs.Expressions.{joined, ident, ident_def_of, ident_def}
use Rattle.ob_parse_grammar.specs.Declarations.{constant, named_type, variables, block, heading, forward, procedure_item, blocks, declarations, procedure, «module»}
use Rattle.ob_parse_grammar.specs.Reading.{Read, Found, Fails, Wrong, Deep}
use Rattle.ob_parse_grammar.specs.Grammar.{reads, spells}
use Rattle.ob_parse_grammar.proofs.Verdicts.{verdict}
use Rattle.ob_parse_grammar.specs.Depth.{limit}
use Rattle.ob_parse_grammar.specs.Texts.{tokens_of}
use Rattle.ob_parse_grammar.specs.TextReading.{NoModule, fault_of, parsed, by_fault, reading}
use Rattle.ob_parse_grammar.specs.Identifiers.{is_letter, is_letter_or_digit, is_identifier}
use Rattle.law_names_procedures.specs.Procedures.{is_plain, all_true, heading_layer, is_named_plainly}
use Rattle.law_names_procedures.specs.Named.{HeadingsAreNamed}
use Rattle.law_names_procedures.proofs.Tokens.{is_name, IsNamed, tokens_named}
use Rattle.law_lists.proofs.Lists.{both_true}

abbrev pub AreNamed : Tokens → Type 0
AreNamed ts = AllByRecursion IsNamed ts

pub left : (a b ts : Tokens) → ts ≡ a ++ b → AreNamed ts → AreNamed a
left a b ts e all = go a (subst AreNamed e all)
  where
    go : (a : Tokens) → AreNamed (a ++ b) → AreNamed a
    go [] all = tt
    go (t ∷ a) all = (all.0, go a all.1)

pub right : (a b ts : Tokens) → ts ≡ a ++ b → AreNamed ts → AreNamed b
right a b ts e all = go a (subst AreNamed e all)
  where
    go : (a : Tokens) → AreNamed (a ++ b) → AreNamed b
    go [] all = all
    go (t ∷ a) all = go a all.1

-- ---- identifiers have neither stops nor strokes

plain_byte : (b : ℕ) → is_letter_or_digit b ≡ true → not (b == 46 || b == 47) ≡ true
plain_byte b e = go (b == 46 || b == 47) refl
  where
    not_stop : (b : ℕ) → is_letter_or_digit b ≡ true → (b == 46) ≡ true → ⊥
    not_stop b e i = grind (arith, nat_tests)

    not_stroke : (b : ℕ) → is_letter_or_digit b ≡ true → (b == 47) ≡ true → ⊥
    not_stroke b e i = grind (arith, nat_tests)

    or_one : (p q : Bool) → (p || q) ≡ true → (p ≡ true → ⊥) → (q ≡ true → ⊥) → ⊥
    or_one true q e f g = f refl
    or_one false q e f g = g e

    go : (c : Bool) → (b == 46 || b == 47) ≡ c → not c ≡ true
    go true i = absurd (or_one (b == 46) (b == 47) i (not_stop b e) (not_stroke b e))
    go false i = refl

plain_bytes : (x : List ℕ) → list_all is_letter_or_digit x ≡ true → is_plain x ≡ true
plain_bytes [] e = refl
plain_bytes (b ∷ x) e =
    let p = and_parts (is_letter_or_digit b) (list_all is_letter_or_digit x) e in
    ap (λ c. c && is_plain x) (plain_byte b p.0) ∙ plain_bytes x p.1

plain_identifier : (x : List ℕ) → is_identifier x ≡ true → is_plain x ≡ true
plain_identifier [] e = refl
plain_identifier (b ∷ x) e =
    let p = and_parts (is_letter b) (list_all is_letter_or_digit x && nat_lt (length x) 64) e in
    let q = and_parts (list_all is_letter_or_digit x) (nat_lt (length x) 64) p.1 in
    ap (λ c. c && is_plain x) (plain_byte b (letter (is_letter b) _ p.0)) ∙ plain_bytes x q.0
  where
    letter : (a c : Bool) → a ≡ true → (a || c) ≡ true
    letter true c e = refl
    letter false c e = absurd (false≢true e)

-- ---- declarations

all_both_true : (xs ys : List Decl) → all_true (map is_named_plainly xs) ≡ true → all_true (map is_named_plainly ys) ≡ true → all_true (map is_named_plainly (xs ++ ys)) ≡ true
all_both_true [] ys e f = f
all_both_true (x ∷ xs) ys e f =
    let p = and_parts (is_named_plainly x) (all_true (map is_named_plainly xs)) e in
    ap (λ c. c && all_true (map is_named_plainly (xs ++ ys))) p.0 ∙ all_both_true xs ys p.1 f

constant_is : (x : IdentDef) (y : Expr) → is_named_plainly (d.Constant x y) ≡ true
constant_is x y = ap is_named_plainly (sym (d.rolls-Constant x y)) ∙ fold-roll-Decl Bool heading_layer (Decl-F.Constant x y)

type_is : (x : IdentDef) (n : TypeNode) → is_named_plainly (d.NamedType x n) ≡ true
type_is x n = ap is_named_plainly (sym (d.rolls-NamedType x n)) ∙ fold-roll-Decl Bool heading_layer (Decl-F.NamedType x n)

variables_are : (xs : List IdentDef) (n : TypeNode) → is_named_plainly (d.Variables xs n) ≡ true
variables_are xs n = ap is_named_plainly (sym (d.rolls-Variables xs n)) ∙ fold-roll-Decl Bool heading_layer (Decl-F.Variables xs n)

procedure_is : (h : Heading) (ds : List Decl) (body : List Stmt) (closing : Ident) → is_plain h.name.ident.name ≡ true → all_true (map is_named_plainly ds) ≡ true → is_named_plainly (d.Procedure h ds body closing) ≡ true
procedure_is h ds body closing e f = ap is_named_plainly (sym (d.rolls-Procedure h ds body closing)) ∙ fold-roll-Decl Bool heading_layer (Decl-F.Procedure h ds body closing) ∙ both_true (is_plain h.name.ident.name) (all_true (map is_named_plainly ds)) e f

forward_is : (h : Heading) → is_plain h.name.ident.name ≡ true → is_named_plainly (d.Forward h) ≡ true
forward_is h e = ap is_named_plainly (sym (d.rolls-Forward h)) ∙ fold-roll-Decl Bool heading_layer (Decl-F.Forward h) ∙ e

abbrev AreDecls : List Decl → Type 0
AreDecls ds = all_true (map is_named_plainly ds) ≡ true

module _ (S : (n : Nest) → Spelling (Nested n)) (inner : (x : Decl) (ts : Tokens) → AreNamed ts → S Procedure x ts → is_named_plainly x ≡ true) where
  ident_named : (i : Ident) (ts : Tokens) → AreNamed ts → spells_as S ident i ts → is_plain i.name ≡ true
  ident_named i ts all h =
      let t : Token = h.0 in
      let one : AreNamed (t ∷ []) = subst AreNamed h.2.0 all in
      subst (λ (j : Ident). is_plain j.name ≡ true) h.1 (plain_identifier t.text.now (one.0 (named (sym h.2.1))))
    where
      named : {x : Symbol} → s.Ident ≡ x → is_name (Some x) ≡ true
      named e = subst (λ (x : Symbol). is_name (Some x) ≡ true) e refl

  def_is : (i : Ident) (o : Option Token) → is_plain i.name ≡ true → is_plain (ident_def_of (i, o)).ident.name ≡ true
  def_is i None e = e
  def_is i (Some t) e = e

  def_named : (x : IdentDef) (ts : Tokens) → AreNamed ts → spells_as S ident_def x ts → is_plain x.ident.name ≡ true
  def_named x ts all h = subst (λ (y : IdentDef). is_plain y.ident.name ≡ true) h.1 (def_is h.0.0 h.0.1 (ident_named h.0.0 h.2.0 (left h.2.0 h.2.1 ts h.2.2 all) h.2.3))

  heading_named : (x : Heading) (ts : Tokens) → AreNamed ts → spells_as S heading x ts → is_plain x.name.ident.name ≡ true
  heading_named x ts all h =
      let rest = h.2.4 in
      let there : AreNamed h.2.1 = right h.2.0 h.2.1 ts h.2.2 all in
      subst (λ (y : Heading). is_plain y.name.ident.name ≡ true) h.1 (def_named h.0.1.0 rest.0 (left rest.0 rest.1 h.2.1 rest.2 there) rest.3)

  forward_named : (x : Decl) (ts : Tokens) → AreNamed ts → spells_as S forward x ts → is_named_plainly x ≡ true
  forward_named x ts all h = subst (λ (y : Decl). is_named_plainly y ≡ true) h.1 (forward_is h.0.1 (heading_named h.0.1 h.2.1 (right h.2.0 h.2.1 ts h.2.2 all) h.2.4))

  item_named : (x : Decl) (ts : Tokens) → AreNamed ts → spells_as S procedure_item x ts → is_named_plainly x ≡ true
  item_named x ts all h =
      let f = h.2.3 in
      let here : AreNamed h.2.0 = left h.2.0 h.2.1 ts h.2.2 all in
      let rest : AreNamed f.1 = right (f.0 ∷ []) f.1 h.2.0 f.2 here in
      subst (λ (y : Decl). is_named_plainly y ≡ true) h.1 (either f.4 rest)
    where
      either : {y : Decl} {ts : Tokens} → spells_as S forward y ts ⊎ S Procedure y ts → AreNamed ts → is_named_plainly y ≡ true
      either {y} {ts} (inl k) all = forward_named y ts all k
      either {y} {ts} (inr k) all = inner y ts all k

  items_named : (xs : List Decl) (ts : Tokens) → AreNamed ts → spells_many (spells_as S procedure_item) xs ts → AreDecls xs
  items_named [] ts all h = refl
  items_named (x ∷ xs) ts all h = both_true (is_named_plainly x) (all_true (map is_named_plainly xs)) (item_named x h.0 (left h.0 h.1 ts h.2 all) h.3) (items_named xs h.1 (right h.0 h.1 ts h.2 all) h.4)

  constants_named : (xs : List Decl) (ts : Tokens) → spells_many (spells_as S constant) xs ts → AreDecls xs
  constants_named [] ts h = refl
  constants_named (x ∷ xs) ts h = both_true (is_named_plainly x) (all_true (map is_named_plainly xs)) (subst (λ (y : Decl). is_named_plainly y ≡ true) h.3.1 (constant_is h.3.0.0 h.3.0.1.1.0)) (constants_named xs h.1 h.4)

  types_named : (xs : List Decl) (ts : Tokens) → spells_many (spells_as S named_type) xs ts → AreDecls xs
  types_named [] ts h = refl
  types_named (x ∷ xs) ts h = both_true (is_named_plainly x) (all_true (map is_named_plainly xs)) (subst (λ (y : Decl). is_named_plainly y ≡ true) h.3.1 (type_is h.3.0.0 h.3.0.1.1.0)) (types_named xs h.1 h.4)

  variables_named : (xs : List Decl) (ts : Tokens) → spells_many (spells_as S variables) xs ts → AreDecls xs
  variables_named [] ts h = refl
  variables_named (x ∷ xs) ts h = both_true (is_named_plainly x) (all_true (map is_named_plainly xs)) (subst (λ (y : Decl). is_named_plainly y ≡ true) h.3.1 (variables_are h.3.0.0 h.3.0.1.1.0)) (variables_named xs h.1 h.4)

  block_named : (xs : List Decl) (ts : Tokens) → spells_as S block xs ts → AreDecls xs
  block_named xs ts (inl h) = subst AreDecls h.1 (constants_named h.0.1 h.2.1 h.2.4)
  block_named xs ts (inr (inl h)) = subst AreDecls h.1 (types_named h.0.1 h.2.1 h.2.4)
  block_named xs ts (inr (inr h)) = subst AreDecls h.1 (variables_named h.0.1 h.2.1 h.2.4)

  blocks_all : (xss : List (List Decl)) (ts : Tokens) → spells_many (spells_as S block) xss ts → AreDecls (joined xss)
  blocks_all [] ts h = refl
  blocks_all (xs ∷ xss) ts h = all_both_true xs (joined xss) (block_named xs h.0 h.3) (blocks_all xss h.1 h.4)

  blocks_named : (xs : List Decl) (ts : Tokens) → spells_as S blocks xs ts → AreDecls xs
  blocks_named xs ts h = subst AreDecls h.1 (blocks_all h.0 ts h.2)

  declarations_named : (xs : List Decl) (ts : Tokens) → AreNamed ts → spells_as S declarations xs ts → AreDecls xs
  declarations_named xs ts all h = subst AreDecls h.1 (all_both_true h.0.0 h.0.1 (blocks_named h.0.0 h.2.0 h.2.3) (items_named h.0.1 h.2.1 (right h.2.0 h.2.1 ts h.2.2 all) h.2.4))

  procedure_named : (x : Decl) (ts : Tokens) → AreNamed ts → spells_as S procedure x ts → is_named_plainly x ≡ true
  procedure_named x ts all h =
      let one = h.2 in
      let two = one.4 in
      let all1 : AreNamed one.1 = right one.0 one.1 ts one.2 all in
      let three = two.4 in
      let all2 : AreNamed two.1 = right two.0 two.1 one.1 two.2 all1 in
      subst (λ (y : Decl). is_named_plainly y ≡ true) h.1 (procedure_is h.0.0 h.0.1.1.0 h.0.1.1.1.0 h.0.1.1.1.1.1
      (heading_named h.0.0 one.0 (left one.0 one.1 ts one.2 all) one.3)
      (declarations_named h.0.1.1.0 three.0 (left three.0 three.1 two.1 three.2 all2) three.3))

  module_named : (m : Tree) (ts : Tokens) → AreNamed ts → spells_as S «module» m ts → AreDecls m.decls
  module_named m ts all h =
      let one = h.2 in
      let all1 : AreNamed one.1 = right one.0 one.1 ts one.2 all in
      let two = one.4 in
      let all2 : AreNamed two.1 = right two.0 two.1 one.1 two.2 all1 in
      let three = two.4 in
      let all3 : AreNamed three.1 = right three.0 three.1 two.1 three.2 all2 in
      let four = three.4 in
      let all4 : AreNamed four.1 = right four.0 four.1 three.1 four.2 all3 in
      let five = four.4 in
      subst AreDecls (ap (λ (m : Tree). m.decls) h.1) (declarations_named h.0.1.1.1.1.0 five.0 (left five.0 five.1 four.1 five.2 all4) five.3)

-- ---- within any number of levels

level_named : (n : ℕ) (x : Decl) (ts : Tokens) → AreNamed ts → spells n Procedure x ts → is_named_plainly x ≡ true
level_named zero x ts all h = absurd h.1
level_named (suc n) x ts all h = procedure_named (spells n) (level_named n) x ts all h

-- ---- a text that is read

abbrev NamedBy : Result Tree NoModule → Type 0
NamedBy (Ok tree) = AreDecls tree.decls
NamedBy (Err f) = Unit {0}

parsed_named : (n : ℕ) (ts : Tokens) (r : Read Tree) → AreNamed ts → reads n «module» ts ≡ r → NamedBy (parsed r)
parsed_named n ts (Found m rest) all e =
    let v = verdict n ts (Found m rest) e in
    module_named (spells n) (level_named n) m v.0 (left v.0 rest ts v.1 all) v.2
parsed_named n ts (Fails Wrong rest) all e = tt
parsed_named n ts (Fails Deep rest) all e = tt

fault_named : (o : Option ScanFault) (i : Input) → NamedBy (by_fault o i)
fault_named (Some f) i = tt
fault_named None i = parsed_named limit (tokens_of i) (reads limit «module» (tokens_of i)) (tokens_named (suc (length i.text)) i) refl

reading_named : (text : List ℕ) → NamedBy (reading text)
unfolding reading
reading_named text = fault_named (fault_of (start_of text)) (start_of text)

pub headings_are_named : HeadingsAreNamed
headings_are_named text tree e = subst NamedBy e (reading_named text)
