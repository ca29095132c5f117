-- The places of FOR and CASE in each body of a module that is read rise.
use Rattle.std.proofs.Common.{◌≡◌, ◌⊎◌, inl, inr, ℕ, zero, suc, ◌<◌, true, List, [], ◌∷◌, ◌++◌, length, map, Option, Some, None, Result, Ok, Err, refl, sym, subst, ◌∙◌, arith}
use Rattle.std.specs.List.{AllByRecursion}
use Rattle.ob_tree.specs.declared.symbol.Symbol.TheVariants as s
use Rattle.ob_tree.specs.declared.pos.Pos.{Pos}
use Rattle.ob_tree.specs.declared.stmt.Stmt.{Stmt}
use Rattle.ob_tree.specs.declared.decl.Decl.{Decl}
use Rattle.ob_tree.specs.declared.decl.Module.{Module as Module}
use Rattle.ob_scan.specs.declared.fault.ScanFault.{ScanFault}
use Rattle.ob_scan.specs.Scanning.{Input, start_of}
use Rattle.ob_parse_grammar.specs.Phrase.{Tokens, Nest, AnExpr, AType, Statements, Negated, Procedure, Tree, nest, Spelling, spells_as, spells_maybe, spells_many}
use Rattle.ob_parse_grammar.specs.Expressions.{next_of, list_of, joined}
use Rattle.ob_parse_grammar.specs.Declarations as de
use Rattle.ob_parse_grammar.specs.Reading.{Read, Found, Fails, Wrong, Deep}
use Rattle.ob_parse_grammar.specs.Grammar.{rule, IsVoid, reads, spells}
use Rattle.ob_parse_grammar.proofs.Verdicts.{verdict}
use Rattle.ob_parse_grammar.specs.Depth.{limit}
use Rattle.ob_parse_grammar.specs.Texts.{tokens_of}
use Rattle.ob_parse_grammar.specs.TextReading.{NoModule, fault_of, parsed, by_fault, reading}
use Rattle.law_typing.specs.Spelled.{all_true}
use Rattle.law_spelling_read.specs.Placed.{are_rising, places_of, decl_placed, tree_placed, PlacesRise}
use Rattle.law_spelling_read.proofs.Order.{Before, Rise, rise_left, rise_right, Among, among_rising}
use Rattle.law_spelling_read.proofs.Scanned.{behind_it, tokens_rise}
use Rattle.law_spelling_read.proofs.Parts.{empty_is, constant_is, type_is, variables_are, procedure_is, forward_is, exchanged}
use Rattle.law_spelling_read.proofs.Sequences.{origin, Inside, Spelled, in_right, statements_among}
use Rattle.law_lists.proofs.Lists.{both_true}

-- ---- lists

abbrev IsPlaced : Decl → Type 0
IsPlaced x = decl_placed x ≡ true

abbrev Placed : List Decl → Type 0
Placed ds = AllByRecursion IsPlaced ds

all_of : (ds : List Decl) → Placed ds → all_true (map decl_placed ds) ≡ true
all_of [] h = refl
all_of (x ∷ ds) h = both_true (decl_placed x) (all_true (map decl_placed ds)) h.0 (all_of ds h.1)

all_join : (xs ys : List Decl) → Placed xs → Placed ys → Placed (xs ++ ys)
all_join [] ys h k = k
all_join (x ∷ xs) ys h k = (h.0, all_join xs ys h.1 k)

all_joined : (xss : List (List Decl)) → AllByRecursion Placed xss → Placed (joined xss)
all_joined [] h = tt
all_joined (xs ∷ xss) h = all_join xs (joined xss) h.0 (all_joined xss h.1)

each : {A : Type 0} (S : Spelling A) (P : A → Type 0) → ((x : A) (ts : Tokens) → S x ts → P x) → (xs : List A) (ts : Tokens) → spells_many S xs ts → AllByRecursion P xs
each S P f [] ts h = tt
each S P f (x ∷ xs) ts h = (f x h.0 h.3, each S P f xs h.1 h.4)

-- where tokens rise
rises_left : (ts a b : Tokens) → ts ≡ a ++ b → Rise origin ts → Rise origin a
rises_left ts a b e r = rise_left origin a b (subst (λ (us : Tokens). Rise origin us) e r)

rises_right : (ts a b : Tokens) → ts ≡ a ++ b → Rise origin ts → Rise origin b
rises_right ts a b e r = rise_right origin a b (subst (λ (us : Tokens). Rise origin us) e r)

each_risen : {A : Type 0} (S : Spelling A) (P : A → Type 0) → ((x : A) (ts : Tokens) → Rise origin ts → S x ts → P x) → (xs : List A) (ts : Tokens) → Rise origin ts → spells_many S xs ts → AllByRecursion P xs
each_risen S P f [] ts r h = tt
each_risen S P f (x ∷ xs) ts r h = (f x h.0 (rises_left ts h.0 h.1 h.2 r) h.3, each_risen S P f xs h.1 (rises_right ts h.0 h.1 h.2 r) h.4)

-- ---- declarations

constant_placed : (x : Decl) (ts : Tokens) → Spelled de.constant x ts → IsPlaced x
constant_placed x ts h = let y = h.0 in subst IsPlaced h.1 (constant_is y.0 y.1.1.0)

type_placed : (x : Decl) (ts : Tokens) → Spelled de.named_type x ts → IsPlaced x
type_placed x ts h = let y = h.0 in subst IsPlaced h.1 (type_is y.0 y.1.1.0)

variables_placed : (x : Decl) (ts : Tokens) → Spelled de.variables x ts → IsPlaced x
variables_placed x ts h = let y = h.0 in subst IsPlaced h.1 (variables_are y.0 y.1.1.0)

forward_placed : (x : Decl) (ts : Tokens) → Spelled de.forward x ts → IsPlaced x
forward_placed x ts h = let y = h.0 in subst IsPlaced h.1 (forward_is y.1)

block_placed : (ds : List Decl) (ts : Tokens) → Spelled de.block ds ts → Placed ds
block_placed ds ts (inl h) = subst Placed h.1 (each (spells_as Inside de.constant) IsPlaced constant_placed h.0.1 h.2.1 h.2.4)
block_placed ds ts (inr (inl h)) = subst Placed h.1 (each (spells_as Inside de.named_type) IsPlaced type_placed h.0.1 h.2.1 h.2.4)
block_placed ds ts (inr (inr h)) = subst Placed h.1 (each (spells_as Inside de.variables) IsPlaced variables_placed h.0.1 h.2.1 h.2.4)

item_placed : (x : Decl) (ts : Tokens) → Rise origin ts → Spelled de.procedure_item x ts → IsPlaced x
item_placed x ts r h =
    let k = h.2 in
    let f = k.3 in
    subst IsPlaced h.1 (go h.0.0 f.1 (rises_right k.0 (f.0 ∷ []) f.1 f.2 (rises_left ts k.0 k.1 k.2 r)) f.4)
  where
    go : (x : Decl) (us : Tokens) → Rise origin us → Spelled de.forward x us ⊎ Inside Procedure x us → IsPlaced x
    go x us r (inl k) = forward_placed x us k
    go x us r (inr k) = k r

declarations_placed : (ds : List Decl) (ts : Tokens) → Rise origin ts → Spelled de.declarations ds ts → Placed ds
declarations_placed ds ts r h =
    let y = h.0 in
    let k = h.2 in
    let b = k.3 in
    let first : Placed y.0 = subst Placed b.1 (all_joined b.0 (each (spells_as Inside de.block) Placed block_placed b.0 k.0 b.2)) in
    subst Placed h.1 (all_join y.0 y.1 first (each_risen (spells_as Inside de.procedure_item) IsPlaced item_placed y.1 k.1 (rises_right ts k.0 k.1 k.2 r) k.4))

body_among : (ss : List Stmt) (ts : Tokens) → Spelled de.body ss ts → Among (places_of ss) ts
body_among ss ts h = subst (λ (ss : List Stmt). Among (places_of ss) ts) h.1 (go h.0 h.2)
  where
    go : (o : Option (List Stmt)) → spells_maybe (spells_as Inside (next_of s.KwBegin (nest Statements))) o ts → Among (places_of (list_of o)) ts
    go None k = tt
    go (Some ss) k = let y = k.0 in let l = k.2 in subst (λ (ss : List Stmt). Among (places_of ss) ts) k.1 (in_right (places_of y.1) ts l.0 l.1 l.2 l.4)

body_rising : (ss : List Stmt) (ts : Tokens) → Rise origin ts → Spelled de.body ss ts → are_rising (places_of ss) ≡ true
body_rising ss ts r h = among_rising origin (places_of ss) ts r (body_among ss ts h)

procedure_placed : (x : Decl) (ts : Tokens) → Rise origin ts → Spelled de.procedure x ts → IsPlaced x
procedure_placed x ts r h =
    let y = h.0 in
    let ds = y.1.1.0 in
    let ss = y.1.1.1.0 in
    let k = h.2 in
    let l = k.4 in
    let m = l.4 in
    let n = m.4 in
    let r1 = rises_right ts k.0 k.1 k.2 r in
    let r2 = rises_right k.1 l.0 l.1 l.2 r1 in
    let r3 = rises_right l.1 m.0 m.1 m.2 r2 in
    subst IsPlaced h.1 (procedure_is y.0 ds ss y.1.1.1.1.1 ∙ both_true (all_true (map decl_placed ds)) (are_rising (places_of ss))
    (all_of ds (declarations_placed ds m.0 (rises_left l.1 m.0 m.1 m.2 r2) m.3))
    (body_rising ss n.0 (rises_left m.1 n.0 n.1 n.2 r3) n.3))

-- ---- within any number of levels

rules : (n : Nest) (x : Tree n) (ts : Tokens) → Spelled (rule n) x ts → Inside n x ts
rules AnExpr x ts h = tt
rules AType x ts h = tt
rules Statements x ts h = statements_among x ts h
rules Negated x ts h = tt
rules Procedure x ts h = λ r. procedure_placed x ts r h

void : (n : Nest) (x : Tree n) (ts : Tokens) → IsVoid n x → Inside n x ts
void AnExpr x ts h = tt
void AType x ts h = tt
void Statements x ts h = subst (λ (xs : List Stmt). Among (places_of xs) ts) (sym h) (subst (λ (ps : List Pos). Among (ps ++ []) ts) (sym empty_is) tt)
void Negated x ts h = tt
void Procedure x ts h = absurd h

nested : (n : ℕ) (k : Nest) (x : Tree k) (ts : Tokens) → spells n k x ts → Inside k x ts
nested zero k x ts h = void k x ts h.1
nested (suc n) k x ts h = rules k x ts (exchanged (spells n) Inside (λ k x us i. nested n k x us i) (rule k) x ts h)

-- ---- a module

abbrev IsTree : Module → Type 0
IsTree m = tree_placed m ≡ true

module_placed : (m : Module) (ts : Tokens) → Rise origin ts → Spelled de.«module» m ts → IsTree m
module_placed m ts r h =
    let y = h.0 in
    let ds = y.1.1.1.1.0 in
    let ss = y.1.1.1.1.1.0 in
    let a = h.2 in
    let b = a.4 in
    let c = b.4 in
    let i = c.4 in
    let k = i.4 in
    let l = k.4 in
    let r1 = rises_right ts a.0 a.1 a.2 r in
    let r2 = rises_right a.1 b.0 b.1 b.2 r1 in
    let r3 = rises_right b.1 c.0 c.1 c.2 r2 in
    let r4 = rises_right c.1 i.0 i.1 i.2 r3 in
    let r5 = rises_right i.1 k.0 k.1 k.2 r4 in
    subst IsTree h.1 (both_true (all_true (map decl_placed ds)) (are_rising (places_of ss))
    (all_of ds (declarations_placed ds k.0 (rises_left i.1 k.0 k.1 k.2 r4) k.3))
    (body_rising ss l.0 (rises_left k.1 l.0 l.1 l.2 r5) l.3))

abbrev PlacedBy : Result Module NoModule → Type 0
PlacedBy (Ok tree) = IsTree tree
PlacedBy (Err f) = Unit {0}

parsed_placed : (n : ℕ) (ts : Tokens) (r : Read Module) → Rise origin ts → reads n de.«module» ts ≡ r → PlacedBy (parsed r)
parsed_placed n ts (Found m rest) g i =
    let v = verdict n ts (Found m rest) i in
    module_placed m v.0 (rises_left ts v.0 rest v.1 g) (exchanged (spells n) Inside (λ k x us j. nested n k x us j) de.«module» m v.0 v.2)
parsed_placed n ts (Fails Wrong rest) g i = tt
parsed_placed n ts (Fails Deep rest) g i = tt

starts : (text : List ℕ) → Before origin (start_of text).pos
starts text = let h : 0 < 1 = omega arith in inl h

fault_placed : (o : Option ScanFault) (text : List ℕ) → PlacedBy (by_fault o (start_of text))
fault_placed (Some f) text = tt
fault_placed None text =
    let i : Input = start_of text in
    parsed_placed limit (tokens_of i) (reads limit de.«module» (tokens_of i)) (behind_it origin i.pos (tokens_of i) (starts text) (tokens_rise (suc (length i.text)) i)) refl

reading_placed : (text : List ℕ) → PlacedBy (reading text)
unfolding reading
reading_placed text = fault_placed (fault_of (start_of text)) text

pub places_rise : PlacesRise
places_rise text tree e = subst PlacedBy e (reading_placed text)
