-- The places of FOR and CASE in each statement that the grammar makes, and phrases with what is nested.
use Rattle.std.proofs.Common.{◌≡◌, ◌⊎◌, inl, inr, Bool, true, List, [], ◌∷◌, ◌++◌, map, Option, Some, None, sym, ap, ◌∙◌}
use Rattle.std.specs.Prelude.{◌&&◌}
use Rattle.ob_tree.specs.declared.pos.Pos.{Pos}
use Rattle.ob_tree.specs.declared.ident.Ident.{Ident}
use Rattle.ob_tree.specs.declared.ident.IdentDef.{IdentDef}
use Rattle.ob_tree.specs.declared.expr.Expr.{Expr}
use Rattle.ob_tree.specs.declared.expr.Element.{Element}
use Rattle.ob_tree.specs.declared.expr.Designator.{Designator}
use Rattle.ob_tree.specs.declared.stmt.Stmt.{Stmt}
use Rattle.ob_tree.specs.declared.stmt.Stmt.TheVariants as st
use Rattle.ob_tree.specs.declared.stmt.Branch.{Branch, roll-Branch}
use Rattle.ob_tree.specs.declared.stmt.Case.{Case, roll-Case}
use Rattle.ob_tree.specs.declared.stmt.GuardedBranch.{GuardedBranch, roll-GuardedBranch}
use Rattle.ob_tree.specs.declared.stmt.Guard.{Guard}
use Rattle.ob_tree.specs.declared.stmt.Stmt.TheOpen.{Stmt-F}
use Rattle.ob_tree.specs.declared.stmt.Stmt.TheFolds.{fold-roll-Stmt, fold-roll-Branch, fold-roll-Case, fold-roll-GuardedBranch}
use Rattle.ob_tree.specs.declared.type_node.TypeNode.{TypeNode}
use Rattle.ob_tree.specs.declared.decl.Heading.{Heading}
use Rattle.ob_tree.specs.declared.decl.Decl.{Decl}
use Rattle.ob_tree.specs.declared.decl.Decl.TheVariants as d
use Rattle.ob_tree.specs.declared.decl.Decl.TheOpen.{Decl-F}
use Rattle.ob_tree.specs.declared.decl.Decl.TheFolds.{fold-roll-Decl}
use Rattle.ob_parse_grammar.specs.Phrase.{Tokens, Nest, Tree, Phrase, word, both, made, maybe, many, either, nest, fork, Spelling, spells_as, spells_maybe, spells_many}
use Rattle.law_typing.specs.Spelled.{all_true}
use Rattle.law_typing.specs.Bodies.{in_all, place_layer, branch_places_layer, case_places_layer, guarded_places_layer, hidden_places, branch_places, case_places, guarded_places}
use Rattle.law_spelling_read.specs.Placed.{are_rising, places_of, decl_layer, decl_placed}

-- ---- statements

-- those of an ELSE
abbrev pub else_places : Option (List Stmt) → List Pos
else_places None = []
else_places (Some ss) = places_of ss

pub empty_is : hidden_places st.Empty ≡ []
empty_is = ap hidden_places (sym st.rolls-Empty) ∙ fold-roll-Stmt (List Pos) (List Pos) (List Pos) (List Pos) place_layer branch_places_layer case_places_layer guarded_places_layer Stmt-F.Empty

pub call_is : (n : Designator) → hidden_places (st.Call n) ≡ []
call_is n = ap hidden_places (sym (st.rolls-Call n)) ∙ fold-roll-Stmt (List Pos) (List Pos) (List Pos) (List Pos) place_layer branch_places_layer case_places_layer guarded_places_layer (Stmt-F.Call n)

pub assign_is : (n : Designator) (at : Pos) (x : Expr) → hidden_places (st.Assign n at x) ≡ []
assign_is n at x = ap hidden_places (sym (st.rolls-Assign n at x)) ∙ fold-roll-Stmt (List Pos) (List Pos) (List Pos) (List Pos) place_layer branch_places_layer case_places_layer guarded_places_layer (Stmt-F.Assign n at x)

pub if_is : (at : Pos) (bs : List Branch) (o : Option (List Stmt)) → hidden_places (st.If at bs o) ≡ in_all (map branch_places bs) ++ else_places o
if_is at bs None = ap hidden_places (sym (st.rolls-If at bs None)) ∙ fold-roll-Stmt (List Pos) (List Pos) (List Pos) (List Pos) place_layer branch_places_layer case_places_layer guarded_places_layer (Stmt-F.If at bs None)
if_is at bs (Some ss) = ap hidden_places (sym (st.rolls-If at bs (Some ss))) ∙ fold-roll-Stmt (List Pos) (List Pos) (List Pos) (List Pos) place_layer branch_places_layer case_places_layer guarded_places_layer (Stmt-F.If at bs (Some ss))

pub case_stmt_is : (at : Pos) (x : Expr) (cs : List Case) (o : Option (List Stmt)) → hidden_places (st.Case at x cs o) ≡ at ∷ (in_all (map case_places cs) ++ else_places o)
case_stmt_is at x cs None = ap hidden_places (sym (st.rolls-Case at x cs None)) ∙ fold-roll-Stmt (List Pos) (List Pos) (List Pos) (List Pos) place_layer branch_places_layer case_places_layer guarded_places_layer (Stmt-F.Case at x cs None)
case_stmt_is at x cs (Some ss) = ap hidden_places (sym (st.rolls-Case at x cs (Some ss))) ∙ fold-roll-Stmt (List Pos) (List Pos) (List Pos) (List Pos) place_layer branch_places_layer case_places_layer guarded_places_layer (Stmt-F.Case at x cs (Some ss))

pub while_is : (at : Pos) (x : Expr) (ss : List Stmt) → hidden_places (st.While at x ss) ≡ places_of ss
while_is at x ss = ap hidden_places (sym (st.rolls-While at x ss)) ∙ fold-roll-Stmt (List Pos) (List Pos) (List Pos) (List Pos) place_layer branch_places_layer case_places_layer guarded_places_layer (Stmt-F.While at x ss)

pub repeat_is : (at : Pos) (ss : List Stmt) (x : Expr) → hidden_places (st.Repeat at ss x) ≡ places_of ss
repeat_is at ss x = ap hidden_places (sym (st.rolls-Repeat at ss x)) ∙ fold-roll-Stmt (List Pos) (List Pos) (List Pos) (List Pos) place_layer branch_places_layer case_places_layer guarded_places_layer (Stmt-F.Repeat at ss x)

pub for_is : (at : Pos) (x : Ident) (a b : Expr) (o : Option Expr) (ss : List Stmt) → hidden_places (st.For at x a b o ss) ≡ at ∷ places_of ss
for_is at x a b o ss = ap hidden_places (sym (st.rolls-For at x a b o ss)) ∙ fold-roll-Stmt (List Pos) (List Pos) (List Pos) (List Pos) place_layer branch_places_layer case_places_layer guarded_places_layer (Stmt-F.For at x a b o ss)

pub loop_is : (at : Pos) (ss : List Stmt) → hidden_places (st.Loop at ss) ≡ places_of ss
loop_is at ss = ap hidden_places (sym (st.rolls-Loop at ss)) ∙ fold-roll-Stmt (List Pos) (List Pos) (List Pos) (List Pos) place_layer branch_places_layer case_places_layer guarded_places_layer (Stmt-F.Loop at ss)

pub exit_is : (at : Pos) → hidden_places (st.Exit at) ≡ []
exit_is at = ap hidden_places (sym (st.rolls-Exit at)) ∙ fold-roll-Stmt (List Pos) (List Pos) (List Pos) (List Pos) place_layer branch_places_layer case_places_layer guarded_places_layer (Stmt-F.Exit at)

pub return_is : (at : Pos) (o : Option Expr) → hidden_places (st.Return at o) ≡ []
return_is at o = ap hidden_places (sym (st.rolls-Return at o)) ∙ fold-roll-Stmt (List Pos) (List Pos) (List Pos) (List Pos) place_layer branch_places_layer case_places_layer guarded_places_layer (Stmt-F.Return at o)

pub with_is : (at : Pos) (bs : List GuardedBranch) (o : Option (List Stmt)) → hidden_places (st.With at bs o) ≡ in_all (map guarded_places bs) ++ else_places o
with_is at bs None = ap hidden_places (sym (st.rolls-With at bs None)) ∙ fold-roll-Stmt (List Pos) (List Pos) (List Pos) (List Pos) place_layer branch_places_layer case_places_layer guarded_places_layer (Stmt-F.With at bs None)
with_is at bs (Some ss) = ap hidden_places (sym (st.rolls-With at bs (Some ss))) ∙ fold-roll-Stmt (List Pos) (List Pos) (List Pos) (List Pos) place_layer branch_places_layer case_places_layer guarded_places_layer (Stmt-F.With at bs (Some ss))

pub branch_is : (x : Expr) (ss : List Stmt) → branch_places (roll-Branch (record { test = x; body = ss })) ≡ places_of ss
branch_is x ss = fold-roll-Branch (List Pos) (List Pos) (List Pos) (List Pos) place_layer branch_places_layer case_places_layer guarded_places_layer (record { test = x; body = ss })

pub case_is : (ls : List Element) (ss : List Stmt) → case_places (roll-Case (record { labels = ls; body = ss })) ≡ places_of ss
case_is ls ss = fold-roll-Case (List Pos) (List Pos) (List Pos) (List Pos) place_layer branch_places_layer case_places_layer guarded_places_layer (record { labels = ls; body = ss })

pub guarded_is : (x : Guard) (ss : List Stmt) → guarded_places (roll-GuardedBranch (record { guard = x; body = ss })) ≡ places_of ss
guarded_is x ss = fold-roll-GuardedBranch (List Pos) (List Pos) (List Pos) (List Pos) place_layer branch_places_layer case_places_layer guarded_places_layer (record { guard = x; body = ss })

-- ---- declarations

pub constant_is : (n : IdentDef) (x : Expr) → decl_placed (d.Constant n x) ≡ true
constant_is n x = ap decl_placed (sym (d.rolls-Constant n x)) ∙ fold-roll-Decl Bool decl_layer (Decl-F.Constant n x)

pub type_is : (n : IdentDef) (x : TypeNode) → decl_placed (d.NamedType n x) ≡ true
type_is n x = ap decl_placed (sym (d.rolls-NamedType n x)) ∙ fold-roll-Decl Bool decl_layer (Decl-F.NamedType n x)

pub variables_are : (ns : List IdentDef) (x : TypeNode) → decl_placed (d.Variables ns x) ≡ true
variables_are ns x = ap decl_placed (sym (d.rolls-Variables ns x)) ∙ fold-roll-Decl Bool decl_layer (Decl-F.Variables ns x)

pub procedure_is : (h : Heading) (ds : List Decl) (body : List Stmt) (c : Ident) → decl_placed (d.Procedure h ds body c) ≡ all_true (map decl_placed ds) && are_rising (places_of body)
procedure_is h ds body c = ap decl_placed (sym (d.rolls-Procedure h ds body c)) ∙ fold-roll-Decl Bool decl_layer (Decl-F.Procedure h ds body c)

pub forward_is : (h : Heading) → decl_placed (d.Forward h) ≡ true
forward_is h = ap decl_placed (sym (d.rolls-Forward h)) ∙ fold-roll-Decl Bool decl_layer (Decl-F.Forward h)

-- ---- what spells what is nested may be exchanged

module _ (S T : (n : Nest) → Spelling (Tree n)) (more : (n : Nest) (x : Tree n) (ts : Tokens) → S n x ts → T n x ts) where
  if_there : {A : Type 0} (P Q : Spelling A) → ((x : A) (ts : Tokens) → P x ts → Q x ts) → (o : Option A) (ts : Tokens) → spells_maybe P o ts → spells_maybe Q o ts
  if_there P Q f None ts h = h
  if_there P Q f (Some x) ts h = f x ts h

  each : {A : Type 0} (P Q : Spelling A) → ((x : A) (ts : Tokens) → P x ts → Q x ts) → (xs : List A) (ts : Tokens) → spells_many P xs ts → spells_many Q xs ts
  each P Q f [] ts h = h
  each P Q f (x ∷ xs) ts h = (h.0, h.1, h.2, f x h.0 h.3, each P Q f xs h.1 h.4)

  either_of : {A : Type 0} (P Q U V : Spelling A) → ((x : A) (ts : Tokens) → P x ts → U x ts) → ((x : A) (ts : Tokens) → Q x ts → V x ts) → (x : A) (ts : Tokens) → P x ts ⊎ Q x ts → U x ts ⊎ V x ts
  either_of P Q U V f g x ts (inl h) = inl (f x ts h)
  either_of P Q U V f g x ts (inr h) = inr (g x ts h)

  pub exchanged : {A : Type 0} (p : Phrase A) (x : A) (ts : Tokens) → spells_as S p x ts → spells_as T p x ts
  exchanged (word s) t ts h = h
  exchanged (both p q) x ts h = (h.0, h.1, h.2, exchanged p x.0 h.0 h.3, exchanged q x.1 h.1 h.4)
  exchanged (made f p) y ts h = (h.0, h.1, exchanged p h.0 ts h.2)
  exchanged (maybe p) o ts h = if_there (spells_as S p) (spells_as T p) (λ x us k. exchanged p x us k) o ts h
  exchanged (many p) xs ts h = each (spells_as S p) (spells_as T p) (λ x us k. exchanged p x us k) xs ts h
  exchanged (either p q) x ts h = either_of (spells_as S p) (spells_as S q) (spells_as T p) (spells_as T q) (λ y us k. exchanged p y us k) (λ y us k. exchanged q y us k) x ts h
  exchanged (nest n) x ts h = more n x ts h
  exchanged (fork s n p) x ts h = (h.0, h.1, h.2, h.3, either_of (spells_as S p) (S n) (spells_as T p) (T n) (λ y us k. exchanged p y us k) (λ y us k. more n y us k) x h.1 h.4)
