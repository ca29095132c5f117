-- What each alternative of a declaration is, by its parts.
use Rattle.std.proofs.Common.{◌≡◌, ℕ, List, [], ◌∷◌, Some, None, map, sym, ap, subst, ◌∙◌}
use Rattle.std.specs.Prelude.{slice_get, false}
use Rattle.ob_tree.specs.declared.ident.Ident.{Ident}
use Rattle.ob_tree.specs.declared.ident.IdentDef.{IdentDef}
use Rattle.ob_tree.specs.declared.expr.Expr.{Expr}
use Rattle.ob_tree.specs.declared.stmt.Stmt.{Stmt}
use Rattle.ob_tree.specs.declared.type_node.TypeNode.{TypeNode}
use Rattle.ob_tree.specs.declared.decl.Heading.{Heading}
use Rattle.ob_tree.specs.declared.decl.Decl.{Decl}
use Rattle.ob_tree.specs.declared.decl.Decl.TheVariants as d
use Rattle.ob_tree.specs.declared.decl.Decl.TheOpen.{Decl-F}
use Rattle.ob_tree.specs.declared.decl.Decl.TheFolds.{fold-roll-Decl}
use Rattle.ob_rules.specs.declared.entity.Known.{Known}
use Rattle.ob_rules.specs.declared.notes.Notebook.{Notebook}
use Rattle.ob_rules.specs.Books.{book_after}
use Rattle.ob_rules.specs.Names.{Around}
use Rattle.ob_rules.specs.Headings.{Head, Heads, add_heading, heading_of}
use Rattle.ob_rules.specs.Statements.{judging}
use Rattle.ob_rules.specs.Declarations.{Declaration, Written_procedure, procedure_of as written_in, declaration, decl_rule, block}
use Rattle.ob_rules.proofs.BookLaws.{after_none}
use Rattle.ob_cdecl_heading.specs.declared.head.Head.{Head as Kept}
use Rattle.ob_cdecl_heading.specs.Kept.{IsKept, AreKept}
use Rattle.ob_cdecl_block.specs.Steps.{heading_added}
use Rattle.ob_cdecl_block.specs.Procedures.{IsReady, AreReady, IsBehind, AreBehind, judged_first, procedure_inside}

abbrev whole_procedure : Heading → List Decl → List Stmt → Ident → Written_procedure
whole_procedure h ds ss x = record { heading = heading_of h; forward = false; closing = Some x; inside = block (map declaration ds) (map judging ss) }

procedure_is : (h : Heading) (ds : List Decl) (ss : List Stmt) (x : Ident) → written_in (declaration (d.Procedure h ds ss x)) ≡ Some (whole_procedure h ds ss x)
procedure_is h ds ss x = ap written_in (ap declaration (sym (d.rolls-Procedure h ds ss x)) ∙ fold-roll-Decl Declaration decl_rule (Decl-F.Procedure h ds ss x))

pub constant_is : (a : IdentDef) (x : Expr) → written_in (declaration (d.Constant a x)) ≡ None
constant_is a x = ap written_in (ap declaration (sym (d.rolls-Constant a x)) ∙ fold-roll-Decl Declaration decl_rule (Decl-F.Constant a x))

pub type_is : (a : IdentDef) (n : TypeNode) → written_in (declaration (d.NamedType a n)) ≡ None
type_is a n = ap written_in (ap declaration (sym (d.rolls-NamedType a n)) ∙ fold-roll-Decl Declaration decl_rule (Decl-F.NamedType a n))

pub variables_are : (xs : List IdentDef) (n : TypeNode) → written_in (declaration (d.Variables xs n)) ≡ None
variables_are xs n = ap written_in (ap declaration (sym (d.rolls-Variables xs n)) ∙ fold-roll-Decl Declaration decl_rule (Decl-F.Variables xs n))

pub first_procedure : (u : Around) (y : Decl) (h : Heading) (ds : List Decl) (ss : List Stmt) (x : Ident) (s : Head) (rest : List Head) → y ≡ d.Procedure h ds ss x → judged_first u (written_in (declaration y)) (s ∷ rest) ≡ procedure_inside u s ds ss x
first_procedure u y h ds ss x s rest e = ap (λ o. judged_first u o (s ∷ rest)) (ap (λ z. written_in (declaration z)) e ∙ procedure_is h ds ss x)

pub added_procedure : (y : Decl) (h : Heading) (ds : List Decl) (ss : List Stmt) (x : Ident) (hs : Heads) → y ≡ d.Procedure h ds ss x → heading_added (written_in (declaration y)) hs ≡ add_heading hs (heading_of h) false
added_procedure y h ds ss x hs e = ap (λ o. heading_added o hs) (ap (λ z. written_in (declaration z)) e ∙ procedure_is h ds ss x)

-- THE FIRST OF THE HEADINGS

some_same : {A : Type 0} (a b : A) → Some a ≡ Some b → a ≡ b
some_same a b e = cc

pub with_first : (P : List Head → Type 0) (n : ℕ) (known : List Known) (hs : List Kept) (head : Kept) (ss : List Head) → Some head ≡ slice_get hs 0 → AreKept n hs ss → AreBehind known ss → ((s : Head) (rest : List Head) → IsKept n head s → IsBehind known s → P (s ∷ rest)) → P ss
with_first P n known [] head ss e k b f = absurd cc
with_first P n known (h ∷ hs) head [] e k b f = absurd k
with_first P n known (h ∷ hs) head (s ∷ ss) e k b f = f s ss (subst (λ x. IsKept n x s) (sym (some_same head h e)) k.0) b.0

pub first_ready_one : (n : ℕ) (known : List Known) (hs : List Kept) (head : Kept) → Some head ≡ slice_get hs 0 → AreReady n known hs → IsReady n known head
first_ready_one n known [] head e r = absurd cc
first_ready_one n known (h ∷ hs) head e r = subst (IsReady n known) (sym (some_same head h e)) r.0

pub none_noted : (u : Around) (y : Decl) (ss : List Head) (b : Notebook) → written_in (declaration y) ≡ None → b ≡ book_after b (judged_first u (written_in (declaration y)) ss).notes
none_noted u y ss b e = sym (after_none b) ∙ ap (λ o. book_after b (judged_first u o ss).notes) (sym e)
