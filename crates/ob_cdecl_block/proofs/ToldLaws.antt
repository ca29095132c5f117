-- What is declared before the procedures, step by step.
use Rattle.std.proofs.Common.{◌≡◌, ℕ, suc, List, [], ◌∷◌, ◌++◌, Bool, sym, ap, subst, ◌∙◌}
use Rattle.std.specs.Prelude.{reverse}
use Rattle.std.specs.List.{cons_option}
use Rattle.ob_tree.specs.declared.decl.Decl.{Decl}
use Rattle.ob_rules.specs.declared.notes.Later.{Later}
use Rattle.ob_rules.specs.declared.notes.Notebook.{Notebook}
use Rattle.ob_rules.specs.Judged.{Notes, joined}
use Rattle.ob_rules.specs.Books.{book_after, empty_book}
use Rattle.ob_rules.specs.Names.{Around, map_of}
use Rattle.ob_rules.specs.Headings.{Heads, forwards_judged, reversed}
use Rattle.ob_rules.specs.Declarations.{type_name_of, declaration, nothing_later, pointers_judged, all_judged, field_judged, heads_later, with_bound, binding_at}
use Rattle.ob_rules.proofs.BookLaws.{after_joined}
use Rattle.ob_cdecl_heading.specs.declared.head.Head.{Head as Kept}
use Rattle.ob_cdecl_heading.specs.Kept.{AreKept}
use Rattle.ob_cdecl.specs.Order.{plain_in_order}
use Rattle.ob_cdecl.proofs.BookJoins.{without_later, later_in}
use Rattle.ob_cdecl_block.proofs.FieldLaws.{later_kept}
use Rattle.ob_cdecl_block.specs.Steps.{type_names, kept_later, headings, headed, binding_of, around_bound, field_notes, bound_notes}

-- THE NAMES OF THE TYPES

pub one_name : (d : Decl) (more all : List Decl) (names old : List (List ℕ)) → all ≡ d ∷ more → names ≡ cons_option (type_name_of (declaration d)) old → old ≡ type_names more → names ≡ type_names all
one_name d more all names old step is inv = is ∙ ap (cons_option (type_name_of (declaration d))) inv ∙ ap type_names (sym step)

-- WHAT IS JUDGED LATER

pub plain_taken : (e p t : Notebook) (n : Notes) → e ≡ empty_book → p ≡ book_after e n → t ≡ record p { later = [] } → t ≡ book_after empty_book (nothing_later n)
plain_taken e p t n new noted is = without_later p t n (noted ∙ ap (λ k. book_after k n) new) is

pub plain_later : (e p : Notebook) (n : Notes) (ls : List Later) → e ≡ empty_book → p ≡ book_after e n → ls ≡ p.later → ls ≡ n.later
plain_later e p n ls new noted is = is ∙ later_in p n (noted ∙ ap (λ k. book_after k n) new)

-- WHEN ALL HEADINGS ARE KNOWN

pub pointers_noted : (n : ℕ) (hs : Heads) (heads : List Kept) (u : Around) (left later ls : List Later) (b c : Notebook) → u ≡ hs.around → AreKept n heads (reversed hs.before)
    → left ≡ later ++ kept_later (reverse heads) → ls ≡ left → c ≡ book_after b (pointers_judged u ls) → c ≡ book_after b (pointers_judged hs.around (later ++ heads_later hs.before))
pointers_noted n hs heads u left later ls b c e k f g is =
    is ∙ ap (λ x. book_after b (pointers_judged x ls)) e
    ∙ ap (λ l. book_after b (pointers_judged hs.around l)) (g ∙ f ∙ ap (λ l. later ++ l) (later_kept n heads hs.before k))

pub bound_around : (level : Bool) (hs : Heads) (u v : Around) → u ≡ hs.around → v ≡ with_bound u (binding_at level u (reversed hs.before)) → v ≡ around_bound level hs
bound_around level hs u v e f = f ∙ ap (λ x. with_bound x (binding_at level x (reversed hs.before))) e

pub forwards_noted : (hs : Heads) (u : Around) (e f : Notebook) → u ≡ hs.around → e ≡ empty_book → f ≡ book_after e (forwards_judged (map_of u) (reversed hs.before) (reversed hs.before)) → f ≡ book_after empty_book (forwards_judged (map_of hs.around) (reversed hs.before) (reversed hs.before))
forwards_noted hs u e f is new noted =
    noted ∙ ap (λ k. book_after k (forwards_judged (map_of u) (reversed hs.before) (reversed hs.before))) new
    ∙ ap (λ x. book_after empty_book (forwards_judged (map_of x) (reversed hs.before) (reversed hs.before))) is

pub bound_noted : (level : Bool) (later : List Later) (hs : Heads) (u v : Around) (b c d k : Notebook) → u ≡ hs.around → v ≡ around_bound level hs
    → c ≡ book_after b (binding_at level u (reversed hs.before)).notes
    → d ≡ book_after c (all_judged (field_judged (map_of v)) (later ++ heads_later hs.before))
    → k ≡ book_after d (forwards_judged (map_of hs.around) (reversed hs.before) (reversed hs.before))
    → k ≡ book_after b (bound_notes level later hs)
bound_noted level later hs u v b c d k e f bind fields forwards =
    let n = (binding_of level hs).notes in
    let m = field_notes (around_bound level hs) later hs in
    let r = forwards_judged (map_of hs.around) (reversed hs.before) (reversed hs.before) in
    forwards
    ∙ ap (λ x. book_after x r) (fields ∙ ap (λ x. book_after c (all_judged (field_judged (map_of x)) (later ++ heads_later hs.before))) f ∙ ap (λ x. book_after x m) (bind ∙ ap (λ x. book_after b (binding_at level x (reversed hs.before)).notes) e))
    ∙ after_joined (book_after b n) m r
    ∙ after_joined b n (joined m r)

pub two_noted : (b c d : Notebook) (m n : Notes) → c ≡ book_after b m → d ≡ book_after c n → d ≡ book_after b (joined m n)
two_noted b c d m n e f = f ∙ ap (λ x. book_after x n) e ∙ after_joined b m n

-- ALL THAT IS DECLARED

pub headed_around : (ds : List Decl) (v w x : Around) → w ≡ (plain_in_order ds v).around → x ≡ (headings ds w).around → x ≡ (headed ds v).around
headed_around ds v w x e f = f ∙ ap (λ y. (headings ds y).around) e

pub headed_kept : (ds : List Decl) (v w : Around) (hs gs : List Kept) → w ≡ (plain_in_order ds v).around → gs ≡ hs → AreKept (suc w.scope) hs (reversed (headings ds w).before) → AreKept (suc (plain_in_order ds v).around.scope) gs (reversed (headed ds v).before)
headed_kept ds v w hs gs e f k =
    let P : Around → Type 0 = λ x. AreKept (suc x.scope) hs (reversed (headings ds x).before) in
    subst (λ l. AreKept (suc (plain_in_order ds v).around.scope) l (reversed (headed ds v).before)) (sym f) (subst P e k)
