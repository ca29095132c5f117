-- Procedures in turn, and what is around inside them.
use Rattle.std.proofs.Common.{◌≡◌, ℕ, zero, suc, ◌-◌, Bool, true, false, List, [], ◌∷◌, ◌++◌, length, drop, Option, Some, None, refl, sym, ap, subst, ◌∙◌, arith, length-append}
use Rattle.std.specs.Prelude.{codes, bytes_eq}
use Rattle.std.specs.List.{cons_option}
use Rattle.ob_tree.specs.declared.names.QName.{QName}
use Rattle.ob_tree.specs.declared.ident.Ident.{Ident}
use Rattle.ob_tree.specs.declared.decl.Decl.{Decl}
use Rattle.ob_tree.specs.declared.stmt.Stmt.{Stmt}
use Rattle.ob_rules.specs.declared.entity.Known.{Known}
use Rattle.ob_rules.specs.declared.notes.Notebook.{Notebook}
use Rattle.ob_rules.specs.Judged.{joined}
use Rattle.ob_rules.specs.Books.{book_after}
use Rattle.ob_rules.specs.Shapes.{Map, same_name}
use Rattle.ob_rules.specs.Names.{Around, map_of, type_desc, out_string}
use Rattle.ob_rules.specs.Types.{is_module_level, nothing}
use Rattle.ob_rules.specs.Headings.{Head}
use Rattle.ob_rules.specs.Declarations.{Part, Contents, Written_procedure, together, with_part, procedure_of as written_in, declaration, procedures_judged, around_body, procedure_contents, closing_judged}
use Rattle.ob_rules.proofs.BookLaws.{after_none, after_joined}
use Rattle.ob_cdecl_scopes.specs.Bodies.{restored}
use Rattle.ob_cdecl_scopes.specs.declared.inside.Outside.{Outside}
use Rattle.ob_cdecl.proofs.ContentsLaws.{adds_nothing, added_in_turn}
use Rattle.ob_cdecl_heading.specs.declared.head.Head.{Head as Kept}
use Rattle.ob_cdecl_heading.specs.Kept.{IsKept, AreKept, seen, bare}
use Rattle.ob_cdecl_block.specs.Blocks.{block_of, unbound}
use Rattle.ob_cdecl_block.specs.Steps.{procedures_in}
use Rattle.ob_cdecl_block.specs.Procedures.{AreReady, IsBehind, AreBehind, judged_from, judged_with, judged_first, behind_first, procedure_inside, entered, blank}
use Rattle.ob_cdecl_block.proofs.ContentLaws.{contents_left}

-- THE LAST OF A LIST

drop_front : {A : Type 0} (xs ys : List A) (n : ℕ) → n ≡ length xs → drop n (xs ++ ys) ≡ ys
drop_front [] ys zero e = refl
drop_front [] ys (suc n) e = absurd (omega arith)
drop_front (x ∷ xs) ys zero e = absurd (omega arith)
drop_front (x ∷ xs) ys (suc n) e = drop_front xs ys n (omega arith)

pub last_of : {A : Type 0} (xs ys all : List A) (n : ℕ) → all ≡ xs ++ ys → n ≡ length ys → drop (length all - n) all ≡ ys
last_of xs ys all n e f = let long = length-append xs ys in ap (λ l. drop (length l - n) l) e ∙ drop_front xs ys (length (xs ++ ys) - n) (omega (arith, long, f))

-- PROCEDURES IN TURN

step_with : (u : Around) (p : Written_procedure) (ps : List Written_procedure) (hs : List Head) → procedures_judged u (p ∷ ps) hs ≡ with_part (judged_with u p hs) (procedures_judged u ps (drop 1 hs))
step_with u p [] [] = refl
step_with u p (q ∷ ps) [] = refl
step_with u p ps (h ∷ hs) = refl

step_by : (u : Around) (o : Option Written_procedure) (ps : List Written_procedure) (hs : List Head) → procedures_judged u (cons_option o ps) hs ≡ with_part (judged_first u o hs) (procedures_judged u ps (behind_first o hs))
step_by u None ps hs = refl
step_by u (Some p) ps hs = step_with u p ps hs

pub judged_step : (u : Around) (d : Decl) (more all : List Decl) (hs : List Head) → all ≡ d ∷ more → judged_from u all hs ≡ with_part (judged_first u (written_in (declaration d)) hs) (judged_from u more (behind_first (written_in (declaration d)) hs))
judged_step u d more all hs e = ap (λ l. judged_from u l hs) e ∙ step_by u (written_in (declaration d)) (procedures_in more) hs

dropped_kept : (n : ℕ) (hs : List Kept) (ss : List Head) → AreKept n hs ss → AreKept n (drop 1 hs) (drop 1 ss)
dropped_kept n [] [] k = k
dropped_kept n [] (s ∷ ss) k = absurd k
dropped_kept n (h ∷ hs) [] k = absurd k
dropped_kept n (h ∷ hs) (s ∷ ss) k = k.1

pub first_kept : (n : ℕ) (o : Option Written_procedure) (hs : List Kept) (ss : List Head) → AreKept n hs ss → AreKept n (behind_first o hs) (behind_first o ss)
first_kept n None hs ss k = k
first_kept n (Some p) hs ss k = dropped_kept n hs ss k

dropped_behind : (known : List Known) (ss : List Head) → AreBehind known ss → AreBehind known (drop 1 ss)
dropped_behind known [] b = b
dropped_behind known (s ∷ ss) b = b.1

pub first_behind : (known : List Known) (o : Option Written_procedure) (ss : List Head) → AreBehind known ss → AreBehind known (behind_first o ss)
first_behind known None ss b = b
first_behind known (Some p) ss b = dropped_behind known ss b

dropped_ready : (n : ℕ) (known : List Known) (hs : List Kept) → AreReady n known hs → AreReady n known (drop 1 hs)
dropped_ready n known [] r = r
dropped_ready n known (h ∷ hs) r = r.1

pub first_ready : (n : ℕ) (known : List Known) (o : Option Written_procedure) (hs : List Kept) → AreReady n known hs → AreReady n known (behind_first o hs)
first_ready n known None hs r = r
first_ready n known (Some p) hs r = dropped_ready n known hs r

-- what was judged so far, and what is left
pub record PartSo (total : Around → List Head → Part) (u : Around) (left : List Decl) (heads : List Kept) (n : ℕ) (hs : List Head) (b c : Notebook) (x y : Contents) : Type 0 where
  pub so : List Head
  pub kept : AreKept n heads so
  pub behind : AreBehind u.known so
  pub noted : book_after c (judged_from u left so).notes ≡ book_after b (total u hs).notes
  pub added : together y (judged_from u left so).contents ≡ together x (total u hs).contents

pub part_more : (total : Around → List Head → Part) (u : Around) (d : Decl) (more all : List Decl) (heads next : List Kept) (n : ℕ) (hs : List Head) (b c e : Notebook) (x y z : Contents) → all ≡ d ∷ more → next ≡ behind_first (written_in (declaration d)) heads
    → ((ss : List Head) → AreKept n heads ss → AreBehind u.known ss → e ≡ book_after c (judged_first u (written_in (declaration d)) ss).notes)
    → ((ss : List Head) → AreKept n heads ss → AreBehind u.known ss → z ≡ together y (judged_first u (written_in (declaration d)) ss).contents)
    → PartSo total u all heads n hs b c x y → PartSo total u more next n hs b e x z
part_more total u d more all heads next n hs b c e x y z step is f g s =
    let o = written_in (declaration d) in
    let first = judged_first u o s.so in
    let rest = judged_from u more (behind_first o s.so) in
    let split : judged_from u all s.so ≡ with_part first rest = judged_step u d more all s.so step in
    record {
      so = behind_first o s.so;
      kept = subst (λ l. AreKept n l (behind_first o s.so)) (sym is) (first_kept n o heads s.so s.kept);
      behind = first_behind u.known o s.so s.behind;
      noted = ap (λ k. book_after k rest.notes) (f s.so s.kept s.behind) ∙ after_joined c first.notes rest.notes ∙ ap (λ p. book_after c p.notes) (sym split) ∙ s.noted;
      added = ap (λ k. together k rest.contents) (g s.so s.kept s.behind) ∙ added_in_turn y first.contents rest.contents ∙ ap (λ p. together y p.contents) (sym split) ∙ s.added;
    }

pub part_end_noted : (total : Around → List Head → Part) (u : Around) (left : List Decl) (heads : List Kept) (n : ℕ) (hs : List Head) (b c : Notebook) (x y : Contents) → left ≡ [] → PartSo total u left heads n hs b c x y → c ≡ book_after b (total u hs).notes
part_end_noted total u left heads n hs b c x y e s = sym (after_none c) ∙ ap (λ l. book_after c (judged_from u l s.so).notes) (sym e) ∙ s.noted

pub part_end_added : (total : Around → List Head → Part) (u : Around) (left : List Decl) (heads : List Kept) (n : ℕ) (hs : List Head) (b c : Notebook) (x y : Contents) → left ≡ [] → PartSo total u left heads n hs b c x y → y ≡ together x (total u hs).contents
part_end_added total u left heads n hs b c x y e s = adds_nothing y ∙ ap (λ l. together y (judged_from u l s.so).contents) (sym e) ∙ s.added

-- WHAT IS AROUND INSIDE A PROCEDURE

abbrev inside_of : Around → Head → List Known → Around
inside_of u s ks = around_body u (record s { known = ks })

pub entered_is : (n : ℕ) (u : Around) (head : Kept) (h : Head) → IsKept n head h → u.known ≡ h.known → entered u head ≡ around_body u h
entered_is n u head h k e = ap (λ s. inside_of u s u.known) k.same ∙ ap (λ ks. inside_of u (bare h) ks) e

slash_behind : (x : List ℕ) → nothing (x ++ codes "/") ≡ false
slash_behind [] = refl
slash_behind (c ∷ x) = refl

pub is_inner : (u : Around) (head : Kept) → is_module_level (entered u head) ≡ false
is_inner u head = slash_behind head.path

pub still_inside : (u v w : Around) (head : Kept) → v ≡ entered u head → u.coming ≡ [] → (is_module_level v ≡ false → w ≡ record v { coming = [] }) → w ≡ v
still_inside u v w head e f g =
    let inner : is_module_level v ≡ false = ap is_module_level e ∙ is_inner u head in
    let none : v.coming ≡ [] = ap (λ x. x.coming) e ∙ f in
    g inner ∙ ap (λ cs. record v { coming = cs }) (sym none)

-- the types are what they are, whatever names are known
by_kind : (a b : Bool) (u : Around) (ks : List Known) (q : QName) → type_desc a b (record u { known = ks }) q ≡ type_desc a b u q
by_kind true b u ks q = refl
by_kind false true u ks q = refl
by_kind false false u ks q = refl

pub same_types : (u : Around) (ks : List Known) → map_of (record u { known = ks }) ≡ map_of u
same_types u ks = λ i. λ q. by_kind (bytes_eq q.«module» u.unit) (same_name q out_string) u ks q i

-- A PROCEDURE BEHIND ITS HEADING

pub known_here : (n : ℕ) (u v : Around) (full : List Known) (head : Kept) (h : Head) → IsKept n head h → IsBehind full h → v ≡ record u { known = drop (length full - head.behind) full } → v.known ≡ h.known
known_here n u v full head h k b e = ap (λ x. x.known) e ∙ last_of b.later h.known full head.behind b.is k.behind

pub here_of : (u v : Around) (full ks : List Known) (h : Head) (ds : List Decl) (ss : List Stmt) (closing : Ident) → v ≡ record u { known = ks } → procedure_inside v h ds ss closing ≡ procedure_inside (record u { known = full }) h ds ss closing
here_of u v full ks h ds ss closing e =
    let p = block_of ds ss (around_body (record u { known = full }) h) in
    let M : Map → Part = λ m. record { notes = joined h.notes (joined (closing_judged h.name (Some closing)) p.notes); contents = procedure_contents m h p.contents } in
    ap (λ x. procedure_inside x h ds ss closing) e ∙ ap M (same_types u ks ∙ sym (same_types u full))

-- what is said of it, and what it adds
pub here_noted : (n : ℕ) (u v : Around) (head : Kept) (h : Head) (ds : List Decl) (ss : List Stmt) (closing : Ident) (b c d : Notebook) → IsKept n head h → u.known ≡ h.known → v ≡ entered u head → c ≡ book_after b (joined h.notes (closing_judged h.name (Some closing))) → d ≡ book_after c (block_of ds ss v).notes → d ≡ book_after b (procedure_inside u h ds ss closing).notes
here_noted n u v head h ds ss closing b c d k same e f g =
    let p = (block_of ds ss (around_body u h)).notes in
    let q = closing_judged h.name (Some closing) in
    g ∙ ap (λ x. book_after c (block_of ds ss x).notes) (e ∙ entered_is n u head h k same)
    ∙ ap (λ x. book_after x p) (f ∙ sym (after_joined b h.notes q))
    ∙ after_joined (book_after b h.notes) q p
    ∙ after_joined b h.notes (joined q p)

pub here_added : (n : ℕ) (u v w : Around) (head : Kept) (h left : Head) (ds : List Decl) (ss : List Stmt) (closing : Ident) (x y inner : Contents) → IsKept n head h → u.known ≡ h.known → v ≡ entered u head → w ≡ u → left ≡ blank (seen head) → inner ≡ unbound (block_of ds ss v).contents → y ≡ together x (procedure_contents (map_of w) left inner) → y ≡ together x (procedure_inside u h ds ss closing).contents
here_added n u v w head h left ds ss closing x y inner k same e f l g is =
    let c = (block_of ds ss (around_body u h)).contents in
    let inner_is : inner ≡ unbound c = g ∙ ap (λ z. unbound (block_of ds ss z).contents) (e ∙ entered_is n u head h k same) in
    is ∙ ap (λ z. together x (procedure_contents (map_of z) left inner)) f ∙ ap (together x) (contents_left (map_of u) left (seen head) h c inner l k.same inner_is)

pub left_here : (u v w z : Around) (o : Outside) → w ≡ v → restored o v ≡ u → z ≡ restored o w → z ≡ u
left_here u v w z o e f g = g ∙ ap (restored o) e ∙ f

pub same_procedure : (u : Around) (h : Head) (closing : Ident) {ds es : List Decl} {ss rs : List Stmt} → ds ≡ es → ss ≡ rs → procedure_inside u h ds ss closing ≡ procedure_inside u h es rs closing
same_procedure u h closing {es = es} {ss = ss} e f = ap (λ l. procedure_inside u h l ss closing) e ∙ ap (λ l. procedure_inside u h es l closing) f
