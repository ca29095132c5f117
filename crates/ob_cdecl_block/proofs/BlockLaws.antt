-- A sequence of declarations with its statements, put together.
use Rattle.std.proofs.Common.{◌≡◌, ℕ, suc, ◌-◌, Bool, true, false, List, [], ◌++◌, length, drop, map, refl, sym, ap, subst, ◌∙◌}
use Rattle.std.proofs.lemmas.List.{append-nil}
use Rattle.ob_tree.specs.declared.decl.Decl.{Decl}
use Rattle.ob_tree.specs.declared.stmt.Stmt.{Stmt}
use Rattle.ob_types.specs.declared.typed.TypedType.{TypedType}
use Rattle.ob_rules.specs.declared.entity.Known.{Known}
use Rattle.ob_rules.specs.declared.notes.Notebook.{Notebook}
use Rattle.ob_rules.specs.Judged.{Notes, joined}
use Rattle.ob_rules.specs.Books.{book_after}
use Rattle.ob_rules.specs.Names.{Around}
use Rattle.ob_rules.specs.Types.{is_module_level}
use Rattle.ob_rules.specs.Headings.{Head, Heads, reversed}
use Rattle.ob_rules.specs.Statements.{judging, in_turn}
use Rattle.ob_rules.specs.Declarations.{Part, Contents, together, no_contents, body_part}
use Rattle.ob_rules.proofs.BookLaws.{after_joined}
use Rattle.ob_cdecl_scopes.specs.declared.scope.Marked.{Marked}
use Rattle.ob_cdecl.specs.Growing.{Grows}
use Rattle.ob_cdecl.specs.Order.{plain_in_order}
use Rattle.ob_cdecl.proofs.Growing.{grows_on}
use Rattle.ob_cdecl.proofs.ContentsLaws.{added_in_turn}
use Rattle.ob_cdecl_block.specs.Blocks.{block_of, unbound}
use Rattle.ob_cdecl_block.specs.Steps.{plain_notes, type_names, procedures_in, headed, binding_of, around_bound, bound_notes, declared_notes, left_block}
use Rattle.ob_cdecl_heading.specs.declared.head.Head.{Head as Kept}
use Rattle.ob_cdecl_heading.specs.Kept.{AreKept}
use Rattle.ob_cdecl_block.specs.Procedures.{judged_from, AreBehind, AreReady}
use Rattle.ob_cdecl_block.proofs.HeadingLaws.{headings_grow, all_behind, are_ready, grown_scope}
use Rattle.ob_cdecl_block.proofs.ProcedureLaws.{last_of}

-- where the types are declared
abbrev pub inner_around : List Decl → Around → Around
inner_around ds u = record u { later_types = type_names ds }

abbrev heads_of : List Decl → Around → List Head
heads_of ds v = reversed (headed ds v).before

-- what procedures and statements add, where the types are declared
abbrev procedures_part : Bool → List Decl → Around → Part
procedures_part level ds v = judged_from (around_bound level (headed ds v)) ds (heads_of ds v)

abbrev stmts_part : Bool → List Decl → List Stmt → Around → Part
stmts_part level ds body v = body_part (in_turn (map judging body) (around_bound level (headed ds v)))

-- WHAT THE PROCEDURES NEED

pub heads_behind : (level : Bool) (ds : List Decl) (v w : Around) → w ≡ around_bound level (headed ds v) → AreBehind w.known (heads_of ds v)
heads_behind level ds v w e = subst (λ (x : Around). AreBehind x.known (heads_of ds v)) (sym e) (all_behind ds (plain_in_order ds v).around)

pub heads_ready : (level : Bool) (ds : List Decl) (v w : Around) (hs : List Kept) → w ≡ around_bound level (headed ds v) → AreKept (suc (plain_in_order ds v).around.scope) hs (heads_of ds v) → AreReady w.scope w.known hs
heads_ready level ds v w hs e k =
    let d = (plain_in_order ds v).around in
    let h = headed ds v in
    let start : Heads = record { around = d; before = [] } in
    let same : suc d.scope ≡ suc h.around.scope = ap suc (sym (grown_scope d h.around (headings_grow (procedures_in ds) start))) in
    subst (λ (x : Around). AreReady x.scope x.known hs) (sym e) (are_ready h.around.scope (suc d.scope) h.around.known hs (heads_of ds v) same k (all_behind ds d))

pub nothing_comes : (level : Bool) (ds : List Decl) (v w : Around) → w ≡ around_bound level (headed ds v) → w.coming ≡ []
nothing_comes level ds v w e = ap (λ x. x.coming) e

-- WHAT WAS FOUND

-- in turn: what is declared, the procedures, the statements
pub record Judged (level : Bool) (ds : List Decl) (body : List Stmt) (u v w : Around) (b0 b1 b2 b3 : Notebook) (c0 c1 c2 c3 : Contents) : Type 0 where
  pub level_is : level ≡ is_module_level u
  pub inner : v ≡ inner_around ds u
  pub around : w ≡ around_bound level (headed ds v)
  pub declared : b1 ≡ book_after b0 (declared_notes level ds v)
  pub judged : b2 ≡ book_after b1 (judged_from w ds (heads_of ds v)).notes
  pub said : b3 ≡ book_after b2 (body_part (in_turn (map judging body) w)).notes
  pub declares : c1 ≡ together c0 (plain_in_order ds v).part.contents
  pub adds : c2 ≡ together c1 (judged_from w ds (heads_of ds v)).contents
  pub does : c3 ≡ together c2 (body_part (in_turn (map judging body) w)).contents

pub judged_all : (level : Bool) (ds : List Decl) (body : List Stmt) (u v w x : Around) (names : List (List ℕ)) (hs : List Kept) (b0 b1 b2 b3 : Notebook) (c0 c1 c2 c3 : Contents)
    → level ≡ is_module_level u → names ≡ type_names ds → v ≡ record u { later_types = names } → w ≡ around_bound level (headed ds v)
    → b1 ≡ book_after b0 (declared_notes level ds v) → c1 ≡ together c0 (plain_in_order ds v).part.contents
    → AreKept (suc (plain_in_order ds v).around.scope) hs (heads_of ds v)
    → ((n : ℕ) (ss : List Head) → AreKept n hs ss → AreBehind w.known ss → b2 ≡ book_after b1 (judged_from w ds ss).notes)
    → ((n : ℕ) (ss : List Head) → AreKept n hs ss → AreBehind w.known ss → c2 ≡ together c1 (judged_from w ds ss).contents)
    → x ≡ w → b3 ≡ book_after b2 (body_part (in_turn (map judging body) x)).notes → c3 ≡ together c2 (body_part (in_turn (map judging body) x)).contents
    → Judged level ds body u v w b0 b1 b2 b3 c0 c1 c2 c3
judged_all level ds body u v w x names hs b0 b1 b2 b3 c0 c1 c2 c3 le named inner around declared declares kept judged adds stays said does =
    let L : List (List ℕ) → Around = λ ns. record u { later_types = ns } in
    let n = suc (plain_in_order ds v).around.scope in
    let behind = heads_behind level ds v w around in
    record {
      level_is = le;
      inner = inner ∙ ap L named;
      around = around;
      declared = declared;
      judged = judged n (heads_of ds v) kept behind;
      said = said ∙ ap (λ y. book_after b2 (body_part (in_turn (map judging body) y)).notes) stays;
      declares = declares;
      adds = adds n (heads_of ds v) kept behind;
      does = does ∙ ap (λ y. together c2 (body_part (in_turn (map judging body) y)).contents) stays;
    }

four_noted : (b : Notebook) (p q r s : Notes) → book_after (book_after (book_after b (joined p q)) r) s ≡ book_after b (joined p (joined q (joined r s)))
four_noted b p q r s =
    ap (λ k. book_after (book_after k r) s) (sym (after_joined b p q)) ∙ after_joined (book_after (book_after b p) q) r s ∙ after_joined (book_after b p) q (joined r s) ∙ after_joined b p (joined q (joined r s))

pub block_noted : (level : Bool) (ds : List Decl) (body : List Stmt) (u v w : Around) (b0 b1 b2 b3 : Notebook) (c0 c1 c2 c3 : Contents) → Judged level ds body u v w b0 b1 b2 b3 c0 c1 c2 c3 → b3 ≡ book_after b0 (block_of ds body u).notes
block_noted level ds body u v w b0 b1 b2 b3 c0 c1 c2 c3 j =
    let F : Bool → Around → Notebook = λ l x. book_after (book_after (book_after b0 (declared_notes l ds x)) (procedures_part l ds x).notes) (stmts_part l ds body x).notes in
    let m = is_module_level u in
    let x = inner_around ds u in
    j.said
    ∙ ap (λ y. book_after b2 (body_part (in_turn (map judging body) y)).notes) j.around
    ∙ ap (λ k. book_after k (stmts_part level ds body v).notes) (j.judged ∙ ap (λ y. book_after b1 (judged_from y ds (heads_of ds v)).notes) j.around ∙ ap (λ k. book_after k (procedures_part level ds v).notes) j.declared)
    ∙ ap (λ l. F l v) j.level_is
    ∙ ap (F m) j.inner
    ∙ four_noted b0 (plain_notes (plain_in_order ds x) (headed ds x)) (bound_notes m (plain_in_order ds x).part.notes.later (headed ds x)) (procedures_part m ds x).notes (stmts_part m ds body x).notes

three_added : (a d r s : Contents) → together (together (together a d) r) s ≡ together a (together d (together r s))
three_added a d r s = ap (λ c. together c s) (added_in_turn a d r) ∙ added_in_turn a (together d r) s ∙ ap (together a) (added_in_turn d r s)

without_bound : (a c d r s : Contents) (own : List TypedType) → a.bound ≡ [] → c.bound ≡ [] → c ≡ together a (together d (together r s)) → c ≡ together a (unbound (together d (together (record no_contents { bound = own }) (together r s))))
without_bound a c d r s own e f g =
    let all = together a (together d (together r s)) in
    let F : List TypedType → Contents = λ l. record c { bound = l } in
    let G : Contents → Contents = λ x. record x { bound = [] } in
    let H : List TypedType → Contents = λ l. record all { bound = l ++ [] } in
    ap F f ∙ ap G g ∙ ap H (sym e)

pub block_added : (level : Bool) (ds : List Decl) (body : List Stmt) (u v w : Around) (b0 b1 b2 b3 : Notebook) (c0 c1 c2 c3 : Contents) → Judged level ds body u v w b0 b1 b2 b3 c0 c1 c2 c3 → c0.bound ≡ [] → c3.bound ≡ [] → c3 ≡ together c0 (unbound (block_of ds body u).contents)
block_added level ds body u v w b0 b1 b2 b3 c0 c1 c2 c3 j e f =
    let F : Bool → Around → Contents = λ l x. together (together (together c0 (plain_in_order ds x).part.contents) (procedures_part l ds x).contents) (stmts_part l ds body x).contents in
    let m = is_module_level u in
    let x = inner_around ds u in
    let d = (plain_in_order ds x).part.contents in
    let r = (procedures_part m ds x).contents in
    let s = (stmts_part m ds body x).contents in
    let all : c3 ≡ together c0 (together d (together r s)) = j.does
    ∙ ap (λ y. together c2 (body_part (in_turn (map judging body) y)).contents) j.around
    ∙ ap (λ k. together k (stmts_part level ds body v).contents) (j.adds ∙ ap (λ y. together c1 (judged_from y ds (heads_of ds v)).contents) j.around ∙ ap (λ k. together k (procedures_part level ds v).contents) j.declares)
    ∙ ap (λ l. F l v) j.level_is
    ∙ ap (F m) j.inner
    ∙ three_added c0 d r s in
    without_bound c0 c3 d r s (binding_of m (headed ds x)).own e f all

-- WHAT IS AROUND BEHIND IT

none_more : (a b d : List TypedType) → a ≡ [] → b ≡ [] → b ≡ a ++ d → d ≡ []
none_more a b d e f g = sym (ap (λ l. l ++ d) e) ∙ sym g ∙ f

bound_alone : (own d r : List TypedType) → d ≡ [] → r ≡ [] → own ≡ d ++ (own ++ (r ++ []))
bound_alone own d r e f = sym (append-nil own) ∙ ap (λ l. own ++ (l ++ [])) (sym f) ∙ ap (λ l. l ++ (own ++ (r ++ []))) (sym e)

pub block_bound : (level : Bool) (ds : List Decl) (body : List Stmt) (u v w z : Around) (m : Marked) (names : List (List ℕ)) (b0 b1 b2 b3 : Notebook) (c0 c1 c2 c3 : Contents) → Judged level ds body u v w b0 b1 b2 b3 c0 c1 c2 c3 → c0.bound ≡ [] → c1.bound ≡ [] → c2.bound ≡ [] → z ≡ left_block level m names w → is_module_level u ≡ true → z.own ≡ (block_of ds body u).contents.bound
block_bound level ds body u v w z m names b0 b1 b2 b3 c0 c1 c2 c3 j e f g left is =
    let here : level ≡ true = j.level_is ∙ is in
    let x = inner_around ds u in
    let l = is_module_level u in
    let around : w ≡ around_bound l (headed ds x) = j.around ∙ ap (λ k. around_bound k (headed ds v)) j.level_is ∙ ap (λ y. around_bound l (headed ds y)) j.inner in
    let d = (plain_in_order ds x).part.contents in
    let r = (procedures_part l ds x).contents in
    let no_d : d.bound ≡ [] = sym (ap (λ y. (plain_in_order ds y).part.contents.bound) j.inner) ∙ none_more c0.bound c1.bound (plain_in_order ds v).part.contents.bound e f (ap (λ k. k.bound) j.declares) in
    let no_r : r.bound ≡ [] = sym (ap (λ y. (judged_from y ds (heads_of ds v)).contents.bound) around ∙ ap (λ y. (judged_from (around_bound l (headed ds x)) ds (heads_of ds y)).contents.bound) j.inner) ∙ none_more c1.bound c2.bound (judged_from w ds (heads_of ds v)).contents.bound f g (ap (λ k. k.bound) j.adds) in
    ap (λ y. y.own) (left ∙ ap (λ k. left_block k m names w) here ∙ around) ∙ bound_alone (binding_of l (headed ds x)).own d.bound r.bound no_d no_r

abbrev put_back : Marked → List (List ℕ) → Around → Around
put_back m names x = left_block false m names (record x { coming = [] })

pub block_stays : (level : Bool) (ds : List Decl) (u v w z : Around) (m : Marked) (later names : List (List ℕ)) → level ≡ is_module_level u → v ≡ record u { later_types = later } → w ≡ around_bound level (headed ds v) → Grows v (plain_in_order ds v).around → m.known ≡ length u.known → m.own ≡ length u.own → names ≡ u.later_types → z ≡ left_block level m names w → is_module_level u ≡ false → z ≡ record u { coming = [] }
block_stays level ds u v w z m later names le inner around grows mk mo outer left is =
    let d = (plain_in_order ds v).around in
    let h = headed ds v in
    let start : Heads = record { around = d; before = [] } in
    let g = grows_on v d h.around grows (headings_grow (procedures_in ds) start) in
    let here : level ≡ false = le ∙ is in
    let G : Around → Around = λ y. record y { known = g.names ++ y.known; own = g.types ++ y.own } in
    let known : drop (length (g.names ++ u.known) - m.known) (g.names ++ u.known) ≡ u.known = last_of g.names u.known (g.names ++ u.known) m.known refl mk in
    let own : drop (length (g.types ++ u.own) - m.own) (g.types ++ u.own) ≡ u.own = last_of g.types u.own (g.types ++ u.own) m.own refl mo in
    let K : List Known → Around = λ ks. record u { coming = []; known = ks; own = drop (length (g.types ++ u.own) - m.own) (g.types ++ u.own); later_types = names } in
    let T : List TypedType → Around = λ ts. record u { coming = []; own = ts; later_types = names } in
    let N : List (List ℕ) → Around = λ ns. record u { coming = []; later_types = ns } in
    left
    ∙ ap (λ k. left_block k m names w) here
    ∙ ap (left_block false m names) (around ∙ ap (λ k. around_bound k h) here)
    ∙ ap (put_back m names) (g.grown ∙ ap G inner)
    ∙ ap K known
    ∙ ap T own
    ∙ ap N outer
