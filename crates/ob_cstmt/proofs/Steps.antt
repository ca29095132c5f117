-- The walk, one part further.
use Rattle.std.proofs.Common.{◌≡◌, refl, sym, ap, ◌∙◌, subst, ℕ, ◌+◌, ◌<◌, ◌≤◌, Bool, true, List, [], ◌∷◌, ◌++◌, map, drop, length, get_or, Option, Some, None, ℤ, Result, Ok, Err, IfOk, OnOk}
use Rattle.std.proofs.lemmas.List.{drop_more, drop_all}
use Rattle.std.specs.Option.{option_map}
use Rattle.ob_tree.specs.declared.pos.Pos.{Pos}
use Rattle.ob_tree.specs.declared.stmt.Guard.{Guard}
use Rattle.ob_types.specs.declared.types.TypeRef.{TypeRef}
use Rattle.ob_types.specs.declared.typed.Variable.{Variable}
use Rattle.ob_types.specs.declared.typed.Label.{Label}
use Rattle.ob_types.specs.declared.typed.TypedExpr.{TypedExpr}
use Rattle.ob_types.specs.declared.typed.TypedStmt.{TypedStmt}
use Rattle.ob_types.specs.declared.typed.TypedStmt.TheVariants as stmt
use Rattle.ob_types.specs.declared.typed.TypedBranch.{TypedBranch, roll-TypedBranch}
use Rattle.ob_types.specs.declared.typed.TypedCase.{TypedCase, roll-TypedCase}
use Rattle.ob_rules.specs.declared.notes.Notebook.{Notebook}
use Rattle.ob_rules.specs.declared.meant.Selects.{Selects}
use Rattle.ob_rules.specs.declared.values.Place.{Place}
use Rattle.ob_rules.specs.declared.values.Valued.{Valued}
use Rattle.ob_rules.specs.Values.{tree}
use Rattle.ob_rules.specs.Judged.{Judged, Notes, sound, silent, noted, joined, no_notes, both, paired, if_sound, made, ◌▷◌}
use Rattle.ob_rules.specs.Names.{Around, map_of}
use Rattle.ob_rules.specs.Shapes.{Map}
use Rattle.ob_rules.specs.Books.{book_after}
use Rattle.ob_rules.specs.Expressions.{Ranged}
use Rattle.ob_rules.specs.Statements as spec
use Rattle.ob_rules.proofs.BookLaws.{after_none, after_joined}
use Rattle.ob_rules.proofs.RowLaws.{made_noted, both_noted}
use Rattle.ob_types_trees.specs.declared.stmt.StmtTrees.{StmtTrees}
use Rattle.ob_cstmt_parts.specs.Seen.{stmts_in, rejoined, singly, branch_of, case_of, for_parts_node}
use Rattle.ob_cstmt_parts.proofs.RowSteps.{row_made, part_made, row_noted, branch_made, case_made, ends}

-- an element of a row, and those behind it
pub map_from : {A B : Type 0} (f : A → B) (xs : List A) (i : ℕ) (d : A) → i < length xs → map f (drop i xs) ≡ f (get_or xs i d) ∷ map f (drop (i + 1) xs)
map_from f xs i d h = ap (map f) (drop_more xs i d h)

-- none is left
pub map_over : {A B : Type 0} (f : A → B) (xs : List A) (i : ℕ) → length xs ≤ i → map f (drop i xs) ≡ []
map_over f xs i h = ap (map f) (drop_all i xs h)

-- TWO PARTS

pub pair_made : {A B C : Type 0} (f : A × B → Judged C) (c : Judged A) (d : Judged B) (x : Option A) (y : Option B) (r : Option C) → x ≡ c.node → y ≡ d.node → r ≡ (if_sound (paired x y) f).node → r ≡ (both c d ▷ f).node
pair_made f c d x y r ex ey er = er ∙ ap (λ z. (if_sound (paired z y) f).node) ex ∙ ap (λ z. (if_sound (paired c.node z) f).node) ey

pub pair_noted : {A B C : Type 0} (f : A × B → C) (c : Judged A) (d : Judged B) (k m l : Notebook) → m ≡ book_after k c.notes → l ≡ book_after m d.notes → l ≡ book_after k (both c d ▷ λ p. sound (f p)).notes
pair_noted f c d k m l em el = el ∙ ap (λ z. book_after z d.notes) em ∙ sym (both_noted f k c d)

-- STATEMENTS

pub stmts_step : (f : spec.Judging) (fs : List spec.Judging) (u v z : Around) (a b c w : Option (List TypedStmt)) (k l end : Notebook)
    → v ≡ u → z ≡ v → b ≡ (f v).node → l ≡ book_after k (f v).notes → c ≡ rejoined a b
    → w ≡ rejoined a (spec.in_turn (f ∷ fs) u).node → end ≡ book_after k (spec.in_turn (f ∷ fs) u).notes
    → (w ≡ rejoined c (spec.in_turn fs u).node) × (end ≡ book_after l (spec.in_turn fs u).notes) × (z ≡ u)
stmts_step f fs u v z a b c w k l end ev ez eb el ec ew ee = (
  row_made w a b c (f u) (spec.in_turn fs u) ew (eb ∙ ap (λ y. (f y).node) ev) ec,
  row_noted (λ p. p.0 ++ p.1) end k l (f u) (spec.in_turn fs u) ee (el ∙ ap (λ y. book_after k (f y).notes) ev),
  ez ∙ ev,
)

-- BRANCHES

branch_is : (c : Judged TypedExpr) (b : Judged (List TypedStmt)) (t : Option TypedExpr) (x : Option (List TypedStmt)) → t ≡ c.node → x ≡ b.node → branch_of t x ≡ (spec.branch_of c b).node
branch_is c b t x et ex = ap (λ y. branch_of y x) et ∙ ap (branch_of c.node) ex ∙ branch_made c b

branch_noted : (c : Judged TypedExpr) (b : Judged (List TypedStmt)) (k m l : Notebook) → m ≡ book_after k c.notes → l ≡ book_after m b.notes → l ≡ book_after k (spec.branch_of c b).notes
branch_noted c b k m l em el = pair_noted (λ p. roll-TypedBranch (record { test = p.0; body = p.1 })) c b k m l em el

pub branches_step : (b : spec.Conditional) (bs : List spec.Conditional) (u v z : Around) (t : Option TypedExpr) (x : Option (List TypedStmt)) (a c w : Option (List TypedBranch)) (k m l end : Notebook)
    → v ≡ u → z ≡ v → t ≡ (spec.condition v b.test).node → m ≡ book_after k (spec.condition v b.test).notes
    → x ≡ (spec.in_turn b.body v).node → l ≡ book_after m (spec.in_turn b.body v).notes → c ≡ rejoined a (singly (branch_of t x))
    → w ≡ rejoined a (spec.conditionals u (b ∷ bs)).node → end ≡ book_after k (spec.conditionals u (b ∷ bs)).notes
    → (w ≡ rejoined c (spec.conditionals u bs).node) × (end ≡ book_after l (spec.conditionals u bs).notes) × (z ≡ u)
branches_step b bs u v z t x a c w k m l end ev ez et em ex el ec ew ee = (
  part_made w a c (branch_of t x) (spec.conditional u b) (spec.conditionals u bs) ew (branch_is (spec.condition v b.test) (spec.in_turn b.body v) t x et ex ∙ ap (λ y. (spec.conditional y b).node) ev) ec,
  row_noted (λ p. p.0 ∷ p.1) end k l (spec.conditional u b) (spec.conditionals u bs) ee (branch_noted (spec.condition v b.test) (spec.in_turn b.body v) k m l em el ∙ ap (λ y. book_after k (spec.conditional y b).notes) ev),
  ez ∙ ev,
)

-- GUARDS

first_made : {A B : Type 0} (o : Option (A × B)) → option_map (λ p. p.0) o ≡ (if_sound o (λ p. sound p.0)).node
first_made None = refl
first_made (Some p) = refl

pub guarded_step : (b : spec.GuardedBody) (bs : List spec.GuardedBody) (u v z : Around) (test : Option (TypedExpr × TypeRef)) (variable : Option Variable) (of : Option TypeRef) (t : Option TypedExpr) (x : Option (List TypedStmt)) (a c w : Option (List TypedBranch)) (k m l end : Notebook)
    → v ≡ u → z ≡ v → test ≡ (spec.with_test v b.guard).node → m ≡ book_after k (spec.with_test v b.guard).notes
    → variable ≡ spec.variable_meant v b.guard.variable.qualifier b.guard.variable.ident → of ≡ spec.type_if test → t ≡ option_map (λ p. p.0) test
    → x ≡ (spec.in_turn b.body (spec.guarded_around v variable of)).node → l ≡ book_after m (spec.in_turn b.body (spec.guarded_around v variable of)).notes → c ≡ rejoined a (singly (branch_of t x))
    → w ≡ rejoined a (spec.with_branches u (b ∷ bs)).node → end ≡ book_after k (spec.with_branches u (b ∷ bs)).notes
    → (w ≡ rejoined c (spec.with_branches u bs).node) × (end ≡ book_after l (spec.with_branches u bs).notes) × (z ≡ u)
guarded_step b bs u v z test variable of t x a c w k m l end ev ez etest em evar eof et ex el ec ew ee =
    let tests = spec.with_test v b.guard in
    let inside : spec.guarded_around v variable of ≡ spec.guarded_body v b.guard tests.node = ap (λ y. spec.guarded_around v y of) evar ∙ ap (λ y. spec.guarded_around v (spec.variable_meant v b.guard.variable.qualifier b.guard.variable.ident) y) (eof ∙ ap (λ y. spec.type_if y) etest) in
    let cond = made (λ (p : TypedExpr × TypeRef). p.0) tests in
    let body = spec.in_turn b.body (spec.guarded_body v b.guard tests.node) in
    let et2 : t ≡ cond.node = et ∙ ap (λ y. option_map (λ p. p.0) y) etest ∙ first_made tests.node in
    let em2 : m ≡ book_after k cond.notes = em ∙ sym (made_noted (λ p. p.0) k tests) in
    let ex2 : x ≡ body.node = ex ∙ ap (λ y. (spec.in_turn b.body y).node) inside in
    let el2 : l ≡ book_after m body.notes = el ∙ ap (λ y. book_after m (spec.in_turn b.body y).notes) inside in (
      part_made w a c (branch_of t x) (spec.with_branch u b) (spec.with_branches u bs) ew (branch_is cond body t x et2 ex2 ∙ ap (λ y. (spec.with_branch y b).node) ev) ec,
      row_noted (λ p. p.0 ∷ p.1) end k l (spec.with_branch u b) (spec.with_branches u bs) ee (branch_noted cond body k m l em2 el2 ∙ ap (λ y. book_after k (spec.with_branch y b).notes) ev),
      ez ∙ ev,
    )

-- the innermost guard is taken back
pub unguarded : (u v z : Around) (w : Variable) (t : Option TypeRef) → v ≡ record u { guards = u.guards ++ (w, t) ∷ [] } → (v.guards ≡ u.guards ++ (w, t) ∷ [] → z ≡ record v { guards = u.guards }) → z ≡ u
unguarded u v z w t ev ez = ez (ap (λ y. y.guards) ev) ∙ ap (λ (y : Around). record y { guards = u.guards }) ev

-- the LOOP is left
pub left_loop : (u v z : Around) (b : Bool) → b ≡ u.in_loop → v ≡ record u { in_loop = true } → z ≡ record v { in_loop = b } → z ≡ u
left_loop u v z b eb ev ez = ez ∙ ap (λ (y : Around). record y { in_loop = b }) ev ∙ ap (λ x. record u { in_loop = x }) eb

-- CASE

pub labels_step : (u : Around) (s : Option Selects) (r : Ranged) (rs : List Ranged) (before after : List Label) (x : Option Label) (a c w : Option (List Label)) (k l end : Notebook) (last : List Label)
    → x ≡ (spec.label u s before r).node → l ≡ book_after k (spec.label u s before r).notes → after ≡ spec.with_label before x → c ≡ rejoined a (singly x)
    → w ≡ rejoined a (spec.labels u s before (r ∷ rs)).found.node → end ≡ book_after k (spec.labels u s before (r ∷ rs)).found.notes → last ≡ (spec.labels u s before (r ∷ rs)).before
    → (w ≡ rejoined c (spec.labels u s after rs).found.node) × (end ≡ book_after l (spec.labels u s after rs).found.notes) × (last ≡ (spec.labels u s after rs).before)
labels_step u s r rs before after x a c w k l end last ex el ea ec ew ee elast =
    let j = spec.label u s before r in
    let next : spec.with_label before j.node ≡ after = ap (spec.with_label before) (sym ex) ∙ sym ea in (
      part_made w a c x j (spec.labels u s (spec.with_label before j.node) rs).found ew ex ec ∙ ap (λ y. rejoined c (spec.labels u s y rs).found.node) next,
      row_noted (λ p. p.0 ∷ p.1) end k l j (spec.labels u s (spec.with_label before j.node) rs).found ee el ∙ ap (λ y. book_after l (spec.labels u s y rs).found.notes) next,
      elast ∙ ap (λ y. (spec.labels u s y rs).before) next,
    )

case_is : (c : Judged (List Label)) (b : Judged (List TypedStmt)) (t : Option (List Label)) (x : Option (List TypedStmt)) → t ≡ c.node → x ≡ b.node → case_of t x ≡ (spec.case_of c b).node
case_is c b t x et ex = ap (λ y. case_of y x) et ∙ ap (case_of c.node) ex ∙ case_made c b

case_noted : (c : Judged (List Label)) (b : Judged (List TypedStmt)) (k m l : Notebook) → m ≡ book_after k c.notes → l ≡ book_after m b.notes → l ≡ book_after k (spec.case_of c b).notes
case_noted c b k m l em el = pair_noted (λ p. roll-TypedCase (record { labels = p.0; body = p.1 })) c b k m l em el

pub cases_step : (u v z : Around) (s : Option Selects) (d : spec.Labelled) (ds : List spec.Labelled) (before after : List Label) (t : Option (List Label)) (x : Option (List TypedStmt)) (a c w : Option (List TypedCase)) (k m l end : Notebook)
    → v ≡ u → z ≡ v → t ≡ (spec.labels v s before d.labels).found.node → m ≡ book_after k (spec.labels v s before d.labels).found.notes → after ≡ (spec.labels v s before d.labels).before
    → x ≡ (spec.in_turn d.body v).node → l ≡ book_after m (spec.in_turn d.body v).notes → c ≡ rejoined a (singly (case_of t x))
    → w ≡ rejoined a (spec.cases u s before (d ∷ ds)).node → end ≡ book_after k (spec.cases u s before (d ∷ ds)).notes
    → (w ≡ rejoined c (spec.cases u s after ds).node) × (end ≡ book_after l (spec.cases u s after ds).notes) × (z ≡ u)
cases_step u v z s d ds before after t x a c w k m l end ev ez et em ea ex el ec ew ee =
    let ls = spec.labels u s before d.labels in
    let body = spec.in_turn d.body u in
    let et2 : t ≡ ls.found.node = et ∙ ap (λ y. (spec.labels y s before d.labels).found.node) ev in
    let em2 : m ≡ book_after k ls.found.notes = em ∙ ap (λ y. book_after k (spec.labels y s before d.labels).found.notes) ev in
    let ex2 : x ≡ body.node = ex ∙ ap (λ y. (spec.in_turn d.body y).node) ev in
    let el2 : l ≡ book_after m body.notes = el ∙ ap (λ y. book_after m (spec.in_turn d.body y).notes) ev in
    let next : ls.before ≡ after = sym (ea ∙ ap (λ y. (spec.labels y s before d.labels).before) ev) in (
      part_made w a c (case_of t x) (spec.case_of ls.found body) (spec.cases u s ls.before ds) ew (case_is ls.found body t x et2 ex2) ec ∙ ap (λ y. rejoined c (spec.cases u s y ds).node) next,
      row_noted (λ p. p.0 ∷ p.1) end k l (spec.case_of ls.found body) (spec.cases u s ls.before ds) ee (case_noted ls.found body k m l em2 el2) ∙ ap (λ y. book_after l (spec.cases u s y ds).notes) next,
      ez ∙ ev,
    )

-- FOR

pub for_made : (map : Map) (at : Pos) (v : Option Place) (a b : Judged TypedExpr) (step : Judged ℤ) (body : Judged (List TypedStmt)) → for_parts_node map at v a.node b.node step.node body.node ≡ (spec.for_parts map at v (both (both a b) (both step body))).node
for_made map at None a b step body = refl
for_made map at (Some p) a b step body = refl

parts_noted : (map : Map) (at : Pos) (v : Option Place) (r : Judged ((TypedExpr × TypedExpr) × (ℤ × List TypedStmt))) (k : Notebook) → book_after k (spec.for_parts map at v r).notes ≡ book_after k r.notes
parts_noted map at None r k = sym (after_joined k r.notes no_notes) ∙ after_none (book_after k r.notes)
parts_noted map at (Some p) r k = made_noted (λ q. spec.for_made map at p q.0 q.1.0 q.1.1 ∷ []) k r

pub for_noted : (map : Map) (at : Pos) (v : Option Place) (n x y z w : Notes) (a b : Option TypedExpr) (step : Option ℤ) (body : Option (List TypedStmt)) (k : Notebook)
    → book_after (book_after (book_after (book_after (book_after k n) x) y) z) w
    ≡ book_after k (noted n (spec.for_parts map at v (both (both (record { node = a; notes = x }) (record { node = b; notes = y })) (both (record { node = step; notes = z }) (record { node = body; notes = w }))))).notes
for_noted map at v n x y z w a b step body k =
    let k1 = book_after k n in
    let r = both (both (record { node = a; notes = x }) (record { node = b; notes = y })) (both (record { node = step; notes = z }) (record { node = body; notes = w })) in
    ap (λ c. book_after (book_after c z) w) (after_joined k1 x y)
    ∙ after_joined (book_after k1 (joined x y)) z w
    ∙ after_joined k1 (joined x y) (joined z w)
    ∙ sym (parts_noted map at v r k1)
    ∙ after_joined k n (spec.for_parts map at v r).notes

abbrev judged_for : Around → Pos → Judged Place → Judged Valued → Judged Valued → Judged ℤ → Judged (List TypedStmt) → Judged (List TypedStmt)
judged_for u at v a b step body = noted v.notes (spec.for_with (map_of u) at v.node a b step body)

pub for_is : (u : Around) (at : Pos) (v : Judged Place) (a b : Judged Valued) (step : Judged ℤ) (body : Judged (List TypedStmt)) (m : Map) (place : Option Place) (x y : Option TypedExpr) (s : Option ℤ) (w r : Option (List TypedStmt))
    → m ≡ map_of u → place ≡ v.node → x ≡ (spec.bound_if (map_of u) at place a).node → y ≡ (spec.bound_if (map_of u) at place b).node → s ≡ step.node → w ≡ body.node
    → r ≡ for_parts_node m at place x y s w → r ≡ (judged_for u at v a b step body).node
for_is u at v a b step body m place x y s w r em ep ex ey es ew er =
    let first = spec.bound_if (map_of u) at v.node a in
    let last = spec.bound_if (map_of u) at v.node b in
    er
    ∙ ap (λ z. for_parts_node z at place x y s w) em
    ∙ ap (λ z. for_parts_node (map_of u) at z x y s w) ep
    ∙ ap (λ z. for_parts_node (map_of u) at v.node z y s w) (ex ∙ ap (λ z. (spec.bound_if (map_of u) at z a).node) ep)
    ∙ ap (λ z. for_parts_node (map_of u) at v.node first.node z s w) (ey ∙ ap (λ z. (spec.bound_if (map_of u) at z b).node) ep)
    ∙ ap (λ z. for_parts_node (map_of u) at v.node first.node last.node z w) es
    ∙ ap (λ z. for_parts_node (map_of u) at v.node first.node last.node step.node z) ew
    ∙ for_made (map_of u) at v.node first last step body

pub for_says : (u : Around) (at : Pos) (v : Judged Place) (a b : Judged Valued) (step : Judged ℤ) (body : Judged (List TypedStmt)) (place : Option Place) (k k1 k2 k3 k4 k5 : Notebook)
    → place ≡ v.node → k1 ≡ book_after k v.notes → k2 ≡ book_after k1 (spec.bound_if (map_of u) at place a).notes → k3 ≡ book_after k2 (spec.bound_if (map_of u) at place b).notes → k4 ≡ book_after k3 step.notes → k5 ≡ book_after k4 body.notes
    → k5 ≡ book_after k (judged_for u at v a b step body).notes
for_says u at v a b step body place k k1 k2 k3 k4 k5 ep e1 e2 e3 e4 e5 =
    let first = spec.bound_if (map_of u) at v.node a in
    let last = spec.bound_if (map_of u) at v.node b in
    let s2 : k2 ≡ book_after (book_after k v.notes) first.notes = e2 ∙ ap (λ z. book_after z (spec.bound_if (map_of u) at place a).notes) e1 ∙ ap (λ z. book_after (book_after k v.notes) (spec.bound_if (map_of u) at z a).notes) ep in
    let s3 : k3 ≡ book_after (book_after (book_after k v.notes) first.notes) last.notes = e3 ∙ ap (λ z. book_after z (spec.bound_if (map_of u) at place b).notes) s2 ∙ ap (λ z. book_after (book_after (book_after k v.notes) first.notes) (spec.bound_if (map_of u) at z b).notes) ep in
    let s4 : k4 ≡ book_after (book_after (book_after (book_after k v.notes) first.notes) last.notes) step.notes = e4 ∙ ap (λ z. book_after z step.notes) s3 in
    e5 ∙ ap (λ z. book_after z body.notes) s4 ∙ for_noted (map_of u) at v.node v.notes first.notes last.notes step.notes body.notes first.node last.node step.node body.node k

-- CASE of its parts
pub case_of_parts : (u : Around) (at : Pos) (x : Judged Valued) (ds : List spec.Labelled) (o : Option (List spec.Judging)) (m : Map) (value : Option Valued) (selects : Option Selects) (cs : Option (List TypedCase)) (e : Option (Option (List TypedStmt))) (r : Option (List TypedStmt))
    → m ≡ map_of u → value ≡ x.node → selects ≡ spec.selects_if m value → cs ≡ (spec.cases u selects [] ds).node → e ≡ (spec.in_turn_if o u).node
    → r ≡ (if_sound (paired value (paired cs e)) (λ p. spec.one (stmt.Case (tree p.0) p.1.0 p.1.1 at))).node → r ≡ (spec.case_with u at x ds o).node
case_of_parts u at x ds o m value selects cs e r em ev es ec ee er =
    let f = λ (p : Valued × (List TypedCase × Option (List TypedStmt))). spec.one (stmt.Case (tree p.0) p.1.0 p.1.1 at) in
    let selected : selects ≡ spec.selects_if (map_of u) x.node = es ∙ ap (λ z. spec.selects_if z value) em ∙ ap (λ z. spec.selects_if (map_of u) z) ev in
    er
    ∙ ap (λ z. (if_sound (paired z (paired cs e)) f).node) ev
    ∙ ap (λ z. (if_sound (paired x.node (paired z e)) f).node) (ec ∙ ap (λ z. (spec.cases u z [] ds).node) selected)
    ∙ ap (λ z. (if_sound (paired x.node (paired (spec.cases u (spec.selects_if (map_of u) x.node) [] ds).node z)) f).node) ee

pub case_says : (u : Around) (at : Pos) (x : Judged Valued) (ds : List spec.Labelled) (o : Option (List spec.Judging)) (m : Map) (value : Option Valued) (selects : Option Selects) (k k1 k2 k3 : Notebook)
    → m ≡ map_of u → value ≡ x.node → selects ≡ spec.selects_if m value → k1 ≡ book_after k x.notes → k2 ≡ book_after k1 (spec.cases u selects [] ds).notes → k3 ≡ book_after k2 (spec.in_turn_if o u).notes
    → k3 ≡ book_after k (spec.case_with u at x ds o).notes
case_says u at x ds o m value selects k k1 k2 k3 em ev es e1 e2 e3 =
    let selected : selects ≡ spec.selects_if (map_of u) x.node = es ∙ ap (λ z. spec.selects_if z value) em ∙ ap (λ z. spec.selects_if (map_of u) z) ev in
    let cs = spec.cases u (spec.selects_if (map_of u) x.node) [] ds in
    let other = spec.in_turn_if o u in
    let s2 : k2 ≡ book_after k1 cs.notes = e2 ∙ ap (λ z. book_after k1 (spec.cases u z [] ds).notes) selected in
    pair_noted (λ p. stmt.Case (tree p.0) p.1.0 p.1.1 at ∷ []) x (both cs other) k k1 k3 e1 (e3 ∙ ap (λ z. book_after z other.notes) s2 ∙ after_joined k1 cs.notes other.notes)

-- LOOP of its body
pub loop_made : (u : Around) (at : Pos) (fs : List spec.Judging) (x r : Option (List TypedStmt)) → x ≡ (spec.in_turn fs (spec.in_loop u)).node → r ≡ (if_sound x (λ b. spec.one (stmt.Loop b at))).node → r ≡ (spec.loop_statement at fs u).node
loop_made u at fs x r ex er = er ∙ ap (λ y. (if_sound y (λ b. spec.one (stmt.Loop b at))).node) ex

pub loop_noted : (u : Around) (at : Pos) (fs : List spec.Judging) (k l : Notebook) → l ≡ book_after k (spec.in_turn fs (spec.in_loop u)).notes → l ≡ book_after k (spec.loop_statement at fs u).notes
loop_noted u at fs k l e = e ∙ sym (made_noted (λ b. stmt.Loop b at ∷ []) k (spec.in_turn fs (spec.in_loop u)))

-- ELSE
pub some_made : {A : Type 0} (j : Judged A) (x : Option A) → x ≡ j.node → option_map (λ b. Some b) x ≡ (made (λ b. Some b) j).node
some_made j x e = ap (λ y. option_map (λ b. Some b) y) e ∙ by_node j.node
  where
    by_node : {A : Type 0} (o : Option A) → option_map (λ b. Some b) o ≡ (if_sound o (λ b. sound (Some b))).node
    by_node None = refl
    by_node (Some b) = refl

pub always : {T E P : Type 0} (r : Result T E) → P → OnOk r P
always (Ok x) p = p
always (Err e) p = tt

-- a statement alone
pub alone_made : {E : Type 0} (r : Result (Option StmtTrees) E) (a b : Option (List TypedStmt)) → IfOk r (λ x. stmts_in x ≡ a) → a ≡ b → IfOk r (λ x. stmts_in x ≡ b)
alone_made r a b h e = subst (λ z. IfOk r (λ x. stmts_in x ≡ z)) e h

-- what is said of it, which is said of the statement by that name
pub noted_as : {T E : Type 0} (r : Result T E) (n k : Notebook) (y x : Judged (List TypedStmt)) → y ≡ x → OnOk r (n ≡ book_after k x.notes) → OnOk r (n ≡ book_after k y.notes)
noted_as r n k y x e h = subst (λ z. OnOk r (n ≡ book_after k z.notes)) (sym e) h
