-- The places of FOR and CASE in statements are among those of the tokens that spell them, in their order.
use Rattle.std.proofs.Common.{◌≡◌, true, inl, inr, List, [], ◌∷◌, ◌++◌, map, Option, Some, None, refl, sym, ap, subst, ◌∙◌}
use Rattle.ob_tree.specs.declared.symbol.Symbol.{Symbol}
use Rattle.ob_tree.specs.declared.symbol.Symbol.TheVariants as s
use Rattle.ob_tree.specs.declared.token.Token.{Token}
use Rattle.ob_tree.specs.declared.pos.Pos.{Pos}
use Rattle.ob_tree.specs.declared.expr.Expr.{Expr}
use Rattle.ob_tree.specs.declared.expr.Element.{Element}
use Rattle.ob_tree.specs.declared.expr.Designator.{Designator}
use Rattle.ob_tree.specs.declared.stmt.Stmt.{Stmt}
use Rattle.ob_tree.specs.declared.stmt.Branch.{Branch}
use Rattle.ob_tree.specs.declared.stmt.Case.{Case}
use Rattle.ob_tree.specs.declared.stmt.GuardedBranch.{GuardedBranch}
use Rattle.ob_parse_grammar.specs.Phrase.{Tokens, Nest, AnExpr, AType, Statements, Negated, Procedure, Tree, Phrase, Spelling, spells_as, spells_maybe, spells_many}
use Rattle.ob_parse_grammar.specs.Expressions.{next_of, separated}
use Rattle.ob_parse_grammar.specs.Statements as sa
use Rattle.law_typing.specs.Bodies.{in_all, hidden_places, branch_places, case_places, guarded_places}
use Rattle.law_spelling_read.specs.Placed.{places_of, decl_placed}
use Rattle.law_spelling_read.proofs.Order.{Rise, Among, among_right, among_left, among_both}
use Rattle.law_spelling_read.proofs.Parts.{else_places, empty_is, call_is, assign_is, if_is, case_stmt_is, while_is, repeat_is, for_is, loop_is, exit_is, return_is, with_is, branch_is, case_is, guarded_is}

-- before the text
abbrev pub origin : Pos
origin = record { line = 0; col = 0 }

abbrev pub Inside : (n : Nest) → Spelling (Tree n)
Inside AnExpr x ts = Unit {0}
Inside AType x ts = Unit {0}
Inside Statements xs ts = Among (places_of xs) ts
Inside Negated x ts = Unit {0}
Inside Procedure x ts = Rise origin ts → decl_placed x ≡ true

abbrev pub Spelled : {A : Type 0} → Phrase A → A → Tokens → Type 0
Spelled p x ts = spells_as Inside p x ts

-- ---- among the tokens of a phrase

pub in_right : (ps : List Pos) (ts a b : Tokens) → ts ≡ a ++ b → Among ps b → Among ps ts
in_right ps ts a b e h = subst (λ (us : Tokens). Among ps us) (sym e) (among_right ps a b h)

pub in_left : (ps : List Pos) (ts a b : Tokens) → ts ≡ a ++ b → Among ps a → Among ps ts
in_left ps ts a b e h = subst (λ (us : Tokens). Among ps us) (sym e) (among_left ps a b h)

pub in_both : (ps qs : List Pos) (ts a b : Tokens) → ts ≡ a ++ b → Among ps a → Among qs b → Among (ps ++ qs) ts
in_both ps qs ts a b e h k = subst (λ (us : Tokens). Among (ps ++ qs) us) (sym e) (among_both ps qs a b h k)

-- the first token is there itself
in_first : (t : Token) (ps : List Pos) (ts a b : Tokens) → ts ≡ a ++ b → a ≡ t ∷ [] → Among ps b → Among (t.pos ∷ ps) ts
in_first t ps ts a b e i h = subst (λ (us : Tokens). Among (t.pos ∷ ps) us) (sym (e ∙ ap (λ (us : Tokens). us ++ b) i)) (inl (refl, h))

as_places : (ps qs : List Pos) (ts : Tokens) → qs ≡ ps → Among ps ts → Among qs ts
as_places ps qs ts e h = subst (λ (xs : List Pos). Among xs ts) (sym e) h

-- ---- lists

next_among : {A : Type 0} (f : A → List Pos) (by : Symbol) (p : Phrase A) → ((x : A) (ts : Tokens) → Spelled p x ts → Among (f x) ts) → (x : A) (ts : Tokens) → Spelled (next_of by p) x ts → Among (f x) ts
next_among f by p g x ts h =
    let y = h.0 in
    let k = h.2 in
    subst (λ x. Among (f x) ts) h.1 (in_right (f y.1) ts k.0 k.1 k.2 (g y.1 k.1 k.4))

many_among : {A : Type 0} (f : A → List Pos) (by : Symbol) (p : Phrase A) → ((x : A) (ts : Tokens) → Spelled p x ts → Among (f x) ts) → (xs : List A) (ts : Tokens) → spells_many (spells_as Inside (next_of by p)) xs ts → Among (in_all (map f xs)) ts
many_among f by p g [] ts h = tt
many_among f by p g (x ∷ xs) ts h = in_both (f x) (in_all (map f xs)) ts h.0 h.1 h.2 (next_among f by p g x h.0 h.3) (many_among f by p g xs h.1 h.4)

separated_among : {A : Type 0} (f : A → List Pos) (by : Symbol) (p : Phrase A) → ((x : A) (ts : Tokens) → Spelled p x ts → Among (f x) ts) → (xs : List A) (ts : Tokens) → Spelled (separated by p) xs ts → Among (in_all (map f xs)) ts
separated_among f by p g xs ts h =
    let y = h.0 in
    let k = h.2 in
    subst (λ xs. Among (in_all (map f xs)) ts) h.1 (in_both (f y.0) (in_all (map f y.1)) ts k.0 k.1 k.2 (g y.0 k.0 k.3) (many_among f by p g y.1 k.1 k.4))

-- ---- parts of statements

else_among : (o : Option (List Stmt)) (ts : Tokens) → Spelled sa.otherwise o ts → Among (else_places o) ts
else_among None ts h = tt
else_among (Some ss) ts h =
    let y = h.0 in
    let k = h.2 in
    subst (λ (ss : List Stmt). Among (places_of ss) ts) h.1 (in_right (places_of y.1) ts k.0 k.1 k.2 k.4)

branch_among : (b : Branch) (ts : Tokens) → Spelled sa.branch b ts → Among (branch_places b) ts
branch_among b ts h =
    let y = h.0 in
    let k = h.2 in
    let l = k.4 in
    let ps = places_of y.1.1 in
    subst (λ (b : Branch). Among (branch_places b) ts) h.1 (as_places ps _ ts (branch_is y.0 y.1.1) (in_right ps ts k.0 k.1 k.2 (in_right ps k.1 l.0 l.1 l.2 l.4)))

case_as : (o : Option (List Element × (Token × List Stmt))) (ts : Tokens) → spells_maybe (spells_as Inside sa.labelled) o ts → Among (case_places (sa.case_of o)) ts
case_as None ts h = as_places [] _ ts (case_is [] []) tt
case_as (Some x) ts h =
    let k = h.4 in
    let ps = places_of x.1.1 in
    as_places ps _ ts (case_is x.0 x.1.1) (in_right ps ts h.0 h.1 h.2 (in_right ps h.1 k.0 k.1 k.2 k.4))

case_among : (c : Case) (ts : Tokens) → Spelled sa.case_branch c ts → Among (case_places c) ts
case_among c ts h = subst (λ (c : Case). Among (case_places c) ts) h.1 (case_as h.0 ts h.2)

guarded_among : (b : GuardedBranch) (ts : Tokens) → Spelled sa.guarded b ts → Among (guarded_places b) ts
guarded_among b ts h =
    let y = h.0 in
    let k = h.2 in
    let l = k.4 in
    let ps = places_of y.1.1 in
    subst (λ (b : GuardedBranch). Among (guarded_places b) ts) h.1 (as_places ps _ ts (guarded_is y.0 y.1.1) (in_right ps ts k.0 k.1 k.2 (in_right ps k.1 l.0 l.1 l.2 l.4)))

-- ---- statements

abbrev IsAmong : Tokens → Stmt → Type 0
IsAmong ts x = Among (hidden_places x) ts

plain_as : (n : Designator) (o : Option (Token × Expr)) → hidden_places (sa.plain_of (n, o)) ≡ []
plain_as n None = call_is n
plain_as n (Some x) = assign_is n x.0.pos x.1

plain_among : (x : Stmt) (ts : Tokens) → Spelled sa.plain x ts → IsAmong ts x
plain_among x ts h = subst (IsAmong ts) h.1 (as_places [] _ ts (plain_as h.0.0 h.0.1) tt)

grouped : (a b c : List Pos) → (a ++ b) ++ c ≡ a ++ (b ++ c)
grouped [] b c = refl
grouped (x ∷ a) b c = ap (λ (ps : List Pos). x ∷ ps) (grouped a b c)

choice_among : (x : Stmt) (ts : Tokens) → Spelled sa.choice x ts → IsAmong ts x
choice_among x ts h =
    let y = h.0 in
    let b = y.1.0 in
    let bs = y.1.1.0 in
    let o = y.1.1.1.0 in
    let k = h.2 in
    let l = k.4 in
    let m = l.4 in
    let n = m.4 in
    let rest = in_all (map branch_places bs) in
    let ps = branch_places b ++ (rest ++ else_places o) in
    subst (IsAmong ts) h.1 (as_places ps _ ts (if_is y.0.pos (b ∷ bs) o ∙ grouped (branch_places b) rest (else_places o))
    (in_right ps ts k.0 k.1 k.2
    (in_both (branch_places b) (rest ++ else_places o) k.1 l.0 l.1 l.2 (branch_among b l.0 l.3)
    (in_both rest (else_places o) l.1 m.0 m.1 m.2 (many_among branch_places s.KwElsif sa.branch branch_among bs m.0 m.3)
    (in_left (else_places o) m.1 n.0 n.1 n.2 (else_among o n.0 n.3))))))

case_stmt_among : (x : Stmt) (ts : Tokens) → Spelled sa.case_statement x ts → IsAmong ts x
case_stmt_among x ts h =
    let y = h.0 in
    let cs = y.1.1.1.0 in
    let o = y.1.1.1.1.0 in
    let k = h.2 in
    let l = k.4 in
    let m = l.4 in
    let n = m.4 in
    let i = n.4 in
    let all = in_all (map case_places cs) in
    let ps = all ++ else_places o in
    subst (IsAmong ts) h.1 (as_places (y.0.pos ∷ ps) _ ts (case_stmt_is y.0.pos y.1.0 cs o)
    (in_first y.0 ps ts k.0 k.1 k.2 k.3.0
    (in_right ps k.1 l.0 l.1 l.2
    (in_right ps l.1 m.0 m.1 m.2
    (in_both all (else_places o) m.1 n.0 n.1 n.2 (separated_among case_places s.Bar sa.case_branch case_among cs n.0 n.3)
    (in_left (else_places o) n.1 i.0 i.1 i.2 (else_among o i.0 i.3)))))))

while_among : (x : Stmt) (ts : Tokens) → Spelled sa.while_loop x ts → IsAmong ts x
while_among x ts h =
    let y = h.0 in
    let ps = places_of y.1.1.1.0 in
    let k = h.2 in
    let l = k.4 in
    let m = l.4 in
    let n = m.4 in
    subst (IsAmong ts) h.1 (as_places ps _ ts (while_is y.0.pos y.1.0 y.1.1.1.0)
    (in_right ps ts k.0 k.1 k.2 (in_right ps k.1 l.0 l.1 l.2 (in_right ps l.1 m.0 m.1 m.2 (in_left ps m.1 n.0 n.1 n.2 n.3)))))

repeat_among : (x : Stmt) (ts : Tokens) → Spelled sa.repeat_loop x ts → IsAmong ts x
repeat_among x ts h =
    let y = h.0 in
    let ps = places_of y.1.0 in
    let k = h.2 in
    let l = k.4 in
    subst (IsAmong ts) h.1 (as_places ps _ ts (repeat_is y.0.pos y.1.0 y.1.1.1)
    (in_right ps ts k.0 k.1 k.2 (in_left ps k.1 l.0 l.1 l.2 l.3)))

for_among : (x : Stmt) (ts : Tokens) → Spelled sa.for_loop x ts → IsAmong ts x
for_among x ts h =
    let y = h.0 in
    let ss = y.1.1.1.1.1.1.1.1.0 in
    let ps = places_of ss in
    let a = h.2 in
    let b = a.4 in
    let c = b.4 in
    let e = c.4 in
    let f = e.4 in
    let g = f.4 in
    let i = g.4 in
    let j = i.4 in
    let k = j.4 in
    subst (IsAmong ts) h.1 (as_places (y.0.pos ∷ ps) _ ts (for_is y.0.pos y.1.0 y.1.1.1.0 y.1.1.1.1.1.0 y.1.1.1.1.1.1.0 ss)
    (in_first y.0 ps ts a.0 a.1 a.2 a.3.0
    (in_right ps a.1 b.0 b.1 b.2
    (in_right ps b.1 c.0 c.1 c.2
    (in_right ps c.1 e.0 e.1 e.2
    (in_right ps e.1 f.0 f.1 f.2
    (in_right ps f.1 g.0 g.1 g.2
    (in_right ps g.1 i.0 i.1 i.2
    (in_right ps i.1 j.0 j.1 j.2
    (in_left ps j.1 k.0 k.1 k.2 k.3))))))))))

loop_among : (x : Stmt) (ts : Tokens) → Spelled sa.endless_loop x ts → IsAmong ts x
loop_among x ts h =
    let y = h.0 in
    let ps = places_of y.1.0 in
    let k = h.2 in
    let l = k.4 in
    subst (IsAmong ts) h.1 (as_places ps _ ts (loop_is y.0.pos y.1.0)
    (in_right ps ts k.0 k.1 k.2 (in_left ps k.1 l.0 l.1 l.2 l.3)))

exit_among : (x : Stmt) (ts : Tokens) → Spelled sa.exit_statement x ts → IsAmong ts x
exit_among x ts h = subst (IsAmong ts) h.1 (as_places [] _ ts (exit_is h.0.pos) tt)

return_among : (x : Stmt) (ts : Tokens) → Spelled sa.return_statement x ts → IsAmong ts x
return_among x ts h = subst (IsAmong ts) h.1 (as_places [] _ ts (return_is h.0.0.pos h.0.1) tt)

with_among : (x : Stmt) (ts : Tokens) → Spelled sa.with_statement x ts → IsAmong ts x
with_among x ts h =
    let y = h.0 in
    let bs = y.1.0 in
    let o = y.1.1.0 in
    let k = h.2 in
    let l = k.4 in
    let m = l.4 in
    let all = in_all (map guarded_places bs) in
    let ps = all ++ else_places o in
    subst (IsAmong ts) h.1 (as_places ps _ ts (with_is y.0.pos bs o)
    (in_right ps ts k.0 k.1 k.2
    (in_both all (else_places o) k.1 l.0 l.1 l.2 (separated_among guarded_places s.Bar sa.guarded guarded_among bs l.0 l.3)
    (in_left (else_places o) l.1 m.0 m.1 m.2 (else_among o m.0 m.3)))))

some_among : (x : Stmt) (ts : Tokens) → Spelled sa.some_statement x ts → IsAmong ts x
some_among x ts (inl h) = plain_among x ts h
some_among x ts (inr (inl h)) = choice_among x ts h
some_among x ts (inr (inr (inl h))) = case_stmt_among x ts h
some_among x ts (inr (inr (inr (inl h)))) = while_among x ts h
some_among x ts (inr (inr (inr (inr (inl h))))) = repeat_among x ts h
some_among x ts (inr (inr (inr (inr (inr (inl h)))))) = for_among x ts h
some_among x ts (inr (inr (inr (inr (inr (inr (inl h))))))) = loop_among x ts h
some_among x ts (inr (inr (inr (inr (inr (inr (inr (inl h)))))))) = exit_among x ts h
some_among x ts (inr (inr (inr (inr (inr (inr (inr (inr (inl h))))))))) = return_among x ts h
some_among x ts (inr (inr (inr (inr (inr (inr (inr (inr (inr h))))))))) = with_among x ts h

stmt_if : (o : Option Stmt) (ts : Tokens) → spells_maybe (spells_as Inside sa.some_statement) o ts → IsAmong ts (sa.or_empty o)
stmt_if None ts h = as_places [] _ ts empty_is tt
stmt_if (Some x) ts h = some_among x ts h

stmt_among : (x : Stmt) (ts : Tokens) → Spelled sa.statement x ts → IsAmong ts x
stmt_among x ts h = subst (IsAmong ts) h.1 (stmt_if h.0 ts h.2)

pub statements_among : (xs : List Stmt) (ts : Tokens) → Spelled sa.statements xs ts → Among (places_of xs) ts
statements_among xs ts h = separated_among hidden_places s.Semicolon sa.statement stmt_among xs ts h
