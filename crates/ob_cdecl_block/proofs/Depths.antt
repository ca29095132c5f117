-- How deep procedures stand in one another.
use Rattle.std.proofs.Common.{◌≡◌, ℕ, zero, suc, ◌+◌, ◌*◌, ◌<◌, ◌≤◌, List, [], ◌∷◌, length, get_or, map, sym, ap, ◌∙◌, arith}
use Rattle.ob_tree.specs.declared.ident.Ident.{Ident}
use Rattle.ob_tree.specs.declared.stmt.Stmt.{Stmt}
use Rattle.ob_tree.specs.declared.decl.Heading.{Heading}
use Rattle.ob_tree.specs.declared.decl.Decl.{Decl}
use Rattle.ob_tree.specs.declared.decl.Decl.TheVariants as d
use Rattle.ob_tree.specs.declared.decl.Decl.TheOpen.{Decl-F}
use Rattle.ob_tree.specs.declared.decl.Decl.TheFolds.{fold-Decl, fold-roll-Decl}

sum_of : List ℕ → ℕ
sum_of [] = 0
sum_of (n ∷ ns) = n + sum_of ns

depth_rule : Decl-F ℕ → ℕ
depth_rule (Decl-F.Constant a x) = 0
depth_rule (Decl-F.NamedType a n) = 0
depth_rule (Decl-F.Variables xs n) = 0
depth_rule (Decl-F.Procedure h ns ss x) = suc (sum_of ns)
depth_rule (Decl-F.Forward h) = 0

-- one more for each procedure in it
pub procedures_of : Decl → ℕ
procedures_of = fold-Decl ℕ depth_rule

pub procedures_among : List Decl → ℕ
procedures_among ds = sum_of (map procedures_of ds)

in_procedure : (h : Heading) (ds : List Decl) (ss : List Stmt) (x : Ident) → procedures_of (d.Procedure h ds ss x) ≡ suc (procedures_among ds)
unfolding procedures_of procedures_among depth_rule
in_procedure h ds ss x = ap procedures_of (sym (d.rolls-Procedure h ds ss x)) ∙ fold-roll-Decl ℕ depth_rule (Decl-F.Procedure h ds ss x)

-- inside a procedure there are fewer
pub fewer_inside : (y : Decl) (h : Heading) (ds es : List Decl) (ss : List Stmt) (x : Ident) (t : ℕ) → y ≡ d.Procedure h ds ss x → es ≡ ds → procedures_of y * 5 ≡ t → procedures_among es * 5 + 4 < t
fewer_inside y h ds es ss x t e f g =
    let n : procedures_of y ≡ suc (procedures_among ds) = ap procedures_of e ∙ in_procedure h ds ss x in
    let m = ap procedures_among f in
    omega (arith, n, m, g)

one_among : (xs : List Decl) (i : ℕ) (x : Decl) → i < length xs → x ≡ get_or xs i x → procedures_of x ≤ procedures_among xs
unfolding procedures_among sum_of
one_among [] i x lt e = absurd (omega arith)
one_among (y ∷ xs) zero x lt e = let n = ap procedures_of e in omega (arith, n)
one_among (y ∷ xs) (suc i) x lt e = let low = one_among xs i x (omega arith) e in omega (arith, low)

-- in one of the declarations there are no more
pub no_more_in : (xs : List Decl) (i : ℕ) (x : Decl) (t : ℕ) → i < length xs → x ≡ get_or xs i x → procedures_among xs * 5 + 1 ≡ t → procedures_of x * 5 < t
no_more_in xs i x t lt e g = let low = one_among xs i x lt e in omega (arith, low, g)
