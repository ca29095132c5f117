-- Expressions whose strings are of characters.
use Rattle.std.specs.Prelude.{ℕ, Bool, true, ◌&&◌, nat_lt, List, [], ◌∷◌, Option, Some, None}
use Rattle.ob_tree.specs.declared.expr.Expr.{Expr}
use Rattle.ob_tree.specs.declared.expr.Designator.{Designator}
use Rattle.ob_tree.specs.declared.expr.Element.{Element}
use Rattle.ob_tree.specs.declared.expr.Tail.{Tail}
use Rattle.ob_tree.specs.declared.expr.Selector.{Selector}
use Rattle.ob_tree.specs.declared.expr.Expr.TheOpen.{Expr-F, Tail-F, Element-F, Designator-F, Selector-F}
use Rattle.ob_tree.specs.declared.expr.Expr.TheFolds.{fold-Expr, fold-Designator, fold-Element, fold-Tail, fold-Selector}

abbrev pub all_true : List Bool → Bool
all_true [] = true
all_true (b ∷ bs) = b && all_true bs

abbrev pub if_there : Option Bool → Bool
if_there None = true
if_there (Some b) = b

abbrev pub are_bytes : List ℕ → Bool
are_bytes [] = true
are_bytes (c ∷ cs) = nat_lt c 256 && are_bytes cs

abbrev pub expr_layer : Expr-F Bool Bool Bool Bool Bool → Bool
expr_layer (Expr-F.Designator n) = n
expr_layer (Expr-F.Int at text) = true
expr_layer (Expr-F.Char at text) = true
expr_layer (Expr-F.Str at text) = are_bytes text
expr_layer (Expr-F.Nil at) = true
expr_layer (Expr-F.Set at xs) = all_true xs
expr_layer (Expr-F.Paren at x) = x
expr_layer (Expr-F.Not at x) = x
expr_layer (Expr-F.Signed s at x) = x
expr_layer (Expr-F.Chain x ts) = x && all_true ts
expr_layer (Expr-F.Relate l op at r) = l && r

abbrev pub selector_layer : Selector-F Bool Bool Bool Bool Bool → Bool
selector_layer (Selector-F.Field at x) = true
selector_layer (Selector-F.Index at i) = i
selector_layer (Selector-F.Deref at) = true
selector_layer (Selector-F.Call at xs) = all_true xs

abbrev pub designator_layer : Designator-F Bool Bool Bool Bool Bool → Bool
designator_layer n = all_true n.selectors

abbrev pub element_layer : Element-F Bool Bool Bool Bool Bool → Bool
element_layer x = x.low && if_there x.high

abbrev pub tail_layer : Tail-F Bool Bool Bool Bool Bool → Bool
tail_layer t = t.operand

-- the strings in an expression are of characters, of 8 bits
abbrev pub is_spelled : Expr → Bool
is_spelled = fold-Expr Bool Bool Bool Bool Bool expr_layer selector_layer designator_layer element_layer tail_layer

abbrev pub designator_spelled : Designator → Bool
designator_spelled = fold-Designator Bool Bool Bool Bool Bool expr_layer selector_layer designator_layer element_layer tail_layer

abbrev pub element_spelled : Element → Bool
element_spelled = fold-Element Bool Bool Bool Bool Bool expr_layer selector_layer designator_layer element_layer tail_layer

abbrev pub tail_spelled : Tail → Bool
tail_spelled = fold-Tail Bool Bool Bool Bool Bool expr_layer selector_layer designator_layer element_layer tail_layer

abbrev pub selector_spelled : Selector → Bool
selector_spelled = fold-Selector Bool Bool Bool Bool Bool expr_layer selector_layer designator_layer element_layer tail_layer
