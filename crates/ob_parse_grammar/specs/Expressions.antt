-- Names and expressions.
use Rattle.std.specs.Prelude.{◌-◌, List, [], ◌∷◌, ◌++◌, length, take, drop, ℕ, Option, Some, None}
use Rattle.ob_tree.specs.declared.symbol.Symbol.{Symbol}
use Rattle.ob_tree.specs.declared.symbol.Symbol.TheVariants as s
use Rattle.ob_tree.specs.declared.token.Token.{Token}
use Rattle.ob_tree.specs.declared.ident.Ident.{Ident}
use Rattle.ob_tree.specs.declared.ident.IdentDef.{IdentDef}
use Rattle.ob_tree.specs.declared.ident.Mark.{Mark}
use Rattle.ob_tree.specs.declared.ident.Mark.TheVariants as mark
use Rattle.ob_tree.specs.declared.ident.Qualident.{Qualident}
use Rattle.ob_tree.specs.declared.expr.Operator.{Operator}
use Rattle.ob_tree.specs.declared.expr.Operator.TheVariants as operator
use Rattle.ob_tree.specs.declared.expr.Relation.{Relation}
use Rattle.ob_tree.specs.declared.expr.Relation.TheVariants as relates
use Rattle.ob_tree.specs.declared.expr.Sign.{Sign}
use Rattle.ob_tree.specs.declared.expr.Sign.TheVariants as sign
use Rattle.ob_tree.specs.declared.expr.Expr.{Expr}
use Rattle.ob_tree.specs.declared.expr.Expr.TheVariants as e
use Rattle.ob_tree.specs.declared.expr.Tail.{Tail, roll-Tail}
use Rattle.ob_tree.specs.declared.expr.Element.{Element, roll-Element}
use Rattle.ob_tree.specs.declared.expr.Designator.{Designator, roll-Designator}
use Rattle.ob_tree.specs.declared.expr.Selector.{Selector}
use Rattle.ob_tree.specs.declared.expr.Selector.TheVariants as sel
use Rattle.ob_parse_grammar.specs.Phrase.{AnExpr, Negated, Phrase, word, both, made, maybe, many, either, nest}

-- ---- what several rules are made with

-- one phrase, and then another
infixr 12 ◌⊗◌
abbrev pub ◌⊗◌ : {A B : Type 0} → Phrase A → Phrase B → Phrase (A × B)
p ⊗ q = both p q

-- a symbol, and then the phrase
abbrev pub next_of : {A : Type 0} → Symbol → Phrase A → Phrase A
next_of by p = made (λ x. x.1) (word by ⊗ p)

-- a phrase, and more of them with a symbol before each
abbrev pub separated : {A : Type 0} → Symbol → Phrase A → Phrase (List A)
separated by p = made (λ x. x.0 ∷ x.1) (p ⊗ many (next_of by p))

-- a list that may be left out
abbrev pub list_of : {A : Type 0} → Option (List A) → List A
list_of None = []
list_of (Some xs) = xs

abbrev pub optional : {A : Type 0} → Phrase (List A) → Phrase (List A)
optional p = made list_of (maybe p)

-- lists, one behind the other
abbrev pub joined : {A : Type 0} → List (List A) → List A
joined [] = []
joined (xs ∷ xss) = xs ++ joined xss

-- ---- names

abbrev pub ident_of : Token → Ident
ident_of t = record { name = t.text.now; pos = t.pos }

abbrev pub ident : Phrase Ident
ident = made ident_of (word s.Ident)

-- IdentDef = ident ["*" | "-"]
abbrev pub mark_of : Symbol → Mark
mark_of s.Star = mark.Full
mark_of _ = mark.ReadOnly

abbrev pub ident_def_of : Ident × Option Token → IdentDef
ident_def_of (i, None) = record { ident = i; mark = mark.Hidden; mark_pos = i.pos }
ident_def_of (i, Some t) = record { ident = i; mark = mark_of t.symbol; mark_pos = t.pos }

abbrev pub mark_symbol : Phrase Token
mark_symbol = either (word s.Star) (word s.Minus)

abbrev pub ident_def : Phrase IdentDef
ident_def = made ident_def_of (ident ⊗ maybe mark_symbol)

-- IdentList = IdentDef {"," IdentDef}
abbrev pub ident_list : Phrase (List IdentDef)
ident_list = separated s.Comma ident_def

-- Qualident = ident ["." ident]
abbrev pub qualident_of : Ident × Option Ident → Qualident
qualident_of (i, None) = record { qualifier = None; ident = i }
qualident_of (i, Some j) = record { qualifier = Some i; ident = j }

abbrev pub qualident : Phrase Qualident
qualident = made qualident_of (ident ⊗ maybe (next_of s.Dot ident))

-- ---- designators

-- Selector = "." ident | "[" Expr {"," Expr} "]" | "^" | "(" [Expr {"," Expr}] ")"
abbrev pub field : Phrase (List Selector)
field = made (λ x. sel.Field x.0.pos x.1 ∷ []) (word s.Dot ⊗ ident)

abbrev pub further_index : Phrase Selector
further_index = made (λ x. sel.Index x.0.pos x.1) (word s.Comma ⊗ nest AnExpr)

abbrev pub index : Phrase (List Selector)
index =
    made (λ x. sel.Index x.0.pos x.1.0 ∷ x.1.1.0)
    (word s.LeftSquare ⊗ nest AnExpr ⊗ many further_index ⊗ word s.RightSquare)

abbrev pub deref : Phrase (List Selector)
deref = made (λ x. sel.Deref x.pos ∷ []) (word s.Caret)

abbrev pub exprs : Phrase (List Expr)
exprs = separated s.Comma (nest AnExpr)

abbrev pub call : Phrase (List Selector)
call = made (λ x. sel.Call x.0.pos (list_of x.1.0) ∷ []) (word s.LeftRound ⊗ maybe exprs ⊗ word s.RightRound)

abbrev pub selector : Phrase (List Selector)
selector = either field (either index (either deref call))

abbrev pub selectors : Phrase (List Selector)
selectors = made joined (many selector)

-- Designator = ident {Selector}
abbrev pub designator : Phrase Designator
designator = made (λ x. roll-Designator (record { ident = x.0; selectors = x.1 })) (ident ⊗ selectors)

-- ---- factors

abbrev pub int : Phrase Expr
int = made (λ t. e.Int t.pos t.text.now) (word s.Int)

abbrev pub char : Phrase Expr
char = made (λ t. e.Char t.pos t.text.now) (word s.Char)

-- what stands between the marks of a string
abbrev pub between_marks : List ℕ → List ℕ
between_marks text = take (length text - 2) (drop 1 text)

abbrev pub string : Phrase Expr
string = made (λ t. e.Str t.pos (between_marks t.text.now)) (word s.Str)

abbrev pub nil : Phrase Expr
nil = made (λ t. e.Nil t.pos) (word s.KwNil)

-- Element = Expr [".." Expr]
abbrev pub element : Phrase Element
element = made (λ x. roll-Element (record { low = x.0; high = x.1 })) (nest AnExpr ⊗ maybe (next_of s.DotDot (nest AnExpr)))

abbrev pub elements : Phrase (List Element)
elements = separated s.Comma element

-- Set = "{" [Element {"," Element}] "}"
abbrev pub set : Phrase Expr
set = made (λ x. e.Set x.0.pos (list_of x.1.0)) (word s.LeftCurly ⊗ maybe elements ⊗ word s.RightCurly)

abbrev pub paren : Phrase Expr
paren = made (λ x. e.Paren x.0.pos x.1.0) (word s.LeftRound ⊗ nest AnExpr ⊗ word s.RightRound)

-- Factor = Designator | int | char | string | NIL | Set | "(" Expr ")" | "~" Factor
abbrev pub factor : Phrase Expr
factor =
    either (made e.Designator designator) (either int (either char (either string (either nil (either set (either paren (nest Negated)))))))

abbrev pub negated : Phrase Expr
negated = made (λ x. e.Not x.0.pos x.1) (word s.Tilde ⊗ factor)

-- ---- operators

abbrev pub mul_op : Phrase Token
mul_op = either (word s.Star) (either (word s.Slash) (either (word s.KwDiv) (either (word s.KwMod) (word s.Ampersand))))

abbrev pub add_op : Phrase Token
add_op = either (word s.Plus) (either (word s.Minus) (word s.KwOr))

abbrev pub sign_symbol : Phrase Token
sign_symbol = either (word s.Plus) (word s.Minus)

abbrev pub relation : Phrase Token
relation =
    either (word s.Equal) (either (word s.Hash) (either (word s.Less) (either (word s.LessEqual)
    (either (word s.Greater) (either (word s.GreaterEqual) (either (word s.KwIn) (word s.KwIs)))))))

abbrev pub operator_of : Symbol → Operator
operator_of s.Plus = operator.Add
operator_of s.Minus = operator.Subtract
operator_of s.KwOr = operator.Or
operator_of s.Star = operator.Multiply
operator_of s.Slash = operator.Divide
operator_of s.KwDiv = operator.Quotient
operator_of s.KwMod = operator.Remainder
operator_of _ = operator.And

abbrev pub relation_of : Symbol → Relation
relation_of s.Equal = relates.Equal
relation_of s.Hash = relates.NotEqual
relation_of s.Less = relates.Less
relation_of s.LessEqual = relates.LessEqual
relation_of s.Greater = relates.Greater
relation_of s.GreaterEqual = relates.GreaterEqual
relation_of s.KwIn = relates.In
relation_of _ = relates.Is

abbrev pub sign_of : Symbol → Sign
sign_of s.Plus = sign.Plus
sign_of _ = sign.Minus

-- ---- chains

abbrev pub tail_of : Token × Expr → Tail
tail_of x = roll-Tail (record { operator = operator_of x.0.symbol; pos = x.0.pos; operand = x.1 })

-- an operand alone is no chain
abbrev pub chain_of : Expr × List Tail → Expr
chain_of (a, []) = a
chain_of (a, b ∷ bs) = e.Chain a (b ∷ bs)

abbrev pub signed_of : Option Token × Expr → Expr
signed_of (None, a) = a
signed_of (Some t, a) = e.Signed (sign_of t.symbol) t.pos a

abbrev pub related_of : Expr × Option (Token × Expr) → Expr
related_of (a, None) = a
related_of (a, Some b) = e.Relate a (relation_of b.0.symbol) b.0.pos b.1

-- Term = Factor {("*" | "/" | DIV | MOD | "&") Factor}
abbrev pub mul_tail : Phrase Tail
mul_tail = made tail_of (mul_op ⊗ factor)

abbrev pub term : Phrase Expr
term = made chain_of (factor ⊗ many mul_tail)

-- Simple = ["+" | "-"] Term {("+" | "-" | OR) Term}
abbrev pub signed : Phrase Expr
signed = made signed_of (maybe sign_symbol ⊗ term)

abbrev pub add_tail : Phrase Tail
add_tail = made tail_of (add_op ⊗ term)

abbrev pub simple : Phrase Expr
simple = made chain_of (signed ⊗ many add_tail)

-- Expr = Simple [("=" | "#" | "<" | "<=" | ">" | ">=" | IN | IS) Simple]
abbrev pub expr : Phrase Expr
expr = made related_of (simple ⊗ maybe (relation ⊗ simple))
