-- What is repeated takes a token each time, and how it starts.
use Rattle.std.proofs.Common.{◌≡◌, refl, ◌∙◌, ℕ, Bool, true, false, ◌||◌, [], ◌∷◌, Result, Ok, Err}
use Rattle.ob_tree.specs.declared.symbol.Symbol.TheVariants as s
use Rattle.ob_tree.specs.declared.expr.Expr.{Expr}
use Rattle.ob_parse_grammar.specs.Phrase.{Tokens, same, AnExpr, both, many, nest}
use Rattle.ob_parse_grammar.specs.Reading.{Fault, Wrong, Deep, Found, Fails, starts}
use Rattle.ob_parse_grammar.specs.Expressions.{next_of, ident, ident_def, further_index, factor, sign_symbol, mul_op, mul_tail, add_op, add_tail, relation, simple, expr, selector, element}
use Rattle.ob_parse_grammar.specs.Grammar.{reads, begins}
use Rattle.ob_parse_grammar.proofs.Fine.{every}
use Rattle.ob_parse_grammar.proofs.Local.{Takes}
use Rattle.ob_parse_grammar.proofs.Loops.{takes, many_ends}
use Rattle.ob_parse_grammar.specs.declared.fault.ParseFault.{ParseFault}
use Rattle.ob_parse_grammar.specs.declared.fault.ParseFault.TheVariants as fault
use Rattle.ob_parse_expr.specs.Contract.{FailsAs, Reads}
use Rattle.ob_parse_expr.specs.Chains.{related, expr_behind}

pub takes_further : (d : ℕ) → Takes (begins further_index) (reads d further_index)
unfolding every
takes_further d = takes d further_index refl refl

pub takes_mul : (d : ℕ) → Takes (begins mul_tail) (reads d mul_tail)
unfolding every
takes_mul d = takes d mul_tail refl refl

pub takes_add : (d : ℕ) → Takes (begins add_tail) (reads d add_tail)
unfolding every
takes_add d = takes d add_tail refl refl

pub takes_selector : (d : ℕ) → Takes (begins selector) (reads d selector)
unfolding every
takes_selector d = takes d selector refl refl

pub takes_expr : (d : ℕ) → Takes (begins (next_of s.Comma (nest AnExpr))) (reads d (next_of s.Comma (nest AnExpr)))
unfolding every
takes_expr d = takes d (next_of s.Comma (nest AnExpr)) refl refl

pub takes_element : (d : ℕ) → Takes (begins (next_of s.Comma element)) (reads d (next_of s.Comma element))
unfolding every
takes_element d = takes d (next_of s.Comma element) refl refl

pub takes_ident_def : (d : ℕ) → Takes (begins (next_of s.Comma ident_def)) (reads d (next_of s.Comma ident_def))
unfolding every
takes_ident_def d = takes d (next_of s.Comma ident_def) refl refl

pub takes_ident : (d : ℕ) → Takes (begins (next_of s.Comma ident)) (reads d (next_of s.Comma ident))
unfolding every
takes_ident d = takes d (next_of s.Comma ident) refl refl

or_no : (b : Bool) → (b || false) ≡ b
or_no true = refl
or_no false = refl

-- a further index starts with its comma
pub further_starts : (ts : Tokens) → starts (begins further_index) ts ≡ starts (λ x. same x s.Comma) ts
further_starts [] = refl
further_starts (t ∷ ts) = or_no _

-- a tail starts with its operator
pub mul_starts : (ts : Tokens) → starts (begins mul_tail) ts ≡ starts (begins mul_op) ts
mul_starts [] = refl
mul_starts (t ∷ ts) = or_no _

pub add_starts : (ts : Tokens) → starts (begins add_tail) ts ≡ starts (begins add_op) ts
add_starts [] = refl
add_starts (t ∷ ts) = or_no _

-- where no operator stands, there are no tails
pub no_mul : (d : ℕ) (ts : Tokens) → starts (begins mul_op) ts ≡ false → reads d (many mul_tail) ts ≡ Found [] ts
no_mul d ts e = many_ends (begins mul_tail) (reads d mul_tail) (takes_mul d) ts (mul_starts ts ∙ e)

pub no_add : (d : ℕ) (ts : Tokens) → starts (begins add_op) ts ≡ false → reads d (many add_tail) ts ≡ Found [] ts
no_add d ts e = many_ends (begins add_tail) (reads d add_tail) (takes_add d) ts (add_starts ts ∙ e)

relation_starts : (ts : Tokens) → starts (begins (both relation simple)) ts ≡ starts (begins relation) ts
relation_starts [] = refl
relation_starts (t ∷ ts) = or_no _

-- behind a left operand stands a relation
pub relates_on : (d : ℕ) (ts mid : Tokens) (a : Expr) → reads d simple ts ≡ Found a mid → starts (begins relation) mid ≡ true → reads d expr ts ≡ related a (reads d (both relation simple) mid)
relates_on d ts mid a e s = let t = relation_starts mid ∙ s in rw (e, t) refl

-- behind a first factor stands the rest of an expression
pub goes_on : (d : ℕ) (ts mid : Tokens) (a : Expr) → reads d factor ts ≡ Found a mid → starts (begins sign_symbol) ts ≡ false → reads d expr ts ≡ expr_behind d a mid
goes_on d ts mid a e s = rw (s, e) refl

-- a factor alone is what a relation compares
pub compares_on : (d : ℕ) (ts mid : Tokens) (a : Expr) → reads d factor ts ≡ Found a mid → starts (begins sign_symbol) ts ≡ false
    → starts (begins mul_op) mid ≡ false → starts (begins add_op) mid ≡ false → starts (begins relation) mid ≡ true → reads d expr ts ≡ related a (reads d (both relation simple) mid)
compares_on d ts mid a e s m p r =
    let x = no_mul d mid m in let y = no_add d mid p in
    let whole : reads d simple ts ≡ Found a mid = rw (s, e, x, y) refl in
    relates_on d ts mid a whole r

-- where nothing does, the factor is the whole
stands_alone : (d : ℕ) (a : Expr) (mid : Tokens) → starts (begins mul_op) mid ≡ false → starts (begins add_op) mid ≡ false → starts (begins relation) mid ≡ false → expr_behind d a mid ≡ Found a mid
stands_alone d a mid m p r = let x = no_mul d mid m in let y = no_add d mid p in let z = relation_starts mid ∙ r in rw (x, y, z) refl

factor_fails : (d : ℕ) (ts : Tokens) (k : Fault) (rest : Tokens) → reads d factor ts ≡ Fails k rest → starts (begins sign_symbol) ts ≡ false → reads d expr ts ≡ Fails k rest
factor_fails d ts k rest e s = rw (s, e) refl

-- a fault of the first factor is one of the expression
pub fails_on : (d : ℕ) (ts : Tokens) (f : ParseFault) → FailsAs f (reads d factor ts) → starts (begins sign_symbol) ts ≡ false → FailsAs f (reads d expr ts)
fails_on d ts fault.Memory h s = tt
fails_on d ts (fault.Syntax pos) h s = (h.0, factor_fails d ts Wrong h.0 h.1 s, h.2)
fails_on d ts (fault.TooDeep pos) h s = (h.0, factor_fails d ts Deep h.0 h.1 s, h.2)

-- a factor alone is an expression
pub alone : (d : ℕ) (ts : Tokens) (r : Result Expr ParseFault) (mid : Tokens) → Reads (reads d factor ts) r mid → starts (begins sign_symbol) ts ≡ false
    → starts (begins mul_op) mid ≡ false → starts (begins add_op) mid ≡ false → starts (begins relation) mid ≡ false → Reads (reads d expr ts) r mid
alone d ts (Ok a) mid h s m p r = goes_on d ts mid a h s ∙ stands_alone d a mid m p r
alone d ts (Err f) mid h s m p r = fails_on d ts f h s
