-- What is read behind a first operand, and the whole of both.
use Rattle.std.specs.Prelude.{ℕ, List, Some, None}
use Rattle.ob_tree.specs.declared.token.Token.{Token}
use Rattle.ob_tree.specs.declared.expr.Expr.{Expr}
use Rattle.ob_tree.specs.declared.expr.Tail.{Tail}
use Rattle.ob_parse_grammar.specs.Phrase.{Phrase, Tokens, Negated, both, made, maybe, many, either, nest}
use Rattle.ob_parse_grammar.specs.Reading.{Read, Found, ◌>>=◌}
use Rattle.ob_parse_grammar.specs.Expressions.{sign_symbol, char, string, nil, set, paren, mul_tail, term, add_tail, relation, simple, signed_of, chain_of, related_of}
use Rattle.ob_parse_grammar.specs.Grammar.{reads}

-- the tails behind it
abbrev pub chained : Expr → Read (List Tail) → Read Expr
chained a r = r >>= (λ tails rest. Found (a, tails) rest) >>= λ x rest. Found (chain_of x) rest

-- the relation and the right operand behind it
abbrev pub related : Expr → Read (Token × Expr) → Read Expr
related a r = r >>= (λ b rest. Found (Some b) rest) >>= (λ b rest. Found (a, b) rest) >>= λ x rest. Found (related_of x) rest

-- a sign that is there, and its term
abbrev pub with_sign : Phrase Expr
with_sign = made signed_of (both (made (λ t. Some t) sign_symbol) term)

-- a factor that is no designator and no integer
abbrev pub unnamed : Phrase Expr
unnamed = either char (either string (either nil (either set (either paren (nest Negated)))))

-- a term before which no sign stands
abbrev pub unsigned : Read Expr → Read Expr
unsigned r = r >>= (λ x rest. Found (None, x) rest) >>= λ x rest. Found (signed_of x) rest

-- it, and the further terms behind it
abbrev pub added : ℕ → Read Expr → Read Expr
added d r = r >>= (λ x rest. reads d (many add_tail) rest >>= λ y rest'. Found (x, y) rest') >>= λ x rest. Found (chain_of x) rest

-- it, and what it is compared with
abbrev pub compared : ℕ → Read Expr → Read Expr
compared d r = r >>= (λ x rest. reads d (maybe (both relation simple)) rest >>= λ y rest'. Found (x, y) rest') >>= λ x rest. Found (related_of x) rest

-- a first factor without a sign, and what stands behind it
abbrev pub expr_behind : ℕ → Expr → Tokens → Read Expr
expr_behind d a ts = compared d (added d (unsigned (chained a (reads d (many mul_tail) ts))))
