-- How tokens are read by a grammar, with one token of lookahead.
use Rattle.std.specs.Prelude.{ℕ, zero, suc, Bool, true, false, ◌||◌, ◌&&◌, if◌then◌else◌, List, [], ◌∷◌, length, Some, None}
use Rattle.ob_tree.specs.declared.symbol.Symbol.{Symbol}
use Rattle.ob_tree.specs.declared.token.Token.{Token}
use Rattle.ob_parse_grammar.specs.Phrase.{Tokens, same, Nest, Tree, Phrase, word, both, made, maybe, many, either, nest, fork}

pub data Fault : Type 0 where
  Wrong : Fault
  Deep : Fault

-- what was read and the tokens behind it, or a fault and the tokens from it on
pub data Read (A : Type 0) : Type 0 where
  Found : A → Tokens → Read A
  Fails : Fault → Tokens → Read A

infixl 10 ◌>>=◌
abbrev pub ◌>>=◌ : {A B : Type 0} → Read A → (A → Tokens → Read B) → Read B
(Found x ts) >>= f = f x ts
(Fails e ts) >>= f = Fails e ts

abbrev pub Reader : Type 0 → Type 0
Reader A = Tokens → Read A

abbrev pub Set : Type 0
Set = Symbol → Bool

-- the next token is of the set
abbrev pub starts : Set → Tokens → Bool
starts f [] = false
starts f (t ∷ ts) = f t.symbol

abbrev pub take_word : Symbol → Reader Token
take_word s [] = Fails Wrong []
take_word s (t ∷ ts) = if same t.symbol s then Found t ts else Fails Wrong (t ∷ ts)

-- as many as there are; the number bounds them, and each takes a token
abbrev pub take_many : {A : Type 0} → ℕ → Set → Reader A → Reader (List A)
take_many zero f P ts = Found [] ts
take_many (suc k) f P ts =
    if starts f ts then (P ts >>= λ x rest. take_many k f P rest >>= λ xs rest'. Found (x ∷ xs) rest') else Found [] ts

-- the symbol, and then what the token behind it decides; where no level is left, the symbol is too deep
abbrev pub take_fork : {A : Type 0} → Bool → Symbol → Set → Reader A → Reader A → Reader A
take_fork full s f P Q ts =
    take_word s ts >>= λ t rest. if starts f rest then P rest else (if full then Fails Deep ts else Q rest)

-- tables of what is nested: with which symbols it starts, and whether it may be empty
module _ (first_of : Nest → Set) (empty_of : Nest → Bool) where
  abbrev pub may_be_empty : {A : Type 0} → Phrase A → Bool
  may_be_empty (word s) = false
  may_be_empty (both p q) = may_be_empty p && may_be_empty q
  may_be_empty (made f p) = may_be_empty p
  may_be_empty (maybe p) = true
  may_be_empty (many p) = true
  may_be_empty (either p q) = may_be_empty p || may_be_empty q
  may_be_empty (nest n) = empty_of n
  may_be_empty (fork s n p) = false

  -- the symbols with which a phrase starts
  abbrev pub first : {A : Type 0} → Phrase A → Set
  first (word s) t = same t s
  first (both p q) t = first p t || (may_be_empty p && first q t)
  first (made f p) t = first p t
  first (maybe p) t = first p t
  first (many p) t = first p t
  first (either p q) t = first p t || first q t
  first (nest n) t = first_of n t
  first (fork s n p) t = same t s

  -- reading with R for what is nested; full: no level is left for it
  abbrev pub read_as : Bool → ((n : Nest) → Reader (Tree n)) → {A : Type 0} → Phrase A → Reader A
  read_as full R (word s) ts = take_word s ts
  read_as full R (both p q) ts = read_as full R p ts >>= λ x rest. read_as full R q rest >>= λ y rest'. Found (x, y) rest'
  read_as full R (made f p) ts = read_as full R p ts >>= λ x rest. Found (f x) rest
  read_as full R (maybe p) ts = if starts (first p) ts then (read_as full R p ts >>= λ x rest. Found (Some x) rest) else Found None ts
  read_as full R (many p) ts = take_many (length ts) (first p) (read_as full R p) ts
  read_as full R (either p q) ts = if starts (first p) ts then read_as full R p ts else read_as full R q ts
  read_as full R (nest n) ts = R n ts
  read_as full R (fork s n p) ts = take_fork full s (first p) (read_as full R p) (R n) ts
