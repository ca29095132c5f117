-- How many levels each token of a module is inside of, and what it says of a token that it is too deep.
use Rattle.std.specs.Prelude.{◌≡◌, ℕ, zero, suc, ◌≤◌, ◌<◌, List, [], ◌∷◌, ◌++◌, map, Option, Some, None, ◌⊎◌}
use Rattle.ob_tree.specs.declared.token.Token.{Token}
use Rattle.ob_tree.specs.declared.decl.Module.{Module}
use Rattle.ob_parse_grammar.specs.Phrase.{Tokens, Nest, Tree, Phrase, word, both, made, maybe, many, either, nest, fork}
use Rattle.ob_parse_grammar.specs.Grammar.{rule, IsVoid}
use Rattle.ob_parse_grammar.specs.Declarations.{«module»}
use Rattle.ob_parse_grammar.specs.Laws.{IsModule, CanGoOn, SameNext}

-- r is the end of ts, and some module begins with what is before it and its first token
abbrev pub NextGoesOn : Tokens → Tokens → Type 0
NextGoesOn ts r = (a : Tokens) × (t : Token) × (r' : Tokens) × (ts ≡ a ++ t ∷ r') × (r ≡ t ∷ r') × CanGoOn (a ++ t ∷ [])

-- ---- the places of tokens

-- a token, and how many levels it is inside of
abbrev pub Placed : Type 0
Placed = ℕ × Token

abbrev pub token_of : Placed → Token
token_of u = u.1

abbrev pub tokens_of : List Placed → Tokens
tokens_of us = map token_of us

-- each is inside d levels at most
abbrev pub AllWithin : ℕ → List Placed → Type 0
AllWithin d [] = Unit {0}
AllWithin d (u ∷ us) = (u.0 ≤ d) × AllWithin d us

-- what spells what, with the place of each token
abbrev pub Placing : Type 0 → Type 1
Placing A = A → List Placed → Type 0

abbrev pub places_maybe : {A : Type 0} → Placing A → Placing (Option A)
places_maybe P None us = us ≡ []
places_maybe P (Some x) us = P x us

abbrev pub places_many : {A : Type 0} → Placing A → Placing (List A)
places_many P [] us = us ≡ []
places_many P (x ∷ xs) us = (a : List Placed) × (b : List Placed) × (us ≡ a ++ b) × P x a × places_many P xs b

-- the tokens spell x as this phrase, which is inside k levels; P places what is nested
abbrev pub places_as : ((n : Nest) → Placing (Tree n)) → ℕ → {A : Type 0} → Phrase A → Placing A
places_as P k (word s) t us = (us ≡ (k, t) ∷ []) × (t.symbol ≡ s)
places_as P k (both p q) x us = (a : List Placed) × (b : List Placed) × (us ≡ a ++ b) × places_as P k p x.0 a × places_as P k q x.1 b
places_as P k (made {A} f p) y us = (x : A) × (f x ≡ y) × places_as P k p x us
places_as P k (maybe p) o us = places_maybe (places_as P k p) o us
places_as P k (many p) xs us = places_many (places_as P k p) xs us
places_as P k (either p q) x us = places_as P k p x us ⊎ places_as P k q x us
places_as P k (nest n) x us = P n x us
places_as P k (fork s n p) x us =
    (t : Token) × (b : List Placed) × (t.symbol ≡ s) × (((us ≡ (k, t) ∷ b) × places_as P k p x b) ⊎ ((us ≡ (suc k, t) ∷ b) × P n x b))

-- the same of what is nested inside k levels, with no more than j further ones
abbrev pub places : ℕ → ℕ → (n : Nest) → Placing (Tree n)
places zero k n x us = (us ≡ []) × IsVoid n x
places (suc j) k n x us = places_as (places j (suc k)) (suc k) (rule n) x us

-- the tokens spell the module, in no more than j levels
abbrev pub IsPlaced : ℕ → Module → List Placed → Type 0
IsPlaced j m us = places_as (places j zero) zero «module» m us

-- r is the end of ts, and some module begins with what is before it and its first token, which is the first token of this
-- module that is inside more than d levels
abbrev pub IsFirstTooDeep : ℕ → Tokens → Tokens → Type 0
IsFirstTooDeep d ts r =
    (a : List Placed) × (k : ℕ) × (t : Token) × (c : List Placed) × (r' : Tokens) × (j : ℕ) × (m : Module)
    × (ts ≡ tokens_of a ++ r) × (r ≡ t ∷ r') × AllWithin d a × (d < k) × IsPlaced j m (a ++ (k, t) ∷ c)

-- r is the end of ts; in each module that begins with what is before it and its first token, each token before is inside
-- d levels at most
abbrev pub NoneIsEarlier : ℕ → Tokens → Tokens → Type 0
NoneIsEarlier d ts r =
    (a : Tokens) × (ts ≡ a ++ r) × ((j : ℕ) (m : Module) (us : List Placed) (r' : Tokens) → IsPlaced j m us → tokens_of us ≡ a ++ r' → SameNext r r'
    → (b : List Placed) × (c : List Placed) × (us ≡ b ++ c) × (tokens_of b ≡ a) × AllWithin d b)

-- r is the end of ts, and some module begins with what is before it, of which each token is inside d levels at most
abbrev pub IsInside : ℕ → Tokens → Tokens → Type 0
IsInside d ts r =
    (a : List Placed) × (c : List Placed) × (j : ℕ) × (m : Module) × (ts ≡ tokens_of a ++ r) × AllWithin d a × IsPlaced j m (a ++ c)

-- tokens that are placed so spell the module
abbrev pub IsSpelled : ℕ → Module → Type 0
IsSpelled j m = (us : List Placed) → IsPlaced j m us → IsModule j m (tokens_of us)

-- tokens that spell the module within d levels have such places, each inside d levels at most
abbrev pub HasPlaces : ℕ → Module → Type 0
HasPlaces d m = (ts : Tokens) → IsModule d m ts → (us : List Placed) × (j : ℕ) × (ts ≡ tokens_of us) × AllWithin d us × IsPlaced j m us
