-- Grammars as data, and what they spell.
use Rattle.std.specs.Prelude.{◌≡◌, Bool, List, [], ◌∷◌, ◌++◌, Option, Some, None, ◌⊎◌}
use denote.Enum.Bare.{sameb}
use Rattle.ob_tree.specs.contracts.symbol.Symbol.{the_type}
use Rattle.ob_tree.specs.declared.symbol.Symbol.{Symbol}
use Rattle.ob_tree.specs.declared.token.Token.{Token}
use Rattle.ob_tree.specs.declared.expr.Expr.{Expr}
use Rattle.ob_tree.specs.declared.type_node.TypeNode.{TypeNode}
use Rattle.ob_tree.specs.declared.stmt.Stmt.{Stmt}
use Rattle.ob_tree.specs.declared.decl.Decl.{Decl}

abbrev pub Tokens : Type 0
Tokens = List Token

abbrev pub same : Symbol → Symbol → Bool
same = sameb the_type

-- the phrases that count as a level of nesting
pub data Nest : Type 0 where
  AnExpr : Nest
  AType : Nest
  Statements : Nest
  Negated : Nest
  Procedure : Nest

abbrev pub Tree : Nest → Type 0
Tree AnExpr = Expr
Tree AType = TypeNode
Tree Statements = List Stmt
Tree Negated = Expr
Tree Procedure = Decl

-- a phrase, and what is made of it
pub data Phrase : Type 0 → Type 1 where
  word : Symbol → Phrase Token
  both : {A B : Type 0} → Phrase A → Phrase B → Phrase (A × B)
  made : {A B : Type 0} → (A → B) → Phrase A → Phrase B
  maybe : {A : Type 0} → Phrase A → Phrase (Option A)
  many : {A : Type 0} → Phrase A → Phrase (List A)
  either : {A : Type 0} → Phrase A → Phrase A → Phrase A
  nest : (n : Nest) → Phrase (Tree n)
  -- this symbol and the phrase, which is no level; or else the symbol and what is nested, which is
  -- a level that the symbol is inside of
  fork : Symbol → (n : Nest) → Phrase (Tree n) → Phrase (Tree n)

-- what spells what
abbrev pub Spelling : Type 0 → Type 1
Spelling A = A → Tokens → Type 0

abbrev pub spells_maybe : {A : Type 0} → Spelling A → Spelling (Option A)
spells_maybe S None ts = ts ≡ []
spells_maybe S (Some x) ts = S x ts

abbrev pub spells_many : {A : Type 0} → Spelling A → Spelling (List A)
spells_many S [] ts = ts ≡ []
spells_many S (x ∷ xs) ts = (a : Tokens) × (b : Tokens) × (ts ≡ a ++ b) × S x a × spells_many S xs b

abbrev pub spells_fork : {A : Type 0} → Symbol → Spelling A → Spelling A → Spelling A
spells_fork s S T x ts = (t : Token) × (b : Tokens) × (ts ≡ t ∷ b) × (t.symbol ≡ s) × (S x b ⊎ T x b)

-- the tokens spell x as this phrase, where S spells what is nested
abbrev pub spells_as : ((n : Nest) → Spelling (Tree n)) → {A : Type 0} → Phrase A → Spelling A
spells_as S (word s) t ts = (ts ≡ t ∷ []) × (t.symbol ≡ s)
spells_as S (both p q) x ts = (a : Tokens) × (b : Tokens) × (ts ≡ a ++ b) × spells_as S p x.0 a × spells_as S q x.1 b
spells_as S (made {A} f p) y ts = (x : A) × (f x ≡ y) × spells_as S p x ts
spells_as S (maybe p) o ts = spells_maybe (spells_as S p) o ts
spells_as S (many p) xs ts = spells_many (spells_as S p) xs ts
spells_as S (either p q) x ts = spells_as S p x ts ⊎ spells_as S q x ts
spells_as S (nest n) x ts = S n x ts
spells_as S (fork s n p) x ts = spells_fork s (spells_as S p) (S n) x ts
