-- The grammar of modules: what the tokens spell within a number of levels, and how they are read.
use Rattle.std.specs.Prelude.{◌≡◌, ℕ, zero, suc, Bool, true, false, if◌then◌else◌, [], ◌∷◌}
use Rattle.ob_tree.specs.declared.symbol.Symbol.TheVariants as s
use Rattle.ob_tree.specs.declared.stmt.Stmt.TheVariants as st
use Rattle.ob_parse_grammar.specs.Phrase.{Nest, AnExpr, AType, Statements, Negated, Procedure, Tree, Phrase, Spelling, spells_as}
use Rattle.ob_parse_grammar.specs.Reading.{Found, Fails, Wrong, Deep, Reader, Set, starts, first, read_as}
use Rattle.ob_parse_grammar.specs.Expressions.{expr, negated}
use Rattle.ob_parse_grammar.specs.Types.{type_node}
use Rattle.ob_parse_grammar.specs.Statements.{statements}
use Rattle.ob_parse_grammar.specs.Declarations.{procedure}

abbrev pub rule : (n : Nest) → Phrase (Tree n)
rule AnExpr = expr
rule AType = type_node
rule Statements = statements
rule Negated = negated
rule Procedure = procedure

-- ---- spelling within a number of levels

-- what is empty has no token inside, and may stand at any depth
abbrev pub IsVoid : (n : Nest) → Tree n → Type 0
IsVoid AnExpr x = ⊥
IsVoid AType x = ⊥
IsVoid Statements x = x ≡ st.Empty ∷ []
IsVoid Negated x = ⊥
IsVoid Procedure x = ⊥

-- the tokens spell x, in no more than this many levels
abbrev pub spells : ℕ → (n : Nest) → Spelling (Tree n)
spells zero n x ts = (ts ≡ []) × IsVoid n x
spells (suc d) n x ts = spells_as (spells d) (rule n) x ts

-- ---- reading within a number of levels

-- with which symbols what is nested starts
abbrev pub first_of : Nest → Set
first_of AnExpr s.Ident = true
first_of AnExpr s.Int = true
first_of AnExpr s.Char = true
first_of AnExpr s.Str = true
first_of AnExpr s.KwNil = true
first_of AnExpr s.LeftCurly = true
first_of AnExpr s.LeftRound = true
first_of AnExpr s.Tilde = true
first_of AnExpr s.Plus = true
first_of AnExpr s.Minus = true
first_of AnExpr _ = false
first_of AType s.Ident = true
first_of AType s.KwArray = true
first_of AType s.KwRecord = true
first_of AType s.KwPointer = true
first_of AType s.KwProcedure = true
first_of AType _ = false
first_of Statements s.Ident = true
first_of Statements s.KwIf = true
first_of Statements s.KwCase = true
first_of Statements s.KwWhile = true
first_of Statements s.KwRepeat = true
first_of Statements s.KwFor = true
first_of Statements s.KwLoop = true
first_of Statements s.KwExit = true
first_of Statements s.KwReturn = true
first_of Statements s.KwWith = true
first_of Statements s.Semicolon = true
first_of Statements _ = false
first_of Negated s.Tilde = true
first_of Negated _ = false
first_of Procedure s.Ident = true
first_of Procedure s.LeftRound = true
first_of Procedure _ = false

-- whether it may be empty
abbrev pub empty_of : Nest → Bool
empty_of AnExpr = false
empty_of AType = false
empty_of Statements = true
empty_of Negated = false
empty_of Procedure = false

abbrev pub read_void : (n : Nest) → Reader (Tree n)
read_void AnExpr ts = Fails Wrong ts
read_void AType ts = Fails Wrong ts
read_void Statements ts = Found (st.Empty ∷ []) ts
read_void Negated ts = Fails Wrong ts
read_void Procedure ts = Fails Wrong ts

abbrev pub is_full : ℕ → Bool
is_full zero = true
is_full (suc d) = false

-- a reading of what is nested, with so many levels left
abbrev pub read : ℕ → (n : Nest) → Reader (Tree n)
read zero n ts = if starts (first_of n) ts then Fails Deep ts else read_void n ts
read (suc d) n ts = read_as first_of empty_of (is_full d) (read d) (rule n) ts

-- a reading of any phrase, with so many levels left
abbrev pub reads : {A : Type 0} → ℕ → Phrase A → Reader A
reads d p ts = read_as first_of empty_of (is_full d) (read d) p ts

-- with which symbols a phrase starts
abbrev pub begins : {A : Type 0} → Phrase A → Set
begins p = first first_of empty_of p
