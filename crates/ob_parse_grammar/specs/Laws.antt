-- What a reading of a module says of the tokens.
use Rattle.std.specs.Prelude.{◌≡◌, ℕ, [], ◌∷◌, ◌++◌}
use Rattle.ob_tree.specs.declared.decl.Module.{Module}
use Rattle.ob_parse_grammar.specs.Phrase.{Tokens, spells_as}
use Rattle.ob_parse_grammar.specs.Reading.{Read, Found, Fails, Wrong, Deep}
use Rattle.ob_parse_grammar.specs.Grammar.{spells}
use Rattle.ob_parse_grammar.specs.Declarations.{«module»}

-- the tokens spell m and the end of the text, within d levels
abbrev pub IsModule : ℕ → Module → Tokens → Type 0
IsModule d m ts = spells_as (spells d) «module» m ts

-- the same next token, or the end of both
abbrev pub SameNext : Tokens → Tokens → Type 0
SameNext [] [] = Unit {0}
SameNext [] (u ∷ us) = ⊥
SameNext (t ∷ ts) [] = ⊥
SameNext (t ∷ ts) (u ∷ us) = t ≡ u

-- the same next two tokens
abbrev pub SameNextTwo : Tokens → Tokens → Type 0
SameNextTwo [] [] = Unit {0}
SameNextTwo [] (u ∷ us) = ⊥
SameNextTwo (t ∷ ts) [] = ⊥
SameNextTwo (t ∷ ts) (u ∷ us) = (t ≡ u) × SameNext ts us

-- some module begins so
abbrev pub CanGoOn : Tokens → Type 0
CanGoOn a = (d : ℕ) × (c : Tokens) × (m : Module) × IsModule d m (a ++ c)

-- no module of d levels begins so and goes on with the next token of r
abbrev pub CanNotGoOn : ℕ → Tokens → Tokens → Type 0
CanNotGoOn d a r = (m : Module) (r' : Tokens) → SameNext r r' → IsModule d m (a ++ r') → ⊥

-- no module of d levels begins so and goes on with the next two tokens of r
abbrev pub CanNotGoOnTwo : ℕ → Tokens → Tokens → Type 0
CanNotGoOnTwo d a r = (m : Module) (r' : Tokens) → SameNextTwo r r' → IsModule d m (a ++ r') → ⊥

-- what was read is spelled so; a wrong token is the first that no module goes on with, whatever its levels; at one that is
-- too deep, no module of d levels goes on (PROCEDURE is judged with the symbol behind it)
abbrev pub IsVerdict : ℕ → Tokens → Read Module → Type 0
IsVerdict d ts (Found m r) = (a : Tokens) × (ts ≡ a ++ r) × IsModule d m a
IsVerdict d ts (Fails Wrong r) = (a : Tokens) × (ts ≡ a ++ r) × CanGoOn a × ((k : ℕ) → CanNotGoOn k a r)
IsVerdict d ts (Fails Deep r) = (a : Tokens) × (ts ≡ a ++ r) × CanGoOn a × CanNotGoOnTwo d a r

-- the same of the tokens that spell a module: they are read as it
abbrev pub IsReadWhole : ℕ → Tokens → Read Module → Type 0
IsReadWhole d ts u = (m : Module) → IsModule d m ts → u ≡ Found m []
