-- The law of reaching: a search of so many steps finds exactly what is reached.
use Rattle.std.specs.Prelude.{◌≡◌, ◌⊎◌, ◌↔◌, true, List, [], length}
use Rattle.ob_tree.specs.declared.names.QName.{QName}
use Rattle.ob_uses.specs.Closed.{is_among, reached_from}

-- A name is reached where it is one of the first, or where one that is reached leads to it.
pub data Reaches (leads : QName → List QName) (starts : List QName) : QName → Type 0 where
  first : {q : QName} → is_among starts q ≡ true → Reaches leads starts q
  onward : {p q : QName} → Reaches leads starts p → is_among (leads p) q ≡ true → Reaches leads starts q

-- All names that are reached and lead on are among these.
abbrev pub AreEnough : (QName → List QName) → List QName → List QName → Type 0
AreEnough leads starts names = (q : QName) → Reaches leads starts q → (leads q ≡ []) ⊎ (is_among names q ≡ true)

-- In as many steps as there are names that lead on, exactly those are found that are reached.
abbrev pub ReachingIsExact : Type 0
ReachingIsExact = (leads : QName → List QName) (starts names : List QName) → AreEnough leads starts names → (q : QName) → (is_among (reached_from leads (length names) starts) q ≡ true) ↔ Reaches leads starts q
