-- Headings that have a name of their own.
use Rattle.std.specs.Prelude.{◌≡◌, ℕ, false, not, ◌&&◌, List, [], ◌∷◌, Option, Some, is_some, bytes_eq}
use Rattle.std.specs.List.{AllByRecursion, find}
use Rattle.ob_rules.specs.declared.entity.Known.{Known}
use Rattle.ob_rules.specs.Names.{Around, found_in_scope}
use Rattle.ob_rules.specs.Headings.{Head, BoundAs, bound_before, head_twice, leaves_room}
use Rattle.ob_rules.specs.Declarations.{Written_procedure, headings_in_order}

-- no heading of its record before it has its name, but for a forward one before a procedure
abbrev pub IsOnce : Head → List Head → Type 0
IsOnce h hs = (a : BoundAs) → h.bound ≡ Some a → head_twice h.forward (bound_before hs a.owner h.name) ≡ false

-- the latest first
abbrev pub AreOnce : List Head → Type 0
AreOnce [] = Unit {0}
AreOnce (h ∷ hs) = IsOnce h hs × AreOnce hs

-- the latest heading of that name that is not bound
abbrev pub plain_before : List Head → List ℕ → Option Head
plain_before hs x = find (λ (h : Head). not h.is_bound && bytes_eq h.name x) hs

-- not declared before all headings, nor by a heading before it but for a forward one before a procedure
pub record IsPlainOnce (v : Around) (h : Head) (hs : List Head) : Type 0 where
  pub once : head_twice h.forward (plain_before hs h.name) ≡ false
  pub new : is_some (found_in_scope v h.name) ≡ false

abbrev pub ArePlainOnce : Around → List Head → Type 0
ArePlainOnce v [] = Unit {0}
ArePlainOnce v (h ∷ hs) = (h.is_bound ≡ false → IsPlainOnce v h hs) × ArePlainOnce v hs

-- no forward declaration stands in the scope
abbrev pub HasNoForward : Around → Type 0
HasNoForward v = (x : List ℕ) (k : Known) → found_in_scope v x ≡ Some k → leaves_room false k.what ≡ false

abbrev pub AreQuiet : List Head → Type 0
AreQuiet hs = AllByRecursion (λ (h : Head). h.notes.broken ≡ []) hs

-- the headings of a sequence, behind its other declarations
abbrev pub heads_behind : Around → List Written_procedure → List Head
heads_behind v ps = (headings_in_order ps (record { around = v; before = [] })).before

-- The headings of a sequence that keep the rules have names of their own.
abbrev pub HeadingsAreOnce : Type 0
HeadingsAreOnce = (v : Around) → HasNoForward v → (ps : List Written_procedure) → AreQuiet (heads_behind v ps) → AreOnce (heads_behind v ps) × ArePlainOnce v (heads_behind v ps)
