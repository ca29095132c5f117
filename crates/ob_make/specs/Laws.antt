-- What holds of each order, of needs, and of a module that is up to date.
use Rattle.std.specs.Prelude.{◌≡◌, ℕ, List, [], ◌∷◌, ◌++◌, true, false, ◌&&◌, ◌||◌, Option, Ok}
use Rattle.std.specs.List.{AllByRecursion}
use Rattle.ob_parse_grammar.specs.Identifiers.{is_identifier}
use Rattle.ob_link.specs.Walk.{has}
use Rattle.ob_cmp.specs.Check.{IsStale, check_of}
use Rattle.ob_make.specs.Seen.{Seen, needs, is_needed, object_needs, symbol_needs, source_needs}
use Rattle.ob_make.specs.Order.{order}
use Rattle.ob_make.specs.Stale.{is_stale}
use Rattle.ob_make.specs.Folder.{prints, seen_in}

-- The modules xs that a make of m gives a turn: none stands there twice, m stands last, and each need of a module stands before it.
pub record StandsInOrder {K : Type 0} (s : Seen K) (m : List ℕ) (xs : List (List ℕ)) : Type 0 where
  pub once : (front back : List (List ℕ)) (x : List ℕ) → xs ≡ front ++ x ∷ back → (has x front ≡ false) × (has x back ≡ false)
  pub others : List (List ℕ)
  pub last : xs ≡ others ++ m ∷ []
  pub behind : (front back : List (List ℕ)) (x : List ℕ) → xs ≡ front ++ x ∷ back → AllByRecursion (λ n. has n front ≡ true) (needs s x)

-- Where a make has an order, its modules stand so.
abbrev pub OrderStands : Type 0 → Type 0
OrderStands K = (s : Seen K) (m : List ℕ) (xs : List (List ℕ)) → order s m ≡ Ok xs → StandsInOrder s m xs

-- A module is a need exactly where it stands among the needs of the object file, of the symbol file or of the source, and is neither the module
-- itself nor Out.
abbrev pub NeedsAreAll : Type 0 → Type 0
NeedsAreAll K = (s : Seen K) (x n : List ℕ) → has n (needs s x) ≡ (is_needed x n && (has n (object_needs (s.object x)) || (has n (symbol_needs (s.symbols x)) || has n (source_needs (s.source x)))))

-- Where each identifier has the same needs in the one and in the other, and they are identifiers, the order is the same.
abbrev pub OrdersAgree : Type 0 → Type 0 → Type 0
OrdersAgree K L = (s : Seen K) (t : Seen L) →
    ((n : List ℕ) → is_identifier n ≡ true → needs s n ≡ needs t n) →
    ((n : List ℕ) → is_identifier n ≡ true → AllByRecursion (λ k. is_identifier k ≡ true) (needs s n)) →
    (m : List ℕ) → is_identifier m ≡ true → order s m ≡ order t m

-- A check of a module that is not stale has nothing to say.
abbrev pub FreshIsUpToDate : Type 0
FreshIsUpToDate = (files : List ℕ → Option (List ℕ)) (x : List ℕ) → is_stale prints (seen_in files) x ≡ false → check_of files x ≡ IsStale []
