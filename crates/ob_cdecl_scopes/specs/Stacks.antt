-- Names in a stack: each has a place, counted from the oldest, and is found by its latest place.
use Rattle.std.specs.Prelude.{◌≡◌, ℕ, List, [], ◌∷◌, length, map, reverse, drop, Option, Some, None, bytes_eq, if◌then◌else◌, Vec}
use Rattle.std.specs.HashMap.{HashMap, get_by}
use Rattle.std.specs.declared.hash.BuildHasherDefault.{BuildHasherDefault}
use Rattle.std.specs.declared.hash.FoldHasher.{FoldHasher}
use Rattle.std.specs.declared.alloc.Global.{Global}
use Rattle.ob_cdecl_scopes.specs.declared.stack.Key.{Key}

-- the latest place of the name, in a list with the latest first
abbrev pub latest : List (List ℕ) → List ℕ → Option ℕ
latest [] x = None
latest (k ∷ ks) x = if bytes_eq k x then Some (length ks) else latest ks x

-- the place before the first one of its name
abbrev pub before_first : List (List ℕ) → Option (Option ℕ)
before_first [] = None
before_first (k ∷ ks) = Some (latest ks k)

-- the place before that name, which stands behind so many, of the same name
abbrev pub before_at : List (List ℕ) → ℕ → Option (Option ℕ)
before_at ks n = before_first (drop n ks)

abbrev pub name_of : Key → List ℕ
name_of k = k.name

-- the names, the latest first
abbrev pub names_of : List Key → List (List ℕ)
names_of ks = map name_of (reverse ks)

-- each has the place before it of its name
abbrev pub AreLinkedBack : List Key → Type 0
AreLinkedBack [] = Unit {0}
AreLinkedBack (k ∷ ks) = (k.before ≡ latest (map name_of ks) k.name) × AreLinkedBack ks

abbrev pub AreLinked : List Key → Type 0
AreLinked ks = AreLinkedBack (reverse ks)

abbrev pub Places : Type 0
Places = HashMap (Vec ℕ Global) ℕ (BuildHasherDefault FoldHasher)

-- the place at a name
abbrev pub place_at : Places → List ℕ → Option ℕ
place_at m x = get_by (λ k. bytes_eq x k.items) m

-- each name has its latest place
abbrev pub IsIndexed : Places → List Key → Type 0
IsIndexed m ks = (x : List ℕ) → place_at m x ≡ latest (names_of ks) x

-- the second map has p at the name, or nothing there, and is as the first at each other name
abbrev pub Puts : Places → Places → List ℕ → Option ℕ → Type 0
Puts old new name p = (x : List ℕ) → place_at new x ≡ (if bytes_eq name x then p else place_at old x)
