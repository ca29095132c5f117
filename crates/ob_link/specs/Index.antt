-- Places of names in a list.
use Rattle.std.specs.Prelude.{◌≡◌, ℕ, suc, List, [], ◌∷◌, Option, Some, None, nat_eq, if◌then◌else◌, Vec}
use Rattle.std.specs.Option.{option_or}
use Rattle.std.specs.Ordering.{nat_cmp}
use Rattle.std.specs.Cmp.Lexicographic.{slice_cmp}
use Rattle.std.specs.BTreeMap.{BTreeMap, get_by}
use Rattle.std.specs.declared.alloc.Global.{Global}
use Rattle.ob_obj.specs.Images.{same}

abbrev pub Places : Type 0
Places = BTreeMap (Vec ℕ Global) ℕ

-- the first place of a name in a list, counted from n on
abbrev pub place_from : ℕ → List (List ℕ) → List ℕ → Option ℕ
place_from n [] name = None
place_from n (x ∷ names) name = if same name x then Some n else place_from (suc n) names name

-- the place that a map has for a name
abbrev pub place_in : Places → List ℕ → Option ℕ
place_in m name = get_by (λ k. slice_cmp nat_cmp name k.items) m

-- the second map has x at the name, or nothing there, and is as the first at each other name
abbrev pub Puts : Places → Places → List ℕ → Option ℕ → Type 0
Puts old new name x = (n : List ℕ) → place_in new n ≡ (if same n name then x else place_in old n)

-- the name has the place that it had, or else this one
abbrev pub Notes : Places → Places → List ℕ → ℕ → Type 0
Notes old new name place = (n : List ℕ) → place_in new n ≡ option_or (place_in old n) (if same n name then Some place else None)

abbrev pub without : ℕ → Option ℕ → Option ℕ
without place None = None
without place (Some n) = if nat_eq n place then None else Some n

-- the name has the place that it had, where it is not this one
abbrev pub Forgets : Places → Places → List ℕ → ℕ → Type 0
Forgets old new name place = (n : List ℕ) → place_in new n ≡ (if same n name then without place (place_in old n) else place_in old n)

abbrev pub IsAsBefore : Places → Places → Type 0
IsAsBefore old new = (n : List ℕ) → place_in new n ≡ place_in old n

-- each name has its first place
abbrev pub IsIndexed : Places → List (List ℕ) → Type 0
IsIndexed places names = (n : List ℕ) → place_in places n ≡ place_from 0 names n
