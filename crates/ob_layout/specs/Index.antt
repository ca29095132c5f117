-- Names that are found by an index.
use Rattle.std.specs.Prelude.{◌≡◌, ℕ, suc, cond, List, [], ◌∷◌, Option, Some, None, Vec, bytes_eq}
use Rattle.std.specs.Option.{option_or}
use Rattle.std.specs.HashMap.{HashMap, get_by}
use Rattle.std.specs.declared.hash.BuildHasherDefault.{BuildHasherDefault}
use Rattle.std.specs.declared.hash.FoldHasher.{FoldHasher}
use Rattle.std.specs.declared.alloc.Global.{Global}

abbrev pub Positions : Type 0
Positions = HashMap (Vec ℕ Global) ℕ (BuildHasherDefault FoldHasher)

-- what stands at a name
abbrev pub at_name : Positions → List ℕ → Option ℕ
at_name m x = get_by (λ k. bytes_eq x k.items) m

-- the second map has this number at the name, and is as the first at each other name
abbrev pub Puts : Positions → Positions → List ℕ → ℕ → Type 0
Puts old new name n = (x : List ℕ) → at_name new x ≡ cond (bytes_eq x name) (Some n) (at_name old x)

-- a name that has a number keeps it
abbrev pub Notes : Positions → Positions → List ℕ → ℕ → Type 0
Notes old new name n = (x : List ℕ) → at_name new x ≡ option_or (at_name old x) (cond (bytes_eq x name) (Some n) None)

-- the position of the first of a name, counted on from n
abbrev pub position_from : ℕ → List ℕ → List (List ℕ) → Option ℕ
position_from n x [] = None
position_from n x (y ∷ ys) = cond (bytes_eq x y) (Some n) (position_from (suc n) x ys)

-- each name has its position
abbrev pub IsIndexOf : Positions → List (List ℕ) → Type 0
IsIndexOf m names = (x : List ℕ) → at_name m x ≡ position_from 0 x names

-- the first item of a name
abbrev pub first_by : {A : Type 0} → (A → List ℕ) → List A → List ℕ → Option A
first_by name [] x = None
first_by name (a ∷ more) x = cond (bytes_eq x (name a)) (Some a) (first_by name more x)
