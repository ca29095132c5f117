-- Names that differ, from the last one on.
use Rattle.std.proofs.Common.{◌≡◌, ℕ, zero, suc, ◌+◌, ◌-◌, ◌<◌, ◌≤◌, Bool, true, false, cond, not, List, [], ◌∷◌, ◌++◌, length, drop, get_or, Option, Some, None, refl, sym, ap, ◌∙◌, arith, append_assoc}
use Rattle.std.specs.Prelude.{◌&&◌, ◌||◌, bytes_eq}
use Rattle.std.specs.Option.{option_or, is_some}
use Rattle.std.specs.List.{list_any}
use Rattle.ob_tree.specs.declared.names.QName.{QName}
use Rattle.ob_types.specs.declared.desc.Desc.{Desc}
use Rattle.ob_types.specs.declared.desc.RecordDesc.{RecordDesc}
use Rattle.ob_layout.specs.Index.{Positions, at_name, Notes}
use Rattle.ob_env.specs.Fit.{are_distinct, own_names, names_from, visible_names, base_of}

-- the index has the names from so many on
abbrev pub HasFrom : Positions → ℕ → List (List ℕ) → Type 0
HasFrom m at names = (x : List ℕ) → is_some (at_name m x) ≡ list_any (λ y. bytes_eq x y) (drop at names)

dropped : (names : List (List ℕ)) (at : ℕ) (d : List ℕ) → at < length names → drop at names ≡ get_or names at d ∷ drop (suc at) names
dropped [] at d l = absurd (omega (arith, l))
dropped (x ∷ names) zero d l = refl
dropped (x ∷ names) (suc at) d l = dropped names at d (omega (arith, l))

some_or : (o : Option ℕ) (b : Bool) (n : ℕ) → is_some (option_or o (cond b (Some n) None)) ≡ (b || is_some o)
some_or None true n = refl
some_or None false n = refl
some_or (Some k) true n = refl
some_or (Some k) false n = refl

pub has_none : (m : Positions) (names : List (List ℕ)) (at : ℕ) → ((x : List ℕ) → at_name m x ≡ None) → length names ≤ at → HasFrom m at names
has_none m names at none l x = ap is_some (none x) ∙ sym (ap (list_any (λ y. bytes_eq x y)) (dropped_all names at l))
  where
    dropped_all : (names : List (List ℕ)) (at : ℕ) → length names ≤ at → drop at names ≡ []
    dropped_all [] zero l = refl
    dropped_all [] (suc at) l = refl
    dropped_all (x ∷ names) zero l = absurd (omega (arith, l))
    dropped_all (x ∷ names) (suc at) l = dropped_all names at (omega (arith, l))

pub has_more : (old new : Positions) (names : List (List ℕ)) (at : ℕ) (x : List ℕ) (n : ℕ) → at < length names → x ≡ get_or names at x → HasFrom old (suc at) names → Notes old new x n → HasFrom new at names
has_more old new names at x n l e has note y =
    ap is_some (note y) ∙ some_or (at_name old y) (bytes_eq y x) n
    ∙ ap (λ b. bytes_eq y x || b) (has y)
    ∙ ap (λ z. bytes_eq y z || list_any (λ w. bytes_eq y w) (drop (suc at) names)) e
    ∙ sym (ap (list_any (λ w. bytes_eq y w)) (dropped names at x l))

-- ---- distinct

false_and : (a : Bool) (b : Bool) → b ≡ false → (a && b) ≡ false
false_and true b e = e
false_and false b e = refl

pub twice_in : (names : List (List ℕ)) (at : ℕ) → are_distinct (drop at names) ≡ false → are_distinct names ≡ false
twice_in names zero e = e
twice_in [] (suc at) e = e
twice_in (x ∷ names) (suc at) e = false_and (not (list_any (λ y. bytes_eq x y) names)) (are_distinct names) (twice_in names at e)

pub twice_here : (names : List (List ℕ)) (at : ℕ) (x : List ℕ) (m : Positions) → at < length names → x ≡ get_or names at x → HasFrom m (suc at) names → is_some (at_name m x) ≡ true → are_distinct names ≡ false
twice_here names at x m l e has there = twice_in names at (ap are_distinct (dropped names at x l) ∙ ap (λ z. not (list_any (λ y. bytes_eq z y) (drop (suc at) names)) && are_distinct (drop (suc at) names)) (sym e) ∙ ap (λ b. not b && are_distinct (drop (suc at) names)) (sym (has x) ∙ there))

pub distinct_more : (names : List (List ℕ)) (at : ℕ) (x : List ℕ) (m : Positions) → at < length names → x ≡ get_or names at x → HasFrom m (suc at) names → is_some (at_name m x) ≡ false → are_distinct (drop (suc at) names) ≡ true → are_distinct (drop at names) ≡ true
distinct_more names at x m l e has absent rest = ap are_distinct (dropped names at x l) ∙ ap (λ z. not (list_any (λ y. bytes_eq z y) (drop (suc at) names)) && are_distinct (drop (suc at) names)) (sym e) ∙ ap (λ b. not b && are_distinct (drop (suc at) names)) (sym (has x) ∙ absent) ∙ rest

-- ---- the names of a chain of bases

pub visible_more : (map : QName → Option Desc) (steps c : ℕ) (r b : RecordDesc) (names more total : List (List ℕ)) → c < 201 → more ≡ names ++ own_names r → base_of map steps r ≡ Some b → names ++ visible_names map steps (201 - c) r ≡ total → more ++ visible_names map steps (201 - (c + 1)) b ≡ total
visible_more map steps c r b names more total lt e base so_far =
    let k : 201 - c ≡ suc (201 - (c + 1)) = omega arith in
    let one : visible_names map steps (201 - c) r ≡ own_names r ++ visible_names map steps (201 - (c + 1)) b = ap (λ (n : ℕ). visible_names map steps n r) k ∙ ap (λ (o : Option RecordDesc). own_names r ++ names_from (visible_names map steps (201 - (c + 1))) o) base in
    ap (λ (l : List (List ℕ)). l ++ visible_names map steps (201 - (c + 1)) b) e ∙ append_assoc names (own_names r) (visible_names map steps (201 - (c + 1)) b) ∙ ap (λ (l : List (List ℕ)). names ++ l) (sym one) ∙ so_far
