-- Names that are put aside and back.
use Rattle.std.proofs.Common.{◌≡◌, ℕ, zero, suc, ◌+◌, ◌-◌, ◌<◌, ◌≤◌, Bool, true, false, List, [], ◌∷◌, ◌++◌, length, drop, Some, None, cond, refl, sym, ap, subst, ◌∙◌, arith}
use Rattle.std.specs.Prelude.{◌&&◌, if◌then◌else◌, nat_eq, nat_le, nat_lt, slice_get}
use Rattle.std.proofs.lemmas.Bool.Decides.{nat_tests}
use Rattle.std.proofs.lemmas.List.{append_assoc, length-append}
use Rattle.ob_rules.specs.declared.entity.Known.{Known}
use Rattle.ob_rules.specs.Headings.{of_scope}
use Rattle.ob_cdecl_scopes.specs.Descending.{are_within, are_of, inner_first, inner_rest, is_inner}
use Rattle.ob_cdecl_scopes.specs.Bodies.{outer_names}
use Rattle.ob_cdecl_scopes.proofs.Scoping.{wider}

both_true : (a b : Bool) → a && b ≡ true → (a ≡ true) × (b ≡ true)
both_true true true e = (refl, refl)
both_true true false e = absurd cc
both_true false b e = absurd cc

joined_true : (a b : Bool) → a ≡ true → b ≡ true → a && b ≡ true
joined_true true true e f = refl
joined_true true false e f = absurd cc
joined_true false b e f = absurd cc

at_most : (m n : ℕ) → nat_le m n ≡ true → m ≤ n
at_most m n h = grind (arith, nat_tests)

le_true : (m n : ℕ) → m ≤ n → nat_le m n ≡ true
le_true m n h = grind (arith, nat_tests)

le_false : (m n : ℕ) → n < m → nat_le m n ≡ false
le_false m n h = grind (arith, nat_tests)

lt_true : (m n : ℕ) → m < n → nat_lt m n ≡ true
lt_true m n h = grind (arith, nat_tests)

lt_false : (m n : ℕ) → n ≤ m → nat_lt m n ≡ false
lt_false m n h = grind (arith, nat_tests)

equal_in : (m n : ℕ) → nat_eq m n ≡ true → m ≡ n
equal_in m n h = grind (arith, nat_tests)

apart_in : (m n : ℕ) → nat_eq m n ≡ false → m ≤ n → m < n
apart_in m n h le = grind (arith, nat_tests)

-- FALLING SCOPES

pub within_rest : (n : ℕ) (k : Known) (ks : List Known) → are_within n (k ∷ ks) ≡ true → are_within n ks ≡ true
within_rest n k ks h = let p = both_true (nat_le k.scope n) (are_within k.scope ks) h in wider k.scope n ks (at_most k.scope n p.0) p.1

pub within_behind : (n : ℕ) (xs ys : List Known) → are_within n (xs ++ ys) ≡ true → are_within n ys ≡ true
within_behind n [] ys h = h
within_behind n (x ∷ xs) ys h = within_behind n xs ys (within_rest n x (xs ++ ys) h)

pub within_dropped : (n m : ℕ) (ks : List Known) → are_within n ks ≡ true → are_within n (drop m ks) ≡ true
within_dropped n zero ks h = h
within_dropped n (suc m) [] h = h
within_dropped n (suc m) (k ∷ ks) h = within_dropped n m ks (within_rest n k ks h)

pub within_inside : (n m : ℕ) (xs ks : List Known) → m ≡ n + 1 → are_of m xs ≡ true → are_within n ks ≡ true → are_within m (xs ++ ks) ≡ true
within_inside n m [] ks e h w = wider n m ks (omega arith) w
within_inside n m (x ∷ xs) ks e h w =
    let p = both_true (nat_eq x.scope m) (are_of m xs) h in
    let same : x.scope ≡ m = equal_in x.scope m p.0 in
    joined_true (nat_le x.scope m) (are_within x.scope (xs ++ ks)) (le_true x.scope m (omega (arith, same))) (subst (λ s. are_within s (xs ++ ks) ≡ true) (sym same) (within_inside n m xs ks e p.1 w))

-- ONE SCOPE

pub of_more : (n : ℕ) (xs : List Known) (k : Known) → are_of n xs ≡ true → nat_eq k.scope n ≡ true → are_of n (xs ++ k ∷ []) ≡ true
of_more n [] k h e = joined_true (nat_eq k.scope n) true e refl
of_more n (x ∷ xs) k h e = let p = both_true (nat_eq x.scope n) (are_of n xs) h in joined_true (nat_eq x.scope n) (are_of n (xs ++ k ∷ [])) p.0 (of_more n xs k p.1 e)

-- the filter keeps none of the names within n
none_above : (n m : ℕ) (ks : List Known) → are_within m ks ≡ true → m ≤ n → of_scope n ks ≡ []
none_above n m [] h le = refl
none_above n m (k ∷ ks) h le =
    let p = both_true (nat_le k.scope m) (are_within k.scope ks) h in
    let low = at_most k.scope m p.0 in
    let lower : k.scope ≤ n = omega (arith, low) in
    ap (λ b. cond b (k ∷ of_scope n ks) (of_scope n ks)) (lt_false n k.scope lower) ∙ none_above n k.scope ks p.1 lower

all_below : (n m : ℕ) (ks : List Known) → are_within m ks ≡ true → m ≤ n → outer_names n ks ≡ ks
all_below n m [] h le = refl
all_below n m (k ∷ ks) h le =
    let p = both_true (nat_le k.scope m) (are_within k.scope ks) h in
    let low = at_most k.scope m p.0 in
    let lower : k.scope ≤ n = omega (arith, low) in
    ap (λ b. cond b (k ∷ outer_names n ks) (outer_names n ks)) (le_true k.scope n lower) ∙ ap (λ l. k ∷ l) (all_below n k.scope ks p.1 lower)

-- names of one scope before those of the scopes around it
pub inside_of : (n m : ℕ) (xs ks : List Known) → n < m → are_of m xs ≡ true → are_within n ks ≡ true → of_scope n (xs ++ ks) ≡ xs
inside_of n m [] ks lt h w = none_above n n ks w (omega arith)
inside_of n m (x ∷ xs) ks lt h w =
    let p = both_true (nat_eq x.scope m) (are_of m xs) h in
    let same : x.scope ≡ m = equal_in x.scope m p.0 in
    ap (λ b. cond b (x ∷ of_scope n (xs ++ ks)) (of_scope n (xs ++ ks))) (lt_true n x.scope (omega (arith, same))) ∙ ap (λ l. x ∷ l) (inside_of n m xs ks lt p.1 w)

pub outside_of : (n m : ℕ) (xs ks : List Known) → n < m → are_of m xs ≡ true → are_within n ks ≡ true → outer_names n (xs ++ ks) ≡ ks
outside_of n m [] ks lt h w = all_below n n ks w (omega arith)
outside_of n m (x ∷ xs) ks lt h w =
    let p = both_true (nat_eq x.scope m) (are_of m xs) h in
    let same : x.scope ≡ m = equal_in x.scope m p.0 in
    ap (λ b. cond b (x ∷ outer_names n (xs ++ ks)) (outer_names n (xs ++ ks))) (le_false x.scope n (omega (arith, same))) ∙ outside_of n m xs ks lt p.1 w

-- TAKING THE INNERMOST NAMES

some_is : {A : Type 0} (x y : A) → Some x ≡ Some y → x ≡ y
some_is x y e = cc

pub no_inner : (n : ℕ) (ks : List Known) → is_inner n ks ≡ false → (None ≡ inner_first n ks) × (ks ≡ inner_rest n ks)
no_inner n [] h = (refl, refl)
no_inner n (k ∷ ks) h = (sym (ap (λ b. if b then Some k else None) h), sym (ap (λ b. if b then ks else k ∷ ks) h))

pub one_inner : (n : ℕ) (ks : List Known) → is_inner n ks ≡ true → (slice_get ks 0 ≡ inner_first n ks) × (drop 1 ks ≡ inner_rest n ks)
one_inner n [] h = absurd cc
one_inner n (k ∷ ks) h = (sym (ap (λ b. if b then Some k else None) h), sym (ap (λ b. if b then ks else k ∷ ks) h))

pub is_first : (n : ℕ) (ks : List Known) (k : Known) → Some k ≡ inner_first n ks → (ks ≡ k ∷ inner_rest n ks) × (nat_eq k.scope n ≡ true)
is_first n [] k h = absurd cc
is_first n (x ∷ xs) k h = go (nat_eq x.scope n) refl h
  where
    go : (b : Bool) → nat_eq x.scope n ≡ b → Some k ≡ (if b then Some x else None) → (x ∷ xs ≡ k ∷ (if b then xs else x ∷ xs)) × (nat_eq k.scope n ≡ true)
    go true e f = let same : k ≡ x = some_is k x f in (ap (λ y. y ∷ xs) (sym same), ap (λ y. nat_eq y.scope n) same ∙ e)
    go false e f = absurd cc

pub no_more : (n : ℕ) (ks : List Known) → None ≡ inner_first n ks → 0 < n → are_within n ks ≡ true → (inner_rest n ks ≡ ks) × (are_within (n - 1) ks ≡ true)
no_more n [] h lt w = (refl, refl)
no_more n (x ∷ xs) h lt w = go (nat_eq x.scope n) refl h
  where
    p : (nat_le x.scope n ≡ true) × (are_within x.scope xs ≡ true)
    p = both_true (nat_le x.scope n) (are_within x.scope xs) w

    go : (b : Bool) → nat_eq x.scope n ≡ b → None ≡ (if b then Some x else None) → ((if b then xs else x ∷ xs) ≡ x ∷ xs) × (are_within (n - 1) (x ∷ xs) ≡ true)
    go true e f = absurd cc
    go false e f = let less = apart_in x.scope n e (at_most x.scope n p.0) in (refl, joined_true (nat_le x.scope (n - 1)) (are_within x.scope xs) (le_true x.scope (n - 1) (omega (arith, less))) p.1)

-- one more of them is taken
pub taken_more : (xs ys all ks rest : List Known) (k : Known) → ys ≡ xs ++ k ∷ [] → ks ≡ k ∷ rest → xs ++ ks ≡ all → ys ++ rest ≡ all
taken_more xs ys all ks rest k e f g = ap (λ l. l ++ rest) e ∙ append_assoc xs (k ∷ []) rest ∙ ap (λ l. xs ++ l) (sym f) ∙ g

-- one is moved from the end of those aside to the known ones
pub moved_back : (xs ys all ks more : List Known) (k : Known) → ys ≡ xs ++ k ∷ [] → more ≡ k ∷ ks → ys ++ ks ≡ all → xs ++ more ≡ all
moved_back xs ys all ks more k e f g = ap (λ l. xs ++ l) f ∙ sym (append_assoc xs (k ∷ []) ks) ∙ ap (λ l. l ++ ks) (sym e) ∙ g

pub first_of : (ks : List Known) (k : Known) → Some k ≡ slice_get ks 0 → ks ≡ k ∷ drop 1 ks
first_of [] k h = absurd cc
first_of (x ∷ xs) k h = let same : k ≡ x = some_is k x h in ap (λ y. y ∷ xs) (sym same)

drop_front : {A : Type 0} (xs ys : List A) (n : ℕ) → n ≡ length xs → drop n (xs ++ ys) ≡ ys
drop_front [] ys zero e = refl
drop_front [] ys (suc n) e = absurd (omega arith)
drop_front (x ∷ xs) ys zero e = absurd (omega arith)
drop_front (x ∷ xs) ys (suc n) e = drop_front xs ys n (omega arith)

-- the last so many of a list
pub last_of : {A : Type 0} (xs ys all : List A) (n : ℕ) → xs ++ ys ≡ all → length ys ≡ n → ys ≡ drop (length all - n) all
last_of xs ys all n e f = let long = length-append xs ys in sym (ap (λ l. drop (length l - n) l) (sym e) ∙ drop_front xs ys (length (xs ++ ys) - n) (omega (arith, long, f)))

pub none_dropped : {A : Type 0} (xs : List A) (n : ℕ) → n ≡ length xs → drop (length xs - n) xs ≡ xs
none_dropped xs n e = let none : length xs - n ≡ 0 = omega (arith, e) in ap (λ k. drop k xs) none
