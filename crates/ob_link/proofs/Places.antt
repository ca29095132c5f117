-- Modules by their places.
use Rattle.std.proofs.Common.{◌≡◌, ℕ, suc, ◌+◌, ◌-◌, ◌<◌, ◌≤◌, Bool, true, false, List, [], ◌∷◌, ◌++◌, length, map, take, Option, Some, None, refl, sym, ap, subst, ◌∙◌, arith}
use Rattle.std.specs.Prelude.{if◌then◌else◌, slice_get, bytes_eq}
use Rattle.std.proofs.lemmas.Map.Text.{is_eq-slice_cmp}
use Rattle.std.proofs.lemmas.List.{take-map, length-map}
use Rattle.std.specs.Option.{option_or, option_map}
use Rattle.ob_obj.specs.Images.{same}
use Rattle.ob_link.proofs.Indexing.{one_before, Below, place_below}
use Rattle.ob_link.specs.Index.{place_from}
use Rattle.ob_link.specs.Members.{Known, member_named}

abbrev pub at_place : ℕ → List Known → Option ℕ → Option Known
at_place n ks None = None
at_place n ks (Some p) = slice_get ks (p - n)

-- a place is behind the places before the list
abbrev Above : ℕ → Option ℕ → Type 0
Above n None = Unit {0}
Above n (Some p) = n ≤ p

above_one : (b : Bool) (n : ℕ) (o : Option ℕ) → Above (suc n) o → Above n (if b then Some n else o)
above_one true n o h = omega arith
above_one false n None h = tt
above_one false n (Some p) h = omega arith

place_above : (n : ℕ) (names : List (List ℕ)) (q : List ℕ) → Above n (place_from n names q)
place_above n [] q = tt
place_above n (x ∷ names) q = above_one (same q x) n (place_from (suc n) names q) (place_above (suc n) names q)

later_at : (n : ℕ) (k : Known) (ks : List Known) (o : Option ℕ) → Above (suc n) o → at_place (suc n) ks o ≡ at_place n (k ∷ ks) o
later_at n k ks None h = refl
later_at n k ks (Some p) h = let e : p - n ≡ suc (p - suc n) = omega arith in rw e refl

one_at : (b : Bool) (n : ℕ) (k : Known) (ks : List Known) (o : Option ℕ) (rest : Option Known) → Above (suc n) o → rest ≡ at_place (suc n) ks o → (if b then Some k else rest) ≡ at_place n (k ∷ ks) (if b then Some n else o)
one_at true n k ks o rest h e = let z : n - n ≡ 0 = omega arith in rw z refl
one_at false n k ks o rest h e = e ∙ later_at n k ks o h

member_from : (n : ℕ) (name : List ℕ) (ks : List Known) → member_named name ks ≡ at_place n ks (place_from n (map (λ k. k.name) ks) name)
member_from n name [] = refl
member_from n name (k ∷ ks) =
    ap (λ b. if b then Some k else member_named name ks) (sym (is_eq-slice_cmp name k.name)) ∙ one_at (same name k.name) n k ks (place_from (suc n) (map (λ x. x.name) ks) name) (member_named name ks) (place_above (suc n) (map (λ x. x.name) ks) name) (member_from (suc n) name ks)

at_zero : (ks : List Known) (p : ℕ) → slice_get ks (p - 0) ≡ slice_get ks p
at_zero ks p = let e : p - 0 ≡ p = omega arith in ap (slice_get ks) e

pub no_member : (name : List ℕ) (ks : List Known) → place_from 0 (map (λ k. k.name) ks) name ≡ None → member_named name ks ≡ None
no_member name ks e = member_from 0 name ks ∙ ap (at_place 0 ks) e

pub member_at : (name : List ℕ) (ks : List Known) (p : ℕ) → place_from 0 (map (λ k. k.name) ks) name ≡ Some p → member_named name ks ≡ slice_get ks p
member_at name ks p e = member_from 0 name ks ∙ ap (at_place 0 ks) e ∙ at_zero ks p

pub names_cut : (names : List (List ℕ)) (ks : List Known) (k : ℕ) → names ≡ map (λ x. x.name) ks → k ≡ length ks - 1 → take (length names - 1) names ≡ map (λ x. x.name) (take k ks)
names_cut names ks k e at =
    let n : length names - 1 ≡ k = omega (arith, ap length e, length-map ks (λ (x : Known). x.name), at) in
    rw (n, e) (take-map (λ (x : Known). x.name) k ks)

pub names_more : (ks : List Known) (k : Known) → map (λ x. x.name) (ks ++ k ∷ []) ≡ map (λ x. x.name) ks ++ k.name ∷ []
names_more [] k = refl
names_more (x ∷ ks) k = ap (λ l. x.name ∷ l) (names_more ks k)

pub placed : (names : List (List ℕ)) (ks : List Known) (bytes name : List ℕ) (o : Option ℕ) → names ≡ map (λ k. k.name) ks → bytes ≡ name → o ≡ place_from 0 names bytes → place_from 0 (map (λ k. k.name) ks) name ≡ o
placed names ks bytes name o e b p = sym (p ∙ ap (place_from 0 names) b ∙ ap (λ l. place_from 0 l name) e)

-- TWO LISTS

pub member_or : (name : List ℕ) (a b : List Known) → member_named name (a ++ b) ≡ option_or (member_named name a) (member_named name b)
member_or name [] b = refl
member_or name (k ∷ a) b = one_before (bytes_eq name k.name) k (member_named name (a ++ b)) (member_named name a) (member_named name b) (member_or name a b)

pub found_first : (name : List ℕ) (a b : List Known) (k : Known) → Some k ≡ member_named name a → Some k ≡ member_named name (a ++ b)
found_first name a b k e = sym (member_or name a b ∙ ap (λ o. option_or o (member_named name b)) (sym e))

pub found_second : (name : List ℕ) (a b : List Known) (o : Option Known) → None ≡ member_named name a → o ≡ member_named name b → o ≡ member_named name (a ++ b)
found_second name a b o n e = e ∙ sym (member_or name a b ∙ ap (λ p. option_or p (member_named name b)) (sym n))

shifted : (b : Bool) (n k : ℕ) (o p : Option ℕ) → o ≡ option_map (λ x. k + x) p → (if b then Some (k + n) else o) ≡ option_map (λ x. k + x) (if b then Some n else p)
shifted true n k o p e = refl
shifted false n k o p e = e

place_shifted : (n k : ℕ) (ys : List (List ℕ)) (q : List ℕ) → place_from (k + n) ys q ≡ option_map (λ x. k + x) (place_from n ys q)
place_shifted n k [] q = refl
place_shifted n k (y ∷ ys) q =
    let e : suc (k + n) ≡ k + suc n = omega arith in
    shifted (same q y) n k (place_from (suc (k + n)) ys q) (place_from (suc n) ys q) (ap (λ m. place_from m ys q) e ∙ place_shifted (suc n) k ys q)

place_or : (n m : ℕ) (xs ys : List (List ℕ)) (q : List ℕ) → m ≡ n + length xs → place_from n (xs ++ ys) q ≡ option_or (place_from n xs q) (place_from m ys q)
place_or n m [] ys q e = let f : n ≡ m = omega arith in ap (λ k. place_from k ys q) f
place_or n m (x ∷ xs) ys q e = one_before (same q x) n (place_from (suc n) (xs ++ ys) q) (place_from (suc n) xs q) (place_from m ys q) (place_or (suc n) m xs ys q (omega arith))

abbrev names_of : List Known → List (List ℕ)
names_of ks = map (λ k. k.name) ks

both_names : (a b : List Known) → names_of (a ++ b) ≡ names_of a ++ names_of b
both_names [] b = refl
both_names (k ∷ a) b = ap (λ l. k.name ∷ l) (both_names a b)

pub place_both : (a b : List Known) (q : List ℕ) → place_from 0 (names_of (a ++ b)) q ≡ option_or (place_from 0 (names_of a) q) (option_map (λ x. length a + x) (place_from 0 (names_of b) q))
place_both a b q =
    let m : length a ≡ 0 + length (names_of a) = omega (arith, length-map a (λ (k : Known). k.name)) in
    let z : length a + 0 ≡ length a = omega arith in
    ap (λ l. place_from 0 l q) (both_names a b) ∙ place_or 0 (length a) (names_of a) (names_of b) q m ∙ ap (option_or (place_from 0 (names_of a) q)) (ap (λ n. place_from n (names_of b) q) (sym z) ∙ place_shifted 0 (length a) (names_of b) q)

pub first_place : (a b : List Known) (q : List ℕ) (p : ℕ) → Some p ≡ place_from 0 (names_of a) q → Some p ≡ place_from 0 (names_of (a ++ b)) q
first_place a b q p e = sym (place_both a b q ∙ ap (λ o. option_or o (option_map (λ x. length a + x) (place_from 0 (names_of b) q))) (sym e))

pub second_place : (a b : List Known) (q : List ℕ) (o : Option ℕ) → None ≡ place_from 0 (names_of a) q → o ≡ place_from 0 (names_of b) q → option_map (λ x. length a + x) o ≡ place_from 0 (names_of (a ++ b)) q
second_place a b q o n e = sym (place_both a b q ∙ ap (λ p. option_or p (option_map (λ x. length a + x) (place_from 0 (names_of b) q))) (sym n) ∙ ap (option_map (λ x. length a + x)) (sym e))

pub below_of : (names : List (List ℕ)) (ks : List Known) (q : List ℕ) (p : ℕ) → names ≡ names_of ks → length ks ≤ 255 → Some p ≡ place_from 0 names q → p < 255
below_of names ks q p e few h =
    let n : length names ≡ length ks = ap length e ∙ length-map ks (λ (k : Known). k.name) in
    let b : p < length names = subst (Below (length names)) (sym h) (place_below 0 names q (length names) (omega arith)) in
    omega arith
