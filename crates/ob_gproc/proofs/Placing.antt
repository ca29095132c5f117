-- Where the things of a list stand, found thing by thing.
use Rattle.std.specs.Prelude.{bytes_eq, nat_le, map, Bool, true, false, cond, if◌then◌else◌, Option, Some, None, unwrap_or}
use Rattle.std.specs.Option.{option_or}
use Rattle.std.proofs.Common.{◌≡◌, ◌<◌, ◌≤◌, ℕ, ◌+◌, List, [], ◌∷◌, length, drop, get_or, refl, sym, ap, ◌∙◌, arith}
use Rattle.std.proofs.lemmas.List.{drop_more, drop_all}
use Rattle.ob_types.specs.declared.typed.TypedType.{TypedType}
use Rattle.ob_types.specs.declared.typed.TypedProcedure.{TypedProcedure}
use Rattle.ob_types.specs.TypedView.{procedure_view}
use borrow.Author.Tests.{leb-true}
use Rattle.ob_layout.specs.Words.{limited}
use Rattle.ob_gproc.specs.Scoped.{procedures_before, types_before, types_count}
use Rattle.ob_layout.specs.Index.{Positions, at_name, Notes}
use Rattle.ob_layout.specs.Lists.{sum_of}
use Rattle.ob_scheme.specs.Context.{before, is_record, records_among}
use Rattle.ob_gproc.specs.Placed.{place_of, ArePlaces}

-- what is placed so far, and a rest behind it, is a whole
abbrev pub ArePlacing : Positions → ℕ → (List ℕ → ℕ) → (List ℕ → ℕ) → Type 0
ArePlacing m total rest whole = (x : List ℕ) → unwrap_or (at_name m x) (total + rest x) ≡ whole x

step : (o : Option ℕ) (b : Bool) (total s r : ℕ) → unwrap_or (option_or o (cond b (Some total) None)) ((total + s) + r) ≡ unwrap_or o (total + (if b then 0 else s + r))
step (Some k) b total s r = refl
step None true total s r = omega arith
step None false total s r = omega arith

pub placing_none : (m : Positions) (n : ℕ) (whole : List ℕ → ℕ) → ((x : List ℕ) → at_name m x ≡ None) → n ≡ 0 → ArePlacing m n whole whole
placing_none m n whole none z x = ap (λ o. unwrap_or o (n + whole x)) (none x) ∙ ap (λ k. k + whole x) z ∙ omega arith

pub placing_all : (m : Positions) (total : ℕ) (whole : List ℕ → ℕ) → ArePlacing m total (λ x. 0) whole → ArePlaces m total whole
placing_all m total whole so_far x = let e : total ≡ total + 0 = omega arith in ap (unwrap_or (at_name m x)) e ∙ so_far x

module _ {A : Type 0} (name : A → List ℕ) (size : A → ℕ) where
  pub placing_more : (y : A) (rest : List A) (old new : Positions) (total n s : ℕ) (bytes : List ℕ) (whole : List ℕ → ℕ) → bytes ≡ name y → s ≡ size y → Notes old new bytes total → n ≡ total + s
      → ArePlacing old total (before name size (y ∷ rest)) whole → ArePlacing new n (before name size rest) whole
  placing_more y rest old new total n s bytes whole b z note k so_far x =
      ap (λ (q : ℕ). unwrap_or (at_name new x) (q + before name size rest x)) (k ∙ ap (λ (q : ℕ). total + q) z)
      ∙ ap (λ o. unwrap_or o ((total + size y) + before name size rest x)) (note x ∙ ap (λ l. option_or (at_name old x) (cond (bytes_eq x l) (Some total) None)) b)
      ∙ step (at_name old x) (bytes_eq x (name y)) total (size y) (before name size rest x) ∙ so_far x

  pub placing_turn : (xs : List A) (i : ℕ) (d : A) (old new : Positions) (total n s : ℕ) (bytes : List ℕ) (whole : List ℕ → ℕ) → i < length xs → bytes ≡ name (get_or xs i d) → s ≡ size (get_or xs i d) → Notes old new bytes total → n ≡ total + s
      → ArePlacing old total (before name size (drop i xs)) whole → ArePlacing new n (before name size (drop (i + 1) xs)) whole
  placing_turn xs i d old new total n s bytes whole lt b z note k so_far =
      placing_more (get_or xs i d) (drop (i + 1) xs) old new total n s bytes whole b z note k
      (λ x. ap (λ l. unwrap_or (at_name old x) (total + before name size l x)) (sym (drop_more xs i d lt)) ∙ so_far x)

  pub placing_over : (xs : List A) (i : ℕ) (m : Positions) (total : ℕ) (whole : List ℕ → ℕ) → length xs ≤ i → ArePlacing m total (before name size (drop i xs)) whole → ArePlaces m total whole
  placing_over xs i m total whole past so_far =
      placing_all m total whole (λ x. ap (λ l. unwrap_or (at_name m x) (total + before name size l x)) (sym (drop_all i xs past)) ∙ so_far x)

  pub sum_turn : (xs : List A) (i : ℕ) (d : A) (total n s whole : ℕ) → i < length xs → s ≡ size (get_or xs i d) → n ≡ total + s → total + sum_of size (drop i xs) ≡ whole → n + sum_of size (drop (i + 1) xs) ≡ whole
  sum_turn xs i d total n s whole lt z k inv =
      let e = ap (sum_of size) (drop_more xs i d lt) in omega (arith, e, z, k, inv)

  pub sum_over : (xs : List A) (i : ℕ) (total whole : ℕ) → length xs ≤ i → total + sum_of size (drop i xs) ≡ whole → total ≡ whole
  sum_over xs i total whole past inv = let e = ap (sum_of size) (drop_all i xs past) in omega (arith, e, inv)

  -- what stands before a thing is not more than all that stands
  pub before_within : (xs : List A) (x : List ℕ) → before name size xs x ≤ sum_of size xs
  before_within [] x = omega arith
  before_within (y ∷ xs) x = go (bytes_eq x (name y)) (before_within xs x)
    where
      go : (b : Bool) → before name size xs x ≤ sum_of size xs → (if b then 0 else size y + before name size xs x) ≤ size y + sum_of size xs
      go true h = omega arith
      go false h = omega (arith, h)

-- RECORD TYPES among others

among : (t : TypedType) (ts : List TypedType) (b : Bool) → b ≡ is_record t.desc → records_among (t ∷ ts) ≡ (if b then t ∷ records_among ts else records_among ts)
among t ts b e = ap (λ c. if c then t ∷ records_among ts else records_among ts) (sym e)

pub record_turn : (ts : List TypedType) (i : ℕ) (d : TypedType) → i < length ts → true ≡ is_record (get_or ts i d).desc → records_among (drop i ts) ≡ get_or ts i d ∷ records_among (drop (i + 1) ts)
record_turn ts i d lt e = ap records_among (drop_more ts i d lt) ∙ among (get_or ts i d) (drop (i + 1) ts) true e

pub other_turn : (ts : List TypedType) (i : ℕ) (d : TypedType) → i < length ts → false ≡ is_record (get_or ts i d).desc → records_among (drop i ts) ≡ records_among (drop (i + 1) ts)
other_turn ts i d lt e = ap records_among (drop_more ts i d lt) ∙ among (get_or ts i d) (drop (i + 1) ts) false e

-- a record type is placed
pub types_turn : (ts : List TypedType) (i : ℕ) (d : TypedType) (old new : Positions) (total n : ℕ) (bytes : List ℕ) → i < length ts → bytes ≡ (get_or ts i d).name → true ≡ is_record (get_or ts i d).desc → Notes old new bytes total → n ≡ total + 1
    → ArePlacing old total (types_before (drop i ts)) (types_before ts) × (total + types_count (drop i ts) ≡ types_count ts)
    → ArePlacing new n (types_before (drop (i + 1) ts)) (types_before ts) × (n + types_count (drop (i + 1) ts) ≡ types_count ts)
types_turn ts i d old new total n bytes lt b e note k so_far =
    let r = record_turn ts i d lt e in
    let f = ap (sum_of (λ (t : TypedType). 1)) r in (
      placing_more (λ (t : TypedType). t.name) (λ t. 1) (get_or ts i d) (records_among (drop (i + 1) ts)) old new total n 1 bytes (types_before ts) b refl note k (λ x. ap (λ l. unwrap_or (at_name old x) (total + before (λ (t : TypedType). t.name) (λ t. 1) l x)) (sym r) ∙ so_far.0 x),
      omega (arith, f, k, so_far.1),
    )

-- another type is not
pub types_past : (ts : List TypedType) (i : ℕ) (d : TypedType) (m : Positions) (total : ℕ) → i < length ts → false ≡ is_record (get_or ts i d).desc
    → ArePlacing m total (types_before (drop i ts)) (types_before ts) × (total + types_count (drop i ts) ≡ types_count ts)
    → ArePlacing m total (types_before (drop (i + 1) ts)) (types_before ts) × (total + types_count (drop (i + 1) ts) ≡ types_count ts)
types_past ts i d m total lt e so_far =
    let r = other_turn ts i d lt e in
    let f = ap (sum_of (λ (t : TypedType). 1)) r in (
      λ x. ap (λ l. unwrap_or (at_name m x) (total + before (λ (t : TypedType). t.name) (λ t. 1) l x)) (sym r) ∙ so_far.0 x,
      omega (arith, f, so_far.1),
    )

-- ---- bounds

pub bound_none : (o : Option ℕ) (m total : ℕ) → o ≡ None → total < m → unwrap_or o total < m
bound_none o m total e h = let f = ap (λ (p : Option ℕ). unwrap_or p total) e in omega (arith, f, h)

noted_bound : (o : Option ℕ) (b : Bool) (m total : ℕ) → unwrap_or o total < m → total < m → unwrap_or (option_or o (cond b (Some total) None)) total < m
noted_bound (Some k) b m total h l = h
noted_bound None true m total h l = l
noted_bound None false m total h l = l

-- a thing is noted at the end
pub bound_noted : (old new : Positions) (bytes x : List ℕ) (m total : ℕ) → Notes old new bytes total → place_of old total x < m → total < m → place_of new total x < m
bound_noted old new bytes x m total note h l =
    let e = ap (λ (o : Option ℕ). unwrap_or o total) (note x) in
    let k = noted_bound (at_name old x) (bytes_eq x bytes) m total h l in
    omega (arith, e, k)

grown : (o : Option ℕ) (m total n : ℕ) → unwrap_or o total < m → n < m → unwrap_or o n < m
grown (Some k) m total n h l = h
grown None m total n h l = l

-- the end moves on
pub bound_grown : (p : Positions) (x : List ℕ) (m total n : ℕ) → place_of p total x < m → n < m → place_of p n x < m
bound_grown p x m total n h l = grown (at_name p x) m total n h l

-- ---- words within the limit

limited_at : (n k : ℕ) (b : Bool) → nat_le n 1048576 ≡ b → Some k ≡ cond b (Some n) None → (k ≡ n) × (k ≤ 1048576)
limited_at n k true e h = let same : k ≡ n = cc in (same, omega (arith, same, leb-true n 1048576 e))
limited_at n k false e h = absurd cc

pub limited_is : (n k : ℕ) → Some k ≡ limited n → k ≡ n
limited_is n k h = (limited_at n k (nat_le n 1048576) refl h).0

pub limited_small : (n k : ℕ) → Some k ≡ limited n → k ≤ 1048576
limited_small n k h = (limited_at n k (nat_le n 1048576) refl h).1

-- the view of a procedure has its name
pub procedures_same : (ps : List TypedProcedure) (x : List ℕ) → procedures_before ps x ≡ before (λ p. p.name) (λ p. 1) (map procedure_view ps) x
procedures_same [] x = refl
procedures_same (p ∷ ps) x = ap (λ n. if bytes_eq x p.name then 0 else 1 + n) (procedures_same ps x)
