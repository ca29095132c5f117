-- A search of enough steps finds exactly what is reached.
use Rattle.std.proofs.Common.{◌≡◌, ℕ, zero, suc, ◌≤◌, ◌+◌, Bool, true, false, ◌||◌, List, [], ◌∷◌, ◌++◌, length, refl, sym, ap, subst, ◌∙◌, arith}
use Rattle.std.specs.Prelude.{◌⊎◌}
use Rattle.std.specs.List.{AllByRecursion, IsDistinct, flat_map}
use Rattle.std.specs.Cmp.{IsEquivalence, decided}
use Rattle.std.proofs.lemmas.List.{length-append}
use Rattle.std.proofs.lemmas.List.Concat.{flat_map-cons}
use Rattle.std.proofs.lemmas.List.Folds.{list_any-append}
use Rattle.std.proofs.lemmas.Map.Made.{length-le_from_is_member}
use Rattle.ob_tree.specs.declared.names.QName.{QName}
use Rattle.ob_desc.specs.Grammar.{same_object}
use Rattle.ob_desc.specs.Laws.{object_decides}
use Rattle.ob_uses.specs.Closed.{is_among, new_before, unseen, reached, reached_from}
use Rattle.ob_uses.specs.Reaching.{Reaches, first, onward, AreEnough}
use mathlib.Core.Logic.{inl, inr}

pub same_laws : IsEquivalence same_object
same_laws = decided same_object object_decides

pub itself : (q : QName) → same_object q q ≡ true
itself q = (object_decides q q).1 refl

pub no_both : (b : Bool) → b ≡ true → b ≡ false → ⊥
no_both true e f = absurd cc
no_both false e f = absurd cc

pub known : (b : Bool) → (b ≡ true) ⊎ (b ≡ false)
known true = inl refl
known false = inr refl

-- ---- members of a list that begins with p

pub either : (a b : Bool) → (a || b) ≡ true → (a ≡ true) ⊎ (b ≡ true)
either true b e = inl refl
either false b e = inr e

pub left_of : (a b : Bool) → a ≡ true → (a || b) ≡ true
left_of true b e = refl
left_of false b e = absurd cc

pub right_of : (a b : Bool) → b ≡ true → (a || b) ≡ true
right_of true b e = refl
right_of false b e = e

neither : (a b : Bool) → (a || b) ≡ false → (a ≡ false) × (b ≡ false)
neither true b e = absurd cc
neither false b e = (refl, e)

not_either : (a b : Bool) → a ≡ false → b ≡ false → (a || b) ≡ false
not_either true b e f = absurd cc
not_either false b e f = f

pub in_front : (xs ys : List QName) (q : QName) → is_among xs q ≡ true → is_among (xs ++ ys) q ≡ true
in_front xs ys q e = list_any-append (same_object q) xs ys ∙ left_of (is_among xs q) (is_among ys q) e

pub in_back : (xs ys : List QName) (q : QName) → is_among ys q ≡ true → is_among (xs ++ ys) q ≡ true
in_back xs ys q e = list_any-append (same_object q) xs ys ∙ right_of (is_among xs q) (is_among ys q) e

pub in_which : (xs ys : List QName) (q : QName) → is_among (xs ++ ys) q ≡ true → (is_among xs q ≡ true) ⊎ (is_among ys q ≡ true)
in_which xs ys q e = either (is_among xs q) (is_among ys q) (sym (list_any-append (same_object q) xs ys) ∙ e)

-- ---- what a list leads to

record Lead (leads : QName → List QName) (ps : List QName) (q : QName) : Type 0 where
  p : QName
  from : is_among ps p ≡ true
  leads_to : is_among (leads p) q ≡ true

led_by : (leads : QName → List QName) (ps : List QName) (q : QName) → is_among (flat_map leads ps) q ≡ true → Lead leads ps q
led_by leads [] q e = absurd cc
led_by leads (x ∷ xs) q e = elim (in_which (leads x) (flat_map leads xs) q (ap (λ (l : List QName). is_among l q) (sym (flat_map-cons leads x xs)) ∙ e)) as (λ _. Lead leads (x ∷ xs) q) [
  | inl here ↦ record { p = x; from = left_of (same_object x x) (is_among xs x) (itself x); leads_to = here }
  | inr there ↦ let l = led_by leads xs q there in record { p = l.p; from = right_of (same_object l.p x) (is_among xs l.p) l.from; leads_to = l.leads_to }
]

leads_all : (leads : QName → List QName) (ps : List QName) (p q : QName) → is_among ps p ≡ true → is_among (leads p) q ≡ true → is_among (flat_map leads ps) q ≡ true
leads_all leads [] p q e f = absurd cc
leads_all leads (x ∷ xs) p q e f = elim (either (same_object p x) (is_among xs p) e) as (λ _. is_among (flat_map leads (x ∷ xs)) q ≡ true) [
  | inl is ↦ ap (λ (l : List QName). is_among l q) (flat_map-cons leads x xs) ∙ in_front (leads x) (flat_map leads xs) q (subst (λ (y : QName). is_among (leads y) q ≡ true) ((object_decides p x).0 is) f)
  | inr more ↦ ap (λ (l : List QName). is_among l q) (flat_map-cons leads x xs) ∙ in_back (leads x) (flat_map leads xs) q (leads_all leads xs p q more f)
]

-- ---- the unseen ones

unseen_only : (seen qs : List QName) (q : QName) → is_among (unseen seen qs) q ≡ true → (is_among qs q ≡ true) × (is_among seen q ≡ false)
unseen_only seen [] q e = absurd cc
unseen_only seen (x ∷ xs) q e = elim (is_among seen x) as (λ b. is_among seen x ≡ b → is_among (new_before b x (unseen (x ∷ seen) xs)) q ≡ true → (is_among (x ∷ xs) q ≡ true) × (is_among seen q ≡ false)) [
  | true ↦ λ is e. let u = unseen_only (x ∷ seen) xs q e in let n = neither (same_object q x) (is_among seen q) u.1 in (right_of (same_object q x) (is_among xs q) u.0, n.1)
  | false ↦ λ is e. elim (either (same_object q x) (is_among (unseen (x ∷ seen) xs) q) e) as (λ _. (is_among (x ∷ xs) q ≡ true) × (is_among seen q ≡ false)) [
    | inl same ↦ (left_of (same_object q x) (is_among xs q) same, subst (λ (y : QName). is_among seen y ≡ false) (sym ((object_decides q x).0 same)) is)
    | inr more ↦ let u = unseen_only (x ∷ seen) xs q more in let n = neither (same_object q x) (is_among seen q) u.1 in (right_of (same_object q x) (is_among xs q) u.0, n.1)
  ]
] refl e

unseen_all : (seen qs : List QName) (q : QName) → is_among qs q ≡ true → is_among seen q ≡ false → is_among (unseen seen qs) q ≡ true
unseen_all seen [] q e f = absurd cc
unseen_all seen (x ∷ xs) q e f = elim (known (same_object q x)) as (λ _. is_among (unseen seen (x ∷ xs)) q ≡ true) [
  | inl same ↦
      let is : q ≡ x = (object_decides q x).0 same in
      let new : is_among seen x ≡ false = subst (λ (y : QName). is_among seen y ≡ false) is f in
      ap (λ (b : Bool). is_among (new_before b x (unseen (x ∷ seen) xs)) q) new ∙ left_of (same_object q x) (is_among (unseen (x ∷ seen) xs) q) same
  | inr other ↦
      let more : is_among xs q ≡ true = elim (either (same_object q x) (is_among xs q) e) as (λ _. is_among xs q ≡ true) [ inl s ↦ absurd (no_both (same_object q x) s other) | inr m ↦ m ] in
      let rest : is_among (unseen (x ∷ seen) xs) q ≡ true = unseen_all (x ∷ seen) xs q more (not_either (same_object q x) (is_among seen q) other f) in
      elim (is_among seen x) as (λ b. is_among (new_before b x (unseen (x ∷ seen) xs)) q ≡ true) [
        | true ↦ rest
        | false ↦ right_of (same_object q x) (is_among (unseen (x ∷ seen) xs) q) rest
      ]
]

-- ---- lists without doubles

all_apart : (x : QName) (ys : List QName) → ((y : QName) → is_among ys y ≡ true → same_object x y ≡ false) → AllByRecursion (λ y. same_object x y ≡ false) ys
all_apart x [] f = tt
all_apart x (y ∷ ys) f = (f y (left_of (same_object y y) (is_among ys y) (itself y)), all_apart x ys (λ z e. f z (right_of (same_object z y) (is_among ys z) e)))

apart_all : (x y : QName) (ys : List QName) → AllByRecursion (λ z. same_object x z ≡ false) ys → is_among ys y ≡ true → same_object x y ≡ false
apart_all x y [] a e = absurd cc
apart_all x y (z ∷ zs) a e = elim (either (same_object y z) (is_among zs y) e) as (λ _. same_object x y ≡ false) [
  | inl same ↦ subst (λ (w : QName). same_object x w ≡ false) (sym ((object_decides y z).0 same)) a.0
  | inr more ↦ apart_all x y zs a.1 more
]

unseen_distinct : (seen qs : List QName) → IsDistinct same_object (unseen seen qs)
unfolding IsDistinct
unseen_distinct seen [] = tt
unseen_distinct seen (x ∷ xs) = elim (is_among seen x) as (λ b. IsDistinct same_object (new_before b x (unseen (x ∷ seen) xs))) [
  | true ↦ unseen_distinct (x ∷ seen) xs
  | false ↦ (all_apart x (unseen (x ∷ seen) xs) (λ y e. same_laws.symm x y ∙ (neither (same_object y x) (is_among seen y) (unseen_only (x ∷ seen) xs y e).1).0), unseen_distinct (x ∷ seen) xs)
]

joined_distinct : (xs ys : List QName) → IsDistinct same_object xs → IsDistinct same_object ys → ((y : QName) → is_among ys y ≡ true → is_among xs y ≡ false) → IsDistinct same_object (xs ++ ys)
unfolding IsDistinct
joined_distinct [] ys d e f = e
joined_distinct (x ∷ xs) ys d e f = (
  all_apart x (xs ++ ys) (λ y h. elim (in_which xs ys y h) as (λ _. same_object x y ≡ false) [
    | inl here ↦ apart_all x y xs d.0 here
    | inr there ↦ same_laws.symm x y ∙ (neither (same_object y x) (is_among xs y) (f y there)).0
  ]),
  joined_distinct xs ys d.1 e (λ y h. (neither (same_object y x) (is_among xs y) (f y h)).1),
)

-- ---- those of a list that lead on

leads_any : List QName → Bool
leads_any [] = false
leads_any (x ∷ xs) = true

any_leads : (xs : List QName) (q : QName) → is_among xs q ≡ true → leads_any xs ≡ true
unfolding leads_any
any_leads [] q e = absurd cc
any_leads (x ∷ xs) q e = refl

some_there : (xs : List QName) (q : QName) → is_among xs q ≡ true → suc zero ≤ length xs
some_there [] q e = absurd cc
some_there (x ∷ xs) q e = omega arith

kept_if : Bool → QName → List QName → List QName
kept_if true x more = x ∷ more
kept_if false x more = more

leading : (QName → List QName) → List QName → List QName
leading leads [] = []
leading leads (x ∷ xs) = kept_if (leads_any (leads x)) x (leading leads xs)

leading_only : (leads : QName → List QName) (xs : List QName) (q : QName) → is_among (leading leads xs) q ≡ true → (is_among xs q ≡ true) × (leads_any (leads q) ≡ true)
unfolding leading kept_if
leading_only leads [] q e = absurd cc
leading_only leads (x ∷ xs) q e = elim (leads_any (leads x)) as (λ b. leads_any (leads x) ≡ b → is_among (kept_if b x (leading leads xs)) q ≡ true → (is_among (x ∷ xs) q ≡ true) × (leads_any (leads q) ≡ true)) [
  | true ↦ λ is e. elim (either (same_object q x) (is_among (leading leads xs) q) e) as (λ _. (is_among (x ∷ xs) q ≡ true) × (leads_any (leads q) ≡ true)) [
    | inl same ↦ (left_of (same_object q x) (is_among xs q) same, subst (λ (y : QName). leads_any (leads y) ≡ true) (sym ((object_decides q x).0 same)) is)
    | inr more ↦ let u = leading_only leads xs q more in (right_of (same_object q x) (is_among xs q) u.0, u.1)
  ]
  | false ↦ λ is e. let u = leading_only leads xs q e in (right_of (same_object q x) (is_among xs q) u.0, u.1)
] refl e

leading_all : (leads : QName → List QName) (xs : List QName) (q : QName) → is_among xs q ≡ true → leads_any (leads q) ≡ true → is_among (leading leads xs) q ≡ true
unfolding leading kept_if
leading_all leads [] q e on = absurd cc
leading_all leads (x ∷ xs) q e on = elim (leads_any (leads x)) as (λ b. leads_any (leads x) ≡ b → is_among (kept_if b x (leading leads xs)) q ≡ true) [
  | true ↦ λ is. elim (either (same_object q x) (is_among xs q) e) as (λ _. is_among (x ∷ leading leads xs) q ≡ true) [
    | inl same ↦ left_of (same_object q x) (is_among (leading leads xs) q) same
    | inr more ↦ right_of (same_object q x) (is_among (leading leads xs) q) (leading_all leads xs q more on)
  ]
  | false ↦ λ is. elim (either (same_object q x) (is_among xs q) e) as (λ _. is_among (leading leads xs) q ≡ true) [
    | inl same ↦ absurd (no_both (leads_any (leads x)) (subst (λ (y : QName). leads_any (leads y) ≡ true) ((object_decides q x).0 same) on) is)
    | inr more ↦ leading_all leads xs q more on
  ]
] refl

leading_length : (leads : QName → List QName) (xs ys : List QName) → length (leading leads (xs ++ ys)) ≡ length (leading leads xs) + length (leading leads ys)
unfolding leading kept_if
leading_length leads [] ys = omega arith
leading_length leads (x ∷ xs) ys =
    let h = leading_length leads xs ys in
    elim (leads_any (leads x)) as (λ b. length (kept_if b x (leading leads (xs ++ ys))) ≡ length (kept_if b x (leading leads xs)) + length (leading leads ys)) [ true ↦ omega (arith, h) | false ↦ h ]

apart_kept : (leads : QName → List QName) (x : QName) (ys : List QName) → AllByRecursion (λ y. same_object x y ≡ false) ys → AllByRecursion (λ y. same_object x y ≡ false) (leading leads ys)
unfolding leading kept_if
apart_kept leads x [] a = tt
apart_kept leads x (y ∷ ys) a = elim (leads_any (leads y)) as (λ b. AllByRecursion (λ y. same_object x y ≡ false) (kept_if b y (leading leads ys))) [ true ↦ (a.0, apart_kept leads x ys a.1) | false ↦ apart_kept leads x ys a.1 ]

leading_distinct : (leads : QName → List QName) (xs : List QName) → IsDistinct same_object xs → IsDistinct same_object (leading leads xs)
unfolding leading kept_if IsDistinct
leading_distinct leads [] d = tt
leading_distinct leads (x ∷ xs) d = elim (leads_any (leads x)) as (λ b. IsDistinct same_object (kept_if b x (leading leads xs))) [ true ↦ (apart_kept leads x xs d.0, leading_distinct leads xs d.1) | false ↦ leading_distinct leads xs d.1 ]

-- ---- two parts of a list without doubles

apart_left : (x : QName) (xs ys : List QName) → AllByRecursion (λ y. same_object x y ≡ false) (xs ++ ys) → AllByRecursion (λ y. same_object x y ≡ false) xs
apart_left x [] ys a = tt
apart_left x (y ∷ xs) ys a = (a.0, apart_left x xs ys a.1)

left_distinct : (xs ys : List QName) → IsDistinct same_object (xs ++ ys) → IsDistinct same_object xs
unfolding IsDistinct
left_distinct [] ys d = tt
left_distinct (x ∷ xs) ys d = (apart_left x xs ys d.0, left_distinct xs ys d.1)

apart_parts : (xs ys : List QName) (q : QName) → IsDistinct same_object (xs ++ ys) → is_among ys q ≡ true → is_among xs q ≡ false
unfolding IsDistinct
apart_parts [] ys q d e = refl
apart_parts (x ∷ xs) ys q d e = not_either (same_object q x) (is_among xs q) (same_laws.symm q x ∙ apart_all x q (xs ++ ys) d.0 (in_back xs ys q e)) (apart_parts xs ys q d.1 e)

with_new : (x : QName) (xs : List QName) → is_among xs x ≡ false → IsDistinct same_object xs → IsDistinct same_object (x ∷ xs)
unfolding IsDistinct
with_new x xs new d = (
  all_apart x xs (λ y e. elim (known (same_object x y)) as (λ _. same_object x y ≡ false) [
    | inl same ↦ absurd (no_both (is_among xs x) (subst (λ (z : QName). is_among xs z ≡ true) (sym ((object_decides x y).0 same)) e) new)
    | inr other ↦ other
  ]),
  d,
)

-- ---- the search

module _ (leads : QName → List QName) where
  next_of : List QName → List QName → List QName
  next_of seen last = unseen seen (flat_map leads last)

  Closed : List QName → Type 0
  Closed s = (p q : QName) → is_among s p ≡ true → is_among (leads p) q ≡ true → is_among s q ≡ true

  nothing_more : (n : ℕ) (seen : List QName) → reached leads n seen [] ≡ seen
  nothing_more zero seen = refl
  nothing_more (suc n) seen = refl

  grows : (n : ℕ) (seen last : List QName) (q : QName) → is_among seen q ≡ true → is_among (reached leads n seen last) q ≡ true
  grows zero seen last q e = e
  grows (suc n) seen [] q e = e
  grows (suc n) seen (x ∷ xs) q e = grows n (seen ++ unseen seen (flat_map leads (x ∷ xs))) (unseen seen (flat_map leads (x ∷ xs))) q (in_front seen (unseen seen (flat_map leads (x ∷ xs))) q e)

  -- all seen are reached
  Sound : List QName → List QName → Type 0
  Sound starts s = (q : QName) → is_among s q ≡ true → Reaches leads starts q

  sound : (starts : List QName) (n : ℕ) (seen last : List QName) → ((q : QName) → is_among seen q ≡ true → Reaches leads starts q) → ((q : QName) → is_among last q ≡ true → Reaches leads starts q) → (q : QName) → is_among (reached leads n seen last) q ≡ true → Reaches leads starts q
  sound starts zero seen last s l = s
  sound starts (suc n) seen [] s l = s
  sound starts (suc n) seen (x ∷ xs) s l =
      let next : List QName = unseen seen (flat_map leads (x ∷ xs)) in
      let new : (q : QName) → is_among next q ≡ true → Reaches leads starts q = λ q e. let d = led_by leads (x ∷ xs) q (unseen_only seen (flat_map leads (x ∷ xs)) q e).0 in onward (l d.p d.from) d.leads_to in
      sound starts n (seen ++ next) next (λ q e. elim (in_which seen next q e) as (λ _. Reaches leads starts q) [ inl a ↦ s q a | inr b ↦ new q b ]) new

  -- what stands of a search at any time: the last ones are seen, and what the others lead to is seen
  record Going (starts seen last : List QName) : Type 0 where
    distinct : IsDistinct same_object seen
    last_seen : (q : QName) → is_among last q ≡ true → is_among seen q ≡ true
    others : (p q : QName) → is_among seen p ≡ true → is_among last p ≡ false → is_among (leads p) q ≡ true → is_among seen q ≡ true
    right : (q : QName) → is_among seen q ≡ true → Reaches leads starts q

  going_on : (starts seen last : List QName) → Going starts seen last → Going starts (seen ++ next_of seen last) (next_of seen last)
  unfolding next_of
  going_on starts seen last g =
      let next : List QName = unseen seen (flat_map leads last) in
      let new : (q : QName) → is_among next q ≡ true → Reaches leads starts q = λ q e. let d = led_by leads last q (unseen_only seen (flat_map leads last) q e).0 in onward (g.right d.p (g.last_seen d.p d.from)) d.leads_to in
      record {
        distinct = joined_distinct seen next g.distinct (unseen_distinct seen (flat_map leads last)) (λ y e. (unseen_only seen (flat_map leads last) y e).1);
        last_seen = λ q e. in_back seen next q e;
        others = λ p q e f l. elim (in_which seen next p e) as (λ _. is_among (seen ++ next) q ≡ true) [
          | inl old ↦ elim (known (is_among last p)) as (λ _. is_among (seen ++ next) q ≡ true) [
            | inl was ↦ elim (known (is_among seen q)) as (λ _. is_among (seen ++ next) q ≡ true) [
              | inl a ↦ in_front seen next q a
              | inr b ↦ in_back seen next q (unseen_all seen (flat_map leads last) q (leads_all leads last p q was l) b)
            ]
            | inr was_not ↦ in_front seen next q (g.others p q old was_not l)
          ]
          | inr n ↦ absurd (no_both (is_among next p) n f)
        ];
        right = λ q e. elim (in_which seen next q e) as (λ _. Reaches leads starts q) [ inl a ↦ g.right q a | inr b ↦ new q b ];
      }

  over : (starts seen : List QName) → Going starts seen [] → (p q : QName) → is_among seen p ≡ true → is_among (leads p) q ≡ true → is_among seen q ≡ true
  over starts seen g p q e l = g.others p q e refl l

  step : (starts names : List QName) (n : ℕ) (old last next : List QName) → length names ≤ suc n + length (leading leads old) → ((y : QName) → is_among next y ≡ true → is_among (flat_map leads last) y ≡ true) → (p q : QName) → ((s t : List QName) → Going starts (s ++ t) t → length names ≤ n + length (leading leads s) → is_among (reached leads n (s ++ t) t) p ≡ true → is_among (reached leads n (s ++ t) t) q ≡ true) → is_among (leads p) q ≡ true → Going starts ((old ++ last) ++ next) next → is_among (reached leads n ((old ++ last) ++ next) next) p ≡ true → is_among (reached leads n ((old ++ last) ++ next) next) q ≡ true
  step starts names n old last [] long led p q again l h e =
      let seen : List QName = old ++ last in
      ap (λ (s : List QName). is_among s q) (nothing_more n (seen ++ [])) ∙ over starts (seen ++ []) h p q (ap (λ (s : List QName). is_among s p) (sym (nothing_more n (seen ++ []))) ∙ e) l
  step starts names n old last (y ∷ ys) long led p q again l h e =
      let d = led_by leads last y (led y (left_of (same_object y y) (is_among ys y) (itself y))) in
      let on : leads_any (leads d.p) ≡ true = any_leads (leads d.p) y d.leads_to in
      let more : suc zero ≤ length (leading leads last) = some_there (leading leads last) d.p (leading_all leads last d.p d.from on) in
      let grown : length (leading leads (old ++ last)) ≡ length (leading leads old) + length (leading leads last) = leading_length leads old last in
      again (old ++ last) (y ∷ ys) h (omega (arith, long, grown, more)) e

  held : (starts names : List QName) → AreEnough leads starts names → (y : QName) → Reaches leads starts y → leads_any (leads y) ≡ true → is_among names y ≡ true
  unfolding leads_any
  held starts names enough y r on = elim (enough y r) as (λ _. is_among names y ≡ true) [
    | inl none ↦ absurd (no_both (leads_any (leads y)) on (ap leads_any none))
    | inr is ↦ is
  ]

  too_many : (starts names : List QName) → AreEnough leads starts names → (old last : List QName) → Going starts (old ++ last) last → length names ≤ length (leading leads old) → (p : QName) → is_among (old ++ last) p ≡ true → leads_any (leads p) ≡ true → is_among last p ≡ true → ⊥
  too_many starts names enough old last g long p e on is_last =
      let new : is_among (leading leads old) p ≡ false = elim (known (is_among (leading leads old) p)) as (λ _. is_among (leading leads old) p ≡ false) [
        | inl was ↦ absurd (no_both (is_among old p) (leading_only leads old p was).0 (apart_parts old last p g.distinct is_last))
        | inr not_there ↦ not_there
      ] in
      let distinct : IsDistinct same_object (p ∷ leading leads old) = with_new p (leading leads old) new (leading_distinct leads old (left_distinct old last g.distinct)) in
      let all : (y : QName) → is_among (p ∷ leading leads old) y ≡ true → is_among names y ≡ true = λ y h. elim (either (same_object y p) (is_among (leading leads old) y) h) as (λ _. is_among names y ≡ true) [
        | inl same ↦ subst (λ (z : QName). is_among names z ≡ true) (sym ((object_decides y p).0 same)) (held starts names enough p (g.right p e) on)
        | inr m ↦ let u = leading_only leads old y m in held starts names enough y (g.right y (in_front old last y u.0)) u.1
      ] in
      let most : length (p ∷ leading leads old) ≤ length names = length-le_from_is_member same_laws (p ∷ leading leads old) names distinct all in
      omega (arith, most, long)

  -- at the end all that lead on were gone on from
  ends : (starts names : List QName) → AreEnough leads starts names → (old last : List QName) → Going starts (old ++ last) last → length names ≤ length (leading leads old) → (p q : QName) → is_among (old ++ last) p ≡ true → is_among (leads p) q ≡ true → is_among (old ++ last) q ≡ true
  ends starts names enough old last g long p q e l = elim (known (is_among last p)) as (λ _. is_among (old ++ last) q ≡ true) [
    | inr not_last ↦ g.others p q e not_last l
    | inl is_last ↦ absurd (too_many starts names enough old last g long p e (any_leads (leads p) q l) is_last)
  ]

  closes : (starts names : List QName) → AreEnough leads starts names → (n : ℕ) (old last : List QName) → Going starts (old ++ last) last → length names ≤ n + length (leading leads old) → (p q : QName) → is_among (reached leads n (old ++ last) last) p ≡ true → is_among (leads p) q ≡ true → is_among (reached leads n (old ++ last) last) q ≡ true
  unfolding next_of
  closes starts names enough zero old last g long p q e l = ends starts names enough old last g (omega (arith, long)) p q e l
  closes starts names enough (suc n) old [] g long p q e l = over starts (old ++ []) g p q e l
  closes starts names enough (suc n) old (x ∷ xs) g long p q e l =
      step starts names n old (x ∷ xs) (unseen (old ++ x ∷ xs) (flat_map leads (x ∷ xs))) long (λ y h. (unseen_only (old ++ x ∷ xs) (flat_map leads (x ∷ xs)) y h).0) p q
      (λ s t h b f. closes starts names enough n s t h b p q f l) l (going_on starts (old ++ x ∷ xs) (x ∷ xs) g) e

  pub exact_here : (starts names : List QName) → AreEnough leads starts names → (q : QName) → ((is_among (reached_from leads (length names) starts) q ≡ true) → Reaches leads starts q) × (Reaches leads starts q → is_among (reached_from leads (length names) starts) q ≡ true)
  exact_here starts names enough q =
      let begin : List QName = unseen [] starts in
      let from_start : (q : QName) → is_among begin q ≡ true → Reaches leads starts q = λ q e. first (unseen_only [] starts q e).0 in
      let g : Going starts begin begin = record {
        distinct = unseen_distinct [] starts;
        last_seen = λ q e. e;
        others = λ p q e f l. absurd (no_both (is_among begin p) e f);
        right = from_start;
      } in
      (λ e. sound starts (length names) begin begin from_start from_start q e, λ r. found starts names enough begin refl g q r)
    where
      found : (starts names : List QName) → AreEnough leads starts names → (begin : List QName) → begin ≡ unseen [] starts → Going starts begin begin → (q : QName) → Reaches leads starts q → is_among (reached leads (length names) begin begin) q ≡ true
      found starts names enough begin is g q (first e) = grows (length names) begin begin q (ap (λ (s : List QName). is_among s q) is ∙ unseen_all [] starts q e refl)
      found starts names enough begin is g q (onward {p} r l) = closes starts names enough (length names) [] begin g (omega arith) p q (found starts names enough begin is g p r) l
