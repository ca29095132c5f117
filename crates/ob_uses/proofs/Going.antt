-- A search as it goes on: what is seen, and what is left to be looked at.
use Rattle.std.proofs.Common.{◌≡◌, ◌≢◌, ℕ, zero, suc, ◌≤◌, ◌<◌, ◌+◌, Bool, true, false, cond, ◌||◌, List, [], ◌∷◌, ◌++◌, length, Option, None, refl, sym, ap, subst, ◌∙◌, arith}
use Rattle.std.specs.Prelude.{◌⊎◌, Contains}
use Rattle.std.specs.List.{list_any}
use Rattle.std.specs.BTreeMap.{is_at}
use Rattle.std.specs.Ordering.{is_eq, ordering_reverse}
use Rattle.std.specs.declared.cmp.Ordering.{Ordering}
use Rattle.std.specs.declared.cmp.Ordering.TheVariants.{Less, Equal, Greater}
use Rattle.std.proofs.lemmas.List.{length-append}
use Rattle.ob_tree.specs.declared.names.QName.{QName}
use Rattle.ob_types.specs.declared.desc.Desc.{Desc}
use Rattle.ob_types.specs.declared.face.Aspect.{Aspect}
use Rattle.ob_desc.specs.Grammar.{same_object}
use Rattle.ob_desc.specs.Laws.{object_decides}
use Rattle.ob_uses.specs.declared.pair.Pair.{Pair}
use Rattle.ob_uses.specs.declared.way.Way.{Way}
use Rattle.ob_uses.specs.Order.{by_pair, pairs_total}
use Rattle.ob_uses.specs.Closed.{is_among, of_found}
use Rattle.ob_uses.specs.Reaching.{Reaches, first, onward}
use Rattle.ob_uses.specs.Ways.{paired, has_pair, AreReached, leads_by, desc_leads}
use Rattle.ob_uses.proofs.SamePairs.{pair_same}
use Rattle.ob_uses.proofs.Sorting.{Has, has}
use Rattle.ob_uses.proofs.Searching.{itself, no_both, known, in_front, in_back, in_which, either, left_of}
use mathlib.Core.Logic.{inl, inr}

tie : (r : Ordering) → is_eq r ≡ true → r ≡ Equal
tie Less e = absurd cc
tie Equal e = refl
tie Greater e = absurd cc

pub at_same : (p r : Pair) → is_at (by_pair p) r ≡ true → p ≡ r
at_same p r e = pair_same p r (tie (by_pair p r) e)

self_equal : (r : Ordering) → r ≡ ordering_reverse r → r ≡ Equal
self_equal Less e = absurd cc
self_equal Equal e = refl
self_equal Greater e = absurd cc

pub at_itself : (p : Pair) → is_at (by_pair p) p ≡ true
at_itself p = ap is_eq (self_equal (by_pair p p) (pairs_total.antisymm p p))

only_one : (y q : QName) → is_among (q ∷ []) y ≡ true → y ≡ q
only_one y q e = elim (either (same_object y q) false e) as (λ _. y ≡ q) [ inl h ↦ (object_decides y q).0 h | inr h ↦ absurd cc ]

module _ (leads : QName → List QName) (starts : List QName) (a : Aspect) where
  pub record Going (ps : List Pair) (left : List QName) : Type 0 where
    pub right : (p : Pair) → has_pair ps p ≡ true → (p.aspect ≡ a) × Reaches leads starts p.object
    pub to_reach : (q : QName) → is_among left q ≡ true → Reaches leads starts q
    pub begun : (q : QName) → is_among starts q ≡ true → (has_pair ps (paired a q) ≡ true) ⊎ (is_among left q ≡ true)
    pub closed : (p q : QName) → has_pair ps (paired a p) ≡ true → is_among (leads p) q ≡ true → (has_pair ps (paired a q) ≡ true) ⊎ (is_among left q ≡ true)

  pub begins : Going [] starts
  begins = record {
    right = λ p e. absurd (nothing e);
    to_reach = λ q e. first e;
    begun = λ q e. inr e;
    closed = λ p q e l. absurd (nothing e);
  }
    where
      nothing : false ≡ true → ⊥
      nothing e = cc

  pub ended : (ps : List Pair) → Going ps [] → AreReached leads starts a ps
  ended ps g = record { right = g.right; whole = λ q r. all ps g q r }
    where
      here : (b : Bool) → (b ≡ true) ⊎ (false ≡ true) → b ≡ true
      here b (inl e) = e
      here b (inr e) = absurd cc

      all : (ps : List Pair) → Going ps [] → (q : QName) → Reaches leads starts q → has_pair ps (paired a q) ≡ true
      all ps g q (first e) = here (has_pair ps (paired a q)) (g.begun q e)
      all ps g q (onward {p} r l) = here (has_pair ps (paired a q)) (g.closed p q (all ps g p r) l)

  -- what was left is left, or was the last one
  popped : (ps : List Pair) (left0 left1 : List QName) (q : QName) → left0 ≡ left1 ++ q ∷ [] → has_pair ps (paired a q) ≡ true → (y : QName) → (has_pair ps (paired a y) ≡ true) ⊎ (is_among left0 y ≡ true) → (has_pair ps (paired a y) ≡ true) ⊎ (is_among left1 y ≡ true)
  popped ps left0 left1 q pop seen y (inl h) = inl h
  popped ps left0 left1 q pop seen y (inr h) = elim (in_which left1 (q ∷ []) y (ap (λ (l : List QName). is_among l y) (sym pop) ∙ h)) as (λ _. (has_pair ps (paired a y) ≡ true) ⊎ (is_among left1 y ≡ true)) [
    | inl here ↦ inr here
    | inr last ↦ inl (subst (λ (z : QName). has_pair ps (paired a z) ≡ true) (sym (only_one y q last)) seen)
  ]

  pub passed : (ps : List Pair) (left0 left1 : List QName) (q : QName) → left0 ≡ left1 ++ q ∷ [] → has_pair ps (paired a q) ≡ true → Going ps left0 → Going ps left1
  passed ps left0 left1 q pop seen g = record {
    right = g.right;
    to_reach = λ y e. g.to_reach y (ap (λ (l : List QName). is_among l y) pop ∙ in_front left1 (q ∷ []) y e);
    begun = λ y e. popped ps left0 left1 q pop seen y (g.begun y e);
    closed = λ p y e l. popped ps left0 left1 q pop seen y (g.closed p y e l);
  }

-- ---- a pair more

kept : (b c : Bool) → c ≡ true → cond b true c ≡ true
kept true c e = refl
kept false c e = e

-- the others have what they had
abbrev pub Inserted : Pair → List Pair → List Pair → Type 0
Inserted new ps qs = (p : Pair) → has_pair qs p ≡ cond (is_at (by_pair new) p) true (has_pair ps p)

keeps : (new : Pair) (ps qs : List Pair) → Inserted new ps qs → (p : Pair) → has_pair ps p ≡ true → has_pair qs p ≡ true
keeps new ps qs ins p e = ins p ∙ kept (is_at (by_pair new) p) (has_pair ps p) e

is_there : (new : Pair) (ps qs : List Pair) → Inserted new ps qs → has_pair qs new ≡ true
is_there new ps qs ins = ins new ∙ ap (λ b. cond b true (has_pair ps new)) (at_itself new)

which : (new p : Pair) (ps : List Pair) → (is_at (by_pair new) p ≡ true) ⊎ (is_at (by_pair new) p ≡ false) → cond (is_at (by_pair new) p) true (has_pair ps p) ≡ true → (p ≡ new) ⊎ (has_pair ps p ≡ true)
which new p ps (inl t) h = inl (sym (at_same new p t))
which new p ps (inr f) h = inr (sym (ap (λ b. cond b true (has_pair ps p)) f) ∙ h)

new_or_old : (new : Pair) (ps qs : List Pair) → Inserted new ps qs → (p : Pair) → has_pair qs p ≡ true → (p ≡ new) ⊎ (has_pair ps p ≡ true)
new_or_old new ps qs ins p e = which new p ps (known (is_at (by_pair new) p)) (sym (ins p) ∙ e)

module _ (leads : QName → List QName) (starts : List QName) (a : Aspect) where
  pub entered : (ps qs : List Pair) (left0 left1 left2 : List QName) (q : QName) → left0 ≡ left1 ++ q ∷ [] → Inserted (paired a q) ps qs → left2 ≡ left1 ++ leads q → Going leads starts a ps left0 → Going leads starts a qs left2
  entered ps qs left0 left1 left2 q pop ins add g =
      let reached : Reaches leads starts q = g.to_reach q (ap (λ (l : List QName). is_among l q) pop ∙ in_back left1 (q ∷ []) q (left_of (same_object q q) false (itself q))) in
      let onto : (y : QName) → (has_pair ps (paired a y) ≡ true) ⊎ (is_among left0 y ≡ true) → (has_pair qs (paired a y) ≡ true) ⊎ (is_among left2 y ≡ true) = λ y h. elim h as (λ _. (has_pair qs (paired a y) ≡ true) ⊎ (is_among left2 y ≡ true)) [
        | inl old ↦ inl (keeps (paired a q) ps qs ins (paired a y) old)
        | inr l0 ↦ elim (in_which left1 (q ∷ []) y (ap (λ (l : List QName). is_among l y) (sym pop) ∙ l0)) as (λ _. (has_pair qs (paired a y) ≡ true) ⊎ (is_among left2 y ≡ true)) [
          | inl l1 ↦ inr (ap (λ (l : List QName). is_among l y) add ∙ in_front left1 (leads q) y l1)
          | inr last ↦ inl (subst (λ (z : QName). has_pair qs (paired a z) ≡ true) (sym (only_one y q last)) (is_there (paired a q) ps qs ins))
        ]
      ] in
      record {
        right = λ p e. elim (new_or_old (paired a q) ps qs ins p e) as (λ _. (p.aspect ≡ a) × Reaches leads starts p.object) [
          | inl new ↦ (ap (λ (r : Pair). r.aspect) new, subst (λ (r : Pair). Reaches leads starts r.object) (sym new) reached)
          | inr old ↦ g.right p old
        ];
        to_reach = λ y e. elim (in_which left1 (leads q) y (ap (λ (l : List QName). is_among l y) (sym add) ∙ e)) as (λ _. Reaches leads starts y) [
          | inl l1 ↦ g.to_reach y (ap (λ (l : List QName). is_among l y) pop ∙ in_front left1 (q ∷ []) y l1)
          | inr led ↦ onward reached led
        ];
        begun = λ y e. onto y (g.begun y e);
        closed = λ p y e l. elim (new_or_old (paired a q) ps qs ins (paired a p) e) as (λ _. (has_pair qs (paired a y) ≡ true) ⊎ (is_among left2 y ≡ true)) [
          | inl new ↦ inr (ap (λ (l : List QName). is_among l y) add ∙ in_back left1 (leads q) y (subst (λ (z : QName). is_among (leads z) y ≡ true) (ap (λ (r : Pair). r.object) new) l))
          | inr old ↦ onto y (g.closed p y old l)
        ];
      }

-- ---- the search ends

-- what may still be added: all to which the names lead that are not seen
pub weight : (QName → List QName) → Aspect → List Pair → List QName → ℕ
weight leads a ps [] = 0
weight leads a ps (n ∷ ns) = cond (has_pair ps (paired a n)) 0 (length (leads n)) + weight leads a ps ns

less_at : (b c : Bool) (n : ℕ) → (b ≡ true → c ≡ true) → cond c 0 n ≤ cond b 0 n
less_at true c n f = let e : cond c 0 n ≡ 0 = ap (λ d. cond d 0 n) (f refl) in omega (arith, e)
less_at false true n f = omega arith
less_at false false n f = omega arith

weight_less : (leads : QName → List QName) (a : Aspect) (ps qs : List Pair) (ns : List QName) → ((p : Pair) → has_pair ps p ≡ true → has_pair qs p ≡ true) → weight leads a qs ns ≤ weight leads a ps ns
unfolding weight
weight_less leads a ps qs [] f = omega arith
weight_less leads a ps qs (n ∷ ns) f =
    let h = weight_less leads a ps qs ns f in
    let k = less_at (has_pair ps (paired a n)) (has_pair qs (paired a n)) (length (leads n)) (f (paired a n)) in
    omega (arith, h, k)

weight_falls : (leads : QName → List QName) (a : Aspect) (ps qs : List Pair) (q : QName) (ns : List QName) → ((p : Pair) → has_pair ps p ≡ true → has_pair qs p ≡ true) → has_pair ps (paired a q) ≡ false → has_pair qs (paired a q) ≡ true → Has q ns → weight leads a qs ns + length (leads q) ≤ weight leads a ps ns
unfolding weight Has
weight_falls leads a ps qs q [] f was is h = absurd h
weight_falls leads a ps qs q (n ∷ ns) f was is (inl e) =
    let h = weight_less leads a ps qs ns f in
    let old : cond (has_pair ps (paired a n)) 0 (length (leads n)) ≡ length (leads q) = ap (λ (z : QName). cond (has_pair ps (paired a z)) 0 (length (leads z))) (sym e) ∙ ap (λ b. cond b 0 (length (leads q))) was in
    let new : cond (has_pair qs (paired a n)) 0 (length (leads n)) ≡ 0 = ap (λ (z : QName). cond (has_pair qs (paired a z)) 0 (length (leads z))) (sym e) ∙ ap (λ b. cond b 0 (length (leads q))) is in
    omega (arith, h, old, new)
weight_falls leads a ps qs q (n ∷ ns) f was is (inr h) =
    let g = weight_falls leads a ps qs q ns f was is h in
    let k = less_at (has_pair ps (paired a n)) (has_pair qs (paired a n)) (length (leads n)) (f (paired a n)) in
    omega (arith, g, k)

pub falls_passed : (leads : QName → List QName) (a : Aspect) (ps : List Pair) (names left0 left1 : List QName) (q : QName) → left0 ≡ left1 ++ q ∷ [] → weight leads a ps names + length left1 < weight leads a ps names + length left0
falls_passed leads a ps names left0 left1 q pop =
    let l : length left0 ≡ length left1 + 1 = ap length pop ∙ length-append left1 (q ∷ []) in
    omega (arith, l)

pub falls_entered : (w : Way) (map : QName → Option Desc) (m : List ℕ) (a : Aspect) (ps qs : List Pair) (names left0 left1 left2 : List QName) (q : QName) → ((y : QName) → (map y ≡ None) ⊎ Contains names y) → left0 ≡ left1 ++ q ∷ [] → has_pair ps (paired a q) ≡ false → Inserted (paired a q) ps qs → left2 ≡ left1 ++ leads_by w map m q → weight (leads_by w map m) a qs names + length left2 < weight (leads_by w map m) a ps names + length left0
falls_entered w map m a ps qs names left0 left1 left2 q finite pop was ins add =
    let leads : QName → List QName = leads_by w map m in
    let l : length left0 ≡ length left1 + 1 = ap length pop ∙ length-append left1 (q ∷ []) in
    let k : length left2 ≡ length left1 + length (leads q) = ap length add ∙ length-append left1 (leads q) in
    let less = weight_less leads a ps qs names (keeps (paired a q) ps qs ins) in
    elim (finite q) as (λ _. weight leads a qs names + length left2 < weight leads a ps names + length left0) [
      | inl none ↦ let z : length (leads q) ≡ 0 = ap (λ o. length (of_found (desc_leads w m q) o)) none in omega (arith, l, k, less, z)
      | inr there ↦ let f = weight_falls leads a ps qs q names (keeps (paired a q) ps qs ins) was (is_there (paired a q) ps qs ins) (has names q there) in omega (arith, l, k, f)
    ]
