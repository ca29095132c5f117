-- An entry that is added.
use Rattle.std.proofs.Common.{◌≡◌, ℕ, zero, suc, ◌+◌, ◌-◌, ◌<◌, ◌≤◌, Bool, true, false, List, [], ◌∷◌, ◌++◌, length, get_or, Option, Some, None, refl, sym, ap, ◌∙◌, subst, inl, inr, add-one, arith}
use Rattle.std.specs.Prelude.{slice_get, slice_set, replicate, nat_lt, nat_eq, IfSome, ◌≢◌, if◌then◌else◌}
use Rattle.std.proofs.lemmas.Bool.Decides.{nat_tests}
use Rattle.std.proofs.lemmas.List.{get_or-set_same, get_or-set_other}
use Rattle.ob_tdesc.specs.declared.descriptor.Descriptor.{Descriptor}
use Rattle.ob_tdesc.specs.declared.descriptors.Entry.{Entry}
use Rattle.ob_tdesc.specs.Bases.{base_in, base_of, line_of, level_of}
use Rattle.ob_tdesc.specs.Entries.{IsPlaced, ArePlaced, level_over, level_above, ancestors_over, ancestors_above, with_own}
use Rattle.ob_tdesc.proofs.Lines.{AreBelow, line_up, line_top, level_up, level_top}
use Rattle.ob_tdesc.proofs.Tables.{get_last, line_append}

pub get_end : {A : Type 0} (xs : List A) (y : A) → slice_get (xs ++ y ∷ []) (length xs) ≡ Some y
get_end [] y = refl
get_end (x ∷ xs) y = get_end xs y

pub get_some : {A : Type 0} (xs : List A) (k : ℕ) → k < length xs → (x : A) × (slice_get xs k ≡ Some x)
get_some [] k lt = absurd (omega arith)
get_some (x ∷ xs) zero lt = (x, refl)
get_some (x ∷ xs) (suc k) lt = get_some xs k (omega arith)

pub below_more : (types : List Descriptor) (d : Descriptor) → AreBelow types → IfSome d.base (λ b. b < length types) → AreBelow (types ++ d ∷ [])
below_more types d below base k b e = has (slice_get (types ++ d ∷ []) k) refl e
  where
    newest : (o : Option ℕ) → o ≡ Some b → IfSome o (λ b. b < length types) → b < length types
    newest None f h = absurd cc
    newest (Some c) f h = let same : c ≡ b = cc in omega arith

    has : (o : Option Descriptor) → slice_get (types ++ d ∷ []) k ≡ o → base_in o ≡ Some b → b < k
    has None f g = absurd cc
    has (Some x) f g = elim (get_last types d k x f) [
      | inl h ↦ below k b (ap base_in h.1 ∙ g)
      | inr h ↦ let le = newest d.base (ap Descriptor.base (sym h.1) ∙ g) base in omega (arith, h.0)
    ]

own_same : (n k : ℕ) (v : List ℕ) → k < 16 → length v ≡ 16 → get_or (with_own n k v) k 0 ≡ n
own_same n k v lt long =
    let test : nat_lt k 16 ≡ true = grind (arith, nat_tests) in
    rw test (get_or-set_same v k n 0 (omega arith))

own_other : (n k l : ℕ) (v : List ℕ) → l ≢ k → get_or (with_own n k v) l 0 ≡ get_or v l 0
own_other n k l v other = go (nat_lt k 16)
  where
    go : (t : Bool) → get_or (if t then slice_set v k n else v) l 0 ≡ get_or v l 0
    go true = get_or-set_other v k l n 0 other
    go false = refl

pub new_placed : (types : List Descriptor) (entries : List Entry) (d : Descriptor) (e : Entry) → length types ≡ length entries → ArePlaced types entries → AreBelow types → IfSome d.base (λ b. b < length types) → e.level ≡ level_above entries d.base → e.ancestors ≡ with_own (length entries) (level_above entries d.base) (ancestors_above entries d.base) → length e.ancestors ≡ 16 → IsPlaced (types ++ d ∷ []) (length entries) e
new_placed types entries d e long placed below base level ancestors long16 = go d.base refl base level ancestors
  where
    base_at : base_of (types ++ d ∷ []) (length entries) ≡ d.base
    base_at = ap base_in (subst (λ k. slice_get (types ++ d ∷ []) k ≡ Some d) long (get_end types d))

    go : (o : Option ℕ) → d.base ≡ o → IfSome o (λ b. b < length types) → e.level ≡ level_above entries o → e.ancestors ≡ with_own (length entries) (level_above entries o) (ancestors_above entries o) → IsPlaced (types ++ d ∷ []) (length entries) e
    go None f has at table =
        let bm = below_more types d below base in
        let none : base_of (types ++ d ∷ []) (length entries) ≡ None = base_at ∙ f in
        let top = level_top (types ++ d ∷ []) (length entries) none in
        record {
          below = λ b h. bm (length entries) b h;
          level = at ∙ sym top;
          long = long16;
          table = λ l le lt.
              let zero_l : l ≡ 0 = omega arith in
              let index : e.level - l ≡ 0 = omega arith in
              let left : get_or e.ancestors l 0 ≡ length entries = ap (λ (v : List ℕ). get_or v l 0) table ∙ ap (λ k. get_or (with_own (length entries) 0 (replicate 16 0)) k 0) zero_l in
              let right : get_or (line_of (types ++ d ∷ []) (length entries)) (e.level - l) 0 ≡ length entries = ap (λ k. get_or (line_of (types ++ d ∷ []) (length entries)) k 0) index ∙ ap (λ (v : List ℕ). get_or v 0 0) (line_top (types ++ d ∷ []) (length entries) none) in
              left ∙ sym right;
        }
    go (Some b) f has at table =
        let bm = below_more types d below base in
        let some = get_some entries b (omega arith) in
        let p = placed b some.0 some.1 in
        let based : base_of (types ++ d ∷ []) (length entries) ≡ Some b = base_at ∙ f in
        let up = line_up (types ++ d ∷ []) bm (length entries) b based in
        let lup = level_up (types ++ d ∷ []) bm (length entries) b based in
        let line = line_append types (d ∷ []) below (suc b) b has in
        let level_b : level_of (types ++ d ∷ []) b ≡ level_of types b = ap (λ (l : List ℕ). length l - 1) line in
        let lev : e.level ≡ some.0.level + 1 = at ∙ ap level_over some.1 in
        let anc : e.ancestors ≡ with_own (length entries) e.level some.0.ancestors = table ∙ ap (λ k. with_own (length entries) k (ancestors_above entries (Some b))) (sym at) ∙ ap (λ o. with_own (length entries) e.level (ancestors_over o)) some.1 in
        let plevel = p.level in
        let now : e.level ≡ level_of (types ++ d ∷ []) (length entries) = lev ∙ add-one some.0.level ∙ ap suc (plevel ∙ sym level_b) ∙ sym lup in
        record {
          below = λ c h. bm (length entries) c h;
          level = now;
          long = long16;
          table = λ l le lt. tables b some.0 p up line lev anc l le lt (nat_eq l e.level) refl;
        }
      where
        tables : (b : ℕ) (eb : Entry) → IsPlaced types b eb → line_of (types ++ d ∷ []) (length entries) ≡ length entries ∷ line_of (types ++ d ∷ []) b → line_of (types ++ d ∷ []) b ≡ line_of types b → e.level ≡ eb.level + 1 → e.ancestors ≡ with_own (length entries) e.level eb.ancestors → (l : ℕ) → l ≤ e.level → l < 16 → (t : Bool) → nat_eq l e.level ≡ t → get_or e.ancestors l 0 ≡ get_or (line_of (types ++ d ∷ []) (length entries)) (e.level - l) 0
        tables b eb p up line lev anc l le lt true q =
            let same : l ≡ e.level = grind (arith, nat_tests) in
            let index : e.level - l ≡ 0 = omega arith in
            let left : get_or e.ancestors l 0 ≡ length entries = ap (λ (v : List ℕ). get_or v l 0) anc ∙ ap (λ k. get_or (with_own (length entries) e.level eb.ancestors) k 0) same ∙ own_same (length entries) e.level eb.ancestors (omega arith) p.long in
            let right : get_or (line_of (types ++ d ∷ []) (length entries)) (e.level - l) 0 ≡ length entries = ap (λ k. get_or (line_of (types ++ d ∷ []) (length entries)) k 0) index ∙ ap (λ (v : List ℕ). get_or v 0 0) up in
            left ∙ sym right
        tables b eb p up line lev anc l le lt false q =
            let other : l ≢ e.level = grind (arith, nat_tests) in
            let less : l ≤ eb.level = omega arith in
            let index : e.level - l ≡ suc (eb.level - l) = omega arith in
            let left : get_or e.ancestors l 0 ≡ get_or (line_of types b) (eb.level - l) 0 = ap (λ (v : List ℕ). get_or v l 0) anc ∙ own_other (length entries) e.level l eb.ancestors other ∙ p.table l less lt in
            let right : get_or (line_of (types ++ d ∷ []) (length entries)) (e.level - l) 0 ≡ get_or (line_of types b) (eb.level - l) 0 = ap (λ k. get_or (line_of (types ++ d ∷ []) (length entries)) k 0) index ∙ ap (λ (v : List ℕ). get_or v (suc (eb.level - l)) 0) up ∙ ap (λ (v : List ℕ). get_or v (eb.level - l) 0) line in
            left ∙ sym right
