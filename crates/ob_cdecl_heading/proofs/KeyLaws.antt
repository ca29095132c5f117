-- Two keys are the same where both names are.
use Rattle.std.proofs.Common.{◌≡◌, ℕ, zero, suc, Bool, true, false, List, [], ◌∷◌, Option, Some, None, refl, sym, ap, ◌∙◌, cond, arith}
use Rattle.std.specs.Prelude.{◌&&◌, ◌||◌, not, nat_eq, bytes_eq, map}
use Rattle.std.specs.List.{find}
use Rattle.std.proofs.lemmas.Bool.Decides.{nat_tests}
use Rattle.ob_tree.specs.declared.names.QName.{QName}
use Rattle.ob_rules.specs.Headings.{same_key, key_is, head_twice, bound_before}
use Rattle.ob_cdecl_heading.specs.declared.head.BoundAs.{BoundAs}
use Rattle.ob_cdecl_heading.specs.declared.head.Head.{Head}
use Rattle.ob_cdecl_heading.specs.declared.heads.Latest.{Latest}
use Rattle.ob_cdecl_heading.specs.Keys.{key}
use Rattle.ob_cdecl_heading.specs.Index.{entries, entry_if, comes_after}
use Rattle.ob_cdecl_heading.specs.Kept.{seen, bound_seen}
use Rattle.std.specs.Option.{option_map}

and_true : (b : Bool) → b ≡ b && true
and_true true = refl
and_true false = refl

and_false : (b : Bool) → false ≡ b && false
and_false true = refl
and_false false = refl

and_swapped : (a b c : Bool) → a && (b && c) ≡ b && (a && c)
and_swapped true true c = refl
and_swapped true false c = refl
and_swapped false true c = refl
and_swapped false false c = refl

turned : (c d : ℕ) → nat_eq c d ≡ nat_eq d c
turned c d = grind (arith, nat_tests)

pub keys_same : (y x : List ℕ) (b a : List ℕ) → bytes_eq (key y b) (key x a) ≡ bytes_eq b a && bytes_eq x y
keys_same [] [] b a = and_true (bytes_eq b a)
keys_same [] (d ∷ x) b a = and_false (bytes_eq b a)
keys_same (c ∷ y) [] b a = and_false (bytes_eq b a)
keys_same (c ∷ y) (d ∷ x) b a = ap (λ r. nat_eq c d && r) (keys_same y x b a) ∙ ap (λ e. e && (bytes_eq b a && bytes_eq x y)) (turned c d) ∙ and_swapped (nat_eq d c) (bytes_eq b a) (bytes_eq x y)

pub after_by : (forward : Bool) (hs : List Head) (q : QName) (x : List ℕ) → comes_after forward (find (λ l. bytes_eq l.key (key x q.object)) (entries hs)) ≡ head_twice forward (bound_before (map seen hs) q x)
after_by forward [] q x = refl
after_by forward (h ∷ hs) q x = by_bound h.bound (after_by forward hs q x)
  where
    go : (b e : Bool) → b ≡ e → comes_after forward (find (λ l. bytes_eq l.key (key x q.object)) (entries hs)) ≡ head_twice forward (bound_before (map seen hs) q x) → (l : Latest) → l.forward ≡ h.forward → comes_after forward (cond b (Some l) (find (λ m. bytes_eq m.key (key x q.object)) (entries hs))) ≡ head_twice forward (cond e (Some (seen h)) (bound_before (map seen hs) q x))
    go true true f r l g = ap (λ y. forward || not y) g
    go true false f r l g = absurd cc
    go false true f r l g = absurd cc
    go false false f r l g = r

    by_bound : (o : Option BoundAs) → comes_after forward (find (λ l. bytes_eq l.key (key x q.object)) (entries hs)) ≡ head_twice forward (bound_before (map seen hs) q x) → comes_after forward (find (λ l. bytes_eq l.key (key x q.object)) (entry_if o h (entries hs))) ≡ head_twice forward (cond (key_is (option_map bound_seen o) q x h.name) (Some (seen h)) (bound_before (map seen hs) q x))
    by_bound None r = r
    by_bound (Some b) r = go (bytes_eq (key h.name b.owner.object) (key x q.object)) (bytes_eq b.owner.object q.object && bytes_eq x h.name) (keys_same h.name x b.owner.object q.object) r (record { key = key h.name b.owner.object; forward = h.forward }) refl
