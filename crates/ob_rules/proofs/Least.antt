-- The least of two lists is the earlier of theirs.
use Rattle.std.proofs.Common.{◌≡◌, refl, sym, ap, ◌∙◌, ℕ, ◌+◌, ◌<◌, ◌≤◌, Bool, true, false, ◌||◌, ◌&&◌, cond, List, [], ◌∷◌, ◌++◌, Option, Some, None, inl, inr, subst, arith}
use Rattle.std.proofs.lemmas.Bool.Decides.{nat_tests}
use Rattle.ob_rules.specs.declared.broken.Broken.{Broken}
use Rattle.ob_rules.specs.Judged.{before, earlier, least, IsAmong, NoneBefore, IsLeast}

pub earlier_none : (o : Option Broken) → earlier o None ≡ o
earlier_none None = refl
earlier_none (Some a) = refl

pub earlier_assoc : (a b c : Option Broken) → earlier (earlier a b) c ≡ earlier a (earlier b c)
earlier_assoc None b c = refl
earlier_assoc (Some a) None c = refl
earlier_assoc (Some a) (Some b) None = earlier_none _
earlier_assoc (Some a) (Some b) (Some c) = grind (arith, nat_tests)

pub least_append : (xs ys : List Broken) → least (xs ++ ys) ≡ earlier (least xs) (least ys)
least_append [] ys = refl
least_append (x ∷ xs) ys = ap (earlier (Some x)) (least_append xs ys) ∙ sym (earlier_assoc (Some x) (least xs) (least ys))

itself : (a : Broken) → before a a ≡ false
itself a = grind (arith, nat_tests)

other_way : (a b : Broken) → before b a ≡ true → before a b ≡ false
other_way a b h = grind (arith, nat_tests)

through : (c y x : Broken) → before c y ≡ false → before y x ≡ false → before c x ≡ false
through c y x h g = grind (arith, nat_tests)

none_before : (cs : List Broken) (y x : Broken) → NoneBefore cs y → before y x ≡ false → NoneBefore cs x
none_before [] y x h g = tt
none_before (c ∷ cs) y x h g = (through c y x h.0 g, none_before cs y x h.1 g)

pub least_is : (bs : List Broken) → IsLeast bs (least bs)
least_is [] = refl
least_is (x ∷ xs) = joined (least xs) (least_is xs)
  where
    by_test : (y : Broken) (b : Bool) → before y x ≡ b → IsLeast xs (Some y) → IsLeast (x ∷ xs) (cond b (Some y) (Some x))
    by_test y true e h = (inr h.0, (other_way x y e, h.1))
    by_test y false e h = (inl refl, (itself x, none_before xs y x h.1 e))

    joined : (o : Option Broken) → IsLeast xs o → IsLeast (x ∷ xs) (earlier (Some x) o)
    joined None h = (inl refl, (itself x, let K : List Broken → Type 0 = λ w. NoneBefore w x in subst K (sym h) tt))
    joined (Some y) h = by_test y (before y x) refl h
