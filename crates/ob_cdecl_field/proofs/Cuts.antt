-- What stands around when the types that were added go again.
use Rattle.std.proofs.Common.{◌≡◌, ℕ, zero, suc, ◌-◌, List, [], ◌∷◌, ◌++◌, length, drop, refl, ap, ◌∙◌, arith}
use Rattle.std.proofs.lemmas.List.{length-append}
use Rattle.ob_types.specs.declared.typed.TypedType.{TypedType}
use Rattle.ob_rules.specs.Names.{Around}
use Rattle.ob_rules.specs.Types.{with_types}

drop_front : {A : Type 0} (xs ys : List A) (n : ℕ) → n ≡ length xs → drop n (xs ++ ys) ≡ ys
drop_front [] ys zero e = refl
drop_front [] ys (suc n) e = absurd (omega arith)
drop_front (x ∷ xs) ys zero e = absurd (omega arith)
drop_front (x ∷ xs) ys (suc n) e = drop_front xs ys n (omega arith)

pub back : {A : Type 0} (xs ys : List A) (n : ℕ) → n ≡ length ys → drop (length (xs ++ ys) - n) (xs ++ ys) ≡ ys
back xs ys n e = let long = length-append xs ys in drop_front xs ys (length (xs ++ ys) - n) (omega (arith, long, e))

pub types_cut : (u v w : Around) (ts : List TypedType) (n : ℕ) → w ≡ record v { own = drop (length v.own - n) v.own } → v ≡ with_types u ts → n ≡ length u.own → w ≡ u
types_cut u v w ts n e f g =
    let cut : Around → Around = λ a. record a { own = drop (length a.own - n) a.own } in
    let put : List TypedType → Around = λ l. record u { own = l } in
    e ∙ ap cut f ∙ ap put (back ts u.own n g)
