-- Rows of parameters, from their ends.
use Rattle.std.proofs.Common.{◌≡◌, refl, sym, ap, ◌∙◌, ℕ, ◌+◌, List, [], ◌∷◌, ◌++◌, length, Option, Some, None, arith}
use Rattle.std.specs.Option.{MatchOption, option_to_list}
use Rattle.ob_tree.specs.declared.pos.Pos.{Pos}
use Rattle.ob_rules.specs.declared.values.Valued.{Valued}
use Rattle.ob_rules.specs.declared.meant.Meant.{Meant}
use Rattle.ob_rules.specs.declared.broken.Predeclared.{Predeclared}
use Rattle.ob_rules.specs.Shapes.{Map}
use Rattle.ob_rules.specs.Predeclared.{fit}
use Rattle.ob_cexpr_predeclared.specs.declared.fits.Few.{Few}
use Rattle.ob_cexpr_predeclared.specs.declared.fits.Few.TheVariants as are
use Rattle.ob_cexpr_predeclared.specs.Few.{few_of, few_taken, fit_few}

nothing : (xs : List Valued) → xs ≡ [] → are.Nothing ≡ few_of xs
nothing xs e = sym (ap few_of e)

one : (xs ys : List Valued) (x : Valued) → xs ≡ ys ++ x ∷ [] → ys ≡ [] → are.One x ≡ few_of xs
one xs ys x e f = sym (ap few_of (e ∙ ap (λ zs. zs ++ x ∷ []) f))

two : (xs ys zs : List Valued) (x y : Valued) → xs ≡ ys ++ y ∷ [] → ys ≡ zs ++ x ∷ [] → zs ≡ [] → are.Two x y ≡ few_of xs
two xs ys zs x y e f g = sym (ap few_of (e ∙ ap (λ us. us ++ y ∷ []) (f ∙ ap (λ us. us ++ x ∷ []) g)))

more_than_two : (ws : List Valued) (x y z : Valued) → few_of (((ws ++ z ∷ []) ++ x ∷ []) ++ y ∷ []) ≡ are.Many
more_than_two [] x y z = refl
more_than_two (a ∷ []) x y z = refl
more_than_two (a ∷ b ∷ []) x y z = refl
more_than_two (a ∷ b ∷ c ∷ cs) x y z = refl

many : (xs ys zs ws : List Valued) (x y z : Valued) → xs ≡ ys ++ y ∷ [] → ys ≡ zs ++ x ∷ [] → zs ≡ ws ++ z ∷ [] → are.Many ≡ few_of xs
many xs ys zs ws x y z e f g = sym (ap few_of (e ∙ ap (λ us. us ++ y ∷ []) (f ∙ ap (λ us. us ++ x ∷ []) g)) ∙ more_than_two ws x y z)

emptied : (xs : List Valued) → length xs ≡ 0 → xs ≡ []
emptied [] e = refl
emptied (x ∷ xs) e = absurd (omega arith)

-- a row with no last has nothing in it
abbrev pub Ended : List Valued → Option Valued → Type 0
Ended xs None = length xs ≡ 0
Ended xs (Some x) = Unit {0}

pub ended : (xs : List Valued) (o : Option Valued) (n m : ℕ) → n ≡ length xs → MatchOption o ((n ≡ 0) × (m ≡ 0)) (λ x. m + 1 ≡ n) → Ended xs o
ended xs None n m e h = sym e ∙ h.0
ended xs (Some x) n m e h = tt

-- the three last
pub taken : (xs ys zs ws : List Valued) (l b t : Option Valued) → xs ≡ ys ++ option_to_list l → ys ≡ zs ++ option_to_list b → zs ≡ ws ++ option_to_list t → Ended xs l → Ended ys b → Ended zs t → few_taken l b t ≡ few_of xs
taken xs ys zs ws None b t e f g p q r = nothing xs (emptied xs p)
taken xs ys zs ws (Some y) None t e f g p q r = one xs ys y e (emptied ys q)
taken xs ys zs ws (Some y) (Some x) None e f g p q r = two xs ys zs x y e f (emptied zs r)
taken xs ys zs ws (Some y) (Some x) (Some z) e f g p q r = many xs ys zs ws x y z e f g

pub fit_as_few : (map : Map) (f : Predeclared) (at : Pos) (xs : List Valued) → fit_few map f at (few_of xs) ≡ fit map f at xs
fit_as_few map f at [] = refl
fit_as_few map f at (x ∷ []) = refl
fit_as_few map f at (x ∷ y ∷ []) = refl
fit_as_few map f at (x ∷ y ∷ z ∷ zs) = refl
