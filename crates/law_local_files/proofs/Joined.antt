-- Lists and values that are put together of the same parts.
use Rattle.std.proofs.Common.{◌≡◌, List, ◌∷◌, ◌++◌, ap, ◌∙◌}

pub after : {A B : Type 0} {f g : A → B} {a b : A} → ((x : A) → f x ≡ g x) → a ≡ b → f a ≡ g b
after {g = g} {a = a} h e = h a ∙ ap g e

pub join : {A : Type 0} {a b x y : List A} → a ≡ b → x ≡ y → a ++ x ≡ b ++ y
join {b = b} {x = x} e f = ap (λ l. l ++ x) e ∙ ap (λ l. b ++ l) f

pub cons : {A : Type 0} {a b : A} {x y : List A} → a ≡ b → x ≡ y → a ∷ x ≡ b ∷ y
cons {b = b} {x = x} e f = ap (λ h. h ∷ x) e ∙ ap (λ l. b ∷ l) f
