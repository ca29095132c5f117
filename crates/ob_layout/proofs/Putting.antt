-- Items put into a list that rises, from the last on.
use Rattle.std.proofs.Common.{◌≡◌, ℕ, List, [], ◌∷◌, ◌++◌, map, refl, sym, ap, ◌∙◌}
use Rattle.std.specs.declared.cmp.Ordering.{Ordering}
use Rattle.std.specs.declared.cmp.Ordering.TheVariants.{Less, Equal, Greater}
use Rattle.std.specs.Ordering.{match_ordering}
use Rattle.std.specs.BTreeSet.{insert_key}
use Rattle.ob_layout.specs.Lists.{put_before, put_in, in_order}

abbrev pub put_all : {A : Type 0} → (A → A → Ordering) → List A → List A → List A
put_all R [] ys = ys
put_all R (x ∷ xs) ys = put_in R x (put_all R xs ys)

pub put_none : {A : Type 0} (R : A → A → Ordering) (xs : List A) → put_all R xs [] ≡ in_order R xs
put_none R [] = refl
put_none R (x ∷ xs) = ap (put_in R x) (put_none R xs)

pub put_last : {A : Type 0} (R : A → A → Ordering) (xs : List A) (x : A) (ys : List A) → put_all R (xs ++ x ∷ []) ys ≡ put_all R xs (put_in R x ys)
put_last R [] x ys = refl
put_last R (z ∷ xs) x ys = ap (put_in R z) (put_last R xs x ys)

choice : {A : Type 0} (o : Ordering) (x y : A) (ys us bs : List A) → us ≡ bs → match_ordering o (x ∷ y ∷ ys) (y ∷ ys) (y ∷ us) ≡ put_before o x y ys bs
choice Less x y ys us bs e = refl
choice Equal x y ys us bs e = refl
choice Greater x y ys us bs e = ap (λ l. y ∷ l) e

pub insert_is : {A : Type 0} (R : A → A → Ordering) (ys : List A) (x : A) → insert_key R ys x ≡ put_in R x ys
insert_is R [] x = refl
insert_is R (y ∷ ys) x = choice (R x y) x y ys (insert_key R ys x) (put_in R x ys) (insert_is R ys x)

before_each : {A B : Type 0} (f : A → B) (o p : Ordering) → o ≡ p → (x y : A) (ys us : List A) (bs : List B) → map f us ≡ bs → put_before o (f x) (f y) (map f ys) bs ≡ map f (put_before p x y ys us)
before_each f Less Less e x y ys us bs h = refl
before_each f Equal Equal e x y ys us bs h = refl
before_each f Greater Greater e x y ys us bs h = ap (λ l. f y ∷ l) (sym h)
before_each f Less Equal e x y ys us bs h = absurd cc
before_each f Less Greater e x y ys us bs h = absurd cc
before_each f Equal Less e x y ys us bs h = absurd cc
before_each f Equal Greater e x y ys us bs h = absurd cc
before_each f Greater Less e x y ys us bs h = absurd cc
before_each f Greater Equal e x y ys us bs h = absurd cc

module _ {A B : Type 0} (R : A → A → Ordering) (S : B → B → Ordering) (f : A → B) (same : (x y : A) → S (f x) (f y) ≡ R x y) where
  put_each : (x : A) (ys : List A) → put_in S (f x) (map f ys) ≡ map f (put_in R x ys)
  put_each x [] = refl
  put_each x (y ∷ ys) = before_each f (S (f x) (f y)) (R x y) (same x y) x y ys (put_in R x ys) (put_in S (f x) (map f ys)) (sym (put_each x ys))

  pub order_each : (xs : List A) → in_order S (map f xs) ≡ map f (in_order R xs)
  order_each [] = refl
  order_each (x ∷ xs) = ap (put_in S (f x)) (order_each xs) ∙ put_each x (in_order R xs)

-- what is found as it is
pub same_each : {A B : Type 0} (f : A → B) (g : B → A) (back : (y : B) → f (g y) ≡ y) (ys : List B) → map f (map g ys) ≡ ys
same_each f g back [] = refl
same_each f g back (y ∷ ys) = ap (λ l. f (g y) ∷ l) (same_each f g back ys) ∙ ap (λ z. z ∷ ys) (back y)
