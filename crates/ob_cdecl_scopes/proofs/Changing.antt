-- Types that are changed in turn are changed, and keep their names.
use Rattle.std.proofs.Common.{◌≡◌, ℕ, zero, suc, ◌+◌, ◌<◌, List, [], ◌∷◌, ◌++◌, length, map, take, drop, get_or, set, refl, sym, ap, subst, ◌∙◌, arith}
use Rattle.std.specs.Prelude.{bytes_eq, reverse}
use Rattle.std.proofs.lemmas.List.{reverse-append, length-map}
use Rattle.ob_types.specs.declared.desc.RecordDesc.{RecordDesc}
use Rattle.ob_types.specs.declared.typed.TypedType.{TypedType}
use Rattle.ob_rules.specs.Headings.{changed_if, change_type}

reverse_cons : {A : Type 0} (x : A) (xs : List A) → reverse (x ∷ xs) ≡ reverse xs ++ x ∷ []
reverse_cons x xs = reverse-append (x ∷ []) xs

change_append : (x : List ℕ) (f : RecordDesc → RecordDesc) (ts us : List TypedType) → change_type x f (ts ++ us) ≡ change_type x f ts ++ change_type x f us
change_append x f [] us = refl
change_append x f (t ∷ ts) us = ap (λ l. changed_if (bytes_eq t.name x) f t ∷ l) (change_append x f ts us)

pub change_reversed : (x : List ℕ) (f : RecordDesc → RecordDesc) (ts : List TypedType) → reverse (change_type x f ts) ≡ change_type x f (reverse ts)
change_reversed x f [] = refl
change_reversed x f (t ∷ ts) =
    let u = changed_if (bytes_eq t.name x) f t in
    reverse_cons u (change_type x f ts)
    ∙ ap (λ l. l ++ u ∷ []) (change_reversed x f ts)
    ∙ sym (change_append x f (reverse ts) (t ∷ []))
    ∙ ap (change_type x f) (sym (reverse_cons t ts))

map_append : {A B : Type 0} (f : A → B) (xs ys : List A) → map f (xs ++ ys) ≡ map f xs ++ map f ys
map_append f [] ys = refl
map_append f (x ∷ xs) ys = ap (λ l. f x ∷ l) (map_append f xs ys)

map_reversed : {A B : Type 0} (f : A → B) (xs : List A) → map f (reverse xs) ≡ reverse (map f xs)
map_reversed f [] = refl
map_reversed f (x ∷ xs) = ap (map f) (reverse_cons x xs) ∙ map_append f (reverse xs) (x ∷ []) ∙ ap (λ l. l ++ f x ∷ []) (map_reversed f xs) ∙ sym (reverse_cons (f x) (map f xs))

pub same_reversed : {A B : Type 0} (f : A → B) (xs ys : List A) → map f ys ≡ map f xs → map f (reverse xs) ≡ map f (reverse ys)
same_reversed f xs ys e = map_reversed f xs ∙ ap reverse (sym e) ∙ sym (map_reversed f ys)

-- THE NEXT ONE IS CHANGED

one_more : (i : ℕ) → suc i ≡ i + 1
one_more i = omega arith

changed_at : (x : List ℕ) (f : RecordDesc → RecordDesc) (olds : List TypedType) (i : ℕ) (d u : TypedType) → i < length (change_type x f (take i olds) ++ drop i olds) → u ≡ changed_if (bytes_eq (get_or (change_type x f (take i olds) ++ drop i olds) i d).name x) f (get_or (change_type x f (take i olds) ++ drop i olds) i d) → set (change_type x f (take i olds) ++ drop i olds) i u ≡ change_type x f (take (suc i) olds) ++ drop (suc i) olds
changed_at x f [] zero d u lt e = absurd (omega arith)
changed_at x f [] (suc i) d u lt e = absurd (omega arith)
changed_at x f (o ∷ olds) zero d u lt e = ap (λ v. v ∷ olds) e
changed_at x f (o ∷ olds) (suc i) d u lt e = ap (λ l. changed_if (bytes_eq o.name x) f o ∷ l) (changed_at x f olds i d u (omega (arith, lt)) e)

pub next_changed : (x : List ℕ) (f : RecordDesc → RecordDesc) (olds types : List TypedType) (i : ℕ) (d u : TypedType) → types ≡ change_type x f (take i olds) ++ drop i olds → i < length types → u ≡ changed_if (bytes_eq (get_or types i d).name x) f (get_or types i d) → set types i u ≡ change_type x f (take (i + 1) olds) ++ drop (i + 1) olds
next_changed x f olds types i d u a lt e =
    ap (λ l. set l i u) a
    ∙ changed_at x f olds i d u (subst (λ l. i < length l) a lt) (subst (λ l. u ≡ changed_if (bytes_eq (get_or l i d).name x) f (get_or l i d)) a e)
    ∙ ap (λ n. change_type x f (take n olds) ++ drop n olds) (one_more i)

set_named : {A B : Type 0} (f : A → B) (xs : List A) (i : ℕ) (d y : A) → f y ≡ f (get_or xs i d) → map f (set xs i y) ≡ map f xs
set_named f [] i d y e = refl
set_named f (x ∷ xs) zero d y e = ap (λ b. b ∷ map f xs) e
set_named f (x ∷ xs) (suc i) d y e = ap (λ l. f x ∷ l) (set_named f xs i d y e)

pub still_named : {A B : Type 0} (f : A → B) (xs olds : List A) (i : ℕ) (d y : A) → f y ≡ f (get_or xs i d) → map f xs ≡ map f olds → map f (set xs i y) ≡ map f olds
still_named f xs olds i d y e h = set_named f xs i d y e ∙ h

-- AS A TABLE KEEPS THEM

take_front : {A : Type 0} (xs ys : List A) → take (length xs) (xs ++ ys) ≡ xs
take_front [] ys = refl
take_front (x ∷ xs) ys = ap (λ l. x ∷ l) (take_front xs ys)

pub whole_front : {A B : Type 0} (f : A → B) (n : ℕ) (news ys olds : List A) → length olds ≡ n → map f news ≡ map f olds → take n (news ++ ys) ≡ news
whole_front f n news ys olds e g =
    let long : length news ≡ n = sym (length-map news f) ∙ ap length g ∙ length-map olds f ∙ e in
    ap (λ m. take m (news ++ ys)) (sym long) ∙ take_front news ys
