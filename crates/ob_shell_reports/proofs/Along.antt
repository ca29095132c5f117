-- The lines of a list, printed one by one.
use Rattle.std.proofs.Common.{◌≡◌, ◌≤◌, ◌-◌, ℕ, zero, suc, List, [], ◌∷◌, ◌++◌, length, take, drop, get_or, refl, sym, ap, ◌∙◌, append_assoc, arith}
use Rattle.std.specs.List.{flat_map}
use Rattle.std.proofs.lemmas.List.{append-nil}
use Rattle.ob_io.specs.Io.{AddsFront}
use Rattle.ob_io.specs.Fronts.{front_more, front_later}

-- so far the lines before the rest were printed
pub record Along {A : Type 0} (line : A → List ℕ) (before now : List ℕ) (all rest : List A) : Type 0 where
  pub front : List ℕ
  pub written : now ≡ before ++ front
  pub whole : flat_map line all ≡ front ++ flat_map line rest

pub along_start : {A : Type 0} (line : A → List ℕ) (before : List ℕ) (all : List A) → Along line before before all all
along_start line before all = record { front = []; written = sym (append-nil before); whole = refl }

pub along_more : {A : Type 0} (line : A → List ℕ) (before mid now : List ℕ) (all rest more : List A) (x : A) → Along line before mid all rest → rest ≡ x ∷ more → now ≡ mid ++ line x → Along line before now all more
along_more line before mid now all rest more x a e n = record {
  front = a.front ++ line x;
  written = n ∙ ap (λ m. m ++ line x) a.written ∙ append_assoc before a.front (line x);
  whole = a.whole ∙ ap (λ r. a.front ++ flat_map line r) e ∙ sym (append_assoc a.front (line x) (flat_map line more));
}

pub along_cut : {A : Type 0} (line : A → List ℕ) (before mid now : List ℕ) (all rest more : List A) (x : A) → Along line before mid all rest → rest ≡ x ∷ more → AddsFront mid now (line x) → AddsFront before now (flat_map line all)
along_cut line before mid now all rest more x a e f =
    let g = front_later before mid now a.front (line x ++ flat_map line more) a.written (front_more mid now (line x) (flat_map line more) f) in
    record { front = g.front; rest = g.rest; added = g.added; whole = a.whole ∙ ap (λ r. a.front ++ flat_map line r) e ∙ g.whole }

pub along_done : {A : Type 0} (line : A → List ℕ) (before now : List ℕ) (all rest : List A) → Along line before now all rest → length rest ≤ 0 → now ≡ before ++ flat_map line all
along_done line before now all [] a h = a.written ∙ ap (λ f. before ++ f) (sym (a.whole ∙ append-nil a.front))
along_done line before now all (x ∷ rest) a h = absurd (omega (arith, h))

-- a list with a first item

all_taken : {A : Type 0} (n : ℕ) (xs : List A) → length xs ≤ n → take n xs ≡ xs
all_taken zero [] l = refl
all_taken zero (x ∷ xs) l = absurd (omega (arith, l))
all_taken (suc n) [] l = refl
all_taken (suc n) (x ∷ xs) l = ap (λ r. x ∷ r) (all_taken n xs (omega (arith, l)))

pub front_is : {A : Type 0} (xs : List A) (x : A) → 1 ≤ length xs → x ≡ get_or xs 0 x → xs ≡ x ∷ take (length xs - 1) (drop 1 xs)
front_is [] x long is = absurd (omega (arith, long))
front_is (y ∷ ys) x long is = ap (λ z. z ∷ ys) (sym is) ∙ ap (λ l. x ∷ l) (sym (all_taken (length (y ∷ ys) - 1) ys (omega arith)))
