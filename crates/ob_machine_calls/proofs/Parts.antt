-- Parts of the operands.
use Rattle.std.proofs.Common.{◌≡◌, ℕ, ◌+◌, ◌-◌, ◌≤◌, List, [], ◌∷◌, ◌++◌, length, take, drop, get_or, sym, ap, ◌∙◌, arith}
use Rattle.std.specs.Prelude.{reverse}
use Rattle.std.proofs.Math.Seq.{take-length}
use Rattle.std.proofs.lemmas.List.{length-drop, take-append-drop, take_at, drop_at}
use Rattle.std.proofs.lemmas.List.{reverse-append, length-reverse}

pub parted : {A : Type 0} (rest : List A) (x : A) → x ≡ get_or rest 0 x → 1 ≤ length rest → rest ≡ x ∷ take (length rest - 1) (drop 1 rest)
parted [] x e le = absurd (omega arith)
parted (y ∷ rest) x e le =
    let n : length (y ∷ rest) - 1 ≡ length rest = omega arith in
    ap (λ z. z ∷ rest) (sym e) ∙ ap (λ l. x ∷ l) (sym (ap (λ k. take k rest) n ∙ take-length rest))

-- the last ones, and those before them
pub last_ones : {A : Type 0} (xs : List A) (n from : ℕ) → from + n ≡ length xs → take n (reverse xs) ≡ reverse (drop from xs)
last_ones xs n from e =
    let whole : reverse xs ≡ reverse (drop from xs) ++ reverse (take from xs) = ap reverse (sym (take-append-drop from xs)) ∙ reverse-append (take from xs) (drop from xs) in
    let long : length (reverse (drop from xs)) ≡ n = omega (arith, length-reverse (drop from xs), length-drop from xs) in
    ap (take n) whole ∙ take_at (reverse (drop from xs)) (reverse (take from xs)) n long

pub first_ones : {A : Type 0} (xs : List A) (n from : ℕ) → from + n ≡ length xs → drop n (reverse xs) ≡ reverse (take from xs)
first_ones xs n from e =
    let whole : reverse xs ≡ reverse (drop from xs) ++ reverse (take from xs) = ap reverse (sym (take-append-drop from xs)) ∙ reverse-append (take from xs) (drop from xs) in
    let long : length (reverse (drop from xs)) ≡ n = omega (arith, length-reverse (drop from xs), length-drop from xs) in
    ap (drop n) whole ∙ drop_at (reverse (drop from xs)) (reverse (take from xs)) n long
