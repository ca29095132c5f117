-- The elements of a row by their numbers.
use Rattle.std.proofs.Common.{◌≡◌, refl, sym, ap, ◌∙◌, ℕ, ◌+◌, ◌<◌, ◌≤◌, List, [], ◌∷◌, Option, Some, None, length, drop, get_or}
use Rattle.std.proofs.lemmas.List.{drop_more, drop_all}
use Rattle.ob_cexpr_operand.specs.Plain.{first_of}

pub first_at : {A : Type 0} (xs : List A) (i : ℕ) (x : A) → i < length xs → x ≡ get_or xs i x → Some x ≡ first_of (drop i xs)
first_at xs i x h e = ap Some e ∙ sym (ap first_of (drop_more xs i x h))

pub none_at : {A : Type 0} (xs : List A) (i : ℕ) → length xs ≤ i → None ≡ first_of (drop i xs)
none_at xs i h = sym (ap first_of (drop_all i xs h))
