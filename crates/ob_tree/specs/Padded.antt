-- The zeros behind a name.
use Rattle.std.specs.Prelude.{ℕ, ◌≡◌, ◌≤◌, ◌-◌, ◌++◌, List, length, take, drop, replicate, refl}
use Rattle.std.proofs.Common.{ap, sym, ◌∙◌, arith}
use Rattle.std.proofs.lemmas.List.{take-append-drop, length-take-le}
use Rattle.ob_tree.specs.declared.name.Name.TheInside.{Inside}

abbrev pub IsPadded : ℕ → List ℕ → Type 0
IsPadded n chars = (n ≤ 64) × (length chars ≡ 64) × (drop n chars ≡ replicate (64 - n) 0)

pub padded_back : (a : Inside) → IsPadded a.len a.chars → record { chars = take a.len a.chars ++ replicate (64 - length (take a.len a.chars)) 0; len = length (take a.len a.chars) } ≡ a
padded_back a h =
    let within : a.len ≤ length a.chars = omega arith in
    let len = length-take-le a.len a.chars within in
    let back : take a.len a.chars ++ replicate (64 - a.len) 0 ≡ a.chars = ap (λ r. take a.len a.chars ++ r) (sym h.2) ∙ take-append-drop a.len a.chars in
    rw (len, back) refl
