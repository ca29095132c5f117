-- How many bound procedures the types define whose descriptors are cut off.
use Rattle.std.proofs.Common.{◌≡◌, ℕ, zero, suc, ◌+◌, List, [], ◌∷◌, drop, Some, sym, ap, ◌∙◌, subst, arith}
use Rattle.std.specs.Prelude.{slice_get, sum}
use Rattle.std.proofs.lemmas.List.{drop-map}
use Rattle.std.proofs.lemmas.List.Sums.{sum_by-cons}
use Rattle.ob_tdesc.specs.declared.descriptors.Entry.{Entry}
use Rattle.ob_tdesc.specs.Entries.{Tiles, own_counts}

tiles_rest : (n : ℕ) (entries : List Entry) (len k : ℕ) (e : Entry) → Tiles n entries len → slice_get entries k ≡ Some e → Tiles e.first (drop k entries) len
tiles_rest n [] len k e t h = absurd cc
tiles_rest n (x ∷ entries) len zero e t h =
    let same : x ≡ e = cc in
    let first : n ≡ e.first = sym t.0 ∙ ap Entry.first same in
    subst (λ m. Tiles m (x ∷ entries) len) first t
tiles_rest n (x ∷ entries) len (suc k) e t h = tiles_rest (n + x.own) entries len k e t.1 h

tiles_count : (n : ℕ) (entries : List Entry) (len : ℕ) → Tiles n entries len → n + sum (own_counts entries) ≡ len
tiles_count n [] len t = omega arith
tiles_count n (e ∷ entries) len t =
    let rest = tiles_count (n + e.own) entries len t.1 in
    let more = sum_by-cons (λ k. k) e.own (own_counts entries) in
    omega arith

pub methods_cut : (entries : List Entry) (len k : ℕ) (e : Entry) → Tiles 0 entries len → slice_get entries k ≡ Some e → e.first + sum (drop k (own_counts entries)) ≡ len
methods_cut entries len k e tiles at = rw (drop-map Entry.own k entries) (tiles_count e.first (drop k entries) len (tiles_rest 0 entries len k e tiles at))
