-- Where all have heights, no chain is too long.
use Rattle.std.proofs.Common.{◌≡◌, ℕ, zero, suc, ◌≤◌, ◌<◌, Bool, true, List, [], ◌∷◌, Option, Some, None, refl, sym, ap, ◌∙◌, arith}
use Rattle.std.specs.Prelude.{◌&&◌, map, nat_lt, slice_get, unwrap_or}
use Rattle.std.specs.List.{list_all}
use Rattle.std.proofs.lemmas.Bool.{ltb-true, lt-ltb}
use Rattle.ob_format.specs.Format.{◌>>=◌}
use Rattle.ob_tree.specs.declared.names.QName.{QName}
use Rattle.ob_types.specs.declared.types.TypeRef.{TypeRef}
use Rattle.ob_types.specs.declared.types.TypeRef.TheVariants as ref
use Rattle.ob_types.specs.declared.face.Object.{Object}
use Rattle.ob_types.specs.declared.face.Interface.{Interface}
use Rattle.ob_types.specs.Maps.{stands_on}
use Rattle.ob_env.specs.Mapped.{map_of}
use Rattle.ob_env.specs.Fit.{chain_described, is_within}
use Rattle.ob_env_ranks.specs.Marks.{mark_at, is_marked, marks_by, SayWithin, height_at, is_less, is_below, keeps_height, row_keeps, rows_keep, are_ranked}
use Rattle.ob_env.specs.Found.{place_of}
use Rattle.ob_env_ranks.proofs.Rounds.{round_marks, true_left, true_right}

-- ---- heights that are less

less_none : (o : Option ℕ) → is_less o 0 ≡ true → ⊥
less_none None e = absurd cc
less_none (Some h) e = let f : h < 0 = ltb-true h 0 e in absurd (omega (arith, f))

less_more : (o : Option ℕ) (h n : ℕ) → h ≤ n → is_less o h ≡ true → is_less o n ≡ true
less_more None h n le e = absurd cc
less_more (Some k) h n le e = let f : k < h = ltb-true k h e in let g : k < n = omega (arith, f, le) in lt-ltb k n g

less_is : (o : Option ℕ) (h n : ℕ) → is_less o (suc n) ≡ true → o ≡ Some h → h ≤ n
less_is o h n e at =
    let f : h < suc n = ltb-true h (suc n) (ap (λ (p : Option ℕ). is_less p (suc n)) (sym at) ∙ e) in
    omega (arith, f)

raised : (is : List Interface) (heights : List (List ℕ)) (h n : ℕ) → h ≤ n → (t : TypeRef) → is_below is heights h t ≡ true → is_below is heights n t ≡ true
raised is heights h n le (ref.Basic b) e = refl
raised is heights h n le (ref.Named q) e = less_more (place_of is q >>= height_at heights) h n le e

pub all_pass : (p r : TypeRef → Bool) → ((t : TypeRef) → p t ≡ true → r t ≡ true) → (ts : List TypeRef) → list_all p ts ≡ true → list_all r ts ≡ true
all_pass p r f [] e = refl
all_pass p r f (t ∷ ts) e = ap (λ b. b && list_all r ts) (f t (true_left (p t) (list_all p ts) e)) ∙ all_pass p r f ts (true_right (p t) (list_all p ts) e)

-- ---- what is at a place

module _ (below : ℕ → TypeRef → Bool) (p : TypeRef → Bool) where
  in_row : (os : List Object) (hs : List ℕ) (j : ℕ) → row_keeps below os hs ≡ true → ((h : ℕ) → slice_get hs j ≡ Some h → h < 201 → (ts : List TypeRef) → list_all (below h) ts ≡ true → list_all p ts ≡ true) → unwrap_or (slice_get (map (λ o. list_all p (stands_on o.desc)) os) j) true ≡ true
  in_row [] hs j e pass = refl
  in_row (o ∷ os) [] j e pass = absurd cc
  in_row (o ∷ os) (h ∷ hs) zero e pass =
      let kept : keeps_height below o h ≡ true = true_left (keeps_height below o h) (row_keeps below os hs) e in
      pass h refl (ltb-true h 201 (true_left (nat_lt h 201) (list_all (below h) (stands_on o.desc)) kept)) (stands_on o.desc) (true_right (nat_lt h 201) (list_all (below h) (stands_on o.desc)) kept)
  in_row (o ∷ os) (h ∷ hs) (suc j) e pass = in_row os hs j (true_right (keeps_height below o h) (row_keeps below os hs) e) pass

  in_rows : (is : List Interface) (rows : List (List ℕ)) (k j : ℕ) → rows_keep below is rows ≡ true → ((h : ℕ) → height_at rows (k, j) ≡ Some h → h < 201 → (ts : List TypeRef) → list_all (below h) ts ≡ true → list_all p ts ≡ true) → unwrap_or (mark_at (marks_by p is) (k, j)) true ≡ true
  in_rows [] rows k j e pass = refl
  in_rows (i ∷ is) [] k j e pass = absurd cc
  in_rows (i ∷ is) (r ∷ rows) zero j e pass = in_row i.objects r j (true_left (row_keeps below i.objects r) (rows_keep below is rows) e) pass
  in_rows (i ∷ is) (r ∷ rows) (suc k) j e pass = in_rows is rows k j (true_right (row_keeps below i.objects r) (rows_keep below is rows) e) pass

-- ---- chains

-- where all below a height pass, so does all on which a name of that height stands
chain_passes : (is : List Interface) (heights : List (List ℕ)) → are_ranked is heights ≡ true → (p : TypeRef → Bool) (n : ℕ) → ((t : TypeRef) → is_below is heights n t ≡ true → p t ≡ true) → (q : QName) → ((h : ℕ) → (place_of is q >>= height_at heights) ≡ Some h → h < 201 → h ≤ n) → chain_described p (map_of is q) ≡ true
chain_passes is heights e p n pass q few = sym (round_marks p is q) ∙ go (place_of is q) refl
  where
    go : (o : Option (ℕ × ℕ)) → place_of is q ≡ o → unwrap_or (o >>= mark_at (marks_by p is)) true ≡ true
    go None s = refl
    go (Some y) s = in_rows (is_below is heights) p is heights y.0 y.1 e (λ h at lt ts all. all_pass (is_below is heights h) p (λ t b. pass t (raised is heights h n (few h (ap (λ (o : Option (ℕ × ℕ)). o >>= height_at heights) s ∙ at) lt) t b)) ts all)

below_within : (is : List Interface) (heights : List (List ℕ)) → are_ranked is heights ≡ true → (n : ℕ) (t : TypeRef) → is_below is heights n t ≡ true → is_within (map_of is) n t ≡ true
below_within is heights e zero (ref.Basic b) k = refl
below_within is heights e zero (ref.Named q) k = absurd (less_none (place_of is q >>= height_at heights) k)
below_within is heights e (suc n) (ref.Basic b) k = refl
below_within is heights e (suc n) (ref.Named q) k = chain_passes is heights e (λ t. is_within (map_of is) n t) n (below_within is heights e n) q (λ h at lt. less_is (place_of is q >>= height_at heights) h n k at)

ranked_within : (is : List Interface) (heights : List (List ℕ)) → are_ranked is heights ≡ true → (t : TypeRef) → is_within (map_of is) 201 t ≡ true
ranked_within is heights e (ref.Basic b) = refl
ranked_within is heights e (ref.Named q) = chain_passes is heights e (λ t. is_within (map_of is) 200 t) 200 (below_within is heights e 200) q (λ h at lt. omega (arith, lt))

-- ---- no marks

unmarked : (is : List Interface) (t : TypeRef) → is_marked is [] t ≡ true
unmarked is (ref.Basic b) = refl
unmarked is (ref.Named q) = go (place_of is q)
  where
    go : (o : Option (ℕ × ℕ)) → unwrap_or (o >>= mark_at []) true ≡ true
    go None = refl
    go (Some y) = refl

pub ranked_marks : (is : List Interface) (heights : List (List ℕ)) (marks : List (List Bool)) → are_ranked is heights ≡ true → marks ≡ [] → SayWithin is 201 marks
ranked_marks is heights marks e none t = ranked_within is heights e t ∙ sym (ap (λ (ms : List (List Bool)). is_marked is ms t) none ∙ unmarked is t)
