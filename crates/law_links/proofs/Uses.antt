-- What counts is used: its text is among the uses.
use Rattle.std.proofs.Common.{◌≡◌, suc, ◌+◌, Bool, true, false, cond, List, [], ◌∷◌, ◌++◌, length, map, Option, Some, None, refl, sym, ap, subst, ◌∙◌, inl, inr, arith}
use Rattle.std.specs.Prelude.{◌⊎◌, Contains}
use Rattle.std.specs.Option.{option_map}
use Rattle.std.specs.List.{filter, flat_map}
use Rattle.std.specs.declared.cmp.Ordering.{Ordering}
use Rattle.std.specs.declared.cmp.Ordering.TheVariants.{Less, Equal, Greater}
use Rattle.ob_tree.specs.declared.names.QName.{QName}
use Rattle.ob_types.specs.declared.desc.Desc.{Desc}
use Rattle.ob_types.specs.declared.face.Aspect.{Aspect}
use Rattle.ob_types.specs.declared.face.Aspect.TheVariants as aspect
use Rattle.ob_types.specs.Maps.{listed}
use Rattle.ob_format.specs.Format.{◌>>=◌}
use Rattle.ob_desc.specs.Grammar.{seen, shape_text, text_of}
use Rattle.ob_layout.specs.Lists.{put_before, put_in, in_order}
use Rattle.ob_env.specs.Faces.{Face, Wanted, text_in}
use Rattle.ob_env.specs.Fit.{count_of}
use Rattle.ob_uses_roots.specs.Counts.{counts_of_module}
use Rattle.ob_uses.specs.declared.pair.Pair.{Pair}
use Rattle.ob_uses.specs.Order.{by_pair}
use Rattle.ob_uses.specs.Uses.{is_imported, as_shape, with_kept, layout_pairs, pairs_of}
use Rattle.ob_uses.specs.Made.{face_of_laid}
use Rattle.ob_uses.proofs.Sorting.{Has}
use Rattle.ob_uses.proofs.SamePairs.{pair_same}
use Rattle.ob_uses.proofs.Pairing.{has_of_among}
use Rattle.ob_compile_model.specs.Compiling.{Compiled}
use Rattle.law_load_plan.specs.Compiled.{Text, IsUsedAs}
use Rattle.law_links.specs.Linked.{types_of, names_counted, IsCounted}

-- ---- one of a list

abbrev In : {A : Type 0} → List A → A → Type 0
In [] x = ⊥
In (y ∷ ys) x = (y ≡ x) ⊎ In ys x

of_in : {A : Type 0} (xs : List A) (x : A) → In xs x → Contains xs x
of_in [] x i = absurd i
of_in (y ∷ ys) x (inl e) = (0, omega arith, e)
of_in (y ∷ ys) x (inr i) = let r = of_in ys x i in let h = r.1 in (suc r.0, omega (arith, h), r.2)

in_of_has : {A : Type 0} (xs : List A) (x : A) → Has x xs → In xs x
unfolding Has
in_of_has [] x h = absurd h
in_of_has (y ∷ ys) x (inl e) = inl (sym e)
in_of_has (y ∷ ys) x (inr h) = inr (in_of_has ys x h)

in_front : {A : Type 0} (xs ys : List A) (x : A) → In xs x → In (xs ++ ys) x
in_front [] ys x i = absurd i
in_front (y ∷ xs) ys x (inl e) = inl e
in_front (y ∷ xs) ys x (inr i) = inr (in_front xs ys x i)

in_back : {A : Type 0} (xs ys : List A) (x : A) → In ys x → In (xs ++ ys) x
in_back [] ys x i = i
in_back (y ∷ xs) ys x i = inr (in_back xs ys x i)

in_mapped : {A B : Type 0} (f : A → B) (xs : List A) (x : A) → In xs x → In (map f xs) (f x)
in_mapped f [] x i = absurd i
in_mapped f (y ∷ xs) x (inl e) = inl (ap f e)
in_mapped f (y ∷ xs) x (inr i) = inr (in_mapped f xs x i)

kept_if : {A : Type 0} (b : Bool) (y : A) (xs : List A) (x : A) → In xs x → In (cond b (y ∷ xs) xs) x
kept_if true y xs x i = inr i
kept_if false y xs x i = i

kept_first : {A : Type 0} (b : Bool) (y : A) (xs : List A) (x : A) → y ≡ x → b ≡ true → In (cond b (y ∷ xs) xs) x
kept_first true y xs x e h = inl e
kept_first false y xs x e h = absurd cc

in_filtered : {A : Type 0} (f : A → Bool) (xs : List A) (x : A) → In xs x → f x ≡ true → In (filter f xs) x
in_filtered f [] x i h = absurd i
in_filtered f (y ∷ xs) x (inl e) h = kept_first (f y) y (filter f xs) x e (ap f e ∙ h)
in_filtered f (y ∷ xs) x (inr i) h = kept_if (f y) y (filter f xs) x (in_filtered f xs x i h)

in_flat : {A B : Type 0} (f : A → List B) (xs : List A) (x : A) (y : B) → In xs x → In (f x) y → In (flat_map f xs) y
in_flat f [] x y i j = absurd i
in_flat f (z ∷ xs) x y (inl e) j = in_front (f z) (flat_map f xs) y (subst (λ w. In (f w) y) (sym e) j)
in_flat f (z ∷ xs) x y (inr i) j = in_back (f z) (flat_map f xs) y (in_flat f xs x y i j)

-- ---- in order

put_new : (x : Pair) (ys : List Pair) → In (put_in by_pair x ys) x
put_new x [] = inl refl
put_new x (y ∷ ys) = go (by_pair x y) refl (put_new x ys)
  where
    go : (o : Ordering) → by_pair x y ≡ o → In (put_in by_pair x ys) x → In (put_before o x y ys (put_in by_pair x ys)) x
    go Less e h = inl refl
    go Equal e h = inl (sym (pair_same x y e))
    go Greater e h = inr h

put_old : (x z : Pair) (ys : List Pair) → In ys z → In (put_in by_pair x ys) z
put_old x z [] i = absurd i
put_old x z (y ∷ ys) i = go (by_pair x y) i (λ j. put_old x z ys j)
  where
    go : (o : Ordering) → (y ≡ z) ⊎ In ys z → (In ys z → In (put_in by_pair x ys) z) → In (put_before o x y ys (put_in by_pair x ys)) z
    go Less i h = inr i
    go Equal i h = i
    go Greater (inl e) h = inl e
    go Greater (inr j) h = inr (h j)

in_ordered : (xs : List Pair) (x : Pair) → In xs x → In (in_order by_pair xs) x
in_ordered [] x i = absurd i
in_ordered (y ∷ xs) x (inl e) = subst (λ z. In (put_in by_pair y (in_order by_pair xs)) z) e (put_new y (in_order by_pair xs))
in_ordered (y ∷ xs) x (inr i) = put_old y x (in_order by_pair xs) (in_ordered xs x i)

-- ---- the uses

kept_in : (has : QName → Aspect → Option Text) (q : QName) (t : Text) (o : Option Text) → o ≡ Some t → In (listed (option_map (λ k. let w : Wanted Text = record { object = q; aspect = aspect.Shape; kept = k } in w) o)) (record { object = q; aspect = aspect.Shape; kept = t })
kept_in has q t None e = absurd cc
kept_in has q t (Some k) e = let i : k ≡ t = cc in inl (ap (λ k. let w : Wanted Text = record { object = q; aspect = aspect.Shape; kept = k } in w) i)

pub used : (kind : Desc → Bool) (c : Compiled Text) → c.shows ≡ face_of_laid (text_in c.against) c.against c.tree → (q : QName) → IsCounted kind c q → IsUsedAs kind c q
used kind c made q k =
    let types = types_of c in
    let n = length c.tree.types + count_of c.against in
    let cs = counts_of_module types c.tree in
    let i : In (names_counted c) q = in_of_has (names_counted c) q (has_of_among (names_counted c) q k.counted) in
    let j : In (map as_shape (filter (is_imported c.tree) (names_counted c))) (as_shape q) = in_mapped as_shape (filter (is_imported c.tree) (names_counted c)) q (in_filtered (is_imported c.tree) (names_counted c) q i k.imported) in
    let p : In (pairs_of types n c.tree) (as_shape q) = in_ordered (map as_shape (filter (is_imported c.tree) (names_counted c)) ++ layout_pairs types n c.tree cs) (as_shape q) (in_front (map as_shape (filter (is_imported c.tree) (names_counted c))) (layout_pairs types n c.tree cs) (as_shape q) j) in
    let t : text_in c.against q aspect.Shape ≡ Some (shape_text q (seen k.desc)) = ap (λ o. o >>= λ d. text_of q d aspect.Shape) k.shown in
    let u = in_flat (with_kept (text_in c.against)) (pairs_of types n c.tree) (as_shape q) (record { object = q; aspect = aspect.Shape; kept = shape_text q (seen k.desc) }) p (kept_in (text_in c.against) q (shape_text q (seen k.desc)) (text_in c.against q aspect.Shape) t) in
    record { desc = k.desc; kind_is = k.kind_is; used = subst (λ (f : Face Text). Contains f.uses (record { object = q; aspect = aspect.Shape; kept = shape_text q (seen k.desc) })) (sym made) (of_in (flat_map (with_kept (text_in c.against)) (pairs_of types n c.tree)) (record { object = q; aspect = aspect.Shape; kept = shape_text q (seen k.desc) }) u) }
