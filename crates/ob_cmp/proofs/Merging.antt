-- Two lists that rise by name, merged.
use Rattle.std.proofs.Common.{◌≡◌, ℕ, Bool, true, false, cond, List, [], ◌∷◌, ◌++◌, length, map, Option, Some, None, append_assoc, refl, sym, ap, subst, ◌∙◌}
use Rattle.std.specs.Prelude.{◌⊎◌, bytes_eq}
use Rattle.std.specs.List.{flat_map, AllByRecursion}
use Rattle.std.specs.List.Sorted.{IsStrictlySortedBy}
use Rattle.std.specs.Option.{option_map}
use Rattle.std.specs.Ordering.{nat_cmp}
use Rattle.std.specs.Cmp.Lexicographic.{slice_cmp}
use Rattle.std.specs.declared.cmp.Ordering.{Ordering}
use Rattle.std.specs.declared.cmp.Ordering.TheVariants.{Less, Equal, Greater}
use Rattle.std.proofs.lemmas.Cmp.{nat_list_cmp_total}
use Rattle.ob_tree.specs.declared.names.QName.{QName}
use Rattle.ob_types.specs.declared.desc.Desc.{Desc}
use Rattle.ob_types.specs.declared.face.Object.{Object}
use Rattle.ob_desc.specs.Grammar.{shape_text, layout_text}
use Rattle.ob_sym.specs.Grammar.{by_name, object_of}
use Rattle.ob_layout.specs.Lists.{put_before, put_in, in_order}
use Rattle.ob_env.specs.Faces.{object_named}
use Rattle.ob_uses.proofs.SamePairs.{bytes_same}
use Rattle.ob_uses.proofs.Sorting.{Has, unlike, below_has, order_only, same_order}
use Rattle.ob_uses.proofs.Searching.{known, itself}
use Rattle.ob_uses.proofs.Pairing.{join_has, has_left, has_right}
use Rattle.ob_desc.specs.Laws.{object_decides}
use Rattle.ob_cmp.specs.declared.verdict.Kind.{Kind}
use Rattle.ob_cmp.specs.declared.verdict.Kind.TheVariants as kind
use Rattle.ob_cmp.specs.declared.verdict.Verdict.{Verdict}
use Rattle.ob_cmp.specs.Verdicts.{Texts, texts_in, kinds_between, kinds_in, names_in, verdict_of, verdicts_in}
use Rattle.ob_cmp.specs.Rising.{AreObjects, shown}
use mathlib.Core.Logic.{inl, inr}

abbrev before : List ℕ → List ℕ → Ordering
before = slice_cmp nat_cmp

abbrev pub names : List Object → List (List ℕ)
names os = map (λ p. p.0) (shown os)

abbrev pub Above : List ℕ → List (List ℕ) → Type 0
Above x ys = AllByRecursion (λ y. slice_cmp nat_cmp x y ≡ Less) ys

-- ---- names that are apart

abbrev name_object : List ℕ → QName
name_object x = record { «module» = []; object = x }

same_bytes : (x y : List ℕ) → bytes_eq x y ≡ true → x ≡ y
same_bytes x y e = ap (λ (q : QName). q.object) ((object_decides (name_object x) (name_object y)).0 e)

pub eq_itself : (x : List ℕ) → bytes_eq x x ≡ true
eq_itself x = itself (name_object x)

pub apart : (x y : List ℕ) → slice_cmp nat_cmp x y ≡ Less → bytes_eq x y ≡ false
apart x y l = elim (known (bytes_eq x y)) as (λ _. bytes_eq x y ≡ false) [
  | inl e ↦ absurd (unlike nat_list_cmp_total bytes_same x y l (subst (λ (z : List ℕ). slice_cmp nat_cmp z x ≡ Less) (same_bytes x y e) (subst (λ (z : List ℕ). slice_cmp nat_cmp x z ≡ Less) (sym (same_bytes x y e)) l)))
  | inr n ↦ n
]

pub turned_apart : (x y : List ℕ) → slice_cmp nat_cmp x y ≡ Less → bytes_eq y x ≡ false
turned_apart x y l = elim (known (bytes_eq y x)) as (λ _. bytes_eq y x ≡ false) [
  | inl e ↦ absurd (unlike nat_list_cmp_total bytes_same x y l (subst (λ (z : List ℕ). slice_cmp nat_cmp z x ≡ Less) (sym (same_bytes y x e)) (subst (λ (z : List ℕ). slice_cmp nat_cmp x z ≡ Less) (same_bytes y x e) l)))
  | inr n ↦ n
]

-- ---- names above a name

above_join : (x : List ℕ) (ys zs : List (List ℕ)) → Above x ys → Above x zs → Above x (ys ++ zs)
above_join x [] zs a b = b
above_join x (y ∷ ys) zs a b = (a.0, above_join x ys zs a.1 b)

above_later : (x y : List ℕ) (zs : List (List ℕ)) → slice_cmp nat_cmp x y ≡ Less → Above y zs → Above x zs
above_later x y [] l a = tt
above_later x y (z ∷ zs) l a = (nat_list_cmp_total.trans x y z l a.0, above_later x y zs l a.1)

above_all : (x : List ℕ) (ys : List (List ℕ)) → ((z : List ℕ) → Has z ys → slice_cmp nat_cmp x z ≡ Less) → Above x ys
unfolding Has
above_all x [] f = tt
above_all x (y ∷ ys) f = (f y (inl refl), above_all x ys (λ z h. f z (inr h)))

above_order : (x : List ℕ) (ys : List (List ℕ)) → Above x ys → Above x (in_order (slice_cmp nat_cmp) ys)
above_order x ys a = above_all x (in_order (slice_cmp nat_cmp) ys) (λ z h. below_has nat_list_cmp_total bytes_same x z ys a (order_only nat_list_cmp_total bytes_same z ys h))

put_first : (x : List ℕ) (ys : List (List ℕ)) → Above x ys → put_in (slice_cmp nat_cmp) x ys ≡ x ∷ ys
put_first x [] a = refl
put_first x (y ∷ ys) a = ap (λ r. put_before r x y ys (put_in (slice_cmp nat_cmp) x ys)) a.0

order_first : (x : List ℕ) (ys : List (List ℕ)) → Above x ys → in_order (slice_cmp nat_cmp) (x ∷ ys) ≡ x ∷ in_order (slice_cmp nat_cmp) ys
order_first x ys a = put_first x (in_order (slice_cmp nat_cmp) ys) (above_order x ys a)

above_names : (o : Object) (os : List Object) → AllByRecursion (λ y. by_name o y ≡ Less) os → Above o.name (names os)
above_names o [] a = tt
above_names o (p ∷ os) a = (a.0, above_names o os a.1)

pub above_rest : (m : List ℕ) (o : Object) (os : List Object) → AreObjects m (o ∷ os) → Above o.name (names os)
unfolding IsStrictlySortedBy
above_rest m o os a = above_names o os a.rising.0

pub above_others : (n : List ℕ) (x : List ℕ) (p : Object) (ps : List Object) → slice_cmp nat_cmp x p.name ≡ Less → AreObjects n (p ∷ ps) → Above x (names (p ∷ ps))
above_others n x p ps l a = (l, above_later x p.name (names ps) l (above_rest n p ps a))

pub others : (m : List ℕ) (o : Object) (os : List Object) → AreObjects m (o ∷ os) → AreObjects m os
unfolding IsStrictlySortedBy
others m o os a = record { spelled = a.spelled.1; rising = a.rising.1 }

-- ---- what is found

found_none : (x : List ℕ) (os : List Object) → Above x (names os) → object_named (shown os) x ≡ None
found_none x [] a = refl
found_none x (o ∷ os) a = ap (λ b. cond b (Some o.desc) (object_named (shown os) x)) (apart x o.name a.0) ∙ found_none x os a.1

found_first : (o : Object) (os : List Object) → object_named (shown (o ∷ os)) o.name ≡ Some o.desc
found_first o os = ap (λ b. cond b (Some o.desc) (object_named (shown os) o.name)) (eq_itself o.name)

found_rest : (x : List ℕ) (o : Object) (os : List Object) → slice_cmp nat_cmp o.name x ≡ Less → object_named (shown (o ∷ os)) x ≡ object_named (shown os) x
found_rest x o os l = ap (λ b. cond b (Some o.desc) (object_named (shown os) x)) (turned_apart o.name x l)

abbrev texts : List ℕ → List ℕ → Option Desc → Option Texts
texts m x d = option_map (λ d. (shape_text (object_of m x) d, layout_text (object_of m x) d)) d

abbrev kinds_at : List ℕ → Option Desc → List ℕ → Option Desc → List ℕ → List Kind
kinds_at m d n e x = kinds_between (texts m x d) (texts n x e)

flat_same : (f g : List ℕ → List Verdict) (xs : List (List ℕ)) → ((x : List ℕ) → Has x xs → f x ≡ g x) → flat_map f xs ≡ flat_map g xs
unfolding Has
flat_same f g [] h = refl
flat_same f g (x ∷ xs) h = ap (λ l. l ++ flat_map f xs) (h x (inl refl)) ∙ ap (λ l. g x ++ l) (flat_same f g xs (λ y k. h y (inr k)))

abbrev at : List ℕ → List Object → List ℕ → List Object → List ℕ → List Verdict
at m os n ns x = map (verdict_of x) (kinds_in m (shown os) n (shown ns) x)

-- the first name, and the others
step : (m : List ℕ) (os os' : List Object) (n : List ℕ) (ns ns' : List Object) (x : List ℕ) (ks : List Kind) → names_in (shown os) (shown ns) ≡ x ∷ names_in (shown os') (shown ns') → kinds_in m (shown os) n (shown ns) x ≡ ks → ((y : List ℕ) → Has y (names_in (shown os') (shown ns')) → kinds_in m (shown os) n (shown ns) y ≡ kinds_in m (shown os') n (shown ns') y) → verdicts_in m (shown os) n (shown ns) ≡ map (verdict_of x) ks ++ verdicts_in m (shown os') n (shown ns')
step m os os' n ns ns' x ks first here rest =
    ap (flat_map (at m os n ns)) first ∙ ap (λ k. map (verdict_of x) k ++ flat_map (at m os n ns) (names_in (shown os') (shown ns'))) here
    ∙ ap (λ l. map (verdict_of x) ks ++ l) (flat_same (at m os n ns) (at m os' n ns') (names_in (shown os') (shown ns')) (λ y h. ap (map (verdict_of y)) (rest y h)))

later : (x y : List ℕ) (zs : List (List ℕ)) → Above x zs → Has y (in_order (slice_cmp nat_cmp) zs) → slice_cmp nat_cmp x y ≡ Less
later x y zs a h = below_has nat_list_cmp_total bytes_same x y zs a (order_only nat_list_cmp_total bytes_same y zs h)

pub step_older : (m : List ℕ) (o : Object) (os : List Object) (n : List ℕ) (ns : List Object) → AreObjects m (o ∷ os) → Above o.name (names ns) → verdicts_in m (shown (o ∷ os)) n (shown ns) ≡ verdict_of o.name kind.Gone ∷ verdicts_in m (shown os) n (shown ns)
step_older m o os n ns a b =
    let all : Above o.name (names os ++ names ns) = above_join o.name (names os) (names ns) (above_rest m o os a) b in
    step m (o ∷ os) os n ns ns o.name (kind.Gone ∷ []) (order_first o.name (names os ++ names ns) all)
    (ap (λ d. kinds_at m d n (object_named (shown ns) o.name) o.name) (found_first o os) ∙ ap (λ e. kinds_at m (Some o.desc) n e o.name) (found_none o.name ns b))
    (λ y h. ap (λ d. kinds_at m d n (object_named (shown ns) y) y) (found_rest y o os (later o.name y (names os ++ names ns) all h)))

moved : (x : List ℕ) (ys zs : List (List ℕ)) → in_order (slice_cmp nat_cmp) (ys ++ x ∷ zs) ≡ in_order (slice_cmp nat_cmp) (x ∷ (ys ++ zs))
unfolding Has
moved x ys zs = same_order nat_list_cmp_total bytes_same (ys ++ x ∷ zs) (x ∷ (ys ++ zs))
    (λ z h. elim (join_has z ys (x ∷ zs) h) as (λ _. Has z (x ∷ (ys ++ zs))) [
      | inl a ↦ inr (has_left z ys zs a)
      | inr b ↦ elim b as (λ _. Has z (x ∷ (ys ++ zs))) [ inl e ↦ inl e | inr c ↦ inr (has_right z ys zs c) ]
    ])
    (λ z h. elim h as (λ _. Has z (ys ++ x ∷ zs)) [
      | inl e ↦ has_right z ys (x ∷ zs) (inl e)
      | inr g ↦ elim (join_has z ys zs g) as (λ _. Has z (ys ++ x ∷ zs)) [ inl a ↦ has_left z ys (x ∷ zs) a | inr c ↦ has_right z ys (x ∷ zs) (inr c) ]
    ])

pub step_newer : (m : List ℕ) (os : List Object) (n : List ℕ) (p : Object) (ns : List Object) → AreObjects n (p ∷ ns) → Above p.name (names os) → verdicts_in m (shown os) n (shown (p ∷ ns)) ≡ verdict_of p.name kind.Added ∷ verdicts_in m (shown os) n (shown ns)
step_newer m os n p ns a b =
    let all : Above p.name (names os ++ names ns) = above_join p.name (names os) (names ns) b (above_rest n p ns a) in
    step m os os n (p ∷ ns) ns p.name (kind.Added ∷ []) (moved p.name (names os) (names ns) ∙ order_first p.name (names os ++ names ns) all)
    (ap (λ d. kinds_at m d n (object_named (shown (p ∷ ns)) p.name) p.name) (found_none p.name os b) ∙ ap (λ e. kinds_at m None n e p.name) (found_first p ns))
    (λ y h. ap (λ e. kinds_at m (object_named (shown os) y) n e y) (found_rest y p ns (later p.name y (names os ++ names ns) all h)))

twice : (x : List ℕ) (ys zs : List (List ℕ)) → in_order (slice_cmp nat_cmp) (x ∷ (ys ++ x ∷ zs)) ≡ in_order (slice_cmp nat_cmp) (x ∷ (ys ++ zs))
unfolding Has
twice x ys zs = same_order nat_list_cmp_total bytes_same (x ∷ (ys ++ x ∷ zs)) (x ∷ (ys ++ zs))
    (λ z h. elim h as (λ _. Has z (x ∷ (ys ++ zs))) [
      | inl e ↦ inl e
      | inr g ↦ elim (join_has z ys (x ∷ zs) g) as (λ _. Has z (x ∷ (ys ++ zs))) [
        | inl a ↦ inr (has_left z ys zs a)
        | inr b ↦ elim b as (λ _. Has z (x ∷ (ys ++ zs))) [ inl e ↦ inl e | inr c ↦ inr (has_right z ys zs c) ]
      ]
    ])
    (λ z h. elim h as (λ _. Has z (x ∷ (ys ++ x ∷ zs))) [
      | inl e ↦ inl e
      | inr g ↦ elim (join_has z ys zs g) as (λ _. Has z (x ∷ (ys ++ x ∷ zs))) [ inl a ↦ inr (has_left z ys (x ∷ zs) a) | inr c ↦ inr (has_right z ys (x ∷ zs) (inr c)) ]
    ])

pub step_both : (m : List ℕ) (o : Object) (os : List Object) (n : List ℕ) (p : Object) (ns : List Object) → AreObjects m (o ∷ os) → AreObjects n (p ∷ ns) → o.name ≡ p.name → verdicts_in m (shown (o ∷ os)) n (shown (p ∷ ns)) ≡ map (verdict_of o.name) (kinds_at m (Some o.desc) n (Some p.desc) o.name) ++ verdicts_in m (shown os) n (shown ns)
step_both m o os n p ns a b e =
    let x : List ℕ = o.name in
    let new : Above x (names ns) = subst (λ (z : List ℕ). Above z (names ns)) (sym e) (above_rest n p ns b) in
    let all : Above x (names os ++ names ns) = above_join x (names os) (names ns) (above_rest m o os a) new in
    step m (o ∷ os) os n (p ∷ ns) ns x (kinds_at m (Some o.desc) n (Some p.desc) x)
    (ap (λ z. in_order (slice_cmp nat_cmp) (x ∷ (names os ++ z ∷ names ns))) (sym e) ∙ twice x (names os) (names ns) ∙ order_first x (names os ++ names ns) all)
    (ap (λ d. kinds_at m d n (object_named (shown (p ∷ ns)) x) x) (found_first o os) ∙ ap (λ k. kinds_at m (Some o.desc) n k x) (ap (object_named (shown (p ∷ ns))) e ∙ found_first p ns))
    (λ y h. let l = later x y (names os ++ names ns) all h in
    ap (λ d. kinds_at m d n (object_named (shown (p ∷ ns)) y) y) (found_rest y o os l)
    ∙ ap (λ k. kinds_at m (object_named (shown os) y) n k y) (found_rest y p ns (subst (λ (z : List ℕ). slice_cmp nat_cmp z y ≡ Less) e l)))
