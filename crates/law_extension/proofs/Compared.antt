-- A comparison that says nothing but that objects were added.
use Rattle.std.proofs.Common.{◌≡◌, ℕ, List, [], ◌∷◌, ◌++◌, map, Bool, true, false, refl, sym, ap, ◌∙◌, subst, Option, Some, None}
use Rattle.std.specs.Prelude.{◌⊎◌, bytes_eq, cond}
use Rattle.std.specs.Option.{option_map}
use Rattle.std.specs.List.{AllByRecursion, flat_map}
use Rattle.std.specs.Ordering.{nat_cmp}
use Rattle.std.specs.declared.cmp.Ordering.TheVariants.{Less, Equal, Greater}
use Rattle.std.specs.Cmp.Lexicographic.{slice_cmp}
use Rattle.std.proofs.lemmas.Bool.{false≢true}
use Rattle.std.proofs.lemmas.Slice.Eq.{bytes_eq-Decides}
use Rattle.ob_tree.specs.declared.names.QName.{QName}
use Rattle.ob_tree.specs.declared.print.Print.{Print}
use Rattle.ob_types.specs.declared.desc.Desc.{Desc}
use Rattle.ob_types.specs.declared.face.Aspect.{Aspect}
use Rattle.ob_types.specs.declared.face.Aspect.TheVariants as aspect
use Rattle.ob_format.specs.Format.{◌>>=◌}
use Rattle.ob_desc.specs.Grammar.{text_of, seen, shape_text, layout_text}
use Rattle.ob_layout.specs.Lists.{put_before, put_in, in_order}
use Rattle.ob_env.specs.Faces.{Face, object_named}
use Rattle.ob_uses.proofs.SamePairs.{bytes_same}
use Rattle.ob_uses.proofs.Sorting.{Has}
use Rattle.ob_uses.proofs.Pairing.{has_left}
use Rattle.ob_cmp.specs.declared.verdict.Kind.{Kind}
use Rattle.ob_cmp.specs.declared.verdict.Kind.TheVariants as kind
use Rattle.ob_cmp.specs.declared.verdict.Verdict.{Verdict}
use Rattle.ob_cmp.specs.Verdicts.{Texts, texts_in, kinds_between, text_kinds, layouts_agree, kinds_in, names_in, verdict_of, verdicts, unless}
use Rattle.law_extension.specs.Gained.{text_of_object, OnlyGains, AreSeen, OnlyAdded}
use mathlib.Core.Logic.{inl, inr}
use Rattle.law_lists.proofs.Lists.{some_is}

abbrev Objects : Type 0
Objects = List (List ℕ × Desc)

none_no : {A B : Type 0} (x : A) → (let n : Option A = None in n) ≡ Some x → B
none_no x e = absurd cc

-- NAMES

put_itself : (x : List ℕ) (ys : List (List ℕ)) → Has x (put_in (slice_cmp nat_cmp) x ys)
unfolding Has
put_itself x [] = inl refl
put_itself x (y ∷ ys) = elim (slice_cmp nat_cmp x y) as (λ r. slice_cmp nat_cmp x y ≡ r → Has x (put_before r x y ys (put_in (slice_cmp nat_cmp) x ys))) [
  | Less ↦ λ e. inl refl
  | Equal ↦ λ e. inl (bytes_same x y e)
  | Greater ↦ λ e. inr (put_itself x ys)
] refl

put_keeps : (x z : List ℕ) (ys : List (List ℕ)) → Has z ys → Has z (put_in (slice_cmp nat_cmp) x ys)
unfolding Has
put_keeps x z [] h = absurd h
put_keeps x z (y ∷ ys) h = elim (slice_cmp nat_cmp x y) as (λ r. Has z (put_before r x y ys (put_in (slice_cmp nat_cmp) x ys))) [
  | Less ↦ inr h
  | Equal ↦ h
  | Greater ↦ elim h as (λ _. (z ≡ y) ⊎ Has z (put_in (slice_cmp nat_cmp) x ys)) [ inl e ↦ inl e | inr g ↦ inr (put_keeps x z ys g) ]
]

order_keeps : (z : List ℕ) (xs : List (List ℕ)) → Has z xs → Has z (in_order (slice_cmp nat_cmp) xs)
unfolding Has
order_keeps z [] h = absurd h
order_keeps z (x ∷ xs) (inl e) = subst (λ (w : List ℕ). Has w (put_in (slice_cmp nat_cmp) x (in_order (slice_cmp nat_cmp) xs))) (sym e) (put_itself x (in_order (slice_cmp nat_cmp) xs))
order_keeps z (x ∷ xs) (inr h) = put_keeps x z (in_order (slice_cmp nat_cmp) xs) (order_keeps z xs h)

-- what is found by a name has it
named_there : (os : Objects) (x : List ℕ) (d : Desc) → object_named os x ≡ Some d → Has x (map (λ o. o.0) os)
unfolding Has
named_there [] x d e = none_no d e
named_there (o ∷ os) x d e = go (bytes_eq x o.0) refl (named_there os x d) e
  where
    go : (b : Bool) → bytes_eq x o.0 ≡ b → (object_named os x ≡ Some d → Has x (map (λ o. o.0) os)) → cond b (Some o.1) (object_named os x) ≡ Some d → (x ≡ o.0) ⊎ Has x (map (λ o. o.0) os)
    go true b more e = inl ((bytes_eq-Decides x o.0).0 b)
    go false b more e = inr (more e)

seen_there : (os : Objects) → AllByRecursion (λ o. seen o.1 ≡ o.1) os → (x : List ℕ) (d : Desc) → object_named os x ≡ Some d → seen d ≡ d
seen_there [] s x d e = none_no d e
seen_there (o ∷ os) s x d e = go (bytes_eq x o.0) (seen_there os s.1 x d) e
  where
    go : (b : Bool) → (object_named os x ≡ Some d → seen d ≡ d) → cond b (Some o.1) (object_named os x) ≡ Some d → seen d ≡ d
    go true more e = subst (λ (d : Desc). seen d ≡ d) (some_is o.1 d e) s.0
    go false more e = more e

-- VERDICTS

all_front : (xs ys : List Verdict) → AllByRecursion (λ v. v.kind ≡ kind.Added) (xs ++ ys) → AllByRecursion (λ v. v.kind ≡ kind.Added) xs
all_front [] ys h = tt
all_front (x ∷ xs) ys h = (h.0, all_front xs ys h.1)

all_rest : (xs ys : List Verdict) → AllByRecursion (λ v. v.kind ≡ kind.Added) (xs ++ ys) → AllByRecursion (λ v. v.kind ≡ kind.Added) ys
all_rest [] ys h = h
all_rest (x ∷ xs) ys h = all_rest xs ys h.1

of_name : (f : List ℕ → List Verdict) (xs : List (List ℕ)) (x : List ℕ) → Has x xs → AllByRecursion (λ v. v.kind ≡ kind.Added) (flat_map f xs) → AllByRecursion (λ v. v.kind ≡ kind.Added) (f x)
unfolding Has
of_name f [] x h a = absurd h
of_name f (y ∷ ys) x (inl e) a = subst (λ (z : List ℕ). AllByRecursion (λ v. v.kind ≡ kind.Added) (f z)) (sym e) (all_front (f y) (flat_map f ys) a)
of_name f (y ∷ ys) x (inr h) a = of_name f ys x h (all_rest (f y) (flat_map f ys) a)

of_kinds : (x : List ℕ) (ks : List Kind) → AllByRecursion (λ v. v.kind ≡ kind.Added) (map (verdict_of x) ks) → AllByRecursion (λ k. k ≡ kind.Added) ks
of_kinds x [] a = tt
of_kinds x (k ∷ ks) a = (a.0, of_kinds x ks a.1)

changed_no : {B : Type 0} → kind.ShapeChanged ≡ kind.Added → B
changed_no e = absurd cc

layout_no : {B : Type 0} → kind.LayoutChanged ≡ kind.Added → B
layout_no e = absurd cc

gone_no : {B : Type 0} → kind.Gone ≡ kind.Added → B
gone_no e = absurd cc

layouts_same : (a b : Option (List ℕ)) → layouts_agree a b ≡ true → a ≡ b
layouts_same None None e = refl
layouts_same None (Some b) e = absurd (false≢true e)
layouts_same (Some a) None e = absurd (false≢true e)
layouts_same (Some a) (Some b) e = ap (λ (x : List ℕ). Some x) ((bytes_eq-Decides a b).0 e)

-- no text has changed
texts_same : (s : List ℕ) (l : Option (List ℕ)) (s' : List ℕ) (l' : Option (List ℕ)) → AllByRecursion (λ k. k ≡ kind.Added) (text_kinds s l s' l') → (s ≡ s') × (l ≡ l')
texts_same s l s' l' a = go (bytes_eq s s') (layouts_agree l l') refl refl a
  where
    go : (b c : Bool) → bytes_eq s s' ≡ b → layouts_agree l l' ≡ c → AllByRecursion (λ k. k ≡ kind.Added) (unless b kind.ShapeChanged ++ unless c kind.LayoutChanged) → (s ≡ s') × (l ≡ l')
    go true true b c a = ((bytes_eq-Decides s s').0 b, layouts_same l l' c)
    go true false b c a = layout_no a.0
    go false c b d a = changed_no a.0

aspect_same : (q : QName) (d e : Desc) → seen d ≡ d → seen e ≡ e → shape_text q d ≡ shape_text q e → layout_text q d ≡ layout_text q e → (a : Aspect) → text_of q e a ≡ text_of q d a
aspect_same q d e sd se s l aspect.Shape = ap (λ (x : List ℕ). Some x) (ap (shape_text q) se ∙ sym s ∙ sym (ap (shape_text q) sd))
aspect_same q d e sd se s l aspect.Layout = sym l

module _ (m : List ℕ) (os ns : Objects) (so : AllByRecursion (λ o. seen o.1 ≡ o.1) os) (sn : AllByRecursion (λ o. seen o.1 ≡ o.1) ns) (all : AllByRecursion (λ v. v.kind ≡ kind.Added) (flat_map (λ x. map (verdict_of x) (kinds_in m os m ns x)) (names_in os ns))) (x : List ℕ) (a : Aspect) (t : List ℕ) where
  abbrev name_is : QName
  name_is = record { «module» = m; object = x }

  there : (d : Desc) → object_named os x ≡ Some d → AllByRecursion (λ k. k ≡ kind.Added) (kinds_in m os m ns x)
  there d o = of_kinds x (kinds_in m os m ns x) (of_name (λ x. map (verdict_of x) (kinds_in m os m ns x)) (names_in os ns) x (order_keeps x (map (λ o. o.0) os ++ map (λ o. o.0) ns) (has_left x (map (λ o. o.0) os) (map (λ o. o.0) ns) (named_there os x d o))) all)

  stays : (object_named os x >>= λ d. text_of name_is d a) ≡ Some t → (object_named ns x >>= λ d. text_of name_is d a) ≡ Some t
  stays e = go (object_named os x) refl e
    where
      new : (d : Desc) (n : Option Desc) → object_named os x ≡ Some d → object_named ns x ≡ n → AllByRecursion (λ k. k ≡ kind.Added) (kinds_between (option_map (λ d. (shape_text name_is d, layout_text name_is d)) (Some d)) (option_map (λ d. (shape_text name_is d, layout_text name_is d)) n)) → text_of name_is d a ≡ Some t → (n >>= λ d. text_of name_is d a) ≡ Some t
      new d None o n k e = gone_no k.0
      new d (Some f) o n k e =
          let s = texts_same (shape_text name_is d) (layout_text name_is d) (shape_text name_is f) (layout_text name_is f) k in
          aspect_same name_is d f (seen_there os so x d o) (seen_there ns sn x f n) s.0 s.1 a ∙ e

      go : (o : Option Desc) → object_named os x ≡ o → (o >>= λ d. text_of name_is d a) ≡ Some t → (object_named ns x >>= λ d. text_of name_is d a) ≡ Some t
      go None o e = none_no t e
      go (Some d) o e =
          new d (object_named ns x) o refl
          (subst (λ (o : Option Desc). AllByRecursion (λ k. k ≡ kind.Added) (kinds_between (option_map (λ d. (shape_text name_is d, layout_text name_is d)) o) (option_map (λ d. (shape_text name_is d, layout_text name_is d)) (object_named ns x)))) o (there d o))
          e

pub only_added : OnlyAdded
only_added old new so sn n all = record {
  name = n;
  texts = λ x a t e. subst (λ (m : List ℕ). (object_named new.objects x >>= λ d. text_of (record { «module» = m; object = x }) d a) ≡ Some t) (sym n)
      (stays old.«module» old.objects new.objects so sn (subst (λ (m : List ℕ). AllByRecursion (λ v. v.kind ≡ kind.Added) (flat_map (λ x. map (verdict_of x) (kinds_in old.«module» old.objects m new.objects x)) (names_in old.objects new.objects))) n all) x a t e);
}
