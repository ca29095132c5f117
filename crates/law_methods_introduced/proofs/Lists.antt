-- Lists of types with different names, and parts of them.
use Rattle.std.proofs.Common.{◌≢◌, List, [], ◌∷◌, ◌++◌, sym, append_assoc, subst}
use Rattle.std.specs.List.{AllByRecursion}
use Rattle.ob_types.specs.declared.typed.TypedType.{TypedType}
use Rattle.law_names_distinct.specs.Distinct.{AreDistinct}
use Rattle.law_lists.proofs.Lists.{all_both, all_parts}

abbrev pub Differ : List TypedType → Type 0
Differ ts = AreDistinct (λ t. t.name) ts

all_swap : {A : Type 0} (P : A → Type 0) (a b c : List A) → AllByRecursion P (a ++ (b ++ c)) → AllByRecursion P ((b ++ a) ++ c)
all_swap P a b c h =
    let k = all_parts P a (b ++ c) h in
    let l = all_parts P b c k.1 in
    all_both P (b ++ a) c (all_both P b a l.0 k.0) l.1

-- one from the middle to the front
lift : (a : List TypedType) (x : TypedType) (r : List TypedType) → Differ (a ++ x ∷ r) → Differ (x ∷ (a ++ r))
lift [] x r h = h
lift (y ∷ a) x r h =
    let k = lift a x r h.1 in
    let p = all_parts (λ z. z.name ≢ y.name) a (x ∷ r) h.0 in
    (((λ e. p.1.0 (sym e)), k.0), (all_both (λ z. z.name ≢ y.name) a r p.0 p.1.1, k.1))

pub swap : (a b c : List TypedType) → Differ (a ++ (b ++ c)) → Differ ((b ++ a) ++ c)
swap a [] c h = h
swap a (x ∷ b) c h =
    let k = lift a x (b ++ c) h in
    (all_swap (λ z. z.name ≢ x.name) a b c k.0, swap a b c k.1)

back : (a r : List TypedType) → Differ (a ++ r) → Differ r
back [] r h = h
back (x ∷ a) r h = back a r h.1

pub drop : (a b r : List TypedType) → Differ (a ++ (b ++ r)) → Differ (a ++ r)
drop [] b r h = back b r h
drop (x ∷ a) b r h =
    let p = all_parts (λ z. z.name ≢ x.name) a (b ++ r) h.0 in
    let q = all_parts (λ z. z.name ≢ x.name) b r p.1 in
    (all_both (λ z. z.name ≢ x.name) a r p.0 q.1, drop a b r h.1)

-- the same, joined otherwise
pub joined_right : (o a b r : List TypedType) → Differ (o ++ ((a ++ b) ++ r)) → Differ (o ++ (a ++ (b ++ r)))
joined_right o a b r h = subst (λ x. Differ (o ++ x)) (append_assoc a b r) h
