-- The bases of pointers are held, or are declared later in the same scope.
use Rattle.std.proofs.Common.{◌≡◌, ℕ, zero, suc, Bool, true, false, List, [], ◌∷◌, ◌++◌, Option, Some, None, refl, sym, ap, subst, ◌∙◌, cond}
use Rattle.std.specs.Prelude.{bytes_eq, is_some, ◌⊎◌, ◌||◌}
use Rattle.std.proofs.Common.{inl, inr}
use Rattle.std.specs.List.{AllByRecursion, find}
use Rattle.std.proofs.lemmas.Bool.{false≢true}
use Rattle.ob_tree.specs.declared.names.QName.{QName}
use Rattle.ob_types.specs.declared.types.TypeRef.{TypeRef}
use Rattle.ob_types.specs.declared.types.TypeRef.TheVariants as ref
use Rattle.ob_types.specs.declared.desc.Desc.{Desc}
use Rattle.ob_types.specs.declared.desc.Desc.TheVariants as desc
use Rattle.ob_types.specs.declared.typed.TypedType.{TypedType}
use Rattle.ob_types.specs.Tests.{target, shape_at, pointer_of, follow, target_of}
use Rattle.ob_rules.specs.Shapes.{Map, shape, record_at, array_at, is_array, is_record, is_structured, is_pointer, is_held, same_name}
use Rattle.ob_rules.specs.Names.{Around, map_of, type_desc, own_desc, out_string, in_unit, is_among}
use Rattle.ob_rules.specs.Types.{with_types}
use Rattle.law_lists.proofs.Lists.{all_both, all_from, or_second}

-- ---- names among the module's own types

abbrev pub holds : List TypedType → List ℕ → Bool
holds own x = is_some (own_desc (find (λ t. bytes_eq t.name x) own))

abbrev pub Covers : List TypedType → List TypedType → Type 0
Covers a b = (x : List ℕ) → holds a x ≡ true → holds b x ≡ true

join_if : (b : Bool) (t : TypedType) (o p : Option TypedType) (d : Bool) → is_some (own_desc o) ≡ (is_some (own_desc p) || d) → is_some (own_desc (cond b (Some t) o)) ≡ (is_some (own_desc (cond b (Some t) p)) || d)
join_if true t o p d h = refl
join_if false t o p d h = h

pub holds_join : (a c : List TypedType) (x : List ℕ) → holds (a ++ c) x ≡ (holds a x || holds c x)
holds_join [] c x = refl
holds_join (t ∷ a) c x = join_if (bytes_eq t.name x) t (find (λ t. bytes_eq t.name x) (a ++ c)) (find (λ t. bytes_eq t.name x) a) (holds c x) (holds_join a c x)

or_more : (d e f : Bool) → (d ≡ true → e ≡ true) → (d || f) ≡ true → (e || f) ≡ true
or_more true e f h k = ap (λ b. b || f) (h refl)
or_more false e f h k = or_second e f k

pub front_covers : (a b : List TypedType) → Covers a (a ++ b)
front_covers a b x h = holds_join a b x ∙ ap (λ d. d || holds b x) h

pub back_covers : (a b : List TypedType) → Covers b (a ++ b)
back_covers a b x h = holds_join a b x ∙ or_second (holds a x) (holds b x) h

pub both_cover : (a b c : List TypedType) → Covers a b → Covers (a ++ c) (b ++ c)
both_cover a b c h x k = holds_join b c x ∙ or_more (holds a x) (holds b x) (holds c x) (h x) (sym (holds_join a c x) ∙ k)

-- ---- held in a map

held_by : (own : Bool) (out : Bool) (u : Around) (a b : List TypedType) → Covers a b → (q : QName) → is_some (type_desc own out (record u { own = a }) q) ≡ true → is_some (type_desc own out (record u { own = b }) q) ≡ true
held_by true out u a b c q h = c q.object h
held_by false true u a b c q h = refl
held_by false false u a b c q h = h

pub held_more : (u : Around) (a b : List TypedType) → Covers a b → (t : TypeRef) → is_held (map_of (record u { own = a })) t ≡ true → is_held (map_of (record u { own = b })) t ≡ true
held_more u a b c (ref.Basic x) h = refl
held_more u a b c (ref.Named q) h = held_by (bytes_eq q.«module» u.unit) (same_name q out_string) u a b c q h

record_none : (t : TypeRef) → is_some (record_at t None) ≡ false
record_none (ref.Basic b) = refl
record_none (ref.Named q) = refl

target_none : (map : Map) (n : ℕ) (q : QName) → map q ≡ None → target map n (ref.Named q) ≡ ref.Named q
unfolding target
target_none map zero q e = refl
target_none map (suc n) q e = ap (λ o. follow (target_of o) (ref.Named q) (λ u. target map n u)) e

none_false : (map : Map) (q : QName) → map q ≡ None → shape map (ref.Named q) ≡ None
none_false map q e = ap (shape_at map) (target_none map 201 q e) ∙ e

-- what has a shape of some kind is held
pub shape_held : (map : Map) (t : TypeRef) → is_structured map t ≡ true → is_held map t ≡ true
shape_held map (ref.Basic b) h = refl
shape_held map (ref.Named q) h = go (map q) refl
  where
    go : (o : Option Desc) → map q ≡ o → is_some (map q) ≡ true
    go (Some d) e = ap is_some e
    go None e =
        let s : shape map (ref.Named q) ≡ None = none_false map q e in
        let a : is_array map (ref.Named q) ≡ false = ap (λ o. is_some (array_at o)) s in
        let r : is_record map (ref.Named q) ≡ false = ap (λ o. is_some (record_at (target map 201 (ref.Named q)) o)) s ∙ record_none (target map 201 (ref.Named q)) in
        absurd (false≢true (sym (ap (λ b. b || is_record map (ref.Named q)) a ∙ r) ∙ h))

pub pointer_held : (map : Map) (t : TypeRef) → is_pointer map t ≡ true → is_held map t ≡ true
pointer_held map (ref.Basic b) h = refl
pointer_held map (ref.Named q) h = go (map q) refl
  where
    go : (o : Option Desc) → map q ≡ o → is_some (map q) ≡ true
    go (Some d) e = ap is_some e
    go None e =
        let p : is_pointer map (ref.Named q) ≡ false = ap (λ o. is_some (pointer_of o)) (none_false map q e) in
        absurd (false≢true (sym p ∙ h))

-- ---- pointers

-- the type of a name of the same scope that is declared later
abbrev pub IsLater : Around → TypeRef → Type 0
IsLater u t = (x : List ℕ) × (is_among x u.later_types ≡ true) × (t ≡ ref.Named (in_unit u (u.path ++ x)))

abbrev pub PointsWell : Around → Desc → Type 0
PointsWell u (desc.Pointer m t) = (is_held (map_of u) t ≡ true) ⊎ IsLater u t
PointsWell u d = Unit {0}

abbrev pub ArePointed : Around → List TypedType → Type 0
ArePointed u ts = AllByRecursion (λ t. PointsWell u t.desc) ts

-- the types that are made there
abbrev pub Points : Around → List TypedType → Type 0
Points u ts = ArePointed (with_types u ts) ts

pub desc_more : (u : Around) (a b : List TypedType) → Covers a b → (d : Desc) → PointsWell (record u { own = a }) d → PointsWell (record u { own = b }) d
desc_more u a b c (desc.Pointer m t) (inl h) = inl (held_more u a b c t h)
desc_more u a b c (desc.Pointer m t) (inr h) = inr h
desc_more u a b c (desc.Const v) h = tt
desc_more u a b c (desc.Var m t) h = tt
desc_more u a b c (desc.Proc s) h = tt
desc_more u a b c (desc.Alias m t) h = tt
desc_more u a b c (desc.Array m n t) h = tt
desc_more u a b c (desc.OpenArray m t) h = tt
desc_more u a b c (desc.ProcType m s) h = tt
desc_more u a b c (desc.Record r) h = tt

pub points_more : (u : Around) (a b : List TypedType) → Covers a b → (ts : List TypedType) → ArePointed (record u { own = a }) ts → ArePointed (record u { own = b }) ts
points_more u a b c ts h = all_from (λ t. PointsWell (record u { own = a }) t.desc) (λ t. PointsWell (record u { own = b }) t.desc) (λ t k. desc_more u a b c t.desc k) ts h

-- types that are made side by side
pub points_both : (u : Around) (a b : List TypedType) → Points u a → Points u b → Points u (a ++ b)
points_both u a b h k =
    all_both (λ t. PointsWell (with_types u (a ++ b)) t.desc) a b
    (points_more u (a ++ u.own) ((a ++ b) ++ u.own) (both_cover a (a ++ b) u.own (front_covers a b)) a h)
    (points_more u (b ++ u.own) ((a ++ b) ++ u.own) (both_cover b (a ++ b) u.own (back_covers a b)) b k)

-- one type more before those that it is made of
pub points_one : (u : Around) (t : TypedType) (ts : List TypedType) → PointsWell (with_types u ts) t.desc → Points u ts → Points u (t ∷ ts)
points_one u t ts h k = (desc_more u (ts ++ u.own) (t ∷ (ts ++ u.own)) (back_covers (t ∷ []) (ts ++ u.own)) t.desc h, points_more u (ts ++ u.own) (t ∷ (ts ++ u.own)) (back_covers (t ∷ []) (ts ++ u.own)) ts k)

-- ---- what pointers depend on, of what stands around

pub record AreAlike (u v : Around) : Type 0 where
  pub unit : u.unit ≡ v.unit
  pub shown : u.shown ≡ v.shown
  pub own : u.own ≡ v.own
  pub later_types : u.later_types ≡ v.later_types
  pub path : u.path ≡ v.path

map_alike : (u v : Around) → AreAlike u v → (q : QName) → map_of u q ≡ map_of v q
map_alike u v a q = go (bytes_eq q.«module» u.unit) (same_name q out_string) ∙ ap (λ n. type_desc (bytes_eq q.«module» n) (same_name q out_string) v q) a.unit
  where
    go : (b c : Bool) → type_desc b c u q ≡ type_desc b c v q
    go true c = ap (λ o. own_desc (find (λ t. bytes_eq t.name q.object) o)) a.own
    go false true = refl
    go false false = ap (λ f. f q) a.shown

held_alike : (u v : Around) → AreAlike u v → (t : TypeRef) → is_held (map_of u) t ≡ true → is_held (map_of v) t ≡ true
held_alike u v a (ref.Basic b) h = refl
held_alike u v a (ref.Named q) h = sym (ap is_some (map_alike u v a q)) ∙ h

later_alike : (u v : Around) → AreAlike u v → (t : TypeRef) → IsLater u t → IsLater v t
later_alike u v a t h = (
  h.0,
  subst (λ xs. is_among h.0 xs ≡ true) a.later_types h.1,
  h.2 ∙ ap (λ n. ref.Named (record { «module» = n; object = u.path ++ h.0 })) a.unit ∙ ap (λ n. ref.Named (record { «module» = v.unit; object = n ++ h.0 })) a.path,
)

desc_alike : (u v : Around) → AreAlike u v → (d : Desc) → PointsWell u d → PointsWell v d
desc_alike u v a (desc.Pointer m t) (inl h) = inl (held_alike u v a t h)
desc_alike u v a (desc.Pointer m t) (inr h) = inr (later_alike u v a t h)
desc_alike u v a (desc.Const x) h = tt
desc_alike u v a (desc.Var m t) h = tt
desc_alike u v a (desc.Proc s) h = tt
desc_alike u v a (desc.Alias m t) h = tt
desc_alike u v a (desc.Array m n t) h = tt
desc_alike u v a (desc.OpenArray m t) h = tt
desc_alike u v a (desc.ProcType m s) h = tt
desc_alike u v a (desc.Record r) h = tt

pub points_alike : (u v : Around) → AreAlike u v → (ts : List TypedType) → ArePointed u ts → ArePointed v ts
points_alike u v a ts h = all_from (λ t. PointsWell u t.desc) (λ t. PointsWell v t.desc) (λ t k. desc_alike u v a t.desc k) ts h
