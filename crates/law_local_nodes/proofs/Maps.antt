-- What the rules find of types is the same in two maps that say the same of every name.
use Rattle.std.proofs.Common.{◌≡◌, refl, sym, ap, ◌∙◌, ℕ, zero, suc, Bool, true, false, List, Option, Some, None}
use Rattle.std.specs.Prelude.{◌||◌, is_some, bytes_eq}
use Rattle.ob_tree.specs.declared.names.QName.{QName}
use Rattle.ob_types.specs.declared.types.TypeRef.{TypeRef}
use Rattle.ob_types.specs.declared.types.TypeRef.TheVariants as ref
use Rattle.ob_types.specs.declared.typed.Guarded.{Guarded}
use Rattle.ob_types.specs.declared.typed.Guarded.TheVariants as guarded
use Rattle.ob_types.specs.declared.typed.Variable.{Variable}
use Rattle.ob_types.specs.Tests.{target_of, alias_of, follow, target, type_eq, same_at, shape_at, base_of, pointer_of, holds_of, climbs, both, extends_at}
use Rattle.ob_rules.specs.declared.values.Place.{Place}
use Rattle.ob_rules.specs.Shapes.{Map, shape, record_at, record_of, pointed, record_if, pointed_record, is_held, same_name, extends_record}
use Rattle.ob_rules.specs.Names.{Around, map_of, type_desc, out_string}
use Rattle.ob_rules.specs.Designators.{if_so, if_extends, on_record, guard_kind, guard_of}

module _ (f g : Map) (same : (q : QName) → g q ≡ f q) where
  alias_same : (t : TypeRef) → alias_of g t ≡ alias_of f t
  alias_same (ref.Basic b) = refl
  alias_same (ref.Named q) = ap target_of (same q)

  pub target_same : (n : ℕ) (t : TypeRef) → target g n t ≡ target f n t
  unfolding target
  target_same zero t = refl
  target_same (suc n) t = ap (λ o. follow o t (λ u. target g n u)) (alias_same t) ∙ go (alias_of f t) (λ u. target_same n u)
    where
      go : (o : Option TypeRef) → ((u : TypeRef) → target g n u ≡ target f n u) → follow o t (λ u. target g n u) ≡ follow o t (λ u. target f n u)
      go None k = refl
      go (Some u) k = k u

  at_same : (t : TypeRef) → shape_at g t ≡ shape_at f t
  at_same (ref.Basic b) = refl
  at_same (ref.Named q) = same q

  shape_same : (t : TypeRef) → shape g t ≡ shape f t
  shape_same t = ap (shape_at g) (target_same 201 t) ∙ at_same (target f 201 t)

  pub pointed_same : (t : TypeRef) → pointed g t ≡ pointed f t
  pointed_same t = ap pointer_of (shape_same t)

  record_same : (t : TypeRef) → record_of g t ≡ record_of f t
  record_same t = ap (λ x. record_at x (shape g t)) (target_same 201 t) ∙ ap (record_at (target f 201 t)) (shape_same t)

  pointed_record_same : (t : TypeRef) → pointed_record g t ≡ pointed_record f t
  pointed_record_same t = ap (record_if g) (pointed_same t) ∙ go (pointed f t)
    where
      go : (o : Option TypeRef) → record_if g o ≡ record_if f o
      go None = refl
      go (Some r) = record_same r

  same_same : (a b : TypeRef) → same_at g a b ≡ same_at f a b
  unfolding same_at
  same_same a b = ap (λ x. type_eq x (target g 201 b)) (target_same 201 a) ∙ ap (type_eq (target f 201 a)) (target_same 201 b)

  climbs_same : (n : ℕ) (a b : TypeRef) → climbs g n a b ≡ climbs f n a b
  unfolding climbs
  climbs_same zero a b = same_same a b
  climbs_same (suc n) a b =
      ap (λ x. x || holds_of (base_of (shape g a)) (λ c. climbs g n c b)) (same_same a b)
      ∙ ap (λ x. same_at f a b || x) (ap (λ o. holds_of (base_of o) (λ c. climbs g n c b)) (shape_same a) ∙ go (base_of (shape f a)) (λ c. climbs_same n c b))
    where
      go : (o : Option TypeRef) → ((c : TypeRef) → climbs g n c b ≡ climbs f n c b) → holds_of o (λ c. climbs g n c b) ≡ holds_of o (λ c. climbs f n c b)
      go None k = refl
      go (Some c) k = k c

  extends_same : (a b : TypeRef) → extends_at g a b ≡ extends_at f a b
  unfolding extends_at
  extends_same a b =
      ap (λ x. x || both (λ s t. climbs g 201 s t) (pointed g a) (pointed g b)) (climbs_same 201 a b)
      ∙ ap (λ x. climbs f 201 a b || x)
      (ap (λ o. both (λ s t. climbs g 201 s t) o (pointed g b)) (pointed_same a) ∙ ap (both (λ s t. climbs g 201 s t) (pointed f a)) (pointed_same b) ∙ go (pointed f a) (pointed f b))
    where
      go : (o p : Option TypeRef) → both (λ s t. climbs g 201 s t) o p ≡ both (λ s t. climbs f 201 s t) o p
      go None None = refl
      go None (Some b) = refl
      go (Some a) None = refl
      go (Some a) (Some b) = climbs_same 201 a b

  if_same : (k : Guarded) (o p : Option QName) → if_extends g k o p ≡ if_extends f k o p
  if_same k None p = refl
  if_same k (Some a) None = refl
  if_same k (Some a) (Some b) = ap (λ c. if_so c (k, b)) (extends_same (ref.Named b) (ref.Named a))

  on_same : (b : Bool) (p : Place) (t : TypeRef) → on_record b g p t ≡ on_record b f p t
  on_same true p t = ap (λ o. if_extends g guarded.Record o (record_of g t)) (record_same p.of) ∙ ap (if_extends g guarded.Record (record_of f p.of)) (record_same t) ∙ if_same guarded.Record (record_of f p.of) (record_of f t)
  on_same false p t = refl

  kind_same : (p : Place) (t : TypeRef) (o : Option QName) → guard_kind g p t o ≡ guard_kind f p t o
  kind_same p t (Some a) = ap (if_extends g guarded.Pointer (Some a)) (pointed_record_same t) ∙ if_same guarded.Pointer (Some a) (pointed_record f t)
  kind_same p t None = on_same p.var_record p t

  pub guard_same : (p : Place) (t : TypeRef) → guard_of g p t ≡ guard_of f p t
  guard_same p t = ap (guard_kind g p t) (pointed_record_same p.of) ∙ kind_same p t (pointed_record f p.of)

  pub held_same : ((t b : TypeRef) → pointed f t ≡ Some b → is_held f b ≡ true) → (t b : TypeRef) → pointed g t ≡ Some b → is_held g b ≡ true
  held_same h t b e = go b (h t b (sym (pointed_same t) ∙ e))
    where
      go : (b : TypeRef) → is_held f b ≡ true → is_held g b ≡ true
      go (ref.Basic x) i = refl
      go (ref.Named q) i = ap is_some (same q) ∙ i

-- guards, and whether a loop stands around, change no map
pub guards_map : (u : Around) (gs : List (Variable × Option TypeRef)) (q : QName) → map_of (record u { guards = gs }) q ≡ map_of u q
guards_map u gs q = go (bytes_eq q.«module» u.unit) (same_name q out_string)
  where
    go : (b c : Bool) → type_desc b c (record u { guards = gs }) q ≡ type_desc b c u q
    go true c = refl
    go false true = refl
    go false false = refl

pub loop_map : (u : Around) (q : QName) → map_of (record u { in_loop = true }) q ≡ map_of u q
loop_map u q = go (bytes_eq q.«module» u.unit) (same_name q out_string)
  where
    go : (b c : Bool) → type_desc b c (record u { in_loop = true }) q ≡ type_desc b c u q
    go true c = refl
    go false true = refl
    go false false = refl
