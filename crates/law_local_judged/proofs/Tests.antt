-- Over maps that agree each test of types comes out the same.
use Rattle.std.proofs.Common.{◌≡◌, refl, ap, ◌∙◌, subst, ℕ, zero, suc, List, [], ◌∷◌, ◌++◌, map as each, Option, Some, None, Bool, true, not}
use Rattle.std.specs.Prelude.{◌&&◌, ◌||◌, nat_lt, nat_eq, length, is_some, pos, negsuc}
use Rattle.ob_tree.specs.declared.names.QName.{QName}
use Rattle.ob_types.specs.declared.types.Basic.TheVariants as basic
use Rattle.ob_types.specs.declared.types.Mode.{Mode}
use Rattle.ob_types.specs.declared.types.Mode.TheVariants as mode
use Rattle.ob_types.specs.declared.types.TypeRef.{TypeRef}
use Rattle.ob_types.specs.declared.types.TypeRef.TheVariants as ref
use Rattle.ob_types.specs.declared.types.Signature.{Signature}
use Rattle.ob_types.specs.declared.value.Value.{Value}
use Rattle.ob_types.specs.declared.value.Value.TheVariants as literal
use Rattle.ob_types.specs.declared.desc.Desc.{Desc}
use Rattle.ob_types.specs.declared.desc.Desc.TheVariants as desc
use Rattle.ob_types.specs.declared.typed.Width.{Width}
use Rattle.ob_types.specs.declared.typed.Width.TheVariants as width
use Rattle.ob_types.specs.declared.typed.ExprType.{ExprType}
use Rattle.ob_types.specs.declared.typed.ExprType.TheVariants as kind
use Rattle.ob_types.specs.Maps.{listed}
use Rattle.ob_types.specs.Relations.{is_open as is_open_desc}
use Rattle.ob_types.specs.TypedKinds.{of_width, smallest, constant_type}
use Rattle.ob_types.specs.Assigning.{is_extensible, has_nil}
use Rattle.ob_types.specs.Tests.{target, target_of, alias_of, follow, type_eq, same_at, shape_at, base_of, pointer_of, element_of, signature_of, holds_of, climbs, both, extends_at, results_alike, modes_alike, params_alike, parts_alike, shapes_alike, signatures_alike, equal_at}
use Rattle.ob_types.specs.AssigningTests.{described, is_at, widens, takes_type, takes_kind, has_room, takes_text, takes_constant, alike_to}
use Rattle.ob_rules.specs.Shapes.{Map, Member, shape, as_basic, basic_of, record_at, record_of, pointed, record_if, pointed_record, array_at, array_of, open_at, open_element, is_open, is_array, is_record, signature_at, is_held, by_value, by_var, passing_of, own_member, base_type, base_record, or_in_base, member_within, member}
use Rattle.ob_rules.specs.Values.{takes_value_of, takes_by}
use Rattle.law_local_judged.specs.Agreement.{IsIn, AreIn, DescIn, Agree}
use Rattle.law_local_judged.specs.Said.{SignatureIn, KindIn}
use Rattle.law_local_judged.specs.Laws.{Alike, TypesAgree}
use Rattle.law_local_judged.proofs.Near.{right_in, alias_in, base_in, record_base_in, pointer_in, element_in, array_in, open_in, signature_in}
use Rattle.law_lists.proofs.Lists.{none_some, some_same}

pub two : {A B C : Type 0} {a b : A} {c d : B} (f : A → B → C) → a ≡ b → c ≡ d → f a c ≡ f b d
two {A} {B} {C} {a} {b} {c} {d} f e k = ap (λ x. f x c) e ∙ ap (f b) k

module _ (P : QName → Type 0) (f g : Map) (agree : Agree P f g) where
  abbrev In : TypeRef → Type 0
  In t = IsIn P t

  -- ---- what a type stands for

  alias_same : (t : TypeRef) → In t → alias_of g t ≡ alias_of f t
  alias_same (ref.Basic b) h = refl
  alias_same (ref.Named q) h = ap target_of (agree.same q h)

  alias_within : (t u : TypeRef) → In t → alias_of f t ≡ Some u → In u
  alias_within (ref.Basic b) u h e = none_some e
  alias_within (ref.Named q) u h e = alias_in P (f q) u (agree.near q h) e

  abbrev Reached : ℕ → TypeRef → Type 0
  Reached n t = (target g n t ≡ target f n t) × In (target f n t)

  pub target_same : (n : ℕ) (t : TypeRef) → In t → Reached n t
  unfolding target
  target_same zero t h = (refl, h)
  target_same (suc n) t h = by (alias_of f t) refl (λ u k. target_same n u k)
    where
      by : (o : Option TypeRef) → alias_of f t ≡ o → ((u : TypeRef) → In u → Reached n u) → (follow (alias_of g t) t (λ u. target g n u) ≡ follow (alias_of f t) t (λ u. target f n u)) × In (follow (alias_of f t) t (λ u. target f n u))
      by None e ih = rw (alias_same t h) (rw e (refl, h))
      by (Some u) e ih = rw (alias_same t h) (rw e (ih u (alias_within t u h e)))

  target_is : (t : TypeRef) → In t → target g 201 t ≡ target f 201 t
  target_is t h = (target_same 201 t h).0

  target_in : (t : TypeRef) → In t → In (target f 201 t)
  target_in t h = (target_same 201 t h).1

  at_same : (t : TypeRef) → In t → shape_at g t ≡ shape_at f t
  at_same (ref.Basic b) h = refl
  at_same (ref.Named q) h = agree.same q h

  pub shape_same : (t : TypeRef) → In t → shape g t ≡ shape f t
  shape_same t h = ap (shape_at g) (target_is t h) ∙ at_same (target f 201 t) (target_in t h)

  at_near : (t : TypeRef) → In t → DescIn P (shape_at f t)
  at_near (ref.Basic b) h = tt
  at_near (ref.Named q) h = agree.near q h

  pub shape_in : (t : TypeRef) → In t → DescIn P (shape f t)
  shape_in t h = at_near (target f 201 t) (target_in t h)

  pub held_same : (t : TypeRef) → In t → is_held g t ≡ is_held f t
  held_same (ref.Basic b) h = refl
  held_same (ref.Named q) h = ap (λ o. is_some o) (agree.same q h)

  -- ---- what a type leads to

  pub pointed_in : (t u : TypeRef) → In t → pointed f t ≡ Some u → In u
  pointed_in t u h e = pointer_in P (shape f t) u (shape_in t h) e

  pub elements_in : (t : TypeRef) (a : Option ℕ × TypeRef) → In t → array_of f t ≡ Some a → In a.1
  elements_in t a h e = array_in P (shape f t) a (shape_in t h) e

  pub open_element_in : (t u : TypeRef) → In t → open_element f t ≡ Some u → In u
  open_element_in t u h e = open_in P (shape f t) u (shape_in t h) e

  pub signature_at_in : (t : TypeRef) (s : Signature) → In t → signature_at f t ≡ Some s → SignatureIn P s
  signature_at_in t s h e = signature_in P (shape f t) s (shape_in t h) e

  record_name : (t : TypeRef) (o : Option Desc) (q : QName) → In t → record_at t o ≡ Some q → P q
  record_name (ref.Named p) (Some (desc.Record r)) q h e = subst P (some_same e) h
  record_name (ref.Named p) None q h e = none_some e
  record_name (ref.Named p) (Some (desc.Alias m t)) q h e = none_some e
  record_name (ref.Named p) (Some (desc.Const c)) q h e = none_some e
  record_name (ref.Named p) (Some (desc.Var k t)) q h e = none_some e
  record_name (ref.Named p) (Some (desc.Proc s)) q h e = none_some e
  record_name (ref.Named p) (Some (desc.Array k n t)) q h e = none_some e
  record_name (ref.Named p) (Some (desc.OpenArray k t)) q h e = none_some e
  record_name (ref.Named p) (Some (desc.Pointer k t)) q h e = none_some e
  record_name (ref.Named p) (Some (desc.ProcType k s)) q h e = none_some e
  record_name (ref.Basic b) o q h e = none_some e

  pub record_in : (t : TypeRef) (q : QName) → In t → record_of f t ≡ Some q → P q
  record_in t q h e = record_name (target f 201 t) (shape f t) q (target_in t h) e

  if_in : (o : Option TypeRef) (q : QName) → ((u : TypeRef) → o ≡ Some u → In u) → record_if f o ≡ Some q → P q
  if_in None q h e = none_some e
  if_in (Some t) q h e = record_in t q (h t refl) e

  pub pointed_record_in : (t : TypeRef) (q : QName) → In t → pointed_record f t ≡ Some q → P q
  pointed_record_in t q h e = if_in (pointed f t) q (λ u k. pointed_in t u h k) e

  pub base_record_in : (q b : QName) → P q → base_record f q ≡ Some b → P b
  base_record_in q b h e = if_in (base_type (f q)) b (λ u k. record_base_in P (f q) u (agree.near q h) k) e

  -- ---- records and members

  pub record_same : (t : TypeRef) → In t → record_of g t ≡ record_of f t
  record_same t h = two record_at (target_is t h) (shape_same t h)

  pub pointed_same : (t : TypeRef) → In t → pointed g t ≡ pointed f t
  pointed_same t h = ap (λ o. pointer_of o) (shape_same t h)

  if_same : (o : Option TypeRef) → ((u : TypeRef) → o ≡ Some u → In u) → record_if g o ≡ record_if f o
  if_same None h = refl
  if_same (Some t) h = record_same t (h t refl)

  pub pointed_record_same : (t : TypeRef) → In t → pointed_record g t ≡ pointed_record f t
  pointed_record_same t h = ap (record_if g) (pointed_same t h) ∙ if_same (pointed f t) (λ u k. pointed_in t u h k)

  pub base_same : (q : QName) → P q → base_record g q ≡ base_record f q
  base_same q h = ap (λ o. record_if g (base_type o)) (agree.same q h) ∙ if_same (base_type (f q)) (λ u k. record_base_in P (f q) u (agree.near q h) k)

  within_same : (n : ℕ) (q : QName) (x : List ℕ) → P q → member_within g n q x ≡ member_within f n q x
  unfolding member_within
  within_same zero q x h = refl
  within_same (suc n) q x h =
      two (λ o b. or_in_base (own_member q o x) b (λ b. member_within g n b x)) (agree.same q h) (base_same q h)
      ∙ by (own_member q (f q) x) (base_record f q) (λ b e. base_record_in q b h e) (λ b k. within_same n b x k)
    where
      by : (m : Option Member) (o : Option QName) → ((b : QName) → o ≡ Some b → P b) → ((b : QName) → P b → member_within g n b x ≡ member_within f n b x) → or_in_base m o (λ b. member_within g n b x) ≡ or_in_base m o (λ b. member_within f n b x)
      by (Some m) o k ih = refl
      by None None k ih = refl
      by None (Some b) k ih = ih b (k b refl)

  -- ---- how a parameter is passed

  pub open_same : (t : TypeRef) → In t → is_open g t ≡ is_open f t
  open_same t h = ap (λ o. is_some (open_at o)) (shape_same t h)

  pub is_array_same : (t : TypeRef) → In t → is_array g t ≡ is_array f t
  is_array_same t h = ap (λ o. is_some (array_at o)) (shape_same t h)

  pub is_record_same : (t : TypeRef) → In t → is_record g t ≡ is_record f t
  is_record_same t h = ap (λ o. is_some o) (record_same t h)

  pub passing_same : (m : Mode) (t : TypeRef) → In t → passing_of g m t ≡ passing_of f m t
  passing_same mode.Value t h = two by_value (open_same t h) (two (λ a b. a || b) (is_array_same t h) (is_record_same t h))
  passing_same mode.Var t h = two by_var (open_same t h) (is_record_same t h)

  -- ---- how types stand to each other

  pub same_same : (a b : TypeRef) → In a → In b → same_at g a b ≡ same_at f a b
  unfolding same_at
  same_same a b h k = two type_eq (target_is a h) (target_is b k)

  climbs_same : (n : ℕ) (a b : TypeRef) → In a → In b → climbs g n a b ≡ climbs f n a b
  unfolding climbs
  climbs_same zero a b h k = same_same a b h k
  climbs_same (suc n) a b h k =
      two (λ x y. x || y) (same_same a b h k)
      (ap (λ o. holds_of (base_of o) (λ c. climbs g n c b)) (shape_same a h) ∙ by (base_of (shape f a)) (λ u e. base_in P (shape f a) u (shape_in a h) e) (λ c l. climbs_same n c b l k))
    where
      by : (o : Option TypeRef) → ((u : TypeRef) → o ≡ Some u → In u) → ((c : TypeRef) → In c → climbs g n c b ≡ climbs f n c b) → holds_of o (λ c. climbs g n c b) ≡ holds_of o (λ c. climbs f n c b)
      by None l ih = refl
      by (Some c) l ih = ih c (l c refl)

  both_same : (o p : Option TypeRef) → ((u : TypeRef) → o ≡ Some u → In u) → ((u : TypeRef) → p ≡ Some u → In u) → both (λ s t. climbs g 201 s t) o p ≡ both (λ s t. climbs f 201 s t) o p
  both_same None None h k = refl
  both_same None (Some b) h k = refl
  both_same (Some a) None h k = refl
  both_same (Some a) (Some b) h k = climbs_same 201 a b (h a refl) (k b refl)

  pub extends_same : (a b : TypeRef) → In a → In b → extends_at g a b ≡ extends_at f a b
  unfolding extends_at
  extends_same a b h k =
      two (λ x y. x || y) (climbs_same 201 a b h k)
      (two (λ o p. both (λ s t. climbs g 201 s t) o p) (pointed_same a h) (pointed_same b k) ∙ both_same (pointed f a) (pointed f b) (λ u e. pointed_in a u h e) (λ u e. pointed_in b u k e))

  -- ---- parts that are alike

  abbrev Tests : Type 0
  Tests = TypeRef → TypeRef → Bool

  abbrev SameOn : Tests → Tests → Type 0
  SameOn F G = (a b : TypeRef) → In a → In b → F a b ≡ G a b

  params_same : (F G : Tests) → SameOn F G → (ps qs : List (Mode × TypeRef)) (o p : List TypeRef) → AreIn P (each (λ x. x.1) ps ++ o) → AreIn P (each (λ x. x.1) qs ++ p) → params_alike F ps qs ≡ params_alike G ps qs
  params_same F G s [] [] o p h k = refl
  params_same F G s [] (y ∷ qs) o p h k = refl
  params_same F G s (x ∷ ps) [] o p h k = refl
  params_same F G s (x ∷ ps) (y ∷ qs) o p h k = ap (λ z. modes_alike x.0 y.0 && z) (two (λ a b. a && b) (s x.1 y.1 h.0 k.0) (params_same F G s ps qs o p h.1 k.1))

  results_same : (F G : Tests) → SameOn F G → (a b : Option TypeRef) → AreIn P (listed a) → AreIn P (listed b) → results_alike F a b ≡ results_alike G a b
  results_same F G s None None h k = refl
  results_same F G s None (Some b) h k = refl
  results_same F G s (Some a) None h k = refl
  results_same F G s (Some a) (Some b) h k = s a b h.0 k.0

  pub signatures_same : (F G K L : Tests) → SameOn F G → SameOn K L → (s t : Signature) → SignatureIn P s → SignatureIn P t → signatures_alike F K s t ≡ signatures_alike G L s t
  signatures_same F G K L a b s t h k =
      two (λ x y. x && y) (params_same F G a s.params t.params (listed s.result) (listed t.result) h k)
      (results_same K L b s.result t.result (right_in P (each (λ x. x.1) s.params) (listed s.result) h) (right_in P (each (λ x. x.1) t.params) (listed t.result) k))

  parts_same :
      (F G : Tests) (K L : Signature → Signature → Bool) → SameOn F G → ((s t : Signature) → SignatureIn P s → SignatureIn P t → K s t ≡ L s t)
      → (a b : Option TypeRef) (s t : Option Signature) → ((u : TypeRef) → a ≡ Some u → In u) → ((u : TypeRef) → b ≡ Some u → In u) → ((u : Signature) → s ≡ Some u → SignatureIn P u) → ((u : Signature) → t ≡ Some u → SignatureIn P u)
      → parts_alike F K a b s t ≡ parts_alike G L a b s t
  parts_same F G K L p q (Some a) (Some b) s t ha hb hs ht = p a b (ha a refl) (hb b refl)
  parts_same F G K L p q (Some a) None s t ha hb hs ht = refl
  parts_same F G K L p q None b (Some s) (Some t) ha hb hs ht = q s t (hs s refl) (ht t refl)
  parts_same F G K L p q None b (Some s) None ha hb hs ht = refl
  parts_same F G K L p q None b None t ha hb hs ht = refl

  pub equal_same : (n : ℕ) (a b : TypeRef) → In a → In b → equal_at g n a b ≡ equal_at f n a b
  unfolding equal_at
  equal_same zero a b h k = same_same a b h k
  equal_same (suc n) a b h k = by (λ a b h k. equal_same n a b h k)
    where
      by : SameOn (equal_at g n) (equal_at f n) →
          (same_at g a b || shapes_alike (λ x y. equal_at g n x y) (λ s t. signatures_alike (λ x y. equal_at g n x y) (λ x y. same_at g x y) s t) (shape g a) (shape g b))
          ≡ (same_at f a b || shapes_alike (λ x y. equal_at f n x y) (λ s t. signatures_alike (λ x y. equal_at f n x y) (λ x y. same_at f x y) s t) (shape f a) (shape f b))
      by ih =
          two (λ x y. x || y) (same_same a b h k)
          (two (λ o p. shapes_alike (λ x y. equal_at g n x y) (λ s t. signatures_alike (λ x y. equal_at g n x y) (λ x y. same_at g x y) s t) o p) (shape_same a h) (shape_same b k)
          ∙ parts_same (equal_at g n) (equal_at f n) (λ s t. signatures_alike (λ x y. equal_at g n x y) (λ x y. same_at g x y) s t) (λ s t. signatures_alike (λ x y. equal_at f n x y) (λ x y. same_at f x y) s t) ih
          (λ s t hs ht. signatures_same (equal_at g n) (equal_at f n) (same_at g) (same_at f) ih same_same s t hs ht)
          (element_of (shape f a)) (element_of (shape f b)) (signature_of (shape f a)) (signature_of (shape f b))
          (λ u e. element_in P (shape f a) u (shape_in a h) e) (λ u e. element_in P (shape f b) u (shape_in b k) e)
          (λ u e. signature_in P (shape f a) u (shape_in a h) e) (λ u e. signature_in P (shape f b) u (shape_in b k) e))

  pub matches_same : (s : Signature) (t : Option Signature) → SignatureIn P s → ((u : Signature) → t ≡ Some u → SignatureIn P u) → alike_to g s t ≡ alike_to f s t
  matches_same s None h k = refl
  matches_same s (Some t) h k = signatures_same (equal_at g 201) (equal_at f 201) (same_at g) (same_at f) (equal_same 201) same_same s t h (k t refl)

  -- ---- assignability

  is_at_same : (kind : Desc → Bool) (t : TypeRef) → In t → is_at g kind t ≡ is_at f kind t
  is_at_same kind t h = ap (described kind) (shape_same t h)

  type_taken : (v t : TypeRef) → In v → In t → takes_type g v t ≡ takes_type f v t
  unfolding takes_type
  type_taken v t h k =
      two (λ x y. x || y) (two (λ x y. x && not y) (same_same t v k h) (is_at_same is_open_desc v h))
      (two (λ x y. x || y) (two widens (target_is v h) (target_is t k)) (two (λ x y. x && y) (is_at_same is_extensible v h) (extends_same t v k h)))

  pub kind_taken : (v : TypeRef) (k : ExprType) → In v → KindIn P k → takes_kind g v k ≡ takes_kind f v k
  kind_taken v (kind.Of t) h k = type_taken v t h k
  kind_taken v kind.Nil h k = is_at_same has_nil v h
  kind_taken v kind.Str h k = refl
  kind_taken v (kind.Procedure s) h k = refl
  kind_taken v kind.Nothing h k = refl

  room_same : (o : Option Desc) (n : ℕ) → DescIn P o → has_room g o n ≡ has_room f o n
  room_same (Some (desc.Array m l t)) n h = ap (λ x. nat_lt n l && x) (same_same t (ref.Basic basic.Char) h.0 tt)
  room_same None n h = refl
  room_same (Some (desc.Alias m t)) n h = refl
  room_same (Some (desc.Const c)) n h = refl
  room_same (Some (desc.Var k t)) n h = refl
  room_same (Some (desc.Proc s)) n h = refl
  room_same (Some (desc.OpenArray k t)) n h = refl
  room_same (Some (desc.Pointer k t)) n h = refl
  room_same (Some (desc.ProcType k s)) n h = refl
  room_same (Some (desc.Record r)) n h = refl

  text_taken : (v : TypeRef) (n : ℕ) → In v → takes_text g v n ≡ takes_text f v n
  unfolding takes_text
  text_taken v n h = ap (λ o. has_room g o n) (shape_same v h) ∙ room_same (shape f v) n (shape_in v h)

  width_in : (w : Width) → KindIn P (of_width w)
  width_in width.ShortInt = tt
  width_in width.Integer = tt
  width_in width.LongInt = tt

  pub constant_in : (c : Value) → KindIn P (constant_type c)
  constant_in (literal.Bool b) = tt
  constant_in (literal.Char c) = tt
  constant_in (literal.Int (pos n)) = width_in (smallest n)
  constant_in (literal.Int (negsuc n)) = width_in (smallest n)
  constant_in (literal.Set s) = tt
  constant_in (literal.Str s) = tt
  constant_in literal.Nil = tt

  constant_taken : (v : TypeRef) (c : Value) → In v → takes_constant g v c ≡ takes_constant f v c
  constant_taken v (literal.Str text) h = two (λ x y. x || (nat_eq (length text) 1 && y)) (text_taken v (length text) h) (type_taken v (ref.Basic basic.Char) h tt)
  constant_taken v (literal.Char c) h = two (λ x y. x || y) (text_taken v 1 h) (type_taken v (ref.Basic basic.Char) h tt)
  constant_taken v (literal.Bool b) h = kind_taken v (constant_type (literal.Bool b)) h (constant_in (literal.Bool b))
  constant_taken v (literal.Int z) h = kind_taken v (constant_type (literal.Int z)) h (constant_in (literal.Int z))
  constant_taken v (literal.Set s) h = kind_taken v (constant_type (literal.Set s)) h (constant_in (literal.Set s))
  constant_taken v literal.Nil h = kind_taken v (constant_type literal.Nil) h (constant_in literal.Nil)

  value_taken : (v : TypeRef) (k : ExprType) → In v → KindIn P k → takes_value_of g v k ≡ takes_value_of f v k
  value_taken v (kind.Procedure s) h k = ap (alike_to g s) (ap (λ o. signature_of o) (shape_same v h)) ∙ matches_same s (signature_at f v) k (λ u e. signature_at_in v u h e)
  value_taken v (kind.Of t) h k = kind_taken v (kind.Of t) h k
  value_taken v kind.Nil h k = kind_taken v kind.Nil h k
  value_taken v kind.Str h k = refl
  value_taken v kind.Nothing h k = refl

  pub taken_same : (v : TypeRef) (c : Option Value) (k : ExprType) → In v → KindIn P k → takes_by g v c k ≡ takes_by f v c k
  taken_same v (Some c) k h l = constant_taken v c h
  taken_same v None k h l = value_taken v k h l

  pub target_basics : (t : TypeRef) → In t → basic_of g t ≡ basic_of f t
  target_basics t h = ap as_basic (target_is t h)

  pub array_same : (t : TypeRef) → In t → array_of g t ≡ array_of f t
  array_same t h = ap (λ o. array_at o) (shape_same t h)

  pub signature_same : (t : TypeRef) → In t → signature_at g t ≡ signature_at f t
  signature_same t h = ap (λ o. signature_of o) (shape_same t h)

  pub member_same : (q : QName) (x : List ℕ) → P q → member g q x ≡ member f q x
  member_same q x h = within_same 201 q x h

  pub alike : Alike P f g
  alike = record {
    targets = target_is;
    shapes = shape_same;
    basics = target_basics;
    held = held_same;
    pointers = pointed_same;
    arrays = array_same;
    signatures = signature_same;
    records = record_same;
    pointed_records = pointed_record_same;
    passings = passing_same;
    bases = base_same;
    members = member_same;
    sames = same_same;
    extensions = extends_same;
    equals = equal_same;
    matches = matches_same;
    taken = taken_same;
  }

pub types_agree : TypesAgree
types_agree names f g agree = alike (λ q. names q ≡ true) f g agree
