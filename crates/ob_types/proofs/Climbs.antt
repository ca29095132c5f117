-- A record extends what the chain of its bases comes to.
use Rattle.std.proofs.Common.{◌≡◌, ℕ, zero, suc, ◌≤◌, ◌<◌, ◌+◌, ◌-◌, Bool, true, false, ◌||◌, List, ◌++◌, Option, Some, None, refl, sym, ap, subst, ◌∙◌, arith}
use Rattle.std.specs.Prelude.{MatchOption, IfSome, IsTrue}
use Rattle.std.specs.List.{AllByRecursion}
use Rattle.ob_tree.specs.declared.names.QName.{QName}
use Rattle.ob_tree.specs.declared.ident.Mark.{Mark}
use Rattle.ob_types.specs.declared.types.TypeRef.{TypeRef}
use Rattle.ob_types.specs.declared.types.TypeRef.TheVariants as types
use Rattle.ob_types.specs.declared.desc.Desc.{Desc}
use Rattle.ob_types.specs.declared.desc.Desc.TheVariants as desc
use Rattle.ob_types.specs.declared.desc.RecordDesc.{RecordDesc}
use Rattle.ob_types.specs.Maps.{IsHeld, IsWithin, is_type, stands_on, listed}
use Rattle.ob_types.specs.Relations.{StandsFor, Extends, same, base, pointers, Is, is_record, is_structure, IsGrounded}
use Rattle.ob_types.specs.Tests.{target, same_at, shape_at, base_of, pointer_of, holds_of, climbs, both, extends_at}
use Rattle.ob_types.proofs.Targets.{unique, is_target}
use Rattle.ob_types.proofs.Sameness.{at, same_decides}

-- ---- the loop

pub here : (map : QName → Option Desc) (n : ℕ) (a b : TypeRef) → same_at map a b ≡ true → climbs map n a b ≡ true
unfolding climbs
here map zero a b e = e
here map (suc n) a b e = rw e refl

pub stuck : (map : QName → Option Desc) (i : ℕ) (a b : TypeRef) (w : Bool) → i < 201 → same_at map a b ≡ false → base_of (shape_at map (target map 201 a)) ≡ None → climbs map (201 - i) a b ≡ w → false ≡ w
unfolding climbs
stuck map i a b w lt e none so_far =
    let k : 201 - i ≡ suc (201 - (i + 1)) = omega arith in
    let one : climbs map (201 - i) a b ≡ false = ap (λ (n : ℕ). climbs map n a b) k ∙ ap (λ (v : Bool). v || holds_of (base_of (shape_at map (target map 201 a))) (λ c. climbs map (201 - (i + 1)) c b)) e ∙ ap (λ (o : Option TypeRef). holds_of o (λ c. climbs map (201 - (i + 1)) c b)) none in
    sym one ∙ so_far

pub onward : (map : QName → Option Desc) (i : ℕ) (a b c : TypeRef) (w : Bool) → i < 201 → same_at map a b ≡ false → base_of (shape_at map (target map 201 a)) ≡ Some c → climbs map (201 - i) a b ≡ w → climbs map (201 - (i + 1)) c b ≡ w
unfolding climbs
onward map i a b c w lt e is so_far =
    let k : 201 - i ≡ suc (201 - (i + 1)) = omega arith in
    let one : climbs map (201 - i) a b ≡ climbs map (201 - (i + 1)) c b = ap (λ (n : ℕ). climbs map n a b) k ∙ ap (λ (v : Bool). v || holds_of (base_of (shape_at map (target map 201 a))) (λ c. climbs map (201 - (i + 1)) c b)) e ∙ ap (λ (o : Option TypeRef). holds_of o (λ c. climbs map (201 - (i + 1)) c b)) is in
    sym one ∙ so_far

pub last : (map : QName → Option Desc) (i : ℕ) (a b : TypeRef) (w : Bool) → 201 ≤ i → climbs map (201 - i) a b ≡ w → same_at map a b ≡ w
unfolding climbs
last map i a b w le so_far =
    let k : 201 - i ≡ 0 = omega arith in
    sym (ap (λ (n : ℕ). climbs map n a b) k) ∙ so_far

-- ---- what the tests find

record Based (map : QName → Option Desc) (u c : TypeRef) : Type 0 where
  q : QName
  r : RecordDesc
  is : u ≡ types.Named q
  has : map q ≡ Some (desc.Record r)
  base : r.base ≡ Some c

based_desc : (map : QName → Option Desc) (q : QName) (c : TypeRef) (o : Option Desc) → map q ≡ o → base_of o ≡ Some c → Based map (types.Named q) c
based_desc map q c None e is = absurd cc
based_desc map q c (Some (desc.Record r)) e is = record { q = q; r = r; is = refl; has = e; base = is }
based_desc map q c (Some (desc.Const v)) e is = absurd cc
based_desc map q c (Some (desc.Var m t)) e is = absurd cc
based_desc map q c (Some (desc.Proc s)) e is = absurd cc
based_desc map q c (Some (desc.Alias m t)) e is = absurd cc
based_desc map q c (Some (desc.Array m n t)) e is = absurd cc
based_desc map q c (Some (desc.OpenArray m t)) e is = absurd cc
based_desc map q c (Some (desc.Pointer m t)) e is = absurd cc
based_desc map q c (Some (desc.ProcType m s)) e is = absurd cc

based : (map : QName → Option Desc) (u c : TypeRef) → base_of (shape_at map u) ≡ Some c → Based map u c
based map (types.Basic b) c is = absurd cc
based map (types.Named q) c is = based_desc map q c (map q) refl is

record Points (map : QName → Option Desc) (u c : TypeRef) : Type 0 where
  q : QName
  m : Mark
  is : u ≡ types.Named q
  has : map q ≡ Some (desc.Pointer m c)

inner : {A : Type 0} (x y : A) (o : Option A) → o ≡ Some x → o ≡ Some y → x ≡ y
inner x y o a b = cc

points_desc : (map : QName → Option Desc) (q : QName) (c : TypeRef) (o : Option Desc) → map q ≡ o → pointer_of o ≡ Some c → Points map (types.Named q) c
points_desc map q c None e is = absurd cc
points_desc map q c (Some (desc.Pointer m t)) e is = record { q = q; m = m; is = refl; has = e ∙ ap (λ (x : TypeRef). Some (desc.Pointer m x)) (inner t c (Some t) refl is) }
points_desc map q c (Some (desc.Record r)) e is = absurd cc
points_desc map q c (Some (desc.Const v)) e is = absurd cc
points_desc map q c (Some (desc.Var m t)) e is = absurd cc
points_desc map q c (Some (desc.Proc s)) e is = absurd cc
points_desc map q c (Some (desc.Alias m t)) e is = absurd cc
points_desc map q c (Some (desc.Array m n t)) e is = absurd cc
points_desc map q c (Some (desc.OpenArray m t)) e is = absurd cc
points_desc map q c (Some (desc.ProcType m s)) e is = absurd cc

points : (map : QName → Option Desc) (u c : TypeRef) → pointer_of (shape_at map u) ≡ Some c → Points map u c
points map (types.Basic b) c is = absurd cc
points map (types.Named q) c is = points_desc map q c (map q) refl is

-- ---- facts of a grounded map

front_of : (P : TypeRef → Type 0) (c : TypeRef) (o : Option TypeRef) (xs ys : List TypeRef) → o ≡ Some c → AllByRecursion P ((listed o ++ xs) ++ ys) → P c
front_of P c None xs ys e all = absurd cc
front_of P c (Some x) xs ys e all = subst P (inner x c (Some x) refl e) all.0

front_in : (P : TypeRef → Type 0) (c : TypeRef) (o : Option TypeRef) (xs : List TypeRef) → o ≡ Some c → AllByRecursion P (listed o ++ xs) → P c
front_in P c None xs e all = absurd cc
front_in P c (Some x) xs e all = subst P (inner x c (Some x) refl e) all.0

some_fact : (P : TypeRef → Type 0) (c : TypeRef) (o : Option TypeRef) → o ≡ Some c → IfSome o P → P c
some_fact P c None e h = absurd cc
some_fact P c (Some x) e h = subst P (inner x c (Some x) refl e) h

base_held : (map : QName → Option Desc) → IsGrounded map → (q : QName) (r : RecordDesc) (c : TypeRef) → map q ≡ Some (desc.Record r) → r.base ≡ Some c → IsHeld map c
base_held map grounded q r c e is = front_of (λ t. IsHeld map t) c r.base _ _ is (grounded.held q (desc.Record r) e)

base_within : (map : QName → Option Desc) (n : ℕ) (q : QName) (r : RecordDesc) (c : TypeRef) → map q ≡ Some (desc.Record r) → r.base ≡ Some c → IsWithin map (suc n) (types.Named q) → IsWithin map n c
unfolding IsWithin
base_within map n q r c e is h =
    let at_q = subst (λ (o : Option Desc). MatchOption o ⊥ (λ d. IsTrue (is_type d) × AllByRecursion (λ t. IsWithin map n t) (stands_on d))) e h in
    front_in (λ t. IsWithin map n t) c r.base _ is at_q.1

-- no pointer
pub NoPointer : (QName → Option Desc) → TypeRef → Type 0
NoPointer map t = (q : QName) (m : Mark) (s : TypeRef) → StandsFor map t (types.Named q) → map q ≡ Some (desc.Pointer m s) → ⊥

name_is : (p q : QName) → types.Named p ≡ types.Named q → p ≡ q
name_is p q e = cc

no_pointer : (map : QName → Option Desc) (kind : Desc → Bool) → ((m : Mark) (s : TypeRef) → kind (desc.Pointer m s) ≡ false) → (t : TypeRef) → Is map kind t → NoPointer map t
unfolding NoPointer
no_pointer map kind never t is q m s stands has =
    let one : is.0 ≡ q = name_is is.0 q (unique map is.1.0 stands) in
    let at_q = subst (λ (p : QName). MatchOption (map p) ⊥ (λ d. IsTrue (kind d))) one is.1.1 in
    let at_s : IsTrue (kind (desc.Pointer m s)) = subst (λ (o : Option Desc). MatchOption o ⊥ (λ d. IsTrue (kind d))) has at_q in
    absurd (let bad : true ≡ false = sym at_s ∙ never m s in cc)

base_no_pointer : (map : QName → Option Desc) → IsGrounded map → (q : QName) (r : RecordDesc) (c : TypeRef) → map q ≡ Some (desc.Record r) → r.base ≡ Some c → NoPointer map c
base_no_pointer map grounded q r c e is =
    let k = grounded.keeps q (desc.Record r) e in
    no_pointer map is_record (λ m s. refl) c (some_fact (λ t. Is map is_record t) c r.base is k.0)

record_no_pointer : (map : QName → Option Desc) (a : TypeRef) (q : QName) (r : RecordDesc) → StandsFor map a (types.Named q) → map q ≡ Some (desc.Record r) → NoPointer map a
unfolding NoPointer
record_no_pointer map a q r stands e p m s other has =
    let one : q ≡ p = name_is q p (unique map stands other) in
    let both_are : Some (desc.Record r) ≡ Some (desc.Pointer m s) = sym e ∙ ap map one ∙ has in
    absurd cc

-- ---- climbing

pub or_cases : (x y : Bool) → (x || y) ≡ true → (C : Type 0) → (x ≡ true → C) → (y ≡ true → C) → C
or_cases true y e C one two = one refl
or_cases false y e C one two = two e

pub or_left : (x y : Bool) → x ≡ true → (x || y) ≡ true
or_left true y e = refl
or_left false y e = absurd cc

pub or_right : (x y : Bool) → y ≡ true → (x || y) ≡ true
or_right true y e = refl
or_right false y e = e

holds_some : (o : Option TypeRef) (f : TypeRef → Bool) → holds_of o f ≡ true → (c : TypeRef) × ((o ≡ Some c) × (f c ≡ true))
holds_some None f e = absurd cc
holds_some (Some c) f e = (c, (refl, e))

pub climbs_sound : (map : QName → Option Desc) → IsGrounded map → (n : ℕ) (a b : TypeRef) → IsHeld map a → IsHeld map b → climbs map n a b ≡ true → Extends map a b
unfolding climbs
climbs_sound map grounded zero a b ha hb e = same ((same_decides map grounded a b ha hb).0 e)
climbs_sound map grounded (suc n) a b ha hb e =
    or_cases (same_at map a b) (holds_of (base_of (shape_at map (target map 201 a))) (λ c. climbs map n c b)) e (Extends map a b)
    (λ is. same ((same_decides map grounded a b ha hb).0 is))
    (λ is.
    let h = holds_some (base_of (shape_at map (target map 201 a))) (λ c. climbs map n c b) is in
    let x = based map (target map 201 a) h.0 h.1.0 in
    let stands = subst (λ (u : TypeRef). StandsFor map a u) x.is (at map grounded a ha).stands in
    base stands x.has x.base (climbs_sound map grounded n h.0 b (base_held map grounded x.q x.r h.0 x.has x.base) hb h.1.1))

pub shape_is : (map : QName → Option Desc) (u : TypeRef) (q : QName) (d : Desc) → u ≡ types.Named q → map q ≡ Some d → shape_at map u ≡ Some d
shape_is map u q d is has = ap (shape_at map) is ∙ has

climb_step : (map : QName → Option Desc) (n : ℕ) (a b c : TypeRef) (q : QName) (r : RecordDesc) → target map 201 a ≡ types.Named q → map q ≡ Some (desc.Record r) → r.base ≡ Some c → climbs map n c b ≡ true → climbs map (suc n) a b ≡ true
unfolding climbs
climb_step map n a b c q r is has be up =
    let found : base_of (shape_at map (target map 201 a)) ≡ Some c = ap base_of (shape_is map (target map 201 a) q (desc.Record r) is has) ∙ be in
    or_right (same_at map a b) (holds_of (base_of (shape_at map (target map 201 a))) (λ c. climbs map n c b)) (ap (λ (o : Option TypeRef). holds_of o (λ c. climbs map n c b)) found ∙ up)

nowhere : (map : QName → Option Desc) (q : QName) → IsWithin map 0 (types.Named q) → ⊥
unfolding IsWithin
nowhere map q h = h

pub climbs_complete : (map : QName → Option Desc) → IsGrounded map → (n : ℕ) (a b : TypeRef) → n ≤ 201 → IsHeld map a → IsHeld map b → IsWithin map n a → NoPointer map a → Extends map a b → climbs map n a b ≡ true
unfolding NoPointer
climbs_complete map grounded n a b le ha hb within plain (same s) = here map n a b ((same_decides map grounded a b ha hb).1 s)
climbs_complete map grounded zero a b le ha hb within plain (base {q = q} st has be up) =
    let t = is_target map 0 201 a (omega arith) within in
    absurd (nowhere map q (subst (λ (u : TypeRef). IsWithin map 0 u) (unique map t.stands st) t.within))
climbs_complete map grounded (suc n) a b le ha hb within plain (base {c = c} {q = q} {r = r} st has be up) =
    let t = is_target map (suc n) 201 a le within in
    let is = unique map t.stands st in
    let below = base_within map n q r c has be (subst (λ (u : TypeRef). IsWithin map (suc n) u) is t.within) in
    climb_step map n a b c q r is has be (climbs_complete map grounded n c b (omega arith) (base_held map grounded q r c has be) hb below (base_no_pointer map grounded q r c has be) up)
climbs_complete map grounded n a b le ha hb within plain (pointers {s = s} {p = p} {m = m} sa ea sb eb up) = absurd (plain p m s sa ea)

-- ---- extension

both_some : (f : TypeRef → TypeRef → Bool) (x y : Option TypeRef) → both f x y ≡ true → (s : TypeRef) × ((t : TypeRef) × ((x ≡ Some s) × ((y ≡ Some t) × (f s t ≡ true))))
both_some f None None e = absurd cc
both_some f None (Some t) e = absurd cc
both_some f (Some s) None e = absurd cc
both_some f (Some s) (Some t) e = (s, (t, (refl, (refl, e))))

pointed_held : (map : QName → Option Desc) → IsGrounded map → (q : QName) (m : Mark) (s : TypeRef) → map q ≡ Some (desc.Pointer m s) → IsHeld map s
pointed_held map grounded q m s e = (grounded.held q (desc.Pointer m s) e).0

pub extends_sound : (map : QName → Option Desc) → IsGrounded map → (a b : TypeRef) → IsHeld map a → IsHeld map b → extends_at map a b ≡ true → Extends map a b
unfolding extends_at
extends_sound map grounded a b ha hb e =
    or_cases (climbs map 201 a b) (both (λ s t. climbs map 201 s t) (pointer_of (shape_at map (target map 201 a))) (pointer_of (shape_at map (target map 201 b)))) e (Extends map a b)
    (λ is. climbs_sound map grounded 201 a b ha hb is)
    (λ is.
    let h = both_some (λ s t. climbs map 201 s t) (pointer_of (shape_at map (target map 201 a))) (pointer_of (shape_at map (target map 201 b))) is in
    let x = points map (target map 201 a) h.0 h.1.1.0 in
    let y = points map (target map 201 b) h.1.0 h.1.1.1.0 in
    let sa = subst (λ (u : TypeRef). StandsFor map a u) x.is (at map grounded a ha).stands in
    let sb = subst (λ (u : TypeRef). StandsFor map b u) y.is (at map grounded b hb).stands in
    pointers sa x.has sb y.has (climbs_sound map grounded 201 h.0 h.1.0 (pointed_held map grounded x.q x.m h.0 x.has) (pointed_held map grounded y.q y.m h.1.0 y.has) h.1.1.1.1))

pub extends_complete : (map : QName → Option Desc) → IsGrounded map → (a b : TypeRef) → IsHeld map a → IsHeld map b → Extends map a b → extends_at map a b ≡ true
unfolding extends_at
extends_complete map grounded a b ha hb (same s) = or_left (climbs map 201 a b) _ (here map 201 a b ((same_decides map grounded a b ha hb).1 s))
extends_complete map grounded a b ha hb (base {q = q} {r = r} st has be up) =
    or_left (climbs map 201 a b) _ (climbs_complete map grounded 201 a b (omega arith) ha hb (grounded.chains a ha) (record_no_pointer map a q r st has) (base st has be up))
extends_complete map grounded a b ha hb (pointers {s = s} {t = t} {p = p} {q = q} {m = m} {k = k} sa ea sb eb up) =
    let x : pointer_of (shape_at map (target map 201 a)) ≡ Some s = ap pointer_of (shape_is map (target map 201 a) p (desc.Pointer m s) (unique map (at map grounded a ha).stands sa) ea) in
    let y : pointer_of (shape_at map (target map 201 b)) ≡ Some t = ap pointer_of (shape_is map (target map 201 b) q (desc.Pointer k t) (unique map (at map grounded b hb).stands sb) eb) in
    let hs = pointed_held map grounded p m s ea in
    let ht = pointed_held map grounded q k t eb in
    let plain = no_pointer map is_structure (λ m s. refl) s (grounded.keeps p (desc.Pointer m s) ea) in
    let inside = climbs_complete map grounded 201 s t (omega arith) hs ht (grounded.chains s hs) plain up in
    or_right (climbs map 201 a b) _ (ap (λ (o : Option TypeRef). both (λ s t. climbs map 201 s t) o (pointer_of (shape_at map (target map 201 b)))) x ∙ ap (λ (o : Option TypeRef). both (λ s t. climbs map 201 s t) (Some s) o) y ∙ inside)
