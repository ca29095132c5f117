-- Equal types are alike, and the other way round.
use Rattle.std.proofs.Common.{◌≡◌, ℕ, zero, suc, ◌≤◌, Bool, true, false, ◌&&◌, ◌||◌, List, [], ◌∷◌, ◌++◌, Option, Some, None, refl, ap, subst, ◌∙◌, arith}
use Rattle.std.specs.Prelude.{MatchOption, IsTrue}
use Rattle.std.specs.List.{AllByRecursion}
use Rattle.ob_tree.specs.declared.names.QName.{QName}
use Rattle.ob_tree.specs.declared.ident.Mark.{Mark}
use Rattle.ob_types.specs.declared.types.TypeRef.{TypeRef}
use Rattle.ob_types.specs.declared.types.TypeRef.TheVariants as types
use Rattle.ob_types.specs.declared.desc.Desc.{Desc}
use Rattle.ob_types.specs.declared.desc.Desc.TheVariants as desc
use Rattle.ob_types.specs.Maps.{IsHeld, IsWithin, is_type, stands_on, signature_types, listed}
use Rattle.std.specs.Prelude.{map as each}
use Rattle.ob_types.specs.declared.types.Mode.{Mode}
use Rattle.ob_types.specs.declared.types.Mode.TheVariants as mode
use Rattle.ob_types.specs.declared.types.Signature.{Signature}
use Rattle.ob_types.specs.Relations.{StandsFor, SameResult, Equal, are_same, arrays, procedures, EqualParams, no_params, one_more, Matches, IsGrounded}
use Rattle.ob_types.specs.Tests.{target, same_at, shape_at, element_of, signature_of, modes_alike, params_alike, results_alike, parts_alike, shapes_alike, signatures_alike, equal_at}
use Rattle.ob_types.proofs.Targets.{unique, is_target}
use Rattle.ob_types.proofs.Sameness.{at, same_decides}

-- ---- what the tests find

record Opens (map : QName → Option Desc) (u c : TypeRef) : Type 0 where
  q : QName
  m : Mark
  is : u ≡ types.Named q
  has : map q ≡ Some (desc.OpenArray m c)

pub record Calls (map : QName → Option Desc) (u : TypeRef) (s : Signature) : Type 0 where
  pub q : QName
  pub m : Mark
  pub is : u ≡ types.Named q
  pub has : map q ≡ Some (desc.ProcType m s)

inner : {A : Type 0} (x y : A) (o : Option A) → o ≡ Some x → o ≡ Some y → x ≡ y
inner x y o a b = cc

opens_desc : (map : QName → Option Desc) (q : QName) (c : TypeRef) (o : Option Desc) → map q ≡ o → element_of o ≡ Some c → Opens map (types.Named q) c
opens_desc map q c None e is = absurd cc
opens_desc map q c (Some (desc.OpenArray m t)) e is = record { q = q; m = m; is = refl; has = e ∙ ap (λ (x : TypeRef). Some (desc.OpenArray m x)) (inner t c (Some t) refl is) }
opens_desc map q c (Some (desc.Record r)) e is = absurd cc
opens_desc map q c (Some (desc.Const v)) e is = absurd cc
opens_desc map q c (Some (desc.Var m t)) e is = absurd cc
opens_desc map q c (Some (desc.Proc s)) e is = absurd cc
opens_desc map q c (Some (desc.Alias m t)) e is = absurd cc
opens_desc map q c (Some (desc.Array m n t)) e is = absurd cc
opens_desc map q c (Some (desc.Pointer m t)) e is = absurd cc
opens_desc map q c (Some (desc.ProcType m s)) e is = absurd cc

opens : (map : QName → Option Desc) (u c : TypeRef) → element_of (shape_at map u) ≡ Some c → Opens map u c
opens map (types.Basic b) c is = absurd cc
opens map (types.Named q) c is = opens_desc map q c (map q) refl is

calls_desc : (map : QName → Option Desc) (q : QName) (s : Signature) (o : Option Desc) → map q ≡ o → signature_of o ≡ Some s → Calls map (types.Named q) s
calls_desc map q s None e is = absurd cc
calls_desc map q s (Some (desc.ProcType m t)) e is = record { q = q; m = m; is = refl; has = e ∙ ap (λ (x : Signature). Some (desc.ProcType m x)) (inner t s (Some t) refl is) }
calls_desc map q s (Some (desc.Record r)) e is = absurd cc
calls_desc map q s (Some (desc.Const v)) e is = absurd cc
calls_desc map q s (Some (desc.Var m t)) e is = absurd cc
calls_desc map q s (Some (desc.Proc t)) e is = absurd cc
calls_desc map q s (Some (desc.Alias m t)) e is = absurd cc
calls_desc map q s (Some (desc.Array m n t)) e is = absurd cc
calls_desc map q s (Some (desc.OpenArray m t)) e is = absurd cc
calls_desc map q s (Some (desc.Pointer m t)) e is = absurd cc

pub calls : (map : QName → Option Desc) (u : TypeRef) (s : Signature) → signature_of (shape_at map u) ≡ Some s → Calls map u s
calls map (types.Basic b) s is = absurd cc
calls map (types.Named q) s is = calls_desc map q s (map q) refl is

-- ---- lists

all_front : (P : TypeRef → Type 0) (xs ys : List TypeRef) → AllByRecursion P (xs ++ ys) → AllByRecursion P xs
all_front P [] ys all = tt
all_front P (x ∷ xs) ys all = (all.0, all_front P xs ys all.1)

all_back : (P : TypeRef → Type 0) (xs ys : List TypeRef) → AllByRecursion P (xs ++ ys) → AllByRecursion P ys
all_back P [] ys all = all
all_back P (x ∷ xs) ys all = all_back P xs ys all.1

-- the types of parameters
abbrev param_types : List (Mode × TypeRef) → List TypeRef
param_types ps = each (λ p. p.1) ps

pub both_true : (x y : Bool) → (x && y) ≡ true → (x ≡ true) × (y ≡ true)
both_true true y e = (refl, e)
both_true false y e = absurd cc

pub true_both : (x y : Bool) → x ≡ true → y ≡ true → (x && y) ≡ true
true_both true y a b = b
true_both false y a b = absurd cc

modes_is : (k l : Mode) → modes_alike k l ≡ true → k ≡ l
modes_is mode.Value mode.Value e = refl
modes_is mode.Value mode.Var e = absurd cc
modes_is mode.Var mode.Value e = absurd cc
modes_is mode.Var mode.Var e = refl

modes_same : (k : Mode) → modes_alike k k ≡ true
modes_same mode.Value = refl
modes_same mode.Var = refl

params_sound : (map : QName → Option Desc) (f : TypeRef → TypeRef → Bool) → ((a b : TypeRef) → IsHeld map a → IsHeld map b → f a b ≡ true → Equal map a b) → (ps qs : List (Mode × TypeRef)) → AllByRecursion (λ t. IsHeld map t) (param_types ps) → AllByRecursion (λ t. IsHeld map t) (param_types qs) → params_alike f ps qs ≡ true → EqualParams map ps qs
params_sound map f each_is [] [] hp hq e = no_params
params_sound map f each_is [] (q ∷ qs) hp hq e = absurd cc
params_sound map f each_is (p ∷ ps) [] hp hq e = absurd cc
params_sound map f each_is (p ∷ ps) (q ∷ qs) hp hq e =
    let x = both_true (modes_alike p.0 q.0) (f p.1 q.1 && params_alike f ps qs) e in
    let y = both_true (f p.1 q.1) (params_alike f ps qs) x.1 in
    let k : p.0 ≡ q.0 = modes_is p.0 q.0 x.0 in
    subst (λ (l : Mode). EqualParams map (p ∷ ps) ((l, q.1) ∷ qs)) k (one_more (each_is p.1 q.1 hp.0 hq.0 y.0) (params_sound map f each_is ps qs hp.1 hq.1 y.1))

params_complete : (map : QName → Option Desc) (f : TypeRef → TypeRef → Bool) (n : ℕ) → ((a b : TypeRef) → IsHeld map a → IsHeld map b → IsWithin map n a → Equal map a b → f a b ≡ true) → (ps qs : List (Mode × TypeRef)) → AllByRecursion (λ t. IsHeld map t) (param_types ps) → AllByRecursion (λ t. IsHeld map t) (param_types qs) → AllByRecursion (λ t. IsWithin map n t) (param_types ps) → EqualParams map ps qs → params_alike f ps qs ≡ true
params_complete map f n each_is ps qs hp hq w no_params = refl
params_complete map f n each_is ps qs hp hq w (one_more {k = k} {a = a} {b = b} {ps = rs} {qs = ss} e es) =
    true_both (modes_alike k k) (f a b && params_alike f rs ss) (modes_same k) (true_both (f a b) (params_alike f rs ss) (each_is a b hp.0 hq.0 w.0 e) (params_complete map f n each_is rs ss hp.1 hq.1 w.1 es))

results_sound : (map : QName → Option Desc) → IsGrounded map → (r s : Option TypeRef) → AllByRecursion (λ t. IsHeld map t) (listed r) → AllByRecursion (λ t. IsHeld map t) (listed s) → results_alike (λ x y. same_at map x y) r s ≡ true → SameResult map r s
results_sound map grounded None None hr hs e = tt
results_sound map grounded None (Some b) hr hs e = absurd cc
results_sound map grounded (Some a) None hr hs e = absurd cc
results_sound map grounded (Some a) (Some b) hr hs e = (same_decides map grounded a b hr.0 hs.0).0 e

results_complete : (map : QName → Option Desc) → IsGrounded map → (r s : Option TypeRef) → AllByRecursion (λ t. IsHeld map t) (listed r) → AllByRecursion (λ t. IsHeld map t) (listed s) → SameResult map r s → results_alike (λ x y. same_at map x y) r s ≡ true
results_complete map grounded None None hr hs e = refl
results_complete map grounded None (Some b) hr hs e = absurd e
results_complete map grounded (Some a) None hr hs e = absurd e
results_complete map grounded (Some a) (Some b) hr hs e = (same_decides map grounded a b hr.0 hs.0).1 e

-- ---- equal types

or_cases : (x y : Bool) → (x || y) ≡ true → (C : Type 0) → (x ≡ true → C) → (y ≡ true → C) → C
or_cases true y e C one two = one refl
or_cases false y e C one two = two e

or_left : (x y : Bool) → x ≡ true → (x || y) ≡ true
or_left true y e = refl
or_left false y e = absurd cc

or_right : (x y : Bool) → y ≡ true → (x || y) ≡ true
or_right true y e = refl
or_right false y e = e

parts_cases : (f : TypeRef → TypeRef → Bool) (g : Signature → Signature → Bool) (a b : Option TypeRef) (s t : Option Signature) → parts_alike f g a b s t ≡ true → (C : Type 0) → ((x y : TypeRef) → a ≡ Some x → b ≡ Some y → f x y ≡ true → C) → ((x y : Signature) → s ≡ Some x → t ≡ Some y → g x y ≡ true → C) → C
parts_cases f g (Some x) (Some y) s t e C one two = one x y refl refl e
parts_cases f g (Some x) None s t e C one two = absurd cc
parts_cases f g None b (Some x) (Some y) e C one two = two x y refl refl e
parts_cases f g None b (Some x) None e C one two = absurd cc
parts_cases f g None b None t e C one two = absurd cc

shape_is : (map : QName → Option Desc) (u : TypeRef) (q : QName) (d : Desc) → u ≡ types.Named q → map q ≡ Some d → shape_at map u ≡ Some d
shape_is map u q d is has = ap (shape_at map) is ∙ has

pub equal_sound : (map : QName → Option Desc) → IsGrounded map → (n : ℕ) (a b : TypeRef) → IsHeld map a → IsHeld map b → equal_at map n a b ≡ true → Equal map a b
unfolding equal_at
equal_sound map grounded zero a b ha hb e = are_same ((same_decides map grounded a b ha hb).0 e)
equal_sound map grounded (suc n) a b ha hb e =
    let f = λ (x : TypeRef) (y : TypeRef). equal_at map n x y in
    let g = λ (x : TypeRef) (y : TypeRef). same_at map x y in
    let A = shape_at map (target map 201 a) in
    let B = shape_at map (target map 201 b) in
    or_cases (same_at map a b) (shapes_alike f (λ s t. signatures_alike f g s t) A B) e (Equal map a b)
    (λ is. are_same ((same_decides map grounded a b ha hb).0 is))
    (λ is. parts_cases f (λ s t. signatures_alike f g s t) (element_of A) (element_of B) (signature_of A) (signature_of B) is (Equal map a b)
    (λ s t es et alike.
    let x = opens map (target map 201 a) s es in
    let y = opens map (target map 201 b) t et in
    let sa = subst (λ (u : TypeRef). StandsFor map a u) x.is (at map grounded a ha).stands in
    let sb = subst (λ (u : TypeRef). StandsFor map b u) y.is (at map grounded b hb).stands in
    arrays sa x.has sb y.has (equal_sound map grounded n s t (grounded.held x.q (desc.OpenArray x.m s) x.has).0 (grounded.held y.q (desc.OpenArray y.m t) y.has).0 alike))
    (λ s t es et alike.
    let x = calls map (target map 201 a) s es in
    let y = calls map (target map 201 b) t et in
    let sa = subst (λ (u : TypeRef). StandsFor map a u) x.is (at map grounded a ha).stands in
    let sb = subst (λ (u : TypeRef). StandsFor map b u) y.is (at map grounded b hb).stands in
    let hs = grounded.held x.q (desc.ProcType x.m s) x.has in
    let ht = grounded.held y.q (desc.ProcType y.m t) y.has in
    let H = λ (u : TypeRef). IsHeld map u in
    let parts = both_true (params_alike f s.params t.params) (results_alike g s.result t.result) alike in
    procedures sa x.has sb y.has
    (params_sound map f (λ u v hu hv e. equal_sound map grounded n u v hu hv e) s.params t.params (all_front H (param_types s.params) (listed s.result) hs) (all_front H (param_types t.params) (listed t.result) ht) parts.0)
    (results_sound map grounded s.result t.result (all_back H (param_types s.params) (listed s.result) hs) (all_back H (param_types t.params) (listed t.result) ht) parts.1)))

nowhere : (map : QName → Option Desc) (q : QName) → IsWithin map 0 (types.Named q) → ⊥
unfolding IsWithin
nowhere map q h = h

parts_within : (map : QName → Option Desc) (n : ℕ) (q : QName) (d : Desc) → map q ≡ Some d → IsWithin map (suc n) (types.Named q) → AllByRecursion (λ t. IsWithin map n t) (stands_on d)
unfolding IsWithin
parts_within map n q d e h = (subst (λ (o : Option Desc). MatchOption o ⊥ (λ d. IsTrue (is_type d) × AllByRecursion (λ t. IsWithin map n t) (stands_on d))) e h).1

same_equal : (map : QName → Option Desc) (n : ℕ) (a b : TypeRef) → same_at map a b ≡ true → equal_at map n a b ≡ true
unfolding equal_at
same_equal map zero a b e = e
same_equal map (suc n) a b e = or_left (same_at map a b) _ e

alike_equal : (map : QName → Option Desc) (n : ℕ) (a b : TypeRef) (d c : Desc) → shape_at map (target map 201 a) ≡ Some d → shape_at map (target map 201 b) ≡ Some c → shapes_alike (λ x y. equal_at map n x y) (λ s t. signatures_alike (λ x y. equal_at map n x y) (λ x y. same_at map x y) s t) (Some d) (Some c) ≡ true → equal_at map (suc n) a b ≡ true
unfolding equal_at
alike_equal map n a b d c ea eb alike =
    let F = λ (o : Option Desc) (p : Option Desc). shapes_alike (λ x y. equal_at map n x y) (λ s t. signatures_alike (λ x y. equal_at map n x y) (λ x y. same_at map x y) s t) o p in
    or_right (same_at map a b) (F (shape_at map (target map 201 a)) (shape_at map (target map 201 b))) (ap (λ (o : Option Desc). F o (shape_at map (target map 201 b))) ea ∙ ap (λ (p : Option Desc). F (Some d) p) eb ∙ alike)

pub equal_complete : (map : QName → Option Desc) → IsGrounded map → (n : ℕ) (a b : TypeRef) → n ≤ 201 → IsHeld map a → IsHeld map b → IsWithin map n a → Equal map a b → equal_at map n a b ≡ true
equal_complete map grounded n a b le ha hb within (are_same s) = same_equal map n a b ((same_decides map grounded a b ha hb).1 s)
equal_complete map grounded zero a b le ha hb within (arrays {p = p} sa ea sb eb up) =
    let t = is_target map 0 201 a (omega arith) within in
    absurd (nowhere map p (subst (λ (u : TypeRef). IsWithin map 0 u) (unique map t.stands sa) t.within))
equal_complete map grounded zero a b le ha hb within (procedures {p = p} sa ea sb eb ps rs) =
    let t = is_target map 0 201 a (omega arith) within in
    absurd (nowhere map p (subst (λ (u : TypeRef). IsWithin map 0 u) (unique map t.stands sa) t.within))
equal_complete map grounded (suc n) a b le ha hb within (arrays {s = s} {t = t} {p = p} {q = q} {m = m} {k = k} sa ea sb eb up) =
    let x = is_target map (suc n) 201 a le within in
    let is = unique map x.stands sa in
    let below = parts_within map n p (desc.OpenArray m s) ea (subst (λ (u : TypeRef). IsWithin map (suc n) u) is x.within) in
    alike_equal map n a b (desc.OpenArray m s) (desc.OpenArray k t) (shape_is map (target map 201 a) p (desc.OpenArray m s) is ea) (shape_is map (target map 201 b) q (desc.OpenArray k t) (unique map (at map grounded b hb).stands sb) eb)
    (equal_complete map grounded n s t (omega arith) (grounded.held p (desc.OpenArray m s) ea).0 (grounded.held q (desc.OpenArray k t) eb).0 below.0 up)
equal_complete map grounded (suc n) a b le ha hb within (procedures {s = s} {t = t} {p = p} {q = q} {m = m} {k = k} sa ea sb eb ps rs) =
    let x = is_target map (suc n) 201 a le within in
    let is = unique map x.stands sa in
    let below = parts_within map n p (desc.ProcType m s) ea (subst (λ (u : TypeRef). IsWithin map (suc n) u) is x.within) in
    let hs = grounded.held p (desc.ProcType m s) ea in
    let ht = grounded.held q (desc.ProcType k t) eb in
    let H = λ (u : TypeRef). IsHeld map u in
    let small : n ≤ 201 = omega arith in
    let first = params_complete map (λ x y. equal_at map n x y) n (λ u v hu hv w e. equal_complete map grounded n u v small hu hv w e) s.params t.params (all_front H (param_types s.params) (listed s.result) hs) (all_front H (param_types t.params) (listed t.result) ht) (all_front (λ u. IsWithin map n u) (param_types s.params) (listed s.result) below) ps in
    let second = results_complete map grounded s.result t.result (all_back H (param_types s.params) (listed s.result) hs) (all_back H (param_types t.params) (listed t.result) ht) rs in
    alike_equal map n a b (desc.ProcType m s) (desc.ProcType k t) (shape_is map (target map 201 a) p (desc.ProcType m s) is ea) (shape_is map (target map 201 b) q (desc.ProcType k t) (unique map (at map grounded b hb).stands sb) eb)
    (true_both (params_alike (λ x y. equal_at map n x y) s.params t.params) (results_alike (λ x y. same_at map x y) s.result t.result) first second)

-- ---- parameter lists

within_all : (map : QName → Option Desc) → IsGrounded map → (ts : List TypeRef) → AllByRecursion (λ t. IsHeld map t) ts → AllByRecursion (λ t. IsWithin map 201 t) ts
within_all map grounded [] h = tt
within_all map grounded (t ∷ ts) h = (grounded.chains t h.0, within_all map grounded ts h.1)

pub matches_sound : (map : QName → Option Desc) → IsGrounded map → (s t : Signature) → AllByRecursion (λ u. IsHeld map u) (signature_types s) → AllByRecursion (λ u. IsHeld map u) (signature_types t) → signatures_alike (λ x y. equal_at map 201 x y) (λ x y. same_at map x y) s t ≡ true → Matches map s t
matches_sound map grounded s t hs ht e =
    let H = λ (u : TypeRef). IsHeld map u in
    let parts = both_true (params_alike (λ x y. equal_at map 201 x y) s.params t.params) (results_alike (λ x y. same_at map x y) s.result t.result) e in (
      params_sound map (λ x y. equal_at map 201 x y) (λ u v hu hv e. equal_sound map grounded 201 u v hu hv e) s.params t.params (all_front H (param_types s.params) (listed s.result) hs) (all_front H (param_types t.params) (listed t.result) ht) parts.0,
      results_sound map grounded s.result t.result (all_back H (param_types s.params) (listed s.result) hs) (all_back H (param_types t.params) (listed t.result) ht) parts.1,
    )

pub matches_complete : (map : QName → Option Desc) → IsGrounded map → (s t : Signature) → AllByRecursion (λ u. IsHeld map u) (signature_types s) → AllByRecursion (λ u. IsHeld map u) (signature_types t) → Matches map s t → signatures_alike (λ x y. equal_at map 201 x y) (λ x y. same_at map x y) s t ≡ true
matches_complete map grounded s t hs ht e =
    let H = λ (u : TypeRef). IsHeld map u in
    let ps = all_front H (param_types s.params) (listed s.result) hs in
    let le : 201 ≤ 201 = omega arith in
    true_both (params_alike (λ x y. equal_at map 201 x y) s.params t.params) (results_alike (λ x y. same_at map x y) s.result t.result)
    (params_complete map (λ x y. equal_at map 201 x y) 201 (λ u v hu hv w e. equal_complete map grounded 201 u v le hu hv w e) s.params t.params ps (all_front H (param_types t.params) (listed t.result) ht) (within_all map grounded (param_types s.params) ps) e.0)
    (results_complete map grounded s.result t.result (all_back H (param_types s.params) (listed s.result) hs) (all_back H (param_types t.params) (listed t.result) ht) e.1)
