-- Descriptions that gain bound procedures: what a member was, it stays.
use Rattle.std.proofs.Common.{◌≡◌, ◌⊎◌, inl, inr, ℕ, zero, suc, Bool, true, false, List, [], ◌∷◌, ◌++◌, Option, Some, None, refl, sym, ap, subst, ◌∙◌}
use Rattle.std.specs.Prelude.{bytes_eq, cond}
use Rattle.std.specs.List.{find}
use Rattle.ob_tree.specs.declared.names.QName.{QName}
use Rattle.ob_types.specs.declared.types.TypeRef.{TypeRef}
use Rattle.ob_types.specs.declared.types.TypeRef.TheVariants as ref
use Rattle.ob_types.specs.declared.desc.Desc.{Desc}
use Rattle.ob_types.specs.declared.desc.Desc.TheVariants as desc
use Rattle.ob_types.specs.declared.desc.RecordDesc.{RecordDesc}
use Rattle.ob_types.specs.declared.desc.Field.{Field}
use Rattle.ob_types.specs.declared.desc.Method.{Method}
use Rattle.ob_types.specs.Tests.{target_of, follow, target, shape_at}
use Rattle.ob_rules.specs.Shapes.{Map, Member, AField, AMethod, field_or, own_member, or_in_base, base_type, record_at, record_of, record_if, base_record, member_within, member}

-- the same record type, with more bound procedures
pub record RecordGrows (r s : RecordDesc) : Type 0 where
  pub base : s.base ≡ r.base
  pub fields : s.fields ≡ r.fields
  pub more : List Method
  pub methods : s.methods ≡ r.methods ++ more

pub record Grows (a b : Option Desc) : Type 0 where
  pub r : RecordDesc
  pub s : RecordDesc
  pub was : a ≡ Some (desc.Record r)
  pub is : b ≡ Some (desc.Record s)
  pub grows : RecordGrows r s

abbrev pub DescGrows : Option Desc → Option Desc → Type 0
DescGrows a b = (a ≡ b) ⊎ Grows a b

abbrev pub MapGrows : Map → Map → Type 0
MapGrows f g = (q : QName) → DescGrows (f q) (g q)

-- ---- what a type stands for is the same

alias_same : (a b : Option Desc) → DescGrows a b → target_of a ≡ target_of b
alias_same a b (inl e) = ap target_of e
alias_same a b (inr g) = ap target_of g.was ∙ sym (ap target_of g.is)

base_same : (a b : Option Desc) → DescGrows a b → base_type a ≡ base_type b
base_same a b (inl e) = ap base_type e
base_same a b (inr g) = ap base_type g.was ∙ sym g.grows.base ∙ sym (ap base_type g.is)

record_same : (q : QName) (a b : Option Desc) → DescGrows a b → record_at (ref.Named q) a ≡ record_at (ref.Named q) b
record_same q a b (inl e) = ap (record_at (ref.Named q)) e
record_same q a b (inr g) = ap (record_at (ref.Named q)) g.was ∙ sym (ap (record_at (ref.Named q)) g.is)

follow_same : (o : Option TypeRef) (t : TypeRef) (f g : TypeRef → TypeRef) → ((u : TypeRef) → f u ≡ g u) → follow o t f ≡ follow o t g
follow_same None t f g h = refl
follow_same (Some u) t f g h = h u

target_same : (f g : Map) → MapGrows f g → (n : ℕ) (t : TypeRef) → target f n t ≡ target g n t
unfolding target
target_same f g h zero t = refl
target_same f g h (suc n) (ref.Basic b) = refl
target_same f g h (suc n) (ref.Named q) = follow_same (target_of (f q)) (ref.Named q) (λ u. target f n u) (λ u. target g n u) (target_same f g h n) ∙ ap (λ o. follow o (ref.Named q) (λ u. target g n u)) (alias_same (f q) (g q) (h q))

record_of_at : (f g : Map) → MapGrows f g → (t : TypeRef) → record_at t (shape_at f t) ≡ record_at t (shape_at g t)
record_of_at f g h (ref.Basic b) = refl
record_of_at f g h (ref.Named q) = record_same q (f q) (g q) (h q)

record_of_same : (f g : Map) → MapGrows f g → (t : TypeRef) → record_of f t ≡ record_of g t
record_of_same f g h t = record_of_at f g h (target f 201 t) ∙ ap (λ x. record_at x (shape_at g x)) (target_same f g h 201 t)

record_if_same : (f g : Map) → MapGrows f g → (o : Option TypeRef) → record_if f o ≡ record_if g o
record_if_same f g h None = refl
record_if_same f g h (Some t) = record_of_same f g h t

pub base_record_same : (f g : Map) → MapGrows f g → (q : QName) → base_record f q ≡ base_record g q
base_record_same f g h q = ap (record_if f) (base_same (f q) (g q) (h q)) ∙ record_if_same f g h (base_type (g q))

-- ---- members

abbrev pub IsMethod : Option Member → Type 0
IsMethod None = ⊥
IsMethod (Some (AField q f)) = ⊥
IsMethod (Some (AMethod q m)) = Unit {0}

-- the same, or a bound procedure where there was nothing
abbrev pub StaysOr : Option Member → Option Member → Type 0
StaysOr o p = (o ≡ p) ⊎ ((o ≡ None) × IsMethod p)

find_if : (b : Bool) (m : Method) (o p : Option Method) → ((k : Method) → o ≡ Some k → p ≡ Some k) → (k : Method) → cond b (Some m) o ≡ Some k → cond b (Some m) p ≡ Some k
find_if true m o p h k e = e
find_if false m o p h k e = h k e

find_more : (test : Method → Bool) (ms more : List Method) (k : Method) → find test ms ≡ Some k → find test (ms ++ more) ≡ Some k
find_more test [] more k e = absurd cc
find_more test (m ∷ ms) more k e = find_if (test m) m (find test ms) (find test (ms ++ more)) (find_more test ms more) k e

or_method : (q : QName) (a b : Option Method) → ((k : Method) → a ≡ Some k → b ≡ Some k) → StaysOr (field_or q None a) (field_or q None b)
or_method q (Some m) b h = inl (sym (ap (field_or q None) (h m refl)))
or_method q None None h = inl refl
or_method q None (Some m) h = inr (refl, tt)

or_field : (q : QName) (f : Option Field) (a b : Option Method) → ((k : Method) → a ≡ Some k → b ≡ Some k) → StaysOr (field_or q f a) (field_or q f b)
or_field q (Some f) a b h = inl refl
or_field q None a b h = or_method q a b h

record_member : (q : QName) (x : List ℕ) (r s : RecordDesc) → RecordGrows r s → StaysOr (own_member q (Some (desc.Record r)) x) (own_member q (Some (desc.Record s)) x)
record_member q x r s g =
    let test : Method → Bool = λ m. bytes_eq m.name x in
    let step = or_field q (find (λ (f : Field). bytes_eq f.name x) r.fields) (find test r.methods) (find test (r.methods ++ g.more)) (find_more test r.methods g.more) in
    subst (λ (fs : List Field). StaysOr (own_member q (Some (desc.Record r)) x) (field_or q (find (λ (f : Field). bytes_eq f.name x) fs) (find test s.methods))) (sym g.fields)
    (subst (λ (ms : List Method). StaysOr (own_member q (Some (desc.Record r)) x) (field_or q (find (λ (f : Field). bytes_eq f.name x) r.fields) (find test ms))) (sym g.methods) step)

own_stays : (q : QName) (x : List ℕ) (a b : Option Desc) → DescGrows a b → StaysOr (own_member q a x) (own_member q b x)
own_stays q x a b (inl e) = inl (ap (λ o. own_member q o x) e)
own_stays q x a b (inr g) = subst (λ o. StaysOr (own_member q o x) (own_member q b x)) (sym g.was) (subst (λ o. StaysOr (own_member q (Some (desc.Record g.r)) x) (own_member q o x)) (sym g.is) (record_member q x g.r g.s g.grows))

in_base : (o p : Option Member) (a b : Option QName) (h k : QName → Option Member) → StaysOr o p → a ≡ b → ((q : QName) → IsMethod (h q) → IsMethod (k q)) → IsMethod (or_in_base o a h) → IsMethod (or_in_base p b k)
in_base None p a b h k (inl e) same up i = subst (λ o. IsMethod (or_in_base o b k)) e (subst (λ c. IsMethod (or_in_base None c k)) same (go a i))
  where
    go : (a : Option QName) → IsMethod (or_in_base None a h) → IsMethod (or_in_base None a k)
    go None i = absurd i
    go (Some q) i = up q i
in_base (Some m) p a b h k (inl e) same up i = subst (λ o. IsMethod (or_in_base o b k)) e i
in_base o None a b h k (inr n) same up i = absurd n.1
in_base o (Some (AField q f)) a b h k (inr n) same up i = absurd n.1
in_base o (Some (AMethod q m)) a b h k (inr n) same up i = tt

within_grows : (f g : Map) → MapGrows f g → (n : ℕ) (q : QName) (x : List ℕ) → IsMethod (member_within f n q x) → IsMethod (member_within g n q x)
unfolding member_within
within_grows f g h zero q x i = absurd i
within_grows f g h (suc n) q x i = in_base (own_member q (f q) x) (own_member q (g q) x) (base_record f q) (base_record g q) (λ b. member_within f n b x) (λ b. member_within g n b x) (own_stays q x (f q) (g q) (h q)) (base_record_same f g h q) (λ b. within_grows f g h n b x) i

-- A MEMBER that is a bound procedure stays one.
pub member_grows : (f g : Map) → MapGrows f g → (q : QName) (x : List ℕ) → IsMethod (member f q x) → IsMethod (member g q x)
member_grows f g h q x i = within_grows f g h 201 q x i

-- ---- a record that has no such member gains it

none_own : (o : Option Member) (a : Option QName) (h : QName → Option Member) → or_in_base o a h ≡ None → o ≡ None
none_own None a h e = refl
none_own (Some m) a h e = absurd cc

pub none_within : (f : Map) (n : ℕ) (q : QName) (x : List ℕ) → member_within f (suc n) q x ≡ None → own_member q (f q) x ≡ None
unfolding member_within
none_within f n q x e = none_own (own_member q (f q) x) (base_record f q) (λ b. member_within f n b x) e

pub no_field : (q : QName) (f : Option Field) (m : Option Method) → field_or q f m ≡ None → (f ≡ None) × (m ≡ None)
no_field q None None e = (refl, refl)
no_field q None (Some m) e = absurd cc
no_field q (Some f) m e = absurd cc

last_if : (b : Bool) (m : Method) (o p : Option Method) → (o ≡ None → p ≡ Some m) → (n : Method) → cond b (Some n) o ≡ None → cond b (Some n) p ≡ Some m
last_if true m o p h n e = absurd cc
last_if false m o p h n e = h e

pub find_last : (test : Method → Bool) (ms : List Method) (m : Method) → test m ≡ true → find test ms ≡ None → find test (ms ++ m ∷ []) ≡ Some m
find_last test [] m i e = ap (λ b. cond b (Some m) None) i
find_last test (n ∷ ms) m i e = last_if (test n) m (find test ms) (find test (ms ++ m ∷ [])) (find_last test ms m i) n e

own_within : (g : Map) (n : ℕ) (q : QName) (x : List ℕ) → IsMethod (own_member q (g q) x) → IsMethod (member_within g (suc n) q x)
unfolding member_within
own_within g n q x i = go (own_member q (g q) x) i
  where
    go : (o : Option Member) → IsMethod o → IsMethod (or_in_base o (base_record g q) (λ b. member_within g n b x))
    go None i = absurd i
    go (Some (AField p f)) i = absurd i
    go (Some (AMethod p m)) i = tt

pub member_gained : (f g : Map) (q : QName) (r : RecordDesc) (m : Method) → f q ≡ Some (desc.Record r) → g q ≡ Some (desc.Record (record r { methods = r.methods ++ m ∷ [] })) → (x : List ℕ) → bytes_eq m.name x ≡ true → member f q x ≡ None → IsMethod (member g q x)
member_gained f g q r m was is x named e =
    let test : Method → Bool = λ k. bytes_eq k.name x in
    let none : own_member q (Some (desc.Record r)) x ≡ None = subst (λ o. own_member q o x ≡ None) was (none_within f 200 q x e) in
    let parts = no_field q (find (λ (k : Field). bytes_eq k.name x) r.fields) (find test r.methods) none in
    let there : field_or q (find (λ (k : Field). bytes_eq k.name x) r.fields) (find test (r.methods ++ m ∷ [])) ≡ Some (AMethod q m) = ap (λ k. field_or q k (find test (r.methods ++ m ∷ []))) parts.0 ∙ ap (field_or q None) (find_last test r.methods m named parts.1) in
    own_within g 200 q x (subst (λ o. IsMethod (own_member q o x)) (sym is) (subst IsMethod (sym there) tt))
