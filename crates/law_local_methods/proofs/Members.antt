-- Members of records while procedures are bound to them.
use Rattle.std.proofs.Common.{◌≡◌, refl, sym, ap, ◌∙◌, subst, ℕ, zero, suc, ◌+◌, Bool, true, false, List, [], ◌∷◌, ◌++◌, Option, Some, None, cond, arith}
use Rattle.std.specs.Prelude.{bytes_eq}
use Rattle.std.specs.List.{find}
use Rattle.std.proofs.lemmas.Slice.Eq.{bytes_eq-Decides}
use Rattle.ob_tree.specs.declared.names.QName.{QName}
use Rattle.ob_types.specs.declared.types.TypeRef.{TypeRef}
use Rattle.ob_types.specs.declared.types.TypeRef.TheVariants as ref
use Rattle.ob_types.specs.declared.desc.Desc.{Desc}
use Rattle.ob_types.specs.declared.desc.Desc.TheVariants as desc
use Rattle.ob_types.specs.declared.desc.Field.{Field}
use Rattle.ob_types.specs.declared.desc.Method.{Method}
use Rattle.ob_types.specs.declared.desc.RecordDesc.{RecordDesc}
use Rattle.ob_types.specs.declared.typed.TypedType.{TypedType}
use Rattle.ob_types.specs.Tests.{target_of, alias_of, follow, target, shape_at}
use Rattle.ob_rules.specs.Shapes.{Map, Member, AField, AMethod, shape, record_at, record_of, record_if, same_name, field_or, own_member, base_type, base_record, or_in_base, member_within, member}
use Rattle.ob_rules.specs.Names.{Around, map_of, own_desc, type_desc, out_string}
use Rattle.ob_rules.specs.Headings.{with_method, change_desc, changed_if, change_type}
use Rattle.law_local_methods.specs.Laws.{with_own, MembersStay}
use Rattle.law_lists.proofs.Lists.{none_some}

-- what a name stands for is the same, or it is the record with one more procedure
pub data Same (f g : Map) (owner : QName) (m : Method) (q : QName) : Type 0 where
  same : g q ≡ f q → Same f g owner m q
  more : (r : RecordDesc) → f q ≡ Some (desc.Record r) → g q ≡ Some (desc.Record (with_method r m)) → q ≡ owner → Same f g owner m q

module _ (f g : Map) (owner : QName) (m : Method) (all : (q : QName) → Same f g owner m q) (none : member f owner m.name ≡ None) where
  -- ---- bases are the same

  alias_by : (q : QName) → Same f g owner m q → target_of (g q) ≡ target_of (f q)
  alias_by q (same e) = ap target_of e
  alias_by q (more r e h i) = ap target_of h ∙ sym (ap target_of e)

  alias_same : (t : TypeRef) → alias_of g t ≡ alias_of f t
  alias_same (ref.Basic b) = refl
  alias_same (ref.Named q) = alias_by q (all q)

  target_same : (n : ℕ) (t : TypeRef) → target g n t ≡ target f n t
  unfolding target
  target_same zero t = refl
  target_same (suc n) t = ap (λ o. follow o t (λ u. target g n u)) (alias_same t) ∙ go (alias_of f t) (λ u. target_same n u)
    where
      go : (o : Option TypeRef) → ((u : TypeRef) → target g n u ≡ target f n u) → follow o t (λ u. target g n u) ≡ follow o t (λ u. target f n u)
      go None k = refl
      go (Some u) k = k u

  at_by : (t : TypeRef) (q : QName) → Same f g owner m q → record_at t (g q) ≡ record_at t (f q)
  at_by t q (same e) = ap (record_at t) e
  at_by (ref.Named p) q (more r e h i) = ap (record_at (ref.Named p)) h ∙ sym (ap (record_at (ref.Named p)) e)
  at_by (ref.Basic b) q (more r e h i) = ap (record_at (ref.Basic b)) h ∙ sym (ap (record_at (ref.Basic b)) e)

  at_same : (t : TypeRef) → record_at t (shape_at g t) ≡ record_at t (shape_at f t)
  at_same (ref.Basic b) = refl
  at_same (ref.Named q) = at_by (ref.Named q) q (all q)

  record_same : (t : TypeRef) → record_of g t ≡ record_of f t
  record_same t = ap (λ x. record_at x (shape_at g x)) (target_same 201 t) ∙ at_same (target f 201 t)

  if_same : (o : Option TypeRef) → record_if g o ≡ record_if f o
  if_same None = refl
  if_same (Some t) = record_same t

  base_by : (q : QName) → Same f g owner m q → base_type (g q) ≡ base_type (f q)
  base_by q (same e) = ap base_type e
  base_by q (more r e h i) = ap base_type h ∙ sym (ap base_type e)

  base_same : (q : QName) → base_record g q ≡ base_record f q
  base_same q = ap (record_if g) (base_by q (all q)) ∙ if_same (base_type (f q))

  -- ---- more bases find no less

  grows : (k n : ℕ) (q : QName) (x : List ℕ) (r : Member) → member_within f n q x ≡ Some r → member_within f (n + k) q x ≡ Some r
  unfolding member_within
  grows k zero q x r e = none_some e
  grows k (suc n) q x r e =
      let more : suc n + k ≡ suc (n + k) = omega arith in
      subst (λ z. member_within f z q x ≡ Some r) (sym more) (go (own_member q (f q) x) (base_record f q) (λ b h. grows k n b x r h) e)
    where
      go : (o : Option Member) (p : Option QName) → ((b : QName) → member_within f n b x ≡ Some r → member_within f (n + k) b x ≡ Some r) → or_in_base o p (λ b. member_within f n b x) ≡ Some r → or_in_base o p (λ b. member_within f (n + k) b x) ≡ Some r
      go (Some s) p h e = e
      go None None h e = none_some e
      go None (Some b) h e = h b e

  -- ---- one procedure more

  found_last : (x : List ℕ) (ms : List Method) → bytes_eq m.name x ≡ false → find (λ (k : Method). bytes_eq k.name x) (ms ++ m ∷ []) ≡ find (λ (k : Method). bytes_eq k.name x) ms
  found_last x [] e = ap (λ b. cond b (Some m) None) e
  found_last x (k ∷ ms) e = ap (λ o. cond (bytes_eq k.name x) (Some k) o) (found_last x ms e)

  own_more : (q : QName) (r : RecordDesc) (x : List ℕ) → bytes_eq m.name x ≡ false → own_member q (Some (desc.Record (with_method r m))) x ≡ own_member q (Some (desc.Record r)) x
  own_more q r x e = ap (λ o. field_or q (find (λ f. bytes_eq f.name x) r.fields) o) (found_last x r.methods e)

  own_by : (n k : ℕ) (q : QName) (x : List ℕ) (r : Member) → suc n + k ≡ 201 → member_within f (suc n) q x ≡ Some r → Same f g owner m q → own_member q (g q) x ≡ own_member q (f q) x
  own_by n k q x r e h (same i) = ap (λ o. own_member q o x) i
  own_by n k q x r e h (more d i j is) = ap (λ o. own_member q o x) j ∙ (own_more q d x (go (bytes_eq m.name x) refl) ∙ sym (ap (λ o. own_member q o x) i))
    where
      go : (b : Bool) → bytes_eq m.name x ≡ b → bytes_eq m.name x ≡ false
      go false l = l
      go true l =
          let named : m.name ≡ x = (bytes_eq-Decides m.name x).0 l in
          let there : member f q x ≡ Some r = subst (λ z. member_within f z q x ≡ Some r) e (grows k (suc n) q x r h) in
          none_some (sym none ∙ (ap (λ z. member f owner z) named ∙ (sym (ap (λ z. member f z x) is) ∙ there)))

  stays : (n k : ℕ) (q : QName) (x : List ℕ) (r : Member) → n + k ≡ 201 → member_within f n q x ≡ Some r → member_within g n q x ≡ Some r
  unfolding member_within
  stays zero k q x r e h = none_some h
  stays (suc n) k q x r e h =
      ap (λ o. or_in_base o (base_record g q) (λ b. member_within g n b x)) (own_by n k q x r e h (all q))
      ∙ (ap (λ p. or_in_base (own_member q (f q) x) p (λ b. member_within g n b x)) (base_same q)
      ∙ go (own_member q (f q) x) (base_record f q) (λ b i. stays n (suc k) b x r (shift n k e) i) h)
    where
      shift : (n k : ℕ) → suc n + k ≡ 201 → n + suc k ≡ 201
      shift n k e = omega arith

      go : (o : Option Member) (p : Option QName) → ((b : QName) → member_within f n b x ≡ Some r → member_within g n b x ≡ Some r) → or_in_base o p (λ b. member_within f n b x) ≡ Some r → or_in_base o p (λ b. member_within g n b x) ≡ Some r
      go (Some s) p i e = e
      go None None i e = none_some e
      go None (Some b) i e = i b e

  pub member_stays : (q : QName) (x : List ℕ) (r : Member) → member f q x ≡ Some r → member g q x ≡ Some r
  member_stays q x r h = stays 201 0 q x r refl h

-- ---- the types of the module at hand

abbrev HasMore : Method → Option Desc → Option Desc → Type 0
HasMore m (Some (desc.Record r)) o = o ≡ Some (desc.Record (with_method r m))
HasMore m d o = o ≡ d

desc_more : (m : Method) (d : Desc) → HasMore m (Some d) (Some (change_desc (λ r. with_method r m) d))
desc_more m (desc.Record r) = refl
desc_more m (desc.Const v) = refl
desc_more m (desc.Var k t) = refl
desc_more m (desc.Proc s) = refl
desc_more m (desc.Alias k t) = refl
desc_more m (desc.Array k n t) = refl
desc_more m (desc.OpenArray k t) = refl
desc_more m (desc.Pointer k t) = refl
desc_more m (desc.ProcType k s) = refl

-- of that name, or of another one
found_there : (m : Method) (x y : List ℕ) → bytes_eq x y ≡ true → (ts : List TypedType) → HasMore m (own_desc (find (λ t. bytes_eq t.name y) ts)) (own_desc (find (λ t. bytes_eq t.name y) (change_type x (λ r. with_method r m) ts)))
found_there m x y e [] = refl
found_there m x y e (t ∷ ts) = go (bytes_eq t.name y) refl (found_there m x y e ts)
  where
    is_x : (n : List ℕ) → bytes_eq n y ≡ true → bytes_eq n x ≡ true
    is_x n i = (bytes_eq-Decides n x).1 ((bytes_eq-Decides n y).0 i ∙ sym ((bytes_eq-Decides x y).0 e))

    name_is : (b : Bool) → (changed_if b (λ r. with_method r m) t).name ≡ t.name
    name_is true = refl
    name_is false = refl

    go : (b : Bool) → bytes_eq t.name y ≡ b → HasMore m (own_desc (find (λ t. bytes_eq t.name y) ts)) (own_desc (find (λ t. bytes_eq t.name y) (change_type x (λ r. with_method r m) ts))) →
        HasMore m (own_desc (cond b (Some t) (find (λ t. bytes_eq t.name y) ts))) (own_desc (cond (bytes_eq (changed_if (bytes_eq t.name x) (λ r. with_method r m) t).name y) (Some (changed_if (bytes_eq t.name x) (λ r. with_method r m) t)) (find (λ t. bytes_eq t.name y) (change_type x (λ r. with_method r m) ts))))
    go true i h =
        subst (λ (z : TypedType). HasMore m (Some t.desc) (own_desc (cond (bytes_eq z.name y) (Some z) (find (λ t. bytes_eq t.name y) (change_type x (λ r. with_method r m) ts))))) (sym (ap (λ b. changed_if b (λ r. with_method r m) t) (is_x t.name i)))
        (subst (λ b. HasMore m (Some t.desc) (own_desc (cond b (Some (changed_if true (λ r. with_method r m) t)) (find (λ t. bytes_eq t.name y) (change_type x (λ r. with_method r m) ts))))) (sym i) (desc_more m t.desc))
    go false i h =
        subst (λ b. HasMore m (own_desc (find (λ t. bytes_eq t.name y) ts)) (own_desc (cond b (Some (changed_if (bytes_eq t.name x) (λ r. with_method r m) t)) (find (λ t. bytes_eq t.name y) (change_type x (λ r. with_method r m) ts))))) (sym (ap (λ n. bytes_eq n y) (name_is (bytes_eq t.name x)) ∙ i)) h

found_else : (m : Method) (x y : List ℕ) → bytes_eq x y ≡ false → (ts : List TypedType) → own_desc (find (λ t. bytes_eq t.name y) (change_type x (λ r. with_method r m) ts)) ≡ own_desc (find (λ t. bytes_eq t.name y) ts)
found_else m x y e [] = refl
found_else m x y e (t ∷ ts) = go (bytes_eq t.name x) refl (found_else m x y e ts)
  where
    both_found : (c : Bool) (o p : Option TypedType) → own_desc o ≡ own_desc p → own_desc (cond c (Some t) o) ≡ own_desc (cond c (Some t) p)
    both_found true o p h = refl
    both_found false o p h = h

    go : (b : Bool) → bytes_eq t.name x ≡ b → own_desc (find (λ t. bytes_eq t.name y) (change_type x (λ r. with_method r m) ts)) ≡ own_desc (find (λ t. bytes_eq t.name y) ts) →
        own_desc (find (λ t. bytes_eq t.name y) (changed_if b (λ r. with_method r m) t ∷ change_type x (λ r. with_method r m) ts)) ≡ own_desc (find (λ t. bytes_eq t.name y) (t ∷ ts))
    go false i h = both_found (bytes_eq t.name y) (find (λ t. bytes_eq t.name y) (change_type x (λ r. with_method r m) ts)) (find (λ t. bytes_eq t.name y) ts) h
    go true i h =
        let n : bytes_eq t.name y ≡ false = ap (λ z. bytes_eq z y) ((bytes_eq-Decides t.name x).0 i) ∙ e in
        ap (λ c. own_desc (cond c (Some (changed_if true (λ r. with_method r m) t)) (find (λ t. bytes_eq t.name y) (change_type x (λ r. with_method r m) ts)))) n
        ∙ (h ∙ sym (ap (λ c. own_desc (cond c (Some t) (find (λ t. bytes_eq t.name y) ts))) n))

module _ (u : Around) (own : List TypedType) (owner : QName) (m : Method) (of_unit : bytes_eq owner.«module» u.unit ≡ true) where
  abbrev own2 : List TypedType
  own2 = change_type owner.object (λ r. with_method r m) own

  abbrev f : Map
  f = with_own u own

  abbrev g : Map
  g = with_own u own2

  owner_is : (q : QName) → bytes_eq q.«module» u.unit ≡ true → bytes_eq owner.object q.object ≡ true → q ≡ owner
  owner_is q e h =
      let ms : q.«module» ≡ owner.«module» = (bytes_eq-Decides q.«module» u.unit).0 e ∙ sym ((bytes_eq-Decides owner.«module» u.unit).0 of_unit) in
      let os : q.object ≡ owner.object = sym ((bytes_eq-Decides owner.object q.object).0 h) in
      ap (λ n. let p : QName = record { «module» = n; object = q.object } in p) ms ∙ ap (λ o. let p : QName = record { «module» = owner.«module»; object = o } in p) os

  by_more : (q : QName) (o p : Option Desc) → f q ≡ o → g q ≡ p → HasMore m o p → q ≡ owner → Same f g owner m q
  by_more q (Some (desc.Record r)) p e h k i = more r e (h ∙ k) i
  by_more q None p e h k i = same (h ∙ (k ∙ sym e))
  by_more q (Some (desc.Const v)) p e h k i = same (h ∙ (k ∙ sym e))
  by_more q (Some (desc.Var a t)) p e h k i = same (h ∙ (k ∙ sym e))
  by_more q (Some (desc.Proc s)) p e h k i = same (h ∙ (k ∙ sym e))
  by_more q (Some (desc.Alias a t)) p e h k i = same (h ∙ (k ∙ sym e))
  by_more q (Some (desc.Array a n t)) p e h k i = same (h ∙ (k ∙ sym e))
  by_more q (Some (desc.OpenArray a t)) p e h k i = same (h ∙ (k ∙ sym e))
  by_more q (Some (desc.Pointer a t)) p e h k i = same (h ∙ (k ∙ sym e))
  by_more q (Some (desc.ProcType a s)) p e h k i = same (h ∙ (k ∙ sym e))

  each : (q : QName) → Same f g owner m q
  each q = go (bytes_eq q.«module» u.unit) refl (same_name q out_string) refl (bytes_eq owner.object q.object) refl
    where
      go : (b : Bool) → bytes_eq q.«module» u.unit ≡ b → (c : Bool) → same_name q out_string ≡ c → (d : Bool) → bytes_eq owner.object q.object ≡ d → Same f g owner m q
      go true e c h true i =
          by_more q (own_desc (find (λ t. bytes_eq t.name q.object) own)) (own_desc (find (λ t. bytes_eq t.name q.object) own2))
          (ap (λ b. type_desc b (same_name q out_string) (record u { own = own }) q) e) (ap (λ b. type_desc b (same_name q out_string) (record u { own = own2 }) q) e)
          (found_there m owner.object q.object i own) (owner_is q e i)
      go true e c h false i =
          same (ap (λ b. type_desc b (same_name q out_string) (record u { own = own2 }) q) e ∙ (found_else m owner.object q.object i own ∙ sym (ap (λ b. type_desc b (same_name q out_string) (record u { own = own }) q) e)))
      go false e true h d i =
          same (ap (λ b. type_desc b (same_name q out_string) (record u { own = own2 }) q) e ∙ (ap (λ c. type_desc false c (record u { own = own2 }) q) h ∙ (sym (ap (λ c. type_desc false c (record u { own = own }) q) h) ∙ sym (ap (λ b. type_desc b (same_name q out_string) (record u { own = own }) q) e))))
      go false e false h d i =
          same (ap (λ b. type_desc b (same_name q out_string) (record u { own = own2 }) q) e ∙ (ap (λ c. type_desc false c (record u { own = own2 }) q) h ∙ (sym (ap (λ c. type_desc false c (record u { own = own }) q) h) ∙ sym (ap (λ b. type_desc b (same_name q out_string) (record u { own = own }) q) e))))

pub members_stay : MembersStay
members_stay u own owner m e none q x r h = member_stays (with_own u own) (with_own u (change_type owner.object (λ r. with_method r m) own)) owner m (each u own owner m e) none q x r h
