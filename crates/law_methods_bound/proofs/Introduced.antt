-- What is bound: the methods of each record are found in it, and each comes from a heading.
use Rattle.std.proofs.Common.{◌≡◌, ◌≢◌, refl, sym, ap, ◌∙◌, subst, ℕ, suc, Bool, true, false, not, List, [], ◌∷◌, ◌++◌, Option, Some, None, cond, inl, inr}
use Rattle.std.specs.Prelude.{bytes_eq, ◌&&◌, ◌||◌}
use Rattle.std.specs.List.{AllByRecursion, find, filter}
use Rattle.std.proofs.lemmas.Slice.Eq.{bytes_eq-Decides}
use Rattle.ob_tree.specs.declared.names.QName.{QName}
use Rattle.ob_types.specs.declared.desc.Desc.{Desc}
use Rattle.ob_types.specs.declared.desc.Desc.TheVariants as desc
use Rattle.ob_types.specs.declared.desc.Field.{Field}
use Rattle.ob_types.specs.declared.desc.Method.{Method}
use Rattle.ob_types.specs.declared.desc.RecordDesc.{RecordDesc}
use Rattle.ob_types.specs.declared.typed.TypedType.{TypedType}
use Rattle.ob_rules.specs.Judged.{no_notes}
use Rattle.ob_rules.specs.Shapes.{Map, Member, AField, AMethod, field_or, own_member, or_in_base, base_record, member_within, member}
use Rattle.ob_rules.specs.Names.{Around, own_desc}
use Rattle.ob_rules.specs.Headings.{Head, BoundAs, Binding, same_kind, introduced_sound, change_desc, changed_if, change_type, with_method, new_method, introduce, redefined, bind_method, bind_by, bind_one, bind_all, of_record, bind_records, counted, reversed, bindings, differ}
use Rattle.law_typing_forms.specs.Said.{IsOneOf}
use Rattle.law_body_context.proofs.Lists.{one_all, all_of}
use Rattle.law_methods_introduced.proofs.Grown.{DescGrows, none_within, no_field, find_last}
use Rattle.law_methods_introduced.proofs.Binding.{HasRecord, desc_in, one_step, at_own, change_grows, changed_there}
use Rattle.law_local_methods.specs.Laws.{with_own, IsOwned}
use Rattle.law_local_methods.proofs.Bindings.{Stay, by_stays}
use Rattle.law_names_distinct.specs.Distinct.{AreDistinct}
use Rattle.law_methods_bound.specs.Bound.{methods_of}
use Rattle.law_methods_bound.proofs.Typings.{AreRaw}
use Rattle.law_methods_bound.proofs.Binding.{one_filtered}
use Rattle.law_methods_bound.specs.There.{is_record}
use Rattle.law_lists.proofs.Lists.{all_both}

-- ---- a record that introduces a procedure has it

within_own : (g : Map) (n : ℕ) (q : QName) (x : List ℕ) (r : Member) → own_member q (g q) x ≡ Some r → member_within g (suc n) q x ≡ Some r
unfolding member_within
within_own g n q x r e = ap (λ o. or_in_base o (base_record g q) (λ b. member_within g n b x)) e

gained : (f g : Map) (q : QName) (r : RecordDesc) (m : Method) → f q ≡ Some (desc.Record r) → g q ≡ Some (desc.Record (with_method r m)) → (x : List ℕ) → bytes_eq m.name x ≡ true → member f q x ≡ None → member g q x ≡ Some (AMethod q m)
gained f g q r m was is x named e =
    let test : Method → Bool = λ k. bytes_eq k.name x in
    let none : own_member q (Some (desc.Record r)) x ≡ None = subst (λ o. own_member q o x ≡ None) was (none_within f 200 q x e) in
    let parts = no_field q (find (λ (k : Field). bytes_eq k.name x) r.fields) (find test r.methods) none in
    let there : field_or q (find (λ (k : Field). bytes_eq k.name x) r.fields) (find test (r.methods ++ m ∷ [])) ≡ Some (AMethod q m) = ap (λ k. field_or q k (find test (r.methods ++ m ∷ []))) parts.0 ∙ ap (field_or q None) (find_last test r.methods m named parts.1) in
    within_own g 200 q x (AMethod q m) (ap (λ o. own_member q o x) is ∙ there)

-- no forward declaration, and bound to a record of the module, if to any
pub record IsReady (u : Around) (h : Head) : Type 0 where
  pub whole : h.forward ≡ false
  pub own : (b : BoundAs) → h.bound ≡ Some b → bytes_eq b.owner.«module» u.unit ≡ true
  pub record_is : (b : BoundAs) → h.bound ≡ Some b → HasRecord u.own b.owner.object

module _ (u : Around) (cs : List Head) (ready : (h : Head) → IsOneOf cs h → IsReady u h) where
  -- a method of the type of that name is that of one of these headings, and it is found there
  pub record IsNew (own : List TypedType) (x : List ℕ) (k : Method) : Type 0 where
    pub h : Head
    pub there : IsOneOf cs h
    pub b : BoundAs
    pub bound : h.bound ≡ Some b
    pub is : k ≡ new_method h b
    pub name : x ≡ b.owner.object
    pub found : member (with_own u own) b.owner h.name ≡ Some (AMethod b.owner (new_method h b))

  abbrev pub AreNew : List TypedType → List TypedType → Type 0
  AreNew own ts = AllByRecursion (λ t. AllByRecursion (IsNew own t.name) (methods_of t.desc)) ts

  -- the records of headings stay records
  abbrev Kept : List TypedType → Type 0
  Kept own = (h : Head) → IsOneOf cs h → (b : BoundAs) → h.bound ≡ Some b → HasRecord own b.owner.object

  abbrev pub Invariant : Binding → Type 0
  Invariant s = AreNew s.own s.own × Kept s.own

  raw_new : (own ts : List TypedType) → AreRaw ts → AreNew own ts
  raw_new own [] h = tt
  raw_new own (t ∷ ts) h = (subst (AllByRecursion (IsNew own t.name)) (sym h.0.0) tt, raw_new own ts h.1)

  stays_new : (own more : List TypedType) → Stay u own more → (ts : List TypedType) → AreNew own ts → AreNew more ts
  stays_new own more s ts h =
      all_of (λ t. AllByRecursion (IsNew own t.name) (methods_of t.desc)) (λ t. AllByRecursion (IsNew more t.name) (methods_of t.desc)) ts
      (λ t a. all_of (IsNew own t.name) (IsNew more t.name) (methods_of t.desc) (λ k n. record { h = n.h; there = n.there; b = n.b; bound = n.bound; is = n.is; name = n.name; found = s n.b.owner n.h.name (AMethod n.b.owner (new_method n.h n.b)) n.found }) a) h

  desc_new : (own : List TypedType) (x : List ℕ) (m : Method) → IsNew own x m → (d : Desc) → AllByRecursion (IsNew own x) (methods_of d) → AllByRecursion (IsNew own x) (methods_of (change_desc (λ r. with_method r m) d))
  desc_new own x m n (desc.Record r) h = all_both (IsNew own x) r.methods (m ∷ []) h (n, tt)
  desc_new own x m n (desc.Const v) h = h
  desc_new own x m n (desc.Var k t) h = h
  desc_new own x m n (desc.Proc s) h = h
  desc_new own x m n (desc.Alias k t) h = h
  desc_new own x m n (desc.Array k l t) h = h
  desc_new own x m n (desc.OpenArray k t) h = h
  desc_new own x m n (desc.Pointer k t) h = h
  desc_new own x m n (desc.ProcType k s) h = h

  abbrev TypeNew : List TypedType → TypedType → Type 0
  TypeNew own t = AllByRecursion (IsNew own t.name) (methods_of t.desc)

  if_new : (own : List TypedType) (b : Bool) (x : List ℕ) (m : Method) → IsNew own x m → (t : TypedType) → bytes_eq t.name x ≡ b → TypeNew own t → TypeNew own (changed_if b (λ r. with_method r m) t)
  if_new own false x m n t e h = h
  if_new own true x m n t e h = desc_new own t.name m (subst (λ y. IsNew own y m) (sym ((bytes_eq-Decides t.name x).0 e)) n) t.desc h

  types_new : (own : List TypedType) (x : List ℕ) (m : Method) → IsNew own x m → (ts : List TypedType) → AreNew own ts → AreNew own (change_type x (λ r. with_method r m) ts)
  types_new own x m n [] h = tt
  types_new own x m n (t ∷ ts) h = (if_new own (bytes_eq t.name x) x m n t refl h.0, types_new own x m n ts h.1)

  redefined_same : (c : Bool) (s : Binding) (h : Head) (a : BoundAs) → (redefined c s h a).own ≡ s.own
  redefined_same true s h a = refl
  redefined_same false s h a = refl

  method_same : (c : Bool) (map : Map) (s : Binding) (h : Head) (a : BoundAs) (owner : QName) (m : Method) → (bind_method c u map s h a owner m).own ≡ s.own
  method_same true map s h a owner m = refl
  method_same false map s h a owner m = redefined_same (not (same_kind m.receiver a.receiver) || differ map h m (introduced_sound u s.bound owner m.name)) s h a

  by_new : (s : Binding) (h : Head) → IsOneOf cs h → (a : BoundAs) → h.bound ≡ Some a → Kept s.own → (o : Option Member) → member (with_own u s.own) a.owner h.name ≡ o → AreNew s.own s.own → (let n = bind_by u (with_own u s.own) s h a o in AreNew n.own n.own)
  by_new s h i a e kept None f g =
      let m = new_method h a in
      let n = introduce s h a in
      let y = ready h i in
      let own = y.own a e in
      let r = kept h i a e in
      let has = gained (with_own u s.own) (with_own u n.own) a.owner r.r m (at_own u h a own e y.whole s.own ∙ r.is) (at_own u h a own e y.whole n.own ∙ changed_there a.owner.object m s.own r.r r.is) h.name ((bytes_eq-Decides h.name h.name).1 refl) f in
      types_new n.own a.owner.object m (record { h = h; there = i; b = a; bound = e; is = refl; name = refl; found = has }) s.own
      (stays_new s.own n.own (by_stays u s h a own None f) s.own g)
  by_new s h i a e kept (Some (AField owner k)) f g = g
  by_new s h i a e kept (Some (AMethod owner m)) f g =
      let c = bytes_eq owner.object a.owner.object && bytes_eq owner.«module» u.unit in
      subst (λ own. AreNew own own) (sym (method_same c (with_own u s.own) s h a owner m)) g

  kept_one : (s : Binding) (h : Head) (o : Option BoundAs) → Kept s.own → Kept (bind_one u s h o).own
  kept_one s h o k = λ x i b e. let y = ready x i in (one_step u x b (y.own b e) e y.whole s h o).there (k x i b e)

  one_new : (s : Binding) (h : Head) → IsOneOf cs h → (o : Option BoundAs) → h.bound ≡ o → Invariant s → Invariant (bind_one u s h o)
  one_new s h i None e g = g
  one_new s h i (Some a) e g = (by_new s h i a e g.1 (member (with_own u s.own) a.owner h.name) refl g.0, kept_one s h (Some a) g.1)

  all_new : (s : Binding) (hs : List Head) → ((h : Head) → IsOneOf hs h → IsOneOf cs h) → Invariant s → Invariant (bind_all u s hs)
  all_new s [] i g = g
  all_new s (h ∷ hs) i g = all_new (bind_one u s h h.bound) hs (λ x j. i x (inr j)) (one_new s h (i h (inl refl)) h.bound refl g)

  records_new : (s : Binding) (ts : List TypedType) → Invariant s → Invariant (bind_records u cs s ts)
  records_new s [] g = g
  records_new s (t ∷ ts) g = records_new (bind_all u s (filter (of_record t.name) cs)) ts (all_new s (filter (of_record t.name) cs) (λ x j. one_filtered (of_record t.name) cs x j) g)

  pub started : (s : Binding) → s.own ≡ u.own → AreRaw u.own → Invariant s
  started s e r = (subst (λ own. AreNew own own) (sym e) (raw_new u.own u.own r), λ h i b f. subst (λ own. HasRecord own b.owner.object) (sym e) ((ready h i).record_is b f))

-- EACH METHOD of the types, once all is bound
pub bindings_new : (u : Around) (hs : List Head) (ready : (h : Head) → IsOneOf (counted hs) h → IsReady u h) → AreRaw u.own → AreNew u (counted hs) ready (bindings u hs).own (bindings u hs).own
bindings_new u hs ready g =
    let s : Binding = record { own = u.own; bound = []; notes = no_notes } in
    (records_new u (counted hs) ready s (reversed u.own) (started u (counted hs) ready s refl g)).0

-- ---- what is no record stays

abbrev pub Says : List TypedType → List TypedType → Type 0
Says a b = (x : List ℕ) (d : Desc) → is_record d ≡ false → desc_in a x ≡ Some d → desc_in b x ≡ Some d

grown_says : (o p : Option Desc) → DescGrows o p → (d : Desc) → is_record d ≡ false → o ≡ Some d → p ≡ Some d
grown_says o p (inl e) d n k = sym e ∙ k
grown_says o p (inr g) d n k =
    let both : Some (desc.Record g.r) ≡ Some d = sym g.was ∙ k in
    let same : desc.Record g.r ≡ d = cc in
    absurd (true_false (ap is_record same ∙ n))
  where
    true_false : true ≡ false → ⊥
    true_false e = absurd cc

says_same : (a b : List TypedType) → b ≡ a → Says a b
says_same a b e x d n k = ap (λ ts. desc_in ts x) e ∙ k

module _ (u : Around) where
  redefined_own : (c : Bool) (s : Binding) (h : Head) (a : BoundAs) → (redefined c s h a).own ≡ s.own
  redefined_own true s h a = refl
  redefined_own false s h a = refl

  method_own : (c : Bool) (map : Map) (s : Binding) (h : Head) (a : BoundAs) (owner : QName) (m : Method) → (bind_method c u map s h a owner m).own ≡ s.own
  method_own true map s h a owner m = refl
  method_own false map s h a owner m = redefined_own (not (same_kind m.receiver a.receiver) || differ map h m (introduced_sound u s.bound owner m.name)) s h a

  by_says : (s : Binding) (h : Head) (a : BoundAs) (map : Map) (o : Option Member) → Says s.own (bind_by u map s h a o).own
  by_says s h a map None = λ x d n e. grown_says (desc_in s.own x) (desc_in (introduce s h a).own x) (change_grows a.owner.object (new_method h a) s.own x) d n e
  by_says s h a map (Some (AField owner f)) = says_same s.own s.own refl
  by_says s h a map (Some (AMethod owner m)) =
      let c = bytes_eq owner.object a.owner.object && bytes_eq owner.«module» u.unit in
      says_same s.own (bind_method c u map s h a owner m).own (method_own c map s h a owner m)

  one_says : (s : Binding) (h : Head) (o : Option BoundAs) → Says s.own (bind_one u s h o).own
  one_says s h None = says_same s.own s.own refl
  one_says s h (Some a) = by_says s h a (with_own u s.own) (member (with_own u s.own) a.owner h.name)

  all_say : (s : Binding) (hs : List Head) → Says s.own (bind_all u s hs).own
  all_say s [] = says_same s.own s.own refl
  all_say s (h ∷ hs) = λ x d n e. all_say (bind_one u s h h.bound) hs x d n (one_says s h h.bound x d n e)

  pub records_say : (hs : List Head) (s : Binding) (ts : List TypedType) → Says s.own (bind_records u hs s ts).own
  records_say hs s [] = says_same s.own s.own refl
  records_say hs s (t ∷ ts) = λ x d n e. let v = bind_all u s (filter (of_record t.name) hs) in records_say hs v ts x d n (all_say s (filter (of_record t.name) hs) x d n e)

-- ---- a type by its name

pub found_one : (ts : List TypedType) (x : List ℕ) (d : Desc) → desc_in ts x ≡ Some d → (t : TypedType) × (IsOneOf ts t × ((t.name ≡ x) × (t.desc ≡ d)))
found_one [] x d e = absurd cc
found_one (t ∷ ts) x d e = by (bytes_eq t.name x) refl e (λ e. found_one ts x d e)
  where
    by : (b : Bool) → bytes_eq t.name x ≡ b → own_desc (cond b (Some t) (find (λ t. bytes_eq t.name x) ts)) ≡ Some d → (desc_in ts x ≡ Some d → (t : TypedType) × (IsOneOf ts t × ((t.name ≡ x) × (t.desc ≡ d)))) → (s : TypedType) × (IsOneOf (t ∷ ts) s × ((s.name ≡ x) × (s.desc ≡ d)))
    by true n e r = let same : t.desc ≡ d = cc in (t, (inl refl, ((bytes_eq-Decides t.name x).0 n, same)))
    by false n e r = let k = r e in (k.0, (inr k.1.0, k.1.1))

pub one_found : (ts : List TypedType) → AreDistinct (λ t. t.name) ts → (t : TypedType) → IsOneOf ts t → desc_in ts t.name ≡ Some t.desc
one_found [] d t i = absurd i
one_found (s ∷ ts) d t (inl e) = subst (λ (z : TypedType). desc_in (s ∷ ts) z.name ≡ Some z.desc) e (ap (λ b. own_desc (cond b (Some s) (find (λ t. bytes_eq t.name s.name) ts))) ((bytes_eq-Decides s.name s.name).1 refl))
one_found (s ∷ ts) d t (inr i) =
    ap (λ b. own_desc (cond b (Some s) (find (λ z. bytes_eq z.name t.name) ts))) (other (bytes_eq s.name t.name) refl) ∙ one_found ts d.1 t i
  where
    other : (b : Bool) → bytes_eq s.name t.name ≡ b → bytes_eq s.name t.name ≡ false
    other true n = absurd (one_all (λ (y : TypedType). y.name ≢ s.name) ts t d.0 i (sym ((bytes_eq-Decides s.name t.name).0 n)))
    other false n = n
