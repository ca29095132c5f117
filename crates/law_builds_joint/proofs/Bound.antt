-- The bound procedures that records introduce have different names, once all is bound.
use Rattle.std.proofs.Common.{◌≡◌, ◌≢◌, refl, sym, ◌∙◌, subst, ℕ, Bool, true, false, not, List, [], ◌∷◌, ◌++◌, Option, Some, None, cond, inl, inr}
use Rattle.std.specs.Prelude.{bytes_eq, ◌&&◌, ◌||◌}
use Rattle.std.specs.List.{AllByRecursion, find, filter}
use Rattle.std.proofs.lemmas.Slice.Eq.{bytes_eq-Decides}
use Rattle.ob_tree.specs.declared.names.QName.{QName}
use Rattle.ob_types.specs.declared.desc.Desc.{Desc}
use Rattle.ob_types.specs.declared.desc.Desc.TheVariants as desc
use Rattle.ob_types.specs.declared.desc.Field.{Field}
use Rattle.ob_types.specs.declared.desc.Method.{Method}
use Rattle.ob_types.specs.declared.desc.RecordDesc.{RecordDesc}
use Rattle.ob_types.specs.declared.typed.TypedType.{TypedType}
use Rattle.ob_rules.specs.Judged.{no_notes}
use Rattle.ob_rules.specs.Shapes.{Map, Member, AField, AMethod, own_member, member}
use Rattle.ob_rules.specs.Names.{Around}
use Rattle.ob_rules.specs.Headings.{Head, BoundAs, Binding, same_kind, introduced_sound, change_desc, changed_if, change_type, with_method, new_method, introduce, redefined, bind_method, bind_by, bind_one, bind_all, of_record, bind_records, counted, reversed, bindings, differ}
use Rattle.law_typing_forms.specs.Said.{IsOneOf}
use Rattle.law_methods_introduced.proofs.Grown.{none_within, no_field}
use Rattle.law_methods_introduced.proofs.Binding.{desc_in, at_own}
use Rattle.law_local_methods.specs.Laws.{with_own}
use Rattle.law_names_distinct.specs.Distinct.{AreDistinct}
use Rattle.law_methods_bound.specs.Bound.{methods_of}
use Rattle.law_methods_bound.proofs.Typings.{AreRaw}
use Rattle.law_methods_bound.proofs.Binding.{one_filtered}
use Rattle.law_methods_bound.proofs.Introduced.{IsReady, one_found}
use Rattle.law_lists.proofs.Lists.{all_both}

-- ---- lists

distinct_last : (xs : List Method) (m : Method) → AreDistinct (λ k. k.name) xs → AllByRecursion (λ k. k.name ≢ m.name) xs → AreDistinct (λ k. k.name) (xs ++ m ∷ [])
distinct_last [] m h n = (tt, tt)
distinct_last (x ∷ xs) m h n = (all_both (λ (k : Method). k.name ≢ x.name) xs (m ∷ []) h.0 ((λ e. n.0 (sym e)), tt), distinct_last xs m h.1 n.1)

none_found : (x : List ℕ) (ms : List Method) → find (λ (k : Method). bytes_eq k.name x) ms ≡ None → AllByRecursion (λ k. k.name ≢ x) ms
none_found x [] e = tt
none_found x (k ∷ ms) e = by (bytes_eq k.name x) refl e (λ i. none_found x ms i)
  where
    by : (b : Bool) → bytes_eq k.name x ≡ b → cond b (Some k) (find (λ (k : Method). bytes_eq k.name x) ms) ≡ None → (find (λ (k : Method). bytes_eq k.name x) ms ≡ None → AllByRecursion (λ k. k.name ≢ x) ms) → AllByRecursion (λ k. k.name ≢ x) (k ∷ ms)
    by true i e r = absurd cc
    by false i e r = ((λ same. both_ways (sym i ∙ (bytes_eq-Decides k.name x).1 same)), r e)
      where
        both_ways : false ≡ true → ⊥
        both_ways e = absurd cc

-- ---- one bound procedure more

abbrev pub Named : TypedType → Type 0
Named t = AreDistinct (λ k. k.name) (methods_of t.desc)

abbrev NoMethod : List ℕ → Desc → Type 0
NoMethod x d = AllByRecursion (λ k. k.name ≢ x) (methods_of d)

no_method : (q : QName) (x : List ℕ) (d : Desc) → own_member q (Some d) x ≡ None → NoMethod x d
no_method q x (desc.Record r) e = none_found x r.methods (no_field q (find (λ (k : Field). bytes_eq k.name x) r.fields) (find (λ (k : Method). bytes_eq k.name x) r.methods) e).1
no_method q x (desc.Const v) e = tt
no_method q x (desc.Var k t) e = tt
no_method q x (desc.Proc s) e = tt
no_method q x (desc.Alias k t) e = tt
no_method q x (desc.Array k l t) e = tt
no_method q x (desc.OpenArray k t) e = tt
no_method q x (desc.Pointer k t) e = tt
no_method q x (desc.ProcType k s) e = tt

desc_named : (m : Method) (d : Desc) → AreDistinct (λ k. k.name) (methods_of d) → NoMethod m.name d → AreDistinct (λ k. k.name) (methods_of (change_desc (λ r. with_method r m) d))
desc_named m (desc.Record r) h n = distinct_last r.methods m h n
desc_named m (desc.Const v) h n = h
desc_named m (desc.Var k t) h n = h
desc_named m (desc.Proc s) h n = h
desc_named m (desc.Alias k t) h n = h
desc_named m (desc.Array k l t) h n = h
desc_named m (desc.OpenArray k t) h n = h
desc_named m (desc.Pointer k t) h n = h
desc_named m (desc.ProcType k s) h n = h

if_named : (b : Bool) (x : List ℕ) (m : Method) (t : TypedType) → bytes_eq t.name x ≡ b → (t.name ≡ x → NoMethod m.name t.desc) → Named t → Named (changed_if b (λ r. with_method r m) t)
if_named false x m t e n h = h
if_named true x m t e n h = desc_named m t.desc h (n ((bytes_eq-Decides t.name x).0 e))

types_named : (x : List ℕ) (m : Method) (ts : List TypedType) → ((t : TypedType) → IsOneOf ts t → t.name ≡ x → NoMethod m.name t.desc) → AllByRecursion Named ts → AllByRecursion Named (change_type x (λ r. with_method r m) ts)
types_named x m [] n h = tt
types_named x m (t ∷ ts) n h = (if_named (bytes_eq t.name x) x m t refl (n t (inl refl)) h.0, types_named x m ts (λ s i. n s (inr i)) h.1)

-- names of types stay

changed_fresh : (b : Bool) (f : RecordDesc → RecordDesc) (t : TypedType) (y : List ℕ) → t.name ≢ y → (changed_if b f t).name ≢ y
changed_fresh true f t y n = n
changed_fresh false f t y n = n

change_fresh : (x y : List ℕ) (f : RecordDesc → RecordDesc) (ts : List TypedType) → AllByRecursion (λ t. t.name ≢ y) ts → AllByRecursion (λ t. t.name ≢ y) (change_type x f ts)
change_fresh x y f [] h = tt
change_fresh x y f (t ∷ ts) h = (changed_fresh (bytes_eq t.name x) f t y h.0, change_fresh x y f ts h.1)

if_distinct : (b : Bool) (x : List ℕ) (f : RecordDesc → RecordDesc) (t : TypedType) (ts : List TypedType) → AllByRecursion (λ s. s.name ≢ t.name) (change_type x f ts) → AllByRecursion (λ s. s.name ≢ (changed_if b f t).name) (change_type x f ts)
if_distinct true x f t ts h = h
if_distinct false x f t ts h = h

change_distinct : (x : List ℕ) (f : RecordDesc → RecordDesc) (ts : List TypedType) → AreDistinct (λ t. t.name) ts → AreDistinct (λ t. t.name) (change_type x f ts)
change_distinct x f [] h = tt
change_distinct x f (t ∷ ts) h = (if_distinct (bytes_eq t.name x) x f t ts (change_fresh x t.name f ts h.0), change_distinct x f ts h.1)

-- ---- all

pub record AreNamed (own : List TypedType) : Type 0 where
  pub methods : AllByRecursion Named own
  pub types : AreDistinct (λ t. t.name) own

module _ (u : Around) (cs : List Head) (ready : (h : Head) → IsOneOf cs h → IsReady u h) where
  redefined_same : (c : Bool) (s : Binding) (h : Head) (a : BoundAs) → (redefined c s h a).own ≡ s.own
  redefined_same true s h a = refl
  redefined_same false s h a = refl

  method_same : (c : Bool) (map : Map) (s : Binding) (h : Head) (a : BoundAs) (owner : QName) (m : Method) → (bind_method c u map s h a owner m).own ≡ s.own
  method_same true map s h a owner m = refl
  method_same false map s h a owner m = redefined_same (not (same_kind m.receiver a.receiver) || differ map h m (introduced_sound u s.bound owner m.name)) s h a

  introduced : (s : Binding) (h : Head) → IsOneOf cs h → (a : BoundAs) → h.bound ≡ Some a → member (with_own u s.own) a.owner h.name ≡ None → AreNamed s.own → AreNamed (introduce s h a).own
  introduced s h i a e f g =
      let m = new_method h a in
      let y = ready h i in
      let own = y.own a e in
      record {
        methods = types_named a.owner.object m s.own
            (λ t j n.
            let at : with_own u s.own a.owner ≡ Some t.desc = at_own u h a own e y.whole s.own ∙ subst (λ z. desc_in s.own z ≡ Some t.desc) n (one_found s.own g.types t j) in
            no_method a.owner h.name t.desc (subst (λ o. own_member a.owner o h.name ≡ None) at (none_within (with_own u s.own) 200 a.owner h.name f)))
            g.methods;
        types = change_distinct a.owner.object (λ r. with_method r m) s.own g.types;
      }

  by_named : (s : Binding) (h : Head) → IsOneOf cs h → (a : BoundAs) → h.bound ≡ Some a → (o : Option Member) → member (with_own u s.own) a.owner h.name ≡ o → AreNamed s.own → AreNamed (bind_by u (with_own u s.own) s h a o).own
  by_named s h i a e None f g = introduced s h i a e f g
  by_named s h i a e (Some (AField owner k)) f g = g
  by_named s h i a e (Some (AMethod owner m)) f g =
      let c = bytes_eq owner.object a.owner.object && bytes_eq owner.«module» u.unit in
      subst AreNamed (sym (method_same c (with_own u s.own) s h a owner m)) g

  one_named : (s : Binding) (h : Head) → IsOneOf cs h → (o : Option BoundAs) → h.bound ≡ o → AreNamed s.own → AreNamed (bind_one u s h o).own
  one_named s h i None e g = g
  one_named s h i (Some a) e g = by_named s h i a e (member (with_own u s.own) a.owner h.name) refl g

  all_named : (s : Binding) (hs : List Head) → ((h : Head) → IsOneOf hs h → IsOneOf cs h) → AreNamed s.own → AreNamed (bind_all u s hs).own
  all_named s [] i g = g
  all_named s (h ∷ hs) i g = all_named (bind_one u s h h.bound) hs (λ x j. i x (inr j)) (one_named s h (i h (inl refl)) h.bound refl g)

  records_named : (s : Binding) (ts : List TypedType) → AreNamed s.own → AreNamed (bind_records u cs s ts).own
  records_named s [] g = g
  records_named s (t ∷ ts) g = records_named (bind_all u s (filter (of_record t.name) cs)) ts (all_named s (filter (of_record t.name) cs) (λ x j. one_filtered (of_record t.name) cs x j) g)

raw_named : (ts : List TypedType) → AreRaw ts → AllByRecursion Named ts
raw_named [] h = tt
raw_named (t ∷ ts) h = (subst (λ ms. AreDistinct (λ (k : Method). k.name) ms) (sym h.0.0) tt, raw_named ts h.1)

-- THE TYPES of a module, once all is bound
pub bindings_named : (u : Around) (hs : List Head) (ready : (h : Head) → IsOneOf (counted hs) h → IsReady u h) → AreRaw u.own → AreDistinct (λ t. t.name) u.own → AllByRecursion Named (bindings u hs).own
bindings_named u hs ready raw differ =
    let s : Binding = record { own = u.own; bound = []; notes = no_notes } in
    (records_named u (counted hs) ready s (reversed u.own) (record { methods = raw_named u.own raw; types = differ })).methods
