-- Each procedure with a receiver is bound: its name is a bound procedure of its record.
use Rattle.std.proofs.Common.{⊎_elim, ◌≡◌, ◌⊎◌, inl, inr, ℕ, Bool, true, false, List, [], ◌∷◌, ◌++◌, Option, Some, None, refl, sym, ap, subst, ◌∙◌}
use Rattle.std.specs.Prelude.{bytes_eq, cond, not, ◌&&◌, is_some, is_none}
use Rattle.std.specs.List.{find, filter}
use Rattle.std.proofs.lemmas.Slice.Eq.{bytes_eq-Decides}
use Rattle.ob_tree.specs.declared.names.QName.{QName}
use Rattle.ob_tree.specs.declared.pos.Pos.{Pos}
use Rattle.ob_types.specs.declared.desc.Desc.{Desc}
use Rattle.ob_types.specs.declared.desc.Desc.TheVariants as desc
use Rattle.ob_types.specs.declared.desc.RecordDesc.{RecordDesc}
use Rattle.ob_types.specs.declared.desc.Method.{Method}
use Rattle.ob_types.specs.declared.typed.TypedType.{TypedType}
use Rattle.ob_rules.specs.declared.broken.Rule.TheVariants as rule
use Rattle.ob_rules.specs.Judged.{notes_if, no_notes}
use Rattle.ob_rules.specs.Shapes.{Map, Member, AField, AMethod, member, same_name}
use Rattle.ob_rules.specs.Names.{Around, map_of, own_desc, type_desc, out_string}
use Rattle.ob_rules.specs.Headings.{Head, BoundAs, Binding, with_method, change_desc, changed_if, change_type, new_method, introduce, redefined, bind_method, bind_by, bind_one, bind_all, owner_is, of_record, bind_records, reversed, bindings, counts, counts_if, counted}
use Rattle.ob_rules.specs.Declarations.{with_bound, bound_to, binding_of}
use Rattle.law_methods_introduced.proofs.Grown.{DescGrows, MapGrows, IsMethod, member_grows, member_gained}
use Rattle.law_lists.proofs.Lists.{back_empty, bytes_turned, front_empty}

abbrev pub desc_in : List TypedType → List ℕ → Option Desc
desc_in ts y = own_desc (find (λ t. bytes_eq t.name y) ts)

-- ---- what is introduced

desc_changes : (m : Method) (d : Desc) → DescGrows (Some d) (Some (change_desc (λ r. with_method r m) d))
desc_changes m (desc.Const v) = inl refl
desc_changes m (desc.Var k t) = inl refl
desc_changes m (desc.Proc s) = inl refl
desc_changes m (desc.Alias k t) = inl refl
desc_changes m (desc.Array k n t) = inl refl
desc_changes m (desc.OpenArray k t) = inl refl
desc_changes m (desc.Pointer k t) = inl refl
desc_changes m (desc.ProcType k s) = inl refl
desc_changes m (desc.Record r) = inr (record { r = r; s = with_method r m; was = refl; is = refl; grows = record { base = refl; fields = refl; more = m ∷ []; methods = refl } })

pub change_grows : (x : List ℕ) (m : Method) (ts : List TypedType) (y : List ℕ) → DescGrows (desc_in ts y) (desc_in (change_type x (λ r. with_method r m) ts) y)
change_grows x m [] y = inl refl
change_grows x m (t ∷ ts) y = go (bytes_eq t.name x) (bytes_eq t.name y) refl (change_grows x m ts y)
  where
    go : (b c : Bool) → bytes_eq t.name y ≡ c → DescGrows (desc_in ts y) (desc_in (change_type x (λ r. with_method r m) ts) y) → DescGrows (own_desc (cond c (Some t) (find (λ t. bytes_eq t.name y) ts))) (own_desc (cond (bytes_eq (changed_if b (λ r. with_method r m) t).name y) (Some (changed_if b (λ r. with_method r m) t)) (find (λ t. bytes_eq t.name y) (change_type x (λ r. with_method r m) ts))))
    go true true e k = subst (λ c. DescGrows (Some t.desc) (own_desc (cond c (Some (changed_if true (λ r. with_method r m) t)) (find (λ t. bytes_eq t.name y) (change_type x (λ r. with_method r m) ts))))) (sym e) (desc_changes m t.desc)
    go false true e k = subst (λ c. DescGrows (Some t.desc) (own_desc (cond c (Some t) (find (λ t. bytes_eq t.name y) (change_type x (λ r. with_method r m) ts))))) (sym e) (inl refl)
    go true false e k = subst (λ c. DescGrows (desc_in ts y) (own_desc (cond c (Some (changed_if true (λ r. with_method r m) t)) (find (λ t. bytes_eq t.name y) (change_type x (λ r. with_method r m) ts))))) (sym e) k
    go false false e k = subst (λ c. DescGrows (desc_in ts y) (own_desc (cond c (Some t) (find (λ t. bytes_eq t.name y) (change_type x (λ r. with_method r m) ts))))) (sym e) k

pub changed_there : (x : List ℕ) (m : Method) (ts : List TypedType) (r : RecordDesc) → desc_in ts x ≡ Some (desc.Record r) → desc_in (change_type x (λ r. with_method r m) ts) x ≡ Some (desc.Record (with_method r m))
changed_there x m [] r e = absurd cc
changed_there x m (t ∷ ts) r e = go (bytes_eq t.name x) refl e (changed_there x m ts r)
  where
    go : (b : Bool) → bytes_eq t.name x ≡ b → own_desc (cond b (Some t) (find (λ t. bytes_eq t.name x) ts)) ≡ Some (desc.Record r) → (desc_in ts x ≡ Some (desc.Record r) → desc_in (change_type x (λ r. with_method r m) ts) x ≡ Some (desc.Record (with_method r m))) → own_desc (cond (bytes_eq (changed_if b (λ r. with_method r m) t).name x) (Some (changed_if b (λ r. with_method r m) t)) (find (λ t. bytes_eq t.name x) (change_type x (λ r. with_method r m) ts))) ≡ Some (desc.Record (with_method r m))
    go true i e k = let same : t.desc ≡ desc.Record r = cc in ap (λ c. own_desc (cond c (Some (changed_if true (λ r. with_method r m) t)) (find (λ t. bytes_eq t.name x) (change_type x (λ r. with_method r m) ts)))) i ∙ ap (λ d. Some (change_desc (λ r. with_method r m) d)) same
    go false i e k = ap (λ c. own_desc (cond c (Some t) (find (λ t. bytes_eq t.name x) (change_type x (λ r. with_method r m) ts)))) i ∙ k e

-- ---- among headings and types

abbrev pub Among : {A : Type 0} → A → List A → Type 0
Among x [] = ⊥
Among x (y ∷ ys) = (y ≡ x) ⊎ Among x ys

filter_if : {A : Type 0} (b : Bool) (x y : A) (ys : List A) → (y ≡ x → b ≡ true) → (y ≡ x) ⊎ Among x ys → Among x (cond b (y ∷ ys) ys)
filter_if true x y ys f h = h
filter_if false x y ys f (inl e) = absurd (no (f e))
  where
    no : false ≡ true → ⊥
    no e = absurd cc
filter_if false x y ys f (inr h) = h

pub either : {A B C : Type 0} → (B → C) → A ⊎ B → A ⊎ C
either f (inl a) = inl a
either f (inr b) = inr (f b)

pub filter_among : {A : Type 0} (test : A → Bool) (x : A) → test x ≡ true → (ys : List A) → Among x ys → Among x (filter test ys)
filter_among test x t [] h = h
filter_among test x t (y ∷ ys) h = filter_if (test y) x y (filter test ys) (λ e. ap test e ∙ t) (either (filter_among test x t ys) h)

-- a type of that name is among them
abbrev pub Named : List ℕ → List TypedType → Type 0
Named x [] = ⊥
Named x (t ∷ ts) = (bytes_eq x t.name ≡ true) ⊎ Named x ts

pub found_named : (x : List ℕ) (ts : List TypedType) (d : Desc) → desc_in ts x ≡ Some d → Named x ts
found_named x [] d e = absurd cc
found_named x (t ∷ ts) d e = go (bytes_eq t.name x) refl e (found_named x ts d)
  where
    go : (b : Bool) → bytes_eq t.name x ≡ b → own_desc (cond b (Some t) (find (λ t. bytes_eq t.name x) ts)) ≡ Some d → (desc_in ts x ≡ Some d → Named x ts) → Named x (t ∷ ts)
    go true i e k = inl (bytes_turned t.name x i)
    go false i e k = inr (k e)

pub named_front : (x : List ℕ) (ts us : List TypedType) → Named x ts → Named x (ts ++ us)
named_front x [] us h = absurd h
named_front x (t ∷ ts) us h = either (named_front x ts us) h

pub named_back : (x : List ℕ) (ts us : List TypedType) → Named x us → Named x (ts ++ us)
named_back x [] us h = h
named_back x (t ∷ ts) us h = inr (named_back x ts us h)

pub named_parts : (x : List ℕ) (ts us : List TypedType) → Named x (ts ++ us) → Named x ts ⊎ Named x us
named_parts x [] us h = inr h
named_parts x (t ∷ ts) us (inl e) = inl (inl e)
named_parts x (t ∷ ts) us (inr h) = ⊎_elim (λ k. inl (inr k)) (λ k. inr k) (named_parts x ts us h)

pub named_reversed : (x : List ℕ) (ts : List TypedType) → Named x ts → Named x (reversed ts)
named_reversed x [] h = h
named_reversed x (t ∷ ts) (inl e) = named_back x (reversed ts) (t ∷ []) (inl e)
named_reversed x (t ∷ ts) (inr h) = named_front x (reversed ts) (t ∷ []) (named_reversed x ts h)

-- a record type by its name
pub record HasRecord (ts : List TypedType) (x : List ℕ) : Type 0 where
  pub r : RecordDesc
  pub is : desc_in ts x ≡ Some (desc.Record r)

record_grows : (a b : Option Desc) (r : RecordDesc) → DescGrows a b → a ≡ Some (desc.Record r) → (s : RecordDesc) × (b ≡ Some (desc.Record s))
record_grows a b r (inl e) i = (r, sym e ∙ i)
record_grows a b r (inr g) i = (g.s, g.is)

-- ---- one procedure, bound to a record of the module

module _ (u : Around) (h0 : Head) (b0 : BoundAs) (own : bytes_eq b0.owner.«module» u.unit ≡ true) (bound : h0.bound ≡ Some b0) (forward : h0.forward ≡ false) where
  abbrev pub map_in : List TypedType → Map
  map_in ts = map_of (record u { own = ts })

  abbrev pub Is : List TypedType → Type 0
  Is ts = IsMethod (member (map_in ts) b0.owner h0.name)

  pub record Step (s t : Binding) : Type 0 where
    pub quiet : t.notes.broken ≡ [] → s.notes.broken ≡ []
    pub keeps : Is s.own → Is t.own
    pub there : HasRecord s.own b0.owner.object → HasRecord t.own b0.owner.object

  stays : (s : Binding) → Step s s
  stays s = record { quiet = λ e. e; keeps = λ i. i; there = λ r. r }

  then : (s t v : Binding) → Step s t → Step t v → Step s v
  then s t v a b = record { quiet = λ e. a.quiet (b.quiet e); keeps = λ i. b.keeps (a.keeps i); there = λ r. b.there (a.there r) }

  map_grows : (x : List ℕ) (m : Method) (ts : List TypedType) → MapGrows (map_in ts) (map_in (change_type x (λ r. with_method r m) ts))
  map_grows x m ts q = go (bytes_eq q.«module» u.unit) (same_name q out_string)
    where
      go : (b c : Bool) → DescGrows (type_desc b c (record u { own = ts }) q) (type_desc b c (record u { own = change_type x (λ r. with_method r m) ts }) q)
      go true c = change_grows x m ts q.object
      go false true = inl refl
      go false false = inl refl

  introduced : (s : Binding) (h : Head) (b : BoundAs) → Step s (introduce s h b)
  introduced s h b = record {
    quiet = λ e. e;
    keeps = member_grows (map_in s.own) (map_in (introduce s h b).own) (map_grows b.owner.object (new_method h b) s.own) b0.owner h0.name;
    there = λ r. let k = record_grows (desc_in s.own b0.owner.object) (desc_in (introduce s h b).own b0.owner.object) r.r (change_grows b.owner.object (new_method h b) s.own b0.owner.object) r.is in record { r = k.0; is = k.1 };
  }

  redefined_step : (c : Bool) (s : Binding) (h : Head) (b : BoundAs) → Step s (redefined c s h b)
  redefined_step true s h b = record { quiet = λ e. front_empty s.notes.broken _ e; keeps = λ i. i; there = λ r. r }
  redefined_step false s h b = record { quiet = λ e. e; keeps = λ i. i; there = λ r. r }

  method_step : (c : Bool) (map : Map) (s : Binding) (h : Head) (b : BoundAs) (q : QName) (m : Method) → Step s (bind_method c u map s h b q m)
  method_step true map s h b q m = stays s
  method_step false map s h b q m = redefined_step _ s h b

  by_step : (map : Map) (s : Binding) (h : Head) (b : BoundAs) (o : Option Member) → Step s (bind_by u map s h b o)
  by_step map s h b None = introduced s h b
  by_step map s h b (Some (AField q f)) = record { quiet = λ e. front_empty s.notes.broken _ e; keeps = λ i. i; there = λ r. r }
  by_step map s h b (Some (AMethod q m)) = method_step _ map s h b q m

  pub one_step : (s : Binding) (h : Head) (o : Option BoundAs) → Step s (bind_one u s h o)
  one_step s h None = stays s
  one_step s h (Some b) = by_step (map_in s.own) s h b (member (map_in s.own) b.owner h.name)

  pub all_step : (hs : List Head) (s : Binding) → Step s (bind_all u s hs)
  all_step [] s = stays s
  all_step (h ∷ hs) s = then s (bind_one u s h h.bound) (bind_all u (bind_one u s h h.bound) hs) (one_step s h h.bound) (all_step hs (bind_one u s h h.bound))

  pub records_step : (hs : List Head) (ts : List TypedType) (s : Binding) → Step s (bind_records u hs s ts)
  records_step hs [] s = stays s
  records_step hs (t ∷ ts) s = then s (bind_all u s (filter (of_record t.name) hs)) (bind_records u hs (bind_all u s (filter (of_record t.name) hs)) ts) (all_step (filter (of_record t.name) hs) s) (records_step hs ts (bind_all u s (filter (of_record t.name) hs)))

  -- ---- itself

  pub at_own : (ts : List TypedType) → map_in ts b0.owner ≡ desc_in ts b0.owner.object
  at_own ts = ap (λ b. type_desc b (same_name b0.owner out_string) (record u { own = ts }) b0.owner) own

  said : (f : Bool) (at : Pos) → f ≡ false → (notes_if (not f) rule.DeclaredTwice at).broken ≡ [] → ⊥
  said true at f e = absurd cc
  said false at f e = absurd cc

  by_gains : (s : Binding) → HasRecord s.own b0.owner.object → (o : Option Member) → member (map_in s.own) b0.owner h0.name ≡ o → (bind_by u (map_in s.own) s h0 b0 o).notes.broken ≡ [] → Is (bind_by u (map_in s.own) s h0 b0 o).own
  by_gains s r None i e =
      member_gained (map_in s.own) (map_in (introduce s h0 b0).own) b0.owner r.r (new_method h0 b0) (at_own s.own ∙ r.is)
      (at_own (introduce s h0 b0).own ∙ changed_there b0.owner.object (new_method h0 b0) s.own r.r r.is) h0.name ((bytes_eq-Decides h0.name h0.name).1 refl) i
  by_gains s r (Some (AField q f)) i e = absurd (said h0.forward h0.at forward (back_empty s.notes.broken (notes_if (not h0.forward) rule.DeclaredTwice h0.at).broken e))
  by_gains s r (Some (AMethod q m)) i e = (by_step (map_in s.own) s h0 b0 (Some (AMethod q m))).keeps (subst IsMethod (sym i) tt)

  one_gains : (s : Binding) → HasRecord s.own b0.owner.object → (bind_one u s h0 h0.bound).notes.broken ≡ [] → Is (bind_one u s h0 h0.bound).own
  one_gains s r e =
      let same : bind_one u s h0 h0.bound ≡ bind_one u s h0 (Some b0) = ap (bind_one u s h0) bound in
      subst (λ (z : Binding). Is z.own) (sym same) (by_gains s r (member (map_in s.own) b0.owner h0.name) refl (subst (λ (z : Binding). z.notes.broken ≡ []) same e))

  all_gains : (hs : List Head) → Among h0 hs → (s : Binding) → HasRecord s.own b0.owner.object → (bind_all u s hs).notes.broken ≡ [] → Is (bind_all u s hs).own
  all_gains [] a s r e = absurd a
  all_gains (h ∷ hs) (inl i) s r e =
      let n = bind_one u s h h.bound in
      let same : bind_one u s h0 h0.bound ≡ n = ap (λ (k : Head). bind_one u s k k.bound) (sym i) in
      let q : n.notes.broken ≡ [] = (all_step hs n).quiet e in
      (all_step hs n).keeps (subst (λ (z : Binding). Is z.own) same (one_gains s r (subst (λ (z : Binding). z.notes.broken ≡ []) (sym same) q)))
  all_gains (h ∷ hs) (inr a) s r e = all_gains hs a (bind_one u s h h.bound) ((one_step s h h.bound).there r) e

  pub of_owner : (x : List ℕ) → bytes_eq b0.owner.object x ≡ true → of_record x h0 ≡ true
  of_owner x e = ap (owner_is x) bound ∙ e

  records_gain : (hs : List Head) → Among h0 hs → (ts : List TypedType) → Named b0.owner.object ts → (s : Binding) → HasRecord s.own b0.owner.object → (bind_records u hs s ts).notes.broken ≡ [] → Is (bind_records u hs s ts).own
  records_gain hs a [] n s r e = absurd n
  records_gain hs a (t ∷ ts) (inl i) s r e =
      let some = filter (of_record t.name) hs in
      let k = bind_all u s some in
      (records_step hs ts k).keeps (all_gains some (filter_among (of_record t.name) h0 (of_owner t.name i) hs a) s r ((records_step hs ts k).quiet e))
  records_gain hs a (t ∷ ts) (inr n) s r e = records_gain hs a ts n (bind_all u s (filter (of_record t.name) hs)) ((all_step (filter (of_record t.name) hs) s).there r) e

  pub counts_true : (all : List Head) → h0.is_bound ≡ true → counts all h0 ≡ true
  counts_true all b = ap (λ a. a && is_some h0.bound && counts_if h0.forward all h0) b ∙ ap (λ o. is_some o && counts_if h0.forward all h0) bound ∙ ap (λ f. counts_if f all h0) forward

  same_around : (b : Binding) → MapGrows (map_in b.own) (map_of (with_bound u b))
  same_around b q = go (bytes_eq q.«module» u.unit) (same_name q out_string)
    where
      go : (c d : Bool) → DescGrows (type_desc c d (record u { own = b.own }) q) (type_desc c d (with_bound u b) q)
      go true d = inl refl
      go false true = inl refl
      go false false = inl refl

  has_binding : (q : QName) (o : Option Member) → IsMethod o → is_none (binding_of q b0 o) ≡ false
  has_binding q None i = absurd i
  has_binding q (Some (AField p f)) i = absurd i
  has_binding q (Some (AMethod p m)) i = refl

  -- it is bound
  pub is_bound : (hs : List Head) → Among h0 hs → h0.is_bound ≡ true → HasRecord u.own b0.owner.object → (bindings u hs).notes.broken ≡ [] → is_none (bound_to (map_of (with_bound u (bindings u hs))) h0 h0.bound) ≡ false
  is_bound hs a b r e =
      let some = bindings u hs in
      let k : Is some.own = records_gain (counted hs) (filter_among (counts hs) h0 (counts_true hs b) hs a) (reversed u.own) (named_reversed b0.owner.object u.own (found_named b0.owner.object u.own (desc.Record r.r) r.is)) (record { own = u.own; bound = []; notes = no_notes }) r e in
      ap (λ o. is_none (bound_to (map_of (with_bound u some)) h0 o)) bound ∙ has_binding b0.owner (member (map_of (with_bound u some)) b0.owner h0.name) (member_grows (map_in some.own) (map_of (with_bound u some)) (same_around some) b0.owner h0.name k)
