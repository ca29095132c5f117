-- What is bound to the types of a module: of a record and its bases, one alone introduces a procedure of a name.
use Rattle.std.proofs.Common.{◌≡◌, ◌⊎◌, ⊎_elim, inl, inr, refl, sym, ap, subst, ◌∙◌, ℕ, zero, suc, ◌≤◌, ◌<◌, Bool, true, false, List, [], ◌∷◌, ◌++◌, length, Option, Some, None, arith, append_assoc}
use Rattle.std.specs.Prelude.{bytes_eq, cond, ◌||◌}
use Rattle.std.specs.List.{AllByRecursion, find, filter}
use Rattle.ob_tree.specs.declared.names.QName.{QName}
use Rattle.ob_types.specs.declared.desc.Desc.{Desc}
use Rattle.ob_types.specs.declared.desc.Desc.TheVariants as desc
use Rattle.ob_types.specs.declared.desc.Field.{Field}
use Rattle.ob_types.specs.declared.desc.Method.{Method}
use Rattle.ob_types.specs.declared.desc.RecordDesc.{RecordDesc}
use Rattle.ob_types.specs.declared.typed.TypedType.{TypedType}
use Rattle.law_simulation_relation.proofs.Names.{bytes_true, bytes_same}
use Rattle.ob_rules.specs.Shapes.{Map, Member, AField, AMethod, same_name, field_or, own_member, or_in_base, base_record, member_within, member}
use Rattle.ob_rules.specs.Names.{Around, map_of, own_desc, type_desc, out_string}
use Rattle.ob_rules.specs.Headings.{Head, BoundAs, Binding, change_desc, changed_if, change_type, with_method, new_method, redefined, bind_method, bind_by, bind_one, bind_all, owner_is, of_record, bind_records, reversed}
use Rattle.law_typing_forms.specs.Said.{IsOneOf}
use Rattle.law_body_context.specs.Order.{IsFresh, AreInOrder}
use Rattle.law_body_context.proofs.Lists.{one_all}
use Rattle.law_methods_introduced.proofs.Grown.{DescGrows, MapGrows, IsMethod, base_record_same, member_gained}
use Rattle.law_methods_introduced.proofs.Binding.{desc_in, change_grows, changed_there}
use Rattle.law_local_methods.specs.Laws.{IsOwned}
use Rattle.law_local_methods.proofs.Members.{members_stay}
use Rattle.law_methods_introduced.specs.Families.{Introduces}
use Rattle.law_program_typing.specs.Once.{Line, AreOnce, ShowOthers}
use Rattle.law_program_typing.proofs.Ranks.{has, rank, rank_most, rank_behind, AreOne, above_lower}
use Rattle.law_lists.proofs.Lists.{or_first, or_second}

-- ---- what one more bound procedure changes

changed_else : (x y : List ℕ) (f : RecordDesc → RecordDesc) → bytes_eq x y ≡ false → (ts : List TypedType) → desc_in (change_type x f ts) y ≡ desc_in ts y
changed_else x y f e [] = refl
changed_else x y f e (t ∷ ts) = by (bytes_eq t.name x) refl (changed_else x y f e ts)
  where
    by : (b : Bool) → bytes_eq t.name x ≡ b → desc_in (change_type x f ts) y ≡ desc_in ts y → desc_in (changed_if b f t ∷ change_type x f ts) y ≡ desc_in (t ∷ ts) y
    by true i h =
        let n : bytes_eq t.name y ≡ false = ap (λ z. bytes_eq z y) (bytes_true t.name x i) ∙ e in
        ap (λ c. own_desc (cond c (Some (changed_if true f t)) (find (λ t. bytes_eq t.name y) (change_type x f ts)))) n
        ∙ (h ∙ sym (ap (λ c. own_desc (cond c (Some t) (find (λ t. bytes_eq t.name y) ts))) n))
    by false i h = same (bytes_eq t.name y) h
      where
        same : (c : Bool) → own_desc (find (λ t. bytes_eq t.name y) (change_type x f ts)) ≡ own_desc (find (λ t. bytes_eq t.name y) ts) → own_desc (cond c (Some t) (find (λ t. bytes_eq t.name y) (change_type x f ts))) ≡ own_desc (cond c (Some t) (find (λ t. bytes_eq t.name y) ts))
        same true h = refl
        same false h = h

-- no record, no change
changed_none : (x : List ℕ) (m : Method) (ts : List TypedType) → ((r : RecordDesc) → desc_in ts x ≡ Some (desc.Record r) → ⊥) → desc_in (change_type x (λ r. with_method r m) ts) x ≡ desc_in ts x
changed_none x m [] n = refl
changed_none x m (t ∷ ts) n = by (bytes_eq t.name x) refl n (changed_none x m ts)
  where
    same_desc : (d : Desc) → ((r : RecordDesc) → Some d ≡ Some (desc.Record r) → ⊥) → Some (change_desc (λ r. with_method r m) d) ≡ Some d
    same_desc (desc.Record r) n = absurd (n r refl)
    same_desc (desc.Const v) n = refl
    same_desc (desc.Var k t) n = refl
    same_desc (desc.Proc s) n = refl
    same_desc (desc.Alias k t) n = refl
    same_desc (desc.Array k i t) n = refl
    same_desc (desc.OpenArray k t) n = refl
    same_desc (desc.Pointer k t) n = refl
    same_desc (desc.ProcType k s) n = refl

    by : (b : Bool) → bytes_eq t.name x ≡ b → ((r : RecordDesc) → own_desc (cond (bytes_eq t.name x) (Some t) (find (λ t. bytes_eq t.name x) ts)) ≡ Some (desc.Record r) → ⊥) → (((r : RecordDesc) → desc_in ts x ≡ Some (desc.Record r) → ⊥) → desc_in (change_type x (λ r. with_method r m) ts) x ≡ desc_in ts x)
        → desc_in (changed_if b (λ r. with_method r m) t ∷ change_type x (λ r. with_method r m) ts) x ≡ desc_in (t ∷ ts) x
    by true i n up =
        let s = same_desc t.desc (λ r e. n r (ap (λ c. own_desc (cond c (Some t) (find (λ t. bytes_eq t.name x) ts))) i ∙ e)) in
        ap (λ c. own_desc (cond c (Some (changed_if true (λ r. with_method r m) t)) (find (λ t. bytes_eq t.name x) (change_type x (λ r. with_method r m) ts)))) i ∙ (s ∙ sym (ap (λ c. own_desc (cond c (Some t) (find (λ t. bytes_eq t.name x) ts))) i))
    by false i n up =
        ap (λ c. own_desc (cond c (Some t) (find (λ t. bytes_eq t.name x) (change_type x (λ r. with_method r m) ts)))) i
        ∙ (up (λ r e. n r (ap (λ c. own_desc (cond c (Some t) (find (λ t. bytes_eq t.name x) ts))) i ∙ e)) ∙ sym (ap (λ c. own_desc (cond c (Some t) (find (λ t. bytes_eq t.name x) ts))) i))

-- the bound procedure of a name, one more behind them
find_behind : (x : List ℕ) (ms : List Method) (m k : Method) → find (λ (n : Method). bytes_eq n.name x) (ms ++ m ∷ []) ≡ Some k → ((l : Method) × (find (λ (n : Method). bytes_eq n.name x) ms ≡ Some l)) ⊎ (bytes_eq m.name x ≡ true)
find_behind x [] m k e = by (bytes_eq m.name x) refl e
  where
    by : (b : Bool) → bytes_eq m.name x ≡ b → cond b (Some m) None ≡ Some k → ((l : Method) × (None ≡ Some l)) ⊎ (bytes_eq m.name x ≡ true)
    by true i e = inr i
    by false i e = absurd cc
find_behind x (n ∷ ms) m k e = by (bytes_eq n.name x) e (find_behind x ms m k)
  where
    by : (b : Bool) → cond b (Some n) (find (λ (n : Method). bytes_eq n.name x) (ms ++ m ∷ [])) ≡ Some k → (find (λ (n : Method). bytes_eq n.name x) (ms ++ m ∷ []) ≡ Some k → ((l : Method) × (find (λ (n : Method). bytes_eq n.name x) ms ≡ Some l)) ⊎ (bytes_eq m.name x ≡ true)) → ((l : Method) × (cond b (Some n) (find (λ (n : Method). bytes_eq n.name x) ms) ≡ Some l)) ⊎ (bytes_eq m.name x ≡ true)
    by true e up = inl (n, refl)
    by false e up = up e

record_or : (d : Desc) → ((r : RecordDesc) × (d ≡ desc.Record r)) ⊎ ((r : RecordDesc) → d ≡ desc.Record r → ⊥)
record_or (desc.Record r) = inl (r, refl)
record_or (desc.Const v) = inr (λ r e. cc)
record_or (desc.Var k t) = inr (λ r e. cc)
record_or (desc.Proc s) = inr (λ r e. cc)
record_or (desc.Alias k t) = inr (λ r e. cc)
record_or (desc.Array k n t) = inr (λ r e. cc)
record_or (desc.OpenArray k t) = inr (λ r e. cc)
record_or (desc.Pointer k t) = inr (λ r e. cc)
record_or (desc.ProcType k s) = inr (λ r e. cc)

-- a member of a record is found where it is its own
within_own : (map : Map) (n : ℕ) (q : QName) (x : List ℕ) (m : Member) → own_member q (map q) x ≡ Some m → member_within map (suc n) q x ≡ None → ⊥
unfolding member_within
within_own map n q x m e h = by (own_member q (map q) x) e h
  where
    by : (o : Option Member) → o ≡ Some m → or_in_base o (base_record map q) (λ b. member_within map n b x) ≡ None → ⊥
    by None e h = absurd cc
    by (Some k) e h = absurd cc

-- none along a line where the record has none
none_along : (map : Map) (n : ℕ) (q b : QName) (x : List ℕ) → member_within map n q x ≡ None → Line map n q b → (m : Member) → own_member b (map b) x ≡ Some m → ⊥
unfolding member_within
none_along map zero q b x h l m e = absurd l
none_along map (suc n) q b x h (inl i) m e = within_own map n q x m (ap (λ p. own_member p (map p) x) i ∙ e) h
none_along map (suc n) q b x h (inr (c, (i, l))) m e = by (own_member q (map q) x) (base_record map q) i h (λ k. none_along map n c b x k l m e)
  where
    by : (o : Option Member) (p : Option QName) → p ≡ Some c → or_in_base o p (λ b. member_within map n b x) ≡ None → (member_within map n c x ≡ None → ⊥) → ⊥
    by (Some k) p j h up = absurd cc
    by None None j h up = absurd cc
    by None (Some d) j h up = let same : d ≡ c = cc in up (subst (λ z. member_within map n z x ≡ None) same h)

pub line_same : (f g : Map) → ((q : QName) → base_record f q ≡ base_record g q) → (n : ℕ) (q b : QName) → Line f n q b → Line g n q b
line_same f g s zero q b l = l
line_same f g s (suc n) q b (inl e) = inl e
line_same f g s (suc n) q b (inr (c, (e, l))) = inr (c, (sym (s q) ∙ e, line_same f g s n c b l))

-- what is introduced is a member
own_some : (map : Map) (q : QName) (x : List ℕ) → Introduces map q x → (m : Member) × (own_member q (map q) x ≡ Some m)
own_some map q x h = by (find (λ (f : Field). bytes_eq f.name x) h.r.fields) refl
  where
    by : (o : Option Field) → find (λ (f : Field). bytes_eq f.name x) h.r.fields ≡ o → (m : Member) × (own_member q (map q) x ≡ Some m)
    by (Some f) e = (AField q f, ap (λ d. own_member q d x) h.is ∙ ap (λ o. field_or q o (find (λ (n : Method). bytes_eq n.name x) h.r.methods)) e)
    by None e = (AMethod q h.m, ap (λ d. own_member q d x) h.is ∙ (ap (λ o. field_or q o (find (λ (n : Method). bytes_eq n.name x) h.r.methods)) e ∙ ap (field_or q None) h.found))

some_member : (o : Option Member) → (o ≡ None → ⊥) → (m : Member) × (o ≡ Some m)
some_member None h = absurd (h refl)
some_member (Some m) h = (m, refl)

none_some : {A : Type 0} (o : Option A) (m : A) → o ≡ Some m → o ≡ None → ⊥
none_some None m e h = absurd cc
none_some (Some k) m e h = absurd cc

module _ (u : Around) (own0 : List TypedType) (order : AreInOrder u.unit u.shown own0) (one : AreOne own0) (others : ShowOthers u.shown u.unit) (hs : List Head) (owned : AllByRecursion (λ (h : Head). IsOwned u.unit h.bound) hs) where
  abbrev map_in : List TypedType → Map
  map_in ts = map_of (record u { own = ts })

  abbrev F : Map
  F = map_in own0

  abbrev IsOurs : QName → Type 0
  IsOurs q = bytes_eq q.«module» u.unit ≡ true

  at_own : (q : QName) → IsOurs q → (ts : List TypedType) → map_in ts q ≡ desc_in ts q.object
  at_own q i ts = ap (λ b. type_desc b (same_name q out_string) (record u { own = ts }) q) i

  -- of other modules nothing changes
  at_other : (q : QName) → bytes_eq q.«module» u.unit ≡ false → (ts us : List TypedType) → map_in ts q ≡ map_in us q
  at_other q i ts us = ap (λ b. type_desc b (same_name q out_string) (record u { own = ts }) q) i ∙ (by (same_name q out_string) ∙ sym (ap (λ b. type_desc b (same_name q out_string) (record u { own = us }) q) i))
    where
      by : (c : Bool) → type_desc false c (record u { own = ts }) q ≡ type_desc false c (record u { own = us }) q
      by true = refl
      by false = refl

  abbrev IsRecordAt : List TypedType → QName → Type 0
  IsRecordAt ts q = (r : RecordDesc) × (desc_in ts q.object ≡ Some (desc.Record r))

  abbrev Has : List TypedType → QName → List ℕ → Type 0
  Has ts q x = Introduces (map_in ts) q x

  abbrev IsNone : List TypedType → QName → List ℕ → Type 0
  IsNone ts q x = member (map_in ts) q x ≡ None

  same_qname : (p q : QName) → p.«module» ≡ q.«module» → p.object ≡ q.object → p ≡ q
  same_qname p q e f = ap (λ n. let r : QName = record { «module» = n; object = p.object } in r) e ∙ ap (λ o. let r : QName = record { «module» = q.«module»; object = o } in r) f

  -- ---- one step

  -- what comes of a heading: what records have of their own they had, or it is the heading's procedure
  record Step (ts us : List TypedType) (q : QName) (y : List ℕ) : Type 0 where
    pub bases : (p : QName) → base_record (map_in us) p ≡ base_record (map_in ts) p
    pub back : (p : QName) (x : List ℕ) → Has us p x → Has ts p x ⊎ (((p ≡ q) × (x ≡ y)) × (IsRecordAt ts q × IsNone ts q y))
    pub stays : (p : QName) (x : List ℕ) → (IsNone ts p x → ⊥) → IsNone us p x → ⊥
    pub record_back : (p : QName) → IsRecordAt us p → IsRecordAt ts p
    pub present : IsRecordAt ts q → IsNone us q y → ⊥

  step_same : (ts us : List TypedType) → us ≡ ts → (q : QName) (y : List ℕ) → (IsNone ts q y → ⊥) → Step ts us q y
  step_same ts us e q y n = record {
    bases = λ p. ap (λ zs. base_record (map_in zs) p) e;
    back = λ p x h. inl (subst (λ zs. Has zs p x) e h);
    stays = λ p x h i. h (subst (λ zs. IsNone zs p x) e i);
    record_back = λ p r. subst (λ zs. IsRecordAt zs p) e r;
    present = λ r i. n (subst (λ zs. IsNone zs q y) e i);
  }

  module _ (ts : List TypedType) (q : QName) (ours : IsOurs q) (m : Method) (none : IsNone ts q m.name) where
    abbrev more : List TypedType
    more = change_type q.object (λ r. with_method r m) ts

    grows : MapGrows (map_in ts) (map_in more)
    grows p = by (bytes_eq p.«module» u.unit) (same_name p out_string)
      where
        by : (b c : Bool) → DescGrows (type_desc b c (record u { own = ts }) p) (type_desc b c (record u { own = more }) p)
        by true c = change_grows q.object m ts p.object
        by false true = inl refl
        by false false = inl refl

    keeps : (p : QName) (x : List ℕ) → map_in more p ≡ map_in ts p → Has more p x → Has ts p x
    keeps p x e h = record { r = h.r; is = sym e ∙ h.is; m = h.m; found = h.found }

    -- at the record itself
    at_record : (o : Option Desc) → desc_in ts q.object ≡ o → (x : List ℕ) → Has more q x → Has ts q x ⊎ (((q ≡ q) × (x ≡ m.name)) × (IsRecordAt ts q × IsNone ts q m.name))
    at_record None e x h = inl (keeps q x (same (λ r i. none_some (desc_in ts q.object) (desc.Record r) i e)) h)
      where
        same : ((r : RecordDesc) → desc_in ts q.object ≡ Some (desc.Record r) → ⊥) → map_in more q ≡ map_in ts q
        same n = at_own q ours more ∙ (changed_none q.object m ts n ∙ sym (at_own q ours ts))
    at_record (Some d) e x h = ⊎_elim (λ k. there k.0 (e ∙ ap (λ z. Some z) k.1)) (λ n. inl (keeps q x (same (λ r i. n r (some_same d (desc.Record r) (sym e ∙ i)))) h)) (record_or d)
      where
        same : ((r : RecordDesc) → desc_in ts q.object ≡ Some (desc.Record r) → ⊥) → map_in more q ≡ map_in ts q
        same n = at_own q ours more ∙ (changed_none q.object m ts n ∙ sym (at_own q ours ts))

        some_same : (d e : Desc) → Some d ≡ Some e → d ≡ e
        some_same d e i = cc

        same_record : (a b : RecordDesc) → Some (desc.Record a) ≡ Some (desc.Record b) → a ≡ b
        same_record a b e = cc

        there : (r : RecordDesc) → desc_in ts q.object ≡ Some (desc.Record r) → Has ts q x ⊎ (((q ≡ q) × (x ≡ m.name)) × (IsRecordAt ts q × IsNone ts q m.name))
        there r e =
            let f = at_own q ours more ∙ changed_there q.object m ts r e in
            let s = same_record h.r (with_method r m) (sym h.is ∙ f) in
            ⊎_elim (λ l. inl (record { r = r; is = at_own q ours ts ∙ e; m = l.0; found = l.1 })) (λ i. inr ((refl, sym (bytes_true m.name x i)), ((r, e), none))) (find_behind x r.methods m h.m (ap (λ (z : RecordDesc). find (λ (n : Method). bytes_eq n.name x) z.methods) (sym s) ∙ h.found))

    at_object : (p : QName) (x : List ℕ) → IsOurs p → (b : Bool) → bytes_eq q.object p.object ≡ b → Has more p x → Has ts p x ⊎ (((p ≡ q) × (x ≡ m.name)) × (IsRecordAt ts q × IsNone ts q m.name))
    at_object p x i false e h = inl (keeps p x (at_own p i more ∙ (changed_else q.object p.object (λ r. with_method r m) e ts ∙ sym (at_own p i ts))) h)
    at_object p x i true e h =
        let s : p ≡ q = same_qname p q (bytes_true p.«module» u.unit i ∙ sym (bytes_true q.«module» u.unit ours)) (sym (bytes_true q.object p.object e)) in
        subst (λ z. Has more z x → Has ts z x ⊎ (((z ≡ q) × (x ≡ m.name)) × (IsRecordAt ts q × IsNone ts q m.name))) (sym s) (at_record (desc_in ts q.object) refl x) h

    back_to : (p : QName) (x : List ℕ) → Has more p x → Has ts p x ⊎ (((p ≡ q) × (x ≡ m.name)) × (IsRecordAt ts q × IsNone ts q m.name))
    back_to p x h = by (bytes_eq p.«module» u.unit) refl
      where
        by : (b : Bool) → bytes_eq p.«module» u.unit ≡ b → Has ts p x ⊎ (((p ≡ q) × (x ≡ m.name)) × (IsRecordAt ts q × IsNone ts q m.name))
        by true i = at_object p x i (bytes_eq q.object p.object) refl h
        by false i = inl (keeps p x (at_other p i more ts) h)

    record_from : (p : QName) → IsRecordAt more p → IsRecordAt ts p
    record_from p r = by (desc_in ts p.object) (desc_in more p.object) (change_grows q.object m ts p.object) r.1
      where
        by : (a b : Option Desc) → DescGrows a b → b ≡ Some (desc.Record r.0) → (s : RecordDesc) × (a ≡ Some (desc.Record s))
        by a b (inl e) i = (r.0, e ∙ i)
        by a b (inr g) i = (g.r, g.was)

    stay : (p : QName) (x : List ℕ) → (IsNone ts p x → ⊥) → IsNone more p x → ⊥
    stay p x h i =
        let k = some_member (member (map_in ts) p x) h in
        none_some (member (map_in more) p x) k.0 (members_stay u ts q m ours none p x k.0 k.1) i

    no_method : (o : Option Member) → IsMethod o → o ≡ None → ⊥
    no_method None h e = h
    no_method (Some k) h e = absurd cc

    gained : IsRecordAt ts q → IsNone more q m.name → ⊥
    gained r i = no_method (member (map_in more) q m.name) (member_gained (map_in ts) (map_in more) q r.0 m (at_own q ours ts ∙ r.1) (at_own q ours more ∙ changed_there q.object m ts r.0 r.1) m.name (bytes_same m.name) none) i

    step_gains : Step ts more q m.name
    step_gains = record { bases = λ p. sym (base_record_same (map_in ts) (map_in more) grows p); back = back_to; stays = stay; record_back = record_from; present = gained }

  redefined_own : (c : Bool) (s : Binding) (h : Head) (b : BoundAs) → (redefined c s h b).own ≡ s.own
  redefined_own true s h b = refl
  redefined_own false s h b = refl

  method_own : (c : Bool) (map : Map) (s : Binding) (h : Head) (b : BoundAs) (q : QName) (m : Method) → (bind_method c u map s h b q m).own ≡ s.own
  method_own true map s h b q m = refl
  method_own false map s h b q m = redefined_own _ s h b

  by_step : (s : Binding) (h : Head) (b : BoundAs) → IsOurs b.owner → (o : Option Member) → member (map_in s.own) b.owner h.name ≡ o → Step s.own (bind_by u (map_in s.own) s h b o).own b.owner h.name
  by_step s h b i None e = step_gains s.own b.owner i (new_method h b) e
  by_step s h b i (Some (AField q f)) e = step_same s.own s.own refl b.owner h.name (none_some (member (map_in s.own) b.owner h.name) (AField q f) e)
  by_step s h b i (Some (AMethod q m)) e = step_same s.own (bind_by u (map_in s.own) s h b (Some (AMethod q m))).own (method_own _ (map_in s.own) s h b q m) b.owner h.name (none_some (member (map_in s.own) b.owner h.name) (AMethod q m) e)

  one_step : (s : Binding) (h : Head) (b : BoundAs) → h.bound ≡ Some b → IsOurs b.owner → Step s.own (bind_one u s h h.bound).own b.owner h.name
  one_step s h b e i = subst (λ o. Step s.own (bind_one u s h o).own b.owner h.name) (sym e) (by_step s h b i (member (map_in s.own) b.owner h.name) refl)

  -- ---- all headings of a record

  -- what was bound is bound still
  record Later (ts us : List TypedType) : Type 0 where
    pub record_back : (p : QName) → IsRecordAt us p → IsRecordAt ts p
    pub stays : (p : QName) (x : List ℕ) → (IsNone ts p x → ⊥) → IsNone us p x → ⊥

  -- the procedure of a heading is there, where it is bound to a record
  abbrev IsPresent : List TypedType → Head → Type 0
  IsPresent ts h = (b : BoundAs) → h.bound ≡ Some b → IsRecordAt ts b.owner → IsNone ts b.owner h.name → ⊥

  present_later : (ts us : List TypedType) → Later ts us → (h : Head) → IsPresent ts h → IsPresent us h
  present_later ts us l h p b e r n = l.stays b.owner h.name (λ i. p b e (l.record_back b.owner r) i) n

  later_same : (ts : List TypedType) → Later ts ts
  later_same ts = record { record_back = λ p r. r; stays = λ p x h i. h i }

  later_then : (ts us vs : List TypedType) → Later ts us → Later us vs → Later ts vs
  later_then ts us vs a b = record { record_back = λ p r. a.record_back p (b.record_back p r); stays = λ p x h i. b.stays p x (λ j. a.stays p x h j) i }

  -- these types are done, and perhaps some headings of t
  record State (done : List TypedType) (limit : List TypedType) (ts : List TypedType) : Type 0 where
    pub bases : (p : QName) → base_record (map_in ts) p ≡ base_record F p
    pub limited : (q : QName) (x : List ℕ) → IsOurs q → Has ts q x → has limit q.object ≡ true
    pub full : (h : Head) → IsOneOf hs h → (b : BoundAs) → h.bound ≡ Some b → has done b.owner.object ≡ true → IsRecordAt ts b.owner → IsNone ts b.owner h.name → ⊥
    pub once : (q c b : QName) (x : List ℕ) → IsOurs q → Has ts q x → base_record F q ≡ Some c → Line F 200 c b → Has ts b x → ⊥

  least_not : (k : ℕ) → k < k → ⊥
  least_not k h = omega (arith, h)

  not_between : (k l n m : ℕ) → k ≡ suc n → l ≡ m → m ≤ n → k < l → ⊥
  not_between k l n m e f g h = omega (arith, e, f, g, h)

  module _ (t : TypedType) (ts : List TypedType) (front : List TypedType) (is : own0 ≡ front ++ t ∷ ts) where
    -- a record that extends the one at hand was not done before
    no_extension : has ts t.name ≡ false → (q c b : QName) (x : List ℕ) (us : List TypedType) → State ts (t ∷ ts) us → IsOurs q → Has us q x → base_record F q ≡ Some c → Line F 200 c b → IsOurs b → b.object ≡ t.name → ⊥
    no_extension f q c b x us s i h e l j n =
        let r = above_lower u own0 order one others 200 q c b i e l j in
        let here : rank own0 b.object ≡ suc (length ts) =
        ap (λ (zs : List TypedType). rank zs b.object) is ∙ (ap (rank (front ++ t ∷ ts)) n ∙ ((rank_behind front (t ∷ ts) t.name (or_first (bytes_eq t.name t.name) (has ts t.name) (bytes_same t.name))).1 ∙ ap (λ k. cond k (rank ts t.name) (suc (length ts))) f)) in
        by (bytes_eq t.name q.object) refl (s.limited q x i h) r here
      where
        by : (k : Bool) → bytes_eq t.name q.object ≡ k → (k || has ts q.object) ≡ true → rank own0 b.object < rank own0 q.object → rank own0 b.object ≡ suc (length ts) → ⊥
        by true k g r here =
            let w : rank own0 q.object ≡ rank own0 b.object = ap (rank own0) (sym (bytes_true t.name q.object k)) ∙ ap (rank own0) (sym n) in
            least_not (rank own0 b.object) (subst (λ z. rank own0 b.object < z) w r)
        by false k g r here =
            let y : rank own0 q.object ≡ rank ts q.object = ap (λ (zs : List TypedType). rank zs q.object) (is ∙ sym (append_assoc front (t ∷ []) ts)) ∙ (rank_behind (front ++ t ∷ []) ts q.object g).1 in
            not_between (rank own0 b.object) (rank own0 q.object) (length ts) (rank ts q.object) here y (rank_most ts q.object g) r

    -- one heading of it
    module _ (us vs : List TypedType) (h : Head) (i : IsOneOf hs h) (b : BoundAs) (e : h.bound ≡ Some b) (ours : IsOurs b.owner) (n : b.owner.object ≡ t.name) (s : State ts (t ∷ ts) us) (step : Step us vs b.owner h.name) where
      -- where it is bound to a record that is done, nothing is gained
      not_done : IsRecordAt us b.owner → IsNone us b.owner h.name → (k : Bool) → has ts t.name ≡ k → k ≡ true → ⊥
      not_done r m k f g = s.full h i b e (ap (has ts) n ∙ (f ∙ g)) r m

      once_then : (q c d : QName) (x : List ℕ) → IsOurs q → Has vs q x → base_record F q ≡ Some c → Line F 200 c d → Has vs d x → ⊥
      once_then q c d x o g f l m = ⊎_elim (λ gq. ⊎_elim (λ gd. s.once q c d x o gq f l gd) (λ gd. below gq gd) (step.back d x m)) (λ gq. above gq) (step.back q x g)
        where
          line_from : Line (map_in us) 201 q d
          line_from = inr (c, (s.bases q ∙ f, line_same F (map_in us) (λ p. sym (s.bases p)) 200 c d l))

          -- the heading's record has none yet, so no base of it has
          member_none : ((q ≡ b.owner) × (x ≡ h.name)) × (IsRecordAt us b.owner × IsNone us b.owner h.name) → IsNone us q x
          member_none k = ap (λ p. member (map_in us) p x) k.0.0 ∙ (ap (member (map_in us) b.owner) k.0.1 ∙ k.1.1)

          above : ((q ≡ b.owner) × (x ≡ h.name)) × (IsRecordAt us b.owner × IsNone us b.owner h.name) → ⊥
          above k = ⊎_elim (λ gd. let w = own_some (map_in us) d x gd in none_along (map_in us) 201 q d x (member_none k) line_from w.0 w.1) (λ gd. itself k gd) (step.back d x m)
            where
              itself : ((q ≡ b.owner) × (x ≡ h.name)) × (IsRecordAt us b.owner × IsNone us b.owner h.name) → ((d ≡ b.owner) × (x ≡ h.name)) × (IsRecordAt us b.owner × IsNone us b.owner h.name) → ⊥
              itself k j =
                  let same : d ≡ q = j.0.0 ∙ sym k.0.0 in
                  let r = above_lower u own0 order one others 200 q c d o f l (subst IsOurs (sym same) o) in
                  least_not (rank own0 q.object) (subst (λ (z : QName). rank own0 z.object < rank own0 q.object) same r)

          below : Has us q x → ((d ≡ b.owner) × (x ≡ h.name)) × (IsRecordAt us b.owner × IsNone us b.owner h.name) → ⊥
          below gq k = by (has ts t.name) refl
            where
              by : (z : Bool) → has ts t.name ≡ z → ⊥
              by true z = not_done k.1.0 k.1.1 true z refl
              by false z = no_extension z q c d x us s o gq f l (subst IsOurs (sym k.0.0) ours) (ap (λ (p : QName). p.object) k.0.0 ∙ n)

      limited_then : (q : QName) (x : List ℕ) → IsOurs q → Has vs q x → has (t ∷ ts) q.object ≡ true
      limited_then q x o g = ⊎_elim (λ gq. s.limited q x o gq) (λ k. or_first (bytes_eq t.name q.object) (has ts q.object) (ap (bytes_eq t.name) (ap (λ (p : QName). p.object) k.0.0 ∙ n) ∙ bytes_same t.name)) (step.back q x g)

      later_step : Later us vs
      later_step = record { record_back = step.record_back; stays = step.stays }

      state_then : State ts (t ∷ ts) vs
      state_then = record {
        bases = λ p. step.bases p ∙ s.bases p;
        limited = limited_then;
        full = λ k j d f g r m. step.stays d.owner k.name (λ w. s.full k j d f g (step.record_back d.owner r) w) m;
        once = once_then;
      }

      present_then : IsPresent vs h
      present_then d f r m =
          let same : b ≡ d = some_same b d (sym e ∙ f) in
          step.present (step.record_back b.owner (subst (λ (z : BoundAs). IsRecordAt vs z.owner) (sym same) r)) (subst (λ (z : BoundAs). IsNone vs z.owner h.name) (sym same) m)
        where
          some_same : (b d : BoundAs) → Some b ≡ Some d → b ≡ d
          some_same b d e = cc

    record After (us vs : List TypedType) (fs : List Head) : Type 0 where
      pub state : State ts (t ∷ ts) vs
      pub later : Later us vs
      pub present : (h : Head) → IsOneOf fs h → IsPresent vs h

    owner_of : (o : Option BoundAs) → owner_is t.name o ≡ true → (b : BoundAs) × ((o ≡ Some b) × (b.owner.object ≡ t.name))
    owner_of None e = absurd cc
    owner_of (Some b) e = (b, (refl, bytes_true b.owner.object t.name e))

    owned_by : (h : Head) → IsOneOf hs h → (b : BoundAs) → h.bound ≡ Some b → IsOurs b.owner
    owned_by h i b e = subst (IsOwned u.unit) e (one_all (λ (h : Head). IsOwned u.unit h.bound) hs h owned i)

    all_steps : (fs : List Head) → ((h : Head) → IsOneOf fs h → IsOneOf hs h × (of_record t.name h ≡ true)) → (s : Binding) → State ts (t ∷ ts) s.own → After s.own (bind_all u s fs).own fs
    all_steps [] f s k = record { state = k; later = later_same s.own; present = λ h i. absurd i }
    all_steps (h ∷ fs) f s k =
        let w = f h (inl refl) in
        let o = owner_of h.bound w.1 in
        let ours = owned_by h w.0 o.0 o.1.0 in
        let s1 = bind_one u s h h.bound in
        let st = one_step s h o.0 o.1.0 ours in
        let k1 = state_then s.own s1.own h w.0 o.0 o.1.0 ours o.1.1 k st in
        let p1 = present_then s.own s1.own h w.0 o.0 o.1.0 ours o.1.1 k st in
        let l1 = later_step s.own s1.own h w.0 o.0 o.1.0 ours o.1.1 k st in
        let r = all_steps fs (λ g i. f g (inr i)) s1 k1 in
        record {
          state = r.state;
          later = later_then s.own s1.own (bind_all u s1 fs).own l1 r.later;
          present = λ g i. ⊎_elim (λ e. subst (IsPresent (bind_all u s1 fs).own) e (present_later s1.own (bind_all u s1 fs).own r.later h p1)) (λ j. r.present g j) i;
        }

    filtered : (hs : List Head) (h : Head) → IsOneOf (filter (of_record t.name) hs) h → IsOneOf hs h × (of_record t.name h ≡ true)
    filtered [] h i = absurd i
    filtered (g ∷ hs) h i = by (of_record t.name g) refl i (filtered hs h)
      where
        by : (b : Bool) → of_record t.name g ≡ b → IsOneOf (cond b (g ∷ filter (of_record t.name) hs) (filter (of_record t.name) hs)) h → (IsOneOf (filter (of_record t.name) hs) h → IsOneOf hs h × (of_record t.name h ≡ true)) → IsOneOf (g ∷ hs) h × (of_record t.name h ≡ true)
        by true e (inl k) up = (inl k, ap (of_record t.name) (sym k) ∙ e)
        by true e (inr k) up = let r = up k in (inr r.0, r.1)
        by false e k up = let r = up k in (inr r.0, r.1)

    kept : (hs : List Head) (h : Head) → IsOneOf hs h → of_record t.name h ≡ true → IsOneOf (filter (of_record t.name) hs) h
    kept [] h i e = absurd i
    kept (g ∷ hs) h i e = by (of_record t.name g) refl i (λ j. kept hs h j e)
      where
        by : (b : Bool) → of_record t.name g ≡ b → IsOneOf (g ∷ hs) h → (IsOneOf hs h → IsOneOf (filter (of_record t.name) hs) h) → IsOneOf (cond b (g ∷ filter (of_record t.name) hs) (filter (of_record t.name) hs)) h
        by true f (inl k) up = inl k
        by true f (inr k) up = inr (up k)
        by false f (inl k) up = let bad : true ≡ false = sym e ∙ ap (of_record t.name) (sym k) ∙ f in absurd cc
        by false f (inr k) up = up k

    -- all headings of the type
    type_done : (s : Binding) → State ts ts s.own → State (t ∷ ts) (t ∷ ts) (bind_all u s (filter (of_record t.name) hs)).own
    type_done s k =
        let start : State ts (t ∷ ts) s.own = record { bases = k.bases; limited = λ q x o g. or_second (bytes_eq t.name q.object) (has ts q.object) (k.limited q x o g); full = k.full; once = k.once } in
        let r = all_steps (filter (of_record t.name) hs) (filtered hs) s start in
        record {
          bases = r.state.bases;
          limited = r.state.limited;
          full = λ h i b e f g m. by h i b e (bytes_eq t.name b.owner.object) refl f g m r;
          once = r.state.once;
        }
      where
        by : (h : Head) → IsOneOf hs h → (b : BoundAs) → h.bound ≡ Some b → (c : Bool) → bytes_eq t.name b.owner.object ≡ c → (c || has ts b.owner.object) ≡ true → IsRecordAt (bind_all u s (filter (of_record t.name) hs)).own b.owner → IsNone (bind_all u s (filter (of_record t.name) hs)).own b.owner h.name
            → After s.own (bind_all u s (filter (of_record t.name) hs)).own (filter (of_record t.name) hs) → ⊥
        by h i b e true c f g m r = r.present h (kept hs h i (ap (owner_is t.name) e ∙ (ap (λ y. bytes_eq y t.name) (sym (bytes_true t.name b.owner.object c)) ∙ bytes_same t.name))) b e g m
        by h i b e false c f g m r = r.state.full h i b e f g m

  -- ---- all types, in their order

  records_joined : (xs ys : List TypedType) (s : Binding) → bind_records u hs s (xs ++ ys) ≡ bind_records u hs (bind_records u hs s xs) ys
  records_joined [] ys s = refl
  records_joined (x ∷ xs) ys s = records_joined xs ys (bind_all u s (filter (of_record x.name) hs))

  all_done : (ts front : List TypedType) → own0 ≡ front ++ ts → (s : Binding) → State [] [] s.own → State ts ts (bind_records u hs s (reversed ts)).own
  all_done [] front e s k = k
  all_done (t ∷ ts) front e s k =
      let r = all_done ts (front ++ t ∷ []) (e ∙ sym (append_assoc front (t ∷ []) ts)) s k in
      subst (λ (z : Binding). State (t ∷ ts) (t ∷ ts) z.own) (sym (records_joined (reversed ts) (t ∷ []) s)) (type_done t ts front e (bind_records u hs s (reversed ts)) r)

  fresh_none : (ts : List TypedType) → AreInOrder u.unit u.shown ts → (y : List ℕ) (r : RecordDesc) → desc_in ts y ≡ Some (desc.Record r) → r.methods ≡ []
  fresh_none [] o y r e = absurd cc
  fresh_none (t ∷ ts) o y r e = by (bytes_eq t.name y) e (fresh_none ts o.1 y r)
    where
      by : (b : Bool) → own_desc (cond b (Some t) (find (λ t. bytes_eq t.name y) ts)) ≡ Some (desc.Record r) → (desc_in ts y ≡ Some (desc.Record r) → r.methods ≡ []) → r.methods ≡ []
      by true e up = let same : t.desc ≡ desc.Record r = cc in subst IsFresh same o.0.fresh
      by false e up = up e

  none_yet : (q : QName) (x : List ℕ) → IsOurs q → Has own0 q x → ⊥
  none_yet q x o h = none_some (find (λ (n : Method). bytes_eq n.name x) h.r.methods) h.m h.found (ap (find (λ (n : Method). bytes_eq n.name x)) (fresh_none own0 order q.object h.r (sym (at_own q o own0) ∙ h.is)))

  start_state : State [] [] own0
  start_state = record {
    bases = λ p. refl;
    limited = λ q x o h. absurd (none_yet q x o h);
    full = λ h i b e f. absurd cc;
    once = λ q c b x o h. absurd (none_yet q x o h);
  }

  -- WHAT IS BOUND is introduced once.
  pub bound_once : (s : Binding) → s.own ≡ own0 → AreOnce (map_in (bind_records u hs s (reversed own0)).own) u.unit
  bound_once s e q c b x o h f l g =
      let r = all_done own0 [] refl s (subst (State [] []) (sym e) start_state) in
      r.once q c b x o h (sym (r.bases q) ∙ f) (line_same (map_in (bind_records u hs s (reversed own0)).own) F r.bases 200 c b l) g

  -- and bases are what they were
  pub bound_bases : (s : Binding) → s.own ≡ own0 → (p : QName) → base_record (map_in (bind_records u hs s (reversed own0)).own) p ≡ base_record F p
  bound_bases s e = (all_done own0 [] refl s (subst (State [] []) (sym e) start_state)).bases
