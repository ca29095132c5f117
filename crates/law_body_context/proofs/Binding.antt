-- What is bound leaves the names of types, and each is described.
use Rattle.std.proofs.Common.{◌≡◌, ℕ, Bool, true, false, List, [], ◌∷◌, Option, Some, None, refl, ap, ◌∙◌, inl, inr, sym, subst}
use Rattle.std.specs.Prelude.{bytes_eq}
use Rattle.std.specs.List.{AllByRecursion, filter}
use Rattle.ob_tree.specs.declared.names.QName.{QName}
use Rattle.ob_types.specs.declared.value.Value.{Value}
use Rattle.ob_types.specs.declared.desc.Desc.{Desc}
use Rattle.ob_types.specs.declared.desc.Desc.TheVariants as desc
use Rattle.ob_types.specs.declared.desc.RecordDesc.{RecordDesc}
use Rattle.ob_types.specs.declared.desc.Method.{Method}
use Rattle.ob_types.specs.declared.typed.TypedType.{TypedType}
use Rattle.ob_types.specs.Maps.{is_type}
use Rattle.ob_rules.specs.Shapes.{Map, Member, AField, AMethod, member}
use Rattle.ob_rules.specs.Names.{Around, map_of}
use Rattle.ob_rules.specs.Headings.{Head, BoundAs, Binding, counted, change_desc, changed_if, change_type, with_method, new_method, redefined, bind_method, bind_by, bind_one, bind_all, of_record, bind_records, reversed}
use Rattle.ob_rules.specs.Declarations.{binding_at}
use Rattle.law_typing_forms.specs.Said.{IsOneOf}
use Rattle.law_body_context.specs.Knows.{Grows, LengthIs, IsDescribed}
use Rattle.law_body_context.specs.Judged.{HasMore}
use Rattle.law_body_context.proofs.More.{more_same, more_then}
use Rattle.law_body_context.proofs.Standing.{grows_same, grows_then}

module _ (IsConstant : Value → Type 0) where
  -- types of one name have one description
  abbrev pub AreOne : List TypedType → Type 0
  AreOne ts = (a b : TypedType) → IsOneOf ts a → IsOneOf ts b → a.name ≡ b.name → a.desc ≡ b.desc

  -- it is one of these types, perhaps with more bound procedures
  abbrev pub IsFrom : List TypedType → TypedType → Type 0
  IsFrom ts b = (t : TypedType) × (IsOneOf ts t × ((t.name ≡ b.name) × HasMore t.desc b.desc))

  -- described as types still, and no name is lost
  pub record Changes (own more : List TypedType) : Type 0 where
    pub described : AllByRecursion (IsDescribed IsConstant) own → AllByRecursion (IsDescribed IsConstant) more
    pub grows : Grows own more
    pub back : Grows more own
    pub from : (b : TypedType) → IsOneOf more b → IsFrom own b
    pub one : AreOne own → AreOne more

  pub changes_none : (own : List TypedType) → Changes own own
  changes_none own = record { described = λ h. h; grows = grows_same own; back = grows_same own; from = λ b i. (b, (i, (refl, more_same b.desc b.desc refl))); one = λ h. h }

  changes_then : (a b c : List TypedType) → Changes a b → Changes b c → Changes a c
  changes_then a b c f g = record { described = λ h. g.described (f.described h); grows = grows_then a b c f.grows g.grows; back = grows_then c b a g.back f.back; from = λ y i. let k = g.from y i in let j = f.from k.0 k.1.0 in (j.0, (j.1.0, (j.1.1.0 ∙ k.1.1.0, more_then j.0.desc k.0.desc y.desc j.1.1.1 k.1.1.1))); one = λ h. g.one (f.one h) }

  desc_changed : (f : RecordDesc → RecordDesc) (d : Desc) → (is_type d ≡ true) × LengthIs IsConstant d → (is_type (change_desc f d) ≡ true) × LengthIs IsConstant (change_desc f d)
  desc_changed f (desc.Const v) h = h
  desc_changed f (desc.Var m t) h = h
  desc_changed f (desc.Proc s) h = h
  desc_changed f (desc.Alias m t) h = h
  desc_changed f (desc.Array m n t) h = h
  desc_changed f (desc.OpenArray m t) h = h
  desc_changed f (desc.Pointer m t) h = h
  desc_changed f (desc.ProcType m s) h = h
  desc_changed f (desc.Record r) h = (refl, tt)

  if_changed : (b : Bool) (f : RecordDesc → RecordDesc) (t : TypedType) → IsDescribed IsConstant t → IsDescribed IsConstant (changed_if b f t)
  if_changed true f t h = let r = desc_changed f t.desc (h.type, h.length) in record { type = r.0; length = r.1 }
  if_changed false f t h = h

  if_name : (b : Bool) (f : RecordDesc → RecordDesc) (t : TypedType) → (changed_if b f t).name ≡ t.name
  if_name true f t = refl
  if_name false f t = refl

  if_more : (b : Bool) (m : Method) (t : TypedType) → HasMore t.desc (changed_if b (λ r. with_method r m) t).desc
  if_more true m t = (m ∷ [], refl)
  if_more false m t = more_same t.desc t.desc refl

  if_same : (f : RecordDesc → RecordDesc) (b c : Bool) (t s : TypedType) → b ≡ c → t.desc ≡ s.desc → (changed_if b f t).desc ≡ (changed_if c f s).desc
  if_same f true true t s e g = ap (change_desc f) g
  if_same f true false t s e g = absurd cc
  if_same f false true t s e g = absurd cc
  if_same f false false t s e g = g

  changed_from : (x : List ℕ) (f : RecordDesc → RecordDesc) (ts : List TypedType) (b : TypedType) → IsOneOf (change_type x f ts) b → (t : TypedType) × (IsOneOf ts t × (changed_if (bytes_eq t.name x) f t ≡ b))
  changed_from x f [] b h = absurd h
  changed_from x f (t ∷ ts) b (inl e) = (t, (inl refl, e))
  changed_from x f (t ∷ ts) b (inr i) = let r = changed_from x f ts b i in (r.0, (inr r.1.0, r.1.1))

  changed_one : (x : List ℕ) (f : RecordDesc → RecordDesc) (ts : List TypedType) → AreOne ts → AreOne (change_type x f ts)
  changed_one x f ts h a b i j e =
      let t = changed_from x f ts a i in
      let s = changed_from x f ts b j in
      let n : t.0.name ≡ s.0.name = sym (if_name (bytes_eq t.0.name x) f t.0) ∙ ap (λ (r : TypedType). r.name) t.1.1 ∙ e ∙ sym (ap (λ (r : TypedType). r.name) s.1.1) ∙ if_name (bytes_eq s.0.name x) f s.0 in
      sym (ap (λ (r : TypedType). r.desc) t.1.1) ∙ if_same f (bytes_eq t.0.name x) (bytes_eq s.0.name x) t.0 s.0 (ap (λ (y : List ℕ). bytes_eq y x) n) (h t.0 s.0 t.1.0 s.1.0 n) ∙ ap (λ (r : TypedType). r.desc) s.1.1

  type_changed : (x : List ℕ) (m : Method) (ts : List TypedType) → Changes ts (change_type x (λ r. with_method r m) ts)
  type_changed x m ts = record { described = all_changed ts; grows = all_grow ts; back = all_back ts; from = λ b i. let r = changed_from x f ts b i in (r.0, (r.1.0, (sym (if_name (bytes_eq r.0.name x) f r.0) ∙ ap (λ (s : TypedType). s.name) r.1.1, subst (λ (s : TypedType). HasMore r.0.desc s.desc) r.1.1 (if_more (bytes_eq r.0.name x) m r.0)))); one = changed_one x f ts }
    where
      f : RecordDesc → RecordDesc
      f r = with_method r m

      all_changed : (ts : List TypedType) → AllByRecursion (IsDescribed IsConstant) ts → AllByRecursion (IsDescribed IsConstant) (change_type x f ts)
      all_changed [] h = tt
      all_changed (t ∷ ts) h = (if_changed (bytes_eq t.name x) f t h.0, all_changed ts h.1)

      all_grow : (ts : List TypedType) → Grows ts (change_type x f ts)
      all_grow [] y h = absurd h.1.0
      all_grow (t ∷ ts) y (s, (inl e, g)) = (changed_if (bytes_eq t.name x) f t, (inl refl, if_name (bytes_eq t.name x) f t ∙ ap (λ (r : TypedType). r.name) e ∙ g))
      all_grow (t ∷ ts) y (s, (inr i, g)) = let r = all_grow ts y (s, (i, g)) in (r.0, (inr r.1.0, r.1.1))

      all_back : (ts : List TypedType) → Grows (change_type x f ts) ts
      all_back [] y h = absurd h.1.0
      all_back (t ∷ ts) y (s, (inl e, g)) = (t, (inl refl, sym (if_name (bytes_eq t.name x) f t) ∙ ap (λ (r : TypedType). r.name) e ∙ g))
      all_back (t ∷ ts) y (s, (inr i, g)) = let r = all_back ts y (s, (i, g)) in (r.0, (inr r.1.0, r.1.1))

  redefined_changes : (b : Bool) (s : Binding) (h : Head) (a : BoundAs) → Changes s.own (redefined b s h a).own
  redefined_changes true s h a = changes_none s.own
  redefined_changes false s h a = changes_none s.own

  method_changes : (b : Bool) (u : Around) (types : Map) (s : Binding) (h : Head) (a : BoundAs) (owner : QName) (m : Method) → Changes s.own (bind_method b u types s h a owner m).own
  method_changes true u types s h a owner m = changes_none s.own
  method_changes false u types s h a owner m = redefined_changes _ s h a

  by_changes : (u : Around) (types : Map) (s : Binding) (h : Head) (a : BoundAs) (o : Option Member) → Changes s.own (bind_by u types s h a o).own
  by_changes u types s h a None = type_changed a.owner.object (new_method h a) s.own
  by_changes u types s h a (Some (AField owner f)) = changes_none s.own
  by_changes u types s h a (Some (AMethod owner m)) = method_changes _ u types s h a owner m

  one_changes : (u : Around) (s : Binding) (h : Head) (o : Option BoundAs) → Changes s.own (bind_one u s h o).own
  one_changes u s h None = changes_none s.own
  one_changes u s h (Some a) = by_changes u (map_of (record u { own = s.own })) s h a (member (map_of (record u { own = s.own })) a.owner h.name)

  all_changes : (u : Around) (s : Binding) (hs : List Head) → Changes s.own (bind_all u s hs).own
  all_changes u s [] = changes_none s.own
  all_changes u s (h ∷ hs) = changes_then s.own (bind_one u s h h.bound).own (bind_all u (bind_one u s h h.bound) hs).own (one_changes u s h h.bound) (all_changes u (bind_one u s h h.bound) hs)

  records_change : (u : Around) (hs : List Head) (s : Binding) (ts : List TypedType) → Changes s.own (bind_records u hs s ts).own
  records_change u hs s [] = changes_none s.own
  records_change u hs s (t ∷ ts) = changes_then s.own (bind_all u s (filter (of_record t.name) hs)).own (bind_records u hs (bind_all u s (filter (of_record t.name) hs)) ts).own (all_changes u s (filter (of_record t.name) hs)) (records_change u hs (bind_all u s (filter (of_record t.name) hs)) ts)

  pub binding_changes : (level : Bool) (u : Around) (hs : List Head) → Changes u.own (binding_at level u hs).own
  binding_changes true u hs = records_change u (counted hs) _ (reversed u.own)
  binding_changes false u hs = changes_none u.own
