-- What is bound in a module that breaks no rule.
use Rattle.std.proofs.Common.{◌≡◌, refl, sym, ap, ◌∙◌, ℕ, Bool, true, false, not, List, [], ◌∷◌, ◌++◌, Option, Some, None, cond}
use Rattle.std.specs.Prelude.{◌&&◌, bytes_eq, is_some, is_none, ◌||◌}
use Rattle.std.specs.List.{AllByRecursion, find, filter}
use Rattle.std.proofs.lemmas.Bool.{false≢true, and_parts}
use Rattle.ob_tree.specs.declared.pos.Pos.{Pos}
use Rattle.ob_tree.specs.declared.names.QName.{QName}
use Rattle.ob_types.specs.declared.types.Signature.{Signature}
use Rattle.ob_types.specs.declared.desc.Desc.{Desc}
use Rattle.ob_types.specs.declared.desc.Desc.TheVariants as desc
use Rattle.ob_types.specs.declared.desc.Method.{Method}
use Rattle.ob_types.specs.declared.typed.TypedType.{TypedType}
use Rattle.ob_rules.specs.declared.entity.Bound.{Bound}
use Rattle.ob_rules.specs.declared.broken.Broken.{Broken}
use Rattle.ob_rules.specs.declared.broken.Rule.TheVariants as rule
use Rattle.ob_rules.specs.declared.broken.Rule.{Rule}
use Rattle.ob_rules.specs.Judged.{notes_if, broken_at, no_notes}
use Rattle.ob_rules.specs.Shapes.{Map, Member, AField, AMethod, member}
use Rattle.ob_rules.specs.Names.{Around, map_of, own_desc}
use Rattle.ob_rules.specs.Types.{Parameters}
use Rattle.ob_rules.specs.Headings.{BoundAs, Head, answers, both_sound, signature_if, same_kind, forward_broken, forward_judged, forward_if, forwards_judged, counts_if, counts, counted, Binding, new_method, with_method, change_desc, changed_if, change_type, redefined, redefines, introduced_sound, bind_method, bind_by, bind_one, bind_all, of_record, bind_records, bindings, reversed, differ}
use Rattle.law_names_procedures.proofs.Judges.{Has, not_empty}
use Rattle.law_names_procedures.proofs.Knowing.{filter_has}
use Rattle.law_names_procedures.proofs.Points.{holds, Covers}
use Rattle.law_local_judged.specs.Agreement.{DescIn}
use Rattle.law_local_judged.specs.Declared.{MadeIn}
use Rattle.law_local_module.proofs.Steady.{HeldWell}
use Rattle.law_lists.proofs.Lists.{all_pairs, back_empty, front_empty}

-- ---- those that are bound are no forward declarations

broken_not : (b : Bool) (which : Rule) (at : Pos) → (notes_if b which at).broken ≡ [] → b ≡ false
broken_not true which at e = not_empty _ [] e
broken_not false which at e = refl

answered : (map : Map) (h : Head) (o : Option Head) → forward_broken map h o ≡ false → is_none o ≡ false
answered map h None e = absurd (false≢true (sym e))
answered map h (Some x) e = refl

forward_not : (map : Map) (all : List Head) (h : Head) (f : Bool) → (forward_if f map all h).broken ≡ [] → counts_if f all h ≡ true → f ≡ false
forward_not map all h false e c = refl
forward_not map all h true e c = absurd (false≢true (sym (answered map h (find (answers h) all) (broken_not (forward_broken map h (find (answers h) all)) rule.UnmatchedForward h.at e)) ∙ c))

counted_in : (map : Map) (all xs : List Head) → (forwards_judged map all xs).broken ≡ [] → AllByRecursion (λ h. h.forward ≡ false) (filter (counts all) xs)
counted_in map all [] e = tt
counted_in map all (x ∷ xs) e =
    let first = forward_if x.forward map all x in
    by (counts all x) refl (counted_in map all xs (back_empty first.broken (forwards_judged map all xs).broken e))
  where
    by : (c : Bool) → counts all x ≡ c → AllByRecursion (λ (h : Head). h.forward ≡ false) (filter (counts all) xs) → AllByRecursion (λ (h : Head). h.forward ≡ false) (cond c (x ∷ filter (counts all) xs) (filter (counts all) xs))
    by false i h = h
    by true i h =
        let p = and_parts (x.is_bound && is_some x.bound) (counts_if x.forward all x) i in
        (forward_not map all x x.forward (front_empty (forward_if x.forward map all x).broken (forwards_judged map all xs).broken e) p.1, h)

-- ---- types with the procedures that are bound to them

changed_name : (f : Bool) (t : TypedType) (m : Method) → (changed_if f (λ r. with_method r m) t).name ≡ t.name
changed_name true t m = refl
changed_name false t m = refl

found_too : (b : Bool) (s t : TypedType) (o p : Option TypedType) → is_some (own_desc o) ≡ is_some (own_desc p) → is_some (own_desc (cond b (Some s) o)) ≡ is_some (own_desc (cond b (Some t) p))
found_too true s t o p e = refl
found_too false s t o p e = e

change_holds : (x : List ℕ) (m : Method) (ts : List TypedType) (y : List ℕ) → holds (change_type x (λ r. with_method r m) ts) y ≡ holds ts y
change_holds x m [] y = refl
change_holds x m (t ∷ ts) y =
    let s = changed_if (bytes_eq t.name x) (λ r. with_method r m) t in
    ap (λ n. is_some (own_desc (cond (bytes_eq n y) (Some s) (find (λ t. bytes_eq t.name y) (change_type x (λ r. with_method r m) ts))))) (changed_name (bytes_eq t.name x) t m)
    ∙ found_too (bytes_eq t.name y) s t (find (λ t. bytes_eq t.name y) (change_type x (λ r. with_method r m) ts)) (find (λ t. bytes_eq t.name y) ts) (change_holds x m ts y)

module _ (P : QName → Type 0) (u : Around) where
  -- a description stays as it is but for the procedures of a record
  abbrev Stays : Desc → Type 0
  Stays d = HeldWell u d × DescIn P (Some d)

  desc_stays : (d : Desc) (m : Method) → Stays d → Stays (change_desc (λ r. with_method r m) d)
  desc_stays (desc.Record r) m h = h
  desc_stays (desc.Const c) m h = h
  desc_stays (desc.Var k t) m h = h
  desc_stays (desc.Proc g) m h = h
  desc_stays (desc.Alias k t) m h = h
  desc_stays (desc.Array k n t) m h = h
  desc_stays (desc.OpenArray k t) m h = h
  desc_stays (desc.Pointer k t) m h = h
  desc_stays (desc.ProcType k g) m h = h

  type_stays : (f : Bool) (t : TypedType) (m : Method) → Stays t.desc → Stays (changed_if f (λ r. with_method r m) t).desc
  type_stays true t m h = desc_stays t.desc m h
  type_stays false t m h = h

  types_stay : (x : List ℕ) (m : Method) (ts : List TypedType) → AllByRecursion (λ t. Stays t.desc) ts → AllByRecursion (λ t. Stays t.desc) (change_type x (λ r. with_method r m) ts)
  types_stay x m [] h = tt
  types_stay x m (t ∷ ts) h = (type_stays (bytes_eq t.name x) t m h.0, types_stay x m ts h.1)

  -- the types of a module while procedures are bound to them
  pub record Kept (ts : List TypedType) : Type 0 where
    pub covers : Covers u.own ts
    pub stays : AllByRecursion (λ t. Stays t.desc) ts

  change_kept : (x : List ℕ) (m : Method) (ts : List TypedType) → Kept ts → Kept (change_type x (λ r. with_method r m) ts)
  change_kept x m ts k = record { covers = λ y e. change_holds x m ts y ∙ k.covers y e; stays = types_stay x m ts k.stays }

  redefined_kept : (b : Bool) (st : Binding) (h : Head) (o : BoundAs) → Kept st.own → Kept (redefined b st h o).own
  redefined_kept true st h o k = k
  redefined_kept false st h o k = k

  method_kept : (b : Bool) (map : Map) (st : Binding) (h : Head) (o : BoundAs) (owner : QName) (m : Method) → Kept st.own → Kept (bind_method b u map st h o owner m).own
  method_kept true map st h o owner m k = k
  method_kept false map st h o owner m k = redefined_kept (not (same_kind m.receiver o.receiver) || differ map h m (introduced_sound u st.bound owner m.name)) st h o k

  by_kept : (map : Map) (st : Binding) (h : Head) (o : BoundAs) (m : Option Member) → Kept st.own → Kept (bind_by u map st h o m).own
  by_kept map st h o None k = change_kept o.owner.object (new_method h o) st.own k
  by_kept map st h o (Some (AField owner f)) k = k
  by_kept map st h o (Some (AMethod owner m)) k = method_kept (bytes_eq owner.object o.owner.object && bytes_eq owner.module u.unit) map st h o owner m k

  one_kept : (st : Binding) (h : Head) (o : Option BoundAs) → Kept st.own → Kept (bind_one u st h o).own
  one_kept st h None k = k
  one_kept st h (Some b) k = by_kept (map_of (record u { own = st.own })) st h b (member (map_of (record u { own = st.own })) b.owner h.name) k

  all_kept : (hs : List Head) (st : Binding) → Kept st.own → Kept (bind_all u st hs).own
  all_kept [] st k = k
  all_kept (h ∷ hs) st k = all_kept hs (bind_one u st h h.bound) (one_kept st h h.bound k)

  records_kept : (hs : List Head) (ts : List TypedType) (st : Binding) → Kept st.own → Kept (bind_records u hs st ts).own
  records_kept hs [] st k = k
  records_kept hs (t ∷ ts) st k = records_kept hs ts (bind_all u st (filter (of_record t.name) hs)) (all_kept (filter (of_record t.name) hs) st k)

  pub bindings_kept : (hs : List Head) → Kept u.own → Kept (bindings u hs).own
  bindings_kept hs k = records_kept (counted hs) (reversed u.own) (record { own = u.own; bound = []; notes = no_notes }) k

-- ---- each bound procedure has its parameters

abbrev pub Signed : List Bound → Type 0
Signed bs = AllByRecursion (λ (b : Bound). is_some b.signature ≡ true) bs

abbrev pub Quiet : Binding → Type 0
Quiet st = st.notes.broken ≡ []

-- a procedure that is judged, with its parameters
abbrev pub IsJudged : Head → Type 0
IsJudged h = (h.forward ≡ false) × Has (λ p. Unit {0}) h.parameters

has_signature : (o : Option Parameters) → Has (λ p. Unit {0}) o → is_some (signature_if o) ≡ true
has_signature None h = absurd h
has_signature (Some p) h = refl

module _ (u : Around) where
  -- where nothing is broken in the end, nothing was before, and each that is added has its parameters
  abbrev pub Added : Binding → Binding → Type 0
  Added st more = Quiet more → Quiet st × (Signed st.bound → Signed more.bound)

  redefined_signed : (b : Bool) (st : Binding) (h : Head) (o : BoundAs) → IsJudged h → Added st (redefined b st h o)
  redefined_signed true st h o i = λ e. not_empty _ [] (back_empty st.notes.broken (broken_at rule.UnmatchedRedefinition h.at).broken e)
  redefined_signed false st h o i = λ e. (e, λ s. (has_signature h.parameters i.1, s))

  method_signed : (b : Bool) (map : Map) (st : Binding) (h : Head) (o : BoundAs) (owner : QName) (m : Method) → IsJudged h → Added st (bind_method b u map st h o owner m)
  method_signed true map st h o owner m i = λ e. (e, λ s. s)
  method_signed false map st h o owner m i = redefined_signed (not (same_kind m.receiver o.receiver) || differ map h m (introduced_sound u st.bound owner m.name)) st h o i

  clash_not : (st : Binding) (h : Head) (f : Bool) → h.forward ≡ f → f ≡ false → st.notes.broken ++ (notes_if (not f) rule.DeclaredTwice h.at).broken ≡ [] → ⊥
  clash_not st h true e g q = false≢true (sym g)
  clash_not st h false e g q = not_empty _ [] (back_empty st.notes.broken (broken_at rule.DeclaredTwice h.at).broken q)

  by_signed : (map : Map) (st : Binding) (h : Head) (o : BoundAs) (m : Option Member) → IsJudged h → Added st (bind_by u map st h o m)
  by_signed map st h o None i = λ e. (e, λ s. (has_signature h.parameters i.1, s))
  by_signed map st h o (Some (AField owner f)) i = λ e. absurd (clash_not st h h.forward refl i.0 e)
  by_signed map st h o (Some (AMethod owner m)) i = method_signed (bytes_eq owner.object o.owner.object && bytes_eq owner.module u.unit) map st h o owner m i

  pub one_signed : (st : Binding) (h : Head) (o : Option BoundAs) → IsJudged h → Added st (bind_one u st h o)
  one_signed st h None i = λ e. (e, λ s. s)
  one_signed st h (Some b) i = by_signed (map_of (record u { own = st.own })) st h b (member (map_of (record u { own = st.own })) b.owner h.name) i

  pub all_signed : (hs : List Head) → AllByRecursion IsJudged hs → (st : Binding) → Added st (bind_all u st hs)
  all_signed [] i st = λ e. (e, λ s. s)
  all_signed (h ∷ hs) i st = λ e.
      let next = all_signed hs i.1 (bind_one u st h h.bound) e in
      let one = one_signed st h h.bound i.0 next.0 in
      (one.0, λ s. next.1 (one.1 s))

  pub records_signed : (hs : List Head) → AllByRecursion IsJudged hs → (ts : List TypedType) (st : Binding) → Added st (bind_records u hs st ts)
  records_signed hs i [] st = λ e. (e, λ s. s)
  records_signed hs i (t ∷ ts) st = λ e.
      let next = records_signed hs i ts (bind_all u st (filter (of_record t.name) hs)) e in
      let one = all_signed (filter (of_record t.name) hs) (filter_has IsJudged (of_record t.name) hs i) st next.0 in
      (one.0, λ s. next.1 (one.1 s))

  pub bindings_signed : (hs : List Head) → AllByRecursion IsJudged (counted hs) → (bindings u hs).notes.broken ≡ [] → Signed (bindings u hs).bound
  bindings_signed hs i e = (records_signed (counted hs) i (reversed u.own) (record { own = u.own; bound = []; notes = no_notes }) e).1 tt

-- where no forward declaration stands alone
pub counted_judged : (map : Map) (all : List Head) → (forwards_judged map all all).broken ≡ [] → AllByRecursion (λ (h : Head). Has (λ p. Unit {0}) h.parameters) all → AllByRecursion IsJudged (counted all)
counted_judged map all e h = all_pairs (λ (h : Head). h.forward ≡ false) (λ (h : Head). Has (λ p. Unit {0}) h.parameters) (counted all) (counted_in map all all e) (filter_has (λ (h : Head). Has (λ p. Unit {0}) h.parameters) (counts all) all h)
