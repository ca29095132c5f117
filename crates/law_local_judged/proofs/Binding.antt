-- Bound procedures and forward declarations, with other interfaces around.
use Rattle.std.proofs.Common.{◌≡◌, refl, ap, ◌∙◌, subst, ℕ, List, [], ◌∷◌, Option, Some, None, Bool, true, false, not}
use Rattle.std.specs.Prelude.{◌&&◌, is_some, bytes_eq, ◌||◌}
use Rattle.std.specs.List.{AllByRecursion, find, filter}
use Rattle.ob_tree.specs.declared.names.QName.{QName}
use Rattle.ob_types.specs.declared.types.Signature.{Signature}
use Rattle.ob_types.specs.declared.desc.Desc.{Desc}
use Rattle.ob_types.specs.declared.desc.Desc.TheVariants as desc
use Rattle.ob_types.specs.declared.desc.Method.{Method}
use Rattle.ob_types.specs.declared.typed.TypedType.{TypedType}
use Rattle.ob_rules.specs.declared.broken.Rule.TheVariants as rule
use Rattle.ob_rules.specs.Judged.{notes_if, joined, no_notes}
use Rattle.ob_rules.specs.Shapes.{Map, Member, AField, AMethod, member}
use Rattle.ob_rules.specs.Names.{Around, map_of}
use Rattle.ob_rules.specs.Types.{Parameters}
use Rattle.ob_rules.specs.Headings.{BoundAs, Head, same_kind, same_receiver, signature_if, both_sound, forward_broken, forward_if, forwards_judged, answers, counts, counted, Binding, new_method, with_method, change_desc, changed_if, change_type, redefined, introduced_sound, bind_method, bind_by, bind_one, bind_all, of_record, bind_records, reversed, bindings, differ}
use Rattle.law_local_judged.specs.Agreement.{DescIn, Agree}
use Rattle.law_local_judged.specs.Said.{SignatureIn}
use Rattle.law_local_judged.specs.Followed.{beside, Agrees}
use Rattle.law_local_judged.specs.Declared.{MadeIn}
use Rattle.law_local_judged.specs.Headed.{BoundIn, ThereIn, HeadIn, StepIn, StepsIn, RecordsIn, BindingsIn}
use Rattle.law_local_judged.proofs.Tests.{two, same_same, member_same}
use Rattle.law_local_judged.proofs.Names.{maps_agree, found}
use Rattle.law_local_judged.proofs.Values.{signatures_match_same}
use Rattle.law_local_judged.proofs.Parameters.{signature_near}
use Rattle.law_local_judged.proofs.Heading.{kept_filter}
use Rattle.law_lists.proofs.Lists.{none_some, some_same}

module _ (P : QName → Type 0) (f g : Map) (agree : Agree P f g) where
  signature_there : (o : Option Parameters) (s : Signature) → ThereIn P o → signature_if o ≡ Some s → SignatureIn P s
  signature_there None s h e = none_some e
  signature_there (Some p) s h e = subst (SignatureIn P) (some_same e) (signature_near P p h)

  receiver_same : (o p : Option BoundAs) → BoundIn P o → BoundIn P p → same_receiver g o p ≡ same_receiver f o p
  receiver_same None None h k = refl
  receiver_same (Some a) None h k = refl
  receiver_same None (Some b) h k = refl
  receiver_same (Some a) (Some b) h k = ap (λ x. same_kind a.receiver b.receiver && x) (same_same P f g agree a.of b.of h.0 k.0)

  broken_same : (x : Head) (o : Option Head) → HeadIn P x → ((y : Head) → o ≡ Some y → HeadIn P y) → forward_broken g x o ≡ forward_broken f x o
  broken_same x None h k = refl
  broken_same x (Some y) h k =
      let i = k y refl in
      two (λ a b. both_sound x.parameters y.parameters && not (a && b))
      (signatures_match_same P f g agree (signature_if x.parameters) (signature_if y.parameters) (λ s e. signature_there x.parameters s h.parameters e) (λ s e. signature_there y.parameters s i.parameters e))
      (receiver_same x.bound y.bound h.bound i.bound)

  forward_same : (b : Bool) (all : List Head) (x : Head) → AllByRecursion (HeadIn P) all → HeadIn P x → forward_if b g all x ≡ forward_if b f all x
  forward_same false all x h k = refl
  forward_same true all x h k = ap (λ b. notes_if b rule.UnmatchedForward x.at) (broken_same x (find (answers x) all) k (λ y e. found (HeadIn P) (answers x) all y h e))

  -- FORWARD DECLARATIONS say the same
  pub forwards_same : (all xs : List Head) → AllByRecursion (HeadIn P) all → AllByRecursion (HeadIn P) xs → forwards_judged g all xs ≡ forwards_judged f all xs
  forwards_same all [] h k = refl
  forwards_same all (x ∷ xs) h k = two joined (forward_same x.forward all x h k.0) (forwards_same all xs h k.1)

-- ---- bound procedures

module _ (P : QName → Type 0) (sh : QName → Option Desc) where
  near_stays : (d : Desc) (m : Method) → DescIn P (Some d) → DescIn P (Some (change_desc (λ r. with_method r m) d))
  near_stays (desc.Record r) m h = h
  near_stays (desc.Const c) m h = h
  near_stays (desc.Var k t) m h = h
  near_stays (desc.Proc g) m h = h
  near_stays (desc.Alias k t) m h = h
  near_stays (desc.Array k n t) m h = h
  near_stays (desc.OpenArray k t) m h = h
  near_stays (desc.Pointer k t) m h = h
  near_stays (desc.ProcType k g) m h = h

  changed_in : (b : Bool) (t : TypedType) (m : Method) → DescIn P (Some t.desc) → DescIn P (Some (changed_if b (λ r. with_method r m) t).desc)
  changed_in true t m h = near_stays t.desc m h
  changed_in false t m h = h

  change_in : (x : List ℕ) (m : Method) (ts : List TypedType) → MadeIn P ts → MadeIn P (change_type x (λ r. with_method r m) ts)
  change_in x m [] h = tt
  change_in x m (t ∷ ts) h = (changed_in (bytes_eq t.name x) t m h.0, change_in x m ts h.1)

  module _ (u : Around) (a : Agrees P u sh) where
    agrees_own : (ts : List TypedType) → MadeIn P ts → Agrees P (record u { own = ts }) sh
    agrees_own ts h = record { same = a.same; near = a.near; out = a.out; own = h; known = a.known; guards = a.guards; receiver = a.receiver; result = a.result }

    abbrev v : Around
    v = beside u sh

    method_same : (t : Bool) (st : Binding) (h : Head) (b : BoundAs) (owner : QName) (m : Method) (f g : Map) → Agree P f g → HeadIn P h → SignatureIn P m.signature → bind_method t v g st h b owner m ≡ bind_method t u f st h b owner m
    method_same true st h b owner m f g agree i k = refl
    method_same false st h b owner m f g agree i k =
        ap (λ x. redefined (not (same_kind m.receiver b.receiver) || (introduced_sound u st.bound owner m.name && is_some h.parameters && not x)) st h b)
        (signatures_match_same P f g agree (Some m.signature) (signature_if h.parameters) (λ s e. subst (SignatureIn P) (some_same e) k) (λ s e. signature_there P f g agree h.parameters s i.parameters e))

    by_same : (st : Binding) (h : Head) (b : BoundAs) (o : Option Member) (f g : Map) → Agree P f g → HeadIn P h → ((owner : QName) (m : Method) → o ≡ Some (AMethod owner m) → SignatureIn P m.signature) → bind_by v g st h b o ≡ bind_by u f st h b o
    by_same st h b None f g agree i k = refl
    by_same st h b (Some (AField owner d)) f g agree i k = refl
    by_same st h b (Some (AMethod owner m)) f g agree i k = method_same (bytes_eq owner.object b.owner.object && bytes_eq owner.module u.unit) st h b owner m f g agree i (k owner m refl)

    one_same : (st : Binding) (h : Head) (o : Option BoundAs) → MadeIn P st.own → HeadIn P h → BoundIn P o → StepIn P u st h o → bind_one v st h o ≡ bind_one u st h o
    one_same st h None made i k w = refl
    one_same st h (Some b) made i k w =
        let x = record u { own = st.own } in
        let agree = maps_agree P x sh (agrees_own st.own made) in
        ap (bind_by v (map_of (beside x sh)) st h b) (member_same P (map_of x) (map_of (beside x sh)) agree b.owner h.name k.1)
        ∙ by_same st h b (member (map_of x) b.owner h.name) (map_of x) (map_of (beside x sh)) agree i (λ owner m e. w owner m e)

    redefined_in : (t : Bool) (st : Binding) (h : Head) (b : BoundAs) → MadeIn P st.own → MadeIn P (redefined t st h b).own
    redefined_in true st h b made = made
    redefined_in false st h b made = made

    method_in : (t : Bool) (f : Map) (st : Binding) (h : Head) (b : BoundAs) (owner : QName) (m : Method) → MadeIn P st.own → MadeIn P (bind_method t u f st h b owner m).own
    method_in true f st h b owner m made = made
    method_in false f st h b owner m made = redefined_in (not (same_kind m.receiver b.receiver) || differ f h m (introduced_sound u st.bound owner m.name)) st h b made

    by_in : (f : Map) (st : Binding) (h : Head) (b : BoundAs) (o : Option Member) → MadeIn P st.own → MadeIn P (bind_by u f st h b o).own
    by_in f st h b None made = change_in b.owner.object (new_method h b) st.own made
    by_in f st h b (Some (AField owner d)) made = made
    by_in f st h b (Some (AMethod owner m)) made = method_in (bytes_eq owner.object b.owner.object && bytes_eq owner.module u.unit) f st h b owner m made

    one_in : (st : Binding) (h : Head) (o : Option BoundAs) → MadeIn P st.own → MadeIn P (bind_one u st h o).own
    one_in st h None made = made
    one_in st h (Some b) made = by_in (map_of (record u { own = st.own })) st h b (member (map_of (record u { own = st.own })) b.owner h.name) made

    all_same : (st : Binding) (hs : List Head) → MadeIn P st.own → AllByRecursion (HeadIn P) hs → StepsIn P u st hs → (bind_all v st hs ≡ bind_all u st hs) × MadeIn P (bind_all u st hs).own
    all_same st [] made i w = (refl, made)
    all_same st (h ∷ hs) made i w =
        let k = all_same (bind_one u st h h.bound) hs (one_in st h h.bound made) i.1 w.1 in
        (ap (λ z. bind_all v z hs) (one_same st h h.bound made i.0 i.0.bound w.0) ∙ k.0, k.1)

    records_same : (hs : List Head) (st : Binding) (ts : List TypedType) → MadeIn P st.own → AllByRecursion (HeadIn P) hs → RecordsIn P u hs st ts → bind_records v hs st ts ≡ bind_records u hs st ts
    records_same hs st [] made i w = refl
    records_same hs st (t ∷ ts) made i w =
        let k = all_same st (filter (of_record t.name) hs) made (kept_filter (HeadIn P) (of_record t.name) hs i) w.0 in
        ap (λ z. bind_records v hs z ts) k.0 ∙ records_same hs (bind_all u st (filter (of_record t.name) hs)) ts k.1 i w.1

    -- BOUND PROCEDURES are bound the same
    pub bindings_same : (hs : List Head) → AllByRecursion (HeadIn P) hs → BindingsIn P u hs → bindings v hs ≡ bindings u hs
    bindings_same hs i w = records_same (counted hs) (record { own = u.own; bound = []; notes = no_notes }) (reversed u.own) a.own (kept_filter (HeadIn P) (counts hs) hs i) w
