-- What headings redefine is found when all that is bound is known.
use Rattle.std.proofs.Common.{◌≡◌, refl, sym, ap, subst, ℕ, Bool, true, false, not, List, [], ◌∷◌, Option, Some, None}
use Rattle.std.specs.Prelude.{◌&&◌, bytes_eq, ◌||◌}
use Rattle.std.specs.List.{AllByRecursion, filter}
use Rattle.ob_tree.specs.declared.names.QName.{QName}
use Rattle.ob_types.specs.declared.desc.Method.{Method}
use Rattle.ob_types.specs.declared.typed.TypedType.{TypedType}
use Rattle.ob_rules.specs.Judged.{no_notes}
use Rattle.ob_rules.specs.Shapes.{Map, Member, AField, AMethod, member}
use Rattle.ob_rules.specs.Names.{Around, map_of}
use Rattle.ob_rules.specs.Headings.{BoundAs, Head, same_kind, counted, Binding, new_method, with_method, change_type, redefined, introduced_sound, bind_method, bind_by, bind_one, bind_all, of_record, bind_records, bindings, reversed, differ}
use Rattle.law_local_judged.specs.Said.{SignatureIn}
use Rattle.law_local_judged.specs.Headed.{StepIn, StepsIn, RecordsIn, BindingsIn}
use Rattle.law_local_judged.proofs.Heading.{kept_filter}
use Rattle.law_local_methods.specs.Laws.{with_own, IsOwned, RedefinesIn, RedefinedAreFound}
use Rattle.law_local_methods.proofs.Members.{members_stay}

module _ (u : Around) where
  -- each member that is found in these types is found in those
  abbrev pub Stay : List TypedType → List TypedType → Type 0
  Stay a b = (q : QName) (x : List ℕ) (r : Member) → member (with_own u a) q x ≡ Some r → member (with_own u b) q x ≡ Some r

  redefined_same : (c : Bool) (st : Binding) (h : Head) (b : BoundAs) → (redefined c st h b).own ≡ st.own
  redefined_same true st h b = refl
  redefined_same false st h b = refl

  method_same : (c : Bool) (map : Map) (st : Binding) (h : Head) (b : BoundAs) (owner : QName) (m : Method) → (bind_method c u map st h b owner m).own ≡ st.own
  method_same true map st h b owner m = refl
  method_same false map st h b owner m = redefined_same (not (same_kind m.receiver b.receiver) || differ map h m (introduced_sound u st.bound owner m.name)) st h b

  stay_same : (a b : List TypedType) → b ≡ a → Stay a b
  stay_same a b e q x r h = subst (λ z. member (with_own u z) q x ≡ Some r) (sym e) h

  pub by_stays : (st : Binding) (h : Head) (b : BoundAs) → bytes_eq b.owner.«module» u.unit ≡ true → (o : Option Member) → member (with_own u st.own) b.owner h.name ≡ o → Stay st.own (bind_by u (with_own u st.own) st h b o).own
  by_stays st h b own None e = members_stay u st.own b.owner (new_method h b) own e
  by_stays st h b own (Some (AField owner f)) e = stay_same st.own st.own refl
  by_stays st h b own (Some (AMethod owner m)) e =
      let c = bytes_eq owner.object b.owner.object && bytes_eq owner.module u.unit in
      stay_same st.own (bind_method c u (with_own u st.own) st h b owner m).own (method_same c (with_own u st.own) st h b owner m)

  pub one_stays : (st : Binding) (h : Head) (o : Option BoundAs) → IsOwned u.unit o → Stay st.own (bind_one u st h o).own
  one_stays st h None own = stay_same st.own st.own refl
  one_stays st h (Some b) own = by_stays st h b own (member (with_own u st.own) b.owner h.name) refl

  pub all_stays : (hs : List Head) → AllByRecursion (λ (h : Head). IsOwned u.unit h.bound) hs → (st : Binding) → Stay st.own (bind_all u st hs).own
  all_stays [] own st = stay_same st.own st.own refl
  all_stays (h ∷ hs) own st = λ q x r e. all_stays hs own.1 (bind_one u st h h.bound) q x r (one_stays st h h.bound own.0 q x r e)

  pub records_stay : (hs : List Head) → AllByRecursion (λ (h : Head). IsOwned u.unit h.bound) hs → (ts : List TypedType) (st : Binding) → Stay st.own (bind_records u hs st ts).own
  records_stay hs own [] st = stay_same st.own st.own refl
  records_stay hs own (t ∷ ts) st = λ q x r e.
      let fs = filter (of_record t.name) hs in
      records_stay hs own ts (bind_all u st fs) q x r (all_stays fs (kept_filter (λ (h : Head). IsOwned u.unit h.bound) (of_record t.name) hs own) st q x r e)

  -- ---- each step, as it is in the end

  module _ (P : QName → Type 0) (last : List TypedType) where
    abbrev Final : Head → Type 0
    Final h = RedefinesIn P (with_own u last) h h.bound

    step_in : (st : Binding) (h : Head) (o : Option BoundAs) → Stay st.own last → RedefinesIn P (with_own u last) h o → StepIn P u st h o
    step_in st h None k w = tt
    step_in st h (Some b) k w = λ owner m e. w owner m (k b.owner h.name (AMethod owner m) e)

    steps_in : (hs : List Head) → AllByRecursion (λ (h : Head). IsOwned u.unit h.bound) hs → AllByRecursion Final hs → (st : Binding) → Stay (bind_all u st hs).own last → StepsIn P u st hs
    steps_in [] own w st k = tt
    steps_in (h ∷ hs) own w st k = (
      step_in st h h.bound (λ q x r e. k q x r (all_stays hs own.1 (bind_one u st h h.bound) q x r (one_stays st h h.bound own.0 q x r e))) w.0,
      steps_in hs own.1 w.1 (bind_one u st h h.bound) k,
    )

    records_in : (hs : List Head) → AllByRecursion (λ (h : Head). IsOwned u.unit h.bound) hs → AllByRecursion Final hs → (ts : List TypedType) (st : Binding) → Stay (bind_records u hs st ts).own last → RecordsIn P u hs st ts
    records_in hs own w [] st k = tt
    records_in hs own w (t ∷ ts) st k =
        let fs = filter (of_record t.name) hs in
        let own_fs = kept_filter (λ (h : Head). IsOwned u.unit h.bound) (of_record t.name) hs own in
        (steps_in fs own_fs (kept_filter Final (of_record t.name) hs w) st (λ q x r e. k q x r (records_stay hs own ts (bind_all u st fs) q x r e)), records_in hs own w ts (bind_all u st fs) k)

pub bindings_in : (P : QName → Type 0) (u : Around) (hs : List Head) → AllByRecursion (λ (h : Head). IsOwned u.unit h.bound) (counted hs) → AllByRecursion (λ (h : Head). RedefinesIn P (with_own u (bindings u hs).own) h h.bound) (counted hs) → BindingsIn P u hs
bindings_in P u hs own w = records_in u P (bindings u hs).own (counted hs) own w (reversed u.own) (record { own = u.own; bound = []; notes = no_notes }) (λ q x r e. e)

pub redefined_are_found : RedefinedAreFound
redefined_are_found names u hs own w = bindings_in (λ q. names q ≡ true) u hs own w
