-- A procedure matches the method that another record introduces.
use Rattle.std.proofs.Common.{◌≡◌, inl, inr, ℕ, suc, Bool, true, false, List, [], ◌∷◌, ◌++◌, Option, Some, None, refl, sym, ap, subst, ◌∙◌}
use Rattle.std.specs.Prelude.{◌&&◌, not, bytes_eq, is_some, cond, ◌||◌}
use Rattle.std.specs.List.{AllByRecursion, find, filter}
use Rattle.std.proofs.lemmas.Bool.{false≢true, and_parts}
use Rattle.std.proofs.lemmas.Slice.Eq.{bytes_eq-Decides}
use Rattle.ob_tree.specs.declared.pos.Pos.{Pos}
use Rattle.ob_tree.specs.declared.names.QName.{QName}
use Rattle.ob_types.specs.declared.desc.Desc.TheVariants as desc
use Rattle.ob_types.specs.declared.desc.Field.{Field}
use Rattle.ob_types.specs.declared.desc.Method.{Method}
use Rattle.ob_types.specs.declared.desc.RecordDesc.{RecordDesc}
use Rattle.ob_types.specs.declared.typed.TypedType.{TypedType}
use Rattle.ob_rules.specs.declared.entity.Bound.{Bound}
use Rattle.ob_rules.specs.declared.broken.Rule.TheVariants as rule
use Rattle.ob_rules.specs.Judged.{broken_at, notes_if, no_notes}
use Rattle.ob_rules.specs.Shapes.{Map, Member, AField, AMethod, field_or, own_member, or_in_base, base_record, member_within, member}
use Rattle.ob_rules.specs.Names.{Around}
use Rattle.ob_rules.specs.Operators.{signatures_match}
use Rattle.ob_rules.specs.Types.{Parameters}
use Rattle.ob_rules.specs.Headings.{BoundAs, Head, Binding, signature_if, same_kind, sound_in, introduced_sound, new_method, with_method, introduce, redefined, bind_method, bind_by, bind_one, bind_all, of_record, bind_records, counted, bindings, reversed, differ}
use Rattle.law_names_procedures.proofs.Judges.{Has, not_empty}
use Rattle.law_names_procedures.proofs.Knowing.{filter_has}
use Rattle.law_local_judged.proofs.Heading.{kept_filter}
use Rattle.law_typing_forms.specs.Said.{IsOneOf}
use Rattle.law_methods_introduced.proofs.Grown.{none_within, no_field, find_last}
use Rattle.law_methods_introduced.proofs.Binding.{Among, Named, HasRecord, one_step, all_step, of_owner, filter_among, changed_there, at_own, found_named, named_reversed}
use Rattle.law_local_methods.specs.Laws.{with_own, IsOwned}
use Rattle.law_local_methods.proofs.Bindings.{Stay, by_stays, all_stays, records_stay}
use Rattle.law_local_module.proofs.Bound.{Signed, Quiet, IsJudged, one_signed, all_signed, records_signed}
use Rattle.law_methods_bound.specs.Matched.{Matches, BindingsMatch}
use Rattle.law_methods_bound.proofs.Early.{early_self, Later, one_back, all_back, records_back}
use Rattle.law_lists.proofs.Lists.{back_empty, or_second}

-- ---- a record that introduces a procedure has it

within_own : (g : Map) (n : ℕ) (q : QName) (x : List ℕ) (r : Member) → own_member q (g q) x ≡ Some r → member_within g (suc n) q x ≡ Some r
unfolding member_within
within_own g n q x r e = ap (λ o. or_in_base o (base_record g q) (λ b. member_within g n b x)) e

gained : (f g : Map) (q : QName) (r : RecordDesc) (m : Method) → f q ≡ Some (desc.Record r) → g q ≡ Some (desc.Record (with_method r m)) → (x : List ℕ) → bytes_eq m.name x ≡ true → member f q x ≡ None → member g q x ≡ Some (AMethod q m)
gained f g q r m was is x named e =
    let test : Method → Bool = λ k. bytes_eq k.name x in
    let none : own_member q (Some (desc.Record r)) x ≡ None = subst (λ o. own_member q o x ≡ None) was (none_within f 200 q x e) in
    let parts = no_field q (find (λ (k : Field). bytes_eq k.name x) r.fields) (find test r.methods) none in
    let there : field_or q (find (λ (k : Field). bytes_eq k.name x) r.fields) (find test (r.methods ++ m ∷ [])) ≡ Some (AMethod q m) = ap (λ k. field_or q k (find test (r.methods ++ m ∷ []))) parts.0 ∙ ap (field_or q None) (find_last test r.methods m named parts.1) in
    within_own g 200 q x (AMethod q m) (ap (λ o. own_member q o x) is ∙ there)

-- ---- what is bound has its parameters

sound_found : (test : Bound → Bool) (bs : List Bound) → Signed bs → sound_in (find test bs) ≡ true
sound_found test [] s = refl
sound_found test (b ∷ bs) s = by (test b) (sound_found test bs s.1)
  where
    by : (c : Bool) → sound_in (find test bs) ≡ true → sound_in (cond c (Some b) (find test bs)) ≡ true
    by true r = s.0
    by false r = r

introduced_is : (u : Around) (bs : List Bound) (q : QName) (x : List ℕ) → Signed bs → introduced_sound u bs q x ≡ true
introduced_is u bs q x s = or_second (not (bytes_eq q.«module» u.unit)) (sound_in (find (λ b. bytes_eq b.owner.object q.object && bytes_eq b.name x) bs)) (sound_found (λ b. bytes_eq b.owner.object q.object && bytes_eq b.name x) bs s)

has_some : (o : Option Parameters) → Has (λ p. Unit {0}) o → is_some o ≡ true
has_some None h = absurd h
has_some (Some p) h = refl

left_true : (a b x y : Bool) → a ≡ true → b ≡ true → (not x || (a && b && not y)) ≡ false → (x ≡ true) × (y ≡ true)
left_true true true true true e f g = (refl, refl)
left_true true true true false e f g = absurd (false≢true (sym g))
left_true true true false y e f g = absurd (false≢true (sym g))
left_true true false x y e f g = absurd (false≢true f)
left_true false b x y e f g = absurd (false≢true e)

quiet_not : (c : Bool) (st : Binding) (h : Head) (b : BoundAs) → Quiet (redefined c st h b) → c ≡ false
quiet_not true st h b e = not_empty _ [] (back_empty st.notes.broken (broken_at rule.UnmatchedRedefinition h.at).broken e)
quiet_not false st h b e = refl

clash_not : (st : Binding) (at : Pos) (f : Bool) → f ≡ false → st.notes.broken ++ (notes_if (not f) rule.DeclaredTwice at).broken ≡ [] → ⊥
clash_not st at true g q = false≢true (sym g)
clash_not st at false g q = not_empty _ [] (back_empty st.notes.broken (broken_at rule.DeclaredTwice at).broken q)

module _ (u : Around) (last : List TypedType) (h0 : Head) (b0 : BoundAs) (own : bytes_eq b0.owner.«module» u.unit ≡ true) (bound : h0.bound ≡ Some b0) (judged : IsJudged h0) where
  abbrev at : List TypedType → Map
  at ts = with_own u ts

  abbrev T : Type 0
  T = (q : QName) (m : Method) → member (at last) b0.owner h0.name ≡ Some (AMethod q m) → (q ≡ b0.owner → ⊥) → Matches u last h0 b0 q m

  -- where it is found already
  method_match : (st : Binding) → Signed st.bound → Later u last st.own → (p : QName) (k : Method) → member (at st.own) b0.owner h0.name ≡ Some (AMethod p k) → member (at last) b0.owner h0.name ≡ Some (AMethod p k) →
      (c : Bool) → bytes_eq p.object b0.owner.object && bytes_eq p.«module» u.unit ≡ c → Quiet (bind_method c u (at st.own) st h0 b0 p k) → T
  method_match st s later p k here there true c quiet q m final never =
      let both : Some (AMethod p k) ≡ Some (AMethod q m) = sym there ∙ final in
      let same : p ≡ q = cc in
      let parts = and_parts (bytes_eq p.object b0.owner.object) (bytes_eq p.«module» u.unit) c in
      let object : p.object ≡ b0.owner.object = (bytes_eq-Decides p.object b0.owner.object).0 parts.0 in
      let unit : p.«module» ≡ b0.owner.«module» = (bytes_eq-Decides p.«module» u.unit).0 parts.1 ∙ sym ((bytes_eq-Decides b0.owner.«module» u.unit).0 own) in
      let is : p ≡ b0.owner = ap (λ (x : List ℕ). let n : QName = record { «module» = x; object = p.object } in n) unit ∙ ap (λ (x : List ℕ). let n : QName = record { «module» = b0.owner.«module»; object = x } in n) object in
      absurd (never (sym same ∙ is))
  method_match st s later p k here there false c quiet q m final never =
      let both : Some (AMethod p k) ≡ Some (AMethod q m) = sym there ∙ final in
      let same : k ≡ m = cc in
      let none = quiet_not (not (same_kind k.receiver b0.receiver) || differ (at st.own) h0 k (introduced_sound u st.bound p k.name)) st h0 b0 quiet in
      let parts = left_true (introduced_sound u st.bound p k.name) (is_some h0.parameters) (same_kind k.receiver b0.receiver) (signatures_match (at st.own) (Some k.signature) (signature_if h0.parameters)) (introduced_is u st.bound p k.name s) (has_some h0.parameters judged.1) none in
      record {
        own = st.own;
        early = later;
        found = here ∙ both;
        kind = subst (λ (x : Method). same_kind x.receiver b0.receiver ≡ true) same parts.0;
        match = subst (λ (x : Method). signatures_match (at st.own) (Some x.signature) (signature_if h0.parameters) ≡ true) same parts.1;
      }

  by_match : (st : Binding) → HasRecord st.own b0.owner.object → Signed st.bound → Later u last st.own → (o : Option Member) → member (at st.own) b0.owner h0.name ≡ o → Quiet (bind_by u (at st.own) st h0 b0 o) → Stay u (bind_by u (at st.own) st h0 b0 o).own last → T
  by_match st r s later None i quiet stay = λ q m final never.
      let new = new_method h0 b0 in
      let has = gained (at st.own) (at (introduce st h0 b0).own) b0.owner r.r new (at_own u h0 b0 own bound judged.0 st.own ∙ r.is)
      (at_own u h0 b0 own bound judged.0 (introduce st h0 b0).own ∙ changed_there b0.owner.object new st.own r.r r.is) h0.name ((bytes_eq-Decides h0.name h0.name).1 refl) i in
      let both : Some (AMethod b0.owner new) ≡ Some (AMethod q m) = sym (stay b0.owner h0.name (AMethod b0.owner new) has) ∙ final in
      let same : b0.owner ≡ q = cc in
      absurd (never (sym same))
  by_match st r s later (Some (AField p f)) i quiet stay = λ q m final never. absurd (clash_not st h0.at h0.forward judged.0 quiet)
  by_match st r s later (Some (AMethod p k)) i quiet stay =
      method_match st s later p k i (stay b0.owner h0.name (AMethod p k) (by_stays u st h0 b0 own (Some (AMethod p k)) i b0.owner h0.name (AMethod p k) i)) (bytes_eq p.object b0.owner.object && bytes_eq p.«module» u.unit) refl quiet

  one_match : (st : Binding) → HasRecord st.own b0.owner.object → Signed st.bound → Later u last st.own → (o : Option BoundAs) → o ≡ Some b0 → Quiet (bind_one u st h0 o) → Stay u (bind_one u st h0 o).own last → T
  one_match st r s later None e quiet stay = absurd cc
  one_match st r s later (Some b) e quiet stay =
      let same : b ≡ b0 = cc in
      subst (λ (x : BoundAs). Quiet (bind_one u st h0 (Some x)) → Stay u (bind_one u st h0 (Some x)).own last → T) (sym same) (λ quiet stay. by_match st r s later (member (at st.own) b0.owner h0.name) refl quiet stay) quiet stay

  all_match : (hs : List Head) → Among h0 hs → AllByRecursion (λ (h : Head). IsOwned u.unit h.bound) hs → AllByRecursion IsJudged hs → (st : Binding) → HasRecord st.own b0.owner.object → Signed st.bound → Quiet (bind_all u st hs) → Stay u (bind_all u st hs).own last → Later u last (bind_all u st hs).own → T
  all_match [] a owned js st r s quiet stay later = absurd a
  all_match (h ∷ hs) (inl i) owned js st r s quiet stay later =
      let n = bind_one u st h h.bound in
      let calm = (all_signed u hs js.1 n quiet).0 in
      let stays : Stay u n.own last = λ q x y e. stay q x y (all_stays u hs owned.1 n q x y e) in
      let before = one_back u last st h h.bound (all_back u last hs n later) in
      subst (λ (x : Head). Quiet (bind_one u st x x.bound) → Stay u (bind_one u st x x.bound).own last → T) (sym i) (λ quiet stay. one_match st r s before h0.bound bound quiet stay) calm stays
  all_match (h ∷ hs) (inr a) owned js st r s quiet stay later =
      let n = bind_one u st h h.bound in
      let calm = (all_signed u hs js.1 n quiet).0 in
      all_match hs a owned.1 js.1 n ((one_step u h0 b0 own bound judged.0 st h h.bound).there r) ((one_signed u st h h.bound js.0 calm).1 s) quiet stay later

  records_match : (hs : List Head) → Among h0 hs → AllByRecursion (λ (h : Head). IsOwned u.unit h.bound) hs → AllByRecursion IsJudged hs → (ts : List TypedType) → Named b0.owner.object ts → (st : Binding) → HasRecord st.own b0.owner.object → Signed st.bound → Quiet (bind_records u hs st ts) → Stay u (bind_records u hs st ts).own last → Later u last (bind_records u hs st ts).own → T
  records_match hs a owned js [] n st r s quiet stay later = absurd n
  records_match hs a owned js (t ∷ ts) (inl i) st r s quiet stay later =
      let some = filter (of_record t.name) hs in
      let k = bind_all u st some in
      all_match some (filter_among (of_record t.name) h0 (of_owner u h0 b0 own bound judged.0 t.name i) hs a) (kept_filter (λ (h : Head). IsOwned u.unit h.bound) (of_record t.name) hs owned) (filter_has IsJudged (of_record t.name) hs js) st r s
      (records_signed u hs js ts k quiet).0 (λ q x y e. stay q x y (records_stay u hs owned ts k q x y e)) (records_back u last hs ts k later)
  records_match hs a owned js (t ∷ ts) (inr n) st r s quiet stay later =
      let some = filter (of_record t.name) hs in
      let k = bind_all u st some in
      let calm = (records_signed u hs js ts k quiet).0 in
      records_match hs a owned js ts n k ((all_step u h0 b0 own bound judged.0 some st).there r) ((all_signed u some (filter_has IsJudged (of_record t.name) hs js) st calm).1 s) quiet stay later

among_one : {A : Type 0} (xs : List A) (x : A) → IsOneOf xs x → Among x xs
among_one [] x i = i
among_one (y ∷ ys) x (inl e) = inl e
among_one (y ∷ ys) x (inr i) = inr (among_one ys x i)

pub bindings_match : BindingsMatch
bindings_match u hs owned js quiet h b i bound own r =
    let last = (bindings u hs).own in
    records_match u last h b own bound (judged_at (counted hs) h i js) (counted hs) (among_one (counted hs) h i) owned js (reversed u.own) (named_reversed b.owner.object u.own (found_named b.owner.object u.own (desc.Record r.r) r.is))
    (record { own = u.own; bound = []; notes = no_notes }) r tt quiet (λ q x y e. e) (early_self last)
  where
    judged_at : (xs : List Head) (x : Head) → IsOneOf xs x → AllByRecursion IsJudged xs → IsJudged x
    judged_at [] x i k = absurd i
    judged_at (y ∷ ys) x (inl e) k = subst IsJudged e k.0
    judged_at (y ∷ ys) x (inr i) k = judged_at ys x i k.1
