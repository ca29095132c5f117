-- What types lead to, in a map that says the same, and what is held there.
use Rattle.std.proofs.Common.{◌≡◌, ℕ, zero, suc, List, [], ◌∷◌, ◌++◌, map as each, Option, Some, None, true, refl, sym, ap, ◌∙◌, subst, inl, inr, ⊎_elim}
use Rattle.std.specs.Prelude.{bytes_eq, ◌⊎◌}
use Rattle.std.specs.List.{AllByRecursion, find, flat_map}
use Rattle.ob_tree.specs.declared.names.QName.{QName}
use Rattle.ob_types.specs.declared.types.TypeRef.{TypeRef}
use Rattle.ob_types.specs.declared.types.TypeRef.TheVariants as ref
use Rattle.ob_types.specs.declared.desc.Desc.{Desc}
use Rattle.ob_types.specs.declared.desc.Desc.TheVariants as desc
use Rattle.ob_types.specs.declared.desc.RecordDesc.{RecordDesc}
use Rattle.ob_types.specs.declared.desc.Field.{Field}
use Rattle.ob_types.specs.declared.desc.Method.{Method}
use Rattle.ob_types.specs.Maps.{listed, signature_types}
use Rattle.ob_types.specs.Tests.{target, target_of, follow, shape_at}
use Rattle.ob_uses_roots.specs.Noted.{names_of}
use Rattle.ob_uses.specs.declared.way.Way.TheVariants as way
use Rattle.ob_uses.specs.Uses.{near_types}
use Rattle.ob_uses.specs.Closed.{is_among, of_found}
use Rattle.ob_uses.specs.Ways.{desc_leads}
use Rattle.ob_uses.specs.Reaching.{first, onward}
use Rattle.ob_rules.specs.Shapes.{Map, Member, AField, AMethod, shape, record_at, record_of, pointed, array_of, field_or, own_member, base_record, or_in_base, member_within, member}
use Rattle.law_local_judged.specs.Agreement.{IsIn, AreIn, DescIn, Agree}
use Rattle.law_local_judged.proofs.Near.{left_in, right_in}
use Rattle.law_local_judged.proofs.Tests.{pointed_in, elements_in, record_in, base_record_in}
use Rattle.law_local_judged.proofs.Owners.{owner_of, member_owner}
use Rattle.ob_desc.specs.Grammar.{same_object}
use Rattle.ob_desc.specs.Laws.{object_decides}
use Rattle.ob_uses.proofs.Searching.{itself as among_itself, left_of, in_back, either}
use Rattle.law_local_uses.specs.Settled.{core, Says, SaysAll, NamesIn, open_chars}
use Rattle.law_local_uses.proofs.Setting.{Setting, Leads, find_has}
use Rattle.law_lists.proofs.Lists.{IfThere, none_some, some_same}

-- ---- names among types

pub all_on : (P : QName → Type 0) (ts : List TypeRef) → ((q : QName) → is_among (names_of ts) q ≡ true → P q) → AreIn P ts
all_on P [] f = tt
all_on P (ref.Basic b ∷ ts) f = (tt, all_on P ts f)
all_on P (ref.Named q ∷ ts) f = (f q (left_of _ _ (among_itself q)), all_on P ts (λ r i. f r (in_back (q ∷ []) (names_of ts) r i)))

pub among_on : (P : QName → Type 0) (ts : List TypeRef) → AreIn P ts → (q : QName) → is_among (names_of ts) q ≡ true → P q
among_on P [] all q i = absurd cc
among_on P (ref.Basic b ∷ ts) all q i = among_on P ts all.1 q i
among_on P (ref.Named r ∷ ts) all q i = ⊎_elim (λ (e : same_object q r ≡ true). subst P (sym ((object_decides q r).0 e)) all.0) (λ (h : is_among (names_of ts) q ≡ true). among_on P ts all.1 q h) (either (same_object q r) (is_among (names_of ts) q) i)

-- ---- what the core of a description tells

near_core : (d : Desc) → near_types (core d) ≡ near_types d
near_core (desc.Record r) = refl
near_core (desc.Const v) = refl
near_core (desc.Var m t) = refl
near_core (desc.Proc s) = refl
near_core (desc.Alias m t) = refl
near_core (desc.Array m n t) = refl
near_core (desc.OpenArray m t) = refl
near_core (desc.Pointer m t) = refl
near_core (desc.ProcType m s) = refl

pub near_same : (e d : Desc) → core e ≡ core d → near_types e ≡ near_types d
near_same e d c = sym (near_core e) ∙ ap near_types c ∙ near_core d

target_core : (d : Desc) → target_of (Some (core d)) ≡ target_of (Some d)
target_core (desc.Record r) = refl
target_core (desc.Const v) = refl
target_core (desc.Var m t) = refl
target_core (desc.Proc s) = refl
target_core (desc.Alias m t) = refl
target_core (desc.Array m n t) = refl
target_core (desc.OpenArray m t) = refl
target_core (desc.Pointer m t) = refl
target_core (desc.ProcType m s) = refl

pub target_alike : (e d : Desc) → core e ≡ core d → target_of (Some e) ≡ target_of (Some d)
target_alike e d c = sym (target_core e) ∙ ap (λ d. target_of (Some d)) c ∙ target_core d

-- ---- what is near a description is named by it

pub near_named : (P : QName → Type 0) (d : Desc) → NamesIn P d → AreIn P (near_types d)
near_named P (desc.Record r) h = left_in P (listed r.base) (each (λ f. f.of) r.fields) (left_in P (listed r.base ++ each (λ f. f.of) r.fields) (flat_map (λ m. signature_types m.signature) r.methods) h)
near_named P (desc.Const v) h = tt
near_named P (desc.Var m t) h = tt
near_named P (desc.Proc s) h = tt
near_named P (desc.Alias m t) h = h
near_named P (desc.Array m n t) h = h
near_named P (desc.OpenArray m t) h = h
near_named P (desc.Pointer m t) h = h
near_named P (desc.ProcType m s) h = h

-- ---- in a map all of whose descriptions name what is held

-- the type of a field, the parameters and the result of a bound procedure
abbrev pub MemberIn : (QName → Type 0) → Member → Type 0
MemberIn P (AField o x) = IsIn P x.of
MemberIn P (AMethod o m) = AreIn P (signature_types m.signature)

module _ (P : QName → Type 0) (f : Map) (named : (q : QName) (d : Desc) → f q ≡ Some d → NamesIn P d) where
  near_if : (q : QName) (o : Option Desc) → f q ≡ o → DescIn P o
  near_if q None e = tt
  near_if q (Some d) e = near_named P d (named q d e)

  pub held_agree : Agree P f f
  held_agree = record { same = λ q h. refl; near = λ q h. near_if q (f q) refl }

  fields_in : (fs : List Field) → AreIn P (each (λ x. x.of) fs) → AllByRecursion (λ x. IsIn P x.of) fs
  fields_in [] h = tt
  fields_in (x ∷ fs) h = (h.0, fields_in fs h.1)

  methods_in : (ms : List Method) → AreIn P (flat_map (λ m. signature_types m.signature) ms) → AllByRecursion (λ m. AreIn P (signature_types m.signature)) ms
  methods_in [] h = tt
  methods_in (m ∷ ms) h = (left_in P (signature_types m.signature) (flat_map (λ m. signature_types m.signature) ms) h, methods_in ms (right_in P (signature_types m.signature) (flat_map (λ m. signature_types m.signature) ms) h))

  of_field : (q : QName) (a : Option Field) (b : Option Method) → IfThere (λ x. IsIn P x.of) a → IfThere (λ m. AreIn P (signature_types m.signature)) b → IfThere (MemberIn P) (field_or q a b)
  of_field q None None h g = tt
  of_field q None (Some m) h g = g
  of_field q (Some x) b h g = h

  own_in : (q : QName) (o : Option Desc) (x : List ℕ) → ((d : Desc) → o ≡ Some d → NamesIn P d) → IfThere (MemberIn P) (own_member q o x)
  own_in q (Some (desc.Record r)) x h =
      let all = h (desc.Record r) refl in
      let front = left_in P (listed r.base ++ each (λ f. f.of) r.fields) (flat_map (λ m. signature_types m.signature) r.methods) all in
      of_field q (find (λ f. bytes_eq f.name x) r.fields) (find (λ m. bytes_eq m.name x) r.methods)
      (find_has (λ x. IsIn P x.of) (λ f. bytes_eq f.name x) r.fields (fields_in r.fields (right_in P (listed r.base) (each (λ f. f.of) r.fields) front)))
      (find_has (λ m. AreIn P (signature_types m.signature)) (λ m. bytes_eq m.name x) r.methods (methods_in r.methods (right_in P (listed r.base ++ each (λ f. f.of) r.fields) (flat_map (λ m. signature_types m.signature) r.methods) all)))
  own_in q None x h = tt
  own_in q (Some (desc.Const v)) x h = tt
  own_in q (Some (desc.Var m t)) x h = tt
  own_in q (Some (desc.Proc s)) x h = tt
  own_in q (Some (desc.Alias m t)) x h = tt
  own_in q (Some (desc.Array m n t)) x h = tt
  own_in q (Some (desc.OpenArray m t)) x h = tt
  own_in q (Some (desc.Pointer m t)) x h = tt
  own_in q (Some (desc.ProcType m s)) x h = tt

  within_in : (n : ℕ) (q : QName) (x : List ℕ) → IfThere (MemberIn P) (member_within f n q x)
  unfolding member_within
  within_in zero q x = tt
  within_in (suc n) q x = by (own_member q (f q) x) (base_record f q) (own_in q (f q) x (λ d e. named q d e)) (λ b. within_in n b x)
    where
      by : (o : Option Member) (b : Option QName) → IfThere (MemberIn P) o → ((b : QName) → IfThere (MemberIn P) (member_within f n b x)) → IfThere (MemberIn P) (or_in_base o b (λ b. member_within f n b x))
      by (Some m) b h g = h
      by None None h g = tt
      by None (Some b) h g = g b

  pub member_in : (q : QName) (x : List ℕ) → IfThere (MemberIn P) (member f q x)
  member_in q x = within_in 201 q x

-- ---- in a map that another one says all of

module _ (k : Setting) (f : Map) (says : SaysAll k.map f) where
  leads_near : (t : TypeRef) (q : QName) → Leads k t q → DescIn (Leads k t) (f q)
  leads_near t q h = by (f q) refl
    where
      next : (e : Desc) → k.map q ≡ Some e → AreIn (Leads k t) (near_types e)
      next e i = all_on (Leads k t) (near_types e) (λ r a. onward h (ap (λ o. is_among (of_found (desc_leads way.Near k.unit q) o) r) i ∙ a))

      said : (d : Desc) → Says k.map q d ⊎ (d ≡ open_chars) → AreIn (Leads k t) (near_types d)
      said d (inl s) = subst (AreIn (Leads k t)) (near_same s.0 d s.1.1) (next s.0 s.1.0)
      said d (inr e) = subst (λ d. AreIn (Leads k t) (near_types d)) (sym e) (tt, tt)

      by : (o : Option Desc) → f q ≡ o → DescIn (Leads k t) o
      by None e = tt
      by (Some d) e = said d (says q d e)

  leads_agree : (t : TypeRef) → Agree (Leads k t) f f
  leads_agree t = record { same = λ q h. refl; near = leads_near t }

  itself : (t : TypeRef) → IsIn (Leads k t) t
  itself t = (all_on (Leads k t) (t ∷ []) (λ q h. first h)).0

  pub named_leads : (q : QName) → Leads k (ref.Named q) q
  named_leads q = itself (ref.Named q)

  -- a type leads to the record that it is, and to those on which that stands
  pub record_leads : (t : TypeRef) (q : QName) → record_of f t ≡ Some q → Leads k t q
  record_leads t q e = record_in (Leads k t) f f (leads_agree t) t q (itself t) e

  pub member_leads : (t : TypeRef) (q : QName) (x : List ℕ) (m : Member) → Leads k t q → member f q x ≡ Some m → Leads k t (owner_of m)
  member_leads t q x m h e = member_owner (Leads k t) f (leads_agree t) q x m h e

  pub pointed_leads : (t b : TypeRef) → pointed f t ≡ Some b → IsIn (Leads k t) b
  pointed_leads t b e = pointed_in (Leads k t) f f (leads_agree t) t b (itself t) e

  pub through_leads : (t b : TypeRef) (q : QName) → pointed f t ≡ Some b → record_of f b ≡ Some q → Leads k t q
  through_leads t b q e i = record_in (Leads k t) f f (leads_agree t) b q (pointed_leads t b e) i

  pub element_leads : (t b : TypeRef) (a : Option ℕ × TypeRef) → pointed f t ≡ Some b → array_of f b ≡ Some a → IsIn (Leads k t) a.1
  element_leads t b a e i = elements_in (Leads k t) f f (leads_agree t) b a (pointed_leads t b e) i

  pub base_leads : (q b : QName) → base_record f q ≡ Some b → Leads k (ref.Named q) b
  base_leads q b e = base_record_in (Leads k (ref.Named q)) f f (leads_agree (ref.Named q)) q b (itself (ref.Named q)) e

  -- ---- what a type stands for

  -- an alias is one there too
  alias_there : (p : QName) (d : Desc) (u : TypeRef) → f p ≡ Some d → target_of (Some d) ≡ Some u → target_of (k.map p) ≡ Some u
  alias_there p d u e i = by (says p d e)
    where
      by : Says k.map p d ⊎ (d ≡ open_chars) → target_of (k.map p) ≡ Some u
      by (inl s) = ap target_of s.1.0 ∙ target_alike s.0 d s.1.1 ∙ i
      by (inr j) = none_some (sym (ap (λ d. target_of (Some d)) j) ∙ i)

  record_there : (p : QName) (r : RecordDesc) → f p ≡ Some (desc.Record r) → target_of (k.map p) ≡ None
  record_there p r e = by (says p (desc.Record r) e)
    where
      by : Says k.map p (desc.Record r) ⊎ (desc.Record r ≡ open_chars) → target_of (k.map p) ≡ None
      by (inl s) = ap target_of s.1.0 ∙ target_alike s.0 (desc.Record r) s.1.1
      by (inr j) = absurd cc

  named_is : (p q : QName) → ref.Named p ≡ ref.Named q → p ≡ q
  named_is p q e = cc

  target_says : (n : ℕ) (t : TypeRef) (q : QName) (r : RecordDesc) → f q ≡ Some (desc.Record r) → target f n t ≡ ref.Named q → target k.map n t ≡ ref.Named q
  unfolding target
  target_says zero t q r i e = e
  target_says (suc n) (ref.Basic b) q r i e = e
  target_says (suc n) (ref.Named p) q r i e = by (f p) refl (λ u l. target_says n u q r i l)
    where
      stop : target_of (f p) ≡ None → follow (target_of (k.map p)) (ref.Named p) (λ u. target k.map n u) ≡ ref.Named q
      stop j =
          let same : ref.Named p ≡ ref.Named q = sym (ap (λ o. follow o (ref.Named p) (λ u. target f n u)) j) ∙ e in
          ap (λ o. follow o (ref.Named p) (λ u. target k.map n u)) (record_there p r (ap f (named_is p q same) ∙ i)) ∙ same

      by : (o : Option Desc) → f p ≡ o → ((u : TypeRef) → target f n u ≡ ref.Named q → target k.map n u ≡ ref.Named q) → follow (target_of (k.map p)) (ref.Named p) (λ u. target k.map n u) ≡ ref.Named q
      by (Some (desc.Alias m u)) j ih = ap (λ o. follow o (ref.Named p) (λ u. target k.map n u)) (alias_there p (desc.Alias m u) u j refl) ∙ ih u (sym (ap (λ o. follow (target_of o) (ref.Named p) (λ u. target f n u)) j) ∙ e)
      by None j ih = stop (ap target_of j)
      by (Some (desc.Const v)) j ih = stop (ap target_of j)
      by (Some (desc.Var m t)) j ih = stop (ap target_of j)
      by (Some (desc.Proc s)) j ih = stop (ap target_of j)
      by (Some (desc.Array m l t)) j ih = stop (ap target_of j)
      by (Some (desc.OpenArray m t)) j ih = stop (ap target_of j)
      by (Some (desc.Pointer m t)) j ih = stop (ap target_of j)
      by (Some (desc.ProcType m s)) j ih = stop (ap target_of j)
      by (Some (desc.Record s)) j ih = stop (ap target_of j)

  -- a record that a type is
  record_at_is : (t : TypeRef) (o : Option Desc) (q : QName) → record_at t o ≡ Some q → (r : RecordDesc) × ((t ≡ ref.Named q) × (o ≡ Some (desc.Record r)))
  record_at_is (ref.Named p) (Some (desc.Record r)) q e = (r, (ap (λ p. ref.Named p) (some_same e), refl))
  record_at_is (ref.Named p) None q e = none_some e
  record_at_is (ref.Named p) (Some (desc.Alias m t)) q e = none_some e
  record_at_is (ref.Named p) (Some (desc.Const c)) q e = none_some e
  record_at_is (ref.Named p) (Some (desc.Var m t)) q e = none_some e
  record_at_is (ref.Named p) (Some (desc.Proc s)) q e = none_some e
  record_at_is (ref.Named p) (Some (desc.Array m n t)) q e = none_some e
  record_at_is (ref.Named p) (Some (desc.OpenArray m t)) q e = none_some e
  record_at_is (ref.Named p) (Some (desc.Pointer m t)) q e = none_some e
  record_at_is (ref.Named p) (Some (desc.ProcType m s)) q e = none_some e
  record_at_is (ref.Basic b) o q e = none_some e

  -- what is a record here stands for it there
  pub record_target : (t : TypeRef) (q : QName) → record_of f t ≡ Some q → target k.map 201 t ≡ ref.Named q
  record_target t q e =
      let a = record_at_is (target f 201 t) (shape f t) q e in
      target_says 201 t q a.0 (sym (ap (shape_at f) a.1.0) ∙ a.1.1) a.1.0
