-- The member that a procedure is bound to, and the records up to the one that introduces it.
use Rattle.std.proofs.Common.{◌≡◌, inl, inr, ℕ, zero, suc, Bool, true, false, List, [], ◌∷◌, Option, Some, None, refl, sym, ap, subst, ◌∙◌}
use Rattle.std.specs.Prelude.{bytes_eq, cond}
use Rattle.std.specs.List.{find}
use Rattle.std.proofs.lemmas.Slice.Eq.{bytes_eq-Decides}
use Rattle.ob_tree.specs.declared.names.QName.{QName}
use Rattle.ob_types.specs.declared.types.TypeRef.{TypeRef}
use Rattle.ob_types.specs.declared.types.TypeRef.TheVariants as ref
use Rattle.ob_types.specs.declared.desc.Desc.{Desc}
use Rattle.ob_types.specs.declared.desc.Desc.TheVariants as desc
use Rattle.ob_types.specs.declared.desc.RecordDesc.{RecordDesc}
use Rattle.ob_types.specs.declared.desc.Field.{Field}
use Rattle.ob_types.specs.declared.desc.Method.{Method}
use Rattle.ob_types.specs.Tests.{target_of, follow, target, shape_at}
use Rattle.ob_rules.specs.Shapes.{Map, Member, AMethod, field_or, own_member, or_in_base, base_type, record_at, record_of, record_if, base_record, member_within, member}
use Rattle.law_methods_introduced.specs.Families.{IsBase, Extends, Introduces}

-- ---- records by their descriptions

pub record Finds (map : Map) (t : TypeRef) (b : QName) : Type 0 where
  pub end : target map 201 t ≡ ref.Named b
  pub r : RecordDesc
  pub is : map b ≡ Some (desc.Record r)

at_end : (map : Map) (t : TypeRef) (b : QName) → record_at t (shape_at map t) ≡ Some b → (t ≡ ref.Named b) × ((r : RecordDesc) × (map b ≡ Some (desc.Record r)))
at_end map (ref.Basic x) b e = absurd cc
at_end map (ref.Named p) b e = go (map p) refl e
  where
    go : (o : Option Desc) → map p ≡ o → record_at (ref.Named p) o ≡ Some b → (ref.Named p ≡ ref.Named b) × ((r : RecordDesc) × (map b ≡ Some (desc.Record r)))
    go None i e = absurd cc
    go (Some (desc.Record r)) i e = let same : p ≡ b = cc in (ap (λ x. ref.Named x) same, (r, subst (λ x. map x ≡ Some (desc.Record r)) same i))
    go (Some (desc.Const v)) i e = absurd cc
    go (Some (desc.Var m t)) i e = absurd cc
    go (Some (desc.Proc s)) i e = absurd cc
    go (Some (desc.Alias m t)) i e = absurd cc
    go (Some (desc.Array m n t)) i e = absurd cc
    go (Some (desc.OpenArray m t)) i e = absurd cc
    go (Some (desc.Pointer m t)) i e = absurd cc
    go (Some (desc.ProcType m s)) i e = absurd cc

pub finds : (map : Map) (t : TypeRef) (b : QName) → record_of map t ≡ Some b → Finds map t b
finds map t b e = let k = at_end map (target map 201 t) b e in record { end = k.0; r = k.1.0; is = k.1.1 }

pub found_by : (map : Map) (t : TypeRef) (b : QName) (r : RecordDesc) → target map 201 t ≡ ref.Named b → map b ≡ Some (desc.Record r) → record_of map t ≡ Some b
found_by map t b r e is = ap (λ x. record_at x (shape_at map x)) e ∙ ap (record_at (ref.Named b)) is

-- ---- a member that is a bound procedure

own_method : (q : QName) (a : Option Desc) (x : List ℕ) (o : QName) (m : Method) → own_member q a x ≡ Some (AMethod o m) → (q ≡ o) × ((r : RecordDesc) × ((a ≡ Some (desc.Record r)) × (find (λ (k : Method). bytes_eq k.name x) r.methods ≡ Some m)))
own_method q None x o m e = absurd cc
own_method q (Some (desc.Const v)) x o m e = absurd cc
own_method q (Some (desc.Var k t)) x o m e = absurd cc
own_method q (Some (desc.Proc s)) x o m e = absurd cc
own_method q (Some (desc.Alias k t)) x o m e = absurd cc
own_method q (Some (desc.Array k n t)) x o m e = absurd cc
own_method q (Some (desc.OpenArray k t)) x o m e = absurd cc
own_method q (Some (desc.Pointer k t)) x o m e = absurd cc
own_method q (Some (desc.ProcType k s)) x o m e = absurd cc
own_method q (Some (desc.Record r)) x o m e = let k = go (find (λ (k : Field). bytes_eq k.name x) r.fields) (find (λ (k : Method). bytes_eq k.name x) r.methods) e in (k.0, (r, (refl, k.1)))
  where
    go : (f : Option Field) (k : Option Method) → field_or q f k ≡ Some (AMethod o m) → (q ≡ o) × (k ≡ Some m)
    go None None e = absurd cc
    go None (Some k) e = (cc, cc)
    go (Some f) k e = absurd cc

base_is : (map : Map) (q b : QName) → base_record map q ≡ Some b → IsBase map q b
base_is map q b e = go (map q) refl e
  where
    of_base : (r : RecordDesc) → map q ≡ Some (desc.Record r) → (o : Option TypeRef) → r.base ≡ o → record_if map o ≡ Some b → IsBase map q b
    of_base r i None k e = absurd cc
    of_base r i (Some t) k e = record { r = r; is = i; t = t; base = k; found = e }

    go : (o : Option Desc) → map q ≡ o → record_if map (base_type o) ≡ Some b → IsBase map q b
    go None i e = absurd cc
    go (Some (desc.Record r)) i e = of_base r i r.base refl e
    go (Some (desc.Const v)) i e = absurd cc
    go (Some (desc.Var m t)) i e = absurd cc
    go (Some (desc.Proc s)) i e = absurd cc
    go (Some (desc.Alias m t)) i e = absurd cc
    go (Some (desc.Array m n t)) i e = absurd cc
    go (Some (desc.OpenArray m t)) i e = absurd cc
    go (Some (desc.Pointer m t)) i e = absurd cc
    go (Some (desc.ProcType m s)) i e = absurd cc

pub record Comes (map : Map) (n : ℕ) (q : QName) (x : List ℕ) (o : QName) (m : Method) : Type 0 where
  pub line : Extends map n q o
  pub introduced : Introduces map o x
  pub named : introduced.m ≡ m

within_comes : (map : Map) (n : ℕ) (q : QName) (x : List ℕ) (o : QName) (m : Method) → member_within map n q x ≡ Some (AMethod o m) → Comes map n q x o m
unfolding member_within
within_comes map zero q x o m e = absurd cc
within_comes map (suc n) q x o m e = go (own_member q (map q) x) refl (base_record map q) refl e (λ b. within_comes map n b x o m)
  where
    itself : (k : Member) → own_member q (map q) x ≡ Some k → k ≡ AMethod o m → Comes map (suc n) q x o m
    itself k i same =
        let p = own_method q (map q) x o m (i ∙ ap (λ (z : Member). Some z) same) in
        record { line = inl p.0; introduced = record { r = p.1.0; is = subst (λ z. map z ≡ Some (desc.Record p.1.0)) p.0 p.1.1.0; m = m; found = p.1.1.1 }; named = refl }

    go : (k : Option Member) → own_member q (map q) x ≡ k → (b : Option QName) → base_record map q ≡ b → or_in_base k b (λ b. member_within map n b x) ≡ Some (AMethod o m) → ((b : QName) → member_within map n b x ≡ Some (AMethod o m) → Comes map n b x o m) → Comes map (suc n) q x o m
    go (Some k) i b j e up = let same : k ≡ AMethod o m = cc in itself k i same
    go None i None j e up = absurd cc
    go None i (Some b) j e up = let c = up b e in record { line = inr (b, (base_is map q b j, c.line)); introduced = c.introduced; named = c.named }

pub member_comes : (map : Map) (q : QName) (x : List ℕ) (o : QName) (m : Method) → member map q x ≡ Some (AMethod o m) → Comes map 201 q x o m
member_comes map q x o m e = within_comes map 201 q x o m e

-- its name is the one by which it is found
pub found_name : (x : List ℕ) (ms : List Method) (m : Method) → find (λ (k : Method). bytes_eq k.name x) ms ≡ Some m → m.name ≡ x
found_name x [] m e = absurd cc
found_name x (k ∷ ms) m e = go (bytes_eq k.name x) refl e (found_name x ms m)
  where
    go : (b : Bool) → bytes_eq k.name x ≡ b → cond b (Some k) (find (λ (k : Method). bytes_eq k.name x) ms) ≡ Some m → (find (λ (k : Method). bytes_eq k.name x) ms ≡ Some m → m.name ≡ x) → m.name ≡ x
    go true i e up = let same : k ≡ m = cc in ap (λ (z : Method). z.name) (sym same) ∙ (bytes_eq-Decides k.name x).0 i
    go false i e up = up e

-- ---- the same by other descriptions

-- what they say of names of types and of records, the others say too
pub record Says (f g : Map) : Type 0 where
  pub alias : (q : QName) (t : TypeRef) → target_of (f q) ≡ Some t → target_of (g q) ≡ Some t
  pub records : (q : QName) (r : RecordDesc) → f q ≡ Some (desc.Record r) → (s : RecordDesc) × ((g q ≡ Some (desc.Record s)) × ((s.base ≡ r.base) × ((x : List ℕ) (m : Method) → find (λ (k : Method). bytes_eq k.name x) r.methods ≡ Some m → (k : Method) × (find (λ (k : Method). bytes_eq k.name x) s.methods ≡ Some k))))

module _ (f g : Map) (says : Says f g) where
  stops : (q b : QName) (r : RecordDesc) (n : ℕ) → ref.Named q ≡ ref.Named b → f b ≡ Some (desc.Record r) → target g (suc n) (ref.Named q) ≡ ref.Named b
  unfolding target
  stops q b r n e is =
      let same : q ≡ b = cc in
      let k = says.records b r is in
      let none : target_of (g q) ≡ None = ap (λ x. target_of (g x)) same ∙ ap target_of k.1.0 in
      ap (λ o. follow o (ref.Named q) (λ u. target g n u)) none ∙ e

  ends : (n : ℕ) (t : TypeRef) (b : QName) (r : RecordDesc) → target f n t ≡ ref.Named b → f b ≡ Some (desc.Record r) → target g n t ≡ ref.Named b
  unfolding target
  ends zero t b r e is = e
  ends (suc n) (ref.Basic x) b r e is = absurd cc
  ends (suc n) (ref.Named q) b r e is = go (target_of (f q)) refl e (λ u. ends n u b r)
    where
      go : (o : Option TypeRef) → target_of (f q) ≡ o → follow o (ref.Named q) (λ u. target f n u) ≡ ref.Named b → ((u : TypeRef) → target f n u ≡ ref.Named b → f b ≡ Some (desc.Record r) → target g n u ≡ ref.Named b) → target g (suc n) (ref.Named q) ≡ ref.Named b
      go None i e up = stops q b r n e is
      go (Some t) i e up = ap (λ o. follow o (ref.Named q) (λ u. target g n u)) (says.alias q t i) ∙ up t e is

  base_says : (q b : QName) → IsBase f q b → IsBase g q b
  base_says q b h =
      let k = says.records q h.r h.is in
      let e = finds f h.t b h.found in
      let l = says.records b e.r e.is in
      record { r = k.0; is = k.1.0; t = h.t; base = k.1.1.0 ∙ h.base; found = found_by g h.t b l.0 (ends 201 h.t b e.r e.end e.is) l.1.0 }

  pub line_says : (n : ℕ) (q o : QName) → Extends f n q o → Extends g n q o
  line_says zero q o h = h
  line_says (suc n) q o (inl e) = inl e
  line_says (suc n) q o (inr h) = inr (h.0, (base_says q h.0 h.1.0, line_says n h.0 o h.1.1))

  pub introduces_says : (o : QName) (x : List ℕ) → Introduces f o x → Introduces g o x
  introduces_says o x h =
      let k = says.records o h.r h.is in
      let m = k.1.1.1 x h.m h.found in
      record { r = k.0; is = k.1.0; m = m.0; found = m.1 }
