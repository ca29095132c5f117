-- A member that a record has of its own stands where it does in the declaration whose shape the record shows.
use Rattle.std.proofs.Common.{◌≡◌, ◌≢◌, ℕ, List, [], ◌∷◌, Bool, true, false, Option, Some, None, refl, sym, ap, ◌∙◌, subst, inl, inr}
use Rattle.std.specs.Prelude.{bytes_eq, cond, IsSome}
use Rattle.std.specs.List.{filter}
use Rattle.ob_tree.specs.declared.names.QName.{QName}
use Rattle.ob_types.specs.declared.types.TypeRef.TheVariants as ref
use Rattle.ob_types.specs.declared.desc.Desc.{Desc}
use Rattle.ob_types.specs.declared.desc.Desc.TheVariants as desc
use Rattle.ob_types.specs.declared.desc.RecordDesc.{RecordDesc}
use Rattle.ob_types.specs.declared.desc.Field.{Field}
use Rattle.ob_types.specs.declared.desc.Method.{Method}
use Rattle.ob_types.specs.Maps.{is_type}
use Rattle.ob_types.specs.Relations.{is_record}
use Rattle.law_simulation_relation.proofs.Names.{bytes_same, bytes_true}
use Rattle.ob_desc.specs.Grammar.{is_shown, by_place, seen}
use Rattle.ob_layout.specs.Lists.{or_else, in_order}
use Rattle.ob_layout.specs.Members.{field_named, method_named, nearest, nearest_in, from_base, field_in_record, method_in_record}
use Rattle.ob_uses.specs.Objects.{in_places}
use Rattle.law_names_distinct.specs.Distinct.{AreDistinct}
use Rattle.law_local_files.specs.Agreeing.{Map, as_shape}
use Rattle.law_typing_forms.specs.Said.{IsOneOf, IsFreshName, HaveNames}
use Rattle.law_typing_forms.proofs.Modules.{of_all, other_name}
use Rattle.law_typing_env.proofs.Shown.{one_filtered, one_ordered}
use Rattle.law_builds_seen.specs.Seen.{HasField, HasMethod}
use Rattle.law_builds_joint.specs.Named.{MethodsDiffer}
use Rattle.law_builds_joint.proofs.Shown.{FieldsDiffer, Told, same, plain, shown}

-- ---- lists

field_one : (x : List ℕ) (fs : List Field) (f : Field) → field_named x fs ≡ Some f → IsOneOf fs f × (f.name ≡ x)
field_one x [] f e = absurd cc
field_one x (g ∷ fs) f e = by (bytes_eq x g.name) refl e (λ i. field_one x fs f i)
  where
    by : (b : Bool) → bytes_eq x g.name ≡ b → cond b (Some g) (field_named x fs) ≡ Some f → (field_named x fs ≡ Some f → IsOneOf fs f × (f.name ≡ x)) → IsOneOf (g ∷ fs) f × (f.name ≡ x)
    by true t i more = let k : g ≡ f = cc in (inl k, ap (λ (z : Field). z.name) (sym k) ∙ sym (bytes_true x g.name t))
    by false t i more = let r = more i in (inr r.0, r.1)

fresh_one : (x : List ℕ) (fs : List Field) (f : Field) → IsFreshName x fs → IsOneOf fs f → x ≢ f.name
fresh_one x [] f h i = absurd i
fresh_one x (g ∷ fs) f h (inl e) = λ k. h.0 (k ∙ ap (λ (z : Field). z.name) (sym e))
fresh_one x (g ∷ fs) f h (inr i) = fresh_one x fs f h.1 i

one_field : (fs : List Field) (f : Field) → HaveNames fs → IsOneOf fs f → field_named f.name fs ≡ Some f
one_field [] f h i = absurd i
one_field (g ∷ fs) f h (inl e) = subst (λ (z : Field). cond (bytes_eq z.name g.name) (Some g) (field_named z.name fs) ≡ Some z) e (ap (λ (b : Bool). cond b (Some g) (field_named g.name fs)) (bytes_same g.name))
one_field (g ∷ fs) f h (inr i) = ap (λ (b : Bool). cond b (Some g) (field_named f.name fs)) (other_name f.name g.name (λ k. fresh_one g.name fs f h.0 i (sym k))) ∙ one_field fs f h.1 i

method_one : (x : List ℕ) (ps : List Method) (p : Method) → method_named x ps ≡ Some p → IsOneOf ps p × (p.name ≡ x)
method_one x [] p e = absurd cc
method_one x (g ∷ ps) p e = by (bytes_eq x g.name) refl e (λ i. method_one x ps p i)
  where
    by : (b : Bool) → bytes_eq x g.name ≡ b → cond b (Some g) (method_named x ps) ≡ Some p → (method_named x ps ≡ Some p → IsOneOf ps p × (p.name ≡ x)) → IsOneOf (g ∷ ps) p × (p.name ≡ x)
    by true t i more = let k : g ≡ p = cc in (inl k, ap (λ (z : Method). z.name) (sym k) ∙ sym (bytes_true x g.name t))
    by false t i more = let r = more i in (inr r.0, r.1)

one_method : (ps : List Method) (p : Method) → AreDistinct (λ m. m.name) ps → IsOneOf ps p → method_named p.name ps ≡ Some p
one_method [] p h i = absurd i
one_method (g ∷ ps) p h (inl e) = subst (λ (z : Method). cond (bytes_eq z.name g.name) (Some g) (method_named z.name ps) ≡ Some z) e (ap (λ (b : Bool). cond b (Some g) (method_named g.name ps)) (bytes_same g.name))
one_method (g ∷ ps) p h (inr i) = ap (λ (b : Bool). cond b (Some g) (method_named p.name ps)) (other_name p.name g.name (of_all (λ (z : Method). z.name ≢ g.name) ps p h.0 i)) ∙ one_method ps p h.1 i

-- ---- what is picked from a record

pub record Picks {A : Type 0} (pick : RecordDesc → Option A) (o : Option Desc) (v : A) : Type 0 where
  pub r : RecordDesc
  pub is : o ≡ Some (desc.Record r)
  pub found : pick r ≡ Some v

some_there : {A : Type 0} (o : Option A) → IsSome o → (v : A) × (o ≡ Some v)
some_there None h = let none : false ≡ true = h in absurd cc
some_there (Some v) h = (v, refl)

has_field : (o : Option Desc) (x : List ℕ) → HasField o x → (f : Field) × Picks (field_in_record x) o f
has_field (Some (desc.Record r)) x h = let v = some_there (field_named x r.fields) h in (v.0, record { r = r; is = refl; found = v.1 })
has_field None x h = absurd h
has_field (Some (desc.Const v)) x h = absurd h
has_field (Some (desc.Var m t)) x h = absurd h
has_field (Some (desc.Proc s)) x h = absurd h
has_field (Some (desc.Alias m t)) x h = absurd h
has_field (Some (desc.Array m n t)) x h = absurd h
has_field (Some (desc.OpenArray m t)) x h = absurd h
has_field (Some (desc.Pointer m t)) x h = absurd h
has_field (Some (desc.ProcType m s)) x h = absurd h

has_method : (o : Option Desc) (x : List ℕ) → HasMethod o x → (p : Method) × Picks (method_in_record x) o p
has_method (Some (desc.Record r)) x h = let v = some_there (method_named x r.methods) h in (v.0, record { r = r; is = refl; found = v.1 })
has_method None x h = absurd h
has_method (Some (desc.Const v)) x h = absurd h
has_method (Some (desc.Var m t)) x h = absurd h
has_method (Some (desc.Proc s)) x h = absurd h
has_method (Some (desc.Alias m t)) x h = absurd h
has_method (Some (desc.Array m n t)) x h = absurd h
has_method (Some (desc.OpenArray m t)) x h = absurd h
has_method (Some (desc.Pointer m t)) x h = absurd h
has_method (Some (desc.ProcType m s)) x h = absurd h

-- it is the nearest
pub picked : {A : Type 0} (pick : RecordDesc → Option A) (map : Map) (q : QName) (v : A) → Picks pick (map q) v → nearest pick map 201 (ref.Named q) ≡ Some v
picked pick map q v p =
    ap (nearest_in pick (nearest pick map 200)) p.is
    ∙ ap (λ o. or_else o (from_base (nearest pick map 200) p.r.base)) p.found

-- ---- what a shape shows of a record

abbrev fields_in : Desc → List Field
fields_in (desc.Record r) = r.fields
fields_in d = []

abbrev methods_in : Desc → List Method
methods_in (desc.Record r) = r.methods
methods_in d = []

-- the other is a record too
record Declares (r : RecordDesc) (y : Desc) : Type 0 where
  s : RecordDesc
  is : y ≡ desc.Record s
  fields : r.fields ≡ filter (λ f. is_shown f.mark) (in_order by_place s.fields)
  methods : r.methods ≡ filter (λ m. is_shown m.mark) s.methods

declares : (r : RecordDesc) (y : Desc) → as_shape (desc.Record r) ≡ as_shape (seen (in_places y)) → Declares r y
declares r (desc.Record s) k = record { s = s; is = refl; fields = ap fields_in k; methods = ap methods_in k }
declares r (desc.Const v) k = let bad : true ≡ false = ap is_record k in absurd cc
declares r (desc.Var m t) k = let bad : true ≡ false = ap is_record k in absurd cc
declares r (desc.Proc s) k = let bad : true ≡ false = ap is_record k in absurd cc
declares r (desc.Alias m t) k = let bad : true ≡ false = ap is_record k in absurd cc
declares r (desc.Array m n t) k = let bad : true ≡ false = ap is_record k in absurd cc
declares r (desc.OpenArray m t) k = let bad : true ≡ false = ap is_record k in absurd cc
declares r (desc.Pointer m t) k = let bad : true ≡ false = ap is_record k in absurd cc
declares r (desc.ProcType m s) k = let bad : true ≡ false = ap is_record k in absurd cc

some_is : (x y : Desc) → Some x ≡ Some y → x ≡ y
some_is x y e = cc

shown_field : (x y : Desc) (n : List ℕ) (f : Field) (p : Picks (field_in_record n) (Some x) f) → as_shape x ≡ as_shape (seen (in_places y)) → FieldsDiffer y → Picks (field_in_record n) (Some y) f
shown_field x y n f p k differ =
    let d = declares p.r y (ap as_shape (sym (some_is x (desc.Record p.r) p.is)) ∙ k) in
    let o = field_one n (filter (λ g. is_shown g.mark) (in_order by_place d.s.fields)) f (ap (field_named n) (sym d.fields) ∙ p.found) in
    let names : HaveNames d.s.fields = subst FieldsDiffer d.is differ in
    record {
      r = d.s;
      is = ap (λ z. Some z) d.is;
      found = subst (λ z. field_named z d.s.fields ≡ Some f) o.1 (one_field d.s.fields f names (one_ordered by_place d.s.fields f (one_filtered (λ g. is_shown g.mark) (in_order by_place d.s.fields) f o.0)));
    }

shown_method : (x y : Desc) (n : List ℕ) (m : Method) (p : Picks (method_in_record n) (Some x) m) → as_shape x ≡ as_shape (seen (in_places y)) → MethodsDiffer y → Picks (method_in_record n) (Some y) m
shown_method x y n m p k differ =
    let d = declares p.r y (ap as_shape (sym (some_is x (desc.Record p.r) p.is)) ∙ k) in
    let o = method_one n (filter (λ g. is_shown g.mark) d.s.methods) m (ap (method_named n) (sym d.methods) ∙ p.found) in
    let names : AreDistinct (λ (g : Method). g.name) d.s.methods = subst MethodsDiffer d.is differ in
    record {
      r = d.s;
      is = ap (λ z. Some z) d.is;
      found = subst (λ z. method_named z d.s.methods ≡ Some m) o.1 (one_method d.s.methods m names (one_filtered (λ g. is_shown g.mark) d.s.methods m o.0));
    }

record_no_plain : (x : Desc) (r : RecordDesc) → is_type x ≡ false → Some x ≡ Some (desc.Record r) → ⊥
record_no_plain x r p e = let bad : true ≡ false = ap is_type (sym (some_is x (desc.Record r) e)) ∙ p in absurd cc

-- ---- both have it

pub record Both {A : Type 0} (pick : RecordDesc → Option A) (d e : Option Desc) : Type 0 where
  pub v : A
  pub first : Picks pick d v
  pub second : Picks pick e v

pub fields_told : (d e : Option Desc) (n : List ℕ) → Told d e → HasField d n → Both (field_in_record n) d e
fields_told d e n told h = let f = has_field d n h in by told f.0 f.1
  where
    by : Told d e → (f : Field) → Picks (field_in_record n) d f → Both (field_in_record n) d e
    by (same i) f p = record { v = f; first = p; second = subst (λ o. Picks (field_in_record n) o f) i p }
    by (plain x i c j) f p = absurd (record_no_plain x p.r c (sym i ∙ p.is))
    by (shown x y i j k differ methods) f p = record { v = f; first = p; second = subst (λ o. Picks (field_in_record n) o f) (sym j) (shown_field x y n f (subst (λ o. Picks (field_in_record n) o f) i p) k differ) }

pub methods_told : (d e : Option Desc) (n : List ℕ) → Told d e → HasMethod d n → Both (method_in_record n) d e
methods_told d e n told h = let f = has_method d n h in by told f.0 f.1
  where
    by : Told d e → (f : Method) → Picks (method_in_record n) d f → Both (method_in_record n) d e
    by (same i) f p = record { v = f; first = p; second = subst (λ o. Picks (method_in_record n) o f) i p }
    by (plain x i c j) f p = absurd (record_no_plain x p.r c (sym i ∙ p.is))
    by (shown x y i j k fields differ) f p = record { v = f; first = p; second = subst (λ o. Picks (method_in_record n) o f) (sym j) (shown_method x y n f (subst (λ o. Picks (method_in_record n) o f) i p) k differ) }
