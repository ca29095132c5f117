-- A map that has the members of each record of another one keeps what is found there.
use Rattle.std.proofs.Common.{◌≡◌, ◌⊎◌, inl, inr, ℕ, zero, suc, Bool, true, false, cond, List, [], ◌∷◌, map as each, Option, Some, None, refl, sym, ap, subst, ◌∙◌}
use Rattle.std.specs.Prelude.{bytes_eq, IsSome}
use Rattle.std.specs.List.{find}
use Rattle.ob_tree.specs.declared.names.QName.{QName}
use Rattle.ob_types.specs.declared.desc.Desc.{Desc}
use Rattle.ob_types.specs.declared.desc.Desc.TheVariants as desc
use Rattle.ob_types.specs.declared.desc.RecordDesc.{RecordDesc}
use Rattle.ob_types.specs.declared.desc.Field.{Field}
use Rattle.ob_types.specs.declared.desc.Method.{Method}
use Rattle.ob_layout.specs.Members.{field_named, method_named}
use Rattle.ob_rules.specs.Shapes.{Map, Member, AField, AMethod, field_or, own_member, base_record, or_in_base, member_within, member}
use Rattle.law_builds_seen.specs.Seen.{HasField, HasMethod, FieldSeen}
use Rattle.law_builds_seen.specs.Laws.{KeepsMembers}
use Rattle.law_lists.proofs.Lists.{IfThere, bytes_same, same_bytes}

-- ---- names in lists

-- one of these names is the name
abbrev pub IsNamed : List ℕ → List (List ℕ) → Type 0
IsNamed x [] = ⊥
IsNamed x (y ∷ ys) = (y ≡ x) ⊎ IsNamed x ys

module _ {A : Type 0} (name : A → List ℕ) (x : List ℕ) where
  abbrev Is : A → Bool
  Is a = bytes_eq (name a) x

  -- what is found by its name has it, and its name is among the names
  pub found_name : (xs : List A) (y : A) → find Is xs ≡ Some y → name y ≡ x
  found_name [] y e = absurd cc
  found_name (a ∷ xs) y e = by (bytes_eq (name a) x) refl e (λ i. found_name xs y i)
    where
      by : (b : Bool) → bytes_eq (name a) x ≡ b → cond b (Some a) (find Is xs) ≡ Some y → (find Is xs ≡ Some y → name y ≡ x) → name y ≡ x
      by true i e rest = let same : a ≡ y = cc in ap name (sym same) ∙ same_bytes (name a) x i
      by false i e rest = rest e

  pub found_named : (xs : List A) (y : A) → find Is xs ≡ Some y → IsNamed x (each name xs)
  found_named [] y e = absurd cc
  found_named (a ∷ xs) y e = by (bytes_eq (name a) x) refl e (λ i. found_named xs y i)
    where
      by : (b : Bool) → bytes_eq (name a) x ≡ b → cond b (Some a) (find Is xs) ≡ Some y → (find Is xs ≡ Some y → IsNamed x (each name xs)) → IsNamed x (each name (a ∷ xs))
      by true i e rest = inl (same_bytes (name a) x i)
      by false i e rest = inr (rest e)

some_if : {A : Type 0} (b : Bool) (a : A) (o : Option A) → (b ≡ true) ⊎ IsSome o → IsSome (cond b (Some a) o)
some_if true a o h = refl
some_if false a o (inl e) = absurd cc
some_if false a o (inr h) = h

pub named_field : (x : List ℕ) (fs : List Field) → IsNamed x (each (λ f. f.name) fs) → IsSome (field_named x fs)
named_field x [] h = absurd h
named_field x (f ∷ fs) (inl e) = some_if (bytes_eq x f.name) f (field_named x fs) (inl (bytes_same x f.name (sym e)))
named_field x (f ∷ fs) (inr h) = some_if (bytes_eq x f.name) f (field_named x fs) (inr (named_field x fs h))

pub named_method : (x : List ℕ) (ms : List Method) → IsNamed x (each (λ m. m.name) ms) → IsSome (method_named x ms)
named_method x [] h = absurd h
named_method x (m ∷ ms) (inl e) = some_if (bytes_eq x m.name) m (method_named x ms) (inl (bytes_same x m.name (sym e)))
named_method x (m ∷ ms) (inr h) = some_if (bytes_eq x m.name) m (method_named x ms) (inr (named_method x ms h))

-- ---- what a record has is its own

pub field_seen : (map : Map) (q : QName) (x : List ℕ) (r : RecordDesc) → map q ≡ Some (desc.Record r) → IsNamed x (each (λ f. f.name) r.fields) → FieldSeen map q x
field_seen map q x r e h = subst (λ o. HasField o x) (sym e) (named_field x r.fields h)

pub method_seen : (map : Map) (q : QName) (x : List ℕ) (r : RecordDesc) → map q ≡ Some (desc.Record r) → IsNamed x (each (λ m. m.name) r.methods) → HasMethod (map q) x
method_seen map q x r e h = subst (λ o. HasMethod o x) (sym e) (named_method x r.methods h)

-- ---- the members of records

-- the names of the fields and of the bound procedures of the one are those of the other, which may have more
pub record IsLess (r s : RecordDesc) : Type 0 where
  pub fields : (x : List ℕ) → IsNamed x (each (λ f. f.name) r.fields) → IsNamed x (each (λ f. f.name) s.fields)
  pub methods : (x : List ℕ) → IsNamed x (each (λ m. m.name) r.methods) → IsNamed x (each (λ m. m.name) s.methods)

-- each record of the other map is one here, with its members
abbrev pub HasRecords : Map → Map → Type 0
HasRecords map other = (q : QName) (r : RecordDesc) → other q ≡ Some (desc.Record r) → (s : RecordDesc) × ((map q ≡ Some (desc.Record s)) × IsLess r s)

module _ (other : Map) (x : List ℕ) where
  -- where a member that is found stands
  abbrev At : Member → Type 0
  At (AField o f) = (r : RecordDesc) × ((other o ≡ Some (desc.Record r)) × (find (λ g. bytes_eq g.name x) r.fields ≡ Some f))
  At (AMethod o m) = (r : RecordDesc) × ((other o ≡ Some (desc.Record r)) × (find (λ g. bytes_eq g.name x) r.methods ≡ Some m))

  of_record : (q : QName) (r : RecordDesc) → other q ≡ Some (desc.Record r) → (a : Option Field) (b : Option Method) → find (λ g. bytes_eq g.name x) r.fields ≡ a → find (λ g. bytes_eq g.name x) r.methods ≡ b → IfThere At (field_or q a b)
  of_record q r e None None i j = tt
  of_record q r e None (Some m) i j = (r, (e, j))
  of_record q r e (Some f) b i j = (r, (e, i))

  own_at : (q : QName) (o : Option Desc) → other q ≡ o → IfThere At (own_member q o x)
  own_at q (Some (desc.Record r)) e = of_record q r e (find (λ g. bytes_eq g.name x) r.fields) (find (λ g. bytes_eq g.name x) r.methods) refl refl
  own_at q None e = tt
  own_at q (Some (desc.Const v)) e = tt
  own_at q (Some (desc.Var m t)) e = tt
  own_at q (Some (desc.Proc s)) e = tt
  own_at q (Some (desc.Alias m t)) e = tt
  own_at q (Some (desc.Array m n t)) e = tt
  own_at q (Some (desc.OpenArray m t)) e = tt
  own_at q (Some (desc.Pointer m t)) e = tt
  own_at q (Some (desc.ProcType m s)) e = tt

  within_at : (n : ℕ) (q : QName) → IfThere At (member_within other n q x)
  unfolding member_within
  within_at zero q = tt
  within_at (suc n) q = by (own_member q (other q) x) (base_record other q) (own_at q (other q) refl) (λ b. within_at n b)
    where
      by : (o : Option Member) (b : Option QName) → IfThere At o → ((b : QName) → IfThere At (member_within other n b x)) → IfThere At (or_in_base o b (λ b. member_within other n b x))
      by (Some m) b h g = h
      by None None h g = tt
      by None (Some b) h g = g b

  pub member_at : (q : QName) (m : Member) → member other q x ≡ Some m → At m
  member_at q m e = subst (IfThere At) e (within_at 201 q)

-- ---- so members are kept

module _ (map other : Map) (has : HasRecords map other) where
  pub field_kept : (q : QName) (r : RecordDesc) (x : List ℕ) → other q ≡ Some (desc.Record r) → IsNamed x (each (λ f. f.name) r.fields) → FieldSeen map q x
  field_kept q r x e h = let s = has q r e in field_seen map q x s.0 s.1.0 (s.1.1.fields x h)

  pub method_kept : (q : QName) (r : RecordDesc) (x : List ℕ) → other q ≡ Some (desc.Record r) → IsNamed x (each (λ m. m.name) r.methods) → HasMethod (map q) x
  method_kept q r x e h = let s = has q r e in method_seen map q x s.0 s.1.0 (s.1.1.methods x h)

  at_field : (q o : QName) (x : List ℕ) (f : Field) → member other q x ≡ Some (AField o f) → FieldSeen map o f.name
  at_field q o x f e =
      let a = member_at other x q (AField o f) e in
      subst (FieldSeen map o) (sym (found_name (λ (g : Field). g.name) x a.0.fields f a.1.1)) (field_kept o a.0 x a.1.0 (found_named (λ (g : Field). g.name) x a.0.fields f a.1.1))

  at_method : (q o : QName) (x : List ℕ) (m : Method) → member other q x ≡ Some (AMethod o m) → HasMethod (map o) m.name
  at_method q o x m e =
      let a = member_at other x q (AMethod o m) e in
      subst (λ y. HasMethod (map o) y) (sym (found_name (λ (g : Method). g.name) x a.0.methods m a.1.1)) (method_kept o a.0 x a.1.0 (found_named (λ (g : Method). g.name) x a.0.methods m a.1.1))

  pub keeps_members : KeepsMembers map other
  keeps_members = record { fields = at_field; methods = at_method }
