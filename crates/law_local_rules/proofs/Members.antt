-- A bound procedure that the rules find among the members of a record is found in the view from the module too, with its signature.
use Rattle.std.proofs.Common.{◌≡◌, ℕ, zero, suc, List, [], ◌∷◌, Bool, true, false, cond, Option, Some, None, map as each, refl, sym, ap, ◌∙◌, subst}
use Rattle.std.specs.Prelude.{bytes_eq}
use Rattle.std.specs.List.{find}
use Rattle.std.specs.Option.{option_map}
use Rattle.std.proofs.lemmas.Slice.Eq.{bytes_eq-Decides}
use Rattle.ob_tree.specs.declared.names.QName.{QName}
use Rattle.ob_types.specs.declared.desc.Desc.{Desc}
use Rattle.ob_types.specs.declared.desc.Desc.TheVariants as desc
use Rattle.ob_types.specs.declared.desc.Field.{Field}
use Rattle.ob_types.specs.declared.desc.Method.{Method}
use Rattle.ob_types.specs.declared.desc.RecordDesc.{RecordDesc}
use Rattle.ob_layout.specs.Lists.{or_else}
use Rattle.ob_layout.specs.LaidOut.{numbered}
use Rattle.ob_layout.specs.Members.{method_named, from_base, nearest_in, nearest, method_in_record, method_in}
use Rattle.ob_env.specs.Shown.{unnumbered, blank}
use Rattle.ob_rules.specs.Shapes.{Map, Member, AMethod, field_or, own_member, base_record, or_in_base, member_within}
use Rattle.law_lists.proofs.Lists.{bytes_flip}

-- ---- what the rules find

-- the record describes the bound procedure under this name
pub record HasMethod (map : Map) (owner : QName) (x : List ℕ) (m : Method) : Type 0 where
  pub of : RecordDesc
  pub is : map owner ≡ Some (desc.Record of)
  pub found : find (λ k. bytes_eq k.name x) of.methods ≡ Some m

record OwnMethod (q : QName) (d : Option Desc) (owner : QName) (x : List ℕ) (m : Method) : Type 0 where
  of : RecordDesc
  is : d ≡ Some (desc.Record of)
  found : find (λ k. bytes_eq k.name x) of.methods ≡ Some m
  same : q ≡ owner

method_or : (q owner : QName) (m : Method) (f : Option Field) (o : Option Method) → field_or q f o ≡ Some (AMethod owner m) → (o ≡ Some m) × (q ≡ owner)
method_or q owner m None None e = absurd cc
method_or q owner m None (Some k) e = let i : k ≡ m = cc in (ap (λ k. Some k) i, cc)
method_or q owner m (Some f) o e = absurd cc

own_method : (q : QName) (d : Option Desc) (owner : QName) (x : List ℕ) (m : Method) → own_member q d x ≡ Some (AMethod owner m) → OwnMethod q d owner x m
own_method q (Some (desc.Record r)) owner x m e =
    let p = method_or q owner m (find (λ f. bytes_eq f.name x) r.fields) (find (λ k. bytes_eq k.name x) r.methods) e in
    record { of = r; is = refl; found = p.0; same = p.1 }
own_method q None owner x m e = absurd cc
own_method q (Some (desc.Const v)) owner x m e = absurd cc
own_method q (Some (desc.Var k t)) owner x m e = absurd cc
own_method q (Some (desc.Proc s)) owner x m e = absurd cc
own_method q (Some (desc.Alias k t)) owner x m e = absurd cc
own_method q (Some (desc.Array k l t)) owner x m e = absurd cc
own_method q (Some (desc.OpenArray k t)) owner x m e = absurd cc
own_method q (Some (desc.Pointer k t)) owner x m e = absurd cc
own_method q (Some (desc.ProcType k s)) owner x m e = absurd cc

has_of : (map : Map) (q owner : QName) (x : List ℕ) (m : Method) → OwnMethod q (map q) owner x m → HasMethod map owner x m
has_of map q owner x m h = record { of = h.of; is = subst (λ z. map z ≡ Some (desc.Record h.of)) h.same h.is; found = h.found }

pub member_at : (map : Map) (n : ℕ) (q owner : QName) (x : List ℕ) (m : Method) → member_within map n q x ≡ Some (AMethod owner m) → HasMethod map owner x m
unfolding member_within
member_at map zero q owner x m e = absurd cc
member_at map (suc n) q owner x m e = go (own_member q (map q) x) refl (base_record map q) (λ b i. member_at map n b owner x m i) e
  where
    go : (o : Option Member) → own_member q (map q) x ≡ o → (p : Option QName) → ((b : QName) → member_within map n b x ≡ Some (AMethod owner m) → HasMethod map owner x m) → or_in_base o p (λ b. member_within map n b x) ≡ Some (AMethod owner m) → HasMethod map owner x m
    go (Some k) i p h e = has_of map q owner x m (own_method q (map q) owner x m (i ∙ e))
    go None i None h e = absurd cc
    go None i (Some b) h e = h b e

-- ---- it has this name

some_name : (a m : Method) (x : List ℕ) → bytes_eq a.name x ≡ true → Some a ≡ Some m → m.name ≡ x
some_name a m x i e = let same : a ≡ m = cc in ap (λ (k : Method). k.name) (sym same) ∙ (bytes_eq-Decides a.name x).0 i

pub found_name : (x : List ℕ) (ms : List Method) (m : Method) → find (λ k. bytes_eq k.name x) ms ≡ Some m → m.name ≡ x
found_name x [] m e = absurd cc
found_name x (k ∷ ms) m e = go (bytes_eq k.name x) refl (λ i. found_name x ms m i) e
  where
    go : (b : Bool) → bytes_eq k.name x ≡ b → (find (λ k. bytes_eq k.name x) ms ≡ Some m → m.name ≡ x) → cond b (Some k) (find (λ k. bytes_eq k.name x) ms) ≡ Some m → m.name ≡ x
    go true i h e = some_name k m x i e
    go false i h e = h e

-- ---- what the view has

-- one of this name and signature
pub record HasNamed (x : List ℕ) (ms : List Method) (m : Method) : Type 0 where
  pub k : Method
  pub is : method_named x ms ≡ Some k
  pub same : k.signature ≡ m.signature

named_here : (b : Bool) (x : List ℕ) (a k m : Method) (ms ns : List Method) → bytes_eq a.name x ≡ b → k.name ≡ a.name → k.signature ≡ a.signature → (find (λ k. bytes_eq k.name x) ms ≡ Some m → HasNamed x ns m) → cond b (Some a) (find (λ k. bytes_eq k.name x) ms) ≡ Some m → HasNamed x (k ∷ ns) m
named_here true x a k m ms ns i n s h e =
    let same : a ≡ m = cc in
    record { k = k; is = ap (λ b. cond b (Some k) (method_named x ns)) (bytes_flip x k.name ∙ ap (λ y. bytes_eq y x) n ∙ i); same = s ∙ ap (λ (z : Method). z.signature) same }
named_here false x a k m ms ns i n s h e =
    let r = h e in
    record { k = r.k; is = ap (λ b. cond b (Some k) (method_named x ns)) (bytes_flip x k.name ∙ ap (λ y. bytes_eq y x) n ∙ i) ∙ r.is; same = r.same }

pub found_numbered : (x : List ℕ) (n : ℕ) (ms : List Method) (m : Method) → find (λ k. bytes_eq k.name x) ms ≡ Some m → HasNamed x (numbered n ms) m
found_numbered x n [] m e = absurd cc
found_numbered x n (a ∷ ms) m e = named_here (bytes_eq a.name x) x a (record a { number = n }) m ms (numbered (suc n) ms) refl refl refl (λ i. found_numbered x (suc n) ms m i) e

named_shown : (b : Bool) (x : List ℕ) (a m : Method) (ms : List Method) → bytes_eq a.name x ≡ b → (find (λ k. bytes_eq k.name x) (each unnumbered ms) ≡ Some m → HasNamed x ms m) → cond b (Some (unnumbered a)) (find (λ k. bytes_eq k.name x) (each unnumbered ms)) ≡ Some m → HasNamed x (a ∷ ms) m
named_shown b x a m ms i h e = named_here b x (unnumbered a) a m (each unnumbered ms) ms i refl refl h e

pub found_unnumbered : (x : List ℕ) (ms : List Method) (m : Method) → find (λ k. bytes_eq k.name x) (each unnumbered ms) ≡ Some m → HasNamed x ms m
found_unnumbered x [] m e = absurd cc
found_unnumbered x (a ∷ ms) m e = named_shown (bytes_eq a.name x) x a m ms refl (λ i. found_unnumbered x ms m i) e

pub method_there : (map : Map) (owner : QName) (x : List ℕ) (r : RecordDesc) (m : Method) → map owner ≡ Some (desc.Record r) → method_named x r.methods ≡ Some m → method_in map owner x ≡ Some m
method_there map owner x r m e i = ap (nearest_in (method_in_record x) (nearest (method_in_record x) map 200)) e ∙ ap (λ o. or_else o (from_base (nearest (method_in_record x) map 200) r.base)) i

-- a record that is shown is one that is described
pub record ShownOf (d : Option Desc) (r : RecordDesc) : Type 0 where
  pub of : RecordDesc
  pub is : d ≡ Some (desc.Record of)
  pub methods : r.methods ≡ each unnumbered of.methods

pub shown_of : (d : Option Desc) (r : RecordDesc) → option_map blank d ≡ Some (desc.Record r) → ShownOf d r
shown_of (Some (desc.Record a)) r e =
    let same : blank (desc.Record a) ≡ desc.Record r = cc in
    record { of = a; is = refl; methods = sym (ap methods_of same) }
  where
    methods_of : Desc → List Method
    methods_of (desc.Record r) = r.methods
    methods_of d = []
shown_of None r e = absurd cc
shown_of (Some (desc.Const v)) r e = absurd cc
shown_of (Some (desc.Var k t)) r e = absurd cc
shown_of (Some (desc.Proc s)) r e = absurd cc
shown_of (Some (desc.Alias k t)) r e = absurd cc
shown_of (Some (desc.Array k l t)) r e = absurd cc
shown_of (Some (desc.OpenArray k t)) r e = absurd cc
shown_of (Some (desc.Pointer k t)) r e = absurd cc
shown_of (Some (desc.ProcType k s)) r e = absurd cc
