-- What is bound: each bound procedure of a record comes from a heading, which is no forward declaration.
use Rattle.std.proofs.Common.{◌≡◌, refl, sym, ◌∙◌, subst, ℕ, Bool, true, false, List, [], ◌∷◌, Option, Some, None, cond, inl, inr}
use Rattle.std.specs.Prelude.{bytes_eq, is_none, is_some, ◌&&◌}
use Rattle.std.specs.List.{AllByRecursion, find, filter}
use Rattle.std.proofs.lemmas.Bool.{false≢true, and_parts}
use Rattle.std.proofs.lemmas.Slice.Eq.{bytes_eq-Decides}
use Rattle.ob_tree.specs.declared.pos.Pos.{Pos}
use Rattle.ob_tree.specs.declared.names.QName.{QName}
use Rattle.ob_types.specs.declared.desc.Desc.{Desc}
use Rattle.ob_types.specs.declared.desc.Desc.TheVariants as desc
use Rattle.ob_types.specs.declared.desc.Method.{Method}
use Rattle.ob_types.specs.declared.typed.TypedType.{TypedType}
use Rattle.ob_rules.specs.declared.broken.Rule.TheVariants as rule
use Rattle.ob_rules.specs.declared.broken.Rule.{Rule}
use Rattle.ob_rules.specs.Judged.{notes_if}
use Rattle.ob_rules.specs.Shapes.{Map, Member, AField, AMethod, member}
use Rattle.ob_rules.specs.Names.{Around, map_of}
use Rattle.ob_rules.specs.Headings.{Head, BoundAs, Binding, answers, forward_broken, forward_if, forwards_judged, counts_if, counts, counted, change_desc, changed_if, change_type, with_method, new_method, redefined, bind_method, bind_by, bind_one, bind_all, of_record, bind_records, reversed, bindings}
use Rattle.law_typing_forms.specs.Said.{IsOneOf}
use Rattle.law_methods_bound.specs.Bound.{methods_of, HasElements}
use Rattle.law_methods_bound.proofs.Typings.{AreRaw}
use Rattle.law_lists.proofs.Lists.{all_both, back_empty, front_empty}

-- ---- the headings that count

pub one_filtered : {A : Type 0} (test : A → Bool) (xs : List A) (x : A) → IsOneOf (filter test xs) x → IsOneOf xs x
one_filtered test [] x i = i
one_filtered test (y ∷ ys) x i = by (test y) i (one_filtered test ys x)
  where
    by : (b : Bool) → IsOneOf (cond b (y ∷ filter test ys) (filter test ys)) x → (IsOneOf (filter test ys) x → IsOneOf ys x) → IsOneOf (y ∷ ys) x
    by true (inl e) r = inl e
    by true (inr j) r = inr (r j)
    by false j r = inr (r j)

broken_not : (b : Bool) (which : Rule) (at : Pos) → (notes_if b which at).broken ≡ [] → b ≡ false
broken_not true which at e = absurd cc
broken_not false which at e = refl

answered : (map : Map) (h : Head) (o : Option Head) → forward_broken map h o ≡ false → is_none o ≡ false
answered map h None e = absurd (false≢true (sym e))
answered map h (Some x) e = refl

forward_not : (map : Map) (all : List Head) (h : Head) (f : Bool) → (forward_if f map all h).broken ≡ [] → counts_if f all h ≡ true → f ≡ false
forward_not map all h false e c = refl
forward_not map all h true e c = absurd (false≢true (sym (answered map h (find (answers h) all) (broken_not (forward_broken map h (find (answers h) all)) rule.UnmatchedForward h.at e)) ∙ c))

-- none of them is a forward declaration
pub counted_whole : (map : Map) (all xs : List Head) → (forwards_judged map all xs).broken ≡ [] → (h : Head) → IsOneOf (filter (counts all) xs) h → h.forward ≡ false
counted_whole map all [] e h i = absurd i
counted_whole map all (x ∷ xs) e h i =
    let first = (forward_if x.forward map all x).broken in
    by (counts all x) refl i (counted_whole map all xs (back_empty first (forwards_judged map all xs).broken e) h)
  where
    by : (c : Bool) → counts all x ≡ c → IsOneOf (cond c (x ∷ filter (counts all) xs) (filter (counts all) xs)) h → (IsOneOf (filter (counts all) xs) h → h.forward ≡ false) → h.forward ≡ false
    by false k j r = r j
    by true k (inl s) r =
        let p = and_parts (x.is_bound && is_some x.bound) (counts_if x.forward all x) k in
        subst (λ (y : Head). y.forward ≡ false) s (forward_not map all x x.forward (front_empty (forward_if x.forward map all x).broken (forwards_judged map all xs).broken e) p.1)
    by true k (inr j) r = r j

-- ---- bound procedures

module _ (cs : List Head) where
  -- a bound procedure of the type of that name is that of one of these headings
  pub record IsNew (x : List ℕ) (k : Method) : Type 0 where
    pub h : Head
    pub there : IsOneOf cs h
    pub b : BoundAs
    pub bound : h.bound ≡ Some b
    pub is : k ≡ new_method h b
    pub name : x ≡ b.owner.object

  abbrev pub TypeNew : TypedType → Type 0
  TypeNew t = AllByRecursion (IsNew t.name) (methods_of t.desc) × HasElements t.desc

  abbrev pub AreNew : List TypedType → Type 0
  AreNew ts = AllByRecursion TypeNew ts

  pub raw_new : (ts : List TypedType) → AreRaw ts → AreNew ts
  raw_new [] h = tt
  raw_new (t ∷ ts) h = ((subst (AllByRecursion (IsNew t.name)) (sym h.0.0) tt, h.0.1), raw_new ts h.1)

  desc_new : (x : List ℕ) (m : Method) → IsNew x m → (d : Desc) → AllByRecursion (IsNew x) (methods_of d) × HasElements d → AllByRecursion (IsNew x) (methods_of (change_desc (λ r. with_method r m) d)) × HasElements (change_desc (λ r. with_method r m) d)
  desc_new x m n (desc.Record r) h = (all_both (IsNew x) r.methods (m ∷ []) h.0 (n, tt), tt)
  desc_new x m n (desc.Const v) h = h
  desc_new x m n (desc.Var k t) h = h
  desc_new x m n (desc.Proc s) h = h
  desc_new x m n (desc.Alias k t) h = h
  desc_new x m n (desc.Array k l t) h = h
  desc_new x m n (desc.OpenArray k t) h = h
  desc_new x m n (desc.Pointer k t) h = h
  desc_new x m n (desc.ProcType k s) h = h

  if_new : (b : Bool) (x : List ℕ) (m : Method) → IsNew x m → (t : TypedType) → bytes_eq t.name x ≡ b → TypeNew t → TypeNew (changed_if b (λ r. with_method r m) t)
  if_new false x m n t e h = h
  if_new true x m n t e h = desc_new t.name m (subst (λ y. IsNew y m) (sym ((bytes_eq-Decides t.name x).0 e)) n) t.desc h

  types_new : (x : List ℕ) (m : Method) → IsNew x m → (ts : List TypedType) → AreNew ts → AreNew (change_type x (λ r. with_method r m) ts)
  types_new x m n [] h = tt
  types_new x m n (t ∷ ts) h = (if_new (bytes_eq t.name x) x m n t refl h.0, types_new x m n ts h.1)

  redefined_new : (b : Bool) (s : Binding) (h : Head) (a : BoundAs) → AreNew s.own → AreNew (redefined b s h a).own
  redefined_new true s h a g = g
  redefined_new false s h a g = g

  method_new : (b : Bool) (u : Around) (map : Map) (s : Binding) (h : Head) (a : BoundAs) (owner : QName) (m : Method) → AreNew s.own → AreNew (bind_method b u map s h a owner m).own
  method_new true u map s h a owner m g = g
  method_new false u map s h a owner m g = redefined_new _ s h a g

  by_new : (u : Around) (map : Map) (s : Binding) (h : Head) → IsOneOf cs h → (a : BoundAs) → h.bound ≡ Some a → (o : Option Member) → AreNew s.own → AreNew (bind_by u map s h a o).own
  by_new u map s h i a e None g = types_new a.owner.object (new_method h a) (record { h = h; there = i; b = a; bound = e; is = refl; name = refl }) s.own g
  by_new u map s h i a e (Some (AField owner f)) g = g
  by_new u map s h i a e (Some (AMethod owner m)) g = method_new _ u map s h a owner m g

  one_new : (u : Around) (s : Binding) (h : Head) → IsOneOf cs h → (o : Option BoundAs) → h.bound ≡ o → AreNew s.own → AreNew (bind_one u s h o).own
  one_new u s h i None e g = g
  one_new u s h i (Some a) e g = by_new u (map_of (record u { own = s.own })) s h i a e (member (map_of (record u { own = s.own })) a.owner h.name) g

  all_new : (u : Around) (s : Binding) (hs : List Head) → ((h : Head) → IsOneOf hs h → IsOneOf cs h) → AreNew s.own → AreNew (bind_all u s hs).own
  all_new u s [] i g = g
  all_new u s (h ∷ hs) i g = all_new u (bind_one u s h h.bound) hs (λ x j. i x (inr j)) (one_new u s h (i h (inl refl)) h.bound refl g)

  records_new : (u : Around) (s : Binding) (ts : List TypedType) → AreNew s.own → AreNew (bind_records u cs s ts).own
  records_new u s [] g = g
  records_new u s (t ∷ ts) g = records_new u (bind_all u s (filter (of_record t.name) cs)) ts (all_new u s (filter (of_record t.name) cs) (λ x j. one_filtered (of_record t.name) cs x j) g)

pub bindings_new : (u : Around) (hs : List Head) → AreRaw u.own → AreNew (counted hs) (bindings u hs).own
bindings_new u hs g = records_new (counted hs) u _ (reversed u.own) (raw_new (counted hs) u.own g)
