-- The types of a sequence of declarations and of the headings in it differ in name.
use Rattle.std.proofs.Common.{◌≡◌, ◌⊎◌, inl, inr, ℕ, ◌+◌, ◌<◌, Bool, true, false, List, [], ◌∷◌, ◌++◌, length, map as each, Option, Some, None, refl, sym, ap, subst, ◌∙◌, append_assoc, length-append, arith}
use Rattle.std.specs.Prelude.{◌==◌, cond, bytes_eq, is_some, not, decimal}
use Rattle.std.specs.List.{AllByRecursion, filter_map, find}
use Rattle.std.proofs.lemmas.Bool.{and_parts, not-true}
use Rattle.std.proofs.lemmas.Slice.Eq.{bytes_eq-Decides}
use Rattle.ob_tree.specs.declared.decl.Decl.{Decl}
use Rattle.ob_types.specs.declared.desc.Desc.TheVariants as desc
use Rattle.ob_types.specs.declared.desc.Field.{Field}
use Rattle.ob_types.specs.declared.typed.TypedType.{TypedType}
use Rattle.ob_rules.specs.declared.broken.Rule.TheVariants as rule
use Rattle.ob_rules.specs.Judged.{notes_if}
use Rattle.ob_rules.specs.Shapes.{Map}
use Rattle.ob_rules.specs.Names.{Around, own_desc, map_of}
use Rattle.ob_rules.specs.Types.{Parameters, is_module_level, nothing}
use Rattle.ob_rules.specs.Statements.{Judging}
use Rattle.ob_rules.specs.Headings.{Head, Heads, BoundAs, Binding, forward_name, add_heading, answers, answers_by, forward_broken, forward_if, forwards_judged, bindings, reversed}
use Rattle.ob_rules.specs.Declarations.{Declared, Written_procedure, procedure_of, type_name_of, headings_in_order, pointers_judged, field_judged, all_judged, procedures_judged, block_inside, with_bound, binding_at, heads_later, block_headed, block, types_of_head, declaration}
use Rattle.law_names_distinct.specs.Distinct.{AreDistinct}
use Rattle.law_names_distinct.specs.Parts.{IsWord, IsInScope}
use Rattle.law_names_distinct.specs.Named.{all_true, decl_named}
use Rattle.law_names_distinct.proofs.Fresh.{is_known}
use Rattle.law_names_distinct.proofs.Parts.{word_scope, decimal_word}
use Rattle.law_names_distinct.proofs.Typings.{IsOfSection, ParametersIn}
use Rattle.law_names_distinct.proofs.Scopes.{IsOfName, IsPlaced as IsPlacedPlain, sequence_types}
use Rattle.law_names_types.specs.Nested.{IsNameOf, HasField, AreNested}
use Rattle.law_names_types.proofs.Sequences.{sequences_are_nested}
use Rattle.law_names_types.specs.Fields.{has_field, found, field_at, IsFree}
use Rattle.law_names_types.specs.Once.{AreQuiet, ArePlainOnce}
use Rattle.law_names_types.proofs.Unbound.{bound_free}
use Rattle.law_names_types.proofs.Plain.{headings_are_once}
use Rattle.law_names_types.proofs.Judged.{headings_quiet}
use Rattle.law_names_types.specs.Unlike.{plain_in, heads_in, types_of_heads, types_in, IsWithin, IsStart, BlocksDiffer}
use Rattle.law_names_types.proofs.Items.{Item, stem_by, stem, hat, Behind, IsAmong, all_at, all_of}
use Rattle.law_names_types.proofs.Unique.{IsOfKnown, IsPlaced, AreUnique, HasOwner, Stands, IsGood, SameKey, KeysDiffer, made_by, all_differ, all_within}
use Rattle.law_names_types.proofs.Steady.{IsSteady, sequence_steady}
use Rattle.law_names_types.proofs.DifferentHeads.{HoldsRecord, IsSound, headings_well}
use Rattle.law_names_types.proofs.Once.{Pairs, among_reversed, reversed_among, pairs_reversed, plain_new, owner_name, AreApart, IsFlagged, heads_apart, apart_turned}
use Rattle.law_names_types.proofs.Order.{HasFacts, IsMade, AreHeads, headings_all}
use Rattle.law_lists.proofs.Lists.{IfThere, all_both, all_from, back_empty, front_empty}

-- ---- headings as items

abbrev item_with : Head → Parameters → Item
item_with h p = record { owner = owner_name h.bound; called = h.name; forward = h.forward; made = p.made }

abbrev items_if : Head → Option Parameters → List Item → List Item
items_if h None its = its
items_if h (Some p) its = item_with h p ∷ its

abbrev items : List Head → List Item
items [] = []
items (h ∷ hs) = items_if h h.parameters (items hs)

items_make : (hs : List Head) → made_by (items hs) ≡ types_of_heads hs
items_make [] = refl
items_make (h ∷ hs) = by h.parameters (items_make hs)
  where
    by : (o : Option Parameters) → made_by (items hs) ≡ types_of_heads hs → made_by (items_if h o (items hs)) ≡ types_of_head o ++ types_of_heads hs
    by None e = e
    by (Some p) e = ap (λ ts. p.made ++ ts) e

record IsFrom (hs : List Head) (a : Item) : Type 0 where
  by : Head
  with : Parameters
  there : IsAmong by hs
  has : by.parameters ≡ Some with
  is : a ≡ item_with by with

item_from : (hs : List Head) (a : Item) → IsAmong a (items hs) → IsFrom hs a
item_from [] a i = absurd i
item_from (h ∷ hs) a i = by h.parameters refl i (λ j. item_from hs a j)
  where
    more : IsFrom hs a → IsFrom (h ∷ hs) a
    more f = record { by = f.by; with = f.with; there = inr f.there; has = f.has; is = f.is }

    by : (o : Option Parameters) → h.parameters ≡ o → IsAmong a (items_if h o (items hs)) → (IsAmong a (items hs) → IsFrom hs a) → IsFrom (h ∷ hs) a
    by None e i g = more (g i)
    by (Some p) e (inl s) g = record { by = h; with = p; there = inl refl; has = e; is = s }
    by (Some p) e (inr j) g = more (g j)

item_there : (hs : List Head) (h : Head) (p : Parameters) → IsAmong h hs → h.parameters ≡ Some p → IsAmong (item_with h p) (items hs)
item_there [] h p i e = absurd i
item_there (k ∷ hs) h p (inl s) e =
    let same : k.parameters ≡ Some p = ap (λ (h : Head). h.parameters) (sym s) ∙ e in
    subst (λ o. IsAmong (item_with h p) (items_if k o (items hs))) (sym same) (inl (ap (λ (h : Head). item_with h p) s))
item_there (k ∷ hs) h p (inr i) e = by k.parameters (item_there hs h p i e)
  where
    by : (o : Option Parameters) → IsAmong (item_with h p) (items hs) → IsAmong (item_with h p) (items_if k o (items hs))
    by None j = j
    by (Some q) j = inr j

keys_differ : (hs : List Head) → Pairs AreApart hs → KeysDiffer (items hs)
keys_differ [] d = tt
keys_differ (h ∷ hs) d = by h.parameters refl (keys_differ hs d.1)
  where
    by : (o : Option Parameters) → h.parameters ≡ o → KeysDiffer (items hs) → KeysDiffer (items_if h o (items hs))
    by None e k = k
    by (Some p) e k = (
      all_of (λ b. SameKey (item_with h p) b → ⊥) (items hs)
          (λ b i s.
          let f = item_from hs b i in
          all_at (AreApart h) hs d.0 f.by f.there p f.with e f.has (subst (λ (b : Item). SameKey (item_with h p) b) f.is s)),
      k,
    )

-- ---- the names of what a heading makes

section_behind : (s : List ℕ) (f : Bool) (n : List ℕ) (o : IsOfSection (forward_name f s) 1 n) → n ≡ s ++ (hat f ++ 40 ∷ (decimal o.at ++ o.part.rest))
section_behind s true n o = o.part.is ∙ append_assoc (s ++ 94 ∷ []) (40 ∷ decimal o.at) o.part.rest ∙ append_assoc s (94 ∷ []) (40 ∷ (decimal o.at ++ o.part.rest))
section_behind s false n o = o.part.is ∙ append_assoc s (40 ∷ decimal o.at) o.part.rest

hat_scope : (f : Bool) (r : List ℕ) → IsInScope r → IsInScope (hat f ++ 40 ∷ r)
hat_scope true r h = (refl, (refl, h))
hat_scope false r h = (refl, h)

module _ (w : Around) (path : List ℕ) (same : w.path ≡ path) (h : Head) where
  stem_is : (o : Option BoundAs) → IsSound w h o → h.path ≡ stem_by path (owner_name o) h.name
  stem_is None s = s.is ∙ ap (λ p. p ++ h.name) same
  stem_is (Some a) s = s.is

  -- it is within the scope
  stem_within : IsWord h.name → (o : Option BoundAs) → IsSound w h o → IsWithin path (stem_by path (owner_name o) h.name)
  stem_within word None s = record { rest = h.name; is = refl; scope = word_scope h.name word }
  stem_within word (Some a) s =
      let e : path ≡ [] = sym same ∙ s.owner.path in
      record {
        rest = a.owner.object ++ 46 ∷ h.name;
        is = ap (λ p. p ++ (a.owner.object ++ 46 ∷ h.name)) (sym e);
        scope = all_both (λ c. (c == 47) ≡ false) a.owner.object (46 ∷ h.name) s.owner.scope (refl, word_scope h.name word);
      }

  of_section : (o : Option BoundAs) → IsSound w h o → IsWord h.name → (n : List ℕ) → IsOfSection (forward_name h.forward h.path) 1 n → Behind (stem_by path (owner_name o) h.name) h.forward n × IsWithin path n
  of_section o s word n k =
      let e = subst (λ p. n ≡ p ++ (hat h.forward ++ 40 ∷ (decimal k.at ++ k.part.rest))) (stem_is o s) (section_behind h.path h.forward n k) in
      let z = stem_within word o s in
      let r = hat h.forward ++ 40 ∷ (decimal k.at ++ k.part.rest) in (
        (decimal k.at ++ k.part.rest, e),
        record {
          rest = z.rest ++ r;
          is = e ∙ ap (λ p. p ++ r) z.is ∙ append_assoc path z.rest r;
          scope = all_both (λ c. (c == 47) ≡ false) z.rest r z.scope (hat_scope h.forward (decimal k.at ++ k.part.rest) (all_both (λ c. (c == 47) ≡ false) (decimal k.at) k.part.rest (word_scope (decimal k.at) (decimal_word k.at k.small)) k.part.scope));
        },
      )

-- ---- forward declarations have their procedures

find_is : {A : Type 0} (f : A → Bool) (xs : List A) (o : Option A) → find f xs ≡ o → (y : A) → o ≡ Some y → IsAmong y xs × (f y ≡ true)
find_is f [] o i y e = let bad : None ≡ Some y = i ∙ e in absurd cc
find_is {A} f (x ∷ xs) o i y e = by (f x) refl (i ∙ e) (λ k. find_is f xs (Some y) k y refl)
  where
    by : (b : Bool) → f x ≡ b → cond b (Some x) (find f xs) ≡ Some y → (find f xs ≡ Some y → IsAmong y xs × (f y ≡ true)) → IsAmong y (x ∷ xs) × (f y ≡ true)
    by true k s g = let same : x ≡ y = cc in (inl (sym same), subst (λ z. f z ≡ true) same k)
    by false k s g = let h = g s in (inr h.0, h.1)

answered : (map : Map) (all : List Head) (h : Head) → h.forward ≡ true → (forward_if h.forward map all h).broken ≡ [] → (k : Head) × IsAmong k all × (answers h k ≡ true)
answered map all h f e = by (find (answers h) all) refl (subst (λ b. (forward_if b map all h).broken ≡ []) f e)
  where
    by : (o : Option Head) → find (answers h) all ≡ o → (notes_if (forward_broken map h o) rule.UnmatchedForward h.at).broken ≡ [] → (k : Head) × IsAmong k all × (answers h k ≡ true)
    by None i e = absurd cc
    by (Some k) i e = let r = find_is (answers h) all (Some k) i k refl in (k, r.0, r.1)

all_answered : (map : Map) (all hs : List Head) → (forwards_judged map all hs).broken ≡ [] → (h : Head) → IsAmong h hs → (forward_if h.forward map all h).broken ≡ []
all_answered map all [] e h i = absurd i
all_answered map all (k ∷ hs) e h (inl s) = subst (λ (h : Head). (forward_if h.forward map all h).broken ≡ []) (sym s) (front_empty (forward_if k.forward map all k).broken (forwards_judged map all hs).broken e)
all_answered map all (k ∷ hs) e h (inr i) = all_answered map all hs (back_empty (forward_if k.forward map all k).broken (forwards_judged map all hs).broken e) h i

answer_parts : (p q : Bool) (a b : Option BoundAs) (x y : List ℕ) → p ≡ true → answers_by p q a b x y ≡ true → (c : BoundAs) → a ≡ Some c → (d : BoundAs) × (q ≡ true) × (b ≡ Some d) × (c.owner.object ≡ d.owner.object) × (x ≡ y)
answer_parts true true (Some a) (Some b) x y f e c i =
    let h = and_parts (bytes_eq a.owner.object b.owner.object) (bytes_eq x y) e in
    let same : a ≡ c = cc in
    (b, refl, refl, ap (λ (a : BoundAs). a.owner.object) (sym same) ∙ (bytes_eq-Decides a.owner.object b.owner.object).0 h.0, (bytes_eq-Decides x y).0 h.1)
answer_parts true true None b x y f e c i = absurd cc
answer_parts true true (Some a) None x y f e c i = absurd cc
answer_parts true false a b x y f e c i = absurd cc
answer_parts false q a b x y f e c i = absurd cc

-- ---- no field of that name

found_is : (ts : List TypedType) (x : List ℕ) (r : TypedType) → IsAmong r ts → r.name ≡ x → (t : TypedType) × IsAmong t ts × (t.name ≡ x) × (found ts x ≡ Some t)
found_is [] x r i e = absurd i
found_is (t ∷ ts) x r i e = by (bytes_eq t.name x) refl i (λ j. found_is ts x r j e)
  where
    by : (b : Bool) → bytes_eq t.name x ≡ b → IsAmong r (t ∷ ts) → (IsAmong r ts → (s : TypedType) × IsAmong s ts × (s.name ≡ x) × (found ts x ≡ Some s)) → (s : TypedType) × IsAmong s (t ∷ ts) × (s.name ≡ x) × (cond b (Some t) (found ts x) ≡ Some s)
    by true k j g = (t, inl refl, (bytes_eq-Decides t.name x).0 k, refl)
    by false k (inl s) g = let bad : true ≡ false = sym ((bytes_eq-Decides t.name x).1 (ap (λ (t : TypedType). t.name) (sym s) ∙ e)) ∙ k in absurd cc
    by false k (inr j) g = let h = g j in (h.0, inr h.1, h.2, h.3)

name_found : (fs : List Field) (x : List ℕ) → IsNameOf fs x → is_some (find (λ (f : Field). bytes_eq f.name x) fs) ≡ true
name_found [] x i = absurd i
name_found (f ∷ fs) x i = by (bytes_eq f.name x) refl i (λ j. name_found fs x j)
  where
    by : (b : Bool) → bytes_eq f.name x ≡ b → IsNameOf (f ∷ fs) x → (IsNameOf fs x → is_some (find (λ (f : Field). bytes_eq f.name x) fs) ≡ true) → is_some (cond b (Some f) (find (λ (f : Field). bytes_eq f.name x) fs)) ≡ true
    by true k j g = refl
    by false k (inl e) g = let bad : true ≡ false = sym ((bytes_eq-Decides f.name x).1 e) ∙ k in absurd cc
    by false k (inr j) g = g j

no_field : (own : List TypedType) (o : List ℕ) (h : HoldsRecord own o) (x : List ℕ) → has_field (Some h.of.desc) x ≡ false → HasField h.of.desc x → ⊥
no_field own o h x e f =
    let k : IsNameOf h.fields.fields x = subst (λ d. HasField d x) h.described f in
    let n : has_field (Some (desc.Record h.fields)) x ≡ false = subst (λ d. has_field (Some d) x ≡ false) h.described e in
    let bad : true ≡ false = sym (name_found h.fields.fields x k) ∙ n in
    absurd cc

-- ---- lengths

reversed_length : {A : Type 0} (xs : List A) → length (reversed xs) ≡ length xs
reversed_length [] = refl
reversed_length (x ∷ xs) =
    let a = length-append (reversed xs) (x ∷ []) in
    let b = reversed_length xs in
    omega (arith, a, b)

headings_length : (ps : List Written_procedure) (hs : Heads) → length (headings_in_order ps hs).before ≡ length ps + length hs.before
headings_length [] hs = omega arith
headings_length (p ∷ ps) hs = let a = headings_length ps (add_heading hs p.heading p.forward) in omega (arith, a)

-- ---- a sequence that keeps the rules

module _ (xs : List Decl) (named : all_true (each decl_named xs) ≡ true) (body : List Judging) (u : Around) (start : IsStart u) (quiet : (block (each declaration xs) body u).notes.broken ≡ []) where
  abbrev begin : Around
  begin = record u { later_types = filter_map type_name_of (each declaration xs) }

  abbrev plain : Declared
  plain = plain_in xs u

  abbrev v : Around
  v = plain.around

  abbrev ps : List Written_procedure
  ps = filter_map procedure_of (each declaration xs)

  abbrev hs : Heads
  hs = headings_in_order ps (record { around = v; before = [] })

  abbrev all : List Head
  all = heads_in xs u

  abbrev ss : List TypedType
  ss = plain.part.contents.types

  abbrev its : List Item
  its = items all

  -- ---- what is quiet

  abbrev binding : Binding
  binding = binding_at (is_module_level u) hs.around all

  quiet_plain : plain.part.notes.broken ≡ []
  quiet_plain = front_empty plain.part.notes.broken (pointers_judged hs.around (plain.part.notes.later ++ heads_later hs.before)).broken (front_empty (plain.part.notes.broken ++ (pointers_judged hs.around (plain.part.notes.later ++ heads_later hs.before)).broken) _ quiet)

  quiet_headed : (block_headed u plain.part.notes.later ps body hs).notes.broken ≡ []
  quiet_headed = back_empty (plain.part.notes.broken ++ (pointers_judged hs.around (plain.part.notes.later ++ heads_later hs.before)).broken) _ quiet

  quiet_binding : binding.notes.broken ≡ []
  quiet_binding = front_empty binding.notes.broken _ (front_empty (binding.notes.broken ++ _) _ quiet_headed)

  quiet_forwards : (forwards_judged (map_of hs.around) all all).broken ≡ []
  quiet_forwards = back_empty (all_judged (field_judged (map_of (with_bound hs.around binding))) (plain.part.notes.later ++ heads_later hs.before)).broken _ (back_empty binding.notes.broken _ (front_empty (binding.notes.broken ++ _) _ quiet_headed))

  quiet_heads : AreQuiet all
  quiet_heads =
      let inside : (block_inside (with_bound hs.around binding) ps all body).notes.broken ≡ [] = back_empty (binding.notes.broken ++ _) _ quiet_headed in
      let a = headings_length ps (record { around = v; before = [] }) in
      let b = reversed_length hs.before in
      headings_quiet (with_bound hs.around binding) ps all (omega (arith, a, b)) (front_empty (procedures_judged (with_bound hs.around binding) ps all).notes.broken _ inside)

  quiet_before : AreQuiet hs.before
  quiet_before = all_of (λ (h : Head). h.notes.broken ≡ []) hs.before (λ h i. all_at (λ (h : Head). h.notes.broken ≡ []) all quiet_heads h (among_reversed hs.before h i))

  -- ---- what stands around

  placed : IsPlacedPlain begin plain
  placed = sequence_types xs named begin

  steady : IsSteady begin plain
  steady = sequence_steady xs begin

  heads : AreHeads v hs
  heads = headings_all v ps (headings_well xs named) (record { around = v; before = [] }) (record { unit = refl; path = refl; made = λ t i. inl i; heads = tt }) quiet_before

  same_path : hs.around.path ≡ u.path
  same_path = heads.path ∙ placed.path

  facts : (h : Head) → IsAmong h all → HasFacts hs.around h
  facts h i = all_at (HasFacts hs.around) hs.before heads.heads h (reversed_among hs.before h i)

  once : ArePlainOnce v hs.before
  once = (headings_are_once v (steady.forward start.forward) ps quiet_before).1

  -- each type that is there is one of these
  is_placed : u.path ≡ [] → (t : TypedType) → IsAmong t hs.around.own → IsPlaced ss its t
  is_placed e t i = by (heads.made t i)
    where
      none : IsAmong t u.own → IsPlaced ss its t
      none j = absurd (subst (λ ts. IsAmong t ts) (start.own (ap nothing e)) j)

      first : IsAmong t ss ⊎ IsAmong t u.own → IsPlaced ss its t
      first (inl j) = inl j
      first (inr j) = none j

      by : IsAmong t v.own ⊎ IsMade hs.before t → IsPlaced ss its t
      by (inl j) = first (steady.own t j)
      by (inr m) = inr (item_with m.by m.with, item_there all m.by m.with (among_reversed hs.before m.by m.there) m.is, m.among)

  -- ---- what is bound

  free : (h : Head) → IsAmong h all → (a : BoundAs) → h.bound ≡ Some a → field_at hs.around.own a.owner.object h.name ≡ false
  free h i a e = by h.forward refl
    where
      of_bound : (k : Head) → IsAmong k all → (b : BoundAs) → k.bound ≡ Some b → k.forward ≡ false → field_at hs.around.own b.owner.object k.name ≡ false
      of_bound k j b s f =
          let g = (facts k j).bound b s in
          let level : is_module_level u ≡ true = ap nothing (sym same_path ∙ g.owner.path) in
          let rules : (bindings hs.around all).notes.broken ≡ [] = subst (λ x. (binding_at x hs.around all).notes.broken ≡ []) level quiet_binding in
          all_at (λ (h : Head). h.is_bound ≡ true → IsFree hs.around.unit hs.around.own h) all (bound_free hs.around all rules) k j g.flag f b s g.owner.unit

      by : (f : Bool) → h.forward ≡ f → field_at hs.around.own a.owner.object h.name ≡ false
      by false f = of_bound h i a e f
      by true f =
          let k = answered (map_of hs.around) all h f (all_answered (map_of hs.around) all all quiet_forwards h i) in
          let t = and_parts (not k.0.forward) (answers_by h.is_bound k.0.is_bound h.bound k.0.bound h.name k.0.name) k.2 in
          let r = answer_parts h.is_bound k.0.is_bound h.bound k.0.bound h.name k.0.name ((facts h i).bound a e).flag t.1 a e in
          ap (λ x. field_at hs.around.own x h.name) r.3 ∙ ap (λ x. field_at hs.around.own r.0.owner.object x) r.4 ∙ of_bound k.0 k.1 r.0 r.2 (not-true k.0.forward t.0)

  -- its record has no field of its name, where shorter names are each of one type
  owner_of : (h : Head) → IsAmong h all → (a : BoundAs) → h.bound ≡ Some a → (l : ℕ) → AreUnique ss its l → length a.owner.object < l → HasOwner ss its a.owner.object h.name
  owner_of h i a e l unique less =
      let g = (facts h i).bound a e in
      let r = g.owner.holds in
      let level : u.path ≡ [] = sym same_path ∙ g.owner.path in
      let f = found_is hs.around.own a.owner.object r.of r.there r.is in
      let here : IsPlaced ss its r.of = is_placed level r.of r.there in
      let shorter = ap length r.is in
      let same : r.of ≡ f.0 = unique r.of f.0 here (is_placed level f.0 f.1) (omega (arith, less, shorter)) (r.is ∙ sym f.2) in
      let none : has_field (Some r.of.desc) h.name ≡ false = ap (λ (t : TypedType). has_field (Some t.desc) h.name) same ∙ ap (λ o. has_field (own_desc o) h.name) (sym f.3) ∙ free h i a e in
      record { of = r.of; placed = here; is = r.is; free = no_field hs.around.own a.owner.object r h.name none }

  -- ---- each heading's item

  stands : (h : Head) → IsAmong h all → (p : Parameters) → h.parameters ≡ Some p → (o : Option BoundAs) → h.bound ≡ o → IsSound hs.around h o → Stands u.path (is_known v) ss its h.name (owner_name o)
  stands h i p has None e s = plain_new v hs.before once h (reversed_among hs.before h i) s.flag
  stands h i p has (Some a) e s = (sym same_path ∙ s.owner.path, λ l unique less. owner_of h i a e l unique less)

  item_good : (h : Head) → IsAmong h all → (p : Parameters) → h.parameters ≡ Some p → IsGood u.path (is_known v) ss its (item_with h p)
  item_good h i p e =
      let f = facts h i in
      let s = f.sound p e in
      let types : ParametersIn (forward_name h.forward h.path) 1 p = subst (IfThere (ParametersIn (forward_name h.forward h.path) 1)) e f.types in
      let of = of_section hs.around u.path same_path h h.bound s f.word in
      record {
        word = f.word;
        parts = all_from (λ t. IsOfSection (forward_name h.forward h.path) 1 t.name) (λ t. Behind (stem u.path (item_with h p)) h.forward t.name) (λ t k. (of t.name k).0) p.made types.parts;
        within = all_from (λ t. IsOfSection (forward_name h.forward h.path) 1 t.name) (λ t. IsWithin u.path t.name) (λ t k. (of t.name k).1) p.made types.parts;
        differ = types.differ;
        nested = subst (IfThere (λ (p : Parameters). AreNested p.made p.made)) e f.nested;
        stands = stands h i p e h.bound refl s;
      }

  goods : AllByRecursion (IsGood u.path (is_known v) ss its) its
  goods = all_of (IsGood u.path (is_known v) ss its) its (λ a i. let f = item_from all a i in subst (IsGood u.path (is_known v) ss its) (sym f.is) (item_good f.by f.there f.with f.has))

  keys : KeysDiffer its
  keys =
      let o = headings_are_once v (steady.forward start.forward) ps quiet_before in
      let flags : AllByRecursion IsFlagged hs.before = all_from (HasFacts hs.around) IsFlagged (λ h f p e n. flagged h n (f.sound p e)) hs.before heads.heads in
      keys_differ all (pairs_reversed AreApart apart_turned hs.before (heads_apart v hs.before o.0 o.1 flags))
    where
      flagged : (h : Head) → h.bound ≡ None → IsSound hs.around h h.bound → h.is_bound ≡ false
      flagged h n s = (subst (IsSound hs.around h) n s).flag

  parts : AllByRecursion (λ t. IsOfKnown u.path (is_known v) t.name) ss
  parts = all_from (λ t. IsOfName u.path begin v t.name) (λ t. IsOfKnown u.path (is_known v) t.name) (λ t o. record { word = o.name; is = o.word; there = o.there; part = o.part }) ss (placed.types quiet_plain).parts

  nested : AreNested ss ss
  nested = sequences_are_nested xs named begin quiet_plain

  pub types_differ : AreDistinct (λ t. t.name) (types_in xs u) × AllByRecursion (λ t. IsWithin u.path t.name) (types_in xs u)
  types_differ = (
    subst (λ ts. AreDistinct (λ t. t.name) (ss ++ ts)) (items_make all) (all_differ u.path (is_known v) ss its parts (placed.types quiet_plain).differ nested goods keys),
    subst (λ ts. AllByRecursion (λ t. IsWithin u.path t.name) (ss ++ ts)) (items_make all) (all_within u.path (is_known v) ss its parts (placed.types quiet_plain).differ nested goods keys),
  )

-- THE TYPES OF A SEQUENCE AND OF ITS HEADINGS
pub blocks_differ : BlocksDiffer
blocks_differ xs named body u start quiet = types_differ xs named body u start quiet
