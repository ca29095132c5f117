-- Where what is bound keeps the rules, no bound procedure has the name of a field of its record.
use Rattle.std.proofs.Common.{◌≡◌, ℕ, Bool, true, false, List, [], ◌∷◌, ◌++◌, Option, Some, None, refl, sym, ap, ◌∙◌, subst}
use Rattle.std.specs.Prelude.{cond, bytes_eq, is_some, not, ◌&&◌}
use Rattle.std.specs.List.{AllByRecursion, find, filter}
use Rattle.std.proofs.lemmas.Bool.{and_from}
use Rattle.ob_tree.specs.declared.names.QName.{QName}
use Rattle.ob_types.specs.declared.desc.Desc.{Desc}
use Rattle.ob_types.specs.declared.desc.Desc.TheVariants as desc
use Rattle.ob_types.specs.declared.desc.Field.{Field}
use Rattle.ob_types.specs.declared.desc.Method.{Method}
use Rattle.ob_types.specs.declared.typed.TypedType.{TypedType}
use Rattle.ob_rules.specs.declared.broken.Rule.TheVariants as rule
use Rattle.ob_rules.specs.Judged.{notes_if, broken_at, no_notes}
use Rattle.ob_rules.specs.Shapes.{Map, Member, AField, AMethod, field_or, own_member, base_record, or_in_base, member_within, member, same_name}
use Rattle.ob_rules.specs.Names.{Around, map_of, own_desc, type_desc, out_string}
use Rattle.ob_rules.specs.Headings.{Head, BoundAs, Binding, new_method, with_method, change_desc, changed_if, change_type, redefined, bind_method, bind_by, bind_one, bind_all, owner_is, of_record, bind_records, reversed, counts_if, counts, counted}
use Rattle.law_names_types.specs.Fields.{has_field, found, field_at, IsFree, BoundAreFree}
use Rattle.law_lists.proofs.Lists.{all_from, back_empty, bytes_turned, front_empty}

desc_fields : (m : Method) (d : Desc) (y : List ℕ) → has_field (Some (change_desc (λ r. with_method r m) d)) y ≡ has_field (Some d) y
desc_fields m (desc.Const v) y = refl
desc_fields m (desc.Var k t) y = refl
desc_fields m (desc.Proc s) y = refl
desc_fields m (desc.Alias k t) y = refl
desc_fields m (desc.Array k n t) y = refl
desc_fields m (desc.OpenArray k t) y = refl
desc_fields m (desc.Pointer k t) y = refl
desc_fields m (desc.ProcType k s) y = refl
desc_fields m (desc.Record r) y = refl

changed_fields : (x : List ℕ) (m : Method) (ts : List TypedType) (z y : List ℕ) → field_at (change_type x (λ r. with_method r m) ts) z y ≡ field_at ts z y
changed_fields x m [] z y = refl
changed_fields x m (t ∷ ts) z y = by (bytes_eq t.name x) (changed_fields x m ts z y)
  where
    with_test : (c : Bool) (e : Desc) (rest more : Option TypedType) → has_field (Some e) y ≡ has_field (Some t.desc) y → has_field (own_desc rest) y ≡ has_field (own_desc more) y →
        has_field (own_desc (cond c (Some (record { name = t.name; desc = e })) rest)) y ≡ has_field (own_desc (cond c (Some t) more)) y
    with_test true e rest more h k = h
    with_test false e rest more h k = k

    by : (b : Bool) → field_at (change_type x (λ r. with_method r m) ts) z y ≡ field_at ts z y → field_at (changed_if b (λ r. with_method r m) t ∷ change_type x (λ r. with_method r m) ts) z y ≡ field_at (t ∷ ts) z y
    by true h = with_test (bytes_eq t.name z) (change_desc (λ r. with_method r m) t.desc) (found (change_type x (λ r. with_method r m) ts) z) (found ts z) (desc_fields m t.desc y) h
    by false h = with_test (bytes_eq t.name z) t.desc (found (change_type x (λ r. with_method r m) ts) z) (found ts z) refl h

-- ---- what is bound leaves the fields, and what was said of it

record Leaves (s t : Binding) : Type 0 where
  fields : (z y : List ℕ) → field_at t.own z y ≡ field_at s.own z y
  quiet : t.notes.broken ≡ [] → s.notes.broken ≡ []

leaves_itself : (s : Binding) → Leaves s s
leaves_itself s = record { fields = λ z y. refl; quiet = λ e. e }

leaves_then : (s t v : Binding) → Leaves s t → Leaves t v → Leaves s v
leaves_then s t v h k = record { fields = λ z y. k.fields z y ∙ h.fields z y; quiet = λ e. h.quiet (k.quiet e) }

redefined_leaves : (b : Bool) (s : Binding) (h : Head) (a : BoundAs) → Leaves s (redefined b s h a)
redefined_leaves true s h a = record { fields = λ z y. refl; quiet = λ e. front_empty s.notes.broken (broken_at rule.UnmatchedRedefinition h.at).broken e }
redefined_leaves false s h a = record { fields = λ z y. refl; quiet = λ e. e }

method_leaves : (b : Bool) (u : Around) (map : Map) (s : Binding) (h : Head) (a : BoundAs) (q : QName) (m : Method) → Leaves s (bind_method b u map s h a q m)
method_leaves true u map s h a q m = leaves_itself s
method_leaves false u map s h a q m = redefined_leaves _ s h a

by_leaves : (u : Around) (map : Map) (s : Binding) (h : Head) (a : BoundAs) (o : Option Member) → Leaves s (bind_by u map s h a o)
by_leaves u map s h a None = record { fields = λ z y. changed_fields a.owner.object (new_method h a) s.own z y; quiet = λ e. e }
by_leaves u map s h a (Some (AField q f)) = record { fields = λ z y. refl; quiet = λ e. front_empty s.notes.broken (notes_if (not h.forward) rule.DeclaredTwice h.at).broken e }
by_leaves u map s h a (Some (AMethod q m)) = method_leaves _ u map s h a q m

one_leaves : (u : Around) (s : Binding) (h : Head) (o : Option BoundAs) → Leaves s (bind_one u s h o)
one_leaves u s h None = leaves_itself s
one_leaves u s h (Some a) = by_leaves u (map_of (record u { own = s.own })) s h a (member (map_of (record u { own = s.own })) a.owner h.name)

all_leave : (u : Around) (s : Binding) (hs : List Head) → Leaves s (bind_all u s hs)
all_leave u s [] = leaves_itself s
all_leave u s (h ∷ hs) = leaves_then s (bind_one u s h h.bound) (bind_all u (bind_one u s h h.bound) hs) (one_leaves u s h h.bound) (all_leave u (bind_one u s h h.bound) hs)

records_leave : (u : Around) (hs : List Head) (s : Binding) (ts : List TypedType) → Leaves s (bind_records u hs s ts)
records_leave u hs s [] = leaves_itself s
records_leave u hs s (t ∷ ts) =
    let v = bind_all u s (filter (of_record t.name) hs) in
    leaves_then s v (bind_records u hs v ts) (all_leave u s (filter (of_record t.name) hs)) (records_leave u hs v ts)

-- ---- a field is found before all else

abbrev is_field : Option Member → Bool
is_field (Some (AField q f)) = true
is_field m = false

field_first : (q : QName) (o : Option Field) (m : Option Method) (b : Option QName) (g : QName → Option Member) → is_some o ≡ true → is_field (or_in_base (field_or q o m) b g) ≡ true
field_first q None m b g e = absurd cc
field_first q (Some f) m b g e = refl

own_first : (q : QName) (d : Option Desc) (y : List ℕ) (b : Option QName) (g : QName → Option Member) → has_field d y ≡ true → is_field (or_in_base (own_member q d y) b g) ≡ true
own_first q None y b g e = absurd cc
own_first q (Some (desc.Record r)) y b g e = field_first q (find (λ (f : Field). bytes_eq f.name y) r.fields) (find (λ (m : Method). bytes_eq m.name y) r.methods) b g e
own_first q (Some (desc.Const v)) y b g e = absurd cc
own_first q (Some (desc.Var m t)) y b g e = absurd cc
own_first q (Some (desc.Proc s)) y b g e = absurd cc
own_first q (Some (desc.Alias m t)) y b g e = absurd cc
own_first q (Some (desc.Array m n t)) y b g e = absurd cc
own_first q (Some (desc.OpenArray m t)) y b g e = absurd cc
own_first q (Some (desc.Pointer m t)) y b g e = absurd cc
own_first q (Some (desc.ProcType m s)) y b g e = absurd cc

member_field : (map : Map) (q : QName) (y : List ℕ) → has_field (map q) y ≡ true → is_field (member map q y) ≡ true
unfolding member_within
member_field map q y e = own_first q (map q) y (base_record map q) (λ b. member_within map 200 b y) e

own_field : (u : Around) (own : List TypedType) (q : QName) (y : List ℕ) → bytes_eq q.«module» u.unit ≡ true → field_at own q.object y ≡ true → is_field (member (map_of (record u { own = own })) q y) ≡ true
own_field u own q y m e =
    let v : Around = record u { own = own } in
    member_field (map_of v) q y (subst (λ b. has_field (type_desc b (same_name q out_string) v q) y ≡ true) (sym m) e)

-- ---- none has a field's name

clash : (u : Around) (map : Map) (s : Binding) (h : Head) (a : BoundAs) (o : Option Member) → h.forward ≡ false → (bind_by u map s h a o).notes.broken ≡ [] → is_field o ≡ false
clash u map s h a None f e = refl
clash u map s h a (Some (AMethod q m)) f e = refl
clash u map s h a (Some (AField q g)) f e =
    let bad : (notes_if (not false) rule.DeclaredTwice h.at).broken ≡ [] = subst (λ b. (notes_if (not b) rule.DeclaredTwice h.at).broken ≡ []) f (back_empty s.notes.broken (notes_if (not h.forward) rule.DeclaredTwice h.at).broken e) in
    absurd cc

one_free : (u : Around) (s : Binding) (h : Head) (o : Option BoundAs) → (bind_one u s h o).notes.broken ≡ [] → h.forward ≡ false → (a : BoundAs) → o ≡ Some a → bytes_eq a.owner.«module» u.unit ≡ true → field_at s.own a.owner.object h.name ≡ false
one_free u s h None e f a i m = absurd cc
one_free u s h (Some b) e f a i m =
    let same : b ≡ a = cc in
    by (field_at s.own a.owner.object h.name) refl same
  where
    none : is_field (member (map_of (record u { own = s.own })) b.owner h.name) ≡ false
    none = clash u (map_of (record u { own = s.own })) s h b (member (map_of (record u { own = s.own })) b.owner h.name) f e

    by : (c : Bool) → field_at s.own a.owner.object h.name ≡ c → b ≡ a → c ≡ false
    by true k same =
        let has : is_field (member (map_of (record u { own = s.own })) a.owner h.name) ≡ true = own_field u s.own a.owner h.name m k in
        let not_ : is_field (member (map_of (record u { own = s.own })) a.owner h.name) ≡ false = subst (λ (x : BoundAs). is_field (member (map_of (record u { own = s.own })) x.owner h.name) ≡ false) same none in
        let bad : true ≡ false = sym has ∙ not_ in
        absurd cc
    by false k same = refl

-- over the types as they were
free_from : (u : Around) (own : List TypedType) (s : Binding) (h : Head) → ((z y : List ℕ) → field_at s.own z y ≡ field_at own z y) → (bind_one u s h h.bound).notes.broken ≡ [] → IsFree u.unit own h
free_from u own s h same e f a i m = sym (same a.owner.object h.name) ∙ one_free u s h h.bound e f a i m

all_free : (u : Around) (own : List TypedType) (s : Binding) (hs : List Head) → ((z y : List ℕ) → field_at s.own z y ≡ field_at own z y) → (bind_all u s hs).notes.broken ≡ [] → AllByRecursion (IsFree u.unit own) hs
all_free u own s [] same e = tt
all_free u own s (h ∷ hs) same e =
    let t = bind_one u s h h.bound in
    let one = one_leaves u s h h.bound in
    (free_from u own s h same ((all_leave u t hs).quiet e), all_free u own t hs (λ z y. one.fields z y ∙ same z y) e)

-- what holds of those that pass
passed : {A : Type 0} (P : A → Type 0) (test : A → Bool) (xs : List A) → AllByRecursion P (filter test xs) → AllByRecursion (λ x. test x ≡ true → P x) xs
passed P test [] h = tt
passed P test (x ∷ xs) h = by (test x) refl h (λ k. passed P test xs k)
  where
    by : (b : Bool) → test x ≡ b → AllByRecursion P (cond b (x ∷ filter test xs) (filter test xs)) → (AllByRecursion P (filter test xs) → AllByRecursion (λ x. test x ≡ true → P x) xs) → (test x ≡ true → P x) × AllByRecursion (λ x. test x ≡ true → P x) xs
    by true e h r = ((λ k. h.0), r h.1)
    by false e h r = ((λ k. let bad : true ≡ false = sym k ∙ e in absurd cc), r h)

abbrev FreeOf : List ℕ → List TypedType → TypedType → Head → Type 0
FreeOf unit own t h = of_record t.name h ≡ true → IsFree unit own h

records_free : (u : Around) (own : List TypedType) (hs : List Head) (s : Binding) (ts : List TypedType) → ((z y : List ℕ) → field_at s.own z y ≡ field_at own z y) → (bind_records u hs s ts).notes.broken ≡ [] → AllByRecursion (λ t. AllByRecursion (FreeOf u.unit own t) hs) ts
records_free u own hs s [] same e = tt
records_free u own hs s (t ∷ ts) same e =
    let mine = filter (of_record t.name) hs in
    let v = bind_all u s mine in (
      passed (IsFree u.unit own) (of_record t.name) hs (all_free u own s mine same ((records_leave u hs v ts).quiet e)),
      records_free u own hs v ts (λ z y. (all_leave u s mine).fields z y ∙ same z y) e,
    )

-- ---- all of them

back_reversed : {A : Type 0} (P : A → Type 0) (xs : List A) → AllByRecursion P (reversed xs) → AllByRecursion P xs
back_reversed P [] h = tt
back_reversed {A} P (x ∷ xs) h = let k = apart (reversed xs) h in (k.1.0, back_reversed P xs k.0)
  where
    apart : (ys : List A) → AllByRecursion P (ys ++ x ∷ []) → AllByRecursion P ys × AllByRecursion P (x ∷ [])
    apart [] h = (tt, h)
    apart (y ∷ ys) h = let k = apart ys h.1 in ((h.0, k.0), k.1)

-- of each head, over all types
turned : {A B : Type 0} (R : A → B → Type 0) (xs : List A) (ys : List B) → AllByRecursion (λ x. AllByRecursion (R x) ys) xs → AllByRecursion (λ y. AllByRecursion (λ x. R x y) xs) ys
turned R xs [] h = tt
turned {A} {B} R xs (y ∷ ys) h = (firsts xs h, turned R xs ys (rests xs h))
  where
    firsts : (xs : List A) → AllByRecursion (λ x. AllByRecursion (R x) (y ∷ ys)) xs → AllByRecursion (λ x. R x y) xs
    firsts [] h = tt
    firsts (x ∷ xs) h = (h.0.0, firsts xs h.1)

    rests : (xs : List A) → AllByRecursion (λ x. AllByRecursion (R x) (y ∷ ys)) xs → AllByRecursion (λ x. AllByRecursion (R x) ys) xs
    rests [] h = tt
    rests (x ∷ xs) h = (h.0.1, rests xs h.1)

-- a field is of a type that is there
there_free : (own : List TypedType) (x y : List ℕ) (Q : Type 0) → (ts : List TypedType) → AllByRecursion (λ t. bytes_eq t.name x ≡ true → Q) ts → field_at ts x y ≡ true → Q
there_free own x y Q [] h e = absurd cc
there_free own x y Q (t ∷ ts) h e = by (bytes_eq t.name x) refl e (λ k. there_free own x y Q ts h.1 k)
  where
    by : (b : Bool) → bytes_eq t.name x ≡ b → has_field (own_desc (cond b (Some t) (found ts x))) y ≡ true → (field_at ts x y ≡ true → Q) → Q
    by true i k r = h.0 i
    by false i k r = r k

owner_there : (a : BoundAs) (o : Option BoundAs) (x : List ℕ) → o ≡ Some a → bytes_eq a.owner.object x ≡ true → owner_is x o ≡ true
owner_there a o x i e = subst (λ o. owner_is x o ≡ true) (sym i) e

each_free : (unit : List ℕ) (own : List TypedType) (h : Head) → AllByRecursion (λ t. FreeOf unit own t h) own → IsFree unit own h
each_free unit own h k f a i m = by (field_at own a.owner.object h.name) refl
  where
    by : (b : Bool) → field_at own a.owner.object h.name ≡ b → b ≡ false
    by false e = refl
    by true e =
        let bad : true ≡ false =
        sym e
        ∙ there_free own a.owner.object h.name (field_at own a.owner.object h.name ≡ false) own
        (all_from (λ t. FreeOf unit own t h) (λ t. bytes_eq t.name a.owner.object ≡ true → field_at own a.owner.object h.name ≡ false) (λ t r s. r (owner_there a h.bound t.name i (bytes_turned t.name a.owner.object s)) f a i m) own k)
        e in
        absurd cc

counts_it : (all : List Head) (h : Head) (a : BoundAs) → h.is_bound ≡ true → h.bound ≡ Some a → h.forward ≡ false → counts all h ≡ true
counts_it all h a b i f =
    let third : counts_if h.forward all h ≡ true = ap (λ b. counts_if b all h) f in
    and_from (h.is_bound && is_some h.bound) (counts_if h.forward all h) (and_from h.is_bound (is_some h.bound) b (ap is_some i)) third

-- NO BOUND PROCEDURE HAS THE NAME OF A FIELD OF ITS RECORD
pub bound_free : BoundAreFree
bound_free u hs e =
    let all = counted hs in
    let s : Binding = record { own = u.own; bound = []; notes = no_notes } in
    let of_types = back_reversed (λ t. AllByRecursion (FreeOf u.unit u.own t) all) u.own (records_free u u.own all s (reversed u.own) (λ z y. refl) e) in
    let of_heads : AllByRecursion (IsFree u.unit u.own) all = all_from (λ h. AllByRecursion (λ t. FreeOf u.unit u.own t h) u.own) (IsFree u.unit u.own) (λ h k. each_free u.unit u.own h k) all (turned (FreeOf u.unit u.own) u.own all of_types) in
    all_from (λ h. counts hs h ≡ true → IsFree u.unit u.own h) (λ h. h.is_bound ≡ true → IsFree u.unit u.own h) (λ h r b f a i m. r (counts_it hs h a b i f) f a i m) hs (passed (IsFree u.unit u.own) (counts hs) hs of_heads)
