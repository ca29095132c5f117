-- Headings, and what is bound to records: the types that they make are the module's, and receivers are of its records.
use Rattle.std.proofs.Common.{◌≡◌, ℕ, ◌+◌, Bool, true, false, List, [], ◌∷◌, ◌++◌, length, Option, Some, None, refl, sym, subst, arith}
use Rattle.std.specs.Prelude.{◌&&◌, not, ◌==◌, bytes_eq}
use Rattle.std.specs.List.{AllByRecursion, filter, list_any}
use Rattle.std.proofs.lemmas.List.{length-append}
use Rattle.ob_tree.specs.declared.pos.Pos.{Pos}
use Rattle.ob_tree.specs.declared.names.QName.{QName}
use Rattle.ob_tree.specs.declared.ident.Ident.{Ident}
use Rattle.ob_tree.specs.declared.ident.Mark.{Mark}
use Rattle.ob_tree.specs.declared.decl.Receiver.{Receiver as RawReceiver}
use Rattle.ob_tree.specs.declared.decl.Heading.{Heading}
use Rattle.ob_types.specs.declared.types.TypeRef.{TypeRef}
use Rattle.ob_types.specs.declared.desc.Desc.{Desc}
use Rattle.ob_types.specs.declared.desc.Desc.TheVariants as desc
use Rattle.ob_types.specs.declared.desc.Method.{Method}
use Rattle.ob_types.specs.declared.typed.TypedType.{TypedType}
use Rattle.ob_rules.specs.declared.entity.Received.{Received}
use Rattle.ob_rules.specs.declared.broken.Rule.TheVariants as rule
use Rattle.ob_rules.specs.Judged.{broken_at, both}
use Rattle.ob_rules.specs.Shapes.{Map, Member, AField, AMethod, member, pointed}
use Rattle.ob_rules.specs.Names.{Around, map_of, type_named}
use Rattle.ob_rules.specs.Types.{Parameters, written_parameters, is_module_level, marked, inner, with_types, parameters_in}
use Rattle.ob_rules.specs.Headings.{heading_of, Head, Heads, BoundAs, Binding, is_own, if_own, own_record, received_record, silent_base, bound_to, owner_of, owner_if, bound_in, as_parameters, head_of, heading_parameters, knows_receiver, declared_head, knows_procedure, known_behind, name_twice, types_of, add_heading, counted, change_desc, changed_if, change_type, with_method, new_method, redefined, bind_method, bind_by, bind_one, bind_all, of_record, bind_records, reversed, forward_name, path_by, made_anew, are_there}
use Rattle.ob_rules.specs.Declarations.{Written_procedure, headings_in_order, received_by, binding_at}
use Rattle.law_links_types.specs.Told.{core}
use Rattle.law_links_types.proofs.Setting.{Setting, HasType, Stands, Keeps, any_keeps, then_keeps, both_keep, made_keeps, unless_keeps}
use Rattle.law_links_types.proofs.Typings.{Have, AreMade, ParametersOk, parameters_good, typed_stands}
use Rattle.law_links_types.proofs.Written.{written_parameters_good}
use Rattle.law_lists.proofs.Lists.{Anything, IfThere, all_both, back_empty}

-- ---- receivers

abbrev pub IsOwned : Setting → QName → Type 0
IsOwned k q = bytes_eq q.«module» k.unit ≡ true

abbrev pub BoundOk : Setting → BoundAs → Type 0
BoundOk k b = IsOwned k b.owner

left_true : (a b : Bool) → (a && b) ≡ true → a ≡ true
left_true true b e = refl
left_true false b e = absurd cc

owned_if : (k : Setting) (b : Bool) (q : QName) → (b ≡ true → IsOwned k q) → IfThere (IsOwned k) (if_own b q)
owned_if k true q h = h refl
owned_if k false q h = tt

owned : (k : Setting) (u : Around) → Stands k u → (o : Option QName) → IfThere (IsOwned k) (own_record u o)
owned k u s None = tt
owned k u s (Some q) =
    let b = bytes_eq q.«module» u.unit in
    let c = not (list_any (λ c. c == 47) q.object) in
    owned_if k (is_own u q && is_module_level u) q (λ e. subst (λ m. bytes_eq q.«module» m ≡ true) s.unit (left_true b c (left_true (b && c) (is_module_level u) e)))

bound_ok : (k : Setting) (at : Pos) (var : Bool) (t : TypeRef) (quiet : Bool) (o : Option QName) → IfThere (IsOwned k) o → Keeps k (BoundOk k) (bound_to at var t quiet o)
bound_ok k at var t quiet (Some q) h = h
bound_ok k at var t true None h = tt
bound_ok k at var t false None h = tt

owner_ok : (k : Setting) (u : Around) → Stands k u → (r : RawReceiver) → Keeps k (BoundOk k) (owner_of u r)
owner_ok k u s r =
    let j = type_named u (record { qualifier = None; ident = r.owner }) in
    then_keeps k Anything (BoundOk k) j _ (any_keeps k j) (λ t h. bound_ok k r.owner.pos r.is_var t (is_module_level u && silent_base (map_of u) r.is_var (pointed (map_of u) t)) (own_record u (received_record (map_of u) r.is_var t)) (owned k u s (received_record (map_of u) r.is_var t)))

if_owner_ok : (k : Setting) (u : Around) → Stands k u → (o : Option RawReceiver) → Keeps k (IfThere (BoundOk k)) (owner_if u o)
if_owner_ok k u s None = tt
if_owner_ok k u s (Some r) = made_keeps k (BoundOk k) (IfThere (BoundOk k)) (λ b. Some b) (owner_of u r) (owner_ok k u s r) (λ b h. h)

in_bound : (k : Setting) (o : Option (Option BoundAs)) → IfThere (IfThere (BoundOk k)) o → IfThere (BoundOk k) (bound_in o)
in_bound k None h = tt
in_bound k (Some b) h = h

pub received_ok : (k : Setting) (x : Option Ident) (o : Option BoundAs) → IfThere (BoundOk k) o → IfThere (λ (r : Received). bytes_eq r.owner.«module» k.unit ≡ true) (received_by x o)
received_ok k (Some x) (Some b) h = h
received_ok k (Some x) None h = tt
received_ok k None o h = tt

-- ---- a heading

pub record HeadOk (k : Setting) (h : Head) : Type 0 where
  pub bound : IfThere (BoundOk k) h.bound
  pub types : AreMade k (types_of h.parameters)

-- it breaks no rule, and its types are the module's
abbrev pub IsSettled : Setting → Head → Type 0
IsSettled k h = (h.notes.broken ≡ []) × Have k (types_of h.parameters)

abbrev pub AreSettled : Setting → List Head → Type 0
AreSettled k hs = AllByRecursion (IsSettled k) hs

receiver_stands : (k : Setting) (u : Around) → Stands k u → (r : Option RawReceiver) (b : Option (Option BoundAs)) → Stands k (knows_receiver u r b)
receiver_stands k u s None b = s
receiver_stands k u s (Some r) (Some (Some b)) = record { unit = s.unit; shown = s.shown; own = s.own; receiver = s.receiver }
receiver_stands k u s (Some r) (Some None) = record { unit = s.unit; shown = s.shown; own = s.own; receiver = s.receiver }
receiver_stands k u s (Some r) None = record { unit = s.unit; shown = s.shown; own = s.own; receiver = s.receiver }

as_ok : (k : Setting) (o : Option ((Mark × Option BoundAs) × Parameters)) → IfThere (λ (p : (Mark × Option BoundAs) × Parameters). Unit {0} × ParametersOk k p.1) o → Have k (types_of (as_parameters o)) → AreMade k (types_of (as_parameters o))
as_ok k None h g = tt
as_ok k (Some p) h g = h.1 g

head_ok : (k : Setting) (u : Around) → Stands k u → (h : Heading) (f : Bool) → Have k (types_of (head_of u (heading_of h) f).parameters) → HeadOk k (head_of u (heading_of h) f)
head_ok k u s h f g =
    let w = heading_of h in
    let m = marked u false w.name in
    let b = owner_if u w.receiver in
    let p = heading_parameters u w f b in
    let v = knows_receiver (inner u) w.receiver b.node in
    let n : Stands k v = receiver_stands k (inner u) (record { unit = s.unit; shown = s.shown; own = s.own; receiver = s.receiver }) w.receiver b.node in
    let inside = parameters_in v (forward_name f (u.path ++ path_by b.node w.name.ident.name)) w.parameters in
    let good : Keeps k (ParametersOk k) p.found = then_keeps k (ParametersOk k) (ParametersOk k) inside.found (made_anew u w.name.ident.«pos») (parameters_good k v n _ (written_parameters h.parameters) (written_parameters_good k h.parameters)) (λ q i. unless_keeps k (ParametersOk k) (are_there u q.made) rule.DeclaredTwice w.name.ident.«pos» q i) in
    record {
      bound = in_bound k b.node (if_owner_ok k u s w.receiver);
      types = as_ok k (both (both m b) p.found).node (both_keep k Anything (ParametersOk k) (both m b) p.found (any_keeps k (both m b)) good) g;
    }

-- ---- headings in order

abbrev pub IsWritten : Written_procedure → Type 0
IsWritten p = (h : Heading) × (p.heading ≡ heading_of h)

pub record HeadsOk (k : Setting) (hs : Heads) : Type 0 where
  pub around : Stands k hs.around
  pub before : AllByRecursion (HeadOk k) hs.before

behind_stands : (k : Setting) (u : Around) → Stands k u → (t : Bool) (h : Head) → Stands k (known_behind u t h)
behind_stands k u s true h = s
behind_stands k u s false h = by h.is_bound
  where
    by : (b : Bool) → Stands k (knows_procedure u h b)
    by true = s
    by false = record { unit = s.unit; shown = s.shown; own = s.own; receiver = s.receiver }

-- one that is declared twice is not settled
its_types : (k : Setting) (t : Bool) (h : Head) (u : Around) → IsSettled k (declared_head t h u) → Have k (types_of h.parameters)
its_types k true h u s = absurd (no (back_empty h.notes.broken (broken_at rule.DeclaredTwice h.at).broken s.0))
  where
    no : (broken_at rule.DeclaredTwice h.at).broken ≡ [] → ⊥
    no e = absurd cc
its_types k false h u s = s.1

declared_ok : (k : Setting) (t : Bool) (h : Head) (u : Around) → HeadOk k h → HeadOk k (declared_head t h u)
declared_ok k true h u g = record { bound = g.bound; types = tt }
declared_ok k false h u g = record { bound = g.bound; types = g.types }

add_ok : (k : Setting) (hs : Heads) → (AreSettled k hs.before → HeadsOk k hs) → (h : Heading) (f : Bool) → AreSettled k (add_heading hs (heading_of h) f).before → HeadsOk k (add_heading hs (heading_of h) f)
add_ok k hs g h f s =
    let a = g s.1 in
    let d = head_of hs.around (heading_of h) f in
    let v = with_types hs.around (types_of d.parameters) in
    let t = name_twice v hs.before d in
    let there = its_types k t d (known_behind v t d) s.0 in
    record {
      around = behind_stands k v (typed_stands k hs.around (types_of d.parameters) a.around there) t d;
      before = (declared_ok k t d (known_behind v t d) (head_ok k hs.around a.around h f there), a.before);
    }

pub headings_ok : (k : Setting) (ps : List Written_procedure) → AllByRecursion IsWritten ps → (hs : Heads) → (AreSettled k hs.before → HeadsOk k hs) → AreSettled k (headings_in_order ps hs).before → HeadsOk k (headings_in_order ps hs)
headings_ok k [] w hs g = g
headings_ok k (p ∷ ps) w hs g = headings_ok k ps w.1 (add_heading hs p.heading p.forward) (subst (λ x. AreSettled k (add_heading hs x p.forward).before → HeadsOk k (add_heading hs x p.forward)) (sym w.0.1) (add_ok k hs g w.0.0 p.forward))

pub reversed_all : {A : Type 0} (Q : A → Type 0) (xs : List A) → AllByRecursion Q xs → AllByRecursion Q (reversed xs)
reversed_all Q [] h = tt
reversed_all Q (x ∷ xs) h = all_both Q (reversed xs) (x ∷ []) (reversed_all Q xs h.1) (h.0, tt)

last_of : {A : Type 0} (Q : A → Type 0) (xs : List A) (x : A) → AllByRecursion Q (xs ++ x ∷ []) → Q x × AllByRecursion Q xs
last_of Q [] x h = (h.0, tt)
last_of Q (y ∷ xs) x h = let r = last_of Q xs x h.1 in (r.0, (h.0, r.1))

pub reversed_back : {A : Type 0} (Q : A → Type 0) (xs : List A) → AllByRecursion Q (reversed xs) → AllByRecursion Q xs
reversed_back Q [] h = tt
reversed_back Q (x ∷ xs) h = let r = last_of Q (reversed xs) x h in (r.0, reversed_back Q xs r.1)

-- as many as there are procedures
length_reversed : {A : Type 0} (xs : List A) → length (reversed xs) ≡ length xs
length_reversed [] = refl
length_reversed (x ∷ xs) = let a = length-append (reversed xs) (x ∷ []) in let b = length_reversed xs in omega (arith, a, b)

headings_length : (ps : List Written_procedure) (hs : Heads) → length (headings_in_order ps hs).before ≡ length ps + length hs.before
headings_length [] hs = omega arith
headings_length (p ∷ ps) hs = let a = headings_length ps (add_heading hs p.heading p.forward) in omega (arith, a)

pub as_many : (ps : List Written_procedure) (u : Around) → length ps ≡ length (reversed (headings_in_order ps (record { around = u; before = [] })).before)
as_many ps u =
    let start : Heads = record { around = u; before = [] } in
    let a = headings_length ps start in
    let b = length_reversed (headings_in_order ps start).before in
    omega (arith, a, b)

-- ---- what is bound

core_changed : (m : Method) (d : Desc) → core (change_desc (λ r. with_method r m) d) ≡ core d
core_changed m (desc.Const v) = refl
core_changed m (desc.Var k t) = refl
core_changed m (desc.Proc s) = refl
core_changed m (desc.Alias k t) = refl
core_changed m (desc.Array k n t) = refl
core_changed m (desc.OpenArray k t) = refl
core_changed m (desc.Pointer k t) = refl
core_changed m (desc.ProcType k s) = refl
core_changed m (desc.Record r) = refl

module _ (k : Setting) where
  changed_has : (b : Bool) (m : Method) (t : TypedType) → HasType k t → HasType k (changed_if b (λ r. with_method r m) t)
  changed_has true m t h = subst (k.Has t.name) (sym (core_changed m t.desc)) h
  changed_has false m t h = h

  change_has : (x : List ℕ) (m : Method) (ts : List TypedType) → Have k ts → Have k (change_type x (λ r. with_method r m) ts)
  change_has x m [] h = tt
  change_has x m (t ∷ ts) h = (changed_has (bytes_eq t.name x) m t h.0, change_has x m ts h.1)

  redefined_has : (b : Bool) (s : Binding) (h : Head) (a : BoundAs) → Have k s.own → Have k (redefined b s h a).own
  redefined_has true s h a g = g
  redefined_has false s h a g = g

  method_has : (b : Bool) (u : Around) (types : Map) (s : Binding) (h : Head) (a : BoundAs) (owner : QName) (m : Method) → Have k s.own → Have k (bind_method b u types s h a owner m).own
  method_has true u types s h a owner m g = g
  method_has false u types s h a owner m g = redefined_has _ s h a g

  by_has : (u : Around) (types : Map) (s : Binding) (h : Head) (a : BoundAs) (o : Option Member) → Have k s.own → Have k (bind_by u types s h a o).own
  by_has u types s h a None g = change_has a.owner.object (new_method h a) s.own g
  by_has u types s h a (Some (AField owner f)) g = g
  by_has u types s h a (Some (AMethod owner m)) g = method_has _ u types s h a owner m g

  one_has : (u : Around) (s : Binding) (h : Head) (o : Option BoundAs) → Have k s.own → Have k (bind_one u s h o).own
  one_has u s h None g = g
  one_has u s h (Some a) g = by_has u (map_of (record u { own = s.own })) s h a (member (map_of (record u { own = s.own })) a.owner h.name) g

  all_has : (u : Around) (s : Binding) (hs : List Head) → Have k s.own → Have k (bind_all u s hs).own
  all_has u s [] g = g
  all_has u s (h ∷ hs) g = all_has u (bind_one u s h h.bound) hs (one_has u s h h.bound g)

  records_have : (u : Around) (hs : List Head) (s : Binding) (ts : List TypedType) → Have k s.own → Have k (bind_records u hs s ts).own
  records_have u hs s [] g = g
  records_have u hs s (t ∷ ts) g = records_have u hs (bind_all u s (filter (of_record t.name) hs)) ts (all_has u s (filter (of_record t.name) hs) g)

  pub binding_has : (level : Bool) (u : Around) (hs : List Head) → Have k u.own → Have k (binding_at level u hs).own
  binding_has true u hs g = records_have u (counted hs) _ (reversed u.own) g
  binding_has false u hs g = g
