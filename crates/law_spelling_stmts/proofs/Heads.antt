-- Headings: what is known in them, and the types that they make.
use Rattle.std.proofs.Common.{◌≡◌, ℕ, ◌+◌, Bool, true, false, List, [], ◌∷◌, length, Option, Some, None, refl, sym, subst, map}
use Rattle.std.specs.Prelude.{bytes_eq}
use Rattle.std.specs.List.{AllByRecursion, filter}
use Rattle.ob_tree.specs.declared.names.QName.{QName}
use Rattle.ob_tree.specs.declared.ident.Ident.{Ident}
use Rattle.ob_tree.specs.declared.decl.Receiver.{Receiver as RawReceiver}
use Rattle.ob_types.specs.declared.desc.Desc.{Desc}
use Rattle.ob_types.specs.declared.desc.Desc.TheVariants as desc
use Rattle.ob_types.specs.declared.desc.Method.{Method}
use Rattle.ob_types.specs.declared.typed.TypedType.{TypedType}
use Rattle.ob_rules.specs.Judged.{broken_at}
use Rattle.ob_rules.specs.Shapes.{Map, Member, AField, AMethod, member}
use Rattle.ob_rules.specs.Names.{Around, map_of, in_unit}
use Rattle.ob_rules.specs.Types.{Parameters, inner, with_types, Typing, WrittenSection, knows, parameter_as, declare_all, with_made, sections, section_name, mode_of}
use Rattle.ob_rules.specs.Headings.{Head, Heads, BoundAs, Binding, owner_if, head_of, heading_parameters, knows_receiver, declared_head, knows_procedure, known_behind, name_twice, types_of, add_heading, counted, change_desc, changed_if, change_type, with_method, new_method, redefined, bind_method, bind_by, bind_one, bind_all, of_record, bind_records, reversed, WrittenHeading, head_entity, entity_as}
use Rattle.ob_rules.specs.Declarations.{Written_procedure, headings_in_order, binding_at}
use Rattle.ob_tree.specs.declared.expr.Expr.{Expr}
use Rattle.ob_tree.specs.declared.stmt.Stmt.{Stmt}
use Rattle.ob_types.specs.declared.types.Mode.{Mode}
use Rattle.ob_types.specs.declared.types.Signature.{Signature}
use Rattle.ob_types.specs.declared.value.Value.{Value}
use Rattle.ob_types.specs.declared.value.Value.TheVariants as literal
use Rattle.ob_types.specs.declared.typed.TypedStmt.{TypedStmt}
use Rattle.ob_rules.specs.declared.entity.Entity.{Entity}
use Rattle.ob_rules.specs.declared.entity.Entity.TheVariants as entity
use Rattle.ob_rules.specs.declared.entity.Known.{Known}
use Rattle.ob_rules.specs.declared.broken.Rule.TheVariants as rule
use Rattle.ob_tree.specs.declared.ident.Mark.TheVariants as mark
use Rattle.ob_rules.specs.Expressions.{phrase_of, constant_value}
use Rattle.ob_rules.specs.Statements.{judging, in_turn}
use Rattle.law_links_types.specs.Told.{core}
use Rattle.law_typing.specs.Spelled.{all_true}
use Rattle.law_spelling.specs.Coded.{PosFits}
use Rattle.law_spelling_read.specs.ReadPlaces.{expr_fits, stmt_fits}
use Rattle.law_spelling_stmts.proofs.Setting.{Keeps}
use Rattle.law_lists.proofs.Lists.{all_both, back_empty, filter_if}

-- the module, what it is shown, and what is asked of its types, by name and core, of its constants and of its statements
pub record Level : Type 1 where
  pub unit : List ℕ
  pub shown : QName → Option Desc
  pub Has : List ℕ → Desc → Type 0
  pub Fixed : Value → Type 0
  pub StmtOk : TypedStmt → Type 0
  pub truths : (b : Bool) → Fixed (literal.Bool b)

abbrev pub HasType : Level → TypedType → Type 0
HasType a t = a.Has t.name (core t.desc)

abbrev pub Have : Level → List TypedType → Type 0
Have a ts = AllByRecursion (HasType a) ts

abbrev pub FixedIn : Level → Entity → Type 0
FixedIn a (entity.Constant v) = a.Fixed v
FixedIn a e = Unit {0}

abbrev pub AreKnown : Level → List Known → Type 0
AreKnown a ks = AllByRecursion (λ (n : Known). FixedIn a n.what) ks

pub record Stands (a : Level) (u : Around) : Type 0 where
  pub unit : u.unit ≡ a.unit
  pub shown : u.shown ≡ a.shown
  pub own : Have a u.own
  pub known : AreKnown a u.known
  pub in_loop : u.in_loop ≡ false

-- what is asked of constants and statements is so of those of the text
pub record Judges (a : Level) : Type 0 where
  pub fixed : (u : Around) → Stands a u → (x : Expr) → expr_fits x ≡ true → Keeps a.Fixed (constant_value u (phrase_of x))
  pub body : (u : Around) → Stands a u → (xs : List Stmt) → all_true (map stmt_fits xs) ≡ true → Keeps (AllByRecursion a.StmtOk) (in_turn (map judging xs) u)

filter_all : {A : Type 0} (Q : A → Type 0) (f : A → Bool) (xs : List A) → AllByRecursion Q xs → AllByRecursion Q (filter f xs)
filter_all Q f [] h = tt
filter_all Q f (x ∷ xs) h = filter_if Q (f x) x (filter f xs) h.0 (filter_all Q f xs h.1)

-- ---- names in headings

parameter_e : (a : Level) (u : Around) (m : Mode) (x : Ident) (o : Option Typing) → FixedIn a (parameter_as u m x o)
parameter_e a u m x None = tt
parameter_e a u m x (Some t) = tt

all_known : (a : Level) (xs : List Ident) (u : Around) (m : Mode) (o : Option Typing) → AreKnown a u.known → AreKnown a (declare_all u m o xs).around.known
all_known a [] u m o h = h
all_known a (x ∷ xs) u m o h = all_known a xs (knows u x (parameter_as u m x o)) m o (parameter_e a u m x o, h)

made_known : (a : Level) (u : Around) (o : Option Typing) → AreKnown a u.known → AreKnown a (with_made u o).known
made_known a u None h = h
made_known a u (Some t) h = h

sections_known : (a : Level) (ss : List WrittenSection) (u : Around) (name : List ℕ) (i : ℕ) → AreKnown a u.known → AreKnown a (sections u name i ss).known
sections_known a [] u name i h = h
sections_known a (s ∷ ss) u name i h =
    let t = s.node.typing u (section_name name i) mark.Hidden true in
    let n = declare_all u (mode_of s.is_var) t.node s.names in
    sections_known a ss (with_made n.around t.node) name (i + length s.names) (made_known a n.around t.node (all_known a s.names u (mode_of s.is_var) t.node h))

receiver_known : (a : Level) (u : Around) (r : Option RawReceiver) (b : Option (Option BoundAs)) → AreKnown a u.known → AreKnown a (knows_receiver u r b).known
receiver_known a u None b h = h
receiver_known a u (Some r) None h = (tt, h)
receiver_known a u (Some r) (Some None) h = (tt, h)
receiver_known a u (Some r) (Some (Some b)) h = (tt, h)

-- ---- a heading

pub record HeadOk (a : Level) (h : Head) : Type 0 where
  pub inside : AreKnown a h.inside
  pub known : AreKnown a h.known
  pub at : PosFits h.at

-- it breaks no rule, and its types are the module's
abbrev pub IsSettled : Level → Head → Type 0
IsSettled a h = (h.notes.broken ≡ []) × Have a (types_of h.parameters)

abbrev pub AreSettled : Level → List Head → Type 0
AreSettled a hs = AllByRecursion (IsSettled a) hs

head_ok : (a : Level) (u : Around) → Stands a u → (w : WrittenHeading) (f : Bool) → PosFits w.name.ident.pos → HeadOk a (head_of u w f)
head_ok a u s w f p =
    let b = owner_if u w.receiver in
    let g = heading_parameters u w f b in
    record { inside = filter_all (λ (n : Known). FixedIn a n.what) _ g.known (sections_known a w.parameters.sections (knows_receiver (inner u) w.receiver b.node) _ 1 (receiver_known a (inner u) w.receiver b.node s.known)); known = s.known; at = p }

-- ---- headings in order

abbrev pub IsPlaced : Written_procedure → Type 0
IsPlaced p = PosFits p.heading.name.ident.pos

pub record HeadsOk (a : Level) (hs : Heads) : Type 0 where
  pub around : Stands a hs.around
  pub before : AllByRecursion (HeadOk a) hs.before

pub typed_stands : (a : Level) (u : Around) (ts : List TypedType) → Stands a u → Have a ts → Stands a (with_types u ts)
typed_stands a u ts s h = record { unit = s.unit; shown = s.shown; own = all_both (HasType a) ts u.own h s.own; known = s.known; in_loop = s.in_loop }

as_e : (a : Level) (b : Bool) (q : QName) (g : Signature) → FixedIn a (entity_as b q g)
as_e a true q g = tt
as_e a false q g = tt

head_e : (a : Level) (u : Around) (h : Head) (o : Option Parameters) → FixedIn a (head_entity u h o)
head_e a u h None = tt
head_e a u h (Some p) = as_e a h.forward (in_unit u h.path) p.signature

behind_stands : (a : Level) (u : Around) → Stands a u → (t : Bool) (h : Head) → Stands a (known_behind u t h)
behind_stands a u s true h = s
behind_stands a u s false h = by h.is_bound
  where
    by : (b : Bool) → Stands a (knows_procedure u h b)
    by true = s
    by false = record { unit = s.unit; shown = s.shown; own = s.own; known = (head_e a u h h.parameters, s.known); in_loop = s.in_loop }

-- one that is declared twice is not settled
its_types : (a : Level) (t : Bool) (h : Head) (u : Around) → IsSettled a (declared_head t h u) → Have a (types_of h.parameters)
its_types a true h u s = absurd (no (back_empty h.notes.broken (broken_at rule.DeclaredTwice h.at).broken s.0))
  where
    no : (broken_at rule.DeclaredTwice h.at).broken ≡ [] → ⊥
    no e = absurd cc
its_types a false h u s = s.1

declared_ok : (a : Level) (t : Bool) (h : Head) (u : Around) → HeadOk a h → AreKnown a u.known → HeadOk a (declared_head t h u)
declared_ok a true h u g n = record { inside = g.inside; known = n; at = g.at }
declared_ok a false h u g n = record { inside = g.inside; known = n; at = g.at }

add_ok : (a : Level) (hs : Heads) → (AreSettled a hs.before → HeadsOk a hs) → (w : WrittenHeading) (f : Bool) → PosFits w.name.ident.pos → AreSettled a (add_heading hs w f).before → HeadsOk a (add_heading hs w f)
add_ok a hs g w f p s =
    let b = g s.1 in
    let d = head_of hs.around w f in
    let v = with_types hs.around (types_of d.parameters) in
    let t = name_twice v hs.before d in
    let there = its_types a t d (known_behind v t d) s.0 in
    let n = behind_stands a v (typed_stands a hs.around (types_of d.parameters) b.around there) t d in
    record { around = n; before = (declared_ok a t d (known_behind v t d) (head_ok a hs.around b.around w f p) n.known, b.before) }

pub headings_ok : (a : Level) (ps : List Written_procedure) → AllByRecursion IsPlaced ps → (hs : Heads) → (AreSettled a hs.before → HeadsOk a hs) → AreSettled a (headings_in_order ps hs).before → HeadsOk a (headings_in_order ps hs)
headings_ok a [] w hs g = g
headings_ok a (p ∷ ps) w hs g = headings_ok a ps w.1 (add_heading hs p.heading p.forward) (add_ok a hs g p.heading p.forward w.0)

-- ---- what is bound

core_changed : (m : Method) (d : Desc) → core (change_desc (λ r. with_method r m) d) ≡ core d
core_changed m (desc.Const v) = refl
core_changed m (desc.Var k t) = refl
core_changed m (desc.Proc s) = refl
core_changed m (desc.Alias k t) = refl
core_changed m (desc.Array k n t) = refl
core_changed m (desc.OpenArray k t) = refl
core_changed m (desc.Pointer k t) = refl
core_changed m (desc.ProcType k s) = refl
core_changed m (desc.Record r) = refl

module _ (k : Level) where
  changed_has : (b : Bool) (m : Method) (t : TypedType) → HasType k t → HasType k (changed_if b (λ r. with_method r m) t)
  changed_has true m t h = subst (k.Has t.name) (sym (core_changed m t.desc)) h
  changed_has false m t h = h

  change_has : (x : List ℕ) (m : Method) (ts : List TypedType) → Have k ts → Have k (change_type x (λ r. with_method r m) ts)
  change_has x m [] h = tt
  change_has x m (t ∷ ts) h = (changed_has (bytes_eq t.name x) m t h.0, change_has x m ts h.1)

  redefined_has : (b : Bool) (s : Binding) (h : Head) (a : BoundAs) → Have k s.own → Have k (redefined b s h a).own
  redefined_has true s h a g = g
  redefined_has false s h a g = g

  method_has : (b : Bool) (u : Around) (types : Map) (s : Binding) (h : Head) (a : BoundAs) (owner : QName) (m : Method) → Have k s.own → Have k (bind_method b u types s h a owner m).own
  method_has true u types s h a owner m g = g
  method_has false u types s h a owner m g = redefined_has _ s h a g

  by_has : (u : Around) (types : Map) (s : Binding) (h : Head) (a : BoundAs) (o : Option Member) → Have k s.own → Have k (bind_by u types s h a o).own
  by_has u types s h a None g = change_has a.owner.object (new_method h a) s.own g
  by_has u types s h a (Some (AField owner f)) g = g
  by_has u types s h a (Some (AMethod owner m)) g = method_has _ u types s h a owner m g

  one_has : (u : Around) (s : Binding) (h : Head) (o : Option BoundAs) → Have k s.own → Have k (bind_one u s h o).own
  one_has u s h None g = g
  one_has u s h (Some a) g = by_has u (map_of (record u { own = s.own })) s h a (member (map_of (record u { own = s.own })) a.owner h.name) g

  all_has : (u : Around) (s : Binding) (hs : List Head) → Have k s.own → Have k (bind_all u s hs).own
  all_has u s [] g = g
  all_has u s (h ∷ hs) g = all_has u (bind_one u s h h.bound) hs (one_has u s h h.bound g)

  records_have : (u : Around) (hs : List Head) (s : Binding) (ts : List TypedType) → Have k s.own → Have k (bind_records u hs s ts).own
  records_have u hs s [] g = g
  records_have u hs s (t ∷ ts) g = records_have u hs (bind_all u s (filter (of_record t.name) hs)) ts (all_has u s (filter (of_record t.name) hs) g)

  pub binding_has : (level : Bool) (u : Around) (hs : List Head) → Have k u.own → Have k (binding_at level u hs).own
  binding_has true u hs g = records_have u (counted hs) _ (reversed u.own) g
  binding_has false u hs g = g
