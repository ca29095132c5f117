-- Headings, and what is bound, leave the fields of records what they are.
use Rattle.std.proofs.Common.{ℕ, Bool, true, false, List, [], ◌∷◌, Option, Some, None, ◌++◌}
use Rattle.std.specs.Prelude.{bytes_eq}
use Rattle.std.specs.List.{AllByRecursion, filter}
use Rattle.ob_tree.specs.declared.pos.Pos.{Pos}
use Rattle.ob_tree.specs.declared.names.QName.{QName}
use Rattle.ob_tree.specs.declared.ident.Mark.{Mark}
use Rattle.ob_tree.specs.declared.ident.Mark.TheVariants as mark
use Rattle.ob_types.specs.declared.desc.Desc.{Desc}
use Rattle.ob_types.specs.declared.desc.Desc.TheVariants as desc
use Rattle.ob_types.specs.declared.desc.RecordDesc.{RecordDesc}
use Rattle.ob_types.specs.declared.desc.Method.{Method}
use Rattle.ob_types.specs.declared.typed.TypedType.{TypedType}
use Rattle.ob_rules.specs.Judged.{both}
use Rattle.ob_rules.specs.Shapes.{Map, Member, AField, AMethod, member}
use Rattle.ob_rules.specs.Names.{Around, map_of}
use Rattle.ob_rules.specs.Types.{Parameters, with_types, mark_of, is_module_level, marked, inner, parameters_in}
use Rattle.ob_rules.specs.Headings.{WrittenHeading, Head, BoundAs, Heads, Binding, mark_or_hidden, as_parameters, owner_if, heading_parameters, knows_receiver, head_of, declared_head, knows_procedure, known_behind, name_twice, types_of, add_heading, counted, change_desc, changed_if, change_type, with_method, new_method, redefined, bind_method, bind_by, bind_one, bind_all, of_record, bind_records, reversed, bindings, forward_name, path_by}
use Rattle.law_names_distinct.specs.Fields.{FieldsDiffer, AreApart}
use Rattle.law_methods_described.proofs.Nodes.{second_has, anew_has}
use Rattle.law_names_distinct.proofs.FieldTypings.{AreGoodSections, MakeApart, parameters_good}
use Rattle.law_lists.proofs.Lists.{IfThere, all_both}

abbrev pub GoodAround : Around → Type 0
GoodAround u = AreApart u.own

pub typed_around : (u : Around) (ts : List TypedType) → AreApart ts → GoodAround u → GoodAround (with_types u ts)
typed_around u ts h g = all_both (λ t. FieldsDiffer t.desc) ts u.own h g

-- ---- a heading

abbrev pub GoodHead : Head → Type 0
GoodHead h = IfThere MakeApart h.parameters

abbrev pub AreGoodHeads : List Head → Type 0
AreGoodHeads hs = AllByRecursion GoodHead hs

as_good : (o : Option ((Mark × Option BoundAs) × Parameters)) → IfThere (λ p. Unit {0} × MakeApart p.1) o → IfThere MakeApart (as_parameters o)
as_good None h = tt
as_good (Some p) h = h.1

pub head_good : (u : Around) (h : WrittenHeading) (forward : Bool) → AreGoodSections h.parameters.sections → GoodHead (head_of u h forward)
head_good u h forward g =
    let m = marked u false h.name in
    let b = owner_if u h.receiver in
    let s = heading_parameters u h forward b in
    as_good (both (both m b) s.found).node (second_has MakeApart (both m b) s.found (anew_has MakeApart u h.name.ident.«pos» (parameters_in (knows_receiver (inner u) h.receiver b.node) (forward_name forward (u.path ++ path_by b.node h.name.ident.name)) h.parameters) (parameters_good (knows_receiver (inner u) h.receiver b.node) _ h.parameters g)))

pub types_good : (o : Option Parameters) → IfThere MakeApart o → AreApart (types_of o)
types_good None h = tt
types_good (Some p) h = h

-- ---- headings in order

pub record GoodHeads (hs : Heads) : Type 0 where
  pub around : GoodAround hs.around
  pub before : AreGoodHeads hs.before

procedure_known : (u : Around) → GoodAround u → (h : Head) (b : Bool) → GoodAround (knows_procedure u h b)
procedure_known u g h true = g
procedure_known u g h false = g

behind_known : (u : Around) → GoodAround u → (twice : Bool) (h : Head) → GoodAround (known_behind u twice h)
behind_known u g true h = g
behind_known u g false h = procedure_known u g h h.is_bound

declared_good : (twice : Bool) (h : Head) → GoodHead h → (u : Around) → GoodHead (declared_head twice h u)
declared_good true h g u = tt
declared_good false h g u = g

pub add_good : (hs : Heads) → GoodHeads hs → (h : WrittenHeading) → AreGoodSections h.parameters.sections → (forward : Bool) → GoodHeads (add_heading hs h forward)
add_good hs g h s forward =
    let d = head_of hs.around h forward in
    let e = head_good hs.around h forward s in
    let u = with_types hs.around (types_of d.parameters) in
    let t = name_twice u hs.before d in
    record {
      around = behind_known u (typed_around hs.around (types_of d.parameters) (types_good d.parameters e) g.around) t d;
      before = (declared_good t d e (known_behind u t d), g.before);
    }

pub reversed_good : {A : Type 0} (P : A → Type 0) (xs : List A) → AllByRecursion P xs → AllByRecursion P (reversed xs)
reversed_good P [] h = tt
reversed_good P (x ∷ xs) h = all_both P (reversed xs) (x ∷ []) (reversed_good P xs h.1) (h.0, tt)

-- ---- what is bound

abbrev GoodBinding : Binding → Type 0
GoodBinding s = AreApart s.own

desc_changed : (m : Method) (d : Desc) → FieldsDiffer d → FieldsDiffer (change_desc (λ r. with_method r m) d)
desc_changed m (desc.Const v) h = h
desc_changed m (desc.Var k t) h = h
desc_changed m (desc.Proc s) h = h
desc_changed m (desc.Alias k t) h = h
desc_changed m (desc.Array k n t) h = h
desc_changed m (desc.OpenArray k t) h = h
desc_changed m (desc.Pointer k t) h = h
desc_changed m (desc.ProcType k s) h = h
desc_changed m (desc.Record r) h = h

if_changed : (b : Bool) (m : Method) (t : TypedType) → FieldsDiffer t.desc → FieldsDiffer (changed_if b (λ r. with_method r m) t).desc
if_changed true m t h = desc_changed m t.desc h
if_changed false m t h = h

types_changed : (x : List ℕ) (m : Method) (ts : List TypedType) → AreApart ts → AreApart (change_type x (λ r. with_method r m) ts)
types_changed x m [] h = tt
types_changed x m (t ∷ ts) h = (if_changed (bytes_eq t.name x) m t h.0, types_changed x m ts h.1)

redefined_good : (b : Bool) (s : Binding) (h : Head) (a : BoundAs) → GoodBinding s → GoodBinding (redefined b s h a)
redefined_good true s h a g = g
redefined_good false s h a g = g

method_good : (b : Bool) (u : Around) (map : Map) (s : Binding) (h : Head) (a : BoundAs) (owner : QName) (m : Method) → GoodBinding s → GoodBinding (bind_method b u map s h a owner m)
method_good true u map s h a owner m g = g
method_good false u map s h a owner m g = redefined_good _ s h a g

by_good : (u : Around) (map : Map) (s : Binding) (h : Head) (a : BoundAs) (o : Option Member) → GoodBinding s → GoodBinding (bind_by u map s h a o)
by_good u map s h a None g = types_changed a.owner.object (new_method h a) s.own g
by_good u map s h a (Some (AField owner f)) g = g
by_good u map s h a (Some (AMethod owner m)) g = method_good _ u map s h a owner m g

one_good : (u : Around) (s : Binding) (h : Head) (o : Option BoundAs) → GoodBinding s → GoodBinding (bind_one u s h o)
one_good u s h None g = g
one_good u s h (Some a) g = by_good u (map_of (record u { own = s.own })) s h a (member (map_of (record u { own = s.own })) a.owner h.name) g

all_good : (u : Around) (s : Binding) (hs : List Head) → GoodBinding s → GoodBinding (bind_all u s hs)
all_good u s [] g = g
all_good u s (h ∷ hs) g = all_good u (bind_one u s h h.bound) hs (one_good u s h h.bound g)

records_good : (u : Around) (hs : List Head) (s : Binding) (ts : List TypedType) → GoodBinding s → GoodBinding (bind_records u hs s ts)
records_good u hs s [] g = g
records_good u hs s (t ∷ ts) g = records_good u hs (bind_all u s (filter (of_record t.name) hs)) ts (all_good u s (filter (of_record t.name) hs) g)

pub bindings_good : (u : Around) (hs : List Head) → GoodAround u → AreApart (bindings u hs).own
bindings_good u hs g = records_good u (counted hs) _ (reversed u.own) g
