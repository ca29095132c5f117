-- Headings, and what is bound, have names and types that have a spelling.
use Rattle.std.proofs.Common.{◌≡◌, ℕ, Bool, true, false, cond, List, [], ◌∷◌, ◌++◌, Option, Some, None, refl, sym, ap, subst, ◌∙◌, codes}
use Rattle.std.specs.Prelude.{bytes_eq, ◌&&◌, nat_lt}
use Rattle.std.specs.List.{AllByRecursion, filter, find}
use Rattle.std.proofs.lemmas.Bool.{and_parts}
use Rattle.std.proofs.lemmas.Slice.Eq.{bytes_eq-Decides}
use Rattle.ob_tree.specs.declared.pos.Pos.{Pos}
use Rattle.ob_tree.specs.declared.names.QName.{QName}
use Rattle.ob_tree.specs.declared.ident.Ident.{Ident}
use Rattle.ob_tree.specs.declared.ident.Mark.{Mark}
use Rattle.ob_tree.specs.declared.ident.Mark.TheVariants as mark
use Rattle.ob_tree.specs.declared.decl.Receiver.{Receiver as RawReceiver}
use Rattle.ob_types.specs.declared.types.TypeRef.{TypeRef}
use Rattle.ob_types.specs.declared.types.TypeRef.TheVariants as ref
use Rattle.ob_types.specs.declared.types.Signature.{Signature}
use Rattle.ob_types.specs.declared.desc.Desc.{Desc}
use Rattle.ob_types.specs.declared.desc.Desc.TheVariants as desc
use Rattle.ob_types.specs.declared.desc.RecordDesc.{RecordDesc}
use Rattle.ob_types.specs.declared.desc.Method.{Method}
use Rattle.ob_types.specs.declared.typed.TypedType.{TypedType}
use Rattle.ob_types.specs.Tests.{target, shape_at}
use Rattle.ob_format.specs.Names.{is_object}
use Rattle.ob_desc.specs.Grammar.{type_fits, signature}
use Rattle.ob_rules.specs.declared.entity.Entity.{Entity}
use Rattle.ob_rules.specs.Judged.{sound, both}
use Rattle.ob_rules.specs.Shapes.{Map, Member, AField, AMethod, member, record_at, pointed, record_if, same_name}
use Rattle.ob_rules.specs.Names.{Around, own_desc, type_desc, map_of, in_unit, type_named, out_string}
use Rattle.ob_rules.specs.Types.{Parameters, with_types, is_module_level, marked, inner, knows, parameters_in}
use Rattle.ob_rules.specs.Headings.{BoundAs, received_record, is_own, if_own, own_record, bound_to, owner_of, owner_if, knows_receiver, WrittenHeading, Head, path_by, forward_name, bound_in, as_parameters, heading_parameters, head_of, entity_as, head_entity, declared_head, knows_procedure, known_behind, Heads, name_twice, types_of, add_heading, counts, counted, signature_if, Binding, signature_or_none, exported_mark, new_method, with_method, change_desc, changed_if, change_type, redefined, bind_method, bind_by, bind_one, bind_all, of_record, bind_records, reversed, bindings}
use Rattle.law_methods_described.specs.Described.{is_whole}
use Rattle.law_methods_described.proofs.Nodes.{Has, then_has, second_has, anew_has}
use Rattle.law_spelling.specs.Trees.{IsNamed, MethodIsSpelled, RecordIsSpelled}
use Rattle.law_spelling.specs.Raw.{is_named}
use Rattle.law_spelling.specs.Ruled.{TypeNames, TypeOk, EntityOk, KnownOk, AroundOk}
use Rattle.law_spelling.proofs.Lists.{all_filtered}
use Rattle.law_spelling.proofs.Names.{named_object}
use Rattle.law_spelling.proofs.RuleNames.{object_more, object_bytes, type_has}
use Rattle.law_spelling.proofs.RuleTypes.{AreOk, AreOkSections, typed_around, ParametersOk, parameters_ok, inner_around}
use Rattle.law_lists.proofs.Lists.{IfThere, all_both, all_from}

-- ---- the record that a receiver is of

pub record IsRecordIn (map : Map) (q : QName) : Type 0 where
  pub desc : Desc
  pub is : map q ≡ Some desc

at_found : (map : Map) (x : TypeRef) (q : QName) → record_at x (shape_at map x) ≡ Some q → IsRecordIn map q
at_found map (ref.Basic b) q e = absurd cc
at_found map (ref.Named p) q e = go (map p) refl e
  where
    go : (o : Option Desc) → map p ≡ o → record_at (ref.Named p) o ≡ Some q → IsRecordIn map q
    go None i e = absurd cc
    go (Some (desc.Const v)) i e = absurd cc
    go (Some (desc.Var m t)) i e = absurd cc
    go (Some (desc.Proc s)) i e = absurd cc
    go (Some (desc.Alias m t)) i e = absurd cc
    go (Some (desc.Array m n t)) i e = absurd cc
    go (Some (desc.OpenArray m t)) i e = absurd cc
    go (Some (desc.Pointer m t)) i e = absurd cc
    go (Some (desc.ProcType m s)) i e = absurd cc
    go (Some (desc.Record r)) i e = let same : p ≡ q = cc in record { desc = desc.Record r; is = ap map (sym same) ∙ i }

if_found : (map : Map) (o : Option TypeRef) (q : QName) → record_if map o ≡ Some q → IsRecordIn map q
if_found map None q e = absurd cc
if_found map (Some t) q e = at_found map (target map 201 t) q e

received_found : (map : Map) (var : Bool) (t : TypeRef) (q : QName) → received_record map var t ≡ Some q → IsRecordIn map q
received_found map true t q e = at_found map (target map 201 t) q e
received_found map false t q e = if_found map (pointed map t) q e

pub record FoundBy {A : Type 0} (P : A → Type 0) (test : A → Bool) (x : A) : Type 0 where
  pub has : P x
  pub passes : test x ≡ true

find_both : {A : Type 0} (P : A → Type 0) (test : A → Bool) (xs : List A) → AllByRecursion P xs → (x : A) → find test xs ≡ Some x → FoundBy P test x
find_both P test [] h x e = absurd cc
find_both {A} P test (y ∷ ys) h x e = go (test y) refl e (find_both P test ys h.1 x)
  where
    go : (b : Bool) → test y ≡ b → cond b (Some y) (find test ys) ≡ Some x → (find test ys ≡ Some x → FoundBy P test x) → FoundBy P test x
    go true f i rest = let same : y ≡ x = cc in subst (FoundBy P test) same (record { has = h.0; passes = f })
    go false f i rest = rest i

own_object : (u : Around) → AroundOk u → (p : QName) (d : Desc) → bytes_eq p.module u.unit ≡ true → map_of u p ≡ Some d → is_object p.object ≡ true
own_object u g p d own e = go (find (λ t. bytes_eq t.name p.object) u.own) refl (ap (λ b. type_desc b (same_name p out_string) u p) (sym own) ∙ e)
  where
    go : (o : Option TypedType) → find (λ t. bytes_eq t.name p.object) u.own ≡ o → own_desc o ≡ Some d → is_object p.object ≡ true
    go None i e = absurd cc
    go (Some t) i e =
        let k = find_both TypeOk (λ t. bytes_eq t.name p.object) u.own g.own t i in
        let h = k.has in
        subst (λ (x : List ℕ). is_object x ≡ true) ((bytes_eq-Decides t.name p.object).0 k.passes) h.0

owner_object : (u : Around) → AroundOk u → (var : Bool) (t : TypeRef) (q : QName) → own_record u (received_record (map_of u) var t) ≡ Some q → is_object q.object ≡ true
owner_object u g var t q e = go (received_record (map_of u) var t) refl e
  where
    own_if : (p : QName) (b : Bool) → is_own u p && is_module_level u ≡ b → received_record (map_of u) var t ≡ Some p → if_own b p ≡ Some q → is_object q.object ≡ true
    own_if p false f i e = absurd cc
    own_if p true f i e =
        let same : p ≡ q = cc in
        let k = received_found (map_of u) var t p i in
        let mine = (and_parts (bytes_eq p.module u.unit) _ (and_parts (is_own u p) (is_module_level u) f).0).0 in
        subst (λ (q : QName). is_object q.object ≡ true) same (own_object u g p k.desc mine k.is)

    go : (o : Option QName) → received_record (map_of u) var t ≡ o → own_record u o ≡ Some q → is_object q.object ≡ true
    go None i e = absurd cc
    go (Some p) i e = own_if p (is_own u p && is_module_level u) refl i e

-- ---- receivers

pub record BoundOk (b : BoundAs) : Type 0 where
  pub of : type_fits b.of
  pub owner : is_object b.owner.object ≡ true

to_ok : (at : Pos) (var : Bool) (t : TypeRef) (quiet : Bool) (o : Option QName) → type_fits t → ((q : QName) → o ≡ Some q → is_object q.object ≡ true) → Has BoundOk (bound_to at var t quiet o)
to_ok at var t quiet (Some q) h k = record { of = h; owner = k q refl }
to_ok at var t true None h k = tt
to_ok at var t false None h k = tt

owner_ok : (u : Around) → AroundOk u → (r : RawReceiver) → Has BoundOk (owner_of u r)
owner_ok u g r = then_has type_fits BoundOk (type_named u (record { qualifier = None; ident = r.owner })) _ (type_has u g (record { qualifier = None; ident = r.owner }))
    (λ t h. to_ok r.owner.pos r.is_var t _ (own_record u (received_record (map_of u) r.is_var t)) h (λ q e. owner_object u g r.is_var t q e))

abbrev MaybeBound : Option BoundAs → Type 0
MaybeBound o = IfThere BoundOk o

owner_if_ok : (u : Around) → AroundOk u → (r : Option RawReceiver) → Has MaybeBound (owner_if u r)
owner_if_ok u g None = tt
owner_if_ok u g (Some r) = then_has BoundOk MaybeBound (owner_of u r) (λ b. sound (Some b)) (owner_ok u g r) (λ b h. h)

receiver_known : (u : Around) → AroundOk u → (x : Ident) (e : Entity) → EntityOk e → AroundOk (knows u x e)
receiver_known u g x e h = record { unit = g.unit; front = g.front; later = g.later; known = (h, g.known); own = g.own; shown = g.shown }

receiver_around : (u : Around) → AroundOk u → (r : Option RawReceiver) (b : Option (Option BoundAs)) → AroundOk (knows_receiver u r b)
receiver_around u g None b = g
receiver_around u g (Some r) (Some (Some b)) = receiver_known u g r.ident _ tt
receiver_around u g (Some r) (Some None) = receiver_known u g r.ident _ tt
receiver_around u g (Some r) None = receiver_known u g r.ident _ tt

-- ---- a heading

pub record HeadingOk (h : WrittenHeading) : Type 0 where
  pub name : is_named h.name ≡ true
  pub parameters : AreOkSections h.parameters.sections

pub record HeadOk (h : Head) : Type 0 where
  pub name : IsNamed h.name
  pub path : is_object h.path ≡ true
  pub bound : MaybeBound h.bound
  pub parameters : IfThere ParametersOk h.parameters
  pub inside : AllByRecursion KnownOk h.inside
  pub known : AllByRecursion KnownOk h.known

abbrev pub AreOkHeads : List Head → Type 0
AreOkHeads hs = AllByRecursion HeadOk hs

path_object : (o : Option (Option BoundAs)) (x : List ℕ) → IfThere MaybeBound o → IsNamed x → is_object (path_by o x) ≡ true
path_object None x h n = named_object x n
path_object (Some None) x h n = named_object x n
path_object (Some (Some b)) x h n = object_more (b.owner.object ++ codes ".") x (object_more b.owner.object (codes ".") h.owner refl) (object_bytes x (named_object x n))

forward_object : (b : Bool) (n : List ℕ) → is_object n ≡ true → is_object (forward_name b n) ≡ true
forward_object true n h = object_more n (codes "^") h refl
forward_object false n h = h

bound_ok : (o : Option (Option BoundAs)) → IfThere MaybeBound o → MaybeBound (bound_in o)
bound_ok None h = tt
bound_ok (Some b) h = h

as_ok : (o : Option ((Mark × Option BoundAs) × Parameters)) → IfThere (λ p. Unit {0} × ParametersOk p.1) o → IfThere ParametersOk (as_parameters o)
as_ok None h = tt
as_ok (Some p) h = h.1

pub head_ok : (u : Around) → AroundOk u → (h : WrittenHeading) (forward : Bool) → HeadingOk h → HeadOk (head_of u h forward)
head_ok u g h forward k =
    let m = marked u false h.name in
    let b = owner_if u h.receiver in
    let c = owner_if_ok u g h.receiver in
    let n = path_object b.node h.name.ident.name c k.name in
    let p = g.front (path_by b.node h.name.ident.name) n in
    let s = heading_parameters u h forward b in
    let t = parameters_ok (knows_receiver (inner u) h.receiver b.node) (receiver_around (inner u) (inner_around u g) h.receiver b.node) (forward_name forward (u.path ++ path_by b.node h.name.ident.name)) (forward_object forward (u.path ++ path_by b.node h.name.ident.name) p) h.parameters k.parameters in
    record {
      name = k.name;
      path = p;
      bound = bound_ok b.node c;
      parameters = as_ok (both (both m b) s.found).node (second_has ParametersOk (both m b) s.found (anew_has ParametersOk u h.name.ident.«pos» (parameters_in (knows_receiver (inner u) h.receiver b.node) (forward_name forward (u.path ++ path_by b.node h.name.ident.name)) h.parameters) t.found));
      inside = all_filtered (λ k. nat_lt u.scope k.scope) KnownOk s.known (all_from KnownOk (λ k. nat_lt u.scope k.scope ≡ true → KnownOk k) (λ k a e. a) s.known t.known);
      known = g.known;
    }

-- ---- headings in order

pub record HeadsOk (hs : Heads) : Type 0 where
  pub around : AroundOk hs.around
  pub before : AreOkHeads hs.before

as_entity : (b : Bool) (q : QName) (s : Signature) → EntityOk (entity_as b q s)
as_entity true q s = tt
as_entity false q s = tt

entity_ok : (u : Around) (h : Head) (o : Option Parameters) → EntityOk (head_entity u h o)
entity_ok u h None = tt
entity_ok u h (Some p) = as_entity h.forward (in_unit u h.path) p.signature

procedure_known : (u : Around) → AroundOk u → (h : Head) (b : Bool) → AroundOk (knows_procedure u h b)
procedure_known u g h true = g
procedure_known u g h false = record { unit = g.unit; front = g.front; later = g.later; known = (entity_ok u h h.parameters, g.known); own = g.own; shown = g.shown }

behind_known : (u : Around) → AroundOk u → (twice : Bool) (h : Head) → AroundOk (known_behind u twice h)
behind_known u g true h = g
behind_known u g false h = procedure_known u g h h.is_bound

declared_ok : (twice : Bool) (h : Head) → HeadOk h → (u : Around) → AroundOk u → HeadOk (declared_head twice h u)
declared_ok true h g u a = record { name = g.name; path = g.path; bound = g.bound; parameters = tt; inside = g.inside; known = a.known }
declared_ok false h g u a = record { name = g.name; path = g.path; bound = g.bound; parameters = g.parameters; inside = g.inside; known = a.known }

types_ok : (o : Option Parameters) → IfThere ParametersOk o → AreOk (types_of o)
types_ok None h = tt
types_ok (Some p) h = h.made

pub add_ok : (hs : Heads) → HeadsOk hs → (h : WrittenHeading) → HeadingOk h → (forward : Bool) → HeadsOk (add_heading hs h forward)
add_ok hs g h k forward =
    let d = head_of hs.around h forward in
    let e = head_ok hs.around g.around h forward k in
    let u = with_types hs.around (types_of d.parameters) in
    let t = name_twice u hs.before d in
    let v = behind_known u (typed_around hs.around (types_of d.parameters) (types_ok d.parameters e.parameters) g.around) t d in
    record { around = v; before = (declared_ok t d e (known_behind u t d) v, g.before) }

pub reversed_ok : {A : Type 0} (P : A → Type 0) (xs : List A) → AllByRecursion P xs → AllByRecursion P (reversed xs)
reversed_ok P [] h = tt
reversed_ok P (x ∷ xs) h = all_both P (reversed xs) (x ∷ []) (reversed_ok P xs h.1) (h.0, tt)

-- ---- what is bound

exported_whole : (m : Mark) → is_whole (exported_mark m) ≡ true
exported_whole mark.Full = refl
exported_whole mark.ReadOnly = refl
exported_whole mark.Hidden = refl

signature_ok : (o : Option Parameters) → IfThere ParametersOk o → signature.fits (signature_or_none (signature_if o))
signature_ok None h = (tt, tt)
signature_ok (Some p) h = (h.params, h.result)

method_ok : (h : Head) (b : BoundAs) → HeadOk h → MethodIsSpelled (new_method h b)
method_ok h b k = record { name = k.name; mark = exported_whole h.mark; signature_is = signature_ok h.parameters k.parameters }

record_with_method : (r : RecordDesc) (m : Method) → RecordIsSpelled r → MethodIsSpelled m → RecordIsSpelled (with_method r m)
record_with_method r m h k = record { base = h.base; fields = h.fields; methods = all_both MethodIsSpelled r.methods (m ∷ []) h.methods (k, tt) }

desc_changed : (m : Method) → MethodIsSpelled m → (d : Desc) → TypeNames d → TypeNames (change_desc (λ r. with_method r m) d)
desc_changed m k (desc.Const v) h = h
desc_changed m k (desc.Var a t) h = h
desc_changed m k (desc.Proc s) h = h
desc_changed m k (desc.Alias a t) h = h
desc_changed m k (desc.Array a n t) h = h
desc_changed m k (desc.OpenArray a t) h = h
desc_changed m k (desc.Pointer a t) h = h
desc_changed m k (desc.ProcType a s) h = h
desc_changed m k (desc.Record r) h = record_with_method r m h k

if_changed : (b : Bool) (m : Method) → MethodIsSpelled m → (t : TypedType) → TypeOk t → TypeOk (changed_if b (λ r. with_method r m) t)
if_changed true m k t h = (h.0, desc_changed m k t.desc h.1)
if_changed false m k t h = h

types_changed : (x : List ℕ) (m : Method) → MethodIsSpelled m → (ts : List TypedType) → AreOk ts → AreOk (change_type x (λ r. with_method r m) ts)
types_changed x m k [] h = tt
types_changed x m k (t ∷ ts) h = (if_changed (bytes_eq t.name x) m k t h.0, types_changed x m k ts h.1)

redefined_ok : (b : Bool) (s : Binding) (h : Head) (a : BoundAs) → AreOk s.own → AreOk (redefined b s h a).own
redefined_ok true s h a g = g
redefined_ok false s h a g = g

bind_ok : (b : Bool) (u : Around) (map : Map) (s : Binding) (h : Head) (a : BoundAs) (owner : QName) (m : Method) → AreOk s.own → AreOk (bind_method b u map s h a owner m).own
bind_ok true u map s h a owner m g = g
bind_ok false u map s h a owner m g = redefined_ok _ s h a g

by_ok : (u : Around) (map : Map) (s : Binding) (h : Head) (a : BoundAs) (o : Option Member) → HeadOk h → AreOk s.own → AreOk (bind_by u map s h a o).own
by_ok u map s h a None k g = types_changed a.owner.object (new_method h a) (method_ok h a k) s.own g
by_ok u map s h a (Some (AField owner f)) k g = g
by_ok u map s h a (Some (AMethod owner m)) k g = bind_ok _ u map s h a owner m g

one_ok : (u : Around) (s : Binding) (h : Head) (o : Option BoundAs) → HeadOk h → AreOk s.own → AreOk (bind_one u s h o).own
one_ok u s h None k g = g
one_ok u s h (Some a) k g = by_ok u (map_of (record u { own = s.own })) s h a (member (map_of (record u { own = s.own })) a.owner h.name) k g

all_ok : (u : Around) (s : Binding) (hs : List Head) → AreOkHeads hs → AreOk s.own → AreOk (bind_all u s hs).own
all_ok u s [] k g = g
all_ok u s (h ∷ hs) k g = all_ok u (bind_one u s h h.bound) hs k.1 (one_ok u s h h.bound k.0 g)

kept_heads : (test : Head → Bool) (hs : List Head) → AreOkHeads hs → AreOkHeads (filter test hs)
kept_heads test hs k = all_filtered test HeadOk hs (all_from HeadOk (λ h. test h ≡ true → HeadOk h) (λ h a e. a) hs k)

records_ok : (u : Around) (hs : List Head) → AreOkHeads hs → (s : Binding) (ts : List TypedType) → AreOk s.own → AreOk (bind_records u hs s ts).own
records_ok u hs k s [] g = g
records_ok u hs k s (t ∷ ts) g = records_ok u hs k (bind_all u s (filter (of_record t.name) hs)) ts (all_ok u s (filter (of_record t.name) hs) (kept_heads (of_record t.name) hs k) g)

pub bindings_ok : (u : Around) (hs : List Head) → AreOkHeads hs → AreOk u.own → AreOk (bindings u hs).own
bindings_ok u hs k g = records_ok u (counted hs) (kept_heads (counts hs) hs k) _ (reversed u.own) g
