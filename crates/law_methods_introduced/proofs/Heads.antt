-- Headings: each that is not bound has a name of the text, and each that is, is bound to a record of the module.
use Rattle.std.proofs.Common.{◌≡◌, ◌≢◌, ◌⊎◌, inl, inr, ℕ, Bool, true, false, List, [], ◌∷◌, ◌++◌, Option, Some, None, refl, sym, ap, subst, ◌∙◌}
use Rattle.std.specs.Prelude.{bytes_eq, cond, ◌&&◌, ◌==◌, not, is_some}
use Rattle.std.specs.List.{AllByRecursion, find, list_any}
use Rattle.std.proofs.lemmas.Bool.{and_parts}
use Rattle.std.proofs.lemmas.Slice.Eq.{bytes_eq-Decides}
use Rattle.ob_tree.specs.declared.pos.Pos.{Pos}
use Rattle.ob_tree.specs.declared.names.QName.{QName}
use Rattle.ob_tree.specs.declared.ident.Mark.{Mark}
use Rattle.ob_tree.specs.declared.ident.Mark.TheVariants as mark
use Rattle.ob_tree.specs.declared.decl.Receiver.{Receiver as RawReceiver}
use Rattle.ob_types.specs.declared.types.TypeRef.{TypeRef}
use Rattle.ob_types.specs.declared.types.TypeRef.TheVariants as ref
use Rattle.ob_types.specs.declared.desc.Desc.{Desc}
use Rattle.ob_types.specs.declared.desc.Desc.TheVariants as desc
use Rattle.ob_types.specs.declared.desc.RecordDesc.{RecordDesc}
use Rattle.ob_types.specs.declared.typed.TypedType.{TypedType}
use Rattle.ob_types.specs.Tests.{target, shape_at}
use Rattle.ob_format.specs.Names.{is_identifier}
use Rattle.ob_rules.specs.Judged.{sound}
use Rattle.ob_rules.specs.Shapes.{Map, record_at, record_if, pointed, same_name}
use Rattle.ob_rules.specs.Names.{Around, map_of, own_desc, type_desc, out_string, type_named}
use Rattle.ob_rules.specs.Types.{is_module_level, mark_of}
use Rattle.ob_rules.specs.Headings.{is_own, if_own, own_record, received_record, silent_base, BoundAs, bound_to, owner_of, owner_if, path_by, bound_in, mark_or_hidden, WrittenHeading, Head, head_of}
use Rattle.law_names_distinct.specs.Distinct.{AreDistinct}
use Rattle.law_methods_described.proofs.Nodes.{Has, any_then, then_has}
use Rattle.law_methods_introduced.proofs.Binding.{desc_in, HasRecord}
use Rattle.law_lists.proofs.Lists.{IfThere}

-- ---- a record of the module by its name, among more types

distinct_back : (ts us : List TypedType) → AreDistinct (λ t. t.name) (ts ++ us) → AreDistinct (λ t. t.name) us
distinct_back [] us d = d
distinct_back (t ∷ ts) us d = distinct_back ts us d.1

not_there : (t : TypedType) (ts us : List TypedType) → AllByRecursion (λ y. y.name ≢ t.name) (ts ++ us) → (d : Desc) → desc_in us t.name ≡ Some d → ⊥
not_there t (s ∷ ts) us h d e = not_there t ts us h.1 d e
not_there t [] [] h d e = absurd cc
not_there t [] (s ∷ us) h d e = go (bytes_eq s.name t.name) refl e (not_there t [] us h.1 d)
  where
    go : (b : Bool) → bytes_eq s.name t.name ≡ b → own_desc (cond b (Some s) (find (λ x. bytes_eq x.name t.name) us)) ≡ Some d → (desc_in us t.name ≡ Some d → ⊥) → ⊥
    go true i e k = h.0 ((bytes_eq-Decides s.name t.name).0 i)
    go false i e k = k e

pub found_more : (more ts : List TypedType) → AreDistinct (λ t. t.name) (more ++ ts) → (x : List ℕ) (d : Desc) → desc_in ts x ≡ Some d → desc_in (more ++ ts) x ≡ Some d
found_more [] ts h x d e = e
found_more (t ∷ more) ts h x d e = go (bytes_eq t.name x) refl (found_more more ts h.1 x d e)
  where
    go : (b : Bool) → bytes_eq t.name x ≡ b → desc_in (more ++ ts) x ≡ Some d → own_desc (cond (bytes_eq t.name x) (Some t) (find (λ t. bytes_eq t.name x) (more ++ ts))) ≡ Some d
    go true i k = absurd (not_there t more ts h.0 d (subst (λ y. desc_in ts y ≡ Some d) (sym ((bytes_eq-Decides t.name x).0 i)) e))
    go false i k = ap (λ b. own_desc (cond b (Some t) (find (λ t. bytes_eq t.name x) (more ++ ts)))) i ∙ k

pub record_more : (more ts : List TypedType) → AreDistinct (λ t. t.name) (more ++ ts) → (x : List ℕ) → HasRecord ts x → HasRecord (more ++ ts) x
record_more more ts h x r = record { r = r.r; is = found_more more ts h x (desc.Record r.r) r.is }

-- ---- receivers

-- a record of the module, that is known
abbrev pub IsOwner : List ℕ → List TypedType → BoundAs → Type 0
IsOwner unit own b = (bytes_eq b.owner.«module» unit ≡ true) × HasRecord own b.owner.object

-- what a type is found to be is a record of the map
record_found : (map : Map) (t : TypeRef) (q : QName) → record_at t (shape_at map t) ≡ Some q → (r : RecordDesc) × (map q ≡ Some (desc.Record r))
record_found map (ref.Basic b) q e = absurd cc
record_found map (ref.Named p) q e = go (map p) refl e
  where
    go : (o : Option Desc) → map p ≡ o → record_at (ref.Named p) o ≡ Some q → (r : RecordDesc) × (map q ≡ Some (desc.Record r))
    go None i e = absurd cc
    go (Some (desc.Record r)) i e = let same : p ≡ q = cc in (r, subst (λ x. map x ≡ Some (desc.Record r)) same i)
    go (Some (desc.Const v)) i e = absurd cc
    go (Some (desc.Var m t)) i e = absurd cc
    go (Some (desc.Proc s)) i e = absurd cc
    go (Some (desc.Alias m t)) i e = absurd cc
    go (Some (desc.Array m n t)) i e = absurd cc
    go (Some (desc.OpenArray m t)) i e = absurd cc
    go (Some (desc.Pointer m t)) i e = absurd cc
    go (Some (desc.ProcType m s)) i e = absurd cc

if_found : (map : Map) (o : Option TypeRef) (q : QName) → record_if map o ≡ Some q → (r : RecordDesc) × (map q ≡ Some (desc.Record r))
if_found map None q e = absurd cc
if_found map (Some t) q e = record_found map (target map 201 t) q e

received_found : (map : Map) (var : Bool) (t : TypeRef) (q : QName) → received_record map var t ≡ Some q → (r : RecordDesc) × (map q ≡ Some (desc.Record r))
received_found map true t q e = record_found map (target map 201 t) q e
received_found map false t q e = if_found map (pointed map t) q e

at_unit : (u : Around) (q : QName) → bytes_eq q.«module» u.unit ≡ true → map_of u q ≡ desc_in u.own q.object
at_unit u q e = ap (λ b. type_desc b (same_name q out_string) u q) e

-- what a record of the module is
abbrev IsRecordOf : Around → QName → Type 0
IsRecordOf u q = (bytes_eq q.«module» u.unit ≡ true) × HasRecord u.own q.object

own_found : (u : Around) (o : Option QName) → ((q : QName) → o ≡ Some q → (r : RecordDesc) × (map_of u q ≡ Some (desc.Record r))) → IfThere (IsRecordOf u) (own_record u o)
own_found u None f = tt
own_found u (Some q) f = go (is_own u q && is_module_level u) refl
  where
    go : (b : Bool) → is_own u q && is_module_level u ≡ b → IfThere (IsRecordOf u) (if_own b q)
    go false e = tt
    go true e =
        let same : bytes_eq q.«module» u.unit ≡ true = (and_parts (bytes_eq q.«module» u.unit) (not (list_any (λ c. c == 47) q.object)) (and_parts (is_own u q) (is_module_level u) e).0).0 in
        let r = f q refl in
        (same, record { r = r.0; is = sym (at_unit u q same) ∙ r.1 })

bound_owner : (u : Around) (at : Pos) (var : Bool) (t : TypeRef) (quiet : Bool) (o : Option QName) → IfThere (IsRecordOf u) o → Has (IsOwner u.unit u.own) (bound_to at var t quiet o)
bound_owner u at var t quiet (Some q) h = h
bound_owner u at var t true None h = tt
bound_owner u at var t false None h = tt

owner_found : (u : Around) (r : RawReceiver) → Has (IsOwner u.unit u.own) (owner_of u r)
owner_found u r =
    any_then (IsOwner u.unit u.own) (type_named u (record { qualifier = None; ident = r.owner })) (λ t. bound_to r.owner.pos r.is_var t (is_module_level u && silent_base (map_of u) r.is_var (pointed (map_of u) t)) (own_record u (received_record (map_of u) r.is_var t)))
    (λ t. bound_owner u r.owner.pos r.is_var t _ (own_record u (received_record (map_of u) r.is_var t)) (own_found u (received_record (map_of u) r.is_var t) (λ q e. received_found (map_of u) r.is_var t q e)))

-- a bound procedure has a receiver, whose record is known
abbrev BoundBy : List ℕ → List TypedType → Bool → Option BoundAs → Type 0
BoundBy unit own is_bound None = Unit {0}
BoundBy unit own is_bound (Some b) = (is_bound ≡ true) × IsOwner unit own b

owner_bound : (u : Around) (r : Option RawReceiver) → Has (BoundBy u.unit u.own (is_some r)) (owner_if u r)
owner_bound u None = tt
owner_bound u (Some r) = then_has (IsOwner u.unit u.own) (BoundBy u.unit u.own true) (owner_of u r) (λ b. sound (Some b)) (owner_found u r) (λ b h. (refl, h))

-- ---- a heading

-- named as the text names it, or bound
abbrev pub IsHeaded : List ℕ → List TypedType → Head → Type 0
IsHeaded unit own h = (h.bound ≡ None × (is_identifier h.path ≡ true)) ⊎ ((b : BoundAs) × (h.bound ≡ Some b × ((h.is_bound ≡ true) × IsOwner unit own b)))

pub headed : (u : Around) → u.path ≡ [] → (w : WrittenHeading) → is_identifier w.name.ident.name ≡ true → (forward : Bool) → IsHeaded u.unit u.own (head_of u w forward)
headed u level w named forward = go (owner_if u w.receiver).node refl (owner_bound u w.receiver)
  where
    path_is : (n : Option (Option BoundAs)) → (owner_if u w.receiver).node ≡ n → (head_of u w forward).path ≡ path_by n w.name.ident.name
    path_is n e = ap (λ p. p ++ path_by (owner_if u w.receiver).node w.name.ident.name) level ∙ ap (λ k. path_by k w.name.ident.name) e

    go : (n : Option (Option BoundAs)) → (owner_if u w.receiver).node ≡ n → IfThere (BoundBy u.unit u.own (is_some w.receiver)) n → IsHeaded u.unit u.own (head_of u w forward)
    go None e b = inl (ap bound_in e, ap is_identifier (path_is None e) ∙ named)
    go (Some None) e b = inl (ap bound_in e, ap is_identifier (path_is (Some None) e) ∙ named)
    go (Some (Some k)) e b = inr (k, (ap bound_in e, b))

pub headed_more : (unit : List ℕ) (more own : List TypedType) → AreDistinct (λ t. t.name) (more ++ own) → (h : Head) → IsHeaded unit own h → IsHeaded unit (more ++ own) h
headed_more unit more own d h (inl k) = inl k
headed_more unit more own d h (inr k) = inr (k.0, (k.1.0, (k.1.1.0, (k.1.1.1.0, record_more more own d k.0.owner.object k.1.1.1.1))))

-- below module level nothing is exported
marks_hidden : (at : Pos) (m : Mark) → mark_or_hidden (mark_of false false at m).node ≡ mark.Hidden
marks_hidden at mark.Full = refl
marks_hidden at mark.ReadOnly = refl
marks_hidden at mark.Hidden = refl

pub head_hidden : (u : Around) → is_module_level u ≡ false → (w : WrittenHeading) (forward : Bool) → (head_of u w forward).mark ≡ mark.Hidden
head_hidden u level w forward = ap (λ b. mark_or_hidden (mark_of b false w.name.mark_pos w.name.mark).node) level ∙ marks_hidden w.name.mark_pos w.name.mark

-- nor is anything bound
no_owner : (u : Around) (q : QName) (b : Bool) → b ≡ false → is_own u q && b ≡ false
no_owner u q b e = ap (λ c. is_own u q && c) e ∙ and_false (is_own u q)
  where
    and_false : (a : Bool) → a && false ≡ false
    and_false true = refl
    and_false false = refl

own_none : (u : Around) → is_module_level u ≡ false → (o : Option QName) → own_record u o ≡ None
own_none u level None = refl
own_none u level (Some q) = ap (λ b. if_own b q) (no_owner u q (is_module_level u) level)

unbound : (at : Pos) (var : Bool) (t : TypeRef) (quiet : Bool) (o : Option QName) → o ≡ None → Has (λ (b : BoundAs). ⊥) (bound_to at var t quiet o)
unbound at var t quiet (Some q) e = absurd cc
unbound at var t true None e = tt
unbound at var t false None e = tt

owner_none : (u : Around) → is_module_level u ≡ false → (r : RawReceiver) → Has (λ (b : BoundAs). ⊥) (owner_of u r)
owner_none u level r =
    any_then (λ (b : BoundAs). ⊥) (type_named u (record { qualifier = None; ident = r.owner })) (λ t. bound_to r.owner.pos r.is_var t (is_module_level u && silent_base (map_of u) r.is_var (pointed (map_of u) t)) (own_record u (received_record (map_of u) r.is_var t)))
    (λ t. unbound r.owner.pos r.is_var t _ (own_record u (received_record (map_of u) r.is_var t)) (own_none u level (received_record (map_of u) r.is_var t)))

free_if : (u : Around) → is_module_level u ≡ false → (r : Option RawReceiver) → bound_in (owner_if u r).node ≡ None
free_if u level None = refl
free_if u level (Some r) = go (owner_if u (Some r)).node (then_has (λ (b : BoundAs). ⊥) (λ (o : Option BoundAs). ⊥) (owner_of u r) (λ b. sound (Some b)) (owner_none u level r) (λ b h. absurd h))
  where
    go : (o : Option (Option BoundAs)) → IfThere (λ (o : Option BoundAs). ⊥) o → bound_in o ≡ None
    go None h = refl
    go (Some b) h = absurd h

pub head_free : (u : Around) → is_module_level u ≡ false → (w : WrittenHeading) (forward : Bool) → (head_of u w forward).bound ≡ None
head_free u level w forward = free_if u level w.receiver
