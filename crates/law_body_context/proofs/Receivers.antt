-- What bound procedures are bound to, as it is known in their headings.
use Rattle.std.proofs.Common.{◌≡◌, refl, sym, ◌∙◌, subst, ℕ, Bool, true, false, List, [], ◌∷◌, Option, Some, None}
use Rattle.std.specs.Prelude.{◌&&◌}
use Rattle.std.specs.List.{AllByRecursion}
use Rattle.ob_tree.specs.declared.pos.Pos.{Pos}
use Rattle.ob_tree.specs.declared.names.QName.{QName}
use Rattle.ob_tree.specs.declared.decl.Receiver.{Receiver as RawReceiver}
use Rattle.ob_types.specs.declared.types.TypeRef.{TypeRef}
use Rattle.ob_types.specs.declared.desc.Desc.{Desc}
use Rattle.ob_types.specs.declared.desc.Receiver.{Receiver}
use Rattle.ob_types.specs.declared.desc.Receiver.TheVariants as receiver
use Rattle.ob_types.specs.declared.typed.TypedType.{TypedType}
use Rattle.ob_rules.specs.Judged.{sound}
use Rattle.ob_rules.specs.Shapes.{Map, record_of, pointed_record}
use Rattle.ob_rules.specs.Names.{Around, map_of, type_named}
use Rattle.ob_rules.specs.Types.{with_types, is_module_level}
use Rattle.ob_rules.specs.Headings.{WrittenHeading, Head, Heads, BoundAs, kind_of, received_record, is_own, if_own, own_record, bound_to, owner_of, owner_if, bound_in, head_of, name_twice, declared_head, knows_procedure, known_behind, types_of, add_heading}
use Rattle.ob_rules.specs.Declarations.{Written_procedure, headings_in_order}
use Rattle.law_methods_described.proofs.Nodes.{Has, then_has, any_then}
use Rattle.law_typing.specs.Makes.{IfThere}
use Rattle.law_body_context.proofs.Lists.{all_of, there_of}
use Rattle.law_body_context.proofs.Standing.{Lies, lies_front}
use Rattle.law_body_context.proofs.Headings.{known_own}

-- the record of a receiver of that kind and type
abbrev pub received_as : Map → Receiver → TypeRef → Option QName
received_as map receiver.Record t = record_of map t
received_as map receiver.Pointer t = pointed_record map t

as_received : (map : Map) (var : Bool) (t : TypeRef) → received_as map (kind_of var) t ≡ received_record map var t
as_received map true t = refl
as_received map false t = refl

if_is : (b : Bool) (p q : QName) → if_own b p ≡ Some q → Some p ≡ Some q
if_is true p q e = e
if_is false p q e = absurd cc

own_is : (u : Around) (o : Option QName) (q : QName) → own_record u o ≡ Some q → o ≡ Some q
own_is u None q e = absurd cc
own_is u (Some p) q e = if_is (is_own u p && is_module_level u) p q e

-- it is bound to that record
abbrev IsBoundIn : Map → BoundAs → Type 0
IsBoundIn map b = received_as map b.receiver b.of ≡ Some b.owner

bound_where : (u : Around) (at : Pos) (var : Bool) (t : TypeRef) (quiet : Bool) (o : Option QName) → own_record u (received_record (map_of u) var t) ≡ o → Has (IsBoundIn (map_of u)) (bound_to at var t quiet o)
bound_where u at var t quiet (Some q) e = as_received (map_of u) var t ∙ own_is u (received_record (map_of u) var t) q e
bound_where u at var t true None e = tt
bound_where u at var t false None e = tt

owner_where : (u : Around) (r : Option RawReceiver) → Has (IfThere (IsBoundIn (map_of u))) (owner_if u r)
owner_where u None = tt
owner_where u (Some r) =
    then_has (IsBoundIn (map_of u)) (IfThere (IsBoundIn (map_of u))) (owner_of u r) (λ b. sound (Some b))
    (any_then (IsBoundIn (map_of u)) (type_named u (record { qualifier = None; ident = r.owner })) _ (λ t. bound_where u r.owner.pos r.is_var t _ (own_record u (received_record (map_of u) r.is_var t)) refl))
    (λ b h. h)

in_bound : (P : BoundAs → Type 0) (o : Option (Option BoundAs)) → IfThere (IfThere P) o → IfThere P (bound_in o)
in_bound P None h = tt
in_bound P (Some b) h = h

same_bound : (twice : Bool) (h : Head) (u : Around) → (declared_head twice h u).bound ≡ h.bound
same_bound true h u = refl
same_bound false h u = refl

named_unit : (u : Around) (h : Head) (b : Bool) → ((knows_procedure u h b).unit ≡ u.unit) × ((knows_procedure u h b).shown ≡ u.shown)
named_unit u h true = (refl, refl)
named_unit u h false = (refl, refl)

known_unit : (u : Around) (twice : Bool) (h : Head) → ((known_behind u twice h).unit ≡ u.unit) × ((known_behind u twice h).shown ≡ u.shown)
known_unit u true h = (refl, refl)
known_unit u false h = named_unit u h h.is_bound

module _ (unit : List ℕ) (shown : QName → Option Desc) where
  -- where some of these types are known it is bound to its record
  pub record IsBoundAmong (own : List TypedType) (b : BoundAs) : Type 0 where
    pub w : Around
    pub unit_is : w.unit ≡ unit
    pub shown_is : w.shown ≡ shown
    pub lies : Lies w.own own
    pub is : IsBoundIn (map_of w) b

  abbrev AreBound : List TypedType → List Head → Type 0
  AreBound own hs = AllByRecursion (λ (h : Head). IfThere (IsBoundAmong own) h.bound) hs

  among_more : (own more : List TypedType) → Lies own more → (b : BoundAs) → IsBoundAmong own b → IsBoundAmong more b
  among_more own more f b h = record { w = h.w; unit_is = h.unit_is; shown_is = h.shown_is; lies = λ t i. f t (h.lies t i); is = h.is }

  head_bound : (u : Around) → u.unit ≡ unit → u.shown ≡ shown → (more : List TypedType) → Lies u.own more → (h : WrittenHeading) (forward : Bool) → IfThere (IsBoundAmong more) (head_of u h forward).bound
  head_bound u e f more g h forward =
      there_of (IsBoundIn (map_of u)) (IsBoundAmong more) (head_of u h forward).bound (λ b i. record { w = u; unit_is = e; shown_is = f; lies = g; is = i })
      (in_bound (IsBoundIn (map_of u)) (owner_if u h.receiver).node (owner_where u h.receiver))

  add_bound : (hs : Heads) → hs.around.unit ≡ unit → hs.around.shown ≡ shown → AreBound hs.around.own hs.before → (w : WrittenHeading) (forward : Bool) → AreBound (add_heading hs w forward).around.own (add_heading hs w forward).before
  add_bound hs e f b w forward =
      let d = head_of hs.around w forward in
      let u = with_types hs.around (types_of d.parameters) in
      let t = name_twice u hs.before d in
      let v = known_behind u t d in
      let g = lies_front (types_of d.parameters) hs.around.own in
      subst (λ own. AreBound own (declared_head t d v ∷ hs.before)) (sym (known_own u t d))
      (subst (IfThere (IsBoundAmong u.own)) (sym (same_bound t d v)) (head_bound hs.around e f u.own g w forward), all_of (λ (h : Head). IfThere (IsBoundAmong hs.around.own) h.bound) (λ (h : Head). IfThere (IsBoundAmong u.own) h.bound) hs.before (λ h. there_of (IsBoundAmong hs.around.own) (IsBoundAmong u.own) h.bound (among_more hs.around.own u.own g)) b)

  pub bound_in_order : (ps : List Written_procedure) (hs : Heads) → hs.around.unit ≡ unit → hs.around.shown ≡ shown → AreBound hs.around.own hs.before → AreBound (headings_in_order ps hs).around.own (headings_in_order ps hs).before
  bound_in_order [] hs e f b = b
  bound_in_order (p ∷ ps) hs e f b =
      let d = head_of hs.around p.heading p.forward in
      let u = with_types hs.around (types_of d.parameters) in
      let k = known_unit u (name_twice u hs.before d) d in
      bound_in_order ps (add_heading hs p.heading p.forward) (k.0 ∙ e) (k.1 ∙ f) (add_bound hs e f b p.heading p.forward)
