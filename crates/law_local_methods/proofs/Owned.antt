-- What headings are bound to is a record of the module at hand.
use Rattle.std.proofs.Common.{◌≡◌, refl, sym, ◌∙◌, subst, ℕ, Bool, true, false, not, List, [], ◌∷◌, Option, Some, None}
use Rattle.std.specs.Prelude.{◌&&◌, ◌==◌, bytes_eq}
use Rattle.std.specs.List.{AllByRecursion, list_any}
use Rattle.std.proofs.lemmas.Bool.{and_parts}
use Rattle.ob_tree.specs.declared.pos.Pos.{Pos}
use Rattle.ob_tree.specs.declared.names.QName.{QName}
use Rattle.ob_tree.specs.declared.decl.Receiver.{Receiver as RawReceiver}
use Rattle.ob_types.specs.declared.types.TypeRef.{TypeRef}
use Rattle.ob_rules.specs.Judged.{if_sound, sound}
use Rattle.ob_rules.specs.Shapes.{pointed}
use Rattle.ob_rules.specs.Names.{Around, map_of, type_named}
use Rattle.ob_rules.specs.Types.{is_module_level, with_types}
use Rattle.ob_rules.specs.Headings.{BoundAs, silent_base, is_own, if_own, own_record, received_record, bound_to, owner_of, owner_if, WrittenHeading, Head, Heads, bound_in, head_of, name_twice, declared_head, knows_procedure, known_behind, types_of, add_heading}
use Rattle.ob_rules.specs.Declarations.{Written_procedure, headings_in_order}
use Rattle.law_local_methods.specs.Laws.{IsOwned, HeadsAreOwned}

module _ (u : Around) where
  bound_owned : (at : Pos) (var : Bool) (t : TypeRef) (quiet : Bool) (o : Option QName) → ((q : QName) → o ≡ Some q → bytes_eq q.«module» u.unit ≡ true) → IsOwned u.unit (bound_to at var t quiet o).node
  bound_owned at var t quiet (Some q) h = h q refl
  bound_owned at var t true None h = tt
  bound_owned at var t false None h = tt

  if_owned : (b : Bool) (q r : QName) → (b ≡ true → bytes_eq q.«module» u.unit ≡ true) → if_own b q ≡ Some r → bytes_eq r.«module» u.unit ≡ true
  if_owned true q r h e = let i : q ≡ r = cc in subst (λ (q : QName). bytes_eq q.«module» u.unit ≡ true) i (h refl)
  if_owned false q r h e = absurd cc

  record_owned : (o : Option QName) (r : QName) → own_record u o ≡ Some r → bytes_eq r.«module» u.unit ≡ true
  record_owned None r e = absurd cc
  record_owned (Some q) r e =
      if_owned (is_own u q && is_module_level u) q r (λ h. (and_parts (bytes_eq q.«module» u.unit) (not (list_any (λ c. c == 47) q.object)) (and_parts (is_own u q) (is_module_level u) h).0).0) e

  owner_owned : (r : RawReceiver) → IsOwned u.unit (owner_of u r).node
  owner_owned r = go (type_named u (record { qualifier = None; ident = r.owner })).node
    where
      go : (o : Option TypeRef) → IsOwned u.unit (if_sound o (λ t. bound_to r.owner.pos r.is_var t (is_module_level u && silent_base (map_of u) r.is_var (pointed (map_of u) t)) (own_record u (received_record (map_of u) r.is_var t)))).node
      go None = tt
      go (Some t) = bound_owned r.owner.pos r.is_var t (is_module_level u && silent_base (map_of u) r.is_var (pointed (map_of u) t)) (own_record u (received_record (map_of u) r.is_var t)) (λ q e. record_owned (received_record (map_of u) r.is_var t) q e)

  made_owned : (o : Option BoundAs) → IsOwned u.unit o → IsOwned u.unit (bound_in (if_sound o (λ b. sound (Some b))).node)
  made_owned None h = tt
  made_owned (Some b) h = h

  receiver_owned : (r : Option RawReceiver) → IsOwned u.unit (bound_in (owner_if u r).node)
  receiver_owned None = tt
  receiver_owned (Some r) = made_owned (owner_of u r).node (owner_owned r)

  head_owned : (w : WrittenHeading) (forward : Bool) → IsOwned u.unit (head_of u w forward).bound
  head_owned w forward = receiver_owned w.receiver

declared_owned : (unit : List ℕ) (t : Bool) (d : Head) (u : Around) → IsOwned unit d.bound → IsOwned unit (declared_head t d u).bound
declared_owned unit true d u h = h
declared_owned unit false d u h = h

procedure_unit : (u : Around) (h : Head) (b : Bool) → (knows_procedure u h b).unit ≡ u.unit
procedure_unit u h true = refl
procedure_unit u h false = refl

behind_unit : (w : Around) (t : Bool) (x : Head) → (known_behind w t x).unit ≡ w.unit
behind_unit w true x = refl
behind_unit w false x = procedure_unit w x x.is_bound

heads_owned : (unit : List ℕ) (ps : List Written_procedure) (hs : Heads) → hs.around.unit ≡ unit → AllByRecursion (λ (h : Head). IsOwned unit h.bound) hs.before → AllByRecursion (λ (h : Head). IsOwned unit h.bound) (headings_in_order ps hs).before
heads_owned unit [] hs e h = h
heads_owned unit (p ∷ ps) hs e h =
    let d = head_of hs.around p.heading p.forward in
    let w = with_types hs.around (types_of d.parameters) in
    let t = name_twice w hs.before d in
    heads_owned unit ps (add_heading hs p.heading p.forward) (behind_unit w t d ∙ e) (declared_owned unit t d (known_behind w t d) (subst (λ n. IsOwned n d.bound) e (head_owned hs.around p.heading p.forward)), h)

pub heads_are_owned : HeadsAreOwned
heads_are_owned u ps = heads_owned u.unit ps (record { around = u; before = [] }) refl tt
