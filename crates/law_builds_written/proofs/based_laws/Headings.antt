-- Headings: no type that one makes is known by a name.
use Rattle.law_methods_described.proofs.Nodes.{anew_has}
use Rattle.std.proofs.Common.{◌≡◌, ℕ, ◌+◌, Bool, true, false, List, [], ◌∷◌, ◌++◌, length, Option, Some, None}
use Rattle.std.specs.Prelude.{nat_lt}
use Rattle.std.specs.List.{AllByRecursion}
use Rattle.ob_tree.specs.declared.names.QName.{QName}
use Rattle.ob_tree.specs.declared.ident.Ident.{Ident}
use Rattle.ob_tree.specs.declared.ident.Mark.{Mark}
use Rattle.ob_tree.specs.declared.ident.Mark.TheVariants as mark
use Rattle.ob_tree.specs.declared.decl.Receiver.{Receiver as RawReceiver}
use Rattle.ob_types.specs.declared.types.Mode.{Mode}
use Rattle.ob_types.specs.declared.types.TypeRef.{TypeRef}
use Rattle.ob_types.specs.declared.types.Signature.{Signature}
use Rattle.ob_types.specs.declared.desc.Desc.{Desc}
use Rattle.ob_types.specs.declared.typed.TypedType.{TypedType}
use Rattle.ob_rules.specs.declared.entity.Known.{Known}
use Rattle.ob_rules.specs.Judged.{paired}
use Rattle.ob_rules.specs.Names.{Around, in_unit, is_out}
use Rattle.ob_rules.specs.Types.{Typing, with_types, section_name, Parameters, WrittenSection, mode_of, parameter_as, knows, declare_all, with_made, sections, marked, inner, parameters_in}
use Rattle.ob_rules.specs.Headings.{WrittenHeading, Head, Heads, BoundAs, owner_if, knows_receiver, path_by, forward_name, as_parameters, heading_parameters, head_of, entity_as, head_entity, name_twice, declared_head, knows_procedure, known_behind, types_of, add_heading}
use Rattle.ob_rules.specs.Declarations.{Written_procedure, headings_in_order}
use Rattle.law_typing.specs.Makes.{IfThere}
use Rattle.law_body_context.specs.Knows.{Stands, EntityStands}
use Rattle.law_body_context.specs.Order.{IsOver}
use Rattle.law_body_context.proofs.Lists.{all_of, all_filtered}
use Rattle.law_body_context.proofs.Over.{AreSectionsOver, parameters_over}
use Rattle.law_acyclic.proofs.Firm.{AnyValue}
use Rattle.law_builds_written.proofs.based_laws.Order.{names_of, Text, known_over, over_back}

module _ (unit : List ℕ) (shown : QName → Option Desc) (out : is_out unit ≡ false) where
  abbrev S : List TypedType → TypeRef → Type 0
  S before t = Stands unit shown before t

  abbrev O : List TypedType → List TypedType → Type 0
  O before ts = AllByRecursion (IsOver (S before)) ts

  abbrev E : List TypedType → Known → Type 0
  E before k = EntityStands AnyValue unit shown before k.what

  abbrev T : List TypedType → Around → Type 0
  T before u = Text unit shown before u

  -- SECTIONS

  parameter_known : (before : List TypedType) (u : Around) (m : Mode) (x : Ident) (o : Option Typing) → EntityStands AnyValue unit shown before (parameter_as u m x o)
  parameter_known before u m x None = tt
  parameter_known before u m x (Some t) = tt

  all_known : (before : List TypedType) (xs : List Ident) (m : Mode) (o : Option Typing) (u : Around) → T before u → T before (declare_all u m o xs).around
  all_known before [] m o u t = t
  all_known before (x ∷ xs) m o u t = all_known before xs m o (knows u x (parameter_as u m x o)) (record { unit_is = t.unit_is; shown_is = t.shown_is; known = (parameter_known before u m x o, t.known) })

  made_known : (before : List TypedType) (u : Around) (o : Option Typing) → T before u → T before (with_made u o)
  made_known before u None t = t
  made_known before u (Some x) t = record { unit_is = t.unit_is; shown_is = t.shown_is; known = t.known }

  sections_known : (before : List TypedType) (ss : List WrittenSection) (u : Around) → T before u → (name : List ℕ) (i : ℕ) → AllByRecursion (E before) (sections u name i ss).known
  sections_known before [] u t name i = t.known
  sections_known before (s ∷ ss) u t name i =
      let j = s.node.typing u (section_name name i) mark.Hidden true in
      let n = declare_all u (mode_of s.is_var) j.node s.names in
      sections_known before ss (with_made n.around j.node) (made_known before n.around j.node (all_known before s.names (mode_of s.is_var) j.node u t)) name (i + length s.names)

  -- ONE HEADING

  receiver_known : (before : List TypedType) (u : Around) → T before u → (r : Option RawReceiver) (b : Option (Option BoundAs)) → T before (knows_receiver u r b)
  receiver_known before u t None b = t
  receiver_known before u t (Some r) None = record { unit_is = t.unit_is; shown_is = t.shown_is; known = (tt, t.known) }
  receiver_known before u t (Some r) (Some None) = record { unit_is = t.unit_is; shown_is = t.shown_is; known = (tt, t.known) }
  receiver_known before u t (Some r) (Some (Some b)) = record { unit_is = t.unit_is; shown_is = t.shown_is; known = (tt, t.known) }

  types_of_three : (P : List TypedType → Type 0) → P [] → (m : Option Mark) (b : Option (Option BoundAs)) (s : Option Parameters) → IfThere (λ p. P p.made) s → P (types_of (as_parameters (paired (paired m b) s)))
  types_of_three P e None b s h = e
  types_of_three P e (Some m) None s h = e
  types_of_three P e (Some m) (Some b) None h = e
  types_of_three P e (Some m) (Some b) (Some p) h = h

  -- it makes types over those before it, and no name of a type
  pub record HeadIs (before : List TypedType) (h : Head) : Type 0 where
    pub made : O before (types_of h.parameters)
    pub inside : AllByRecursion (E before) h.inside
    pub known : AllByRecursion (E before) h.known

  head_is : (before : List TypedType) (u : Around) → T before u → (w : WrittenHeading) (forward : Bool) → AreSectionsOver AnyValue unit shown out w.parameters.sections → HeadIs before (head_of u w forward)
  head_is before u t w forward g =
      let b = owner_if u w.receiver in
      let v = knows_receiver (inner u) w.receiver b.node in
      let name = forward_name forward (u.path ++ path_by b.node w.name.ident.name) in
      let s = heading_parameters u w forward b in
      let k : T before v = receiver_known before (inner u) (record { unit_is = t.unit_is; shown_is = t.shown_is; known = t.known }) w.receiver b.node in
      record {
        made = over_back unit shown out before (types_of (head_of u w forward).parameters) (types_of_three (λ ts. AllByRecursion (IsOver (S (names_of before))) ts) tt (marked u false w.name).node b.node s.found.node (anew_has (λ (p : Parameters). AllByRecursion (IsOver (S (names_of before))) p.made) u w.name.ident.«pos» (parameters_in v name w.parameters) (parameters_over AnyValue unit shown out (names_of before) v (known_over unit shown out before v k) name w.parameters g)));
        inside = all_filtered (E before) (λ k. nat_lt u.scope k.scope) s.known (all_of (E before) (λ k. nat_lt u.scope k.scope ≡ true → E before k) s.known (λ k h e. h) (sections_known before w.parameters.sections v k name 1));
        known = t.known;
      }

  -- HEADINGS IN THEIR ORDER

  entity_fine : (before : List TypedType) (forward : Bool) (q : QName) (s : Signature) → EntityStands AnyValue unit shown before (entity_as forward q s)
  entity_fine before true q s = tt
  entity_fine before false q s = tt

  head_fine : (before : List TypedType) (u : Around) (h : Head) (o : Option Parameters) → EntityStands AnyValue unit shown before (head_entity u h o)
  head_fine before u h None = tt
  head_fine before u h (Some p) = entity_fine before h.forward (in_unit u h.path) p.signature

  procedure_known : (before : List TypedType) (u : Around) → T before u → (h : Head) (b : Bool) → T before (knows_procedure u h b)
  procedure_known before u t h true = t
  procedure_known before u t h false = record { unit_is = t.unit_is; shown_is = t.shown_is; known = (head_fine before u h h.parameters, t.known) }

  behind_known : (before : List TypedType) (u : Around) → T before u → (twice : Bool) (h : Head) → T before (known_behind u twice h)
  behind_known before u t true h = t
  behind_known before u t false h = procedure_known before u t h h.is_bound

  declared_is : (before : List TypedType) (twice : Bool) (h : Head) (u : Around) → HeadIs before h → T before u → HeadIs before (declared_head twice h u)
  declared_is before true h u s t = record { made = tt; inside = s.inside; known = t.known }
  declared_is before false h u s t = record { made = s.made; inside = s.inside; known = t.known }

  pub record HeadsAre (before : List TypedType) (hs : Heads) : Type 0 where
    pub around : T before hs.around
    pub heads : AllByRecursion (HeadIs before) hs.before

  pub headings_are : (before : List TypedType) (ps : List Written_procedure) → AllByRecursion (λ (p : Written_procedure). AreSectionsOver AnyValue unit shown out p.heading.parameters.sections) ps → (hs : Heads) → HeadsAre before hs → HeadsAre before (headings_in_order ps hs)
  headings_are before [] g hs s = s
  headings_are before (p ∷ ps) g hs s =
      let d = head_of hs.around p.heading p.forward in
      let u = with_types hs.around (types_of d.parameters) in
      let twice = name_twice u hs.before d in
      let t : T before u = record { unit_is = s.around.unit_is; shown_is = s.around.shown_is; known = s.around.known } in
      let v = behind_known before u t twice d in
      headings_are before ps g.1 (add_heading hs p.heading p.forward) (record { around = v; heads = (declared_is before twice d (known_behind u twice d) (head_is before hs.around s.around p.heading p.forward g.0) v, s.heads) })
