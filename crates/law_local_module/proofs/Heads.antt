-- The headings of a block that breaks no rule.
use Rattle.std.proofs.Common.{◌≡◌, refl, sym, ◌∙◌, subst, ℕ, Bool, true, false, List, [], ◌∷◌, ◌++◌, Option, Some, None, append_assoc, append-nil}
use Rattle.std.specs.Prelude.{is_some, nat_lt}
use Rattle.std.specs.List.{AllByRecursion}
use Rattle.std.proofs.lemmas.Bool.{false≢true}
use Rattle.ob_tree.specs.declared.ident.Ident.{Ident}
use Rattle.ob_tree.specs.declared.decl.Receiver.{Receiver as RawReceiver}
use Rattle.ob_tree.specs.declared.ident.Mark.TheVariants as mark
use Rattle.ob_types.specs.declared.types.Mode.{Mode}
use Rattle.ob_types.specs.declared.desc.Receiver.{Receiver}
use Rattle.ob_types.specs.declared.desc.Receiver.TheVariants as receiver
use Rattle.ob_types.specs.declared.types.Signature.{Signature}
use Rattle.ob_tree.specs.declared.names.QName.{QName}
use Rattle.ob_rules.specs.declared.entity.Entity.{Entity}
use Rattle.ob_rules.specs.declared.entity.Entity.TheVariants as entity
use Rattle.ob_rules.specs.declared.entity.Known.{Known}
use Rattle.ob_rules.specs.declared.entity.Bound.{Bound}
use Rattle.ob_rules.specs.Judged.{joined}
use Rattle.ob_rules.specs.Names.{Around, in_unit}
use Rattle.ob_rules.specs.Types.{Typing, Parameters, WrittenSection, WrittenParameters, mode_of, parameter_as, knows, declare_all, with_made, sections, section_name, parameters_in, inner, marked, with_types}
use Rattle.ob_rules.specs.Headings.{BoundAs, self_of, knows_receiver, owner_if, WrittenHeading, Head, Heads, path_by, forward_name, heading_parameters, head_of, entity_as, head_entity, name_twice, declared_head, knows_procedure, known_behind, types_of, add_heading, reversed}
use Rattle.ob_rules.specs.Declarations.{Written_procedure, headings_in_order, around_body, procedure_judged, procedures_judged, closing_judged}
use Rattle.law_names_procedures.proofs.Judges.{Has, has_more}
use Rattle.law_names_procedures.proofs.Knowing.{IsKnown, AreKnown, filter_has}
use Rattle.law_names_procedures.proofs.Points.{Points}
use Rattle.law_names_procedures.proofs.Typings.{AreWellSections}
use Rattle.law_names_procedures.proofs.Apart.{IsPlain as IsPlainName}
use Rattle.law_names_procedures.proofs.Headings.{AreBased, more_based, known_based, IsHead, head_good}
use Rattle.law_names_procedures.proofs.Sequences.{types_pointed, not_twice}
use Rattle.law_local_nodes.specs.Quiet.{IsNamed, AreNamed}
use Rattle.law_local_module.proofs.Steady.{Names}
use Rattle.std.specs.Prelude.{◌+◌, length}
use Rattle.law_lists.proofs.Lists.{all_both, back_empty, front_empty}

-- ---- what is known inside a heading is known under its own name

as_named : (unit : List ℕ) (u : Around) (m : Mode) (x : Ident) (o : Option Typing) → IsNamed unit x.name (parameter_as u m x o)
as_named unit u m x None = tt
as_named unit u m x (Some t) = (refl, tt)

all_named : (u : Around) (m : Mode) (o : Option Typing) (xs : List Ident) → Names u → Names (declare_all u m o xs).around
all_named u m o [] n = n
all_named u m o (x ∷ xs) n = all_named (knows u x (parameter_as u m x o)) m o xs (as_named u.unit u m x o, n)

all_unit : (u : Around) (m : Mode) (o : Option Typing) (xs : List Ident) → (declare_all u m o xs).around.unit ≡ u.unit
all_unit u m o [] = refl
all_unit u m o (x ∷ xs) = all_unit (knows u x (parameter_as u m x o)) m o xs

made_named : (u : Around) (o : Option Typing) → Names u → Names (with_made u o)
made_named u None n = n
made_named u (Some t) n = n

made_unit : (u : Around) (o : Option Typing) → (with_made u o).unit ≡ u.unit
made_unit u None = refl
made_unit u (Some t) = refl

sections_named : (name : List ℕ) (i : ℕ) (ss : List WrittenSection) (u : Around) → Names u → AreNamed u.unit (sections u name i ss).known
sections_named name i [] u n = n
sections_named name i (s ∷ ss) u n =
    let t = s.node.typing u (section_name name i) mark.Hidden true in
    let a = (declare_all u (mode_of s.is_var) t.node s.names).around in
    let w = with_made a t.node in
    subst (λ m. AreNamed m (sections w name (i + length s.names) ss).known) (made_unit a t.node ∙ all_unit u (mode_of s.is_var) t.node s.names)
    (sections_named name (i + length s.names) ss w (made_named a t.node (all_named u (mode_of s.is_var) t.node s.names n)))

self_named : (unit : List ℕ) (x : Ident) (b : BoundAs) (r : Receiver) → IsNamed unit x.name (entity.Variable (self_of x r) b.of)
self_named unit x b receiver.Record = (refl, tt)
self_named unit x b receiver.Pointer = (refl, tt)

receiver_named : (u : Around) (r : Option RawReceiver) (b : Option (Option BoundAs)) → Names u → Names (knows_receiver u r b)
receiver_named u None b n = n
receiver_named u (Some r) (Some (Some b)) n = (self_named u.unit r.ident b b.receiver, n)
receiver_named u (Some r) (Some None) n = (tt, n)
receiver_named u (Some r) None n = (tt, n)

receiver_unit : (u : Around) (r : Option RawReceiver) (b : Option (Option BoundAs)) → (knows_receiver u r b).unit ≡ u.unit
receiver_unit u None b = refl
receiver_unit u (Some r) (Some (Some b)) = refl
receiver_unit u (Some r) (Some None) = refl
receiver_unit u (Some r) None = refl

inside_named : (u : Around) (h : WrittenHeading) (forward : Bool) → Names u → AreNamed u.unit (head_of u h forward).inside
inside_named u h forward n =
    let b = owner_if u h.receiver in
    let v = knows_receiver (inner u) h.receiver b.node in
    let name = forward_name forward (u.path ++ path_by b.node h.name.ident.name) in
    let s = heading_parameters u h forward b in
    filter_has (λ k. IsNamed u.unit k.name k.what) (λ k. nat_lt u.scope k.scope) s.known
    (subst (λ m. AreNamed m s.known) (receiver_unit (inner u) h.receiver b.node) (sections_named name 1 h.parameters.sections v (receiver_named (inner u) h.receiver b.node n)))

-- ---- headings in order

pub record HeadsAre (unit : List ℕ) (hs : Heads) : Type 0 where
  pub unit_is : hs.around.unit ≡ unit
  pub known : AreKnown hs.around.known
  pub named : AreNamed unit hs.around.known
  pub based : AreBased hs.around
  pub bound : AllByRecursion (λ (b : Bound). is_some b.signature ≡ true) hs.around.bound
  pub guards : hs.around.guards ≡ []

pub record HeadOk (unit : List ℕ) (h : Head) : Type 0 where
  pub quiet : h.notes.broken ≡ []
  pub parameters : Has (λ p. Unit {0}) h.parameters
  pub bound : is_some h.bound ≡ h.is_bound
  pub known : AreKnown (h.inside ++ h.known)
  pub named : AreNamed unit (h.inside ++ h.known)

pub record GoodHeading (p : Written_procedure) : Type 0 where
  pub well : AreWellSections p.heading.parameters.sections
  pub plain : IsPlainName p.heading.name.ident.name

as_known : (f : Bool) (q : QName) (s : Signature) → IsKnown (entity_as f q s)
as_known true q s = tt
as_known false q s = tt

entity_known : (u : Around) (d : Head) (o : Option Parameters) → Has (λ p. Unit {0}) o → IsKnown (head_entity u d o)
entity_known u d None h = absurd h
entity_known u d (Some p) h = as_known d.forward (in_unit u d.path) p.signature

as_named_too : (unit x : List ℕ) (f : Bool) (q : QName) (s : Signature) → IsNamed unit x (entity_as f q s)
as_named_too unit x true q s = tt
as_named_too unit x false q s = tt

entity_named : (unit : List ℕ) (u : Around) (d : Head) (o : Option Parameters) → IsNamed unit d.name (head_entity u d o)
entity_named unit u d None = tt
entity_named unit u d (Some p) = as_named_too unit d.name d.forward (in_unit u d.path) p.signature

head_notes : (U : Around) (p : Written_procedure) (h : Head) (f : Bool) → (procedure_judged U p h f).notes.broken ≡ [] → h.notes.broken ≡ []
head_notes U p h true e = e
head_notes U p h false e = front_empty h.notes.broken (joined (closing_judged h.name p.closing) (p.inside (around_body U h)).notes).broken e

module _ (unit : List ℕ) (hs : Heads) (k : HeadsAre unit hs) (w : WrittenHeading) (forward : Bool) where
  abbrev d : Head
  d = head_of hs.around w forward

  abbrev v : Around
  v = with_types hs.around (types_of d.parameters)

  module _ (i : IsHead hs.around d) (quiet : d.notes.broken ≡ []) where
    has : Has (λ p. Unit {0}) d.parameters
    has = has_more (λ p. Points hs.around p.made) (λ p. Unit {0}) d.parameters (λ p h. tt) i.parameters

    based : AreBased v
    based = more_based hs.around (types_of d.parameters) (types_pointed hs.around d.parameters i.parameters) k.based

    by_bound : (b : Bool) (before : List Head) → HeadsAre unit (record { around = knows_procedure v d b; before = before })
    by_bound true before = record { unit_is = k.unit_is; known = k.known; named = k.named; based = based; bound = k.bound; guards = k.guards }
    by_bound false before = record {
      unit_is = k.unit_is;
      known = (entity_known v d d.parameters has, k.known);
      named = (entity_named unit v d d.parameters, k.named);
      based = known_based v (record { name = d.name; scope = v.scope; what = head_entity v d d.parameters } ∷ v.known) based;
      bound = k.bound;
      guards = k.guards;
    }

    inside : AreNamed unit d.inside
    inside = subst (λ m. AreNamed m d.inside) k.unit_is (inside_named hs.around w forward (subst (λ m. AreNamed m hs.around.known) (sym k.unit_is) k.named))

    pub next_are : (t : Bool) → t ≡ false → HeadsAre unit (record { around = known_behind v t d; before = declared_head t d (known_behind v t d) ∷ hs.before }) × HeadOk unit (declared_head t d (known_behind v t d))
    next_are true e = absurd (false≢true (sym e))
    next_are false e =
        let next = by_bound d.is_bound (declared_head false d (known_behind v false d) ∷ hs.before) in (
          next,
          record {
            quiet = quiet;
            parameters = has;
            bound = i.bound;
            known = all_both (λ k. IsKnown k.what) d.inside (known_behind v false d).known i.inside next.known;
            named = all_both (λ k. IsNamed unit k.name k.what) d.inside (known_behind v false d).known inside next.named;
          },
        )

-- the headings of procedures, in the order of the text
unfoldable pub heads_of : List Written_procedure → Heads → List Head
heads_of [] hs = []
heads_of (p ∷ ps) hs =
    let d = head_of hs.around p.heading p.forward in
    let v = with_types hs.around (types_of d.parameters) in
    let t = name_twice v hs.before d in
    declared_head t d (known_behind v t d) ∷ heads_of ps (add_heading hs p.heading p.forward)

pub heads_are : (ps : List Written_procedure) (hs : Heads) → reversed (headings_in_order ps hs).before ≡ reversed hs.before ++ heads_of ps hs
unfolding heads_of
heads_are [] hs = sym (append-nil (reversed hs.before))
heads_are (p ∷ ps) hs =
    let next = add_heading hs p.heading p.forward in
    let d = head_of hs.around p.heading p.forward in
    let v = with_types hs.around (types_of d.parameters) in
    let t = name_twice v hs.before d in
    heads_are ps next ∙ append_assoc (reversed hs.before) (declared_head t d (known_behind v t d) ∷ []) (heads_of ps next)

pub heads_are_ok : (unit : List ℕ) (U : Around) (ps : List Written_procedure) → AllByRecursion GoodHeading ps → (hs : Heads) → HeadsAre unit hs → (procedures_judged U ps (heads_of ps hs)).notes.broken ≡ [] → HeadsAre unit (headings_in_order ps hs) × AllByRecursion (HeadOk unit) (heads_of ps hs)
unfolding heads_of
heads_are_ok unit U [] g hs k e = (k, tt)
heads_are_ok unit U (p ∷ ps) g hs k e =
    let d = head_of hs.around p.heading p.forward in
    let v = with_types hs.around (types_of d.parameters) in
    let t = name_twice v hs.before d in
    let h = declared_head t d (known_behind v t d) in
    let next : Heads = record { around = known_behind v t d; before = h ∷ hs.before } in
    let mine = procedure_judged U p h p.forward in
    let rest = procedures_judged U ps (heads_of ps next) in
    let n = not_twice t d (known_behind v t d) (head_notes U p h p.forward (front_empty mine.notes.broken rest.notes.broken e)) in
    let i = head_good hs.around p.heading p.forward g.0.well g.0.plain k.known (λ l. k.based) n.1 in
    let one = next_are unit hs k p.heading p.forward i n.1 t n.0 in
    let more = heads_are_ok unit U ps g.1 next one.0 (back_empty mine.notes.broken rest.notes.broken e) in
    (more.0, (one.1, more.1))
