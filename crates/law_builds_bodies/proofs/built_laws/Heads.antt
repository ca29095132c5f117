-- Headings have the names of the text: their own, and those of receivers and parameters.
use Rattle.std.proofs.Common.{◌≡◌, ℕ, ◌+◌, Bool, true, false, List, [], ◌∷◌, ◌++◌, length, Option, Some, None}
use Rattle.std.specs.Prelude.{codes}
use Rattle.std.specs.List.{AllByRecursion}
use Rattle.std.specs.Option.{option_map}
use Rattle.ob_tree.specs.declared.ident.Ident.{Ident}
use Rattle.ob_tree.specs.declared.ident.Mark.{Mark}
use Rattle.ob_tree.specs.declared.ident.Mark.TheVariants as mark
use Rattle.ob_tree.specs.declared.decl.Receiver.{Receiver as RawReceiver}
use Rattle.ob_types.specs.declared.types.Mode.{Mode}
use Rattle.ob_types.specs.declared.desc.Receiver.{Receiver}
use Rattle.ob_types.specs.declared.desc.Receiver.TheVariants as receiver
use Rattle.ob_types.specs.declared.typed.TypedParameter.{TypedParameter}
use Rattle.ob_rules.specs.Judged.{sound, both, made, behind_quiet}
use Rattle.ob_rules.specs.Names.{Around}
use Rattle.ob_rules.specs.Types.{Typing, section_name, Parameters, WrittenSection, WrittenParameters, mode_of, declare_all, parameters_of, parameters_joined, with_made, with_result, sections, result_of, parameters_in, inner, marked, with_types}
use Rattle.ob_rules.specs.Headings.{WrittenHeading, Head, Heads, BoundAs, as_parameters, owner_if, path_by, forward_name, self_by, knows_receiver, heading_parameters, head_of, name_twice, declared_head, known_behind, types_of, add_heading}
use Rattle.ob_rules.specs.Declarations.{self_parameters}
use Rattle.law_methods_described.proofs.Nodes.{Has, any_then, then_has, both_have, first_has, second_has, quiet_has, anew_has}
use Rattle.law_image_code.specs.Fits.{IsNamed}
use Rattle.law_builds_bodies.specs.built_laws.Lettered.{is_lettered}
use Rattle.law_lists.proofs.Lists.{IfThere, all_both}

abbrev pub Lettered : List ℕ → Type 0
Lettered x = is_lettered x ≡ true

lettered_named : (x : List ℕ) → Lettered x → IsNamed x
lettered_named [] e = absurd cc
lettered_named (c ∷ x) e = tt

named_behind : (xs ys : List ℕ) → IsNamed ys → IsNamed (xs ++ ys)
named_behind [] ys h = h
named_behind (x ∷ xs) ys h = tt

path_named : (b : Option (Option BoundAs)) (x : List ℕ) → IsNamed x → IsNamed (path_by b x)
path_named (Some (Some b)) x h = named_behind (b.owner.object ++ codes ".") x h
path_named (Some None) x h = h
path_named None x h = h

-- ---- parameters

abbrev pub AreLettered : List TypedParameter → Type 0
AreLettered ps = AllByRecursion (λ (x : TypedParameter). Lettered x.name) ps

abbrev AreSections : List WrittenSection → Type 0
AreSections ss = AllByRecursion (λ (s : WrittenSection). AllByRecursion (λ (x : Ident). Lettered x.name) s.names) ss

abbrev N : Parameters → Type 0
N p = AreLettered p.parameters

names_of : (u : Around) (m : Mode) (t : Typing) (xs : List Ident) → AllByRecursion (λ (x : Ident). Lettered x.name) xs → N (parameters_of u m xs t)
names_of u m t [] h = tt
names_of u m t (x ∷ xs) h = (h.0, names_of u m t xs h.1)

sections_named : (ss : List WrittenSection) → AreSections ss → (u : Around) (name : List ℕ) (i : ℕ) → Has N (sections u name i ss).found
sections_named [] g u name i = tt
sections_named (s ∷ ss) g u name i =
    let t = s.node.typing u (section_name name i) mark.Hidden true in
    let m = mode_of s.is_var in
    let n = declare_all u m t.node s.names in
    let rest = sections (with_made n.around t.node) name (i + length s.names) ss in
    let mine = made (parameters_of u m s.names) t in
    then_has (λ (q : Parameters × Parameters). N q.0 × N q.1) N (both (behind_quiet n.notes mine) rest.found) (λ q. sound (parameters_joined q.0 q.1))
    (both_have N N (behind_quiet n.notes mine) rest.found (quiet_has N n.notes mine (any_then N t (λ x. sound (parameters_of u m s.names x)) (λ x. names_of u m x s.names g.0))) (sections_named ss g.1 (with_made n.around t.node) name (i + length s.names)))
    (λ q h. all_both (λ (x : TypedParameter). Lettered x.name) q.0.parameters q.1.parameters h.0 h.1)

parameters_named : (u : Around) (name : List ℕ) (p : WrittenParameters) → AreSections p.sections → Has N (parameters_in u name p).found
parameters_named u name p g =
    let s = sections u name 1 p.sections in
    let r = result_of (record u { known = s.known }) p.result in
    then_has (λ q. N q.0 × Unit {0}) N (both s.found r) (λ q. sound (with_result q.0 q.1)) (first_has N s.found r (sections_named p.sections g u name 1)) (λ q h. h.0)

-- ---- one heading

pub record GoodHeading (w : WrittenHeading) : Type 0 where
  pub name : Lettered w.name.ident.name
  pub receiver : IfThere (λ (r : RawReceiver). Lettered r.ident.name) w.receiver
  pub sections : AreSections w.parameters.sections

pub record GoodHead (h : Head) : Type 0 where
  pub path : IsNamed h.path
  pub parameters : IfThere N h.parameters
  pub self : IfThere (λ (x : Ident). Lettered x.name) h.self

as_named : (o : Option ((Mark × Option BoundAs) × Parameters)) → IfThere (λ p. Unit {0} × N p.1) o → IfThere N (as_parameters o)
as_named None h = tt
as_named (Some p) h = h.1

self_ident : (o : Option RawReceiver) → IfThere (λ (r : RawReceiver). Lettered r.ident.name) o → IfThere (λ (x : Ident). Lettered x.name) (option_map (λ r. r.ident) o)
self_ident None h = tt
self_ident (Some r) h = h

head_good : (u : Around) (w : WrittenHeading) (forward : Bool) → GoodHeading w → GoodHead (head_of u w forward)
head_good u w forward g =
    let m = marked u false w.name in
    let b = owner_if u w.receiver in
    let s = heading_parameters u w forward b in
    let name = forward_name forward (u.path ++ path_by b.node w.name.ident.name) in
    record {
      path = named_behind u.path (path_by b.node w.name.ident.name) (path_named b.node w.name.ident.name (lettered_named w.name.ident.name g.name));
      parameters = as_named (both (both m b) s.found).node (second_has N (both m b) s.found (anew_has N u w.name.ident.«pos» (parameters_in (knows_receiver (inner u) w.receiver b.node) name w.parameters) (parameters_named (knows_receiver (inner u) w.receiver b.node) name w.parameters g.sections)));
      self = self_ident w.receiver g.receiver;
    }

declared_good : (twice : Bool) (h : Head) (u : Around) → GoodHead h → GoodHead (declared_head twice h u)
declared_good true h u g = record { path = g.path; parameters = tt; self = g.self }
declared_good false h u g = record { path = g.path; parameters = g.parameters; self = g.self }

pub added_good : (hs : Heads) → AllByRecursion GoodHead hs.before → (w : WrittenHeading) (forward : Bool) → GoodHeading w → AllByRecursion GoodHead (add_heading hs w forward).before
added_good hs k w forward g =
    let h = head_of hs.around w forward in
    let u = with_types hs.around (types_of h.parameters) in
    let t = name_twice u hs.before h in
    (declared_good t h (known_behind u t h) (head_good hs.around w forward g), k)

-- ---- the receiver among the parameters

self_lettered : (x : Ident) (b : BoundAs) (k : Receiver) → Lettered x.name → Lettered (self_by x b k).name
self_lettered x b receiver.Record h = h
self_lettered x b receiver.Pointer h = h

pub self_good : (h : Head) (s : Option Ident) (b : Option BoundAs) → IfThere (λ (x : Ident). Lettered x.name) s → AreLettered (self_parameters h s b)
self_good h (Some x) (Some b) k = (self_lettered x b b.receiver k, tt)
self_good h (Some x) None k = tt
self_good h None b k = tt
