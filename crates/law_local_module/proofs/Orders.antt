-- What declarations and headings in their order leave for later is among the names.
use Rattle.ob_rules.specs.declared.notes.Later.{Later}
use Rattle.std.proofs.Common.{◌≡◌, refl, sym, ap, ◌∙◌, subst, ℕ, Bool, true, false, List, [], ◌∷◌, ◌++◌, Option, Some, None, codes}
use Rattle.std.specs.Prelude.{◌&&◌}
use Rattle.std.specs.List.{AllByRecursion}
use Rattle.ob_tree.specs.declared.pos.Pos.{Pos}
use Rattle.ob_tree.specs.declared.names.QName.{QName}
use Rattle.ob_tree.specs.declared.ident.Ident.{Ident}
use Rattle.ob_tree.specs.declared.ident.IdentDef.{IdentDef}
use Rattle.ob_tree.specs.declared.ident.Mark.{Mark}
use Rattle.ob_tree.specs.declared.ident.Mark.TheVariants as mark
use Rattle.ob_tree.specs.declared.ident.Qualident.{Qualident}
use Rattle.ob_tree.specs.declared.expr.Expr.{Expr}
use Rattle.ob_tree.specs.declared.type_node.TypeNode.{TypeNode}
use Rattle.ob_tree.specs.declared.decl.Heading.{Heading}
use Rattle.ob_tree.specs.declared.decl.Receiver.{Receiver as RawReceiver}
use Rattle.ob_types.specs.declared.types.TypeRef.{TypeRef}
use Rattle.ob_types.specs.declared.value.Value.{Value}
use Rattle.ob_types.specs.declared.value.Value.TheVariants as literal
use Rattle.ob_types.specs.declared.desc.Desc.{Desc}
use Rattle.ob_rules.specs.declared.entity.Entity.{Entity}
use Rattle.ob_rules.specs.declared.entity.Entity.TheVariants as entity
use Rattle.ob_rules.specs.declared.entity.Known.{Known}
use Rattle.ob_rules.specs.declared.broken.Rule.TheVariants as rule
use Rattle.ob_rules.specs.declared.broken.Rule.{Rule}
use Rattle.ob_rules.specs.Judged.{Judged, Notes, no_notes, notes_if, joined, noted, if_sound, both, broken_at, ◌▷◌}
use Rattle.ob_rules.specs.Names.{Around, map_of, type_named, found_in_scope}
use Rattle.ob_rules.specs.Shapes.{pointed}
use Rattle.ob_rules.specs.Expressions.{phrase_of, constant_value}
use Rattle.ob_rules.specs.Types.{Typing, Written, written, marked, is_module_level, with_types, inner, parameters_in}
use Rattle.ob_rules.specs.Headings.{BoundAs, silent_base, own_record, received_record, bound_to, owner_of, owner_if, knows_receiver, self_of, heading_of, WrittenHeading, Head, Heads, path_by, forward_name, mark_or_hidden, heading_parameters, head_of, name_twice, declared_head, knows_procedure, known_behind, types_of, add_heading, made_anew, are_there}
use Rattle.ob_rules.specs.Declarations.{Declared, first_name, twice, declare_if, no_nil, constant_entity, constant_declared, equated, typing_as, type_entity, types_made, type_declared, variable_entity, paired_typing, variable_marked, variables_with, made_in, variables_declared, in_order, Written_procedure, headings_in_order, heads_later, newly, of_new, later_if_new}
use Rattle.law_local_judged.specs.Agreement.{IsIn}
use Rattle.law_local_judged.specs.Said.{SaidIn, DesignatorIn}
use Rattle.law_local_judged.specs.Followed.{beside, Agrees}
use Rattle.law_local_judged.specs.Declared.{OwnIn, LaterIn, AreSound, IsPlain, a_constant, a_type, variables}
use Rattle.law_local_judged.specs.Headed.{FromGrammar, HeadSaid, HeadIn, HeadsSame}
use Rattle.law_local_judged.proofs.Following.{said_left, said_right, then_node, made_node}
use Rattle.law_local_judged.proofs.Names.{type_named_follows}
use Rattle.law_local_judged.proofs.Parameters.{agrees_inner, knows_agrees}
use Rattle.law_local_judged.proofs.Written.{written_parameters_follow}
use Rattle.law_local_judged.proofs.Declaring.{order_same}
use Rattle.law_local_judged.proofs.Heading.{heading_same}
use Rattle.law_local_module.specs.Laws.{LeavesIn}
use Rattle.law_local_module.proofs.Modules.{agree_on}
use Rattle.law_local_module.specs.DeferredLaws.{LaterIsSaid, ModulesStay}
use Rattle.law_local_module.proofs.Leaves.{Nil, then_nil, both_nil, made_nil, type_nil, unless_nil}
use Rattle.law_local_module.proofs.Expressions.{expr_nil}
use Rattle.law_local_module.proofs.Typings.{mark_nil, constant_nil, Left, left_nil, left_both, left_made, left_pair, parameters_left, left_then}
use Rattle.law_local_module.proofs.Written.{written_left, written_parameters_left}
use Rattle.law_lists.proofs.Lists.{all_both, back_empty, both_empty, front_empty, none_some, some_same}

-- ---- what leaves nothing

if_nil : (b : Bool) (which : Rule) (at : Pos) → (notes_if b which at).later ≡ []
if_nil true which at = refl
if_nil false which at = refl

twice_nil : (u : Around) (x : Ident) → (twice u x).later ≡ []
twice_nil u x = if_nil _ rule.DeclaredTwice x.pos

no_nil_nil : (at : Pos) (v : Value) → Nil (no_nil at v)
no_nil_nil at literal.Nil = refl
no_nil_nil at v = refl

variables_nil : (ds : List IdentDef) (o : Option Typing) (u : Around) → (variables_with ds o u).part.notes.later ≡ []
variables_nil [] o u = refl
variables_nil (d ∷ ds) o u =
    let a = variable_marked u d.ident (marked u true d) o in
    both_empty a.part.notes.later (variables_with ds o a.around).part.notes.later (both_empty (marked u true d).notes.later (twice u d.ident).later (mark_nil u true d) (twice_nil u d.ident)) (variables_nil ds o a.around)

bound_nil : (at : Pos) (var : Bool) (t : TypeRef) (quiet : Bool) (o : Option QName) → Nil (bound_to at var t quiet o)
bound_nil at var t quiet (Some q) = refl
bound_nil at var t true None = refl
bound_nil at var t false None = refl

owner_nil : (u : Around) (o : Option RawReceiver) → Nil (owner_if u o)
owner_nil u None = refl
owner_nil u (Some r) =
    made_nil (λ b. Some b) (owner_of u r)
    (then_nil (type_named u (record { qualifier = None; ident = r.owner })) (λ t. bound_to r.owner.pos r.is_var t (is_module_level u && silent_base (map_of u) r.is_var (pointed (map_of u) t)) (own_record u (received_record (map_of u) r.is_var t)))
    (type_nil u (record { qualifier = None; ident = r.owner })) (λ t. bound_nil r.owner.pos r.is_var t _ _))

-- ---- what is known was known to be sound

known_grows : (o : Option Known) (u : Around) (x : Ident) (e : Entity) → AreSound (declare_if o u x e).known → AreSound u.known
known_grows (Some k) u x e h = h
known_grows None u x e h = h.1

variables_grow : (ds : List IdentDef) (o : Option Typing) (u : Around) → AreSound (variables_with ds o u).around.known → AreSound u.known
variables_grow [] o u h = h
variables_grow (d ∷ ds) o u h =
    let x = variable_marked u d.ident (marked u true d) o in
    known_grows (found_in_scope u d.ident.name) u d.ident (variable_entity u d.ident (paired_typing (marked u true d).node o)) (variables_grow ds o x.around h)

plain_grows : (f : Around → Declared) → IsPlain f → (u : Around) → AreSound (f u).around.known → AreSound u.known
plain_grows f (a_constant d x) u h = known_grows (found_in_scope u d.ident.name) u d.ident (constant_entity (both (marked u false d) (constant_value u (phrase_of x) ▷ no_nil (phrase_of x).start)).node) h
plain_grows f (a_type d n) u h =
    let j = both (newly u d) (typing_as u (u.path ++ d.ident.name) (mark_or_hidden (newly u d).node) (written n) (written n).name) in
    let w = with_types u (types_made j.node) in
    known_grows (found_in_scope w d.ident.name) w d.ident (type_entity j.node) h
plain_grows f (variables d ds n) u h =
    let j = (written n).typing u (u.path ++ first_name (d ∷ ds) ++ codes ":") mark.Hidden false in
    variables_grow (d ∷ ds) j.node (with_types u (made_in j.node)) h

order_grows : (fs : List (Around → Declared)) → AllByRecursion IsPlain fs → (u : Around) → AreSound (in_order fs u).around.known → AreSound u.known
order_grows [] p u h = h
order_grows (f ∷ fs) p u h = plain_grows f p.0 u (order_grows fs p.1 (f u).around h)

module _ (P : QName → Type 0) (s : QName → Option Desc) where
  -- ---- declarations

  as_left : (u : Around) (a : Agrees P u s) (own : OwnIn P u.unit) (name : List ℕ) (m : Mark) (n : TypeNode) (o : Option Qualident) → SaidIn P (typing_as u name m (written n) o).notes → Left P (typing_as u name m (written n) o).notes
  as_left u a own name m n (Some q) said = left_made P (equated u name m) ((written n).typing u name m false) (written_left P n u s a own name m false) said
  as_left u a own name m n None said = written_left P n u s a own name m false said

  said_new : (u : Around) (x : Ident) (n : Notes) → SaidIn P (of_new u x n) → SaidIn P n
  said_new u x n said = record { objects = said.objects; types = said.types; lengths = said.lengths }

  new_left : (o : Option Known) (ls : List Later) → AllByRecursion (LaterIn P) ls → AllByRecursion (LaterIn P) (later_if_new o ls)
  new_left None ls h = h
  new_left (Some k) ls h = tt

  plain_left : (f : Around → Declared) → IsPlain f → (u : Around) → Agrees P u s → OwnIn P u.unit → SaidIn P (f u).part.notes → Left P (f u).part.notes
  plain_left f (a_constant d x) u a own said =
      let p = phrase_of x in
      let j = both (marked u false d) (constant_value u p ▷ no_nil p.start) in
      left_nil P (joined j.notes (twice u d.ident)) (both_empty j.notes.later (twice u d.ident).later
      (both_nil (marked u false d) (constant_value u p ▷ no_nil p.start) (mark_nil u false d) (then_nil (constant_value u p) (no_nil p.start) (constant_nil u p (λ v. (expr_nil v x).value)) (λ v. no_nil_nil p.start v))) (twice_nil u d.ident))
  plain_left f (a_type d n) u a own said =
      let k = newly u d in
      let name = u.path ++ d.ident.name in
      let t = typing_as u name (mark_or_hidden k.node) (written n) (written n).name in
      let j = both k t in
      let said_j = said_new u d.ident j.notes (said_left P (of_new u d.ident j.notes) (twice u d.ident) said) in
      left_both P (of_new u d.ident j.notes) (twice u d.ident) (new_left (found_in_scope u d.ident.name) j.notes.later (left_pair P k t (λ z. left_nil P k.notes (mark_nil u false d)) (as_left u a own name (mark_or_hidden k.node) n (written n).name) said_j)) (left_nil P (twice u d.ident) (twice_nil u d.ident))
  plain_left f (variables d ds n) u a own said =
      let name = u.path ++ first_name (d ∷ ds) ++ codes ":" in
      let t = (written n).typing u name mark.Hidden false in
      let v = (variables_with (d ∷ ds) t.node (with_types u (made_in t.node))).part.notes in
      left_both P t.notes v (written_left P n u s a own name mark.Hidden false (said_left P t.notes v said)) (left_nil P v (variables_nil (d ∷ ds) t.node (with_types u (made_in t.node))))

  said_alone : (n : Notes) → SaidIn P n → SaidIn P (joined n no_notes)
  said_alone n m = record { objects = all_both P n.objects [] m.objects tt; types = all_both (IsIn P) n.types [] m.types tt; lengths = all_both (DesignatorIn P) n.lengths [] m.lengths tt }

  order_left : (fs : List (Around → Declared)) → AllByRecursion IsPlain fs → (u : Around) → Agrees P u s → OwnIn P u.unit → (in_order fs u).part.notes.broken ≡ [] → SaidIn P (in_order fs u).part.notes → AreSound (in_order fs u).around.known → Left P (in_order fs u).part.notes
  order_left [] p u a own quiet said h = tt
  order_left (f ∷ fs) p u a own quiet said h =
      let x = f u in
      let rest = in_order fs x.around in
      let quiet_x = front_empty x.part.notes.broken rest.part.notes.broken quiet in
      let said_x = said_left P x.part.notes rest.part.notes said in
      let one = order_same P s (f ∷ []) (p.0, tt) u a own (both_empty x.part.notes.broken [] quiet_x refl) (said_alone x.part.notes said_x) (order_grows fs p.1 x.around h) in
      left_both P x.part.notes rest.part.notes (plain_left f p.0 u a own said_x)
      (order_left fs p.1 x.around one.agrees (subst (OwnIn P) (sym one.unit) own) (back_empty x.part.notes.broken rest.part.notes.broken quiet) (said_right P x.part.notes rest.part.notes said) h)

  -- ---- headings

  bound_of : (at : Pos) (var : Bool) (t : TypeRef) (quiet : Bool) (o : Option QName) (b : BoundAs) → (bound_to at var t quiet o).node ≡ Some b → b.of ≡ t
  bound_of at var t quiet (Some q) b e = ap (λ (b : BoundAs). b.of) (sym (some_same e))
  bound_of at var t true None b e = none_some e
  bound_of at var t false None b e = none_some e

  owner_in : (u : Around) → Agrees P u s → (r : RawReceiver) (o : Option BoundAs) → (owner_if u (Some r)).node ≡ Some o → SaidIn P (owner_if u (Some r)).notes → (b : BoundAs) → o ≡ Some b → IsIn P b.of
  owner_in u a r o e said b i =
      let q : Qualident = record { qualifier = None; ident = r.owner } in
      let f : TypeRef → Judged BoundAs = λ t. bound_to r.owner.pos r.is_var t (is_module_level u && silent_base (map_of u) r.is_var (pointed (map_of u) t)) (own_record u (received_record (map_of u) r.is_var t)) in
      let j = type_named u q ▷ f in
      let n = made_node (λ b. Some b) j o e in
      let k = then_node (type_named u q) f n.0 n.1.0 in
      let said_j = said_left P j.notes (if_sound j.node (λ b. let z : Judged (Option BoundAs) = record { node = Some (Some b); notes = no_notes } in z)).notes said in
      let h = (type_named_follows P u s a q).keeps k.0 k.1 (said_left P (type_named u q).notes (if_sound (type_named u q).node f).notes said_j) in
      let there : (f k.0).node ≡ Some n.0 = sym (ap (λ o. (noted (type_named u q).notes (if_sound o f)).node) k.1) ∙ n.1.0 in
      let same : n.0 ≡ b = some_same (n.1.1 ∙ i) in
      subst (λ (b : BoundAs). IsIn P b.of) same (subst (IsIn P) (sym (bound_of r.owner.pos r.is_var k.0 _ _ n.0 there)) h)

  receiver_agrees : (u : Around) → Agrees P u s → (r : Option RawReceiver) (o : Option (Option BoundAs)) → ((x : RawReceiver) (b : BoundAs) → r ≡ Some x → o ≡ Some (Some b) → IsIn P b.of) → Agrees P (knows_receiver u r o) s
  receiver_agrees u a None o h = a
  receiver_agrees u a (Some r) (Some (Some b)) h = knows_agrees P s u r.ident (entity.Variable (self_of r.ident b.receiver) b.of) a (h r b refl refl)
  receiver_agrees u a (Some r) (Some None) h = knows_agrees P s u r.ident entity.Unsound a tt
  receiver_agrees u a (Some r) None h = knows_agrees P s u r.ident entity.Unsound a tt

  receiver_unit : (u : Around) (r : Option RawReceiver) (o : Option (Option BoundAs)) → (knows_receiver u r o).unit ≡ u.unit
  receiver_unit u None o = refl
  receiver_unit u (Some r) (Some (Some b)) = refl
  receiver_unit u (Some r) (Some None) = refl
  receiver_unit u (Some r) None = refl

  owner_is_in : (u : Around) → Agrees P u s → (r : Option RawReceiver) → SaidIn P (owner_if u r).notes → (x : RawReceiver) (b : BoundAs) → r ≡ Some x → (owner_if u r).node ≡ Some (Some b) → IsIn P b.of
  owner_is_in u a None said x b e f = none_some e
  owner_is_in u a (Some r) said x b e f = owner_in u a r (Some b) f said b refl

  head_left : (u : Around) → Agrees P u s → OwnIn P u.unit → (h : Heading) (forward : Bool) → SaidIn P (head_of u (heading_of h) forward).notes → Left P (head_of u (heading_of h) forward).notes
  head_left u a own h forward said =
      let g = heading_of h in
      let m = marked u false g.name in
      let b = owner_if u g.receiver in
      let x = heading_parameters u g forward b in
      let v = knows_receiver (inner u) g.receiver b.node in
      let name = forward_name forward (u.path ++ path_by b.node g.name.ident.name) in
      let inside = parameters_in v name g.parameters in
      let said_b = said_right P m.notes b.notes (said_left P (both m b).notes x.found.notes said) in
      let agrees = receiver_agrees (inner u) (agrees_inner P u s a) g.receiver b.node (owner_is_in u a g.receiver said_b) in
      left_pair P (both m b) x.found (λ z. left_nil P (both m b).notes (both_nil m b (mark_nil u false g.name) (owner_nil u g.receiver)))
      (left_then P inside.found (made_anew u g.name.ident.«pos»)
      (parameters_left P s name g.parameters (written_parameters_follow P h.parameters) (written_parameters_left P h.parameters) v agrees (subst (OwnIn P) (sym (receiver_unit (inner u) g.receiver b.node)) own))
      (λ p e y z. left_nil P (made_anew u g.name.ident.«pos» p).notes (unless_nil (are_there u p.made) rule.DeclaredTwice g.name.ident.«pos» p))) said

  declared_left : (t : Bool) (d : Head) (u : Around) → (SaidIn P d.notes → Left P d.notes) → SaidIn P (declared_head t d u).notes → Left P (declared_head t d u).notes
  declared_left true d u h said = left_both P d.notes (broken_at rule.DeclaredTwice d.at) (h (said_left P d.notes (broken_at rule.DeclaredTwice d.at) said)) tt
  declared_left false d u h said = h said

  before_said : (ps : List Written_procedure) (hs : Heads) → AllByRecursion (HeadSaid P) (headings_in_order ps hs).before → AllByRecursion (HeadSaid P) hs.before
  before_said [] hs k = k
  before_said (p ∷ ps) hs k = (before_said ps (add_heading hs p.heading p.forward) k).1

  procedure_unit : (u : Around) (h : Head) (b : Bool) → (knows_procedure u h b).unit ≡ u.unit
  procedure_unit u h true = refl
  procedure_unit u h false = refl

  behind_unit : (w : Around) (t : Bool) (x : Head) → (known_behind w t x).unit ≡ w.unit
  behind_unit w true x = refl
  behind_unit w false x = procedure_unit w x x.is_bound

  one_left : (hs : Heads) → Agrees P hs.around s → OwnIn P hs.around.unit → (h : Heading) (forward : Bool) → AllByRecursion (λ (h : Head). Left P h.notes) hs.before → AllByRecursion (HeadSaid P) (add_heading hs (heading_of h) forward).before → AllByRecursion (λ (h : Head). Left P h.notes) (add_heading hs (heading_of h) forward).before
  one_left hs a own h forward l k =
      let d = head_of hs.around (heading_of h) forward in
      let w = with_types hs.around (types_of d.parameters) in
      let t = name_twice w hs.before d in
      (declared_left t d (known_behind w t d) (head_left hs.around a own h forward) k.0.notes, l)

  heads_left : (ps : List Written_procedure) → AllByRecursion FromGrammar ps → (hs : Heads) → Agrees P hs.around s → OwnIn P hs.around.unit → AllByRecursion (HeadIn P) hs.before → AllByRecursion (λ (h : Head). Left P h.notes) hs.before → AllByRecursion (HeadSaid P) (headings_in_order ps hs).before → AllByRecursion (λ (h : Head). Left P h.notes) (headings_in_order ps hs).before
  heads_left [] g hs a own before l k = l
  heads_left (p ∷ ps) g hs a own before l k =
      let next = add_heading hs p.heading p.forward in
      let said = before_said ps next k in
      let f = subst (λ w. AllByRecursion (HeadSaid P) (add_heading hs w p.forward).before → HeadsSame P s (add_heading hs w p.forward) (add_heading (record { around = beside hs.around s; before = hs.before }) w p.forward)) (sym g.0.1) (heading_same P s hs a own before g.0.0 p.forward) said in
      let m = subst (λ w. AllByRecursion (HeadSaid P) (add_heading hs w p.forward).before → AllByRecursion (λ (h : Head). Left P h.notes) (add_heading hs w p.forward).before) (sym g.0.1) (one_left hs a own g.0.0 p.forward l) said in
      let d = head_of hs.around p.heading p.forward in
      let w = with_types hs.around (types_of d.parameters) in
      heads_left ps g.1 next f.agrees (subst (OwnIn P) (sym (behind_unit w (name_twice w hs.before d) d)) own) f.heads m k

  all_left : (hs : List Head) → AllByRecursion (λ (h : Head). Left P h.notes) hs → AllByRecursion (LaterIn P) (heads_later hs)
  all_left [] l = tt
  all_left (h ∷ hs) l = all_both (LaterIn P) h.notes.later (heads_later hs) l.0 (all_left hs l.1)

  pub leaves_in : LeavesIn P s
  leaves_in = record {
    declared = λ u a own fs plain quiet said sound. order_left fs plain u a own quiet said sound;
    headed = λ u a own ps g k. all_left (headings_in_order ps (record { around = u; before = [] })).before (heads_left ps g (record { around = u; before = [] }) a own tt tt k);
  }

pub later_is_said : LaterIsSaid
later_is_said names s = leaves_in (λ q. names q ≡ true) s

pub modules_stay : ModulesStay
modules_stay names shown other tree t is c = agree_on (λ q. names q ≡ true) other (leaves_in (λ q. names q ≡ true) other) shown tree t is c
