-- Declarations, procedures and sequences of them: what they add is held, and tied.
use Rattle.std.proofs.Common.{◌≡◌, ℕ, ◌+◌, Bool, true, false, List, [], ◌∷◌, ◌++◌, length, map, Option, Some, None, refl, sym, ap, ◌∙◌, subst, arith}
use Rattle.std.specs.Prelude.{is_some}
use Rattle.std.specs.List.{AllByRecursion, filter_map}
use Rattle.ob_tree.specs.declared.pos.Pos.{Pos}
use Rattle.ob_tree.specs.declared.names.QName.{QName}
use Rattle.ob_tree.specs.declared.ident.Ident.{Ident}
use Rattle.ob_tree.specs.declared.ident.IdentDef.{IdentDef}
use Rattle.ob_tree.specs.declared.ident.Import.{Import}
use Rattle.ob_tree.specs.declared.ident.Mark.{Mark}
use Rattle.ob_tree.specs.declared.ident.Mark.TheVariants as mark
use Rattle.ob_tree.specs.declared.ident.Qualident.{Qualident}
use Rattle.ob_tree.specs.declared.decl.Decl.{Decl, roll-Decl, map-Decl}
use Rattle.ob_tree.specs.declared.decl.Decl.TheOpen.{Decl-F}
use Rattle.ob_tree.specs.declared.decl.Decl.TheFolds.{ind-Decl, fold-roll-Decl}
use Rattle.ob_types.specs.declared.types.TypeRef.{TypeRef}
use Rattle.ob_types.specs.declared.types.TypeRef.TheVariants as ref
use Rattle.ob_types.specs.declared.value.Value.{Value}
use Rattle.ob_types.specs.declared.value.Value.TheVariants as literal
use Rattle.ob_types.specs.declared.desc.Desc.{Desc}
use Rattle.ob_types.specs.declared.desc.Desc.TheVariants as desc
use Rattle.ob_types.specs.declared.desc.RecordDesc.{RecordDesc}
use Rattle.ob_types.specs.declared.desc.Receiver.{Receiver}
use Rattle.ob_types.specs.declared.desc.Receiver.TheVariants as receiver
use Rattle.ob_types.specs.declared.typed.TypedType.{TypedType}
use Rattle.ob_types.specs.declared.typed.TypedParameter.{TypedParameter}
use Rattle.ob_types.specs.declared.typed.TypedStmt.{TypedStmt}
use Rattle.ob_types.specs.Maps.{listed}
use Rattle.ob_rules.specs.declared.entity.Entity.{Entity}
use Rattle.ob_rules.specs.declared.entity.Known.{Known}
use Rattle.ob_rules.specs.declared.entity.Received.{Received}
use Rattle.ob_rules.specs.declared.broken.Rule.TheVariants as rule
use Rattle.ob_rules.specs.Judged.{Judged, Notes, no_notes, notes_if, joined, both, ◌▷◌}
use Rattle.ob_rules.specs.Shapes.{Member, AField, AMethod, member}
use Rattle.ob_rules.specs.Names.{Around, map_of, found_in_scope}
use Rattle.ob_rules.specs.Expressions.{phrase_of, constant_value}
use Rattle.ob_rules.specs.Phrases.{Phrase}
use Rattle.ob_rules.specs.Types.{Typing, Written, written, Parameters, with_types, is_module_level, marked}
use Rattle.ob_rules.specs.Statements.{Judging, judging, in_turn}
use Rattle.ob_rules.specs.Headings.{Head, Heads, BoundAs, Binding, self_by, change_desc, reversed, mark_or_hidden, forwards_judged}
use Rattle.ob_rules.specs.Declarations.{Contents, no_contents, together, Part, no_part, with_part, only_notes, Declared, declare_if, declare, twice, no_nil, constant_entity, constant_contents, constant_declared, equated, typing_as, type_entity, types_made, type_declared, variable_entity, variable_contents, paired_typing, variable_marked, variables_with, made_in, variables_typed, Written_procedure, Declaration, Plain, Procedure, plain_of, procedure_of, type_name_of, in_order, headings_in_order, pointers_judged, field_judged, all_judged, nothing_later, closing_judged, received_by, around_body, self_parameters, binding_of, bound_to, typed_procedure, types_of_head, procedure_judged, procedures_judged, stmts_in, body_part, with_bound, binding_at, heads_later, block, decl_rule, declaration, is_system, import_entity, import_declared, target_of, newly, of_new}
use Rattle.law_local_judged.specs.Agreement.{AreIn}
use Rattle.law_local_files.specs.Tied.{BindingTied}
use Rattle.law_local_uses.specs.Settled.{core, NamesIn, MeansIn}
use Rattle.law_local_uses.proofs.Setting.{none, then_keeps, both_keep, made_keeps}
use Rattle.law_local_uses.proofs.Chains.{named_leads, member_leads}
use Rattle.law_local_uses.proofs.Statements.{AreOk, AreJudging, stmts_named, turn_keeps}
use Rattle.law_local_uses.proofs.Bodies.{stmts_ok}
use Rattle.law_local_uses.specs.Held.{ProcedureHeld}
use Rattle.law_local_uses.proofs.Around.{Given, Named, AreNamed, Fine, base, there, own_in, settled_there}
use Rattle.law_local_uses.proofs.Typings.{In, Holds, TypingOk, GoodWritten, GoodPhrase, ParametersOk, more_types, marked_held}
use Rattle.law_local_uses.proofs.Written.{phrase_good, written_good, written_parameters_good}
use Rattle.law_local_uses.proofs.Quiet.{Names, if_names, both_name, pointers_name, fields_name, forwards_name, closing_names}
use Rattle.law_local_uses.proofs.Binding.{Stays, bindings_ok}
use Rattle.law_local_uses.proofs.Heads.{There, AreThere, BoundOk, HeadOk, IsSound, GoodHeading, headings_good, headings_length, reversed_all, reversed_back, reversed_length}
use Rattle.law_lists.proofs.Lists.{Anything, IfThere, all_both, back_empty, front_empty}

-- ---- lists

front_all : (P : TypedType → Type 0) (xs ys : List TypedType) → AllByRecursion P (xs ++ ys) → AllByRecursion P xs
front_all P [] ys h = tt
front_all P (x ∷ xs) ys h = (h.0, front_all P xs ys h.1)

back_all : (P : TypedType → Type 0) (xs ys : List TypedType) → AllByRecursion P (xs ++ ys) → AllByRecursion P ys
back_all P [] ys h = h
back_all P (x ∷ xs) ys h = back_all P xs ys h.1

-- ---- what a part adds

pub record ContentsOk (g : Given) (c : Contents) : Type 0 where
  pub types : AreNamed g c.types
  pub variables : AllByRecursion (λ v. In g v.of) c.variables
  pub procedures : AllByRecursion (ProcedureHeld g.map g.unit g.Own g.Held) c.procedures
  pub body : AreOk (there g) c.body
  pub bound : AreNamed g c.bound × AreThere g c.bound

pub record PartOk (g : Given) (p : Part) : Type 0 where
  pub contents : ContentsOk g p.contents
  pub notes : Names g p.notes

none_ok : (g : Given) → ContentsOk g no_contents
none_ok g = record { types = tt; variables = tt; procedures = tt; body = tt; bound = (tt, tt) }

ok_both : (g : Given) (a b : Contents) → ContentsOk g a → ContentsOk g b → ContentsOk g (together a b)
ok_both g a b h k = record {
  types = all_both (Named g) a.types b.types h.types k.types;
  variables = all_both (λ v. In g v.of) a.variables b.variables h.variables k.variables;
  procedures = all_both (ProcedureHeld g.map g.unit g.Own g.Held) a.procedures b.procedures h.procedures k.procedures;
  body = all_both _ a.body b.body h.body k.body;
  bound = (all_both (Named g) a.bound b.bound h.bound.0 k.bound.0, all_both (There g) a.bound b.bound h.bound.1 k.bound.1);
}

pub part_both : (g : Given) (a b : Part) → PartOk g a → PartOk g b → PartOk g (with_part a b)
part_both g a b h k = record { contents = ok_both g a.contents b.contents h.contents k.contents; notes = both_name g a.notes b.notes h.notes k.notes }

notes_ok : (g : Given) (n : Notes) → Names g n → PartOk g (only_notes n)
notes_ok g n h = record { contents = none_ok g; notes = h }

-- what is around behind a declaration is fine, and has no more types than were there and are added
pub record DeclaredOk (g : Given) (u : Around) (d : Declared) : Type 0 where
  pub part : PartOk g d.part
  pub around : Fine g d.around
  pub own : AreThere g u.own → AreThere g d.part.contents.types → AreThere g d.around.own

abbrev pub GoodPlain : Given → (Around → Declared) → Type 0
GoodPlain g f = (u : Around) → Fine g u → DeclaredOk g u (f u)

declare_fine : (g : Given) (o : Option Known) (u : Around) → Fine g u → (x : Ident) (e : Entity) → MeansIn g.Held e → Fine g (declare_if o u x e)
declare_fine g (Some k) u f x e h = f
declare_fine g None u f x e h = record { unit = f.unit; shown = f.shown; own = f.own; known = (h, f.known); guards = f.guards; receiver = f.receiver }

declare_own : (o : Option Known) (u : Around) (x : Ident) (e : Entity) → (declare_if o u x e).own ≡ u.own
declare_own (Some k) u x e = refl
declare_own None u x e = refl

twice_names : (g : Given) (u : Around) (x : Ident) → Names g (twice u x)
twice_names g u x = if_names g (is_some (found_in_scope u x.name)) rule.DeclaredTwice x.pos

-- one that adds no types
own_plain : (g : Given) (u : Around) (x : Ident) (e : Entity) (ts : List TypedType) → AreThere g u.own → AreThere g ts → AreThere g (declare u x e).own
own_plain g u x e ts h k = subst (AreThere g) (sym (declare_own (found_in_scope u x.name) u x e)) h

-- ---- constants

constant_means : (g : Given) (o : Option (Mark × Value)) → MeansIn g.Held (constant_entity o)
constant_means g None = tt
constant_means g (Some p) = tt

constant_ok : (g : Given) (b : Bool) (x : Ident) (o : Option (Mark × Value)) → ContentsOk g (constant_contents b x o)
constant_ok g true x None = none_ok g
constant_ok g true x (Some p) = record { types = tt; variables = tt; procedures = tt; body = tt; bound = (tt, tt) }
constant_ok g false x o = none_ok g

nil_held : (g : Given) (at : Pos) (v : Value) → Holds g Anything (no_nil at v)
nil_held g at literal.Nil = (tt, none)
nil_held g at (literal.Int z) = (tt, none)
nil_held g at (literal.Bool b) = (tt, none)
nil_held g at (literal.Char c) = (tt, none)
nil_held g at (literal.Set s) = (tt, none)
nil_held g at (literal.Str s) = (tt, none)

constant_good : (g : Given) (d : IdentDef) (x : Phrase) → GoodPhrase g x → GoodPlain g (constant_declared d x)
constant_good g d x p u f =
    let c = constant_value u x ▷ no_nil x.start in
    let j = both (marked u false d) c in
    let h : Holds g Anything c = then_keeps (base g) Anything Anything (constant_value u x) (no_nil x.start) (p u f) (λ v q. nil_held g x.start v) in
    let k = both_keep (base g) Anything Anything (marked u false d) c (marked_held g u false d) h in
    record {
      part = record { contents = constant_ok g (is_module_level u) d.ident j.node; notes = both_name g j.notes (twice u d.ident) k.1 (twice_names g u d.ident) };
      around = declare_fine g (found_in_scope u d.ident.name) u f d.ident (constant_entity j.node) (constant_means g j.node);
      own = own_plain g u d.ident (constant_entity j.node) (constant_contents (is_module_level u) d.ident j.node).types;
    }

-- ---- types

as_good : (g : Given) (u : Around) → Fine g u → (name : List ℕ) (m : Mark) (w : Written) → GoodWritten g w → (o : Option Qualident) → Holds g (TypingOk g) (typing_as u name m w o)
as_good g u f name m w h (Some q) = made_keeps (base g) (TypingOk g) (TypingOk g) (equated u name m) (w.typing u name m false) (h u f name m false) (λ t k. (own_in g u f name, ((k.0, tt), k.1)))
as_good g u f name m w h None = h u f name m false

abbrev MarkedTyping : Given → Mark × Typing → Type 0
MarkedTyping g p = Anything p.0 × TypingOk g p.1

type_means : (g : Given) (o : Option (Mark × Typing)) → IfThere (MarkedTyping g) o → MeansIn g.Held (type_entity o)
type_means g None h = tt
type_means g (Some p) h = h.1.0

made_named : (g : Given) (o : Option (Mark × Typing)) → IfThere (MarkedTyping g) o → AreNamed g (types_made o)
made_named g None h = tt
made_named g (Some p) h = h.1.1

any_there : {A : Type 0} (o : Option A) → IfThere Anything o
any_there None = tt
any_there (Some x) = tt

newly_held : (g : Given) (u : Around) (d : IdentDef) → Holds g Anything (newly u d)
newly_held g u d = (any_there (newly u d).node, (marked_held g u false d).1)

type_good : (g : Given) (d : IdentDef) (w : Written) → GoodWritten g w → GoodPlain g (type_declared d w)
type_good g d w h u f =
    let m = newly u d in
    let t = typing_as u (u.path ++ d.ident.name) (mark_or_hidden m.node) w w.name in
    let j = both m t in
    let k = both_keep (base g) Anything (TypingOk g) m t (newly_held g u d) (as_good g u f (u.path ++ d.ident.name) (mark_or_hidden m.node) w h w.name) in
    let ts = types_made j.node in
    let v = with_types u ts in
    let n = made_named g j.node k.0 in
    record {
      part = record { contents = record { types = n; variables = tt; procedures = tt; body = tt; bound = (tt, tt) }; notes = both_name g (of_new u d.ident j.notes) (twice u d.ident) k.1 (twice_names g u d.ident) };
      around = declare_fine g (found_in_scope v d.ident.name) v (more_types g u f ts n) d.ident (type_entity j.node) (type_means g j.node k.0);
      own = λ a b. subst (AreThere g) (sym (declare_own (found_in_scope v d.ident.name) v d.ident (type_entity j.node))) (all_both (There g) ts u.own b a);
    }

-- ---- variables

paired_ok : (g : Given) (m : Option Mark) (t : Option Typing) → IfThere (TypingOk g) t → IfThere (MarkedTyping g) (paired_typing m t)
paired_ok g None t h = tt
paired_ok g (Some m) None h = tt
paired_ok g (Some m) (Some t) h = (tt, h)

variable_means : (g : Given) (u : Around) (x : Ident) (o : Option (Mark × Typing)) → IfThere (MarkedTyping g) o → MeansIn g.Held (variable_entity u x o)
variable_means g u x None h = tt
variable_means g u x (Some p) h = h.1.0

variable_ok : (g : Given) (x : Ident) (o : Option (Mark × Typing)) → IfThere (MarkedTyping g) o → ContentsOk g (variable_contents x o)
variable_ok g x None h = none_ok g
variable_ok g x (Some p) h = record { types = tt; variables = (h.1.0, tt); procedures = tt; body = tt; bound = (tt, tt) }

variables_good : (g : Given) (ds : List IdentDef) (t : Option Typing) → IfThere (TypingOk g) t → GoodPlain g (variables_with ds t)
variables_good g [] t h u f = record { part = record { contents = none_ok g; notes = none }; around = f; own = λ a b. a }
variables_good g (d ∷ ds) t h u f =
    let m = marked u true d in
    let o = paired_typing m.node t in
    let p = paired_ok g m.node t h in
    let a = variable_marked u d.ident m t in
    let e = variable_entity u d.ident o in
    let rest = variables_with ds t a.around in
    let r = variables_good g ds t h a.around (declare_fine g (found_in_scope u d.ident.name) u f d.ident e (variable_means g u d.ident o p)) in
    record {
      part = part_both g a.part rest.part (record { contents = variable_ok g d.ident o p; notes = both_name g m.notes (twice u d.ident) (marked_held g u true d).1 (twice_names g u d.ident) }) r.part;
      around = r.around;
      own = λ x y. r.own (own_plain g u d.ident e [] x tt) (back_all (There g) (variable_contents d.ident o).types rest.part.contents.types y);
    }

in_named : (g : Given) (o : Option Typing) → IfThere (TypingOk g) o → AreNamed g (made_in o)
in_named g None h = tt
in_named g (Some t) h = h.1

typed_good : (g : Given) (ds : List IdentDef) (u : Around) → Fine g u → (t : Judged Typing) → Holds g (TypingOk g) t → DeclaredOk g u (variables_typed ds u t)
typed_good g ds u f t h =
    let ts = made_in t.node in
    let v = with_types u ts in
    let n = in_named g t.node h.0 in
    let rest = variables_with ds t.node v in
    let r = variables_good g ds t.node h.0 v (more_types g u f ts n) in
    let first : Part = record { notes = t.notes; contents = record no_contents { types = ts } } in
    record {
      part = part_both g first rest.part (record { contents = record { types = n; variables = tt; procedures = tt; body = tt; bound = (tt, tt) }; notes = h.1 }) r.part;
      around = r.around;
      own = λ x y. r.own (all_both (There g) ts u.own (front_all (There g) ts rest.part.contents.types y) x) (back_all (There g) ts rest.part.contents.types y);
    }

-- ---- in their order

pub order_good : (g : Given) (fs : List (Around → Declared)) → AllByRecursion (GoodPlain g) fs → GoodPlain g (in_order fs)
order_good g [] h u f = record { part = record { contents = none_ok g; notes = none }; around = f; own = λ a b. a }
order_good g (d ∷ ds) h u f =
    let a = h.0 u f in
    let rest = in_order ds (d u).around in
    let b = order_good g ds h.1 (d u).around a.around in
    record {
      part = part_both g (d u).part rest.part a.part b.part;
      around = b.around;
      own = λ x y. b.own (a.own x (front_all (There g) (d u).part.contents.types rest.part.contents.types y)) (back_all (There g) (d u).part.contents.types rest.part.contents.types y);
    }

import_means : (g : Given) (b : Bool) (t : Ident) → MeansIn g.Held (import_entity b t)
import_means g true t = tt
import_means g false t = tt

pub imports_good : (g : Given) (is : List Import) → AllByRecursion (GoodPlain g) (map (λ i. import_declared i (target_of i)) is)
imports_good g [] = tt
imports_good g (i ∷ is) = (
  (λ u f.
      let t = target_of i in
      let e = import_entity (is_system t.name) t in
      record {
        part = notes_ok g (joined (notes_if (is_system t.name) rule.ReservedModule t.pos) (twice u i.ident)) (both_name g (notes_if (is_system t.name) rule.ReservedModule t.pos) (twice u i.ident) (if_names g (is_system t.name) rule.ReservedModule t.pos) (twice_names g u i.ident));
        around = declare_fine g (found_in_scope u i.ident.name) u f i.ident e (import_means g (is_system t.name) t);
        own = own_plain g u i.ident e [];
      }),
  imports_good g is,
)

-- ---- procedures

pub record GoodProcedure (g : Given) (p : Written_procedure) : Type 0 where
  pub heading : GoodHeading g p
  pub inside : (u : Around) → Fine g u → AreThere g u.own → (p.inside u).notes.broken ≡ [] → AreThere g (p.inside u).contents.types → PartOk g (p.inside u)

received_own : (g : Given) (x : Option Ident) (b : Option BoundAs) → IfThere (BoundOk g) b → (r : Received) → received_by x b ≡ Some r → g.Own r.owner
received_own g (Some x) (Some b) h r e = let i : b.owner ≡ r.owner = ap (λ (o : Option Received). owner_or b.owner o) e in subst g.Own i h.1
  where
    owner_or : QName → Option Received → QName
    owner_or q None = q
    owner_or q (Some r) = r.owner
received_own g (Some x) None h r e = absurd cc
received_own g None b h r e = absurd cc

body_fine : (g : Given) (u : Around) → Fine g u → (h : Head) → HeadOk g h → Fine g (around_body u h)
body_fine g u f h k = record { unit = f.unit; shown = f.shown; own = f.own; known = all_both _ h.inside h.known k.inside k.known; guards = refl; receiver = received_own g h.self h.bound k.bound }

head_types : (g : Given) (o : Option Parameters) → IfThere (ParametersOk g) o → AreNamed g (types_of_head o)
head_types g None h = tt
head_types g (Some p) h = h.made

self_in : (g : Given) (x : Ident) (b : BoundAs) (r : Receiver) → In g b.of → In g (self_by x b r).of
self_in g x b receiver.Record h = h
self_in g x b receiver.Pointer h = h

selves_in : (g : Given) (h : Head) (x : Option Ident) (b : Option BoundAs) → IfThere (BoundOk g) b → AllByRecursion (λ (y : TypedParameter). In g y.of) (self_parameters h x b)
selves_in g h (Some x) (Some b) k = (self_in g x b b.receiver k.0, tt)
selves_in g h (Some x) None k = tt
selves_in g h None b k = tt

result_listed : (g : Given) (o : Option TypeRef) → IfThere (In g) o → AreIn g.Held (listed o)
result_listed g None h = tt
result_listed g (Some t) h = (h, tt)

module _ (g : Given) (u : Around) (f : Fine g u) (own : AreThere g u.own) where
  of_binding : (b : BoundAs) → BoundOk g b → (o : Option Member) (x : List ℕ) → member (map_of u) b.owner x ≡ o → BindingTied g.map g.unit g.Own (binding_of b.owner b o)
  of_binding b h (Some (AMethod q m)) x e = (h.1, member_leads (there g) (map_of u) (settled_there g u f own).says (ref.Named b.owner) b.owner x (AMethod q m) (named_leads (there g) (map_of u) (settled_there g u f own).says b.owner) e)
  of_binding b h (Some (AField q y)) x e = tt
  of_binding b h None x e = tt

  binding_tied : (h : Head) (o : Option BoundAs) → IfThere (BoundOk g) o → BindingTied g.map g.unit g.Own (bound_to (map_of u) h o)
  binding_tied h None k = tt
  binding_tied h (Some b) k = of_binding b k (member (map_of u) b.owner h.name) h.name refl

  typed_ok : (h : Head) → HeadOk g h → (o : Option Parameters) → IfThere (ParametersOk g) o → (c : Contents) → ContentsOk g c → AllByRecursion (ProcedureHeld g.map g.unit g.Own g.Held) (typed_procedure (map_of u) h o c)
  typed_ok h k None p c q = tt
  typed_ok h k (Some p) r c q =
      let b = stmts_named (there g) c.body q.body in (
        record {
          parameters = all_both (λ (y : TypedParameter). In g y.of) (self_parameters h h.self h.bound) p.parameters (selves_in g h h.self h.bound k.bound) r.parameters;
          result = result_listed g p.signature.result r.result;
          locals = q.variables;
          binding = binding_tied h h.bound k.bound;
          body = record { tied = b.0; held = b.1 };
        },
        tt,
      )

  judged_ok : (p : Written_procedure) → GoodProcedure g p → (h : Head) → HeadOk g h → (b : Bool) → (procedure_judged u p h b).notes.broken ≡ [] → AreThere g (procedure_judged u p h b).contents.types → PartOk g (procedure_judged u p h b)
  judged_ok p good h k true e t = record { contents = record { types = head_types g h.parameters k.parameters; variables = tt; procedures = tt; body = tt; bound = (tt, tt) }; notes = k.notes }
  judged_ok p good h k false e t =
      let part = p.inside (around_body u h) in
      let rest = (closing_judged h.name p.closing).broken ++ part.notes.broken in
      let quiet = back_empty (closing_judged h.name p.closing).broken part.notes.broken (back_empty h.notes.broken rest e) in
      let q = good.inside (around_body u h) (body_fine g u f h k) own quiet (back_all (There g) (types_of_head h.parameters) part.contents.types t) in
      record {
        contents = record {
          types = all_both (Named g) (types_of_head h.parameters) part.contents.types (head_types g h.parameters k.parameters) q.contents.types;
          variables = tt;
          procedures = all_both (ProcedureHeld g.map g.unit g.Own g.Held) (typed_procedure (map_of u) h h.parameters part.contents) part.contents.procedures (typed_ok h k h.parameters k.parameters part.contents q.contents) q.contents.procedures;
          body = tt;
          bound = (tt, tt);
        };
        notes = both_name g h.notes (joined (closing_judged h.name p.closing) part.notes) k.notes (both_name g (closing_judged h.name p.closing) part.notes (closing_names g h.name p.closing) q.notes);
      }

  procedures_ok : (ps : List Written_procedure) → AllByRecursion (GoodProcedure g) ps → (hs : List Head) → AllByRecursion (HeadOk g) hs → (procedures_judged u ps hs).notes.broken ≡ [] → AreThere g (procedures_judged u ps hs).contents.types → PartOk g (procedures_judged u ps hs)
  procedures_ok [] good hs k e t = record { contents = none_ok g; notes = none }
  procedures_ok (p ∷ ps) good [] k e t = record { contents = none_ok g; notes = none }
  procedures_ok (p ∷ ps) good (h ∷ hs) k e t =
      let a = procedure_judged u p h p.forward in
      let b = procedures_judged u ps hs in
      part_both g a b (judged_ok p good.0 h k.0 p.forward (front_empty a.notes.broken b.notes.broken e) (front_all (There g) a.contents.types b.contents.types t))
      (procedures_ok ps good.1 hs k.1 (back_empty a.notes.broken b.notes.broken e) (back_all (There g) a.contents.types b.contents.types t))

-- what is judged of procedures says that their headings are sound
sound_judged : (g : Given) (u : Around) (p : Written_procedure) (h : Head) (b : Bool) → (procedure_judged u p h b).notes.broken ≡ [] → AreThere g (procedure_judged u p h b).contents.types → IsSound g h
sound_judged g u p h true e t = (e, t)
sound_judged g u p h false e t =
    let part = p.inside (around_body u h) in
    (front_empty h.notes.broken ((closing_judged h.name p.closing).broken ++ part.notes.broken) e, front_all (There g) (types_of_head h.parameters) part.contents.types t)

all_sound : (g : Given) (u : Around) (ps : List Written_procedure) (hs : List Head) → length ps ≡ length hs → (procedures_judged u ps hs).notes.broken ≡ [] → AreThere g (procedures_judged u ps hs).contents.types → AllByRecursion (IsSound g) hs
all_sound g u ps [] l e t = tt
all_sound g u [] (h ∷ hs) l e t = absurd cc
all_sound g u (p ∷ ps) (h ∷ hs) l e t =
    let a = procedure_judged u p h p.forward in
    let b = procedures_judged u ps hs in
    let less : length ps ≡ length hs = cc in (
      sound_judged g u p h p.forward (front_empty a.notes.broken b.notes.broken e) (front_all (There g) a.contents.types b.contents.types t),
      all_sound g u ps hs less (back_empty a.notes.broken b.notes.broken e) (back_all (There g) a.contents.types b.contents.types t),
    )

-- ---- what types keep where procedures are bound to them

named_stays : (g : Given) → Stays g (Named g)
named_stays g = record { keeps = λ t f n c h. by t.desc f n h }
  where
    by : (d : Desc) (f : RecordDesc → RecordDesc) → ((r : RecordDesc) → NamesIn g.Held (desc.Record r) → NamesIn g.Held (desc.Record (f r))) → NamesIn g.Held d → NamesIn g.Held (change_desc f d)
    by (desc.Record r) f n h = n r h
    by (desc.Const v) f n h = h
    by (desc.Var m t) f n h = h
    by (desc.Proc s) f n h = h
    by (desc.Alias m t) f n h = h
    by (desc.Array m l t) f n h = h
    by (desc.OpenArray m t) f n h = h
    by (desc.Pointer m t) f n h = h
    by (desc.ProcType m s) f n h = h

core_stays : (f : RecordDesc → RecordDesc) → ((r : RecordDesc) → core (desc.Record (f r)) ≡ core (desc.Record r)) → (d : Desc) → core (change_desc f d) ≡ core d
core_stays f c (desc.Record r) = c r
core_stays f c (desc.Const v) = refl
core_stays f c (desc.Var m t) = refl
core_stays f c (desc.Proc s) = refl
core_stays f c (desc.Alias m t) = refl
core_stays f c (desc.Array m l t) = refl
core_stays f c (desc.OpenArray m t) = refl
core_stays f c (desc.Pointer m t) = refl
core_stays f c (desc.ProcType m s) = refl

there_stays : (g : Given) → Stays g (There g)
there_stays g = record { keeps = λ t f n c h. record { says = (h.says.0, (h.says.1.0, h.says.1.1 ∙ sym (core_stays f c t.desc))); own = h.own } }

pub record BoundTypes (g : Given) (b : Binding) : Type 0 where
  pub named : AreNamed g b.own
  pub there : AreThere g b.own
  pub notes : Names g b.notes

bound_types : (g : Given) (u : Around) → Fine g u → AreThere g u.own → (hs : List Head) → AllByRecursion (HeadOk g) hs → (b : Bool) → BoundTypes g (binding_at b u hs)
bound_types g u f own hs k true =
    let p = parameters_held hs k in
    let n = bindings_ok g (Named g) (named_stays g) u f.own hs p in
    record { named = n.own; there = (bindings_ok g (There g) (there_stays g) u own hs p).own; notes = n.notes }
  where
    parameters_held : (hs : List Head) → AllByRecursion (HeadOk g) hs → AllByRecursion (λ (h : Head). IfThere (ParametersOk g) h.parameters) hs
    parameters_held [] k = tt
    parameters_held (h ∷ hs) k = (k.0.parameters, parameters_held hs k.1)
bound_types g u f own hs k false = record { named = f.own; there = own; notes = none }

-- ---- sequences of declarations with their statements

abbrev pub GoodDeclaration : Given → Declaration → Type 0
GoodDeclaration g (Plain x f) = GoodPlain g f
GoodDeclaration g (Procedure p) = GoodProcedure g p

abbrev pub AreGood : Given → List Declaration → Type 0
AreGood g ds = AllByRecursion (GoodDeclaration g) ds

plains : (g : Given) (ds : List Declaration) → AreGood g ds → AllByRecursion (GoodPlain g) (filter_map plain_of ds)
plains g [] h = tt
plains g (Plain x f ∷ ds) h = (h.0, plains g ds h.1)
plains g (Procedure p ∷ ds) h = plains g ds h.1

procedures : (g : Given) (ds : List Declaration) → AreGood g ds → AllByRecursion (GoodProcedure g) (filter_map procedure_of ds)
procedures g [] h = tt
procedures g (Plain x f ∷ ds) h = procedures g ds h.1
procedures g (Procedure p ∷ ds) h = (h.0, procedures g ds h.1)

headings : (g : Given) (ps : List Written_procedure) → AllByRecursion (GoodProcedure g) ps → AllByRecursion (GoodHeading g) ps
headings g [] h = tt
headings g (p ∷ ps) h = (h.0.heading, headings g ps h.1)

stmts_there : (g : Given) (o : Option (List TypedStmt)) → IfThere (AreOk (there g)) o → AreOk (there g) (stmts_in o)
stmts_there g None h = tt
stmts_there g (Some ss) h = h

pub block_ok : (g : Given) (ds : List Declaration) → AreGood g ds → (body : List Judging) → AreJudging (there g) body → (u : Around) → Fine g u → AreThere g u.own → (block ds body u).notes.broken ≡ [] → AreThere g (block ds body u).contents.types → PartOk g (block ds body u)
block_ok g ds good body judge u f own e t =
    let v : Around = record u { later_types = filter_map type_name_of ds } in
    let fs = filter_map plain_of ds in
    let ps = filter_map procedure_of ds in
    let d = in_order fs v in
    let start : Heads = record { around = d.around; before = [] } in
    let hs = headings_in_order ps start in
    let b = binding_at (is_module_level u) hs.around (reversed hs.before) in
    let U = with_bound hs.around b in
    let later = d.part.notes.later ++ heads_later hs.before in
    let L = joined (all_judged (field_judged (map_of U)) later) (forwards_judged (map_of hs.around) (reversed hs.before) (reversed hs.before)) in
    let Q = procedures_judged U ps (reversed hs.before) in
    let j = in_turn body U in
    let pointers = pointers_judged hs.around later in
    -- what is quiet
    let behind = back_empty (d.part.notes.broken ++ pointers.broken) ((b.notes.broken ++ L.broken) ++ (Q.notes.broken ++ j.notes.broken)) e in
    let inside = back_empty (b.notes.broken ++ L.broken) (Q.notes.broken ++ j.notes.broken) behind in
    let calm = front_empty Q.notes.broken j.notes.broken inside in
    -- what is there
    let dt = front_all (There g) d.part.contents.types (Q.contents.types ++ []) t in
    let qt = front_all (There g) Q.contents.types [] (back_all (There g) d.part.contents.types (Q.contents.types ++ []) t) in
    let vf : Fine g v = record { unit = f.unit; shown = f.shown; own = f.own; known = f.known; guards = f.guards; receiver = f.receiver } in
    let o = order_good g fs (plains g ds good) v vf in
    let lengths : length ps ≡ length (reversed hs.before) = same_lengths ps hs (headings_length ps start) in
    let sound = reversed_back (IsSound g) hs.before (all_sound g U ps (reversed hs.before) lengths calm qt) in
    let h = headings_good g ps (headings g ps (procedures g ds good)) start (record { around = o.around; own = o.own own dt; before = tt }) sound in
    let heads = reversed_all (HeadOk g) hs.before h.before in
    let bound = bound_types g hs.around h.around h.own (reversed hs.before) heads (is_module_level u) in
    let Uf : Fine g U = record { unit = h.around.unit; shown = h.around.shown; own = bound.named; known = h.around.known; guards = h.around.guards; receiver = h.around.receiver } in
    let q = procedures_ok g U Uf bound.there ps (procedures g ds good) (reversed hs.before) heads calm qt in
    let s = turn_keeps (there g) U (settled_there g U Uf bound.there) body judge in
    let first : Part = record { notes = joined (nothing_later d.part.notes) pointers; contents = d.part.contents } in
    let middle : Part = record { notes = no_notes; contents = record no_contents { bound = b.own } } in
    let rest = with_part Q (body_part j) in
    part_both g first (with_part (only_notes (joined b.notes L)) (with_part middle rest)) (record { contents = o.part.contents; notes = both_name g (nothing_later d.part.notes) pointers o.part.notes (pointers_name g hs.around later) })
    (part_both g (only_notes (joined b.notes L)) (with_part middle rest) (notes_ok g (joined b.notes L) (both_name g b.notes L bound.notes (both_name g (all_judged (field_judged (map_of U)) later) (forwards_judged (map_of hs.around) (reversed hs.before) (reversed hs.before)) (fields_name g (map_of U) later) (forwards_name g (map_of hs.around) (reversed hs.before) (reversed hs.before)))))
    (part_both g middle rest (record { contents = record { types = tt; variables = tt; procedures = tt; body = tt; bound = (bound.named, bound.there) }; notes = none })
    (part_both g Q (body_part j) q (record { contents = record { types = tt; variables = tt; procedures = tt; body = stmts_there g j.node s.0; bound = (tt, tt) }; notes = s.1 }))))
  where
    same_lengths : (ps : List Written_procedure) (hs : Heads) → length hs.before ≡ length ps + 0 → length ps ≡ length (reversed hs.before)
    same_lengths ps hs e = let r = reversed_length hs.before in omega (arith, r, e)

-- ---- declarations of the grammar

none_part : (g : Given) → PartOk g no_part
none_part g = record { contents = none_ok g; notes = none }

module _ (g : Given) where
  abbrev PD : Decl → Type 0
  PD x = GoodDeclaration g (declaration x)

  abbrev SD : Type 0
  SD = (x : Decl) × PD x

  all_of : (xs : List SD) → AreGood g (map declaration (map (λ (x : SD). x.0) xs))
  all_of [] = tt
  all_of (x ∷ xs) = (x.1, all_of xs)

  layer : (x : Decl-F Decl) → GoodDeclaration g (decl_rule (map-Decl Decl Declaration declaration x)) → PD (roll-Decl x)
  layer x h = subst (GoodDeclaration g) (sym (fold-roll-Decl Declaration decl_rule x)) h

  decl_cases : (y : Decl-F SD) → PD (roll-Decl (map-Decl SD Decl (λ x. x.0) y))
  decl_cases (Decl-F.Constant d x) = layer (Decl-F.Constant d x) (constant_good g d (phrase_of x) (phrase_good g x))
  decl_cases (Decl-F.NamedType d n) = layer (Decl-F.NamedType d n) (type_good g d (written n) (written_good g n))
  decl_cases (Decl-F.Variables ds n) = layer (Decl-F.Variables ds n) (λ u f. typed_good g ds u f _ (written_good g n u f _ mark.Hidden false))
  decl_cases (Decl-F.Procedure h ds body closing) = layer (Decl-F.Procedure h (map (λ (x : SD). x.0) ds) body closing)
      (record { heading = written_parameters_good g h.parameters; inside = λ u f own e t. block_ok g (map declaration (map (λ (x : SD). x.0) ds)) (all_of ds) (map judging body) (stmts_ok (there g) body) u f own e t })
  decl_cases (Decl-F.Forward h) = layer (Decl-F.Forward h) (record { heading = written_parameters_good g h.parameters; inside = λ u f own e t. none_part g })

  decl_good : (x : Decl) → PD x
  decl_good = ind-Decl PD (λ x y is. subst (λ z. PD (roll-Decl z)) is (decl_cases y))

  pub decls_good : (xs : List Decl) → AreGood g (map declaration xs)
  decls_good [] = tt
  decls_good (x ∷ xs) = (decl_good x, decls_good xs)
