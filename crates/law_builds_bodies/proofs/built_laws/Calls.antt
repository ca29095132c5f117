-- A designator that means a statement means a call of a predeclared procedure: no FOR and no CASE.
use Rattle.std.proofs.Common.{ℕ, Bool, true, false, List, [], ◌∷◌, Option, Some, None}
use Rattle.std.specs.Prelude.{◌&&◌, not, is_some}
use Rattle.ob_tree.specs.declared.pos.Pos.{Pos}
use Rattle.ob_tree.specs.declared.names.QName.{QName}
use Rattle.ob_tree.specs.declared.ident.Ident.{Ident}
use Rattle.ob_tree.specs.declared.ident.Qualident.{Qualident}
use Rattle.ob_types.specs.declared.types.TypeRef.{TypeRef}
use Rattle.ob_types.specs.declared.types.Signature.{Signature}
use Rattle.ob_types.specs.declared.desc.Desc.{Desc}
use Rattle.ob_types.specs.declared.desc.Desc.TheVariants as desc
use Rattle.ob_types.specs.declared.desc.Receiver.{Receiver}
use Rattle.ob_types.specs.declared.desc.Receiver.TheVariants as receiver
use Rattle.ob_types.specs.declared.typed.OutProcedure.{OutProcedure}
use Rattle.ob_types.specs.declared.typed.Variable.TheVariants as variable
use Rattle.ob_rules.specs.declared.entity.Entity.{Entity}
use Rattle.ob_rules.specs.declared.entity.Entity.TheVariants as entity
use Rattle.ob_rules.specs.declared.entity.Received.{Received}
use Rattle.ob_rules.specs.declared.meant.Chosen.{Chosen}
use Rattle.ob_rules.specs.declared.meant.Meant.{Meant}
use Rattle.ob_rules.specs.declared.meant.Meant.TheVariants as means
use Rattle.ob_rules.specs.declared.meant.Where.{Where}
use Rattle.ob_rules.specs.declared.values.Place.{Place}
use Rattle.ob_rules.specs.declared.values.Valued.{Valued}
use Rattle.ob_rules.specs.declared.broken.Rule.TheVariants as rule
use Rattle.ob_rules.specs.Judged.{Judged, sound, breaks, found_or, ◌▷◌}
use Rattle.ob_rules.specs.Shapes.{Map, Member, AField, AMethod, member, pointed, record_of, base_record, signature_at}
use Rattle.ob_rules.specs.Names.{Around, map_of, named, is_out, out_procedure, exported, type_named}
use Rattle.ob_rules.specs.Calls.{call_procedure, call_variable, call_out, call_bound}
use Rattle.ob_rules.specs.Phrases.{Phrase, Behind, Dot, Index, Up, Round}
use Rattle.ob_rules.specs.Designators.{same_variable, is_read_only, variable_named, guard_of, guarded_by, guard, dereference, implicitly, index, chosen, with_receiver, comes, not_there, member_found, member_of, select_of, select, super_of, super_in, super_if, super, nothing_behind, type_in_round, as_call, place_round, call_meant, takes_type, is_callable, is_guardable, other_round, step_dot, step_index, step_up, step_round, step, where_of, go_on_with, through, of_variable, exported_meant, out_meant, in_module, dot_of, module_front, front_of, is_module, behind, front, from_front_with}
use Rattle.ob_rules.specs.Expressions.{Named, meant_by}
use Rattle.law_methods_described.proofs.Nodes.{Has, any_then, then_has}
use Rattle.law_builds_bodies.proofs.built_laws.Predeclared.{IsQuiet, predeclared_quiet}
use Rattle.law_lists.proofs.Lists.{IfThere}

-- ---- calls and selectors

as_call_quiet : (x : Judged Valued) → Has IsQuiet (as_call x)
as_call_quiet x = any_then IsQuiet x (λ v. sound (means.Call v)) (λ v. tt)

pub call_quiet : (u : Around) (w : Where) (at : Pos) (m : Meant) (ps : List Phrase) → Has IsQuiet (call_meant u w at m ps)
call_quiet u w at (means.Procedure q s) ps = as_call_quiet (call_procedure u w at q s ps)
call_quiet u w at (means.Bound c) ps = as_call_quiet (call_bound u w at c ps)
call_quiet u w at (means.Out p) ps = as_call_quiet (call_out u w at p ps)
call_quiet u w at (means.Predeclared f) ps = predeclared_quiet u w at f ps
call_quiet u w at m ps = tt

bound_quiet : (r : Receiver) (pointer : Bool) (at : Pos) (c : Chosen) → Has IsQuiet (with_receiver r pointer at c)
bound_quiet receiver.Pointer false at c = tt
bound_quiet receiver.Pointer true at c = tt
bound_quiet receiver.Record pointer at c = tt

no_quiet : (a b : Bool) (at : Pos) (x : Ident) → Has IsQuiet (not_there a b at x)
no_quiet true true at x = tt
no_quiet true false at x = tt
no_quiet false b at x = tt

found_quiet : (u : Around) (start at : Pos) (p q : Place) (t : Option TypeRef) (rec : QName) (m : Member) → Has IsQuiet (member_found u start at p q t rec m)
found_quiet u start at p q t rec (AField owner f) = tt
found_quiet u start at p q t rec (AMethod owner m) = let c = chosen start p t rec owner m in bound_quiet c.method.receiver (is_some t) at c

member_quiet : (u : Around) (start at : Pos) (x : Ident) (p q : Place) (t : Option TypeRef) (rec : QName) (last : Bool) (o : Option Member) → Has IsQuiet (member_of u start at x p q t rec last o)
member_quiet u start at x p q t rec last None = no_quiet (comes u rec x.name) last start x
member_quiet u start at x p q t rec last (Some m) = found_quiet u start at p q t rec m

selected_quiet : (u : Around) (start at : Pos) (x : Ident) (p q : Place) (t : Option TypeRef) (last : Bool) (o : Option QName) → Has IsQuiet (select_of u start at x p q t last o)
selected_quiet u start at x p q t last None = tt
selected_quiet u start at x p q t last (Some rec) = member_quiet u start at x p q t rec last (member (map_of u) rec x.name)

select_quiet : (u : Around) (start at : Pos) (x : Ident) (p : Place) (last : Bool) → Has IsQuiet (select u start at x p last)
select_quiet u start at x p last =
    let t = pointed (map_of u) p.of in
    any_then IsQuiet (implicitly (map_of u) (λ t. true) at p t) (λ q. select_of u start at x p q t last (record_of (map_of u) q.of)) (λ q. selected_quiet u start at x p q t last (record_of (map_of u) q.of))

super_quiet_of : (at : Pos) (c : Chosen) (base : QName) (o : Option Member) → Has IsQuiet (super_of at c base o)
super_quiet_of at c base (Some (AMethod owner m)) = tt
super_quiet_of at c base (Some (AField owner f)) = tt
super_quiet_of at c base None = tt

super_quiet_in : (map : Map) (at : Pos) (c : Chosen) (o : Option QName) → Has IsQuiet (super_in map at c o)
super_quiet_in map at c None = tt
super_quiet_in map at c (Some base) = super_quiet_of at c base (member map base c.method.name)

super_quiet_if : (b : Bool) (map : Map) (at : Pos) (c : Chosen) (owner : QName) → Has IsQuiet (super_if b map at c owner)
super_quiet_if true map at c owner = super_quiet_in map at c (base_record map owner)
super_quiet_if false map at c owner = tt

super_quiet : (map : Map) (at : Pos) (c : Chosen) (o : Option Received) → Has IsQuiet (super map at c o)
super_quiet map at c None = tt
super_quiet map at c (Some r) = super_quiet_if (same_variable c.receiver.root r.variable && not c.receiver.selected) map at c r.owner

guard_quiet : (map : Map) (at : Pos) (p : Place) (t : TypeRef) → Has IsQuiet (guard map at p t)
guard_quiet map at p t = any_then IsQuiet (found_or rule.UnfitTypeTest at (guard_of map p t)) (λ g. sound (means.Place (guarded_by p g t at true))) (λ g. tt)

round_quiet : (u : Around) (w : Where) (start at : Pos) (p : Place) (ps : List Phrase) (q : Option Qualident) (s : Option Signature) → Has IsQuiet (place_round u w start at p ps q s)
round_quiet u w start at p ps (Some q) s = any_then IsQuiet (type_named u q) (guard (map_of u) at p) (λ t. guard_quiet (map_of u) at p t)
round_quiet u w start at p ps None (Some s) = as_call_quiet (call_variable u w start p s ps)
round_quiet u w start at p ps None None = tt

other_quiet : (u : Around) (w : Where) (start at : Pos) (m : Meant) (ps : List Phrase) (q : Option Qualident) (a b c : Bool) → Has IsQuiet (other_round u w start at m ps q a b c)
other_quiet u w start at m ps q true b c = call_quiet u w start m ps
other_quiet u w start at m ps (Some q) false true c = any_then IsQuiet (type_named u q) (λ t. breaks rule.UnfitTypeTest at) (λ t. tt)
other_quiet u w start at m ps (Some q) false false c = tt
other_quiet u w start at m ps None false b true = call_quiet u w start m ps
other_quiet u w start at m ps None false b false = tt

dot_quiet : (u : Around) (start at : Pos) (x : Ident) (last : Bool) (m : Meant) → Has IsQuiet (step_dot u start at x last m)
dot_quiet u start at x last (means.Place p) = select_quiet u start at x p last
dot_quiet u start at x last m = tt

index_quiet : (map : Map) (at : Pos) (i : Judged Valued) (m : Meant) → Has IsQuiet (step_index map at i m)
index_quiet map at i (means.Place p) = any_then IsQuiet (index map at p i) (λ q. sound (means.Place q)) (λ q. tt)
index_quiet map at i m = tt

up_quiet : (u : Around) (at : Pos) (m : Meant) → Has IsQuiet (step_up u at m)
up_quiet u at (means.Place p) = any_then IsQuiet (dereference (map_of u) at p) (λ q. sound (means.Place q)) (λ q. tt)
up_quiet u at (means.Bound c) = super_quiet (map_of u) at c u.receiver
up_quiet u at m = tt

step_round_quiet : (u : Around) (w : Where) (start at : Pos) (ps : List Phrase) (m : Meant) → Has IsQuiet (step_round u w start at ps m)
step_round_quiet u w start at ps (means.Place p) = round_quiet u w start at p ps (type_in_round u ps) (signature_at (map_of u) p.of)
step_round_quiet u w start at ps m = other_quiet u w start at m ps (type_in_round u ps) (takes_type m) (is_guardable m) (is_callable m)

step_quiet : (u : Around) (w : Where) (start : Pos) (m : Meant) (b : Behind) (last : Bool) → Has IsQuiet (step u w start m b last)
step_quiet u w start m (Dot at x) last = dot_quiet u start at x last m
step_quiet u w start m (Index at i) last = index_quiet (map_of u) at (i.value u) m
step_quiet u w start m (Up at) last = up_quiet u at m
step_quiet u w start m (Round at ps) last = step_round_quiet u w start at ps m

on_quiet : (u : Around) (bs : List Behind) (f : Meant → Judged Meant) → ((m : Meant) → IsQuiet m → Has IsQuiet (f m)) → (o : Option Meant) → IfThere IsQuiet o → Has IsQuiet (go_on_with u bs f o)
on_quiet u bs f k None h = tt
on_quiet u bs f k (Some m) h = k m h

through_quiet : (u : Around) (w : Where) (start : Pos) (bs : List Behind) (m : Meant) → IsQuiet m → Has IsQuiet (through u w start bs m)
through_quiet u w start [] m h = h
through_quiet u w start (b ∷ bs) m h =
    on_quiet u bs (λ n. through u w start bs n) (λ n k. through_quiet u w start bs n k) (step u (where_of w (nothing_behind bs)) start m b (nothing_behind bs)).node (step_quiet u (where_of w (nothing_behind bs)) start m b (nothing_behind bs))

-- ---- the name at its front

variable_quiet : (p : Judged Place) → Has IsQuiet (of_variable p)
variable_quiet p = any_then IsQuiet p (λ q. sound (means.Place q)) (λ q. tt)

exported_quiet : (u : Around) (start at : Pos) (m x : List ℕ) (d : Desc) → Has IsQuiet (exported_meant u start at m x d)
exported_quiet u start at m x (desc.Const v) = tt
exported_quiet u start at m x (desc.Var k t) = variable_quiet (variable_named u start (variable.Module m x) t (is_read_only k))
exported_quiet u start at m x (desc.Proc s) = tt
exported_quiet u start at m x d = tt

out_quiet : (at : Pos) (o : Option OutProcedure) → Has IsQuiet (out_meant at o)
out_quiet at None = tt
out_quiet at (Some p) = tt

module_quiet : (b : Bool) (u : Around) (start : Pos) (m : List ℕ) (x : Ident) → Has IsQuiet (in_module b u start m x)
module_quiet true u start m x = out_quiet x.pos (out_procedure x.name)
module_quiet false u start m x = any_then IsQuiet (exported u m x) (λ q. exported_meant u start x.pos m x.name q.1) (λ q. exported_quiet u start x.pos m x.name q.1)

front_module_quiet : (u : Around) (start : Pos) (m : List ℕ) (o : Option Ident) → Has IsQuiet (module_front u start m o)
front_module_quiet u start m None = tt
front_module_quiet u start m (Some y) = module_quiet (is_out m) u start m y

front_quiet : (u : Around) (x : Ident) (e : Entity) (dot : Option Ident) → Has IsQuiet (front_of u x e dot)
front_quiet u x (entity.Constant v) dot = tt
front_quiet u x (entity.Variable v t) dot = variable_quiet (variable_named u x.pos v t false)
front_quiet u x (entity.Procedure q s) dot = tt
front_quiet u x (entity.Forward q s) dot = tt
front_quiet u x (entity.Predeclared f) dot = tt
front_quiet u x (entity.Module m) dot = front_module_quiet u x.pos m dot
front_quiet u x e dot = tt

abbrev First : Meant × List Behind → Type 0
First p = IsQuiet p.0

from_quiet : (u : Around) (w : Where) (start : Pos) (bs : List Behind) (o : Option (Meant × List Behind)) → IfThere First o → Has IsQuiet (from_front_with u w start bs o)
from_quiet u w start bs None h = tt
from_quiet u w start bs (Some m) h = through_quiet u w start m.1 m.0 h

pub meant_quiet : (u : Around) (w : Where) (n : Named) → Has IsQuiet (meant_by w n u)
meant_quiet u w n =
    let x = n.ident in
    let bs = n.behind in
    from_quiet u w x.pos bs (front u x bs (named u x)).node
    (any_then First (named u x) (λ k. front_of u x k (dot_of bs) ▷ λ m. sound (m, behind (is_module k) bs))
    (λ k. then_has IsQuiet First (front_of u x k (dot_of bs)) (λ m. sound (m, behind (is_module k) bs)) (front_quiet u x k (dot_of bs)) (λ m h. h)))
