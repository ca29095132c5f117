-- Expressions that are constant come to constants, where names of constants do.
use Rattle.std.proofs.Common.{ℕ, List, [], ◌∷◌, Option, Some, None, Bool, true, false}
use Rattle.std.specs.Prelude.{nat_eq, length, ◌&&◌, not, is_none, is_some}
use Rattle.std.specs.List.{AllByRecursion}
use Rattle.ob_tree.specs.declared.pos.Pos.{Pos}
use Rattle.ob_tree.specs.declared.names.QName.{QName}
use Rattle.ob_tree.specs.declared.ident.Ident.{Ident}
use Rattle.ob_tree.specs.declared.ident.Mark.{Mark}
use Rattle.ob_tree.specs.declared.ident.Mark.TheVariants as mark
use Rattle.ob_tree.specs.declared.ident.Qualident.{Qualident}
use Rattle.ob_types.specs.declared.types.TypeRef.{TypeRef}
use Rattle.ob_types.specs.declared.types.Signature.{Signature}
use Rattle.ob_types.specs.declared.desc.Desc.{Desc}
use Rattle.ob_types.specs.declared.desc.Desc.TheVariants as desc
use Rattle.ob_types.specs.declared.desc.Receiver.{Receiver}
use Rattle.ob_types.specs.declared.desc.Receiver.TheVariants as receiver
use Rattle.ob_types.specs.declared.typed.Actual.{Actual}
use Rattle.ob_types.specs.declared.typed.TypedExpr.{TypedExpr}
use Rattle.ob_types.specs.declared.typed.OutProcedure.{OutProcedure}
use Rattle.ob_types.specs.declared.typed.Variable.TheVariants as variable
use Rattle.ob_types.specs.declared.typed.Callee.TheVariants as callee
use Rattle.ob_types.specs.declared.typed.TypedExpr.TheVariants as e
use Rattle.ob_types.specs.declared.typed.ExprType.{ExprType}
use Rattle.ob_types.specs.TypedKinds.{result_type}
use Rattle.ob_rules.specs.Values.{computed, value_at, constant_in}
use Rattle.ob_rules.specs.Operators.{only_value}
use Rattle.ob_rules.specs.declared.entity.Received.{Received}
use Rattle.ob_rules.specs.declared.meant.Chosen.{Chosen}
use Rattle.ob_rules.specs.declared.meant.Meant.{Meant}
use Rattle.ob_rules.specs.declared.meant.Meant.TheVariants as means
use Rattle.ob_rules.specs.declared.meant.Where.{Where}
use Rattle.ob_rules.specs.declared.broken.Predeclared.{Predeclared}
use Rattle.ob_rules.specs.declared.broken.Predeclared.TheVariants as pre
use Rattle.ob_rules.specs.declared.values.Place.{Place}
use Rattle.ob_rules.specs.declared.values.Valued.{Valued}
use Rattle.ob_rules.specs.Judged.{Judged, sound, silent, breaks, also, wants, found_or, each_sound, ◌▷◌}
use Rattle.ob_rules.specs.Shapes.{Map, Member, AField, AMethod, member, base_record, record_of, pointed, signature_at}
use Rattle.ob_rules.specs.Names.{Around, map_of, export_known, unless_hidden, type_named}
use Rattle.ob_rules.specs.Phrases.{receiver_place, Phrase, Behind, Dot, Index, Up, Round}
use Rattle.ob_rules.specs.Calls as calls
use Rattle.ob_rules.specs.Calls.{misplaced, called_with, called, call_procedure, call_variable, call_out, call_bound_sound, call_bound, actuals}
use Rattle.ob_rules.specs.Predeclared.{changed_meant, changed_as, values, parameter, asked_first, asked_second, parameters_behind, parameters, is_function, call_fit, type_parameter, extreme_of, basic_if, extreme_call, call_predeclared}
use Rattle.ob_rules.specs.declared.meant.Asked.{Asked}
use Rattle.ob_rules.specs.declared.meant.Asked.TheVariants as asked
use Rattle.ob_rules.specs.declared.broken.Rule.TheVariants as rule
use Rattle.ob_rules.specs.declared.broken.Rule.{Rule}
use Rattle.ob_rules.specs.Designators as designators
use Rattle.law_typing.specs.Known.{ConstantIs}
use Rattle.law_methods_described.proofs.Nodes.{Has, then_has, any_then, also_has, unless_has}
use Rattle.law_typing.specs.Makes.{IfThere}
use Rattle.law_body_context.proofs.Folded.{V, only_is, each_has}
use Rattle.law_body_context.proofs.Functions.{M, AreLengths, fits_is, extreme_of_is}

-- ---- parts

pub wants_has : {A : Type 0} (P : A → Type 0) (b : Bool) (which : Rule) (at : Pos) (x : A) → P x → Has P (wants b which at x)
wants_has P true which at x h = h
wants_has P false which at x h = tt

-- an expression: its value, and what it comes to as a designator
pub record PhraseIs (K : Around → Type 0) (p : Phrase) : Type 0 where
  pub value : (u : Around) → K u → Has V (p.value u)
  pub meant : (u : Around) → K u → IfThere (λ (f : Around → Judged Meant). Has M (f u)) p.meant

abbrev pub ArePhrases : (Around → Type 0) → List Phrase → Type 0
ArePhrases K ps = AllByRecursion (PhraseIs K) ps

abbrev pub BehindIs : (Around → Type 0) → Behind → Type 0
BehindIs K (Dot at x) = Unit {0}
BehindIs K (Index at i) = PhraseIs K i
BehindIs K (Up at) = Unit {0}
BehindIs K (Round at ps) = ArePhrases K ps

abbrev pub AreBehind : (Around → Type 0) → List Behind → Type 0
AreBehind K bs = AllByRecursion (BehindIs K) bs

pub behind_are : (K : Around → Type 0) (b : Bool) (bs : List Behind) → AreBehind K bs → AreBehind K (designators.behind b bs)
behind_are K true [] h = tt
behind_are K true (b ∷ bs) h = h.1
behind_are K false bs h = h

-- what is no constant
pub place_has : (j : Judged Place) → Has M (j ▷ λ q. sound (means.Place q))
place_has j = any_then M j (λ q. sound (means.Place q)) (λ q. tt)

as_call_has : (j : Judged Valued) → Has V j → Has M (designators.as_call j)
as_call_has j h = then_has V M j (λ v. sound (means.Call v)) h (λ v k. k)

also_node : (b : Bool) (at : Pos) (x : TypedExpr) (t : ExprType) → Has V (also b rule.MisplacedCall at (sound (computed x t)))
also_node true at x t = tt
also_node false at x t = tt

pub also_broken : {A : Type 0} (P : A → Type 0) (b : Bool) (which other : Rule) (at : Pos) → Has P (also b which at (breaks other at))
also_broken P true which other at = tt
also_broken P false which other at = tt

called_has : (u : Around) (w : Where) (at : Pos) (s : Signature) (ps : List Phrase) (f : List Actual → TypedExpr) → Has V (called u w at s ps f)
called_has u w at s ps f =
    any_then V (actuals u s.params ps) (called_with w at s (length ps) f)
    (λ xs. any_then V (wants (nat_eq (length ps) (length s.params)) rule.WrongParameterCount at xs) (λ ys. also (misplaced w (is_some s.result)) rule.MisplacedCall at (sound (computed (f ys) (result_type s.result)))) (λ ys. also_node (misplaced w (is_some s.result)) at (f ys) (result_type s.result)))

bound_has : (b : Bool) (u : Around) (w : Where) (at : Pos) (c : Chosen) (ps : List Phrase) → Has V (call_bound_sound b u w at c ps)
bound_has false u w at c ps = any_then V (actuals u [] ps) (λ xs. silent) (λ xs. tt)
bound_has true u w at c ps =
    also_has V (calls.is_record_receiver c.method.receiver && ((receiver_place c).read_only && is_none c.base)) rule.NotChangeable at (called u w at c.method.signature ps (λ xs. e.Call (calls.bound_callee c c.base) (calls.receiver_actual c.method.receiver c ∷ xs) at c.method.signature.result))
    (called_has u w at c.method.signature ps (λ xs. e.Call (calls.bound_callee c c.base) (calls.receiver_actual c.method.receiver c ∷ xs) at c.method.signature.result))

receiver_has : (r : Receiver) (b : Bool) (at : Pos) (c : Chosen) → Has M (designators.with_receiver r b at c)
receiver_has receiver.Pointer false at c = tt
receiver_has receiver.Pointer true at c = tt
receiver_has receiver.Record b at c = tt

there_has : (a b : Bool) (start : Pos) (x : Ident) → Has M (designators.not_there a b start x)
there_has true true start x = tt
there_has true false start x = tt
there_has false b start x = tt

found_has : (u : Around) (start at : Pos) (p q : Place) (o : Option TypeRef) (rec : QName) (m : Member) → Has M (designators.member_found u start at p q o rec m)
found_has u start at p q o rec (AField owner f) = tt
found_has u start at p q o rec (AMethod owner m) = receiver_has m.receiver (is_some o) at (designators.chosen start p o rec owner m)

member_has : (u : Around) (start at : Pos) (x : Ident) (p q : Place) (o : Option TypeRef) (rec : QName) (last : Bool) (m : Option Member) → Has M (designators.member_of u start at x p q o rec last m)
member_has u start at x p q o rec last None = there_has (designators.comes u rec x.name) last start x
member_has u start at x p q o rec last (Some m) = found_has u start at p q o rec m

select_has : (u : Around) (start at : Pos) (x : Ident) (p q : Place) (o : Option TypeRef) (last : Bool) (r : Option QName) → Has M (designators.select_of u start at x p q o last r)
select_has u start at x p q o last None = tt
select_has u start at x p q o last (Some rec) = member_has u start at x p q o rec last (member (map_of u) rec x.name)

dot_has : (u : Around) (start at : Pos) (x : Ident) (last : Bool) (m : Meant) → Has M (designators.step_dot u start at x last m)
dot_has u start at x last (means.Place p) = any_then M (designators.implicitly (map_of u) (λ t. true) at p (pointed (map_of u) p.of)) (λ q. designators.select_of u start at x p q (pointed (map_of u) p.of) last (record_of (map_of u) q.of)) (λ q. select_has u start at x p q (pointed (map_of u) p.of) last (record_of (map_of u) q.of))
dot_has u start at x last (means.Constant v) = tt
dot_has u start at x last (means.Procedure n s) = tt
dot_has u start at x last (means.Bound c) = tt
dot_has u start at x last (means.Out p) = tt
dot_has u start at x last (means.Predeclared f) = tt
dot_has u start at x last (means.Call v) = tt
dot_has u start at x last (means.Statement s) = tt

index_has : (types : Map) (at : Pos) (i : Judged Valued) (m : Meant) → Has M (designators.step_index types at i m)
index_has types at i (means.Place p) = place_has (designators.index types at p i)
index_has types at i (means.Constant v) = tt
index_has types at i (means.Procedure n s) = tt
index_has types at i (means.Bound c) = tt
index_has types at i (means.Out p) = tt
index_has types at i (means.Predeclared f) = tt
index_has types at i (means.Call v) = tt
index_has types at i (means.Statement s) = tt

super_of_has : (at : Pos) (c : Chosen) (base : QName) (m : Option Member) → Has M (designators.super_of at c base m)
super_of_has at c base None = tt
super_of_has at c base (Some (AField o f)) = tt
super_of_has at c base (Some (AMethod o m)) = tt

super_in_has : (types : Map) (at : Pos) (c : Chosen) (o : Option QName) → Has M (designators.super_in types at c o)
super_in_has types at c None = tt
super_in_has types at c (Some base) = super_of_has at c base (member types base c.method.name)

super_if_has : (b : Bool) (types : Map) (at : Pos) (c : Chosen) (owner : QName) → Has M (designators.super_if b types at c owner)
super_if_has true types at c owner = super_in_has types at c (base_record types owner)
super_if_has false types at c owner = tt

super_has : (types : Map) (at : Pos) (c : Chosen) (r : Option Received) → Has M (designators.super types at c r)
super_has types at c None = tt
super_has types at c (Some r) = super_if_has (designators.same_variable c.receiver.root r.variable && not c.receiver.selected) types at c r.owner

up_has : (u : Around) (at : Pos) (m : Meant) → Has M (designators.step_up u at m)
up_has u at (means.Place p) = place_has (designators.dereference (map_of u) at p)
up_has u at (means.Bound c) = super_has (map_of u) at c u.receiver
up_has u at (means.Constant v) = tt
up_has u at (means.Procedure n s) = tt
up_has u at (means.Out p) = tt
up_has u at (means.Predeclared f) = tt
up_has u at (means.Call v) = tt
up_has u at (means.Statement s) = tt

place_round_has : (u : Around) (w : Where) (start at : Pos) (p : Place) (ps : List Phrase) (q : Option Qualident) (s : Option Signature) → Has M (designators.place_round u w start at p ps q s)
place_round_has u w start at p ps (Some q) s = any_then M (type_named u q) (designators.guard (map_of u) at p) (λ t. any_then M (found_or rule.UnfitTypeTest at (designators.guard_of (map_of u) p t)) (λ g. sound (means.Place (designators.guarded_by p g t at true))) (λ g. tt))
place_round_has u w start at p ps None (Some s) = as_call_has (call_variable u w start p s ps) (called_has u w start s ps (λ xs. e.CallVariable p.designator.inner xs start s.result))
place_round_has u w start at p ps None None = tt

-- ---- the names of constants, and predeclared procedures

-- a description of a constant
abbrev pub DescIs : Desc → Type 0
DescIs (desc.Const v) = ConstantIs v
DescIs d = Unit {0}

pub marked_has : (q : QName) (at : Pos) (m : Mark) (d : Desc) → DescIs d → Has (λ (e : QName × Desc). DescIs e.1) (export_known q at (unless_hidden m d))
marked_has q at mark.Full d h = h
marked_has q at mark.ReadOnly d h = h
marked_has q at mark.Hidden d h = tt

pub out_has : (at : Pos) (o : Option OutProcedure) → Has M (designators.out_meant at o)
out_has at None = tt
out_has at (Some p) = tt

pub meant_exported : (u : Around) (start at : Pos) (m x : List ℕ) (d : Desc) → DescIs d → Has M (designators.exported_meant u start at m x d)
meant_exported u start at m x (desc.Const v) h = h
meant_exported u start at m x (desc.Var k t) h = place_has (designators.variable_named u start (variable.Module m x) t (designators.is_read_only k))
meant_exported u start at m x (desc.Proc s) h = tt
meant_exported u start at m x (desc.Alias k t) h = tt
meant_exported u start at m x (desc.Array k n t) h = tt
meant_exported u start at m x (desc.OpenArray k t) h = tt
meant_exported u start at m x (desc.Pointer k t) h = tt
meant_exported u start at m x (desc.ProcType k s) h = tt
meant_exported u start at m x (desc.Record r) h = tt

changed_has : (start : Pos) (m : Meant) → M m → Has V (changed_meant start m)
changed_has start (means.Place p) h = unless_has V p.read_only rule.NotChangeable start (value_at p) tt
changed_has start (means.Call x) h = only_is x h
changed_has start (means.Constant v) h = tt
changed_has start (means.Procedure n s) h = tt
changed_has start (means.Bound c) h = tt
changed_has start (means.Out p) h = tt
changed_has start (means.Predeclared f) h = tt
changed_has start (means.Statement s) h = tt

extreme_has : (max : Bool) (u : Around) (w : Where) (at : Pos) (ps : List Phrase) → Has M (extreme_call max u w at ps)
extreme_has max u w at [] = also_broken M (misplaced w true) rule.MisplacedCall rule.UnfitPredeclaredParameters at
extreme_has max u w at (p ∷ []) = any_then M (type_parameter u p p.name) (λ t. also (misplaced w true) rule.MisplacedCall at (extreme_of max at t (basic_if (map_of u) t))) (λ t. also_has M (misplaced w true) rule.MisplacedCall at (extreme_of max at t (basic_if (map_of u) t)) (extreme_of_is max at t (basic_if (map_of u) t)))
extreme_has max u w at (p ∷ q ∷ ps) = any_then M (type_parameter u p p.name) (λ t. each_sound (values u (q ∷ ps)) ▷ λ xs. also (misplaced w true) rule.MisplacedCall at (breaks rule.UnfitPredeclaredParameters at)) (λ t. any_then M (each_sound (values u (q ∷ ps))) (λ xs. also (misplaced w true) rule.MisplacedCall at (breaks rule.UnfitPredeclaredParameters at)) (λ xs. also_broken M (misplaced w true) rule.MisplacedCall rule.UnfitPredeclaredParameters at))

module _ (K : Around → Type 0) (u : Around) (k : K u) (lengths : AreLengths (map_of u)) where
  meant_or_value : (p : Phrase) → PhraseIs K p → (o : Option (Around → Judged Meant)) → IfThere (λ (f : Around → Judged Meant). Has M (f u)) o → Has V (changed_as u p o)
  meant_or_value p h None g = then_has V V (p.value u) (λ x. sound (only_value x)) (h.value u k) (λ x i. only_is x i)
  meant_or_value p h (Some f) g = then_has M V (f u) (changed_meant p.start) g (λ m i. changed_has p.start m i)

  parameter_has : (a : Asked) (p : Phrase) → PhraseIs K p → Has V (parameter u a p)
  parameter_has asked.Value p h = h.value u k
  parameter_has asked.Changed p h = meant_or_value p h p.meant (h.meant u k)
  parameter_has asked.Constant p h = then_has V V (p.value u) (λ x. wants (is_some (constant_in x)) rule.NotConstant p.start x) (h.value u k) (λ x i. wants_has V (is_some (constant_in x)) rule.NotConstant p.start x i)

  values_have : (ps : List Phrase) → ArePhrases K ps → AllByRecursion (Has V) (values u ps)
  values_have [] h = tt
  values_have (p ∷ ps) h = (h.0.value u k, values_have ps h.1)

  behind_have : (f : Predeclared) (ps : List Phrase) → ArePhrases K ps → AllByRecursion (Has V) (parameters_behind u f ps)
  behind_have f [] h = tt
  behind_have f (p ∷ ps) h = (parameter_has (asked_second f) p h.0, values_have ps h.1)

  parameters_have : (f : Predeclared) (ps : List Phrase) → ArePhrases K ps → AllByRecursion (Has V) (parameters u f ps)
  parameters_have f [] h = tt
  parameters_have f (p ∷ ps) h = (parameter_has (asked_first f) p h.0, behind_have f ps h.1)

  fitted : (w : Where) (at : Pos) (f : Predeclared) (ps : List Phrase) → ArePhrases K ps → Has M (each_sound (parameters u f ps) ▷ call_fit u w f at)
  fitted w at f ps h = then_has (AllByRecursion V) M (each_sound (parameters u f ps)) (call_fit u w f at) (each_has V (parameters u f ps) (parameters_have f ps h)) (λ xs i. fits_is (map_of u) lengths (misplaced w (is_function f)) f at xs i)

  predeclared_has : (w : Where) (at : Pos) (f : Predeclared) (ps : List Phrase) → ArePhrases K ps → Has M (call_predeclared u w at f ps)
  predeclared_has w at pre.Max ps h = extreme_has true u w at ps
  predeclared_has w at pre.Min ps h = extreme_has false u w at ps
  predeclared_has w at pre.Abs ps h = fitted w at pre.Abs ps h
  predeclared_has w at pre.Ash ps h = fitted w at pre.Ash ps h
  predeclared_has w at pre.Cap ps h = fitted w at pre.Cap ps h
  predeclared_has w at pre.Chr ps h = fitted w at pre.Chr ps h
  predeclared_has w at pre.Len ps h = fitted w at pre.Len ps h
  predeclared_has w at pre.Long ps h = fitted w at pre.Long ps h
  predeclared_has w at pre.Odd ps h = fitted w at pre.Odd ps h
  predeclared_has w at pre.Ord ps h = fitted w at pre.Ord ps h
  predeclared_has w at pre.Short ps h = fitted w at pre.Short ps h
  predeclared_has w at pre.Assert ps h = fitted w at pre.Assert ps h
  predeclared_has w at pre.Copy ps h = fitted w at pre.Copy ps h
  predeclared_has w at pre.Dec ps h = fitted w at pre.Dec ps h
  predeclared_has w at pre.Excl ps h = fitted w at pre.Excl ps h
  predeclared_has w at pre.Halt ps h = fitted w at pre.Halt ps h
  predeclared_has w at pre.Inc ps h = fitted w at pre.Inc ps h
  predeclared_has w at pre.Incl ps h = fitted w at pre.Incl ps h
  predeclared_has w at pre.New ps h = fitted w at pre.New ps h

  call_has : (w : Where) (start : Pos) (m : Meant) (ps : List Phrase) → ArePhrases K ps → Has M (designators.call_meant u w start m ps)
  call_has w start (means.Procedure n s) ps h = as_call_has (call_procedure u w start n s ps) (called_has u w start s ps (λ xs. e.Call (callee.Declared n) xs start s.result))
  call_has w start (means.Bound c) ps h = as_call_has (call_bound u w start c ps) (bound_has (calls.nearest_sound u 201 (calls.where_from c c.base) c.method.name) u w start c ps)
  call_has w start (means.Out p) ps h = as_call_has (call_out u w start p ps) (called_has u w start (calls.out_signature p) ps (λ xs. e.Call (callee.Out p) xs start None))
  call_has w start (means.Predeclared f) ps h = predeclared_has w start f ps h
  call_has w start (means.Place p) ps h = tt
  call_has w start (means.Constant v) ps h = tt
  call_has w start (means.Call x) ps h = tt
  call_has w start (means.Statement s) ps h = tt

  other_has : (w : Where) (start at : Pos) (m : Meant) (ps : List Phrase) → ArePhrases K ps → (q : Option Qualident) (a b c : Bool) → Has M (designators.other_round u w start at m ps q a b c)
  other_has w start at m ps h None true b c = call_has w start m ps h
  other_has w start at m ps h (Some q) true b c = call_has w start m ps h
  other_has w start at m ps h (Some q) false true c = any_then M (type_named u q) (λ t. breaks rule.UnfitTypeTest at) (λ t. tt)
  other_has w start at m ps h (Some q) false false c = tt
  other_has w start at m ps h None false true true = call_has w start m ps h
  other_has w start at m ps h None false false true = call_has w start m ps h
  other_has w start at m ps h None false true false = tt
  other_has w start at m ps h None false false false = tt

  round_has : (w : Where) (start at : Pos) (ps : List Phrase) → ArePhrases K ps → (m : Meant) → Has M (designators.step_round u w start at ps m)
  round_has w start at ps h (means.Place p) = place_round_has u w start at p ps (designators.type_in_round u ps) (signature_at (map_of u) p.of)
  round_has w start at ps h (means.Constant v) = other_has w start at (means.Constant v) ps h (designators.type_in_round u ps) (designators.takes_type (means.Constant v)) (designators.is_guardable (means.Constant v)) (designators.is_callable (means.Constant v))
  round_has w start at ps h (means.Procedure n s) = other_has w start at (means.Procedure n s) ps h (designators.type_in_round u ps) (designators.takes_type (means.Procedure n s)) (designators.is_guardable (means.Procedure n s)) (designators.is_callable (means.Procedure n s))
  round_has w start at ps h (means.Bound c) = other_has w start at (means.Bound c) ps h (designators.type_in_round u ps) (designators.takes_type (means.Bound c)) (designators.is_guardable (means.Bound c)) (designators.is_callable (means.Bound c))
  round_has w start at ps h (means.Out p) = other_has w start at (means.Out p) ps h (designators.type_in_round u ps) (designators.takes_type (means.Out p)) (designators.is_guardable (means.Out p)) (designators.is_callable (means.Out p))
  round_has w start at ps h (means.Predeclared f) = other_has w start at (means.Predeclared f) ps h (designators.type_in_round u ps) (designators.takes_type (means.Predeclared f)) (designators.is_guardable (means.Predeclared f)) (designators.is_callable (means.Predeclared f))
  round_has w start at ps h (means.Call x) = other_has w start at (means.Call x) ps h (designators.type_in_round u ps) (designators.takes_type (means.Call x)) (designators.is_guardable (means.Call x)) (designators.is_callable (means.Call x))
  round_has w start at ps h (means.Statement s) = other_has w start at (means.Statement s) ps h (designators.type_in_round u ps) (designators.takes_type (means.Statement s)) (designators.is_guardable (means.Statement s)) (designators.is_callable (means.Statement s))

  step_has : (w : Where) (start : Pos) (m : Meant) (b : Behind) → BehindIs K b → (last : Bool) → Has M (designators.step u w start m b last)
  step_has w start m (Dot at x) h last = dot_has u start at x last m
  step_has w start m (Index at i) h last = index_has (map_of u) at (i.value u) m
  step_has w start m (Up at) h last = up_has u at m
  step_has w start m (Round at ps) h last = round_has w start at ps h m

  go_has : (bs : List Behind) (f : Meant → Judged Meant) (o : Option Meant) → IfThere M o → ((m : Meant) → M m → Has M (f m)) → Has M (designators.go_on_with u bs f o)
  go_has bs f None h g = tt
  go_has bs f (Some m) h g = g m h

  through_has : (w : Where) (start : Pos) (bs : List Behind) → AreBehind K bs → (m : Meant) → M m → Has M (designators.through u w start bs m)
  through_has w start [] h m i = i
  through_has w start (b ∷ bs) h m i = go_has bs (λ n. designators.through u w start bs n) (designators.step u (designators.where_of w (designators.nothing_behind bs)) start m b (designators.nothing_behind bs)).node (step_has (designators.where_of w (designators.nothing_behind bs)) start m b h.0 (designators.nothing_behind bs)) (λ n j. through_has w start bs h.1 n j)

  pub from_has : (w : Where) (start : Pos) (bs : List Behind) (o : Option (Meant × List Behind)) → IfThere (λ (p : Meant × List Behind). M p.0 × AreBehind K p.1) o → Has M (designators.from_front_with u w start bs o)
  from_has w start bs None h = tt
  from_has w start bs (Some p) h = through_has w start p.1 h.1 p.0 h.0
