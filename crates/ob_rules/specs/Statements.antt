-- Statements.
use Rattle.std.specs.Prelude.{Bool, true, false, not, ◌&&◌, ◌||◌, List, [], ◌∷◌, ◌++◌, map, Option, Some, None, is_some, ℤ, pos, negsuc, int_le, nat_lt, unsigned_abs}
use Rattle.std.specs.List.{list_any}
use Rattle.std.specs.Ordering.{int_eq}
use Rattle.ob_tree.specs.declared.pos.Pos.{Pos}
use Rattle.ob_tree.specs.declared.names.QName.{QName}
use Rattle.ob_tree.specs.declared.ident.Ident.{Ident}
use Rattle.ob_tree.specs.declared.ident.Qualident.{Qualident}
use Rattle.ob_tree.specs.declared.expr.Expr.{Expr}
use Rattle.ob_tree.specs.declared.expr.Element.{Element}
use Rattle.ob_tree.specs.declared.stmt.Guard.{Guard}
use Rattle.ob_tree.specs.declared.stmt.Stmt.{Stmt}
use Rattle.ob_tree.specs.declared.stmt.Stmt.TheOpen.{Stmt-F, Branch-F, Case-F, GuardedBranch-F}
use Rattle.ob_tree.specs.declared.stmt.Branch.{Branch}
use Rattle.ob_tree.specs.declared.stmt.Case.{Case}
use Rattle.ob_tree.specs.declared.stmt.GuardedBranch.{GuardedBranch}
use Rattle.ob_tree.specs.declared.stmt.Stmt.TheFolds.{fold-Stmt, fold-Branch, fold-Case, fold-GuardedBranch}
use Rattle.ob_types.specs.declared.types.Basic.TheVariants as basic
use Rattle.ob_types.specs.declared.types.TypeRef.{TypeRef}
use Rattle.ob_types.specs.declared.types.TypeRef.TheVariants as ref
use Rattle.ob_types.specs.declared.types.Signature.{Signature}
use Rattle.ob_types.specs.declared.value.Value.{Value}
use Rattle.ob_types.specs.declared.value.Value.TheVariants as literal
use Rattle.ob_types.specs.declared.typed.Width.{Width}
use Rattle.ob_types.specs.declared.typed.Width.TheVariants as width
use Rattle.ob_types.specs.declared.typed.Variable.{Variable}
use Rattle.ob_types.specs.declared.typed.Variable.TheVariants as variable
use Rattle.ob_types.specs.declared.typed.Guarded.{Guarded}
use Rattle.ob_types.specs.declared.typed.Guarded.TheVariants as guarded
use Rattle.ob_types.specs.declared.typed.Assigned.{Assigned}
use Rattle.ob_types.specs.declared.typed.Assigned.TheVariants as assigned
use Rattle.ob_types.specs.declared.typed.Label.{Label}
use Rattle.ob_types.specs.declared.typed.TypedExpr.{TypedExpr}
use Rattle.ob_types.specs.declared.typed.TypedExpr.TheVariants as e
use Rattle.ob_types.specs.declared.typed.TypedStmt.{TypedStmt}
use Rattle.ob_types.specs.declared.typed.TypedStmt.TheVariants as stmt
use Rattle.ob_types.specs.declared.typed.TypedBranch.{TypedBranch, roll-TypedBranch}
use Rattle.ob_types.specs.declared.typed.TypedCase.{TypedCase, roll-TypedCase}
use Rattle.ob_types.specs.TypedKinds.{smallest}
use Rattle.ob_rules.specs.declared.entity.Entity.{Entity}
use Rattle.ob_rules.specs.declared.entity.Known.{Known}
use Rattle.ob_rules.specs.declared.meant.Meant.{Meant}
use Rattle.ob_rules.specs.declared.entity.Entity.TheVariants as entity
use Rattle.ob_rules.specs.declared.meant.Meant.TheVariants as means
use Rattle.ob_rules.specs.declared.meant.Where.TheVariants.{InExpression, AsStatement, Elsewhere}
use Rattle.ob_rules.specs.Judged.{Judged, Notes, sound, silent, breaks, also, wants, unless, both, each_sound, if_there, made, noted, joined, no_notes, broken_at, ◌▷◌}
use Rattle.ob_rules.specs.Shapes.{Map, is_structured, is_array, record_of, signature_at, width_of, basic_of, is_pointer, pointed_record}
use Rattle.ob_rules.specs.Names.{Around, map_of, named, type_named, find_name}
use Rattle.ob_rules.specs.declared.meant.Selects.{Selects}
use Rattle.ob_rules.specs.declared.meant.Selects.TheVariants as selecting
use Rattle.ob_rules.specs.declared.values.Place.{Place}
use Rattle.ob_rules.specs.declared.values.Valued.{Valued}
use Rattle.ob_rules.specs.declared.values.Valued.TheVariants as valued
use Rattle.ob_rules.specs.declared.broken.Rule.TheVariants as rule
use Rattle.ob_rules.specs.Values.{constant, value_at, is, width as width_in, is_integer, fits, text_of, text_tree, tree, type, constant_in, place_in}
use Rattle.ob_rules.specs.Phrases.{Phrase, Behind, Dot}
use Rattle.ob_rules.specs.Calls.{call_variable}
use Rattle.ob_rules.specs.Designators.{call_meant, variable_named, guard_of, designates}
use Rattle.ob_rules.specs.Expressions.{phrase_of, named_of, ranged_of, Named, Ranged, meant_by, constant_value, value_meant}
use Rattle.ob_rules.specs.Types.{first_of}

-- what a statement comes to: none where it is empty
abbrev pub Judging : Type 0
Judging = Around → Judged (List TypedStmt)

abbrev pub one : TypedStmt → Judged (List TypedStmt)
one s = sound (s ∷ [])

-- one after the other
abbrev pub in_turn : List Judging → Around → Judged (List TypedStmt)
in_turn [] u = sound []
in_turn (f ∷ fs) u = both (f u) (in_turn fs u) ▷ λ p. sound (p.0 ++ p.1)

abbrev pub in_turn_if : Option (List Judging) → Around → Judged (Option (List TypedStmt))
in_turn_if None u = sound None
in_turn_if (Some fs) u = made (λ x. Some x) (in_turn fs u)

-- ASSIGNMENTS

-- rule 26: a constant, a procedure, a call or a read-only thing is assigned to
abbrev pub target : Pos → Meant → Judged Place
target start (means.Place p) = unless p.read_only rule.NotChangeable start p
target start m = breaks rule.NotChangeable start

abbrev pub assigned_as : Bool → Option QName → Bool → Assigned
assigned_as true q array = assigned.Text
assigned_as false (Some q) array = assigned.Record q
assigned_as false None true = assigned.Array
assigned_as false None false = assigned.Scalar

abbrev pub assignment_of : Map → Place → Valued → Assigned
assignment_of map p x = assigned_as (is_array map p.of && is_some (text_of x)) (record_of map p.of) (is_array map p.of)

abbrev pub assigned_tree : Bool → Valued → TypedExpr
assigned_tree true x = text_tree x
assigned_tree false x = (tree x)

-- rule 31: a value is not assignable
abbrev pub assigns : Map → Pos → Place → Valued → Judged (List TypedStmt)
assigns map at p x = wants (fits map p.of x) rule.NotAssignable at (stmt.Assign p.designator.inner (assignment_of map p x) (assigned_tree (is_array map p.of) x) at ∷ [])

abbrev pub assignment : Around → Named → Pos → Phrase → Judged (List TypedStmt)
assignment u n at x = both (meant_by Elsewhere n u ▷ target n.ident.pos) (x.value u) ▷ λ p. assigns (map_of u) at p.0 p.1

-- CALLS

abbrev pub call_value : Valued → Judged (List TypedStmt)
call_value x = one (stmt.Call (tree x))

-- the name of a constant, of its module behind a dot
abbrev pub constant_at : Ident → List Behind → Pos
constant_at x [] = x.pos
constant_at x (Dot at y ∷ bs) = y.pos
constant_at x (b ∷ bs) = x.pos

abbrev pub done : Meant → Judged (List TypedStmt)
done (means.Call x) = one (stmt.Call (tree x))
done (means.Statement s) = one s.inner
done m = silent

-- rule 27: a designator of a variable, without a call, whose type is no procedure type
abbrev pub place_called : Around → Pos → Place → Option Signature → Judged (List TypedStmt)
place_called u start p None = breaks rule.MisplacedCall start
place_called u start p (Some s) = call_variable u AsStatement start p s [] ▷ call_value

-- a statement that is a designator: a call, also without round brackets. Rule 3: the name of a constant
abbrev pub called : Around → Named → Meant → Judged (List TypedStmt)
called u n (means.Place p) = place_called u n.ident.pos p (signature_at (map_of u) p.of)
called u n (means.Constant v) = breaks rule.WrongKind (constant_at n.ident n.behind)
called u n (means.Call x) = call_value x
called u n (means.Statement s) = one s.inner
called u n m = call_meant u AsStatement n.ident.pos m [] ▷ done

-- CONDITIONS

-- rule 32: a condition is not BOOLEAN
abbrev pub condition : Around → Phrase → Judged TypedExpr
condition u x = x.value u ▷ λ v. wants (is (map_of u) basic.Boolean v) rule.NotBoolean x.start (tree v)

abbrev pub branch_of : Judged TypedExpr → Judged (List TypedStmt) → Judged TypedBranch
branch_of c b = made (λ p. roll-TypedBranch (record { test = p.0; body = p.1 })) (both c b)

abbrev pub empty_if_none : Option (List TypedStmt) → List TypedStmt
empty_if_none None = []
empty_if_none (Some xs) = xs

-- CASE

abbrev pub selects_by : Bool → Option Width → Option Selects
selects_by true w = Some selecting.Characters
selects_by false (Some w) = Some (selecting.Integers w)
selects_by false None = None

abbrev pub selects : Map → Valued → Option Selects
selects map x = selects_by (is map basic.Char x) (width_in map x)

-- rule 33: a value is neither integer nor CHAR
abbrev pub case_value : Map → Pos → Valued → Judged Valued
case_value map start x = wants (is_some (selects map x)) rule.UnfitCase start x

abbrev pub within : Width → Width → Bool
within width.LongInt w = true
within width.Integer width.LongInt = false
within width.Integer w = true
within width.ShortInt width.ShortInt = true
within width.ShortInt w = false

abbrev pub width_of_number : ℤ → Width
width_of_number (pos n) = smallest n
width_of_number (negsuc n) = smallest n

abbrev pub label_if : Bool → ℤ → Option ℤ
label_if true z = Some z
label_if false z = None

abbrev pub label_value : Selects → Value → Option ℤ
label_value selecting.Characters (literal.Char c) = Some (pos c)
label_value (selecting.Integers w) (literal.Int z) = label_if (within w (width_of_number z)) z
label_value s v = None

abbrev pub overlaps : ℤ → ℤ → Label → Bool
overlaps low high l = int_le l.low high && int_le low l.high

abbrev pub range_if : Bool → Pos → ℤ → ℤ → Judged Label
range_if true at low high = sound (record { low = low; high = high })
range_if false at low high = breaks rule.UnfitCase at

abbrev pub label_ranged : Pos → List Label → ℤ → ℤ → Judged Label
label_ranged at before low high = range_if (int_le low high && not (list_any (overlaps low high) before)) at low high

-- rule 33: a label is of the other kind, or of an integer type that the value's type does not include, is an empty range, or occurs twice
abbrev pub label_of : Pos → List Label → Option ℤ → Option ℤ → Judged Label
label_of at before (Some low) (Some high) = label_ranged at before low high
label_of at before low high = breaks rule.UnfitCase at

abbrev pub label_as : Option Selects → Pos → List Label → Value → Value → Judged Label
label_as None at before low high = silent
label_as (Some s) at before low high = label_of at before (label_value s low) (label_value s high)

abbrev pub both_ends : Value → Option Value → Value × Value
both_ends low None = (low, low)
both_ends low (Some high) = (low, high)

abbrev pub high_if : Around → Option Phrase → Judged (Option Value)
high_if u None = sound None
high_if u (Some p) = made (λ v. Some v) (constant_value u p)

abbrev pub label_both : Option Selects → Pos → List Label → Value × Value → Judged Label
label_both s at before p = label_as s at before p.0 p.1

abbrev pub label : Around → Option Selects → List Label → Ranged → Judged Label
label u s before r = both (constant_value u r.low) (high_if u r.high) ▷ λ p. label_both s r.low.start before (both_ends p.0 p.1)

-- labels in the order of the text, each after those before it
pub record Labels : Type 0 where
  pub found : Judged (List Label)
  pub before : List Label

abbrev pub with_label : List Label → Option Label → List Label
with_label ls None = ls
with_label ls (Some l) = ls ++ l ∷ []

abbrev pub then_labels : Judged Label → Labels → Labels
then_labels l rest = record { found = both l rest.found ▷ λ p. sound (p.0 ∷ p.1); before = rest.before }

abbrev pub labels_behind : Judged Label → List Label → (List Label → Labels) → Labels
labels_behind l before f = then_labels l (f (with_label before l.node))

abbrev pub labels : Around → Option Selects → List Label → List Ranged → Labels
labels u s before [] = record { found = sound []; before = before }
labels u s before (x ∷ xs) = labels_behind (label u s before x) before (λ after. labels u s after xs)

pub record Labelled : Type 0 where
  pub labels : List Ranged
  pub body : List Judging

abbrev pub case_of : Judged (List Label) → Judged (List TypedStmt) → Judged TypedCase
case_of ls b = made (λ p. roll-TypedCase (record { labels = p.0; body = p.1 })) (both ls b)

abbrev pub case_behind : Labels → Judged (List TypedStmt) → (List Label → Judged (List TypedCase)) → Judged (List TypedCase)
case_behind ls b f = both (case_of ls.found b) (f ls.before) ▷ λ p. sound (p.0 ∷ p.1)

abbrev pub cases : Around → Option Selects → List Label → List Labelled → Judged (List TypedCase)
cases u s before [] = sound []
cases u s before (c ∷ cs) = case_behind (labels u s before c.labels) (in_turn c.body u) (λ after. cases u s after cs)

abbrev pub selects_if : Map → Option Valued → Option Selects
selects_if map None = None
selects_if map (Some x) = selects map x

abbrev pub case_with : Around → Pos → Judged Valued → List Labelled → Option (List Judging) → Judged (List TypedStmt)
case_with u at x cs otherwise = both x (both (cases u (selects_if (map_of u) x.node) [] cs) (in_turn_if otherwise u)) ▷ λ p. one (stmt.Case (tree p.0) p.1.0 p.1.1 at)

abbrev pub case_judged : Around → Phrase → Judged Valued
case_judged u x = x.value u ▷ case_value (map_of u) x.start

abbrev pub case : Around → Pos → Phrase → List Labelled → Option (List Judging) → Judged (List TypedStmt)
case u at x cs otherwise = case_with u at (case_judged u x) cs otherwise

-- FOR

-- rule 34: the variable is no integer variable
abbrev pub integer_place : Map → Pos → Place → Judged Place
integer_place map at p = wants (is_some (width_of (basic_of map p.of))) rule.UnfitFor at p

-- rule 3: a type or a module there
abbrev pub for_variable : Around → Pos → Ident → Entity → Judged Place
for_variable u at x (entity.Variable v t) = variable_named u x.pos v t false ▷ λ p. integer_place (map_of u) at p
for_variable u at x (entity.TypeName t) = breaks rule.WrongKind x.pos
for_variable u at x (entity.Module m) = breaks rule.WrongKind x.pos
for_variable u at x e = breaks rule.UnfitFor at

-- rule 34: start or end is not assignable to it
abbrev pub for_bound : Map → Pos → Place → Valued → Judged TypedExpr
for_bound map at p x = wants (fits map p.of x) rule.UnfitFor at (tree x)

abbrev pub step_value : Pos → Value → Judged ℤ
step_value at (literal.Int z) = unless (int_eq z (pos 0)) rule.UnfitFor at z
step_value at v = breaks rule.UnfitFor at

-- rule 34: the step is no integer, or 0; rule 10: it is not constant
abbrev pub step_of : Around → Pos → Phrase → Judged ℤ
step_of u at x = constant_value u x ▷ step_value at

abbrev pub for_step : Around → Pos → Option Phrase → Judged ℤ
for_step u at None = sound (pos 1)
for_step u at (Some x) = step_of u at x

abbrev pub width_or_long : Option Width → Width
width_or_long None = width.LongInt
width_or_long (Some w) = w

abbrev pub for_made : Map → Pos → Place → TypedExpr × TypedExpr → ℤ → List TypedStmt → TypedStmt
for_made map at p bounds step body = stmt.For p.root (width_or_long (width_of (basic_of map p.of))) bounds.0 bounds.1 step body at

-- a bound is judged, and where the variable is sound, whether it fits
abbrev pub bound_if : Map → Pos → Option Place → Judged Valued → Judged TypedExpr
bound_if map at None x = noted x.notes silent
bound_if map at (Some p) x = x ▷ for_bound map at p

abbrev pub for_parts : Map → Pos → Option Place → Judged ((TypedExpr × TypedExpr) × (ℤ × List TypedStmt)) → Judged (List TypedStmt)
for_parts map at None r = noted r.notes silent
for_parts map at (Some p) r = r ▷ λ q. one (for_made map at p q.0 q.1.0 q.1.1)

abbrev pub for_with : Map → Pos → Option Place → Judged Valued → Judged Valued → Judged ℤ → Judged (List TypedStmt) → Judged (List TypedStmt)
for_with map at v a b step body = for_parts map at v (both (both (bound_if map at v a) (bound_if map at v b)) (both step body))

abbrev pub for : Around → Pos → Ident → Phrase → Phrase → Option Phrase → List Judging → Judged (List TypedStmt)
for u at x a b step body =
    noted (named u x ▷ for_variable u at x).notes (for_with (map_of u) at (named u x ▷ for_variable u at x).node (a.value u) (b.value u) (for_step u at step) (in_turn body u))

-- LOOP, EXIT, RETURN

-- rule 35: EXIT outside a LOOP of its procedure
abbrev pub exit : Around → Pos → Judged (List TypedStmt)
exit u at = wants u.in_loop rule.MisplacedExit at (stmt.Exit ∷ [])

-- rule 36: RETURN with or without a value against the heading, or with one that is not assignable
abbrev pub returned : Map → Pos → Option TypeRef → Valued → Judged (List TypedStmt)
returned map at None x = breaks rule.UnfitReturn at
returned map at (Some t) x = wants (fits map t x) rule.UnfitReturn at (stmt.Return (Some (tree x)) ∷ [])

abbrev pub return_none : Pos → Option TypeRef → Judged (List TypedStmt)
return_none at None = one (stmt.Return None)
return_none at (Some t) = breaks rule.UnfitReturn at

abbrev pub return_of : Around → Pos → Phrase → Judged (List TypedStmt)
return_of u at x = x.value u ▷ returned (map_of u) at u.result

abbrev pub return : Around → Pos → Option Phrase → Judged (List TypedStmt)
return u at None = return_none at u.result
return u at (Some x) = return_of u at x

-- WITH

-- rule 3: what stands before a dot is no module
abbrev pub with_module : Around → Ident → Ident → Entity → Judged Meant
with_module u m x (entity.Module n) = designates u InExpression m (Dot x.pos x ∷ [])
with_module u m x e = breaks rule.WrongKind m.pos

abbrev pub with_named : Around → Ident → Ident → Judged Meant
with_named u m x = named u m ▷ with_module u m x

abbrev pub with_qualified_by : Around → Ident → Ident → Entity → Judged Meant
with_qualified_by u m x (entity.Variable v t) = breaks rule.WrongKind m.pos
with_qualified_by u m x e = with_named u m x

abbrev pub with_qualified : Around → Ident → Ident → Option Known → Judged Meant
with_qualified u m x None = breaks rule.NotDeclared m.pos
with_qualified u m x (Some k) = with_qualified_by u m x k.what

abbrev pub with_meant : Around → Option Ident → Ident → Judged Meant
with_meant u None x = designates u InExpression x []
with_meant u (Some m) x = with_qualified u m x (find_name u.known m.name)

-- rule 37: the variable is neither a pointer variable nor a VAR record parameter
abbrev pub with_place : Map → Pos → Meant → Judged Place
with_place map at (means.Place p) = wants (is_pointer map p.of || p.var_record) rule.UnfitWith at p
with_place map at m = breaks rule.UnfitWith at

-- rule 37: its type is no extension
abbrev pub with_guard : Pos → Place → Option (Guarded × QName) → TypeRef → Judged (Place × (Guarded × QName))
with_guard at p None t = breaks rule.UnfitWith at
with_guard at p (Some g) t = sound (p, g)

abbrev pub guard_test : Place → Guarded → QName → TypedExpr
guard_test p guarded.Pointer q = e.IsPointer (e.Designator p.designator.inner) q
guard_test p guarded.Record q = e.IsRecord p.designator.inner q

-- the variable that the body means by the name, also where a rule is broken at it
abbrev pub variable_in : Entity → Option Variable
variable_in (entity.Variable v t) = Some v
variable_in e = None

abbrev pub variable_behind : Ident → Entity → Option Variable
variable_behind x (entity.Module m) = Some (variable.Module m x.name)
variable_behind x e = None

abbrev pub entity_variable : Option Known → Option Variable
entity_variable None = None
entity_variable (Some k) = variable_in k.what

abbrev pub module_variable : Ident → Option Known → Option Variable
module_variable x None = None
module_variable x (Some k) = variable_behind x k.what

abbrev pub variable_meant : Around → Option Ident → Ident → Option Variable
variable_meant u None x = entity_variable (find_name u.known x.name)
variable_meant u (Some m) x = module_variable x (find_name u.known m.name)

abbrev pub guarded_around : Around → Option Variable → Option TypeRef → Around
guarded_around u None t = u
guarded_around u (Some v) t = record u { guards = u.guards ++ (v, t) ∷ [] }

abbrev pub type_if : {A : Type 0} → Option (A × TypeRef) → Option TypeRef
type_if None = None
type_if (Some p) = Some p.1

-- what stands around the body of a guard
abbrev pub guarded_body : Around → Guard → Option (TypedExpr × TypeRef) → Around
guarded_body u g t = guarded_around u (variable_meant u g.variable.qualifier g.variable.ident) (type_if t)

-- a guard with its body, in which the guarded name has the guard
pub record GuardedBody : Type 0 where
  pub guard : Guard
  pub body : List Judging

abbrev pub with_branch_in : Around → Guard → List Judging → Judged (TypedExpr × TypeRef) → Judged TypedBranch
with_branch_in u g body t = branch_of (made (λ p. p.0) t) (in_turn body (guarded_body u g t.node))

-- the test of a place for a type
abbrev pub tested : Map → Pos → Place → TypeRef → Judged (TypedExpr × TypeRef)
tested map at p t = with_guard at p (guard_of map p t) t ▷ λ q. sound (guard_test q.0 q.1.0 q.1.1, t)

abbrev pub with_variable : Around → Guard → Judged Place
with_variable u g = with_meant u g.variable.qualifier g.variable.ident ▷ with_place (map_of u) (first_of g.variable)

abbrev pub with_test : Around → Guard → Judged (TypedExpr × TypeRef)
with_test u g = both (with_variable u g) (type_named u g.target) ▷ λ p. tested (map_of u) (first_of g.variable) p.0 p.1

abbrev pub with_branch : Around → GuardedBody → Judged TypedBranch
with_branch u b = with_branch_in u b.guard b.body (with_test u b.guard)

-- NODES

pub record Conditional : Type 0 where
  pub test : Phrase
  pub body : List Judging

abbrev pub in_loop : Around → Around
in_loop u = record u { in_loop = true }

-- the branches of IF, each with its condition
abbrev pub conditional : Around → Conditional → Judged TypedBranch
conditional u b = branch_of (condition u b.test) (in_turn b.body u)

abbrev pub conditionals : Around → List Conditional → Judged (List TypedBranch)
conditionals u [] = sound []
conditionals u (b ∷ bs) = both (conditional u b) (conditionals u bs) ▷ λ p. sound (p.0 ∷ p.1)

abbrev pub with_branches : Around → List GuardedBody → Judged (List TypedBranch)
with_branches u [] = sound []
with_branches u (b ∷ bs) = both (with_branch u b) (with_branches u bs) ▷ λ p. sound (p.0 ∷ p.1)

abbrev pub if_statement : List Conditional → Option (List Judging) → Judging
if_statement bs otherwise u = both (conditionals u bs) (in_turn_if otherwise u) ▷ λ p. one (stmt.If p.0 (empty_if_none p.1))

abbrev pub while_statement : Pos → Phrase → List Judging → Judging
while_statement at x body u = both (condition u x) (in_turn body u) ▷ λ p. one (stmt.While p.0 p.1 at)

abbrev pub repeat_statement : Pos → List Judging → Phrase → Judging
repeat_statement at body x u = both (in_turn body u) (condition u x) ▷ λ p. one (stmt.Repeat p.0 p.1 at)

abbrev pub loop_statement : Pos → List Judging → Judging
loop_statement at body u = in_turn body (in_loop u) ▷ λ b. one (stmt.Loop b at)

abbrev pub with_statement : Pos → List GuardedBody → Option (List Judging) → Judging
with_statement at bs otherwise u = both (with_branches u bs) (in_turn_if otherwise u) ▷ λ p. one (stmt.With p.0 p.1 at)

abbrev pub call_statement : Named → Judging
call_statement n u = meant_by AsStatement n u ▷ called u n

abbrev pub phrase_if : Option Expr → Option Phrase
phrase_if None = None
phrase_if (Some x) = Some (phrase_of x)

abbrev pub stmt_rule : Stmt-F Judging Conditional Labelled GuardedBody → Judging
stmt_rule Stmt-F.Empty u = sound []
stmt_rule (Stmt-F.Call d) u = call_statement (named_of d) u
stmt_rule (Stmt-F.Assign d at x) u = assignment u (named_of d) at (phrase_of x)
stmt_rule (Stmt-F.If at bs otherwise) u = if_statement bs otherwise u
stmt_rule (Stmt-F.Case at x cs otherwise) u = case u at (phrase_of x) cs otherwise
stmt_rule (Stmt-F.While at x body) u = while_statement at (phrase_of x) body u
stmt_rule (Stmt-F.Repeat at body x) u = repeat_statement at body (phrase_of x) u
stmt_rule (Stmt-F.For at x a b step body) u = for u at x (phrase_of a) (phrase_of b) (phrase_if step) body
stmt_rule (Stmt-F.Loop at body) u = loop_statement at body u
stmt_rule (Stmt-F.Exit at) u = exit u at
stmt_rule (Stmt-F.Return at x) u = return u at (phrase_if x)
stmt_rule (Stmt-F.With at bs otherwise) u = with_statement at bs otherwise u

abbrev pub branch_rule : Branch-F Judging Conditional Labelled GuardedBody → Conditional
branch_rule b = record { test = phrase_of b.test; body = b.body }

abbrev pub case_rule : Case-F Judging Conditional Labelled GuardedBody → Labelled
case_rule c = record { labels = map ranged_of c.labels; body = c.body }

abbrev pub guarded_rule : GuardedBranch-F Judging Conditional Labelled GuardedBody → GuardedBody
guarded_rule b = record { guard = b.guard; body = b.body }

abbrev pub judging : Stmt → Judging
judging = fold-Stmt Judging Conditional Labelled GuardedBody stmt_rule branch_rule case_rule guarded_rule

abbrev pub conditional_of : Branch → Conditional
conditional_of = fold-Branch Judging Conditional Labelled GuardedBody stmt_rule branch_rule case_rule guarded_rule

abbrev pub labelled_of : Case → Labelled
labelled_of = fold-Case Judging Conditional Labelled GuardedBody stmt_rule branch_rule case_rule guarded_rule

abbrev pub guarded_of : GuardedBranch → GuardedBody
guarded_of = fold-GuardedBranch Judging Conditional Labelled GuardedBody stmt_rule branch_rule case_rule guarded_rule
