-- Statements, of parts that have nodes or break a rule.
use Rattle.std.proofs.Common.{◌≡◌, refl, sym, ap, ◌∙◌, subst, ℕ, Bool, true, false, not, List, [], ◌∷◌, ◌++◌, Option, Some, None}
use Rattle.std.specs.Prelude.{◌&&◌, ◌||◌, is_some, ℤ, pos, int_le}
use Rattle.std.specs.List.{AllByRecursion, list_any}
use Rattle.std.specs.Ordering.{int_eq}
use Rattle.std.proofs.lemmas.Bool.{false≢true}
use Rattle.ob_tree.specs.declared.pos.Pos.{Pos}
use Rattle.ob_tree.specs.declared.names.QName.{QName}
use Rattle.ob_tree.specs.declared.ident.Ident.{Ident}
use Rattle.ob_tree.specs.declared.stmt.Guard.{Guard}
use Rattle.ob_types.specs.declared.types.Basic.TheVariants as basic
use Rattle.ob_types.specs.declared.types.TypeRef.{TypeRef}
use Rattle.ob_types.specs.declared.types.Signature.{Signature}
use Rattle.ob_types.specs.declared.desc.Desc.{Desc}
use Rattle.ob_types.specs.declared.value.Value.{Value}
use Rattle.ob_types.specs.declared.value.Value.TheVariants as literal
use Rattle.ob_types.specs.declared.typed.Guarded.{Guarded}
use Rattle.ob_types.specs.declared.typed.Label.{Label}
use Rattle.ob_types.specs.declared.typed.Variable.{Variable}
use Rattle.ob_types.specs.declared.typed.Variable.TheVariants as variable
use Rattle.ob_types.specs.declared.typed.TypedCase.{TypedCase, roll-TypedCase}
use Rattle.ob_types.specs.declared.typed.TypedBranch.{TypedBranch, roll-TypedBranch}
use Rattle.ob_types.specs.declared.typed.TypedExpr.{TypedExpr}
use Rattle.ob_types.specs.declared.typed.TypedStmt.{TypedStmt}
use Rattle.ob_types.specs.declared.typed.TypedStmt.TheVariants as stmt
use Rattle.ob_rules.specs.declared.entity.Entity.{Entity}
use Rattle.ob_rules.specs.declared.entity.Entity.TheVariants as entity
use Rattle.ob_rules.specs.declared.entity.Known.{Known}
use Rattle.ob_rules.specs.declared.meant.Meant.{Meant}
use Rattle.ob_rules.specs.declared.meant.Meant.TheVariants as means
use Rattle.ob_rules.specs.declared.meant.Where.TheVariants.{InExpression, AsStatement, Elsewhere}
use Rattle.ob_rules.specs.declared.meant.Selects.{Selects}
use Rattle.ob_rules.specs.declared.values.Place.{Place}
use Rattle.ob_rules.specs.declared.values.Valued.{Valued}
use Rattle.ob_rules.specs.declared.broken.Rule.TheVariants as rule
use Rattle.ob_rules.specs.declared.broken.Rule.{Rule}
use Rattle.ob_rules.specs.Judged.{Judged, if_sound, sound, breaks, wants, unless, both, made, noted, ◌▷◌}
use Rattle.ob_rules.specs.Shapes.{Map, signature_at, width_of, basic_of, is_pointer}
use Rattle.ob_rules.specs.Names.{Around, map_of, named, type_named, find_name}
use Rattle.ob_rules.specs.Values.{is, fits, tree}
use Rattle.ob_rules.specs.Phrases.{Phrase, Behind, Dot}
use Rattle.ob_rules.specs.Calls.{call_variable}
use Rattle.ob_rules.specs.Designators.{call_meant, is_callable, variable_named, guard_of, is_module, behind, front, through, designates}
use Rattle.ob_rules.specs.Expressions.{Named, Ranged, meant_by, constant_value}
use Rattle.ob_rules.specs.Types.{first_of}
use Rattle.ob_rules.specs.Statements.{Judging, one, in_turn, in_turn_if, target, assigns, assignment, call_value, constant_at, done, place_called, called, condition, branch_of, empty_if_none, selects, case_value, overlaps, range_if, label_ranged, label_of, label_value, label_as, both_ends, high_if, label_both, label, Labels, with_label, labels, Labelled, case_of, cases, selects_if, case_with, case_judged, case, integer_place, for_variable, for_bound, step_value, step_of, for_step, for_made, bound_if, for_parts, for_with, for, exit, returned, return_none, return_of, return, with_module, with_named, with_qualified_by, with_qualified, with_meant, with_place, with_guard, guard_test, variable_in, variable_behind, entity_variable, module_variable, variable_meant, guarded_around, type_if, guarded_body, GuardedBody, with_branch_in, tested, with_variable, with_test, with_branch, Conditional, in_loop, conditional, conditionals, with_branches, if_statement, while_statement, repeat_statement, loop_statement, with_statement, call_statement}
use Rattle.law_names_procedures.proofs.Judges.{Has, Speaks, speaks_more, has_more, breaks_speaks, then_speaks, paired_has, both_speak, both_after, made_speaks, unless_speaks, wants_speaks}
use Rattle.law_names_procedures.proofs.Knowing.{name_speaks}
use Rattle.law_names_procedures.proofs.Typings.{constant_speaks}
use Rattle.law_local_nodes.proofs.Operators.{There}
use Rattle.law_local_nodes.proofs.Predeclared.{Fits, IsDone, PhraseThere}
use Rattle.law_local_nodes.proofs.Guards.{Means, plain, behind as behind_dot, Quiet, entered, looped}
use Rattle.law_local_nodes.proofs.Calls.{held_there}
use Rattle.law_local_nodes.proofs.Designators.{known_there, callable_there, AreBehind, NameIs, named_there, PlaceIs, FrontIs, FrontThere, front_there, from_there}
use Rattle.law_local_nodes.proofs.Expressions.{meant_there, RangedThere}
use Rattle.law_lists.proofs.Lists.{Anything, back_empty, front_empty}

-- ---- one after the other

-- wherever nothing around is broken it has a node, or breaks a rule
abbrev pub JudgingThere : Judging → Type 0
JudgingThere f = (u : Around) → Quiet u → There (f u)

abbrev pub BodyThere : List Judging → Type 0
BodyThere fs = AllByRecursion JudgingThere fs

abbrev pub IfBody : Option (List Judging) → Type 0
IfBody None = Unit {0}
IfBody (Some fs) = AllByRecursion JudgingThere fs

-- two parts, and what is made of them
two_there : {A B C : Type 0} (i : Judged A) (j : Judged B) (f : A × B → C) → There i → There j → There (both i j ▷ λ p. sound (f p))
two_there i j f h k = then_speaks (λ p. Unit {0} × Unit {0}) Anything (both i j) (λ p. sound (f p)) (both_speak Anything Anything i j h k) (λ p m. λ n. tt)

pub in_turn_there : (fs : List Judging) → BodyThere fs → (u : Around) → Quiet u → There (in_turn fs u)
in_turn_there [] h u q = λ n. tt
in_turn_there (f ∷ fs) h u q = two_there (f u) (in_turn fs u) (λ p. p.0 ++ p.1) (h.0 u q) (in_turn_there fs h.1 u q)

if_turn : (o : Option (List Judging)) → IfBody o → (u : Around) → Quiet u → There (in_turn_if o u)
if_turn None h u q = λ n. tt
if_turn (Some fs) h u q = made_speaks Anything Anything (λ x. Some x) (in_turn fs u) (in_turn_there fs h u q) (λ x t. tt)

branch_there : (i : Judged TypedExpr) (j : Judged (List TypedStmt)) → There i → There j → There (branch_of i j)
branch_there i j h k = two_there i j (λ p. roll-TypedBranch (record { test = p.0; body = p.1 })) h k

-- ---- labels

range_there : (b : Bool) (at : Pos) (low high : ℤ) → There (range_if b at low high)
range_there true at low high = λ n. tt
range_there false at low high = breaks_speaks {A = Label} Anything rule.UnfitCase at

label_by : (at : Pos) (before : List Label) (a b : Option ℤ) → There (label_of at before a b)
label_by at before (Some low) (Some high) = range_there (int_le low high && not (list_any (overlaps low high) before)) at low high
label_by at before (Some low) None = breaks_speaks {A = Label} Anything rule.UnfitCase at
label_by at before None b = breaks_speaks {A = Label} Anything rule.UnfitCase at

label_there : (o : Option Selects) → is_some o ≡ true → (at : Pos) (before : List Label) (p : Value × Value) → There (label_both o at before p)
label_there None e at before p = absurd (false≢true e)
label_there (Some s) e at before p = label_by at before (label_value s p.0) (label_value s p.1)

high_there : (u : Around) (o : Option Phrase) → There (high_if u o)
high_there u None = λ n. tt
high_there u (Some p) = made_speaks Anything Anything (λ v. Some v) (constant_value u p) (constant_speaks u p) (λ v t. tt)

module _ (u : Around) (s : Option Selects) (e : is_some s ≡ true) where
  one_label : (before : List Label) (r : Ranged) → There (label u s before r)
  one_label before r =
      then_speaks (λ p. Unit {0} × Unit {0}) Anything (both (constant_value u r.low) (high_if u r.high)) (λ p. label_both s r.low.start before (both_ends p.0 p.1))
      (both_speak Anything Anything (constant_value u r.low) (high_if u r.high) (constant_speaks u r.low) (high_there u r.high)) (λ p m. label_there s e r.low.start before (both_ends p.0 p.1))

  labels_there : (before : List Label) (rs : List Ranged) → There (labels u s before rs).found
  labels_there before [] = λ n. tt
  labels_there before (r ∷ rs) =
      let l = label u s before r in
      two_there l (labels u s (with_label before l.node) rs).found (λ p. p.0 ∷ p.1) (one_label before r) (labels_there (with_label before l.node) rs)

  cases_there : (q : Quiet u) (before : List Label) (cs : List Labelled) → AllByRecursion (λ c. BodyThere c.body) cs → There (cases u s before cs)
  cases_there q before [] h = λ n. tt
  cases_there q before (c ∷ cs) h =
      let ls = labels u s before c.labels in
      let b = in_turn c.body u in
      two_there (case_of ls.found b) (cases u s ls.before cs) (λ p. p.0 ∷ p.1)
      (two_there ls.found b (λ p. roll-TypedCase (record { labels = p.0; body = p.1 })) (labels_there before c.labels) (in_turn_there c.body h.0 u q))
      (cases_there q ls.before cs h.1)

-- what is wanted is so
wanted : {A : Type 0} (f : A → Bool) (which : Rule) (at : Pos) (x : A) → Speaks (λ (y : A). f y ≡ true) (wants (f x) which at x)
wanted {A} f which at x = go (f x) refl
  where
    go : (b : Bool) → f x ≡ b → Speaks (λ (y : A). f y ≡ true) (wants b which at x)
    go true e = λ n. e
    go false e = breaks_speaks (λ (y : A). f y ≡ true) which at

module _ (u : Around) (q : Quiet u) where
  abbrev Ph : Phrase → Type 0
  Ph p = PhraseThere u p

  -- ---- assignments and calls

  target_there : (start : Pos) (m : Meant) → There (target start m)
  target_there start (means.Place p) = unless_speaks Anything p.read_only rule.NotChangeable start p tt
  target_there start m = breaks_speaks {A = Place} Anything rule.NotChangeable start

  pub assignment_there : (n : Named) (at : Pos) (x : Phrase) → AreBehind u q n.behind → Ph x → There (assignment u n at x)
  assignment_there n at x h k =
      then_speaks (λ (p : Place × Valued). Unit {0} × Unit {0}) Anything (both (meant_by Elsewhere n u ▷ target n.ident.pos) (x.value u)) (λ p. assigns (map_of u) at p.0 p.1)
      (both_speak Anything Anything (meant_by Elsewhere n u ▷ target n.ident.pos) (x.value u) (then_speaks (Fits Elsewhere) Anything (meant_by Elsewhere n u) (target n.ident.pos) (meant_there u q Elsewhere n h) (λ m i. target_there n.ident.pos m)) k.value)
      (λ p m. wants_speaks Anything (fits (map_of u) p.0.of p.1) rule.NotAssignable at _ tt)

  done_there : (m : Meant) → IsDone m → There (done m)
  done_there (means.Call x) h = λ n. tt
  done_there (means.Statement s) h = λ n. tt
  done_there m h = absurd h

  place_there : (start : Pos) (p : Place) (o : Option Signature) → There (place_called u start p o)
  place_there start p None = breaks_speaks {A = List TypedStmt} Anything rule.MisplacedCall start
  place_there start p (Some s) = then_speaks Anything Anything (call_variable u AsStatement start p s []) call_value (held_there u AsStatement start p s [] tt) (λ x t. λ n. tt)

  callable : (start : Pos) (m : Meant) → is_callable m ≡ true → There (call_meant u AsStatement start m [] ▷ done)
  callable start m e = then_speaks IsDone Anything (call_meant u AsStatement start m []) done (callable_there u q AsStatement start m [] e tt) (λ m h. done_there m h)

  called_there : (n : Named) (m : Meant) → There (called u n m)
  called_there n (means.Place p) = place_there n.ident.pos p (signature_at (map_of u) p.of)
  called_there n (means.Constant v) = breaks_speaks {A = List TypedStmt} Anything rule.WrongKind (constant_at n.ident n.behind)
  called_there n (means.Call x) = λ e. tt
  called_there n (means.Statement s) = λ e. tt
  called_there n (means.Procedure name s) = callable n.ident.pos (means.Procedure name s) refl
  called_there n (means.Bound c) = callable n.ident.pos (means.Bound c) refl
  called_there n (means.Out p) = callable n.ident.pos (means.Out p) refl
  called_there n (means.Predeclared f) = callable n.ident.pos (means.Predeclared f) refl

  pub call_there : (n : Named) → AreBehind u q n.behind → There (call_statement n u)
  call_there n h = then_speaks (Fits AsStatement) Anything (meant_by AsStatement n u) (called u n) (meant_there u q AsStatement n h) (λ m i. called_there n m)

  -- ---- conditions

  condition_there : (x : Phrase) → Ph x → There (condition u x)
  condition_there x h = then_speaks Anything Anything (x.value u) (λ v. wants (is (map_of u) basic.Boolean v) rule.NotBoolean x.start (tree v)) h.value (λ v t. wants_speaks Anything (is (map_of u) basic.Boolean v) rule.NotBoolean x.start (tree v) tt)

  abbrev pub ConditionThere : Conditional → Type 0
  ConditionThere b = PhraseThere u b.test × BodyThere b.body

  conditions_there : (bs : List Conditional) → AllByRecursion ConditionThere bs → There (conditionals u bs)
  conditions_there [] h = λ n. tt
  conditions_there (b ∷ bs) h =
      two_there (conditional u b) (conditionals u bs) (λ p. p.0 ∷ p.1) (branch_there (condition u b.test) (in_turn b.body u) (condition_there b.test h.0.0) (in_turn_there b.body h.0.1 u q)) (conditions_there bs h.1)

  pub if_there : (bs : List Conditional) (o : Option (List Judging)) → AllByRecursion ConditionThere bs → IfBody o → There (if_statement bs o u)
  if_there bs o h k = two_there (conditionals u bs) (in_turn_if o u) (λ p. stmt.If p.0 (empty_if_none p.1) ∷ []) (conditions_there bs h) (if_turn o k u q)

  pub while_there : (at : Pos) (x : Phrase) (body : List Judging) → Ph x → BodyThere body → There (while_statement at x body u)
  while_there at x body h k = two_there (condition u x) (in_turn body u) (λ p. stmt.While p.0 p.1 at ∷ []) (condition_there x h) (in_turn_there body k u q)

  pub repeat_there : (at : Pos) (body : List Judging) (x : Phrase) → BodyThere body → Ph x → There (repeat_statement at body x u)
  repeat_there at body x k h = two_there (in_turn body u) (condition u x) (λ p. stmt.Repeat p.0 p.1 at ∷ []) (in_turn_there body k u q) (condition_there x h)

  pub loop_there : (at : Pos) (body : List Judging) → BodyThere body → There (loop_statement at body u)
  loop_there at body k = then_speaks Anything Anything (in_turn body (in_loop u)) (λ b. one (stmt.Loop b at)) (in_turn_there body k (in_loop u) (looped u q)) (λ b t. λ n. tt)

  -- ---- CASE

  if_selects : (o : Option Valued) → Has (λ y. is_some (selects (map_of u) y) ≡ true) o → is_some (selects_if (map_of u) o) ≡ true
  if_selects None h = absurd h
  if_selects (Some x) h = h

  pub case_there : (at : Pos) (x : Phrase) (cs : List Labelled) (o : Option (List Judging)) → Ph x → AllByRecursion (λ c. BodyThere c.body) cs → IfBody o → There (case u at x cs o)
  case_there at x cs o h k l =
      let i = case_judged u x in
      let s = selects_if (map_of u) i.node in
      then_speaks (λ p. (is_some (selects (map_of u) p.0) ≡ true) × Unit {0}) Anything (both i (both (cases u s [] cs) (in_turn_if o u))) (λ p. one (stmt.Case (tree p.0) p.1.0 p.1.1 at))
      (both_after (λ y. is_some (selects (map_of u) y) ≡ true) Anything i (both (cases u s [] cs) (in_turn_if o u))
      (then_speaks Anything (λ y. is_some (selects (map_of u) y) ≡ true) (x.value u) (case_value (map_of u) x.start) h.value (λ y t. wanted (λ y. is_some (selects (map_of u) y)) rule.UnfitCase x.start y))
      (λ n. speaks_more (λ p. Unit {0} × Unit {0}) Anything (both (cases u s [] cs) (in_turn_if o u)) (λ p t. tt) (both_speak Anything Anything (cases u s [] cs) (in_turn_if o u) (cases_there u s (if_selects i.node n) q [] cs k) (if_turn o l u q))))
      (λ p m. λ n. tt)

  -- ---- FOR

  integer_there : (at : Pos) (p : Place) → There (integer_place (map_of u) at p)
  integer_there at p = wants_speaks Anything (is_some (width_of (basic_of (map_of u) p.of))) rule.UnfitFor at p tt

  variable_there : (at : Pos) (x : Ident) (e : Entity) → NameIs u q x.name e → There (for_variable u at x e)
  variable_there at x (entity.Variable v t) h =
      then_speaks Anything Anything (variable_named u x.pos v t false) (λ p. integer_place (map_of u) at p) (λ n. q.guards x.name None v t (plain h.k h.found h.what) x.pos false) (λ p i. integer_there at p)
  variable_there at x (entity.TypeName t) h = breaks_speaks {A = Place} Anything rule.WrongKind x.pos
  variable_there at x (entity.Module m) h = breaks_speaks {A = Place} Anything rule.WrongKind x.pos
  variable_there at x e h = breaks_speaks {A = Place} Anything rule.UnfitFor at

  step_by : (at : Pos) (v : Value) → There (step_value at v)
  step_by at (literal.Int z) = unless_speaks Anything (int_eq z (pos 0)) rule.UnfitFor at z tt
  step_by at v = breaks_speaks {A = ℤ} Anything rule.UnfitFor at

  step_there : (at : Pos) (o : Option Phrase) → There (for_step u at o)
  step_there at None = λ n. tt
  step_there at (Some x) = then_speaks Anything Anything (constant_value u x) (step_value at) (constant_speaks u x) (λ v t. step_by at v)

  with_there : (at : Pos) (o : Option Place) (a b : Judged Valued) (s : Judged ℤ) (body : Judged (List TypedStmt)) → Has Anything o → There a → There b → There s → There body → There (for_with (map_of u) at o a b s body)
  with_there at None a b s body h i j k l = absurd h
  with_there at (Some p) a b s body h i j k l =
      let f = for_bound (map_of u) at p in
      then_speaks (λ r. (Unit {0} × Unit {0}) × (Unit {0} × Unit {0})) Anything (both (both (a ▷ f) (b ▷ f)) (both s body)) (λ r. one (for_made (map_of u) at p r.0 r.1.0 r.1.1))
      (both_speak (λ r. Unit {0} × Unit {0}) (λ r. Unit {0} × Unit {0}) (both (a ▷ f) (b ▷ f)) (both s body) (both_speak Anything Anything (a ▷ f) (b ▷ f) (bound a i) (bound b j)) (both_speak Anything Anything s body k l)) (λ r m. λ n. tt)
    where
      bound : (a : Judged Valued) → There a → There (a ▷ for_bound (map_of u) at p)
      bound a i = then_speaks Anything Anything a (for_bound (map_of u) at p) i (λ x t. wants_speaks Anything (fits (map_of u) p.of x) rule.UnfitFor at (tree x) tt)

  pub for_there : (at : Pos) (x : Ident) (a b : Phrase) (step : Option Phrase) (body : List Judging) → Ph a → Ph b → BodyThere body → There (for u at x a b step body)
  for_there at x a b step body h k l =
      let v = named u x ▷ for_variable u at x in
      let w = for_with (map_of u) at v.node (a.value u) (b.value u) (for_step u at step) (in_turn body u) in
      λ e.
      let has = then_speaks (NameIs u q x.name) Anything (named u x) (for_variable u at x) (named_there u q x) (λ e h. variable_there at x e h) (front_empty v.notes.broken w.notes.broken e) in
      with_there at v.node (a.value u) (b.value u) (for_step u at step) (in_turn body u) has h.value k.value (step_there at step) (in_turn_there body l u q) (back_empty v.notes.broken w.notes.broken e)

  -- ---- EXIT and RETURN

  pub exit_there : (at : Pos) → There (exit u at)
  exit_there at = wants_speaks Anything u.in_loop rule.MisplacedExit at (stmt.Exit ∷ []) tt

  returned_there : (at : Pos) (o : Option TypeRef) (x : Valued) → There (returned (map_of u) at o x)
  returned_there at None x = breaks_speaks {A = List TypedStmt} Anything rule.UnfitReturn at
  returned_there at (Some t) x = wants_speaks Anything (fits (map_of u) t x) rule.UnfitReturn at (stmt.Return (Some (tree x)) ∷ []) tt

  none_there : (at : Pos) (o : Option TypeRef) → There (return_none at o)
  none_there at None = λ n. tt
  none_there at (Some t) = breaks_speaks {A = List TypedStmt} Anything rule.UnfitReturn at

  abbrev pub IfPhrase : Option Phrase → Type 0
  IfPhrase None = Unit {0}
  IfPhrase (Some p) = PhraseThere u p

  pub return_there : (at : Pos) (o : Option Phrase) → IfPhrase o → There (return u at o)
  return_there at None h = none_there at u.result
  return_there at (Some x) h = then_speaks Anything Anything (x.value u) (returned (map_of u) at u.result) h.value (λ y t. returned_there at u.result y)

  -- ---- WITH

  -- the place of the variable that is guarded
  record GuardedIs (o : Option Ident) (x : Ident) (p : Place) : Type 0 where
    name : List ℕ
    dot : Option Ident
    place : PlaceIs u q name dot p
    variable : variable_meant u o x ≡ Some place.v

  abbrev MeantIs : Option Ident → Ident → Meant → Type 0
  MeantIs o x (means.Place p) = GuardedIs o x p
  MeantIs o x m = Unit {0}

  plain_means : (x : Ident) (v : Variable) (t : TypeRef) → Means u.known u.shown x.name None v t → variable_meant u None x ≡ Some v
  plain_means x v t (plain k f w) = ap entity_variable f ∙ ap variable_in w
  plain_means x v t (behind_dot k m y mk f w d s) = absurd cc

  plain_is : (x : Ident) (m : Meant) → FrontIs u q x.name None m → MeantIs None x m
  plain_is x (means.Place p) h = record { name = x.name; dot = None; place = h; variable = plain_means x h.v h.t h.means }
  plain_is x m h = tt

  none_behind : (b : Bool) → behind b [] ≡ []
  none_behind true = refl
  none_behind false = refl

  dotted_means : (k : Known) (n : List ℕ) (m x : Ident) (v : Variable) (t : TypeRef) → find_name u.known m.name ≡ Some k → k.what ≡ entity.Module n → Means u.known u.shown m.name (Some x) v t → variable_meant u (Some m) x ≡ Some v
  dotted_means k n m x v t f w (plain l g j) =
      let one : Some k ≡ Some l = sym f ∙ g in
      let e : k ≡ l = cc in
      let no : entity.Module n ≡ entity.Variable v t = sym w ∙ (ap (λ (k : Known). k.what) e ∙ j) in
      absurd cc
  dotted_means k n m x v t f w (behind_dot l a y mk g j d s) =
      let e : x ≡ y = cc in
      ap (module_variable x) g ∙ (ap (variable_behind x) j ∙ ap (λ (z : Ident). Some (variable.Module a z.name)) e)

  dotted_is : (k : Known) (n : List ℕ) (m x : Ident) (r : Meant) → find_name u.known m.name ≡ Some k → k.what ≡ entity.Module n → FrontIs u q m.name (Some x) r → MeantIs (Some m) x r
  dotted_is k n m x (means.Place p) f w h = record { name = m.name; dot = Some x; place = h; variable = dotted_means k n m x h.v h.t f w h.means }
  dotted_is k n m x r f w h = tt

  module_meant : (m x : Ident) (k : Known) → find_name u.known m.name ≡ Some k → (e : Entity) → k.what ≡ e → Speaks (MeantIs (Some m) x) (with_module u m x e)
  module_meant m x k f (entity.Module n) w =
      let bs : List Behind = Dot x.pos x ∷ [] in
      from_there u q (FrontThere u q m bs) (MeantIs (Some m) x) InExpression m.pos bs (front u m bs (named u m)) (front_there u q m bs) (λ r h.
      let one : Some h.k ≡ Some k = sym h.found ∙ f in
      let same : h.k ≡ k = cc in
      let rest : r.1 ≡ [] = h.rest ∙ (ap (λ (k : Known). behind (is_module k.what) bs) same ∙ ap (λ e. behind (is_module e) bs) w) in
      subst (λ bs. Speaks (MeantIs (Some m) x) (through u InExpression m.pos bs r.0)) (sym rest) (λ z. dotted_is k n m x r.0 f w h.front))
  module_meant m x k f e w = breaks_speaks (MeantIs (Some m) x) rule.WrongKind m.pos

  named_meant : (m x : Ident) → Speaks (MeantIs (Some m) x) (with_named u m x)
  named_meant m x = then_speaks (NameIs u q m.name) (MeantIs (Some m) x) (named u m) (with_module u m x) (named_there u q m) (λ e h. module_meant m x h.k h.found e h.what)

  qualified_by : (m x : Ident) (e : Entity) → Speaks (MeantIs (Some m) x) (with_qualified_by u m x e)
  qualified_by m x (entity.Variable v t) = breaks_speaks (MeantIs (Some m) x) rule.WrongKind m.pos
  qualified_by m x e = named_meant m x

  qualified : (m x : Ident) (o : Option Known) → Speaks (MeantIs (Some m) x) (with_qualified u m x o)
  qualified m x None = breaks_speaks (MeantIs (Some m) x) rule.NotDeclared m.pos
  qualified m x (Some k) = qualified_by m x k.what

  with_meant_there : (o : Option Ident) (x : Ident) → Speaks (MeantIs o x) (with_meant u o x)
  with_meant_there None x =
      from_there u q (FrontThere u q x []) (MeantIs None x) InExpression x.pos [] (front u x [] (named u x)) (front_there u q x [])
      (λ r h. subst (λ bs. Speaks (MeantIs None x) (through u InExpression x.pos bs r.0)) (sym (h.rest ∙ none_behind (is_module h.k.what))) (λ z. plain_is x r.0 h.front))
  with_meant_there (Some m) x = qualified m x (find_name u.known m.name)

  place_meant : (o : Option Ident) (x : Ident) (at : Pos) (m : Meant) → MeantIs o x m → Speaks (GuardedIs o x) (with_place (map_of u) at m)
  place_meant o x at (means.Place p) h = wants_speaks (GuardedIs o x) (is_pointer (map_of u) p.of || p.var_record) rule.UnfitWith at p h
  place_meant o x at m h = breaks_speaks (GuardedIs o x) rule.UnfitWith at

  -- a test that is made, and the guard that it is of
  record WithIs (g : Guard) (r : TypedExpr × TypeRef) : Type 0 where
    p : Place
    place : GuardedIs g.variable.qualifier g.variable.ident p
    k : Guarded × QName
    guards : guard_of (map_of u) p r.1 ≡ Some k

  guard_given : (at : Pos) (p : Place) (o : Option (Guarded × QName)) (t : TypeRef) → Speaks (λ (z : Place × (Guarded × QName)). o ≡ Some z.1) (with_guard at p o t)
  guard_given at p None t = breaks_speaks (λ (z : Place × (Guarded × QName)). None ≡ Some z.1) rule.UnfitWith at
  guard_given at p (Some k) t = λ n. refl

  tested_is : (g : Guard) (at : Pos) (p : Place) (t : TypeRef) → GuardedIs g.variable.qualifier g.variable.ident p → Speaks (WithIs g) (tested (map_of u) at p t)
  tested_is g at p t h =
      then_speaks (λ (z : Place × (Guarded × QName)). guard_of (map_of u) p t ≡ Some z.1) (WithIs g) (with_guard at p (guard_of (map_of u) p t) t) (λ q. sound (guard_test q.0 q.1.0 q.1.1, t)) (guard_given at p (guard_of (map_of u) p t) t)
      (λ z e. λ n. record { p = p; place = h; k = z.1; guards = e })

  test_there : (g : Guard) → Speaks (WithIs g) (with_test u g)
  test_there g =
      then_speaks (λ p. GuardedIs g.variable.qualifier g.variable.ident p.0 × Unit {0}) (WithIs g) (both (with_variable u g) (type_named u g.target)) (λ p. tested (map_of u) (first_of g.variable) p.0 p.1)
      (both_speak (GuardedIs g.variable.qualifier g.variable.ident) Anything (with_variable u g) (type_named u g.target)
      (then_speaks (MeantIs g.variable.qualifier g.variable.ident) (GuardedIs g.variable.qualifier g.variable.ident) (with_meant u g.variable.qualifier g.variable.ident) (with_place (map_of u) (first_of g.variable)) (with_meant_there g.variable.qualifier g.variable.ident)
      (λ m h. place_meant g.variable.qualifier g.variable.ident (first_of g.variable) m h)) (name_speaks u g.target (known_there u q)))
      (λ p h. tested_is g (first_of g.variable) p.0 p.1 h.0)

  guarded_there : (g : Guard) (body : List Judging) → BodyThere body → (o : Option (TypedExpr × TypeRef)) → Has (WithIs g) o → There (in_turn body (guarded_body u g o))
  guarded_there g body h None w = absurd w
  guarded_there g body h (Some r) w =
      let v : Variable = w.place.place.v in
      subst (λ o. There (in_turn body (guarded_around u o (Some r.1)))) (sym w.place.variable)
      (in_turn_there body h (record u { guards = u.guards ++ (v, Some r.1) ∷ [] })
      (entered u q w.place.name w.place.dot w.place.place.v w.place.place.t w.place.place.means w.place.place.at w.place.place.read_only w.p w.place.place.is r.1 w.k w.guards))

  branch_with : (b : GuardedBody) → BodyThere b.body → There (with_branch u b)
  branch_with b h =
      let j = with_test u b.guard in
      let a = made (λ (p : TypedExpr × TypeRef). p.0) j in
      let c = in_turn b.body (guarded_body u b.guard j.node) in
      made_speaks (λ p. Unit {0} × Unit {0}) Anything (λ p. roll-TypedBranch (record { test = p.0; body = p.1 })) (both a c) (λ e.
      let first = front_empty a.notes.broken c.notes.broken e in
      let w = test_there b.guard (front_empty j.notes.broken (if_sound j.node (λ p. sound p.0)).notes.broken first) in
      paired_has Anything Anything a.node c.node (made_speaks (WithIs b.guard) Anything (λ p. p.0) j (test_there b.guard) (λ r t. tt) first) (guarded_there b.guard b.body h j.node w (back_empty a.notes.broken c.notes.broken e))) (λ p t. tt)

  branches_with : (bs : List GuardedBody) → AllByRecursion (λ b. BodyThere b.body) bs → There (with_branches u bs)
  branches_with [] h = λ n. tt
  branches_with (b ∷ bs) h = two_there (with_branch u b) (with_branches u bs) (λ p. p.0 ∷ p.1) (branch_with b h.0) (branches_with bs h.1)

  pub with_statement_there : (at : Pos) (bs : List GuardedBody) (o : Option (List Judging)) → AllByRecursion (λ b. BodyThere b.body) bs → IfBody o → There (with_statement at bs o u)
  with_statement_there at bs o h k = two_there (with_branches u bs) (in_turn_if o u) (λ p. stmt.With p.0 p.1 at ∷ []) (branches_with bs h) (if_turn o k u q)
