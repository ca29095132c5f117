-- Assignments, calls, conditions and returns, with other interfaces around.
use Rattle.std.proofs.Common.{◌≡◌, refl, ap, ◌∙◌, List, [], ◌∷◌, Option, Some, None, Bool, true, false}
use Rattle.std.specs.Prelude.{◌&&◌, is_some}
use Rattle.std.specs.List.{AllByRecursion}
use Rattle.ob_tree.specs.declared.pos.Pos.{Pos}
use Rattle.ob_tree.specs.declared.names.QName.{QName}
use Rattle.ob_types.specs.declared.types.Basic.TheVariants as basic
use Rattle.ob_types.specs.declared.types.TypeRef.{TypeRef}
use Rattle.ob_types.specs.declared.types.Signature.{Signature}
use Rattle.ob_types.specs.declared.desc.Desc.{Desc}
use Rattle.ob_types.specs.declared.typed.TypedExpr.{TypedExpr}
use Rattle.ob_types.specs.declared.typed.TypedStmt.{TypedStmt}
use Rattle.ob_types.specs.declared.typed.TypedStmt.TheVariants as stmt
use Rattle.ob_rules.specs.declared.meant.Meant.{Meant}
use Rattle.ob_rules.specs.declared.meant.Meant.TheVariants as means
use Rattle.ob_rules.specs.declared.meant.Where.TheVariants.{AsStatement, Elsewhere}
use Rattle.ob_rules.specs.declared.values.Place.{Place}
use Rattle.ob_rules.specs.declared.values.Valued.{Valued}
use Rattle.ob_rules.specs.declared.broken.Rule.TheVariants as rule
use Rattle.ob_rules.specs.Judged.{Judged, silent, breaks, wants, both, ◌▷◌}
use Rattle.ob_rules.specs.Shapes.{Map, is_array, signature_at}
use Rattle.ob_rules.specs.Names.{Around, map_of}
use Rattle.ob_rules.specs.Values.{is, fits, text_of, tree, type}
use Rattle.ob_rules.specs.Phrases.{Phrase}
use Rattle.ob_rules.specs.Calls.{call_variable}
use Rattle.ob_rules.specs.Designators.{call_meant}
use Rattle.ob_rules.specs.Expressions.{Named, meant_by}
use Rattle.ob_rules.specs.Statements.{one, target, assigned_as, assignment_of, assigned_tree, assigns, assignment, call_value, constant_at, done, place_called, called, condition, exit, returned, return_none, return, call_statement}
use Rattle.law_local_judged.specs.Agreement.{IsIn, Agree}
use Rattle.law_local_judged.specs.Said.{KindIn, ExprIn, StmtIn, PlaceIn, PlaceTied, ValuedIn, ValuedTied, MeantIn, MeantTied}
use Rattle.law_local_judged.specs.Followed.{beside, TypeIn, Agrees, Follows}
use Rattle.law_local_judged.proofs.Tests.{is_array_same, record_same, signature_same}
use Rattle.law_local_judged.proofs.Following.{follows_none, follows_sound, follows_to, follows_wants, follows_unless, follows_then, follows_both, follows_weaker}
use Rattle.law_local_judged.proofs.Mentioned.{tree_mentions, text_tree_mentions}
use Rattle.law_local_judged.proofs.Names.{maps_agree}
use Rattle.law_local_judged.proofs.Values.{three, is_same, fits_same}
use Rattle.law_local_judged.proofs.Actuals.{PhraseFollows}
use Rattle.law_local_judged.proofs.Calls.{call_variable_follows}
use Rattle.law_local_judged.proofs.Through.{AreBehind, call_meant_follows}
use Rattle.law_local_judged.proofs.Nodes.{meant_follows, IfFollows as IfPhrase}
use Rattle.law_local_judged.proofs.Bodies.{SF, assign_mentions, call_proper_mentions, return_mentions}

module _ (P : QName → Type 0) where
  stmt_none : (R : Type 0) (i j : Judged (List TypedStmt)) → i.node ≡ None → SF P R i j
  stmt_none R i j e = follows_none P (λ ys. Unit {0}) (AllByRecursion (StmtIn P)) R i j e

  pub one_follows : (R : Type 0) (y : TypedStmt) → (StmtIn P y → R) → SF P R (one y) (one y)
  one_follows R y r = follows_sound P (λ ys. Unit {0}) (AllByRecursion (StmtIn P)) R (y ∷ []) tt (λ m. r m.0)

  -- ---- assignments

  target_breaks : (R : Type 0) (start : Pos) → Follows P (PlaceTied P) (PlaceIn P) R (breaks rule.NotChangeable start) (breaks rule.NotChangeable start)
  target_breaks R start = follows_none P (PlaceTied P) (PlaceIn P) R (breaks rule.NotChangeable start) (breaks rule.NotChangeable start) refl

  target_follows : (start : Pos) (m : Meant) → MeantTied P m → Follows P (PlaceTied P) (PlaceIn P) (MeantIn P m) (target start m) (target start m)
  target_follows start (means.Place p) t = follows_unless P (PlaceTied P) (PlaceIn P) (PlaceIn P p) p.read_only p.read_only rule.NotChangeable start p t (λ m. m) (λ r. refl)
  target_follows start (means.Constant c) t = target_breaks (Unit {0}) start
  target_follows start (means.Procedure q g) t = target_breaks (Unit {0}) start
  target_follows start (means.Bound c) t = target_breaks (PlaceIn P c.receiver) start
  target_follows start (means.Out o) t = target_breaks (Unit {0}) start
  target_follows start (means.Predeclared f) t = target_breaks (Unit {0}) start
  target_follows start (means.Call x) t = target_breaks (ValuedIn P x) start
  target_follows start (means.Statement x) t = target_breaks (MeantIn P (means.Statement x)) start

  assigned_mentions : (b : Bool) (x : Valued) → ExprIn P (assigned_tree b x) → ValuedIn P x
  assigned_mentions true x h = text_tree_mentions P x h
  assigned_mentions false x h = tree_mentions P x h

  module _ (f g : Map) (agree : Agree P f g) where
    assigns_same : (at : Pos) (p : Place) (x : Valued) → IsIn P p.of → KindIn P (type x) → assigns g at p x ≡ assigns f at p x
    assigns_same at p x h k =
        three (λ b a q. wants b rule.NotAssignable at (stmt.Assign p.designator.inner (assigned_as (a && is_some (text_of x)) q a) (assigned_tree a x) at ∷ [])) (fits_same P f g agree p.of x h k) (is_array_same P f g agree p.of h) (record_same P f g agree p.of h)

    pub assigns_follows : (at : Pos) (p : Place) (x : Valued) → PlaceTied P p → ValuedTied P x → SF P (PlaceIn P p × ValuedIn P x) (assigns f at p x) (assigns g at p x)
    assigns_follows at p x t s =
        follows_to P (λ ys. Unit {0}) (AllByRecursion (StmtIn P)) (PlaceIn P p × ValuedIn P x) (assigns f at p x) (assigns g at p x)
        (follows_wants P (λ ys. Unit {0}) (AllByRecursion (StmtIn P)) (PlaceIn P p × ValuedIn P x) (fits f p.of x) (fits f p.of x) rule.NotAssignable at (stmt.Assign p.designator.inner (assignment_of f p x) (assigned_tree (is_array f p.of) x) at ∷ []) tt
        (λ m. let k = assign_mentions P p.designator.inner (assignment_of f p x) (assigned_tree (is_array f p.of) x) at m.0 in (k.0, assigned_mentions (is_array f p.of) x k.1)) (λ r. refl))
        (λ r. assigns_same at p x (t r.0) (s r.1))

  module _ (u : Around) (s : QName → Option Desc) (a : Agrees P u s) where
    abbrev v : Around
    v = beside u s

    abbrev maps : Agree P (map_of u) (map_of v)
    maps = maps_agree P u s a

    abbrev Ph : Phrase → Type 0
    Ph p = PhraseFollows P u s a p

    abbrev NF : Named → Type 0
    NF n = AreBehind P u s a n.behind

    pub assignment_follows : (n : Named) (at : Pos) (x : Phrase) → NF n → Ph x → SF P (Unit {0}) (assignment u n at x) (assignment v n at x)
    assignment_follows n at x h k =
        follows_weaker P (λ ys. Unit {0}) (AllByRecursion (StmtIn P)) (Unit {0} × Unit {0}) (Unit {0}) (assignment u n at x) (assignment v n at x) (λ r. tt)
        (follows_then P (λ (p : Place × Valued). PlaceTied P p.0 × ValuedTied P p.1) (λ p. PlaceIn P p.0 × ValuedIn P p.1) (λ ys. Unit {0}) (AllByRecursion (StmtIn P)) (Unit {0} × Unit {0})
        (both (meant_by Elsewhere n u ▷ target n.ident.pos) (x.value u)) (both (meant_by Elsewhere n v ▷ target n.ident.pos) (x.value v)) (λ p. assigns (map_of u) at p.0 p.1) (λ p. assigns (map_of v) at p.0 p.1)
        (follows_both P (PlaceTied P) (PlaceIn P) (ValuedTied P) (ValuedIn P) (Unit {0}) (Unit {0}) (meant_by Elsewhere n u ▷ target n.ident.pos) (meant_by Elsewhere n v ▷ target n.ident.pos) (x.value u) (x.value v)
        (follows_then P (MeantTied P) (MeantIn P) (PlaceTied P) (PlaceIn P) (Unit {0}) (meant_by Elsewhere n u) (meant_by Elsewhere n v) (target n.ident.pos) (target n.ident.pos) (meant_follows P u s a Elsewhere n h) (λ m t. target_follows n.ident.pos m t)) k.value)
        (λ p t. assigns_follows (map_of u) (map_of v) maps at p.0 p.1 t.0 t.1))

    -- ---- calls

    call_value_follows : (x : Valued) → SF P (ValuedIn P x) (call_value x) (call_value x)
    call_value_follows x = one_follows (ValuedIn P x) (stmt.Call (tree x)) (λ m. tree_mentions P x (call_proper_mentions P (tree x) m))

    done_follows : (m : Meant) → SF P (MeantIn P m) (done m) (done m)
    done_follows (means.Call x) = call_value_follows x
    done_follows (means.Statement y) = one_follows (StmtIn P y.inner) y.inner (λ m. m)
    done_follows (means.Place p) = stmt_none (PlaceIn P p) silent silent refl
    done_follows (means.Constant c) = stmt_none (Unit {0}) silent silent refl
    done_follows (means.Procedure q g) = stmt_none (Unit {0}) silent silent refl
    done_follows (means.Bound c) = stmt_none (PlaceIn P c.receiver) silent silent refl
    done_follows (means.Out o) = stmt_none (Unit {0}) silent silent refl
    done_follows (means.Predeclared f) = stmt_none (Unit {0}) silent silent refl

    place_called_self : (start : Pos) (p : Place) (o : Option Signature) → SF P (PlaceIn P p) (place_called u start p o) (place_called v start p o)
    place_called_self start p None = stmt_none (PlaceIn P p) (breaks rule.MisplacedCall start) (breaks rule.MisplacedCall start) refl
    place_called_self start p (Some g) =
        follows_then P (ValuedTied P) (ValuedIn P) (λ ys. Unit {0}) (AllByRecursion (StmtIn P)) (PlaceIn P p) (call_variable u AsStatement start p g []) (call_variable v AsStatement start p g []) call_value call_value
        (call_variable_follows P u s a AsStatement start p g [] tt) (λ x t. call_value_follows x)

    place_called_follows : (start : Pos) (p : Place) → PlaceTied P p → SF P (PlaceIn P p) (place_called u start p (signature_at (map_of u) p.of)) (place_called v start p (signature_at (map_of v) p.of))
    place_called_follows start p t =
        let k = place_called_self start p (signature_at (map_of u) p.of) in
        record { keeps = k.keeps; same = λ y e said m. let z = k.same y e said m in (z.0, ap (place_called v start p) (signature_same P (map_of u) (map_of v) maps p.of (t z.0)) ∙ z.1) }

    meant_called : (start : Pos) (m : Meant) → MeantTied P m → SF P (MeantIn P m) (call_meant u AsStatement start m [] ▷ done) (call_meant v AsStatement start m [] ▷ done)
    meant_called start m t = follows_then P (MeantTied P) (MeantIn P) (λ ys. Unit {0}) (AllByRecursion (StmtIn P)) (MeantIn P m) (call_meant u AsStatement start m []) (call_meant v AsStatement start m []) done done (call_meant_follows P u s a AsStatement start m [] t tt) (λ n k. done_follows n)

    called_follows : (n : Named) (m : Meant) → MeantTied P m → SF P (MeantIn P m) (called u n m) (called v n m)
    called_follows n (means.Place p) t = place_called_follows n.ident.pos p t
    called_follows n (means.Constant c) t = stmt_none (Unit {0}) (breaks rule.WrongKind (constant_at n.ident n.behind)) (breaks rule.WrongKind (constant_at n.ident n.behind)) refl
    called_follows n (means.Call x) t = call_value_follows x
    called_follows n (means.Statement y) t = one_follows (StmtIn P y.inner) y.inner (λ m. m)
    called_follows n (means.Procedure q g) t = meant_called n.ident.pos (means.Procedure q g) t
    called_follows n (means.Bound c) t = meant_called n.ident.pos (means.Bound c) t
    called_follows n (means.Out o) t = meant_called n.ident.pos (means.Out o) t
    called_follows n (means.Predeclared f) t = meant_called n.ident.pos (means.Predeclared f) t

    pub call_statement_follows : (n : Named) → NF n → SF P (Unit {0}) (call_statement n u) (call_statement n v)
    call_statement_follows n h = follows_then P (MeantTied P) (MeantIn P) (λ ys. Unit {0}) (AllByRecursion (StmtIn P)) (Unit {0}) (meant_by AsStatement n u) (meant_by AsStatement n v) (called u n) (called v n) (meant_follows P u s a AsStatement n h) (λ m t. called_follows n m t)

    -- ---- conditions

    abbrev XF : Type 0 → Judged TypedExpr → Judged TypedExpr → Type 0
    XF R i j = Follows P (λ x. Unit {0}) (ExprIn P) R i j

    pub condition_follows : (x : Phrase) → Ph x → XF (Unit {0}) (condition u x) (condition v x)
    condition_follows x h =
        follows_then P (ValuedTied P) (ValuedIn P) (λ x. Unit {0}) (ExprIn P) (Unit {0}) (x.value u) (x.value v) (λ y. wants (is (map_of u) basic.Boolean y) rule.NotBoolean x.start (tree y)) (λ y. wants (is (map_of v) basic.Boolean y) rule.NotBoolean x.start (tree y)) h.value
        (λ y t. follows_wants P (λ x. Unit {0}) (ExprIn P) (ValuedIn P y) (is (map_of u) basic.Boolean y) (is (map_of v) basic.Boolean y) rule.NotBoolean x.start (tree y) tt (λ m. tree_mentions P y m) (λ r. is_same P (map_of u) (map_of v) maps basic.Boolean y (t r)))

    -- ---- returns

    returned_follows : (at : Pos) (o : Option TypeRef) (x : Valued) → TypeIn P o → ValuedTied P x → SF P (ValuedIn P x) (returned (map_of u) at o x) (returned (map_of v) at o x)
    returned_follows at None x h t = stmt_none (ValuedIn P x) (breaks rule.UnfitReturn at) (breaks rule.UnfitReturn at) refl
    returned_follows at (Some y) x h t =
        follows_wants P (λ ys. Unit {0}) (AllByRecursion (StmtIn P)) (ValuedIn P x) (fits (map_of u) y x) (fits (map_of v) y x) rule.UnfitReturn at (stmt.Return (Some (tree x)) ∷ []) tt
        (λ m. tree_mentions P x (return_mentions P (tree x) m.0)) (λ r. fits_same P (map_of u) (map_of v) maps y x h (t r))

    none_follows : (at : Pos) (o : Option TypeRef) → SF P (Unit {0}) (return_none at o) (return_none at o)
    none_follows at None = one_follows (Unit {0}) (stmt.Return None) (λ m. tt)
    none_follows at (Some t) = stmt_none (Unit {0}) (breaks rule.UnfitReturn at) (breaks rule.UnfitReturn at) refl

    pub return_follows : (at : Pos) (o : Option Phrase) → IfPhrase P u s a o → SF P (Unit {0}) (return u at o) (return v at o)
    return_follows at None h = none_follows at u.result
    return_follows at (Some x) h = follows_then P (ValuedTied P) (ValuedIn P) (λ ys. Unit {0}) (AllByRecursion (StmtIn P)) (Unit {0}) (x.value u) (x.value v) (returned (map_of u) at u.result) (returned (map_of v) at u.result) h.value (λ y t. returned_follows at u.result y a.result t)

    pub exit_follows : (at : Pos) → SF P (Unit {0}) (exit u at) (exit v at)
    exit_follows at = follows_wants P (λ ys. Unit {0}) (AllByRecursion (StmtIn P)) (Unit {0}) u.in_loop u.in_loop rule.MisplacedExit at (stmt.Exit ∷ []) tt (λ m. tt) (λ r. refl)
