-- What round brackets open.
use Rattle.std.proofs.Common.{◌≡◌, refl, sym, ap, ◌∙◌, subst, ◌&&◌, Bool, true, false, List, ◌∷◌, length, Option, Some, None}
use Rattle.std.specs.Prelude.{is_none}
use Rattle.ob_tree.specs.declared.pos.Pos.{Pos}
use Rattle.ob_tree.specs.declared.ident.Qualident.{Qualident}
use Rattle.ob_types.specs.declared.types.Signature.{Signature}
use Rattle.ob_types.specs.declared.typed.OutProcedure.{OutProcedure}
use Rattle.ob_types.specs.declared.typed.Callee.TheVariants as callee
use Rattle.ob_types.specs.declared.typed.TypedExpr.TheVariants as tree
use Rattle.ob_types_trees.specs.declared.stmt.StmtTree.{StmtTree}
use Rattle.ob_rules.specs.declared.notes.Notebook.{Notebook}
use Rattle.ob_rules.specs.declared.values.Valued.{Valued}
use Rattle.ob_rules.specs.declared.values.Place.{Place}
use Rattle.ob_rules.specs.declared.meant.Chosen.{Chosen}
use Rattle.ob_rules.specs.declared.meant.Meant.{Meant}
use Rattle.ob_rules.specs.declared.meant.Meant.TheVariants as means
use Rattle.ob_rules.specs.declared.meant.Where.{Where}
use Rattle.ob_rules.specs.declared.broken.Predeclared.{Predeclared}
use Rattle.ob_rules.specs.declared.broken.Predeclared.TheVariants as pre
use Rattle.ob_rules.specs.declared.broken.Rule.TheVariants as rule
use Rattle.ob_rules.specs.Judged.{Judged, Notes, joined, broken_at, noted, notes_if, also, breaks, if_sound, silent, sound, each_sound, ◌▷◌}
use Rattle.ob_rules.specs.Books.{book_after}
use Rattle.ob_rules.specs.Names.{Around, map_of, type_named}
use Rattle.ob_rules.specs.Shapes.{signature_at}
use Rattle.ob_rules.specs.Phrases.{Phrase, receiver_place}
use Rattle.ob_rules.specs.Calls.{actuals, called_with, call_bound, call_bound_sound, nearest_sound, where_from, is_record_receiver, bound_callee, receiver_actual, out_signature}
use Rattle.ob_rules.specs.Predeclared.{parameters, call_fit, call_predeclared, extreme_call, asked_first, asked_second}
use Rattle.ob_rules.specs.Designators.{visited, as_call, guard, place_round, other_round, call_meant, step_round, type_in_round}
use Rattle.ob_rules.proofs.BookLaws.{after_none, after_joined}
use Rattle.ob_cexpr_operand.specs.Plain.{plain}
use Rattle.ob_cexpr_arguments.specs.declared.callables.Callable.{Callable}
use Rattle.ob_cexpr_arguments.specs.declared.callables.Callable.TheVariants as calls
use Rattle.ob_cexpr_arguments.specs.declared.opening.Opened.{Opened}
use Rattle.ob_cexpr_arguments.specs.declared.opening.Opened.TheVariants as opens
use Rattle.ob_cexpr_arguments.specs.Arguments.{parameters_asked}
use Rattle.ob_cexpr_arguments.specs.Rounds.{Leaves, muted, finished, params_of, call_left, round_left, misfit_or, extreme_kind}
use Rattle.ob_cexpr_arguments.proofs.ArgumentLaws.{all_asked}
use Rattle.ob_cexpr_arguments.proofs.JudgedLaws.{then_left, whole_left}

-- what is opened as a whole, and what is left of it
pub same_left : (j i h : Judged Meant) (k l : Notebook) → j ≡ i → Leaves k i l h → Leaves k j l h
same_left j i h k l e d = (ap (λ o. o.node) e ∙ d.0, ap (λ o. book_after k o.notes) e ∙ d.1)

-- behind a procedure, behind a constant, and behind a call
pub guarded_is : (u : Around) (w : Where) (start at : Pos) (m : Meant) (ps : List Phrase) (q : Option Qualident) → other_round u w start at m ps q false true true ≡ misfit_or u at q (call_meant u w start m ps)
guarded_is u w start at m ps None = refl
guarded_is u w start at m ps (Some q) = refl

pub constant_is : (u : Around) (w : Where) (start at : Pos) (m : Meant) (ps : List Phrase) (q : Option Qualident) → other_round u w start at m ps q false true false ≡ misfit_or u at q (noted (visited u ps) (breaks rule.UnfitSelector at))
constant_is u w start at m ps None = refl
constant_is u w start at m ps (Some q) = refl

pub nothing_is : (u : Around) (w : Where) (start at : Pos) (m : Meant) (ps : List Phrase) (q : Option Qualident) → other_round u w start at m ps q false false false ≡ noted (visited u ps) (breaks rule.UnfitSelector at)
nothing_is u w start at m ps None = refl
nothing_is u w start at m ps (Some q) = refl

pub call_opens : (u : Around) (w : Where) (start at : Pos) (ps : List Phrase) (m : Meant) (x : Valued) (k : Notebook) → m ≡ means.Call x → Leaves k (step_round u w start at ps m) k (round_left u w start at ps opens.Nothing)
call_opens u w start at ps m x k e = same_left (step_round u w start at ps m) (noted (visited u ps) (breaks rule.UnfitSelector at)) (noted (visited u ps) (breaks rule.UnfitSelector at)) k k (ap (λ n. step_round u w start at ps n) e ∙ nothing_is u w start at (means.Call x) ps (type_in_round u ps)) (refl, refl)

pub statement_opens : (u : Around) (w : Where) (start at : Pos) (ps : List Phrase) (m : Meant) (x : StmtTree) (k : Notebook) → m ≡ means.Statement x → Leaves k (step_round u w start at ps m) k (round_left u w start at ps opens.Nothing)
statement_opens u w start at ps m x k e = same_left (step_round u w start at ps m) (noted (visited u ps) (breaks rule.UnfitSelector at)) (noted (visited u ps) (breaks rule.UnfitSelector at)) k k (ap (λ n. step_round u w start at ps n) e ∙ nothing_is u w start at (means.Statement x) ps (type_in_round u ps)) (refl, refl)

-- a guard that is judged whole
pub misfit_opens : (u : Around) (at : Pos) (q : Option Qualident) (name : Qualident) (j : Judged Meant) (m : Option Meant) (k l : Notebook) → Some name ≡ q
    → m ≡ (type_named u name ▷ λ t. breaks {A = Meant} rule.UnfitTypeTest at).node → l ≡ book_after k (type_named u name ▷ λ t. breaks {A = Meant} rule.UnfitTypeTest at).notes → Leaves k (misfit_or u at q j) l (plain m)
misfit_opens u at q name j m k l eq em el =
    subst (λ (o : Option Qualident). Leaves k (misfit_or u at o j) l (plain m)) eq (whole_left (type_named u name ▷ λ t. breaks {A = Meant} rule.UnfitTypeTest at) m k l em el)

-- no type in the brackets
pub else_opens : (u : Around) (at : Pos) (q : Option Qualident) (j : Judged Meant) (k : Notebook) → None ≡ q → Leaves k (misfit_or u at q j) k j
else_opens u at q j k eq = subst (λ (o : Option Qualident). Leaves k (misfit_or u at o j) k j) eq (refl, refl)

pub guard_opens : (u : Around) (w : Where) (start at : Pos) (p : Place) (ps : List Phrase) (q : Option Qualident) (name : Qualident) (s : Option Signature) (m : Option Meant) (k l : Notebook) → Some name ≡ q
    → m ≡ (type_named u name ▷ λ t. guard (map_of u) at p t).node → l ≡ book_after k (type_named u name ▷ λ t. guard (map_of u) at p t).notes → Leaves k (place_round u w start at p ps q s) l (plain m)
guard_opens u w start at p ps q name s m k l eq em el =
    subst (λ (o : Option Qualident). Leaves k (place_round u w start at p ps o s) l (plain m)) eq (whole_left (type_named u name ▷ λ t. guard (map_of u) at p t) m k l em el)

pub held_opens : (u : Around) (w : Where) (start at : Pos) (p : Place) (ps : List Phrase) (q : Option Qualident) (s : Option Signature) (o : Opened) (k : Notebook) → None ≡ q
    → place_round u w start at p ps None s ≡ round_left u w start at ps o → Leaves k (place_round u w start at p ps q s) k (round_left u w start at ps o)
held_opens u w start at p ps q s o k eq e =
    subst (λ (r : Option Qualident). Leaves k (place_round u w start at p ps r s) k (round_left u w start at ps o)) eq (ap (λ j. j.node) e, ap (λ j. book_after k j.notes) e)

-- a bound procedure
also_left : (b : Bool) (at : Pos) (a : Notes) (j : Judged Valued) (k : Notebook) → Leaves k (also b rule.NotChangeable at (noted a j)) (book_after k (notes_if b rule.NotChangeable at)) (noted a (muted b j))
also_left true at a j k = (refl, sym (after_joined k (broken_at rule.NotChangeable at) (joined a j.notes)))
also_left false at a j k = (refl, ap (λ b. book_after b (joined a j.notes)) (sym (after_none k)))

abbrev is_wrong : Chosen → Bool
is_wrong c = is_record_receiver c.method.receiver && ((receiver_place c).read_only && is_none c.base)

sound_bound : (u : Around) (w : Where) (at : Pos) (c : Chosen) (ps : List Phrase) (b : Bool) (k : Notebook) → b ≡ is_wrong c → Leaves k (call_bound_sound true u w at c ps) (book_after k (notes_if b rule.NotChangeable at)) (call_left u w at ps (calls.Bound c b))
sound_bound u w at c ps b k eb =
    let a = actuals u c.method.signature.params ps in
    let f = called_with w at c.method.signature (length ps) (λ xs. tree.Call (bound_callee c c.base) (receiver_actual c.method.receiver c ∷ xs) at c.method.signature.result) in
    subst (λ (d : Bool). Leaves k (also d rule.NotChangeable at (a ▷ f)) (book_after k (notes_if b rule.NotChangeable at)) (noted a.notes (muted b (if_sound a.node f)))) eb (also_left b at a.notes (if_sound a.node f) k)

pub bound_sound : (u : Around) (w : Where) (at : Pos) (c : Chosen) (ps : List Phrase) (t b : Bool) (k l : Notebook) → t ≡ nearest_sound u 201 (where_from c c.base) c.method.name → t ≡ true → b ≡ is_wrong c → l ≡ book_after k (notes_if b rule.NotChangeable at)
    → Leaves k (call_bound u w at c ps) l (call_left u w at ps (calls.Bound c b))
bound_sound u w at c ps t b k l et e eb el =
    let h = subst (λ (d : Notebook). Leaves k (call_bound_sound true u w at c ps) d (call_left u w at ps (calls.Bound c b))) (sym el) (sound_bound u w at c ps b k eb) in
    subst (λ (d : Bool). Leaves k (call_bound_sound d u w at c ps) l (call_left u w at ps (calls.Bound c b))) (sym e ∙ et) h

pub bound_unsound : (u : Around) (w : Where) (at : Pos) (c : Chosen) (ps : List Phrase) (t : Bool) (k : Notebook) → t ≡ nearest_sound u 201 (where_from c c.base) c.method.name → t ≡ false
    → Leaves k (call_bound u w at c ps) k (call_left u w at ps calls.Unsound)
bound_unsound u w at c ps t k et e = subst (λ (d : Bool). Leaves k (call_bound_sound d u w at c ps) k (call_left u w at ps calls.Unsound)) (sym e ∙ et) (refl, refl)

pub bound_opens : (u : Around) (w : Where) (start at : Pos) (c : Chosen) (ps : List Phrase) (q : Option Qualident) (x : Callable) (k l : Notebook) → None ≡ q → Leaves k (call_bound u w start c ps) l (call_left u w start ps x)
    → Leaves k (misfit_or u at q (as_call (call_bound u w start c ps))) l (round_left u w start at ps (opens.Call x))
bound_opens u w start at c ps q x k l eq h =
    subst (λ (o : Option Qualident). Leaves k (misfit_or u at o (as_call (call_bound u w start c ps))) l (round_left u w start at ps (opens.Call x))) eq
    (then_left (call_bound u w start c ps) (call_left u w start ps x) (λ v. sound (means.Call v)) k l h)

-- a procedure of Out, by its parameters
pub out_is : (u : Around) (w : Where) (start : Pos) (p : OutProcedure) (s : Signature) (ps : List Phrase) → s ≡ out_signature p → call_meant u w start (means.Out p) ps ≡ as_call (call_left u w start ps (calls.Out p s))
out_is u w start p s ps es = ap (λ (t : Signature). as_call (noted (actuals u t.params ps).notes (if_sound (actuals u t.params ps).node (called_with w start (out_signature p) (length ps) (λ xs. tree.Call (callee.Out p) xs start None))))) (sym es)

-- MAX and MIN
pub extreme_is : (u : Around) (w : Where) (start at : Pos) (ps : List Phrase) (f : Predeclared) (max : Bool) → Some max ≡ extreme_kind f → step_round u w start at ps (means.Predeclared f) ≡ extreme_call max u w start ps
extreme_is u w start at ps pre.Max true e = refl
extreme_is u w start at ps pre.Max false e = cc
extreme_is u w start at ps pre.Min true e = cc
extreme_is u w start at ps pre.Min false e = refl
extreme_is u w start at ps pre.Abs max e = cc
extreme_is u w start at ps pre.Ash max e = cc
extreme_is u w start at ps pre.Cap max e = cc
extreme_is u w start at ps pre.Chr max e = cc
extreme_is u w start at ps pre.Len max e = cc
extreme_is u w start at ps pre.Long max e = cc
extreme_is u w start at ps pre.Odd max e = cc
extreme_is u w start at ps pre.Ord max e = cc
extreme_is u w start at ps pre.Short max e = cc
extreme_is u w start at ps pre.Assert max e = cc
extreme_is u w start at ps pre.Copy max e = cc
extreme_is u w start at ps pre.Dec max e = cc
extreme_is u w start at ps pre.Excl max e = cc
extreme_is u w start at ps pre.Halt max e = cc
extreme_is u w start at ps pre.Inc max e = cc
extreme_is u w start at ps pre.Incl max e = cc
extreme_is u w start at ps pre.New max e = cc

-- the other predeclared procedures
abbrev others : Around → Where → Pos → List Phrase → Predeclared → Judged Meant
others u w start ps f = each_sound (parameters u f ps) ▷ call_fit u w f start

other_is : (u : Around) (w : Where) (start at : Pos) (ps : List Phrase) (f : Predeclared) → None ≡ extreme_kind f → step_round u w start at ps (means.Predeclared f) ≡ misfit_or u at (type_in_round u ps) (others u w start ps f)
other_is u w start at ps pre.Max e = cc
other_is u w start at ps pre.Min e = cc
other_is u w start at ps pre.Abs e = guarded_is u w start at (means.Predeclared pre.Abs) ps (type_in_round u ps)
other_is u w start at ps pre.Ash e = guarded_is u w start at (means.Predeclared pre.Ash) ps (type_in_round u ps)
other_is u w start at ps pre.Cap e = guarded_is u w start at (means.Predeclared pre.Cap) ps (type_in_round u ps)
other_is u w start at ps pre.Chr e = guarded_is u w start at (means.Predeclared pre.Chr) ps (type_in_round u ps)
other_is u w start at ps pre.Len e = guarded_is u w start at (means.Predeclared pre.Len) ps (type_in_round u ps)
other_is u w start at ps pre.Long e = guarded_is u w start at (means.Predeclared pre.Long) ps (type_in_round u ps)
other_is u w start at ps pre.Odd e = guarded_is u w start at (means.Predeclared pre.Odd) ps (type_in_round u ps)
other_is u w start at ps pre.Ord e = guarded_is u w start at (means.Predeclared pre.Ord) ps (type_in_round u ps)
other_is u w start at ps pre.Short e = guarded_is u w start at (means.Predeclared pre.Short) ps (type_in_round u ps)
other_is u w start at ps pre.Assert e = guarded_is u w start at (means.Predeclared pre.Assert) ps (type_in_round u ps)
other_is u w start at ps pre.Copy e = guarded_is u w start at (means.Predeclared pre.Copy) ps (type_in_round u ps)
other_is u w start at ps pre.Dec e = guarded_is u w start at (means.Predeclared pre.Dec) ps (type_in_round u ps)
other_is u w start at ps pre.Excl e = guarded_is u w start at (means.Predeclared pre.Excl) ps (type_in_round u ps)
other_is u w start at ps pre.Halt e = guarded_is u w start at (means.Predeclared pre.Halt) ps (type_in_round u ps)
other_is u w start at ps pre.Inc e = guarded_is u w start at (means.Predeclared pre.Inc) ps (type_in_round u ps)
other_is u w start at ps pre.Incl e = guarded_is u w start at (means.Predeclared pre.Incl) ps (type_in_round u ps)
other_is u w start at ps pre.New e = guarded_is u w start at (means.Predeclared pre.New) ps (type_in_round u ps)

pub predeclared_is : (u : Around) (w : Where) (start at : Pos) (ps : List Phrase) (f : Predeclared) → None ≡ extreme_kind f → step_round u w start at ps (means.Predeclared f) ≡ misfit_or u at (type_in_round u ps) (round_left u w start at ps (opens.Predeclared f))
predeclared_is u w start at ps f e = other_is u w start at ps f e ∙ ap (λ vs. misfit_or u at (type_in_round u ps) (each_sound vs ▷ call_fit u w f start)) (all_asked u f ps)
