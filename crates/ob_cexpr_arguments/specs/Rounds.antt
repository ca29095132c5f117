-- What round brackets open, and what is left to say of them.
use Rattle.std.specs.Prelude.{◌≡◌, ℕ, Bool, true, false, List, [], ◌∷◌, length, Option, Some, None}
use Rattle.ob_tree.specs.declared.pos.Pos.{Pos}
use Rattle.ob_tree.specs.declared.ident.Qualident.{Qualident}
use Rattle.ob_types.specs.declared.types.Mode.{Mode}
use Rattle.ob_types.specs.declared.types.TypeRef.{TypeRef}
use Rattle.ob_types.specs.declared.typed.Callee.TheVariants as callee
use Rattle.ob_types.specs.declared.typed.Actual.{Actual}
use Rattle.ob_types.specs.declared.typed.TypedExpr.TheVariants as e
use Rattle.ob_rules.specs.declared.notes.Notebook.{Notebook}
use Rattle.ob_rules.specs.declared.values.Valued.{Valued}
use Rattle.ob_rules.specs.declared.meant.Meant.{Meant}
use Rattle.ob_rules.specs.declared.meant.Where.{Where}
use Rattle.ob_rules.specs.declared.broken.Predeclared.{Predeclared}
use Rattle.ob_rules.specs.declared.broken.Predeclared.TheVariants as pre
use Rattle.ob_rules.specs.declared.broken.Rule.TheVariants as rule
use Rattle.ob_rules.specs.Judged.{Judged, if_sound, silent, breaks, noted, each_sound, ◌▷◌}
use Rattle.ob_rules.specs.Books.{book_after}
use Rattle.ob_rules.specs.Names.{Around, type_named}
use Rattle.ob_rules.specs.Phrases.{Phrase}
use Rattle.ob_rules.specs.Calls.{actuals, called_with, out_signature, bound_callee, receiver_actual}
use Rattle.ob_rules.specs.Predeclared.{asked_first, asked_second, call_fit, extreme_call}
use Rattle.ob_rules.specs.Designators.{visited, as_call}
use Rattle.ob_cexpr_operand.specs.Plain.{plain}
use Rattle.ob_cexpr_arguments.specs.Arguments.{parameters_asked}
use Rattle.ob_cexpr_arguments.specs.declared.callables.Callable.{Callable}
use Rattle.ob_cexpr_arguments.specs.declared.callables.Callable.TheVariants as calls
use Rattle.ob_cexpr_arguments.specs.declared.opening.Opened.{Opened}
use Rattle.ob_cexpr_arguments.specs.declared.opening.Opened.TheVariants as opens

-- with the notes so far, what is left to say is the whole
abbrev pub Leaves : {A : Type 0} → Notebook → Judged A → Notebook → Judged A → Type 0
Leaves old whole new left = (whole.node ≡ left.node) × (book_after old whole.notes ≡ book_after new left.notes)

-- the formal parameters of what is called
abbrev pub params_of : Callable → List (Mode × TypeRef)
params_of (calls.Procedure name s) = s.params
params_of (calls.Held p s) = s.params
params_of (calls.Bound c broken) = c.method.signature.params
params_of calls.Unsound = []
params_of (calls.Out p s) = s.params

-- what is judged stands, unless a rule is broken besides
abbrev pub muted : {A : Type 0} → Bool → Judged A → Judged A
muted true j = record { node = None; notes = j.notes }
muted false j = j

-- the call with a row of actual parameters; n are written
abbrev pub finished : Where → Pos → ℕ → Callable → Option (List Actual) → Judged Valued
finished w at n (calls.Procedure name s) row = if_sound row (called_with w at s n (λ xs. e.Call (callee.Declared name) xs at s.result))
finished w at n (calls.Held p s) row = if_sound row (called_with w at s n (λ xs. e.CallVariable p.designator.inner xs at s.result))
finished w at n (calls.Bound c broken) row = muted broken (if_sound row (called_with w at c.method.signature n (λ xs. e.Call (bound_callee c c.base) (receiver_actual c.method.receiver c ∷ xs) at c.method.signature.result)))
finished w at n calls.Unsound row = if_sound row (λ xs. silent)
finished w at n (calls.Out p s) row = if_sound row (called_with w at (out_signature p) n (λ xs. e.Call (callee.Out p) xs at None))

-- the actual parameters, and then the call
abbrev pub call_left : Around → Where → Pos → List Phrase → Callable → Judged Valued
call_left u w at ps c = noted (actuals u (params_of c) ps).notes (finished w at (length ps) c (actuals u (params_of c) ps).node)

-- what is left of round brackets
abbrev pub round_left : Around → Where → Pos → Pos → List Phrase → Opened → Judged Meant
round_left u w start at ps (opens.Guard m) = plain m
round_left u w start at ps opens.Nothing = noted (visited u ps) (breaks rule.UnfitSelector at)
round_left u w start at ps (opens.Call c) = as_call (call_left u w start ps c)
round_left u w start at ps (opens.Extreme max) = extreme_call max u w start ps
round_left u w start at ps (opens.Predeclared f) = each_sound (parameters_asked u (asked_first f) (asked_second f) ps) ▷ call_fit u w f start

-- a type in round brackets behind what is no variable, or else this
abbrev pub misfit_or : Around → Pos → Option Qualident → Judged Meant → Judged Meant
misfit_or u at None j = j
misfit_or u at (Some q) j = type_named u q ▷ λ t. breaks rule.UnfitTypeTest at

-- of MAX that it is MAX, and of MIN that it is not
abbrev pub extreme_kind : Predeclared → Option Bool
extreme_kind pre.Max = Some true
extreme_kind pre.Min = Some false
extreme_kind f = None
