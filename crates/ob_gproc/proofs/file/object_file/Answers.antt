use Rattle.std.proofs.Common.{◌≡◌, ◌∙◌, true, false, sym, Ok, Err}
use Rattle.ob_types.specs.TypedView.{module_view}
use Rattle.ob_tree.specs.declared.which.Which.TheVariants as which
use Rattle.ob_scheme.specs.Needs.{has_few_operands, has_short_code}
use Rattle.ob_gproc.specs.declared.fault.GenFault.TheVariants as fault
use Rattle.ob_gproc.proofs.Filing.{filed}
use Rattle.ob_gproc.proofs.Limiting.{limit_told, many_exceeds, long_exceeds, none_exceeded}
use Rattle.ob_gproc.proofs.file.object_file.Goals as goal

pub returns-in-Ok-clause-file : goal.returns-in-Ok-clause-file
returns-in-Ok-clause-file g c =
    let e = c.in-Ok.ensures in
    c.into_file.ensures ∙ filed (g.T.Types.types c.args.types.now) (module_view c.args.unit.now) c.args.exports c.args.uses c.in-Ok.parts.imports c.in-Ok.parts.made.parts c.in-Ok.parts.words c.in-Ok.parts.shown.variables c.in-Ok.parts.made.types c.in-Ok.parts.made.rows c.in-Ok.parts.shown.commands e.imports e.parts e.words e.variables e.types e.rows e.commands

pub returns-then-not-has_few_operands-clause-limit : goal.returns-then-not-has_few_operands-clause-limit
returns-then-not-has_few_operands-clause-limit g c = λ w.
    let few = has_few_operands (g.T.Types.types c.args.types.now) (module_view c.args.unit.now) in
    let short = has_short_code (g.T.Types.types c.args.types.now) (module_view c.args.unit.now) in
    let f : c.has_few_operands.result ≡ few = c.has_few_operands.ensures (g.T.Types.types c.args.types.now) in
    let a : c.has_few_operands.result ≡ false = c.if-not-has_few_operands.true in
    limit_told few short (Err (fault.Limit which.Operands)) (many_exceeds few short (sym f ∙ a)) w

pub returns-then-not-has_short_code-clause-limit : goal.returns-then-not-has_short_code-clause-limit
returns-then-not-has_short_code-clause-limit g c = λ w.
    let few = has_few_operands (g.T.Types.types c.args.types.now) (module_view c.args.unit.now) in
    let short = has_short_code (g.T.Types.types c.args.types.now) (module_view c.args.unit.now) in
    let f : c.has_few_operands.result ≡ few = c.has_few_operands.ensures (g.T.Types.types c.args.types.now) in
    let s : c.has_short_code.result ≡ short = c.has_short_code.ensures in
    let a : c.has_few_operands.result ≡ true = c.if-not-has_few_operands.false in
    let b : c.has_short_code.result ≡ false = c.if-not-has_short_code.true in
    limit_told few short (Err (fault.Limit which.Code)) (long_exceeds few short (sym f ∙ a) (sym s ∙ b)) w

pub returns-in-Ok-clause-limit : goal.returns-in-Ok-clause-limit
returns-in-Ok-clause-limit g c = λ w.
    let few = has_few_operands (g.T.Types.types c.args.types.now) (module_view c.args.unit.now) in
    let short = has_short_code (g.T.Types.types c.args.types.now) (module_view c.args.unit.now) in
    let f : c.has_few_operands.result ≡ few = c.has_few_operands.ensures (g.T.Types.types c.args.types.now) in
    let s : c.has_short_code.result ≡ short = c.has_short_code.ensures in
    let a : c.has_few_operands.result ≡ true = c.if-not-has_few_operands.false in
    let b : c.has_short_code.result ≡ true = c.if-not-has_short_code.false in
    limit_told few short (Ok c.into_file.result) (none_exceeded few short (sym f ∙ a) (sym s ∙ b)) w

pub returns-in-Err-Beyond-clause-limit : goal.returns-in-Err-Beyond-clause-limit
returns-in-Err-Beyond-clause-limit g c = λ w.
    let few = has_few_operands (g.T.Types.types c.args.types.now) (module_view c.args.unit.now) in
    let short = has_short_code (g.T.Types.types c.args.types.now) (module_view c.args.unit.now) in
    let f : c.has_few_operands.result ≡ few = c.has_few_operands.ensures (g.T.Types.types c.args.types.now) in
    let s : c.has_short_code.result ≡ short = c.has_short_code.ensures in
    let a : c.has_few_operands.result ≡ true = c.if-not-has_few_operands.false in
    let b : c.has_short_code.result ≡ true = c.if-not-has_short_code.false in
    limit_told few short (Err fault.Beyond) (none_exceeded few short (sym f ∙ a) (sym s ∙ b)) w

pub returns-clause-limit : goal.returns-clause-limit
returns-clause-limit g c = λ w.
    let few = has_few_operands (g.T.Types.types c.args.types.now) (module_view c.args.unit.now) in
    let short = has_short_code (g.T.Types.types c.args.types.now) (module_view c.args.unit.now) in
    let f : c.has_few_operands.result ≡ few = c.has_few_operands.ensures (g.T.Types.types c.args.types.now) in
    let s : c.has_short_code.result ≡ short = c.has_short_code.ensures in
    let a : c.has_few_operands.result ≡ true = c.if-not-has_few_operands.false in
    let b : c.has_short_code.result ≡ true = c.if-not-has_short_code.false in
    limit_told few short (Err fault.Memory) (none_exceeded few short (sym f ∙ a) (sym s ∙ b)) w
