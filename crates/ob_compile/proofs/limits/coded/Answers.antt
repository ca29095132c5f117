use Rattle.std.proofs.Common.{Err, ap, ◌∙◌}
use Rattle.ob_gproc.specs.declared.fault.GenFault.TheVariants as fault
use Rattle.ob_compile.specs.Steps.{compiled_of}
use Rattle.ob_compile.proofs.Facing.{as_shown, have_prints}
use Rattle.ob_compile.proofs.Limited.{object_is, long_code, brief_code}
use Rattle.ob_compile.proofs.limits.coded.Goals as goal

pub written-requires : goal.written-requires
written-requires c =
    let is = c.args.view.now.env.now in
    let m = c.args.view.now.«module».now in
    have_prints (compiled_of is m) c.args.shown.face (as_shown c.args.shown.face is m c.requires)

pub returns-in-Ok : goal.returns-in-Ok
returns-in-Ok c =
    let is = c.args.view.now.env.now in
    let m = c.args.view.now.«module».now in
    let x = compiled_of is m in
    let face = as_shown c.args.shown.face is m c.requires in
    brief_code x c.written.result c.in-Ok.ensures.short (c.written.ensures x face (object_is x c.args.shown.face c.in-Ok.object.file face c.in-Ok.ensures.made))

pub returns-in-Err-Limit-Code : goal.returns-in-Err-Limit-Code
returns-in-Err-Limit-Code c =
    let is = c.args.view.now.env.now in
    let m = c.args.view.now.«module».now in
    let which = rw c.in-Err-Limit-Code.field-0-is at c.in-Err-Limit-Code.field-0-0-is in
    long_code (compiled_of is m) c.over_limit.result (c.in-Err-Limit-Code.ensures.long (ap Err (c.in-Err-Limit-Code.field-0-is ∙ ap fault.Limit which))) c.over_limit.ensures
