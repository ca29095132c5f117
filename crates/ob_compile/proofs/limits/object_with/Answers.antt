use Rattle.std.proofs.Common.{true, false, ap, ◌∙◌}
use Rattle.std.specs.List.{flat_map}
use Rattle.ob_compile_model.specs.Compiling.{object_exports}
use Rattle.ob_compile.proofs.Limited.{same_err}
use Rattle.ob_compile.proofs.Sized.{object_made, short_made}
use Rattle.ob_compile.proofs.limits.object_with.Goals as goal

pub returns-in-Ok-object_file-clause-made : goal.returns-in-Ok-object_file-clause-made
returns-in-Ok-object_file-clause-made c =
    object_made c.args.view.now.env.now c.args.view.now.«module».now c.module.result.now c.args.face.now c.in-Ok.exports c.in-Ok-copy_uses.uses c.in-Ok-object_file.file c.module.ensures
    (c.in-Ok.ensures ∙ ap (flat_map object_exports) c.as_slice-objects.ensures) (c.in-Ok-copy_uses.ensures ∙ c.as_slice-used.ensures) c.in-Ok-object_file.ensures.file

pub returns-in-Ok-object_file-clause-short : goal.returns-in-Ok-object_file-clause-short
returns-in-Ok-object_file-clause-short c = short_made c.args.view.now.env.now c.args.view.now.«module».now c.module.result.now true c.module.ensures c.in-Ok-object_file.ensures.short

pub returns-in-Err-clause-long : goal.returns-in-Err-clause-long
returns-in-Err-clause-long c = λ e. short_made c.args.view.now.env.now c.args.view.now.«module».now c.module.result.now false c.module.ensures (c.in-Err.ensures.code (same_err c.in-Err.fault _ e)).1
