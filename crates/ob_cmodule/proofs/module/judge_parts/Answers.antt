use Rattle.ob_cdecl_scopes.specs.Scopes.{around_of}
use Rattle.ob_cdecl.specs.Seen.{contents_of}
use Rattle.ob_cmodule.proofs.ModuleLaws.{within_added, within_own, within_noted, imports_level}
use Rattle.ob_cmodule.proofs.module.judge_parts.Goals as goal

pub returns-clause-noted : goal.returns-clause-noted
returns-clause-noted g c =
    let t = g.E.Types.types in
    let u = around_of t c.args.scope.now in
    let w = around_of t c.imports_declared.new.scope in
    within_noted c.args.name.now c.args.closing.now c.args.imports.now c.args.decls.now c.args.body.now u w c.args.book.now c.name_judged.new.book c.imports_declared.new.book c.block.new.book c.in_ok-imports_declared.ensures.around c.name_judged.ensures c.in_ok-imports_declared.ensures.noted c.in_ok-block.ensures.noted

pub returns-clause-added : goal.returns-clause-added
returns-clause-added g c =
    let t = g.E.Types.types in
    let u = around_of t c.args.scope.now in
    let w = around_of t c.imports_declared.new.scope in
    within_added c.args.name.now c.args.closing.now c.args.imports.now c.args.decls.now c.args.body.now u w (contents_of c.args.contents.now) (contents_of c.block.new.contents) c.in_ok-imports_declared.ensures.around c.in_ok-block.ensures.added

pub returns-clause-own : goal.returns-clause-own
returns-clause-own g c =
    let t = g.E.Types.types in
    let u = around_of t c.args.scope.now in
    let w = around_of t c.imports_declared.new.scope in
    let e = c.in_ok-imports_declared.ensures.around in
    within_own c.args.name.now c.args.closing.now c.args.imports.now c.args.decls.now c.args.body.now u w (around_of t c.block.new.scope).own e (c.in_ok-block.ensures.bound (imports_level c.args.imports.now u w e c.requires))
