use Rattle.std.proofs.Common.{◌≡◌, List, OnOk, subst}
use Rattle.ob_tree.specs.declared.ident.Import.{Import}
use Rattle.ob_tree.specs.declared.decl.Decl.{Decl}
use Rattle.ob_tree.specs.declared.stmt.Stmt.{Stmt}
use Rattle.ob_cdecl_scopes.specs.Scopes.{around_of}
use Rattle.ob_rules.specs.Books.{book_after}
use Rattle.ob_cmodule.specs.Wholes.{module_parts}
use Rattle.ob_cmodule.proofs.module.judge_module.Goals as goal

pub returns-clause-noted : goal.returns-clause-noted
returns-clause-noted g c =
    let u = around_of g.E.Types.types c.args.scope.now in
    let m = c.args.unit.now in
    let P : List Import → List Decl → List Stmt → Type 0 = λ is ds ss. OnOk c.judge_parts.result (c.judge_parts.new.book ≡ book_after c.args.book.now (module_parts m.name m.closing is ds ss u).notes) in
    subst (λ is. P is m.decls m.body) c.as_slice.ensures
    (subst (λ ds. P c.as_slice.result.now ds m.body) c.as_slice-2.ensures
    (subst (λ ss. P c.as_slice.result.now c.as_slice-2.result.now ss) c.as_slice-3.ensures c.judge_parts.ensures.noted))
