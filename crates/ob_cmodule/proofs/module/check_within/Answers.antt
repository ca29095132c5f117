use Rattle.std.proofs.Common.{sym, ◌∙◌}
use Rattle.ob_cdecl_scopes.specs.Scopes.{around_of}
use Rattle.ob_cdecl.specs.Seen.{contents_of}
use Rattle.ob_cmodule.specs.Wholes.{module_within, described_types}
use Rattle.ob_cmodule.proofs.ModuleLaws.{only_contents, described_all, only_book, least_in}
use Rattle.ob_cmodule.proofs.module.check_within.Goals as goal

pub returns-clause-tree : goal.returns-clause-tree
returns-clause-tree g c =
    let t = g.E.Types.types in
    let p = module_within c.args.unit.now (around_of t c.args.scope.now) in
    let said = c.in_ok-judge_module.ensures in
    let all = contents_of c.judge_module.new.contents in
    let only = only_contents p.contents (contents_of c.new-contents.result) all c.new-contents.ensures said.added in
    let types = described_all p (around_of t c.judge_module.new.scope).own c.as_slice.result.now c.in_ok-types.types all said.own only c.as_slice.ensures c.in_ok-types.ensures in
    c.in_ok-tree.ensures p types only (only_book p.notes c.new-book.result c.judge_module.new.book c.new-book.ensures said.noted)

pub returns-clause-broken : goal.returns-clause-broken
returns-clause-broken g c =
    let p = module_within c.args.unit.now (around_of g.E.Types.types c.args.scope.now) in
    least_in c.judge_module.new.book p.notes (only_book p.notes c.new-book.result c.judge_module.new.book c.new-book.ensures c.in_ok-judge_module.ensures.noted)

pub returns-clause-deep : goal.returns-clause-deep
returns-clause-deep g c =
    let t = g.E.Types.types in
    let u = around_of t c.args.scope.now in
    let p = module_within c.args.unit.now u in
    let said = c.in_ok-judge_module.ensures in
    let all = contents_of c.judge_module.new.contents in
    let only = only_contents p.contents (contents_of c.new-contents.result) all c.new-contents.ensures said.added in
    let types = described_all p (around_of t c.judge_module.new.scope).own c.as_slice.result.now c.in_ok-types.types all said.own only c.as_slice.ensures c.in_ok-types.ensures in
    c.in_ok-deep.ensures (record u { own = described_types p }) c.requires.unit c.requires.shown (sym (c.as_slice-2.ensures ∙ types))
