use Rattle.std.proofs.Common.{◌<◌, ◌≤◌, length, map, ap, subst, ◌∙◌}
use Rattle.ob_env_walk.specs.Walk.{symbol_entry, walk}
use Rattle.ob_env_walk.specs.Answer.{after_walk}
use Rattle.ob_compile_model.specs.Compiling.{imported, of_reached, prints}
use Rattle.ob_compile.specs.Steps.{stood}
use Rattle.ob_compile.proofs.Walked.{many_imports, with_imports}
use Rattle.ob_compile.proofs.faces.compile_tree.Goals as goal

pub returns-then-len-gt-MOST_IMPORTS-clause-compiles : goal.returns-then-len-gt-MOST_IMPORTS-clause-compiles
returns-then-len-gt-MOST_IMPORTS-clause-compiles g c = λ told.
    let tree = c.args.tree.now in
    let many : 64 < length tree.imports = subst (λ n. 64 < n) c.len.ensures c.if-len-gt-MOST_IMPORTS.true in
    many_imports (length tree.imports) (of_reached prints tree (after_walk stood (walk (symbol_entry (g.F.Shelf.files c.args.folder.now)) tree.name.name (map imported tree.imports)))) c.over_limit.result many c.over_limit.ensures

pub returns-clause-compiles : goal.returns-clause-compiles
returns-clause-compiles g c = λ told.
    let tree = c.args.tree.now in
    let few : length tree.imports ≤ 64 = subst (λ n. n ≤ 64) c.len.ensures c.if-len-gt-MOST_IMPORTS.false in
    with_imports tree (symbol_entry (g.F.Shelf.files c.args.folder.now)) (length tree.imports) (map imported tree.imports) c.as_slice.result.now c.compile_with.result few
    (c.as_slice.ensures ∙ c.in-Ok.ensures ∙ ap (map imported) c.as_slice-listed.ensures) (c.compile_with.ensures.compiles told)
