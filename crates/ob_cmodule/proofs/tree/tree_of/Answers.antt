use Rattle.std.proofs.Common.{[], ap, ◌∙◌}
use Rattle.std.specs.Option.{option_map}
use Rattle.ob_rules.specs.Declarations.{imported}
use Rattle.ob_cdecl.specs.Seen.{contents_of}
use Rattle.ob_cmodule.proofs.ModuleLaws.{tree_checked}
use Rattle.ob_cmodule.proofs.tree.tree_of.Goals as goal

pub returns : goal.returns
returns c = λ p e f g.
    tree_checked c.args.unit.now p c.in_ok-imports.imports c.args.types (contents_of c.args.contents) c.args.book c.module_tree-tree.result.inner (option_map (λ t. t.inner) c.if_unbroken.result) (c.in_ok-imports.ensures ∙ ap (imported []) c.as_slice.ensures) c.module_tree-tree.ensures c.if_unbroken.ensures e f g
