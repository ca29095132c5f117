use Rattle.ob_rules.specs.Declarations.{field_judged}
use Rattle.ob_cdecl_block.proofs.FieldLaws.{fields_after}
use Rattle.ob_cdecl_block.proofs.bound.all_fields_judged.Goals as goal

pub returns : goal.returns
returns g c = λ n before k. fields_after (field_judged (g.T.Types.types c.args.types.now)) n c.args.heads.now before c.args.later.now c.args.book.now c.fields_judged.new.book c.heads_judged.new.book k c.in_ok-fields_judged.ensures c.in_ok-heads_judged.ensures
