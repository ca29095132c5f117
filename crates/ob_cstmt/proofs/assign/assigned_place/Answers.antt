use Rattle.std.proofs.Common.{sym, ◌∙◌}
use Rattle.ob_rules.specs.declared.meant.Where.TheVariants.{Elsewhere}
use Rattle.ob_rules.specs.Statements as spec
use Rattle.ob_cexpr_trait.proofs.Alone.{alone_made, alone_said}
use Rattle.ob_cstmt.proofs.assign.assigned_place.Goals as goal

pub returns-then-is_empty-clause-made : goal.returns-then-is_empty-clause-made
returns-then-is_empty-clause-made g c =
    alone_made (g.S.Surroundings.around c.args.here.now) Elsewhere c.args.designator.now c.as_slice.result.now (λ p m. spec.target p m) c.name_target.result c.ident.result c.ident.ensures c.as_slice.ensures (sym c.if-is_empty.true ∙ c.is_empty.ensures) c.name_target.ensures.made

pub returns-then-is_empty-clause-noted : goal.returns-then-is_empty-clause-noted
returns-then-is_empty-clause-noted g c =
    alone_said (g.S.Surroundings.around c.args.here.now) Elsewhere c.args.designator.now c.as_slice.result.now (λ p m. spec.target p m) c.name_target.result c.args.book.now c.name_target.new.book c.ident.result c.ident.ensures c.as_slice.ensures (sym c.if-is_empty.true ∙ c.is_empty.ensures) c.name_target.ensures.noted
