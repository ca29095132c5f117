use Rattle.std.proofs.Common.{refl}
use Rattle.ob_uses_roots.proofs.Parting.{turn, over}
use Rattle.ob_types.specs.declared.desc.Field.{Field}
use Rattle.std.specs.List.{flat_map}
use Rattle.ob_uses_roots.specs.Counts.{both}
use Rattle.ob_uses_roots.proofs.decls.count_fields.Goals as goal

pub fields-preserved : goal.fields-preserved
fields-preserved c = turn (λ (f : Field). both f.of) (flat_map (λ (f : Field). both f.of)) (λ _ _. refl) c.args.fields.now c.fields.field-index c.field-item.result c.fields.found c.note_both.new.found _ c.fields-test.true c.field-item.is c.in_ok-note_both.ensures c.fields.invariant

pub returns : goal.returns
returns c = over (flat_map (λ (f : Field). both f.of)) refl c.args.fields.now c.fields.field-index c.fields.found _ c.fields-test.false c.fields.invariant
