use Rattle.std.proofs.Common.{List, refl, map}
use Rattle.std.specs.List.{filter, flat_map}
use Rattle.ob_types.specs.declared.desc.Field.{Field}
use Rattle.ob_uses.proofs.Leading.{turn, over, fields_cons}
use Rattle.ob_uses.proofs.leads.add_fields.Goals as goal

pub fields-preserved : goal.fields-preserved
fields-preserved c = turn c.args.alone c.args.own.now (λ (xs : List Field). map (λ f. f.of) xs) fields_cons c.args.fields.now c.fields.field-index c.field-item.result c.fields.left.items c.add_type.new.left.items _ c.fields-test.true c.field-item.is c.in_ok-add_type.ensures c.fields.invariant

pub returns : goal.returns
returns c = over c.args.alone c.args.own.now (λ (xs : List Field). map (λ f. f.of) xs) refl c.args.fields.now c.fields.field-index c.fields.left.items _ c.fields-test.false c.fields.invariant
