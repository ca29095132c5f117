use Rattle.std.proofs.Common.{List, refl, map}
use Rattle.std.specs.List.{filter, flat_map}
use Rattle.ob_types.specs.declared.desc.Field.{Field}
use Rattle.ob_desc.specs.Grammar.{is_shown}
use Rattle.ob_uses.proofs.Leading.{turn, over, shown_fields_cons}
use Rattle.ob_uses.proofs.leads.add_shown_fields.Goals as goal

pub fields-preserved : goal.fields-preserved
fields-preserved c = turn c.args.alone c.args.own.now (λ (xs : List Field). map (λ f. f.of) (filter (λ f. is_shown f.mark) xs)) shown_fields_cons c.args.fields.now c.fields.field-index c.field-item.result c.fields.left.items c.add_shown_field.new.left.items _ c.fields-test.true c.field-item.is c.in_ok-add_shown_field.ensures c.fields.invariant

pub returns : goal.returns
returns c = over c.args.alone c.args.own.now (λ (xs : List Field). map (λ f. f.of) (filter (λ f. is_shown f.mark) xs)) refl c.args.fields.now c.fields.field-index c.fields.left.items _ c.fields-test.false c.fields.invariant
