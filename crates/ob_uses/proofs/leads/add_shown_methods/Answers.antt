use Rattle.std.proofs.Common.{List, refl, map}
use Rattle.std.specs.List.{filter, flat_map}
use Rattle.ob_types.specs.declared.desc.Method.{Method}
use Rattle.ob_desc.specs.Grammar.{is_shown}
use Rattle.ob_types.specs.Maps.{signature_types}
use Rattle.ob_uses.proofs.Leading.{turn, over, shown_methods_cons}
use Rattle.ob_uses.proofs.leads.add_shown_methods.Goals as goal

pub methods-preserved : goal.methods-preserved
methods-preserved c = turn c.args.alone c.args.own.now (λ (xs : List Method). flat_map (λ p. signature_types p.signature) (filter (λ p. is_shown p.mark) xs)) shown_methods_cons c.args.methods.now c.methods.method-index c.method-item.result c.methods.left.items c.add_shown_method.new.left.items _ c.methods-test.true c.method-item.is c.in_ok-add_shown_method.ensures c.methods.invariant

pub returns : goal.returns
returns c = over c.args.alone c.args.own.now (λ (xs : List Method). flat_map (λ p. signature_types p.signature) (filter (λ p. is_shown p.mark) xs)) refl c.args.methods.now c.methods.method-index c.methods.left.items _ c.methods-test.false c.methods.invariant
