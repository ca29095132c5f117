use Rattle.std.proofs.Common.{List, [], ◌∷◌, refl}
use Rattle.std.specs.List.{filter}
use Rattle.ob_types.specs.declared.desc.Method.{Method}
use Rattle.ob_desc.specs.Grammar.{is_shown}
use Rattle.ob_uses.proofs.Leading.{filter_join}
use Rattle.ob_uses.proofs.Looping.{one_more, all_done}
use Rattle.ob_uses_interface.proofs.copies.seen_methods.Goals as goal

pub methods-preserved : goal.methods-preserved
methods-preserved c =
    one_more (λ (x : Method). filter (λ f. is_shown f.mark) (x ∷ [])) (filter (λ (f : Method). is_shown f.mark)) (λ x xs. filter_join (λ (f : Method). is_shown f.mark) (x ∷ []) xs)
    c.args.methods.now c.methods.method-index c.method-item.result c.methods.all c.add_method.new.all _ c.methods-test.true c.method-item.is c.in_ok-add_method.ensures c.methods.invariant

pub returns : goal.returns
returns c = all_done (filter (λ (f : Method). is_shown f.mark)) refl c.args.methods.now c.methods.method-index c.methods.all _ c.methods-test.false c.methods.invariant
