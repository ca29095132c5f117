use Rattle.std.proofs.Common.{◌≡◌, ◌+◌, ◌-◌, ◌++◌, ◌∷◌, [], length, vec_len, refl, ap, sym, subst, ◌∙◌, arith}
use Rattle.std.proofs.lemmas.List.{length-append}
use Rattle.std.specs.Prelude.{reverse}
use Rattle.ob_machine_calls.specs.Kept.{AreCounted, acts_of}
use Rattle.ob_machine_calls.proofs.Acts.{popped_acts, popped_counted, popped_rest}
use Rattle.ob_machine_calls.proofs.calls.Calls.pop.Goals as goal

pub invariant_of-self-2 : goal.invariant_of-self-2
invariant_of-self-2 c =
    let d = c.self.inside in
    let w = c.in-Some.waiting in
    let items : d.waiting.items ≡ c.pop.new.self.items ++ w ∷ [] = c.in-Some.ensures.items in
    let counted = subst (λ ws. AreCounted (reverse ws) (reverse d.operands.items)) items c.self.invariant.counted in
    let p = popped_counted w c.pop.new.self.items d.operands.items counted in
    let start : vec_len d.operands - w.operands + w.operands ≡ length d.operands.items = omega (arith, p.0, d.operands.ok.0) in
    record {
      counted = rw c.move_last.ensures.rest (popped_rest w c.pop.new.self.items d.operands.items (vec_len d.operands - w.operands) start counted);
      few = omega (arith, c.self.invariant.few, ap length items, length-append c.pop.new.self.items (w ∷ []));
      room = omega (arith, c.pop.ensures.capacity, c.self.invariant.room);
      operands = omega (arith, c.move_last.ensures.capacity, c.self.invariant.operands);
    }

pub returns-clause-some : goal.returns-clause-some
returns-clause-some c =
    let d = c.self.inside in
    let w = c.in-Some.waiting in
    let items : d.waiting.items ≡ c.pop.new.self.items ++ w ∷ [] = c.in-Some.ensures.items in
    let counted = subst (λ ws. AreCounted (reverse ws) (reverse d.operands.items)) items c.self.invariant.counted in
    let p = popped_counted w c.pop.new.self.items d.operands.items counted in
    let start : vec_len d.operands - w.operands + w.operands ≡ length d.operands.items = omega (arith, p.0, d.operands.ok.0) in
    let acts = popped_acts w c.pop.new.self.items d.operands.items (vec_len d.operands - w.operands) start in
    sym c.self.view_is ∙ ap (λ ws. acts_of (reverse ws) (reverse d.operands.items)) items ∙ acts ∙ rw (c.move_last.ensures.items, c.move_last.ensures.rest) refl
