use Rattle.std.proofs.Common.{◌≡◌, ◌+◌, true, length, refl, arith}
use Rattle.std.proofs.lemmas.Int.{ints, to_z-of_z}
use Rattle.ob_mem.specs.Words.{are_there}
use Rattle.ob_machine_operands.specs.Effects.{ops_of}
use Rattle.ob_machine_step.proofs.Puts.{place_is}
use Rattle.ob_machine_step.proofs.texts.place_text.Goals as goal

pub returns-clause-does : goal.returns-clause-does
returns-clause-does c = λ out.
    let s = c.args.state.now in
    let h : are_there (length c.args.state.now.words.words) c.args.to (c.args.count + 1) ≡ true = grind (arith, to_z-of_z) in
    place_is s.words c.copy.new.self c.store.new.self c.args.to _ _ _ _ c.args.start c.args.count c.copy.ensures.after c.store.ensures.after h c.requires.there (omega (arith, ints)) (omega (arith, ints)) (omega (arith, ints)) refl (ops_of s) s.stack s.turns out
