use Rattle.std.proofs.Common.{◌≡◌, ◌++◌, ◌∷◌, take}
use Rattle.std.specs.List.{flat_map}
use Rattle.ob_desc.specs.Grammar.{param}
use Rattle.ob_desc.proofs.writing.put_params.Given as goal

abbrev pub invariant-loop-p : goal.invariant-loop-p
invariant-loop-p l = l.out.items ≡ l.initial.out.items ++ flat_map (λ p. 44 ∷ param.print p) (take l.p-index l.others)
