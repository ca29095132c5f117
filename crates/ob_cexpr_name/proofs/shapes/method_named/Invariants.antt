use Rattle.std.proofs.Common.{◌≡◌, drop}
use Rattle.std.specs.Prelude.{bytes_eq}
use Rattle.std.specs.List.{find}
use Rattle.ob_cexpr_name.proofs.shapes.method_named.Given as goal

abbrev pub invariant-loop-method : goal.invariant-loop-method
invariant-loop-method l = find (λ f. bytes_eq f.name l.name) l.methods ≡ find (λ f. bytes_eq f.name l.name) (drop l.method-index l.methods)
