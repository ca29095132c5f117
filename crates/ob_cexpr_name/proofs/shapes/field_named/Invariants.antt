use Rattle.std.proofs.Common.{◌≡◌, drop}
use Rattle.std.specs.Prelude.{bytes_eq}
use Rattle.std.specs.List.{find}
use Rattle.ob_cexpr_name.proofs.shapes.field_named.Given as goal

abbrev pub invariant-loop-field : goal.invariant-loop-field
invariant-loop-field l = find (λ f. bytes_eq f.name l.name) l.fields ≡ find (λ f. bytes_eq f.name l.name) (drop l.field-index l.fields)
