use Rattle.std.proofs.Common.{◌≡◌, drop}
use Rattle.std.specs.List.{list_any}
use Rattle.ob_rules.specs.Designators as spec
use Rattle.ob_cexpr_designator.proofs.fields.comes.Given as goal

abbrev pub invariant-coming : goal.invariant-coming
invariant-coming g l = list_any (λ c. spec.comes_as (g.S.Surroundings.around l.here) l.owner l.name c) (g.S.Surroundings.around l.here).coming ≡ list_any (λ c. spec.comes_as (g.S.Surroundings.around l.here) l.owner l.name c) (drop l.coming-index (g.S.Surroundings.around l.here).coming)
