use Rattle.std.proofs.Common.{◌≡◌, drop}
use Rattle.std.specs.Prelude.{not}
use Rattle.std.specs.List.{list_any}
use Rattle.ob_types.specs.declared.types.TypeRef.TheVariants as ref
use Rattle.ob_rules.specs.Depth.{is_within}
use Rattle.ob_cdecl_bound.specs.Heights.{AreHeights}
use Rattle.ob_cdecl_bound.proofs.depth.deep_among.Given as goal

abbrev pub invariant-types : goal.invariant-types
invariant-types g l = record {
  known : AreHeights (g.T.Types.types l.here) l.known;
  rest : list_any (λ t. not (is_within (g.T.Types.types l.here) l.left (ref.Named (record { «module» = l.unit; object = t.name })))) l.types ≡ list_any (λ t. not (is_within (g.T.Types.types l.here) l.left (ref.Named (record { «module» = l.unit; object = t.name })))) (drop l.t-index l.types);
}
