use Rattle.std.proofs.Common.{◌-◌, List, length, ap, ◌∙◌, arith}
use Rattle.ob_types.specs.declared.typed.TypedType.{TypedType}
use Rattle.ob_cdecl_scopes.specs.Scopes.{at_start}
use Rattle.ob_rules.specs.Names.{Around, map_of}
use Rattle.ob_rules.specs.Depth.{kept, kept_of, names_held}
use Rattle.ob_cdecl_bound.proofs.Keeping.{rounds_end, round_more}
use Rattle.ob_cdecl_bound.proofs.depth.kept.Goals as goal

pub returns-then-len : goal.returns-then-len
returns-then-len g c =
    let u : Around = record (at_start c.args.unit (g.E.Types.types c.args.imported.now)) { own = c.args.types.now } in
    let K : List TypedType → List TypedType = λ l. kept_of (names_held (map_of (record u { own = l }))) l in
    rounds_end u (length c.args.types.now - c.rounds.round) c.rounds.all c.in_ok-next.next (kept u) (c.in_ok-next.ensures ∙ ap K c.as_slice.ensures) (omega (arith, c.len.ensures, c.len-in-rounds.ensures, c.if-len.true)) c.rounds.invariant

pub rounds-preserved : goal.rounds-preserved
rounds-preserved g c =
    let u : Around = record (at_start c.args.unit (g.E.Types.types c.args.imported.now)) { own = c.args.types.now } in
    let K : List TypedType → List TypedType = λ l. kept_of (names_held (map_of (record u { own = l }))) l in
    round_more u (length c.args.types.now) c.rounds.round c.rounds.all c.in_ok-next.next (kept u) (omega arith) (c.in_ok-next.ensures ∙ ap K c.as_slice.ensures) c.rounds.invariant
