use Rattle.std.proofs.Common.{◌≡◌, ◌++◌, drop}
use Rattle.std.specs.List.{flat_map}
use Rattle.ob_types.specs.TypedView.{stmts_view}
use Rattle.ob_layout.specs.Texts.{texts_of_all}
use Rattle.ob_layout.specs.Used.{used, counted}
use Rattle.ob_layout.proofs.texts_of_code.texts_in_procedures.Given as goal

abbrev pub invariant-procedures : goal.invariant-procedures
invariant-procedures g l = used l.out ++ flat_map (λ p. texts_of_all (counted (g.T.Types.types l.types)) (stmts_view p.body)) (drop l.procedure-index l.procedures) ≡ used l.fn.out ++ flat_map (λ p. texts_of_all (counted (g.T.Types.types l.types)) (stmts_view p.body)) l.procedures
