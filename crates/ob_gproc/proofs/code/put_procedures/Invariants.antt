use Rattle.std.specs.Prelude.{map}
use Rattle.std.proofs.Common.{◌≡◌, ◌++◌, drop}
use Rattle.ob_types.specs.TypedView.{procedure_view, module_view}
use Rattle.ob_scheme.specs.Coded.{appended, place_in}
use Rattle.ob_scheme.specs.Procedures.{procedures_code, rows_of}
use Rattle.ob_gproc.proofs.code.put_procedures.Given as goal

-- what was put, and the rest after it, is the whole; so are the rows
abbrev pub invariant-procedures : goal.invariant-procedures
invariant-procedures g l =
    (appended l.code (procedures_code (g.T.Types.types l.scope.types.now) (module_view l.scope.unit.now) (map procedure_view (drop l.procedure-index l.procedures)) (place_in l.code)) ≡ appended l.initial.code (procedures_code (g.T.Types.types l.scope.types.now) (module_view l.scope.unit.now) (map procedure_view l.procedures) (place_in l.initial.code)))
    × (l.rows ++ rows_of (g.T.Types.types l.scope.types.now) (module_view l.scope.unit.now) (map procedure_view (drop l.procedure-index l.procedures)) (place_in l.code) ≡ l.initial.rows ++ rows_of (g.T.Types.types l.scope.types.now) (module_view l.scope.unit.now) (map procedure_view l.procedures) (place_in l.initial.code))
