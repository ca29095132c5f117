-- The law of statements.
use Rattle.std.proofs.Common.{◌≡◌, List, map, Option, Some, subst}
use Rattle.ob_types.specs.declared.typed.TypedStmt.{TypedStmt}
use Rattle.ob_rules.specs.Shapes.{Map}
use Rattle.ob_rules.specs.Statements.{judging, in_turn}
use Rattle.law_builds_seen.specs.Laws.{StatementsAreSeen}
use Rattle.law_builds_seen.proofs.Statements.{AreOk, stmts_seen, turn_keeps}
use Rattle.law_builds_seen.proofs.Bodies.{stmts_ok}
use Rattle.law_lists.proofs.Lists.{IfThere}

there : (k : Map) (o : Option (List TypedStmt)) → IfThere (AreOk k) o → (ys : List TypedStmt) → o ≡ Some ys → AreOk k ys
there k o h ys e = subst (IfThere (AreOk k)) e h

pub statements_are_seen : StatementsAreSeen
statements_are_seen k u stands xs ys e = stmts_seen k ys (there k (in_turn (map judging xs) u).node (turn_keeps k u stands (map judging xs) (stmts_ok k xs)) ys e)
