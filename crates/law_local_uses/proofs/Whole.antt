-- The laws, of the parts.
use Rattle.std.proofs.Common.{◌≡◌, true, List, [], map, Option, Some, subst}
use Rattle.ob_types.specs.declared.typed.TypedStmt.{TypedStmt}
use Rattle.ob_rules.specs.Judged.{Notes}
use Rattle.ob_rules.specs.Expressions.{phrase_of, constant_value}
use Rattle.ob_rules.specs.Statements.{judging, in_turn}
use Rattle.law_local_judged.specs.Said.{SaidIn}
use Rattle.law_local_uses.specs.Laws.{StatementsAreTied, ConstantsAreHeld}
use Rattle.law_local_uses.proofs.Setting.{Setting, Said}
use Rattle.law_local_uses.proofs.Expressions.{expr_ok}
use Rattle.law_local_uses.proofs.Statements.{AreOk, stmts_named, turn_keeps, constant_keeps}
use Rattle.law_local_uses.proofs.Bodies.{stmts_ok}
use Rattle.law_lists.proofs.Lists.{IfThere}

said_in : (k : Setting) (n : Notes) → Said k n → SaidIn k.Held n
said_in k n h = record { objects = h.0; types = h.1; lengths = h.2 }

there : (k : Setting) (o : Option (List TypedStmt)) → IfThere (AreOk k) o → (ys : List TypedStmt) → o ≡ Some ys → AreOk k ys
there k o h ys e = subst (IfThere (AreOk k)) e h

pub statements_are_tied : StatementsAreTied
statements_are_tied map_ unit own held u settled xs =
    let k : Setting = record { map = map_; unit = unit; Own = λ q. own q ≡ true; Held = λ q. held q ≡ true } in
    let j = in_turn (map judging xs) u in
    let r = turn_keeps k u settled (map judging xs) (stmts_ok k xs) in
    (said_in k j.notes r.1, λ ys e. let b = stmts_named k ys (there k j.node r.0 ys e) in record { tied = b.0; held = b.1 })

pub constants_are_held : ConstantsAreHeld
constants_are_held map_ own held u settled e =
    let k : Setting = record { map = map_; unit = []; Own = λ q. own q ≡ true; Held = λ q. held q ≡ true } in
    said_in k (constant_value u (phrase_of e)).notes (constant_keeps k u settled (phrase_of e) (expr_ok k e)).1
