-- The laws, whole.
use Rattle.std.proofs.Common.{subst, map}
use Rattle.ob_rules.specs.Names.{map_of}
use Rattle.ob_rules.specs.Expressions.{named_of}
use Rattle.ob_rules.specs.Statements.{judging}
use Rattle.law_typing.specs.Makes.{IfThere}
use Rattle.law_typing.specs.Kept.{ValuedIs}
use Rattle.law_typing.specs.Meant.{MeantIs}
use Rattle.law_typing.specs.Bodies.{AreStatements}
use Rattle.law_typing.specs.Laws.{Having, ExpressionsFit, DesignatorsFit, StatementsFit, SurroundingsFit}
use Rattle.law_typing.proofs.Assignable.{scalar_fits}
use Rattle.law_typing.proofs.Fronts.{designates_is}
use Rattle.law_typing.proofs.Expressions.{expr_is, designator_of_is}
use Rattle.law_typing.proofs.Bodies.{stmts_ok, in_turn_is}
use Rattle.law_typing.proofs.Statements.{stmts_are}
use Rattle.law_typing.proofs.Surrounded.{scoped_is}

pub expressions_fit : ExpressionsFit
expressions_fit program has unit held result u scoped e spelled x is =
    let p = (expr_is program (Having has) unit held result e spelled).value u scoped in
    let h : ValuedIs program (Having has) unit held result (map_of u) x = subst (IfThere (ValuedIs program (Having has) unit held result (map_of u))) is p.node in
    (h, λ t d f s. scalar_fits program (Having has) unit held result (map_of u) scoped.forms t x d h f s)

pub designators_fit : DesignatorsFit
designators_fit program has unit held result u scoped w d spelled m is =
    subst (IfThere (MeantIs program (Having has) unit held result (map_of u) u.receiver w)) is (designates_is program (Having has) unit held result u scoped w (named_of d).ident (named_of d).behind (designator_of_is program (Having has) unit held result d spelled)).node

pub statements_fit : StatementsFit
statements_fit program has unit held result u scoped xs spelled hidden ys is =
    let h = in_turn_is program (Having has) unit held result u scoped (map judging xs) (stmts_are program (Having has) unit held result xs spelled hidden) in
    stmts_ok program (Having has) unit held result u.in_loop ys (subst (IfThere (AreStatements program (Having has) unit held result u.in_loop)) is h.node)

pub surroundings_fit : SurroundingsFit
surroundings_fit program has unit held result u s = scoped_is program (Having has) unit held result u s
