use Rattle.std.proofs.Common.{◌≡◌, List, ℕ}
use Rattle.ob_cdecl_scopes.specs.Bodies.{names_in}
use Rattle.ob_cdecl_scopes.specs.Scopes.{around_of}
use Rattle.ob_cdecl_heading.specs.Kept.{owner_seen}
use Rattle.ob_cdecl_heading.proofs.Growing.{is_inner, left_names, left_scope, left_heading}
use Rattle.ob_cdecl_heading.proofs.heading.heading_parameters.Goals as goal

pub leave_heading-requires : goal.leave_heading-requires
leave_heading-requires g c =
    is_inner (around_of g.E.Types.types c.args.scope.now) (around_of g.E.Types.types c.parameters_inside.new.scope) c.args.heading.now (owner_seen c.args.bound.now) c.args.name.now c.in_ok-found.ensures.known

pub returns-clause-inside : goal.returns-clause-inside
returns-clause-inside g c =
    left_names (around_of g.E.Types.types c.args.scope.now) (around_of g.E.Types.types c.parameters_inside.new.scope) c.args.heading.now (owner_seen c.args.bound.now) c.args.name.now (names_in c.in_ok-inside.inside) c.in_ok-found.ensures.known c.in_ok-inside.ensures.inside

pub returns-clause-scope : goal.returns-clause-scope
returns-clause-scope g c =
    left_scope (around_of g.E.Types.types c.args.scope.now) (around_of g.E.Types.types c.parameters_inside.new.scope) c.args.heading.now (owner_seen c.args.bound.now) c.args.name.now c.in_ok-inside.inside.scope c.in_ok-found.ensures.known c.in_ok-inside.ensures.scope

pub returns-clause-stays : goal.returns-clause-stays
returns-clause-stays g c =
    left_heading (around_of g.E.Types.types c.args.scope.now) (around_of g.E.Types.types c.parameters_inside.new.scope) (around_of g.E.Types.types c.leave_heading.new.self) c.args.heading.now (owner_seen c.args.bound.now) c.args.name.now c.mark.ensures.fall c.in_ok-found.ensures.known c.in_ok-inside.ensures.outer
