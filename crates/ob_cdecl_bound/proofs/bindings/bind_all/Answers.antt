use Rattle.std.proofs.Common.{List, map, ap, ◌∙◌}
use Rattle.ob_cdecl_scopes.specs.Scopes.{around_of}
use Rattle.ob_rules.specs.declared.entity.Coming.{Coming}
use Rattle.ob_rules.specs.Names.{Around}
use Rattle.ob_cdecl_heading.specs.Kept.{seen}
use Rattle.ob_cdecl_bound.proofs.Chosen.{Whole, whole_around, whole_notes}
use Rattle.ob_cdecl_bound.proofs.bindings.bind_all.Goals as goal

pub returns-clause-around : goal.returns-clause-around
returns-clause-around g c =
    let t = g.E.Types.types in
    let u = around_of t c.args.scope.now in
    let v = around_of t c.unbind.new.self in
    let w = around_of t c.bind_records.new.scope in
    let x = around_of t c.set_coming.new.self in
    let hs = map seen c.args.heads.now in
    let names = c.as_slice.result.now in
    let types = c.own_types.result.now in
    let all : Whole u names types = record { named = c.as_slice.ensures ∙ c.in_ok-names.ensures; own = c.own_types.ensures } in
    let F : List Coming → Around = λ l. record w { coming = l } in
    whole_around u v w x hs names types all c.unbind.ensures c.in_ok-bind_records.ensures.around (c.set_coming.ensures ∙ ap F c.new.ensures)

pub returns-clause-noted : goal.returns-clause-noted
returns-clause-noted g c =
    let t = g.E.Types.types in
    let u = around_of t c.args.scope.now in
    let v = around_of t c.unbind.new.self in
    let hs = map seen c.args.heads.now in
    let names = c.as_slice.result.now in
    let types = c.own_types.result.now in
    let all : Whole u names types = record { named = c.as_slice.ensures ∙ c.in_ok-names.ensures; own = c.own_types.ensures } in
    whole_notes u v hs names types c.args.book.now c.bind_records.new.book all c.unbind.ensures c.in_ok-bind_records.ensures.noted
