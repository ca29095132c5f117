use Rattle.std.proofs.Common.{◌∙◌}
use Rattle.std.specs.Option.{option_map}
use Rattle.ob_cdecl_scopes.specs.Scopes.{around_of}
use Rattle.ob_rules.specs.Types.{written}
use Rattle.ob_cdecl_field.specs.Makes.{typing_of}
use Rattle.ob_cdecl.proofs.OrderLaws.{type_around_is, type_noted}
use Rattle.ob_cdecl.proofs.types.type_judged.Goals as goal

pub returns-clause-around : goal.returns-clause-around
returns-clause-around g c =
    let u = around_of g.E.Types.types c.args.scope.now in
    let v = around_of g.E.Types.types c.typing_as.new.scope in
    let w = around_of g.E.Types.types c.declare_type.new.scope in
    type_around_is c.declare_type.result u v w c.args.d.now (written c.args.node.now) c.new_mark-mark.result (option_map typing_of c.in_ok-t.t) c.as_bytes.result.now c.mark_or_hidden.result c.in_ok-t.ensures.stays c.new_mark-mark.ensures.made (c.as_bytes.ensures ∙ c.in_ok-name.ensures) c.mark_or_hidden.ensures c.in_ok-t.ensures.made c.declare_type.ensures.around

pub returns-clause-noted : goal.returns-clause-noted
returns-clause-noted g c =
    let u = around_of g.E.Types.types c.args.scope.now in
    let v = around_of g.E.Types.types c.typing_as.new.scope in
    type_noted c.declare_type.result u v c.args.d.now (written c.args.node.now) c.new_mark-mark.result c.as_bytes.result.now c.mark_or_hidden.result c.new-notes.result c.new_mark-mark.new.book c.typing_as.new.book c.args.book.now c.keep_notes.new.book c.declare_type.new.book
    c.new-notes.ensures c.new_mark-mark.ensures.noted c.new_mark-mark.ensures.made (c.as_bytes.ensures ∙ c.in_ok-name.ensures) c.mark_or_hidden.ensures c.in_ok-t.ensures.noted c.in_ok-t.ensures.stays c.in_ok-keep_notes.ensures c.declare_type.ensures.noted
