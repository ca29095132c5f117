use Rattle.ob_cdecl_scopes.specs.Scopes.{around_of}
use Rattle.ob_cdecl_field.specs.Makes.{typing_of}
use Rattle.ob_cdecl.specs.Seen.{contents_of}
use Rattle.ob_cdecl.proofs.OrderLaws.{sound_around, sound_notes, sound_contents}
use Rattle.ob_cdecl.proofs.variables.variables_sound.Goals as goal

pub returns-clause-around : goal.returns-clause-around
returns-clause-around g c =
    let u = around_of g.E.Types.types c.args.scope.now in
    let v = around_of g.E.Types.types c.add_types.new.scope in
    let w = around_of g.E.Types.types c.variables_with.new.scope in
    sound_around c.variables_with.result c.args.names.now (typing_of c.args.t) u v w c.as_slice.result.now c.in_ok-add_types.ensures c.as_slice.ensures c.variables_with.ensures.around

pub returns-clause-noted : goal.returns-clause-noted
returns-clause-noted g c =
    let u = around_of g.E.Types.types c.args.scope.now in
    let v = around_of g.E.Types.types c.add_types.new.scope in
    sound_notes c.variables_with.result c.args.names.now (typing_of c.args.t) u v c.as_slice.result.now c.args.book.now c.variables_with.new.book c.in_ok-add_types.ensures c.as_slice.ensures c.variables_with.ensures.noted

pub returns-clause-added : goal.returns-clause-added
returns-clause-added g c =
    let u = around_of g.E.Types.types c.args.scope.now in
    let v = around_of g.E.Types.types c.add_types.new.scope in
    sound_contents c.variables_with.result c.args.names.now (typing_of c.args.t) u v c.as_slice.result.now (contents_of c.args.contents.now) (contents_of c.add_types-2.new.self) (contents_of c.variables_with.new.contents) c.in_ok-add_types.ensures c.as_slice.ensures c.in_ok-add_types-2.ensures c.variables_with.ensures.added
