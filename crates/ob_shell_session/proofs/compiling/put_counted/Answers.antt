use Rattle.std.proofs.Common.{◌∙◌, ◌∷◌, []}
use Rattle.ob_env.specs.Faces.{face_of}
use Rattle.ob_shell_model.specs.Files.{sym_file}
use Rattle.ob_shell_session.specs.Found.{found_as}
use Rattle.ob_shell_session.proofs.Compiles.{put_done}
use Rattle.ob_shell_session.proofs.compiling.put_counted.Goals as goal

pub returns-in-Ok-count_objects-clause-does : goal.returns-in-Ok-count_objects-clause-does
returns-in-Ok-count_objects-clause-does g c = λ tf to.
    put_done (g.O.Sink.taken c.args.out.now) (g.O.Sink.taken c.put_files.new.out) (g.F.Shelf.files c.args.folder.now) (g.F.Shelf.files c.read_symbols.new.folder) (g.F.Shelf.files c.put_files.new.folder) ((c.args.object.now, c.args.built.now.obj) ∷ (c.args.symbol.now, c.args.built.now.sym) ∷ []) c.in-Ok-count_objects.counts (found_as c.in-Ok.symbols) (sym_file (g.F.Shelf.files c.args.folder.now) c.args.symbol.now) (face_of c.args.built.now.face) c.put_files.result
    (c.in-Ok.ensures.files tf) c.in-Ok-count_objects.ensures (c.in-Ok.ensures.found tf) (c.put_files.ensures.does (c.in-Ok.ensures.told ∙ tf) to)
