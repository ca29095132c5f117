use Rattle.std.proofs.Common.{◌≡◌, ℕ, List, subst, ◌∙◌}
use Rattle.ob_format.specs.Format.{whole}
use Rattle.ob_sym.specs.Grammar.{face as face_form}
use Rattle.ob_shell_model.specs.Files.{sym_file, decoded_file}
use Rattle.ob_shell_session.specs.Found.{found_as}
use Rattle.ob_shell_session.proofs.Decoded.{none_found, some_found, long_found}
use Rattle.ob_shell_session.proofs.files.read_symbols.Goals as goal

pub returns-in-Ok-None-clause-found : goal.returns-in-Ok-None-clause-found
unfolding sym_file
returns-in-Ok-None-clause-found g c = λ told. none_found (g.F.Shelf.files c.args.folder.now c.args.name.now) _ c.in-Ok-None.field-0-is (c.in-Ok-None.ensures.bytes told)

pub returns-in-Ok-clause-found : goal.returns-in-Ok-clause-found
unfolding sym_file
returns-in-Ok-clause-found g c = λ told.
    some_found (g.F.Shelf.files c.args.folder.now c.args.name.now) _ c.in-Ok-Some.bytes c.in-Ok-Some.field-0-is (c.in-Ok-Some.ensures.bytes told) ∙ subst (λ (l : List ℕ). decoded_file (whole face_form l) ≡ found_as c.in-Ok.symbols) c.deref.ensures.value c.in-Ok.ensures.found

pub returns-in-Err-Long-clause-found : goal.returns-in-Err-Long-clause-found
unfolding sym_file
returns-in-Err-Long-clause-found g c = λ told. long_found (g.F.Shelf.files c.args.folder.now c.args.name.now) _ c.in-Err-Long.field-0-is (c.in-Err-Long.ensures.bytes told)
