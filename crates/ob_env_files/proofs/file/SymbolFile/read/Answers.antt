use Rattle.ob_env_files.proofs.Readings.{spelling_read}
use Rattle.ob_env_files.proofs.file.SymbolFile.read.Goals as goal

pub of-requires : goal.of-requires
of-requires c = spelling_read c.args.bytes.now c.in_ok-face.face c.in_ok-face.ensures.found.0 c.in_ok-face.ensures.found.1
