use Rattle.law_make.proofs.Exactly.{bytes_so, meaning_so}
use Rattle.law_make.proofs.makes_compile_exactly.Goals as goal

pub returns : goal.returns
returns c = record { bytes = bytes_so; meaning = meaning_so }
