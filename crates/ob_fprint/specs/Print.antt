-- The print of a text.
use Rattle.std.specs.Prelude.{ℕ, List, take}
use Rattle.sha2.specs.Sha256.{sha256}
use Rattle.ob_tree.specs.declared.print.Print.{Print}

-- the first eight bytes of its SHA-256 digest
abbrev pub print_from : List ℕ → Print
print_from text = record { 0 = take 8 (sha256 text) }
