-- The code so far, with other links to record types.
use Rattle.std.specs.Prelude.{List}
use Rattle.ob_tree.specs.declared.names.QName.{QName}
use Rattle.ob_scheme.specs.Coded.{Coded}

abbrev pub with_types : Coded → List QName → Coded
with_types c l = record c { named = record c.named { types = l } }
