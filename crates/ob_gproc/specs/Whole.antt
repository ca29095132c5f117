-- The code of a module with all its links, and its parts.
use Rattle.std.specs.Prelude.{Option}
use Rattle.ob_tree.specs.declared.names.QName.{QName}
use Rattle.ob_types.specs.declared.desc.Desc.{Desc}
use Rattle.ob_types.specs.TypedSyntax.{Module}
use Rattle.ob_scheme.specs.Numbers.{nothing_named, instrs_in, positions_at}
use Rattle.ob_scheme.specs.Coded.{Coded}
use Rattle.ob_scheme.specs.Procedures.{module_code}
use Rattle.ob_scheme.specs.Object.{own_words, all_named, type_links}

unfoldable pub module_coded : (QName → Option Desc) → Module → Coded
module_coded types m = record {
  instrs = instrs_in (nothing_named (own_words types m)) (module_code types m);
  positions = positions_at 0 (module_code types m);
  named = record (all_named types m) { types = type_links types m };
}
