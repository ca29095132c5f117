-- The parts of the code of a module.
use Rattle.ob_scheme.specs.Coded.{Coded}
use Rattle.ob_gexpr_code.specs.declared.code.CodeParts.{CodeParts}

abbrev pub parts_of : Coded → CodeParts
parts_of c = record {
  instrs = c.instrs;
  positions = c.positions;
  strings = c.named.strings;
  variables = c.named.variables;
  procedures = c.named.procedures;
  types = c.named.types;
}
