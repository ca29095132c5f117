-- The object file, from the parts that are made one by one.
use Rattle.std.specs.Prelude.{ℕ, List}
use Rattle.ob_types.specs.declared.face.Use.{Use}
use Rattle.ob_instr.specs.declared.procedure.Procedure.{Procedure as Row}
use Rattle.ob_obj.specs.declared.parts.Export.{Export}
use Rattle.ob_obj.specs.declared.parts.Variable.{Variable}
use Rattle.ob_obj.specs.declared.parts.Command.{Command}
use Rattle.ob_obj.specs.declared.parts.RecordType.{RecordType}
use Rattle.ob_obj.specs.declared.file.Head.{Head}
use Rattle.ob_obj.specs.declared.file.ObjFile.{ObjFile}
use Rattle.ob_gexpr_code.specs.declared.code.CodeParts.{CodeParts}

abbrev pub file_with : Head → CodeParts → ℕ → List Variable → List RecordType → List Row → List Command → ObjFile
file_with head p words vs records rows cs = record {
  head = head;
  globals = record { variable_words = words; strings = p.strings; variables = vs };
  links = record { variables = p.variables; procedures = p.procedures; types = p.types };
  body = record { types = records; procedures = rows; commands = cs; code = p.instrs; positions = p.positions };
}
