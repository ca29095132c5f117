-- What a reader of object files gives.
use Rattle.std.specs.Prelude.{◌≡◌, Result, Ok, Err}
use Rattle.ob_obj.specs.declared.file.ObjFile.{ObjFile}
use Rattle.ob_obj.specs.declared.file.ObjFault.{ObjFault}
use Rattle.ob_obj.specs.declared.file.ObjFault.TheVariants as fault

abbrev pub Fails : ObjFault → Type 0
Fails fault.Damaged = ⊥
Fails fault.Memory = Unit {0}

-- this file, unless memory ran out
abbrev pub Reads : Result ObjFile ObjFault → ObjFile → Type 0
Reads (Ok f) g = f ≡ g
Reads (Err e) g = Fails e
