-- What the steps of a compile answer.
use Rattle.std.specs.Prelude.{◌≡◌, ℕ, ◌≤◌, List, length, Bool, Option, Result, Ok, Err, Vec}
use Rattle.std.specs.declared.alloc.Global.{Global}
use Rattle.ob_tree.specs.declared.print.Print.{Print}
use Rattle.ob_types.specs.declared.face.Interface.{Interface}
use Rattle.ob_types.specs.declared.typed.TypedModule.{TypedModule}
use Rattle.ob_types.specs.TypedView.{module_view}
use Rattle.ob_parse_grammar.specs.TextReading.{reading}
use Rattle.ob_layout.specs.LaidOut.{viewed}
use Rattle.ob_scheme.specs.Needs.{has_short_code}
use Rattle.ob_sym.specs.Grammar.{face as face_form}
use Rattle.ob_env.specs.Faces.{Face, faces_of, described, print_in}
use Rattle.ob_env.specs.Stale.{prints_agree}
use Rattle.ob_env.specs.Answer.{Standing, standing}
use Rattle.ob_env_walk.specs.Walk.{Entry}
use Rattle.ob_compile_model.specs.declared.fault.CompileFault.{CompileFault}
use Rattle.ob_compile_model.specs.declared.fault.CompileFault.TheVariants as fault
use Rattle.ob_compile_model.specs.Compiling.{Refusal, Compiled, compiled, of_reading, made, prints}
use Rattle.ob_compile_trait.specs.declared.shape.Built.{Built}
use Rattle.ob_compile_trait.specs.Contract.{AreFile, Compiles, IsBuilt, IsRefused}

-- what a step answers that needs no folder, which is then never named; the interface and the object file that it makes have a spelling
abbrev pub Makes : Result (Compiled Print) (Refusal Print) → Result Built CompileFault → Type 0
Makes answer (Ok b) = IsBuilt answer b × face_form.fits b.face × AreFile b.obj
Makes answer (Err (fault.Refused s)) = IsRefused answer s
Makes answer (Err fault.Folder) = ⊥
Makes answer (Err fault.Memory) = Unit {0}

-- a source that may be read whole
abbrev pub IsShort : Vec ℕ Global → Type 0
IsShort text = length text.items ≤ 1048576

-- What a file that was read gives is what the reading of its bytes gives, whatever symbol files there are.
abbrev pub Sources : Option (List ℕ) → Result (Vec ℕ Global) CompileFault → Type 0
Sources file (Ok text) = (entry : List ℕ → Entry Print) → compiled prints entry file ≡ of_reading prints entry (reading text.items)
Sources file (Err e) = (entry : List ℕ → Entry Print) → Compiles (compiled prints entry file) (Err e)

-- what the interfaces of a whole walk come to, by their prints
abbrev pub stood : List (Face Print) → Standing Print
stood faces = standing prints_agree print_in faces

-- what is compiled, where a module that is laid out stands over these interfaces
abbrev pub compiled_of : List Interface → TypedModule → Compiled Print
compiled_of is m = made prints (faces_of is) (module_view m)

-- whether it keeps the limit of code
abbrev pub short_code : Compiled Print → Bool
short_code c = has_short_code (viewed (described c.against) c.tree) c.tree
