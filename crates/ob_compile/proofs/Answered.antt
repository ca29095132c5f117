-- What needs no folder.
use Rattle.std.proofs.Common.{Result, Ok, Err, IfOk, subst}
use Rattle.std.specs.Prelude.{IsErrOf}
use Rattle.ob_tree.specs.declared.print.Print.{Print}
use Rattle.ob_sym.specs.Grammar.{face as face_form}
use Rattle.ob_compile_trait.specs.declared.shape.Built.{Built}
use Rattle.ob_compile_model.specs.declared.fault.CompileFault.{CompileFault}
use Rattle.ob_compile_model.specs.declared.fault.CompileFault.TheVariants as fault
use Rattle.ob_compile_model.specs.Compiling.{Refusal, Compiled}
use Rattle.ob_compile_trait.specs.Contract.{AreFile, Compiles}
use Rattle.ob_compile.specs.Steps.{Makes}

-- it is answered as it is
pub made_compiles : (a : Result (Compiled Print) (Refusal Print)) (r : Result Built CompileFault) → Makes a r → Compiles a r
made_compiles a (Ok b) h = h.0
made_compiles a (Err (fault.Refused s)) h = h
made_compiles a (Err fault.Folder) h = absurd h
made_compiles a (Err fault.Memory) h = tt

-- what is made has a spelling
pub made_fits : (a : Result (Compiled Print) (Refusal Print)) (r : Result Built CompileFault) → Makes a r → IfOk r (λ b. face_form.fits b.face)
made_fits a (Ok b) h = h.1
made_fits a (Err e) h = tt

pub made_file : (a : Result (Compiled Print) (Refusal Print)) (r : Result Built CompileFault) → Makes a r → IfOk r (λ b. AreFile b.obj)
made_file a (Ok b) h = h.2
made_file a (Err e) h = tt

-- and never names the folder
pub no_folder : (a : Result (Compiled Print) (Refusal Print)) (r : Result Built CompileFault) → Makes a r → IsErrOf r fault.Folder → ⊥
no_folder a r h is = subst (λ (s : Result Built CompileFault). Makes a s) is h
