-- What a call of plan answers.
use Rattle.std.specs.Prelude.{◌≡◌, ℕ, ◌≤◌, List, [], false, map, Some, Result, Ok, Err}
use Rattle.ob_tree.specs.declared.print.Print.{Print}
use Rattle.ob_tree.specs.declared.proc_ref.ProcRef.{ProcRef}
use Rattle.ob_instr.specs.declared.procedure.Procedure.{Procedure}
use Rattle.ob_instr.specs.Image.{Image}
use Rattle.ob_instr.specs.Rows.{procedure_of}
use Rattle.ob_obj.specs.declared.file.ObjFile.{ObjFile}
use Rattle.ob_obj.specs.Images.{image_of, AreEnterable}
use Rattle.ob_link.specs.Members.{Known}
use Rattle.ob_link.specs.Plan.{Refusal}
use Rattle.ob_link.specs.Files.{planned, answered}
use Rattle.ob_link.specs.Members.{member_of, empty_image}
use Rattle.ob_io.specs.Io.{Rose}
use Rattle.ob_link.specs.declared.fault.LoadFault.{LoadFault}
use Rattle.ob_link.specs.declared.fault.LoadFault.TheVariants as fault
use Rattle.ob_link.specs.declared.shape.Plan.{Plan}

-- the plan, or its refusal, exactly; a fault of the folder and want of memory owe nothing
abbrev pub Plans : List ObjFile → List ℕ → List ℕ → Result (List ObjFile) (Refusal Print) → Result Plan LoadFault → Type 0
Plans loaded name command (Ok files) (Ok q) = q ≡ planned loaded name command files
Plans loaded name command (Err r) (Ok q) = ⊥
Plans loaded name command (Ok files) (Err (fault.Refused s)) = ⊥
Plans loaded name command (Err r) (Err (fault.Refused s)) = s ≡ answered r
Plans loaded name command answer (Err fault.Folder) = Unit {0}
Plans loaded name command answer (Err fault.Memory) = Unit {0}

pub record PlanHasCause {T : Type 0} (before now : ℕ) (result : Result T LoadFault) : Type 0 where
  pub later : before ≤ now
  pub failed : result ≡ Err fault.Folder → Rose before now

-- the files of these members can be entered behind no module, one after the other
pub record AreLoaded (ms : List Known) (files : List ObjFile) : Type 0 where
  pub members : ms ≡ map member_of files
  pub enterable : AreEnterable empty_image files

-- a procedure without parameters and result
pub record IsStart (img : Image) (r : ProcRef) : Type 0 where
  pub procedure : Procedure
  pub there : procedure_of img r ≡ Some procedure
  pub params : procedure.params ≡ []
  pub no_result : procedure.has_result ≡ false

-- a plan can be entered behind the loaded files, and its command can then be run
pub record CanStart (img : Image) (p : Plan) : Type 0 where
  pub enterable : AreEnterable img p.files
  pub command : IsStart (image_of img p.files) p.command
