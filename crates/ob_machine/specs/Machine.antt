-- What the calls on a machine do.
use Rattle.std.specs.Prelude.{◌≡◌, ℕ, ◌+◌, ◌≤◌, List, [], ◌++◌, length, replicate, ℤ, pos, Bool, true, false, Option, Some, None, slice_get, Result, Ok, Err}
use Rattle.std.specs.declared.alloc.AllocError.{AllocError}
use Rattle.ob_tree.specs.declared.proc_ref.ProcRef.{ProcRef}
use Rattle.ob_io.specs.Io.{AddsFront, Rose}
use Rattle.ob_instr.specs.declared.procedure.Procedure.{Procedure}
use Rattle.ob_instr.specs.Image as image
use Rattle.ob_instr.specs.Image.{Image, ModuleImage, Room, World, End}
use Rattle.ob_instr.specs.Rows.{procedure_of}
use Rattle.ob_instr.specs.Table.{Ends}
use Rattle.ob_obj.specs.declared.file.ObjFile.{ObjFile}
use Rattle.ob_obj.specs.Images.{image_of, words_with}
use Rattle.ob_machine.specs.declared.machine.Entered.{Entered}
use Rattle.ob_machine.specs.declared.outcome.Outcome.{Outcome}
use Rattle.ob_machine.specs.declared.outcome.Outcome.TheVariants as outcome

-- What a machine holds: its modules and types, the words of the three areas, and the next free word of the heap.
pub record Held : Type 0 where
  pub image : Image
  pub words : List ℤ
  pub heap : ℕ

abbrev pub room : Room
room = record { globals = 262144; stack = 1048576; activations = 4096; operands = 256 }

-- a machine without modules, with so many words of heap
abbrev pub made : ℕ → Held
made heap = record { image = record { modules = []; types = []; next = 1; room = room }; words = replicate (1310720 + heap) (pos 0); heap = 1310721 }

-- The files are there with their numbers, or the machine is as it was.
abbrev pub Enters : Held → Held → List ObjFile → Result Entered AllocError → Type 0
Enters old new files (Ok e) = (e.first ≡ length old.image.modules) × (new ≡ record { image = image_of old.image files; words = words_with old.image files old.words; heap = old.heap })
Enters old new files (Err e) = new ≡ old

-- a procedure without parameters and result
pub record IsEntry (img : Image) (r : ProcRef) : Type 0 where
  pub procedure : Procedure
  pub there : procedure_of img r ≡ Some procedure
  pub params : procedure.params ≡ []
  pub no_result : procedure.has_result ≡ false

abbrev pub name_of : Option ModuleImage → List ℕ
name_of None = []
name_of (Some u) = u.name

-- the name that a module's number has
abbrev pub name_in : Image → ℕ → List ℕ
name_in img m = name_of (slice_get img.modules m)

-- an end of the table, with the module by its name
abbrev pub outcome_of : Image → End → Outcome
outcome_of img image.Done = outcome.Done
outcome_of img (image.Trapped kind number m at) = outcome.Trap kind number (name_in img m) at
outcome_of img (image.Spent m at) = outcome.TurnsSpent (name_in img m) at
outcome_of img (image.Illegal m at) = outcome.Illegal (name_in img m) at

-- a machine that begins a run with so many turns: no call is on the stack, and nothing is written
abbrev pub world_of : Held → ℕ → World
world_of h turns = record { words = h.words; stack = 262145; heap = h.heap; turns = turns; out = [] }

-- The run came to its end: the outcome tells it, the machine has the words, and what was written is the text.
pub record Came (told : Bool) (before now : List ℕ) (old new : Held) (r : ProcRef) (turns left : ℕ) (result : Outcome) : Type 0 where
  pub end : End
  pub stack : ℕ
  pub text : List ℕ
  pub comes : Ends old.image r (world_of old turns) end (record { words = new.words; stack = stack; heap = new.heap; turns = left; out = text })
  pub is : result ≡ outcome_of old.image end
  pub written : told ≡ true → now ≡ before ++ text

-- The sink failed: wherever the run comes to an end, what was written is a front of its text.
pub record CutShort (told : Bool) (before now : List ℕ) (old : Held) (r : ProcRef) (turns : ℕ) : Type 0 where
  pub front : told ≡ true → (end : End) (last : World) → Ends old.image r (world_of old turns) end last → AddsFront before now last.out

abbrev pub Runs : Bool → List ℕ → List ℕ → Held → Held → ProcRef → ℕ → ℕ → Outcome → Type 0
Runs told before now old new r turns left outcome.SinkFault = CutShort told before now old r turns
Runs told before now old new r turns left result = Came told before now old new r turns left result

-- The fault of the sink is answered only where the count of its faults rose, and the count never falls.
pub record RunHasCause (before now : ℕ) (result : Outcome) : Type 0 where
  pub later : before ≤ now
  pub failed : result ≡ outcome.SinkFault → Rose before now
