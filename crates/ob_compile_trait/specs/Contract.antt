-- What a call of `compile` answers.
use Rattle.std.specs.Prelude.{◌≡◌, ℕ, ◌≤◌, List, Option, Some, None, Result, Ok, Err, IsErrOf}
use Rattle.ob_tree.specs.declared.print.Print.{Print}
use Rattle.ob_io.specs.Io.{Rose}
use Rattle.ob_scan.specs.declared.fault.ScanFault.TheVariants as scanning
use Rattle.ob_parse_grammar.specs.declared.fault.ParseFault.TheVariants as parsing
use Rattle.ob_tree.specs.declared.which.Which.TheVariants as which
use Rattle.ob_env.specs.Stale.{Found, StaleUse, AsWanted, IsAbsent, IsChanged}
use Rattle.ob_env_walk.specs.Walk.{Walked, Left, NoInterface, Damaged, Cycle, TooMany}
use Rattle.ob_parse_grammar.specs.TextReading.{NoModule, Scan, Parse}
use Rattle.ob_obj.specs.declared.file.ObjFile.{ObjFile}
use Rattle.ob_obj.specs.Grammar.{file as file_form}
use Rattle.ob_compile_trait.specs.declared.shape.Built.{Built}
use Rattle.ob_compile_model.specs.declared.fault.CompileRefusal.{CompileRefusal}
use Rattle.ob_compile_model.specs.declared.fault.CompileRefusal.TheVariants as refusal
use Rattle.ob_compile_model.specs.declared.fault.CompileFault.{CompileFault}
use Rattle.ob_compile_model.specs.declared.fault.CompileFault.TheVariants as fault
use Rattle.ob_compile_model.specs.Compiling as c
use Rattle.ob_compile_model.specs.Compiling.{Refusal, Compiled, prints, interface_by, object_bytes, symbol_bytes}

-- a refusal as it is answered; no reading of a text is a want of memory, and no walk that ended early left all
abbrev pub unread : NoModule → Option CompileRefusal
unread (Scan (scanning.Symbol at)) = Some (refusal.Symbol at)
unread (Scan (scanning.Real at)) = Some (refusal.Real at)
unread (Scan (scanning.Limit at)) = Some (refusal.LongName at)
unread (Scan scanning.Memory) = None
unread (Parse (parsing.Syntax at)) = Some (refusal.Syntax at)
unread (Parse (parsing.TooDeep at)) = Some (refusal.TooDeep at)
unread (Parse parsing.Memory) = None

abbrev pub stopped : Walked Print → Option CompileRefusal
stopped (Left faces) = None
stopped (NoInterface m) = Some (refusal.NoInterface m)
stopped (Damaged m) = Some (refusal.Damaged m)
stopped (Cycle m) = Some (refusal.Cycle m)
stopped TooMany = Some (refusal.Limit which.Modules)

abbrev pub stale : StaleUse Print → Found Print → Option CompileRefusal
stale u AsWanted = None
stale u IsAbsent = Some (refusal.Absent u.client u.wanted.object)
stale u (IsChanged k) = Some (refusal.Changed u.client u.wanted.object u.wanted.aspect u.wanted.kept k)

abbrev pub answered : Refusal Print → Option CompileRefusal
answered c.NoSource = Some refusal.NoSource
answered c.Long = Some refusal.Long
answered (c.Unread f) = unread f
answered (c.Broken b) = Some (refusal.Broken b)
answered (c.Walk w) = stopped w
answered (c.Unmet u) = stale u u.found
answered (c.NoFit q) = Some (refusal.Unfit q)
answered (c.Limit w) = Some (refusal.Limit w)

-- a module as it is answered: its interface and the bytes of its two files
abbrev pub built : Compiled Print → Built
built x = record { face = interface_by prints x; sym = symbol_bytes prints x; obj = object_bytes prints x }

abbrev pub IsBuilt : Result (Compiled Print) (Refusal Print) → Built → Type 0
IsBuilt (Ok x) b = b ≡ built x
IsBuilt (Err r) b = ⊥

abbrev pub IsRefused : Result (Compiled Print) (Refusal Print) → CompileRefusal → Type 0
IsRefused (Ok x) s = ⊥
IsRefused (Err r) s = answered r ≡ Some s

-- Want of memory and a failed folder say nothing.
abbrev pub Compiles : Result (Compiled Print) (Refusal Print) → Result Built CompileFault → Type 0
Compiles answer (Ok b) = IsBuilt answer b
Compiles answer (Err (fault.Refused s)) = IsRefused answer s
Compiles answer (Err fault.Folder) = Unit {0}
Compiles answer (Err fault.Memory) = Unit {0}

-- bytes that are an object file, which they read back to
abbrev pub AreFile : List ℕ → Type 0
AreFile bytes = (o : ObjFile) × file_form.fits o × (bytes ≡ file_form.spell o)

-- The folder is named only where its count rose, and the count never falls.
pub record CompileHasCause {T : Type 0} (before now : ℕ) (result : Result T CompileFault) : Type 0 where
  pub later : before ≤ now
  pub failed : IsErrOf result fault.Folder → Rose before now
