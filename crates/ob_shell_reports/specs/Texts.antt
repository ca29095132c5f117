-- What the lines print beside the texts of compare, check and show.
use Rattle.std.specs.Prelude.{ℕ, List, ◌++◌, Bool, true, false, ◌||◌, ◌==◌, if◌then◌else◌, ℤ, codes, decimal, []}
use Rattle.std.specs.Fmt.{signed_decimal}
use Rattle.ob_trap.specs.declared.trap.Trap.{Trap}
use Rattle.ob_trap.specs.Numbers.{trap_number, tells_number}
use Rattle.ob_tree.specs.declared.pos.Pos.{Pos}
use Rattle.ob_tree.specs.declared.names.QName.{QName}
use Rattle.ob_machine.specs.declared.outcome.Outcome.{Outcome}
use Rattle.ob_machine.specs.declared.outcome.Outcome.TheVariants as outcome
use Rattle.ob_tree.specs.declared.which.Which.{Which}
use Rattle.ob_tree.specs.declared.which.Which.TheVariants as which
use Rattle.ob_scan.specs.declared.fault.ScanFault.TheVariants as scanning
use Rattle.ob_parse_grammar.specs.declared.fault.ParseFault.TheVariants as parsing
use Rattle.ob_parse_grammar.specs.TextReading.{NoModule, Scan, Parse}
use Rattle.ob_rules.specs.declared.broken.Broken.{Broken}
use Rattle.ob_rules.specs.Judged.{number_of}
use Rattle.ob_env.specs.Stale.{Found, StaleUse, AsWanted, IsAbsent, IsChanged}
use Rattle.ob_env_walk.specs.Walk.{Walked, Left, NoInterface, Damaged, Cycle, TooMany}
use Rattle.ob_compile_model.specs.Compiling as compile
use Rattle.ob_compile_model.specs.declared.fault.CompileRefusal.{CompileRefusal}
use Rattle.ob_compile_model.specs.declared.fault.CompileRefusal.TheVariants as why
use Rattle.ob_link.specs.Plan as load
use Rattle.ob_link.specs.declared.fault.LoadRefusal.{LoadRefusal}
use Rattle.ob_link.specs.declared.fault.LoadRefusal.TheVariants as refusal
use Rattle.ob_shell_reports.specs.declared.counts.Counts.{Counts}

-- refused NAME: WHY
abbrev pub refused : List ℕ → List ℕ → List ℕ
refused name why = codes "refused " ++ (name ++ (codes ": " ++ why))

abbrev pub of_object : QName → List ℕ → List ℕ
of_object q more = q.«module» ++ (codes "." ++ (q.object ++ more))

-- COMPILE

abbrev pub place : Pos → List ℕ
place at = decimal at.line ++ (codes ":" ++ (decimal at.col ++ codes "\n"))

abbrev pub which_text : Which → List ℕ
which_text which.Imports = codes "limit imports\n"
which_text which.Modules = codes "limit modules\n"
which_text which.Objects = codes "limit objects\n"
which_text which.Depth = codes "limit depth\n"
which_text which.Words = codes "limit words\n"
which_text which.Frame = codes "limit frame\n"
which_text which.Globals = codes "limit globals\n"
which_text which.Procedures = codes "limit procedures\n"
which_text which.Operands = codes "limit operands\n"
which_text which.Code = codes "limit code\n"
which_text which.File = codes "limit file\n"

-- why a text is no module; no fault of a text is a want of memory
abbrev pub unread_text : NoModule → List ℕ
unread_text (Scan (scanning.Symbol at)) = codes "symbol at " ++ place at
unread_text (Scan (scanning.Real at)) = codes "real at " ++ place at
unread_text (Scan (scanning.Limit at)) = codes "long name at " ++ place at
unread_text (Scan scanning.Memory) = []
unread_text (Parse (parsing.Syntax at)) = codes "syntax at " ++ place at
unread_text (Parse (parsing.TooDeep at)) = codes "too deep at " ++ place at
unread_text (Parse parsing.Memory) = []

-- why a walk ended early
abbrev pub walk_text : {K : Type 0} → Walked K → List ℕ
walk_text (Left faces) = []
walk_text (NoInterface m) = m ++ codes " has no interface\n"
walk_text (Damaged m) = m ++ codes " damaged\n"
walk_text (Cycle m) = codes "cycle through " ++ (m ++ codes "\n")
walk_text TooMany = codes "limit modules\n"

-- how a use of a client is not met
abbrev pub unmet_text : {K : Type 0} → StaleUse K → Found K → List ℕ
unmet_text u AsWanted = []
unmet_text u IsAbsent = of_object u.wanted.object (codes " absent for " ++ (u.client ++ codes "\n"))
unmet_text u (IsChanged k) = of_object u.wanted.object (codes " changed for " ++ (u.client ++ codes "\n"))

abbrev pub rule_text : Broken → List ℕ
rule_text b = codes "rule " ++ (decimal (number_of b.rule) ++ (codes " at " ++ place b.pos))

abbrev pub compile_reason : {K : Type 0} → compile.Refusal K → List ℕ
compile_reason compile.NoSource = codes "no source\n"
compile_reason compile.Long = codes "too long\n"
compile_reason (compile.Unread f) = unread_text f
compile_reason (compile.Broken b) = rule_text b
compile_reason (compile.Walk w) = walk_text w
compile_reason (compile.Unmet u) = unmet_text u u.found
compile_reason (compile.NoFit q) = of_object q (codes " unfit\n")
compile_reason (compile.Limit w) = which_text w

-- a refusal of a compile of this file
abbrev pub compile_refused : {K : Type 0} → List ℕ → compile.Refusal K → List ℕ
compile_refused name r = refused name (compile_reason r)

-- the reason of the answer
abbrev pub reason_answered : CompileRefusal → List ℕ
reason_answered why.NoSource = codes "no source\n"
reason_answered why.Long = codes "too long\n"
reason_answered (why.Symbol at) = codes "symbol at " ++ place at
reason_answered (why.Real at) = codes "real at " ++ place at
reason_answered (why.LongName at) = codes "long name at " ++ place at
reason_answered (why.Syntax at) = codes "syntax at " ++ place at
reason_answered (why.TooDeep at) = codes "too deep at " ++ place at
reason_answered (why.Broken b) = rule_text b
reason_answered (why.NoInterface m) = m ++ codes " has no interface\n"
reason_answered (why.Damaged m) = m ++ codes " damaged\n"
reason_answered (why.Cycle m) = codes "cycle through " ++ (m ++ codes "\n")
reason_answered (why.Absent client object) = of_object object (codes " absent for " ++ (client ++ codes "\n"))
reason_answered (why.Changed client object aspect wanted found) = of_object object (codes " changed for " ++ (client ++ codes "\n"))
reason_answered (why.Unfit q) = of_object q (codes " unfit\n")
reason_answered (why.Limit w) = which_text w

-- so many objects of a module, of which so many are new, changed and gone
abbrev pub compiled_line : List ℕ → Counts → List ℕ
compiled_line m c =
    codes "compiled " ++ (m ++ (codes ": " ++ (decimal c.objects ++ (codes " objects, " ++ (decimal c.added ++ (codes " new, "
    ++ (decimal c.changed ++ (codes " changed, " ++ (decimal c.gone ++ codes " gone\n")))))))))

-- LOAD

-- a refusal of a load of this module
abbrev pub load_refused : {K : Type 0} → List ℕ → load.Refusal K → List ℕ
load_refused name (load.Changed client object aspect wanted found) = refused client (of_object object (codes " changed\n"))
load_refused name (load.Absent client object) = refused client (of_object object (codes " absent\n"))
load_refused name (load.NoObject m) = refused name (m ++ codes " has no object file\n")
load_refused name (load.Damaged m) = refused name (m ++ codes " damaged\n")
load_refused name (load.Long m) = refused name (m ++ codes " too long\n")
load_refused name (load.Cycle m) = refused name (codes "cycle through " ++ (m ++ codes "\n"))
load_refused name (load.NoRoom used asked) = refused name (codes "no room\n")
load_refused name (load.TooMany count) = refused name (codes "too many modules\n")
load_refused name (load.NoCommand m command) = refused name (codes "no command " ++ (command ++ codes "\n"))

-- the same of the answer
abbrev pub load_answered : List ℕ → LoadRefusal → List ℕ
load_answered name (refusal.Changed client object aspect wanted found) = refused client (of_object object (codes " changed\n"))
load_answered name (refusal.Absent client object) = refused client (of_object object (codes " absent\n"))
load_answered name (refusal.NoObject m) = refused name (m ++ codes " has no object file\n")
load_answered name (refusal.Damaged m) = refused name (m ++ codes " damaged\n")
load_answered name (refusal.Limit m) = refused name (m ++ codes " too long\n")
load_answered name (refusal.Cycle m) = refused name (codes "cycle through " ++ (m ++ codes "\n"))
load_answered name (refusal.NoRoom used asked) = refused name (codes "no room\n")
load_answered name (refusal.TooMany count) = refused name (codes "too many modules\n")
load_answered name (refusal.NoCommand m command) = refused name (codes "no command " ++ (command ++ codes "\n"))

-- HOW A RUN ENDED

abbrev pub at_place : List ℕ → Pos → List ℕ
at_place name at = codes " at " ++ (name ++ (codes " " ++ (decimal at.line ++ (codes ":" ++ (decimal at.col ++ codes "\n")))))

-- the number that an ASSERT or a HALT tells, and what follows
abbrev pub with_number : Trap → ℤ → List ℕ → List ℕ
with_number kind number more = if tells_number kind then codes " " ++ (signed_decimal number ++ more) else more

abbrev pub report : Outcome → List ℕ
report outcome.Done = []
report (outcome.Trap kind number name at) = codes "\ntrap " ++ (decimal (trap_number kind) ++ with_number kind number (at_place name at))
report (outcome.TurnsSpent name at) = codes "\nturns spent" ++ at_place name at
report (outcome.Illegal name at) = codes "\nillegal at " ++ (name ++ (codes " " ++ (decimal at ++ codes "\n")))
report outcome.SinkFault = []

-- whether a run was stopped
abbrev pub stops : Outcome → Bool
stops outcome.Done = false
stops (outcome.Trap kind number name at) = true
stops (outcome.TurnsSpent name at) = true
stops (outcome.Illegal name at) = true
stops outcome.SinkFault = true

-- MAKE

-- why a module that is stale is refused
abbrev pub no_source : List ℕ
no_source = codes "no source\n"

-- why there is no order: a need of this module stands on the path to it; or there are too many modules
abbrev pub cycle_text : List ℕ → List ℕ
cycle_text m = codes "cycle through " ++ (m ++ codes "\n")

abbrev pub many_modules : List ℕ
many_modules = codes "too many modules\n"

-- how many modules were compiled
abbrev pub made_text : List ℕ → ℕ → List ℕ
made_text m count = codes "make " ++ (m ++ (codes ": " ++ (decimal count ++ codes " compiled\n")))

-- FILES, DEMO, UNKNOWN

-- why a symbol file is refused
abbrev pub no_interface : List ℕ
no_interface = codes "no interface\n"

abbrev pub too_long : List ℕ
too_long = codes "too long\n"

abbrev pub damaged : List ℕ
damaged = codes "damaged\n"

abbrev pub demo_text : ℕ → ℕ → List ℕ
demo_text n objects = codes "demo " ++ (decimal n ++ (codes ": " ++ (decimal n ++ (codes " modules, " ++ (decimal objects ++ codes " objects\n")))))

abbrev pub unknown_text : ℕ → List ℕ
unknown_text n = codes "? line " ++ (decimal n ++ codes "\n")
