-- Small programs, run by the table.
use Rattle.std.specs.Prelude.{negsuc, ◌≡◌, ℕ, ◌∷◌, [], List, ℤ, pos, replicate, Some, None, true, false, refl, codes}
use Rattle.std.specs.Fmt.{digits}
use Rattle.ob_trap.specs.declared.trap.Trap.TheVariants as trap
use Rattle.ob_tree.specs.declared.proc_ref.ProcRef.{ProcRef}
use Rattle.ob_tdesc.specs.declared.descriptor.Descriptor.{Descriptor}
use Rattle.ob_instr.specs.declared.opcode.Opcode.{Opcode}
use Rattle.ob_instr.specs.declared.opcode.Opcode.TheVariants as op
use Rattle.ob_instr.specs.declared.instr.Instr.{Instr}
use Rattle.ob_instr.specs.declared.procedure.Procedure.{Procedure}
use Rattle.ob_instr.specs.declared.procedure.Param.TheVariants as param
use Rattle.ob_instr.specs.declared.procedure.Position.{Position}
use Rattle.ob_instr.specs.Image.{ModuleImage, Image, World, End, Done, Spent, Illegal, Point, Go, Over}
use Rattle.ob_instr.specs.Rows.{Effect, Next, Goto, Traps, Unable}
use Rattle.ob_instr.specs.Table.{row, run, start}

abbrev i : Opcode → ℤ → ℤ → Instr
i o a b = record { op = o; a = a; b = b }

abbrev o : Opcode → Instr
o p = record { op = p; a = pos 0; b = pos 0 }

abbrev place : ℕ → ℕ → Position
place n line = record { at = n; pos = record { line = line; col = 1 } }

abbrev module_of : List Instr → List Position → List Procedure → List ℕ → ModuleImage
module_of code positions procedures types = record { name = codes "M"; code = code; positions = positions; procedures = procedures; first = 1; variables = []; commands = []; strings = []; variable_links = []; procedure_links = []; types = types }

abbrev body : Procedure
body = record { entry = 0; params = []; locals = 0; has_result = false }

-- an area of 4 words of globals and 12 of stack
abbrev image_of : ModuleImage → List Descriptor → Image
image_of u types = record { modules = u ∷ []; types = types; next = 5; room = record { globals = 4; stack = 12; activations = 3; operands = 5 } }

-- all words 0, and 6 words of heap
abbrev world : ℕ → World
world turns = record { words = replicate 22 (pos 0); stack = 5; heap = 17; turns = turns; out = [] }

abbrev main : ProcRef
main = record { «module» = 0; proc = 0 }

abbrev out_of : Point → List ℕ
out_of (Go m p fb acts pc ops w) = []
out_of (Over end w) = w.out

abbrev end_of : Point → End
end_of (Go m p fb acts pc ops w) = Illegal 99 99
end_of (Over end w) = end

-- x := 3; WHILE 0 < x DO Out.Int(x, 2); x := x - 1 END
abbrev counting : Image
counting = image_of (module_of (i op.Global (pos 0) (pos 0) ∷ i op.Int (pos 3) (pos 0) ∷ o op.Store ∷ i op.Int (pos 0) (pos 0) ∷ i op.Global (pos 0) (pos 0) ∷ o op.Load ∷ o op.Lt ∷ i op.JumpF (pos 18) (pos 0) ∷ i op.Global (pos 0) (pos 0) ∷ o op.Load ∷ i op.Int (pos 2) (pos 0) ∷ i op.Out (pos 3) (pos 0) ∷ i op.Global (pos 0) (pos 0) ∷ i op.Global (pos 0) (pos 0) ∷ o op.Load ∷ i op.Int (pos 1) (pos 0) ∷ i op.Sub (pos 4) (pos 0) ∷ i op.Jump (pos 19) (pos 0) ∷ o op.Ret ∷ o op.Store ∷ i op.Jump (pos 3) (pos 0) ∷ []) (place 11 7 ∷ place 16 8 ∷ place 20 9 ∷ []) (body ∷ []) []) []

counts : out_of (run counting 60 (start counting main (world 9))) ≡ codes " 3 2 1"
unfolding digits
counts = refl

ends : end_of (run counting 60 (start counting main (world 9))) ≡ Done
ends = refl

-- six turns are wanted
spends : end_of (run counting 60 (start counting main (world 5))) ≡ Spent 0 (record { line = 9; col = 1 })
spends = refl

-- F(r: R; VAR n): LONGINT copies a record of two words, adds to n and returns the sum of the fields.
-- The body makes an object, fills it, calls F and writes the result and the changed variable.
abbrev point : Descriptor
point = record { «module» = codes "M"; name = codes "R"; base = None; words = 2; methods = Some (record { «module» = 0; proc = 1 }) ∷ None ∷ [] }

abbrev sums : Procedure
sums = record { entry = 33; params = param.Value 2 ∷ param.Var ∷ []; locals = 1; has_result = true }

abbrev calling : Image
calling = image_of (module_of (i op.Global (pos 0) (pos 0) ∷ i op.NewR (pos 0) (pos 0) ∷ i op.Global (pos 0) (pos 0) ∷ o op.Load ∷ o op.Deref ∷ i op.Int (pos 40) (pos 0) ∷ o op.Store ∷ i op.Global (pos 0) (pos 0) ∷ o op.Load ∷ o op.Deref ∷ i op.Offset (pos 1) (pos 0) ∷ i op.Int (pos 2) (pos 0) ∷ o op.Store ∷ i op.Int (pos 9) (pos 0) ∷ o op.Drop ∷ i op.Int (pos 7) (pos 0) ∷ i op.Global (pos 0) (pos 0) ∷ o op.Load ∷ o op.Deref ∷ i op.Global (pos 1) (pos 0) ∷ i op.Call (pos 1) (pos 0) ∷ i op.Int (pos 0) (pos 0) ∷ i op.Out (pos 3) (pos 0) ∷ i op.Int (pos 0) (pos 0) ∷ i op.Out (pos 3) (pos 0) ∷ i op.Global (pos 1) (pos 0) ∷ o op.Load ∷ i op.Int (pos 3) (pos 0) ∷ i op.Out (pos 3) (pos 0) ∷ i op.Global (pos 0) (pos 0) ∷ o op.Load ∷ i op.IsP (pos 0) (pos 0) ∷ i op.JumpF (pos 0) (pos 0) ∷ i op.Local (pos 1) (pos 0) ∷ o op.Load ∷ i op.Int (pos 5) (pos 0) ∷ i op.Inc (pos 4) (pos 0) ∷ i op.Local (pos 0) (pos 0) ∷ o op.Load ∷ o op.Load ∷ i op.Local (pos 0) (pos 0) ∷ o op.Load ∷ i op.Offset (pos 1) (pos 0) ∷ o op.Load ∷ i op.Add (pos 4) (pos 0) ∷ o op.RetV ∷ []) (place 1 2 ∷ place 20 3 ∷ place 44 4 ∷ []) (body ∷ sums ∷ []) (0 ∷ [])) (point ∷ [])

-- behind its last instruction the body runs into F, where it may not return a value
calls_out : out_of (run calling 60 (start calling main (world 9))) ≡ codes "427  5"
unfolding digits
calls_out = refl

calls_end : end_of (run calling 60 (start calling main (world 9))) ≡ Illegal 0 45
calls_end = refl

-- Single rows, over a module of one instruction and one type; the words 1 to 8 hold "ab", "b" and a 0.
abbrev unit : ModuleImage
unit = module_of (o op.Ret ∷ []) [] (body ∷ []) (0 ∷ [])

abbrev here : World
here = record { words = pos 97 ∷ pos 98 ∷ pos 0 ∷ pos 98 ∷ pos 0 ∷ pos 7 ∷ pos 1 ∷ pos 5 ∷ []; stack = 5; heap = 9; turns = 3; out = [] }

abbrev small : Image
small = image_of unit (point ∷ [])

abbrev R : Opcode → ℤ → ℤ → List ℤ → Effect
R p a b ops = row small unit 0 0 5 0 p a b ops here

div_rounds_down : R op.Div (pos 0) (pos 0) (pos 2 ∷ negsuc 6 ∷ []) ≡ Next (negsuc 3 ∷ []) here
div_rounds_down = refl

mod_is_positive : R op.Mod (pos 0) (pos 0) (pos 2 ∷ negsuc 6 ∷ []) ≡ Next (pos 1 ∷ []) here
mod_is_positive = refl

div_by_0 : R op.Div (pos 0) (pos 0) (pos 0 ∷ pos 1 ∷ []) ≡ Traps trap.NoDivisor (pos 0) here
div_by_0 = refl

add_of_bytes : R op.Add (pos 1) (pos 0) (pos 1 ∷ pos 127 ∷ []) ≡ Traps trap.Overflow (pos 0) here
add_of_bytes = refl

add_of_three_bytes : R op.Add (pos 3) (pos 0) (pos 1 ∷ pos 127 ∷ []) ≡ Unable
add_of_three_bytes = refl

add_of_one : R op.Add (pos 4) (pos 0) (pos 1 ∷ []) ≡ Unable
add_of_one = refl

ash_rounds_down : R op.Ash (pos 0) (pos 0) (negsuc 0 ∷ negsuc 4 ∷ []) ≡ Next (negsuc 2 ∷ []) here
ash_rounds_down = refl

set_of_30_31 : R op.Bits (pos 0) (pos 0) (pos 31 ∷ pos 30 ∷ []) ≡ Next (negsuc 1073741823 ∷ []) here
set_of_30_31 = refl

empty_range : R op.Bits (pos 0) (pos 0) (pos 3 ∷ pos 5 ∷ []) ≡ Next (pos 0 ∷ []) here
empty_range = refl

element_32 : R op.Bit (pos 0) (pos 0) (pos 32 ∷ []) ≡ Traps trap.NoElement (pos 0) here
element_32 = refl

index_at_the_end : R op.Index (pos 3) (pos 2) (pos 3 ∷ pos 1 ∷ []) ≡ Traps trap.IndexOutside (pos 0) here
index_at_the_end = refl

index_inside : R op.Index (pos 3) (pos 2) (pos 2 ∷ pos 1 ∷ []) ≡ Next (pos 5 ∷ []) here
index_inside = refl

text_before : R op.StrRel (pos 2) (pos 0) (pos 2 ∷ pos 4 ∷ pos 3 ∷ pos 1 ∷ []) ≡ Next (pos 1 ∷ []) here
text_before = refl

text_without_end : R op.StrRel (pos 0) (pos 0) (pos 1 ∷ pos 4 ∷ pos 3 ∷ pos 1 ∷ []) ≡ Traps trap.NoEnd (pos 0) here
text_without_end = refl

-- an address that is not there comes before a text without end
text_not_there : R op.StrRel (pos 0) (pos 0) (pos 1 ∷ pos 4 ∷ pos 2 ∷ pos 0 ∷ []) ≡ Unable
text_not_there = refl

no_such_relation : R op.StrRel (pos 6) (pos 0) (pos 2 ∷ pos 4 ∷ pos 3 ∷ pos 1 ∷ []) ≡ Unable
no_such_relation = refl

copy_is_cut : R op.StrCopy (pos 0) (pos 0) (pos 2 ∷ pos 6 ∷ pos 3 ∷ pos 1 ∷ []) ≡ Next [] (record here { words = pos 97 ∷ pos 98 ∷ pos 0 ∷ pos 98 ∷ pos 0 ∷ pos 97 ∷ pos 0 ∷ pos 5 ∷ [] })
copy_is_cut = refl

-- the words 1 to 3 to 2 to 4, all read before one is written
copy_over_itself : R op.Copy (pos 3) (pos 0) (pos 1 ∷ pos 2 ∷ []) ≡ Next [] (record here { words = pos 97 ∷ pos 97 ∷ pos 98 ∷ pos 0 ∷ pos 0 ∷ pos 7 ∷ pos 1 ∷ pos 5 ∷ [] })
copy_over_itself = refl

copy_of_nothing : R op.Copy (pos 0) (pos 0) (pos 99 ∷ negsuc 5 ∷ []) ≡ Next [] here
copy_of_nothing = refl

copy_of_less : R op.Copy (negsuc 0) (pos 0) (pos 1 ∷ pos 2 ∷ []) ≡ Unable
copy_of_less = refl

nil_is_no_record : R op.IsP (pos 0) (pos 0) (pos 0 ∷ []) ≡ Next (pos 0 ∷ []) here
nil_is_no_record = refl

-- the object at 8 has the tag 1 before it
object_is_one : R op.IsP (pos 0) (pos 0) (pos 8 ∷ []) ≡ Next (pos 1 ∷ []) here
object_is_one = refl

no_such_type : R op.IsP (pos 1) (pos 0) (pos 0 ∷ []) ≡ Unable
no_such_type = refl

guard_of_nil : R op.GuardR (pos 0) (pos 0) (pos 0 ∷ []) ≡ Traps trap.GuardFails (pos 0) here
guard_of_nil = refl

inc_stores_nothing : R op.Inc (pos 1) (pos 0) (pos 31 ∷ pos 1 ∷ []) ≡ Traps trap.Overflow (pos 0) here
inc_stores_nothing = refl

-- a jump's target has to be there also where the jump is not taken
jump_to_the_end : R op.JumpF (pos 1) (pos 0) (pos 1 ∷ []) ≡ Unable
jump_to_the_end = refl

jump_to_itself : R op.Jump (pos 0) (pos 0) [] ≡ Goto 0 [] (record here { turns = 2 })
jump_to_itself = refl

kind_17 : R op.Trap (pos 17) (pos 0) [] ≡ Unable
kind_17 = refl

length_0 : R op.NewO (pos 4) (pos 0) (pos 0 ∷ pos 1 ∷ []) ≡ Traps trap.NoLength (pos 0) here
length_0 = refl

heap_full : R op.NewA (pos 4) (pos 0) (pos 1 ∷ []) ≡ Traps trap.HeapFull (pos 0) here
heap_full = refl

no_procedure : R op.CallV (pos 0) (pos 0) (pos 0 ∷ []) ≡ Traps trap.Nil (pos 0) here
no_procedure = refl

no_receiver : R op.CallP (pos 9) (pos 0) (pos 0 ∷ []) ≡ Traps trap.Nil (pos 0) here
no_receiver = refl

no_tag : R op.CallR (pos 0) (pos 0) (pos 0 ∷ pos 1 ∷ []) ≡ Unable
no_tag = refl

-- the body has no result
no_result : R op.RetV (pos 0) (pos 0) (pos 1 ∷ []) ≡ Unable
no_result = refl

low_bits : R op.Out (pos 1) (pos 0) (negsuc 0 ∷ []) ≡ Next [] (record here { turns = 2; out = 255 ∷ [] })
low_bits = refl
