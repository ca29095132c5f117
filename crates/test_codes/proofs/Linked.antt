-- Programs of a module that is linked to another one, run by the table: what a module alone cannot show.
use Rattle.std.specs.Prelude.{◌≡◌, ℕ, ◌∷◌, [], List, ℤ, pos, replicate, Some, None, true, false, refl, codes}
use Rattle.std.specs.Fmt.{digits}
use Rattle.ob_tree.specs.declared.proc_ref.ProcRef.{ProcRef}
use Rattle.ob_tdesc.specs.declared.descriptor.Descriptor.{Descriptor}
use Rattle.ob_instr.specs.declared.opcode.Opcode.{Opcode}
use Rattle.ob_instr.specs.declared.opcode.Opcode.TheVariants as op
use Rattle.ob_instr.specs.declared.instr.Instr.{Instr}
use Rattle.ob_instr.specs.declared.procedure.Procedure.{Procedure}
use Rattle.ob_instr.specs.declared.procedure.Param.TheVariants as param
use Rattle.ob_instr.specs.Image.{ModuleImage, Image, World, End, Done, Illegal, Point, Go, Over}
use Rattle.ob_instr.specs.Table.{run, start}

abbrev i : Opcode → ℤ → Instr
i o a = record { op = o; a = a; b = pos 0 }

abbrev o : Opcode → Instr
o p = i p (pos 0)

-- THE FIRST MODULE: two words of variables, and a record type of one word. Its procedure 1 gives twice its
-- argument, and its procedure 2 gives 7.

abbrev body : Procedure
body = record { entry = 0; params = []; locals = 0; has_result = false }

abbrev twice : Procedure
twice = record { entry = 1; params = param.Scalar ∷ []; locals = 0; has_result = true }

abbrev seven : Procedure
seven = record { entry = 6; params = []; locals = 0; has_result = true }

abbrev imported : ModuleImage
imported = record { name = codes "A"; code = o op.Ret ∷ i op.Local (pos 0) ∷ o op.Load ∷ i op.Int (pos 2) ∷ i op.Mul (pos 4) ∷ o op.RetV ∷ i op.Int (pos 7) ∷ o op.RetV ∷ []; positions = []; procedures = body ∷ twice ∷ seven ∷ []; first = 1; variables = []; commands = []; strings = []; variable_links = []; procedure_links = []; types = 0 ∷ [] }

-- THE SECOND MODULE: one word of variables, and a record type that extends the first module's. It is linked
-- to the second variable of the first module, to its procedures 1 and 2, and to its type. The type
-- operand 0 is its own type, and 1 the linked one.

abbrev linked : List Instr → ModuleImage
linked code = record { name = codes "M"; code = code; positions = []; procedures = body ∷ []; first = 3; variables = []; commands = []; strings = []; variable_links = 2 ∷ []; procedure_links = record { «module» = 0; proc = 1 } ∷ record { «module» = 0; proc = 2 } ∷ []; types = 1 ∷ 0 ∷ [] }

abbrev base : Descriptor
base = record { «module» = codes "A"; name = codes "R"; base = None; words = 1; methods = [] }

abbrev extension : Descriptor
extension = record { «module» = codes "M"; name = codes "S"; base = Some 0; words = 2; methods = [] }

-- areas of 4 words of globals, 12 of stack and 6 of heap, and at most 5 operands
abbrev image_of : List Instr → Image
image_of code = record { modules = imported ∷ linked code ∷ []; types = base ∷ extension ∷ []; next = 4; room = record { globals = 4; stack = 12; activations = 3; operands = 5 } }

-- the second variable of the first module is 42
abbrev world : World
world = record { words = pos 0 ∷ pos 42 ∷ replicate 20 (pos 0); stack = 5; heap = 17; turns = 9; out = [] }

-- the second module's body, run for 40 instructions at most
abbrev ran : List Instr → Point
ran code = run (image_of code) 40 (start (image_of code) (record { «module» = 1; proc = 0 }) world)

abbrev out_of : Point → List ℕ
out_of (Go m p fb acts pc ops w) = []
out_of (Over end w) = w.out

abbrev end_of : Point → End
end_of (Go m p fb acts pc ops w) = Illegal 99 99
end_of (Over end w) = end

-- the linked variable is read and set
abbrev variable : List Instr
variable = i op.ExtVar (pos 0) ∷ o op.Load ∷ i op.Int (pos 3) ∷ i op.Out (pos 3) ∷ i op.ExtVar (pos 0) ∷ i op.Int (pos 5) ∷ o op.Store ∷ i op.Int (pos 2) ∷ o op.Load ∷ i op.Int (pos 0) ∷ i op.Out (pos 3) ∷ o op.Ret ∷ []

variable_out : out_of (ran variable) ≡ codes " 425"
unfolding digits
variable_out = refl

variable_end : end_of (ran variable) ≡ Done
variable_end = refl

-- there is one variable link
no_variable : end_of (ran (i op.ExtVar (pos 1) ∷ o op.Ret ∷ [])) ≡ Illegal 1 0
no_variable = refl

-- the linked procedure is called, and the call goes on in the second module
abbrev called : List Instr
called = i op.Int (pos 21) ∷ i op.CallX (pos 0) ∷ i op.Int (pos 0) ∷ i op.Out (pos 3) ∷ i op.CallX (pos 1) ∷ i op.Int (pos 0) ∷ i op.Out (pos 3) ∷ o op.Ret ∷ []

called_out : out_of (ran called) ≡ codes "427"
unfolding digits
called_out = refl

called_end : end_of (ran called) ≡ Done
called_end = refl

-- an argument is missing, and a link
no_argument : end_of (ran (i op.CallX (pos 0) ∷ o op.Ret ∷ [])) ≡ Illegal 1 0
no_argument = refl

no_procedure : end_of (ran (i op.CallX (pos 2) ∷ o op.Ret ∷ [])) ≡ Illegal 1 0
no_procedure = refl

-- A linked procedure as a value is written, and called. Then the second module's own body as a value is
-- written.
abbrev value : List Instr
value = i op.ProcX (pos 0) ∷ i op.Int (pos 0) ∷ i op.Out (pos 3) ∷ i op.ProcX (pos 0) ∷ i op.Int (pos 4) ∷ i op.CallV (pos 1) ∷ i op.Int (pos 2) ∷ i op.Out (pos 3) ∷ i op.Proc (pos 0) ∷ i op.Int (pos 6) ∷ i op.Out (pos 3) ∷ o op.Ret ∷ []

value_out : out_of (ran value) ≡ codes "2 8 65537"
unfolding digits
value_out = refl

value_end : end_of (ran value) ≡ Done
value_end = refl

no_value : end_of (ran (i op.ProcX (pos 2) ∷ o op.Ret ∷ [])) ≡ Illegal 1 0
no_value = refl

-- The tags of the own type and of the linked one are written. An object of the own type passes the test of
-- the linked one.
abbrev tags : List Instr
tags = i op.Tag (pos 0) ∷ i op.Int (pos 0) ∷ i op.Out (pos 3) ∷ i op.Tag (pos 1) ∷ i op.Int (pos 0) ∷ i op.Out (pos 3) ∷ i op.Global (pos 0) ∷ i op.NewR (pos 0) ∷ i op.Global (pos 0) ∷ o op.Load ∷ i op.IsP (pos 1) ∷ i op.Int (pos 0) ∷ i op.Out (pos 3) ∷ o op.Ret ∷ []

tags_out : out_of (ran tags) ≡ codes "211"
unfolding digits
tags_out = refl

tags_end : end_of (ran tags) ≡ Done
tags_end = refl

no_type : end_of (ran (i op.Tag (pos 2) ∷ o op.Ret ∷ [])) ≡ Illegal 1 0
no_type = refl

-- Five operands may stand. Where a result would be the sixth, it is the return of the first module that
-- cannot be executed. Nor can an address or a procedure be the sixth.
abbrev five : List Instr → List Instr
five code = i op.Int (pos 1) ∷ i op.Int (pos 2) ∷ i op.Int (pos 3) ∷ i op.Int (pos 4) ∷ i op.Int (pos 5) ∷ code

one_result_more : end_of (ran (five (i op.CallX (pos 1) ∷ o op.Ret ∷ []))) ≡ Illegal 0 7
one_result_more = refl

one_address_more : end_of (ran (five (i op.ExtVar (pos 0) ∷ o op.Ret ∷ []))) ≡ Illegal 1 5
one_address_more = refl

one_procedure_more : end_of (ran (five (i op.ProcX (pos 0) ∷ o op.Ret ∷ []))) ≡ Illegal 1 5
one_procedure_more = refl
