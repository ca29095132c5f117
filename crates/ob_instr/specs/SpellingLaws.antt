-- The table of the operations and their numbers.
use Rattle.std.proofs.Common.{◌≡◌, ℕ, zero, suc, ◌+◌, ◌-◌, ◌<◌, ◌≤◌, Bool, true, false, ◌&&◌, eqb, List, get_or, Option, Some, refl, arith}
use Rattle.std.specs.Prelude.{slice_get, IfSome, IfNone}
use Rattle.std.proofs.lemmas.Bool.Decides.{Decides-below_and, Decides-eqb}
use Rattle.std.proofs.lemmas.Option.{slice_get_within}
use Rattle.ob_instr.specs.declared.opcode.Opcode.{Opcode}
use Rattle.ob_instr.specs.declared.instr.Instr.{Instr}
use Rattle.ob_instr.specs.declared.opcode.Opcode.TheVariants.{Int, Local, Global, ExtVar, Load, Store, Copy, CopyRec, Offset, Index, IndexO, Deref, Tagged, Lenned, Tag, IsP, IsR, GuardAt, GuardR, Drop, Add, Sub, Mul, Div, Mod, Neg, Abs, Eq, Ne, Lt, Le, Gt, Ge, Not, Union, Minus, Meet, Xor, Compl, Bit, Bits, In, Incl, Excl, Range, Chr, Odd, Cap, Ash, Inc, Dec, StrRel, StrCopy, Jump, JumpF, Trap, Assert, NewR, NewA, NewO, Proc, ProcX, Call, CallX, CallV, CallP, CallR, CallS, Ret, RetV, Out}
use Rattle.ob_instr.specs.declared.opcode.TheConstants.{OPCODES}
use Rattle.std.proofs.Common.{None, cond, ltb, ap, ◌∙◌, sym, add-one}
use Rattle.std.proofs.lemmas.Option.{get_or_from_slice_get}
use Rattle.std.proofs.lemmas.Bool.Decides.{Decides-and, Decides-int_eq, Decides-ltb}
use Rattle.std.specs.Bool.{Decides}
use Rattle.std.specs.Prelude.{ℤ, pos}
use Rattle.std.specs.Ordering.{int_eq}
use Rattle.ob_format.specs.Format.{IsBytes, IsParsed, IsExact, byte, int, word32, whole}
use Rattle.ob_format.specs.Exact.{byte_exact, int_exact, parsed_exact, made_exact, pair_exact, such_that_exact, whole_found, whole_again}
use Rattle.ob_instr.specs.Spelling.{number, operands, NamesAll, names_all, opcode_at, opcode, instr, spelling, IsInstr}

agrees : ℕ → Bool
agrees zero = true
agrees (suc n) = eqb (number (get_or OPCODES n Int)) (n + 1) && agrees n

pub number_at : (k : ℕ) → k < 71 → number (get_or OPCODES k Int) ≡ k + 1
unfolding agrees
number_at = (Decides-below_and (λ n. eqb (number (get_or OPCODES n Int)) (n + 1)) (λ n. number (get_or OPCODES n Int) ≡ n + 1) agrees (λ n. Decides-eqb (number (get_or OPCODES n Int)) (n + 1)) refl (λ _. refl) 71).0 refl

pub stands_at : (op : Opcode) → slice_get OPCODES (number op - 1) ≡ Some op
stands_at Int = refl
stands_at Local = refl
stands_at Global = refl
stands_at ExtVar = refl
stands_at Load = refl
stands_at Store = refl
stands_at Copy = refl
stands_at CopyRec = refl
stands_at Offset = refl
stands_at Index = refl
stands_at IndexO = refl
stands_at Deref = refl
stands_at Tagged = refl
stands_at Lenned = refl
stands_at Tag = refl
stands_at IsP = refl
stands_at IsR = refl
stands_at GuardAt = refl
stands_at GuardR = refl
stands_at Drop = refl
stands_at Add = refl
stands_at Sub = refl
stands_at Mul = refl
stands_at Div = refl
stands_at Mod = refl
stands_at Neg = refl
stands_at Abs = refl
stands_at Eq = refl
stands_at Ne = refl
stands_at Lt = refl
stands_at Le = refl
stands_at Gt = refl
stands_at Ge = refl
stands_at Not = refl
stands_at Union = refl
stands_at Minus = refl
stands_at Meet = refl
stands_at Xor = refl
stands_at Compl = refl
stands_at Bit = refl
stands_at Bits = refl
stands_at In = refl
stands_at Incl = refl
stands_at Excl = refl
stands_at Range = refl
stands_at Chr = refl
stands_at Odd = refl
stands_at Cap = refl
stands_at Ash = refl
stands_at Inc = refl
stands_at Dec = refl
stands_at StrRel = refl
stands_at StrCopy = refl
stands_at Jump = refl
stands_at JumpF = refl
stands_at Trap = refl
stands_at Assert = refl
stands_at NewR = refl
stands_at NewA = refl
stands_at NewO = refl
stands_at Proc = refl
stands_at ProcX = refl
stands_at Call = refl
stands_at CallX = refl
stands_at CallV = refl
stands_at CallP = refl
stands_at CallR = refl
stands_at CallS = refl
stands_at Ret = refl
stands_at RetV = refl
stands_at Out = refl

pub number_positive : (op : Opcode) → 0 < number op
number_positive Int = omega arith
number_positive Local = omega arith
number_positive Global = omega arith
number_positive ExtVar = omega arith
number_positive Load = omega arith
number_positive Store = omega arith
number_positive Copy = omega arith
number_positive CopyRec = omega arith
number_positive Offset = omega arith
number_positive Index = omega arith
number_positive IndexO = omega arith
number_positive Deref = omega arith
number_positive Tagged = omega arith
number_positive Lenned = omega arith
number_positive Tag = omega arith
number_positive IsP = omega arith
number_positive IsR = omega arith
number_positive GuardAt = omega arith
number_positive GuardR = omega arith
number_positive Drop = omega arith
number_positive Add = omega arith
number_positive Sub = omega arith
number_positive Mul = omega arith
number_positive Div = omega arith
number_positive Mod = omega arith
number_positive Neg = omega arith
number_positive Abs = omega arith
number_positive Eq = omega arith
number_positive Ne = omega arith
number_positive Lt = omega arith
number_positive Le = omega arith
number_positive Gt = omega arith
number_positive Ge = omega arith
number_positive Not = omega arith
number_positive Union = omega arith
number_positive Minus = omega arith
number_positive Meet = omega arith
number_positive Xor = omega arith
number_positive Compl = omega arith
number_positive Bit = omega arith
number_positive Bits = omega arith
number_positive In = omega arith
number_positive Incl = omega arith
number_positive Excl = omega arith
number_positive Range = omega arith
number_positive Chr = omega arith
number_positive Odd = omega arith
number_positive Cap = omega arith
number_positive Ash = omega arith
number_positive Inc = omega arith
number_positive Dec = omega arith
number_positive StrRel = omega arith
number_positive StrCopy = omega arith
number_positive Jump = omega arith
number_positive JumpF = omega arith
number_positive Trap = omega arith
number_positive Assert = omega arith
number_positive NewR = omega arith
number_positive NewA = omega arith
number_positive NewO = omega arith
number_positive Proc = omega arith
number_positive ProcX = omega arith
number_positive Call = omega arith
number_positive CallX = omega arith
number_positive CallV = omega arith
number_positive CallP = omega arith
number_positive CallR = omega arith
number_positive CallS = omega arith
number_positive Ret = omega arith
number_positive RetV = omega arith
number_positive Out = omega arith

pub number_within : (op : Opcode) → number op ≤ 71
number_within op = omega (arith, slice_get_within OPCODES (number op - 1) op (stands_at op))

opcode_found : (n : ℕ) (op : Opcode) → opcode_at n ≡ Some op → number op ≡ n
opcode_found zero op e = absurd cc
opcode_found (suc n) op e =
    let found : slice_get OPCODES n ≡ Some op = e in
    let at : get_or OPCODES n Int ≡ op = get_or_from_slice_get OPCODES n op Int found in
    let within : n < 71 = slice_get_within OPCODES n op found in
    ap number (sym at) ∙ number_at n within ∙ add-one n

opcode_again : (op : Opcode) → opcode_at (number op) ≡ Some op
opcode_again Int = refl
opcode_again Local = refl
opcode_again Global = refl
opcode_again ExtVar = refl
opcode_again Load = refl
opcode_again Store = refl
opcode_again Copy = refl
opcode_again CopyRec = refl
opcode_again Offset = refl
opcode_again Index = refl
opcode_again IndexO = refl
opcode_again Deref = refl
opcode_again Tagged = refl
opcode_again Lenned = refl
opcode_again Tag = refl
opcode_again IsP = refl
opcode_again IsR = refl
opcode_again GuardAt = refl
opcode_again GuardR = refl
opcode_again Drop = refl
opcode_again Add = refl
opcode_again Sub = refl
opcode_again Mul = refl
opcode_again Div = refl
opcode_again Mod = refl
opcode_again Neg = refl
opcode_again Abs = refl
opcode_again Eq = refl
opcode_again Ne = refl
opcode_again Lt = refl
opcode_again Le = refl
opcode_again Gt = refl
opcode_again Ge = refl
opcode_again Not = refl
opcode_again Union = refl
opcode_again Minus = refl
opcode_again Meet = refl
opcode_again Xor = refl
opcode_again Compl = refl
opcode_again Bit = refl
opcode_again Bits = refl
opcode_again In = refl
opcode_again Incl = refl
opcode_again Excl = refl
opcode_again Range = refl
opcode_again Chr = refl
opcode_again Odd = refl
opcode_again Cap = refl
opcode_again Ash = refl
opcode_again Inc = refl
opcode_again Dec = refl
opcode_again StrRel = refl
opcode_again StrCopy = refl
opcode_again Jump = refl
opcode_again JumpF = refl
opcode_again Trap = refl
opcode_again Assert = refl
opcode_again NewR = refl
opcode_again NewA = refl
opcode_again NewO = refl
opcode_again Proc = refl
opcode_again ProcX = refl
opcode_again Call = refl
opcode_again CallX = refl
opcode_again CallV = refl
opcode_again CallP = refl
opcode_again CallR = refl
opcode_again CallS = refl
opcode_again Ret = refl
opcode_again RetV = refl
opcode_again Out = refl

opcode_law : IsParsed byte opcode_at number (λ _. Unit {0})
unfolding byte
opcode_law = record {
  found = λ n op small bytes e. (opcode_found n op e, tt);
  again = λ op _. (omega (arith, number_within op), opcode_again op);
}

pub opcode_exact : IsExact opcode
unfolding opcode
opcode_exact = parsed_exact opcode_law byte_exact

unless_decides : (n k : ℕ) (z : ℤ) → Decides (cond (ltb n k) (int_eq z (pos 0)) true) (n < k → z ≡ pos 0)
unless_decides n k z = (
  λ e lt. (Decides-int_eq z (pos 0)).0 (rw ((Decides-ltb n k).1 lt) at e),
  λ h. elim (ltb n k) as (λ b. ltb n k ≡ b → cond b (int_eq z (pos 0)) true ≡ true) [
    | true ↦ λ t. (Decides-int_eq z (pos 0)).1 (h ((Decides-ltb n k).0 t))
    | false ↦ λ _. refl
  ] refl,
)

names_decides : (i : Instr) → Decides (names_all i) (NamesAll i)
names_decides i = Decides-and (cond (ltb (operands i.op) 1) (int_eq i.a (pos 0)) true) (cond (ltb (operands i.op) 2) (int_eq i.b (pos 0)) true) (unless_decides (operands i.op) 1 i.a) (unless_decides (operands i.op) 2 i.b)

pub instr_exact : IsExact instr
unfolding instr
instr_exact = such_that_exact names_all NamesAll names_decides (made_exact (λ p. record { op = p.0; a = p.1.0; b = p.1.1 }) (λ i. (i.op, (i.a, i.b))) (pair_exact opcode_exact (pair_exact int_exact int_exact)) (λ _. refl) (λ _. refl))

pub instr_found : (bytes : List ℕ) → IsBytes bytes → (i : Instr) → whole instr bytes ≡ Some i → IsInstr i × (bytes ≡ spelling i)
unfolding instr opcode byte int word32
instr_found bytes fits i e =
    let t = whole_found instr instr_exact bytes i fits e in
    (record { a_fits = t.0.0.1.0; b_fits = t.0.0.1.1; named = t.0.1 }, t.1)

pub instr_again : (i : Instr) → IsInstr i → whole instr (spelling i) ≡ Some i
unfolding instr opcode byte int word32
instr_again i fits = whole_again instr instr_exact i ((tt, (fits.a_fits, fits.b_fits)), fits.named)

pub some_found : (bytes : List ℕ) (r : Option Instr) → IsBytes bytes → r ≡ whole instr bytes → IfSome r (λ i. IsInstr i × (bytes ≡ spelling i))
some_found bytes (Some i) fits e = instr_found bytes fits i (sym e)
some_found bytes None fits e = tt

pub none_found : (bytes : List ℕ) (r : Option Instr) → r ≡ whole instr bytes → IfNone r ((i : Instr) → IsInstr i → bytes ≡ spelling i → ⊥)
none_found bytes (Some i) e = tt
none_found bytes None e = λ i fits same. let one : None ≡ Some i = e ∙ ap (whole instr) same ∙ instr_again i fits in absurd cc
