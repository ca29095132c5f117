-- The sources of the modules of a demo: n modules, each of which extends the record type of the one before it and has n procedures.
use Rattle.std.specs.Prelude.{ℕ, zero, suc, List, [], ◌++◌, codes, decimal}

-- a number between two texts
unfoldable pub around : List ℕ → ℕ → List ℕ → List ℕ
around front k back = front ++ (decimal k ++ back)

-- the procedure Qk, which adds k
unfoldable pub heading : ℕ → List ℕ
heading k = around (codes "PROCEDURE Q") k (codes "*(x: LONGINT): LONGINT;")

unfoldable pub sum : ℕ → List ℕ
sum k = around (codes " BEGIN RETURN x + ") k (codes " END Q")

unfoldable pub end : ℕ → List ℕ
end k = decimal k ++ codes ";\n"

unfoldable pub procedure : ℕ → List ℕ
procedure k = heading k ++ (sum k ++ end k)

-- the procedures Qk for so many k, from a number on
unfoldable pub procedures : ℕ → ℕ → List ℕ
procedures k zero = []
procedures k (suc more) = procedure k ++ procedures (suc k) more

abbrev pub module_name : ℕ → List ℕ
module_name i = codes "D" ++ decimal i

-- the procedures and the command of a module of n, up to its body
unfoldable pub middle : ℕ → List ℕ
middle n = procedures 1 n ++ codes "PROCEDURE Go*; BEGIN Out.Int(p.Sum(), 0); Out.Ln END Go;\nBEGIN NEW(p); "

unfoldable pub ending : ℕ → List ℕ
ending i = around (codes "\nEND D") i (codes ".\n")

unfoldable pub first_front : List ℕ
first_front = codes "MODULE D1; IMPORT Out;\nTYPE R* = RECORD v*: LONGINT END; T* = POINTER TO R;\nVAR p*: T;\nPROCEDURE (t: T) Sum*(): LONGINT; BEGIN RETURN t.v END Sum;\n"

unfoldable pub first_body : List ℕ
first_body = codes "p.v := 1"

-- of module i, which imports module j
unfoldable pub next_front : ℕ → ℕ → List ℕ
next_front i j =
    around (codes "MODULE D") i (codes ";")
    ++ (around (codes " IMPORT D") j (codes ", Out;\n")
    ++ (around (codes "TYPE R* = RECORD (D") j (codes ".R)")
    ++ (around (codes " w") i (codes "*: LONGINT END; T* = POINTER TO R;\nVAR p*: T;\nPROCEDURE (t: T) Sum*(): LONGINT; BEGIN RETURN t.Sum^()")
    ++ around (codes " + t.w") i (codes " END Sum;\n"))))

unfoldable pub next_body : ℕ → ℕ → List ℕ
next_body i j = around (codes "p.v := D") j (codes ".p.Sum();") ++ (around (codes " p.w") i (codes " :=") ++ around (codes " ") i (codes ""))

-- the source of module i of n
unfoldable pub source : ℕ → ℕ → List ℕ
source n zero = []
source n (suc zero) = first_front ++ (middle n ++ (first_body ++ ending 1))
source n (suc (suc j)) = next_front (suc (suc j)) (suc j) ++ (middle n ++ (next_body (suc (suc j)) (suc j) ++ ending (suc (suc j))))
