-- Programs of several modules.
use Rattle.std.proofs.Common.{◌≡◌, refl}
use Rattle.std.specs.Prelude.{ℕ, List, [], ◌∷◌, ◌++◌, Option, Some, None, codes}
use Rattle.std.specs.Fmt.{digits}
use Rattle.ob_tree.specs.declared.names.QName.{QName}
use Rattle.ob_types.specs.declared.types.TypeRef.{TypeRef}
use Rattle.ob_types.specs.declared.types.TypeRef.TheVariants as ref
use Rattle.ob_types.specs.declared.desc.Receiver.TheVariants as receiver
use Rattle.ob_types.specs.declared.typed.Passing.TheVariants as passing
use Rattle.ob_types.specs.declared.typed.Comparison.TheVariants as comparison
use Rattle.ob_types.specs.declared.typed.Compared.TheVariants as compared
use Rattle.ob_types.specs.declared.typed.Binary.TheVariants as binary
use Rattle.ob_types.specs.declared.typed.Made.TheVariants as made
use Rattle.ob_types.specs.TypedSyntax.{Desig, Field, Deref, ValueOf, Dyadic, IsPointer, NoActual, Stmt, New, While, Module}
use Rattle.ob_meaning.specs.Commands.{Ended, command}
use Rattle.ob_meaning.proofs.Build.{nowhere, named, long, type_of, a_field, record_type, pointer_type, global, own, parameter, num, letter, nil, scalar, passed, block, set_to, call, family_of, call_bound, out_int, out_char, out_line, when, increase, variable_of, parameter_of, procedure, proper, bound_to, unit_of, run_all, outcome, ends}
use Rattle.ob_types.specs.declared.typed.TypedParameter.{TypedParameter}
use Rattle.ob_types.specs.declared.typed.TypedType.{TypedType}

abbrev says : List ℕ → Stmt
says t = out_char (letter t) nowhere

-- A TEST OVER THREE MODULES, each of whose record types extends that of the one before

abbrev r_of : List ℕ → QName
r_of m = named m (codes "R")

abbrev t_of : List ℕ → TypeRef
t_of m = ref.Named (named m (codes "T"))

abbrev types_of : List ℕ → Option TypeRef → List TypedType
types_of m base = type_of (codes "T") (pointer_type (ref.Named (r_of m))) ∷ type_of (codes "R") (record_type base []) ∷ []

abbrev ta : Module
ta = unit_of (codes "Ta") (types_of (codes "Ta") None) [] [] []

abbrev tb : Module
tb = unit_of (codes "Tb") (types_of (codes "Tb") (Some (ref.Named (r_of (codes "Ta"))))) [] [] []

abbrev p : Desig
p = global (codes "Tc") (codes "p") (t_of (codes "Ta"))

abbrev q : Desig
q = global (codes "Tc") (codes "q") (t_of (codes "Tc"))

abbrev tc : Module
tc = unit_of (codes "Tc") (types_of (codes "Tc") (Some (ref.Named (r_of (codes "Tb")))))
    (variable_of (codes "p") (t_of (codes "Ta")) ∷ variable_of (codes "q") (t_of (codes "Tc")) ∷ [])
    (proper (codes "Go") (
    New q (made.Record (r_of (codes "Tc"))) nowhere
    ∷ set_to p (ValueOf q) nowhere
    ∷ when (IsPointer (ValueOf p) (r_of (codes "Tb"))) (says (codes "y") ∷ []) (says (codes "n") ∷ [])
    ∷ set_to p nil nowhere
    ∷ when (IsPointer (ValueOf p) (r_of (codes "Ta"))) (says (codes "y") ∷ []) (says (codes "n") ∷ [])
    ∷ out_line nowhere ∷ []) ∷ []) []

test_says : outcome (run_all (ta ∷ tb ∷ tc ∷ []) (named (codes "Tc") (codes "Go")) 10) ≡ ends (codes "yn" ++ 10 ∷ [])
test_says = refl

-- LISTS OF NODES, a module that extends them, and one that counts

abbrev in_lists : List ℕ → QName
in_lists x = named (codes "Lists") x

abbrev node : TypeRef
node = ref.Named (in_lists (codes "Node"))

abbrev node_desc : QName
node_desc = in_lists (codes "NodeDesc")

abbrev list : QName
list = in_lists (codes "List")

abbrev next_of : Desig → Desig
next_of d = Field (Deref d nowhere (ref.Named node_desc)) node_desc (codes "next") node

abbrev first_of : Desig → Desig
first_of d = Field d list (codes "first") node

abbrev n_of : Desig → Desig
n_of d = Field d list (codes "n") long

abbrev l_is : TypedParameter
l_is = parameter_of (codes "l") passing.VariableRecord (ref.Named list)

abbrev l : Desig
l = parameter passing.VariableRecord (codes "l") (ref.Named list)

abbrev x : Desig
x = parameter passing.Scalar (codes "x") node

abbrev y : Desig
y = own (codes "x") node

abbrev lists : Module
lists = unit_of (codes "Lists")
    (type_of (codes "Node") (pointer_type (ref.Named node_desc)) ∷ type_of (codes "NodeDesc") (record_type None (a_field (codes "next") node ∷ []))
    ∷ type_of (codes "List") (record_type None (a_field (codes "first") node ∷ a_field (codes "n") long ∷ [])) ∷ []) []
    (procedure (codes "List.Add") (bound_to list receiver.Record (family_of list (codes "Add"))) (l_is ∷ parameter_of (codes "x") passing.Scalar node ∷ []) None [] nowhere
    (set_to (next_of x) (ValueOf (first_of l)) nowhere ∷ set_to (first_of l) (ValueOf x) nowhere ∷ increase (n_of l) (num 1) nowhere ∷ [])
    ∷ procedure (codes "NodeDesc.Print") (bound_to node_desc receiver.Pointer (family_of node_desc (codes "Print"))) (parameter_of (codes "x") passing.Scalar node ∷ []) None [] nowhere (says (codes "?") ∷ [])
    ∷ procedure (codes "List.All") (bound_to list receiver.Record (family_of list (codes "All"))) (l_is ∷ []) None (variable_of (codes "x") node ∷ []) nowhere
    (set_to y (ValueOf (first_of l)) nowhere
    ∷ While (Dyadic (binary.Compare comparison.NotEqual compared.Pointer) (ValueOf y) nil nowhere) (block (
    call_bound node_desc (codes "Print") receiver.Pointer (scalar (ValueOf y) NoActual) nowhere
    ∷ set_to y (ValueOf (next_of y)) nowhere ∷ [])) nowhere
    ∷ out_line nowhere ∷ []) ∷ []) []

abbrev num_t : TypeRef
num_t = ref.Named (named (codes "Nums") (codes "Num"))

abbrev num_desc : QName
num_desc = named (codes "Nums") (codes "NumDesc")

abbrev v_of : Desig → Desig
v_of d = Field (Deref d nowhere (ref.Named num_desc)) num_desc (codes "v") long

abbrev the_list : Desig
the_list = global (codes "Nums") (codes "l") (ref.Named list)

abbrev z : Desig
z = own (codes "x") num_t

abbrev put : ℕ → Stmt
put n = call (named (codes "Nums") (codes "Put")) (scalar (num n) NoActual) nowhere

abbrev nums : Module
nums = unit_of (codes "Nums")
    (type_of (codes "Num") (pointer_type (ref.Named num_desc)) ∷ type_of (codes "NumDesc") (record_type (Some (ref.Named node_desc)) (a_field (codes "v") long ∷ [])) ∷ [])
    (variable_of (codes "l") (ref.Named list) ∷ [])
    (procedure (codes "NumDesc.Print") (bound_to num_desc receiver.Pointer (family_of node_desc (codes "Print"))) (parameter_of (codes "x") passing.Scalar num_t ∷ []) None [] nowhere
    (out_int (ValueOf (v_of (parameter passing.Scalar (codes "x") num_t))) 3 nowhere ∷ [])
    ∷ procedure (codes "Put") None (parameter_of (codes "v") passing.Scalar long ∷ []) None (variable_of (codes "x") num_t ∷ []) nowhere
    (New z (made.Record num_desc) nowhere ∷ set_to (v_of z) (ValueOf (parameter passing.Scalar (codes "v") long)) nowhere
    ∷ call_bound list (codes "Add") receiver.Record (passed passing.VariableRecord (ValueOf the_list) (scalar (ValueOf z) NoActual)) nowhere ∷ [])
    ∷ proper (codes "Go") (put 1 ∷ put 22 ∷ call_bound list (codes "All") receiver.Record (passed passing.VariableRecord (ValueOf the_list) NoActual) nowhere ∷ []) ∷ []) []

abbrev count : Module
count = unit_of (codes "Count") [] [] (proper (codes "Go") (out_int (ValueOf (n_of the_list)) 0 nowhere ∷ out_line nowhere ∷ []) ∷ []) []

abbrev listed : Ended
listed = run_all (lists ∷ nums ∷ []) (named (codes "Nums") (codes "Go")) 100

nums_say : outcome listed ≡ ends (codes " 22  1" ++ 10 ∷ [])
unfolding digits
nums_say = refl

-- a command of a module that comes in later sees the variables that are there
count_says : outcome (command listed.system (count ∷ []) 1048576 100 (named (codes "Count") (codes "Go"))) ≡ ends (codes "2" ++ 10 ∷ [])
unfolding digits
count_says = refl
