-- Procedure types that match by the parameters of their parameters, which are written with different names.
use Rattle.std.specs.Prelude.{◌≡◌, ◌≢◌, ℕ, List, [], ◌∷◌, None}
use Rattle.ob_tree.specs.declared.ident.Mark.TheVariants as mark
use Rattle.ob_types.specs.declared.types.Mode.{Mode}
use Rattle.ob_types.specs.declared.types.Mode.TheVariants as mode
use Rattle.ob_types.specs.declared.types.TypeRef.{TypeRef}
use Rattle.ob_types.specs.declared.types.TypeRef.TheVariants as ref
use Rattle.ob_types.specs.declared.desc.Desc.{Desc}
use Rattle.ob_types.specs.declared.desc.Desc.TheVariants as desc
use Rattle.ob_types.specs.declared.typed.TypedType.{TypedType}
use Rattle.ob_types.specs.TypedSyntax.{Nothing, Module}
use Rattle.ob_meaning.specs.Values.{Program, form_in}

abbrev pub type_named : ℕ → TypeRef
type_named x = ref.Named (record { «module» = 77 ∷ []; object = x ∷ [] })

abbrev pub declared : ℕ → Desc → TypedType
declared x d = record { name = x ∷ []; desc = d }

-- a procedure type with one parameter
abbrev pub taking : Mode → ℕ → Desc
taking how x = desc.ProcType mark.Full (record { params = (how, type_named x) ∷ []; result = None })

-- MODULE M; TYPE A = RECORD END; B = A; P = PROCEDURE (x: A); Q = PROCEDURE (x: B);
-- F = PROCEDURE (g: P); G = PROCEDURE (g: Q); H = PROCEDURE (VAR g: P); END M.
abbrev pub types : List TypedType
types =
    declared 65 (desc.Record (record { mark = mark.Full; base = None; fields = []; methods = []; words = 0; procedures = 0 }))
    ∷ declared 66 (desc.Alias mark.Full (type_named 65))
    ∷ declared 80 (taking mode.Value 65)
    ∷ declared 81 (taking mode.Value 66)
    ∷ declared 70 (taking mode.Value 80)
    ∷ declared 71 (taking mode.Value 81)
    ∷ declared 72 (taking mode.Var 80) ∷ []

abbrev pub unit : Module
unit = record { name = 77 ∷ []; imports = []; constants = []; types = types; variables = []; procedures = []; body = Nothing; mentioned = record { objects = []; types = []; lengths = [] } }

abbrev pub program : Program
program = unit ∷ []

-- F and G are one form, so that a procedure with a parameter of type P is a value of both; H, with its parameter by VAR, is another.
abbrev pub TypesMatch : Type 0
TypesMatch = (form_in program (type_named 70) ≡ form_in program (type_named 71)) × (form_in program (type_named 70) ≢ form_in program (type_named 72))
