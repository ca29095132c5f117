-- The laws of the procedures that may be values.
use Rattle.std.specs.Prelude.{◌≡◌, List, [], ◌∷◌, ◌++◌, map, Option, Some, true}
use Rattle.std.specs.List.{AllByRecursion}
use Rattle.ob_tree.specs.declared.names.QName.{QName}
use Rattle.ob_types.specs.declared.types.Mode.{Mode}
use Rattle.ob_types.specs.declared.types.TypeRef.{TypeRef}
use Rattle.ob_types.specs.declared.types.Signature.{Signature}
use Rattle.ob_types.specs.declared.desc.Desc.{Desc}
use Rattle.ob_types.specs.declared.typed.TypedParameter.{TypedParameter}
use Rattle.ob_types.specs.Maps.{listed}
use Rattle.ob_types.specs.Tests.{same_at, equal_at}
use Rattle.ob_types.specs.AssigningTests.{is_value, alike_to}
use Rattle.ob_types.specs.TypedSyntax.{Procedure, Module}
use Rattle.ob_meaning.specs.Values.{Program, Formals, description, procedure_of, form_in, record_in, formals_in}
use Rattle.law_simulation_relation.specs.Typed.{result_form}
use Rattle.law_simulation_relation.specs.Setting.{Setting, has_of}
use Rattle.law_simulation_calls.specs.Signatures.{ValuesMatch, Alike}
use Rattle.ob_rules.specs.Shapes.{is_held}
use Rattle.law_typing_forms.specs.Formed.{IsDeclared, AreParameters, Formed, IsProcedureOf}
use Rattle.law_typing_values.specs.Valued.{values}

-- WHAT A VALUE IS: a procedure of the program, which matches the procedure type
pub record ValuesAre (c : Setting) : Type 0 where
  pub procedures : (fs : Formals) (q : QName) → has_of c fs q → (p : Procedure) × (procedure_of c.program q ≡ Some p)
  pub match : ValuesMatch c

abbrev pub ValuesFit : Type 0
ValuesFit = (c : Setting) → c.has ≡ values c.program → ValuesAre c

-- WHAT IS A VALUE

abbrev pub AreTypesOf : Program → List TypeRef → Type 0
AreTypesOf program ts = AllByRecursion (λ t. is_held (description program) t ≡ true) ts

-- the parameters and results of procedures have types of the program
abbrev pub AreProceduresTyped : Program → Type 0
AreProceduresTyped program = (q : QName) (p : Procedure) → procedure_of program q ≡ Some p → AreTypesOf program (map (λ x. x.of) p.parameters ++ listed p.result)

-- a procedure that has a signature is a value of a variable of its procedure type
abbrev pub ValuesAreMade : Type 0
ValuesAreMade = (program : Program) → AreProceduresTyped program → (q : QName) (s : Signature) → IsProcedureOf program q s → is_value q ≡ true → values program (formals_in program s) q ≡ true

-- WHAT MATCHES

-- types that the rules take for the same, or for equal, are of one form
pub record AreForms (map : QName → Option Desc) (program : Program) : Type 0 where
  pub same : (t u : TypeRef) → same_at map t u ≡ true → form_in program t ≡ form_in program u
  pub equal : (t u : TypeRef) → IsDeclared t → IsDeclared u → equal_at map 201 t u ≡ true → form_in program t ≡ form_in program u

-- where the map says what the program has
abbrev pub EqualAreForms : Type 0
EqualAreForms = (program : Program) (map : QName → Option Desc) → Formed map program → AreForms map program

abbrev pub AreDeclared : List (Mode × TypeRef) → Type 0
AreDeclared ks = AllByRecursion (λ k. IsDeclared k.1) ks

-- and procedure types whose signatures match are one
abbrev pub MatchingAreAlike : Type 0
MatchingAreAlike = (program : Program) (map : QName → Option Desc) → Formed map program → (s t : Signature) → AreDeclared s.params → AreDeclared t.params → alike_to map s (Some t) ≡ true → formals_in program s ≡ formals_in program t

-- a procedure that has a signature has each one that matches it
abbrev pub MatchingIsHaving : Type 0
MatchingIsHaving = (program : Program) (map : QName → Option Desc) → Formed map program → (q : QName) (s t : Signature) → IsProcedureOf program q s → AreDeclared s.params → AreDeclared t.params → alike_to map s (Some t) ≡ true → IsProcedureOf program q t

-- procedures whose signatures match, as one that redefines another has to, give the same and take the same in the same way
abbrev pub RedefinitionsAreAlike : Type 0
RedefinitionsAreAlike =
    (program : Program) (map : QName → Option Desc) → Formed map program → (s t : Signature) → AreDeclared s.params → AreDeclared t.params → alike_to map s (Some t) ≡ true
    → (result_form program s.result ≡ result_form program t.result) × ((ps qs : List TypedParameter) → AreParameters program ps s.params → AreParameters program qs t.params → Alike program ps qs)

-- VALUES STAY where one more module is behind and types stay what they are

abbrev pub TypesStay : Program → Module → Type 0
TypesStay program m = (q : QName) (d : Desc) → description program q ≡ Some d → record_in (program ++ m ∷ []) q ≡ record_in program q

abbrev pub ValuesStay : Type 0
ValuesStay = (program : Program) (m : Module) → TypesStay program m → (fs : Formals) (q : QName) → values program fs q ≡ true → values (program ++ m ∷ []) fs q ≡ true
