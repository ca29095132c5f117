-- How the procedures that variables may have as values match the signatures of these variables.
use Rattle.std.specs.Prelude.{◌≡◌, List, [], ◌∷◌, Some}
use Rattle.ob_tree.specs.declared.names.QName.{QName}
use Rattle.ob_types.specs.declared.types.Mode.{Mode}
use Rattle.ob_types.specs.declared.types.TypeRef.{TypeRef}
use Rattle.ob_types.specs.declared.types.Signature.{Signature}
use Rattle.ob_types.specs.declared.typed.TypedParameter.{TypedParameter}
use Rattle.ob_types.specs.TypedSyntax.{Procedure}
use Rattle.ob_meaning.specs.Values.{Program, procedure_of, form_in, formals_in}
use Rattle.law_simulation_relation.specs.Typed.{passing_for, result_form}
use Rattle.law_simulation_relation.specs.Setting.{Setting, has_of}

-- parameters of the same types, passed as those of the signature
abbrev pub ParametersMatch : Program → List TypedParameter → List (Mode × TypeRef) → Type 0
ParametersMatch program [] [] = Unit {0}
ParametersMatch program [] (t ∷ ts) = ⊥
ParametersMatch program (p ∷ ps) [] = ⊥
ParametersMatch program (p ∷ ps) (t ∷ ts) = ((p.passing ≡ passing_for t.0 (form_in program t.1)) × (form_in program p.of ≡ form_in program t.1)) × ParametersMatch program ps ts

-- a procedure that a variable may have as its value has the result and the parameters of the variable's signature, by their forms
abbrev pub ValuesMatch : Setting → Type 0
ValuesMatch c = (s : Signature) (q : QName) (p : Procedure) → has_of c (formals_in c.program s) q → procedure_of c.program q ≡ Some p → (result_form c.program p.result ≡ result_form c.program s.result) × ParametersMatch c.program p.parameters s.params

-- parameters that differ in nothing but their names and the names of their types
abbrev pub Alike : Program → List TypedParameter → List TypedParameter → Type 0
Alike program [] [] = Unit {0}
Alike program [] (q ∷ qs) = ⊥
Alike program (p ∷ ps) [] = ⊥
Alike program (p ∷ ps) (q ∷ qs) = ((p.passing ≡ q.passing) × (form_in program p.of ≡ form_in program q.of)) × Alike program ps qs
