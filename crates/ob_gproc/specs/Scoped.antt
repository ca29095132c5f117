-- Of the parts of a module and of a procedure, where each thing stands.
use Rattle.std.specs.Prelude.{ℕ, List, Option}
use Rattle.ob_tree.specs.declared.names.QName.{QName}
use Rattle.ob_types.specs.declared.desc.Desc.{Desc}
use Rattle.ob_types.specs.declared.typed.TypedVariable.{TypedVariable}
use Rattle.ob_types.specs.declared.typed.TypedParameter.{TypedParameter}
use Rattle.ob_types.specs.declared.typed.TypedProcedure.{TypedProcedure}
use Rattle.ob_types.specs.declared.typed.TypedType.{TypedType}
use Rattle.ob_types.specs.declared.typed.TypedModule.{TypedModule}
use Rattle.ob_types.specs.TypedView.{module_view}
use Rattle.ob_layout.specs.Lists.{sum_of}
use Rattle.ob_layout.specs.Words.{words_of}
use Rattle.ob_layout.specs.Room.{slots}
use Rattle.ob_scheme.specs.Context.{Context, before, records_among}

abbrev pub variables_before : (QName → Option Desc) → List TypedVariable → List ℕ → ℕ
variables_before types vs x = before (λ v. v.name) (λ v. words_of types v.of) vs x

abbrev pub variables_words : (QName → Option Desc) → List TypedVariable → ℕ
variables_words types vs = sum_of (λ v. words_of types v.of) vs

abbrev pub parameters_before : List TypedParameter → List ℕ → ℕ
parameters_before ps x = before (λ p. p.name) (λ p. slots p.passing) ps x

abbrev pub parameters_slots : List TypedParameter → ℕ
parameters_slots ps = sum_of (λ p. slots p.passing) ps

abbrev pub procedures_before : List TypedProcedure → List ℕ → ℕ
procedures_before ps x = before (λ p. p.name) (λ p. 1) ps x

abbrev pub types_before : List TypedType → List ℕ → ℕ
types_before ts x = before (λ t. t.name) (λ t. 1) (records_among ts) x

abbrev pub types_count : List TypedType → ℕ
types_count ts = sum_of (λ t. 1) (records_among ts)

-- what the code of a procedure looks up
abbrev pub context_of : (QName → Option Desc) → TypedModule → List TypedParameter → List TypedVariable → Context
context_of types m parameters locals = record { types = types; unit = module_view m; parameters = parameters; locals = locals }
