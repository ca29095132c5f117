-- The procedures that may be values, as they are asked for around a part of a text.
use Rattle.std.specs.Prelude.{◌≡◌, Option, Some, true}
use Rattle.ob_tree.specs.declared.names.QName.{QName}
use Rattle.ob_types.specs.declared.types.Signature.{Signature}
use Rattle.ob_types.specs.declared.desc.Desc.{Desc}
use Rattle.ob_types.specs.AssigningTests.{is_value, alike_to}
use Rattle.ob_meaning.specs.Values.{Program, formals_in}
use Rattle.law_typing_forms.specs.Formed.{Formed, IsProcedureOf}
use Rattle.law_typing.specs.Forms.{SignatureIs}
use Rattle.law_typing_values.specs.Valued as valued
use Rattle.law_typing_values.specs.Laws.{AreProceduresTyped}

-- the procedures that may be values of a procedure type: those that have its signature, or one that matches it
pub record HasValues (program : Program) (map : QName → Option Desc) : Type 0 where
  pub values : (q : QName) (s : Signature) → IsProcedureOf program q s → SignatureIs program map s → is_value q ≡ true → valued.values program (formals_in program s) q ≡ true
  pub alike : (q : QName) (s t : Signature) → IsProcedureOf program q s → SignatureIs program map s → SignatureIs program map t → is_value q ≡ true → alike_to map s (Some t) ≡ true → valued.values program (formals_in program t) q ≡ true

abbrev pub ValuesAround : Type 0
ValuesAround = (program : Program) (map : QName → Option Desc) → AreProceduresTyped program → Formed map program → HasValues program map
