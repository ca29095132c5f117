-- Rules of one number are one.
use Rattle.std.proofs.Common.{◌≡◌, refl, sym, ap, ◌∙◌, ℕ, List, [], ◌∷◌, Option, Some}
use Rattle.std.specs.Prelude.{slice_get}
use Rattle.ob_rules.specs.declared.broken.Rule.{Rule}
use Rattle.ob_rules.specs.declared.broken.Rule.TheVariants as rule
use Rattle.ob_rules.specs.Judged.{number_of}

-- the rules by their numbers, with the first where there is none
abbrev rules : List Rule
rules =
    rule.DeclaredTwice ∷ rule.DeclaredTwice ∷ rule.NotDeclared ∷ rule.WrongKind ∷ rule.WrongClosingName ∷ rule.ReservedModule ∷
    rule.MisplacedMark ∷ rule.LeftOut ∷ rule.OuterVariable ∷ rule.LiteralTooLarge ∷ rule.NotConstant ∷ rule.ConstantOutOfRange ∷
    rule.UnfitLength ∷ rule.MisplacedOpenArray ∷ rule.UnfitBase ∷ rule.UnfitPointerBase ∷ rule.DeclaredTwice ∷ rule.StructuredResult ∷
    rule.UnmatchedForward ∷ rule.UnfitReceiver ∷ rule.UnmatchedRedefinition ∷ rule.UnfitOperands ∷ rule.UnfitSelector ∷ rule.UnfitTypeTest ∷
    rule.WrongParameterCount ∷ rule.UnfitParameter ∷ rule.NotChangeable ∷ rule.MisplacedCall ∷ rule.UnfitPredeclaredParameters ∷ rule.DeclaredTwice ∷
    rule.DeclaredTwice ∷ rule.NotAssignable ∷ rule.NotBoolean ∷ rule.UnfitCase ∷ rule.UnfitFor ∷ rule.MisplacedExit ∷
    rule.UnfitReturn ∷ rule.UnfitWith ∷ rule.GuardedVarParameter ∷ rule.UnfitProcedureValue ∷ rule.UnfitSuperCall ∷ []

abbrev rule_of : ℕ → Option Rule
rule_of n = slice_get rules n

found_again : (r : Rule) → rule_of (number_of r) ≡ Some r
found_again rule.DeclaredTwice = refl
found_again rule.NotDeclared = refl
found_again rule.WrongKind = refl
found_again rule.WrongClosingName = refl
found_again rule.ReservedModule = refl
found_again rule.MisplacedMark = refl
found_again rule.LeftOut = refl
found_again rule.OuterVariable = refl
found_again rule.LiteralTooLarge = refl
found_again rule.NotConstant = refl
found_again rule.ConstantOutOfRange = refl
found_again rule.UnfitLength = refl
found_again rule.MisplacedOpenArray = refl
found_again rule.UnfitBase = refl
found_again rule.UnfitPointerBase = refl
found_again rule.StructuredResult = refl
found_again rule.UnmatchedForward = refl
found_again rule.UnfitReceiver = refl
found_again rule.UnmatchedRedefinition = refl
found_again rule.UnfitOperands = refl
found_again rule.UnfitSelector = refl
found_again rule.UnfitTypeTest = refl
found_again rule.WrongParameterCount = refl
found_again rule.UnfitParameter = refl
found_again rule.NotChangeable = refl
found_again rule.MisplacedCall = refl
found_again rule.UnfitPredeclaredParameters = refl
found_again rule.NotAssignable = refl
found_again rule.NotBoolean = refl
found_again rule.UnfitCase = refl
found_again rule.UnfitFor = refl
found_again rule.MisplacedExit = refl
found_again rule.UnfitReturn = refl
found_again rule.UnfitWith = refl
found_again rule.GuardedVarParameter = refl
found_again rule.UnfitProcedureValue = refl
found_again rule.UnfitSuperCall = refl

pub same_number : (r s : Rule) → number_of r ≡ number_of s → r ≡ s
same_number r s e = some_is (sym (found_again r) ∙ ap rule_of e ∙ found_again s)
  where
    some_is : {a b : Rule} → Some a ≡ Some b → a ≡ b
    some_is k = cc
