-- The strings that code has found.
use Rattle.std.specs.Prelude.{ℕ, min, List, map as each, Option, Some, None}
use Rattle.ob_tree.specs.declared.names.QName.{QName}
use Rattle.ob_types.specs.declared.types.TypeRef.{TypeRef}
use Rattle.ob_types.specs.declared.desc.Desc.{Desc}
use Rattle.ob_types.specs.declared.value.Value.{Value}
use Rattle.ob_types.specs.declared.value.Value.TheVariants as literal
use Rattle.ob_types.specs.TypedSyntax.{Expr, Constant}
use Rattle.ob_layout.specs.declared.texts.UsedText.{UsedText}
use Rattle.ob_layout.specs.Words.{words_of}
use Rattle.ob_layout.specs.Texts.{AText}

abbrev pub as_text : UsedText → AText
as_text u = record { text = u.text; words = u.words }

abbrev pub used : List UsedText → List AText
used us = each as_text us

-- the words of a type, those above 2^32 as that number
abbrev pub counted : (QName → Option Desc) → TypeRef → ℕ
counted map t = min (words_of map t) 4294967296

abbrev pub text_of_value : Value → Option (List ℕ)
text_of_value (literal.Str t) = Some t
text_of_value v = None

-- a string that is written
abbrev pub written_text : Expr → Option (List ℕ)
written_text (Constant v) = text_of_value v
written_text e = None
