-- The words of an object file's globals are those of the layout.
use Rattle.std.proofs.Common.{◌≡◌, ℕ, ◌+◌, ◌<◌, ◌≤◌, List, [], ◌∷◌, ◌++◌, Option, Some, None, refl, arith}
use Rattle.std.specs.List.{flat_map}
use Rattle.ob_tree.specs.declared.pos.Pos.{Pos}
use Rattle.ob_tree.specs.declared.names.QName.{QName}
use Rattle.ob_types.specs.declared.types.TypeRef.{TypeRef}
use Rattle.ob_types.specs.declared.desc.Desc.{Desc}
use Rattle.ob_types.specs.declared.face.Use.{Use}
use Rattle.ob_types.specs.TypedSyntax.{Procedure, Module}
use Rattle.ob_obj.specs.declared.parts.Export.{Export}
use Rattle.ob_obj.specs.declared.parts.StringConst.{StringConst}
use Rattle.ob_obj.specs.Grammar.{words_of as words_of_strings}
use Rattle.ob_obj.specs.Images.{global_words}
use Rattle.ob_layout.specs.Words.{words_of}
use Rattle.ob_layout.specs.Used.{counted}
use Rattle.ob_layout.specs.Room.{globals_words}
use Rattle.ob_layout.specs.Texts.{texts_of_all, texts_of_module}
use Rattle.ob_scheme.specs.Lines.{Operand, Number, StringHere, OtherVariable, OtherProcedure, OtherType, Line}
use Rattle.ob_scheme.specs.Numbers.{Named, nothing_named, with_operand, with_line, with_lines}
use Rattle.ob_scheme.specs.Context.{first_hidden}
use Rattle.ob_scheme.specs.Statements.{stmts_code}
use Rattle.ob_scheme.specs.Procedures.{all_procedures, closing, within, end_procedure, procedure_code, procedures_code, module_code}
use Rattle.ob_scheme.specs.Object.{own_words, object_file}
use Rattle.law_load_plan.proofs.Texts.{operand_words, laid, used, laid_both, used_both}
use Rattle.law_load_plan.proofs.TextsOf.{stmts_laid}
use Rattle.law_load_plan.proofs.Counting.{close_words, module_close}

-- ---- what lines name

strings_both : (a : List StringConst) (s : StringConst) → words_of_strings (a ++ s ∷ []) ≡ words_of_strings a + s.words
strings_both [] s = omega arith
strings_both (x ∷ a) s = let e = strings_both a s in omega (arith, e)

operand_named : (n : Named) (o : Operand) → words_of_strings (with_operand n o).strings ≡ words_of_strings n.strings + operand_words o
operand_named n (Number z) = omega arith
operand_named n (StringHere text words) = strings_both n.strings (record { text = text; words = words })
operand_named n (OtherVariable m x) = omega arith
operand_named n (OtherProcedure m x) = omega arith
operand_named n (OtherType own q) = omega arith

lines_named : (n : Named) (ls : List Line) → words_of_strings (with_lines n ls).strings ≡ words_of_strings n.strings + laid ls
lines_named n [] = omega arith
lines_named n (l ∷ ls) = omega (arith, operand_named n l.a, operand_named (with_operand n l.a) l.b, lines_named (with_line n l) ls)

-- ---- the code of a module

closing_laid : (t : Option TypeRef) (at : Pos) → laid (closing t at ∷ []) ≡ 0
closing_laid None at = refl
closing_laid (Some t) at = refl

module _ (types : QName → Option Desc) (m : Module) where
  procedure_laid : (p : Procedure) (pc : ℕ) → laid (procedure_code types m p pc) ≡ used (texts_of_all (words_of types) p.body)
  procedure_laid p pc =
      let c = within types m p in
      let a = stmts_code c p.body pc (first_hidden c) 0 in
      omega (arith, stmts_laid c p.body pc (first_hidden c) 0, closing_laid p.result p.at, laid_both a (closing p.result p.at ∷ []))

  procedures_laid : (ps : List Procedure) (pc : ℕ) → laid (procedures_code types m ps pc) ≡ used (flat_map (λ p. texts_of_all (words_of types) p.body) ps)
  procedures_laid [] pc = refl
  procedures_laid (p ∷ ps) pc =
      let next = end_procedure types m p pc in
      omega (arith, procedure_laid p pc, procedures_laid ps next, laid_both (procedure_code types m p pc) (procedures_code types m ps next), used_both (texts_of_all (words_of types) p.body) (flat_map (λ p. texts_of_all (words_of types) p.body) ps))

  module_laid : laid (module_code types m) ≡ used (texts_of_module (words_of types) m)
  module_laid = procedures_laid (all_procedures m) 0

  -- ---- the words that the layout counts

  counted_is : (t : TypeRef) → counted types t < 4294967296 → words_of types t ≡ counted types t
  counted_is t l = grind arith

  all_counted : used (texts_of_module (counted types) m) < 4294967296 → used (texts_of_module (words_of types) m) ≡ used (texts_of_module (counted types) m)
  all_counted l = close_words (texts_of_module (words_of types) m) (texts_of_module (counted types) m) (module_close (words_of types) (counted types) counted_is m) l

  -- THE WORDS OF THE GLOBALS
  pub globals_are : (exports : List Export) (uses : List Use) → globals_words types m ≤ 262144 → global_words (object_file types m exports uses) ≡ globals_words types m
  globals_are exports uses le =
      let a = lines_named (nothing_named (own_words types m)) (module_code types m) in
      let b = module_laid in
      let d = all_counted (omega (arith, le)) in
      omega (arith, a, b, d)
