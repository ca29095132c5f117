-- The words of a file's strings are the texts of its module.
use Rattle.std.proofs.Common.{◌≡◌, ℕ, zero, suc, ◌+◌, ◌-◌, ◌≤◌, List, [], ◌∷◌, ◌++◌, length, take, map, refl, sym, ap, ◌∙◌, arith, append_assoc, append-nil}
use Rattle.std.specs.Prelude.{ℤ, pos, replicate}
use Rattle.std.specs.List.{AllByRecursion}
use Rattle.ob_format.specs.Format.{list_of}
use Rattle.ob_obj.specs.declared.parts.StringConst.{StringConst}
use Rattle.ob_obj.specs.declared.file.ObjFile.{ObjFile}
use Rattle.ob_obj.specs.Grammar.{file, globals, string}
use Rattle.ob_obj.specs.Images.{string_words}
use Rattle.ob_scheme.specs.Lines.{Operand, Number, StringHere, OtherVariable, OtherProcedure, OtherType, Line}
use Rattle.ob_scheme.specs.Numbers.{Named, nothing_named, with_operand, with_line, with_lines}
use Rattle.ob_scheme.specs.Procedures.{module_code}
use Rattle.ob_scheme.specs.Object.{own_words}
use Rattle.law_simulation_relation.specs.Texts.{text_words}
use Rattle.law_image_code.proofs.Words.{local_sum}
use Rattle.law_image_links.specs.Files.{file_of}
use Rattle.law_image_links.specs.Contents.{FilesHaveContents}
use Rattle.law_image_links.proofs.Lines.{operand_words, lines_words}
use Rattle.law_image_links.proofs.Statements.{module_words}
use Rattle.law_image_links.proofs.Linked.{sound}
use Rattle.law_image_links.proofs.Whole.{file_words}

-- A STRING THAT HAS ROOM FOR ITS TEXT

zeros : (n k : ℕ) → n ≤ k → take n (replicate k (pos 0)) ≡ replicate n (pos 0)
zeros zero k le = refl
zeros (suc n) zero le = absurd (omega arith)
zeros (suc n) (suc k) le = ap (λ l. pos 0 ∷ l) (zeros n k (omega arith))

filled : (text : List ℕ) (n k : ℕ) → length text ≤ n → n ≤ length text + k → take n (map pos text ++ replicate k (pos 0)) ≡ map pos text ++ replicate (n - length text) (pos 0)
filled [] n k l m = zeros n k (omega arith) ∙ ap (λ i. replicate i (pos 0)) (let e : n ≡ n - 0 = omega arith in e)
filled (c ∷ text) zero k l m = absurd (omega arith)
filled (c ∷ text) (suc n) k l m = ap (λ r. pos c ∷ r) (filled text n k (omega arith) (omega arith) ∙ ap (λ i. map pos text ++ replicate i (pos 0)) (let e : n - length text ≡ suc n - suc (length text) = omega arith in e))

text_is : (text : List ℕ) (n : ℕ) → length text ≤ n → text_words text n ≡ map pos text ++ replicate (n - length text) (pos 0)
text_is text n l = filled text n n l (omega arith)

-- the words of strings, one behind the other
abbrev all_words : List StringConst → List ℤ
all_words [] = []
all_words (s ∷ strings) = text_words s.text s.words ++ all_words strings

abbrev AreLong : List StringConst → Type 0
AreLong strings = AllByRecursion (λ s. length s.text ≤ s.words) strings

long_words : (strings : List StringConst) → AreLong strings → string_words strings ≡ all_words strings
long_words [] h = refl
long_words (s ∷ strings) h =
    let rest = replicate (s.words - length s.text) (pos 0) in
    ap (λ l. map pos s.text ++ (rest ++ l)) (long_words strings h.1) ∙ sym (append_assoc (map pos s.text) rest (all_words strings)) ∙ ap (λ l. l ++ all_words strings) (sym (text_is s.text s.words h.0))

-- THE STRINGS OF LINES

one_more : (strings : List StringConst) (s : StringConst) → all_words (strings ++ s ∷ []) ≡ all_words strings ++ text_words s.text s.words
one_more [] s = append-nil (text_words s.text s.words)
one_more (x ∷ strings) s = ap (λ l. text_words x.text x.words ++ l) (one_more strings s) ∙ sym (append_assoc (text_words x.text x.words) (all_words strings) (text_words s.text s.words))

operand_strings : (n : Named) (o : Operand) → all_words (with_operand n o).strings ≡ all_words n.strings ++ operand_words o
operand_strings n (Number z) = sym (append-nil (all_words n.strings))
operand_strings n (StringHere text k) = one_more n.strings (record { text = text; words = k })
operand_strings n (OtherVariable m x) = sym (append-nil (all_words n.strings))
operand_strings n (OtherProcedure m x) = sym (append-nil (all_words n.strings))
operand_strings n (OtherType own q) = sym (append-nil (all_words n.strings))

lines_strings : (n : Named) (ls : List Line) → all_words (with_lines n ls).strings ≡ all_words n.strings ++ lines_words ls
lines_strings n [] = sym (append-nil (all_words n.strings))
lines_strings n (l ∷ ls) =
    let x = operand_words l.a in
    let y = operand_words l.b in
    lines_strings (with_line n l) ls ∙ ap (λ w. w ++ lines_words ls) (operand_strings (with_operand n l.a) l.b ∙ ap (λ w. w ++ y) (operand_strings n l.a)) ∙ append_assoc (all_words n.strings ++ x) y (lines_words ls) ∙ append_assoc (all_words n.strings) x (y ++ lines_words ls)

-- WHAT A SPELLING KEEPS

fits_strings : (f : ObjFile) → file.fits f → AllByRecursion string.fits f.globals.strings
unfolding file globals list_of
fits_strings f fits = fits.0.1.0.0.1.0.1

long_string : (s : StringConst) → string.fits s → length s.text ≤ s.words
unfolding string
long_string s fits = omega (arith, fits.1)

each_long : (strings : List StringConst) → AllByRecursion string.fits strings → AreLong strings
each_long [] all = tt
each_long (s ∷ strings) all = (long_string s all.0, each_long strings all.1)

pub files_have : FilesHaveContents
files_have program b described fits =
    let long = each_long (file_of b).globals.strings (fits_strings (file_of b) fits) in
    record {
      variables = local_sum b.types program described b.unit.variables;
      strings = long_words (file_of b).globals.strings long ∙ lines_strings (nothing_named (own_words b.types b.unit)) (module_code b.types b.unit) ∙ module_words b.types b.unit program described;
      long = long;
      words = file_words b program described;
      short = (sound (file_of b) fits).few_instructions;
    }
