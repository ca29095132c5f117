-- The words of globals that files have, from an address on.
use Rattle.std.specs.Prelude.{ℕ, ◌+◌, ◌≤◌, List, [], ◌∷◌, ◌++◌, length, replicate, ℤ, pos}
use Rattle.std.specs.List.{AllByRecursion}
use Rattle.ob_mem.specs.Words.{with_words}
use Rattle.ob_obj.specs.declared.file.ObjFile.{ObjFile}
use Rattle.ob_obj.specs.Images.{global_words, string_words}

-- the words with the globals of files, one behind the other
abbrev pub words_from : ℕ → List ObjFile → List ℤ → List ℤ
words_from first [] words = words
words_from first (f ∷ files) words = words_from (first + global_words f) files (with_words words (pos first) (replicate f.globals.variable_words (pos 0) ++ string_words f.globals.strings))

-- each string has room for its characters, and the globals end before this address
pub record IsWithin (first : ℕ) (f : ObjFile) : Type 0 where
  pub long : AllByRecursion (λ s. length s.text ≤ s.words) f.globals.strings
  pub room : first + global_words f ≤ 262145

abbrev pub AreWithin : ℕ → List ObjFile → Type 0
AreWithin first [] = Unit {0}
AreWithin first (f ∷ files) = IsWithin first f × AreWithin (first + global_words f) files
