-- What is seen in files where the two files of a module are replaced.
use Rattle.std.proofs.Common.{◌≡◌, ℕ, List, [], ◌∷◌, ◌++◌, true, false, cond, length, refl, sym, ap, ◌∙◌, codes, arith, Some}
use Rattle.std.specs.Prelude.{bytes_eq, nat_le}
use Rattle.std.proofs.lemmas.Bool.{false≢true}
use Rattle.std.proofs.lemmas.List.{append_cancel_right}
use Rattle.ob_format.specs.Format.{whole}
use Rattle.ob_io.specs.Io.{put}
use Rattle.ob_obj.specs.Grammar.{file as object_form}
use Rattle.ob_obj.specs.declared.file.ObjFile.{ObjFile}
use Rattle.ob_sym.specs.Grammar.{face as face_form}
use Rattle.ob_types.specs.declared.face.Interface.{Interface}
use Rattle.ob_env.specs.Faces.{face_of}
use Rattle.ob_env_walk.specs.Walk.{file_limit, symbol_name}
use Rattle.ob_cmp.specs.Check.{TooLong, Refused, There, within, symbols_of, face_found, object_name}
use Rattle.ob_link.specs.Files.{Files}
use Rattle.ob_make.specs.Folder.{source_name, has_in, has_found, has_of, source_of, seen_in}
use Rattle.law_lists.proofs.Lists.{bytes_itself, bytes_same, same_bytes, false_if_not}

-- ---- names of files

abbrev last_of : List ℕ → ℕ
last_of [] = 0
last_of (x ∷ []) = x
last_of (x ∷ y ∷ ys) = last_of (y ∷ ys)

last_is : (xs : List ℕ) (a b c d : ℕ) → last_of (xs ++ (a ∷ b ∷ c ∷ d ∷ [])) ≡ d
last_is [] a b c d = refl
last_is (x ∷ []) a b c d = refl
last_is (x ∷ y ∷ xs) a b c d = last_is (y ∷ xs) a b c d

symbol_object : (m n : List ℕ) → bytes_eq (symbol_name m) (object_name n) ≡ false
symbol_object m n = false_if_not (bytes_eq (symbol_name m) (object_name n)) (λ e. let x : 109 ≡ 106 = sym (last_is m 46 83 121 109) ∙ ap last_of (same_bytes (symbol_name m) (object_name n) e) ∙ last_is n 46 79 98 106 in omega (arith, x))

object_symbol : (m n : List ℕ) → bytes_eq (object_name m) (symbol_name n) ≡ false
object_symbol m n = false_if_not (bytes_eq (object_name m) (symbol_name n)) (λ e. let x : 106 ≡ 109 = sym (last_is m 46 79 98 106) ∙ ap last_of (same_bytes (object_name m) (symbol_name n) e) ∙ last_is n 46 83 121 109 in omega (arith, x))

symbol_source : (m n : List ℕ) → bytes_eq (symbol_name m) (source_name n) ≡ false
symbol_source m n = false_if_not (bytes_eq (symbol_name m) (source_name n)) (λ e. let x : 109 ≡ 100 = sym (last_is m 46 83 121 109) ∙ ap last_of (same_bytes (symbol_name m) (source_name n) e) ∙ last_is n 46 77 111 100 in omega (arith, x))

object_source : (m n : List ℕ) → bytes_eq (object_name m) (source_name n) ≡ false
object_source m n = false_if_not (bytes_eq (object_name m) (source_name n)) (λ e. let x : 106 ≡ 100 = sym (last_is m 46 79 98 106) ∙ ap last_of (same_bytes (object_name m) (source_name n) e) ∙ last_is n 46 77 111 100 in omega (arith, x))

apart : (ending m n : List ℕ) → bytes_eq n m ≡ false → bytes_eq (m ++ ending) (n ++ ending) ≡ false
apart ending m n h = false_if_not (bytes_eq (m ++ ending) (n ++ ending)) (λ e. false≢true (sym h ∙ bytes_same n m (sym (append_cancel_right m n ending (same_bytes (m ++ ending) (n ++ ending) e)))))

put_here : (files : Files) (name bytes : List ℕ) → put files name bytes name ≡ Some bytes
put_here files name bytes = ap (λ t. cond t (Some bytes) (files name)) (bytes_itself name)

put_there : (files : Files) (name bytes other : List ℕ) → bytes_eq name other ≡ false → put files name bytes other ≡ files other
put_there files name bytes other h = ap (λ t. cond t (Some bytes) (files other)) h

-- ---- the files of a module

module _ (files : Files) (m object symbols : List ℕ) where
  abbrev pub two : Files
  two = put (put files (object_name m) object) (symbol_name m) symbols

  pub source_stays : (n : List ℕ) → (seen_in two).source n ≡ (seen_in files).source n
  source_stays n = ap (source_of n) (put_there (put files (object_name m) object) (symbol_name m) symbols (source_name n) (symbol_source m n) ∙ put_there files (object_name m) object (source_name n) (object_source m n))

  pub object_stays : (n : List ℕ) → bytes_eq n m ≡ false → (seen_in two).object n ≡ (seen_in files).object n
  unfolding has_of
  object_stays n h = ap (within (λ bytes. has_found n (whole object_form bytes))) (put_there (put files (object_name m) object) (symbol_name m) symbols (object_name n) (symbol_object m n) ∙ put_there files (object_name m) object (object_name n) (apart (codes ".Obj") m n h))

  pub symbols_stay : (n : List ℕ) → bytes_eq n m ≡ false → (seen_in two).symbols n ≡ (seen_in files).symbols n
  unfolding symbols_of
  symbols_stay n h = ap (within (λ bytes. face_found n (whole face_form bytes))) (put_there (put files (object_name m) object) (symbol_name m) symbols (symbol_name n) (apart (codes ".Sym") m n h) ∙ put_there files (object_name m) object (symbol_name n) (object_symbol m n))

  pub object_is : (f : ObjFile) → nat_le (length object) file_limit ≡ true → whole object_form object ≡ Some f → m ≡ f.head.«module» → (seen_in two).object m ≡ There (has_in f)
  unfolding has_of
  object_is f s r n =
      ap (within (λ bytes. has_found m (whole object_form bytes))) (put_there (put files (object_name m) object) (symbol_name m) symbols (object_name m) (symbol_object m m) ∙ put_here files (object_name m) object)
      ∙ ap (λ t. cond t (has_found m (whole object_form object)) TooLong) s
      ∙ ap (has_found m) r
      ∙ ap (λ t. cond t (There (has_in f)) Refused) (bytes_same m f.head.«module» n)

  pub symbols_are : (i : Interface) → nat_le (length symbols) file_limit ≡ true → whole face_form symbols ≡ Some i → m ≡ i.«module» → (seen_in two).symbols m ≡ There (face_of i)
  unfolding symbols_of
  symbols_are i s r n =
      ap (within (λ bytes. face_found m (whole face_form bytes))) (put_here (put files (object_name m) object) (symbol_name m) symbols)
      ∙ ap (λ t. cond t (face_found m (whole face_form symbols)) TooLong) s
      ∙ ap (face_found m) r
      ∙ ap (λ t. cond t (There (face_of i)) Refused) (bytes_same m i.«module» n)
