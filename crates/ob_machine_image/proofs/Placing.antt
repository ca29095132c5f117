-- The globals of the files of an image.
use Rattle.std.proofs.Common.{◌≡◌, ℕ, suc, ◌≤◌, Bool, true, false, List, [], ◌∷◌, ◌++◌, ◌-◌, length, take, drop, map, replicate, get_or, refl, ap, sym, ◌∙◌, arith, append_assoc}
use Rattle.std.specs.Prelude.{ℤ, pos, if◌then◌else◌}
use Rattle.std.proofs.Math.Seq.{take-length}
use Rattle.std.proofs.lemmas.List.{length-append, length-map, length-replicate}
use Rattle.ob_instr.specs.Image.{ModuleImage, Image}
use Rattle.ob_tdesc.specs.declared.descriptor.Descriptor.{Descriptor}
use Rattle.ob_obj.specs.declared.parts.StringConst.{StringConst}
use Rattle.ob_obj.specs.declared.file.ObjFile.{ObjFile}
use Rattle.ob_obj.specs.Images.{AreEnterable, entered, words_with, with_globals, string_words}
use Rattle.ob_machine_image.specs.Names.{name_of, names_in}
use Rattle.ob_machine_image.specs.Globals.{AreWithin, words_from}
use Rattle.ob_machine_image.specs.Cut.{has, types_of}
use Rattle.ob_machine_image.proofs.Fits.{long}

pub are_within : (img : Image) (files : List ObjFile) → img.room.globals ≡ 262144 → AreEnterable img files → AreWithin img.next files
are_within img [] e all = tt
are_within img (f ∷ files) e all = (record { long = long f all.0.fits; room = omega (arith, all.0.room) }, are_within (entered img f) files e all.1)

pub same_words : (img : Image) (files : List ObjFile) (words : List ℤ) → words_from img.next files words ≡ words_with img files words
same_words img [] words = refl
same_words img (f ∷ files) words = same_words (entered img f) files (with_globals img f words)

-- PARTS OF A LIST

pub parted : {A : Type 0} (rest : List A) (x : A) → x ≡ get_or rest 0 x → 1 ≤ length rest → rest ≡ x ∷ take (length rest - 1) (drop 1 rest)
parted [] x e le = absurd (omega arith)
parted (y ∷ rest) x e le =
    let n : length (y ∷ rest) - 1 ≡ length rest = omega arith in
    ap (λ z. z ∷ rest) (sym e) ∙ ap (λ l. x ∷ l) (sym (ap (λ k. take k rest) n ∙ take-length rest))

pub text_parted : (rest more : List ℕ) (x : ℕ) → rest ≡ x ∷ more → map pos rest ≡ (pos x ∷ []) ++ map pos more
text_parted rest more x e = ap (map pos) e

abbrev pub words_in : StringConst → List ℤ
words_in s = map pos s.text ++ replicate (s.words - length s.text) (pos 0)

pub length_words : (s : StringConst) → length s.text ≤ s.words → length (words_in s) ≡ s.words
length_words s le =
    let a = length-map s.text pos in
    let b = length-replicate (s.words - length s.text) (pos 0) in
    omega (arith, length-append (map pos s.text) (replicate (s.words - length s.text) (pos 0)))

pub strings_parted : (rest more : List StringConst) (s : StringConst) → rest ≡ s ∷ more → string_words rest ≡ words_in s ++ string_words more
strings_parted rest more s e = ap string_words e ∙ sym (append_assoc (map pos s.text) (replicate (s.words - length s.text) (pos 0)) (string_words more))

-- CUTTING

one_type : (modules : List ModuleImage) (d : Descriptor) (types : List Descriptor) (b : Bool) → take (names_in modules (map name_of types)) types ≡ types_of modules types → take (if b then suc (names_in modules (map name_of types)) else 0) (d ∷ types) ≡ (if b then d ∷ types_of modules types else [])
one_type modules d types true e = ap (λ l. d ∷ l) e
one_type modules d types false e = refl

pub types_taken : (modules : List ModuleImage) (types : List Descriptor) → take (names_in modules (map name_of types)) types ≡ types_of modules types
types_taken modules [] = refl
types_taken modules (d ∷ types) = one_type modules d types (has modules d.«module») (types_taken modules types)

less : (b : Bool) (n m : ℕ) → n ≤ m → (if b then suc n else 0) ≤ suc m
less true n m le = omega arith
less false n m le = omega arith

pub types_within : (modules : List ModuleImage) (types : List Descriptor) → names_in modules (map name_of types) ≤ length types
types_within modules [] = omega arith
types_within modules (d ∷ types) = less (has modules d.«module») (names_in modules (map name_of types)) (length types) (types_within modules types)
