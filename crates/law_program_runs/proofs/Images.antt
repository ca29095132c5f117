-- The image of files in its parts, and the words of their globals.
use Rattle.std.proofs.Common.{◌≡◌, ℕ, suc, ◌+◌, ◌-◌, ◌<◌, ◌≤◌, List, [], ◌∷◌, ◌++◌, length, take, drop, map, ℤ, pos, Some, Bool, true, false, refl, ap, sym, ◌∙◌, arith, append_assoc, length-append}
use Rattle.std.proofs.lemmas.List.{append-nil, length-take-le, length-replicate, length-drop, take-append-drop, drop-drop}
use Rattle.std.specs.Prelude.{slice_get, replicate, bytes_eq, ◌&&◌, if◌then◌else◌}
use Rattle.std.specs.List.{AllByRecursion}
use Rattle.ob_tree.specs.declared.names.QName.{QName}
use Rattle.ob_tdesc.specs.declared.descriptor.Descriptor.{Descriptor}
use Rattle.ob_instr.specs.Image.{ModuleImage, Image}
use Rattle.ob_obj.specs.declared.parts.RecordType.{RecordType}
use Rattle.ob_obj.specs.declared.parts.StringConst.{StringConst}
use Rattle.ob_obj.specs.declared.file.ObjFile.{ObjFile}
use Rattle.ob_obj.specs.Grammar.{words_of}
use Rattle.ob_obj.specs.Images.{type_links, descriptor_of, with_types, module_of, global_words, entered, image_of, string_words, with_globals, words_with}
use Rattle.ob_types.specs.TypedSyntax.{Module}
use Rattle.ob_machine.specs.Machine.{name_of}
use Rattle.law_simulation_relation.specs.Layout.{module_number, type_number}
use Rattle.law_simulation_relation.proofs.Names.{bytes_true}
use Rattle.law_simulation_relation.proofs.Copies.{put_seam}

-- PARTS

abbrev pub new_modules : Image → List ObjFile → List ModuleImage
new_modules img [] = []
new_modules img (f ∷ fs) = module_of img f ∷ new_modules (entered img f) fs

pub modules_are : (img : Image) (fs : List ObjFile) → (image_of img fs).modules ≡ img.modules ++ new_modules img fs
modules_are img [] = sym (append-nil img.modules)
modules_are img (f ∷ fs) = modules_are (entered img f) fs ∙ append_assoc img.modules (module_of img f ∷ []) (new_modules (entered img f) fs)

pub new_length : (img : Image) (fs : List ObjFile) → length (new_modules img fs) ≡ length fs
new_length img [] = refl
new_length img (f ∷ fs) = ap suc (new_length (entered img f) fs)

abbrev new_own : List ℕ → ℕ → List ℕ → ℕ → List Descriptor → List RecordType → List Descriptor
new_own name first links m types [] = []
new_own name first links m types (t ∷ own) = descriptor_of name first links types m t ∷ new_own name first links m (types ++ descriptor_of name first links types m t ∷ []) own

own_are : (name : List ℕ) (first : ℕ) (links : List ℕ) (m : ℕ) (types : List Descriptor) (own : List RecordType) → with_types name first links m types own ≡ types ++ new_own name first links m types own
own_are name first links m types [] = sym (append-nil types)
own_are name first links m types (t ∷ own) =
    let d = descriptor_of name first links types m t in
    own_are name first links m (types ++ d ∷ []) own ∙ append_assoc types (d ∷ []) (new_own name first links m (types ++ d ∷ []) own)

abbrev own_types : Image → ObjFile → List Descriptor
own_types img f = new_own f.head.«module» (length img.types) (type_links img f) (length img.modules) img.types f.body.types

abbrev pub new_types : Image → List ObjFile → List Descriptor
new_types img [] = []
new_types img (f ∷ fs) = own_types img f ++ new_types (entered img f) fs

pub types_are : (img : Image) (fs : List ObjFile) → (image_of img fs).types ≡ img.types ++ new_types img fs
types_are img [] = sym (append-nil img.types)
types_are img (f ∷ fs) =
    types_are (entered img f) fs
    ∙ ap (λ l. l ++ new_types (entered img f) fs) (own_are f.head.«module» (length img.types) (type_links img f) (length img.modules) img.types f.body.types)
    ∙ append_assoc img.types (own_types img f) (new_types (entered img f) fs)

pub room_is : (img : Image) (fs : List ObjFile) → (image_of img fs).room ≡ img.room
room_is img [] = refl
room_is img (f ∷ fs) = room_is (entered img f) fs

pub image_both : (fs gs : List ObjFile) (img : Image) → image_of img (fs ++ gs) ≡ image_of (image_of img fs) gs
image_both [] gs img = refl
image_both (f ∷ fs) gs img = image_both fs gs (entered img f)

abbrev pub all_words : List ObjFile → ℕ
all_words [] = 0
all_words (f ∷ fs) = global_words f + all_words fs

pub next_is : (img : Image) (fs : List ObjFile) → (image_of img fs).next ≡ img.next + all_words fs
next_is img [] = omega arith
next_is img (f ∷ fs) = next_is (entered img f) fs ∙ omega arith

-- NUMBERS

-- a type that is found among the first types has the same number among all
pub same_number : (types more : List Descriptor) (q : QName) (d : Descriptor) → slice_get types (type_number types q) ≡ Some d → type_number (types ++ more) q ≡ type_number types q
same_number [] more q d e = absurd (cc)
same_number (t ∷ types) more q d e = go (bytes_eq q.«module» t.«module» && bytes_eq q.object t.name) e (λ f. same_number types more q d f)
  where
    go : (b : Bool) → slice_get (t ∷ types) (if b then 0 else suc (type_number types q)) ≡ Some d → (slice_get types (type_number types q) ≡ Some d → type_number (types ++ more) q ≡ type_number types q) → (if b then 0 else suc (type_number (types ++ more) q)) ≡ (if b then 0 else suc (type_number types q))
    go true e rest = refl
    go false e rest = ap suc (rest e)

-- the first modules have these names
abbrev pub AreNamed : List Module → List ModuleImage → Type 0
AreNamed [] us = Unit {0}
AreNamed (m ∷ ms) [] = ⊥
AreNamed (m ∷ ms) (u ∷ us) = (u.name ≡ m.name) × AreNamed ms us

pub name_at : (ms : List Module) (us : List ModuleImage) (x : List ℕ) → AreNamed ms us → module_number ms x < length ms → name_of (slice_get us (module_number ms x)) ≡ x
name_at [] us x named lt = absurd (omega (arith, lt))
name_at (m ∷ ms) [] x named lt = absurd named
name_at (m ∷ ms) (u ∷ us) x named lt = go (bytes_eq x m.name) refl lt (λ l. name_at ms us x named.1 l)
  where
    go : (b : Bool) → bytes_eq x m.name ≡ b → (if b then 0 else suc (module_number ms x)) < suc (length ms) → (module_number ms x < length ms → name_of (slice_get us (module_number ms x)) ≡ x) → name_of (slice_get (u ∷ us) (if b then 0 else suc (module_number ms x))) ≡ x
    go true e l rest = named.0 ∙ sym (bytes_true x m.name e)
    go false e l rest = rest (omega (arith, l))

-- WORDS

abbrev pub own_words : ObjFile → List ℤ
own_words f = replicate f.globals.variable_words (pos 0) ++ string_words f.globals.strings

abbrev pub globals_of : List ObjFile → List ℤ
globals_of [] = []
globals_of (f ∷ fs) = own_words f ++ globals_of fs

length_map : (text : List ℕ) → length (map pos text) ≡ length text
length_map [] = refl
length_map (c ∷ text) = ap suc (length_map text)

pub strings_length : (ss : List StringConst) → AllByRecursion (λ s. length s.text ≤ s.words) ss → length (string_words ss) ≡ words_of ss
strings_length [] h = refl
strings_length (s ∷ ss) h =
    let pad = replicate (s.words - length s.text) (pos 0) in
    let rest = strings_length ss h.1 in
    let a = length-append (map pos s.text) (pad ++ string_words ss) in
    let b = length-append pad (string_words ss) in
    let p = length-replicate (s.words - length s.text) (pos 0) in
    let m = length_map s.text in
    let le = h.0 in
    omega (arith, a, b, p, m, rest, le)

abbrev pub IsFull : ObjFile → Type 0
IsFull f = AllByRecursion (λ s. length s.text ≤ s.words) f.globals.strings

pub own_length : (f : ObjFile) → IsFull f → length (own_words f) ≡ global_words f
own_length f h =
    let s = strings_length f.globals.strings h in
    let r = length-replicate f.globals.variable_words (pos 0) in
    length-append (replicate f.globals.variable_words (pos 0)) (string_words f.globals.strings) ∙ omega (arith, s, r)

pub globals_length : (fs : List ObjFile) → AllByRecursion IsFull fs → length (globals_of fs) ≡ all_words fs
globals_length [] h = refl
globals_length (f ∷ fs) h = let a = own_length f h.0 in let b = globals_length fs h.1 in length-append (own_words f) (globals_of fs) ∙ omega (arith, a, b)

-- the globals of new files stand behind those of the modules that are there
pub words_are : (fs : List ObjFile) (img : Image) (A B C : List ℤ) → img.next ≡ suc (length A) → AllByRecursion IsFull fs → all_words fs ≤ length B → words_with img fs (A ++ (B ++ C)) ≡ A ++ ((globals_of fs ++ drop (all_words fs) B) ++ C)
words_are [] img A B C next full le = refl
words_are (f ∷ fs) img A B C next full le =
    let xs = own_words f in
    let k = global_words f in
    let len : length xs ≡ k = own_length f full.0 in
    let part = take k B in
    let back = drop k B in
    let split : B ≡ part ++ back = sym (take-append-drop k B) in
    let part_length : length part ≡ k = length-take-le k B (omega (arith, le)) in
    let there : A ++ (B ++ C) ≡ A ++ (part ++ (back ++ C)) = ap (λ l. A ++ (l ++ C)) split ∙ ap (λ l. A ++ l) (append_assoc part back C) in
    let one : with_globals img f (A ++ (B ++ C)) ≡ A ++ (xs ++ (back ++ C)) = put_seam (A ++ (B ++ C)) A part (back ++ C) xs (img.next - 1) k there (omega (arith, next)) part_length len in
    let two : A ++ (xs ++ (back ++ C)) ≡ (A ++ xs) ++ (back ++ C) = sym (append_assoc A xs (back ++ C)) in
    let al = length-append A xs in
    let bl = length-drop k B in
    let rest = words_are fs (entered img f) (A ++ xs) back C (omega (arith, next, al, len)) full.1 (omega (arith, bl, le)) in
    ap (words_with (entered img f) fs) (one ∙ two) ∙ rest
    ∙ append_assoc A xs ((globals_of fs ++ drop (all_words fs) back) ++ C)
    ∙ ap (λ l. A ++ l) (sym (append_assoc xs (globals_of fs ++ drop (all_words fs) back) C))
    ∙ ap (λ l. A ++ (l ++ C)) (sym (append_assoc xs (globals_of fs) (drop (all_words fs) back)))
    ∙ ap (λ l. A ++ (((xs ++ globals_of fs) ++ l) ++ C)) (drop-drop (all_words fs) k B)
