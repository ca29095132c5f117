-- What is found in a kept object file is what the library has.
use Rattle.std.proofs.Common.{◌≡◌, ℕ, ◌<◌, ◌≤◌, List, length, true, false, cond, refl, sym, ap, ◌∙◌, subst, arith, Option, Some, None}
use Rattle.std.specs.Prelude.{nat_le, nat_lt}
use Rattle.std.proofs.lemmas.Bool.{leb-true}
use Rattle.ob_obj.specs.declared.file.ObjFile.{ObjFile}
use Rattle.ob_link.specs.Plan.{Entry, Missing, TooLong, Junk, Holds}
use Rattle.ob_link.specs.Files as objects
use Rattle.ob_link.specs.Files.{Files, most_bytes, decoded, decoded_as, object_entry, object_file_name}
use Rattle.ob_link.proofs.Decoded.{decoded_again}
use Rattle.ob_compile_model.specs.Compiling.{Compiled, texts, object_by, object_bytes}
use Rattle.ob_parse_grammar.specs.Identifiers.{is_identifier}
use Rattle.law_load_plan.specs.Alike.{entry_as}
use Rattle.ob_builds.specs.Builds.{Text, Build, IsValid, of, name_of, file_of}
use Rattle.ob_shell_model.specs.Library.{Library, IsLibrary, IsEntry, Kept, ObjectKept}
use Rattle.ob_builds.specs.Written.{BuildsAreWritten}
use Rattle.law_builds.proofs.Compiled.{comes, short}
use Rattle.law_builds.proofs.Faces.{of_is}
use Rattle.law_lists.proofs.Lists.{bytes_same}

longer : (n limit : ℕ) → limit < n → nat_lt limit n ≡ true
longer n limit h = grind (arith, h)

not_longer : (n limit : ℕ) → nat_le n limit ≡ true → nat_lt limit n ≡ false
not_longer n limit e = let h : n ≤ limit = leb-true n limit e in grind (arith, h)

-- the module of its object file is the module that a build shows
pub file_named : (b : Build) (c : Compiled Text) → IsValid b c → (object_by texts c).head.«module» ≡ name_of b
file_named b c v =
    subst (λ (x : Compiled Text). x.tree.name ≡ x.shows.«module») (sym (comes texts _ (Some b.source) c v.is).is) refl
    ∙ ap (λ (x : Compiled Text). x.shows.«module») (sym (of_is b c v))

entry_same : BuildsAreWritten → (m : List ℕ) (file : Option (List ℕ)) (e : Entry Build) → ObjectKept m file e → IsEntry m e → objects.entry_of m file ≡ entry_as file_of e
entry_same written m file Missing k i = ap (objects.entry_of m) k
entry_same written m None TooLong k i = absurd k
entry_same written m (Some bytes) TooLong k i = ap (λ t. cond t TooLong (decoded_as m (decoded bytes))) (longer (length bytes) most_bytes k)
entry_same written m None Junk k i = absurd k
entry_same written m (Some bytes) Junk k i = k.1
entry_same written m file (Holds b) k i =
    let c = i.0 in
    let o : of b ≡ c = of_is b c i.1 in
    let f : ObjFile = object_by texts c in
    let bytes = object_bytes texts c in
    let s : nat_le (length bytes) most_bytes ≡ true = (short texts c (comes texts _ (Some b.source) c i.1.is).limits).0 in
    ap (objects.entry_of m) (k ∙ ap (λ x. Some (object_bytes texts x)) o)
    ∙ ap (λ t. cond t TooLong (decoded_as m (decoded bytes))) (not_longer (length bytes) most_bytes s)
    ∙ ap (decoded_as m) (decoded_again bytes f (written b c i.1).object refl)
    ∙ ap (λ t. cond t (Holds f) Junk) (bytes_same f.head.«module» m (file_named b c i.1 ∙ i.2))
    ∙ ap (λ x. Holds (object_by texts x)) (sym o)

pub entries_same : BuildsAreWritten → (files : Files) (l : Library) → IsLibrary l → Kept files l → (m : List ℕ) → is_identifier m ≡ true → object_entry files m ≡ entry_as file_of (l.objects m)
entries_same written files l library k m is = entry_same written m (files (object_file_name m)) (l.objects m) (k.objects m is) (library.objects m)
