-- What is written in files where each symbol file that is read has a spelling.
use Rattle.std.proofs.Common.{◌≡◌, ℕ, List, [], ◌∷◌, Bool, true, false, cond, length, refl, sym, ap, ◌∙◌, subst, Option, Some, None, Ok}
use Rattle.std.specs.Prelude.{nat_le, bytes_eq, map as each}
use Rattle.std.specs.Option.{option_map}
use Rattle.std.specs.List.{AllByRecursion}
use Rattle.std.proofs.lemmas.Bool.{false≢true}
use Rattle.ob_tree.specs.declared.print.Print.{Print}
use Rattle.ob_types.specs.declared.face.Object.{Object}
use Rattle.ob_types.specs.declared.face.Use.{Use}
use Rattle.ob_types.specs.declared.face.Interface.{Interface}
use Rattle.ob_format.specs.Format.{IsBytes, list_of, whole}
use Rattle.ob_format.specs.Exact.{whole_found, whole_again}
use Rattle.ob_desc.specs.Grammar.{layout_text}
use Rattle.ob_fprint.specs.Print.{print_from}
use Rattle.ob_obj.specs.Grammar.{file as object_form}
use Rattle.ob_obj.specs.Laws.{file_exact}
use Rattle.ob_sym.specs.Grammar as sym_grammar
use Rattle.ob_sym.specs.Grammar.{face as face_form, body, object_in, IsObjectOf}
use Rattle.ob_sym.specs.Laws.{face_exact}
use Rattle.ob_env.specs.Faces.{Face, face_of, interface_of, object_of, use_of, wanted_of}
use Rattle.ob_env_walk.specs.Walk.{Entry, Missing, Junk, Holds, symbol_entry, named_face, entry_from, file_limit, symbol_name}
use Rattle.ob_link.specs.Files.{Files}
use Rattle.ob_compile_model.specs.Compiling.{Compiled, compiled, prints, object_by, interface_by}
use Rattle.law_builds.proofs.Compiled.{some_source}
use Rattle.law_make.specs.UpToDate.{AreBytes}
use Rattle.law_make.proofs.From.{is_compiled}
use Rattle.law_make.proofs.Bare.{has_spelling}
use Rattle.law_make.proofs.Entries.{entry_named}
use Rattle.law_make.proofs.Does.{IsReadAgain}

-- each symbol file that is read has a spelling
abbrev pub AreSpelled : Files → Type 0
AreSpelled files = (n : List ℕ) (f : Face Print) → symbol_entry files n ≡ Holds f → face_form.fits (interface_of f)

-- ---- an interface that was read is that of its file

objects_again : (m : List ℕ) (os : List Object) → AllByRecursion (IsObjectOf m) os → each (object_of m) (each (λ o. (o.name, o.desc)) os) ≡ os
objects_again m [] h = refl
objects_again m (o ∷ os) h =
    let l : Option Print = option_map print_from (layout_text (sym_grammar.object_of m o.name) o.desc) in
    ap (λ (s : Print). (let x : Object = record { name = o.name; desc = o.desc; shape = s; layout = l } in x) ∷ each (object_of m) (each (λ o. (o.name, o.desc)) os)) (sym h.0.shape)
    ∙ ap (λ (l : Option Print). (let x : Object = record { name = o.name; desc = o.desc; shape = o.shape; layout = l } in x) ∷ each (object_of m) (each (λ o. (o.name, o.desc)) os)) (sym h.0.layout)
    ∙ ap (λ (r : List Object). o ∷ r) (objects_again m os h.1)

uses_again : (us : List Use) → each use_of (each wanted_of us) ≡ us
uses_again [] = refl
uses_again (u ∷ us) = ap (λ (r : List Use). u ∷ r) (uses_again us)

all_objects : (i : Interface) → face_form.fits i → AllByRecursion (IsObjectOf i.«module») i.objects
unfolding face_form body object_in list_of
all_objects i h = h.0.1.0.0.1

interface_again : (i : Interface) → face_form.fits i → interface_of (face_of i) ≡ i
interface_again i h =
    ap (λ (os : List Object). (let x : Interface = record { «module» = i.«module»; imports = i.imports; objects = os; uses = each use_of (each wanted_of i.uses) } in x)) (objects_again i.«module» i.objects (all_objects i h))
    ∙ ap (λ (us : List Use). (let x : Interface = record { «module» = i.«module»; imports = i.imports; objects = i.objects; uses = us } in x)) (uses_again i.uses)

-- ---- files of bytes

abbrev face_or : Face Print → Entry Print → Face Print
face_or d Missing = d
face_or d Junk = d
face_or d (Holds f) = f

abbrev is_held : Entry Print → Bool
is_held Missing = false
is_held Junk = false
is_held (Holds f) = true

pub bytes_spelled : (files : Files) → AreBytes files → AreSpelled files
unfolding symbol_entry
bytes_spelled files bytes n f e = go (files (symbol_name n)) refl e
  where
    by_name : (i : Interface) → face_form.fits i → (b : Bool) → cond b (Holds (face_of i)) Junk ≡ Holds f → face_form.fits (interface_of f)
    by_name i h true e = subst (λ (g : Face Print). face_form.fits (interface_of g)) (ap (face_or f) e) (subst face_form.fits (sym (interface_again i h)) h)
    by_name i h false e = absurd (false≢true (ap is_held e))

    by_form : (text : List ℕ) → IsBytes text → (o : Option Interface) → whole face_form text ≡ o → named_face n o ≡ Holds f → face_form.fits (interface_of f)
    by_form text b None i e = absurd (false≢true (ap is_held e))
    by_form text b (Some j) i e = by_name j (whole_found face_form face_exact text j b i).0 (bytes_eq n j.«module») e

    by_length : (text : List ℕ) → IsBytes text → (t : Bool) → cond t (named_face n (whole face_form text)) Junk ≡ Holds f → face_form.fits (interface_of f)
    by_length text b true e = by_form text b (whole face_form text) refl e
    by_length text b false e = absurd (false≢true (ap is_held e))

    go : (o : Option (List ℕ)) → files (symbol_name n) ≡ o → entry_from n o ≡ Holds f → face_form.fits (interface_of f)
    go None i e = absurd (false≢true (ap is_held e))
    go (Some text) i e = by_length text (bytes (symbol_name n) text i) (nat_le (length text) file_limit) e

-- ---- what is written

pub record IsWritten (c : Compiled Print) : Type 0 where
  pub again : IsReadAgain c
  pub symbols : face_form.fits (interface_by prints c)

pub written : (files : Files) → AreSpelled files → (source : Option (List ℕ)) (c : Compiled Print) → compiled prints (symbol_entry files) source ≡ Ok c → IsWritten c
written files spelled source c e =
    let s = some_source prints (symbol_entry files) source c e in
    let k = is_compiled prints (symbol_entry files) s.0 c (ap (compiled prints (symbol_entry files)) (sym s.1) ∙ e) in
    let f = has_spelling (symbol_entry files) (entry_named files) spelled s.0 c k in
    record { again = (whole_again object_form file_exact (object_by prints c) f.0, whole_again face_form face_exact (interface_by prints c) f.1); symbols = f.1 }
