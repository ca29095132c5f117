-- What a walk finds for a name is the symbol file that is seen.
use Rattle.std.proofs.Common.{◌≡◌, ℕ, List, Bool, true, false, cond, length, refl, sym, ap, ◌∙◌, Option, Some, None}
use Rattle.std.specs.Prelude.{nat_le, bytes_eq}
use Rattle.std.proofs.lemmas.Bool.{false≢true}
use Rattle.ob_tree.specs.declared.print.Print.{Print}
use Rattle.ob_types.specs.declared.face.Interface.{Interface}
use Rattle.ob_format.specs.Format.{whole}
use Rattle.ob_sym.specs.Grammar.{face as face_form}
use Rattle.ob_env.specs.Faces.{Face, face_of}
use Rattle.ob_env_walk.specs.Walk.{Entry, Missing, Junk, Holds, symbol_entry, named_face, entry_from, file_limit, symbol_name}
use Rattle.ob_cmp.specs.Check.{Present, NotThere, TooLong, Refused, There, within, symbols_of, face_found}
use Rattle.ob_link.specs.Files.{Files}
use Rattle.law_lists.proofs.Lists.{same_bytes}

abbrev held_or : Face Print → Entry Print → Face Print
held_or d Missing = d
held_or d Junk = d
held_or d (Holds f) = f

abbrev is_held : Entry Print → Bool
is_held Missing = false
is_held Junk = false
is_held (Holds f) = true

abbrev pub held : Present (Face Print) → Entry Print
held NotThere = Missing
held TooLong = Junk
held Refused = Junk
held (There f) = Holds f

pub held_same : (files : Files) (n : List ℕ) → symbol_entry files n ≡ held (symbols_of files n)
unfolding symbol_entry symbols_of
held_same files n = go (files (symbol_name n))
  where
    by_name : (i : Interface) (b : Bool) → cond b (Holds (face_of i)) Junk ≡ held (cond b (There (face_of i)) Refused)
    by_name i true = refl
    by_name i false = refl

    by_form : (o : Option Interface) → named_face n o ≡ held (face_found n o)
    by_form None = refl
    by_form (Some i) = by_name i (bytes_eq n i.«module»)

    by_length : (b : Bool) (bytes : List ℕ) → cond b (named_face n (whole face_form bytes)) Junk ≡ held (cond b (face_found n (whole face_form bytes)) TooLong)
    by_length true bytes = by_form (whole face_form bytes)
    by_length false bytes = refl

    go : (o : Option (List ℕ)) → entry_from n o ≡ held (within (λ bytes. face_found n (whole face_form bytes)) o)
    go None = refl
    go (Some bytes) = by_length (nat_le (length bytes) file_limit) bytes

there_by : (p : Present (Face Print)) (f : Face Print) → held p ≡ Holds f → p ≡ There f
there_by NotThere f e = absurd (false≢true (ap is_held e))
there_by TooLong f e = absurd (false≢true (ap is_held e))
there_by Refused f e = absurd (false≢true (ap is_held e))
there_by (There g) f e = ap (λ (y : Face Print). There y) (ap (held_or g) e)

pub found_there : (files : Files) (n : List ℕ) (f : Face Print) → symbol_entry files n ≡ Holds f → symbols_of files n ≡ There f
found_there files n f e = there_by (symbols_of files n) f (sym (held_same files n) ∙ e)

-- an interface is found under its own name
pub entry_named : (files : Files) (n : List ℕ) (f : Face Print) → symbol_entry files n ≡ Holds f → f.«module» ≡ n
unfolding symbol_entry
entry_named files n f e = go (files (symbol_name n)) e
  where
    by_name : (i : Interface) (b : Bool) → bytes_eq n i.«module» ≡ b → cond b (Holds (face_of i)) Junk ≡ Holds f → f.«module» ≡ n
    by_name i true k e = ap (λ (g : Face Print). g.«module») (sym (ap (held_or f) e)) ∙ sym (same_bytes n i.«module» k)
    by_name i false k e = absurd (false≢true (ap is_held e))

    by_form : (o : Option Interface) → named_face n o ≡ Holds f → f.«module» ≡ n
    by_form None e = absurd (false≢true (ap is_held e))
    by_form (Some i) e = by_name i (bytes_eq n i.«module») refl e

    by_length : (b : Bool) (bytes : List ℕ) → cond b (named_face n (whole face_form bytes)) Junk ≡ Holds f → f.«module» ≡ n
    by_length true bytes e = by_form (whole face_form bytes) e
    by_length false bytes e = absurd (false≢true (ap is_held e))

    go : (o : Option (List ℕ)) → entry_from n o ≡ Holds f → f.«module» ≡ n
    go None e = absurd (false≢true (ap is_held e))
    go (Some bytes) e = by_length (nat_le (length bytes) file_limit) bytes e
