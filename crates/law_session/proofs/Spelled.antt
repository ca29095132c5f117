-- The names in an interface that a symbol file can hold.
use Rattle.std.proofs.Common.{◌≡◌, ℕ, suc, ◌≤◌, Bool, true, false, List, [], ◌∷◌, length, refl, arith}
use Rattle.std.specs.Prelude.{◌&&◌, ◌||◌, map, nat_le, nat_lt}
use Rattle.std.specs.Int.{is_in_range}
use Rattle.std.specs.List.{list_all, AllByRecursion}
use Rattle.std.specs.Char.{is_ascii_alphanumeric}
use Rattle.std.proofs.lemmas.Bool.{and_parts, leb-true}
use Rattle.ob_tree.specs.declared.print.Print.{Print}
use Rattle.ob_types.specs.declared.face.Use.{Use}
use Rattle.ob_types.specs.Spelled.{use_form}
use Rattle.ob_format.specs.Format.{list_of}
use Rattle.ob_format.specs.Names.{name as name_form, qname as qname_form, is_identifier as is_name}
use Rattle.ob_fprint.specs.Print.{print_from}
use Rattle.ob_sym.specs.Grammar.{face as face_form, head as head_form, body as body_form}
use Rattle.ob_env.specs.Faces.{Face, Wanted, use_of}
use Rattle.ob_parse_grammar.specs.Identifiers.{is_letter_or_digit, is_identifier}
use Rattle.ob_builds.specs.Builds.{Text, IsSpelled}

abbrev pub AreIdentifiers : List (List ℕ) → Type 0
AreIdentifiers ms = AllByRecursion (λ m. is_identifier m ≡ true) ms

turned : (a b c : Bool) → (a || b) || c ≡ true → (b || c) || a ≡ true
turned true true c e = refl
turned true false true e = refl
turned true false false e = refl
turned false true c e = refl
turned false false true e = refl
turned false false false e = e

both_true : (a b : Bool) → a ≡ true → b ≡ true → a && b ≡ true
both_true true b e f = f
both_true false b e f = e

letters : (cs : List ℕ) → list_all is_ascii_alphanumeric cs ≡ true → list_all is_letter_or_digit cs ≡ true
letters [] e = refl
letters (c ∷ cs) e =
    let p = and_parts (is_ascii_alphanumeric c) (list_all is_ascii_alphanumeric cs) e in
    both_true (is_letter_or_digit c) (list_all is_letter_or_digit cs) (turned (is_in_range 48 57 c) (is_in_range 65 90 c) (is_in_range 97 122 c) p.0) (letters cs p.1)

-- an identifier of a file is one of a line
identifier : (t : List ℕ) → is_name t ≡ true → is_identifier t ≡ true
identifier [] e = e
identifier (c ∷ cs) e =
    let p = and_parts _ (nat_le (suc (length cs)) 64) e in
    let q = and_parts _ (list_all is_ascii_alphanumeric cs) p.0 in
    let n : suc (length cs) ≤ 64 = leb-true (suc (length cs)) 64 p.1 in
    let m : nat_lt (length cs) 64 ≡ true = grind (arith, n) in
    both_true _ _ q.0 (both_true _ _ (letters cs q.1) m)

name_fits : (t : List ℕ) → name_form.fits t → is_identifier t ≡ true
unfolding name_form
name_fits t h = identifier t h.1

names_fit : (ts : List (List ℕ)) → AllByRecursion name_form.fits ts → AreIdentifiers ts
names_fit [] all = tt
names_fit (t ∷ ts) all = (name_fits t all.0, names_fit ts all.1)

abbrev as_print : Wanted Text → Wanted Print
as_print w = record { object = w.object; aspect = w.aspect; kept = print_from w.kept }

use_fits : (u : Use) → use_form.fits u → is_identifier u.object.«module» ≡ true
unfolding use_form qname_form
use_fits u h = name_fits u.object.«module» h.0.0

uses_fit : (us : List (Wanted Text)) → AllByRecursion use_form.fits (map use_of (map as_print us)) → AllByRecursion (λ u. is_identifier u.object.«module» ≡ true) us
uses_fit [] all = tt
uses_fit (u ∷ us) all = (use_fits (use_of (as_print u)) all.0, uses_fit us all.1)

-- the module, the imports and the modules of the uses are named by identifiers
pub module_named : (f : Face Text) → IsSpelled f → is_identifier f.«module» ≡ true
unfolding face_form head_form
module_named f h = name_fits f.«module» h.0.0.0

pub imports_named : (f : Face Text) → IsSpelled f → AreIdentifiers f.imports
unfolding face_form head_form list_of
imports_named f h = names_fit f.imports h.0.0.1.0.1

pub uses_named : (f : Face Text) → IsSpelled f → AllByRecursion (λ u. is_identifier u.object.«module» ≡ true) f.uses
unfolding face_form body_form list_of
uses_named f h = uses_fit f.uses h.0.1.1.0.1
