-- What is found in a kept symbol file is what the library has, with prints for texts.
use Rattle.std.proofs.Common.{◌≡◌, ℕ, suc, ◌≤◌, Bool, true, false, cond, List, [], ◌∷◌, length, Option, Some, None, refl, sym, ap, ◌∙◌, subst, arith}
use Rattle.std.specs.Prelude.{◌&&◌, ◌||◌, nat_le, nat_lt}
use Rattle.std.specs.Int.{is_in_range}
use Rattle.std.specs.List.{list_all, AllByRecursion}
use Rattle.std.specs.Char.{is_ascii_alphanumeric}
use Rattle.std.proofs.lemmas.Bool.{and_parts, leb-true}
use Rattle.ob_tree.specs.declared.print.Print.{Print}
use Rattle.ob_types.specs.declared.face.Interface.{Interface}
use Rattle.ob_format.specs.Format.{whole, list_of}
use Rattle.ob_format.specs.Names.{name as name_form, is_identifier as is_name}
use Rattle.ob_sym.specs.Grammar.{face as face_form, head as head_form}
use Rattle.ob_env.specs.Faces.{Face, face_of, interface_of, printed}
use Rattle.ob_env_walk.specs.Walk as walk
use Rattle.ob_env_walk.specs.Walk.{file_limit, entry_from, named_face, symbol_name, symbol_entry}
use Rattle.ob_link.specs.Plan.{Entry, Missing, TooLong, Junk, Holds}
use Rattle.ob_link.specs.Files.{Files}
use Rattle.ob_compile_model.specs.Compiling.{Compiled, texts, interface_by}
use Rattle.ob_parse_grammar.specs.Identifiers.{is_letter_or_digit, is_identifier}
use Rattle.law_prints.specs.Printed.{Text, entry_printed}
use Rattle.ob_builds.specs.Builds.{Build, IsValid, shows_of, name_of, symbols_of}
use Rattle.ob_shell_model.specs.Library.{Library, IsLibrary, IsEntry, Kept, SymbolKept}
use Rattle.ob_shell_model.specs.Model.{face_entry, interface_in}
use Rattle.ob_builds.specs.Written.{IsWritten, BuildsAreWritten}
use Rattle.law_builds.proofs.Faces.{of_is, face_back, not_beyond, whole_symbols, short_symbols}
use Rattle.law_session.specs.Named.{AreIdentifiers}
use Rattle.law_lists.proofs.Lists.{bytes_same}

-- ---- entries

held : (m : List ℕ) (b : Build) (c : Compiled Text) → IsValid b c → IsWritten c → name_of b ≡ m → entry_from m (Some (symbols_of b)) ≡ walk.Holds (printed (shows_of b))
held m b c v w n =
    let i : Interface = interface_of (printed (shows_of b)) in
    let is : interface_by texts c ≡ i = ap (λ (x : Compiled Text). interface_by texts x) (sym (of_is b c v)) in
    ap (λ (t : Bool). cond t (named_face m (whole face_form (symbols_of b))) walk.Junk) (short_symbols b c v)
    ∙ ap (named_face m) (whole_symbols b c v w ∙ ap (λ (j : Interface). Some j) is)
    ∙ ap (λ (t : Bool). cond t (walk.Holds (face_of i)) walk.Junk) (bytes_same m (name_of b) (sym n))
    ∙ ap (λ (f : Face Print). walk.Holds f) (face_back (printed (shows_of b)))

kept : BuildsAreWritten → (m : List ℕ) (file : Option (List ℕ)) (e : Entry Build) → SymbolKept m file e → IsEntry m e → entry_from m file ≡ entry_printed (face_entry e)
kept written m file Missing k i = ap (entry_from m) k
kept written m None TooLong k i = absurd k
kept written m (Some bytes) TooLong k i = ap (λ (t : Bool). cond t (named_face m (whole face_form bytes)) walk.Junk) (not_beyond (length bytes) file_limit k)
kept written m None Junk k i = absurd k
kept written m (Some bytes) Junk k i = k.1
kept written m file (Holds b) k i = ap (entry_from m) k ∙ held m b i.0 i.1 (written b i.0 i.1) i.2

pub entries_same : BuildsAreWritten → (files : Files) (l : Library) → IsLibrary l → Kept files l → (m : List ℕ) → is_identifier m ≡ true → symbol_entry files m ≡ entry_printed (interface_in l m)
unfolding symbol_entry
entries_same written files l library k m is = kept written m (files (symbol_name m)) (l.symbols m) (k.symbols m is) (library.symbols m)

-- ---- names in files

turned : (a b c : Bool) → ((a || b) || c) ≡ true → ((b || c) || a) ≡ true
turned true true c e = refl
turned true false true e = refl
turned true false false e = refl
turned false true c e = refl
turned false false c e = or_false c e
  where
    or_false : (c : Bool) → c ≡ true → (c || false) ≡ true
    or_false true e = refl
    or_false false e = e

both_true : (a b : Bool) → a ≡ true → b ≡ true → (a && b) ≡ true
both_true true b e f = f
both_true false b e f = e

letters : (cs : List ℕ) → list_all is_ascii_alphanumeric cs ≡ true → list_all is_letter_or_digit cs ≡ true
letters [] e = refl
letters (c ∷ cs) e =
    let p = and_parts (is_ascii_alphanumeric c) (list_all is_ascii_alphanumeric cs) e in
    both_true (is_letter_or_digit c) (list_all is_letter_or_digit cs) (turned (is_in_range 48 57 c) (is_in_range 65 90 c) (is_in_range 97 122 c) p.0) (letters cs p.1)

-- an identifier of a file is one of a line
identifier : (t : List ℕ) → is_name t ≡ true → is_identifier t ≡ true
identifier [] e = e
identifier (c ∷ cs) e =
    let p = and_parts _ (nat_le (suc (length cs)) 64) e in
    let q = and_parts _ (list_all is_ascii_alphanumeric cs) p.0 in
    let n : suc (length cs) ≤ 64 = leb-true (suc (length cs)) 64 p.1 in
    let m : nat_lt (length cs) 64 ≡ true = grind (arith, n) in
    both_true _ _ q.0 (both_true _ _ (letters cs q.1) m)

identifiers : (ts : List (List ℕ)) → AllByRecursion (λ t. is_name t ≡ true) ts → AreIdentifiers ts
identifiers [] all = tt
identifiers (t ∷ ts) all = (identifier t all.0, identifiers ts all.1)

names_fit : (ts : List (List ℕ)) → AllByRecursion name_form.fits ts → AllByRecursion (λ t. is_name t ≡ true) ts
unfolding name_form
names_fit [] all = tt
names_fit (t ∷ ts) all = (all.0.1, names_fit ts all.1)

-- the imports of an interface that a symbol file can hold
imports_fit : (i : Interface) → face_form.fits i → AreIdentifiers i.imports
unfolding face_form head_form list_of
imports_fit i fits = identifiers i.imports (names_fit i.imports fits.0.0.1.0.1)

entry_imports : BuildsAreWritten → (m : List ℕ) (e : Entry Build) (f : Face Text) → IsEntry m e → face_entry e ≡ walk.Holds f → AreIdentifiers f.imports
entry_imports written m Missing f i e = absurd (let bad : walk.Missing ≡ walk.Holds f = e in cc)
entry_imports written m TooLong f i e = absurd (let bad : walk.Junk ≡ walk.Holds f = e in cc)
entry_imports written m Junk f i e = absurd (let bad : walk.Junk ≡ walk.Holds f = e in cc)
entry_imports written m (Holds b) f i e =
    let w : IsWritten i.0 = written b i.0 i.1 in
    let shows : i.0.shows ≡ shows_of b = ap (λ (x : Compiled Text). x.shows) (sym (of_is b i.0 i.1)) in
    let same : shows_of b ≡ f = ap (held_or (shows_of b)) e in
    subst (λ (g : Face Text). AreIdentifiers g.imports) (shows ∙ same) (imports_fit (interface_by texts i.0) w.symbols)
  where
    held_or : Face Text → walk.Entry Text → Face Text
    held_or d walk.Missing = d
    held_or d walk.Junk = d
    held_or d (walk.Holds g) = g

pub imports_found : BuildsAreWritten → (l : Library) → IsLibrary l → (m : List ℕ) (f : Face Text) → interface_in l m ≡ walk.Holds f → AreIdentifiers f.imports
imports_found written l library m f e = entry_imports written m (l.symbols m) f (library.symbols m) e
