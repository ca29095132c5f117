-- What a make sees in kept files is what it sees in the library, with prints for texts.
use Rattle.std.proofs.Common.{◌≡◌, ℕ, List, [], ◌∷◌, ◌++◌, Bool, true, false, cond, length, refl, sym, ap, ◌∙◌, subst, Option, Some, None, Result, Ok, Err}
use Rattle.std.specs.Prelude.{map, not, ◌&&◌, ◌||◌, nat_le, bytes_eq, Contains}
use Rattle.std.specs.List.{AllByRecursion, filter}
use Rattle.ob_tree.specs.declared.print.Print.{Print}
use Rattle.ob_tree.specs.declared.decl.Module.{Module as Tree}
use Rattle.ob_format.specs.Format.{whole, ◌>>=◌}
use Rattle.ob_fprint.specs.Print.{print_from}
use Rattle.ob_desc.specs.Grammar.{text_of}
use Rattle.ob_obj.specs.declared.file.ObjFile.{ObjFile}
use Rattle.ob_obj.specs.Grammar.{file as object_form}
use Rattle.ob_env.specs.Faces.{Face, Wanted, printed, object_named}
use Rattle.ob_env.specs.Stale.{Found, AsWanted, IsAbsent, IsChanged, compared, prints_agree}
use Rattle.ob_env_walk.specs.Walk.{symbol_name}
use Rattle.ob_cmp.specs.declared.verdict.Stale.{Stale}
use Rattle.ob_cmp.specs.Check as check
use Rattle.ob_cmp.specs.Check.{Present, NotThere, Refused, There, stale_if, print_of_desc, symbols_of}
use Rattle.ob_link.specs.Plan.{Entry, Missing, TooLong, Junk, Holds}
use Rattle.ob_link.specs.Files.{object_file_name}
use Rattle.ob_compile_model.specs.Compiling.{Compiled, texts, imported, most_source}
use Rattle.ob_parse_grammar.specs.Identifiers.{is_identifier}
use Rattle.ob_parse_grammar.specs.TextReading.{NoModule, reading}
use Rattle.ob_make.specs.Order.{order}
use Rattle.ob_make.specs.Seen.{Has, NoSource, Imports, is_needed, object_needs, symbol_needs, source_needs, needs}
use Rattle.ob_make.specs.Stale.{is_met, meets, fails, is_there, stale_with, is_stale, is_sourceless, is_missing, is_passed, turn_of, turn_in}
use Rattle.ob_make.specs.Folder.{has_in, has_found, has_of, read_as, source_of, source_name, seen_in, prints}
use Rattle.ob_builds.specs.Builds.{Text, Build, IsSpelled, of, shows_of, file_of}
use Rattle.ob_builds.specs.Written.{BuildsAreWritten}
use Rattle.ob_shell_model.specs.Library.{Library, IsLibrary, IsEntry, Kept}
use Rattle.ob_shell_model.specs.Model as model
use Rattle.ob_shell_model.specs.Model.{World, face_present, has_as, has_present, marks}
use Rattle.ob_shell_model.specs.OneAge.{ByCheck, AreToldApart}
use Rattle.law_builds.proofs.Compiled.{comes}
use Rattle.law_builds.proofs.Faces.{of_is, uses_back}
use Rattle.law_builds.proofs.Members.{has_head, has_more}
use Rattle.law_session.specs.Named.{AreIdentifiers}
use Rattle.law_session.proofs.Checked.{present_as, as_print, object_found, said_of, objects_said, within_same, face_found_same, IsTold, desc_same, told_of}
use Rattle.law_session.proofs.Imports.{imports_are_named}
use Rattle.law_session.proofs.MakesOrder.{orders_alike, order_named, IsOfIdentifiers}
use Rattle.law_session.proofs.Spelled.{imports_named, uses_named}

-- ---- object files

-- with prints for texts
abbrev has_printed : Has Text → Has Print
has_printed h = record { imports = h.imports; uses = map as_print h.uses }

has_is : (m : List ℕ) (o : Option ObjFile) → has_found m o ≡ object_found has_in m o
has_is m None = refl
has_is m (Some f) = refl

abbrev both : List (List ℕ) → List (Wanted Print) → Has Print
both ms us = record { imports = ms; uses = us }

has_said : (m : List ℕ) (e : Entry Build) → IsEntry m e → said_of has_in e ≡ present_as has_printed (has_present e)
has_said m Missing i = refl
has_said m TooLong i = refl
has_said m Junk i = refl
has_said m (Holds b) i =
    let imports : (of b).tree.imports ≡ (of b).shows.imports = subst (λ (x : Compiled Text). x.tree.imports ≡ x.shows.imports) (sym (of_is b i.0 i.1 ∙ (comes texts _ (Some b.source) i.0 i.1.is).is)) refl in
    ap (λ ms. There (both ms (has_in (file_of b)).uses)) imports ∙ ap (λ us. There (both (shows_of b).imports us)) (uses_back (map as_print (shows_of b).uses))

-- ---- needs

same_modules : (us : List (Wanted Text)) → map (λ (w : Wanted Print). w.object.«module») (map as_print us) ≡ map (λ (w : Wanted Text). w.object.«module») us
same_modules [] = refl
same_modules (u ∷ us) = ap (λ ns. u.object.«module» ∷ ns) (same_modules us)

object_same : (p : Present (Has Text)) → object_needs (present_as has_printed p) ≡ object_needs p
object_same NotThere = refl
object_same check.TooLong = refl
object_same Refused = refl
object_same (There h) = ap (λ ns. h.imports ++ ns) (same_modules h.uses)

symbol_same : (p : Present (Face Text)) → symbol_needs (present_as printed p) ≡ symbol_needs p
symbol_same NotThere = refl
symbol_same check.TooLong = refl
symbol_same Refused = refl
symbol_same (There f) = refl

-- ---- names

both_named : (xs ys : List (List ℕ)) → AreIdentifiers xs → AreIdentifiers ys → AreIdentifiers (xs ++ ys)
both_named [] ys a b = b
both_named (x ∷ xs) ys a b = (a.0, both_named xs ys a.1 b)

filter_named : (test : List ℕ → Bool) (xs : List (List ℕ)) → AreIdentifiers xs → AreIdentifiers (filter test xs)
filter_named test [] a = tt
filter_named test (x ∷ xs) a = go (test x) (filter_named test xs a.1)
  where
    go : (b : Bool) → AreIdentifiers (filter test xs) → AreIdentifiers (cond b (x ∷ filter test xs) (filter test xs))
    go true r = (a.0, r)
    go false r = r

modules_named : (us : List (Wanted Text)) → AllByRecursion (λ u. is_identifier u.object.«module» ≡ true) us → AreIdentifiers (map (λ (w : Wanted Text). w.object.«module») us)
modules_named [] a = tt
modules_named (u ∷ us) a = (a.0, modules_named us a.1)

-- what a valid build shows has a spelling
spelled : BuildsAreWritten → (m : List ℕ) (b : Build) → IsEntry m (Holds b) → IsSpelled (shows_of b)
spelled written m b i = subst IsSpelled (ap (λ (x : Compiled Text). x.shows) (sym (of_is b i.0 i.1))) (written b i.0 i.1).symbols

object_named_so : BuildsAreWritten → (m : List ℕ) (e : Entry Build) → IsEntry m e → AreIdentifiers (object_needs (has_present e))
object_named_so written m Missing i = tt
object_named_so written m TooLong i = tt
object_named_so written m Junk i = tt
object_named_so written m (Holds b) i =
    let s = spelled written m b i in
    both_named (shows_of b).imports (map (λ (w : Wanted Text). w.object.«module») (shows_of b).uses) (imports_named (shows_of b) s) (modules_named (shows_of b).uses (uses_named (shows_of b) s))

symbol_named_so : BuildsAreWritten → (m : List ℕ) (e : Entry Build) → IsEntry m e → AreIdentifiers (symbol_needs (face_present e))
symbol_named_so written m Missing i = tt
symbol_named_so written m TooLong i = tt
symbol_named_so written m Junk i = tt
symbol_named_so written m (Holds b) i = imports_named (shows_of b) (spelled written m b i)

tree_named : (m text : List ℕ) (r : Result Tree NoModule) → reading text ≡ r → AreIdentifiers (source_needs (read_as m r))
tree_named m text (Err f) e = tt
tree_named m text (Ok tree) e = go (bytes_eq m tree.name.name)
  where
    go : (b : Bool) → AreIdentifiers (source_needs (cond b (Imports (map imported tree.imports)) NoSource))
    go true = imports_are_named text tree e
    go false = tt

source_named_so : (m : List ℕ) (file : Option (List ℕ)) → AreIdentifiers (source_needs (source_of m file))
source_named_so m None = tt
source_named_so m (Some text) = go (nat_le (length text) most_source)
  where
    go : (b : Bool) → AreIdentifiers (source_needs (cond b (read_as m (reading text)) (Imports [])))
    go true = tree_named m text (reading text) refl
    go false = tt

-- ---- uses

none_stale : List Stale → Bool
none_stale [] = true
none_stale (s ∷ ss) = false

met_is : {K : Type 0} (w : Wanted K) (f : Found K) → is_met f ≡ none_stale (stale_if w f)
unfolding none_stale
met_is w AsWanted = refl
met_is w IsAbsent = refl
met_is w (IsChanged k) = refl

meets_same : (w : Wanted Text) (e : Entry Build) → IsTold w e → meets prints (as_print w) (present_as printed (face_present e)) ≡ meets marks w (face_present e)
meets_same w Missing told = refl
meets_same w TooLong told = refl
meets_same w Junk told = refl
meets_same w (Holds b) told =
    let o = object_named (shows_of b).objects w.object.object in
    met_is (as_print w) (compared prints_agree (print_from w.kept) (o >>= λ d. print_of_desc w.object d w.aspect))
    ∙ ap none_stale (desc_same w o told)
    ∙ sym (met_is w (compared bytes_eq w.kept (o >>= λ d. text_of w.object d w.aspect)))

there_same : {X Y : Type 0} (f : X → Y) (p : Present X) → is_there (present_as f p) ≡ is_there p
there_same f NotThere = refl
there_same f check.TooLong = refl
there_same f Refused = refl
there_same f (There x) = refl

missing_same : {X Y : Type 0} (f : X → Y) (p : Present X) → is_missing (present_as f p) ≡ is_missing p
missing_same f NotThere = refl
missing_same f check.TooLong = refl
missing_same f Refused = refl
missing_same f (There x) = refl

-- ---- a world whose files keep its library

module _ (written : BuildsAreWritten) (v : World) (library : IsLibrary v.library) (kept : Kept v.files v.library) where
  abbrev l : Library
  l = v.library

  objects_seen : (n : List ℕ) → is_identifier n ≡ true → has_of v.files n ≡ present_as has_printed (has_present (l.objects n))
  unfolding has_of
  objects_seen n i =
      within_same (λ bytes. has_found n (whole object_form bytes)) (λ bytes. object_found has_in n (whole object_form bytes)) (λ bytes. has_is n (whole object_form bytes)) (v.files (object_file_name n))
      ∙ objects_said has_in written n (v.files (object_file_name n)) (l.objects n) (kept.objects n i) (library.objects n)
      ∙ has_said n (l.objects n) (library.objects n)

  symbols_seen : (n : List ℕ) → is_identifier n ≡ true → symbols_of v.files n ≡ present_as printed (face_present (l.symbols n))
  unfolding symbols_of
  symbols_seen n i = face_found_same written n (v.files (symbol_name n)) (l.symbols n) (kept.symbols n i) (library.symbols n)

  needs_same : (n : List ℕ) → is_identifier n ≡ true → needs (seen_in v.files) n ≡ needs (model.seen_in v) n
  needs_same n i =
      let source = source_needs (source_of n (v.files (source_name n))) in
      ap (λ o. filter (is_needed n) (object_needs o ++ (symbol_needs (symbols_of v.files n) ++ source))) (objects_seen n i)
      ∙ ap (λ o. filter (is_needed n) (o ++ (symbol_needs (symbols_of v.files n) ++ source))) (object_same (has_present (l.objects n)))
      ∙ ap (λ o. filter (is_needed n) (object_needs (has_present (l.objects n)) ++ (symbol_needs o ++ source))) (symbols_seen n i)
      ∙ ap (λ o. filter (is_needed n) (object_needs (has_present (l.objects n)) ++ (o ++ source))) (symbol_same (face_present (l.symbols n)))

  needs_named : (n : List ℕ) → is_identifier n ≡ true → AreIdentifiers (needs (model.seen_in v) n)
  needs_named n i =
      let object = object_needs (has_present (l.objects n)) in
      let symbol = symbol_needs (face_present (l.symbols n)) in
      let source = source_needs (source_of n (v.files (source_name n))) in
      filter_named (is_needed n) (object ++ (symbol ++ source))
      (both_named object (symbol ++ source) (object_named_so written n (l.objects n) (library.objects n))
      (both_named symbol source (symbol_named_so written n (l.symbols n) (library.symbols n)) (source_named_so n (v.files (source_name n)))))

  -- the order is the same, and its modules are named by identifiers
  pub orders_seen : (m : List ℕ) → is_identifier m ≡ true → order (seen_in v.files) m ≡ order (model.seen_in v) m
  orders_seen m i = orders_alike (seen_in v.files) (model.seen_in v) needs_same needs_named m i

  pub orders_named : (m : List ℕ) → is_identifier m ≡ true → IsOfIdentifiers (order (model.seen_in v) m)
  orders_named m i = order_named (seen_in v.files) (model.seen_in v) needs_same needs_named m i

  -- ---- one of its modules

  module _ (x : List ℕ) (i : is_identifier x ≡ true) (told : AreToldApart (ByCheck v.library x)) where
    fails_same : (b : Build) → l.objects x ≡ Holds b → (us : List (Wanted Text)) → AllByRecursion (λ u. is_identifier u.object.«module» ≡ true) us → ((u : Wanted Text) → Contains us u → Contains (shows_of b).uses u) → fails prints (symbols_of v.files) (map as_print us) ≡ fails marks (λ n. face_present (l.symbols n)) us
    fails_same b o [] n among = refl
    fails_same b o (u ∷ us) n among =
        let name = u.object.«module» in
        ap (λ p. not (meets prints (as_print u) p) || fails prints (symbols_of v.files) (map as_print us)) (symbols_seen name n.0)
        ∙ ap (λ t. not t || fails prints (symbols_of v.files) (map as_print us)) (meets_same u (l.symbols name) (told_of written v.files l x library kept told b o u (among u (has_head u us)) (l.symbols name) refl (library.symbols name)))
        ∙ ap (λ t. not (meets marks u (face_present (l.symbols name))) || t) (fails_same b o us n.1 (λ y c. among y (has_more u us y c)))

    entry_stale : (e : Entry Build) → l.objects x ≡ e → IsEntry x e → (symbols : Bool) → stale_with prints (symbols_of v.files) (present_as has_printed (has_present e)) symbols ≡ stale_with marks (λ n. face_present (l.symbols n)) (has_present e) symbols
    entry_stale Missing e k symbols = refl
    entry_stale TooLong e k symbols = refl
    entry_stale Junk e k symbols = refl
    entry_stale (Holds b) e k symbols = ap (λ t. not symbols || t) (fails_same b e (shows_of b).uses (uses_named (shows_of b) (spelled written x b k)) (λ u c. c))

    stale_same : is_stale prints (seen_in v.files) x ≡ is_stale marks (model.seen_in v) x
    stale_same =
        ap (λ p. stale_with prints (symbols_of v.files) (has_of v.files x) (is_there p)) (symbols_seen x i)
        ∙ ap (λ t. stale_with prints (symbols_of v.files) (has_of v.files x) t) (there_same printed (face_present (l.symbols x)))
        ∙ ap (λ o. stale_with prints (symbols_of v.files) o (is_there (face_present (l.symbols x)))) (objects_seen x i)
        ∙ entry_stale (l.objects x) refl (library.objects x) (is_there (face_present (l.symbols x)))

    passed_same : (m : List ℕ) → is_passed (seen_in v.files) m x ≡ is_passed (model.seen_in v) m x
    passed_same m = ap (λ t. not (bytes_eq x m) && (is_sourceless (source_of x (v.files (source_name x))) && t)) (ap is_missing (objects_seen x i) ∙ missing_same has_printed (has_present (l.objects x)))

    -- the same is done of it
    pub turns_same : (m : List ℕ) → turn_in prints (seen_in v.files) m x ≡ turn_in marks (model.seen_in v) m x
    turns_same m =
        let source = is_sourceless (source_of x (v.files (source_name x))) in
        ap (λ t. turn_of t (is_stale prints (seen_in v.files) x) source) (passed_same m) ∙ ap (λ t. turn_of (is_passed (model.seen_in v) m x) t source) stale_same
