-- A check over kept files is the check over the library.
use Rattle.std.proofs.Common.{◌≡◌, ℕ, ◌≤◌, List, [], ◌∷◌, length, Bool, true, false, cond, refl, sym, ap, ◌∙◌, subst, arith, Option, Some, None}
use Rattle.std.specs.Prelude.{map, nat_lt, nat_le, bytes_eq, Contains}
use Rattle.std.specs.Option.{option_map}
use Rattle.std.specs.List.{AllByRecursion}
use Rattle.std.proofs.lemmas.Bool.{false≢true}
use Rattle.std.proofs.lemmas.Slice.Eq.{bytes_eq-Decides}
use Rattle.ob_tree.specs.declared.print.Print.{Print}
use Rattle.ob_types.specs.declared.face.Interface.{Interface}
use Rattle.ob_types.specs.declared.desc.Desc.{Desc}
use Rattle.ob_format.specs.Format.{whole, ◌>>=◌}
use Rattle.ob_format.specs.Exact.{whole_again}
use Rattle.ob_fprint.specs.Print.{print_from}
use Rattle.ob_desc.specs.Grammar.{text_of}
use Rattle.ob_sym.specs.Grammar.{face as face_form}
use Rattle.ob_obj.specs.declared.file.ObjFile.{ObjFile}
use Rattle.ob_obj.specs.Grammar.{file as object_form}
use Rattle.ob_obj.specs.Laws.{file_exact}
use Rattle.ob_env.specs.Faces.{Face, Wanted, wanted_of, face_of, printed, object_named, interface_of, text_in}
use Rattle.ob_env.specs.Stale.{IsAbsent, as_wanted, compared, prints_agree}
use Rattle.ob_env_walk.specs.Walk as walk
use Rattle.ob_env_walk.specs.Walk.{file_limit, symbol_name, named_face}
use Rattle.ob_cmp.specs.Check as check
use Rattle.ob_cmp.specs.Check.{Checked, IsStale, NoObject, DamagedFile, LongFile, Present, NotThere, Refused, There, stale_if, and_also, in_face, beside, checked_uses, checked, print_of_desc, within, if_named, face_found, uses_found, symbols_of, object_of, check_of}
use Rattle.ob_link.specs.Plan.{Entry, Missing, TooLong, Junk, Holds}
use Rattle.ob_link.specs.Files.{Files, object_file_name, most_bytes, decoded, decoded_as, when_all}
use Rattle.ob_compile_model.specs.Compiling.{Compiled, texts, object_by, object_bytes}
use Rattle.ob_parse_grammar.specs.Identifiers.{is_identifier}
use Rattle.ob_builds.specs.Builds.{Text, Build, of, shows_of, name_of, file_of, symbols_of as written_symbols}
use Rattle.ob_shell_model.specs.Library.{Library, IsLibrary, IsEntry, Kept, ObjectKept, SymbolKept}
use Rattle.ob_shell_model.specs.Model.{face_present, uses_present, check_in}
use Rattle.ob_builds.specs.Written.{BuildsAreWritten}
use Rattle.ob_shell_model.specs.OneAge.{ByCheck, AreToldApart}
use Rattle.law_session.specs.Composing.{ChecksAlike}
use Rattle.law_builds.proofs.Compiled.{comes, short}
use Rattle.law_builds.proofs.Faces.{of_is, uses_back, face_back, not_beyond, within_limit, whole_symbols, short_symbols}
use Rattle.law_session.proofs.ObjectEntries.{file_named}
use Rattle.law_session.proofs.Spelled.{uses_named}
use Rattle.law_builds.proofs.Members.{has_head, has_more}
use Rattle.law_lists.proofs.Lists.{bytes_same}

-- WHAT IS FOUND

-- the same is there, in another form
abbrev pub present_as : {X Y : Type 0} → (X → Y) → Present X → Present Y
present_as f NotThere = NotThere
present_as f check.TooLong = check.TooLong
present_as f Refused = Refused
present_as f (There x) = There (f x)

-- a use with the print of its text
abbrev pub as_print : Wanted Text → Wanted Print
as_print w = record { object = w.object; aspect = w.aspect; kept = print_from w.kept }

is_junk : walk.Entry Print → Bool
is_junk walk.Missing = false
is_junk walk.Junk = true
is_junk (walk.Holds f) = false

face_other : (i : Interface) (t : Bool) → cond t (walk.Holds (face_of i)) walk.Junk ≡ walk.Junk → cond t (There (face_of i)) Refused ≡ Refused
unfolding is_junk
face_other i true j = absurd (false≢true (ap is_junk j))
face_other i false j = refl

face_refused : (m : List ℕ) (o : Option Interface) → named_face m o ≡ walk.Junk → face_found m o ≡ Refused
face_refused m None j = refl
face_refused m (Some i) j = face_other i (bytes_eq m i.«module») j

abbrev read_face : List ℕ → List ℕ → Present (Face Print)
read_face m bytes = face_found m (whole face_form bytes)

pub face_found_same : BuildsAreWritten → (m : List ℕ) (file : Option (List ℕ)) (e : Entry Build) → SymbolKept m file e → IsEntry m e → within (read_face m) file ≡ present_as printed (face_present e)
face_found_same written m file Missing k i = ap (within (read_face m)) k
face_found_same written m None TooLong k i = absurd k
face_found_same written m (Some bytes) TooLong k i = ap (λ t. cond t (read_face m bytes) check.TooLong) (not_beyond (length bytes) file_limit k)
face_found_same written m None Junk k i = absurd k
face_found_same written m (Some bytes) Junk k i =
    let t = within_limit (length bytes) file_limit k.0 in
    ap (λ t. cond t (read_face m bytes) check.TooLong) t ∙ face_refused m (whole face_form bytes) (sym (ap (λ t. cond t (named_face m (whole face_form bytes)) walk.Junk) t) ∙ k.1)
face_found_same written m file (Holds b) k i =
    let c = i.0 in
    let f = shows_of b in
    let s : c.shows ≡ f = ap (λ (x : Compiled Text). x.shows) (sym (of_is b c i.1)) in
    ap (within (read_face m)) k
    ∙ ap (λ t. cond t (read_face m (written_symbols b)) check.TooLong) (short_symbols b c i.1)
    ∙ ap (face_found m) (whole_symbols b c i.1 (written b c i.1) ∙ ap (λ x. Some (interface_of (printed x))) s)
    ∙ ap (λ t. cond t (There (face_of (interface_of (printed f)))) Refused) (bytes_same m f.«module» (sym i.2))
    ∙ ap There (face_back (printed f))

-- ---- object files

abbrev of_rest : {A : Type 0} → Option (A × List ℕ) → Option A
of_rest o = o >>= λ x. cond (nat_lt 0 (length x.1)) None (Some x.0)

some_rest : {A : Type 0} (x : A) (b : ℕ) (bs : List ℕ) → cond (nat_lt 0 (length (b ∷ bs))) None (Some x) ≡ None
some_rest x b bs = go (nat_lt 0 (length (b ∷ bs))) refl
  where
    go : (t : Bool) → nat_lt 0 (length (b ∷ bs)) ≡ t → cond t None (Some x) ≡ None
    go true e = refl
    go false e = grind (arith, e)

all_taken : (o : Option (ObjFile × List ℕ)) → of_rest o ≡ when_all o
all_taken None = refl
all_taken (Some (x, [])) = refl
all_taken (Some (x, b ∷ bs)) = some_rest x b bs

whole_is : (bytes : List ℕ) → whole object_form bytes ≡ decoded bytes
unfolding whole decoded
whole_is bytes = all_taken (object_form.take bytes)

is_damaged : Entry ObjFile → Bool
is_damaged Missing = false
is_damaged TooLong = false
is_damaged Junk = true
is_damaged (Holds f) = false

same_either : (a b : List ℕ) → bytes_eq a b ≡ bytes_eq b a
same_either a b = go (bytes_eq a b) (bytes_eq b a) refl refl
  where
    go : (x y : Bool) → bytes_eq a b ≡ x → bytes_eq b a ≡ y → x ≡ y
    go true true e h = refl
    go false false e h = refl
    go true false e h = absurd (false≢true (sym h ∙ bytes_same b a (sym ((bytes_eq-Decides a b).0 e))))
    go false true e h = absurd (false≢true (sym e ∙ bytes_same a b (sym ((bytes_eq-Decides b a).0 h))))

file_other : {X : Type 0} (x : X) (f : ObjFile) (t : Bool) → cond t (Holds f) Junk ≡ Junk → cond t (There x) Refused ≡ Refused
unfolding is_damaged
file_other x f true j = absurd (false≢true (ap is_damaged j))
file_other x f false j = refl

not_longer : (n limit : ℕ) → n ≤ limit → nat_lt limit n ≡ false
not_longer n limit h = grind (arith, h)

-- what is found in object files by what each says
abbrev pub object_found : {X : Type 0} → (ObjFile → X) → List ℕ → Option ObjFile → Present X
object_found says m None = Refused
object_found says m (Some f) = if_named m f.head.«module» (says f)

-- what the object file of an entry says
abbrev pub said_of : {X : Type 0} → (ObjFile → X) → Entry Build → Present X
said_of says Missing = NotThere
said_of says TooLong = check.TooLong
said_of says Junk = Refused
said_of says (Holds b) = There (says (file_of b))

module _ {X : Type 0} (says : ObjFile → X) where
  file_refused : (m : List ℕ) (o : Option ObjFile) → decoded_as m o ≡ Junk → object_found says m o ≡ Refused
  file_refused m None j = refl
  file_refused m (Some f) j = ap (λ t. cond t (There (says f)) Refused) (same_either m f.head.«module») ∙ file_other (says f) f (bytes_eq f.head.«module» m) j

  abbrev read_file : List ℕ → List ℕ → Present X
  read_file m bytes = object_found says m (whole object_form bytes)

  pub objects_said : BuildsAreWritten → (m : List ℕ) (file : Option (List ℕ)) (e : Entry Build) → ObjectKept m file e → IsEntry m e → within (read_file m) file ≡ said_of says e
  objects_said written m file Missing k i = ap (within (read_file m)) k
  objects_said written m None TooLong k i = absurd k
  objects_said written m (Some bytes) TooLong k i = ap (λ t. cond t (read_file m bytes) check.TooLong) (not_beyond (length bytes) file_limit k)
  objects_said written m None Junk k i = absurd k
  objects_said written m (Some bytes) Junk k i =
      ap (λ t. cond t (read_file m bytes) check.TooLong) (within_limit (length bytes) file_limit k.0)
      ∙ ap (object_found says m) (whole_is bytes)
      ∙ file_refused m (decoded bytes) (sym (ap (λ t. cond t TooLong (decoded_as m (decoded bytes))) (not_longer (length bytes) most_bytes k.0)) ∙ k.1)
  objects_said written m file (Holds b) k i =
      let c = i.0 in
      let o : of b ≡ c = of_is b c i.1 in
      ap (within (read_file m)) (k ∙ ap (λ x. Some (object_bytes texts x)) o)
      ∙ ap (λ t. cond t (read_file m (object_bytes texts c)) check.TooLong) (short texts c (comes texts _ (Some b.source) c i.1.is).limits).0
      ∙ ap (object_found says m) (whole_again object_form file_exact (object_by texts c) (written b c i.1).object)
      ∙ ap (λ t. cond t (There (says (object_by texts c))) Refused) (bytes_same m (object_by texts c).head.«module» (sym (file_named b c i.1 ∙ i.2)))
      ∙ ap (λ x. There (says (object_by texts x))) (sym o)

-- ---- the uses

abbrev uses_in : ObjFile → List (Wanted Print)
uses_in f = map wanted_of f.head.uses

uses_are : (m : List ℕ) (o : Option ObjFile) → uses_found m o ≡ object_found uses_in m o
uses_are m None = refl
uses_are m (Some f) = refl

uses_said : (e : Entry Build) → said_of uses_in e ≡ present_as (map as_print) (uses_present e)
uses_said Missing = refl
uses_said TooLong = refl
uses_said Junk = refl
uses_said (Holds b) = ap There (uses_back (map as_print (shows_of b).uses))

-- a reading of files that finds the same is the same
pub within_same : {X : Type 0} (f g : List ℕ → Present X) → ((bytes : List ℕ) → f bytes ≡ g bytes) → (file : Option (List ℕ)) → within f file ≡ within g file
within_same f g h None = refl
within_same f g h (Some bytes) = ap (λ x. cond (nat_le (length bytes) file_limit) x check.TooLong) (h bytes)

abbrev read_uses : List ℕ → List ℕ → Present (List (Wanted Print))
read_uses m bytes = uses_found m (whole object_form bytes)

uses_found_same : BuildsAreWritten → (m : List ℕ) (file : Option (List ℕ)) (e : Entry Build) → ObjectKept m file e → IsEntry m e → within (read_uses m) file ≡ present_as (map as_print) (uses_present e)
uses_found_same written m file e k i =
    within_same (read_uses m) (λ bytes. object_found uses_in m (whole object_form bytes)) (λ bytes. uses_are m (whole object_form bytes)) file
    ∙ objects_said uses_in written m file e k i
    ∙ uses_said e

-- ONE USE

print_of : List ℕ → Print
print_of x = record { 0 = x }

prints_same : (a b : Print) → bytes_eq a.0 b.0 ≡ true → a ≡ b
unfolding print_of
prints_same a b e = ap print_of ((bytes_eq-Decides a.0 b.0).0 e)

pub agree_same : (k t : Text) → (print_from k ≡ print_from t → k ≡ t) → prints_agree (print_from k) (print_from t) ≡ bytes_eq k t
agree_same k t apart = go (prints_agree (print_from k) (print_from t)) (bytes_eq k t) refl refl
  where
    go : (x y : Bool) → prints_agree (print_from k) (print_from t) ≡ x → bytes_eq k t ≡ y → x ≡ y
    go true true e h = refl
    go false false e h = refl
    go true false e h = absurd (false≢true (sym h ∙ bytes_same k t (apart (prints_same (print_from k) (print_from t) e))))
    go false true e h = absurd (false≢true (sym e ∙ bytes_same (print_from k).0 (print_from t).0 (ap (λ x. (print_from x).0) ((bytes_eq-Decides k t).0 h))))

stale_same : (w : Wanted Text) (t : Text) (x : Bool) → stale_if (as_print w) (as_wanted x (print_from t)) ≡ stale_if w (as_wanted x t)
stale_same w t true = refl
stale_same w t false = refl

text_same : (w : Wanted Text) (o : Option Text) → ((t : Text) → o ≡ Some t → print_from w.kept ≡ print_from t → w.kept ≡ t) → stale_if (as_print w) (compared prints_agree (print_from w.kept) (option_map print_from o)) ≡ stale_if w (compared bytes_eq w.kept o)
text_same w None apart = refl
text_same w (Some t) apart = ap (λ x. stale_if (as_print w) (as_wanted x (print_from t))) (agree_same w.kept t (apart t refl)) ∙ stale_same w t (bytes_eq w.kept t)

pub desc_same : (w : Wanted Text) (o : Option Desc) → ((t : Text) → (o >>= λ d. text_of w.object d w.aspect) ≡ Some t → print_from w.kept ≡ print_from t → w.kept ≡ t) → stale_if (as_print w) (compared prints_agree (print_from w.kept) (o >>= λ d. print_of_desc w.object d w.aspect)) ≡ stale_if w (compared bytes_eq w.kept (o >>= λ d. text_of w.object d w.aspect))
desc_same w None apart = refl
desc_same w (Some d) apart = text_same w (text_of w.object d w.aspect) apart

-- what a use may be compared with
abbrev pub IsTold : Wanted Text → Entry Build → Type 0
IsTold w (Holds b) = (t : Text) → (object_named (shows_of b).objects w.object.object >>= λ d. text_of w.object d w.aspect) ≡ Some t → print_from w.kept ≡ print_from t → w.kept ≡ t
IsTold w e = Unit {0}

use_same : (w : Wanted Text) (e : Entry Build) → IsTold w e → (r q : Checked) → r ≡ q → beside prints_agree print_of_desc (as_print w) (present_as printed (face_present e)) r ≡ beside bytes_eq text_of w (face_present e) q
use_same w Missing told r q h = ap (and_also (stale_if {K = Text} w IsAbsent)) h
use_same w TooLong told r q h = refl
use_same w Junk told r q h = refl
use_same w (Holds b) told r q h =
    ap (λ s. and_also s r) (desc_same w (object_named (shows_of b).objects w.object.object) told)
    ∙ ap (and_also (stale_if w (compared bytes_eq w.kept (object_named (shows_of b).objects w.object.object >>= λ d. text_of w.object d w.aspect)))) h

-- ALL USES

module _ (written : BuildsAreWritten) (files : Files) (l : Library) (m : List ℕ) (library : IsLibrary l) (kept : Kept files l) (told : AreToldApart (ByCheck l m)) where
  pub told_of : (b : Build) → l.objects m ≡ Holds b → (w : Wanted Text) → Contains (shows_of b).uses w → (e : Entry Build) → l.symbols w.object.«module» ≡ e → IsEntry w.object.«module» e → IsTold w e
  told_of b o w c Missing e i = tt
  told_of b o w c TooLong e i = tt
  told_of b o w c Junk e i = tt
  told_of b o w c (Holds d) e i = λ t x p.
      let is : text_in (shows_of d ∷ []) w.object w.aspect ≡ Some t = ap (λ x. (cond x (Some (shows_of d)) None >>= λ f. object_named f.objects w.object.object) >>= λ y. text_of w.object y w.aspect) (bytes_same w.object.«module» (name_of d) (sym i.2)) ∙ x in
      told w.kept t (b, d, w.object.«module», o, e, (w, c, refl, is)) p

  uses_same : (b : Build) → l.objects m ≡ Holds b → (us : List (Wanted Text)) → AllByRecursion (λ u. is_identifier u.object.«module» ≡ true) us → ((u : Wanted Text) → Contains us u → Contains (shows_of b).uses u) → checked_uses prints_agree print_of_desc (symbols_of files) (map as_print us) ≡ checked_uses bytes_eq text_of (λ n. face_present (l.symbols n)) us
  unfolding symbols_of
  uses_same b o [] n among = refl
  uses_same b o (u ∷ us) n among =
      let name = u.object.«module» in
      let e = l.symbols name in
      ap (λ p. beside prints_agree print_of_desc (as_print u) p (checked_uses prints_agree print_of_desc (symbols_of files) (map as_print us))) (face_found_same written name (files (symbol_name name)) e (kept.symbols name n.0) (library.symbols name))
      ∙ use_same u e (told_of b o u (among u (has_head u us)) e refl (library.symbols name)) (checked_uses prints_agree print_of_desc (symbols_of files) (map as_print us)) (checked_uses bytes_eq text_of (λ n. face_present (l.symbols n)) us) (uses_same b o us n.1 (λ x c. among x (has_more u us x c)))

  entry_same : (e : Entry Build) → l.objects m ≡ e → IsEntry m e → checked prints_agree print_of_desc (symbols_of files) m (present_as (map as_print) (uses_present e)) ≡ checked bytes_eq text_of (λ n. face_present (l.symbols n)) m (uses_present e)
  entry_same Missing e i = refl
  entry_same TooLong e i = refl
  entry_same Junk e i = refl
  entry_same (Holds b) e i =
      let c = i.0 in
      let s : c.shows ≡ shows_of b = ap (λ (x : Compiled Text). x.shows) (sym (of_is b c i.1)) in
      uses_same b e (shows_of b).uses
      (subst (λ (f : Face Text). AllByRecursion (λ u. is_identifier u.object.«module» ≡ true) f.uses) s (uses_named c.shows (written b c i.1).symbols))
      (λ u c. c)

  all_same : is_identifier m ≡ true → check_of files m ≡ check_in l m
  unfolding object_of
  all_same n =
      ap (checked prints_agree print_of_desc (symbols_of files) m) (uses_found_same written m (files (object_file_name m)) (l.objects m) (kept.objects m n) (library.objects m))
      ∙ entry_same (l.objects m) refl (library.objects m)

pub checks_so : BuildsAreWritten → ChecksAlike
checks_so written files l m n library kept told = all_same written files l m library kept told n
