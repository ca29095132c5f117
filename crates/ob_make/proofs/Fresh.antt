-- A module that is not stale is up to date for a check.
use Rattle.std.proofs.Common.{◌≡◌, ℕ, Bool, true, false, cond, leb, List, [], ◌∷◌, length, Option, Some, None, refl, ap, ◌∙◌}
use Rattle.std.specs.Prelude.{not, ◌||◌, bytes_eq}
use Rattle.ob_format.specs.Format.{whole}
use Rattle.ob_tree.specs.declared.print.Print.{Print}
use Rattle.ob_obj.specs.Grammar.{file as object_form}
use Rattle.ob_obj.specs.declared.file.ObjFile.{ObjFile}
use Rattle.ob_env.specs.Faces.{Wanted, Face}
use Rattle.ob_env.specs.Stale.{Found, AsWanted, IsAbsent, IsChanged, compared, prints_agree}
use Rattle.ob_cmp.specs.Check.{Checked, IsStale, Present, NotThere, TooLong, Refused, There, stale_if, and_also, beside, in_face, checked_uses, checked, check_of, within, object_name, object_of, uses_found, symbols_of, print_of_desc}
use Rattle.ob_make.specs.Seen.{Has}
use Rattle.ob_make.specs.Stale.{Marks, is_met, meets, fails, is_there, stale_with, is_stale}
use Rattle.ob_make.specs.Folder.{has_of, has_found, has_in, prints, seen_in}

-- ---- the object file says the same

-- the uses of what an object file has
abbrev pub uses_in : {K : Type 0} → Present (Has K) → Present (List (Wanted K))
uses_in NotThere = NotThere
uses_in TooLong = TooLong
uses_in Refused = Refused
uses_in (There h) = There h.uses

named : (b : Bool) (h : Has Print) → cond b (There h.uses) Refused ≡ uses_in (cond b (There h) Refused)
named true h = refl
named false h = refl

found_uses : (m : List ℕ) (o : Option ObjFile) → uses_found m o ≡ uses_in (has_found m o)
found_uses m None = refl
found_uses m (Some f) = named (bytes_eq m f.head.«module») (has_in f)

short : (b : Bool) (m text : List ℕ) → cond b (uses_found m (whole object_form text)) TooLong ≡ uses_in (cond b (has_found m (whole object_form text)) TooLong)
short true m text = found_uses m (whole object_form text)
short false m text = refl

within_uses : (m : List ℕ) (o : Option (List ℕ)) → within (λ l. uses_found m (whole object_form l)) o ≡ uses_in (within (λ l. has_found m (whole object_form l)) o)
within_uses m None = refl
within_uses m (Some text) = short (leb (length text) 16777216) m text

pub object_uses : (files : List ℕ → Option (List ℕ)) (m : List ℕ) → object_of files m ≡ uses_in (has_of files m)
unfolding object_of has_of
object_uses files m = within_uses m (files (object_name m))

-- ---- uses that are met

met_is : {K : Type 0} (w : Wanted K) (f : Found K) (rest : Checked) → not (is_met f) ≡ false → and_also (stale_if w f) rest ≡ and_also [] rest
met_is w AsWanted rest e = refl
met_is w IsAbsent rest e = absurd cc
met_is w (IsChanged k) rest e = absurd cc

one_met : {K : Type 0} (marks : Marks K) (w : Wanted K) (p : Present (Face K)) (rest : Checked) → not (meets marks w p) ≡ false → rest ≡ IsStale [] → beside marks.agree marks.has w p rest ≡ IsStale []
one_met marks w NotThere rest e is = absurd cc
one_met marks w TooLong rest e is = absurd cc
one_met marks w Refused rest e is = absurd cc
one_met marks w (There f) rest e is = met_is w (compared marks.agree w.kept (in_face marks.has f w.object w.aspect)) rest e ∙ ap (and_also []) is

or_first : (a b : Bool) → (a || b) ≡ false → a ≡ false
or_first true b e = absurd cc
or_first false b e = refl

or_second : (a b : Bool) → (a || b) ≡ false → b ≡ false
or_second true b e = absurd cc
or_second false b e = e

pub all_met : {K : Type 0} (marks : Marks K) (find : List ℕ → Present (Face K)) (uses : List (Wanted K)) → fails marks find uses ≡ false → checked_uses marks.agree marks.has find uses ≡ IsStale []
all_met marks find [] e = refl
all_met marks find (w ∷ ws) e =
    let a = not (meets marks w (find w.object.«module»)) in
    one_met marks w (find w.object.«module») (checked_uses marks.agree marks.has find ws) (or_first a (fails marks find ws) e) (all_met marks find ws (or_second a (fails marks find ws) e))

pub fresh : {K : Type 0} (marks : Marks K) (find : List ℕ → Present (Face K)) (m : List ℕ) (p : Present (Has K)) (symbols : Bool) → stale_with marks find p symbols ≡ false → checked marks.agree marks.has find m (uses_in p) ≡ IsStale []
fresh marks find m NotThere symbols e = absurd cc
fresh marks find m TooLong symbols e = absurd cc
fresh marks find m Refused symbols e = absurd cc
fresh marks find m (There h) symbols e = all_met marks find h.uses (or_second (not symbols) (fails marks find h.uses) e)

pub fresh_is_up_to_date : (files : List ℕ → Option (List ℕ)) (x : List ℕ) → is_stale prints (seen_in files) x ≡ false → check_of files x ≡ IsStale []
fresh_is_up_to_date files x e = ap (checked prints_agree print_of_desc (symbols_of files) x) (object_uses files x) ∙ fresh prints (symbols_of files) x (has_of files x) (is_there (symbols_of files x)) e
