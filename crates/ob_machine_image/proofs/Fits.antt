-- What the spelling of a file says of its parts.
use Rattle.std.proofs.Common.{◌≡◌, ℕ, ◌+◌, ◌≤◌, List, [], ◌∷◌, length, map, refl, ◌∙◌, arith}
use Rattle.std.specs.List.{AllByRecursion}
use Rattle.std.specs.List.Sorted.{IsStrictlySortedBy}
use Rattle.std.specs.declared.cmp.Ordering.{Ordering}
use Rattle.std.specs.declared.cmp.Ordering.TheVariants.{Less}
use Rattle.ob_format.specs.Format.{list_of}
use Rattle.ob_obj.specs.declared.parts.StringConst.{StringConst}
use Rattle.ob_obj.specs.declared.file.ObjFile.{ObjFile}
use Rattle.ob_instr.specs.declared.procedure.Procedure.{Procedure}
use Rattle.ob_instr.specs.Parts.{slots, most_words, procedure}
use Rattle.ob_obj.specs.Grammar.{file, globals, string, body, by_variable, by_command, IsSound}
use Rattle.ob_machine_image.specs.Whole.{by_entry}

pub sound : (f : ObjFile) → file.fits f → IsSound f
unfolding file
sound f fits = fits.1

fits_globals : (f : ObjFile) → file.fits f → globals.fits f.globals
unfolding file
fits_globals f fits = fits.0.1.0

fits_strings : (f : ObjFile) → file.fits f → AllByRecursion string.fits f.globals.strings
unfolding file globals list_of
fits_strings f fits = fits.0.1.0.0.1.0.1

long_string : (s : StringConst) → string.fits s → length s.text ≤ s.words
unfolding string
long_string s fits = omega (arith, fits.1)

each_long : (strings : List StringConst) → AllByRecursion string.fits strings → AllByRecursion (λ s. length s.text ≤ s.words) strings
each_long [] all = tt
each_long (s ∷ strings) all = (long_string s all.0, each_long strings all.1)

pub long : (f : ObjFile) → file.fits f → AllByRecursion (λ s. length s.text ≤ s.words) f.globals.strings
long f fits = each_long f.globals.strings (fits_strings f fits)

fits_procedures : (f : ObjFile) → file.fits f → AllByRecursion procedure.fits f.body.procedures
unfolding file body list_of
fits_procedures f fits = fits.0.1.1.1.1.0.1

short_procedure : (q : Procedure) → procedure.fits q → slots q.params + q.locals ≤ most_words
unfolding procedure
short_procedure q fits = fits.1

each_short : (procedures : List Procedure) → AllByRecursion procedure.fits procedures → AllByRecursion (λ q. slots q.params + q.locals ≤ most_words) procedures
each_short [] all = tt
each_short (q ∷ procedures) all = (short_procedure q all.0, each_short procedures all.1)

pub short : (f : ObjFile) → file.fits f → AllByRecursion (λ q. slots q.params + q.locals ≤ most_words) f.body.procedures
short f fits = each_short f.body.procedures (fits_procedures f fits)

pub few_types : (f : ObjFile) → file.fits f → length f.body.types ≤ 1048576
unfolding file body
few_types f fits = fits.0.1.1.1.0.1.0

-- WHAT RISES BY NAMES

below_each : {A : Type 0} (f : A → List ℕ × ℕ) (R : A → A → Ordering) (same : (x y : A) → by_entry (f x) (f y) ≡ R x y) (x : A) (l : List A) → AllByRecursion (λ y. R x y ≡ Less) l → AllByRecursion (λ e. by_entry (f x) e ≡ Less) (map f l)
below_each f R same x [] all = tt
below_each f R same x (y ∷ l) all = (same x y ∙ all.0, below_each f R same x l all.1)

rising_map : {A : Type 0} (f : A → List ℕ × ℕ) (R : A → A → Ordering) (same : (x y : A) → by_entry (f x) (f y) ≡ R x y) (l : List A) → IsStrictlySortedBy R l → IsStrictlySortedBy by_entry (map f l)
unfolding IsStrictlySortedBy
rising_map f R same [] rises = tt
rising_map f R same (x ∷ l) rises = (below_each f R same x l rises.0, rising_map f R same l rises.1)

variables_fit : (f : ObjFile) → file.fits f → IsStrictlySortedBy by_variable f.globals.variables
unfolding file globals
variables_fit f fits = fits.0.1.0.0.1.1.1

commands_fit : (f : ObjFile) → file.fits f → IsStrictlySortedBy by_command f.body.commands
unfolding file body
commands_fit f fits = fits.0.1.1.1.1.1.0.1

pub variables_rise : (first : ℕ) (f : ObjFile) → file.fits f → IsStrictlySortedBy by_entry (map (λ v. (v.name, first + v.place)) f.globals.variables)
variables_rise first f fits = rising_map (λ v. (v.name, first + v.place)) by_variable (λ v w. refl) f.globals.variables (variables_fit f fits)

pub commands_rise : (f : ObjFile) → file.fits f → IsStrictlySortedBy by_entry (map (λ c. (c.name, c.procedure)) f.body.commands)
commands_rise f fits = rising_map (λ c. (c.name, c.procedure)) by_command (λ c d. refl) f.body.commands (commands_fit f fits)
