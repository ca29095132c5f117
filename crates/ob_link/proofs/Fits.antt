-- What the spelling of a file says of its parts.
use Rattle.std.proofs.Common.{◌≡◌, ℕ, ◌≤◌, List, [], ◌∷◌, length, map, refl}
use Rattle.std.specs.List.{AllByRecursion}
use Rattle.std.specs.List.Sorted.{IsStrictlySortedBy}
use Rattle.std.specs.declared.cmp.Ordering.TheVariants.{Less}
use Rattle.ob_obj.specs.declared.parts.Command.{Command}
use Rattle.ob_obj.specs.declared.parts.Export.{Export}
use Rattle.ob_obj.specs.declared.parts.Variable.{Variable}
use Rattle.ob_link.specs.declared.exported.Exported.{Exported}
use Rattle.ob_obj.specs.declared.file.ObjFile.{ObjFile}
use Rattle.ob_obj.specs.Grammar.{file, head, globals, body, by_export, by_variable, by_command, IsSound}
use Rattle.ob_obj.specs.Images.{global_words}
use Rattle.ob_instr.specs.declared.procedure.Procedure.{Procedure}
use Rattle.ob_link.specs.Members.{member_of, exported, by_exported, IsMember}

pub sound : (f : ObjFile) → file.fits f → IsSound f
unfolding file
sound f fits = fits.1

pub few_imports : (f : ObjFile) → file.fits f → length f.head.imports ≤ 64
unfolding file head
few_imports f fits = fits.0.0.0.1.0.1.0

pub few_words : (f : ObjFile) → file.fits f → global_words f ≤ 262144
unfolding file globals
few_words f fits = fits.0.1.0.1

pub few_types : (f : ObjFile) → file.fits f → length f.body.types ≤ 1048576
unfolding file body
few_types f fits = fits.0.1.1.1.0.1.0

exports_fit : (f : ObjFile) → file.fits f → IsStrictlySortedBy by_export f.head.exports
unfolding file head
exports_fit f fits = fits.0.0.0.1.1.0.1

variables_fit : (f : ObjFile) → file.fits f → IsStrictlySortedBy by_variable f.globals.variables
unfolding file globals
variables_fit f fits = fits.0.1.0.0.1.1.1

commands_fit : (f : ObjFile) → file.fits f → IsStrictlySortedBy by_command f.body.commands
unfolding file body
commands_fit f fits = fits.0.1.1.1.1.1.0.1

below_each : (procedures : List Procedure) (x : Command) (l : List Command) → AllByRecursion (λ y. by_command x y ≡ Less) l → AllByRecursion (λ e. by_exported (exported procedures x) e ≡ Less) (map (exported procedures) l)
below_each procedures x [] all = tt
below_each procedures x (y ∷ l) all = (all.0, below_each procedures x l all.1)

rising_map : (procedures : List Procedure) (l : List Command) → IsStrictlySortedBy by_command l → IsStrictlySortedBy by_exported (map (exported procedures) l)
unfolding IsStrictlySortedBy
rising_map procedures [] rises = tt
rising_map procedures (x ∷ l) rises = (below_each procedures x l rises.0, rising_map procedures l rises.1)

pub fits_member : (f : ObjFile) → file.fits f → IsMember (member_of f)
fits_member f fits = record { exports = exports_fit f fits; variables = variables_fit f fits; procedures = rising_map f.body.procedures f.body.commands (commands_fit f fits); few = few_words f fits }

pub member_is : (f : ObjFile) (exports : List Export) (variables : List Variable) (procedures : List Exported) (types : List (List ℕ)) (words : ℕ) → exports ≡ f.head.exports → variables ≡ f.globals.variables → procedures ≡ map (exported f.body.procedures) f.body.commands → types ≡ map (λ t. t.name) f.body.types → words ≡ global_words f → record { name = f.head.«module»; exports = exports; variables = variables; procedures = procedures; types = types; words = words } ≡ member_of f
member_is f exports variables procedures types words e1 e2 e3 e4 e5 = rw (e1, e2, e3, e4, e5) refl
