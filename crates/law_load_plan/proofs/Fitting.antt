-- What an object file that has a spelling says of its strings, and of the names of its commands.
use Rattle.std.proofs.Common.{◌≡◌, ℕ, suc, ◌≤◌, Bool, true, false, List, [], ◌∷◌, length, Option, Some, None, refl, sym, ap, subst, ◌∙◌, arith}
use Rattle.std.specs.Prelude.{if◌then◌else◌, bytes_eq, ◌&&◌}
use Rattle.std.specs.List.{AllByRecursion, IsDistinct}
use Rattle.std.proofs.lemmas.Bool.{false≢true}
use Rattle.std.proofs.lemmas.Slice.Eq.{bytes_eq-Decides}
use Rattle.ob_tree.specs.declared.names.QName.{QName}
use Rattle.ob_types.specs.declared.desc.Desc.{Desc}
use Rattle.ob_types.specs.declared.face.Use.{Use}
use Rattle.ob_types.specs.TypedSyntax.{Procedure, Module}
use Rattle.ob_format.specs.Format.{list_of}
use Rattle.ob_format.specs.Names.{name as name_form, is_identifier}
use Rattle.ob_obj.specs.declared.parts.Command.{Command}
use Rattle.ob_obj.specs.declared.parts.Export.{Export}
use Rattle.ob_obj.specs.declared.parts.StringConst.{StringConst}
use Rattle.ob_obj.specs.declared.file.ObjFile.{ObjFile}
use Rattle.ob_obj.specs.Grammar.{string, globals, command, body, file}
use Rattle.ob_scheme.specs.Object.{is_full, is_free, commands_among, commands, object_file}
use Rattle.ob_link.specs.Plan.{is_there}
use Rattle.ob_link.specs.Files.{command_number, has_procedure}
use Rattle.law_load_plan.proofs.Exports.{eq_itself}
use Rattle.law_load_plan.proofs.Commands.{order_found, distinct_from, apart_among}
use Rattle.std.specs.Prelude.{map}

strings_fit : (ss : List StringConst) → AllByRecursion string.fits ss → AllByRecursion (λ s. length s.text ≤ s.words) ss
unfolding string
strings_fit [] h = tt
strings_fit (s ∷ ss) h = let l = h.0.1 in (omega (arith, l), strings_fit ss h.1)

-- no string is longer than its words
pub long_strings : (f : ObjFile) → file.fits f → AllByRecursion (λ s. length s.text ≤ s.words) f.globals.strings
unfolding file globals list_of
long_strings f h = strings_fit f.globals.strings h.0.1.0.0.1.0.1

names_fit : (cs : List Command) → AllByRecursion command.fits cs → AllByRecursion (λ c. is_identifier c.name ≡ true) cs
unfolding command name_form
names_fit [] h = tt
names_fit (c ∷ cs) h = (h.0.0.1, names_fit cs h.1)

commands_fit : (f : ObjFile) → file.fits f → AllByRecursion (λ c. is_identifier c.name ≡ true) f.body.commands
unfolding file body list_of
commands_fit f h = names_fit f.body.commands h.0.1.1.1.1.1.0.0.1

one_named : (n : List ℕ) (cs : List Command) → AllByRecursion (λ c. is_identifier c.name ≡ true) cs → has_procedure n cs ≡ true → is_identifier n ≡ true
one_named n [] h e = absurd (false≢true e)
one_named n (c ∷ cs) h e = go (bytes_eq n c.name) refl e (λ i. one_named n cs h.1 i)
  where
    go : (b : Bool) → bytes_eq n c.name ≡ b → is_there (if b then Some c.procedure else command_number n cs) ≡ true → (has_procedure n cs ≡ true → is_identifier n ≡ true) → is_identifier n ≡ true
    go true f i rest = ap is_identifier ((bytes_eq-Decides n c.name).0 f) ∙ h.0
    go false f i rest = rest i

abbrev IsCommand : Procedure → Type 0
IsCommand p = (is_full p.mark && is_free p.binding) ≡ true

module _ (types : QName → Option Desc) (m : Module) where
  abbrev with_command : Bool → Procedure → ℕ → List Command → List Command
  with_command b p k cs = if b then record { name = p.name; procedure = k } ∷ cs else cs

  more : (n : List ℕ) (b : Bool) (p : Procedure) (k : ℕ) (cs : List Command) → has_procedure n cs ≡ true → has_procedure n (with_command b p k cs) ≡ true
  more n false p k cs h = h
  more n true p k cs h = go (bytes_eq n p.name)
    where
      go : (t : Bool) → is_there (if t then Some k else command_number n cs) ≡ true
      go true = refl
      go false = h

  here : (p : Procedure) (k : ℕ) (cs : List Command) → IsCommand p → has_procedure p.name (with_command (is_full p.mark && is_free p.binding) p k cs) ≡ true
  here p k cs e =
      ap (λ b. has_procedure p.name (with_command b p k cs)) e
      ∙ ap (λ b. is_there (if b then Some k else command_number p.name cs)) (eq_itself p.name)

  weaker : (p : Procedure) (k : ℕ) (cs : List Command) (qs : List Procedure) → AllByRecursion (λ q. IsCommand q → has_procedure q.name cs ≡ true) qs → AllByRecursion (λ q. IsCommand q → has_procedure q.name (with_command (is_full p.mark && is_free p.binding) p k cs) ≡ true) qs
  weaker p k cs [] h = tt
  weaker p k cs (q ∷ qs) h = (λ e. more q.name (is_full p.mark && is_free p.binding) p k cs (h.0 e), weaker p k cs qs h.1)

  among : (ps : List Procedure) (k : ℕ) → AllByRecursion (λ p. IsCommand p → has_procedure p.name (commands_among types m ps k) ≡ true) ps
  among [] k = tt
  among (p ∷ ps) k = (here p k (commands_among types m ps (suc k)), weaker p k (commands_among types m ps (suc k)) ps (among ps (suc k)))

  identified : (ps : List Procedure) → ((p : Procedure) → has_procedure p.name (commands_among types m m.procedures 1) ≡ true → is_identifier p.name ≡ true) → AllByRecursion (λ p. IsCommand p → has_procedure p.name (commands_among types m m.procedures 1) ≡ true) ps → AllByRecursion (λ p. IsCommand p → is_identifier p.name ≡ true) ps
  identified [] f h = tt
  identified (p ∷ ps) f h = (λ e. f p (h.0 e), identified ps f h.1)

  -- the exported procedures that are not bound are named by identifiers, where their file has a spelling and names differ
  pub names_spelled : (exports : List Export) (uses : List Use) → IsDistinct bytes_eq (map (λ p. p.name) m.procedures) → file.fits (object_file types m exports uses) → AllByRecursion (λ p. IsCommand p → is_identifier p.name ≡ true) m.procedures
  names_spelled exports uses names fits =
      identified m.procedures
      (λ p h. one_named p.name (commands types m) (commands_fit (object_file types m exports uses) fits)
      (ap is_there (order_found p.name (commands_among types m m.procedures 1) (apart_among types m m.procedures 1 (distinct_from m.procedures names))) ∙ h))
      (among m.procedures 1)
