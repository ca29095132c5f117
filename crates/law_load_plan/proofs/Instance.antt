-- What is asked of compiled modules is told alike of their object files.
use Rattle.std.proofs.Common.{◌≡◌, List, [], ◌∷◌, map, refl, sym, ap}
use Rattle.ob_fprint.specs.Print.{print_from}
use Rattle.ob_obj.specs.declared.file.ObjFile.{ObjFile}
use Rattle.ob_layout.specs.LaidOut.{viewed}
use Rattle.ob_env.specs.Faces.{Wanted, wanted_of, use_of, described}
use Rattle.ob_compile_model.specs.Compiling.{Compiled, texts, exports_of, interface_by}
use Rattle.ob_link.specs.Files as files
use Rattle.law_load_plan.specs.Alike.{wanted_as, AreAskedAlike}
use Rattle.law_load_plan.specs.Compiled.{Text, IsKnown, file_of, asks_by, AreLinked}
use Rattle.law_load_plan.proofs.Exports.{exports_shown}
use Rattle.law_load_plan.proofs.Commands.{command_found}
use Rattle.law_load_plan.proofs.Globals.{globals_are}

-- ---- uses

uses_kept : (us : List (Wanted Text)) → map wanted_of (map use_of (map (wanted_as print_from) us)) ≡ map (wanted_as print_from) us
uses_kept [] = refl
uses_kept (u ∷ us) = ap (λ l. wanted_as print_from u ∷ l) (uses_kept us)

-- ---- compiled modules

module _ (P : Text → Type 0) {A : Type 0} (of : A → Compiled Text) where
  abbrev IsOne : A → Type 0
  IsOne x = IsKnown P (of x)

  abbrev twin : A → ObjFile
  twin x = file_of (of x)

  -- What a load asks of compiled modules is told alike of their object files, where their links are met.
  pub compiled_alike : AreLinked of IsOne → AreAskedAlike (asks_by of) files.asks twin print_from IsOne
  compiled_alike linked = record {
    name = λ x k. sym (ap (λ f. f.«module») k.shows);
    imports = λ x k. sym (ap (λ f. f.imports) k.shows);
    uses = λ x k. uses_kept (of x).shows.uses;
    keeps = λ x k name aspect. exports_shown (of x).tree (of x).shows (ap (λ f. f.objects) k.shows) name aspect;
    links = linked;
    words = λ x k. globals_are (viewed (described (of x).against) (of x).tree) (of x).tree (exports_of (interface_by texts (of x))) (interface_by texts (of x)).uses k.room;
    has_command = λ x k name. command_found (viewed (described (of x).against) (of x).tree) (of x).tree name k.procedures;
  }
