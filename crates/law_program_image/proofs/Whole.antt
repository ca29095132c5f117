-- What is owed gives that builds stand.
use Rattle.std.proofs.Common.{◌≡◌, ℕ, List, [], ◌∷◌, ◌++◌, length, map, refl, sym, ap, ◌∙◌, subst, append-nil, inl, inr}
use Rattle.std.specs.Prelude.{◌≤◌, Contains, ◌⊎◌}
use Rattle.std.specs.List.{AllByRecursion}
use Rattle.ob_obj.specs.declared.file.ObjFile.{ObjFile}
use Rattle.ob_obj.specs.Grammar.{file}
use Rattle.ob_obj.specs.Images.{string_words, image_of, AreEnterable}
use Rattle.ob_meaning.specs.Values.{Program, description}
use Rattle.ob_meaning.specs.Commands.{body_name, body_procedure}
use Rattle.ob_layout.specs.LaidOut.{viewed}
use Rattle.ob_env.specs.Faces.{described}
use Rattle.law_simulation_relation.specs.Setting.{Setting}
use Rattle.law_image_links.specs.Files as linking
use Rattle.law_image_links.proofs.SameFile.{files_same}
use Rattle.law_image_links.proofs.Contents.{files_have}
use Rattle.law_simulation.proofs.TypedIsIn.{procedures_are_in, bodies_are_in}
use Rattle.law_image_tables.specs.Image as tables
use Rattle.law_image_tables.proofs.Image.{program_from_files}
use Rattle.ob_link.specs.Members.{empty_image}
use Rattle.ob_compile_model.specs.Compiling.{texts, exports_of, interface_by}
use Rattle.ob_builds.specs.Builds.{Build, of, tree_of, file_of}
use Rattle.law_builds.proofs.Members.{In, to_in, of_in}
use Rattle.law_program_runs.specs.Builds.{program_of, AreLoaded, AreEntered, HasModule, IsOf, BodyStands, AllStand, BuildsStand}
use Rattle.law_program_image.specs.Owed.{in_program, Owed, OwedGives}

module _ (o : Owed) where
  -- a build's file is its module's, by the descriptions of the program
  same_file : (bs more : List Build) → AreLoaded (bs ++ more) → (b : Build) → Contains bs b → file_of b ≡ linking.file_of (in_program (program_of bs) b)
  same_file bs more l b i = files_same (viewed (described (of b).against) (tree_of b)) (description (program_of bs)) (tree_of b) (o.same bs more l b i) (exports_of (interface_by texts (of b))) (interface_by texts (of b)).uses

  same_files : (p : Program) (xs more : List Build) → ((b : Build) → In xs b → file_of b ≡ linking.file_of (in_program p b)) → map file_of (xs ++ more) ≡ map linking.file_of (map (in_program p) xs) ++ map file_of more
  same_files p [] more h = refl
  same_files p (x ∷ xs) more h = ap (λ f. f ∷ map file_of (xs ++ more)) (h x (inl refl)) ∙ ap (λ l. linking.file_of (in_program p x) ∷ l) (same_files p xs more (λ b i. h b (inr i)))

  same_program : (p : Program) (xs : List Build) → program_of xs ≡ map (λ b. b.unit) (map (in_program p) xs)
  same_program p [] = refl
  same_program p (x ∷ xs) = ap (λ l. tree_of x ∷ l) (same_program p xs)

  -- FILES

  module_has : (bs : List Build) → AreLoaded bs → (b : Build) → Contains bs b → HasModule (program_of bs) b
  module_has bs l b i =
      let e = same_file bs [] (subst AreLoaded (sym (append-nil bs)) l) b i in
      let fits = subst file.fits e (o.fits bs l b i) in
      let h = files_have (program_of bs) (in_program (program_of bs) b) (o.described bs l) fits in
      record {
        name = o.names bs l b i;
        variables = ap (λ f. f.globals.variable_words) e ∙ h.variables;
        strings = ap (λ f. string_words f.globals.strings) e ∙ h.strings;
        long = subst (λ f. AllByRecursion (λ s. length s.text ≤ s.words) f.globals.strings) (sym e) h.long;
        words = o.words bs l b i;
        short = subst (λ f. length f.body.code ≤ 262144) (sym e) h.short;
        commands = o.commands bs l b i;
        forms = o.variables bs l b i;
      }

  -- PROGRAMS

  body_at : (c : Setting) (p : Program) (xs : List Build) (b : Build) → tables.BodiesStand c (map (in_program p) xs) → In xs b → tables.StandsWithTables c (body_name (tree_of b)) (body_procedure (tree_of b))
  body_at c p [] b h i = absurd i
  body_at c p (x ∷ xs) b h (inl e) = subst (λ y. tables.StandsWithTables c (body_name (tree_of y)) (body_procedure (tree_of y))) e h.0
  body_at c p (x ∷ xs) b h (inr i) = body_at c p xs b h.1 i

  all_stand : (bs more : List Build) → AreEntered (bs ++ more) → (c : Setting) → IsOf c o.values bs more → AllStand c bs
  all_stand bs more l c is =
      let p = program_of bs in
      let files = same_files p bs more (λ b i. same_file bs more l.loaded b (of_in bs b i)) in
      let r = program_from_files c (map (in_program p) bs) (map file_of more) (record {
        room = empty_image.room;
        program = is.program ∙ same_program p bs;
        image = is.image ∙ ap (image_of empty_image) files;
        enterable = subst (AreEnterable empty_image) files (o.enterable (bs ++ more) l);
      }) (o.rules bs more l.loaded c is) in
      record {
        image = r.image;
        forms = procedures_are_in c r.image.linked;
        bodies = λ b i. let s = body_at c p bs b r.bodies (to_in bs b i) in record { stands = s.stands; tables = s.tables; forms = bodies_are_in c (tree_of b) s.stands };
      }

pub builds_stand : OwedGives
builds_stand o = record {
  values = o.values;
  different = o.different;
  modules = module_has o;
  stand = all_stand o;
  forms_stay = o.forms_stay;
  values_stay = o.values_stay;
}
