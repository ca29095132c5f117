-- The types of each module differ in name, and stand behind the types of the module that they extend.
use Rattle.std.proofs.Common.{◌≡◌, ◌<◌, ℕ, suc, ◌+◌, List, [], ◌∷◌, ◌++◌, length, map, Option, Some, None, refl, sym, ap, subst, ◌∙◌, arith, append_assoc, inl, inr}
use Rattle.std.proofs.lemmas.Bool.{false≢true}
use Rattle.std.proofs.lemmas.Bool.Decides.{nat_tests}
use Rattle.std.specs.Prelude.{Bool, true, false, bytes_eq, nat_lt, if◌then◌else◌}
use Rattle.std.specs.List.{IsDistinct}
use Rattle.ob_tree.specs.declared.names.QName.{QName}
use Rattle.ob_types.specs.declared.desc.Desc.{Desc}
use Rattle.ob_types.specs.declared.desc.Desc.TheVariants as desc
use Rattle.ob_types.specs.declared.typed.TypedType.{TypedType}
use Rattle.ob_types.specs.TypedSyntax.{Module}
use Rattle.ob_obj.specs.declared.parts.Base.TheVariants as base
use Rattle.ob_obj.specs.declared.parts.RecordType.{RecordType}
use Rattle.ob_obj.specs.Grammar.{file, base_stands, bases_stand}
use Rattle.ob_meaning.specs.Values.{Program, description, type_named}
use Rattle.ob_scheme.specs.Context.{is_own, type_index}
use Rattle.ob_scheme.specs.Numbers.{same_type, number_among}
use Rattle.ob_scheme.specs.Object.{own, base_type, base_in, record_in, records_in, type_links}
use Rattle.law_simulation_relation.specs.Relation.{ModulesOk}
use Rattle.law_typing_forms.proofs.Modules.{of_all}
use Rattle.law_image_code.specs.Described.{IsDescribed}
use Rattle.law_image_links.specs.Files as linking
use Rattle.law_image_links.proofs.Linked.{sound}
use Rattle.law_image_links.proofs.SameFile.{files_same}
use Rattle.law_image_tables.specs.Declared.{typed, IsBefore, past}
use Rattle.law_image_tables.specs.Settled.{TypesSettled, IsInOrder, AreInOrder, AllDeclared}
use Rattle.law_image_tables.proofs.Settled.{TypesDiffer as NamesDiffer, types_differ, named_here, description_here, base_named}
use Rattle.ob_compile_model.specs.Compiling.{Compiled, texts, object_by, exports_of, interface_by}
use Rattle.ob_layout.specs.LaidOut.{viewed}
use Rattle.ob_env.specs.Faces.{described}
use Rattle.ob_builds.specs.Builds.{Text, Build, IsValid, of, tree_of, file_of}
use Rattle.ob_builds.specs.Written.{BuildsAreWritten}
use Rattle.law_builds.proofs.Members.{In, of_in}
use Rattle.law_builds.proofs.Faces.{of_is}
use Rattle.law_builds.proofs.Gone.{all_valid}
use Rattle.law_program_runs.specs.Builds.{program_of, AreLoaded}
use Rattle.law_program_runs.proofs.Settings.{loaded_front}
use Rattle.law_program_image.specs.Owed.{in_program}
use Rattle.law_program_image.specs.Premises.{TypesDiffer, LoadedAreSame}
use Rattle.law_program_image.specs.Laws.{LoadedAreDeclared}
use Rattle.law_program_image.proofs.Settled.{sound_are_settled}
use Rattle.law_lists.proofs.Lists.{and_parts}

-- ONE MODULE

module _ (program : Program) (settled : TypesSettled program) (says : IsDescribed (description program) program) (md : Module) where
  abbrev types : QName → Option Desc
  types = description program

  stands_before : (links : List QName) (n : ℕ) (o : Option QName) → base_stands (length links) n (base_in types md links o) ≡ true → IsBefore program types md n o
  stands_before links n None h = tt
  stands_before links n (Some q) h = go (is_own (own types md) q.«module») refl h
    where
      go : (b : Bool) → is_own (own types md) q.«module» ≡ b → base_stands (length links) n (if b then base.Own (type_index (own types md) q.object) else base.Link (number_among same_type links q)) ≡ true → is_own (own types md) q.«module» ≡ true → type_index (own types md) q.object < n
      go true e h i = let l : nat_lt (type_index (own types md) q.object) n ≡ true = h in grind (arith, nat_tests)
      go false e h i = absurd (false≢true (sym e ∙ i))

  one : (links : List QName) (x : List ℕ) (d : Desc) (i : ℕ) (rs : List RecordType) → description program (typed md.name x) ≡ Some d → bases_stand (length links) i (record_in types md links x d ++ rs) ≡ true → IsInOrder program types md x d i × (bases_stand (length links) (past program types md d i) rs ≡ true)
  one links x (desc.Record r) i rs e h =
      let both = and_parts (base_stands (length links) i (base_in types md links (base_type types md r.base))) (bases_stand (length links) (i + 1) rs) h in
      let n : i + 1 ≡ suc i = omega arith in
      let b = base_named program settled types md says (λ q. refl) (typed md.name x) r (settled.records (typed md.name x) r e) in
      (subst (IsBefore program types md i) b (stands_before links i (base_type types md r.base) both.0), subst (λ k. bases_stand (length links) k rs ≡ true) n both.1)
  one links x d i rs e h = (tt, h)

  all_in_order : (links : List QName) (front ts : List TypedType) (i : ℕ) → md.types ≡ front ++ ts → NamesDiffer md.types → ((x : List ℕ) → description program (typed md.name x) ≡ type_named md.types x) → bases_stand (length links) i (records_in types md links ts) ≡ true → AreInOrder program types md ts i
  all_in_order links front [] i is apart here h = tt
  all_in_order links front (t ∷ ts) i is apart here h =
      let found = here t.name ∙ ap (λ l. type_named l t.name) is ∙ named_here front t ts (subst NamesDiffer is apart) in
      let k = one links t.name t.desc i (records_in types md links ts) found h in
      (k.0, all_in_order links (front ++ t ∷ []) ts (past program types md t.desc i) (is ∙ sym (append_assoc front (t ∷ []) ts)) apart here k.1)

-- ALL OF THEM

-- a build's file fits, also by the descriptions of the program, and its types differ in name
record IsFit (program : Program) (b : Build) : Type 0 where
  fits : file.fits (linking.file_of (in_program program b))
  different : IsDistinct bytes_eq (map (λ t. t.name) (tree_of b).types)

module _ (program : Program) (settled : TypesSettled program) (says : IsDescribed (description program) program) (ok : ModulesOk program program) where
  all_declared : (front : List Module) (xs : List Build) → program ≡ front ++ map tree_of xs → ((b : Build) → In xs b → IsFit program b) → AllDeclared program (map (in_program program) xs)
  all_declared front [] whole h = tt
  all_declared front (b ∷ xs) whole h =
      let f = h b (inl refl) in
      let here : (x : List ℕ) → description program (typed (tree_of b).name x) ≡ type_named (tree_of b).types x = λ x. ap (λ p. description p (typed (tree_of b).name x)) whole ∙ description_here front (tree_of b) (map tree_of xs) program x (subst (ModulesOk program) whole ok) in
      let links = type_links (description program) (tree_of b) in
      let stand = (sound (linking.file_of (in_program program b)) f.fits).bases in (
        record {
          different = f.different;
          order = all_in_order program settled says (tree_of b) links [] (tree_of b).types 0 refl (types_differ (tree_of b).types f.different) here stand;
          whole = λ q. refl;
        },
        all_declared (front ++ tree_of b ∷ []) xs (whole ∙ sym (append_assoc front (tree_of b ∷ []) (map tree_of xs))) (λ b i. h b (inr i)),
      )

fit_at : BuildsAreWritten → TypesDiffer → LoadedAreSame → (bs more : List Build) → AreLoaded (bs ++ more) → (b : Build) → In bs b → IsFit (program_of bs) b
fit_at written differ same bs more l b i =
    let c = of_in bs b i in
    let v = of_all (λ x. (c : Compiled Text) × IsValid x c) bs b (all_valid bs (loaded_front bs more l).together) i in
    let e = of_is b v.0 v.1 in
    let fits : file.fits (file_of b) = subst (λ (x : Compiled Text). file.fits (object_by texts x)) (sym e) (written b v.0 v.1).object in
    record {
      fits = subst file.fits (files_same (viewed (described (of b).against) (tree_of b)) (description (program_of bs)) (tree_of b) (same bs more l b c) (exports_of (interface_by texts (of b))) (interface_by texts (of b)).uses) fits;
      different = subst (λ (x : Compiled Text). IsDistinct bytes_eq (map (λ t. t.name) x.tree.types)) (sym e) (differ b v.0 v.1);
    }

pub loaded_are_declared : LoadedAreDeclared
loaded_are_declared written differ are_sound describe same bs more l c is =
    let first = loaded_front bs more l in
    all_declared (program_of bs) (sound_are_settled (program_of bs) (are_sound bs first)) (describe bs first) (subst (λ p. ModulesOk p p) is.program c.ok) [] bs refl (fit_at written differ same bs more l)
