-- The modules of a program stand in the image of their files as they were compiled.
use Rattle.std.proofs.Common.{◌≡◌, ℕ, suc, ◌+◌, List, [], ◌∷◌, ◌++◌, length, map, refl, sym, ap, ◌∙◌, subst, arith, Some}
use Rattle.std.specs.Prelude.{IsSome}
use Rattle.ob_types.specs.declared.typed.TypedVariable.{TypedVariable}
use Rattle.ob_types.specs.TypedSyntax.{Module}
use Rattle.ob_instr.specs.Image.{ModuleImage, Image}
use Rattle.ob_obj.specs.declared.file.ObjFile.{ObjFile}
use Rattle.ob_obj.specs.Grammar.{words_of}
use Rattle.ob_obj.specs.Images.{linked_variable, linked_procedure, or_zero, or_first, type_links, module_of, global_words, entered, image_of, AreEnterable}
use Rattle.ob_meaning.specs.Values.{Program}
use Rattle.ob_meaning.specs.Globals.{words_of_variables, all_globals, globals_words}
use Rattle.ob_meaning.specs.Calls.{held_variable}
use Rattle.ob_scheme.specs.Numbers.{nothing_named}
use Rattle.ob_scheme.specs.Procedures.{module_code}
use Rattle.ob_scheme.specs.Object.{own_words, all_named}
use Rattle.law_simulation_relation.specs.Layout.{module_offset, slots_words}
use Rattle.law_simulation_relation.specs.Relation.{ModulesOk}
use Rattle.law_simulation_relation.specs.Setting.{Setting}
use Rattle.law_simulation_relation.proofs.Lengths.{module_length}
use Rattle.law_image_code.specs.Described.{IsDescribed}
use Rattle.law_image_code.specs.Compiled.{AllCompiled, IsCompiled}
use Rattle.law_image_code.proofs.Words.{local_sum}
use Rattle.law_image_code.proofs.Entered.{entered_stands}
use Rattle.law_image_links.specs.Files.{Build, file_of, empty, AreFiles, KeepsRules, AllKeepRules, CompiledStand}
use Rattle.law_image_links.proofs.Lines.{lines_strings}
use Rattle.law_image_links.proofs.Statements.{module_words}
use Rattle.law_image_links.proofs.Lookup.{all_at, map_at}
use Rattle.law_image_links.proofs.Modules.{ModulesAre, one_more, variable_link, procedure_link}
use Rattle.law_image_links.proofs.Entering.{IsApart, apart_more, types_in, own_is, types_are, links_are, offset_here, all_more, own_strings}
use Rattle.law_lists.proofs.Lists.{length_last}

-- THE WORDS OF A MODULE'S GLOBALS

variables_words : (program : Program) (vs : List TypedVariable) → slots_words (map (held_variable program) vs) ≡ words_of_variables program vs
variables_words program [] = refl
variables_words program (v ∷ vs) = let h = variables_words program vs in omega (arith, h)

pub file_words : (b : Build) (program : Program) → IsDescribed b.types program → global_words (file_of b) ≡ globals_words program b.unit
file_words b program described =
    let v = local_sum b.types program described b.unit.variables ∙ variables_words program b.unit.variables in
    let s = lines_strings (nothing_named (own_words b.types b.unit)) (module_code b.types b.unit) in
    let t = ap length (module_words b.types b.unit program described) ∙ module_length program b.unit in
    ap (λ n. n + words_of (all_named b.types b.unit).strings) v ∙ ap (λ n. words_of_variables program b.unit.variables + n) (s ∙ omega (arith, t))

module _ (c : Setting) where
  abbrev units : List Build → List Module
  units bs = map (λ b. b.unit) bs

  units_more : (bs : List Build) (b : Build) (rest : List Module) → units (bs ++ b ∷ []) ++ rest ≡ units bs ++ b.unit ∷ rest
  units_more [] b rest = refl
  units_more (a ∷ bs) b rest = ap (λ l. a.unit ∷ l) (units_more bs b rest)

  units_one : (bs : List Build) (b : Build) → units (bs ++ b ∷ []) ≡ units bs ++ b.unit ∷ []
  units_one [] b = refl
  units_one (a ∷ bs) b = ap (λ l. a.unit ∷ l) (units_one bs b)

  rules_more : (bs : List Build) (b : Build) → AllKeepRules c bs → KeepsRules c b → AllKeepRules c (bs ++ b ∷ [])
  rules_more [] b h k = (k, tt)
  rules_more (a ∷ bs) b h k = (h.0, rules_more bs b h.1 k)

  -- THE IMAGE of the first modules
  record Entered (bs : List Build) (img : Image) : Type 0 where
    pub modules : ModulesAre c bs img.modules
    pub number : length (units bs) ≡ length img.modules
    pub next : img.next ≡ suc (all_globals c.program (units bs))
    pub types : IsApart img
    pub rules : AllKeepRules c bs

  -- with one more
  module _ (bs : List Build) (img : Image) (h : Entered bs img) (b : Build) (back : List Module) (whole : c.program ≡ units bs ++ b.unit ∷ back) (rules : KeepsRules c b) where
    abbrev f : ObjFile
    f = file_of b

    abbrev u : ModuleImage
    u = module_of img f

    ok : ModulesOk c.program (units bs ++ b.unit ∷ back)
    ok = subst (ModulesOk c.program) whole c.ok

    place : img.next ≡ suc (module_offset c.program c.program b.unit.name)
    place = h.next ∙ ap suc (sym (ap (λ p. module_offset c.program p b.unit.name) whole ∙ offset_here c.program (units bs) b.unit back ok))

    entered_more : Entered (bs ++ b ∷ []) (entered img f)
    entered_more =
        let words = file_words b c.program rules.described in
        let more = all_more c.program (units bs) b.unit in
        let first = h.next in
        record {
          modules = one_more c bs img.modules b u h.modules (record { name = refl; first = place; variables = refl; commands = refl });
          number = ap length (units_one bs b) ∙ length_last (units bs) b.unit ∙ ap suc h.number ∙ sym (length_last img.modules u);
          next = omega (arith, first, words, more) ∙ ap (λ l. suc (all_globals c.program l)) (sym (units_one bs b));
          types = apart_more img f h.types;
          rules = rules_more bs b h.rules rules;
        }

    stands : (files : List ObjFile) → c.img ≡ image_of (entered img f) files → AreEnterable img (f ∷ files) → IsCompiled c b.types b.unit (length img.modules) u
    stands files loaded can =
        let t = types_in b img files h.types can in
        let all = ap (λ i. i.types) loaded ∙ t.is in
        let n = all_named b.types b.unit in
        entered_stands c b.types b.unit b.exports b.uses img files (units bs) back whole h.number loaded place rules.described
        (own_strings b.types b.unit c.program rules.described (units bs) back whole ok)
        (record {
          variables = λ k x e. map_at (λ y. or_zero (linked_variable img.modules y)) n.variables k x e ∙ ap (λ v. Some v) (variable_link c bs img.modules (b.unit ∷ back) whole h.modules h.rules x (all_at (λ y. IsSome (linked_variable img.modules y)) n.variables k x can.0.variables e));
          procedures = λ k x e. map_at (λ y. or_first (linked_procedure img.modules y)) n.procedures k x e ∙ ap (λ v. Some v) (procedure_link c bs img.modules (b.unit ∷ back) whole h.modules h.rules x (all_at (λ y. IsSome (linked_procedure img.modules y)) n.procedures k x can.0.procedures e));
          types = λ k q e. links_are b.types b.unit f.links.types img.types t.own t.behind c.img.types all t.none t.are t.others k q can.0.types e;
        })
        (own_is b.types b.unit f.links.types img.types t.own t.behind c.img.types all t.none t.are t.others)
        (λ x i. types_are b.types b.unit f.links.types img.types t.own t.behind c.img.types all t.none t.are t.others (type_links img f) x i)

  -- each build stands in the image as it was compiled
  abbrev pub BuildsCompiled : List Build → Type 0
  BuildsCompiled [] = Unit {0}
  BuildsCompiled (b ∷ bs) = ((m : ℕ) × (u : ModuleImage) × IsCompiled c b.types b.unit m u) × BuildsCompiled bs

  stand_from : (bs : List Build) (img : Image) (back : List Build) (more : List ObjFile) → Entered bs img → c.program ≡ units bs ++ units back → c.img ≡ image_of img (map file_of back ++ more) → AreEnterable img (map file_of back ++ more) → AllKeepRules c back → BuildsCompiled back
  stand_from bs img [] more h whole loaded can rules = tt
  stand_from bs img (b ∷ back) more h whole loaded can rules = (
    (length img.modules, module_of img (file_of b), stands bs img h b (units back) whole rules.0 (map file_of back ++ more) loaded can),
    stand_from (bs ++ b ∷ []) (entered img (file_of b)) back more (entered_more bs img h b (units back) whole rules.0) (whole ∙ sym (units_more bs b (units back))) loaded can.1 rules.1,
  )

  pub all_compiled : (bs : List Build) → BuildsCompiled bs → AllKeepRules c bs → AllCompiled c (units bs)
  all_compiled [] h rules = tt
  all_compiled (b ∷ bs) h rules = ((b.types, h.0.0, h.0.1, h.0.2, rules.0.checked), all_compiled bs h.1 rules.1)

pub builds_compiled : (c : Setting) (builds : List Build) (more : List ObjFile) → AreFiles c builds more → AllKeepRules c builds → BuildsCompiled c builds
builds_compiled c builds more files rules = stand_from c [] (empty files.room) builds more (record { modules = tt; number = refl; next = refl; types = λ name e. tt; rules = tt }) files.program files.image files.enterable rules

-- THE LAW
pub compiled_stand : CompiledStand
compiled_stand c builds more files rules = subst (AllCompiled c) (sym files.program) (all_compiled c builds (builds_compiled c builds more files rules) rules)
