-- A program stands in the image of its files.
use Rattle.std.proofs.Common.{arith, ◌≡◌, suc, List, [], ◌∷◌, ◌++◌, length, map, refl, sym, ap, ◌∙◌, subst, append_assoc, append-nil, Option, Some}
use Rattle.std.specs.Prelude.{Bool, true, false, ◌&&◌, bytes_eq, slice_get, if◌then◌else◌}
use Rattle.std.proofs.lemmas.Option.{none-some}
use Rattle.ob_tree.specs.declared.names.QName.{QName}
use Rattle.ob_types.specs.declared.desc.Desc.{Desc}
use Rattle.ob_types.specs.TypedSyntax.{Procedure, Module}
use Rattle.ob_tdesc.specs.declared.descriptor.Descriptor.{Descriptor}
use Rattle.ob_instr.specs.Image.{Image}
use Rattle.ob_obj.specs.declared.file.ObjFile.{ObjFile}
use Rattle.ob_obj.specs.Images.{type_links, entered, image_of, AreEnterable}
use Rattle.ob_meaning.specs.Values.{description, number_of_types, procedure_named, procedure_of}
use Rattle.ob_scheme.specs.Descriptions.{method_number}
use Rattle.law_simulation_relation.specs.Layout.{type_number}
use Rattle.law_simulation_relation.specs.Relation.{OrElse}
use Rattle.law_simulation_relation.specs.Typed.{IsRecordType}
use Rattle.law_simulation_relation.specs.Setting.{Setting}
use Rattle.law_simulation_calls.specs.Tables.{TablesStand}
use Rattle.law_image_code.specs.Descriptors.{DescriptorsFit, IsDescriptor}
use Rattle.law_image_code.proofs.Types.{Found, found_in, types_fit, records_fit}
use Rattle.law_image_code.proofs.Linking.{StandsBy, one_stands, body_stands_by}
use Rattle.law_image_links.specs.Files.{Build, file_of, empty, AllKeepRules}
use Rattle.law_image_links.proofs.Whole.{BuildsCompiled, builds_compiled}
use Rattle.law_image_tables.specs.Based.{AllBasesDeclared}
use Rattle.law_image_tables.specs.Families.{NumbersAgree, AllFamiliesDeclared}
use Rattle.law_image_tables.specs.Image.{AllDeclarationsFit, AllBodiesChecked, StandsWithTables, BodiesStand, ProgramFromFiles}
use Rattle.law_image_tables.proofs.Few.{Few, few_from, all_few}
use Rattle.law_image_tables.proofs.Numbered.{numbered}
use Rattle.law_image_tables.proofs.Declared.{declared_record}
use Rattle.law_image_tables.proofs.Entering.{behind, units, Front, front_more, bases_from_files}
use Rattle.law_image_tables.proofs.Loaded.{tables_from_files}
use Rattle.law_image_tables.proofs.Redefined.{families_stand}
use Rattle.law_lists.proofs.Lists.{get_front}

-- THE WORDS OF RECORD TYPES

number_front : (ds es : List Descriptor) (q : QName) → IsDescriptor ds q → type_number (ds ++ es) q ≡ type_number ds q
number_front [] es q i = absurd i
number_front (d ∷ ds) es q i = go (bytes_eq q.«module» d.«module» && bytes_eq q.object d.name) i (λ j. number_front ds es q j)
  where
    go : (b : Bool) → OrElse b (Unit {0}) (IsDescriptor ds q) → (IsDescriptor ds q → type_number (ds ++ es) q ≡ type_number ds q) → (if b then 0 else suc (type_number (ds ++ es) q)) ≡ (if b then 0 else suc (type_number ds q))
    go true i more = refl
    go false i more = ap suc (more i)

module _ (c : Setting) where
  size_from : (ms : List Module) (img : Image) (bs : List Build) (more : List ObjFile) → Front c ms img → DescriptorsFit c.program img.types → c.program ≡ ms ++ units c bs → c.img ≡ image_of img (map file_of bs ++ more) → AreEnterable img (map file_of bs ++ more) → AllBasesDeclared c.program bs → AllDeclarationsFit c.program bs → (q : QName) → IsRecordType c.program q → Found c.program c.img.types q
  size_from ms img [] more h fit whole loaded can declared sizes q is =
      let l = behind img more in
      let all : c.img.types ≡ img.types ++ l.descriptors = ap (λ (i : Image). i.types) loaded ∙ l.is in
      let d = declared_record (description c.program) (number_of_types c.program) _ q is.0 _ is.1 in
      let there = h.there q d.0 (ap (λ p. description p q) (sym (whole ∙ append-nil ms)) ∙ d.1) in
      let t = found_in c.program img.types q fit there in
      record { descriptor = t.descriptor; found = ap (λ l. slice_get l (type_number l q)) all ∙ ap (slice_get (img.types ++ l.descriptors)) (number_front img.types l.descriptors q there) ∙ get_front img.types l.descriptors (type_number img.types q) t.descriptor t.found; size = t.size }
  size_from ms img (b ∷ bs) more h fit whole loaded can declared sizes q is =
      let f = file_of b in
      let fit2 = types_fit c.program b.unit.name (length img.types) (type_links img f) (length img.modules) img.types f.body.types fit (records_fit b.types b.unit c.program f.links.types b.unit.types sizes.0) in
      size_from (ms ++ b.unit ∷ []) (entered img f) bs more (front_more c ms img h b declared.0 (map file_of bs ++ more) loaded can) fit2 (whole ∙ sym (append_assoc ms (b.unit ∷ []) (units c bs))) loaded can.1 declared.1 sizes.1 q is

  -- PROCEDURES, by the tables of their module's numbers

  abbrev AllTables : List Build → Type 0
  AllTables [] = Unit {0}
  AllTables (b ∷ bs) = TablesStand c (λ f. method_number b.types f.owner f.name) × AllTables bs

  with_tables : (types : QName → Option Desc) (q : QName) (p : Procedure) → StandsBy c types q p → TablesStand c (λ f. method_number types f.owner f.name) → StandsWithTables c q p
  with_tables types q p s t = record { stands = s.stands; tables = subst (TablesStand c) (sym s.methods_are) t }

  procedures_from : (bs : List Build) → BuildsCompiled c bs → AllKeepRules c bs → AllTables bs → (q : QName) (p : Procedure) → procedure_of (units c bs) q ≡ Some p → StandsWithTables c q p
  procedures_from [] h rules tables q p e = absurd (none-some _ e)
  procedures_from (b ∷ bs) h rules tables q p e = go (bytes_eq q.«module» b.unit.name) refl e (λ f. procedures_from bs h.1 rules.1 tables.1 q p f)
    where
      go : (z : Bool) → bytes_eq q.«module» b.unit.name ≡ z → (if z then procedure_named b.unit.procedures q.object else procedure_of (units c bs) q) ≡ Some p → (procedure_of (units c bs) q ≡ Some p → StandsWithTables c q p) → StandsWithTables c q p
      go true t e more = with_tables b.types q p (one_stands c b.types b.unit h.0.0 h.0.1 h.0.2 rules.0.checked q p t e) tables.0
      go false t e more = more e

  bodies_from : (bs : List Build) → BuildsCompiled c bs → AllBodiesChecked c bs → AllTables bs → BodiesStand c bs
  bodies_from [] h checked tables = tt
  bodies_from (b ∷ bs) h checked tables = (with_tables b.types _ _ (body_stands_by c b.types b.unit h.0.0 h.0.1 h.0.2 checked.0) tables.0, bodies_from bs h.1 checked.1 tables.1)

-- THE LAW
pub program_from_files : ProgramFromFiles
program_from_files c builds more files rules = record {
  image = record {
    linked = λ q p e. (procedures q p e).stands;
    types = λ q line e.
        let t = size_from c [] (empty files.room) builds more (record { none = λ name e. tt; based = tt; there = λ q r e. absurd (cc) }) tt files.program files.image files.enterable rules.bases rules.sizes q (line, e) in
        record { ok = rules.forms q (line, e); descriptor = t.descriptor; found = t.found; size = t.size };
    bases = bases_from_files c builds more files rules.built rules.bases;
    numbered = λ s q has.
        let v = rules.values s q has in
        numbered c few builds compiled (all_few (empty files.room) builds more files.enterable) q v.0 v.1 (ap (λ l. procedure_of l q) (sym files.program) ∙ v.1);
    match = rules.match;
    tables = λ q p e. (procedures q p e).tables;
    families = families_stand c rules.built rules.redefinitions;
  };
  bodies = bodies_from c builds compiled rules.bodies tables;
}
  where
    compiled : BuildsCompiled c builds
    compiled = builds_compiled c builds more files rules.modules

    few : Few c.img
    few = subst Few (sym files.image) (few_from (empty files.room) (map file_of builds ++ more) (record { modules = omega arith; types = omega arith }) files.enterable)

    all_tables : (bs : List Build) → AllFamiliesDeclared c.program rules.number bs → ((types : QName → Option Desc) → NumbersAgree c.program rules.number types → TablesStand c (λ f. method_number types f.owner f.name)) → AllTables c bs
    all_tables [] h t = tt
    all_tables (b ∷ bs) h t = (t b.types h.0.0, all_tables bs h.1 t)

    tables : AllTables c builds
    tables = all_tables builds rules.families (tables_from_files c builds more files rules.modules rules.built rules.bases rules.number rules.differ rules.families)

    procedures : (q : QName) (p : Procedure) → procedure_of c.program q ≡ Some p → StandsWithTables c q p
    procedures q p e = procedures_from c builds compiled rules.modules tables q p (ap (λ l. procedure_of l q) (sym files.program) ∙ e)
