-- The record types of a program have their tables in the image of its files.
use Rattle.std.proofs.Common.{◌≡◌, ℕ, suc, ◌+◌, ◌<◌, List, [], ◌∷◌, ◌++◌, length, map, refl, sym, ap, ◌∙◌, subst, arith, append_assoc, append-nil, Option, Some}
use Rattle.std.specs.Prelude.{Bool, true, false, ◌&&◌, bytes_eq, pos, slice_get, if◌then◌else◌}
use Rattle.ob_tree.specs.declared.names.QName.{QName}
use Rattle.ob_types.specs.declared.desc.Desc.{Desc}
use Rattle.ob_types.specs.declared.typed.Family.{Family}
use Rattle.ob_types.specs.TypedSyntax.{Procedure, Module}
use Rattle.ob_tdesc.specs.declared.descriptor.Descriptor.{Descriptor}
use Rattle.ob_tdesc.specs.Bases.{method_in}
use Rattle.ob_instr.specs.Image.{Image}
use Rattle.ob_instr.specs.Rows.{method_at}
use Rattle.ob_obj.specs.declared.file.ObjFile.{ObjFile}
use Rattle.ob_obj.specs.Images.{type_links, module_of, entered, image_of, AreEnterable}
use Rattle.ob_meaning.specs.Values.{description, number_of_types}
use Rattle.ob_meaning.specs.Meaning.{declared_for, declared_among}
use Rattle.ob_scheme.specs.Descriptions.{method_number}
use Rattle.law_simulation_relation.specs.Layout.{type_number, module_number, procedures_in}
use Rattle.law_simulation_relation.specs.Relation.{OrElse, ModulesOk}
use Rattle.law_simulation_relation.specs.Typed.{IsRecordType}
use Rattle.law_simulation_relation.specs.Setting.{Setting}
use Rattle.law_image_code.specs.Descriptors.{IsDescriptor}
use Rattle.law_image_code.specs.Compiled.{ProceduresChecked}
use Rattle.law_image_code.proofs.Entered.{number_here, procedures_here}
use Rattle.law_image_links.specs.Files.{Build, file_of, empty, KeepsRules, AllKeepRules}
use Rattle.law_image_links.proofs.Modules.{procedures_differ}
use Rattle.law_image_tables.specs.Declared.{BasesBuilt, BasesDeclared, typed}
use Rattle.law_image_tables.specs.Based.{AllBasesDeclared}
use Rattle.law_image_tables.specs.Families.{NumbersDiffer, NumbersAgree, FamiliesCounted, AreBoundOnce, AllFamiliesDeclared, TablesFromFiles}
use Rattle.law_image_tables.proofs.Bases.{AreBased}
use Rattle.law_image_tables.proofs.Families.{AllNamed}
use Rattle.law_image_tables.proofs.Declared.{declared_record}
use Rattle.law_image_tables.proofs.Entering.{behind, units, Front, front_more, mine, own_based}
use Rattle.law_image_tables.proofs.Tables.{declared_here, HasTable, HaveTables, tables_two, found_table, of_types, descriptors_tabled}
use Rattle.law_lists.proofs.Lists.{get_front, length_last}

-- a descriptor that is there has a number among those there
within : (ds es : List Descriptor) (q : QName) → IsDescriptor ds q → type_number (ds ++ es) q < length ds
within [] es q i = absurd i
within (d ∷ ds) es q i = go (bytes_eq q.«module» d.«module» && bytes_eq q.object d.name) i (λ j. within ds es q j)
  where
    go : (b : Bool) → OrElse b (Unit {0}) (IsDescriptor ds q) → (IsDescriptor ds q → type_number (ds ++ es) q < length ds) → (if b then 0 else suc (type_number (ds ++ es) q)) < suc (length ds)
    go true i more = omega arith
    go false i more = let lt = more i in omega (arith, lt)

all_named : (c : Setting) (types : QName → Option Desc) (md : Module) (ps : List Procedure) → ProceduresChecked c types md ps → AllNamed ps
all_named c types md [] h = tt
all_named c types md (p ∷ ps) h = (h.0.0, all_named c types md ps h.1)

module _ (c : Setting) (built : BasesBuilt c.program) (number : Family → ℕ) (differ : NumbersDiffer c.program number) where
  abbrev IsFamily : Build → Type 0
  IsFamily b = NumbersAgree c.program number b.types × (FamiliesCounted c.program number b.unit.name b.unit.types × AreBoundOnce b.unit.name b.unit.procedures)

  -- THE IMAGE of the first modules: their record types have their tables
  record Tabled (ms : List Module) (img : Image) : Type 0 where
    pub front : Front c ms img
    pub tables : HaveTables c number img.types
    pub number_is : length ms ≡ length img.modules

  module _ (ms : List Module) (img : Image) (h : Tabled ms img) (b : Build) (back : List Module) (whole : c.program ≡ ms ++ b.unit ∷ back) (rules : KeepsRules c b) (declared : BasesDeclared c.program b.types b.unit b.unit.types 0) (families : IsFamily b) (files : List ObjFile) (loaded : c.img ≡ image_of (entered img (file_of b)) files) (can : AreEnterable img (file_of b ∷ files)) where
    tabled_more : Tabled (ms ++ b.unit ∷ []) (entered img (file_of b))
    tabled_more =
        let f = file_of b in
        let ok = subst (ModulesOk c.program) whole c.ok in
        let new = mine c ms img h.front b declared files loaded can in
        let l = behind (entered img f) files in
        let all = ap (λ (i : Image). i.types) loaded ∙ l.is ∙ ap (λ t. t ++ l.descriptors) new.is ∙ append_assoc img.types new.descriptors l.descriptors in
        let at = ap (λ p. module_number p b.unit.name) whole ∙ number_here c.program ms b.unit back ok ∙ h.number_is in
        let there = ap (λ p. procedures_in p b.unit.name) whole ∙ procedures_here c.program ms b.unit back ok in
        let here : (x : List ℕ) (f : Family) → declared_for c.program (typed b.unit.name x) f ≡ declared_among b.unit.procedures (typed b.unit.name x) f = λ x f. ap (λ p. declared_for p (typed b.unit.name x) f) whole ∙ declared_here ms b.unit back c.program x f ok in
        let e : length img.types + 0 ≡ length img.types = omega arith in
        let based = subst (AreBased c.program c.img.types new.descriptors) e (own_based c ms img h.front b declared files loaded can) in
        let own = descriptors_tabled c number b.types b.unit differ families.0 built families.1.1 (procedures_differ b.unit.procedures rules.different) (all_named c b.types b.unit b.unit.procedures rules.checked) (length img.modules) at there here (length img.types) (type_links img f) img.types l.descriptors c.img.types f.body.types new.descriptors all new.are (of_types c number b.types b.unit f.links.types b.unit.types families.1.0) based h.tables in
        record {
          front = front_more c ms img h.front b declared files loaded can;
          tables = subst (HaveTables c number) (sym new.is) (tables_two c number img.types new.descriptors h.tables own);
          number_is = length_last ms b.unit ∙ ap suc h.number_is ∙ sym (length_last img.modules (module_of img f));
        }

  -- the descriptor of a record type, with its table
  record HasIt (q : QName) : Type 0 where
    pub descriptor : Descriptor
    pub found : slice_get c.img.types (type_number c.img.types q) ≡ Some descriptor
    pub table : HasTable c number q descriptor

  table_from : (ms : List Module) (img : Image) (bs : List Build) (more : List ObjFile) → Tabled ms img → c.program ≡ ms ++ units c bs → c.img ≡ image_of img (map file_of bs ++ more) → AreEnterable img (map file_of bs ++ more) → AllKeepRules c bs → AllBasesDeclared c.program bs → AllFamiliesDeclared c.program number bs → (q : QName) → IsRecordType c.program q → HasIt q
  table_from ms img [] more h whole loaded can rules declared families q is =
      let l = behind img more in
      let all : c.img.types ≡ img.types ++ l.descriptors = ap (λ (i : Image). i.types) loaded ∙ l.is in
      let d = declared_record (description c.program) (number_of_types c.program) _ q is.0 _ is.1 in
      let there = h.front.there q d.0 (ap (λ p. description p q) (sym (whole ∙ append-nil ms)) ∙ d.1) in
      let t = found_table c number img.types l.descriptors q h.tables (within img.types l.descriptors q there) in
      record { descriptor = t.descriptor; found = ap (λ l. slice_get l (type_number l q)) all ∙ get_front img.types l.descriptors (type_number (img.types ++ l.descriptors) q) t.descriptor t.found; table = t.table }
  table_from ms img (b ∷ bs) more h whole loaded can rules declared families q is =
      table_from (ms ++ b.unit ∷ []) (entered img (file_of b)) bs more (tabled_more ms img h b (units c bs) whole rules.0 declared.0 families.0 (map file_of bs ++ more) loaded can) (whole ∙ sym (append_assoc ms (b.unit ∷ []) (units c bs))) loaded can.1 rules.1 declared.1 families.1 q is

-- THE LAW
pub tables_from_files : TablesFromFiles
tables_from_files c builds more files rules built declared number differ families types agree t f q is e =
    let r = table_from c built number differ [] (empty files.room) builds more (record { front = record { none = λ name e. tt; based = tt; there = λ q r e. absurd (cc) }; tables = tt; number_is = refl }) files.program files.image files.enterable rules declared families t is in
    ap (λ d. method_at d (pos (method_number types f.owner f.name))) r.found
    ∙ ap (λ n. method_in (slice_get r.descriptor.methods n)) (agree t f is (q, e))
    ∙ ap method_in (r.table f q e)
