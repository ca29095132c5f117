-- The record types of a program have their bases in the image of its files.
use Rattle.std.proofs.Common.{◌<◌, ◌≡◌, ⊎_elim, ℕ, ◌+◌, List, [], ◌∷◌, ◌++◌, length, map, sym, ap, ◌∙◌, subst, arith, append_assoc, append-nil, Some, None}
use Rattle.ob_tree.specs.declared.names.QName.{QName}
use Rattle.ob_types.specs.declared.desc.Desc.TheVariants as desc
use Rattle.ob_types.specs.declared.desc.RecordDesc.{RecordDesc}
use Rattle.ob_types.specs.TypedSyntax.{Module}
use Rattle.ob_tdesc.specs.declared.descriptor.Descriptor.{Descriptor}
use Rattle.ob_instr.specs.Image.{Image}
use Rattle.ob_obj.specs.declared.file.ObjFile.{ObjFile}
use Rattle.ob_obj.specs.Images.{module_from, type_links, module_of, entered, image_of, AreEnterable}
use Rattle.ob_meaning.specs.Values.{description, number_of_types}
use Rattle.law_simulation_relation.specs.Typed.{IsRecordType}
use Rattle.law_simulation_relation.specs.Setting.{Setting}
use Rattle.law_image_code.specs.Descriptors.{IsDescriptor}
use Rattle.law_image_code.proofs.Types.{types_stay}
use Rattle.law_image_links.specs.Files.{Build, file_of, empty}
use Rattle.law_image_links.proofs.Lookup.{none_in_front, none_at_last}
use Rattle.law_image_links.proofs.TypeNumbers.{NotOf, not_two, AreOf, others_not, names_of, records_named}
use Rattle.law_image_tables.specs.Declared.{BasesDeclared}
use Rattle.law_image_tables.specs.Based.{AllBasesDeclared, BasesFromFiles}
use Rattle.law_image_tables.proofs.Bases.{AreBased, based_two, FoundBased, found_based, bases_stand}
use Rattle.law_image_tables.proofs.Records.{file_based}
use Rattle.law_image_tables.proofs.Added.{Added, added, are_of, descriptor_named, descriptor_behind, descriptors_based}
use Rattle.law_image_tables.proofs.Few.{few_from, few_enough}
use Rattle.law_image_tables.proofs.Declared.{declared_record, description_two, declared_name}

-- what stands behind the descriptors of an image when more files are entered
pub record Behind (types all : List Descriptor) : Type 0 where
  pub descriptors : List Descriptor
  pub is : all ≡ types ++ descriptors

pub behind : (img : Image) (files : List ObjFile) → Behind img.types (image_of img files).types
behind img [] = record { descriptors = []; is = sym (append-nil img.types) }
behind img (f ∷ files) =
    let a = added f.head.«module» (length img.types) (type_links img f) (length img.modules) img.types f.body.types in
    let r = behind (entered img f) files in
    record { descriptors = a.descriptors ++ r.descriptors; is = r.is ∙ ap (λ t. t ++ r.descriptors) a.is ∙ append_assoc img.types a.descriptors r.descriptors }

module _ (c : Setting) where
  abbrev pub units : List Build → List Module
  units bs = map (λ b. b.unit) bs

  -- THE IMAGE of the first modules: their record types are in it, with their bases
  pub record Front (ms : List Module) (img : Image) : Type 0 where
    pub none : (name : List ℕ) → module_from 0 img.modules name ≡ None → NotOf name img.types
    pub based : AreBased c.program c.img.types img.types 0
    pub there : (q : QName) (r : RecordDesc) → description ms q ≡ Some (desc.Record r) → IsDescriptor img.types q

  -- with one more
  module _ (ms : List Module) (img : Image) (h : Front ms img) (b : Build) (declared : BasesDeclared c.program b.types b.unit b.unit.types 0) (files : List ObjFile) (loaded : c.img ≡ image_of (entered img (file_of b)) files) (can : AreEnterable img (file_of b ∷ files)) where
    abbrev pub f : ObjFile
    f = file_of b

    -- its descriptors
    pub mine : Added b.unit.name (length img.types) (type_links img f) (length img.modules) img.types f.body.types
    mine = added b.unit.name (length img.types) (type_links img f) (length img.modules) img.types f.body.types

    pub names : AreOf b.unit.name (names_of b.unit.types) mine.descriptors
    names = subst (λ n. AreOf b.unit.name n mine.descriptors) (records_named b.types b.unit f.links.types b.unit.types) (are_of b.unit.name (length img.types) (type_links img f) (length img.modules) img.types f.body.types mine.descriptors mine.are)

    pub own_based : AreBased c.program c.img.types mine.descriptors (length img.types + 0)
    own_based =
        let l = behind (entered img f) files in
        let all = ap (λ (i : Image). i.types) loaded ∙ l.is ∙ ap (λ t. t ++ l.descriptors) mine.is ∙ append_assoc img.types mine.descriptors l.descriptors in
        let none = h.none b.unit.name can.0.new in
        let count : 0 + length f.body.types ≡ length f.body.types = omega arith in
        descriptors_based b.types b.unit img.types mine.descriptors l.descriptors c.img.types all none names can.0.types c.program (length img.modules) img.types f.body.types mine.descriptors 0 (omega (arith, count)) mine.are (file_based b.types b.unit c.program declared)

    pub front_more : Front (ms ++ b.unit ∷ []) (entered img f)
    front_more =
        let u = module_of img f in
        record {
          none = λ name e. subst (NotOf name) (sym mine.is) (not_two name img.types mine.descriptors (h.none name (none_in_front 0 img.modules (u ∷ []) name e)) (others_not name b.unit.name (names_of b.unit.types) mine.descriptors (none_at_last 0 img.modules u name e) names));
          based = subst (λ t. AreBased c.program c.img.types t 0) (sym mine.is) (based_two c.program c.img.types img.types mine.descriptors 0 h.based own_based);
          there = λ q r e. ⊎_elim
              (λ k. types_stay b.unit.name (length img.types) (type_links img f) (length img.modules) img.types f.body.types q (h.there q r k))
              (λ k. subst (λ t. IsDescriptor t q) (sym mine.is) (descriptor_behind img.types mine.descriptors q (descriptor_named b.unit.name (names_of b.unit.types) mine.descriptors q names (declared_name b.unit.types q.object r k.1) k.0)))
              (description_two ms b.unit q (desc.Record r) e);
        }

  found_from : (ms : List Module) (img : Image) (back : List Build) (more : List ObjFile) → Front ms img → c.program ≡ ms ++ units back → c.img ≡ image_of img (map file_of back ++ more) → AreEnterable img (map file_of back ++ more) → AllBasesDeclared c.program back → (q : QName) → IsRecordType c.program q → FoundBased c.program c.img.types c.img.types 0 q
  found_from ms img [] more h whole loaded can declared q is =
      let l = behind img more in
      let all : c.img.types ≡ img.types ++ l.descriptors = ap (λ (i : Image). i.types) loaded ∙ l.is in
      let d = declared_record (description c.program) (number_of_types c.program) _ q is.0 _ is.1 in
      let there = h.there q d.0 (ap (λ p. description p q) (sym (whole ∙ append-nil ms)) ∙ d.1) in
      subst (λ t. FoundBased c.program c.img.types t 0 q) (sym all) (found_based c.program c.img.types img.types l.descriptors 0 q h.based there)
  found_from ms img (b ∷ back) more h whole loaded can declared q is =
      found_from (ms ++ b.unit ∷ []) (entered img (file_of b)) back more (front_more ms img h b declared.0 (map file_of back ++ more) loaded can) (whole ∙ sym (append_assoc ms (b.unit ∷ []) (units back))) loaded can.1 declared.1 q is

-- THE LAW
pub bases_from_files : BasesFromFiles
bases_from_files c builds more files built declared =
    bases_stand c built (found_from c [] (empty files.room) builds more (record { none = λ name e. tt; based = tt; there = λ q r e. absurd (cc) }) files.program files.image files.enterable declared)
    (subst (λ (i : Image). length i.types < 2147483648) (sym files.image) (few_enough _ (few_from (empty files.room) _ (record { modules = omega arith; types = omega arith }) files.enterable)))
