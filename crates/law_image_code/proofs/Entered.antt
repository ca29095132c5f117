-- A file that is entered has its module in the image, and keeps it when others follow.
use Rattle.std.proofs.Common.{◌≡◌, ℕ, zero, suc, List, [], ◌∷◌, ◌++◌, length, refl, ap, ◌∙◌, subst, Some, Option}
use Rattle.std.specs.Prelude.{false, bytes_eq, if◌then◌else◌, slice_get}
use Rattle.ob_tree.specs.declared.names.QName.{QName}
use Rattle.ob_types.specs.declared.desc.Desc.{Desc}
use Rattle.ob_types.specs.declared.face.Use.{Use}
use Rattle.ob_types.specs.TypedSyntax.{Module}
use Rattle.ob_instr.specs.Image.{ModuleImage, Image}
use Rattle.ob_obj.specs.declared.parts.Export.{Export}
use Rattle.ob_obj.specs.declared.file.ObjFile.{ObjFile}
use Rattle.ob_obj.specs.Images.{module_of, entered, image_of, type_links}
use Rattle.ob_meaning.specs.Values.{Program}
use Rattle.ob_scheme.specs.Context.{own_types, type_index, records}
use Rattle.ob_scheme.specs.Procedures.{module_code, body_of, within}
use Rattle.ob_scheme.specs.Object.{own_words, all_named, object_file}
use Rattle.law_simulation_relation.specs.Layout.{type_number, module_number, module_offset, procedures_in, variables_in, module_held}
use Rattle.law_simulation_relation.specs.Relation.{FreshModule, ModulesOk}
use Rattle.law_simulation_relation.specs.Setting.{Setting}
use Rattle.law_simulation_relation.proofs.Names.{bytes_same, bytes_sym}
use Rattle.law_image_code.specs.Standing.{own_types_in, StringsStand}
use Rattle.law_image_code.specs.Described.{IsDescribed}
use Rattle.law_image_code.specs.Resolved.{LinksResolve}
use Rattle.law_image_code.specs.Fits.{AmongTypes}
use Rattle.law_image_code.specs.Descriptors.{DescriptorsFit, IsDescriptor, FilesFit}
use Rattle.law_image_code.specs.Compiled.{module_scope, IsCompiled}
use Rattle.law_image_code.proofs.Types.{types_fit, types_stay}
use Rattle.law_lists.proofs.Lists.{get_front}

-- A MODULE AMONG THOSE OF A PROGRAM

pub fresh_at : (x : List ℕ) (front : List Module) (m : Module) (back : List Module) → FreshModule x (front ++ m ∷ back) → bytes_eq x m.name ≡ false
fresh_at x [] m back f = f.0
fresh_at x (k ∷ front) m back f = fresh_at x front m back f.1

-- its number, its variables and its procedures are found by its name
pub number_here : (program : Program) (front : List Module) (m : Module) (back : List Module) → ModulesOk program (front ++ m ∷ back) → module_number (front ++ m ∷ back) m.name ≡ length front
number_here program [] m back ok = ap (λ b. if b then 0 else suc (module_number back m.name)) (bytes_same m.name)
number_here program (k ∷ front) m back ok = ap (λ b. if b then 0 else suc (module_number (front ++ m ∷ back) m.name)) (bytes_sym m.name k.name ∙ fresh_at k.name front m back ok.0) ∙ ap suc (number_here program front m back ok.1.1)

pub variables_here : (program : Program) (front : List Module) (m : Module) (back : List Module) → ModulesOk program (front ++ m ∷ back) → variables_in program (front ++ m ∷ back) m.name ≡ module_held program m
variables_here program [] m back ok = ap (λ b. if b then module_held program m else variables_in program back m.name) (bytes_same m.name)
variables_here program (k ∷ front) m back ok = ap (λ b. if b then module_held program k else variables_in program (front ++ m ∷ back) m.name) (bytes_sym m.name k.name ∙ fresh_at k.name front m back ok.0) ∙ variables_here program front m back ok.1.1

pub procedures_here : (program : Program) (front : List Module) (m : Module) (back : List Module) → ModulesOk program (front ++ m ∷ back) → procedures_in (front ++ m ∷ back) m.name ≡ m.procedures
procedures_here program [] m back ok = ap (λ b. if b then m.procedures else procedures_in back m.name) (bytes_same m.name)
procedures_here program (k ∷ front) m back ok = ap (λ b. if b then k.procedures else procedures_in (front ++ m ∷ back) m.name) (bytes_sym m.name k.name ∙ fresh_at k.name front m back ok.0) ∙ procedures_here program front m back ok.1.1

-- IMAGES

item_last : {A : Type 0} (l : List A) (x : A) → slice_get (l ++ x ∷ []) (length l) ≡ Some x
item_last [] x = refl
item_last (y ∷ l) x = item_last l x

pub module_stays : (img : Image) (files : List ObjFile) (n : ℕ) (u : ModuleImage) → slice_get img.modules n ≡ Some u → slice_get (image_of img files).modules n ≡ Some u
module_stays img [] n u e = e
module_stays img (f ∷ files) n u e = module_stays (entered img f) files n u (get_front img.modules (module_of img f ∷ []) n u e)

pub descriptors_fit : (program : Program) (img : Image) (files : List ObjFile) → DescriptorsFit program img.types → FilesFit program files → DescriptorsFit program (image_of img files).types
descriptors_fit program img [] d f = d
descriptors_fit program img (x ∷ files) d f = descriptors_fit program (entered img x) files (types_fit program x.head.«module» (length img.types) (type_links img x) (length img.modules) img.types x.body.types d f.0) f.1

pub descriptor_stays : (img : Image) (files : List ObjFile) (q : QName) → IsDescriptor img.types q → IsDescriptor (image_of img files).types q
descriptor_stays img [] q i = i
descriptor_stays img (x ∷ files) q i = descriptor_stays (entered img x) files q (types_stay x.head.«module» (length img.types) (type_links img x) (length img.modules) img.types x.body.types q i)

-- A module of the program whose file is entered where its number says, and its globals where its place says, stands in the image as it
-- was compiled, where its strings are among its words and its links and its types are resolved.
pub entered_stands : (c : Setting) (types : QName → Option Desc) (md : Module) (exports : List Export) (uses : List Use) (img : Image) (files : List ObjFile) (front back : List Module) → c.program ≡ front ++ md ∷ back → length front ≡ length img.modules → c.img ≡ image_of (entered img (object_file types md exports uses)) files → img.next ≡ suc (module_offset c.program c.program md.name) → IsDescribed types c.program → StringsStand c.program md.name (module_code types md) (own_words types md) → LinksResolve (module_scope c (module_of img (object_file types md exports uses)) md.name) (all_named types md) → own_types (within types md (body_of md)) ≡ own_types_in c.img.types md.name → ((x : List ℕ) → AmongTypes (records (within types md (body_of md))) x → slice_get (module_of img (object_file types md exports uses)).types (type_index (within types md (body_of md)) x) ≡ Some (type_number c.img.types (record { «module» = md.name; object = x }))) → IsCompiled c types md (length img.modules) (module_of img (object_file types md exports uses))
entered_stands c types md exports uses img files front back whole number loaded place described texts links own there =
    let f = object_file types md exports uses in
    let u = module_of img f in
    let ok = subst (ModulesOk c.program) whole c.ok in
    record {
      is = record { is = ap (λ i. slice_get i.modules (length img.modules)) loaded ∙ module_stays (entered img f) files (length img.modules) u (item_last img.modules u) };
      named = ap (λ p. module_number p md.name) whole ∙ number_here c.program front md back ok ∙ number;
      first = place;
      code = refl;
      positions = refl;
      procedures = refl;
      variables_there = ap (λ p. variables_in c.program p md.name) whole ∙ variables_here c.program front md back ok;
      procedures_there = ap (λ p. procedures_in p md.name) whole ∙ procedures_here c.program front md back ok;
      described = described;
      texts = texts;
      links = links;
      own = own;
      types_there = there;
    }
