-- A file that is entered: the numbers of its types in the whole image, its links, and its strings.
use Rattle.std.proofs.Common.{◌≡◌, ℕ, ◌+◌, List, [], ◌∷◌, ◌++◌, length, map, refl, sym, ap, ◌∙◌, subst, arith, append_assoc, append-nil, Option, Some, None}
use Rattle.std.specs.Prelude.{Bool, true, false, bytes_eq, slice_get, IsSome, if◌then◌else◌}
use Rattle.std.specs.List.{AllByRecursion}
use Rattle.ob_tree.specs.declared.names.QName.{QName}
use Rattle.ob_types.specs.declared.desc.Desc.{Desc}
use Rattle.ob_types.specs.TypedSyntax.{Module}
use Rattle.ob_tdesc.specs.declared.descriptor.Descriptor.{Descriptor}
use Rattle.ob_instr.specs.Image.{ModuleImage, Image}
use Rattle.ob_obj.specs.declared.file.ObjFile.{ObjFile}
use Rattle.ob_obj.specs.Images.{module_from, linked_type, or_zero, type_links, module_of, entered, image_of, AreEnterable, numbers}
use Rattle.ob_meaning.specs.Values.{Program}
use Rattle.ob_meaning.specs.Globals.{all_globals, globals_words}
use Rattle.ob_scheme.specs.Context.{own_types, type_index, records, records_among}
use Rattle.ob_scheme.specs.Procedures.{body_of, within, module_code}
use Rattle.ob_scheme.specs.Object.{own_words, all_named, records_in}
use Rattle.ob_scheme.specs.Object as object
use Rattle.law_simulation_relation.specs.Layout.{type_number, module_offset, module_held, slots_words, variables_in}
use Rattle.law_simulation_relation.specs.Texts.{module_texts, texts_in}
use Rattle.law_simulation_relation.specs.Relation.{FreshModule, ModulesOk}
use Rattle.law_simulation_relation.proofs.Names.{bytes_same, bytes_true, bytes_sym}
use Rattle.law_image_code.specs.Standing.{own_types_in, StringsStand}
use Rattle.law_image_code.specs.Described.{IsDescribed}
use Rattle.law_image_code.specs.Fits.{AmongTypes}
use Rattle.law_image_code.proofs.Words.{local_sum}
use Rattle.law_image_code.proofs.Entered.{variables_here}
use Rattle.law_image_links.specs.Files.{Build, file_of}
use Rattle.law_image_links.proofs.Lines.{lines_words, strings_stand}
use Rattle.law_image_links.proofs.Statements.{module_words}
use Rattle.law_image_links.proofs.Lookup.{IsAmong, among_more, among_last, none_in_front, none_at_last, all_at, map_at}
use Rattle.law_image_links.proofs.TypeNumbers.{typed, AreMade, NotOf, not_two, AreOf, others_not, none_counted, all_counted, none_at_all, past_others, own_number, numbers_at, numbers_past, added, linked_is, names_of, records_named, named_place, is_named, ones, length_named, bases_stay}

-- DESCRIPTORS OF LATER FILES are of other modules

pub record Later (name : List ℕ) (types all : List Descriptor) : Type 0 where
  pub descriptors : List Descriptor
  pub is : all ≡ types ++ descriptors
  pub others : NotOf name descriptors

-- the module is there, so a file that can be entered is of another one
other_file : (us : List ModuleImage) (name other : List ℕ) → IsAmong us name → module_from 0 us other ≡ None → bytes_eq name other ≡ false
other_file us name other among new = go (bytes_eq name other) refl
  where
    go : (b : Bool) → bytes_eq name other ≡ b → b ≡ false
    go true e = absurd (among 0 (subst (λ x. module_from 0 us x ≡ None) (sym (bytes_true name other e)) new))
    go false e = refl

pub later : (name : List ℕ) (img : Image) (files : List ObjFile) → IsAmong img.modules name → AreEnterable img files → Later name img.types (image_of img files).types
later name img [] among h = record { descriptors = []; is = sym (append-nil img.types); others = tt }
later name img (f ∷ files) among h =
    let a = added f.head.«module» (length img.types) (type_links img f) (length img.modules) img.types f.body.types in
    let r = later name (entered img f) files (among_more img.modules (module_of img f ∷ []) name among) h.1 in
    let other = other_file img.modules name f.head.«module» among h.0.new in
    record {
      descriptors = a.descriptors ++ r.descriptors;
      is = r.is ∙ ap (λ t. t ++ r.descriptors) a.is ∙ append_assoc img.types a.descriptors r.descriptors;
      others = not_two name a.descriptors r.descriptors (others_not name f.head.«module» (map (λ t. t.name) f.body.types) a.descriptors other a.are) r.others;
    }

-- THE TYPES OF A FILE in an image, which was so before it was entered

-- no descriptor is of a module that is not there
abbrev pub IsApart : Image → Type 0
IsApart img = (name : List ℕ) → module_from 0 img.modules name ≡ None → NotOf name img.types

pub apart_more : (img : Image) (f : ObjFile) → IsApart img → IsApart (entered img f)
apart_more img f apart name e =
    let u = module_of img f in
    let a = added f.head.«module» (length img.types) (type_links img f) (length img.modules) img.types f.body.types in
    subst (NotOf name) (sym a.is) (not_two name img.types a.descriptors (apart name (none_in_front 0 img.modules (u ∷ []) name e)) (others_not name f.head.«module» (map (λ t. t.name) f.body.types) a.descriptors (none_at_last 0 img.modules u name e) a.are))

pub record TypesIn (b : Build) (img : Image) (all : List Descriptor) : Type 0 where
  pub own : List Descriptor
  pub behind : List Descriptor
  pub is : all ≡ img.types ++ (own ++ behind)
  pub none : NotOf b.unit.name img.types
  pub are : AreOf b.unit.name (names_of b.unit.types) own
  pub made : AreMade (length img.types) (type_links img (file_of b)) (file_of b).body.types own
  pub others : NotOf b.unit.name behind

pub types_in : (b : Build) (img : Image) (files : List ObjFile) → IsApart img → AreEnterable img (file_of b ∷ files) → TypesIn b img (image_of (entered img (file_of b)) files).types
types_in b img files apart can =
    let f = file_of b in
    let a = added b.unit.name (length img.types) (type_links img f) (length img.modules) img.types f.body.types in
    let l = later b.unit.name (entered img f) files (among_last img.modules (module_of img f)) can.1 in
    record {
      own = a.descriptors;
      behind = l.descriptors;
      is = l.is ∙ ap (λ t. t ++ l.descriptors) a.is ∙ append_assoc img.types a.descriptors l.descriptors;
      none = apart b.unit.name can.0.new;
      are = subst (λ n. AreOf b.unit.name n a.descriptors) (records_named b.types b.unit f.links.types b.unit.types) a.are;
      made = a.made;
      others = l.others;
    }

-- THEIR NUMBERS

module _ (types : QName → Option Desc) (md : Module) (links : List QName) (before own behind all : List Descriptor) (is : all ≡ before ++ (own ++ behind)) (none : NotOf md.name before) (are : AreOf md.name (names_of md.types) own) (others : NotOf md.name behind) where
  pub own_is : own_types (within types md (body_of md)) ≡ own_types_in all md.name
  own_is =
      let s = ones (records_among md.types) in
      let a = all_counted md.name (names_of md.types) own behind are in
      let z = none_at_all md.name behind others in
      let e : own_types (within types md (body_of md)) ≡ own_types_in (own ++ behind) md.name = omega (arith, s, a, z) in
      e ∙ sym (none_counted md.name before (own ++ behind) none) ∙ ap (λ t. own_types_in t md.name) (sym is)

  pub count_is : own_types_in all md.name ≡ length (records_in types md links md.types)
  count_is = sym own_is ∙ ones (records_among md.types) ∙ ap length (sym (records_named types md links md.types)) ∙ length_named (records_in types md links md.types)

  pub types_are : (more : List ℕ) (x : List ℕ) → AmongTypes (records (within types md (body_of md))) x → slice_get (numbers (length before) (length (records_in types md links md.types)) ++ more) (type_index (within types md (body_of md)) x) ≡ Some (type_number all (typed md.name x))
  types_are more x i =
      let n = sym (length_named (records_in types md links md.types)) ∙ ap length (records_named types md links md.types) in
      let named = is_named (records_among md.types) x i in
      ap (λ k. slice_get (numbers (length before) k ++ more) (type_index (within types md (body_of md)) x)) n
      ∙ ap (slice_get (numbers (length before) (length (names_of md.types)) ++ more)) (named_place (records_among md.types) x)
      ∙ numbers_at (length before) (names_of md.types) more x named
      ∙ ap (λ k. Some (length before + k)) (sym (own_number md.name (names_of md.types) own behind x are named))
      ∙ ap (λ k. Some k) (sym (past_others md.name x before (own ++ behind) none))
      ∙ ap (λ t. Some (type_number t (typed md.name x))) (sym is)

  pub links_are : (k : ℕ) (q : QName) → AllByRecursion (λ r. IsSome (linked_type before r)) (object.type_links types md) → slice_get (all_named types md).types k ≡ Some q → slice_get (numbers (length before) (length (records_in types md links md.types)) ++ map (λ r. or_zero (linked_type before r)) (object.type_links types md)) (own_types_in all md.name + k) ≡ Some (type_number all q)
  links_are k q some e =
      let l = object.type_links types md in
      let g = map (λ r. or_zero (linked_type before r)) l in
      let there = bases_stay types md (all_named types md).types md.types k q e in
      ap (λ n. slice_get (numbers (length before) (length (records_in types md links md.types)) ++ g) (n + k)) count_is
      ∙ numbers_past (length before) (length (records_in types md links md.types)) g k
      ∙ map_at (λ r. or_zero (linked_type before r)) l k q there
      ∙ ap (λ n. Some n) (linked_is before (own ++ behind) q (all_at (λ r. IsSome (linked_type before r)) l k q some there))
      ∙ ap (λ t. Some (type_number t q)) (sym is)

-- A MODULE AMONG THOSE OF A PROGRAM

fresh_at : (x : List ℕ) (front : List Module) (m : Module) (back : List Module) → FreshModule x (front ++ m ∷ back) → bytes_eq x m.name ≡ false
fresh_at x [] m back f = f.0
fresh_at x (k ∷ front) m back f = fresh_at x front m back f.1

pub offset_here : (program : Program) (front : List Module) (m : Module) (back : List Module) → ModulesOk program (front ++ m ∷ back) → module_offset program (front ++ m ∷ back) m.name ≡ all_globals program front
offset_here program [] m back ok = ap (λ b. if b then 0 else globals_words program m + module_offset program back m.name) (bytes_same m.name)
offset_here program (k ∷ front) m back ok = ap (λ b. if b then 0 else globals_words program k + module_offset program (front ++ m ∷ back) m.name) (bytes_sym m.name k.name ∙ fresh_at k.name front m back ok.0) ∙ ap (λ n. globals_words program k + n) (offset_here program front m back ok.1.1)

texts_here : (program : Program) (front : List Module) (m : Module) (back : List Module) → ModulesOk program (front ++ m ∷ back) → texts_in program (front ++ m ∷ back) m.name ≡ module_texts program m
texts_here program [] m back ok = ap (λ b. if b then module_texts program m else texts_in program back m.name) (bytes_same m.name)
texts_here program (k ∷ front) m back ok = ap (λ b. if b then module_texts program k else texts_in program (front ++ m ∷ back) m.name) (bytes_sym m.name k.name ∙ fresh_at k.name front m back ok.0) ∙ texts_here program front m back ok.1.1

pub all_more : (program : Program) (front : List Module) (m : Module) → all_globals program (front ++ m ∷ []) ≡ all_globals program front + globals_words program m
all_more program [] m = omega arith
all_more program (k ∷ front) m = let h = all_more program front m in omega (arith, h)

-- ITS STRINGS, and the words of its globals

module _ (types : QName → Option Desc) (md : Module) (program : Program) (described : IsDescribed types program) where
  pub own_strings : (front back : List Module) → program ≡ front ++ md ∷ back → ModulesOk program (front ++ md ∷ back) → StringsStand program md.name (module_code types md) (own_words types md)
  own_strings front back whole ok =
      let code = module_code types md in
      let texts : texts_in program program md.name ≡ lines_words code ++ [] = ap (λ p. texts_in program p md.name) whole ∙ texts_here program front md back ok ∙ sym (module_words types md program described) ∙ sym (append-nil (lines_words code)) in
      let held = ap (λ p. variables_in program p md.name) whole ∙ variables_here program front md back ok in
      let words = local_sum types program described md.variables in
      let z : slots_words (module_held program md) + 0 ≡ slots_words (module_held program md) = omega arith in
      strings_stand program md.name code [] [] (own_words types md) texts (ap (λ hs. slots_words hs + 0) held ∙ z ∙ sym words)
