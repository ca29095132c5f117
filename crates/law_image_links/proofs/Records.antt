-- Each record type of a program has its descriptor in the image, and so have its bases.
use Rattle.std.proofs.Common.{◌≡◌, ℕ, ◌+◌, ◌<◌, List, [], ◌∷◌, ◌++◌, length, map, refl, sym, ap, ◌∙◌, subst, arith, Option, Some, None}
use Rattle.std.specs.Prelude.{Bool, true, false, slice_get, IsSome, IfSome, if◌then◌else◌}
use Rattle.ob_tree.specs.declared.names.QName.{QName}
use Rattle.ob_types.specs.declared.types.TypeRef.{TypeRef}
use Rattle.ob_types.specs.declared.types.TypeRef.TheVariants as ref
use Rattle.ob_types.specs.declared.desc.Desc.TheVariants as desc
use Rattle.ob_types.specs.declared.desc.RecordDesc.{RecordDesc}
use Rattle.ob_tdesc.specs.declared.descriptor.Descriptor.{Descriptor}
use Rattle.ob_instr.specs.Image.{Image}
use Rattle.ob_obj.specs.declared.parts.Base.TheVariants as base
use Rattle.ob_obj.specs.declared.file.ObjFile.{ObjFile}
use Rattle.ob_obj.specs.Images.{linked_type, or_zero, base_number, type_links, entered, image_of, IsEnterable, AreEnterable}
use Rattle.ob_meaning.specs.Values.{RecordForm, line_of, base_line, fields_of, form_in, record_in, words, type_named, description, number_of_types}
use Rattle.ob_layout.specs.Words.{described_words, words_within}
use Rattle.ob_scheme.specs.Context.{is_own, type_index, records_among}
use Rattle.ob_scheme.specs.Numbers.{same_type, number_among}
use Rattle.ob_scheme.specs.Object.{own, all_named, base_type, base_in}
use Rattle.ob_scheme.specs.Object as object
use Rattle.law_simulation_relation.specs.Layout.{type_number}
use Rattle.law_simulation_relation.specs.Relation.{ModulesOk}
use Rattle.law_simulation_relation.specs.Typed.{IsRecordType}
use Rattle.law_simulation_relation.specs.Setting.{Setting}
use Rattle.law_simulation_relation.specs.Linked.{TypesStand}
use Rattle.law_simulation_relation.proofs.Names.{bytes_true}
use Rattle.law_simulation_records.specs.Bases.{LineStands}
use Rattle.law_image_code.specs.Descriptors.{named}
use Rattle.law_image_links.specs.Files.{Build, file_of, empty, AreFiles, KeepsRules, AllKeepRules}
use Rattle.law_image_links.specs.Records.{IsBase, IsDeclaredRecord, AllDeclared}
use Rattle.law_image_links.proofs.Lookup.{all_at, map_at}
use Rattle.law_image_links.proofs.TypeNumbers.{names_of, place_of, named_place, linked_is, linked_below}
use Rattle.law_image_links.proofs.Entering.{IsApart, apart_more, TypesIn, types_in}
use Rattle.law_image_links.proofs.Described.{record_named, units, declared_in, description_here, is_declared, all_declared_at}
use Rattle.law_image_links.proofs.Made.{Stands, number_in, stands}
use Rattle.law_image_links.proofs.Linked.{sound, base_before, link_there}

-- MODULES IN THE IMAGE

pub record BuildIn (all : List Descriptor) (b : Build) : Type 0 where
  pub before : Image
  pub types : TypesIn b before all
  pub enterable : IsEnterable before (file_of b)

abbrev pub AllIn : List Descriptor → List Build → Type 0
AllIn all [] = Unit {0}
AllIn all (b ∷ bs) = BuildIn all b × AllIn all bs

pub all_in : (img : Image) (bs : List Build) (more : List ObjFile) → IsApart img → AreEnterable img (map file_of bs ++ more) → AllIn (image_of img (map file_of bs ++ more)).types bs
all_in img [] more apart can = tt
all_in img (b ∷ bs) more apart can = (record { before = img; types = types_in b img (map file_of bs ++ more) apart can; enterable = can.0 }, all_in (entered img (file_of b)) bs more (apart_more img (file_of b) apart) can.1)

in_at : (all : List Descriptor) (front : List Build) (b : Build) (back : List Build) → AllIn all (front ++ b ∷ back) → BuildIn all b
in_at all [] b back h = h.0
in_at all (a ∷ front) b back h = in_at all front b back h.1

rules_at : (c : Setting) (front : List Build) (b : Build) (back : List Build) → AllKeepRules c (front ++ b ∷ back) → KeepsRules c b
rules_at c [] b back h = h.0
rules_at c (a ∷ front) b back h = rules_at c front b back h.1

units_at : (front : List Build) (b : Build) (back : List Build) → units (front ++ b ∷ back) ≡ units front ++ b.unit ∷ units back
units_at [] b back = refl
units_at (a ∷ front) b back = ap (λ l. a.unit ∷ l) (units_at front b back)

-- LISTS OF NAMES

abbrev pub behind_first : List QName → List QName
behind_first [] = []
behind_first (x ∷ xs) = xs

pub no_items : (b : QName) (l : List QName) → [] ≡ b ∷ l → ⊥
no_items b l e = cc

pub first_same : (a b : QName) (l k : List QName) → a ∷ l ≡ b ∷ k → a ≡ b
first_same a b l k e = ap (first_or a) e
  where
    first_or : QName → List QName → QName
    first_or d [] = d
    first_or d (x ∷ xs) = x

module _ (c : Setting) (builds : List Build) (more : List ObjFile) (files : AreFiles c builds more) (rules : AllKeepRules c builds) (declared : AllDeclared c.program builds) where
  pub here : AllIn c.img.types builds
  here = subst (λ i. AllIn i.types builds) (sym files.image) (all_in (empty files.room) builds more (λ name e. tt) files.enterable)

  -- A RECORD TYPE OF THE PROGRAM

  pub record Known (q : QName) : Type 0 where
    pub says : RecordDesc
    pub build : Build
    pub unit_is : named build.unit.name q.object ≡ q
    pub there : type_named build.unit.types q.object ≡ Some (desc.Record says)
    pub is : IsDeclaredRecord c.program build.types q says
    pub keeps : KeepsRules c build
    pub place : BuildIn c.img.types build
    pub stands : Stands build place.before c.img.types q.object says
    -- what its module declares is what the program has
    pub alone : (x : List ℕ) → description c.program (named build.unit.name x) ≡ type_named build.unit.types x

  pub known : (q : QName) (line : List QName) → record_in c.program q ≡ RecordForm (q ∷ line) (fields_of (record_in c.program q)) → Known q
  known q line e =
      let r = record_named (description c.program) (number_of_types c.program) (ref.Named q) q line (fields_of (record_in c.program q)) e in
      let d = declared_in builds q r.0 (ap (λ p. description p q) (sym files.program) ∙ r.1) in
      let b = d.build in
      let i = d.among in
      let p = in_at c.img.types i.front b i.back (subst (AllIn c.img.types) i.is here) in
      let whole : c.program ≡ units i.front ++ b.unit ∷ units i.back = files.program ∙ ap units i.is ∙ units_at i.front b i.back in
      let is : named b.unit.name q.object ≡ q = ap (λ m. named m q.object) (sym d.module_is) in
      record {
        says = r.0;
        build = b;
        unit_is = is;
        there = d.declared;
        is = subst (λ x. IsDeclaredRecord c.program b.types x r.0) is (is_declared c.program b.types b.unit.name b.unit.types q.object r.0 (all_declared_at c.program i.front b i.back (subst (AllDeclared c.program) i.is declared)) d.declared);
        keeps = rules_at c i.front b i.back (subst (AllKeepRules c) i.is rules);
        place = p;
        stands = stands b p.before c.img.types q.object r.0 p.types d.declared;
        alone = λ x. ap (λ m. description m (named b.unit.name x)) whole ∙ description_here c.program (units i.front) b.unit (units i.back) x (subst (ModulesOk c.program) whole c.ok);
      }

  -- its words
  size : (q : QName) (k : Known q) → k.says.words ≡ words (record_in c.program q)
  size q k = ap (described_words (words_within k.build.types 200)) (sym k.is.described) ∙ k.keeps.described.sizes (ref.Named q)

  -- EACH HAS ITS DESCRIPTOR
  pub types_stand : TypesStand c
  types_stand q line e =
      let k = known q line e in
      let s = k.stands in
      record {
        ok = k.is.built;
        descriptor = s.descriptor;
        found = subst (λ x. slice_get c.img.types (type_number c.img.types x) ≡ Some s.descriptor) k.unit_is s.found;
        size = s.words_are ∙ size q k;
      }

  -- BASES

  record Next (q p : QName) : Type 0 where
    pub descriptor : Descriptor
    pub found : slice_get c.img.types (type_number c.img.types q) ≡ Some descriptor
    pub base_is : descriptor.base ≡ Some (type_number c.img.types p)
    pub before : type_number c.img.types p < type_number c.img.types q

  -- the base, where its own module declares it or another one
  next : (q : QName) (k : Known q) (t : TypeRef) (p : QName) → k.says.base ≡ Some t → IsRecordType c.program p → form_in c.program t ≡ record_in c.program p → Next q p
  next q k t p e r f =
      let s = k.stands in
      let b = k.build in
      let name : base_type b.types b.unit k.says.base ≡ Some p = ap (base_type b.types b.unit) e ∙ k.keeps.described.records t p r.0 (fields_of (record_in c.program p)) (f ∙ r.1) in
      let found = subst (λ x. slice_get c.img.types (type_number c.img.types x) ≡ Some s.descriptor) k.unit_is s.found in
      let number : type_number c.img.types q ≡ length k.place.before.types + s.place = ap (type_number c.img.types) (sym k.unit_is) ∙ s.number in
      go (is_own (own b.types b.unit) p.module) refl found number
      (s.base_is ∙ ap (λ o. base_number (length k.place.before.types) (type_links k.place.before (file_of b)) (base_in b.types b.unit (file_of b).links.types o)) name)
      (s.file_base ∙ ap (base_in b.types b.unit (file_of b).links.types) name)
      name
    where
      go : (own_is : Bool) → is_own (own k.build.types k.build.unit) p.module ≡ own_is → slice_get c.img.types (type_number c.img.types q) ≡ Some k.stands.descriptor → type_number c.img.types q ≡ length k.place.before.types + k.stands.place → k.stands.descriptor.base ≡ base_number (length k.place.before.types) (type_links k.place.before (file_of k.build)) (if own_is then base.Own (type_index (own k.build.types k.build.unit) p.object) else base.Link (number_among same_type (file_of k.build).links.types p)) → k.stands.file_type.base ≡ (if own_is then base.Own (type_index (own k.build.types k.build.unit) p.object) else base.Link (number_among same_type (file_of k.build).links.types p)) → base_type k.build.types k.build.unit k.says.base ≡ Some p → Next q p
      go true o found number base_is file_base name =
          let b = k.build in
          let says = record_named (description c.program) (number_of_types c.program) (ref.Named p) p r.0 (fields_of (record_in c.program p)) r.1 in
          let is : named b.unit.name p.object ≡ p = ap (λ m. named m p.object) (sym (bytes_true p.module b.unit.name o)) in
          let there : type_named b.unit.types p.object ≡ Some (desc.Record says.0) = sym (k.alone p.object) ∙ ap (description c.program) is ∙ says.1 in
          let its : type_number c.img.types p ≡ length k.place.before.types + place_of (names_of b.unit.types) p.object = ap (type_number c.img.types) (sym is) ∙ number_in b k.place.before c.img.types p.object says.0 k.place.types there in
          let index : type_index (own b.types b.unit) p.object ≡ place_of (names_of b.unit.types) p.object = named_place (records_among b.unit.types) p.object in
          let below = base_before (length (file_of b).links.types) 0 (file_of b).body.types k.stands.place k.stands.file_type (type_index (own b.types b.unit) p.object) (sound (file_of b) k.place.enterable.fits).bases k.stands.file_found file_base in
          record { descriptor = k.stands.descriptor; found = found; base_is = base_is ∙ ap (λ n. Some (length k.place.before.types + n)) index ∙ ap (λ n. Some n) (sym its); before = omega (arith, its, index, below, number) }
      go false o found number base_is file_base name =
          let b = k.build in
          let img = k.place.before in
          let l = object.type_links b.types b.unit in
          let at = number_among same_type l p in
          let link = link_there b.types b.unit (all_named b.types b.unit).types b.unit.types q.object k.says p k.there name o in
          let some = all_at (λ y. IsSome (linked_type img.types y)) l at p k.place.enterable.types link in
          let behind = k.place.types.own ++ k.place.types.behind in
          let is : or_zero (linked_type img.types p) ≡ type_number c.img.types p = linked_is img.types behind p some ∙ ap (λ t. type_number t p) (sym k.place.types.is) in
          let below = subst (λ t. type_number t p < length img.types) (sym k.place.types.is) (linked_below img.types behind p some) in
          record { descriptor = k.stands.descriptor; found = found; base_is = base_is ∙ map_at (λ y. or_zero (linked_type img.types y)) l at p link ∙ ap (λ n. Some n) is; before = omega (arith, below, number) }

  -- THE LINE OF ITS BASES

  pub line_is : (q : QName) (k : Known q) (line : List QName) → record_in c.program q ≡ RecordForm (q ∷ line) (fields_of (record_in c.program q)) → line ≡ base_line (form_in c.program) k.says.base
  line_is q k line e = ap (λ t. behind_first (line_of t)) (sym e ∙ k.is.is)

  line_ends : (q : QName) (k : Known q) (o : Option TypeRef) → k.says.base ≡ o → IfSome o (λ t. IsBase c.program t) → [] ≡ base_line (form_in c.program) o → LineStands c.img.types q []
  line_ends q k None e i l = (
    k.stands.descriptor,
    subst (λ x. slice_get c.img.types (type_number c.img.types x) ≡ Some k.stands.descriptor) k.unit_is k.stands.found,
    k.stands.base_is ∙ ap (λ o. base_number (length k.place.before.types) (type_links k.place.before (file_of k.build)) (base_in k.build.types k.build.unit (file_of k.build).links.types (base_type k.build.types k.build.unit o))) e,
  )
  line_ends q k (Some t) e i l = absurd (no_items i.0 i.1.0 (l ∙ ap line_of i.2 ∙ ap line_of i.1.1))

  line_goes_on : (q : QName) (k : Known q) (b : QName) (line : List QName) (o : Option TypeRef) → k.says.base ≡ o → IfSome o (λ t. IsBase c.program t) → b ∷ line ≡ base_line (form_in c.program) o → ((p : QName) → record_in c.program p ≡ RecordForm (p ∷ line) (fields_of (record_in c.program p)) → LineStands c.img.types p line) → LineStands c.img.types q (b ∷ line)
  line_goes_on q k b line None e i l more = absurd (no_items b line (sym l))
  line_goes_on q k b line (Some t) e i l more =
      let whole : b ∷ line ≡ i.0 ∷ i.1.0 = l ∙ ap line_of i.2 ∙ ap line_of i.1.1 in
      let n = next q k t i.0 e i.1 i.2 in
      let rest : line ≡ i.1.0 = ap behind_first whole in
      let is = i.1.1 ∙ ap (λ x. RecordForm (i.0 ∷ x) (fields_of (record_in c.program i.0))) (sym rest) in
      subst (λ x. LineStands c.img.types q (x ∷ line)) (sym (first_same b i.0 line i.1.0 whole)) ((n.descriptor, n.found, n.base_is, n.before), more i.0 is)

  pub lines : (line : List QName) (q : QName) → record_in c.program q ≡ RecordForm (q ∷ line) (fields_of (record_in c.program q)) → LineStands c.img.types q line
  lines [] q e = let k = known q [] e in line_ends q k k.says.base refl k.is.base (line_is q k [] e)
  lines (b ∷ line) q e = let k = known q (b ∷ line) e in line_goes_on q k b line k.says.base refl k.is.base (line_is q k (b ∷ line) e) (λ p f. lines line p f)
