-- The record types of compiled modules stand in the image as the law of simulation asks.
use Rattle.std.proofs.Common.{◌≡◌, ℕ, suc, List, [], ◌∷◌, ◌++◌, refl, sym, ap, ◌∙◌, Option, Some}
use Rattle.std.specs.Prelude.{Bool, true, false, bytes_eq, ◌&&◌, if◌then◌else◌, slice_get}
use Rattle.ob_tree.specs.declared.names.QName.{QName}
use Rattle.ob_types.specs.declared.desc.Desc.{Desc}
use Rattle.ob_types.specs.declared.desc.Desc.TheVariants as desc
use Rattle.ob_types.specs.declared.typed.TypedType.{TypedType}
use Rattle.ob_types.specs.TypedSyntax.{Module}
use Rattle.ob_tdesc.specs.declared.descriptor.Descriptor.{Descriptor}
use Rattle.ob_meaning.specs.Values.{Program, record_in, words}
use Rattle.ob_obj.specs.declared.parts.RecordType.{RecordType}
use Rattle.ob_obj.specs.Images.{descriptor_of, with_types}
use Rattle.ob_scheme.specs.Object.{record_in as record_of, records_in}
use Rattle.law_simulation_relation.specs.Layout.{type_number}
use Rattle.law_simulation_relation.specs.Relation.{OrElse}
use Rattle.law_simulation_relation.specs.Setting.{Setting}
use Rattle.law_simulation_relation.specs.Linked.{TypesStand}
use Rattle.law_simulation_relation.proofs.Names.{bytes_true}
use Rattle.law_image_code.specs.Descriptors.{named, DescriptorsFit, IsDescriptor, RecordsFit, DescFits, DeclarationsFit, TypesThere}
use Rattle.law_lists.proofs.Lists.{and_parts}

-- a descriptor that was found, with its words
pub record Found (program : Program) (ds : List Descriptor) (q : QName) : Type 0 where
  pub descriptor : Descriptor
  pub found : slice_get ds (type_number ds q) ≡ Some descriptor
  pub size : descriptor.words ≡ words (record_in program q)

pub found_in : (program : Program) (ds : List Descriptor) (q : QName) → DescriptorsFit program ds → IsDescriptor ds q → Found program ds q
found_in program [] q f i = absurd i
found_in program (d ∷ ds) q f i = go (bytes_eq q.«module» d.«module» && bytes_eq q.object d.name) refl i (λ j. found_in program ds q f.1 j)
  where
    go : (b : Bool) → (bytes_eq q.«module» d.«module» && bytes_eq q.object d.name) ≡ b → OrElse b (Unit {0}) (IsDescriptor ds q) → (IsDescriptor ds q → Found program ds q) → Found program (d ∷ ds) q
    go true e i more =
        let h = and_parts (bytes_eq q.«module» d.«module») (bytes_eq q.object d.name) e in
        let is : named d.«module» d.name ≡ q = ap (λ x. named x d.name) (sym (bytes_true q.«module» d.«module» h.0)) ∙ ap (λ x. named q.«module» x) (sym (bytes_true q.object d.name h.1)) in
        record { descriptor = d; found = ap (λ b. slice_get (d ∷ ds) (if b then 0 else suc (type_number ds q))) e; size = f.0 ∙ ap (λ x. words (record_in program x)) is }
    go false e i more =
        let r = more i in
        record { descriptor = r.descriptor; found = ap (λ b. slice_get (d ∷ ds) (if b then 0 else suc (type_number ds q))) e ∙ r.found; size = r.size }

pub types_stand : (c : Setting) → DescriptorsFit c.program c.img.types → TypesThere c → TypesStand c
types_stand c f there q line e =
    let t = there q line e in
    let r = found_in c.program c.img.types q f t.1 in
    record { ok = t.0; descriptor = r.descriptor; found = r.found; size = r.size }

-- FILES THAT ARE ENTERED

fit_two : (program : Program) (ds es : List Descriptor) → DescriptorsFit program ds → DescriptorsFit program es → DescriptorsFit program (ds ++ es)
fit_two program [] es f g = g
fit_two program (d ∷ ds) es f g = (f.0, fit_two program ds es f.1 g)

-- the descriptors of a file behind those of before
pub types_fit : (program : Program) (module_name : List ℕ) (first : ℕ) (links : List ℕ) (m : ℕ) (ds : List Descriptor) (own : List RecordType) → DescriptorsFit program ds → RecordsFit program module_name own → DescriptorsFit program (with_types module_name first links m ds own)
types_fit program module_name first links m ds [] f g = f
types_fit program module_name first links m ds (t ∷ own) f g =
    types_fit program module_name first links m (ds ++ descriptor_of module_name first links ds m t ∷ []) own (fit_two program ds (descriptor_of module_name first links ds m t ∷ []) f (g.0, tt)) g.1

descriptor_front : (ds es : List Descriptor) (q : QName) → IsDescriptor ds q → IsDescriptor (ds ++ es) q
descriptor_front [] es q i = absurd i
descriptor_front (d ∷ ds) es q i = go (bytes_eq q.«module» d.«module» && bytes_eq q.object d.name) i (λ j. descriptor_front ds es q j)
  where
    go : (b : Bool) → OrElse b (Unit {0}) (IsDescriptor ds q) → (IsDescriptor ds q → IsDescriptor (ds ++ es) q) → OrElse b (Unit {0}) (IsDescriptor (ds ++ es) q)
    go true i more = tt
    go false i more = more i

-- what was there stays
pub types_stay : (module_name : List ℕ) (first : ℕ) (links : List ℕ) (m : ℕ) (ds : List Descriptor) (own : List RecordType) (q : QName) → IsDescriptor ds q → IsDescriptor (with_types module_name first links m ds own) q
types_stay module_name first links m ds [] q i = i
types_stay module_name first links m ds (t ∷ own) q i = types_stay module_name first links m (ds ++ descriptor_of module_name first links ds m t ∷ []) own q (descriptor_front ds (descriptor_of module_name first links ds m t ∷ []) q i)

-- THE RECORD TYPES OF A FILE

records_two : (program : Program) (m : List ℕ) (ts us : List RecordType) → RecordsFit program m ts → RecordsFit program m us → RecordsFit program m (ts ++ us)
records_two program m [] us f g = g
records_two program m (t ∷ ts) us f g = (f.0, records_two program m ts us f.1 g)

module _ (types : QName → Option Desc) (md : Module) (program : Program) where
  record_fits : (links : List QName) (x : List ℕ) (d : Desc) → DescFits program (named md.name x) d → RecordsFit program md.name (record_of types md links x d)
  record_fits links x (desc.Record r) f = (f, tt)
  record_fits links x d f = tt

  pub records_fit : (links : List QName) (ts : List TypedType) → DeclarationsFit program md.name ts → RecordsFit program md.name (records_in types md links ts)
  records_fit links [] f = tt
  records_fit links (t ∷ ts) f = records_two program md.name (record_of types md links t.name t.desc) (records_in types md links ts) (record_fits links t.name t.desc f.0) (records_fit links ts f.1)
