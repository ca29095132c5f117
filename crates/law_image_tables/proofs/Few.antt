-- An image of files has few modules and few record types, and its modules have few procedures.
use Rattle.std.proofs.Common.{◌≡◌, ℕ, suc, ◌+◌, ◌*◌, ◌≤◌, ◌<◌, List, [], ◌∷◌, ◌++◌, length, map, Option, refl, ap, ◌∙◌, arith, length-append}
use Rattle.ob_tree.specs.declared.names.QName.{QName}
use Rattle.ob_types.specs.declared.desc.Desc.{Desc}
use Rattle.ob_types.specs.TypedSyntax.{Procedure, Module}
use Rattle.ob_tdesc.specs.declared.descriptor.Descriptor.{Descriptor}
use Rattle.ob_instr.specs.Image.{Image}
use Rattle.ob_obj.specs.declared.parts.RecordType.{RecordType}
use Rattle.ob_obj.specs.declared.file.ObjFile.{ObjFile}
use Rattle.ob_obj.specs.Grammar.{file, body, IsSound}
use Rattle.ob_obj.specs.Images.{type_links, module_of, entered, image_of, AreEnterable}
use Rattle.ob_scheme.specs.Procedures.{rows_of, all_procedures}
use Rattle.law_image_links.specs.Files.{Build, file_of}
use Rattle.law_image_tables.proofs.Added.{AreAdded, added}
use Rattle.law_lists.proofs.Lists.{length_last}

-- WHAT A SPELLING SAYS

sound : (f : ObjFile) → file.fits f → IsSound f
unfolding file
sound f fits = fits.1

few_types : (f : ObjFile) → file.fits f → length f.body.types ≤ 1048576
unfolding file body
few_types f fits = fits.0.1.1.1.0.1.0

-- THE IMAGE

as_many : (m : List ℕ) (first : ℕ) (links : List ℕ) (k : ℕ) (types : List Descriptor) (rs : List RecordType) (ds : List Descriptor) → AreAdded m first links k types rs ds → length ds ≡ length rs
as_many m first links k types [] [] a = refl
as_many m first links k types [] (d ∷ ds) a = absurd a
as_many m first links k types (t ∷ rs) [] a = absurd a
as_many m first links k types (t ∷ rs) (d ∷ ds) a = ap suc (as_many m first links k (types ++ d ∷ []) rs ds a.1)

pub record Few (img : Image) : Type 0 where
  pub modules : length img.modules ≤ 255
  pub types : length img.types ≤ length img.modules * 1048576

pub few_from : (img : Image) (files : List ObjFile) → Few img → AreEnterable img files → Few (image_of img files)
few_from img [] h can = h
few_from img (f ∷ files) h can =
    let a = added f.head.«module» (length img.types) (type_links img f) (length img.modules) img.types f.body.types in
    let n = ap length a.is ∙ length-append img.types a.descriptors in
    let m = as_many f.head.«module» (length img.types) (type_links img f) (length img.modules) img.types f.body.types a.descriptors a.are in
    let one = length_last img.modules (module_of img f) in
    let few = few_types f can.0.fits in
    let room = can.0.few in
    let before = h.types in
    few_from (entered img f) files (record { modules = omega (arith, one, room); types = omega (arith, n, m, one, few, before) }) can.1

pub few_enough : (img : Image) → Few img → length img.types < 2147483648
few_enough img h = let m = h.modules in let t = h.types in omega (arith, m, t)

-- ITS PROCEDURES

abbrev pub AllFew : List Build → Type 0
AllFew [] = Unit {0}
AllFew (b ∷ bs) = (length b.unit.procedures < 4096) × AllFew bs

rows_length : (types : QName → Option Desc) (md : Module) (ps : List Procedure) (pc : ℕ) → length (rows_of types md ps pc) ≡ length ps
rows_length types md [] pc = refl
rows_length types md (p ∷ ps) pc = ap suc (rows_length types md ps _)

pub all_few : (img : Image) (bs : List Build) (more : List ObjFile) → AreEnterable img (map file_of bs ++ more) → AllFew bs
all_few img [] more can = tt
all_few img (b ∷ bs) more can =
    let s = (sound (file_of b) can.0.fits).few_procedures in
    let n = rows_length b.types b.unit (all_procedures b.unit) 0 in
    (omega (arith, s, n), all_few (entered img (file_of b)) bs more can.1)
