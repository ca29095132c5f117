-- Tags and procedures are few, so that each is told by a word.
use Rattle.std.proofs.Common.{◌≡◌, ℕ, suc, ◌+◌, ◌*◌, ◌<◌, ◌≤◌, List, [], ◌∷◌, ◌++◌, length, map, refl, sym, ap, ◌∙◌, subst, arith, length-append, Option}
use Rattle.std.proofs.lemmas.Bool.Decides.{nat_tests}
use Rattle.std.specs.Prelude.{Bool, true, false, bytes_eq, if◌then◌else◌}
use Rattle.ob_tree.specs.declared.names.QName.{QName}
use Rattle.ob_types.specs.declared.desc.Desc.{Desc}
use Rattle.ob_types.specs.TypedSyntax.{Procedure, Module}
use Rattle.ob_tdesc.specs.declared.descriptor.Descriptor.{Descriptor}
use Rattle.ob_instr.specs.Rows.{in_width, tag, proc_value}
use Rattle.ob_instr.specs.Image.{Image}
use Rattle.ob_obj.specs.declared.file.ObjFile.{ObjFile}
use Rattle.ob_obj.specs.Images.{type_links, entered, module_of, image_of, AreEnterable}
use Rattle.ob_scheme.specs.Procedures.{rows_of, all_procedures}
use Rattle.ob_scheme.specs.Procedures as scheme
use Rattle.law_simulation_relation.specs.Layout.{module_number, procedure_number, procedure_index, procedures_in}
use Rattle.law_simulation_relation.specs.Setting.{Setting}
use Rattle.law_simulation_operators.specs.Procedures.{ValuesNumbered}
use Rattle.law_image_links.specs.Files.{Build, file_of, empty, AreFiles}
use Rattle.law_image_links.specs.Records.{ValuesThere}
use Rattle.law_image_links.proofs.TypeNumbers.{AreOf, added, length_named}
use Rattle.law_image_links.proofs.Described.{units}
use Rattle.law_image_links.proofs.Linked.{sound, few_types}
use Rattle.law_lists.proofs.Lists.{length_last}

-- TYPES

as_many : (m : List ℕ) (xs : List (List ℕ)) (ds : List Descriptor) → AreOf m xs ds → length ds ≡ length xs
as_many m [] [] a = refl
as_many m [] (d ∷ ds) a = absurd a
as_many m (x ∷ xs) [] a = absurd a
as_many m (x ∷ xs) (d ∷ ds) a = ap suc (as_many m xs ds a.1.1)

types_few : (img : Image) (files : List ObjFile) → length img.types ≤ 1048576 * length img.modules → length img.modules ≤ 255 → AreEnterable img files → length (image_of img files).types ≤ 267386880
types_few img [] l k h = omega (arith, l, k)
types_few img (f ∷ files) l k h =
    let a = added f.head.«module» (length img.types) (type_links img f) (length img.modules) img.types f.body.types in
    let own = as_many f.head.«module» (map (λ t. t.name) f.body.types) a.descriptors a.are ∙ length_named f.body.types in
    let all = ap length a.is ∙ length-append img.types a.descriptors in
    let one = length_last img.modules (module_of img f) in
    let few = few_types f h.0.fits in
    let room = h.0.few in
    types_few (entered img f) files (omega (arith, l, own, all, one, few)) (omega (arith, one, room)) h.1

tag_fits : (n k : ℕ) → n < k → k ≤ 267386880 → in_width 4 (tag n) ≡ true
tag_fits n k l m = grind (arith, nat_tests)

pub tags : (c : Setting) (builds : List Build) (more : List ObjFile) → AreFiles c builds more → (n : ℕ) → n < length c.img.types → in_width 4 (tag n) ≡ true
tags c builds more files n l = tag_fits n (length c.img.types) l (subst (λ i. length i.types ≤ 267386880) (sym files.image) (types_few (empty files.room) (map file_of builds ++ more) (omega arith) (omega arith) files.enterable))

-- MODULES

modules_few : (img : Image) (bs : List Build) (more : List ObjFile) → length img.modules ≤ 255 → AreEnterable img (map file_of bs ++ more) → length bs + length img.modules ≤ 255
modules_few img [] more k h = omega (arith, k)
modules_few img (b ∷ bs) more k h =
    let one = length_last img.modules (module_of img (file_of b)) in
    let few = h.0.few in
    let r = modules_few (entered img (file_of b)) bs more (omega (arith, one, few)) h.1 in
    omega (arith, one, r)

module_below : (bs : List Build) (x : List ℕ) → module_number (units bs) x ≤ length bs
module_below [] x = omega arith
module_below (b ∷ bs) x = go (bytes_eq x b.unit.name) (module_below bs x)
  where
    go : (t : Bool) → module_number (units bs) x ≤ length bs → (if t then 0 else suc (module_number (units bs) x)) ≤ suc (length bs)
    go true r = omega arith
    go false r = omega (arith, r)

-- PROCEDURES

rows_are : (types : QName → Option Desc) (md : Module) (ps : List Procedure) (pc : ℕ) → length (rows_of types md ps pc) ≡ length ps
rows_are types md [] pc = refl
rows_are types md (p ∷ ps) pc = ap suc (rows_are types md ps (scheme.end_procedure types md p pc))

procedures_few : (img : Image) (bs : List Build) (more : List ObjFile) (x : List ℕ) → AreEnterable img (map file_of bs ++ more) → length (procedures_in (units bs) x) ≤ 4095
procedures_few img [] more x h = omega arith
procedures_few img (b ∷ bs) more x h =
    let rows = rows_are b.types b.unit (all_procedures b.unit) 0 in
    let few = (sound (file_of b) h.0.fits).few_procedures in
    go (bytes_eq x b.unit.name) (omega (arith, rows, few)) (procedures_few (entered img (file_of b)) bs more x h.1)
  where
    go : (t : Bool) → length b.unit.procedures ≤ 4095 → length (procedures_in (units bs) x) ≤ 4095 → length (if t then b.unit.procedures else procedures_in (units bs) x) ≤ 4095
    go true here rest = here
    go false here rest = rest

number_below : (ps : List Procedure) (x : List ℕ) → procedure_number ps x ≤ length ps
number_below [] x = omega arith
number_below (p ∷ ps) x = go (bytes_eq x p.name) (number_below ps x)
  where
    go : (t : Bool) → procedure_number ps x ≤ length ps → (if t then 0 else suc (procedure_number ps x)) ≤ suc (length ps)
    go true r = omega arith
    go false r = omega (arith, r)

index_below : (ps : List Procedure) (x : List ℕ) → procedure_index ps x ≤ suc (length ps)
index_below ps [] = omega arith
index_below ps (k ∷ x) = let r = number_below ps (k ∷ x) in omega (arith, r)

value_fits : (m p : ℕ) → m ≤ 255 → p ≤ 4096 → in_width 4 (proc_value (record { «module» = m; proc = p })) ≡ true
value_fits m p k l = grind (arith, nat_tests)

pub numbered : (c : Setting) (builds : List Build) (more : List ObjFile) → AreFiles c builds more → ValuesThere c → ValuesNumbered c
numbered c builds more files there s q h =
    let img = empty files.room in
    let t = there s q h in
    let m : module_number c.program q.module ≤ 255 =
    let n = module_below builds q.module in
    let few = modules_few img builds more (omega arith) files.enterable in
    subst (λ p. module_number p q.module ≤ 255) (sym files.program) (omega (arith, n, few))
    in
    let k : procedure_index (procedures_in c.program q.module) q.object ≤ 4096 =
    let n = index_below (procedures_in (units builds) q.module) q.object in
    let few = procedures_few img builds more q.module files.enterable in
    subst (λ p. procedure_index (procedures_in p q.module) q.object ≤ 4096) (sym files.program) (omega (arith, n, few))
    in
    record { p = t.0; is = t.1; below = omega (arith, k); fits = value_fits (module_number c.program q.module) (procedure_index (procedures_in c.program q.module) q.object) m k }
