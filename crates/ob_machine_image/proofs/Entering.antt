-- One file more in an image.
use Rattle.std.proofs.Common.{◌≡◌, ℕ, ◌+◌, ◌≤◌, List, [], ◌∷◌, ◌++◌, length, take, map, Result, Ok, Err, IsOk, is_ok, refl, ap, sym, subst, ◌∙◌, arith}
use Rattle.std.specs.Prelude.{if◌then◌else◌}
use Rattle.std.proofs.lemmas.List.{length-append, take-append-le}
use Rattle.ob_tree.specs.declared.proc_ref.ProcRef.{ProcRef}
use Rattle.ob_tdesc.specs.declared.descriptor.Descriptor.{Descriptor}
use Rattle.ob_instr.specs.declared.instr.Instr.{Instr}
use Rattle.ob_instr.specs.declared.procedure.Procedure.{Procedure}
use Rattle.ob_instr.specs.declared.procedure.Position.{Position}
use Rattle.ob_instr.specs.Image.{ModuleImage, Image}
use Rattle.ob_obj.specs.declared.file.ObjFile.{ObjFile}
use Rattle.ob_obj.specs.Images.{IsEnterable, AreEnterable, entered, image_of, module_of, type_links, with_types, numbers, string_places, linked_variable, linked_procedure, or_zero, or_first, global_words}
use Rattle.ob_machine_image.specs.Room.{room}
use Rattle.ob_machine_image.proofs.Standing.{with_types_front, with_types_length}

pub made : (img : Image) (f : ObjFile) (code : List Instr) (positions : List Position) (procedures : List Procedure) (first : ℕ) (variables commands : List (List ℕ × ℕ)) (strings variable_links : List ℕ) (procedure_links : List ProcRef) (types : List ℕ) → code ≡ f.body.code → positions ≡ f.body.positions → procedures ≡ f.body.procedures → first ≡ img.next → variables ≡ map (λ v. (v.name, img.next + v.place)) f.globals.variables → commands ≡ map (λ c. (c.name, c.procedure)) f.body.commands → strings ≡ string_places (img.next + f.globals.variable_words) f.globals.strings → variable_links ≡ map (λ l. or_zero (linked_variable img.modules l)) f.links.variables → procedure_links ≡ map (λ l. or_first (linked_procedure img.modules l)) f.links.procedures → types ≡ numbers (length img.types) (length f.body.types) ++ type_links img f → record { name = f.head.«module»; code = code; positions = positions; procedures = procedures; first = first; variables = variables; commands = commands; strings = strings; variable_links = variable_links; procedure_links = procedure_links; types = types } ≡ module_of img f
made img f code positions procedures first variables commands strings variable_links procedure_links types e1 e2 e3 e4 e5 e6 e7 e8 e9 e10 = rw (e1, e2, e3, e4, e5, e6, e7, e8, e9, e10) refl

pub pushed : {X A E : Type 0} (r : Result X E) (a b : List A) → IsOk r → (if is_ok r then a else b) ≡ a
pushed (Ok x) a b ok = refl
pushed (Err e) a b ok = absurd cc

pub entered_is : (img : Image) (f : ObjFile) (modules : List ModuleImage) (types : List Descriptor) (next : ℕ) → modules ≡ img.modules ++ module_of img f ∷ [] → types ≡ with_types f.head.«module» (length img.types) (type_links img f) (length img.modules) img.types f.body.types → next ≡ img.next + global_words f → room ≡ img.room → record { modules = modules; types = types; next = next; room = room } ≡ entered img f
entered_is img f modules types next e1 e2 e3 e4 = rw (e1, e2, e3, e4) refl

-- THE FILES IN TURN

pub on_enters : (img new t : Image) (f : ObjFile) (rest more : List ObjFile) → new ≡ entered img f → rest ≡ f ∷ more → image_of img rest ≡ t → image_of new more ≡ t
on_enters img new t f rest more e r h = ap (λ i. image_of i more) e ∙ ap (image_of img) (sym r) ∙ h

pub on_can : (img new : Image) (f : ObjFile) (rest more : List ObjFile) → new ≡ entered img f → rest ≡ f ∷ more → AreEnterable img rest → AreEnterable new more
on_can img new f rest more e r h = let both = subst (λ l. AreEnterable img l) r h in subst (λ i. AreEnterable i more) (sym e) both.1

pub is_enterable : (img : Image) (f : ObjFile) (rest more : List ObjFile) → rest ≡ f ∷ more → AreEnterable img rest → IsEnterable img f
is_enterable img f rest more r h = let both = subst (λ l. AreEnterable img l) r h in both.0

pub on_modules : (img new : Image) (f : ObjFile) (n : ℕ) (before : List ModuleImage) → new ≡ entered img f → n ≤ length img.modules → take n img.modules ≡ before → take n new.modules ≡ before
on_modules img new f n before e le h = ap (λ i. take n i.modules) e ∙ take-append-le n img.modules (module_of img f ∷ []) le ∙ h

pub on_types : (img new : Image) (f : ObjFile) (n : ℕ) (before : List Descriptor) → new ≡ entered img f → n ≤ length img.types → take n img.types ≡ before → take n new.types ≡ before
on_types img new f n before e le h = ap (λ i. take n i.types) e ∙ with_types_front f.head.«module» (length img.types) (type_links img f) (length img.modules) n img.types f.body.types le ∙ h

pub on_within : (img new : Image) (f : ObjFile) (n : ℕ) → new ≡ entered img f → n ≤ length img.modules → n ≤ length new.modules
on_within img new f n e le = rw e (omega (arith, length-append img.modules (module_of img f ∷ [])))

pub on_types_within : (img new : Image) (f : ObjFile) (n : ℕ) → new ≡ entered img f → n ≤ length img.types → n ≤ length new.types
on_types_within img new f n e le = rw e (omega (arith, with_types_length f.head.«module» (length img.types) (type_links img f) (length img.modules) img.types f.body.types))
