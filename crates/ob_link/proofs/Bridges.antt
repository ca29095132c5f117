-- What is known of files says what the files say.
use Rattle.std.proofs.Common.{◌≡◌, ℕ, suc, Bool, true, false, List, [], ◌∷◌, ◌++◌, map, Option, Some, None, refl, sym, ap, ◌∙◌}
use Rattle.std.specs.Prelude.{if◌then◌else◌, bytes_eq, ◌||◌, codes}
use Rattle.std.specs.Option.{option_map}
use Rattle.std.proofs.lemmas.List.{length-map}
use Rattle.std.proofs.lemmas.Map.Text.{is_eq-slice_cmp}
use Rattle.ob_types.specs.declared.face.Aspect.{Aspect}
use Rattle.ob_types.specs.declared.face.Use.{Use}
use Rattle.ob_env.specs.Faces.{wanted_of}
use Rattle.ob_instr.specs.declared.procedure.Procedure.{Procedure}
use Rattle.ob_obj.specs.declared.parts.Command.{Command}
use Rattle.ob_obj.specs.declared.parts.RecordType.{RecordType}
use Rattle.ob_obj.specs.declared.file.ObjFile.{ObjFile}
use Rattle.ob_obj.specs.Images.{same}
use Rattle.ob_link.specs.declared.exported.Exported.{Exported}
use Rattle.ob_link.specs.Index.{place_from}
use Rattle.ob_link.specs.Walk.{first_of}
use Rattle.ob_link.specs.Plan.{is_there, named, fails, use_fails, use_against, kept_by}
use Rattle.ob_link.specs.Files.{asks, agrees, unless, linked, holds, file_named, has_variable, has_procedure, has_type, command_number, unlinked, unlinked_variable, unlinked_procedure, unlinked_type}
use Rattle.ob_link.specs.Members as m
use Rattle.ob_link.specs.Members.{Known, member_of, member_named, procedure_named}
use Rattle.ob_link.specs.Judging.{kept_of, use_break, variable_in, procedure_in, type_in, missing_variable, missing_procedure, missing_type, missing, breaks, is_passed}

-- MODULES

one_mapped : {A B : Type 0} (f : A → B) (b : Bool) (x : A) (more : Option B) (rest : Option A) → more ≡ option_map f rest → (if b then Some (f x) else more) ≡ option_map f (if b then Some x else rest)
one_mapped f true x more rest e = refl
one_mapped f false x more rest e = e

pub named_member : (name : List ℕ) (fs : List ObjFile) → member_named name (map member_of fs) ≡ option_map member_of (named asks name fs)
named_member name [] = refl
named_member name (f ∷ fs) = one_mapped member_of (bytes_eq name f.head.«module») f (member_named name (map member_of fs)) (named asks name fs) (named_member name fs)

pub same_named : (name : List ℕ) (fs : List ObjFile) → file_named name fs ≡ named asks name fs
same_named name [] = refl
same_named name (f ∷ fs) = ap (λ o. if bytes_eq name f.head.«module» then Some f else o) (same_named name fs)

there_mapped : {A B : Type 0} (f : A → B) (o : Option A) → is_there (option_map f o) ≡ is_there o
there_mapped f None = refl
there_mapped f (Some x) = refl

pub map_both : (fs gs : List ObjFile) → map member_of (fs ++ gs) ≡ map member_of fs ++ map member_of gs
map_both [] gs = refl
map_both (f ∷ fs) gs = ap (λ l. member_of f ∷ l) (map_both fs gs)

-- these are known of those files
pub all_known : (a b : List Known) (fs gs : List ObjFile) → a ≡ map member_of fs → b ≡ map member_of gs → a ++ b ≡ map member_of (fs ++ gs)
all_known a b fs gs e h = rw (e, h) (sym (map_both fs gs))

pub passes_so : (name : List ℕ) (fs : List ObjFile) → is_passed (map member_of fs) name ≡ (bytes_eq name (codes "Out") || is_there (named asks name fs))
passes_so name fs = ap (λ b. bytes_eq name (codes "Out") || b) (ap is_there (named_member name fs) ∙ there_mapped member_of (named asks name fs))

-- USES

kept_so : (o : Option ObjFile) (name : List ℕ) (a : Aspect) → kept_of (option_map member_of o) name a ≡ kept_by asks o name a
kept_so None name a = refl
kept_so (Some f) name a = refl

use_so : (fs : List ObjFile) (client : List ℕ) (u : Use) → use_break (map member_of fs) client u ≡ use_fails asks fs client (wanted_of u)
use_so fs client u = ap (use_against agrees client (wanted_of u)) (ap (λ o. kept_of o u.object.object u.aspect) (named_member u.object.«module» fs) ∙ kept_so (named asks u.object.«module» fs) u.object.object u.aspect)

uses_so : (fs : List ObjFile) (client : List ℕ) (us : List Use) → first_of (use_break (map member_of fs) client) us ≡ first_of (use_fails asks fs client) (map wanted_of us)
uses_so fs client [] = refl
uses_so fs client (u ∷ us) = rw (use_so fs client u, uses_so fs client us) refl

-- LINKS

variable_so : (o : Option ObjFile) (name : List ℕ) → variable_in (option_map member_of o) name ≡ holds (λ f. has_variable name f.globals.variables) o
variable_so None name = refl
variable_so (Some f) name = refl

first_alike : {A R : Type 0} (f g : A → Option R) (l : List A) → ((x : A) → f x ≡ g x) → first_of f l ≡ first_of g l
first_alike f g [] h = refl
first_alike f g (x ∷ l) h = rw (h x, first_alike f g l h) refl

one_procedure : (b : Bool) (ps : List Procedure) (c : Command) (o : Option Exported) (p : Option ℕ) → is_there o ≡ is_there p → is_there (if b then Some (m.exported ps c) else o) ≡ is_there (if b then Some c.procedure else p)
one_procedure true ps c o p e = refl
one_procedure false ps c o p e = e

procedures_so : (ps : List Procedure) (name : List ℕ) (cs : List Command) → is_there (procedure_named name (map (m.exported ps) cs)) ≡ has_procedure name cs
procedures_so ps name [] = refl
procedures_so ps name (c ∷ cs) = one_procedure (bytes_eq name c.name) ps c (procedure_named name (map (m.exported ps) cs)) (command_number name cs) (procedures_so ps name cs)

procedure_so : (o : Option ObjFile) (name : List ℕ) → procedure_in (option_map member_of o) name ≡ holds (λ f. has_procedure name f.body.commands) o
procedure_so None name = refl
procedure_so (Some f) name = procedures_so f.body.procedures name f.body.commands

one_place : (b t : Bool) (n : ℕ) (o : Option ℕ) (more : Bool) → b ≡ t → is_there o ≡ more → is_there (if b then Some n else o) ≡ (t || more)
one_place true t n o more e h = rw (sym e) refl
one_place false t n o more e h = rw (sym e) h

types_so : (n : ℕ) (name : List ℕ) (ts : List RecordType) → is_there (place_from n (map (λ t. t.name) ts) name) ≡ has_type name ts
types_so n name [] = refl
types_so n name (t ∷ ts) = one_place (same name t.name) (bytes_eq name t.name) n (place_from (suc n) (map (λ x. x.name) ts) name) (has_type name ts) (is_eq-slice_cmp name t.name) (types_so (suc n) name ts)

type_so : (o : Option ObjFile) (name : List ℕ) → type_in (option_map member_of o) name ≡ holds (λ f. has_type name f.body.types) o
type_so None name = refl
type_so (Some f) name = types_so 0 name f.body.types

missing_so : (fs : List ObjFile) (f : ObjFile) → missing (map member_of fs) f.links ≡ unlinked fs f
missing_so fs f =
    let vs = first_alike (missing_variable (map member_of fs)) (unlinked_variable fs) f.links.variables (λ l. ap (unless (linked l)) (ap (λ o. variable_in o l.name) (named_member l.«module» fs ∙ ap (option_map member_of) (sym (same_named l.«module» fs))) ∙ variable_so (file_named l.«module» fs) l.name)) in
    let ps = first_alike (missing_procedure (map member_of fs)) (unlinked_procedure fs) f.links.procedures (λ l. ap (unless (linked l)) (ap (λ o. procedure_in o l.name) (named_member l.«module» fs ∙ ap (option_map member_of) (sym (same_named l.«module» fs))) ∙ procedure_so (file_named l.«module» fs) l.name)) in
    let ts = first_alike (missing_type (map member_of fs)) (unlinked_type fs) f.links.types (λ q. ap (unless q) (ap (λ o. type_in o q.object) (named_member q.«module» fs ∙ ap (option_map member_of) (sym (same_named q.«module» fs))) ∙ type_so (file_named q.«module» fs) q.object)) in
    rw (vs, ps, ts) refl

pub breaks_so : (fs : List ObjFile) (f : ObjFile) → breaks (map member_of fs) f ≡ fails asks fs f
breaks_so fs f = rw (uses_so fs f.head.«module» f.head.uses, missing_so fs f, length-map fs member_of) refl
