-- The end of a plan, behind the whole walk.
use Rattle.std.proofs.Common.{◌≡◌, ℕ, suc, ◌+◌, ◌<◌, ◌≤◌, Bool, true, false, List, [], ◌∷◌, ◌++◌, map, Option, Some, None, Result, Ok, Err, refl, sym, ap, subst, ◌∙◌, arith}
use Rattle.std.specs.Prelude.{if◌then◌else◌, bytes_eq, codes, nat_lt}
use Rattle.std.proofs.lemmas.Bool.{false≢true, lt-ltb, le-ltb}
use Rattle.std.proofs.lemmas.Map.Text.{is_eq-slice_cmp}
use Rattle.ob_tree.specs.declared.print.Print.{Print}
use Rattle.ob_tree.specs.declared.proc_ref.ProcRef.{ProcRef}
use Rattle.ob_obj.specs.declared.parts.Command.{Command}
use Rattle.ob_obj.specs.declared.file.ObjFile.{ObjFile}
use Rattle.ob_obj.specs.Images.{same}
use Rattle.ob_link.specs.declared.exported.Exported.{Exported}
use Rattle.ob_link.specs.declared.fault.LoadFault.{LoadFault}
use Rattle.ob_link.specs.declared.fault.LoadFault.TheVariants as fault
use Rattle.ob_link.specs.declared.fault.LoadRefusal.TheVariants as refusal
use Rattle.ob_link.specs.declared.shape.Plan.{Plan}
use Rattle.ob_link.specs.Index.{place_from}
use Rattle.ob_link.specs.Walk.{visit, and_then, most_deep}
use Rattle.ob_link.specs.Plan as p
use Rattle.ob_link.specs.Plan.{Refusal, is_there, steps, most_globals, has_command, plan}
use Rattle.ob_link.specs.Files as files
use Rattle.ob_link.specs.Files.{Files, asks, numbered, command_number, command_at, or_zero, object_entry, file_plan}
use Rattle.ob_link.specs.Members as m
use Rattle.ob_link.specs.Members.{Known, member_of, member_named, procedure_named}
use Rattle.ob_link.specs.Judging.{words_of, command_of, command_in, command_ref, ref_with}
use Rattle.ob_link.specs.Contract.{Plans}
use Rattle.ob_link.specs.Walking.{Visited, Walks}
use Rattle.ob_link.proofs.Bridges.{all_known}
use Rattle.ob_link.proofs.Made.{words_so}

-- THE COMMAND

abbrev names_of : List Known → List (List ℕ)
names_of ks = map (λ k. k.name) ks

one_number : (b : Bool) (f : ObjFile) (c : Command) (o : Option Exported) (n : Option ℕ) → command_of o ≡ numbered f n → command_of (if b then Some (m.exported f.body.procedures c) else o) ≡ numbered f (if b then Some c.procedure else n)
one_number true f c o n e = refl
one_number false f c o n e = e

number_so : (f : ObjFile) (command : List ℕ) (cs : List Command) → command_of (procedure_named command (map (m.exported f.body.procedures) cs)) ≡ numbered f (command_number command cs)
number_so f command [] = refl
number_so f command (c ∷ cs) = one_number (bytes_eq command c.name) f c (procedure_named command (map (m.exported f.body.procedures) cs)) (command_number command cs) (number_so f command cs)

ref_there : (n : ℕ) (o : Option ℕ) → ref_with o (Some n) ≡ (if is_there o then Some (record { «module» = n; proc = or_zero o }) else None)
ref_there n None = refl
ref_there n (Some x) = refl

one_ref : (b t : Bool) (n : ℕ) (f : ObjFile) (command : List ℕ) (k : Option Known) (rest : Option ObjFile) (o : Option ℕ) (at : ProcRef) → t ≡ b → ref_with (command_in k command) o ≡ (if has_command asks rest command then Some at else None) → ref_with (command_in (if b then Some (member_of f) else k) command) (if t then Some n else o) ≡ (if has_command asks (if b then Some f else rest) command then Some (if b then record { «module» = n; proc = or_zero (files.command_in f command) } else at) else None)
one_ref true true n f command k rest o at e h = ap (λ x. ref_with x (Some n)) (number_so f command f.body.commands) ∙ ref_there n (files.command_in f command)
one_ref true false n f command k rest o at e h = absurd (false≢true e)
one_ref false true n f command k rest o at e h = absurd (false≢true (sym e))
one_ref false false n f command k rest o at e h = h

ref_from : (n : ℕ) (fs : List ObjFile) (name command : List ℕ) → ref_with (command_in (member_named name (map member_of fs)) command) (place_from n (names_of (map member_of fs)) name) ≡ (if has_command asks (p.named asks name fs) command then Some (command_at n name command fs) else None)
ref_from n [] name command = refl
ref_from n (f ∷ fs) name command = one_ref (bytes_eq name f.head.«module») (same name f.head.«module») n f command (member_named name (map member_of fs)) (p.named asks name fs) (place_from (suc n) (names_of (map member_of fs)) name) (command_at (suc n) name command fs) (is_eq-slice_cmp name f.head.«module») (ref_from (suc n) fs name command)

command_so : (ks planned : List Known) (fs gs : List ObjFile) (name command : List ℕ) → ks ≡ map member_of fs → planned ≡ map member_of gs → command_ref (ks ++ planned) name command ≡ (if has_command asks (p.named asks name (fs ++ gs)) command then Some (command_at 0 name command (fs ++ gs)) else None)
command_so ks planned fs gs name command e h = ap (λ l. command_ref l name command) (all_known ks planned fs gs e h) ∙ ref_from 0 (fs ++ gs) name command

none_if : (b : Bool) (r : ProcRef) → (if b then Some r else None) ≡ None → b ≡ false
none_if true r e = absurd cc
none_if false r e = refl

some_if : (b : Bool) (r q : ProcRef) → (if b then Some r else None) ≡ Some q → (b ≡ true) × (q ≡ r)
some_if true r q e = (refl, cc)
some_if false r q e = absurd cc

-- ROOM

abbrev room_or : List ObjFile → List ObjFile → List ℕ → List ℕ → Bool → Result (List ObjFile) (Refusal Print)
room_or fs gs name command b = if b then Err (p.NoRoom (p.words_of asks fs) (p.words_of asks gs)) else if has_command asks (p.named asks name (fs ++ gs)) command then Ok gs else Err (p.NoCommand name command)

abbrev command_or : List ObjFile → List ℕ → List ℕ → Bool → Result (List ObjFile) (Refusal Print)
command_or gs name command b = if b then Ok gs else Err (p.NoCommand name command)

abbrev with_command : List ObjFile → ProcRef → Plan
with_command gs r = record { files = gs; command = r }

words_as : (ks : List Known) (fs : List ObjFile) (n : ℕ) → ks ≡ map member_of fs → n ≡ words_of ks → n ≡ p.words_of asks fs
words_as ks fs n e h = h ∙ ap words_of e ∙ words_so fs

pub no_room : (ks planned : List Known) (fs gs : List ObjFile) (name command : List ℕ) (used asked : ℕ) → ks ≡ map member_of fs → planned ≡ map member_of gs → used ≡ words_of ks → asked ≡ words_of planned → 262144 < used + asked → Plans fs name command (p.planned asks fs name command gs) (Err (fault.Refused (refusal.NoRoom used asked)))
no_room ks planned fs gs name command used asked e h eu ea lt =
    let u = words_as ks fs used e eu in
    let a = words_as planned gs asked h ea in
    let t : nat_lt most_globals (p.words_of asks fs + p.words_of asks gs) ≡ true = lt-ltb most_globals (p.words_of asks fs + p.words_of asks gs) (omega (arith, u, a, lt)) in
    subst (λ x. Plans fs name command x (Err (fault.Refused (refusal.NoRoom used asked)))) (sym (ap (room_or fs gs name command) t)) (ap (λ n. refusal.NoRoom n asked) u ∙ ap (λ n. refusal.NoRoom (p.words_of asks fs) n) a)

in_room : (ks planned : List Known) (fs gs : List ObjFile) (name command : List ℕ) (used asked : ℕ) → ks ≡ map member_of fs → planned ≡ map member_of gs → used ≡ words_of ks → asked ≡ words_of planned → used + asked ≤ 262144 → p.planned asks fs name command gs ≡ command_or gs name command (has_command asks (p.named asks name (fs ++ gs)) command)
in_room ks planned fs gs name command used asked e h eu ea le =
    let u = words_as ks fs used e eu in
    let a = words_as planned gs asked h ea in
    let t : nat_lt most_globals (p.words_of asks fs + p.words_of asks gs) ≡ false = le-ltb most_globals (p.words_of asks fs + p.words_of asks gs) (omega (arith, u, a, le)) in
    ap (room_or fs gs name command) t

pub no_command : (ks planned : List Known) (fs gs : List ObjFile) (name command : List ℕ) (used asked : ℕ) → ks ≡ map member_of fs → planned ≡ map member_of gs → used ≡ words_of ks → asked ≡ words_of planned → used + asked ≤ 262144 → command_ref (ks ++ planned) name command ≡ None → Plans fs name command (p.planned asks fs name command gs) (Err (fault.Refused (refusal.NoCommand name command)))
no_command ks planned fs gs name command used asked e h eu ea le is =
    let b = none_if (has_command asks (p.named asks name (fs ++ gs)) command) (command_at 0 name command (fs ++ gs)) (sym (command_so ks planned fs gs name command e h) ∙ is) in
    subst (λ x. Plans fs name command x (Err (fault.Refused (refusal.NoCommand name command)))) (sym (in_room ks planned fs gs name command used asked e h eu ea le ∙ ap (command_or gs name command) b)) refl

pub all_planned : (ks planned : List Known) (fs gs : List ObjFile) (name command : List ℕ) (used asked : ℕ) (r : ProcRef) → ks ≡ map member_of fs → planned ≡ map member_of gs → used ≡ words_of ks → asked ≡ words_of planned → used + asked ≤ 262144 → command_ref (ks ++ planned) name command ≡ Some r → Plans fs name command (p.planned asks fs name command gs) (Ok (record { files = gs; command = r }))
all_planned ks planned fs gs name command used asked r e h eu ea le is =
    let q : Plan = record { files = gs; command = r } in
    let b = some_if (has_command asks (p.named asks name (fs ++ gs)) command) (command_at 0 name command (fs ++ gs)) r (sym (command_so ks planned fs gs name command e h) ∙ is) in
    subst (λ x. Plans fs name command x (Ok q)) (sym (in_room ks planned fs gs name command used asked e h eu ea le ∙ ap (command_or gs name command) b.0)) (ap (with_command gs) b.1)

-- THE WHOLE PLAN

abbrev plan_or : Files → List ObjFile → List ℕ → List ℕ → Bool → Result (List ObjFile) (Refusal Print)
plan_or fold fs name command b = if b then Err (p.NoObject name) else and_then (visit (steps asks (object_entry fold) fs) most_deep [] name []) (p.planned asks fs name command)

plan_at : (fold : Files) (fs : List ObjFile) (name command : List ℕ) (b : Bool) → bytes_eq name (codes "Out") ≡ b → file_plan fold fs name command ≡ plan_or fold fs name command b
unfolding file_plan plan
plan_at fold fs name command b e = ap (plan_or fold fs name command) e

pub out_planned : (fold : Files) (fs : List ObjFile) (name command : List ℕ) → bytes_eq name (codes "Out") ≡ true → Plans fs name command (file_plan fold fs name command) (Err (fault.Refused (refusal.NoObject name)))
out_planned fold fs name command e = subst (λ x. Plans fs name command x (Err (fault.Refused (refusal.NoObject name)))) (sym (plan_at fold fs name command true e)) refl

abbrev then_planned : List ObjFile → List ℕ → List ℕ → Visited → Result (List ObjFile) (Refusal Print)
then_planned fs name command v = and_then v (p.planned asks fs name command)

pub walk_planned : (fold : Files) (fs left : List ObjFile) (name command : List ℕ) (result : Result Plan LoadFault) → bytes_eq name (codes "Out") ≡ false → visit (steps asks (object_entry fold) fs) most_deep [] name [] ≡ Ok left → Plans fs name command (p.planned asks fs name command left) result → Plans fs name command (file_plan fold fs name command) result
walk_planned fold fs left name command result e v h = subst (λ x. Plans fs name command x result) (sym (plan_at fold fs name command false e ∙ ap (then_planned fs name command) v)) h

stops_planned : (fs : List ObjFile) (name command : List ℕ) (v : Visited) (e : LoadFault) → Walks v (Err e) → Plans fs name command (then_planned fs name command v) (Err e)
stops_planned fs name command (Ok left) (fault.Refused s) h = absurd h
stops_planned fs name command (Err r) (fault.Refused s) h = h
stops_planned fs name command (Ok left) fault.Folder h = go (p.planned asks fs name command left)
  where
    go : (x : Result (List ObjFile) (Refusal Print)) → Plans fs name command x (Err fault.Folder)
    go (Ok y) = tt
    go (Err r) = tt
stops_planned fs name command (Err r) fault.Folder h = tt
stops_planned fs name command (Ok left) fault.Memory h = go (p.planned asks fs name command left)
  where
    go : (x : Result (List ObjFile) (Refusal Print)) → Plans fs name command x (Err fault.Memory)
    go (Ok y) = tt
    go (Err r) = tt
stops_planned fs name command (Err r) fault.Memory h = tt

pub fault_planned : (fold : Files) (fs : List ObjFile) (name command : List ℕ) (e : LoadFault) → bytes_eq name (codes "Out") ≡ false → Walks (visit (steps asks (object_entry fold) fs) most_deep [] name []) (Err e) → Plans fs name command (file_plan fold fs name command) (Err e)
fault_planned fold fs name command e b h = subst (λ x. Plans fs name command x (Err e)) (sym (plan_at fold fs name command false b)) (stops_planned fs name command (visit (steps asks (object_entry fold) fs) most_deep [] name []) e h)
