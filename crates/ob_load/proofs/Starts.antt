-- A system before, while and after a command is run.
use Rattle.std.proofs.Common.{◌≡◌, ℕ, zero, suc, ◌+◌, ◌<◌, ◌≤◌, Bool, true, false, List, [], ◌∷◌, ◌++◌, length, map, take, Option, Some, None, refl, sym, ap, subst, ◌∙◌, arith, ℤ}
use Rattle.std.specs.Prelude.{slice_get, not, nat_eq, IsTrue}
use Rattle.std.specs.List.{AllByRecursion, take-map}
use Rattle.std.proofs.lemmas.List.{length-append, length-map, take_at}
use Rattle.std.proofs.lemmas.Bool.{false≢true, and_parts, not-true, eqb-true}
use Rattle.ob_tree.specs.declared.proc_ref.ProcRef.{ProcRef}
use Rattle.ob_instr.specs.declared.procedure.Procedure.{Procedure}
use Rattle.ob_instr.specs.Image.{Image, ModuleImage}
use Rattle.ob_instr.specs.Rows.{procedure_of}
use Rattle.ob_obj.specs.declared.file.ObjFile.{ObjFile}
use Rattle.ob_obj.specs.Grammar.{file, begins_with_body}
use Rattle.ob_obj.specs.Images.{image_of, words_with, entered, module_of, AreEnterable}
use Rattle.ob_machine_image.specs.Cut.{cut_to}
use Rattle.ob_machine.specs.declared.outcome.Outcome.{Outcome}
use Rattle.ob_machine.specs.declared.outcome.Outcome.TheVariants as outcome
use Rattle.ob_machine.specs.Machine.{Held, IsEntry, world_of}
use Rattle.ob_link.specs.declared.shape.Plan.{Plan}
use Rattle.ob_link.specs.Members.{Known, member_of, empty_image}
use Rattle.ob_link.specs.Contract.{IsStart, CanStart}
use Rattle.ob_link.proofs.Bridges.{map_both}
use Rattle.ob_link.proofs.Fits.{sound}
use Rattle.ob_link.proofs.Made.{Alike, Both, alike_at, alike_length, made_loaded, all_fit}
use Rattle.ob_load.specs.Command.{Last, Ran, ran, came, runs, begin, image_for, body_of}
use Rattle.ob_load.specs.Bodies as bodies
use Rattle.ob_load.specs.Bodies.{CanRun, RanSo}
use Rattle.ob_load.specs.Standing.{Standing, Stands, IsStanding, HasAll, KeepsFirst}
use Rattle.ob_load.specs.Contract.{Came, RunDoes}
use Rattle.ob_load.proofs.Cuts.{image_both, enter_both, enter_taken, cut_so}

-- WHERE A SYSTEM STANDS

pub stands_more : (old new : Standing) (fs files : List ObjFile) → Stands old fs → AreEnterable old.machine.image files → new.members ≡ old.members ++ map member_of files → new.machine.image ≡ image_of old.machine.image files → Stands new (fs ++ files)
stands_more old new fs files s can members image = record {
  loaded = record {
    members = members ∙ ap (λ l. l ++ map member_of files) s.loaded.members ∙ sym (map_both fs files);
    enterable = enter_both fs files empty_image s.loaded.enterable (subst (λ i. AreEnterable i files) s.image can);
  };
  image = image ∙ ap (λ i. image_of i files) s.image ∙ sym (image_both fs files empty_image);
}

many_members : (s : Standing) (fs : List ObjFile) → Stands s fs → length s.members ≡ length fs
many_members s fs h = ap length h.loaded.members ∙ length-map fs member_of

pub many_modules : (s : Standing) (fs : List ObjFile) → Stands s fs → length s.machine.image.modules ≡ length fs
many_modules s fs h = ap (λ i. length i.modules) h.image ∙ alike_length (image_of empty_image fs).modules fs (made_loaded fs h.loaded.enterable).alike

pub stands_cut : (old new : Standing) (fs : List ObjFile) (n : ℕ) → Stands old fs → n ≤ length old.members → new.members ≡ take n old.members → new.machine.image ≡ cut_to n old.machine.image → Stands new (take n fs)
stands_cut old new fs n s le members image = record {
  loaded = record {
    members = members ∙ ap (take n) s.loaded.members ∙ take-map member_of n fs;
    enterable = enter_taken n fs empty_image s.loaded.enterable;
  };
  image = image ∙ ap (cut_to n) s.image ∙ cut_so n fs (omega (arith, le, many_members old fs s)) s.loaded.enterable;
}

-- there is a number for each module
entered_few : (fs : List ObjFile) (img : Image) → length img.modules ≤ 255 → AreEnterable img fs → length img.modules + length fs ≤ 255
entered_few [] img few can = omega arith
entered_few (f ∷ fs) img few can =
    let one : length (entered img f).modules ≡ length img.modules + 1 = length-append img.modules (module_of img f ∷ []) in
    let rest = entered_few fs (entered img f) (omega (arith, one, can.0.few)) can.1 in
    omega (arith, rest, one)

pub few_enough : (s : Standing) (fs files : List ObjFile) → Stands s fs → length s.members ≤ 255 → AreEnterable s.machine.image files → length s.members + length files ≤ 255
few_enough s fs files h few can =
    let m = many_members s fs h in
    let k = many_modules s fs h in
    let all = entered_few files s.machine.image (omega (arith, m, k, few)) can in
    omega (arith, m, k, all)

-- WHAT IS SO ALL ALONG

pub few_in : (s : Standing) (files : List ObjFile) (n : ℕ) → IsStanding s → n ≡ length s.members → n ≤ 255 → AreEnterable s.machine.image files → length s.members + length files ≤ 255
few_in s files n is e few can = few_enough s is.0 files is.1 (omega (arith, e, few)) can

pub modules_in : (s : Standing) → IsStanding s → length s.machine.image.modules ≡ length s.members
modules_in s is = let a = many_modules s is.0 is.1 in let b = many_members s is.0 is.1 in omega (arith, a, b)

pub all_in : (old new : Standing) (files : List ObjFile) → IsStanding old → AreEnterable old.machine.image files → HasAll old new files → IsStanding new
all_in old new files is can h = (is.0 ++ files, stands_more old new is.0 files is.1 can h.members (ap (λ (m : Held). m.image) h.machine))

pub first_in : (old new : Standing) (n : ℕ) → IsStanding old → n ≤ length old.members → KeepsFirst old new n → IsStanding new
first_in old new n is le h = (take n is.0, stands_cut old new is.0 n is.1 le h.members (ap (λ (m : Held). m.image) h.machine))

pub same_in : (old new : Standing) → IsStanding old → new.members ≡ old.members → new.machine.image ≡ old.machine.image → IsStanding new
same_in old new is members image = (is.0, record { loaded = record { members = members ∙ is.1.loaded.members; enterable = is.1.loaded.enterable }; image = image ∙ is.1.image })

pub has_all : (inside old : Standing) (files : List ObjFile) (members : List Known) (machine : Held) → inside ≡ old → members ≡ inside.members ++ map member_of files → machine ≡ record { image = image_of inside.machine.image files; words = words_with inside.machine.image files inside.machine.words; heap = inside.machine.heap } → HasAll old (record { members = members; machine = machine }) files
has_all inside old files members machine e m h = subst (λ (x : Standing). HasAll x (record { members = members; machine = machine }) files) e (record { members = m; machine = h })

pub keeps_first : (inside old : Standing) (n : ℕ) (members : List Known) (machine : Held) → inside ≡ old → members ≡ take n inside.members → machine ≡ record inside.machine { image = cut_to n inside.machine.image } → KeepsFirst old (record { members = members; machine = machine }) n
keeps_first inside old n members machine e m h = subst (λ (x : Standing). KeepsFirst x (record { members = members; machine = machine }) n) e (record { members = m; machine = h })

abbrev standing_of : List Known → Held → Standing
standing_of members machine = record { members = members; machine = machine }

pub same_standing : (inside old : Standing) (members : List Known) (machine : Held) → inside ≡ old → members ≡ inside.members → machine ≡ inside.machine → record { members = members; machine = machine } ≡ old
same_standing inside old members machine e m h = ap (λ l. standing_of l machine) m ∙ ap (standing_of inside.members) h ∙ e

pub can_in : (inside old : Standing) (files : List ObjFile) → inside ≡ old → AreEnterable old.machine.image files → AreEnterable inside.machine.image files
can_in inside old files e can = subst (λ (x : Standing). AreEnterable x.machine.image files) (sym e) can

-- members that were taken out again
pub back : (members : List Known) (files : List ObjFile) (n : ℕ) (all now : List Known) → n ≡ length members → all ≡ members ++ map member_of files → now ≡ take n all → now ≡ members
back members files n all now e h t = t ∙ ap (take n) h ∙ take_at members (map member_of files) n (sym e)

-- WHAT CAN BE RUN

all_short : (us : List ModuleImage) (fs : List ObjFile) → Alike us fs → AllByRecursion (λ f. file.fits f) fs → AllByRecursion (λ (u : ModuleImage). length u.code ≤ 262144) us
all_short [] fs a all = tt
all_short (u ∷ us) [] a all = absurd a
all_short (u ∷ us) (f ∷ fs) a all = (subst (λ c. length c ≤ 262144) (sym a.0.code) (sound f all.0).few_instructions, all_short us fs a.1 all.1)

no_items : {A : Type 0} (xs : List A) → length xs ≡ 0 → xs ≡ []
no_items [] e = refl
no_items (x ∷ xs) e = absurd (omega arith)

entry_with : (img : Image) (r : ProcRef) (ps : List Procedure) → procedure_of img r ≡ slice_get ps 0 → IsTrue (begins_with_body ps) → IsEntry img r
entry_with img r [] e h = absurd (false≢true h)
entry_with img r (q ∷ ps) e h =
    let p = and_parts (nat_eq (length q.params) 0) (not q.has_result) h in
    record { procedure = q; there = e; params = no_items q.params (eqb-true (length q.params) 0 p.0); no_result = not-true q.has_result p.1 }

body_with : (img : Image) (i : ℕ) (o : Option ModuleImage) (f : ObjFile) → Both o (Some f) → slice_get img.modules i ≡ o → file.fits f → IsEntry img (body_of i)
body_with img i None f b e fits = absurd b
body_with img i (Some u) f b e fits =
    let there : procedure_of img (body_of i) ≡ slice_get f.body.procedures 0 = rw (e, b.procedures) refl in
    entry_with img (body_of i) f.body.procedures there (sound f fits).main

record At (fs : List ObjFile) (i : ℕ) : Type 0 where
  file_at : ObjFile
  there : slice_get fs i ≡ Some file_at
  fits : file.fits file_at

at : (fs : List ObjFile) (i : ℕ) → i < length fs → AllByRecursion (λ f. file.fits f) fs → At fs i
at [] i lt all = absurd (omega arith)
at (f ∷ fs) zero lt all = record { file_at = f; there = refl; fits = all.0 }
at (f ∷ fs) (suc i) lt all = let r = at fs i (omega arith) all.1 in record { file_at = r.file_at; there = r.there; fits = r.fits }

body_can : (img : Image) (fs : List ObjFile) (i : ℕ) → Alike img.modules fs → AllByRecursion (λ f. file.fits f) fs → i < length fs → IsEntry img (body_of i)
body_can img fs i a all lt =
    let x = at fs i lt all in
    body_with img i (slice_get img.modules i) x.file_at (subst (Both (slice_get img.modules i)) x.there (alike_at img.modules fs i a)) refl x.fits

start_entry : (img : Image) (r : ProcRef) → IsStart img r → IsEntry img r
start_entry img r s = record { procedure = s.procedure; there = s.there; params = s.params; no_result = s.no_result }

pub can_run : (s : Standing) (fs : List ObjFile) (img : Image) (r : ProcRef) (m k : ℕ) → Stands s fs → s.machine.image ≡ img → IsStart img r → m + k ≡ length s.members → CanRun s.machine.image r m k
can_run s fs img r m k h same start n =
    let made = made_loaded fs h.loaded.enterable in
    let fit = all_fit fs empty_image h.loaded.enterable in
    let many = many_members s fs h in
    let alike : Alike s.machine.image.modules fs = subst (λ (i : Image). Alike i.modules fs) (sym h.image) made.alike in
    record {
      short = all_short s.machine.image.modules fs alike fit;
      command = start_entry s.machine.image r (subst (λ i. IsStart i r) (sym same) start);
      bodies = λ i le lt. body_can s.machine.image fs i alike fit (omega (arith, lt, n, many));
    }

-- WHAT WAS RUN

-- the runs of a command over the loaded files
abbrev all_runs : List ObjFile → List ℤ → ℕ → Plan → ℕ → Last
all_runs fs words heap p turns = runs (image_of (image_for fs) p.files) p.command (length fs) (length p.files) (begin (words_with (image_for fs) p.files words) heap turns)

ran_is : (fs : List ObjFile) (words : List ℤ) (heap : ℕ) (p : Plan) (turns : ℕ) → ran fs words heap p turns ≡ came (image_of (image_for fs) p.files) (fs ++ p.files) (all_runs fs words heap p turns)
unfolding ran
ran_is fs words heap p turns = refl

came_so : (told : Bool) (before now : List ℕ) (img : Image) (end : Held) (new : Standing) (all : List ObjFile) (count : ℕ) (l : Last) (result : Outcome) → Stands new (take count all) → new.machine.words ≡ end.words → new.machine.heap ≡ end.heap → bodies.Ran told before now img end count l result → Came told before now new (came img all l) result
came_so told before now img end new all count l result s words heap r = record {
  written = r.written;
  is = r.is;
  system = record { stands = subst (λ n. Stands new (take n all)) r.count s; words = words ∙ r.words; heap = heap ∙ r.heap };
}

run_so : (told : Bool) (before now : List ℕ) (img : Image) (end : Held) (new : Standing) (all : List ObjFile) (count : ℕ) (l : Last) (result : Outcome) → Stands new (take count all) → new.machine.words ≡ end.words → new.machine.heap ≡ end.heap → RanSo told before now img end count l result → RunDoes told before now new (came img all l) result
run_so told before now img end new all count l outcome.SinkFault s words heap r = r
run_so told before now img end new all count l outcome.Done s words heap r = came_so told before now img end new all count l outcome.Done s words heap r
run_so told before now img end new all count l (outcome.Trap a b d e) s words heap r = came_so told before now img end new all count l (outcome.Trap a b d e) s words heap r
run_so told before now img end new all count l (outcome.TurnsSpent a b) s words heap r = came_so told before now img end new all count l (outcome.TurnsSpent a b) s words heap r
run_so told before now img end new all count l (outcome.Illegal a b) s words heap r = came_so told before now img end new all count l (outcome.Illegal a b) s words heap r

-- the machine with the files, as the definition has it
entered_held : (old : Standing) (mid : Held) (fs files : List ObjFile) → Stands old fs → mid ≡ record { image = image_of old.machine.image files; words = words_with old.machine.image files old.machine.words; heap = old.machine.heap } → mid ≡ record { image = image_of (image_for fs) files; words = words_with (image_for fs) files old.machine.words; heap = old.machine.heap }
entered_held old mid fs files s e = e ∙ ap (λ (i : Image). record { image = image_of i files; words = words_with i files old.machine.words; heap = old.machine.heap }) s.image

pub started : (told : Bool) (before now : List ℕ) (old : Standing) (mid end : Held) (new : Standing) (fs : List ObjFile) (p : Plan) (m k turns count : ℕ) (result : Outcome) → Stands old fs → mid ≡ record { image = image_of old.machine.image p.files; words = words_with old.machine.image p.files old.machine.words; heap = old.machine.heap } → m ≡ length old.members → k ≡ length p.files → Stands new (take count (fs ++ p.files)) → new.machine.words ≡ end.words → new.machine.heap ≡ end.heap → RanSo told before now mid.image end count (runs mid.image p.command m k (world_of mid turns)) result → RunDoes told before now new (ran fs old.machine.words old.machine.heap p turns) result
started told before now old mid end new fs p m k turns count result s e em ek stands words heap r =
    let held : Held = record { image = image_of (image_for fs) p.files; words = words_with (image_for fs) p.files old.machine.words; heap = old.machine.heap } in
    let h : mid ≡ held = entered_held old mid fs p.files s e in
    let n : m ≡ length fs = em ∙ many_members old fs s in
    let r1 = subst (λ (x : Held). RanSo told before now x.image end count (runs x.image p.command m k (world_of x turns)) result) h r in
    let r2 = subst (λ j. RanSo told before now held.image end count (runs held.image p.command j k (world_of held turns)) result) n r1 in
    let r3 = subst (λ j. RanSo told before now held.image end count (runs held.image p.command (length fs) j (world_of held turns)) result) ek r2 in
    subst (λ x. RunDoes told before now new x result) (sym (ran_is fs old.machine.words old.machine.heap p turns)) (run_so told before now held.image end new (fs ++ p.files) count (all_runs fs old.machine.words old.machine.heap p turns) result stands words heap r3)

-- A COMMAND

pub can_in_run : (inside mid old : Standing) (p : Plan) (m k : ℕ) → IsStanding old → inside ≡ mid → CanStart old.machine.image p → HasAll old mid p.files → m ≡ length old.members → k ≡ length p.files → CanRun inside.machine.image p.command m k
can_in_run inside mid old p m k is e can h em ek =
    let image : mid.machine.image ≡ image_of old.machine.image p.files = ap (λ (x : Held). x.image) h.machine in
    let s = stands_more old mid is.0 p.files is.1 can.enterable h.members image in
    let n : m + k ≡ length mid.members = omega (arith, em, ek, ap length h.members, length-append old.members (map member_of p.files), length-map p.files member_of) in
    subst (λ (x : Standing). CanRun x.machine.image p.command m k) (sym e) (can_run mid (is.0 ++ p.files) (image_of old.machine.image p.files) p.command m k s image can.command n)

pub few_left : (inside mid old : Standing) (files : List ObjFile) (m k count : ℕ) → inside ≡ mid → HasAll old mid files → m ≡ length old.members → k ≡ length files → count ≤ m + k → count ≤ length inside.members
few_left inside mid old files m k count e h em ek le = omega (arith, le, em, ek, ap (λ (x : Standing). length x.members) e, ap length h.members, length-append old.members (map member_of files), length-map files member_of)

pub finished : (told : Bool) (before now : List ℕ) (old mid inside : Standing) (end : Held) (new : Standing) (fs : List ObjFile) (p : Plan) (m k turns count : ℕ) (result : Outcome) → Stands old fs → CanStart old.machine.image p → HasAll old mid p.files → inside ≡ mid → end.image ≡ inside.machine.image → count ≤ m + k → m ≡ length old.members → k ≡ length p.files → KeepsFirst (record { members = inside.members; machine = end }) new count → RanSo told before now inside.machine.image end count (runs inside.machine.image p.command m k (world_of inside.machine turns)) result → RunDoes told before now new (ran fs old.machine.words old.machine.heap p turns) result
finished told before now old mid inside end new fs p m k turns count result s can h e same le em ek keeps ran_so =
    let last : Standing = record { members = inside.members; machine = end } in
    let members : last.members ≡ old.members ++ map member_of p.files = ap (λ (x : Standing). x.members) e ∙ h.members in
    let machine : inside.machine ≡ record { image = image_of old.machine.image p.files; words = words_with old.machine.image p.files old.machine.words; heap = old.machine.heap } = ap (λ (x : Standing). x.machine) e ∙ h.machine in
    let image : last.machine.image ≡ image_of old.machine.image p.files = same ∙ ap (λ (x : Held). x.image) machine in
    let all = stands_more old last fs p.files s can.enterable members image in
    let few = few_left inside mid old p.files m k count e h em ek le in
    let stands = stands_cut last new (fs ++ p.files) count all few keeps.members (ap (λ (x : Held). x.image) keeps.machine) in
    started told before now old inside.machine end new fs p m k turns count result s machine em ek stands (ap (λ (x : Held). x.words) keeps.machine) (ap (λ (x : Held). x.heap) keeps.machine) ran_so
