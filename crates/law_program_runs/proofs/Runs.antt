-- The run of a body or command by the table, with its own text, and the run that it means, behind what was written.
use Rattle.std.proofs.Common.{◌≡◌, ℕ, suc, ◌+◌, ◌<◌, ◌≤◌, List, [], ◌∷◌, ◌++◌, length, ℤ, refl, ap, sym, ◌∙◌, subst, arith}
use Rattle.std.proofs.lemmas.List.{append-nil}
use Rattle.std.specs.Prelude.{map, Some}
use Rattle.std.specs.List.{AllByRecursion}
use Rattle.ob_tree.specs.declared.proc_ref.ProcRef.{ProcRef}
use Rattle.ob_instr.specs.Image.{ModuleImage, Image, World, End}
use Rattle.ob_instr.specs.Table.{Ends}
use Rattle.ob_obj.specs.declared.file.ObjFile.{ObjFile}
use Rattle.ob_obj.specs.Images.{entered}
use Rattle.ob_meaning.specs.Values.{State}
use Rattle.ob_meaning.specs.Results.{Res, Why, Trapped, Spent}
use Rattle.ob_meaning.specs.Meaning.{Flow}
use Rattle.ob_meaning.specs.Commands.{System}
use Rattle.ob_machine.specs.declared.outcome.Outcome.TheVariants as outcome
use Rattle.ob_machine.specs.Machine as machine
use Rattle.ob_machine.specs.Machine.{name_in}
use Rattle.law_simulation_relation.specs.Layout.{module_number}
use Rattle.law_simulation_relation.specs.Setting.{Setting, StandIn, stopped}
use Rattle.law_simulation.specs.Simulates.{Simulates, Same}
use Rattle.ob_link.specs.Members.{empty_image}
use Rattle.ob_load.specs.Running.{IsShort, run_whole}
use Rattle.ob_load.specs.Command.{Last, last, behind, goes_on, again, image_for}
use Rattle.ob_load.proofs.Falls.{runs_end}
use Rattle.ob_load.proofs.Wholes.{whole_is, whole_ends}
use Rattle.ob_builds.specs.Builds.{Build, tree_of, file_of}
use Rattle.ob_builds.specs.Simulated as ages
use Rattle.law_program_runs.specs.Builds.{program_of}
use Rattle.law_program_runs.proofs.Shifts.{put, ends_shift}
use Rattle.law_program_runs.proofs.Stops.{IsThere}
use Rattle.law_program_runs.proofs.Images.{new_modules, modules_are, new_length, AreNamed, name_at}

-- WORLDS

-- behind a text, with no call on the stack
abbrev pub from : List ℕ → World → World
from text w = record { words = w.words; stack = 262145; heap = w.heap; turns = w.turns; out = text }

pub same_words : (c : Setting) (s : State) (v w : World) → w.words ≡ v.words → w.heap ≡ v.heap → w.turns ≡ v.turns → w.out ≡ v.out → w.stack ≡ 262145 → StandIn c [] s v → StandIn c [] s w
same_words c s v w words heap turns out stack st = record {
  stack_free = st.stack_free;
  heap_free = st.heap_free;
  words = words ∙ st.words;
  globals_size = st.globals_size;
  stack_size = st.stack_size;
  heap_size = st.heap_size;
  stack = stack ∙ omega (arith, c.globals);
  heap_next = heap ∙ st.heap_next;
  turns = turns ∙ st.turns;
  out = out ∙ st.out;
  modules_fine = st.modules_fine;
  calls_fine = tt;
  objects_fine = st.objects_fine;
}

-- what stays of a state behind a command, for the next one
abbrev pub kept_with : System → ℕ → State
kept_with system turns = record { store = system.store; calls = []; made = system.made; turns = turns; out = [] }

abbrev pub world_with : List ℤ → ℕ → ℕ → World
world_with words heap turns = record { words = words; stack = 262145; heap = heap; turns = turns; out = [] }

pub with_turns : (c : Setting) (s : State) (w : World) (turns : ℕ) → StandIn c [] s w → StandIn c [] (record { store = s.store; calls = []; made = s.made; turns = turns; out = [] }) (world_with w.words w.heap turns)
with_turns c s w turns st = record {
  stack_free = st.stack_free;
  heap_free = st.heap_free;
  words = st.words;
  globals_size = st.globals_size;
  stack_size = st.stack_size;
  heap_size = st.heap_size;
  stack = omega (arith, c.globals);
  heap_next = st.heap_next;
  turns = refl;
  out = refl;
  modules_fine = st.modules_fine;
  calls_fine = tt;
  objects_fine = st.objects_fine;
}

-- ONE RUN

abbrev first_of : End × World → End
first_of x = x.0

abbrev second_of : End × World → World
second_of x = x.1

-- The run begins with no text, and the meaning goes on behind a text.
pub record RunsSo (c : Setting) (r : ProcRef) (s : State) (w : World) (result : Res Flow) : Type 0 where
  pub end : End
  pub after : World
  pub is : run_whole c.img r (again w) ≡ (end, after)
  pub same : Same c result end (put s.out after)
  pub ends : Ends c.img r (from s.out w) end (put s.out after)

pub runs_so : (c : Setting) (r : ProcRef) (s : State) (w : World) (result : Res Flow) → IsShort c.img → Simulates c r (from s.out w) result → RunsSo c r s w result
runs_so c r s w result short sim =
    let x = run_whole c.img r (again w) in
    let whole = whole_ends runs_end c.img r (again w) short in
    let shifted = ends_shift s.out c.img r (again w) x.0 x.1 whole in
    let world : put s.out (again w) ≡ from s.out w = ap (λ t. from t w) (append-nil s.out) in
    let one = whole_is runs_end c.img r (put s.out (again w)) x.0 (put s.out x.1) short shifted in
    let two = whole_is runs_end c.img r (from s.out w) sim.end sim.after short sim.run_ends in
    let both : (x.0, put s.out x.1) ≡ (sim.end, sim.after) = sym one ∙ ap (run_whole c.img r) world ∙ two in
    let end : sim.end ≡ x.0 = sym (ap first_of both) in
    let after : sim.after ≡ put s.out x.1 = sym (ap second_of both) in
    record {
      end = x.0;
      after = x.1;
      is = refl;
      same = subst (λ e. Same c result e (put s.out x.1)) end (subst (λ a. Same c result sim.end a) after sim.same);
      ends = subst (λ e. Ends c.img r (from s.out w) e (put s.out x.1)) end (subst (λ a. Ends c.img r (from s.out w) sim.end a) after sim.run_ends);
    }

-- a stop ends all
pub stops_all : (c : Setting) (y : Why) (count : ℕ) (w : World) (more : World → Last) → goes_on count (stopped c y, w) more ≡ last count (stopped c y, w)
stops_all c (Trapped kind number unit at) count w more = refl
stops_all c (Spent unit at) count w more = refl

-- NAMES OF MODULES

pub named_so : (bs more : List Build) (img : Image) → AreNamed (map tree_of bs) (new_modules img (map file_of (bs ++ more)))
named_so [] more img = tt
named_so (b ∷ bs) more img = (refl, named_so bs more (entered img (file_of b)))

-- a stop in a module of the image of the first builds has its name in the image of all
pub stop_named : (c d : Setting) (all bs more : List Build) → all ≡ bs ++ more → c.img ≡ image_for (map file_of all) → d.img ≡ image_for (map file_of bs) → c.program ≡ program_of bs → d.program ≡ c.program → (y : Why) → IsThere d.img (stopped d y) → machine.outcome_of c.img (stopped c y) ≡ ages.outcome_of (Some y)
stop_named c d all bs more e i j p same y there = by y there
  where
    named : AreNamed c.program c.img.modules
    named = subst (λ x. AreNamed x c.img.modules) (sym p) (subst (λ us. AreNamed (program_of bs) us) (sym (ap (λ (x : Image). x.modules) (i ∙ ap (λ bs. image_for (map file_of bs)) e) ∙ modules_are empty_image (map file_of (bs ++ more)))) (named_so bs more empty_image))

    len_map : (bs : List Build) → length (map file_of bs) ≡ length (program_of bs)
    len_map [] = refl
    len_map (b ∷ bs) = ap suc (len_map bs)

    count : length d.img.modules ≡ length c.program
    count = ap (λ (x : Image). length x.modules) j ∙ ap length (modules_are empty_image (map file_of bs)) ∙ new_length empty_image (map file_of bs) ∙ len_map bs ∙ ap length (sym p)

    unit_is : (unit : List ℕ) → module_number d.program unit < length d.img.modules → name_in c.img (module_number c.program unit) ≡ unit
    unit_is unit lt =
        let k : module_number d.program unit ≡ module_number c.program unit = ap (λ x. module_number x unit) same in
        name_at c.program c.img.modules unit named (omega (arith, lt, k, count))

    by : (y : Why) → IsThere d.img (stopped d y) → machine.outcome_of c.img (stopped c y) ≡ ages.outcome_of (Some y)
    by (Trapped kind number unit at) h = ap (λ n. outcome.Trap kind number n at) (unit_is unit h)
    by (Spent unit at) h = ap (λ n. outcome.TurnsSpent n at) (unit_is unit h)

-- LENGTHS OF CODE

abbrev pub IsShortFile : ObjFile → Type 0
IsShortFile f = length f.body.code ≤ 262144

pub short_so : (fs : List ObjFile) (img : Image) → AllByRecursion IsShortFile fs → AllByRecursion (λ (u : ModuleImage). length u.code ≤ 262144) (new_modules img fs)
short_so [] img h = tt
short_so (f ∷ fs) img h = (h.0, short_so fs (entered img f) h.1)
