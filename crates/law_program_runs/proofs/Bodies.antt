-- The bodies of modules that join, one behind the other, and the command behind them.
use Rattle.std.proofs.Common.{◌≡◌, ℕ, suc, ◌+◌, ◌≤◌, List, [], ◌∷◌, ◌++◌, length, ℤ, Some, true, refl, ap, sym, ◌∙◌, subst, arith, append_assoc, length-append}
use Rattle.std.proofs.lemmas.List.{append-nil}
use Rattle.std.specs.Prelude.{map, Contains}
use Rattle.std.specs.List.{AllByRecursion}
use Rattle.ob_tree.specs.declared.names.QName.{QName}
use Rattle.ob_tree.specs.declared.proc_ref.ProcRef.{ProcRef}
use Rattle.ob_types.specs.TypedSyntax.{Module}
use Rattle.ob_instr.specs.Image.{ModuleImage, Image, World}
use Rattle.ob_meaning.specs.Values.{Program, procedure_of, State}
use Rattle.ob_meaning.specs.Results.{Res, Gives, Stops, Why}
use Rattle.ob_meaning.specs.Meaning.{Flow}
use Rattle.ob_meaning.specs.Commands.{Ended, run_first, run_found, run_bodies, and_then, end_of, at_rest, with_module, body_name, body_procedure}
use Rattle.ob_machine.specs.Machine as machine
use Rattle.law_simulation_relation.specs.Layout.{module_number, procedure_index, procedures_in}
use Rattle.law_simulation_relation.specs.Setting.{Setting, StandIn, stopped}
use Rattle.law_simulation.specs.Simulates.{CommandsSimulate, BodiesSimulate, Simulates, idle}
use Rattle.ob_link.specs.Plan.{named, has_command}
use Rattle.ob_link.specs.Files.{command_at}
use Rattle.ob_link.specs.Members.{empty_image}
use Rattle.ob_load.specs.Running.{IsShort}
use Rattle.ob_load.specs.Command.{Last, last, behind, goes_on, runs, body_of, image_for}
use Rattle.ob_load.proofs.Wholes.{no_body, one_body}
use Rattle.ob_builds.specs.Builds.{Build, tree_of, file_of, asks}
use Rattle.ob_builds.specs.Simulated as ages
use Rattle.law_builds.proofs.Members.{has_head, has_right}
use Rattle.law_program_runs.specs.Builds.{program_of, AreEntered, HasModule, BuildsStand}
use Rattle.law_program_runs.proofs.Joins.{others_differ, last_number}
use Rattle.law_program_runs.proofs.Stops.{IsThere, ends_there}
use Rattle.law_program_runs.proofs.Shifts.{put}
use Rattle.law_program_runs.proofs.Images.{modules_are, own_words, globals_of}
use Rattle.law_program_runs.proofs.Settings.{all_of, all_map, setting, all_stand, front, whole, large, small, stands_small}
use Rattle.law_program_runs.proofs.Entered as join
use Rattle.law_program_runs.proofs.Found.{IsFound, found}
use Rattle.law_program_runs.proofs.Runs.{from, same_words, kept_with, world_with, with_turns, RunsSo, runs_so, stops_all, stop_named, IsShortFile, short_so}

pub length_map : {A B : Type 0} (f : A → B) (xs : List A) → length (map f xs) ≡ length xs
length_map f [] = refl
length_map f (x ∷ xs) = ap suc (length_map f xs)

module _ (commands : CommandsSimulate) (bodies : BodiesSimulate) (S : BuildsStand) (heap : ℕ) (few : heap ≤ 4194304) (all : List Build) (l : AreEntered all) (mn xn : List ℕ) (there : has_command asks (named asks mn all) xn ≡ true) where
  abbrev pub img : Image
  img = image_for (map file_of all)

  abbrev pub q : QName
  q = record { «module» = mn; object = xn }

  abbrev pub command : ProcRef
  command = command_at 0 mn xn (map file_of all)

  short : IsShort img
  short = subst (λ us. AllByRecursion (λ (u : ModuleImage). length u.code ≤ 262144) us) (sym (modules_are empty_image (map file_of all))) (short_so (map file_of all) empty_image (all_map file_of IsShortFile all (all_of (λ b. IsShortFile (file_of b)) all (λ b c. (S.modules all l.loaded b c).short))))

  short_front : (bs : List Build) → AreEntered bs → IsShort (image_for (map file_of bs))
  short_front bs k = subst (λ us. AllByRecursion (λ (u : ModuleImage). length u.code ≤ 262144) us) (sym (modules_are empty_image (map file_of bs))) (short_so (map file_of bs) empty_image (all_map file_of IsShortFile bs (all_of (λ b. IsShortFile (file_of b)) bs (λ b c. (S.modules bs k.loaded b c).short))))

  -- the bodies and the command came to the same, by the table and by the meaning, and the words left stand for what is left
  pub record Alike (s : State) (r : Last) (en : Ended) : Type 0 where
    pub outcome : machine.outcome_of img r.end ≡ ages.outcome_of en.why
    pub text : en.out ≡ s.out ++ r.text
    pub bs : List Build
    pub more : List Build
    pub split : all ≡ bs ++ more
    pub program : en.system.program ≡ program_of bs
    pub count : r.count ≡ length bs
    pub behind : List ℤ
    pub stands : StandIn (setting S heap few all l bs more en.system.program split program behind) [] (kept_with en.system 0) (world_with r.words r.heap 0)

  -- THE LAST ONE: it ends, or it is stopped

  module _ (bs more : List Build) (P : Program) (e : all ≡ bs ++ more) (p : P ≡ program_of bs) (rest : List ℤ) where
    abbrev c : Setting
    c = large S heap few all l bs more P e p rest

    abbrev d : Setting
    d = small S heap few all l bs more P e p rest

    stopped_so : (r : ProcRef) (s : State) (w : World) (y : Why) (t : State) → Simulates d r (from s.out w) (Stops y t) → machine.outcome_of img (stopped c y) ≡ ages.outcome_of (Some y)
    stopped_so r s w y t sim =
        let there : IsThere d.img (stopped d y) = subst (IsThere d.img) sim.same.0 (ends_there d.img r (from s.out w) sim.end sim.after sim.run_ends) in
        stop_named c d all bs more e refl refl p refl y there

    finish : (r : ProcRef) (s : State) (w : World) (result : Res Flow) (k : RunsSo c r s w result) → Simulates d r (from s.out w) result → Alike s (last (length bs) (k.end, k.after)) (end_of P result)
    finish r s w (Gives f t) k sim = record {
      outcome = ap (machine.outcome_of img) k.same.0;
      text = sym k.same.1.out;
      bs = bs;
      more = more;
      split = e;
      program = p;
      count = refl;
      behind = rest;
      stands = with_turns c (at_rest t) (idle c (put s.out k.after)) 0 k.same.1;
    }
    finish r s w (Stops y t) k sim = record {
      outcome = ap (machine.outcome_of img) k.same.0 ∙ stopped_so r s w y t sim;
      text = sym k.same.1.out;
      bs = bs;
      more = more;
      split = e;
      program = p;
      count = refl;
      behind = rest;
      stands = with_turns c (at_rest t) (idle c (put s.out k.after)) 0 k.same.1;
    }

  -- THE COMMAND

  module _ (bs : List Build) (P : Program) (e : all ≡ bs ++ []) (p : P ≡ program_of bs) (rest : List ℤ) (s : State) (w : World) (calls : s.calls ≡ []) where
    is_found : IsFound all mn xn 0
    is_found = found (program_of all) all mn xn 0 (all_of (HasModule (program_of all)) all (λ b c. S.modules all l.loaded b c)) there

    program_is : P ≡ program_of all
    program_is = p ∙ ap program_of (sym (append-nil bs) ∙ sym e)

    found_in : procedure_of P q ≡ Some is_found.p
    found_in = ap (λ x. procedure_of x q) program_is ∙ is_found.found

    -- the number of the command is that of its procedure
    number_is : record { «module» = module_number P mn; proc = procedure_index (procedures_in P mn) xn } ≡ command
    number_is =
        ap (λ x. record { «module» = module_number x mn; proc = procedure_index (procedures_in x mn) xn }) program_is
        ∙ ap (λ n. record { «module» = n; proc = procedure_index (procedures_in (program_of all) mn) xn }) (omega arith)
        ∙ sym is_found.number

    command_run : StandIn (large S heap few all l bs [] P e p rest) [] s (from s.out w) → Alike s (runs img command (length bs) 0 w) (run_bodies P [] heap q s)
    command_run st =
        let c = large S heap few all l bs [] P e p rest in
        let d = small S heap few all l bs [] P e p rest in
        let f = is_found in
        let result = run_first P heap q f.p s in
        let a = all_stand S heap few all l bs [] P e p rest in
        let b = all_stand S heap few bs (front S heap few all l bs [] P e p) bs [] P (whole S heap few all l bs [] P e p) p rest in
        let st2 = stands_small S heap few all l bs [] P e p rest s (from s.out w) st in
        let one : Simulates c command (from s.out w) result = subst (λ r. Simulates c r (from s.out w) result) number_is (commands c a.image a.forms q f.p found_in f.plain f.proper s (from s.out w) calls (subst (λ cs. StandIn c cs s (from s.out w)) (sym calls) st)) in
        let two : Simulates d command (from s.out w) result = subst (λ r. Simulates d r (from s.out w) result) number_is (commands d b.image b.forms q f.p found_in f.plain f.proper s (from s.out w) calls (subst (λ cs. StandIn d cs s (from s.out w)) (sym calls) st2)) in
        let k = runs_so c command s w result short one in
        let r : runs img command (length bs) 0 w ≡ last (length bs) (k.end, k.after) = no_body img command (length bs) w ∙ ap (last (length bs)) k.is in
        let m : run_bodies P [] heap q s ≡ end_of P result = ap (λ o. run_found o P heap q s) found_in in
        subst (λ x. Alike s x (run_bodies P [] heap q s)) (sym r) (subst (λ x. Alike s (last (length bs) (k.end, k.after)) x) (sym m) (finish bs [] P e p rest command s w result k two))

  -- A BODY, AND ALL THAT COMES BEHIND IT

  abbrev Goes : List Build → Type 0
  Goes more = (bs : List Build) (P : Program) (e : all ≡ bs ++ more) (p : P ≡ program_of bs) (rest : List ℤ) (s : State) (w : World) → s.calls ≡ [] → StandIn (large S heap few all l bs more P e p (globals_of (map file_of more) ++ rest)) [] s (from s.out w) → Alike s (runs img command (length bs) (length more) w) (run_bodies P (map tree_of more) heap q s)

  module _ (b : Build) (more : List Build) (on : Goes more) (bs : List Build) (P : Program) (e : all ≡ bs ++ (b ∷ more)) (p : P ≡ program_of bs) (rest : List ℤ) (s : State) (w : World) (calls : s.calls ≡ []) (st : StandIn (large S heap few all l bs (b ∷ more) P e p (own_words (file_of b) ++ (globals_of (map file_of more) ++ rest))) [] s (from s.out w)) where
    abbrev m : Module
    m = tree_of b

    abbrev words : List ℤ
    words = globals_of (map file_of more) ++ rest

    abbrev next : Program
    next = P ++ m ∷ []

    abbrev e2 : all ≡ (bs ++ b ∷ []) ++ more
    e2 = join.e2 S heap few all l bs b more P e p words

    abbrev p2 : next ≡ program_of (bs ++ b ∷ [])
    p2 = join.p2 S heap few all l bs b more P e p words

    abbrev cb : Setting
    cb = large S heap few all l (bs ++ b ∷ []) more next e2 p2 words

    abbrev db : Setting
    db = small S heap few all l (bs ++ b ∷ []) more next e2 p2 words

    abbrev s1 : State
    s1 = with_module next m s

    joined : StandIn cb [] s1 (from s.out w)
    joined = join.joins S heap few all l bs b more P e p words s (from s.out w) st

    inside : Contains (bs ++ b ∷ []) b
    inside = has_right bs (b ∷ []) b (has_head b [])

    abbrev result : Res Flow
    result = run_first next heap (body_name m) (body_procedure m) s1

    number : record { «module» = module_number next m.name; proc = 0 } ≡ body_of (length bs)
    number = ap (λ n. record { «module» = n; proc = 0 }) (last_number P m (others_differ next P m cb.ok) ∙ ap length p ∙ length_map tree_of bs)

    one : Simulates cb (body_of (length bs)) (from s.out w) result
    one =
        let a = all_stand S heap few all l (bs ++ b ∷ []) more next e2 p2 words in
        let k = a.bodies b inside in
        subst (λ r. Simulates cb r (from s.out w) result) number (bodies cb a.image a.forms m k.stands k.tables k.forms s1 (from s.out w) calls (subst (λ cs. StandIn cb cs s1 (from s.out w)) (sym calls) joined))

    two : Simulates db (body_of (length bs)) (from s.out w) result
    two =
        let a = all_stand S heap few (bs ++ b ∷ []) (front S heap few all l (bs ++ b ∷ []) more next e2 p2) (bs ++ b ∷ []) [] next (whole S heap few all l (bs ++ b ∷ []) more next e2 p2) p2 words in
        let k = a.bodies b inside in
        let st2 = stands_small S heap few all l (bs ++ b ∷ []) more next e2 p2 words s1 (from s.out w) joined in
        subst (λ r. Simulates db r (from s.out w) result) number (bodies db a.image a.forms m k.stands k.tables k.forms s1 (from s.out w) calls (subst (λ cs. StandIn db cs s1 (from s.out w)) (sym calls) st2))

    count : suc (length bs) ≡ length (bs ++ b ∷ [])
    count = let n = length-append bs (b ∷ []) in omega (arith, n)

    abbrev later : World → Last
    later = runs img command (suc (length bs)) (length more)

    by : (z : Res Flow) (k : RunsSo cb (body_of (length bs)) s1 w z) → Simulates db (body_of (length bs)) (from s.out w) z → Alike s (goes_on (suc (length bs)) (k.end, k.after) later) (and_then next z (run_bodies next (map tree_of more) heap q))
    by (Gives f t) k sim =
        let text : t.out ≡ s.out ++ k.after.out = sym k.same.1.out in
        let st3 = same_words cb (at_rest t) (idle cb (put s.out k.after)) (from t.out k.after) refl refl refl text refl k.same.1 in
        let r = on (bs ++ b ∷ []) next e2 p2 rest (at_rest t) k.after refl st3 in
        let en = run_bodies next (map tree_of more) heap q (at_rest t) in
        let r2 : Alike (at_rest t) (later k.after) en = subst (λ n. Alike (at_rest t) (runs img command n (length more) k.after) en) (sym count) r in
        subst (λ x. Alike s (goes_on (suc (length bs)) (x, k.after) later) en) (sym k.same.0)
        (record {
          outcome = r2.outcome;
          text = r2.text ∙ ap (λ o. o ++ (later k.after).text) text ∙ append_assoc s.out k.after.out (later k.after).text;
          bs = r2.bs;
          more = r2.more;
          split = r2.split;
          program = r2.program;
          count = r2.count;
          behind = r2.behind;
          stands = r2.stands;
        })
    by (Stops y t) k sim =
        let f = finish (bs ++ b ∷ []) more next e2 p2 words (body_of (length bs)) s1 w (Stops y t) k sim in
        let x : goes_on (suc (length bs)) (k.end, k.after) later ≡ last (length (bs ++ b ∷ [])) (k.end, k.after) = ap (λ z. goes_on (suc (length bs)) (z, k.after) later) k.same.0 ∙ stops_all cb y (suc (length bs)) k.after later ∙ ap (λ n. last n (stopped cb y, k.after)) count ∙ ap (λ z. last (length (bs ++ b ∷ [])) (z, k.after)) (sym k.same.0) in
        let g : Alike s (last (length (bs ++ b ∷ [])) (k.end, k.after)) (end_of next (Stops y t)) = record { outcome = f.outcome; text = f.text; bs = f.bs; more = f.more; split = f.split; program = f.program; count = f.count; behind = f.behind; stands = f.stands } in
        subst (λ z. Alike s z (end_of next (Stops y t))) (sym x) g

    body_run : Alike s (runs img command (length bs) (suc (length more)) w) (run_bodies P (m ∷ map tree_of more) heap q s)
    body_run =
        let k = runs_so cb (body_of (length bs)) s1 w result short one in
        let r : runs img command (length bs) (suc (length more)) w ≡ goes_on (suc (length bs)) (k.end, k.after) later = one_body img command (length bs) (length more) w ∙ ap (λ x. goes_on (suc (length bs)) x later) k.is in
        subst (λ x. Alike s x (run_bodies P (m ∷ map tree_of more) heap q s)) (sym r) (by result k two)

  pub all_run : (more : List Build) → Goes more
  all_run [] bs P e p rest s w calls st = command_run bs P e p rest s w calls st
  all_run (b ∷ more) bs P e p rest s w calls st =
      body_run b more (all_run more) bs P e p rest s w calls
      (subst (λ z. StandIn (large S heap few all l bs (b ∷ more) P e p z) [] s (from s.out w)) (append_assoc (own_words (file_of b)) (globals_of (map file_of more)) rest) st)
