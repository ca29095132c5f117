-- A session goes on by a line.
use Rattle.std.proofs.Common.{◌≡◌, ℕ, ◌+◌, List, [], ◌∷◌, ◌++◌, length, take, Bool, true, false, refl, sym, ap, ◌∙◌, subst, append_assoc, arith, ◌≤◌, Ok, Err}
use Rattle.std.specs.Prelude.{◌||◌, cond, Result, Some, None}
use Rattle.std.proofs.lemmas.Bool.{false≢true}
use Rattle.std.proofs.lemmas.List.{append-nil, length-append}
use Rattle.ob_io.specs.Io.{SameFiles}
use Rattle.ob_obj.specs.declared.file.ObjFile.{ObjFile}
use Rattle.ob_tree.specs.declared.print.Print.{Print}
use Rattle.ob_link.specs.Plan.{Refusal}
use Rattle.ob_link.specs.Files.{Files, file_plan}
use Rattle.ob_load.specs.Standing.{Standing}
use Rattle.ob_compile_model.specs.Compiling as compile
use Rattle.ob_compile_model.specs.Compiling.{Compiled}
use Rattle.ob_shell_reports.specs.declared.stop.Stop.{Stop}
use Rattle.ob_shell_reports.specs.declared.stop.Stop.TheVariants.{Sink, Folder, Memory}
use Rattle.ob_words.specs.declared.asked.Settings.{Settings}
use Rattle.ob_shell_lines.specs.Lines as line
use Rattle.ob_shell_lines.specs.Lines.{Line, lines_of, line_of, within, exceeds, done_lines}
use Rattle.ob_shell_lines.specs.Splits.{Stops, GoesOn}
use Rattle.ob_shell_input.specs.declared.next.NextFault.TheVariants as fault
use Rattle.ob_shell_input.specs.declared.next.Next.TheVariants as next
use Rattle.ob_shell_model.specs.Folds.{Part, Answer, Answers, printed_by, made_by, text_from, refused_from, world_from, changes_from, session_text, session_changes}
use Rattle.ob_shell_model.specs.Bytes.{World, Change, Making, answer, start, changed, compile_answer, load_answer, demo_answer, demo_made, compiled_in}
use Rattle.ob_shell_session.specs.Does.{Shows, LineDoes, PartsStop}
use Rattle.ob_shell_input.specs.Reading.{NextDoes, ended}
use Rattle.ob_shell_model.specs.Session.{Kind, Ends, IsCut, PartsCut, first_part, part_at, changes_up_to, next_of, is_whole, bytes}
use Rattle.ob_shell_session.specs.Session.{Going, StatusIs}
use Rattle.ob_shell_session.specs.Stand.{Goes, Pieces}
use Rattle.ob_shell_input.specs.Opens.{ended_line, ended_open}
use Rattle.ob_shell_session.proofs.Parts.{take_all, drop_all, changed_more}
use Rattle.ob_shell_session.proofs.Makes.{make_files}

-- A FLUSH

-- all parts were done, and all of their text was written
flush_parts : (ps : List (Part Change)) (before now : List ℕ) (old there : Files) → now ≡ before ++ printed_by ps → SameFiles there (changed old (made_by ps)) → PartsStop ps before now old there Sink
flush_parts ps before now old there e f =
    let k = length ps in
    let p = drop_all ps in (
      k,
      record {
        front = [];
        rest = (part_at k ps).text;
        added = e ∙ ap (λ (x : List (Part Change)). before ++ printed_by x) (sym (take_all ps)) ∙ sym (append-nil (before ++ printed_by (take k ps)));
        whole = refl;
      },
      f ∙ ap (λ (x : List (Part Change)). changed old (made_by x)) (sym (take_all ps)) ∙ ap (changed old) (sym (append-nil (made_by (take k ps)))) ∙ ap (λ (x : List (Part Change)). changed old (made_by (take k ps) ++ (first_part x).changes)) (sym p),
    )

pub flush_failed : (before mid now : List ℕ) (old there : Files) (new : Standing) (a : Answer World Change) (r : Bool) → SameFiles a.world.files (changed old (made_by a.parts)) → LineDoes before mid old there new a (Ok r) → now ≡ mid → LineDoes before now old there new a (Err Sink)
flush_failed before mid now old there new a r f d e = flush_parts a.parts before now old there (e ∙ d.0) (d.1.files ∙ f)

-- ONE LINE MORE

text_more : {W C : Type 0} (answer : Answers W C) (w : W) (n : ℕ) (l : List ℕ) (ls : List (List ℕ)) → text_from answer w n (l ∷ ls) ≡ printed_by (answer w n (line_of l)).parts ++ text_from answer (answer w n (line_of l)).world (n + 1) ls
unfolding text_from
text_more answer w n l ls = refl

text_none : {W C : Type 0} (answer : Answers W C) (w : W) (n : ℕ) → text_from answer w n [] ≡ []
unfolding text_from
text_none answer w n = refl

changes_more : {W C : Type 0} (answer : Answers W C) (w : W) (n : ℕ) (l : List ℕ) (ls : List (List ℕ)) → changes_from answer w n (l ∷ ls) ≡ made_by (answer w n (line_of l)).parts ++ changes_from answer (answer w n (line_of l)).world (n + 1) ls
unfolding changes_from
changes_more answer w n l ls = refl

changes_none : {W C : Type 0} (answer : Answers W C) (w : W) (n : ℕ) → changes_from answer w n [] ≡ []
unfolding changes_from
changes_none answer w n = refl

world_more : {W C : Type 0} (answer : Answers W C) (w : W) (n : ℕ) (l : List ℕ) (ls : List (List ℕ)) → world_from answer w n (l ∷ ls) ≡ world_from answer (answer w n (line_of l)).world (n + 1) ls
unfolding world_from
world_more answer w n l ls = refl

world_none : {W C : Type 0} (answer : Answers W C) (w : W) (n : ℕ) → world_from answer w n [] ≡ w
unfolding world_from
world_none answer w n = refl

refused_more : {W C : Type 0} (answer : Answers W C) (w : W) (n : ℕ) (l : List ℕ) (ls : List (List ℕ)) (b : Bool) → refused_from answer w n (l ∷ ls) b ≡ refused_from answer (answer w n (line_of l)).world (n + 1) ls (b || (answer w n (line_of l)).refused)
unfolding refused_from
refused_more answer w n l ls b = refl

refused_none : {W C : Type 0} (answer : Answers W C) (w : W) (n : ℕ) (b : Bool) → refused_from answer w n [] b ≡ b
unfolding refused_from
refused_none answer w n b = refl

-- what one more line adds to what some lines have done
record Snoc {W C : Type 0} (answer : Answers W C) (w : W) (n m : ℕ) (past : List (List ℕ)) (l : List ℕ) : Type 0 where
  text : text_from answer w n (past ++ l ∷ []) ≡ text_from answer w n past ++ printed_by (answer (world_from answer w n past) m (line_of l)).parts
  changes : changes_from answer w n (past ++ l ∷ []) ≡ changes_from answer w n past ++ made_by (answer (world_from answer w n past) m (line_of l)).parts
  world : world_from answer w n (past ++ l ∷ []) ≡ (answer (world_from answer w n past) m (line_of l)).world

first_snoc : {W C : Type 0} (answer : Answers W C) (w : W) (n : ℕ) (l : List ℕ) → Snoc answer w n n [] l
first_snoc answer w n l =
    let a = answer w n (line_of l) in
    let v : world_from answer w n [] ≡ w = world_none answer w n in
    record {
      text = text_more answer w n l [] ∙ ap (λ t. (printed_by a.parts) ++ t) (text_none answer a.world (n + 1)) ∙ append-nil (printed_by a.parts) ∙ sym (ap (λ x. printed_by (answer x n (line_of l)).parts) v) ∙ ap (λ t. t ++ printed_by (answer (world_from answer w n []) n (line_of l)).parts) (sym (text_none answer w n));
      changes = changes_more answer w n l [] ∙ ap (λ t. (made_by a.parts) ++ t) (changes_none answer a.world (n + 1)) ∙ append-nil (made_by a.parts) ∙ sym (ap (λ x. made_by (answer x n (line_of l)).parts) v) ∙ ap (λ t. t ++ made_by (answer (world_from answer w n []) n (line_of l)).parts) (sym (changes_none answer w n));
      world = world_more answer w n l [] ∙ world_none answer a.world (n + 1) ∙ sym (ap (λ x. (answer x n (line_of l)).world) v);
    }

next_snoc : {W C : Type 0} (answer : Answers W C) (w : W) (n m : ℕ) (p : List ℕ) (past : List (List ℕ)) (l : List ℕ) → Snoc answer (answer w n (line_of p)).world (n + 1) m past l → Snoc answer w n m (p ∷ past) l
next_snoc answer w n m p past l s =
    let a = answer w n (line_of p) in
    let v = world_from answer a.world (n + 1) past in
    let e : world_from answer w n (p ∷ past) ≡ v = world_more answer w n p past in
    record {
      text = text_more answer w n p (past ++ l ∷ []) ∙ ap (λ t. (printed_by a.parts) ++ t) s.text ∙ sym (append_assoc (printed_by a.parts) (text_from answer a.world (n + 1) past) (printed_by (answer v m (line_of l)).parts)) ∙ ap (λ t. t ++ printed_by (answer v m (line_of l)).parts) (sym (text_more answer w n p past)) ∙ ap (λ x. text_from answer w n (p ∷ past) ++ printed_by (answer x m (line_of l)).parts) (sym e);
      changes = changes_more answer w n p (past ++ l ∷ []) ∙ ap (λ t. (made_by a.parts) ++ t) s.changes ∙ sym (append_assoc (made_by a.parts) (changes_from answer a.world (n + 1) past) (made_by (answer v m (line_of l)).parts)) ∙ ap (λ t. t ++ made_by (answer v m (line_of l)).parts) (sym (changes_more answer w n p past)) ∙ ap (λ x. changes_from answer w n (p ∷ past) ++ made_by (answer x m (line_of l)).parts) (sym e);
      world = world_more answer w n p (past ++ l ∷ []) ∙ s.world ∙ ap (λ x. (answer x m (line_of l)).world) (sym e);
    }

snoc : {W C : Type 0} (answer : Answers W C) (w : W) (n m : ℕ) (past : List (List ℕ)) (l : List ℕ) → n + length past ≡ m → Snoc answer w n m past l
snoc answer w n m [] l e = let same : n ≡ m = omega (arith, e) in subst (λ k. Snoc answer w n k [] l) same (first_snoc answer w n l)
snoc answer w n m (p ∷ past) l e = next_snoc answer w n m p past l (snoc answer (answer w n (line_of p)).world (n + 1) m past l (omega (arith, e)))

-- FILES

compile_files : (w : World) (name : List ℕ) (r : Result (Compiled Print) (compile.Refusal Print)) → (compile_answer w name r).world.files ≡ changed w.files (made_by (compile_answer w name r).parts)
compile_files w name (Ok c) = refl
compile_files w name (Err r) = refl

load_files : (s : Settings) (w : World) (m name : List ℕ) (r : Result (List ObjFile) (Refusal Print)) → (load_answer s w m name r).world.files ≡ changed w.files (made_by (load_answer s w m name r).parts)
load_files s w m name (Ok files) = refl
load_files s w m name (Err r) = refl

demo_files : (s : Settings) (w : World) (n : ℕ) (x : Making) → (demo_answer s w n x).world.files ≡ changed w.files (made_by (demo_answer s w n x).parts)
demo_files s w n (Some x) = refl
demo_files s w n None = refl

-- the files after a line are those that its changes make
pub answer_files : (s : Settings) (w : World) (n : ℕ) (l : Line) → (answer s w n l).world.files ≡ changed w.files (made_by (answer s w n l).parts)
answer_files s w n (line.Compile name) = compile_files w name (compiled_in w (w.files name))
answer_files s w n (line.Compare old new) = refl
answer_files s w n (line.Check m) = refl
answer_files s w n (line.Show m) = refl
answer_files s w n (line.Make m) = make_files m w
answer_files s w n (line.Demo k) = demo_files s w k (demo_made k)
answer_files s w n (line.Command m name) = load_files s w m name (file_plan w.files w.loaded m name)
answer_files s w n line.Unknown = refl
answer_files s w n line.Nothing = refl

-- THE LOOP

pub goes_start : (s : Settings) (before : List ℕ) (old : Files) (script : List ℕ) (system : Standing) → Shows system old (start s old) → Goes s before before old old script system 1 0 script false false
goes_start s before old script system h =
    let k = bytes s old in
    record {
      w = start s old;
      shows = h;
      whole = omega arith;
      going = record {
        past = [];
        split = refl;
        number = refl;
        world = world_none k.answer k.first 1;
        written = sym (append-nil before) ∙ ap (λ x. before ++ x) (sym (text_none k.answer k.first 1));
        files = ap (changed old) (sym (changes_none k.answer k.first 1));
        verdict = refl;
      };
      limit = refl;
      got = [];
      parts = λ e. refl;
      ended_so = λ e more. refl;
    }

abbrev going_on : (s : Settings) (before mid now : List ℕ) (old there there2 : Files) (all : List (List ℕ)) (w : World) (n : ℕ) (rest : List (List ℕ)) (l : List ℕ) (ls : List (List ℕ)) (b r c : Bool) → Going (bytes s old) before mid old there all w n rest b → rest ≡ l ∷ ls → now ≡ mid ++ printed_by (answer s w n (line_of l)).parts → there2 ≡ changed there (made_by (answer s w n (line_of l)).parts) → r ≡ (answer s w n (line_of l)).refused → c ≡ (b || r) → Going (bytes s old) before now old there2 all (answer s w n (line_of l)).world (n + 1) ls c
going_on s before mid now old there there2 all w n rest l ls b r c g e1 e2 f e3 e4 =
    let a = answer s w n (line_of l) in
    let first = start s old in
    let sn = snoc (answer s) first 1 n g.past l g.number in
    let v = g.world in
    record {
      past = g.past ++ l ∷ [];
      split = g.split ∙ ap (λ x. g.past ++ x) e1 ∙ sym (append_assoc g.past (l ∷ []) ls);
      number = let q : length (g.past ++ l ∷ []) ≡ length g.past + 1 = length-append g.past (l ∷ []) in let p = g.number in omega (arith, q, p);
      world = sn.world ∙ ap (λ x. (answer s x n (line_of l)).world) v;
      written = e2 ∙ ap (λ x. x ++ (printed_by a.parts)) g.written ∙ append_assoc before (text_from (answer s) first 1 g.past) (printed_by a.parts) ∙ ap (λ x. before ++ x) (sym (sn.text ∙ ap (λ x. text_from (answer s) first 1 g.past ++ printed_by (answer s x n (line_of l)).parts) v));
      files = f ∙ ap (λ x. changed x (made_by a.parts)) g.files ∙ sym (changed_more (changes_from (answer s) first 1 g.past) (made_by a.parts) old) ∙ ap (changed old) (sym (sn.changes ∙ ap (λ x. changes_from (answer s) first 1 g.past ++ made_by (answer s x n (line_of l)).parts) v));
      verdict = g.verdict ∙ ap (λ x. refused_from (answer s) w n x b) e1 ∙ refused_more (answer s) w n l ls b ∙ ap (λ x. refused_from (answer s) a.world (n + 1) ls (b || x)) (sym e3) ∙ ap (refused_from (answer s) a.world (n + 1) ls) (sym e4);
    }

-- a line that was done, by what was taken of the script
abbrev done_more : (s : Settings) (before mid now : List ℕ) (old there there2 : Files) (all : List (List ℕ)) (w : World) (n : ℕ) (rest : List (List ℕ)) (line : List ℕ) (ls : List (List ℕ)) (new : Standing) (b r c : Bool) → Going (bytes s old) before mid old there all w n rest b → rest ≡ line ∷ ls → there ≡ w.files → LineDoes mid now there there2 new (answer s w n (line_of line)) (Ok r) → c ≡ (b || r) → Going (bytes s old) before now old there2 all (answer s w n (line_of line)).world (n + 1) ls c
done_more s before mid now old there there2 all w n rest line ls new b r c g e files d q =
    let f : there2 ≡ changed there (made_by (answer s w n (line_of line)).parts) = d.1.files ∙ answer_files s w n (line_of line) ∙ ap (λ x. changed x (made_by (answer s w n (line_of line)).parts)) (sym files) in
    going_on s before mid now old there there2 all w n rest line ls b r c g e d.0 f d.2 q

append_three : (a l : List ℕ) (b : ℕ) (more : List ℕ) → a ++ (l ++ b ∷ more) ≡ (a ++ (l ++ b ∷ [])) ++ more
append_three a l b more = ap (λ x. a ++ x) (sym (append_assoc l (b ∷ []) more)) ∙ sym (append_assoc a (l ++ b ∷ []) more)

append_line : (past : List (List ℕ)) (l : List ℕ) (ls : List (List ℕ)) → past ++ l ∷ ls ≡ (past ++ l ∷ []) ++ ls
append_line past l ls = sym (append_assoc past (l ∷ []) ls)

pub goes_line : (s : Settings) (before mid now : List ℕ) (old there there2 : Files) (script rest line left : List ℕ) (system new : Standing) (n at taken : ℕ) (b r c : Bool) → Goes s before mid old there script system n at rest b false → NextDoes (length script) at rest left line (Ok (next.Line taken)) → ((w : World) → Shows system there w → LineDoes mid now there there2 new (answer s w n (line_of line)) (Ok r)) → c ≡ (b || r) → Goes s before now old there2 script new (n + 1) taken left c false
goes_line s before mid now old there there2 script rest line left system new n at taken b r c g step does q =
    let d = does g.w g.shows in
    record {
      w = (answer s g.w n (line_of line)).world;
      shows = d.1;
      whole = step.3;
      going = done_more s before mid now old there there2 (done_lines script) g.w n (within (length script) at (lines_of rest)) line (within (length script) taken (lines_of left)) new b r c g.going step.0.0 g.shows.files d q;
      limit = g.limit ∙ step.0.1;
      got = g.got ++ (line ++ 10 ∷ []);
      parts = λ e. g.parts e ∙ ap (λ x. g.got ++ x) step.1 ∙ append_three g.got line 10 left;
      ended_so = λ e more. ap ended (sym (append_three g.got line 10 more)) ∙ g.ended_so e (line ++ 10 ∷ more) ∙ ap (λ x. g.going.past ++ x) (ended_line line more step.2) ∙ append_line g.going.past line (ended more);
    }

pub goes_last : (s : Settings) (before mid now : List ℕ) (old there there2 : Files) (script rest line left : List ℕ) (system new : Standing) (n at taken : ℕ) (b r c : Bool) → Goes s before mid old there script system n at rest b false → NextDoes (length script) at rest left line (Ok (next.Last taken)) → ((w : World) → Shows system there w → LineDoes mid now there there2 new (answer s w n (line_of line)) (Ok r)) → c ≡ (b || r) → Goes s before now old there2 script new (n + 1) taken left c true
goes_last s before mid now old there there2 script rest line left system new n at taken b r c g step does q =
    let d = does g.w g.shows in
    record {
      w = (answer s g.w n (line_of line)).world;
      shows = d.1;
      whole = let z : length left ≡ 0 = ap length step.1 in let t = step.2 in omega (arith, z, t);
      going = done_more s before mid now old there there2 (done_lines script) g.w n (within (length script) at (lines_of rest)) line (within (length script) taken (lines_of left)) new b r c g.going step.0.0 g.shows.files d q;
      limit = g.limit ∙ step.0.1;
      got = [];
      parts = λ e. absurd (false≢true (sym e));
      ended_so = λ e more. absurd (false≢true (sym e));
    }

not_whole : (stop : Stop) (status : ℕ) → StatusIs stop status → is_whole status ≡ true → ⊥
not_whole Sink status s e = false≢true (ap is_whole (sym s) ∙ e)
not_whole Memory status s e = false≢true (ap is_whole (sym s) ∙ e)
not_whole Folder status s e = false≢true (ap is_whole (sym s) ∙ e)

-- what is known of the line in which a session is cut short
line_cut : (mid now : List ℕ) (old there : Files) (ps : List (Part Change)) (stop : Stop) (status : ℕ) → StatusIs stop status → PartsStop ps mid now old there stop → PartsCut ps (changed old) mid now there status
line_cut mid now old there ps Sink status s d = record {
  whole = d.0;
  piece = d.1.front;
  left = d.1.rest;
  made = length (part_at d.0 ps).changes;
  written = d.1.added ∙ append_assoc mid (printed_by (take d.0 ps)) d.1.front;
  front = d.1.whole;
  files = d.2 ∙ ap (λ x. changed old (made_by (take d.0 ps) ++ x)) (sym (take_all (part_at d.0 ps).changes));
  sink = λ e. omega arith;
  memory = λ e. absurd (omega (arith, s, e));
  folder = λ e. absurd (omega (arith, s, e));
  read = λ e. absurd (omega (arith, s, e));
}
line_cut mid now old there ps Folder status s d = record {
  whole = d.0;
  piece = [];
  left = (part_at d.0 ps).text;
  made = d.1;
  written = d.2 ∙ ap (λ x. mid ++ x) (sym (append-nil (printed_by (take d.0 ps))));
  front = refl;
  files = d.3;
  sink = λ e. absurd (omega (arith, s, e));
  memory = λ e. absurd (omega (arith, s, e));
  folder = λ e. refl;
  read = λ e. absurd (omega (arith, s, e));
}
line_cut mid now old there ps Memory status s d = record {
  whole = d.0;
  piece = [];
  left = (part_at d.0 ps).text;
  made = 0;
  written = d.2 ∙ ap (λ x. mid ++ x) (sym (append-nil (printed_by (take d.0 ps))));
  front = refl;
  files = d.3 ∙ ap (changed old) (sym (append-nil (made_by (take d.0 ps))));
  sink = λ e. absurd (omega (arith, s, e));
  memory = λ e. let h = d.1 in (refl, refl, omega (arith, h));
  folder = λ e. refl;
  read = λ e. absurd (omega (arith, s, e));
}

-- nothing was done of the next parts
none_cut : {C : Type 0} (ps : List (Part C)) (make : List C → Files) (before now : List ℕ) (there : Files) (status : ℕ) → now ≡ before → there ≡ make [] → (status ≡ 4 → ⊥) → PartsCut ps make before now there status
none_cut ps make before now there status e f four = record {
  whole = 0;
  piece = [];
  left = (part_at 0 ps).text;
  made = 0;
  written = e ∙ sym (append-nil before);
  front = refl;
  files = f;
  sink = λ z. absurd (four z);
  memory = λ z. (refl, refl, omega arith);
  folder = λ z. refl;
  read = λ z. (refl, refl, refl);
}

-- the next answer, where the session stands
next_is : (s : Settings) (first w : World) (n m : ℕ) (past rest : List (List ℕ)) (l : List ℕ) (ls : List (List ℕ)) → rest ≡ l ∷ ls → world_from (answer s) first 1 past ≡ w → m ≡ n → answer s w n (line_of l) ≡ next_of (answer s) (world_from (answer s) first 1 past) m rest
next_is s first w n m past rest l ls e v k = sym (ap (λ x. next_of (answer s) (world_from (answer s) first 1 past) m x) e ∙ ap (λ x. answer s x m (line_of l)) v ∙ ap (λ x. answer s w x (line_of l)) k)

-- behind the lines that were done
cut_behind : (ps : List (Part Change)) (before mid now : List ℕ) (done : List Change) (old there there2 : Files) (status : ℕ) → mid ≡ before → there ≡ changed old done → PartsCut ps (changed there) mid now there2 status → PartsCut ps (λ cs. changed old (done ++ cs)) before now there2 status
cut_behind ps before mid now done old there there2 status m t c = record {
  whole = c.whole;
  piece = c.piece;
  left = c.left;
  made = c.made;
  written = c.written ∙ ap (λ x. x ++ (printed_by (take c.whole ps) ++ c.piece)) m;
  front = c.front;
  files = c.files ∙ ap (λ (x : Files). changed x (changes_up_to ps c.whole c.made)) t ∙ sym (changed_more done (changes_up_to ps c.whole c.made) old);
  sink = c.sink;
  memory = c.memory;
  folder = c.folder;
  read = c.read;
}

is_cut : (s : Settings) (before mid now : List ℕ) (old there there2 : Files) (all : List (List ℕ)) (w : World) (n : ℕ) (rest : List (List ℕ)) (l : List ℕ) (ls : List (List ℕ)) (b : Bool) (status : ℕ) → Going (bytes s old) before mid old there all w n rest b → rest ≡ l ∷ ls → PartsCut (answer s w n (line_of l)).parts (changed there) mid now there2 status → IsCut (bytes s old) before now old there2 all status
is_cut s before mid now old there there2 all w n rest l ls b status g e c =
    let first = start s old in
    let text = before ++ text_from (answer s) first 1 g.past in
    let done = changes_from (answer s) first 1 g.past in
    record {
      past = g.past;
      rest = rest;
      split = g.split;
      cut = subst (λ (x : Answer World Change). PartsCut x.parts (λ cs. changed old (done ++ cs)) text now there2 status) (next_is s first w n (1 + length g.past) g.past rest l ls e g.world g.number)
          (cut_behind (answer s w n (line_of l)).parts text mid now done old there there2 status g.written g.files c);
    }

pub goes_cut : (s : Settings) (before mid now : List ℕ) (old there there2 : Files) (script rest line left : List ℕ) (system new : Standing) (n at taken : ℕ) (b last : Bool) (stop : Stop) (status : ℕ) → StatusIs stop status → Goes s before mid old there script system n at rest b last → GoesOn (length script) at (lines_of rest) line taken (lines_of left) → ((w : World) → Shows system there w → LineDoes mid now there there2 new (answer s w n (line_of line)) (Err stop)) → Ends (bytes s old) before now old there2 script status
goes_cut s before mid now old there there2 script rest line left system new n at taken b last stop status e g step does = record {
  whole = λ w. absurd (not_whole stop status e w);
  cut = λ low high. is_cut s before mid now old there there2 (done_lines script) g.w n (within (length script) at (lines_of rest)) line (within (length script) taken (lines_of left)) b status g.going step.0 (line_cut mid now there there2 (answer s g.w n (line_of line)).parts stop status e (does g.w g.shows));
}

-- ALL LINES ARE DONE

-- a session that stands behind all lines
record AllDone (s : Settings) (before now : List ℕ) (old there : Files) (script : List ℕ) (b : Bool) : Type 0 where
  written : now ≡ before ++ session_text (answer s) (start s old) script
  files : there ≡ changed old (session_changes (answer s) (start s old) script)
  verdict : refused_from (answer s) (start s old) 1 (done_lines script) false ≡ b

all_done : (s : Settings) (before now : List ℕ) (old there : Files) (script : List ℕ) (w : World) (n : ℕ) (rest : List (List ℕ)) (b : Bool) → Going (bytes s old) before now old there (done_lines script) w n rest b → rest ≡ [] → AllDone s before now old there script b
all_done s before now old there script w n rest b g e =
    let first = start s old in
    let p : g.past ≡ done_lines script = sym (g.split ∙ ap (λ x. g.past ++ x) e ∙ append-nil g.past) in
    record {
      written = g.written ∙ ap (λ x. before ++ text_from (answer s) first 1 x) p;
      files = g.files ∙ ap (λ x. changed old (changes_from (answer s) first 1 x)) p;
      verdict = g.verdict ∙ ap (λ x. refused_from (answer s) w n x b) e ∙ refused_none (answer s) w n b;
    }

-- the next line passes a limit
pub goes_stops : (s : Settings) (before now : List ℕ) (old there : Files) (script rest : List ℕ) (system : Standing) (n at : ℕ) (b last : Bool) → Goes s before now old there script system n at rest b last → Stops (length script) at (lines_of rest) → Ends (bytes s old) before now old there script 7
goes_stops s before now old there script rest system n at b last g step =
    let first = start s old in
    let d = all_done s before now old there script g.w n (within (length script) at (lines_of rest)) b g.going step.0 in
    let over : exceeds (length script) 0 (lines_of script) ≡ true = g.limit ∙ step.1 in
    record {
      whole = λ w. (d.written, sym (ap (λ x. cond x 7 (cond (refused_from (answer s) first 1 (done_lines script) false) 1 0)) over), d.files);
      cut = λ low high. absurd (omega (arith, high));
    }

none_within : (whole at : ℕ) → within whole at (lines_of []) ≡ []
unfolding within lines_of
none_within whole at = refl

none_exceed : (whole at : ℕ) → exceeds whole at (lines_of []) ≡ false
unfolding exceeds lines_of
none_exceed whole at = refl

small : (b : Bool) (status : ℕ) → status ≡ cond b 1 0 → 3 ≤ status → ⊥
small true status s h = omega (arith, s, h)
small false status s h = omega (arith, s, h)

pub goes_end : (s : Settings) (before now : List ℕ) (old there : Files) (script rest : List ℕ) (system : Standing) (n at : ℕ) (b last : Bool) (status : ℕ) → Goes s before now old there script system n at rest b last → rest ≡ [] → status ≡ cond b 1 0 → Ends (bytes s old) before now old there script status
goes_end s before now old there script rest system n at b last status g e st =
    let first = start s old in
    let left : within (length script) at (lines_of rest) ≡ [] = ap (λ x. within (length script) at (lines_of x)) e ∙ none_within (length script) at in
    let over : exceeds (length script) 0 (lines_of script) ≡ false = g.limit ∙ ap (λ x. exceeds (length script) at (lines_of x)) e ∙ none_exceed (length script) at in
    let d = all_done s before now old there script g.w n (within (length script) at (lines_of rest)) b g.going left in
    record {
      whole = λ w. (d.written, st ∙ ap (λ x. cond x 1 0) (sym d.verdict) ∙ sym (ap (λ x. cond x 7 (cond (refused_from (answer s) first 1 (done_lines script) false) 1 0)) over), d.files);
      cut = λ low high. absurd (small b status st low);
    }

-- the session is cut short between two lines
pub goes_waits : (s : Settings) (before now : List ℕ) (old there : Files) (script rest : List ℕ) (system : Standing) (n at : ℕ) (b last : Bool) (status : ℕ) → Goes s before now old there script system n at rest b last → (status ≡ 4 → ⊥) → is_whole status ≡ false → Ends (bytes s old) before now old there script status
goes_waits s before now old there script rest system n at b last status g four e =
    let first = start s old in
    let h = g.going in
    let lines = within (length script) at (lines_of rest) in
    let done = changes_from (answer s) first 1 h.past in
    record {
      whole = λ w. absurd (false≢true (sym e ∙ w));
      cut = λ low high. record {
        past = h.past;
        rest = lines;
        split = h.split;
        cut = none_cut (next_of (answer s) (world_from (answer s) first 1 h.past) (1 + length h.past) lines).parts (λ cs. changed old (done ++ cs)) (before ++ text_from (answer s) first 1 h.past) now there status h.written (h.files ∙ ap (changed old) (sym (append-nil done))) four;
      };
    }

-- a failed read: all lines whose byte 10 was taken are done
pub goes_pieces : (s : Settings) (before now : List ℕ) (old there : Files) (script rest line ahead left : List ℕ) (system : Standing) (n at : ℕ) (b : Bool) → Goes s before now old there script system n at rest b false → NextDoes (length script) at rest (ahead ++ left) line (Err fault.Failed) → ahead ≡ [] → Pieces s before now old script left
goes_pieces s before now old there script rest line ahead left system n at b g step e =
    let is : ended (g.got ++ line) ≡ g.going.past = g.ended_so refl line ∙ ap (λ x. g.going.past ++ x) (ended_open line step.1) ∙ append-nil g.going.past in
    record {
      got = g.got ++ line;
      parts = g.parts refl ∙ ap (λ x. g.got ++ x) (step.0 ∙ ap (λ x. line ++ (x ++ left)) e) ∙ sym (append_assoc g.got line left);
      written = g.going.written ∙ ap (λ x. before ++ text_from (answer s) (start s old) 1 x) (sym is);
      after = within (length script) at (lines_of rest);
      split = g.going.split ∙ ap (λ x. x ++ within (length script) at (lines_of rest)) (sym is);
    }

-- A session that was cut short before its first line.
pub ends_early : {W C : Type 0} (kind : Kind W C) (before : List ℕ) (old : Files) (script : List ℕ) (status : ℕ) → (kind.make old [] ≡ old) → (status ≡ 4 → ⊥) → is_whole status ≡ false → Ends kind before before old old script status
ends_early kind before old script status f four e =
    let lines = done_lines script in
    let text = text_from kind.answer kind.first 1 [] in
    record {
      whole = λ w. absurd (false≢true (sym e ∙ w));
      cut = λ low high. record {
        past = [];
        rest = lines;
        split = refl;
        cut = none_cut (next_of kind.answer (world_from kind.answer kind.first 1 []) 1 lines).parts (λ cs. kind.make old (changes_from kind.answer kind.first 1 [] ++ cs)) (before ++ text) before old status
            (sym (append-nil before) ∙ ap (λ x. before ++ x) (sym (text_none kind.answer kind.first 1)))
            (sym f ∙ ap (λ x. kind.make old (x ++ [])) (sym (changes_none kind.answer kind.first 1)))
            four;
      };
    }
