-- A command in worlds that are alike.
use Rattle.std.proofs.Common.{◌≡◌, ℕ, List, [], ◌∷◌, ◌++◌, true, length, take, refl, sym, ap, ◌∙◌, subst, Result, Ok, Err}
use Rattle.std.specs.Prelude.{zero, suc, map}
use Rattle.ob_tree.specs.declared.print.Print.{Print}
use Rattle.ob_obj.specs.declared.file.ObjFile.{ObjFile}
use Rattle.ob_link.specs.Plan as load
use Rattle.ob_link.specs.Files.{file_plan, planned}
use Rattle.ob_load.specs.Command.{Ran, ran}
use Rattle.ob_parse_grammar.specs.Identifiers.{is_identifier}
use Rattle.ob_words.specs.declared.asked.Settings.{Settings}
use Rattle.ob_shell_reports.specs.Texts.{report, stops}
use Rattle.ob_shell_model.specs.Folds.{Part, Answer, part}
use Rattle.ob_shell_model.specs.Bytes as bytes
use Rattle.ob_builds.specs.Builds.{Text, Build, file_of}
use Rattle.ob_shell_model.specs.Library.{Change}
use Rattle.ob_shell_model.specs.Model.{World, ended_answer, load_answer, command_answer, build_plan}
use Rattle.ob_builds.specs.Simulated.{joined, ended, IsSameRun, StandFor, ran_over}
use Rattle.law_session.specs.Agreeing.{AreSame}
use Rattle.ob_builds.specs.Afresh.{AreTogether}
use Rattle.ob_shell_model.specs.OneAge.{ByLoad, AreToldApart}
use Rattle.law_session.specs.Composing.{as_bytes, SameBuilds, SamePlan, PlansAlike}
use Rattle.law_session.proofs.Core.{Core}

-- the first of builds that go together go together
first_together : (n : ℕ) (before bs : List Build) → AreTogether before bs → AreTogether before (take n bs)
first_together zero before [] t = tt
first_together zero before (b ∷ bs) t = tt
first_together (suc n) before [] t = tt
first_together (suc n) before (b ∷ bs) t = (t.0, first_together n (before ++ b ∷ []) bs t.1)

-- one part that changes nothing
abbrev pub one_part : List ℕ → List (Part bytes.Change)
one_part text = part [] text

-- two answers are the same, and the worlds behind them are alike
pub record Alright (s : Settings) (a : Answer bytes.World bytes.Change) (b : Answer World Change) : Type 0 where
  pub same : AreSame as_bytes a b
  pub core : Core s a.world b.world

ran_so : (s : Settings) (w : bytes.World) (v : World) (m name : List ℕ) (files : List ObjFile) (bs : List Build) → Core s w v → SameBuilds v.library v.loaded m name files bs → (r : Ran) → ran_over s v.loaded w.words w.heap bs m name ≡ r → Alright s (bytes.ran_answer w r) (ended_answer v (v.loaded ++ bs) (ended s v.system bs m name))
ran_so s w v m name files bs h k r e =
    let end = ended s v.system bs m name in
    let run : (commands : ℕ) → IsSameRun (v.loaded ++ bs) r end × StandFor commands s (joined (v.loaded ++ bs) end) end.system r.words r.heap = λ commands. subst (λ (x : Ran). IsSameRun (v.loaded ++ bs) x end × StandFor commands s (joined (v.loaded ++ bs) end) end.system x.words x.heap) e (h.stand (suc commands) bs m name k.together k.planned) in
    let first = (run 0).0 in
    record {
      same = record {
        parts = ap one_part (ap (λ t. t ++ report r.outcome) first.text ∙ ap (λ o. end.out ++ report o) first.outcome);
        refused = ap stops first.outcome;
      };
      core = record {
        files = h.files;
        library = h.library;
        kept = h.kept;
        loaded = first.loaded;
        together = first_together (length end.system.program) [] (v.loaded ++ bs) k.together;
        stand = λ commands. (run commands).1;
      };
    }

plan_so : (s : Settings) (w : bytes.World) (v : World) (m name : List ℕ) (r : Result (List ObjFile) (load.Refusal Print)) (q : Result (List Build) (load.Refusal Text)) → Core s w v → SamePlan v.library v.loaded m name r q → Alright s (bytes.load_answer s w m name r) (load_answer s v m name q)
plan_so s w v m name (Ok files) (Ok bs) h k =
    ran_so s w v m name files bs h k (ran w.loaded w.words w.heap (planned w.loaded m name files) s.turns)
    (ap (λ fs. ran fs w.words w.heap (planned fs m name (map file_of bs)) s.turns) (sym h.loaded) ∙ ap (λ fs. ran w.loaded w.words w.heap (planned w.loaded m name fs) s.turns) (sym k.are))
plan_so s w v m name (Err r) (Err q) h k = record { same = record { parts = ap one_part k; refused = refl }; core = h }
plan_so s w v m name (Ok files) (Err q) h k = absurd k
plan_so s w v m name (Err r) (Ok bs) h k = absurd k

pub commands_so : (s : Settings) (w : bytes.World) (v : World) (m name : List ℕ) → PlansAlike → is_identifier m ≡ true → is_identifier name ≡ true → Core s w v → AreToldApart (ByLoad v.library v.loaded m) → Alright s (bytes.command_answer s w m name) (command_answer s v m name)
commands_so s w v m name alike i j h told =
    plan_so s w v m name (file_plan w.files w.loaded m name) (build_plan v.library v.loaded m name) h
    (subst (λ f. SamePlan v.library v.loaded m name (file_plan f w.loaded m name) (build_plan v.library v.loaded m name)) (sym h.files)
    (subst (λ fs. SamePlan v.library v.loaded m name (file_plan v.files fs m name) (build_plan v.library v.loaded m name)) (sym h.loaded)
    (alike v.files v.library v.loaded m name i j h.library h.kept h.together told)))
