-- Each line agrees.
use Rattle.std.proofs.Common.{◌≡◌, ℕ, ◌+◌, List, [], ◌∷◌, refl, ap, ◌∙◌}
use Rattle.ob_env_walk.specs.Walk.{symbol_name}
use Rattle.ob_cmp.specs.Check.{check_of, check_text, is_refused}
use Rattle.ob_link.specs.Files.{Files}
use Rattle.ob_shell_lines.specs.Lines.{Line, Compile, Compare, Check, Make, Show, Demo, Command, Unknown, Nothing, line_of}
use Rattle.ob_words.specs.declared.asked.Settings.{Settings}
use Rattle.ob_shell_model.specs.Folds.{world_from}
use Rattle.ob_shell_model.specs.Files.{sym_file}
use Rattle.ob_shell_model.specs.Bytes as bytes
use Rattle.ob_shell_model.specs.Bytes.{compared, shown}
use Rattle.ob_builds.specs.Builds.{Text}
use Rattle.ob_shell_model.specs.Model.{World, answer, check_in}
use Rattle.ob_builds.specs.Written.{BuildsAreWritten}
use Rattle.law_session.specs.New.{NewIsValid}
use Rattle.ob_shell_model.specs.OneAge.{ByLine, IsComparedFrom, AreToldApart}
use Rattle.law_session.specs.Composing.{CompilesAlike, PlansAlike, ChecksAlike, LinesAgreeAll}
use Rattle.law_session.proofs.Named.{IsNamed, named}
use Rattle.law_session.proofs.Core.{Core}
use Rattle.law_session.proofs.Commanded.{Alright, one_part, commands_so}
use Rattle.law_session.proofs.Makes.{compile_so, make_so}
use Rattle.law_session.proofs.Demos.{StandsFirst, demos_so}
use Rattle.law_session.proofs.Checked.{checks_so}
use Rattle.law_session.proofs.New.{new_is_valid}

module _ (s : Settings) (compiles : CompilesAlike) (plans : PlansAlike) (checks : ChecksAlike) (written : BuildsAreWritten) (valid : NewIsValid) (first : StandsFirst s) where
  by_line : (w : bytes.World) (v : World) (n : ℕ) (line : Line) → IsNamed line → AreToldApart (ByLine v line) → Core s w v → Alright s (bytes.answer s w n line) (answer s v n line)
  by_line w v n (Compile name) named told h = compile_so s compiles written valid w v name h told
  by_line w v n (Compare old new) named told h = record {
    same = record {
      parts = ap (λ (f : Files). one_part (compared old new (sym_file f old) (sym_file f new)).text) h.files;
      refused = ap (λ (f : Files). (compared old new (sym_file f old) (sym_file f new)).refused) h.files;
    };
    core = h;
  }
  by_line w v n (Check m) named told h =
      let is : check_of w.files m ≡ check_in v.library m = ap (λ (f : Files). check_of f m) h.files ∙ checks v.files v.library m named h.library h.kept told in
      record { same = record { parts = ap (λ c. one_part (check_text m c)) is; refused = ap is_refused is }; core = h }
  by_line w v n (Make m) named told h = make_so s compiles written valid w v m named h told
  by_line w v n (Show m) named told h = record {
    same = record {
      parts = ap (λ (f : Files). one_part (shown (symbol_name m) (sym_file f (symbol_name m))).text) h.files;
      refused = ap (λ (f : Files). (shown (symbol_name m) (sym_file f (symbol_name m))).refused) h.files;
    };
    core = h;
  }
  by_line w v n (Demo k) named told h = demos_so s compiles plans written valid first w v k named h told
  by_line w v n (Command m name) named told h = commands_so s w v m name plans named.0 named.1 h told
  by_line w v n Unknown named told h = record { same = record { parts = refl; refused = refl }; core = h }
  by_line w v n Nothing named told h = record { same = record { parts = refl; refused = refl }; core = h }

-- what the first of some lines compares, and what the ones behind it do
first_of : (s : Settings) (v : World) (n : ℕ) (l : List ℕ) (ls : List (List ℕ)) (kept found : Text) → ByLine v (line_of l) kept found → IsComparedFrom s v n (l ∷ ls) kept found
unfolding world_from
first_of s v n l ls kept found c = ([], ls, l, refl, c)

later_of : (s : Settings) (v : World) (n : ℕ) (l : List ℕ) (ls : List (List ℕ)) (kept found : Text) → IsComparedFrom s (answer s v n (line_of l)).world (n + 1) ls kept found → IsComparedFrom s v n (l ∷ ls) kept found
unfolding world_from
later_of s v n l ls kept found c = (l ∷ c.0, c.1, c.2, ap (λ x. l ∷ x) c.3, c.4)

pub agreed : LinesAgreeAll
agreed s compiles plans written simulation limits w v n l ls h =
    let a = by_line s compiles plans (checks_so written) written (new_is_valid written) (λ commands. simulation commands s limits) w v n (line_of l) (named l)
    (λ kept found c p. h.told kept found (first_of s v n l ls kept found c) p)
    (record { files = h.files; library = h.library; kept = h.kept; loaded = h.loaded; together = h.together; stand = h.stand }) in (
      a.same,
      record {
        files = a.core.files;
        library = a.core.library;
        kept = a.core.kept;
        loaded = a.core.loaded;
        together = a.core.together;
        stand = a.core.stand;
        told = λ kept found c p. h.told kept found (later_of s v n l ls kept found c) p;
      },
    )
