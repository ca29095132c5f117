-- The headline of a session whose lines agree.
use Rattle.std.proofs.Common.{◌≡◌, ℕ, ◌+◌, ◌≤◌, List, [], ◌∷◌, ◌++◌, Bool, true, false, length, take, refl, sym, ap, ◌∙◌, subst, append_assoc, arith, ⊎_elim, inl, inr}
use Rattle.std.proofs.lemmas.Bool.{false≢true}
use Rattle.std.specs.Prelude.{map, ◌⊎◌}
use Rattle.ob_io.specs.Io.{SameFiles}
use Rattle.ob_link.specs.Files.{Files}
use Rattle.ob_shell_lines.specs.Lines.{done_lines, line_of}
use Rattle.ob_shell_model.specs.Folds.{Answers, made_by, world_from, changes_from, session_changes}
use Rattle.ob_shell_model.specs.Session.{IsCut, next_of, changes_up_to, is_whole}
use Rattle.ob_shell_model.specs.Bytes as bytes
use Rattle.ob_shell_model.specs.Bytes.{changed}
use Rattle.ob_shell_model.specs.Session as session
use Rattle.ob_words.specs.declared.asked.Settings.{Settings}
use Rattle.ob_shell_model.specs.Library.{Library, IsLibrary, Kept, Change, ObjectBecomes, SymbolBecomes, after_all}
use Rattle.ob_shell_model.specs.Model.{start, answer, written, written_all}
use Rattle.ob_shell_model.specs.Headline.{kind, KeepsOn}
use Rattle.ob_shell_model.specs.OneAge.{StandsAsCompared}
use Rattle.ob_builds.specs.Simulated.{AreSettings, Simulation}
use Rattle.law_session.specs.Composing.{as_bytes, Alike, Composes, HeadlineFollows}
use Rattle.law_session.specs.New.{NewIsValid}
use Rattle.law_session.proofs.Keeping.{all_stay}
use Rattle.law_session.proofs.Libraries.{library_stays, front_good, lines_good}
use Rattle.law_session.proofs.Parts.{front_behind, parts_front}
use Rattle.law_session.proofs.Transfer.{ends_alike, related_behind}

make_same : (ds : List Change) (files : Files) → changed files (map as_bytes ds) ≡ written_all files ds
make_same [] files = refl
make_same (ObjectBecomes name b ∷ ds) files = make_same ds (written files (ObjectBecomes name b))
make_same (SymbolBecomes name b ∷ ds) files = make_same ds (written files (SymbolBecomes name b))

-- THE CHANGES OF A SESSION THAT WAS CUT SHORT

split_none : {W C : Type 0} (answer : Answers W C) (w : W) (n : ℕ) (rest : List (List ℕ)) → (y : List C) × (changes_from answer w n rest ≡ changes_from answer w n [] ++ (made_by (next_of answer (world_from answer w n []) n rest).parts ++ y))
unfolding changes_from world_from
split_none answer w n [] = ([], refl)
split_none answer w n (l ∷ ls) = (changes_from answer (answer w n (line_of l)).world (n + 1) ls, refl)

split_more : {W C : Type 0} (answer : Answers W C) (w : W) (n m : ℕ) (l : List ℕ) (past rest : List (List ℕ)) → (y : List C) × (changes_from answer (answer w n (line_of l)).world (n + 1) (past ++ rest) ≡ changes_from answer (answer w n (line_of l)).world (n + 1) past ++ (made_by (next_of answer (world_from answer (answer w n (line_of l)).world (n + 1) past) m rest).parts ++ y)) → (y : List C) × (changes_from answer w n ((l ∷ past) ++ rest) ≡ changes_from answer w n (l ∷ past) ++ (made_by (next_of answer (world_from answer w n (l ∷ past)) m rest).parts ++ y))
unfolding changes_from world_from
split_more answer w n m l past rest h =
    let a = answer w n (line_of l) in
    (h.0, ap (λ t. made_by a.parts ++ t) h.1 ∙ sym (append_assoc (made_by a.parts) (changes_from answer a.world (n + 1) past) (made_by (next_of answer (world_from answer a.world (n + 1) past) m rest).parts ++ h.0)))

split_changes : {W C : Type 0} (answer : Answers W C) (past rest : List (List ℕ)) (w : W) (n m : ℕ) → n + length past ≡ m → (y : List C) × (changes_from answer w n (past ++ rest) ≡ changes_from answer w n past ++ (made_by (next_of answer (world_from answer w n past) m rest).parts ++ y))
split_changes {W} {C} answer [] rest w n m e =
    let same : n ≡ m = omega (arith, e) in
    subst (λ k. (y : List C) × (changes_from answer w n rest ≡ changes_from answer w n [] ++ (made_by (next_of answer (world_from answer w n []) k rest).parts ++ y))) same (split_none answer w n rest)
split_changes answer (l ∷ past) rest w n m e = split_more answer w n m l past rest (split_changes answer past rest (answer w n (line_of l)).world (n + 1) m (omega (arith, e)))

take_all : {A : Type 0} (xs : List A) → take (length xs) xs ≡ xs
take_all [] = refl
take_all (x ∷ xs) = ap (λ r. x ∷ r) (take_all xs)

-- these changes are those of the lines that a session did, and the first ones of the line that was cut
abbrev AreCut : Settings → List ℕ → List ℕ → Files → Files → Library → List ℕ → ℕ → ℕ → Type 0
AreCut s before now old new l script status made = (c : IsCut (kind s old l) before now old new (done_lines script) status) × (take made (session_changes (answer s) (start old l) script) ≡ changes_from (answer s) (start old l) 1 c.past ++ changes_up_to (next_of (answer s) (world_from (answer s) (start old l) 1 c.past) (1 + length c.past) c.rest).parts c.cut.whole c.cut.made)

keeps_so : NewIsValid → (s : Settings) (before now : List ℕ) (old new : Files) (l : Library) (script : List ℕ) (status made : ℕ) → IsLibrary l → Kept old l → SameFiles new (written_all old (take made (session_changes (answer s) (start old l) script))) →
    (is_whole status ≡ true → length (session_changes (answer s) (start old l) script) ≤ made) → (is_whole status ≡ false → AreCut s before now old new l script status made) → KeepsOn s before now old new l script status
keeps_so valid s before now old new l script status made h k f a b =
    let changes = session_changes (answer s) (start old l) script in
    record {
      made = made;
      files = f;
      kept = subst (λ x. Kept x (after_all l (take made changes))) (sym f) (all_stay (take made changes) old l k);
      library = library_stays (take made changes) l h (front_good made changes (lines_good valid s (done_lines script) (start old l) 1 h));
      all = a;
      cut = b;
    }

keeps_cut : NewIsValid → (s : Settings) (before now : List ℕ) (old new : Files) (l : Library) (script : List ℕ) (status : ℕ) → IsLibrary l → Kept old l → is_whole status ≡ false → IsCut (kind s old l) before now old new (done_lines script) status → KeepsOn s before now old new l script status
keeps_cut valid s before now old new l script status h k w c =
    let first = start old l in
    let next = next_of (answer s) (world_from (answer s) first 1 c.past) (1 + length c.past) c.rest in
    let y = split_changes (answer s) c.past c.rest first 1 (1 + length c.past) refl in
    let past = changes_from (answer s) first 1 c.past in
    let up_to = changes_up_to next.parts c.cut.whole c.cut.made in
    let i = parts_front next.parts y.0 c.cut.whole c.cut.made in
    let j = front_behind past (made_by next.parts ++ y.0) up_to i.0 i.1 in
    let e : take j.0 (session_changes (answer s) first script) ≡ past ++ up_to = ap (λ x. take j.0 (changes_from (answer s) first 1 x)) c.split ∙ ap (take j.0) y.1 ∙ j.1 in
    keeps_so valid s before now old new l script status j.0 h k (c.cut.files ∙ ap (written_all old) (sym e)) (λ t. absurd (false≢true (sym w ∙ t))) (λ t. (c, e))

keeps_whole : NewIsValid → (s : Settings) (before now : List ℕ) (old new : Files) (l : Library) (script : List ℕ) (status : ℕ) → IsLibrary l → Kept old l → is_whole status ≡ true → SameFiles new (written_all old (session_changes (answer s) (start old l) script)) → KeepsOn s before now old new l script status
keeps_whole valid s before now old new l script status h k w f =
    let all = session_changes (answer s) (start old l) script in
    keeps_so valid s before now old new l script status (length all) h k (f ∙ ap (written_all old) (sym (take_all all))) (λ t. omega arith) (λ t. absurd (false≢true (sym t ∙ w)))

-- each status is whole or cut short; a refusal of the words is neither, and is no status here
by_bool : (b : Bool) → (b ≡ true) ⊎ (b ≡ false)
by_bool true = inl refl
by_bool false = inr refl

pub composes : Composes
composes s l before now old new script status valid law afresh first small neither ends =
    let e = ends_alike as_bytes (Alike s) (session.bytes s old) (kind s old l) law (λ files ds. make_same ds files) before now old new script status first ends in
    record {
      ends = e;
      keeps = ⊎_elim
          (λ w. keeps_whole valid s before now old new l script status first.library first.kept w (e.whole w).2)
          (λ w. keeps_cut valid s before now old new l script status first.library first.kept w (e.cut (small w) (neither w)))
          (by_bool (is_whole status));
      afresh = λ past rest split.
          let k = (related_behind as_bytes (Alike s) (bytes.answer s) (answer s) law past rest (bytes.start s old) (start old l) (subst (Alike s (bytes.start s old) (start old l) 1) split first)).together in
          record { program = afresh _ k; together = k };
    }

-- AT ENTRY

pub starts_alike : (s : Settings) (l : Library) (old : Files) (script : List ℕ) → Simulation → AreSettings s → StandsAsCompared s old l script → Alike s (bytes.start s old) (start old l) 1 (done_lines script)
starts_alike s l old script simulation limits h = record {
  files = refl;
  library = h.library;
  kept = h.kept;
  loaded = refl;
  together = tt;
  stand = λ commands. simulation commands s limits;
  told = h.told;
}

pub follows : HeadlineFollows
follows s l before now old new script status valid simulation limits afresh law h small neither ends = composes s l before now old new script status valid law afresh (starts_alike s l old script simulation limits h) small neither ends
