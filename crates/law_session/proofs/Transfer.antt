-- Sessions that agree line by line end alike.
use Rattle.std.proofs.Common.{◌≡◌, ℕ, ◌+◌, List, [], ◌∷◌, ◌++◌, length, Bool, false, refl, sym, ap, ◌∙◌, subst, arith}
use Rattle.std.specs.Prelude.{◌||◌, map, cond}
use Rattle.std.proofs.lemmas.List.{append-nil}
use Rattle.ob_link.specs.Files.{Files}
use Rattle.ob_shell_lines.specs.Lines.{line_of, lines_of, exceeds, done_lines}
use Rattle.ob_shell_model.specs.Folds.{Answers, printed_by, made_by, text_from, refused_from, world_from, changes_from, session_changes}
use Rattle.ob_shell_model.specs.Session.{Kind, Ends, IsCut, next_of}
use Rattle.law_session.specs.Agreeing.{AreSame, Agree, MakeSame}
use Rattle.law_session.proofs.Parts.{map_append, printed_same, made_same, parts_cut}

-- what two sessions have alike behind some lines
record Behind {W V C D : Type 0} (f : D → C) (R : W → V → ℕ → List (List ℕ) → Type 0) (one : Answers W C) (two : Answers V D) (w : W) (v : V) (n m : ℕ) (past rest : List (List ℕ)) : Type 0 where
  text : text_from one w n past ≡ text_from two v n past
  changes : changes_from one w n past ≡ map f (changes_from two v n past)
  refused : (b : Bool) → refused_from one w n past b ≡ refused_from two v n past b
  related : R (world_from one w n past) (world_from two v n past) m rest

behind_none : {W V C D : Type 0} (f : D → C) (R : W → V → ℕ → List (List ℕ) → Type 0) (one : Answers W C) (two : Answers V D) (w : W) (v : V) (n : ℕ) (rest : List (List ℕ)) → R w v n rest → Behind f R one two w v n n [] rest
unfolding text_from changes_from refused_from world_from
behind_none f R one two w v n rest r = record { text = refl; changes = refl; refused = λ b. refl; related = r }

behind_more : {W V C D : Type 0} (f : D → C) (R : W → V → ℕ → List (List ℕ) → Type 0) (one : Answers W C) (two : Answers V D) (w : W) (v : V) (n m : ℕ) (l : List ℕ) (past rest : List (List ℕ)) → AreSame f (one w n (line_of l)) (two v n (line_of l)) → Behind f R one two (one w n (line_of l)).world (two v n (line_of l)).world (n + 1) m past rest → Behind f R one two w v n m (l ∷ past) rest
unfolding text_from changes_from refused_from world_from
behind_more f R one two w v n m l past rest s b =
    let a = one w n (line_of l) in
    let c = two v n (line_of l) in
    record {
      text = ap (λ ps. printed_by ps ++ text_from one a.world (n + 1) past) s.parts ∙ ap (λ t. t ++ text_from one a.world (n + 1) past) (printed_same f c.parts) ∙ ap (λ t. printed_by c.parts ++ t) b.text;
      changes = ap (λ ps. made_by ps ++ changes_from one a.world (n + 1) past) s.parts ∙ ap (λ t. t ++ changes_from one a.world (n + 1) past) (made_same f c.parts) ∙ ap (λ t. map f (made_by c.parts) ++ t) b.changes ∙ sym (map_append f (made_by c.parts) (changes_from two c.world (n + 1) past));
      refused = λ before. ap (λ x. refused_from one a.world (n + 1) past (before || x)) s.refused ∙ b.refused (before || c.refused);
      related = b.related;
    }

behind : {W V C D : Type 0} (f : D → C) (R : W → V → ℕ → List (List ℕ) → Type 0) (one : Answers W C) (two : Answers V D) → Agree f R one two → (past rest : List (List ℕ)) (w : W) (v : V) (n m : ℕ) → n + length past ≡ m → R w v n (past ++ rest) → Behind f R one two w v n m past rest
behind f R one two law [] rest w v n m e r = let same : n ≡ m = omega (arith, e) in subst (λ k. Behind f R one two w v n k [] rest) same (behind_none f R one two w v n rest r)
behind f R one two law (l ∷ past) rest w v n m e r =
    let s = law w v n l (past ++ rest) r in
    behind_more f R one two w v n m l past rest s.0 (behind f R one two law past rest (one w n (line_of l)).world (two v n (line_of l)).world (n + 1) m (omega (arith, e)) s.1)

-- all lines
all_behind : {W V C D : Type 0} (f : D → C) (R : W → V → ℕ → List (List ℕ) → Type 0) (one : Answers W C) (two : Answers V D) → Agree f R one two → (lines : List (List ℕ)) (w : W) (v : V) → R w v 1 lines → Behind f R one two w v 1 (1 + length lines) lines []
all_behind f R one two law lines w v r = behind f R one two law lines [] w v 1 (1 + length lines) refl (subst (R w v 1) (sym (append-nil lines)) r)

next_same : {W V C D : Type 0} (f : D → C) (R : W → V → ℕ → List (List ℕ) → Type 0) (one : Answers W C) (two : Answers V D) → Agree f R one two → (w : W) (v : V) (m : ℕ) (rest : List (List ℕ)) → R w v m rest → AreSame f (next_of one w m rest) (next_of two v m rest)
next_same f R one two law w v m [] r = record { parts = refl; refused = refl }
next_same f R one two law w v m (l ∷ ls) r = (law w v m l ls r).0

cut_alike : {W V C D : Type 0} (f : D → C) (R : W → V → ℕ → List (List ℕ) → Type 0) (one : Kind W C) (two : Kind V D) → Agree f R one.answer two.answer → MakeSame f one.make two.make → (before now : List ℕ) (old new : Files) (lines : List (List ℕ)) (status : ℕ) → R one.first two.first 1 lines → IsCut one before now old new lines status → IsCut two before now old new lines status
cut_alike f R one two law make before now old new lines status r c =
    let b = behind f R one.answer two.answer law c.past c.rest one.first two.first 1 (1 + length c.past) refl (subst (R one.first two.first 1) c.split r) in
    let s = next_same f R one.answer two.answer law (world_from one.answer one.first 1 c.past) (world_from two.answer two.first 1 c.past) (1 + length c.past) c.rest b.related in
    let past = changes_from two.answer two.first 1 c.past in
    record {
      past = c.past;
      rest = c.rest;
      split = c.split;
      cut = parts_cut f (next_of one.answer (world_from one.answer one.first 1 c.past) (1 + length c.past) c.rest).parts (next_of two.answer (world_from two.answer two.first 1 c.past) (1 + length c.past) c.rest).parts s.parts
          (λ cs. one.make old (changes_from one.answer one.first 1 c.past ++ cs)) (λ ds. two.make old (past ++ ds))
          (λ ds. ap (λ x. one.make old (x ++ map f ds)) b.changes ∙ ap (one.make old) (sym (map_append f past ds)) ∙ make old (past ++ ds))
          (before ++ text_from one.answer one.first 1 c.past) (before ++ text_from two.answer two.first 1 c.past) now (ap (λ x. before ++ x) b.text) new status c.cut;
    }

pub ends_alike : {W V C D : Type 0} (f : D → C) (R : W → V → ℕ → List (List ℕ) → Type 0) (one : Kind W C) (two : Kind V D) → Agree f R one.answer two.answer → MakeSame f one.make two.make → (before now : List ℕ) (old new : Files) (script : List ℕ) (status : ℕ) → R one.first two.first 1 (done_lines script) → Ends one before now old new script status → Ends two before now old new script status
ends_alike f R one two law make before now old new script status r e =
    let b = all_behind f R one.answer two.answer law (done_lines script) one.first two.first r in
    record {
      whole = λ w. let x = e.whole w in (
        x.0 ∙ ap (λ t. before ++ t) b.text,
        x.1 ∙ ap (λ t. cond (exceeds (length script) 0 (lines_of script)) 7 (cond t 1 0)) (b.refused false),
        x.2 ∙ ap (one.make old) b.changes ∙ make old (session_changes two.answer two.first script),
      );
      cut = λ low high. cut_alike f R one two law make before now old new (done_lines script) status r (e.cut low high);
    }

pub related_behind : {W V C D : Type 0} (f : D → C) (R : W → V → ℕ → List (List ℕ) → Type 0) (one : Answers W C) (two : Answers V D) → Agree f R one two → (past rest : List (List ℕ)) (w : W) (v : V) → R w v 1 (past ++ rest) → R (world_from one w 1 past) (world_from two v 1 past) (1 + length past) rest
related_behind f R one two law past rest w v r = (behind f R one two law past rest w v 1 (1 + length past) refl r).related

pub text_behind : {W V C D : Type 0} (f : D → C) (R : W → V → ℕ → List (List ℕ) → Type 0) (one : Answers W C) (two : Answers V D) → Agree f R one two → (past rest : List (List ℕ)) (w : W) (v : V) → R w v 1 (past ++ rest) → text_from one w 1 past ≡ text_from two v 1 past
text_behind f R one two law past rest w v r = (behind f R one two law past rest w v 1 (1 + length past) refl r).text
