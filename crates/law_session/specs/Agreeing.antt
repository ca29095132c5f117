-- When two kinds of sessions agree line by line.
use Rattle.std.specs.Prelude.{◌≡◌, ℕ, ◌+◌, List, ◌∷◌, map}
use Rattle.ob_link.specs.Files.{Files}
use Rattle.ob_shell_lines.specs.Lines.{line_of}
use Rattle.ob_shell_model.specs.Folds.{Part, Answer, Answers}

-- a part with the same text, and with the changes of another kind
abbrev pub part_as : {C D : Type 0} → (D → C) → Part D → Part C
part_as for_each p = record { changes = map for_each p.changes; text = p.text }

-- two answers have the same parts: each prints the same and makes the same changes
pub record AreSame {W V C D : Type 0} (for_each : D → C) (a : Answer W C) (b : Answer V D) : Type 0 where
  pub parts : a.parts ≡ map (part_as for_each) b.parts
  pub refused : a.refused ≡ b.refused

-- In related worlds, before some lines, the answers to the first are the same, and the worlds behind it are related before the
-- others.
abbrev pub Agree : {W V C D : Type 0} → (D → C) → (W → V → ℕ → List (List ℕ) → Type 0) → Answers W C → Answers V D → Type 0
Agree {W} {V} for_each R one two = (w : W) (v : V) (n : ℕ) (l : List ℕ) (ls : List (List ℕ)) → R w v n (l ∷ ls) →
    AreSame for_each (one w n (line_of l)) (two v n (line_of l)) × R (one w n (line_of l)).world (two v n (line_of l)).world (n + 1) ls

-- the changes make the same of files
abbrev pub MakeSame : {C D : Type 0} → (D → C) → (Files → List C → Files) → (Files → List D → Files) → Type 0
MakeSame {C} {D} for_each one two = (files : Files) (ds : List D) → one files (map for_each ds) ≡ two files ds
