-- Texts with a text behind them.
use Rattle.std.proofs.Common.{◌≡◌, ℕ, List, [], ◌∷◌, ◌++◌, refl, ap, ◌∙◌, subst, append_assoc, Result, Ok, Err}
use Rattle.std.specs.Borrow.{Bor}
use Rattle.ob_io.specs.Io.{AddsFront, WritesAll}
use Rattle.ob_io.specs.Fronts.{front_more, front_later}
use Rattle.ob_io.specs.declared.traits.Failed.{Failed}
use Rattle.ob_shell_reports.specs.Prints.{all_of, before}

pub all_before : (ts : List (Bor (List ℕ))) (more : List ℕ) → all_of ts ++ more ≡ before ts more
all_before [] more = refl
all_before (t ∷ []) more = refl
all_before (t ∷ u ∷ us) more = append_assoc t.now (all_of (u ∷ us)) more ∙ ap (λ x. t.now ++ x) (all_before (u ∷ us) more)

-- texts were printed, and then what comes behind them
pub then_before : (start mid now : List ℕ) (texts : List (Bor (List ℕ))) (more : List ℕ) (result : Result (Unit {0}) Failed) → mid ≡ start ++ all_of texts → WritesAll mid now result more → WritesAll start now result (before texts more)
then_before start mid now texts more (Ok u) e w = w ∙ ap (λ x. x ++ more) e ∙ append_assoc start (all_of texts) more ∙ ap (λ x. start ++ x) (all_before texts more)
then_before start mid now texts more (Err x) e w = subst (λ t. AddsFront start now t) (all_before texts more) (front_later start mid now (all_of texts) more e w)

pub cut_before : (start now : List ℕ) (texts : List (Bor (List ℕ))) (more : List ℕ) → AddsFront start now (all_of texts) → AddsFront start now (before texts more)
cut_before start now texts more f = subst (λ t. AddsFront start now t) (all_before texts more) (front_more start now (all_of texts) more f)
