use Rattle.std.proofs.Common.{◌≡◌, ◌<◌, true, List, [], ◌∷◌, length, refl, sym, ◌∙◌, arith}
use Rattle.std.specs.declared.cmp.Ordering.{Ordering}
use Rattle.ob_format.specs.Order.{rises}
use Rattle.ob_format.proofs.wire.is_rising.Goals as goal

short : {A : Type 0} (R : A → A → Ordering) (xs : List A) → length xs < 2 → rises R xs ≡ true
short R [] lt = refl
short R (x ∷ []) lt = refl
short R (x ∷ y ∷ ys) lt = absurd (omega arith)

pub returns : goal.returns
returns g c = sym (short g.T.Ranked.rank c.loop-rest.rest.now c.in_default.len_below) ∙ c.loop-rest.invariant
