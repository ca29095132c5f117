-- What holds of the node of a part, where it has one.
use Rattle.std.specs.Prelude.{Option, Some, None}
use Rattle.ob_rules.specs.Judged.{Judged}

abbrev pub IfThere : {A : Type 0} → (A → Type 0) → Option A → Type 0
IfThere P None = Unit {0}
IfThere P (Some x) = P x

-- the node, where there is one, is so
pub record Makes {A : Type 0} (P : A → Type 0) (j : Judged A) : Type 0 where
  pub node : IfThere P j.node
