-- What the calls of this crate answer.
use Rattle.std.specs.Prelude.{◌≡◌, ℕ, ◌≤◌, List, Result, Ok, Err, IsErrOf}
use Rattle.ob_io.specs.Io.{Rose}
use Rattle.ob_make.specs.declared.fault.MakeFault.{MakeFault}
use Rattle.ob_make.specs.declared.fault.MakeFault.TheVariants as fault
use Rattle.ob_make.specs.Order.{MakeEnd, Cycle, TooMany}

-- the order, or why there is none; want of memory and a failed folder say nothing
abbrev pub OrdersAs : Result (List (List ℕ)) MakeEnd → Result (List (List ℕ)) MakeFault → Type 0
OrdersAs o (Ok names) = o ≡ Ok names
OrdersAs o (Err (fault.Cycle m)) = o ≡ Err (Cycle m)
OrdersAs o (Err (fault.TooMany count)) = o ≡ Err (TooMany count)
OrdersAs o (Err fault.Folder) = Unit {0}
OrdersAs o (Err fault.Memory) = Unit {0}

-- an answer; of the faults only a failed folder and want of memory come
abbrev pub AnswersAs : {T : Type 0} → T → Result T MakeFault → Type 0
AnswersAs x (Ok y) = x ≡ y
AnswersAs x (Err (fault.Cycle m)) = ⊥
AnswersAs x (Err (fault.TooMany count)) = ⊥
AnswersAs x (Err fault.Folder) = Unit {0}
AnswersAs x (Err fault.Memory) = Unit {0}

-- the folder is named only where its count rose, and the count never falls
pub record MakeHasCause {T : Type 0} (before now : ℕ) (result : Result T MakeFault) : Type 0 where
  pub later : before ≤ now
  pub failed : IsErrOf result fault.Folder → Rose before now
