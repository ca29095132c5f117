-- What a print into a sink does.
use Rattle.std.specs.Prelude.{◌≡◌, ℕ, ◌≤◌, List, [], ◌∷◌, ◌++◌, Bool, true, Result, Ok, Err}
use Rattle.std.specs.Borrow.{Bor}
use Rattle.ob_io.specs.Io.{AddsFront, Rose}
use Rattle.ob_shell_reports.specs.declared.stop.Stop.{Stop}
use Rattle.ob_shell_reports.specs.declared.stop.Stop.TheVariants.{Sink, Folder, Memory}

-- texts, one behind the other
abbrev pub all_of : List (Bor (List ℕ)) → List ℕ
all_of [] = []
all_of (t ∷ []) = t.now
all_of (t ∷ u ∷ us) = t.now ++ all_of (u ∷ us)

-- texts, and a text behind them
abbrev pub before : List (Bor (List ℕ)) → List ℕ → List ℕ
before [] more = more
before (t ∷ ts) more = t.now ++ before ts more

-- a text was printed, or at a fault of the sink a front of it
abbrev pub PrintDoes : Bool → List ℕ → List ℕ → List ℕ → Bool → Result Bool Stop → Type 0
PrintDoes told old new text value (Ok r) = (told ≡ true → new ≡ old ++ text) × (r ≡ value)
PrintDoes told old new text value (Err Sink) = told ≡ true → AddsFront old new text
PrintDoes told old new text value (Err Folder) = ⊥
PrintDoes told old new text value (Err Memory) = ⊥

-- the fault of the sink is answered only where its count rose
pub record SinkCause {T : Type 0} (old new : ℕ) (result : Result T Stop) : Type 0 where
  pub later : old ≤ new
  pub failed : result ≡ Err Sink → Rose old new
  pub no_folder : result ≡ Err Folder → ⊥
