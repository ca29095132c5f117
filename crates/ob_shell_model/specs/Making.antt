-- What a line `make M` does: once for every kind of world.
use Rattle.std.specs.Prelude.{◌≡◌, ℕ, List, [], ◌∷◌, ◌++◌, Bool, true, false, if◌then◌else◌, length, Result, Ok, Err, codes}
use Rattle.ob_make.specs.Seen.{Seen}
use Rattle.ob_make.specs.Order.{MakeEnd, Cycle, TooMany, order}
use Rattle.ob_make.specs.Stale.{Marks, turn_in}
use Rattle.ob_make.specs.Folder.{source_name}
use Rattle.ob_make.specs.declared.turns.Turn.{Turn}
use Rattle.ob_make.specs.declared.turns.Turn.TheVariants as turn
use Rattle.ob_shell_reports.specs.Texts.{refused, no_source, made_text, cycle_text, many_modules}
use Rattle.ob_shell_model.specs.Folds.{Part, Answer, part}

-- What a make has of a kind of worlds: what it sees in one, how uses are met, and what the compile of a module comes to.
pub record Maker (W C K : Type 0) : Type 0 where
  pub sees : W → Seen K
  pub marks : Marks K
  pub compile : W → List ℕ → Answer W C

-- what a make of m does of module x, by what a world has
abbrev pub turn_at : {W C K : Type 0} → Maker W C K → List ℕ → W → List ℕ → Turn
turn_at maker m w x = turn_in maker.marks (maker.sees w) m x

abbrev pub by_turn : {W C K : Type 0} → Maker W C K → Turn → W → List ℕ → Answer W C
by_turn maker turn.Stays w x = record { world = w; parts = []; refused = false }
by_turn maker turn.Compiles w x = maker.compile w x
by_turn maker turn.LacksSource w x = record { world = w; parts = part [] (refused (source_name x) no_source); refused = true }

-- THE TURN OF A MODULE: it stays, or it is compiled, or the line is refused
abbrev pub in_turn : {W C K : Type 0} → Maker W C K → List ℕ → W → List ℕ → Answer W C
in_turn maker m w x = by_turn maker (turn_at maker m w x) w x

-- these parts, and then those of another answer
abbrev pub behind : {W C : Type 0} → List (Part C) → Answer W C → Answer W C
behind ps a = record { world = a.world; parts = ps ++ a.parts; refused = a.refused }

-- nothing more is done behind what was refused
abbrev pub and_on : {W C : Type 0} → Answer W C → (W → Answer W C) → Answer W C
and_on a more = if a.refused then a else behind a.parts (more a.world)

-- the turns of these modules, one behind the other
unfoldable pub behind_turns : {W C K : Type 0} → Maker W C K → List ℕ → List (List ℕ) → W → Answer W C
behind_turns maker m [] w = record { world = w; parts = []; refused = false }
behind_turns maker m (x ∷ xs) w = and_on (in_turn maker m w x) (behind_turns maker m xs)

-- behind the last turn it is told how many modules were compiled: each of them has one part
abbrev pub made_so : {W C : Type 0} → List ℕ → Answer W C → Answer W C
made_so m a = and_on a (λ w. record { world = w; parts = part [] (made_text m (length a.parts)); refused = false })

abbrev pub end_text : List ℕ → MakeEnd → List ℕ
end_text m (Cycle a) = refused m (cycle_text a)
end_text m (TooMany count) = refused m many_modules

abbrev pub made_in : {W C K : Type 0} → Maker W C K → List ℕ → Result (List (List ℕ)) MakeEnd → W → Answer W C
made_in maker m (Ok xs) w = made_so m (behind_turns maker m xs w)
made_in maker m (Err e) w = record { world = w; parts = part [] (end_text m e); refused = true }

-- THE LINE `make m`: each module of the order has its turn
abbrev pub make_answer : {W C K : Type 0} → Maker W C K → List ℕ → W → Answer W C
make_answer maker m w = made_in maker m (order (maker.sees w) m) w

-- in a make of m from world w on, module x has its turn in world v
pub record HasTurn {W C K : Type 0} (maker : Maker W C K) (m : List ℕ) (w : W) (x : List ℕ) (v : W) : Type 0 where
  pub front : List (List ℕ)
  pub back : List (List ℕ)
  pub order : order (maker.sees w) m ≡ Ok (front ++ x ∷ back)
  pub goes_on : (behind_turns maker m front w).refused ≡ false
  pub world : (behind_turns maker m front w).world ≡ v
