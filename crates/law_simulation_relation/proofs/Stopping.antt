-- Which operations can trap or spend a turn.
use Rattle.std.proofs.Common.{◌≡◌, ℕ, List, [], ◌∷◌, ℤ, refl}
use Rattle.std.specs.Prelude.{false, not}
use Rattle.std.specs.Int.{w32, int_rem_euclid, int_bit_and, int_bit_or, int_bit_xor, int_bit_not}
use Rattle.std.specs.Prelude.{pos, int_lt}
use Rattle.std.specs.Ordering.{int_eq}
use Rattle.ob_instr.specs.declared.opcode.Opcode.{Opcode}
use Rattle.ob_instr.specs.declared.opcode.Opcode.TheVariants as op
use Rattle.ob_instr.specs.Image.{ModuleImage, Image, World}
use Rattle.ob_instr.specs.Rows.{Effect, Next, Traps, Spends, on_one, on_two, is_zero, truth, capital}
use Rattle.ob_instr.specs.Table.{row}
use Rattle.law_simulation_relation.specs.Stands.{never_stops}

-- it traps, or no turn is left
abbrev pub Stopped : Effect → Type 0
Stopped (Traps kind number w) = Unit {0}
Stopped (Spends w) = Unit {0}
Stopped e = ⊥

of_one : (f : ℤ → ℤ) (ops : List ℤ) (w : World) → Stopped (on_one ops (λ v rest. Next (f v ∷ rest) w)) → ⊥
of_one f [] w s = s
of_one f (x ∷ ops) w s = s

of_two : (f : ℤ → ℤ → ℤ) (ops : List ℤ) (w : World) → Stopped (on_two ops (λ x y rest. Next (f x y ∷ rest) w)) → ⊥
of_two f [] w s = s
of_two f (x ∷ []) w s = s
of_two f (y ∷ x ∷ ops) w s = s

pub stops_only : (img : Image) (u : ModuleImage) (m p fb pc : ℕ) (o : Opcode) (a b : ℤ) (ops : List ℤ) (w : World) → Stopped (row img u m p fb pc o a b ops w) → never_stops o ≡ false
stops_only img u m p fb pc op.Not a b ops w s = absurd (of_one (λ v. truth (is_zero v)) ops w s)
stops_only img u m p fb pc op.Compl a b ops w s = absurd (of_one (λ v. int_bit_not w32 v) ops w s)
stops_only img u m p fb pc op.Cap a b ops w s = absurd (of_one capital ops w s)
stops_only img u m p fb pc op.Odd a b ops w s = absurd (of_one (λ v. int_rem_euclid v (pos 2)) ops w s)
stops_only img u m p fb pc op.Union a b ops w s = absurd (of_two (λ x y. int_bit_or w32 x y) ops w s)
stops_only img u m p fb pc op.Minus a b ops w s = absurd (of_two (λ x y. int_bit_and w32 x (int_bit_not w32 y)) ops w s)
stops_only img u m p fb pc op.Meet a b ops w s = absurd (of_two (λ x y. int_bit_and w32 x y) ops w s)
stops_only img u m p fb pc op.Xor a b ops w s = absurd (of_two (λ x y. int_bit_xor w32 x y) ops w s)
stops_only img u m p fb pc op.Eq a b ops w s = absurd (of_two (λ x y. truth (int_eq x y)) ops w s)
stops_only img u m p fb pc op.Ne a b ops w s = absurd (of_two (λ x y. truth (not (int_eq x y))) ops w s)
stops_only img u m p fb pc op.Lt a b ops w s = absurd (of_two (λ x y. truth (int_lt x y)) ops w s)
stops_only img u m p fb pc op.Le a b ops w s = absurd (of_two (λ x y. truth (not (int_lt y x))) ops w s)
stops_only img u m p fb pc op.Gt a b ops w s = absurd (of_two (λ x y. truth (int_lt y x)) ops w s)
stops_only img u m p fb pc op.Ge a b ops w s = absurd (of_two (λ x y. truth (not (int_lt x y))) ops w s)
stops_only img u m p fb pc o a b ops w s = refl
