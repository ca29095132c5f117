-- What operators compute is what their instructions compute.
use Rattle.std.proofs.Common.{◌≤◌, ◌≡◌, ℕ, ◌<◌, List, ◌∷◌, Option, Some, None, ℤ, refl, sym, ap, ◌∙◌, subst, arith, inl, inr, ⊎_elim}
use Rattle.std.proofs.lemmas.Bool.Decides.{nat_tests}
use Rattle.std.specs.Prelude.{pos, ◌/◌, negsuc, ◌+ℤ◌, ◌-ℤ◌, ◌*ℤ◌, neg_ℤ, unsigned_abs, int_lt, nat_lt, nat_eq, Bool, true, false, not, ◌||◌, if◌then◌else◌}
use Rattle.std.proofs.Common.{Less, Equal, Greater}
use Rattle.std.proofs.Math.Nat.{div-le_self}
use Rattle.std.specs.Int.{int_div_euclid}
use Rattle.std.specs.Ordering.{is_eq, int_eq}
use Rattle.std.specs.Prelude.{cond}
use Rattle.ob_trap.specs.declared.trap.Trap.TheVariants as trap
use Rattle.ob_types.specs.declared.types.Basic.TheVariants as basic
use Rattle.ob_types.specs.declared.typed.Width.{Width}
use Rattle.ob_types.specs.declared.typed.Width.TheVariants as width
use Rattle.ob_types.specs.declared.typed.Comparison.{Comparison}
use Rattle.ob_types.specs.declared.typed.Comparison.TheVariants as comparison
use Rattle.ob_types.specs.declared.typed.Compared.TheVariants as compared
use Rattle.ob_types.specs.declared.typed.Unary.{Unary}
use Rattle.ob_types.specs.declared.typed.Unary.TheVariants as unary
use Rattle.ob_types.specs.declared.typed.Binary.{Binary}
use Rattle.ob_types.specs.declared.typed.Binary.TheVariants as binary
use Rattle.ob_instr.specs.declared.instr.Instr.{Instr}
use Rattle.ob_instr.specs.Image.{World}
use Rattle.ob_instr.specs.Rows.{Effect, Next, Goto, in_width, in_type, truth, is_within, is_zero}
use Rattle.ob_instr.specs.Rows as rows
use Rattle.ob_meaning.specs.Values.{Form, BasicForm, Value, Truth, Character, Integer, AnObject}
use Rattle.ob_types.specs.Numbers.{quotient, is_in, holds}
use Rattle.ob_meaning.specs.Operators.{Computed, Is, Traps, unless, integer_in, compute, compute_both}
use Rattle.law_simulation_relation.specs.Relation.{Fine, word_of, IsInteger, Sub, itself, extended, opened, Scalar}
use Rattle.law_simulation_relation.specs.Layout.{static_held}
use Rattle.law_simulation_relation.specs.Typed as typed
use Rattle.law_simulation_relation.specs.Typed.{integer, longint, boolean, char, set, Within, same, short, shorter, middle, IsEquality}
use Rattle.law_simulation_relation.specs.Stands.{bytes, unary_code, binary_code}
use Rattle.law_simulation_relation.proofs.Statements.{Activation}
use Rattle.law_simulation_relation.proofs.Moves.{effect}
use Rattle.law_simulation_relation.specs.Setting.{Setting, has_of}
use Rattle.law_simulation_relation.specs.Plain.{PlainBinary, PlainUnary}

-- ORDER

asym : (x y : ℤ) → int_lt x y ≡ true → int_lt y x ≡ true → ⊥
asym (pos m) (pos n) e f = grind (arith, nat_tests)
asym (pos m) (negsuc n) e f = absurd (cc)
asym (negsuc m) (pos n) e f = absurd (cc)
asym (negsuc m) (negsuc n) e f = grind (arith, nat_tests)

abbrev eq_by : Bool → Bool → Bool
eq_by a b = is_eq (cond a Less (cond b Greater Equal))

at_most : (x y : ℤ) → not (int_lt y x) ≡ (int_eq x y || int_lt x y)
at_most x y = go (int_lt x y) (int_lt y x) refl refl
  where
    go : (a b : Bool) → int_lt x y ≡ a → int_lt y x ≡ b → not b ≡ (eq_by a b || a)
    go false false e f = refl
    go false true e f = refl
    go true false e f = refl
    go true true e f = absurd (asym x y e f)

above : (x y : ℤ) → int_lt y x ≡ not (int_eq x y || int_lt x y)
above x y = go (int_lt x y) (int_lt y x) refl refl
  where
    go : (a b : Bool) → int_lt x y ≡ a → int_lt y x ≡ b → b ≡ not (eq_by a b || a)
    go false false e f = refl
    go false true e f = refl
    go true false e f = refl
    go true true e f = absurd (asym x y e f)

pub nat_equal : (m n : ℕ) → int_eq (pos m) (pos n) ≡ nat_eq m n
nat_equal m n = go (nat_lt m n) (nat_lt n m) refl refl
  where
    go : (a b : Bool) → nat_lt m n ≡ a → nat_lt n m ≡ b → eq_by a b ≡ nat_eq m n
    go false false e f = grind (arith, nat_tests)
    go false true e f = grind (arith, nat_tests)
    go true false e f = grind (arith, nat_tests)
    go true true e f = grind (arith, nat_tests)

-- WIDTHS

pub width_same : (v : Width) (z : ℤ) → in_width (bytes v) z ≡ is_in v z
width_same width.ShortInt (pos n) = refl
width_same width.ShortInt (negsuc n) = refl
width_same width.Integer (pos n) = refl
width_same width.Integer (negsuc n) = refl
width_same width.LongInt (pos n) = refl
width_same width.LongInt (negsuc n) = refl

within_in : (v w : Width) → Within v w → (z : ℤ) → is_in v z ≡ true → is_in w z ≡ true
within_in _ _ same z e = e
within_in _ _ short (pos n) e = grind (arith, nat_tests)
within_in _ _ short (negsuc n) e = grind (arith, nat_tests)
within_in _ _ shorter (pos n) e = grind (arith, nat_tests)
within_in _ _ shorter (negsuc n) e = grind (arith, nat_tests)
within_in _ _ middle (pos n) e = grind (arith, nat_tests)
within_in _ _ middle (negsuc n) e = grind (arith, nat_tests)

pub sub_scalar : (u t : Form) → Sub u t → Scalar t → u ≡ t
sub_scalar _ _ itself sc = refl
sub_scalar _ _ (extended more gs) sc = absurd sc
sub_scalar _ _ (opened n) sc = absurd sc

module _ (c : Setting) (os : List AnObject) where
  abbrev F : Form → Value → Type 0
  F t v = Fine c.program (has_of c) os t v

  abbrev N : Value → ℤ
  N v = word_of c.program (has_of c) c.img os v

  pub integer_is : (w : Width) (v : Value) → F (integer w) v → IsInteger w v
  integer_is width.ShortInt v h = h
  integer_is width.Integer v h = h
  integer_is width.LongInt v h = h

  pub is_integer : (w : Width) (v : Value) → IsInteger w v → F (integer w) v
  is_integer width.ShortInt v h = h
  is_integer width.Integer v h = h
  is_integer width.LongInt v h = h

  module _ (a : Activation c) where
    abbrev Widens : Form → Form → Type 0
    Widens t u = typed.Widens c.program (has_of c) a.unit (static_held c.program a.procedure) a.procedure.result t u

    pub widen : (t u : Form) (v : Value) → Widens t u → F t v → F u v
    widen _ _ v typed.itself h = h
    widen _ _ v (typed.integers k w le) h = let i = integer_is k v h in is_integer w v (i.0, within_in k w le i.0 i.1, i.2)
    widen _ _ v (typed.pointers t u f g) h = ⊎_elim (λ e. inl e) (λ k. inr (k.0, k.1, k.2, f _ k.3, g _ k.4)) h
    widen _ _ v (typed.procedures s t f) h = ⊎_elim (λ e. inl e) (λ k. inr (k.0, k.1, f k.0 k.2)) h

    module _ (pc : ℕ) (w : World) (ops : List ℤ) where
      abbrev R : Instr → List ℤ → Effect
      R i l = effect c a pc l w i

      -- an instruction gives the value, or traps alike
      abbrev pub RowIs : Effect → Computed → Form → Type 0
      RowIs e (Is v) t = (e ≡ Next (N v ∷ ops) w) × F t v
      RowIs e (Traps k) t = e ≡ rows.Traps k (pos 0) w

      in_type_row : (v : Width) (z : ℤ) (e : Effect) → e ≡ in_type (bytes v) z ops w → RowIs e (integer_in v z) (integer v)
      in_type_row v z e h = go (is_in v z) refl
        where
          full : e ≡ (if is_in v z then Next (z ∷ ops) w else rows.Traps trap.Overflow (pos 0) w)
          full = h ∙ ap (λ b. if b then Next (z ∷ ops) w else rows.Traps trap.Overflow (pos 0) w) (width_same v z)

          go : (b : Bool) → is_in v z ≡ b → RowIs e (unless b trap.Overflow (Integer z)) (integer v)
          go true f = (full ∙ ap (λ b. if b then Next (z ∷ ops) w else rows.Traps trap.Overflow (pos 0) w) f, is_integer v (Integer z) (z, f, refl))
          go false f = full ∙ ap (λ b. if b then Next (z ∷ ops) w else rows.Traps trap.Overflow (pos 0) w) f

      abbrev pub Row2 : Binary → Form → Value → Value → Type 0
      Row2 o t x y = RowIs (R (binary_code o) (N y ∷ N x ∷ ops)) (compute_both o x y) t

      pub at_values : (o : Binary) (t : Form) (x y x2 y2 : Value) → x ≡ x2 → y ≡ y2 → Row2 o t x2 y2 → Row2 o t x y
      at_values o t x y x2 y2 e f h = subst (λ x. Row2 o t x y) (sym e) (subst (λ y. Row2 o t x2 y) (sym f) h)

      sum_row : (v : Width) (x y : ℤ) → Row2 (binary.Add v) (integer v) (Integer x) (Integer y)
      sum_row width.ShortInt x y = in_type_row width.ShortInt (x +ℤ y) _ refl
      sum_row width.Integer x y = in_type_row width.Integer (x +ℤ y) _ refl
      sum_row width.LongInt x y = in_type_row width.LongInt (x +ℤ y) _ refl

      difference_row : (v : Width) (x y : ℤ) → Row2 (binary.Subtract v) (integer v) (Integer x) (Integer y)
      difference_row width.ShortInt x y = in_type_row width.ShortInt (x -ℤ y) _ refl
      difference_row width.Integer x y = in_type_row width.Integer (x -ℤ y) _ refl
      difference_row width.LongInt x y = in_type_row width.LongInt (x -ℤ y) _ refl

      product_row : (v : Width) (x y : ℤ) → Row2 (binary.Multiply v) (integer v) (Integer x) (Integer y)
      product_row width.ShortInt x y = in_type_row width.ShortInt (x *ℤ y) _ refl
      product_row width.Integer x y = in_type_row width.Integer (x *ℤ y) _ refl
      product_row width.LongInt x y = in_type_row width.LongInt (x *ℤ y) _ refl

      -- DIV, of a positive divisor
      less_in : (m n : ℕ) (v : Width) → m ≤ n → is_in v (pos n) ≡ true → is_in v (pos m) ≡ true
      less_in m n width.ShortInt le e = grind (arith, nat_tests)
      less_in m n width.Integer le e = grind (arith, nat_tests)
      less_in m n width.LongInt le e = grind (arith, nat_tests)

      less_in_neg : (m n : ℕ) (v : Width) → m ≤ n → is_in v (negsuc n) ≡ true → is_in v (negsuc m) ≡ true
      less_in_neg m n width.ShortInt le e = grind (arith, nat_tests)
      less_in_neg m n width.Integer le e = grind (arith, nat_tests)
      less_in_neg m n width.LongInt le e = grind (arith, nat_tests)

      quotient_in : (v : Width) (x : ℤ) (k : ℕ) → is_in v x ≡ true → is_in v (quotient x k) ≡ true
      quotient_in v (pos n) k e = less_in (n / k) n v (div-le_self n k) e
      quotient_in v (negsuc n) k e = less_in_neg (n / k) n v (div-le_self n k) e

      same_quotient : (x : ℤ) (k : ℕ) → int_div_euclid x (pos k) ≡ quotient x k
      same_quotient (pos n) k = refl
      same_quotient (negsuc n) k = refl

      quotient_row : (v : Width) (x y : ℤ) → is_in v x ≡ true → Row2 (binary.Quotient v) (integer v) (Integer x) (Integer y)
      quotient_row v x y h = go (int_lt (pos 0) y) refl
        where
          go : (b : Bool) → int_lt (pos 0) y ≡ b → RowIs (if int_lt (pos 0) y then Next (int_div_euclid x y ∷ ops) w else rows.Traps trap.NoDivisor (pos 0) w) (unless (int_lt (pos 0) y) trap.NoDivisor (Integer (quotient x (unsigned_abs y)))) (integer v)
          go b e = subst (λ b. RowIs (if b then Next (int_div_euclid x y ∷ ops) w else rows.Traps trap.NoDivisor (pos 0) w) (unless b trap.NoDivisor (Integer (quotient x (unsigned_abs y)))) (integer v)) (sym e) (by b y e)
            where
              by : (b : Bool) (y : ℤ) → int_lt (pos 0) y ≡ b → RowIs (if b then Next (int_div_euclid x y ∷ ops) w else rows.Traps trap.NoDivisor (pos 0) w) (unless b trap.NoDivisor (Integer (quotient x (unsigned_abs y)))) (integer v)
              by false y e = refl
              by true (pos k) e = (ap (λ z. Next (z ∷ ops) w) (same_quotient x k), is_integer v (Integer (quotient x k)) (quotient x k, quotient_in v x k h, refl))
              by true (negsuc k) e = absurd (cc)

      -- RELATIONS

      cmp_row : (r : Comparison) (x y : ℤ) → R (binary_code (binary.Compare r compared.Integer)) (y ∷ x ∷ ops) ≡ Next (truth (holds r (int_eq x y) (int_lt x y)) ∷ ops) w
      cmp_row comparison.Equal x y = refl
      cmp_row comparison.NotEqual x y = refl
      cmp_row comparison.Less x y = refl
      cmp_row comparison.LessEqual x y = ap (λ b. Next (truth b ∷ ops) w) (at_most x y)
      cmp_row comparison.Greater x y = ap (λ b. Next (truth b ∷ ops) w) (above x y)
      cmp_row comparison.GreaterEqual x y = refl

      integers_row : (r : Comparison) (x y : ℤ) → Row2 (binary.Compare r compared.Integer) boolean (Integer x) (Integer y)
      integers_row r x y = (cmp_row r x y, (holds r (int_eq x y) (int_lt x y), refl))

      chars_row : (r : Comparison) (m n : ℕ) → Row2 (binary.Compare r compared.Char) boolean (Character m) (Character n)
      chars_row r m n = (cmp_row r (pos m) (pos n) ∙ ap (λ b. Next (truth (holds r b (nat_lt m n)) ∷ ops) w) (nat_equal m n), (holds r (nat_eq m n) (nat_lt m n), refl))

      truths : (x y : Bool) → int_eq (truth x) (truth y) ≡ (if x then y else not y)
      truths true true = refl
      truths true false = refl
      truths false true = refl
      truths false false = refl

      booleans_row : (r : Comparison) → IsEquality r → (x y : Bool) → Row2 (binary.Compare r compared.Boolean) boolean (Truth x) (Truth y)
      booleans_row comparison.Equal q x y = (ap (λ b. Next (truth b ∷ ops) w) (truths x y), (_, refl))
      booleans_row comparison.NotEqual q x y = (ap (λ b. Next (truth (not b) ∷ ops) w) (truths x y), (_, refl))
      booleans_row comparison.Less q x y = absurd q
      booleans_row comparison.LessEqual q x y = absurd q
      booleans_row comparison.Greater q x y = absurd q
      booleans_row comparison.GreaterEqual q x y = absurd q

      -- ONE OPERAND

      abbrev pub UnaryIs : Option Instr → Unary → Form → Value → Type 0
      UnaryIs None o t x = (v : Value) × (compute o x ≡ Is v) × (N v ≡ N x) × F t v
      UnaryIs (Some i) o t x = RowIs (R i (N x ∷ ops)) (compute o x) t

      negate_row : (v : Width) (x : ℤ) → UnaryIs (unary_code (unary.Negate v)) (unary.Negate v) (integer v) (Integer x)
      negate_row width.ShortInt x = in_type_row width.ShortInt (neg_ℤ x) _ refl
      negate_row width.Integer x = in_type_row width.Integer (neg_ℤ x) _ refl
      negate_row width.LongInt x = in_type_row width.LongInt (neg_ℤ x) _ refl

      abs_row : (v : Width) (x : ℤ) → UnaryIs (unary_code (unary.Abs v)) (unary.Abs v) (integer v) (Integer x)
      abs_row width.ShortInt x = in_type_row width.ShortInt (pos (unsigned_abs x)) _ refl
      abs_row width.Integer x = in_type_row width.Integer (pos (unsigned_abs x)) _ refl
      abs_row width.LongInt x = in_type_row width.LongInt (pos (unsigned_abs x)) _ refl

      short_row : (v : Width) (x : ℤ) → UnaryIs (unary_code (unary.Short v)) (unary.Short v) (integer v) (Integer x)
      short_row width.ShortInt x = in_type_row width.ShortInt x _ refl
      short_row width.Integer x = in_type_row width.Integer x _ refl
      short_row width.LongInt x = in_type_row width.LongInt x _ refl

      not_row : (x : Bool) → UnaryIs (unary_code unary.Not) unary.Not boolean (Truth x)
      not_row true = (refl, (false, refl))
      not_row false = (refl, (true, refl))

      below_256 : (n : ℕ) → n < 256 → is_in width.Integer (pos n) ≡ true
      below_256 n lt = grind (arith, nat_tests)

      ord_row : (n : ℕ) → n < 256 → UnaryIs None unary.Ord (BasicForm basic.Integer) (Character n)
      ord_row n lt = (Integer (pos n), refl, refl, (pos n, below_256 n lt, refl))

      pub one_value : (o : Unary) (t : Form) (x x2 : Value) → x ≡ x2 → UnaryIs (unary_code o) o t x2 → UnaryIs (unary_code o) o t x
      one_value o t x x2 e h = subst (λ x. UnaryIs (unary_code o) o t x) (sym e) h

      abbrev BinaryOk : Binary → Form → Form → Form → Type 0
      BinaryOk o t u r = typed.BinaryOk c.program (has_of c) a.unit (static_held c.program a.procedure) a.procedure.result o t u r

      abbrev input : Unary → Form
      input o = typed.unary_in c.program (has_of c) a.unit (static_held c.program a.procedure) a.procedure.result o

      abbrev output : Unary → Form
      output o = typed.unary_out c.program (has_of c) a.unit (static_held c.program a.procedure) a.procedure.result o

      pub binary_row : (o : Binary) (t u r : Form) → PlainBinary o → BinaryOk o t u r → (x y : Value) → F t x → F u y → Row2 o r x y
      binary_row _ _ _ _ pl (typed.sum v) x y h k = let i = integer_is v x h in let j = integer_is v y k in at_values (binary.Add v) (integer v) x y _ _ i.2 j.2 (sum_row v i.0 j.0)
      binary_row _ _ _ _ pl (typed.difference v) x y h k = let i = integer_is v x h in let j = integer_is v y k in at_values (binary.Subtract v) (integer v) x y _ _ i.2 j.2 (difference_row v i.0 j.0)
      binary_row _ _ _ _ pl (typed.product v) x y h k = let i = integer_is v x h in let j = integer_is v y k in at_values (binary.Multiply v) (integer v) x y _ _ i.2 j.2 (product_row v i.0 j.0)
      binary_row _ _ _ _ pl (typed.quotient v) x y h k = let i = integer_is v x h in let j = integer_is v y k in at_values (binary.Quotient v) (integer v) x y _ _ i.2 j.2 (quotient_row v i.0 j.0 i.1)
      binary_row _ _ _ _ pl (typed.remainder v) x y h k = absurd pl
      binary_row _ _ _ _ pl typed.union x y h k = absurd pl
      binary_row _ _ _ _ pl typed.without x y h k = absurd pl
      binary_row _ _ _ _ pl typed.meet x y h k = absurd pl
      binary_row _ _ _ _ pl typed.either x y h k = absurd pl
      binary_row _ _ _ _ pl typed.range x y h k = absurd pl
      binary_row _ _ _ _ pl typed.inside x y h k = absurd pl
      binary_row _ _ _ _ pl typed.ash x y h k = absurd pl
      binary_row _ _ _ _ pl (typed.integers r) x y h k = at_values (binary.Compare r compared.Integer) boolean x y _ _ h.2 k.2 (integers_row r h.0 k.0)
      binary_row _ _ _ _ pl (typed.chars r) x y h k = at_values (binary.Compare r compared.Char) boolean x y _ _ h.2 k.2 (chars_row r h.0 k.0)
      binary_row _ _ _ _ pl (typed.booleans r q) x y h k = at_values (binary.Compare r compared.Boolean) boolean x y _ _ h.1 k.1 (booleans_row r q h.0 k.0)
      binary_row _ _ _ _ pl (typed.sets r q) x y h k = absurd pl
      binary_row _ _ _ _ pl (typed.pointers r t u q) x y h k = absurd pl
      binary_row _ _ _ _ pl (typed.procedures r t u q) x y h k = absurd pl

      pub unary_row : (o : Unary) → PlainUnary o → (x : Value) → F (input o) x → UnaryIs (unary_code o) o (output o) x
      unary_row (unary.Negate v) pl x h = let i = integer_is v x h in one_value (unary.Negate v) (integer v) x _ i.2 (negate_row v i.0)
      unary_row unary.Not pl x h = one_value unary.Not boolean x _ h.1 (not_row h.0)
      unary_row unary.Complement pl x h = absurd pl
      unary_row (unary.Abs v) pl x h = let i = integer_is v x h in one_value (unary.Abs v) (integer v) x _ i.2 (abs_row v i.0)
      unary_row unary.Cap pl x h = absurd pl
      unary_row unary.Chr pl x h = absurd pl
      unary_row (unary.Long v) pl x h = (x, refl, refl, h)
      unary_row unary.Odd pl x h = absurd pl
      unary_row unary.Ord pl x h = one_value unary.Ord (BasicForm basic.Integer) x (Character h.0) h.2 (ord_row h.0 h.1)
      unary_row (unary.Short v) pl x h = one_value (unary.Short v) (integer v) x _ h.2 (short_row v h.0)
      unary_row unary.Element pl x h = absurd pl
