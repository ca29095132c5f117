-- What further operators compute is what their instructions compute.
use Rattle.std.proofs.Common.{◌≡◌, ℕ, ◌<◌, List, ◌∷◌, Option, Some, None, ℤ, refl, sym, ap, ◌∙◌, subst, arith}
use Rattle.std.proofs.lemmas.Bool.Decides.{nat_tests, same_from_decides, Decides-int_eq}
use Rattle.std.specs.Prelude.{pos, negsuc, ◌+ℤ◌, unsigned_abs, int_lt, nat_lt, nat_le, nat_eq, Bool, true, false, not, ◌&&◌, if◌then◌else◌}
use Rattle.std.specs.Int.{int_rem_euclid}
use Rattle.std.specs.Ordering.{int_eq}
use Rattle.ob_trap.specs.declared.trap.Trap.TheVariants as trap
use Rattle.ob_types.specs.declared.typed.Width.{Width}
use Rattle.ob_types.specs.declared.typed.Width.TheVariants as width
use Rattle.ob_types.specs.declared.typed.Comparison.{Comparison}
use Rattle.ob_types.specs.declared.typed.Comparison.TheVariants as comparison
use Rattle.ob_types.specs.declared.typed.Compared.TheVariants as compared
use Rattle.ob_types.specs.declared.typed.Unary.{Unary}
use Rattle.ob_types.specs.declared.typed.Unary.TheVariants as unary
use Rattle.ob_types.specs.declared.typed.Binary.{Binary}
use Rattle.ob_types.specs.declared.typed.Binary.TheVariants as binary
use Rattle.ob_instr.specs.Image.{World}
use Rattle.ob_instr.specs.Rows.{Effect, Next, in_type, truth, is_within, on_element, set_from, has_element}
use Rattle.ob_instr.specs.Rows as rows
use Rattle.ob_meaning.specs.Values.{Form, Value, Truth, Character, Integer, SetOf, AnObject}
use Rattle.ob_types.specs.Numbers.{is_positive, is_in, is_odd, capital, remainder, shifted, element_in, holds}
use Rattle.ob_meaning.specs.Operators.{is_same, Computed, Is, unless, with_element_in, with_elements_in, agree_below}
use Rattle.law_simulation_relation.specs.Relation.{Fine, word_of, set_word}
use Rattle.law_simulation_relation.specs.Layout.{static_held}
use Rattle.law_simulation_relation.specs.Typed as typed
use Rattle.law_simulation_relation.specs.Typed.{integer, longint, boolean, char, set, IsEquality}
use Rattle.law_simulation_relation.specs.Stands.{unary_code, binary_code}
use Rattle.law_simulation_relation.proofs.Statements.{Activation}
use Rattle.law_simulation_relation.proofs.Moves.{effect}
use Rattle.law_simulation_relation.proofs.Values.{RowIs, Row2, UnaryIs, at_values, one_value, integer_is, is_integer, binary_row, unary_row, width_same}
use Rattle.law_simulation_relation.specs.Setting.{Setting, has_of}
use Rattle.law_simulation_operators.specs.Procedures.{ValuesNumbered}
use Rattle.law_simulation_operators.proofs.Numbers.{same_remainder, remainder_in, same_shift, same_odd, same_capital, capital_small, is_code, code_is}
use Rattle.law_simulation_operators.proofs.Sets.{range_set, element_set, has_element_is, or_set, and_set, xor_set, not_set, minus_set, words_agree, agree_words}
use Rattle.law_simulation_operators.proofs.Same.{pointers_same, procedures_same}

module _ (c : Setting) (os : List AnObject) (a : Activation c) (pc : ℕ) (w : World) (ops : List ℤ) where
  abbrev Fv : Form → Value → Type 0
  Fv t v = Fine c.program (has_of c) os t v

  abbrev Nv : Value → ℤ
  Nv v = word_of c.program (has_of c) c.img os v

  abbrev Is2 : Binary → Form → Value → Value → Type 0
  Is2 o t x y = Row2 c os a pc w ops o t x y

  abbrev Is1 : Unary → Form → Value → Type 0
  Is1 o t x = UnaryIs c os a pc w ops (unary_code o) o t x

  abbrev RIs : Effect → Computed → Form → Type 0
  RIs e o t = RowIs c os a pc w ops e o t

  -- NUMBERS

  remainder_row : (v : Width) (x y : ℤ) → is_in v y ≡ true → Is2 (binary.Remainder v) (integer v) (Integer x) (Integer y)
  remainder_row v x y h = go (int_lt (pos 0) y) refl
    where
      go : (b : Bool) → int_lt (pos 0) y ≡ b → RIs (if int_lt (pos 0) y then Next (int_rem_euclid x y ∷ ops) w else rows.Traps trap.NoDivisor (pos 0) w) (unless (int_lt (pos 0) y) trap.NoDivisor (Integer (remainder x (unsigned_abs y)))) (integer v)
      go b e = subst (λ b. RIs (if b then Next (int_rem_euclid x y ∷ ops) w else rows.Traps trap.NoDivisor (pos 0) w) (unless b trap.NoDivisor (Integer (remainder x (unsigned_abs y)))) (integer v)) (sym e) (by b y e h)
        where
          by : (b : Bool) (y : ℤ) → int_lt (pos 0) y ≡ b → is_in v y ≡ true → RIs (if b then Next (int_rem_euclid x y ∷ ops) w else rows.Traps trap.NoDivisor (pos 0) w) (unless b trap.NoDivisor (Integer (remainder x (unsigned_abs y)))) (integer v)
          by false y e h = refl
          by true (pos k) e h = let up : 0 < k = grind (arith, nat_tests) in (ap (λ z. Next (z ∷ ops) w) (same_remainder x k up), is_integer c os v (Integer (remainder x k)) (remainder x k, remainder_in v x k up h, refl))
          by true (negsuc k) e h = absurd (cc)

  ash_row : (x y : ℤ) → Is2 binary.Ash longint (Integer x) (Integer y)
  ash_row x y = go (is_in width.LongInt (shifted x y)) refl
    where
      full : in_type 4 (rows.shifted x y) ops w ≡ (if is_in width.LongInt (shifted x y) then Next (shifted x y ∷ ops) w else rows.Traps trap.Overflow (pos 0) w)
      full = ap (λ z. in_type 4 z ops w) (same_shift x y) ∙ ap (λ b. if b then Next (shifted x y ∷ ops) w else rows.Traps trap.Overflow (pos 0) w) (width_same width.LongInt (shifted x y))

      go : (b : Bool) → is_in width.LongInt (shifted x y) ≡ b → RIs (in_type 4 (rows.shifted x y) ops w) (unless b trap.Overflow (Integer (shifted x y))) longint
      go true f = (full ∙ ap (λ b. if b then Next (shifted x y ∷ ops) w else rows.Traps trap.Overflow (pos 0) w) f, (shifted x y, f, refl))
      go false f = full ∙ ap (λ b. if b then Next (shifted x y ∷ ops) w else rows.Traps trap.Overflow (pos 0) w) f

  odd_row : (x : ℤ) → Is1 unary.Odd boolean (Integer x)
  odd_row x = (ap (λ z. Next (z ∷ ops) w) (same_odd x), (is_odd x, refl))

  cap_row : (n : ℕ) → n < 256 → Is1 unary.Cap char (Character n)
  cap_row n lt = (ap (λ z. Next (z ∷ ops) w) (same_capital n), (capital n, capital_small n lt, refl))

  chr_row : (x : ℤ) → Is1 unary.Chr char (Integer x)
  chr_row x = go (is_within x (pos 256)) refl
    where
      go : (b : Bool) → is_within x (pos 256) ≡ b → RIs (if is_within x (pos 256) then Next (x ∷ ops) w else rows.Traps trap.Overflow (pos 0) w) (unless (is_positive (x +ℤ pos 1) && int_lt x (pos 256)) trap.Overflow (Character (unsigned_abs x))) char
      go b e = subst (λ b. RIs (if is_within x (pos 256) then Next (x ∷ ops) w else rows.Traps trap.Overflow (pos 0) w) (unless b trap.Overflow (Character (unsigned_abs x))) char) (sym (is_code x ∙ e)) (subst (λ d. RIs (if d then Next (x ∷ ops) w else rows.Traps trap.Overflow (pos 0) w) (unless b trap.Overflow (Character (unsigned_abs x))) char) (sym e) (by b e))
        where
          by : (b : Bool) → is_within x (pos 256) ≡ b → RIs (if b then Next (x ∷ ops) w else rows.Traps trap.Overflow (pos 0) w) (unless b trap.Overflow (Character (unsigned_abs x))) char
          by true e = let h = code_is x e in (ap (λ z. Next (z ∷ ops) w) h.0, (unsigned_abs x, h.1, refl))
          by false e = refl

  -- SETS

  set_row : (f : ℕ → Bool) (e : Effect) (z : ℤ) → e ≡ Next (z ∷ ops) w → z ≡ set_word f → RIs e (Is (SetOf f)) set
  set_row f e z h is = (h ∙ ap (λ z. Next (z ∷ ops) w) is, (f, refl))

  complement_row : (f : ℕ → Bool) → Is1 unary.Complement set (SetOf f)
  complement_row f = set_row _ _ _ refl (not_set f)

  union_row : (f g : ℕ → Bool) → Is2 binary.Union set (SetOf f) (SetOf g)
  union_row f g = set_row _ _ _ refl (or_set f g)

  difference_row : (f g : ℕ → Bool) → Is2 binary.Difference set (SetOf f) (SetOf g)
  difference_row f g = set_row _ _ _ refl (minus_set f g)

  intersection_row : (f g : ℕ → Bool) → Is2 binary.Intersection set (SetOf f) (SetOf g)
  intersection_row f g = set_row _ _ _ refl (and_set f g)

  symmetric_row : (f g : ℕ → Bool) → Is2 binary.SymmetricDifference set (SetOf f) (SetOf g)
  symmetric_row f g = set_row _ _ _ refl (xor_set f g)

  -- what depends on an element
  on_element_row : (z : ℤ) (k : ℕ → Effect) (v : ℕ → Value) (t : Form) → ((i : ℕ) → i < 32 → RIs (k i) (Is (v i)) t) → RIs (on_element z w k) (with_element_in (element_in z) v) t
  on_element_row (negsuc n) k v t h = refl
  on_element_row (pos n) k v t h = go (nat_lt n 32) refl
    where
      go : (b : Bool) → nat_lt n 32 ≡ b → RIs (if nat_lt n 32 then k n else rows.Traps trap.NoElement (pos 0) w) (with_element_in (if nat_lt n 32 then Some n else None) v) t
      go b e = subst (λ b. RIs (if b then k n else rows.Traps trap.NoElement (pos 0) w) (with_element_in (if b then Some n else None) v) t) (sym e) (by b e)
        where
          by : (b : Bool) → nat_lt n 32 ≡ b → RIs (if b then k n else rows.Traps trap.NoElement (pos 0) w) (with_element_in (if b then Some n else None) v) t
          by true e = h n (grind (arith, nat_tests))
          by false e = refl

  element_row : (x : ℤ) → Is1 unary.Element set (Integer x)
  element_row x = on_element_row x (λ i. Next (set_from i i ∷ ops) w) (λ i. SetOf (λ k. nat_eq k i)) set (λ i lt. set_row _ _ _ refl (element_set i lt))

  in_row : (x : ℤ) (f : ℕ → Bool) → Is2 binary.In boolean (Integer x) (SetOf f)
  in_row x f = on_element_row x (λ i. Next (truth (has_element i (set_word f)) ∷ ops) w) (λ i. Truth (f i)) boolean (λ i lt. (ap (λ b. Next (truth b ∷ ops) w) (has_element_is i f lt), (f i, refl)))

  range_row : (x y : ℤ) → Is2 binary.Range set (Integer x) (Integer y)
  range_row x y = first x
    where
      Pair : ℤ → Type 0
      Pair x = RIs (on_element x w (λ i. on_element y w (λ j. Next (set_from i j ∷ ops) w))) (with_elements_in (element_in x) (element_in y) (λ i j. SetOf (λ k. nat_le i k && nat_le k j))) set

      second : (i : ℕ) → i < 32 → RIs (on_element y w (λ j. Next (set_from i j ∷ ops) w)) (with_elements_in (Some i) (element_in y) (λ i j. SetOf (λ k. nat_le i k && nat_le k j))) set
      second i lt = by (element_in y) (on_element_row y (λ j. Next (set_from i j ∷ ops) w) (λ j. SetOf (λ k. nat_le i k && nat_le k j)) set (λ j lt2. set_row _ _ _ refl (range_set i j lt lt2)))
        where
          by : (o : Option ℕ) → RIs (on_element y w (λ j. Next (set_from i j ∷ ops) w)) (with_element_in o (λ j. SetOf (λ k. nat_le i k && nat_le k j))) set → RIs (on_element y w (λ j. Next (set_from i j ∷ ops) w)) (with_elements_in (Some i) o (λ i j. SetOf (λ k. nat_le i k && nat_le k j))) set
          by None h = h
          by (Some j) h = h

      first : (x : ℤ) → Pair x
      first (negsuc n) = refl
      first (pos n) = go (nat_lt n 32) refl
        where
          go : (b : Bool) → nat_lt n 32 ≡ b → Pair (pos n)
          go b e = subst (λ b. RIs (if b then on_element y w (λ j. Next (set_from n j ∷ ops) w) else rows.Traps trap.NoElement (pos 0) w) (with_elements_in (if b then Some n else None) (element_in y) (λ i j. SetOf (λ k. nat_le i k && nat_le k j))) set) (sym e) (by b e)
            where
              by : (b : Bool) → nat_lt n 32 ≡ b → RIs (if b then on_element y w (λ j. Next (set_from n j ∷ ops) w) else rows.Traps trap.NoElement (pos 0) w) (with_elements_in (if b then Some n else None) (element_in y) (λ i j. SetOf (λ k. nat_le i k && nat_le k j))) set
              by true e = second n (grind (arith, nat_tests))
              by false e = refl

  -- EQUALITIES

  equal_row : (r : Comparison) → IsEquality r → (x y : ℤ) (b : Bool) → int_eq x y ≡ b → RIs (effect c a pc (y ∷ x ∷ ops) w (binary_code (binary.Compare r compared.Pointer))) (Is (Truth (holds r b false))) boolean
  equal_row comparison.Equal q x y b e = (ap (λ b. Next (truth b ∷ ops) w) e, (_, refl))
  equal_row comparison.NotEqual q x y b e = (ap (λ b. Next (truth (not b) ∷ ops) w) e, (_, refl))
  equal_row comparison.Less q x y b e = absurd q
  equal_row comparison.LessEqual q x y b e = absurd q
  equal_row comparison.Greater q x y b e = absurd q
  equal_row comparison.GreaterEqual q x y b e = absurd q

  sets_row : (r : Comparison) → IsEquality r → (f g : ℕ → Bool) → Is2 (binary.Compare r compared.Set) boolean (SetOf f) (SetOf g)
  sets_row r q f g = equal_row r q (set_word f) (set_word g) (agree_below 32 f g) (same_from_decides _ _ (Decides-int_eq _ _) ((λ e. agree_words f g e), (λ e. words_agree f g e)))

  -- ALL

  abbrev BinaryOk : Binary → Form → Form → Form → Type 0
  BinaryOk o t u r = typed.BinaryOk c.program (has_of c) a.unit (static_held c.program a.procedure) a.procedure.result o t u r

  abbrev input : Unary → Form
  input o = typed.unary_in c.program (has_of c) a.unit (static_held c.program a.procedure) a.procedure.result o

  abbrev output : Unary → Form
  output o = typed.unary_out c.program (has_of c) a.unit (static_held c.program a.procedure) a.procedure.result o

  pub any_binary_row : (o : Binary) (t u r : Form) → ValuesNumbered c → BinaryOk o t u r → (x y : Value) → Fv t x → Fv u y → Is2 o r x y
  any_binary_row _ _ _ _ nu (typed.sum v) x y h k = binary_row c os a pc w ops _ _ _ _ tt (typed.sum v) x y h k
  any_binary_row _ _ _ _ nu (typed.difference v) x y h k = binary_row c os a pc w ops _ _ _ _ tt (typed.difference v) x y h k
  any_binary_row _ _ _ _ nu (typed.product v) x y h k = binary_row c os a pc w ops _ _ _ _ tt (typed.product v) x y h k
  any_binary_row _ _ _ _ nu (typed.quotient v) x y h k = binary_row c os a pc w ops _ _ _ _ tt (typed.quotient v) x y h k
  any_binary_row _ _ _ _ nu (typed.remainder v) x y h k = let i = integer_is c os v x h in let j = integer_is c os v y k in at_values c os a pc w ops (binary.Remainder v) (integer v) x y _ _ i.2 j.2 (remainder_row v i.0 j.0 j.1)
  any_binary_row _ _ _ _ nu typed.union x y h k = at_values c os a pc w ops binary.Union set x y _ _ h.1 k.1 (union_row h.0 k.0)
  any_binary_row _ _ _ _ nu typed.without x y h k = at_values c os a pc w ops binary.Difference set x y _ _ h.1 k.1 (difference_row h.0 k.0)
  any_binary_row _ _ _ _ nu typed.meet x y h k = at_values c os a pc w ops binary.Intersection set x y _ _ h.1 k.1 (intersection_row h.0 k.0)
  any_binary_row _ _ _ _ nu typed.either x y h k = at_values c os a pc w ops binary.SymmetricDifference set x y _ _ h.1 k.1 (symmetric_row h.0 k.0)
  any_binary_row _ _ _ _ nu typed.range x y h k = at_values c os a pc w ops binary.Range set x y _ _ h.2 k.2 (range_row h.0 k.0)
  any_binary_row _ _ _ _ nu typed.inside x y h k = at_values c os a pc w ops binary.In boolean x y _ _ h.2 k.1 (in_row h.0 k.0)
  any_binary_row _ _ _ _ nu typed.ash x y h k = at_values c os a pc w ops binary.Ash longint x y _ _ h.2 k.2 (ash_row h.0 k.0)
  any_binary_row _ _ _ _ nu (typed.integers r) x y h k = binary_row c os a pc w ops _ _ _ _ tt (typed.integers r) x y h k
  any_binary_row _ _ _ _ nu (typed.chars r) x y h k = binary_row c os a pc w ops _ _ _ _ tt (typed.chars r) x y h k
  any_binary_row _ _ _ _ nu (typed.booleans r q) x y h k = binary_row c os a pc w ops _ _ _ _ tt (typed.booleans r q) x y h k
  any_binary_row _ _ _ _ nu (typed.sets r q) x y h k = at_values c os a pc w ops (binary.Compare r compared.Set) boolean x y _ _ h.1 k.1 (sets_row r q h.0 k.0)
  any_binary_row _ _ _ _ nu (typed.pointers r t u q) x y h k = equal_row r q (Nv x) (Nv y) (is_same x y) (pointers_same c os t u x y h k)
  any_binary_row _ _ _ _ nu (typed.procedures r t u q) x y h k = equal_row r q (Nv x) (Nv y) (is_same x y) (procedures_same c os nu t u x y h k)

  pub any_unary_row : (o : Unary) → (x : Value) → Fv (input o) x → Is1 o (output o) x
  any_unary_row (unary.Negate v) x h = unary_row c os a pc w ops (unary.Negate v) tt x h
  any_unary_row unary.Not x h = unary_row c os a pc w ops unary.Not tt x h
  any_unary_row unary.Complement x h = one_value c os a pc w ops unary.Complement set x _ h.1 (complement_row h.0)
  any_unary_row (unary.Abs v) x h = unary_row c os a pc w ops (unary.Abs v) tt x h
  any_unary_row unary.Cap x h = one_value c os a pc w ops unary.Cap char x _ h.2 (cap_row h.0 h.1)
  any_unary_row unary.Chr x h = one_value c os a pc w ops unary.Chr char x _ h.2 (chr_row h.0)
  any_unary_row (unary.Long v) x h = unary_row c os a pc w ops (unary.Long v) tt x h
  any_unary_row unary.Odd x h = one_value c os a pc w ops unary.Odd boolean x _ h.2 (odd_row h.0)
  any_unary_row unary.Ord x h = unary_row c os a pc w ops unary.Ord tt x h
  any_unary_row (unary.Short v) x h = unary_row c os a pc w ops (unary.Short v) tt x h
  any_unary_row unary.Element x h = one_value c os a pc w ops unary.Element set x _ h.2 (element_row h.0)
