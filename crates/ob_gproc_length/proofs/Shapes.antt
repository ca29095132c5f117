-- Numbers of lines, capped.
use Rattle.std.proofs.Common.{◌≡◌, ℕ, ◌+◌, ◌≤◌, refl, ◌∙◌, arith}
use Rattle.ob_types.specs.declared.value.Value.{Value}
use Rattle.ob_types.specs.declared.value.Value.TheVariants as literal
use Rattle.ob_scheme.specs.declared.want.Want.{Want}
use Rattle.ob_scheme.specs.declared.want.Want.TheVariants as want
use Rattle.ob_gstmt_labels.specs.Sizes.{text_size, constant_size}
use Rattle.ob_gproc_length.specs.Lengths.{capped}

-- a part, and lines behind it
pub one : (a k m : ℕ) → m ≡ capped a → capped (m + k) ≡ capped (a + k)
one a k m h = omega (arith, h)

-- two parts
pub parts : (a b m n : ℕ) → m ≡ capped a → n ≡ capped b → capped (m + n) ≡ capped (a + b)
parts a b m n h i = omega (arith, h, i)

-- two parts, and lines behind them
pub two : (a b k m n u : ℕ) → m ≡ capped a → n ≡ capped b → u ≡ capped (n + k) → capped (m + u) ≡ capped (a + (b + k))
two a b k m n u h i j = parts a (b + k) m u h (j ∙ one b k n i)

-- three parts, and lines behind them
pub three : (a b d k m n o u v : ℕ) → m ≡ capped a → n ≡ capped b → o ≡ capped d → u ≡ capped (o + k) → v ≡ capped (n + u) → capped (m + v) ≡ capped (a + (b + (d + k)))
three a b d k m n o u v h i l j e = parts a (b + (d + k)) m v h (e ∙ two b d k n o u i l j)

-- pieces with few lines
text_few : (w : Want) → text_size w ≤ 2
text_few want.Value = omega arith
text_few want.Place = omega arith
text_few (want.Room n) = omega arith
text_few want.PlaceAndTag = omega arith
text_few want.Tag = omega arith
text_few want.PlaceAndLength = omega arith
text_few want.Length = omega arith

pub few_of_constant : (w : Want) (v : Value) → constant_size w v ≡ capped (constant_size w v)
few_of_constant w (literal.Bool b) = refl
few_of_constant w (literal.Char n) = refl
few_of_constant w (literal.Int z) = refl
few_of_constant w (literal.Set n) = refl
few_of_constant w (literal.Str text) = omega (arith, text_few w)
few_of_constant w literal.Nil = refl
