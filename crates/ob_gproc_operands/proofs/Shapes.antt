-- Largest numbers of operands, capped.
use Rattle.std.specs.Prelude.{max, min, Option, Some, None}
use Rattle.std.proofs.Common.{◌≡◌, ℕ, ◌+◌, ◌≤◌, refl, sym, ap, ◌∙◌, arith}
use Rattle.ob_types.specs.declared.types.TypeRef.{TypeRef}
use Rattle.ob_scheme.specs.declared.want.Want.{Want}
use Rattle.ob_scheme.specs.declared.want.Want.TheVariants as want
use Rattle.ob_scheme.specs.Needs.{operands_of, result_operands}
use Rattle.ob_gproc_operands.specs.Capped.{capped}

pub few : (n : ℕ) → n ≤ 257 → n ≡ capped n
few n h = omega (arith, h)

pub few_wanted : (w : Want) → operands_of w ≡ capped (operands_of w)
few_wanted want.Value = refl
few_wanted want.Place = refl
few_wanted (want.Room n) = refl
few_wanted want.PlaceAndTag = refl
few_wanted want.Tag = refl
few_wanted want.PlaceAndLength = refl
few_wanted want.Length = refl

few_result : (t : Option TypeRef) → result_operands t ≡ capped (result_operands t)
few_result None = refl
few_result (Some t) = refl

pub max_capped : (a b m n : ℕ) → m ≡ capped a → n ≡ capped b → max m n ≡ capped (max a b)
max_capped a b m n h k = omega (arith, h, k)

-- b operands behind k others
pub above_capped : (k b n : ℕ) → n ≡ capped b → capped (k + n) ≡ capped (k + b)
above_capped k b n h = omega (arith, h)

pub result_behind : (t : Option TypeRef) (a m n : ℕ) → m ≡ capped a → n ≡ result_operands t → max m n ≡ capped (max a (result_operands t))
result_behind t a m n h k = max_capped a (result_operands t) m n h (k ∙ few_result t)

-- two parts, the second above what the first left
pub above_needs : (k a b m n s : ℕ) → m ≡ capped a → n ≡ capped b → s ≡ capped (k + n) → max m s ≡ capped (max a (k + b))
above_needs k a b m n s h i j = max_capped a (k + b) m s h (j ∙ above_capped k b n i)

-- a target, and above it what is assigned
pub target_needs : (w : Want) (a b m n o s : ℕ) → m ≡ capped a → n ≡ capped b → o ≡ operands_of w → s ≡ capped (o + n) → max m s ≡ capped (max a (operands_of w + b))
target_needs w a b m n o s h i j k = max_capped a (operands_of w + b) m s h (k ∙ ap (λ x. capped (x + n)) j ∙ above_capped (operands_of w) b n i)

-- what is tested above a word, and then two parts
pub case_needs : (a b d m n o s : ℕ) → m ≡ capped a → n ≡ capped b → o ≡ capped d → s ≡ capped (1 + m) → max s (max n o) ≡ capped (max (1 + a) (max b d))
case_needs a b d m n o s h i j k = max_capped (1 + a) (max b d) s (max n o) (k ∙ above_capped 1 a m h) (max_capped b d n o i j)

-- the end and the start above a word, the test's two words, and the body
pub for_needs : (a b d m n o s u : ℕ) → m ≡ capped a → n ≡ capped b → o ≡ capped d → s ≡ capped (1 + m) → u ≡ capped (1 + n) → max s (max u (max 2 o)) ≡ capped (max (1 + a) (max (1 + b) (max 2 d)))
for_needs a b d m n o s u h i j k l =
    max_capped (1 + a) (max (1 + b) (max 2 d)) s (max u (max 2 o)) (k ∙ above_capped 1 a m h)
    (max_capped (1 + b) (max 2 d) u (max 2 o) (l ∙ above_capped 1 b n i) (max_capped 2 d 2 o refl j))

-- without ELSE
pub case_alone : (a b m n s : ℕ) → m ≡ capped a → n ≡ capped b → s ≡ capped (1 + m) → max s (max n 0) ≡ capped (max (1 + a) (max b 0))
case_alone a b m n s h i k = case_needs a b 0 m n 0 s h i refl k

pub branches_alone : (a m : ℕ) → m ≡ capped a → m ≡ capped (max a 0)
branches_alone a m h = omega (arith, h)
