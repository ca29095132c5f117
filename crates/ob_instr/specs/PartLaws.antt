-- The formats of procedures and positions are exact.
use Rattle.std.proofs.Common.{◌≡◌, ℕ, zero, suc, ◌+◌, ◌≤◌, Bool, true, false, leb, Some, None, refl, subst, arith}
use Rattle.std.specs.Prelude.{if◌then◌else◌, nat_le}
use Rattle.std.specs.Bool.{Decides}
use Rattle.std.proofs.lemmas.Bool.Decides.{nat_tests}
use Rattle.ob_format.specs.Format.{IsExact, byte, word32, ◌⊗◌}
use Rattle.ob_format.specs.Exact.{byte_exact, word32_exact, list_exact, parsed_exact, such_that_exact, made_exact, pair_exact}
use Rattle.ob_instr.specs.declared.procedure.Param.{Param}
use Rattle.ob_instr.specs.declared.procedure.Param.TheVariants as param
use Rattle.ob_instr.specs.Parts.{most_words, slots, param_of, param_at, param_pair, ParamFits, param_form, flag_at, flag_number, flag, procedure, position}

pub le_decides : (a b : ℕ) → Decides (leb a b) (a ≤ b)
le_decides a b = (λ e. grind (arith, nat_tests), λ h. grind (arith, nat_tests))

limited : (n : ℕ) (p q : Param) → (if nat_le n most_words then Some p else None) ≡ Some q → (n ≤ most_words) × (p ≡ q)
limited n p q e = go (nat_le n most_words) refl e
  where
    go : (t : Bool) → nat_le n most_words ≡ t → (if t then Some p else None) ≡ Some q → (n ≤ most_words) × (p ≡ q)
    go true f e = (grind (arith, nat_tests), cc)
    go false f e = absurd cc

some_same : (p q : Param) → Some p ≡ Some q → p ≡ q
some_same p q e = cc

param_found : (k n : ℕ) (b : Param) → param_of k n ≡ Some b → (param_pair b ≡ (k, n)) × ParamFits b
param_found zero zero b e = subst (λ q. (param_pair q ≡ (0, 0)) × ParamFits q) (some_same param.Scalar b e) (refl, tt)
param_found zero (suc n) b e = absurd cc
param_found (suc zero) zero b e = subst (λ q. (param_pair q ≡ (1, 0)) × ParamFits q) (some_same param.Var b e) (refl, tt)
param_found (suc zero) (suc n) b e = absurd cc
param_found (suc (suc zero)) zero b e = subst (λ q. (param_pair q ≡ (2, 0)) × ParamFits q) (some_same param.VarRecord b e) (refl, tt)
param_found (suc (suc zero)) (suc n) b e = absurd cc
param_found (suc (suc (suc zero))) zero b e = subst (λ q. (param_pair q ≡ (3, 0)) × ParamFits q) (some_same param.VarArray b e) (refl, tt)
param_found (suc (suc (suc zero))) (suc n) b e = absurd cc
param_found (suc (suc (suc (suc zero)))) n b e = let h = limited n (param.Value n) b e in subst (λ q. (param_pair q ≡ (4, n)) × ParamFits q) h.1 (refl, h.0)
param_found (suc (suc (suc (suc (suc zero))))) n b e = let h = limited n (param.ValueArray n) b e in subst (λ q. (param_pair q ≡ (5, n)) × ParamFits q) h.1 (refl, h.0)
param_found (suc (suc (suc (suc (suc (suc k)))))) n b e = absurd cc

param_again : (b : Param) → ParamFits b → param_at (param_pair b) ≡ Some b
param_again param.Scalar fits = refl
param_again param.Var fits = refl
param_again param.VarRecord fits = refl
param_again param.VarArray fits = refl
param_again (param.Value n) fits = let t : nat_le n most_words ≡ true = grind (arith, nat_tests) in rw t refl
param_again (param.ValueArray n) fits = let t : nat_le n most_words ≡ true = grind (arith, nat_tests) in rw t refl

param_fits : (b : Param) → ParamFits b → (byte ⊗ word32).fits (param_pair b)
unfolding byte word32
param_fits param.Scalar fits = (omega arith, omega arith)
param_fits param.Var fits = (omega arith, omega arith)
param_fits param.VarRecord fits = (omega arith, omega arith)
param_fits param.VarArray fits = (omega arith, omega arith)
param_fits (param.Value n) fits = (omega arith, omega arith)
param_fits (param.ValueArray n) fits = (omega arith, omega arith)

pub param_exact : IsExact param_form
unfolding param_form
param_exact = parsed_exact (record { found = λ p b small bytes e. param_found p.0 p.1 b e; again = λ b fits. (param_fits b fits, param_again b fits) }) (pair_exact byte_exact word32_exact)

flag_found : (n : ℕ) (b : Bool) → flag_at n ≡ Some b → flag_number b ≡ n
flag_found zero false e = refl
flag_found zero true e = absurd cc
flag_found (suc zero) true e = refl
flag_found (suc zero) false e = absurd cc
flag_found (suc (suc n)) b e = absurd cc

flag_fits : (b : Bool) → byte.fits (flag_number b)
unfolding byte
flag_fits false = omega arith
flag_fits true = omega arith

flag_again : (b : Bool) → flag_at (flag_number b) ≡ Some b
flag_again false = refl
flag_again true = refl

pub flag_exact : IsExact flag
unfolding flag
flag_exact = parsed_exact (record { found = λ n b small bytes e. (flag_found n b e, tt); again = λ b _. (flag_fits b, flag_again b) }) byte_exact

pub procedure_exact : IsExact procedure
unfolding procedure
procedure_exact = such_that_exact (λ q. nat_le (slots q.params + q.locals) most_words) (λ q. slots q.params + q.locals ≤ most_words) (λ q. le_decides (slots q.params + q.locals) most_words) (made_exact (λ p. record { entry = p.0; params = p.1.0; locals = p.1.1.0; has_result = p.1.1.1 }) (λ q. (q.entry, (q.params, (q.locals, q.has_result)))) (pair_exact word32_exact (pair_exact (list_exact param_exact) (pair_exact word32_exact flag_exact))) (λ _. refl) (λ _. refl))

pub position_exact : IsExact position
unfolding position
position_exact = made_exact (λ p. record { at = p.0; pos = record { line = p.1.0; col = p.1.1 } }) (λ q. (q.at, (q.pos.line, q.pos.col))) (pair_exact word32_exact (pair_exact word32_exact word32_exact)) (λ _. refl) (λ _. refl)
