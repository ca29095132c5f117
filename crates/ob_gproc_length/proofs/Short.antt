-- The limit of code, told from capped numbers.
use Rattle.std.specs.Prelude.{nat_le}
use Rattle.std.proofs.Common.{◌≡◌, ◌≤◌, ℕ, ◌+◌, Bool, true, false, List, [], ◌∷◌, length, Option, refl, sym, ap, ◌∙◌, arith, length-append}
use Rattle.std.proofs.lemmas.Bool.{le-leb, leb-true}
use Rattle.ob_tree.specs.declared.names.QName.{QName}
use Rattle.ob_types.specs.declared.desc.Desc.{Desc}
use Rattle.ob_types.specs.TypedSyntax.{Procedure, Module}
use Rattle.ob_scheme.specs.Context.{first_hidden}
use Rattle.ob_scheme.specs.Statements.{stmts_code}
use Rattle.ob_scheme.specs.Procedures.{within, closing, end_procedure, procedure_code, procedures_code, all_procedures}
use Rattle.ob_scheme.specs.Needs.{has_short_code}
use Rattle.ob_scheme.proofs.Ends.{stmts_end}
use Rattle.ob_gproc_length.specs.Lengths.{capped}
use Rattle.ob_gproc_length.specs.Whole.{procedures_lines}
use Rattle.ob_gproc_length.proofs.Lengths.{stmts_at}

module _ (types : QName → Option Desc) (m : Module) where
  -- the code of procedures has so many lines
  pub procedures_length : (ps : List Procedure) (pc : ℕ) → length (procedures_code types m ps pc) ≡ procedures_lines types ps
  procedures_length [] pc = refl
  procedures_length (p ∷ ps) pc =
      let c = within types m p in
      let a = stmts_code c p.body pc (first_hidden c) 0 in
      let q = end_procedure types m p pc in
      omega (arith, stmts_end c p.body pc (first_hidden c) 0, stmts_at c p.body pc, length-append a (closing p.result p.at ∷ []), length-append (procedure_code types m p pc) (procedures_code types m ps q), procedures_length ps q)

  capped_test : (n : ℕ) → nat_le (capped n) 262144 ≡ nat_le n 262144
  capped_test n = go (nat_le n 262144) refl
    where
      above : (b : Bool) → nat_le n 262144 ≡ false → nat_le (capped n) 262144 ≡ b → b ≡ false
      above true e k = let h = leb-true (capped n) 262144 k in let l : n ≤ 262144 = omega (arith, h) in sym (le-leb n 262144 l) ∙ e
      above false e k = refl

      go : (b : Bool) → nat_le n 262144 ≡ b → nat_le (capped n) 262144 ≡ nat_le n 262144
      go true e = let h = leb-true n 262144 e in le-leb (capped n) 262144 (omega (arith, h)) ∙ sym e
      go false e = above (nat_le (capped n) 262144) e refl ∙ sym e

  pub told : (a b n : ℕ) (r : Bool) → n ≡ capped (a + b) → r ≡ nat_le n 262144 → a + b ≡ procedures_lines types (all_procedures m) → r ≡ has_short_code types m
  told a b n r h e is =
      e ∙ ap (λ k. nat_le k 262144) h ∙ capped_test (a + b) ∙ ap (λ k. nat_le k 262144) (is ∙ sym (procedures_length (all_procedures m) 0))
