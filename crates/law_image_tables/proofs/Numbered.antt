-- The procedures of a program have numbers that values can tell.
use Rattle.std.proofs.Common.{◌≡◌, ℕ, suc, ◌≤◌, ◌<◌, List, [], ◌∷◌, length, Some, refl, ap, ◌∙◌, arith}
use Rattle.std.proofs.lemmas.Bool.Decides.{nat_tests}
use Rattle.std.proofs.lemmas.Option.{none-some, slice_get_within}
use Rattle.std.specs.Prelude.{Bool, true, false, bytes_eq, if◌then◌else◌}
use Rattle.ob_tree.specs.declared.names.QName.{QName}
use Rattle.ob_types.specs.TypedSyntax.{Procedure}
use Rattle.ob_instr.specs.Rows.{in_width, proc_value}
use Rattle.ob_meaning.specs.Values.{procedure_named, procedure_of}
use Rattle.law_simulation_relation.specs.Layout.{module_number, procedure_number, procedure_index, procedures_in}
use Rattle.law_simulation_relation.proofs.Names.{bytes_true}
use Rattle.law_simulation_relation.specs.Setting.{Setting}
use Rattle.law_simulation_operators.specs.Procedures.{IsNumbered}
use Rattle.law_image_links.specs.Files.{Build}
use Rattle.law_image_links.proofs.Whole.{BuildsCompiled}
use Rattle.law_image_tables.proofs.Entering.{units}
use Rattle.law_image_tables.proofs.Few.{Few, AllFew}

number_below : (ps : List Procedure) (x : List ℕ) (p : Procedure) → procedure_named ps x ≡ Some p → procedure_number ps x < length ps
number_below [] x p e = absurd (none-some _ e)
number_below (k ∷ ps) x p e = go (bytes_eq x k.name) e (λ f. number_below ps x p f)
  where
    go : (b : Bool) → (if b then Some k else procedure_named ps x) ≡ Some p → (procedure_named ps x ≡ Some p → procedure_number ps x < length ps) → (if b then 0 else suc (procedure_number ps x)) < suc (length ps)
    go true e more = omega arith
    go false e more = let m = more e in omega (arith, m)

index_below : (ps : List Procedure) (x : List ℕ) (p : Procedure) → procedure_named ps x ≡ Some p → procedure_index ps x ≤ length ps
index_below ps [] p e = omega arith
index_below ps (n ∷ x) p e = let m = number_below ps (n ∷ x) p e in omega (arith, m)

module _ (c : Setting) (few : Few c.img) where
  pub numbered : (bs : List Build) → BuildsCompiled c bs → AllFew bs → (q : QName) (p : Procedure) → procedure_of c.program q ≡ Some p → procedure_of (units c bs) q ≡ Some p → IsNumbered c q
  numbered [] h f q p is e = absurd (none-some _ e)
  numbered (b ∷ bs) h f q p is e = go (bytes_eq q.«module» b.unit.name) refl e (λ g. numbered bs h.1 f.1 q p is g)
    where
      go : (z : Bool) → bytes_eq q.«module» b.unit.name ≡ z → (if z then procedure_named b.unit.procedures q.object else procedure_of (units c bs) q) ≡ Some p → (procedure_of (units c bs) q ≡ Some p → IsNumbered c q) → IsNumbered c q
      go true t e more =
          let same = bytes_true q.«module» b.unit.name t in
          let k = h.0.2 in
          let module_is : module_number c.program q.«module» ≡ h.0.0 = ap (module_number c.program) same ∙ k.named in
          let proc_is : procedure_index (procedures_in c.program q.«module») q.object ≡ procedure_index b.unit.procedures q.object = ap (λ l. procedure_index l q.object) (ap (procedures_in c.program) same ∙ k.procedures_there) in
          let m = slice_get_within c.img.modules h.0.0 h.0.1 k.is.is in
          let l = few.modules in
          let i = index_below b.unit.procedures q.object p e in
          let n = f.0 in
          let below : procedure_index (procedures_in c.program q.«module») q.object < 65536 = omega (arith, proc_is, i, n) in
          let low : module_number c.program q.«module» < 255 = omega (arith, module_is, m, l) in
          record { p = p; is = is; below = below; fits = fits_word (module_number c.program q.«module») (procedure_index (procedures_in c.program q.«module») q.object) low below }
        where
          fits_word : (m n : ℕ) → m < 255 → n < 65536 → in_width 4 (proc_value (record { «module» = m; proc = n })) ≡ true
          fits_word m n low below = grind (arith, nat_tests)
      go false t e more = more e
