-- Arguments: how many words they have, and that they fit all parameters that are alike.
use Rattle.std.proofs.Common.{◌≡◌, ◌⊎◌, ⊎_elim, ℕ, ◌+◌, List, [], ◌∷◌, ◌++◌, length, ℤ, refl, sym, ap, ◌∙◌, subst, arith, length-append, append_assoc}
use Rattle.std.proofs.lemmas.Bool.Decides.{nat_tests}
use Rattle.std.specs.Prelude.{true, nat_le, take, drop, reverse, if◌then◌else◌}
use Rattle.std.proofs.lemmas.List.{reverse-append, reverse-reverse, length-reverse}
use Rattle.std.proofs.Math.Seq.{take-append_seam, drop-append_seam}
use Rattle.ob_types.specs.declared.typed.Passing.{Passing}
use Rattle.ob_types.specs.declared.typed.Passing.TheVariants as passing
use Rattle.ob_types.specs.declared.typed.TypedParameter.{TypedParameter}
use Rattle.ob_types.specs.TypedSyntax.{Actuals, NoActual, AnActual}
use Rattle.ob_instr.specs.Rows.{Effect, Unable, on_args}
use Rattle.ob_meaning.specs.Values.{Form, form_in, Value, Active, AnObject}
use Rattle.ob_meaning.specs.Results.{Passed, ByValue}
use Rattle.law_simulation_relation.specs.Layout.{static_held}
use Rattle.law_simulation_relation.specs.Relation.{Fine, word_of, Scalar}
use Rattle.law_simulation_relation.specs.Stands.{slots_passed, operands_of}
use Rattle.law_simulation_relation.specs.Typed as typed
use Rattle.law_simulation_relation.proofs.Statements.{onto, Activation, PlaceFits, LongPlaceFits, TextFits, LongTextFits, ArgumentFits, ArgumentsFit}
use Rattle.law_simulation_relation.specs.Setting.{Setting, has_of}
use Rattle.law_simulation_calls.specs.Signatures.{Alike}

-- THE OPERANDS OF A CALL

pub onto_is : (ws ops : List ℤ) → onto ws ops ≡ reverse ws ++ ops
onto_is [] ops = refl
onto_is (x ∷ ws) ops = onto_is ws (x ∷ ops) ∙ sym (append_assoc (reverse ws) (x ∷ []) ops) ∙ ap (λ l. l ++ ops) (sym (reverse-append (x ∷ []) ws))

pub args_are : (n : ℕ) (ws ops : List ℤ) (k : List ℤ → List ℤ → Effect) → length ws ≡ n → on_args n (onto ws ops) k ≡ k ws ops
args_are n ws ops k len =
    let is = onto_is ws ops in
    let rl : length (reverse ws) ≡ n = length-reverse ws ∙ len in
    let all : length (onto ws ops) ≡ n + length ops = ap length is ∙ length-append (reverse ws) ops ∙ omega (arith, rl) in
    let fits : nat_le n (length (onto ws ops)) ≡ true = grind (arith, nat_tests) in
    let front : take n (onto ws ops) ≡ reverse ws = ap (take n) is ∙ ap (λ k. take k (reverse ws ++ ops)) (sym rl) ∙ take-append_seam (reverse ws) ops in
    let back : drop n (onto ws ops) ≡ ops = ap (drop n) is ∙ ap (λ k. drop k (reverse ws ++ ops)) (sym rl) ∙ drop-append_seam (reverse ws) ops in
    ap (λ b. if b then k (reverse (take n (onto ws ops))) (drop n (onto ws ops)) else Unable) fits
    ∙ ap (λ l. k (reverse l) (drop n (onto ws ops))) front ∙ ap (λ l. k l (drop n (onto ws ops))) (reverse-reverse ws) ∙ ap (λ l. k ws l) back

module _ (c : Setting) (os : List AnObject) (cs : List Active) where
  abbrev pub ValueFits : Form → Passed → List ℤ → Type 0
  ValueFits t x ws = (v : Value) × (x ≡ ByValue v) × (ws ≡ word_of c.program (has_of c) c.img os v ∷ []) × Scalar t × Fine c.program (has_of c) os t v

  -- arguments fit by the passing and the form of the parameter alone
  fits_alike : (p q : TypedParameter) (x : Passed) (vs : List ℤ) → p.passing ≡ q.passing → form_in c.program p.of ≡ form_in c.program q.of → ArgumentFits c os cs p x vs → ArgumentFits c os cs q x vs
  fits_alike p q x vs same form f = by q.passing refl
    where
      by : (how : Passing) → q.passing ≡ how → ArgumentFits c os cs q x vs
      by passing.Scalar e =
          let g : ValueFits (form_in c.program p.of) x vs = rw (same ∙ e) at f in
          let h : ValueFits (form_in c.program q.of) x vs = subst (λ t. ValueFits t x vs) form g in
          rw e h
      by passing.Variable e =
          let g : PlaceFits c os cs (form_in c.program p.of) x vs = rw (same ∙ e) at f in
          let h : PlaceFits c os cs (form_in c.program q.of) x vs = subst (λ t. PlaceFits c os cs t x vs) form g in
          rw e h
      by passing.Structure e =
          let g : PlaceFits c os cs (form_in c.program p.of) x vs ⊎ TextFits c (form_in c.program p.of) x vs = rw (same ∙ e) at f in
          let h : PlaceFits c os cs (form_in c.program q.of) x vs ⊎ TextFits c (form_in c.program q.of) x vs = subst (λ t. PlaceFits c os cs t x vs ⊎ TextFits c t x vs) form g in
          rw e h
      by passing.OpenArray e =
          let g : LongPlaceFits c os cs (form_in c.program p.of) x vs ⊎ LongTextFits c (form_in c.program p.of) x vs = rw (same ∙ e) at f in
          let h : LongPlaceFits c os cs (form_in c.program q.of) x vs ⊎ LongTextFits c (form_in c.program q.of) x vs = subst (λ t. LongPlaceFits c os cs t x vs ⊎ LongTextFits c t x vs) form g in
          rw e h
      by passing.VariableRecord e =
          let g : LongPlaceFits c os cs (form_in c.program p.of) x vs = rw (same ∙ e) at f in
          let h : LongPlaceFits c os cs (form_in c.program q.of) x vs = subst (λ t. LongPlaceFits c os cs t x vs) form g in
          rw e h
      by passing.VariableOpenArray e =
          let g : LongPlaceFits c os cs (form_in c.program p.of) x vs = rw (same ∙ e) at f in
          let h : LongPlaceFits c os cs (form_in c.program q.of) x vs = subst (λ t. LongPlaceFits c os cs t x vs) form g in
          rw e h

  pub all_alike : (ps qs : List TypedParameter) (xs : List Passed) (ws : List ℤ) → Alike c.program ps qs → ArgumentsFit c os cs ps xs ws → ArgumentsFit c os cs qs xs ws
  all_alike [] [] xs ws k f = f
  all_alike [] (q ∷ qs) xs ws k f = absurd k
  all_alike (p ∷ ps) [] xs ws k f = absurd k
  all_alike (p ∷ ps) (q ∷ qs) [] ws k f = absurd f
  all_alike (p ∷ ps) (q ∷ qs) (x ∷ xs) ws k f = (f.0, f.1, f.2, fits_alike p q x f.0 k.0.0 k.0.1 f.3, all_alike ps qs xs f.1 k.1 f.4)

  -- as many words as the way of passing asks for
  pub one_counted : (p : TypedParameter) (x : Passed) (vs : List ℤ) → ArgumentFits c os cs p x vs → length vs ≡ slots_passed p.passing
  one_counted p x vs f = by p.passing refl
    where
      t : Form
      t = form_in c.program p.of

      by : (how : Passing) → p.passing ≡ how → length vs ≡ slots_passed p.passing
      by passing.Scalar e = let g : ValueFits t x vs = rw e at f in ap length g.2 ∙ sym (ap slots_passed e)
      by passing.Variable e = let g : PlaceFits c os cs t x vs = rw e at f in ap length g.2 ∙ sym (ap slots_passed e)
      by passing.Structure e = let g : PlaceFits c os cs t x vs ⊎ TextFits c t x vs = rw e at f in ⊎_elim (λ g. ap length g.2) (λ g. ap length g.4) g ∙ sym (ap slots_passed e)
      by passing.OpenArray e = let g : LongPlaceFits c os cs t x vs ⊎ LongTextFits c t x vs = rw e at f in ⊎_elim (λ g. ap length g.2) (λ g. ap length g.3) g ∙ sym (ap slots_passed e)
      by passing.VariableRecord e = let g : LongPlaceFits c os cs t x vs = rw e at f in ap length g.2 ∙ sym (ap slots_passed e)
      by passing.VariableOpenArray e = let g : LongPlaceFits c os cs t x vs = rw e at f in ap length g.2 ∙ sym (ap slots_passed e)

  pub counted : (a : Activation c) (es : Actuals) (ps : List TypedParameter) (xs : List Passed) (ws : List ℤ) → typed.ActualsOk c.program (has_of c) a.unit (static_held c.program a.procedure) a.procedure.result es ps → ArgumentsFit c os cs ps xs ws → length ws ≡ operands_of es
  counted a NoActual [] [] ws ok f = ap length f
  counted a NoActual [] (x ∷ xs) ws ok f = absurd f
  counted a NoActual (p ∷ ps) xs ws ok f = absurd ok
  counted a (AnActual how t e rest) [] xs ws ok f = absurd ok
  counted a (AnActual how t e rest) (p ∷ ps) [] ws ok f = absurd f
  counted a (AnActual how t e rest) (p ∷ ps) (x ∷ xs) ws ok f =
      let one = one_counted p x f.0 f.3 ∙ sym (ap slots_passed ok.0) in
      let more = counted a rest ps xs f.1 ok.1.1.1 f.4 in
      ap length f.2 ∙ length-append f.0 f.1 ∙ omega (arith, one, more)
