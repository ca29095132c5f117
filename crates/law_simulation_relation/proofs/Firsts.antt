-- First values: they fit their types, and their words are 0.
use Rattle.std.proofs.Common.{◌≡◌, ℕ, zero, suc, ◌+◌, ◌*◌, List, [], ◌∷◌, ◌++◌, refl, sym, ap, ◌∙◌, subst, arith, inl}
use Rattle.std.specs.Prelude.{ℤ, pos, replicate, false}
use Rattle.ob_types.specs.declared.types.Basic.{Basic}
use Rattle.ob_types.specs.declared.types.Basic.TheVariants as basic
use Rattle.ob_meaning.specs.Values.{Form, BasicForm, PointerForm, ProcedureForm, ArrayForm, OpenForm, RecordForm, Fields, NoField, AField, words, fields_words, first, firsts, first_basic, AnObject}
use Rattle.law_simulation_relation.specs.Relation.{FormOk, FieldsOk, IsBasic}
use Rattle.law_simulation_relation.proofs.Names.{field_same}
use Rattle.law_simulation_relation.proofs.Parts.{F, Fs, W, Ws, We, put, put_own, fields_fresh, fresh_keeps}
use Rattle.law_simulation_relation.specs.Setting.{Setting}

abbrev pub zeros : ℕ → List ℤ
zeros n = replicate n (pos 0)

pub zeros_both : (m n : ℕ) → zeros m ++ zeros n ≡ zeros (m + n)
zeros_both zero n = let e : n ≡ 0 + n = omega arith in ap zeros e
zeros_both (suc m) n = let e : suc (m + n) ≡ suc m + n = omega arith in ap (λ l. pos 0 ∷ l) (zeros_both m n) ∙ ap zeros e

module _ (c : Setting) (os : List AnObject) where
  basic_words : (b : Basic) → W c os (BasicForm b) (first_basic b) ≡ zeros 1
  basic_words basic.Boolean = refl
  basic_words basic.Char = refl
  basic_words basic.ShortInt = refl
  basic_words basic.Integer = refl
  basic_words basic.LongInt = refl
  basic_words basic.Set = refl

  basic_fine : (b : Basic) → IsBasic b (first_basic b)
  basic_fine basic.Boolean = (false, refl)
  basic_fine basic.Char = (0, omega arith, refl)
  basic_fine basic.ShortInt = (pos 0, refl, refl)
  basic_fine basic.Integer = (pos 0, refl, refl)
  basic_fine basic.LongInt = (pos 0, refl, refl)
  basic_fine basic.Set = (λ i. false, refl)

  elements_words : (n m : ℕ) (l : List ℤ) → l ≡ zeros m → We c os n (λ i. l) ≡ zeros (n * m)
  elements_words zero m l e = let f : 0 ≡ 0 * m = omega arith in ap zeros f
  elements_words (suc n) m l e = let f : n * m + m ≡ suc n * m = omega arith in ap (λ k. k ++ l) (elements_words n m l e) ∙ ap (λ k. zeros (n * m) ++ k) e ∙ zeros_both (n * m) m ∙ ap zeros f

  mutual
    pub first_words : (t : Form) → FormOk c.program t → W c os t (first t) ≡ zeros (words t)
    first_words (BasicForm b) ok = basic_words b
    first_words (PointerForm t) ok = refl
    first_words (ProcedureForm s) ok = refl
    first_words (ArrayForm n t) ok = elements_words n (words t) (W c os t (first t)) (first_words t ok.1)
    first_words (OpenForm t) ok = absurd ok
    first_words (RecordForm [] fs) ok = absurd ok
    first_words (RecordForm (q ∷ line) fs) ok = firsts_words fs ok.1

    firsts_words : (fs : Fields) → FieldsOk c.program fs → Ws c os fs (firsts fs) ≡ zeros (fields_words fs)
    firsts_words NoField ok = refl
    firsts_words (AField owner name t fs) ok =
        ap (λ v. W c os t v ++ Ws c os fs (put c os (firsts fs) owner name (first t))) (put_own c os (firsts fs) owner name (first t) owner name (field_same owner name))
        ∙ ap (λ l. W c os t (first t) ++ l) (fields_fresh c os fs owner name (firsts fs) (first t) ok.0)
        ∙ ap (λ l. l ++ Ws c os fs (firsts fs)) (first_words t ok.1.0) ∙ ap (λ l. zeros (words t) ++ l) (firsts_words fs ok.1.1) ∙ zeros_both (words t) (fields_words fs)

  mutual
    pub first_fine : (t : Form) → FormOk c.program t → F c os t (first t)
    first_fine (BasicForm b) ok = basic_fine b
    first_fine (PointerForm t) ok = inl refl
    first_fine (ProcedureForm s) ok = inl refl
    first_fine (ArrayForm n t) ok = (refl, λ i lt. first_fine t ok.1)
    first_fine (OpenForm t) ok = absurd ok
    first_fine (RecordForm [] fs) ok = absurd ok
    first_fine (RecordForm (q ∷ line) fs) ok = (refl, firsts_fine fs ok.1)

    firsts_fine : (fs : Fields) → FieldsOk c.program fs → Fs c os fs (firsts fs)
    firsts_fine NoField ok = tt
    firsts_fine (AField owner name t fs) ok =
        (subst (λ v. F c os t v) (sym (put_own c os (firsts fs) owner name (first t) owner name (field_same owner name))) (first_fine t ok.1.0), fresh_keeps c os fs owner name (firsts fs) (first t) ok.0 (firsts_fine fs ok.1.1))
