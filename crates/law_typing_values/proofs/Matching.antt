-- Signatures that match have the same parameters and results, by their forms.
use Rattle.std.proofs.Common.{◌≡◌, List, [], ◌∷◌, Option, Some, None, refl, sym, ap, ◌∙◌}
use Rattle.ob_types.specs.declared.types.Mode.{Mode}
use Rattle.ob_types.specs.declared.types.TypeRef.{TypeRef}
use Rattle.ob_types.specs.declared.types.Signature.{Signature}
use Rattle.ob_types.specs.declared.typed.TypedParameter.{TypedParameter}
use Rattle.ob_meaning.specs.Values.{Program, Form, Formals, NoResult, AResult, AFormal, result_formals, formals_before, form_in, formals_in}
use Rattle.law_simulation_relation.specs.Typed.{passing_for, result_form}
use Rattle.law_simulation_calls.specs.Signatures.{Alike}
use Rattle.law_typing_forms.specs.Formed.{AreParameters}
use Rattle.law_typing_values.specs.Laws.{MatchingIsHaving, RedefinitionsAreAlike}
use Rattle.law_typing_values.proofs.Equal.{matching_are_alike}

no_result : (f : Form) → NoResult ≡ AResult f → ⊥
no_result f e = absurd cc

ends_there : (m : Mode) (f : Form) (fs : Formals) → NoResult ≡ AFormal m f fs → ⊥
ends_there m f fs e = absurd cc

gives_there : (m : Mode) (f g : Form) (fs : Formals) → AResult g ≡ AFormal m f fs → ⊥
gives_there m f g fs e = absurd cc

same_gift : (f g : Form) → AResult f ≡ AResult g → f ≡ g
same_gift f g e = cc

same_first : (m k : Mode) (f g : Form) (fs gs : Formals) → AFormal m f fs ≡ AFormal k g gs → (m ≡ k) × ((f ≡ g) × (fs ≡ gs))
same_first m k f g fs gs e = (cc, (cc, cc))

module _ (program : Program) where
  abbrev form : TypeRef → Form
  form = form_in program

  -- the same modes and forms
  abbrev pub Same : List (Mode × TypeRef) → List (Mode × TypeRef) → Type 0
  Same [] [] = Unit {0}
  Same [] (l ∷ ls) = ⊥
  Same (k ∷ ks) [] = ⊥
  Same (k ∷ ks) (l ∷ ls) = ((k.0 ≡ l.0) × (form k.1 ≡ form l.1)) × Same ks ls

  same_result : (r s : Option TypeRef) → result_formals form r ≡ result_formals form s → result_form program r ≡ result_form program s
  same_result None None e = refl
  same_result None (Some u) e = absurd (no_result (form u) e)
  same_result (Some t) None e = absurd (no_result (form t) (sym e))
  same_result (Some t) (Some u) e = ap (λ f. Some f) (same_gift (form t) (form u) e)

  same_parts : (ks ls : List (Mode × TypeRef)) (r s : Option TypeRef) → formals_before form ks (result_formals form r) ≡ formals_before form ls (result_formals form s) → Same ks ls × (result_form program r ≡ result_form program s)
  same_parts [] [] r s e = (tt, same_result r s e)
  same_parts [] (l ∷ ls) None s e = absurd (ends_there l.0 (form l.1) (formals_before form ls (result_formals form s)) e)
  same_parts [] (l ∷ ls) (Some t) s e = absurd (gives_there l.0 (form l.1) (form t) (formals_before form ls (result_formals form s)) e)
  same_parts (k ∷ ks) [] r None e = absurd (ends_there k.0 (form k.1) (formals_before form ks (result_formals form r)) (sym e))
  same_parts (k ∷ ks) [] r (Some u) e = absurd (gives_there k.0 (form k.1) (form u) (formals_before form ks (result_formals form r)) (sym e))
  same_parts (k ∷ ks) (l ∷ ls) r s e =
      let h = same_first k.0 l.0 (form k.1) (form l.1) (formals_before form ks (result_formals form r)) (formals_before form ls (result_formals form s)) e in
      let rest = same_parts ks ls r s h.1.1 in
      (((h.0, h.1.0), rest.0), rest.1)

  pub parameters_so : (ps : List TypedParameter) (ks ls : List (Mode × TypeRef)) → Same ks ls → AreParameters program ps ks → AreParameters program ps ls
  parameters_so [] [] [] h a = tt
  parameters_so [] [] (l ∷ ls) h a = absurd h
  parameters_so [] (k ∷ ks) ls h a = absurd a
  parameters_so (p ∷ ps) [] ls h a = absurd a
  parameters_so (p ∷ ps) (k ∷ ks) [] h a = absurd h
  parameters_so (p ∷ ps) (k ∷ ks) (l ∷ ls) h a = (a.0 ∙ h.0.1, (a.1.0 ∙ ap (λ m. passing_for m (form k.1)) h.0.0 ∙ ap (passing_for l.0) h.0.1, parameters_so ps ks ls h.1 a.1.1))

  -- of one signature
  parameters_alike : (ps qs : List TypedParameter) (ks : List (Mode × TypeRef)) → AreParameters program ps ks → AreParameters program qs ks → Alike program ps qs
  parameters_alike [] [] [] a b = tt
  parameters_alike [] [] (k ∷ ks) a b = absurd a
  parameters_alike [] (q ∷ qs) [] a b = absurd b
  parameters_alike [] (q ∷ qs) (k ∷ ks) a b = absurd a
  parameters_alike (p ∷ ps) qs [] a b = absurd a
  parameters_alike (p ∷ ps) [] (k ∷ ks) a b = absurd b
  parameters_alike (p ∷ ps) (q ∷ qs) (k ∷ ks) a b = ((a.1.0 ∙ sym b.1.0, a.0 ∙ sym b.0), parameters_alike ps qs ks a.1.1 b.1.1)

  pub signatures_same : (s t : Signature) → formals_in program s ≡ formals_in program t → Same s.params t.params × (result_form program s.result ≡ result_form program t.result)
  signatures_same s t e = same_parts s.params t.params s.result t.result e

-- THE LAWS

pub matching_is_having : MatchingIsHaving
matching_is_having program map formed q s t i d c e =
    let h = signatures_same program s t (matching_are_alike program map formed s t d c e) in
    record { p = i.p; found = i.found; result = i.result ∙ h.1; parameters = parameters_so program i.p.parameters s.params t.params h.0 i.parameters }

pub redefinitions_are_alike : RedefinitionsAreAlike
redefinitions_are_alike program map formed s t d c e =
    let h = signatures_same program s t (matching_are_alike program map formed s t d c e) in
    (h.1, λ ps qs a b. parameters_alike program ps qs t.params (parameters_so program ps s.params t.params h.0 a) b)
