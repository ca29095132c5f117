-- What values are, and what is a value.
use Rattle.std.proofs.Common.{◌≡◌, Bool, true, List, [], ◌∷◌, ◌++◌, map, Option, Some, None, refl, sym, ap, subst}
use Rattle.std.proofs.lemmas.Bool.{false≢true, and_from}
use Rattle.ob_tree.specs.declared.names.QName.{QName}
use Rattle.ob_types.specs.declared.types.Mode.{Mode}
use Rattle.ob_types.specs.declared.types.TypeRef.{TypeRef}
use Rattle.ob_types.specs.declared.typed.Passing.{Passing}
use Rattle.ob_types.specs.declared.typed.TypedParameter.{TypedParameter}
use Rattle.ob_types.specs.Maps.{listed}
use Rattle.ob_types.specs.AssigningTests.{is_value}
use Rattle.ob_types.specs.TypedSyntax.{Procedure}
use Rattle.ob_meaning.specs.Values.{Program, Form, Formals, result_formals, formals_before, description, procedure_of, form_in, formals_in}
use Rattle.law_simulation_relation.specs.Typed.{passing_for, result_form}
use Rattle.law_simulation_relation.specs.Setting.{has_of}
use Rattle.law_simulation_calls.specs.Signatures.{ParametersMatch}
use Rattle.ob_rules.specs.Shapes.{is_held}
use Rattle.law_typing_forms.specs.Formed.{AreParameters}
use Rattle.law_typing_values.specs.Same.{same_form, same_passing}
use Rattle.law_typing_values.specs.Valued.{is_of, takes, gives, takes_all, fits, values}
use Rattle.law_typing_values.specs.Laws.{ValuesFit, AreTypesOf, ValuesAreMade}
use Rattle.law_typing_values.proofs.Same.{form_is, form_same, passing_is, passing_same}
use Rattle.law_lists.proofs.Lists.{and_parts}

module _ (program : Program) where
  abbrev held : TypeRef → Bool
  held t = is_held (description program) t

  -- ---- what a value is

  form_of : (t : TypeRef) (f : Form) → is_of program t f ≡ true → form_in program t ≡ f
  form_of t f e = form_is (form_in program t) f (and_parts (held t) (same_form (form_in program t) f) e).1

  result_matches : (r s : Option TypeRef) → gives program r (result_formals (form_in program) s) ≡ true → result_form program r ≡ result_form program s
  result_matches None None e = refl
  result_matches None (Some u) e = absurd (false≢true e)
  result_matches (Some t) None e = absurd (false≢true e)
  result_matches (Some t) (Some u) e = ap (λ f. Some f) (form_of t (form_in program u) e)

  all_match : (ps : List TypedParameter) (ks : List (Mode × TypeRef)) (r s : Option TypeRef) → takes_all program ps r (formals_before (form_in program) ks (result_formals (form_in program) s)) ≡ true → (result_form program r ≡ result_form program s) × ParametersMatch program ps ks
  all_match [] [] r s e = (result_matches r s e, tt)
  all_match [] (k ∷ ks) None s e = absurd (false≢true e)
  all_match [] (k ∷ ks) (Some t) s e = absurd (false≢true e)
  all_match (p ∷ ps) [] r None e = absurd (false≢true e)
  all_match (p ∷ ps) [] r (Some u) e = absurd (false≢true e)
  all_match (p ∷ ps) (k ∷ ks) r s e =
      let h = and_parts (takes program p k.0 (form_in program k.1)) (takes_all program ps r (formals_before (form_in program) ks (result_formals (form_in program) s))) e in
      let l = and_parts (is_of program p.of (form_in program k.1)) (same_passing p.passing (passing_for k.0 (form_in program k.1))) h.0 in
      let rest = all_match ps ks r s h.1 in
      (rest.0, ((passing_is p.passing (passing_for k.0 (form_in program k.1)) l.1, form_of p.of (form_in program k.1) l.0), rest.1))

  found_by : (fs : Formals) (o : Option Procedure) → fits program fs o ≡ true → (p : Procedure) × (o ≡ Some p)
  found_by fs None e = absurd (false≢true e)
  found_by fs (Some p) e = (p, refl)

  -- ---- what is a value

  of_made : (t : TypeRef) (f : Form) → held t ≡ true → form_in program t ≡ f → is_of program t f ≡ true
  of_made t f h e = and_from (held t) (same_form (form_in program t) f) h (subst (λ f. same_form (form_in program t) f ≡ true) e (form_same (form_in program t)))

  some_form : Option Form → Form → Form
  some_form None d = d
  some_form (Some f) d = f

  result_made : (r s : Option TypeRef) → AreTypesOf program (listed r) → result_form program r ≡ result_form program s → gives program r (result_formals (form_in program) s) ≡ true
  unfolding some_form
  result_made None None h e = refl
  result_made None (Some u) h e = absurd cc
  result_made (Some t) None h e = absurd cc
  result_made (Some t) (Some u) h e = of_made t (form_in program u) h.0 (ap (λ o. some_form o (form_in program t)) e)

  all_made : (ps : List TypedParameter) (ks : List (Mode × TypeRef)) (r s : Option TypeRef) → AreTypesOf program (map (λ x. x.of) ps ++ listed r) → AreParameters program ps ks → result_form program r ≡ result_form program s → takes_all program ps r (formals_before (form_in program) ks (result_formals (form_in program) s)) ≡ true
  all_made [] [] r s h a e = result_made r s h e
  all_made [] (k ∷ ks) r s h a e = absurd a
  all_made (p ∷ ps) [] r s h a e = absurd a
  all_made (p ∷ ps) (k ∷ ks) r s h a e =
      let how : same_passing p.passing (passing_for k.0 (form_in program k.1)) ≡ true = subst (λ (x : Passing). same_passing p.passing x ≡ true) a.1.0 (passing_same p.passing) in
      and_from (takes program p k.0 (form_in program k.1)) (takes_all program ps r (formals_before (form_in program) ks (result_formals (form_in program) s)))
      (and_from (is_of program p.of (form_in program k.1)) (same_passing p.passing (passing_for k.0 (form_in program k.1))) (of_made p.of (form_in program k.1) h.0 a.0) how)
      (all_made ps ks r s h.1 a.1.1 e)

-- THE LAWS

pub values_fit : ValuesFit
values_fit c e =
    let so : (fs : Formals) (q : QName) → has_of c fs q → values c.program fs q ≡ true = λ fs q h. subst (λ f. f fs q ≡ true) e h in
    let fit : (fs : Formals) (q : QName) → has_of c fs q → fits c.program fs (procedure_of c.program q) ≡ true = λ fs q h. (and_parts (is_value q) (fits c.program fs (procedure_of c.program q)) (so fs q h)).1 in
    record {
      procedures = λ fs q h. found_by c.program fs (procedure_of c.program q) (fit fs q h);
      match = λ s q p h is. all_match c.program p.parameters s.params p.result s.result (subst (λ o. fits c.program (formals_in c.program s) o ≡ true) is (fit (formals_in c.program s) q h));
    }

pub values_are_made : ValuesAreMade
values_are_made program typed q s i is =
    let p : Procedure = i.p in
    let made = all_made program p.parameters s.params p.result s.result (typed q p i.found) i.parameters i.result in
    and_from (is_value q) (fits program (formals_in program s) (procedure_of program q)) is (subst (λ o. fits program (formals_in program s) o ≡ true) (sym i.found) made)
