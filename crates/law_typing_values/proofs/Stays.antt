-- Values stay values where one more module is behind.
use Rattle.std.proofs.Common.{◌≡◌, ℕ, zero, suc, Bool, true, false, List, [], ◌∷◌, ◌++◌, Option, Some, None, refl, sym, ap, subst, ◌∙◌}
use Rattle.std.specs.Prelude.{bytes_eq, if◌then◌else◌}
use Rattle.std.proofs.lemmas.Bool.{false≢true, and_from}
use Rattle.ob_tree.specs.declared.names.QName.{QName}
use Rattle.ob_types.specs.declared.types.Basic.{Basic}
use Rattle.ob_types.specs.declared.types.TypeRef.{TypeRef}
use Rattle.ob_types.specs.declared.types.TypeRef.TheVariants as ref
use Rattle.ob_types.specs.declared.desc.Desc.{Desc}
use Rattle.ob_types.specs.declared.typed.TypedParameter.{TypedParameter}
use Rattle.ob_types.specs.AssigningTests.{is_value}
use Rattle.ob_types.specs.TypedSyntax.{Procedure, Module}
use Rattle.ob_meaning.specs.Values.{Program, Form, BasicForm, Formals, NoResult, AResult, AFormal, description, number_of_types, type_named, procedure_named, procedure_of, form_within, form_in}
use Rattle.law_simulation_relation.specs.Typed.{passing_for}
use Rattle.ob_rules.specs.Shapes.{is_held}
use Rattle.law_typing_values.specs.Same.{same_form, same_passing}
use Rattle.law_typing_values.specs.Valued.{is_of, takes, gives, takes_all, fits}
use Rattle.law_typing_values.specs.Laws.{TypesStay, ValuesStay}
use Rattle.law_lists.proofs.Lists.{and_parts}

-- ---- what is found stays

described_more : (ms : Program) (m : Module) (q : QName) (d : Desc) → description ms q ≡ Some d → description (ms ++ m ∷ []) q ≡ Some d
described_more [] m q d e = absurd cc
described_more (k ∷ ms) m q d e = go (bytes_eq q.«module» k.name) e (described_more ms m q d)
  where
    go : (b : Bool) → (if b then type_named k.types q.object else description ms q) ≡ Some d → (description ms q ≡ Some d → description (ms ++ m ∷ []) q ≡ Some d) → (if b then type_named k.types q.object else description (ms ++ m ∷ []) q) ≡ Some d
    go true h rest = h
    go false h rest = rest h

found_more : (ms : Program) (m : Module) (q : QName) (p : Procedure) → procedure_of ms q ≡ Some p → procedure_of (ms ++ m ∷ []) q ≡ Some p
found_more [] m q p e = absurd cc
found_more (k ∷ ms) m q p e = go (bytes_eq q.«module» k.name) e (found_more ms m q p)
  where
    go : (b : Bool) → (if b then procedure_named k.procedures q.object else procedure_of ms q) ≡ Some p → (procedure_of ms q ≡ Some p → procedure_of (ms ++ m ∷ []) q ≡ Some p) → (if b then procedure_named k.procedures q.object else procedure_of (ms ++ m ∷ []) q) ≡ Some p
    go true h rest = h
    go false h rest = rest h

basic_within : (types : QName → Option Desc) (n : ℕ) (b : Basic) → form_within types n (ref.Basic b) ≡ BasicForm b
basic_within types zero b = refl
basic_within types (suc n) b = refl

module _ (program : Program) (m : Module) (stay : TypesStay program m) where
  abbrev more : Program
  more = program ++ m ∷ []

  -- a type of the program is so behind, and of the same form
  held_more : (t : TypeRef) → is_held (description program) t ≡ true → (is_held (description more) t ≡ true) × (form_in more t ≡ form_in program t)
  held_more (ref.Basic b) h = (refl, basic_within (description more) (number_of_types more) b ∙ sym (basic_within (description program) (number_of_types program) b))
  held_more (ref.Named q) h = go (description program q) refl h
    where
      go : (o : Option Desc) → description program q ≡ o → is_held (λ x. o) (ref.Named q) ≡ true → (is_held (description more) (ref.Named q) ≡ true) × (form_in more (ref.Named q) ≡ form_in program (ref.Named q))
      go None e k = absurd (false≢true k)
      go (Some d) e k = (subst (λ o. is_held (λ x. o) (ref.Named q) ≡ true) (sym (described_more program m q d e)) refl, stay q d e)

  of_more : (t : TypeRef) (f : Form) → is_of program t f ≡ true → is_of more t f ≡ true
  of_more t f e =
      let h = and_parts (is_held (description program) t) (same_form (form_in program t) f) e in
      let a = held_more t h.0 in
      and_from (is_held (description more) t) (same_form (form_in more t) f) a.0 (ap (λ g. same_form g f) a.1 ∙ h.1)

  gives_more : (r : Option TypeRef) (fs : Formals) → gives program r fs ≡ true → gives more r fs ≡ true
  gives_more None NoResult e = refl
  gives_more None (AResult f) e = absurd (false≢true e)
  gives_more None (AFormal m f fs) e = absurd (false≢true e)
  gives_more (Some t) NoResult e = absurd (false≢true e)
  gives_more (Some t) (AResult f) e = of_more t f e
  gives_more (Some t) (AFormal m f fs) e = absurd (false≢true e)

  all_more : (ps : List TypedParameter) (r : Option TypeRef) (fs : Formals) → takes_all program ps r fs ≡ true → takes_all more ps r fs ≡ true
  all_more [] r fs e = gives_more r fs e
  all_more (p ∷ ps) r NoResult e = absurd (false≢true e)
  all_more (p ∷ ps) r (AResult f) e = absurd (false≢true e)
  all_more (p ∷ ps) r (AFormal m f fs) e =
      let h = and_parts (takes program p m f) (takes_all program ps r fs) e in
      let l = and_parts (is_of program p.of f) (same_passing p.passing (passing_for m f)) h.0 in
      and_from (takes more p m f) (takes_all more ps r fs) (and_from (is_of more p.of f) (same_passing p.passing (passing_for m f)) (of_more p.of f l.0) l.1) (all_more ps r fs h.1)

  fits_more : (fs : Formals) (q : QName) (o : Option Procedure) → procedure_of program q ≡ o → fits program fs o ≡ true → fits more fs (procedure_of more q) ≡ true
  fits_more fs q None i e = absurd (false≢true e)
  fits_more fs q (Some p) i e = subst (λ o. fits more fs o ≡ true) (sym (found_more program m q p i)) (all_more p.parameters p.result fs e)

-- THE LAW
pub values_stay : ValuesStay
values_stay program m stay fs q e =
    let h = and_parts (is_value q) (fits program fs (procedure_of program q)) e in
    and_from (is_value q) (fits (program ++ m ∷ []) fs (procedure_of (program ++ m ∷ []) q)) h.0 (fits_more program m stay fs q (procedure_of program q) refl h.1)
