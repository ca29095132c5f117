-- Types that the rules take for equal are of one form, and so are procedure types whose signatures match.
use Rattle.std.proofs.Common.{◌≡◌, ℕ, zero, suc, Bool, true, false, List, [], ◌∷◌, map as each, Option, Some, None, refl, sym, ap, ◌∙◌, ⊎_elim}
use Rattle.std.specs.Prelude.{◌&&◌, ◌⊎◌}
use Rattle.std.specs.List.{AllByRecursion}
use Rattle.std.proofs.lemmas.Bool.{false≢true}
use Rattle.ob_tree.specs.declared.names.QName.{QName}
use Rattle.ob_types.specs.declared.types.Mode.{Mode}
use Rattle.ob_types.specs.declared.types.Mode.TheVariants as mode
use Rattle.ob_types.specs.declared.types.TypeRef.{TypeRef}
use Rattle.ob_types.specs.declared.types.Signature.{Signature}
use Rattle.ob_types.specs.declared.desc.Desc.{Desc}
use Rattle.ob_types.specs.declared.desc.Desc.TheVariants as desc
use Rattle.ob_types.specs.Maps.{listed}
use Rattle.ob_types.specs.Tests.{same_at, modes_alike, params_alike, results_alike, parts_alike, shapes_alike, signatures_alike, equal_at}
use Rattle.ob_types.specs.AssigningTests.{alike_to}
use Rattle.ob_meaning.specs.Values.{Program, Form, OpenForm, ProcedureForm, Formals, AResult, AFormal, result_formals, formals_before, form_in, formals_in}
use Rattle.ob_rules.specs.Shapes.{shape, open_element, signature_at}
use Rattle.law_typing_forms.specs.Formed.{IsDeclared, Formed}
use Rattle.law_typing_forms.proofs.Finds as finds
use Rattle.law_typing_forms.proofs.Shapes.{same_form, shaped, open_form, procedure_form}
use Rattle.law_lists.proofs.Lists.{all_front, either_true}

both_true : (a b : Bool) → (a && b) ≡ true → (a ≡ true) × (b ≡ true)
both_true true b e = (refl, e)
both_true false b e = absurd (false≢true e)

mode_is : (a b : Mode) → modes_alike a b ≡ true → a ≡ b
mode_is mode.Value mode.Value e = refl
mode_is mode.Value mode.Var e = absurd (false≢true e)
mode_is mode.Var mode.Value e = absurd (false≢true e)
mode_is mode.Var mode.Var e = refl

-- the types of parameters are those of a program
abbrev pub AreDeclared : List (Mode × TypeRef) → Type 0
AreDeclared ks = AllByRecursion IsDeclared (each (λ k. k.1) ks)

module _ (map : QName → Option Desc) (program : Program) (formed : Formed map program) where
  abbrev form : TypeRef → Form
  form = form_in program

  -- EQUAL TYPES, by chains of at most so many steps
  abbrev Equal : ℕ → Type 0
  Equal n = (a b : TypeRef) → IsDeclared a → IsDeclared b → equal_at map n a b ≡ true → form a ≡ form b

  abbrev match_at : ℕ → Signature → Signature → Bool
  match_at n s r = signatures_alike (λ x y. equal_at map n x y) (λ x y. same_at map x y) s r

  -- ---- signatures

  result_alike : (r s : Option TypeRef) → results_alike (λ x y. same_at map x y) r s ≡ true → result_formals form r ≡ result_formals form s
  result_alike None None e = refl
  result_alike None (Some u) e = absurd (false≢true e)
  result_alike (Some t) None e = absurd (false≢true e)
  result_alike (Some t) (Some u) e = ap (λ x. AResult x) (same_form map program formed t u e)

  before_alike : (n : ℕ) → Equal n → (ks ls : List (Mode × TypeRef)) (a b : Formals) → AreDeclared ks → AreDeclared ls → params_alike (λ x y. equal_at map n x y) ks ls ≡ true → a ≡ b → formals_before form ks a ≡ formals_before form ls b
  before_alike n each [] [] a b h k e i = i
  before_alike n each [] (l ∷ ls) a b h k e i = absurd (false≢true e)
  before_alike n each (k ∷ ks) [] a b h l e i = absurd (false≢true e)
  before_alike n each (k ∷ ks) (l ∷ ls) a b h g e i =
      let x = both_true (modes_alike k.0 l.0) (equal_at map n k.1 l.1 && params_alike (λ x y. equal_at map n x y) ks ls) e in
      let y = both_true (equal_at map n k.1 l.1) (params_alike (λ x y. equal_at map n x y) ks ls) x.1 in
      ap (λ m. AFormal m (form k.1) (formals_before form ks a)) (mode_is k.0 l.0 x.0)
      ∙ ap (λ t. AFormal l.0 t (formals_before form ks a)) (each k.1 l.1 h.0 g.0 y.0)
      ∙ ap (λ r. AFormal l.0 (form l.1) r) (before_alike n each ks ls a b h.1 g.1 y.1 i)

  formals_match : (n : ℕ) → Equal n → (s r : Signature) → AreDeclared s.params → AreDeclared r.params → match_at n s r ≡ true → formals_in program s ≡ formals_in program r
  formals_match n each s r h k e =
      let x = both_true (params_alike (λ x y. equal_at map n x y) s.params r.params) (results_alike (λ x y. same_at map x y) s.result r.result) e in
      before_alike n each s.params r.params (result_formals form s.result) (result_formals form r.result) h k x.0 (result_alike s.result r.result x.1)

  -- ---- types

  -- the elements of an open array are of a type of the program
  element_declared : (t u : TypeRef) → open_element map t ≡ Some u → IsDeclared u
  element_declared t u e =
      let k = finds.is_open (shape map t) u e in
      let s = shaped map program formed t (desc.OpenArray k.0 u) k.1 in
      (formed.declared s.q (desc.OpenArray k.0 u) s.has).0

  -- and so are the parameters of a procedure type
  params_declared : (t : TypeRef) (g : Signature) → signature_at map t ≡ Some g → AreDeclared g.params
  params_declared t g e =
      let k = finds.is_procedure (shape map t) g e in
      let s = shaped map program formed t (desc.ProcType k.0 g) k.1 in
      all_front IsDeclared (each (λ k. k.1) g.params) (listed g.result) (formed.declared s.q (desc.ProcType k.0 g) s.has)

  by_parts : (n : ℕ) → Equal n → (a b : TypeRef) → IsDeclared a → IsDeclared b → (x y : Option TypeRef) → open_element map a ≡ x → open_element map b ≡ y → (s r : Option Signature) → signature_at map a ≡ s → signature_at map b ≡ r → parts_alike (λ u v. equal_at map n u v) (match_at n) x y s r ≡ true → form a ≡ form b
  by_parts n each a b da db (Some u) (Some v) i j s r k l e = open_form map program formed a u da i ∙ ap (λ f. OpenForm f) (each u v (element_declared a u i) (element_declared b v j) e) ∙ sym (open_form map program formed b v db j)
  by_parts n each a b da db (Some u) None i j s r k l e = absurd (false≢true e)
  by_parts n each a b da db None y i j (Some s) (Some r) k l e =
      procedure_form map program formed a s k ∙ ap (λ f. ProcedureForm f) (formals_match n each s r (params_declared a s k) (params_declared b r l) e) ∙ sym (procedure_form map program formed b r l)
  by_parts n each a b da db None y i j (Some s) None k l e = absurd (false≢true e)
  by_parts n each a b da db None y i j None r k l e = absurd (false≢true e)

  pub equal_form : (n : ℕ) → Equal n
  unfolding equal_at
  equal_form zero a b da db e = same_form map program formed a b e
  equal_form (suc n) a b da db e =
      ⊎_elim (λ h. same_form map program formed a b h)
      (λ h. by_parts n (equal_form n) a b da db (open_element map a) (open_element map b) refl refl (signature_at map a) (signature_at map b) refl refl h)
      (either_true (same_at map a b) (shapes_alike (λ u v. equal_at map n u v) (match_at n) (shape map a) (shape map b)) e)

  -- SIGNATURES THAT MATCH
  pub alike_formals : (s r : Signature) → AreDeclared s.params → AreDeclared r.params → alike_to map s (Some r) ≡ true → formals_in program s ≡ formals_in program r
  alike_formals s r h k e = formals_match 201 (equal_form 201) s r h k e
