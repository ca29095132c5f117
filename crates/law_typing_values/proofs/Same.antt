-- Forms and passings that are told the same are so, and each is told the same as itself.
use Rattle.std.proofs.Common.{◌≡◌, true, List, [], ◌∷◌, refl, ap, ◌∙◌}
use Rattle.std.specs.Prelude.{◌&&◌, nat_eq, bytes_eq}
use Rattle.std.proofs.lemmas.Bool.{false≢true, and_from, eqb-true}
use Rattle.ob_tree.specs.declared.names.QName.{QName}
use Rattle.ob_types.specs.declared.types.Basic.{Basic}
use Rattle.ob_types.specs.declared.types.Mode.{Mode}
use Rattle.ob_types.specs.declared.types.Mode.TheVariants as mode
use Rattle.ob_types.specs.declared.types.TypeRef.{TypeRef}
use Rattle.ob_types.specs.declared.types.TypeRef.TheVariants as ref
use Rattle.ob_types.specs.declared.typed.Passing.{Passing}
use Rattle.ob_types.specs.declared.typed.Passing.TheVariants as passing
use Rattle.ob_types.specs.Tests.{basic_number, type_eq, modes_alike}
use Rattle.ob_types.proofs.Sameness.{type_eq_decides}
use Rattle.ob_meaning.specs.Values.{Form, BasicForm, PointerForm, ProcedureForm, ArrayForm, OpenForm, RecordForm, Fields, NoField, AField, Formals, NoResult, AResult, AFormal, same_name}
use Rattle.law_simulation_relation.proofs.Names.{nat_same, bytes_true, bytes_same, name_true, name_same}
use Rattle.law_typing_values.specs.Same.{same_line, same_form, same_fields, same_formals, same_passing}
use Rattle.law_lists.proofs.Lists.{and_parts}

-- ---- types and modes

type_is : (t u : TypeRef) → type_eq t u ≡ true → t ≡ u
type_is t u e = (type_eq_decides t u).0 e

type_same : (t : TypeRef) → type_eq t t ≡ true
type_same t = (type_eq_decides t t).1 refl

basic_of : TypeRef → Basic → Basic
basic_of (ref.Basic b) a = b
basic_of (ref.Named q) a = a

basic_is : (a b : Basic) → nat_eq (basic_number a) (basic_number b) ≡ true → a ≡ b
unfolding basic_of
basic_is a b e = ap (λ t. basic_of t a) (type_is (ref.Basic a) (ref.Basic b) e)

mode_is : (a b : Mode) → modes_alike a b ≡ true → a ≡ b
mode_is mode.Value mode.Value e = refl
mode_is mode.Value mode.Var e = absurd (false≢true e)
mode_is mode.Var mode.Value e = absurd (false≢true e)
mode_is mode.Var mode.Var e = refl

mode_same : (a : Mode) → modes_alike a a ≡ true
mode_same mode.Value = refl
mode_same mode.Var = refl

-- ---- forms

line_is : (qs rs : List QName) → same_line qs rs ≡ true → qs ≡ rs
line_is [] [] e = refl
line_is [] (r ∷ rs) e = absurd (false≢true e)
line_is (q ∷ qs) [] e = absurd (false≢true e)
line_is (q ∷ qs) (r ∷ rs) e =
    let h = and_parts (same_name q r) (same_line qs rs) e in
    ap (λ x. x ∷ qs) (name_true q r h.0) ∙ ap (λ xs. r ∷ xs) (line_is qs rs h.1)

line_same : (qs : List QName) → same_line qs qs ≡ true
line_same [] = refl
line_same (q ∷ qs) = and_from (same_name q q) (same_line qs qs) (name_same q) (line_same qs)

mutual
  pub form_is : (a b : Form) → same_form a b ≡ true → a ≡ b
  form_is (BasicForm a) (BasicForm b) e = ap (λ x. BasicForm x) (basic_is a b e)
  form_is (PointerForm t) (PointerForm u) e = ap (λ x. PointerForm x) (type_is t u e)
  form_is (ProcedureForm fs) (ProcedureForm gs) e = ap (λ x. ProcedureForm x) (formals_are fs gs e)
  form_is (ArrayForm n a) (ArrayForm k b) e =
      let h = and_parts (nat_eq n k) (same_form a b) e in
      ap (λ x. ArrayForm x a) (eqb-true n k h.0) ∙ ap (λ x. ArrayForm k x) (form_is a b h.1)
  form_is (OpenForm a) (OpenForm b) e = ap (λ x. OpenForm x) (form_is a b e)
  form_is (RecordForm line fs) (RecordForm other gs) e =
      let h = and_parts (same_line line other) (same_fields fs gs) e in
      ap (λ x. RecordForm x fs) (line_is line other h.0) ∙ ap (λ x. RecordForm other x) (fields_are fs gs h.1)
  form_is a b e = absurd (false≢true e)

  pub fields_are : (fs gs : Fields) → same_fields fs gs ≡ true → fs ≡ gs
  fields_are NoField NoField e = refl
  fields_are NoField (AField p y u gs) e = absurd (false≢true e)
  fields_are (AField o x t fs) NoField e = absurd (false≢true e)
  fields_are (AField o x t fs) (AField p y u gs) e =
      let h = and_parts (same_name o p) (bytes_eq x y && (same_form t u && same_fields fs gs)) e in
      let k = and_parts (bytes_eq x y) (same_form t u && same_fields fs gs) h.1 in
      let l = and_parts (same_form t u) (same_fields fs gs) k.1 in
      ap (λ z. AField z x t fs) (name_true o p h.0)
      ∙ ap (λ z. AField p z t fs) (bytes_true x y k.0)
      ∙ ap (λ z. AField p y z fs) (form_is t u l.0)
      ∙ ap (λ z. AField p y u z) (fields_are fs gs l.1)

  pub formals_are : (fs gs : Formals) → same_formals fs gs ≡ true → fs ≡ gs
  formals_are NoResult NoResult e = refl
  formals_are (AResult t) (AResult u) e = ap (λ x. AResult x) (form_is t u e)
  formals_are (AFormal m t fs) (AFormal k u gs) e =
      let h = and_parts (modes_alike m k) (same_form t u && same_formals fs gs) e in
      let l = and_parts (same_form t u) (same_formals fs gs) h.1 in
      ap (λ z. AFormal z t fs) (mode_is m k h.0) ∙ ap (λ z. AFormal k z fs) (form_is t u l.0) ∙ ap (λ z. AFormal k u z) (formals_are fs gs l.1)
  formals_are fs gs e = absurd (false≢true e)

mutual
  pub form_same : (a : Form) → same_form a a ≡ true
  form_same (BasicForm b) = nat_same (basic_number b)
  form_same (PointerForm t) = type_same t
  form_same (ProcedureForm fs) = formals_same fs
  form_same (ArrayForm n a) = and_from (nat_eq n n) (same_form a a) (nat_same n) (form_same a)
  form_same (OpenForm a) = form_same a
  form_same (RecordForm line fs) = and_from (same_line line line) (same_fields fs fs) (line_same line) (fields_same fs)

  pub fields_same : (fs : Fields) → same_fields fs fs ≡ true
  fields_same NoField = refl
  fields_same (AField o x t fs) =
      and_from (same_name o o) (bytes_eq x x && (same_form t t && same_fields fs fs)) (name_same o)
      (and_from (bytes_eq x x) (same_form t t && same_fields fs fs) (bytes_same x)
      (and_from (same_form t t) (same_fields fs fs) (form_same t) (fields_same fs)))

  pub formals_same : (fs : Formals) → same_formals fs fs ≡ true
  formals_same NoResult = refl
  formals_same (AResult t) = form_same t
  formals_same (AFormal m t fs) = and_from (modes_alike m m) (same_form t t && same_formals fs fs) (mode_same m) (and_from (same_form t t) (same_formals fs fs) (form_same t) (formals_same fs))

-- ---- passings

pub passing_is : (a b : Passing) → same_passing a b ≡ true → a ≡ b
passing_is passing.Scalar passing.Scalar e = refl
passing_is passing.Structure passing.Structure e = refl
passing_is passing.OpenArray passing.OpenArray e = refl
passing_is passing.Variable passing.Variable e = refl
passing_is passing.VariableRecord passing.VariableRecord e = refl
passing_is passing.VariableOpenArray passing.VariableOpenArray e = refl
passing_is a b e = absurd (false≢true e)

pub passing_same : (a : Passing) → same_passing a a ≡ true
passing_same passing.Scalar = refl
passing_same passing.Structure = refl
passing_same passing.OpenArray = refl
passing_same passing.Variable = refl
passing_same passing.VariableRecord = refl
passing_same passing.VariableOpenArray = refl
