-- The declarations of a whole program describe its types, each of them.
use Rattle.std.proofs.Common.{◌≡◌, ◌⊎◌, inl, inr, ℕ, zero, suc, ◌*◌, List, [], ◌∷◌, Option, Some, None, refl, sym, ap, subst, ◌∙◌}
use Rattle.std.specs.Prelude.{Bool, true, false, ◌&&◌, cond, bytes_eq, MatchOption, IsTrue, unwrap_or}
use Rattle.std.specs.Option.{option_map}
use Rattle.std.specs.List.{AllByRecursion}
use Rattle.ob_tree.specs.declared.names.QName.{QName}
use Rattle.ob_tree.specs.declared.ident.Mark.{Mark}
use Rattle.ob_types.specs.declared.types.Basic.{Basic}
use Rattle.ob_types.specs.declared.types.Basic.TheVariants as basic
use Rattle.ob_types.specs.declared.types.TypeRef.{TypeRef}
use Rattle.ob_types.specs.declared.types.TypeRef.TheVariants as ref
use Rattle.ob_types.specs.declared.desc.Desc.{Desc}
use Rattle.ob_types.specs.declared.desc.Desc.TheVariants as desc
use Rattle.ob_types.specs.declared.desc.RecordDesc.{RecordDesc}
use Rattle.ob_types.specs.declared.desc.Field.{Field}
use Rattle.ob_types.specs.Maps.{is_type}
use Rattle.ob_types.specs.Relations.{is_alias}
use Rattle.ob_types.specs.Tests.{target, target_of, follow, shape_at}
use Rattle.ob_meaning.specs.Values.{same_name, Program, Form, BasicForm, PointerForm, ProcedureForm, ArrayForm, OpenForm, RecordForm, Fields, NoField, AField, own_fields, base_line, base_fields, joined, fields_of, form_in, form_within, record_in, formals_in, words, described, description, number_of_types}
use Rattle.law_simulation_relation.specs.Layout.{field_offset}
use Rattle.law_simulation_relation.specs.Relation.{OrElse, FieldIn}
use Rattle.law_simulation_relation.proofs.Names.{name_true}
use Rattle.ob_layout.specs.Lists.{or_else}
use Rattle.ob_layout.specs.Words.{described_words, words_within, words_of}
use Rattle.ob_layout.specs.Members.{field_named, from_base, nearest_in, nearest, field_in_record}
use Rattle.ob_scheme.specs.Descriptions.{name_in, elements_in, open_words_in, own_name, elements_of, field_place, open_words}
use Rattle.law_typing_forms.specs.Said.{IsSound}
use Rattle.law_typing_forms.proofs.Shapes.{basic_is}
use Rattle.law_typing_forms.proofs.Within.{form_described}
use Rattle.law_typing_forms.proofs.Built.{OwnerIn, base_apart, alias_apart}
use Rattle.law_typing_env.specs.Sized.{IsSized}
use Rattle.law_typing_env.specs.Shallow.{IsShallow, AreShallow, passes_to, DescribesAll}
use Rattle.law_typing_env.proofs.Sized.{field_found}

-- ---- fields of its own

own_in : (form : TypeRef → Form) (q : QName) (fs : List Field) (x : List ℕ) → FieldIn (own_fields form q fs) q x → (f : Field) × (field_named x fs ≡ Some f)
own_in form q [] x h = absurd h
own_in form q (f ∷ fs) x h = by (bytes_eq x f.name) (same_name q q) refl h (λ h. own_in form q fs x h)
  where
    by : (a b : Bool) → bytes_eq x f.name ≡ a → OrElse (a && b) (Unit {0}) (FieldIn (own_fields form q fs) q x) → (FieldIn (own_fields form q fs) q x → (f : Field) × (field_named x fs ≡ Some f)) → (g : Field) × (cond (bytes_eq x f.name) (Some f) (field_named x fs) ≡ Some g)
    by true b e h r = (f, ap (λ c. cond c (Some f) (field_named x fs)) e)
    by false b e h r = let k = r h in (k.0, ap (λ c. cond c (Some f) (field_named x fs)) e ∙ k.1)

owner_of : (fs : Fields) (o : QName) (x : List ℕ) → FieldIn fs o x → OwnerIn o fs
owner_of NoField o x h = absurd h
owner_of (AField p y t fs) o x h = by (bytes_eq x y) (same_name o p) refl h (λ h. owner_of fs o x h)
  where
    by : (a b : Bool) → same_name o p ≡ b → OrElse (a && b) (Unit {0}) (FieldIn fs o x) → (FieldIn fs o x → OwnerIn o fs) → (o ≡ p) ⊎ OwnerIn o fs
    by true true e h r = inl (name_true o p e)
    by true false e h r = inr (r h)
    by false b e h r = inr (r h)

past_base : (q : QName) (x : List ℕ) (bs gs : Fields) → (OwnerIn q bs → ⊥) → FieldIn (joined bs gs) q x → FieldIn gs q x
past_base q x NoField gs never h = h
past_base q x (AField p y t bs) gs never h = by (bytes_eq x y) (same_name q p) refl h (λ h. past_base q x bs gs (λ i. never (inr i)) h)
  where
    by : (a b : Bool) → same_name q p ≡ b → OrElse (a && b) (Unit {0}) (FieldIn (joined bs gs) q x) → (FieldIn (joined bs gs) q x → FieldIn gs q x) → FieldIn gs q x
    by true true e h r = absurd (never (inl (name_true q p e)))
    by true false e h r = r h
    by false b e h r = r h

apart_array : {t : Form} {line : List QName} {fs : Fields} {n : ℕ} {e : Form} → t ≡ RecordForm line fs → t ≡ ArrayForm n e → ⊥
apart_array {line = line} {fs = fs} {n = n} {e = e} a b = let s : RecordForm line fs ≡ ArrayForm n e = sym a ∙ b in absurd cc

apart_open : {t : Form} {line : List QName} {fs : Fields} {e : Form} → t ≡ RecordForm line fs → t ≡ OpenForm e → ⊥
apart_open {line = line} {fs = fs} {e = e} a b = let s : RecordForm line fs ≡ OpenForm e = sym a ∙ b in absurd cc

module _ (program : Program) (sound : IsSound program) (sized : IsSized program) (shallow : AreShallow (description program)) where
  abbrev form : TypeRef → Form
  form = form_in program

  abbrev types : QName → Option Desc
  types = description program

  -- what is not declared is as BOOLEAN
  nothing_form : (n : ℕ) (q : QName) → types q ≡ None → form_within types n (ref.Named q) ≡ BasicForm basic.Boolean
  nothing_form zero q e = refl
  nothing_form (suc n) q e = ap (λ o. described (form_within types n) q o) e

  -- SIZES
  shallow_sizes : (n : ℕ) (t : TypeRef) → IsShallow types n t → words_within types n t ≡ words (form t)
  unfolding IsShallow
  shallow_sizes zero (ref.Basic b) h = sym (ap words (basic_is program b))
  shallow_sizes zero (ref.Named q) h = absurd h
  shallow_sizes (suc n) (ref.Basic b) h = sym (ap words (basic_is program b))
  shallow_sizes (suc n) (ref.Named q) h = by (types q) refl h (λ t h. shallow_sizes n t h)
    where
      so : (d : Desc) → types q ≡ Some d → described_words (words_within types n) (Some d) ≡ words (described form q (Some d)) → described_words (words_within types n) (Some d) ≡ words (record_in program q)
      so d e k = k ∙ sym (ap words (form_described program sound q d e))

      by : (o : Option Desc) → types q ≡ o → MatchOption o ⊥ (λ d. IsTrue (is_type d) × AllByRecursion (λ t. IsShallow types n t) (passes_to d)) → ((t : TypeRef) → IsShallow types n t → words_within types n t ≡ words (form t)) → described_words (words_within types n) o ≡ words (record_in program q)
      by None e h r = absurd h
      by (Some (desc.Const v)) e h r = so (desc.Const v) e refl
      by (Some (desc.Var m u)) e h r = so (desc.Var m u) e refl
      by (Some (desc.Proc s)) e h r = so (desc.Proc s) e refl
      by (Some (desc.Alias m u)) e h r = so (desc.Alias m u) e (r u h.1.0)
      by (Some (desc.Array m k u)) e h r = so (desc.Array m k u) e (ap (λ x. k * x) (r u h.1.0))
      by (Some (desc.OpenArray m u)) e h r = so (desc.OpenArray m u) e refl
      by (Some (desc.Pointer m u)) e h r = so (desc.Pointer m u) e refl
      by (Some (desc.ProcType m s)) e h r = so (desc.ProcType m s) e refl
      by (Some (desc.Record s)) e h r = sized.words_are q s e

  sizes_all : (t : TypeRef) → words_of types t ≡ words (form t)
  sizes_all (ref.Basic b) = sym (ap words (basic_is program b))
  sizes_all (ref.Named q) = by (types q) refl
    where
      by : (o : Option Desc) → types q ≡ o → words_of types (ref.Named q) ≡ words (record_in program q)
      by None e = ap (described_words (words_within types 200)) e ∙ sym (ap words (nothing_form (number_of_types program) q e))
      by (Some d) e = shallow_sizes 201 (ref.Named q) (shallow q d e)

  -- WHAT A TYPE STANDS FOR
  data Stands (t : TypeRef) (u : TypeRef) : Type 0 where
    of_basic : (b : Basic) → u ≡ ref.Basic b → form t ≡ BasicForm b → Stands t u
    of_nothing : (q : QName) → u ≡ ref.Named q → types q ≡ None → form t ≡ BasicForm basic.Boolean → Stands t u
    of_name : (q : QName) (d : Desc) → u ≡ ref.Named q → types q ≡ Some d → is_alias d ≡ false → form t ≡ described form q (Some d) → Stands t u

  stands_on_with : (t s u : TypeRef) → form t ≡ form s → Stands s u → Stands t u
  stands_on_with t s u e (of_basic b k f) = of_basic b k (e ∙ f)
  stands_on_with t s u e (of_nothing q k n f) = of_nothing q k n (e ∙ f)
  stands_on_with t s u e (of_name q d k h a f) = of_name q d k h a (e ∙ f)

  shallow_stands : (n : ℕ) (t : TypeRef) → IsShallow types n t → Stands t (target types n t)
  unfolding IsShallow target
  shallow_stands zero (ref.Basic b) h = of_basic b refl (basic_is program b)
  shallow_stands zero (ref.Named q) h = absurd h
  shallow_stands (suc n) (ref.Basic b) h = of_basic b refl (basic_is program b)
  shallow_stands (suc n) (ref.Named q) h = by (types q) refl h (λ t h. shallow_stands n t h)
    where
      at : (d : Desc) → types q ≡ Some d → is_alias d ≡ false → Stands (ref.Named q) (ref.Named q)
      at d e a = of_name q d refl e a (form_described program sound q d e)

      by : (o : Option Desc) → types q ≡ o → MatchOption o ⊥ (λ d. IsTrue (is_type d) × AllByRecursion (λ t. IsShallow types n t) (passes_to d)) → ((t : TypeRef) → IsShallow types n t → Stands t (target types n t)) → Stands (ref.Named q) (follow (target_of o) (ref.Named q) (λ u. target types n u))
      by None e h r = absurd h
      by (Some (desc.Const v)) e h r = at (desc.Const v) e refl
      by (Some (desc.Var m u)) e h r = at (desc.Var m u) e refl
      by (Some (desc.Proc s)) e h r = at (desc.Proc s) e refl
      by (Some (desc.Alias m u)) e h r = stands_on_with (ref.Named q) u (target types n u) (form_described program sound q (desc.Alias m u) e) (r u h.1.0)
      by (Some (desc.Array m k u)) e h r = at (desc.Array m k u) e refl
      by (Some (desc.OpenArray m u)) e h r = at (desc.OpenArray m u) e refl
      by (Some (desc.Pointer m u)) e h r = at (desc.Pointer m u) e refl
      by (Some (desc.ProcType m s)) e h r = at (desc.ProcType m s) e refl
      by (Some (desc.Record s)) e h r = at (desc.Record s) e refl

  stands : (t : TypeRef) → Stands t (target types 201 t)
  unfolding target
  stands (ref.Basic b) = of_basic b refl (basic_is program b)
  stands (ref.Named q) = by (types q) refl
    where
      by : (o : Option Desc) → types q ≡ o → Stands (ref.Named q) (target types 201 (ref.Named q))
      by None e = of_nothing q (ap (λ o. follow (target_of o) (ref.Named q) (λ u. target types 200 u)) e) e (nothing_form (number_of_types program) q e)
      by (Some d) e = shallow_stands 201 (ref.Named q) (shallow q d e)

  shape_is : (u : TypeRef) (q : QName) (o : Option Desc) → u ≡ ref.Named q → types q ≡ o → shape_at types u ≡ o
  shape_is u q o is e = ap (shape_at types) is ∙ e

  -- ELEMENTS
  elements_all : (t : TypeRef) (n : ℕ) (e : Form) → Stands t (target types 201 t) → form t ≡ ArrayForm n e → elements_of types t ≡ Some n
  elements_all t n e (of_basic b k f) h = let s : BasicForm b ≡ ArrayForm n e = sym f ∙ h in absurd cc
  elements_all t n e (of_nothing q k j f) h = let s : BasicForm basic.Boolean ≡ ArrayForm n e = sym f ∙ h in absurd cc
  elements_all t n e (of_name q (desc.Const v) k j a f) h = let s : BasicForm basic.Boolean ≡ ArrayForm n e = sym f ∙ h in absurd cc
  elements_all t n e (of_name q (desc.Var m u) k j a f) h = let s : BasicForm basic.Boolean ≡ ArrayForm n e = sym f ∙ h in absurd cc
  elements_all t n e (of_name q (desc.Proc g) k j a f) h = let s : BasicForm basic.Boolean ≡ ArrayForm n e = sym f ∙ h in absurd cc
  elements_all t n e (of_name q (desc.Alias m u) k j a f) h = absurd cc
  elements_all t n e (of_name q (desc.Array m i u) k j a f) h = let s : ArrayForm i (form u) ≡ ArrayForm n e = sym f ∙ h in let g : i ≡ n = cc in ap elements_in (shape_is (target types 201 t) q (Some (desc.Array m i u)) k j) ∙ ap (λ x. Some x) g
  elements_all t n e (of_name q (desc.OpenArray m u) k j a f) h = let s : OpenForm (form u) ≡ ArrayForm n e = sym f ∙ h in absurd cc
  elements_all t n e (of_name q (desc.Pointer m u) k j a f) h = let s : PointerForm u ≡ ArrayForm n e = sym f ∙ h in absurd cc
  elements_all t n e (of_name q (desc.ProcType m g) k j a f) h = let s : ProcedureForm (formals_in program g) ≡ ArrayForm n e = sym f ∙ h in absurd cc
  elements_all t n e (of_name q (desc.Record r) k j a f) h = absurd (apart_array f h)

  -- OPEN ARRAYS
  opens_all : (t : TypeRef) (e : Form) → Stands t (target types 201 t) → form t ≡ OpenForm e → (elements_of types t ≡ None) × (open_words types t ≡ words e)
  opens_all t e (of_basic b k f) h = let s : BasicForm b ≡ OpenForm e = sym f ∙ h in absurd cc
  opens_all t e (of_nothing q k j f) h = let s : BasicForm basic.Boolean ≡ OpenForm e = sym f ∙ h in absurd cc
  opens_all t e (of_name q (desc.Const v) k j a f) h = let s : BasicForm basic.Boolean ≡ OpenForm e = sym f ∙ h in absurd cc
  opens_all t e (of_name q (desc.Var m u) k j a f) h = let s : BasicForm basic.Boolean ≡ OpenForm e = sym f ∙ h in absurd cc
  opens_all t e (of_name q (desc.Proc g) k j a f) h = let s : BasicForm basic.Boolean ≡ OpenForm e = sym f ∙ h in absurd cc
  opens_all t e (of_name q (desc.Alias m u) k j a f) h = absurd cc
  opens_all t e (of_name q (desc.Array m i u) k j a f) h = let s : ArrayForm i (form u) ≡ OpenForm e = sym f ∙ h in absurd cc
  opens_all t e (of_name q (desc.OpenArray m u) k j a f) h =
      let s : OpenForm (form u) ≡ OpenForm e = sym f ∙ h in
      let g : form u ≡ e = cc in
      let d = shape_is (target types 201 t) q (Some (desc.OpenArray m u)) k j in
      (ap elements_in d, ap (open_words_in types) d ∙ sizes_all u ∙ ap words g)
  opens_all t e (of_name q (desc.Pointer m u) k j a f) h = let s : PointerForm u ≡ OpenForm e = sym f ∙ h in absurd cc
  opens_all t e (of_name q (desc.ProcType m g) k j a f) h = let s : ProcedureForm (formals_in program g) ≡ OpenForm e = sym f ∙ h in absurd cc
  opens_all t e (of_name q (desc.Record r) k j a f) h = absurd (apart_open f h)

  -- RECORDS
  records_all : (t : TypeRef) (p : QName) (l : List QName) (gs : Fields) → Stands t (target types 201 t) → form t ≡ RecordForm (p ∷ l) gs → own_name types t ≡ Some p
  records_all t p l gs (of_basic b k f) h = let s : BasicForm b ≡ RecordForm (p ∷ l) gs = sym f ∙ h in absurd cc
  records_all t p l gs (of_nothing q k j f) h = let s : BasicForm basic.Boolean ≡ RecordForm (p ∷ l) gs = sym f ∙ h in absurd cc
  records_all t p l gs (of_name q (desc.Const v) k j a f) h = let s : BasicForm basic.Boolean ≡ RecordForm (p ∷ l) gs = sym f ∙ h in absurd cc
  records_all t p l gs (of_name q (desc.Var m u) k j a f) h = let s : BasicForm basic.Boolean ≡ RecordForm (p ∷ l) gs = sym f ∙ h in absurd cc
  records_all t p l gs (of_name q (desc.Proc g) k j a f) h = let s : BasicForm basic.Boolean ≡ RecordForm (p ∷ l) gs = sym f ∙ h in absurd cc
  records_all t p l gs (of_name q (desc.Alias m u) k j a f) h = absurd cc
  records_all t p l gs (of_name q (desc.Array m i u) k j a f) h = let s : ArrayForm i (form u) ≡ RecordForm (p ∷ l) gs = sym f ∙ h in absurd cc
  records_all t p l gs (of_name q (desc.OpenArray m u) k j a f) h = let s : OpenForm (form u) ≡ RecordForm (p ∷ l) gs = sym f ∙ h in absurd cc
  records_all t p l gs (of_name q (desc.Pointer m u) k j a f) h = let s : PointerForm u ≡ RecordForm (p ∷ l) gs = sym f ∙ h in absurd cc
  records_all t p l gs (of_name q (desc.ProcType m g) k j a f) h = let s : ProcedureForm (formals_in program g) ≡ RecordForm (p ∷ l) gs = sym f ∙ h in absurd cc
  records_all t p l gs (of_name q (desc.Record r) k j a f) h =
      let s : RecordForm (q ∷ base_line form r.base) (joined (base_fields form r.base) (own_fields form q r.fields)) ≡ RecordForm (p ∷ l) gs = sym f ∙ h in
      let n : q ≡ p = cc in
      ap name_in k ∙ ap (λ x. Some x) n

  -- FIELDS
  record_field : (o : QName) (r : RecordDesc) (x : List ℕ) → types o ≡ Some (desc.Record r) → FieldIn (fields_of (record_in program o)) o x → field_place types o x ≡ field_offset (fields_of (record_in program o)) o x
  unfolding field_place
  record_field o r x e h =
      let fs : fields_of (record_in program o) ≡ joined (base_fields form r.base) (own_fields form o r.fields) = ap fields_of (form_described program sound o (desc.Record r) e) in
      let own = past_base o x (base_fields form r.base) (own_fields form o r.fields) (base_apart program sound o r e) (subst (λ k. FieldIn k o x) fs h) in
      let f = own_in form o r.fields x own in
      let k = field_found r.fields x f.0 f.1 in
      let there : nearest (field_in_record x) types 201 (ref.Named o) ≡ Some f.0 = ap (λ d. nearest_in (field_in_record x) (nearest (field_in_record x) types 200) d) e ∙ ap (λ y. or_else y (from_base (nearest (field_in_record x) types 200) r.base)) f.1 in
      ap (λ y. unwrap_or (option_map (λ f. f.place) y) 0) there ∙ sized.places o r f.0 e k.0 ∙ ap (λ y. field_offset (fields_of (record_in program o)) o y) (sym k.1)

  fields_all : (o : QName) (x : List ℕ) → FieldIn (fields_of (record_in program o)) o x → field_place types o x ≡ field_offset (fields_of (record_in program o)) o x
  fields_all o x h = by (types o) refl
    where
      none : (f : Form) → record_in program o ≡ f → FieldIn (fields_of f) o x
      none f e = subst (λ k. FieldIn (fields_of k) o x) e h

      alias : (m : Mark) (u : TypeRef) → types o ≡ Some (desc.Alias m u) → OwnerIn o (fields_of (form u))
      alias m u e = owner_of (fields_of (form u)) o x (none (form u) (form_described program sound o (desc.Alias m u) e))

      by : (d : Option Desc) → types o ≡ d → field_place types o x ≡ field_offset (fields_of (record_in program o)) o x
      by None e = absurd (none (BasicForm basic.Boolean) (nothing_form (number_of_types program) o e))
      by (Some (desc.Const v)) e = absurd (none (BasicForm basic.Boolean) (form_described program sound o (desc.Const v) e))
      by (Some (desc.Var m u)) e = absurd (none (BasicForm basic.Boolean) (form_described program sound o (desc.Var m u) e))
      by (Some (desc.Proc s)) e = absurd (none (BasicForm basic.Boolean) (form_described program sound o (desc.Proc s) e))
      by (Some (desc.Alias m u)) e = absurd (alias_apart program sound o m u e (alias m u e))
      by (Some (desc.Array m n u)) e = absurd (none (ArrayForm n (form u)) (form_described program sound o (desc.Array m n u) e))
      by (Some (desc.OpenArray m u)) e = absurd (none (OpenForm (form u)) (form_described program sound o (desc.OpenArray m u) e))
      by (Some (desc.Pointer m u)) e = absurd (none (PointerForm u) (form_described program sound o (desc.Pointer m u) e))
      by (Some (desc.ProcType m s)) e = absurd (none (ProcedureForm (formals_in program s)) (form_described program sound o (desc.ProcType m s) e))
      by (Some (desc.Record r)) e = record_field o r x e h

  -- DECLARATIONS DESCRIBE
  pub describes_all : DescribesAll types program
  describes_all = record {
    sizes = sizes_all;
    elements = λ t n e h. elements_all t n e (stands t) h;
    opens = λ t e h. (opens_all t e (stands t) h).0;
    element_sizes = λ t e h. (opens_all t e (stands t) h).1;
    records = λ t q line fs h. records_all t q line fs (stands t) h;
    fields = fields_all;
  }
