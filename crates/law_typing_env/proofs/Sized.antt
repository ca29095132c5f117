-- A formed map whose records have the words and places of the program's describes the types that it holds.
use Rattle.std.proofs.Common.{◌≡◌, ◌⊎◌, inl, inr, ℕ, zero, suc, ◌*◌, List, [], ◌∷◌, Option, Some, None, refl, sym, ap, ◌∙◌}
use Rattle.std.specs.Prelude.{Bool, true, false, cond, bytes_eq, MatchOption, IsTrue, unwrap_or}
use Rattle.std.specs.Option.{option_map}
use Rattle.std.specs.List.{AllByRecursion}
use Rattle.ob_tree.specs.declared.names.QName.{QName}
use Rattle.ob_types.specs.declared.types.TypeRef.{TypeRef}
use Rattle.ob_types.specs.declared.types.TypeRef.TheVariants as ref
use Rattle.ob_types.specs.declared.desc.Desc.{Desc}
use Rattle.ob_types.specs.declared.desc.Desc.TheVariants as desc
use Rattle.ob_types.specs.declared.desc.RecordDesc.{RecordDesc}
use Rattle.ob_types.specs.declared.desc.Field.{Field}
use Rattle.ob_types.specs.Maps.{is_type, stands_on, IsHeld, IsWithin}
use Rattle.ob_types.specs.Relations.{is_alias, IsGrounded}
use Rattle.ob_types.specs.Tests.{target, shape_at}
use Rattle.ob_meaning.specs.Values.{Program, Form, BasicForm, PointerForm, ProcedureForm, ArrayForm, OpenForm, RecordForm, Fields, base_line, base_fields, joined, fields_of, form_in, record_in, formals_in, words}
use Rattle.law_simulation_relation.specs.Layout.{field_offset}
use Rattle.law_simulation_relation.proofs.Names.{bytes_true}
use Rattle.ob_rules.specs.Shapes.{same_name}
use Rattle.ob_rules.specs.Names.{out_string}
use Rattle.ob_layout.specs.Lists.{or_else}
use Rattle.ob_layout.specs.Words.{described_words, words_within, words_of}
use Rattle.ob_layout.specs.Members.{field_named, from_base, nearest_in, nearest, field_in_record}
use Rattle.ob_scheme.specs.Descriptions.{name_in, elements_in, open_words_in, own_name, elements_of, field_place, open_words}
use Rattle.law_typing_forms.specs.Formed.{Formed}
use Rattle.law_typing_forms.specs.Said.{IsOneOf}
use Rattle.law_typing_forms.proofs.Saying.{same_is}
use Rattle.law_typing_forms.proofs.Shapes.{basic_is, target_form}
use Rattle.law_typing_forms.proofs.Steady.{grounded_steady}
use Rattle.law_typing_forms.proofs.Sorts.{Sort, basic, named, sort}
use Rattle.law_typing_env.specs.Sized.{Describes}

pub field_found : (fs : List Field) (x : List ℕ) (f : Field) → field_named x fs ≡ Some f → IsOneOf fs f × (x ≡ f.name)
field_found [] x f e = absurd cc
field_found (g ∷ fs) x f e = by (bytes_eq x g.name) refl e (λ e. field_found fs x f e)
  where
    by : (b : Bool) → bytes_eq x g.name ≡ b → cond b (Some g) (field_named x fs) ≡ Some f → (field_named x fs ≡ Some f → IsOneOf fs f × (x ≡ f.name)) → ((g ≡ f) ⊎ IsOneOf fs f) × (x ≡ f.name)
    by true n e r = let k : g ≡ f = cc in (inl k, bytes_true x g.name n ∙ ap (λ (y : Field). y.name) k)
    by false n e r = let k = r e in (inr k.0, k.1)

module _ (types : QName → Option Desc) (program : Program) (formed : Formed types program) (grounded : IsGrounded types) where
  abbrev form : TypeRef → Form
  form = form_in program

  -- the map has nothing of the parameter of Out.String
  module _ (out : types out_string ≡ None) (words_are : (q : QName) (r : RecordDesc) → types q ≡ Some (desc.Record r) → r.words ≡ words (record_in program q)) where
    no_out : (q : QName) (d : Desc) → types q ≡ Some d → same_name q out_string ≡ false
    no_out q d e = by (same_name q out_string) refl
      where
        by : (b : Bool) → same_name q out_string ≡ b → b ≡ false
        by true s = let bad : Some d ≡ None = sym e ∙ ap types (same_is q out_string s) ∙ out in absurd cc
        by false s = refl

    -- SIZES
    within_sizes : (n : ℕ) (t : TypeRef) → IsWithin types n t → words_within types n t ≡ words (form t)
    unfolding IsWithin
    within_sizes zero (ref.Basic b) h = sym (ap words (basic_is program b))
    within_sizes zero (ref.Named q) h = absurd h
    within_sizes (suc n) (ref.Basic b) h = sym (ap words (basic_is program b))
    within_sizes (suc n) (ref.Named q) h = by (types q) refl h (λ t h. within_sizes n t h)
      where
        by : (o : Option Desc) → types q ≡ o → MatchOption o ⊥ (λ d. IsTrue (is_type d) × AllByRecursion (λ t. IsWithin types n t) (stands_on d)) → ((t : TypeRef) → IsWithin types n t → words_within types n t ≡ words (form t)) → described_words (words_within types n) o ≡ words (record_in program q)
        by None e h r = absurd h
        by (Some (desc.Const v)) e h r = absurd cc
        by (Some (desc.Var m u)) e h r = absurd cc
        by (Some (desc.Proc s)) e h r = absurd cc
        by (Some (desc.Alias m u)) e h r = r u h.1.0 ∙ sym (ap words (formed.aliases q m u e))
        by (Some (desc.Array m k u)) e h r = ap (λ x. k * x) (r u h.1.0) ∙ sym (ap words (formed.arrays q m k u e))
        by (Some (desc.OpenArray m u)) e h r = sym (ap words (formed.opens q m u e (no_out q (desc.OpenArray m u) e)))
        by (Some (desc.Pointer m u)) e h r = sym (ap words (formed.pointers q m u e))
        by (Some (desc.ProcType m s)) e h r = sym (ap words (formed.procedures q m s e))
        by (Some (desc.Record s)) e h r = words_are q s e

    pub sizes_are : (t : TypeRef) → IsHeld types t → words_of types t ≡ words (form t)
    sizes_are t h = within_sizes 201 t (grounded.chains t h)

    -- WHAT A TYPE IS
    named_form : (t : TypeRef) (q : QName) → target types 201 t ≡ ref.Named q → form t ≡ record_in program q
    named_form t q is = sym (target_form types program formed 201 t) ∙ ap form is

    shape_is : (t : TypeRef) (q : QName) (d : Desc) → target types 201 t ≡ ref.Named q → types q ≡ Some d → shape_at types (target types 201 t) ≡ Some d
    shape_is t q d is e = ap (shape_at types) is ∙ e

    -- a type has one of these forms, and is described so
    pub data Looks (t : TypeRef) : Type 0 where
      plain : (f : Form) → form t ≡ f → ((n : ℕ) (e : Form) → f ≡ ArrayForm n e → ⊥) → ((e : Form) → f ≡ OpenForm e → ⊥) → ((line : List QName) (fs : Fields) → f ≡ RecordForm line fs → ⊥) → elements_of types t ≡ None → Looks t
      array : (n : ℕ) (u : TypeRef) → form t ≡ ArrayForm n (form u) → elements_of types t ≡ Some n → Looks t
      opened : (u : TypeRef) → form t ≡ OpenForm (form u) → IsHeld types u → elements_of types t ≡ None → open_words types t ≡ words_of types u → Looks t
      record_type : (q : QName) (line : List QName) (fs : Fields) → form t ≡ RecordForm (q ∷ line) fs → elements_of types t ≡ None → own_name types t ≡ Some q → Looks t

    pub looks : (t : TypeRef) → IsHeld types t → Looks t
    looks t h = by (sort types program formed (grounded_steady types grounded) t h)
      where
        on : (q : QName) (d : Desc) → target types 201 t ≡ ref.Named q → types q ≡ Some d → is_type d ≡ true → is_alias d ≡ false → Looks t
        on q (desc.Const v) is e ty al = absurd cc
        on q (desc.Var m u) is e ty al = absurd cc
        on q (desc.Proc s) is e ty al = absurd cc
        on q (desc.Alias m u) is e ty al = absurd cc
        on q (desc.Array m n u) is e ty al = array n u (named_form t q is ∙ formed.arrays q m n u e) (ap elements_in (shape_is t q (desc.Array m n u) is e))
        on q (desc.OpenArray m u) is e ty al = opened u (named_form t q is ∙ formed.opens q m u e (no_out q (desc.OpenArray m u) e)) (grounded.held q (desc.OpenArray m u) e).0 (ap elements_in (shape_is t q (desc.OpenArray m u) is e)) (ap (open_words_in types) (shape_is t q (desc.OpenArray m u) is e))
        on q (desc.Pointer m u) is e ty al = plain (PointerForm u) (named_form t q is ∙ formed.pointers q m u e) (λ n f k. absurd cc) (λ f k. absurd cc) (λ l f k. absurd cc) (ap elements_in (shape_is t q (desc.Pointer m u) is e))
        on q (desc.ProcType m s) is e ty al = plain (ProcedureForm (formals_in program s)) (named_form t q is ∙ formed.procedures q m s e) (λ n f k. absurd cc) (λ f k. absurd cc) (λ l f k. absurd cc) (ap elements_in (shape_is t q (desc.ProcType m s) is e))
        on q (desc.Record r) is e ty al = record_type q (base_line form r.base) (joined (base_fields form r.base) (formed.records q r e).own) (named_form t q is ∙ (formed.records q r e).is) (ap elements_in (shape_is t q (desc.Record r) is e)) (ap name_in is)

        by : Sort types program formed (grounded_steady types grounded) t → Looks t
        by (basic b is) = plain (BasicForm b) (sym (target_form types program formed 201 t) ∙ ap form is ∙ basic_is program b) (λ n f k. absurd cc) (λ f k. absurd cc) (λ l f k. absurd cc) (ap (λ u. elements_in (shape_at types u)) is)
        by (named q d is e ty al) = on q d is e ty al

    elements_are : (t : TypeRef) (n : ℕ) (e : Form) → Looks t → form t ≡ ArrayForm n e → elements_of types t ≡ Some n
    elements_are t n e (plain f is a o r k) h = absurd (a n e (sym is ∙ h))
    elements_are t n e (array m u is k) h = let s : ArrayForm m (form u) ≡ ArrayForm n e = sym is ∙ h in let g : m ≡ n = cc in k ∙ ap (λ x. Some x) g
    elements_are t n e (opened u is b k w) h = let s : OpenForm (form u) ≡ ArrayForm n e = sym is ∙ h in absurd cc
    elements_are t n e (record_type q line fs is k w) h = let s : RecordForm (q ∷ line) fs ≡ ArrayForm n e = sym is ∙ h in absurd cc

    opens_are : (t : TypeRef) (e : Form) → Looks t → form t ≡ OpenForm e → (elements_of types t ≡ None) × (open_words types t ≡ words e)
    opens_are t e (plain f is a o r k) h = absurd (o e (sym is ∙ h))
    opens_are t e (array m u is k) h = let s : ArrayForm m (form u) ≡ OpenForm e = sym is ∙ h in absurd cc
    opens_are t e (opened u is b k w) h = let s : OpenForm (form u) ≡ OpenForm e = sym is ∙ h in let g : form u ≡ e = cc in (k, w ∙ sizes_are u b ∙ ap words g)
    opens_are t e (record_type q line fs is k w) h = let s : RecordForm (q ∷ line) fs ≡ OpenForm e = sym is ∙ h in absurd cc

    records_are : (t : TypeRef) (p : QName) (l : List QName) (gs : Fields) → Looks t → form t ≡ RecordForm (p ∷ l) gs → own_name types t ≡ Some p
    records_are t p l gs (plain f is a o r k) h = absurd (r (p ∷ l) gs (sym is ∙ h))
    records_are t p l gs (array m u is k) h = let s : ArrayForm m (form u) ≡ RecordForm (p ∷ l) gs = sym is ∙ h in absurd cc
    records_are t p l gs (opened u is b k w) h = let s : OpenForm (form u) ≡ RecordForm (p ∷ l) gs = sym is ∙ h in absurd cc
    records_are t p l gs (record_type q line fs is k w) h = let s : RecordForm (q ∷ line) fs ≡ RecordForm (p ∷ l) gs = sym is ∙ h in let g : q ≡ p = cc in w ∙ ap (λ x. Some x) g

    module _ (places : (q : QName) (r : RecordDesc) (f : Field) → types q ≡ Some (desc.Record r) → IsOneOf r.fields f → f.place ≡ field_offset (fields_of (record_in program q)) q f.name) where
      fields_are : (o : QName) (r : RecordDesc) (x : List ℕ) (f : Field) → types o ≡ Some (desc.Record r) → field_named x r.fields ≡ Some f → field_place types o x ≡ field_offset (fields_of (record_in program o)) o x
      unfolding field_place
      fields_are o r x f e h =
          let k = field_found r.fields x f h in
          let found : nearest (field_in_record x) types 201 (ref.Named o) ≡ Some f = ap (λ d. nearest_in (field_in_record x) (nearest (field_in_record x) types 200) d) e ∙ ap (λ y. or_else y (from_base (nearest (field_in_record x) types 200) r.base)) h in
          ap (λ y. unwrap_or (option_map (λ f. f.place) y) 0) found ∙ places o r f e k.0 ∙ ap (λ y. field_offset (fields_of (record_in program o)) o y) (sym k.1)

      -- WHAT CODE TAKES from such a map
      pub describes : Describes types program
      describes = record {
        sizes = sizes_are;
        elements = λ t n e h k. elements_are t n e (looks t h) k;
        opens = λ t e h k. (opens_are t e (looks t h) k).0;
        element_sizes = λ t e h k. (opens_are t e (looks t h) k).1;
        records = λ t q line fs h k. records_are t q line fs (looks t h) k;
        fields = fields_are;
      }
