-- The words that the layout gives a record are those of its type.
use Rattle.std.proofs.Common.{◌≡◌, ℕ, zero, suc, ◌+◌, ◌*◌, List, [], ◌∷◌, ◌++◌, map as each, Option, Some, None, refl, sym, ap, subst, ◌∙◌, arith}
use Rattle.std.specs.Prelude.{Bool, true, false, cond, MatchOption, IfSome, IsTrue}
use Rattle.std.specs.List.{AllByRecursion}
use Rattle.ob_tree.specs.declared.names.QName.{QName}
use Rattle.ob_types.specs.declared.types.TypeRef.{TypeRef}
use Rattle.ob_types.specs.declared.types.TypeRef.TheVariants as ref
use Rattle.ob_types.specs.declared.desc.Desc.{Desc}
use Rattle.ob_types.specs.declared.desc.Desc.TheVariants as desc
use Rattle.ob_types.specs.declared.desc.RecordDesc.{RecordDesc}
use Rattle.ob_types.specs.declared.desc.Field.{Field}
use Rattle.ob_types.specs.declared.typed.TypedType.{TypedType}
use Rattle.ob_types.specs.Maps.{is_type, stands_on, listed, IsWithin}
use Rattle.ob_types.specs.Relations.{Is, is_record}
use Rattle.ob_types.specs.TypedSyntax.{Module}
use Rattle.ob_meaning.specs.Values.{Program, Form, Fields, NoField, AField, joined, own_fields, base_fields, fields_of, form_in, record_in, words, fields_words, description}
use Rattle.law_simulation_relation.specs.Typed.{IsRecordForm}
use Rattle.law_simulation_relation.proofs.Names.{bytes_true}
use Rattle.ob_layout.specs.Lists.{sum_of}
use Rattle.ob_layout.specs.Words.{described_words}
use Rattle.ob_layout.specs.LaidOut.{type_named as own_named, is_own, viewed, base_of, declared_words, summed, words_in, procedures_in, placed, laid_record, laid_desc, laid_type}
use Rattle.law_typing_forms.specs.Said.{IsOneOf, IsSound}
use Rattle.law_typing_forms.specs.Whole.{IsWhole}
use Rattle.law_typing_forms.proofs.Within.{form_described}
use Rattle.law_typing_forms.proofs.Built.{record_base}
use Rattle.law_typing_forms.proofs.Shapes.{basic_is}
use Rattle.law_typing_forms.proofs.Modules.{type_there}
use Rattle.law_typing_forms.proofs.Staying.{HasMore}
use Rattle.law_typing_env.specs.Ordered.{bare}
use Rattle.law_typing_env.specs.Words.{IsLaidOver}
use Rattle.law_typing_env.proofs.Views.{type_found, one_each}
use Rattle.law_lists.proofs.Lists.{all_back, all_front}

-- ---- sums do not ask for places

sum_placed : (w : TypeRef → ℕ) (h : TypeRef → ℕ) (n : ℕ) (fs : List Field) → sum_of (λ f. h f.of) (placed w n fs) ≡ sum_of (λ f. h f.of) fs
sum_placed w h n [] = refl
sum_placed w h n (f ∷ fs) = ap (λ k. h f.of + k) (sum_placed w h (n + w f.of) fs)

-- ---- words of fields

joined_words : (fs gs : Fields) → fields_words (joined fs gs) ≡ fields_words fs + fields_words gs
joined_words NoField gs = omega arith
joined_words (AField o x t fs) gs = let h = joined_words fs gs in omega (arith, h)

own_words : (form : TypeRef → Form) (q : QName) (fs : List Field) → fields_words (own_fields form q fs) ≡ sum_of (λ f. words (form f.of)) fs
own_words form q [] = refl
own_words form q (f ∷ fs) = ap (λ n. words (form f.of) + n) (own_words form q fs)

fields_sum : (f g : TypeRef → ℕ) (fs : List Field) → AllByRecursion (λ t. f t ≡ g t) (each (λ x. x.of) fs) → sum_of (λ x. f x.of) fs ≡ sum_of (λ x. g x.of) fs
fields_sum f g [] h = refl
fields_sum f g (x ∷ fs) h = ap (λ n. n + sum_of (λ x. f x.of) fs) h.0 ∙ ap (λ n. g x.of + n) (fields_sum f g fs h.1)

words_record : (t : Form) → IsRecordForm t → words t ≡ fields_words (fields_of t)
words_record t h = ap words h.1

all_from : (P Q : TypeRef → Type 0) → ((t : TypeRef) → P t → Q t) → (ts : List TypeRef) → AllByRecursion P ts → AllByRecursion Q ts
all_from P Q f [] h = tt
all_from P Q f (t ∷ ts) h = (f t h.0, all_from P Q f ts h.1)

-- what is no record is the same without members
bare_plain : (d x : Desc) → is_record x ≡ false → bare d ≡ x → d ≡ x
bare_plain (desc.Const v) x n h = h
bare_plain (desc.Var m t) x n h = h
bare_plain (desc.Proc s) x n h = h
bare_plain (desc.Alias m t) x n h = h
bare_plain (desc.Array m k t) x n h = h
bare_plain (desc.OpenArray m t) x n h = h
bare_plain (desc.Pointer m t) x n h = h
bare_plain (desc.ProcType m s) x n h = h
bare_plain (desc.Record r) x n h = let bad : true ≡ false = ap is_record h ∙ n in absurd cc

-- a record has its words
bare_words : (f : TypeRef → ℕ) (r : RecordDesc) (d : Desc) → bare (desc.Record r) ≡ bare d → declared_words f false (Some d) ≡ r.words
bare_words f r (desc.Const v) h = absurd cc
bare_words f r (desc.Var m t) h = absurd cc
bare_words f r (desc.Proc s) h = absurd cc
bare_words f r (desc.Alias m t) h = absurd cc
bare_words f r (desc.Array m k t) h = absurd cc
bare_words f r (desc.OpenArray m t) h = absurd cc
bare_words f r (desc.Pointer m t) h = absurd cc
bare_words f r (desc.ProcType m s) h = absurd cc
bare_words f r (desc.Record t) h = ap said_words (sym h)
  where
    said_words : Desc → ℕ
    said_words (desc.Record r) = r.words
    said_words d = 0

module _ (program : Program) (sound : IsSound program) (whole : IsWhole program) where
  abbrev form : TypeRef → Form
  form = form_in program

  -- the declared records of these modules have their words
  abbrev pub HaveWords : Program → Type 0
  HaveWords ms = (q : QName) (s : RecordDesc) → description ms q ≡ Some (desc.Record s) → s.words ≡ words (record_in program q)

  pub based_words : (f : TypeRef → ℕ) (o : Option TypeRef) → AllByRecursion (λ t. f t ≡ words (form t)) (listed o) → IfSome o (λ t. IsRecordForm (form t)) → base_of f o ≡ fields_words (base_fields form o)
  based_words f None h k = refl
  based_words f (Some t) h k = h.0 ∙ words_record (form t) k

  pub base_records : (o : Option TypeRef) → IfSome o (Is (description program) is_record) → IfSome o (λ t. IsRecordForm (form t))
  base_records None h = tt
  base_records (Some t) h = record_base program sound t h

  -- a record as it was checked, and its type as it is laid out
  pub record_sum : (f w p : TypeRef → ℕ) (q : QName) (r : RecordDesc) → description program q ≡ Some (desc.Record (laid_record w p q r)) → AllByRecursion (λ t. f t ≡ words (form t)) (listed r.base ++ each (λ x. x.of) r.fields) → base_of f r.base + sum_of (λ x. f x.of) r.fields ≡ words (record_in program q)
  record_sum f w p q r e h =
      let laid = placed w (base_of w r.base) r.fields in
      let b = all_front (λ t. f t ≡ words (form t)) (listed r.base) (each (λ x. x.of) r.fields) h in
      let o = all_back (λ t. f t ≡ words (form t)) (listed r.base) (each (λ x. x.of) r.fields) h in
      let base = based_words f r.base b (base_records r.base (sound.keeps q (desc.Record (laid_record w p q r)) e).0) in
      let own : sum_of (λ x. f x.of) r.fields ≡ fields_words (own_fields form q laid) = fields_sum f (λ t. words (form t)) r.fields o ∙ sym (sum_placed w (λ t. words (form t)) (base_of w r.base) r.fields) ∙ sym (own_words form q laid) in
      ap (λ n. n + sum_of (λ x. f x.of) r.fields) base
      ∙ ap (λ n. fields_words (base_fields form r.base) + n) own
      ∙ sym (joined_words (base_fields form r.base) (own_fields form q laid))
      ∙ sym (ap words (form_described program sound q (desc.Record (laid_record w p q r)) e))

  module _ (before : Program) (m : Module) (i : IsOneOf program m) (more : HasMore (description before) (description program)) (known : HaveWords before) (over : IsLaidOver before m) where
    abbrev others : QName → Option Desc
    others = over.over.others

    -- a type of the module, as the program has it laid out
    own_laid : (q : QName) (t : TypedType) → q.«module» ≡ over.checked.name → IsOneOf over.checked.types t → t.name ≡ q.object → description program q ≡ Some (laid_desc (words_in others over.checked) (procedures_in others over.checked) q t.desc)
    own_laid q t n j x =
        let l = laid_type others over.checked t in
        let there : IsOneOf m.types l = subst (λ ts. IsOneOf ts l) (sym over.laid.types_are) (one_each (laid_type others over.checked) over.checked.types t j) in
        let named : (let p : QName = record { «module» = over.checked.name; object = t.name } in p) ≡ q = ap (λ (y : List ℕ). let p : QName = record { «module» = y; object = t.name } in p) (sym n) ∙ ap (λ (y : List ℕ). let p : QName = record { «module» = q.«module»; object = y } in p) x in
        let of_m : (let p : QName = record { «module» = m.name; object = t.name } in p) ≡ q = ap (λ (y : List ℕ). let p : QName = record { «module» = y; object = t.name } in p) over.laid.name ∙ named in
        sym (ap (description program) of_m) ∙ type_there program whole m l i there ∙ ap (λ p. Some (laid_desc (words_in others over.checked) (procedures_in others over.checked) p t.desc)) named

    -- of another kind than records, by what the program declares
    plain_words : (f : TypeRef → ℕ) (q : QName) (d : Desc) → description program q ≡ Some d → is_type d ≡ true → ((r : RecordDesc) → d ≡ desc.Record r → described_words f (Some d) ≡ words (record_in program q)) → AllByRecursion (λ t. f t ≡ words (form t)) (stands_on d) → described_words f (Some d) ≡ words (record_in program q)
    plain_words f q (desc.Const v) e ty k h = absurd cc
    plain_words f q (desc.Var m t) e ty k h = absurd cc
    plain_words f q (desc.Proc s) e ty k h = absurd cc
    plain_words f q (desc.Alias m t) e ty k h = h.0 ∙ sym (ap words (form_described program sound q (desc.Alias m t) e))
    plain_words f q (desc.Array m n t) e ty k h = ap (λ x. n * x) h.0 ∙ sym (ap words (form_described program sound q (desc.Array m n t) e))
    plain_words f q (desc.OpenArray m t) e ty k h = sym (ap words (form_described program sound q (desc.OpenArray m t) e))
    plain_words f q (desc.Pointer m t) e ty k h = sym (ap words (form_described program sound q (desc.Pointer m t) e))
    plain_words f q (desc.ProcType m s) e ty k h = sym (ap words (form_described program sound q (desc.ProcType m s) e))
    plain_words f q (desc.Record r) e ty k h = k r refl

    abbrev Parts : (TypeRef → ℕ) → Desc → Type 0
    Parts f d = AllByRecursion (λ t. f t ≡ words (form t)) (stands_on d)

    -- of the module's own types
    own_sum : (f : TypeRef → ℕ) (q : QName) (d : Desc) → description program q ≡ Some (laid_desc (words_in others over.checked) (procedures_in others over.checked) q d) → is_type d ≡ true → Parts f d → declared_words f true (Some d) ≡ words (record_in program q)
    own_sum f q (desc.Const v) e ty h = plain_words f q (desc.Const v) e ty (λ r k. absurd cc) h
    own_sum f q (desc.Var m t) e ty h = plain_words f q (desc.Var m t) e ty (λ r k. absurd cc) h
    own_sum f q (desc.Proc s) e ty h = plain_words f q (desc.Proc s) e ty (λ r k. absurd cc) h
    own_sum f q (desc.Alias m t) e ty h = plain_words f q (desc.Alias m t) e ty (λ r k. absurd cc) h
    own_sum f q (desc.Array m k t) e ty h = plain_words f q (desc.Array m k t) e ty (λ r k. absurd cc) h
    own_sum f q (desc.OpenArray m t) e ty h = plain_words f q (desc.OpenArray m t) e ty (λ r k. absurd cc) h
    own_sum f q (desc.Pointer m t) e ty h = plain_words f q (desc.Pointer m t) e ty (λ r k. absurd cc) h
    own_sum f q (desc.ProcType m s) e ty h = plain_words f q (desc.ProcType m s) e ty (λ r k. absurd cc) h
    own_sum f q (desc.Record r) e ty h = record_sum f (words_in others over.checked) (procedures_in others over.checked) q r e h

    -- of the types that it sees of others
    other_sum : (f : TypeRef → ℕ) (q : QName) (e d : Desc) → description before q ≡ Some e → bare e ≡ bare d → is_type d ≡ true → Parts f d → declared_words f false (Some d) ≡ words (record_in program q)
    other_sum f q (desc.Const v) d e s ty h = subst (λ d. is_type d ≡ true → Parts f d → declared_words f false (Some d) ≡ words (record_in program q)) (sym (bare_plain d (desc.Const v) refl (sym s))) (λ ty h. plain_words f q (desc.Const v) (more q (desc.Const v) e) ty (λ r k. absurd cc) h) ty h
    other_sum f q (desc.Var m t) d e s ty h = subst (λ d. is_type d ≡ true → Parts f d → declared_words f false (Some d) ≡ words (record_in program q)) (sym (bare_plain d (desc.Var m t) refl (sym s))) (λ ty h. plain_words f q (desc.Var m t) (more q (desc.Var m t) e) ty (λ r k. absurd cc) h) ty h
    other_sum f q (desc.Proc g) d e s ty h = subst (λ d. is_type d ≡ true → Parts f d → declared_words f false (Some d) ≡ words (record_in program q)) (sym (bare_plain d (desc.Proc g) refl (sym s))) (λ ty h. plain_words f q (desc.Proc g) (more q (desc.Proc g) e) ty (λ r k. absurd cc) h) ty h
    other_sum f q (desc.Alias m t) d e s ty h = subst (λ d. is_type d ≡ true → Parts f d → declared_words f false (Some d) ≡ words (record_in program q)) (sym (bare_plain d (desc.Alias m t) refl (sym s))) (λ ty h. plain_words f q (desc.Alias m t) (more q (desc.Alias m t) e) ty (λ r k. absurd cc) h) ty h
    other_sum f q (desc.Array m n t) d e s ty h = subst (λ d. is_type d ≡ true → Parts f d → declared_words f false (Some d) ≡ words (record_in program q)) (sym (bare_plain d (desc.Array m n t) refl (sym s))) (λ ty h. plain_words f q (desc.Array m n t) (more q (desc.Array m n t) e) ty (λ r k. absurd cc) h) ty h
    other_sum f q (desc.OpenArray m t) d e s ty h = subst (λ d. is_type d ≡ true → Parts f d → declared_words f false (Some d) ≡ words (record_in program q)) (sym (bare_plain d (desc.OpenArray m t) refl (sym s))) (λ ty h. plain_words f q (desc.OpenArray m t) (more q (desc.OpenArray m t) e) ty (λ r k. absurd cc) h) ty h
    other_sum f q (desc.Pointer m t) d e s ty h = subst (λ d. is_type d ≡ true → Parts f d → declared_words f false (Some d) ≡ words (record_in program q)) (sym (bare_plain d (desc.Pointer m t) refl (sym s))) (λ ty h. plain_words f q (desc.Pointer m t) (more q (desc.Pointer m t) e) ty (λ r k. absurd cc) h) ty h
    other_sum f q (desc.ProcType m g) d e s ty h = subst (λ d. is_type d ≡ true → Parts f d → declared_words f false (Some d) ≡ words (record_in program q)) (sym (bare_plain d (desc.ProcType m g) refl (sym s))) (λ ty h. plain_words f q (desc.ProcType m g) (more q (desc.ProcType m g) e) ty (λ r k. absurd cc) h) ty h
    other_sum f q (desc.Record r) d e s ty h = bare_words f r d s ∙ known q r e

    -- what the layout sums is the words of the type
    pub summed_words : (n : ℕ) (t : TypeRef) → IsWithin (viewed others over.checked) n t → summed others over.checked n t ≡ words (form t)
    unfolding IsWithin
    summed_words zero (ref.Basic b) h = sym (ap words (basic_is program b))
    summed_words zero (ref.Named q) h = absurd h
    summed_words (suc n) (ref.Basic b) h = sym (ap words (basic_is program b))
    summed_words (suc n) (ref.Named q) h = by (is_own over.checked q) refl h (λ t w. summed_words n t w)
      where
        View : Bool → Option Desc
        View b = cond b (own_named over.checked.types q.object) (others q)

        Within : Option Desc → Type 0
        Within o = MatchOption o ⊥ (λ d. IsTrue (is_type d) × AllByRecursion (λ t. IsWithin (viewed others over.checked) n t) (stands_on d))

        parts : (d : Desc) → ((t : TypeRef) → IsWithin (viewed others over.checked) n t → summed others over.checked n t ≡ words (form t)) → AllByRecursion (λ t. IsWithin (viewed others over.checked) n t) (stands_on d) → AllByRecursion (λ t. summed others over.checked n t ≡ words (form t)) (stands_on d)
        parts d r w = all_from (λ t. IsWithin (viewed others over.checked) n t) (λ t. summed others over.checked n t ≡ words (form t)) r (stands_on d) w

        own : is_own over.checked q ≡ true → (o : Option Desc) → own_named over.checked.types q.object ≡ o → Within o → ((t : TypeRef) → IsWithin (viewed others over.checked) n t → summed others over.checked n t ≡ words (form t)) → declared_words (summed others over.checked n) true o ≡ words (record_in program q)
        own is None e w r = absurd w
        own is (Some d) e w r =
            let k = type_found over.checked.types q.object d e in
            let there = own_laid q k.t (bytes_true q.«module» over.checked.name is) k.there k.name ∙ ap (λ x. Some (laid_desc (words_in others over.checked) (procedures_in others over.checked) q x)) k.desc in
            own_sum (summed others over.checked n) q d there w.0 (parts d r w.1)

        other : (o : Option Desc) → others q ≡ o → Within o → ((t : TypeRef) → IsWithin (viewed others over.checked) n t → summed others over.checked n t ≡ words (form t)) → declared_words (summed others over.checked n) false o ≡ words (record_in program q)
        other None e w r = absurd w
        other (Some d) e w r = let s = over.over.shown q d e w.0 in other_sum (summed others over.checked n) q s.0 d s.1.0 s.1.1 w.0 (parts d r w.1)

        by : (b : Bool) → is_own over.checked q ≡ b → Within (View b) → ((t : TypeRef) → IsWithin (viewed others over.checked) n t → summed others over.checked n t ≡ words (form t)) → declared_words (summed others over.checked n) b (View b) ≡ words (record_in program q)
        by true is w r = own is (own_named over.checked.types q.object) refl w r
        by false is w r = other (others q) refl w r
