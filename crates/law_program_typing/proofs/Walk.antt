-- The bases of a record of a program, as a map that says what the program has finds them.
use Rattle.std.proofs.Common.{◌≡◌, refl, sym, ap, subst, ◌∙◌, ℕ, zero, suc, ◌≤◌, List, [], ◌∷◌, ◌++◌, Option, Some, None, inl, inr, true, false, arith}
use Rattle.std.specs.Prelude.{IfSome, MatchOption, IsTrue}
use Rattle.std.specs.Option.{option_map}
use Rattle.std.specs.List.{AllByRecursion}
use Rattle.ob_tree.specs.declared.names.QName.{QName}
use Rattle.ob_types.specs.declared.types.TypeRef.{TypeRef}
use Rattle.ob_types.specs.declared.types.TypeRef.TheVariants as ref
use Rattle.ob_types.specs.declared.desc.Desc.{Desc}
use Rattle.ob_types.specs.declared.desc.Desc.TheVariants as desc
use Rattle.ob_types.specs.declared.desc.RecordDesc.{RecordDesc}
use Rattle.ob_types.specs.Maps.{is_type, listed, stands_on, IsHeld, IsWithin}
use Rattle.ob_types.specs.Relations.{Is, is_record}
use Rattle.ob_types.specs.Tests.{target, shape_at}
use Rattle.ob_types.proofs.Targets.{unique}
use Rattle.ob_meaning.specs.Values.{Program, line_of, base_line, bases_in, form_in, record_in}
use Rattle.ob_rules.specs.Shapes.{Map, record_at, record_of, record_if, base_type, base_record}
use Rattle.law_typing_forms.specs.Formed.{Formed}
use Rattle.law_typing_forms.specs.Steady.{bare, without_members, IsSteady}
use Rattle.law_typing_forms.proofs.Steady.{is_end}
use Rattle.law_typing_forms.proofs.Shapes as shapes
use Rattle.law_program_typing.specs.Once.{Line}

module _ (program : Program) (map : Map) (formed : Formed map program) (steady : IsSteady map) where
  -- chains of aliases, elements and bases alone
  abbrev IsLine : ℕ → TypeRef → Type 0
  IsLine n t = IsWithin (without_members map) n t

  -- the base of a record, as it is found
  pub record Base (n : ℕ) (q : QName) (r : RecordDesc) (t : TypeRef) : Type 0 where
    pub c : QName
    pub s : RecordDesc
    pub is : map c ≡ Some (desc.Record s)
    pub found : base_record map q ≡ Some c
    pub form : form_in program t ≡ record_in program c
    pub within : IsLine n (ref.Named c)

  first_in : (P : TypeRef → Type 0) (t : TypeRef) (o : Option TypeRef) (ts : List TypeRef) → o ≡ Some t → AllByRecursion P (listed o ++ ts) → P t
  first_in P t None ts e h = absurd cc
  first_in P t (Some u) ts e h = let same : u ≡ t = cc in subst P same h.0

  base_within : (n : ℕ) (q : QName) (r : RecordDesc) (t : TypeRef) → map q ≡ Some (desc.Record r) → r.base ≡ Some t → IsLine (suc n) (ref.Named q) → IsLine n t
  unfolding IsWithin
  base_within n q r t e b h =
      let k = subst (λ (o : Option Desc). MatchOption (option_map bare o) ⊥ (λ d. IsTrue (is_type d) × AllByRecursion (λ t. IsLine n t) (stands_on d))) e h in
      first_in (λ t. IsLine n t) t r.base [] b k.1

  record_desc : (c : QName) (o : Option Desc) → map c ≡ o → MatchOption o ⊥ (λ d. IsTrue (is_record d)) → (s : RecordDesc) × (map c ≡ Some (desc.Record s))
  record_desc c None e h = absurd h
  record_desc c (Some (desc.Record s)) e h = (s, e)
  record_desc c (Some (desc.Const v)) e h = absurd (let bad : false ≡ true = h in cc)
  record_desc c (Some (desc.Var m t)) e h = absurd (let bad : false ≡ true = h in cc)
  record_desc c (Some (desc.Proc s)) e h = absurd (let bad : false ≡ true = h in cc)
  record_desc c (Some (desc.Alias m t)) e h = absurd (let bad : false ≡ true = h in cc)
  record_desc c (Some (desc.Array m n t)) e h = absurd (let bad : false ≡ true = h in cc)
  record_desc c (Some (desc.OpenArray m t)) e h = absurd (let bad : false ≡ true = h in cc)
  record_desc c (Some (desc.Pointer m t)) e h = absurd (let bad : false ≡ true = h in cc)
  record_desc c (Some (desc.ProcType m s)) e h = absurd (let bad : false ≡ true = h in cc)

  some_of : (P : TypeRef → Type 0) (o : Option TypeRef) (t : TypeRef) → o ≡ Some t → IfSome o P → P t
  some_of P None t e h = absurd cc
  some_of P (Some u) t e h = let same : u ≡ t = cc in subst P same h

  base_is : (n : ℕ) → n ≤ 201 → (q : QName) (r : RecordDesc) (t : TypeRef) → map q ≡ Some (desc.Record r) → r.base ≡ Some t → IsLine (suc n) (ref.Named q) → Base n q r t
  base_is n le q r t e b h =
      let k : Is map is_record t = some_of (Is map is_record) r.base t b (steady.keeps q (desc.Record r) e).0 in
      let c = k.0 in
      let s = record_desc c (map c) refl k.1.1 in
      let w = is_end map n 201 t le (base_within n q r t e b h) in
      let same : ref.Named c ≡ target map 201 t = unique map k.1.0 w.stands in
      let found : record_of map t ≡ Some c = ap (λ u. record_at u (shape_at map u)) (sym same) ∙ ap (record_at (ref.Named c)) s.1 in
      record {
        c = c;
        s = s.0;
        is = s.1;
        found = ap (λ o. record_if map (base_type o)) e ∙ (ap (record_if map) b ∙ found);
        form = shapes.stands_form map program formed k.1.0;
        within = subst (IsLine n) (sym same) w.within;
      }

  -- a record before the line of its base
  line_is : (q : QName) (r : RecordDesc) → map q ≡ Some (desc.Record r) → bases_in program q ≡ q ∷ base_line (form_in program) r.base
  line_is q r e = ap line_of (formed.records q r e).is

  nothing_in : {A : Type 0} (x : A) (xs ys : List A) → [] ≡ xs ++ x ∷ ys → ⊥
  nothing_in x [] ys e = absurd cc
  nothing_in x (z ∷ xs) ys e = absurd cc

  same_first : (q b : QName) (xs ys : List QName) → q ∷ xs ≡ b ∷ ys → q ≡ b
  same_first q b xs ys e = cc

  rest_of : (q p : QName) (xs ys : List QName) → q ∷ xs ≡ p ∷ ys → xs ≡ ys
  rest_of q p xs ys e = cc

  -- what a walk comes to
  pub record Walked (n : ℕ) (c b : QName) : Type 0 where
    pub r : RecordDesc
    pub is : map b ≡ Some (desc.Record r)
    pub line : Line map n c b

  module _ (b : QName) (line : List QName) (of : bases_in program b ≡ b ∷ line) where
    -- from a record on
    walk : (n : ℕ) → n ≤ 201 → (c : QName) (r : RecordDesc) → map c ≡ Some (desc.Record r) → IsLine n (ref.Named c) → (more : List QName) → bases_in program c ≡ more ++ bases_in program b → Walked n c b
    unfolding IsWithin
    walk zero le c r e h more i = absurd h
    walk (suc n) le c r e h [] i = let same = same_first c b (base_line (form_in program) r.base) line (sym (line_is c r e) ∙ i ∙ of) in record { r = r; is = subst (λ z. map z ≡ Some (desc.Record r)) same e; line = inl same }
    walk (suc n) le c r e h (p ∷ more) i = by r.base refl (rest_of c p (base_line (form_in program) r.base) (more ++ bases_in program b) (sym (line_is c r e) ∙ i)) (λ d s f w k. walk n (omega (arith, le)) d s f w more k)
      where
        by : (o : Option TypeRef) → r.base ≡ o → base_line (form_in program) o ≡ more ++ bases_in program b → ((d : QName) (s : RecordDesc) → map d ≡ Some (desc.Record s) → IsLine n (ref.Named d) → bases_in program d ≡ more ++ bases_in program b → Walked n d b) → Walked (suc n) c b
        by None g j up = absurd (nothing_in b more line (j ∙ ap (λ l. more ++ l) of))
        by (Some t) g j up =
            let k = base_is n (omega (arith, le)) c r t e g h in
            let w = up k.c k.s k.is k.within (ap line_of (sym k.form) ∙ j) in
            record { r = w.r; is = w.is; line = inr (k.c, (k.found, w.line)) }

    -- above a record that is another
    pub above : (q : QName) (r : RecordDesc) → map q ≡ Some (desc.Record r) → (more : List QName) → bases_in program q ≡ more ++ bases_in program b → (q ≡ b → ⊥) → (c : QName) × ((base_record map q ≡ Some c) × Walked 200 c b)
    above q r e [] i n = absurd (n (same_first q b (base_line (form_in program) r.base) line (sym (line_is q r e) ∙ i ∙ of)))
    above q r e (p ∷ more) i n = by r.base refl (rest_of q p (base_line (form_in program) r.base) (more ++ bases_in program b) (sym (line_is q r e) ∙ i))
      where
        held : IsHeld map (ref.Named q)
        held = subst (λ (o : Option Desc). MatchOption o ⊥ (λ d. IsTrue (is_type d))) (sym e) refl

        by : (o : Option TypeRef) → r.base ≡ o → base_line (form_in program) o ≡ more ++ bases_in program b → (c : QName) × ((base_record map q ≡ Some c) × Walked 200 c b)
        by None g j = absurd (nothing_in b more line (j ∙ ap (λ l. more ++ l) of))
        by (Some t) g j =
            let k = base_is 200 (omega arith) q r t e g (steady.lines (ref.Named q) held) in
            (k.c, (k.found, walk 200 (omega arith) k.c k.s k.is k.within more (ap line_of (sym k.form) ∙ j)))
