-- Record types that are what their declarations say are well built, of their bases, with their words.
use Rattle.std.proofs.Common.{◌≡◌, ℕ, zero, suc, List, [], ◌∷◌, ◌++◌, map, refl, sym, ap, ◌∙◌, subst, append_assoc, Option, Some, None}
use Rattle.std.specs.Prelude.{false, bytes_eq, IfSome, if◌then◌else◌}
use Rattle.std.specs.List.{IsDistinct, AllByRecursion}
use Rattle.std.proofs.lemmas.Map.Keys.{IsDistinct-head, IsDistinct-tail}
use Rattle.ob_tree.specs.declared.names.QName.{QName}
use Rattle.ob_types.specs.declared.types.TypeRef.{TypeRef}
use Rattle.ob_types.specs.declared.types.TypeRef.TheVariants as ref
use Rattle.ob_types.specs.declared.desc.Desc.{Desc}
use Rattle.ob_types.specs.declared.desc.Desc.TheVariants as desc
use Rattle.ob_types.specs.declared.desc.RecordDesc.{RecordDesc}
use Rattle.ob_types.specs.declared.typed.TypedType.{TypedType}
use Rattle.ob_types.specs.TypedSyntax.{Module}
use Rattle.ob_meaning.specs.Values.{Program, Form, RecordForm, Fields, joined, line_of, fields_of, base_line, base_fields, form_within, described, form_in, record_in, description, type_named, number_of_types, words}
use Rattle.ob_layout.specs.Words.{described_words, words_within}
use Rattle.ob_scheme.specs.Object.{base_type}
use Rattle.law_simulation_relation.specs.Relation.{FormOk, ModulesOk, head}
use Rattle.law_simulation_relation.specs.Typed.{IsRecordType, IsRecordForm}
use Rattle.law_simulation_relation.proofs.Names.{bytes_same, bytes_sym}
use Rattle.law_simulation_relation.specs.Setting.{Setting}
use Rattle.law_image_code.specs.Described.{IsDescribed}
use Rattle.law_image_code.specs.Descriptors.{DescFits, DeclarationsFit}
use Rattle.law_image_code.proofs.Entered.{fresh_at}
use Rattle.law_image_links.specs.Files.{Build, AllKeepRules}
use Rattle.law_image_tables.specs.Declared.{above, base_of, typed, BasesBuilt, HasItsBase, past, BasesDeclared}
use Rattle.law_image_tables.specs.Based.{AllBasesDeclared}
use Rattle.law_image_tables.specs.Image.{AllDeclarationsFit}
use Rattle.law_image_tables.specs.Settled.{IsSettled, TypesSettled, IsInOrder, AreInOrder, AllDeclared, TypesFromDeclarations}
use Rattle.law_image_tables.proofs.Declared.{declared_record}

abbrev first_name : QName → Form → QName
first_name q (RecordForm (p ∷ line) fs) = p
first_name q t = q

pub no_line : (types : QName → Option Desc) (n : ℕ) (t : TypeRef) (fs : Fields) → form_within types n t ≡ RecordForm [] fs → ⊥
no_line types zero (ref.Basic b) fs e = absurd (cc)
no_line types zero (ref.Named q) fs e = absurd (cc)
no_line types (suc n) (ref.Basic b) fs e = absurd (cc)
no_line types (suc n) (ref.Named q) fs e = go (types q) e (λ t f. no_line types n t fs f)
  where
    go : (o : Option Desc) → described (form_within types n) q o ≡ RecordForm [] fs → ((t : TypeRef) → form_within types n t ≡ RecordForm [] fs → ⊥) → ⊥
    go (Some (desc.Alias m t)) e more = more t e
    go o e more = absurd (cc)

-- what is declared for a module of the program stands in it
pub description_here : (front : List Module) (m : Module) (back : List Module) (program : Program) (x : List ℕ) → ModulesOk program (front ++ m ∷ back) → description (front ++ m ∷ back) (typed m.name x) ≡ type_named m.types x
description_here [] m back program x ok = ap (λ b. if b then type_named m.types x else description back (typed m.name x)) (bytes_same m.name)
description_here (k ∷ front) m back program x ok =
    ap (λ b. if b then type_named k.types x else description (front ++ m ∷ back) (typed m.name x)) (bytes_sym m.name k.name ∙ fresh_at k.name front m back ok.0)
    ∙ description_here front m back program x ok.1.1

-- DIFFERENT NAMES

abbrev pub NoneNamed : List ℕ → List TypedType → Type 0
NoneNamed x [] = Unit {0}
NoneNamed x (t ∷ ts) = (bytes_eq x t.name ≡ false) × NoneNamed x ts

abbrev pub TypesDiffer : List TypedType → Type 0
TypesDiffer [] = Unit {0}
TypesDiffer (t ∷ ts) = NoneNamed t.name ts × TypesDiffer ts

none_named : (x : List ℕ) (ts : List TypedType) → AllByRecursion (λ y. bytes_eq x y ≡ false) (map (λ t. t.name) ts) → NoneNamed x ts
none_named x [] h = tt
none_named x (t ∷ ts) h = (h.0, none_named x ts h.1)

pub types_differ : (ts : List TypedType) → IsDistinct bytes_eq (map (λ t. t.name) ts) → TypesDiffer ts
types_differ [] h = tt
types_differ (t ∷ ts) h = (none_named t.name ts (IsDistinct-head bytes_eq t.name (map (λ t. t.name) ts) h), types_differ ts (IsDistinct-tail bytes_eq t.name (map (λ t. t.name) ts) h))

none_at : (x : List ℕ) (front : List TypedType) (t : TypedType) (ts : List TypedType) → NoneNamed x (front ++ t ∷ ts) → bytes_eq x t.name ≡ false
none_at x [] t ts h = h.0
none_at x (k ∷ front) t ts h = none_at x front t ts h.1

pub named_here : (front : List TypedType) (t : TypedType) (ts : List TypedType) → TypesDiffer (front ++ t ∷ ts) → type_named (front ++ t ∷ ts) t.name ≡ Some t.desc
named_here [] t ts d = ap (λ b. if b then Some t.desc else type_named ts t.name) (bytes_same t.name)
named_here (k ∷ front) t ts d = ap (λ b. if b then Some k.desc else type_named (front ++ t ∷ ts) t.name) (bytes_sym t.name k.name ∙ none_at k.name front t ts d.0) ∙ named_here front t ts d.1

module _ (program : Program) (settled : TypesSettled program) where
  -- a type that is a record is the one that its line begins with
  is_first : (n : ℕ) (t : TypeRef) (b : QName) (line : List QName) (fs : Fields) → form_within (description program) n t ≡ RecordForm (b ∷ line) fs → form_in program t ≡ record_in program b
  is_first zero (ref.Basic k) b line fs e = absurd (cc)
  is_first zero (ref.Named q) b line fs e = absurd (cc)
  is_first (suc n) (ref.Basic k) b line fs e = absurd (cc)
  is_first (suc n) (ref.Named q) b line fs e = go (description program q) refl e (λ t f. is_first n t b line fs f)
    where
      go : (o : Option Desc) → description program q ≡ o → described (form_within (description program) n) q o ≡ RecordForm (b ∷ line) fs → ((t : TypeRef) → form_within (description program) n t ≡ RecordForm (b ∷ line) fs → form_in program t ≡ record_in program b) → record_in program q ≡ record_in program b
      go (Some (desc.Alias m t)) f e more = settled.aliases q m t f ∙ more t e
      go (Some (desc.Record r)) f e more = ap (record_in program) (ap (first_name q) e)
      go o f e more = absurd (cc)

  declared_as : (q : QName) (line : List QName) (fs : Fields) → record_in program q ≡ RecordForm (q ∷ line) fs → (r : RecordDesc) × (description program q ≡ Some (desc.Record r))
  declared_as q line fs e = declared_record (description program) (number_of_types program) (ref.Named q) q line fs e

  pub forms_from : (q : QName) → IsRecordType program q → FormOk program (record_in program q)
  forms_from q is = let d = declared_as q is.0 _ is.1 in (settled.records q d.0 d.1).fits

  pub built_from : BasesBuilt program
  built_from q b line e = go d.0.base refl s.base
    where
      d : (r : RecordDesc) × (description program q ≡ Some (desc.Record r))
      d = declared_as q (b ∷ line) _ e

      s : IsSettled program q d.0
      s = settled.records q d.0 d.1

      go : (o : Option TypeRef) → d.0.base ≡ o → IfSome o (λ t. IsRecordForm (form_in program t)) → (record_in program b ≡ RecordForm (b ∷ line) (fields_of (record_in program b))) × ((gs : Fields) × (fields_of (record_in program q) ≡ joined (fields_of (record_in program b)) gs))
      go None f is =
          let none : [] ≡ b ∷ line = sym (ap (base_line (form_in program)) f) ∙ ap (λ t. above (line_of t)) (sym s.is ∙ e) in
          absurd (cc)
      go (Some t) f is =
          let l : line_of (form_in program t) ≡ b ∷ line = sym (ap (base_line (form_in program)) f) ∙ ap (λ t. above (line_of t)) (sym s.is ∙ e) in
          let form : form_in program t ≡ RecordForm (b ∷ line) (fields_of (form_in program t)) = is.1 ∙ ap (λ k. RecordForm k (fields_of (form_in program t))) (sym (ap line_of is.1) ∙ l) in
          let same = is_first (number_of_types program) t b line _ form in (
            sym same ∙ form ∙ ap (λ u. RecordForm (b ∷ line) (fields_of u)) same,
            (s.own, ap fields_of s.is ∙ ap (λ o. joined (base_fields (form_in program) o) s.own) f ∙ ap (λ u. joined (fields_of u) s.own) same),
          )

  -- THE TYPES OF A MODULE

  module _ (types : QName → Option Desc) (md : Module) (says : IsDescribed types program) (whole : (q : QName) → types q ≡ description program q) where
    pub base_named : (q : QName) (r : RecordDesc) → IsSettled program q r → base_type types md r.base ≡ base_of program q
    base_named q r s = go r.base refl s.base ∙ sym (ap (λ t. head (above (line_of t))) s.is)
      where
        go : (o : Option TypeRef) → r.base ≡ o → IfSome o (λ t. IsRecordForm (form_in program t)) → base_type types md r.base ≡ head (base_line (form_in program) r.base)
        go None f is = ap (base_type types md) f ∙ sym (ap (λ o. head (base_line (form_in program) o)) f)
        go (Some t) f is = ap (base_type types md) f ∙ by is.0 is.1 ∙ sym (ap (λ o. head (base_line (form_in program) o)) f)
          where
            by : (l : List QName) → form_in program t ≡ RecordForm l (fields_of (form_in program t)) → base_type types md (Some t) ≡ head (line_of (form_in program t))
            by [] e = absurd (no_line (description program) (number_of_types program) t _ e)
            by (b ∷ line) e = says.records t b line (fields_of (form_in program t)) e ∙ sym (ap (λ u. head (line_of u)) e)

    size_named : (q : QName) (r : RecordDesc) → description program q ≡ Some (desc.Record r) → r.words ≡ words (record_in program q)
    size_named q r e = sym (ap (described_words (words_within types 200)) (whole q ∙ e)) ∙ says.sizes (ref.Named q)

    declared : (x : List ℕ) (d : Desc) (i : ℕ) → description program (typed md.name x) ≡ Some d → IsInOrder program types md x d i → HasItsBase program types md x d i × DescFits program (typed md.name x) d
    declared x (desc.Record r) i e o = ((base_named (typed md.name x) r (settled.records (typed md.name x) r e), o), size_named (typed md.name x) r e)
    declared x d i e o = (tt, tt)

    all_declared : (front ts : List TypedType) (i : ℕ) → md.types ≡ front ++ ts → TypesDiffer md.types → ((x : List ℕ) → description program (typed md.name x) ≡ type_named md.types x) → AreInOrder program types md ts i → BasesDeclared program types md ts i × DeclarationsFit program md.name ts
    all_declared front [] i is apart here o = (tt, tt)
    all_declared front (t ∷ ts) i is apart here o =
        let found = here t.name ∙ ap (λ l. type_named l t.name) is ∙ named_here front t ts (subst TypesDiffer is apart) in
        let one = declared t.name t.desc i found o.0 in
        let more = all_declared (front ++ t ∷ []) ts (past program types md t.desc i) (is ∙ sym (append_assoc front (t ∷ []) ts)) apart here o.1 in
        ((one.0, more.0), (one.1, more.1))

module _ (c : Setting) (settled : TypesSettled c.program) where
  fits_from : (front : List Module) (bs : List Build) → c.program ≡ front ++ map (λ b. b.unit) bs → AllDeclared c.program bs → AllKeepRules c bs → AllBasesDeclared c.program bs × AllDeclarationsFit c.program bs
  fits_from front [] whole h rules = (tt, tt)
  fits_from front (b ∷ bs) whole h rules =
      let ok = subst (ModulesOk c.program) whole c.ok in
      let here : (x : List ℕ) → description c.program (typed b.unit.name x) ≡ type_named b.unit.types x = λ x. ap (λ p. description p (typed b.unit.name x)) whole ∙ description_here front b.unit (map (λ b. b.unit) bs) c.program x ok in
      let one = all_declared c.program settled b.types b.unit rules.0.described h.0.whole [] b.unit.types 0 refl (types_differ b.unit.types h.0.different) here h.0.order in
      let more = fits_from (front ++ b.unit ∷ []) bs (whole ∙ sym (append_assoc front (b.unit ∷ []) (map (λ b. b.unit) bs))) h.1 rules.1 in
      ((one.0, more.0), (one.1, more.1))

-- THE LAW
pub types_from_declarations : TypesFromDeclarations
types_from_declarations c builds whole settled h rules =
    let fit = fits_from c settled [] builds whole h rules in
    record { forms = forms_from c.program settled; built = built_from c.program settled; sizes = fit.1; bases = fit.0 }
