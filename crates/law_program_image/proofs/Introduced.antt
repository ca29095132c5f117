-- Each family of a type is introduced by a type that it extends, or by itself.
use Rattle.std.proofs.Common.{◌≡◌, inl, inr, ℕ, zero, suc, List, [], ◌∷◌, Option, Some, None, refl, sym, ap, subst, ◌∙◌}
use Rattle.std.specs.Prelude.{Bool, true, false, ◌||◌, bytes_eq, cond, if◌then◌else◌}
use Rattle.std.specs.List.{AllByRecursion, find}
use Rattle.std.specs.Option.{option_map}
use Rattle.std.proofs.lemmas.Bool.{false≢true}
use Rattle.ob_tree.specs.declared.names.QName.{QName}
use Rattle.ob_types.specs.declared.desc.Desc.{Desc}
use Rattle.ob_types.specs.declared.desc.Desc.TheVariants as desc
use Rattle.ob_types.specs.declared.desc.Method.{Method}
use Rattle.ob_types.specs.declared.desc.RecordDesc.{RecordDesc}
use Rattle.ob_types.specs.declared.typed.Binding.{Binding}
use Rattle.ob_types.specs.declared.typed.Family.{Family}
use Rattle.ob_types.specs.TypedSyntax.{Procedure, Module}
use Rattle.ob_types.specs.TypedView.{module_view}
use Rattle.ob_meaning.specs.Values.{Program, same_name, RecordForm, line_of, fields_of, base_line, form_in, record_in, bases_in, is_among, description}
use Rattle.ob_meaning.specs.Meaning.{is_bound, declared_among, declared_for, first_of_both, nearest}
use Rattle.ob_layout.specs.Members.{method_named}
use Rattle.ob_layout.specs.LaidOut.{laid_type}
use Rattle.ob_env.specs.Faces.{described}
use Rattle.ob_env.specs.Shown.{blank, shown}
use Rattle.law_simulation_relation.proofs.Names.{bytes_true, bytes_same, name_same}
use Rattle.ob_rules.specs.Names.{own_desc}
use Rattle.law_typing_forms.specs.Formed.{Formed}
use Rattle.law_typing_forms.specs.Said.{IsOneOf, IsBoundAmong, IsSaid, IsSound}
use Rattle.law_typing_forms.specs.Whole.{IsWhole}
use Rattle.law_typing_forms.proofs.Within.{form_described}
use Rattle.law_typing_forms.proofs.Shapes.{record_form}
use Rattle.law_typing_forms.proofs.Saying.{formed}
use Rattle.law_typing_forms.proofs.Modules.{of_all, type_there}
use Rattle.law_typing_env.proofs.Shown.{described_said}
use Rattle.law_typing_env.proofs.Views.{one_each, own_found, checked_said, blank_said}
use Rattle.law_methods_introduced.specs.Families.{view, IsBase, Extends, Introduces}
use Rattle.law_image_tables.specs.Declared.{BasesBuilt}
use Rattle.law_image_tables.specs.Families.{HasFamily}
use Rattle.law_image_tables.specs.Counted.{Introduced}
use Rattle.law_image_tables.proofs.Families.{bound_family}
use Rattle.law_image_tables.proofs.Settled.{built_from}
use Rattle.law_program_image.proofs.Settled.{sound_are_settled}
use Rattle.law_program_image.specs.Families.{IsBinding, HasBindings, FamiliesAreIntroduced}
use Rattle.law_lists.proofs.Lists.{or_second}

-- ---- bound procedures by their names

found_one : (x : List ℕ) (ms : List Method) (m : Method) → find (λ (k : Method). bytes_eq k.name x) ms ≡ Some m → IsOneOf ms m × (m.name ≡ x)
found_one x [] m e = absurd cc
found_one x (k ∷ ks) m e = by (bytes_eq k.name x) refl e (λ e. found_one x ks m e)
  where
    by : (b : Bool) → bytes_eq k.name x ≡ b → cond b (Some k) (find (λ (k : Method). bytes_eq k.name x) ks) ≡ Some m → (find (λ (k : Method). bytes_eq k.name x) ks ≡ Some m → IsOneOf ks m × (m.name ≡ x)) → IsOneOf (k ∷ ks) m × (m.name ≡ x)
    by true n e r = let same : k ≡ m = cc in (inl same, ap (λ (z : Method). z.name) (sym same) ∙ bytes_true k.name x n)
    by false n e r = let h = r e in (inr h.0, h.1)

named_there : (x : List ℕ) (ms : List Method) (m : Method) → IsOneOf ms m → m.name ≡ x → (k : Method) × (method_named x ms ≡ Some k)
named_there x [] m i n = absurd i
named_there x (k ∷ ks) m i n = by (bytes_eq x k.name) refl i (λ j. named_there x ks m j n)
  where
    by : (b : Bool) → bytes_eq x k.name ≡ b → IsOneOf (k ∷ ks) m → (IsOneOf ks m → (y : Method) × (method_named x ks ≡ Some y)) → (y : Method) × (cond b (Some k) (method_named x ks) ≡ Some y)
    by true e i r = (k, refl)
    by false e (inl same) r = absurd (false≢true (sym e ∙ ap (λ (z : Method). bytes_eq x z.name) same ∙ ap (bytes_eq x) n ∙ bytes_same x))
    by false e (inr j) r = r j

module _ (program : Program) (sound : IsSound program) (whole : IsWhole program) where
  -- a record type introduces a procedure of that name
  record Has (o : QName) (x : List ℕ) : Type 0 where
    pub r : RecordDesc
    pub is : description program o ≡ Some (desc.Record r)
    pub method : Method
    pub has : method_named x r.methods ≡ Some method

  itself : (o : QName) (r : RecordDesc) → description program o ≡ Some (desc.Record r) → is_among (bases_in program o) o ≡ true
  itself o r e =
      ap (λ f. is_among (line_of f) o) (form_described program sound o (desc.Record r) e)
      ∙ ap (λ b. b || is_among (base_line (form_in program) r.base) o) (name_same o)

  -- THE VIEW FROM A MODULE
  module _ (m : Module) (i : IsOneOf program m) (h : HasBindings program m) where
    abbrev V : QName → Option Desc
    V = view (shown h.faces) h.checked

    abbrev c : Module
    c = module_view h.checked

    unit_is : m.name ≡ h.checked.name
    unit_is = ap (λ (x : Module). x.name) h.is

    said : (q : QName) (d : Desc) → V q ≡ Some d → IsSaid program q d
    said q d e = by (bytes_eq q.«module» h.checked.name) refl e
      where
        shown_said : (o : Option Desc) → described h.faces q ≡ o → option_map blank o ≡ Some d → IsSaid program q d
        shown_said None f e = absurd cc
        shown_said (Some x) f e = let k : blank x ≡ d = cc in subst (λ d. IsSaid program q d) k (blank_said program sound q x (described_said program sound whole h.faces h.age q x f))

        by : (a : Bool) → bytes_eq q.«module» h.checked.name ≡ a → cond a (own_desc (find (λ t. bytes_eq t.name q.object) h.checked.types)) (shown h.faces q) ≡ Some d → IsSaid program q d
        by true n e =
            let k = own_found h.checked.types q.object d e in
            let laid = laid_type h.types c k.t in
            let in_m : IsOneOf m.types laid = subst (λ (x : Module). IsOneOf x.types laid) (sym h.is) (one_each (laid_type h.types c) c.types k.t k.there) in
            let there : description program (record { «module» = m.name; object = k.t.name }) ≡ Some laid.desc = type_there program whole m laid i in_m in
            let unit : q.«module» ≡ m.name = bytes_true q.«module» h.checked.name n ∙ sym unit_is in
            let at_q : description program q ≡ Some laid.desc = ap (λ (x : List ℕ). description program (let p : QName = record { «module» = x; object = q.object } in p)) unit ∙ ap (λ (x : List ℕ). description program (let p : QName = record { «module» = m.name; object = x } in p)) (sym k.name) ∙ there in
            let s : IsSaid program q k.t.desc = checked_said program sound h.types c q (record { «module» = c.name; object = k.t.name }) k.t.desc at_q in
            subst (λ d. IsSaid program q d) k.desc s
        by false n e = shown_said (described h.faces q) refl e

    shape : Formed V program
    shape = formed program sound V said

    based : (q b : QName) → IsBase V q b → bases_in program q ≡ q ∷ bases_in program b
    based q b x =
        let s : IsSaid program q (desc.Record x.r) = said q (desc.Record x.r) x.is in
        let k = record_form V program shape x.t b x.found in
        let base = sym s.1.1.base ∙ x.base in
        ap line_of (form_described program sound q (desc.Record s.0) s.1.0)
        ∙ ap (λ o. q ∷ base_line (form_in program) o) base
        ∙ ap (λ f. q ∷ line_of f) k.form

    extends : (n : ℕ) (q o : QName) (r : RecordDesc) → description program o ≡ Some (desc.Record r) → Extends V n q o → is_among (bases_in program q) o ≡ true
    extends zero q o r e x = absurd x
    extends (suc n) q o r e (inl same) = subst (λ y. is_among (bases_in program y) o ≡ true) (sym same) (itself o r e)
    extends (suc n) q o r e (inr k) = ap (λ l. is_among l o) (based q k.0 k.1.0) ∙ or_second (same_name o q) (is_among (bases_in program k.0) o) (extends n k.0 o r e k.1.1)

    introduces : (o : QName) (x : List ℕ) → Introduces V o x → Has o x
    introduces o x y =
        let s : IsSaid program o (desc.Record y.r) = said o (desc.Record y.r) y.is in
        let f = found_one x y.r.methods y.m y.found in
        let k : IsBoundAmong s.0.methods y.m = of_all (λ m. IsBoundAmong s.0.methods m) y.r.methods y.m s.1.1.methods f.0 in
        let n = named_there x s.0.methods k.k k.there (k.name ∙ f.1) in
        record { r = s.0; is = s.1.0; method = n.0; has = n.1 }

  -- where a procedure of a family is declared for a type
  record Here (s : QName) (f : Family) : Type 0 where
    pub among : is_among (bases_in program s) f.owner ≡ true
    pub has : Has f.owner f.name

  module _ (m : Module) (i : IsOneOf program m) (h : HasBindings program m) (s : QName) (f : Family) (q : QName) where
    abbrev Bound : Procedure → Type 0
    Bound p = (b : Binding) → p.binding ≡ Some b → IsBinding (shown h.faces) h.checked p b

    here : (p : Procedure) → Bound p → (o : Option Binding) → p.binding ≡ o → is_bound o s f ≡ true → Here s f
    here p k None e is = absurd cc
    here p k (Some b) e is =
        let x = k b e in
        let same = bound_family b s f is in
        let has = introduces m i h b.family.owner b.family.name x.family.introduced in
        let among = extends m i h 201 b.owner b.family.owner has.r has.is x.family.line in
        subst (λ g. Here s g) same.1 (subst (λ y. Here y b.family) same.0 (record { among = among; has = has }))

    here_among : (ps : List Procedure) → AllByRecursion Bound ps → declared_among ps s f ≡ Some q → Here s f
    here_among [] k e = absurd cc
    here_among (p ∷ ps) k e = by (is_bound p.binding s f) refl e (λ e. here_among ps k.1 e)
      where
        by : (b : Bool) → is_bound p.binding s f ≡ b → (if b then Some (record { «module» = s.«module»; object = p.name }) else declared_among ps s f) ≡ Some q → (declared_among ps s f ≡ Some q → Here s f) → Here s f
        by true is e r = here p k.0 p.binding refl is
        by false is e r = r e

  declared_in : (ms : List Module) → ((m : Module) → IsOneOf ms m → IsOneOf program m) → AllByRecursion (HasBindings program) ms → (s : QName) (f : Family) (q : QName) → declared_for ms s f ≡ Some q → Here s f
  declared_in [] i h s f q e = absurd cc
  declared_in (m ∷ ms) i h s f q e = by (bytes_eq s.«module» m.name) e (λ e. declared_in ms (λ k j. i k (inr j)) h.1 s f q e)
    where
      by : (b : Bool) → (if b then declared_among m.procedures s f else declared_for ms s f) ≡ Some q → (declared_for ms s f ≡ Some q → Here s f) → Here s f
      by true e r = here_among m (i m (inl refl)) h.0 s f q m.procedures h.0.bindings e
      by false e r = r e

  -- THE TYPES OF A LINE
  module _ (all : AllByRecursion (HasBindings program) program) where
    built : BasesBuilt program
    built = built_from program (sound_are_settled program sound)

    at_first : (line : List QName) (s : QName) → record_in program s ≡ RecordForm (s ∷ line) (fields_of (record_in program s)) → (f : Family) (q : QName) → declared_for program s f ≡ Some q → (is_among (s ∷ line) f.owner ≡ true) × Has f.owner f.name
    at_first line s e f q d = let k = declared_in program (λ m i. i) all s f q d in (ap (λ l. is_among l f.owner) (sym (ap line_of e)) ∙ k.among, k.has)

    lined : (line : List QName) (s : QName) → record_in program s ≡ RecordForm (s ∷ line) (fields_of (record_in program s)) → (f : Family) (q : QName) → nearest program (s ∷ line) f ≡ Some q → (is_among (s ∷ line) f.owner ≡ true) × Has f.owner f.name
    lined [] s e f q n = by (declared_for program s f) refl n
      where
        by : (o : Option QName) → declared_for program s f ≡ o → first_of_both o None ≡ Some q → (is_among (s ∷ []) f.owner ≡ true) × Has f.owner f.name
        by None d n = absurd cc
        by (Some r) d n = at_first [] s e f r d
    lined (b ∷ line) s e f q n = by (declared_for program s f) refl n (λ n. lined line b (built s b line e).0 f q n)
      where
        by : (o : Option QName) → declared_for program s f ≡ o → first_of_both o (nearest program (b ∷ line) f) ≡ Some q → (nearest program (b ∷ line) f ≡ Some q → (is_among (b ∷ line) f.owner ≡ true) × Has f.owner f.name) → (is_among (s ∷ b ∷ line) f.owner ≡ true) × Has f.owner f.name
        by None d n r = let k = r n in (or_second (same_name f.owner s) (is_among (b ∷ line) f.owner) k.0, k.1)
        by (Some r) d n k = at_first (b ∷ line) s e f r d

    introduced : (t : QName) (f : Family) → (line : List QName) → record_in program t ≡ RecordForm (t ∷ line) (fields_of (record_in program t)) → HasFamily program t f → Introduced program t f
    introduced t f line e has =
        let is : bases_in program t ≡ t ∷ line = ap line_of e in
        let k = lined line t e f has.0 (ap (λ l. nearest program l f) (sym is) ∙ has.1) in
        record { among = ap (λ l. is_among l f.owner) is ∙ k.0; r = k.1.r; is = k.1.is; method = k.1.method; has = k.1.has }

pub families_are_introduced : FamiliesAreIntroduced
families_are_introduced program sound whole all t f is has = introduced program sound whole all t f is.0 is.1 has
