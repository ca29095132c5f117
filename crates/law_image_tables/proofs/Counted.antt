-- Families of a type have different numbers, below the count of the type.
use Rattle.std.proofs.Common.{◌≡◌, ◌⊎◌, inl, inr, ⊎_elim, ℕ, ◌≤◌, ◌<◌, List, [], ◌∷◌, ◌++◌, map, refl, sym, ap, ◌∙◌, subst, arith, append_assoc, Option, Some}
use Rattle.std.specs.Prelude.{Bool, true, false, ◌||◌}
use Rattle.std.specs.Option.{option_map, unwrap_or}
use Rattle.ob_tree.specs.declared.names.QName.{QName}
use Rattle.ob_types.specs.declared.types.TypeRef.TheVariants as ref
use Rattle.ob_types.specs.declared.desc.Desc.{Desc}
use Rattle.ob_types.specs.declared.desc.Desc.TheVariants as desc
use Rattle.ob_types.specs.declared.desc.Method.{Method}
use Rattle.ob_types.specs.declared.desc.RecordDesc.{RecordDesc}
use Rattle.ob_types.specs.declared.typed.Family.{Family}
use Rattle.ob_types.specs.declared.typed.TypedType.{TypedType}
use Rattle.ob_types.specs.TypedSyntax.{Module}
use Rattle.ob_meaning.specs.Values.{same_name, Program, RecordForm, line_of, fields_of, base_line, form_in, record_in, bases_in, is_among, description, type_named, number_of_types}
use Rattle.ob_layout.specs.Lists.{or_else}
use Rattle.ob_layout.specs.Members.{method_named, method_in_record, nearest_in, from_base, nearest}
use Rattle.ob_scheme.specs.Descriptions.{method_number}
use Rattle.law_simulation_relation.specs.Relation.{ModulesOk, head}
use Rattle.law_simulation_relation.specs.Typed.{IsRecordType}
use Rattle.law_simulation_relation.proofs.Names.{name_true}
use Rattle.law_simulation_relation.specs.Setting.{Setting}
use Rattle.law_image_links.specs.Files.{Build}
use Rattle.law_image_tables.specs.Declared.{above, base_of, typed, BasesBuilt}
use Rattle.law_image_tables.specs.Families.{HasFamily, NumbersDiffer, NumbersAgree, CountsFamilies, FamiliesCounted, AllFamiliesDeclared}
use Rattle.law_image_tables.specs.Settled.{TypesSettled, AllDeclared}
use Rattle.law_image_tables.specs.Counted.{counted, count_of, count_below, Introduced, FamiliesNumbered, number, AllBoundOnce, FamiliesFromDeclarations}
use Rattle.law_image_tables.proofs.Declared.{declared_record}
use Rattle.law_image_tables.proofs.Settled.{built_from, TypesDiffer, types_differ, named_here, description_here}

number_named : (types : QName → Option Desc) (f : Family) (r : RecordDesc) (m : Method) → types f.owner ≡ Some (desc.Record r) → method_named f.name r.methods ≡ Some m → method_number types f.owner f.name ≡ m.number
unfolding method_number
number_named types f r m is has =
    ap (λ o. unwrap_or (option_map (λ (p : Method). p.number) (nearest_in (method_in_record f.name) (nearest (method_in_record f.name) types 200) o)) 0) is
    ∙ ap (λ o. unwrap_or (option_map (λ (p : Method). p.number) (or_else o (from_base (nearest (method_in_record f.name) types 200) r.base))) 0) has

module _ (program : Program) (built : BasesBuilt program) (given : FamiliesNumbered program) where
  abbrev Built : QName → List QName → Type 0
  Built q line = record_in program q ≡ RecordForm (q ∷ line) (fields_of (record_in program q))

  -- a base counts no more
  base_counts : (q b : QName) (line : List QName) → Built q (b ∷ line) → count_of program b ≤ count_of program q
  base_counts q b line e =
      let d = declared_record (description program) (number_of_types program) (ref.Named q) q (b ∷ line) _ e in
      let m = given.methods q d.0 d.1 in
      let below : count_of program b ≤ d.0.procedures = subst (λ o. count_below program o ≤ d.0.procedures) (ap (λ t. head (above (line_of t))) e) m.rises in
      subst (λ o. count_of program b ≤ counted o) (sym d.1) below

  line_counts : (line : List QName) (q : QName) → Built q line → (o : QName) → is_among (q ∷ line) o ≡ true → count_of program o ≤ count_of program q
  line_counts [] q e o h = go (same_name o q) refl h
    where
      go : (z : Bool) → same_name o q ≡ z → (z || false) ≡ true → count_of program o ≤ count_of program q
      go true f h = subst (λ x. count_of program x ≤ count_of program q) (sym (name_true o q f)) (omega arith)
      go false f h = absurd (cc)
  line_counts (b ∷ line) q e o h = go (same_name o q) refl h (λ i. line_counts line b (built q b line e).0 o i)
    where
      go : (z : Bool) → same_name o q ≡ z → (z || is_among (b ∷ line) o) ≡ true → (is_among (b ∷ line) o ≡ true → count_of program o ≤ count_of program b) → count_of program o ≤ count_of program q
      go true f h more = subst (λ x. count_of program x ≤ count_of program q) (sym (name_true o q f)) (omega arith)
      go false f h more = let n = more h in let m = base_counts q b line e in omega (arith, n, m)

  -- of two types of a line that are not the same one counts no more than the base of the other
  abbrev Apart : QName → QName → Type 0
  Apart o p = (o ≡ p) ⊎ ((count_of program o ≤ count_below program (base_of program p)) ⊎ (count_of program p ≤ count_below program (base_of program o)))

  behind_base : (q b : QName) (line : List QName) → Built q (b ∷ line) → (o p : QName) → o ≡ q → is_among (b ∷ line) p ≡ true → count_of program p ≤ count_below program (base_of program o)
  behind_base q b line e o p same k =
      let at_base : count_below program (base_of program o) ≡ count_of program b = ap (λ x. count_below program (base_of program x)) same ∙ ap (λ t. count_below program (head (above (line_of t)))) e in
      subst (λ n. count_of program p ≤ n) (sym at_base) (line_counts line b (built q b line e).0 p k)

  apart : (line : List QName) (q : QName) → Built q line → (o p : QName) → is_among (q ∷ line) o ≡ true → is_among (q ∷ line) p ≡ true → Apart o p
  apart [] q e o p h k = inl (alone o h ∙ sym (alone p k))
    where
      alone : (o : QName) → (same_name o q || false) ≡ true → o ≡ q
      alone o h = go (same_name o q) refl h
        where
          go : (z : Bool) → same_name o q ≡ z → (z || false) ≡ true → o ≡ q
          go true f h = name_true o q f
          go false f h = absurd (cc)
  apart (b ∷ line) q e o p h k = go (same_name o q) (same_name p q) refl refl h k (λ i j. apart line b (built q b line e).0 o p i j)
    where
      go : (x y : Bool) → same_name o q ≡ x → same_name p q ≡ y → (x || is_among (b ∷ line) o) ≡ true → (y || is_among (b ∷ line) p) ≡ true → (is_among (b ∷ line) o ≡ true → is_among (b ∷ line) p ≡ true → Apart o p) → Apart o p
      go true true f g h k more = inl (name_true o q f ∙ sym (name_true p q g))
      go true false f g h k more = inr (inr (behind_base q b line e o p (name_true o q f) k))
      go false true f g h k more = inr (inl (behind_base q b line e p o (name_true p q g) h))
      go false false f g h k more = more h k

  -- a family's number is that of its method, which lies between the counts
  record Lies (f : Family) (o : QName) : Type 0 where
    pub low : count_below program (base_of program o) ≤ number program f
    pub high : number program f < count_of program o

  lies : (t : QName) (f : Family) → Introduced program t f → Lies f f.owner
  lies t f x =
      let m = given.methods f.owner x.r x.is in
      let n = number_named (description program) f x.r x.method x.is x.has in
      let a = m.above f.name x.method x.has in
      let b = m.below f.name x.method x.has in
      let c : count_of program f.owner ≡ x.r.procedures = ap counted x.is in
      record { low = subst (λ k. count_below program (base_of program f.owner) ≤ k) (sym n) a; high = omega (arith, n, b, c) }

  same_record : (o p : QName) (r s : RecordDesc) → o ≡ p → description program o ≡ Some (desc.Record r) → description program p ≡ Some (desc.Record s) → s ≡ r
  same_record o p r s e f g = one (sym g ∙ ap (description program) (sym e) ∙ f)
    where
      one : Some (desc.Record s) ≡ Some (desc.Record r) → s ≡ r
      one e = cc

  pub numbers_differ : NumbersDiffer program (number program)
  numbers_differ t f g is hf hg same = ⊎_elim one (λ k. ⊎_elim two three k) (apart is.0 t is.1 f.owner g.owner (in_line f x.among) (in_line g y.among))
    where
      x : Introduced program t f
      x = given.introduced t f is hf

      y : Introduced program t g
      y = given.introduced t g is hg

      in_line : (f : Family) → is_among (bases_in program t) f.owner ≡ true → is_among (t ∷ is.0) f.owner ≡ true
      in_line f h = ap (λ l. is_among l f.owner) (sym (ap line_of is.1)) ∙ h

      nx : number program f ≡ x.method.number
      nx = number_named (description program) f x.r x.method x.is x.has

      ny : number program g ≡ y.method.number
      ny = number_named (description program) g y.r y.method y.is y.has

      one : f.owner ≡ g.owner → f ≡ g
      one e =
          let r = same_record f.owner g.owner x.r y.r e x.is y.is in
          let has = subst (λ (r : RecordDesc). method_named g.name r.methods ≡ Some y.method) r y.has in
          let name = (given.methods f.owner x.r x.is).differ f.name g.name x.method y.method x.has has (sym nx ∙ same ∙ ny) in
          ap (λ (o : QName). record { owner = o; name = f.name }) e ∙ ap (λ (n : List ℕ). record { owner = g.owner; name = n }) name

      two : count_of program f.owner ≤ count_below program (base_of program g.owner) → f ≡ g
      two le = let a = (lies t f x).high in let b = (lies t g y).low in absurd (omega (arith, le, a, b, same))

      three : count_of program g.owner ≤ count_below program (base_of program f.owner) → f ≡ g
      three le = let a = (lies t g y).high in let b = (lies t f x).low in absurd (omega (arith, le, a, b, same))

  pub all_below : (q : QName) (r : RecordDesc) → description program q ≡ Some (desc.Record r) → (is : IsRecordType program q) (f : Family) → HasFamily program q f → number program f < r.procedures
  all_below q r e is f has =
      let x = given.introduced q f is has in
      let a = (lies q f x).high in
      let n = line_counts is.0 q is.1 f.owner (ap (λ l. is_among l f.owner) (sym (ap line_of is.1)) ∙ x.among) in
      let c : count_of program q ≡ r.procedures = ap counted e in
      omega (arith, a, n, c)

-- THE TYPES OF A MODULE

module _ (program : Program) (settled : TypesSettled program) (given : FamiliesNumbered program) (md : Module) where
  counts : (x : List ℕ) (d : Desc) → description program (typed md.name x) ≡ Some d → CountsFamilies program (number program) (typed md.name x) d
  counts x (desc.Record r) e =
      let q = typed md.name x in
      let s = settled.records q r e in
      let line = base_line (form_in program) r.base in
      let is : IsRecordType program q = (line, s.is ∙ ap (λ fs. RecordForm (q ∷ line) fs) (sym (ap fields_of s.is))) in
      (is, λ f has. all_below program (built_from program settled) given q r e is f has)
  counts x d e = tt

  all_counted : (front ts : List TypedType) → md.types ≡ front ++ ts → TypesDiffer md.types → ((x : List ℕ) → description program (typed md.name x) ≡ type_named md.types x) → FamiliesCounted program (number program) md.name ts
  all_counted front [] is apart here = tt
  all_counted front (t ∷ ts) is apart here =
      let found = here t.name ∙ ap (λ l. type_named l t.name) is ∙ named_here front t ts (subst TypesDiffer is apart) in
      (counts t.name t.desc found, all_counted (front ++ t ∷ []) ts (is ∙ sym (append_assoc front (t ∷ []) ts)) apart here)

agrees : (program : Program) (types : QName → Option Desc) → ((q : QName) → types q ≡ description program q) → NumbersAgree program (number program) types
agrees program types whole t f is has = let same : types ≡ description program = λ i q. whole q i in ap (λ ty. method_number ty f.owner f.name) same

module _ (c : Setting) (settled : TypesSettled c.program) (given : FamiliesNumbered c.program) where
  families_from : (front : List Module) (bs : List Build) → c.program ≡ front ++ map (λ b. b.unit) bs → AllDeclared c.program bs → AllBoundOnce bs → AllFamiliesDeclared c.program (number c.program) bs
  families_from front [] whole h once = tt
  families_from front (b ∷ bs) whole h once =
      let ok = subst (ModulesOk c.program) whole c.ok in
      let here : (x : List ℕ) → description c.program (typed b.unit.name x) ≡ type_named b.unit.types x = λ x. ap (λ p. description p (typed b.unit.name x)) whole ∙ description_here front b.unit (map (λ b. b.unit) bs) c.program x ok in (
        (agrees c.program b.types h.0.whole, (all_counted c.program settled given b.unit [] b.unit.types refl (types_differ b.unit.types h.0.different) here, once.0)),
        families_from (front ++ b.unit ∷ []) bs (whole ∙ sym (append_assoc front (b.unit ∷ []) (map (λ b. b.unit) bs))) h.1 once.1,
      )

-- THE LAW
pub families_from_declarations : FamiliesFromDeclarations
families_from_declarations c builds whole settled h given once = (numbers_differ c.program (built_from c.program settled) given, families_from c settled given [] builds whole h once)
