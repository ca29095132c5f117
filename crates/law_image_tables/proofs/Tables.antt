-- The descriptors of the files of a program's modules have the tables of their types.
use Rattle.std.proofs.Common.{◌≡◌, ℕ, suc, ◌+◌, ◌<◌, List, [], ◌∷◌, ◌++◌, length, Option, Some, None, refl, sym, ap, ◌∙◌, subst, arith, append_assoc}
use Rattle.std.specs.Prelude.{Bool, true, false, ◌&&◌, bytes_eq, take, replicate, slice_get, if◌then◌else◌}
use Rattle.std.proofs.lemmas.Option.{none-some}
use Rattle.ob_tree.specs.declared.names.QName.{QName}
use Rattle.ob_tree.specs.declared.proc_ref.ProcRef.{ProcRef}
use Rattle.ob_types.specs.declared.desc.Desc.{Desc}
use Rattle.ob_types.specs.declared.desc.Desc.TheVariants as desc
use Rattle.ob_types.specs.declared.typed.Family.{Family}
use Rattle.ob_types.specs.declared.typed.TypedType.{TypedType}
use Rattle.ob_types.specs.TypedSyntax.{Procedure, Module}
use Rattle.ob_tdesc.specs.declared.descriptor.Descriptor.{Descriptor}
use Rattle.ob_obj.specs.declared.parts.RecordType.{RecordType}
use Rattle.ob_obj.specs.declared.parts.Definition.{Definition}
use Rattle.ob_obj.specs.Images.{base_number, methods_in, base_methods, with_own}
use Rattle.ob_meaning.specs.Values.{Program, RecordForm, fields_of, line_of, record_in, bases_in}
use Rattle.ob_meaning.specs.Meaning.{is_bound, declared_among, declared_for, first_of_both, nearest}
use Rattle.ob_scheme.specs.Object.{definitions, definitions_among, record_in as record_of, records_in}
use Rattle.law_simulation_relation.specs.Layout.{type_number, module_number, procedure_index, procedures_in}
use Rattle.law_simulation_relation.specs.Relation.{ModulesOk, number_of}
use Rattle.law_simulation_relation.specs.Typed.{IsRecordType}
use Rattle.law_simulation_relation.proofs.Names.{bytes_same, bytes_sym}
use Rattle.law_simulation_relation.specs.Setting.{Setting, has_of}
use Rattle.law_image_code.proofs.Entered.{fresh_at}
use Rattle.law_image_links.proofs.Modules.{ProceduresDiffer}
use Rattle.law_image_tables.specs.Declared.{above, typed, BasesBuilt}
use Rattle.law_image_tables.specs.Families.{HasFamily, NumbersDiffer, NumbersAgree, CountsFamilies, FamiliesCounted, AreBoundOnce}
use Rattle.law_image_tables.proofs.Bases.{typed_is, NextBase, AreBased}
use Rattle.law_image_tables.proofs.Added.{AreAdded}
use Rattle.law_image_tables.proofs.Definitions.{found, ordered, chosen, with_own_at, taken, taken_length}
use Rattle.law_image_tables.proofs.Families.{AllNamed, some_one, none_found, some_found, all_differ}

-- what a program declares for the types of a module stands among the procedures of the module
pub declared_here : (front : List Module) (m : Module) (back : List Module) (program : Program) (x : List ℕ) (f : Family) → ModulesOk program (front ++ m ∷ back) → declared_for (front ++ m ∷ back) (typed m.name x) f ≡ declared_among m.procedures (typed m.name x) f
declared_here [] m back program x f ok = ap (λ b. if b then declared_among m.procedures (typed m.name x) f else declared_for back (typed m.name x) f) (bytes_same m.name)
declared_here (k ∷ front) m back program x f ok =
    ap (λ b. if b then declared_among k.procedures (typed m.name x) f else declared_for (front ++ m ∷ back) (typed m.name x) f) (bytes_sym m.name k.name ∙ fresh_at k.name front m back ok.0)
    ∙ declared_here front m back program x f ok.1.1

declared_module : (ps : List Procedure) (q : QName) (f : Family) (r : QName) → declared_among ps q f ≡ Some r → r.«module» ≡ q.«module»
declared_module [] q f r e = absurd (none-some _ e)
declared_module (p ∷ ps) q f r e = go (is_bound p.binding q f) e (λ g. declared_module ps q f r g)
  where
    go : (b : Bool) → (if b then Some (typed q.«module» p.name) else declared_among ps q f) ≡ Some r → (declared_among ps q f ≡ Some r → r.«module» ≡ q.«module») → r.«module» ≡ q.«module»
    go true e more = sym (ap (λ (r : QName). r.«module») (some_one (typed q.«module» p.name) r e))
    go false e more = more e

module _ (c : Setting) (number : Family → ℕ) where
  abbrev pub ref : QName → ProcRef
  ref r = number_of c.program (has_of c) c.img r

  -- a descriptor has the procedure that is nearest to a type at the number of each of its families
  abbrev pub HasTable : QName → Descriptor → Type 0
  HasTable q d = (f : Family) (r : QName) → nearest c.program (bases_in c.program q) f ≡ Some r → slice_get d.methods (number f) ≡ Some (Some (ref r))

  abbrev pub HaveTables : List Descriptor → Type 0
  HaveTables [] = Unit {0}
  HaveTables (d ∷ ds) = HasTable (typed d.«module» d.name) d × HaveTables ds

  pub tables_two : (ds es : List Descriptor) → HaveTables ds → HaveTables es → HaveTables (ds ++ es)
  tables_two [] es f g = g
  tables_two (d ∷ ds) es f g = (f.0, tables_two ds es f.1 g)

  pub record FoundTable (ds es : List Descriptor) (q : QName) : Type 0 where
    pub descriptor : Descriptor
    pub found : slice_get ds (type_number (ds ++ es) q) ≡ Some descriptor
    pub table : HasTable q descriptor

  pub found_table : (ds es : List Descriptor) (q : QName) → HaveTables ds → type_number (ds ++ es) q < length ds → FoundTable ds es q
  found_table [] es q h lt = absurd (omega (arith, lt))
  found_table (d ∷ ds) es q h lt = go (bytes_eq q.«module» d.«module» && bytes_eq q.object d.name) refl lt (λ l. found_table ds es q h.1 l)
    where
      go : (b : Bool) → (bytes_eq q.«module» d.«module» && bytes_eq q.object d.name) ≡ b → (if b then 0 else suc (type_number (ds ++ es) q)) < suc (length ds) → (type_number (ds ++ es) q < length ds → FoundTable ds es q) → FoundTable (d ∷ ds) es q
      go true e l more =
          let n : type_number (d ∷ (ds ++ es)) q ≡ 0 = ap (λ b. if b then 0 else suc (type_number (ds ++ es) q)) e in
          record { descriptor = d; found = ap (slice_get (d ∷ ds)) n; table = subst (λ x. HasTable x d) (typed_is q d.«module» d.name e) h.0 }
      go false e l more =
          let r = more (omega (arith, l)) in
          let n : type_number (d ∷ (ds ++ es)) q ≡ suc (type_number (ds ++ es) q) = ap (λ b. if b then 0 else suc (type_number (ds ++ es) q)) e in
          record { descriptor = r.descriptor; found = ap (slice_get (d ∷ ds)) n ∙ r.found; table = r.table }

  -- THE RECORD TYPES OF A FILE

  module _ (types : QName → Option Desc) (md : Module) where
    abbrev IsTabled : RecordType → Type 0
    IsTabled t = (t.definitions ≡ definitions types md t.name) × (IsRecordType c.program (typed md.name t.name) × ((f : Family) → HasFamily c.program (typed md.name t.name) f → number f < t.count))

    abbrev pub AreTabled : List RecordType → Type 0
    AreTabled [] = Unit {0}
    AreTabled (t ∷ rs) = IsTabled t × AreTabled rs

    of_desc : (links : List QName) (x : List ℕ) (d : Desc) (more : List RecordType) → CountsFamilies c.program number (typed md.name x) d → AreTabled more → AreTabled (record_of types md links x d ++ more)
    of_desc links x (desc.Record r) more h m = ((refl, (h.0, h.1)), m)
    of_desc links x d more h m = m

    pub of_types : (links : List QName) (ts : List TypedType) → FamiliesCounted c.program number md.name ts → AreTabled (records_in types md links ts)
    of_types links [] h = tt
    of_types links (t ∷ ts) h = of_desc links t.name t.desc (records_in types md links ts) h.0 (of_types links ts h.1)

    module _ (differ : NumbersDiffer c.program number) (agree : NumbersAgree c.program number types) (built : BasesBuilt c.program) (once : AreBoundOnce md.name md.procedures) (apart : ProceduresDiffer md.procedures) (named : AllNamed md.procedures) (k : ℕ) (at : module_number c.program md.name ≡ k) (mine : procedures_in c.program md.name ≡ md.procedures) (declared : (x : List ℕ) (f : Family) → declared_for c.program (typed md.name x) f ≡ declared_among md.procedures (typed md.name x) f) where
      -- a type's table of its own procedures, and those of its base where it has none
      module _ (x : List ℕ) (type : IsRecordType c.program (typed md.name x)) where
        abbrev q : QName
        q = typed md.name x

        abbrev D : List Definition
        D = definitions_among types md x md.procedures 1

        in_table : (l : List (Option ProcRef)) (f : Family) (r : QName) → nearest c.program (bases_in c.program q) f ≡ Some r → number f < length l → (nearest c.program (above (bases_in c.program q)) f ≡ Some r → slice_get l (number f) ≡ Some (Some (ref r))) → slice_get (with_own k (definitions types md x) l) (number f) ≡ Some (Some (ref r))
        in_table l f r e lt base =
            let differs = all_differ c.program number differ types agree md x type (declared x) [] md.procedures 1 refl once in
            let o = ordered D differs in
            with_own_at k (definitions types md x) l (number f) o.1 lt ∙ ap (λ p. chosen k p (slice_get l (number f))) (o.0 (number f)) ∙ go (declared_among md.procedures q f) refl
          where
            line : bases_in c.program q ≡ q ∷ type.0
            line = ap line_of type.1

            near : first_of_both (declared_among md.procedures q f) (nearest c.program type.0 f) ≡ Some r
            near = sym (ap (λ l. nearest c.program l f) line ∙ ap (λ o. first_of_both o (nearest c.program type.0 f)) (declared x f)) ∙ e

            go : (o : Option QName) → declared_among md.procedures q f ≡ o → chosen k (found D (number f)) (slice_get l (number f)) ≡ Some (Some (ref r))
            go None g =
                let behind : nearest c.program (above (bases_in c.program q)) f ≡ Some r = ap (λ l. nearest c.program (above l) f) line ∙ sym (ap (λ o. first_of_both o (nearest c.program type.0 f)) g) ∙ near in
                ap (λ p. chosen k p (slice_get l (number f))) (none_found c.program number differ types agree md x type (declared x) [] md.procedures 1 refl once f (r, e) g) ∙ base behind
            go (Some s) g =
                let same : s ≡ r = some_one s r (sym (ap (λ o. first_of_both o (nearest c.program type.0 f)) g) ∙ near) in
                let mine_is : declared_among md.procedures q f ≡ Some r = g ∙ ap (λ s. Some s) same in
                let m = declared_module md.procedures q f r mine_is in
                ap (λ p. chosen k p (slice_get l (number f))) (some_found c.program number differ types agree md x type (declared x) [] md.procedures 1 refl refl apart named once f (r, e) r mine_is)
                ∙ ap (λ n. Some (Some (record { «module» = n; proc = procedure_index md.procedures r.object }))) (sym (ap (module_number c.program) m ∙ at))
                ∙ ap (λ ps. Some (Some (record { «module» = module_number c.program r.«module»; proc = procedure_index ps r.object }))) (sym (ap (procedures_in c.program) m ∙ mine))

      -- the entries of the base
      from_base : (ts es : List Descriptor) (x : List ℕ) (type : IsRecordType c.program (typed md.name x)) (base : Option ℕ) (rest : List QName) → above (bases_in c.program (typed md.name x)) ≡ rest → NextBase c.program (ts ++ es) rest base (length ts) → HaveTables ts → (f : Family) (r : QName) → nearest c.program rest f ≡ Some r → slice_get (base_methods ts base) (number f) ≡ Some (Some (ref r))
      from_base ts es x type base [] is next h f r e = absurd (none-some _ e)
      from_base ts es x type base (b ∷ line) is next h f r e =
          let t = found_table ts es b h next.1 in
          let rest : type.0 ≡ b ∷ line = sym (ap (λ t. above (line_of t)) type.1) ∙ is in
          let up = built (typed md.name x) b line (type.1 ∙ ap (λ l. RecordForm (typed md.name x ∷ l) (fields_of (record_in c.program (typed md.name x)))) rest) in
          let near : nearest c.program (bases_in c.program b) f ≡ Some r = ap (λ t. nearest c.program (line_of t) f) up.0 ∙ e in
          ap (λ o. slice_get (base_methods ts o) (number f)) next.0 ∙ ap (λ d. slice_get (methods_in d) (number f)) t.found ∙ t.table f r near

      pub descriptors_tabled : (first : ℕ) (links : List ℕ) (ts es all : List Descriptor) (rs : List RecordType) (ds : List Descriptor) → all ≡ ts ++ (ds ++ es) → AreAdded md.name first links k ts rs ds → AreTabled rs → AreBased c.program all ds (length ts) → HaveTables ts → HaveTables ds
      descriptors_tabled first links ts es all [] [] is a t b h = tt
      descriptors_tabled first links ts es all [] (d ∷ ds) is a t b h = absurd a
      descriptors_tabled first links ts es all (t ∷ rs) [] is a g b h = absurd a
      descriptors_tabled first links ts es all (t ∷ rs) (d ∷ ds) is a g b h = (one, descriptors_tabled first links (ts ++ d ∷ []) es all rs ds (is ∙ sym (append_assoc ts (d ∷ []) (ds ++ es))) a.1 g.1 (subst (AreBased c.program all ds) (sym (one_more ts d)) b.1) (tables_two ts (d ∷ []) h (one, tt)))
        where
          one_more : (l : List Descriptor) (d : Descriptor) → length (l ++ d ∷ []) ≡ suc (length l)
          one_more [] d = refl
          one_more (x ∷ l) d = ap suc (one_more l d)

          q : QName
          q = typed md.name t.name

          name : typed d.«module» d.name ≡ q
          name = ap (λ (d : Descriptor). typed d.«module» d.name) a.0

          cut : Option ℕ → List (Option ProcRef)
          cut o = take t.count (base_methods ts o ++ replicate t.count None)

          methods : d.methods ≡ with_own k (definitions types md t.name) (cut d.base)
          methods =
              ap (λ (d : Descriptor). d.methods) a.0 ∙ ap (λ l. with_own k l (cut (base_number first links t.base))) g.0.0
              ∙ ap (λ o. with_own k (definitions types md t.name) (cut o)) (sym (ap (λ (d : Descriptor). d.base) a.0))

          next : NextBase c.program (ts ++ (d ∷ ds ++ es)) (above (bases_in c.program q)) d.base (length ts)
          next = subst (λ l. NextBase c.program l (above (bases_in c.program q)) d.base (length ts)) is (subst (λ q. NextBase c.program all (above (bases_in c.program q)) d.base (length ts)) name b.0)

          table : HasTable q d
          table f r e =
              let lt : number f < t.count = g.0.1.1 f (r, e) in
              ap (λ l. slice_get l (number f)) methods
              ∙ in_table t.name g.0.1.0 (cut d.base) f r e (subst (λ n. number f < n) (sym (taken_length (base_methods ts d.base) t.count)) lt)
              (λ behind. taken (base_methods ts d.base) t.count (number f) (Some (ref r)) (from_base ts (d ∷ ds ++ es) t.name g.0.1.0 d.base (above (bases_in c.program q)) refl next h f r behind) lt)

          one : HasTable (typed d.«module» d.name) d
          one = subst (λ x. HasTable x d) (sym name) table
