-- The definitions of a record type in a module's file are those of the families that are declared for it there.
use Rattle.std.proofs.Common.{◌≡◌, ℕ, suc, ◌+◌, List, [], ◌∷◌, ◌++◌, length, Option, Some, None, refl, sym, ap, ◌∙◌, subst, append_assoc}
use Rattle.std.specs.Prelude.{Bool, true, false, ◌&&◌, nat_eq, bytes_eq, if◌then◌else◌}
use Rattle.std.proofs.lemmas.Option.{none-some}
use Rattle.ob_tree.specs.declared.names.QName.{QName}
use Rattle.ob_types.specs.declared.desc.Desc.{Desc}
use Rattle.ob_types.specs.declared.typed.Binding.{Binding}
use Rattle.ob_types.specs.declared.typed.Family.{Family}
use Rattle.ob_types.specs.TypedSyntax.{Procedure, Module}
use Rattle.ob_obj.specs.declared.parts.Definition.{Definition}
use Rattle.ob_meaning.specs.Values.{same_name, Program, line_of}
use Rattle.ob_meaning.specs.Meaning.{same_family, is_bound, declared_among, declared_for, first_of_both, nearest}
use Rattle.ob_scheme.specs.Descriptions.{method_number}
use Rattle.ob_scheme.specs.Object.{is_bound_to, bound_number, definitions_among}
use Rattle.law_simulation_relation.specs.Layout.{procedure_index}
use Rattle.law_simulation_relation.specs.Typed.{IsRecordType}
use Rattle.law_simulation_relation.proofs.Names.{nat_same, bytes_same, bytes_true, name_true, name_same}
use Rattle.law_image_code.specs.Fits.{IsNamed}
use Rattle.law_image_links.proofs.Modules.{ProceduresDiffer, index_named, number_here}
use Rattle.law_image_tables.specs.Declared.{typed}
use Rattle.law_image_tables.specs.Families.{HasFamily, NumbersDiffer, NumbersAgree, IsBoundOnce, AreBoundOnce}
use Rattle.law_image_tables.proofs.Definitions.{found, Differ, differs}
use Rattle.law_lists.proofs.Lists.{and_parts, length_last}

family_true : (f g : Family) → same_family f g ≡ true → f ≡ g
family_true f g e =
    let h = and_parts (same_name f.owner g.owner) (bytes_eq f.name g.name) e in
    ap (λ (o : QName). record { owner = o; name = f.name }) (name_true f.owner g.owner h.0) ∙ ap (λ (x : List ℕ). record { owner = g.owner; name = x }) (bytes_true f.name g.name h.1)

family_same : (f : Family) → same_family f f ≡ true
family_same f = ap (λ b. b && bytes_eq f.name f.name) (name_same f.owner) ∙ bytes_same f.name

bound_same : (b : Binding) → is_bound (Some b) b.owner b.family ≡ true
bound_same b = ap (λ z. z && same_family b.family b.family) (name_same b.owner) ∙ family_same b.family

pub bound_family : (b : Binding) (q : QName) (f : Family) → is_bound (Some b) q f ≡ true → (b.owner ≡ q) × (b.family ≡ f)
bound_family b q f e = let h = and_parts (same_name b.owner q) (same_family b.family f) e in (name_true b.owner q h.0, family_true b.family f h.1)

-- what is said of a list's first procedure
none_first : (p : Procedure) (ps : List Procedure) (q : QName) (f : Family) → declared_among (p ∷ ps) q f ≡ None → is_bound p.binding q f ≡ false
none_first p ps q f e = go (is_bound p.binding q f) e
  where
    go : (b : Bool) → (if b then Some (typed q.«module» p.name) else declared_among ps q f) ≡ None → b ≡ false
    go true e = absurd (none-some _ (sym e))
    go false e = refl

none_behind : (p : Procedure) (ps : List Procedure) (q : QName) (f : Family) → declared_among (p ∷ ps) q f ≡ None → declared_among ps q f ≡ None
none_behind p ps q f e = sym (ap (λ b. if b then Some (typed q.«module» p.name) else declared_among ps q f) (none_first p ps q f e)) ∙ e

-- a procedure among others declares its family
declared_somewhere : (front : List Procedure) (p : Procedure) (ps : List Procedure) (q : QName) (f : Family) → is_bound p.binding q f ≡ true → (r : QName) × (declared_among (front ++ p ∷ ps) q f ≡ Some r)
declared_somewhere [] p ps q f e = (typed q.«module» p.name, ap (λ b. if b then Some (typed q.«module» p.name) else declared_among ps q f) e)
declared_somewhere (k ∷ front) p ps q f e = go (is_bound k.binding q f) (declared_somewhere front p ps q f e)
  where
    go : (b : Bool) → (r : QName) × (declared_among (front ++ p ∷ ps) q f ≡ Some r) → (r : QName) × ((if b then Some (typed q.«module» k.name) else declared_among (front ++ p ∷ ps) q f) ≡ Some r)
    go true more = (typed q.«module» k.name, refl)
    go false more = more

abbrev pub AllNamed : List Procedure → Type 0
AllNamed [] = Unit {0}
AllNamed (p ∷ ps) = IsNamed p.name × AllNamed ps

pub some_one : (a b : QName) → Some a ≡ Some b → a ≡ b
some_one a b e = cc

module _ (program : Program) (number : Family → ℕ) (differ : NumbersDiffer program number) (types : QName → Option Desc) (agree : NumbersAgree program number types) (md : Module) (x : List ℕ) where
  abbrev q : QName
  q = typed md.name x

  abbrev Definitions : List Procedure → ℕ → List Definition
  Definitions ps n = definitions_among types md x ps n

  module _ (built : IsRecordType program q) (declared : (f : Family) → declared_for program q f ≡ declared_among md.procedures q f) where
    pub has_family : (f : Family) (r : QName) → declared_among md.procedures q f ≡ Some r → HasFamily program q f
    has_family f r e = (r, ap (λ t. nearest program (line_of t) f) built.1 ∙ ap (λ o. first_of_both o (nearest program built.0 f)) (declared f ∙ e))

    -- the family of a procedure that is bound to the type
    record Bound (b : Binding) : Type 0 where
      pub owner : b.owner ≡ q
      pub has : HasFamily program q b.family
      pub number_is : method_number types b.family.owner b.family.name ≡ number b.family

    bound_to : (front : List Procedure) (p : Procedure) (ps : List Procedure) (b : Binding) → md.procedures ≡ front ++ p ∷ ps → p.binding ≡ Some b → IsBoundOnce md.name (Some b) ps → bytes_eq x b.owner.object ≡ true → Bound b
    bound_to front p ps b whole is once e =
        let owner : b.owner ≡ q = ap (λ z. typed z b.owner.object) once.0 ∙ ap (λ z. typed md.name z) (sym (bytes_true x b.owner.object e)) in
        let bound : is_bound p.binding q b.family ≡ true = ap (λ o. is_bound o q b.family) is ∙ subst (λ o. is_bound (Some b) o b.family ≡ true) owner (bound_same b) in
        let some = declared_somewhere front p ps q b.family bound in
        let has = has_family b.family some.0 (ap (λ l. declared_among l q b.family) whole ∙ some.1) in
        record { owner = owner; has = has; number_is = agree q b.family built has }

    -- where a family is not declared, its number is none of a definition
    pub none_found : (front ps : List Procedure) (n : ℕ) → md.procedures ≡ front ++ ps → AreBoundOnce md.name ps → (f : Family) → HasFamily program q f → declared_among ps q f ≡ None → found (Definitions ps n) (number f) ≡ None
    none_found front [] n whole once f has e = refl
    none_found front (p ∷ ps) n whole once f has e = go p.binding refl once.0 (none_found (front ++ p ∷ []) ps (suc n) (whole ∙ sym (append_assoc front (p ∷ []) ps)) once.1 f has (none_behind p ps q f e))
      where
        go : (o : Option Binding) → p.binding ≡ o → IsBoundOnce md.name o ps → found (Definitions ps (suc n)) (number f) ≡ None → found (if is_bound_to types md x o then record { number = bound_number types md o; procedure = n } ∷ Definitions ps (suc n) else Definitions ps (suc n)) (number f) ≡ None
        go None is once more = more
        go (Some b) is once more = by (bytes_eq x b.owner.object) refl
          where
            by : (z : Bool) → bytes_eq x b.owner.object ≡ z → found (if z then record { number = bound_number types md (Some b); procedure = n } ∷ Definitions ps (suc n) else Definitions ps (suc n)) (number f) ≡ None
            by false g = more
            by true g =
                let k = bound_to front p ps b whole is once g in
                let not : is_bound (Some b) q f ≡ false = ap (λ o. is_bound o q f) (sym is) ∙ none_first p ps q f e in
                let other = differs (number f) (method_number types b.family.owner b.family.name) (λ same. no_one (differ q b.family f built k.has has (sym (same ∙ k.number_is))) k.owner not) in
                ap (λ z. if z then Some n else found (Definitions ps (suc n)) (number f)) other ∙ more
              where
                no_one : b.family ≡ f → b.owner ≡ q → is_bound (Some b) q f ≡ false → ⊥
                no_one same owner not = both (is_bound (Some b) q f) not (subst (λ g. is_bound (Some b) q g ≡ true) same (subst (λ o. is_bound (Some b) o b.family ≡ true) owner (bound_same b)))
                  where
                    both : (b : Bool) → b ≡ false → b ≡ true → ⊥
                    both b f t = absurd (cc)

    -- where a family is declared, its number is that of a definition with the procedure that is declared
    pub some_found : (front ps : List Procedure) (n : ℕ) → n ≡ suc (length front) → md.procedures ≡ front ++ ps → ProceduresDiffer md.procedures → AllNamed ps → AreBoundOnce md.name ps → (f : Family) → HasFamily program q f → (r : QName) → declared_among ps q f ≡ Some r → found (Definitions ps n) (number f) ≡ Some (procedure_index md.procedures r.object)
    some_found front [] n at whole apart named once f has r e = absurd (none-some _ e)
    some_found front (p ∷ ps) n at whole apart named once f has r e =
        go p.binding refl once.0 e (λ g. some_found (front ++ p ∷ []) ps (suc n) (ap suc at ∙ ap suc (sym (length_last front p))) (whole ∙ sym (append_assoc front (p ∷ []) ps)) apart named.1 once.1 f has r g)
      where
        D : List Definition
        D = Definitions ps (suc n)

        Result : Option ℕ → Type 0
        Result o = o ≡ Some (procedure_index md.procedures r.object)

        index_is : procedure_index md.procedures p.name ≡ n
        index_is =
            ap (λ l. procedure_index l p.name) whole ∙ sym (index_named (front ++ p ∷ ps) p.name named.0)
            ∙ ap suc (number_here front p ps (subst ProceduresDiffer whole apart)) ∙ sym at

        go : (o : Option Binding) → p.binding ≡ o → IsBoundOnce md.name o ps → (if is_bound o q f then Some (typed q.«module» p.name) else declared_among ps q f) ≡ Some r → (declared_among ps q f ≡ Some r → Result (found D (number f))) → Result (found (if is_bound_to types md x o then record { number = bound_number types md o; procedure = n } ∷ D else D) (number f))
        go None is once e more = more e
        go (Some b) is once e more = by (bytes_eq x b.owner.object) refl
          where
            by : (z : Bool) → bytes_eq x b.owner.object ≡ z → Result (found (if z then record { number = bound_number types md (Some b); procedure = n } ∷ D else D) (number f))
            by false g = more (subst (λ z. (if z then Some (typed q.«module» p.name) else declared_among ps q f) ≡ Some r) (not_here (is_bound (Some b) q f) refl) e)
              where
                not_here : (z : Bool) → is_bound (Some b) q f ≡ z → z ≡ false
                not_here false h = refl
                not_here true h = absurd (both (bytes_eq x b.owner.object) g (subst (λ (o : QName). bytes_eq x o.object ≡ true) (sym (bound_family b q f h).0) (bytes_same x)))
                  where
                    both : (b : Bool) → b ≡ false → b ≡ true → ⊥
                    both b f t = absurd (cc)
            by true g = on (is_bound (Some b) q f) refl e
              where
                k : Bound b
                k = bound_to front p ps b whole is once g

                at_it : ℕ
                at_it = method_number types b.family.owner b.family.name

                on : (z : Bool) → is_bound (Some b) q f ≡ z → (if z then Some (typed q.«module» p.name) else declared_among ps q f) ≡ Some r → Result (if nat_eq (number f) at_it then Some n else found D (number f))
                on true h e =
                    let same : nat_eq (number f) at_it ≡ true = subst (λ m. nat_eq (number f) m ≡ true) (sym (k.number_is ∙ ap number (bound_family b q f h).1)) (nat_same (number f)) in
                    ap (λ z. if z then Some n else found D (number f)) same ∙ ap (λ i. Some i) (sym index_is) ∙ ap (λ (r : QName). Some (procedure_index md.procedures r.object)) (some_one (typed q.«module» p.name) r e)
                on false h e =
                    let other = differs (number f) at_it (λ same. no_one (differ q b.family f built k.has has (sym (same ∙ k.number_is)))) in
                    ap (λ z. if z then Some n else found D (number f)) other ∙ more e
                  where
                    no_one : b.family ≡ f → ⊥
                    no_one same = both (is_bound (Some b) q f) h (subst (λ g. is_bound (Some b) q g ≡ true) same (subst (λ o. is_bound (Some b) o b.family ≡ true) k.owner (bound_same b)))
                      where
                        both : (b : Bool) → b ≡ false → b ≡ true → ⊥
                        both b f t = absurd (cc)

    -- the definitions have different numbers
    pub all_differ : (front ps : List Procedure) (n : ℕ) → md.procedures ≡ front ++ ps → AreBoundOnce md.name ps → Differ (Definitions ps n)
    all_differ front [] n whole once = tt
    all_differ front (p ∷ ps) n whole once = go p.binding refl once.0 (all_differ (front ++ p ∷ []) ps (suc n) whole2 once.1)
      where
        whole2 : md.procedures ≡ (front ++ p ∷ []) ++ ps
        whole2 = whole ∙ sym (append_assoc front (p ∷ []) ps)

        D : List Definition
        D = Definitions ps (suc n)

        go : (o : Option Binding) → p.binding ≡ o → IsBoundOnce md.name o ps → Differ D → Differ (if is_bound_to types md x o then record { number = bound_number types md o; procedure = n } ∷ D else D)
        go None is o more = more
        go (Some b) is o more = by (bytes_eq x b.owner.object) refl
          where
            by : (z : Bool) → bytes_eq x b.owner.object ≡ z → Differ (if z then record { number = bound_number types md (Some b); procedure = n } ∷ D else D)
            by false g = more
            by true g =
                let k = bound_to front p ps b whole is o g in
                (ap (found D) k.number_is ∙ none_found (front ++ p ∷ []) ps (suc n) whole2 once.1 b.family k.has (subst (λ z. declared_among ps z b.family ≡ None) k.owner o.1), more)
