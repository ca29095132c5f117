-- The numbers of bound procedures are below the number of their record's.
use Rattle.std.proofs.Common.{◌≡◌, inl, inr, ℕ, zero, suc, ◌≤◌, ◌<◌, Bool, true, false, cond, List, [], ◌∷◌, map, Option, Some, None, refl, sym, ap, subst, ◌∙◌, arith}
use Rattle.std.specs.Prelude.{bytes_eq, unwrap_or, if◌then◌else◌}
use Rattle.std.specs.List.{AllByRecursion, find}
use Rattle.std.specs.Option.{option_map}
use Rattle.std.proofs.lemmas.Slice.Eq.{bytes_eq-Decides}
use Rattle.ob_tree.specs.declared.names.QName.{QName}
use Rattle.ob_types.specs.declared.types.TypeRef.{TypeRef}
use Rattle.ob_types.specs.declared.types.TypeRef.TheVariants as ref
use Rattle.ob_types.specs.declared.desc.Desc.{Desc}
use Rattle.ob_types.specs.declared.desc.Desc.TheVariants as desc
use Rattle.ob_types.specs.declared.desc.RecordDesc.{RecordDesc}
use Rattle.ob_types.specs.declared.desc.Method.{Method}
use Rattle.ob_types.specs.declared.typed.Binding.{Binding}
use Rattle.ob_types.specs.declared.typed.TypedType.{TypedType}
use Rattle.ob_types.specs.declared.typed.TypedProcedure.{TypedProcedure}
use Rattle.ob_types.specs.declared.typed.TypedModule.{TypedModule}
use Rattle.ob_types.specs.TypedView.{procedure_view}
use Rattle.ob_types.specs.Tests.{target_of}
use Rattle.ob_layout.specs.Lists.{or_else}
use Rattle.ob_layout.specs.Members.{method_named, method_in_record, from_base, nearest_in, nearest}
use Rattle.ob_layout.specs.LaidOut.{type_named, base_of, numbered, procedures_in, words_in, laid_record, laid_desc, laid_type}
use Rattle.ob_env.specs.Faces.{Face, described}
use Rattle.ob_env.specs.Fit.{is_within, first_unfit}
use Rattle.ob_env.specs.Shown.{unnumbered, blank, shown}
use Rattle.ob_obj.specs.declared.parts.Definition.{Definition}
use Rattle.ob_obj.specs.Grammar.{by_number}
use Rattle.ob_scheme.specs.Descriptions.{method_number}
use Rattle.ob_scheme.specs.Object.{is_bound_to, bound_number, definitions_among}
use Rattle.ob_rules.specs.Names.{own_desc}
use Rattle.law_methods_introduced.specs.Families.{view, Extends, IsFamily}
use Rattle.law_methods_introduced.proofs.Chains.{Says, line_says, introduces_says}
use Rattle.law_spelling.specs.Files.{NumbersFit}
use Rattle.law_spelling.proofs.Lists.{all_in_order}
use Rattle.law_methods_introduced.specs.NumberLaws.{laid_in, seen_in, NumbersAreBelow}
use Rattle.law_methods_introduced.proofs.Counts.{M, types, F, laid_named, counts_are, base_fewer, found_below}
use Rattle.law_lists.proofs.Lists.{bytes_flip}

-- ---- a bound procedure by its name

named_found : (x : List ℕ) (ms : List Method) (m : Method) → find (λ (k : Method). bytes_eq k.name x) ms ≡ Some m → method_named x ms ≡ Some m
named_found x [] m e = absurd cc
named_found x (k ∷ ms) m e = ap (λ b. cond b (Some k) (method_named x ms)) (bytes_flip x k.name) ∙ go (bytes_eq k.name x) e (named_found x ms m)
  where
    go : (b : Bool) → cond b (Some k) (find (λ (k : Method). bytes_eq k.name x) ms) ≡ Some m → (find (λ (k : Method). bytes_eq k.name x) ms ≡ Some m → method_named x ms ≡ Some m) → cond b (Some k) (method_named x ms) ≡ Some m
    go true e up = e
    go false e up = up e

number_is : (types : QName → Option Desc) (q : QName) (x : List ℕ) (r : RecordDesc) (m : Method) → types q ≡ Some (desc.Record r) → find (λ (k : Method). bytes_eq k.name x) r.methods ≡ Some m → method_number types q x ≡ m.number
unfolding method_number
number_is types q x r m is f =
    ap (λ o. unwrap_or (option_map (λ (p : Method). p.number) (nearest_in (method_in_record x) (nearest (method_in_record x) types 200) o)) 0) is
    ∙ ap (λ o. unwrap_or (option_map (λ (p : Method). p.number) (or_else o (from_base (nearest (method_in_record x) types 200) r.base))) 0) (named_found x r.methods m f)

-- ---- the layout keeps names

find_numbered : (x : List ℕ) (n : ℕ) (ms : List Method) (m : Method) → find (λ (k : Method). bytes_eq k.name x) ms ≡ Some m → (k : Method) × (find (λ (k : Method). bytes_eq k.name x) (numbered n ms) ≡ Some k)
find_numbered x n [] m e = absurd cc
find_numbered x n (k ∷ ms) m e = go (bytes_eq k.name x) e (find_numbered x (suc n) ms m)
  where
    go : (b : Bool) → cond b (Some k) (find (λ (k : Method). bytes_eq k.name x) ms) ≡ Some m → (find (λ (k : Method). bytes_eq k.name x) ms ≡ Some m → (k : Method) × (find (λ (k : Method). bytes_eq k.name x) (numbered (suc n) ms) ≡ Some k)) → (l : Method) × (cond b (Some (record k { number = n })) (find (λ (k : Method). bytes_eq k.name x) (numbered (suc n) ms)) ≡ Some l)
    go true e up = (record k { number = n }, refl)
    go false e up = up e

find_blank : (x : List ℕ) (ms : List Method) (m : Method) → find (λ (k : Method). bytes_eq k.name x) (map unnumbered ms) ≡ Some m → (k : Method) × (find (λ (k : Method). bytes_eq k.name x) ms ≡ Some k)
find_blank x [] m e = absurd cc
find_blank x (k ∷ ms) m e = go (bytes_eq k.name x) e (find_blank x ms m)
  where
    go : (b : Bool) → cond b (Some (unnumbered k)) (find (λ (k : Method). bytes_eq k.name x) (map unnumbered ms)) ≡ Some m → (find (λ (k : Method). bytes_eq k.name x) (map unnumbered ms) ≡ Some m → (k : Method) × (find (λ (k : Method). bytes_eq k.name x) ms ≡ Some k)) → (l : Method) × (cond b (Some k) (find (λ (k : Method). bytes_eq k.name x) ms) ≡ Some l)
    go true e up = (k, refl)
    go false e up = up e

found_type : (ts : List TypedType) (x : List ℕ) → own_desc (find (λ t. bytes_eq t.name x) ts) ≡ type_named ts x
found_type [] x = refl
found_type (t ∷ ts) x = go (bytes_eq t.name x) (found_type ts x) ∙ ap (λ b. cond b (Some t.desc) (type_named ts x)) (bytes_flip t.name x)
  where
    go : (b : Bool) → own_desc (find (λ t. bytes_eq t.name x) ts) ≡ type_named ts x → own_desc (cond b (Some t) (find (λ t. bytes_eq t.name x) ts)) ≡ cond b (Some t.desc) (type_named ts x)
    go true e = refl
    go false e = e

-- what a description says of another: the same name of a type, or a record with the same base and the names of its procedures
abbrev SaysOf : Option Desc → Option Desc → Type 0
SaysOf a b = ((t : TypeRef) → target_of a ≡ Some t → target_of b ≡ Some t) × ((r : RecordDesc) → a ≡ Some (desc.Record r) → (s : RecordDesc) × ((b ≡ Some (desc.Record s)) × ((s.base ≡ r.base) × ((x : List ℕ) (m : Method) → find (λ (k : Method). bytes_eq k.name x) r.methods ≡ Some m → (k : Method) × (find (λ (k : Method). bytes_eq k.name x) s.methods ≡ Some k)))))

none_says : (b : Option Desc) → SaysOf None b
none_says b = ((λ t e. absurd (no t e)), (λ r e. absurd (nor r e)))
  where
    no : (t : TypeRef) → target_of None ≡ Some t → ⊥
    no t e = absurd cc

    nor : (r : RecordDesc) → None ≡ Some (desc.Record r) → ⊥
    nor r e = absurd cc

plain_says : (d : Desc) → ((r : RecordDesc) → d ≡ desc.Record r → ⊥) → SaysOf (Some d) (Some d)
plain_says d never = ((λ t e. e), (λ r e. absurd (never r cc)))

laid_says : (w p : TypeRef → ℕ) (q : QName) (d : Desc) → SaysOf (Some d) (Some (laid_desc w p q d))
laid_says w p q (desc.Const v) = plain_says (desc.Const v) (λ r e. cc)
laid_says w p q (desc.Var m t) = plain_says (desc.Var m t) (λ r e. cc)
laid_says w p q (desc.Proc s) = plain_says (desc.Proc s) (λ r e. cc)
laid_says w p q (desc.Alias m t) = plain_says (desc.Alias m t) (λ r e. cc)
laid_says w p q (desc.Array m n t) = plain_says (desc.Array m n t) (λ r e. cc)
laid_says w p q (desc.OpenArray m t) = plain_says (desc.OpenArray m t) (λ r e. cc)
laid_says w p q (desc.Pointer m t) = plain_says (desc.Pointer m t) (λ r e. cc)
laid_says w p q (desc.ProcType m s) = plain_says (desc.ProcType m s) (λ r e. cc)
laid_says w p q (desc.Record z) = ((λ t e. e), records)
  where
    records : (r : RecordDesc) → Some (desc.Record z) ≡ Some (desc.Record r) → (s : RecordDesc) × ((Some (desc.Record (laid_record w p q z)) ≡ Some (desc.Record s)) × ((s.base ≡ r.base) × ((x : List ℕ) (m : Method) → find (λ (k : Method). bytes_eq k.name x) r.methods ≡ Some m → (k : Method) × (find (λ (k : Method). bytes_eq k.name x) s.methods ≡ Some k))))
    records r e =
        let same : z ≡ r = cc in
        (laid_record w p q z, (refl, (ap (λ (y : RecordDesc). y.base) same, λ x m f. find_numbered x (base_of p z.base) z.methods m (ap (λ (y : RecordDesc). find (λ (k : Method). bytes_eq k.name x) y.methods) same ∙ f))))

blank_says : (d : Desc) → SaysOf (Some (blank d)) (Some d)
blank_says (desc.Const v) = plain_says (desc.Const v) (λ r e. cc)
blank_says (desc.Var m t) = plain_says (desc.Var m t) (λ r e. cc)
blank_says (desc.Proc s) = plain_says (desc.Proc s) (λ r e. cc)
blank_says (desc.Alias m t) = plain_says (desc.Alias m t) (λ r e. cc)
blank_says (desc.Array m n t) = plain_says (desc.Array m n t) (λ r e. cc)
blank_says (desc.OpenArray m t) = plain_says (desc.OpenArray m t) (λ r e. cc)
blank_says (desc.Pointer m t) = plain_says (desc.Pointer m t) (λ r e. cc)
blank_says (desc.ProcType m s) = plain_says (desc.ProcType m s) (λ r e. cc)
blank_says (desc.Record z) = ((λ t e. e), records)
  where
    records : (r : RecordDesc) → Some (blank (desc.Record z)) ≡ Some (desc.Record r) → (s : RecordDesc) × ((Some (desc.Record z) ≡ Some (desc.Record s)) × ((s.base ≡ r.base) × ((x : List ℕ) (m : Method) → find (λ (k : Method). bytes_eq k.name x) r.methods ≡ Some m → (k : Method) × (find (λ (k : Method). bytes_eq k.name x) s.methods ≡ Some k))))
    records r e =
        let same : blank (desc.Record z) ≡ desc.Record r = cc in
        let base : z.base ≡ r.base = ap base_in same in
        let methods : map unnumbered z.methods ≡ r.methods = ap methods_in same in
        (z, (refl, (base, λ x m f. find_blank x z.methods m (ap (find (λ (k : Method). bytes_eq k.name x)) methods ∙ f))))
      where
        base_in : Desc → Option TypeRef
        base_in (desc.Record r) = r.base
        base_in d = None

        methods_in : Desc → List Method
        methods_in (desc.Record r) = r.methods
        methods_in d = []

module _ (faces : List (Face (List ℕ))) (tm : TypedModule) (fit : first_unfit faces ≡ None) (apart : AllByRecursion (λ f. bytes_eq f.«module» tm.name ≡ false) faces) (ends : AllByRecursion (λ t. is_within (seen_in faces tm) 200 (ref.Named (record { «module» = tm.name; object = t.name })) ≡ true) (laid_in faces tm).types) where
  abbrev T : QName → Option Desc
  T = seen_in faces tm

  says_at : (q : QName) → SaysOf (view (shown faces) tm q) (T q)
  says_at q = go (bytes_eq q.«module» tm.name)
    where
      own : (o : Option Desc) → type_named tm.types q.object ≡ o → SaysOf o (type_named (laid_in faces tm).types q.object)
      own None e = none_says (type_named (laid_in faces tm).types q.object)
      own (Some d) e = subst (SaysOf (Some d)) (sym (laid_named faces tm fit apart tm.types q.object d e)) (laid_says _ _ _ d)

      other : (o : Option Desc) → SaysOf (option_map blank o) o
      other None = none_says None
      other (Some d) = blank_says d

      go : (b : Bool) → SaysOf (cond b (own_desc (find (λ t. bytes_eq t.name q.object) tm.types)) (shown faces q)) (cond b (type_named (laid_in faces tm).types q.object) (described faces q))
      go true = subst (λ o. SaysOf o (type_named (laid_in faces tm).types q.object)) (sym (found_type tm.types q.object)) (own (type_named tm.types q.object) refl)
      go false = other (described faces q)

  says : Says (view (shown faces) tm) T
  says = record { alias = λ q t e. (says_at q).0 t e; records = λ q r e. (says_at q).1 r e }

  -- along a line the numbers of bound procedures fall
  line_falls : (n : ℕ) (q o : QName) → Extends T n q o → (s : RecordDesc) → T o ≡ Some (desc.Record s) → (r : RecordDesc) × ((T q ≡ Some (desc.Record r)) × (s.procedures ≤ r.procedures))
  line_falls zero q o h s e = absurd h
  line_falls (suc n) q o (inl i) s e = (s, (ap T i ∙ e, omega arith))
  line_falls (suc n) q o (inr h) s e =
      let k = line_falls n h.0 o h.1.1 s e in
      let l = base_fewer faces tm fit apart ends q h.0 h.1.0 k.0 k.1.0 in
      let m = k.1.1 in
      (h.1.0.r, (h.1.0.is, omega (arith, l, m)))

  abbrev here : List ℕ → QName
  here x = record { «module» = tm.name; object = x }

  family_below : (b : Binding) → IsFamily (view (shown faces) tm) tm.name b → method_number T b.family.owner b.family.name < F faces tm fit apart (ref.Named b.owner)
  family_below b f =
      let i = introduces_says (view (shown faces) tm) T says b.family.owner b.family.name f.introduced in
      let l = line_falls 201 b.owner b.family.owner (line_says (view (shown faces) tm) T says 201 b.owner b.family.owner f.line) i.r i.is in
      let n = number_is T b.family.owner b.family.name i.r i.m i.is i.found in
      let m = found_below faces tm fit apart ends b.family.name b.family.owner i.r i.m i.is i.found in
      let c = counts_are faces tm fit apart b.owner l.0 l.1.0 in
      let k = l.1.1 in
      omega (arith, n, m, c, k)

  at_here : (b : Binding) (x : List ℕ) → bytes_eq b.owner.«module» tm.name ≡ true → bytes_eq x b.owner.object ≡ true → b.owner ≡ here x
  at_here b x m o = ap (λ (n : List ℕ). record { «module» = n; object = b.owner.object }) ((bytes_eq-Decides b.owner.«module» tm.name).0 m) ∙ ap here (sym ((bytes_eq-Decides x b.owner.object).0 o))

  abbrev IsBelow : List ℕ → Definition → Type 0
  IsBelow x d = d.number < F faces tm fit apart (ref.Named (here x))

  among_below : (x : List ℕ) (ps : List TypedProcedure) → AllByRecursion (λ p. (b : Binding) → p.binding ≡ Some b → IsFamily (view (shown faces) tm) tm.name b) ps → (n : ℕ) → AllByRecursion (IsBelow x) (definitions_among T (laid_in faces tm) x (map procedure_view ps) n)
  among_below x [] h n = tt
  among_below x (p ∷ ps) h n = go p.binding (h.0) (among_below x ps h.1 (suc n))
    where
      one : (b : Binding) → IsFamily (view (shown faces) tm) tm.name b → (c : Bool) → bytes_eq x b.owner.object ≡ c → AllByRecursion (IsBelow x) (definitions_among T (laid_in faces tm) x (map procedure_view ps) (suc n)) → AllByRecursion (IsBelow x) (if c then record { number = bound_number T (laid_in faces tm) (Some b); procedure = n } ∷ definitions_among T (laid_in faces tm) x (map procedure_view ps) (suc n) else definitions_among T (laid_in faces tm) x (map procedure_view ps) (suc n))
      one b f true e rest = (subst (λ q. method_number T b.family.owner b.family.name < F faces tm fit apart (ref.Named q)) (at_here b x f.own e) (family_below b f), rest)
      one b f false e rest = rest

      go : (o : Option Binding) → ((b : Binding) → o ≡ Some b → IsFamily (view (shown faces) tm) tm.name b) → AllByRecursion (IsBelow x) (definitions_among T (laid_in faces tm) x (map procedure_view ps) (suc n)) → AllByRecursion (IsBelow x) (if is_bound_to T (laid_in faces tm) x o then record { number = bound_number T (laid_in faces tm) o; procedure = n } ∷ definitions_among T (laid_in faces tm) x (map procedure_view ps) (suc n) else definitions_among T (laid_in faces tm) x (map procedure_view ps) (suc n))
      go None f rest = rest
      go (Some b) f rest = one b (f b refl) (bytes_eq x b.owner.object) refl rest

  types_below : (ts : List TypedType) → AllByRecursion (λ p. (b : Binding) → p.binding ≡ Some b → IsFamily (view (shown faces) tm) tm.name b) tm.procedures → AllByRecursion (λ t. NumbersFit T (laid_in faces tm) t t.desc) (map (laid_type (described faces) (M faces tm fit apart)) ts)
  types_below [] h = tt
  types_below (t ∷ ts) h = (one t.desc, types_below ts h)
    where
      one : (d : Desc) → NumbersFit T (laid_in faces tm) (laid_type (described faces) (M faces tm fit apart) t) (laid_desc (words_in (described faces) (M faces tm fit apart)) (procedures_in (described faces) (M faces tm fit apart)) (here t.name) d)
      one (desc.Const v) = tt
      one (desc.Var m u) = tt
      one (desc.Proc s) = tt
      one (desc.Alias m u) = tt
      one (desc.Array m n u) = tt
      one (desc.OpenArray m u) = tt
      one (desc.Pointer m u) = tt
      one (desc.ProcType m s) = tt
      one (desc.Record r) = all_in_order by_number (IsBelow t.name) (definitions_among T (laid_in faces tm) t.name (laid_in faces tm).procedures 1) (among_below t.name tm.procedures h 1)

pub numbers_below_all : NumbersAreBelow
numbers_below_all faces m fit apart ends families = types_below faces m fit apart ends m.types families
