-- The record types, exported variables and exported procedures of an object file have a spelling.
use Rattle.std.proofs.Common.{◌≡◌, ℕ, suc, ◌+◌, ◌<◌, ◌≤◌, ◌^◌, Bool, true, false, List, [], ◌∷◌, ◌++◌, length, map, Option, Some, None, refl, sym, ap, subst, ◌∙◌, arith, length-append}
use Rattle.std.specs.Prelude.{if◌then◌else◌, ◌&&◌, nat_lt, not, is_none, bytes_eq}
use Rattle.std.specs.List.{AllByRecursion, IsDistinct, list_all}
use Rattle.std.specs.Ordering.{is_eq}
use Rattle.std.specs.Cmp.{IsTotalOrder}
use Rattle.std.specs.declared.cmp.Ordering.{Ordering}
use Rattle.std.specs.declared.cmp.Ordering.TheVariants.{Less, Equal, Greater}
use Rattle.std.proofs.lemmas.Cmp.{nat_cmp_total, nat_list_cmp_total, on_total}
use Rattle.std.proofs.lemmas.Bool.{false≢true, and_parts}
use Rattle.std.proofs.lemmas.Map.Text.{is_eq-slice_cmp}
use Rattle.ob_tree.specs.declared.names.QName.{QName}
use Rattle.ob_tree.specs.declared.ident.Mark.{Mark}
use Rattle.ob_tree.specs.declared.ident.Mark.TheVariants as mark
use Rattle.ob_types.specs.declared.desc.Desc.{Desc}
use Rattle.ob_types.specs.declared.desc.Desc.TheVariants as desc
use Rattle.ob_types.specs.declared.typed.Binding.{Binding}
use Rattle.ob_types.specs.declared.typed.TypedType.{TypedType}
use Rattle.ob_types.specs.declared.typed.TypedVariable.{TypedVariable}
use Rattle.ob_types.specs.TypedSyntax.{Procedure, Module}
use Rattle.ob_format.specs.Format.{word32, list_of, rising}
use Rattle.ob_format.specs.Names.{name, object_name}
use Rattle.ob_desc.specs.Grammar.{is_shown}
use Rattle.ob_layout.specs.Lists.{put_before, put_in, in_order}
use Rattle.ob_layout.specs.Words.{words_of, described_words}
use Rattle.ob_layout.specs.Room.{bound_procedures}
use Rattle.ob_uses.specs.Objects.{is_exported}
use Rattle.ob_obj.specs.declared.parts.Base.TheVariants as base
use Rattle.ob_obj.specs.declared.parts.Definition.{Definition}
use Rattle.ob_obj.specs.declared.parts.RecordType.{RecordType}
use Rattle.ob_obj.specs.declared.parts.Command.{Command}
use Rattle.ob_obj.specs.Grammar.{by_name, variable, by_variable, base_form, definition, by_number, record_parts, record_type, by_type, command, by_command, base_stands, bases_stand, has_procedures}
use Rattle.ob_scheme.specs.Numbers.{same_type, number_among, with_one}
use Rattle.ob_scheme.specs.Context.{is_own, variable_place, type_index, own_types, records_among, is_record}
use Rattle.ob_scheme.specs.Object.{is_seen, is_full, is_free, own, seen_variables, variables, commands_among, commands, is_bound_to, bound_number, definitions_among, definitions, base_type, base_in, record_in, records_in, with_base, with_record, with_bases}
use Rattle.law_spelling.specs.Trees.{VariableIsSpelled, ProcedureIsSpelled, TypedTypeIsSpelled}
use Rattle.law_spelling.specs.Files.{BaseFits, DescBaseFits, number_behind, BasesFit, NumbersFit}
use Rattle.law_spelling.proofs.Lists.{all_in_order, order_strict}
use Rattle.law_spelling.proofs.Names.{name_fits}
use Rattle.law_spelling.proofs.Numbered.{TypeIsNamed, one_few, with_one_all}
use Rattle.law_lists.proofs.Lists.{all_both, all_from, bytes_itself}

definitions_total : IsTotalOrder by_number
definitions_total = on_total (λ d. d.number) nat_cmp_total

-- ---- lists in their order are no longer

pub order_few : {A : Type 0} (R : A → A → Ordering) (xs : List A) → length (in_order R xs) ≤ length xs
order_few {A} R [] = omega arith
order_few {A} R (x ∷ xs) = let a = put_few x (in_order R xs) in let b = order_few R xs in omega (arith, a, b)
  where
    placed : (o : Ordering) (x y : A) (ys more : List A) → length more ≤ suc (length ys) → length (put_before o x y ys more) ≤ suc (suc (length ys))
    placed Less x y ys more h = omega arith
    placed Equal x y ys more h = omega arith
    placed Greater x y ys more h = omega (arith, h)

    put_few : (x : A) (ys : List A) → length (put_in R x ys) ≤ suc (length ys)
    put_few x [] = omega arith
    put_few x (y ∷ ys) = placed (R x y) x y ys (put_in R x ys) (put_few x ys)

-- ---- the links of types

same_itself : (q : QName) → same_type q q ≡ true
same_itself q = ap (λ b. b && bytes_eq q.module q.module) (bytes_itself q.object) ∙ bytes_itself q.module

abbrev pub Has : List QName → QName → Type 0
Has qs q = number_among same_type qs q < length qs

has_new : (qs : List QName) (q : QName) → Has (with_one same_type qs q) q
has_new [] q = let e : number_among same_type (q ∷ []) q ≡ 0 = ap (λ b. if b then 0 else suc 0) (same_itself q) in omega (arith, e)
has_new (p ∷ ps) q = go (same_type q p) refl (has_new ps q)
  where
    go : (b : Bool) → same_type q p ≡ b → Has (with_one same_type ps q) q → Has (if b then p ∷ ps else p ∷ with_one same_type ps q) q
    go true e h = let f : number_among same_type (p ∷ ps) q ≡ 0 = ap (λ b. if b then 0 else suc (number_among same_type ps q)) e in omega (arith, f)
    go false e h = let f : number_among same_type (p ∷ with_one same_type ps q) q ≡ suc (number_among same_type (with_one same_type ps q) q) = ap (λ b. if b then 0 else suc (number_among same_type (with_one same_type ps q) q)) e in omega (arith, f, h)

has_more : (qs : List QName) (x q : QName) → Has qs q → Has (with_one same_type qs x) q
has_more [] x q h = absurd (omega (arith, h))
has_more (p ∷ ps) x q h = go (same_type x p) (same_type q p) refl (has_more ps x q)
  where
    one : (b : Bool) → same_type q p ≡ b → (Has ps q → Has (with_one same_type ps x) q) → Has (p ∷ with_one same_type ps x) q
    one true e more = let f : number_among same_type (p ∷ with_one same_type ps x) q ≡ 0 = ap (λ b. if b then 0 else suc (number_among same_type (with_one same_type ps x) q)) e in omega (arith, f)
    one false e more =
        let f : number_among same_type (p ∷ with_one same_type ps x) q ≡ suc (number_among same_type (with_one same_type ps x) q) = ap (λ b. if b then 0 else suc (number_among same_type (with_one same_type ps x) q)) e in
        let g : number_among same_type (p ∷ ps) q ≡ suc (number_among same_type ps q) = ap (λ b. if b then 0 else suc (number_among same_type ps q)) e in
        let k : Has (with_one same_type ps x) q = more (omega (arith, g, h)) in
        omega (arith, f, k)

    go : (a b : Bool) → same_type q p ≡ b → (Has ps q → Has (with_one same_type ps x) q) → Has (if a then p ∷ ps else p ∷ with_one same_type ps x) q
    go true b e more = h
    go false b e more = one b e more

module _ (types : QName → Option Desc) (m : Module) where
  base_kept : (links : List QName) (o : Option QName) (q : QName) → Has links q → Has (with_base types m links o) q
  base_kept links None q h = h
  base_kept links (Some p) q h = go (is_own (own types m) p.module)
    where
      go : (b : Bool) → Has (if b then links else with_one same_type links p) q
      go true = h
      go false = has_more links p q h

  record_kept : (links : List QName) (d : Desc) (q : QName) → Has links q → Has (with_record types m links d) q
  record_kept links (desc.Const v) q h = h
  record_kept links (desc.Var a t) q h = h
  record_kept links (desc.Proc s) q h = h
  record_kept links (desc.Alias a t) q h = h
  record_kept links (desc.Array a n t) q h = h
  record_kept links (desc.OpenArray a t) q h = h
  record_kept links (desc.Pointer a t) q h = h
  record_kept links (desc.ProcType a s) q h = h
  record_kept links (desc.Record r) q h = base_kept links (base_type types m r.base) q h

  bases_kept : (links : List QName) (ts : List TypedType) (q : QName) → Has links q → Has (with_bases types m links ts) q
  bases_kept links [] q h = h
  bases_kept links (t ∷ ts) q h = bases_kept (with_record types m links t.desc) ts q (record_kept links t.desc q h)

  -- the base of another module is among the links
  abbrev pub BaseHas : List QName → Option QName → Type 0
  BaseHas links None = Unit {0}
  BaseHas links (Some q) = is_own (own types m) q.«module» ≡ false → Has links q

  abbrev pub DescHas : List QName → Desc → Type 0
  DescHas links (desc.Record r) = BaseHas links (base_type types m r.base)
  DescHas links d = Unit {0}

  base_there : (links : List QName) (ts : List TypedType) (o : Option QName) → BaseHas (with_bases types m (with_base types m links o) ts) o
  base_there links ts None = tt
  base_there links ts (Some q) = λ e. bases_kept (with_base types m links (Some q)) ts q (subst (λ b. Has (if b then links else with_one same_type links q) q) (sym e) (has_new links q))

  desc_there : (links : List QName) (ts : List TypedType) (d : Desc) → DescHas (with_bases types m (with_record types m links d) ts) d
  desc_there links ts (desc.Const v) = tt
  desc_there links ts (desc.Var a t) = tt
  desc_there links ts (desc.Proc s) = tt
  desc_there links ts (desc.Alias a t) = tt
  desc_there links ts (desc.Array a n t) = tt
  desc_there links ts (desc.OpenArray a t) = tt
  desc_there links ts (desc.Pointer a t) = tt
  desc_there links ts (desc.ProcType a s) = tt
  desc_there links ts (desc.Record r) = base_there links ts (base_type types m r.base)

  pub bases_there : (links : List QName) (ts : List TypedType) → AllByRecursion (λ t. DescHas (with_bases types m links ts) t.desc) ts
  bases_there links [] = tt
  bases_there links (t ∷ ts) = (desc_there links ts t.desc, bases_there (with_record types m links t.desc) ts)

  -- the links are named, and not many more
  base_named : (links : List QName) (o : Option QName) → AllByRecursion TypeIsNamed links → (n : ℕ) → BaseFits types m n o → AllByRecursion TypeIsNamed (with_base types m links o)
  base_named links None a n h = a
  base_named links (Some q) a n h = go (is_own (own types m) q.module) refl
    where
      go : (b : Bool) → is_own (own types m) q.module ≡ b → AllByRecursion TypeIsNamed (if b then links else with_one same_type links q)
      go true e = a
      go false e = with_one_all same_type TypeIsNamed links q a (h.1 e)

  record_named : (links : List QName) (d : Desc) → AllByRecursion TypeIsNamed links → (n : ℕ) → DescBaseFits types m n d → AllByRecursion TypeIsNamed (with_record types m links d)
  record_named links (desc.Const v) a n h = a
  record_named links (desc.Var b t) a n h = a
  record_named links (desc.Proc s) a n h = a
  record_named links (desc.Alias b t) a n h = a
  record_named links (desc.Array b k t) a n h = a
  record_named links (desc.OpenArray b t) a n h = a
  record_named links (desc.Pointer b t) a n h = a
  record_named links (desc.ProcType b s) a n h = a
  record_named links (desc.Record r) a n h = base_named links (base_type types m r.base) a n h

  pub bases_named : (links : List QName) (n : ℕ) (ts : List TypedType) → AllByRecursion TypeIsNamed links → BasesFit types m n ts → AllByRecursion TypeIsNamed (with_bases types m links ts)
  bases_named links n [] a h = a
  bases_named links n (t ∷ ts) a h = bases_named (with_record types m links t.desc) (number_behind types m n t.desc) ts (record_named links t.desc a n h.0) h.1

  base_few : (links : List QName) (o : Option QName) → length (with_base types m links o) ≤ suc (length links)
  base_few links None = omega arith
  base_few links (Some q) = go (is_own (own types m) q.module)
    where
      go : (b : Bool) → length (if b then links else with_one same_type links q) ≤ suc (length links)
      go true = omega arith
      go false = one_few same_type links q

  record_few : (links : List QName) (d : Desc) → length (with_record types m links d) ≤ length links + (if is_record d then 1 else 0)
  record_few links (desc.Const v) = omega arith
  record_few links (desc.Var b t) = omega arith
  record_few links (desc.Proc s) = omega arith
  record_few links (desc.Alias b t) = omega arith
  record_few links (desc.Array b k t) = omega arith
  record_few links (desc.OpenArray b t) = omega arith
  record_few links (desc.Pointer b t) = omega arith
  record_few links (desc.ProcType b s) = omega arith
  record_few links (desc.Record r) = let a = base_few links (base_type types m r.base) in omega (arith, a)

  one_among : (b : Bool) (t : TypedType) (ts : List TypedType) → length (if b then t ∷ ts else ts) ≡ (if b then 1 else 0) + length ts
  one_among true t ts = omega arith
  one_among false t ts = omega arith

  -- at most one more for each record type
  pub bases_few : (links : List QName) (ts : List TypedType) → length (with_bases types m links ts) ≤ length links + length (records_among ts)
  bases_few links [] = omega arith
  bases_few links (t ∷ ts) =
      let a = record_few links t.desc in
      let b = bases_few (with_record types m links t.desc) ts in
      let c = one_among (is_record t.desc) t (records_among ts) in
      omega (arith, a, b, c)

  -- ---- definitions

  among_inside : (x : List ℕ) (ps : List Procedure) (n : ℕ) → AllByRecursion (λ d. d.procedure < n + length ps) (definitions_among types m x ps n)
  among_inside x [] n = tt
  among_inside x (p ∷ ps) n = go (is_bound_to types m x p.binding) (all_from (λ d. d.procedure < suc n + length ps) (λ d. d.procedure < n + suc (length ps)) (λ d l. omega (arith, l)) (definitions_among types m x ps (suc n)) (among_inside x ps (suc n)))
    where
      go : (b : Bool) → AllByRecursion (λ d. d.procedure < n + suc (length ps)) (definitions_among types m x ps (suc n)) → AllByRecursion (λ d. d.procedure < n + suc (length ps)) (if b then record { number = bound_number types m p.binding; procedure = n } ∷ definitions_among types m x ps (suc n) else definitions_among types m x ps (suc n))
      go true h = (omega arith, h)
      go false h = h

  among_many : (x : List ℕ) (ps : List Procedure) (n : ℕ) → length (definitions_among types m x ps n) ≤ length ps
  among_many x [] n = omega arith
  among_many x (p ∷ ps) n = go (is_bound_to types m x p.binding) (among_many x ps (suc n))
    where
      go : (b : Bool) → length (definitions_among types m x ps (suc n)) ≤ length ps → length (if b then record { number = bound_number types m p.binding; procedure = n } ∷ definitions_among types m x ps (suc n) else definitions_among types m x ps (suc n)) ≤ suc (length ps)
      go true h = omega (arith, h)
      go false h = omega (arith, h)

  definitions_fit : (ds : List Definition) → AllByRecursion (λ d. d.procedure < 4096) ds → AllByRecursion (λ d. d.number < 1048577) ds → AllByRecursion definition.fits ds
  unfolding definition word32
  definitions_fit [] h k = tt
  definitions_fit (d ∷ ds) h k = let a = h.0 in let b = k.0 in ((omega (arith, b), omega (arith, a)), definitions_fit ds h.1 k.1)

  -- ---- record types

  module _ (links : List QName) (few_procedures : suc (length m.procedures) ≤ 4096) (few_links : length links < 2 ^ 31) (few_types : own_types (own types m) ≤ 2 ^ 24) (index_few : (x : List ℕ) → type_index (own types m) x < 2 ^ 31) where
    base_fits_here : (o : Option QName) → BaseHas links o → base_form.fits (base_in types m links o)
    unfolding base_form word32
    base_fits_here None h = tt
    base_fits_here (Some q) h = go (is_own (own types m) q.module) refl
      where
        go : (b : Bool) → is_own (own types m) q.module ≡ b → base_form.fits (if b then base.Own (type_index (own types m) q.object) else base.Link (number_among same_type links q))
        go true e = let a = index_few q.object in omega (arith, a)
        go false e = let a = h e in omega (arith, a, few_links)

    record_fits : (t : TypedType) (d : Desc) → object_name.fits t.name → DescHas links d → described_words (words_of types) (Some d) ≤ 1048576 → bound_procedures d ≤ 1048576 → NumbersFit types m t d → AllByRecursion record_type.fits (record_in types m links t.name d)
    unfolding record_type record_parts list_of word32
    record_fits t (desc.Const v) n h w b k = tt
    record_fits t (desc.Var a u) n h w b k = tt
    record_fits t (desc.Proc s) n h w b k = tt
    record_fits t (desc.Alias a u) n h w b k = tt
    record_fits t (desc.Array a l u) n h w b k = tt
    record_fits t (desc.OpenArray a u) n h w b k = tt
    record_fits t (desc.Pointer a u) n h w b k = tt
    record_fits t (desc.ProcType a s) n h w b k = tt
    record_fits t (desc.Record r) n h w b k =
        let among = definitions_among types m t.name m.procedures 1 in
        let ds = definitions types m t.name in
        let inside : AllByRecursion (λ d. d.procedure < 4096) ds = all_in_order by_number (λ d. d.procedure < 4096) among (all_from (λ d. d.procedure < 1 + length m.procedures) (λ d. d.procedure < 4096) (λ d l. omega (arith, l, few_procedures)) among (among_inside t.name m.procedures 1)) in
        let numbered : AllByRecursion (λ d. d.number < 1048577) ds = all_from (λ d. d.number < r.procedures) (λ d. d.number < 1048577) (λ d l. omega (arith, l, b)) ds k in
        let many = order_few by_number among in
        let few = among_many t.name m.procedures 1 in
        ((
          (
            (n, (base_fits_here (base_type types m r.base) h, (omega (arith, w), (omega (arith, b), ((omega (arith, many, few, few_procedures), definitions_fit ds inside numbered), order_strict definitions_total among))))),
            record { words = w; count = b; numbers = k },
          ),
          tt,
        ))

    pub records_fit : (ts : List TypedType) → AllByRecursion TypedTypeIsSpelled ts → AllByRecursion (λ t. DescHas links t.desc) ts → AllByRecursion (λ t. described_words (words_of types) (Some t.desc) ≤ 1048576) ts → AllByRecursion (λ t. bound_procedures t.desc ≤ 1048576) ts → AllByRecursion (λ t. NumbersFit types m t t.desc) ts → AllByRecursion record_type.fits (records_in types m links ts)
    records_fit [] n h w b k = tt
    records_fit (t ∷ ts) n h w b k = all_both record_type.fits (record_in types m links t.name t.desc) (records_in types m links ts) (record_fits t t.desc n.0.0 h.0 w.0 b.0 k.0) (records_fit ts n.1 h.1 w.1 b.1 k.1)

  -- as many as the module's own
  one_many : (links : List QName) (x : List ℕ) (d : Desc) → length (record_in types m links x d) ≡ (if is_record d then 1 else 0)
  one_many links x (desc.Const v) = refl
  one_many links x (desc.Var a t) = refl
  one_many links x (desc.Proc s) = refl
  one_many links x (desc.Alias a t) = refl
  one_many links x (desc.Array a n t) = refl
  one_many links x (desc.OpenArray a t) = refl
  one_many links x (desc.Pointer a t) = refl
  one_many links x (desc.ProcType a s) = refl
  one_many links x (desc.Record r) = refl

  among_one : (b : Bool) (t : TypedType) (ts : List TypedType) → length (if b then t ∷ ts else ts) ≡ (if b then 1 else 0) + length ts
  among_one true t ts = omega arith
  among_one false t ts = omega arith

  pub records_many : (links : List QName) (ts : List TypedType) → length (records_in types m links ts) ≡ length (records_among ts)
  records_many links [] = refl
  records_many links (t ∷ ts) =
      let e = length-append (record_in types m links t.name t.desc) (records_in types m links ts) in
      let a = one_many links t.name t.desc in
      let b = records_many links ts in
      let c = among_one (is_record t.desc) t (records_among ts) in
      omega (arith, e, a, b, c)

  -- the names of records are those of their types
  one_name : (P : List ℕ → Type 0) (links : List QName) (x : List ℕ) (d : Desc) → P x → AllByRecursion (λ r. P r.name) (record_in types m links x d)
  one_name P links x (desc.Const v) h = tt
  one_name P links x (desc.Var a t) h = tt
  one_name P links x (desc.Proc s) h = tt
  one_name P links x (desc.Alias a t) h = tt
  one_name P links x (desc.Array a n t) h = tt
  one_name P links x (desc.OpenArray a t) h = tt
  one_name P links x (desc.Pointer a t) h = tt
  one_name P links x (desc.ProcType a s) h = tt
  one_name P links x (desc.Record r) h = (h, tt)

  pub records_have : (P : List ℕ → Type 0) (links : List QName) (ts : List TypedType) → AllByRecursion (λ t. P t.name) ts → AllByRecursion (λ r. P r.name) (records_in types m links ts)
  records_have P links [] h = tt
  records_have P links (t ∷ ts) h = all_both (λ r. P r.name) (record_in types m links t.name t.desc) (records_in types m links ts) (one_name P links t.name t.desc h.0) (records_have P links ts h.1)

  other_name : (x y : List ℕ) → bytes_eq x y ≡ false → is_eq (by_name x y) ≡ false
  other_name x y e = is_eq-slice_cmp x y ∙ e

  one_apart : (links : List QName) (x : List ℕ) (d : Desc) (rs : List RecordType) → AllByRecursion (λ r. is_eq (by_name x r.name) ≡ false) rs → IsDistinct (λ a b. is_eq (by_type a b)) rs → IsDistinct (λ a b. is_eq (by_type a b)) (record_in types m links x d ++ rs)
  unfolding IsDistinct
  one_apart links x (desc.Const v) rs h k = k
  one_apart links x (desc.Var a t) rs h k = k
  one_apart links x (desc.Proc s) rs h k = k
  one_apart links x (desc.Alias a t) rs h k = k
  one_apart links x (desc.Array a n t) rs h k = k
  one_apart links x (desc.OpenArray a t) rs h k = k
  one_apart links x (desc.Pointer a t) rs h k = k
  one_apart links x (desc.ProcType a s) rs h k = k
  one_apart links x (desc.Record r) rs h k = (h, k)

  named_apart : (x : List ℕ) (ts : List TypedType) → AllByRecursion (λ y. bytes_eq x y ≡ false) (map (λ t. t.name) ts) → AllByRecursion (λ t. is_eq (by_name x t.name) ≡ false) ts
  named_apart x [] h = tt
  named_apart x (t ∷ ts) h = (other_name x t.name h.0, named_apart x ts h.1)

  pub records_apart : (links : List QName) (ts : List TypedType) → IsDistinct bytes_eq (map (λ t. t.name) ts) → IsDistinct (λ a b. is_eq (by_type a b)) (records_in types m links ts)
  unfolding IsDistinct
  records_apart links [] h = tt
  records_apart links (t ∷ ts) h = one_apart links t.name t.desc (records_in types m links ts) (records_have (λ y. is_eq (by_name t.name y) ≡ false) links ts (named_apart t.name ts h.0)) (records_apart links ts h.1)

  -- ---- bases stand

  and_both : (a b : Bool) → a ≡ true → b ≡ true → a && b ≡ true
  and_both true b e f = f
  and_both false b e f = e

  is_below : (a b : ℕ) → a < b → nat_lt a b ≡ true
  is_below a b h = grind (arith, h)

  base_stands_here : (links : List QName) (n : ℕ) (o : Option QName) → BaseHas links o → BaseFits types m n o → base_stands (length links) n (base_in types m links o) ≡ true
  base_stands_here links n None h k = refl
  base_stands_here links n (Some q) h k = go (is_own (own types m) q.module) refl
    where
      go : (b : Bool) → is_own (own types m) q.module ≡ b → base_stands (length links) n (if b then base.Own (type_index (own types m) q.object) else base.Link (number_among same_type links q)) ≡ true
      go true e = is_below (type_index (own types m) q.object) n (k.0 e)
      go false e = is_below (number_among same_type links q) (length links) (h e)

  one_stands : (links : List QName) (x : List ℕ) (d : Desc) (n : ℕ) (rs : List RecordType) → DescHas links d → DescBaseFits types m n d → bases_stand (length links) (number_behind types m n d) rs ≡ true → bases_stand (length links) n (record_in types m links x d ++ rs) ≡ true
  one_stands links x (desc.Const v) n rs h k e = e
  one_stands links x (desc.Var a t) n rs h k e = e
  one_stands links x (desc.Proc s) n rs h k e = e
  one_stands links x (desc.Alias a t) n rs h k e = e
  one_stands links x (desc.Array a l t) n rs h k e = e
  one_stands links x (desc.OpenArray a t) n rs h k e = e
  one_stands links x (desc.Pointer a t) n rs h k e = e
  one_stands links x (desc.ProcType a s) n rs h k e = e
  one_stands links x (desc.Record r) n rs h k e = and_both _ (bases_stand (length links) (n + 1) rs) (base_stands_here links n (base_type types m r.base) h k) e

  pub all_stand : (links : List QName) (n : ℕ) (ts : List TypedType) → AllByRecursion (λ t. DescHas links t.desc) ts → BasesFit types m n ts → bases_stand (length links) n (records_in types m links ts) ≡ true
  all_stand links n [] h k = refl
  all_stand links n (t ∷ ts) h k = one_stands links t.name t.desc n (records_in types m links ts) h.0 k.0 (all_stand links (number_behind types m n t.desc) ts h.1 k.1)

  -- ---- the procedures of records

  inside_all : (limit : ℕ) (ds : List Definition) → AllByRecursion (λ d. d.procedure < limit) ds → list_all (λ d. nat_lt d.procedure limit) ds ≡ true
  inside_all limit [] h = refl
  inside_all limit (d ∷ ds) h = and_both (nat_lt d.procedure limit) (list_all (λ d. nat_lt d.procedure limit) ds) (is_below d.procedure limit h.0) (inside_all limit ds h.1)

  one_inside : (links : List QName) (x : List ℕ) (d : Desc) → AllByRecursion (λ t. has_procedures (suc (length m.procedures)) t ≡ true) (record_in types m links x d)
  one_inside links x (desc.Const v) = tt
  one_inside links x (desc.Var a t) = tt
  one_inside links x (desc.Proc s) = tt
  one_inside links x (desc.Alias a t) = tt
  one_inside links x (desc.Array a n t) = tt
  one_inside links x (desc.OpenArray a t) = tt
  one_inside links x (desc.Pointer a t) = tt
  one_inside links x (desc.ProcType a s) = tt
  one_inside links x (desc.Record r) =
      let among = definitions_among types m x m.procedures 1 in
      (inside_all (suc (length m.procedures)) (definitions types m x) (all_in_order by_number (λ d. d.procedure < suc (length m.procedures)) among (all_from (λ d. d.procedure < 1 + length m.procedures) (λ d. d.procedure < suc (length m.procedures)) (λ d l. omega (arith, l)) among (among_inside x m.procedures 1))), tt)

  pub all_inside : (links : List QName) (ts : List TypedType) → AllByRecursion (λ t. has_procedures (suc (length m.procedures)) t ≡ true) (records_in types m links ts)
  all_inside links [] = tt
  all_inside links (t ∷ ts) = all_both (λ t. has_procedures (suc (length m.procedures)) t ≡ true) (record_in types m links t.name t.desc) (records_in types m links ts) (one_inside links t.name t.desc) (all_inside links ts)

  -- ---- exported procedures and variables

  exported_if : (p : Procedure) → (is_full p.mark && is_free p.binding) ≡ true → is_exported p ≡ true
  exported_if p e = let k = and_parts (is_full p.mark) (is_free p.binding) e in and_both (is_shown p.mark) (is_none p.binding) (full p.mark k.0) (free p.binding k.1)
    where
      full : (x : Mark) → is_full x ≡ true → is_shown x ≡ true
      full mark.Full e = refl
      full mark.ReadOnly e = absurd (false≢true e)
      full mark.Hidden e = absurd (false≢true e)

      free : (b : Option Binding) → is_free b ≡ true → is_none b ≡ true
      free None e = refl
      free (Some b) e = absurd (false≢true e)

  abbrev CommandIsInside : ℕ → Command → Type 0
  CommandIsInside limit c = name.fits c.name × (c.procedure < limit)

  commands_inside : (ps : List Procedure) (n limit : ℕ) → n + length ps ≤ limit → AllByRecursion ProcedureIsSpelled ps → AllByRecursion (CommandIsInside limit) (commands_among types m ps n)
  commands_inside [] n limit l h = tt
  commands_inside (p ∷ ps) n limit l h = go (is_full p.mark && is_free p.binding) refl (commands_inside ps (suc n) limit (omega (arith, l)) h.1)
    where
      go : (b : Bool) → (is_full p.mark && is_free p.binding) ≡ b → AllByRecursion (CommandIsInside limit) (commands_among types m ps (suc n)) → AllByRecursion (CommandIsInside limit) (if b then record { name = p.name; procedure = n } ∷ commands_among types m ps (suc n) else commands_among types m ps (suc n))
      go true e r = let k = h.0 (exported_if p e) in ((name_fits p.name k.0, omega (arith, l)), r)
      go false e r = r

  commands_many : (ps : List Procedure) (n : ℕ) → length (commands_among types m ps n) ≤ length ps
  commands_many [] n = omega arith
  commands_many (p ∷ ps) n = go (is_full p.mark && is_free p.binding) (commands_many ps (suc n))
    where
      go : (b : Bool) → length (commands_among types m ps (suc n)) ≤ length ps → length (if b then record { name = p.name; procedure = n } ∷ commands_among types m ps (suc n) else commands_among types m ps (suc n)) ≤ suc (length ps)
      go true h = omega (arith, h)
      go false h = omega (arith, h)

  commands_total : IsTotalOrder by_command
  commands_total = on_total (λ c. c.name) nat_list_cmp_total

  commands_all : AllByRecursion ProcedureIsSpelled m.procedures → AllByRecursion (CommandIsInside (suc (length m.procedures))) (commands types m)
  commands_all h = all_in_order (λ a b. by_name a.name b.name) (CommandIsInside (suc (length m.procedures))) (commands_among types m m.procedures 1) (commands_inside m.procedures 1 (suc (length m.procedures)) (omega arith) h)

  commands_form : (cs : List Command) → AllByRecursion (CommandIsInside 4096) cs → AllByRecursion command.fits cs
  unfolding command word32
  commands_form [] h = tt
  commands_form (c ∷ cs) h = let a = h.0.1 in ((h.0.0, omega (arith, a)), commands_form cs h.1)

  pub commands_fit : suc (length m.procedures) ≤ 4096 → AllByRecursion ProcedureIsSpelled m.procedures → (rising command by_command).fits (commands types m)
  unfolding list_of
  commands_fit l h =
      let a = order_few (λ (a b : Command). by_name a.name b.name) (commands_among types m m.procedures 1) in
      let b = commands_many m.procedures 1 in
      ((omega (arith, a, b, l), commands_form (commands types m) (all_from (CommandIsInside (suc (length m.procedures))) (CommandIsInside 4096) (λ c k. let e = k.1 in (k.0, omega (arith, e, l))) (commands types m) (commands_all h))), order_strict commands_total (commands_among types m m.procedures 1))

  pub commands_procedures : AllByRecursion ProcedureIsSpelled m.procedures → AllByRecursion (λ c. c.procedure < suc (length m.procedures)) (commands types m)
  commands_procedures h = all_from (CommandIsInside (suc (length m.procedures))) (λ c. c.procedure < suc (length m.procedures)) (λ c k. k.1) (commands types m) (commands_all h)

  variables_total : IsTotalOrder by_variable
  variables_total = on_total (λ v. v.name) nat_list_cmp_total

  module _ (place_few : (x : List ℕ) → variable_place (own types m) x < 2 ^ 31) where
    seen_fit : (vs : List TypedVariable) → AllByRecursion VariableIsSpelled vs → AllByRecursion variable.fits (seen_variables types m vs)
    unfolding variable word32
    seen_fit [] h = tt
    seen_fit (v ∷ vs) h = go (is_seen v.mark) (seen_fit vs h.1)
      where
        go : (b : Bool) → AllByRecursion variable.fits (seen_variables types m vs) → AllByRecursion variable.fits (if b then record { name = v.name; place = variable_place (own types m) v.name } ∷ seen_variables types m vs else seen_variables types m vs)
        go true r = let a = place_few v.name in ((name_fits v.name h.0.0, omega (arith, a)), r)
        go false r = r

    pub variables_fit : AllByRecursion VariableIsSpelled m.variables → length (variables types m) < 2 ^ 32 → (rising variable by_variable).fits (variables types m)
    unfolding list_of
    variables_fit h l = ((l, all_in_order (λ a b. by_name a.name b.name) variable.fits (seen_variables types m m.variables) (seen_fit m.variables h)), order_strict variables_total (seen_variables types m m.variables))
