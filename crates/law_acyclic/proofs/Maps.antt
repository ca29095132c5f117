-- Maps of types in a module that are closed: each type that is named stands. What such a map has of a type, and what it says of chains.
use Rattle.std.proofs.Common.{◌≡◌, ⊎_elim, refl, sym, ap, subst, ◌∙◌, ℕ, zero, suc, Bool, true, false, List, [], ◌∷◌, ◌++◌, map as each, Option, Some, None, codes}
use Rattle.std.specs.Prelude.{bytes_eq, ◌&&◌, MatchOption, IsTrue}
use Rattle.std.specs.List.{AllByRecursion, flat_map, list_all}
use Rattle.ob_tree.specs.declared.names.QName.{QName}
use Rattle.ob_tree.specs.declared.ident.Mark.TheVariants as mark
use Rattle.ob_types.specs.declared.types.Basic.{Basic}
use Rattle.ob_types.specs.declared.types.Basic.TheVariants as basic
use Rattle.ob_types.specs.declared.types.Mode.{Mode}
use Rattle.ob_types.specs.declared.types.TypeRef.{TypeRef}
use Rattle.ob_types.specs.declared.types.TypeRef.TheVariants as ref
use Rattle.ob_types.specs.declared.types.Signature.{Signature}
use Rattle.ob_types.specs.declared.desc.Desc.{Desc}
use Rattle.ob_types.specs.declared.desc.Desc.TheVariants as desc
use Rattle.ob_types.specs.declared.desc.Field.{Field}
use Rattle.ob_types.specs.declared.desc.Method.{Method}
use Rattle.ob_types.specs.declared.typed.TypedType.{TypedType}
use Rattle.ob_types.specs.Maps.{listed, signature_types, is_type, stands_on, named_by, IsHeld, IsWithin}
use Rattle.ob_types.proofs.Targets.{more}
use Rattle.ob_rules.specs.Shapes.{is_held, same_name}
use Rattle.ob_rules.specs.Names.{Around, map_of, type_desc, is_out, out_string}
use Rattle.ob_rules.specs.Depth.{chain_of, is_within}
use Rattle.law_simulation_relation.proofs.Names.{bytes_sym, bytes_true}
use Rattle.law_typing_forms.specs.Said.{IsOneOf}
use Rattle.law_typing_forms.specs.Steady.{bare}
use Rattle.law_typing.specs.Makes.{IfThere}
use Rattle.law_body_context.specs.Knows.{IsDescribed}
use Rattle.law_body_context.proofs.Lists.{one_all, all_of}
use Rattle.law_body_context.proofs.Standing.{own_stands}
use Rattle.law_acyclic.specs.Laws.{IsApart}
use Rattle.law_acyclic.specs.Steady.{IsClosed}
use Rattle.law_acyclic.proofs.Firm.{Firm, SignatureFirm, AnyValue, S}
use Rattle.law_acyclic.proofs.Stand.{IsOwn, IsOther, at, described_at, held_at, other_at, no_own, no_out, shown_names}
use Rattle.law_lists.proofs.Lists.{all_both, and_parts, some_is}

-- ---- what a description names

signature_names : (S P : TypeRef → Type 0) (s : Signature) → SignatureFirm S P s → AllByRecursion S (signature_types s)
signature_names S P s h = all_both S (each (λ p. p.1) s.params) (listed s.result) (params s.params h.0) (result s.result h.1)
  where
    params : (ps : List (Mode × TypeRef)) → AllByRecursion (λ (p : Mode × TypeRef). S p.1) ps → AllByRecursion S (each (λ p. p.1) ps)
    params [] h = tt
    params (p ∷ ps) h = (h.0, params ps h.1)

    result : (o : Option TypeRef) → IfThere (λ t. S t × P t) o → AllByRecursion S (listed o)
    result None h = tt
    result (Some t) h = (h.0, tt)

pub firm_names : (S C R P B : TypeRef → Type 0) → ((t : TypeRef) → B t → S t) → (d : Desc) → Firm S C R P B d → AllByRecursion S (named_by d)
firm_names S C R P B f (desc.Alias m t) h = (h.0, tt)
firm_names S C R P B f (desc.Array m n t) h = (h.1.0, tt)
firm_names S C R P B f (desc.OpenArray m t) h = (h.0, tt)
firm_names S C R P B f (desc.Pointer m t) h = (f t h, tt)
firm_names S C R P B f (desc.ProcType m s) h = signature_names S P s h
firm_names S C R P B f (desc.Record r) h =
    all_both S (listed r.base ++ each (λ f. f.of) r.fields) (flat_map (λ m. signature_types m.signature) r.methods) (all_both S (listed r.base) (each (λ f. f.of) r.fields) (base r.base h.0) (fields r.fields h.1.0)) (methods r.methods h.1.1)
  where
    base : (o : Option TypeRef) → IfThere (λ t. S t × R t) o → AllByRecursion S (listed o)
    base None h = tt
    base (Some t) h = (h.0, tt)

    fields : (fs : List Field) → AllByRecursion (λ (f : Field). S f.of × C f.of) fs → AllByRecursion S (each (λ f. f.of) fs)
    fields [] h = tt
    fields (f ∷ fs) h = (h.0.0, fields fs h.1)

    methods : (ms : List Method) → AllByRecursion (λ (m : Method). SignatureFirm S P m.signature) ms → AllByRecursion S (flat_map (λ m. signature_types m.signature) ms)
    methods [] h = tt
    methods (m ∷ ms) h = all_both S (signature_types m.signature) (flat_map (λ m. signature_types m.signature) ms) (signature_names S P m.signature h.0) (methods ms h.1)
firm_names S C R P B f (desc.Const v) h = absurd h
firm_names S C R P B f (desc.Var m t) h = absurd h
firm_names S C R P B f (desc.Proc s) h = absurd h

front_of : (S : TypeRef → Type 0) (xs ys : List TypeRef) → AllByRecursion S (xs ++ ys) → AllByRecursion S xs
front_of S [] ys h = tt
front_of S (x ∷ xs) ys h = (h.0, front_of S xs ys h.1)

pub stood_on : (S : TypeRef → Type 0) (d : Desc) → AllByRecursion S (named_by d) → AllByRecursion S (stands_on d)
stood_on S (desc.Alias m t) h = h
stood_on S (desc.Array m n t) h = h
stood_on S (desc.OpenArray m t) h = h
stood_on S (desc.Pointer m t) h = tt
stood_on S (desc.ProcType m s) h = h
stood_on S (desc.Record r) h = front_of S (listed r.base ++ each (λ f. f.of) r.fields) (flat_map (λ m. signature_types m.signature) r.methods) h
stood_on S (desc.Const v) h = tt
stood_on S (desc.Var m t) h = tt
stood_on S (desc.Proc s) h = tt

-- without members it stands on the same, or on fewer
pub stands_bare : (S : TypeRef → Type 0) (d : Desc) → AllByRecursion S (stands_on d) → AllByRecursion S (stands_on (bare d))
stands_bare S (desc.Record r) h = base r.base h
  where
    base : (o : Option TypeRef) → AllByRecursion S (listed o ++ each (λ f. f.of) r.fields) → AllByRecursion S (listed o ++ [])
    base None h = tt
    base (Some t) h = (h.0, tt)
stands_bare S (desc.Const v) h = h
stands_bare S (desc.Var m t) h = h
stands_bare S (desc.Proc s) h = h
stands_bare S (desc.Alias m t) h = h
stands_bare S (desc.Array m n t) h = h
stands_bare S (desc.OpenArray m t) h = h
stands_bare S (desc.Pointer m t) h = h
stands_bare S (desc.ProcType m s) h = h

-- ---- a closed map

module _ (shown : QName → Option Desc) (unit : List ℕ) (kept : IsClosed shown) (apart : IsApart shown unit) (out : is_out unit ≡ false) (w : Around) (unit_is : w.unit ≡ unit) (shown_is : w.shown ≡ shown) (described : AllByRecursion (IsDescribed AnyValue) w.own) (closed : AllByRecursion (λ (s : TypedType). AllByRecursion (S unit shown w.own) (named_by s.desc)) w.own) where
  abbrev T : TypeRef → Type 0
  T t = S unit shown w.own t

  -- what it has of a type names types that stand
  pub closed_at : (q : QName) → same_name q out_string ≡ false → (d : Desc) → map_of w q ≡ Some d → AllByRecursion T (named_by d)
  closed_at q o d e = ⊎_elim
      (λ (k : IsOwn unit shown w unit_is shown_is q d). subst (λ d. AllByRecursion T (named_by d)) k.desc (one_all (λ (s : TypedType). AllByRecursion T (named_by s.desc)) w.own k.s closed k.there))
      (λ (k : IsOther unit shown w unit_is shown_is q d). shown_names shown unit kept apart w.own q d k.is)
      (at unit shown w unit_is shown_is q o d e)

  pub type_held : (t : TypeRef) → T t → IsHeld (map_of w) t
  type_held (ref.Basic b) s = tt
  type_held (ref.Named q) s =
      let r = described_at unit shown w unit_is shown_is described q s in
      subst (λ o. MatchOption o ⊥ (λ d. IsTrue (is_type d))) (sym r.is) r.type

  all_held : (ts : List TypeRef) → AllByRecursion T ts → list_all (is_held (map_of w)) ts ≡ true
  all_held [] h = refl
  all_held (t ∷ ts) h = ap (λ b. b && list_all (is_held (map_of w)) ts) (held_at unit shown w unit_is shown_is described t h.0) ∙ all_held ts h.1

  -- each of its types names only what is held
  pub names_are_held : AllByRecursion (λ (s : TypedType). list_all (is_held (map_of w)) (named_by s.desc) ≡ true) w.own
  names_are_held = all_of (λ (s : TypedType). AllByRecursion T (named_by s.desc)) (λ (s : TypedType). list_all (is_held (map_of w)) (named_by s.desc) ≡ true) w.own (λ s h. all_held (named_by s.desc) h) closed

  -- what is built in
  pub out_is : (q : QName) → same_name q out_string ≡ true → map_of w q ≡ Some (desc.OpenArray mark.Hidden (ref.Basic basic.Char))
  out_is q o =
      let p = and_parts (bytes_eq q.«module» out_string.«module») (bytes_eq q.object out_string.object) o in
      let m : q.«module» ≡ codes "Out" = bytes_true q.«module» (codes "Out") p.0 in
      let b : bytes_eq q.«module» w.unit ≡ false = ap (λ n. bytes_eq q.«module» n) unit_is ∙ ap (λ n. bytes_eq n unit) m ∙ bytes_sym (codes "Out") unit ∙ out in
      ap (λ b. type_desc b (same_name q out_string) w q) b ∙ ap (λ c. type_desc false c w q) o

  pub held : (q : QName) (d : Desc) → map_of w q ≡ Some d → AllByRecursion (λ t. IsHeld (map_of w) t) (named_by d)
  held q d e = by (same_name q out_string) refl
    where
      by : (b : Bool) → same_name q out_string ≡ b → AllByRecursion (λ t. IsHeld (map_of w) t) (named_by d)
      by true o = let f : desc.OpenArray mark.Hidden (ref.Basic basic.Char) ≡ d = some_is (desc.OpenArray mark.Hidden (ref.Basic basic.Char)) d (sym (out_is q o) ∙ e) in subst (λ d. AllByRecursion (λ t. IsHeld (map_of w) t) (named_by d)) f (tt, tt)
      by false o = all_of T (λ t. IsHeld (map_of w) t) (named_by d) type_held (closed_at q o d e)

  -- ---- chains

  pub within_of : (n : ℕ) (t : TypeRef) → T t → is_within (map_of w) n t ≡ true → IsWithin (map_of w) n t
  unfolding IsWithin
  within_of n (ref.Basic b) s e = tt
  within_of zero (ref.Named q) s e = absurd cc
  within_of (suc n) (ref.Named q) s e =
      let r = described_at unit shown w unit_is shown_is described q s in
      let f : list_all (λ t. is_within (map_of w) n t) (stands_on r.d) ≡ true = ap (chain_of (λ t. is_within (map_of w) n t)) (sym r.is) ∙ e in
      subst (λ o. MatchOption o ⊥ (λ d. IsTrue (is_type d) × AllByRecursion (λ t. IsWithin (map_of w) n t) (stands_on d))) (sym r.is) (r.type, all (stands_on r.d) (stood_on T r.d (closed_at q s.0 r.d r.is)) f (λ t i j. within_of n t i j))
    where
      all : (ts : List TypeRef) → AllByRecursion T ts → list_all (λ t. is_within (map_of w) n t) ts ≡ true → ((t : TypeRef) → T t → is_within (map_of w) n t ≡ true → IsWithin (map_of w) n t) → AllByRecursion (λ t. IsWithin (map_of w) n t) ts
      all [] h e f = tt
      all (t ∷ ts) h e f = let p = and_parts (is_within (map_of w) n t) (list_all (λ t. is_within (map_of w) n t) ts) e in (f t h.0 p.0, all ts h.1 p.1 f)

  pub shown_at : (q : QName) → MatchOption (shown q) ⊥ (λ d. IsTrue (is_type d)) → map_of w q ≡ shown q
  shown_at q h = other_at unit shown w unit_is shown_is q (no_own shown unit kept apart q (bytes_eq q.«module» unit) refl (shown q) refl h) (no_out shown unit kept apart q (same_name q out_string) refl (shown q) refl h)

  -- a chain of types that are shown is one there
  pub shown_within : (n : ℕ) (t : TypeRef) → IsWithin shown n t → IsWithin (map_of w) n t
  unfolding IsWithin
  shown_within n (ref.Basic b) h = tt
  shown_within zero (ref.Named q) h = absurd h
  shown_within (suc n) (ref.Named q) h = by (shown q) refl h (λ t i. shown_within n t i)
    where
      by : (o : Option Desc) → shown q ≡ o → MatchOption o ⊥ (λ d. IsTrue (is_type d) × AllByRecursion (λ t. IsWithin shown n t) (stands_on d)) → ((t : TypeRef) → IsWithin shown n t → IsWithin (map_of w) n t) → MatchOption (map_of w q) ⊥ (λ d. IsTrue (is_type d) × AllByRecursion (λ t. IsWithin (map_of w) n t) (stands_on d))
      by None e h f = absurd h
      by (Some d) e h f =
          subst (λ o. MatchOption o ⊥ (λ d. IsTrue (is_type d) × AllByRecursion (λ t. IsWithin (map_of w) n t) (stands_on d))) (sym (shown_at q (subst (λ o. MatchOption o ⊥ (λ d. IsTrue (is_type d))) (sym e) h.0) ∙ e)) (h.0, all_of (λ t. IsWithin shown n t) (λ t. IsWithin (map_of w) n t) (stands_on d) f h.1)

  pub out_within : (n : ℕ) (q : QName) → same_name q out_string ≡ true → IsWithin (map_of w) (suc n) (ref.Named q)
  unfolding IsWithin
  out_within n q o = subst (λ o. MatchOption o ⊥ (λ d. IsTrue (is_type d) × AllByRecursion (λ t. IsWithin (map_of w) n t) (stands_on d))) (sym (out_is q o)) (refl, (tt, tt))

  basic_within : (n : ℕ) (b : Basic) → IsWithin (map_of w) n (ref.Basic b)
  unfolding IsWithin
  basic_within n b = tt

  -- the chains of what is shown have at most 201 types, and those of its own types 200
  module _ (deep : (t : TypeRef) → IsHeld shown t → IsWithin shown 201 t) (short : AllByRecursion (λ (s : TypedType). is_within (map_of w) 200 (ref.Named (record { «module» = w.unit; object = s.name })) ≡ true) w.own) where
    pub chains : (t : TypeRef) → IsHeld (map_of w) t → IsWithin (map_of w) 201 t
    chains (ref.Basic b) h = basic_within 201 b
    chains (ref.Named q) h = by (same_name q out_string) refl (map_of w q) refl h
      where
        own : (s : TypedType) → IsOneOf w.own s → q ≡ record { «module» = unit; object = s.name } → IsWithin (map_of w) 201 (ref.Named q)
        own s i n =
            let m : record { «module» = w.unit; object = s.name } ≡ q = ap (λ (n : List ℕ). let p : QName = record { «module» = n; object = s.name } in p) unit_is ∙ sym n in
            let e : is_within (map_of w) 200 (ref.Named q) ≡ true = subst (λ (q : QName). is_within (map_of w) 200 (ref.Named q) ≡ true) m (one_all (λ (s : TypedType). is_within (map_of w) 200 (ref.Named (record { «module» = w.unit; object = s.name })) ≡ true) w.own s short i) in
            let st : T (ref.Named q) = subst (λ (q : QName). T (ref.Named q)) (sym n) (own_stands unit shown out w.own s.name (s, (i, refl))) in
            more (map_of w) 200 (ref.Named q) (within_of 200 (ref.Named q) st e)

        by : (b : Bool) → same_name q out_string ≡ b → (o : Option Desc) → map_of w q ≡ o → MatchOption o ⊥ (λ d. IsTrue (is_type d)) → IsWithin (map_of w) 201 (ref.Named q)
        by true o x e h = out_within 200 q o
        by false o None e h = absurd h
        by false o (Some d) e h = ⊎_elim
            (λ (k : IsOwn unit shown w unit_is shown_is q d). own k.s k.there k.name)
            (λ (k : IsOther unit shown w unit_is shown_is q d). shown_within 201 (ref.Named q) (deep (ref.Named q) (subst (λ o. MatchOption o ⊥ (λ d. IsTrue (is_type d))) (sym k.is) h)))
            (at unit shown w unit_is shown_is q o d e)
