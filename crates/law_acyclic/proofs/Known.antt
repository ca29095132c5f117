-- The types of a checked module: they are sound by what stands in it, and what is known anywhere in it is described as in the module, but for
-- bound procedures.
use Rattle.std.proofs.Common.{◌≡◌, ⊎_elim, inl, inr, refl, sym, ap, subst, ◌∙◌, ℕ, Bool, true, false, List, [], map, Option, Some, None}
use Rattle.std.specs.Prelude.{bytes_eq, MatchOption, IsTrue}
use Rattle.std.specs.List.{AllByRecursion}
use Rattle.ob_tree.specs.declared.names.QName.{QName}
use Rattle.ob_tree.specs.declared.decl.Module.{Module as Tree}
use Rattle.ob_types.specs.declared.types.TypeRef.{TypeRef}
use Rattle.ob_types.specs.declared.types.TypeRef.TheVariants as ref
use Rattle.ob_types.specs.declared.desc.Desc.{Desc}
use Rattle.ob_types.specs.declared.typed.TypedType.{TypedType}
use Rattle.ob_types.specs.declared.typed.TypedModule.{TypedModule}
use Rattle.ob_types.specs.Maps.{is_type, named_by}
use Rattle.ob_rules.specs.Shapes.{Map, is_record, is_structured}
use Rattle.ob_rules.specs.Names.{Around, map_of, is_out}
use Rattle.ob_rules.specs.Declarations.{around_module, declaration, described, all_described, module_part, typed_module, target_of, checked}
use Rattle.law_simulation_relation.proofs.Names.{bytes_same}
use Rattle.law_typing_forms.specs.Said.{IsOneOf}
use Rattle.law_names_distinct.specs.Distinct.{AreDistinct}
use Rattle.law_names_distinct.proofs.Blocks.{unbroken_is, not_out}
use Rattle.law_body_context.specs.Knows.{HasName, Grows, StandsBy, IsDescribed}
use Rattle.law_body_context.proofs.Lists.{one_all, all_one}
use Rattle.law_body_context.proofs.Standing.{stands_grown}
use Rattle.law_acyclic.specs.Laws.{IsApart}
use Rattle.law_acyclic.specs.Steady.{IsClosed}
use Rattle.law_acyclic.proofs.Names.{for_name, name_same, there, from_type, one_of}
use Rattle.law_acyclic.proofs.Firm.{Firm, firm_more, firm_described, AnyValue, S, Seen, Closed, WholeBase}
use Rattle.law_acyclic.proofs.Stand.{IsOwn, IsOther, name_found, found_name, at, own_at, other_at}
use Rattle.law_acyclic.proofs.Blocks.{AreOne}
use Rattle.law_acyclic.proofs.Modules.{bound_from, Made, made_named, Whole, types_whole, bound_whole}
use Rattle.law_acyclic.proofs.Maps.{firm_names}
use Rattle.law_acyclic.proofs.Sorts.{strip, stripped, more_stripped}

-- A module that keeps the rules, against interfaces that are closed; it imports others alone, and its types differ in name.
pub record IsMade (shown : QName → Option Desc) (tree : Tree) : Type 0 where
  pub kept : IsClosed shown
  pub apart : IsApart shown tree.name.name
  pub out : is_out tree.name.name ≡ false
  pub imports : AllByRecursion (λ i. bytes_eq (target_of i).name tree.name.name ≡ false) tree.imports
  pub unbroken : (module_part shown tree).notes.broken ≡ []
  pub distinct : AreDistinct (λ (t : TypedType). t.name) (all_described (module_part shown tree).contents.bound (module_part shown tree).contents.types)

-- so it is of one that is checked
pub made_of : (shown : QName → Option Desc) (tree : Tree) (m : TypedModule) → checked shown tree ≡ Some m → IsClosed shown → IsApart shown tree.name.name → AllByRecursion (λ i. bytes_eq (target_of i).name tree.name.name ≡ false) tree.imports → AreDistinct (λ (t : TypedType). t.name) m.types
    → IsMade shown tree × (typed_module shown tree.name tree.imports (map declaration tree.decls) (module_part shown tree) ≡ m)
made_of shown tree m is kept apart imports names =
    let p = module_part shown tree in
    let k = unbroken_is p.notes.broken (typed_module shown tree.name tree.imports (map declaration tree.decls) p) m is in (
      record {
        kept = kept;
        apart = apart;
        out = subst (λ (x : TypedModule). is_out x.name ≡ false) (sym k.1) (not_out shown tree m is);
        imports = imports;
        unbroken = k.0;
        distinct = subst (λ (x : TypedModule). AreDistinct (λ (t : TypedType). t.name) x.types) (sym k.1) names;
      },
      k.1,
    )

module _ (shown : QName → Option Desc) (tree : Tree) (made : IsMade shown tree) where
  abbrev unit : List ℕ
  unit = tree.name.name

  abbrev pub F : List TypedType
  F = (module_part shown tree).contents.types

  abbrev X : List TypedType
  X = (module_part shown tree).contents.bound

  abbrev pub Y : List TypedType
  Y = all_described X F

  abbrev pub w0 : Around
  w0 = record (around_module shown unit (map declaration tree.decls)) { own = Y }

  abbrev pub M : Map
  M = map_of w0

  pub one : AreOne F
  one = one_of X F made.distinct

  abbrev pub In : TypedType → Type 0
  In s = Made shown tree made.kept made.apart made.out made.imports made.unbroken one s

  abbrev Wh : TypedType → Type 0
  Wh s = Whole shown tree made.kept made.apart made.out made.imports made.unbroken one s

  abbrev pub T : TypeRef → Type 0
  T t = S unit shown Y t

  abbrev pub Sound : Desc → Type 0
  Sound d = Firm T (Closed unit shown In) (Seen unit shown In is_record true) (Seen unit shown In is_structured false) (λ t. T t × Seen unit shown In is_structured true t) d

  grows : Grows F Y
  grows x h = let s = described (for_name X h.0) h.0 in (s, (there X F h.0 h.1.0, name_same X (for_name X h.0) h.0 ∙ h.1.1))

  base_sound : (x : List ℕ) (t : TypeRef) → WholeBase unit shown In [] F x t → T t × Seen unit shown In is_structured true t
  base_sound x t h = (stands_grown unit shown F Y grows t h.0, ⊎_elim (λ k. k) (λ k. absurd k.there) h.1)

  sound_of : (s : TypedType) → Wh s → Sound s.desc
  sound_of s h =
      firm_more (S unit shown F) (Closed unit shown In) (Seen unit shown In is_record true) (Seen unit shown In is_structured false) (WholeBase unit shown In [] F s.name) T (Closed unit shown In) (Seen unit shown In is_record true) (Seen unit shown In is_structured false) (λ t. T t × Seen unit shown In is_structured true t)
      (λ t k. stands_grown unit shown F Y grows t k) (λ t a b. b) (λ t a b. b) (λ t a b. b) (λ t b. base_sound s.name t b) s.desc h

  described_sound : (t : TypedType) → IsOneOf F t → (o : Option TypedType) → for_name X t ≡ o → Sound (described o t).desc
  described_sound t i None f = sound_of t (one_all Wh F t (types_whole shown tree made.kept made.apart made.out made.imports made.unbroken one) i)
  described_sound t i (Some b) f = sound_of b (one_all Wh X b (bound_whole shown tree made.kept made.apart made.out made.imports made.unbroken one) (found_name X t.name b f).0)

  pub sound_at : (y : TypedType) → IsOneOf Y y → Sound y.desc
  sound_at y i = let r = from_type X F y i in subst (λ (y : TypedType). Sound y.desc) r.1.1 (described_sound r.0 r.1.0 (for_name X r.0) refl)

  pub closed : AllByRecursion (λ (s : TypedType). AllByRecursion T (named_by s.desc)) Y
  closed = all_one (λ (s : TypedType). AllByRecursion T (named_by s.desc)) Y (λ s i. firm_names T (Closed unit shown In) (Seen unit shown In is_record true) (Seen unit shown In is_structured false) (λ t. T t × Seen unit shown In is_structured true t) (λ t k. k.0) s.desc (sound_at s i))

  pub are_described : AllByRecursion (IsDescribed AnyValue) Y
  are_described = all_one (IsDescribed AnyValue) Y (λ s i. firm_described T (Closed unit shown In) (Seen unit shown In is_record true) (Seen unit shown In is_structured false) (λ t. T t × Seen unit shown In is_structured true t) s (sound_at s i))

  -- ---- what is known in the module is described so, but for bound procedures

  alike : (s t : TypedType) → In s → IsOneOf F t → s.name ≡ t.name → strip s.desc ≡ strip t.desc
  alike s t (inl i) j n = ap strip (one s t i j n)
  alike s t (inr i) j n = let r = bound_from shown tree made.kept made.apart made.out made.imports made.unbroken one s i in more_stripped r.0.desc s.desc r.1.1.1 ∙ ap strip (one r.0 t r.1.0 j (r.1.1.0 ∙ n))

  described_alike : (t : TypedType) → IsOneOf F t → (o : Option TypedType) → for_name X t ≡ o → strip (described o t).desc ≡ strip t.desc
  described_alike t i None f = refl
  described_alike t i (Some b) f = let r = found_name X t.name b f in alike b t (inr r.0) i r.1

  pub made_like : (s : TypedType) → In s → stripped (M (record { «module» = unit; object = s.name })) ≡ Some (strip s.desc)
  made_like s i =
      let q : QName = record { «module» = unit; object = s.name } in
      let f = name_found Y s.name (grows s.name (made_named shown tree made.kept made.apart made.out made.imports made.unbroken one s i)) in
      let r = from_type X F f.s f.there in
      let n : s.name ≡ r.0.name = sym f.name ∙ sym (ap (λ (y : TypedType). y.name) r.1.1) ∙ name_same X (for_name X r.0) r.0 in
      let d : strip f.s.desc ≡ strip s.desc = sym (ap (λ (y : TypedType). strip y.desc) r.1.1) ∙ described_alike r.0 r.1.0 (for_name X r.0) refl ∙ sym (alike s r.0 i r.1.0 n) in
      ap stripped (own_at unit shown w0 refl refl q (bytes_same unit) f.s f.is) ∙ ap (λ d. Some d) d

  module _ (w : Around) (unit_is : w.unit ≡ unit) (shown_is : w.shown ≡ shown) (within : (s : TypedType) → IsOneOf w.own s → In s) where
    pub like : (q : QName) → S unit shown w.own (ref.Named q) → (o : Option Desc) → map_of w q ≡ o → MatchOption o ⊥ (λ d. Unit {0}) → stripped (map_of w q) ≡ stripped (M q)
    like q s None f h = absurd h
    like q s (Some d) f h = ⊎_elim
        (λ (k : IsOwn unit shown w unit_is shown_is q d). ap stripped f ∙ ap (λ d. Some (strip d)) (sym k.desc) ∙ sym (made_like k.s (within k.s k.there)) ∙ ap (λ q. stripped (M q)) (sym k.name))
        (λ (k : IsOther unit shown w unit_is shown_is q d). ap stripped (f ∙ sym k.is ∙ sym (other_at unit shown w0 refl refl q k.other s.0)))
        (at unit shown w unit_is shown_is q s.0 d f)

    pub within_grows : Grows w.own Y
    within_grows x h = grows x (subst (HasName F) h.1.1 (made_named shown tree made.kept made.apart made.out made.imports made.unbroken one h.0 (within h.0 h.1.0)))

    -- what stands there has one
    pub stands_some : (q : QName) → S unit shown w.own (ref.Named q) → MatchOption (map_of w q) ⊥ (λ d. Unit {0})
    stands_some q s = by (bytes_eq q.«module» unit) refl s.1
      where
        some : (o : Option Desc) (d : Desc) → o ≡ Some d → MatchOption o ⊥ (λ d. Unit {0})
        some o d e = subst (λ o. MatchOption o ⊥ (λ d. Unit {0})) (sym e) tt

        other : bytes_eq q.«module» unit ≡ false → (o : Option Desc) → shown q ≡ o → MatchOption o ⊥ (λ d. IsTrue (is_type d)) → MatchOption (map_of w q) ⊥ (λ d. Unit {0})
        other b None f h = absurd h
        other b (Some d) f h = some (map_of w q) d (other_at unit shown w unit_is shown_is q b s.0 ∙ f)

        by : (b : Bool) → bytes_eq q.«module» unit ≡ b → StandsBy b shown w.own q → MatchOption (map_of w q) ⊥ (λ d. Unit {0})
        by true b h = let r = name_found w.own q.object h in some (map_of w q) r.s.desc (own_at unit shown w unit_is shown_is q b r.s r.is)
        by false b h = other b (shown q) refl h
