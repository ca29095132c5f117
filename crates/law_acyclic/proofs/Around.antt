-- The map around what is known somewhere in a checked module, where each type that it names is known too: it is steady.
use Rattle.std.proofs.Common.{◌≡◌, ⊎_elim, refl, sym, subst, ◌∙◌, ℕ, Bool, true, false, List, [], Option, Some, None, suc}
use Rattle.std.specs.Prelude.{MatchOption, IsTrue}
use Rattle.std.specs.List.{AllByRecursion}
use Rattle.ob_tree.specs.declared.names.QName.{QName}
use Rattle.ob_tree.specs.declared.ident.Mark.TheVariants as mark
use Rattle.ob_tree.specs.declared.decl.Module.{Module as Tree}
use Rattle.ob_types.specs.declared.types.Basic.{Basic}
use Rattle.ob_types.specs.declared.types.Basic.TheVariants as basic
use Rattle.ob_types.specs.declared.types.TypeRef.{TypeRef}
use Rattle.ob_types.specs.declared.types.TypeRef.TheVariants as ref
use Rattle.ob_types.specs.declared.desc.Desc.{Desc}
use Rattle.ob_types.specs.declared.desc.Desc.TheVariants as desc
use Rattle.ob_types.specs.declared.typed.TypedType.{TypedType}
use Rattle.ob_types.specs.Maps.{is_type, stands_on, named_by, IsHeld, IsWithin}
use Rattle.ob_types.specs.Relations.{itself, Is, is_open as is_open_desc, Keeps}
use Rattle.ob_types.proofs.Targets.{unique}
use Rattle.ob_rules.specs.Shapes.{Map, is_record, is_structured, same_name}
use Rattle.ob_rules.specs.Names.{Around, map_of, out_string}
use Rattle.law_typing_forms.specs.Said.{IsOneOf}
use Rattle.law_body_context.specs.Knows.{IsDescribed}
use Rattle.law_body_context.proofs.Lists.{one_all, all_of}
use Rattle.law_body_context.proofs.Standing.{stands_grown, own_stands}
use Rattle.law_typing_forms.specs.Steady.{IsSteady, without_members}
use Rattle.law_typing_forms.proofs.Steady.{bare_within}
use Rattle.law_acyclic.proofs.Firm.{firm_more, firm_described, AnyValue, S, Seen, Closed, WholeBase, WholeAt}
use Rattle.law_acyclic.proofs.Stand.{IsOwn, IsOther, at, shown_stands}
use Rattle.law_acyclic.proofs.Maps.{firm_names, stood_on, closed_at, type_held, held, out_is, out_within}
use Rattle.law_acyclic.proofs.Same.{within_same, lines_same}
use Rattle.law_acyclic.proofs.Sorts.{stripped}
use Rattle.law_acyclic.proofs.Known as known
use Rattle.law_acyclic.proofs.Known.{IsMade, Sound, closed, are_described, like, within_grows, stands_some}
use Rattle.law_acyclic.proofs.Keeping.{keeps_same}
use Rattle.law_acyclic.proofs.Kept.{sound_keeps, shown_keeps}

module _ (shown : QName → Option Desc) (tree : Tree) (made : IsMade shown tree) where
  abbrev unit : List ℕ
  unit = tree.name.name

  abbrev Y : List TypedType
  Y = known.Y shown tree made

  abbrev w0 : Around
  w0 = known.w0 shown tree made

  abbrev M : Map
  M = map_of w0

  abbrev In : TypedType → Type 0
  In s = known.In shown tree made s

  abbrev T : TypeRef → Type 0
  T t = S unit shown Y t

  module _ (lines : (t : TypeRef) → IsHeld M t → IsWithin (without_members M) 201 t) (w : Around) (unit_is : w.unit ≡ unit) (shown_is : w.shown ≡ shown) (whole : AllByRecursion (WholeAt unit shown In [] w.own) w.own) (within : (s : TypedType) → IsOneOf w.own s → In s) where
    abbrev N : Map
    N = map_of w

    abbrev P : TypeRef → Type 0
    P t = S unit shown w.own t

    closed_w : AllByRecursion (λ (s : TypedType). AllByRecursion P (named_by s.desc)) w.own
    closed_w = all_of (WholeAt unit shown In [] w.own) (λ (s : TypedType). AllByRecursion P (named_by s.desc)) w.own (λ s h. firm_names P (Closed unit shown In) (Seen unit shown In is_record true) (Seen unit shown In is_structured false) (WholeBase unit shown In [] w.own s.name) (λ t k. k.0) s.desc h) whole

    described_w : AllByRecursion (IsDescribed AnyValue) w.own
    described_w = all_of (WholeAt unit shown In [] w.own) (IsDescribed AnyValue) w.own (λ s h. firm_described P (Closed unit shown In) (Seen unit shown In is_record true) (Seen unit shown In is_structured false) (WholeBase unit shown In [] w.own s.name) s h) whole

    same_w : (q : QName) → P (ref.Named q) → stripped (N q) ≡ stripped (M q)
    same_w q s = like shown tree made w unit_is shown_is within q s (N q) refl (stands_some shown tree made w unit_is shown_is within q s)

    to_all : (t : TypeRef) → P t → T t
    to_all t s = stands_grown unit shown w.own Y (within_grows shown tree made w unit_is shown_is within) t s

    closed_at_w : (q : QName) (d : Desc) → P (ref.Named q) → N q ≡ Some d → AllByRecursion P (named_by d)
    closed_at_w q d s f = closed_at shown unit made.kept made.apart made.out w unit_is shown_is described_w closed_w q s.0 d f

    sound_w : (s : TypedType) → WholeAt unit shown In [] w.own s → Sound shown tree made s.desc
    sound_w s h =
        firm_more P (Closed unit shown In) (Seen unit shown In is_record true) (Seen unit shown In is_structured false) (WholeBase unit shown In [] w.own s.name) T (Closed unit shown In) (Seen unit shown In is_record true) (Seen unit shown In is_structured false) (λ t. T t × Seen unit shown In is_structured true t)
        to_all (λ t a b. b) (λ t a b. b) (λ t a b. b) (λ t b. (to_all t b.0, ⊎_elim (λ k. k) (λ k. absurd k.there) b.1)) s.desc h

    basic_w : (b : Basic) → Is N is_open_desc (ref.Basic b) → ⊥
    basic_w b h = let bad : ref.Basic b ≡ ref.Named h.0 = unique N (itself tt) h.1.0 in absurd cc

    pub keeps_around : (q : QName) (d : Desc) → N q ≡ Some d → Keeps N d
    keeps_around q d f = by (same_name q out_string) refl
      where
        by : (b : Bool) → same_name q out_string ≡ b → Keeps N d
        by true o = let g : Some (desc.OpenArray mark.Hidden (ref.Basic basic.Char)) ≡ Some d = sym (out_is shown unit made.kept made.apart made.out w unit_is shown_is described_w closed_w q o) ∙ f in let i : desc.OpenArray mark.Hidden (ref.Basic basic.Char) ≡ d = cc in subst (Keeps N) i (basic_w basic.Char)
        by false o =
            let names = closed_at shown unit made.kept made.apart made.out w unit_is shown_is described_w closed_w q o d f in
            keeps_same P M N closed_at_w same_w d names
            (⊎_elim
            (λ (k : IsOwn unit shown w unit_is shown_is q d). subst (Keeps M) k.desc (sound_keeps shown tree made lines k.s.desc (sound_w k.s (one_all (WholeAt unit shown In [] w.own) w.own k.s whole k.there))))
            (λ (k : IsOther unit shown w unit_is shown_is q d). shown_keeps shown tree made lines d (made.kept.held q d k.is) (made.kept.keeps q d k.is))
            (at unit shown w unit_is shown_is q o d f))

    -- ---- chains

    -- what is held there stands, but for the type of Out
    held_stands : (q : QName) → same_name q out_string ≡ false → (o : Option Desc) → N q ≡ o → MatchOption o ⊥ (λ d. IsTrue (is_type d)) → P (ref.Named q)
    held_stands q o None f h = absurd h
    held_stands q o (Some d) f h = ⊎_elim
        (λ (k : IsOwn unit shown w unit_is shown_is q d). subst (λ (q : QName). P (ref.Named q)) (sym k.name) (own_stands unit shown made.out w.own k.s.name (k.s, (k.there, refl))))
        (λ (k : IsOther unit shown w unit_is shown_is q d). shown_stands shown unit made.kept made.apart w.own (ref.Named q) (subst (λ o. MatchOption o ⊥ (λ d. IsTrue (is_type d))) (sym k.is) h))
        (at unit shown w unit_is shown_is q o d f)

    stood_w : (q : QName) (d : Desc) → P (ref.Named q) → N q ≡ Some d → AllByRecursion P (stands_on d)
    stood_w q d s f = stood_on P d (closed_at_w q d s f)

    held_all : (t : TypeRef) → P t → IsHeld M t
    held_all t s = type_held shown unit made.kept made.apart made.out w0 refl refl (are_described shown tree made) (closed shown tree made) t (to_all t s)

    pub chain_around : (n : ℕ) → ((t : TypeRef) → IsHeld M t → IsWithin M (suc n) t) → (t : TypeRef) → IsHeld N t → IsWithin N (suc n) t
    chain_around n f (ref.Basic b) h = within_same P M N stood_w same_w (suc n) (ref.Basic b) tt (f (ref.Basic b) tt)
    chain_around n f (ref.Named q) h = by (same_name q out_string) refl
      where
        by : (b : Bool) → same_name q out_string ≡ b → IsWithin N (suc n) (ref.Named q)
        by true o = out_within shown unit made.kept made.apart made.out w unit_is shown_is described_w closed_w n q o
        by false o = let s = held_stands q o (N q) refl h in within_same P M N stood_w same_w (suc n) (ref.Named q) s (f (ref.Named q) (held_all (ref.Named q) s))

    pub ends_around : ((t : TypeRef) → IsHeld M t → (n : ℕ) × IsWithin M n t) → (t : TypeRef) → IsHeld N t → (n : ℕ) × IsWithin N n t
    ends_around f (ref.Basic b) h = let r = f (ref.Basic b) tt in (r.0, within_same P M N stood_w same_w r.0 (ref.Basic b) tt r.1)
    ends_around f (ref.Named q) h = by (same_name q out_string) refl
      where
        by : (b : Bool) → same_name q out_string ≡ b → (n : ℕ) × IsWithin N n (ref.Named q)
        by true o = (1, out_within shown unit made.kept made.apart made.out w unit_is shown_is described_w closed_w 0 q o)
        by false o = let s = held_stands q o (N q) refl h in let r = f (ref.Named q) (held_all (ref.Named q) s) in (r.0, within_same P M N stood_w same_w r.0 (ref.Named q) s r.1)

    pub lines_around : (t : TypeRef) → IsHeld N t → IsWithin (without_members N) 201 t
    lines_around (ref.Basic b) h = lines_same P M N stood_w same_w 201 (ref.Basic b) tt (lines (ref.Basic b) tt)
    lines_around (ref.Named q) h = by (same_name q out_string) refl
      where
        by : (b : Bool) → same_name q out_string ≡ b → IsWithin (without_members N) 201 (ref.Named q)
        by true o = bare_within N 201 (ref.Named q) (out_within shown unit made.kept made.apart made.out w unit_is shown_is described_w closed_w 200 q o)
        by false o = let s = held_stands q o (N q) refl h in lines_same P M N stood_w same_w 201 (ref.Named q) s (lines (ref.Named q) (held_all (ref.Named q) s))

    pub held_around : (q : QName) (d : Desc) → N q ≡ Some d → AllByRecursion (λ t. IsHeld N t) (named_by d)
    held_around = held shown unit made.kept made.apart made.out w unit_is shown_is described_w closed_w

    -- THE MAP AROUND IT IS STEADY
    pub around_steady : ((t : TypeRef) → IsHeld M t → (n : ℕ) × IsWithin M n t) → IsSteady N
    around_steady ends = record { held = held_around; ends = ends_around ends; lines = lines_around; keeps = keeps_around }
