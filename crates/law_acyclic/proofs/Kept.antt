-- What each description of the types of a checked module keeps, where chains of aliases, elements and bases are short.
use Rattle.std.proofs.Common.{◌≡◌, ⊎_elim, inl, inr, refl, sym, ap, subst, ◌∙◌, ℕ, Bool, true, false, List, Option, Some, None}
use Rattle.std.specs.Prelude.{IfSome}
use Rattle.std.specs.List.{AllByRecursion}
use Rattle.ob_tree.specs.declared.names.QName.{QName}
use Rattle.ob_tree.specs.declared.ident.Mark.TheVariants as mark
use Rattle.ob_tree.specs.declared.decl.Module.{Module as Tree}
use Rattle.ob_types.specs.declared.types.Basic.{Basic}
use Rattle.ob_types.specs.declared.types.Basic.TheVariants as basic
use Rattle.ob_types.specs.declared.types.TypeRef.{TypeRef}
use Rattle.ob_types.specs.declared.types.TypeRef.TheVariants as ref
use Rattle.ob_types.specs.declared.types.Signature.{Signature}
use Rattle.ob_types.specs.declared.desc.Desc.{Desc}
use Rattle.ob_types.specs.declared.desc.Desc.TheVariants as desc
use Rattle.ob_types.specs.declared.desc.Field.{Field}
use Rattle.ob_types.specs.declared.desc.Method.{Method}
use Rattle.ob_types.specs.declared.typed.TypedType.{TypedType}
use Rattle.ob_types.specs.Maps.{named_by, IsHeld, IsWithin}
use Rattle.ob_types.specs.Relations.{itself, Is, is_structure, is_open as is_open_desc, is_record as is_record_desc, IsPlainResult, Keeps}
use Rattle.ob_types.specs.Tests.{target_of as alias_target}
use Rattle.ob_types.proofs.Targets.{unique}
use Rattle.ob_rules.specs.Shapes.{Map, is_open, is_record, is_structured, same_name}
use Rattle.ob_rules.specs.Names.{Around, map_of, out_string}
use Rattle.ob_rules.specs.Declarations.{module_part}
use Rattle.law_typing.specs.Makes.{IfThere}
use Rattle.law_body_context.proofs.Lists.{all_of}
use Rattle.law_body_context.proofs.Standing.{stands_grown}
use Rattle.law_typing_forms.specs.Steady.{without_members}
use Rattle.law_acyclic.proofs.Firm.{SignatureFirm, is_solid, S, Seen, Closed}
use Rattle.law_acyclic.proofs.Stand.{IsOwn, IsOther, at}
use Rattle.law_acyclic.proofs.Blocks.{step_stands}
use Rattle.law_acyclic.proofs.Modules.{made_named}
use Rattle.law_acyclic.proofs.Maps.{type_held, out_is, shown_at}
use Rattle.law_acyclic.proofs.Sorts.{strip, stripped, solid_stripped, open_same, record_same, structured_same, not_open, not_structured, record_is, structure_is, solid_closed}
use Rattle.law_acyclic.proofs.Known as known
use Rattle.law_acyclic.proofs.Known.{IsMade, one, Sound, sound_at, closed, are_described, made_like, like, within_grows, stands_some}
use Rattle.law_acyclic.proofs.Keeping.{keeps_same}

module _ (shown : QName → Option Desc) (tree : Tree) (made : IsMade shown tree) where
  abbrev unit : List ℕ
  unit = tree.name.name

  abbrev F : List TypedType
  F = (module_part shown tree).contents.types

  abbrev Y : List TypedType
  Y = known.Y shown tree made

  abbrev w0 : Around
  w0 = known.w0 shown tree made

  abbrev M : Map
  M = map_of w0

  abbrev In : TypedType → Type 0
  In s = known.In shown tree made s

  abbrev T : TypeRef → Type 0
  T t = S unit shown Y t

  -- where chains of aliases, elements and bases are short
  module _ (lines : (t : TypeRef) → IsHeld M t → IsWithin (without_members M) 201 t) where
    pub stands_within : (t : TypeRef) → T t → IsWithin (without_members M) 201 t
    stands_within t s = lines t (type_held shown unit made.kept made.apart made.out w0 refl refl (are_described shown tree made) (closed shown tree made) t s)

    -- what was seen somewhere is so
    module _ (test : Map → TypeRef → Bool) (b : Bool) (t : TypeRef) (h : Seen unit shown In test b t) where
      steps : (q : QName) → S unit shown h.w.own (ref.Named q) → (u : TypeRef) → alias_target (map_of h.w q) ≡ Some u → S unit shown h.w.own u
      steps q s u f = step_stands shown unit made.kept made.apart made.out In F (λ s i. inl i) (made_named shown tree made.kept made.apart made.out made.imports made.unbroken (one shown tree made)) (one shown tree made) h.w h.unit_is h.shown_is h.aliases q s u f

      same : (q : QName) → S unit shown h.w.own (ref.Named q) → stripped (map_of h.w q) ≡ stripped (M q)
      same q s = like shown tree made h.w h.unit_is h.shown_is h.within q s (map_of h.w q) refl (stands_some shown tree made h.w h.unit_is h.shown_is h.within q s)

      seen_within : IsWithin (without_members M) 201 t
      seen_within = stands_within t (stands_grown unit shown h.w.own Y (within_grows shown tree made h.w h.unit_is h.shown_is h.within) t h.stands)

    seen_open : (t : TypeRef) → Seen unit shown In is_open false t → Is M is_open_desc t → ⊥
    seen_open t h = not_open M t (seen_within is_open false t h) (sym (open_same (S unit shown h.w.own) (map_of h.w) M (steps is_open false t h) (same is_open false t h) t h.stands) ∙ h.is)

    seen_plain : (t : TypeRef) → Seen unit shown In is_structured false t → Is M is_structure t → ⊥
    seen_plain t h = not_structured M t (seen_within is_structured false t h) (sym (structured_same (S unit shown h.w.own) (map_of h.w) M (steps is_structured false t h) (same is_structured false t h) t h.stands) ∙ h.is)

    seen_structure : (t : TypeRef) → Seen unit shown In is_structured true t → Is M is_structure t
    seen_structure t h = structure_is M t (seen_within is_structured true t h) (sym (structured_same (S unit shown h.w.own) (map_of h.w) M (steps is_structured true t h) (same is_structured true t h) t h.stands) ∙ h.is)

    seen_record : (t : TypeRef) → Seen unit shown In is_record true t → Is M is_record_desc t
    seen_record t h = record_is M t (seen_within is_record true t h) (sym (record_same (S unit shown h.w.own) (map_of h.w) M (steps is_record true t h) (same is_record true t h) t h.stands) ∙ h.is)

    pub closed_is : (t : TypeRef) → Closed unit shown In t → Is M is_open_desc t → ⊥
    closed_is t (inr h) k = seen_open t h k
    closed_is t (inl h) k =
        let q : QName = record { «module» = unit; object = h.s.name } in
        by (M q) refl (made_like shown tree made h.s h.there)
      where
        by : (o : Option Desc) → M (record { «module» = unit; object = h.s.name }) ≡ o → stripped o ≡ Some (strip h.s.desc) → ⊥
        by None f g = absurd cc
        by (Some d) f g =
            let n : strip d ≡ strip h.s.desc = cc in
            solid_closed M (record { «module» = unit; object = h.s.name }) d f (sym (solid_stripped d) ∙ ap is_solid n ∙ solid_stripped h.s.desc ∙ h.solid) (subst (Is M is_open_desc) h.is k)

    -- ---- what each description keeps

    plain_keeps : (s : Signature) → SignatureFirm T (Seen unit shown In is_structured false) s → IsPlainResult M s
    plain_keeps s h = by s.result h.1
      where
        by : (o : Option TypeRef) → IfThere (λ t. T t × Seen unit shown In is_structured false t) o → IfSome o (λ t. Is M is_structure t → ⊥)
        by None h = tt
        by (Some t) h = seen_plain t h.1

    pub sound_keeps : (d : Desc) → Sound shown tree made d → Keeps M d
    sound_keeps (desc.Alias m t) h = closed_is t h.1
    sound_keeps (desc.Array m n t) h = closed_is t h.1.1
    sound_keeps (desc.OpenArray m t) h = closed_is t h.1
    sound_keeps (desc.Pointer m t) h = seen_structure t h.1
    sound_keeps (desc.ProcType m s) h = plain_keeps s h
    sound_keeps (desc.Record r) h = (base r.base h.0, (all_of (λ (f : Field). T f.of × Closed unit shown In f.of) (λ (f : Field). Is M is_open_desc f.of → ⊥) r.fields (λ f k. closed_is f.of k.1) h.1.0, all_of (λ (m : Method). SignatureFirm T (Seen unit shown In is_structured false) m.signature) (λ (m : Method). IsPlainResult M m.signature) r.methods (λ m k. plain_keeps m.signature k) h.1.1))
      where
        base : (o : Option TypeRef) → IfThere (λ t. T t × Seen unit shown In is_record true t) o → IfSome o (Is M is_record_desc)
        base None h = tt
        base (Some t) h = seen_record t h.1
    sound_keeps (desc.Const v) h = absurd h
    sound_keeps (desc.Var m t) h = absurd h
    sound_keeps (desc.Proc s) h = absurd h

    -- ---- what is shown keeps it

    at_shown : (q : QName) → IsHeld shown (ref.Named q) → M q ≡ shown q
    at_shown q h = shown_at shown unit made.kept made.apart made.out w0 refl refl (are_described shown tree made) (closed shown tree made) q h

    pub shown_keeps : (d : Desc) → AllByRecursion (λ t. IsHeld shown t) (named_by d) → Keeps shown d → Keeps M d
    shown_keeps = keeps_same (λ t. IsHeld shown t) shown M (λ q d h f. made.kept.held q d (sym (at_shown q h) ∙ f)) (λ q h. ap stripped (at_shown q h))

    -- ---- all

    basic_closed : (b : Basic) → Is M is_open_desc (ref.Basic b) → ⊥
    basic_closed b h = let bad : ref.Basic b ≡ ref.Named h.0 = unique M (itself tt) h.1.0 in absurd cc

    pub keeps : (q : QName) (d : Desc) → M q ≡ Some d → Keeps M d
    keeps q d f = by (same_name q out_string) refl
      where
        by : (b : Bool) → same_name q out_string ≡ b → Keeps M d
        by true o = let g : Some (desc.OpenArray mark.Hidden (ref.Basic basic.Char)) ≡ Some d = sym (out_is shown unit made.kept made.apart made.out w0 refl refl (are_described shown tree made) (closed shown tree made) q o) ∙ f in let i : desc.OpenArray mark.Hidden (ref.Basic basic.Char) ≡ d = cc in subst (Keeps M) i (basic_closed basic.Char)
        by false o = ⊎_elim
            (λ (k : IsOwn unit shown w0 refl refl q d). subst (Keeps M) k.desc (sound_keeps k.s.desc (sound_at shown tree made k.s k.there)))
            (λ (k : IsOther unit shown w0 refl refl q d). shown_keeps d (made.kept.held q d k.is) (made.kept.keeps q d k.is))
            (at unit shown w0 refl refl q o d f)
