-- Chains end, and lines are short, in a map that says what a program declares in which they do.
use Rattle.std.proofs.Common.{◌≡◌, ◌⊎◌, ⊎_elim, inl, inr, ℕ, zero, suc, List, [], ◌∷◌, ◌++◌, map as each, Option, Some, None, refl, sym, ap, subst, ◌∙◌}
use Rattle.std.specs.Prelude.{true, MatchOption, IsTrue}
use Rattle.std.specs.Option.{option_map}
use Rattle.std.specs.List.{AllByRecursion}
use Rattle.ob_tree.specs.declared.names.QName.{QName}
use Rattle.ob_types.specs.declared.types.Basic.TheVariants as basic
use Rattle.ob_types.specs.declared.types.TypeRef.{TypeRef}
use Rattle.ob_types.specs.declared.types.TypeRef.TheVariants as ref
use Rattle.ob_types.specs.declared.desc.Desc.{Desc}
use Rattle.ob_types.specs.declared.desc.Desc.TheVariants as desc
use Rattle.ob_types.specs.declared.desc.Field.{Field}
use Rattle.ob_types.specs.Maps.{is_type, listed, signature_types, stands_on, IsHeld, IsWithin}
use Rattle.ob_meaning.specs.Values.{Program, description}
use Rattle.law_typing_forms.specs.Said.{IsOneOf, IsAmong, IsSaid, ChainsEnd}
use Rattle.law_typing_forms.specs.Steady.{bare, without_members}
use Rattle.law_typing_forms.proofs.Within.{all_from}
use Rattle.law_typing_forms.proofs.Modules.{of_all}
use Rattle.law_acyclic.proofs.Maps.{stood_on, stands_bare}
use Rattle.law_builds_types.specs.lined_laws.Lined.{AreLined, SaysOf, HoldsNamed, SaidHaveEnds, SaidAreSteady}
use Rattle.law_builds_types.proofs.lined_laws.Bare.{type_bare, bare_back, held_bare}

-- ---- lists

abbrev Among : List TypeRef → List TypeRef → Type 0
Among xs ts = AllByRecursion (λ t. IsOneOf xs t) ts

all_among : (xs : List TypeRef) → Among xs xs
all_among [] = tt
all_among (x ∷ xs) = (inl refl, all_from (λ t. IsOneOf xs t) (λ t. IsOneOf (x ∷ xs) t) (λ t i. inr i) xs (all_among xs))

field_among : (gs : List Field) (g : Field) → IsOneOf gs g → IsOneOf (each (λ f. f.of) gs) g.of
field_among [] g i = i
field_among (h ∷ gs) g (inl e) = inl (ap (λ (f : Field). f.of) e)
field_among (h ∷ gs) g (inr i) = inr (field_among gs g i)

fields_among : (gs fs : List Field) → AllByRecursion (λ f. IsAmong gs f) fs → Among (each (λ f. f.of) gs) (each (λ f. f.of) fs)
fields_among gs [] h = tt
fields_among gs (f ∷ fs) h = (subst (λ t. IsOneOf (each (λ f. f.of) gs) t) h.0.of (field_among gs h.0.g h.0.there), fields_among gs fs h.1)

record_among : (o : Option TypeRef) (gs fs : List Field) → AllByRecursion (λ f. IsAmong gs f) fs → Among (listed o ++ each (λ f. f.of) gs) (listed o ++ each (λ f. f.of) fs)
record_among None gs fs h = fields_among gs fs h
record_among (Some t) gs fs h = (inl refl, all_from (λ u. IsOneOf (each (λ f. f.of) gs) u) (λ u. IsOneOf (t ∷ each (λ f. f.of) gs) u) (λ u i. inr i) (each (λ f. f.of) fs) (fields_among gs fs h))

-- ---- what is said of a type, by what it stands on

-- the elements of the type of the parameter of Out.String are characters
abbrev IsOfChars : Desc → Type 0
IsOfChars d = stands_on d ≡ ref.Basic basic.Char ∷ []

-- the program declares a type that stands on these and maybe more
record IsDeclaredOver (program : Program) (q : QName) (d : Desc) : Type 0 where
  e : Desc
  there : description program q ≡ Some e
  type : is_type e ≡ true
  full : Among (stands_on e) (stands_on d)
  line : Among (stands_on (bare e)) (stands_on (bare d))

said_over : (program : Program) (q : QName) (d : Desc) → is_type d ≡ true → IsSaid program q d → (IsOfChars d × IsOfChars (bare d)) ⊎ IsDeclaredOver program q d
said_over program q (desc.Const v) ty s = absurd cc
said_over program q (desc.Var m t) ty s = absurd cc
said_over program q (desc.Proc g) ty s = absurd cc
said_over program q (desc.Alias m t) ty s = inr (record { e = desc.Alias s.0 t; there = s.1; type = refl; full = (inl refl, tt); line = (inl refl, tt) })
said_over program q (desc.Array m n t) ty s = inr (record { e = desc.Array s.0 n t; there = s.1; type = refl; full = (inl refl, tt); line = (inl refl, tt) })
said_over program q (desc.OpenArray m t) ty (inl s) = let c = ap (λ (u : TypeRef). u ∷ []) s.1 in inl (c, c)
said_over program q (desc.OpenArray m t) ty (inr s) = inr (record { e = desc.OpenArray s.0 t; there = s.1; type = refl; full = (inl refl, tt); line = (inl refl, tt) })
said_over program q (desc.Pointer m t) ty s = inr (record { e = desc.Pointer s.0 t; there = s.1; type = refl; full = tt; line = tt })
said_over program q (desc.ProcType m g) ty s = inr (record { e = desc.ProcType s.0 g; there = s.1; type = refl; full = all_among (signature_types g); line = all_among (signature_types g) })
said_over program q (desc.Record r) ty s =
    inr (record {
      e = desc.Record s.0;
      there = s.1.0;
      type = refl;
      full = subst (λ o. Among (listed o ++ each (λ f. f.of) s.0.fields) (listed r.base ++ each (λ f. f.of) r.fields)) s.1.1.base (record_among r.base s.0.fields r.fields s.1.1.fields);
      line = subst (λ o. Among (listed o ++ []) (listed r.base ++ [])) s.1.1.base (record_among r.base [] [] tt);
    })

-- ---- chains

within_chars : (map : QName → Option Desc) (n : ℕ) (q : QName) (d : Desc) → map q ≡ Some d → is_type d ≡ true → IsOfChars d → IsWithin map (suc n) (ref.Named q)
unfolding IsWithin
within_chars map n q d e ty c = subst (λ o. MatchOption o ⊥ (λ d. IsTrue (is_type d) × AllByRecursion (λ t. IsWithin map n t) (stands_on d))) (sym e) (ty, subst (λ ts. AllByRecursion (λ t. IsWithin map n t) ts) (sym c) (tt, tt))

-- a map that holds what its types stand on, where each stands on what one of the other stands on, or on characters
module _ (declared map : QName → Option Desc) (over : (q : QName) (d : Desc) → map q ≡ Some d → is_type d ≡ true → IsOfChars d ⊎ ((e : Desc) × ((declared q ≡ Some e) × Among (stands_on e) (stands_on d)))) (held : (q : QName) (d : Desc) → map q ≡ Some d → AllByRecursion (λ t. IsHeld map t) (stands_on d)) where
  parts : (n : ℕ) (xs ts : List TypeRef) → ((t : TypeRef) → IsWithin declared n t → IsHeld map t → IsWithin map n t) → AllByRecursion (λ t. IsWithin declared n t) xs → Among xs ts → AllByRecursion (λ t. IsHeld map t) ts → AllByRecursion (λ t. IsWithin map n t) ts
  parts n xs [] r w a h = tt
  parts n xs (t ∷ ts) r w a h = (r t (of_all (λ t. IsWithin declared n t) xs t w a.0) h.0, parts n xs ts r w a.1 h.1)

  within_said : (n : ℕ) (t : TypeRef) → IsWithin declared n t → IsHeld map t → IsWithin map n t
  unfolding IsWithin
  within_said n (ref.Basic b) w h = tt
  within_said zero (ref.Named q) w h = absurd w
  within_said (suc n) (ref.Named q) w h = by (map q) refl h (λ t w h. within_said n t w h)
    where
      by : (o : Option Desc) → map q ≡ o → MatchOption o ⊥ (λ d. IsTrue (is_type d)) → ((t : TypeRef) → IsWithin declared n t → IsHeld map t → IsWithin map n t) → MatchOption o ⊥ (λ d. IsTrue (is_type d) × AllByRecursion (λ t. IsWithin map n t) (stands_on d))
      by None e h r = h
      by (Some d) e h r = (
        h,
        ⊎_elim
            (λ c. subst (λ ts. AllByRecursion (λ t. IsWithin map n t) ts) (sym c) (tt, tt))
            (λ s.
            let k = subst (λ o. MatchOption o ⊥ (λ d. IsTrue (is_type d) × AllByRecursion (λ t. IsWithin declared n t) (stands_on d))) s.1.0 w in
            parts n (stands_on s.0) (stands_on d) r k.1 s.1.1 (held q d e))
            (over q d e h),
      )

-- ---- maps that say what a program declares

module _ (program : Program) (ended : ChainsEnd program) (lined : AreLined program) (map : QName → Option Desc) (says : SaysOf program map) (holds : HoldsNamed map) where
  stood : (q : QName) (d : Desc) → map q ≡ Some d → AllByRecursion (λ t. IsHeld map t) (stands_on d)
  stood q d e = stood_on (λ t. IsHeld map t) d (holds q d e)

  stood_bare : (q : QName) (b : Desc) → without_members map q ≡ Some b → AllByRecursion (λ t. IsHeld (without_members map) t) (stands_on b)
  stood_bare q b e =
      let s = bare_back (map q) b e in
      subst (λ d. AllByRecursion (λ t. IsHeld (without_members map) t) (stands_on d)) s.1.1
      (stands_bare (λ t. IsHeld (without_members map) t) s.0 (all_from (λ t. IsHeld map t) (λ t. IsHeld (without_members map) t) (held_bare map) (stands_on s.0) (stood q s.0 s.1.0)))

  over : (q : QName) (d : Desc) → map q ≡ Some d → is_type d ≡ true → IsOfChars d ⊎ ((e : Desc) × ((description program q ≡ Some e) × Among (stands_on e) (stands_on d)))
  over q d e ty = ⊎_elim (λ c. inl c.0) (λ (s : IsDeclaredOver program q d). inr (s.e, (s.there, s.full))) (said_over program q d ty (says q d e ty))

  over_bare : (q : QName) (b : Desc) → without_members map q ≡ Some b → is_type b ≡ true → IsOfChars b ⊎ ((e : Desc) × ((without_members (description program) q ≡ Some e) × Among (stands_on e) (stands_on b)))
  over_bare q b e ty =
      let s = bare_back (map q) b e in
      let kind : is_type s.0 ≡ true = sym (type_bare s.0) ∙ ap is_type s.1.1 ∙ ty in
      subst (λ d. IsOfChars d ⊎ ((e : Desc) × ((without_members (description program) q ≡ Some e) × Among (stands_on e) (stands_on d)))) s.1.1
      (⊎_elim (λ c. inl c.1) (λ (k : IsDeclaredOver program q s.0). inr (bare k.e, (ap (option_map bare) k.there, k.line))) (said_over program q s.0 kind (says q s.0 s.1.0 kind)))

  chains_end : (t : TypeRef) → IsHeld map t → (n : ℕ) × IsWithin map n t
  unfolding IsWithin
  chains_end (ref.Basic b) h = (0, tt)
  chains_end (ref.Named q) h = by (map q) refl h
    where
      by : (o : Option Desc) → map q ≡ o → MatchOption o ⊥ (λ d. IsTrue (is_type d)) → (n : ℕ) × IsWithin map n (ref.Named q)
      by None e k = absurd k
      by (Some d) e k =
          ⊎_elim
          (λ c. (1, within_chars map 0 q d e k c.0))
          (λ (s : IsDeclaredOver program q d). let n = ended q s.e s.there in (n.0, within_said (description program) map over stood n.0 (ref.Named q) n.1 h))
          (said_over program q d k (says q d e k))

  lines_short : (t : TypeRef) → IsHeld map t → IsWithin (without_members map) 201 t
  unfolding IsWithin
  lines_short (ref.Basic b) h = tt
  lines_short (ref.Named q) h = by (map q) refl h
    where
      by : (o : Option Desc) → map q ≡ o → MatchOption o ⊥ (λ d. IsTrue (is_type d)) → IsWithin (without_members map) 201 (ref.Named q)
      by None e k = absurd k
      by (Some d) e k =
          ⊎_elim
          (λ c. within_chars (without_members map) 200 q (bare d) (ap (option_map bare) e) (type_bare d ∙ k) c.1)
          (λ (s : IsDeclaredOver program q d). within_said (without_members (description program)) (without_members map) over_bare stood_bare 201 (ref.Named q) (lined q s.e s.there s.type) (held_bare map (ref.Named q) h))
          (said_over program q d k (says q d e k))

pub said_have_ends : SaidHaveEnds
said_have_ends program ended lined map says holds = record { ends = chains_end program ended lined map says holds; lines = lines_short program ended lined map says holds }

pub said_are_steady : SaidAreSteady
said_are_steady program ended lined map says holds keeps =
    let s = said_have_ends program ended lined map says holds in
    record { held = holds; ends = s.ends; lines = s.lines; keeps = keeps }
