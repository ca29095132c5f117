-- Types in the order in which they are made.
use Rattle.std.proofs.Common.{◌≡◌, ⊎_elim, refl, ap, ◌∙◌, false, ℕ, List, [], ◌∷◌, ◌++◌, map, Option, inl, inr}
use Rattle.std.specs.List.{AllByRecursion}
use Rattle.ob_tree.specs.declared.names.QName.{QName}
use Rattle.ob_tree.specs.declared.ident.Mark.TheVariants as mark
use Rattle.ob_types.specs.declared.types.TypeRef.{TypeRef}
use Rattle.ob_types.specs.declared.types.TypeRef.TheVariants as ref
use Rattle.ob_types.specs.declared.desc.Desc.{Desc}
use Rattle.ob_types.specs.declared.desc.Desc.TheVariants as desc
use Rattle.ob_types.specs.declared.typed.TypedType.{TypedType}
use Rattle.ob_rules.specs.Names.{Around, is_out}
use Rattle.ob_rules.specs.declared.entity.Known.{Known}
use Rattle.law_body_context.specs.Knows.{Grows, Stands, IsDescribed, EntityStands}
use Rattle.law_body_context.specs.Order.{IsOver}
use Rattle.law_body_context.proofs.Lists.{one_right, one_left, one_joined}
use Rattle.law_body_context.proofs.Standing.{grows_front, all_grown}
use Rattle.law_body_context.proofs.InOrder.{over_all}
use Rattle.law_body_context.proofs.Typings.{KnownOver}
use Rattle.law_acyclic.proofs.Firm.{AnyValue}

-- a type of that name, of which nothing else counts
abbrev named_only : TypedType → TypedType
named_only t = record { name = t.name; desc = desc.Pointer mark.Hidden (ref.Named (record { «module» = []; object = [] })) }

abbrev pub names_of : List TypedType → List TypedType
names_of ts = map named_only ts

names_there : (ts : List TypedType) → Grows ts (names_of ts)
names_there [] x h = absurd h.1.0
names_there (t ∷ ts) x (s, (inl e, f)) = (named_only t, (inl refl, ap (λ (r : TypedType). r.name) e ∙ f))
names_there (t ∷ ts) x (s, (inr i, f)) = let r = names_there ts x (s, (i, f)) in (r.0, (inr r.1.0, r.1.1))

names_back : (ts : List TypedType) → Grows (names_of ts) ts
names_back [] x h = absurd h.1.0
names_back (t ∷ ts) x (s, (inl e, f)) = (t, (inl refl, ap (λ (r : TypedType). r.name) e ∙ f))
names_back (t ∷ ts) x (s, (inr i, f)) = let r = names_back ts x (s, (i, f)) in (r.0, (inr r.1.0, r.1.1))

names_described : (ts : List TypedType) → AllByRecursion (IsDescribed AnyValue) (names_of ts)
names_described [] = tt
names_described (t ∷ ts) = (record { type = refl; length = tt }, names_described ts)

keeps_front : (t : TypedType) (a b : List TypedType) → Grows a b → Grows (t ∷ a) (t ∷ b)
keeps_front t a b g x (s, (inl e, f)) = (s, (inl e, f))
keeps_front t a b g x (s, (inr i, f)) = let r = g x (s, (i, f)) in (r.0, (inr r.1.0, r.1.1))

turned : (t : TypedType) (xs before : List TypedType) → Grows (t ∷ (xs ++ before)) (xs ++ t ∷ before)
turned t xs before x (s, (inl e, f)) = (s, (one_right xs (t ∷ before) s (inl e), f))
turned t xs before x (s, (inr i, f)) = (s, (⊎_elim (λ k. one_left xs (t ∷ before) s k) (λ k. one_right xs (t ∷ before) s (inr k)) (one_joined xs before s i), f))

pub grows_apart : (a b before : List TypedType) → Grows (b ++ (a ++ before)) ((a ++ b) ++ before)
grows_apart a b before x (s, (i, f)) =
    (s, (⊎_elim (λ k. one_left (a ++ b) before s (one_right a b s k)) (λ k. ⊎_elim (λ j. one_left (a ++ b) before s (one_left a b s j)) (λ j. one_right (a ++ b) before s j) (one_joined a before s k)) (one_joined b (a ++ before) s i), f))

module _ (unit : List ℕ) (shown : QName → Option Desc) where
  abbrev S : List TypedType → TypeRef → Type 0
  S own t = Stands unit shown own t

  -- each over those before it, the latest first
  abbrev pub AreInText : List TypedType → List TypedType → Type 0
  AreInText before [] = Unit {0}
  AreInText before (t ∷ ts) = IsOver (S before) t × AreInText (t ∷ before) ts

  over_more : (own more : List TypedType) → Grows own more → (t : TypedType) → IsOver (S own) t → IsOver (S more) t
  over_more own more g t h = (over_all unit shown own more g (t ∷ []) (h, tt)).0

  pub text_grown : (a b : List TypedType) → Grows a b → (ts : List TypedType) → AreInText a ts → AreInText b ts
  text_grown a b g [] h = tt
  text_grown a b g (t ∷ ts) h = (over_more a b g t h.0, text_grown (t ∷ a) (t ∷ b) (keeps_front t a b g) ts h.1)

  -- types that are over those before all of them
  pub text_made : (before ts : List TypedType) → AllByRecursion (IsOver (S before)) ts → AreInText before ts
  text_made before [] h = tt
  text_made before (t ∷ ts) h = (h.0, text_grown before (t ∷ before) (grows_front (t ∷ []) before) ts (text_made before ts h.1))

  pub text_joined : (before xs ys : List TypedType) → AreInText before xs → AreInText (xs ++ before) ys → AreInText before (xs ++ ys)
  text_joined before [] ys h k = k
  text_joined before (t ∷ xs) ys h k = (h.0, text_joined (t ∷ before) xs ys h.1 (text_grown (t ∷ (xs ++ before)) (xs ++ t ∷ before) (turned t xs before) ys k))

  -- WHAT STANDS AROUND A PART: the types that are known by names are among those before it in the text

  pub record Text (before : List TypedType) (u : Around) : Type 0 where
    pub unit_is : u.unit ≡ unit
    pub shown_is : u.shown ≡ shown
    pub known : AllByRecursion (λ k. EntityStands AnyValue unit shown before k.what) u.known

  pub text_more : (before more : List TypedType) → Grows before more → (u : Around) → Text before u → Text more u
  text_more before more g u t = record { unit_is = t.unit_is; shown_is = t.shown_is; known = all_grown unit shown AnyValue before more g u.known t.known }

  module _ (out : is_out unit ≡ false) where
    pub known_over : (before : List TypedType) (u : Around) → Text before u → KnownOver AnyValue unit shown out (names_of before) u
    known_over before u t = record { unit_is = t.unit_is; shown_is = t.shown_is; own = names_described before; known = all_grown unit shown AnyValue before (names_of before) (names_there before) u.known t.known }

    pub over_back : (before ts : List TypedType) → AllByRecursion (IsOver (S (names_of before))) ts → AllByRecursion (IsOver (S before)) ts
    over_back before ts h = over_all unit shown (names_of before) before (names_back before) ts h

    pub entities_back : (before : List TypedType) (ks : List Known) → AllByRecursion (λ k. EntityStands AnyValue unit shown (names_of before) k.what) ks → AllByRecursion (λ k. EntityStands AnyValue unit shown before k.what) ks
    entities_back before ks h = all_grown unit shown AnyValue (names_of before) before (names_back before) ks h
