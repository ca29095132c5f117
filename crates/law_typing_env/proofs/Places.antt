-- The places of the fields of a record that is laid out.
use Rattle.std.proofs.Common.{◌≡◌, ◌⊎◌, inl, inr, ℕ, ◌+◌, ◌≤◌, List, [], ◌∷◌, refl, sym, ap, ◌∙◌, arith}
use Rattle.std.specs.Prelude.{Bool, true, false, ◌&&◌, bytes_eq, if◌then◌else◌}
use Rattle.std.specs.List.{AllByRecursion}
use Rattle.ob_tree.specs.declared.names.QName.{QName}
use Rattle.ob_types.specs.declared.types.TypeRef.{TypeRef}
use Rattle.ob_types.specs.declared.desc.Field.{Field}
use Rattle.ob_meaning.specs.Values.{same_name, Form, Fields, NoField, AField, joined, own_fields, words, fields_words}
use Rattle.law_simulation_relation.specs.Layout.{field_offset}
use Rattle.law_simulation_relation.proofs.Names.{bytes_true, name_true, field_same}
use Rattle.ob_layout.specs.Lists.{sum_of}
use Rattle.ob_layout.specs.Words.{most_words}
use Rattle.ob_layout.specs.LaidOut.{kept, placed}
use Rattle.law_typing_forms.specs.Said.{IsOneOf, HaveNames}
use Rattle.law_typing_forms.proofs.Built.{OwnerIn}
use Rattle.law_typing_env.proofs.Laid.{fresh_other, placed_fresh}
use Rattle.law_lists.proofs.Lists.{and_left}

kept_few : (n : ℕ) → n ≤ most_words → kept n ≡ n
kept_few n le = omega (arith, le)

-- their places are the sums of what stands before
pub places_sum : (form : TypeRef → Form) (q : QName) (w : TypeRef → ℕ) (n : ℕ) (fs : List Field) (g : Field) → HaveNames fs → AllByRecursion (λ f. w f.of ≡ words (form f.of)) fs → n + sum_of (λ f. w f.of) fs ≤ most_words → IsOneOf (placed w n fs) g → g.place ≡ n + field_offset (own_fields form q (placed w n fs)) q g.name
places_sum form q w n [] g names h le i = absurd i
places_sum form q w n (f ∷ fs) g names h le i = by (bytes_eq g.name f.name && same_name q q) refl i (λ i. places_sum form q w (n + w f.of) fs g names.1 h.1 (omega (arith, le)) i)
  where
    by : (b : Bool) → (bytes_eq g.name f.name && same_name q q) ≡ b → (record f { place = kept n } ≡ g) ⊎ IsOneOf (placed w (n + w f.of) fs) g → (IsOneOf (placed w (n + w f.of) fs) g → g.place ≡ n + w f.of + field_offset (own_fields form q (placed w (n + w f.of) fs)) q g.name) → g.place ≡ n + (if b then 0 else words (form f.of) + field_offset (own_fields form q (placed w (n + w f.of) fs)) q g.name)
    by true e (inl k) r =
        let a : kept n ≡ n = kept_few n (omega (arith, le)) in
        let p : g.place ≡ kept n = sym (ap (λ (y : Field). y.place) k) in
        omega (arith, a, p)
    by true e (inr k) r = absurd (fresh_other f.name (placed w (n + w f.of) fs) g (placed_fresh w (n + w f.of) f.name fs names.0) k (sym (bytes_true g.name f.name (and_left (bytes_eq g.name f.name) (same_name q q) e))))
    by false e (inl k) r = let bad : true ≡ false = sym (field_same q g.name) ∙ ap (λ (y : Field). bytes_eq g.name y.name && same_name q q) (sym k) ∙ e in absurd cc
    by false e (inr k) r =
        let s = r k in
        let x : w f.of ≡ words (form f.of) = h.0 in
        omega (arith, s, x)

-- behind the fields of a base
pub offset_behind : (q : QName) (x : List ℕ) (bs gs : Fields) → (OwnerIn q bs → ⊥) → field_offset (joined bs gs) q x ≡ fields_words bs + field_offset gs q x
offset_behind q x NoField gs never = omega arith
offset_behind q x (AField p y t bs) gs never = by (bytes_eq x y) (same_name q p) refl (offset_behind q x bs gs (λ i. never (inr i)))
  where
    by : (a b : Bool) → same_name q p ≡ b → field_offset (joined bs gs) q x ≡ fields_words bs + field_offset gs q x → (if a && b then 0 else words t + field_offset (joined bs gs) q x) ≡ words t + fields_words bs + field_offset gs q x
    by true true e r = absurd (never (inl (name_true q p e)))
    by true false e r = omega (arith, r)
    by false b e r = omega (arith, r)
