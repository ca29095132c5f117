-- A description with its layout says what it says without.
use Rattle.std.proofs.Common.{◌≢◌, ⊎_elim, inl, inr, ℕ, suc, ◌+◌, List, [], ◌∷◌, map as each, refl, subst}
use Rattle.std.specs.List.{AllByRecursion}
use Rattle.ob_tree.specs.declared.names.QName.{QName}
use Rattle.ob_types.specs.declared.types.TypeRef.{TypeRef}
use Rattle.ob_types.specs.declared.desc.RecordDesc.{RecordDesc}
use Rattle.ob_types.specs.declared.desc.Field.{Field}
use Rattle.ob_types.specs.declared.desc.Method.{Method}
use Rattle.ob_layout.specs.LaidOut.{base_of, kept, placed, numbered, laid_record}
use Rattle.ob_env.specs.Shown.{unplaced, unnumbered}
use Rattle.law_typing_forms.specs.Said.{IsOneOf, IsAmong, IsBoundAmong, IsPartOf, IsFreshName}

pub fresh_other : (x : List ℕ) (fs : List Field) (f : Field) → IsFreshName x fs → IsOneOf fs f → x ≢ f.name
fresh_other x [] f h i = absurd i
fresh_other x (g ∷ fs) f h i = ⊎_elim (λ e. subst (λ (y : Field). x ≢ y.name) e h.0) (λ k. fresh_other x fs f h.1 k) i

-- ---- fields with their places

pub placed_fresh : (words : TypeRef → ℕ) (n : ℕ) (x : List ℕ) (fs : List Field) → IsFreshName x fs → IsFreshName x (placed words n fs)
placed_fresh words n x [] h = tt
placed_fresh words n x (f ∷ fs) h = (h.0, placed_fresh words (n + words f.of) x fs h.1)

placed_among : (words : TypeRef → ℕ) (n : ℕ) (fs gs : List Field) → ((g : Field) → IsOneOf (placed words n fs) g → IsOneOf gs g) → AllByRecursion (λ f. IsAmong gs f) fs
placed_among words n [] gs h = tt
placed_among words n (f ∷ fs) gs h = (record { g = record f { place = kept n }; there = h (record f { place = kept n }) (inl refl); name = refl; of = refl }, placed_among words (n + words f.of) fs gs (λ g i. h g (inr i)))

numbered_among : (n : ℕ) (ms ks : List Method) → ((k : Method) → IsOneOf (numbered n ms) k → IsOneOf ks k) → AllByRecursion (λ m. IsBoundAmong ks m) ms
numbered_among n [] ks h = tt
numbered_among n (m ∷ ms) ks h = (record { k = record m { number = n }; there = h (record m { number = n }) (inl refl); name = refl; receiver = refl; signature = refl }, numbered_among (suc n) ms ks (λ k i. h k (inr i)))

-- a record as it was checked says no more than with its layout
pub part_laid : (words procedures : TypeRef → ℕ) (q : QName) (r : RecordDesc) → IsPartOf r (laid_record words procedures q r)
part_laid words procedures q r = record {
  base = refl;
  fields = placed_among words (base_of words r.base) r.fields (placed words (base_of words r.base) r.fields) (λ g i. i);
  methods = numbered_among (base_of procedures r.base) r.methods (numbered (base_of procedures r.base) r.methods) (λ k i. i);
}

-- ---- without places and numbers

unplaced_all : (s fs : List Field) → AllByRecursion (λ f. IsAmong s f) fs → AllByRecursion (λ f. IsAmong s f) (each unplaced fs)
unplaced_all s [] h = tt
unplaced_all s (f ∷ fs) h = (record { g = h.0.g; there = h.0.there; name = h.0.name; of = h.0.of }, unplaced_all s fs h.1)

unnumbered_all : (s ms : List Method) → AllByRecursion (λ m. IsBoundAmong s m) ms → AllByRecursion (λ m. IsBoundAmong s m) (each unnumbered ms)
unnumbered_all s [] h = tt
unnumbered_all s (m ∷ ms) h = (record { k = h.0.k; there = h.0.there; name = h.0.name; receiver = h.0.receiver; signature = h.0.signature }, unnumbered_all s ms h.1)

pub part_blank : (r s : RecordDesc) → IsPartOf r s → IsPartOf (record r { fields = each unplaced r.fields; methods = each unnumbered r.methods; words = 0; procedures = 0 }) s
part_blank r s h = record { base = h.base; fields = unplaced_all s.fields r.fields h.fields; methods = unnumbered_all s.methods r.methods h.methods }
