-- What interfaces that fit say of what they describe.
use Rattle.std.proofs.Common.{◌≡◌, ℕ, Bool, true, false, cond, List, [], ◌∷◌, Option, Some, None, refl, sym, subst}
use Rattle.std.specs.Prelude.{bytes_eq}
use Rattle.std.specs.List.{AllByRecursion}
use Rattle.std.proofs.lemmas.Bool.{leb-true, and_parts}
use Rattle.ob_tree.specs.declared.names.QName.{QName}
use Rattle.ob_types.specs.declared.desc.Desc.{Desc}
use Rattle.ob_types.specs.declared.desc.Desc.TheVariants as desc
use Rattle.ob_format.specs.Format.{◌>>=◌}
use Rattle.ob_layout.specs.Lists.{or_else}
use Rattle.ob_layout.specs.Words.{most_words}
use Rattle.ob_env.specs.Stale.{first_among}
use Rattle.ob_env.specs.Faces.{Face, object_named, face_named, described}
use Rattle.ob_env.specs.Fit.{fits, steps_of, misfit, unless, first_unfit, names_types, stands, has_bases, keeps_places, has_few_words, has_few_procedures}
use Rattle.law_spelling.specs.Laws.{Text}
use Rattle.law_spelling.proofs.Sizes.{HaveFew}
use Rattle.law_lists.proofs.Lists.{same_bytes}

none_both : {B : Type 0} (a b : Option B) → or_else a b ≡ None → (a ≡ None) × (b ≡ None)
none_both None b e = (refl, e)
none_both (Some x) b e = absurd cc

-- nothing is found in any
none_among : {A B : Type 0} (f : A → Option B) (xs : List A) → first_among f xs ≡ None → AllByRecursion (λ x. f x ≡ None) xs
none_among f [] e = tt
none_among f (x ∷ xs) e = let p = none_both (f x) (first_among f xs) e in (p.0, none_among f xs p.1)

is_fit : (b : Bool) (q : QName) → unless b q ≡ None → b ≡ true
is_fit true q e = refl
is_fit false q e = absurd cc

module _ (types : QName → Option Desc) (steps : ℕ) where
  abbrev IsFit : QName → Desc → Type 0
  IsFit q d = fits types steps q d ≡ true

  object_of_name : (m : List ℕ) (os : List (List ℕ × Desc)) → AllByRecursion (λ o. misfit types steps m o ≡ None) os → (x : List ℕ) (d : Desc) → object_named os x ≡ Some d → IsFit (record { «module» = m; object = x }) d
  object_of_name m [] h x d e = absurd cc
  object_of_name m (o ∷ os) h x d e = go (bytes_eq x o.0) refl e (object_of_name m os h.1 x d)
    where
      go : (b : Bool) → bytes_eq x o.0 ≡ b → cond b (Some o.1) (object_named os x) ≡ Some d → (object_named os x ≡ Some d → IsFit (record { «module» = m; object = x }) d) → IsFit (record { «module» = m; object = x }) d
      go true f i rest =
          let same : o.1 ≡ d = cc in
          let q : QName = record { «module» = m; object = o.0 } in
          subst (λ (y : List ℕ). IsFit (record { «module» = m; object = y }) d) (sym (same_bytes x o.0 f)) (subst (λ (z : Desc). IsFit (record { «module» = m; object = o.0 }) z) same (is_fit (fits types steps q o.1) q h.0))
      go false f i rest = rest i

  face_of_name : (fs : List (Face Text)) → AllByRecursion (λ f. first_among (misfit types steps f.«module») f.objects ≡ None) fs → (m x : List ℕ) (d : Desc) → (face_named fs m >>= λ f. object_named f.objects x) ≡ Some d → IsFit (record { «module» = m; object = x }) d
  face_of_name [] h m x d e = absurd cc
  face_of_name (f ∷ fs) h m x d e = go (bytes_eq m f.«module») refl e (face_of_name fs h.1 m x d)
    where
      go : (b : Bool) → bytes_eq m f.«module» ≡ b → (cond b (Some f) (face_named fs m) >>= λ f. object_named f.objects x) ≡ Some d → ((face_named fs m >>= λ f. object_named f.objects x) ≡ Some d → IsFit (record { «module» = m; object = x }) d) → IsFit (record { «module» = m; object = x }) d
      go true i e rest = subst (λ (y : List ℕ). IsFit (record { «module» = y; object = x }) d) (sym (same_bytes m f.«module» i)) (object_of_name f.«module» f.objects (none_among (misfit types steps f.«module») f.objects h.0) x d e)
      go false i e rest = rest e

-- what is described keeps the conditions
pub described_fit : (fs : List (Face Text)) → first_unfit fs ≡ None → (q : QName) (d : Desc) → described fs q ≡ Some d → fits (described fs) (steps_of fs) q d ≡ true
described_fit fs h q d e = face_of_name (described fs) (steps_of fs) fs (none_among (λ f. first_among (misfit (described fs) (steps_of fs) f.«module») f.objects) fs h) q.«module» q.object d e

-- records have few bound procedures
pub have_few : (fs : List (Face Text)) → first_unfit fs ≡ None → HaveFew (described fs)
have_few fs h q r e =
    let types = described fs in
    let steps = steps_of fs in
    let d : Desc = desc.Record r in
    let k = described_fit fs h q d e in
    let a = and_parts (names_types types steps d) _ k in
    let b = and_parts (stands types steps q d) _ a.1 in
    let c = and_parts (has_bases types steps d) _ b.1 in
    let f = and_parts (keeps_places types steps d) _ c.1 in
    let g = and_parts (has_few_words types steps q d) _ f.1 in
    let p = and_parts (has_few_procedures types steps r) _ g.1 in
    leb-true r.procedures most_words p.0
