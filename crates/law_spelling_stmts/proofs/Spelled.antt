-- Objects of interfaces that have a spelling have a short text; variables and procedures have names.
use Rattle.std.proofs.Common.{◌≡◌, ℕ, ◌<◌, ◌^◌, Bool, true, false, cond, List, [], ◌∷◌, length, map, Option, Some, None, refl, sym, subst}
use Rattle.std.specs.Prelude.{bytes_eq}
use Rattle.std.specs.List.{AllByRecursion}
use Rattle.std.specs.Option.{option_map}
use Rattle.ob_tree.specs.declared.names.QName.{QName}
use Rattle.ob_types.specs.declared.desc.Desc.{Desc}
use Rattle.ob_types.specs.declared.desc.Desc.TheVariants as desc
use Rattle.ob_format.specs.Format.{◌>>=◌, list_of, text32}
use Rattle.ob_format.specs.Names.{name}
use Rattle.ob_desc.specs.Grammar.{shape_text, IsSpelled as IsSpelledDesc}
use Rattle.ob_sym.specs.Grammar.{face as face_form, body, object_in}
use Rattle.ob_env.specs.Faces.{Face, object_named, face_named, described, object_of}
use Rattle.ob_env.specs.Shown.{blank, shown}
use Rattle.law_spelling.specs.Laws.{Text, IsSpelled}
use Rattle.law_spelling.proofs.Names.{face_found, name_fits}
use Rattle.law_lists.proofs.Lists.{same_bytes}

-- it has a spelling, in a text that a file can hold
pub record SpelledObject (q : QName) (d : Desc) : Type 0 where
  pub spelled : IsSpelledDesc q d
  pub short : length (shape_text q d) < 2 ^ 32

objects_spelled : (m : List ℕ) (os : List (List ℕ × Desc)) → AllByRecursion (object_in m).fits (map (object_of m) os) → AllByRecursion (λ (o : List ℕ × Desc). SpelledObject (record { «module» = m; object = o.0 }) o.1) os
unfolding object_in text32
objects_spelled m [] h = tt
objects_spelled m (o ∷ os) h = (record { spelled = h.0.spelled; short = h.0.within.1.0 }, objects_spelled m os h.1)

face_spelled : (f : Face Text) → IsSpelled f → AllByRecursion (λ (o : List ℕ × Desc). SpelledObject (record { «module» = f.«module»; object = o.0 }) o.1) f.objects
unfolding face_form body list_of
face_spelled f h = objects_spelled f.«module» f.objects h.0.1.0.0.1

object_found : (m : List ℕ) (os : List (List ℕ × Desc)) → AllByRecursion (λ (o : List ℕ × Desc). SpelledObject (record { «module» = m; object = o.0 }) o.1) os → (x : List ℕ) (d : Desc) → object_named os x ≡ Some d → SpelledObject (record { «module» = m; object = x }) d
object_found m [] h x d e = absurd cc
object_found m (o ∷ os) h x d e = go (bytes_eq x o.0) refl e (object_found m os h.1 x d)
  where
    go : (b : Bool) → bytes_eq x o.0 ≡ b → cond b (Some o.1) (object_named os x) ≡ Some d → (object_named os x ≡ Some d → SpelledObject (record { «module» = m; object = x }) d) → SpelledObject (record { «module» = m; object = x }) d
    go true f i rest =
        let same : o.1 ≡ d = cc in
        subst (SpelledObject (record { «module» = m; object = x })) same (subst (λ y. SpelledObject (record { «module» = m; object = y }) o.1) (sym (same_bytes x o.0 f)) h.0)
    go false f i rest = rest i

pub described_spelled : (fs : List (Face Text)) → AllByRecursion IsSpelled fs → (q : QName) (d : Desc) → described fs q ≡ Some d → SpelledObject q d
described_spelled fs h q d e = go (face_named fs q.«module») refl e
  where
    go : (o : Option (Face Text)) → face_named fs q.«module» ≡ o → (o >>= λ f. object_named f.objects q.object) ≡ Some d → SpelledObject q d
    go None i e = absurd cc
    go (Some f) i e =
        let k = face_found fs h q.«module» f i in
        subst (λ (m : List ℕ). SpelledObject (record { «module» = m; object = q.object }) d) (sym k.name_is) (object_found f.«module» f.objects (face_spelled f k.spelled) q.object d e)

-- ---- the names of variables and procedures

abbrev pub AreNamed : QName → Type 0
AreNamed q = name.fits q.«module» × name.fits q.object

abbrev Named : QName → Desc → Type 0
Named q (desc.Var m t) = AreNamed q
Named q (desc.Proc s) = AreNamed q
Named q d = Unit {0}

desc_named : (q : QName) (d : Desc) → IsSpelledDesc q d → Named q d
desc_named q (desc.Var m t) h = (name_fits q.«module» h.shape.0.0.0.0, name_fits q.object h.shape.0.0.1)
desc_named q (desc.Proc s) h = (name_fits q.«module» h.shape.0.0.0, name_fits q.object h.shape.0.1)
desc_named q (desc.Const v) h = tt
desc_named q (desc.Alias m t) h = tt
desc_named q (desc.Array m n t) h = tt
desc_named q (desc.OpenArray m t) h = tt
desc_named q (desc.Pointer m t) h = tt
desc_named q (desc.ProcType m s) h = tt
desc_named q (desc.Record r) h = tt

blank_named : (q : QName) (d : Desc) → Named q d → Named q (blank d)
blank_named q (desc.Var m t) h = h
blank_named q (desc.Proc s) h = h
blank_named q (desc.Const v) h = tt
blank_named q (desc.Alias m t) h = tt
blank_named q (desc.Array m n t) h = tt
blank_named q (desc.OpenArray m t) h = tt
blank_named q (desc.Pointer m t) h = tt
blank_named q (desc.ProcType m s) h = tt
blank_named q (desc.Record r) h = tt

pub shown_named : (fs : List (Face Text)) → AllByRecursion IsSpelled fs → (q : QName) (d : Desc) → shown fs q ≡ Some d → Named q d
shown_named fs h q d e = go (described fs q) refl e
  where
    go : (o : Option Desc) → described fs q ≡ o → option_map blank o ≡ Some d → Named q d
    go None i e = absurd cc
    go (Some x) i e = let same : blank x ≡ d = cc in subst (Named q) same (blank_named q x (desc_named q x (described_spelled fs h q x i).spelled))
