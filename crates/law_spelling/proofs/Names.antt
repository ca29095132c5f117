-- Identifiers are names of objects, and names in interfaces that have a spelling have one.
use Rattle.std.proofs.Common.{◌≡◌, ℕ, ◌<◌, ◌≤◌, ◌^◌, Bool, true, false, cond, List, [], ◌∷◌, length, map, Option, Some, None, refl, sym, subst, arith}
use Rattle.std.specs.Prelude.{nat_le, bytes_eq}
use Rattle.std.specs.List.{list_all, AllByRecursion}
use Rattle.std.specs.Char.{is_ascii_alphanumeric}
use Rattle.std.proofs.lemmas.Bool.{and_parts, leb-true}
use Rattle.ob_tree.specs.declared.names.QName.{QName}
use Rattle.ob_types.specs.declared.desc.Desc.{Desc}
use Rattle.ob_format.specs.Format.{list_of, text16, ◌>>=◌}
use Rattle.ob_format.specs.Names.{is_letters, is_object_byte, is_object, name, object_name}
use Rattle.ob_sym.specs.Grammar.{face as face_form, head, body, object_in}
use Rattle.ob_env.specs.Faces.{Face, object_named, face_named, described, object_of}
use Rattle.law_spelling.specs.Trees.{IsNamed}
use Rattle.law_spelling.specs.Laws.{Text, IsSpelled}
use Rattle.law_lists.proofs.Lists.{both_true, or_first, same_bytes}

all_bytes : (cs : List ℕ) → list_all is_ascii_alphanumeric cs ≡ true → list_all is_object_byte cs ≡ true
all_bytes [] e = refl
all_bytes (c ∷ cs) e =
    let p = and_parts (is_ascii_alphanumeric c) (list_all is_ascii_alphanumeric cs) e in
    both_true (is_object_byte c) (list_all is_object_byte cs) (or_first (is_ascii_alphanumeric c) _ p.0) (all_bytes cs p.1)

letters_object : (t : List ℕ) → is_letters t ≡ true → is_object t ≡ true
letters_object [] e = e
letters_object (c ∷ cs) e =
    let p = and_parts _ (list_all is_ascii_alphanumeric cs) e in
    both_true _ (list_all is_object_byte cs) p.0 (all_bytes cs p.1)

pub named_object : (t : List ℕ) → IsNamed t → is_object t ≡ true
named_object t e = letters_object t (and_parts (is_letters t) (nat_le (length t) 64) e).0

pub named_short : (t : List ℕ) → IsNamed t → length t < 2 ^ 16
named_short t e = let n : length t ≤ 64 = leb-true (length t) 64 (and_parts (is_letters t) (nat_le (length t) 64) e).1 in omega (arith, n)

pub name_fits : (t : List ℕ) → IsNamed t → name.fits t
unfolding name text16
name_fits t e = (named_short t e, e)

pub object_fits : (t : List ℕ) → IsNamed t → object_name.fits t
unfolding object_name text16
object_fits t e = (named_short t e, named_object t e)

pub is_object_of : (t : List ℕ) → object_name.fits t → is_object t ≡ true
unfolding object_name
is_object_of t h = h.1

pub is_named_of : (t : List ℕ) → name.fits t → IsNamed t
unfolding name
is_named_of t h = h.1

-- ---- interfaces

pub record QNameFits (q : QName) : Type 0 where
  pub «module» : name.fits q.«module»
  pub object : object_name.fits q.object

pub face_module : (f : Face Text) → IsSpelled f → name.fits f.«module»
unfolding face_form head
face_module f h = h.0.0.0

abbrev objects_fit : (m : List ℕ) (os : List (List ℕ × Desc)) → AllByRecursion (object_in m).fits (map (object_of m) os) → AllByRecursion (λ o. object_name.fits o.0) os
unfolding object_in
objects_fit m [] h = tt
objects_fit m (o ∷ os) h = (h.0.within.0, objects_fit m os h.1)

pub face_objects : (f : Face Text) → IsSpelled f → AllByRecursion (λ o. object_name.fits o.0) f.objects
unfolding face_form head body list_of
face_objects f h = objects_fit f.«module» f.objects h.0.1.0.0.1

object_found : (os : List (List ℕ × Desc)) → AllByRecursion (λ o. object_name.fits o.0) os → (x : List ℕ) (d : Desc) → object_named os x ≡ Some d → object_name.fits x
object_found [] h x d e = absurd cc
object_found (o ∷ os) h x d e = go (bytes_eq x o.0) refl e (object_found os h.1 x d)
  where
    go : (b : Bool) → bytes_eq x o.0 ≡ b → cond b (Some o.1) (object_named os x) ≡ Some d → (object_named os x ≡ Some d → object_name.fits x) → object_name.fits x
    go true f i rest = subst object_name.fits (sym (same_bytes x o.0 f)) h.0
    go false f i rest = rest i

pub record FaceFound (m : List ℕ) (f : Face Text) : Type 0 where
  pub spelled : IsSpelled f
  pub name_is : m ≡ f.«module»

pub face_found : (fs : List (Face Text)) → AllByRecursion IsSpelled fs → (m : List ℕ) (f : Face Text) → face_named fs m ≡ Some f → FaceFound m f
face_found [] h m f e = absurd cc
face_found (g ∷ gs) h m f e = go (bytes_eq m g.«module») refl e (face_found gs h.1 m f)
  where
    go : (b : Bool) → bytes_eq m g.«module» ≡ b → cond b (Some g) (face_named gs m) ≡ Some f → (face_named gs m ≡ Some f → FaceFound m f) → FaceFound m f
    go true i e rest = let same : g ≡ f = cc in subst (FaceFound m) same (record { spelled = h.0; name_is = same_bytes m g.«module» i })
    go false i e rest = rest e

-- what interfaces describe has names that have a spelling
pub described_fits : (fs : List (Face Text)) → AllByRecursion IsSpelled fs → (q : QName) (d : Desc) → described fs q ≡ Some d → QNameFits q
described_fits fs h q d e = go (face_named fs q.«module») refl e
  where
    go : (o : Option (Face Text)) → face_named fs q.«module» ≡ o → (o >>= λ f. object_named f.objects q.object) ≡ Some d → QNameFits q
    go None i e = absurd cc
    go (Some f) i e =
        let k = face_found fs h q.«module» f i in
        record { «module» = subst name.fits (sym k.name_is) (face_module f k.spelled); object = object_found f.objects (face_objects f k.spelled) q.object d e }
