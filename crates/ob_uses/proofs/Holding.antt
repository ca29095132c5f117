-- The view from a module holds its own types and the objects of the walk.
use Rattle.std.proofs.Common.{◌≡◌, ℕ, ◌+◌, Bool, true, false, cond, ◌&&◌, List, [], ◌∷◌, ◌++◌, length, map, Option, Some, None, refl, sym, ap, subst, ◌∙◌, arith}
use Rattle.std.specs.Prelude.{◌⊎◌, bytes_eq}
use Rattle.std.specs.List.{flat_map}
use Rattle.std.proofs.lemmas.List.{length-append}
use Rattle.ob_format.specs.Format.{◌>>=◌}
use Rattle.ob_tree.specs.declared.names.QName.{QName}
use Rattle.ob_tree.specs.declared.print.Print.{Print}
use Rattle.ob_types.specs.declared.desc.Desc.{Desc}
use Rattle.ob_types.specs.TypedSyntax.{Module}
use Rattle.ob_desc.specs.Grammar.{same_object}
use Rattle.ob_layout.specs.LaidOut.{type_named, is_own, viewed}
use Rattle.ob_env.specs.Faces.{Face, object_named, face_named, described}
use Rattle.ob_env.specs.Fit.{count_of}
use Rattle.ob_uses_roots.specs.Counts.{own_name}
use Rattle.ob_uses.specs.Closed.{is_among}
use Rattle.ob_uses.specs.Held.{names_in, held_names}
use Rattle.ob_uses.proofs.Searching.{in_front, in_back, left_of, right_of}
use Rattle.ob_uses.proofs.Objecting.{both_true, full_name, named_there, length_each}
use mathlib.Core.Logic.{inl, inr}

object_step : (q : QName) (n : List ℕ) (o : List ℕ × Desc) (os : List (List ℕ × Desc)) (b : Bool) → bytes_eq q.object o.0 ≡ b → bytes_eq q.«module» n ≡ true → ((d : Desc) → object_named os q.object ≡ Some d → is_among (map (λ o. record { «module» = n; object = o.0 }) os) q ≡ true) → (d : Desc) → cond b (Some o.1) (object_named os q.object) ≡ Some d → is_among (map (λ o. record { «module» = n; object = o.0 }) (o ∷ os)) q ≡ true
object_step q n o os true is m g d e = left_of (same_object q (record { «module» = n; object = o.0 })) (is_among (map (λ o. record { «module» = n; object = o.0 }) os) q) (both_true (bytes_eq q.«module» n) (bytes_eq q.object o.0) m is)
object_step q n o os false is m g d e = right_of (same_object q (record { «module» = n; object = o.0 })) (is_among (map (λ o. record { «module» = n; object = o.0 }) os) q) (g d e)

object_there : (q : QName) (n : List ℕ) (os : List (List ℕ × Desc)) → bytes_eq q.«module» n ≡ true → (d : Desc) → object_named os q.object ≡ Some d → is_among (map (λ o. record { «module» = n; object = o.0 }) os) q ≡ true
object_there q n [] m d e = absurd cc
object_there q n (o ∷ os) m d e = object_step q n o os (bytes_eq q.object o.0) refl m (object_there q n os m) d e

face_step : (q : QName) (f : Face Print) (fs : List (Face Print)) (b : Bool) → bytes_eq q.«module» f.«module» ≡ b → ((d : Desc) → described fs q ≡ Some d → is_among (flat_map names_in fs) q ≡ true) → (d : Desc) → (cond b (Some f) (face_named fs q.«module») >>= λ g. object_named g.objects q.object) ≡ Some d → is_among (names_in f ++ flat_map names_in fs) q ≡ true
face_step q f fs true is g d e = in_front (names_in f) (flat_map names_in fs) q (object_there q f.«module» f.objects is d e)
face_step q f fs false is g d e = in_back (names_in f) (flat_map names_in fs) q (g d e)

described_there : (q : QName) (fs : List (Face Print)) (d : Desc) → described fs q ≡ Some d → is_among (flat_map names_in fs) q ≡ true
described_there q [] d e = absurd cc
described_there q (f ∷ fs) d e = face_step q f fs (bytes_eq q.«module» f.«module») refl (described_there q fs) d e

known_or : (o : Option Desc) (b : Bool) → ((d : Desc) → o ≡ Some d → b ≡ true) → (o ≡ None) ⊎ (b ≡ true)
known_or None b f = inl refl
known_or (Some d) b f = inr (f d refl)

held_by : (m : Module) (faces : List (Face Print)) (q : QName) (b : Bool) → is_own m q ≡ b → (cond b (type_named m.types q.object) (described faces q) ≡ None) ⊎ (is_among (held_names faces m) q ≡ true)
held_by m faces q true own = known_or (type_named m.types q.object) (is_among (held_names faces m) q) (λ d e. in_front (map (own_name m) m.types) (flat_map names_in faces) q (subst (λ (p : QName). is_among (map (own_name m) m.types) p ≡ true) (sym (full_name m q own)) (named_there m q.object m.types d e)))
held_by m faces q false own = known_or (described faces q) (is_among (held_names faces m) q) (λ d e. in_back (map (own_name m) m.types) (flat_map names_in faces) q (described_there q faces d e))

objects_length : (faces : List (Face Print)) → length (flat_map names_in faces) ≡ count_of faces
objects_length [] = refl
objects_length (f ∷ fs) =
    let a : length (names_in f ++ flat_map names_in fs) ≡ length (names_in f) + length (flat_map names_in fs) = length-append (names_in f) (flat_map names_in fs) in
    let b : length (names_in f) ≡ length f.objects = length_each (λ o. record { «module» = f.«module»; object = o.0 }) f.objects in
    let c = objects_length fs in
    omega (arith, a, b, c)

pub view_held : (faces : List (Face Print)) (m : Module) → ((q : QName) → (viewed (described faces) m q ≡ None) ⊎ (is_among (held_names faces m) q ≡ true)) × (length (held_names faces m) ≡ length m.types + count_of faces)
view_held faces m = (
  λ q. held_by m faces q (is_own m q) refl,
  length-append (map (own_name m) m.types) (flat_map names_in faces) ∙ ap (λ n. n + length (flat_map names_in faces)) (length_each (own_name m) m.types) ∙ ap (λ n. length m.types + n) (objects_length faces),
)
