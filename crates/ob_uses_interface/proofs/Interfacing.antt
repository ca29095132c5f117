-- An interface by its parts.
use Rattle.std.proofs.Common.{◌≡◌, ℕ, List, [], ◌∷◌, map, refl, ap, ◌∙◌}
use Rattle.ob_types.specs.declared.face.Object.{Object}
use Rattle.ob_types.specs.declared.face.Use.{Use}
use Rattle.ob_types.specs.declared.face.Interface.{Interface}
use Rattle.ob_env.specs.Faces.{wanted_of, use_of}

pub uses_back : (us : List Use) → map use_of (map wanted_of us) ≡ us
uses_back [] = refl
uses_back (u ∷ us) = ap (λ l. u ∷ l) (uses_back us)

abbrev pub made : List ℕ → List (List ℕ) → List Object → List Use → Interface
made m i o u = record { «module» = m; imports = i; objects = o; uses = u }

pub interface_is : (m : List ℕ) (i i' : List (List ℕ)) (o o' : List Object) (u u' : List Use) → i ≡ i' → o ≡ o' → u ≡ u' → made m i o u ≡ made m i' o' u'
interface_is m i i' o o' u u' e f g = ap (λ x. made m x o u) e ∙ ap (λ x. made m i' x u) f ∙ ap (λ x. made m i' o' x) g
