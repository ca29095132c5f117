-- What is known of the objects of an interface that has a symbol file.
use Rattle.std.proofs.Common.{◌≡◌, ◌≤◌, ℕ, List, [], ◌∷◌, length}
use Rattle.std.specs.List.{AllByRecursion}
use Rattle.ob_format.specs.Format.{list_of}
use Rattle.ob_types.specs.declared.face.Object.{Object}
use Rattle.ob_types.specs.declared.face.Interface.{Interface}
use Rattle.ob_sym.specs.Grammar.{face, head, body, object_in}
use Rattle.ob_cmp.specs.Rising.{AreObjects, IsSpelledIn}

spelled_all : (m : List ℕ) (os : List Object) → AllByRecursion (object_in m).fits os → AllByRecursion (IsSpelledIn m) os
unfolding object_in
spelled_all m [] a = tt
spelled_all m (o ∷ os) a = (a.0.spelled.shape, spelled_all m os a.1)

pub are_objects : (f : Interface) → face.fits f → AreObjects f.«module» f.objects
unfolding face head body list_of
are_objects f h = record { spelled = spelled_all f.«module» f.objects h.0.1.0.0.1; rising = h.0.1.0.1 }

pub few_objects : (f : Interface) → face.fits f → length f.objects ≤ 4096
unfolding face
few_objects f h = h.1.objects
