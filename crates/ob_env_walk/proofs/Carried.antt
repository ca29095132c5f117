-- Interfaces that are read carry the prints of their objects' texts.
use Rattle.std.proofs.Common.{List, [], ◌∷◌, ◌++◌}
use Rattle.std.specs.List.{AllByRecursion}
use Rattle.ob_types.specs.declared.face.Interface.{Interface}
use Rattle.ob_format.specs.Format.{list_of}
use Rattle.ob_sym.specs.Grammar.{face as face_form, body, object_in}
use Rattle.ob_env.specs.Found.{CarryPrints}
use Rattle.ob_env_walk.specs.Walking.{CarriesAll}

pub read_carries : (f : Interface) → face_form.fits f → CarriesAll f
unfolding face_form body object_in list_of
read_carries f fits = fits.0.1.0.0.1

all_and_one : {X : Type 0} (P : X → Type 0) (xs : List X) (x : X) → AllByRecursion P xs → P x → AllByRecursion P (xs ++ x ∷ [])
all_and_one P [] x all p = (p, tt)
all_and_one P (y ∷ ys) x all p = (all.0, all_and_one P ys x all.1 p)

pub one_more_carries : (left : List Interface) (face : Interface) → CarryPrints left → CarriesAll face → CarryPrints (left ++ face ∷ [])
one_more_carries left face all p = all_and_one CarriesAll left face all p
