-- Objects that do not fit.
use Rattle.std.proofs.Common.{◌≡◌, ℕ, List, [], ◌∷◌, Option, Some, None, refl, sym, ap, ◌∙◌}
use Rattle.std.specs.Prelude.{map}
use Rattle.std.specs.Option.{option_map}
use Rattle.ob_types.specs.declared.face.Object.{Object}
use Rattle.ob_types.specs.declared.face.Interface.{Interface}
use Rattle.ob_layout.specs.Lists.{or_else}
use Rattle.ob_env.specs.declared.fault.EnvFault.TheVariants as fault
use Rattle.ob_env.specs.Faces.{face_of}
use Rattle.ob_env.specs.Stale.{first_among}
use Rattle.ob_env.specs.Fit.{misfit, steps_of}
use Rattle.ob_env.specs.Mapped.{map_of}
use Rattle.ob_env.specs.Faces.{faces_of}
use Rattle.ob_env.specs.Building.{object_answer, objects_answer, unfit_answer}

mapped_else : {A B : Type 0} (g : A → B) (o p : Option A) → option_map g (or_else o p) ≡ or_else (option_map g o) (option_map g p)
mapped_else g None p = refl
mapped_else g (Some a) p = refl

objects_unfit : (is : List Interface) (steps : ℕ) (m : List ℕ) (os : List Object) → option_map fault.Unfit (first_among (misfit (map_of is) steps m) (map (λ o. (o.name, o.desc)) os)) ≡ first_among (object_answer is steps m) os
objects_unfit is steps m [] = refl
objects_unfit is steps m (o ∷ os) = mapped_else fault.Unfit (misfit (map_of is) steps m (o.name, o.desc)) (first_among (misfit (map_of is) steps m) (map (λ o. (o.name, o.desc)) os)) ∙ ap (or_else (object_answer is steps m o)) (objects_unfit is steps m os)

pub faces_unfit : (is js : List Interface) (steps : ℕ) → option_map fault.Unfit (first_among (λ f. first_among (misfit (map_of is) steps f.«module») f.objects) (map face_of js)) ≡ first_among (objects_answer is steps) js
faces_unfit is [] steps = refl
faces_unfit is (j ∷ js) steps =
    mapped_else fault.Unfit (first_among (misfit (map_of is) steps j.«module») (map (λ o. (o.name, o.desc)) j.objects)) (first_among (λ f. first_among (misfit (map_of is) steps f.«module») f.objects) (map face_of js))
    ∙ ap (λ o. or_else o (option_map fault.Unfit (first_among (λ f. first_among (misfit (map_of is) steps f.«module») f.objects) (map face_of js)))) (objects_unfit is steps j.«module» j.objects)
    ∙ ap (or_else (objects_answer is steps j)) (faces_unfit is js steps)

pub unfit_is : (is faces : List Interface) (steps : ℕ) → faces ≡ is → steps ≡ steps_of (faces_of is) → first_among (objects_answer is steps) faces ≡ unfit_answer is
unfit_is is faces steps same e = ap (first_among (objects_answer is steps)) same ∙ ap (λ n. first_among (objects_answer is n) is) e ∙ sym (faces_unfit is is (steps_of (faces_of is)))
