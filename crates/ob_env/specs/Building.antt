-- What the build of an environment answers.
use Rattle.std.specs.Prelude.{◌≡◌, ℕ, List, Option, Some, None, Result, Ok, Err}
use Rattle.std.specs.Option.{option_map}
use Rattle.ob_tree.specs.declared.print.Print.{Print}
use Rattle.ob_types.specs.declared.face.Interface.{Interface}
use Rattle.ob_types.specs.declared.face.Object.{Object}
use Rattle.ob_types.specs.declared.face.Use.{Use}
use Rattle.ob_env.specs.declared.fault.EnvFault.{EnvFault}
use Rattle.ob_env.specs.declared.fault.EnvFault.TheVariants as fault
use Rattle.ob_env.specs.Faces.{Wanted, wanted_of, print_in}
use Rattle.ob_env.specs.Stale.{Found, AsWanted, IsAbsent, IsChanged, StaleUse, prints_agree, found_as, first_among}
use Rattle.ob_env.specs.Fit.{misfit, first_unfit}
use Rattle.ob_env.specs.Mapped.{map_of}
use Rattle.ob_env.specs.Answer.{Standing, Stands, Stale, Unfit, standing}
use Rattle.ob_env.specs.Faces.{faces_of}

-- the fault of a use, by what it meets
abbrev pub use_fault : List ℕ → Wanted Print → Found Print → Option EnvFault
use_fault client w AsWanted = None
use_fault client w IsAbsent = Some (fault.Absent client w.object)
use_fault client w (IsChanged k) = Some (fault.Changed client w.object w.aspect w.kept k)

abbrev pub stale_fault : StaleUse Print → Option EnvFault
stale_fault u = use_fault u.client u.wanted u.found

abbrev pub fault_of : Standing Print → Option EnvFault
fault_of (Stands faces) = None
fault_of (Stale u) = stale_fault u
fault_of (Unfit q) = Some (fault.Unfit q)

-- It is this fault; want of memory says nothing.
abbrev pub Named : Option EnvFault → EnvFault → Type 0
Named o (fault.Absent client object) = o ≡ Some (fault.Absent client object)
Named o (fault.Changed client object aspect wanted found) = o ≡ Some (fault.Changed client object aspect wanted found)
Named o (fault.Unfit object) = o ≡ Some (fault.Unfit object)
Named o fault.Memory = Unit {0}

-- There is no fault, or it is this one.
abbrev pub Checks : Option EnvFault → Result (Unit {0}) EnvFault → Type 0
Checks o (Ok u) = o ≡ None
Checks o (Err e) = Named o e

-- what the interfaces of a walk come to, by their prints
abbrev pub stands_as : List Interface → Standing Print
stands_as is = standing prints_agree print_in (faces_of is)

-- THE ANSWER: the environment where the interfaces stand, or the first fault
abbrev pub Builds : List Interface → Result (List Interface) EnvFault → Type 0
Builds is (Ok env) = (stands_as is ≡ Stands (faces_of is)) × (env ≡ is)
Builds is (Err e) = Named (fault_of (stands_as is)) e

-- ---- in parts

-- the fault of a use of a client
abbrev pub use_answer : List Interface → List ℕ → Use → Option EnvFault
use_answer is client u = use_fault client (wanted_of u) (found_as prints_agree (print_in (faces_of is)) (wanted_of u))

abbrev pub uses_answer : List Interface → Interface → Option EnvFault
uses_answer is i = first_among (use_answer is i.«module») i.uses

-- the first fault of a use
abbrev pub stale_answer : List Interface → Option EnvFault
stale_answer is = first_among (uses_answer is) is

abbrev pub unfit_answer : List Interface → Option EnvFault
unfit_answer is = option_map fault.Unfit (first_unfit (faces_of is))

-- each use is met, and each object fits
abbrev pub Stand : List Interface → Type 0
Stand is = (stale_answer is ≡ None) × (unfit_answer is ≡ None)

-- the fault of an object that does not fit
abbrev pub object_answer : List Interface → (steps : ℕ) → List ℕ → Object → Option EnvFault
object_answer is steps m o = option_map fault.Unfit (misfit (map_of is) steps m (o.name, o.desc))

abbrev pub objects_answer : List Interface → (steps : ℕ) → Interface → Option EnvFault
objects_answer is steps i = first_among (object_answer is steps i.«module») i.objects
