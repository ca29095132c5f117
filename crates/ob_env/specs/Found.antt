-- What is found of a name in a list of interfaces.
use Rattle.std.specs.Prelude.{ℕ, List, map as each, Option, Some, slice_get}
use Rattle.std.specs.List.{AllByRecursion}
use Rattle.ob_format.specs.Format.{◌>>=◌}
use Rattle.ob_sym.specs.Grammar.{IsObjectOf}
use Rattle.ob_layout.specs.Index.{first_by, position_from}
use Rattle.ob_tree.specs.declared.names.QName.{QName}
use Rattle.ob_tree.specs.declared.print.Print.{Print}
use Rattle.ob_types.specs.declared.face.Aspect.{Aspect}
use Rattle.ob_types.specs.declared.face.Aspect.TheVariants as aspect
use Rattle.ob_types.specs.declared.face.Object.{Object}
use Rattle.ob_types.specs.declared.face.Interface.{Interface}

abbrev pub object_by_name : List Object → List ℕ → Option Object
object_by_name os x = first_by (λ o. o.name) os x

abbrev pub interface_by_name : List Interface → List ℕ → Option Interface
interface_by_name is m = first_by (λ i. i.«module») is m

-- the object of a name in the interface at a position
abbrev pub object_placed : List Interface → ℕ → List ℕ → Option Object
object_placed is at x = slice_get is at >>= λ i. object_by_name i.objects x

-- THE OBJECT of a name
abbrev pub object_found : List Interface → QName → Option Object
object_found is q = interface_by_name is q.«module» >>= λ i. object_by_name i.objects q.object

-- the print that an object carries
abbrev pub carried_print : Object → Aspect → Option Print
carried_print o aspect.Shape = Some o.shape
carried_print o aspect.Layout = o.layout

abbrev pub module_names : List Interface → List (List ℕ)
module_names is = each (λ i. i.«module») is

abbrev pub object_names : List Object → List (List ℕ)
object_names os = each (λ o. o.name) os

-- each object carries the prints of its texts
abbrev pub CarryPrints : List Interface → Type 0
CarryPrints is = AllByRecursion (λ i. AllByRecursion (λ o. IsObjectOf i.«module» o) i.objects) is

-- where a name stands in the interface at a position
abbrev pub place_in : List Interface → ℕ → List ℕ → Option ℕ
place_in is k x = slice_get is k >>= λ i. position_from 0 x (object_names i.objects)

-- where a name stands: the position of its module, and its own
abbrev pub place_of : List Interface → QName → Option (ℕ × ℕ)
place_of is q = position_from 0 q.«module» (module_names is) >>= λ k. place_in is k q.object >>= λ j. Some (k, j)
