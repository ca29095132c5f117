-- Objects that carry the prints of their texts.
use Rattle.std.specs.Prelude.{◌≡◌, ℕ, List}
use Rattle.std.specs.Option.{option_map}
use Rattle.std.specs.List.{AllByRecursion}
use Rattle.ob_types.specs.declared.face.Object.{Object}
use Rattle.ob_types.specs.declared.face.Interface.{Interface}
use Rattle.ob_desc.specs.Grammar.{shape_text, layout_text}
use Rattle.ob_fprint.specs.Print.{print_from}
use Rattle.ob_sym.specs.Grammar.{object_of}

pub record HasPrints (m : List ℕ) (o : Object) : Type 0 where
  pub shape : o.shape ≡ print_from (shape_text (object_of m o.name) o.desc)
  pub layout : o.layout ≡ option_map print_from (layout_text (object_of m o.name) o.desc)

abbrev pub AllHavePrints : Interface → Type 0
AllHavePrints i = AllByRecursion (λ o. HasPrints i.«module» o) i.objects
