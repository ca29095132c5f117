-- Places of fields and numbers of bound procedures, as the layout has them.
use Rattle.std.proofs.Common.{◌≡◌, ℕ, List, Option, unwrap_or, refl}
use Rattle.ob_tree.specs.declared.names.QName.{QName}
use Rattle.ob_types.specs.declared.desc.Desc.{Desc}
use Rattle.ob_layout.specs.Members.{field_place_in, method_number_in}
use Rattle.ob_scheme.specs.Descriptions.{field_place, method_number}

pub field_place_is : (types : QName → Option Desc) (owner : QName) (x : List ℕ) → field_place types owner x ≡ unwrap_or (field_place_in types owner x) 0
unfolding field_place
field_place_is types owner x = refl

pub method_number_is : (types : QName → Option Desc) (owner : QName) (x : List ℕ) → method_number types owner x ≡ unwrap_or (method_number_in types owner x) 0
unfolding method_number
method_number_is types owner x = refl
