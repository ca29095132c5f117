-- NEW of a pointer, by its place and what it points to.
use Rattle.std.proofs.Common.{◌≡◌, Option, Some, sym, subst}
use Rattle.ob_tree.specs.declared.pos.Pos.{Pos}
use Rattle.ob_types.specs.declared.types.TypeRef.{TypeRef}
use Rattle.ob_rules.specs.declared.values.Place.{Place}
use Rattle.ob_rules.specs.declared.meant.Meant.{Meant}
use Rattle.ob_rules.specs.Judged.{Judged}
use Rattle.ob_rules.specs.Operators.{and_so}
use Rattle.ob_rules.specs.Shapes.{Map, pointed, is_held, record_of, array_of}
use Rattle.ob_rules.specs.Predeclared.{if_fit, if_held, new_fixed}

abbrev pub new_of : Map → Pos → Place → TypeRef → Option (Judged Meant)
new_of map at p b = if_held (is_held map b) (new_fixed (record_of map b) (array_of map b) p b at)

-- what holds of the place that there is, and of its base, holds of NEW
pub of_place : (map : Map) (at : Pos) (P : Judged Meant → Type 0) (o : Option Place) (p : Place) (base : Option TypeRef) → o ≡ Some p → base ≡ pointed map p.of → P (if_fit at (and_so base (λ b. new_of map at p b))) → P (if_fit at (and_so o (λ q. and_so (pointed map q.of) (λ b. new_of map at q b))))
of_place map at P o p base e f h =
    subst (λ (x : Option Place). P (if_fit at (and_so x (λ q. and_so (pointed map q.of) (λ b. new_of map at q b))))) (sym e)
    (subst (λ (x : Option TypeRef). P (if_fit at (and_so x (λ b. new_of map at p b)))) f h)
