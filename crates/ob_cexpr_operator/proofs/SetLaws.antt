-- A set that is no constant, one element further.
use Rattle.std.proofs.Common.{◌≡◌, refl, sym, ap, ◌∙◌, List, [], ◌∷◌, ◌++◌}
use Rattle.ob_types.specs.declared.typed.TypedExpr.{TypedExpr}
use Rattle.ob_types.specs.declared.typed.TypedExpr.TheVariants as e
use Rattle.ob_types.specs.declared.typed.Binary.TheVariants as binary
use Rattle.ob_rules.specs.declared.meant.ElementOf.{ElementOf}
use Rattle.ob_rules.specs.Operators.{union_of}

pub union_behind : (acc : TypedExpr) (xs : List ElementOf) (x : ElementOf) → e.Binary binary.Union (union_of acc xs) x.node.inner x.at ≡ union_of acc (xs ++ x ∷ [])
union_behind acc [] x = refl
union_behind acc (y ∷ ys) x = union_behind (e.Binary binary.Union acc y.node.inner y.at) ys x
