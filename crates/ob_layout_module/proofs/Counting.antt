-- The bound procedures of a name, by the steps that are left.
use Rattle.std.proofs.Common.{◌≡◌, ℕ, zero, suc, ◌-◌, ◌<◌, Bool, true, false, Option, Some, None, sym, ap, ◌∙◌, arith}
use Rattle.ob_tree.specs.declared.names.QName.{QName}
use Rattle.ob_types.specs.declared.types.TypeRef.{TypeRef}
use Rattle.ob_types.specs.declared.types.TypeRef.TheVariants as ref
use Rattle.ob_types.specs.declared.desc.Desc.{Desc}
use Rattle.ob_types.specs.TypedSyntax.{Module}
use Rattle.ob_layout.specs.LaidOut.{counted, declared_procedures, is_own, viewed}
use Rattle.ob_layout_module.proofs.Rows.{count_other}

pub count_next : (map : QName → Option Desc) (m : Module) (s : ℕ) (t : TypeRef) → 0 < s → counted map m (suc (s - 1)) t ≡ counted map m s t
count_next map m s t l = let e : suc (s - 1) ≡ s = omega (arith, l) in ap (λ (n : ℕ). counted map m n t) e

pub other_some : (map : QName → Option Desc) (m : Module) (n : ℕ) (q : QName) (d : Desc) → is_own m q ≡ false → Some d ≡ viewed map m q → declared_procedures (counted map m n) false (Some d) ≡ counted map m (suc n) (ref.Named q)
other_some map m n q d own e = count_other map m n q (Some d) own e

pub other_none : (map : QName → Option Desc) (m : Module) (n : ℕ) (q : QName) → is_own m q ≡ false → None ≡ viewed map m q → 0 ≡ counted map m (suc n) (ref.Named q)
other_none map m n q own e = count_other map m n q None own e
