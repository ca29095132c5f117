-- What a type stands for, by at most so many steps.
use Rattle.std.proofs.Common.{◌≡◌, ℕ, zero, suc, ◌<◌, ◌≤◌, ◌+◌, ◌-◌, Option, Some, None, refl, sym, ap, ◌∙◌, arith}
use Rattle.ob_tree.specs.declared.names.QName.{QName}
use Rattle.ob_types.specs.declared.types.TypeRef.{TypeRef}
use Rattle.ob_types.specs.declared.desc.Desc.{Desc}
use Rattle.ob_types.specs.Tests.{alias_of, follow, target}

pub stays : (map : QName → Option Desc) (n : ℕ) (t : TypeRef) → alias_of map t ≡ None → target map n t ≡ t
unfolding target
stays map zero t e = refl
stays map (suc n) t e = ap (λ (o : Option TypeRef). follow o t (λ u. target map n u)) e

pub goes : (map : QName → Option Desc) (n i : ℕ) (t u : TypeRef) (w : TypeRef) → i < n → alias_of map t ≡ Some u → target map (n - i) t ≡ w → target map (n - (i + 1)) u ≡ w
unfolding target
goes map n i t u w lt e so_far =
    let k : n - i ≡ suc (n - (i + 1)) = omega arith in
    let one : target map (n - i) t ≡ target map (n - (i + 1)) u = ap (λ (n : ℕ). target map n t) k ∙ ap (λ (o : Option TypeRef). follow o t (λ v. target map (n - (i + 1)) v)) e in
    sym one ∙ so_far

pub ends : (map : QName → Option Desc) (n i : ℕ) (t w : TypeRef) → n ≤ i → target map (n - i) t ≡ w → t ≡ w
unfolding target
ends map n i t w le so_far =
    let k : n - i ≡ 0 = omega arith in
    let one : target map (n - i) t ≡ t = rw k refl in
    sym one ∙ so_far
