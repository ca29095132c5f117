-- A module that was found is the module of its own name.
use Rattle.std.proofs.Common.{◌≡◌, Bool, true, false, List, [], ◌∷◌, ℕ, Option, Some, None, refl, sym, subst}
use Rattle.std.specs.Prelude.{if◌then◌else◌, bytes_eq, IfSome}
use Rattle.std.proofs.lemmas.Slice.Eq.{bytes_eq-Decides}
use Rattle.ob_link.specs.Members.{Known, member_named}

same_bytes : (x y : List ℕ) → bytes_eq x y ≡ true → x ≡ y
same_bytes x y e = (bytes_eq-Decides x y).0 e

abbrev HasName : List ℕ → Option Known → Type 0
HasName name None = Unit {0}
HasName name (Some k) = name ≡ k.name

one_of : (b : Bool) (name : List ℕ) (k : Known) (rest : Option Known) → (b ≡ true → name ≡ k.name) → HasName name rest → HasName name (if b then Some k else rest)
one_of true name k rest e h = e refl
one_of false name k rest e h = h

has_name : (name : List ℕ) (ks : List Known) → HasName name (member_named name ks)
has_name name [] = tt
has_name name (k ∷ ks) = one_of (bytes_eq name k.name) name k (member_named name ks) (same_bytes name k.name) (has_name name ks)

by_itself : (name : List ℕ) (ks : List Known) (o : Option Known) → member_named name ks ≡ o → HasName name o → IfSome o (λ k. member_named k.name ks ≡ Some k)
by_itself name ks None e h = tt
by_itself name ks (Some k) e h = subst (λ x. member_named x ks ≡ Some k) h e

pub found_itself : (name : List ℕ) (ks : List Known) (o : Option Known) → o ≡ member_named name ks → IfSome o (λ k. member_named k.name ks ≡ Some k)
found_itself name ks o e = by_itself name ks o (sym e) (subst (HasName name) (sym e) (has_name name ks))
