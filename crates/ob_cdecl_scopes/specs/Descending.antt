-- Known names whose scopes fall, the latest first.
use Rattle.std.specs.Prelude.{ℕ, Bool, true, false, ◌&&◌, nat_le, nat_eq, if◌then◌else◌, Option, Some, None, List, [], ◌∷◌}
use Rattle.ob_tree.specs.declared.ident.Mark.TheVariants as mark
use Rattle.ob_types.specs.declared.types.Basic.TheVariants as basic
use Rattle.ob_types.specs.declared.types.TypeRef.TheVariants as ref
use Rattle.ob_types.specs.declared.desc.Desc.{Desc}
use Rattle.ob_types.specs.declared.desc.Desc.TheVariants as desc
use Rattle.ob_rules.specs.declared.entity.Known.{Known}

-- the type of the parameter of Out.String
abbrev pub text_type : Desc
text_type = desc.OpenArray mark.Hidden (ref.Basic basic.Char)

-- none is of a scope above n, nor above that of the one before it
abbrev pub are_within : ℕ → List Known → Bool
are_within n [] = true
are_within n (k ∷ ks) = nat_le k.scope n && are_within k.scope ks

abbrev pub is_scope : Option ℕ → ℕ → Bool
is_scope None n = false
is_scope (Some m) n = nat_eq m n

abbrev pub is_scope_from : Option ℕ → ℕ → Bool
is_scope_from None n = false
is_scope_from (Some m) n = nat_le n m

-- all are of the scope n
abbrev pub are_of : ℕ → List Known → Bool
are_of n [] = true
are_of n (k ∷ ks) = nat_eq k.scope n && are_of n ks

-- the latest name, where it is of the scope n, and the others
abbrev pub inner_first : ℕ → List Known → Option Known
inner_first n [] = None
inner_first n (k ∷ ks) = if nat_eq k.scope n then Some k else None

abbrev pub inner_rest : ℕ → List Known → List Known
inner_rest n [] = []
inner_rest n (k ∷ ks) = if nat_eq k.scope n then ks else k ∷ ks

abbrev pub is_inner : ℕ → List Known → Bool
is_inner n [] = false
is_inner n (k ∷ ks) = nat_eq k.scope n
