-- What is reached from types, one from another.
use Rattle.std.specs.Prelude.{ℕ, zero, suc, Bool, true, false, List, [], ◌∷◌, ◌++◌, Option, Some, None}
use Rattle.std.specs.List.{flat_map}
use Rattle.std.specs.Set.{is_member}
use Rattle.ob_tree.specs.declared.names.QName.{QName}
use Rattle.ob_types.specs.declared.desc.Desc.{Desc}
use Rattle.ob_desc.specs.Grammar.{same_object}

abbrev pub is_among : List QName → QName → Bool
is_among seen q = is_member same_object seen q

-- what the description of a name leads to, where it has one
abbrev pub of_found : (Desc → List QName) → Option Desc → List QName
of_found f None = []
of_found f (Some d) = f d

-- a name that is new is seen from now on
abbrev pub new_before : Bool → QName → List QName → List QName
new_before true q more = more
new_before false q more = q ∷ more

-- the names that are not seen yet, each once
abbrev pub unseen : List QName → List QName → List QName
unseen seen [] = []
unseen seen (q ∷ qs) = new_before (is_among seen q) q (unseen (q ∷ seen) qs)

-- ALL NAMES that are reached from the last ones seen, in at most n steps: each step goes to all to which the last ones lead. No
-- more steps are taken than there are names.
abbrev pub reached : (QName → List QName) → ℕ → List QName → List QName → List QName
reached leads zero seen last = seen
reached leads (suc n) seen [] = seen
reached leads (suc n) seen (q ∷ qs) =
    let next : List QName = unseen seen (flat_map leads (q ∷ qs)) in
    reached leads n (seen ++ next) next

abbrev pub reached_from : (QName → List QName) → ℕ → List QName → List QName
reached_from leads n starts =
    let first : List QName = unseen [] starts in
    reached leads n first first
