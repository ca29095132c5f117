-- Builds that are loaded together show the bases of the pointers that they show: what they show is closed, and none of it is of one behind them.
use Rattle.std.proofs.Common.{◌≡◌, true, List, [], ◌∷◌, ◌++◌, map as each, Option, Some, None, refl, sym, subst, append_assoc}
use Rattle.std.specs.Prelude.{bytes_eq, IsSome, Contains}
use Rattle.std.specs.Option.{option_map}
use Rattle.ob_tree.specs.declared.names.QName.{QName}
use Rattle.ob_types.specs.declared.desc.Desc.{Desc}
use Rattle.law_simulation_relation.proofs.Names.{bytes_true}
use Rattle.ob_env.specs.Faces.{described}
use Rattle.ob_env.specs.Shown.{blank, shown}
use Rattle.law_acyclic.proofs.Stand.{bases_shown}
use Rattle.ob_builds.specs.Builds.{Build, shows_of, name_of}
use Rattle.ob_builds.specs.Afresh.{AreTogether}
use Rattle.law_builds_types.specs.pointed_laws.Pointed.{LoadedBases}
use Rattle.law_builds_types.proofs.closed_laws.Found.{named_among}
use Rattle.law_builds_types.proofs.closed_laws.Loaded.{append_none, loaded_closed}

abbrev IsNew : List Build → Build → Type 0
IsNew before b = Contains (each name_of before) (name_of b) → ⊥

-- no other has the name of one behind them
new_at : (done before : List Build) (b : Build) (after : List Build) → AreTogether done (before ++ b ∷ after) → IsNew (done ++ before) b
new_at done [] b after h = subst (λ xs. IsNew xs b) (sym (append_none done)) h.0.new
new_at done (x ∷ xs) b after h = subst (λ ys. IsNew ys b) (append_assoc done (x ∷ []) xs) (new_at (done ++ x ∷ []) xs b after h.1)

-- so none of its types is shown
none_shown : (before : List Build) (b : Build) → IsNew before b → (q : QName) → bytes_eq q.«module» (name_of b) ≡ true → shown (each shows_of before) q ≡ None
none_shown before b new q e = by (described (each shows_of before) q) refl
  where
    by : (o : Option Desc) → described (each shows_of before) q ≡ o → option_map blank o ≡ None
    by None f = refl
    by (Some d) f = absurd (new (subst (Contains (each name_of before)) (bytes_true q.«module» (name_of b) e) (named_among before q (subst IsSome (sym f) refl))))

pub loaded_bases : LoadedBases
loaded_bases written ruled before b after l = bases_shown (shown (each shows_of before)) (name_of b) ((loaded_closed written ruled).front before b after l) (none_shown before b (new_at [] before b after l.together))
