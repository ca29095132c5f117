-- Types that are there already, one by one.
use Rattle.std.proofs.Common.{◌≡◌, Bool, true, false, List, ◌∷◌, sym, ap, ◌∙◌}
use Rattle.std.specs.Prelude.{◌||◌, bytes_eq, is_some}
use Rattle.std.specs.List.{find}
use Rattle.ob_types.specs.declared.typed.TypedType.{TypedType}
use Rattle.ob_rules.specs.Names.{Around}
use Rattle.ob_rules.specs.Headings.{are_there}

-- the next of them is
pub there_now : (u : Around) (t : TypedType) (more rest all : List TypedType) (b : Bool) → rest ≡ t ∷ more → b ≡ is_some (find (λ k. bytes_eq k.name t.name) u.own) → b ≡ true → are_there u all ≡ are_there u rest → true ≡ are_there u all
there_now u t more rest all b step is so inv =
    sym (inv ∙ ap (are_there u) step ∙ ap (λ c. c || are_there u more) (sym is ∙ so))

-- the next of them is not
pub there_later : (u : Around) (t : TypedType) (more rest all : List TypedType) (b : Bool) → rest ≡ t ∷ more → b ≡ is_some (find (λ k. bytes_eq k.name t.name) u.own) → b ≡ false → are_there u all ≡ are_there u rest → are_there u all ≡ are_there u more
there_later u t more rest all b step is no_more inv =
    inv ∙ ap (are_there u) step ∙ ap (λ c. c || are_there u more) (sym is ∙ no_more)
