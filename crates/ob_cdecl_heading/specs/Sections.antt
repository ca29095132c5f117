-- What is around the parameters of a heading, and the latest of a name in a scope.
use Rattle.std.specs.Prelude.{ℕ, Bool, true, false, nat_eq, List, Option, Some, None, if◌then◌else◌}
use Rattle.ob_tree.specs.declared.decl.Heading.{Heading}
use Rattle.ob_rules.specs.declared.entity.Known.{Known}
use Rattle.ob_rules.specs.Names.{Around}
use Rattle.ob_rules.specs.Types.{Sections, parameters_in, inner, written_parameters}
use Rattle.ob_rules.specs.Headings.{BoundAs, Head, anew, knows_receiver, head_twice, bound_before}

-- the parameters of a heading, with its receiver known before them
abbrev pub sections_as : Around → Heading → Option (Option BoundAs) → List ℕ → Sections
sections_as u h b name = parameters_in (knows_receiver (inner u) h.receiver b) name (written_parameters h.parameters)

-- where no other declaration of the name has made their types
abbrev pub sections_of : Around → Heading → Option (Option BoundAs) → List ℕ → Sections
sections_of u h b name = anew u h.name.ident.«pos» (sections_as u h b name)

-- what is around behind them
abbrev pub around_inside : Around → Heading → Option (Option BoundAs) → List ℕ → Around
around_inside u h b name = record (knows_receiver (inner u) h.receiver b) { known = (sections_of u h b name).known }

abbrev pub if_of : Bool → Known → Option Known
if_of true k = Some k
if_of false k = None

-- the latest of a name, where it is of the scope
abbrev pub latest_in : ℕ → Option Known → Option Known
latest_in n None = None
latest_in n (Some k) = if_of (nat_eq k.scope n) k

abbrev pub bound_twice : List Head → Bool → Option BoundAs → List ℕ → Bool
bound_twice hs forward None x = false
bound_twice hs forward (Some b) x = head_twice forward (bound_before hs b.owner x)
