-- The types that a heading makes are of its parameters, and differ in name.
use Rattle.std.proofs.Common.{◌≡◌, ℕ, Bool, false, List, [], ◌++◌, Option, Some, None, subst, ◌+◌, ◌<◌, ◌^◌}
use Rattle.ob_tree.specs.declared.ident.Mark.{Mark}
use Rattle.ob_rules.specs.Judged.{both}
use Rattle.ob_rules.specs.Names.{Around}
use Rattle.ob_rules.specs.Types.{Parameters, marked, parameters_in, inner}
use Rattle.ob_rules.specs.Headings.{BoundAs, WrittenHeading, heading_of, as_parameters, owner_if, knows_receiver, forward_name, path_by, head_of, anew}
use Rattle.law_names_distinct.proofs.Quiet.{any_quiet, both_quiet, anew_quiet}
use Rattle.law_names_distinct.proofs.Typings.{IsOfSection, ParametersIn, AreGoodSections, names_of, parameters_good}
use Rattle.law_names_distinct.proofs.Written.{written_parameters_good}
use Rattle.law_names_types.specs.Nested.{IsOfParameter, HeadingsDiffer}
use Rattle.law_lists.proofs.Lists.{Anything, IfThere, all_from}

in_parameters : (name : List ℕ) (o : Option ((Mark × Option BoundAs) × Parameters)) → IfThere (λ (q : (Mark × Option BoundAs) × Parameters). Anything q.0 × ParametersIn name 1 q.1) o → IfThere (ParametersIn name 1) (as_parameters o)
in_parameters name None h = tt
in_parameters name (Some q) h = h.1

pub head_types : (u : Around) (h : WrittenHeading) (forward : Bool) → AreGoodSections h.parameters.sections → 1 + names_of h.parameters.sections < 2 ^ 64 → (head_of u h forward).notes.broken ≡ [] → IfThere (ParametersIn (forward_name forward (head_of u h forward).path) 1) (head_of u h forward).parameters
head_types u h forward g few e =
    let m = marked u false h.name in
    let b = owner_if u h.receiver in
    let name = forward_name forward (u.path ++ path_by b.node h.name.ident.name) in
    let start = knows_receiver (inner u) h.receiver b.node in
    let s = (anew u h.name.ident.«pos» (parameters_in start name h.parameters)).found in
    in_parameters name (both (both m b) s).node (both_quiet Anything (ParametersIn name 1) (both m b) s (any_quiet (both m b)) (anew_quiet (ParametersIn name 1) u h.name.ident.«pos» (parameters_in start name h.parameters) (parameters_good start name h.parameters g few)) e)

-- THE TYPES OF A HEADING
pub headings_differ : HeadingsDiffer
headings_differ h named u forward e p i =
    let k = written_parameters_good h.parameters named in
    let name = forward_name forward (head_of u (heading_of h) forward).path in
    let t : ParametersIn name 1 p = subst (IfThere (ParametersIn name 1)) i (head_types u (heading_of h) forward k.0 k.1 e) in
    (t.differ, all_from (λ t. IsOfSection name 1 t.name) (λ t. IsOfParameter name t.name) (λ t o. (o.at, o.part)) p.made t.parts)
