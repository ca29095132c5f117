-- Where procedures keep the rules, so do their headings.
use Rattle.std.proofs.Common.{◌≡◌, Bool, true, false, List, [], ◌∷◌, ◌++◌, length}
use Rattle.ob_rules.specs.Names.{Around}
use Rattle.ob_rules.specs.Headings.{Head}
use Rattle.ob_rules.specs.Declarations.{Written_procedure, closing_judged, around_body, procedure_judged, procedures_judged}
use Rattle.law_names_types.specs.Once.{AreQuiet}
use Rattle.law_lists.proofs.Lists.{back_empty, front_empty}

heading_quiet : (u : Around) (p : Written_procedure) (h : Head) (forward : Bool) → (procedure_judged u p h forward).notes.broken ≡ [] → h.notes.broken ≡ []
heading_quiet u p h true e = e
heading_quiet u p h false e = front_empty h.notes.broken ((closing_judged h.name p.closing).broken ++ (p.inside (around_body u h)).notes.broken) e

pub headings_quiet : (u : Around) (ps : List Written_procedure) (hs : List Head) → length ps ≡ length hs → (procedures_judged u ps hs).notes.broken ≡ [] → AreQuiet hs
headings_quiet u [] [] n e = tt
headings_quiet u [] (h ∷ hs) n e = absurd cc
headings_quiet u (p ∷ ps) [] n e = absurd cc
headings_quiet u (p ∷ ps) (h ∷ hs) n e =
    let a = procedure_judged u p h p.forward in
    let b = procedures_judged u ps hs in
    let rest : length ps ≡ length hs = cc in
    (heading_quiet u p h p.forward (front_empty a.notes.broken b.notes.broken e), headings_quiet u ps hs rest (back_empty a.notes.broken b.notes.broken e))
