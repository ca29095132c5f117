use Rattle.std.proofs.Common.{◌≡◌, ℕ, suc, List, sym, ap, subst, ◌∙◌}
use Rattle.std.specs.Option.{option_map}
use Rattle.ob_cdecl_field.specs.Makes.{parameters_of}
use Rattle.ob_cdecl_scopes.specs.Scopes.{around_of}
use Rattle.ob_rules.specs.Names.{Around}
use Rattle.ob_rules.specs.Types.{with_types}
use Rattle.ob_rules.specs.Headings.{heading_of, head_of, types_of, reversed, add_heading}
use Rattle.ob_cdecl_heading.specs.declared.head.Head.{Head as Kept}
use Rattle.ob_cdecl_heading.specs.Kept.{IsKept, AreKept}
use Rattle.ob_cdecl_heading.proofs.HeadLaws.{Adding, around_added, heads_added}
use Rattle.ob_cdecl_heading.proofs.heading.add_heading.Goals as goal

pub returns-clause-around : goal.returns-clause-around
returns-clause-around g c = λ hs e k.
    let t = g.E.Types.types in
    let u = around_of t c.args.scope.now in
    let v = around_of t c.add_made.new.scope in
    let w = around_of t c.know_procedure.new.scope in
    let h = heading_of c.args.heading.now in
    let f = c.args.forward in
    let head = c.in_ok-head.head in
    let twice = c.in_ok-twice.twice in
    let F : Around → Around = λ x. with_types x (types_of (option_map parameters_of head.parameters)) in
    let P : Around → Type 0 = λ x. IsKept (suc x.scope) head (head_of u h f) in
    let this : IsKept (suc hs.around.scope) head (head_of u h f) = subst P e c.in_ok-head.ensures.head in
    let types : v ≡ with_types u (types_of (option_map parameters_of head.parameters)) = c.in_ok-add_made.ensures ∙ ap F c.in_ok-head.ensures.stays in
    around_added hs h f (suc hs.around.scope) u v w c.args.heads.now head twice e (record { kept = k; this = this; types = types; again = c.in_ok-twice.ensures; knows = c.in_ok-know_procedure.ensures })

pub returns-clause-heads : goal.returns-clause-heads
returns-clause-heads g c = λ hs e k.
    let t = g.E.Types.types in
    let u = around_of t c.args.scope.now in
    let v = around_of t c.add_made.new.scope in
    let w = around_of t c.know_procedure.new.scope in
    let h = heading_of c.args.heading.now in
    let f = c.args.forward in
    let n = suc hs.around.scope in
    let head = c.in_ok-head.head in
    let twice = c.in_ok-twice.twice in
    let last = c.declared_head.result in
    let F : Around → Around = λ x. with_types x (types_of (option_map parameters_of head.parameters)) in
    let P : Around → Type 0 = λ x. IsKept (suc x.scope) head (head_of u h f) in
    let this : IsKept n head (head_of u h f) = subst P e c.in_ok-head.ensures.head in
    let types : v ≡ with_types u (types_of (option_map parameters_of head.parameters)) = c.in_ok-add_made.ensures ∙ ap F c.in_ok-head.ensures.stays in
    let adding : Adding n u v w hs.before c.args.heads.now head (head_of u h f) twice = record { kept = k; this = this; types = types; again = c.in_ok-twice.ensures; knows = c.in_ok-know_procedure.ensures } in
    let new = heads_added hs h f n u v w c.args.heads.now head last twice e adding (c.declared_head.ensures n (head_of u h f) w this c.mark-behind.ensures.known) in
    subst (λ (l : List Kept). AreKept n l (reversed (add_heading hs h f).before)) (sym c.in_ok-push.ensures) new
