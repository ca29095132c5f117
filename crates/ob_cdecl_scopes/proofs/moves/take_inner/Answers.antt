use Rattle.std.proofs.Common.{rules, ◌≡◌, ◌∷◌, ◌-◌, true, None, sym, ap, subst, ◌∙◌, arith}
use Rattle.ob_rules.specs.Headings.{of_scope}
use Rattle.ob_cdecl_scopes.specs.Descending.{are_within, are_of, inner_first}
use Rattle.ob_cdecl_scopes.specs.Bodies.{outer_names}
use Rattle.ob_cdecl_scopes.proofs.Bodying.{taken_more, is_first, within_rest, of_more, no_more, inside_of, outside_of}
use Rattle.ob_cdecl_scopes.proofs.moves.take_inner.Goals as goal

pub names-preserved : goal.names-preserved
names-preserved c =
    let k = c.in-Some.k in
    let ks = c.names.known in
    let n = c.args.scope in
    let p = is_first n ks k c.in-Some.ensures.first in
    let split : ks ≡ k ∷ c.pop_inner.new.known = p.0 ∙ ap (λ l. k ∷ l) (sym c.pop_inner.ensures.rest) in
    record {
      all = taken_more c.names.names.items c.push.new.self.items c.args.known.now ks c.pop_inner.new.known k c.in_ok-push.ensures.items split c.names.invariant.all;
      fall = within_rest n k c.pop_inner.new.known (subst (λ l. are_within n l ≡ true) split c.names.invariant.fall);
      one_scope = subst (λ l. are_of n l ≡ true) (sym c.in_ok-push.ensures.items) (of_more n c.names.names.items k c.names.invariant.one_scope p.1);
    }

pub returns-clause-taken : goal.returns-clause-taken
returns-clause-taken c =
    let ks = c.names.known in
    let n = c.args.scope in
    let none : None ≡ inner_first n ks = (search rules) in
    let q = no_more n ks none c.requires.inner c.names.invariant.fall in
    sym (inside_of (n - 1) n c.names.names.items ks (omega (arith, c.requires.inner)) c.names.invariant.one_scope q.1) ∙ ap (of_scope (n - 1)) c.names.invariant.all

pub returns-clause-left : goal.returns-clause-left
returns-clause-left c =
    let ks = c.names.known in
    let n = c.args.scope in
    let none : None ≡ inner_first n ks = (search rules) in
    let q = no_more n ks none c.requires.inner c.names.invariant.fall in
    c.pop_inner.ensures.rest ∙ q.0 ∙ sym (outside_of (n - 1) n c.names.names.items ks (omega (arith, c.requires.inner)) c.names.invariant.one_scope q.1) ∙ ap (outer_names (n - 1)) c.names.invariant.all
