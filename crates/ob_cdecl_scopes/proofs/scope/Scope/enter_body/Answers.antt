use Rattle.std.proofs.Common.{◌≡◌, ◌++◌, ◌-◌, length, drop, sym, ap, refl, ◌∙◌, arith}
use Rattle.ob_rules.specs.Names.{Around}
use Rattle.ob_cdecl_scopes.specs.Scopes.{around_of}
use Rattle.ob_cdecl_scopes.specs.Bodies.{restored}
use Rattle.ob_cdecl_scopes.proofs.Bodying.{within_inside, last_of, none_dropped}
use Rattle.ob_cdecl_scopes.proofs.scope.Scope.enter_body.Goals as goal

pub put_all-requires : goal.put_all-requires
put_all-requires g c =
    let s = c.args.self.now in
    let i = c.args.inside in
    within_inside s.scope i.scope i.names.items s.known c.requires i.one_scope s.scopes_fall

pub returns-clause-outside : goal.returns-clause-outside
returns-clause-outside g c =
    let s = c.args.self.now in
    let own : drop (length s.own - c.len-2.result) s.own ≡ s.own = none_dropped s.own c.len-2.result c.len-2.ensures in
    let known : drop (length c.put_all.new.known - c.len.result) c.put_all.new.known ≡ s.known = sym (last_of c.args.inside.names.items s.known c.put_all.new.known c.len.result (sym c.in_ok-put_all.ensures.all) (sym c.len.ensures)) in
    let scope : c.args.inside.scope - 1 ≡ s.scope = omega (arith, c.requires) in
    let path : c.replace.result ≡ s.path = c.replace.ensures.value in
    let later : c.replace-2.result ≡ s.later_types = c.replace-2.ensures.value in
    let guards : c.replace-3.result ≡ s.guards = c.replace-3.ensures.value in
    let receiver : c.replace-4.result ≡ s.receiver = c.replace-4.ensures.value in
    let of : c.replace-5.result ≡ s.result_type = c.replace-5.ensures.value in
    let u : Around = around_of g.E.Types.types s in
    ap (λ x. record u { own = x; known = drop (length c.put_all.new.known - c.len.result) c.put_all.new.known; scope = c.args.inside.scope - 1; path = c.replace.result; later_types = c.replace-2.result; guards = c.replace-3.result.items; receiver = c.replace-4.result; result = c.replace-5.result }) own
    ∙ ap (λ x. record u { known = x; scope = c.args.inside.scope - 1; path = c.replace.result; later_types = c.replace-2.result; guards = c.replace-3.result.items; receiver = c.replace-4.result; result = c.replace-5.result }) known
    ∙ ap (λ x. record u { scope = x; path = c.replace.result; later_types = c.replace-2.result; guards = c.replace-3.result.items; receiver = c.replace-4.result; result = c.replace-5.result }) scope
    ∙ ap (λ x. record u { path = x; later_types = c.replace-2.result; guards = c.replace-3.result.items; receiver = c.replace-4.result; result = c.replace-5.result }) path
    ∙ ap (λ x. record u { later_types = x; guards = c.replace-3.result.items; receiver = c.replace-4.result; result = c.replace-5.result }) later
    ∙ ap (λ x. record u { guards = x.items; receiver = c.replace-4.result; result = c.replace-5.result }) guards
    ∙ ap (λ x. record u { receiver = x; result = c.replace-5.result }) receiver
    ∙ ap (λ x. record u { result = x }) of
