use Rattle.std.proofs.Common.{◌≡◌, ◌≤◌, length, take, ap, sym, subst, ◌∙◌}
use Rattle.std.specs.Prelude.{map}
use Rattle.ob_machine_image.specs.Names.{name_of, names_in}
use Rattle.ob_machine_image.proofs.Placing.{types_taken, types_within}
use Rattle.ob_machine_image.proofs.types.Types.count_of.Goals as goal

pub returns-clause-types : goal.returns-clause-types
returns-clause-types c =
    let e : c.count_names.result ≡ names_in c.args.modules.now (map name_of c.args.self.now) = c.count_names.ensures ∙ ap (names_in c.args.modules.now) (c.deref.ensures.value ∙ c.self.invariant.0 ∙ ap (map name_of) c.self.view_is) in
    ap (λ n. take n c.args.self.now) e ∙ types_taken c.args.modules.now c.args.self.now

pub returns-clause-within : goal.returns-clause-within
returns-clause-within c =
    let e : c.count_names.result ≡ names_in c.args.modules.now (map name_of c.args.self.now) = c.count_names.ensures ∙ ap (names_in c.args.modules.now) (c.deref.ensures.value ∙ c.self.invariant.0 ∙ ap (map name_of) c.self.view_is) in
    subst (λ n. n ≤ length c.args.self.now) (sym e) (types_within c.args.modules.now c.args.self.now)
