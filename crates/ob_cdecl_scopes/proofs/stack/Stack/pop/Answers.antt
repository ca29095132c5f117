use Rattle.std.proofs.Common.{rules, ◌≡◌, [], ◌∷◌, ◌++◌, sym, subst}
use Rattle.std.specs.Prelude.{IsSome}
use Rattle.ob_cdecl_scopes.specs.Stacks.{Puts, place_at}
use Rattle.ob_cdecl_scopes.proofs.Stacking.{is_there, indexed_less}
use Rattle.ob_cdecl_scopes.proofs.stack.Stack.pop.Goals as goal

pub put_back-requires : goal.put_back-requires
put_back-requires c =
    let k = c.in-Some.key in
    let e : c.self.inside.keys.items ≡ c.pop.new.self.items ++ k ∷ [] = (search rules) in
    subst (λ l. IsSome (place_at c.self.inside.last l)) (sym c.as_bytes.ensures) (is_there c.self.inside.last c.self.inside.keys.items c.pop.new.self.items k e c.self.invariant.1)

pub invariant_of-self-in-Some : goal.invariant_of-self-in-Some
invariant_of-self-in-Some c =
    let k = c.in-Some.key in
    let e : c.self.inside.keys.items ≡ c.pop.new.self.items ++ k ∷ [] = (search rules) in
    let p : Puts c.self.inside.last c.put_back.new.places k.name k.before = subst (λ l. Puts c.self.inside.last c.put_back.new.places l k.before) c.as_bytes.ensures c.put_back.ensures in
    indexed_less c.self.inside.last c.put_back.new.places c.self.inside.keys.items c.pop.new.self.items k e c.self.invariant.0 c.self.invariant.1 p

pub invariant_of-self-in-Some-2 : goal.invariant_of-self-in-Some-2
invariant_of-self-in-Some-2 c =
    let k = c.in-Some.key in
    let e : c.self.inside.keys.items ≡ c.pop.new.self.items ++ k ∷ [] = (search rules) in
    let p : Puts c.self.inside.last c.put_back.new.places k.name k.before = subst (λ l. Puts c.self.inside.last c.put_back.new.places l k.before) c.as_bytes.ensures c.put_back.ensures in
    indexed_less c.self.inside.last c.put_back.new.places c.self.inside.keys.items c.pop.new.self.items k e c.self.invariant.0 c.self.invariant.1 p
