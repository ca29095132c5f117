use Rattle.std.proofs.Common.{◌≡◌, List, None, refl, subst}
use Rattle.std.specs.Option.{option_copied}
use Rattle.ob_types.specs.declared.face.Interface.{Interface}
use Rattle.ob_env.specs.Found.{object_found, object_placed}
use Rattle.ob_env.proofs.Places.{found_none, found_at}
use Rattle.ob_env.proofs.env.Env.lookup.Goals as goal

pub returns-in-None : goal.returns-in-None
returns-in-None c = subst (λ (l : List Interface). None ≡ object_found l c.args.name.now) c.self.view_is (found_none c.self.inside.faces c.self.inside.modules.positions c.args.name.now c.as_bytes.result.now c.as_bytes.ensures c.self.invariant.0 c.in-None.ensures)

pub returns-in-Some : goal.returns-in-Some
returns-in-Some c =
    let placed = subst (λ (l : List Interface). option_copied c.placed.result ≡ object_placed l c.in-Some.at c.args.name.now.object) c.as_slice.ensures c.placed.ensures in
    subst (λ (l : List Interface). option_copied c.placed.result ≡ object_found l c.args.name.now) c.self.view_is (found_at c.self.inside.faces c.self.inside.modules.positions c.args.name.now c.as_bytes.result.now c.args.name.now.object c.in-Some.at (option_copied c.placed.result) c.as_bytes.ensures refl c.self.invariant.0 c.in-Some.ensures placed)
