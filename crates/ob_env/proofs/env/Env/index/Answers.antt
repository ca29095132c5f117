use Rattle.std.proofs.Common.{◌≡◌, List, None, subst}
use Rattle.std.specs.Option.{option_copied, option_map}
use Rattle.ob_types.specs.declared.face.Interface.{Interface}
use Rattle.ob_env.proofs.Places.{entries_in, listed, indexed_no, indexed_at}
use Rattle.ob_env.specs.Found.{interface_by_name}
use Rattle.std.specs.Prelude.{slice_get}
use Rattle.ob_env.proofs.env.Env.index.Goals as goal

pub returns-in-None : goal.returns-in-None
returns-in-None c = subst (λ (l : List Interface). None ≡ listed (interface_by_name l c.args.«module».now)) c.self.view_is (indexed_no c.self.inside.faces c.self.inside.modules.positions c.args.«module».now c.as_bytes.result.now c.as_bytes.ensures c.self.invariant.0 c.in-None.ensures)

pub returns-in-Some : goal.returns-in-Some
returns-in-Some c =
    let placed = subst (λ (l : List Interface). entries_in (option_copied c.index_placed.result) ≡ listed (slice_get l c.in-Some.at)) c.as_slice.ensures c.index_placed.ensures in
    subst (λ (l : List Interface). entries_in (option_copied c.index_placed.result) ≡ listed (interface_by_name l c.args.«module».now)) c.self.view_is (indexed_at c.self.inside.faces c.self.inside.modules.positions c.args.«module».now c.as_bytes.result.now c.in-Some.at (entries_in (option_copied c.index_placed.result)) c.as_bytes.ensures c.self.invariant.0 c.in-Some.ensures placed)
