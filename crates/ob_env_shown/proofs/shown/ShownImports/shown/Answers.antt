use Rattle.std.specs.Option.{option_copied}
use Rattle.ob_tree.specs.declared.names.QName.{QName}
use Rattle.ob_env_shown.proofs.Blanks.{shown_by}
use Rattle.ob_env_shown.proofs.shown.ShownImports.shown.Goals as goal

pub returns : goal.returns
returns c =
    let q : QName = record { «module» = c.args.unit.now; object = c.args.name.now } in
    shown_by c.args.self.now c.self.inside.env.now c.as_bytes.result.now c.as_bytes-2.result.now q c.position.result (option_copied c.at.result) c.self.view_is c.as_bytes.ensures c.as_bytes-2.ensures c.position.ensures c.at.ensures
