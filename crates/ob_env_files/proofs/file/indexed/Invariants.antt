use Rattle.std.proofs.Common.{◌≡◌, ◌++◌}
use Rattle.std.specs.Vec.Iter.{into_iter_items}
use Rattle.ob_env_files.specs.Names.{under_names}
use Rattle.ob_env_files.proofs.file.indexed.Given as goal

abbrev pub invariant-objects : goal.invariant-objects
invariant-objects l = record {
  entries : l.index.entries ≡ under_names l.yielded;
  rest : l.yielded ++ into_iter_items l.object-iterator ≡ l.fn.objects;
}
