use Rattle.std.proofs.Common.{sym, subst, ◌∙◌}
use Rattle.std.specs.List.Sorted.{IsStrictlySortedBy}
use Rattle.ob_sym.specs.Grammar.{by_name}
use Rattle.ob_env_files.proofs.file.Spelled.position_by_halves.Goals as goal

pub halved-requires : goal.halved-requires
halved-requires c = subst (IsStrictlySortedBy by_name) (sym (c.as_slice.ensures ∙ c.values.ensures.rest)) c.self.invariant.2
