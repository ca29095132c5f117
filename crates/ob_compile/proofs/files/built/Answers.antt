use Rattle.std.proofs.Common.{Some, sym, ap, ◌∙◌}
use Rattle.ob_format.specs.Format.{whole}
use Rattle.ob_format.specs.Exact.{whole_again}
use Rattle.ob_sym.specs.Grammar.{face as face_form}
use Rattle.ob_sym.specs.Laws.{face_exact}
use Rattle.ob_compile.proofs.files.built.Goals as goal

pub of-requires : goal.of-requires
of-requires c = ap (whole face_form) (c.as_slice.ensures ∙ c.requires.spelled) ∙ whole_again face_form face_exact c.args.shown.face c.requires.face ∙ ap Some (sym c.into_inner.ensures)
