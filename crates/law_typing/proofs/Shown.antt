-- What an imported module shows is what it describes.
use Rattle.std.proofs.Common.{◌≡◌, ap, Option, Some, None}
use Rattle.ob_tree.specs.declared.ident.Mark.{Mark}
use Rattle.ob_tree.specs.declared.ident.Mark.TheVariants as mark
use Rattle.ob_types.specs.declared.desc.Desc.{Desc}
use Rattle.ob_types.specs.declared.desc.Desc.TheVariants as desc
use Rattle.ob_rules.specs.Names.{unless_hidden, record_unless_hidden, shown_of}
use Rattle.law_lists.proofs.Lists.{none_some, some_same}

hidden_or : (m : Mark) (d e : Desc) → unless_hidden m d ≡ Some e → d ≡ e
hidden_or mark.Hidden d e f = none_some f
hidden_or mark.ReadOnly d e f = some_same f
hidden_or mark.Full d e f = some_same f

shown_desc : (d e : Desc) → record_unless_hidden d ≡ Some e → d ≡ e
shown_desc (desc.Var m t) e f = hidden_or m (desc.Var m t) e f
shown_desc (desc.Alias m t) e f = hidden_or m (desc.Alias m t) e f
shown_desc (desc.Array m n t) e f = hidden_or m (desc.Array m n t) e f
shown_desc (desc.OpenArray m t) e f = hidden_or m (desc.OpenArray m t) e f
shown_desc (desc.Pointer m t) e f = hidden_or m (desc.Pointer m t) e f
shown_desc (desc.ProcType m s) e f = hidden_or m (desc.ProcType m s) e f
shown_desc (desc.Record r) e f = hidden_or r.mark (desc.Record r) e f
shown_desc (desc.Const c) e f = some_same f
shown_desc (desc.Proc s) e f = some_same f

pub shown_is : (o : Option Desc) (d : Desc) → shown_of o ≡ Some d → o ≡ Some d
shown_is None d e = none_some e
shown_is (Some c) d e = ap (λ x. Some x) (shown_desc c d e)
