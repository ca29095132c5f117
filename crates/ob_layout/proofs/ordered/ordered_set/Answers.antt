use Rattle.std.proofs.Common.{sym, ap, ◌∙◌}
use Rattle.ob_layout.proofs.Putting.{put_all, put_none, put_last, insert_is}
use Rattle.ob_layout.proofs.ordered.ordered_set.Goals as goal

pub entries-init : goal.entries-init
entries-init g c = ap (put_all g.T.Ord.cmp c.args.found.items) c.new-set.ensures.empty ∙ put_none g.T.Ord.cmp c.args.found.items

pub entries-preserved : goal.entries-preserved
entries-preserved g c =
    ap (put_all g.T.Ord.cmp c.pop.new.self.items) (c.in_ok-insert.ensures.keys ∙ insert_is g.T.Ord.cmp c.entries.set.keys c.in-Some.entry)
    ∙ sym (put_last g.T.Ord.cmp c.pop.new.self.items c.in-Some.entry c.entries.set.keys) ∙ ap (λ l. put_all g.T.Ord.cmp l c.entries.set.keys) (sym c.in-Some.ensures.items) ∙ c.entries.invariant
