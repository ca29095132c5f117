use Rattle.ob_env_ranks.proofs.Ranks.{ranked_marks}
use Rattle.ob_env_coherent.proofs.behind.objects_stand.Goals as goal

pub check_part-requires : goal.check_part-requires
check_part-requires c = ranked_marks c.args.faces.now c.args.all.now c.new-none.result c.requires c.new-none.ensures
