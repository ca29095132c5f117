-- The laws of plans over any modules.
use Rattle.law_load_plan.specs.Laws.{PlansAgree, PlanSees}
use Rattle.law_load_plan.proofs.Walked as walked
use Rattle.law_load_plan.proofs.Seen as seen

pub plans_agree : PlansAgree
plans_agree A B K L asks others twin short IsKnown IsAsked entry other alike entries loaded known name command asked = walked.plans_agree asks others twin short IsKnown alike loaded known entry other IsAsked entries name command asked

pub plan_sees : PlanSees
plan_sees A K asks entry named loaded name command new e = seen.plan_sees asks entry named loaded name command new e
