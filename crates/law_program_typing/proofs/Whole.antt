-- The law of bound procedures.
use Rattle.std.proofs.Common.{◌⊎◌, ⊎_elim, subst, List, [], ◌∷◌}
use Rattle.std.specs.List.{AllByRecursion}
use Rattle.ob_types.specs.TypedSyntax.{Module}
use Rattle.ob_meaning.specs.Values.{Program}
use Rattle.law_typing_forms.specs.Said.{IsOneOf}
use Rattle.law_program_context.specs.Judged.{IsJudgedModule}
use Rattle.law_program_context.proofs.Formed.{maps_formed}
use Rattle.law_program_typing.specs.Steady.{IsSteadyModule, AreSteadyModules}
use Rattle.law_program_typing.specs.Laws.{IntroducedOnce}
use Rattle.law_program_typing.proofs.Programs as programs

module _ (program : Program) where
  abbrev pub Of : Module → Type 0
  Of m = (j : IsJudgedModule program m) × IsSteadyModule program m j

  -- one of the modules, as it was judged
  pub one_judged : (ms : List Module) (h : AllByRecursion (IsJudgedModule program) ms) → AreSteadyModules program ms h → (m : Module) → IsOneOf ms m → Of m
  one_judged [] h g m i = absurd i
  one_judged (k ∷ ms) h g m i = ⊎_elim (λ e. subst Of e (h.0, g.0)) (λ j. one_judged ms h.1 g.1 m j) i

pub introduced_once : IntroducedOnce
introduced_once program sound whole judged steady m there j known w within =
    programs.introduced_once program sound whole judged
    (λ n i. let o = one_judged program program judged steady n i in (o.0, (o.1.body, maps_formed program sound whole n i o.0 o.1.fields o.0.bodies.body.u o.0.bodies.body.stands.within)))
    m there j w within (maps_formed program sound whole m there j known.fields w within)
