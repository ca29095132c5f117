-- The bodies of judged modules are well typed.
use Rattle.std.proofs.Common.{◌≡◌, inl, inr, refl, sym, ap, subst, ℕ, List, [], ◌∷◌, map, Some, None, false}
use Rattle.std.specs.List.{AllByRecursion}
use Rattle.ob_types.specs.declared.typed.TypedProcedure.{TypedProcedure}
use Rattle.ob_types.specs.declared.typed.TypedModule.{TypedModule}
use Rattle.ob_types.specs.TypedSyntax.{Procedure, Module}
use Rattle.ob_types.specs.TypedView.{procedure_view}
use Rattle.ob_meaning.specs.Values.{Program, form_in}
use Rattle.ob_scheme.specs.Procedures.{body_of}
use Rattle.law_simulation_relation.specs.Layout.{static_held}
use Rattle.law_simulation_relation.specs.Relation.{FormOk}
use Rattle.law_simulation_relation.specs.Typed.{StmtsOk}
use Rattle.ob_env.specs.Shown.{shown}
use Rattle.law_typing_forms.specs.Said.{IsOneOf, IsSound}
use Rattle.law_typing_forms.specs.Steady.{IsSteady}
use Rattle.law_typing_forms.specs.Whole.{IsWhole}
use Rattle.law_typing.specs.Forms.{ResultIs}
use Rattle.law_typing.specs.Known.{ConstantIs}
use Rattle.law_typing.specs.Laws.{Having}
use Rattle.law_typing.specs.Redefined.{AreRedefined}
use Rattle.ob_rules.specs.Names.{Around, map_of}
use Rattle.law_body_context.specs.Judged.{IsWithin, ProcedureIsJudged}
use Rattle.law_program_context.specs.Left.{IsModuleOf, AreFormed, IsLeft}
use Rattle.law_program_context.proofs.Names.{procedures_surrounded, modules_surrounded}
use Rattle.law_program_context.proofs.Fitting.{bodies_fit}
use Rattle.law_typing_values.specs.Valued.{values}
use Rattle.law_program_context.specs.Judged.{IsJudgedModule, AreJudgedModules}
use Rattle.law_program_context.proofs.Age.{age_in}
use Rattle.law_program_context.proofs.Formed.{maps_formed}
use Rattle.law_program_context.proofs.Full.{constants_shown}
use Rattle.law_program_context.proofs.Typed.{values_had}
use Rattle.law_program_typing.specs.Steady.{AreSteady, IsSteadyModule, AreSteadyModules}
use Rattle.law_program_typing.proofs.Whole.{introduced_once}
use Rattle.law_program_typing.specs.Accepted.{IsBuilt, AreBuilt, AreWellTyped, AcceptedIsWellTyped}

module _ (program : Program) (sound : IsSound program) (whole : IsWhole program) (judged : AreJudgedModules program) (redefined : AreRedefined program) (steady : AreSteadyModules program program judged) (m : Module) (there : IsOneOf program m) (built : AreBuilt program m) (j : IsJudgedModule program m) (known : IsSteadyModule program m j) where
  abbrev checked : TypedModule
  checked = j.checked

  name_is : m.name ≡ checked.name
  name_is = ap (λ (k : Module). k.name) j.is

  procedures_are : m.procedures ≡ map procedure_view checked.procedures
  procedures_are = ap (λ (k : Module). k.procedures) j.is

  viewed_built : AllByRecursion (IsBuilt program) (map procedure_view checked.procedures)
  viewed_built = subst (AllByRecursion (IsBuilt program)) procedures_are built.procedures

  all_results : (ps : List TypedProcedure) → AllByRecursion (IsBuilt program) (map procedure_view ps) → AllByRecursion (λ (p : TypedProcedure). ResultIs program p.result) ps
  all_results [] h = tt
  all_results (p ∷ ps) h = (h.0.result, all_results ps h.1)

  is : IsModuleOf program checked m
  is = record {
    there = there;
    name = name_is;
    variables = ap (λ (k : Module). k.variables) j.is;
    procedures = procedures_are;
    forms = subst (AllByRecursion (λ v. FormOk program (form_in program v.of))) (ap (λ (k : Module). k.variables) j.is) built.variables;
    results = all_results checked.procedures viewed_built;
  }

  formed : AreFormed program (shown j.faces) checked j.bodies.content
  formed = maps_formed program sound whole m there j known.fields

  left : (w : Around) → IsWithin ConstantIs (shown j.faces) checked j.bodies.content w → IsSteady (map_of w) → IsLeft program w
  left w within g = record { steady = g; introduced = introduced_once program sound whole judged steady m there j known w within }

  abbrev Ok : Procedure → Type 0
  Ok p = StmtsOk program (Having (values program)) checked.name (static_held program p) p.result p.body false

  one_fits : (p : TypedProcedure) → IsOneOf checked.procedures p → IsBuilt program (procedure_view p) → (h : ProcedureIsJudged ConstantIs (shown j.faces) checked j.bodies.content p) → IsSteady (map_of h.body.u) → Ok (procedure_view p)
  one_fits p i b h g =
      bodies_fit program (values program) (shown j.faces) checked j.bodies.content (Some p) p.body h.body (procedure_view p) refl b.different
      (procedures_surrounded program (values program) (shown j.faces) checked m whole is j.bodies.name (constants_shown program judged j.faces (age_in program m j)) (values_had program whole judged) redefined p i b.different b.locals j.bodies.content formed h.body.u h.body.stands (left h.body.u h.body.stands.within g))

  all_fit : (ps : List TypedProcedure) → ((p : TypedProcedure) → IsOneOf ps p → IsOneOf checked.procedures p) → AllByRecursion (IsBuilt program) (map procedure_view ps) → (h : AllByRecursion (ProcedureIsJudged ConstantIs (shown j.faces) checked j.bodies.content) ps) → AreSteady (shown j.faces) checked j.bodies.content ps h → AllByRecursion Ok (map procedure_view ps)
  all_fit [] f b h l = tt
  all_fit (p ∷ ps) f b h l = (one_fits p (f p (inl refl)) b.0 h.0 l.0, all_fit ps (λ q k. f q (inr k)) b.1 h.1 l.1)

  body_fits : Ok (body_of m)
  body_fits =
      bodies_fit program (values program) (shown j.faces) checked j.bodies.content None checked.body j.bodies.body (body_of m) (ap (λ (k : Module). k.body) j.is) built.body.different
      (modules_surrounded program (values program) (shown j.faces) checked m whole is j.bodies.name (constants_shown program judged j.faces (age_in program m j)) (values_had program whole judged) redefined (static_held program (body_of m)) j.bodies.content formed j.bodies.body.u j.bodies.body.stands j.bodies.scope j.bodies.receiver (left j.bodies.body.u j.bodies.body.stands.within known.body))

  all_typed : AreWellTyped program m
  all_typed = record {
    procedures = subst (λ ps. AllByRecursion (λ p. StmtsOk program (Having (values program)) m.name (static_held program p) p.result p.body false) ps) (sym procedures_are)
        (subst (λ (n : List ℕ). AllByRecursion (λ p. StmtsOk program (Having (values program)) n (static_held program p) p.result p.body false) (map procedure_view checked.procedures)) (sym name_is) (all_fit checked.procedures (λ p i. i) viewed_built j.bodies.procedures known.procedures));
    body = subst (λ (n : List ℕ). StmtsOk program (Having (values program)) n (static_held program (body_of m)) None m.body false) (sym name_is) body_fits;
  }

all_accepted : (program : Program) → IsSound program → IsWhole program → AreRedefined program → (judged : AreJudgedModules program) → AreSteadyModules program program judged → (ms : List Module) → ((m : Module) → IsOneOf ms m → IsOneOf program m) → (h : AllByRecursion (IsJudgedModule program) ms) → AreSteadyModules program ms h → AllByRecursion (AreBuilt program) ms → AllByRecursion (AreWellTyped program) ms
all_accepted program sound whole redefined judged steady [] f h g b = tt
all_accepted program sound whole redefined judged steady (m ∷ ms) f h g b = (all_typed program sound whole judged redefined steady m (f m (inl refl)) b.0 h.0 g.0, all_accepted program sound whole redefined judged steady ms (λ k i. f k (inr i)) h.1 g.1 b.1)

pub accepted_is_well_typed : AcceptedIsWellTyped
accepted_is_well_typed program sound whole redefined judged steady built = all_accepted program sound whole redefined judged steady program (λ m i. i) judged steady built
