-- The procedures of builds that are loaded together have names, and are built.
use Rattle.std.proofs.Common.{◌≡◌, sym, ap, subst, true, List, [], ◌∷◌, map as each}
use Rattle.std.specs.List.{AllByRecursion}
use Rattle.ob_types.specs.declared.typed.TypedVariable.{TypedVariable}
use Rattle.ob_types.specs.declared.typed.TypedProcedure.{TypedProcedure}
use Rattle.ob_types.specs.declared.typed.TypedModule.{TypedModule}
use Rattle.ob_types.specs.Maps.{IsHeld}
use Rattle.ob_types.specs.Relations.{Is, is_open}
use Rattle.ob_types.specs.TypedSyntax.{Procedure, Module}
use Rattle.ob_types.specs.TypedView.{procedure_view, module_view}
use Rattle.ob_meaning.specs.Values.{Program, form_in, description}
use Rattle.ob_meaning.specs.Calls.{hidden_of_all, held_variable}
use Rattle.ob_scheme.specs.Procedures.{body_of}
use Rattle.law_simulation_relation.specs.Linked.{OwnFormsOk}
use Rattle.law_simulation_relation.specs.Passed.{IsOpen}
use Rattle.law_simulation_relation.specs.Relation.{FormOk}
use Rattle.ob_layout.specs.LaidOut.{laid_out}
use Rattle.ob_env.specs.Faces.{described}
use Rattle.ob_env.specs.Shown.{shown}
use Rattle.ob_compile_model.specs.Compiling.{Compiled}
use Rattle.law_typing_forms.specs.Said.{IsSound}
use Rattle.law_image_code.specs.Fits.{IsNamed}
use Rattle.law_names_distinct.specs.Procedures.{HasNames}
use Rattle.law_names_distinct.proofs.Procedures.{procedures_have_names}
use Rattle.law_spelling_read.specs.Placed.{are_rising}
use Rattle.law_spelling_read.proofs.Modules.{places_rise}
use Rattle.law_program_typing.specs.Accepted.{IsBuilt}
use Rattle.law_program_typing.proofs.Parameters.{closed_ok}
use Rattle.ob_builds.specs.Builds.{Text, Build, IsValid, of, tree_of}
use Rattle.law_builds.proofs.Gone.{all_valid}
use Rattle.law_builds.proofs.Faces.{of_is}
use Rattle.law_program_runs.specs.Builds.{program_of}
use Rattle.law_local.proofs.Compiled.{ComesOf, comes_of}
use Rattle.law_program_names.proofs.Different.{build_comes}
use Rattle.law_builds_loaded.proofs.Sound.{variables_have_forms}
use Rattle.law_builds_loaded.proofs.Loaded.{kept_in}
use Rattle.law_builds_loaded.specs.whole_laws.Whole.{IsPlain}
use Rattle.law_builds_loaded.proofs.whole_laws.Passing.{loaded_plain}
use Rattle.law_builds_bodies.specs.built_laws.Procedures.{IsGiven, AreGiven}
use Rattle.law_builds_bodies.specs.built_laws.Built.{IsBuiltModule, LoadedAreBuilt}
use Rattle.law_builds_bodies.proofs.built_laws.Different.{are_different}
use Rattle.law_builds_bodies.proofs.built_laws.Procedures.{procedures_are_given}
use Rattle.law_builds_bodies.proofs.built_laws.Reading.{readings_are_lettered}

-- a module as a text gives it, with its records laid out
record FromText (m : Module) : Type 0 where
  checked : TypedModule
  procedures : m.procedures ≡ each procedure_view checked.procedures
  body : m.body ≡ (module_view checked).body
  given : AreGiven checked
  names : AllByRecursion HasNames checked.procedures

from_text : (b : Build) (c : Compiled Text) → IsValid b c → FromText (tree_of b)
from_text b c v =
    let valid : IsValid b (of b) = subst (IsValid b) (sym (of_is b c v)) v in
    let s = build_comes b (of b) valid in
    let f : ComesOf s.tree (of b) = comes_of b (of b) s.tree valid s.read in
    let is : tree_of b ≡ laid_out (described (of b).against) (module_view f.t) = ap (λ (x : Compiled Text). x.tree) f.is in
    record {
      checked = f.t;
      procedures = ap (λ (x : Module). x.procedures) is;
      body = ap (λ (x : Module). x.body) is;
      given = procedures_are_given (shown (of b).against) s.tree f.t f.tree_is (readings_are_lettered b.source s.tree s.read) (places_rise b.source s.tree s.read);
      names = procedures_have_names (shown (of b).against) s.tree f.t f.tree_is;
    }

module _ (program : Program) (sound : IsSound program) where
  locals_ok : (vs : List TypedVariable) → AllByRecursion (λ (v : TypedVariable). IsOpen (form_in program v.of) → ⊥) vs → AllByRecursion (λ (v : TypedVariable). FormOk program (form_in program v.of)) vs
  locals_ok [] h = tt
  locals_ok (v ∷ vs) h = (closed_ok program sound v.of h.0, locals_ok vs h.1)

  one_built : (p : TypedProcedure) → IsGiven p → HasNames p → IsPlain program (procedure_view p) → IsBuilt program (procedure_view p)
  one_built p g n k = record { different = are_different program (procedure_view p) n g.names g.placed; locals = locals_ok p.locals k.locals; result = k.result }

  all_built : (ps : List TypedProcedure) → AllByRecursion IsGiven ps → AllByRecursion HasNames ps → AllByRecursion (IsPlain program) (each procedure_view ps) → AllByRecursion (IsBuilt program) (each procedure_view ps)
  all_built [] g n k = tt
  all_built (p ∷ ps) g n k = (one_built p g.0 n.0 k.0, all_built ps g.1 n.1 k.1)

  all_named : (ps : List TypedProcedure) → AllByRecursion IsGiven ps → AllByRecursion (λ (p : Procedure). IsNamed p.name) (each procedure_view ps)
  all_named [] g = tt
  all_named (p ∷ ps) g = (g.0.named, all_named ps g.1)

  variables_ok : (vs : List TypedVariable) → OwnFormsOk program (each (held_variable program) vs) → AllByRecursion (λ (v : TypedVariable). FormOk program (form_in program v.of)) vs
  variables_ok [] h = tt
  variables_ok (v ∷ vs) h = (h.0, variables_ok vs h.1)

  module_built : (m : Module) → FromText m → AllByRecursion (IsPlain program) m.procedures → AllByRecursion (λ (v : TypedVariable). IsHeld (description program) v.of) m.variables → AllByRecursion (λ (v : TypedVariable). Is (description program) is_open v.of → ⊥) m.variables → IsBuiltModule program m
  module_built m t plain held closed = record {
    named = subst (AllByRecursion (λ (p : Procedure). IsNamed p.name)) (sym t.procedures) (all_named t.checked.procedures t.given.procedures);
    built = record {
      procedures = subst (AllByRecursion (IsBuilt program)) (sym t.procedures) (all_built t.checked.procedures t.given.procedures t.names (subst (AllByRecursion (IsPlain program)) t.procedures plain));
      body = record { different = are_different program (body_of m) tt tt (subst (λ b. are_rising (hidden_of_all b) ≡ true) (sym t.body) t.given.body); locals = tt; result = tt };
      variables = variables_ok m.variables (variables_have_forms program sound m held closed);
    };
  }

  abbrev IsSome : Build → Type 0
  IsSome b = (c : Compiled Text) × IsValid b c

  modules_built : (bs : List Build) → AllByRecursion IsSome bs → AllByRecursion (λ (m : Module). AllByRecursion (IsPlain program) m.procedures) (program_of bs)
      → AllByRecursion (λ (m : Module). AllByRecursion (λ (v : TypedVariable). IsHeld (description program) v.of) m.variables) (program_of bs) → AllByRecursion (λ (m : Module). AllByRecursion (λ (v : TypedVariable). Is (description program) is_open v.of → ⊥) m.variables) (program_of bs)
      → AllByRecursion (IsBuiltModule program) (program_of bs)
  modules_built [] v p h c = tt
  modules_built (b ∷ bs) v p h c = (module_built (tree_of b) (from_text b v.0.0 v.0.1) p.0 h.0 c.0, modules_built bs v.1 p.1 h.1 c.1)

pub loaded_are_built : LoadedAreBuilt
loaded_are_built written ruled sound bs l =
    let k = kept_in written ruled bs l.together in
    modules_built (program_of bs) (sound bs l) bs (all_valid bs l.together) (loaded_plain written ruled bs l) k.held k.closed
