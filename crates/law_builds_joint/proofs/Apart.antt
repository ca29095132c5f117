-- The bound procedures that the records of a valid build introduce have different names, and so have its types and what else it shows.
use Rattle.std.proofs.Common.{◌≡◌, ℕ, List, map, sym, ap, subst, ◌∙◌, Option}
use Rattle.std.specs.List.{AllByRecursion}
use Rattle.ob_types.specs.declared.typed.TypedType.{TypedType}
use Rattle.ob_types.specs.declared.typed.TypedConstant.{TypedConstant}
use Rattle.ob_types.specs.declared.typed.TypedVariable.{TypedVariable}
use Rattle.ob_tree.specs.declared.names.QName.{QName}
use Rattle.ob_types.specs.declared.desc.Desc.{Desc}
use Rattle.ob_types.specs.TypedSyntax.{Module}
use Rattle.ob_types.specs.TypedView.{module_view}
use Rattle.ob_layout.specs.LaidOut.{laid_type, laid_out}
use Rattle.ob_env.specs.Faces.{described}
use Rattle.ob_env.specs.Shown.{shown}
use Rattle.law_names_distinct.specs.Distinct.{AreDistinct}
use Rattle.law_names_procedures.proofs.Faces.{faces_show}
use Rattle.law_names_procedures.proofs.Texts.{headings_are_named}
use Rattle.law_spelling.proofs.Reading.{readings_named}
use Rattle.law_methods_bound.proofs.Judged.{headings_are_judged}
use Rattle.law_names_read.proofs.Reading.{readings_are_worded}
use Rattle.law_typing_forms.specs.Said.{IsOneOf}
use Rattle.law_typing_env.proofs.Shown.{one_mapped}
use Rattle.law_load_plan.proofs.Checked.{compiled_marked}
use Rattle.law_program_names.proofs.Coming.{ComesFrom, comes_from}
use Rattle.law_local.proofs.Compiled.{comes_of, apart_of, short_is}
use Rattle.law_builds_ruled.proofs.ruled_laws.Builds.{names_laid}
use Rattle.ob_compile_model.specs.Compiling.{Compiled}
use Rattle.ob_builds.specs.Builds.{Text, Build, IsValid}
use Rattle.law_builds_joint.specs.Named.{MethodsDiffer, ProceduresAreNoTypes, AreNamedApart}
use Rattle.law_builds_joint.specs.Joint.{BuildsAreNamedApart}
use Rattle.law_builds_joint.proofs.Modules.{checked_named, laid_named}
use Rattle.law_builds_joint.proofs.Objects.{AreApart, checked_apart}
use Rattle.law_builds_joint.proofs.Outward.{outward_free, exported_free}
use Rattle.law_builds_joint.proofs.Nothing.{NoneNamed, no_types}

methods_apart : (b : Build) (c : Compiled Text) → IsValid b c → AreDistinct (λ t. t.name) c.tree.types → AllByRecursion (λ t. MethodsDiffer t.desc) c.tree.types
methods_apart b c valid names =
    let k : ComesFrom b.source c = comes_from b.source c _ valid.is in
    let from = comes_of b c k.tree valid k.read in
    let is : c.tree ≡ laid_out (described c.against) (module_view from.t) = ap (λ (y : Compiled Text). y.tree) from.is in
    let differ = names_laid (described c.against) (module_view from.t) from.t.types (subst (λ (m : Module). AreDistinct (λ (t : TypedType). t.name) m.types) is names) in
    let a = apart_of c k.tree from in
    let heads = headings_are_judged (shown c.against) k.tree from.t (faces_show k.tree.name.name c.against a.others a.fit) (headings_are_named b.source k.tree k.read) from.tree_is in
    let named = checked_named (shown c.against) k.tree from.t from.tree_is differ (readings_named b.source k.tree k.read).decls (λ out. heads) in
    subst (λ (m : Module). AllByRecursion (λ (t : TypedType). MethodsDiffer t.desc) m.types) (sym is) (laid_named (described c.against) (module_view from.t) from.t.types named)

-- a type that is laid out has the name that it had
laid_none : (types : QName → Option Desc) (m : Module) (ts : List TypedType) (x : List ℕ) → NoneNamed ts x → NoneNamed (map (laid_type types m) ts) x
laid_none types m ts x n t i e = let k = one_mapped (laid_type types m) ts t i in n k.0 k.1.0 (ap (λ (z : TypedType). z.name) k.1.1 ∙ e)

pub named_apart : (b : Build) (c : Compiled Text) → IsValid b c → AreDistinct (λ t. t.name) c.tree.types → AreNamedApart c.tree
named_apart b c valid names =
    let k : ComesFrom b.source c = comes_from b.source c _ valid.is in
    let from = comes_of b c k.tree valid k.read in
    let is : c.tree ≡ laid_out (described c.against) (module_view from.t) = ap (λ (y : Compiled Text). y.tree) from.is in
    let words = readings_are_worded b.source k.tree (short_is b c valid) k.read in
    let differ = names_laid (described c.against) (module_view from.t) from.t.types (subst (λ (m : Module). AreDistinct (λ (t : TypedType). t.name) m.types) is names) in
    let a : AreApart from.t = checked_apart (shown c.against) k.tree from.t words from.tree_is in
    let free = outward_free (shown c.against) k.tree from.t words (readings_named b.source k.tree k.read).decls from.tree_is differ in
    let procedures : ProceduresAreNoTypes c.tree = subst ProceduresAreNoTypes (sym is) (exported_free from.t.types (map (laid_type (described c.against) (module_view from.t)) from.t.types) from.t.procedures (λ x n. laid_none (described c.against) (module_view from.t) from.t.types x n) free) in
    let constants : (k : TypedConstant) → IsOneOf c.tree.constants k → NoneNamed c.tree.types k.name = subst (λ (m : Module). (k : TypedConstant) → IsOneOf m.constants k → NoneNamed m.types k.name) (sym is) (λ k i. laid_none (described c.against) (module_view from.t) from.t.types k.name (a.0 k i)) in
    let variables : (v : TypedVariable) → IsOneOf c.tree.variables v → NoneNamed c.tree.types v.name = subst (λ (m : Module). (v : TypedVariable) → IsOneOf m.variables v → NoneNamed m.types v.name) (sym is) (λ v i. laid_none (described c.against) (module_view from.t) from.t.types v.name (a.1 v i)) in
    record {
      objects = no_types c.tree (compiled_marked _ _ c valid.is).types constants variables procedures;
      methods = methods_apart b c valid names;
    }

pub builds_are_named_apart : BuildsAreNamedApart
builds_are_named_apart ruled b c valid = named_apart b c valid (ruled b c valid).names
