-- The program of builds that are loaded together is whole.
use Rattle.std.proofs.Common.{◌≡◌, ◌≢◌, refl, sym, ap, ◌∙◌, subst, ℕ, Bool, true, false, List, [], ◌∷◌, ◌++◌, map, None, cond}
use Rattle.std.specs.Prelude.{◌&&◌, bytes_eq, codes, MatchOption, IsTrue}
use Rattle.std.specs.List.{AllByRecursion, IsDistinct}
use Rattle.std.proofs.lemmas.Bool.{false≢true}
use Rattle.std.proofs.lemmas.Slice.Eq.{bytes_eq-Decides}
use Rattle.ob_tree.specs.declared.names.QName.{QName}
use Rattle.ob_types.specs.declared.types.TypeRef.{TypeRef}
use Rattle.ob_types.specs.declared.types.TypeRef.TheVariants as ref
use Rattle.ob_types.specs.declared.typed.TypedType.{TypedType}
use Rattle.ob_types.specs.declared.typed.TypedVariable.{TypedVariable}
use Rattle.ob_types.specs.Maps.{is_type, IsHeld}
use Rattle.ob_types.specs.TypedSyntax.{Procedure, Module}
use Rattle.ob_meaning.specs.Values.{Program}
use Rattle.ob_rules.specs.Names.{is_out, out_string}
use Rattle.ob_rules.specs.Shapes.{same_name}
use Rattle.ob_layout.specs.LaidOut.{type_named}
use Rattle.ob_env.specs.Faces.{described}
use Rattle.law_simulation_relation.proofs.Names.{bytes_sym}
use Rattle.law_names_distinct.specs.Distinct.{AreDistinct}
use Rattle.law_local_files.proofs.Agreed.{out_none}
use Rattle.ob_compile_model.specs.Compiling.{Compiled}
use Rattle.ob_builds.specs.Builds.{Text, Build, IsValid, of, tree_of}
use Rattle.ob_builds.specs.Afresh.{AreTogether}
use Rattle.law_builds.proofs.Apart.{build_apart}
use Rattle.law_builds.proofs.Faces.{of_is}
use Rattle.law_program_runs.specs.Builds.{program_of}
use Rattle.law_typing_forms.specs.Formed.{IsDeclared}
use Rattle.law_typing_forms.specs.Whole.{Different, HeadingOk, IsWholeModule}
use Rattle.law_local.proofs.Compiled.{comes_of, apart_of}
use Rattle.law_program_names.proofs.Different.{build_comes, names_differ}
use Rattle.law_builds_ruled.specs.ruled_laws.Ruled.{types_of, BuildsAreRuled}
use Rattle.law_builds_loaded.specs.whole_laws.Whole.{LoadedWhole}

-- ---- names that differ

types_different : (ts : List TypedType) → AreDistinct (λ t. t.name) ts → Different (λ t. t.name) ts
types_different [] h = tt
types_different (t ∷ ts) h = (h.0, types_different ts h.1)

fresh : (x : List ℕ) (ps : List Procedure) → AllByRecursion (λ y. bytes_eq x y ≡ false) (map (λ p. p.name) ps) → AllByRecursion (λ p. p.name ≢ x) ps
fresh x [] h = tt
fresh x (p ∷ ps) h = ((λ e. false≢true (sym h.0 ∙ (bytes_eq-Decides x p.name).1 (sym e))), fresh x ps h.1)

procedures_different : (ps : List Procedure) → IsDistinct bytes_eq (map (λ p. p.name) ps) → Different (λ p. p.name) ps
unfolding IsDistinct
procedures_different [] h = tt
procedures_different (p ∷ ps) h = (fresh p.name ps h.0, procedures_different ps h.1)

-- ---- a build

module _ (ruled : BuildsAreRuled) (b : Build) (c : Compiled Text) (valid : IsValid b c) where
  apart : is_out c.tree.name ≡ false
  apart = (build_apart b c valid).out

  own_other : bytes_eq (codes "Out") c.tree.name ≡ false
  own_other = bytes_sym (codes "Out") c.tree.name ∙ apart

  -- nothing of Out is among its types
  out_not : (q : QName) → bytes_eq q.«module» (codes "Out") ≡ true → types_of c q ≡ None
  out_not q e =
      let s = build_comes b c valid in
      let o : bytes_eq q.«module» c.tree.name ≡ false = ap (λ (x : List ℕ). bytes_eq x c.tree.name) ((bytes_eq-Decides q.«module» (codes "Out")).0 e) ∙ own_other in
      ap (λ k. cond k (type_named c.tree.types q.object) (described c.against q)) o ∙ out_none c.against (apart_of c s.tree (comes_of b c s.tree valid s.read)).out q e

  declared : (t : TypeRef) → IsHeld (types_of c) t → IsDeclared t
  declared (ref.Basic k) h = tt
  declared (ref.Named q) h = by (bytes_eq q.«module» (codes "Out")) refl
    where
      by : (k : Bool) → bytes_eq q.«module» (codes "Out") ≡ k → same_name q out_string ≡ false
      by true e = absurd (subst (λ o. MatchOption o ⊥ (λ d. IsTrue (is_type d))) (out_not q e) h)
      by false e = ap (λ k. k && bytes_eq q.object out_string.object) e

  all_declared : (vs : List TypedVariable) → AllByRecursion (λ v. IsHeld (types_of c) v.of) vs → AllByRecursion (λ v. IsDeclared v.of) vs
  all_declared [] h = tt
  all_declared (v ∷ vs) h = (declared v.of h.0, all_declared vs h.1)

  module_whole : (program : Program) → AllByRecursion (HeadingOk program) c.tree.procedures → Different (λ v. v.name) c.tree.variables → IsWholeModule program c.tree
  module_whole program headings variables =
      let r = ruled b c valid in
      record {
        types = types_different c.tree.types r.names;
        procedures = procedures_different c.tree.procedures (build_apart b c valid).procedures;
        variables = variables;
        declared = all_declared c.tree.variables r.variables;
        headings = headings;
      }

all_whole : (ruled : BuildsAreRuled) (program : Program) (before bs : List Build) → AreTogether before bs → AllByRecursion (λ (m : Module). AllByRecursion (HeadingOk program) m.procedures) (program_of bs) → AllByRecursion (λ (m : Module). Different (λ v. v.name) m.variables) (program_of bs) → AllByRecursion (IsWholeModule program) (program_of bs)
all_whole ruled program before [] h p v = tt
all_whole ruled program before (b ∷ bs) h p v =
    let c = h.0.valid.0 in
    let k = h.0.valid.1 in
    let same : c.tree ≡ tree_of b = ap (λ (x : Compiled Text). x.tree) (sym (of_is b c k)) in (
      subst (λ (x : Module). AllByRecursion (HeadingOk program) x.procedures → Different (λ v. v.name) x.variables → IsWholeModule program x) same (module_whole ruled b c k program) p.0 v.0,
      all_whole ruled program (before ++ b ∷ []) bs h.1 p.1 v.1,
    )

pub loaded_whole : LoadedWhole
loaded_whole ruled passed bs l = let n = names_differ bs l in record { names = n.0; modules = all_whole ruled (program_of bs) [] bs l.together (passed bs l) n.1 }
