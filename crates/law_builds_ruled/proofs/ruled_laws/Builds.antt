-- Each build is ruled.
use Rattle.std.proofs.Common.{◌≡◌, refl, sym, ap, ◌∙◌, subst, ℕ, Bool, true, false, List, [], ◌∷◌, map as each, Option, Some, None}
use Rattle.std.specs.Prelude.{◌≢◌, bytes_eq, cond}
use Rattle.std.specs.List.{AllByRecursion}
use Rattle.ob_tree.specs.declared.names.QName.{QName}
use Rattle.ob_types.specs.declared.types.TypeRef.{TypeRef}
use Rattle.ob_types.specs.declared.desc.Desc.{Desc}
use Rattle.ob_types.specs.declared.desc.Desc.TheVariants as desc
use Rattle.ob_types.specs.declared.typed.TypedType.{TypedType}
use Rattle.ob_types.specs.Relations.{IsGrounded}
use Rattle.ob_types.specs.TypedSyntax.{Module}
use Rattle.ob_types.specs.TypedView.{module_view}
use Rattle.ob_layout.specs.LaidOut.{laid_desc, laid_type, laid_out, words_in, procedures_in}
use Rattle.ob_env.specs.Faces.{Face, face_named, described}
use Rattle.ob_env.specs.Shown.{shown}
use Rattle.ob_env_walk.specs.Walk.{Holds}
use Rattle.ob_compile_model.specs.Compiling.{Compiled}
use Rattle.law_simulation_relation.proofs.Names.{bytes_true}
use Rattle.law_names_distinct.specs.Distinct.{AreDistinct}
use Rattle.law_methods_described.proofs.Blocks.{types_described}
use Rattle.law_spelling_read.proofs.Trees.{readings_spelled}
use Rattle.law_spelling.specs.Seen.{AreNamedEntries, LengthFits}
use Rattle.law_spelling_values.proofs.Compiled.{compiled_in_range}
use Rattle.ob_builds.specs.Builds.{Text, Build, IsValid, IsSpelled, entry_of}
use Rattle.law_local.proofs.Compiled.{ComesOf, comes_of, checked_name, apart_of}
use Rattle.law_program_names.proofs.Different.{build_comes}
use Rattle.law_program_names.proofs.Grounded.{against_is_grounded}
use Rattle.law_methods_bound.specs.Bound.{HasElements}
use Rattle.law_methods_bound.proofs.Modules.{methods_there, arrays_have}
use Rattle.law_builds_ruled.specs.ruled_laws.Variables.{IsDeclaredWell}
use Rattle.law_builds_ruled.specs.ruled_laws.Ruled.{types_of, HasLength, IsRuled, BuildsKeepRules}
use Rattle.law_builds_ruled.proofs.ruled_laws.Modules.{variables_declared_well}
use Rattle.law_builds_ruled.proofs.ruled_laws.Near.{bound_near}
use Rattle.law_builds_ruled.proofs.ruled_laws.Closed.{variables_held, variables_closed}

-- ---- lengths

length_is : (w p : TypeRef → ℕ) (q : QName) (d : Desc) → HasElements d → LengthFits (laid_desc w p q d) → HasLength (laid_desc w p q d)
length_is w p q (desc.Array m n t) h k = (h, k)
length_is w p q (desc.Record r) h k = tt
length_is w p q (desc.Const v) h k = tt
length_is w p q (desc.Var m t) h k = tt
length_is w p q (desc.Proc s) h k = tt
length_is w p q (desc.Alias m t) h k = tt
length_is w p q (desc.OpenArray m t) h k = tt
length_is w p q (desc.Pointer m t) h k = tt
length_is w p q (desc.ProcType m s) h k = tt

lengths_are : (map : QName → Option Desc) (m : Module) (ts : List TypedType) → AllByRecursion (λ t. HasElements t.desc) ts → AllByRecursion (λ t. LengthFits t.desc) (each (laid_type map m) ts) → AllByRecursion (λ t. HasLength t.desc) (each (laid_type map m) ts)
lengths_are map m [] h k = tt
lengths_are map m (t ∷ ts) h k = (length_is (words_in map m) (procedures_in map m) (record { «module» = m.name; object = t.name }) t.desc h.0 k.0, lengths_are map m ts h.1 k.1)

-- ---- names

others_laid : (map : QName → Option Desc) (m : Module) (x : List ℕ) (ts : List TypedType) → AllByRecursion (λ (t : TypedType). t.name ≢ x) (each (laid_type map m) ts) → AllByRecursion (λ (t : TypedType). t.name ≢ x) ts
others_laid map m x [] h = tt
others_laid map m x (t ∷ ts) h = (h.0, others_laid map m x ts h.1)

pub names_laid : (map : QName → Option Desc) (m : Module) (ts : List TypedType) → AreDistinct (λ t. t.name) (each (laid_type map m) ts) → AreDistinct (λ t. t.name) ts
names_laid map m [] h = tt
names_laid map m (t ∷ ts) h = (others_laid map m t.name ts h.0, names_laid map m ts h.1)

-- ---- entries

named_face : (fs : List (Face Text)) (x : List ℕ) (f : Face Text) → face_named fs x ≡ Some f → x ≡ f.«module»
named_face [] x f e = absurd cc
named_face (g ∷ fs) x f e = by (bytes_eq x g.«module») refl e (named_face fs x f)
  where
    by : (b : Bool) → bytes_eq x g.«module» ≡ b → cond b (Some g) (face_named fs x) ≡ Some f → (face_named fs x ≡ Some f → x ≡ f.«module») → x ≡ f.«module»
    by true i e r = let same : g ≡ f = cc in bytes_true x g.«module» i ∙ ap (λ (y : Face Text). y.«module») same
    by false i e r = r e

entries_named : (fs : List (Face Text)) → AreNamedEntries (λ name. entry_of (face_named fs name))
entries_named fs x f e = by (face_named fs x) refl e
  where
    by : (o : Option (Face Text)) → face_named fs x ≡ o → entry_of o ≡ Holds f → x ≡ f.«module»
    by None i e = absurd cc
    by (Some g) i e = let same : g ≡ f = cc in named_face fs x f (i ∙ ap (λ y. Some y) same)

-- ---- a build

module _ (b : Build) (c : Compiled Text) (valid : IsValid b c) where
  ruled : AreDistinct (λ t. t.name) c.tree.types → IsGrounded (types_of c) → IsRuled c
  ruled names grounded =
      let s = build_comes b c valid in
      let k : ComesOf s.tree c = comes_of b c s.tree valid s.read in
      let away = apart_of c s.tree k in
      let faces = c.against in
      let m = k.t in
      let name : m.name ≡ s.tree.name.name = checked_name (shown faces) s.tree m k.tree_is in
      let range = compiled_in_range (λ name. entry_of (face_named b.against name)) (entries_named b.against) (Some b.source) c valid.is (subst (λ fs. AllByRecursion IsSpelled fs) (sym valid.whole) valid.spelled) in
      let tree_is : c.tree ≡ laid_out (described faces) (module_view m) = ap (λ (x : Compiled Text). x.tree) k.is in
      let differ : AreDistinct (λ t. t.name) m.types = names_laid (described faces) (module_view m) m.types (subst (λ (x : Module). AreDistinct (λ t. t.name) x.types) tree_is names) in
      let well : AllByRecursion (IsDeclaredWell m.name (shown faces) m.types) m.variables = variables_declared_well (shown faces) s.tree m k.tree_is (readings_spelled b.source s.tree s.read) away.imports differ in
      let types = types_described (shown faces) s.tree m k.tree_is in
      let outside = against_is_grounded b c valid in
      let others = subst (λ (x : List ℕ). AllByRecursion (λ (f : Face Text). bytes_eq f.«module» x ≡ false) faces) (sym name) away.others in
      subst (λ (x : Module). IsRuled (record { tree = x; against = faces; shows = c.shows })) (sym tree_is) (record {
        names = subst (λ (x : Module). AreDistinct (λ t. t.name) x.types) tree_is names;
        grounded = subst (λ (x : Module). IsGrounded (types_of (record { tree = x; against = faces; shows = c.shows }))) tree_is grounded;
        bound = bound_near (described faces) m (types_of (record { tree = laid_out (described faces) (module_view m); against = faces; shows = c.shows })) (methods_there (shown faces) s.tree m k.tree_is);
        lengths = lengths_are (described faces) (module_view m) m.types (arrays_have (shown faces) s.tree m k.tree_is) (subst (λ (x : Module). AllByRecursion (λ t. LengthFits t.desc) x.types) tree_is range.lengths);
        variables = variables_held faces m types differ outside others away.out m.variables well;
        closed = variables_closed faces m types differ outside others away.out (subst (λ (x : Module). IsGrounded (types_of (record { tree = x; against = faces; shows = c.shows }))) tree_is grounded) m.variables well;
      })

pub builds_keep_rules : BuildsKeepRules
builds_keep_rules differ grounded b c valid = ruled b c valid (differ b c valid) (grounded b c valid)
