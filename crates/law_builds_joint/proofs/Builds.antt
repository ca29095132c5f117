-- A build that is loaded: the descriptions that it was compiled with say what its program declares.
use Rattle.std.proofs.Common.{◌≡◌, ◌≢◌, ℕ, Bool, true, false, List, [], ◌∷◌, ◌++◌, map as each, Some, None, refl, sym, ap, subst, ◌∙◌}
use Rattle.std.specs.Prelude.{cond, codes, bytes_eq, if◌then◌else◌}
use Rattle.std.specs.List.{AllByRecursion}
use Rattle.ob_tree.specs.declared.names.QName.{QName}
use Rattle.ob_tree.specs.declared.decl.Module.{Module as Tree}
use Rattle.ob_types.specs.declared.desc.Desc.{Desc}
use Rattle.ob_types.specs.declared.desc.Desc.TheVariants as desc
use Rattle.ob_types.specs.declared.typed.TypedType.{TypedType}
use Rattle.ob_types.specs.Maps.{is_type}
use Rattle.ob_types.specs.TypedSyntax.{Module}
use Rattle.ob_types.specs.TypedView.{module_view}
use Rattle.ob_meaning.specs.Values.{Program, type_named, description}
use Rattle.law_simulation_relation.proofs.Names.{bytes_true}
use Rattle.ob_format.specs.Format.{◌>>=◌}
use Rattle.ob_layout.specs.LaidOut.{type_named as own_named, is_own, viewed}
use Rattle.ob_env.specs.Faces.{Face, object_named, face_named, described, text_in}
use Rattle.ob_rules.specs.Names.{is_out}
use Rattle.ob_uses.specs.Made.{face_from}
use Rattle.law_typing_forms.proofs.Modules.{other_name}
use Rattle.law_names_distinct.specs.Distinct.{AreDistinct}
use Rattle.law_image_links.specs.Same.{ModuleSame}
use Rattle.law_local_files.specs.Agreeing.{Map}
use Rattle.law_local_files.specs.Checked.{IsChecked}
use Rattle.law_local_files.specs.Laws.{AreSpelled, HaveNoOut, AreMet, IsTied, over, view}
use Rattle.law_local_files.specs.Laws as local
use Rattle.law_local_files.specs.Agreeing.{IsNear}
use Rattle.law_local_files.proofs.Bridged.{counts_are_enough}
use Rattle.law_typing_env.proofs.Ordered.{types_named}
use Rattle.law_local_uses.proofs.Over.{modules_tie}
use Rattle.law_program_names.proofs.Grounded.{against_is_grounded}
use Rattle.law_local.proofs.Named.{found_all}
use Rattle.law_local.proofs.Walked.{have_none}
use Rattle.law_local.proofs.Compiled.{ComesOf}
use Rattle.ob_compile_model.specs.Compiling.{Compiled}
use Rattle.ob_builds.specs.Builds.{Text, Build, IsValid, IsSpelled, shows_of, tree_of, name_of}
use Rattle.ob_builds.specs.Local.{AreAsWanted}
use Rattle.law_program_runs.specs.Builds.{program_of}
use Rattle.law_builds_ruled.proofs.ruled_laws.Builds.{names_laid}
use Rattle.law_builds_loaded.proofs.Shown.{Showing, builds_show}
use Rattle.law_builds_seen.specs.Seen.{ModuleSeen}
use Rattle.law_builds_joint.specs.Named.{MethodsDiffer, AreNamedApart}
use Rattle.law_builds_joint.proofs.Shown.{FieldsDiffer}
use Rattle.law_builds_joint.proofs.Walk.{read_are_same}
use Rattle.law_builds_joint.proofs.Alike.{agree_as}
use Rattle.law_builds_joint.proofs.Others.{Declares, no_type, a_type, are_told}

-- ---- what a program has

find_desc : (P : Desc → Type 0) (ts : List TypedType) → AllByRecursion (λ t. P t.desc) ts → (x : List ℕ) (d : Desc) → type_named ts x ≡ Some d → P d
find_desc P [] h x d e = absurd cc
find_desc P (t ∷ ts) h x d e = by (bytes_eq x t.name) e (λ i. find_desc P ts h.1 x d i)
  where
    by : (b : Bool) → (if b then Some t.desc else type_named ts x) ≡ Some d → (type_named ts x ≡ Some d → P d) → P d
    by true e r = let k : t.desc ≡ d = cc in subst P k h.0
    by false e r = r e

-- what the interfaces of some builds show is declared in the program that they begin
pub has_at : (before rest : List Build) → AllByRecursion Showing before → AllByRecursion (λ k. AreNamedApart (tree_of k)) before → (q : QName) (x : Desc) → ((y : Desc) → description (program_of (before ++ rest)) q ≡ Some y → FieldsDiffer y) → described (each shows_of before) q ≡ Some x → Declares x (description (program_of (before ++ rest)) q)
has_at [] rest s n q x f e = absurd cc
has_at (b ∷ bs) rest s n q x f e = by (bytes_eq q.«module» (name_of b)) refl e (λ g i. has_at bs rest s.1 n.1 q x g i)
  where
    named : (k : Bool) → bytes_eq q.«module» (name_of b) ≡ k → bytes_eq q.«module» (tree_of b).name ≡ k
    named k i = ap (bytes_eq q.«module») (sym s.0.name) ∙ i

    is : (k : Bool) → bytes_eq q.«module» (name_of b) ≡ k → description (program_of (b ∷ (bs ++ rest))) q ≡ (if k then type_named (tree_of b).types q.object else description (program_of (bs ++ rest)) q)
    is k i = ap (λ (k : Bool). if k then type_named (tree_of b).types q.object else description (program_of (bs ++ rest)) q) (named k i)

    here : bytes_eq q.«module» (name_of b) ≡ true → object_named (shows_of b).objects q.object ≡ Some x → (t : Bool) → is_type x ≡ t → Declares x (description (program_of (b ∷ (bs ++ rest))) q)
    here i e false p = no_type p (is true i ∙ sym (types_named (tree_of b).types q.object) ∙ n.0.objects q.object x (ap (λ os. object_named os q.object) (sym s.0.objects) ∙ e) p)
    here i e true p =
        let there : described (shows_of b ∷ []) q ≡ Some x = ap (λ (t : Bool). cond t (Some (shows_of b)) None >>= λ (f : Face Text). object_named f.objects q.object) i ∙ e in
        let d = builds_show (b ∷ []) (s.0, tt) q x there p in
        let found : type_named (tree_of b).types q.object ≡ Some d.0 = sym (ap (λ (k : Bool). if k then type_named (tree_of b).types q.object else None) (named true i)) ∙ d.1.0 in
        a_type d.0 (is true i ∙ found) d.1.1 (f d.0 (is true i ∙ found)) (find_desc MethodsDiffer (tree_of b).types n.0.methods q.object d.0 found)

    by : (k : Bool) → bytes_eq q.«module» (name_of b) ≡ k → (cond k (Some (shows_of b)) (face_named (each shows_of bs) q.«module») >>= λ (f : Face Text). object_named f.objects q.object) ≡ Some x → (((y : Desc) → description (program_of (bs ++ rest)) q ≡ Some y → FieldsDiffer y) → described (each shows_of bs) q ≡ Some x → Declares x (description (program_of (bs ++ rest)) q)) → Declares x (description (program_of (b ∷ (bs ++ rest))) q)
    by true i e r = here i e (is_type x) refl
    by false i e r = subst (Declares x) (sym (is false i)) (r (λ y j. f y (is false i ∙ j)) e)

-- no module is Out
pub none_of_out : (bs : List Build) → AllByRecursion Showing bs → AllByRecursion (λ (f : Face Text). is_out f.«module» ≡ false) (each shows_of bs) → (q : QName) → bytes_eq q.«module» (codes "Out") ≡ true → description (program_of bs) q ≡ None
none_of_out [] s o q e = refl
none_of_out (b ∷ bs) s o q e =
    let other : bytes_eq q.«module» (tree_of b).name ≡ false = by (bytes_eq q.«module» (tree_of b).name) refl in
    ap (λ (k : Bool). if k then type_named (tree_of b).types q.object else description (program_of bs) q) other ∙ none_of_out bs s.1 o.1 q e
  where
    by : (k : Bool) → bytes_eq q.«module» (tree_of b).name ≡ k → k ≡ false
    by false i = refl
    by true i =
        let is : is_out (name_of b) ≡ true = ap is_out (s.0.name ∙ sym (bytes_true q.«module» (tree_of b).name i)) ∙ e in
        sym is ∙ o.0

-- a type of a module is found there, where no other before has the module's name
pub own_found : (ks : Program) (m : Module) (rest : Program) → AllByRecursion (λ k. k.name ≢ m.name) ks → (q : QName) → is_own m q ≡ true → description (ks ++ m ∷ rest) q ≡ own_named m.types q.object
own_found [] m rest h q e = ap (λ (k : Bool). if k then type_named m.types q.object else description rest q) e ∙ sym (types_named m.types q.object)
own_found (k ∷ ks) m rest h q e =
    let other : bytes_eq q.«module» k.name ≡ false = other_name q.«module» k.name (λ i. h.0 (sym i ∙ bytes_true q.«module» m.name e)) in
    ap (λ (b : Bool). if b then type_named k.types q.object else description (ks ++ m ∷ rest) q) other ∙ own_found ks m rest h.1 q e

-- ---- one build

module _ (b : Build) (c : Compiled Text) (valid : IsValid b c) (names : AreDistinct (λ t. t.name) c.tree.types) (tree : Tree) (from : ComesOf tree c) where
  abbrev T : Module
  T = module_view from.t

  tree_is : c.tree ≡ over c.against T
  tree_is = ap (λ (y : Compiled Text). y.tree) from.is

  differ : AreDistinct (λ t. t.name) from.t.types
  differ = names_laid (described c.against) T from.t.types (subst (λ (k : Module). AreDistinct (λ (t : TypedType). t.name) k.types) tree_is names)

  checked : IsChecked c.against T
  checked =
      let k = modules_tie c.against tree from.t from.tree_is (against_is_grounded b c valid) differ in
      record { tied = k.tied; held = k.held; types = found_all from.t.types differ }

  tied : IsTied c.against T
  tied = counts_are_enough c.against T checked

  spelled : AreSpelled c.against
  spelled = subst (λ fs. AllByRecursion IsSpelled fs) (sym valid.whole) valid.spelled

  no_out : HaveNoOut c.against
  no_out = have_none tree.name.name c.against from.clean

  pub same_by : (others : List (Face Text)) → AreSpelled others → HaveNoOut others → AreAsWanted others c.shows.uses →
      (map : Map) → ((q : QName) → is_own c.tree q ≡ true → map q ≡ own_named c.tree.types q.object) → ((q : QName) (x : Desc) → described others q ≡ Some x → Declares x (map q)) → ((q : QName) → bytes_eq q.«module» (codes "Out") ≡ true → map q ≡ None) →
      ModuleSeen (viewed (described c.against) c.tree) c.tree → ModuleSame (viewed (described c.against) c.tree) map c.tree
  same_by others spelled_too no_out_too wanted map own has out see =
      let met : AreMet others (face_from text_in c.against T).uses = subst (λ (y : Compiled Text). AreAsWanted others y.shows.uses) from.is wanted in
      let own_too : (q : QName) → is_own (over c.against T) q ≡ true → map q ≡ own_named (over c.against T).types q.object = subst (λ (k : Module). (q : QName) → is_own k q ≡ true → map q ≡ own_named k.types q.object) tree_is own in
      let see_too : ModuleSeen (view c.against T) (over c.against T) = subst (λ (k : Module). ModuleSeen (viewed (described c.against) k) k) tree_is see in
      let told = are_told c.against others T spelled spelled_too no_out no_out_too tied met map own_too has out in
      let S : QName → Type 0 = IsNear (view c.against T) (over c.against T) in
      let L : QName → Type 0 = local.IsLaid (view c.against T) (over c.against T) in
      subst (λ (k : Module). ModuleSame (viewed (described c.against) k) map k) (sym tree_is) (read_are_same c.against T tied map (agree_as (view c.against T) map S L told) see_too)
