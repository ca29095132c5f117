-- The modules of builds that are loaded together stand in order.
use Rattle.std.proofs.Common.{◌≡◌, ◌≢◌, ℕ, Bool, true, false, List, [], ◌∷◌, ◌++◌, map as each, Option, Some, refl, sym, ap, subst, ◌∙◌, inl, inr, append_assoc}
use Rattle.std.proofs.lemmas.Bool.{false≢true}
use Rattle.std.specs.Prelude.{◌||◌, Contains, cond, codes, bytes_eq, MatchOption, IsTrue}
use Rattle.std.specs.List.{AllByRecursion}
use Rattle.ob_tree.specs.declared.names.QName.{QName}
use Rattle.ob_types.specs.declared.face.Aspect.{Aspect}
use Rattle.ob_types.specs.declared.types.TypeRef.{TypeRef}
use Rattle.ob_types.specs.declared.types.TypeRef.TheVariants as ref
use Rattle.ob_types.specs.declared.desc.Desc.{Desc}
use Rattle.ob_types.specs.declared.desc.Desc.TheVariants as desc
use Rattle.ob_types.specs.declared.typed.TypedVariable.{TypedVariable}
use Rattle.ob_types.specs.declared.typed.TypedParameter.{TypedParameter}
use Rattle.ob_types.specs.Maps.{is_type, listed, IsHeld}
use Rattle.ob_types.specs.Relations.{Is, is_open}
use Rattle.ob_types.specs.TypedSyntax.{Procedure, Module}
use Rattle.ob_meaning.specs.Values.{Program, description}
use Rattle.ob_layout.specs.LaidOut.{type_named, is_own}
use Rattle.ob_format.specs.Format.{◌>>=◌}
use Rattle.ob_desc.specs.Grammar.{text_of}
use Rattle.ob_env.specs.Faces.{Face, Wanted, face_named, object_named, described, text_in}
use Rattle.ob_rules.specs.Names.{is_out}
use Rattle.ob_uses.specs.Made.{face_of_laid}
use Rattle.law_names_distinct.proofs.Blocks.{not_out}
use Rattle.law_local_files.specs.Agreeing.{IsNear, On}
use Rattle.law_local_files.specs.Laws.{AreSpelled, HaveNoOut}
use Rattle.law_typing_env.specs.Near.{core}
use Rattle.law_typing_env.specs.Near as declares
use Rattle.law_typing_env.specs.Ordered.{bare, StandsOver, StandInOrder}
use Rattle.law_typing_env.proofs.Near.{users_stand, used_seen}
use Rattle.law_typing_env.proofs.Keeping.{open_kind, kind_back}
use Rattle.law_typing_env.proofs.Ordered.{AreSound, has_more, view_held, held_more, in_order_sound, program_sound}
use Rattle.ob_compile_model.specs.Compiling.{Compiled}
use Rattle.law_load_plan.proofs.Checked.{compiled_marked}
use Rattle.ob_builds.specs.Builds.{Text, Build, IsValid, IsSpelled, of, shows_of, tree_of, name_of}
use Rattle.ob_builds.specs.Local.{AreAsWanted}
use Rattle.ob_builds.specs.Afresh.{AreTogether, IsBehind}
use Rattle.ob_builds.specs.Written.{BuildsAreWritten}
use Rattle.law_builds.proofs.Members.{In, to_in, has_head, has_more as has_behind}
use Rattle.law_builds.proofs.Faces.{of_is}
use Rattle.law_program_runs.specs.Builds.{program_of}
use Rattle.law_typing_values.proofs.Stays.{values_stay}
use Rattle.law_local.proofs.Compiled.{comes_of}
use Rattle.law_local.proofs.Named.{found_all}
use Rattle.law_local.proofs.Walked.{have_none}
use Rattle.law_program_names.proofs.Different.{build_comes}
use Rattle.law_builds_ruled.specs.ruled_laws.Ruled.{types_of, BuildsAreRuled}
use Rattle.law_builds_loaded.specs.Loaded.{LoadedStand, LoadedFormsStay, LoadedValuesStay}
use Rattle.law_builds_loaded.specs.Staying.{AreVariablesHeld}
use Rattle.law_builds_loaded.specs.Sound.{AreVariablesClosed}
use Rattle.law_builds_loaded.proofs.Closed.{all_closed}
use Rattle.law_builds_loaded.proofs.Shown.{Showing, builds_show}
use Rattle.law_builds_loaded.proofs.Staying.{record_stays, ordered_stay}
use Rattle.law_builds_loaded.proofs.Used.{IsInside, ShownNow, near, variables_near, held_near, parameters_near, insides_near, are_used, shown_now}
use Rattle.law_lists.proofs.Lists.{all_last, each_last}

-- ---- lists

-- ---- the builds before one

abbrev IsNotOut : Face Text → Type 0
IsNotOut f = is_out f.«module» ≡ false

pub record Before (before : List Build) : Type 0 where
  pub showing : AllByRecursion Showing before
  pub spelled : AllByRecursion IsSpelled (each shows_of before)
  pub out : AllByRecursion IsNotOut (each shows_of before)
  -- each has the texts of its uses among them
  pub met : AllByRecursion (λ f. AreAsWanted (each shows_of before) f.uses) (each shows_of before)

-- the texts that some interfaces have are there with more behind
text_more : (xs ys : List (Face Text)) (q : QName) (a : Aspect) (t : Text) → text_in xs q a ≡ Some t → text_in (xs ++ ys) q a ≡ Some t
text_more [] ys q a t e = absurd cc
text_more (f ∷ xs) ys q a t e = by (bytes_eq q.«module» f.«module») e (text_more xs ys q a t)
  where
    by : (b : Bool) → ((cond b (Some f) (face_named xs q.«module») >>= λ (g : Face Text). object_named g.objects q.object) >>= λ d. text_of q d a) ≡ Some t → (text_in xs q a ≡ Some t → text_in (xs ++ ys) q a ≡ Some t) → ((cond b (Some f) (face_named (xs ++ ys) q.«module») >>= λ (g : Face Text). object_named g.objects q.object) >>= λ d. text_of q d a) ≡ Some t
    by true e r = e
    by false e r = r e

wanted_more : (xs ys : List (Face Text)) (us : List (Wanted Text)) → AreAsWanted xs us → AreAsWanted (xs ++ ys) us
wanted_more xs ys [] h = tt
wanted_more xs ys (u ∷ us) h = (text_more xs ys u.object u.aspect u.kept h.0, wanted_more xs ys us h.1)

all_more_wanted : (xs ys fs : List (Face Text)) → AllByRecursion (λ f. AreAsWanted xs f.uses) fs → AllByRecursion (λ f. AreAsWanted (xs ++ ys) f.uses) fs
all_more_wanted xs ys [] h = tt
all_more_wanted xs ys (f ∷ fs) h = (wanted_more xs ys f.uses h.0, all_more_wanted xs ys fs h.1)

parameters_from : (P : QName → Type 0) (Q : TypeRef → Type 0) → ((t : TypeRef) → On P t → Q t) → (xs : List TypedParameter) → AllByRecursion (λ x. On P x.of) xs → AllByRecursion (λ x. Q x.of) xs
parameters_from P Q f [] h = tt
parameters_from P Q f (x ∷ xs) h = (f x.of h.0, parameters_from P Q f xs h.1)

all_parameters : (P : QName → Type 0) (Q : TypeRef → Type 0) → ((t : TypeRef) → On P t → Q t) → (ps : List Procedure) → AllByRecursion (λ p. AllByRecursion (λ x. On P x.of) p.parameters) ps → AllByRecursion (λ p. AllByRecursion (λ x. Q x.of) p.parameters) ps
all_parameters P Q f [] h = tt
all_parameters P Q f (p ∷ ps) h = (parameters_from P Q f p.parameters h.0, all_parameters P Q f ps h.1)

variables_from : (P : QName → Type 0) (Q : TypeRef → Type 0) → ((t : TypeRef) → On P t → Q t) → (vs : List TypedVariable) → AllByRecursion (λ v. On P v.of) vs → AllByRecursion (λ v. Q v.of) vs
variables_from P Q f [] h = tt
variables_from P Q f (v ∷ vs) h = (f v.of h.0, variables_from P Q f vs h.1)

types_from : (P : QName → Type 0) (Q : TypeRef → Type 0) → ((t : TypeRef) → On P t → Q t) → (ts : List TypeRef) → AllByRecursion (On P) ts → AllByRecursion Q ts
types_from P Q f [] h = tt
types_from P Q f (t ∷ ts) h = (f t h.0, types_from P Q f ts h.1)

all_insides : (P : QName → Type 0) (Q : TypeRef → Type 0) → ((t : TypeRef) → On P t → Q t) → (ps : List Procedure) → AllByRecursion (IsInside (On P)) ps → AllByRecursion (IsInside Q) ps
all_insides P Q f [] h = tt
all_insides P Q f (p ∷ ps) h = ((variables_from P Q f p.locals h.0.0, types_from P Q f (listed p.result) h.0.1), all_insides P Q f ps h.1)

-- the types of other modules that a build uses, as they are there, and as interfaces show them now
pub record Uses (before : List Build) (b : Build) : Type 0 where
  pub near : QName → Bool
  pub over : StandsOver (program_of before) (tree_of b)
  pub used : declares.AreUsed (program_of before) (tree_of b) (described (of b).against) near
  pub seen : (q : QName) (e : Desc) → near q ≡ true → description (program_of before) q ≡ Some e → over.others q ≡ Some (bare e)
  pub types : AllByRecursion (λ t. is_type t.desc ≡ true) (tree_of b).types
  -- the types of the parameters of its procedures are among them
  pub passed : AllByRecursion (λ p. AllByRecursion (λ x. IsHeld (types_of (of b)) x.of → declares.IsNear (tree_of b) near x.of) p.parameters) (tree_of b).procedures
  -- and so are those of their local variables and results
  pub inside : AllByRecursion (IsInside (λ t. IsHeld (types_of (of b)) t → declares.IsNear (tree_of b) near t)) (tree_of b).procedures
  -- and those of its variables
  pub variables : AllByRecursion (λ v. declares.IsNear (tree_of b) near v.of) (tree_of b).variables
  pub shown : (q : QName) → is_own (tree_of b) q ≡ false → near q ≡ true → ShownNow (program_of before) (each shows_of before) (tree_of b) near q

none_out : (fs : List (Face Text)) → AllByRecursion IsNotOut fs → In (each (λ (f : Face Text). f.«module») fs) (codes "Out") → ⊥
none_out [] h i = i
none_out (f ∷ fs) h (inl e) = false≢true (sym h.0 ∙ ap is_out e)
none_out (f ∷ fs) h (inr i) = none_out fs h.1 i

pub have_no_out : (fs : List (Face Text)) → AllByRecursion IsNotOut fs → HaveNoOut fs
have_no_out fs h c = none_out fs h (to_in (each (λ (f : Face Text). f.«module») fs) (codes "Out") c)

names_fresh : (n : List ℕ) (xs : List Build) → AllByRecursion Showing xs → (Contains (each name_of xs) n → ⊥) → AllByRecursion (λ (k : Module). k.name ≢ n) (program_of xs)
names_fresh n [] h never = tt
names_fresh n (x ∷ xs) h never = (
  λ e. never (subst (Contains (name_of x ∷ each name_of xs)) (h.0.name ∙ e) (has_head (name_of x) (each name_of xs))),
  names_fresh n xs h.1 (λ c. never (has_behind (name_of x) (each name_of xs) n c)),
)

-- ---- types of variables

core_type : (d : Desc) → is_type (core d) ≡ is_type d
core_type (desc.Const v) = refl
core_type (desc.Var m t) = refl
core_type (desc.Proc s) = refl
core_type (desc.Alias m t) = refl
core_type (desc.Array m n t) = refl
core_type (desc.OpenArray m t) = refl
core_type (desc.Pointer m t) = refl
core_type (desc.ProcType m s) = refl
core_type (desc.Record r) = refl

abbrev IsTypeIn : Option Desc → Type 0
IsTypeIn o = MatchOption o ⊥ (λ d. IsTrue (is_type d))

all_held : (types larger : QName → Option Desc) → ((t : TypeRef) → IsHeld types t → IsHeld larger t) → (vs : List TypedVariable) → AllByRecursion (λ v. IsHeld types v.of) vs → AllByRecursion (λ v. IsHeld larger v.of) vs
all_held types larger more [] h = tt
all_held types larger more (v ∷ vs) h = (more v.of h.0, all_held types larger more vs h.1)

all_modules_held : (types larger : QName → Option Desc) → ((t : TypeRef) → IsHeld types t → IsHeld larger t) → (ks : List Module) → AllByRecursion (λ k. AllByRecursion (λ v. IsHeld types v.of) k.variables) ks → AllByRecursion (λ k. AllByRecursion (λ v. IsHeld larger v.of) k.variables) ks
all_modules_held types larger more [] h = tt
all_modules_held types larger more (k ∷ ks) h = (all_held types larger more k.variables h.0, all_modules_held types larger more ks h.1)

all_closed_on : (types larger : QName → Option Desc) → ((t : TypeRef) → IsHeld types t → (Is types is_open t → ⊥) → Is larger is_open t → ⊥) → (vs : List TypedVariable) → AllByRecursion (λ v. IsHeld types v.of) vs → AllByRecursion (λ v. Is types is_open v.of → ⊥) vs → AllByRecursion (λ v. Is larger is_open v.of → ⊥) vs
all_closed_on types larger more [] h never = tt
all_closed_on types larger more (v ∷ vs) h never = (more v.of h.0 never.0, all_closed_on types larger more vs h.1 never.1)

all_modules_closed : (types larger : QName → Option Desc) → ((t : TypeRef) → IsHeld types t → (Is types is_open t → ⊥) → Is larger is_open t → ⊥) → (ks : List Module) → AllByRecursion (λ k. AllByRecursion (λ v. IsHeld types v.of) k.variables) ks → AllByRecursion (λ k. AllByRecursion (λ v. Is types is_open v.of → ⊥) k.variables) ks → AllByRecursion (λ k. AllByRecursion (λ v. Is larger is_open v.of → ⊥) k.variables) ks
all_modules_closed types larger more [] h never = tt
all_modules_closed types larger more (k ∷ ks) h never = (all_closed_on types larger more k.variables h.0 never.0, all_modules_closed types larger more ks h.1 never.1)

-- types are sound, and those of variables are types, and no open arrays
pub record Kept (program : Program) : Type 0 where
  pub sound : AreSound program
  pub held : AreVariablesHeld program
  pub closed : AreVariablesClosed program

-- what is near and held where the module was compiled is held in the program
module _ (c : Compiled Text) (before : Program) (over : StandsOver before c.tree) (near : QName → Bool) (used : declares.AreUsed before c.tree (described c.against) near) where
  near_held : (t : TypeRef) → declares.IsNear c.tree near t → IsHeld (types_of c) t → IsHeld (description (before ++ c.tree ∷ [])) t
  near_held (ref.Basic b) n h = tt
  near_held (ref.Named q) n h = by (is_own c.tree q) refl
    where
      by : (b : Bool) → is_own c.tree q ≡ b → IsHeld (description (before ++ c.tree ∷ [])) (ref.Named q)
      by true e = view_held before c.tree over (ref.Named q) (subst (λ (b : Bool). IsTypeIn (cond b (type_named c.tree.types q.object) (over.others q))) (sym e) (subst (λ (b : Bool). IsTypeIn (cond b (type_named c.tree.types q.object) (described c.against q))) e h))
      by false e =
          let u = used.others q e (ap (λ (b : Bool). b || near q) (sym e) ∙ n) in
          let ty : is_type u.e ≡ true = sym (core_type u.e) ∙ ap is_type u.alike ∙ core_type u.d ∙ u.type in
          held_more (description before) (description (before ++ c.tree ∷ [])) (has_more before c.tree over) (ref.Named q) (subst IsTypeIn (sym u.has) ty)

  all_near_held : (vs : List TypedVariable) → AllByRecursion (λ v. declares.IsNear c.tree near v.of) vs → AllByRecursion (λ v. IsHeld (types_of c) v.of) vs → AllByRecursion (λ v. IsHeld (description (before ++ c.tree ∷ [])) v.of) vs
  all_near_held [] n h = tt
  all_near_held (v ∷ vs) n h = (near_held v.of n.0 h.0, all_near_held vs n.1 h.1)

-- ---- one more

module _ (written : BuildsAreWritten) (ruled : BuildsAreRuled) where
  pub valid_of : (b : Build) (x : Compiled Text) → IsValid b x → IsValid b (of b)
  valid_of b x v = subst (IsValid b) (sym (of_is b x v)) v

  module _ (b : Build) (x : Compiled Text) (v : IsValid b x) where
    shows_is : (of b).shows ≡ face_of_laid (text_in (of b).against) (of b).against (of b).tree
    shows_is = subst (λ (y : Compiled Text). y.shows ≡ face_of_laid (text_in y.against) y.against y.tree) (sym (build_comes b x v).is) refl

    not_out_here : is_out (tree_of b).name ≡ false
    not_out_here = let k = build_comes b x v in subst (λ (y : Compiled Text). is_out y.tree.name ≡ false) (sym k.is) (not_out _ k.tree k.module_is k.checked_is)

    showing : Showing b
    showing = record {
      name = ap (λ (f : Face Text). f.«module») shows_is;
      objects = ap (λ (f : Face Text). f.objects) shows_is;
      types = (ruled b (of b) (valid_of b x v)).names;
    }

    spelled_here : AreSpelled (of b).against
    spelled_here = let w = valid_of b x v in subst (λ fs. AllByRecursion IsSpelled fs) (sym w.whole) w.spelled

    no_out_here : HaveNoOut (of b).against
    no_out_here = let k = build_comes b x v in have_none k.tree.name.name (of b).against (comes_of b (of b) k.tree (valid_of b x v) k.read).clean

  pub before_more : (before : List Build) (b : Build) → Before before → IsBehind before b → Before (before ++ b ∷ [])
  before_more before b k h =
      let s = showing b h.valid.0 h.valid.1 in
      let e : each shows_of before ++ shows_of b ∷ [] ≡ each shows_of (before ++ b ∷ []) = sym (each_last shows_of before b) in
      record {
        showing = all_last Showing before b k.showing s;
        spelled = subst (λ fs. AllByRecursion IsSpelled fs) e (all_last IsSpelled (each shows_of before) (shows_of b) k.spelled (written b (of b) (valid_of b h.valid.0 h.valid.1)).symbols);
        out = subst (λ fs. AllByRecursion IsNotOut fs) e (all_last IsNotOut (each shows_of before) (shows_of b) k.out (ap is_out s.name ∙ not_out_here b h.valid.0 h.valid.1));
        met =
            subst (λ gs. AllByRecursion (λ f. AreAsWanted gs f.uses) gs) e
            (all_last (λ f. AreAsWanted (each shows_of before ++ shows_of b ∷ []) f.uses) (each shows_of before) (shows_of b)
            (all_more_wanted (each shows_of before) (shows_of b ∷ []) (each shows_of before) k.met)
            (wanted_more (each shows_of before) (shows_of b ∷ []) (shows_of b).uses h.uses));
      }

  module _ (before : List Build) (b : Build) (k : Before before) (h : IsBehind before b) where
    abbrev x : Compiled Text
    x = h.valid.0

    abbrev v : IsValid b x
    v = h.valid.1

    types_are : AllByRecursion (λ t. is_type t.desc ≡ true) (tree_of b).types
    types_are = let w = valid_of b x v in (compiled_marked _ _ (of b) w.is).types

    -- it uses what those before it declare
    used : declares.AreUsed (program_of before) (tree_of b) (described (of b).against) (near (of b) (ruled b (of b) (valid_of b x v)) (found_all (tree_of b).types (ruled b (of b) (valid_of b x v)).names) types_are (spelled_here b x v) (no_out_here b x v) (shows_is b x v))
    used = are_used (of b) (ruled b (of b) (valid_of b x v)) (found_all (tree_of b).types (ruled b (of b) (valid_of b x v)).names) types_are (spelled_here b x v) (no_out_here b x v) (shows_is b x v) (program_of before) (each shows_of before) k.spelled (have_no_out (each shows_of before) k.out) h.uses (builds_show before k.showing)

    stands : StandsOver (program_of before) (tree_of b)
    stands = users_stand (program_of before) (tree_of b) (described (of b).against) (near (of b) (ruled b (of b) (valid_of b x v)) (found_all (tree_of b).types (ruled b (of b) (valid_of b x v)).names) types_are (spelled_here b x v) (no_out_here b x v) (shows_is b x v)) (names_fresh (tree_of b).name before k.showing (subst (λ (n : List ℕ). Contains (each name_of before) n → ⊥) (showing b x v).name h.new)) types_are (ruled b (of b) (valid_of b x v)).grounded used

    -- what it uses, and stands over
    pub uses : Uses before b
    unfolding stands
    uses =
        let r = ruled b (of b) (valid_of b x v) in
        let found = found_all (tree_of b).types r.names in
        let near_it = near (of b) r found types_are (spelled_here b x v) (no_out_here b x v) (shows_is b x v) in
        let fresh = names_fresh (tree_of b).name before k.showing (subst (λ (n : List ℕ). Contains (each name_of before) n → ⊥) (showing b x v).name h.new) in
        record {
          near = near_it;
          over = stands;
          used = used;
          types = types_are;
          passed = all_parameters (IsNear (types_of (of b)) (tree_of b)) (λ t. IsHeld (types_of (of b)) t → declares.IsNear (tree_of b) near_it t) (λ t n h. held_near (of b) r found types_are (spelled_here b x v) (no_out_here b x v) (shows_is b x v) t n h) (tree_of b).procedures (parameters_near (of b) r found types_are (spelled_here b x v) (no_out_here b x v) (shows_is b x v));
          inside = all_insides (IsNear (types_of (of b)) (tree_of b)) (λ t. IsHeld (types_of (of b)) t → declares.IsNear (tree_of b) near_it t) (λ t n h. held_near (of b) r found types_are (spelled_here b x v) (no_out_here b x v) (shows_is b x v) t n h) (tree_of b).procedures (insides_near (of b) r found types_are (spelled_here b x v) (no_out_here b x v) (shows_is b x v));
          variables = variables_near (of b) r found types_are (spelled_here b x v) (no_out_here b x v) (shows_is b x v);
          seen = λ q e n i. used_seen (program_of before) (tree_of b) (described (of b).against) near_it fresh types_are r.grounded used q e n i;
          shown = λ q own n. shown_now (of b) r found types_are (spelled_here b x v) (no_out_here b x v) (shows_is b x v) (program_of before) (each shows_of before) k.spelled (have_no_out (each shows_of before) k.out) h.uses (builds_show before k.showing) q own n;
        }

    variables_here : AllByRecursion (λ v. IsHeld (description (program_of before ++ tree_of b ∷ [])) v.of) (tree_of b).variables
    variables_here =
        all_near_held (of b) (program_of before) stands (near (of b) (ruled b (of b) (valid_of b x v)) (found_all (tree_of b).types (ruled b (of b) (valid_of b x v)).names) types_are (spelled_here b x v) (no_out_here b x v) (shows_is b x v)) used (tree_of b).variables
        (variables_near (of b) (ruled b (of b) (valid_of b x v)) (found_all (tree_of b).types (ruled b (of b) (valid_of b x v)).names) types_are (spelled_here b x v) (no_out_here b x v) (shows_is b x v))
        (ruled b (of b) (valid_of b x v)).variables

    closed_here : AllByRecursion (λ v. Is (description (program_of before ++ tree_of b ∷ [])) is_open v.of → ⊥) (tree_of b).variables
    closed_here =
        all_closed (of b) (program_of before) stands (near (of b) (ruled b (of b) (valid_of b x v)) (found_all (tree_of b).types (ruled b (of b) (valid_of b x v)).names) types_are (spelled_here b x v) (no_out_here b x v) (shows_is b x v)) used (ruled b (of b) (valid_of b x v)).grounded types_are (tree_of b).variables
        (variables_near (of b) (ruled b (of b) (valid_of b x v)) (found_all (tree_of b).types (ruled b (of b) (valid_of b x v)).names) types_are (spelled_here b x v) (no_out_here b x v) (shows_is b x v))
        (ruled b (of b) (valid_of b x v)).variables
        (ruled b (of b) (valid_of b x v)).closed

    kept_here : Kept (program_of before) → Kept (program_of before ++ tree_of b ∷ [])
    kept_here kept =
        let small = description (program_of before) in
        let large = description (program_of before ++ tree_of b ∷ []) in
        let more = has_more (program_of before) (tree_of b) stands in
        record {
          sound = in_order_sound (program_of before) (tree_of b ∷ []) kept.sound (stands, tt);
          held = all_last (λ (j : Module). AllByRecursion (λ v. IsHeld large v.of) j.variables) (program_of before) (tree_of b) (all_modules_held small large (held_more small large more) (program_of before) kept.held) variables_here;
          closed =
              all_last (λ (j : Module). AllByRecursion (λ v. Is large is_open v.of → ⊥) j.variables) (program_of before) (tree_of b)
              (all_modules_closed small large (kind_back small large (λ q d f ty. (d, (more q d f, inl refl))) kept.sound.held is_open open_kind) (program_of before) kept.held kept.closed)
              closed_here;
        }

  -- ---- all

  -- what the modules before declare stays
  pub more_all : (before bs : List Build) → Before before → AreTogether before bs → (q : QName) (d : Desc) → description (program_of before) q ≡ Some d → description (program_of (before ++ bs)) q ≡ Some d
  more_all before [] k h q d e = subst (λ xs. description (program_of xs) q ≡ Some d) (sym (append_none before)) e
    where
      append_none : (xs : List Build) → xs ++ [] ≡ xs
      append_none [] = refl
      append_none (y ∷ ys) = ap (λ r. y ∷ r) (append_none ys)
  more_all before (b ∷ bs) k h q d e =
      subst (λ xs. description (program_of xs) q ≡ Some d) (append_assoc before (b ∷ []) bs)
      (more_all (before ++ b ∷ []) bs (before_more before b k h.0) h.1 q d (subst (λ p. description p q ≡ Some d) (sym (each_last tree_of before b)) (has_more (program_of before) (tree_of b) (stands before b k h.0) q d e)))

  stand_all : (before bs : List Build) → Before before → AreTogether before bs → StandInOrder (program_of before) (program_of bs)
  stand_all before [] k h = tt
  stand_all before (b ∷ bs) k h = (stands before b k h.0, subst (λ p. StandInOrder p (program_of bs)) (each_last tree_of before b) (stand_all (before ++ b ∷ []) bs (before_more before b k h.0) h.1))

  append_none : (xs : List Build) → xs ++ [] ≡ xs
  append_none [] = refl
  append_none (y ∷ ys) = ap (λ r. y ∷ r) (append_none ys)

  kept_all : (before bs : List Build) → Before before → Kept (program_of before) → AreTogether before bs → Kept (program_of (before ++ bs))
  kept_all before [] k kept h = subst (λ xs. Kept (program_of xs)) (sym (append_none before)) kept
  kept_all before (b ∷ bs) k kept h =
      subst (λ xs. Kept (program_of xs)) (append_assoc before (b ∷ []) bs) (kept_all (before ++ b ∷ []) bs (before_more before b k h.0) (subst Kept (sym (each_last tree_of before b)) (kept_here before b k h.0 kept)) h.1)

  pub none : Before []
  none = record { showing = tt; spelled = tt; out = tt; met = tt }

  pub in_order : (bs : List Build) → AreTogether [] bs → StandInOrder [] (program_of bs)
  in_order bs h = stand_all [] bs none h

  pub kept_in : (bs : List Build) → AreTogether [] bs → Kept (program_of bs)
  kept_in bs h = kept_all [] bs none (record { sound = program_sound [] tt; held = tt; closed = tt }) h

together_front : (before bs : List Build) (b : Build) → AreTogether before (bs ++ b ∷ []) → AreTogether before bs
together_front before [] b h = tt
together_front before (x ∷ bs) b h = (h.0, together_front (before ++ x ∷ []) bs b h.1)

pub loaded_stand : LoadedStand
loaded_stand written ruled bs l = in_order written ruled bs l.together

pub loaded_forms_stay : LoadedFormsStay
loaded_forms_stay written ruled bs b l =
    let t = together_front [] bs b l.together in
    ordered_stay (program_of bs) (in_order written ruled bs t) (kept_in written ruled bs t).held (tree_of b)

pub loaded_values_stay : LoadedValuesStay
loaded_values_stay written ruled bs b l =
    values_stay (program_of bs) (tree_of b) (record_stays (program_of bs) (tree_of b) (program_sound (program_of bs) (in_order written ruled bs (together_front [] bs b l.together))))
