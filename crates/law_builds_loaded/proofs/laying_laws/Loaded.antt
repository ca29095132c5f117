-- Builds that are loaded together are laid out over those before them.
use Rattle.std.proofs.Common.{◌≡◌, ◌≢◌, refl, sym, ap, ◌∙◌, subst, ℕ, ◌≤◌, true, false, List, [], ◌∷◌, ◌++◌, map as each, Option, Some, None, Ok}
use Rattle.std.specs.Prelude.{Contains, bytes_eq}
use Rattle.std.specs.List.{AllByRecursion}
use Rattle.ob_tree.specs.declared.names.QName.{QName}
use Rattle.ob_tree.specs.declared.decl.Module.{Module as Tree}
use Rattle.ob_types.specs.declared.types.TypeRef.{TypeRef}
use Rattle.ob_types.specs.declared.desc.Desc.{Desc}
use Rattle.ob_types.specs.declared.desc.Desc.TheVariants as desc
use Rattle.ob_types.specs.declared.desc.Field.{Field}
use Rattle.ob_types.specs.declared.typed.TypedType.{TypedType}
use Rattle.ob_types.specs.declared.typed.TypedModule.{TypedModule}
use Rattle.ob_types.specs.Maps.{named_by}
use Rattle.ob_types.specs.TypedSyntax.{Module}
use Rattle.ob_types.specs.TypedView.{module_view}
use Rattle.ob_rules.specs.declared.broken.Broken.{Broken}
use Rattle.ob_rules.specs.Declarations.{checked, first_break}
use Rattle.ob_layout.specs.Words.{described_words, most_words}
use Rattle.ob_layout.specs.LaidOut.{is_own, laid_type, laid_out}
use Rattle.ob_env.specs.Faces.{Face, described}
use Rattle.ob_env.specs.Shown.{shown}
use Rattle.ob_uses.specs.Uses.{near_types}
use Rattle.ob_compile_model.specs.Compiling.{texts, Compiled, made, of_break, by_rules}
use Rattle.law_names_distinct.specs.Fields.{FieldsDiffer, AreApart}
use Rattle.law_names_distinct.specs.Distinct.{AreDistinct}
use Rattle.law_names_distinct.proofs.FieldBlocks.{fields_differ}
use Rattle.law_spelling.proofs.Limits.{within}
use Rattle.ob_builds.specs.Builds.{Text, Build, of, shows_of, tree_of, name_of}
use Rattle.ob_builds.specs.Afresh.{IsBehind, AreTogether}
use Rattle.ob_builds.specs.Local.{AreAround, Locality}
use Rattle.ob_builds.specs.Written.{BuildsAreWritten}
use Rattle.law_program_runs.specs.Builds.{program_of}
use Rattle.law_typing_forms.specs.Said.{IsFreshName, HaveNames}
use Rattle.law_typing_env.specs.Ordered.{bare}
use Rattle.law_typing_env.specs.Views as views
use Rattle.law_typing_env.specs.Shallow.{passes_to}
use Rattle.law_typing_env.specs.Near.{IsNear}
use Rattle.law_typing_env.specs.Words.{IsSmall, IsLaidOver, AreLaidInOrder}
use Rattle.law_program_names.proofs.Different.{build_comes}
use Rattle.law_builds_ruled.specs.ruled_laws.Ruled.{BuildsAreRuled}
use Rattle.law_builds_loaded.proofs.Loaded.{Before, none, have_no_out, valid_of, before_more, uses}
use Rattle.law_builds_loaded.specs.laying_laws.Laying.{LoadedLaid}
use Rattle.law_builds_loaded.proofs.laying_laws.Sums.{Both, laid_types}
use Rattle.law_builds_loaded.proofs.laying_laws.Chains.{all_stand, chains_end}
use Rattle.law_lists.proofs.Lists.{each_last}

-- ---- names of fields

fresh : (x : List ℕ) (fs : List Field) → AllByRecursion (λ f. f.name ≢ x) fs → IsFreshName x fs
fresh x [] h = tt
fresh x (f ∷ fs) h = (λ e. h.0 (sym e), fresh x fs h.1)

have_names : (fs : List Field) → AreDistinct (λ f. f.name) fs → HaveNames fs
have_names [] h = tt
have_names (f ∷ fs) h = (fresh f.name fs h.0, have_names fs h.1)

desc_differs : (d : Desc) → FieldsDiffer d → views.FieldsDiffer d
desc_differs (desc.Record r) h = have_names r.fields h
desc_differs (desc.Const v) h = tt
desc_differs (desc.Var m t) h = tt
desc_differs (desc.Proc s) h = tt
desc_differs (desc.Alias m t) h = tt
desc_differs (desc.Array m n t) h = tt
desc_differs (desc.OpenArray m t) h = tt
desc_differs (desc.Pointer m t) h = tt
desc_differs (desc.ProcType m s) h = tt

all_differ : (ts : List TypedType) → AreApart ts → AllByRecursion (λ t. views.FieldsDiffer t.desc) ts
all_differ [] h = tt
all_differ (t ∷ ts) h = (desc_differs t.desc h.0, all_differ ts h.1)

-- ---- sizes

desc_small : (f : TypeRef → ℕ) (d : Desc) → described_words f (Some d) ≤ most_words → IsSmall d
desc_small f (desc.Record r) h = h
desc_small f (desc.Const v) h = tt
desc_small f (desc.Var m t) h = tt
desc_small f (desc.Proc s) h = tt
desc_small f (desc.Alias m t) h = tt
desc_small f (desc.Array m n t) h = tt
desc_small f (desc.OpenArray m t) h = tt
desc_small f (desc.Pointer m t) h = tt
desc_small f (desc.ProcType m s) h = tt

all_small : (f : TypeRef → ℕ) (ts : List TypedType) → AllByRecursion (λ t. described_words f (Some t.desc) ≤ most_words) ts → AllByRecursion (λ t. IsSmall t.desc) ts
all_small f [] h = tt
all_small f (t ∷ ts) h = (desc_small f t.desc h.0, all_small f ts h.1)

-- ---- what the rules give

record Given (faces : List (Face Text)) (m : Tree) (d : Compiled Text) : Type 0 where
  t : TypedModule
  checked_is : checked (shown faces) m ≡ Some t
  is : d ≡ made texts faces (laid_out (described faces) (module_view t))

given : (faces : List (Face Text)) (m : Tree) (d : Compiled Text) → by_rules texts faces m ≡ Ok d → Given faces m d
given faces m d e = by (first_break (shown faces) m) (checked (shown faces) m) refl e
  where
    by : (b : Option Broken) (o : Option TypedModule) → checked (shown faces) m ≡ o → of_break texts faces o b ≡ Ok d → Given faces m d
    by (Some b) o i e = absurd cc
    by None None i e = absurd cc
    by None (Some t) i e = let k : made texts faces (laid_out (described faces) (module_view t)) ≡ d = cc in record { t = t; checked_is = i; is = sym k }

-- ---- types that are used

near_passes : (P : TypeRef → Type 0) (d : Desc) → AllByRecursion P (near_types d) → AllByRecursion P (passes_to d)
near_passes P (desc.Alias m t) h = h
near_passes P (desc.Array m n t) h = h
near_passes P (desc.Record r) h = tt
near_passes P (desc.Const v) h = tt
near_passes P (desc.Var m t) h = tt
near_passes P (desc.Proc s) h = tt
near_passes P (desc.OpenArray m t) h = tt
near_passes P (desc.Pointer m t) h = tt
near_passes P (desc.ProcType m s) h = tt

bare_again : (d : Desc) → bare (bare d) ≡ bare d
bare_again (desc.Record r) = refl
bare_again (desc.Const v) = refl
bare_again (desc.Var m t) = refl
bare_again (desc.Proc s) = refl
bare_again (desc.Alias m t) = refl
bare_again (desc.Array m n t) = refl
bare_again (desc.OpenArray m t) = refl
bare_again (desc.Pointer m t) = refl
bare_again (desc.ProcType m s) = refl

names_of : (bs : List Build) → each (λ (f : Face Text). f.«module») (each shows_of bs) ≡ each name_of bs
names_of [] = refl
names_of (b ∷ bs) = ap (λ r. name_of b ∷ r) (names_of bs)

module _ (written : BuildsAreWritten) (ruled : BuildsAreRuled) (locality : Locality) where
  one_laid : (before : List Build) (b : Build) → Before before → IsBehind before b → IsLaidOver (program_of before) (tree_of b)
  one_laid before b k h =
      let u = uses written ruled before b k h in
      let valid = valid_of written ruled b h.valid.0 h.valid.1 in
      let s = build_comes b (of b) valid in
      let faces = each shows_of before in
      let around : AreAround (of b).shows.«module» faces = record {
        spelled = k.spelled;
        other = λ c. h.new (subst (λ ns. Contains ns (name_of b)) (names_of before) c);
        out = have_no_out faces k.out;
        met = k.met;
      } in
      let d = locality b (of b) s.tree valid s.read faces around h.uses in
      let g = given faces s.tree d.0 d.1 in
      let chk = module_view g.t in
      let is : tree_of b ≡ laid_out (described faces) chk = sym d.2.tree ∙ ap (λ (x : Compiled Text). x.tree) g.is in
      let name : (tree_of b).name ≡ chk.name = ap (λ (x : Module). x.name) is in
      let types_are : (tree_of b).types ≡ each (laid_type (described faces) chk) chk.types = ap (λ (x : Module). x.types) is in
      let own = all_stand (IsNear (tree_of b) u.near) (described faces) chk chk.types (subst (λ (ts : List TypedType). AllByRecursion (λ t. AllByRecursion (IsNear (tree_of b) u.near) (named_by t.desc)) ts) types_are u.used.own) in
      let outside : (q : QName) → is_own chk q ≡ false → u.near q ≡ true → Both (described faces) u.over.others (IsNear (tree_of b) u.near) q =
      λ q e n.
      let x = u.shown q (ap (λ (y : List ℕ). bytes_eq q.«module» y) name ∙ e) n in
      record { d = x.x; e = bare x.e; of = x.of; other_of = u.seen q x.e n x.has; alike = bare_again x.e ∙ x.alike; parts = near_passes (IsNear (tree_of b) u.near) x.x x.parts } in
      record {
        over = u.over;
        checked = chk;
        laid = record {
          name = name;
          types_are = types_are ∙ laid_types (tree_of b) chk name (described faces) u.over.others u.near own outside;
          fields = all_differ g.t.types (fields_differ (shown faces) s.tree g.t g.checked_is);
        };
        chains = chains_end (tree_of b) chk name (described faces) types_are u.over.others u.over.grounded.chains;
        small = all_small _ (tree_of b).types (within (of b) s.limits).words;
      }

  lay_all : (before bs : List Build) → Before before → AreTogether before bs → AreLaidInOrder (program_of before) (program_of bs)
  lay_all before [] k h = tt
  lay_all before (b ∷ bs) k h = (one_laid before b k h.0, subst (λ p. AreLaidInOrder p (program_of bs)) (each_last tree_of before b) (lay_all (before ++ b ∷ []) bs (before_more written ruled before b k h.0) h.1))

pub loaded_laid : LoadedLaid
loaded_laid written ruled locality bs l = lay_all written ruled locality [] bs (none written ruled) l.together
