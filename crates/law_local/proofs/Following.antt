-- Locality, where the rules look at nothing but what counts.
use Rattle.std.proofs.Common.{◌≡◌, List, Bool, true, false, map as each, refl, sym, ap, ◌∙◌, subst, Some, None, Ok, ⊎_elim}
use Rattle.std.specs.Option.{option_map}
use Rattle.std.specs.Cmp.Lexicographic.{bytes_decides}
use Rattle.ob_format.specs.Format.{◌>>=◌}
use Rattle.std.specs.List.{AllByRecursion}
use Rattle.std.proofs.lemmas.Bool.{false≢true}
use Rattle.ob_tree.specs.declared.names.QName.{QName}
use Rattle.ob_tree.specs.declared.decl.Module.{Module as Tree}
use Rattle.ob_types.specs.declared.typed.TypedModule.{TypedModule}
use Rattle.ob_types.specs.TypedSyntax.{Module}
use Rattle.ob_types.specs.TypedView.{module_view}
use Rattle.ob_rules.specs.Declarations.{checked, first_break}
use Rattle.ob_layout.specs.LaidOut.{is_own, laid_out}
use Rattle.ob_env.specs.Faces.{Face, described, text_in, printed, interface_of, face_named, object_named}
use Rattle.ob_env.specs.Shown.{blank, shown}
use Rattle.ob_uses.specs.Made.{face_from}
use Rattle.ob_scheme.specs.Object.{object_file}
use Rattle.ob_parse_grammar.specs.TextReading.{reading}
use Rattle.ob_compile_model.specs.Compiling.{Compiled, texts, made, of_break, by_rules, object_by, exports_of}
use Rattle.ob_builds.specs.Builds.{Text, Build, IsValid, IsSpelled}
use Rattle.ob_builds.specs.Local.{AreAsWanted, IsSame, AreAround, Locality}
use Rattle.law_local_files.specs.Agreeing.{IsNear}
use Rattle.law_local_files.specs.Laws.{AreSpelled, HaveNoOut, AreMet, over, view}
use Rattle.law_local_files.specs.Laws as local
use Rattle.law_local_files.specs.Checked.{IsChecked}
use Rattle.ob_uses.proofs.Sorting.{Has, contains}
use Rattle.law_local_files.proofs.Agreed.{named_none}
use Rattle.law_local_files.proofs.Whole.{modules_are_local}
use Rattle.law_local_files.proofs.Bridged.{counts_are_enough}
use Rattle.law_local_files.proofs.Blanked.{shapes_are_told}
use Rattle.law_names_compiled.proofs.Modules.{read_types_differ}
use Rattle.law_names_procedures.proofs.Faces.{faces_show}
use Rattle.law_names_distinct.specs.Distinct.{AreDistinct}
use Rattle.law_local_uses.proofs.Over.{modules_tie}
use Rattle.law_program_names.proofs.Grounded.{against_is_grounded}
use Rattle.law_local_rules.specs.Laws.{ShowAlike}
use Rattle.law_local_rules.proofs.Whole.{rules_are_local}
use Rattle.law_local.proofs.Named.{found_all}
use Rattle.law_local.proofs.Walked.{have_none, have_no_root}
use Rattle.law_local.proofs.Compiled.{ComesOf, comes_of, short_is, checked_name, apart_of}

module _ (b : Build) (c : Compiled Text) (m : Tree) (valid : IsValid b c) (read : reading b.source ≡ Ok m) (faces : List (Face Text)) (around : AreAround c.shows.«module» faces) (wanted : AreAsWanted faces c.shows.uses) where
  from : ComesOf m c
  from = comes_of b c m valid read

  abbrev t : TypedModule
  t = (comes_of b c m valid read).t

  abbrev T : Module
  T = module_view (comes_of b c m valid read).t

  abbrev first : Compiled Text
  first = made texts c.against (laid_out (described c.against) T)

  abbrev second : Compiled Text
  second = made texts faces (laid_out (described faces) T)

  is : c ≡ made texts c.against (laid_out (described c.against) (module_view (comes_of b c m valid read).t))
  is = (comes_of b c m valid read).is

  spelled : AreSpelled c.against
  spelled = subst (λ fs. AllByRecursion IsSpelled fs) (sym valid.whole) valid.spelled

  no_out : HaveNoOut c.against
  no_out = have_none m.name.name c.against (comes_of b c m valid read).clean

  differ : AreDistinct (λ t. t.name) (comes_of b c m valid read).t.types
  differ =
      let k = apart_of c m (comes_of b c m valid read) in
      read_types_differ b.source m (shown c.against) t (short_is b c valid) (faces_show m.name.name c.against k.others k.fit) read (comes_of b c m valid read).tree_is

  tied : IsChecked c.against T
  tied =
      let k = modules_tie c.against m t (comes_of b c m valid read).tree_is (against_is_grounded b c valid) differ in
      record {
        tied = k.tied;
        held = k.held;
        types = found_all t.types differ;
      }

  met : AreMet faces (face_from text_in c.against T).uses
  met = subst (λ (x : Compiled Text). AreAsWanted faces x.shows.uses) is wanted

  same : local.IsSame c.against faces T
  same = modules_are_local c.against faces T spelled around.spelled no_out around.out (counts_are_enough c.against T tied) met

  -- no interface is of the module itself
  name_is : T.name ≡ m.name.name
  name_is = checked_name (shown c.against) m t (comes_of b c m valid read).tree_is

  own_none : (fs : List (Face Text)) (q : QName) → (Has T.name (each (λ f. f.«module») fs) → ⊥) → is_own T q ≡ true → shown fs q ≡ None
  own_none fs q absent own =
      let n : face_named fs q.«module» ≡ None = ap (face_named fs) ((bytes_decides q.«module» T.name).0 own) ∙ named_none fs T.name absent in
      ap (λ o. option_map blank (o >>= λ (f : Face Text). object_named f.objects q.object)) n

  none_here : Has T.name (each (λ f. f.«module») c.against) → ⊥
  none_here h = have_no_root m.name.name c.against (comes_of b c m valid read).clean (subst (λ n. Has n (each (λ (f : Face Text). f.«module») c.against)) name_is h)

  none_there : Has T.name (each (λ f. f.«module») faces) → ⊥
  none_there h = around.other (contains (each (λ (f : Face Text). f.«module») faces) c.shows.«module» (subst (λ n. Has n (each (λ (f : Face Text). f.«module») faces)) (sym (ap (λ (x : Compiled Text). x.shows.«module») is)) h))

  alike : ShowAlike c.against faces T
  alike q kind = go (is_own T q) refl
    where
      go : (k : Bool) → is_own T q ≡ k → shown faces q ≡ shown c.against q
      go true own = own_none faces q none_there own ∙ sym (own_none c.against q none_here own)
      go false own = ⊎_elim
          (λ (near : IsNear (view c.against T) (over c.against T) q). shapes_are_told c.against faces T spelled around.spelled no_out around.out tied.held met q near own)
          (λ (is : is_own T q ≡ true). absurd (false≢true (sym own ∙ is)))
          kind

  ruled : (checked (shown faces) m ≡ Some t) × (first_break (shown faces) m ≡ None)
  ruled = rules_are_local c.against faces b.source m t read (comes_of b c m valid read).tree_is differ (apart_of c m (comes_of b c m valid read)) around.out alike

  rules_give : by_rules texts faces m ≡ Ok second
  rules_give = ap (λ o. of_break texts faces o (first_break (shown faces) m)) ruled.0 ∙ ap (of_break texts faces (Some t)) ruled.1

  shows_same : second.shows ≡ first.shows
  shows_same = same.shows

  object_same : object_by texts second ≡ object_by texts first
  object_same =
      same.object (exports_of (interface_of (printed second.shows))) (interface_of (printed second.shows)).uses
      ∙ ap (λ (f : Face Text). object_file (view c.against T) (over c.against T) (exports_of (interface_of (printed f))) (interface_of (printed f)).uses) shows_same

  pub follows : (d : Compiled Text) × (by_rules texts faces m ≡ Ok d) × IsSame c d
  follows = (
    second,
    rules_give,
    record {
      tree = same.tree ∙ sym (ap (λ (x : Compiled Text). x.tree) is);
      shows = shows_same ∙ sym (ap (λ (x : Compiled Text). x.shows) is);
      object = object_same ∙ sym (ap (object_by texts) is);
    },
  )

-- THE LAW
pub locality_holds : Locality
locality_holds b c m valid read faces around wanted = follows b c m valid read faces around wanted
