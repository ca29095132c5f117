-- The links to record types of a module that compiles name what it uses.
use Rattle.std.proofs.Common.{◌≡◌, ◌≢◌, ℕ, ◌<◌, Bool, true, false, cond, List, [], ◌∷◌, ◌++◌, length, map, Option, Some, None, Result, Ok, Err, refl, sym, ap, subst, ◌∙◌, arith}
use Rattle.std.specs.Prelude.{bytes_eq, codes, nat_le}
use Rattle.std.specs.List.{AllByRecursion, flat_map}
use Rattle.std.proofs.lemmas.Bool.{leb-true}
use Rattle.std.proofs.lemmas.Slice.Eq.{bytes_eq-Decides}
use Rattle.ob_tree.specs.declared.which.Which.{Which}
use Rattle.ob_tree.specs.declared.names.QName.{QName}
use Rattle.ob_tree.specs.declared.decl.Module.{Module as Tree}
use Rattle.ob_types.specs.declared.types.TypeRef.{TypeRef}
use Rattle.ob_types.specs.declared.desc.Desc.{Desc}
use Rattle.ob_types.specs.declared.desc.Desc.TheVariants as desc
use Rattle.ob_types.specs.declared.typed.TypedType.{TypedType}
use Rattle.ob_types.specs.declared.typed.TypedProcedure.{TypedProcedure}
use Rattle.ob_types.specs.declared.typed.TypedModule.{TypedModule}
use Rattle.ob_types.specs.Maps.{listed}
use Rattle.ob_types.specs.TypedView.{stmts_view, procedure_view, module_view}
use Rattle.ob_rules.specs.declared.broken.Broken.{Broken as BrokenRule}
use Rattle.ob_rules.specs.Declarations.{first_break, checked}
use Rattle.ob_layout.specs.LaidOut.{type_named, laid_desc, laid_type, words_in, procedures_in}
use Rattle.ob_env.specs.Faces.{Face, described}
use Rattle.ob_env.specs.Fit.{first_unfit}
use Rattle.ob_env.specs.Stale.{StaleUse, first_stale}
use Rattle.ob_env.specs.Answer.{if_fit, if_coherent, standing}
use Rattle.ob_env.specs.Shown.{blank, shown}
use Rattle.ob_env_walk.specs.Walk.{Entry, Walked, Left, NoInterface, Damaged, Cycle, TooMany, walk}
use Rattle.ob_env_walk.specs.Answer.{after_walk}
use Rattle.ob_parse_grammar.specs.TextReading.{NoModule, reading}
use Rattle.ob_uses_roots.specs.Counts.{own_name as counted_name, both, shapes, counts_of_mentioned, counts_of_desc, counts_of_type, counts_of_variable, counts_of_parameter, counts_of_binding, counts_of_procedure, counts_of_all}
use Rattle.ob_scheme.specs.Descriptions.{name_in, own_name}
use Rattle.ob_scheme.specs.Object.{base_type}
use Rattle.ob_compile_model.specs.Compiling.{texts, Compiled, exceeds, within, of_checked, of_break, by_rules, and_limits, is_deep, unless_deep, of_standing, of_reached, most_imports, of_few, imported, of_reading, most_source, of_short, compiled}
use Rattle.law_load_plan.specs.Compiled.{Text, file_of, is_variable, is_procedure, is_record, IsUsedAs}
use Rattle.law_names_distinct.specs.Distinct.{AreDistinct}
use Rattle.law_names_compiled.proofs.Modules.{read_types_differ}
use Rattle.law_names_procedures.specs.Procedures.{ShowBases}
use Rattle.law_names_procedures.specs.Named.{AreEntriesNamed}
use Rattle.law_names_procedures.proofs.Faces.{LeavesOthers, walk_others, faces_show}
use Rattle.law_links_names.specs.Mentions.{IsVariable, IsProcedure, Any, IsAmong, AreMentioned}
use Rattle.law_links_names.specs.Trees.{StmtsNamed}
use Rattle.law_links_names.proofs.Modules.{modules_mention}
use Rattle.law_links_types.specs.Trees.{StandsForOne, BaseRecorded, TypeRecorded, StmtsRecorded, ModuleRecorded}
use Rattle.law_links_types.specs.Told.{core, IsTold}
use Rattle.law_links_types.proofs.Modules.{modules_recorded}
use Rattle.law_links.specs.Linked.{types_of, IsCounted, IsBaseCounted, IsTypeCounted}
use Rattle.law_links.specs.Trees.{IsTreeCounted}
use Rattle.law_links.specs.Types.{CompiledTypesUsed}
use Rattle.law_links.proofs.Bodies.{trees_are_used}
use Rattle.law_links.proofs.Mentioned.{one, variable_counted, procedure_counted, described_by}
use Rattle.law_links.proofs.Near.{IsNear, On, stands_near, CountIn, AreIn, all_in, counted}
use Rattle.law_links.proofs.Trees.{stmts_named}
use Rattle.law_links.proofs.Walked.{AreNotOut, LeavesNone, walk_none, not_of_out}
use Rattle.law_lists.proofs.Lists.{all_back, all_front, differ_false}

-- ---- types of different names

skipped : (t : TypedType) (us rest : List TypedType) → AllByRecursion (λ u. u.name ≢ t.name) us → AllByRecursion (λ u. type_named rest u.name ≡ Some u.desc) us → AllByRecursion (λ u. type_named (t ∷ rest) u.name ≡ Some u.desc) us
skipped t [] rest differ all = tt
skipped t (u ∷ us) rest differ all = (ap (λ b. cond b (Some t.desc) (type_named rest u.name)) (differ_false u.name t.name differ.0) ∙ all.0, skipped t us rest differ.1 all.1)

found_all : (ts : List TypedType) → AreDistinct (λ t. t.name) ts → AllByRecursion (λ t. type_named ts t.name ≡ Some t.desc) ts
found_all [] differ = tt
found_all (t ∷ ts) differ = (ap (λ b. cond b (Some t.desc) (type_named ts t.name)) ((bytes_eq-Decides t.name t.name).1 refl), skipped t ts ts differ.0 (found_all ts differ.1))

core_laid : (words procedures : TypeRef → ℕ) (q : QName) (d : Desc) → core (laid_desc words procedures q d) ≡ core d
core_laid words procedures q (desc.Const v) = refl
core_laid words procedures q (desc.Var m t) = refl
core_laid words procedures q (desc.Proc s) = refl
core_laid words procedures q (desc.Alias m t) = refl
core_laid words procedures q (desc.Array m n t) = refl
core_laid words procedures q (desc.OpenArray m t) = refl
core_laid words procedures q (desc.Pointer m t) = refl
core_laid words procedures q (desc.ProcType m s) = refl
core_laid words procedures q (desc.Record r) = refl

core_blank : (d : Desc) → core (blank d) ≡ core d
core_blank (desc.Const v) = refl
core_blank (desc.Var m t) = refl
core_blank (desc.Proc s) = refl
core_blank (desc.Alias m t) = refl
core_blank (desc.Array m n t) = refl
core_blank (desc.OpenArray m t) = refl
core_blank (desc.Pointer m t) = refl
core_blank (desc.ProcType m s) = refl
core_blank (desc.Record r) = refl

-- ---- a module that keeps the rules

module _ (faces : List (Face Text)) (clean : AreNotOut faces) (tree : Tree) (m : TypedModule) (is : checked (shown faces) tree ≡ Some m) (differ : AreDistinct (λ t. t.name) m.types) where
  abbrev c : Compiled Text
  c = one faces m

  abbrev laid : TypedType → TypedType
  laid t = laid_type (described faces) (module_view m) t

  out : (q : QName) (d : Desc) → described faces q ≡ Some d → bytes_eq q.«module» (codes "Out") ≡ false
  out q d e = not_of_out faces clean q d e

  differ_laid : (ts : List TypedType) → AreDistinct (λ t. t.name) ts → AreDistinct (λ t. t.name) (map laid ts)
  differ_laid [] h = tt
  differ_laid (t ∷ ts) h = (others ts h.0, differ_laid ts h.1)
    where
      others : (us : List TypedType) → AllByRecursion (λ (u : TypedType). u.name ≢ t.name) us → AllByRecursion (λ (u : TypedType). u.name ≢ t.name) (map laid us)
      others [] h = tt
      others (u ∷ us) h = (h.0, others us h.1)

  own_told : (ts : List TypedType) → AllByRecursion (λ (t : TypedType). type_named c.tree.types t.name ≡ Some t.desc) (map laid ts) → AllByRecursion (λ (t : TypedType). IsTold (types_of c) (record { «module» = m.name; object = t.name }) t.desc) ts
  own_told [] h = tt
  own_told (t ∷ ts) h = (
    λ l. ((laid t).desc, (ap (λ b. cond b (type_named c.tree.types t.name) (described faces (record { «module» = m.name; object = t.name }))) ((bytes_eq-Decides m.name m.name).1 refl) ∙ h.0, core_laid (words_in (described faces) (module_view m)) (procedures_in (described faces) (module_view m)) (record { «module» = m.name; object = t.name }) t.desc)),
    own_told ts h.1,
  )

  others_told : (q : QName) (d : Desc) → bytes_eq q.«module» m.name ≡ false → shown faces q ≡ Some d → IsTold (types_of c) q d
  others_told q d e h = λ l. let k = described_by (described faces q) d h in (k.0, (ap (λ b. cond b (type_named c.tree.types q.object) (described faces q)) e ∙ k.1, sym (core_blank k.0) ∙ ap core k.2))

  recorded : ModuleRecorded (types_of c) m
  recorded = modules_recorded (shown faces) (types_of c) tree m is differ (record { own = own_told m.types (found_all c.tree.types (differ_laid m.types differ)); others = others_told })

  mentioned : AreMentioned (shown faces) (types_of c) m
  mentioned = modules_mention (shown faces) (types_of c) tree m is

  -- ---- what counts

  abbrev Var : QName → Type 0
  Var = IsVariable (shown faces) m.name (IsAmong m.mentioned.objects)

  abbrev Proc : QName → Type 0
  Proc = IsProcedure (shown faces) m.name (IsAmong m.mentioned.objects)

  own_in : (ts : List TypedType) → AreIn c (flat_map (counts_of_type c.tree) ts) → AllByRecursion (λ (t : TypedType). IsNear c (counted_name c.tree t)) ts
  own_in [] h = tt
  own_in (t ∷ ts) h = (h.0, own_in ts (all_back (CountIn c) (counts_of_type c.tree t) (flat_map (counts_of_type c.tree) ts) h))

  body_in : (ps : List TypedProcedure) → AllByRecursion (λ (p : TypedProcedure). StmtsNamed (types_of c) m.name Var Proc Any (stmts_view p.body)) ps → AllByRecursion (λ (p : TypedProcedure). StmtsRecorded (types_of c) m.name (stmts_view p.body)) ps → AllByRecursion (λ (t : TypedType). IsNear c (counted_name c.tree t)) c.tree.types → AreIn c (flat_map (counts_of_procedure (types_of c)) (map procedure_view ps)) → AllByRecursion (λ p. StmtsNamed (types_of c) m.name (IsCounted is_variable c) (IsCounted is_procedure c) (IsCounted is_record c) p.body) (map procedure_view ps)
  body_in [] n r own h = tt
  body_in (p ∷ ps) n r own h =
      let x = procedure_view p in
      let before = flat_map counts_of_parameter x.parameters ++ shapes (listed x.result) ++ flat_map counts_of_variable x.locals ++ counts_of_binding (types_of c) x.binding in
      let its = all_front (CountIn c) (counts_of_procedure (types_of c) x) (flat_map (counts_of_procedure (types_of c)) (map procedure_view ps)) h in
      (stmts_named c Var Proc (variable_counted faces m) (procedure_counted faces m) own out (stmts_view p.body) (all_back (CountIn c) before (counts_of_all x.body) its) n.0 r.0, body_in ps n.1 r.1 own (all_back (CountIn c) (counts_of_procedure (types_of c) x) (flat_map (counts_of_procedure (types_of c)) (map procedure_view ps)) h))

  base_counted : (t : TypeRef) → On c t → StandsForOne (types_of c) m.name t → IsBaseCounted c (own_name (types_of c) t)
  base_counted t h s = subst (λ w. IsBaseCounted c (name_in w)) (sym s.stands.same) (λ e. counted c out s.name s.stands.type e (stands_near c t s.name h s.stands))

  based : (o : Option TypeRef) → BaseRecorded (types_of c) m.name o → AreIn c (flat_map both (listed o)) → IsBaseCounted c (base_type (types_of c) c.tree o)
  based None r h = tt
  based (Some b) r h = base_counted b h.0 r

  desc_counted : (q : QName) (d : Desc) → TypeRecorded (types_of c) m.name d → AreIn c (counts_of_desc (laid_desc (words_in (described faces) (module_view m)) (procedures_in (described faces) (module_view m)) q d)) → IsTypeCounted c (laid_desc (words_in (described faces) (module_view m)) (procedures_in (described faces) (module_view m)) q d)
  desc_counted q (desc.Const v) r h = tt
  desc_counted q (desc.Var k t) r h = tt
  desc_counted q (desc.Proc s) r h = tt
  desc_counted q (desc.Alias k t) r h = tt
  desc_counted q (desc.Array k n t) r h = tt
  desc_counted q (desc.OpenArray k t) r h = tt
  desc_counted q (desc.Pointer k t) r h = tt
  desc_counted q (desc.ProcType k s) r h = tt
  desc_counted q (desc.Record x) r h = based x.base r (all_front (CountIn c) (flat_map both (listed x.base)) _ h)

  types_counted : (ts : List TypedType) → AllByRecursion (λ (t : TypedType). TypeRecorded (types_of c) m.name t.desc) ts → AreIn c (flat_map (counts_of_type c.tree) (map laid ts)) → AllByRecursion (λ (t : TypedType). IsTypeCounted c t.desc) (map laid ts)
  types_counted [] r h = tt
  types_counted (t ∷ ts) r h =
      let its = all_front (CountIn c) (counts_of_type c.tree (laid t)) (flat_map (counts_of_type c.tree) (map laid ts)) h in
      (desc_counted (record { «module» = m.name; object = t.name }) t.desc r.0 its.1, types_counted ts r.1 (all_back (CountIn c) (counts_of_type c.tree (laid t)) (flat_map (counts_of_type c.tree) (map laid ts)) h))

  tree_counted : IsTreeCounted c
  tree_counted =
      let n = counts_of_mentioned c.tree in
      let t = flat_map (counts_of_type c.tree) c.tree.types in
      let v = flat_map counts_of_variable c.tree.variables in
      let p = flat_map (counts_of_procedure (types_of c)) c.tree.procedures in
      let b = counts_of_all c.tree.body in
      let Q = CountIn c in
      let front = all_front Q (((n ++ t) ++ v) ++ p) b (all_in c) in
      let types = all_back Q n t (all_front Q (n ++ t) v (all_front Q ((n ++ t) ++ v) p front)) in
      let own = own_in c.tree.types types in
      record {
        body = stmts_named c Var Proc (variable_counted faces m) (procedure_counted faces m) own out (stmts_view m.body) (all_back Q (((n ++ t) ++ v) ++ p) b (all_in c)) mentioned.body recorded.body;
        procedures = body_in m.procedures mentioned.procedures recorded.procedures own (all_back Q ((n ++ t) ++ v) p front);
        bases = types_counted m.types recorded.types_are types;
      }

  pub types_used : AllByRecursion (IsUsedAs is_record c) (file_of c).links.types
  types_used = (trees_are_used c refl tree_counted).types

-- ---- the steps of a compile

abbrev Used : Compiled Text → Type 0
Used c = AllByRecursion (IsUsedAs is_record c) (file_of c).links.types

module _ (c : Compiled Text) (source : List ℕ) (few : length source < 4294967295) (tree : Tree) (read : reading source ≡ Ok tree) where
  within_kept : (d : Compiled Text) (o : Option Which) → within d o ≡ Ok c → d ≡ c
  within_kept d (Some w) e = absurd cc
  within_kept d None e = cc

  checked_used : (faces : List (Face Text)) → AreNotOut faces → ShowBases (shown faces) tree.name.name → (found : Option TypedModule) → checked (shown faces) tree ≡ found → and_limits texts (of_checked texts faces found) ≡ Ok c → Used c
  checked_used faces k s None is e = absurd cc
  checked_used faces k s (Some m) is e = subst Used (within_kept (one faces m) (exceeds texts (one faces m)) e) (types_used faces k tree m is (read_types_differ source tree (shown faces) m few s read is))

  break_used : (faces : List (Face Text)) → AreNotOut faces → ShowBases (shown faces) tree.name.name → (b : Option BrokenRule) → and_limits texts (of_break texts faces (checked (shown faces) tree) b) ≡ Ok c → Used c
  break_used faces k s (Some b) e = absurd cc
  break_used faces k s None e = checked_used faces k s (checked (shown faces) tree) refl e

  deep_used : (b : Bool) (faces : List (Face Text)) → AreNotOut faces → ShowBases (shown faces) tree.name.name → unless_deep b (and_limits texts (by_rules texts faces tree)) ≡ Ok c → Used c
  deep_used true faces k s e = absurd cc
  deep_used false faces k s e = break_used faces k s (first_break (shown faces) tree) e

  fit_used : (faces : List (Face Text)) → AreNotOut faces → AllByRecursion (λ (f : Face Text). bytes_eq f.«module» tree.name.name ≡ false) faces → (o : Option QName) → first_unfit faces ≡ o → of_standing texts tree (if_fit o faces) ≡ Ok c → Used c
  fit_used faces k others None f e = deep_used (is_deep faces tree) faces k (faces_show tree.name.name faces others f) e
  fit_used faces k others (Some q) f e = absurd cc

  coherent_used : (faces : List (Face Text)) → AreNotOut faces → AllByRecursion (λ (f : Face Text). bytes_eq f.«module» tree.name.name ≡ false) faces → (o : Option (StaleUse Text)) → of_standing texts tree (if_coherent o faces) ≡ Ok c → Used c
  coherent_used faces k others None e = fit_used faces k others (first_unfit faces) refl e
  coherent_used faces k others (Some u) e = absurd cc

  walked_used : (entry : List ℕ → Entry Text) (known : AreEntriesNamed entry) (w : Walked Text) → LeavesNone w → LeavesOthers entry known tree.name.name w → of_reached texts tree (after_walk (standing texts.same texts.keeps) w) ≡ Ok c → Used c
  walked_used entry known (Left faces) k others e = coherent_used faces k others (first_stale texts.same (texts.keeps faces) faces) e
  walked_used entry known (NoInterface m) k others e = absurd cc
  walked_used entry known (Damaged m) k others e = absurd cc
  walked_used entry known (Cycle m) k others e = absurd cc
  walked_used entry known TooMany k others e = absurd cc

  few_used : (entry : List ℕ → Entry Text) → AreEntriesNamed entry → (b : Bool) → of_few b (of_reached texts tree (after_walk (standing texts.same texts.keeps) (walk entry tree.name.name (map imported tree.imports)))) ≡ Ok c → Used c
  few_used entry known true e = walked_used entry known (walk entry tree.name.name (map imported tree.imports)) (walk_none entry known tree.name.name (map imported tree.imports)) (walk_others entry known tree.name.name (map imported tree.imports)) e
  few_used entry known false e = absurd cc

reading_used : (c : Compiled Text) (entry : List ℕ → Entry Text) → AreEntriesNamed entry → (text : List ℕ) → length text < 4294967295 → (r : Result Tree NoModule) → reading text ≡ r → of_reading texts entry r ≡ Ok c → Used c
reading_used c entry known text few (Ok tree) is e = few_used c text few tree is entry known (nat_le (length tree.imports) most_imports) e
reading_used c entry known text few (Err f) is e = absurd cc

short_used : (c : Compiled Text) (entry : List ℕ → Entry Text) → AreEntriesNamed entry → (text : List ℕ) (b : Bool) → nat_le (length text) most_source ≡ b → of_short b (of_reading texts entry (reading text)) ≡ Ok c → Used c
short_used c entry known text true few e = let h = leb-true (length text) most_source few in reading_used c entry known text (omega (arith, h)) (reading text) refl e
short_used c entry known text false few e = absurd cc

pub compiled_types : CompiledTypesUsed
unfolding compiled
compiled_types entry known None c e = absurd cc
compiled_types entry known (Some source) c e = short_used c entry known source (nat_le (length source) most_source) refl e
