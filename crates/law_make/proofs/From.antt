-- What a module that compiles comes from: its walk, and the tree that was checked.
use Rattle.std.proofs.Common.{◌≡◌, ℕ, List, [], ◌∷◌, Bool, true, false, cond, length, refl, sym, ap, ◌∙◌, Option, Some, None, Result, Ok, Err, codes}
use Rattle.std.specs.Prelude.{◌||◌, nat_le, bytes_eq, map as each}
use Rattle.std.proofs.lemmas.Bool.{false≢true}
use Rattle.ob_tree.specs.declared.names.QName.{QName}
use Rattle.ob_tree.specs.declared.which.Which.{Which}
use Rattle.ob_tree.specs.declared.ident.Ident.{Ident}
use Rattle.ob_tree.specs.declared.ident.Import.{Import}
use Rattle.ob_tree.specs.declared.decl.Module.{Module as Tree}
use Rattle.ob_types.specs.declared.desc.Desc.{Desc}
use Rattle.ob_types.specs.declared.typed.TypedModule.{TypedModule}
use Rattle.ob_types.specs.TypedView.{module_view}
use Rattle.ob_rules.specs.declared.broken.Broken.{Broken}
use Rattle.ob_rules.specs.Names.{is_out}
use Rattle.ob_rules.specs.Declarations as rules
use Rattle.ob_rules.specs.Declarations.{checked, first_break, typed_module, module_of, declaration, import_if}
use Rattle.ob_rules.specs.Statements.{judging}
use Rattle.ob_rules.specs.Names.{is_among}
use Rattle.ob_layout.specs.LaidOut.{laid_out}
use Rattle.ob_env.specs.Faces.{Face, described}
use Rattle.ob_env.specs.Fit.{first_unfit}
use Rattle.ob_env.specs.Stale.{StaleUse, first_stale}
use Rattle.ob_env.specs.Answer.{if_fit, if_coherent, standing}
use Rattle.ob_env.specs.Shown.{shown}
use Rattle.ob_env_walk.specs.Walk.{Entry, Walked, Left, NoInterface, Damaged, Cycle, TooMany, walk}
use Rattle.ob_env_walk.specs.Answer.{after_walk}
use Rattle.ob_parse_grammar.specs.TextReading.{NoModule, reading}
use Rattle.ob_link.specs.Walk.{has}
use Rattle.ob_make.specs.Seen.{Source, NoSource, Imports}
use Rattle.ob_make.specs.Folder.{source_of, read_as}
use Rattle.ob_compile_model.specs.Compiling as c
use Rattle.ob_compile_model.specs.Compiling.{Keeping, Compiled, compiled, made, within, exceeds, of_checked, of_break, by_rules, and_limits, unless_deep, is_deep, of_standing, of_reached, of_few, of_tree, of_reading, of_short, most_imports, most_source, imported, target_of}
use Rattle.law_builds.proofs.Compiled.{ok_is, err_no}
use Rattle.law_names_procedures.proofs.Modules.{unbroken_parts, not_out}
use Rattle.law_lists.proofs.Lists.{same_bytes, or_first, or_second}

-- ---- behind the walk

module _ {K : Type 0} (keeping : Keeping K) (tree : Tree) where
  abbrev pub made_over : List (Face K) → TypedModule → Compiled K
  made_over faces m = made keeping faces (laid_out (described faces) (module_view m))

  -- over these interfaces it keeps all rules and limits, and this is what it comes to
  pub record IsMade (faces : List (Face K)) (x : Compiled K) : Type 0 where
    pub checked_module : TypedModule
    pub checked_so : checked (shown faces) tree ≡ Some checked_module
    pub unbroken : first_break (shown faces) tree ≡ None
    pub shallow : is_deep faces tree ≡ false
    pub fit : first_unfit faces ≡ None
    pub limits : exceeds keeping (made_over faces checked_module) ≡ None
    pub is : x ≡ made_over faces checked_module

  module _ (faces : List (Face K)) (x : Compiled K) (fit : first_unfit faces ≡ None) where
    over_limit : is_deep faces tree ≡ false → first_break (shown faces) tree ≡ None → (m : TypedModule) → checked (shown faces) tree ≡ Some m → (o : Option Which) → exceeds keeping (made_over faces m) ≡ o → within (made_over faces m) o ≡ Ok x → IsMade faces x
    over_limit deep sound m i (Some w) j e = absurd (err_no (c.Limit w) x e)
    over_limit deep sound m i None j e = record { checked_module = m; checked_so = i; unbroken = sound; shallow = deep; fit = fit; limits = j; is = sym (ok_is (made_over faces m) x e) }

    over_checked : is_deep faces tree ≡ false → first_break (shown faces) tree ≡ None → (o : Option TypedModule) → checked (shown faces) tree ≡ o → and_limits keeping (of_checked keeping faces o) ≡ Ok x → IsMade faces x
    over_checked deep sound None i e = absurd (err_no c.NoSource x e)
    over_checked deep sound (Some m) i e = over_limit deep sound m i (exceeds keeping (made_over faces m)) refl e

    over_break : is_deep faces tree ≡ false → (b : Option Broken) → first_break (shown faces) tree ≡ b → and_limits keeping (of_break keeping faces (checked (shown faces) tree) b) ≡ Ok x → IsMade faces x
    over_break deep (Some b) i e = absurd (err_no (c.Broken b) x e)
    over_break deep None i e = over_checked deep i (checked (shown faces) tree) refl e

    over_deep : (b : Bool) → is_deep faces tree ≡ b → unless_deep b (and_limits keeping (by_rules keeping faces tree)) ≡ Ok x → IsMade faces x
    over_deep true i e = absurd (err_no _ x e)
    over_deep false i e = over_break i (first_break (shown faces) tree) refl e

  over_fit : (faces : List (Face K)) (x : Compiled K) (o : Option QName) → first_unfit faces ≡ o → of_standing keeping tree (if_fit o faces) ≡ Ok x → IsMade faces x
  over_fit faces x (Some q) i e = absurd (err_no (c.NoFit q) x e)
  over_fit faces x None i e = over_deep faces x i (is_deep faces tree) refl e

  over_standing : (faces : List (Face K)) (x : Compiled K) (o : Option (StaleUse K)) → of_standing keeping tree (if_coherent o faces) ≡ Ok x → IsMade faces x
  over_standing faces x (Some u) e = absurd (err_no (c.Unmet u) x e)
  over_standing faces x None e = over_fit faces x (first_unfit faces) refl e

  -- the interfaces of a whole walk
  pub record IsWalked (w : Walked K) (x : Compiled K) : Type 0 where
    pub few : nat_le (length tree.imports) most_imports ≡ true
    pub faces : List (Face K)
    pub walked : w ≡ Left faces
    pub made_so : IsMade faces x

  behind_walk : nat_le (length tree.imports) most_imports ≡ true → (w : Walked K) (x : Compiled K) → of_reached keeping tree (after_walk (standing keeping.same keeping.keeps) w) ≡ Ok x → IsWalked w x
  behind_walk few (Left faces) x e = record { few = few; faces = faces; walked = refl; made_so = over_standing faces x (first_stale keeping.same (keeping.keeps faces) faces) e }
  behind_walk few (NoInterface m) x e = absurd (err_no (c.Walk (NoInterface m)) x e)
  behind_walk few (Damaged m) x e = absurd (err_no (c.Walk (Damaged m)) x e)
  behind_walk few (Cycle m) x e = absurd (err_no (c.Walk (Cycle m)) x e)
  behind_walk few TooMany x e = absurd (err_no (c.Walk TooMany) x e)

  few_walk : (b : Bool) → nat_le (length tree.imports) most_imports ≡ b → (w : Walked K) (x : Compiled K) → of_few b (of_reached keeping tree (after_walk (standing keeping.same keeping.keeps) w)) ≡ Ok x → IsWalked w x
  few_walk true i w x e = behind_walk i w x e
  few_walk false i w x e = absurd (err_no _ x e)

  pub walked_so : (entry : List ℕ → Entry K) (x : Compiled K) → of_tree keeping entry tree ≡ Ok x → IsWalked (walk entry tree.name.name (each imported tree.imports)) x
  walked_so entry x e = few_walk (nat_le (length tree.imports) most_imports) refl (walk entry tree.name.name (each imported tree.imports)) x e

-- ---- the source

-- a text that compiles is short, and is read as a tree that compiles
pub record IsCompiled {K : Type 0} (keeping : Keeping K) (entry : List ℕ → Entry K) (text : List ℕ) (k : Compiled K) : Type 0 where
  pub small : nat_le (length text) most_source ≡ true
  pub tree : Tree
  pub read : reading text ≡ Ok tree
  pub walked : IsWalked keeping tree (walk entry tree.name.name (each imported tree.imports)) k

module _ {K : Type 0} (keeping : Keeping K) (entry : List ℕ → Entry K) (text : List ℕ) (k : Compiled K) where
  is_read : nat_le (length text) most_source ≡ true → (r : Result Tree NoModule) → reading text ≡ r → of_reading keeping entry r ≡ Ok k → IsCompiled keeping entry text k
  is_read small (Ok tree) i e = record { small = small; tree = tree; read = i; walked = walked_so keeping tree entry k e }
  is_read small (Err f) i e = absurd (err_no (c.Unread f) k e)

  is_short : (b : Bool) → nat_le (length text) most_source ≡ b → of_short b (of_reading keeping entry (reading text)) ≡ Ok k → IsCompiled keeping entry text k
  is_short true i e = is_read i (reading text) refl e
  is_short false i e = absurd (err_no c.Long k e)

  pub is_compiled : compiled keeping entry (Some text) ≡ Ok k → IsCompiled keeping entry text k
  unfolding compiled
  is_compiled e = is_short (nat_le (length text) most_source) refl e

-- ---- the names of a checked module

typed_so : (map : QName → Option Desc) (tree : Tree) (m : TypedModule) → checked map tree ≡ Some m → (m.name ≡ tree.name.name) × (m.imports ≡ rules.imported [] tree.imports)
typed_so map tree m e =
    let p = module_of map tree.name tree.imports (each declaration tree.decls) (each judging tree.body) tree.closing in
    let u = unbroken_parts p.notes.broken (typed_module map tree.name tree.imports (each declaration tree.decls) p) m e in
    (ap (λ (x : TypedModule). x.name) (sym u.1), ap (λ (x : TypedModule). x.imports) (sym u.1))

target_same : (i : Import) → (rules.target_of i).name ≡ imported i
target_same i = go i.target
  where
    go : (o : Option Ident) → (rules.target_in o i.ident).name ≡ target_of o i.ident.name
    go None = refl
    go (Some t) = refl

-- what it imports is imported by its source
imports_from : (n : List ℕ) (before : List (List ℕ)) (is : List Import) → has n (rules.imported before is) ≡ true → has n (each imported is) ≡ true
imports_from n before [] h = h
imports_from n before (i ∷ is) h = go (is_out (rules.target_of i).name || is_among (rules.target_of i).name before) h (imports_from n ((rules.target_of i).name ∷ before) is)
  where
    this : bytes_eq n (rules.target_of i).name ≡ bytes_eq n (imported i)
    this = ap (bytes_eq n) (target_same i)

    either : (b : Bool) → bytes_eq n (rules.target_of i).name ≡ b → b || has n (rules.imported ((rules.target_of i).name ∷ before) is) ≡ true → (has n (rules.imported ((rules.target_of i).name ∷ before) is) ≡ true → has n (each imported is) ≡ true) → has n (each imported (i ∷ is)) ≡ true
    either true e h more = or_first (bytes_eq n (imported i)) (has n (each imported is)) (sym this ∙ e)
    either false e h more = or_second (bytes_eq n (imported i)) (has n (each imported is)) (more h)

    go : (b : Bool) → has n (import_if b (rules.target_of i).name (rules.imported ((rules.target_of i).name ∷ before) is)) ≡ true → (has n (rules.imported ((rules.target_of i).name ∷ before) is) ≡ true → has n (each imported is) ≡ true) → has n (each imported (i ∷ is)) ≡ true
    go true h more = or_second (bytes_eq n (imported i)) (has n (each imported is)) (more h)
    go false h more = either (bytes_eq n (rules.target_of i).name) refl h more

-- ---- the source of a module

-- Module x compiles from a source with these imports: its walk goes from them, and it is made over the interfaces of the walk.
pub record ComesSo {K : Type 0} (keeping : Keeping K) (entry : List ℕ → Entry K) (x : List ℕ) (ms : List (List ℕ)) (k : Compiled K) : Type 0 where
  pub faces : List (Face K)
  pub walked : walk entry x ms ≡ Left faces
  pub module_is : TypedModule
  pub name : module_is.name ≡ x
  pub not_out : bytes_eq x (codes "Out") ≡ false
  pub imports : (n : List ℕ) → has n module_is.imports ≡ true → has n ms ≡ true
  pub is : k ≡ made keeping faces (laid_out (described faces) (module_view module_is))

abbrev imports_or : List (List ℕ) → Source → List (List ℕ)
imports_or d NoSource = d
imports_or d (Imports ms) = ms

abbrev is_there : Source → Bool
is_there NoSource = false
is_there (Imports ms) = true

module _ {K : Type 0} (keeping : Keeping K) (entry : List ℕ → Entry K) (x : List ℕ) (ms : List (List ℕ)) (k : Compiled K) where
  of_named : (tree : Tree) (b : Bool) → bytes_eq x tree.name.name ≡ b → cond b (Imports (each imported tree.imports)) NoSource ≡ Imports ms → IsWalked keeping tree (walk entry tree.name.name (each imported tree.imports)) k → ComesSo keeping entry x ms k
  of_named tree false i e w = absurd (false≢true (ap is_there e))
  of_named tree true i e w =
      let n : x ≡ tree.name.name = same_bytes x tree.name.name i in
      let l : each imported tree.imports ≡ ms = ap (imports_or ms) e in
      let m = w.made_so.checked_module in
      let t = typed_so (shown w.faces) tree m w.made_so.checked_so in
      record {
        faces = w.faces;
        walked = ap (λ r. walk entry r ms) n ∙ ap (walk entry tree.name.name) (sym l) ∙ w.walked;
        module_is = m;
        name = t.0 ∙ sym n;
        not_out = ap is_out (n ∙ sym t.0) ∙ not_out (shown w.faces) tree m w.made_so.checked_so;
        imports = λ a f. ap (has a) (sym l) ∙ imports_from a [] tree.imports (ap (has a) (sym t.1) ∙ f);
        is = w.made_so.is;
      }

  pub comes_so : (file : Option (List ℕ)) → source_of x file ≡ Imports ms → compiled keeping entry file ≡ Ok k → ComesSo keeping entry x ms k
  comes_so None e h = absurd (false≢true (ap is_there e))
  comes_so (Some text) e h =
      let i = is_compiled keeping entry text k h in
      of_named i.tree (bytes_eq x i.tree.name.name) refl (sym (ap (λ b. cond b (read_as x (reading text)) (Imports [])) i.small ∙ ap (read_as x) i.read) ∙ e) i.walked
