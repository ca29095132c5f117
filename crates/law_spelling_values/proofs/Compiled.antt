-- The constants and the lengths of arrays of a module that compiles are in range.
use Rattle.std.proofs.Common.{◌≡◌, ℕ, Bool, true, false, List, [], ◌∷◌, length, map, Option, Some, None, Result, Ok, Err, refl, sym, ap, subst, ◌∙◌}
use Rattle.std.specs.Prelude.{◌||◌, nat_le, bytes_eq}
use Rattle.std.specs.List.{AllByRecursion}
use Rattle.std.proofs.lemmas.Bool.{false≢true}
use Rattle.std.proofs.lemmas.Slice.Eq.{bytes_eq-Decides}
use Rattle.ob_tree.specs.declared.names.QName.{QName}
use Rattle.ob_tree.specs.declared.which.Which.{Which}
use Rattle.ob_tree.specs.declared.pos.Pos.{Pos}
use Rattle.ob_tree.specs.declared.ident.Ident.{Ident}
use Rattle.ob_tree.specs.declared.ident.Import.{Import}
use Rattle.ob_tree.specs.declared.decl.Module.{Module as Tree}
use Rattle.ob_types.specs.declared.desc.Desc.{Desc}
use Rattle.ob_types.specs.declared.desc.Desc.TheVariants as desc
use Rattle.ob_types.specs.declared.typed.TypedType.{TypedType}
use Rattle.ob_types.specs.declared.typed.TypedModule.{TypedModule}
use Rattle.ob_types.specs.TypedSyntax.{Module}
use Rattle.ob_types.specs.TypedView.{module_view}
use Rattle.ob_rules.specs.declared.broken.Broken.{Broken as BrokenRule}
use Rattle.ob_rules.specs.declared.broken.Rule.TheVariants as rule
use Rattle.ob_rules.specs.declared.broken.Rule.{Rule}
use Rattle.ob_rules.specs.Judged.{notes_if}
use Rattle.ob_rules.specs.Names.{is_out}
use Rattle.ob_rules.specs.Declarations.{Part, declaration, module_of, name_judged, typed_module, if_unbroken, first_break, checked, is_system, target_of}
use Rattle.ob_rules.specs.Statements.{judging}
use Rattle.ob_layout.specs.LaidOut.{laid_type}
use Rattle.ob_env.specs.Faces.{Face, described}
use Rattle.ob_env.specs.Fit.{first_unfit}
use Rattle.ob_env.specs.Stale.{StaleUse, first_stale}
use Rattle.ob_env.specs.Answer.{if_fit, if_coherent, standing}
use Rattle.ob_env.specs.Shown.{shown}
use Rattle.ob_env_walk.specs.Walk.{Entry, Walked, Left, NoInterface, Damaged, Cycle, TooMany, walk}
use Rattle.ob_env_walk.specs.Answer.{after_walk, env_answer}
use Rattle.ob_parse_grammar.specs.TextReading.{NoModule, reading}
use Rattle.ob_compile_model.specs.Compiling.{texts, Compiled, exceeds, within, of_checked, of_break, by_rules, and_limits, is_deep, unless_deep, of_standing, of_reached, most_imports, of_few, of_reading, most_source, of_short, compiled, imported as imported_name}
use Rattle.law_body_context.specs.Laws.{AreOthers}
use Rattle.law_spelling.specs.Laws.{Text, IsSpelled, compiled_from}
use Rattle.law_spelling.specs.Seen.{AreNamedEntries, LengthFits}
use Rattle.law_spelling.proofs.Imports.{nothing_both}
use Rattle.law_spelling.proofs.Walked.{LeavesApart, walk_apart}
use Rattle.law_spelling_values.specs.Laws.{AreInRange, IsInRange, CompiledAreInRange}
use Rattle.law_spelling_values.proofs.Checked.{modules_in_range}
use Rattle.law_spelling_values.proofs.Others.{is_built_in, IsOther, walk_other}

-- ---- laid out

length_laid : (types : QName → Option Desc) (m : Module) (t : TypedType) → LengthFits t.desc → LengthFits (laid_type types m t).desc
length_laid types m t h = go t.desc h
  where
    go : (d : Desc) → LengthFits d → LengthFits (laid_type types m (record t { desc = d })).desc
    go (desc.Const v) h = tt
    go (desc.Var a u) h = tt
    go (desc.Proc s) h = tt
    go (desc.Alias a u) h = tt
    go (desc.Array a n u) h = h
    go (desc.OpenArray a u) h = tt
    go (desc.Pointer a u) h = tt
    go (desc.ProcType a s) h = tt
    go (desc.Record r) h = tt

lengths_laid : (types : QName → Option Desc) (m : Module) (ts : List TypedType) → AllByRecursion (λ t. LengthFits t.desc) ts → AllByRecursion (λ t. LengthFits t.desc) (map (laid_type types m) ts)
lengths_laid types m [] h = tt
lengths_laid types m (t ∷ ts) h = (length_laid types m t h.0, lengths_laid types m ts h.1)

-- ---- imports

quiet_if : (b : Bool) (which : Rule) (at : Pos) → (notes_if b which at).broken ≡ [] → b ≡ false
quiet_if true which at e = absurd cc
quiet_if false which at e = refl

quiet_is : (bs : List BrokenRule) (x m : TypedModule) → if_unbroken bs x ≡ Some m → bs ≡ []
quiet_is [] x m e = refl
quiet_is (b ∷ bs) x m e = absurd cc

unbroken_is : (bs : List BrokenRule) (x m : TypedModule) → if_unbroken bs x ≡ Some m → x ≡ m
unbroken_is [] x m e = cc
unbroken_is (b ∷ bs) x m e = absurd cc

-- a checked module has the name of its text
pub name_is : (shown : QName → Option Desc) (tree : Tree) (m : TypedModule) → checked shown tree ≡ Some m → m.name ≡ tree.name.name
name_is shown tree m e =
    let parts : Part = module_of shown tree.name tree.imports (map declaration tree.decls) (map judging tree.body) tree.closing in
    ap (λ (x : TypedModule). x.name) (sym (unbroken_is parts.notes.broken (typed_module shown tree.name tree.imports (map declaration tree.decls) parts) m e))

-- no checked module is named Out or SYSTEM
name_plain : (shown : QName → Option Desc) (tree : Tree) (m : TypedModule) → checked shown tree ≡ Some m → is_built_in tree.name.name ≡ false
name_plain shown tree m e =
    let parts : Part = module_of shown tree.name tree.imports (map declaration tree.decls) (map judging tree.body) tree.closing in
    let k = quiet_is parts.notes.broken (typed_module shown tree.name tree.imports (map declaration tree.decls) parts) m e in
    let a = nothing_both (name_judged tree.name tree.closing).broken _ k in
    let b = nothing_both (notes_if (is_out tree.name.name || is_system tree.name.name) rule.ReservedModule tree.name.pos).broken _ a.0 in
    quiet_if (is_out tree.name.name || is_system tree.name.name) rule.ReservedModule tree.name.pos b.0

other_is : (root m : List ℕ) → is_built_in root ≡ false → IsOther root m → bytes_eq m root ≡ false
other_is root m plain h = go (is_built_in m) refl
  where
    still : (b : Bool) → bytes_eq m root ≡ b → is_built_in m ≡ true → b ≡ false
    still false e i = refl
    still true e i = let same : m ≡ root = (bytes_eq-Decides m root).0 e in absurd (false≢true (sym plain ∙ ap is_built_in (sym same) ∙ i))

    go : (b : Bool) → is_built_in m ≡ b → bytes_eq m root ≡ false
    go false i = h i
    go true i = still (bytes_eq m root) refl i

target_is : (i : Import) → imported_name i ≡ (target_of i).name
target_is i = go i.target
  where
    go : (o : Option Ident) → imported_name (record i { target = o }) ≡ (target_of (record i { target = o })).name
    go None = refl
    go (Some t) = refl

others_are : (root : List ℕ) → is_built_in root ≡ false → (is : List Import) → AllByRecursion (IsOther root) (map imported_name is) → AreOthers root is
others_are root plain [] h = tt
others_are root plain (i ∷ is) h = (subst (λ (x : List ℕ). bytes_eq x root ≡ false) (target_is i) (other_is root (imported_name i) plain h.0), others_are root plain is h.1)

-- ---- one compile

-- what compiles is a text that is read, and its checked module against the interfaces of its walk
pub record IsFrom (c : Compiled Text) : Type 0 where
  pub text : List ℕ
  pub short : nat_le (length text) most_source ≡ true
  pub tree : Tree
  pub read : reading text ≡ Ok tree
  pub others : AllByRecursion (IsOther tree.name.name) (map imported_name tree.imports)
  pub faces : List (Face Text)
  pub apart : AllByRecursion (λ f. bytes_eq f.«module» tree.name.name ≡ false) faces
  pub fit : first_unfit faces ≡ None
  pub m : TypedModule
  pub is : checked (shown faces) tree ≡ Some m
  pub same : compiled_from faces (module_view m) ≡ c

module _ (entry : List ℕ → Entry Text) (entries : AreNamedEntries entry) (c : Compiled Text) where
  -- what is known where the rules are asked
  record IsAsked (tree : Tree) (faces : List (Face Text)) : Type 0 where
    pub apart : AllByRecursion (λ f. bytes_eq f.«module» tree.name.name ≡ false) faces
    pub text : List ℕ
    pub short : nat_le (length text) most_source ≡ true
    pub read : reading text ≡ Ok tree
    pub others : AllByRecursion (IsOther tree.name.name) (map imported_name tree.imports)

  within_is : (d : Compiled Text) (o : Option Which) → within d o ≡ Ok c → d ≡ c
  within_is d (Some w) e = absurd cc
  within_is d None e = cc

  of_found : (faces : List (Face Text)) (tree : Tree) → IsAsked tree faces → first_unfit faces ≡ None → (found : Option TypedModule) → checked (shown faces) tree ≡ found → and_limits texts (of_checked texts faces found) ≡ Ok c → IsFrom c
  of_found faces tree a u None is e = absurd cc
  of_found faces tree a u (Some m) is e =
      let d : Compiled Text = compiled_from faces (module_view m) in
      record { text = a.text; short = a.short; tree = tree; read = a.read; others = a.others; faces = faces; apart = a.apart; fit = u; m = m; is = is; same = within_is d (exceeds texts d) e }

  broken : (faces : List (Face Text)) (tree : Tree) → IsAsked tree faces → first_unfit faces ≡ None → (b : Option BrokenRule) → and_limits texts (of_break texts faces (checked (shown faces) tree) b) ≡ Ok c → IsFrom c
  broken faces tree a u (Some b) e = absurd cc
  broken faces tree a u None e = of_found faces tree a u (checked (shown faces) tree) refl e

  deep : (b : Bool) (faces : List (Face Text)) (tree : Tree) → IsAsked tree faces → first_unfit faces ≡ None → unless_deep b (and_limits texts (by_rules texts faces tree)) ≡ Ok c → IsFrom c
  deep true faces tree a u e = absurd cc
  deep false faces tree a u e = broken faces tree a u (first_break (shown faces) tree) e

  fitting : (o : Option QName) (faces : List (Face Text)) (tree : Tree) → IsAsked tree faces → first_unfit faces ≡ o → of_standing texts tree (if_fit o faces) ≡ Ok c → IsFrom c
  fitting (Some q) faces tree a u e = absurd cc
  fitting None faces tree a u e = deep (is_deep faces tree) faces tree a u e

  coherent : (o : Option (StaleUse Text)) (faces : List (Face Text)) (tree : Tree) → IsAsked tree faces → of_standing texts tree (if_coherent o faces) ≡ Ok c → IsFrom c
  coherent (Some u) faces tree a e = absurd cc
  coherent None faces tree a e = fitting (first_unfit faces) faces tree a refl e

  walked : (w : Walked Text) (tree : Tree) (text : List ℕ) → nat_le (length text) most_source ≡ true → reading text ≡ Ok tree → walk entry tree.name.name (map imported_name tree.imports) ≡ w → of_reached texts tree (after_walk (standing texts.same texts.keeps) w) ≡ Ok c → IsFrom c
  walked (Left faces) tree text l r i e = coherent (first_stale texts.same (texts.keeps faces) faces) faces tree (record { apart = subst (LeavesApart tree.name.name entry entries) i (walk_apart tree.name.name entry entries (map imported_name tree.imports)); text = text; short = l; read = r; others = walk_other tree.name.name entry entries (map imported_name tree.imports) faces i }) e
  walked (NoInterface m) tree text l r i e = absurd cc
  walked (Damaged m) tree text l r i e = absurd cc
  walked (Cycle m) tree text l r i e = absurd cc
  walked TooMany tree text l r i e = absurd cc

  few : (b : Bool) (tree : Tree) (text : List ℕ) → nat_le (length text) most_source ≡ true → reading text ≡ Ok tree → of_few b (of_reached texts tree (env_answer texts.same texts.keeps entry tree.name.name (map imported_name tree.imports))) ≡ Ok c → IsFrom c
  few true tree text l r e = walked (walk entry tree.name.name (map imported_name tree.imports)) tree text l r refl e
  few false tree text l r e = absurd cc

  read : (text : List ℕ) → nat_le (length text) most_source ≡ true → (r : Result Tree NoModule) → reading text ≡ r → of_reading texts entry r ≡ Ok c → IsFrom c
  read text l (Ok tree) i e = few (nat_le (length tree.imports) most_imports) tree text l i e
  read text l (Err f) i e = absurd cc

  short : (b : Bool) (text : List ℕ) → nat_le (length text) most_source ≡ b → of_short b (of_reading texts entry (reading text)) ≡ Ok c → IsFrom c
  short true text l e = read text l (reading text) refl e
  short false text l e = absurd cc

pub compiled_is : (entry : List ℕ → Entry Text) → AreNamedEntries entry → (source : Option (List ℕ)) (c : Compiled Text) → compiled texts entry source ≡ Ok c → IsFrom c
unfolding compiled
compiled_is entry entries None c e = absurd cc
compiled_is entry entries (Some source) c e = short entry entries c (nat_le (length source) most_source) source refl e

-- ---- what it is

abbrev InRange : Compiled Text → Type 0
InRange d = AllByRecursion IsSpelled d.against → AreInRange d.tree

pub compiled_in_range : CompiledAreInRange
compiled_in_range entry entries source c e =
    let k = compiled_is entry entries source c e in
    subst InRange k.same (λ s.
    let r : IsInRange k.m = modules_in_range k.faces s k.text k.tree k.read (others_are k.tree.name.name (name_plain (shown k.faces) k.tree k.m k.is) k.tree.imports k.others) k.apart k.fit k.m k.is in
    record { constants = r.constants; lengths = lengths_laid (described k.faces) (module_view k.m) k.m.types r.lengths })
