-- What compiles is written.
use Rattle.std.proofs.Common.{◌≡◌, ℕ, ◌≤◌, ◌<◌, ◌^◌, Bool, true, false, cond, List, [], ◌∷◌, length, map, Option, Some, None, Result, Ok, Err, refl, sym, ap, subst}
use Rattle.std.specs.Prelude.{nat_le, bytes_eq}
use Rattle.std.specs.List.{AllByRecursion, IsDistinct}
use Rattle.std.specs.Option.{option_map}
use Rattle.std.proofs.lemmas.Bool.{leb-true}
use Rattle.std.proofs.lemmas.Slice.Eq.{bytes_eq-Decides}
use Rattle.ob_tree.specs.declared.names.QName.{QName}
use Rattle.ob_tree.specs.declared.which.Which.{Which}
use Rattle.ob_tree.specs.declared.decl.Module.{Module as Tree}
use Rattle.ob_types.specs.declared.types.TypeRef.TheVariants as ref
use Rattle.ob_types.specs.declared.value.Value.{Value}
use Rattle.ob_types.specs.declared.value.Value.TheVariants as literal
use Rattle.ob_types.specs.declared.typed.TypedConstant.{TypedConstant}
use Rattle.ob_types.specs.declared.desc.Desc.{Desc}
use Rattle.ob_types.specs.declared.desc.Desc.TheVariants as desc
use Rattle.ob_types.specs.declared.typed.TypedType.{TypedType}
use Rattle.ob_types.specs.declared.typed.TypedParameter.{TypedParameter}
use Rattle.ob_types.specs.declared.typed.TypedProcedure.{TypedProcedure}
use Rattle.ob_types.specs.declared.typed.TypedModule.{TypedModule}
use Rattle.ob_types.specs.TypedSyntax.{Module}
use Rattle.ob_types.specs.TypedView.{procedure_view, module_view}
use Rattle.ob_format.specs.Format.{◌>>=◌, text16}
use Rattle.ob_format.specs.Names.{name, object_name}
use Rattle.ob_desc.specs.Grammar.{type_fits, value_fits, param}
use Rattle.ob_rules.specs.declared.broken.Broken.{Broken as BrokenRule}
use Rattle.ob_rules.specs.Declarations.{Part, declaration, imports_declared, around_module, module_of, typed_module, if_unbroken, imported, first_break, checked}
use Rattle.ob_rules.specs.Statements.{judging}
use Rattle.ob_layout.specs.LaidOut.{laid_type, laid_out, viewed}
use Rattle.ob_env.specs.Faces.{Face, object_named, face_named, described}
use Rattle.ob_env.specs.Fit.{first_unfit}
use Rattle.ob_env.specs.Stale.{StaleUse, first_stale}
use Rattle.ob_env.specs.Answer.{if_fit, if_coherent, standing}
use Rattle.ob_env.specs.Shown.{blank, shown}
use Rattle.ob_env_walk.specs.Walk.{Entry, Walked, Left, NoInterface, Damaged, Cycle, TooMany, walk}
use Rattle.ob_env_walk.specs.Answer.{after_walk, env_answer}
use Rattle.ob_parse_grammar.specs.TextReading.{NoModule, reading}
use Rattle.ob_uses.specs.Objects.{formal_of, is_exported}
use Rattle.ob_compile_model.specs.Compiling.{texts, Compiled, exceeds, within, of_checked, of_break, by_rules, and_limits, is_deep, unless_deep, of_standing, of_reached, most_imports, of_few, of_reading, most_source, of_short, compiled, imported as imported_name}
use Rattle.law_spelling.specs.Trees.{ConstantIsSpelled, IsNamed, TypeIsSpelled, TypedTypeIsSpelled, ProcedureIsSpelled, AreImports}
use Rattle.law_spelling.specs.Raw.{IsNamedTree}
use Rattle.law_spelling.specs.Ruled.{TypeNames, TypeOk, ShownOk, IsValue, ConstantOk, ProcedureTypes}
use Rattle.law_spelling.specs.Laws.{Text, IsSpelled, compiled_from, IsBuilt, IsWritten}
use Rattle.law_spelling.specs.Seen.{AreNamedEntries, LengthFits, ValueFits, IsSeen, CompiledAreWritten}
use Rattle.law_spelling.proofs.Names.{described_fits, is_named_of, is_object_of}
use Rattle.law_spelling.proofs.Limits.{within as limits_of}
use Rattle.law_spelling.proofs.File.{modules_written}
use Rattle.law_spelling.proofs.Words.{words_few}
use Rattle.law_spelling.proofs.Reading.{readings_named}
use Rattle.law_spelling.proofs.RuleBlocks.{modules_are_named}
use Rattle.law_spelling.proofs.Walked.{LeavesApart, walk_apart}
use Rattle.law_spelling.proofs.Imports.{nothing_both, imports_are}
use Rattle.law_lists.proofs.Lists.{all_from, all_made}

-- ---- the spelled tree

names_laid : (types : QName → Option Desc) (m : Module) (ts : List TypedType) → map (λ t. t.name) (map (laid_type types m) ts) ≡ map (λ t. t.name) ts
names_laid types m [] = refl
names_laid types m (t ∷ ts) = ap (λ (l : List (List ℕ)). t.name ∷ l) (names_laid types m ts)

desc_length : (types : QName → Option Desc) (m : Module) (t : TypedType) → LengthFits (laid_type types m t).desc → LengthFits t.desc
desc_length types m t h = go t.desc h
  where
    go : (d : Desc) → LengthFits (laid_type types m (record t { desc = d })).desc → LengthFits d
    go (desc.Const v) h = tt
    go (desc.Var a u) h = tt
    go (desc.Proc s) h = tt
    go (desc.Alias a u) h = tt
    go (desc.Array a n u) h = h
    go (desc.OpenArray a u) h = tt
    go (desc.Pointer a u) h = tt
    go (desc.ProcType a s) h = tt
    go (desc.Record r) h = tt

type_spelled : (d : Desc) → TypeNames d → LengthFits d → TypeIsSpelled d
type_spelled (desc.Const v) h l = h
type_spelled (desc.Var a u) h l = h
type_spelled (desc.Proc s) h l = h
type_spelled (desc.Alias a u) h l = h
type_spelled (desc.Array a n u) h l = (h.0, l, h.1)
type_spelled (desc.OpenArray a u) h l = h
type_spelled (desc.Pointer a u) h l = h
type_spelled (desc.ProcType a s) h l = h
type_spelled (desc.Record r) h l = h

one_spelled : (t : TypedType) → TypeOk t → length t.name < 2 ^ 16 → LengthFits t.desc → TypedTypeIsSpelled t
unfolding object_name text16
one_spelled t h s l = ((s, h.0), type_spelled t.desc h.1 l)

types_spelled : (ts : List TypedType) → AllByRecursion TypeOk ts → AllByRecursion (λ t. length t.name < 2 ^ 16) ts → AllByRecursion (λ t. LengthFits t.desc) ts → AllByRecursion TypedTypeIsSpelled ts
types_spelled [] h s l = tt
types_spelled (t ∷ ts) h s l = (one_spelled t h.0 s.0 l.0, types_spelled ts h.1 s.1 l.1)

value_spelled : (v : Value) → IsValue v → ValueFits v → value_fits v
value_spelled (literal.Bool b) h k = k
value_spelled (literal.Char c) h k = k
value_spelled (literal.Int z) h k = k
value_spelled (literal.Set n) h k = k
value_spelled (literal.Str text) h k = k
value_spelled literal.Nil h k = absurd h

constants_spelled : (cs : List TypedConstant) → AllByRecursion ConstantOk cs → AllByRecursion (λ c. ValueFits c.value) cs → AllByRecursion ConstantIsSpelled cs
constants_spelled [] h k = tt
constants_spelled (c ∷ cs) h k = ((h.0.0, value_spelled c.value h.0.1 k.0), constants_spelled cs h.1 k.1)

formals_fit : (xs : List TypedParameter) → AllByRecursion (λ x. type_fits x.of) xs → AllByRecursion param.fits (map formal_of xs)
formals_fit [] h = tt
formals_fit (x ∷ xs) h = (h.0, formals_fit xs h.1)

procedures_spelled : (ps : List TypedProcedure) → AllByRecursion ProcedureTypes ps → AllByRecursion (λ p. is_exported p ≡ true → IsNamed p.name) (map procedure_view ps) → AllByRecursion ProcedureIsSpelled (map procedure_view ps)
procedures_spelled [] h n = tt
procedures_spelled (p ∷ ps) h n = (λ e. (n.0 e, (formals_fit p.parameters h.0.parameters, h.0.result)), procedures_spelled ps h.1 n.1)

-- ---- what is checked

pub record IsChecked (shown : QName → Option Desc) (tree : Tree) (m : TypedModule) : Type 0 where
  pub name : m.name ≡ tree.name.name
  pub imports : m.imports ≡ imported [] tree.imports
  pub quiet : (imports_declared tree.imports (around_module shown tree.name.name (map declaration tree.decls))).part.notes.broken ≡ []

quiet_is : (bs : List BrokenRule) (x m : TypedModule) → if_unbroken bs x ≡ Some m → (bs ≡ []) × (x ≡ m)
quiet_is [] x m e = (refl, cc)
quiet_is (b ∷ bs) x m e = absurd cc

is_checked : (shown : QName → Option Desc) (tree : Tree) (m : TypedModule) → checked shown tree ≡ Some m → IsChecked shown tree m
is_checked shown tree m e =
    let parts : Part = module_of shown tree.name tree.imports (map declaration tree.decls) (map judging tree.body) tree.closing in
    let whole : TypedModule = typed_module shown tree.name tree.imports (map declaration tree.decls) parts in
    let k = quiet_is parts.notes.broken whole m e in
    let a = nothing_both _ _ k.0 in
    let b = nothing_both (imports_declared tree.imports (around_module shown tree.name.name (map declaration tree.decls))).part.notes.broken _ a.1 in
    record { name = ap (λ (x : TypedModule). x.name) (sym k.1); imports = ap (λ (x : TypedModule). x.imports) (sym k.1); quiet = b.0 }

-- ---- what is shown

shown_ok : (faces : List (Face Text)) → AllByRecursion IsSpelled faces → ShownOk (shown faces)
shown_ok faces h q d e = go (described faces q) refl e
  where
    go : (o : Option Desc) → described faces q ≡ o → option_map blank o ≡ Some d → type_fits (ref.Named q)
    go None i e = absurd cc
    go (Some x) i e = let k = described_fits faces h q x i in (is_named_of q.«module» k.«module», is_object_of q.object k.object)

apart_named : (root : List ℕ) (fs : List (Face Text)) → AllByRecursion (λ f. bytes_eq f.«module» root ≡ false) fs → (m : List ℕ) (x : List ℕ) (d : Desc) → (face_named fs m >>= λ f. object_named f.objects x) ≡ Some d → bytes_eq m root ≡ false
apart_named root [] h m x d e = absurd cc
apart_named root (f ∷ fs) h m x d e = go (bytes_eq m f.«module») refl e (apart_named root fs h.1 m x d)
  where
    go : (b : Bool) → bytes_eq m f.«module» ≡ b → (cond b (Some f) (face_named fs m) >>= λ f. object_named f.objects x) ≡ Some d → ((face_named fs m >>= λ f. object_named f.objects x) ≡ Some d → bytes_eq m root ≡ false) → bytes_eq m root ≡ false
    go true i e rest = subst (λ (y : List ℕ). bytes_eq y root ≡ false) (sym ((bytes_eq-Decides m f.«module»).0 i)) h.0
    go false i e rest = rest e

-- ---- one compile

-- what is known where the rules are asked
pub record IsAsked (faces : List (Face Text)) (tree : Tree) : Type 0 where
  pub named : IsNamedTree tree
  pub few : length tree.imports ≤ 64
  pub fit : first_unfit faces ≡ None
  pub apart : AllByRecursion (λ f. bytes_eq f.«module» tree.name.name ≡ false) faces

is_built : (faces : List (Face Text)) (tree : Tree) (m : TypedModule) → IsAsked faces tree → checked (shown faces) tree ≡ Some m → exceeds texts (compiled_from faces (module_view m)) ≡ None → AllByRecursion IsSpelled faces →
    IsSeen (viewed (described faces) (laid_out (described faces) (module_view m))) (laid_out (described faces) (module_view m)) → IsBuilt faces (module_view m)
is_built faces tree m a is limits spelled seen =
    let raw = module_view m in
    let laid = laid_out (described faces) raw in
    let f = laid_type (described faces) raw in
    let k = is_checked (shown faces) tree m is in
    let g = modules_are_named (shown faces) (shown_ok faces spelled) tree a.named m is in
    let w = limits_of (compiled_from faces raw) limits in
    record {
      spelled = spelled;
      fit = a.fit;
      tree = record {
        name = subst IsNamed (sym k.name) a.named.name;
        imports = subst AreImports (sym k.imports) (imports_are tree.imports (around_module (shown faces) tree.name.name (map declaration tree.decls)) a.few a.named.imports k.quiet);
        constants = constants_spelled m.constants g.constants seen.constants;
        variables = g.variables;
        procedures = procedures_spelled m.procedures g.procedures seen.procedures;
        types = types_spelled m.types g.types (all_made f (λ t. length t.name < 2 ^ 16) m.types seen.short) (all_from (λ t. LengthFits (f t).desc) (λ t. LengthFits t.desc) (desc_length (described faces) raw) m.types (all_made f (λ t. LengthFits t.desc) m.types seen.lengths));
        differ = subst (IsDistinct bytes_eq) (names_laid (described faces) raw m.types) seen.differ;
      };
      code = record {
        words = words_few faces a.fit laid (λ q d e. subst (λ (x : List ℕ). bytes_eq q.«module» x ≡ false) (sym k.name) (apart_named tree.name.name faces a.apart q.«module» q.object d e)) seen.grounded w.words;
        bodies = seen.bodies;
        body = seen.body;
        bases = seen.bases;
        numbers = seen.numbers;
      };
      limits = limits;
    }

module _ (entry : List ℕ → Entry Text) (entries : AreNamedEntries entry) (c : Compiled Text) where
  abbrev Goal : Compiled Text → Type 0
  Goal d = AllByRecursion IsSpelled d.against → IsSeen (viewed (described d.against) d.tree) d.tree → IsWritten d

  within_is : (d : Compiled Text) (o : Option Which) → within d o ≡ Ok c → (o ≡ None) × (d ≡ c)
  within_is d (Some w) e = absurd cc
  within_is d None e = (refl, cc)

  of_found : (faces : List (Face Text)) (tree : Tree) → IsAsked faces tree → (found : Option TypedModule) → checked (shown faces) tree ≡ found → and_limits texts (of_checked texts faces found) ≡ Ok c → Goal c
  of_found faces tree a None is e = absurd cc
  of_found faces tree a (Some m) is e =
      let d : Compiled Text = compiled_from faces (module_view m) in
      let k = within_is d (exceeds texts d) e in
      subst Goal k.1 (λ s v. modules_written faces (module_view m) (is_built faces tree m a is k.0 s v))

  broken : (faces : List (Face Text)) (tree : Tree) → IsAsked faces tree → (b : Option BrokenRule) → and_limits texts (of_break texts faces (checked (shown faces) tree) b) ≡ Ok c → Goal c
  broken faces tree a (Some b) e = absurd cc
  broken faces tree a None e = of_found faces tree a (checked (shown faces) tree) refl e

  deep : (b : Bool) (faces : List (Face Text)) (tree : Tree) → IsAsked faces tree → unless_deep b (and_limits texts (by_rules texts faces tree)) ≡ Ok c → Goal c
  deep true faces tree a e = absurd cc
  deep false faces tree a e = broken faces tree a (first_break (shown faces) tree) e

  -- the interfaces that a walk left
  fitting : (o : Option QName) (faces : List (Face Text)) (tree : Tree) → first_unfit faces ≡ o → IsNamedTree tree → length tree.imports ≤ 64 → AllByRecursion (λ f. bytes_eq f.«module» tree.name.name ≡ false) faces → of_standing texts tree (if_fit o faces) ≡ Ok c → Goal c
  fitting (Some q) faces tree i n l p e = absurd cc
  fitting None faces tree i n l p e = deep (is_deep faces tree) faces tree (record { named = n; few = l; fit = i; apart = p }) e

  coherent : (o : Option (StaleUse Text)) (faces : List (Face Text)) (tree : Tree) → IsNamedTree tree → length tree.imports ≤ 64 → AllByRecursion (λ f. bytes_eq f.«module» tree.name.name ≡ false) faces → of_standing texts tree (if_coherent o faces) ≡ Ok c → Goal c
  coherent (Some u) faces tree n l p e = absurd cc
  coherent None faces tree n l p e = fitting (first_unfit faces) faces tree refl n l p e

  abbrev LeftApart : List ℕ → Walked Text → Type 0
  LeftApart root (Left faces) = AllByRecursion (λ f. bytes_eq f.«module» root ≡ false) faces
  LeftApart root w = Unit {0}

  walked : (w : Walked Text) (tree : Tree) → IsNamedTree tree → length tree.imports ≤ 64 → LeftApart tree.name.name w → of_reached texts tree (after_walk (standing texts.same texts.keeps) w) ≡ Ok c → Goal c
  walked (Left faces) tree n l p e = coherent (first_stale texts.same (texts.keeps faces) faces) faces tree n l p e
  walked (NoInterface m) tree n l p e = absurd cc
  walked (Damaged m) tree n l p e = absurd cc
  walked (Cycle m) tree n l p e = absurd cc
  walked TooMany tree n l p e = absurd cc

  left_apart : (root : List ℕ) (imports : List (List ℕ)) → LeftApart root (walk entry root imports)
  left_apart root imports = go (walk entry root imports) (walk_apart root entry entries imports)
    where
      go : (w : Walked Text) → LeavesApart root entry entries w → LeftApart root w
      go (Left faces) h = h
      go (NoInterface m) h = tt
      go (Damaged m) h = tt
      go (Cycle m) h = tt
      go TooMany h = tt

  few : (b : Bool) (tree : Tree) → nat_le (length tree.imports) most_imports ≡ b → IsNamedTree tree → of_few b (of_reached texts tree (env_answer texts.same texts.keeps entry tree.name.name (map imported_name tree.imports))) ≡ Ok c → Goal c
  few true tree i n e = walked (walk entry tree.name.name (map imported_name tree.imports)) tree n (leb-true (length tree.imports) 64 i) (left_apart tree.name.name (map imported_name tree.imports)) e
  few false tree i n e = absurd cc

  read : (text : List ℕ) (r : Result Tree NoModule) → reading text ≡ r → of_reading texts entry r ≡ Ok c → Goal c
  read text (Ok tree) i e = few (nat_le (length tree.imports) most_imports) tree refl (readings_named text tree i) e
  read text (Err f) i e = absurd cc

  short : (b : Bool) (text : List ℕ) → of_short b (of_reading texts entry (reading text)) ≡ Ok c → Goal c
  short true text e = read text (reading text) refl e
  short false text e = absurd cc

pub compiled_written : CompiledAreWritten
unfolding compiled
compiled_written entry entries None c e = absurd cc
compiled_written entry entries (Some source) c e = short entry entries c (nat_le (length source) most_source) source e
