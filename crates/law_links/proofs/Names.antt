-- The links to variables and procedures of a module that compiles name what it uses.
use Rattle.std.proofs.Common.{◌≡◌, ℕ, Bool, true, false, List, [], ◌∷◌, length, map, Option, Some, None, Result, Ok, Err, refl, subst}
use Rattle.std.specs.Prelude.{nat_le}
use Rattle.std.specs.List.{AllByRecursion}
use Rattle.ob_tree.specs.declared.names.QName.{QName}
use Rattle.ob_tree.specs.declared.pos.Pos.{Pos}
use Rattle.ob_tree.specs.declared.which.Which.{Which}
use Rattle.ob_tree.specs.declared.decl.Module.{Module as Tree}
use Rattle.ob_types.specs.declared.types.TypeRef.{TypeRef}
use Rattle.ob_types.specs.declared.typed.TypedProcedure.{TypedProcedure}
use Rattle.ob_types.specs.declared.typed.TypedModule.{TypedModule}
use Rattle.ob_types.specs.TypedSyntax.{Procedure}
use Rattle.ob_types.specs.TypedView.{procedure_view}
use Rattle.ob_rules.specs.declared.broken.Broken.{Broken as BrokenRule}
use Rattle.ob_rules.specs.Declarations.{first_break, checked}
use Rattle.ob_env.specs.Faces.{Face}
use Rattle.ob_env.specs.Answer.{Standing, Stands, Stale, Unfit}
use Rattle.ob_env.specs.Shown.{shown}
use Rattle.ob_env_walk.specs.Walk.{Entry}
use Rattle.ob_env_walk.specs.Answer.{Reached, Stopped, Whole, env_answer}
use Rattle.ob_parse_grammar.specs.TextReading.{NoModule, reading}
use Rattle.ob_scheme.specs.Lines.{Operand, Number, StringHere, OtherVariable, OtherProcedure, OtherType, Line}
use Rattle.ob_scheme.specs.Numbers.{Named, nothing_named, same_link, link_to, with_operand, with_line, with_lines}
use Rattle.ob_scheme.specs.Context.{Context, first_hidden}
use Rattle.ob_scheme.specs.Statements.{stmts_code}
use Rattle.ob_scheme.specs.Procedures.{body_of, closing, within as within_procedure, end_procedure, procedure_code, procedures_code, module_code}
use Rattle.ob_scheme.specs.Object.{own_words, all_named}
use Rattle.ob_compile_model.specs.Compiling.{texts, Compiled, exceeds, within, of_checked, of_break, by_rules, and_limits, is_deep, unless_deep, of_standing, of_reached, most_imports, of_few, imported, of_reading, most_source, of_short, compiled}
use Rattle.ob_link.specs.Files.{linked}
use Rattle.law_load_plan.specs.Compiled.{Text, is_variable, is_procedure, IsUsedAs}
use Rattle.law_links_names.specs.Trees.{StmtsNamed}
use Rattle.law_links_names.specs.Mentions.{IsVariable, IsProcedure, Any, IsAmong, AreMentioned}
use Rattle.law_links_names.proofs.Modules.{modules_mention}
use Rattle.law_links.specs.Linked.{types_of}
use Rattle.law_links.specs.Said.{AreNamesUsed, CompiledNamesUsed}
use Rattle.law_links.proofs.Codes.{OperandOk, AreOk}
use Rattle.law_links.proofs.Bodies.{stmts_ok}
use Rattle.law_links.proofs.Links.{with_one_all}
use Rattle.law_links.proofs.Uses.{used}
use Rattle.law_links.proofs.Mentioned.{one, variable_counted, procedure_counted}
use Rattle.law_lists.proofs.Lists.{all_both, all_from}

-- ---- the names in lines

module _ (Var Proc : QName → Type 0) where
  abbrev OperandIs : Operand → Type 0
  OperandIs (Number z) = Unit {0}
  OperandIs (StringHere text n) = Unit {0}
  OperandIs (OtherVariable m y) = Var (record { «module» = m; object = y })
  OperandIs (OtherProcedure m y) = Proc (record { «module» = m; object = y })
  OperandIs (OtherType own q) = Unit {0}

  abbrev LineIs : Line → Type 0
  LineIs l = OperandIs l.a × OperandIs l.b

  record AreAll (n : Named) : Type 0 where
    variables : AllByRecursion (λ l. Var (linked l)) n.variables
    procedures : AllByRecursion (λ l. Proc (linked l)) n.procedures

  one_more : (n : Named) → AreAll n → (o : Operand) → OperandIs o → AreAll (with_operand n o)
  one_more n a (Number z) h = a
  one_more n a (StringHere text words) h = record { variables = a.variables; procedures = a.procedures }
  one_more n a (OtherVariable m x) h = record { variables = with_one_all (λ l. Var (linked l)) same_link n.variables (link_to m x) a.variables h; procedures = a.procedures }
  one_more n a (OtherProcedure m x) h = record { variables = a.variables; procedures = with_one_all (λ l. Proc (linked l)) same_link n.procedures (link_to m x) a.procedures h }
  one_more n a (OtherType own q) h = record { variables = a.variables; procedures = a.procedures }

  all_named_so : (ls : List Line) → AllByRecursion LineIs ls → (n : Named) → AreAll n → AreAll (with_lines n ls)
  all_named_so [] h n a = a
  all_named_so (l ∷ ls) h n a = all_named_so ls h.1 (with_line n l) (one_more (with_operand n l.a) (one_more n a l.a h.0.0) l.b h.0.1)

  operand_is : (x : Context) (o : Operand) → OperandOk x Var Proc Any o → OperandIs o
  operand_is x (Number z) h = tt
  operand_is x (StringHere text n) h = tt
  operand_is x (OtherVariable m y) h = h
  operand_is x (OtherProcedure m y) h = h
  operand_is x (OtherType own q) h = tt

  lines_are : (x : Context) (ls : List Line) → AreOk x Var Proc Any ls → AllByRecursion LineIs ls
  lines_are x [] h = tt
  lines_are x (l ∷ ls) h = ((operand_is x l.a h.0.0, operand_is x l.b h.0.1), lines_are x ls h.1)

  closing_is : (o : Option TypeRef) (at : Pos) → LineIs (closing o at)
  closing_is None at = (tt, tt)
  closing_is (Some t) at = (tt, tt)

module _ (c : Compiled Text) (Var Proc : QName → Type 0) where
  abbrev Body : Procedure → Type 0
  Body p = StmtsNamed (types_of c) c.tree.name Var Proc Any p.body

  procedures_are : (ps : List Procedure) (pc : ℕ) → AllByRecursion Body ps → AllByRecursion (LineIs Var Proc) (procedures_code (types_of c) c.tree ps pc)
  procedures_are [] pc h = tt
  procedures_are (p ∷ ps) pc h =
      let x = within_procedure (types_of c) c.tree p in
      let code = stmts_code x p.body pc (first_hidden x) 0 in
      all_both (LineIs Var Proc) (procedure_code (types_of c) c.tree p pc) (procedures_code (types_of c) c.tree ps (end_procedure (types_of c) c.tree p pc))
      (all_both (LineIs Var Proc) code (closing p.result p.at ∷ []) (lines_are Var Proc x code (stmts_ok x Var Proc Any p.body pc (first_hidden x) 0 h.0)) (closing_is Var Proc p.result p.at, tt))
      (procedures_are ps (end_procedure (types_of c) c.tree p pc) h.1)

  names_are : AllByRecursion Body (body_of c.tree ∷ c.tree.procedures) → AreAll Var Proc (all_named (types_of c) c.tree)
  names_are h = all_named_so Var Proc (module_code (types_of c) c.tree) (procedures_are (body_of c.tree ∷ c.tree.procedures) 0 h) (nothing_named (own_words (types_of c) c.tree)) (record { variables = tt; procedures = tt })

-- ---- a module that keeps the rules

viewed_all : (Q : Procedure → Type 0) (ps : List TypedProcedure) → AllByRecursion (λ p. Q (procedure_view p)) ps → AllByRecursion Q (map procedure_view ps)
viewed_all Q [] h = tt
viewed_all Q (p ∷ ps) h = (h.0, viewed_all Q ps h.1)

checked_used : (faces : List (Face Text)) (tree : Tree) (m : TypedModule) → checked (shown faces) tree ≡ Some m → AreNamesUsed (one faces m)
checked_used faces tree m e =
    let c = one faces m in
    let Var = IsVariable (shown faces) m.name (IsAmong m.mentioned.objects) in
    let Proc = IsProcedure (shown faces) m.name (IsAmong m.mentioned.objects) in
    let h : AreMentioned (shown faces) (types_of c) m = modules_mention (shown faces) (types_of c) tree m e in
    let a = names_are c Var Proc (h.body, viewed_all (Body c Var Proc) m.procedures h.procedures) in
    record {
      variables = all_from (λ l. Var (linked l)) (λ l. IsUsedAs is_variable c (linked l)) (λ l k. used is_variable c refl (linked l) (variable_counted faces m (linked l) k)) (all_named (types_of c) c.tree).variables a.variables;
      procedures = all_from (λ l. Proc (linked l)) (λ l. IsUsedAs is_procedure c (linked l)) (λ l k. used is_procedure c refl (linked l) (procedure_counted faces m (linked l) k)) (all_named (types_of c) c.tree).procedures a.procedures;
    }

-- ---- the steps of a compile

module _ (c : Compiled Text) where
  within_kept : (d : Compiled Text) (o : Option Which) → within d o ≡ Ok c → d ≡ c
  within_kept d (Some w) e = absurd cc
  within_kept d None e = cc

  found_used : (faces : List (Face Text)) (tree : Tree) (found : Option TypedModule) → checked (shown faces) tree ≡ found → and_limits texts (of_checked texts faces found) ≡ Ok c → AreNamesUsed c
  found_used faces tree None is e = absurd cc
  found_used faces tree (Some m) is e = subst AreNamesUsed (within_kept (one faces m) (exceeds texts (one faces m)) e) (checked_used faces tree m is)

  break_used : (faces : List (Face Text)) (tree : Tree) (b : Option BrokenRule) → and_limits texts (of_break texts faces (checked (shown faces) tree) b) ≡ Ok c → AreNamesUsed c
  break_used faces tree (Some b) e = absurd cc
  break_used faces tree None e = found_used faces tree (checked (shown faces) tree) refl e

  deep_used : (b : Bool) (faces : List (Face Text)) (tree : Tree) → unless_deep b (and_limits texts (by_rules texts faces tree)) ≡ Ok c → AreNamesUsed c
  deep_used true faces tree e = absurd cc
  deep_used false faces tree e = break_used faces tree (first_break (shown faces) tree) e

  standing_used : (tree : Tree) (s : Standing Text) → of_standing texts tree s ≡ Ok c → AreNamesUsed c
  standing_used tree (Stands faces) e = deep_used (is_deep faces tree) faces tree e
  standing_used tree (Stale u) e = absurd cc
  standing_used tree (Unfit q) e = absurd cc

  reached_used : (tree : Tree) (r : Reached Text) → of_reached texts tree r ≡ Ok c → AreNamesUsed c
  reached_used tree (Stopped w) e = absurd cc
  reached_used tree (Whole s) e = standing_used tree s e

  few_used : (b : Bool) (tree : Tree) (r : Reached Text) → of_few b (of_reached texts tree r) ≡ Ok c → AreNamesUsed c
  few_used true tree r e = reached_used tree r e
  few_used false tree r e = absurd cc

  reading_used : (entry : List ℕ → Entry Text) (r : Result Tree NoModule) → of_reading texts entry r ≡ Ok c → AreNamesUsed c
  reading_used entry (Ok tree) e = few_used (nat_le (length tree.imports) most_imports) tree (env_answer texts.same texts.keeps entry tree.name.name (map imported tree.imports)) e
  reading_used entry (Err f) e = absurd cc

  short_used : (b : Bool) (entry : List ℕ → Entry Text) (r : Result Tree NoModule) → of_short b (of_reading texts entry r) ≡ Ok c → AreNamesUsed c
  short_used true entry r e = reading_used entry r e
  short_used false entry r e = absurd cc

pub compiled_used : CompiledNamesUsed
unfolding compiled
compiled_used entry None c e = absurd cc
compiled_used entry (Some source) c e = short_used c (nat_le (length source) most_source) entry (reading source) e
