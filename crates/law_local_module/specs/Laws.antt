-- Blocks of declarations with other interfaces around.
use Rattle.std.specs.Prelude.{◌≡◌, ℕ, Bool, true, false, List, [], map, Option, Some, None, bytes_eq}
use Rattle.std.specs.List.{AllByRecursion, filter_map}
use Rattle.ob_tree.specs.declared.names.QName.{QName}
use Rattle.ob_tree.specs.declared.ident.Import.{Import}
use Rattle.ob_tree.specs.declared.decl.Decl.{Decl}
use Rattle.ob_tree.specs.declared.decl.Decl.TheOpen.{Decl-F}
use Rattle.ob_tree.specs.declared.decl.Decl.TheFolds.{fold-Decl}
use Rattle.ob_tree.specs.declared.decl.Module.{Module as Tree}
use Rattle.ob_types.specs.declared.desc.Desc.{Desc}
use Rattle.ob_types.specs.declared.typed.TypedProcedure.{TypedProcedure}
use Rattle.ob_types.specs.declared.typed.TypedModule.{TypedModule}
use Rattle.ob_rules.specs.Names.{Around, is_out}
use Rattle.ob_rules.specs.Headings.{Heads, reversed}
use Rattle.ob_rules.specs.Declarations.{Contents, Declared, Declaration, Written_procedure, plain_of, procedure_of, type_name_of, in_order, headings_in_order, heads_later, declaration, target_of, imports_declared, around_module, first_break, checked}
use Rattle.law_names_procedures.specs.Procedures.{ShowBases, all_true, is_named_plainly}
use Rattle.law_local_judged.specs.Agreement.{DescIn}
use Rattle.law_local_judged.specs.Said.{SaidIn, StmtIn, ModuleIn}
use Rattle.law_local_judged.specs.Followed.{Agrees}
use Rattle.law_local_judged.specs.Declared.{OwnIn, LaterIn, AreSound, IsPlain}
use Rattle.law_local_judged.specs.Headed.{FromGrammar, HeadSaid, BindingsIn}

-- WHAT IS LEFT FOR LATER by declarations and headings that break no rule is among these names, where all that their notes mention is.
pub record LeavesIn (P : QName → Type 0) (shown : QName → Option Desc) : Type 0 where
  pub declared : (u : Around) → Agrees P u shown → OwnIn P u.unit → (fs : List (Around → Declared)) → AllByRecursion IsPlain fs → (in_order fs u).part.notes.broken ≡ [] → SaidIn P (in_order fs u).part.notes → AreSound (in_order fs u).around.known →
      AllByRecursion (LaterIn P) (in_order fs u).part.notes.later
  pub headed : (u : Around) → Agrees P u shown → OwnIn P u.unit → (ps : List Written_procedure) → AllByRecursion FromGrammar ps → AllByRecursion (HeadSaid P) (headings_in_order ps (record { around = u; before = [] })).before →
      AllByRecursion (LaterIn P) (heads_later (headings_in_order ps (record { around = u; before = [] })).before)

-- the statements of the procedures and of the body mention these names alone
abbrev pub ContentsIn : (QName → Type 0) → Contents → Type 0
ContentsIn P c = AllByRecursion (λ (p : TypedProcedure). AllByRecursion (StmtIn P) p.body) c.procedures × AllByRecursion (StmtIn P) c.body

-- each declaration of variables declares one at least, as the grammar has it
abbrev pub is_there : {A : Type 0} → List A → Bool
is_there [] = false
is_there xs = true

abbrev pub variables_layer : Decl-F Bool → Bool
variables_layer (Decl-F.Constant d x) = true
variables_layer (Decl-F.NamedType d n) = true
variables_layer (Decl-F.Variables ds n) = is_there ds
variables_layer (Decl-F.Procedure h ds body closing) = all_true ds
variables_layer (Decl-F.Forward h) = true

abbrev pub declares_variables : Decl → Bool
declares_variables = fold-Decl Bool variables_layer

-- no import is of the module itself
abbrev pub AreOthers : List ℕ → List Import → Type 0
AreOthers unit imports = AllByRecursion (λ i. bytes_eq (target_of i).name unit ≡ false) imports

-- the headings of a module's own procedures, and what stands around behind them
abbrev pub module_heads : (QName → Option Desc) → Tree → Heads
module_heads shown tree =
    let ds : List Declaration = map declaration tree.decls in
    let u : Around = (imports_declared tree.imports (around_module shown tree.name.name ds)).around in
    headings_in_order (filter_map procedure_of ds) (record { around = (in_order (filter_map plain_of ds) (record u { later_types = filter_map type_name_of ds })).around; before = [] })

-- these interfaces show the same on these names, and of Out
pub record ShowSame (P : QName → Type 0) (shown other : QName → Option Desc) : Type 0 where
  pub same : (q : QName) → P q → other q ≡ shown q
  pub near : (q : QName) → P q → DescIn P (shown q)
  pub out : (q : QName) → is_out q.«module» ≡ true → other q ≡ shown q

-- Interfaces that a module was checked against, and others that show the same of all that counts for it: of these names, among which
-- is each of the module itself, all that it mentions, and what its bound procedures redefine. The interfaces hold the bases of the
-- pointers that they show, the module does not import itself, and its text is one of the grammar.
pub record CountsAlike (P : QName → Type 0) (shown other : QName → Option Desc) (tree : Tree) (t : TypedModule) : Type 0 where
  pub shows : ShowSame P shown other
  pub own : OwnIn P tree.name.name
  pub bases : ShowBases shown tree.name.name
  pub imports : AreOthers tree.name.name tree.imports
  pub plain : all_true (map is_named_plainly tree.decls) ≡ true
  pub variables : all_true (map declares_variables tree.decls) ≡ true
  pub redefined : BindingsIn P (module_heads shown tree).around (reversed (module_heads shown tree).before)
  pub mentions : ModuleIn P t

-- the module is the same checked module, without a broken rule, with the others around
abbrev pub IsSameThere : (QName → Option Desc) → Tree → TypedModule → Type 0
IsSameThere other tree t = (checked other tree ≡ Some t) × (first_break other tree ≡ None)

-- MODULES: one that breaks no rule is the same with other interfaces around that show the same of all that counts for it, where what is
-- left for later counts too.
abbrev pub ModulesAgree : Type 0
ModulesAgree = (names : QName → Bool) (other : QName → Option Desc) → LeavesIn (λ q. names q ≡ true) other → (shown : QName → Option Desc) (tree : Tree) (t : TypedModule) → checked shown tree ≡ Some t → CountsAlike (λ q. names q ≡ true) shown other tree t → IsSameThere other tree t
