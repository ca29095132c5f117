-- The bound procedures of a checked module, as they were bound.
use Rattle.std.specs.Prelude.{◌≡◌, ◌++◌, true, List, Option, Some, map}
use Rattle.std.specs.List.{AllByRecursion}
use Rattle.ob_tree.specs.declared.names.QName.{QName}
use Rattle.ob_tree.specs.declared.decl.Module.{Module as Tree}
use Rattle.ob_types.specs.declared.desc.Desc.{Desc}
use Rattle.ob_types.specs.declared.desc.Method.{Method}
use Rattle.ob_types.specs.declared.typed.Binding.{Binding}
use Rattle.ob_types.specs.declared.typed.TypedProcedure.{TypedProcedure}
use Rattle.ob_types.specs.declared.typed.TypedModule.{TypedModule}
use Rattle.ob_rules.specs.Names.{Around}
use Rattle.ob_rules.specs.Types.{Parameters}
use Rattle.ob_rules.specs.Headings.{BoundAs, Head, bindings, reversed}
use Rattle.ob_rules.specs.Declarations.{checked, self_parameters}
use Rattle.law_names_distinct.specs.Distinct.{AreDistinct}
use Rattle.law_spelling.specs.Raw.{decl_named}
use Rattle.law_names_procedures.specs.Procedures.{ShowBases, all_true, is_named_plainly}
use Rattle.law_local_module.specs.Laws.{module_heads}
use Rattle.law_typing_forms.specs.Said.{IsOneOf}
use Rattle.law_methods_bound.specs.Matched.{Matches}

-- The procedure is that of one of these headings, which is bound so. It has the parameters of the heading behind its receiver, and its
-- result; and where another record introduces the method, it matches that.
pub record IsBoundBy (u : Around) (all : List Head) (p : TypedProcedure) (b : Binding) : Type 0 where
  pub h : Head
  pub there : IsOneOf all h
  pub k : BoundAs
  pub bound : h.bound ≡ Some k
  pub q : Parameters
  pub has : h.parameters ≡ Some q
  pub parameters : p.parameters ≡ self_parameters h h.self (Some k) ++ q.parameters
  pub result : p.result ≡ q.signature.result
  pub m : Method
  pub owner : b.owner ≡ k.owner
  pub receiver : b.receiver ≡ k.receiver
  pub name : b.family.name ≡ m.name
  pub matches : (b.family.owner ≡ k.owner → ⊥) → Matches u (bindings u all).own h k b.family.owner m

-- So is each bound procedure of a checked module.
abbrev pub ProceduresMatch : Type 0
ProceduresMatch =
    (shown : QName → Option Desc) (tree : Tree) (m : TypedModule) → ShowBases shown tree.name.name → all_true (map is_named_plainly tree.decls) ≡ true → checked shown tree ≡ Some m → AreDistinct (λ t. t.name) m.types → AllByRecursion (λ d. decl_named d ≡ true) tree.decls →
    AllByRecursion (λ p. (b : Binding) → p.binding ≡ Some b → IsBoundBy (module_heads shown tree).around (reversed (module_heads shown tree).before) p b) m.procedures
