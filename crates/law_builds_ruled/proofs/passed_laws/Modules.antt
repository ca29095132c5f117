-- A checked module: the parameters of all its procedures are passed well.
use Rattle.std.proofs.Common.{◌≡◌, refl, sym, ap, ◌∙◌, subst, true, false, List, [], map, Option}
use Rattle.std.specs.List.{AllByRecursion}
use Rattle.ob_tree.specs.declared.names.QName.{QName}
use Rattle.ob_tree.specs.declared.decl.Module.{Module as Tree}
use Rattle.ob_types.specs.declared.types.TypeRef.{TypeRef}
use Rattle.ob_types.specs.declared.desc.Desc.{Desc}
use Rattle.ob_types.specs.declared.typed.TypedType.{TypedType}
use Rattle.ob_types.specs.declared.typed.TypedVariable.{TypedVariable}
use Rattle.ob_types.specs.declared.typed.TypedParameter.{TypedParameter}
use Rattle.ob_types.specs.declared.typed.TypedModule.{TypedModule}
use Rattle.ob_types.specs.Maps.{listed}
use Rattle.ob_rules.specs.Names.{Around, is_out}
use Rattle.ob_rules.specs.Statements.{judging}
use Rattle.ob_rules.specs.Declarations.{Part, Declared, declaration, imports_declared, import_declared, target_of, around_module, name_judged, block}
use Rattle.law_typing_forms.specs.Formed.{IsDeclared}
use Rattle.law_names_distinct.specs.Distinct.{AreDistinct}
use Rattle.law_names_distinct.proofs.Blocks.{not_out}
use Rattle.law_typing.specs.Spelled.{all_true}
use Rattle.law_typing.specs.Bodies.{stmt_spelled}
use Rattle.law_body_context.specs.Spelled.{decl_spelled}
use Rattle.law_body_context.specs.Laws.{AreOthers}
use Rattle.law_body_context.proofs.Lists.{one_left, one_right, all_of}
use Rattle.law_body_context.proofs.Modules.{unbroken_is}
use Rattle.law_methods_bound.proofs.Blocks.{order_good as order_bound, imports_good as imports_bound, decls_good as decls_bound}
use Rattle.law_builds_ruled.proofs.ruled_laws.Plain.{VariableIn, DeclaredFine, order_plain, imports_plain, start_fine}
use Rattle.law_builds_ruled.proofs.ruled_laws.Modules as ruled
use Rattle.law_builds_ruled.specs.ruled_laws.Variables.{IsSameType, IsDeclaredWell}
use Rattle.law_builds_ruled.specs.passed_laws.Passed.{IsPassedWell, IsPlainWell, ProcedureIsWell, ProceduresAreWell}
use Rattle.law_builds_ruled.proofs.passed_laws.Blocks.{Among, raw, declared, PassedIn, PlainIn, ProcedureIn, AreIn, block_in, decls_good}
use Rattle.law_lists.proofs.Lists.{all_both, and_parts, back_empty}

module _ (shown : QName → Option Desc) (tree : Tree) (out : is_out (ruled.module_is shown tree).name ≡ false) (quiet : (ruled.parts shown tree).notes.broken ≡ []) (spelled : all_true (map decl_spelled tree.decls) ≡ true) (others : AreOthers tree.name.name tree.imports) (differ : AreDistinct (λ (t : TypedType). t.name) (ruled.module_is shown tree).types) where
  abbrev whole : Part
  whole = ruled.parts shown tree

  abbrev made : TypedModule
  made = ruled.module_is shown tree

  abbrev all : List TypedType
  all = whole.contents.types

  abbrev start : Around
  start = around_module shown tree.name.name (map declaration tree.decls)

  abbrev imports : Declared
  imports = imports_declared tree.imports start

  abbrev behind : Part
  behind = block (map declaration tree.decls) (map judging tree.body) imports.around

  imports_are : DeclaredFine tree.name.name shown out all (Among tree.name.name shown out all) (raw tree.name.name shown out all) imports
  imports_are =
      order_plain tree.name.name shown out all (Among tree.name.name shown out all) (raw tree.name.name shown out all) (map (λ i. import_declared i (target_of i)) tree.imports)
      (imports_plain tree.name.name shown out all (Among tree.name.name shown out all) (raw tree.name.name shown out all) tree.imports others) start
      (start_fine tree.name.name shown out all (Among tree.name.name shown out all) (raw tree.name.name shown out all) tree.name.name (map declaration tree.decls) refl) (λ t i. one_left imports.part.contents.types _ t i)

  procedures_in : AreIn tree.name.name shown out all made.procedures
  procedures_in =
      let n : behind.notes.broken ≡ [] = back_empty imports.part.notes.broken _ (back_empty (name_judged tree.name tree.closing).broken _ quiet) in
      let p = block_in tree.name.name shown out all (map declaration tree.decls) (decls_good tree.name.name shown out all tree.decls spelled) (decls_bound tree.decls) (map judging tree.body) imports.around imports_are.around n (λ t i. one_right imports.part.contents.types behind.contents.types t i) in
      all_both (ProcedureIn tree.name.name shown out all) imports.part.contents.procedures behind.contents.procedures
      (subst (AreIn tree.name.name shown out all) (sym (order_bound (map (λ i. import_declared i (target_of i)) tree.imports) (imports_bound tree.imports) start).procedures) tt) p.procedures

  same_type : (s : TypedType) → Among tree.name.name shown out all s → IsSameType made.types s
  same_type s h =
      let k = ruled.told all whole.contents.bound (ruled.bound_from shown tree out quiet spelled others) differ h.0 h.1.0 in
      record { s = k.0; there = k.1.0; name = k.1.1.0 ∙ h.1.1.0; d = h.0.desc; here = h.1.1.1; told = k.1.1.1 }

  passed_well : (x : TypedParameter) → PassedIn tree.name.name shown out all x → IsPassedWell tree.name.name shown made.types x
  passed_well x h = record {
    w = h.w;
    unit_is = h.fine.knows.unit_is;
    shown_is = h.fine.knows.shown_is;
    aliases = h.fine.aliases;
    told = λ s i. same_type s (h.fine.lies s i);
    stands = h.stands;
    mode = h.mode;
    passing = h.is;
  }

  plain_well : (t : TypeRef) → PlainIn tree.name.name shown out all t → IsPlainWell tree.name.name shown made.types t
  plain_well t h = record { w = h.w; unit_is = h.fine.knows.unit_is; shown_is = h.fine.knows.shown_is; aliases = h.fine.aliases; told = λ s i. same_type s (h.fine.lies s i); stands = h.stands; plain = h.plain }

  declared_well : (v : TypedVariable) → VariableIn tree.name.name shown out all (Among tree.name.name shown out all) (raw tree.name.name shown out all) v → IsDeclaredWell tree.name.name shown made.types v
  declared_well v h = record { w = h.w; unit_is = h.fine.knows.unit_is; shown_is = h.fine.knows.shown_is; aliases = h.fine.aliases; told = λ s i. same_type s (h.fine.lies s i); stands = h.stands; closed = h.closed }

  heads_well : AllByRecursion (ProcedureIsWell tree.name.name shown made.types) made.procedures
  heads_well =
      all_of (ProcedureIn tree.name.name shown out all) (ProcedureIsWell tree.name.name shown made.types) made.procedures
      (λ p h. record {
        parameters = all_of (PassedIn tree.name.name shown out all) (IsPassedWell tree.name.name shown made.types) p.parameters passed_well h.parameters;
        result = all_of (PlainIn tree.name.name shown out all) IsDeclared (listed p.result) (λ t k. declared tree.name.name shown out all k.w.own t k.stands) h.result;
        plain = all_of (PlainIn tree.name.name shown out all) (IsPlainWell tree.name.name shown made.types) (listed p.result) plain_well h.result;
        locals = all_of (VariableIn tree.name.name shown out all (Among tree.name.name shown out all) (raw tree.name.name shown out all)) (IsDeclaredWell tree.name.name shown made.types) p.locals declared_well h.locals;
      }) procedures_in

pub parameters_passed : ProceduresAreWell
parameters_passed shown tree m e spelled others differ =
    let k = unbroken_is (ruled.parts shown tree).notes.broken (ruled.module_is shown tree) m e in
    let out : is_out (ruled.module_is shown tree).name ≡ false = ap (λ (x : TypedModule). is_out x.name) k.1 ∙ not_out shown tree m e in
    let s = and_parts (all_true (map decl_spelled tree.decls)) (all_true (map stmt_spelled tree.body)) spelled in
    subst (λ (x : TypedModule). AllByRecursion (ProcedureIsWell x.name shown x.types) x.procedures) k.1
    (heads_well shown tree out k.0 s.0 others (subst (λ (x : TypedModule). AreDistinct (λ t. t.name) x.types) (sym k.1) differ))
