-- The object file of a module is the same by maps that agree on what its code reads.
use Rattle.std.proofs.Common.{◌≡◌, ℕ, suc, ◌+◌, List, [], ◌∷◌, Bool, true, false, Option, Some, None, map as each, refl, ap, ◌∙◌}
use Rattle.std.specs.Prelude.{if◌then◌else◌, ◌&&◌}
use Rattle.std.specs.List.{AllByRecursion}
use Rattle.ob_tree.specs.declared.names.QName.{QName}
use Rattle.ob_types.specs.declared.types.TypeRef.{TypeRef}
use Rattle.ob_types.specs.declared.desc.Desc.{Desc}
use Rattle.ob_types.specs.declared.desc.Desc.TheVariants as desc
use Rattle.ob_types.specs.declared.face.Use.{Use}
use Rattle.ob_types.specs.declared.typed.Binding.{Binding}
use Rattle.ob_types.specs.declared.typed.Passing.{Passing}
use Rattle.ob_types.specs.declared.typed.Passing.TheVariants as passing
use Rattle.ob_types.specs.declared.typed.TypedType.{TypedType}
use Rattle.ob_types.specs.declared.typed.TypedVariable.{TypedVariable}
use Rattle.ob_types.specs.declared.typed.TypedParameter.{TypedParameter}
use Rattle.ob_types.specs.TypedSyntax.{Procedure, Module}
use Rattle.ob_types.specs.Maps.{listed}
use Rattle.ob_instr.specs.declared.procedure.Procedure.{Procedure as Row}
use Rattle.ob_instr.specs.declared.procedure.Param.TheVariants as param
use Rattle.ob_obj.specs.declared.parts.Export.{Export}
use Rattle.ob_obj.specs.declared.parts.Variable.{Variable}
use Rattle.ob_obj.specs.declared.parts.RecordType.{RecordType}
use Rattle.ob_obj.specs.declared.parts.Command.{Command}
use Rattle.ob_obj.specs.declared.file.ObjFile.{ObjFile}
use Rattle.ob_obj.specs.Grammar.{by_name, by_number}
use Rattle.ob_layout.specs.Lists.{in_order}
use Rattle.ob_layout.specs.Words.{words_of}
use Rattle.ob_uses_roots.specs.Counts.{own_name}
use Rattle.ob_scheme.specs.Lines.{Line}
use Rattle.ob_scheme.specs.Context.{variable_place, local_words, first_hidden, all_slots}
use Rattle.ob_scheme.specs.Numbers.{Named, nothing_named, instrs_in, with_lines, positions_at}
use Rattle.ob_scheme.specs.Statements.{next_stmts, stmts_code}
use Rattle.ob_scheme.specs.Procedures.{body_of, all_procedures, within, end_procedure, procedure_code, procedures_code, module_code, module_rows, param_for, row_of, rows_of, all_local_words}
use Rattle.ob_scheme.specs.Object.{is_seen, is_full, is_free, own, own_words, seen_variables, variables, commands_among, commands, is_bound_to, bound_number, definitions_among, definitions, base_type, base_in, record_in, records_in, with_base, with_record, with_bases, all_named, type_links, object_file}
use Rattle.law_local_files.specs.Agreeing.{Map, On, Agree}
use Rattle.law_local_files.specs.Read.{PassedRead, ParameterRead, BindingRead, ProcedureRead, TypeRead, ModuleRead}
use Rattle.law_local_files.proofs.Joined.{after, join, cons}
use Rattle.law_local_files.proofs.Told.{words_told, open_words_told, own_name_told, method_number_told}
use Rattle.law_local_files.proofs.Places.{sum_told, variable_place_told, local_words_told}
use Rattle.law_local_files.proofs.Statements.{stmts_end, stmts_are, stmts_next}
use Rattle.law_lists.proofs.Lists.{all_from}

module _ (map other : Map) (m : Module) (Shapes Layouts : QName → Type 0) (agree : Agree map other m.name Shapes Layouts) (read : ModuleRead Shapes Layouts m) where
  -- ---- one procedure

  abbrev globals : AllByRecursion (λ v. On Layouts v.of) m.variables
  globals = read.variables

  hidden_told : (p : Procedure) → ProcedureRead Shapes Layouts p → first_hidden (within map m p) ≡ first_hidden (within other m p)
  hidden_told p on = ap (λ k. all_slots (within map m p) + k) (local_words_told map other m Shapes Layouts agree globals p.parameters p.locals on.locals)

  procedure_end : (p : Procedure) (pc : ℕ) → ProcedureRead Shapes Layouts p → end_procedure map m p pc ≡ end_procedure other m p pc
  procedure_end p pc on = ap suc (stmts_end map other m Shapes Layouts agree globals p.parameters p.locals on.locals p.body pc on.body)

  procedure_is : (p : Procedure) (pc : ℕ) → ProcedureRead Shapes Layouts p → procedure_code map m p pc ≡ procedure_code other m p pc
  procedure_is p pc on =
      join (ap (λ n. stmts_code (within map m p) p.body pc n 0) (hidden_told p on) ∙ stmts_are map other m Shapes Layouts agree globals p.parameters p.locals on.locals p.body pc (first_hidden (within other m p)) 0 on.body) refl

  procedures_are : (qs : List Procedure) (pc : ℕ) → AllByRecursion (ProcedureRead Shapes Layouts) qs → procedures_code map m qs pc ≡ procedures_code other m qs pc
  procedures_are [] pc all = refl
  procedures_are (p ∷ qs) pc all = join (procedure_is p pc all.0) (after (λ k. procedures_are qs k all.1) (procedure_end p pc all.0))

  body_read : ProcedureRead Shapes Layouts (body_of m)
  body_read = record { parameters = tt; locals = tt; binding = tt; body = read.body }

  all_read : AllByRecursion (ProcedureRead Shapes Layouts) (all_procedures m)
  all_read = (body_read, read.procedures)

  -- THE CODE
  pub code_is : module_code map m ≡ module_code other m
  code_is = procedures_are (all_procedures m) 0 all_read

  -- ---- the table of procedures

  param_told : (p : Procedure) (how : Passing) (t : TypeRef) → PassedRead Shapes Layouts how t → param_for map m (within map m p) how t ≡ param_for other m (within other m p) how t
  param_told p passing.Scalar t on = refl
  param_told p passing.Structure t on = ap (λ n. param.Value n) (words_told map other m.name Shapes Layouts agree t on)
  param_told p passing.OpenArray t on = ap (λ n. param.ValueArray n) (open_words_told map other m.name Shapes Layouts agree t on)
  param_told p passing.Variable t on = refl
  param_told p passing.VariableRecord t on = refl
  param_told p passing.VariableOpenArray t on = refl

  params_told : (p : Procedure) (xs : List TypedParameter) → AllByRecursion (ParameterRead Shapes Layouts) xs → each (λ x. param_for map m (within map m p) x.passing x.of) xs ≡ each (λ x. param_for other m (within other m p) x.passing x.of) xs
  params_told p [] all = refl
  params_told p (x ∷ xs) all = cons (param_told p x.passing x.of all.0) (params_told p xs all.1)

  local_words_is : (p : Procedure) → ProcedureRead Shapes Layouts p → all_local_words map m p ≡ all_local_words other m p
  local_words_is p on =
      stmts_next (within map m p) (within other m p) p.body (local_words (within map m p))
      ∙ ap (next_stmts (within other m p) p.body) (local_words_told map other m Shapes Layouts agree globals p.parameters p.locals on.locals)

  row_told : (p : Procedure) (pc pc' : ℕ) → pc ≡ pc' → ProcedureRead Shapes Layouts p → row_of map m p pc ≡ row_of other m p pc'
  row_told p pc pc' e on =
      ap (λ k. record (row_of map m p pc) { entry = k }) e
      ∙ ap (λ xs. record (row_of map m p pc') { params = xs }) (params_told p p.parameters on.parameters)
      ∙ ap (λ k. record (row_of other m p pc') { locals = k }) (local_words_is p on)

  rows_told : (qs : List Procedure) (pc pc' : ℕ) → pc ≡ pc' → AllByRecursion (ProcedureRead Shapes Layouts) qs → rows_of map m qs pc ≡ rows_of other m qs pc'
  rows_told [] pc pc' e all = refl
  rows_told (p ∷ qs) pc pc' e all = cons (row_told p pc pc' e all.0) (rows_told qs (end_procedure map m p pc) (end_procedure other m p pc') (procedure_end p pc all.0 ∙ ap (end_procedure other m p) e) all.1)

  -- ---- variables, commands and definitions

  pub own_words_told : own_words map m ≡ own_words other m
  own_words_told = sum_told (λ v. words_of map v.of) (λ v. words_of other v.of) m.variables (all_from (λ v. On Layouts v.of) (λ v. words_of map v.of ≡ words_of other v.of) (λ v on. words_told map other m.name Shapes Layouts agree v.of on) m.variables globals)

  place_told : (x : List ℕ) → variable_place (own map m) x ≡ variable_place (own other m) x
  place_told x = variable_place_told map other m Shapes Layouts agree globals [] [] tt x

  seen_told : (vs : List TypedVariable) → seen_variables map m vs ≡ seen_variables other m vs
  seen_told [] = refl
  seen_told (v ∷ vs) = go (is_seen v.mark) (seen_told vs)
    where
      go : (b : Bool) → seen_variables map m vs ≡ seen_variables other m vs → (if b then record { name = v.name; place = variable_place (own map m) v.name } ∷ seen_variables map m vs else seen_variables map m vs) ≡ (if b then record { name = v.name; place = variable_place (own other m) v.name } ∷ seen_variables other m vs else seen_variables other m vs)
      go true e = cons (ap (λ k. record { name = v.name; place = k }) (place_told v.name)) e
      go false e = e

  commands_told : (qs : List Procedure) (n : ℕ) → commands_among map m qs n ≡ commands_among other m qs n
  commands_told [] n = refl
  commands_told (p ∷ qs) n = go (is_full p.mark && is_free p.binding) (commands_told qs (suc n))
    where
      go : (b : Bool) → commands_among map m qs (suc n) ≡ commands_among other m qs (suc n) → (if b then record { name = p.name; procedure = n } ∷ commands_among map m qs (suc n) else commands_among map m qs (suc n)) ≡ (if b then record { name = p.name; procedure = n } ∷ commands_among other m qs (suc n) else commands_among other m qs (suc n))
      go true e = cons refl e
      go false e = e

  number_told : (b : Option Binding) → BindingRead Shapes Layouts b → bound_number map m b ≡ bound_number other m b
  number_told None on = refl
  number_told (Some b) on = method_number_told map other m.name Shapes Layouts agree b.family.owner b.family.name on

  bound_told : (x : List ℕ) (b : Option Binding) → is_bound_to map m x b ≡ is_bound_to other m x b
  bound_told x None = refl
  bound_told x (Some b) = refl

  definitions_told : (x : List ℕ) (qs : List Procedure) (n : ℕ) → AllByRecursion (ProcedureRead Shapes Layouts) qs → definitions_among map m x qs n ≡ definitions_among other m x qs n
  definitions_told x [] n all = refl
  definitions_told x (p ∷ qs) n all = go (is_bound_to map m x p.binding) (is_bound_to other m x p.binding) (bound_told x p.binding) (definitions_told x qs (suc n) all.1)
    where
      go : (b c : Bool) → b ≡ c → definitions_among map m x qs (suc n) ≡ definitions_among other m x qs (suc n) → (if b then record { number = bound_number map m p.binding; procedure = n } ∷ definitions_among map m x qs (suc n) else definitions_among map m x qs (suc n)) ≡ (if c then record { number = bound_number other m p.binding; procedure = n } ∷ definitions_among other m x qs (suc n) else definitions_among other m x qs (suc n))
      go true true i e = cons (ap (λ k. record { number = k; procedure = n }) (number_told p.binding all.0.binding)) e
      go false false i e = e
      go true false i e = absurd cc
      go false true i e = absurd cc

  -- ---- record types

  base_told : (b : Option TypeRef) → AllByRecursion (On Shapes) (listed b) → base_type map m b ≡ base_type other m b
  base_told None on = refl
  base_told (Some t) on = own_name_told map other m.name Shapes Layouts agree t on.0

  base_in_told : (links : List QName) (q : Option QName) → base_in map m links q ≡ base_in other m links q
  base_in_told links None = refl
  base_in_told links (Some q) = refl

  with_base_told : (links : List QName) (q : Option QName) → with_base map m links q ≡ with_base other m links q
  with_base_told links None = refl
  with_base_told links (Some q) = refl

  record_told : (links : List QName) (q : QName) (x : List ℕ) (d : Desc) → TypeRead Shapes Layouts q d → record_in map m links x d ≡ record_in other m links x d
  record_told links q x (desc.Record r) on =
      cons (ap (λ b. record { name = x; base = b; words = r.words; count = r.procedures; definitions = definitions map m x }) (ap (base_in map m links) (base_told r.base on.1) ∙ base_in_told links (base_type other m r.base))
      ∙ ap (λ ds. record { name = x; base = base_in other m links (base_type other m r.base); words = r.words; count = r.procedures; definitions = ds }) (ap (in_order by_number) (definitions_told x m.procedures 1 read.procedures))) refl
  record_told links q x (desc.Const v) on = refl
  record_told links q x (desc.Var k t) on = refl
  record_told links q x (desc.Proc s) on = refl
  record_told links q x (desc.Alias k t) on = refl
  record_told links q x (desc.Array k n t) on = refl
  record_told links q x (desc.OpenArray k t) on = refl
  record_told links q x (desc.Pointer k t) on = refl
  record_told links q x (desc.ProcType k s) on = refl

  records_told : (links : List QName) (ts : List TypedType) → AllByRecursion (λ t. TypeRead Shapes Layouts (own_name m t) t.desc) ts → records_in map m links ts ≡ records_in other m links ts
  records_told links [] all = refl
  records_told links (t ∷ ts) all = join (record_told links (own_name m t) t.name t.desc all.0) (records_told links ts all.1)

  link_told : (links : List QName) (q : QName) (d : Desc) → TypeRead Shapes Layouts q d → with_record map m links d ≡ with_record other m links d
  link_told links q (desc.Record r) on = ap (with_base map m links) (base_told r.base on.1) ∙ with_base_told links (base_type other m r.base)
  link_told links q (desc.Const v) on = refl
  link_told links q (desc.Var k t) on = refl
  link_told links q (desc.Proc s) on = refl
  link_told links q (desc.Alias k t) on = refl
  link_told links q (desc.Array k n t) on = refl
  link_told links q (desc.OpenArray k t) on = refl
  link_told links q (desc.Pointer k t) on = refl
  link_told links q (desc.ProcType k s) on = refl

  links_told : (links : List QName) (ts : List TypedType) → AllByRecursion (λ t. TypeRead Shapes Layouts (own_name m t) t.desc) ts → with_bases map m links ts ≡ with_bases other m links ts
  links_told links [] all = refl
  links_told links (t ∷ ts) all = after (λ l. links_told l ts all.1) (link_told links (own_name m t) t.desc all.0)

  named_told : all_named map m ≡ all_named other m
  named_told = ap (λ n. with_lines (nothing_named n) (module_code map m)) own_words_told ∙ ap (with_lines (nothing_named (own_words other m))) code_is

  type_links_told : type_links map m ≡ type_links other m
  type_links_told = ap (λ (n : Named). with_bases map m n.types m.types) named_told ∙ links_told (all_named other m).types m.types read.types

  -- ---- the file

  abbrev file_with : List Export → List Use → ℕ → Named → List Variable → List QName → List RecordType → List Row → List Command → List Line → ObjFile
  file_with exports uses n named vs links rs rows cs code = record {
    head = record { «module» = m.name; imports = m.imports; exports = exports; uses = uses };
    globals = record { variable_words = n; strings = named.strings; variables = vs };
    links = record { variables = named.variables; procedures = named.procedures; types = links };
    body = record { types = rs; procedures = rows; commands = cs; code = instrs_in (nothing_named n) code; positions = positions_at 0 code };
  }

  -- THE OBJECT FILE
  pub object_is : (exports : List Export) (uses : List Use) → object_file map m exports uses ≡ object_file other m exports uses
  object_is es us =
      ap (λ n. file_with es us n (all_named map m) (variables map m) (type_links map m) (records_in map m (type_links map m) m.types) (module_rows map m) (commands map m) (module_code map m)) own_words_told
      ∙ ap (λ n. file_with es us (own_words other m) n (variables map m) (type_links map m) (records_in map m (type_links map m) m.types) (module_rows map m) (commands map m) (module_code map m)) named_told
      ∙ ap (λ vs. file_with es us (own_words other m) (all_named other m) vs (type_links map m) (records_in map m (type_links map m) m.types) (module_rows map m) (commands map m) (module_code map m)) (ap (in_order (λ a b. by_name a.name b.name)) (seen_told m.variables))
      ∙ ap (λ ls. file_with es us (own_words other m) (all_named other m) (variables other m) ls (records_in map m (type_links map m) m.types) (module_rows map m) (commands map m) (module_code map m)) type_links_told
      ∙ ap (λ rs. file_with es us (own_words other m) (all_named other m) (variables other m) (type_links other m) rs (module_rows map m) (commands map m) (module_code map m)) (ap (λ ls. records_in map m ls m.types) type_links_told ∙ records_told (type_links other m) m.types read.types)
      ∙ ap (λ rows. file_with es us (own_words other m) (all_named other m) (variables other m) (type_links other m) (records_in other m (type_links other m) m.types) rows (commands map m) (module_code map m)) (rows_told (all_procedures m) 0 0 refl all_read)
      ∙ ap (λ cs. file_with es us (own_words other m) (all_named other m) (variables other m) (type_links other m) (records_in other m (type_links other m) m.types) (module_rows other m) cs (module_code map m)) (ap (in_order (λ a b. by_name a.name b.name)) (commands_told m.procedures 1))
      ∙ ap (λ code. file_with es us (own_words other m) (all_named other m) (variables other m) (type_links other m) (records_in other m (type_links other m) m.types) (module_rows other m) (commands other m) code) code_is
