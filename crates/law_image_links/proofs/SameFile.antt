-- The object file of a module is the same by two maps that say the same of what it names.
use Rattle.std.proofs.Common.{◌≡◌, ℕ, suc, ◌+◌, List, [], ◌∷◌, ◌++◌, map, refl, ap, ◌∙◌, Option, Some, None}
use Rattle.std.specs.Prelude.{Bool, true, false, ◌&&◌, if◌then◌else◌}
use Rattle.std.specs.List.{AllByRecursion}
use Rattle.ob_tree.specs.declared.names.QName.{QName}
use Rattle.ob_types.specs.declared.types.TypeRef.{TypeRef}
use Rattle.ob_types.specs.declared.desc.Desc.{Desc}
use Rattle.ob_types.specs.declared.desc.Desc.TheVariants as desc
use Rattle.ob_types.specs.declared.face.Use.{Use}
use Rattle.ob_types.specs.declared.typed.Binding.{Binding}
use Rattle.ob_types.specs.declared.typed.Passing.{Passing}
use Rattle.ob_types.specs.declared.typed.Passing.TheVariants as passing
use Rattle.ob_types.specs.declared.typed.TypedType.{TypedType}
use Rattle.ob_types.specs.declared.typed.TypedVariable.{TypedVariable}
use Rattle.ob_types.specs.declared.typed.TypedParameter.{TypedParameter}
use Rattle.ob_types.specs.TypedSyntax.{Procedure, Module}
use Rattle.ob_instr.specs.declared.procedure.Param.{Param}
use Rattle.ob_instr.specs.declared.procedure.Param.TheVariants as param
use Rattle.ob_instr.specs.declared.procedure.Procedure.{Procedure as Row}
use Rattle.ob_obj.specs.declared.parts.Export.{Export}
use Rattle.ob_obj.specs.declared.parts.Variable.{Variable}
use Rattle.ob_obj.specs.declared.parts.Command.{Command}
use Rattle.ob_obj.specs.declared.parts.RecordType.{RecordType}
use Rattle.ob_obj.specs.declared.file.ObjFile.{ObjFile}
use Rattle.ob_obj.specs.Grammar.{by_name, by_number}
use Rattle.ob_layout.specs.Lists.{in_order}
use Rattle.ob_layout.specs.Words.{words_of}
use Rattle.ob_scheme.specs.Lines.{Line}
use Rattle.ob_scheme.specs.Numbers.{nothing_named, instrs_in, with_lines, positions_at}
use Rattle.ob_scheme.specs.Context.{variable_place, local_words, all_slots}
use Rattle.ob_scheme.specs.Statements.{next_stmts}
use Rattle.ob_scheme.specs.Procedures.{all_procedures, has_result, closing, within, end_procedure, procedure_code, procedures_code, module_code, param_for, all_local_words, row_of, rows_of, module_rows}
use Rattle.ob_scheme.specs.Object.{is_seen, is_full, is_free, own, own_words, seen_variables, variables, commands_among, commands, is_bound_to, bound_number, definitions_among, definitions, base_type, base_in, record_in, records_in, with_base, with_record, with_bases, all_named, type_links, object_file}
use Rattle.law_image_links.specs.Same.{ParameterSame, BindingSame, ProcedureSame, BaseSame, DescSame, ModuleSame, FilesSame}
use Rattle.law_image_links.proofs.SameCode.{before_same, sum_same}
use Rattle.law_image_links.proofs.SameStatements.{stmts_next, stmts_end, stmts_same}

-- a file of these parts
abbrev made : Module → List Export → List Use → ℕ → List Line → List Variable → List Command → List QName → List RecordType → List Row → ObjFile
made m exports uses w ls vs cs ts rs rows = record {
  head = record { «module» = m.name; imports = m.imports; exports = exports; uses = uses };
  globals = record { variable_words = w; strings = (with_lines (nothing_named w) ls).strings; variables = vs };
  links = record { variables = (with_lines (nothing_named w) ls).variables; procedures = (with_lines (nothing_named w) ls).procedures; types = ts };
  body = record {
    types = rs;
    procedures = rows;
    commands = cs;
    code = instrs_in (nothing_named w) ls;
    positions = positions_at 0 ls;
  };
}

module _ (a b : QName → Option Desc) (m : Module) (h : ModuleSame a b m) where
  words_are : own_words a m ≡ own_words b m
  words_are = sum_same (λ v. words_of a v.of) (λ v. words_of b v.of) m.variables h.variables

  place_is : (x : List ℕ) → variable_place (own a m) x ≡ variable_place (own b m) x
  place_is x = before_same (λ v. words_of a v.of) (λ v. words_of b v.of) m.variables x h.variables

  seen_are : (vs : List TypedVariable) → seen_variables a m vs ≡ seen_variables b m vs
  seen_are [] = refl
  seen_are (v ∷ vs) = go (is_seen v.mark) (seen_are vs)
    where
      go : (t : Bool) → seen_variables a m vs ≡ seen_variables b m vs → (if t then record { name = v.name; place = variable_place (own a m) v.name } ∷ seen_variables a m vs else seen_variables a m vs) ≡ (if t then record { name = v.name; place = variable_place (own b m) v.name } ∷ seen_variables b m vs else seen_variables b m vs)
      go true e = ap (λ k. record { name = v.name; place = k } ∷ seen_variables a m vs) (place_is v.name) ∙ ap (λ l. record { name = v.name; place = variable_place (own b m) v.name } ∷ l) e
      go false e = e

  commands_are : (ps : List Procedure) (n : ℕ) → commands_among a m ps n ≡ commands_among b m ps n
  commands_are [] n = refl
  commands_are (p ∷ ps) n = ap (λ l. if is_full p.mark && is_free p.binding then record { name = p.name; procedure = n } ∷ l else l) (commands_are ps (suc n))

  -- RECORD TYPES

  number_is : (o : Option Binding) → BindingSame a b o → bound_number a m o ≡ bound_number b m o
  number_is None s = refl
  number_is (Some k) s = s

  definitions_are : (x : List ℕ) (ps : List Procedure) (n : ℕ) → AllByRecursion (ProcedureSame a b) ps → definitions_among a m x ps n ≡ definitions_among b m x ps n
  definitions_are x [] n s = refl
  definitions_are x (p ∷ ps) n s = go (is_bound_to a m x p.binding) (number_is p.binding s.0.binding) (definitions_are x ps (suc n) s.1)
    where
      go : (t : Bool) → bound_number a m p.binding ≡ bound_number b m p.binding → definitions_among a m x ps (suc n) ≡ definitions_among b m x ps (suc n) → (if t then record { number = bound_number a m p.binding; procedure = n } ∷ definitions_among a m x ps (suc n) else definitions_among a m x ps (suc n)) ≡ (if t then record { number = bound_number b m p.binding; procedure = n } ∷ definitions_among b m x ps (suc n) else definitions_among b m x ps (suc n))
      go true e f = ap (λ k. record { number = k; procedure = n } ∷ definitions_among a m x ps (suc n)) e ∙ ap (λ l. record { number = bound_number b m p.binding; procedure = n } ∷ l) f
      go false e f = f

  base_is : (o : Option TypeRef) → BaseSame a b o → base_type a m o ≡ base_type b m o
  base_is None s = refl
  base_is (Some t) s = s

  record_is : (links : List QName) (x : List ℕ) (d : Desc) → DescSame a b d → record_in a m links x d ≡ record_in b m links x d
  record_is links x (desc.Record r) s =
      ap (λ o. record { name = x; base = base_in a m links o; words = r.words; count = r.procedures; definitions = definitions a m x } ∷ []) (base_is r.base s)
      ∙ ap (λ l. record { name = x; base = base_in b m links (base_type b m r.base); words = r.words; count = r.procedures; definitions = in_order by_number l } ∷ []) (definitions_are x m.procedures 1 h.procedures)
  record_is links x d s = refl

  records_are : (links : List QName) (ts : List TypedType) → AllByRecursion (λ t. DescSame a b t.desc) ts → records_in a m links ts ≡ records_in b m links ts
  records_are links [] s = refl
  records_are links (t ∷ ts) s = ap (λ l. l ++ records_in a m links ts) (record_is links t.name t.desc s.0) ∙ ap (λ l. record_in b m links t.name t.desc ++ l) (records_are links ts s.1)

  link_is : (links : List QName) (d : Desc) → DescSame a b d → with_record a m links d ≡ with_record b m links d
  link_is links (desc.Record r) s = ap (with_base a m links) (base_is r.base s) ∙ same (base_type b m r.base)
    where
      same : (o : Option QName) → with_base a m links o ≡ with_base b m links o
      same None = refl
      same (Some q) = refl
  link_is links d s = refl

  links_are : (links : List QName) (ts : List TypedType) → AllByRecursion (λ t. DescSame a b t.desc) ts → with_bases a m links ts ≡ with_bases b m links ts
  links_are links [] s = refl
  links_are links (t ∷ ts) s = ap (λ l. with_bases a m l ts) (link_is links t.desc s.0) ∙ links_are (with_record b m links t.desc) ts s.1

  -- PROCEDURES

  locals_are : (p : Procedure) → ProcedureSame a b p → local_words (within a m p) ≡ local_words (within b m p)
  locals_are p s = sum_same (λ v. words_of a v.of) (λ v. words_of b v.of) p.locals s.locals

  end_is : (p : Procedure) (i j : ℕ) → i ≡ j → ProcedureSame a b p → end_procedure a m p i ≡ end_procedure b m p j
  end_is p i j e s = ap suc (stmts_end a b m p.parameters p.locals h.variables s.locals p.body i j e s.body)

  code_is : (p : Procedure) (i j : ℕ) → i ≡ j → ProcedureSame a b p → procedure_code a m p i ≡ procedure_code b m p j
  code_is p i j e s = ap (λ l. l ++ closing p.result p.at ∷ []) (stmts_same a b m p.parameters p.locals h.variables s.locals p.body i j _ _ 0 0 e (ap (λ n. all_slots (within a m p) + n) (locals_are p s)) refl s.body)

  codes_are : (ps : List Procedure) (i j : ℕ) → i ≡ j → AllByRecursion (ProcedureSame a b) ps → procedures_code a m ps i ≡ procedures_code b m ps j
  codes_are [] i j e s = refl
  codes_are (p ∷ ps) i j e s = ap (λ l. l ++ procedures_code a m ps (end_procedure a m p i)) (code_is p i j e s.0) ∙ ap (λ l. procedure_code b m p j ++ l) (codes_are ps _ _ (end_is p i j e s.0) s.1)

  param_is : (p : Procedure) (how : Passing) (t : TypeRef) → ParameterSame a b how t → param_for a m (within a m p) how t ≡ param_for b m (within b m p) how t
  param_is p passing.Scalar t s = refl
  param_is p passing.Structure t s = ap param.Value s
  param_is p passing.OpenArray t s = ap param.ValueArray s
  param_is p passing.Variable t s = refl
  param_is p passing.VariableRecord t s = refl
  param_is p passing.VariableOpenArray t s = refl

  params_are : (p : Procedure) (xs : List TypedParameter) → AllByRecursion (λ x. ParameterSame a b x.passing x.of) xs → map (λ x. param_for a m (within a m p) x.passing x.of) xs ≡ map (λ x. param_for b m (within b m p) x.passing x.of) xs
  params_are p [] s = refl
  params_are p (x ∷ xs) s = ap (λ k. k ∷ map (λ x. param_for a m (within a m p) x.passing x.of) xs) (param_is p x.passing x.of s.0) ∙ ap (λ l. param_for b m (within b m p) x.passing x.of ∷ l) (params_are p xs s.1)

  abbrev row : ℕ → List Param → ℕ → Bool → Row
  row i ps n r = record { entry = i; params = ps; locals = n; has_result = r }

  row_is : (p : Procedure) (i j : ℕ) → i ≡ j → ProcedureSame a b p → row_of a m p i ≡ row_of b m p j
  row_is p i j e s =
      ap (λ k. row k (map (λ x. param_for a m (within a m p) x.passing x.of) p.parameters) (all_local_words a m p) (has_result p.result)) e
      ∙ ap (λ l. row j l (all_local_words a m p) (has_result p.result)) (params_are p p.parameters s.parameters)
      ∙ ap (λ n. row j (map (λ x. param_for b m (within b m p) x.passing x.of) p.parameters) n (has_result p.result)) (stmts_next (within a m p) (within b m p) p.body (local_words (within a m p)) ∙ ap (next_stmts (within b m p) p.body) (locals_are p s))

  rows_are : (ps : List Procedure) (i j : ℕ) → i ≡ j → AllByRecursion (ProcedureSame a b) ps → rows_of a m ps i ≡ rows_of b m ps j
  rows_are [] i j e s = refl
  rows_are (p ∷ ps) i j e s = ap (λ r. r ∷ rows_of a m ps (end_procedure a m p i)) (row_is p i j e s.0) ∙ ap (λ l. row_of b m p j ∷ l) (rows_are ps _ _ (end_is p i j e s.0) s.1)

  all_same : AllByRecursion (ProcedureSame a b) (all_procedures m)
  all_same = (record { binding = tt; parameters = tt; locals = tt; body = h.body }, h.procedures)

  lines_are : module_code a m ≡ module_code b m
  lines_are = codes_are (all_procedures m) 0 0 refl all_same

  type_links_are : type_links a m ≡ type_links b m
  type_links_are = ap (λ w. with_bases a m (with_lines (nothing_named w) (module_code a m)).types m.types) words_are ∙ ap (λ l. with_bases a m (with_lines (nothing_named (own_words b m)) l).types m.types) lines_are ∙ links_are (all_named b m).types m.types h.types

  pub file_is : (exports : List Export) (uses : List Use) → object_file a m exports uses ≡ object_file b m exports uses
  file_is exports uses =
      let f = made m exports uses in
      ap (λ w. f w (module_code a m) (variables a m) (commands a m) (type_links a m) (records_in a m (type_links a m) m.types) (module_rows a m)) words_are
      ∙ ap (λ l. f (own_words b m) l (variables a m) (commands a m) (type_links a m) (records_in a m (type_links a m) m.types) (module_rows a m)) lines_are
      ∙ ap (λ l. f (own_words b m) (module_code b m) (in_order (λ x y. by_name x.name y.name) l) (commands a m) (type_links a m) (records_in a m (type_links a m) m.types) (module_rows a m)) (seen_are m.variables)
      ∙ ap (λ l. f (own_words b m) (module_code b m) (variables b m) (in_order (λ x y. by_name x.name y.name) l) (type_links a m) (records_in a m (type_links a m) m.types) (module_rows a m)) (commands_are m.procedures 1)
      ∙ ap (λ l. f (own_words b m) (module_code b m) (variables b m) (commands b m) l (records_in a m l m.types) (module_rows a m)) type_links_are
      ∙ ap (λ r. f (own_words b m) (module_code b m) (variables b m) (commands b m) (type_links b m) r (module_rows a m)) (records_are (type_links b m) m.types h.types)
      ∙ ap (f (own_words b m) (module_code b m) (variables b m) (commands b m) (type_links b m) (records_in b m (type_links b m) m.types)) (rows_are (all_procedures m) 0 0 refl all_same)

-- THE LAW
pub files_same : FilesSame
files_same a b m h exports uses = file_is a b m h exports uses
