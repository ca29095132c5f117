-- Each procedure of a compiled module stands in the image as the law of simulation asks.
use Rattle.std.proofs.Common.{◌≡◌, ℕ, suc, ◌+◌, ◌<◌, List, [], ◌∷◌, ◌++◌, length, map, refl, sym, ap, ◌∙◌, subst, arith, append_assoc, append-nil, length-append, Option, Some, None}
use Rattle.std.specs.Prelude.{pos, zero, unwrap_or, slice_get}
use Rattle.std.proofs.lemmas.Option.{none-some, slice_get_within}
use Rattle.ob_trap.specs.declared.trap.Trap.TheVariants as trap
use Rattle.ob_trap.specs.Numbers.{trap_number}
use Rattle.ob_tree.specs.declared.pos.Pos.{Pos}
use Rattle.ob_tree.specs.declared.names.QName.{QName}
use Rattle.ob_types.specs.declared.types.TypeRef.{TypeRef}
use Rattle.ob_types.specs.declared.desc.Desc.{Desc}
use Rattle.ob_types.specs.declared.typed.Passing.{Passing}
use Rattle.ob_types.specs.declared.typed.Passing.TheVariants as passing
use Rattle.ob_types.specs.declared.typed.Family.{Family}
use Rattle.ob_types.specs.declared.typed.TypedParameter.{TypedParameter}
use Rattle.ob_types.specs.TypedSyntax.{Procedure, Module}
use Rattle.ob_instr.specs.declared.opcode.Opcode.TheVariants as op
use Rattle.ob_instr.specs.declared.procedure.Param.TheVariants as param
use Rattle.ob_instr.specs.Image.{ModuleImage}
use Rattle.ob_instr.specs.Table.{position_at}
use Rattle.ob_meaning.specs.Values.{Program, form_in}
use Rattle.ob_meaning.specs.Calls.{hidden_of_all, hidden_held, held_variable}
use Rattle.ob_scheme.specs.Lines.{behind}
use Rattle.ob_scheme.specs.Descriptions.{method_number}
use Rattle.ob_layout.specs.Words.{words_of}
use Rattle.ob_scheme.specs.Context.{before, local_words, first_hidden}
use Rattle.ob_scheme.specs.Numbers.{nothing_named}
use Rattle.ob_scheme.specs.Statements as scheme_of
use Rattle.ob_scheme.specs.Procedures.{within, all_procedures, closing, end_procedure, procedure_code, procedures_code, module_code, module_rows, rows_of, row_of, param_for, has_result, all_local_words}
use Rattle.ob_scheme.specs.Object.{own_words, all_named}
use Rattle.ob_scheme.proofs.Ends as scheme_ends
use Rattle.law_simulation_relation.specs.Layout.{type_number, slot, slots_words, static_parameter, static_held, procedure_number, procedure_index, procedures_in, variables_in}
use Rattle.law_simulation_relation.specs.Relation.{number_of, AreDifferent}
use Rattle.law_simulation_relation.specs.Ends.{end_stmts}
use Rattle.law_simulation_relation.specs.Stands.{Scope}
use Rattle.law_simulation_relation.specs.Setting.{Setting, has_of}
use Rattle.law_simulation_relation.specs.Linked.{has_one, KindIs, KindsAre, own_variables, scope_of, LastCode, ProcedureStands}
use Rattle.law_simulation_relation.proofs.Names.{bytes_true}
use Rattle.law_image_code.specs.Standing.{LineStands, Behind}
use Rattle.law_image_code.specs.Described.{IsDescribed}
use Rattle.law_image_code.specs.Resolved.{LinksResolve}
use Rattle.law_image_code.specs.Agrees.{Agrees}
use Rattle.law_image_code.specs.Fits.{IsNamed}
use Rattle.law_image_code.specs.Compiled.{IsCompiled, IsChecked, ParameterFits, ParametersFit}
use Rattle.law_image_code.proofs.Ends as ends
use Rattle.law_image_code.proofs.Lines.{has_line, has_at}
use Rattle.law_image_code.proofs.Counters.{HiddenAt, stmts_next}
use Rattle.law_image_code.proofs.Statements.{stmts_stand}
use Rattle.law_image_code.proofs.Numbered.{AllStand, all_stand, kept_all, position_found, stand_apart, texts_past, with_end}
use Rattle.law_image_code.proofs.Operands.{stmts_le}
use Rattle.law_image_code.proofs.Words.{procedures_before, words_two, HiddenIn, hidden_in, variables_before, globals_before, local_sum, parameters_before, parameter_sum, local_past}

-- SMALL THINGS

result_same : (r : Option TypeRef) → has_result r ≡ has_one r
result_same None = refl
result_same (Some t) = refl

pub index_named : (ps : List Procedure) (x : List ℕ) → IsNamed x → suc (procedure_number ps x) ≡ procedure_index ps x
index_named ps [] n = absurd n
index_named ps (k ∷ x) n = refl

hidden_words : (ps : List Pos) → slots_words (map hidden_held ps) ≡ length ps
hidden_words [] = refl
hidden_words (p ∷ ps) = let h = hidden_words ps in omega (arith, h)

hidden_at : (sc : Scope) (ps : List Pos) (t : ℕ) → HiddenIn sc.held ps t → HiddenAt sc ps t
hidden_at sc [] t h = tt
hidden_at sc (p ∷ ps) t h = (h.0, hidden_at sc ps (suc t) h.1)

last_stands : (sc : Scope) (p : Procedure) (r : Option TypeRef) (pc at : ℕ) → LineStands sc (closing r p.at) pc at → LastCode sc p pc r
last_stands sc p None pc at h = has_line sc op.Ret (pos 0) (pos 0) None pc at h
last_stands sc p (Some t) pc at h = has_at sc op.Trap (pos (trap_number trap.NoReturn)) (pos 0) p.at pc at h

module _ (types : QName → Option Desc) (md : Module) where
  kind_is : (program : Program) (at : Procedure) (how : Passing) (t : TypeRef) → IsDescribed types program → ParameterFits program how (form_in program t) → KindIs program how (form_in program t) (param_for types md (within types md at) how t)
  kind_is program at passing.Scalar t d f = (refl, f)
  kind_is program at passing.Structure t d f = (ap param.Value (d.sizes t), f)
  kind_is program at passing.OpenArray t d f = (f.0, f.1, ap param.ValueArray (d.element_sizes t f.0 f.1))
  kind_is program at passing.Variable t d f = (refl, f)
  kind_is program at passing.VariableRecord t d f = (refl, f)
  kind_is program at passing.VariableOpenArray t d f = (refl, f)

  kinds_are : (program : Program) (at : Procedure) (ps : List TypedParameter) → IsDescribed types program → ParametersFit program ps → KindsAre program ps (map (λ x. param_for types md (within types md at) x.passing x.of) ps)
  kinds_are program at [] d f = tt
  kinds_are program at (p ∷ ps) d f = (kind_is program at p.passing p.of d f.0, kinds_are program at ps d f.1)

  -- WHERE A PROCEDURE BEGINS

  procedure_ends : (p : Procedure) (pc : ℕ) → behind (procedure_code types md p pc) pc ≡ end_procedure types md p pc
  procedure_ends p pc =
      let c = within types md p in
      let s = scheme_of.stmts_code c p.body pc (first_hidden c) 0 in
      let b = scheme_ends.behind_is (s ++ closing p.result p.at ∷ []) pc in
      let e = scheme_ends.stmts_end c p.body pc (first_hidden c) 0 in
      omega (arith, b, e, length-append s (closing p.result p.at ∷ []))

  pub record ProcedureAt (sc : Scope) (ps : List Procedure) (pc k : ℕ) (p : Procedure) : Type 0 where
    pub entry : ℕ
    pub at : ℕ
    pub row : slice_get (rows_of types md ps pc) k ≡ Some (row_of types md p entry)
    pub code : AllStand sc (procedure_code types md p entry) entry at

  pub procedure_at : (sc : Scope) (ps : List Procedure) (pc at k : ℕ) (p : Procedure) → slice_get ps k ≡ Some p → AllStand sc (procedures_code types md ps pc) pc at → ProcedureAt sc ps pc k p
  procedure_at sc [] pc at k p e h = absurd (none-some _ e)
  procedure_at sc (r ∷ ps) pc at zero p e h =
      let is : r ≡ p = ap (λ o. unwrap_or o r) e in
      let a = stand_apart sc (procedure_code types md r pc) (procedures_code types md ps (end_procedure types md r pc)) pc at h in
      subst (ProcedureAt sc (r ∷ ps) pc 0) is (record { entry = pc; at = at; row = refl; code = a.0 })
  procedure_at sc (r ∷ ps) pc at (suc k) p e h =
      let q = end_procedure types md r pc in
      let a = stand_apart sc (procedure_code types md r pc) (procedures_code types md ps q) pc at h in
      let x = procedure_at sc ps q _ k p e (subst (λ n. AllStand sc (procedures_code types md ps q) n (texts_past sc (procedure_code types md r pc) at)) (procedure_ends r pc) a.1) in
      record { entry = x.entry; at = x.at; row = x.row; code = x.code }

  module _ (c : Setting) (m : ℕ) (u : ModuleImage) (k : IsCompiled c types md m u) where
    abbrev methods : Family → ℕ
    methods f = method_number types f.owner f.name

    abbrev scope : Procedure → Scope
    scope p = scope_of c u md.name p methods

    abbrev named : List ℕ → QName
    named x = record { «module» = md.name; object = x }

    pub agrees : (p : Procedure) → ParametersFit c.program p.parameters → AreDifferent (static_held c.program p) → Agrees (scope p) (within types md p)
    agrees p fit d =
        let front = map (static_parameter c.program) p.parameters in
        let back = map hidden_held (hidden_of_all p.body) in
        record {
          described = k.described;
          unit = refl;
          own = k.own;
          methods = λ f. refl;
          variables = λ n x e. globals_before types c.program k.described md.variables x ∙ ap (λ l. slot l x) (sym (ap (variables_in c.program c.program) (bytes_true n md.name e) ∙ k.variables_there));
          parameters = λ x i. parameters_before c.program p.parameters _ x fit i;
          locals = λ x i. ap (λ n. n + before (λ v. v.name) (λ v. words_of types v.of) p.locals x) (parameter_sum c.program p.parameters fit) ∙ ap (λ n. slots_words front + n) (variables_before types c.program k.described p.locals back x i) ∙ sym (local_past c.program front p.locals back x d i);
          procedures = λ q e n. ap suc (procedures_before md.procedures q.object) ∙ index_named md.procedures q.object n ∙ ap (λ l. procedure_index l q.object) (sym (ap (procedures_in c.program) (bytes_true q.module md.name e) ∙ k.procedures_there));
          types = λ q e i. k.types_there q.object i ∙ ap (λ n. Some (type_number c.img.types (record { «module» = n; object = q.object }))) (sym (bytes_true q.module md.name e));
        }

    -- the whole code stands
    module_stands : (p : Procedure) → AllStand (scope p) (module_code types md) 0 (own_words types md)
    module_stands p =
        let w = module_code types md in
        let n = nothing_named (own_words types md) in
        let links : LinksResolve (scope p) (all_named types md) = record { variables = k.links.variables; procedures = k.links.procedures; types = k.links.types } in
        all_stand (scope p) (all_named types md) links w n 0 (own_words types md) refl (kept_all (all_named types md)) k.texts
        (λ i x f. let z : i ≡ 0 + i = omega arith in subst (λ j. slice_get u.code j ≡ Some x) z (ap (λ l. slice_get l i) k.code ∙ f))
        (λ i l q f g. ap (λ ps. position_at ps (0 + i)) k.positions ∙ position_found w 0 i l q f g)

    hidden_there : (p : Procedure) → ParametersFit c.program p.parameters → AreDifferent (static_held c.program p) → HiddenAt (scope p) (hidden_of_all p.body) (first_hidden (within types md p))
    hidden_there p fit d =
        let a = map (static_parameter c.program) p.parameters in
        let b = map (held_variable c.program) p.locals in
        let hs = hidden_of_all p.body in
        let g : a ++ (b ++ map hidden_held hs) ≡ (a ++ b) ++ map hidden_held hs = sym (append_assoc a b (map hidden_held hs)) in
        let s1 = parameter_sum c.program p.parameters fit in
        let s2 = local_sum types c.program k.described p.locals in
        let t : first_hidden (within types md p) ≡ slots_words (a ++ b) = ap (λ n. n + local_words (within types md p)) s1 ∙ ap (λ n. slots_words a + n) s2 ∙ sym (words_two a b) in
        hidden_at (scope p) hs _ (subst (λ l. HiddenIn l hs (first_hidden (within types md p))) (sym g) (hidden_in (a ++ b) hs (first_hidden (within types md p)) t (subst AreDifferent g d)))

    locals_same : (p : Procedure) → all_local_words types md p ≡ slots_words (own_variables c.program p)
    locals_same p =
        let b = map (held_variable c.program) p.locals in
        let hs = hidden_of_all p.body in
        let n = stmts_next (within types md p) p.body (local_words (within types md p)) in
        let s = local_sum types c.program k.described p.locals in
        n ∙ ap (λ z. z + length hs) s ∙ ap (λ z. slots_words b + z) (sym (hidden_words hs)) ∙ sym (words_two b (map hidden_held hs))

    -- THE PROCEDURE of a name, or the body
    pub procedure_stands : (x : List ℕ) (p : Procedure) → slice_get (all_procedures md) (procedure_index md.procedures x) ≡ Some p → IsChecked c types md p → ProcedureStands c (named x) p
    procedure_stands x p e h =
        let sc = scope p in
        let ctx = within types md p in
        let ag = agrees p h.parameters h.different in
        let f = procedure_at sc (all_procedures md) 0 (own_words types md) (procedure_index md.procedures x) p e (module_stands p) in
        let body = scheme_of.stmts_code ctx p.body f.entry (first_hidden ctx) 0 in
        let a = stand_apart sc body (closing p.result p.at ∷ []) f.entry f.at f.code in
        let last = a.1.0 in
        let ends_at : behind body f.entry ≡ end_stmts c.program p.body f.entry = scheme_ends.behind_is body f.entry ∙ sym (scheme_ends.stmts_end ctx p.body f.entry (first_hidden ctx) 0) ∙ ends.stmts_end ctx c.program k.described p.body f.entry h.fits in
        let inside = slice_get_within u.code (behind body f.entry) _ last.is in
        let lines : Behind sc body f.entry f.at = record { lines = with_end sc body f.entry f.at a.0 inside } in
        let all = subst (λ l. Behind sc l f.entry f.at) (sym (append-nil body)) lines in
        let r = stmts_stand sc ctx ag p.body f.entry (first_hidden ctx) 0 f.at [] h.fits (hidden_there p h.parameters h.different) all in
        record {
          m = m;
          u = u;
          is = k.is;
          named = k.named;
          first = k.first;
          methods = methods;
          entry = row_of types md p f.entry;
          found = ap (λ l. slice_get l ((number_of c.program (has_of c) c.img (named x)).proc)) k.procedures ∙ ap (λ l. slice_get (module_rows types md) (procedure_index l x)) k.procedures_there ∙ f.row;
          kinds = kinds_are c.program p p.parameters k.described h.parameters;
          locals = locals_same p;
          small = h.small;
          gives = result_same p.result;
          at = f.at;
          code = r.0;
          last = subst (λ n. LastCode sc p n p.result) ends_at (last_stands sc p p.result (behind body f.entry) _ last);
          inside = subst (λ n. n < length u.code) ends_at inside;
          need = let n = stmts_le c.program ctx p.body h.fits in omega (arith, n, h.few);
          ok = h.ok;
          different = h.different;
          forms = h.forms;
        }

    -- its numbers of families are those of the module's descriptions
    pub procedure_methods : (x : List ℕ) (p : Procedure) (e : slice_get (all_procedures md) (procedure_index md.procedures x) ≡ Some p) (h : IsChecked c types md p) → (procedure_stands x p e h).methods ≡ methods
    unfolding procedure_stands
    procedure_methods x p e h = refl
