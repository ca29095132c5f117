-- The code of all operators, of literals and of procedure values follows their meaning.
use Rattle.std.proofs.Common.{◌≡◌, ℕ, suc, ◌+◌, ◌≤◌, List, ◌∷◌, length, Some, ℤ, refl, sym, ap, ◌∙◌, subst, arith, inr, []}
use Rattle.std.proofs.lemmas.Bool.Decides.{nat_tests}
use Rattle.std.proofs.lemmas.Option.{slice_get_within}
use Rattle.std.specs.Prelude.{Bool, true, false, nat_lt, bytes_eq, slice_get}
use Rattle.ob_tree.specs.declared.names.QName.{QName}
use Rattle.ob_tree.specs.declared.pos.Pos.{Pos}
use Rattle.ob_types.specs.declared.types.Signature.{Signature}
use Rattle.ob_types.specs.declared.value.Value.{Value as Literal}
use Rattle.ob_types.specs.declared.value.Value.TheVariants as literal
use Rattle.ob_types.specs.declared.typed.Unary.{Unary}
use Rattle.ob_types.specs.declared.typed.Binary.{Binary}
use Rattle.ob_types.specs.TypedSyntax.{Expr, Constant, ProcedureValue, Monadic, Dyadic}
use Rattle.ob_instr.specs.declared.opcode.Opcode.TheVariants as op
use Rattle.ob_instr.specs.Image.{World, Point}
use Rattle.ob_instr.specs.Rows.{Next, in_width, procedures_of, proc_value}
use Rattle.ob_instr.proofs.Goes as rows
use Rattle.ob_meaning.specs.Values.{Form, Value, ProcedureAt, AnObject, State, Formals}
use Rattle.ob_meaning.specs.Results.{Caller}
use Rattle.ob_meaning.specs.Operators.{compute, compute_both, constant_value}
use Rattle.ob_meaning.specs.Meaning.{computed}
use Rattle.law_simulation_relation.specs.Layout.{static_held, module_number}
use Rattle.law_simulation_relation.specs.Relation.{OrElse, Fine, word_of, number_of}
use Rattle.law_simulation_relation.specs.Ends.{end_expr}
use Rattle.law_simulation_relation.specs.Stands as code
use Rattle.law_simulation_relation.specs.Stands.{unary_code, binary_code, literal_word}
use Rattle.law_simulation_relation.specs.Typed as typed
use Rattle.law_simulation_relation.specs.Linked.{Linked}
use Rattle.law_simulation_relation.proofs.Names.{bytes_true}
use Rattle.law_simulation_relation.proofs.Steps.{Reach, here, Follows, follows_bind, follows_value, follows_map}
use Rattle.law_simulation_relation.proofs.Statements.{Activation, scope, go, fb, here_in, Keeps, ValueTo, ValueKept, ExprFollows}
use Rattle.law_simulation_relation.proofs.Grow.{scalar_word, fine_more}
use Rattle.law_simulation_relation.proofs.Needs.{need_one_e}
use Rattle.law_simulation_relation.proofs.Moves.{goes}
use Rattle.law_simulation_relation.proofs.Exprs.{from_here, since, widen_kept, constant_case, int_goes, row_follows, binary_scalar, unary_follows, after_is}
use Rattle.law_simulation_relation.proofs.Actuals.{procedure_found}
use Rattle.law_simulation_relation.specs.Setting.{Setting, has_of}
use Rattle.law_simulation_operators.specs.Procedures.{ValuesNumbered}
use Rattle.law_simulation_operators.proofs.Sets.{literal_set}
use Rattle.law_simulation_operators.proofs.Rows.{any_binary_row, any_unary_row}

module _ (c : Setting) (a : Activation c) (n : ℕ) (call : Caller) (b : ℕ) where
  abbrev E : Expr → Type 0
  E e = ExprFollows c a n call b e

  abbrev Kp : List AnObject → State → World → Type 0
  Kp os s w = Keeps c a n call b os s w

  abbrev W : List AnObject → Value → ℤ
  W os v = word_of c.program (has_of c) c.img os v

  abbrev F : List AnObject → Form → Value → Type 0
  F os t v = Fine c.program (has_of c) os t v

  abbrev VTo : ℕ → List ℤ → Value → State → World → Point
  VTo pc ops v s w = ValueTo c a n call b pc ops v s w

  abbrev VKept : Form → List AnObject → Value → State → World → Type 0
  VKept t os v s w = ValueKept c a n call b t os v s w

  -- OPERATORS

  pub any_dyadic_case : (o : Binary) (x y : Expr) (at : Pos) → ValuesNumbered c → E x → E y → E (Dyadic o x y at)
  any_dyadic_case o x y at nu ih_x ih_y t pc k ops os s w le has ok st =
      let p1 = end_expr c.program x pc in
      follows_map c
      (follows_bind c (ih_x ok.0 pc k ops os s w (omega (arith, le)) has.0 ok.4 st) λ v s1 w1 k1.
      follows_bind c (ih_y ok.1 p1 _ (W s1.made v ∷ ops) s1.made s1 w1 (omega (arith, le)) has.1.0 ok.5 (from_here c a n call b k1.1)) λ u s2 w2 k2.
      let sc = binary_scalar c a n call b o ok.0 ok.1 ok.2 ok.3 in
      let same = scalar_word c s1.made s2.made k2.1.objects ok.0 v sc k1.0 in
      subst (λ z. Follows c (go c a (end_expr c.program y p1) (W s2.made u ∷ z ∷ ops) w2) (VTo (suc (end_expr c.program y p1)) ops) (VKept ok.2 os) (computed (compute_both o v u) (here_in c a n call b) at s2)) same
      (row_follows c a n call b (compute_both o v u) (binary_code o) at (end_expr c.program y p1) (W s2.made u ∷ W s2.made v ∷ ops) ops ok.2 os s2 w2 (omega (arith, le, need_one_e y)) has.1.1
      (any_binary_row c s2.made a (end_expr c.program y p1) w2 ops o ok.0 ok.1 ok.2 nu ok.3 v u (fine_more c s1.made s2.made k2.1.objects ok.0 v k1.0) k2.0)
      (since c a n call b k1.1.objects k2.1)))
      (λ v s w k. here c _) (λ v s w k. widen_kept c a n call b _ t os v s w ok.6 k)

  abbrev out_form : Unary → Form
  out_form o = typed.unary_out c.program (has_of c) a.unit (static_held c.program a.procedure) a.procedure.result o

  pub any_monadic_case : (o : Unary) (x : Expr) (at : Pos) → E x → E (Monadic o x at)
  any_monadic_case o x at ih t pc k ops os s w le has ok st =
      let p1 = end_expr c.program x pc in
      follows_map c
      (follows_bind c (ih (typed.unary_in c.program (has_of c) a.unit (static_held c.program a.procedure) a.procedure.result o) pc k ops os s w le has.0 ok.0 st) λ v s1 w1 k1.
      subst (λ z. Follows c (go c a p1 (W s1.made v ∷ ops) w1) (VTo z ops) (VKept (out_form o) os) (computed (compute o v) (here_in c a n call b) at s1)) (after_is c a n call b o p1)
      (unary_follows c a n call b (unary_code o) o at p1 ops (out_form o) os v s1 w1 (omega (arith, le, need_one_e x)) has.1 (any_unary_row c s1.made a p1 w1 ops o v k1.0) k1.1))
      (λ v s w k. here c _) (λ v s w k. widen_kept c a n call b _ t os v s w ok.1 k)

  -- LITERALS

  set_case : (x : ℕ) → E (Constant (literal.Set x))
  set_case x t pc at ops os s w le has ok st =
      follows_value c w (subst (λ z. Reach c (go c a pc ops w) (go c a (suc pc) (z ∷ ops) w)) (sym (literal_set x ok.0)) (int_goes c a n call b (literal_word (literal.Set x)) pc ops w le has))
      (subst (λ u. F s.made u (constant_value (literal.Set x))) (sym ok.1) (_, refl), st)

  pub any_constant_case : (l : Literal) → E (Constant l)
  any_constant_case (literal.Bool x) = constant_case c a n call b (literal.Bool x) tt
  any_constant_case (literal.Char x) = constant_case c a n call b (literal.Char x) tt
  any_constant_case (literal.Int z) = constant_case c a n call b (literal.Int z) tt
  any_constant_case (literal.Set x) = set_case x
  any_constant_case (literal.Str x) = constant_case c a n call b (literal.Str x) tt
  any_constant_case literal.Nil = constant_case c a n call b literal.Nil tt

  -- PROCEDURES AS VALUES

  procedure_goes : (q : QName) (pc : ℕ) (ops : List ℤ) (w : World) → Linked c → (fs : Formals) → has_of c fs q → ValuesNumbered c → length ops + 1 ≤ 256 → (z : Bool) → bytes_eq q.module a.unit ≡ z → OrElse z (code.Has (scope c a) pc (code.with_a op.Proc ((number_of c.program (has_of c) c.img q).proc))) ((k : ℕ) × code.Has (scope c a) pc (code.with_a op.ProcX k) × (slice_get a.u.procedure_links k ≡ Some (number_of c.program (has_of c) c.img q))) →
      Reach c (go c a pc ops w) (go c a (suc pc) (W [] (ProcedureAt q) ∷ ops) w)
  procedure_goes q pc ops w link fs may nu le true e h =
      let num = nu fs q may in
      let ps = link q num.p num.is in
      let proc = (number_of c.program (has_of c) c.img q).proc in
      let same : module_number c.program q.module ≡ a.m = ap (module_number c.program) (bytes_true q.module a.unit e) ∙ a.named in
      let found : slice_get a.u.procedures proc ≡ Some ps.entry = sym (ap (λ o. slice_get (procedures_of o) proc) a.is.is) ∙ ap (λ m. slice_get (procedures_of (slice_get c.img.modules m)) proc) (sym same) ∙ procedure_found c a n call b link q num.p ps in
      let lt = slice_get_within a.u.procedures proc ps.entry found in
      let below : nat_lt proc (length a.u.procedures) ≡ true = grind (arith, nat_tests) in
      let fits : in_width 4 (proc_value (record { «module» = a.m; proc = proc })) ≡ true = ap (λ m. in_width 4 (proc_value (record { «module» = m; proc = proc }))) (sym same) ∙ num.fits in
      goes c a _ w h (rows.proc_next c.img a.u a.m a.p (fb c a) pc w proc ops below fits ∙ ap (λ m. Next (proc_value (record { «module» = m; proc = proc }) ∷ ops) w) (sym same)) (omega (arith, le))
  procedure_goes q pc ops w link fs may nu le false e h =
      goes c a _ w h.1 (rows.proc_x_next c.img a.u a.m a.p (fb c a) pc w h.0 (number_of c.program (has_of c) c.img q) ops h.2 ((nu fs q may).fits)) (omega (arith, le))

  pub procedure_value_case : (q : QName) (signature : Signature) → Linked c → ValuesNumbered c → E (ProcedureValue q signature)
  procedure_value_case q signature link nu t pc at ops os s w le has ok st =
      follows_value c w (procedure_goes q pc ops w link ok.0 ok.2 nu le (bytes_eq q.module a.unit) refl has.is)
      (subst (λ u. F s.made u (ProcedureAt q)) (sym ok.1) (inr (q, refl, ok.2)), st)
