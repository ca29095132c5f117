-- The code of expressions follows their meaning.
use Rattle.std.proofs.Common.{◌≡◌, ℕ, suc, ◌+◌, ◌≤◌, ◌<◌, List, ◌∷◌, length, Option, Some, None, ℤ, refl, sym, subst, arith, inl, ⊎_elim}
use Rattle.std.proofs.lemmas.Bool.Decides.{nat_tests}
use Rattle.std.specs.Prelude.{pos, Bool, true, false, nat_lt, nat_le}
use Rattle.ob_tree.specs.declared.pos.Pos.{Pos}
use Rattle.ob_types.specs.declared.types.TypeRef.{TypeRef}
use Rattle.ob_types.specs.declared.value.Value.{Value as Literal}
use Rattle.ob_types.specs.declared.value.Value.TheVariants as literal
use Rattle.ob_types.specs.declared.typed.Variable.{Variable}
use Rattle.ob_types.specs.declared.typed.Connective.TheVariants as connective
use Rattle.ob_types.specs.declared.typed.Unary.{Unary}
use Rattle.ob_types.specs.declared.typed.Unary.TheVariants as unary
use Rattle.ob_types.specs.declared.typed.Binary.{Binary}
use Rattle.ob_types.specs.TypedSyntax.{Desig, OfVariable, Expr, Constant, ValueOf, Logical}
use Rattle.ob_instr.specs.declared.instr.Instr.{Instr}
use Rattle.ob_instr.specs.declared.opcode.Opcode.TheVariants as op
use Rattle.ob_instr.specs.Image.{World, Point}
use Rattle.ob_instr.specs.Rows.{truth}
use Rattle.ob_instr.proofs.Goes as rows
use Rattle.ob_meaning.specs.Values.{Form, form_in, Value, Truth, Nil, Place, value_at, AnObject, State}
use Rattle.ob_meaning.specs.Results.{Res, Gives, read, Caller}
use Rattle.ob_meaning.specs.Operators.{Computed, Is, Traps, compute, constant_value}
use Rattle.ob_meaning.specs.Meaning.{place_of, value, computed, connect}
use Rattle.law_simulation_relation.specs.Layout.{static_held, address}
use Rattle.law_simulation_relation.specs.Relation.{Fine, word_of, Scalar}
use Rattle.law_simulation_relation.specs.Need.{need_expr}
use Rattle.law_simulation_relation.specs.Ends.{end_variable, end_place, end_expr, end_unary}
use Rattle.law_simulation_relation.specs.Stands as code
use Rattle.law_simulation_relation.specs.Stands.{unary_code, literal_word}
use Rattle.law_simulation_relation.specs.Typed as typed
use Rattle.law_simulation_relation.specs.Typed.{boolean}
use Rattle.law_simulation_relation.proofs.Steps.{Reach, here, Follows, follows_bind, follows_after, follows_value, follows_stop, follows_map, stands_any}
use Rattle.law_simulation_relation.proofs.Statements.{Activation, scope, go, fb, K, here_in, Keeps, PlaceTo, PlaceKept, ValueTo, ValueKept, ExprOk, PlaceFollows, ExprFollows}
use Rattle.law_simulation_relation.proofs.Grow.{G, grows_same, grows_on}
use Rattle.law_simulation_relation.proofs.Located.{spot}
use Rattle.law_simulation_relation.proofs.Needs.{need_one, need_one_e}
use Rattle.law_simulation_relation.proofs.Behind.{expr_ends}
use Rattle.law_simulation_relation.proofs.Moves.{goes, jumps, traps, effect}
use Rattle.law_simulation_relation.proofs.Variables.{variable_of, variable_goes}
use Rattle.law_simulation_relation.proofs.Values.{sub_scalar, widen, RowIs, UnaryIs, is_integer}
use Rattle.law_simulation_relation.specs.Setting.{Setting, has_of}
use Rattle.law_simulation_relation.specs.Plain.{Plain, PlainLiteral}

abbrev after : Option Instr → ℕ → ℕ
after None pc = pc
after (Some i) pc = suc pc

module _ (c : Setting) (a : Activation c) (n : ℕ) (call : Caller) (b : ℕ) where
  abbrev E : Expr → Type 0
  E e = ExprFollows c a n call b e

  abbrev P : Desig → Type 0
  P d = PlaceFollows c a n call b d

  abbrev Kp : List AnObject → State → World → Type 0
  Kp os s w = Keeps c a n call b os s w

  abbrev W : List AnObject → Value → ℤ
  W os v = word_of c.program (has_of c) c.img os v

  abbrev F : List AnObject → Form → Value → Type 0
  F os t v = Fine c.program (has_of c) os t v

  abbrev VTo : ℕ → List ℤ → Value → State → World → Point
  VTo pc ops v s w = ValueTo c a n call b pc ops v s w

  abbrev VKept : Form → List AnObject → Value → State → World → Type 0
  VKept t os v s w = ValueKept c a n call b t os v s w

  -- from here on, and back
  pub from_here : {os : List AnObject} {s : State} {w : World} → Kp os s w → Kp s.made s w
  from_here {os} {s} {w} st = record { all = st.all; calls = st.calls; bound = st.bound; objects = grows_same c s.made }

  pub since : {os mid : List AnObject} {s : State} {w : World} → G c os mid → Kp mid s w → Kp os s w
  since {os} {mid} {s} {w} g st = record { all = st.all; calls = st.calls; bound = st.bound; objects = grows_on c os mid s.made g st.objects }

  -- VARIABLES

  pub variable_case : (v : Variable) (t : TypeRef) → Plain v → P (OfVariable v t)
  variable_case v t pl pc at ops os s w le has ok st =
      subst (λ k. Follows c (go c a pc ops w) (PlaceTo c a n call b (end_variable v pc) ops) (PlaceKept c a n call b (form_in c.program t) os) (Gives (place_of v k) s)) (sym st.calls)
      (follows_value c w (variable_goes c a s w st.all v (form_in c.program t) pc ops le pl has ok.0) (variable_of c a s w st.all v (form_in c.program t) pl ok.0, st))

  -- a scalar at a place
  pub load_follows : (p : Place) (t : Form) (pc : ℕ) (ops : List ℤ) (os : List AnObject) (s : State) (w : World) → length ops + 1 ≤ 256 → code.Has (scope c a) pc (code.plain op.Load) → Scalar t → PlaceKept c a n call b t os p s w → Follows c (PlaceTo c a n call b pc ops p s w) (VTo (suc pc) ops) (VKept t os) (read p s)
  load_follows p t pc ops os s w le has sc k =
      let e = sub_scalar _ _ k.0.1 sc in
      let x = spot c (K c a) s w k.1.all p (subst (λ u. Scalar u) (sym e) sc) k.0.0 in
      follows_value c w (goes c a _ w has (rows.load_next c.img a.u a.m a.p (fb c a) pc w (pos (address c.program c.img s.made (K c a) p)) _ ops x.load) (omega (arith, le))) (subst (λ u. F s.made u (value_at s.store p)) e x.fine, k.1)

  pub widen_kept : (t u : Form) (os : List AnObject) (v : Value) (s : State) (w : World) → typed.Widens c.program (has_of c) a.unit (static_held c.program a.procedure) a.procedure.result t u → VKept t os v s w → VKept u os v s w
  widen_kept t u os v s w wide k = (widen c s.made a t u v wide k.0, k.1)

  pub value_case : (d : Desig) → P d → E (ValueOf d)
  value_case d ih t pc at ops os s w le has ok st =
      follows_map c
      (follows_bind c (ih pc at ops os s w le has.0 ok.0 st) λ p s1 w1 k1.
      load_follows p (code.form_of (scope c a) d) (end_place c.program d pc) ops os s1 w1 (omega (arith, le, need_one d)) has.1 ok.1.0 k1)
      (λ v s w k. here c _) (λ v s w k. widen_kept _ t os v s w ok.1.1 k)

  -- CONSTANTS

  pub int_goes : (z : ℤ) (pc : ℕ) (ops : List ℤ) (w : World) → length ops + 1 ≤ 256 → code.Has (scope c a) pc (code.instr op.Int z (pos 0)) → Reach c (go c a pc ops w) (go c a (suc pc) (z ∷ ops) w)
  int_goes z pc ops w le has = goes c a _ w has (rows.int_next c.img a.u a.m a.p (fb c a) pc w z ops) (omega (arith, le))

  literal_is : (l : Literal) (t : Form) (os : List AnObject) → PlainLiteral l → typed.ConstantOk c.program (has_of c) a.unit (static_held c.program a.procedure) a.procedure.result l t → (W os (constant_value l) ≡ literal_word l) × F os t (constant_value l)
  literal_is (literal.Bool x) t os pl ok = (refl, subst (λ u. F os u (constant_value (literal.Bool x))) (sym ok) (x, refl))
  literal_is (literal.Char x) t os pl ok = (refl, subst (λ u. F os u (constant_value (literal.Char x))) (sym ok.1) (x, ok.0, refl))
  literal_is (literal.Int z) t os pl ok = (refl, subst (λ u. F os u (constant_value (literal.Int z))) (sym ok.2) (is_integer c os ok.0 _ (z, ok.1, refl)))
  literal_is (literal.Set x) t os pl ok = absurd pl
  literal_is (literal.Str x) t os pl ok = absurd ok
  literal_is literal.Nil t os pl ok = (refl, ⊎_elim (λ k. subst (λ u. F os u Nil) (sym k.1) (inl refl)) (λ k. subst (λ u. F os u Nil) (sym k.1) (inl refl)) ok)

  pub constant_case : (l : Literal) → PlainLiteral l → E (Constant l)
  constant_case l pl t pc at ops os s w le has ok st =
      let h = literal_is l t s.made pl ok in
      follows_value c w (subst (λ z. Reach c (go c a pc ops w) (go c a (suc pc) (z ∷ ops) w)) (sym h.0) (int_goes (literal_word l) pc ops w le has)) (h.1, st)

  -- OPERATORS

  pub row_follows : (o : Computed) (i : Instr) (at : Pos) (pc : ℕ) (ops0 ops : List ℤ) (t : Form) (os : List AnObject) (s : State) (w : World) → length ops + 1 ≤ 256 → code.HasAt (scope c a) pc i at → RowIs c s.made a pc w ops (effect c a pc ops0 w i) o t → Kp os s w → Follows c (go c a pc ops0 w) (VTo (suc pc) ops) (VKept t os) (computed o (here_in c a n call b) at s)
  row_follows (Is v) i at pc ops0 ops t os s w le has r st = follows_value c w (goes c a _ w has.has r.0 (omega (arith, le))) (r.1, st)
  row_follows (Traps k) i at pc ops0 ops t os s w le has r st = follows_stop c w (traps c a k (pos 0) w has r) (stands_any c st)

  pub binary_scalar : (o : Binary) (t u r : Form) → typed.BinaryOk c.program (has_of c) a.unit (static_held c.program a.procedure) a.procedure.result o t u r → Scalar t
  binary_scalar _ _ _ _ (typed.sum v) = tt
  binary_scalar _ _ _ _ (typed.difference v) = tt
  binary_scalar _ _ _ _ (typed.product v) = tt
  binary_scalar _ _ _ _ (typed.quotient v) = tt
  binary_scalar _ _ _ _ (typed.remainder v) = tt
  binary_scalar _ _ _ _ typed.union = tt
  binary_scalar _ _ _ _ typed.without = tt
  binary_scalar _ _ _ _ typed.meet = tt
  binary_scalar _ _ _ _ typed.either = tt
  binary_scalar _ _ _ _ typed.range = tt
  binary_scalar _ _ _ _ typed.inside = tt
  binary_scalar _ _ _ _ typed.ash = tt
  binary_scalar _ _ _ _ (typed.integers r) = tt
  binary_scalar _ _ _ _ (typed.chars r) = tt
  binary_scalar _ _ _ _ (typed.booleans r q) = tt
  binary_scalar _ _ _ _ (typed.sets r q) = tt
  binary_scalar _ _ _ _ (typed.pointers r t u q) = tt
  binary_scalar _ _ _ _ (typed.procedures r t u q) = tt

  pub unary_follows : (i : Option Instr) (o : Unary) (at : Pos) (pc : ℕ) (ops : List ℤ) (u : Form) (os : List AnObject) (v : Value) (s : State) (w : World) → length ops + 1 ≤ 256 → code.UnaryCode (scope c a) i pc at → UnaryIs c s.made a pc w ops i o u v → Kp os s w → Follows c (go c a pc (W s.made v ∷ ops) w) (VTo (after i pc) ops) (VKept u os) (computed (compute o v) (here_in c a n call b) at s)
  unary_follows None o at pc ops u os v s w le has r st =
      subst (λ q. Follows c (go c a pc (W s.made v ∷ ops) w) (VTo pc ops) (VKept u os) (computed q (here_in c a n call b) at s)) (sym r.1)
      (follows_value c w (subst (λ z. Reach c (go c a pc (z ∷ ops) w) (go c a pc (W s.made r.0 ∷ ops) w)) r.2 (here c _)) (r.3, st))
  unary_follows (Some i) o at pc ops u os v s w le has r st = row_follows (compute o v) i at pc (W s.made v ∷ ops) ops u os s w le has r st

  pub after_is : (o : Unary) (pc : ℕ) → after (unary_code o) pc ≡ end_unary o pc
  after_is (unary.Negate v) pc = refl
  after_is unary.Not pc = refl
  after_is unary.Complement pc = refl
  after_is (unary.Abs v) pc = refl
  after_is unary.Cap pc = refl
  after_is unary.Chr pc = refl
  after_is (unary.Long v) pc = refl
  after_is unary.Odd pc = refl
  after_is unary.Ord pc = refl
  after_is (unary.Short v) pc = refl
  after_is unary.Element pc = refl

  abbrev out_form : Unary → Form
  out_form o = typed.unary_out c.program (has_of c) a.unit (static_held c.program a.procedure) a.procedure.result o

  -- & AND OR

  pub target_is : (x : ℕ) → x < length a.u.code → nat_lt x (length a.u.code) ≡ true
  target_is x lt = grind (arith, nat_tests)

  pub true_passes : (x pc : ℕ) (ops : List ℤ) (w : World) → x < length a.u.code → code.Has (scope c a) pc (code.with_a op.JumpF x) → length ops ≤ 256 → Reach c (go c a pc (pos 1 ∷ ops) w) (go c a (suc pc) ops w)
  true_passes x pc ops w inside has le = goes c a ops w has (rows.jump_f_passes c.img a.u a.m a.p (fb c a) pc w x (pos 1) ops (target_is x inside) refl) le

  pub false_jumps : (x pc : ℕ) (ops : List ℤ) (w : World) → x < length a.u.code → pc < x → code.Has (scope c a) pc (code.with_a op.JumpF x) → length ops ≤ 256 → Reach c (go c a pc (pos 0 ∷ ops) w) (go c a x ops w)
  false_jumps x pc ops w inside ahead has le = let e : nat_le x pc ≡ false = grind (arith, nat_tests) in jumps c a x ops w has (rows.jump_f_ahead c.img a.u a.m a.p (fb c a) pc w x ops (target_is x inside) e) le

  pub jump_goes : (x pc : ℕ) (ops : List ℤ) (w : World) → x < length a.u.code → pc < x → code.Has (scope c a) pc (code.with_a op.Jump x) → length ops ≤ 256 → Reach c (go c a pc ops w) (go c a x ops w)
  jump_goes x pc ops w inside ahead has le = let e : nat_le x pc ≡ false = grind (arith, nat_tests) in jumps c a x ops w has (rows.jump_ahead c.img a.u a.m a.p (fb c a) pc w x ops (target_is x inside) e) le

  -- a truth value that stands at the top
  pub by_truth : {A : Type 0} {to : A → State → World → Point} {Keep : A → State → World → Type 0} (v : Value) (os : List AnObject) (pc : ℕ) (ops : List ℤ) (w : World) (r : Value → Res A) → F os boolean v → ((x : Bool) → Follows c (go c a pc (truth x ∷ ops) w) to Keep (r (Truth x))) → Follows c (go c a pc (W os v ∷ ops) w) to Keep (r v)
  by_truth {A} {to} {Keep} v os pc ops w r fine f = subst (λ v. Follows c (go c a pc (W os v ∷ ops) w) to Keep (r v)) (sym fine.1) (f fine.0)

  and_on : (z : Bool) (y : Expr) (p1 k : ℕ) (ops : List ℤ) (os : List AnObject) (s : State) (w : World) → E y → length ops + need_expr y ≤ 256 → suc (suc (end_expr c.program y (suc p1))) < length a.u.code → code.Has (scope c a) p1 (code.with_a op.JumpF (suc (end_expr c.program y (suc p1)))) → code.ExprCode (scope c a) y (suc p1) k → code.Has (scope c a) (end_expr c.program y (suc p1)) (code.with_a op.Jump (suc (suc (end_expr c.program y (suc p1))))) → code.Has (scope c a) (suc (end_expr c.program y (suc p1))) (code.plain op.Int) → ExprOk c a n call b y boolean → Kp os s w → Follows c (go c a p1 (truth z ∷ ops) w) (VTo (suc (suc (end_expr c.program y (suc p1)))) ops) (VKept boolean os) (connect connective.And (Truth z) (value y (here_in c a n call b)) s)
  and_on true y p1 k ops os s w ih le inside has1 has2 has3 has4 ok st =
      let p2 = end_expr c.program y (suc p1) in
      follows_after c (true_passes (suc p2) p1 ops w (omega (arith, inside)) has1 (omega (arith, le)))
      (follows_map c (ih boolean (suc p1) k ops os s w le has2 ok st) (λ v s w k. jump_goes (suc (suc p2)) p2 _ w inside (omega arith) has3 (omega (arith, le, need_one_e y))) (λ v s w k. k))
  and_on false y p1 k ops os s w ih le inside has1 has2 has3 has4 ok st =
      let p2 = end_expr c.program y (suc p1) in
      let ends = expr_ends c.program y (suc p1) in
      follows_after c (false_jumps (suc p2) p1 ops w (omega (arith, inside)) (omega (arith, ends)) has1 (omega (arith, le)))
      (follows_value c w (int_goes (pos 0) (suc p2) ops w (omega (arith, le, need_one_e y)) has4) ((false, refl), st))

  pub and_case : (x y : Expr) → E x → E y → E (Logical connective.And x y)
  and_case x y ih_x ih_y t pc k ops os s w le has ok st =
      let p1 = end_expr c.program x pc in
      follows_map c
      (follows_bind c (ih_x boolean pc k ops os s w (omega (arith, le)) has.0 ok.0 st) λ v s1 w1 k1.
      by_truth v s1.made p1 ops w1 (λ v. connect connective.And v (value y (here_in c a n call b)) s1) k1.0 (λ z. and_on z y p1 _ ops os s1 w1 ih_y (omega (arith, le)) has.1.1.1.1.1 has.1.0 has.1.1.0 has.1.1.1.0 has.1.1.1.1.0 ok.1.0 k1.1))
      (λ v s w k. here c _) (λ v s w k. widen_kept _ t os v s w ok.1.1 k)

  or_on : (z : Bool) (y : Expr) (p1 k : ℕ) (ops : List ℤ) (os : List AnObject) (s : State) (w : World) → E y → length ops + need_expr y ≤ 256 → end_expr c.program y (suc (suc (suc p1))) < length a.u.code → code.Has (scope c a) p1 (code.with_a op.JumpF (suc (suc (suc p1)))) → code.Has (scope c a) (suc p1) (code.with_a op.Int 1) → code.Has (scope c a) (suc (suc p1)) (code.with_a op.Jump (end_expr c.program y (suc (suc (suc p1))))) → code.ExprCode (scope c a) y (suc (suc (suc p1))) k → ExprOk c a n call b y boolean → Kp os s w → Follows c (go c a p1 (truth z ∷ ops) w) (VTo (end_expr c.program y (suc (suc (suc p1)))) ops) (VKept boolean os) (connect connective.Or (Truth z) (value y (here_in c a n call b)) s)
  or_on true y p1 k ops os s w ih le inside has1 has2 has3 has4 ok st =
      let p2 = suc (suc (suc p1)) in
      let ends = expr_ends c.program y p2 in
      follows_after c (true_passes p2 p1 ops w (omega (arith, inside, ends)) has1 (omega (arith, le)))
      (follows_after c (int_goes (pos 1) (suc p1) ops w (omega (arith, le, need_one_e y)) has2)
      (follows_value c w (jump_goes (end_expr c.program y p2) (suc (suc p1)) (pos 1 ∷ ops) w inside (omega (arith, ends)) has3 (omega (arith, le, need_one_e y))) ((true, refl), st)))
  or_on false y p1 k ops os s w ih le inside has1 has2 has3 has4 ok st =
      let p2 = suc (suc (suc p1)) in
      let ends = expr_ends c.program y p2 in
      follows_after c (false_jumps p2 p1 ops w (omega (arith, inside, ends)) (omega arith) has1 (omega (arith, le)))
      (ih boolean p2 k ops os s w le has4 ok st)

  pub or_case : (x y : Expr) → E x → E y → E (Logical connective.Or x y)
  or_case x y ih_x ih_y t pc k ops os s w le has ok st =
      let p1 = end_expr c.program x pc in
      follows_map c
      (follows_bind c (ih_x boolean pc k ops os s w (omega (arith, le)) has.0 ok.0 st) λ v s1 w1 k1.
      by_truth v s1.made p1 ops w1 (λ v. connect connective.Or v (value y (here_in c a n call b)) s1) k1.0 (λ z. or_on z y p1 _ ops os s1 w1 ih_y (omega (arith, le)) has.1.1.1.1.1 has.1.0 has.1.1.0 has.1.1.1.0 has.1.1.1.1.0 ok.1.0 k1.1))
      (λ v s w k. here c _) (λ v s w k. widen_kept _ t os v s w ok.1.1 k)
