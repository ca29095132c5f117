-- INC and DEC, and what Out writes.
use Rattle.std.proofs.Common.{◌≡◌, ℕ, zero, suc, ◌≤◌, List, [], ◌∷◌, ◌++◌, length, Option, Some, None, ℤ, refl, sym, ap, ◌∙◌, subst, arith}
use Rattle.std.proofs.Math.Nat.{mod-eq_of_lt}
use Rattle.std.specs.Prelude.{pos, negsuc, ◌+ℤ◌, ◌-ℤ◌, Bool, true, false}
use Rattle.ob_trap.specs.declared.trap.Trap.TheVariants as trap
use Rattle.ob_tree.specs.declared.pos.Pos.{Pos}
use Rattle.ob_types.specs.declared.types.Basic.{Basic}
use Rattle.ob_types.specs.declared.types.Basic.TheVariants as basic
use Rattle.ob_types.specs.declared.types.TypeRef.{TypeRef}
use Rattle.ob_types.specs.declared.types.TypeRef.TheVariants as ref
use Rattle.ob_types.specs.declared.typed.Width.{Width}
use Rattle.ob_types.specs.declared.typed.Width.TheVariants as width
use Rattle.ob_types.specs.declared.typed.Passing.TheVariants as passing
use Rattle.ob_types.specs.declared.typed.Update.TheVariants as update
use Rattle.ob_types.specs.declared.typed.OutProcedure.TheVariants as out
use Rattle.ob_types.specs.declared.typed.Callee.TheVariants as callee
use Rattle.ob_types.specs.TypedSyntax.{Desig, Expr, Call, NoActual, AnActual, CallProper, Updated}
use Rattle.ob_mem.specs.Words.{word_at}
use Rattle.ob_instr.specs.declared.instr.Instr.{Instr}
use Rattle.ob_instr.specs.declared.opcode.Opcode.TheVariants as op
use Rattle.ob_instr.specs.Image.{World, Point}
use Rattle.ob_instr.specs.Rows as rows_of
use Rattle.ob_instr.specs.Rows.{Next, with_memory, printed, turn_or}
use Rattle.ob_instr.proofs.Goes as rows
use Rattle.ob_meaning.specs.Values.{Program, BasicForm, form_in, form_within, description, number_of_types, Value, Integer, Place, value_at, AnObject, State}
use Rattle.ob_meaning.specs.Results.{Res, Gives, Stops, M, bind, assign, spend_of, write, Passed, ByValue, Caller}
use Rattle.ob_types.specs.Numbers.{is_in}
use Rattle.ob_meaning.specs.Operators.{unless, updated, padded}
use Rattle.ob_meaning.specs.Meaning.{computed, value, call_out, result_of, Done}
use Rattle.law_simulation_relation.specs.Layout.{static_held, address, place_form}
use Rattle.law_simulation_relation.specs.Relation.{Fine, Scalar, PlaceOf, word_of}
use Rattle.law_simulation_relation.specs.Need.{need_expr, need_passed}
use Rattle.law_simulation_relation.specs.Ends.{end_place, end_expr}
use Rattle.law_simulation_relation.specs.Stands as code
use Rattle.law_simulation_relation.specs.Stands.{bytes}
use Rattle.law_simulation_relation.specs.Typed as typed
use Rattle.law_simulation_relation.specs.Typed.{integer, longint, char}
use Rattle.law_simulation_relation.proofs.Steps.{here, Follows, follows_bind, follows_value, follows_stop, stands_any}
use Rattle.law_simulation_relation.proofs.Statements.{Activation, scope, go, fb, K, here_in, Keeps, PlaceFollows, ExprFollows, StmtFollows, FlowTo, FlowKept}
use Rattle.law_simulation_relation.proofs.Grow.{address_same, place_of_more}
use Rattle.law_simulation_relation.proofs.Located.{Spot, spot}
use Rattle.law_simulation_relation.proofs.Moves.{goes, traps, spends, effect}
use Rattle.law_simulation_relation.proofs.Values.{sub_scalar, width_same, integer_is, is_integer}
use Rattle.law_simulation_relation.proofs.Exprs.{from_here, since}
use Rattle.law_simulation_relation.specs.Setting.{Setting, has_of}

scalar_integer : (w : Width) → Scalar (integer w)
scalar_integer w = tt

is_width : (w : Width) → rows.IsWidth (bytes w)
is_width width.ShortInt = rows.width_1
is_width width.Integer = rows.width_2
is_width width.LongInt = rows.width_4

-- a basic type is itself in every program
basic_form : (program : Program) (b : Basic) → form_in program (ref.Basic b) ≡ BasicForm b
basic_form program b = by (number_of_types program)
  where
    by : (k : ℕ) → form_within (description program) k (ref.Basic b) ≡ BasicForm b
    by zero = refl
    by (suc k) = refl

two_steps : {B : Type 0} (r : Res Value) (f : M Value) (k : List Passed → M B) → bind (bind (bind r (λ v s. Gives (ByValue v) s)) (λ x s. bind (bind (bind (f s) (λ v s. Gives (ByValue v) s)) (λ y s. Gives (y ∷ []) s)) (λ xs s. Gives (x ∷ xs) s))) k ≡ bind r (λ v s. bind (f s) (λ u s. k (ByValue v ∷ ByValue u ∷ []) s))
two_steps (Stops y s) f k = refl
two_steps (Gives v s) f k = by (f s)
  where
    by : (q : Res Value) → bind (bind (bind (bind q (λ v s. Gives (ByValue v) s)) (λ y s. Gives (y ∷ []) s)) (λ xs s. Gives (ByValue v ∷ xs) s)) k ≡ bind q (λ u s. k (ByValue v ∷ ByValue u ∷ []) s)
    by (Gives u s) = refl
    by (Stops y s) = refl

one_step : {B : Type 0} (r : Res Value) (k : List Passed → M B) → bind (bind (bind r (λ v s. Gives (ByValue v) s)) (λ x s. Gives (x ∷ []) s)) k ≡ bind r (λ v s. k (ByValue v ∷ []) s)
one_step (Gives v s) k = refl
one_step (Stops y s) k = refl

padded_same : (z width : ℤ) → rows_of.padded z width ≡ padded z width
padded_same z (pos n) = refl
padded_same z (negsuc n) = refl

module _ (c : Setting) (a : Activation c) (n : ℕ) (call : Caller) (b : ℕ) where
  abbrev Kp : List AnObject → State → World → Type 0
  Kp os s w = Keeps c a n call b os s w

  pub inc_follows : (w : Width) (p : Place) (z d : ℤ) (at : Pos) (pc : ℕ) (ops : List ℤ) (os : List AnObject) (s : State) (m : World) → length ops ≤ 256 → code.HasAt (scope c a) pc (code.update_code (update.Inc w)) at → PlaceOf c.program (has_of c) c.img s.made (K c a) (integer w) p → value_at s.store p ≡ Integer z → Kp os s m →
      Follows c (go c a pc (d ∷ pos (address c.program c.img s.made (K c a) p) ∷ ops) m) (λ u s m. go c a (suc pc) ops m) (λ u s m. Kp os s m) (bind (computed (updated (update.Inc w) (Integer z) (Integer d)) (here_in c a n call b) at s) (λ v s. assign p v s))
  inc_follows w p z d at pc ops os s m le has k is st = by (is_in w (z +ℤ d)) refl
    where
      e : place_form c.program c.img s.made (K c a) p ≡ integer w
      e = sub_scalar _ _ k.1 (scalar_integer w)

      x : Spot c (K c a) s m st.all p
      x = spot c (K c a) s m st.all p (subst (λ u. Scalar u) (sym e) (scalar_integer w)) k.0

      load : word_at m.words (pos (address c.program c.img s.made (K c a) p)) ≡ Some z
      load = x.load ∙ ap (λ v. Some (word_of c.program (has_of c) c.img s.made v)) is

      by : (t : Bool) → is_in w (z +ℤ d) ≡ t → Follows c (go c a pc (d ∷ pos (address c.program c.img s.made (K c a) p) ∷ ops) m) (λ u s m. go c a (suc pc) ops m) (λ u s m. Kp os s m) (bind (computed (unless t trap.Overflow (Integer (z +ℤ d))) (here_in c a n call b) at s) (λ v s. assign p v s))
      by true f =
          let new = x.store (Integer (z +ℤ d)) (subst (λ u. Fine c.program (has_of c) s.made u (Integer (z +ℤ d))) (sym e) (is_integer c s.made w (Integer (z +ℤ d)) (z +ℤ d, f, refl))) in
          follows_value c (with_memory m new.0)
          (goes c a ops (with_memory m new.0) has.has (rows.inc_next c.img a.u a.m a.p (fb c a) pc m (bytes w) (pos (address c.program c.img s.made (K c a) p)) d z new.0 ops (is_width w) load (width_same w (z +ℤ d) ∙ f) new.1) le)
          (record { all = new.2; calls = st.calls; bound = st.bound; objects = st.objects })
      by false f = follows_stop c m (traps c a trap.Overflow (pos 0) m has (rows.inc_traps c.img a.u a.m a.p (fb c a) pc m (bytes w) (pos (address c.program c.img s.made (K c a) p)) d z ops (is_width w) load (width_same w (z +ℤ d) ∙ f))) (stands_any c st)

  pub inc_case : (w : Width) (d : Desig) (e : Expr) (at : Pos) → PlaceFollows c a n call b d → ExprFollows c a n call b e → StmtFollows c a n call b (Updated (update.Inc w) d e at)
  inc_case w d e at ih_d ih_e l exit pc k os s m le inside lies has ok st =
      let p1 = end_place c.program d pc in
      follows_bind c (ih_d pc k [] os s m (omega (arith, le)) has.0 ok.0 st) λ p s1 m1 k1.
      follows_bind c (ih_e longint p1 _ (pos (address c.program c.img s1.made (K c a) p) ∷ []) s1.made s1 m1 (omega (arith, le)) has.1.0 ok.1.0 (from_here c a n call b k1.1)) λ v s2 m2 k2.
      let same = address_same c s1.made s2.made k2.1.objects (K c a) p k1.0.0 in
      let kept = place_of_more c s1.made s2.made k2.1.objects (K c a) (code.form_of (scope c a) d) p k1.0 in
      let here_p : PlaceOf c.program (has_of c) c.img s2.made (K c a) (integer w) p = subst (λ u. PlaceOf c.program (has_of c) c.img s2.made (K c a) u p) ok.1.1 kept in
      let form = sub_scalar _ _ here_p.1 (scalar_integer w) in
      let old = integer_is c s2.made w (value_at s2.store p) (subst (λ u. Fine c.program (has_of c) s2.made u (value_at s2.store p)) form ((spot c (K c a) s2 m2 k2.1.all p (subst (λ u. Scalar u) (sym form) (scalar_integer w)) here_p.0).fine)) in
      let new = integer_is c s2.made width.LongInt v k2.0 in
      follows_bind c
      (subst (λ x. Follows c (go c a (end_expr c.program e p1) (word_of c.program (has_of c) c.img s2.made x ∷ pos (address c.program c.img s1.made (K c a) p) ∷ []) m2) (λ u s m. go c a (suc (end_expr c.program e p1)) [] m) (λ u s m. Kp os s m) (bind (computed (updated (update.Inc w) (value_at s2.store p) x) (here_in c a n call b) at s2) (λ v s. assign p v s))) (sym new.2)
      (subst (λ x. Follows c (go c a (end_expr c.program e p1) (new.0 ∷ pos (address c.program c.img s1.made (K c a) p) ∷ []) m2) (λ u s m. go c a (suc (end_expr c.program e p1)) [] m) (λ u s m. Kp os s m) (bind (computed (updated (update.Inc w) x (Integer new.0)) (here_in c a n call b) at s2) (λ v s. assign p v s))) (sym old.2)
      (subst (λ q. Follows c (go c a (end_expr c.program e p1) (new.0 ∷ pos q ∷ []) m2) (λ u s m. go c a (suc (end_expr c.program e p1)) [] m) (λ u s m. Kp os s m) (bind (computed (updated (update.Inc w) (Integer old.0) (Integer new.0)) (here_in c a n call b) at s2) (λ v s. assign p v s))) same
      (inc_follows w p old.0 new.0 at (end_expr c.program e p1) [] os s2 m2 (omega arith) has.1.1 here_p old.2 (since c a n call b k1.1.objects k2.1)))))
      λ u s3 m3 k3. follows_value c m3 (here c _) (tt, k3)

  dec_follows : (w : Width) (p : Place) (z d : ℤ) (at : Pos) (pc : ℕ) (ops : List ℤ) (os : List AnObject) (s : State) (m : World) → length ops ≤ 256 → code.HasAt (scope c a) pc (code.update_code (update.Dec w)) at → PlaceOf c.program (has_of c) c.img s.made (K c a) (integer w) p → value_at s.store p ≡ Integer z → Kp os s m →
      Follows c (go c a pc (d ∷ pos (address c.program c.img s.made (K c a) p) ∷ ops) m) (λ u s m. go c a (suc pc) ops m) (λ u s m. Kp os s m) (bind (computed (updated (update.Dec w) (Integer z) (Integer d)) (here_in c a n call b) at s) (λ v s. assign p v s))
  dec_follows w p z d at pc ops os s m le has k is st = by (is_in w (z -ℤ d)) refl
    where
      e : place_form c.program c.img s.made (K c a) p ≡ integer w
      e = sub_scalar _ _ k.1 (scalar_integer w)

      x : Spot c (K c a) s m st.all p
      x = spot c (K c a) s m st.all p (subst (λ u. Scalar u) (sym e) (scalar_integer w)) k.0

      load : word_at m.words (pos (address c.program c.img s.made (K c a) p)) ≡ Some z
      load = x.load ∙ ap (λ v. Some (word_of c.program (has_of c) c.img s.made v)) is

      by : (t : Bool) → is_in w (z -ℤ d) ≡ t → Follows c (go c a pc (d ∷ pos (address c.program c.img s.made (K c a) p) ∷ ops) m) (λ u s m. go c a (suc pc) ops m) (λ u s m. Kp os s m) (bind (computed (unless t trap.Overflow (Integer (z -ℤ d))) (here_in c a n call b) at s) (λ v s. assign p v s))
      by true f =
          let new = x.store (Integer (z -ℤ d)) (subst (λ u. Fine c.program (has_of c) s.made u (Integer (z -ℤ d))) (sym e) (is_integer c s.made w (Integer (z -ℤ d)) (z -ℤ d, f, refl))) in
          follows_value c (with_memory m new.0)
          (goes c a ops (with_memory m new.0) has.has (rows.dec_next c.img a.u a.m a.p (fb c a) pc m (bytes w) (pos (address c.program c.img s.made (K c a) p)) d z new.0 ops (is_width w) load (width_same w (z -ℤ d) ∙ f) new.1) le)
          (record { all = new.2; calls = st.calls; bound = st.bound; objects = st.objects })
      by false f = follows_stop c m (traps c a trap.Overflow (pos 0) m has (rows.dec_traps c.img a.u a.m a.p (fb c a) pc m (bytes w) (pos (address c.program c.img s.made (K c a) p)) d z ops (is_width w) load (width_same w (z -ℤ d) ∙ f))) (stands_any c st)

  pub dec_case : (w : Width) (d : Desig) (e : Expr) (at : Pos) → PlaceFollows c a n call b d → ExprFollows c a n call b e → StmtFollows c a n call b (Updated (update.Dec w) d e at)
  dec_case w d e at ih_d ih_e l exit pc k os s m le inside lies has ok st =
      let p1 = end_place c.program d pc in
      follows_bind c (ih_d pc k [] os s m (omega (arith, le)) has.0 ok.0 st) λ p s1 m1 k1.
      follows_bind c (ih_e longint p1 _ (pos (address c.program c.img s1.made (K c a) p) ∷ []) s1.made s1 m1 (omega (arith, le)) has.1.0 ok.1.0 (from_here c a n call b k1.1)) λ v s2 m2 k2.
      let same = address_same c s1.made s2.made k2.1.objects (K c a) p k1.0.0 in
      let kept = place_of_more c s1.made s2.made k2.1.objects (K c a) (code.form_of (scope c a) d) p k1.0 in
      let here_p : PlaceOf c.program (has_of c) c.img s2.made (K c a) (integer w) p = subst (λ u. PlaceOf c.program (has_of c) c.img s2.made (K c a) u p) ok.1.1 kept in
      let form = sub_scalar _ _ here_p.1 (scalar_integer w) in
      let old = integer_is c s2.made w (value_at s2.store p) (subst (λ u. Fine c.program (has_of c) s2.made u (value_at s2.store p)) form ((spot c (K c a) s2 m2 k2.1.all p (subst (λ u. Scalar u) (sym form) (scalar_integer w)) here_p.0).fine)) in
      let new = integer_is c s2.made width.LongInt v k2.0 in
      follows_bind c
      (subst (λ x. Follows c (go c a (end_expr c.program e p1) (word_of c.program (has_of c) c.img s2.made x ∷ pos (address c.program c.img s1.made (K c a) p) ∷ []) m2) (λ u s m. go c a (suc (end_expr c.program e p1)) [] m) (λ u s m. Kp os s m) (bind (computed (updated (update.Dec w) (value_at s2.store p) x) (here_in c a n call b) at s2) (λ v s. assign p v s))) (sym new.2)
      (subst (λ x. Follows c (go c a (end_expr c.program e p1) (new.0 ∷ pos (address c.program c.img s1.made (K c a) p) ∷ []) m2) (λ u s m. go c a (suc (end_expr c.program e p1)) [] m) (λ u s m. Kp os s m) (bind (computed (updated (update.Dec w) x (Integer new.0)) (here_in c a n call b) at s2) (λ v s. assign p v s))) (sym old.2)
      (subst (λ q. Follows c (go c a (end_expr c.program e p1) (new.0 ∷ pos q ∷ []) m2) (λ u s m. go c a (suc (end_expr c.program e p1)) [] m) (λ u s m. Kp os s m) (bind (computed (updated (update.Dec w) (Integer old.0) (Integer new.0)) (here_in c a n call b) at s2) (λ v s. assign p v s))) same
      (dec_follows w p old.0 new.0 at (end_expr c.program e p1) [] os s2 m2 (omega arith) has.1.1 here_p old.2 (since c a n call b k1.1.objects k2.1)))))
      λ u s3 m3 k3. follows_value c m3 (here c _) (tt, k3)

  -- OUTPUT

  abbrev OutTo : ℕ → List ℤ → Unit {0} → State → World → Point
  OutTo pc ops u s m = go c a pc ops m

  -- a text is written for a turn
  out_follows : (text : List ℕ) (i : Instr) (at : Pos) (pc : ℕ) (ops0 ops : List ℤ) (os : List AnObject) (s : State) (m : World) → length ops ≤ 256 → code.HasAt (scope c a) pc i at → effect c a pc ops0 m i ≡ turn_or m.turns m (λ v. Next ops (printed v text)) → Kp os s m →
      Follows c (go c a pc ops0 m) (OutTo (suc pc) ops) (λ u s m. Kp os s m) (spend_of s.turns a.unit at (λ s. write text s) s)
  out_follows text i at pc ops0 ops os s m le has is st = by s.turns refl
    where
      by : (t : ℕ) → s.turns ≡ t → Follows c (go c a pc ops0 m) (OutTo (suc pc) ops) (λ u s m. Kp os s m) (spend_of t a.unit at (λ s. write text s) s)
      by zero e = follows_stop c m (spends c a m has (is ∙ ap (λ t. turn_or t m (λ v. Next ops (printed v text))) (st.all.turns ∙ e))) (stands_any c st)
      by (suc t) e =
          let m2 = printed (record m { turns = t }) text in
          let all = st.all in
          follows_value c m2 (goes c a ops m2 has.has (is ∙ ap (λ t. turn_or t m (λ v. Next ops (printed v text))) (all.turns ∙ e)) le)
          (record {
            all = record { stack_free = all.stack_free; heap_free = all.heap_free; words = all.words; globals_size = all.globals_size; stack_size = all.stack_size; heap_size = all.heap_size; stack = all.stack; heap_next = all.heap_next; turns = refl; out = ap (λ o. o ++ text) all.out; modules_fine = all.modules_fine; calls_fine = all.calls_fine; objects_fine = all.objects_fine };
            calls = st.calls;
            bound = omega (arith, st.bound, e);
            objects = st.objects;
          })

  -- the call and its end
  out_ends : (text : List ℕ) (l : Bool) (exit : ℕ) (i : Instr) (at : Pos) (pc : ℕ) (ops0 : List ℤ) (os : List AnObject) (s : State) (m : World) → code.HasAt (scope c a) pc i at → effect c a pc ops0 m i ≡ turn_or m.turns m (λ v. Next [] (printed v text)) → Kp os s m →
      Follows c (go c a pc ops0 m) (FlowTo c a n call b (suc pc) exit) (FlowKept c a n call b l os) (bind (bind (bind (spend_of s.turns a.unit at (λ s. write text s) s) (λ x s. Gives None s)) (λ v s. Gives (result_of v) s)) (λ v s. Gives Done s))
  out_ends text l exit i at pc ops0 os s m has is st =
      follows_bind c {to = λ v s m. go c a (suc pc) [] m} {Keep = λ v s m. Kp os s m}
      (follows_bind c {to = λ v s m. go c a (suc pc) [] m} {Keep = λ v s m. Kp os s m}
      (follows_bind c (out_follows text i at pc ops0 [] os s m (omega arith) has is st) λ u s1 m1 k1. follows_value c m1 (here c _) k1)
      λ v s2 m2 k2. follows_value c m2 (here c _) k2)
      λ v s3 m3 k3. follows_value c m3 (here c _) (tt, k3)

  pub ln_case : (at : Pos) (r : Option TypeRef) → StmtFollows c a n call b (CallProper (Call (callee.Out out.Ln) NoActual at r))
  ln_case at r l exit pc k os s m le inside lies has ok st = out_ends (10 ∷ []) l exit (code.with_a op.Out 4) at pc [] os s m has.1 refl st

  pub char_case : (e : Expr) (at : Pos) (r : Option TypeRef) → ExprFollows c a n call b e → need_expr e ≤ need_passed e passing.Scalar → StmtFollows c a n call b (CallProper (Call (callee.Out out.Char) (AnActual passing.Scalar (ref.Basic basic.Char) e NoActual) at r))
  char_case e at r ih needs l exit pc k os s m le inside lies has ok st =
      let p1 = end_expr c.program e pc in
      let rest : List Passed → M Value = λ xs s. bind (call_out out.Char xs (here_in c a n call b) at s) (λ v s. Gives (result_of v) s) in
      subst (λ q. Follows c (go c a pc [] m) (FlowTo c a n call b (suc p1) exit) (FlowKept c a n call b l os) (bind q (λ v s. Gives Done s))) (sym (one_step (value e (here_in c a n call b) s) rest))
      (assoc (value e (here_in c a n call b) s) (λ v s. rest (ByValue v ∷ []) s) p1
      (follows_bind c (ih char pc k [] os s m (omega (arith, le, needs)) has.0.0 (subst (λ t. typed.ExprOk c.program (has_of c) a.unit (static_held c.program a.procedure) a.procedure.result e t) (basic_form c.program basic.Char) ok.0.1.0) st) λ v s1 m1 k1.
      subst (λ v. Follows c (go c a p1 (word_of c.program (has_of c) c.img s1.made v ∷ []) m1) (FlowTo c a n call b (suc p1) exit) (FlowKept c a n call b l os) (bind (rest (ByValue v ∷ []) s1) (λ v s. Gives Done s))) (sym k1.0.2)
      (out_ends (k1.0.0 ∷ []) l exit (code.with_a op.Out 1) at p1 (pos k1.0.0 ∷ []) os s1 m1 has.1 (ap (λ z. turn_or m1.turns m1 (λ v. Next [] (printed v (z ∷ [])))) (mod-eq_of_lt k1.0.1)) k1.1)))
    where
      assoc : (q : Res Value) (f : Value → M Value) (p1 : ℕ) → Follows c (go c a pc [] m) (FlowTo c a n call b (suc p1) exit) (FlowKept c a n call b l os) (bind q (λ v s. bind (f v s) (λ v s. Gives Done s))) → Follows c (go c a pc [] m) (FlowTo c a n call b (suc p1) exit) (FlowKept c a n call b l os) (bind (bind q f) (λ v s. Gives Done s))
      assoc (Gives v s) f p1 h = h
      assoc (Stops y s) f p1 h = h

  pub int_case : (e f : Expr) (at : Pos) (r : Option TypeRef) → ExprFollows c a n call b e → ExprFollows c a n call b f → need_expr e ≤ need_passed e passing.Scalar → need_expr f ≤ need_passed f passing.Scalar → StmtFollows c a n call b (CallProper (Call (callee.Out out.Int) (AnActual passing.Scalar (ref.Basic basic.LongInt) e (AnActual passing.Scalar (ref.Basic basic.LongInt) f NoActual)) at r))
  int_case e f at r ih_e ih_f needs needs2 l exit pc k os s m le inside lies has ok st =
      let p1 = end_expr c.program e pc in
      let p2 = end_expr c.program f p1 in
      let rest : List Passed → M Value = λ xs s. bind (call_out out.Int xs (here_in c a n call b) at s) (λ v s. Gives (result_of v) s) in
      let same = basic_form c.program basic.LongInt in
      subst (λ q. Follows c (go c a pc [] m) (FlowTo c a n call b (suc p2) exit) (FlowKept c a n call b l os) (bind q (λ v s. Gives Done s))) (sym (two_steps (value e (here_in c a n call b) s) (value f (here_in c a n call b)) rest))
      (assoc (value e (here_in c a n call b) s) (value f (here_in c a n call b)) (λ v u s. rest (ByValue v ∷ ByValue u ∷ []) s) p2
      (follows_bind c (ih_e longint pc k [] os s m (omega (arith, le, needs)) has.0.0 (subst (λ t. typed.ExprOk c.program (has_of c) a.unit (static_held c.program a.procedure) a.procedure.result e t) same ok.0.1.0) st) λ v s1 m1 k1.
      follows_bind c (ih_f longint p1 _ (word_of c.program (has_of c) c.img s1.made v ∷ []) s1.made s1 m1 (omega (arith, le, needs2)) has.0.1.0 (subst (λ t. typed.ExprOk c.program (has_of c) a.unit (static_held c.program a.procedure) a.procedure.result f t) same ok.0.1.1.0) (from_here c a n call b k1.1)) λ u s2 m2 k2.
      let x = k1.0 in
      let y = k2.0 in
      subst (λ v. Follows c (go c a p2 (word_of c.program (has_of c) c.img s2.made u ∷ word_of c.program (has_of c) c.img s1.made v ∷ []) m2) (FlowTo c a n call b (suc p2) exit) (FlowKept c a n call b l os) (bind (rest (ByValue v ∷ ByValue u ∷ []) s2) (λ v s. Gives Done s))) (sym x.2)
      (subst (λ u. Follows c (go c a p2 (word_of c.program (has_of c) c.img s2.made u ∷ x.0 ∷ []) m2) (FlowTo c a n call b (suc p2) exit) (FlowKept c a n call b l os) (bind (rest (ByValue (Integer x.0) ∷ ByValue u ∷ []) s2) (λ v s. Gives Done s))) (sym y.2)
      (out_ends (padded x.0 y.0) l exit (code.with_a op.Out 3) at p2 (y.0 ∷ x.0 ∷ []) os s2 m2 has.1 (ap (λ z. turn_or m2.turns m2 (λ v. Next [] (printed v z))) (padded_same x.0 y.0)) (since c a n call b k1.1.objects k2.1)))))
    where
      assoc : (q : Res Value) (g : M Value) (f : Value → Value → M Value) (p : ℕ) → Follows c (go c a pc [] m) (FlowTo c a n call b (suc p) exit) (FlowKept c a n call b l os) (bind q (λ v s. bind (g s) (λ u s. bind (f v u s) (λ v s. Gives Done s)))) → Follows c (go c a pc [] m) (FlowTo c a n call b (suc p) exit) (FlowKept c a n call b l os) (bind (bind q (λ v s. bind (g s) (λ u s. f v u s))) (λ v s. Gives Done s))
      assoc (Stops y s) g f p h = h
      assoc (Gives v s) g f p h = by (g s) h
        where
          by : (r : Res Value) → Follows c (go c a pc [] m) (FlowTo c a n call b (suc p) exit) (FlowKept c a n call b l os) (bind r (λ u s. bind (f v u s) (λ v s. Gives Done s))) → Follows c (go c a pc [] m) (FlowTo c a n call b (suc p) exit) (FlowKept c a n call b l os) (bind (bind r (λ u s. f v u s)) (λ v s. Gives Done s))
          by (Gives u s) h = h
          by (Stops y s) h = h
