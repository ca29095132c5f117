-- NIL, objects and procedures are the same where their words are.
use Rattle.std.proofs.Common.{◌≡◌, ℕ, suc, ◌+◌, ◌≤◌, ◌<◌, List, [], ◌∷◌, length, Some, refl, sym, ap, ◌∙◌, subst, arith, ⊎_elim}
use Rattle.std.proofs.lemmas.Bool.{eqb-true}
use Rattle.std.proofs.lemmas.Bool.Decides.{nat_tests, same_from_decides, Decides-int_eq}
use Rattle.std.specs.Prelude.{◌*◌, pos, Bool, true, false, nat_eq, bytes_eq, if◌then◌else◌}
use Rattle.std.specs.Ordering.{int_eq}
use Rattle.ob_tree.specs.declared.names.QName.{QName}
use Rattle.ob_tree.specs.declared.proc_ref.ProcRef.{ProcRef}
use Rattle.ob_types.specs.declared.types.TypeRef.{TypeRef}
use Rattle.ob_types.specs.TypedSyntax.{Procedure}
use Rattle.ob_instr.specs.Rows.{proc_value}
use Rattle.ob_meaning.specs.Values.{same_name, Program, procedure_of, procedure_named, PointerForm, ProcedureForm, Value, Nil, Object, ProcedureAt, AnObject, Whole, Opened, Formals}
use Rattle.ob_meaning.specs.Operators.{is_same}
use Rattle.ob_meaning.specs.Meaning.{cost_of, costs_of}
use Rattle.law_simulation_relation.specs.Layout.{module_number, procedure_number, procedure_index, procedures_in, extra_words, object_offset, heap_start}
use Rattle.law_simulation_relation.specs.Relation.{Fine, word_of, number_of}
use Rattle.law_simulation_relation.proofs.Names.{bytes_true, name_true, name_same}
use Rattle.law_simulation_relation.proofs.Values.{nat_equal}
use Rattle.law_simulation_relation.specs.Setting.{Setting, has_of}
use Rattle.law_simulation_operators.specs.Procedures.{IsNumbered, ValuesNumbered}

-- OBJECTS: each has its own first word

cost_up : (x : AnObject) → extra_words x ≤ cost_of x
cost_up (Whole t) = omega arith
cost_up (Opened n t) = omega arith

object_below : (xs : List AnObject) (n : ℕ) → n < length xs → object_offset xs n ≤ costs_of xs
object_below [] n lt = absurd (omega (arith, lt))
object_below (x ∷ xs) n lt = by (nat_eq n (length xs)) refl (λ h. object_below xs n h)
  where
    by : (b : Bool) → nat_eq n (length xs) ≡ b → (n < length xs → object_offset xs n ≤ costs_of xs) → (if b then costs_of xs + extra_words x else object_offset xs n) ≤ cost_of x + costs_of xs
    by true e below = omega (arith, cost_up x)
    by false e below = let h : n < length xs = grind (arith, nat_tests) in omega (arith, below h)

extra_up : (x : AnObject) → 0 < extra_words x
extra_up (Whole t) = omega arith
extra_up (Opened n t) = omega arith

objects_apart : (xs : List AnObject) (m n : ℕ) → m < length xs → n < length xs → object_offset xs m ≡ object_offset xs n → m ≡ n
objects_apart [] m n lt lt2 e = absurd (omega (arith, lt))
objects_apart (x ∷ xs) m n lt lt2 e = by (nat_eq m (length xs)) (nat_eq n (length xs)) refl refl e (λ h h2 e. objects_apart xs m n h h2 e)
  where
    by : (a b : Bool) → nat_eq m (length xs) ≡ a → nat_eq n (length xs) ≡ b → (if a then costs_of xs + extra_words x else object_offset xs m) ≡ (if b then costs_of xs + extra_words x else object_offset xs n) → (m < length xs → n < length xs → object_offset xs m ≡ object_offset xs n → m ≡ n) → m ≡ n
    by true true f g e below = eqb-true m (length xs) f ∙ sym (eqb-true n (length xs) g)
    by true false f g e below = let h : n < length xs = grind (arith, nat_tests) in absurd (omega (arith, e, extra_up x, object_below xs n h))
    by false true f g e below = let h : m < length xs = grind (arith, nat_tests) in absurd (omega (arith, e, extra_up x, object_below xs m h))
    by false false f g e below = below (grind (arith, nat_tests)) (grind (arith, nat_tests)) e

-- PROCEDURES: each has its own number

modules_apart : (program : Program) (p q : QName) (x y : Procedure) → procedure_of program p ≡ Some x → procedure_of program q ≡ Some y → module_number program p.module ≡ module_number program q.module → p.module ≡ q.module
modules_apart [] p q x y f g e = absurd (cc)
modules_apart (m ∷ ms) p q x y f g e = by (bytes_eq p.module m.name) (bytes_eq q.module m.name) refl refl f g e (λ f g e. modules_apart ms p q x y f g e)
  where
    by : (a b : Bool) → bytes_eq p.module m.name ≡ a → bytes_eq q.module m.name ≡ b → (if a then procedure_named m.procedures p.object else procedure_of ms p) ≡ Some x → (if b then procedure_named m.procedures q.object else procedure_of ms q) ≡ Some y → (if a then 0 else suc (module_number ms p.module)) ≡ (if b then 0 else suc (module_number ms q.module)) → (procedure_of ms p ≡ Some x → procedure_of ms q ≡ Some y → module_number ms p.module ≡ module_number ms q.module → p.module ≡ q.module) → p.module ≡ q.module
    by true true h k f g e below = bytes_true p.module m.name h ∙ sym (bytes_true q.module m.name k)
    by true false h k f g e below = absurd (omega (arith, e))
    by false true h k f g e below = absurd (omega (arith, e))
    by false false h k f g e below = below f g (omega (arith, e))

procedures_apart : (ps : List Procedure) (a b : List ℕ) (x y : Procedure) → procedure_named ps a ≡ Some x → procedure_named ps b ≡ Some y → procedure_number ps a ≡ procedure_number ps b → a ≡ b
procedures_apart [] a b x y f g e = absurd (cc)
procedures_apart (p ∷ ps) a b x y f g e = by (bytes_eq a p.name) (bytes_eq b p.name) refl refl f g e (λ f g e. procedures_apart ps a b x y f g e)
  where
    by : (s t : Bool) → bytes_eq a p.name ≡ s → bytes_eq b p.name ≡ t → (if s then Some p else procedure_named ps a) ≡ Some x → (if t then Some p else procedure_named ps b) ≡ Some y → (if s then 0 else suc (procedure_number ps a)) ≡ (if t then 0 else suc (procedure_number ps b)) → (procedure_named ps a ≡ Some x → procedure_named ps b ≡ Some y → procedure_number ps a ≡ procedure_number ps b → a ≡ b) → a ≡ b
    by true true h k f g e below = bytes_true a p.name h ∙ sym (bytes_true b p.name k)
    by true false h k f g e below = absurd (omega (arith, e))
    by false true h k f g e below = absurd (omega (arith, e))
    by false false h k f g e below = below f g (omega (arith, e))

indexes_apart : (ps : List Procedure) (a b : List ℕ) (x y : Procedure) → procedure_named ps a ≡ Some x → procedure_named ps b ≡ Some y → procedure_index ps a ≡ procedure_index ps b → a ≡ b
indexes_apart ps [] [] x y f g e = refl
indexes_apart ps [] (k ∷ b) x y f g e = absurd (omega (arith, e))
indexes_apart ps (k ∷ a) [] x y f g e = absurd (omega (arith, e))
indexes_apart ps (j ∷ a) (k ∷ b) x y f g e = procedures_apart ps (j ∷ a) (k ∷ b) x y f g (omega (arith, e))

found_in : (program : Program) (q : QName) (x : Procedure) → procedure_of program q ≡ Some x → procedure_named (procedures_in program q.module) q.object ≡ Some x
found_in [] q x e = absurd (cc)
found_in (m ∷ ms) q x e = by (bytes_eq q.module m.name) e (λ e. found_in ms q x e)
  where
    by : (b : Bool) → (if b then procedure_named m.procedures q.object else procedure_of ms q) ≡ Some x → (procedure_of ms q ≡ Some x → procedure_named (procedures_in ms q.module) q.object ≡ Some x) → procedure_named (if b then m.procedures else procedures_in ms q.module) q.object ≡ Some x
    by true e below = e
    by false e below = below e

-- an address and a procedure's value are not 0
above_zero : (m : ℕ) → 0 < m → int_eq (pos 0) (pos m) ≡ false
above_zero m up = nat_equal 0 m ∙ (let e : nat_eq 0 m ≡ false = grind (arith, nat_tests) in e)

zero_below : (m : ℕ) → 0 < m → int_eq (pos m) (pos 0) ≡ false
zero_below m up = nat_equal m 0 ∙ (let e : nat_eq m 0 ≡ false = grind (arith, nat_tests) in e)

module _ (c : Setting) (os : List AnObject) where
  abbrev F : Value → Value → Type 0
  F x y = int_eq (word_of c.program (has_of c) c.img os x) (word_of c.program (has_of c) c.img os y) ≡ is_same x y

  at_both : (x y x2 y2 : Value) → x ≡ x2 → y ≡ y2 → F x2 y2 → F x y
  at_both x y x2 y2 e f h = subst (λ x. F x y) (sym e) (subst (λ y. F x2 y) (sym f) h)

  nil_nil : F Nil Nil
  nil_nil = refl

  nil_object : (n : ℕ) → F Nil (Object n)
  nil_object n = above_zero (heap_start c.program c.img + object_offset os n) (omega arith)

  object_nil : (n : ℕ) → F (Object n) Nil
  object_nil n = zero_below (heap_start c.program c.img + object_offset os n) (omega arith)

  abbrev num : QName → ProcRef
  num q = number_of c.program (has_of c) c.img q

  nil_procedure : (q : QName) → F Nil (ProcedureAt q)
  nil_procedure q = above_zero (1 + (65536 * (num q).module + (num q).proc)) (omega arith)

  procedure_nil : (q : QName) → F (ProcedureAt q) Nil
  procedure_nil q = zero_below (1 + (65536 * (num q).module + (num q).proc)) (omega arith)

  objects_same : (m n : ℕ) → m < length os → n < length os → F (Object m) (Object n)
  objects_same m n lt lt2 = same_from_decides _ _ (Decides-int_eq _ _) ((λ e. ap (λ k. pos (heap_start c.program c.img + object_offset os k)) (eqb-true m n e)), (λ e. eq_nat (objects_apart os m n lt lt2 (tail_same e))))
    where
      tail_same : pos (heap_start c.program c.img + object_offset os m) ≡ pos (heap_start c.program c.img + object_offset os n) → object_offset os m ≡ object_offset os n
      tail_same e = let h : heap_start c.program c.img + object_offset os m ≡ heap_start c.program c.img + object_offset os n = cc in omega (arith, h)

      eq_nat : m ≡ n → nat_eq m n ≡ true
      eq_nat e = grind (arith, nat_tests)

  pub pointers_same : (t u : TypeRef) (x y : Value) → Fine c.program (has_of c) os (PointerForm t) x → Fine c.program (has_of c) os (PointerForm u) y → F x y
  pointers_same t u x y h k = ⊎_elim
      (λ e. ⊎_elim (λ f. at_both x y Nil Nil e f nil_nil) (λ f. at_both x y Nil (Object f.0) e f.1 (nil_object f.0)) k)
      (λ e. ⊎_elim (λ f. at_both x y (Object e.0) Nil e.1 f (object_nil e.0)) (λ f. at_both x y (Object e.0) (Object f.0) e.1 f.1 (objects_same e.0 f.0 e.2 f.2)) k) h

  numbers_same : (p q : QName) → IsNumbered c p → IsNumbered c q → F (ProcedureAt p) (ProcedureAt q)
  numbers_same p q np nq = same_from_decides _ _ (Decides-int_eq _ _) ((λ e. ap (λ q. proc_value (num q)) (name_true p q e)), (λ e. by e))
    where
      by : proc_value (num p) ≡ proc_value (num q) → same_name p q ≡ true
      by e =
          let h : 1 + (65536 * (num p).module + (num p).proc) ≡ 1 + (65536 * (num q).module + (num q).proc) = cc in
          let modules : (num p).module ≡ (num q).module = omega (arith, h, np.below, nq.below) in
          let procs : (num p).proc ≡ (num q).proc = omega (arith, h, modules) in
          let same_module : p.module ≡ q.module = modules_apart c.program p q np.p nq.p np.is nq.is modules in
          let object_same : p.object ≡ q.object = indexes_apart (procedures_in c.program p.module) p.object q.object np.p nq.p (found_in c.program p np.p np.is) (subst (λ m. procedure_named (procedures_in c.program m) q.object ≡ Some nq.p) (sym same_module) (found_in c.program q nq.p nq.is)) (procs ∙ ap (λ m. procedure_index (procedures_in c.program m) q.object) (sym same_module)) in
          let same : p ≡ q = ap (λ (x : List ℕ). record { «module» = p.module; object = x }) object_same ∙ ap (λ (x : List ℕ). record { «module» = x; object = q.object }) same_module in
          subst (λ q. same_name p q ≡ true) same (name_same p)

  pub procedures_same : (numbered : ValuesNumbered c) (fs gs : Formals) (x y : Value) → Fine c.program (has_of c) os (ProcedureForm fs) x → Fine c.program (has_of c) os (ProcedureForm gs) y → F x y
  procedures_same numbered fs gs x y h k = ⊎_elim
      (λ e. ⊎_elim (λ f. at_both x y Nil Nil e f nil_nil) (λ f. at_both x y Nil (ProcedureAt f.0) e f.1 (nil_procedure f.0)) k)
      (λ e. ⊎_elim (λ f. at_both x y (ProcedureAt e.0) Nil e.1 f (procedure_nil e.0)) (λ f. at_both x y (ProcedureAt e.0) (ProcedureAt f.0) e.1 f.1 (numbers_same e.0 f.0 (numbered fs e.0 e.2) (numbered gs f.0 f.2))) k) h
