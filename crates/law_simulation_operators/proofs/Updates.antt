-- The code of INCL and EXCL follows their meaning.
use Rattle.std.proofs.Common.{◌≡◌, ℕ, suc, ◌≤◌, ◌<◌, List, [], ◌∷◌, length, Some, None, ℤ, refl, sym, ap, ◌∙◌, subst, arith}
use Rattle.std.proofs.lemmas.Bool.Decides.{nat_tests}
use Rattle.std.specs.Prelude.{pos, negsuc, Bool, true, false, nat_lt, nat_eq, not, ◌&&◌, ◌||◌, if◌then◌else◌}
use Rattle.std.specs.Int.{w32, int_bit_and, int_bit_or, int_bit_not}
use Rattle.ob_trap.specs.declared.trap.Trap.TheVariants as trap
use Rattle.ob_tree.specs.declared.pos.Pos.{Pos}
use Rattle.ob_types.specs.declared.typed.Update.{Update}
use Rattle.ob_types.specs.declared.typed.Update.TheVariants as update
use Rattle.ob_types.specs.TypedSyntax.{Desig, Expr, Updated}
use Rattle.ob_mem.specs.Words.{word_at, stored}
use Rattle.ob_instr.specs.Image.{World}
use Rattle.ob_instr.specs.Rows as rows_of
use Rattle.ob_instr.specs.Rows.{Effect, Next, on_found, on_element, set_from, with_memory}
use Rattle.ob_meaning.specs.Values.{Integer, SetOf, Place, value_at, AnObject, State}
use Rattle.ob_meaning.specs.Results.{bind, assign, Caller}
use Rattle.ob_types.specs.Numbers.{element_in}
use Rattle.ob_meaning.specs.Operators.{updated, with_element_in}
use Rattle.ob_meaning.specs.Meaning.{computed, exec}
use Rattle.law_simulation_relation.specs.Layout.{address, place_form}
use Rattle.law_simulation_relation.specs.Relation.{Fine, Scalar, PlaceOf, word_of, set_word, IsSet}
use Rattle.law_simulation_relation.specs.Need.{need_stmt}
use Rattle.law_simulation_relation.specs.Ends.{end_place, end_expr}
use Rattle.law_simulation_relation.specs.Stands as code
use Rattle.law_simulation_relation.specs.Typed.{set, longint}
use Rattle.law_simulation_relation.proofs.Steps.{here, Follows, follows_bind, follows_value, follows_stop, stands_any}
use Rattle.law_simulation_relation.proofs.Statements.{Activation, scope, go, K, here_in, Keeps, DesigOk, ExprOk, PlaceFollows, ExprFollows, StmtFollows, FlowTo, FlowKept}
use Rattle.law_simulation_relation.proofs.Grow.{address_same, place_of_more}
use Rattle.law_simulation_relation.proofs.Located.{Spot, spot}
use Rattle.law_simulation_relation.proofs.Moves.{goes, traps, effect}
use Rattle.law_simulation_relation.proofs.Values.{sub_scalar}
use Rattle.law_simulation_relation.proofs.Exprs.{from_here, since}
use Rattle.law_simulation_relation.specs.Setting.{Setting, has_of}
use Rattle.law_simulation_operators.proofs.Sets.{with_one, without_one}

module _ (c : Setting) (a : Activation c) (n : ℕ) (call : Caller) (b : ℕ) where
  abbrev Kp : List AnObject → State → World → Type 0
  Kp os s w = Keeps c a n call b os s w

  -- an instruction that changes a set by an element, and what it makes of the set
  module _ (o : Update) (word : ℤ → ℕ → ℤ) (new : (ℕ → Bool) → ℕ → ℕ → Bool)
      (row : (x z : ℤ) (pc : ℕ) (ops : List ℤ) (m : World) → effect c a pc (z ∷ x ∷ ops) m (code.update_code o) ≡ on_found (word_at m.words x) (λ s. on_element z m (λ i. on_found (stored m.words x (word s i)) (λ l. Next ops (with_memory m l)))))
      (same : (f : ℕ → Bool) (i : ℕ) → i < 32 → word (set_word f) i ≡ set_word (new f i))
      (means : (f : ℕ → Bool) (z : ℤ) → updated o (SetOf f) (Integer z) ≡ with_element_in (element_in z) (λ i. SetOf (new f i))) where
    update_follows : (p : Place) (f : ℕ → Bool) (z : ℤ) (at : Pos) (pc : ℕ) (ops : List ℤ) (os : List AnObject) (s : State) (m : World) → length ops ≤ 256 → code.HasAt (scope c a) pc (code.update_code o) at → PlaceOf c.program (has_of c) c.img s.made (K c a) set p → value_at s.store p ≡ SetOf f → Kp os s m →
        Follows c (go c a pc (z ∷ pos (address c.program c.img s.made (K c a) p) ∷ ops) m) (λ u s m. go c a (suc pc) ops m) (λ u s m. Kp os s m) (bind (computed (with_element_in (element_in z) (λ i. SetOf (new f i))) (here_in c a n call b) at s) (λ v s. assign p v s))
    update_follows p f z at pc ops os s m le has k is st = by z (full z)
      where
        e : place_form c.program c.img s.made (K c a) p ≡ set
        e = sub_scalar _ _ k.1 tt

        x : Spot c (K c a) s m st.all p
        x = spot c (K c a) s m st.all p (subst (λ u. Scalar u) (sym e) tt) k.0

        q : ℤ
        q = pos (address c.program c.img s.made (K c a) p)

        load : word_at m.words q ≡ Some (set_word f)
        load = x.load ∙ ap (λ v. Some (word_of c.program (has_of c) c.img s.made v)) is

        change : ℕ → Effect
        change i = on_found (stored m.words q (word (set_word f) i)) (λ l. Next ops (with_memory m l))

        full : (z : ℤ) → effect c a pc (z ∷ q ∷ ops) m (code.update_code o) ≡ on_element z m change
        full z = row q z pc ops m ∙ ap (λ t. on_found t (λ s. on_element z m (λ i. on_found (stored m.words q (word s i)) (λ l. Next ops (with_memory m l))))) load

        stops : (z : ℤ) → effect c a pc (z ∷ q ∷ ops) m (code.update_code o) ≡ rows_of.Traps trap.NoElement (pos 0) m → Follows c (go c a pc (z ∷ q ∷ ops) m) (λ u s m. go c a (suc pc) ops m) (λ u s m. Kp os s m) (bind (computed (with_element_in None (λ i. SetOf (new f i))) (here_in c a n call b) at s) (λ v s. assign p v s))
        stops z h = follows_stop c m (traps c a trap.NoElement (pos 0) m has h) (stands_any c st)

        by : (z : ℤ) → effect c a pc (z ∷ q ∷ ops) m (code.update_code o) ≡ on_element z m change → Follows c (go c a pc (z ∷ q ∷ ops) m) (λ u s m. go c a (suc pc) ops m) (λ u s m. Kp os s m) (bind (computed (with_element_in (element_in z) (λ i. SetOf (new f i))) (here_in c a n call b) at s) (λ v s. assign p v s))
        by (negsuc i) h = stops (negsuc i) h
        by (pos i) h = inside (nat_lt i 32) refl
          where
            inside : (t : Bool) → nat_lt i 32 ≡ t → Follows c (go c a pc (pos i ∷ q ∷ ops) m) (λ u s m. go c a (suc pc) ops m) (λ u s m. Kp os s m) (bind (computed (with_element_in (if nat_lt i 32 then Some i else None) (λ i. SetOf (new f i))) (here_in c a n call b) at s) (λ v s. assign p v s))
            inside t g = subst (λ t. Follows c (go c a pc (pos i ∷ q ∷ ops) m) (λ u s m. go c a (suc pc) ops m) (λ u s m. Kp os s m) (bind (computed (with_element_in (if t then Some i else None) (λ i. SetOf (new f i))) (here_in c a n call b) at s) (λ v s. assign p v s))) (sym g) (at_last t g)
              where
                at_last : (t : Bool) → nat_lt i 32 ≡ t → Follows c (go c a pc (pos i ∷ q ∷ ops) m) (λ u s m. go c a (suc pc) ops m) (λ u s m. Kp os s m) (bind (computed (with_element_in (if t then Some i else None) (λ i. SetOf (new f i))) (here_in c a n call b) at s) (λ v s. assign p v s))
                at_last false g = stops (pos i) (h ∙ ap (λ t. if t then change i else rows_of.Traps trap.NoElement (pos 0) m) g)
                at_last true g =
                    let v = SetOf (new f i) in
                    let put = x.store v (subst (λ u. Fine c.program (has_of c) s.made u v) (sym e) (new f i, refl)) in
                    let lt : i < 32 = grind (arith, nat_tests) in
                    let is_stored : stored m.words q (word (set_word f) i) ≡ Some put.0 = ap (stored m.words q) (same f i lt) ∙ put.1 in
                    follows_value c (with_memory m put.0)
                    (goes c a ops (with_memory m put.0) has.has (h ∙ ap (λ t. if t then change i else rows_of.Traps trap.NoElement (pos 0) m) g ∙ ap (λ t. on_found t (λ l. Next ops (with_memory m l))) is_stored) le)
                    (record { all = put.2; calls = st.calls; bound = st.bound; objects = st.objects })

    update_case : (d : Desig) (e : Expr) (at : Pos) → PlaceFollows c a n call b d → ExprFollows c a n call b e → (l : Bool) (exit pc k : ℕ) (os : List AnObject) (s : State) (m : World) → need_stmt (Updated o d e at) ≤ 256 → code.StmtCode (scope c a) (Updated o d e at) exit pc k → DesigOk c a n call b d → ExprOk c a n call b e longint → code.form_of (scope c a) d ≡ set → Kp os s m →
        Follows c (go c a pc [] m) (FlowTo c a n call b (suc (end_expr c.program e (end_place c.program d pc))) exit) (FlowKept c a n call b l os) (exec (Updated o d e at) (here_in c a n call b) s)
    update_case d e at ih_d ih_e l exit pc k os s m le has ok_d ok_e is_set st =
        let p1 = end_place c.program d pc in
        follows_bind c (ih_d pc k [] os s m (omega (arith, le)) has.0 ok_d st) λ p s1 m1 k1.
        follows_bind c (ih_e longint p1 _ (pos (address c.program c.img s1.made (K c a) p) ∷ []) s1.made s1 m1 (omega (arith, le)) has.1.0 ok_e (from_here c a n call b k1.1)) λ v s2 m2 k2.
        let same_place = address_same c s1.made s2.made k2.1.objects (K c a) p k1.0.0 in
        let kept = place_of_more c s1.made s2.made k2.1.objects (K c a) (code.form_of (scope c a) d) p k1.0 in
        let here_p : PlaceOf c.program (has_of c) c.img s2.made (K c a) set p = subst (λ u. PlaceOf c.program (has_of c) c.img s2.made (K c a) u p) is_set kept in
        let form = sub_scalar _ _ here_p.1 tt in
        let old : IsSet (value_at s2.store p) = subst (λ u. Fine c.program (has_of c) s2.made u (value_at s2.store p)) form ((spot c (K c a) s2 m2 k2.1.all p (subst (λ u. Scalar u) (sym form) tt) here_p.0).fine) in
        let new_is = k2.0 in
        follows_bind c
        (subst (λ x. Follows c (go c a (end_expr c.program e p1) (word_of c.program (has_of c) c.img s2.made x ∷ pos (address c.program c.img s1.made (K c a) p) ∷ []) m2) (λ u s m. go c a (suc (end_expr c.program e p1)) [] m) (λ u s m. Kp os s m) (bind (computed (updated o (value_at s2.store p) x) (here_in c a n call b) at s2) (λ v s. assign p v s))) (sym new_is.2)
        (subst (λ x. Follows c (go c a (end_expr c.program e p1) (new_is.0 ∷ pos (address c.program c.img s1.made (K c a) p) ∷ []) m2) (λ u s m. go c a (suc (end_expr c.program e p1)) [] m) (λ u s m. Kp os s m) (bind (computed (updated o x (Integer new_is.0)) (here_in c a n call b) at s2) (λ v s. assign p v s))) (sym old.1)
        (subst (λ x. Follows c (go c a (end_expr c.program e p1) (new_is.0 ∷ pos (address c.program c.img s1.made (K c a) p) ∷ []) m2) (λ u s m. go c a (suc (end_expr c.program e p1)) [] m) (λ u s m. Kp os s m) (bind (computed x (here_in c a n call b) at s2) (λ v s. assign p v s))) (sym (means old.0 new_is.0))
        (subst (λ q. Follows c (go c a (end_expr c.program e p1) (new_is.0 ∷ pos q ∷ []) m2) (λ u s m. go c a (suc (end_expr c.program e p1)) [] m) (λ u s m. Kp os s m) (bind (computed (with_element_in (element_in new_is.0) (λ i. SetOf (new old.0 i))) (here_in c a n call b) at s2) (λ v s. assign p v s))) same_place
        (update_follows p old.0 new_is.0 at (end_expr c.program e p1) [] os s2 m2 (omega arith) has.1.1 here_p old.1 (since c a n call b k1.1.objects k2.1))))))
        λ u s3 m3 k3. follows_value c m3 (here c _) (tt, k3)

  pub incl_case : (d : Desig) (e : Expr) (at : Pos) → PlaceFollows c a n call b d → ExprFollows c a n call b e → StmtFollows c a n call b (Updated update.Incl d e at)
  incl_case d e at ih_d ih_e l exit pc k os s m le inside lies has ok st =
      update_case update.Incl (λ s i. int_bit_or w32 s (set_from i i)) (λ f i k. nat_eq k i || f k) (λ x z pc ops m. refl) with_one (λ f z. refl) d e at ih_d ih_e l exit pc k os s m le has ok.0 ok.1.0 ok.1.1 st

  pub excl_case : (d : Desig) (e : Expr) (at : Pos) → PlaceFollows c a n call b d → ExprFollows c a n call b e → StmtFollows c a n call b (Updated update.Excl d e at)
  excl_case d e at ih_d ih_e l exit pc k os s m le inside lies has ok st =
      update_case update.Excl (λ s i. int_bit_and w32 s (int_bit_not w32 (set_from i i))) (λ f i k. not (nat_eq k i) && f k) (λ x z pc ops m. refl) without_one (λ f z. refl) d e at ih_d ih_e l exit pc k os s m le has ok.0 ok.1.0 ok.1.1 st
