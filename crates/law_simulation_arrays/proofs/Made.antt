-- NEW of open arrays.
use Rattle.std.proofs.lemmas.Bool.Decides.{nat_tests}
use Rattle.std.proofs.Common.{◌≡◌, ℕ, zero, suc, ◌*◌, ◌<◌, List, [], ◌∷◌, length, ℤ, refl, sym, subst, arith}
use Rattle.std.specs.Prelude.{pos, negsuc, true}
use Rattle.ob_trap.specs.declared.trap.Trap.TheVariants as trap
use Rattle.ob_tree.specs.declared.pos.Pos.{Pos}
use Rattle.ob_types.specs.declared.types.TypeRef.{TypeRef}
use Rattle.ob_types.specs.declared.typed.Width.TheVariants as width
use Rattle.ob_types.specs.TypedSyntax.{Desig, Expr, NewOpenArray}
use Rattle.ob_mem.specs.Words.{are_there}
use Rattle.ob_instr.specs.declared.opcode.Opcode.TheVariants as op
use Rattle.ob_instr.specs.Image.{World}
use Rattle.ob_instr.specs.Rows.{Traps}
use Rattle.ob_instr.proofs.Goes as rows
use Rattle.ob_meaning.specs.Values.{Form, PointerForm, ArrayForm, OpenForm, form_in, words, integer_of, Place, AnObject, Opened, State}
use Rattle.ob_meaning.specs.Results.{Caller}
use Rattle.ob_types.specs.Numbers.{is_in, is_positive}
use Rattle.ob_meaning.specs.Meaning.{make_open}
use Rattle.law_simulation_relation.specs.Layout.{address, place_form}
use Rattle.law_simulation_relation.specs.Relation.{FormOk, IsLength, LengthFits, Scalar, word_of, PlaceOf, Sub, opened}
use Rattle.law_simulation_relation.specs.Ends.{end_place, end_expr}
use Rattle.law_simulation_relation.specs.Stands as code
use Rattle.law_simulation_relation.specs.Typed.{longint}
use Rattle.law_simulation_relation.proofs.Steps.{here, Follows, follows_bind, follows_value, follows_stop, stands_any}
use Rattle.law_simulation_relation.proofs.Statements.{Activation, scope, go, fb, K, here_in, Keeps, PlaceFollows, ExprFollows, StmtFollows}
use Rattle.law_simulation_relation.proofs.Grow.{address_same, place_of_more}
use Rattle.law_simulation_relation.proofs.Located.{spot}
use Rattle.law_simulation_relation.proofs.Moves.{traps, effect}
use Rattle.law_simulation_relation.proofs.Values.{sub_scalar}
use Rattle.law_simulation_relation.proofs.Exprs.{from_here, since}
use Rattle.law_simulation_relation.proofs.Pointers.{made_follows}
use Rattle.law_simulation_relation.specs.Setting.{Setting, has_of}

long_is : (l : ℕ) → is_in width.LongInt (pos (suc l)) ≡ true → IsLength (suc l)
long_is l e = (omega arith, below (suc l) e)
  where
    below : (m : ℕ) → is_in width.LongInt (pos m) ≡ true → m < 2147483648
    below m e = grind (arith, nat_tests)

positive : (l : ℕ) → is_positive (pos (suc l)) ≡ true
positive l = grind (arith, nat_tests)

module _ (c : Setting) (a : Activation c) (n : ℕ) (call : Caller) (b : ℕ) where
  abbrev Kp : List AnObject → State → World → Type 0
  Kp os s w = Keeps c a n call b os s w

  open_follows : (z : ℤ) (t r : TypeRef) (p : Place) (at : Pos) (pc : ℕ) (os : List AnObject) (s : State) (w : World) → is_in width.LongInt z ≡ true → code.HasAt (scope c a) pc (code.with_a op.NewO (words (form_in c.program t))) at → FormOk c.program (form_in c.program t) → form_in c.program r ≡ OpenForm (form_in c.program t) → PlaceOf c.program (has_of c) c.img s.made (K c a) (PointerForm r) p → Kp os s w →
      Follows c (go c a pc (z ∷ pos (address c.program c.img s.made (K c a) p) ∷ []) w) (λ u s w. go c a (suc pc) [] w) (λ u s w. Kp os s w) (make_open z t p (here_in c a n call b) at s)
  open_follows z t r p at pc os s w is_long has ok is here_p st = by z is_long
    where
      u : Form
      u = form_in c.program t

      x : ℤ
      x = pos (address c.program c.img s.made (K c a) p)

      pointer_is : place_form c.program c.img s.made (K c a) p ≡ PointerForm r
      pointer_is = sub_scalar _ _ here_p.1 tt

      there : are_there (length w.words) x 1 ≡ true
      there = (spot c (K c a) s w st.all p (subst (λ u. Scalar u) (sym pointer_is) tt) here_p.0).there

      none : effect c a pc (pos 0 ∷ x ∷ []) w (code.with_a op.NewO (words u)) ≡ Traps trap.NoLength (pos 0) w
      none = rw there refl

      below : (l : ℕ) → effect c a pc (negsuc l ∷ x ∷ []) w (code.with_a op.NewO (words u)) ≡ Traps trap.NoLength (pos 0) w
      below l = rw there refl

      by : (z : ℤ) → is_in width.LongInt z ≡ true → Follows c (go c a pc (z ∷ x ∷ []) w) (λ u s w. go c a (suc pc) [] w) (λ u s w. Kp os s w) (make_open z t p (here_in c a n call b) at s)
      by (pos zero) e = follows_stop c w (traps c a trap.NoLength (pos 0) w has none) (stands_any c st)
      by (negsuc l) e = follows_stop c w (traps c a trap.NoLength (pos 0) w has (below l)) (stands_any c st)
      by (pos (suc l)) e =
          rw (positive l) (made_follows c a n call b (Opened (suc l) u) r p (suc l * words u) (code.with_a op.NewO (words u)) at pc (pos (suc l) ∷ x ∷ []) [] os s w (omega arith) has (tt, (long_is l e, ok)) (subst (λ v. Sub (ArrayForm (suc l) u) v) (sym is) (opened (suc l))) (subst (λ v. LengthFits v true) (sym is) refl) refl here_p
          (λ there. rows.new_o_is c.img a.u a.m a.p (fb c a) pc w x (words u) l [] there) st)

  pub new_open_array_case : (d : Desig) (t : TypeRef) (e : Expr) (at : Pos) → PlaceFollows c a n call b d → ExprFollows c a n call b e → StmtFollows c a n call b (NewOpenArray d t e at)
  new_open_array_case d t e at ih_d ih_e l exit pc k os s w le inside lies has ok st =
      let p1 = end_place c.program d pc in
      let p2 = end_expr c.program e p1 in
      let r = ok.1.0.0 in
      follows_bind c (ih_d pc k [] os s w (omega (arith, le)) has.0 ok.0 st) λ p s1 w1 k1.
      follows_bind c (ih_e longint p1 _ (pos (address c.program c.img s1.made (K c a) p) ∷ []) s1.made s1 w1 (omega (arith, le)) has.1.0 ok.1.1.1 (from_here c a n call b k1.1)) λ v s2 w2 k2.
      let z = k2.0 in
      let same = address_same c s1.made s2.made k2.1.objects (K c a) p k1.0.0 in
      let kept = place_of_more c s1.made s2.made k2.1.objects (K c a) (code.form_of (scope c a) d) p k1.0 in
      follows_bind c
      (subst (λ v. Follows c (go c a p2 (word_of c.program (has_of c) c.img s2.made v ∷ pos (address c.program c.img s1.made (K c a) p) ∷ []) w2) (λ u s w. go c a (suc p2) [] w) (λ u s w. Kp os s w) (make_open (integer_of v) t p (here_in c a n call b) at s2)) (sym z.2)
      (subst (λ m. Follows c (go c a p2 (z.0 ∷ pos m ∷ []) w2) (λ u s w. go c a (suc p2) [] w) (λ u s w. Kp os s w) (make_open z.0 t p (here_in c a n call b) at s2)) same
      (open_follows z.0 t r p at p2 os s2 w2 z.1 has.1.1 ok.1.1.0 ok.1.0.2 (subst (λ u. PlaceOf c.program (has_of c) c.img s2.made (K c a) u p) ok.1.0.1 kept) (since c a n call b k1.1.objects k2.1))))
      λ u s3 w3 k3. follows_value c w3 (here c _) (tt, k3)
