-- The code of texts follows their meaning: their addresses and lengths, and their relations.
use Rattle.std.proofs.Common.{◌≡◌, ℕ, suc, ◌+◌, ◌≤◌, List, [], ◌∷◌, ◌++◌, length, Option, Some, None, ℤ, refl, sym, ap, ◌∙◌, subst, arith, length-append}
use Rattle.std.specs.Prelude.{pos, map, true, nat_lt}
use Rattle.ob_trap.specs.declared.trap.Trap.TheVariants as trap
use Rattle.ob_tree.specs.declared.pos.Pos.{Pos}
use Rattle.ob_types.specs.declared.value.Value.TheVariants as literal
use Rattle.ob_types.specs.declared.typed.Comparison.{Comparison}
use Rattle.ob_types.specs.declared.typed.Comparison.TheVariants as comparison
use Rattle.ob_types.specs.TypedSyntax.{Desig, Expr, Constant, ValueOf, CompareTexts}
use Rattle.ob_instr.specs.declared.opcode.Opcode.TheVariants as op
use Rattle.ob_instr.specs.Image.{World, Point}
use Rattle.ob_instr.specs.Rows as rows_of
use Rattle.ob_instr.specs.Rows.{Next, Traps, truth, related}
use Rattle.ob_instr.proofs.Goes as rows
use Rattle.ob_meaning.specs.Values.{Form, BasicForm, PointerForm, ProcedureForm, ArrayForm, OpenForm, RecordForm, Value, Truth, Place, AnObject, State}
use Rattle.ob_meaning.specs.Results.{Trapped, Res, Gives, Stops, bind, Caller}
use Rattle.ob_types.specs.Numbers.{text_equal, text_less, holds}
use Rattle.ob_meaning.specs.Meaning.{Source, Stands, Text, text_in, text_of, give_or, place, source}
use Rattle.law_simulation_relation.specs.Layout.{address, place_form}
use Rattle.law_simulation_relation.specs.Relation.{PlaceIn, second_word}
use Rattle.law_simulation_relation.specs.Need.{need_array}
use Rattle.law_simulation_relation.specs.Ends.{is_open, end_place, end_open, end_array}
use Rattle.law_simulation_relation.specs.Stands as code
use Rattle.law_simulation_relation.specs.Stands.{comparison_number}
use Rattle.law_simulation_relation.specs.Typed as typed
use Rattle.law_simulation_relation.specs.Typed.{boolean, char, IsText}
use Rattle.law_simulation_relation.specs.Layout.{static_held}
use Rattle.law_simulation_relation.proofs.Steps.{Reach, then_reach, here, Follows, follows_bind, follows_value, follows_stop, follows_map, stands_any}
use Rattle.law_simulation_relation.proofs.Statements.{onto, Activation, scope, go, fb, K, here_in, Keeps, LongTo, ValueTo, ValueKept, PlaceFollows, OpenArrayFollows, ExprFollows}
use Rattle.law_simulation_relation.proofs.Grow.{address_same, form_same}
use Rattle.law_simulation_relation.proofs.Moves.{goes, traps, effect, all_length, small_word}
use Rattle.law_simulation_relation.proofs.Exprs.{from_here, since, widen_kept}
use Rattle.law_simulation_relation.proofs.Paths.{sub_array}
use Rattle.law_simulation_arrays.proofs.Opens.{open_form}
use Rattle.law_simulation_arrays.proofs.Chars.{found, related_same}
use Rattle.law_simulation_arrays.proofs.Strings.{SourceFine, SourceWords, source_more, Found, source_found, text_found, text_between}
use Rattle.law_simulation_relation.specs.Setting.{Setting, StandIn, has_of}

module _ (c : Setting) (a : Activation c) (n : ℕ) (call : Caller) (b : ℕ) where
  abbrev Kp : List AnObject → State → World → Type 0
  Kp os s w = Keeps c a n call b os s w

  abbrev Second : Form → ℤ
  Second t = second_word c.program (has_of c) c.img t

  abbrev TextOk : Expr → Type 0
  TextOk e = typed.TextOk c.program (has_of c) a.unit (static_held c.program a.procedure) a.procedure.result e

  -- the address and the length of a text
  abbrev pub TextTo : ℕ → ℕ → List ℤ → Source → State → World → Point
  TextTo pc at ops x s w = go c a pc (onto (SourceWords c a at x s) ops) w

  abbrev pub TextKept : ℕ → List AnObject → Source → State → World → Type 0
  TextKept at os x s w = SourceFine c a at s.made x × Kp os s w

  abbrev pub TextFollows : Expr → Type 0
  TextFollows e = (pc at : ℕ) (ops : List ℤ) (os : List AnObject) (s : State) (w : World) → length ops + need_array e ≤ 256 → code.ArrayCode (scope c a) e pc at → TextOk e → Kp os s w →
      Follows c (go c a pc ops w) (TextTo (end_array c.program e pc) at ops) (TextKept at os) (source e (here_in c a n call b) s)

  -- an array of characters
  abbrev pub IsChars : Place → State → Type 0
  IsChars p s = PlaceIn c.program (has_of c) c.img s.made (K c a) p × ((m : ℕ) × (place_form c.program c.img s.made (K c a) p ≡ ArrayForm m char))

  abbrev pub CharsFollow : Desig → Type 0
  CharsFollow d = (pc at : ℕ) (ops : List ℤ) (os : List AnObject) (s : State) (w : World) → length ops + need_array (ValueOf d) ≤ 256 → code.ArrayCode (scope c a) (ValueOf d) pc at → TextOk (ValueOf d) → Kp os s w →
      Follows c (go c a pc ops w) (LongTo c a n call b (end_array c.program (ValueOf d) pc) ops) (λ p s w. IsChars p s × Kp os s w) (place d (here_in c a n call b) s)

  pub chars_case : (d : Desig) → PlaceFollows c a n call b d → OpenArrayFollows c a n call b d → CharsFollow d
  chars_case d ih ih_open pc at ops os s w le has ok st = by (code.form_of (scope c a) d) refl has ok.1
    where
      p1 : ℕ
      p1 = end_place c.program d pc

      by : (t : Form) → code.form_of (scope c a) d ≡ t → code.Form2 (scope c a) t (code.OpenCode (scope c a) d pc at) (code.PlaceCode (scope c a) d pc at × code.Has (scope c a) p1 (code.with_a op.Int (code.fixed_length (scope c a) t))) → IsText c.program (has_of c) a.unit (static_held c.program a.procedure) a.procedure.result t → Follows c (go c a pc ops w) (LongTo c a n call b (is_open t (end_open c.program d pc) (suc p1)) ops) (λ p s w. IsChars p s × Kp os s w) (place d (here_in c a n call b) s)
      by (BasicForm k) e h i = absurd i
      by (PointerForm k) e h i = absurd i
      by (ProcedureForm k) e h i = absurd i
      by (RecordForm line fs) e h i = absurd i
      by (OpenForm u) e h i =
          follows_map c (ih_open u pc at ops os s w (omega (arith, le)) h ok.0 e st) (λ p s w k. here c _)
          (λ p s w k. let f = open_form c a n call b s w u (code.form_of (scope c a) d) p k.1.all k.0 e in ((k.0.0, (f.0, f.1 ∙ ap (ArrayForm f.0) i)), k.1))
      by (ArrayForm m u) e h i =
          follows_map c (ih pc at ops os s w (omega (arith, le)) h.0 ok.0 st)
          (λ p s w k.
          let form = sub_array _ (code.form_of (scope c a) d) m u k.0.1 e in
          let x = pos (address c.program c.img s.made (K c a) p) in
          subst (λ t. Reach c (go c a p1 (x ∷ ops) w) (go c a (suc p1) (Second t ∷ x ∷ ops) w)) (sym form) (goes c a _ w h.1 (rows.int_next c.img a.u a.m a.p (fb c a) p1 w (pos m) (x ∷ ops)) (omega (arith, le))))
          (λ p s w k. ((k.0.0, (m, sub_array _ (code.form_of (scope c a) d) m u k.0.1 e ∙ ap (ArrayForm m) i)), k.1))

  pub text_value_case : (d : Desig) → CharsFollow d → TextFollows (ValueOf d)
  text_value_case d ih pc at ops os s w le has ok st =
      follows_bind c (ih pc at ops os s w le has ok st) λ p s1 w1 k1. follows_value c w1 (here c _) k1

  pub string_goes : (text : List ℕ) (pc at : ℕ) (ops : List ℤ) (s : State) (w : World) → length ops + 1 ≤ 256 → StandIn c (K c a) s w → code.Has (scope c a) pc (code.with_a op.Global at) → code.TextStands (scope c a) text at → Reach c (go c a pc ops w) (go c a (suc pc) (pos (a.u.first + at) ∷ ops) w)
  string_goes text pc at ops s w le st has t =
      let r = text_between c a s w st text at t in
      let all = all_length c (K c a) s w st in
      let long = ap length r.is ∙ length-append r.before (map pos (text ++ 0 ∷ []) ++ r.behind) in
      let small = small_word c (a.u.first + at) (let h = r.at in omega (arith, h, all, long)) in
      goes c a _ w has (rows.global_next c.img a.u a.m a.p (fb c a) pc w at ops small) (omega (arith, le))

  pub text_constant_case : (text : List ℕ) → TextFollows (Constant (literal.Str text))
  text_constant_case text pc at ops os s w le has ok st =
      let x = pos (a.u.first + at) in
      follows_value c w
      (then_reach c (string_goes text pc at ops s w (omega (arith, le)) st.all has.0 has.1.0)
      (goes c a _ w has.1.1 (rows.int_next c.img a.u a.m a.p (fb c a) (suc pc) w (pos (suc (length text))) (x ∷ ops)) (omega (arith, le))))
      ((has.1.0, ok), st)

  -- RELATIONS

  number_below : (r : Comparison) → nat_lt (comparison_number r) 6 ≡ true
  number_below comparison.Equal = refl
  number_below comparison.NotEqual = refl
  number_below comparison.Less = refl
  number_below comparison.LessEqual = refl
  number_below comparison.Greater = refl
  number_below comparison.GreaterEqual = refl

  pub onto_two : (at : ℕ) (x : Source) (s : State) (ops : List ℤ) → length (onto (SourceWords c a at x s) ops) ≡ suc (suc (length ops))
  onto_two at (Stands p) s ops = refl
  onto_two at (Text text) s ops = refl

  pub words_later : (at : ℕ) (x : Source) (os : List AnObject) (s1 s2 : State) (w2 : World) → SourceFine c a at s1.made x → Kp s1.made s2 w2 → SourceWords c a at x s2 ≡ SourceWords c a at x s1
  words_later at (Stands p) os s1 s2 w2 h st =
      ap (λ n. pos n ∷ Second (place_form c.program c.img s2.made (K c a) p) ∷ []) (address_same c s1.made s2.made st.objects (K c a) p h.0)
      ∙ ap (λ t. pos (address c.program c.img s1.made (K c a) p) ∷ Second t ∷ []) (form_same c s1.made s2.made st.objects (K c a) p h.0)
  words_later at (Text text) os s1 s2 w2 h st = refl

  compare_follows : (r : Comparison) (x y : Source) (kx ky : ℕ) (at : Pos) (pc : ℕ) (ops : List ℤ) (os : List AnObject) (s : State) (w : World) → length ops + 1 ≤ 256 → code.HasAt (scope c a) pc (code.with_a op.StrRel (comparison_number r)) at → SourceFine c a kx s.made x → SourceFine c a ky s.made y → Kp os s w →
      Follows c (go c a pc (onto (SourceWords c a ky y s) (onto (SourceWords c a kx x s) ops)) w) (ValueTo c a n call b (suc pc) ops) (ValueKept c a n call b boolean os) (bind (text_of x (here_in c a n call b) at s) (λ v s. bind (text_of y (here_in c a n call b) at s) (λ u s. Gives (Truth (holds r (text_equal v u) (text_less v u))) s)))
  compare_follows r x y kx ky at pc ops os s w le has hx hy st =
      subst (λ l. Follows c (go c a pc (onto (SourceWords c a ky y s) (onto l ops)) w) (ValueTo c a n call b (suc pc) ops) (ValueKept c a n call b boolean os) result) (sym fx.words)
      (subst (λ l. Follows c (go c a pc (onto l (pos (length fx.cs) ∷ pos fx.start ∷ ops)) w) (ValueTo c a n call b (suc pc) ops) (ValueKept c a n call b boolean os) result) (sym fy.words)
      (by (text_in x s.store) (text_in y s.store) refl refl))
    where
      fx : Found c a kx x s w
      fx = source_found c a kx x s w st.all hx

      fy : Found c a ky y s w
      fy = source_found c a ky y s w st.all hy

      result : Res Value
      result = bind (text_of x (here_in c a n call b) at s) (λ v s. bind (text_of y (here_in c a n call b) at s) (λ u s. Gives (Truth (holds r (text_equal v u) (text_less v u))) s))

      second : List ℕ → Option (List ℕ) → Res Value
      second v q = bind (give_or q (λ s. Stops (Trapped trap.NoEnd (pos 0) a.unit at) s) s) (λ u s. Gives (Truth (holds r (text_equal v u) (text_less v u))) s)

      given : Option (List ℕ) → Res Value
      given o = bind (give_or o (λ s. Stops (Trapped trap.NoEnd (pos 0) a.unit at) s) s) (λ v s. bind (text_of y (here_in c a n call b) at s) (λ u s. Gives (Truth (holds r (text_equal v u) (text_less v u))) s))

      ops4 : List ℤ
      ops4 = pos (length fy.cs) ∷ pos fy.start ∷ pos (length fx.cs) ∷ pos fx.start ∷ ops

      trapped : effect c a pc ops4 w (code.with_a op.StrRel (comparison_number r)) ≡ Traps trap.NoEnd (pos 0) w → (q : Res Value) → q ≡ Stops (Trapped trap.NoEnd (pos 0) a.unit at) s → Follows c (go c a pc ops4 w) (ValueTo c a n call b (suc pc) ops) (ValueKept c a n call b boolean os) q
      trapped e q f = subst (λ q. Follows c (go c a pc ops4 w) (ValueTo c a n call b (suc pc) ops) (ValueKept c a n call b boolean os) q) (sym f) (follows_stop c w (traps c a trap.NoEnd (pos 0) w has e) (stands_any c st))

      row : (o q : Option (List ℕ)) → text_in x s.store ≡ o → text_in y s.store ≡ q → effect c a pc ops4 w (code.with_a op.StrRel (comparison_number r)) ≡ rows_of.on_both (found o) (found q) w (λ s t. Next (truth (related (comparison_number r) s t) ∷ ops) w)
      row o q e f = let i = text_found c a kx x s w fx ∙ ap found e in let j = text_found c a ky y s w fy ∙ ap found f in let k = number_below r in rw (k, i, j) refl

      by : (o q : Option (List ℕ)) → text_in x s.store ≡ o → text_in y s.store ≡ q → Follows c (go c a pc ops4 w) (ValueTo c a n call b (suc pc) ops) (ValueKept c a n call b boolean os) result
      by None None e f = trapped (row None None e f) result (ap given e)
      by None (Some u) e f = trapped (row None (Some u) e f) result (ap given e)
      by (Some v) None e f = trapped (row (Some v) None e f) result (ap given e ∙ ap (second v) f)
      by (Some v) (Some u) e f =
          let t = holds r (text_equal v u) (text_less v u) in
          subst (λ q. Follows c (go c a pc ops4 w) (ValueTo c a n call b (suc pc) ops) (ValueKept c a n call b boolean os) q) (sym (ap given e ∙ ap (second v) f))
          (follows_value c w (goes c a _ w has.has (row (Some v) (Some u) e f ∙ ap (λ z. Next (truth z ∷ ops) w) (related_same r v u)) (omega (arith, le))) ((t, refl), st))

  pub compare_texts_case : (r : Comparison) (x y : Expr) (at : Pos) → TextFollows x → TextFollows y → ExprFollows c a n call b (CompareTexts r x y at)
  compare_texts_case r x y at ih_x ih_y goal pc k ops os s w le has ok st =
      let p1 = end_array c.program x pc in
      let p2 = end_array c.program y p1 in
      follows_map c
      (follows_bind c (ih_x pc k ops os s w (omega (arith, le)) has.0 ok.0 st) λ v s1 w1 k1.
      let two = onto_two k v s1 ops in
      follows_bind c (ih_y p1 _ (onto (SourceWords c a k v s1) ops) s1.made s1 w1 (omega (arith, le, two)) has.1.0 ok.1.0 (from_here c a n call b k1.1)) λ u s2 w2 k2.
      subst (λ l. Follows c (go c a p2 (onto (SourceWords c a (k + code.et (scope c a) x) u s2) (onto l ops)) w2) (ValueTo c a n call b (suc p2) ops) (ValueKept c a n call b boolean os) (bind (text_of v (here_in c a n call b) at s2) (λ v s. bind (text_of u (here_in c a n call b) at s) (λ u s. Gives (Truth (holds r (text_equal v u) (text_less v u))) s)))) (words_later k v os s1 s2 w2 k1.0 k2.1)
      (compare_follows r v u k (k + code.et (scope c a) x) at p2 ops os s2 w2 (omega (arith, le)) has.1.1 (source_more c a k s1.made s2.made v k2.1.objects k1.0) k2.0 (since c a n call b k1.1.objects k2.1)))
      (λ v s w k. here c _) (λ v s w k. widen_kept c a n call b boolean goal os v s w ok.1.1 k)
