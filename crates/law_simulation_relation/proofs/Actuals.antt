-- The code of actual parameters and of calls follows their meaning.
use Rattle.std.proofs.Common.{◌≡◌, ◌⊎◌, ⊎_elim, inl, inr, ℕ, suc, ◌+◌, ◌≤◌, List, [], ◌∷◌, ◌++◌, length, Option, Some, None, ℤ, refl, sym, ap, ◌∙◌, subst, arith, length-append, append_assoc}
use Rattle.std.proofs.lemmas.Bool.Decides.{nat_tests}
use Rattle.std.specs.Prelude.{pos, Bool, true, false, nat_lt, nat_le, max, map, replicate, take, drop, reverse, slice_get, bytes_eq}
use Rattle.std.proofs.lemmas.Option.{slice_get_within}
use Rattle.std.proofs.lemmas.List.{reverse-append, reverse-reverse, length-reverse}
use Rattle.std.proofs.Math.Seq.{take-append_seam, drop-append_seam}
use Rattle.ob_tree.specs.declared.pos.Pos.{Pos}
use Rattle.ob_tree.specs.declared.names.QName.{QName}
use Rattle.ob_types.specs.declared.types.TypeRef.{TypeRef}
use Rattle.ob_types.specs.declared.typed.Passing.{Passing}
use Rattle.ob_types.specs.declared.typed.Passing.TheVariants as passing
use Rattle.ob_types.specs.declared.typed.TypedParameter.{TypedParameter}
use Rattle.ob_types.specs.declared.typed.Callee.TheVariants as callee
use Rattle.ob_types.specs.TypedSyntax.{Desig, Expr, Constant, ValueOf, Call, Actuals, NoActual, AnActual, CallProper, Procedure}
use Rattle.ob_instr.specs.declared.instr.Instr.{Instr}
use Rattle.ob_instr.specs.declared.opcode.Opcode.TheVariants as op
use Rattle.ob_instr.specs.declared.procedure.Param.{Param}
use Rattle.ob_instr.specs.declared.procedure.Param.TheVariants as param
use Rattle.ob_instr.specs.Parts.{slots, slots_of}
use Rattle.ob_instr.specs.Image.{World, Point}
use Rattle.ob_instr.specs.Rows.{calls, calls_with, procedures_of, procedure_of}
use Rattle.ob_instr.specs.Table.{row}
use Rattle.ob_instr.proofs.Goes as rows
use Rattle.ob_instr.proofs.Steps as machine
use Rattle.ob_meaning.specs.Values as values
use Rattle.ob_meaning.specs.Values.{Form, ArrayForm, OpenForm, RecordForm, Fields, NoField, AField, joined, line_of, fields_of, form_in, words, Value, Place, Active, AnObject, State}
use Rattle.ob_meaning.specs.Results.{Res, Gives, Stops, M, bind, give, Passed, ByValue, ByPlace, ByText, Caller}
use Rattle.ob_meaning.specs.Meaning.{Stands, place, value, actuals, passed_from, result_of}
use Rattle.law_simulation_relation.specs.Layout.{module_number, static_held, address, place_form}
use Rattle.law_simulation_relation.specs.Relation.{OrElse, FormOk, Fine, word_of, second_word, flat_modules, Scalar, Sub, itself, extended, opened, PlaceOf, number_of}
use Rattle.law_simulation_relation.specs.Need.{need_place, need_open, need_expr, need_passed, need_actuals}
use Rattle.law_simulation_relation.specs.Ends.{is_open, end_place, end_tagged, end_open, end_array, end_expr, end_actuals}
use Rattle.law_simulation_relation.specs.Stands as code
use Rattle.law_simulation_relation.specs.Typed as typed
use Rattle.law_simulation_relation.specs.Typed.{IsOpen, char, result_form}
use Rattle.law_simulation_relation.specs.Texts.{text_words}
use Rattle.ob_types.specs.declared.value.Value.TheVariants as literal
use Rattle.law_simulation_relation.proofs.Names.{bytes_true}
use Rattle.law_simulation_relation.proofs.Steps.{Reach, here, then_reach, Follows, follows_bind, follows_map, follows_value, FollowsBy, by_value, by_after, bind_by, by_bind_by, by_bind}
use Rattle.law_simulation_relation.proofs.Statements.{AlwaysAt, PlaceTo, LongTo, PlaceKept, DesigOk, RecordFollows, OpenArrayFollows, onto, result_slots, Activation, scope, go, fb, K, here_in, Keeps, PlaceFollows, ExprFollows, ActualsFollow, StmtFollows, PlaceFits, LongPlaceFits, TextFits, LongTextFits, ArgumentFits, ArgumentsFit, CallsFollow, result_words, ResultFine, result_fine}
use Rattle.law_simulation_relation.proofs.Grow.{scalar_word, fine_more, address_same, form_same, place_of_more}
use Rattle.law_simulation_relation.proofs.Moves.{has_it, goes, all_length, small_word}
use Rattle.law_simulation_relation.proofs.Modules.{texts_at}
use Rattle.law_simulation_relation.proofs.Paths.{sub_array}
use Rattle.law_simulation_relation.proofs.Exprs.{from_here, since}
use Rattle.law_simulation_relation.proofs.Values.{widen}
use Rattle.law_simulation_relation.specs.Linked.{KindIs, KindsAre, Linked, OneSlot, IsRecord, ProcedureStands}
use Rattle.law_simulation_relation.specs.Setting.{Setting, StandIn, has_of}

-- BINDS

value_steps : (r : Res Value) (f : M (List Passed)) → bind (bind r (λ v s. Gives (ByValue v) s)) (λ x s. bind (f s) (λ xs s. Gives (x ∷ xs) s)) ≡ bind r (λ v s. bind (f s) (λ xs s. Gives (ByValue v ∷ xs) s))
value_steps (Gives v s) f = refl
value_steps (Stops y s) f = refl

place_steps : (r : Res Place) (f : M (List Passed)) → bind (bind (bind r (λ p s. Gives (Stands p) s)) (λ x s. Gives (passed_from x) s)) (λ x s. bind (f s) (λ xs s. Gives (x ∷ xs) s)) ≡ bind r (λ p s. bind (f s) (λ xs s. Gives (ByPlace p ∷ xs) s))
place_steps (Gives p s) f = refl
place_steps (Stops y s) f = refl

-- EXTENSIONS OF EXTENSIONS

joined_both : (fs gs hs : Fields) → joined fs (joined gs hs) ≡ joined (joined fs gs) hs
joined_both NoField gs hs = refl
joined_both (AField owner name t fs) gs hs = ap (λ ks. AField owner name t ks) (joined_both fs gs hs)

pub sub_on : {t u v : Form} → Sub t u → Sub u v → Sub t v
sub_on {t} {u} {v} h k = on t u v h k
  where
    extend : (t : Form) (line more : List QName) (fs gs : Fields) (u : Form) → u ≡ RecordForm (more ++ line) (joined fs gs) → Sub t u → Sub t (RecordForm line fs)
    extend _ line more fs gs u e itself = subst (λ u. Sub u (RecordForm line fs)) (sym e) (extended more gs)
    extend _ line more fs gs _ e (extended more2 gs2 {line = line2} {fs = fs2}) =
        let l : line2 ≡ more ++ line = ap line_of e in
        let f : fs2 ≡ joined fs gs = ap fields_of e in
        subst (λ l. Sub (RecordForm (more2 ++ l) (joined fs2 gs2)) (RecordForm line fs)) (sym l)
        (subst (λ f. Sub (RecordForm (more2 ++ (more ++ line)) (joined f gs2)) (RecordForm line fs)) (sym f)
        (subst (λ l. Sub (RecordForm l (joined (joined fs gs) gs2)) (RecordForm line fs)) (append_assoc more2 more line)
        (subst (λ f. Sub (RecordForm ((more2 ++ more) ++ line) f) (RecordForm line fs)) (joined_both fs gs gs2) (extended (more2 ++ more) (joined gs gs2)))))
    extend _ line more fs gs _ e (opened k) = absurd (cc)

    open_it : (t u v : Form) (k : ℕ) → u ≡ ArrayForm k v → Sub t u → Sub t (OpenForm v)
    open_it t u v k e h = subst (λ z. Sub z (OpenForm v)) (sym (sub_array t u k v h e)) (opened k)

    on : (t u v : Form) → Sub t u → Sub u v → Sub t v
    on t u _ h itself = h
    on t _ _ h (extended more gs {line = line} {fs = fs}) = extend t line more fs gs (RecordForm (more ++ line) (joined fs gs)) refl h
    on t _ _ h (opened k {t = v}) = open_it t (ArrayForm k v) v k refl h

module _ (c : Setting) where
  -- a parameter has as many words as its kind has slots
  one_fits : (os : List AnObject) (cs : List Active) (p : TypedParameter) (y : Param) (x : Passed) (vs : List ℤ) → KindIs c.program p.passing (form_in c.program p.of) y → ArgumentFits c os cs p x vs → length vs ≡ slots_of y
  one_fits os cs p y x vs k f = by p.passing refl
    where
      t : Form
      t = form_in c.program p.of

      by : (how : Passing) → p.passing ≡ how → length vs ≡ slots_of y
      by passing.Scalar e =
          let h : (y ≡ param.Scalar) × Scalar t = rw e at k in
          let g : (v : Value) × (x ≡ ByValue v) × (vs ≡ word_of c.program (has_of c) c.img os v ∷ []) × Scalar t × Fine c.program (has_of c) os t v = rw e at f in
          ap length g.2 ∙ sym (ap slots_of h.0)
      by passing.Variable e =
          let h : (y ≡ param.Var) × OneSlot t = rw e at k in
          let g : PlaceFits c os cs t x vs = rw e at f in
          ap length g.2 ∙ sym (ap slots_of h.0)
      by passing.Structure e =
          let h : (y ≡ param.Value (words t)) × FormOk c.program t = rw e at k in
          let g : PlaceFits c os cs t x vs ⊎ TextFits c t x vs = rw e at f in
          ⊎_elim (λ g. ap length g.2) (λ g. ap length g.4) g ∙ sym (ap slots_of h.0)
      by passing.OpenArray e =
          let h : (u : Form) × (t ≡ OpenForm u) × (y ≡ param.ValueArray (words u)) = rw e at k in
          let g : LongPlaceFits c os cs t x vs ⊎ LongTextFits c t x vs = rw e at f in
          ⊎_elim (λ g. ap length g.2) (λ g. ap length g.3) g ∙ sym (ap slots_of h.2)
      by passing.VariableRecord e =
          let h : (y ≡ param.VarRecord) × IsRecord t = rw e at k in
          let g : LongPlaceFits c os cs t x vs = rw e at f in
          ap length g.2 ∙ sym (ap slots_of h.0)
      by passing.VariableOpenArray e =
          let h : (y ≡ param.VarArray) × IsOpen t = rw e at k in
          let g : LongPlaceFits c os cs t x vs = rw e at f in
          ap length g.2 ∙ sym (ap slots_of h.0)

  pub slots_fit : (os : List AnObject) (cs : List Active) (ps : List TypedParameter) (ks : List Param) (xs : List Passed) (ws : List ℤ) → KindsAre c.program ps ks → ArgumentsFit c os cs ps xs ws → length ws ≡ slots ks
  slots_fit os cs [] [] [] ws k f = ap length f
  slots_fit os cs [] [] (x ∷ xs) ws k f = absurd f
  slots_fit os cs [] (y ∷ ks) xs ws k f = absurd k
  slots_fit os cs (p ∷ ps) [] xs ws k f = absurd k
  slots_fit os cs (p ∷ ps) (y ∷ ks) [] ws k f = absurd f
  slots_fit os cs (p ∷ ps) (y ∷ ks) (x ∷ xs) ws k f =
      let one = one_fits os cs p y x f.0 k.0 f.3 in
      let more = slots_fit os cs ps ks xs f.1 k.1 f.4 in
      ap length f.2 ∙ length-append f.0 f.1 ∙ omega (arith, one, more)

module _ (c : Setting) (a : Activation c) (n : ℕ) (call : Caller) (b : ℕ) where
  abbrev W : List AnObject → Value → ℤ
  W os v = word_of c.program (has_of c) c.img os v

  abbrev To : Actuals → ℕ → List ℤ → List ℤ → List Passed → State → World → Point
  To es pc ops ws xs s w = go c a (end_actuals c.program es pc) (onto ws ops) w

  abbrev Fit : List TypedParameter → List AnObject → List ℤ → List Passed → State → World → Type 0
  Fit ps os ws xs s w = ArgumentsFit c s.made (K c a) ps xs ws × Keeps c a n call b os s w

  pub no_actual_case : ActualsFollow c a n call b NoActual
  no_actual_case [] pc at ops os s w le has ok st = by_value c [] w (here c _) (refl, st)
  no_actual_case (p ∷ ps) pc at ops os s w le has ok st = absurd ok

  pub scalar_actual_case : (t : TypeRef) (e : Expr) (es : Actuals) → ExprFollows c a n call b e → ActualsFollow c a n call b es → need_expr e ≤ need_passed e passing.Scalar → ActualsFollow c a n call b (AnActual passing.Scalar t e es)
  scalar_actual_case t e es ih_e ih_es needs [] pc at ops os s w le has ok st = absurd ok
  scalar_actual_case t e es ih_e ih_es needs (p ∷ ps) pc at ops os s w le has ok st =
      let p1 = end_expr c.program e pc in
      subst (λ r. FollowsBy c (go c a pc ops w) (To es p1 ops) (Fit (p ∷ ps) os) r) (sym (value_steps (value e (here_in c a n call b) s) (actuals es (here_in c a n call b))))
      (bind_by c (ih_e (form_in c.program p.of) pc at ops os s w (omega (arith, le, needs)) has.0 ok.1.1.0.0 st) λ v s1 w1 k1.
      by_bind_by c (ih_es ps p1 _ (W s1.made v ∷ ops) s1.made s1 w1 (omega (arith, le)) has.1 ok.1.1.1 (from_here c a n call b k1.1)) λ ws xs s2 w2 k2.
      let fine = fine_more c s1.made s2.made k2.1.objects (form_in c.program p.of) v k1.0 in
      let same = scalar_word c s1.made s2.made k2.1.objects (form_in c.program p.of) v ok.1.1.0.1 k1.0 in
      let arg : ArgumentFits c s2.made (K c a) p (ByValue v) (W s2.made v ∷ []) = rw (sym ok.0) (v, refl, refl, ok.1.1.0.1, fine) in
      by_value c (W s2.made v ∷ ws) w2 (subst (λ z. Reach c (go c a (end_actuals c.program es p1) (onto ws (W s1.made v ∷ ops)) w2) (go c a (end_actuals c.program es p1) (onto ws (z ∷ ops)) w2)) (sym same) (here c _)) ((W s2.made v ∷ [], ws, refl, arg, k2.0), since c a n call b k1.1.objects k2.1))

  pub variable_actual_case : (t : TypeRef) (d : Desig) (es : Actuals) → PlaceFollows c a n call b d → ActualsFollow c a n call b es → ActualsFollow c a n call b (AnActual passing.Variable t (ValueOf d) es)
  variable_actual_case t d es ih_d ih_es [] pc at ops os s w le has ok st = absurd ok
  variable_actual_case t d es ih_d ih_es (p ∷ ps) pc at ops os s w le has ok st =
      let p1 = end_place c.program d pc in
      subst (λ r. FollowsBy c (go c a pc ops w) (To es p1 ops) (Fit (p ∷ ps) os) r) (sym (place_steps (place d (here_in c a n call b) s) (actuals es (here_in c a n call b))))
      (bind_by c (ih_d pc at ops os s w (omega (arith, le)) has.0 ok.1.1.0.0 st) λ x s1 w1 k1.
      by_bind_by c (ih_es ps p1 _ (pos (address c.program c.img s1.made (K c a) x) ∷ ops) s1.made s1 w1 (omega (arith, le)) has.1 ok.1.1.1 (from_here c a n call b k1.1)) λ ws xs s2 w2 k2.
      let at2 = place_of_more c s1.made s2.made k2.1.objects (K c a) (code.form_of (scope c a) d) x k1.0 in
      let same = address_same c s1.made s2.made k2.1.objects (K c a) x k1.0.0 in
      let word = pos (address c.program c.img s2.made (K c a) x) in
      let here_it_is : PlaceOf c.program (has_of c) c.img s2.made (K c a) (form_in c.program p.of) x = (at2.0, ok.1.1.0.1 _ at2.1) in
      let arg : ArgumentFits c s2.made (K c a) p (ByPlace x) (word ∷ []) = rw (sym ok.0) (x, refl, refl, here_it_is) in
      by_value c (word ∷ ws) w2 (subst (λ z. Reach c (go c a (end_actuals c.program es p1) (onto ws (pos (address c.program c.img s1.made (K c a) x) ∷ ops)) w2) (go c a (end_actuals c.program es p1) (onto ws (pos z ∷ ops)) w2)) (sym same) (here c _)) ((word ∷ [], ws, refl, arg, k2.0), since c a n call b k1.1.objects k2.1))

  -- OTHER PLACES

  abbrev Pw : List AnObject → Place → ℤ
  Pw os x = pos (address c.program c.img os (K c a) x)

  abbrev Sw : List AnObject → Place → ℤ
  Sw os x = second_word c.program (has_of c) c.img (place_form c.program c.img os (K c a) x)

  -- an address first, and then the others
  short_actual : (m : M Place) (t : Form) (es : Actuals) (p : TypedParameter) (ps : List TypedParameter) (pc p1 at : ℕ) (ops : List ℤ) (os : List AnObject) (s : State) (w : World) → ActualsFollow c a n call b es → length ops + (1 + need_actuals es) ≤ 256 → code.ActualsCode (scope c a) es p1 at → typed.ActualsOk c.program (has_of c) a.unit (static_held c.program a.procedure) a.procedure.result es ps →
      Follows c (go c a pc ops w) (PlaceTo c a n call b p1 ops) (PlaceKept c a n call b t os) (m s) → ((os : List AnObject) (x : Place) → PlaceOf c.program (has_of c) c.img os (K c a) t x → ArgumentFits c os (K c a) p (ByPlace x) (Pw os x ∷ [])) →
      FollowsBy c (go c a pc ops w) (To es p1 ops) (Fit (p ∷ ps) os) (bind (m s) (λ x s. bind (actuals es (here_in c a n call b) s) (λ xs s. Gives (ByPlace x ∷ xs) s)))
  short_actual m t es p ps pc p1 at ops os s w ih_es le has ok first fits =
      bind_by c first λ x s1 w1 k1.
      by_bind_by c (ih_es ps p1 at (Pw s1.made x ∷ ops) s1.made s1 w1 (omega (arith, le)) has ok (from_here c a n call b k1.1)) λ ws xs s2 w2 k2.
      let at2 = place_of_more c s1.made s2.made k2.1.objects (K c a) t x k1.0 in
      let same = address_same c s1.made s2.made k2.1.objects (K c a) x k1.0.0 in
      by_value c (Pw s2.made x ∷ ws) w2 (subst (λ z. Reach c (go c a (end_actuals c.program es p1) (onto ws (Pw s1.made x ∷ ops)) w2) (go c a (end_actuals c.program es p1) (onto ws (pos z ∷ ops)) w2)) (sym same) (here c _)) ((Pw s2.made x ∷ [], ws, refl, fits s2.made x at2, k2.0), since c a n call b k1.1.objects k2.1)

  -- an address with a tag or a length, and then the others
  long_actual : (m : M Place) (t : Form) (es : Actuals) (p : TypedParameter) (ps : List TypedParameter) (pc p1 at : ℕ) (ops : List ℤ) (os : List AnObject) (s : State) (w : World) → ActualsFollow c a n call b es → length ops + (2 + need_actuals es) ≤ 256 → code.ActualsCode (scope c a) es p1 at → typed.ActualsOk c.program (has_of c) a.unit (static_held c.program a.procedure) a.procedure.result es ps →
      Follows c (go c a pc ops w) (LongTo c a n call b p1 ops) (PlaceKept c a n call b t os) (m s) → ((os : List AnObject) (x : Place) → PlaceOf c.program (has_of c) c.img os (K c a) t x → ArgumentFits c os (K c a) p (ByPlace x) (Pw os x ∷ Sw os x ∷ [])) →
      FollowsBy c (go c a pc ops w) (To es p1 ops) (Fit (p ∷ ps) os) (bind (m s) (λ x s. bind (actuals es (here_in c a n call b) s) (λ xs s. Gives (ByPlace x ∷ xs) s)))
  long_actual m t es p ps pc p1 at ops os s w ih_es le has ok first fits =
      bind_by c first λ x s1 w1 k1.
      by_bind_by c (ih_es ps p1 at (Sw s1.made x ∷ Pw s1.made x ∷ ops) s1.made s1 w1 (omega (arith, le)) has ok (from_here c a n call b k1.1)) λ ws xs s2 w2 k2.
      let at2 = place_of_more c s1.made s2.made k2.1.objects (K c a) t x k1.0 in
      let same = address_same c s1.made s2.made k2.1.objects (K c a) x k1.0.0 in
      let same_form = form_same c s1.made s2.made k2.1.objects (K c a) x k1.0.0 in
      let e = end_actuals c.program es p1 in
      let first_word = subst (λ z. Reach c (go c a e (onto ws (Sw s1.made x ∷ Pw s1.made x ∷ ops)) w2) (go c a e (onto ws (Sw s1.made x ∷ pos z ∷ ops)) w2)) (sym same) (here c _) in
      let both = subst (λ z. Reach c (go c a e (onto ws (Sw s1.made x ∷ Pw s1.made x ∷ ops)) w2) (go c a e (onto ws (second_word c.program (has_of c) c.img z ∷ Pw s2.made x ∷ ops)) w2)) (sym same_form) first_word in
      by_value c (Pw s2.made x ∷ Sw s2.made x ∷ ws) w2 both ((Pw s2.made x ∷ Sw s2.made x ∷ [], ws, refl, fits s2.made x at2, k2.0), since c a n call b k1.1.objects k2.1)

  abbrev Pl : Form → List AnObject → Place → Type 0
  Pl t os x = PlaceOf c.program (has_of c) c.img os (K c a) t x

  abbrev T : Desig → Form
  T d = code.form_of (scope c a) d

  pub structure_actual_case : (t : TypeRef) (d : Desig) (es : Actuals) → PlaceFollows c a n call b d → ActualsFollow c a n call b es → ActualsFollow c a n call b (AnActual passing.Structure t (ValueOf d) es)
  structure_actual_case t d es ih_d ih_es [] pc at ops os s w le has ok st = absurd ok
  structure_actual_case t d es ih_d ih_es (p ∷ ps) pc at ops os s w le has ok st =
      let p1 = end_place c.program d pc in
      subst (λ r. FollowsBy c (go c a pc ops w) (To es p1 ops) (Fit (p ∷ ps) os) r) (sym (place_steps (place d (here_in c a n call b) s) (actuals es (here_in c a n call b))))
      (short_actual (place d (here_in c a n call b)) (T d) es p ps pc p1 _ ops os s w ih_es (omega (arith, le)) has.1 ok.1.1.1 (ih_d pc at ops os s w (omega (arith, le)) has.0 ok.1.1.0.0 st)
      (λ os x h. let k : Pl (form_in c.program p.of) os x = (h.0, sub_on h.1 ok.1.1.0.1) in rw (sym ok.0) (inl (x, refl, refl, k))))

  pub variable_record_actual_case : (t : TypeRef) (d : Desig) (es : Actuals) → RecordFollows c a n call b d → ActualsFollow c a n call b es → ActualsFollow c a n call b (AnActual passing.VariableRecord t (ValueOf d) es)
  variable_record_actual_case t d es ih_d ih_es [] pc at ops os s w le has ok st = absurd ok
  variable_record_actual_case t d es ih_d ih_es (p ∷ ps) pc at ops os s w le has ok st =
      let p1 = end_tagged c.program d pc in
      subst (λ r. FollowsBy c (go c a pc ops w) (To es p1 ops) (Fit (p ∷ ps) os) r) (sym (place_steps (place d (here_in c a n call b) s) (actuals es (here_in c a n call b))))
      (long_actual (place d (here_in c a n call b)) (T d) es p ps pc p1 _ ops os s w ih_es (omega (arith, le)) has.1 ok.1.1.1 (ih_d pc at ops os s w (omega (arith, le)) has.0 ok.1.1.0.0 ok.1.1.0.1.0 st)
      (λ os x h. let k : Pl (form_in c.program p.of) os x = (h.0, ok.1.1.0.1.1 _ h.1) in rw (sym ok.0) (x, refl, refl, k)))

  -- the address and the length of an array
  array_follows : (d : Desig) (u : Form) → PlaceFollows c a n call b d → OpenArrayFollows c a n call b d → typed.IsArrayOf (T d) u → (pc at : ℕ) (ops : List ℤ) (os : List AnObject) (s : State) (w : World) → length ops + max (need_open d) (max 2 (need_place d)) ≤ 256 → code.ArrayCode (scope c a) (ValueOf d) pc at → DesigOk c a n call b d → Keeps c a n call b os s w →
      Follows c (go c a pc ops w) (LongTo c a n call b (end_array c.program (ValueOf d) pc) ops) (PlaceKept c a n call b (OpenForm u) os) (place d (here_in c a n call b) s)
  array_follows d u ih_d ih_open is pc at ops os s w le has ok st = ⊎_elim opens fixed is
    where
      p1 : ℕ
      p1 = end_place c.program d pc

      Goal : Form → Type 0
      Goal f = Follows c (go c a pc ops w) (LongTo c a n call b (is_open f (end_open c.program d pc) (suc p1)) ops) (PlaceKept c a n call b (OpenForm u) os) (place d (here_in c a n call b) s)

      Code : Form → Type 0
      Code f = code.Form2 (scope c a) f (code.OpenCode (scope c a) d pc at) (code.PlaceCode (scope c a) d pc at × code.Has (scope c a) p1 (code.with_a op.Int (code.fixed_length (scope c a) f)))

      opens : T d ≡ OpenForm u → Goal (T d)
      opens e = subst Goal (sym e) (follows_map c (ih_open u pc at ops os s w (omega (arith, le)) (subst Code e has) ok e st) (λ p s w k. here c _) (λ p s w k. ((k.0.0, subst (λ f. Sub (place_form c.program c.img s.made (K c a) p) f) e k.0.1), k.1)))

      fixed : (m : ℕ) × (T d ≡ ArrayForm m u) → Goal (T d)
      fixed f =
          let h : code.PlaceCode (scope c a) d pc at × code.Has (scope c a) p1 (code.with_a op.Int f.0) = subst Code f.1 has in
          subst Goal (sym f.1) (follows_map c (ih_d pc at ops os s w (omega (arith, le)) h.0 ok st)
          (λ p s w k.
          subst (λ z. Reach c (go c a p1 (Pw s.made p ∷ ops) w) (go c a (suc p1) (second_word c.program (has_of c) c.img z ∷ Pw s.made p ∷ ops) w)) (sym (sub_array _ (T d) f.0 u k.0.1 f.1))
          (goes c a _ w h.1 (rows.int_next c.img a.u a.m a.p (fb c a) p1 w (pos f.0) (Pw s.made p ∷ ops)) (omega (arith, le))))
          (λ p s w k. ((k.0.0, subst (λ z. Sub z (OpenForm u)) (sym (sub_array _ (T d) f.0 u k.0.1 f.1)) (opened f.0)), k.1)))

  pub open_actual_case : (t : TypeRef) (d : Desig) (es : Actuals) → PlaceFollows c a n call b d → OpenArrayFollows c a n call b d → ActualsFollow c a n call b es → ActualsFollow c a n call b (AnActual passing.OpenArray t (ValueOf d) es)
  open_actual_case t d es ih_d ih_open ih_es [] pc at ops os s w le has ok st = absurd ok
  open_actual_case t d es ih_d ih_open ih_es (p ∷ ps) pc at ops os s w le has ok st =
      let p1 = end_array c.program (ValueOf d) pc in
      subst (λ r. FollowsBy c (go c a pc ops w) (To es p1 ops) (Fit (p ∷ ps) os) r) (sym (place_steps (place d (here_in c a n call b) s) (actuals es (here_in c a n call b))))
      (long_actual (place d (here_in c a n call b)) (OpenForm ok.1.1.0.1.0) es p ps pc p1 _ ops os s w ih_es (omega (arith, le)) has.1 ok.1.1.1 (array_follows d ok.1.1.0.1.0 ih_d ih_open ok.1.1.0.1.2 pc at ops os s w (omega (arith, le)) has.0 ok.1.1.0.0 st)
      (λ os x h. let k : Pl (form_in c.program p.of) os x = (h.0, subst (λ u. Sub (place_form c.program c.img os (K c a) x) u) (sym ok.1.1.0.1.1) h.1) in rw (sym ok.0) (inl (x, refl, refl, k))))

  pub variable_open_actual_case : (t : TypeRef) (d : Desig) (es : Actuals) → PlaceFollows c a n call b d → OpenArrayFollows c a n call b d → ActualsFollow c a n call b es → ActualsFollow c a n call b (AnActual passing.VariableOpenArray t (ValueOf d) es)
  variable_open_actual_case t d es ih_d ih_open ih_es [] pc at ops os s w le has ok st = absurd ok
  variable_open_actual_case t d es ih_d ih_open ih_es (p ∷ ps) pc at ops os s w le has ok st =
      let p1 = end_array c.program (ValueOf d) pc in
      subst (λ r. FollowsBy c (go c a pc ops w) (To es p1 ops) (Fit (p ∷ ps) os) r) (sym (place_steps (place d (here_in c a n call b) s) (actuals es (here_in c a n call b))))
      (long_actual (place d (here_in c a n call b)) (OpenForm ok.1.1.0.1.0) es p ps pc p1 _ ops os s w ih_es (omega (arith, le)) has.1 ok.1.1.1 (array_follows d ok.1.1.0.1.0 ih_d ih_open ok.1.1.0.1.2 pc at ops os s w (omega (arith, le)) has.0 ok.1.1.0.0 st)
      (λ os x h. let k : Pl (form_in c.program p.of) os x = (h.0, subst (λ u. Sub (place_form c.program c.img os (K c a) x) u) (sym ok.1.1.0.1.1) h.1) in rw (sym ok.0) (x, refl, refl, k)))

  -- STRINGS

  always_filled : (text : List ℕ) (m at : ℕ) → code.FilledStands (scope c a) text m at → AlwaysAt c (a.u.first + at) (text_words text m)
  always_filled text m at h os g =
      let r = texts_at c os c.program g a.unit h.before (text_words text m) h.behind h.is in
      record { before = r.before; behind = r.behind; at = omega (arith, r.at, a.first, h.offset); is = r.is }

  with_end : (text : List ℕ) → text_words text (suc (length text)) ≡ map pos text ++ (pos 0 ∷ [])
  with_end text = front text (length text)
    where
      front : (text : List ℕ) (k : ℕ) → take (suc (length text)) (map pos text ++ replicate (suc k) (pos 0)) ≡ map pos text ++ (pos 0 ∷ [])
      front [] k = refl
      front (x ∷ text) k = ap (λ l. pos x ∷ l) (front text k)

  always_text : (text : List ℕ) (at : ℕ) → code.TextStands (scope c a) text at → AlwaysAt c (a.u.first + at) (text_words text (suc (length text)))
  always_text text at h os g =
      let r = texts_at c os c.program g a.unit h.before (map pos text ++ (pos 0 ∷ [])) h.behind (h.is ∙ ap (λ l. h.before ++ l) (sym (append_assoc (map pos text) (pos 0 ∷ []) h.behind))) in
      record { before = r.before; behind = r.behind; at = omega (arith, r.at, a.first, h.offset); is = r.is ∙ ap (λ l. r.before ++ (l ++ r.behind)) (sym (with_end text)) }

  -- its address is put on the operands
  string_goes : (at : ℕ) (ws : List ℤ) (pc : ℕ) (ops : List ℤ) (s : State) (w : World) → length ops + 1 ≤ 256 → StandIn c (K c a) s w → code.Has (scope c a) pc (code.with_a op.Global at) → AlwaysAt c (a.u.first + at) ws → Reach c (go c a pc ops w) (go c a (suc pc) (pos (a.u.first + at) ∷ ops) w)
  string_goes at ws pc ops s w le st has h =
      let r = h s.made s.store.globals in
      let all = all_length c (K c a) s w st in
      let long = ap length st.words ∙ length-append (flat_modules c.program (has_of c) c.img s.made c.program s.store.globals) _ in
      let part = ap length r.is ∙ length-append r.before (ws ++ r.behind) in
      let small = small_word c (a.u.first + at) (omega (arith, r.at, all, long, part)) in
      goes c a _ w has (rows.global_next c.img a.u a.m a.p (fb c a) pc w at ops small) (omega (arith, le))

  pub string_actual_case : (t : TypeRef) (text : List ℕ) (es : Actuals) → ActualsFollow c a n call b es → ActualsFollow c a n call b (AnActual passing.Structure t (Constant (literal.Str text)) es)
  string_actual_case t text es ih_es [] pc at ops os s w le has ok st = absurd ok
  string_actual_case t text es ih_es (p ∷ ps) pc at ops os s w le has ok st =
      let m = ok.1.1.0.0 in
      let form : form_in c.program t ≡ ArrayForm m char = ok.1.0.0 ∙ ok.1.1.0.1 in
      let size : words (form_in c.program t) ≡ m = ap words form ∙ omega arith in
      let always = always_filled text m at (subst (λ k. code.FilledStands (scope c a) text k at) size has.0.1) in
      let x = pos (a.u.first + at) in
      by_after c (string_goes at (text_words text m) pc ops s w (omega (arith, le)) st.all has.0.0 always)
      (by_bind_by c (ih_es ps (suc pc) _ (x ∷ ops) os s w (omega (arith, le)) has.1 ok.1.1.1 st) λ ws xs s2 w2 k2.
      let arg : ArgumentFits c s2.made (K c a) p (ByText text) (x ∷ []) = rw (sym ok.0) (inr (text, a.u.first + at, m, refl, refl, ok.1.1.0.1, ok.1.1.0.3, always)) in
      by_value c (x ∷ ws) w2 (here c _) ((x ∷ [], ws, refl, arg, k2.0), k2.1))

  pub open_string_actual_case : (t : TypeRef) (text : List ℕ) (es : Actuals) → ActualsFollow c a n call b es → ActualsFollow c a n call b (AnActual passing.OpenArray t (Constant (literal.Str text)) es)
  open_string_actual_case t text es ih_es [] pc at ops os s w le has ok st = absurd ok
  open_string_actual_case t text es ih_es (p ∷ ps) pc at ops os s w le has ok st =
      let always = always_text text at has.0.1.0 in
      let x = pos (a.u.first + at) in
      let y = pos (suc (length text)) in
      let first = string_goes at (text_words text (suc (length text))) pc ops s w (omega (arith, le)) st.all has.0.0 always in
      let second = goes c a _ w has.0.1.1 (rows.int_next c.img a.u a.m a.p (fb c a) (suc pc) w y (x ∷ ops)) (omega (arith, le)) in
      by_after c (then_reach c first second)
      (by_bind_by c (ih_es ps (suc (suc pc)) _ (y ∷ x ∷ ops) os s w (omega (arith, le)) has.1 ok.1.1.1 st) λ ws xs s2 w2 k2.
      let arg : ArgumentFits c s2.made (K c a) p (ByText text) (x ∷ y ∷ []) = rw (sym ok.0) (inr (text, a.u.first + at, refl, refl, ok.1.1.0.0, ok.1.1.0.1, always)) in
      by_value c (x ∷ y ∷ ws) w2 (here c _) ((x ∷ y ∷ [], ws, refl, arg, k2.0), k2.1))

  -- CALLS

  onto_is : (ws ops : List ℤ) → onto ws ops ≡ reverse ws ++ ops
  onto_is [] ops = refl
  onto_is (x ∷ ws) ops = onto_is ws (x ∷ ops) ∙ sym (append_assoc (reverse ws) (x ∷ []) ops) ∙ ap (λ l. l ++ ops) (sym (reverse-append (x ∷ []) ws))

  module _ (link : Linked c) where
    pub procedure_found : (q : QName) (p : Procedure) → (ps : ProcedureStands c q p) → procedure_of c.img (number_of c.program (has_of c) c.img q) ≡ Some ps.entry
    procedure_found q p ps = ap (λ m. slice_get (procedures_of (slice_get c.img.modules m)) ((number_of c.program (has_of c) c.img q).proc)) ps.named ∙ ap (λ o. slice_get (procedures_of o) ((number_of c.program (has_of c) c.img q).proc)) ps.is.is ∙ ps.found

    -- the operands are as many as the procedure has slots
    with_is : (q : QName) (p : Procedure) (ps : ProcedureStands c q p) (pc : ℕ) (ws ops : List ℤ) (w : World) → length ws ≡ slots ps.entry.params → calls_with c.img (number_of c.program (has_of c) c.img q) (onto ws ops) w ≡ calls c.img (number_of c.program (has_of c) c.img q) ws ops w
    with_is q p ps pc ws ops w len =
        let r = number_of c.program (has_of c) c.img q in
        let is = onto_is ws ops in
        let rl : length (reverse ws) ≡ slots ps.entry.params = length-reverse ws ∙ len in
        let all : length (onto ws ops) ≡ slots ps.entry.params + length ops = ap length is ∙ length-append (reverse ws) ops ∙ omega (arith, rl) in
        let fits : nat_le (slots ps.entry.params) (length (onto ws ops)) ≡ true = grind (arith, nat_tests) in
        let front : take (slots ps.entry.params) (onto ws ops) ≡ reverse ws = ap (take (slots ps.entry.params)) is ∙ ap (λ k. take k (reverse ws ++ ops)) (sym rl) ∙ take-append_seam (reverse ws) ops in
        let back : drop (slots ps.entry.params) (onto ws ops) ≡ ops = ap (drop (slots ps.entry.params)) is ∙ ap (λ k. drop k (reverse ws ++ ops)) (sym rl) ∙ drop-append_seam (reverse ws) ops in
        rows.calls_with_is c.img a.u a.m a.p pc pc w r ps.entry (onto ws ops) (procedure_found q p ps) fits
        ∙ ap (λ l. calls c.img r (reverse l) (drop (slots ps.entry.params) (onto ws ops)) w) front ∙ ap (λ l. calls c.img r l (drop (slots ps.entry.params) (onto ws ops)) w) (reverse-reverse ws) ∙ ap (λ l. calls c.img r ws l w) back

    -- the instruction of a call of a declared procedure
    pub record CallsIt (pc : ℕ) (q : QName) (ws ops : List ℤ) (w : World) : Type 0 where
      pub i : Instr
      pub has : machine.Has a.u pc i
      pub is : row c.img a.u a.m a.p (fb c a) pc i.op i.a i.b (onto ws ops) w ≡ calls c.img (number_of c.program (has_of c) c.img q) ws ops w

    calls_it : (q : QName) (p : Procedure) (pc : ℕ) (ws ops : List ℤ) (w : World) → (ps : ProcedureStands c q p) → length ws ≡ slots ps.entry.params → (z : Bool) → bytes_eq q.module a.unit ≡ z → OrElse z (code.Has (scope c a) pc (code.with_a op.Call ((number_of c.program (has_of c) c.img q).proc))) ((k : ℕ) × code.Has (scope c a) pc (code.with_a op.CallX k) × (slice_get a.u.procedure_links k ≡ Some (number_of c.program (has_of c) c.img q))) → CallsIt pc q ws ops w
    calls_it q p pc ws ops w ps len true e h =
        let proc = (number_of c.program (has_of c) c.img q).proc in
        let same : module_number c.program q.module ≡ a.m = ap (module_number c.program) (bytes_true q.module a.unit e) ∙ a.named in
        let found : slice_get a.u.procedures proc ≡ Some ps.entry = sym (ap (λ o. slice_get (procedures_of o) proc) a.is.is) ∙ ap (λ m. slice_get (procedures_of (slice_get c.img.modules m)) proc) (sym same) ∙ procedure_found q p ps in
        let lt = slice_get_within a.u.procedures proc ps.entry found in
        let below : nat_lt proc (length a.u.procedures) ≡ true = grind (arith, nat_tests) in
        record {
          i = code.with_a op.Call proc;
          has = has_it c a h;
          is = rows.call_is c.img a.u a.m a.p (fb c a) pc w proc (onto ws ops) below ∙ ap (λ m. calls_with c.img (record { «module» = m; proc = proc }) (onto ws ops) w) (sym same) ∙ with_is q p ps pc ws ops w len;
        }
    calls_it q p pc ws ops w ps len false e h = record {
      i = code.with_a op.CallX h.0;
      has = has_it c a h.1;
      is = rows.call_x_is c.img a.u a.m a.p (fb c a) pc w h.0 (number_of c.program (has_of c) c.img q) (onto ws ops) h.2 ∙ with_is q p ps pc ws ops w len;
    }

    module _ (calls_follow : CallsFollow c call b) where
      -- a call of a declared procedure, with what comes behind it
      call_goes : (q : QName) (p : Procedure) (xs : List Passed) (ws ops : List ℤ) (at : Pos) (pc : ℕ) (os : List AnObject) (s : State) (w : World) → values.procedure_of c.program q ≡ Some p → code.CallCode (scope c a) (callee.Declared q) NoActual pc at → ArgumentsFit c s.made (K c a) p.parameters xs ws → length ops + 1 ≤ 256 → Keeps c a n call b os s w →
          Follows c (go c a pc (onto ws ops) w) (λ r s w. go c a (suc pc) (result_words c s.made r ++ ops) w) (λ r s w. ResultFine c p.result s.made r × Keeps c a n call b os s w) (call q xs a.unit at s)
      call_goes q p xs ws ops at pc os s w found has fit le st =
          let ps = link q p found in
          let len = slots_fit c s.made (K c a) p.parameters ps.entry.params xs ws ps.kinds fit in
          let it = calls_it q p pc ws ops w ps len (bytes_eq q.module a.unit) refl has.0.is in
          let depth : length (K c a) ≡ suc (length a.acts) = ap suc a.depth in
          calls_follow q p xs ws ops a.unit at a.m a.p (fb c a) pc a.u it.i (K c a) a.acts (onto ws ops) os s w a.is a.named it.has has.1 it.is found fit (by p.result le) depth st
        where
          by : (r : Option TypeRef) → length ops + 1 ≤ 256 → length ops + result_slots c r ≤ 256
          by None le = omega (arith, le)
          by (Some t) le = le

      pub call_case : (q : QName) (es : Actuals) (at : Pos) (r : Option TypeRef) → ActualsFollow c a n call b es → ExprFollows c a n call b (Call (callee.Declared q) es at r)
      call_case q es at r ih t pc k ops os s w le has ok st = by r refl ok.1
        where
          p : Procedure
          p = ok.0.0

          p1 : ℕ
          p1 = end_actuals c.program es pc

          by : (z : Option TypeRef) → r ≡ z → typed.ResultOk c.program (has_of c) a.unit (static_held c.program a.procedure) a.procedure.result z t → Follows c (go c a pc ops w) (λ v s w. go c a (suc p1) (W s.made v ∷ ops) w) (λ v s w. Fine c.program (has_of c) s.made t v × Keeps c a n call b os s w) (bind (actuals es (here_in c a n call b) s) (λ xs s. bind (call q xs a.unit at s) (λ v. give (result_of v))))
          by None e h = absurd h
          by (Some u) e h =
              let is : result_form c.program p.result ≡ result_form c.program (Some u) = ok.0.2 ∙ ap (result_form c.program) e in
              by_bind c (ih p.parameters pc k ops os s w (omega (arith, le)) has.0 ok.0.3 st) λ ws xs s1 w1 k1.
              follows_bind c (call_goes q p xs ws ops at p1 os s1 w1 ok.0.1 has.1 k1.0 (omega (arith, le)) k1.1) λ v s2 w2 k2.
              let g : ResultFine c (Some u) s2.made v = result_fine c p.result (Some u) s2.made v is k2.0 in
              subst (λ v. Follows c (go c a (suc p1) (result_words c s2.made v ++ ops) w2) (λ v s w. go c a (suc p1) (W s.made v ∷ ops) w) (λ v s w. Fine c.program (has_of c) s.made t v × Keeps c a n call b os s w) (give (result_of v) s2)) (sym g.1)
              (follows_value c w2 (here c _) (widen c s2.made a (form_in c.program u) t g.0 h.1 g.3, k2.1))

      pub call_proper_case : (q : QName) (es : Actuals) (at : Pos) (r : Option TypeRef) → ActualsFollow c a n call b es → StmtFollows c a n call b (CallProper (Call (callee.Declared q) es at r))
      call_proper_case q es at r ih l exit pc k os s w le inside lies has ok st =
          let p = ok.0.0 in
          let p1 = end_actuals c.program es pc in
          let is : result_form c.program p.result ≡ result_form c.program None = ok.0.2 ∙ ap (result_form c.program) ok.1 in
          follows_bind c
          (by_bind c (ih p.parameters pc k [] os s w (omega (arith, le)) has.0 ok.0.3 st) λ ws xs s1 w1 k1.
          follows_bind c (call_goes q p xs ws [] at p1 os s1 w1 ok.0.1 has.1 k1.0 (omega arith) k1.1) λ v s2 w2 k2.
          let g : v ≡ None = result_fine c p.result None s2.made v is k2.0 in
          subst (λ v. Follows c (go c a (suc p1) (result_words c s2.made v ++ []) w2) (λ v s w. go c a (suc p1) [] w) (λ v s w. Keeps c a n call b os s w) (give (result_of v) s2)) (sym g)
          (follows_value c w2 (here c _) k2.1))
          λ v s3 w3 k3. follows_value c w3 (here c _) (tt, k3)
