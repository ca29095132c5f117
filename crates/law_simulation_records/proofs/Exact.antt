-- Designators of records at whose place just their static type stands, and the tags of these and of objects.
use Rattle.std.proofs.lemmas.Bool.{ltb-true}
use Rattle.std.proofs.Common.{◌≡◌, ℕ, suc, ◌+◌, ◌*◌, ◌≤◌, ◌<◌, List, [], ◌∷◌, length, Some, None, ℤ, refl, sym, ap, ◌∙◌, subst, arith, ⊎_elim}
use Rattle.std.specs.Prelude.{pos, negsuc, Bool, true, false, nat_lt, bytes_eq, if◌then◌else◌, ◌-ℤ◌}
use Rattle.ob_trap.specs.declared.trap.Trap.TheVariants as trap
use Rattle.ob_tree.specs.declared.pos.Pos.{Pos}
use Rattle.ob_tree.specs.declared.names.QName.{QName}
use Rattle.ob_types.specs.declared.types.TypeRef.{TypeRef}
use Rattle.ob_types.specs.declared.typed.Passing.TheVariants as passing
use Rattle.ob_types.specs.declared.typed.Variable.{Variable}
use Rattle.ob_types.specs.declared.typed.Variable.TheVariants as variable
use Rattle.ob_types.specs.TypedSyntax.{Desig, OfVariable, Field, Index, Deref, Expr}
use Rattle.ob_mem.specs.Words.{word_at}
use Rattle.ob_instr.specs.declared.opcode.Opcode.TheVariants as op
use Rattle.ob_instr.specs.Image.{World}
use Rattle.ob_instr.specs.Rows.{Next, is_zero, tag}
use Rattle.ob_instr.proofs.Goes as rows
use Rattle.ob_meaning.specs.Values.{Form, PointerForm, ArrayForm, fields_of, form_in, record_in, words, Value, Nil, Object, integer_of, value_at, FieldStep, ElementStep, OfCall, OfObject, Place, At, inside, Held, Own, Referred, Copied, Active, AnObject, State}
use Rattle.ob_meaning.specs.Results.{Trapped, Gives, Stops, bind, Caller}
use Rattle.ob_meaning.specs.Meaning.{place, value, indexed, place_of, choose, element_place, pointee}
use Rattle.law_simulation_relation.specs.Layout.{type_number, field_offset, element_of_form, path_offset, form_named, static_held, object_at, object_offset, heap_start, place_form, address}
use Rattle.law_simulation_relation.specs.Relation.{OrElse, Fine, HeldFine, Scalar, SlotsFit, PathIn, PlaceIn, Sub, itself, word_of, second_word}
use Rattle.law_simulation_relation.specs.Need.{need_place}
use Rattle.law_simulation_relation.specs.Ends.{end_variable, end_place, end_open, end_expr}
use Rattle.law_simulation_relation.specs.Stands as code
use Rattle.law_simulation_relation.specs.Typed.{As, IsOwn, IsReferred, IsRecordForm, longint}
use Rattle.law_simulation_relation.specs.Plain.{Plain}
use Rattle.law_simulation_relation.proofs.Steps.{Reach, Follows, follows_bind, follows_value, follows_stop, follows_map, stands_any}
use Rattle.law_simulation_relation.proofs.Statements.{Activation, scope, go, fb, K, here_in, Keeps, PlaceTo, LongTo, PlaceKept, PlaceFollows, ExprFollows, DesigOk, RecordFollows, OpenArrayFollows}
use Rattle.law_simulation_relation.proofs.Grow.{address_same, form_same, place_of_more}
use Rattle.law_simulation_relation.proofs.Needs.{need_one, need_one_e}
use Rattle.law_simulation_relation.proofs.Located.{located}
use Rattle.law_simulation_relation.proofs.Copied.{copy_held}
use Rattle.law_simulation_relation.proofs.Parameters.{structure_parameter_case}
use Rattle.law_simulation_relation.proofs.Frames.{own_fixed, referred_fixed, call_alike, same_alike, own_form}
use Rattle.law_simulation_relation.proofs.Moves.{goes, traps, address_small, small_word}
use Rattle.law_simulation_relation.proofs.Variables.{variable_of, variable_goes}
use Rattle.law_simulation_relation.proofs.Paths.{inside_in, inside_form, inside_address, sub_field, sub_array}
use Rattle.law_simulation_relation.proofs.Exprs.{from_here, since}
use Rattle.law_simulation_relation.proofs.Sources.{place_ok}
use Rattle.law_simulation_relation.specs.Setting.{Setting, StandIn, has_of}
use Rattle.law_simulation_records.specs.Bases.{BasesStand}
use Rattle.law_simulation_records.proofs.Bases.{there}
use Rattle.law_simulation_records.proofs.Tags.{one_less, array_below, is_record, record_below, object_tag}
use Rattle.law_simulation_records.proofs.Pointers.{HolderFollows, holder_load}

module _ (c : Setting) where
  -- a parameter by VAR has as many slots as its type asks for
  slots_fit : (os : List AnObject) (cs : List Active) (places : List ℕ → Place) (hs : List Held) (k : ℕ) (x : List ℕ) (g : List ℕ → Value) → As (IsReferred k) hs x → HeldFine c.program (has_of c) c.img os cs places hs g → SlotsFit c.program (has_of c) c.img k (form_named hs x)
  slots_fit os cs places [] k x g h fine = absurd h
  slots_fit os cs places (Own y t ∷ hs) k x g h fine = go (bytes_eq x y) h (λ h. slots_fit os cs places hs k x g h fine.1.1)
    where
      go : (b : Bool) → OrElse b ⊥ (As (IsReferred k) hs x) → (As (IsReferred k) hs x → SlotsFit c.program (has_of c) c.img k (form_named hs x)) → SlotsFit c.program (has_of c) c.img k (if b then t else form_named hs x)
      go true h r = absurd h
      go false h r = r h
  slots_fit os cs places (Copied y n t ∷ hs) k x g h fine = go (bytes_eq x y) h (λ h. slots_fit os cs places hs k x g h fine.1.1)
    where
      go : (b : Bool) → OrElse b ⊥ (As (IsReferred k) hs x) → (As (IsReferred k) hs x → SlotsFit c.program (has_of c) c.img k (form_named hs x)) → SlotsFit c.program (has_of c) c.img k (if b then t else form_named hs x)
      go true h r = absurd h
      go false h r = r h
  slots_fit os cs places (Referred y n t ∷ hs) k x g h fine = go (bytes_eq x y) h (λ h. slots_fit os cs places hs k x g h fine.1.1)
    where
      go : (b : Bool) → OrElse b (n ≡ k) (As (IsReferred k) hs x) → (As (IsReferred k) hs x → SlotsFit c.program (has_of c) c.img k (form_named hs x)) → SlotsFit c.program (has_of c) c.img k (if b then t else form_named hs x)
      go true h r = subst (λ m. SlotsFit c.program (has_of c) c.img m t) h fine.0
      go false h r = r h

module _ (c : Setting) (a : Activation c) (n : ℕ) (call : Caller) (b : ℕ) where
  abbrev Kp : List AnObject → State → World → Type 0
  Kp os s w = Keeps c a n call b os s w

  abbrev T : Desig → Form
  T d = code.form_of (scope c a) d

  abbrev form_at : State → Place → Form
  form_at s p = place_form c.program c.img s.made (K c a) p

  abbrev address_at : State → Place → ℕ
  address_at s p = address c.program c.img s.made (K c a) p

  abbrev In : State → Place → Type 0
  In s p = PlaceIn c.program (has_of c) c.img s.made (K c a) p

  abbrev pub ExactKept : Form → List AnObject → Place → State → World → Type 0
  ExactKept t os p s w = (In s p × (form_at s p ≡ t)) × Kp os s w

  abbrev pub ExactFollows : Desig → Type 0
  ExactFollows d = (pc at : ℕ) (ops : List ℤ) (os : List AnObject) (s : State) (w : World) → length ops + need_place d ≤ 256 → code.PlaceCode (scope c a) d pc at → DesigOk c a n call b d → IsRecordForm (T d) → Kp os s w →
      Follows c (go c a pc ops w) (PlaceTo c a n call b (end_place c.program d pc) ops) (ExactKept (T d) os) (place d (here_in c a n call b) s)

  -- VARIABLES

  own_exact : (x : List ℕ) (t : Form) (s : State) → As IsOwn (static_held c.program a.procedure) x → form_named (static_held c.program a.procedure) x ≡ t → form_at s (At (OfCall (length a.cs) x) []) ≡ t
  own_exact x t s h e = let k = same_alike IsOwn own_fixed _ _ x (call_alike c.program a.procedure a.active a.call) h in own_form c s.made a.cs a.active x ∙ k.form ∙ e

  variable_exact : (v : Variable) (t : TypeRef) (s : State) (w : World) → StandIn c (K c a) s w → Plain v → DesigOk c a n call b (OfVariable v t) → IsRecordForm (form_in c.program t) → form_at s (place_of v (K c a)) ≡ form_in c.program t
  variable_exact (variable.Module m x) t s w st pl ok is = ok.0.1
  variable_exact (variable.Local x) t s w st pl ok is = own_exact x (form_in c.program t) s ok.0.0 ok.0.1
  variable_exact (variable.Parameter passing.Scalar x) t s w st pl ok is = own_exact x (form_in c.program t) s ok.0.0 ok.0.1
  variable_exact (variable.Parameter passing.Variable x) t s w st pl ok is =
      let k = same_alike (IsReferred 1) (referred_fixed 1) _ _ x (call_alike c.program a.procedure a.active a.call) ok.0.0 in
      let fits = slots_fit c s.made a.cs a.active.places a.active.held 1 x (s.store.locals (length a.cs)) k.as_it st.calls_fine.1.1 in
      let two : 1 ≡ 2 = subst (λ u. SlotsFit c.program (has_of c) c.img 1 u) (k.form ∙ ok.0.1 ∙ is.1) fits in
      absurd (omega (arith, two))
  variable_exact (variable.Parameter passing.Structure x) t s w st pl ok is = absurd pl
  variable_exact (variable.Parameter passing.OpenArray x) t s w st pl ok is = absurd pl
  variable_exact (variable.Parameter passing.VariableRecord x) t s w st pl ok is = absurd pl
  variable_exact (variable.Parameter passing.VariableOpenArray x) t s w st pl ok is = absurd pl

  pub exact_variable_case : (v : Variable) (t : TypeRef) → Plain v → ExactFollows (OfVariable v t)
  exact_variable_case v t pl pc at ops os s w le has ok is st =
      subst (λ k. Follows c (go c a pc ops w) (PlaceTo c a n call b (end_variable v pc) ops) (ExactKept (form_in c.program t) os) (Gives (place_of v k) s)) (sym st.calls)
      (follows_value c w (variable_goes c a s w st.all v (form_in c.program t) pc ops le pl has ok.0) (((variable_of c a s w st.all v (form_in c.program t) pl ok.0).0, variable_exact v t s w st.all pl ok is), st))

  -- of a variable at whose place the static type stands
  pub exact_at_case : (v : Variable) (t : TypeRef) → PlaceFollows c a n call b (OfVariable v t) → ((s : State) → DesigOk c a n call b (OfVariable v t) → form_at s (place_of v (K c a)) ≡ form_in c.program t) → ExactFollows (OfVariable v t)
  exact_at_case v t ih exact pc at ops os s w le has ok is st =
      let r = ih pc at ops os s w le has ok st in
      follows_value c r.by.0 r.by.1 ((r.by.2.0.0, ap (λ k. form_at s (place_of v k)) st.calls ∙ exact s ok), r.by.2.1)

  -- of a parameter by value, which is a copy
  pub exact_structure_case : (x : List ℕ) (t : TypeRef) → ExactFollows (OfVariable (variable.Parameter passing.Structure x) t)
  exact_structure_case x t =
      exact_at_case (variable.Parameter passing.Structure x) t (structure_parameter_case c a n call b x t)
      (λ s ok. let k = copy_held c.program a.procedure a.active 1 x a.call ok.0.0 in own_form c s.made a.cs a.active x ∙ k.form ∙ ok.0.1)

  -- FIELDS AND ELEMENTS

  pub exact_field_case : (d : Desig) (o : QName) (x : List ℕ) (t : TypeRef) → PlaceFollows c a n call b d → ExactFollows (Field d o x t)
  exact_field_case d o x t ih pc k ops os s w le has ok is st =
      let p1 = end_place c.program d pc in
      follows_bind c (ih pc k ops os s w le has.0 ok.0 st) λ p s1 w1 k1.
      let r = sub_field (form_at s1 p) (T d) ok.1.0 (fields_of (T d)) o x k1.0.1 ok.1.1 ok.1.2 in
      let in_it = inside_in c s1.made (K c a) p (FieldStep o x) k1.0.0 r.in_it in
      let form : form_at s1 (inside p (FieldStep o x)) ≡ form_in c.program t = inside_form c s1.made (K c a) p (FieldStep o x) ∙ r.form ∙ ok.1.3 in
      let off : field_offset (fields_of (form_at s1 p)) o x ≡ field_offset (fields_of (record_in c.program o)) o x = r.offset ∙ ok.1.4 in
      let far : address_at s1 p + field_offset (fields_of (record_in c.program o)) o x ≡ address_at s1 (inside p (FieldStep o x)) = let e = inside_address c s1.made (K c a) p (FieldStep o x) in omega (arith, e, off) in
      let small = small_word c (address_at s1 p + field_offset (fields_of (record_in c.program o)) o x) (subst (λ m. m ≤ 5505025) (sym far) (address_small c (K c a) s1 w1 (inside p (FieldStep o x)) k1.1.all in_it)) in
      follows_value c w1
      (goes c a _ w1 has.1 (rows.offset_next c.img a.u a.m a.p (fb c a) p1 w1 (pos (address_at s1 p)) (pos (field_offset (fields_of (record_in c.program o)) o x)) ops small ∙ ap (λ m. Next (pos m ∷ ops) w1) far) (omega (arith, le, need_one d)))
      ((in_it, form), k1.1)

  element_exact : (z : ℤ) (p : Place) (l : ℕ) (t : Form) (at : Pos) (pc : ℕ) (ops : List ℤ) (os : List AnObject) (s : State) (w : World) → length ops + 1 ≤ 256 → code.HasAt (scope c a) pc (code.instr op.Index (pos l) (pos (words t))) at → In s p → form_at s p ≡ ArrayForm l t → Kp os s w →
      Follows c (go c a pc (z ∷ pos (address_at s p) ∷ ops) w) (PlaceTo c a n call b (suc pc) ops) (ExactKept t os) (element_place l p z (here_in c a n call b) at s)
  element_exact (negsuc i) p l t at pc ops os s w le has here_p e st =
      follows_stop c w (traps c a trap.IndexOutside (pos 0) w has (rows.index_traps c.img a.u a.m a.p (fb c a) pc w (pos (address_at s p)) (negsuc i) (pos l) (pos (words t)) ops refl)) (stands_any c st)
  element_exact (pos i) p l t at pc ops os s w le has here_p e st = by (nat_lt i l) refl
    where
      by : (z : Bool) → nat_lt i l ≡ z → Follows c (go c a pc (pos i ∷ pos (address_at s p) ∷ ops) w) (PlaceTo c a n call b (suc pc) ops) (ExactKept t os) (choose z (Gives (inside p (ElementStep i))) (λ s. Stops (Trapped trap.IndexOutside (pos 0) a.unit at) s) s)
      by false f = follows_stop c w (traps c a trap.IndexOutside (pos 0) w has (rows.index_traps c.img a.u a.m a.p (fb c a) pc w (pos (address_at s p)) (pos i) (pos l) (pos (words t)) ops f)) (stands_any c st)
      by true f =
          let lt = ltb-true i l f in
          let in_it = inside_in c s.made (K c a) p (ElementStep i) here_p (subst (λ u. PathIn u (ElementStep i ∷ [])) (sym e) (lt, tt)) in
          let form : form_at s (inside p (ElementStep i)) ≡ t = inside_form c s.made (K c a) p (ElementStep i) ∙ ap element_of_form e in
          let size : words (element_of_form (form_at s p)) ≡ words t = ap (λ u. words (element_of_form u)) e in
          let off : path_offset (form_at s p) (ElementStep i ∷ []) ≡ i * words t = ap (λ k. i * k + 0) size ∙ omega arith in
          let far : address_at s p + i * words t ≡ address_at s (inside p (ElementStep i)) = ap (λ k. address_at s p + k) (sym off) ∙ inside_address c s.made (K c a) p (ElementStep i) in
          let small = small_word c (address_at s p + i * words t) (subst (λ m. m ≤ 5505025) (sym far) (address_small c (K c a) s w (inside p (ElementStep i)) st.all in_it)) in
          follows_value c w
          (goes c a _ w has.has (rows.index_next c.img a.u a.m a.p (fb c a) pc w (pos (address_at s p)) (pos i) (pos l) (pos (words t)) ops f small ∙ ap (λ m. Next (pos m ∷ ops) w) far) (omega (arith, le)))
          ((in_it, form), st)

  pub exact_index_case : (d : Desig) (l : ℕ) (i : Expr) (at : Pos) (t : TypeRef) → PlaceFollows c a n call b d → ExprFollows c a n call b i → ExactFollows (Index d (Some l) i at t)
  exact_index_case d l i at t ih_d ih_i pc k ops os s w le has ok is st =
      let p1 = end_place c.program d pc in
      follows_bind c (ih_d pc k ops os s w (omega (arith, le)) has.0 ok.0 st) λ p s1 w1 k1.
      follows_bind c (ih_i longint p1 _ (pos (address_at s1 p) ∷ ops) s1.made s1 w1 (omega (arith, le)) has.1.0 ok.1.0 (from_here c a n call b k1.1)) λ v s2 w2 k2.
      let z = k2.0 in
      let same = address_same c s1.made s2.made k2.1.objects (K c a) p k1.0.0 in
      let kept = place_of_more c s1.made s2.made k2.1.objects (K c a) (T d) p k1.0 in
      let form = sub_array (form_at s2 p) (T d) l (form_in c.program t) kept.1 ok.1.1 in
      subst (λ v. Follows c (go c a (end_expr c.program i p1) (word_of c.program (has_of c) c.img s2.made v ∷ pos (address_at s1 p) ∷ ops) w2) (PlaceTo c a n call b (suc (end_expr c.program i p1)) ops) (ExactKept (form_in c.program t) os) (element_place l p (integer_of v) (here_in c a n call b) at s2)) (sym z.2)
      (subst (λ m. Follows c (go c a (end_expr c.program i p1) (z.0 ∷ pos m ∷ ops) w2) (PlaceTo c a n call b (suc (end_expr c.program i p1)) ops) (ExactKept (form_in c.program t) os) (element_place l p z.0 (here_in c a n call b) at s2)) same
      (element_exact z.0 p l (form_in c.program t) at (end_expr c.program i p1) ops os s2 w2 (omega (arith, le, need_one_e i)) has.1.1 kept.0 form (since c a n call b k1.1.objects k2.1)))

  -- ELEMENTS OF OPEN ARRAYS

  open_element_exact : (z : ℤ) (p : Place) (l : ℕ) (t : Form) (at : Pos) (pc : ℕ) (ops : List ℤ) (os : List AnObject) (s : State) (w : World) → length ops + 1 ≤ 256 → code.HasAt (scope c a) pc (code.with_a op.IndexO (words t)) at → In s p → form_at s p ≡ ArrayForm l t → Kp os s w →
      Follows c (go c a pc (z ∷ pos l ∷ pos (address_at s p) ∷ ops) w) (PlaceTo c a n call b (suc pc) ops) (ExactKept t os) (element_place l p z (here_in c a n call b) at s)
  open_element_exact (negsuc i) p l t at pc ops os s w le has here_p e st =
      follows_stop c w (traps c a trap.IndexOutside (pos 0) w has (rows.index_o_traps c.img a.u a.m a.p (fb c a) pc w (pos (address_at s p)) (pos l) (negsuc i) (pos (words t)) ops refl)) (stands_any c st)
  open_element_exact (pos i) p l t at pc ops os s w le has here_p e st = by (nat_lt i l) refl
    where
      by : (z : Bool) → nat_lt i l ≡ z → Follows c (go c a pc (pos i ∷ pos l ∷ pos (address_at s p) ∷ ops) w) (PlaceTo c a n call b (suc pc) ops) (ExactKept t os) (choose z (Gives (inside p (ElementStep i))) (λ s. Stops (Trapped trap.IndexOutside (pos 0) a.unit at) s) s)
      by false f = follows_stop c w (traps c a trap.IndexOutside (pos 0) w has (rows.index_o_traps c.img a.u a.m a.p (fb c a) pc w (pos (address_at s p)) (pos l) (pos i) (pos (words t)) ops f)) (stands_any c st)
      by true f =
          let lt = ltb-true i l f in
          let in_it = inside_in c s.made (K c a) p (ElementStep i) here_p (subst (λ u. PathIn u (ElementStep i ∷ [])) (sym e) (lt, tt)) in
          let form : form_at s (inside p (ElementStep i)) ≡ t = inside_form c s.made (K c a) p (ElementStep i) ∙ ap element_of_form e in
          let size : words (element_of_form (form_at s p)) ≡ words t = ap (λ u. words (element_of_form u)) e in
          let off : path_offset (form_at s p) (ElementStep i ∷ []) ≡ i * words t = ap (λ k. i * k + 0) size ∙ omega arith in
          let far : address_at s p + i * words t ≡ address_at s (inside p (ElementStep i)) = ap (λ k. address_at s p + k) (sym off) ∙ inside_address c s.made (K c a) p (ElementStep i) in
          let small = small_word c (address_at s p + i * words t) (subst (λ m. m ≤ 5505025) (sym far) (address_small c (K c a) s w (inside p (ElementStep i)) st.all in_it)) in
          follows_value c w
          (goes c a _ w has.has (rows.index_o_next c.img a.u a.m a.p (fb c a) pc w (pos (address_at s p)) (pos l) (pos i) (pos (words t)) ops f small ∙ ap (λ m. Next (pos m ∷ ops) w) far) (omega (arith, le)))
          ((in_it, form), st)

  pub exact_open_index_case : (d : Desig) (i : Expr) (at : Pos) (t : TypeRef) → OpenArrayFollows c a n call b d → ExprFollows c a n call b i → ExactFollows (Index d None i at t)
  exact_open_index_case d i at t ih_d ih_i pc k ops os s w le has ok is st =
      let p1 = end_open c.program d pc in
      let u = form_in c.program t in
      follows_bind c (ih_d u pc k ops os s w (omega (arith, le)) has.0 ok.0 ok.1.1 st) λ p s1 w1 k1.
      let f = array_below c (form_at s1 p) (T d) u k1.0.1 ok.1.1 (place_ok c (K c a) s1 w1 k1.1.all p k1.0.0) in
      let long : second_word c.program (has_of c) c.img (form_at s1 p) ≡ pos f.0 = ap (λ t. second_word c.program (has_of c) c.img t) f.1 in
      subst (λ y. Follows c (go c a p1 (y ∷ pos (address_at s1 p) ∷ ops) w1) (PlaceTo c a n call b (suc (end_expr c.program i p1)) ops) (ExactKept u os) (bind (value i (here_in c a n call b) s1) (λ v. indexed None p (integer_of v) (here_in c a n call b) at))) (sym long)
      (follows_bind c (ih_i longint p1 _ (pos f.0 ∷ pos (address_at s1 p) ∷ ops) s1.made s1 w1 (omega (arith, le)) has.1.0 ok.1.0 (from_here c a n call b k1.1)) λ v s2 w2 k2.
      let z = k2.0 in
      let p2 = end_expr c.program i p1 in
      let same = address_same c s1.made s2.made k2.1.objects (K c a) p k1.0.0 in
      let kept = place_of_more c s1.made s2.made k2.1.objects (K c a) (T d) p k1.0 in
      let form : form_at s2 p ≡ ArrayForm f.0 u = form_same c s1.made s2.made k2.1.objects (K c a) p k1.0.0 ∙ f.1 in
      let fine : Fine c.program (has_of c) s2.made (ArrayForm f.0 u) (value_at s2.store p) = subst (λ t. Fine c.program (has_of c) s2.made t (value_at s2.store p)) form ((located c (K c a) s2 w2 k2.1.all p kept.0).fine) in
      subst (λ m. Follows c (go c a p2 (word_of c.program (has_of c) c.img s2.made v ∷ pos f.0 ∷ pos (address_at s1 p) ∷ ops) w2) (PlaceTo c a n call b (suc p2) ops) (ExactKept u os) (element_place m p (integer_of v) (here_in c a n call b) at s2)) (sym fine.0)
      (subst (λ v. Follows c (go c a p2 (word_of c.program (has_of c) c.img s2.made v ∷ pos f.0 ∷ pos (address_at s1 p) ∷ ops) w2) (PlaceTo c a n call b (suc p2) ops) (ExactKept u os) (element_place f.0 p (integer_of v) (here_in c a n call b) at s2)) (sym z.2)
      (subst (λ m. Follows c (go c a p2 (z.0 ∷ pos f.0 ∷ pos m ∷ ops) w2) (PlaceTo c a n call b (suc p2) ops) (ExactKept u os) (element_place f.0 p z.0 (here_in c a n call b) at s2)) same
      (open_element_exact z.0 p f.0 u at p2 ops os s2 w2 (omega (arith, le, need_one_e i)) has.1.1 kept.0 form (since c a n call b k1.1.objects k2.1)))))

  -- TAGS: of the static type

  abbrev Tagged : State → Place → ℤ
  Tagged s p = second_word c.program (has_of c) c.img (form_at s p)

  tag_goes : (stand : BasesStand c) (t : Form) (p : Place) (pc : ℕ) (ops : List ℤ) (os : List AnObject) (s : State) (w : World) → length ops + 2 ≤ 256 → code.HasType (scope c a) pc op.Tag (code.record_name (scope c a) t) → IsRecordForm t → ExactKept t os p s w → Reach c (PlaceTo c a n call b pc ops p s w) (LongTo c a n call b (suc pc) ops p s w)
  tag_goes stand t p pc ops os s w le has is k =
      let r = is_record c (form_at s p) is.0 (fields_of t) (k.0.1 ∙ is.1) (place_ok c (K c a) s w k.1.all p k.0.0) in
      let name : code.record_name (scope c a) t ≡ r.name = ap (code.record_name (scope c a)) (sym k.0.1 ∙ r.is) in
      let number : type_number c.img.types (code.record_name (scope c a) t) ≡ type_number c.img.types r.name = ap (type_number c.img.types) name in
      let second : tag (type_number c.img.types r.name) ≡ Tagged s p = sym (ap (λ u. second_word c.program (has_of c) c.img u) r.is) in
      goes c a _ w has.has
      (rows.tag_next c.img a.u a.m a.p (fb c a) pc w has.number (type_number c.img.types r.name) (pos (address_at s p) ∷ ops) (has.is ∙ ap Some number) (stand.tags (type_number c.img.types r.name) (there c stand r.name r.line r.fields r.built)) ∙ ap (λ z. Next (z ∷ pos (address_at s p) ∷ ops) w) second)
      (omega (arith, le))

  exact_kept : (t : Form) (os : List AnObject) (p : Place) (s : State) (w : World) → ExactKept t os p s w → PlaceKept c a n call b t os p s w
  exact_kept t os p s w k = ((k.0.0, subst (λ u. Sub u t) (sym k.0.1) itself), k.1)

  -- of a variable whose address is put first
  pub tagged_exact : (stand : BasesStand c) (v : Variable) (t : TypeRef) → ExactFollows (OfVariable v t) → (pc at : ℕ) (ops : List ℤ) (os : List AnObject) (s : State) (w : World) → length ops + 2 ≤ 256 → code.VariableCode (scope c a) v pc → code.HasType (scope c a) (end_variable v pc) op.Tag (code.record_name (scope c a) (form_in c.program t)) → DesigOk c a n call b (OfVariable v t) → IsRecordForm (form_in c.program t) → Kp os s w →
      Follows c (go c a pc ops w) (LongTo c a n call b (suc (end_variable v pc)) ops) (PlaceKept c a n call b (form_in c.program t) os) (place (OfVariable v t) (here_in c a n call b) s)
  tagged_exact stand v t ih pc at ops os s w le has has2 ok is st =
      follows_map c (ih pc at ops os s w (omega (arith, le)) has ok is st)
      (λ p s w k. tag_goes stand (form_in c.program t) p (end_variable v pc) ops os s w le has2 is k) (λ p s w k. exact_kept (form_in c.program t) os p s w k)

  pub tagged_variable_case : (stand : BasesStand c) (v : Variable) (t : TypeRef) → Plain v → RecordFollows c a n call b (OfVariable v t)
  tagged_variable_case stand (variable.Module m x) t pl pc at ops os s w le has ok is st = tagged_exact stand (variable.Module m x) t (exact_variable_case (variable.Module m x) t pl) pc at ops os s w le has.0 has.1 ok is st
  tagged_variable_case stand (variable.Local x) t pl pc at ops os s w le has ok is st = tagged_exact stand (variable.Local x) t (exact_variable_case (variable.Local x) t pl) pc at ops os s w le has.0 has.1 ok is st
  tagged_variable_case stand (variable.Parameter passing.Scalar x) t pl pc at ops os s w le has ok is st = tagged_exact stand (variable.Parameter passing.Scalar x) t (exact_variable_case (variable.Parameter passing.Scalar x) t pl) pc at ops os s w le has.0 has.1 ok is st
  tagged_variable_case stand (variable.Parameter passing.Variable x) t pl pc at ops os s w le has ok is st = tagged_exact stand (variable.Parameter passing.Variable x) t (exact_variable_case (variable.Parameter passing.Variable x) t pl) pc at ops os s w le has.0 has.1 ok is st
  tagged_variable_case stand (variable.Parameter passing.Structure x) t pl pc at ops os s w le has ok is st = absurd pl
  tagged_variable_case stand (variable.Parameter passing.OpenArray x) t pl pc at ops os s w le has ok is st = absurd pl
  tagged_variable_case stand (variable.Parameter passing.VariableRecord x) t pl pc at ops os s w le has ok is st = absurd pl
  tagged_variable_case stand (variable.Parameter passing.VariableOpenArray x) t pl pc at ops os s w le has ok is st = absurd pl

  pub tagged_structure_case : (stand : BasesStand c) (x : List ℕ) (t : TypeRef) → RecordFollows c a n call b (OfVariable (variable.Parameter passing.Structure x) t)
  tagged_structure_case stand x t pc at ops os s w le has ok is st = tagged_exact stand (variable.Parameter passing.Structure x) t (exact_structure_case x t) pc at ops os s w le has.0 has.1 ok is st

  pub tagged_field_case : (stand : BasesStand c) (d : Desig) (o : QName) (x : List ℕ) (t : TypeRef) → PlaceFollows c a n call b d → RecordFollows c a n call b (Field d o x t)
  tagged_field_case stand d o x t ih pc k ops os s w le has ok is st =
      follows_map c (exact_field_case d o x t ih pc k ops os s w (omega (arith, le)) (has.0, has.1.0) ok is st)
      (λ p s w k. tag_goes stand (form_in c.program t) p (suc (end_place c.program d pc)) ops os s w (omega (arith, le)) has.1.1 is k) (λ p s w k. exact_kept (form_in c.program t) os p s w k)

  pub tagged_index_case : (stand : BasesStand c) (d : Desig) (l : ℕ) (i : Expr) (at : Pos) (t : TypeRef) → PlaceFollows c a n call b d → ExprFollows c a n call b i → RecordFollows c a n call b (Index d (Some l) i at t)
  tagged_index_case stand d l i at t ih_d ih_i pc k ops os s w le has ok is st =
      follows_map c (exact_index_case d l i at t ih_d ih_i pc k ops os s w (omega (arith, le)) (has.0, (has.1.0, has.1.1.0)) ok is st)
      (λ p s w k. tag_goes stand (form_in c.program t) p (suc (end_expr c.program i (end_place c.program d pc))) ops os s w (omega (arith, le)) has.1.1.1 is k) (λ p s w k. exact_kept (form_in c.program t) os p s w k)

  pub tagged_open_index_case : (stand : BasesStand c) (d : Desig) (i : Expr) (at : Pos) (t : TypeRef) → OpenArrayFollows c a n call b d → ExprFollows c a n call b i → RecordFollows c a n call b (Index d None i at t)
  tagged_open_index_case stand d i at t ih_d ih_i pc k ops os s w le has ok is st =
      follows_map c (exact_open_index_case d i at t ih_d ih_i pc k ops os s w (omega (arith, le)) (has.0, (has.1.0, has.1.1.0)) ok is st)
      (λ p s w k. tag_goes stand (form_in c.program t) p (suc (end_expr c.program i (end_open c.program d pc))) ops os s w (omega (arith, le)) has.1.1.1 is k) (λ p s w k. exact_kept (form_in c.program t) os p s w k)

  -- TAGS: of an object

  object_follows : (v : Value) (r : TypeRef) (t : Form) (at : Pos) (pc : ℕ) (ops : List ℤ) (os : List AnObject) (s : State) (w : World) → length ops + 2 ≤ 256 → code.HasAt (scope c a) pc (code.plain op.Tagged) at → Fine c.program (has_of c) s.made (PointerForm r) v → form_in c.program r ≡ t → IsRecordForm t → Kp os s w →
      Follows c (go c a pc (word_of c.program (has_of c) c.img s.made v ∷ ops) w) (LongTo c a n call b (suc pc) ops) (PlaceKept c a n call b t os) (pointee v (here_in c a n call b) at s)
  object_follows v r t at pc ops os s w le has fine e is st = ⊎_elim (λ f. nil f) (λ k. object k.0 k.1 k.2 k.3) fine
    where
      Goal : Value → Type 0
      Goal v = Follows c (go c a pc (word_of c.program (has_of c) c.img s.made v ∷ ops) w) (LongTo c a n call b (suc pc) ops) (PlaceKept c a n call b t os) (pointee v (here_in c a n call b) at s)

      nil : v ≡ Nil → Goal v
      nil f = subst Goal (sym f) (follows_stop c w (traps c a trap.Nil (pos 0) w has (rows.tagged_traps c.img a.u a.m a.p (fb c a) pc w ops)) (stands_any c st))

      object : (k : ℕ) → v ≡ Object k → k < length s.made → Sub (object_at s.made k) (form_in c.program r) → Goal v
      object k f lt sub =
          let p = At (OfObject k) [] in
          let m = record_below c (object_at s.made k) (form_in c.program r) is.0 (fields_of t) sub (e ∙ is.1) (place_ok c (K c a) s w st.all p (lt, tt)) in
          let g = object_tag c (K c a) s w st.all k m.name m.line m.fields lt m.is in
          let x = heap_start c.program c.img + object_offset s.made k in
          let far : x ≡ address_at s p = omega arith in
          let not_nil : is_zero (pos x) ≡ false = ap (λ m. is_zero (pos m)) g.next in
          let load : word_at w.words (pos x -ℤ pos 1) ≡ Some (tag (type_number c.img.types m.name)) = ap (λ m. word_at w.words (pos m -ℤ pos 1)) g.next ∙ ap (word_at w.words) (one_less (suc g.at)) ∙ g.word in
          let second : tag (type_number c.img.types m.name) ≡ Tagged s p = sym (ap (λ u. second_word c.program (has_of c) c.img u) m.is) in
          subst Goal (sym f)
          (follows_value c w (goes c a _ w has.has (rows.tagged_next c.img a.u a.m a.p (fb c a) pc w (pos x) _ ops not_nil load ∙ ap (λ z. Next (z ∷ pos x ∷ ops) w) second ∙ ap (λ m. Next (Tagged s p ∷ pos m ∷ ops) w) far) (omega (arith, le)))
          (((lt, tt), subst (λ u. Sub (object_at s.made k) u) e sub), st))

  pub tagged_deref_case : (d : Desig) (at : Pos) (t : TypeRef) → HolderFollows c a n call b d → RecordFollows c a n call b (Deref d at t)
  tagged_deref_case d at t ih pc k ops os s w le has ok is st =
      let p1 = end_place c.program d pc in
      let r = ok.1.0 in
      follows_bind c (ih pc k ops os s w (omega (arith, le)) has.0 ok.0 (subst (λ u. Scalar u) (sym ok.1.1) tt) st) λ p s1 w1 k1.
      follows_bind c (holder_load c a n call b p (T d) p1 ops os s1 w1 (omega (arith, le)) has.1.0 k1) λ v s2 w2 k2.
      object_follows v r (form_in c.program t) at (suc p1) ops os s2 w2 (omega (arith, le)) has.1.1 (subst (λ u. Fine c.program (has_of c) s2.made u v) ok.1.1 k2.0) ok.1.2 is k2.1
