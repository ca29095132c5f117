-- Dereferences and NEW.
use Rattle.std.proofs.lemmas.Bool.Decides.{nat_tests}
use Rattle.std.proofs.Common.{◌≡◌, ℕ, suc, ◌+◌, ◌≤◌, ◌<◌, List, [], ◌∷◌, length, Some, None, ℤ, refl, sym, ap, ◌∙◌, subst, arith, inr, ⊎_elim}
use Rattle.std.specs.Prelude.{pos, replicate, Bool, true, false, nat_le, nat_lt, if◌then◌else◌}
use Rattle.ob_trap.specs.declared.trap.Trap.TheVariants as trap
use Rattle.ob_tree.specs.declared.pos.Pos.{Pos}
use Rattle.ob_tree.specs.declared.names.QName.{QName}
use Rattle.ob_types.specs.declared.types.TypeRef.{TypeRef}
use Rattle.ob_types.specs.declared.typed.Made.TheVariants as made_of
use Rattle.ob_types.specs.TypedSyntax.{Desig, Deref, New}
use Rattle.ob_mem.specs.Words.{heap_taken, stored, are_there, with_words}
use Rattle.ob_instr.specs.declared.instr.Instr.{Instr}
use Rattle.ob_instr.specs.declared.opcode.Opcode.TheVariants as op
use Rattle.ob_instr.specs.Image.{World}
use Rattle.ob_instr.specs.Rows as rows_of
use Rattle.ob_instr.specs.Rows.{Effect, Next, Traps, made, is_zero, tag, with_memory}
use Rattle.ob_instr.proofs.Goes as rows
use Rattle.ob_meaning.specs.Values.{Form, PointerForm, form_in, record_in, words, Value, Nil, Object, OfObject, Place, At, AnObject, Whole, State}
use Rattle.ob_meaning.specs.Results.{Trapped, Stops, Caller}
use Rattle.ob_meaning.specs.Meaning.{pointee, choose, cost_of, costs_of, make, with_object}
use Rattle.law_simulation_relation.specs.Layout.{type_number, object_form, extra_words, object_at, object_offset, has_length, has_length_at, address, place_form, heap_start}
use Rattle.law_simulation_relation.specs.Relation.{IsStructure, ObjectOk, Fine, FormOk, LengthFits, word_of, Scalar, PlaceOf, Sub, itself}
use Rattle.law_simulation_relation.specs.Ends.{end_place}
use Rattle.law_simulation_relation.specs.Stands as code
use Rattle.law_simulation_relation.proofs.Names.{nat_same}
use Rattle.law_simulation_relation.proofs.Steps.{here, Follows, follows_bind, follows_value, follows_stop, stands_any}
use Rattle.law_simulation_relation.proofs.Statements.{Activation, scope, go, fb, K, here_in, Keeps, PlaceTo, PlaceKept, PlaceFollows, StmtFollows}
use Rattle.law_simulation_relation.proofs.Grow.{grows_on, place_of_more, address_same}
use Rattle.law_simulation_relation.proofs.Places.{Ex, extra-length, cost_is}
use Rattle.law_simulation_relation.proofs.Located.{spot}
use Rattle.law_simulation_relation.proofs.Needs.{need_one}
use Rattle.law_simulation_relation.proofs.Moves.{goes, traps, effect, whole_length}
use Rattle.law_simulation_relation.proofs.Values.{sub_scalar}
use Rattle.law_simulation_relation.proofs.Exprs.{load_follows}
use Rattle.law_simulation_relation.proofs.Heap.{grown, with_it, taken_words, object_stands}
use Rattle.law_simulation_relation.specs.Linked.{TypesStand}
use Rattle.law_simulation_relation.specs.Setting.{Setting, has_of}

module _ (c : Setting) (a : Activation c) (n : ℕ) (call : Caller) (b : ℕ) where
  abbrev Kp : List AnObject → State → World → Type 0
  Kp os s w = Keeps c a n call b os s w

  abbrev W : List AnObject → Value → ℤ
  W os v = word_of c.program (has_of c) c.img os v

  pub pointee_follows : (v : Value) (r : TypeRef) (t : Form) (at : Pos) (pc : ℕ) (ops : List ℤ) (os : List AnObject) (s : State) (w : World) → length ops + 1 ≤ 256 → code.HasAt (scope c a) pc (code.plain op.Deref) at → Fine c.program (has_of c) s.made (PointerForm r) v → form_in c.program r ≡ t → Kp os s w →
      Follows c (go c a pc (W s.made v ∷ ops) w) (PlaceTo c a n call b (suc pc) ops) (PlaceKept c a n call b t os) (pointee v (here_in c a n call b) at s)
  pointee_follows v r t at pc ops os s w le has fine e st = ⊎_elim (λ f. nil f) (λ k. object k.0 k.1 k.2 k.3) fine
    where
      Goal : Value → Type 0
      Goal v = Follows c (go c a pc (W s.made v ∷ ops) w) (PlaceTo c a n call b (suc pc) ops) (PlaceKept c a n call b t os) (pointee v (here_in c a n call b) at s)

      nil : v ≡ Nil → Goal v
      nil f = subst Goal (sym f) (follows_stop c w (traps c a trap.Nil (pos 0) w has (rows.deref_traps c.img a.u a.m a.p (fb c a) pc w ops)) (stands_any c st))

      object : (k : ℕ) → v ≡ Object k → k < length s.made → Sub (object_at s.made k) (form_in c.program r) → Goal v
      object k f lt sub =
          let x = heap_start c.program c.img + object_offset s.made k in
          let far : x ≡ address c.program c.img s.made (K c a) (At (OfObject k) []) = omega arith in
          let some : x ≡ suc (c.img.room.globals + c.img.room.stack + object_offset s.made k) = omega arith in
          let not_nil : is_zero (pos x) ≡ false = ap (λ m. is_zero (pos m)) some in
          subst Goal (sym f)
          (follows_value c w (goes c a _ w has.has (rows.deref_next c.img a.u a.m a.p (fb c a) pc w (pos x) ops not_nil ∙ ap (λ m. Next (pos m ∷ ops) w) far) (omega (arith, le)))
          (((lt, tt), subst (λ u. Sub (object_at s.made k) u) e sub), st))

  pub deref_case : (d : Desig) (at : Pos) (t : TypeRef) → PlaceFollows c a n call b d → PlaceFollows c a n call b (Deref d at t)
  deref_case d at t ih pc k ops os s w le has ok st =
      let p1 = end_place c.program d pc in
      let r = ok.1.0 in
      follows_bind c (ih pc k ops os s w le has.0 ok.0 st) λ p s1 w1 k1.
      follows_bind c (load_follows c a n call b p (PointerForm r) p1 ops os s1 w1 (omega (arith, le, need_one d)) has.1.0 tt (subst (λ u. PlaceOf c.program (has_of c) c.img s1.made (K c a) u p) ok.1.1 k1.0, k1.1)) λ v s2 w2 k2.
      pointee_follows v r (form_in c.program t) at (suc p1) ops os s2 w2 (omega (arith, le, need_one d)) has.1.1 k2.0 ok.1.2 k2.1

  -- NEW

  pub made_follows : (x : AnObject) (r : TypeRef) (p : Place) (size : ℕ) (i : Instr) (at : Pos) (pc : ℕ) (before ops : List ℤ) (os : List AnObject) (s : State) (w : World) → length ops ≤ 256 → code.HasAt (scope c a) pc i at → ObjectOk c.program (object_form x) → Sub (object_form x) (form_in c.program r) → LengthFits (form_in c.program r) (has_length x) → size ≡ words (object_form x) → PlaceOf c.program (has_of c) c.img s.made (K c a) (PointerForm r) p → (are_there (length w.words) (pos (address c.program c.img s.made (K c a) p)) 1 ≡ true → effect c a pc before w i ≡ made (pos (address c.program c.img s.made (K c a) p)) (Ex c [] x) size ops w) → Kp os s w →
      Follows c (go c a pc before w) (λ u s w. go c a (suc pc) ops w) (λ u s w. Kp os s w) (make x p (here_in c a n call b) at s)
  made_follows x r p size i at pc before ops os s w le has ok is fits words_are here_p row st = by (nat_le (costs_of (x ∷ s.made)) c.heap) refl
    where
      rows_words : ℕ → List ℤ
      rows_words m = with_words w.words (pos w.heap) (replicate m (pos 0))

      pointer_is : place_form c.program c.img s.made (K c a) p ≡ PointerForm r
      pointer_is = sub_scalar _ _ here_p.1 tt

      there : are_there (length w.words) (pos (address c.program c.img s.made (K c a) p)) 1 ≡ true
      there = (spot c (K c a) s w st.all p (subst (λ u. Scalar u) (sym pointer_is) tt) here_p.0).there

      many : length (Ex c [] x) + size ≡ cost_of x
      many = let h = extra-length c [] x in let k = cost_is c [] x in omega (arith, h, k, words_are)

      by : (z : Bool) → nat_le (costs_of (x ∷ s.made)) c.heap ≡ z → Follows c (go c a pc before w) (λ u s w. go c a (suc pc) ops w) (λ u s w. Kp os s w) (choose z (with_object x p) (λ s. Stops (Trapped trap.HeapFull (pos 0) a.unit at) s) s)
      by false e =
          let long = whole_length c (K c a) s w st.all in
          let more : nat_lt (length w.words + 1) (w.heap + (length (Ex c [] x) + size)) ≡ true = let h = st.all.heap_next in grind (arith, nat_tests) in
          let none : heap_taken (record { words = w.words; next = w.heap }) (length (Ex c [] x) + size) ≡ None = ap (λ t. if t then None else Some (record { words = rows_words (length (Ex c [] x) + size); next = w.heap + (length (Ex c [] x) + size) })) more in
          follows_stop c w (traps c a trap.HeapFull (pos 0) w has (row there ∙ ap (λ h. rows_of.taken (pos (address c.program c.img s.made (K c a) p)) (Ex c [] x) h ops w) none)) (stands_any c st)
      by true e =
          let few : costs_of (x ∷ s.made) ≤ c.heap = grind (arith, nat_tests) in
          let long = whole_length c (K c a) s w st.all in
          let s2 = with_it c x s in
          let w2 = record w { words = taken_words c x w; heap = w.heap + cost_of x } in
          let st2 = object_stands c (K c a) x s w st.all ok few in
          let gr = grown c s.made x in
          let here_2 = place_of_more c s.made (x ∷ s.made) gr (K c a) (PointerForm r) p here_p in
          let same = address_same c s.made (x ∷ s.made) gr (K c a) p here_p.0 in
          let form = sub_scalar _ _ here_2.1 tt in
          let k = spot c (K c a) s2 w2 st2 p (subst (λ u. Scalar u) (sym form) tt) here_2.0 in
          let own = nat_same (length s.made) in
          let at_it : object_at (x ∷ s.made) (length s.made) ≡ object_form x = ap (λ t. if t then object_form x else object_at s.made (length s.made)) own in
          let has_it : has_length_at (x ∷ s.made) (length s.made) ≡ has_length x = ap (λ t. if t then has_length x else has_length_at s.made (length s.made)) own in
          let fine : Fine c.program (has_of c) (x ∷ s.made) (PointerForm r) (Object (length s.made)) = inr (length s.made, refl, omega arith, subst (λ u. Sub u (form_in c.program r)) (sym at_it) is, subst (λ z. LengthFits (form_in c.program r) z) (sym has_it) fits) in
          let new = k.store (Object (length s.made)) (subst (λ u. Fine c.program (has_of c) (x ∷ s.made) u (Object (length s.made))) (sym form) fine) in
          let off : object_offset (x ∷ s.made) (length s.made) ≡ costs_of s.made + extra_words x = ap (λ t. if t then costs_of s.made + extra_words x else object_offset s.made (length s.made)) own in
          let there_at : heap_start c.program c.img + object_offset (x ∷ s.made) (length s.made) ≡ w.heap + length (Ex c [] x) = let h = extra-length c [] x in omega (arith, off, h, st.all.heap_next) in
          let more : nat_lt (length w.words + 1) (w.heap + (length (Ex c [] x) + size)) ≡ false = let h = st.all.heap_next in grind (arith, nat_tests) in
          let some : heap_taken (record { words = w.words; next = w.heap }) (length (Ex c [] x) + size) ≡ Some (record { words = rows_words (length (Ex c [] x) + size); next = w.heap + (length (Ex c [] x) + size) }) = ap (λ t. if t then None else Some (record { words = rows_words (length (Ex c [] x) + size); next = w.heap + (length (Ex c [] x) + size) })) more in
          let put : stored (taken_words c x w) (pos (address c.program c.img s.made (K c a) p)) (pos (w.heap + length (Ex c [] x))) ≡ Some new.0 = ap (λ m. stored (taken_words c x w) (pos m) (pos (w.heap + length (Ex c [] x)))) (sym same) ∙ ap (λ m. stored (taken_words c x w) (pos (address c.program c.img (x ∷ s.made) (K c a) p)) (pos m)) (sym there_at) ∙ new.1 in
          let effect_is = row there ∙ ap (λ h. rows_of.taken (pos (address c.program c.img s.made (K c a) p)) (Ex c [] x) h ops w) some
          ∙ ap (λ m. rows_of.taken (pos (address c.program c.img s.made (K c a) p)) (Ex c [] x) (Some (record { words = rows_words m; next = w.heap + m })) ops w) many
          ∙ ap (λ l. rows_of.on_found l (λ words. Next ops (record w { words = words; heap = w.heap + cost_of x }))) put in
          follows_value c (with_memory w2 new.0) (goes c a ops (with_memory w2 new.0) has.has effect_is le)
          (record { all = new.2; calls = st.calls; bound = st.bound; objects = grows_on c os s.made (x ∷ s.made) st.objects gr })

  pub new_array_case : (d : Desig) (t : TypeRef) (at : Pos) → PlaceFollows c a n call b d → StmtFollows c a n call b (New d (made_of.Array t) at)
  new_array_case d t at ih l exit pc k os s w le inside lies has ok st =
      let p1 = end_place c.program d pc in
      let r = ok.1.0.0 in
      let u = form_in c.program t in
      let no_tag : Ex c [] (Whole u) ≡ pos 0 ∷ [] = ap (λ u. Ex c [] (Whole u)) ok.1.1.2 in
      let no_length : LengthFits (form_in c.program r) false = subst (λ u. LengthFits u false) (sym (ok.1.0.2 ∙ ok.1.1.2)) tt in
      follows_bind c (ih pc k [] os s w (omega (arith, le)) has.0 ok.0 st) λ p s1 w1 k1.
      let x = pos (address c.program c.img s1.made (K c a) p) in
      follows_bind c (made_follows (Whole u) r p (words u) (code.with_a op.NewA (words u)) at p1 (x ∷ []) [] os s1 w1 (omega arith) has.1 (subst (λ u. ObjectOk c.program u) (sym ok.1.1.2) (tt, ok.1.1.3)) (subst (λ v. Sub u v) (sym ok.1.0.2) itself) no_length refl (subst (λ u. PlaceOf c.program (has_of c) c.img s1.made (K c a) u p) ok.1.0.1 k1.0)
      (λ there. rows.new_a_is c.img a.u a.m a.p (fb c a) p1 w1 x (words u) [] there ∙ ap (λ e. made x e (words u) [] w1) (sym no_tag)) k1.1)
      λ u s2 w2 k2. follows_value c w2 (here c _) (tt, k2)

  pub new_record_case : (d : Desig) (q : QName) (at : Pos) → TypesStand c → PlaceFollows c a n call b d → StmtFollows c a n call b (New d (made_of.Record q) at)
  new_record_case d q at types ih l exit pc k os s w le inside lies has ok st =
      let p1 = end_place c.program d pc in
      let r = ok.1.0.0 in
      let ts = types q ok.1.1.0 ok.1.1.1 in
      let x = Whole (record_in c.program q) in
      let ex : Ex c [] x ≡ tag (type_number c.img.types q) ∷ [] = ap (λ t. Ex c [] (Whole t)) ok.1.1.1 in
      let no_length : LengthFits (form_in c.program r) false = subst (λ u. LengthFits u false) (sym (ok.1.0.2 ∙ ok.1.1.1)) tt in
      follows_bind c (ih pc k [] os s w (omega (arith, le)) has.0 ok.0 st) λ p s1 w1 k1.
      follows_bind c (made_follows x r p ts.descriptor.words (code.with_a op.NewR has.1.type.number) at p1 (pos (address c.program c.img s1.made (K c a) p) ∷ []) [] os s1 w1 (omega arith) (record { has = has.1.type.has; place = has.1.place }) (subst (λ u. IsStructure u) (sym ok.1.1.1) tt, ts.ok) (subst (λ v. Sub (record_in c.program q) v) (sym ok.1.0.2) itself) no_length ts.size (subst (λ u. PlaceOf c.program (has_of c) c.img s1.made (K c a) u p) ok.1.0.1 k1.0)
      (λ there. rows.new_r_is c.img a.u a.m a.p (fb c a) p1 w1 (pos (address c.program c.img s1.made (K c a) p)) has.1.type.number (type_number c.img.types q) ts.descriptor [] has.1.type.is ts.found there ∙ ap (λ e. made (pos (address c.program c.img s1.made (K c a) p)) e ts.descriptor.words [] w1) (sym ex)) k1.1)
      λ u s2 w2 k2. follows_value c w2 (here c _) (tt, k2)
