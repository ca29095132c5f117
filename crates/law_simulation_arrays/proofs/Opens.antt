-- Open arrays on the heap: their elements, and LEN.
use Rattle.std.proofs.lemmas.Bool.{ltb-true}
use Rattle.std.proofs.lemmas.Bool.Decides.{nat_tests}
use Rattle.std.proofs.Common.{◌≡◌, ◌⊎◌, ℕ, suc, ◌+◌, ◌*◌, ◌≤◌, ◌<◌, List, [], ◌∷◌, ◌++◌, length, Some, None, ℤ, refl, sym, ap, ◌∙◌, subst, arith, inl, inr, ⊎_elim, append_assoc, length-append}
use Rattle.std.specs.Prelude.{pos, negsuc, ◌+ℤ◌, ◌-ℤ◌, Bool, true, false, nat_lt, nat_eq, if◌then◌else◌}
use Rattle.ob_trap.specs.declared.trap.Trap.TheVariants as trap
use Rattle.ob_tree.specs.declared.pos.Pos.{Pos}
use Rattle.ob_types.specs.declared.types.TypeRef.{TypeRef}
use Rattle.ob_types.specs.declared.typed.Width.TheVariants as width
use Rattle.ob_types.specs.TypedSyntax.{Desig, Deref, Index, Expr, Length}
use Rattle.ob_mem.specs.Words.{word_at}
use Rattle.ob_instr.specs.declared.opcode.Opcode.TheVariants as op
use Rattle.ob_instr.specs.Image.{World}
use Rattle.ob_instr.specs.Rows.{Next, is_zero, in_width}
use Rattle.ob_instr.proofs.Goes as rows
use Rattle.ob_meaning.specs.Values.{Program, Form, PointerForm, ArrayForm, OpenForm, form_in, words, Value, Integer, Nil, Object, length_of, integer_of, OfModule, OfCall, OfObject, ElementStep, Place, At, inside, value_at, Active, AnObject, Whole, Opened, State}
use Rattle.ob_meaning.specs.Results.{Trapped, Gives, Stops, Caller}
use Rattle.ob_types.specs.Numbers.{is_in}
use Rattle.ob_meaning.specs.Meaning.{pointee, element_place, choose, costs_of}
use Rattle.ob_meaning.specs.Calls.{element_form}
use Rattle.law_simulation_relation.specs.Layout.{object_form, object_at, object_offset, extra_words, has_length, has_length_at, element_of_form, path_offset, place_form, address, heap_start}
use Rattle.law_simulation_relation.specs.Relation.{Fine, FormOk, IsLength, LengthFits, word_of, second_word, PathIn, PlaceIn, PlaceOf, Sub, itself, extended, opened}
use Rattle.law_simulation_relation.specs.Ends.{end_place, end_open, end_expr}
use Rattle.law_simulation_relation.specs.Stands as code
use Rattle.law_simulation_relation.specs.Typed.{longint}
use Rattle.law_simulation_relation.proofs.Steps.{then_reach, here, Follows, follows_bind, follows_value, follows_stop, follows_map, stands_any}
use Rattle.law_simulation_relation.proofs.Statements.{Activation, scope, go, fb, K, here_in, Keeps, PlaceTo, LongTo, PlaceKept, ValueTo, ValueKept, PlaceFollows, OpenArrayFollows, ExprFollows}
use Rattle.law_simulation_relation.proofs.Grow.{form_same, address_same, place_of_more}
use Rattle.law_simulation_relation.proofs.Places.{Os, Ex, Cs, objects-length, calls-length}
use Rattle.law_simulation_relation.proofs.Parts.{W}
use Rattle.law_simulation_relation.proofs.Modules.{Ms}
use Rattle.law_simulation_relation.proofs.Slots.{WordAt, word_before, word_behind, word_same, word_got}
use Rattle.law_simulation_relation.proofs.Located.{located, object_form_ok}
use Rattle.law_simulation_relation.proofs.Needs.{need_one, need_one_e}
use Rattle.law_simulation_relation.proofs.Moves.{goes, traps, address_small, small_word}
use Rattle.law_simulation_relation.proofs.Exprs.{from_here, since, load_follows, widen_kept}
use Rattle.law_simulation_relation.proofs.Paths.{inside_in, inside_form, inside_address}
use Rattle.law_simulation_relation.proofs.Sources.{place_ok}
use Rattle.law_simulation_relation.specs.Setting.{Setting, StandIn, has_of}

-- an open array stands as an array of some length
pub sub_open : (program : Program) (t v u : Form) → Sub t v → v ≡ OpenForm u → FormOk program t → (m : ℕ) × (t ≡ ArrayForm m u)
sub_open program _ v u itself e ok = absurd (subst (λ t. FormOk program t) e ok)
sub_open program _ _ u (extended more gs) e ok = absurd (cc)
sub_open program _ _ u (opened m) e ok = (m, ap (λ t. ArrayForm m (element_form t)) e)

before_one : (y : ℕ) → pos (suc y) -ℤ pos 1 ≡ pos y
before_one y = grind (arith, nat_tests)

back_one : (y : ℕ) → pos (suc y) +ℤ negsuc 0 ≡ pos y
back_one y = grind (arith, nat_tests)

pub long_length : (m : ℕ) → IsLength m → is_in width.LongInt (pos m) ≡ true
long_length m h = let lt = h.1 in grind (arith, nat_tests)

-- the number of an object
object_number : (k j : ℕ) → At (OfObject k) [] ≡ At (OfObject j) [] → j ≡ k
object_number k j e = ap number (sym e)
  where
    number : Place → ℕ
    number (At (OfObject k) path) = k
    number (At (OfModule m x) path) = 0
    number (At (OfCall k x) path) = 0

module _ (c : Setting) where
  -- the length that stands before an object's first word
  pub record LengthWord (xs : List AnObject) (k : ℕ) (l : List ℤ) : Type 0 where
    pub n : ℕ
    pub at : suc n ≡ object_offset xs k
    pub word : WordAt l n (second_word c.program (has_of c) c.img (object_at xs k))

  length_in : (all xs : List AnObject) (g : ℕ → Value) (k : ℕ) → k < length xs → has_length_at xs k ≡ true → LengthWord xs k (Os c all xs g)
  length_in all [] g k lt h = absurd (omega arith)
  length_in all (x ∷ xs) g k lt h = go (nat_eq k (length xs)) refl h (λ lt h. length_in all xs g k lt h)
    where
      own : (x : AnObject) → has_length x ≡ true → (v : Value) → (n : ℕ) × (suc n ≡ costs_of xs + extra_words x) × WordAt (Os c all xs g ++ (Ex c all x ++ W c all (object_form x) v)) n (second_word c.program (has_of c) c.img (object_form x))
      own (Whole t) e v = absurd (cc)
      own (Opened m t) e v =
          (suc (costs_of xs), omega arith, record { before = Os c all xs g ++ pos 0 ∷ []; behind = W c all (ArrayForm m t) v; len = length-append (Os c all xs g) (pos 0 ∷ []) ∙ omega (arith, objects-length c all xs g); is = simp append_assoc })

      go : (b : Bool) → nat_eq k (length xs) ≡ b → (if b then has_length x else has_length_at xs k) ≡ true → (k < length xs → has_length_at xs k ≡ true → LengthWord xs k (Os c all xs g)) → LengthWord (x ∷ xs) k (Os c all (x ∷ xs) g)
      go true e h rest = let r = own x h (g (length xs)) in record { n = r.0; at = rw e r.1; word = rw e r.2 }
      go false e h rest =
          let lt2 : k < length xs = grind (arith, nat_tests) in
          let r = rest lt2 h in
          record { n = r.n; at = rw e r.at; word = rw e (word_behind (Ex c all x ++ W c all (object_form x) (g (length xs))) _ _ _ r.word) }

  length_at : (cs : List Active) (s : State) (w : World) (k : ℕ) → StandIn c cs s w → k < length s.made → has_length_at s.made k ≡ true → (y : ℕ) × (suc y ≡ heap_start c.program c.img + object_offset s.made k) × (word_at w.words (pos y) ≡ Some (second_word c.program (has_of c) c.img (object_at s.made k)))
  length_at cs s w k st lt h =
      let r = length_in s.made s.made s.store.objects k lt h in
      let objects = word_behind st.heap_free _ _ _ r.word in
      let all = word_before (Ms c s.made c.program s.store.globals) _ _ _ (word_before c.behind _ _ _ (word_before (Cs c s.made s.store.locals cs) _ _ _ (word_before st.stack_free _ _ _ objects))) in
      let y = c.img.room.globals + c.img.room.stack + object_offset s.made k in
      (y, omega arith, word_got c w.words _ y _ (word_same _ _ _ _ _ _ all (sym st.words) refl refl) (omega (arith, r.at, st.globals_size, st.stack_size, calls-length c s.made cs s.store.locals)))

  module _ (a : Activation c) (n : ℕ) (call : Caller) (b : ℕ) where
    abbrev Kp : List AnObject → State → World → Type 0
    Kp os s w = Keeps c a n call b os s w

    abbrev Second : Form → ℤ
    Second t = second_word c.program (has_of c) c.img t

    -- what a pointer to open arrays points to
    pub record Opens (u : Form) (p : Place) (s : State) (w : World) : Type 0 where
      pub k : ℕ
      pub is : p ≡ At (OfObject k) []
      pub lt : k < length s.made
      pub m : ℕ
      pub form : object_at s.made k ≡ ArrayForm m u
      pub size : IsLength m
      pub before : ℕ
      pub at : suc before ≡ heap_start c.program c.img + object_offset s.made k
      pub word : word_at w.words (pos before) ≡ Some (pos m)

    pub opens : (s : State) (w : World) → StandIn c (K c a) s w → (r : TypeRef) (u : Form) (v : Value) → form_in c.program r ≡ OpenForm u → Fine c.program (has_of c) s.made (PointerForm r) v → (v ≡ Nil) ⊎ ((k : ℕ) × (v ≡ Object k) × Opens u (At (OfObject k) []) s w)
    opens s w st r u v e fine = ⊎_elim (λ f. inl f) (λ k. inr (k.0, k.1, object k.0 k.2 (subst (λ t. Sub (object_at s.made k.0) t) e k.3) (subst (λ t. LengthFits t (has_length_at s.made k.0)) e k.4))) fine
      where
        object : (k : ℕ) → k < length s.made → Sub (object_at s.made k) (OpenForm u) → has_length_at s.made k ≡ true → Opens u (At (OfObject k) []) s w
        object k lt sub has =
            let ok = object_form_ok c s.made s.made s.store.objects k lt st.objects_fine in
            let f = sub_open c.program _ _ u sub refl ok in
            let l = length_at (K c a) s w k st lt has in
            let size = subst (λ t. FormOk c.program t) f.1 ok in
            record { k = k; is = refl; lt = lt; m = f.0; form = f.1; size = size.0; before = l.0; at = l.1; word = l.2 ∙ ap (λ t. Some (Second t)) f.1 }

    abbrev pub OpensKept : Form → List AnObject → Place → State → World → Type 0
    OpensKept u os p s w = Opens u p s w × Kp os s w

    -- the address of what a pointer points to, and the length with it
    deref_opens : (v : Value) (r : TypeRef) (u : Form) (at : Pos) (pc : ℕ) (ops : List ℤ) (os : List AnObject) (s : State) (w : World) → length ops + 1 ≤ 256 → code.HasAt (scope c a) pc (code.plain op.Deref) at → Fine c.program (has_of c) s.made (PointerForm r) v → form_in c.program r ≡ OpenForm u → Kp os s w →
        Follows c (go c a pc (word_of c.program (has_of c) c.img s.made v ∷ ops) w) (PlaceTo c a n call b (suc pc) ops) (OpensKept u os) (pointee v (here_in c a n call b) at s)
    deref_opens v r u at pc ops os s w le has fine e st = ⊎_elim (λ f. nil f) (λ k. object k.0 k.1 k.2) (opens s w st.all r u v e fine)
      where
        Goal : Value → Type 0
        Goal v = Follows c (go c a pc (word_of c.program (has_of c) c.img s.made v ∷ ops) w) (PlaceTo c a n call b (suc pc) ops) (OpensKept u os) (pointee v (here_in c a n call b) at s)

        nil : v ≡ Nil → Goal v
        nil f = subst Goal (sym f) (follows_stop c w (traps c a trap.Nil (pos 0) w has (rows.deref_traps c.img a.u a.m a.p (fb c a) pc w ops)) (stands_any c st))

        object : (k : ℕ) → v ≡ Object k → Opens u (At (OfObject k) []) s w → Goal v
        object k f o =
            let x = heap_start c.program c.img + object_offset s.made k in
            let far : x ≡ address c.program c.img s.made (K c a) (At (OfObject k) []) = omega arith in
            let some : x ≡ suc (c.img.room.globals + c.img.room.stack + object_offset s.made k) = omega arith in
            let not_nil : is_zero (pos x) ≡ false = ap (λ m. is_zero (pos m)) some in
            subst Goal (sym f) (follows_value c w (goes c a _ w has.has (rows.deref_next c.img a.u a.m a.p (fb c a) pc w (pos x) ops not_nil ∙ ap (λ m. Next (pos m ∷ ops) w) far) (omega (arith, le))) (o, st))

    lenned_opens : (v : Value) (r : TypeRef) (u : Form) (at : Pos) (pc : ℕ) (ops : List ℤ) (os : List AnObject) (s : State) (w : World) → length ops + 2 ≤ 256 → code.HasAt (scope c a) pc (code.plain op.Lenned) at → Fine c.program (has_of c) s.made (PointerForm r) v → form_in c.program r ≡ OpenForm u → Kp os s w →
        Follows c (go c a pc (word_of c.program (has_of c) c.img s.made v ∷ ops) w) (LongTo c a n call b (suc pc) ops) (OpensKept u os) (pointee v (here_in c a n call b) at s)
    lenned_opens v r u at pc ops os s w le has fine e st = ⊎_elim (λ f. nil f) (λ k. object k.0 k.1 k.2) (opens s w st.all r u v e fine)
      where
        Goal : Value → Type 0
        Goal v = Follows c (go c a pc (word_of c.program (has_of c) c.img s.made v ∷ ops) w) (LongTo c a n call b (suc pc) ops) (OpensKept u os) (pointee v (here_in c a n call b) at s)

        nil : v ≡ Nil → Goal v
        nil f = subst Goal (sym f) (follows_stop c w (traps c a trap.Nil (pos 0) w has (rows.lenned_traps c.img a.u a.m a.p (fb c a) pc w ops)) (stands_any c st))

        object : (k : ℕ) → v ≡ Object k → Opens u (At (OfObject k) []) s w → Goal v
        object k f o =
            let x = heap_start c.program c.img + object_offset s.made k in
            let far : x ≡ address c.program c.img s.made (K c a) (At (OfObject k) []) = omega arith in
            let same : suc o.before ≡ x = o.at ∙ ap (λ k. heap_start c.program c.img + object_offset s.made k) (object_number k o.k o.is) in
            let not_nil : is_zero (pos x) ≡ false = ap (λ m. is_zero (pos m)) (sym same) in
            let word : word_at w.words (pos x -ℤ pos 1) ≡ Some (pos o.m) = ap (λ m. word_at w.words (pos m -ℤ pos 1)) (sym same) ∙ ap (word_at w.words) (before_one o.before) ∙ o.word in
            let form : Second (place_form c.program c.img s.made (K c a) (At (OfObject k) [])) ≡ pos o.m = ap (λ k. Second (object_at s.made k)) (sym (object_number k o.k o.is)) ∙ ap Second o.form in
            subst Goal (sym f) (follows_value c w (goes c a _ w has.has (rows.lenned_next c.img a.u a.m a.p (fb c a) pc w (pos x) (pos o.m) ops not_nil word ∙ ap (λ m. Next (pos o.m ∷ pos m ∷ ops) w) far ∙ ap (λ z. Next (z ∷ pos (address c.program c.img s.made (K c a) (At (OfObject k) [])) ∷ ops) w) (sym form)) (omega (arith, le))) (o, st))

    opens_place : (u : Form) (p : Place) (s : State) (w : World) → Opens u p s w → PlaceOf c.program (has_of c) c.img s.made (K c a) (OpenForm u) p
    opens_place u p s w o = subst (λ p. PlaceOf c.program (has_of c) c.img s.made (K c a) (OpenForm u) p) (sym o.is) ((o.lt, tt), subst (λ t. Sub t (OpenForm u)) (sym o.form) (opened o.m))

    pub open_deref_case : (d : Desig) (at : Pos) (t : TypeRef) → PlaceFollows c a n call b d → OpenArrayFollows c a n call b (Deref d at t)
    open_deref_case d at t ih u pc k ops os s w le has ok form st =
        let p1 = end_place c.program d pc in
        let r = ok.1.0 in
        follows_bind c (ih pc k ops os s w (omega (arith, le)) has.0 ok.0 st) λ p s1 w1 k1.
        follows_bind c (load_follows c a n call b p (PointerForm r) p1 ops os s1 w1 (omega (arith, le)) has.1.0 tt (subst (λ u. PlaceOf c.program (has_of c) c.img s1.made (K c a) u p) ok.1.1 k1.0, k1.1)) λ v s2 w2 k2.
        follows_map c (lenned_opens v r u at (suc p1) ops os s2 w2 (omega (arith, le)) has.1.1 k2.0 (ok.1.2 ∙ form) k2.1) (λ p s w k. here c _)
        (λ p s w k. (subst (λ t. PlaceOf c.program (has_of c) c.img s.made (K c a) t p) (sym form) (opens_place u p s w k.0), k.1))

    -- LEN

    pub length_case : (d : Desig) (at : Pos) (t : TypeRef) → PlaceFollows c a n call b d → ExprFollows c a n call b (Length (Deref d at t))
    length_case d at t ih goal pc k ops os s w le has ok st =
        let p1 = end_place c.program d pc in
        let r = ok.0.1.0 in
        let u = ok.1.0.0 in
        follows_map c
        (follows_bind c
        (follows_bind c (ih pc k ops os s w (omega (arith, le)) has.0 ok.0.0 st) λ p s1 w1 k1.
        follows_bind c (load_follows c a n call b p (PointerForm r) p1 ops os s1 w1 (omega (arith, le, need_one d)) has.1.0 tt (subst (λ u. PlaceOf c.program (has_of c) c.img s1.made (K c a) u p) ok.0.1.1 k1.0, k1.1)) λ v s2 w2 k2.
        deref_opens v r u at (suc p1) ops os s2 w2 (omega (arith, le, need_one d)) has.1.1.0 k2.0 (ok.0.1.2 ∙ ok.1.0.1) k2.1)
        λ p s3 w3 k3. rest u p (suc (suc p1)) ops os s3 w3 (omega (arith, le, need_one d)) has.1.1.1.0 has.1.1.1.1 k3.0 k3.1)
        (λ v s w k. here c _) (λ v s w k. widen_kept c a n call b longint goal os v s w ok.1.1 k)
      where
        rest : (u : Form) (p : Place) (pc : ℕ) (ops : List ℤ) (os : List AnObject) (s : State) (w : World) → length ops + 1 ≤ 256 → code.Has (scope c a) pc (code.instr op.Offset (negsuc 0) (pos 0)) → code.Has (scope c a) (suc pc) (code.plain op.Load) → Opens u p s w → Kp os s w →
            Follows c (PlaceTo c a n call b pc ops p s w) (ValueTo c a n call b (suc (suc pc)) ops) (ValueKept c a n call b longint os) (Gives (Integer (pos (length_of (value_at s.store p)))) s)
        rest u p pc ops os s w le has has2 o st =
            let q = opens_place u p s w o in
            let x = address c.program c.img s.made (K c a) p in
            let far : heap_start c.program c.img + object_offset s.made o.k ≡ address c.program c.img s.made (K c a) (At (OfObject o.k) []) = omega arith in
            let same : suc o.before ≡ x = o.at ∙ far ∙ ap (λ p. address c.program c.img s.made (K c a) p) (sym o.is) in
            let form : place_form c.program c.img s.made (K c a) p ≡ ArrayForm o.m u = ap (place_form c.program c.img s.made (K c a)) o.is ∙ o.form in
            let l = located c (K c a) s w st.all p q.0 in
            let fine : Fine c.program (has_of c) s.made (ArrayForm o.m u) (value_at s.store p) = subst (λ t. Fine c.program (has_of c) s.made t (value_at s.store p)) form l.fine in
            let long : length_of (value_at s.store p) ≡ o.m = fine.0 in
            let small = small_word c o.before (let h = address_small c (K c a) s w p st.all q.0 in omega (arith, same, h)) in
            let back : pos x +ℤ negsuc 0 ≡ pos o.before = ap (λ m. pos m +ℤ negsuc 0) (sym same) ∙ back_one o.before in
            follows_value c w
            (then_reach c (goes c a _ w has (rows.offset_next c.img a.u a.m a.p (fb c a) pc w (pos x) (negsuc 0) ops (ap (λ z. in_width 4 z) back ∙ small) ∙ ap (λ z. Next (z ∷ ops) w) back) (omega (arith, le)))
            (goes c a _ w has2 (rows.load_next c.img a.u a.m a.p (fb c a) (suc pc) w (pos o.before) (pos (length_of (value_at s.store p))) ops (o.word ∙ ap (λ m. Some (pos m)) (sym long))) (omega (arith, le))))
            ((pos (length_of (value_at s.store p)), ap (λ m. is_in width.LongInt (pos m)) long ∙ long_length o.m o.size, refl), st)

    -- ELEMENTS

    open_element_follows : (z : ℤ) (p : Place) (l : ℕ) (t : Form) (at : Pos) (pc : ℕ) (ops : List ℤ) (os : List AnObject) (s : State) (w : World) → length ops + 1 ≤ 256 → code.HasAt (scope c a) pc (code.with_a op.IndexO (words t)) at → PlaceIn c.program (has_of c) c.img s.made (K c a) p → place_form c.program c.img s.made (K c a) p ≡ ArrayForm l t → Kp os s w →
        Follows c (go c a pc (z ∷ pos l ∷ pos (address c.program c.img s.made (K c a) p) ∷ ops) w) (PlaceTo c a n call b (suc pc) ops) (PlaceKept c a n call b t os) (element_place l p z (here_in c a n call b) at s)
    open_element_follows (negsuc i) p l t at pc ops os s w le has here_p e st =
        follows_stop c w (traps c a trap.IndexOutside (pos 0) w has (rows.index_o_traps c.img a.u a.m a.p (fb c a) pc w (pos (address c.program c.img s.made (K c a) p)) (pos l) (negsuc i) (pos (words t)) ops refl)) (stands_any c st)
    open_element_follows (pos i) p l t at pc ops os s w le has here_p e st = by (nat_lt i l) refl
      where
        by : (z : Bool) → nat_lt i l ≡ z → Follows c (go c a pc (pos i ∷ pos l ∷ pos (address c.program c.img s.made (K c a) p) ∷ ops) w) (PlaceTo c a n call b (suc pc) ops) (PlaceKept c a n call b t os) (choose z (Gives (inside p (ElementStep i))) (λ s. Stops (Trapped trap.IndexOutside (pos 0) a.unit at) s) s)
        by false f = follows_stop c w (traps c a trap.IndexOutside (pos 0) w has (rows.index_o_traps c.img a.u a.m a.p (fb c a) pc w (pos (address c.program c.img s.made (K c a) p)) (pos l) (pos i) (pos (words t)) ops f)) (stands_any c st)
        by true f =
            let lt = ltb-true i l f in
            let in_it = inside_in c s.made (K c a) p (ElementStep i) here_p (subst (λ u. PathIn u (ElementStep i ∷ [])) (sym e) (lt, tt)) in
            let form : place_form c.program c.img s.made (K c a) (inside p (ElementStep i)) ≡ t = inside_form c s.made (K c a) p (ElementStep i) ∙ ap element_of_form e in
            let size : words (element_of_form (place_form c.program c.img s.made (K c a) p)) ≡ words t = ap (λ u. words (element_of_form u)) e in
            let off : path_offset (place_form c.program c.img s.made (K c a) p) (ElementStep i ∷ []) ≡ i * words t = ap (λ k. i * k + 0) size ∙ omega arith in
            let far : address c.program c.img s.made (K c a) p + i * words t ≡ address c.program c.img s.made (K c a) (inside p (ElementStep i)) = ap (λ k. address c.program c.img s.made (K c a) p + k) (sym off) ∙ inside_address c s.made (K c a) p (ElementStep i) in
            let small = small_word c (address c.program c.img s.made (K c a) p + i * words t) (subst (λ m. m ≤ 5505025) (sym far) (address_small c (K c a) s w (inside p (ElementStep i)) st.all in_it)) in
            follows_value c w
            (goes c a _ w has.has (rows.index_o_next c.img a.u a.m a.p (fb c a) pc w (pos (address c.program c.img s.made (K c a) p)) (pos l) (pos i) (pos (words t)) ops f small ∙ ap (λ m. Next (pos m ∷ ops) w) far) (omega (arith, le)))
            ((in_it, subst (λ u. Sub u t) (sym form) itself), st)

    -- an open array has a length where it stands
    pub open_form : (s : State) (w : World) (u v : Form) (p : Place) → StandIn c (K c a) s w → PlaceOf c.program (has_of c) c.img s.made (K c a) v p → v ≡ OpenForm u → (m : ℕ) × (place_form c.program c.img s.made (K c a) p ≡ ArrayForm m u)
    open_form s w u v p st here_p e = sub_open c.program _ v u here_p.1 e (place_ok c (K c a) s w st p here_p.0)

    pub open_index_case : (d : Desig) (i : Expr) (at : Pos) (t : TypeRef) → OpenArrayFollows c a n call b d → ExprFollows c a n call b i → PlaceFollows c a n call b (Index d None i at t)
    open_index_case d i at t ih_d ih_i pc k ops os s w le has ok st =
        let p1 = end_open c.program d pc in
        let u = form_in c.program t in
        follows_bind c (ih_d u pc k ops os s w (omega (arith, le)) has.0 ok.0 ok.1.1 st) λ p s1 w1 k1.
        let f = open_form s1 w1 u (code.form_of (scope c a) d) p k1.1.all k1.0 ok.1.1 in
        let second = Second (place_form c.program c.img s1.made (K c a) p) in
        let long : second ≡ pos f.0 = ap Second f.1 in
        follows_bind c (ih_i longint p1 _ (second ∷ pos (address c.program c.img s1.made (K c a) p) ∷ ops) s1.made s1 w1 (omega (arith, le)) has.1.0 ok.1.0 (from_here c a n call b k1.1)) λ v s2 w2 k2.
        let z = k2.0 in
        let p2 = end_expr c.program i p1 in
        let same = address_same c s1.made s2.made k2.1.objects (K c a) p k1.0.0 in
        let kept = place_of_more c s1.made s2.made k2.1.objects (K c a) (code.form_of (scope c a) d) p k1.0 in
        let form : place_form c.program c.img s2.made (K c a) p ≡ ArrayForm f.0 u = form_same c s1.made s2.made k2.1.objects (K c a) p k1.0.0 ∙ f.1 in
        let fine : Fine c.program (has_of c) s2.made (ArrayForm f.0 u) (value_at s2.store p) = subst (λ t. Fine c.program (has_of c) s2.made t (value_at s2.store p)) form ((located c (K c a) s2 w2 k2.1.all p kept.0).fine) in
        subst (λ m. Follows c (go c a p2 (word_of c.program (has_of c) c.img s2.made v ∷ second ∷ pos (address c.program c.img s1.made (K c a) p) ∷ ops) w2) (PlaceTo c a n call b (suc p2) ops) (PlaceKept c a n call b u os) (element_place m p (integer_of v) (here_in c a n call b) at s2)) (sym fine.0)
        (subst (λ x. Follows c (go c a p2 (word_of c.program (has_of c) c.img s2.made v ∷ x ∷ pos (address c.program c.img s1.made (K c a) p) ∷ ops) w2) (PlaceTo c a n call b (suc p2) ops) (PlaceKept c a n call b u os) (element_place f.0 p (integer_of v) (here_in c a n call b) at s2)) (sym long)
        (subst (λ v. Follows c (go c a p2 (word_of c.program (has_of c) c.img s2.made v ∷ pos f.0 ∷ pos (address c.program c.img s1.made (K c a) p) ∷ ops) w2) (PlaceTo c a n call b (suc p2) ops) (PlaceKept c a n call b u os) (element_place f.0 p (integer_of v) (here_in c a n call b) at s2)) (sym z.2)
        (subst (λ m. Follows c (go c a p2 (z.0 ∷ pos f.0 ∷ pos m ∷ ops) w2) (PlaceTo c a n call b (suc p2) ops) (PlaceKept c a n call b u os) (element_place f.0 p z.0 (here_in c a n call b) at s2)) same
        (open_element_follows z.0 p f.0 u at p2 ops os s2 w2 (omega (arith, le, need_one_e i)) has.1.1 kept.0 form (since c a n call b k1.1.objects k2.1)))))
