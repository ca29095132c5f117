-- Type tests and guards on pointers, and what is done with guarded pointers.
use Rattle.std.proofs.Common.{◌≡◌, ℕ, suc, ◌+◌, ◌≤◌, ◌<◌, List, [], ◌∷◌, length, Some, None, ℤ, refl, sym, ap, ◌∙◌, subst, arith, inr, ⊎_elim}
use Rattle.std.specs.Prelude.{pos, Bool, true, false}
use Rattle.ob_trap.specs.declared.trap.Trap.TheVariants as trap
use Rattle.ob_tree.specs.declared.pos.Pos.{Pos}
use Rattle.ob_tree.specs.declared.names.QName.{QName}
use Rattle.ob_types.specs.declared.types.TypeRef.{TypeRef}
use Rattle.ob_types.specs.declared.typed.Guarded.TheVariants as guarded
use Rattle.ob_types.specs.declared.typed.Assigned.TheVariants as assigned
use Rattle.ob_types.specs.declared.typed.Made.TheVariants as made_of
use Rattle.ob_types.specs.TypedSyntax.{Desig, OfVariable, Field, Index, Deref, Guard, Expr, ValueOf, IsPointer, Assign, New}
use Rattle.ob_instr.specs.declared.opcode.Opcode.TheVariants as op
use Rattle.ob_instr.specs.Image.{World}
use Rattle.ob_instr.specs.Rows.{tag, made, passes_at, pointer_passes}
use Rattle.ob_instr.proofs.Goes as rows
use Rattle.ob_mem.specs.Words.{word_at}
use Rattle.ob_meaning.specs.Values.{Form, PointerForm, form_in, record_in, is_among, line_of, Value, Nil, Object, OfObject, Place, At, value_at, AnObject, Whole, Active, State}
use Rattle.ob_meaning.specs.Results.{Trapped, Gives, Stops, read, assign, Caller}
use Rattle.ob_meaning.specs.Meaning.{choose, place, pointee_type, guarded_place, is_extension}
use Rattle.law_simulation_relation.specs.Layout.{static_held, type_number, has_length_at, object_at, address, place_form}
use Rattle.law_simulation_relation.specs.Relation.{IsStructure, LengthFits, Fine, IsPointer as PointsTo, word_of, Scalar, PlaceIn, PlaceOf, Sub, itself}
use Rattle.law_simulation_relation.specs.Need.{need_place, need_tagged}
use Rattle.law_simulation_relation.specs.Ends.{end_place, end_expr}
use Rattle.law_simulation_relation.specs.Stands as code
use Rattle.law_simulation_relation.specs.Typed as typed
use Rattle.law_simulation_relation.specs.Typed.{boolean, TestOk}
use Rattle.law_simulation_relation.proofs.Steps.{here, Follows, follows_bind, follows_value, follows_stop, follows_map, stands_any}
use Rattle.law_simulation_relation.proofs.Statements.{Activation, scope, go, fb, K, here_in, Keeps, PlaceTo, ValueTo, ValueKept, PlaceFollows, ExprFollows, StmtFollows, DesigOk}
use Rattle.law_simulation_relation.proofs.Grow.{G, place_more, form_same, address_same}
use Rattle.law_simulation_relation.proofs.Places.{Ex}
use Rattle.law_simulation_relation.proofs.Located.{spot}
use Rattle.law_simulation_relation.proofs.Needs.{need_one, need_one_e}
use Rattle.law_simulation_relation.proofs.Moves.{goes, traps}
use Rattle.law_simulation_relation.proofs.Values.{sub_scalar, widen}
use Rattle.law_simulation_relation.proofs.Exprs.{from_here, since, widen_kept}
use Rattle.law_simulation_relation.proofs.Pointers.{pointee_follows, made_follows}
use Rattle.law_simulation_relation.proofs.Stmts.{store_follows, plain_to, plain_kept}
use Rattle.law_simulation_relation.specs.Linked.{TypesStand}
use Rattle.law_simulation_relation.proofs.Sources.{place_ok}
use Rattle.law_simulation_relation.specs.Setting.{Setting, StandIn, has_of}
use Rattle.law_simulation_records.specs.Bases.{BasesStand}
use Rattle.law_simulation_records.proofs.Bases.{passes}
use Rattle.law_simulation_records.proofs.Tags.{one_less, IsRecord, record_below, record_above, sub_sub, type_at, object_tag, extends_it}

pub tagged_more : (d : Desig) → need_place d ≤ need_tagged d
tagged_more (OfVariable v t) = omega arith
tagged_more (Field d o x t) = omega arith
tagged_more (Index d (Some n) i at t) = omega arith
tagged_more (Index d None i at t) = omega arith
tagged_more (Deref d at t) = omega arith
tagged_more (Guard d guarded.Pointer q at t) = omega arith
tagged_more (Guard d guarded.Record q at t) = omega arith

-- THE TEST OF A POINTER

module _ (c : Setting) (stand : BasesStand c) (cs : List Active) (s : State) (w : World) (st : StandIn c cs s w) where
  abbrev test : Value → QName → Bool
  test v q = is_extension c.program (pointee_type s.store v) q

  -- a pointer's object has a record
  pub object_record : (r : TypeRef) (q : QName) (n : ℕ) → TestOk c.program q (form_in c.program r) → n < length s.made → Sub (object_at s.made n) (form_in c.program r) → IsRecord c (object_at s.made n)
  object_record r q n ok lt sub =
      let up = record_above c (record_in c.program q) (form_in c.program r) _ _ ok.1 ok.0.1 in
      record_below c (object_at s.made n) (form_in c.program r) up.0 _ sub up.1 (place_ok c cs s w st (At (OfObject n) []) (lt, tt))

  pub pointer_test : (v : Value) (r : TypeRef) (q : QName) → PointsTo c.program s.made r v → TestOk c.program q (form_in c.program r) → pointer_passes c.img.types w.words (word_of c.program (has_of c) c.img s.made v) (type_number c.img.types q) ≡ Some (test v q)
  pointer_test v r q fine ok = ⊎_elim (λ f. subst Goal (sym f) refl) (λ k. subst Goal (sym k.1) (object k.0 k.2 k.3)) fine
    where
      Goal : Value → Type 0
      Goal v = pointer_passes c.img.types w.words (word_of c.program (has_of c) c.img s.made v) (type_number c.img.types q) ≡ Some (test v q)

      object : (n : ℕ) → n < length s.made → Sub (object_at s.made n) (form_in c.program r) → Goal (Object n)
      object n lt sub =
          let k = object_record r q n ok lt sub in
          let type_is = type_at c cs s w st (At (OfObject n) []) (lt, tt) k in
          let t = object_tag c cs s w st n k.name k.line k.fields lt k.is in
          ap (λ a. pointer_passes c.img.types w.words (pos a) (type_number c.img.types q)) t.next
          ∙ ap (λ z. passes_at c.img.types (word_at w.words z) (type_number c.img.types q)) (one_less (suc t.at))
          ∙ ap (λ o. passes_at c.img.types o (type_number c.img.types q)) t.word
          ∙ passes c stand k.name q k.line k.fields k.built
          ∙ ap (λ o. Some (is_extension c.program o q)) (sym type_is)

  -- a pointer that passes has an object of the type
  pub pointer_passed : (v : Value) (r target : TypeRef) (q : QName) → PointsTo c.program s.made r v → TestOk c.program q (form_in c.program r) → form_in c.program target ≡ record_in c.program q → test v q ≡ true → PointsTo c.program s.made target v
  pointer_passed v r target q fine ok is holds = ⊎_elim (λ f. absurd (not_nil f)) (λ k. object k.0 k.1 k.2 k.3) fine
    where
      not_nil : v ≡ Nil → ⊥
      not_nil f = let e : false ≡ true = subst (λ v. test v q ≡ true) f holds in absurd (cc)

      object : (n : ℕ) → v ≡ Object n → n < length s.made → Sub (object_at s.made n) (form_in c.program r) → PointsTo c.program s.made target v
      object n f lt sub =
          let k = object_record r q n ok lt sub in
          let type_is = type_at c cs s w st (At (OfObject n) []) (lt, tt) k in
          let among : is_among (k.name ∷ k.line) q ≡ true = ap (λ l. is_among l q) (sym (ap line_of k.built)) ∙ ap (λ o. is_extension c.program o q) (sym type_is) ∙ subst (λ v. test v q ≡ true) f holds in
          let up = extends_it c stand k.name q k.line k.fields k.built among in
          inr (n, f, lt, subst (λ u. Sub (object_at s.made n) u) (sym is) (subst (λ u. Sub u (record_in c.program q)) (sym k.is) up), subst (λ u. LengthFits u (has_length_at s.made n)) (sym (is ∙ ok.0.1)) tt)

module _ (c : Setting) (a : Activation c) (n : ℕ) (call : Caller) (b : ℕ) where
  abbrev Kp : List AnObject → State → World → Type 0
  Kp os s w = Keeps c a n call b os s w

  abbrev W : List AnObject → Value → ℤ
  W os v = word_of c.program (has_of c) c.img os v

  abbrev F : List AnObject → Form → Value → Type 0
  F os t v = Fine c.program (has_of c) os t v

  abbrev form_at : State → Place → Form
  form_at s p = place_form c.program c.img s.made (K c a) p

  abbrev address_at : State → Place → ℕ
  address_at s p = address c.program c.img s.made (K c a) p

  abbrev T : Desig → Form
  T d = code.form_of (scope c a) d

  abbrev Wide : Form → Form → Type 0
  Wide t u = typed.Widens c.program (has_of c) a.unit (static_held c.program a.procedure) a.procedure.result t u

  pub is_pointer_case : (stand : BasesStand c) (e : Expr) (q : QName) → ExprFollows c a n call b e → ExprFollows c a n call b (IsPointer e q)
  is_pointer_case stand e q ih t pc k ops os s w le has ok st =
      let p1 = end_expr c.program e pc in
      follows_map c
      (follows_bind c (ih (PointerForm ok.0.0) pc k ops os s w le has.0 ok.0.1 st) λ v s1 w1 k1.
      follows_value c w1
      (goes c a _ w1 has.1.has (rows.is_p_next c.img a.u a.m a.p (fb c a) p1 w1 (W s1.made v) has.1.number (type_number c.img.types q) _ ops has.1.is (pointer_test c stand (K c a) s1 w1 k1.1.all v ok.0.0 q k1.0 ok.0.2)) (omega (arith, le, need_one_e e)))
      ((is_extension c.program (pointee_type s1.store v) q, refl), k1.1))
      (λ v s w k. here c _) (λ v s w k. widen_kept c a n call b boolean t os v s w ok.1 k)

  -- A VARIABLE THAT HOLDS A SCALAR OF A TYPE FOR NOW: a guarded pointer's own type is that of a base

  abbrev pub Takes : Form → State → Place → Type 0
  Takes t s p = PlaceIn c.program (has_of c) c.img s.made (K c a) p × (Scalar t × Wide t (form_at s p))

  abbrev pub HolderKept : Form → List AnObject → Place → State → World → Type 0
  HolderKept t os p s w = (Takes t s p × F s.made t (value_at s.store p)) × Kp os s w

  abbrev pub HolderFollows : Desig → Type 0
  HolderFollows d = (pc at : ℕ) (ops : List ℤ) (os : List AnObject) (s : State) (w : World) → length ops + need_place d ≤ 256 → code.PlaceCode (scope c a) d pc at → DesigOk c a n call b d → Scalar (T d) → Kp os s w →
      Follows c (go c a pc ops w) (PlaceTo c a n call b (end_place c.program d pc) ops) (HolderKept (T d) os) (place d (here_in c a n call b) s)

  pub holder_of_place : (d : Desig) → PlaceFollows c a n call b d → HolderFollows d
  holder_of_place d ih pc k ops os s w le has ok sc st =
      follows_map c (ih pc k ops os s w le has ok st) (λ p s w k. here c _) (λ p s w k. (holds (T d) s w p sc k.1.all k.0, k.1))
    where
      holds : (t : Form) (s : State) (w : World) (p : Place) → Scalar t → StandIn c (K c a) s w → PlaceOf c.program (has_of c) c.img s.made (K c a) t p → Takes t s p × F s.made t (value_at s.store p)
      holds t s w p sc all k =
          let e = sub_scalar _ _ k.1 sc in
          let x = spot c (K c a) s w all p (subst (λ u. Scalar u) (sym e) sc) k.0 in
          ((k.0, (sc, subst (λ u. Wide t u) (sym e) typed.itself)), subst (λ u. F s.made u (value_at s.store p)) e x.fine)

  wide_scalar : (t u : Form) → Wide t u → Scalar t → Scalar u
  wide_scalar t _ typed.itself sc = sc
  wide_scalar _ _ (typed.integers v w h) sc = tt
  wide_scalar _ _ (typed.pointers t u f g) sc = tt
  wide_scalar _ _ (typed.procedures s t f) sc = tt

  -- VALUES AND DEREFERENCES

  pub holder_load : (p : Place) (t : Form) (pc : ℕ) (ops : List ℤ) (os : List AnObject) (s : State) (w : World) → length ops + 1 ≤ 256 → code.Has (scope c a) pc (code.plain op.Load) → HolderKept t os p s w → Follows c (PlaceTo c a n call b pc ops p s w) (ValueTo c a n call b (suc pc) ops) (ValueKept c a n call b t os) (read p s)
  holder_load p t pc ops os s w le has k =
      let x = spot c (K c a) s w k.1.all p (wide_scalar t (form_at s p) k.0.0.1.1 k.0.0.1.0) k.0.0.0 in
      follows_value c w (goes c a _ w has (rows.load_next c.img a.u a.m a.p (fb c a) pc w (pos (address_at s p)) _ ops x.load) (omega (arith, le))) (k.0.1, k.1)

  pub value_holder_case : (d : Desig) → HolderFollows d → ExprFollows c a n call b (ValueOf d)
  value_holder_case d ih t pc k ops os s w le has ok st =
      follows_map c
      (follows_bind c (ih pc k ops os s w le has.0 ok.0 ok.1.0 st) λ p s1 w1 k1.
      holder_load p (T d) (end_place c.program d pc) ops os s1 w1 (omega (arith, le, need_one d)) has.1 k1)
      (λ v s w k. here c _) (λ v s w k. widen_kept c a n call b (T d) t os v s w ok.1.1 k)

  pub deref_holder_case : (d : Desig) (at : Pos) (t : TypeRef) → HolderFollows d → PlaceFollows c a n call b (Deref d at t)
  deref_holder_case d at t ih pc k ops os s w le has ok st =
      let p1 = end_place c.program d pc in
      let r = ok.1.0 in
      follows_bind c (ih pc k ops os s w le has.0 ok.0 (subst (λ u. Scalar u) (sym ok.1.1) tt) st) λ p s1 w1 k1.
      follows_bind c (holder_load p (T d) p1 ops os s1 w1 (omega (arith, le, need_one d)) has.1.0 k1) λ v s2 w2 k2.
      pointee_follows c a n call b v r (form_in c.program t) at (suc p1) ops os s2 w2 (omega (arith, le, need_one d)) has.1.1 (subst (λ u. F s2.made u v) ok.1.1 k2.0) ok.1.2 k2.1

  -- ASSIGNMENT AND NEW

  takes_more : (t : Form) (s1 s2 : State) (p : Place) → G c s1.made s2.made → Takes t s1 p → Takes t s2 p
  takes_more t s1 s2 p g k = (place_more c s1.made s2.made g (K c a) p k.0, (k.1.0, subst (λ u. Wide t u) (sym (form_same c s1.made s2.made g (K c a) p k.0)) k.1.1))

  pub assign_holder_case : (d : Desig) (e : Expr) (at : Pos) → HolderFollows d → ExprFollows c a n call b e → StmtFollows c a n call b (Assign d assigned.Scalar e at)
  assign_holder_case d e at ih_d ih_e l exit pc k os s w le inside lies has ok st =
      let p1 = end_place c.program d pc in
      follows_bind c (ih_d pc k [] os s w (omega (arith, le)) has.0 ok.0 ok.1.1 st) λ p s1 w1 k1.
      follows_bind c
      (follows_bind c (ih_e (T d) p1 _ (pos (address_at s1 p) ∷ []) s1.made s1 w1 (omega (arith, le)) has.1.0 ok.1.0 (from_here c a n call b k1.1)) λ v s2 w2 k2.
      let same = address_same c s1.made s2.made k2.1.objects (K c a) p k1.0.0.0 in
      let more = takes_more (T d) s1 s2 p k2.1.objects k1.0.0 in
      subst (λ m. Follows c (go c a (end_expr c.program e p1) (W s2.made v ∷ pos m ∷ []) w2) (plain_to c a n call b (suc (end_expr c.program e p1)) []) (plain_kept c a n call b os) (assign p v s2)) same
      (store_follows c a n call b p (form_at s2 p) v (end_expr c.program e p1) [] os s2 w2 (omega arith) has.1.1 (wide_scalar (T d) (form_at s2 p) more.1.1 more.1.0) (more.0, itself) (widen c s2.made a (T d) (form_at s2 p) v more.1.1 k2.0) (since c a n call b k1.1.objects k2.1)))
      λ u s3 w3 k3. follows_value c w3 (here c _) (tt, k3)

  -- what points to a type points to an extension
  abbrev pointed_by : TypeRef → Form → TypeRef
  pointed_by r (PointerForm t) = t
  pointed_by r t = r

  -- what takes pointers to a type takes those to its extensions
  record Pointer (r : TypeRef) (u : Form) : Type 0 where
    own : TypeRef
    is : u ≡ PointerForm own
    takes : (x : Form) → Sub x (form_in c.program r) → Sub x (form_in c.program own)
    fits : (has : Bool) → LengthFits (form_in c.program r) has → LengthFits (form_in c.program own) has

  pointer_of : (t u : Form) (r : TypeRef) → Wide t u → t ≡ PointerForm r → Pointer r u
  pointer_of t _ r typed.itself e = record { own = r; is = e; takes = λ x h. h; fits = λ has h. h }
  pointer_of _ _ r (typed.integers v w h) e = absurd (cc)
  pointer_of _ _ r (typed.pointers t u f g) e = record { own = u; is = refl; takes = λ x h. f x (subst (λ z. Sub x (form_in c.program (pointed_by r z))) (sym e) h); fits = λ has h. g has (subst (λ z. LengthFits (form_in c.program (pointed_by r z)) has) (sym e) h) }
  pointer_of _ _ r (typed.procedures x y f) e = absurd (cc)

  pub new_holder_case : (d : Desig) (q : QName) (at : Pos) → TypesStand c → HolderFollows d → StmtFollows c a n call b (New d (made_of.Record q) at)
  new_holder_case d q at types ih l exit pc k os s w le inside lies has ok st =
      let p1 = end_place c.program d pc in
      let r = ok.1.0.0 in
      let ts = types q ok.1.1.0 ok.1.1.1 in
      let x = Whole (record_in c.program q) in
      let ex : Ex c [] x ≡ tag (type_number c.img.types q) ∷ [] = ap (λ t. Ex c [] (Whole t)) ok.1.1.1 in
      follows_bind c (ih pc k [] os s w (omega (arith, le)) has.0 ok.0 (subst (λ u. Scalar u) (sym ok.1.0.1) tt) st) λ p s1 w1 k1.
      let own = pointer_of (T d) (form_at s1 p) r k1.0.0.1.1 ok.1.0.1 in
      follows_bind c (made_follows c a n call b x own.own p ts.descriptor.words (code.with_a op.NewR has.1.type.number) at p1 (pos (address_at s1 p) ∷ []) [] os s1 w1 (omega arith) (record { has = has.1.type.has; place = has.1.place }) (subst (λ u. IsStructure u) (sym ok.1.1.1) tt, ts.ok) (own.takes (record_in c.program q) (subst (λ u. Sub u (form_in c.program r)) ok.1.0.2 itself)) (own.fits false (subst (λ u. LengthFits u false) (sym (ok.1.0.2 ∙ ok.1.1.1)) tt)) ts.size (k1.0.0.0, subst (λ u. Sub (form_at s1 p) u) own.is itself)
      (λ there. rows.new_r_is c.img a.u a.m a.p (fb c a) p1 w1 (pos (address_at s1 p)) has.1.type.number (type_number c.img.types q) ts.descriptor [] has.1.type.is ts.found there ∙ ap (λ e. made (pos (address_at s1 p)) e ts.descriptor.words [] w1) (sym ex)) k1.1)
      λ u s2 w2 k2. follows_value c w2 (here c _) (tt, k2)

  -- GUARDS

  on_guard : (stand : BasesStand c) (p : Place) (r target : TypeRef) (t : Form) (q : QName) (at : Pos) (pc : ℕ) (ops : List ℤ) (os : List AnObject) (s : State) (w : World) → length ops + 1 ≤ 256 → code.HasTypeAt (scope c a) pc op.GuardAt q at → TestOk c.program q (form_in c.program r) → t ≡ PointerForm target → form_in c.program target ≡ record_in c.program q → HolderKept (PointerForm r) os p s w →
      Follows c (PlaceTo c a n call b pc ops p s w) (PlaceTo c a n call b (suc pc) ops) (HolderKept t os) (guarded_place guarded.Pointer q p (here_in c a n call b) at s)
  on_guard stand p r target t q at pc ops os s w le has ok e is k = by (is_extension c.program (pointee_type s.store v) q) refl
    where
      v : Value
      v = value_at s.store p

      own : Pointer r (form_at s p)
      own = pointer_of (PointerForm r) (form_at s p) r k.0.0.1.1 refl

      load : word_at w.words (pos (address_at s p)) ≡ Some (W s.made v)
      load = (spot c (K c a) s w k.1.all p (wide_scalar (PointerForm r) (form_at s p) k.0.0.1.1 tt) k.0.0.0).load

      tested : (z : Bool) → is_extension c.program (pointee_type s.store v) q ≡ z → pointer_passes c.img.types w.words (W s.made v) (type_number c.img.types q) ≡ Some z
      tested z f = pointer_test c stand (K c a) s w k.1.all v r q k.0.1 ok ∙ ap Some f

      above : (x : Form) → Sub x (form_in c.program target) → Sub x (form_in c.program r)
      above x h = sub_sub x (record_in c.program q) (form_in c.program r) (subst (λ u. Sub x u) is h) ok.1

      no_length : (has : Bool) → LengthFits (form_in c.program r) has
      no_length has = let up = record_above c (record_in c.program q) (form_in c.program r) _ _ ok.1 ok.0.1 in subst (λ u. LengthFits u has) (sym up.1) tt

      wide : Wide (PointerForm target) (form_at s p)
      wide = subst (λ u. Wide (PointerForm target) u) (sym own.is) (typed.pointers target own.own (λ x h. own.takes x (above x h)) (λ has h. own.fits has (no_length has)))

      by : (z : Bool) → is_extension c.program (pointee_type s.store v) q ≡ z → Follows c (PlaceTo c a n call b pc ops p s w) (PlaceTo c a n call b (suc pc) ops) (HolderKept t os) (choose z (Gives p) (λ s. Stops (Trapped trap.GuardFails (pos 0) a.unit at) s) s)
      by true f =
          follows_value c w
          (goes c a _ w has.type.has (rows.guard_at_next c.img a.u a.m a.p (fb c a) pc w (pos (address_at s p)) (W s.made v) has.type.number (type_number c.img.types q) ops has.type.is load (tested true f)) (omega (arith, le)))
          (subst (λ u. Takes u s p × F s.made u v) (sym e) ((k.0.0.0, (tt, wide)), pointer_passed c stand (K c a) s w k.1.all v r target q k.0.1 ok is f), k.1)
      by false f =
          follows_stop c w
          (traps c a trap.GuardFails (pos 0) w (record { has = has.type.has; place = has.place }) (rows.guard_at_traps c.img a.u a.m a.p (fb c a) pc w (pos (address_at s p)) (W s.made v) has.type.number (type_number c.img.types q) ops has.type.is load (tested false f)))
          (stands_any c k.1)

  pub guard_pointer_case : (stand : BasesStand c) (d : Desig) (q : QName) (at : Pos) (t : TypeRef) → HolderFollows d → HolderFollows (Guard d guarded.Pointer q at t)
  guard_pointer_case stand d q at t ih pc k ops os s w le has ok sc st =
      let r = ok.1.1.0 in
      follows_bind c (ih pc k ops os s w (omega (arith, le, tagged_more d)) has.0 ok.0 (subst (λ u. Scalar u) (sym ok.1.1.1) tt) st) λ p s1 w1 k1.
      on_guard stand p r ok.1.0.0 (form_in c.program t) q at (end_place c.program d pc) ops os s1 w1 (omega (arith, le, need_one d, tagged_more d)) has.1 ok.1.1.2 ok.1.0.1 ok.1.0.2 (subst (λ u. HolderKept u os p s1 w1) ok.1.1.1 k1)
