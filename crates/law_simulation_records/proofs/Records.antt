-- Record parameters by VAR, their tags, and tests and guards on them.
use Rattle.std.proofs.Common.{◌≡◌, ℕ, suc, ◌+◌, ◌≤◌, List, ◌∷◌, length, Some, None, ℤ, refl, sym, ap, ◌∙◌, subst, arith}
use Rattle.std.specs.Prelude.{pos, Bool, true, false}
use Rattle.ob_trap.specs.declared.trap.Trap.TheVariants as trap
use Rattle.ob_tree.specs.declared.pos.Pos.{Pos}
use Rattle.ob_tree.specs.declared.names.QName.{QName}
use Rattle.ob_types.specs.declared.types.TypeRef.{TypeRef}
use Rattle.ob_types.specs.declared.typed.Guarded.TheVariants as guarded
use Rattle.ob_types.specs.declared.typed.Passing.TheVariants as passing
use Rattle.ob_types.specs.declared.typed.Variable.TheVariants as variable
use Rattle.ob_types.specs.TypedSyntax.{Desig, OfVariable, Field, Index, Deref, Guard, IsRecord as TestRecord}
use Rattle.ob_mem.specs.Words.{word_at}
use Rattle.ob_instr.specs.declared.opcode.Opcode.TheVariants as op
use Rattle.ob_instr.specs.Image.{World}
use Rattle.ob_instr.specs.Rows.{tag_passes}
use Rattle.ob_instr.proofs.Goes as rows
use Rattle.ob_meaning.specs.Values.{Form, line_of, form_in, record_in, is_among, type_of, Place, value_at, Active, AnObject, State}
use Rattle.ob_meaning.specs.Results.{Trapped, Gives, Stops, Caller}
use Rattle.ob_meaning.specs.Meaning.{place, place_of, choose, guarded_place, is_extension}
use Rattle.law_simulation_relation.specs.Layout.{type_number, slot, static_held, address, place_form}
use Rattle.law_simulation_relation.specs.Relation.{PlaceOf, Sub, second_word}
use Rattle.law_simulation_relation.specs.Need.{need_tagged}
use Rattle.law_simulation_relation.specs.Ends.{end_tagged, end_tag}
use Rattle.law_simulation_relation.specs.Stands as code
use Rattle.law_simulation_relation.specs.Typed.{As, IsReferred, boolean, TestOk, IsVariableRecord, IsRecordForm}
use Rattle.law_simulation_relation.proofs.Steps.{Reach, here, then_reach, Follows, follows_bind, follows_value, follows_stop, follows_map, stands_any}
use Rattle.law_simulation_relation.proofs.Statements.{Activation, scope, go, fb, K, here_in, Keeps, PlaceTo, PlaceKept, LongTo, PlaceFollows, RecordFollows, TagFollows, ExprFollows}
use Rattle.law_simulation_relation.proofs.Slots.{ref_load}
use Rattle.law_simulation_relation.proofs.Copied.{referred_second_load}
use Rattle.law_simulation_relation.proofs.Frames.{referred_fixed, call_alike, same_alike, address_up, form_up, ref_place}
use Rattle.law_simulation_relation.proofs.Moves.{goes, traps, small_word, all_length}
use Rattle.law_simulation_relation.proofs.Variables.{got_within, static_slot, ref_of}
use Rattle.law_simulation_relation.proofs.Exprs.{widen_kept}
use Rattle.law_simulation_relation.proofs.Sources.{place_ok}
use Rattle.law_simulation_relation.specs.Setting.{Setting, StandIn, has_of}
use Rattle.law_simulation_records.specs.Bases.{BasesStand}
use Rattle.law_simulation_records.proofs.Bases.{passes}
use Rattle.law_simulation_records.proofs.Tags.{IsRecord, record_below, record_above, type_at, extends_it}

pub two_tagged : (d : Desig) → 2 ≤ need_tagged d
two_tagged (OfVariable v t) = omega arith
two_tagged (Field d o x t) = omega arith
two_tagged (Index d (Some n) i at t) = omega arith
two_tagged (Index d None i at t) = omega arith
two_tagged (Deref d at t) = omega arith
two_tagged (Guard d guarded.Pointer q at t) = omega arith
two_tagged (Guard d guarded.Record q at t) = two_tagged d

-- THE TEST OF A TAG

module _ (c : Setting) (stand : BasesStand c) (cs : List Active) (s : State) (w : World) (st : StandIn c cs s w) where
  abbrev form_at : Place → Form
  form_at p = place_form c.program c.img s.made cs p

  abbrev second : Place → ℤ
  second p = second_word c.program (has_of c) c.img (form_at p)

  -- what stands at a place of a tested type is a record
  pub place_record : (p : Place) (t : Form) (q : QName) → PlaceOf c.program (has_of c) c.img s.made cs t p → TestOk c.program q t → IsRecord c (form_at p)
  place_record p t q k ok =
      let up = record_above c (record_in c.program q) t _ _ ok.1 ok.0.1 in
      record_below c (form_at p) t up.0 _ k.1 up.1 (place_ok c cs s w st p k.0)

  pub tag_test : (p : Place) (t : Form) (q : QName) → PlaceOf c.program (has_of c) c.img s.made cs t p → TestOk c.program q t → tag_passes c.img.types (second p) (type_number c.img.types q) ≡ Some (is_extension c.program (type_of (value_at s.store p)) q)
  tag_test p t q k ok =
      let r = place_record p t q k ok in
      ap (λ u. tag_passes c.img.types (second_word c.program (has_of c) c.img u) (type_number c.img.types q)) r.is
      ∙ passes c stand r.name q r.line r.fields r.built
      ∙ ap (λ o. Some (is_extension c.program o q)) (sym (type_at c cs s w st p k.0 r))

  -- a place that passes has an extension of the type
  pub tag_passed : (p : Place) (t : Form) (q : QName) → PlaceOf c.program (has_of c) c.img s.made cs t p → TestOk c.program q t → is_extension c.program (type_of (value_at s.store p)) q ≡ true → PlaceOf c.program (has_of c) c.img s.made cs (record_in c.program q) p
  tag_passed p t q k ok holds =
      let r = place_record p t q k ok in
      let among : is_among (r.name ∷ r.line) q ≡ true = ap (λ l. is_among l q) (sym (ap line_of r.built)) ∙ ap (λ o. is_extension c.program o q) (sym (type_at c cs s w st p k.0 r)) ∙ holds in
      (k.0, subst (λ u. Sub u (record_in c.program q)) (sym r.is) (extends_it c stand r.name q r.line r.fields r.built among))

module _ (c : Setting) (a : Activation c) where
  -- THE SLOTS OF A PARAMETER BY VAR WITH TWO OF THEM

  module _ (s : State) (w : World) (st : StandIn c (K c a) s w) where
    abbrev second_at : Place → ℤ
    second_at p = second_word c.program (has_of c) c.img (place_form c.program c.img s.made (K c a) p)

    pub address_goes : (x : List ℕ) (pc : ℕ) (ops : List ℤ) → length ops + 1 ≤ 256 → code.Has (scope c a) pc (code.with_a op.Local (slot (static_held c.program a.procedure) x)) → code.Has (scope c a) (suc pc) (code.plain op.Load) → As (IsReferred 2) (static_held c.program a.procedure) x → Reach c (go c a pc ops w) (go c a (suc (suc pc)) (pos (address c.program c.img s.made (K c a) (a.active.places x)) ∷ ops) w)
    address_goes x pc ops le has has2 h =
        let k = same_alike (IsReferred 2) (referred_fixed 2) _ _ x (call_alike c.program a.procedure a.active a.call) h in
        let r = ref_place c s.made a.cs a.active.places a.active.held 2 x (s.store.locals (length a.cs)) k.as_it st.calls_fine.1.1 in
        let n = fb c a + slot (static_held c.program a.procedure) x in
        let load = ap (λ k. word_at w.words (pos (fb c a + k))) (static_slot c a s w st x) ∙ ref_load c a.active a.cs s w 1 x st k.as_it ∙ ap (λ n. Some (pos n)) (sym (address_up c s.made a.cs a.active (a.active.places x) r.0)) in
        let within = got_within w.words n _ load in
        let all = all_length c (K c a) s w st in
        let small = small_word c n (omega (arith, within, all)) in
        then_reach c (goes c a _ w has (rows.local_next c.img a.u a.m a.p (fb c a) pc w (slot (static_held c.program a.procedure) x) ops small) (omega (arith, le)))
        (goes c a _ w has2 (rows.load_next c.img a.u a.m a.p (fb c a) (suc pc) w (pos n) _ ops load) (omega (arith, le)))

    pub second_goes : (x : List ℕ) (pc : ℕ) (ops : List ℤ) → length ops + 1 ≤ 256 → code.SecondCode (scope c a) x pc → As (IsReferred 2) (static_held c.program a.procedure) x → Reach c (go c a pc ops w) (go c a (suc (suc pc)) (second_at (a.active.places x) ∷ ops) w)
    second_goes x pc ops le has h =
        let k = same_alike (IsReferred 2) (referred_fixed 2) _ _ x (call_alike c.program a.procedure a.active a.call) h in
        let r = ref_place c s.made a.cs a.active.places a.active.held 2 x (s.store.locals (length a.cs)) k.as_it st.calls_fine.1.1 in
        let n = fb c a + suc (slot (static_held c.program a.procedure) x) in
        let load = ap (λ k. word_at w.words (pos (fb c a + suc k))) (static_slot c a s w st x) ∙ referred_second_load c a.active a.cs s w 0 x st k.as_it ∙ ap (λ u. Some (second_word c.program (has_of c) c.img u)) (sym (form_up c s.made a.cs a.active (a.active.places x) r.0)) in
        let within = got_within w.words n _ load in
        let all = all_length c (K c a) s w st in
        let small = small_word c n (omega (arith, within, all)) in
        then_reach c (goes c a _ w has.0 (rows.local_next c.img a.u a.m a.p (fb c a) pc w (suc (slot (static_held c.program a.procedure) x)) ops small) (omega (arith, le)))
        (goes c a _ w has.1 (rows.load_next c.img a.u a.m a.p (fb c a) (suc pc) w (pos n) _ ops load) (omega (arith, le)))

module _ (c : Setting) (a : Activation c) (n : ℕ) (call : Caller) (b : ℕ) where
  abbrev Kp : List AnObject → State → World → Type 0
  Kp os s w = Keeps c a n call b os s w

  abbrev T : Desig → Form
  T d = code.form_of (scope c a) d

  abbrev tag_of_place : State → Place → ℤ
  tag_of_place s p = second_word c.program (has_of c) c.img (place_form c.program c.img s.made (K c a) p)

  abbrev PKept : Form → List AnObject → Place → State → World → Type 0
  PKept t os p s w = PlaceKept c a n call b t os p s w

  abbrev the_record : List ℕ → TypeRef → Desig
  the_record x t = OfVariable (variable.Parameter passing.VariableRecord x) t

  pub variable_record_case : (x : List ℕ) (t : TypeRef) → PlaceFollows c a n call b (the_record x t)
  variable_record_case x t pc at ops os s w le has ok st =
      subst (λ k. Follows c (go c a pc ops w) (PlaceTo c a n call b (suc (suc pc)) ops) (PKept (form_in c.program t) os) (Gives (place_of (variable.Parameter passing.VariableRecord x) k) s)) (sym st.calls)
      (follows_value c w (address_goes c a s w st.all x pc ops le has.0 has.1 ok.0.0) (ref_of c a s w st.all 2 x (form_in c.program t) ok.0.0 ok.0.1, st))

  -- RECORDS BY ADDRESS AND TAG

  pub tagged_record_case : (x : List ℕ) (t : TypeRef) → RecordFollows c a n call b (the_record x t)
  tagged_record_case x t pc at ops os s w le has ok is st =
      subst (λ k. Follows c (go c a pc ops w) (LongTo c a n call b (suc (suc (suc (suc pc)))) ops) (PKept (form_in c.program t) os) (Gives (place_of (variable.Parameter passing.VariableRecord x) k) s)) (sym st.calls)
      (follows_value c w
      (then_reach c (address_goes c a s w st.all x pc ops (omega (arith, le)) has.0.0 has.0.1 ok.0.0) (second_goes c a s w st.all x (suc (suc pc)) (pos (address c.program c.img s.made (K c a) (a.active.places x)) ∷ ops) (omega (arith, le)) has.1 ok.0.0))
      (ref_of c a s w st.all 2 x (form_in c.program t) ok.0.0 ok.0.1, st))

  -- GUARDS

  -- the tag stands over other operands, which depend on the place
  on_tag : (stand : BasesStand c) (rest : Place → State → List ℤ) (p : Place) (u t : Form) (q : QName) (at : Pos) (pc : ℕ) (os : List AnObject) (s : State) (w : World) → length (rest p s) + 1 ≤ 256 → code.HasTypeAt (scope c a) pc op.GuardR q at → TestOk c.program q u → t ≡ record_in c.program q → PKept u os p s w →
      Follows c (go c a pc (tag_of_place s p ∷ rest p s) w) (λ p s w. go c a (suc pc) (tag_of_place s p ∷ rest p s) w) (PKept t os) (guarded_place guarded.Record q p (here_in c a n call b) at s)
  on_tag stand rest p u t q at pc os s w le has ok e k = by (is_extension c.program (type_of (value_at s.store p)) q) refl
    where
      tested : (z : Bool) → is_extension c.program (type_of (value_at s.store p)) q ≡ z → tag_passes c.img.types (tag_of_place s p) (type_number c.img.types q) ≡ Some z
      tested z f = tag_test c stand (K c a) s w k.1.all p u q k.0 ok ∙ ap Some f

      by : (z : Bool) → is_extension c.program (type_of (value_at s.store p)) q ≡ z → Follows c (go c a pc (tag_of_place s p ∷ rest p s) w) (λ p s w. go c a (suc pc) (tag_of_place s p ∷ rest p s) w) (PKept t os) (choose z (Gives p) (λ s. Stops (Trapped trap.GuardFails (pos 0) a.unit at) s) s)
      by true f =
          follows_value c w
          (goes c a _ w has.type.has (rows.guard_r_next c.img a.u a.m a.p (fb c a) pc w (tag_of_place s p) has.type.number (type_number c.img.types q) (rest p s) has.type.is (tested true f)) (omega (arith, le)))
          (subst (λ u. PlaceOf c.program (has_of c) c.img s.made (K c a) u p) (sym e) (tag_passed c stand (K c a) s w k.1.all p u q k.0 ok f), k.1)
      by false f =
          follows_stop c w
          (traps c a trap.GuardFails (pos 0) w (record { has = has.type.has; place = has.place }) (rows.guard_r_traps c.img a.u a.m a.p (fb c a) pc w (tag_of_place s p) has.type.number (type_number c.img.types q) (rest p s) has.type.is (tested false f)))
          (stands_any c k.1)

  -- what is tested or guarded is a record
  tested_record : (q : QName) (t : Form) → TestOk c.program q t → IsRecordForm t
  tested_record q t ok = record_above c (record_in c.program q) t _ _ ok.1 ok.0.1

  abbrev with_address : List ℤ → Place → State → List ℤ
  with_address ops p s = pos (address c.program c.img s.made (K c a) p) ∷ ops

  pub tagged_guard_case : (stand : BasesStand c) (d : Desig) (q : QName) (at : Pos) (t : TypeRef) → RecordFollows c a n call b d → RecordFollows c a n call b (Guard d guarded.Record q at t)
  tagged_guard_case stand d q at t ih pc k ops os s w le has ok is st =
      follows_bind c (ih pc k ops os s w le has.0 ok.0 (tested_record q (T d) ok.1.1) st) λ p s1 w1 k1.
      on_tag stand (with_address ops) p (T d) (form_in c.program t) q at (end_tagged c.program d pc) os s1 w1 (omega (arith, le, two_tagged d)) has.1 ok.1.1 ok.1.0 k1

  pub guard_record_case : (stand : BasesStand c) (d : Desig) (q : QName) (at : Pos) (t : TypeRef) → RecordFollows c a n call b d → PlaceFollows c a n call b (Guard d guarded.Record q at t)
  guard_record_case stand d q at t ih pc k ops os s w le has ok st =
      let p1 = end_tagged c.program d pc in
      follows_map c
      (follows_bind c (ih pc k ops os s w le has.0 ok.0 (tested_record q (T d) ok.1.1) st) λ p s1 w1 k1.
      on_tag stand (with_address ops) p (T d) (form_in c.program t) q at p1 os s1 w1 (omega (arith, le, two_tagged d)) has.1.0 ok.1.1 ok.1.0 k1)
      (λ p s w k. goes c a _ w has.1.1 (rows.drop_next c.img a.u a.m a.p (fb c a) (suc p1) w (tag_of_place s p) (with_address ops p s)) (omega (arith, le, two_tagged d)))
      (λ p s w k. k)

  -- THE TAG ALONE

  pub tag_follows : (stand : BasesStand c) (d : Desig) → IsVariableRecord d → TagFollows c a n call b d
  tag_follows stand (OfVariable (variable.Parameter passing.VariableRecord x) t) i pc ops os s w le has ok st =
      subst (λ k. Follows c (go c a pc ops w) (λ p s w. go c a (suc (suc pc)) (tag_of_place s p ∷ ops) w) (PKept (form_in c.program t) os) (Gives (place_of (variable.Parameter passing.VariableRecord x) k) s)) (sym st.calls)
      (follows_value c w (second_goes c a s w st.all x pc ops le has ok.0.0) (ref_of c a s w st.all 2 x (form_in c.program t) ok.0.0 ok.0.1, st))
  tag_follows stand (Guard d guarded.Record q at t) i pc ops os s w le has ok st =
      follows_bind c (tag_follows stand d i pc ops os s w le has.0 ok.0 st) λ p s1 w1 k1.
      on_tag stand (λ p s. ops) p (T d) (form_in c.program t) q at (end_tag c.program d pc) os s1 w1 le has.1 ok.1.1 ok.1.0 k1
  tag_follows stand d i pc ops os s w le has ok st = absurd i

  pub is_record_case : (stand : BasesStand c) (d : Desig) (q : QName) → ExprFollows c a n call b (TestRecord d q)
  is_record_case stand d q t pc k ops os s w le has ok st =
      let p1 = end_tag c.program d pc in
      follows_map c
      (follows_bind c (tag_follows stand d ok.1.0 pc ops os s w le has.0 ok.0 st) λ p s1 w1 k1.
      follows_value c w1
      (goes c a _ w1 has.1.has (rows.is_r_next c.img a.u a.m a.p (fb c a) p1 w1 (tag_of_place s1 p) has.1.number (type_number c.img.types q) _ ops has.1.is (tag_test c stand (K c a) s1 w1 k1.1.all p (T d) q k1.0 ok.1.1.0)) (omega (arith, le)))
      ((is_extension c.program (type_of (value_at s1.store p)) q, refl), k1.1))
      (λ v s w k. here c _) (λ v s w k. widen_kept c a n call b boolean t os v s w ok.1.1.1 k)
