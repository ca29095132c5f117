-- Calls of bound procedures follow their meaning.
use Rattle.std.proofs.Common.{◌≡◌, ⊎_elim, inr, ℕ, suc, ◌+◌, ◌≤◌, ◌<◌, List, [], ◌∷◌, ◌++◌, length, Option, Some, ℤ, refl, sym, ap, ◌∙◌, subst, arith}
use Rattle.std.specs.Prelude.{pos, slice_get, if◌then◌else◌}
use Rattle.ob_trap.specs.declared.trap.Trap.TheVariants as trap
use Rattle.ob_tree.specs.declared.pos.Pos.{Pos}
use Rattle.ob_tree.specs.declared.names.QName.{QName}
use Rattle.ob_types.specs.declared.desc.Receiver.{Receiver}
use Rattle.ob_types.specs.declared.desc.Receiver.TheVariants as receiver
use Rattle.ob_types.specs.declared.types.TypeRef.{TypeRef}
use Rattle.ob_types.specs.declared.typed.Callee.TheVariants as callee
use Rattle.ob_types.specs.declared.typed.Family.{Family}
use Rattle.ob_types.specs.declared.typed.TypedParameter.{TypedParameter}
use Rattle.ob_types.specs.TypedSyntax.{Call, Actuals, NoActual, AnActual, CallProper, Procedure}
use Rattle.ob_instr.specs.declared.opcode.Opcode.{Opcode}
use Rattle.ob_instr.specs.declared.opcode.Opcode.TheVariants as op
use Rattle.ob_instr.specs.Image.{World}
use Rattle.ob_instr.specs.Rows.{Traps, is_zero, on_found, on_receiver, on_tag, calls, tag_method, pointer_method, method_at}
use Rattle.ob_instr.specs.Table.{position_at}
use Rattle.ob_mem.specs.Words.{word_at}
use Rattle.ob_meaning.specs.Values as values
use Rattle.ob_meaning.specs.Values.{Form, PointerForm, RecordForm, fields_of, form_in, record_in, bases_in, Nil, Object, OfObject, Place, At, AnObject, State}
use Rattle.ob_meaning.specs.Results.{Passed, ByValue, ByPlace, Caller}
use Rattle.ob_meaning.specs.Meaning.{nearest, bases_of, call_found, call_bound}
use Rattle.law_simulation_relation.specs.Layout.{static_held, type_number, object_at, has_length_at, heap_start, object_offset, address, place_form}
use Rattle.law_simulation_relation.specs.Relation.{LengthFits, Fine, word_of, second_word, tag_of, Scalar, Sub, PlaceOf}
use Rattle.law_simulation_relation.specs.Ends.{end_actuals}
use Rattle.law_simulation_relation.specs.Stands as code
use Rattle.law_simulation_relation.specs.Stands.{instr, operands_of, behind_receiver, slots_passed}
use Rattle.law_simulation_relation.specs.Typed as typed
use Rattle.law_simulation_relation.specs.Typed.{IsRecordType, ReceiverOk}
use Rattle.law_simulation_relation.proofs.Steps.{here, Follows, follows_bind, follows_map, follows_value, follows_stop, stands_any}
use Rattle.law_simulation_relation.proofs.Statements.{Activation, scope, go, K, here_in, Keeps, onto, ExprFollows, ActualsFollow, StmtFollows, LongPlaceFits, ArgumentFits, ArgumentsFit, CallsFollow, ResultFine, result_fine, result_words}
use Rattle.law_simulation_relation.proofs.Moves.{traps, effect}
use Rattle.law_simulation_relation.proofs.Sources.{place_ok}
use Rattle.law_simulation_relation.specs.Setting.{Setting, StandIn, has_of}
use Rattle.law_simulation_records.proofs.Tags.{IsRecord, one_less, record_below, record_above, type_at, object_tag}
use Rattle.law_simulation_calls.specs.Tables.{TablesStand, FamiliesStand, Redefinition, Redefined, ReceiverTakes}
use Rattle.law_simulation_calls.proofs.Fits.{args_are, all_alike, counted, ValueFits}
use Rattle.law_simulation_calls.proofs.Named.{NamedGoes, result_goes, named_value, named_proper}
use Rattle.law_simulation_calls.proofs.Supers.{known_goes}

module _ (c : Setting) (a : Activation c) (n : ℕ) (call : Caller) (b : ℕ) where
  abbrev Ok : Actuals → List TypedParameter → Type 0
  Ok es ps = typed.ActualsOk c.program (has_of c) a.unit (static_held c.program a.procedure) a.procedure.result es ps

  -- the receiver's operands and those behind it
  pointer_counted : (t : QName) (ps : List TypedParameter) (es : Actuals) (ws : List ℤ) → ReceiverOk c.program receiver.Pointer t ps → Ok es ps → length ws ≡ operands_of es → length ws ≡ suc (behind_receiver es)
  pointer_counted t [] es ws k ok len = absurd k
  pointer_counted t (p ∷ ps) NoActual ws k ok len = absurd ok
  pointer_counted t (p ∷ ps) (AnActual how u e rest) ws k ok len =
      let step : 1 + operands_of rest ≡ suc (operands_of rest) = omega arith in
      len ∙ ap (λ h. slots_passed h + operands_of rest) (ok.0 ∙ k.0) ∙ step

  record_counted : (t : QName) (ps : List TypedParameter) (es : Actuals) (ws : List ℤ) → ReceiverOk c.program receiver.Record t ps → Ok es ps → length ws ≡ operands_of es → length ws ≡ suc (suc (behind_receiver es))
  record_counted t [] es ws k ok len = absurd k
  record_counted t (p ∷ ps) NoActual ws k ok len = absurd ok
  record_counted t (p ∷ ps) (AnActual how u e rest) ws k ok len =
      let step : 2 + operands_of rest ≡ suc (suc (operands_of rest)) = omega arith in
      len ∙ ap (λ h. slots_passed h + operands_of rest) (ok.0 ∙ k.0) ∙ step

  module _ (families : FamiliesStand c) (tables : TablesStand c a.methods) (calls_follow : CallsFollow c call b) where
    own_type : (u : Form) (r : IsRecord c u) → IsRecordType c.program r.name
    own_type u r = (r.line, r.built ∙ ap (λ g. RecordForm (r.name ∷ r.line) g) (sym (ap fields_of r.built)))

    -- the procedure that is reached is called with the same words
    reached : (f : Family) (k : Receiver) (t : QName) (p : Procedure) (d : QName) (built : IsRecordType c.program d) (e : Redefinition c f k p d) (xs : List Passed) (ws ops : List ℤ) (at : Pos) (pc : ℕ) (os : List AnObject) (s : State) (w : World) (number : ℕ) (o : Opcode) → code.HasAt (scope c a) pc (instr o (pos (a.methods f)) (pos number)) at → position_at a.u.positions pc ≡ at → effect c a pc (onto ws ops) w (instr o (pos (a.methods f)) (pos number)) ≡ on_found (method_at (slice_get c.img.types (type_number c.img.types d)) (pos (a.methods f))) (λ r. calls c.img r ws ops w) → ArgumentsFit c s.made (K c a) e.procedure.parameters xs ws → length ops + 1 ≤ 256 → Keeps c a n call b os s w →
        Follows c (go c a pc (onto ws ops) w) (λ r s w. go c a (suc pc) (result_words c s.made r ++ ops) w) (λ r s w. ResultFine c p.result s.made r × Keeps c a n call b os s w) (call_found (nearest c.program (bases_in c.program d) f) xs (here_in c a n call b) at s)
    reached f k t p d built e xs ws ops at pc os s w number o has place is fit le st =
        subst (λ z. Follows c (go c a pc (onto ws ops) w) (λ r s w. go c a (suc pc) (result_words c s.made r ++ ops) w) (λ r s w. ResultFine c p.result s.made r × Keeps c a n call b os s w) (call_found z xs (here_in c a n call b) at s)) (sym e.near)
        (follows_map c (known_goes c a n call b calls_follow e.q e.procedure xs ws ops (onto ws ops) at pc (instr o (pos (a.methods f)) (pos number)) os s w e.is has.has place (is ∙ ap (λ m. on_found m (λ r. calls c.img r ws ops w)) (tables d f e.q built e.near)) fit le st)
        (λ r s w k. here c _) (λ r s w k. (result_fine c e.procedure.result p.result s.made r e.result k.0, k.1)))

    module _ (t q : QName) (p : Procedure) (f : Family) (built : IsRecordType c.program t) (near : nearest c.program (bases_in c.program t) f ≡ Some q) (found : values.procedure_of c.program q ≡ Some p) where
      -- the record type of what the receiver stands for
      dynamic : (s : State) (w : World) (x : Place) → StandIn c (K c a) s w → PlaceOf c.program (has_of c) c.img s.made (K c a) (record_in c.program t) x → IsRecord c (place_form c.program c.img s.made (K c a) x)
      dynamic s w x st k = record_below c (place_form c.program c.img s.made (K c a) x) (record_in c.program t) (t ∷ built.0) (fields_of (record_in c.program t)) k.1 built.1 (place_ok c (K c a) s w st x k.0)

      redefined : (k : Receiver) (s : State) (w : World) (x : Place) (st : StandIn c (K c a) s w) → ReceiverOk c.program k t p.parameters → (h : PlaceOf c.program (has_of c) c.img s.made (K c a) (record_in c.program t) x) → Redefinition c f k p (dynamic s w x st h).name
      redefined k s w x st rk h =
          let r = dynamic s w x st h in
          families t f k q p built near found rk r.name (own_type _ r) (subst (λ u. Sub u (record_in c.program t)) (r.is ∙ sym r.built) h.1)

      abbrev A : ℤ
      A = pos (a.methods f)

      -- the arguments of the redefinition
      args_fit : (k : Receiver) (d : QName) (os : List AnObject) (p1 : TypedParameter) (ps qs : List TypedParameter) (x : Passed) (xs : List Passed) (ws vs us : List ℤ) → Redefined c.program k d (p1 ∷ ps) qs → ws ≡ vs ++ us → ((q1 : TypedParameter) → ReceiverTakes c.program k d q1 → ArgumentFits c os (K c a) q1 x vs) → ArgumentsFit c os (K c a) ps xs us → ArgumentsFit c os (K c a) qs (x ∷ xs) ws
      args_fit k d os p1 ps [] x xs ws vs us h e first fit = absurd h
      args_fit k d os p1 ps (q1 ∷ qs) x xs ws vs us h e first fit = (vs, us, e, first q1 h.0, all_alike c os (K c a) ps qs xs us h.1 fit)

      -- RECEIVERS BY VAR

      record_goes : (es : Actuals) (at : Pos) (pc : ℕ) (ops : List ℤ) (os : List AnObject) → ReceiverOk c.program receiver.Record t p.parameters → Ok es p.parameters → code.HasAt (scope c a) pc (instr op.CallR (pos (a.methods f)) (pos (behind_receiver es))) at → length ops + 1 ≤ 256 → NamedGoes c a n call b (callee.Bound f receiver.Record) at p.result p.parameters pc ops os
      record_goes es at pc ops os rk ok has le xs ws s w fit st = by p.parameters xs refl rk fit (record_counted t p.parameters es ws rk ok (counted c s.made (K c a) a es p.parameters xs ws ok fit))
        where
          Goal : List Passed → Type 0
          Goal xs = Follows c (go c a pc (onto ws ops) w) (λ r s w. go c a (suc pc) (result_words c s.made r ++ ops) w) (λ r s w. ResultFine c p.result s.made r × Keeps c a n call b os s w) (call_bound receiver.Record f xs (here_in c a n call b) at s)

          by : (ps : List TypedParameter) (xs : List Passed) → p.parameters ≡ ps → ReceiverOk c.program receiver.Record t ps → ArgumentsFit c s.made (K c a) ps xs ws → length ws ≡ suc (suc (behind_receiver es)) → Goal xs
          by [] xs e rk fit len = absurd rk
          by (p1 ∷ ps) [] e rk fit len = absurd fit
          by (p1 ∷ ps) (x ∷ xs) e rk fit len =
              let g : LongPlaceFits c s.made (K c a) (form_in c.program p1.of) x fit.0 = rw rk.0 at fit.3 in
              let y = g.0 in
              let h : PlaceOf c.program (has_of c) c.img s.made (K c a) (record_in c.program t) y = subst (λ z. PlaceOf c.program (has_of c) c.img s.made (K c a) z y) rk.1 g.3 in
              let r = dynamic s w y st.all h in
              let red = redefined receiver.Record s w y st.all (subst (λ z. ReceiverOk c.program receiver.Record t z) (sym e) rk) h in
              let ws_is : ws ≡ pos (address c.program c.img s.made (K c a) y) ∷ tag_of c.program (has_of c) c.img r.name ∷ fit.1 = fit.2 ∙ ap (λ l. l ++ fit.1) g.2 ∙ ap (λ u. pos (address c.program c.img s.made (K c a) y) ∷ second_word c.program (has_of c) c.img u ∷ fit.1) r.is in
              let is : effect c a pc (onto ws ops) w (instr op.CallR (pos (a.methods f)) (pos (behind_receiver es))) ≡ on_found (method_at (slice_get c.img.types (type_number c.img.types r.name)) A) (λ r. calls c.img r ws ops w) =
              args_are (suc (suc (behind_receiver es))) ws ops (λ args rest. on_tag args (λ g. on_found (tag_method c.img g A) (λ r. calls c.img r args rest w))) len
              ∙ ap (λ l. on_tag l (λ g. on_found (tag_method c.img g A) (λ r. calls c.img r ws ops w))) ws_is in
              let first : (q1 : TypedParameter) → ReceiverTakes c.program receiver.Record r.name q1 → ArgumentFits c s.made (K c a) q1 x fit.0 = λ q1 k.
              let l : LongPlaceFits c s.made (K c a) (form_in c.program q1.of) x fit.0 = (y, g.1, g.2, (h.0, subst (λ u. Sub (place_form c.program c.img s.made (K c a) y) u) (sym k.1.1) (subst (λ u. Sub u (record_in c.program k.0)) (sym (r.is ∙ sym r.built)) k.2))) in
              rw k.1.0 l in
              let args = args_fit receiver.Record r.name s.made p1 ps red.procedure.parameters x xs ws fit.0 fit.1 (subst (λ z. Redefined c.program receiver.Record r.name z red.procedure.parameters) e red.parameters) fit.2 first fit.4 in
              let args2 = subst (λ x. ArgumentsFit c s.made (K c a) red.procedure.parameters (x ∷ xs) ws) g.1 args in
              subst (λ x. Goal (x ∷ xs)) (sym g.1)
              (subst (λ z. Follows c (go c a pc (onto ws ops) w) (λ r s w. go c a (suc pc) (result_words c s.made r ++ ops) w) (λ r s w. ResultFine c p.result s.made r × Keeps c a n call b os s w) (call_found (nearest c.program (bases_of c.program z) f) (ByPlace y ∷ xs) (here_in c a n call b) at s)) (sym (type_at c (K c a) s w st.all y h.0 r))
              (reached f receiver.Record t p r.name (own_type _ r) red (ByPlace y ∷ xs) ws ops at pc os s w (behind_receiver es) op.CallR has has.place is args2 le st))

      -- POINTERS AS RECEIVERS

      pointer_goes : (es : Actuals) (at : Pos) (pc : ℕ) (ops : List ℤ) (os : List AnObject) → ReceiverOk c.program receiver.Pointer t p.parameters → Ok es p.parameters → code.HasAt (scope c a) pc (instr op.CallP (pos (a.methods f)) (pos (behind_receiver es))) at → length ops + 1 ≤ 256 → NamedGoes c a n call b (callee.Bound f receiver.Pointer) at p.result p.parameters pc ops os
      pointer_goes es at pc ops os rk ok has le xs ws s w fit st = by p.parameters xs refl rk fit (pointer_counted t p.parameters es ws rk ok (counted c s.made (K c a) a es p.parameters xs ws ok fit))
        where
          Goal : List Passed → Type 0
          Goal xs = Follows c (go c a pc (onto ws ops) w) (λ r s w. go c a (suc pc) (result_words c s.made r ++ ops) w) (λ r s w. ResultFine c p.result s.made r × Keeps c a n call b os s w) (call_bound receiver.Pointer f xs (here_in c a n call b) at s)

          effect_is : (us : List ℤ) (v : ℤ) → ws ≡ v ∷ us → length ws ≡ suc (behind_receiver es) → effect c a pc (onto ws ops) w (instr op.CallP (pos (a.methods f)) (pos (behind_receiver es))) ≡ (if is_zero v then Traps trap.Nil (pos 0) w else pointer_method c.img w v A (λ r. calls c.img r ws ops w))
          effect_is us v e len =
              args_are (suc (behind_receiver es)) ws ops (λ args rest. on_receiver args (λ x. if is_zero x then Traps trap.Nil (pos 0) w else pointer_method c.img w x A (λ r. calls c.img r args rest w))) len
              ∙ ap (λ l. on_receiver l (λ x. if is_zero x then Traps trap.Nil (pos 0) w else pointer_method c.img w x A (λ r. calls c.img r ws ops w))) e

          by : (ps : List TypedParameter) (xs : List Passed) → p.parameters ≡ ps → ReceiverOk c.program receiver.Pointer t ps → ArgumentsFit c s.made (K c a) ps xs ws → length ws ≡ suc (behind_receiver es) → Goal xs
          by [] xs e rk fit len = absurd rk
          by (p1 ∷ ps) [] e rk fit len = absurd fit
          by (p1 ∷ ps) (x ∷ xs) e rk fit len = ⊎_elim nothing something (subst (λ z. Fine c.program (has_of c) s.made z g.0) rk.1.1 g.4)
            where
              g : ValueFits c s.made (K c a) (form_in c.program p1.of) x fit.0
              g = rw rk.0 at fit.3

              ws_is : ws ≡ word_of c.program (has_of c) c.img s.made g.0 ∷ fit.1
              ws_is = fit.2 ∙ ap (λ l. l ++ fit.1) g.2

              nothing : g.0 ≡ Nil → Goal (x ∷ xs)
              nothing z = subst (λ x. Goal (x ∷ xs)) (sym (g.1 ∙ ap ByValue z)) (follows_stop c w (traps c a trap.Nil (pos 0) w has (effect_is fit.1 (pos 0) (ws_is ∙ ap (λ v. word_of c.program (has_of c) c.img s.made v ∷ fit.1) z) len)) (stands_any c st))

              something : (m : ℕ) × (g.0 ≡ Object m) × (m < length s.made) × Sub (object_at s.made m) (form_in c.program rk.1.0) × LengthFits (form_in c.program rk.1.0) (has_length_at s.made m) → Goal (x ∷ xs)
              something z =
                  let m = z.0 in
                  let y = At (OfObject m) [] in
                  let h : PlaceOf c.program (has_of c) c.img s.made (K c a) (record_in c.program t) y = ((z.2, tt), subst (λ u. Sub (object_at s.made m) u) rk.1.2 z.3) in
                  let r = dynamic s w y st.all h in
                  let red = redefined receiver.Pointer s w y st.all (subst (λ z. ReceiverOk c.program receiver.Pointer t z) (sym e) rk) h in
                  let there = object_tag c (K c a) s w st.all m r.name r.line r.fields z.2 r.is in
                  let is : effect c a pc (onto ws ops) w (instr op.CallP (pos (a.methods f)) (pos (behind_receiver es))) ≡ on_found (method_at (slice_get c.img.types (type_number c.img.types r.name)) A) (λ r. calls c.img r ws ops w) =
                  effect_is fit.1 (pos (heap_start c.program c.img + object_offset s.made m)) (ws_is ∙ ap (λ v. word_of c.program (has_of c) c.img s.made v ∷ fit.1) z.1) len
                  ∙ ap (λ k. if is_zero (pos k) then Traps trap.Nil (pos 0) w else pointer_method c.img w (pos k) A (λ r. calls c.img r ws ops w)) there.next
                  ∙ ap (λ k. on_found (word_at w.words k) (λ g. on_found (tag_method c.img g A) (λ r. calls c.img r ws ops w))) (one_less (suc there.at))
                  ∙ ap (λ o. on_found o (λ g. on_found (tag_method c.img g A) (λ r. calls c.img r ws ops w))) there.word in
                  let first : (q1 : TypedParameter) → ReceiverTakes c.program receiver.Pointer r.name q1 → ArgumentFits c s.made (K c a) q1 x fit.0 = λ q1 k.
                  let up = record_above c (record_in c.program r.name) (record_in c.program k.0) (r.name ∷ r.line) r.fields k.2 r.built in
                  let points : Fine c.program (has_of c) s.made (PointerForm k.1.1.0) g.0 = inr (m, z.1, z.2, subst (λ u. Sub (object_at s.made m) u) (sym k.1.1.2) (subst (λ u. Sub u (record_in c.program k.0)) (sym (r.is ∙ sym r.built)) k.2), subst (λ u. LengthFits u (has_length_at s.made m)) (sym (k.1.1.2 ∙ up.1)) tt) in
                  let l : ValueFits c s.made (K c a) (form_in c.program q1.of) x fit.0 = (g.0, g.1, g.2, subst (λ u. Scalar u) (sym k.1.1.1) tt, subst (λ u. Fine c.program (has_of c) s.made u g.0) (sym k.1.1.1) points) in
                  rw k.1.0 l in
                  let args = args_fit receiver.Pointer r.name s.made p1 ps red.procedure.parameters x xs ws fit.0 fit.1 (subst (λ z. Redefined c.program receiver.Pointer r.name z red.procedure.parameters) e red.parameters) fit.2 first fit.4 in
                  let args2 = subst (λ x. ArgumentsFit c s.made (K c a) red.procedure.parameters (x ∷ xs) ws) (g.1 ∙ ap ByValue z.1) args in
                  subst (λ x. Goal (x ∷ xs)) (sym (g.1 ∙ ap ByValue z.1))
                  (subst (λ o. Follows c (go c a pc (onto ws ops) w) (λ r s w. go c a (suc pc) (result_words c s.made r ++ ops) w) (λ r s w. ResultFine c p.result s.made r × Keeps c a n call b os s w) (call_found (nearest c.program (bases_of c.program o) f) (ByValue (Object m) ∷ xs) (here_in c a n call b) at s)) (sym (type_at c (K c a) s w st.all y (z.2, tt) r))
                  (reached f receiver.Pointer t p r.name (own_type _ r) red (ByValue (Object m) ∷ xs) ws ops at pc os s w (behind_receiver es) op.CallP has has.place is args2 le st))

    bound_goes : (f : Family) (k : Receiver) (es : Actuals) (at : Pos) (pc : ℕ) (ops : List ℤ) (os : List AnObject) (t q : QName) (p : Procedure) → IsRecordType c.program t → nearest c.program (bases_in c.program t) f ≡ Some q → values.procedure_of c.program q ≡ Some p → ReceiverOk c.program k t p.parameters → Ok es p.parameters → code.CallCode (scope c a) (callee.Bound f k) es pc at → length ops + 1 ≤ 256 → NamedGoes c a n call b (callee.Bound f k) at p.result p.parameters pc ops os
    bound_goes f receiver.Record es at pc ops os t q p built near found rk ok has le = record_goes t q p f built near found es at pc ops os rk ok has le
    bound_goes f receiver.Pointer es at pc ops os t q p built near found rk ok has le = pointer_goes t q p f built near found es at pc ops os rk ok has le

    pub bound_case : (f : Family) (k : Receiver) (es : Actuals) (at : Pos) (r : Option TypeRef) → ActualsFollow c a n call b es → ExprFollows c a n call b (Call (callee.Bound f k) es at r)
    bound_case f k es at r ih t pc j ops os s w le has ok st =
        let p = ok.0.2 in
        let p1 = end_actuals c.program es pc in
        let goes = bound_goes f k es at p1 ops os ok.0.0 ok.0.1 p ok.0.3 ok.0.4 ok.0.5 ok.0.6 ok.0.8 has.1 (omega (arith, le)) in
        named_value c a n call b (callee.Bound f k) es at r t p.parameters pc j ops os s w ih (omega (arith, le)) has.0 ok.0.8 ok.1 (result_goes c a n call b (callee.Bound f k) at p.result r p.parameters p1 ops os ok.0.7 goes) st

    pub bound_proper_case : (f : Family) (k : Receiver) (es : Actuals) (at : Pos) (r : Option TypeRef) → ActualsFollow c a n call b es → StmtFollows c a n call b (CallProper (Call (callee.Bound f k) es at r))
    bound_proper_case f k es at r ih l exit pc j os s w le inside lies has ok st =
        let p = ok.0.2 in
        let p1 = end_actuals c.program es pc in
        let goes = bound_goes f k es at p1 [] os ok.0.0 ok.0.1 p ok.0.3 ok.0.4 ok.0.5 ok.0.6 ok.0.8 has.1 (omega arith) in
        follows_bind c
        (named_proper c a n call b (callee.Bound f k) es at p.parameters pc j os s w r ok.1 ih (omega (arith, le)) has.0 ok.0.8 (result_goes c a n call b (callee.Bound f k) at p.result r p.parameters p1 [] os ok.0.7 goes) st)
        λ v s2 w2 k2. follows_value c w2 (here c _) (tt, k2)
