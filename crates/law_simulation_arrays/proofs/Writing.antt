-- Out.String, strings in arrays, and COPY.
use Rattle.std.proofs.lemmas.List.{map-append, take-map, length-map, length-take}
use Rattle.std.proofs.Math.Nat.{mod-eq_of_lt}
use Rattle.std.proofs.Common.{◌≡◌, ℕ, zero, suc, ◌+◌, ◌-◌, ◌≤◌, ◌<◌, List, [], ◌∷◌, ◌++◌, length, Option, Some, None, ℤ, refl, sym, ap, ◌∙◌, subst, arith, length-append}
use Rattle.std.specs.Prelude.{pos, map, take, true, if◌then◌else◌}
use Rattle.ob_trap.specs.declared.trap.Trap.TheVariants as trap
use Rattle.ob_tree.specs.declared.pos.Pos.{Pos}
use Rattle.ob_types.specs.declared.types.TypeRef.{TypeRef}
use Rattle.ob_types.specs.declared.value.Value.TheVariants as literal
use Rattle.ob_types.specs.declared.typed.Passing.TheVariants as passing
use Rattle.ob_types.specs.declared.typed.OutProcedure.TheVariants as out
use Rattle.ob_types.specs.declared.typed.Callee.TheVariants as callee
use Rattle.ob_types.specs.declared.typed.Assigned.TheVariants as assigned
use Rattle.ob_types.specs.TypedSyntax.{Desig, Expr, Constant, ValueOf, Call, NoActual, AnActual, Assign, CallProper, Copy}
use Rattle.ob_mem.specs.Words.{are_there, with_words, copied}
use Rattle.ob_instr.specs.declared.opcode.Opcode.TheVariants as op
use Rattle.ob_instr.specs.Image.{World}
use Rattle.ob_instr.specs.Rows as rows_of
use Rattle.ob_instr.specs.Rows.{Next, Traps, with_memory, printed, turn_or, low_bytes, placed}
use Rattle.ob_instr.proofs.Goes as rows
use Rattle.ob_meaning.specs.Values.{Form, ArrayForm, Value, Place, value_at, length_of, element_of, AnObject, State}
use Rattle.ob_meaning.specs.Results.{Trapped, Res, Gives, Stops, M, bind, assign, write, spend_of, Passed, Caller}
use Rattle.ob_meaning.specs.Operators.{with_text}
use Rattle.ob_meaning.specs.Meaning.{Source, Stands, Text, text_in, text_of, give_or, passed_from, source_from, source, assign_text, copy_text, shortened, call_out, result_of, Done}
use Rattle.law_simulation_relation.specs.Layout.{address, place_form}
use Rattle.law_simulation_relation.specs.Relation.{FormOk, PlaceIn, second_word}
use Rattle.law_simulation_relation.specs.Need.{need_array, need_passed}
use Rattle.law_simulation_relation.specs.Ends.{end_place, end_array}
use Rattle.law_simulation_relation.specs.Stands as code
use Rattle.law_simulation_relation.specs.Typed.{char, AreCharacters}
use Rattle.law_simulation_relation.proofs.Steps.{then_reach, here, Follows, follows_bind, follows_value, follows_stop, stands_any}
use Rattle.law_simulation_relation.proofs.Statements.{onto, Activation, scope, go, fb, K, here_in, Keeps, PlaceFollows, StmtFollows, FlowTo, FlowKept}
use Rattle.law_simulation_relation.proofs.Moves.{goes, traps, spends, effect}
use Rattle.law_simulation_relation.proofs.Exprs.{from_here, since}
use Rattle.law_simulation_relation.proofs.Paths.{sub_array}
use Rattle.law_simulation_relation.proofs.Sources.{place_ok}
use Rattle.law_simulation_arrays.proofs.Copies.{are_between, put_between, copied_between}
use Rattle.law_simulation_arrays.proofs.Chars.{found, text_chars, take_chars}
use Rattle.law_simulation_arrays.proofs.Strings.{SourceFine, SourceWords, source_more, Found, source_found, text_found, text_between, put_text, array_at}
use Rattle.law_simulation_arrays.proofs.Texts.{TextFollows, CharsFollow, IsChars, string_goes, onto_two, words_later}
use Rattle.law_simulation_relation.specs.Setting.{Setting, has_of}

module _ (c : Setting) (a : Activation c) (n : ℕ) (call : Caller) (b : ℕ) where
  abbrev Kp : List AnObject → State → World → Type 0
  Kp os s w = Keeps c a n call b os s w

  abbrev Second : Form → ℤ
  Second t = second_word c.program (has_of c) c.img t

  -- OUTPUT

  bytes_same : (text : List ℕ) → AreCharacters text → low_bytes (map pos text) ≡ text
  bytes_same [] h = refl
  bytes_same (x ∷ text) h = ap (λ z. z ∷ low_bytes (map pos text)) (mod-eq_of_lt h.0) ∙ ap (λ l. x ∷ l) (bytes_same text h.1)

  source_same : (x : Source) → source_from (passed_from x) ≡ x
  source_same (Stands p) = refl
  source_same (Text text) = refl

  -- one argument
  one_source : {A : Type 0} (r : Res Source) (k : List Passed → M A) → bind (bind (bind r (λ x s. Gives (passed_from x) s)) (λ x s. Gives (x ∷ []) s)) k ≡ bind r (λ x s. k (passed_from x ∷ []) s)
  one_source (Gives x s) k = refl
  one_source (Stops y s) k = refl

  spent_keeps : (os : List AnObject) (s : State) (w : World) (t : ℕ) → s.turns ≡ suc t → Kp os s w → Kp os (record s { turns = t }) (record w { turns = t })
  spent_keeps os s w t e st =
      let all = st.all in
      record {
        all = record { stack_free = all.stack_free; heap_free = all.heap_free; words = all.words; globals_size = all.globals_size; stack_size = all.stack_size; heap_size = all.heap_size; stack = all.stack; heap_next = all.heap_next; turns = refl; out = all.out; modules_fine = all.modules_fine; calls_fine = all.calls_fine; objects_fine = all.objects_fine };
        calls = st.calls;
        bound = omega (arith, st.bound, e);
        objects = st.objects;
      }

  -- the turn is spent before a text without end traps
  write_follows : (x : Source) (k : ℕ) (at : Pos) (pc : ℕ) (os : List AnObject) (s : State) (w : World) → code.HasAt (scope c a) pc (code.with_a op.Out 2) at → SourceFine c a k s.made x → Kp os s w →
      Follows c (go c a pc (onto (SourceWords c a k x s) []) w) (λ u s w. go c a (suc pc) [] w) (λ u s w. Kp os s w) (spend_of s.turns a.unit at (λ s. bind (text_of x (here_in c a n call b) at s) (λ text s. write text s)) s)
  write_follows x k at pc os s w has h st =
      subst (λ l. Follows c (go c a pc (onto l []) w) (λ u s w. go c a (suc pc) [] w) (λ u s w. Kp os s w) (spend_of s.turns a.unit at written s)) (sym f.words) (by s.turns (text_in x s.store) refl refl)
    where
      f : Found c a k x s w
      f = source_found c a k x s w st.all h

      ops2 : List ℤ
      ops2 = pos (length f.cs) ∷ pos f.start ∷ []

      written : M (Unit {0})
      written s = bind (text_of x (here_in c a n call b) at s) (λ text s. write text s)

      given : State → Option (List ℕ) → Res (Unit {0})
      given s o = bind (give_or o (λ s. Stops (Trapped trap.NoEnd (pos 0) a.unit at) s) s) (λ text s. write text s)

      row : (o : Option (List ℕ)) → text_in x s.store ≡ o → effect c a pc ops2 w (code.with_a op.Out 2) ≡ rows_of.written_chars (found o) [] w
      row o e = ap (λ z. rows_of.written_chars z [] w) (text_found c a k x s w f ∙ ap found e)

      by : (t : ℕ) (o : Option (List ℕ)) → s.turns ≡ t → text_in x s.store ≡ o → Follows c (go c a pc ops2 w) (λ u s w. go c a (suc pc) [] w) (λ u s w. Kp os s w) (spend_of t a.unit at written s)
      by zero None e g = follows_stop c w (spends c a w has (row None g ∙ ap (λ t. turn_or t w (λ v. Traps trap.NoEnd (pos 0) v)) (st.all.turns ∙ e))) (stands_any c st)
      by zero (Some text) e g = follows_stop c w (spends c a w has (row (Some text) g ∙ ap (λ t. turn_or t w (λ v. Next [] (printed v (low_bytes (map pos text))))) (st.all.turns ∙ e))) (stands_any c st)
      by (suc t) None e g =
          let w2 = record w { turns = t } in
          let s2 = record s { turns = t } in
          subst (λ q. Follows c (go c a pc ops2 w) (λ u s w. go c a (suc pc) [] w) (λ u s w. Kp os s w) q) (sym (ap (given s2) g))
          (follows_stop c w2 (traps c a trap.NoEnd (pos 0) w2 has (row None g ∙ ap (λ t. turn_or t w (λ v. Traps trap.NoEnd (pos 0) v)) (st.all.turns ∙ e))) (stands_any c (spent_keeps os s w t e st)))
      by (suc t) (Some text) e g =
          let w2 = printed (record w { turns = t }) text in
          let all = st.all in
          let small = text_chars f.cs text f.small (sym f.text ∙ g) in
          subst (λ q. Follows c (go c a pc ops2 w) (λ u s w. go c a (suc pc) [] w) (λ u s w. Kp os s w) q) (sym (ap (given (record s { turns = t })) g))
          (follows_value c w2 (goes c a [] w2 has.has (row (Some text) g ∙ ap (λ l. turn_or w.turns w (λ v. Next [] (printed v l))) (bytes_same text small) ∙ ap (λ t. turn_or t w (λ v. Next [] (printed v text))) (all.turns ∙ e)) (omega arith))
          (record {
            all = record { stack_free = all.stack_free; heap_free = all.heap_free; words = all.words; globals_size = all.globals_size; stack_size = all.stack_size; heap_size = all.heap_size; stack = all.stack; heap_next = all.heap_next; turns = refl; out = ap (λ o. o ++ text) all.out; modules_fine = all.modules_fine; calls_fine = all.calls_fine; objects_fine = all.objects_fine };
            calls = st.calls;
            bound = omega (arith, st.bound, e);
            objects = st.objects;
          }))

  pub string_case : (e : Expr) (t : TypeRef) (at : Pos) (r : Option TypeRef) → need_array e ≤ need_passed e passing.OpenArray → TextFollows c a n call b e → StmtFollows c a n call b (CallProper (Call (callee.Out out.Str) (AnActual passing.OpenArray t e NoActual) at r))
  string_case e t at r needs ih l exit pc k os s w le inside lies has ok st =
      let p1 = end_array c.program e pc in
      let rest : List Passed → M Value = λ xs s. bind (call_out out.Str xs (here_in c a n call b) at s) (λ v s. Gives (result_of v) s) in
      subst (λ q. Follows c (go c a pc [] w) (FlowTo c a n call b (suc p1) exit) (FlowKept c a n call b l os) (bind q (λ v s. Gives Done s))) (sym (one_source (source e (here_in c a n call b) s) rest))
      (follows_bind c {to = λ v s m. go c a (suc p1) [] m} {Keep = λ v s m. Kp os s m}
      (follows_bind c (ih pc k [] os s w (omega (arith, le, needs)) has.0.0 ok.0.1.0 st) λ x s1 w1 k1.
      follows_bind c {to = λ v s m. go c a (suc p1) [] m} {Keep = λ v s m. Kp os s m}
      (follows_bind c {to = λ v s m. go c a (suc p1) [] m} {Keep = λ v s m. Kp os s m}
      (subst (λ y. Follows c (go c a p1 (onto (SourceWords c a k x s1) []) w1) (λ u s w. go c a (suc p1) [] w) (λ u s w. Kp os s w) (spend_of s1.turns a.unit at (λ s. bind (text_of y (here_in c a n call b) at s) (λ text s. write text s)) s1)) (sym (source_same x))
      (write_follows x k at p1 os s1 w1 has.1 k1.0 k1.1))
      λ u s2 w2 k2. follows_value c w2 (here c _) k2)
      λ v s2 w2 k2. follows_value c w2 (here c _) k2)
      λ v s3 w3 k3. follows_value c w3 (here c _) (tt, k3))

  -- STRINGS IN ARRAYS

  text_follows : (text : List ℕ) (p : Place) (m k : ℕ) (pc : ℕ) (os : List AnObject) (s : State) (w : World) → code.Has (scope c a) pc (code.with_a op.Global k) → code.TextStands (scope c a) text k → code.Has (scope c a) (suc pc) (code.with_a op.Copy (suc (length text))) → PlaceIn c.program (has_of c) c.img s.made (K c a) p → place_form c.program c.img s.made (K c a) p ≡ ArrayForm m char → length text < m → AreCharacters text → Kp os s w →
      Follows c (go c a pc (pos (address c.program c.img s.made (K c a) p) ∷ []) w) (λ u s w. go c a (suc (suc pc)) [] w) (λ u s w. Kp os s w) (assign_text p (Text text) s)
  text_follows text p m k pc os s w has t has2 here_p form lt small st =
      let q = pos (address c.program c.img s.made (K c a) p) in
      let new = map pos text ++ pos 0 ∷ [] in
      let put = put_text c a s w st.all p m text here_p form lt small in
      let there = text_between c a s w st.all text k t in
      let ends : map pos (text ++ 0 ∷ []) ≡ new = map-append pos text (0 ∷ []) in
      let long : length (map pos (text ++ 0 ∷ [])) ≡ suc (length text) = let h = length-append text (0 ∷ []) in length-map (text ++ 0 ∷ []) pos ∙ omega (arith, h) in
      let x = a.u.first + k in
      let words = put.between.before ++ (new ++ put.between.behind) in
      let is : copied w.words q (pos x) (suc (length text)) ≡ Some words = copied_between w.words put.part (map pos (text ++ 0 ∷ [])) _ x (suc (length text)) put.between there put.long long ∙ ap (λ l. Some (put.between.before ++ (l ++ put.between.behind))) ends in
      follows_value c (with_memory w words)
      (then_reach c (string_goes c a n call b text pc k (q ∷ []) s w (omega arith) st.all has t)
      (goes c a [] (with_memory w words) has2 (rows.copy_next c.img a.u a.m a.p (fb c a) (suc pc) w q (pos x) (suc (length text)) words [] is) (omega arith)))
      (record { all = put.stands; calls = st.calls; bound = st.bound; objects = st.objects })

  pub assign_text_case : (d : Desig) (text : List ℕ) (at : Pos) → PlaceFollows c a n call b d → StmtFollows c a n call b (Assign d assigned.Text (Constant (literal.Str text)) at)
  assign_text_case d text at ih l exit pc k os s w le inside lies has ok st =
      let p1 = end_place c.program d pc in
      let t = code.form_of (scope c a) d in
      let m = ok.1.2.0 in
      follows_bind c (ih pc k [] os s w (omega (arith, le)) has.0 ok.0 st) λ p s1 w1 k1.
      follows_bind c {k = λ u s. Gives Done s} (text_follows text p m _ p1 os s1 w1 has.1.0.0 has.1.0.1 has.1.1 k1.0.0 (sub_array _ t m char k1.0.1 ok.1.2.1) ok.1.2.2 ok.1.2.3 k1.1)
      λ u s3 w3 k3. follows_value c w3 (here c _) (tt, k3)

  -- COPY

  copy_follows : (x : Source) (p : Place) (k : ℕ) (at : Pos) (pc : ℕ) (os : List AnObject) (s : State) (w : World) → code.HasAt (scope c a) pc (code.plain op.StrCopy) at → SourceFine c a k s.made x → IsChars c a n call b p s → Kp os s w →
      Follows c (go c a pc (Second (place_form c.program c.img s.made (K c a) p) ∷ pos (address c.program c.img s.made (K c a) p) ∷ onto (SourceWords c a k x s) []) w) (λ u s w. go c a (suc pc) [] w) (λ u s w. Kp os s w) (copy_text x p (here_in c a n call b) at s)
  copy_follows x p k at pc os s w has h hp st = by_length hp.1.0 hp.1.1 (subst (λ t. FormOk c.program t) hp.1.1 (place_ok c (K c a) s w st.all p hp.0))
    where
      f : Found c a k x s w
      f = source_found c a k x s w st.all h

      q : ℤ
      q = pos (address c.program c.img s.made (K c a) p)

      v : Value
      v = value_at s.store p

      given : Option (List ℕ) → Res (Unit {0})
      given o = bind (give_or o (λ s. Stops (Trapped trap.NoEnd (pos 0) a.unit at) s) s) (λ text s. assign p (with_text (shortened (length_of (value_at s.store p)) text) (length_of (value_at s.store p)) (element_of (value_at s.store p))) s)

      by_length : (m : ℕ) → place_form c.program c.img s.made (K c a) p ≡ ArrayForm m char → FormOk c.program (ArrayForm m char) → Follows c (go c a pc (Second (place_form c.program c.img s.made (K c a) p) ∷ q ∷ onto (SourceWords c a k x s) []) w) (λ u s w. go c a (suc pc) [] w) (λ u s w. Kp os s w) (copy_text x p (here_in c a n call b) at s)
      by_length zero form okf = absurd (let h = okf.0.0 in omega (arith, h))
      by_length (suc m) form okf =
          subst (λ t. Follows c (go c a pc (Second t ∷ q ∷ onto (SourceWords c a k x s) []) w) (λ u s w. go c a (suc pc) [] w) (λ u s w. Kp os s w) (copy_text x p (here_in c a n call b) at s)) (sym form)
          (subst (λ l. Follows c (go c a pc (pos (suc m) ∷ q ∷ onto l []) w) (λ u s w. go c a (suc pc) [] w) (λ u s w. Kp os s w) (copy_text x p (here_in c a n call b) at s)) (sym f.words)
          (by (text_in x s.store) refl))
        where
          ops4 : List ℤ
          ops4 = pos (suc m) ∷ q ∷ pos (length f.cs) ∷ pos f.start ∷ []

          by : (o : Option (List ℕ)) → text_in x s.store ≡ o → Follows c (go c a pc ops4 w) (λ u s w. go c a (suc pc) [] w) (λ u s w. Kp os s w) (copy_text x p (here_in c a n call b) at s)
          by None e =
              subst (λ z. Follows c (go c a pc ops4 w) (λ u s w. go c a (suc pc) [] w) (λ u s w. Kp os s w) z) (sym (ap given e))
              (follows_stop c w (traps c a trap.NoEnd (pos 0) w has (rows.str_copy_traps c.img a.u a.m a.p (fb c a) pc w (pos f.start) (pos (length f.cs)) q m [] (text_found c a k x s w f ∙ ap found e))) (stands_any c st))
          by (Some text) e =
              let small = take_chars m text (text_chars f.cs text f.small (sym f.text ∙ e)) in
              let short = take m text in
              let r = array_at c a s w st.all p (suc m) hp.0 form in
              let cut : shortened (length_of v) text ≡ short = ap (λ n. take (n - 1) text) r.fine.0 ∙ ap (λ n. take n text) (let z : suc m - 1 ≡ m = omega arith in z) in
              let few : length short < suc m = let z = length-take m text in omega (arith, z) in
              let put = put_text c a s w st.all p (suc m) short hp.0 form few small in
              let new = map pos short ++ pos 0 ∷ [] in
              let new_is : take m (map pos text) ++ pos 0 ∷ [] ≡ new = ap (λ l. l ++ pos 0 ∷ []) (take-map pos m text) in
              let new_long : length new ≡ length put.part = let z = length-append (map pos short) (pos 0 ∷ []) in let y = length-map short pos in let l = put.long in omega (arith, z, y, l) in
              let words = put.between.before ++ (new ++ put.between.behind) in
              let there : are_there (length w.words) q (length new) ≡ true = are_between w.words put.part _ (length new) put.between (sym new_long) in
              let is : placed w.words q (take m (map pos text) ++ pos 0 ∷ []) ≡ Some words = ap (placed w.words q) new_is ∙ ap (λ t. if t then Some (with_words w.words q new) else None) there ∙ ap Some (put_between w.words put.part new _ put.between new_long) in
              subst (λ z. Follows c (go c a pc ops4 w) (λ u s w. go c a (suc pc) [] w) (λ u s w. Kp os s w) z) (sym (ap given e))
              (subst (λ z. Follows c (go c a pc ops4 w) (λ u s w. go c a (suc pc) [] w) (λ u s w. Kp os s w) (assign p (with_text z (length_of v) (element_of v)) s)) (sym cut)
              (follows_value c (with_memory w words)
              (goes c a [] (with_memory w words) has.has (rows.str_copy_next c.img a.u a.m a.p (fb c a) pc w (pos f.start) (pos (length f.cs)) q m (map pos text) words [] (text_found c a k x s w f ∙ ap found e) is) (omega arith))
              (record { all = put.stands; calls = st.calls; bound = st.bound; objects = st.objects })))

  pub copy_case : (e : Expr) (d : Desig) (at : Pos) → TextFollows c a n call b e → CharsFollow c a n call b d → StmtFollows c a n call b (Copy e d at)
  copy_case e d at ih_e ih_d l exit pc k os s w le inside lies has ok st =
      let p1 = end_array c.program e pc in
      let p2 = end_array c.program (ValueOf d) p1 in
      follows_bind c (ih_e pc k [] os s w (omega (arith, le)) has.0 ok.0 st) λ x s1 w1 k1.
      let two = onto_two c a n call b k x s1 [] in
      follows_bind c (ih_d p1 _ (onto (SourceWords c a k x s1) []) s1.made s1 w1 (omega (arith, le, two)) has.1.0 ok.1 (from_here c a n call b k1.1)) λ p s2 w2 k2.
      follows_bind c
      (subst (λ l. Follows c (go c a p2 (Second (place_form c.program c.img s2.made (K c a) p) ∷ pos (address c.program c.img s2.made (K c a) p) ∷ onto l []) w2) (λ u s w. go c a (suc p2) [] w) (λ u s w. Kp os s w) (copy_text x p (here_in c a n call b) at s2)) (words_later c a n call b k x os s1 s2 w2 k1.0 k2.1)
      (copy_follows x p k at p2 os s2 w2 has.1.1 (source_more c a k s1.made s2.made x k2.1.objects k1.0) k2.0 (since c a n call b k1.1.objects k2.1)))
      λ u s3 w3 k3. follows_value c w3 (here c _) (tt, k3)
