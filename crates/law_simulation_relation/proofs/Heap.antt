-- An object is made.
use Rattle.std.proofs.lemmas.Bool.Decides.{nat_tests}
use Rattle.std.proofs.lemmas.List.{take-append-drop, length-take-le, length-replicate}
use Rattle.std.proofs.Common.{◌≡◌, ◌+◌, ◌-◌, ◌≤◌, List, [], ◌∷◌, ◌++◌, length, refl, sym, ap, ◌∙◌, subst, arith, append_assoc, length-append}
use Rattle.std.specs.Prelude.{ℤ, pos, take, drop, replicate, false, nat_eq, if◌then◌else◌}
use Rattle.ob_mem.specs.Words.{with_words}
use Rattle.ob_instr.specs.Image.{World}
use Rattle.ob_meaning.specs.Values.{changed_at, first, words, Active, AnObject, Whole, Opened, State}
use Rattle.ob_meaning.specs.Meaning.{cost_of, costs_of, first_object}
use Rattle.law_simulation_relation.specs.Layout.{object_form, extra_words, object_at, object_offset, has_length, has_length_at}
use Rattle.law_simulation_relation.specs.Relation.{ObjectOk}
use Rattle.law_simulation_relation.proofs.Names.{nat_same}
use Rattle.law_simulation_relation.proofs.Parts.{F, W}
use Rattle.law_simulation_relation.proofs.Places.{Cs, Os, Ex, extra-length, cost_is, calls-length, objects-length, other_objects, other_objects_fine}
use Rattle.law_simulation_relation.proofs.Modules.{Ms}
use Rattle.law_simulation_relation.proofs.Firsts.{zeros, zeros_both, first_words, first_fine}
use Rattle.law_simulation_relation.proofs.Grow.{G, calls_same, calls_more, objects_same, objects_more, modules_same, modules_more}
use Rattle.law_simulation_relation.proofs.Copies.{put_seam}
use Rattle.law_simulation_relation.specs.Setting.{Setting, StandIn}

pub first_is : (x : AnObject) → first_object x ≡ first (object_form x)
first_is (Whole t) = refl
first_is (Opened n t) = refl

module _ (c : Setting) where
  pub grown : (os : List AnObject) (x : AnObject) → G c os (x ∷ os)
  grown os x = record {
    len = omega arith;
    offset = λ n lt. let e : nat_eq n (length os) ≡ false = grind (arith, nat_tests) in ap (λ b. if b then costs_of os + extra_words x else object_offset os n) e;
    at = λ n lt. let e : nat_eq n (length os) ≡ false = grind (arith, nat_tests) in ap (λ b. if b then object_form x else object_at os n) e;
    has_length = λ n lt. let e : nat_eq n (length os) ≡ false = grind (arith, nat_tests) in ap (λ b. if b then has_length x else has_length_at os n) e;
  }

  -- the state with the object, and the words
  abbrev pub with_it : AnObject → State → State
  with_it x s = record s { made = x ∷ s.made; store = record s.store { objects = changed_at s.store.objects (length s.made) (first_object x) } }

  abbrev pub taken_words : AnObject → World → List ℤ
  taken_words x w = with_words (with_words w.words (pos w.heap) (replicate (cost_of x) (pos 0))) (pos w.heap) (Ex c [] x)

  pub object_stands : (cs : List Active) (x : AnObject) (s : State) (w : World) → StandIn c cs s w → ObjectOk c.program (object_form x) → costs_of (x ∷ s.made) ≤ c.heap → StandIn c cs (with_it x s) (record w { words = taken_words x w; heap = w.heap + cost_of x })
  object_stands cs x s w st ok fits =
      let gr = grown s.made x in
      let all = x ∷ s.made in
      let t = object_form x in
      let k = cost_of x in
      let objects2 = changed_at s.store.objects (length s.made) (first_object x) in
      let A = Ms c s.made c.program s.store.globals in
      let K = Cs c s.made s.store.locals cs in
      let O = Os c s.made s.made s.store.objects in
      let front = A ++ (c.behind ++ (K ++ (st.stack_free ++ O))) in
      let free = drop k st.heap_free in
      let part = take k st.heap_free in
      let split : st.heap_free ≡ part ++ free = sym (take-append-drop k st.heap_free) in
      let enough : k ≤ length st.heap_free = omega (arith, st.heap_size, fits) in
      let part_length = length-take-le k st.heap_free enough in
      let regroup : A ++ (c.behind ++ (K ++ (st.stack_free ++ (O ++ (part ++ free))))) ≡ front ++ (part ++ free) = simp append_assoc in
      let is : w.words ≡ front ++ (part ++ free) = st.words ∙ ap (λ l. A ++ (c.behind ++ (K ++ (st.stack_free ++ (O ++ l))))) split ∙ regroup in
      let front_length : length front ≡ c.img.room.globals + (c.img.room.stack + costs_of s.made) = length-append A _ ∙ omega (arith, length-append c.behind (K ++ (st.stack_free ++ O)), length-append K (st.stack_free ++ O), length-append st.stack_free O, st.globals_size, st.stack_size, calls-length c s.made cs s.store.locals, objects-length c s.made s.made s.store.objects) in
      let index : w.heap - 1 ≡ length front = omega (arith, st.heap_next, front_length) in
      let zero_length = length-replicate k (pos 0) in
      let first_put : with_words w.words (pos w.heap) (zeros k) ≡ front ++ (zeros k ++ free) = put_seam w.words front part free (zeros k) (w.heap - 1) k is (sym index) part_length zero_length in
      let cost = cost_is c [] x in
      let ex = Ex c [] x in
      let ex_length = extra-length c [] x in
      let halves : front ++ (zeros k ++ free) ≡ front ++ (zeros (extra_words x) ++ (zeros (words t) ++ free)) = ap (λ n. front ++ (zeros n ++ free)) cost ∙ ap (λ l. front ++ (l ++ free)) (sym (zeros_both (extra_words x) (words t))) ∙ ap (λ l. front ++ l) (append_assoc (zeros (extra_words x)) (zeros (words t)) free) in
      let put : taken_words x w ≡ front ++ (ex ++ (zeros (words t) ++ free)) = put_seam (with_words w.words (pos w.heap) (zeros k)) front (zeros (extra_words x)) (zeros (words t) ++ free) ex (w.heap - 1) (extra_words x) (first_put ∙ halves) (sym index) (length-replicate (extra_words x) (pos 0)) ex_length in
      let e = nat_same (length s.made) in
      let top : objects2 (length s.made) ≡ first t = ap (λ b. if b then first_object x else s.store.objects (length s.made)) e ∙ first_is x in
      let old : Os c all s.made objects2 ≡ O = other_objects c all s.made s.store.objects (length s.made) (first_object x) (omega arith) ∙ objects_same c s.made all gr s.made s.store.objects st.objects_fine in
      let heap_words : Os c all all objects2 ≡ O ++ (ex ++ zeros (words t)) = ap (λ l. l ++ (Ex c all x ++ W c all t (objects2 (length s.made)))) old ∙ ap (λ v. O ++ (ex ++ W c all t v)) top ∙ ap (λ l. O ++ (ex ++ l)) (first_words c all t ok.1) in
      let m_same = modules_same c s.made all gr c.program s.store.globals st.modules_fine in
      let c_same = calls_same c s.made all gr s.store.locals cs st.calls_fine in
      let whole : front ++ (ex ++ (zeros (words t) ++ free)) ≡ A ++ (c.behind ++ (K ++ (st.stack_free ++ ((O ++ (ex ++ zeros (words t))) ++ free)))) = simp append_assoc in
      record {
        stack_free = st.stack_free;
        heap_free = free;
        words = put ∙ whole ∙ ap (λ l. A ++ (c.behind ++ (K ++ (st.stack_free ++ (l ++ free))))) (sym heap_words) ∙ ap (λ l. l ++ (c.behind ++ (K ++ (st.stack_free ++ (Os c all all objects2 ++ free))))) (sym m_same) ∙ ap (λ l. Ms c all c.program s.store.globals ++ (c.behind ++ (l ++ (st.stack_free ++ (Os c all all objects2 ++ free))))) (sym c_same);
        globals_size = ap (λ l. length l + length c.behind) m_same ∙ st.globals_size;
        stack_size = st.stack_size;
        heap_size = let d = length-append part free in let sp = ap length split in omega (arith, st.heap_size, d, sp, part_length);
        stack = st.stack;
        heap_next = omega (arith, st.heap_next);
        turns = st.turns;
        out = st.out;
        modules_fine = modules_more c s.made all gr c.program s.store.globals st.modules_fine;
        calls_fine = calls_more c s.made all gr s.store.locals cs st.calls_fine;
        objects_fine = (other_objects_fine c all s.made s.store.objects (length s.made) (first_object x) (omega arith) (objects_more c s.made all gr s.made s.store.objects st.objects_fine), (ok, subst (λ v. F c all t v) (sym top) (first_fine c all t ok.1)));
      }
