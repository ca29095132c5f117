-- Where a place stands in the machine's words, and that another value may stand there.
use Rattle.std.proofs.lemmas.Bool.Decides.{nat_tests}
use Rattle.std.proofs.lemmas.Option.{slice_get-get_or}
use Rattle.std.proofs.Math.Seq.{set-append_seam, get_or-append_seam}
use Rattle.std.proofs.Common.{◌≡◌, ℕ, suc, ◌+◌, ◌-◌, ◌<◌, List, [], ◌∷◌, ◌++◌, length, Some, None, refl, sym, ap, ◌∙◌, subst, arith, length-append}
use Rattle.std.specs.Prelude.{slice_get, slice_set, ℤ, pos, Bool, true, false, nat_eq, nat_le, if◌then◌else◌}
use Rattle.ob_mem.specs.Words.{word_at, stored, are_there}
use Rattle.ob_instr.specs.Image.{World}
use Rattle.ob_instr.specs.Rows.{with_memory}
use Rattle.ob_meaning.specs.Values.{Form, BasicForm, PointerForm, ProcedureForm, ArrayForm, OpenForm, RecordForm, Value, part, with_part, OfModule, OfCall, OfObject, Place, At, value_at, with_value_at, Active, AnObject, State}
use Rattle.ob_meaning.specs.Calls.{cost_of_calls}
use Rattle.ob_meaning.specs.Globals.{all_globals}
use Rattle.law_simulation_relation.specs.Layout.{slot, own_offset, form_named, held_at, call_offset, object_form, object_at, object_offset, variables_in, module_offset, path_form, path_offset, place_form, address}
use Rattle.law_simulation_relation.specs.Relation.{ValueIn, FormOk, PathIn, Scalar, PlaceIn, word_of}
use Rattle.law_simulation_relation.proofs.Parts.{Part, part_same, part_before, part_behind, Known, known_inside, path_known, F, W}
use Rattle.law_simulation_relation.proofs.Places.{in_frame, Cs, CsFine, Os, OsFine, call_known, object_known, calls-length}
use Rattle.law_simulation_relation.proofs.Modules.{Ms, module_known, modules-length}
use Rattle.law_simulation_relation.specs.Setting.{Setting, StandIn, has_of}

module _ (c : Setting) where
  pub call_form_ok : (os : List AnObject) (cs : List Active) (g : ℕ → List ℕ → Value) (k : ℕ) (x : List ℕ) → ValueIn (held_at cs k) x → CsFine c os g cs → FormOk c.program (form_named (held_at cs k) x)
  call_form_ok os [] g k x here fine = absurd here
  call_form_ok os (a ∷ cs) g k x here fine = go (nat_eq k (length cs)) here (λ h. call_form_ok os cs g k x h fine.0)
    where
      go : (b : Bool) → ValueIn (if b then a.held else held_at cs k) x → (ValueIn (held_at cs k) x → FormOk c.program (form_named (held_at cs k) x)) → FormOk c.program (form_named (if b then a.held else held_at cs k) x)
      go true h rest = (in_frame c os cs a.places a.held 0 x (g (length cs)) h fine.1.0).ok fine.1.1
      go false h rest = rest h

  pub object_form_ok : (all os : List AnObject) (g : ℕ → Value) (n : ℕ) → n < length os → OsFine c all os g → FormOk c.program (object_at os n)
  object_form_ok all [] g n lt fine = absurd (omega arith)
  object_form_ok all (x ∷ xs) g n lt fine = go (nat_eq n (length xs)) refl (λ l. object_form_ok all xs g n l fine.0)
    where
      go : (b : Bool) → nat_eq n (length xs) ≡ b → (n < length xs → FormOk c.program (object_at xs n)) → FormOk c.program (if b then object_form x else object_at xs n)
      go true e rest = fine.1.0.1
      go false e rest = rest (grind (arith, nat_tests))

  module _ (cs : List Active) (s : State) (w : World) (st : StandIn c cs s w) where
    abbrev pub form_at : Place → Form
    form_at p = place_form c.program c.img s.made cs p

    abbrev pub address_at : Place → ℕ
    address_at p = address c.program c.img s.made cs p

    pub record Located (p : Place) : Type 0 where
      pub before : List ℤ
      pub behind : List ℤ
      pub at : suc (length before) ≡ address_at p
      pub is : w.words ≡ before ++ (W c s.made (form_at p) (value_at s.store p) ++ behind)
      pub fine : F c s.made (form_at p) (value_at s.store p)
      pub stands : (v : Value) → F c s.made (form_at p) v → StandIn c cs (record s { store = with_value_at s.store p v }) (record w { words = before ++ (W c s.made (form_at p) v ++ behind) })

    abbrev globals : List ℤ
    globals = Ms c s.made c.program s.store.globals

    abbrev stack : List ℤ
    stack = Cs c s.made s.store.locals cs

    abbrev objects : List ℤ
    objects = Os c s.made s.made s.store.objects

    -- from a part of the whole words
    of_part : (p : Place) (after : Value → List ℤ) (n : ℕ) → Part c s.made (form_at p) (value_at s.store p) w.words after n → suc n ≡ address_at p → F c s.made (form_at p) (value_at s.store p) → ((v : Value) → F c s.made (form_at p) v → StandIn c cs (record s { store = with_value_at s.store p v }) (record w { words = after v })) → Located p
    of_part p after n q e fine stands = record {
      before = q.before;
      behind = q.behind;
      at = ap suc q.len ∙ e;
      is = q.is;
      fine = fine;
      stands = λ v f. subst (λ l. StandIn c cs (record s { store = with_value_at s.store p v }) (record w { words = l })) (q.will v f) (stands v f);
    }

    abbrev path_in : (t : Form) (v : Value) (now : List ℤ) (after : Value → List ℤ) (n : ℕ) (Fits : Value → Type 0) (path : _) → Known c s.made t v now after n Fits → FormOk c.program t → PathIn t path → Known c s.made (path_form t path) (part v path) now (λ w. after (with_part v path w)) (n + path_offset t path) (λ w. Fits (with_part v path w))
    path_in t v now after n Fits path k ok here = known_inside c s.made t (path_form t path) v (part v path) now after (λ w. with_part v path w) n (path_offset t path) Fits k (path_known c s.made path t v ok here k.fine)

    pub located : (p : Place) → PlaceIn c.program (has_of c) c.img s.made cs p → Located p
    located (At (OfModule m x) path) here =
        let r = module_known c s.made c.program s.store.globals m x c.ok here.0 st.modules_fine in
        let t = form_named (variables_in c.program c.program m) x in
        let k = path_in t (s.store.globals m x) _ _ _ _ path r.known r.ok here.1 in
        let rest = c.behind ++ (stack ++ (st.stack_free ++ (objects ++ st.heap_free))) in
        let n = module_offset c.program c.program m + slot (variables_in c.program c.program m) x + path_offset t path in
        let len : (g : List ℕ → List ℕ → Value) → length (Ms c s.made c.program g) ≡ all_globals c.program c.program = λ g. modules-length c s.made c.program g in
        of_part (At (OfModule m x) path) (λ v. Ms c s.made c.program (with_value_at s.store (At (OfModule m x) path) v).globals ++ rest) n
        (part_same c s.made _ _ _ _ _ _ (λ v. Ms c s.made c.program (with_value_at s.store (At (OfModule m x) path) v).globals ++ rest) _ _ (part_behind c s.made _ _ rest _ _ _ k.part) refl (sym st.words) (λ v f. refl) refl)
        (omega arith) k.fine
        (λ v f. record { stack_free = st.stack_free; heap_free = st.heap_free; words = refl; globals_size = ap (λ n. n + length c.behind) (len _ ∙ sym (len s.store.globals)) ∙ st.globals_size; stack_size = st.stack_size; heap_size = st.heap_size; stack = st.stack; heap_next = st.heap_next; turns = st.turns; out = st.out; modules_fine = k.keeps v f; calls_fine = st.calls_fine; objects_fine = st.objects_fine })
    located (At (OfCall j x) path) here =
        let known = call_known c s.made cs s.store.locals j x here.0.0 here.0.1 st.calls_fine in
        let t = form_named (held_at cs j) x in
        let k = path_in t (s.store.locals j x) _ _ _ _ path known (call_form_ok s.made cs s.store.locals j x here.0.1 st.calls_fine) here.1 in
        let rest = st.stack_free ++ (objects ++ st.heap_free) in
        let n = call_offset cs j + own_offset (held_at cs j) x + path_offset t path in
        let after : Value → List ℤ = λ v. Cs c s.made (with_value_at s.store (At (OfCall j x) path) v).locals cs in
        let size : length globals + (length c.behind + n) ≡ c.img.room.globals + n = omega (arith, st.globals_size) in
        of_part (At (OfCall j x) path) (λ v. globals ++ (c.behind ++ (after v ++ rest))) (c.img.room.globals + n)
        (part_same c s.made _ _ _ _ _ _ (λ v. globals ++ (c.behind ++ (after v ++ rest))) _ _ (part_before c s.made _ _ globals _ _ _ (part_before c s.made _ _ c.behind _ _ _ (part_behind c s.made _ _ rest _ after _ k.part))) refl (sym st.words) (λ v f. refl) size)
        (omega arith) k.fine
        (λ v f. record { stack_free = st.stack_free; heap_free = st.heap_free; words = refl; globals_size = st.globals_size; stack_size = st.stack_size; heap_size = st.heap_size; stack = st.stack; heap_next = st.heap_next; turns = st.turns; out = st.out; modules_fine = st.modules_fine; calls_fine = k.keeps v f; objects_fine = st.objects_fine })
    located (At (OfObject i) path) here =
        let known = object_known c s.made s.made s.store.objects i here.0 st.objects_fine in
        let t = object_at s.made i in
        let k = path_in t (s.store.objects i) _ _ _ _ path known (object_form_ok s.made s.made s.store.objects i here.0 st.objects_fine) here.1 in
        let n = object_offset s.made i + path_offset t path in
        let after : Value → List ℤ = λ v. Os c s.made s.made (with_value_at s.store (At (OfObject i) path) v).objects in
        let below : length stack ≡ cost_of_calls cs = calls-length c s.made cs s.store.locals in
        let size : length globals + (length c.behind + (length stack + (length st.stack_free + n))) ≡ c.img.room.globals + (c.img.room.stack + n) = omega (arith, st.globals_size, st.stack_size, below) in
        of_part (At (OfObject i) path) (λ v. globals ++ (c.behind ++ (stack ++ (st.stack_free ++ (after v ++ st.heap_free))))) (c.img.room.globals + (c.img.room.stack + n))
        (part_same c s.made _ _ _ _ _ _ (λ v. globals ++ (c.behind ++ (stack ++ (st.stack_free ++ (after v ++ st.heap_free))))) _ _ (part_before c s.made _ _ globals _ _ _ (part_before c s.made _ _ c.behind _ _ _ (part_before c s.made _ _ stack _ _ _ (part_before c s.made _ _ st.stack_free _ _ _ (part_behind c s.made _ _ st.heap_free _ after _ k.part))))) refl (sym st.words) (λ v f. refl) size)
        (omega arith) k.fine
        (λ v f. record { stack_free = st.stack_free; heap_free = st.heap_free; words = refl; globals_size = st.globals_size; stack_size = st.stack_size; heap_size = st.heap_size; stack = st.stack; heap_next = st.heap_next; turns = st.turns; out = st.out; modules_fine = st.modules_fine; calls_fine = st.calls_fine; objects_fine = k.keeps v f })

    -- SCALARS

    pub scalar_flat : (t : Form) (v : Value) → Scalar t → W c s.made t v ≡ word_of c.program (has_of c) c.img s.made v ∷ []
    scalar_flat (BasicForm b) v h = refl
    scalar_flat (PointerForm t) v h = refl
    scalar_flat (ProcedureForm t) v h = refl
    scalar_flat (ArrayForm n t) v h = absurd h
    scalar_flat (OpenForm t) v h = absurd h
    scalar_flat (RecordForm line fs) v h = absurd h

    get_seam : (l front back : List ℤ) (x : ℤ) (n : ℕ) → l ≡ front ++ x ∷ back → length front ≡ n → slice_get l n ≡ Some x
    get_seam l front back x n e len =
        let within : length front < length (front ++ x ∷ back) = omega (arith, length-append front (x ∷ back)) in
        ap (λ l. slice_get l n) e ∙ ap (slice_get (front ++ x ∷ back)) (sym len) ∙ slice_get-get_or (front ++ x ∷ back) (length front) x within ∙ ap Some (get_or-append_seam front x back x)

    set_seam : (l front back : List ℤ) (x z : ℤ) (n : ℕ) → l ≡ front ++ x ∷ back → length front ≡ n → slice_set l n z ≡ front ++ z ∷ back
    set_seam l front back x z n e len = ap (λ l. slice_set l n z) e ∙ ap (λ m. slice_set (front ++ x ∷ back) m z) (sym len) ∙ set-append_seam front x back z

    -- what is known of a place of a scalar type: its word, and a store
    pub record Spot (p : Place) : Type 0 where
      pub there : are_there (length w.words) (pos (address_at p)) 1 ≡ true
      pub load : word_at w.words (pos (address_at p)) ≡ Some (word_of c.program (has_of c) c.img s.made (value_at s.store p))
      pub fine : F c s.made (form_at p) (value_at s.store p)
      pub store : (v : Value) → F c s.made (form_at p) v → (l : List ℤ) × (stored w.words (pos (address_at p)) (word_of c.program (has_of c) c.img s.made v) ≡ Some l) × StandIn c cs (record s { store = with_value_at s.store p v }) (with_memory w l)

    pub spot : (p : Place) → Scalar (form_at p) → PlaceIn c.program (has_of c) c.img s.made cs p → Spot p
    spot p sc here =
        let k = located p here in
        let v = value_at s.store p in
        let x = word_of c.program (has_of c) c.img s.made v in
        let is : w.words ≡ k.before ++ x ∷ k.behind = k.is ∙ ap (λ l. k.before ++ (l ++ k.behind)) (scalar_flat (form_at p) v sc) in
        let all : length w.words ≡ length k.before + suc (length k.behind) = ap length is ∙ length-append k.before (x ∷ k.behind) in
        let fits : nat_le (length k.before + 1) (length w.words) ≡ true = grind (arith, nat_tests) in
        let there : are_there (length w.words) (pos (suc (length k.before))) 1 ≡ true = fits in
        let first : suc (length k.before) - 1 ≡ length k.before = omega arith in
        record {
          there = subst (λ n. are_there (length w.words) (pos n) 1 ≡ true) k.at there;
          load = subst (λ n. word_at w.words (pos n) ≡ Some x) k.at (get_seam w.words k.before k.behind x (length k.before) is refl);
          fine = k.fine;
          store = λ u f. (
            k.before ++ word_of c.program (has_of c) c.img s.made u ∷ k.behind,
            subst (λ n. stored w.words (pos n) (word_of c.program (has_of c) c.img s.made u) ≡ Some (k.before ++ word_of c.program (has_of c) c.img s.made u ∷ k.behind)) k.at
                (ap (λ b. if b then Some (slice_set w.words (suc (length k.before) - 1) (word_of c.program (has_of c) c.img s.made u)) else None) there ∙ ap Some (ap (λ n. slice_set w.words n (word_of c.program (has_of c) c.img s.made u)) first ∙ set_seam w.words k.before k.behind x (word_of c.program (has_of c) c.img s.made u) (length k.before) is refl)),
            subst (λ l. StandIn c cs (record s { store = with_value_at s.store p u }) (record w { words = k.before ++ (l ++ k.behind) })) (scalar_flat (form_at p) u sc) (k.stands u f),
          );
        }
