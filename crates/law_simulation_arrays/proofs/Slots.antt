-- Open arrays that are parameters: the address and the length stand in two slots.
use Rattle.std.proofs.Common.{◌≡◌, ℕ, zero, suc, ◌+◌, ◌≤◌, List, [], ◌∷◌, ◌++◌, length, Some, ℤ, refl, sym, ap, ◌∙◌, subst, arith, append_assoc, length-append}
use Rattle.std.proofs.lemmas.Option.{slice_get_within}
use Rattle.std.specs.Prelude.{pos, map, Bool, true, false, bytes_eq, if◌then◌else◌}
use Rattle.ob_tree.specs.declared.pos.Pos.{Pos}
use Rattle.ob_types.specs.declared.types.TypeRef.{TypeRef}
use Rattle.ob_types.specs.declared.typed.Passing.{Passing}
use Rattle.ob_types.specs.declared.typed.Passing.TheVariants as passing
use Rattle.ob_types.specs.declared.typed.TypedParameter.{TypedParameter}
use Rattle.ob_types.specs.declared.typed.TypedVariable.{TypedVariable}
use Rattle.ob_types.specs.declared.typed.Variable.TheVariants as variable
use Rattle.ob_types.specs.TypedSyntax.{OfVariable, Length, Procedure}
use Rattle.ob_mem.specs.Words.{word_at}
use Rattle.ob_instr.specs.declared.opcode.Opcode.TheVariants as op
use Rattle.ob_instr.specs.Image.{World, Point}
use Rattle.ob_instr.proofs.Goes as rows
use Rattle.ob_meaning.specs.Values.{Program, Form, ArrayForm, OpenForm, form_in, words, Value, Integer, value_at, length_of, OfCall, Place, At, Held, Own, Referred, Copied, AnObject, Active, State}
use Rattle.ob_meaning.specs.Results.{Gives, Caller}
use Rattle.ob_meaning.specs.Meaning.{place_of, hidden}
use Rattle.ob_meaning.specs.Calls.{held_variable, hidden_held, hidden_of_all, element_form}
use Rattle.law_simulation_relation.specs.Layout.{held_name, held_form, slot, slots_words, copy_offset, has_copy, form_named, static_parameter, static_held, place_form, address}
use Rattle.law_simulation_relation.specs.Relation.{OrElse, Fine, FormOk, ValueIn, PlaceOf, Sub, opened, pointing, second_word, call_start}
use Rattle.law_simulation_relation.specs.Typed.{As, IsReferred, IsCopied, longint}
use Rattle.law_simulation_relation.specs.Stands as code
use Rattle.law_simulation_relation.proofs.Names.{bytes_true}
use Rattle.law_simulation_relation.proofs.Steps.{Reach, then_reach, here, Follows, follows_value, follows_map}
use Rattle.law_simulation_relation.proofs.Statements.{ParameterHeld, ParametersHeld, IsCallOf, Activation, scope, go, fb, K, Keeps, ValueTo, ValueKept, ExprFollows}
use Rattle.law_simulation_relation.proofs.Parts.{W, flat-length}
use Rattle.law_simulation_relation.proofs.Places.{S, C, Cs, referred, pointing_length, calls-length}
use Rattle.law_simulation_relation.proofs.Modules.{Ms}
use Rattle.law_simulation_relation.proofs.Slots.{WordAt, word_before, word_behind, word_same, word_got}
use Rattle.law_simulation_relation.proofs.Frames.{referred_fixed, call_alike, slot_alike, same_alike, place_of_up, form_up, own_place, own_form, ref_place}
use Rattle.law_simulation_relation.proofs.Moves.{goes, small_word, all_length}
use Rattle.law_simulation_relation.proofs.Located.{located}
use Rattle.law_simulation_relation.proofs.Exprs.{widen_kept}
use Rattle.ob_types.specs.Numbers.{is_in}
use Rattle.ob_types.specs.declared.typed.Width.TheVariants as width
use Rattle.law_simulation_relation.proofs.Sources.{place_ok}
use Rattle.law_simulation_arrays.proofs.Opens.{open_form, long_length}
use Rattle.law_simulation_relation.specs.Setting.{Setting, StandIn, has_of}

got_within : (l : List ℤ) (n : ℕ) (x : ℤ) → word_at l (pos n) ≡ Some x → n ≤ length l
got_within l zero x e = omega arith
got_within l (suc n) x e = let h = slice_get_within l n x e in omega (arith, h)

-- TWO SLOTS

-- two words at an offset
record TwoWords (l : List ℤ) (offset : ℕ) (x y : ℤ) : Type 0 where
  pub before : List ℤ
  pub behind : List ℤ
  pub len : length before ≡ offset
  pub is : l ≡ before ++ (x ∷ y ∷ behind)

two_before : (l now : List ℤ) (n m : ℕ) (x y : ℤ) → TwoWords now n x y → length l ≡ m → TwoWords (l ++ now) (m + n) x y
two_before l now n m x y r e = record { before = l ++ r.before; behind = r.behind; len = length-append l r.before ∙ omega (arith, e, r.len); is = ap (λ k. l ++ k) r.is ∙ simp append_assoc }

two_first : (l : List ℤ) (n : ℕ) (x y : ℤ) → TwoWords l n x y → WordAt l n x
two_first l n x y r = record { before = r.before; behind = y ∷ r.behind; len = r.len; is = r.is }

two_second : (l : List ℤ) (n : ℕ) (x y : ℤ) → TwoWords l n x y → WordAt l (suc n) y
two_second l n x y r = record { before = r.before ++ x ∷ []; behind = r.behind; len = let h = length-append r.before (x ∷ []) in omega (arith, h, r.len); is = r.is ∙ simp append_assoc }

-- an open array by value has a copy of its own
copy_there : (hs : List Held) (x : List ℕ) (n : ℕ) → As (IsCopied n) hs x → (ValueIn hs x) × (has_copy hs x ≡ true)
copy_there [] x n h = absurd h
copy_there (Own y t ∷ hs) x n h = go (bytes_eq x y) h (λ h. copy_there hs x n h)
  where
    go : (b : Bool) → OrElse b ⊥ (As (IsCopied n) hs x) → (As (IsCopied n) hs x → (ValueIn hs x) × (has_copy hs x ≡ true)) → (OrElse b (Unit {0}) (ValueIn hs x)) × ((if b then false else has_copy hs x) ≡ true)
    go true h r = absurd h
    go false h r = r h
copy_there (Referred y k t ∷ hs) x n h = go (bytes_eq x y) h (λ h. copy_there hs x n h)
  where
    go : (b : Bool) → OrElse b ⊥ (As (IsCopied n) hs x) → (As (IsCopied n) hs x → (ValueIn hs x) × (has_copy hs x ≡ true)) → (OrElse b ⊥ (ValueIn hs x)) × ((if b then false else has_copy hs x) ≡ true)
    go true h r = absurd h
    go false h r = r h
copy_there (Copied y k t ∷ hs) x n h = go (bytes_eq x y) h (λ h. copy_there hs x n h)
  where
    go : (b : Bool) → OrElse b (k ≡ n) (As (IsCopied n) hs x) → (As (IsCopied n) hs x → (ValueIn hs x) × (has_copy hs x ≡ true)) → (OrElse b (Unit {0}) (ValueIn hs x)) × ((if b then true else has_copy hs x) ≡ true)
    go true h r = (tt, refl)
    go false h r = r h

-- an open array by value is an array of some length in its call
record OpenCopy (hs : List Held) (x : List ℕ) (u : Form) : Type 0 where
  pub m : ℕ
  pub as_it : As (IsCopied 2) hs x
  pub form : form_named hs x ≡ ArrayForm m u

no_copied : (program : Program) (vs : List TypedVariable) (hs : List Held) (x : List ℕ) → (As (IsCopied 2) hs x → ⊥) → As (IsCopied 2) (map (held_variable program) vs ++ hs) x → ⊥
no_copied program [] hs x none h = none h
no_copied program (v ∷ vs) hs x none h = go (bytes_eq x v.name) h (λ h. no_copied program vs hs x none h)
  where
    go : (b : Bool) → OrElse b ⊥ (As (IsCopied 2) (map (held_variable program) vs ++ hs) x) → (As (IsCopied 2) (map (held_variable program) vs ++ hs) x → ⊥) → ⊥
    go true h r = absurd h
    go false h r = r h

no_hidden : (ps : List Pos) (x : List ℕ) → As (IsCopied 2) (map hidden_held ps) x → ⊥
no_hidden [] x h = h
no_hidden (p ∷ ps) x h = go (bytes_eq x (hidden p)) h (λ h. no_hidden ps x h)
  where
    go : (b : Bool) → OrElse b ⊥ (As (IsCopied 2) (map hidden_held ps) x) → (As (IsCopied 2) (map hidden_held ps) x → ⊥) → ⊥
    go true h r = absurd h
    go false h r = r h

module _ (program : Program) (x : List ℕ) (u : Form) (rest : List Held) (none : As (IsCopied 2) rest x → ⊥) where
  -- one parameter more
  one_copy : (p : TypedParameter) (s h : Held) (ss hs : List Held) → held_name s ≡ held_name h → (IsCopied 2 s → held_form s ≡ OpenForm u → (m : ℕ) × IsCopied 2 h × (held_form h ≡ ArrayForm m u)) → As (IsCopied 2) (s ∷ ss) x → form_named (s ∷ ss) x ≡ OpenForm u → (As (IsCopied 2) ss x → form_named ss x ≡ OpenForm u → OpenCopy hs x u) → OpenCopy (h ∷ hs) x u
  one_copy p s h ss hs same top i e more = go (bytes_eq x (held_name s)) refl i e
    where
      go : (b : Bool) → bytes_eq x (held_name s) ≡ b → OrElse b (IsCopied 2 s) (As (IsCopied 2) ss x) → (if b then held_form s else form_named ss x) ≡ OpenForm u → OpenCopy (h ∷ hs) x u
      go true f i e = let g : bytes_eq x (held_name h) ≡ true = ap (bytes_eq x) (sym same) ∙ f in let r = top i e in record { m = r.0; as_it = rw g r.1; form = rw g r.2 }
      go false f i e = let g : bytes_eq x (held_name h) ≡ false = ap (bytes_eq x) (sym same) ∙ f in let r = more i e in record { m = r.m; as_it = rw g r.as_it; form = rw g r.form }

  parameter_copy : (p : TypedParameter) (h : Held) (ss hs : List Held) → ParameterHeld program p h → As (IsCopied 2) (static_parameter program p ∷ ss) x → form_named (static_parameter program p ∷ ss) x ≡ OpenForm u → (As (IsCopied 2) ss x → form_named ss x ≡ OpenForm u → OpenCopy hs x u) → OpenCopy (h ∷ hs) x u
  parameter_copy p h ss hs fit i e more = by p.passing refl
    where
      by : (how : Passing) → p.passing ≡ how → OpenCopy (h ∷ hs) x u
      by passing.Scalar f = one_copy p (Own p.name (form_in program p.of)) h ss hs (ap held_name (sym (rw f at fit))) (λ z. absurd z) (rw f at i) (rw f at e) more
      by passing.Structure f = one_copy p (Copied p.name 1 (form_in program p.of)) h ss hs (ap held_name (sym (rw f at fit))) (λ z. absurd (let k = z in let y : ⊥ = omega (arith, k) in y)) (rw f at i) (rw f at e) more
      by passing.Variable f = one_copy p (Referred p.name 1 (form_in program p.of)) h ss hs (ap held_name (sym (rw f at fit))) (λ z. absurd z) (rw f at i) (rw f at e) more
      by passing.VariableRecord f = one_copy p (Referred p.name 2 (form_in program p.of)) h ss hs (ap held_name (sym (rw f at fit))) (λ z. absurd z) (rw f at i) (rw f at e) more
      by passing.VariableOpenArray f = one_copy p (Referred p.name 2 (form_in program p.of)) h ss hs (ap held_name (sym (rw f at fit))) (λ z. absurd z) (rw f at i) (rw f at e) more
      by passing.OpenArray f =
          let g : (n : ℕ) × (h ≡ Copied p.name 2 (ArrayForm n (element_form (form_in program p.of)))) = rw f at fit in
          one_copy p (Copied p.name 2 (form_in program p.of)) h ss hs (ap held_name (sym g.1)) (λ z k. (g.0, subst (λ h. IsCopied 2 h) (sym g.1) refl, ap held_form g.1 ∙ ap (λ t. ArrayForm g.0 (element_form t)) k)) (rw f at i) (rw f at e) more

  parameters_copy : (ps : List TypedParameter) (hs : List Held) → ParametersHeld program ps hs → As (IsCopied 2) (map (static_parameter program) ps ++ rest) x → form_named (map (static_parameter program) ps ++ rest) x ≡ OpenForm u → OpenCopy (hs ++ rest) x u
  parameters_copy [] [] h i e = absurd (none i)
  parameters_copy [] (k ∷ ks) h i e = absurd h
  parameters_copy (p ∷ ps) [] h i e = absurd h
  parameters_copy (p ∷ ps) (k ∷ ks) h i e = parameter_copy p k (map (static_parameter program) ps ++ rest) (ks ++ rest) h.0 i e (λ i e. parameters_copy ps ks h.1 i e)

call_copy : (program : Program) (p : Procedure) (a : Active) (x : List ℕ) (u : Form) → IsCallOf program p a → As (IsCopied 2) (static_held program p) x → form_named (static_held program p) x ≡ OpenForm u → OpenCopy a.held x u
call_copy program p a x u h i e =
    subst (λ l. OpenCopy l x u) (sym h.is) (parameters_copy program x u _ (λ k. no_copied program p.locals (map hidden_held (hidden_of_all p.body)) x (λ j. no_hidden (hidden_of_all p.body) x j) k) p.parameters h.parameters h.fit i e)

module _ (c : Setting) where
  -- the two words of an open array by VAR, and by value
  two_referred : (os : List AnObject) (cs : List Active) (places : List ℕ → Place) (hs : List Held) (base : ℕ) (x : List ℕ) (g : List ℕ → Value) → As (IsReferred 2) hs x → TwoWords (S c os cs places base hs g) (slot hs x) (pos (address c.program c.img os cs (places x))) (second_word c.program (has_of c) c.img (place_form c.program c.img os cs (places x)))
  two_referred os cs places [] base x g here = absurd here
  two_referred os cs places (Own y t ∷ hs) base x g here = go (bytes_eq x y) here (λ h. two_referred os cs places hs base x g h)
    where
      go : (b : Bool) → OrElse b ⊥ (As (IsReferred 2) hs x) → (As (IsReferred 2) hs x → TwoWords (S c os cs places base hs g) (slot hs x) (pos (address c.program c.img os cs (places x))) (second_word c.program (has_of c) c.img (place_form c.program c.img os cs (places x)))) → TwoWords (W c os t (g y) ++ S c os cs places base hs g) (if b then 0 else words t + slot hs x) (pos (address c.program c.img os cs (places x))) (second_word c.program (has_of c) c.img (place_form c.program c.img os cs (places x)))
      go true h r = absurd h
      go false h r = two_before _ _ _ _ _ _ (r h) (flat-length c os t (g y))
  two_referred os cs places (Copied y n t ∷ hs) base x g here = go (bytes_eq x y) here (λ h. two_referred os cs places hs (base + words t) x g h)
    where
      go : (b : Bool) → OrElse b ⊥ (As (IsReferred 2) hs x) → (As (IsReferred 2) hs x → TwoWords (S c os cs places (base + words t) hs g) (slot hs x) (pos (address c.program c.img os cs (places x))) (second_word c.program (has_of c) c.img (place_form c.program c.img os cs (places x)))) → TwoWords (pointing c.program (has_of c) c.img n base t ++ S c os cs places (base + words t) hs g) (if b then 0 else n + slot hs x) (pos (address c.program c.img os cs (places x))) (second_word c.program (has_of c) c.img (place_form c.program c.img os cs (places x)))
      go true h r = absurd h
      go false h r = two_before _ _ _ _ _ _ (r h) (pointing_length c os cs places n base t)
  two_referred os cs places (Referred y n t ∷ hs) base x g here = go (bytes_eq x y) refl here (λ h. two_referred os cs places hs base x g h)
    where
      a : List ℕ → ℤ
      a z = pos (address c.program c.img os cs (places z))

      f : List ℕ → ℤ
      f z = second_word c.program (has_of c) c.img (place_form c.program c.img os cs (places z))

      first : (n : ℕ) → n ≡ 2 → (rest : List ℤ) → TwoWords (referred c os cs places y n ++ rest) 0 (a y) (f y)
      first n e rest = subst (λ n. TwoWords (referred c os cs places y n ++ rest) 0 (a y) (f y)) (sym e) (record { before = []; behind = rest; len = refl; is = refl })

      go : (b : Bool) → bytes_eq x y ≡ b → OrElse b (n ≡ 2) (As (IsReferred 2) hs x) → (As (IsReferred 2) hs x → TwoWords (S c os cs places base hs g) (slot hs x) (a x) (f x)) → TwoWords (referred c os cs places y n ++ S c os cs places base hs g) (if b then 0 else n + slot hs x) (a x) (f x)
      go true e h r = subst (λ z. TwoWords (referred c os cs places y n ++ S c os cs places base hs g) 0 (a z) (f z)) (sym (bytes_true x y e)) (first n h (S c os cs places base hs g))
      go false e h r = two_before _ _ _ _ _ _ (r h) (pointing_length c os cs places n (address c.program c.img os cs (places y)) (place_form c.program c.img os cs (places y)))

  two_copied : (os : List AnObject) (cs : List Active) (places : List ℕ → Place) (hs : List Held) (base : ℕ) (x : List ℕ) (g : List ℕ → Value) → As (IsCopied 2) hs x → TwoWords (S c os cs places base hs g) (slot hs x) (pos (base + copy_offset hs x)) (second_word c.program (has_of c) c.img (form_named hs x))
  two_copied os cs places [] base x g here = absurd here
  two_copied os cs places (Own y t ∷ hs) base x g here = go (bytes_eq x y) here (λ h. two_copied os cs places hs base x g h)
    where
      go : (b : Bool) → OrElse b ⊥ (As (IsCopied 2) hs x) → (As (IsCopied 2) hs x → TwoWords (S c os cs places base hs g) (slot hs x) (pos (base + copy_offset hs x)) (second_word c.program (has_of c) c.img (form_named hs x))) → TwoWords (W c os t (g y) ++ S c os cs places base hs g) (if b then 0 else words t + slot hs x) (pos (base + (if b then 0 else copy_offset hs x))) (second_word c.program (has_of c) c.img (if b then t else form_named hs x))
      go true h r = absurd h
      go false h r = two_before _ _ _ _ _ _ (r h) (flat-length c os t (g y))
  two_copied os cs places (Referred y n t ∷ hs) base x g here = go (bytes_eq x y) here (λ h. two_copied os cs places hs base x g h)
    where
      go : (b : Bool) → OrElse b ⊥ (As (IsCopied 2) hs x) → (As (IsCopied 2) hs x → TwoWords (S c os cs places base hs g) (slot hs x) (pos (base + copy_offset hs x)) (second_word c.program (has_of c) c.img (form_named hs x))) → TwoWords (referred c os cs places y n ++ S c os cs places base hs g) (if b then 0 else n + slot hs x) (pos (base + (if b then 0 else copy_offset hs x))) (second_word c.program (has_of c) c.img (if b then t else form_named hs x))
      go true h r = absurd h
      go false h r = two_before _ _ _ _ _ _ (r h) (pointing_length c os cs places n (address c.program c.img os cs (places y)) (place_form c.program c.img os cs (places y)))
  two_copied os cs places (Copied y n t ∷ hs) base x g here = go (bytes_eq x y) here (λ h. two_copied os cs places hs (base + words t) x g h)
    where
      first : n ≡ 2 → (rest : List ℤ) → TwoWords (pointing c.program (has_of c) c.img n base t ++ rest) 0 (pos (base + 0)) (second_word c.program (has_of c) c.img t)
      first e rest = subst (λ n. TwoWords (pointing c.program (has_of c) c.img n base t ++ rest) 0 (pos (base + 0)) (second_word c.program (has_of c) c.img t)) (sym e) (record { before = []; behind = rest; len = refl; is = let z : base ≡ base + 0 = omega arith in ap (λ b. pos b ∷ second_word c.program (has_of c) c.img t ∷ rest) z })

      go : (b : Bool) → OrElse b (n ≡ 2) (As (IsCopied 2) hs x) → (As (IsCopied 2) hs x → TwoWords (S c os cs places (base + words t) hs g) (slot hs x) (pos (base + words t + copy_offset hs x)) (second_word c.program (has_of c) c.img (form_named hs x))) → TwoWords (pointing c.program (has_of c) c.img n base t ++ S c os cs places (base + words t) hs g) (if b then 0 else n + slot hs x) (pos (base + (if b then 0 else words t + copy_offset hs x))) (second_word c.program (has_of c) c.img (if b then t else form_named hs x))
      go true h r = first h (S c os cs places (base + words t) hs g)
      go false h r = let z : base + words t + copy_offset hs x ≡ base + (words t + copy_offset hs x) = omega arith in subst (λ k. TwoWords (pointing c.program (has_of c) c.img n base t ++ S c os cs places (base + words t) hs g) (n + slot hs x) (pos k) (second_word c.program (has_of c) c.img (form_named hs x))) z (two_before _ _ _ _ _ _ (r h) (pointing_length c os cs places n base t))

  -- a word of the newest call
  slot_load : (a : Active) (cs : List Active) (s : State) (w : World) (n : ℕ) (z : ℤ) → StandIn c (a ∷ cs) s w → WordAt (S c s.made cs a.places (call_start c.program (has_of c) c.img cs + slots_words a.held) a.held (s.store.locals (length cs))) n z → word_at w.words (pos (call_start c.program (has_of c) c.img cs + n)) ≡ Some z
  slot_load a cs s w n z st r =
      let g = s.store.locals in
      let in_call = word_behind (C c s.made cs a.places a.held (g (length cs))) _ _ _ r in
      let in_calls = word_before (Cs c s.made g cs) _ _ _ in_call in
      let behind = word_behind (st.stack_free ++ _) _ _ _ in_calls in
      let all = word_before (Ms c s.made c.program s.store.globals) _ _ _ (word_before c.behind _ _ _ behind) in
      word_got c w.words _ _ _ (word_same _ _ _ _ _ _ all (sym st.words) refl refl) (omega (arith, st.globals_size, calls-length c s.made cs g))

  module _ (a : Activation c) (n : ℕ) (call : Caller) (b : ℕ) where
    -- the length alone
    length_go : (x : List ℕ) (z y : ℤ) (pc : ℕ) (ops : List ℤ) (s : State) (w : World) → StandIn c (K c a) s w → length ops + 1 ≤ 256 → code.Has (scope c a) pc (code.with_a op.Local (suc (slot (static_held c.program a.procedure) x))) → code.Has (scope c a) (suc pc) (code.plain op.Load) → TwoWords (S c s.made a.cs a.active.places (fb c a + slots_words a.active.held) a.active.held (s.store.locals (length a.cs))) (slot a.active.held x) z y → Reach c (go c a pc ops w) (go c a (suc (suc pc)) (y ∷ ops) w)
    length_go x z y pc ops s w st le has1 has2 r =
        let k = slot (static_held c.program a.procedure) x in
        let same = slot_alike _ _ x (call_alike c.program a.procedure a.active a.call) in
        let load = ap (λ k. word_at w.words (pos (fb c a + suc k))) same ∙ slot_load a.active a.cs s w (suc (slot a.active.held x)) y st (two_second _ _ _ _ r) in
        let all = all_length c (K c a) s w st in
        let within = got_within w.words (fb c a + suc k) y load in
        let small = small_word c (fb c a + suc k) (omega (arith, within, all)) in
        then_reach c (goes c a _ w has1 (rows.local_next c.img a.u a.m a.p (fb c a) pc w (suc k) ops small) (omega (arith, le)))
        (goes c a _ w has2 (rows.load_next c.img a.u a.m a.p (fb c a) (suc pc) w (pos (fb c a + suc k)) y ops load) (omega (arith, le)))

    -- LEN
    length_is : (p : Place) (u : Form) (pc : ℕ) (ops : List ℤ) (os : List AnObject) (s : State) (w : World) (x : Point) → PlaceOf c.program (has_of c) c.img s.made (K c a) (OpenForm u) p → Reach c x (go c a pc (second_word c.program (has_of c) c.img (place_form c.program c.img s.made (K c a) p) ∷ ops) w) → Keeps c a n call b os s w → Follows c x (ValueTo c a n call b pc ops) (ValueKept c a n call b longint os) (Gives (Integer (pos (length_of (value_at s.store p)))) s)
    length_is p u pc ops os s w x here_p l st =
        let f = open_form c a n call b s w u (OpenForm u) p st.all here_p refl in
        let ok = subst (λ t. FormOk c.program t) f.1 (place_ok c (K c a) s w st.all p here_p.0) in
        let fine : Fine c.program (has_of c) s.made (ArrayForm f.0 u) (value_at s.store p) = subst (λ t. Fine c.program (has_of c) s.made t (value_at s.store p)) f.1 ((located c (K c a) s w st.all p here_p.0).fine) in
        let word : second_word c.program (has_of c) c.img (place_form c.program c.img s.made (K c a) p) ≡ pos (length_of (value_at s.store p)) = ap (λ t. second_word c.program (has_of c) c.img t) f.1 ∙ ap pos (sym fine.0) in
        follows_value c w (subst (λ z. Reach c x (go c a pc (z ∷ ops) w)) word l) ((pos (length_of (value_at s.store p)), ap (λ m. is_in width.LongInt (pos m)) fine.0 ∙ long_length f.0 ok.0, refl), st)

    pub length_by_variable_case : (x : List ℕ) (t : TypeRef) → ExprFollows c a n call b (Length (OfVariable (variable.Parameter passing.VariableOpenArray x) t))
    length_by_variable_case x t goal pc at ops os s w le has ok st =
        let p = a.active.places x in
        let u = ok.1.0.0 in
        let k = same_alike (IsReferred 2) (referred_fixed 2) _ _ x (call_alike c.program a.procedure a.active a.call) ok.0.0.0 in
        let r = ref_place c s.made a.cs a.active.places a.active.held 2 x (s.store.locals (length a.cs)) k.as_it st.all.calls_fine.1.1 in
        let up = place_of_up c s.made a.cs a.active (OpenForm u) p (subst (λ u. PlaceOf c.program (has_of c) c.img s.made a.cs u p) (k.form ∙ ok.0.0.1 ∙ ok.1.0.1) r) in
        let two = two_referred s.made a.cs a.active.places a.active.held (fb c a + slots_words a.active.held) x (s.store.locals (length a.cs)) k.as_it in
        let form_it = form_up c s.made a.cs a.active p r.0 in
        subst (λ k. Follows c (go c a pc ops w) (ValueTo c a n call b (suc (suc pc)) ops) (ValueKept c a n call b goal os) (Gives (Integer (pos (length_of (value_at s.store (place_of (variable.Parameter passing.VariableOpenArray x) k))))) s)) (sym st.calls)
        (follows_map c
        (length_is p u (suc (suc pc)) ops os s w _ up (subst (λ f. Reach c (go c a pc ops w) (go c a (suc (suc pc)) (second_word c.program (has_of c) c.img f ∷ ops) w)) (sym form_it) (length_go x _ _ pc ops s w st.all le has.0 has.1 two)) st)
        (λ v s w k. here c _) (λ v s w k. widen_kept c a n call b longint goal os v s w ok.1.1 k))

    pub length_by_value_case : (x : List ℕ) (t : TypeRef) → ExprFollows c a n call b (Length (OfVariable (variable.Parameter passing.OpenArray x) t))
    length_by_value_case x t goal pc at ops os s w le has ok st =
        let p = At (OfCall (length a.cs) x) [] in
        let u = ok.1.0.0 in
        let k = call_copy c.program a.procedure a.active x u a.call ok.0.0.0.0 (ok.0.0.1 ∙ ok.1.0.1) in
        let there = copy_there a.active.held x 2 k.as_it in
        let two = two_copied s.made a.cs a.active.places a.active.held (fb c a + slots_words a.active.held) x (s.store.locals (length a.cs)) k.as_it in
        let form_it = own_form c s.made a.cs a.active x in
        let here_p : PlaceOf c.program (has_of c) c.img s.made (K c a) (OpenForm u) p = (own_place c s.made a.cs a.active x there.0, subst (λ v. Sub v (OpenForm u)) (sym (form_it ∙ k.form)) (opened k.m)) in
        subst (λ k. Follows c (go c a pc ops w) (ValueTo c a n call b (suc (suc pc)) ops) (ValueKept c a n call b goal os) (Gives (Integer (pos (length_of (value_at s.store (place_of (variable.Parameter passing.OpenArray x) k))))) s)) (sym st.calls)
        (follows_map c
        (length_is p u (suc (suc pc)) ops os s w _ here_p (subst (λ f. Reach c (go c a pc ops w) (go c a (suc (suc pc)) (second_word c.program (has_of c) c.img f ∷ ops) w)) (sym form_it) (length_go x _ _ pc ops s w st.all le has.0 has.1 two)) st)
        (λ v s w k. here c _) (λ v s w k. widen_kept c a n call b longint goal os v s w ok.1.1 k))
