-- The words of a call's slots: own variables, and addresses of others.
use Rattle.std.proofs.Common.{◌≡◌, ℕ, zero, suc, ◌+◌, List, [], ◌∷◌, ◌++◌, length, Some, refl, sym, ap, ◌∙◌, subst, arith, append_assoc, length-append}
use Rattle.std.specs.Prelude.{ℤ, pos, Bool, true, false, bytes_eq, slice_get, if◌then◌else◌}
use Rattle.ob_mem.specs.Words.{word_at}
use Rattle.ob_instr.specs.Image.{World}
use Rattle.ob_meaning.specs.Values.{words, Value, Place, Held, Own, Referred, Copied, Active, AnObject, State}
use Rattle.law_simulation_relation.specs.Layout.{slot, slots_words, has_copy, place_form, address}
use Rattle.law_simulation_relation.specs.Relation.{OrElse, ValueIn, pointing, call_start}
use Rattle.law_simulation_relation.specs.Typed.{As, IsOwn, IsReferred}
use Rattle.law_simulation_relation.proofs.Names.{bytes_true}
use Rattle.law_simulation_relation.proofs.Parts.{W, flat-length}
use Rattle.law_simulation_relation.proofs.Places.{S, C, Cs, referred, pointing_length, calls-length}
use Rattle.law_simulation_relation.proofs.Modules.{Ms}
use Rattle.law_simulation_relation.specs.Setting.{Setting, StandIn, has_of}

pub own_value : (hs : List Held) (x : List ℕ) → As IsOwn hs x → ValueIn hs x
own_value [] x h = absurd h
own_value (Own y t ∷ hs) x h = go (bytes_eq x y) h (λ h. own_value hs x h)
  where
    go : (b : Bool) → OrElse b (Unit {0}) (As IsOwn hs x) → (As IsOwn hs x → ValueIn hs x) → OrElse b (Unit {0}) (ValueIn hs x)
    go true h rest = h
    go false h rest = rest h
own_value (Referred y n t ∷ hs) x h = go (bytes_eq x y) h (λ h. own_value hs x h)
  where
    go : (b : Bool) → OrElse b ⊥ (As IsOwn hs x) → (As IsOwn hs x → ValueIn hs x) → OrElse b ⊥ (ValueIn hs x)
    go true h rest = h
    go false h rest = rest h
own_value (Copied y n t ∷ hs) x h = go (bytes_eq x y) h (λ h. own_value hs x h)
  where
    go : (b : Bool) → OrElse b ⊥ (As IsOwn hs x) → (As IsOwn hs x → ValueIn hs x) → OrElse b (Unit {0}) (ValueIn hs x)
    go true h rest = absurd h
    go false h rest = rest h

pub own_slot : (hs : List Held) (x : List ℕ) → As IsOwn hs x → has_copy hs x ≡ false
own_slot [] x h = refl
own_slot (Own y t ∷ hs) x h = go (bytes_eq x y) h (λ h. own_slot hs x h)
  where
    go : (b : Bool) → OrElse b (Unit {0}) (As IsOwn hs x) → (As IsOwn hs x → has_copy hs x ≡ false) → (if b then false else has_copy hs x) ≡ false
    go true h rest = refl
    go false h rest = rest h
own_slot (Referred y n t ∷ hs) x h = go (bytes_eq x y) h (λ h. own_slot hs x h)
  where
    go : (b : Bool) → OrElse b ⊥ (As IsOwn hs x) → (As IsOwn hs x → has_copy hs x ≡ false) → (if b then false else has_copy hs x) ≡ false
    go true h rest = refl
    go false h rest = rest h
own_slot (Copied y n t ∷ hs) x h = go (bytes_eq x y) h (λ h. own_slot hs x h)
  where
    go : (b : Bool) → OrElse b ⊥ (As IsOwn hs x) → (As IsOwn hs x → has_copy hs x ≡ false) → (if b then true else has_copy hs x) ≡ false
    go true h rest = absurd h
    go false h rest = rest h

-- a word at an offset
pub record WordAt (l : List ℤ) (offset : ℕ) (word : ℤ) : Type 0 where
  pub before : List ℤ
  pub behind : List ℤ
  pub len : length before ≡ offset
  pub is : l ≡ before ++ (word ∷ behind)

pub word_before : (l now : List ℤ) (n : ℕ) (x : ℤ) → WordAt now n x → WordAt (l ++ now) (length l + n) x
word_before l now n x r = record { before = l ++ r.before; behind = r.behind; len = length-append l r.before ∙ omega (arith, r.len); is = ap (λ k. l ++ k) r.is ∙ simp append_assoc }

pub word_behind : (l now : List ℤ) (n : ℕ) (x : ℤ) → WordAt now n x → WordAt (now ++ l) n x
word_behind l now n x r = record { before = r.before; behind = r.behind ++ l; len = r.len; is = ap (λ k. k ++ l) r.is ∙ simp append_assoc }

pub word_same : (l l2 : List ℤ) (m n : ℕ) (x y : ℤ) → WordAt l m x → l ≡ l2 → m ≡ n → x ≡ y → WordAt l2 n y
word_same l l2 m n x y r e f g = record { before = r.before; behind = r.behind; len = r.len ∙ f; is = sym e ∙ r.is ∙ ap (λ z. r.before ++ (z ∷ r.behind)) g }

module _ (c : Setting) where
  -- the address in the slot of a parameter by VAR
  ref_word : (os : List AnObject) (cs : List Active) (places : List ℕ → Place) (hs : List Held) (k base : ℕ) (x : List ℕ) (g : List ℕ → Value) → As (IsReferred (suc k)) hs x → WordAt (S c os cs places base hs g) (slot hs x) (pos (address c.program c.img os cs (places x)))
  ref_word os cs places [] k base x g here = absurd here
  ref_word os cs places (Own y t ∷ hs) k base x g here = go (bytes_eq x y) here (λ h. ref_word os cs places hs k base x g h)
    where
      a : ℤ
      a = pos (address c.program c.img os cs (places x))

      go : (b : Bool) → OrElse b ⊥ (As (IsReferred (suc k)) hs x) → (As (IsReferred (suc k)) hs x → WordAt (S c os cs places base hs g) (slot hs x) a) → WordAt (W c os t (g y) ++ S c os cs places base hs g) (if b then 0 else words t + slot hs x) a
      go true h rest = absurd h
      go false h rest = word_same _ _ _ _ _ _ (word_before (W c os t (g y)) _ _ _ (rest h)) refl (ap (λ n. n + slot hs x) (flat-length c os t (g y))) refl
  ref_word os cs places (Copied y n t ∷ hs) k base x g here = go (bytes_eq x y) here (λ h. ref_word os cs places hs k (base + words t) x g h)
    where
      a : ℤ
      a = pos (address c.program c.img os cs (places x))

      go : (b : Bool) → OrElse b ⊥ (As (IsReferred (suc k)) hs x) → (As (IsReferred (suc k)) hs x → WordAt (S c os cs places (base + words t) hs g) (slot hs x) a) → WordAt (pointing c.program (has_of c) c.img n base t ++ S c os cs places (base + words t) hs g) (if b then 0 else n + slot hs x) a
      go true h rest = absurd h
      go false h rest = word_same _ _ _ _ _ _ (word_before (pointing c.program (has_of c) c.img n base t) _ _ _ (rest h)) refl (ap (λ n. n + slot hs x) (pointing_length c os cs places n base t)) refl
  ref_word os cs places (Referred y n t ∷ hs) k base x g here = go (bytes_eq x y) refl here (λ h. ref_word os cs places hs k base x g h)
    where
      a : List ℕ → ℤ
      a z = pos (address c.program c.img os cs (places z))

      first : (n : ℕ) → n ≡ suc k → (rest : List ℤ) → WordAt (referred c os cs places y n ++ rest) 0 (a y)
      first zero e rest = absurd (omega (arith, e))
      first (suc zero) e rest = record { before = []; behind = rest; len = refl; is = refl }
      first (suc (suc n)) e rest = record { before = []; behind = _; len = refl; is = refl }

      go : (b : Bool) → bytes_eq x y ≡ b → OrElse b (n ≡ suc k) (As (IsReferred (suc k)) hs x) → (As (IsReferred (suc k)) hs x → WordAt (S c os cs places base hs g) (slot hs x) (a x)) → WordAt (referred c os cs places y n ++ S c os cs places base hs g) (if b then 0 else n + slot hs x) (a x)
      go true e h rest = word_same _ _ _ _ _ _ (first n h (S c os cs places base hs g)) refl refl (ap a (sym (bytes_true x y e)))
      go false e h rest = word_same _ _ _ _ _ _ (word_before (referred c os cs places y n) _ _ _ (rest h)) refl (ap (λ m. m + slot hs x) (pointing_length c os cs places n (address c.program c.img os cs (places y)) (place_form c.program c.img os cs (places y)))) refl

  pub word_got : (l : List ℤ) (n a : ℕ) (x : ℤ) → WordAt l n x → suc n ≡ a → word_at l (pos a) ≡ Some x
  word_got l n a x r e = subst (λ k. word_at l (pos k) ≡ Some x) e (got l r.before r.behind n x r.is r.len)
    where
      plain : (front back : List ℤ) (x : ℤ) → slice_get (front ++ x ∷ back) (length front) ≡ Some x
      plain [] back x = refl
      plain (y ∷ front) back x = plain front back x

      got : (l front back : List ℤ) (n : ℕ) (x : ℤ) → l ≡ front ++ x ∷ back → length front ≡ n → slice_get l n ≡ Some x
      got l front back n x e f = ap (λ l. slice_get l n) e ∙ ap (slice_get (front ++ x ∷ back)) (sym f) ∙ plain front back x

  -- the address of a parameter by VAR of the newest call, where the machine loads it
  pub ref_load : (a : Active) (cs : List Active) (s : State) (w : World) (k : ℕ) (x : List ℕ) → StandIn c (a ∷ cs) s w → As (IsReferred (suc k)) a.held x → word_at w.words (pos (call_start c.program (has_of c) c.img cs + slot a.held x)) ≡ Some (pos (address c.program c.img s.made cs (a.places x)))
  ref_load a cs s w k x st here =
      let g = s.store.locals in
      let base = call_start c.program (has_of c) c.img cs + slots_words a.held in
      let r = ref_word s.made cs a.places a.held k base x (g (length cs)) here in
      let in_call = word_behind (C c s.made cs a.places a.held (g (length cs))) _ _ _ r in
      let in_calls = word_before (Cs c s.made g cs) _ _ _ in_call in
      let behind = word_behind (st.stack_free ++ _) _ _ _ in_calls in
      let all = word_before (Ms c s.made c.program s.store.globals) _ _ _ (word_before c.behind _ _ _ behind) in
      word_got w.words _ _ _ (word_same _ _ _ _ _ _ all (sym st.words) refl refl) (omega (arith, st.globals_size, calls-length c s.made cs g))
