-- The words in the slots of parameters by value that are copied, and the second words of those that have two.
use Rattle.std.proofs.Common.{◌≡◌, ℕ, zero, suc, ◌+◌, List, [], ◌∷◌, ◌++◌, length, Some, refl, sym, ap, ◌∙◌, subst, arith}
use Rattle.std.specs.Prelude.{ℤ, pos, Bool, true, false, map, bytes_eq, replicate, if◌then◌else◌}
use Rattle.ob_types.specs.declared.typed.Passing.{Passing}
use Rattle.ob_types.specs.declared.typed.Passing.TheVariants as passing
use Rattle.ob_types.specs.declared.typed.TypedParameter.{TypedParameter}
use Rattle.ob_types.specs.TypedSyntax.{Procedure}
use Rattle.ob_mem.specs.Words.{word_at}
use Rattle.ob_instr.specs.Image.{World}
use Rattle.ob_meaning.specs.Values.{Program, Form, ArrayForm, form_in, words, Value, OfCall, Place, At, Held, Own, Referred, Copied, Active, AnObject, State}
use Rattle.ob_meaning.specs.Calls.{element_form}
use Rattle.law_simulation_relation.specs.Layout.{slot, slots_words, copy_offset, has_copy, form_named, static_parameter, static_held, place_form, address}
use Rattle.law_simulation_relation.specs.Relation.{OrElse, ValueIn, pointing, second_word, call_start}
use Rattle.law_simulation_relation.specs.Typed.{As, IsReferred, IsCopied}
use Rattle.law_simulation_relation.specs.Linked.{own_variables}
use Rattle.law_simulation_relation.proofs.Names.{bytes_true, nat_same}
use Rattle.law_simulation_relation.proofs.Statements.{ParameterHeld, ParametersHeld, IsCallOf}
use Rattle.law_simulation_relation.proofs.Parts.{W, flat-length}
use Rattle.law_simulation_relation.proofs.Places.{S, C, Cs, referred as referred_words, pointing_length, calls-length}
use Rattle.law_simulation_relation.proofs.Modules.{Ms}
use Rattle.law_simulation_relation.proofs.Slots.{WordAt, word_before, word_behind, word_same, word_got}
use Rattle.law_simulation_relation.proofs.Enter.{AllOwn}
use Rattle.law_simulation_relation.proofs.Rooms.{all_own}
use Rattle.law_simulation_relation.specs.Setting.{Setting, StandIn, has_of}

-- A COPY AS THE CODE KNOWS IT AND IN A CALL: an open array has its length there

pub data Kin : Held → Held → Type 0 where
  own : (x : List ℕ) (t : Form) → Kin (Own x t) (Own x t)
  referred : (x : List ℕ) (n : ℕ) (t : Form) → Kin (Referred x n t) (Referred x n t)
  structure : (x : List ℕ) (t : Form) → Kin (Copied x 1 t) (Copied x 1 t)
  array : (x : List ℕ) (n : ℕ) (t : Form) → Kin (Copied x 2 t) (Copied x 2 (ArrayForm n (element_form t)))

abbrev pub CopyForm : ℕ → Form → Form → Type 0
CopyForm (suc (suc zero)) f t = (n : ℕ) × (f ≡ ArrayForm n (element_form t))
CopyForm k f t = f ≡ t

pub record CopyHeld (k : ℕ) (hs : List Held) (x : List ℕ) (t : Form) : Type 0 where
  pub as_it : As (IsCopied k) hs x
  pub form : CopyForm k (form_named hs x) t

parameter_kin : (program : Program) (p : TypedParameter) (h : Held) → ParameterHeld program p h → Kin (static_parameter program p) h
parameter_kin program p h e = by p.passing refl
  where
    t : Form
    t = form_in program p.of

    by : (how : Passing) → p.passing ≡ how → Kin (static_parameter program p) h
    by passing.Scalar f = rw f (subst (λ k. Kin (Own p.name t) k) (sym (rw f at e)) (own _ _))
    by passing.Structure f = rw f (subst (λ k. Kin (Copied p.name 1 t) k) (sym (rw f at e)) (structure _ _))
    by passing.Variable f = rw f (subst (λ k. Kin (Referred p.name 1 t) k) (sym (rw f at e)) (referred _ _ _))
    by passing.VariableRecord f = rw f (subst (λ k. Kin (Referred p.name 2 t) k) (sym (rw f at e)) (referred _ _ _))
    by passing.VariableOpenArray f = rw f (subst (λ k. Kin (Referred p.name 2 t) k) (sym (rw f at e)) (referred _ _ _))
    by passing.OpenArray f = let g : (n : ℕ) × (h ≡ Copied p.name 2 (ArrayForm n (element_form t))) = rw f at e in rw f (subst (λ k. Kin (Copied p.name 2 t) k) (sym g.1) (array _ _ _))

copy_case : (k : ℕ) (h j : Held) → Kin h j → (hs ks : List Held) (x : List ℕ) → As (IsCopied k) (h ∷ hs) x → (As (IsCopied k) hs x → CopyHeld k ks x (form_named hs x)) → CopyHeld k (j ∷ ks) x (form_named (h ∷ hs) x)
copy_case k _ _ (own y t) hs ks x i rest = go (bytes_eq x y) refl i rest
  where
    go : (b : Bool) → bytes_eq x y ≡ b → OrElse b ⊥ (As (IsCopied k) hs x) → (As (IsCopied k) hs x → CopyHeld k ks x (form_named hs x)) → CopyHeld k (Own y t ∷ ks) x (if b then t else form_named hs x)
    go true e i r = absurd i
    go false e i r = let s = r i in record { as_it = rw e s.as_it; form = rw e s.form }
copy_case k _ _ (referred y n t) hs ks x i rest = go (bytes_eq x y) refl i rest
  where
    go : (b : Bool) → bytes_eq x y ≡ b → OrElse b ⊥ (As (IsCopied k) hs x) → (As (IsCopied k) hs x → CopyHeld k ks x (form_named hs x)) → CopyHeld k (Referred y n t ∷ ks) x (if b then t else form_named hs x)
    go true e i r = absurd i
    go false e i r = let s = r i in record { as_it = rw e s.as_it; form = rw e s.form }
copy_case k _ _ (structure y t) hs ks x i rest = go (bytes_eq x y) refl i rest
  where
    one : 1 ≡ k → CopyForm k t t
    one e = subst (λ k. CopyForm k t t) e refl

    go : (b : Bool) → bytes_eq x y ≡ b → OrElse b (1 ≡ k) (As (IsCopied k) hs x) → (As (IsCopied k) hs x → CopyHeld k ks x (form_named hs x)) → CopyHeld k (Copied y 1 t ∷ ks) x (if b then t else form_named hs x)
    go true e i r = record { as_it = rw e i; form = rw e (one i) }
    go false e i r = let s = r i in record { as_it = rw e s.as_it; form = rw e s.form }
copy_case k _ _ (array y n t) hs ks x i rest = go (bytes_eq x y) refl i rest
  where
    two : 2 ≡ k → CopyForm k (ArrayForm n (element_form t)) t
    two e = subst (λ k. CopyForm k (ArrayForm n (element_form t)) t) e (n, refl)

    go : (b : Bool) → bytes_eq x y ≡ b → OrElse b (2 ≡ k) (As (IsCopied k) hs x) → (As (IsCopied k) hs x → CopyHeld k ks x (form_named hs x)) → CopyHeld k (Copied y 2 (ArrayForm n (element_form t)) ∷ ks) x (if b then t else form_named hs x)
    go true e i r = record { as_it = rw e i; form = rw e (two i) }
    go false e i r = let s = r i in record { as_it = rw e s.as_it; form = rw e s.form }

none_own : (k : ℕ) (hs : List Held) (x : List ℕ) → AllOwn hs → As (IsCopied k) hs x → ⊥
none_own k [] x o h = h
none_own k (Own y t ∷ hs) x o h = go (bytes_eq x y) h (λ h. none_own k hs x o h)
  where
    go : (b : Bool) → OrElse b ⊥ (As (IsCopied k) hs x) → (As (IsCopied k) hs x → ⊥) → ⊥
    go true h r = h
    go false h r = r h
none_own k (Referred y n t ∷ hs) x o h = absurd o
none_own k (Copied y n t ∷ hs) x o h = absurd o

params_copied : (program : Program) (k : ℕ) (ps : List TypedParameter) (hs rest : List Held) (x : List ℕ) → ParametersHeld program ps hs → AllOwn rest → As (IsCopied k) (map (static_parameter program) ps ++ rest) x → CopyHeld k (hs ++ rest) x (form_named (map (static_parameter program) ps ++ rest) x)
params_copied program k [] [] rest x h o i = absurd (none_own k rest x o i)
params_copied program k [] (j ∷ hs) rest x h o i = absurd h
params_copied program k (p ∷ ps) [] rest x h o i = absurd h
params_copied program k (p ∷ ps) (j ∷ hs) rest x h o i = copy_case k (static_parameter program p) j (parameter_kin program p j h.0) (map (static_parameter program) ps ++ rest) (hs ++ rest) x i (λ i. params_copied program k ps hs rest x h.1 o i)

pub copy_held : (program : Program) (p : Procedure) (a : Active) (k : ℕ) (x : List ℕ) → IsCallOf program p a → As (IsCopied k) (static_held program p) x → CopyHeld k a.held x (form_named (static_held program p) x)
copy_held program p a k x h i = subst (λ hs. CopyHeld k hs x (form_named (static_held program p) x)) (sym h.is) (params_copied program k p.parameters h.parameters (own_variables program p) x h.fit (all_own program p) i)

pub copy_value : (k : ℕ) (hs : List Held) (x : List ℕ) → As (IsCopied k) hs x → ValueIn hs x
copy_value k [] x h = absurd h
copy_value k (Own y t ∷ hs) x h = go (bytes_eq x y) h (λ h. copy_value k hs x h)
  where
    go : (b : Bool) → OrElse b ⊥ (As (IsCopied k) hs x) → (As (IsCopied k) hs x → ValueIn hs x) → OrElse b (Unit {0}) (ValueIn hs x)
    go true h rest = absurd h
    go false h rest = rest h
copy_value k (Referred y n t ∷ hs) x h = go (bytes_eq x y) h (λ h. copy_value k hs x h)
  where
    go : (b : Bool) → OrElse b ⊥ (As (IsCopied k) hs x) → (As (IsCopied k) hs x → ValueIn hs x) → OrElse b ⊥ (ValueIn hs x)
    go true h rest = h
    go false h rest = rest h
copy_value k (Copied y n t ∷ hs) x h = go (bytes_eq x y) h (λ h. copy_value k hs x h)
  where
    go : (b : Bool) → OrElse b (n ≡ k) (As (IsCopied k) hs x) → (As (IsCopied k) hs x → ValueIn hs x) → OrElse b (Unit {0}) (ValueIn hs x)
    go true h rest = tt
    go false h rest = rest h

copy_there : (k : ℕ) (hs : List Held) (x : List ℕ) → As (IsCopied k) hs x → has_copy hs x ≡ true
copy_there k [] x h = absurd h
copy_there k (Own y t ∷ hs) x h = go (bytes_eq x y) h (λ h. copy_there k hs x h)
  where
    go : (b : Bool) → OrElse b ⊥ (As (IsCopied k) hs x) → (As (IsCopied k) hs x → has_copy hs x ≡ true) → (if b then false else has_copy hs x) ≡ true
    go true h rest = absurd h
    go false h rest = rest h
copy_there k (Referred y n t ∷ hs) x h = go (bytes_eq x y) h (λ h. copy_there k hs x h)
  where
    go : (b : Bool) → OrElse b ⊥ (As (IsCopied k) hs x) → (As (IsCopied k) hs x → has_copy hs x ≡ true) → (if b then false else has_copy hs x) ≡ true
    go true h rest = absurd h
    go false h rest = rest h
copy_there k (Copied y n t ∷ hs) x h = go (bytes_eq x y) h (λ h. copy_there k hs x h)
  where
    go : (b : Bool) → OrElse b (n ≡ k) (As (IsCopied k) hs x) → (As (IsCopied k) hs x → has_copy hs x ≡ true) → (if b then true else has_copy hs x) ≡ true
    go true h rest = refl
    go false h rest = rest h

module _ (c : Setting) where
  -- THE WORDS IN ITS SLOTS: its address, and the length of an open array

  copy_word : (os : List AnObject) (cs : List Active) (places : List ℕ → Place) (hs : List Held) (k base : ℕ) (x : List ℕ) (g : List ℕ → Value) → As (IsCopied (suc k)) hs x → WordAt (S c os cs places base hs g) (slot hs x) (pos (base + copy_offset hs x))
  copy_word os cs places [] k base x g here = absurd here
  copy_word os cs places (Own y t ∷ hs) k base x g here = go (bytes_eq x y) here (λ h. copy_word os cs places hs k base x g h)
    where
      go : (b : Bool) → OrElse b ⊥ (As (IsCopied (suc k)) hs x) → (As (IsCopied (suc k)) hs x → WordAt (S c os cs places base hs g) (slot hs x) (pos (base + copy_offset hs x))) → WordAt (W c os t (g y) ++ S c os cs places base hs g) (if b then 0 else words t + slot hs x) (pos (base + (if b then 0 else copy_offset hs x)))
      go true h rest = absurd h
      go false h rest = word_same _ _ _ _ _ _ (word_before (W c os t (g y)) _ _ _ (rest h)) refl (ap (λ n. n + slot hs x) (flat-length c os t (g y))) refl
  copy_word os cs places (Referred y n t ∷ hs) k base x g here = go (bytes_eq x y) here (λ h. copy_word os cs places hs k base x g h)
    where
      go : (b : Bool) → OrElse b ⊥ (As (IsCopied (suc k)) hs x) → (As (IsCopied (suc k)) hs x → WordAt (S c os cs places base hs g) (slot hs x) (pos (base + copy_offset hs x))) → WordAt (referred_words c os cs places y n ++ S c os cs places base hs g) (if b then 0 else n + slot hs x) (pos (base + (if b then 0 else copy_offset hs x)))
      go true h rest = absurd h
      go false h rest = word_same _ _ _ _ _ _ (word_before (referred_words c os cs places y n) _ _ _ (rest h)) refl (ap (λ m. m + slot hs x) (pointing_length c os cs places n (address c.program c.img os cs (places y)) (place_form c.program c.img os cs (places y)))) refl
  copy_word os cs places (Copied y n t ∷ hs) k base x g here = go (bytes_eq x y) here (λ h. copy_word os cs places hs k (base + words t) x g h)
    where
      first : (n : ℕ) → n ≡ suc k → (rest : List ℤ) → WordAt (pointing c.program (has_of c) c.img n base t ++ rest) 0 (pos base)
      first zero e rest = absurd (omega (arith, e))
      first (suc zero) e rest = record { before = []; behind = rest; len = refl; is = refl }
      first (suc (suc n)) e rest = record { before = []; behind = _; len = refl; is = refl }

      go : (b : Bool) → OrElse b (n ≡ suc k) (As (IsCopied (suc k)) hs x) → (As (IsCopied (suc k)) hs x → WordAt (S c os cs places (base + words t) hs g) (slot hs x) (pos (base + words t + copy_offset hs x))) → WordAt (pointing c.program (has_of c) c.img n base t ++ S c os cs places (base + words t) hs g) (if b then 0 else n + slot hs x) (pos (base + (if b then 0 else words t + copy_offset hs x)))
      go true h rest = let e : base ≡ base + 0 = omega arith in word_same _ _ _ _ _ _ (first n h (S c os cs places (base + words t) hs g)) refl refl (ap pos e)
      go false h rest = let e : base + words t + copy_offset hs x ≡ base + (words t + copy_offset hs x) = omega arith in word_same _ _ _ _ _ _ (word_before (pointing c.program (has_of c) c.img n base t) _ _ _ (rest h)) refl (ap (λ m. m + slot hs x) (pointing_length c os cs places n base t)) (ap pos e)

  copy_second : (os : List AnObject) (cs : List Active) (places : List ℕ → Place) (hs : List Held) (k base : ℕ) (x : List ℕ) (g : List ℕ → Value) → As (IsCopied (suc (suc k))) hs x → WordAt (S c os cs places base hs g) (suc (slot hs x)) (second_word c.program (has_of c) c.img (form_named hs x))
  copy_second os cs places [] k base x g here = absurd here
  copy_second os cs places (Own y t ∷ hs) k base x g here = go (bytes_eq x y) here (λ h. copy_second os cs places hs k base x g h)
    where
      go : (b : Bool) → OrElse b ⊥ (As (IsCopied (suc (suc k))) hs x) → (As (IsCopied (suc (suc k))) hs x → WordAt (S c os cs places base hs g) (suc (slot hs x)) (second_word c.program (has_of c) c.img (form_named hs x))) → WordAt (W c os t (g y) ++ S c os cs places base hs g) (suc (if b then 0 else words t + slot hs x)) (second_word c.program (has_of c) c.img (if b then t else form_named hs x))
      go true h rest = absurd h
      go false h rest = word_same _ _ _ _ _ _ (word_before (W c os t (g y)) _ _ _ (rest h)) refl (ap (λ n. n + suc (slot hs x)) (flat-length c os t (g y)) ∙ omega arith) refl
  copy_second os cs places (Referred y n t ∷ hs) k base x g here = go (bytes_eq x y) here (λ h. copy_second os cs places hs k base x g h)
    where
      go : (b : Bool) → OrElse b ⊥ (As (IsCopied (suc (suc k))) hs x) → (As (IsCopied (suc (suc k))) hs x → WordAt (S c os cs places base hs g) (suc (slot hs x)) (second_word c.program (has_of c) c.img (form_named hs x))) → WordAt (referred_words c os cs places y n ++ S c os cs places base hs g) (suc (if b then 0 else n + slot hs x)) (second_word c.program (has_of c) c.img (if b then t else form_named hs x))
      go true h rest = absurd h
      go false h rest = word_same _ _ _ _ _ _ (word_before (referred_words c os cs places y n) _ _ _ (rest h)) refl (ap (λ m. m + suc (slot hs x)) (pointing_length c os cs places n (address c.program c.img os cs (places y)) (place_form c.program c.img os cs (places y))) ∙ omega arith) refl
  copy_second os cs places (Copied y n t ∷ hs) k base x g here = go (bytes_eq x y) here (λ h. copy_second os cs places hs k (base + words t) x g h)
    where
      first : (n : ℕ) → n ≡ suc (suc k) → (rest : List ℤ) → WordAt (pointing c.program (has_of c) c.img n base t ++ rest) 1 (second_word c.program (has_of c) c.img t)
      first zero e rest = absurd (omega (arith, e))
      first (suc zero) e rest = absurd (omega (arith, e))
      first (suc (suc n)) e rest = record { before = pos base ∷ []; behind = replicate n (pos 0) ++ rest; len = refl; is = refl }

      go : (b : Bool) → OrElse b (n ≡ suc (suc k)) (As (IsCopied (suc (suc k))) hs x) → (As (IsCopied (suc (suc k))) hs x → WordAt (S c os cs places (base + words t) hs g) (suc (slot hs x)) (second_word c.program (has_of c) c.img (form_named hs x))) → WordAt (pointing c.program (has_of c) c.img n base t ++ S c os cs places (base + words t) hs g) (suc (if b then 0 else n + slot hs x)) (second_word c.program (has_of c) c.img (if b then t else form_named hs x))
      go true h rest = first n h (S c os cs places (base + words t) hs g)
      go false h rest = word_same _ _ _ _ _ _ (word_before (pointing c.program (has_of c) c.img n base t) _ _ _ (rest h)) refl (ap (λ m. m + suc (slot hs x)) (pointing_length c os cs places n base t) ∙ omega arith) refl

  -- the second word of a parameter by VAR: a tag or a length
  second_in : (os : List AnObject) (cs : List Active) (places : List ℕ → Place) (hs : List Held) (k base : ℕ) (x : List ℕ) (g : List ℕ → Value) → As (IsReferred (suc (suc k))) hs x → WordAt (S c os cs places base hs g) (suc (slot hs x)) (second_word c.program (has_of c) c.img (place_form c.program c.img os cs (places x)))
  second_in os cs places [] k base x g here = absurd here
  second_in os cs places (Own y t ∷ hs) k base x g here = go (bytes_eq x y) here (λ h. second_in os cs places hs k base x g h)
    where
      T : ℤ
      T = second_word c.program (has_of c) c.img (place_form c.program c.img os cs (places x))

      go : (b : Bool) → OrElse b ⊥ (As (IsReferred (suc (suc k))) hs x) → (As (IsReferred (suc (suc k))) hs x → WordAt (S c os cs places base hs g) (suc (slot hs x)) T) → WordAt (W c os t (g y) ++ S c os cs places base hs g) (suc (if b then 0 else words t + slot hs x)) T
      go true h rest = absurd h
      go false h rest = word_same _ _ _ _ _ _ (word_before (W c os t (g y)) _ _ _ (rest h)) refl (ap (λ n. n + suc (slot hs x)) (flat-length c os t (g y)) ∙ omega arith) refl
  second_in os cs places (Copied y n t ∷ hs) k base x g here = go (bytes_eq x y) here (λ h. second_in os cs places hs k (base + words t) x g h)
    where
      T : ℤ
      T = second_word c.program (has_of c) c.img (place_form c.program c.img os cs (places x))

      go : (b : Bool) → OrElse b ⊥ (As (IsReferred (suc (suc k))) hs x) → (As (IsReferred (suc (suc k))) hs x → WordAt (S c os cs places (base + words t) hs g) (suc (slot hs x)) T) → WordAt (pointing c.program (has_of c) c.img n base t ++ S c os cs places (base + words t) hs g) (suc (if b then 0 else n + slot hs x)) T
      go true h rest = absurd h
      go false h rest = word_same _ _ _ _ _ _ (word_before (pointing c.program (has_of c) c.img n base t) _ _ _ (rest h)) refl (ap (λ n. n + suc (slot hs x)) (pointing_length c os cs places n base t) ∙ omega arith) refl
  second_in os cs places (Referred y n t ∷ hs) k base x g here = go (bytes_eq x y) refl here (λ h. second_in os cs places hs k base x g h)
    where
      T : List ℕ → ℤ
      T z = second_word c.program (has_of c) c.img (place_form c.program c.img os cs (places z))

      first : (n : ℕ) → n ≡ suc (suc k) → (rest : List ℤ) → WordAt (referred_words c os cs places y n ++ rest) 1 (T y)
      first zero e rest = absurd (omega (arith, e))
      first (suc zero) e rest = absurd (omega (arith, e))
      first (suc (suc n)) e rest = record { before = pos (address c.program c.img os cs (places y)) ∷ []; behind = replicate n (pos 0) ++ rest; len = refl; is = refl }

      go : (b : Bool) → bytes_eq x y ≡ b → OrElse b (n ≡ suc (suc k)) (As (IsReferred (suc (suc k))) hs x) → (As (IsReferred (suc (suc k))) hs x → WordAt (S c os cs places base hs g) (suc (slot hs x)) (T x)) → WordAt (referred_words c os cs places y n ++ S c os cs places base hs g) (suc (if b then 0 else n + slot hs x)) (T x)
      go true e h rest = word_same _ _ _ _ _ _ (first n h (S c os cs places base hs g)) refl refl (ap T (sym (bytes_true x y e)))
      go false e h rest = word_same _ _ _ _ _ _ (word_before (referred_words c os cs places y n) _ _ _ (rest h)) refl (ap (λ m. m + suc (slot hs x)) (pointing_length c os cs places n (address c.program c.img os cs (places y)) (place_form c.program c.img os cs (places y))) ∙ omega arith) refl

  -- a word in a slot of the newest call, where the machine loads it
  slot_load : (a : Active) (cs : List Active) (s : State) (w : World) (n : ℕ) (v : ℤ) → StandIn c (a ∷ cs) s w → WordAt (S c s.made cs a.places (call_start c.program (has_of c) c.img cs + slots_words a.held) a.held (s.store.locals (length cs))) n v → word_at w.words (pos (call_start c.program (has_of c) c.img cs + n)) ≡ Some v
  slot_load a cs s w n v st r =
      let g = s.store.locals in
      let in_call = word_behind (C c s.made cs a.places a.held (g (length cs))) _ _ _ r in
      let in_calls = word_before (Cs c s.made g cs) _ _ _ in_call in
      let behind = word_behind (st.stack_free ++ _) _ _ _ in_calls in
      let all = word_before (Ms c s.made c.program s.store.globals) _ _ _ (word_before c.behind _ _ _ behind) in
      word_got c w.words _ _ _ (word_same _ _ _ _ _ _ all (sym st.words) refl refl) (omega (arith, st.globals_size, calls-length c s.made cs g))

  pub copy_address : (os : List AnObject) (cs : List Active) (a : Active) (x : List ℕ) → has_copy a.held x ≡ true → call_start c.program (has_of c) c.img cs + slots_words a.held + copy_offset a.held x ≡ address c.program c.img os (a ∷ cs) (At (OfCall (length cs) x) [])
  copy_address os cs a x h = let e = nat_same (length cs) in rw (e, h) (omega arith)

  pub copy_load : (a : Active) (cs : List Active) (s : State) (w : World) (k : ℕ) (x : List ℕ) → StandIn c (a ∷ cs) s w → As (IsCopied (suc k)) a.held x → word_at w.words (pos (call_start c.program (has_of c) c.img cs + slot a.held x)) ≡ Some (pos (address c.program c.img s.made (a ∷ cs) (At (OfCall (length cs) x) [])))
  copy_load a cs s w k x st here = slot_load a cs s w (slot a.held x) _ st (copy_word s.made cs a.places a.held k _ x (s.store.locals (length cs)) here) ∙ ap (λ n. Some (pos n)) (copy_address s.made cs a x (copy_there (suc k) a.held x here))

  pub copy_second_load : (a : Active) (cs : List Active) (s : State) (w : World) (k : ℕ) (x : List ℕ) → StandIn c (a ∷ cs) s w → As (IsCopied (suc (suc k))) a.held x → word_at w.words (pos (call_start c.program (has_of c) c.img cs + suc (slot a.held x))) ≡ Some (second_word c.program (has_of c) c.img (form_named a.held x))
  copy_second_load a cs s w k x st here = slot_load a cs s w (suc (slot a.held x)) _ st (copy_second s.made cs a.places a.held k _ x (s.store.locals (length cs)) here)

  pub referred_second_load : (a : Active) (cs : List Active) (s : State) (w : World) (k : ℕ) (x : List ℕ) → StandIn c (a ∷ cs) s w → As (IsReferred (suc (suc k))) a.held x → word_at w.words (pos (call_start c.program (has_of c) c.img cs + suc (slot a.held x))) ≡ Some (second_word c.program (has_of c) c.img (place_form c.program c.img s.made cs (a.places x)))
  referred_second_load a cs s w k x st here = slot_load a cs s w (suc (slot a.held x)) _ st (second_in s.made cs a.places a.held k _ x (s.store.locals (length cs)) here)
