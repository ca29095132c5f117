-- The words at a place's address are the place's value: variables, calls, objects and modules.
use Rattle.std.proofs.lemmas.Bool.{eqb-true}
use Rattle.std.proofs.lemmas.Bool.Decides.{nat_tests}
use Rattle.std.proofs.Common.{◌≡◌, ℕ, zero, suc, ◌+◌, ◌<◌, ◌≤◌, List, [], ◌∷◌, ◌++◌, length, refl, sym, ap, ◌∙◌, subst, arith, append_assoc, append-nil, length-append}
use Rattle.std.proofs.lemmas.List.{length-replicate}
use Rattle.std.specs.Prelude.{ℤ, pos, Bool, true, false, nat_eq, bytes_eq, if◌then◌else◌}
use Rattle.ob_meaning.specs.Values.{changed, changed_at, Form, BasicForm, PointerForm, ProcedureForm, ArrayForm, OpenForm, RecordForm, words, Value, Place, Held, Own, Referred, Copied, Active, AnObject, Whole, Opened}
use Rattle.ob_meaning.specs.Meaning.{costs_of, cost_of}
use Rattle.ob_meaning.specs.Calls.{cost_of_all, cost_of_calls}
use Rattle.law_simulation_relation.specs.Layout.{slots_words, copies_words, slot, copy_offset, form_named, has_copy, own_offset, held_at, call_offset, object_form, extra_words, object_at, object_offset, address, place_form}
use Rattle.law_simulation_relation.specs.Relation.{OrElse, ValueIn, Fresh, AreDifferent, FormOk, flat_slots, flat_copies, pointing, HeldFine, call_start, flat_call, flat_calls, CallsFine, extra, flat_objects, ObjectsFine}
use Rattle.law_simulation_relation.proofs.Names.{bytes_true, bytes_sym, nat_sym}
use Rattle.law_simulation_relation.proofs.Parts.{Part, part_same, part_before, part_behind, Known, F, W, flat-length}
use Rattle.law_simulation_relation.specs.Setting.{Setting, has_of}

pub changed_other : (g : List ℕ → Value) (x y : List ℕ) (w : Value) → bytes_eq x y ≡ false → changed g x w y ≡ g y
changed_other g x y w e = ap (λ b. if b then w else g y) (bytes_sym y x ∙ e)

pub changed_own : (g : List ℕ → Value) (x y : List ℕ) (w : Value) → bytes_eq x y ≡ true → changed g x w y ≡ w
changed_own g x y w e = ap (λ b. if b then w else g y) (bytes_sym y x ∙ e)

module _ (c : Setting) (os : List AnObject) where
  -- VARIABLES

  module _ (cs : List Active) (places : List ℕ → Place) where
    abbrev pub S : ℕ → List Held → (List ℕ → Value) → List ℤ
    S base hs g = flat_slots c.program (has_of c) c.img os cs places base hs g

    abbrev pub C : List Held → (List ℕ → Value) → List ℤ
    C hs g = flat_copies c.program (has_of c) c.img os hs g

    abbrev pub Hs : List Held → (List ℕ → Value) → Type 0
    Hs hs g = HeldFine c.program (has_of c) c.img os cs places hs g

    abbrev pub referred : List ℕ → ℕ → List ℤ
    referred x n = pointing c.program (has_of c) c.img n (address c.program c.img os cs (places x)) (place_form c.program c.img os cs (places x))

    pub slots_fresh : (hs : List Held) (x : List ℕ) (base : ℕ) (g : List ℕ → Value) (w : Value) → Fresh x hs → S base hs (changed g x w) ≡ S base hs g
    slots_fresh [] x base g w fresh = refl
    slots_fresh (Own y t ∷ hs) x base g w fresh = ap (λ v. W c os t v ++ S base hs (changed g x w)) (changed_other g x y w fresh.0) ∙ ap (λ l. W c os t (g y) ++ l) (slots_fresh hs x base g w fresh.1)
    slots_fresh (Referred y n t ∷ hs) x base g w fresh = ap (λ l. referred y n ++ l) (slots_fresh hs x base g w fresh.1)
    slots_fresh (Copied y n t ∷ hs) x base g w fresh = ap (λ l. pointing c.program (has_of c) c.img n base t ++ l) (slots_fresh hs x (base + words t) g w fresh.1)

    pub copies_fresh : (hs : List Held) (x : List ℕ) (g : List ℕ → Value) (w : Value) → Fresh x hs → C hs (changed g x w) ≡ C hs g
    copies_fresh [] x g w fresh = refl
    copies_fresh (Own y t ∷ hs) x g w fresh = copies_fresh hs x g w fresh.1
    copies_fresh (Referred y n t ∷ hs) x g w fresh = copies_fresh hs x g w fresh.1
    copies_fresh (Copied y n t ∷ hs) x g w fresh = ap (λ v. W c os t v ++ C hs (changed g x w)) (changed_other g x y w fresh.0) ∙ ap (λ l. W c os t (g y) ++ l) (copies_fresh hs x g w fresh.1)

    pub fresh_fine : (hs : List Held) (x : List ℕ) (g : List ℕ → Value) (w : Value) → Fresh x hs → Hs hs g → Hs hs (changed g x w)
    fresh_fine [] x g w fresh fine = tt
    fresh_fine (Own y t ∷ hs) x g w fresh fine = (fine.0, (subst (λ v. F c os t v) (sym (changed_other g x y w fresh.0)) fine.1.0, fresh_fine hs x g w fresh.1 fine.1.1))
    fresh_fine (Referred y n t ∷ hs) x g w fresh fine = (fine.0, (fine.1.0, fresh_fine hs x g w fresh.1 fine.1.1))
    fresh_fine (Copied y n t ∷ hs) x g w fresh fine = (fine.0, (subst (λ v. F c os t v) (sym (changed_other g x y w fresh.0)) fine.1.0, fresh_fine hs x g w fresh.1 fine.1.1))

    pub pointing_length : (n base : ℕ) (t : Form) → length (pointing c.program (has_of c) c.img n base t) ≡ n
    pointing_length zero base t = refl
    pointing_length (suc zero) base t = refl
    pointing_length (suc (suc n)) base t = ap (λ k. suc (suc k)) (length-replicate n (pos 0))

    pub slots-length : (hs : List Held) (base : ℕ) (g : List ℕ → Value) → length (S base hs g) ≡ slots_words hs
    slots-length [] base g = refl
    slots-length (Own y t ∷ hs) base g = length-append (W c os t (g y)) (S base hs g) ∙ omega (arith, flat-length c os t (g y), slots-length hs base g)
    slots-length (Referred y n t ∷ hs) base g = length-append (referred y n) (S base hs g) ∙ omega (arith, pointing_length n (address c.program c.img os cs (places y)) (place_form c.program c.img os cs (places y)), slots-length hs base g)
    slots-length (Copied y n t ∷ hs) base g = length-append (pointing c.program (has_of c) c.img n base t) (S (base + words t) hs g) ∙ omega (arith, pointing_length n base t, slots-length hs (base + words t) g)

    pub copies-length : (hs : List Held) (g : List ℕ → Value) → length (C hs g) ≡ copies_words hs
    copies-length [] g = refl
    copies-length (Own y t ∷ hs) g = copies-length hs g
    copies-length (Referred y n t ∷ hs) g = copies-length hs g
    copies-length (Copied y n t ∷ hs) g = length-append (W c os t (g y)) (C hs g) ∙ omega (arith, flat-length c os t (g y), copies-length hs g)

    -- where a variable's value stands: among the slots, or among the copies
    abbrev Sw : ℕ → List Held → (List ℕ → Value) → List ℕ → Value → List ℤ
    Sw base hs g x w = S base hs (changed g x w)

    abbrev Cw : List Held → (List ℕ → Value) → List ℕ → Value → List ℤ
    Cw hs g x w = C hs (changed g x w)

    pub record InFrame (t : Form) (copy : Bool) (at cat base : ℕ) (hs : List Held) (x : List ℕ) (g : List ℕ → Value) (now nowc : List ℤ) (after afterc : Value → List ℤ) (Fit : Type 0) (Fits : Value → Type 0) : Type 0 where
      pub own : copy ≡ false → Part c os t (g x) now after at
      pub own_same : copy ≡ false → (w : Value) → afterc w ≡ nowc
      pub copied : copy ≡ true → Part c os t (g x) nowc afterc cat
      pub copied_same : copy ≡ true → (w : Value) → after w ≡ now
      pub ok : Fit → FormOk c.program t
      pub fine : Fit → F c os t (g x)
      pub keeps : Fit → (w : Value) → F c os t w → Fits w

    abbrev Frame : ℕ → List Held → List ℕ → (List ℕ → Value) → Type 0
    Frame base hs x g = InFrame (form_named hs x) (has_copy hs x) (slot hs x) (copy_offset hs x) base hs x g (S base hs g) (C hs g) (λ w. Sw base hs g x w) (λ w. Cw hs g x w) (Hs hs g) (λ w. Hs hs (changed g x w))

    pub in_frame : (hs : List Held) (base : ℕ) (x : List ℕ) (g : List ℕ → Value) → ValueIn hs x → AreDifferent hs → Frame base hs x g
    in_frame [] base x g here ok = absurd here
    in_frame (Own y t ∷ hs) base x g here ok = go (λ i. in_frame hs base x g i ok.1) (bytes_eq x y) refl here
      where
        go : (ValueIn hs x → Frame base hs x g) → (b : Bool) → bytes_eq x y ≡ b → OrElse b (Unit {0}) (ValueIn hs x) → InFrame (if b then t else form_named hs x) (if b then false else has_copy hs x) (if b then 0 else words t + slot hs x) (if b then 0 else copy_offset hs x) base (Own y t ∷ hs) x g (W c os t (g y) ++ S base hs g) (C hs g) (λ w. W c os t (changed g x w y) ++ S base hs (changed g x w)) (λ w. Cw hs g x w) (FormOk c.program t × (F c os t (g y) × Hs hs g)) (λ w. FormOk c.program t × (F c os t (changed g x w y) × Hs hs (changed g x w)))
        go rest true e i =
            let same = bytes_true x y e in
            let fresh : Fresh x hs = subst (λ z. Fresh z hs) (sym same) ok.0 in
            record {
              own = λ z. record {
                before = [];
                behind = S base hs g;
                len = refl;
                is = ap (λ z. W c os t (g z) ++ S base hs g) (sym same);
                will = λ w f. ap (λ v. W c os t v ++ S base hs (changed g x w)) (changed_own g x y w e) ∙ ap (λ l. W c os t w ++ l) (slots_fresh hs x base g w fresh);
              };
              own_same = λ z w. copies_fresh hs x g w fresh;
              copied = λ z. absurd (cc);
              copied_same = λ z. absurd (cc);
              ok = λ f. f.0;
              fine = λ f. subst (λ z. F c os t (g z)) (sym same) f.1.0;
              keeps = λ f w n. (f.0, (subst (λ v. F c os t v) (sym (changed_own g x y w e)) n, fresh_fine hs x g w fresh f.1.1));
            }
        go rest false e i =
            let r = rest i in
            record {
              own = λ z. part_same c os (form_named hs x) (g x) (g x) _ _ _ (λ w. W c os t (changed g x w y) ++ S base hs (changed g x w)) _ _ (part_before c os (form_named hs x) (g x) (W c os t (g y)) _ _ _ (r.own z)) refl refl (λ w f. ap (λ v. W c os t v ++ S base hs (changed g x w)) (changed_other g x y w e)) (ap (λ n. n + slot hs x) (flat-length c os t (g y)));
              own_same = λ z. r.own_same z;
              copied = λ z. r.copied z;
              copied_same = λ z w. ap (λ v. W c os t v ++ S base hs (changed g x w)) (changed_other g x y w e) ∙ ap (λ l. W c os t (g y) ++ l) (r.copied_same z w);
              ok = λ f. r.ok f.1.1;
              fine = λ f. r.fine f.1.1;
              keeps = λ f w n. (f.0, (subst (λ v. F c os t v) (sym (changed_other g x y w e)) f.1.0, r.keeps f.1.1 w n));
            }
    in_frame (Referred y n t ∷ hs) base x g here ok = go (λ i. in_frame hs base x g i ok.1) (bytes_eq x y) here
      where
        go : (ValueIn hs x → Frame base hs x g) → (b : Bool) → OrElse b ⊥ (ValueIn hs x) → InFrame (if b then t else form_named hs x) (if b then false else has_copy hs x) (if b then 0 else n + slot hs x) (if b then 0 else copy_offset hs x) base (Referred y n t ∷ hs) x g (referred y n ++ S base hs g) (C hs g) (λ w. referred y n ++ S base hs (changed g x w)) (λ w. Cw hs g x w) (Hs (Referred y n t ∷ hs) g) (λ w. Hs (Referred y n t ∷ hs) (changed g x w))
        go rest true i = absurd i
        go rest false i =
            let r = rest i in
            record {
              own = λ z. part_same c os (form_named hs x) (g x) (g x) _ _ _ (λ w. referred y n ++ S base hs (changed g x w)) _ _ (part_before c os (form_named hs x) (g x) (referred y n) _ _ _ (r.own z)) refl refl (λ w f. refl) (ap (λ k. k + slot hs x) (pointing_length n (address c.program c.img os cs (places y)) (place_form c.program c.img os cs (places y))));
              own_same = λ z. r.own_same z;
              copied = λ z. r.copied z;
              copied_same = λ z w. ap (λ l. referred y n ++ l) (r.copied_same z w);
              ok = λ f. r.ok f.1.1;
              fine = λ f. r.fine f.1.1;
              keeps = λ f w m. (f.0, (f.1.0, r.keeps f.1.1 w m));
            }
    in_frame (Copied y n t ∷ hs) base x g here ok = go (λ i. in_frame hs (base + words t) x g i ok.1) (bytes_eq x y) refl here
      where
        go : (ValueIn hs x → Frame (base + words t) hs x g) → (b : Bool) → bytes_eq x y ≡ b → OrElse b (Unit {0}) (ValueIn hs x) → InFrame (if b then t else form_named hs x) (if b then true else has_copy hs x) (if b then 0 else n + slot hs x) (if b then 0 else words t + copy_offset hs x) base (Copied y n t ∷ hs) x g (pointing c.program (has_of c) c.img n base t ++ S (base + words t) hs g) (W c os t (g y) ++ C hs g) (λ w. pointing c.program (has_of c) c.img n base t ++ S (base + words t) hs (changed g x w)) (λ w. W c os t (changed g x w y) ++ C hs (changed g x w)) (Hs (Copied y n t ∷ hs) g) (λ w. Hs (Copied y n t ∷ hs) (changed g x w))
        go rest true e i =
            let same = bytes_true x y e in
            let fresh : Fresh x hs = subst (λ z. Fresh z hs) (sym same) ok.0 in
            record {
              own = λ z. absurd (cc);
              own_same = λ z. absurd (cc);
              copied = λ z. record {
                before = [];
                behind = C hs g;
                len = refl;
                is = ap (λ z. W c os t (g z) ++ C hs g) (sym same);
                will = λ w f. ap (λ v. W c os t v ++ C hs (changed g x w)) (changed_own g x y w e) ∙ ap (λ l. W c os t w ++ l) (copies_fresh hs x g w fresh);
              };
              copied_same = λ z w. ap (λ l. pointing c.program (has_of c) c.img n base t ++ l) (slots_fresh hs x (base + words t) g w fresh);
              ok = λ f. f.0.0;
              fine = λ f. subst (λ z. F c os t (g z)) (sym same) f.1.0;
              keeps = λ f w n. (f.0, (subst (λ v. F c os t v) (sym (changed_own g x y w e)) n, fresh_fine hs x g w fresh f.1.1));
            }
        go rest false e i =
            let r = rest i in
            record {
              own = λ z. part_same c os (form_named hs x) (g x) (g x) _ _ _ (λ w. pointing c.program (has_of c) c.img n base t ++ S (base + words t) hs (changed g x w)) _ _ (part_before c os (form_named hs x) (g x) (pointing c.program (has_of c) c.img n base t) _ _ _ (r.own z)) refl refl (λ w f. refl) (ap (λ k. k + slot hs x) (pointing_length n base t));
              own_same = λ z w. ap (λ v. W c os t v ++ C hs (changed g x w)) (changed_other g x y w e) ∙ ap (λ l. W c os t (g y) ++ l) (r.own_same z w);
              copied = λ z. part_same c os (form_named hs x) (g x) (g x) _ _ _ (λ w. W c os t (changed g x w y) ++ C hs (changed g x w)) _ _ (part_before c os (form_named hs x) (g x) (W c os t (g y)) _ _ _ (r.copied z)) refl refl (λ w f. ap (λ v. W c os t v ++ C hs (changed g x w)) (changed_other g x y w e)) (ap (λ n. n + copy_offset hs x) (flat-length c os t (g y)));
              copied_same = λ z w. ap (λ l. pointing c.program (has_of c) c.img n base t ++ l) (r.copied_same z w);
              ok = λ f. r.ok f.1.1;
              fine = λ f. r.fine f.1.1;
              keeps = λ f w m. (f.0, (subst (λ v. F c os t v) (sym (changed_other g x y w e)) f.1.0, r.keeps f.1.1 w m));
            }

    -- a variable among the words of its call
    pub frame_known : (hs : List Held) (base : ℕ) (x : List ℕ) (g : List ℕ → Value) → ValueIn hs x → AreDifferent hs → Hs hs g → Known c os (form_named hs x) (g x) (S base hs g ++ C hs g) (λ w. S base hs (changed g x w) ++ C hs (changed g x w)) (own_offset hs x) (λ w. Hs hs (changed g x w))
    frame_known hs base x g here ok fine = by (has_copy hs x) refl
      where
        r : Frame base hs x g
        r = in_frame hs base x g here ok

        by : (b : Bool) → has_copy hs x ≡ b → Known c os (form_named hs x) (g x) (S base hs g ++ C hs g) (λ w. S base hs (changed g x w) ++ C hs (changed g x w)) (if b then slots_words hs + copy_offset hs x else slot hs x) (λ w. Hs hs (changed g x w))
        by false e = record {
          part = part_same c os (form_named hs x) (g x) (g x) _ _ _ (λ w. S base hs (changed g x w) ++ C hs (changed g x w)) _ _ (part_behind c os (form_named hs x) (g x) (C hs g) _ _ _ (r.own e)) refl refl (λ w f. ap (λ l. S base hs (changed g x w) ++ l) (r.own_same e w)) refl;
          fine = r.fine fine;
          keeps = λ w n. r.keeps fine w n;
        }
        by true e = record {
          part = part_same c os (form_named hs x) (g x) (g x) _ _ _ (λ w. S base hs (changed g x w) ++ C hs (changed g x w)) _ _ (part_before c os (form_named hs x) (g x) (S base hs g) _ _ _ (r.copied e)) refl refl (λ w f. ap (λ l. l ++ C hs (changed g x w)) (r.copied_same e w)) (ap (λ n. n + copy_offset hs x) (slots-length hs base g));
          fine = r.fine fine;
          keeps = λ w n. r.keeps fine w n;
        }

  -- CALLS

  abbrev pub Cs : (ℕ → List ℕ → Value) → List Active → List ℤ
  Cs g cs = flat_calls c.program (has_of c) c.img os g cs

  abbrev pub CsFine : (ℕ → List ℕ → Value) → List Active → Type 0
  CsFine g cs = CallsFine c.program (has_of c) c.img os g cs

  abbrev pub Call : List Active → Active → (List ℕ → Value) → List ℤ
  Call cs a g = flat_call c.program (has_of c) c.img os cs a g

  pub all_words : (hs : List Held) → cost_of_all hs ≡ slots_words hs + copies_words hs
  all_words [] = refl
  all_words (Own x t ∷ hs) = let e = all_words hs in omega (arith, e)
  all_words (Referred x n t ∷ hs) = let e = all_words hs in omega (arith, e)
  all_words (Copied x n t ∷ hs) = let e = all_words hs in omega (arith, e)

  pub call-length : (cs : List Active) (a : Active) (g : List ℕ → Value) → length (Call cs a g) ≡ cost_of_all a.held
  call-length cs a g =
      let base = call_start c.program (has_of c) c.img cs + slots_words a.held in
      length-append (S cs a.places base a.held g) (C cs a.places a.held g) ∙ omega (arith, slots-length cs a.places a.held base g, copies-length cs a.places a.held g, all_words a.held)

  pub calls-length : (cs : List Active) (g : ℕ → List ℕ → Value) → length (Cs g cs) ≡ cost_of_calls cs
  calls-length [] g = refl
  calls-length (a ∷ cs) g = length-append (Cs g cs) (Call cs a (g (length cs))) ∙ omega (arith, calls-length cs g, call-length cs a (g (length cs)))

  at_other : (g : ℕ → List ℕ → Value) (k n : ℕ) (h : List ℕ → Value) → nat_eq k n ≡ false → changed_at g k h n ≡ g n
  at_other g k n h e = ap (λ b. if b then h else g n) (nat_sym n k ∙ e)

  at_own : (g : ℕ → List ℕ → Value) (k n : ℕ) (h : List ℕ → Value) → nat_eq k n ≡ true → changed_at g k h n ≡ h
  at_own g k n h e = ap (λ b. if b then h else g n) (nat_sym n k ∙ e)

  pub other_calls : (cs : List Active) (g : ℕ → List ℕ → Value) (k : ℕ) (h : List ℕ → Value) → length cs ≤ k → Cs (changed_at g k h) cs ≡ Cs g cs
  other_calls [] g k h le = refl
  other_calls (a ∷ cs) g k h le =
      let e : nat_eq k (length cs) ≡ false = grind (arith, nat_tests) in
      ap (λ l. l ++ Call cs a (changed_at g k h (length cs))) (other_calls cs g k h (omega arith)) ∙ ap (λ v. Cs g cs ++ Call cs a v) (at_other g k (length cs) h e)

  pub other_calls_fine : (cs : List Active) (g : ℕ → List ℕ → Value) (k : ℕ) (h : List ℕ → Value) → length cs ≤ k → CsFine g cs → CsFine (changed_at g k h) cs
  other_calls_fine [] g k h le fine = tt
  other_calls_fine (a ∷ cs) g k h le fine =
      let e : nat_eq k (length cs) ≡ false = grind (arith, nat_tests) in
      (other_calls_fine cs g k h (omega arith) fine.0, (fine.1.0, subst (λ v. Hs cs a.places a.held v) (sym (at_other g k (length cs) h e)) fine.1.1))

  pub call_known : (cs : List Active) (g : ℕ → List ℕ → Value) (k : ℕ) (x : List ℕ) → k < length cs → ValueIn (held_at cs k) x → CsFine g cs → Known c os (form_named (held_at cs k) x) (g k x) (Cs g cs) (λ w. Cs (changed_at g k (changed (g k) x w)) cs) (call_offset cs k + own_offset (held_at cs k) x) (λ w. CsFine (changed_at g k (changed (g k) x w)) cs)
  call_known [] g k x lt here fine = absurd (omega arith)
  call_known (a ∷ cs) g k x lt here fine = go (λ lt h. call_known cs g k x lt h fine.0) (nat_eq k (length cs)) refl here
    where
      new : Value → ℕ → List ℕ → Value
      new w = changed_at g k (changed (g k) x w)

      base : ℕ
      base = call_start c.program (has_of c) c.img cs + slots_words a.held

      go : (k < length cs → ValueIn (held_at cs k) x → Known c os (form_named (held_at cs k) x) (g k x) (Cs g cs) (λ w. Cs (new w) cs) (call_offset cs k + own_offset (held_at cs k) x) (λ w. CsFine (new w) cs)) → (b : Bool) → nat_eq k (length cs) ≡ b → ValueIn (if b then a.held else held_at cs k) x → Known c os (form_named (if b then a.held else held_at cs k) x) (g k x) (Cs g (a ∷ cs)) (λ w. Cs (new w) (a ∷ cs)) ((if b then cost_of_calls cs else call_offset cs k) + own_offset (if b then a.held else held_at cs k) x) (λ w. CsFine (new w) (a ∷ cs))
      go rest true e here =
          let same : k ≡ length cs = eqb-true k (length cs) e in
          let v = frame_known cs a.places a.held base x (g (length cs)) here fine.1.0 fine.1.1 in
          let top : (w : Value) → new w (length cs) ≡ changed (g (length cs)) x w = λ w. at_own g k (length cs) (changed (g k) x w) e ∙ ap (λ j. changed (g j) x w) same in
          record {
            part = part_same c os _ (g (length cs) x) (g k x) _ _ _ (λ w. Cs (new w) (a ∷ cs)) _ _
                (part_before c os _ _ (Cs g cs) (Call cs a (g (length cs))) (λ w. Call cs a (changed (g (length cs)) x w)) _ v.part)
                (ap (λ j. g j x) (sym same)) refl
                (λ w f. ap (λ l. l ++ Call cs a (new w (length cs))) (other_calls cs g k (changed (g k) x w) (omega arith)) ∙ ap (λ h. Cs g cs ++ Call cs a h) (top w))
                (ap (λ n. n + own_offset a.held x) (calls-length cs g));
            fine = subst (λ j. F c os (form_named a.held x) (g j x)) (sym same) v.fine;
            keeps = λ w n. (other_calls_fine cs g k (changed (g k) x w) (omega arith) fine.0, (fine.1.0, subst (λ h. Hs cs a.places a.held h) (sym (top w)) (v.keeps w n)));
          }
      go rest false e here =
          let lt2 : k < length cs = grind (arith, nat_tests) in
          let v = rest lt2 here in
          let top : (w : Value) → new w (length cs) ≡ g (length cs) = λ w. at_other g k (length cs) (changed (g k) x w) e in
          record {
            part = part_same c os _ (g k x) (g k x) _ _ _ (λ w. Cs (new w) (a ∷ cs)) _ _
                (part_behind c os _ _ (Call cs a (g (length cs))) (Cs g cs) (λ w. Cs (new w) cs) _ v.part)
                refl refl
                (λ w f. ap (λ h. Cs (new w) cs ++ Call cs a h) (top w))
                refl;
            fine = v.fine;
            keeps = λ w n. (v.keeps w n, (fine.1.0, subst (λ h. Hs cs a.places a.held h) (sym (top w)) fine.1.1));
          }

  -- OBJECTS

  abbrev pub Os : List AnObject → (ℕ → Value) → List ℤ
  Os xs g = flat_objects c.program (has_of c) c.img os xs g

  abbrev pub OsFine : List AnObject → (ℕ → Value) → Type 0
  OsFine xs g = ObjectsFine c.program (has_of c) c.img os xs g

  abbrev pub Ex : AnObject → List ℤ
  Ex x = extra c.program (has_of c) c.img x

  pub extra-length : (x : AnObject) → length (Ex x) ≡ extra_words x
  extra-length (Opened n t) = refl
  extra-length (Whole (BasicForm b)) = refl
  extra-length (Whole (PointerForm b)) = refl
  extra-length (Whole (ProcedureForm b)) = refl
  extra-length (Whole (ArrayForm n t)) = refl
  extra-length (Whole (OpenForm t)) = refl
  extra-length (Whole (RecordForm [] fs)) = refl
  extra-length (Whole (RecordForm (q ∷ line) fs)) = refl

  pub cost_is : (x : AnObject) → cost_of x ≡ extra_words x + words (object_form x)
  cost_is (Whole t) = omega arith
  cost_is (Opened n t) = omega arith

  pub objects-length : (xs : List AnObject) (g : ℕ → Value) → length (Os xs g) ≡ costs_of xs
  objects-length [] g = refl
  objects-length (x ∷ xs) g =
      length-append (Os xs g) (Ex x ++ W c os (object_form x) (g (length xs))) ∙ omega (arith, length-append (Ex x) (W c os (object_form x) (g (length xs))), extra-length x, flat-length c os (object_form x) (g (length xs)), objects-length xs g, cost_is x)

  object_other : (g : ℕ → Value) (k n : ℕ) (v : Value) → nat_eq k n ≡ false → changed_at g k v n ≡ g n
  object_other g k n v e = ap (λ b. if b then v else g n) (nat_sym n k ∙ e)

  object_own : (g : ℕ → Value) (k n : ℕ) (v : Value) → nat_eq k n ≡ true → changed_at g k v n ≡ v
  object_own g k n v e = ap (λ b. if b then v else g n) (nat_sym n k ∙ e)

  pub other_objects : (xs : List AnObject) (g : ℕ → Value) (n : ℕ) (w : Value) → length xs ≤ n → Os xs (changed_at g n w) ≡ Os xs g
  other_objects [] g n w le = refl
  other_objects (x ∷ xs) g n w le =
      let e : nat_eq n (length xs) ≡ false = grind (arith, nat_tests) in
      ap (λ l. l ++ (Ex x ++ W c os (object_form x) (changed_at g n w (length xs)))) (other_objects xs g n w (omega arith)) ∙ ap (λ v. Os xs g ++ (Ex x ++ W c os (object_form x) v)) (object_other g n (length xs) w e)

  pub other_objects_fine : (xs : List AnObject) (g : ℕ → Value) (n : ℕ) (w : Value) → length xs ≤ n → OsFine xs g → OsFine xs (changed_at g n w)
  other_objects_fine [] g n w le fine = tt
  other_objects_fine (x ∷ xs) g n w le fine =
      let e : nat_eq n (length xs) ≡ false = grind (arith, nat_tests) in
      (other_objects_fine xs g n w (omega arith) fine.0, (fine.1.0, subst (λ v. F c os (object_form x) v) (sym (object_other g n (length xs) w e)) fine.1.1))

  pub object_known : (xs : List AnObject) (g : ℕ → Value) (n : ℕ) → n < length xs → OsFine xs g → Known c os (object_at xs n) (g n) (Os xs g) (λ w. Os xs (changed_at g n w)) (object_offset xs n) (λ w. OsFine xs (changed_at g n w))
  object_known [] g n lt fine = absurd (omega arith)
  object_known (x ∷ xs) g n lt fine = go (λ lt. object_known xs g n lt fine.0) (nat_eq n (length xs)) refl
    where
      t : Form
      t = object_form x

      go : (n < length xs → Known c os (object_at xs n) (g n) (Os xs g) (λ w. Os xs (changed_at g n w)) (object_offset xs n) (λ w. OsFine xs (changed_at g n w))) → (b : Bool) → nat_eq n (length xs) ≡ b → Known c os (if b then t else object_at xs n) (g n) (Os (x ∷ xs) g) (λ w. Os (x ∷ xs) (changed_at g n w)) (if b then costs_of xs + extra_words x else object_offset xs n) (λ w. OsFine (x ∷ xs) (changed_at g n w))
      go rest true e =
          let same : n ≡ length xs = eqb-true n (length xs) e in
          let top : (w : Value) → changed_at g n w (length xs) ≡ w = λ w. object_own g n (length xs) w e in
          record {
            part = record {
              before = Os xs g ++ Ex x;
              behind = [];
              len = length-append (Os xs g) (Ex x) ∙ omega (arith, objects-length xs g, extra-length x);
              is = ap (λ j. Os xs g ++ (Ex x ++ W c os t (g j))) (sym same) ∙ simp (append_assoc, append-nil);
              will = λ w f. ap (λ l. l ++ (Ex x ++ W c os t (changed_at g n w (length xs)))) (other_objects xs g n w (omega arith)) ∙ ap (λ v. Os xs g ++ (Ex x ++ W c os t v)) (top w) ∙ simp (append_assoc, append-nil);
            };
            fine = subst (λ j. F c os t (g j)) (sym same) fine.1.1;
            keeps = λ w new. (other_objects_fine xs g n w (omega arith) fine.0, (fine.1.0, subst (λ v. F c os t v) (sym (top w)) new));
          }
      go rest false e =
          let lt2 : n < length xs = grind (arith, nat_tests) in
          let v = rest lt2 in
          let top : (w : Value) → changed_at g n w (length xs) ≡ g (length xs) = λ w. object_other g n (length xs) w e in
          record {
            part = part_same c os _ (g n) (g n) _ _ _ (λ w. Os (x ∷ xs) (changed_at g n w)) _ _
                (part_behind c os _ _ (Ex x ++ W c os t (g (length xs))) (Os xs g) (λ w. Os xs (changed_at g n w)) _ v.part)
                refl refl
                (λ w f. ap (λ v. Os xs (changed_at g n w) ++ (Ex x ++ W c os t v)) (top w))
                refl;
            fine = v.fine;
            keeps = λ w new. (v.keeps w new, (fine.1.0, subst (λ v. F c os t v) (sym (top w)) fine.1.1));
          }
