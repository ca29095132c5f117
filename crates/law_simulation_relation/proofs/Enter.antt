-- The words of a new call.
use Rattle.std.proofs.Common.{◌≡◌, ◌⊎◌, ⊎_elim, inl, inr, ℕ, suc, ◌+◌, ◌*◌, List, [], ◌∷◌, ◌++◌, length, refl, sym, ap, ◌∙◌, subst, arith, append_assoc}
use Rattle.std.specs.Prelude.{ℤ, pos, false, bytes_eq, if◌then◌else◌}
use Rattle.ob_types.specs.declared.typed.Passing.{Passing}
use Rattle.ob_types.specs.declared.typed.Passing.TheVariants as passing
use Rattle.ob_types.specs.declared.typed.TypedParameter.{TypedParameter}
use Rattle.ob_instr.specs.declared.procedure.Param.{Param}
use Rattle.ob_instr.specs.declared.procedure.Param.TheVariants as param
use Rattle.ob_instr.specs.Image.{World}
use Rattle.ob_meaning.specs.Values.{changed, value_at, State, Program, Form, BasicForm, PointerForm, ProcedureForm, ArrayForm, OpenForm, RecordForm, form_in, words, Value, first, Place, Held, Own, Referred, Copied, Active, AnObject, Store}
use Rattle.ob_meaning.specs.Results.{Passed, ByValue, ByPlace, ByText}
use Rattle.ob_meaning.specs.Calls.{element_form, held_parameter, held_parameters, with_parameters, passed_value, passed_place, first_values, places_for}
use Rattle.law_simulation_relation.specs.Layout.{held_name, slots_words, copies_words, address, place_form}
use Rattle.law_simulation_relation.specs.Relation.{Fresh, AreDifferent, FormOk, Scalar, PlaceOf, SlotsFit, CopySlots, word_of, second_word, pointing}
use Rattle.law_simulation_relation.specs.Texts.{text_words}
use Rattle.law_simulation_relation.specs.Typed.{AreCharacters, IsOpen, char}
use Rattle.law_simulation_relation.proofs.Names.{bytes_same, bytes_sym}
use Rattle.law_simulation_relation.proofs.Statements.{ParameterHeld, ParametersHeld, PlaceFits, LongPlaceFits, AlwaysAt, TextFits, LongTextFits, ArgumentFits, ArgumentsFit}
use Rattle.law_simulation_relation.proofs.Parts.{F, W, flat-length}
use Rattle.law_simulation_relation.proofs.Places.{S, C, Hs, referred, slots_fresh, copies_fresh, fresh_fine, changed_own}
use Rattle.law_simulation_relation.proofs.Firsts.{zeros, zeros_both, first_words, first_fine}
use Rattle.law_simulation_relation.proofs.Frames.{Alike, own, referred as referred_alike, copied, AllAlike}
use Rattle.ob_meaning.specs.Operators.{text_value}
use Rattle.law_simulation_relation.proofs.Copies.{Becomes, becomes_same, none_becomes, scalar_becomes, var_becomes, var_record_becomes, var_array_becomes, value_becomes, value_array_becomes}
use Rattle.law_simulation_relation.proofs.Sources.{front, back, room, CopyOf, structure_copy, open_copy, text_copy, text_small}
use Rattle.law_simulation_relation.specs.Linked.{KindIs, KindsAre, OneSlot, IsRecord, OwnFormsOk}
use Rattle.law_simulation_relation.specs.Setting.{Setting, StandIn, has_of}

place_other : (places : List ℕ → Place) (y x : List ℕ) (q : Place) → bytes_eq y x ≡ false → changed places y q x ≡ places x
place_other places y x q e = ap (λ b. if b then q else places x) (bytes_sym x y ∙ e)

-- NAMES

fresh_name : (x : List ℕ) (h k : Held) → Alike h k → bytes_eq x (held_name h) ≡ false → bytes_eq x (held_name k) ≡ false
fresh_name x _ _ (own y t) e = e
fresh_name x _ _ (referred_alike y n t) e = e
fresh_name x _ _ (copied y n t u) e = e

fresh_alike : (x : List ℕ) (hs ks : List Held) → AllAlike hs ks → Fresh x hs → Fresh x ks
fresh_alike x [] [] a f = tt
fresh_alike x [] (k ∷ ks) a f = absurd a
fresh_alike x (h ∷ hs) [] a f = absurd a
fresh_alike x (h ∷ hs) (k ∷ ks) a f = (fresh_name x h k a.0 f.0, fresh_alike x hs ks a.1 f.1)

same_head : (h k : Held) → Alike h k → held_name h ≡ held_name k
same_head _ _ (own y t) = refl
same_head _ _ (referred_alike y n t) = refl
same_head _ _ (copied y n t u) = refl

pub different_alike : (hs ks : List Held) → AllAlike hs ks → AreDifferent hs → AreDifferent ks
different_alike [] [] a d = tt
different_alike [] (k ∷ ks) a d = absurd a
different_alike (h ∷ hs) [] a d = absurd a
different_alike (h ∷ hs) (k ∷ ks) a d = (fresh_alike (held_name k) hs ks a.1 (subst (λ x. Fresh x hs) (same_head h k a.0) d.0), different_alike hs ks a.1 d.1)

fresh_front : (x : List ℕ) (hs ks : List Held) → Fresh x (hs ++ ks) → Fresh x hs
fresh_front x [] ks f = tt
fresh_front x (h ∷ hs) ks f = (f.0, fresh_front x hs ks f.1)

fresh_back : (x : List ℕ) (hs ks : List Held) → Fresh x (hs ++ ks) → Fresh x ks
fresh_back x [] ks f = f
fresh_back x (h ∷ hs) ks f = fresh_back x hs ks f.1

-- each of the first is fresh among the others
abbrev pub AllFresh : List Held → List Held → Type 0
AllFresh [] ks = Unit {0}
AllFresh (h ∷ hs) ks = Fresh (held_name h) ks × AllFresh hs ks

pub apart : (hs ks : List Held) → AreDifferent (hs ++ ks) → AreDifferent hs × (AreDifferent ks × AllFresh hs ks)
apart [] ks d = (tt, (d, tt))
apart (h ∷ hs) ks d = let r = apart hs ks d.1 in ((fresh_front (held_name h) hs ks d.0, r.0), (r.1.0, (fresh_back (held_name h) hs ks d.0, r.1.1)))

pub params_held : (program : Program) (ps : List TypedParameter) (g : Store) (xs : List Passed) → length xs ≡ length ps → ParametersHeld program ps (held_parameters program ps g xs)
params_held program [] g xs e = tt
params_held program (p ∷ ps) g [] e = absurd (omega (arith, e))
params_held program (p ∷ ps) g (x ∷ xs) e = (one p.passing refl, params_held program ps g xs (omega (arith, e)))
  where
    one : (how : Passing) → p.passing ≡ how → ParameterHeld program p (held_parameter p.name p.passing (form_in program p.of) g x)
    one passing.Scalar f = rw f refl
    one passing.Structure f = rw f refl
    one passing.OpenArray f = rw f (_, refl)
    one passing.Variable f = rw f refl
    one passing.VariableRecord f = rw f refl
    one passing.VariableOpenArray f = rw f refl

-- own variables alone
abbrev pub AllOwn : List Held → Type 0
AllOwn [] = Unit {0}
AllOwn (Own x t ∷ hs) = AllOwn hs
AllOwn (Referred x n t ∷ hs) = ⊥
AllOwn (Copied x n t ∷ hs) = ⊥

module _ (c : Setting) (os : List AnObject) (cs : List Active) where
  pub own_none : (places : List ℕ → Place) (hs : List Held) (g : List ℕ → Value) → AllOwn hs → C c os cs places hs g ≡ []
  own_none places [] g o = refl
  own_none places (Own x t ∷ hs) g o = own_none places hs g o
  own_none places (Referred x n t ∷ hs) g o = absurd o
  own_none places (Copied x n t ∷ hs) g o = absurd o

  pub slots_both : (places : List ℕ → Place) (base : ℕ) (hs ks : List Held) (g : List ℕ → Value) → S c os cs places base (hs ++ ks) g ≡ S c os cs places base hs g ++ S c os cs places (base + copies_words hs) ks g
  slots_both places base [] ks g = ap (λ b. S c os cs places b ks g) (omega arith)
  slots_both places base (Own x t ∷ hs) ks g = ap (λ l. W c os t (g x) ++ l) (slots_both places base hs ks g) ∙ sym (append_assoc (W c os t (g x)) _ _)
  slots_both places base (Referred x n t ∷ hs) ks g = ap (λ l. referred c os cs places x n ++ l) (slots_both places base hs ks g) ∙ sym (append_assoc (referred c os cs places x n) _ _)
  slots_both places base (Copied x n t ∷ hs) ks g =
      let e : base + words t + copies_words hs ≡ base + (words t + copies_words hs) = omega arith in
      ap (λ l. pointing c.program (has_of c) c.img n base t ++ l) (slots_both places (base + words t) hs ks g ∙ ap (λ b. S c os cs places (base + words t) hs g ++ S c os cs places b ks g) e) ∙ sym (append_assoc (pointing c.program (has_of c) c.img n base t) _ _)

  pub copies_both : (places : List ℕ → Place) (hs ks : List Held) (g : List ℕ → Value) → C c os cs places (hs ++ ks) g ≡ C c os cs places hs g ++ C c os cs places ks g
  copies_both places [] ks g = refl
  copies_both places (Own x t ∷ hs) ks g = copies_both places hs ks g
  copies_both places (Referred x n t ∷ hs) ks g = copies_both places hs ks g
  copies_both places (Copied x n t ∷ hs) ks g = ap (λ l. W c os t (g x) ++ l) (copies_both places hs ks g) ∙ sym (append_assoc (W c os t (g x)) _ _)

  pub fine_both : (places : List ℕ → Place) (hs ks : List Held) (g : List ℕ → Value) → Hs c os cs places hs g → Hs c os cs places ks g → Hs c os cs places (hs ++ ks) g
  fine_both places [] ks g f h = h
  fine_both places (Own x t ∷ hs) ks g f h = (f.0, (f.1.0, fine_both places hs ks g f.1.1 h))
  fine_both places (Referred x n t ∷ hs) ks g f h = (f.0, (f.1.0, fine_both places hs ks g f.1.1 h))
  fine_both places (Copied x n t ∷ hs) ks g f h = (f.0, (f.1.0, fine_both places hs ks g f.1.1 h))

  -- OWN VARIABLES begin as 0

  pub own_zero : (places : List ℕ → Place) (base : ℕ) (hs : List Held) → AllOwn hs → OwnFormsOk c.program hs → AreDifferent hs → S c os cs places base hs (first_values hs) ≡ zeros (slots_words hs)
  own_zero places base [] o f d = refl
  own_zero places base (Own x t ∷ hs) o f d =
      ap (λ v. W c os t v ++ S c os cs places base hs (changed (first_values hs) x (first t))) (changed_own (first_values hs) x x (first t) (bytes_same x))
      ∙ ap (λ l. W c os t (first t) ++ l) (slots_fresh c os cs places hs x base (first_values hs) (first t) d.0)
      ∙ ap (λ l. l ++ S c os cs places base hs (first_values hs)) (first_words c os t f.0) ∙ ap (λ l. zeros (words t) ++ l) (own_zero places base hs o f.1 d.1) ∙ zeros_both (words t) (slots_words hs)
  own_zero places base (Referred x n t ∷ hs) o f d = absurd o
  own_zero places base (Copied x n t ∷ hs) o f d = absurd o

  pub own_fine : (places : List ℕ → Place) (hs : List Held) → AllOwn hs → OwnFormsOk c.program hs → AreDifferent hs → Hs c os cs places hs (first_values hs)
  own_fine places [] o f d = tt
  own_fine places (Own x t ∷ hs) o f d = (f.0, (subst (λ v. F c os t v) (sym (changed_own (first_values hs) x x (first t) (bytes_same x))) (first_fine c os t f.0), fresh_fine c os cs places hs x (first_values hs) (first t) d.0 (own_fine places hs o f.1 d.1)))
  own_fine places (Referred x n t ∷ hs) o f d = absurd o
  own_fine places (Copied x n t ∷ hs) o f d = absurd o

  -- what stands before them changes nothing of them
  pub firsts_behind : (places : List ℕ → Place) (base : ℕ) (hs ks : List Held) → AllFresh hs ks → S c os cs places base ks (first_values (hs ++ ks)) ≡ S c os cs places base ks (first_values ks)
  firsts_behind places base [] ks a = refl
  firsts_behind places base (Own x t ∷ hs) ks a = slots_fresh c os cs places ks x base (first_values (hs ++ ks)) (first t) a.0 ∙ firsts_behind places base hs ks a.1
  firsts_behind places base (Referred x n t ∷ hs) ks a = firsts_behind places base hs ks a.1
  firsts_behind places base (Copied x n t ∷ hs) ks a = slots_fresh c os cs places ks x base (first_values (hs ++ ks)) (first t) a.0 ∙ firsts_behind places base hs ks a.1

  pub firsts_behind_fine : (places : List ℕ → Place) (hs ks : List Held) → AllFresh hs ks → Hs c os cs places ks (first_values ks) → Hs c os cs places ks (first_values (hs ++ ks))
  firsts_behind_fine places [] ks a f = f
  firsts_behind_fine places (Own x t ∷ hs) ks a f = fresh_fine c os cs places ks x (first_values (hs ++ ks)) (first t) a.0 (firsts_behind_fine places hs ks a.1 f)
  firsts_behind_fine places (Referred x n t ∷ hs) ks a f = firsts_behind_fine places hs ks a.1 f
  firsts_behind_fine places (Copied x n t ∷ hs) ks a f = fresh_fine c os cs places ks x (first_values (hs ++ ks)) (first t) a.0 (firsts_behind_fine places hs ks a.1 f)

  -- PARAMETERS

  places_fresh : (places : List ℕ → Place) (y : List ℕ) (q : Place) (base : ℕ) (hs : List Held) (g : List ℕ → Value) → Fresh y hs → S c os cs (changed places y q) base hs g ≡ S c os cs places base hs g
  places_fresh places y q base [] g f = refl
  places_fresh places y q base (Own x t ∷ hs) g f = ap (λ l. W c os t (g x) ++ l) (places_fresh places y q base hs g f.1)
  places_fresh places y q base (Referred x n t ∷ hs) g f =
      ap (λ z. rows_of n z ++ S c os cs (changed places y q) base hs g) (place_other places y x q f.0) ∙ ap (λ l. referred c os cs places x n ++ l) (places_fresh places y q base hs g f.1)
    where
      rows_of : ℕ → Place → List ℤ
      rows_of n z = pointing c.program (has_of c) c.img n (address c.program c.img os cs z) (place_form c.program c.img os cs z)
  places_fresh places y q base (Copied x n t ∷ hs) g f = ap (λ l. pointing c.program (has_of c) c.img n base t ++ l) (places_fresh places y q (base + words t) hs g f.1)

  places_fresh_fine : (places : List ℕ → Place) (y : List ℕ) (q : Place) (hs : List Held) (g : List ℕ → Value) → Fresh y hs → Hs c os cs places hs g → Hs c os cs (changed places y q) hs g
  places_fresh_fine places y q [] g f h = tt
  places_fresh_fine places y q (Own x t ∷ hs) g f h = (h.0, (h.1.0, places_fresh_fine places y q hs g f.1 h.1.1))
  places_fresh_fine places y q (Referred x n t ∷ hs) g f h = (h.0, (subst (λ z. PlaceOf c.program (has_of c) c.img os cs t z) (sym (place_other places y x q f.0)) h.1.0, places_fresh_fine places y q hs g f.1 h.1.1))
  places_fresh_fine places y q (Copied x n t ∷ hs) g f h = (h.0, (h.1.0, places_fresh_fine places y q hs g f.1 h.1.1))

  scalar_ok : (t : Form) → Scalar t → FormOk c.program t
  scalar_ok (BasicForm b) s = tt
  scalar_ok (PointerForm b) s = tt
  scalar_ok (ProcedureForm b) s = tt
  scalar_ok (ArrayForm n t) s = absurd s
  scalar_ok (OpenForm t) s = absurd s
  scalar_ok (RecordForm line fs) s = absurd s

  scalar_words : (t : Form) (v : Value) → Scalar t → W c os t v ≡ word_of c.program (has_of c) c.img os v ∷ []
  scalar_words (BasicForm b) v s = refl
  scalar_words (PointerForm b) v s = refl
  scalar_words (ProcedureForm b) v s = refl
  scalar_words (ArrayForm n t) v s = absurd s
  scalar_words (OpenForm t) v s = absurd s
  scalar_words (RecordForm line fs) v s = absurd s

  one_slot_fits : (t : Form) → OneSlot t → SlotsFit c.program (has_of c) c.img 1 t
  one_slot_fits (BasicForm b) s = refl
  one_slot_fits (PointerForm b) s = refl
  one_slot_fits (ProcedureForm b) s = refl
  one_slot_fits (ArrayForm n t) s = refl
  one_slot_fits (OpenForm t) s = absurd s
  one_slot_fits (RecordForm line fs) s = absurd s

  record_slots_fit : (t : Form) → IsRecord t → SlotsFit c.program (has_of c) c.img 2 t
  record_slots_fit (BasicForm b) s = absurd s
  record_slots_fit (PointerForm b) s = absurd s
  record_slots_fit (ProcedureForm b) s = absurd s
  record_slots_fit (ArrayForm n t) s = absurd s
  record_slots_fit (OpenForm t) s = absurd s
  record_slots_fit (RecordForm line fs) s = refl

  open_slots_fit : (t : Form) → IsOpen t → SlotsFit c.program (has_of c) c.img 2 t
  open_slots_fit (BasicForm b) s = absurd s
  open_slots_fit (PointerForm b) s = absurd s
  open_slots_fit (ProcedureForm b) s = absurd s
  open_slots_fit (ArrayForm n t) s = absurd s
  open_slots_fit (OpenForm t) s = refl
  open_slots_fit (RecordForm line fs) s = absurd s

-- what the machine makes of the words that are passed is what the variables hold
module _ (c : Setting) (cs : List Active) (s : State) (w : World) (st : StandIn c cs s w) where
  abbrev os : List AnObject
  os = s.made

  pub record Passes (hs : List Held) (places : List ℕ → Place) (g : List ℕ → Value) (ks : List Param) (ws : List ℤ) : Type 0 where
    pub becomes : Becomes (front c cs s w st) (back c cs s w st) (room c cs s w st) ks ws (λ base. S c os cs places base hs g) (C c os cs places hs g)
    pub fine : Hs c os cs places hs g

  slots_changed : (y : List ℕ) (v : Value) (q : Place) (hs : List Held) (places : List ℕ → Place) (g : List ℕ → Value) (base : ℕ) → Fresh y hs → S c os cs (changed places y q) base hs (changed g y v) ≡ S c os cs places base hs g
  slots_changed y v q hs places g base fresh = places_fresh c os cs places y q base hs (changed g y v) fresh ∙ slots_fresh c os cs places hs y base g v fresh

  fine_changed : (y : List ℕ) (v : Value) (q : Place) (hs : List Held) (places : List ℕ → Place) (g : List ℕ → Value) → Fresh y hs → Hs c os cs places hs g → Hs c os cs (changed places y q) hs (changed g y v)
  fine_changed y v q hs places g fresh fine = places_fresh_fine c os cs places y q hs (changed g y v) fresh (fresh_fine c os cs places hs y g v fresh fine)

  module _ (y : List ℕ) (t : Form) (v : Value) (q : Place) (hs : List Held) (places : List ℕ → Place) (g : List ℕ → Value) (ks : List Param) (ws : List ℤ) (fresh : Fresh y hs) (r : Passes hs places g ks ws) where
    abbrev word : ℤ
    word = word_of c.program (has_of c) c.img os v

    own_passes : Scalar t → F c os t v → Passes (Own y t ∷ hs) (changed places y q) (changed g y v) (param.Scalar ∷ ks) (word ∷ ws)
    own_passes sc fine = record {
      becomes = becomes_same (front c cs s w st) (back c cs s w st) (room c cs s w st) _ _ _ _ _ _ (scalar_becomes (front c cs s w st) (back c cs s w st) (room c cs s w st) ks ws _ _ r.becomes word)
          (λ base.
          ap (λ u. W c os t u ++ S c os cs (changed places y q) base hs (changed g y v)) (changed_own g y y v (bytes_same y))
          ∙ ap (λ l. l ++ S c os cs (changed places y q) base hs (changed g y v)) (scalar_words c os cs t v sc)
          ∙ ap (λ l. word ∷ l) (slots_changed y v q hs places g base fresh))
          (copies_fresh c os cs places hs y g v fresh);
      fine = (scalar_ok c os cs t sc, (subst (λ u. F c os t u) (sym (changed_own g y y v (bytes_same y))) fine, fine_changed y v q hs places g fresh r.fine));
    }

    -- a place is passed, with its tag or its length or without
    abbrev place_words : ℕ → List ℤ
    place_words n = pointing c.program (has_of c) c.img n (address c.program c.img os cs q) (place_form c.program c.img os cs q)

    same_place : changed places y q y ≡ q
    same_place = ap (λ b. if b then q else places y) (bytes_same y)

    slot_changed : (n base : ℕ) → S c os cs (changed places y q) base (Referred y n t ∷ hs) (changed g y v) ≡ place_words n ++ S c os cs places base hs g
    slot_changed n base = ap (λ z. pointing c.program (has_of c) c.img n (address c.program c.img os cs z) (place_form c.program c.img os cs z) ++ S c os cs (changed places y q) base hs (changed g y v)) same_place ∙ ap (λ l. place_words n ++ l) (slots_changed y v q hs places g base fresh)

    place_is_fine : (n : ℕ) → SlotsFit c.program (has_of c) c.img n t → PlaceOf c.program (has_of c) c.img os cs t q → Hs c os cs (changed places y q) (Referred y n t ∷ hs) (changed g y v)
    place_is_fine n fit fine = (fit, (subst (λ z. PlaceOf c.program (has_of c) c.img os cs t z) (sym same_place) fine, fine_changed y v q hs places g fresh r.fine))

    ref_passes : OneSlot t → PlaceOf c.program (has_of c) c.img os cs t q → Passes (Referred y 1 t ∷ hs) (changed places y q) (changed g y v) (param.Var ∷ ks) (pos (address c.program c.img os cs q) ∷ ws)
    ref_passes sc fine = record {
      becomes = becomes_same (front c cs s w st) (back c cs s w st) (room c cs s w st) _ _ _ _ _ _ (var_becomes (front c cs s w st) (back c cs s w st) (room c cs s w st) ks ws _ _ r.becomes (pos (address c.program c.img os cs q))) (slot_changed 1) (copies_fresh c os cs places hs y g v fresh);
      fine = place_is_fine 1 (one_slot_fits c os cs t sc) fine;
    }

    abbrev long_words : List ℤ
    long_words = pos (address c.program c.img os cs q) ∷ second_word c.program (has_of c) c.img (place_form c.program c.img os cs q) ∷ ws

    ref_record_passes : IsRecord t → PlaceOf c.program (has_of c) c.img os cs t q → Passes (Referred y 2 t ∷ hs) (changed places y q) (changed g y v) (param.VarRecord ∷ ks) long_words
    ref_record_passes sc fine = record {
      becomes = becomes_same (front c cs s w st) (back c cs s w st) (room c cs s w st) _ _ _ _ _ _ (var_record_becomes (front c cs s w st) (back c cs s w st) (room c cs s w st) ks ws _ _ r.becomes (pos (address c.program c.img os cs q)) (second_word c.program (has_of c) c.img (place_form c.program c.img os cs q))) (slot_changed 2) (copies_fresh c os cs places hs y g v fresh);
      fine = place_is_fine 2 (record_slots_fit c os cs t sc) fine;
    }

    ref_open_passes : IsOpen t → PlaceOf c.program (has_of c) c.img os cs t q → Passes (Referred y 2 t ∷ hs) (changed places y q) (changed g y v) (param.VarArray ∷ ks) long_words
    ref_open_passes sc fine = record {
      becomes = becomes_same (front c cs s w st) (back c cs s w st) (room c cs s w st) _ _ _ _ _ _ (var_array_becomes (front c cs s w st) (back c cs s w st) (room c cs s w st) ks ws _ _ r.becomes (pos (address c.program c.img os cs q)) (second_word c.program (has_of c) c.img (place_form c.program c.img os cs q))) (slot_changed 2) (copies_fresh c os cs places hs y g v fresh);
      fine = place_is_fine 2 (open_slots_fit c os cs t sc) fine;
    }

    -- a copy is made of what stands at an address
    copy_changed : C c os cs (changed places y q) (Copied y 1 t ∷ hs) (changed g y v) ≡ W c os t v ++ C c os cs places hs g
    copy_changed = ap (λ u. W c os t u ++ C c os cs places hs (changed g y v)) (changed_own g y y v (bytes_same y)) ∙ ap (λ l. W c os t v ++ l) (copies_fresh c os cs places hs y g v fresh)

    copy_is_fine : (n : ℕ) → FormOk c.program t → CopySlots c.program (has_of c) c.img n → F c os t v → Hs c os cs (changed places y q) (Copied y n t ∷ hs) (changed g y v)
    copy_is_fine n ok few fine = ((ok, few), (subst (λ u. F c os t u) (sym (changed_own g y y v (bytes_same y))) fine, fine_changed y v q hs places g fresh r.fine))

    copied_passes : (a : ℕ) → FormOk c.program t → CopyOf c cs s w st t a v → Passes (Copied y 1 t ∷ hs) (changed places y q) (changed g y v) (param.Value (words t) ∷ ks) (pos a ∷ ws)
    copied_passes a ok copy = record {
      becomes = becomes_same (front c cs s w st) (back c cs s w st) (room c cs s w st) _ _ _ _ _ _
          (value_becomes (front c cs s w st) (back c cs s w st) (room c cs s w st) ks ws _ _ r.becomes a (W c os t v) (words t) copy.source (sym (flat-length c os t v)) st.stack_free refl)
          (λ base. ap (λ l. pos base ∷ l) (slots_changed y v q hs places g (base + words t) fresh))
          copy_changed;
      fine = copy_is_fine 1 ok (inl refl) copy.fine;
    }

  copied_open_passes : (y : List ℕ) (u : Form) (n : ℕ) (v : Value) (q : Place) (hs : List Held) (places : List ℕ → Place) (g : List ℕ → Value) (ks : List Param) (ws : List ℤ) → Fresh y hs → Passes hs places g ks ws → (a : ℕ) → FormOk c.program (ArrayForm n u) → CopyOf c cs s w st (ArrayForm n u) a v → Passes (Copied y 2 (ArrayForm n u) ∷ hs) (changed places y q) (changed g y v) (param.ValueArray (words u) ∷ ks) (pos a ∷ pos n ∷ ws)
  copied_open_passes y u n v q hs places g ks ws fresh r a ok copy = record {
    becomes = becomes_same (front c cs s w st) (back c cs s w st) (room c cs s w st) _ _ _ _ _ _
        (value_array_becomes (front c cs s w st) (back c cs s w st) (room c cs s w st) ks ws _ _ r.becomes a (W c os (ArrayForm n u) v) n (words u) copy.source (sym (flat-length c os (ArrayForm n u) v)) st.stack_free refl)
        (λ base. ap (λ l. pos base ∷ pos n ∷ l) (slots_changed y v q hs places g (base + n * words u) fresh))
        (copy_changed y (ArrayForm n u) v q hs places g ks ws fresh r);
    fine = copy_is_fine y (ArrayForm n u) v q hs places g ks ws fresh r 2 ok (inr refl) copy.fine;
  }

  one_passes : (g : List ℕ → Value) (p : TypedParameter) (k : Param) (x : Passed) (hs : List Held) (places : List ℕ → Place) (ks : List Param) (vs us : List ℤ) → KindIs c.program p.passing (form_in c.program p.of) k → ArgumentFits c os cs p x vs → Fresh (held_name (held_parameter p.name p.passing (form_in c.program p.of) s.store x)) hs → Passes hs places g ks us → Passes (held_parameter p.name p.passing (form_in c.program p.of) s.store x ∷ hs) (changed places p.name (passed_place x)) (changed g p.name (passed_value c.program (form_in c.program p.of) s.store x)) (k ∷ ks) (vs ++ us)
  one_passes g p k x hs places ks vs us kind f fresh r = by p.passing refl
    where
      t : Form
      t = form_in c.program p.of

      Goal : Passing → Form → Passed → List ℤ → Param → Type 0
      Goal how t x vs k = Passes (held_parameter p.name how t s.store x ∷ hs) (changed places p.name (passed_place x)) (changed g p.name (passed_value c.program t s.store x)) (k ∷ ks) (vs ++ us)

      -- the same under other names
      so : (how : Passing) (x2 : Passed) (vs2 : List ℤ) (k2 : Param) → p.passing ≡ how → x ≡ x2 → vs ≡ vs2 → k ≡ k2 → Goal how t x2 vs2 k2 → Goal p.passing t x vs k
      so how x2 vs2 k2 e e2 e3 e4 h = subst (λ how. Goal how t x vs k) (sym e) (subst (λ x. Goal how t x vs k) (sym e2) (subst (λ vs. Goal how t x2 vs k) (sym e3) (subst (λ k. Goal how t x2 vs2 k) (sym e4) h)))

      by : (how : Passing) → p.passing ≡ how → Goal p.passing t x vs k
      by passing.Scalar e =
          let i : (k ≡ param.Scalar) × Scalar t = rw e at kind in
          let h : (v : Value) × (x ≡ ByValue v) × (vs ≡ word_of c.program (has_of c) c.img os v ∷ []) × Scalar t × F c os t v = rw e at f in
          let fr : Fresh p.name hs = rw e at fresh in
          so passing.Scalar (ByValue h.0) _ param.Scalar e h.1 h.2 i.0 (own_passes p.name t h.0 _ hs places g ks us fr r h.3 h.4)
      by passing.Variable e =
          let i : (k ≡ param.Var) × OneSlot t = rw e at kind in
          let h : PlaceFits c os cs t x vs = rw e at f in
          let fr : Fresh p.name hs = rw e at fresh in
          so passing.Variable (ByPlace h.0) _ param.Var e h.1 h.2 i.0 (ref_passes p.name t _ h.0 hs places g ks us fr r i.1 h.3)
      by passing.VariableRecord e =
          let i : (k ≡ param.VarRecord) × IsRecord t = rw e at kind in
          let h : LongPlaceFits c os cs t x vs = rw e at f in
          let fr : Fresh p.name hs = rw e at fresh in
          so passing.VariableRecord (ByPlace h.0) _ param.VarRecord e h.1 h.2 i.0 (ref_record_passes p.name t _ h.0 hs places g ks us fr r i.1 h.3)
      by passing.VariableOpenArray e =
          let i : (k ≡ param.VarArray) × IsOpen t = rw e at kind in
          let h : LongPlaceFits c os cs t x vs = rw e at f in
          let fr : Fresh p.name hs = rw e at fresh in
          so passing.VariableOpenArray (ByPlace h.0) _ param.VarArray e h.1 h.2 i.0 (ref_open_passes p.name t _ h.0 hs places g ks us fr r i.1 h.3)
      by passing.Structure e =
          let i : (k ≡ param.Value (words t)) × FormOk c.program t = rw e at kind in
          let h : PlaceFits c os cs t x vs ⊎ TextFits c t x vs = rw e at f in
          let fr : Fresh p.name hs = rw e at fresh in
          ⊎_elim
          (λ h. so passing.Structure (ByPlace h.0) _ (param.Value (words t)) e h.1 h.2 i.0 (copied_passes p.name t _ h.0 hs places g ks us fr r _ i.1 (structure_copy c cs s w st t h.0 i.1 h.3)))
          (λ h. so passing.Structure (ByText h.0) _ (param.Value (words t)) e h.3 h.4 i.0 (string fr h.0 h.1 h.2 i.1 h.5 h.6 h.7))
          h
        where
          string : Fresh p.name hs → (text : List ℕ) (a n : ℕ) → FormOk c.program t → t ≡ ArrayForm n char → AreCharacters text → AlwaysAt c a (text_words text n) → Goal passing.Structure t (ByText text) (pos a ∷ []) (param.Value (words t))
          string fr text a n ok e chars h = subst (λ t. Goal passing.Structure t (ByText text) (pos a ∷ []) (param.Value (words t))) (sym e) (copied_passes p.name (ArrayForm n char) _ _ hs places g ks us fr r a (subst (λ t. FormOk c.program t) e ok) (text_copy c cs s w st text n a chars h))
      by passing.OpenArray e =
          let i : (u : Form) × (t ≡ OpenForm u) × (k ≡ param.ValueArray (words u)) = rw e at kind in
          let h : LongPlaceFits c os cs t x vs ⊎ LongTextFits c t x vs = rw e at f in
          let fr : Fresh p.name hs = rw e at fresh in
          ⊎_elim
          (λ h. so passing.OpenArray (ByPlace h.0) _ (param.ValueArray (words i.0)) e h.1 h.2 i.2 (array fr i.0 i.1 h.0 h.3))
          (λ h. so passing.OpenArray (ByText h.0) _ (param.ValueArray (words i.0)) e h.2 h.3 i.2 (string fr i.0 i.1 h.0 h.1 h.4 h.5 h.6))
          h
        where
          array : Fresh p.name hs → (u : Form) → t ≡ OpenForm u → (q : Place) → PlaceOf c.program (has_of c) c.img os cs t q → Goal passing.OpenArray t (ByPlace q) (pos (address c.program c.img os cs q) ∷ second_word c.program (has_of c) c.img (place_form c.program c.img os cs q) ∷ []) (param.ValueArray (words u))
          array fr u e q h =
              let o = open_copy c cs s w st u q (subst (λ t. PlaceOf c.program (has_of c) c.img os cs t q) e h) in
              subst (λ t. Goal passing.OpenArray t (ByPlace q) (pos (address c.program c.img os cs q) ∷ second_word c.program (has_of c) c.img (place_form c.program c.img os cs q) ∷ []) (param.ValueArray (words u))) (sym e)
              (subst (λ z. Goal passing.OpenArray (OpenForm u) (ByPlace q) (pos (address c.program c.img os cs q) ∷ z ∷ []) (param.ValueArray (words u))) (sym (ap (second_word c.program (has_of c) c.img) o.form))
              (subst (λ m. Passes (Copied p.name 2 (ArrayForm m u) ∷ hs) (changed places p.name q) (changed g p.name (value_at s.store q)) (param.ValueArray (words u) ∷ ks) (pos (address c.program c.img os cs q) ∷ pos o.n ∷ us)) (sym o.len)
              (copied_open_passes p.name u o.n (value_at s.store q) q hs places g ks us fr r _ o.ok o.copy)))

          string : Fresh p.name hs → (u : Form) → t ≡ OpenForm u → (text : List ℕ) (a : ℕ) → t ≡ OpenForm char → AreCharacters text → AlwaysAt c a (text_words text (suc (length text))) → Goal passing.OpenArray t (ByText text) (pos a ∷ pos (suc (length text)) ∷ []) (param.ValueArray (words u))
          string fr u e text a e2 chars h =
              let same : char ≡ u = ap element_form (sym e2 ∙ e) in
              subst (λ t. Goal passing.OpenArray t (ByText text) (pos a ∷ pos (suc (length text)) ∷ []) (param.ValueArray (words u))) (sym e2)
              (subst (λ u. Goal passing.OpenArray (OpenForm char) (ByText text) (pos a ∷ pos (suc (length text)) ∷ []) (param.ValueArray (words u))) same
              (copied_open_passes p.name char (suc (length text)) (text_value (suc (length text)) text) _ hs places g ks us fr r a ((omega arith, text_small c cs s w st text (suc (length text)) a h), tt) (text_copy c cs s w st text (suc (length text)) a chars h)))

  pub passes : (g0 : List ℕ → Value) (ps : List TypedParameter) (ks : List Param) (xs : List Passed) (ws : List ℤ) → KindsAre c.program ps ks → ArgumentsFit c os cs ps xs ws → AreDifferent (held_parameters c.program ps s.store xs) → Passes (held_parameters c.program ps s.store xs) (places_for ps xs) (with_parameters c.program ps s.store xs g0) ks ws
  passes g0 [] [] [] ws k f d = record { becomes = subst (λ ws. Becomes (front c cs s w st) (back c cs s w st) (room c cs s w st) [] ws (λ base. []) []) (sym f) (none_becomes (front c cs s w st) (back c cs s w st) (room c cs s w st)); fine = tt }
  passes g0 [] [] (x ∷ xs) ws k f d = absurd f
  passes g0 [] (y ∷ ks) xs ws k f d = absurd k
  passes g0 (p ∷ ps) [] xs ws k f d = absurd k
  passes g0 (p ∷ ps) (y ∷ ks) [] ws k f d = absurd f
  passes g0 (p ∷ ps) (y ∷ ks) (x ∷ xs) ws k f d =
      subst (λ ws. Passes (held_parameters c.program (p ∷ ps) s.store (x ∷ xs)) (places_for (p ∷ ps) (x ∷ xs)) (with_parameters c.program (p ∷ ps) s.store (x ∷ xs) g0) (y ∷ ks) ws) (sym f.2)
      (one_passes (with_parameters c.program ps s.store xs g0) p y x (held_parameters c.program ps s.store xs) (places_for ps xs) ks f.0 f.1 k.0 f.3 d.0 (passes g0 ps ks xs f.1 k.1 f.4 d.1))
