-- The code of parameters that their slots have by address gives their places.
use Rattle.std.proofs.Common.{◌≡◌, ℕ, suc, ◌+◌, ◌≤◌, List, [], ◌∷◌, length, Some, ℤ, sym, ap, ◌∙◌, subst, arith, refl}
use Rattle.std.specs.Prelude.{pos, Bool, true, false, bytes_eq, if◌then◌else◌}
use Rattle.ob_mem.specs.Words.{word_at}
use Rattle.ob_types.specs.declared.types.TypeRef.{TypeRef}
use Rattle.ob_types.specs.declared.typed.Passing.TheVariants as passing
use Rattle.ob_types.specs.declared.typed.Variable.TheVariants as variable
use Rattle.ob_types.specs.declared.typed.Variable.{Variable}
use Rattle.ob_types.specs.TypedSyntax.{OfVariable}
use Rattle.ob_instr.specs.declared.opcode.Opcode.TheVariants as op
use Rattle.ob_instr.specs.Image.{World}
use Rattle.ob_instr.proofs.Goes as rows
use Rattle.ob_meaning.specs.Values.{Form, BasicForm, PointerForm, ProcedureForm, ArrayForm, OpenForm, RecordForm, form_in, Value, OfModule, OfCall, Place, At, Held, Own, Referred, Copied, State, AnObject}
use Rattle.ob_meaning.specs.Results.{Gives, Caller}
use Rattle.ob_meaning.specs.Meaning.{place_of}
use Rattle.ob_meaning.specs.Calls.{element_form}
use Rattle.law_simulation_relation.specs.Layout.{slot, form_named, static_held, place_form, address}
use Rattle.law_simulation_relation.specs.Relation.{OrElse, FormOk, Sub, itself, opened, PlaceIn, PlaceOf, SlotsFit, HeldFine, second_word}
use Rattle.law_simulation_relation.specs.Plain.{Plain}
use Rattle.law_simulation_relation.specs.Typed.{As, IsOwn, IsReferred, IsCopied, IsOpen}
use Rattle.law_simulation_relation.specs.Stands as code
use Rattle.law_simulation_relation.proofs.Steps.{Reach, then_reach, Follows, follows_value}
use Rattle.law_simulation_relation.proofs.Statements.{Activation, scope, go, fb, K, PlaceTo, LongTo, PlaceKept, PlaceFollows, OpenArrayFollows}
use Rattle.law_simulation_relation.proofs.Slots.{ref_load}
use Rattle.law_simulation_relation.proofs.Frames.{own_fixed, referred_fixed, call_alike, same_alike, address_up, form_up, own_place, own_form, ref_place}
use Rattle.law_simulation_relation.proofs.Copied.{copy_held, copy_value, copy_load, copy_second_load, referred_second_load}
use Rattle.law_simulation_relation.proofs.Moves.{goes, small_word, all_length}
use Rattle.law_simulation_relation.proofs.Variables.{VariableOk, got_within, own_of, ref_of, static_slot}
use Rattle.law_simulation_relation.proofs.Sources.{place_ok}
use Rattle.law_simulation_relation.specs.Setting.{Setting, StandIn, has_of}

open_is : (t : Form) → IsOpen t → t ≡ OpenForm (element_form t)
open_is (BasicForm b) h = absurd h
open_is (PointerForm b) h = absurd h
open_is (ProcedureForm b) h = absurd h
open_is (ArrayForm n t) h = absurd h
open_is (OpenForm t) h = refl
open_is (RecordForm line fs) h = absurd h

module _ (c : Setting) (a : Activation c) where
  abbrev copy_place : List ℕ → Place
  copy_place x = At (OfCall (length a.cs) x) []

  module _ (s : State) (w : World) (st : StandIn c (K c a) s w) where
    -- a word in a slot
    slot_goes : (k : ℕ) (v : ℤ) (pc : ℕ) (ops : List ℤ) → length ops + 1 ≤ 256 → word_at w.words (pos (fb c a + k)) ≡ Some v → code.Has (scope c a) pc (code.with_a op.Local k) → code.Has (scope c a) (suc pc) (code.plain op.Load) → Reach c (go c a pc ops w) (go c a (suc (suc pc)) (v ∷ ops) w)
    slot_goes k v pc ops le load has has2 =
        let within = got_within w.words (fb c a + k) v load in
        let all = all_length c (K c a) s w st in
        let small = small_word c (fb c a + k) (omega (arith, within, all)) in
        then_reach c (goes c a _ w has (rows.local_next c.img a.u a.m a.p (fb c a) pc w k ops small) (omega (arith, le)))
        (goes c a _ w has2 (rows.load_next c.img a.u a.m a.p (fb c a) (suc pc) w (pos (fb c a + k)) v ops load) (omega (arith, le)))

    -- COPIES

    copy_first : (k : ℕ) (x : List ℕ) (pc : ℕ) (ops : List ℤ) → length ops + 1 ≤ 256 → code.Has (scope c a) pc (code.with_a op.Local (slot (static_held c.program a.procedure) x)) → code.Has (scope c a) (suc pc) (code.plain op.Load) → As (IsCopied (suc k)) (static_held c.program a.procedure) x → Reach c (go c a pc ops w) (go c a (suc (suc pc)) (pos (address c.program c.img s.made (K c a) (copy_place x)) ∷ ops) w)
    copy_first k x pc ops le has has2 h =
        let i = copy_held c.program a.procedure a.active (suc k) x a.call h in
        slot_goes (slot (static_held c.program a.procedure) x) _ pc ops le (ap (λ k. word_at w.words (pos (fb c a + k))) (static_slot c a s w st x) ∙ copy_load c a.active a.cs s w k x st i.as_it) has has2

    copy_length : (k : ℕ) (x : List ℕ) (pc : ℕ) (ops : List ℤ) → length ops + 1 ≤ 256 → code.SecondCode (scope c a) x pc → As (IsCopied (suc (suc k))) (static_held c.program a.procedure) x → Reach c (go c a pc ops w) (go c a (suc (suc pc)) (second_word c.program (has_of c) c.img (place_form c.program c.img s.made (K c a) (copy_place x)) ∷ ops) w)
    copy_length k x pc ops le has h =
        let i = copy_held c.program a.procedure a.active (suc (suc k)) x a.call h in
        slot_goes (suc (slot (static_held c.program a.procedure) x)) _ pc ops le (ap (λ k. word_at w.words (pos (fb c a + suc k))) (static_slot c a s w st x) ∙ copy_second_load c a.active a.cs s w k x st i.as_it ∙ ap (λ u. Some (second_word c.program (has_of c) c.img u)) (sym (own_form c s.made a.cs a.active x))) has.0 has.1

    structure_of : (x : List ℕ) (t : Form) → As (IsCopied 1) (static_held c.program a.procedure) x → form_named (static_held c.program a.procedure) x ≡ t → PlaceOf c.program (has_of c) c.img s.made (K c a) t (copy_place x)
    structure_of x t h e =
        let i = copy_held c.program a.procedure a.active 1 x a.call h in
        (own_place c s.made a.cs a.active x (copy_value 1 a.active.held x i.as_it), subst (λ u. Sub u t) (sym (own_form c s.made a.cs a.active x ∙ i.form ∙ e)) itself)

    array_of : (x : List ℕ) (t u : Form) → As (IsCopied 2) (static_held c.program a.procedure) x → form_named (static_held c.program a.procedure) x ≡ t → t ≡ OpenForm u → PlaceOf c.program (has_of c) c.img s.made (K c a) t (copy_place x)
    array_of x t u h e f =
        let i = copy_held c.program a.procedure a.active 2 x a.call h in
        let form : place_form c.program c.img s.made (K c a) (copy_place x) ≡ ArrayForm i.form.0 u = own_form c s.made a.cs a.active x ∙ i.form.1 ∙ ap (λ t. ArrayForm i.form.0 (element_form t)) (e ∙ f) in
        (own_place c s.made a.cs a.active x (copy_value 2 a.active.held x i.as_it), subst (λ t. Sub (place_form c.program c.img s.made (K c a) (copy_place x)) t) (sym f) (subst (λ z. Sub z (OpenForm u)) (sym form) (opened i.form.0)))

    -- BY VAR

    referred_first : (k : ℕ) (x : List ℕ) (pc : ℕ) (ops : List ℤ) → length ops + 1 ≤ 256 → code.Has (scope c a) pc (code.with_a op.Local (slot (static_held c.program a.procedure) x)) → code.Has (scope c a) (suc pc) (code.plain op.Load) → As (IsReferred (suc k)) (static_held c.program a.procedure) x → Reach c (go c a pc ops w) (go c a (suc (suc pc)) (pos (address c.program c.img s.made (K c a) (a.active.places x)) ∷ ops) w)
    referred_first k x pc ops le has has2 h =
        let i = same_alike (IsReferred (suc k)) (referred_fixed (suc k)) _ _ x (call_alike c.program a.procedure a.active a.call) h in
        let r = ref_place c s.made a.cs a.active.places a.active.held (suc k) x (s.store.locals (length a.cs)) i.as_it st.calls_fine.1.1 in
        slot_goes (slot (static_held c.program a.procedure) x) _ pc ops le (ap (λ k. word_at w.words (pos (fb c a + k))) (static_slot c a s w st x) ∙ ref_load c a.active a.cs s w k x st i.as_it ∙ ap (λ n. Some (pos n)) (sym (address_up c s.made a.cs a.active (a.active.places x) r.0))) has has2

    referred_second : (k : ℕ) (x : List ℕ) (pc : ℕ) (ops : List ℤ) → length ops + 1 ≤ 256 → code.SecondCode (scope c a) x pc → As (IsReferred (suc (suc k))) (static_held c.program a.procedure) x → Reach c (go c a pc ops w) (go c a (suc (suc pc)) (second_word c.program (has_of c) c.img (place_form c.program c.img s.made (K c a) (a.active.places x)) ∷ ops) w)
    referred_second k x pc ops le has h =
        let i = same_alike (IsReferred (suc (suc k))) (referred_fixed (suc (suc k))) _ _ x (call_alike c.program a.procedure a.active a.call) h in
        let r = ref_place c s.made a.cs a.active.places a.active.held (suc (suc k)) x (s.store.locals (length a.cs)) i.as_it st.calls_fine.1.1 in
        slot_goes (suc (slot (static_held c.program a.procedure) x)) _ pc ops le (ap (λ k. word_at w.words (pos (fb c a + suc k))) (static_slot c a s w st x) ∙ referred_second_load c a.active a.cs s w k x st i.as_it ∙ ap (λ u. Some (second_word c.program (has_of c) c.img u)) (sym (form_up c s.made a.cs a.active (a.active.places x) r.0))) has.0 has.1

    -- VARIABLES THAT ARE NO OPEN ARRAYS

    not_open : (p : Place) (t u : Form) → PlaceIn c.program (has_of c) c.img s.made (K c a) p → place_form c.program c.img s.made (K c a) p ≡ t → t ≡ OpenForm u → ⊥
    not_open p t u here e f = subst (FormOk c.program) (e ∙ f) (place_ok c (K c a) s w st p here)

    ref_fits : (places : List ℕ → Place) (hs : List Held) (k : ℕ) (x : List ℕ) (g : List ℕ → Value) → As (IsReferred k) hs x → HeldFine c.program (has_of c) c.img s.made a.cs places hs g → SlotsFit c.program (has_of c) c.img k (form_named hs x)
    ref_fits places [] k x g here fine = absurd here
    ref_fits places (Own y t ∷ hs) k x g here fine = go (bytes_eq x y) here (λ h. ref_fits places hs k x g h fine.1.1)
      where
        go : (b : Bool) → OrElse b ⊥ (As (IsReferred k) hs x) → (As (IsReferred k) hs x → SlotsFit c.program (has_of c) c.img k (form_named hs x)) → SlotsFit c.program (has_of c) c.img k (if b then t else form_named hs x)
        go true h r = absurd h
        go false h r = r h
    ref_fits places (Copied y n t ∷ hs) k x g here fine = go (bytes_eq x y) here (λ h. ref_fits places hs k x g h fine.1.1)
      where
        go : (b : Bool) → OrElse b ⊥ (As (IsReferred k) hs x) → (As (IsReferred k) hs x → SlotsFit c.program (has_of c) c.img k (form_named hs x)) → SlotsFit c.program (has_of c) c.img k (if b then t else form_named hs x)
        go true h r = absurd h
        go false h r = r h
    ref_fits places (Referred y n t ∷ hs) k x g here fine = go (bytes_eq x y) here (λ h. ref_fits places hs k x g h fine.1.1)
      where
        go : (b : Bool) → OrElse b (n ≡ k) (As (IsReferred k) hs x) → (As (IsReferred k) hs x → SlotsFit c.program (has_of c) c.img k (form_named hs x)) → SlotsFit c.program (has_of c) c.img k (if b then t else form_named hs x)
        go true h r = subst (λ k. SlotsFit c.program (has_of c) c.img k t) h fine.0
        go false h r = r h

    closed_own : (x : List ℕ) (t u : Form) → As IsOwn (static_held c.program a.procedure) x → form_named (static_held c.program a.procedure) x ≡ t → t ≡ OpenForm u → ⊥
    closed_own x t u h e f =
        let k = same_alike IsOwn own_fixed _ _ x (call_alike c.program a.procedure a.active a.call) h in
        not_open (copy_place x) t u (own_of c a s w st x t h e).0 (own_form c s.made a.cs a.active x ∙ k.form ∙ e) f

    closed : (v : Variable) (t u : Form) → Plain v → VariableOk c a v t → t ≡ OpenForm u → ⊥
    closed (variable.Module m x) t u pl ok f = not_open (At (OfModule m x) []) t u (ok.0, tt) ok.1 f
    closed (variable.Local x) t u pl ok f = closed_own x t u ok.0 ok.1 f
    closed (variable.Parameter passing.Scalar x) t u pl ok f = closed_own x t u ok.0 ok.1 f
    closed (variable.Parameter passing.Variable x) t u pl ok f =
        let k = same_alike (IsReferred 1) (referred_fixed 1) _ _ x (call_alike c.program a.procedure a.active a.call) ok.0 in
        let fit = ref_fits a.active.places a.active.held 1 x (s.store.locals (length a.cs)) k.as_it st.calls_fine.1.1 in
        let two : 1 ≡ 2 = subst (SlotsFit c.program (has_of c) c.img 1) (k.form ∙ ok.1 ∙ f) fit in
        absurd (omega (arith, two))
    closed (variable.Parameter passing.Structure x) t u pl ok f = absurd pl
    closed (variable.Parameter passing.OpenArray x) t u pl ok f = absurd pl
    closed (variable.Parameter passing.VariableRecord x) t u pl ok f = absurd pl
    closed (variable.Parameter passing.VariableOpenArray x) t u pl ok f = absurd pl

    closed_structure : (x : List ℕ) (t u : Form) → As (IsCopied 1) (static_held c.program a.procedure) x → form_named (static_held c.program a.procedure) x ≡ t → t ≡ OpenForm u → ⊥
    closed_structure x t u h e f =
        let i = copy_held c.program a.procedure a.active 1 x a.call h in
        not_open (copy_place x) t u (structure_of x t h e).0 (own_form c s.made a.cs a.active x ∙ i.form ∙ e) f

module _ (c : Setting) (a : Activation c) (n : ℕ) (call : Caller) (b : ℕ) where
  abbrev PKept : Form → List AnObject → Place → State → World → Type 0
  PKept t os p s w = PlaceKept c a n call b t os p s w

  -- records and arrays by value
  pub structure_parameter_case : (x : List ℕ) (t : TypeRef) → PlaceFollows c a n call b (OfVariable (variable.Parameter passing.Structure x) t)
  structure_parameter_case x t pc at ops os s w le has ok st =
      subst (λ k. Follows c (go c a pc ops w) (PlaceTo c a n call b (suc (suc pc)) ops) (PKept (form_in c.program t) os) (Gives (place_of (variable.Parameter passing.Structure x) k) s)) (sym st.calls)
      (follows_value c w (copy_first c a s w st.all 0 x pc ops le has.0 has.1 ok.0.0) (structure_of c a s w st.all x (form_in c.program t) ok.0.0 ok.0.1, st))

  -- open arrays by value, by address and length
  pub open_parameter_case : (x : List ℕ) (t : TypeRef) → OpenArrayFollows c a n call b (OfVariable (variable.Parameter passing.OpenArray x) t)
  open_parameter_case x t u pc at ops os s w le has ok is st =
      subst (λ k. Follows c (go c a pc ops w) (LongTo c a n call b (suc (suc (suc (suc pc)))) ops) (PKept (form_in c.program t) os) (Gives (place_of (variable.Parameter passing.OpenArray x) k) s)) (sym st.calls)
      (follows_value c w
      (then_reach c (copy_first c a s w st.all 1 x pc ops (omega (arith, le)) has.0.0 has.0.1 ok.0.0.0) (copy_length c a s w st.all 0 x (suc (suc pc)) _ (omega (arith, le)) has.1 ok.0.0.0))
      (array_of c a s w st.all x (form_in c.program t) u ok.0.0.0 ok.0.1 is, st))

  pub open_place_case : (x : List ℕ) (t : TypeRef) → PlaceFollows c a n call b (OfVariable (variable.Parameter passing.OpenArray x) t)
  open_place_case x t pc at ops os s w le has ok st =
      let is : form_in c.program t ≡ OpenForm (element_form (form_in c.program t)) = open_is (form_in c.program t) (subst IsOpen ok.0.1 ok.0.0.1) in
      subst (λ k. Follows c (go c a pc ops w) (PlaceTo c a n call b (suc (suc pc)) ops) (PKept (form_in c.program t) os) (Gives (place_of (variable.Parameter passing.OpenArray x) k) s)) (sym st.calls)
      (follows_value c w (copy_first c a s w st.all 1 x pc ops le has.0 has.1 ok.0.0.0) (array_of c a s w st.all x (form_in c.program t) _ ok.0.0.0 ok.0.1 is, st))

  -- and by VAR
  pub variable_open_parameter_case : (x : List ℕ) (t : TypeRef) → OpenArrayFollows c a n call b (OfVariable (variable.Parameter passing.VariableOpenArray x) t)
  variable_open_parameter_case x t u pc at ops os s w le has ok is st =
      subst (λ k. Follows c (go c a pc ops w) (LongTo c a n call b (suc (suc (suc (suc pc)))) ops) (PKept (form_in c.program t) os) (Gives (place_of (variable.Parameter passing.VariableOpenArray x) k) s)) (sym st.calls)
      (follows_value c w
      (then_reach c (referred_first c a s w st.all 1 x pc ops (omega (arith, le)) has.0.0 has.0.1 ok.0.0) (referred_second c a s w st.all 0 x (suc (suc pc)) _ (omega (arith, le)) has.1 ok.0.0))
      (ref_of c a s w st.all 2 x (form_in c.program t) ok.0.0 ok.0.1, st))

  pub variable_open_place_case : (x : List ℕ) (t : TypeRef) → PlaceFollows c a n call b (OfVariable (variable.Parameter passing.VariableOpenArray x) t)
  variable_open_place_case x t pc at ops os s w le has ok st =
      subst (λ k. Follows c (go c a pc ops w) (PlaceTo c a n call b (suc (suc pc)) ops) (PKept (form_in c.program t) os) (Gives (place_of (variable.Parameter passing.VariableOpenArray x) k) s)) (sym st.calls)
      (follows_value c w (referred_first c a s w st.all 1 x pc ops le has.0 has.1 ok.0.0) (ref_of c a s w st.all 2 x (form_in c.program t) ok.0.0 ok.0.1, st))

  -- other variables are no open arrays
  pub closed_case : (v : Variable) (t : TypeRef) → Plain v → OpenArrayFollows c a n call b (OfVariable v t)
  closed_case v t pl u pc at ops os s w le has ok is st = absurd (closed c a s w st.all v (form_in c.program t) u pl ok.0 is)

  pub closed_structure_case : (x : List ℕ) (t : TypeRef) → OpenArrayFollows c a n call b (OfVariable (variable.Parameter passing.Structure x) t)
  closed_structure_case x t u pc at ops os s w le has ok is st = absurd (closed_structure c a s w st.all x (form_in c.program t) u ok.0.0 ok.0.1 is)
