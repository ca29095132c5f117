-- The code of a variable gives its address.
use Rattle.std.proofs.Common.{◌≡◌, ℕ, zero, suc, ◌+◌, ◌≤◌, List, [], ◌∷◌, length, Some, ℤ, refl, sym, ap, ◌∙◌, subst, arith}
use Rattle.std.specs.Prelude.{pos, Bool, true, false, bytes_eq}
use Rattle.std.proofs.lemmas.Option.{slice_get_within}
use Rattle.ob_mem.specs.Words.{word_at}
use Rattle.ob_types.specs.declared.typed.Passing.TheVariants as passing
use Rattle.ob_types.specs.declared.typed.Variable.{Variable}
use Rattle.ob_types.specs.declared.typed.Variable.TheVariants as variable
use Rattle.ob_instr.specs.declared.opcode.Opcode.TheVariants as op
use Rattle.ob_instr.specs.Image.{World}
use Rattle.ob_instr.specs.Rows.{Next}
use Rattle.ob_instr.proofs.Goes as rows
use Rattle.ob_meaning.specs.Values.{Form, OfModule, OfCall, Place, At, State}
use Rattle.ob_meaning.specs.Meaning.{place_of}
use Rattle.law_simulation_relation.specs.Layout.{slot, form_named, static_held, address, variables_in, module_offset}
use Rattle.law_simulation_relation.specs.Relation.{OrElse, Sub, itself, ValueIn, PlaceOf}
use Rattle.law_simulation_relation.specs.Typed as typed
use Rattle.law_simulation_relation.specs.Typed.{As, IsOwn, IsReferred, IsCopied}
use Rattle.law_simulation_relation.specs.Ends.{end_variable}
use Rattle.law_simulation_relation.specs.Stands as code
use Rattle.law_simulation_relation.proofs.Names.{bytes_true}
use Rattle.law_simulation_relation.proofs.Steps.{Reach, then_reach}
use Rattle.law_simulation_relation.proofs.Statements.{Activation, scope, go, fb, K}
use Rattle.law_simulation_relation.proofs.Slots.{own_value, own_slot, ref_load}
use Rattle.law_simulation_relation.proofs.Frames.{own_fixed, referred_fixed, call_alike, slot_alike, same_alike, place_of_up, address_up, own_place, own_form, own_address, ref_place}
use Rattle.law_simulation_relation.proofs.Moves.{goes, address_small, small_word, all_length}
use Rattle.law_simulation_relation.specs.Setting.{Setting, StandIn, has_of}
use Rattle.law_simulation_relation.specs.Plain.{Plain}

pub got_within : (l : List ℤ) (n : ℕ) (x : ℤ) → word_at l (pos n) ≡ Some x → n ≤ length l
got_within l zero x e = omega arith
got_within l (suc n) x e = let h = slice_get_within l n x e in omega (arith, h)

module _ (c : Setting) (a : Activation c) where
  abbrev pub VariableOk : Variable → Form → Type 0
  VariableOk v t = typed.VariableOk c.program (has_of c) a.unit (static_held c.program a.procedure) a.procedure.result v t

  module _ (s : State) (w : World) (st : StandIn c (K c a) s w) where
    pub own_of : (x : List ℕ) (t : Form) → As IsOwn (static_held c.program a.procedure) x → form_named (static_held c.program a.procedure) x ≡ t → PlaceOf c.program (has_of c) c.img s.made (K c a) t (At (OfCall (length a.cs) x) [])
    own_of x t h e =
        let k = same_alike IsOwn own_fixed _ _ x (call_alike c.program a.procedure a.active a.call) h in
        (own_place c s.made a.cs a.active x (own_value a.active.held x k.as_it), subst (λ u. Sub u t) (sym (own_form c s.made a.cs a.active x ∙ k.form ∙ e)) itself)

    pub ref_of : (n : ℕ) (x : List ℕ) (t : Form) → As (IsReferred n) (static_held c.program a.procedure) x → form_named (static_held c.program a.procedure) x ≡ t → PlaceOf c.program (has_of c) c.img s.made (K c a) t (a.active.places x)
    ref_of n x t h e =
        let k = same_alike (IsReferred n) (referred_fixed n) _ _ x (call_alike c.program a.procedure a.active a.call) h in
        let r = ref_place c s.made a.cs a.active.places a.active.held n x (s.store.locals (length a.cs)) k.as_it st.calls_fine.1.1 in
        place_of_up c s.made a.cs a.active t (a.active.places x) (subst (λ u. PlaceOf c.program (has_of c) c.img s.made a.cs u (a.active.places x)) (k.form ∙ e) r)

    pub variable_of : (v : Variable) (t : Form) → Plain v → VariableOk v t → PlaceOf c.program (has_of c) c.img s.made (K c a) t (place_of v (K c a))
    variable_of (variable.Module m x) t pl ok = ((ok.0, tt), subst (λ u. Sub u t) (sym ok.1) itself)
    variable_of (variable.Local x) t pl ok = own_of x t ok.0 ok.1
    variable_of (variable.Parameter passing.Scalar x) t pl ok = own_of x t ok.0 ok.1
    variable_of (variable.Parameter passing.Variable x) t pl ok = ref_of 1 x t ok.0 ok.1
    variable_of (variable.Parameter passing.Structure x) t pl ok = absurd pl
    variable_of (variable.Parameter passing.OpenArray x) t pl ok = absurd pl
    variable_of (variable.Parameter passing.VariableRecord x) t pl ok = absurd pl
    variable_of (variable.Parameter passing.VariableOpenArray x) t pl ok = absurd pl

    abbrev pub at_place : Place → ℕ
    at_place p = address c.program c.img s.made (K c a) p

    pub static_slot : (x : List ℕ) → slot (static_held c.program a.procedure) x ≡ slot a.active.held x
    static_slot x = slot_alike _ _ x (call_alike c.program a.procedure a.active a.call)

    local_goes : (x : List ℕ) (t : Form) (pc : ℕ) (ops : List ℤ) → length ops + 1 ≤ 256 → code.Has (scope c a) pc (code.with_a op.Local (slot (static_held c.program a.procedure) x)) → As IsOwn (static_held c.program a.procedure) x → form_named (static_held c.program a.procedure) x ≡ t → Reach c (go c a pc ops w) (go c a (suc pc) (pos (at_place (At (OfCall (length a.cs) x) [])) ∷ ops) w)
    local_goes x t pc ops le has h e =
        let k = same_alike IsOwn own_fixed _ _ x (call_alike c.program a.procedure a.active a.call) h in
        let p = own_of x t h e in
        let n = fb c a + slot (static_held c.program a.procedure) x in
        let is : n ≡ at_place (At (OfCall (length a.cs) x) []) = ap (λ k. fb c a + k) (static_slot x) ∙ own_address c s.made a.cs a.active x (own_slot a.active.held x k.as_it) in
        let small = small_word c n (subst (λ m. m ≤ 5505025) (sym is) (address_small c (K c a) s w (At (OfCall (length a.cs) x) []) st p.0)) in
        goes c a _ w has (rows.local_next c.img a.u a.m a.p (fb c a) pc w (slot (static_held c.program a.procedure) x) ops small ∙ ap (λ m. Next (pos m ∷ ops) w) is) (omega (arith, le))

    ref_goes : (x : List ℕ) (t : Form) (pc : ℕ) (ops : List ℤ) → length ops + 1 ≤ 256 → code.Has (scope c a) pc (code.with_a op.Local (slot (static_held c.program a.procedure) x)) → code.Has (scope c a) (suc pc) (code.plain op.Load) → As (IsReferred 1) (static_held c.program a.procedure) x → form_named (static_held c.program a.procedure) x ≡ t → Reach c (go c a pc ops w) (go c a (suc (suc pc)) (pos (at_place (a.active.places x)) ∷ ops) w)
    ref_goes x t pc ops le has has2 h e =
        let k = same_alike (IsReferred 1) (referred_fixed 1) _ _ x (call_alike c.program a.procedure a.active a.call) h in
        let r = ref_place c s.made a.cs a.active.places a.active.held 1 x (s.store.locals (length a.cs)) k.as_it st.calls_fine.1.1 in
        let n = fb c a + slot (static_held c.program a.procedure) x in
        let load = ap (λ k. word_at w.words (pos (fb c a + k))) (static_slot x) ∙ ref_load c a.active a.cs s w 0 x st k.as_it ∙ ap (λ n. Some (pos n)) (sym (address_up c s.made a.cs a.active (a.active.places x) r.0)) in
        let within = got_within w.words n _ load in
        let all = all_length c (K c a) s w st in
        let small = small_word c n (omega (arith, within, all)) in
        then_reach c (goes c a _ w has (rows.local_next c.img a.u a.m a.p (fb c a) pc w (slot (static_held c.program a.procedure) x) ops small) (omega (arith, le)))
        (goes c a _ w has2 (rows.load_next c.img a.u a.m a.p (fb c a) (suc pc) w (pos n) _ ops load) (omega (arith, le)))

    module_goes : (m x : List ℕ) (t : Form) (pc : ℕ) (ops : List ℤ) → length ops + 1 ≤ 256 → (b : Bool) → bytes_eq m a.unit ≡ b → OrElse b (code.Has (scope c a) pc (code.with_a op.Global (slot (variables_in c.program c.program m) x))) (code.HasLink (scope c a) pc m x) → ValueIn (variables_in c.program c.program m) x → Reach c (go c a pc ops w) (go c a (suc pc) (pos (at_place (At (OfModule m x) [])) ∷ ops) w)
    module_goes m x t pc ops le true e has h =
        let n = a.u.first + slot (variables_in c.program c.program m) x in
        let same = bytes_true m a.unit e in
        let first : a.u.first ≡ suc (module_offset c.program c.program m) = a.first ∙ ap (λ z. suc (module_offset c.program c.program z)) (sym same) in
        let is : n ≡ at_place (At (OfModule m x) []) = omega (arith, first) in
        let small = small_word c n (subst (λ m. m ≤ 5505025) (sym is) (address_small c (K c a) s w (At (OfModule m x) []) st (h, tt))) in
        goes c a _ w has (rows.global_next c.img a.u a.m a.p (fb c a) pc w (slot (variables_in c.program c.program m) x) ops small ∙ ap (λ m. Next (pos m ∷ ops) w) is) (omega (arith, le))
    module_goes m x t pc ops le false e has h =
        let n = suc (module_offset c.program c.program m + slot (variables_in c.program c.program m) x) in
        let is : n ≡ at_place (At (OfModule m x) []) = omega arith in
        let small = small_word c n (subst (λ m. m ≤ 5505025) (sym is) (address_small c (K c a) s w (At (OfModule m x) []) st (h, tt))) in
        goes c a _ w has.has (rows.ext_var_next c.img a.u a.m a.p (fb c a) pc w has.number n ops has.is small ∙ ap (λ m. Next (pos m ∷ ops) w) is) (omega (arith, le))

    pub variable_goes : (v : Variable) (t : Form) (pc : ℕ) (ops : List ℤ) → length ops + 1 ≤ 256 → Plain v → code.VariableCode (scope c a) v pc → VariableOk v t → Reach c (go c a pc ops w) (go c a (end_variable v pc) (pos (at_place (place_of v (K c a))) ∷ ops) w)
    variable_goes (variable.Module m x) t pc ops le pl has ok = module_goes m x t pc ops le (bytes_eq m a.unit) refl has ok.0
    variable_goes (variable.Local x) t pc ops le pl has ok = local_goes x t pc ops le has ok.0 ok.1
    variable_goes (variable.Parameter passing.Scalar x) t pc ops le pl has ok = local_goes x t pc ops le has ok.0 ok.1
    variable_goes (variable.Parameter passing.Variable x) t pc ops le pl has ok = ref_goes x t pc ops le has.0 has.1 ok.0 ok.1
    variable_goes (variable.Parameter passing.Structure x) t pc ops le pl has ok = absurd pl
    variable_goes (variable.Parameter passing.OpenArray x) t pc ops le pl has ok = absurd pl
    variable_goes (variable.Parameter passing.VariableRecord x) t pc ops le pl has ok = absurd pl
    variable_goes (variable.Parameter passing.VariableOpenArray x) t pc ops le pl has ok = absurd pl
