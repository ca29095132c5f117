-- Calls of declared procedures, of procedure variables and of Out are well typed.
use Rattle.std.proofs.Common.{◌≡◌, ⊎_elim, refl, sym, ap, ◌∙◌, subst, ℕ, zero, suc, List, [], ◌∷◌, length, Option, Some, None, Bool, true, false, arith}
use Rattle.std.specs.Prelude.{◌&&◌, ◌||◌, is_some, nat_eq}
use Rattle.ob_tree.specs.declared.pos.Pos.{Pos}
use Rattle.ob_tree.specs.declared.names.QName.{QName}
use Rattle.ob_tree.specs.declared.ident.Mark.TheVariants as mark
use Rattle.ob_types.specs.declared.types.Basic.{Basic}
use Rattle.ob_types.specs.declared.types.Basic.TheVariants as basic
use Rattle.ob_types.specs.declared.types.Mode.{Mode}
use Rattle.ob_types.specs.declared.types.Mode.TheVariants as mode
use Rattle.ob_types.specs.declared.types.TypeRef.{TypeRef}
use Rattle.ob_types.specs.declared.types.TypeRef.TheVariants as ref
use Rattle.ob_types.specs.declared.types.Signature.{Signature}
use Rattle.ob_types.specs.declared.desc.Desc.TheVariants as desc
use Rattle.ob_types.specs.declared.typed.Passing.{Passing}
use Rattle.ob_types.specs.declared.typed.Passing.TheVariants as passing
use Rattle.ob_types.specs.declared.typed.OutProcedure.{OutProcedure}
use Rattle.ob_types.specs.declared.typed.OutProcedure.TheVariants as out
use Rattle.ob_types.specs.declared.typed.Callee.{Callee}
use Rattle.ob_types.specs.declared.typed.Callee.TheVariants as callee
use Rattle.ob_types.specs.declared.typed.TypedParameter.{TypedParameter}
use Rattle.ob_types.specs.declared.typed.Actual.{Actual}
use Rattle.ob_types.specs.declared.typed.TypedExpr.{TypedExpr}
use Rattle.ob_types.specs.declared.typed.TypedExpr.TheVariants as e
use Rattle.ob_types.specs.declared.typed.ExprType.{ExprType}
use Rattle.ob_types.specs.declared.typed.ExprType.TheVariants as kind
use Rattle.ob_types.specs.Tests.{target, follow, target_of, shape_at, same_at}
use Rattle.ob_types.specs.TypedSyntax.{Desig, Expr, Actuals, NoActual, AnActual, CallVariable}
use Rattle.ob_types.specs.TypedKinds.{result_type, variable_type}
use Rattle.ob_types.specs.TypedView.{OneActual, designator_view, expr_view, actual_view, actuals_view}
use Rattle.ob_types.proofs.TypedViews.{view_call, view_call_variable}
use Rattle.ob_meaning.specs.Values.{Program, Form, ProcedureForm, form_in, Formals, formals_in, Held}
use Rattle.law_simulation_relation.specs.Passed.{AreOfBasics, IsOneText, AreOut, CalleeTakes}
use Rattle.law_simulation_relation.specs.Typed as typed
use Rattle.law_simulation_relation.specs.Typed.{passing_for}
use Rattle.law_simulation_relation.proofs.Passings.{formal_is}
use Rattle.ob_rules.specs.declared.meant.Where.{Where}
use Rattle.ob_rules.specs.declared.meant.Where.TheVariants.{InExpression, AsStatement, Elsewhere}
use Rattle.ob_rules.specs.declared.values.Place.{Place}
use Rattle.ob_rules.specs.declared.values.Valued.{Valued}
use Rattle.ob_rules.specs.declared.broken.Rule.TheVariants as rule
use Rattle.ob_rules.specs.Judged.{sound, both, also, wants}
use Rattle.ob_rules.specs.Shapes.{Map, shape, open_at, open_element, is_structured, array_at, array_of, is_array, is_char_array, signature_at, by_value, passing_of}
use Rattle.ob_rules.specs.Names.{Around, map_of, type_desc, out_string}
use Rattle.ob_rules.specs.Values.{computed, type, type_in, type_is, text_of, is_chars}
use Rattle.ob_rules.specs.Operators.{is_text}
use Rattle.ob_rules.specs.Values.{text_tree}
use Rattle.ob_rules.specs.Calls.{actual_of, array_takes, takes_value, tree_for, value_actual, actual, actuals, misplaced, called_with, called, call_procedure, call_variable, call_out}
use Rattle.ob_rules.specs.Phrases.{Phrase}
use Rattle.law_typing.specs.Makes.{IfThere, Makes}
use Rattle.law_typing.specs.Forms.{AreKnown, ResultIs}
use Rattle.law_typing.specs.Known.{AreParameters, ProcedureIs, IsScoped}
use Rattle.law_typing.specs.Kept.{PlaceIs, NodeIs, ValuedIs}
use Rattle.law_typing.specs.Meant.{CalledIs, ArePhrases}
use Rattle.law_typing.proofs.Makes.{makes_then, makes_both, makes_wants, makes_also}
use Rattle.law_typing.proofs.Basics.{form_basic, not_true}
use Rattle.law_typing.proofs.Values.{Fits}
use Rattle.law_typing.proofs.Designators.{form_is}
use Rattle.law_typing.proofs.Relations.{or_is, text_fits}
use Rattle.law_typing.proofs.Operators.{and_is}
use Rattle.law_typing.proofs.Assignable.{nat_is}
use Rattle.law_typing.proofs.Actuals.{AreFormals, Passes, not_false, actual_seen, actuals_are}

-- parameters of basic types by value
abbrev all_basic : List Basic → List (Mode × TypeRef)
all_basic [] = []
all_basic (b ∷ bs) = (mode.Value, ref.Basic b) ∷ all_basic bs

all_known : (map : Map) (bs : List Basic) → AreKnown map (all_basic bs)
all_known map [] = tt
all_known map (b ∷ bs) = ((tt, tt), all_known map bs)

module _ (program : Program) (Has : Formals → QName → Type 0) (unit : List ℕ) (held : List Held) (result : Option TypeRef) where
  abbrev Ex : Expr → Form → Type 0
  Ex x t = Fits program Has unit held result x t

  -- a call fits its result's type, or is a proper one
  pub record CallIs (r : Option TypeRef) (x : Expr) : Type 0 where
    pub value : (v : Form) → typed.ResultOk program Has unit held result r v → Ex x v
    pub proper : r ≡ None → typed.ProperOk program Has unit held result x

  -- by a signature, so by the parameters of a procedure
  pub declared_actuals : (es : Actuals) (ps : List TypedParameter) (fs : List (Mode × TypeRef)) → AreParameters program ps fs → typed.SignatureOk program Has unit held result es fs → typed.ActualsOk program Has unit held result es ps
  declared_actuals NoActual [] [] k h = tt
  declared_actuals NoActual [] (f ∷ fs) k h = absurd h
  declared_actuals NoActual (p ∷ ps) [] k h = absurd k
  declared_actuals NoActual (p ∷ ps) (f ∷ fs) k h = absurd h
  declared_actuals (AnActual how t x rest) ps [] k h = absurd h
  declared_actuals (AnActual how t x rest) [] (f ∷ fs) k h = absurd k
  declared_actuals (AnActual how t x rest) (p ∷ ps) (f ∷ fs) k h =
      let i : form_in program t ≡ form_in program p.of = h.1.0 ∙ sym k.0 in
      (h.0 ∙ sym k.1.0, (formal_is program how f.0 t p.of (h.0 ∙ ap (passing_for f.0) (sym k.0)) i, (subst (λ z. Passes program Has unit held result how x z) i h.1.1.0, declared_actuals rest ps fs k.1.1 h.1.1.1)))

  module _ (u : Around) (scoped : IsScoped program Has unit held result u) where
    abbrev Called : Where → Valued → Type 0
    Called w x = CalledIs program Has unit held result (map_of u) w x

    abbrev Signed : List Actual → List (Mode × TypeRef) → Type 0
    Signed xs fs = typed.SignatureOk program Has unit held result (actuals_view xs) fs × AreFormals (actuals_view xs) fs

    value_node : (x : Expr) (r : Option TypeRef) → ResultIs program r → CallIs r x → is_some r ≡ true → NodeIs program Has unit held result (map_of u) x (result_type r)
    value_node x None d h e = not_true e
    value_node x (Some t) d h e = (d.0, d.1, λ v k. h.value v (d.1, k))

    none_is : (r : Option TypeRef) → is_some r ≡ false → r ≡ None
    none_is None e = refl
    none_is (Some t) e = not_true (sym e)

    call_there : (w : Where) (x : TypedExpr) (r : Option TypeRef) → ResultIs program r → CallIs r (expr_view x) → misplaced w (is_some r) ≡ false → Called w (computed x (result_type r))
    call_there InExpression x r d h e = value_node (expr_view x) r d h (not_false (is_some r) e)
    call_there AsStatement x r d h e = h.proper (none_is r e)
    call_there Elsewhere x r d h e = tt

    -- a call of that signature
    pub called_is : (Q : List Actual → Type 0) (w : Where) (at : Pos) (s : Signature) (ps : List Phrase) (f : List Actual → TypedExpr) → ResultIs program s.result → Makes (λ xs. length ps ≡ length s.params → Q xs) (actuals u s.params ps) → ((xs : List Actual) → Q xs → CallIs s.result (expr_view (f xs))) → Makes (Called w) (called u w at s ps f)
    called_is Q w at s ps f d h k =
        makes_then (λ xs. length ps ≡ length s.params → Q xs) (Called w) (actuals u s.params ps) (called_with w at s (length ps) f) h λ xs g.
        makes_then Q (Called w) (wants (nat_eq (length ps) (length s.params)) rule.WrongParameterCount at xs) (λ ys. also (misplaced w (is_some s.result)) rule.MisplacedCall at (sound (computed (f ys) (result_type s.result)))) (makes_wants Q (nat_eq (length ps) (length s.params)) rule.WrongParameterCount at xs (λ e. g (nat_is (length ps) (length s.params) e))) λ ys q.
        makes_also (Called w) (misplaced w (is_some s.result)) rule.MisplacedCall at (sound (computed (f ys) (result_type s.result))) λ e.
        record { node = call_there w (f ys) s.result d (k ys q) e }

    -- of a call by its view
    pub by_callee : (c : Callee) (xs : List Actual) (at : Pos) (r : Option TypeRef) → typed.CallOk program Has unit held result c r (typed.ActualsOk program Has unit held result (actuals_view xs)) (typed.OutOk program Has unit held result (actuals_view xs)) → CalleeTakes c (actuals_view xs) → CallIs r (expr_view (e.Call c xs at r))
    by_callee c xs at r h g = subst (CallIs r) (sym (view_call c xs at r)) (record { value = λ v k. (h, k); proper = λ e. (h, e, g) })

    pub call_procedure_is : (w : Where) (at : Pos) (name : QName) (s : Signature) (ps : List Phrase) → ProcedureIs program Has unit held result (map_of u) name s → ArePhrases program Has unit held result ps → Makes (Called w) (call_procedure u w at name s ps)
    call_procedure_is w at name s ps h k =
        called_is (λ xs. Signed xs s.params) w at s ps (λ xs. e.Call (callee.Declared name) xs at s.result) h.signature.result (actuals_are program Has unit held result u scoped s.params ps h.signature.params k) λ xs g.
        by_callee (callee.Declared name) xs at s.result (h.p, h.found, h.result_is, declared_actuals (actuals_view xs) h.p.parameters s.params h.parameters g.0) tt

    by_variable : (d : Desig) (s : Signature) (es : Actuals) (at : Pos) → typed.DesigOk program Has unit held result d → form_in program (variable_type d) ≡ ProcedureForm (formals_in program s) → typed.SignatureOk program Has unit held result es s.params → CallIs s.result (CallVariable d es at s.result)
    by_variable d s es at h f g = record { value = λ v k. ((h, (s, f, refl, g)), k); proper = λ e. ((h, (s, f, refl, g)), e) }

    pub call_variable_is : (w : Where) (at : Pos) (p : Place) (s : Signature) (ps : List Phrase) → PlaceIs program Has unit held result (map_of u) p → signature_at (map_of u) p.of ≡ Some s → ArePhrases program Has unit held result ps → Makes (Called w) (call_variable u w at p s ps)
    call_variable_is w at p s ps h f k =
        let i = scoped.forms.procedures p.of s f in
        let d = designator_view p.designator.inner in
        called_is (λ xs. Signed xs s.params) w at s ps (λ xs. e.CallVariable p.designator.inner xs at s.result) i.1.result (actuals_are program Has unit held result u scoped s.params ps i.1.params k) λ xs g.
        subst (CallIs s.result) (sym (view_call_variable p.designator.inner xs at s.result)) (by_variable d s (actuals_view xs) at h.fits (form_is program Has unit held result (map_of u) scoped.forms d p.of p.var_record h ∙ i.0) g.0)

    -- OUT

    abbrev OutFits : Actuals → Type 0
    OutFits es = typed.OutOk program Has unit held result es

    scalar_out : (how : Passing) (t : TypeRef) (x : Expr) (rest : Actuals) → how ≡ passing.Scalar → Passes program Has unit held result how x (form_in program t) → OutFits rest → OutFits (AnActual how t x rest)
    scalar_out how t x rest e h k = by how e h
      where
        by : (how : Passing) → how ≡ passing.Scalar → Passes program Has unit held result how x (form_in program t) → OutFits (AnActual how t x rest)
        by passing.Scalar e h = (h.0, k)
        by passing.Structure e h = absurd cc
        by passing.OpenArray e h = absurd cc
        by passing.Variable e h = absurd cc
        by passing.VariableRecord e h = absurd cc
        by passing.VariableOpenArray e h = absurd cc

    basic_scalar : (b : Basic) → passing_for mode.Value (form_in program (ref.Basic b)) ≡ passing.Scalar
    basic_scalar b = ap (passing_for mode.Value) (form_basic program b)

    basics_out : (es : Actuals) (bs : List Basic) → typed.SignatureOk program Has unit held result es (all_basic bs) → OutFits es
    basics_out NoActual bs h = tt
    basics_out (AnActual how t x rest) [] h = absurd h
    basics_out (AnActual how t x rest) (b ∷ bs) h = scalar_out how t x rest (h.0 ∙ basic_scalar b) h.1.1.0 (basics_out rest bs h.1.1.1)

    -- parameters of basic types by value, as they are named
    basics_named : (es : Actuals) (bs : List Basic) → typed.SignatureOk program Has unit held result es (all_basic bs) → AreFormals es (all_basic bs) → AreOfBasics bs es
    basics_named NoActual [] h k = tt
    basics_named NoActual (b ∷ bs) h k = absurd h
    basics_named (AnActual how t x rest) [] h k = absurd h
    basics_named (AnActual how t x rest) (b ∷ bs) h k = (h.0 ∙ basic_scalar b, k.0, basics_named rest bs h.1.1.1 k.1)

    out_call : (o : OutProcedure) (at : Pos) (xs : List Actual) → OutFits (actuals_view xs) → AreOut o (actuals_view xs) → CallIs None (expr_view (e.Call (callee.Out o) xs at None))
    out_call o at xs h g = by_callee (callee.Out o) xs at None (refl, h) g

    basic_out : (o : OutProcedure) (bs : List Basic) → ((es : Actuals) → AreOfBasics bs es → AreOut o es) → (w : Where) (at : Pos) (ps : List Phrase) → ArePhrases program Has unit held result ps → Makes (Called w) (called u w at (record { params = all_basic bs; result = None }) ps (λ xs. e.Call (callee.Out o) xs at None))
    basic_out o bs is w at ps k = called_is (λ xs. Signed xs (all_basic bs)) w at (record { params = all_basic bs; result = None }) ps (λ xs. e.Call (callee.Out o) xs at None) tt (actuals_are program Has unit held result u scoped (all_basic bs) ps (all_known (map_of u) bs) k) (λ xs g. out_call o at xs (basics_out (actuals_view xs) bs g.0) (is (actuals_view xs) (basics_named (actuals_view xs) bs g.0 g.1)))

    -- the type of the parameter of Out.String, as the rules' map has it
    out_desc : map_of u out_string ≡ Some (desc.OpenArray mark.Hidden (ref.Basic basic.Char))
    out_desc = ap (λ b. type_desc b true u out_string) scoped.outside

    out_target : target (map_of u) 201 (ref.Named out_string) ≡ ref.Named out_string
    unfolding target
    out_target = ap (λ d. follow (target_of d) (ref.Named out_string) (λ t. target (map_of u) 200 t)) out_desc

    out_shape : shape (map_of u) (ref.Named out_string) ≡ Some (desc.OpenArray mark.Hidden (ref.Basic basic.Char))
    out_shape = ap (shape_at (map_of u)) out_target ∙ out_desc

    out_element : open_element (map_of u) (ref.Named out_string) ≡ Some (ref.Basic basic.Char)
    out_element = ap open_at out_shape

    out_array : array_of (map_of u) (ref.Named out_string) ≡ Some (None, ref.Basic basic.Char)
    out_array = ap array_at out_shape

    out_passing : passing_of (map_of u) mode.Value (ref.Named out_string) ≡ passing.OpenArray
    out_passing = ap (λ o. by_value (is_some o) (is_structured (map_of u) (ref.Named out_string))) out_element

    abbrev Chars : Valued → Type 0
    Chars x = array_takes (map_of u) (ref.Basic basic.Char) (type_in (type x)) || (same_at (map_of u) (ref.Basic basic.Char) (ref.Basic basic.Char) && is_some (text_of x)) ≡ true

    chars_by : (k : ExprType) → array_takes (map_of u) (ref.Basic basic.Char) (type_in k) ≡ true → type_is (is_char_array (map_of u)) k ≡ true
    chars_by (kind.Of t) e = e
    chars_by kind.Str e = not_true e
    chars_by kind.Nil e = not_true e
    chars_by (kind.Procedure s) e = not_true e
    chars_by kind.Nothing e = not_true e

    or_left : (a b : Bool) → a ≡ true → a || b ≡ true
    or_left true b e = refl
    or_left false b e = not_true e

    or_right : (a b : Bool) → b ≡ true → a || b ≡ true
    or_right true b e = refl
    or_right false b e = e

    is_text_by : (x : Valued) → Chars x → is_text (map_of u) x ≡ true
    is_text_by x e =
        ⊎_elim (λ f. or_left (is_chars (map_of u) x) (is_some (text_of x)) (chars_by (type x) f))
        (λ f. or_right (is_chars (map_of u) x) (is_some (text_of x)) (and_is (same_at (map_of u) (ref.Basic basic.Char) (ref.Basic basic.Char)) (is_some (text_of x)) f).1)
        (or_is (array_takes (map_of u) (ref.Basic basic.Char) (type_in (type x))) (same_at (map_of u) (ref.Basic basic.Char) (ref.Basic basic.Char) && is_some (text_of x)) e)

    abbrev StringIs : OneActual → Type 0
    StringIs o = OutFits (AnActual o.passing o.formal o.e NoActual) × (o.passing ≡ passing.OpenArray)

    abbrev StringsAre : Actuals → Type 0
    StringsAre es = OutFits es × IsOneText es

    string_actual : (x : Valued) → ValuedIs program Has unit held result (map_of u) x → takes_value (map_of u) (open_element (map_of u) (ref.Named out_string)) (ref.Named out_string) x ≡ true → StringIs (actual_view (actual_of (passing_of (map_of u) mode.Value (ref.Named out_string)) (ref.Named out_string) (tree_for (is_array (map_of u) (ref.Named out_string)) x)))
    string_actual x h e =
        let f : is_text (map_of u) x ≡ true = is_text_by x (sym (ap (λ o. takes_value (map_of u) o (ref.Named out_string) x) out_element) ∙ e) in
        let g : typed.TextOk program Has unit held result (expr_view (text_tree x)) = text_fits program Has unit held result (map_of u) scoped.forms x h f in
        let s : StringIs (record { passing = passing.OpenArray; formal = ref.Named out_string; e = expr_view (tree_for true x) }) = ((g, tt), refl) in
        subst StringIs (sym (actual_seen (passing_of (map_of u) mode.Value (ref.Named out_string)) (ref.Named out_string) (tree_for (is_array (map_of u) (ref.Named out_string)) x)))
        (subst (λ w. StringIs (record { passing = w; formal = ref.Named out_string; e = expr_view (tree_for (is_array (map_of u) (ref.Named out_string)) x) })) (sym out_passing)
        (subst (λ b. StringIs (record { passing = passing.OpenArray; formal = ref.Named out_string; e = expr_view (tree_for b x) })) (sym (ap is_some out_array)) s))

    abbrev string_params : List (Mode × TypeRef)
    string_params = (mode.Value, ref.Named out_string) ∷ []

    string_actuals : (ps : List Phrase) → ArePhrases program Has unit held result ps → Makes (λ xs. length ps ≡ 1 → StringsAre (actuals_view xs)) (actuals u string_params ps)
    string_actuals [] k = record { node = λ e. absurd (none_at e) }
      where
        none_at : zero ≡ suc zero → ⊥
        none_at e = absurd cc
    string_actuals (p ∷ []) k =
        makes_then (λ r. StringIs (actual_view r.0) × (r.1 ≡ [])) _ (both (actual u mode.Value (ref.Named out_string) p) (sound [])) (λ r. sound (r.0 ∷ r.1))
        (makes_both (λ a. StringIs (actual_view a)) (λ xs. xs ≡ []) (actual u mode.Value (ref.Named out_string) p) (sound [])
        (makes_then (ValuedIs program Has unit held result (map_of u)) _ (p.value u) (value_actual (map_of u) (ref.Named out_string) p.start) (k.0.value u scoped) (λ x h. makes_wants _ (takes_value (map_of u) (open_element (map_of u) (ref.Named out_string)) (ref.Named out_string) x) rule.UnfitParameter p.start (actual_of (passing_of (map_of u) mode.Value (ref.Named out_string)) (ref.Named out_string) (tree_for (is_array (map_of u) (ref.Named out_string)) x)) (string_actual x h)))
        (record { node = refl }))
        (λ r h. record { node = λ e. subst (λ xs. StringsAre (actuals_view (r.0 ∷ xs))) (sym h.1) h.0 })
    string_actuals (p ∷ q ∷ qs) k = record { node = anything (actuals u string_params (p ∷ q ∷ qs)).node }
      where
        none_of : suc (suc (length qs)) ≡ 1 → ⊥
        none_of e = omega (arith, e)

        anything : (o : Option (List Actual)) → IfThere (λ xs. suc (suc (length qs)) ≡ 1 → StringsAre (actuals_view xs)) o
        anything None = tt
        anything (Some xs) = λ e. absurd (none_of e)

    pub call_out_is : (w : Where) (at : Pos) (o : OutProcedure) (ps : List Phrase) → ArePhrases program Has unit held result ps → Makes (Called w) (call_out u w at o ps)
    call_out_is w at out.Char ps k = basic_out out.Char (basic.Char ∷ []) (λ es h. h) w at ps k
    call_out_is w at out.Int ps k = basic_out out.Int (basic.LongInt ∷ basic.LongInt ∷ []) (λ es h. h) w at ps k
    call_out_is w at out.Ln ps k = basic_out out.Ln [] (λ es h. h) w at ps k
    call_out_is w at out.Str ps k = called_is (λ xs. StringsAre (actuals_view xs)) w at (record { params = string_params; result = None }) ps (λ xs. e.Call (callee.Out out.Str) xs at None) tt (string_actuals ps k) (λ xs g. out_call out.Str at xs g.0 g.1)
