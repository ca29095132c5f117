-- Calls of predeclared procedures are well typed: what fits, and the calls.
use Rattle.std.proofs.Common.{◌≡◌, refl, sym, ap, ◌∙◌, subst, ℕ, List, [], ◌∷◌, Option, Some, None, Bool, true, false}
use Rattle.std.specs.Prelude.{◌&&◌, is_some, pos}
use Rattle.ob_tree.specs.declared.pos.Pos.{Pos}
use Rattle.ob_tree.specs.declared.names.QName.{QName}
use Rattle.ob_types.specs.declared.types.Basic.{Basic}
use Rattle.ob_types.specs.declared.types.Basic.TheVariants as basic
use Rattle.ob_types.specs.declared.types.TypeRef.{TypeRef}
use Rattle.ob_types.specs.declared.typed.Width.{Width}
use Rattle.ob_types.specs.declared.typed.Width.TheVariants as width
use Rattle.ob_types.specs.declared.typed.Unary.{Unary}
use Rattle.ob_types.specs.declared.typed.Unary.TheVariants as unary
use Rattle.ob_types.specs.declared.typed.Binary.TheVariants as binary
use Rattle.ob_types.specs.declared.typed.Update.TheVariants as update
use Rattle.ob_types.specs.declared.typed.TypedStmt.TheVariants as stmt
use Rattle.ob_types.specs.TypedSyntax.{Expr, Copy, Halt}
use Rattle.ob_types.specs.TypedKinds.{variable_type}
use Rattle.ob_types.specs.TypedView.{designator_view, expr_view}
use Rattle.ob_types.proofs.TypedViews.{view_copy, view_halt}
use Rattle.ob_meaning.specs.Values.{Program, Form, BasicForm, form_in, Formals, Held}
use Rattle.law_simulation_relation.specs.Typed as typed
use Rattle.law_simulation_relation.specs.Typed.{Within, integer, longint, boolean, char, set}
use Rattle.ob_rules.specs.declared.broken.Predeclared.{Predeclared}
use Rattle.ob_rules.specs.declared.broken.Predeclared.TheVariants as pre
use Rattle.ob_rules.specs.declared.meant.Asked.{Asked}
use Rattle.ob_rules.specs.declared.meant.Asked.TheVariants as asked
use Rattle.ob_rules.specs.declared.entity.Received.{Received}
use Rattle.ob_rules.specs.declared.meant.Meant.{Meant}
use Rattle.ob_rules.specs.declared.meant.Meant.TheVariants as means
use Rattle.ob_rules.specs.declared.meant.Where.{Where}
use Rattle.ob_rules.specs.declared.meant.Where.TheVariants.{InExpression}
use Rattle.ob_rules.specs.declared.values.Valued.{Valued}
use Rattle.ob_rules.specs.declared.broken.Rule.TheVariants as rule
use Rattle.ob_rules.specs.Judged.{Judged, sound, breaks, also, wants, both, each_sound, made, ◌▷◌}
use Rattle.ob_rules.specs.Shapes.{Map, basic_of, array_of, pointed, is_held, record_of}
use Rattle.ob_rules.specs.Shapes as shapes
use Rattle.ob_rules.specs.Names.{Around, map_of}
use Rattle.ob_rules.specs.Values.{constant, value_at, is, width as width_of, is_integer, is_chars, tree, text_tree, constant_in, place_in}
use Rattle.ob_rules.specs.Operators.{monadic, dyadic, only_value, and_so}
use Rattle.ob_rules.specs.Calls.{misplaced}
use Rattle.ob_rules.specs.Phrases.{Phrase}
use Rattle.ob_rules.specs.Predeclared.{changed_meant, changed_as, values, asked_first, asked_second, parameter, parameters, is_function, value, does, if_is, longer, shorter, len_at, len_of, number_in, one, is_text, fit_one, fit_two, fit, if_fit, call_fit, extreme, type_parameter, extreme_of, basic_if, extreme_call, call_predeclared}
use Rattle.law_typing.specs.Makes.{IfThere, Makes}
use Rattle.law_typing.specs.Forms.{Forms}
use Rattle.law_typing.specs.Known.{IsScoped}
use Rattle.law_typing.specs.Kept.{PlaceIs, ValuedIs}
use Rattle.law_typing.specs.Meant.{MeantIs, MeantBy, PhraseIs, ArePhrases}
use Rattle.law_typing.proofs.Makes.{makes_then, makes_made, makes_both, makes_wants, makes_also, makes_unless}
use Rattle.law_typing.proofs.Basics.{within_long}
use Rattle.law_typing.proofs.Values.{Fits, width_fits, basic_fits}
use Rattle.law_typing.proofs.Operators.{and_is, monadic_is, dyadic_is}
use Rattle.law_typing.proofs.Designators.{form_is, long_fits}
use Rattle.law_typing.proofs.Relations.{text_fits, char_array_is}
use Rattle.law_typing.proofs.Predeclared.{so_is, when_is, if_so, makes_any, place_of, no_place, longer_within, extreme_is, Given, function_there, said, done, len_there, len_number, place_given, stepped, inc_ok, dec_ok, one_is, element_stepped, asserted, new_there, many_there}
use Rattle.law_lists.proofs.Lists.{none_some, some_same}

module _ (program : Program) (Has : Formals → QName → Type 0) (unit : List ℕ) (held : List Held) (result : Option TypeRef) where
  abbrev Ex : Expr → Form → Type 0
  Ex x t = Fits program Has unit held result x t

  module _ (map : Map) (forms : Forms program Has unit held result map) where
    abbrev Is : Valued → Type 0
    Is x = ValuedIs program Has unit held result map x

    abbrev G : Asked → Valued → Type 0
    G a x = Given program Has unit held result map forms a x

    -- the first two of the parameters as they are asked for
    abbrev pub AreGiven : Predeclared → List Valued → Type 0
    AreGiven f [] = Unit {0}
    AreGiven f (x ∷ []) = G (asked_first f) x
    AreGiven f (x ∷ y ∷ ys) = G (asked_first f) x × G (asked_second f) y

    module _ (o : Option Received) (w : Where) where
      abbrev M : Meant → Type 0
      M m = MeantIs program Has unit held result map o w m

      abbrev There : Option (Judged Meant) → Type 0
      There o = IfThere (Makes M) o

      abbrev say : (j : Judged Valued) → misplaced w true ≡ false → Makes Is j → Makes M (made (λ v. means.Call v) j)
      say = said program Has unit held result map forms o w

      abbrev monad : (o : Unary) (at : Pos) (x : Valued) → Is x → Ex (expr_view (tree x)) (typed.unary_in program Has unit held result o) → Makes Is (monadic o at x)
      monad = monadic_is program Has unit held result map forms

      abbrev wide : (x : Valued) (w v : Width) → Is x → width_of map x ≡ Some w → Within w v → Ex (expr_view (tree x)) (integer v)
      wide = width_fits program Has unit held result map forms

      abbrev simple : (x : Valued) (b : Basic) → shapes.width_of (Some b) ≡ None → Is x → is map b x ≡ true → Ex (expr_view (tree x)) (BasicForm b)
      simple = basic_fits program Has unit held result map forms

      abbrev long : (x : Valued) → Is x → is_integer map x ≡ true → Ex (expr_view (tree x)) longint
      long = long_fits program Has unit held result map forms

      one_fits : (f : Predeclared) (at : Pos) (x : Valued) → misplaced w (is_function f) ≡ false → G (asked_first f) x → There (fit_one map f at x)
      one_fits pre.Abs at x e h = so_is (Makes M) (width_of map x) (λ v. value (monadic (unary.Abs v) at x)) (λ v f. say (monadic (unary.Abs v) at x) e (monad (unary.Abs v) at x h (wide x v v h f typed.same)))
      one_fits pre.Cap at x e h = when_is (Makes M) (is map basic.Char x) unary.Cap (λ o. value (monadic o at x)) (λ f. say (monadic unary.Cap at x) e (monad unary.Cap at x h (simple x basic.Char refl h f)))
      one_fits pre.Chr at x e h = when_is (Makes M) (is_integer map x) unary.Chr (λ o. value (monadic o at x)) (λ f. say (monadic unary.Chr at x) e (monad unary.Chr at x h (long x h f)))
      one_fits pre.Long at x e h =
          so_is (Makes M) (width_of map x) (λ v. and_so (longer v) (λ l. value (monadic (unary.Long l) at x))) λ v f.
          so_is (Makes M) (longer v) (λ l. value (monadic (unary.Long l) at x)) λ l g. say (monadic (unary.Long l) at x) e (monad (unary.Long l) at x h (wide x v l h f (longer_within v l g)))
      one_fits pre.Short at x e h =
          so_is (Makes M) (width_of map x) (λ v. and_so (shorter v) (λ l. value (monadic (unary.Short l) at x))) λ v f.
          so_is (Makes M) (shorter v) (λ l. value (monadic (unary.Short l) at x)) λ l g. say (monadic (unary.Short l) at x) e (monad (unary.Short l) at x h (wide x v width.LongInt h f (within_long v)))
      one_fits pre.Odd at x e h = when_is (Makes M) (is_integer map x) unary.Odd (λ o. value (monadic o at x)) (λ f. say (monadic unary.Odd at x) e (monad unary.Odd at x h (long x h f)))
      one_fits pre.Ord at x e h = when_is (Makes M) (is map basic.Char x) unary.Ord (λ o. value (monadic o at x)) (λ f. say (monadic unary.Ord at x) e (monad unary.Ord at x h (simple x basic.Char refl h f)))
      one_fits pre.Len at x e h = so_is (Makes M) (place_in x) (λ p. len_at map 0 p) (λ p f. len_there program Has unit held result map forms o w 0 p (place_given program Has unit held result map forms o w x p h f) e)
      one_fits pre.Assert at x e h = if_so (Makes M) (is map basic.Boolean x) (sound (means.Statement (record { inner = stmt.Assert (tree x) (pos 0) at }))) (asserted program Has unit held result map forms o w x (pos 0) at h)
      one_fits pre.Halt at x e h = so_is (Makes M) (number_in (constant_in x)) (λ z. does (stmt.Halt z at)) (λ z f. done program Has unit held result map forms o w (stmt.Halt z at) (Halt z at) (view_halt z at) (λ l. tt))
      one_fits pre.Inc at x e h = stepped program Has unit held result map forms o w update.Inc at x one (inc_ok program Has unit held result map forms o w) h (one_is program Has unit held result map forms o w)
      one_fits pre.Dec at x e h = stepped program Has unit held result map forms o w update.Dec at x one (dec_ok program Has unit held result map forms o w) h (one_is program Has unit held result map forms o w)
      one_fits pre.New at x e h = new_there program Has unit held result map forms o w at x h
      one_fits pre.Ash at x e h = tt
      one_fits pre.Max at x e h = tt
      one_fits pre.Min at x e h = tt
      one_fits pre.Copy at x e h = tt
      one_fits pre.Excl at x e h = tt
      one_fits pre.Incl at x e h = tt

      -- COPY to an array of characters
      copied : (at : Pos) (x y : Valued) → Is x → G asked.Changed y → There (and_so (place_in y) (λ p. if_is (is_text map x && is_chars map y) (sound (means.Statement (record { inner = stmt.Copy (text_tree x) p.designator.inner at })))))
      copied at x y h k =
          so_is (Makes M) (place_in y) (λ p. if_is (is_text map x && is_chars map y) (sound (means.Statement (record { inner = stmt.Copy (text_tree x) p.designator.inner at })))) λ p e.
          if_so (Makes M) (is_text map x && is_chars map y) (sound (means.Statement (record { inner = stmt.Copy (text_tree x) p.designator.inner at }))) λ f.
          let q = k p e in
          let d = designator_view p.designator.inner in
          let g = and_is (is_text map x) (is_chars map y) f in
          let c : typed.IsText program Has unit held result (form_in program (variable_type d)) = subst (typed.IsText program Has unit held result) (sym (form_is program Has unit held result map forms d p.of p.var_record q)) (char_array_is program Has unit held result map forms p.of q.declared.0 (sym (ap (is_chars map) (place_of y p e)) ∙ g.1)) in
          done program Has unit held result map forms o w (stmt.Copy (text_tree x) p.designator.inner at) (Copy (expr_view (text_tree x)) d at) (view_copy (text_tree x) p.designator.inner at) (λ l. (text_fits program Has unit held result map forms x h g.0, (q.fits, c)))

      two_fit : (f : Predeclared) (at : Pos) (x y : Valued) → misplaced w (is_function f) ≡ false → G (asked_first f) x → G (asked_second f) y → There (fit_two map f at x y)
      two_fit pre.Ash at x y e h k = when_is (Makes M) (is_integer map x && is_integer map y) binary.Ash (λ o. value (dyadic o at x y)) (λ f. let g = and_is (is_integer map x) (is_integer map y) f in say (dyadic binary.Ash at x y) e (dyadic_is program Has unit held result map forms binary.Ash at x y h k (record { u = longint; v = longint; ok = typed.ash; left = long x h g.0; right = long y k g.1 })))
      two_fit pre.Len at x y e h k =
          so_is (Makes M) (place_in x) (λ p. and_so (number_in (constant_in y)) (λ z. len_of map z p)) λ p f.
          so_is (Makes M) (number_in (constant_in y)) (λ z. len_of map z p) λ z g. len_number program Has unit held result map forms o w z p (place_given program Has unit held result map forms o w x p h f) e
      two_fit pre.Assert at x y e h k =
          so_is (Makes M) (number_in (constant_in y)) (λ z. if_is (is map basic.Boolean x) (sound (means.Statement (record { inner = stmt.Assert (tree x) z at })))) λ z g.
          if_so (Makes M) (is map basic.Boolean x) (sound (means.Statement (record { inner = stmt.Assert (tree x) z at }))) (asserted program Has unit held result map forms o w x z at h)
      two_fit pre.Inc at x y e h k = stepped program Has unit held result map forms o w update.Inc at x y (inc_ok program Has unit held result map forms o w) h k
      two_fit pre.Dec at x y e h k = stepped program Has unit held result map forms o w update.Dec at x y (dec_ok program Has unit held result map forms o w) h k
      two_fit pre.Incl at x y e h k = element_stepped program Has unit held result map forms o w update.Incl at x y (λ d z i j. (i, j)) h k
      two_fit pre.Excl at x y e h k = element_stepped program Has unit held result map forms o w update.Excl at x y (λ d z i j. (i, j)) h k
      two_fit pre.Copy at x y e h k = copied at x y h k
      two_fit pre.New at x y e h k = many_there program Has unit held result map forms o w at x y h k
      two_fit pre.Abs at x y e h k = tt
      two_fit pre.Cap at x y e h k = tt
      two_fit pre.Chr at x y e h k = tt
      two_fit pre.Long at x y e h k = tt
      two_fit pre.Max at x y e h k = tt
      two_fit pre.Min at x y e h k = tt
      two_fit pre.Odd at x y e h k = tt
      two_fit pre.Ord at x y e h k = tt
      two_fit pre.Short at x y e h k = tt
      two_fit pre.Halt at x y e h k = tt

      fit_there : (f : Predeclared) (at : Pos) (xs : List Valued) → misplaced w (is_function f) ≡ false → AreGiven f xs → There (fit map f at xs)
      fit_there f at [] e h = tt
      fit_there f at (x ∷ []) e h = one_fits f at x e h
      fit_there f at (x ∷ y ∷ []) e h = two_fit f at x y e h.0 h.1
      fit_there f at (x ∷ y ∷ z ∷ zs) e h = tt

      fit_is : (at : Pos) (o : Option (Judged Meant)) → There o → Makes M (if_fit at o)
      fit_is at None h = record { node = tt }
      fit_is at (Some m) h = h

      extreme_there : (max : Bool) (at : Pos) (t : Option TypeRef) (b : Option Basic) → misplaced w true ≡ false → Makes M (extreme_of max at t b)
      extreme_there max at (Some t) (Some b) e = record { node = function_there program Has unit held result map forms o w (constant (extreme max b)) e (extreme_is max b) }
      extreme_there max at (Some t) None e = record { node = tt }
      extreme_there max at None b e = record { node = tt }

  -- CALLS

  module _ (u : Around) (scoped : IsScoped program Has unit held result u) (w : Where) where
    abbrev N : Meant → Type 0
    N m = MeantIs program Has unit held result (map_of u) u.receiver w m

    abbrev Giv : Asked → Valued → Type 0
    Giv a x = Given program Has unit held result (map_of u) scoped.forms a x

    changed_place : (start : Pos) (m : Meant) → MeantIs program Has unit held result (map_of u) u.receiver InExpression m → Makes (Giv asked.Changed) (changed_meant start m)
    changed_place start (means.Place p) h = makes_unless (Giv asked.Changed) p.read_only rule.NotChangeable start (value_at p) (λ e q f. subst (PlaceIs program Has unit held result (map_of u)) (some_same f) h.0)
    changed_place start (means.Call x) h = record { node = λ p e. none_some (sym (no_place x) ∙ e) }
    changed_place start (means.Constant v) h = record { node = tt }
    changed_place start (means.Procedure q s) h = record { node = tt }
    changed_place start (means.Bound c) h = record { node = tt }
    changed_place start (means.Out o) h = record { node = tt }
    changed_place start (means.Predeclared f) h = record { node = tt }
    changed_place start (means.Statement s) h = record { node = tt }

    changed_is : (p : Phrase) (o : Option (Around → Judged Meant)) → PhraseIs program Has unit held result p → MeantBy program Has unit held result o u → Makes (Giv asked.Changed) (changed_as u p o)
    changed_is p None h k = makes_made (ValuedIs program Has unit held result (map_of u)) (Giv asked.Changed) (p.value u) only_value (h.value u scoped) (λ x l q e. none_some (sym (no_place x) ∙ e))
    changed_is p (Some f) h k = makes_then (MeantIs program Has unit held result (map_of u) u.receiver InExpression) (Giv asked.Changed) (f u) (changed_meant p.start) k (λ m l. changed_place p.start m l)

    parameter_is : (a : Asked) (p : Phrase) → PhraseIs program Has unit held result p → Makes (Giv a) (parameter u a p)
    parameter_is asked.Value p h = record { node = (h.value u scoped).node }
    parameter_is asked.Changed p h = changed_is p p.meant h (h.meant u scoped)
    parameter_is asked.Constant p h = makes_then (ValuedIs program Has unit held result (map_of u)) (Giv asked.Constant) (p.value u) (λ x. wants (is_some (constant_in x)) rule.NotConstant p.start x) (h.value u scoped) (λ x k. makes_wants (Giv asked.Constant) (is_some (constant_in x)) rule.NotConstant p.start x (λ e. k))

    given_all : (f : Predeclared) (ps : List Phrase) → ArePhrases program Has unit held result ps → Makes (AreGiven (map_of u) scoped.forms f) (each_sound (parameters u f ps))
    given_all f [] h = record { node = tt }
    given_all f (p ∷ []) h =
        makes_made (λ r. Giv (asked_first f) r.0 × (r.1 ≡ [])) (AreGiven (map_of u) scoped.forms f) (both (parameter u (asked_first f) p) (sound [])) (λ r. r.0 ∷ r.1)
        (makes_both (Giv (asked_first f)) (λ xs. xs ≡ []) (parameter u (asked_first f) p) (sound []) (parameter_is (asked_first f) p h.0) (record { node = refl }))
        (λ r k. subst (λ xs. AreGiven (map_of u) scoped.forms f (r.0 ∷ xs)) (sym k.1) k.0)
    given_all f (p ∷ q ∷ qs) h =
        makes_made (λ r. Giv (asked_first f) r.0 × SecondIs r.1) (AreGiven (map_of u) scoped.forms f) (both (parameter u (asked_first f) p) (each_sound (parameter u (asked_second f) q ∷ values u qs))) (λ r. r.0 ∷ r.1)
        (makes_both (Giv (asked_first f)) SecondIs (parameter u (asked_first f) p) (each_sound (parameter u (asked_second f) q ∷ values u qs)) (parameter_is (asked_first f) p h.0)
        (makes_made (λ r. Giv (asked_second f) r.0 × Unit {0}) SecondIs (both (parameter u (asked_second f) q) (each_sound (values u qs))) (λ r. r.0 ∷ r.1)
        (makes_both (Giv (asked_second f)) (λ x. Unit {0}) (parameter u (asked_second f) q) (each_sound (values u qs)) (parameter_is (asked_second f) q h.1.0) (makes_any (each_sound (values u qs))))
        (λ r k. k.0)))
        (λ r k. pair r.0 r.1 k.0 k.1)
      where
        SecondIs : List Valued → Type 0
        SecondIs [] = ⊥
        SecondIs (y ∷ ys) = Giv (asked_second f) y

        pair : (x : Valued) (ys : List Valued) → Giv (asked_first f) x → SecondIs ys → AreGiven (map_of u) scoped.forms f (x ∷ ys)
        pair x [] a b = absurd b
        pair x (y ∷ ys) a b = (a, b)

    fitted : (at : Pos) (f : Predeclared) (ps : List Phrase) → ArePhrases program Has unit held result ps → Makes N (each_sound (parameters u f ps) ▷ call_fit u w f at)
    fitted at f ps h =
        makes_then (AreGiven (map_of u) scoped.forms f) N (each_sound (parameters u f ps)) (call_fit u w f at) (given_all f ps h) λ xs k.
        makes_also N (misplaced w (is_function f)) rule.MisplacedCall at (if_fit at (fit (map_of u) f at xs)) λ e.
        fit_is (map_of u) scoped.forms u.receiver w at (fit (map_of u) f at xs) (fit_there (map_of u) scoped.forms u.receiver w f at xs e k)

    extreme_call_is : (max : Bool) (at : Pos) (ps : List Phrase) → Makes N (extreme_call max u w at ps)
    extreme_call_is max at [] = makes_also N (misplaced w true) rule.MisplacedCall at (breaks rule.UnfitPredeclaredParameters at) (λ e. record { node = tt })
    extreme_call_is max at (p ∷ []) =
        makes_then (λ t. Unit {0}) N (type_parameter u p p.name) (λ t. also (misplaced w true) rule.MisplacedCall at (extreme_of max at t (basic_if (map_of u) t))) (makes_any (type_parameter u p p.name)) λ t k.
        makes_also N (misplaced w true) rule.MisplacedCall at (extreme_of max at t (basic_if (map_of u) t)) (λ e. extreme_there (map_of u) scoped.forms u.receiver w max at t (basic_if (map_of u) t) e)
    extreme_call_is max at (p ∷ q ∷ qs) =
        makes_then (λ t. Unit {0}) N (type_parameter u p p.name) (λ t. each_sound (values u (q ∷ qs)) ▷ λ xs. also (misplaced w true) rule.MisplacedCall at (breaks rule.UnfitPredeclaredParameters at)) (makes_any (type_parameter u p p.name)) λ t k.
        makes_then (λ xs. Unit {0}) N (each_sound (values u (q ∷ qs))) (λ xs. also (misplaced w true) rule.MisplacedCall at (breaks rule.UnfitPredeclaredParameters at)) (makes_any (each_sound (values u (q ∷ qs)))) λ xs l.
        makes_also N (misplaced w true) rule.MisplacedCall at (breaks rule.UnfitPredeclaredParameters at) (λ e. record { node = tt })

    pub call_predeclared_is : (at : Pos) (f : Predeclared) (ps : List Phrase) → ArePhrases program Has unit held result ps → Makes N (call_predeclared u w at f ps)
    call_predeclared_is at pre.Max ps h = extreme_call_is true at ps
    call_predeclared_is at pre.Min ps h = extreme_call_is false at ps
    call_predeclared_is at pre.Abs ps h = fitted at pre.Abs ps h
    call_predeclared_is at pre.Ash ps h = fitted at pre.Ash ps h
    call_predeclared_is at pre.Cap ps h = fitted at pre.Cap ps h
    call_predeclared_is at pre.Chr ps h = fitted at pre.Chr ps h
    call_predeclared_is at pre.Len ps h = fitted at pre.Len ps h
    call_predeclared_is at pre.Long ps h = fitted at pre.Long ps h
    call_predeclared_is at pre.Odd ps h = fitted at pre.Odd ps h
    call_predeclared_is at pre.Ord ps h = fitted at pre.Ord ps h
    call_predeclared_is at pre.Short ps h = fitted at pre.Short ps h
    call_predeclared_is at pre.Assert ps h = fitted at pre.Assert ps h
    call_predeclared_is at pre.Copy ps h = fitted at pre.Copy ps h
    call_predeclared_is at pre.Dec ps h = fitted at pre.Dec ps h
    call_predeclared_is at pre.Excl ps h = fitted at pre.Excl ps h
    call_predeclared_is at pre.Halt ps h = fitted at pre.Halt ps h
    call_predeclared_is at pre.Inc ps h = fitted at pre.Inc ps h
    call_predeclared_is at pre.Incl ps h = fitted at pre.Incl ps h
    call_predeclared_is at pre.New ps h = fitted at pre.New ps h
