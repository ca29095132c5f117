-- Calls of predeclared procedures leave nothing for later.
use Rattle.std.proofs.Common.{◌≡◌, ℕ, Bool, true, false, List, [], ◌∷◌, Option, Some, None, refl}
use Rattle.std.specs.Prelude.{◌&&◌, nat_eq, is_some, ℤ, pos, negsuc}
use Rattle.std.specs.List.{AllByRecursion}
use Rattle.ob_tree.specs.declared.pos.Pos.{Pos}
use Rattle.ob_tree.specs.declared.names.QName.{QName}
use Rattle.ob_tree.specs.declared.ident.Qualident.{Qualident}
use Rattle.ob_types.specs.declared.types.Basic.{Basic}
use Rattle.ob_types.specs.declared.types.Basic.TheVariants as basic
use Rattle.ob_types.specs.declared.types.TypeRef.{TypeRef}
use Rattle.ob_types.specs.declared.value.Value.{Value}
use Rattle.ob_types.specs.declared.typed.Width.{Width}
use Rattle.ob_types.specs.declared.typed.Unary.{Unary}
use Rattle.ob_types.specs.declared.typed.Unary.TheVariants as unary
use Rattle.ob_types.specs.declared.typed.Binary.TheVariants as binary
use Rattle.ob_types.specs.declared.typed.Update.{Update}
use Rattle.ob_types.specs.declared.typed.Update.TheVariants as update
use Rattle.ob_types.specs.declared.typed.Made.TheVariants as made_of
use Rattle.ob_types.specs.declared.typed.TypedStmt.{TypedStmt}
use Rattle.ob_types.specs.declared.typed.TypedStmt.TheVariants as stmt
use Rattle.ob_rules.specs.declared.meant.Meant.{Meant}
use Rattle.ob_rules.specs.declared.meant.Meant.TheVariants as means
use Rattle.ob_rules.specs.declared.meant.Asked.{Asked}
use Rattle.ob_rules.specs.declared.meant.Asked.TheVariants as asked
use Rattle.ob_rules.specs.declared.meant.Where.{Where}
use Rattle.ob_rules.specs.declared.broken.Predeclared.{Predeclared}
use Rattle.ob_rules.specs.declared.broken.Predeclared.TheVariants as pre
use Rattle.ob_rules.specs.declared.values.Place.{Place}
use Rattle.ob_rules.specs.declared.values.Valued.{Valued}
use Rattle.ob_rules.specs.declared.broken.Rule.TheVariants as rule
use Rattle.ob_rules.specs.Judged.{Judged, sound, breaks, also, wants, unless, each_sound, made, ◌▷◌}
use Rattle.ob_rules.specs.Shapes.{Map, array_of, pointed, is_held, record_of}
use Rattle.ob_rules.specs.Names.{Around, map_of, type_named}
use Rattle.ob_rules.specs.Values.{value_at, is, width as width_of, is_integer, is_chars, text_tree, tree, constant_in, place_in}
use Rattle.ob_rules.specs.Operators.{monadic, dyadic, only_value, and_so}
use Rattle.ob_rules.specs.Calls.{misplaced}
use Rattle.ob_rules.specs.Phrases.{Phrase}
use Rattle.ob_rules.specs.Predeclared.{changed_meant, changed_as, changed, must_be_constant, values, asked_first, asked_second, parameter, parameters_behind, parameters, is_function, value, does, if_is, on_width, longer, shorter, dimension, length_of, len_at, len_of, number_in, one, step, element_step, is_text, new_array, new_fixed, new_elements, if_held, new_one, new_many, fit_one, fit_two, fit, if_fit, call_fit, type_parameter, extreme_of, basic_if, extreme_call, call_predeclared}
use Rattle.law_local_module.proofs.Leaves.{Nil, AllNil, then_nil, made_nil, each_nil, unless_nil, wants_nil, also_nil, type_nil}
use Rattle.law_local_module.proofs.Operators.{monadic_nil, dyadic_nil}

-- a phrase that leaves nothing
abbrev pub MeantNil : Around → Option (Around → Judged Meant) → Type 0
MeantNil u None = Unit {0}
MeantNil u (Some f) = Nil (f u)

pub record PhraseNil (u : Around) (p : Phrase) : Type 0 where
  pub value : Nil (p.value u)
  pub meant : MeantNil u p.meant

abbrev pub PhrasesNil : Around → List Phrase → Type 0
PhrasesNil u ps = AllByRecursion (PhraseNil u) ps

-- ---- what fits

abbrev Good : Option (Judged Meant) → Type 0
Good None = Unit {0}
Good (Some j) = Nil j

value_good : (x : Judged Valued) → Nil x → Good (value x)
value_good x h = made_nil (λ v. means.Call v) x h

so_good : {A : Type 0} (o : Option A) (f : A → Option (Judged Meant)) → ((x : A) → Good (f x)) → Good (and_so o f)
so_good None f h = tt
so_good (Some x) f h = h x

if_good : (c : Bool) (j : Judged Meant) → Nil j → Good (if_is c j)
if_good true j h = h
if_good false j h = tt

held_good : (c : Bool) (o : Option (Judged Meant)) → Good o → Good (if_held c o)
held_good true o h = h
held_good false o h = refl

unary_good : (at : Pos) (x : Valued) (o : Option Unary) → Good (and_so o (λ k. value (monadic k at x)))
unary_good at x o = so_good o (λ k. value (monadic k at x)) (λ k. value_good (monadic k at x) (monadic_nil k at x))

length_good : (o : Option ℕ) (b : Bool) (p : Place) → Good (length_of o b p)
length_good (Some n) b p = refl
length_good None true p = refl
length_good None false p = tt

len_at_good : (map : Map) (n : ℕ) (p : Place) → Good (len_at map n p)
len_at_good map n p = so_good (dimension map n p.of) (λ a. length_of a.0 (nat_eq n 0) p) (λ a. length_good a.0 (nat_eq n 0) p)

len_good : (map : Map) (z : ℤ) (p : Place) → Good (len_of map z p)
len_good map (pos n) p = len_at_good map n p
len_good map (negsuc n) p = tt

step_good : (map : Map) (k : Width → Update) (at : Pos) (x n : Valued) → Good (step map k at x n)
step_good map k at x n =
    so_good (place_in x) (λ p. and_so (width_of map x) (λ w. and_so (width_of map n) (λ c. does (stmt.Update (k w) p.designator.inner (tree n) at))))
    (λ p. so_good (width_of map x) (λ w. and_so (width_of map n) (λ c. does (stmt.Update (k w) p.designator.inner (tree n) at)))
    (λ w. so_good (width_of map n) (λ c. does (stmt.Update (k w) p.designator.inner (tree n) at)) (λ c. refl)))

element_good : (map : Map) (k : Update) (at : Pos) (x n : Valued) → Good (element_step map k at x n)
element_good map k at x n =
    so_good (place_in x) (λ p. and_so (width_of map n) (λ c. and_so (if_is (is map basic.Set x) k) (λ o. does (stmt.Update o p.designator.inner (tree n) at))))
    (λ p. so_good (width_of map n) (λ c. and_so (if_is (is map basic.Set x) k) (λ o. does (stmt.Update o p.designator.inner (tree n) at)))
    (λ w. so_good (if_is (is map basic.Set x) k) (λ o. does (stmt.Update o p.designator.inner (tree n) at)) (λ c. refl)))

array_good : (o : Option ℕ) (p : Place) (base : TypeRef) (at : Pos) → Good (new_array o p base at)
array_good (Some n) p base at = refl
array_good None p base at = tt

fixed_good : (q : Option QName) (a : Option (Option ℕ × TypeRef)) (p : Place) (base : TypeRef) (at : Pos) → Good (new_fixed q a p base at)
fixed_good (Some q) a p base at = refl
fixed_good None (Some a) p base at = array_good a.0 p base at
fixed_good None None p base at = tt

elements_good : (o : Option ℕ) (t : TypeRef) (p : Place) (n : Valued) (at : Pos) → Good (new_elements o t p n at)
elements_good (Some k) t p n at = tt
elements_good None t p n at = refl

new_one_good : (map : Map) (at : Pos) (x : Valued) → Good (new_one map at x)
new_one_good map at x =
    so_good (place_in x) (λ p. and_so (pointed map p.of) (λ base. if_held (is_held map base) (new_fixed (record_of map base) (array_of map base) p base at)))
    (λ p. so_good (pointed map p.of) (λ base. if_held (is_held map base) (new_fixed (record_of map base) (array_of map base) p base at))
    (λ base. held_good (is_held map base) (new_fixed (record_of map base) (array_of map base) p base at) (fixed_good (record_of map base) (array_of map base) p base at)))

new_many_good : (map : Map) (at : Pos) (x n : Valued) → Good (new_many map at x n)
new_many_good map at x n =
    so_good (place_in x) (λ p. and_so (width_of map n) (λ w. and_so (pointed map p.of) (λ base. if_held (is_held map base) (and_so (array_of map base) (λ a. new_elements a.0 a.1 p n at)))))
    (λ p. so_good (width_of map n) (λ w. and_so (pointed map p.of) (λ base. if_held (is_held map base) (and_so (array_of map base) (λ a. new_elements a.0 a.1 p n at))))
    (λ w. so_good (pointed map p.of) (λ base. if_held (is_held map base) (and_so (array_of map base) (λ a. new_elements a.0 a.1 p n at)))
    (λ base. held_good (is_held map base) (and_so (array_of map base) (λ a. new_elements a.0 a.1 p n at)) (so_good (array_of map base) (λ a. new_elements a.0 a.1 p n at) (λ a. elements_good a.0 a.1 p n at)))))

one_good : (map : Map) (f : Predeclared) (at : Pos) (x : Valued) → Good (fit_one map f at x)
one_good map pre.Abs at x = so_good (width_of map x) (λ w. value (monadic (unary.Abs w) at x)) (λ w. value_good (monadic (unary.Abs w) at x) (monadic_nil (unary.Abs w) at x))
one_good map pre.Cap at x = unary_good at x (if_is (is map basic.Char x) unary.Cap)
one_good map pre.Chr at x = unary_good at x (if_is (is_integer map x) unary.Chr)
one_good map pre.Long at x =
    so_good (width_of map x) (λ w. and_so (longer w) (λ l. value (monadic (unary.Long l) at x)))
    (λ w. so_good (longer w) (λ l. value (monadic (unary.Long l) at x)) (λ l. value_good (monadic (unary.Long l) at x) (monadic_nil (unary.Long l) at x)))
one_good map pre.Short at x =
    so_good (width_of map x) (λ w. and_so (shorter w) (λ l. value (monadic (unary.Short l) at x)))
    (λ w. so_good (shorter w) (λ l. value (monadic (unary.Short l) at x)) (λ l. value_good (monadic (unary.Short l) at x) (monadic_nil (unary.Short l) at x)))
one_good map pre.Odd at x = unary_good at x (if_is (is_integer map x) unary.Odd)
one_good map pre.Ord at x = unary_good at x (if_is (is map basic.Char x) unary.Ord)
one_good map pre.Len at x = so_good (place_in x) (λ p. len_at map 0 p) (λ p. len_at_good map 0 p)
one_good map pre.Assert at x = if_good (is map basic.Boolean x) (sound (means.Statement (record { inner = stmt.Assert (tree x) (pos 0) at }))) refl
one_good map pre.Halt at x = so_good (number_in (constant_in x)) (λ z. does (stmt.Halt z at)) (λ z. refl)
one_good map pre.Inc at x = step_good map update.Inc at x one
one_good map pre.Dec at x = step_good map update.Dec at x one
one_good map pre.New at x = new_one_good map at x
one_good map f at x = tt

two_good : (map : Map) (f : Predeclared) (at : Pos) (x n : Valued) → Good (fit_two map f at x n)
two_good map pre.Ash at x n = so_good (if_is (is_integer map x && is_integer map n) binary.Ash) (λ k. value (dyadic k at x n)) (λ k. value_good (dyadic k at x n) (dyadic_nil k at x n))
two_good map pre.Len at x n = so_good (place_in x) (λ p. and_so (number_in (constant_in n)) (λ z. len_of map z p)) (λ p. so_good (number_in (constant_in n)) (λ z. len_of map z p) (λ z. len_good map z p))
two_good map pre.Assert at x n =
    so_good (number_in (constant_in n)) (λ z. if_is (is map basic.Boolean x) (sound (means.Statement (record { inner = stmt.Assert (tree x) z at }))))
    (λ z. if_good (is map basic.Boolean x) (sound (means.Statement (record { inner = stmt.Assert (tree x) z at }))) refl)
two_good map pre.Inc at x n = step_good map update.Inc at x n
two_good map pre.Dec at x n = step_good map update.Dec at x n
two_good map pre.Incl at x n = element_good map update.Incl at x n
two_good map pre.Excl at x n = element_good map update.Excl at x n
two_good map pre.Copy at x y =
    so_good (place_in y) (λ p. if_is (is_text map x && is_chars map y) (sound (means.Statement (record { inner = stmt.Copy (text_tree x) p.designator.inner at }))))
    (λ p. if_good (is_text map x && is_chars map y) (sound (means.Statement (record { inner = stmt.Copy (text_tree x) p.designator.inner at }))) refl)
two_good map pre.New at x n = new_many_good map at x n
two_good map f at x n = tt

fit_good : (map : Map) (f : Predeclared) (at : Pos) (xs : List Valued) → Good (fit map f at xs)
fit_good map f at [] = tt
fit_good map f at (x ∷ []) = one_good map f at x
fit_good map f at (x ∷ y ∷ []) = two_good map f at x y
fit_good map f at (x ∷ y ∷ z ∷ zs) = tt

or_breaks : (at : Pos) (o : Option (Judged Meant)) → Good o → Nil (if_fit at o)
or_breaks at None h = refl
or_breaks at (Some j) h = h

-- ---- parameters

module _ (u : Around) where
  changed_of : (start : Pos) (m : Meant) → Nil (changed_meant start m)
  changed_of start (means.Place p) = unless_nil p.read_only rule.NotChangeable start (value_at p)
  changed_of start m = refl

  changed_nil : (p : Phrase) → Nil (p.value u) → (o : Option (Around → Judged Meant)) → MeantNil u o → Nil (changed_as u p o)
  changed_nil p h None k = made_nil only_value (p.value u) h
  changed_nil p h (Some f) k = then_nil (f u) (changed_meant p.start) k (λ m. changed_of p.start m)

  parameter_nil : (a : Asked) (p : Phrase) → PhraseNil u p → Nil (parameter u a p)
  parameter_nil asked.Value p h = h.value
  parameter_nil asked.Changed p h = changed_nil p h.value p.meant h.meant
  parameter_nil asked.Constant p h = then_nil (p.value u) (λ x. wants (is_some (constant_in x)) rule.NotConstant p.start x) h.value (λ x. wants_nil (is_some (constant_in x)) rule.NotConstant p.start x)

  values_nil : (ps : List Phrase) → PhrasesNil u ps → AllNil (values u ps)
  values_nil [] h = tt
  values_nil (p ∷ ps) h = (h.0.value, values_nil ps h.1)

  behind_nil : (f : Predeclared) (ps : List Phrase) → PhrasesNil u ps → AllNil (parameters_behind u f ps)
  behind_nil f [] h = tt
  behind_nil f (p ∷ ps) h = (parameter_nil (asked_second f) p h.0, values_nil ps h.1)

  parameters_nil : (f : Predeclared) (ps : List Phrase) → PhrasesNil u ps → AllNil (parameters u f ps)
  parameters_nil f [] h = tt
  parameters_nil f (p ∷ ps) h = (parameter_nil (asked_first f) p h.0, behind_nil f ps h.1)

  type_parameter_nil : (p : Phrase) → Nil (p.value u) → (o : Option Qualident) → Nil (type_parameter u p o)
  type_parameter_nil p h None = then_nil (p.value u) (λ x. sound None) h (λ x. refl)
  type_parameter_nil p h (Some q) = made_nil (λ t. Some t) (type_named u q) (type_nil u q)

  extreme_nil : (max : Bool) (at : Pos) (t : Option TypeRef) (b : Option Basic) → Nil (extreme_of max at t b)
  extreme_nil max at (Some t) (Some b) = refl
  extreme_nil max at (Some t) None = refl
  extreme_nil max at None b = refl

  extremes : (max : Bool) (w : Where) (at : Pos) (ps : List Phrase) → PhrasesNil u ps → Nil (extreme_call max u w at ps)
  extremes max w at [] h = also_nil (misplaced w true) rule.MisplacedCall at (breaks rule.UnfitPredeclaredParameters at) refl
  extremes max w at (p ∷ []) h =
      then_nil (type_parameter u p p.name) (λ t. also (misplaced w true) rule.MisplacedCall at (extreme_of max at t (basic_if (map_of u) t))) (type_parameter_nil p h.0.value p.name)
      (λ t. also_nil (misplaced w true) rule.MisplacedCall at (extreme_of max at t (basic_if (map_of u) t)) (extreme_nil max at t (basic_if (map_of u) t)))
  extremes max w at (p ∷ q ∷ ps) h =
      then_nil (type_parameter u p p.name) (λ t. each_sound (values u (q ∷ ps)) ▷ λ xs. also (misplaced w true) rule.MisplacedCall at (breaks rule.UnfitPredeclaredParameters at)) (type_parameter_nil p h.0.value p.name)
      (λ t. then_nil (each_sound (values u (q ∷ ps))) (λ xs. also (misplaced w true) rule.MisplacedCall at (breaks rule.UnfitPredeclaredParameters at)) (each_nil (values u (q ∷ ps)) (values_nil (q ∷ ps) h.1)) (λ xs. also_nil (misplaced w true) rule.MisplacedCall at (breaks rule.UnfitPredeclaredParameters at) refl))

  others : (f : Predeclared) (w : Where) (at : Pos) (ps : List Phrase) → PhrasesNil u ps → Nil (each_sound (parameters u f ps) ▷ call_fit u w f at)
  others f w at ps h =
      then_nil (each_sound (parameters u f ps)) (call_fit u w f at) (each_nil (parameters u f ps) (parameters_nil f ps h))
      (λ xs. also_nil (misplaced w (is_function f)) rule.MisplacedCall at (if_fit at (fit (map_of u) f at xs)) (or_breaks at (fit (map_of u) f at xs) (fit_good (map_of u) f at xs)))

  pub predeclared_nil : (f : Predeclared) (w : Where) (at : Pos) (ps : List Phrase) → PhrasesNil u ps → Nil (call_predeclared u w at f ps)
  predeclared_nil pre.Max w at ps h = extremes true w at ps h
  predeclared_nil pre.Min w at ps h = extremes false w at ps h
  predeclared_nil pre.Abs w at ps h = others pre.Abs w at ps h
  predeclared_nil pre.Ash w at ps h = others pre.Ash w at ps h
  predeclared_nil pre.Cap w at ps h = others pre.Cap w at ps h
  predeclared_nil pre.Chr w at ps h = others pre.Chr w at ps h
  predeclared_nil pre.Len w at ps h = others pre.Len w at ps h
  predeclared_nil pre.Long w at ps h = others pre.Long w at ps h
  predeclared_nil pre.Odd w at ps h = others pre.Odd w at ps h
  predeclared_nil pre.Ord w at ps h = others pre.Ord w at ps h
  predeclared_nil pre.Short w at ps h = others pre.Short w at ps h
  predeclared_nil pre.Assert w at ps h = others pre.Assert w at ps h
  predeclared_nil pre.Copy w at ps h = others pre.Copy w at ps h
  predeclared_nil pre.Dec w at ps h = others pre.Dec w at ps h
  predeclared_nil pre.Excl w at ps h = others pre.Excl w at ps h
  predeclared_nil pre.Halt w at ps h = others pre.Halt w at ps h
  predeclared_nil pre.Inc w at ps h = others pre.Inc w at ps h
  predeclared_nil pre.Incl w at ps h = others pre.Incl w at ps h
  predeclared_nil pre.New w at ps h = others pre.New w at ps h
