-- Calls of predeclared procedures have a node, or break a rule.
use Rattle.std.proofs.Common.{◌≡◌, ℕ, Bool, true, false, List, [], ◌∷◌, Option, Some, None, refl}
use Rattle.std.specs.Prelude.{◌&&◌, nat_eq, is_some, ℤ, pos, negsuc}
use Rattle.std.specs.List.{AllByRecursion}
use Rattle.std.proofs.lemmas.Bool.{false≢true}
use Rattle.ob_tree.specs.declared.pos.Pos.{Pos}
use Rattle.ob_tree.specs.declared.names.QName.{QName}
use Rattle.ob_tree.specs.declared.ident.Qualident.{Qualident}
use Rattle.ob_types.specs.declared.types.Basic.{Basic}
use Rattle.ob_types.specs.declared.types.Basic.TheVariants as basic
use Rattle.ob_types.specs.declared.types.TypeRef.{TypeRef}
use Rattle.ob_types.specs.declared.value.Value.{Value}
use Rattle.ob_types.specs.declared.typed.Width.{Width}
use Rattle.ob_types.specs.declared.typed.Unary.{Unary}
use Rattle.ob_types.specs.declared.typed.Unary.TheVariants as unary
use Rattle.ob_types.specs.declared.typed.Binary.TheVariants as binary
use Rattle.ob_types.specs.declared.typed.Update.{Update}
use Rattle.ob_types.specs.declared.typed.Update.TheVariants as update
use Rattle.ob_types.specs.declared.typed.Made.TheVariants as made_of
use Rattle.ob_types.specs.declared.typed.TypedStmt.{TypedStmt}
use Rattle.ob_types.specs.declared.typed.TypedStmt.TheVariants as stmt
use Rattle.ob_rules.specs.declared.meant.Meant.{Meant}
use Rattle.ob_rules.specs.declared.meant.Meant.TheVariants as means
use Rattle.ob_rules.specs.declared.meant.Asked.{Asked}
use Rattle.ob_rules.specs.declared.meant.Asked.TheVariants as asked
use Rattle.ob_rules.specs.declared.meant.Where.{Where}
use Rattle.ob_rules.specs.declared.meant.Where.TheVariants.{InExpression, AsStatement, Elsewhere}
use Rattle.ob_rules.specs.declared.broken.Predeclared.{Predeclared}
use Rattle.ob_rules.specs.declared.broken.Predeclared.TheVariants as pre
use Rattle.ob_rules.specs.declared.values.Place.{Place}
use Rattle.ob_rules.specs.declared.values.Valued.{Valued}
use Rattle.ob_rules.specs.declared.broken.Rule.TheVariants as rule
use Rattle.ob_rules.specs.Judged.{Judged, sound, breaks, also, wants, unless, each_sound, made, ◌▷◌}
use Rattle.ob_rules.specs.Shapes.{Map, array_of, pointed, is_held, record_of}
use Rattle.ob_rules.specs.Names.{Around, map_of, type_named}
use Rattle.ob_rules.specs.Values.{value_at, is, width as width_of, is_integer, is_chars, text_tree, tree, constant_in, place_in}
use Rattle.ob_rules.specs.Operators.{monadic, dyadic, only_value, and_so}
use Rattle.ob_rules.specs.Calls.{misplaced}
use Rattle.ob_rules.specs.Phrases.{Phrase}
use Rattle.ob_rules.specs.Predeclared.{changed_meant, changed_as, changed, must_be_constant, values, asked_first, asked_second, parameter, parameters_behind, parameters, is_function, value, does, if_is, on_width, longer, shorter, dimension, length_of, len_at, len_of, number_in, one, step, element_step, is_text, new_array, new_fixed, new_elements, if_held, new_one, new_many, fit_one, fit_two, fit, if_fit, call_fit, type_parameter, extreme_of, basic_if, extreme_call, call_predeclared}
use Rattle.law_names_procedures.proofs.Judges.{Has, Speaks, not_empty, speaks_more, breaks_speaks, then_speaks, made_speaks, each_speaks, unless_speaks, wants_speaks, also_speaks}
use Rattle.law_names_procedures.proofs.Knowing.{AreKnown, name_speaks}
use Rattle.law_local_nodes.proofs.Operators.{There, monadic_there, dyadic_there}
use Rattle.law_lists.proofs.Lists.{Anything, IfThere}

-- no call of a predeclared procedure without a result
abbrev pub IsNoStatement : Meant → Type 0
IsNoStatement (means.Statement s) = ⊥
IsNoStatement m = Unit {0}

-- so it is in an expression
abbrev pub Fits : Where → Meant → Type 0
Fits InExpression m = IsNoStatement m
Fits AsStatement m = Unit {0}
Fits Elsewhere m = Unit {0}

pub fits : (w : Where) (m : Meant) → IsNoStatement m → Fits w m
fits InExpression m h = h
fits AsStatement m h = tt
fits Elsewhere m h = tt

-- what a call comes to: a value, or a statement
abbrev pub IsCall : Meant → Type 0
IsCall (means.Call x) = Unit {0}
IsCall m = ⊥

abbrev pub IsDone : Meant → Type 0
IsDone (means.Call x) = Unit {0}
IsDone (means.Statement s) = Unit {0}
IsDone m = ⊥

abbrev pub Comes : Where → Meant → Type 0
Comes InExpression m = IsCall m
Comes AsStatement m = IsDone m
Comes Elsewhere m = IsDone m

call_done : (m : Meant) → IsCall m → IsDone m
call_done (means.Call x) h = tt
call_done m h = absurd h

call_no : (m : Meant) → IsCall m → IsNoStatement m
call_no (means.Statement s) h = h
call_no m h = tt

pub calls_come : (w : Where) (m : Meant) → IsCall m → Comes w m
calls_come InExpression m h = h
calls_come AsStatement m h = call_done m h
calls_come Elsewhere m h = call_done m h

pub comes_fits : (w : Where) (m : Meant) → Comes w m → Fits w m
comes_fits InExpression m h = call_no m h
comes_fits AsStatement m h = tt
comes_fits Elsewhere m h = tt

abbrev FitsBy : Bool → Meant → Type 0
FitsBy true m = IsCall m
FitsBy false m = IsDone m

-- ---- a phrase that has a node, or breaks a rule

abbrev pub MeantThere : Around → Option (Around → Judged Meant) → Type 0
MeantThere u None = Unit {0}
MeantThere u (Some f) = There (f u)

pub record PhraseThere (u : Around) (p : Phrase) : Type 0 where
  pub value : There (p.value u)
  pub meant : MeantThere u p.meant

abbrev pub PhrasesThere : Around → List Phrase → Type 0
PhrasesThere u ps = AllByRecursion (PhraseThere u) ps

-- ---- what fits

abbrev Good : Bool → Option (Judged Meant) → Type 0
Good b o = IfThere (Speaks (FitsBy b)) o

call_fits : (b : Bool) (x : Valued) → FitsBy b (means.Call x)
call_fits true x = tt
call_fits false x = tt

value_good : (b : Bool) (x : Judged Valued) → There x → Good b (value x)
value_good b x h = made_speaks Anything (FitsBy b) (λ v. means.Call v) x h (λ v t. call_fits b v)

does_good : (s : TypedStmt) → Good false (does s)
does_good s = λ n. tt

so_good : {A : Type 0} (b : Bool) (o : Option A) (f : A → Option (Judged Meant)) → ((x : A) → o ≡ Some x → Good b (f x)) → Good b (and_so o f)
so_good b None f h = tt
so_good b (Some x) f h = h x refl

if_good : (b c : Bool) (j : Judged Meant) → Speaks (FitsBy b) j → Good b (if_is c j)
if_good b true j h = h
if_good b false j h = tt

held_good : (b c : Bool) (o : Option (Judged Meant)) → c ≡ true → Good b o → Good b (if_held c o)
held_good b true o e h = h
held_good b false o e h = absurd (false≢true e)

unary_good : (at : Pos) (x : Valued) (o : Option Unary) → Good true (and_so o (λ k. value (monadic k at x)))
unary_good at x o = so_good true o (λ k. value (monadic k at x)) (λ k i. value_good true (monadic k at x) (monadic_there k at x))

length_good : (o : Option ℕ) (b : Bool) (p : Place) → Good true (length_of o b p)
length_good (Some n) b p = λ e. tt
length_good None true p = λ e. tt
length_good None false p = tt

len_at_good : (map : Map) (n : ℕ) (p : Place) → Good true (len_at map n p)
len_at_good map n p = so_good true (dimension map n p.of) (λ a. length_of a.0 (nat_eq n 0) p) (λ a i. length_good a.0 (nat_eq n 0) p)

len_good : (map : Map) (z : ℤ) (p : Place) → Good true (len_of map z p)
len_good map (pos n) p = len_at_good map n p
len_good map (negsuc n) p = tt

step_good : (map : Map) (k : Width → Update) (at : Pos) (x n : Valued) → Good false (step map k at x n)
step_good map k at x n =
    so_good false (place_in x) (λ p. and_so (width_of map x) (λ w. and_so (width_of map n) (λ c. does (stmt.Update (k w) p.designator.inner (tree n) at))))
    (λ p i. so_good false (width_of map x) (λ w. and_so (width_of map n) (λ c. does (stmt.Update (k w) p.designator.inner (tree n) at)))
    (λ w j. so_good false (width_of map n) (λ c. does (stmt.Update (k w) p.designator.inner (tree n) at)) (λ c l. λ e. tt)))

element_good : (map : Map) (k : Update) (at : Pos) (x n : Valued) → Good false (element_step map k at x n)
element_good map k at x n =
    so_good false (place_in x) (λ p. and_so (width_of map n) (λ c. and_so (if_is (is map basic.Set x) k) (λ o. does (stmt.Update o p.designator.inner (tree n) at))))
    (λ p i. so_good false (width_of map n) (λ c. and_so (if_is (is map basic.Set x) k) (λ o. does (stmt.Update o p.designator.inner (tree n) at)))
    (λ w j. so_good false (if_is (is map basic.Set x) k) (λ o. does (stmt.Update o p.designator.inner (tree n) at)) (λ c l. λ e. tt)))

array_good : (o : Option ℕ) (p : Place) (base : TypeRef) (at : Pos) → Good false (new_array o p base at)
array_good (Some n) p base at = λ e. tt
array_good None p base at = tt

fixed_good : (q : Option QName) (a : Option (Option ℕ × TypeRef)) (p : Place) (base : TypeRef) (at : Pos) → Good false (new_fixed q a p base at)
fixed_good (Some q) a p base at = λ e. tt
fixed_good None (Some a) p base at = array_good a.0 p base at
fixed_good None None p base at = tt

elements_good : (o : Option ℕ) (t : TypeRef) (p : Place) (n : Valued) (at : Pos) → Good false (new_elements o t p n at)
elements_good (Some k) t p n at = tt
elements_good None t p n at = λ e. tt

-- what pointers point to is there
abbrev pub IsHeld : Map → Type 0
IsHeld map = (t b : TypeRef) → pointed map t ≡ Some b → is_held map b ≡ true

new_one_good : (map : Map) → IsHeld map → (at : Pos) (x : Valued) → Good false (new_one map at x)
new_one_good map h at x =
    so_good false (place_in x) (λ p. and_so (pointed map p.of) (λ base. if_held (is_held map base) (new_fixed (record_of map base) (array_of map base) p base at)))
    (λ p i. so_good false (pointed map p.of) (λ base. if_held (is_held map base) (new_fixed (record_of map base) (array_of map base) p base at))
    (λ base j. held_good false (is_held map base) (new_fixed (record_of map base) (array_of map base) p base at) (h p.of base j) (fixed_good (record_of map base) (array_of map base) p base at)))

new_many_good : (map : Map) → IsHeld map → (at : Pos) (x n : Valued) → Good false (new_many map at x n)
new_many_good map h at x n =
    so_good false (place_in x) (λ p. and_so (width_of map n) (λ w. and_so (pointed map p.of) (λ base. if_held (is_held map base) (and_so (array_of map base) (λ a. new_elements a.0 a.1 p n at)))))
    (λ p i. so_good false (width_of map n) (λ w. and_so (pointed map p.of) (λ base. if_held (is_held map base) (and_so (array_of map base) (λ a. new_elements a.0 a.1 p n at))))
    (λ w k. so_good false (pointed map p.of) (λ base. if_held (is_held map base) (and_so (array_of map base) (λ a. new_elements a.0 a.1 p n at)))
    (λ base j. held_good false (is_held map base) (and_so (array_of map base) (λ a. new_elements a.0 a.1 p n at)) (h p.of base j)
    (so_good false (array_of map base) (λ a. new_elements a.0 a.1 p n at) (λ a l. elements_good a.0 a.1 p n at)))))

one_good : (map : Map) → IsHeld map → (f : Predeclared) (at : Pos) (x : Valued) → Good (is_function f) (fit_one map f at x)
one_good map h pre.Abs at x = so_good true (width_of map x) (λ w. value (monadic (unary.Abs w) at x)) (λ w i. value_good true (monadic (unary.Abs w) at x) (monadic_there (unary.Abs w) at x))
one_good map h pre.Cap at x = unary_good at x (if_is (is map basic.Char x) unary.Cap)
one_good map h pre.Chr at x = unary_good at x (if_is (is_integer map x) unary.Chr)
one_good map h pre.Long at x =
    so_good true (width_of map x) (λ w. and_so (longer w) (λ l. value (monadic (unary.Long l) at x)))
    (λ w i. so_good true (longer w) (λ l. value (monadic (unary.Long l) at x)) (λ l j. value_good true (monadic (unary.Long l) at x) (monadic_there (unary.Long l) at x)))
one_good map h pre.Short at x =
    so_good true (width_of map x) (λ w. and_so (shorter w) (λ l. value (monadic (unary.Short l) at x)))
    (λ w i. so_good true (shorter w) (λ l. value (monadic (unary.Short l) at x)) (λ l j. value_good true (monadic (unary.Short l) at x) (monadic_there (unary.Short l) at x)))
one_good map h pre.Odd at x = unary_good at x (if_is (is_integer map x) unary.Odd)
one_good map h pre.Ord at x = unary_good at x (if_is (is map basic.Char x) unary.Ord)
one_good map h pre.Len at x = so_good true (place_in x) (λ p. len_at map 0 p) (λ p i. len_at_good map 0 p)
one_good map h pre.Assert at x = if_good false (is map basic.Boolean x) (sound (means.Statement (record { inner = stmt.Assert (tree x) (pos 0) at }))) (λ e. tt)
one_good map h pre.Halt at x = so_good false (number_in (constant_in x)) (λ z. does (stmt.Halt z at)) (λ z i. λ e. tt)
one_good map h pre.Inc at x = step_good map update.Inc at x one
one_good map h pre.Dec at x = step_good map update.Dec at x one
one_good map h pre.New at x = new_one_good map h at x
one_good map h f at x = tt

two_good : (map : Map) → IsHeld map → (f : Predeclared) (at : Pos) (x n : Valued) → Good (is_function f) (fit_two map f at x n)
two_good map h pre.Ash at x n = so_good true (if_is (is_integer map x && is_integer map n) binary.Ash) (λ k. value (dyadic k at x n)) (λ k i. value_good true (dyadic k at x n) (dyadic_there k at x n))
two_good map h pre.Len at x n =
    so_good true (place_in x) (λ p. and_so (number_in (constant_in n)) (λ z. len_of map z p)) (λ p i. so_good true (number_in (constant_in n)) (λ z. len_of map z p) (λ z j. len_good map z p))
two_good map h pre.Assert at x n =
    so_good false (number_in (constant_in n)) (λ z. if_is (is map basic.Boolean x) (sound (means.Statement (record { inner = stmt.Assert (tree x) z at }))))
    (λ z i. if_good false (is map basic.Boolean x) (sound (means.Statement (record { inner = stmt.Assert (tree x) z at }))) (λ e. tt))
two_good map h pre.Inc at x n = step_good map update.Inc at x n
two_good map h pre.Dec at x n = step_good map update.Dec at x n
two_good map h pre.Incl at x n = element_good map update.Incl at x n
two_good map h pre.Excl at x n = element_good map update.Excl at x n
two_good map h pre.Copy at x y =
    so_good false (place_in y) (λ p. if_is (is_text map x && is_chars map y) (sound (means.Statement (record { inner = stmt.Copy (text_tree x) p.designator.inner at }))))
    (λ p i. if_good false (is_text map x && is_chars map y) (sound (means.Statement (record { inner = stmt.Copy (text_tree x) p.designator.inner at }))) (λ e. tt))
two_good map h pre.New at x n = new_many_good map h at x n
two_good map h f at x n = tt

fit_good : (map : Map) → IsHeld map → (f : Predeclared) (at : Pos) (xs : List Valued) → Good (is_function f) (fit map f at xs)
fit_good map h f at [] = tt
fit_good map h f at (x ∷ []) = one_good map h f at x
fit_good map h f at (x ∷ y ∷ []) = two_good map h f at x y
fit_good map h f at (x ∷ y ∷ z ∷ zs) = tt

or_breaks : (b : Bool) (at : Pos) (o : Option (Judged Meant)) → Good b o → Speaks (FitsBy b) (if_fit at o)
or_breaks b at None h = breaks_speaks (FitsBy b) rule.UnfitPredeclaredParameters at
or_breaks b at (Some j) h = h

-- where it stands
placed : (w : Where) (b : Bool) (at : Pos) (j : Judged Meant) → Speaks (FitsBy b) j → Speaks (Comes w) (also (misplaced w b) rule.MisplacedCall at j)
placed InExpression true at j h = h
placed InExpression false at j h = λ e. not_empty _ j.notes.broken e
placed AsStatement true at j h = λ e. not_empty _ j.notes.broken e
placed AsStatement false at j h = h
placed Elsewhere true at j h = speaks_more IsCall (Comes Elsewhere) j call_done h
placed Elsewhere false at j h = h

-- ---- parameters

module _ (u : Around) (known : AreKnown u.known) where
  changed_of : (start : Pos) (m : Meant) → There (changed_meant start m)
  changed_of start (means.Place p) = unless_speaks Anything p.read_only rule.NotChangeable start (value_at p) tt
  changed_of start (means.Call x) = λ e. tt
  changed_of start m = breaks_speaks {A = Valued} Anything rule.NotChangeable start

  changed_there : (p : Phrase) → There (p.value u) → (o : Option (Around → Judged Meant)) → MeantThere u o → There (changed_as u p o)
  changed_there p h None k = made_speaks Anything Anything only_value (p.value u) h (λ x t. tt)
  changed_there p h (Some f) k = then_speaks Anything Anything (f u) (changed_meant p.start) k (λ m t. changed_of p.start m)

  parameter_there : (a : Asked) (p : Phrase) → PhraseThere u p → There (parameter u a p)
  parameter_there asked.Value p h = h.value
  parameter_there asked.Changed p h = changed_there p h.value p.meant h.meant
  parameter_there asked.Constant p h = then_speaks Anything Anything (p.value u) (λ x. wants (is_some (constant_in x)) rule.NotConstant p.start x) h.value (λ x t. wants_speaks Anything (is_some (constant_in x)) rule.NotConstant p.start x tt)

  values_there : (ps : List Phrase) → PhrasesThere u ps → AllByRecursion There (values u ps)
  values_there [] h = tt
  values_there (p ∷ ps) h = (h.0.value, values_there ps h.1)

  behind_there : (f : Predeclared) (ps : List Phrase) → PhrasesThere u ps → AllByRecursion There (parameters_behind u f ps)
  behind_there f [] h = tt
  behind_there f (p ∷ ps) h = (parameter_there (asked_second f) p h.0, values_there ps h.1)

  parameters_there : (f : Predeclared) (ps : List Phrase) → PhrasesThere u ps → AllByRecursion There (parameters u f ps)
  parameters_there f [] h = tt
  parameters_there f (p ∷ ps) h = (parameter_there (asked_first f) p h.0, behind_there f ps h.1)

  -- ---- MAX and MIN

  type_there : (p : Phrase) → There (p.value u) → (o : Option Qualident) → There (type_parameter u p o)
  type_there p h None = then_speaks Anything Anything (p.value u) (λ x. sound None) h (λ x t. λ e. tt)
  type_there p h (Some q) = made_speaks Anything Anything (λ t. Some t) (type_named u q) (name_speaks u q known) (λ t k. tt)

  extreme_there : (max : Bool) (at : Pos) (t : Option TypeRef) (b : Option Basic) → Speaks IsCall (extreme_of max at t b)
  extreme_there max at (Some t) (Some b) = λ e. tt
  extreme_there max at (Some t) None = breaks_speaks IsCall rule.UnfitPredeclaredParameters at
  extreme_there max at None b = breaks_speaks IsCall rule.UnfitPredeclaredParameters at

  extremes : (max : Bool) (w : Where) (at : Pos) (ps : List Phrase) → PhrasesThere u ps → Speaks (Comes w) (extreme_call max u w at ps)
  extremes max w at [] h = placed w true at (breaks rule.UnfitPredeclaredParameters at) (breaks_speaks IsCall rule.UnfitPredeclaredParameters at)
  extremes max w at (p ∷ []) h =
      then_speaks Anything (Comes w) (type_parameter u p p.name) (λ t. also (misplaced w true) rule.MisplacedCall at (extreme_of max at t (basic_if (map_of u) t))) (type_there p h.0.value p.name)
      (λ t k. placed w true at (extreme_of max at t (basic_if (map_of u) t)) (extreme_there max at t (basic_if (map_of u) t)))
  extremes max w at (p ∷ q ∷ ps) h =
      then_speaks Anything (Comes w) (type_parameter u p p.name) (λ t. each_sound (values u (q ∷ ps)) ▷ λ xs. also (misplaced w true) rule.MisplacedCall at (breaks rule.UnfitPredeclaredParameters at)) (type_there p h.0.value p.name)
      (λ t k. then_speaks Anything (Comes w) (each_sound (values u (q ∷ ps))) (λ xs. also (misplaced w true) rule.MisplacedCall at (breaks rule.UnfitPredeclaredParameters at)) (each_speaks (values u (q ∷ ps)) (values_there (q ∷ ps) h.1))
      (λ xs k. placed w true at (breaks rule.UnfitPredeclaredParameters at) (breaks_speaks IsCall rule.UnfitPredeclaredParameters at)))

  module _ (held : IsHeld (map_of u)) where
    others : (f : Predeclared) (w : Where) (at : Pos) (ps : List Phrase) → PhrasesThere u ps → Speaks (Comes w) (each_sound (parameters u f ps) ▷ call_fit u w f at)
    others f w at ps h =
        then_speaks Anything (Comes w) (each_sound (parameters u f ps)) (call_fit u w f at) (each_speaks (parameters u f ps) (parameters_there f ps h))
        (λ xs k. placed w (is_function f) at (if_fit at (fit (map_of u) f at xs)) (or_breaks (is_function f) at (fit (map_of u) f at xs) (fit_good (map_of u) held f at xs)))

    pub predeclared_there : (f : Predeclared) (w : Where) (at : Pos) (ps : List Phrase) → PhrasesThere u ps → Speaks (Comes w) (call_predeclared u w at f ps)
    predeclared_there pre.Max w at ps h = extremes true w at ps h
    predeclared_there pre.Min w at ps h = extremes false w at ps h
    predeclared_there pre.Abs w at ps h = others pre.Abs w at ps h
    predeclared_there pre.Ash w at ps h = others pre.Ash w at ps h
    predeclared_there pre.Cap w at ps h = others pre.Cap w at ps h
    predeclared_there pre.Chr w at ps h = others pre.Chr w at ps h
    predeclared_there pre.Len w at ps h = others pre.Len w at ps h
    predeclared_there pre.Long w at ps h = others pre.Long w at ps h
    predeclared_there pre.Odd w at ps h = others pre.Odd w at ps h
    predeclared_there pre.Ord w at ps h = others pre.Ord w at ps h
    predeclared_there pre.Short w at ps h = others pre.Short w at ps h
    predeclared_there pre.Assert w at ps h = others pre.Assert w at ps h
    predeclared_there pre.Copy w at ps h = others pre.Copy w at ps h
    predeclared_there pre.Dec w at ps h = others pre.Dec w at ps h
    predeclared_there pre.Excl w at ps h = others pre.Excl w at ps h
    predeclared_there pre.Halt w at ps h = others pre.Halt w at ps h
    predeclared_there pre.Inc w at ps h = others pre.Inc w at ps h
    predeclared_there pre.Incl w at ps h = others pre.Incl w at ps h
    predeclared_there pre.New w at ps h = others pre.New w at ps h
