-- A call of a predeclared procedure that is a statement has no FOR and no CASE.
use Rattle.std.proofs.Common.{◌≡◌, ap, ℕ, ℤ, Bool, true, false, List, [], ◌∷◌, Option, Some, None}
use Rattle.std.specs.Prelude.{◌&&◌, nat_eq, pos, negsuc}
use Rattle.ob_tree.specs.declared.pos.Pos.{Pos}
use Rattle.ob_tree.specs.declared.names.QName.{QName}
use Rattle.ob_types.specs.declared.types.Basic.{Basic}
use Rattle.ob_types.specs.declared.types.Basic.TheVariants as basic
use Rattle.ob_types.specs.declared.types.TypeRef.{TypeRef}
use Rattle.ob_types.specs.declared.typed.Binary.TheVariants as binary
use Rattle.ob_types.specs.declared.typed.Made.TheVariants as made_of
use Rattle.ob_types.specs.declared.typed.Unary.{Unary}
use Rattle.ob_types.specs.declared.typed.Unary.TheVariants as unary
use Rattle.ob_types.specs.declared.typed.Update.{Update}
use Rattle.ob_types.specs.declared.typed.Update.TheVariants as update
use Rattle.ob_types.specs.declared.typed.Width.{Width}
use Rattle.ob_types.specs.declared.typed.TypedStmt.TheVariants as stmt
use Rattle.ob_types.specs.TypedView.{stmt_view}
use Rattle.ob_types.proofs.TypedViews.{view_updated, view_copy, view_new, view_new_open_array, view_assert, view_halt}
use Rattle.ob_meaning.specs.Calls.{hidden_of}
use Rattle.ob_rules.specs.declared.broken.Predeclared.{Predeclared}
use Rattle.ob_rules.specs.declared.broken.Predeclared.TheVariants as pre
use Rattle.ob_rules.specs.declared.meant.Meant.{Meant}
use Rattle.ob_rules.specs.declared.meant.Meant.TheVariants as means
use Rattle.ob_rules.specs.declared.meant.Where.{Where}
use Rattle.ob_rules.specs.declared.values.Place.{Place}
use Rattle.ob_rules.specs.declared.values.Valued.{Valued}
use Rattle.ob_rules.specs.declared.broken.Rule.TheVariants as rule
use Rattle.ob_rules.specs.Judged.{Judged, sound, breaks, also, each_sound, ◌▷◌}
use Rattle.ob_rules.specs.Shapes.{Map, array_of, pointed, is_held, record_of}
use Rattle.ob_rules.specs.Names.{Around, map_of}
use Rattle.ob_rules.specs.Values.{is, width as width_of, is_integer, is_chars, text_tree, tree, constant_in, place_in}
use Rattle.ob_rules.specs.Operators.{monadic, dyadic, and_so}
use Rattle.ob_rules.specs.Calls.{misplaced}
use Rattle.ob_rules.specs.Phrases.{Phrase}
use Rattle.ob_rules.specs.Predeclared as predeclared
use Rattle.ob_rules.specs.Predeclared.{values, parameters, is_function, value, does, if_is, longer, shorter, dimension, length_of, len_at, len_of, number_in, element_step, is_text, new_array, new_fixed, new_elements, if_held, new_one, new_many, fit_one, fit_two, fit, if_fit, call_fit, type_parameter, extreme_of, basic_if, extreme_call, call_predeclared}
use Rattle.law_methods_described.proofs.Nodes.{Has, any_then, also_has}
use Rattle.law_lists.proofs.Lists.{IfThere}

abbrev pub IsQuiet : Meant → Type 0
IsQuiet (means.Statement s) = hidden_of (stmt_view s.inner) ≡ []
IsQuiet m = Unit {0}

-- ---- predeclared procedures

abbrev Fitting : Option (Judged Meant) → Type 0
Fitting o = IfThere (Has IsQuiet) o

so : {A : Type 0} (o : Option A) (f : A → Option (Judged Meant)) → ((x : A) → Fitting (f x)) → Fitting (and_so o f)
so None f h = tt
so (Some x) f h = h x

if_quiet : (c : Bool) (j : Judged Meant) → Has IsQuiet j → Fitting (if_is c j)
if_quiet true j h = h
if_quiet false j h = tt

held_quiet : (c : Bool) (o : Option (Judged Meant)) → Fitting o → Fitting (if_held c o)
held_quiet true o h = h
held_quiet false o h = tt

value_quiet : (x : Judged Valued) → Fitting (value x)
value_quiet x = any_then IsQuiet x (λ v. sound (means.Call v)) (λ v. tt)

unary_quiet : (at : Pos) (x : Valued) (o : Option Unary) → Fitting (and_so o (λ k. value (monadic k at x)))
unary_quiet at x o = so o (λ k. value (monadic k at x)) (λ k. value_quiet (monadic k at x))

length_quiet : (o : Option ℕ) (b : Bool) (p : Place) → Fitting (length_of o b p)
length_quiet (Some n) b p = tt
length_quiet None true p = tt
length_quiet None false p = tt

len_at_quiet : (map : Map) (n : ℕ) (p : Place) → Fitting (len_at map n p)
len_at_quiet map n p = so (dimension map n p.of) (λ a. length_of a.0 (nat_eq n 0) p) (λ a. length_quiet a.0 (nat_eq n 0) p)

len_quiet : (map : Map) (z : ℤ) (p : Place) → Fitting (len_of map z p)
len_quiet map (pos n) p = len_at_quiet map n p
len_quiet map (negsuc n) p = tt

step_fits : (map : Map) (op : Width → Update) (at : Pos) (x n : Valued) → Fitting (predeclared.step map op at x n)
step_fits map op at x n =
    so (place_in x) (λ p. and_so (width_of map x) (λ w. and_so (width_of map n) (λ k. does (stmt.Update (op w) p.designator.inner (tree n) at))))
    (λ p. so (width_of map x) (λ w. and_so (width_of map n) (λ k. does (stmt.Update (op w) p.designator.inner (tree n) at)))
    (λ w. so (width_of map n) (λ k. does (stmt.Update (op w) p.designator.inner (tree n) at)) (λ k. ap hidden_of (view_updated (op w) p.designator.inner (tree n) at))))

element_fits : (map : Map) (op : Update) (at : Pos) (x n : Valued) → Fitting (element_step map op at x n)
element_fits map op at x n =
    so (place_in x) (λ p. and_so (width_of map n) (λ k. and_so (if_is (is map basic.Set x) op) (λ o. does (stmt.Update o p.designator.inner (tree n) at))))
    (λ p. so (width_of map n) (λ k. and_so (if_is (is map basic.Set x) op) (λ o. does (stmt.Update o p.designator.inner (tree n) at)))
    (λ k. so (if_is (is map basic.Set x) op) (λ o. does (stmt.Update o p.designator.inner (tree n) at)) (λ o. ap hidden_of (view_updated o p.designator.inner (tree n) at))))

array_fits : (o : Option ℕ) (p : Place) (base : TypeRef) (at : Pos) → Fitting (new_array o p base at)
array_fits (Some n) p base at = ap hidden_of (view_new p.designator.inner (made_of.Array base) at)
array_fits None p base at = tt

fixed_fits : (q : Option QName) (a : Option (Option ℕ × TypeRef)) (p : Place) (base : TypeRef) (at : Pos) → Fitting (new_fixed q a p base at)
fixed_fits (Some q) a p base at = ap hidden_of (view_new p.designator.inner (made_of.Record q) at)
fixed_fits None (Some a) p base at = array_fits a.0 p base at
fixed_fits None None p base at = tt

elements_fit : (o : Option ℕ) (t : TypeRef) (p : Place) (n : Valued) (at : Pos) → Fitting (new_elements o t p n at)
elements_fit (Some k) t p n at = tt
elements_fit None t p n at = ap hidden_of (view_new_open_array p.designator.inner t (tree n) at)

new_one_fits : (map : Map) (at : Pos) (x : Valued) → Fitting (new_one map at x)
new_one_fits map at x =
    so (place_in x) (λ p. and_so (pointed map p.of) (λ base. if_held (is_held map base) (new_fixed (record_of map base) (array_of map base) p base at)))
    (λ p. so (pointed map p.of) (λ base. if_held (is_held map base) (new_fixed (record_of map base) (array_of map base) p base at))
    (λ base. held_quiet (is_held map base) (new_fixed (record_of map base) (array_of map base) p base at) (fixed_fits (record_of map base) (array_of map base) p base at)))

new_many_fits : (map : Map) (at : Pos) (x n : Valued) → Fitting (new_many map at x n)
new_many_fits map at x n =
    so (place_in x) (λ p. and_so (width_of map n) (λ w. and_so (pointed map p.of) (λ base. if_held (is_held map base) (and_so (array_of map base) (λ a. new_elements a.0 a.1 p n at)))))
    (λ p. so (width_of map n) (λ w. and_so (pointed map p.of) (λ base. if_held (is_held map base) (and_so (array_of map base) (λ a. new_elements a.0 a.1 p n at))))
    (λ w. so (pointed map p.of) (λ base. if_held (is_held map base) (and_so (array_of map base) (λ a. new_elements a.0 a.1 p n at)))
    (λ base. held_quiet (is_held map base) (and_so (array_of map base) (λ a. new_elements a.0 a.1 p n at)) (so (array_of map base) (λ a. new_elements a.0 a.1 p n at) (λ a. elements_fit a.0 a.1 p n at)))))

one_fits : (map : Map) (f : Predeclared) (at : Pos) (x : Valued) → Fitting (fit_one map f at x)
one_fits map pre.Abs at x = so (width_of map x) (λ w. value (monadic (unary.Abs w) at x)) (λ w. value_quiet (monadic (unary.Abs w) at x))
one_fits map pre.Cap at x = unary_quiet at x (if_is (is map basic.Char x) unary.Cap)
one_fits map pre.Chr at x = unary_quiet at x (if_is (is_integer map x) unary.Chr)
one_fits map pre.Long at x = so (width_of map x) (λ w. and_so (longer w) (λ l. value (monadic (unary.Long l) at x))) (λ w. so (longer w) (λ l. value (monadic (unary.Long l) at x)) (λ l. value_quiet (monadic (unary.Long l) at x)))
one_fits map pre.Short at x = so (width_of map x) (λ w. and_so (shorter w) (λ l. value (monadic (unary.Short l) at x))) (λ w. so (shorter w) (λ l. value (monadic (unary.Short l) at x)) (λ l. value_quiet (monadic (unary.Short l) at x)))
one_fits map pre.Odd at x = unary_quiet at x (if_is (is_integer map x) unary.Odd)
one_fits map pre.Ord at x = unary_quiet at x (if_is (is map basic.Char x) unary.Ord)
one_fits map pre.Len at x = so (place_in x) (λ p. len_at map 0 p) (λ p. len_at_quiet map 0 p)
one_fits map pre.Assert at x = if_quiet (is map basic.Boolean x) (sound (means.Statement (record { inner = stmt.Assert (tree x) (pos 0) at }))) (ap hidden_of (view_assert (tree x) (pos 0) at))
one_fits map pre.Halt at x = so (number_in (constant_in x)) (λ z. does (stmt.Halt z at)) (λ z. ap hidden_of (view_halt z at))
one_fits map pre.Inc at x = step_fits map update.Inc at x predeclared.one
one_fits map pre.Dec at x = step_fits map update.Dec at x predeclared.one
one_fits map pre.New at x = new_one_fits map at x
one_fits map f at x = tt

two_fit : (map : Map) (f : Predeclared) (at : Pos) (x n : Valued) → Fitting (fit_two map f at x n)
two_fit map pre.Ash at x n = so (if_is (is_integer map x && is_integer map n) binary.Ash) (λ op. value (dyadic op at x n)) (λ op. value_quiet (dyadic op at x n))
two_fit map pre.Len at x n = so (place_in x) (λ p. and_so (number_in (constant_in n)) (λ z. len_of map z p)) (λ p. so (number_in (constant_in n)) (λ z. len_of map z p) (λ z. len_quiet map z p))
two_fit map pre.Assert at x n =
    so (number_in (constant_in n)) (λ z. if_is (is map basic.Boolean x) (sound (means.Statement (record { inner = stmt.Assert (tree x) z at }))))
    (λ z. if_quiet (is map basic.Boolean x) (sound (means.Statement (record { inner = stmt.Assert (tree x) z at }))) (ap hidden_of (view_assert (tree x) z at)))
two_fit map pre.Inc at x n = step_fits map update.Inc at x n
two_fit map pre.Dec at x n = step_fits map update.Dec at x n
two_fit map pre.Incl at x n = element_fits map update.Incl at x n
two_fit map pre.Excl at x n = element_fits map update.Excl at x n
two_fit map pre.Copy at x y =
    so (place_in y) (λ p. if_is (is_text map x && is_chars map y) (sound (means.Statement (record { inner = stmt.Copy (text_tree x) p.designator.inner at }))))
    (λ p. if_quiet (is_text map x && is_chars map y) (sound (means.Statement (record { inner = stmt.Copy (text_tree x) p.designator.inner at }))) (ap hidden_of (view_copy (text_tree x) p.designator.inner at)))
two_fit map pre.New at x n = new_many_fits map at x n
two_fit map f at x n = tt

all_fit : (map : Map) (f : Predeclared) (at : Pos) (xs : List Valued) → Fitting (fit map f at xs)
all_fit map f at [] = tt
all_fit map f at (x ∷ []) = one_fits map f at x
all_fit map f at (x ∷ y ∷ []) = two_fit map f at x y
all_fit map f at (x ∷ y ∷ z ∷ zs) = tt

fit_quiet : (at : Pos) (o : Option (Judged Meant)) → Fitting o → Has IsQuiet (if_fit at o)
fit_quiet at None h = tt
fit_quiet at (Some m) h = h

call_fits : (u : Around) (w : Where) (f : Predeclared) (at : Pos) (xs : List Valued) → Has IsQuiet (call_fit u w f at xs)
call_fits u w f at xs = also_has IsQuiet (misplaced w (is_function f)) rule.MisplacedCall at (if_fit at (fit (map_of u) f at xs)) (fit_quiet at (fit (map_of u) f at xs) (all_fit (map_of u) f at xs))

extreme_quiet : (max : Bool) (at : Pos) (t : Option TypeRef) (b : Option Basic) → Has IsQuiet (extreme_of max at t b)
extreme_quiet max at (Some t) (Some b) = tt
extreme_quiet max at (Some t) None = tt
extreme_quiet max at None b = tt

extremes_quiet : (max : Bool) (u : Around) (w : Where) (at : Pos) (ps : List Phrase) → Has IsQuiet (extreme_call max u w at ps)
extremes_quiet max u w at [] = also_has IsQuiet (misplaced w true) rule.MisplacedCall at (breaks rule.UnfitPredeclaredParameters at) tt
extremes_quiet max u w at (p ∷ []) = any_then IsQuiet (type_parameter u p p.name) (λ t. also (misplaced w true) rule.MisplacedCall at (extreme_of max at t (basic_if (map_of u) t))) (λ t. also_has IsQuiet (misplaced w true) rule.MisplacedCall at (extreme_of max at t (basic_if (map_of u) t)) (extreme_quiet max at t (basic_if (map_of u) t)))
extremes_quiet max u w at (p ∷ q ∷ ps) =
    any_then IsQuiet (type_parameter u p p.name) (λ t. each_sound (values u (q ∷ ps)) ▷ λ xs. also (misplaced w true) rule.MisplacedCall at (breaks rule.UnfitPredeclaredParameters at))
    (λ t. any_then IsQuiet (each_sound (values u (q ∷ ps))) (λ xs. also (misplaced w true) rule.MisplacedCall at (breaks rule.UnfitPredeclaredParameters at)) (λ xs. also_has IsQuiet (misplaced w true) rule.MisplacedCall at (breaks rule.UnfitPredeclaredParameters at) tt))

pub predeclared_quiet : (u : Around) (w : Where) (at : Pos) (f : Predeclared) (ps : List Phrase) → Has IsQuiet (call_predeclared u w at f ps)
predeclared_quiet u w at pre.Max ps = extremes_quiet true u w at ps
predeclared_quiet u w at pre.Min ps = extremes_quiet false u w at ps
predeclared_quiet u w at f ps = any_then IsQuiet (each_sound (parameters u f ps)) (call_fit u w f at) (λ xs. call_fits u w f at xs)
