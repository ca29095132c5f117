-- Calls of predeclared procedures are tied as their parameters are.
use Rattle.std.proofs.Common.{◌≡◌, ℕ, Bool, true, false, List, [], ◌∷◌, ◌++◌, Option, Some, None, refl, sym, subst}
use Rattle.std.specs.Prelude.{ℤ, pos, negsuc, nat_eq, is_some, ◌&&◌}
use Rattle.std.specs.List.{AllByRecursion}
use Rattle.ob_tree.specs.declared.pos.Pos.{Pos}
use Rattle.ob_tree.specs.declared.names.QName.{QName}
use Rattle.ob_types.specs.declared.types.Basic.{Basic}
use Rattle.ob_types.specs.declared.types.Basic.TheVariants as basic
use Rattle.ob_types.specs.declared.types.TypeRef.{TypeRef}
use Rattle.ob_types.specs.declared.types.TypeRef.TheVariants as ref
use Rattle.ob_tree.specs.declared.ident.Qualident.{Qualident}
use Rattle.ob_types.specs.TypedKinds.{variable_type}
use Rattle.law_local_judged.specs.Agreement.{IsIn}
use Rattle.law_local_files.specs.Agreeing.{On}
use Rattle.ob_types.specs.declared.typed.Width.{Width}
use Rattle.ob_types.specs.declared.typed.Unary.{Unary}
use Rattle.ob_types.specs.declared.typed.Unary.TheVariants as unary
use Rattle.ob_types.specs.declared.typed.Binary.TheVariants as binary
use Rattle.ob_types.specs.declared.typed.Update.{Update}
use Rattle.ob_types.specs.declared.typed.Update.TheVariants as update
use Rattle.ob_types.specs.declared.typed.Made.TheVariants as made_of
use Rattle.ob_types.specs.declared.typed.TypedStmt.{TypedStmt}
use Rattle.ob_types.specs.declared.typed.TypedStmt.TheVariants as stmt
use Rattle.ob_types.specs.TypedSyntax.{Stmt, Updated, Copy, New, NewOpenArray, Assert, Halt, Length}
use Rattle.ob_types.specs.TypedView.{designator_view, expr_view, stmt_view}
use Rattle.ob_types.proofs.TypedViews.{view_updated, view_copy, view_new, view_new_open_array, view_assert, view_halt, view_length}
use Rattle.ob_rules.specs.declared.values.Place.{Place}
use Rattle.ob_rules.specs.declared.values.Valued.{Valued}
use Rattle.ob_rules.specs.declared.values.Valued.TheVariants as valued
use Rattle.ob_rules.specs.declared.meant.Meant.{Meant}
use Rattle.ob_rules.specs.declared.meant.Meant.TheVariants as means
use Rattle.ob_rules.specs.declared.meant.Asked.{Asked}
use Rattle.ob_rules.specs.declared.meant.Asked.TheVariants as asked
use Rattle.ob_rules.specs.declared.meant.Where.{Where}
use Rattle.ob_rules.specs.declared.broken.Predeclared.{Predeclared}
use Rattle.ob_rules.specs.declared.broken.Predeclared.TheVariants as pre
use Rattle.ob_rules.specs.declared.broken.Rule.TheVariants as rule
use Rattle.ob_rules.specs.Judged.{Judged, sound, each_sound}
use Rattle.ob_rules.specs.Shapes.{Map, array_of, record_of, pointed, is_held}
use Rattle.ob_rules.specs.Names.{Around, map_of, type_named}
use Rattle.ob_rules.specs.Values.{value_at, is, width as width_of, is_integer, is_chars, text_tree, tree, constant_in, place_in}
use Rattle.ob_rules.specs.Operators.{monadic, dyadic, only_value, and_so}
use Rattle.ob_rules.specs.Calls.{misplaced}
use Rattle.ob_rules.specs.Phrases.{Phrase}
use Rattle.ob_rules.specs.Predeclared.{changed_meant, changed_as, values, asked_first, asked_second, parameter, parameters_behind, parameters, is_function, value, if_is, on_width, longer, shorter, dimension, length_of, len_at, len_of, number_in, one, step, element_step, is_text, new_array, new_fixed, new_elements, if_held, new_one, new_many, fit_one, fit_two, fit, if_fit, call_fit, type_parameter, extreme_of, basic_if, extreme_call, call_predeclared}
use Rattle.ob_uses_roots.specs.Counts.{Layouts, counts_of_designator, counts_of_expr}
use Rattle.law_local_uses.specs.Settled.{SaysAll}
use Rattle.law_local_uses.proofs.Setting.{Setting, TS, S, Stands, In, Leads, PlaceOk, ValuedOk, MeantOk, none, Keeps, then_keeps, made_keeps, each_keep, unless_keeps, wants_keeps, also_keeps, counts_both, node_e, tree_ok}
use Rattle.law_local_uses.proofs.Chains.{pointed_leads, element_leads}
use Rattle.law_local_uses.proofs.Names.{type_keeps}
use Rattle.law_local_uses.proofs.Values.{monadic_keeps, dyadic_keeps, only_ok, text_tree_ok}
use Rattle.law_local_uses.proofs.Calls.{PhraseOk, ArePhrases, MeantKeeps}
use Rattle.law_lists.proofs.Lists.{IfThere}

-- ---- parameters

changed_meant_keeps : (k : Setting) (start : Pos) (m : Meant) → MeantOk k m → Keeps k (ValuedOk k) (changed_meant start m)
changed_meant_keeps k start (means.Place p) h = unless_keeps k (ValuedOk k) p.read_only rule.NotChangeable start (value_at p) h
changed_meant_keeps k start (means.Call x) h = (only_ok k x h, none)
changed_meant_keeps k start m h = (tt, none)

changed_as_keeps : (k : Setting) (u : Around) → Stands k u → (p : Phrase) → PhraseOk k p → (o : Option (Around → Judged Meant)) → MeantKeeps k o → Keeps k (ValuedOk k) (changed_as u p o)
changed_as_keeps k u s p g None h = made_keeps k (ValuedOk k) (ValuedOk k) only_value (p.value u) (g.0 u s) (λ x q. only_ok k x q)
changed_as_keeps k u s p g (Some f) h = then_keeps k (MeantOk k) (ValuedOk k) (f u) (changed_meant p.start) (h u s) (λ m q. changed_meant_keeps k p.start m q)

parameter_keeps : (k : Setting) (u : Around) → Stands k u → (a : Asked) (p : Phrase) → PhraseOk k p → Keeps k (ValuedOk k) (parameter u a p)
parameter_keeps k u s asked.Value p g = g.0 u s
parameter_keeps k u s asked.Changed p g = changed_as_keeps k u s p g p.meant g.1
parameter_keeps k u s asked.Constant p g = then_keeps k (ValuedOk k) (ValuedOk k) (p.value u) _ (g.0 u s) (λ x h. wants_keeps k (ValuedOk k) (is_some (constant_in x)) rule.NotConstant p.start x (λ e. h))

values_keep : (k : Setting) (u : Around) → Stands k u → (ps : List Phrase) → ArePhrases k ps → AllByRecursion (Keeps k (ValuedOk k)) (values u ps)
values_keep k u s [] g = tt
values_keep k u s (p ∷ ps) g = (g.0.0 u s, values_keep k u s ps g.1)

behind_keep : (k : Setting) (u : Around) → Stands k u → (f : Predeclared) (ps : List Phrase) → ArePhrases k ps → AllByRecursion (Keeps k (ValuedOk k)) (parameters_behind u f ps)
behind_keep k u s f [] g = tt
behind_keep k u s f (p ∷ ps) g = (parameter_keeps k u s (asked_second f) p g.0, values_keep k u s ps g.1)

parameters_keep : (k : Setting) (u : Around) → Stands k u → (f : Predeclared) (ps : List Phrase) → ArePhrases k ps → AllByRecursion (Keeps k (ValuedOk k)) (parameters u f ps)
parameters_keep k u s f [] g = tt
parameters_keep k u s f (p ∷ ps) g = (parameter_keeps k u s (asked_first f) p g.0, behind_keep k u s f ps g.1)

-- ---- what fits

abbrev Fits : Setting → Option (Judged Meant) → Type 0
Fits k o = IfThere (Keeps k (MeantOk k)) o

so_fits : (k : Setting) {A : Type 0} (o : Option A) (f : A → Option (Judged Meant)) → ((x : A) → Fits k (f x)) → Fits k (and_so o f)
so_fits k None f h = tt
so_fits k (Some x) f h = h x

-- with what it is
is_fits : (k : Setting) {A : Type 0} (o : Option A) (f : A → Option (Judged Meant)) → ((x : A) → o ≡ Some x → Fits k (f x)) → Fits k (and_so o f)
is_fits k None f h = tt
is_fits k (Some x) f h = h x refl

place_fits : (k : Setting) (x : Valued) → ValuedOk k x → (f : Place → Option (Judged Meant)) → ((p : Place) → PlaceOk k p → Fits k (f p)) → Fits k (and_so (place_in x) f)
place_fits k (valued.Place p) g f h = h p g
place_fits k (valued.Constant v) g f h = tt
place_fits k (valued.Node n) g f h = tt

value_fits : (k : Setting) (j : Judged Valued) → Keeps k (ValuedOk k) j → Fits k (value j)
value_fits k j h = made_keeps k (ValuedOk k) (MeantOk k) (λ v. means.Call v) j h (λ v q. q)

if_fits : (k : Setting) (b : Bool) (j : Judged Meant) → Keeps k (MeantOk k) j → Fits k (if_is b j)
if_fits k true j h = h
if_fits k false j h = tt

pub named_s : (k : Setting) (s : TypedStmt) (t : Stmt) → stmt_view s ≡ t → TS k t → S k s
named_s k s t i h = subst (TS k) (sym i) h

width_fits : (k : Setting) (map : Map) (op : Width → Unary) (at : Pos) (x : Valued) → ValuedOk k x → Fits k (on_width map op at x)
width_fits k map op at x h = so_fits k (width_of map x) (λ w. value (monadic (op w) at x)) (λ w. value_fits k (monadic (op w) at x) (monadic_keeps k (op w) at x h))

length_fits : (k : Setting) (o : Option ℕ) (b : Bool) (p : Place) → PlaceOk k p → Fits k (length_of o b p)
length_fits k (Some n) b p h = (tt, (tt, tt, (h.0.1, tt)))
length_fits k None true p h = (node_e k _ (Length (designator_view p.designator.inner)) (view_length p.designator.inner) h.0 tt, none)
length_fits k None false p h = tt

len_at_fits : (k : Setting) (map : Map) (n : ℕ) (p : Place) → PlaceOk k p → Fits k (len_at map n p)
len_at_fits k map n p h = so_fits k (dimension map n p.of) (λ a. length_of a.0 (nat_eq n 0) p) (λ a. length_fits k a.0 (nat_eq n 0) p h)

len_of_fits : (k : Setting) (map : Map) (z : ℤ) (p : Place) → PlaceOk k p → Fits k (len_of map z p)
len_of_fits k map (pos n) p h = len_at_fits k map n p h
len_of_fits k map (negsuc n) p h = tt

updated_s : (k : Setting) (o : Update) (p : Place) (n : Valued) (at : Pos) → PlaceOk k p → ValuedOk k n → S k (stmt.Update o p.designator.inner (tree n) at)
updated_s k o p n at h g = named_s k _ (Updated o (designator_view p.designator.inner) (expr_view (tree n)) at) (view_updated o p.designator.inner (tree n) at) (let v = tree_ok k n g in ((h.0.0, v.0), counts_both k (counts_of_designator (designator_view p.designator.inner)) (counts_of_expr (expr_view (tree n))) h.0.1 v.1))

step_fits : (k : Setting) (map : Map) (op : Width → Update) (at : Pos) (x n : Valued) → ValuedOk k x → ValuedOk k n → Fits k (step map op at x n)
step_fits k map op at x n h g = place_fits k x h _ (λ p q. so_fits k (width_of map x) _ (λ w. so_fits k (width_of map n) _ (λ v. (updated_s k (op w) p n at q g, none))))

element_fits : (k : Setting) (map : Map) (o : Update) (at : Pos) (x n : Valued) → ValuedOk k x → ValuedOk k n → Fits k (element_step map o at x n)
element_fits k map o at x n h g = place_fits k x h _ (λ p q. so_fits k (width_of map n) _ (λ w. so_fits k (if_is (is map basic.Set x) o) _ (λ c. (updated_s k c p n at q g, none))))

-- what the variable points to, or an element of that
abbrev LeadsOn : Setting → Place → TypeRef → Type 0
LeadsOn k p t = IsIn (Leads k p.of) t

leads_on : (k : Setting) (p : Place) (t : TypeRef) → PlaceOk k p → LeadsOn k p t → On (Leads k (variable_type (designator_view p.designator.inner))) t
leads_on k p (ref.Basic b) h l = tt
leads_on k p (ref.Named q) h l = subst (λ t. Leads k t q) (sym h.2) l

array_fits : (k : Setting) (o : Option ℕ) (p : Place) (t : TypeRef) (at : Pos) → PlaceOk k p → LeadsOn k p t → Fits k (new_array o p t at)
array_fits k (Some n) p t at h l = (named_s k _ (New (designator_view p.designator.inner) (made_of.Array t) at) (view_new p.designator.inner (made_of.Array t) at) ((h.0.0, leads_on k p t h l), counts_both k (counts_of_designator (designator_view p.designator.inner)) (Layouts t ∷ []) h.0.1 tt), none)
array_fits k None p t at h l = tt

fixed_fits : (k : Setting) (o : Option QName) (a : Option (Option ℕ × TypeRef)) (p : Place) (t : TypeRef) (at : Pos) → PlaceOk k p → LeadsOn k p t → Fits k (new_fixed o a p t at)
fixed_fits k (Some q) a p t at h l = (named_s k _ (New (designator_view p.designator.inner) (made_of.Record q) at) (view_new p.designator.inner (made_of.Record q) at) ((h.0.0, tt), counts_both k (counts_of_designator (designator_view p.designator.inner)) [] h.0.1 tt), none)
fixed_fits k None (Some a) p t at h l = array_fits k a.0 p t at h l
fixed_fits k None None p t at h l = tt

elements_fit : (k : Setting) (o : Option ℕ) (t : TypeRef) (p : Place) (n : Valued) (at : Pos) → PlaceOk k p → LeadsOn k p t → ValuedOk k n → Fits k (new_elements o t p n at)
elements_fit k (Some c) t p n at h l g = tt
elements_fit k None t p n at h l g =
    let v = tree_ok k n g in
    let ds = counts_of_designator (designator_view p.designator.inner) in
    let es = counts_of_expr (expr_view (tree n)) in
    (named_s k _ (NewOpenArray (designator_view p.designator.inner) t (expr_view (tree n)) at) (view_new_open_array p.designator.inner t (tree n) at) ((h.0.0, v.0, leads_on k p t h l), counts_both k (ds ++ es) (Layouts t ∷ []) (counts_both k ds es h.0.1 v.1) tt), none)

held_fits : (k : Setting) (b : Bool) (o : Option (Judged Meant)) → Fits k o → Fits k (if_held b o)
held_fits k true o h = h
held_fits k false o h = (tt, none)

new_one_fits : (k : Setting) (map : Map) → SaysAll k.map map → (at : Pos) (x : Valued) → ValuedOk k x → Fits k (new_one map at x)
new_one_fits k map says at x h = place_fits k x h _ (λ p q. is_fits k (pointed map p.of) _ (λ t i. held_fits k (is_held map t) _ (fixed_fits k (record_of map t) (array_of map t) p t at q (pointed_leads k map says p.of t i))))

new_many_fits : (k : Setting) (map : Map) → SaysAll k.map map → (at : Pos) (x n : Valued) → ValuedOk k x → ValuedOk k n → Fits k (new_many map at x n)
new_many_fits k map says at x n h g = place_fits k x h _ (λ p q. so_fits k (width_of map n) _ (λ w. is_fits k (pointed map p.of) _ (λ t i. held_fits k (is_held map t) _ (is_fits k (array_of map t) _ (λ a j. elements_fit k a.0 a.1 p n at q (element_leads k map says p.of t a i j) g)))))

assert_s : (k : Setting) (x : Valued) (z : ℤ) (at : Pos) → ValuedOk k x → S k (stmt.Assert (tree x) z at)
assert_s k x z at h = named_s k _ (Assert (expr_view (tree x)) z at) (view_assert (tree x) z at) (tree_ok k x h)

one_fits : (k : Setting) (map : Map) → SaysAll k.map map → (f : Predeclared) (at : Pos) (x : Valued) → ValuedOk k x → Fits k (fit_one map f at x)
one_fits k map says pre.Abs at x h = width_fits k map unary.Abs at x h
one_fits k map says pre.Cap at x h = so_fits k (if_is (is map basic.Char x) unary.Cap) _ (λ o. value_fits k (monadic o at x) (monadic_keeps k o at x h))
one_fits k map says pre.Chr at x h = so_fits k (if_is (is_integer map x) unary.Chr) _ (λ o. value_fits k (monadic o at x) (monadic_keeps k o at x h))
one_fits k map says pre.Long at x h = so_fits k (width_of map x) _ (λ w. so_fits k (longer w) _ (λ l. value_fits k (monadic (unary.Long l) at x) (monadic_keeps k (unary.Long l) at x h)))
one_fits k map says pre.Short at x h = so_fits k (width_of map x) _ (λ w. so_fits k (shorter w) _ (λ l. value_fits k (monadic (unary.Short l) at x) (monadic_keeps k (unary.Short l) at x h)))
one_fits k map says pre.Odd at x h = so_fits k (if_is (is_integer map x) unary.Odd) _ (λ o. value_fits k (monadic o at x) (monadic_keeps k o at x h))
one_fits k map says pre.Ord at x h = so_fits k (if_is (is map basic.Char x) unary.Ord) _ (λ o. value_fits k (monadic o at x) (monadic_keeps k o at x h))
one_fits k map says pre.Len at x h = place_fits k x h (λ p. len_at map 0 p) (λ p q. len_at_fits k map 0 p q)
one_fits k map says pre.Assert at x h = if_fits k (is map basic.Boolean x) (sound (means.Statement (record { inner = stmt.Assert (tree x) (pos 0) at }))) ((assert_s k x (pos 0) at h, none))
one_fits k map says pre.Halt at x h = so_fits k (number_in (constant_in x)) _ (λ z. (named_s k _ (Halt z at) (view_halt z at) (tt, tt), none))
one_fits k map says pre.Inc at x h = step_fits k map update.Inc at x one h tt
one_fits k map says pre.Dec at x h = step_fits k map update.Dec at x one h tt
one_fits k map says pre.New at x h = new_one_fits k map says at x h
one_fits k map says f at x h = tt

two_fits : (k : Setting) (map : Map) → SaysAll k.map map → (f : Predeclared) (at : Pos) (x n : Valued) → ValuedOk k x → ValuedOk k n → Fits k (fit_two map f at x n)
two_fits k map says pre.Ash at x n h g = so_fits k (if_is (is_integer map x && is_integer map n) binary.Ash) _ (λ o. value_fits k (dyadic o at x n) (dyadic_keeps k o at x n h g))
two_fits k map says pre.Len at x n h g = place_fits k x h _ (λ p q. so_fits k (number_in (constant_in n)) _ (λ z. len_of_fits k map z p q))
two_fits k map says pre.Assert at x n h g = so_fits k (number_in (constant_in n)) _ (λ z. if_fits k (is map basic.Boolean x) (sound (means.Statement (record { inner = stmt.Assert (tree x) z at }))) (assert_s k x z at h, none))
two_fits k map says pre.Inc at x n h g = step_fits k map update.Inc at x n h g
two_fits k map says pre.Dec at x n h g = step_fits k map update.Dec at x n h g
two_fits k map says pre.Incl at x n h g = element_fits k map update.Incl at x n h g
two_fits k map says pre.Excl at x n h g = element_fits k map update.Excl at x n h g
two_fits k map says pre.Copy at x y h g = place_fits k y g _ (λ p q. if_fits k (is_text map x && is_chars map y) (sound (means.Statement (record { inner = stmt.Copy (text_tree x) p.designator.inner at }))) (let v = text_tree_ok k x h in (named_s k _ (Copy (expr_view (text_tree x)) (designator_view p.designator.inner) at) (view_copy (text_tree x) p.designator.inner at) ((v.0, q.0.0), counts_both k (counts_of_expr (expr_view (text_tree x))) (counts_of_designator (designator_view p.designator.inner)) v.1 q.0.1), none)))
two_fits k map says pre.New at x n h g = new_many_fits k map says at x n h g
two_fits k map says f at x n h g = tt

all_fit : (k : Setting) (map : Map) → SaysAll k.map map → (f : Predeclared) (at : Pos) (xs : List Valued) → AllByRecursion (ValuedOk k) xs → Fits k (fit map f at xs)
all_fit k map says f at [] h = tt
all_fit k map says f at (x ∷ []) h = one_fits k map says f at x h.0
all_fit k map says f at (x ∷ y ∷ []) h = two_fits k map says f at x y h.0 h.1.0
all_fit k map says f at (x ∷ y ∷ z ∷ zs) h = tt

if_fit_keeps : (k : Setting) (at : Pos) (o : Option (Judged Meant)) → Fits k o → Keeps k (MeantOk k) (if_fit at o)
if_fit_keeps k at None h = (tt, none)
if_fit_keeps k at (Some j) h = h

-- ---- MAX and MIN

extreme_keeps : (k : Setting) (b : Bool) (at : Pos) (t : Option TypeRef) (o : Option Basic) → IfThere (In k) t → Keeps k (MeantOk k) (extreme_of b at t o)
extreme_keeps k b at (Some t) (Some c) h = (tt, (tt, (h, tt), tt))
extreme_keeps k b at (Some t) None h = (tt, none)
extreme_keeps k b at None o h = (tt, none)

parameter_type : (k : Setting) (u : Around) → Stands k u → (p : Phrase) → PhraseOk k p → (o : Option Qualident) → Keeps k (IfThere (In k)) (type_parameter u p o)
parameter_type k u s p g None = then_keeps k (ValuedOk k) (IfThere (In k)) (p.value u) (λ x. sound None) (g.0 u s) (λ x h. (tt, none))
parameter_type k u s p g (Some q) = made_keeps k (In k) (IfThere (In k)) (λ t. Some t) (type_named u q) (type_keeps k u s q) (λ t h. h)

extreme_call_keeps : (k : Setting) (b : Bool) (u : Around) → Stands k u → (w : Where) (at : Pos) (ps : List Phrase) → ArePhrases k ps → Keeps k (MeantOk k) (extreme_call b u w at ps)
extreme_call_keeps k b u s w at [] g = also_keeps k (MeantOk k) (misplaced w true) rule.MisplacedCall at _ ((tt, none))
extreme_call_keeps k b u s w at (p ∷ []) g = then_keeps k (IfThere (In k)) (MeantOk k) (type_parameter u p p.name) _ (parameter_type k u s p g.0 p.name) (λ t q. also_keeps k (MeantOk k) (misplaced w true) rule.MisplacedCall at (extreme_of b at t (basic_if (map_of u) t)) (extreme_keeps k b at t (basic_if (map_of u) t) q))
extreme_call_keeps k b u s w at (p ∷ q ∷ ps) g =
    then_keeps k (IfThere (In k)) (MeantOk k) (type_parameter u p p.name) _ (parameter_type k u s p g.0 p.name) (λ t r. then_keeps k (AllByRecursion (ValuedOk k)) (MeantOk k) (each_sound (values u (q ∷ ps))) _ (each_keep k (ValuedOk k) (values u (q ∷ ps)) (values_keep k u s (q ∷ ps) g.1)) (λ xs i. also_keeps k (MeantOk k) (misplaced w true) rule.MisplacedCall at _ ((tt, none))))

pub predeclared_keeps : (k : Setting) (u : Around) → Stands k u → (w : Where) (at : Pos) (f : Predeclared) (ps : List Phrase) → ArePhrases k ps → Keeps k (MeantOk k) (call_predeclared u w at f ps)
predeclared_keeps k u s w at pre.Max ps g = extreme_call_keeps k true u s w at ps g
predeclared_keeps k u s w at pre.Min ps g = extreme_call_keeps k false u s w at ps g
predeclared_keeps k u s w at f ps g =
    then_keeps k (AllByRecursion (ValuedOk k)) (MeantOk k) (each_sound (parameters u f ps)) (call_fit u w f at) (each_keep k (ValuedOk k) (parameters u f ps) (parameters_keep k u s f ps g))
    (λ xs h. also_keeps k (MeantOk k) (misplaced w (is_function f)) rule.MisplacedCall at (if_fit at (fit (map_of u) f at xs)) (if_fit_keeps k at (fit (map_of u) f at xs) (all_fit k (map_of u) s.says f at xs h)))
