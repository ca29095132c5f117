-- Calls of predeclared procedures fit where their parameters do.
use Rattle.std.proofs.Common.{◌≡◌, ℕ, Bool, true, false, List, [], ◌∷◌, Option, Some, None, refl, sym, ap, subst, ◌∙◌, ◌<◌, ◌^◌, arith, zero, suc}
use Rattle.std.specs.Int.{w32}
use Rattle.std.specs.Prelude.{FitsSigned, ℤ, pos, negsuc, nat_eq, is_some, ◌&&◌}
use Rattle.std.specs.List.{AllByRecursion}
use Rattle.ob_tree.specs.declared.pos.Pos.{Pos}
use Rattle.ob_tree.specs.declared.names.QName.{QName}
use Rattle.ob_types.specs.declared.types.Basic.{Basic}
use Rattle.ob_types.specs.declared.types.Basic.TheVariants as basic
use Rattle.ob_types.specs.declared.types.TypeRef.{TypeRef}
use Rattle.ob_types.specs.declared.typed.Width.{Width}
use Rattle.ob_types.specs.declared.typed.Unary.{Unary}
use Rattle.ob_types.specs.declared.typed.Unary.TheVariants as unary
use Rattle.ob_types.specs.declared.typed.Binary.TheVariants as binary
use Rattle.ob_types.specs.declared.typed.Update.{Update}
use Rattle.ob_types.specs.declared.typed.Update.TheVariants as update
use Rattle.ob_types.specs.declared.typed.Made.TheVariants as made_of
use Rattle.ob_types.specs.declared.typed.TypedStmt.{TypedStmt}
use Rattle.ob_types.specs.declared.typed.TypedStmt.TheVariants as stmt
use Rattle.ob_types.specs.TypedSyntax.{Stmt, Updated, Copy, New, NewOpenArray, Assert, Halt, Length}
use Rattle.ob_types.specs.TypedView.{designator_view, expr_view, stmt_view}
use Rattle.ob_types.proofs.TypedViews.{view_updated, view_copy, view_new, view_new_open_array, view_assert, view_halt, view_length}
use Rattle.ob_rules.specs.declared.values.Place.{Place}
use Rattle.ob_rules.specs.declared.values.Valued.{Valued}
use Rattle.ob_rules.specs.declared.values.Valued.TheVariants as valued
use Rattle.ob_rules.specs.declared.meant.Meant.{Meant}
use Rattle.ob_rules.specs.declared.meant.Meant.TheVariants as means
use Rattle.ob_rules.specs.declared.meant.Asked.{Asked}
use Rattle.ob_rules.specs.declared.meant.Asked.TheVariants as asked
use Rattle.ob_rules.specs.declared.meant.Where.{Where}
use Rattle.ob_rules.specs.declared.broken.Predeclared.{Predeclared}
use Rattle.ob_rules.specs.declared.broken.Predeclared.TheVariants as pre
use Rattle.ob_rules.specs.declared.broken.Rule.TheVariants as rule
use Rattle.ob_rules.specs.Judged.{Judged, sound, each_sound}
use Rattle.ob_rules.specs.Shapes.{Map, array_of, record_of, pointed, is_held}
use Rattle.ob_rules.specs.Names.{Around, map_of}
use Rattle.ob_rules.specs.Values.{value_at, is, width as width_of, is_integer, is_chars, text_tree, tree, constant_in, place_in}
use Rattle.ob_rules.specs.Operators.{monadic, dyadic, only_value, and_so}
use Rattle.ob_rules.specs.Calls.{misplaced}
use Rattle.ob_rules.specs.Phrases.{Phrase}
use Rattle.ob_rules.specs.Predeclared.{changed_meant, changed_as, values, asked_first, asked_second, parameter, parameters_behind, parameters, is_function, value, if_is, on_width, longer, shorter, dimension, length_of, len_at, len_of, number_in, one, step, element_step, is_text, new_array, new_fixed, new_elements, if_held, new_one, new_many, fit_one, fit_two, fit, if_fit, call_fit, type_parameter, extreme_of, basic_if, extreme_call, call_predeclared}
use Rattle.ob_types.specs.declared.value.Value.{Value}
use Rattle.ob_types.specs.declared.value.Value.TheVariants as literal
use Rattle.law_spelling.specs.Coded.{PosFits}
use Rattle.law_spelling_stmts.specs.Fits.{StmtFits}
use Rattle.law_spelling_stmts.proofs.Setting.{Con, int_fits, small_fits, Setting, S, PlaceOk, ValuedOk, MeantOk, Keeps, any_keeps, then_keeps, made_keeps, each_keep, unless_keeps, wants_keeps, also_keeps, node_e, tree_ok}
use Rattle.law_spelling_stmts.proofs.Folding.{extreme_con}
use Rattle.law_spelling_stmts.proofs.Values.{monadic_keeps, dyadic_keeps, text_tree_ok, only_ok}
use Rattle.law_spelling_stmts.proofs.Calls.{MeantKeeps, PhraseOk, ArePhrases}
use Rattle.law_lists.proofs.Lists.{Anything, IfThere, less_true}

changed_meant_keeps : (k : Setting) (start : Pos) (m : Meant) → MeantOk k m → Keeps (ValuedOk k) (changed_meant start m)
changed_meant_keeps k start (means.Place p) h = unless_keeps (ValuedOk k) p.read_only rule.NotChangeable start (value_at p) h
changed_meant_keeps k start (means.Call x) h = only_ok k x h
changed_meant_keeps k start m h = tt

changed_as_keeps : (k : Setting) (u : Around) → k.Stands u → (p : Phrase) → PhraseOk k p → (o : Option (Around → Judged Meant)) → MeantKeeps k o → Keeps (ValuedOk k) (changed_as u p o)
changed_as_keeps k u s p g None h = made_keeps (ValuedOk k) (ValuedOk k) only_value (p.value u) (g.value u s) (λ x q. only_ok k x q)
changed_as_keeps k u s p g (Some f) h = then_keeps (MeantOk k) (ValuedOk k) (f u) (changed_meant p.start) (h u s) (λ m q. changed_meant_keeps k p.start m q)

parameter_keeps : (k : Setting) (u : Around) → k.Stands u → (a : Asked) (p : Phrase) → PhraseOk k p → Keeps (ValuedOk k) (parameter u a p)
parameter_keeps k u s asked.Value p g = g.value u s
parameter_keeps k u s asked.Changed p g = changed_as_keeps k u s p g p.meant g.meant
parameter_keeps k u s asked.Constant p g = then_keeps (ValuedOk k) (ValuedOk k) (p.value u) _ (g.value u s) (λ x h. wants_keeps (ValuedOk k) (is_some (constant_in x)) rule.NotConstant p.start x h)

values_keep : (k : Setting) (u : Around) → k.Stands u → (ps : List Phrase) → ArePhrases k ps → AllByRecursion (Keeps (ValuedOk k)) (values u ps)
values_keep k u s [] g = tt
values_keep k u s (p ∷ ps) g = (g.0.value u s, values_keep k u s ps g.1)

behind_keep : (k : Setting) (u : Around) → k.Stands u → (f : Predeclared) (ps : List Phrase) → ArePhrases k ps → AllByRecursion (Keeps (ValuedOk k)) (parameters_behind u f ps)
behind_keep k u s f [] g = tt
behind_keep k u s f (p ∷ ps) g = (parameter_keeps k u s (asked_second f) p g.0, values_keep k u s ps g.1)

parameters_keep : (k : Setting) (u : Around) → k.Stands u → (f : Predeclared) (ps : List Phrase) → ArePhrases k ps → AllByRecursion (Keeps (ValuedOk k)) (parameters u f ps)
parameters_keep k u s f [] g = tt
parameters_keep k u s f (p ∷ ps) g = (parameter_keeps k u s (asked_first f) p g.0, behind_keep k u s f ps g.1)

-- ---- what fits

abbrev Fits : Setting → Option (Judged Meant) → Type 0
Fits k o = IfThere (Keeps (MeantOk k)) o

so_fits : (k : Setting) {A : Type 0} (o : Option A) (f : A → Option (Judged Meant)) → ((x : A) → Fits k (f x)) → Fits k (and_so o f)
so_fits k None f h = tt
so_fits k (Some x) f h = h x

place_fits : (k : Setting) (x : Valued) → ValuedOk k x → (f : Place → Option (Judged Meant)) → ((p : Place) → PlaceOk k p → Fits k (f p)) → Fits k (and_so (place_in x) f)
place_fits k (valued.Place p) g f h = h p g
place_fits k (valued.Constant v) g f h = tt
place_fits k (valued.Node n) g f h = tt

-- a number that is constant
number_of : (v : Value) → Con v → (f : ℤ → Option (Judged Meant)) → (k : Setting) → ((z : ℤ) → FitsSigned w32 z → Fits k (f z)) → Fits k (and_so (number_in (Some v)) f)
number_of (literal.Int z) c f k h = h z (int_fits z c.0)
number_of (literal.Bool b) c f k h = tt
number_of (literal.Char n) c f k h = tt
number_of (literal.Set n) c f k h = tt
number_of (literal.Str t) c f k h = tt
number_of literal.Nil c f k h = tt

number_fits : (k : Setting) (x : Valued) → ValuedOk k x → (f : ℤ → Option (Judged Meant)) → ((z : ℤ) → FitsSigned w32 z → Fits k (f z)) → Fits k (and_so (number_in (constant_in x)) f)
number_fits k (valued.Constant v) g f h = number_of v g f k h
number_fits k (valued.Place p) g f h = tt
number_fits k (valued.Node n) g f h = tt

value_fits : (k : Setting) (j : Judged Valued) → Keeps (ValuedOk k) j → Fits k (value j)
value_fits k j h = made_keeps (ValuedOk k) (MeantOk k) (λ v. means.Call v) j h (λ v q. q)

if_fits : (k : Setting) (b : Bool) (j : Judged Meant) → Keeps (MeantOk k) j → Fits k (if_is b j)
if_fits k true j h = h
if_fits k false j h = tt

pub named_s : (k : Setting) (l : Bool) (s : TypedStmt) (t : Stmt) → stmt_view s ≡ t → StmtFits k.words l t → S k l s
named_s k l s t i h = subst (StmtFits k.words l) (sym i) h

width_fits : (k : Setting) (map : Map) (op : Width → Unary) (at : Pos) → PosFits at → (x : Valued) → ValuedOk k x → Fits k (on_width map op at x)
width_fits k map op at f x h = so_fits k (width_of map x) (λ w. value (monadic (op w) at x)) (λ w. value_fits k (monadic (op w) at x) (monadic_keeps k (op w) at f x h))

-- the lengths of arrays are constants
length_con : (n : ℕ) → n < 2 ^ 31 → Con (literal.Int (pos n))
length_con n h = (less_true n (2 ^ 31) h, tt)

length_fits : (k : Setting) (o : Option ℕ) (b : Bool) (p : Place) → PlaceOk k p → ((n : ℕ) → o ≡ Some n → n < 2 ^ 31) → Fits k (length_of o b p)
length_fits k (Some n) b p h g = length_con n (g n refl)
length_fits k None true p h g = node_e k _ (Length (designator_view p.designator.inner)) (view_length p.designator.inner) h tt
length_fits k None false p h g = tt

dimension_short : (k : Setting) (u : Around) → k.Stands u → (n : ℕ) (t : TypeRef) (a : Option ℕ × TypeRef) → dimension (map_of u) n t ≡ Some a → (m : ℕ) → a.0 ≡ Some m → m < 2 ^ 31
dimension_short k u s zero t a e m i = k.lengths u s t a.1 m (e ∙ ap (λ o. Some (let p : Option ℕ × TypeRef = (o, a.1) in p)) i)
dimension_short k u s (suc n) t a e m i = go (array_of (map_of u) t) e (λ b f. dimension_short k u s n b a f m i)
  where
    go : (o : Option (Option ℕ × TypeRef)) → and_so o (λ b. dimension (map_of u) n b.1) ≡ Some a → ((b : TypeRef) → dimension (map_of u) n b ≡ Some a → m < 2 ^ 31) → m < 2 ^ 31
    go None f more = absurd cc
    go (Some b) f more = more b.1 f

len_at_fits : (k : Setting) (u : Around) → k.Stands u → (n : ℕ) (p : Place) → PlaceOk k p → Fits k (len_at (map_of u) n p)
len_at_fits k u s n p h = go (dimension (map_of u) n p.of) refl
  where
    go : (o : Option (Option ℕ × TypeRef)) → dimension (map_of u) n p.of ≡ o → Fits k (and_so o (λ a. length_of a.0 (nat_eq n 0) p))
    go None e = tt
    go (Some a) e = length_fits k a.0 (nat_eq n 0) p h (λ m i. dimension_short k u s n p.of a e m i)

len_of_fits : (k : Setting) (u : Around) → k.Stands u → (z : ℤ) (p : Place) → PlaceOk k p → Fits k (len_of (map_of u) z p)
len_of_fits k u s (pos n) p h = len_at_fits k u s n p h
len_of_fits k u s (negsuc n) p h = tt

updated_s : (k : Setting) (o : Update) (p : Place) (n : Valued) (at : Pos) → PosFits at → PlaceOk k p → ValuedOk k n → (l : Bool) → S k l (stmt.Update o p.designator.inner (tree n) at)
updated_s k o p n at f h g l = named_s k l _ (Updated o (designator_view p.designator.inner) (expr_view (tree n)) at) (view_updated o p.designator.inner (tree n) at) (h, (tree_ok k n g, f))

step_fits : (k : Setting) (map : Map) (op : Width → Update) (at : Pos) → PosFits at → (x n : Valued) → ValuedOk k x → ValuedOk k n → Fits k (step map op at x n)
step_fits k map op at f x n h g = place_fits k x h _ (λ p q. so_fits k (width_of map x) _ (λ w. so_fits k (width_of map n) _ (λ v. λ l. updated_s k (op w) p n at f q g l)))

element_fits : (k : Setting) (map : Map) (o : Update) (at : Pos) → PosFits at → (x n : Valued) → ValuedOk k x → ValuedOk k n → Fits k (element_step map o at x n)
element_fits k map o at f x n h g = place_fits k x h _ (λ p q. so_fits k (width_of map n) _ (λ w. so_fits k (if_is (is map basic.Set x) o) _ (λ c. λ l. updated_s k c p n at f q g l)))

array_fits : (k : Setting) (o : Option ℕ) (p : Place) (t : TypeRef) (at : Pos) → PosFits at → PlaceOk k p → Fits k (new_array o p t at)
array_fits k (Some n) p t at f h = λ l. named_s k l _ (New (designator_view p.designator.inner) (made_of.Array t) at) (view_new p.designator.inner (made_of.Array t) at) (h, f)
array_fits k None p t at f h = tt

fixed_fits : (k : Setting) (o : Option QName) (a : Option (Option ℕ × TypeRef)) (p : Place) (t : TypeRef) (at : Pos) → PosFits at → PlaceOk k p → Fits k (new_fixed o a p t at)
fixed_fits k (Some q) a p t at f h = λ l. named_s k l _ (New (designator_view p.designator.inner) (made_of.Record q) at) (view_new p.designator.inner (made_of.Record q) at) (h, f)
fixed_fits k None (Some a) p t at f h = array_fits k a.0 p t at f h
fixed_fits k None None p t at f h = tt

elements_fit : (k : Setting) (o : Option ℕ) (t : TypeRef) (p : Place) (n : Valued) (at : Pos) → PosFits at → PlaceOk k p → ValuedOk k n → Fits k (new_elements o t p n at)
elements_fit k (Some c) t p n at f h g = tt
elements_fit k None t p n at f h g = λ l. named_s k l _ (NewOpenArray (designator_view p.designator.inner) t (expr_view (tree n)) at) (view_new_open_array p.designator.inner t (tree n) at) (h, (tree_ok k n g, f))

held_fits : (k : Setting) (b : Bool) (o : Option (Judged Meant)) → Fits k o → Fits k (if_held b o)
held_fits k true o h = h
held_fits k false o h = tt

new_one_fits : (k : Setting) (map : Map) (at : Pos) → PosFits at → (x : Valued) → ValuedOk k x → Fits k (new_one map at x)
new_one_fits k map at f x h = place_fits k x h _ (λ p q. so_fits k (pointed map p.of) _ (λ t. held_fits k (is_held map t) _ (fixed_fits k (record_of map t) (array_of map t) p t at f q)))

new_many_fits : (k : Setting) (map : Map) (at : Pos) → PosFits at → (x n : Valued) → ValuedOk k x → ValuedOk k n → Fits k (new_many map at x n)
new_many_fits k map at f x n h g = place_fits k x h _ (λ p q. so_fits k (width_of map n) _ (λ w. so_fits k (pointed map p.of) _ (λ t. held_fits k (is_held map t) _ (so_fits k (array_of map t) _ (λ a. elements_fit k a.0 a.1 p n at f q g)))))

assert_s : (k : Setting) (x : Valued) (z : ℤ) (at : Pos) → PosFits at → FitsSigned w32 z → ValuedOk k x → (l : Bool) → S k l (stmt.Assert (tree x) z at)
assert_s k x z at f n h l = named_s k l _ (Assert (expr_view (tree x)) z at) (view_assert (tree x) z at) (tree_ok k x h, (n, f))

one_con_is : Con (literal.Int (pos 1))
one_con_is = (refl, tt)

one_fits : (k : Setting) (u : Around) → k.Stands u → (f : Predeclared) (at : Pos) → PosFits at → (x : Valued) → ValuedOk k x → Fits k (fit_one (map_of u) f at x)
one_fits k u st pre.Abs at g x h = width_fits k (map_of u) unary.Abs at g x h
one_fits k u st pre.Cap at g x h = so_fits k (if_is (is (map_of u) basic.Char x) unary.Cap) _ (λ o. value_fits k (monadic o at x) (monadic_keeps k o at g x h))
one_fits k u st pre.Chr at g x h = so_fits k (if_is (is_integer (map_of u) x) unary.Chr) _ (λ o. value_fits k (monadic o at x) (monadic_keeps k o at g x h))
one_fits k u st pre.Long at g x h = so_fits k (width_of (map_of u) x) _ (λ w. so_fits k (longer w) _ (λ l. value_fits k (monadic (unary.Long l) at x) (monadic_keeps k (unary.Long l) at g x h)))
one_fits k u st pre.Short at g x h = so_fits k (width_of (map_of u) x) _ (λ w. so_fits k (shorter w) _ (λ l. value_fits k (monadic (unary.Short l) at x) (monadic_keeps k (unary.Short l) at g x h)))
one_fits k u st pre.Odd at g x h = so_fits k (if_is (is_integer (map_of u) x) unary.Odd) _ (λ o. value_fits k (monadic o at x) (monadic_keeps k o at g x h))
one_fits k u st pre.Ord at g x h = so_fits k (if_is (is (map_of u) basic.Char x) unary.Ord) _ (λ o. value_fits k (monadic o at x) (monadic_keeps k o at g x h))
one_fits k u st pre.Len at g x h = place_fits k x h (λ p. len_at (map_of u) 0 p) (λ p q. len_at_fits k u st 0 p q)
one_fits k u st pre.Assert at g x h = if_fits k (is (map_of u) basic.Boolean x) (sound (means.Statement (record { inner = stmt.Assert (tree x) (pos 0) at }))) (λ l. assert_s k x (pos 0) at g (small_fits 0 (omega arith)) h l)
one_fits k u st pre.Halt at g x h = number_fits k x h _ (λ z n. λ l. named_s k l _ (Halt z at) (view_halt z at) (n, g))
one_fits k u st pre.Inc at g x h = step_fits k (map_of u) update.Inc at g x one h one_con_is
one_fits k u st pre.Dec at g x h = step_fits k (map_of u) update.Dec at g x one h one_con_is
one_fits k u st pre.New at g x h = new_one_fits k (map_of u) at g x h
one_fits k u st f at g x h = tt

two_fits : (k : Setting) (u : Around) → k.Stands u → (f : Predeclared) (at : Pos) → PosFits at → (x n : Valued) → ValuedOk k x → ValuedOk k n → Fits k (fit_two (map_of u) f at x n)
two_fits k u st pre.Ash at f x n h g = so_fits k (if_is (is_integer (map_of u) x && is_integer (map_of u) n) binary.Ash) _ (λ o. value_fits k (dyadic o at x n) (dyadic_keeps k o at f x n h g))
two_fits k u st pre.Len at f x n h g = place_fits k x h _ (λ p q. so_fits k (number_in (constant_in n)) _ (λ z. len_of_fits k u st z p q))
two_fits k u st pre.Assert at f x n h g = number_fits k n g _ (λ z i. if_fits k (is (map_of u) basic.Boolean x) (sound (means.Statement (record { inner = stmt.Assert (tree x) z at }))) (λ l. assert_s k x z at f i h l))
two_fits k u st pre.Inc at f x n h g = step_fits k (map_of u) update.Inc at f x n h g
two_fits k u st pre.Dec at f x n h g = step_fits k (map_of u) update.Dec at f x n h g
two_fits k u st pre.Incl at f x n h g = element_fits k (map_of u) update.Incl at f x n h g
two_fits k u st pre.Excl at f x n h g = element_fits k (map_of u) update.Excl at f x n h g
two_fits k u st pre.Copy at f x y h g = place_fits k y g _ (λ p q. if_fits k (is_text (map_of u) x && is_chars (map_of u) y) (sound (means.Statement (record { inner = stmt.Copy (text_tree x) p.designator.inner at }))) (λ l. named_s k l _ (Copy (expr_view (text_tree x)) (designator_view p.designator.inner) at) (view_copy (text_tree x) p.designator.inner at) (text_tree_ok k x h, (q, f))))
two_fits k u st pre.New at f x n h g = new_many_fits k (map_of u) at f x n h g
two_fits k u st p at f x n h g = tt

all_fit : (k : Setting) (u : Around) → k.Stands u → (f : Predeclared) (at : Pos) → PosFits at → (xs : List Valued) → AllByRecursion (ValuedOk k) xs → Fits k (fit (map_of u) f at xs)
all_fit k u st f at g [] h = tt
all_fit k u st f at g (x ∷ []) h = one_fits k u st f at g x h.0
all_fit k u st f at g (x ∷ y ∷ []) h = two_fits k u st f at g x y h.0 h.1.0
all_fit k u st f at g (x ∷ y ∷ z ∷ zs) h = tt

if_fit_keeps : (k : Setting) (at : Pos) (o : Option (Judged Meant)) → Fits k o → Keeps (MeantOk k) (if_fit at o)
if_fit_keeps k at None h = tt
if_fit_keeps k at (Some j) h = h

-- ---- MAX and MIN

extreme_keeps : (k : Setting) (b : Bool) (at : Pos) (t : Option TypeRef) (o : Option Basic) → Keeps (MeantOk k) (extreme_of b at t o)
extreme_keeps k b at (Some t) (Some c) = extreme_con b c
extreme_keeps k b at (Some t) None = tt
extreme_keeps k b at None o = tt

extreme_call_keeps : (k : Setting) (b : Bool) (u : Around) (w : Where) (at : Pos) (ps : List Phrase) → Keeps (MeantOk k) (extreme_call b u w at ps)
extreme_call_keeps k b u w at [] = also_keeps (MeantOk k) (misplaced w true) rule.MisplacedCall at _ tt
extreme_call_keeps k b u w at (p ∷ []) = then_keeps Anything (MeantOk k) (type_parameter u p p.name) _ (any_keeps (type_parameter u p p.name)) (λ t q. also_keeps (MeantOk k) (misplaced w true) rule.MisplacedCall at (extreme_of b at t (basic_if (map_of u) t)) (extreme_keeps k b at t (basic_if (map_of u) t)))
extreme_call_keeps k b u w at (p ∷ q ∷ ps) =
    then_keeps Anything (MeantOk k) (type_parameter u p p.name) _ (any_keeps (type_parameter u p p.name)) (λ t r. then_keeps Anything (MeantOk k) (each_sound (values u (q ∷ ps))) _ (any_keeps (each_sound (values u (q ∷ ps)))) (λ xs i. also_keeps (MeantOk k) (misplaced w true) rule.MisplacedCall at _ tt))

pub predeclared_keeps : (k : Setting) (u : Around) → k.Stands u → (w : Where) (at : Pos) → PosFits at → (f : Predeclared) (ps : List Phrase) → ArePhrases k ps → Keeps (MeantOk k) (call_predeclared u w at f ps)
predeclared_keeps k u s w at i pre.Max ps g = extreme_call_keeps k true u w at ps
predeclared_keeps k u s w at i pre.Min ps g = extreme_call_keeps k false u w at ps
predeclared_keeps k u s w at i f ps g =
    then_keeps (AllByRecursion (ValuedOk k)) (MeantOk k) (each_sound (parameters u f ps)) (call_fit u w f at) (each_keep (ValuedOk k) (parameters u f ps) (parameters_keep k u s f ps g))
    (λ xs h. also_keeps (MeantOk k) (misplaced w (is_function f)) rule.MisplacedCall at (if_fit at (fit (map_of u) f at xs)) (if_fit_keeps k at (fit (map_of u) f at xs) (all_fit k u s f at i xs h)))
