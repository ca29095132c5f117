-- Calls of predeclared procedures.
use Rattle.std.specs.Prelude.{ℕ, zero, suc, ◌^◌, ◌-◌, Bool, true, false, not, ◌&&◌, ◌||◌, nat_eq, List, [], ◌∷◌, ◌++◌, length, Option, Some, None, is_some, is_none, ℤ, pos, negsuc}
use Rattle.ob_tree.specs.declared.pos.Pos.{Pos}
use Rattle.ob_tree.specs.declared.names.QName.{QName}
use Rattle.ob_tree.specs.declared.ident.Qualident.{Qualident}
use Rattle.ob_types.specs.declared.types.Basic.{Basic}
use Rattle.ob_types.specs.declared.types.Basic.TheVariants as basic
use Rattle.ob_types.specs.declared.types.TypeRef.{TypeRef}
use Rattle.ob_types.specs.declared.types.TypeRef.TheVariants as ref
use Rattle.ob_types.specs.declared.value.Value.{Value}
use Rattle.ob_types.specs.declared.value.Value.TheVariants as literal
use Rattle.ob_types.specs.declared.typed.Width.{Width}
use Rattle.ob_types.specs.declared.typed.Width.TheVariants as width
use Rattle.ob_types.specs.declared.typed.Unary.{Unary}
use Rattle.ob_types.specs.declared.typed.Unary.TheVariants as unary
use Rattle.ob_types.specs.declared.typed.Binary.TheVariants as binary
use Rattle.ob_types.specs.declared.typed.Update.{Update}
use Rattle.ob_types.specs.declared.typed.Update.TheVariants as update
use Rattle.ob_types.specs.declared.typed.Made.TheVariants as made_of
use Rattle.ob_types.specs.declared.typed.TypedExpr.{TypedExpr}
use Rattle.ob_types.specs.declared.typed.TypedExpr.TheVariants as e
use Rattle.ob_types.specs.declared.typed.TypedStmt.{TypedStmt}
use Rattle.ob_types.specs.declared.typed.TypedStmt.TheVariants as stmt
use Rattle.ob_types.specs.TypedKinds.{of_basic, variable_type}
use Rattle.ob_types.specs.TypedSyntax.{Desig, OfVariable, Field, Index, Deref, Guard}
use Rattle.ob_types.specs.TypedView.{designator_view}
use Rattle.ob_rules.specs.declared.meant.Meant.{Meant}
use Rattle.ob_rules.specs.declared.meant.Asked.{Asked}
use Rattle.ob_rules.specs.declared.meant.Asked.TheVariants as asked
use Rattle.ob_rules.specs.declared.meant.Where.{Where}
use Rattle.ob_rules.specs.declared.meant.Meant.TheVariants as means
use Rattle.ob_rules.specs.declared.broken.Predeclared.{Predeclared}
use Rattle.ob_rules.specs.declared.broken.Predeclared.TheVariants as pre
use Rattle.ob_rules.specs.Judged.{Judged, sound, silent, breaks, also, wants, unless, each_sound, names_type, names_length, made, ◌▷◌}
use Rattle.ob_rules.specs.Shapes.{Map, basic_of, array_of, is_open, pointed, is_held, record_of}
use Rattle.ob_rules.specs.Names.{Around, map_of, type_named}
use Rattle.ob_rules.specs.declared.values.Place.{Place}
use Rattle.ob_rules.specs.declared.values.Valued.{Valued}
use Rattle.ob_rules.specs.declared.values.Valued.TheVariants as valued
use Rattle.ob_rules.specs.declared.broken.Rule.TheVariants as rule
use Rattle.ob_rules.specs.Values.{constant, computed, value_at, is, width as width_of, is_integer, is_chars, text_of, text_tree, type_in, tree, type, constant_in, place_in}
use Rattle.ob_rules.specs.Operators.{monadic, dyadic, only_value, and_so}
use Rattle.ob_rules.specs.Calls.{misplaced}
use Rattle.ob_rules.specs.Phrases.{Phrase}

-- PARAMETERS

-- a parameter that is changed. Rule 26: a constant, a procedure or a read-only thing is changed
abbrev pub changed_meant : Pos → Meant → Judged Valued
changed_meant start (means.Place p) = unless p.read_only rule.NotChangeable start (value_at p)
changed_meant start (means.Call x) = sound (only_value x)
changed_meant start m = breaks rule.NotChangeable start

abbrev pub changed_as : Around → Phrase → Option (Around → Judged Meant) → Judged Valued
changed_as u p None = made only_value (p.value u)
changed_as u p (Some meant) = meant u ▷ changed_meant p.start

abbrev pub changed : Around → Phrase → Judged Valued
changed u p = changed_as u p p.meant

-- rule 10: an expression is not constant where one must be
abbrev pub must_be_constant : Around → Phrase → Judged Valued
must_be_constant u p = p.value u ▷ λ x. wants (is_some (constant_in x)) rule.NotConstant p.start x

abbrev pub values : Around → List Phrase → List (Judged Valued)
values u [] = []
values u (p ∷ ps) = p.value u ∷ values u ps

-- what is asked of the first parameter, and of the second
abbrev pub asked_first : Predeclared → Asked
asked_first pre.Inc = asked.Changed
asked_first pre.Dec = asked.Changed
asked_first pre.Incl = asked.Changed
asked_first pre.Excl = asked.Changed
asked_first pre.New = asked.Changed
asked_first pre.Halt = asked.Constant
asked_first f = asked.Value

abbrev pub asked_second : Predeclared → Asked
asked_second pre.Copy = asked.Changed
asked_second pre.Assert = asked.Constant
asked_second pre.Len = asked.Constant
asked_second f = asked.Value

abbrev pub parameter : Around → Asked → Phrase → Judged Valued
parameter u asked.Value p = p.value u
parameter u asked.Changed p = changed u p
parameter u asked.Constant p = must_be_constant u p

abbrev pub parameters_behind : Around → Predeclared → List Phrase → List (Judged Valued)
parameters_behind u f [] = []
parameters_behind u f (p ∷ ps) = parameter u (asked_second f) p ∷ values u ps

abbrev pub parameters : Around → Predeclared → List Phrase → List (Judged Valued)
parameters u f [] = []
parameters u f (p ∷ ps) = parameter u (asked_first f) p ∷ parameters_behind u f ps

abbrev pub is_function : Predeclared → Bool
is_function pre.Assert = false
is_function pre.Copy = false
is_function pre.Dec = false
is_function pre.Excl = false
is_function pre.Halt = false
is_function pre.Inc = false
is_function pre.Incl = false
is_function pre.New = false
is_function f = true

-- WHAT FITS: none is rule 28

abbrev pub value : Judged Valued → Option (Judged Meant)
value x = Some (made (λ v. means.Call v) x)

abbrev pub does : TypedStmt → Option (Judged Meant)
does s = Some (sound (means.Statement (record { inner = s })))

abbrev pub if_is : {A : Type 0} → Bool → A → Option A
if_is true x = Some x
if_is false x = None

abbrev pub on_width : Map → (Width → Unary) → Pos → Valued → Option (Judged Meant)
on_width map op at x = and_so (width_of map x) (λ w. value (monadic (op w) at x))

abbrev pub longer : Width → Option Width
longer width.ShortInt = Some width.Integer
longer width.Integer = Some width.LongInt
longer width.LongInt = None

abbrev pub shorter : Width → Option Width
shorter width.ShortInt = None
shorter width.Integer = Some width.ShortInt
shorter width.LongInt = Some width.Integer

-- LEN: the type after so many dimensions
abbrev pub dimension : Map → ℕ → TypeRef → Option (Option ℕ × TypeRef)
dimension map zero t = array_of map t
dimension map (suc n) t = and_so (array_of map t) (λ a. dimension map n a.1)

-- a length that is a constant leaves its designator in the notes alone
abbrev pub length_of : Option ℕ → Bool → Place → Option (Judged Meant)
length_of (Some n) first p = Some (names_length p.designator.inner (sound (means.Call (constant (literal.Int (pos n))))))
length_of None true p = Some (sound (means.Call (computed (e.Length p.designator.inner) (of_basic basic.LongInt))))
length_of None false p = None

abbrev pub len_at : Map → ℕ → Place → Option (Judged Meant)
len_at map n p = and_so (dimension map n p.of) (λ a. length_of a.0 (nat_eq n 0) p)

abbrev pub len_of : Map → ℤ → Place → Option (Judged Meant)
len_of map (pos n) p = len_at map n p
len_of map (negsuc n) p = None

abbrev pub number_in : Option Value → Option ℤ
number_in (Some (literal.Int z)) = Some z
number_in v = None

abbrev pub one : Valued
one = constant (literal.Int (pos 1))

abbrev pub step : Map → (Width → Update) → Pos → Valued → Valued → Option (Judged Meant)
step map op at x n = and_so (place_in x) (λ p. and_so (width_of map x) (λ w. and_so (width_of map n) (λ k. does (stmt.Update (op w) p.designator.inner (tree n) at))))

abbrev pub element_step : Map → Update → Pos → Valued → Valued → Option (Judged Meant)
element_step map op at x n = and_so (place_in x) (λ p. and_so (width_of map n) (λ k. and_so (if_is (is map basic.Set x) op) (λ o. does (stmt.Update o p.designator.inner (tree n) at))))

abbrev pub is_text : Map → Valued → Bool
is_text map x = is_chars map x || is_some (text_of x)

-- NEW: a pointer to a record or to an array of a fixed length
abbrev pub new_array : Option ℕ → Place → TypeRef → Pos → Option (Judged Meant)
new_array (Some n) p base at = does (stmt.New p.designator.inner (made_of.Array base) at)
new_array None p base at = None

abbrev pub new_fixed : Option QName → Option (Option ℕ × TypeRef) → Place → TypeRef → Pos → Option (Judged Meant)
new_fixed (Some q) a p base at = does (stmt.New p.designator.inner (made_of.Record q) at)
new_fixed None (Some a) p base at = new_array a.0 p base at
new_fixed None None p base at = None

-- with a length, a pointer to an open array
abbrev pub new_elements : Option ℕ → TypeRef → Place → Valued → Pos → Option (Judged Meant)
new_elements (Some k) t p n at = None
new_elements None t p n at = does (stmt.NewOpenArray p.designator.inner t (tree n) at)

-- a base that breaks a rule leaves nothing to say
abbrev pub if_held : Bool → Option (Judged Meant) → Option (Judged Meant)
if_held true x = x
if_held false x = Some silent

abbrev pub new_one : Map → Pos → Valued → Option (Judged Meant)
new_one map at x = and_so (place_in x) (λ p. and_so (pointed map p.of) (λ base. if_held (is_held map base) (new_fixed (record_of map base) (array_of map base) p base at)))

abbrev pub new_many : Map → Pos → Valued → Valued → Option (Judged Meant)
new_many map at x n = and_so (place_in x) (λ p. and_so (width_of map n) (λ w. and_so (pointed map p.of) (λ base. if_held (is_held map base) (and_so (array_of map base) (λ a. new_elements a.0 a.1 p n at)))))

-- a single parameter
abbrev pub fit_one : Map → Predeclared → Pos → Valued → Option (Judged Meant)
fit_one map pre.Abs at x = on_width map unary.Abs at x
fit_one map pre.Cap at x = and_so (if_is (is map basic.Char x) unary.Cap) (λ op. value (monadic op at x))
fit_one map pre.Chr at x = and_so (if_is (is_integer map x) unary.Chr) (λ op. value (monadic op at x))
fit_one map pre.Long at x = and_so (width_of map x) (λ w. and_so (longer w) (λ l. value (monadic (unary.Long l) at x)))
fit_one map pre.Short at x = and_so (width_of map x) (λ w. and_so (shorter w) (λ l. value (monadic (unary.Short l) at x)))
fit_one map pre.Odd at x = and_so (if_is (is_integer map x) unary.Odd) (λ op. value (monadic op at x))
fit_one map pre.Ord at x = and_so (if_is (is map basic.Char x) unary.Ord) (λ op. value (monadic op at x))
fit_one map pre.Len at x = and_so (place_in x) (λ p. len_at map 0 p)
fit_one map pre.Assert at x = if_is (is map basic.Boolean x) (sound (means.Statement (record { inner = stmt.Assert (tree x) (pos 0) at })))
fit_one map pre.Halt at x = and_so (number_in (constant_in x)) (λ z. does (stmt.Halt z at))
fit_one map pre.Inc at x = step map update.Inc at x one
fit_one map pre.Dec at x = step map update.Dec at x one
fit_one map pre.New at x = new_one map at x
fit_one map f at x = None

-- two of them
abbrev pub fit_two : Map → Predeclared → Pos → Valued → Valued → Option (Judged Meant)
fit_two map pre.Ash at x n = and_so (if_is (is_integer map x && is_integer map n) binary.Ash) (λ op. value (dyadic op at x n))
fit_two map pre.Len at x n = and_so (place_in x) (λ p. and_so (number_in (constant_in n)) (λ z. len_of map z p))
fit_two map pre.Assert at x n = and_so (number_in (constant_in n)) (λ z. if_is (is map basic.Boolean x) (sound (means.Statement (record { inner = stmt.Assert (tree x) z at }))))
fit_two map pre.Inc at x n = step map update.Inc at x n
fit_two map pre.Dec at x n = step map update.Dec at x n
fit_two map pre.Incl at x n = element_step map update.Incl at x n
fit_two map pre.Excl at x n = element_step map update.Excl at x n
fit_two map pre.Copy at x y = and_so (place_in y) (λ p. if_is (is_text map x && is_chars map y) (sound (means.Statement (record { inner = stmt.Copy (text_tree x) p.designator.inner at }))))
fit_two map pre.New at x n = new_many map at x n
fit_two map f at x n = None

abbrev pub fit : Map → Predeclared → Pos → List Valued → Option (Judged Meant)
fit map f at [] = None
fit map f at (x ∷ []) = fit_one map f at x
fit map f at (x ∷ y ∷ []) = fit_two map f at x y
fit map f at (x ∷ y ∷ z ∷ zs) = None

-- rule 28: the parameters of a predeclared procedure do not fit
abbrev pub if_fit : Pos → Option (Judged Meant) → Judged Meant
if_fit at None = breaks rule.UnfitPredeclaredParameters at
if_fit at (Some m) = m

-- rule 27 names the call, and no misfit of its parameters
abbrev pub call_fit : Around → Where → Predeclared → Pos → List Valued → Judged Meant
call_fit u w f at xs = also (misplaced w (is_function f)) rule.MisplacedCall at (if_fit at (fit (map_of u) f at xs))

-- MAX AND MIN

abbrev pub extreme : Bool → Basic → Value
extreme max basic.Boolean = literal.Bool max
extreme true basic.Char = literal.Char 255
extreme false basic.Char = literal.Char 0
extreme true basic.ShortInt = literal.Int (pos 127)
extreme false basic.ShortInt = literal.Int (negsuc 127)
extreme true basic.Integer = literal.Int (pos 32767)
extreme false basic.Integer = literal.Int (negsuc 32767)
extreme true basic.LongInt = literal.Int (pos (2 ^ 31 - 1))
extreme false basic.LongInt = literal.Int (negsuc (2 ^ 31 - 1))
extreme true basic.Set = literal.Int (pos 31)
extreme false basic.Set = literal.Int (pos 0)

-- the parameter of MAX and MIN is a type's name
abbrev pub type_parameter : Around → Phrase → Option Qualident → Judged (Option TypeRef)
type_parameter u p None = p.value u ▷ λ x. sound None
type_parameter u p (Some q) = made (λ t. Some t) (type_named u q)

abbrev pub extreme_of : Bool → Pos → Option TypeRef → Option Basic → Judged Meant
extreme_of max at (Some t) (Some b) = names_type t (sound (means.Call (constant (extreme max b))))
extreme_of max at t b = breaks rule.UnfitPredeclaredParameters at

abbrev pub basic_if : Map → Option TypeRef → Option Basic
basic_if map None = None
basic_if map (Some t) = basic_of map t

abbrev pub extreme_call : Bool → Around → Where → Pos → List Phrase → Judged Meant
extreme_call max u w at [] = also (misplaced w true) rule.MisplacedCall at (breaks rule.UnfitPredeclaredParameters at)
extreme_call max u w at (p ∷ []) = type_parameter u p p.name ▷ λ t. also (misplaced w true) rule.MisplacedCall at (extreme_of max at t (basic_if (map_of u) t))
extreme_call max u w at (p ∷ ps) = type_parameter u p p.name ▷ λ t. each_sound (values u ps) ▷ λ xs. also (misplaced w true) rule.MisplacedCall at (breaks rule.UnfitPredeclaredParameters at)

abbrev pub call_predeclared : Around → Where → Pos → Predeclared → List Phrase → Judged Meant
call_predeclared u w at pre.Max ps = extreme_call true u w at ps
call_predeclared u w at pre.Min ps = extreme_call false u w at ps
call_predeclared u w at f ps = each_sound (parameters u f ps) ▷ call_fit u w f at
