-- The pieces of the scheme have so many lines.
use Rattle.std.proofs.Common.{◌≡◌, ℕ, suc, ◌+◌, ◌*◌, sym, ap, ◌∙◌, List, [], ◌∷◌, length, arith, Option, Some, None}
use Rattle.ob_tree.specs.declared.pos.Pos.{Pos}
use Rattle.ob_types.specs.declared.types.TypeRef.{TypeRef}
use Rattle.ob_types.specs.declared.value.Value.{Value}
use Rattle.ob_types.specs.declared.value.Value.TheVariants as literal
use Rattle.ob_types.specs.declared.typed.Passing.{Passing}
use Rattle.ob_types.specs.declared.typed.Passing.TheVariants as passing
use Rattle.ob_types.specs.declared.typed.Variable.{Variable}
use Rattle.ob_types.specs.declared.typed.Variable.TheVariants as variable
use Rattle.ob_types.specs.declared.typed.Guarded.{Guarded}
use Rattle.ob_types.specs.declared.typed.Guarded.TheVariants as guarded
use Rattle.ob_types.specs.declared.typed.Unary.{Unary}
use Rattle.ob_types.specs.declared.typed.Unary.TheVariants as unary
use Rattle.ob_types.specs.declared.typed.Connective.{Connective}
use Rattle.ob_types.specs.declared.typed.Connective.TheVariants as connective
use Rattle.ob_types.specs.declared.typed.Label.{Label}
use Rattle.ob_types.specs.TypedSyntax.{Expr, Logical}
use Rattle.ob_scheme.specs.declared.want.Want.{Want}
use Rattle.ob_scheme.specs.declared.want.Want.TheVariants as want
use Rattle.ob_scheme.specs.Lines.{behind}
use Rattle.ob_scheme.specs.Context.{Context}
use Rattle.ob_scheme.specs.Descriptions.{elements_of}
use Rattle.ob_scheme.specs.Operations.{unary_code}
use Rattle.ob_scheme.specs.Expressions.{from_place, from_pointer, measured_behind, from_guard, behind_guard, pair_code, parameter_code, variable_code, text_code, constant_code, end_expr}
use Rattle.ob_scheme.specs.Statements.{end_label, end_labels}
use Rattle.ob_gstmt_labels.specs.Sizes.{place_size, measure_size, pointer_size, dropped_size, guard_size, pair_size, parameter_size, variable_size, text_size, constant_size, unary_size, between, joined}

pub place_behind : (c : Context) (w : Want) (t : TypeRef) (pc : ℕ) → behind (from_place c w t) pc ≡ pc + place_size w
place_behind c want.Value t pc = omega arith
place_behind c want.Place t pc = omega arith
place_behind c (want.Room n) t pc = omega arith
place_behind c want.PlaceAndTag t pc = omega arith
place_behind c want.Tag t pc = omega arith
place_behind c want.PlaceAndLength t pc = omega arith
place_behind c want.Length t pc = omega arith

measure_behind : (n : Option ℕ) (at : Pos) (pc : ℕ) → behind (measured_behind n at) pc ≡ pc + measure_size n
measure_behind None at pc = omega arith
measure_behind (Some n) at pc = omega arith

pub pointer_behind : (c : Context) (w : Want) (t : TypeRef) (at : Pos) (pc : ℕ) → behind (from_pointer c w t at) pc ≡ pc + pointer_size w (elements_of c.types t)
pointer_behind c want.Value t at pc = omega arith
pointer_behind c want.Place t at pc = omega arith
pointer_behind c (want.Room n) t at pc = omega arith
pointer_behind c want.PlaceAndTag t at pc = omega arith
pointer_behind c want.Tag t at pc = omega arith
pointer_behind c want.PlaceAndLength t at pc = measure_behind (elements_of c.types t) at pc
pointer_behind c want.Length t at pc = omega arith

dropped_behind : (w : Want) (pc : ℕ) → behind (behind_guard w) pc ≡ pc + dropped_size w
dropped_behind want.Value pc = omega arith
dropped_behind want.Place pc = omega arith
dropped_behind (want.Room n) pc = omega arith
dropped_behind want.PlaceAndTag pc = omega arith
dropped_behind want.Tag pc = omega arith
dropped_behind want.PlaceAndLength pc = omega arith
dropped_behind want.Length pc = omega arith

pub guard_behind : (c : Context) (g : Guarded) (w : Want) (t : TypeRef) (pc : ℕ) → behind (from_guard c g w t) pc ≡ pc + guard_size g w
guard_behind c guarded.Pointer w t pc = place_behind c w t pc
guard_behind c guarded.Record w t pc = dropped_behind w pc

pair_behind : (k : ℕ) (w : Want) (pc : ℕ) → behind (pair_code k w) pc ≡ pc + pair_size w
pair_behind k want.Value pc = omega arith
pair_behind k want.Place pc = omega arith
pair_behind k (want.Room n) pc = omega arith
pair_behind k want.PlaceAndTag pc = omega arith
pair_behind k want.Tag pc = omega arith
pair_behind k want.PlaceAndLength pc = omega arith
pair_behind k want.Length pc = omega arith

one_more : (a p n q : ℕ) → q ≡ suc p + n → q ≡ p + suc n
one_more a p n q h = omega (arith, h)

two_more : (a p n q : ℕ) → q ≡ suc (suc p) + n → q ≡ p + suc (suc n)
two_more a p n q h = omega (arith, h)

pub parameter_behind : (c : Context) (how : Passing) (k : ℕ) (w : Want) (t : TypeRef) (pc : ℕ) → behind (parameter_code c how k w t) pc ≡ pc + parameter_size how w
parameter_behind c passing.Scalar k w t pc = one_more 0 pc (place_size w) (behind (from_place c w t) (suc pc)) (place_behind c w t (suc pc))
parameter_behind c passing.Structure k w t pc = two_more 0 pc (place_size w) (behind (from_place c w t) (suc (suc pc))) (place_behind c w t (suc (suc pc)))
parameter_behind c passing.OpenArray k w t pc = pair_behind k w pc
parameter_behind c passing.Variable k w t pc = two_more 0 pc (place_size w) (behind (from_place c w t) (suc (suc pc))) (place_behind c w t (suc (suc pc)))
parameter_behind c passing.VariableRecord k w t pc = pair_behind k w pc
parameter_behind c passing.VariableOpenArray k w t pc = pair_behind k w pc

pub variable_behind : (c : Context) (w : Want) (v : Variable) (t : TypeRef) (pc : ℕ) → behind (variable_code c w v t) pc ≡ pc + variable_size w v
variable_behind c w (variable.Module m x) t pc = one_more 0 pc (place_size w) (behind (from_place c w t) (suc pc)) (place_behind c w t (suc pc))
variable_behind c w (variable.Local x) t pc = one_more 0 pc (place_size w) (behind (from_place c w t) (suc pc)) (place_behind c w t (suc pc))
variable_behind c w (variable.Parameter how x) t pc = parameter_behind c how _ w t pc

text_behind : (w : Want) (text : List ℕ) (pc : ℕ) → behind (text_code w text) pc ≡ pc + text_size w
text_behind want.Value text pc = omega arith
text_behind want.Place text pc = omega arith
text_behind (want.Room n) text pc = omega arith
text_behind want.PlaceAndTag text pc = omega arith
text_behind want.Tag text pc = omega arith
text_behind want.PlaceAndLength text pc = omega arith
text_behind want.Length text pc = omega arith

pub constant_behind : (w : Want) (v : Value) (pc : ℕ) → behind (constant_code w v) pc ≡ pc + constant_size w v
constant_behind w (literal.Bool b) pc = omega arith
constant_behind w (literal.Char n) pc = omega arith
constant_behind w (literal.Int z) pc = omega arith
constant_behind w (literal.Set n) pc = omega arith
constant_behind w (literal.Str text) pc = text_behind w text pc
constant_behind w literal.Nil pc = omega arith

pub unary_behind : (o : Unary) (at : Pos) (pc : ℕ) → behind (unary_code o at) pc ≡ pc + unary_size o
unary_behind (unary.Negate w) at pc = omega arith
unary_behind unary.Not at pc = omega arith
unary_behind unary.Complement at pc = omega arith
unary_behind (unary.Abs w) at pc = omega arith
unary_behind unary.Cap at pc = omega arith
unary_behind unary.Chr at pc = omega arith
unary_behind (unary.Long w) at pc = omega arith
unary_behind unary.Odd at pc = omega arith
unary_behind unary.Ord at pc = omega arith
unary_behind (unary.Short w) at pc = omega arith
unary_behind unary.Element at pc = omega arith

-- & and OR
pub logical_ends : (c : Context) (w : Want) (o : Connective) (a b : Expr) (pc p q : ℕ) → p ≡ end_expr c want.Value a pc → q ≡ end_expr c want.Value b (p + between o) → end_expr c w (Logical o a b) pc ≡ q + joined o
logical_ends c w connective.And a b pc p q h k =
    let e : p + 1 ≡ suc p = omega arith in
    let l : end_expr c want.Value b (suc (end_expr c want.Value a pc)) ≡ q = sym (k ∙ ap (end_expr c want.Value b) (e ∙ ap (λ n. suc n) h)) in
    omega (arith, l)
logical_ends c w connective.Or a b pc p q h k =
    let e : p + 3 ≡ suc (suc (suc p)) = omega arith in
    let l : end_expr c want.Value b (suc (suc (suc (end_expr c want.Value a pc)))) ≡ q = sym (k ∙ ap (end_expr c want.Value b) (e ∙ ap (λ n. suc (suc (suc n))) h)) in
    omega (arith, l)

-- eleven lines a label
pub labels_behind : (c : Context) (ls : List Label) (pc : ℕ) → end_labels c ls pc ≡ pc + 11 * length ls
labels_behind c [] pc = omega arith
labels_behind c (l ∷ ls) pc = let h = labels_behind c ls (end_label c pc) in omega (arith, h)
