-- Strings that are found one behind the other.
use Rattle.std.proofs.Common.{◌≡◌, ℕ, suc, ◌+◌, ◌<◌, ◌≤◌, List, [], ◌∷◌, ◌++◌, length, get_or, take, drop, ◌-◌, Option, Some, None, refl, sym, ap, ◌∙◌, append-nil, append_assoc, arith}
use Rattle.std.specs.Prelude.{map}
use Rattle.std.proofs.lemmas.List.{map-append, take_rest}
use Rattle.ob_types.specs.declared.value.Value.{Value}
use Rattle.ob_types.specs.declared.value.Value.TheVariants as literal
use Rattle.ob_types.specs.declared.typed.Passing.TheVariants as passing
use Rattle.std.specs.List.{flat_map}
use Rattle.ob_types.specs.declared.types.TypeRef.{TypeRef}
use Rattle.ob_types.specs.declared.typed.TypedProcedure.{TypedProcedure}
use Rattle.ob_types.specs.declared.typed.Actual.{Actual}
use Rattle.ob_types.specs.declared.typed.Designator.TheFolds.{fold_out-Actual}
use Rattle.ob_types.specs.TypedView.{OneActual, designator_layer, expr_layer, actual_layer, expr_view, actual_view, actuals_view, stmts_view, procedure_view}
use Rattle.ob_types.specs.TypedSyntax.{Desig, Expr, AnActual, Constant, ValueOf, ProcedureValue, Monadic, Dyadic, Logical, CompareTexts, IsPointer, IsRecord, Length, Call, CallVariable}
use Rattle.ob_types.proofs.TypedViews.{view_variable, view_field, view_index, view_deref, view_guard, view_constant, view_value_of, view_procedure_value, view_monadic, view_dyadic, view_logical, view_compare_texts, view_is_pointer, view_is_record, view_length, view_call, view_call_variable, view_assign, view_call_proper, view_updated, view_copy, view_new, view_new_open_array, view_assert, view_halt, view_if, view_case_none, view_case_some, view_while, view_repeat, view_for, view_loop, view_exit, view_return, view_with_none, view_with_some}
use Rattle.ob_layout.specs.declared.texts.UsedText.{UsedText}
use Rattle.ob_layout.specs.Texts.{AText, texts_of_value, passed_texts, texts_of_all}
use Rattle.ob_layout.specs.declared.texts.Part.{Part}
use Rattle.ob_layout.specs.Parts.{size_of_part, size_of_parts, texts_of_part, texts_of_parts}
use Rattle.ob_layout.specs.Used.{as_text, used, text_of_value, written_text}

pub one_more : (us : List UsedText) (u : UsedText) → used (us ++ u ∷ []) ≡ used us ++ as_text u ∷ []
one_more us u = map-append as_text us (u ∷ [])

-- one part more
pub part_more : (words : TypeRef → ℕ) (ps : List Part) (p : Part) → texts_of_parts words (ps ++ p ∷ []) ≡ texts_of_part words p ++ texts_of_parts words ps
part_more words [] p = sym (append-nil (texts_of_part words p))
part_more words (q ∷ ps) p = ap (λ l. l ++ texts_of_part words q) (part_more words ps p) ∙ append_assoc (texts_of_part words p) (texts_of_parts words ps) (texts_of_part words q)

pub size_more : (ps : List Part) (p : Part) → size_of_parts (ps ++ p ∷ []) ≡ size_of_part p + size_of_parts ps
size_more [] p = omega arith
size_more (q ∷ ps) p = let h = size_more ps p in omega arith

view_actual : (x : Actual) → actual_view x ≡ record { passing = x.passing; formal = x.formal; e = expr_view x.value }
view_actual x = fold_out-Actual Desig Expr OneActual designator_layer expr_layer actual_layer x

pub view_actuals : (x : Actual) (xs : List Actual) → actuals_view (x ∷ xs) ≡ AnActual x.passing x.formal (expr_view x.value) (actuals_view xs)
view_actuals x xs = ap (λ o. AnActual o.passing o.formal o.e (actuals_view xs)) (view_actual x)

-- the first actual parameter, and the others
pub first_actual : (xs : List Actual) (x : Actual) → 1 ≤ length xs → x ≡ get_or xs 0 x → actuals_view xs ≡ AnActual x.passing x.formal (expr_view x.value) (actuals_view (take (length xs - 1) (drop 1 xs)))
first_actual [] x some is = absurd (omega arith)
first_actual (y ∷ ys) x some is = view_actuals y ys ∙ ap (λ (z : Actual). AnActual z.passing z.formal (expr_view z.value) (actuals_view ys)) (sym is)
    ∙ ap (λ l. AnActual x.passing x.formal (expr_view x.value) (actuals_view l)) (sym (take_rest (y ∷ ys) 1))

-- what was found in the first, and a part for the others
pub texts_behind : (words : TypeRef → ℕ) (t left a whole : List AText) (old mid : List Part) (q : Part) → left ≡ t ++ (a ++ texts_of_parts words mid) → mid ≡ old ++ q ∷ [] → whole ≡ a ++ texts_of_part words q → left ≡ t ++ (whole ++ texts_of_parts words old)
texts_behind words t left a whole old mid q h m w =
    h ∙ ap (λ l. t ++ l) (ap (λ ps. a ++ texts_of_parts words ps) m ∙ ap (λ l. a ++ l) (part_more words old q)
    ∙ sym (append_assoc a (texts_of_part words q) (texts_of_parts words old)) ∙ ap (λ l. l ++ texts_of_parts words old) (sym w))

pub size_behind : (n e whole : ℕ) (old mid : List Part) (q : Part) → n ≤ e + size_of_parts mid → mid ≡ old ++ q ∷ [] → whole ≡ suc (e + size_of_part q) → n < whole + size_of_parts old
size_behind n e whole old mid q h m w = let s = size_more old q in let same = ap size_of_parts m in omega arith

-- the part that is taken next is apart
pub texts_next : (words : TypeRef → ℕ) (found left whole : List AText) (parts rest : List Part) (p : Part) → left ≡ found ++ (texts_of_part words p ++ texts_of_parts words rest) → parts ≡ rest ++ p ∷ [] → found ++ texts_of_parts words parts ≡ whole → left ≡ whole
texts_next words found left whole parts rest p h m inv = h ∙ ap (λ l. found ++ l) (sym (part_more words rest p) ∙ ap (texts_of_parts words) (sym m)) ∙ inv

pub size_next : (n : ℕ) (parts rest : List Part) (p : Part) → n < size_of_part p + size_of_parts rest → parts ≡ rest ++ p ∷ [] → n < size_of_parts parts
size_next n parts rest p h m = let s = size_more rest p in let same = ap size_of_parts m in omega arith

pub no_text : (v : Value) → text_of_value v ≡ None → texts_of_value v ≡ []
no_text (literal.Str t) e = absurd cc
no_text (literal.Bool b) e = refl
no_text (literal.Char c) e = refl
no_text (literal.Int z) e = refl
no_text (literal.Set n) e = refl
no_text literal.Nil e = refl

pub own_text : (v : Value) (t : List ℕ) → text_of_value v ≡ Some t → texts_of_value v ≡ record { text = t; words = suc (length t) } ∷ []
own_text (literal.Str s) t e = let f : s ≡ t = cc in ap (λ (l : List ℕ). let a : AText = record { text = l; words = suc (length l) } in a ∷ []) f
own_text (literal.Bool b) t e = absurd cc
own_text (literal.Char c) t e = absurd cc
own_text (literal.Int z) t e = absurd cc
own_text (literal.Set n) t e = absurd cc
own_text literal.Nil t e = absurd cc

pub passed_none : (e : Expr) (n : ℕ) (other : List AText) → written_text e ≡ None → passed_texts passing.Structure e n other ≡ other
passed_none (Constant (literal.Str t)) n other h = absurd cc
passed_none (Constant (literal.Bool b)) n other h = refl
passed_none (Constant (literal.Char c)) n other h = refl
passed_none (Constant (literal.Int z)) n other h = refl
passed_none (Constant (literal.Set m)) n other h = refl
passed_none (Constant literal.Nil) n other h = refl
passed_none (ValueOf d) n other h = refl
passed_none (ProcedureValue q s) n other h = refl
passed_none (Monadic op e at) n other h = refl
passed_none (Dyadic op a b at) n other h = refl
passed_none (Logical op a b) n other h = refl
passed_none (CompareTexts r a b at) n other h = refl
passed_none (IsPointer e t) n other h = refl
passed_none (IsRecord d t) n other h = refl
passed_none (Length d) n other h = refl
passed_none (Call c es at t) n other h = refl
passed_none (CallVariable d es at t) n other h = refl

pub passed_text : (e : Expr) (n : ℕ) (other : List AText) (t : List ℕ) → written_text e ≡ Some t → passed_texts passing.Structure e n other ≡ record { text = t; words = n } ∷ []
passed_text (Constant (literal.Str s)) n other t h = let f : s ≡ t = cc in ap (λ (l : List ℕ). let a : AText = record { text = l; words = n } in a ∷ []) f
passed_text (Constant (literal.Bool b)) n other t h = absurd cc
passed_text (Constant (literal.Char c)) n other t h = absurd cc
passed_text (Constant (literal.Int z)) n other t h = absurd cc
passed_text (Constant (literal.Set m)) n other t h = absurd cc
passed_text (Constant literal.Nil) n other t h = absurd cc
passed_text (ValueOf d) n other t h = absurd cc
passed_text (ProcedureValue q s) n other t h = absurd cc
passed_text (Monadic op e at) n other t h = absurd cc
passed_text (Dyadic op a b at) n other t h = absurd cc
passed_text (Logical op a b) n other t h = absurd cc
passed_text (CompareTexts r a b at) n other t h = absurd cc
passed_text (IsPointer e u) n other t h = absurd cc
passed_text (IsRecord d u) n other t h = absurd cc
passed_text (Length d) n other t h = absurd cc
passed_text (Call c es at u) n other t h = absurd cc
passed_text (CallVariable d es at u) n other t h = absurd cc

pub ruleset views = (append_assoc, append-nil, view_variable, view_field, view_index, view_deref, view_guard, view_constant, view_value_of, view_procedure_value, view_monadic, view_dyadic, view_logical, view_compare_texts, view_is_pointer, view_is_record, view_length, view_call, view_call_variable)

pub ruleset statements = (append_assoc, append-nil, view_assign, view_call_proper, view_updated, view_copy, view_new, view_new_open_array, view_assert, view_halt, view_if, view_case_none, view_case_some, view_while, view_repeat, view_for, view_loop, view_exit, view_return, view_with_none, view_with_some)

-- the procedures as they are viewed
pub procedures_viewed : (words : TypeRef → ℕ) (ps : List TypedProcedure) → flat_map (λ p. texts_of_all words p.body) (map procedure_view ps) ≡ flat_map (λ p. texts_of_all words (stmts_view p.body)) ps
procedures_viewed words [] = refl
procedures_viewed words (p ∷ ps) = ap (λ l. texts_of_all words (stmts_view p.body) ++ l) (procedures_viewed words ps)
