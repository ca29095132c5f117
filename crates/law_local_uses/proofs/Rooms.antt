-- A string that is passed by value is passed to an array whose shape tells its words.
use Rattle.std.proofs.Common.{◌≡◌, ℕ, zero, suc, List, [], ◌∷◌, Option, Some, None, Bool, true, false, refl, sym, ap, ◌∙◌, subst, inl, inr}
use Rattle.std.specs.Prelude.{◌⊎◌, ◌&&◌, ◌||◌, not, nat_eq, nat_lt, length, is_some}
use Rattle.ob_tree.specs.declared.ident.Mark.{Mark}
use Rattle.ob_tree.specs.declared.names.QName.{QName}
use Rattle.ob_types.specs.declared.types.Basic.{Basic}
use Rattle.ob_types.specs.declared.types.Basic.TheVariants as basic
use Rattle.ob_types.specs.declared.types.Mode.TheVariants as mode
use Rattle.ob_types.specs.declared.types.TypeRef.{TypeRef}
use Rattle.ob_types.specs.declared.types.TypeRef.TheVariants as ref
use Rattle.ob_types.specs.declared.value.Value.{Value}
use Rattle.ob_types.specs.declared.value.Value.TheVariants as literal
use Rattle.ob_types.specs.declared.desc.Desc.{Desc}
use Rattle.ob_types.specs.declared.desc.Desc.TheVariants as desc
use Rattle.ob_types.specs.declared.typed.Passing.{Passing}
use Rattle.ob_types.specs.declared.typed.Passing.TheVariants as passing
use Rattle.ob_types.specs.declared.typed.TypedExpr.TheVariants as e
use Rattle.ob_types.specs.TypedSyntax.{Expr, Constant}
use Rattle.ob_types.specs.TypedView.{expr_view}
use Rattle.ob_types.proofs.TypedViews.{view_constant, view_value_of}
use Rattle.ob_types.specs.Relations.{is_record as is_record_desc, is_open as is_open_desc}
use Rattle.ob_types.specs.Assigning.{is_extensible}
use Rattle.ob_types.specs.Tests.{target, target_of, follow, shape_at, same_at, type_eq, climbs, extends_at, both, pointer_of}
use Rattle.ob_types.specs.AssigningTests.{is_at, widens, takes_type, takes_text, has_room, takes_constant}
use Rattle.ob_uses_roots.specs.Noted.{names_of}
use Rattle.ob_uses.specs.declared.way.Way.TheVariants as way
use Rattle.ob_uses.specs.Uses.{flat_types}
use Rattle.ob_uses.specs.Closed.{is_among, of_found}
use Rattle.ob_uses.specs.Ways.{desc_leads, is_of}
use Rattle.ob_rules.specs.declared.values.Valued.{Valued}
use Rattle.ob_rules.specs.declared.values.Valued.TheVariants as valued
use Rattle.ob_rules.specs.Shapes.{Map, record_at, array_at, open_element, is_open, is_structured, by_value, passing_of}
use Rattle.ob_rules.specs.Calls.{takes_value, tree_for}
use Rattle.law_local_files.specs.Laws.{IsRoom, room}
use Rattle.law_local_files.specs.Tied.{RoomTied}
use Rattle.law_local_uses.proofs.Chains.{among_on}
use Rattle.law_local_judged.specs.Agreement.{IsIn}
use Rattle.law_local_uses.specs.Settled.{core, Says, SaysAll, open_chars}
use Rattle.law_local_uses.proofs.Setting.{Setting, NoText, ValuedOk}

false_true : {B : Type 0} → false ≡ true → B
false_true {B} e = absurd cc

named_basic : {B : Type 0} (p : QName) (b : Basic) → ref.Named p ≡ ref.Basic b → B
named_basic {B} p b e = absurd cc

or_true : (a b : Bool) → (a || b) ≡ true → (a ≡ true) ⊎ (b ≡ true)
or_true true b e = inl refl
or_true false b e = inr e

and_true : (a b : Bool) → (a && b) ≡ true → b ≡ true
and_true true b e = e
and_true false b e = false_true e

-- ---- what is no record is the same by its core

core_plain : (d : Desc) → is_record_desc d ≡ false → core d ≡ d
core_plain (desc.Record r) e = absurd cc
core_plain (desc.Const v) e = refl
core_plain (desc.Var m t) e = refl
core_plain (desc.Proc s) e = refl
core_plain (desc.Alias m t) e = refl
core_plain (desc.Array m n t) e = refl
core_plain (desc.OpenArray m t) e = refl
core_plain (desc.Pointer m t) e = refl
core_plain (desc.ProcType m s) e = refl

record_core : (d : Desc) → is_record_desc (core d) ≡ is_record_desc d
record_core (desc.Record r) = refl
record_core (desc.Const v) = refl
record_core (desc.Var m t) = refl
record_core (desc.Proc s) = refl
record_core (desc.Alias m t) = refl
record_core (desc.Array m n t) = refl
record_core (desc.OpenArray m t) = refl
record_core (desc.Pointer m t) = refl
record_core (desc.ProcType m s) = refl

plain_same : (a d : Desc) → is_record_desc d ≡ false → core a ≡ core d → a ≡ d
plain_same a d e c = sym (core_plain a (sym (record_core a) ∙ ap is_record_desc c ∙ record_core d ∙ e)) ∙ c ∙ core_plain d e

module _ (k : Setting) (f : Map) (says : SaysAll k.map f) where
  abbrev Room : QName → Type 0
  Room q = IsRoom k.map k.unit q

  -- a name that the other map has too, where all that its layout goes through tells its words
  plain_room : (p : QName) (d : Desc) → f p ≡ Some d → is_record_desc d ≡ false → (d ≡ open_chars → ⊥) → (t : TypeRef) → ((own : Bool) → flat_types own d ≡ t ∷ []) → IsIn Room t → Room p
  plain_room p d i plain other t flat h = by (says p d i)
    where
      there : k.map p ≡ Some d → Room p
      there j = room d j plain (λ r a. among_on Room (t ∷ []) (h, tt) r (sym (ap (λ o. is_among (of_found (desc_leads way.Flat k.unit p) o) r) j ∙ ap (λ ts. is_among (names_of ts) r) (flat (is_of k.unit p))) ∙ a))

      by : Says k.map p d ⊎ (d ≡ open_chars) → Room p
      by (inl s) = there (s.1.0 ∙ ap (λ d. Some d) (plain_same s.0 d plain s.1.1))
      by (inr j) = absurd (other j)

  alias_room : (p : QName) (m : Mark) (t : TypeRef) → f p ≡ Some (desc.Alias m t) → IsIn Room t → Room p
  alias_room p m t i h = plain_room p (desc.Alias m t) i refl (λ e. absurd cc) t (λ own. refl) h

  array_room : (p : QName) (m : Mark) (n : ℕ) (t : TypeRef) → f p ≡ Some (desc.Array m n t) → IsIn Room t → Room p
  array_room p m n t i h = plain_room p (desc.Array m n t) i refl (λ e. absurd cc) t (λ own. refl) h

  -- what a type stands for has room: it has
  target_room : (n : ℕ) (t : TypeRef) → IsIn Room (target f n t) → IsIn Room t
  unfolding target
  target_room zero t h = h
  target_room (suc n) (ref.Basic b) h = tt
  target_room (suc n) (ref.Named p) h = by (f p) refl (λ u g. target_room n u g)
    where
      stop : target_of (f p) ≡ None → Room p
      stop j = subst (λ o. IsIn Room (follow o (ref.Named p) (λ u. target f n u))) j h

      by : (o : Option Desc) → f p ≡ o → ((u : TypeRef) → IsIn Room (target f n u) → IsIn Room u) → Room p
      by (Some (desc.Alias m u)) j ih = alias_room p m u j (ih u (subst (λ o. IsIn Room (follow (target_of o) (ref.Named p) (λ u. target f n u))) j h))
      by None j ih = stop (ap target_of j)
      by (Some (desc.Const v)) j ih = stop (ap target_of j)
      by (Some (desc.Var m t)) j ih = stop (ap target_of j)
      by (Some (desc.Proc s)) j ih = stop (ap target_of j)
      by (Some (desc.Array m l t)) j ih = stop (ap target_of j)
      by (Some (desc.OpenArray m t)) j ih = stop (ap target_of j)
      by (Some (desc.Pointer m t)) j ih = stop (ap target_of j)
      by (Some (desc.ProcType m s)) j ih = stop (ap target_of j)
      by (Some (desc.Record s)) j ih = stop (ap target_of j)

  char_room : (t : TypeRef) → same_at f t (ref.Basic basic.Char) ≡ true → IsIn Room t
  unfolding same_at target
  char_room t e = target_room 201 t (by (target f 201 t) e)
    where
      by : (u : TypeRef) → type_eq u (ref.Basic basic.Char) ≡ true → IsIn Room u
      by (ref.Basic b) e = tt
      by (ref.Named p) e = false_true e

  -- an array of more characters
  text_room : (t : TypeRef) (n : ℕ) → takes_text f t n ≡ true → IsIn Room t
  unfolding takes_text
  text_room t n e = target_room 201 t (by (target f 201 t) e)
    where
      shaped : (p : QName) (o : Option Desc) → f p ≡ o → has_room f o n ≡ true → Room p
      shaped p (Some (desc.Array m l of)) j e = array_room p m l of j (char_room of (and_true (nat_lt n l) (same_at f of (ref.Basic basic.Char)) e))
      shaped p None j e = false_true e
      shaped p (Some (desc.Alias m t)) j e = false_true e
      shaped p (Some (desc.Const v)) j e = false_true e
      shaped p (Some (desc.Var m t)) j e = false_true e
      shaped p (Some (desc.Proc s)) j e = false_true e
      shaped p (Some (desc.OpenArray m t)) j e = false_true e
      shaped p (Some (desc.Pointer m t)) j e = false_true e
      shaped p (Some (desc.ProcType m s)) j e = false_true e
      shaped p (Some (desc.Record r)) j e = false_true e

      by : (u : TypeRef) → has_room f (shape_at f u) n ≡ true → IsIn Room u
      by (ref.Basic b) e = tt
      by (ref.Named p) e = shaped p (f p) refl e

  -- ---- no array and no record takes a character alone

  none_both : (o : Option TypeRef) (g : TypeRef → TypeRef → Bool) → both g None o ≡ false
  none_both None g = refl
  none_both (Some t) g = refl

  char_extends : (t : TypeRef) (q : QName) → target f 201 t ≡ ref.Named q → extends_at f (ref.Basic basic.Char) t ≡ false
  unfolding extends_at climbs same_at target
  char_extends t q e =
      ap (λ u. (type_eq (ref.Basic basic.Char) u || false) || both (λ s t. climbs f 201 s t) None (pointer_of (shape_at f (target f 201 t)))) e
      ∙ none_both (pointer_of (shape_at f (target f 201 t))) (λ s t. climbs f 201 s t)

  and_false : (a b : Bool) → b ≡ false → (a && b) ≡ false
  and_false true b e = e
  and_false false b e = refl

  char_taken : (t : TypeRef) (q : QName) → target f 201 t ≡ ref.Named q → takes_type f t (ref.Basic basic.Char) ≡ false
  unfolding takes_type same_at target
  char_taken t q e =
      ap (λ u. (type_eq (ref.Basic basic.Char) u && not (is_at f is_open_desc t)) || (widens u (ref.Basic basic.Char) || (is_at f is_extensible t && extends_at f (ref.Basic basic.Char) t))) e
      ∙ and_false (is_at f is_extensible t) (extends_at f (ref.Basic basic.Char) t) (char_extends t q e)

  -- what is structured has a name
  structured_named : (u : TypeRef) → (is_some (array_at (shape_at f u)) || is_some (record_at u (shape_at f u))) ≡ true → (q : QName) × (u ≡ ref.Named q)
  structured_named (ref.Basic b) e = false_true e
  structured_named (ref.Named q) e = (q, refl)

  -- ---- values that are passed

  room_no : (how : Passing) (x : Expr) (t : TypeRef) → NoText x → RoomTied k.map k.unit k.Own how x t
  room_no passing.Structure (Constant (literal.Str s)) t h = absurd h
  room_no how x t h = tt

  str_room : (t : TypeRef) (s : List ℕ) → is_structured f t ≡ true → takes_constant f t (literal.Str s) ≡ true → IsIn Room t
  str_room t s st e = by (or_true (takes_text f t (length s)) (nat_eq (length s) 1 && takes_type f t (ref.Basic basic.Char)) e)
    where
      by : (takes_text f t (length s) ≡ true) ⊎ ((nat_eq (length s) 1 && takes_type f t (ref.Basic basic.Char)) ≡ true) → IsIn Room t
      by (inl h) = text_room t (length s) h
      by (inr h) = let q = structured_named (target f 201 t) st in false_true (sym (char_taken t q.0 q.1) ∙ and_true (nat_eq (length s) 1) (takes_type f t (ref.Basic basic.Char)) h)

  chr_room : (t : TypeRef) (c : ℕ) → is_structured f t ≡ true → takes_constant f t (literal.Char c) ≡ true → IsIn Room t
  chr_room t c st e = by (or_true (takes_text f t 1) (takes_type f t (ref.Basic basic.Char)) e)
    where
      by : (takes_text f t 1 ≡ true) ⊎ (takes_type f t (ref.Basic basic.Char) ≡ true) → IsIn Room t
      by (inl h) = text_room t 1 h
      by (inr h) = let q = structured_named (target f 201 t) st in false_true (sym (char_taken t q.0 q.1) ∙ h)

  -- a constant as it is passed
  constant_passed : (v : Value) (t : TypeRef) (b : Bool) → is_structured f t ≡ true → takes_constant f t v ≡ true → RoomTied k.map k.unit k.Own passing.Structure (expr_view (tree_for b (valued.Constant v))) t
  constant_passed (literal.Str s) t true st e = subst (λ x. RoomTied k.map k.unit k.Own passing.Structure x t) (sym (view_constant (literal.Str s))) (str_room t s st e)
  constant_passed (literal.Str s) t false st e = subst (λ x. RoomTied k.map k.unit k.Own passing.Structure x t) (sym (view_constant (literal.Str s))) (str_room t s st e)
  constant_passed (literal.Char c) t true st e = subst (λ x. RoomTied k.map k.unit k.Own passing.Structure x t) (sym (view_constant (literal.Str (c ∷ [])))) (chr_room t c st e)
  constant_passed (literal.Char c) t false st e = subst (λ x. RoomTied k.map k.unit k.Own passing.Structure x t) (sym (view_constant (literal.Char c))) tt
  constant_passed (literal.Bool c) t true st e = subst (λ x. RoomTied k.map k.unit k.Own passing.Structure x t) (sym (view_constant (literal.Bool c))) tt
  constant_passed (literal.Bool c) t false st e = subst (λ x. RoomTied k.map k.unit k.Own passing.Structure x t) (sym (view_constant (literal.Bool c))) tt
  constant_passed (literal.Int z) t true st e = subst (λ x. RoomTied k.map k.unit k.Own passing.Structure x t) (sym (view_constant (literal.Int z))) tt
  constant_passed (literal.Int z) t false st e = subst (λ x. RoomTied k.map k.unit k.Own passing.Structure x t) (sym (view_constant (literal.Int z))) tt
  constant_passed (literal.Set s) t true st e = subst (λ x. RoomTied k.map k.unit k.Own passing.Structure x t) (sym (view_constant (literal.Set s))) tt
  constant_passed (literal.Set s) t false st e = subst (λ x. RoomTied k.map k.unit k.Own passing.Structure x t) (sym (view_constant (literal.Set s))) tt
  constant_passed literal.Nil t true st e = subst (λ x. RoomTied k.map k.unit k.Own passing.Structure x t) (sym (view_constant literal.Nil)) tt
  constant_passed literal.Nil t false st e = subst (λ x. RoomTied k.map k.unit k.Own passing.Structure x t) (sym (view_constant literal.Nil)) tt

  none_open : (o : Option TypeRef) → is_some o ≡ false → o ≡ None
  none_open None e = refl
  none_open (Some t) e = absurd cc

  constant_by : (v : Value) (t : TypeRef) (b o structured : Bool) → is_open f t ≡ o → is_structured f t ≡ structured → takes_value f (open_element f t) t (valued.Constant v) ≡ true → RoomTied k.map k.unit k.Own (by_value o structured) (expr_view (tree_for b (valued.Constant v))) t
  constant_by v t b true structured i j e = tt
  constant_by v t b false true i j e = constant_passed v t b j (sym (ap (λ o. takes_value f o t (valued.Constant v)) (none_open (open_element f t) i)) ∙ e)
  constant_by v t b false false i j e = tt

  -- A VALUE THAT IS PASSED
  pub value_room : (x : Valued) (t : TypeRef) (b : Bool) → ValuedOk k x → takes_value f (open_element f t) t x ≡ true → RoomTied k.map k.unit k.Own (passing_of f mode.Value t) (expr_view (tree_for b x)) t
  value_room (valued.Constant v) t b h i = constant_by v t b (is_open f t) (is_structured f t) refl refl i
  value_room (valued.Place p) t true h i = room_no (passing_of f mode.Value t) (expr_view (e.Designator p.designator.inner)) t (subst NoText (sym (view_value_of p.designator.inner)) tt)
  value_room (valued.Place p) t false h i = room_no (passing_of f mode.Value t) (expr_view (e.Designator p.designator.inner)) t (subst NoText (sym (view_value_of p.designator.inner)) tt)
  value_room (valued.Node n) t true h i = room_no (passing_of f mode.Value t) (expr_view n.tree.inner) t h.1
  value_room (valued.Node n) t false h i = room_no (passing_of f mode.Value t) (expr_view n.tree.inner) t h.1
