-- Each alternative of an expression, of parts that are well typed.
use Rattle.std.proofs.Common.{◌≡◌, refl, sym, subst, ℕ, zero, suc, ◌<◌, List, [], ◌∷◌, map, length, Option, Some, None, Bool, true, false, not, arith}
use Rattle.std.proofs.lemmas.Bool.Decides.{nat_tests}
use Rattle.std.specs.Prelude.{nat_le, pos}
use Rattle.ob_tree.specs.declared.pos.Pos.{Pos}
use Rattle.ob_tree.specs.declared.names.QName.{QName}
use Rattle.ob_tree.specs.declared.ident.Qualident.{Qualident}
use Rattle.ob_tree.specs.declared.expr.Sign.{Sign}
use Rattle.ob_tree.specs.declared.expr.Relation.{Relation}
use Rattle.ob_tree.specs.declared.expr.Relation.TheVariants as relates
use Rattle.ob_types.specs.declared.types.TypeRef.{TypeRef}
use Rattle.ob_types.specs.declared.types.Signature.{Signature}
use Rattle.ob_types.specs.declared.value.Value.TheVariants as literal
use Rattle.ob_types.specs.declared.typed.TypedExpr.TheVariants as e
use Rattle.ob_types.specs.declared.typed.ExprType.TheVariants as kind
use Rattle.ob_types.specs.AssigningTests.{is_value}
use Rattle.ob_types.specs.TypedView.{expr_view}
use Rattle.ob_types.proofs.TypedViews.{view_procedure_value}
use Rattle.ob_meaning.specs.Values.{Program, Formals, formals_in, Held}
use Rattle.law_simulation_relation.specs.Typed.{AreCharacters}
use Rattle.ob_rules.specs.declared.meant.Meant.{Meant}
use Rattle.ob_rules.specs.declared.meant.Meant.TheVariants as means
use Rattle.ob_rules.specs.declared.meant.Where.TheVariants.{InExpression}
use Rattle.ob_rules.specs.declared.values.Valued.{Valued}
use Rattle.ob_rules.specs.declared.broken.Rule.TheVariants as rule
use Rattle.ob_rules.specs.Judged.{Judged, sound, breaks, both, also, wants, made, each_sound, ◌▷◌}
use Rattle.ob_rules.specs.Shapes.{Map}
use Rattle.ob_rules.specs.Names.{Around, map_of, type_named}
use Rattle.ob_rules.specs.Values.{constant, computed}
use Rattle.ob_rules.specs.Constants.{text_value}
use Rattle.ob_rules.specs.Operators.{combined, opposite, signed, related, element, set_of}
use Rattle.ob_rules.specs.Phrases.{Phrase}
use Rattle.ob_rules.specs.Expressions.{integer_literal, char_literal, procedure_value, value_meant, Named, meant_by, designator_phrase, testable, test, untestable, is_test, phrase, Tailed, combine_all, bracketed, Ranged, value_if, element_value, relation_of, relation_value}
use Rattle.law_typing.specs.Makes.{IfThere, Makes}
use Rattle.law_typing.specs.Forms.{IsKnown}
use Rattle.law_typing.specs.Known.{ConstantIs, ProcedureIs, IsScoped}
use Rattle.law_typing.specs.Kept.{NodeIs, ValuedIs}
use Rattle.law_typing.specs.Meant.{MeantIs, PhraseIs, NamedIs, RangedIs, AreRanged, AreTailed}
use Rattle.law_typing.proofs.Makes.{Each, makes_then, makes_made, makes_both, makes_wants, makes_also, makes_each}
use Rattle.law_typing.proofs.Operators.{combined_is, opposite_is, signed_is}
use Rattle.law_typing.proofs.Relations.{related_is}
use Rattle.law_typing.proofs.Sets.{ElementIs, element_is, set_is}
use Rattle.law_typing.proofs.Types.{type_named_is, test_is, bracketed_is}
use Rattle.law_typing.proofs.Fronts.{designates_is}

number_long : (n : ℕ) → nat_le n 2147483647 ≡ true → ConstantIs (literal.Int (pos n))
number_long n e = grind (arith, nat_tests)

code_small : (n : ℕ) → nat_le n 255 ≡ true → n < 256
code_small n e = grind (arith, nat_tests)

pub text_is : (text : List ℕ) → AreCharacters text → ConstantIs (text_value text)
text_is [] h = (tt, λ e. no_one e)
  where
    no_one : zero ≡ 1 → ⊥
    no_one e = omega (arith, e)
text_is (c ∷ []) h = h.0
text_is (c ∷ d ∷ cs) h = (h, λ e. no_one e)
  where
    no_one : suc (suc (length cs)) ≡ 1 → ⊥
    no_one e = omega (arith, e)

module _ (program : Program) (Has : Formals → QName → Type 0) (unit : List ℕ) (held : List Held) (result : Option TypeRef) where
  abbrev Ph : Phrase → Type 0
  Ph p = PhraseIs program Has unit held result p

  abbrev Sc : Around → Type 0
  Sc u = IsScoped program Has unit held result u

  abbrev Is : Around → Valued → Type 0
  Is u x = ValuedIs program Has unit held result (map_of u) x

  pub phrase_is : (start : Pos) (f : Around → Judged Valued) → ((u : Around) → Sc u → Makes (Is u) (f u)) → Ph (phrase start f)
  phrase_is start f h = record { value = h; meant = λ u s. tt }

  -- LITERALS

  pub integer_is : (at : Pos) (n : ℕ) → Ph (phrase at (λ u. integer_literal at n))
  integer_is at n = phrase_is at (λ u. integer_literal at n) (λ u s. makes_wants (Is u) (nat_le n 2147483647) rule.LiteralTooLarge at (constant (literal.Int (pos n))) (number_long n))

  pub char_is : (at : Pos) (n : ℕ) → Ph (phrase at (λ u. char_literal at n))
  char_is at n = phrase_is at (λ u. char_literal at n) (λ u s. makes_wants (Is u) (nat_le n 255) rule.LiteralTooLarge at (constant (literal.Char n)) (code_small n))

  pub string_is : (at : Pos) (text : List ℕ) → AreCharacters text → Ph (phrase at (λ u. sound (constant (text_value text))))
  string_is at text h = phrase_is at (λ u. sound (constant (text_value text))) (λ u s. record { node = text_is text h })

  pub nil_is : (at : Pos) → Ph (phrase at (λ u. sound (constant literal.Nil)))
  nil_is at = phrase_is at (λ u. sound (constant literal.Nil)) (λ u s. record { node = tt })

  -- DESIGNATORS

  procedure_node : (map : Map) (q : QName) (s : Signature) → ProcedureIs program Has unit held result map q s → is_value q ≡ true → NodeIs program Has unit held result map (expr_view (e.Procedure q s)) (kind.Procedure s)
  procedure_node map q s h k = subst (λ y. NodeIs program Has unit held result map y (kind.Procedure s)) (sym (view_procedure_value q s)) (h.signature, (formals_in program s, refl, h.own k))

  procedure_there : (u : Around) (b : Bool) (at : Pos) (q : QName) (s : Signature) → ProcedureIs program Has unit held result (map_of u) q s → is_value q ≡ b → Makes (Is u) (procedure_value b at q (computed (e.Procedure q s) (kind.Procedure s)))
  procedure_there u true at q s h k = record { node = procedure_node (map_of u) q s h k }
  procedure_there u false at q s h k = record { node = tt }

  pub value_there : (u : Around) (at : Pos) (m : Meant) → MeantIs program Has unit held result (map_of u) u.receiver InExpression m → Makes (Is u) (value_meant at m)
  value_there u at (means.Place p) h = record { node = h.0 }
  value_there u at (means.Constant c) h = record { node = h }
  value_there u at (means.Procedure q s) h = procedure_there u (is_value q) at q s h refl
  value_there u at (means.Call x) h = record { node = h }
  value_there u at (means.Statement s) h = record { node = tt }
  value_there u at (means.Bound c) h = record { node = tt }
  value_there u at (means.Out o) h = record { node = tt }
  value_there u at (means.Predeclared f) h = record { node = tt }

  pub designator_is : (n : Named) → NamedIs program Has unit held result n → Ph (designator_phrase n)
  designator_is n h = record {
    value = λ u s. makes_then (MeantIs program Has unit held result (map_of u) u.receiver InExpression) (Is u) (meant_by InExpression n u) (value_meant n.ident.pos) (designates_is program Has unit held result u s InExpression n.ident n.behind h) (λ m k. value_there u n.ident.pos m k);
    meant = λ u s. designates_is program Has unit held result u s InExpression n.ident n.behind h;
  }

  -- OPERATORS

  pub paren_is : (at : Pos) (p : Phrase) → Ph p → Ph (phrase at (λ u. made bracketed (p.value u)))
  paren_is at p h = phrase_is at (λ u. made bracketed (p.value u)) (λ u s. makes_made (Is u) (Is u) (p.value u) bracketed (h.value u s) (λ x k. bracketed_is program Has unit held result (map_of u) s.forms x k))

  pub not_is : (at : Pos) (p : Phrase) → Ph p → Ph (phrase at (λ u. p.value u ▷ opposite (map_of u) at))
  not_is at p h = phrase_is at (λ u. p.value u ▷ opposite (map_of u) at) (λ u s. makes_then (Is u) (Is u) (p.value u) (opposite (map_of u) at) (h.value u s) (λ x k. opposite_is program Has unit held result (map_of u) s.forms at x k))

  pub sign_is : (g : Sign) (at : Pos) (p : Phrase) → Ph p → Ph (phrase at (λ u. p.value u ▷ signed (map_of u) g at))
  sign_is g at p h = phrase_is at (λ u. p.value u ▷ signed (map_of u) g at) (λ u s. makes_then (Is u) (Is u) (p.value u) (signed (map_of u) g at) (h.value u s) (λ x k. signed_is program Has unit held result (map_of u) s.forms g at x k))

  combined_all : (u : Around) → Sc u → (ts : List Tailed) (j : Judged Valued) → AreTailed program Has unit held result ts → Makes (Is u) j → Makes (Is u) (combine_all u ts j)
  combined_all u s [] j h k = k
  combined_all u s (t ∷ ts) j h k =
      combined_all u s ts (both j (t.operand.value u) ▷ λ p. combined (map_of u) t.operator t.at p.0 p.1) h.1
      (makes_then (λ p. Is u p.0 × Is u p.1) (Is u) (both j (t.operand.value u)) (λ p. combined (map_of u) t.operator t.at p.0 p.1) (makes_both (Is u) (Is u) j (t.operand.value u) k (h.0.value u s)) (λ p q. combined_is program Has unit held result (map_of u) s.forms t.operator t.at p.0 p.1 q.0 q.1))

  pub chain_is : (p : Phrase) (ts : List Tailed) → Ph p → AreTailed program Has unit held result ts → Ph (phrase p.start (λ u. combine_all u ts (p.value u)))
  chain_is p ts h k = phrase_is p.start (λ u. combine_all u ts (p.value u)) (λ u s. combined_all u s ts (p.value u) k (h.value u s))

  -- RELATIONS

  tested : (u : Around) → Sc u → (at : Pos) (x : Judged Valued) (r : Phrase) (q : Option Qualident) → Makes (Is u) x → Ph r → Makes (Is u) (is_test u at x r q)
  tested u s at x r (Some q) h k =
      makes_then (λ p. Is u p.0 × IsKnown (map_of u) p.1) (Is u) (both (untestable (map_of u) at x) (type_named u q)) (λ p. test (map_of u) at p.0 p.1)
      (makes_both (Is u) (IsKnown (map_of u)) (untestable (map_of u) at x) (type_named u q) (makes_then (Is u) (Is u) x (λ v. wants (testable (map_of u) v) rule.UnfitTypeTest at v) h (λ v l. makes_wants (Is u) (testable (map_of u) v) rule.UnfitTypeTest at v (λ e. l))) (type_named_is program Has unit held result u s q))
      (λ p l. test_is program Has unit held result (map_of u) s.forms at p.0 p.1 l.0)
  tested u s at x r None h k =
      makes_then (λ p. Is u p.0 × Is u p.1) (Is u) (both x (r.value u)) (λ p. also (not (testable (map_of u) p.0)) rule.UnfitTypeTest at (breaks rule.UnfitOperands at)) (makes_both (Is u) (Is u) x (r.value u) h (k.value u s)) λ p l.
      makes_also (Is u) (not (testable (map_of u) p.0)) rule.UnfitTypeTest at (breaks rule.UnfitOperands at) (λ e. record { node = tt })

  compared : (u : Around) → Sc u → (o : Relation) (at : Pos) (x : Judged Valued) (r : Phrase) → Makes (Is u) x → Ph r → Makes (Is u) (both x (r.value u) ▷ λ p. related (map_of u) o at p.0 p.1)
  compared u s o at x r h k = makes_then (λ p. Is u p.0 × Is u p.1) (Is u) (both x (r.value u)) (λ p. related (map_of u) o at p.0 p.1) (makes_both (Is u) (Is u) x (r.value u) h (k.value u s)) (λ p l. related_is program Has unit held result (map_of u) s.forms o at p.0 p.1 l.0 l.1)

  relation_there : (u : Around) → Sc u → (o : Relation) (at : Pos) (x : Judged Valued) (r : Phrase) → Makes (Is u) x → Ph r → Makes (Is u) (relation_of u o at x r)
  relation_there u s relates.Is at x r h k = tested u s at x r r.name h k
  relation_there u s relates.Equal at x r h k = compared u s relates.Equal at x r h k
  relation_there u s relates.NotEqual at x r h k = compared u s relates.NotEqual at x r h k
  relation_there u s relates.Less at x r h k = compared u s relates.Less at x r h k
  relation_there u s relates.LessEqual at x r h k = compared u s relates.LessEqual at x r h k
  relation_there u s relates.Greater at x r h k = compared u s relates.Greater at x r h k
  relation_there u s relates.GreaterEqual at x r h k = compared u s relates.GreaterEqual at x r h k
  relation_there u s relates.In at x r h k = compared u s relates.In at x r h k

  pub relate_is : (l : Phrase) (o : Relation) (at : Pos) (r : Phrase) → Ph l → Ph r → Ph (phrase l.start (λ u. relation_value u o at l r))
  relate_is l o at r h k = phrase_is l.start (λ u. relation_value u o at l r) (λ u s. relation_there u s o at (l.value u) r (h.value u s) k)

  -- SETS

  high_there : (u : Around) → Sc u → (o : Option Phrase) → IfThere Ph o → Makes (IfThere (Is u)) (value_if u o)
  high_there u s None h = record { node = tt }
  high_there u s (Some p) h = makes_made (Is u) (IfThere (Is u)) (p.value u) (λ x. Some x) (h.value u s) (λ x k. k)

  element_there : (u : Around) → Sc u → (r : Ranged) → RangedIs program Has unit held result r → Makes (ElementIs program Has unit held result) (element_value u r)
  element_there u s r h =
      makes_then (λ p. Is u p.0 × IfThere (Is u) p.1) (ElementIs program Has unit held result) (both (r.low.value u) (value_if u r.high)) (λ p. element (map_of u) r.low.start p.0 p.1)
      (makes_both (Is u) (IfThere (Is u)) (r.low.value u) (value_if u r.high) (h.low.value u s) (high_there u s r.high h.high))
      (λ p k. element_is program Has unit held result (map_of u) s.forms r.low.start p.0 p.1 k.0 k.1)

  elements_there : (u : Around) → Sc u → (rs : List Ranged) → AreRanged program Has unit held result rs → Each (Makes (ElementIs program Has unit held result)) (map (element_value u) rs)
  elements_there u s [] h = tt
  elements_there u s (r ∷ rs) h = (element_there u s r h.0, elements_there u s rs h.1)

  pub set_phrase : (at : Pos) (rs : List Ranged) → AreRanged program Has unit held result rs → Ph (phrase at (λ u. made set_of (each_sound (map (element_value u) rs))))
  set_phrase at rs h = phrase_is at (λ u. made set_of (each_sound (map (element_value u) rs))) (λ u s. makes_made (Each (ElementIs program Has unit held result)) (Is u) (each_sound (map (element_value u) rs)) set_of (makes_each (ElementIs program Has unit held result) (map (element_value u) rs) (elements_there u s rs h)) (λ xs k. set_is program Has unit held result (map_of u) s.forms xs k))
