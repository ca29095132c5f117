-- Expressions of the grammar that are constant come to constants.
use Rattle.std.proofs.Common.{◌≡◌, refl, sym, ap, ◌∙◌, subst, ℕ, suc, ◌<◌, List, [], ◌∷◌, length, map, Option, Some, None, Bool, true, false, arith}
use Rattle.std.specs.Prelude.{pos, bytes_eq, nat_le, nat_lt, not}
use Rattle.std.specs.List.{AllByRecursion, find}
use Rattle.std.proofs.lemmas.Bool.Decides.{nat_tests}
use Rattle.ob_tree.specs.declared.pos.Pos.{Pos}
use Rattle.ob_tree.specs.declared.names.QName.{QName}
use Rattle.ob_tree.specs.declared.ident.Ident.{Ident}
use Rattle.ob_tree.specs.declared.ident.Mark.{Mark}
use Rattle.ob_tree.specs.declared.ident.Mark.TheVariants as mark
use Rattle.ob_tree.specs.declared.ident.Qualident.{Qualident}
use Rattle.ob_tree.specs.declared.expr.Relation.{Relation}
use Rattle.ob_tree.specs.declared.expr.Relation.TheVariants as relates
use Rattle.ob_tree.specs.declared.expr.Expr.{Expr, roll-Expr, map-Expr}
use Rattle.ob_tree.specs.declared.expr.Designator.{Designator, roll-Designator, map-Designator}
use Rattle.ob_tree.specs.declared.expr.Element.{Element, roll-Element, map-Element}
use Rattle.ob_tree.specs.declared.expr.Tail.{Tail, roll-Tail, map-Tail}
use Rattle.ob_tree.specs.declared.expr.Selector.{Selector, roll-Selector, map-Selector}
use Rattle.ob_tree.specs.declared.expr.Expr.TheOpen.{Expr-F, Tail-F, Designator-F, Selector-F}
use Rattle.ob_tree.specs.declared.expr.Expr.TheFolds.{ind-Expr, fold-roll-Expr, fold-roll-Designator, fold-roll-Element, fold-roll-Tail, fold-roll-Selector}
use Rattle.ob_types.specs.declared.types.Basic.TheVariants as basic
use Rattle.ob_types.specs.declared.types.TypeRef.{TypeRef}
use Rattle.ob_types.specs.declared.types.TypeRef.TheVariants as ref
use Rattle.ob_types.specs.declared.typed.Variable.{Variable}
use Rattle.ob_types.specs.declared.value.Value.{Value}
use Rattle.ob_types.specs.declared.value.Value.TheVariants as literal
use Rattle.ob_types.specs.declared.desc.Desc.{Desc}
use Rattle.ob_types.specs.declared.desc.Desc.TheVariants as desc
use Rattle.ob_types.specs.declared.typed.TypedType.{TypedType}
use Rattle.ob_types.specs.AssigningTests.{is_value}
use Rattle.ob_rules.specs.declared.entity.Entity.{Entity}
use Rattle.ob_rules.specs.declared.entity.Entity.TheVariants as entity
use Rattle.ob_rules.specs.declared.entity.Known.{Known}
use Rattle.ob_rules.specs.declared.meant.Meant.{Meant}
use Rattle.ob_rules.specs.declared.meant.Meant.TheVariants as means
use Rattle.ob_rules.specs.declared.meant.Where.{Where}
use Rattle.ob_rules.specs.declared.meant.Where.TheVariants.{InExpression}
use Rattle.ob_types.specs.declared.typed.Guarded.{Guarded}
use Rattle.ob_types.specs.declared.typed.Guarded.TheVariants as guarded
use Rattle.ob_types.specs.declared.typed.TypedExpr.TheVariants as e
use Rattle.ob_types.specs.declared.typed.ExprType.TheVariants as kind
use Rattle.ob_rules.specs.declared.values.Place.{Place}
use Rattle.ob_rules.specs.declared.values.Valued.{Valued}
use Rattle.ob_rules.specs.declared.values.Valued.TheVariants as valued
use Rattle.ob_rules.specs.declared.broken.Rule.TheVariants as rule
use Rattle.ob_rules.specs.declared.broken.Rule.{Rule}
use Rattle.ob_rules.specs.Judged.{Judged, is_quiet, sound, breaks, both, also, wants, made, found_or, each_sound, ◌▷◌}
use Rattle.ob_rules.specs.Shapes.{Map, same_name, pointed_record}
use Rattle.ob_rules.specs.Names.{Around, map_of, type_desc, own_desc, out_string, find_name, variable_known, is_enclosing, entity_known, name_known, named, exported, export_known, shown_of, is_out, out_procedure, type_named}
use Rattle.ob_rules.specs.Constants.{text_value}
use Rattle.ob_rules.specs.Values.{constant, computed, constant_in, place_in, type_in, type}
use Rattle.ob_rules.specs.Operators.{combined, opposite, signed, related, element, set_of}
use Rattle.ob_rules.specs.Phrases.{Phrase, Behind}
use Rattle.ob_rules.specs.Designators as designators
use Rattle.ob_rules.specs.Expressions.{Named, Ranged, Tailed, meant_by, designator_phrase, procedure_value, value_meant, integer_literal, integer_text, char_literal, marked, record_if, record_test, pointer_test, test_record, test_of, test, testable, untestable, is_test, phrase, combine_all, bracketed, value_if, element_value, relation_of, relation_value, expr_rule, tail_rule, element_rule, designator_rule, selector_rule, phrase_of, named_of, ranged_of, tailed_of, behind_of, constant_of, constant_if, constant_value}
use Rattle.law_simulation_relation.specs.Typed.{AreCharacters}
use Rattle.law_typing.specs.Known.{ConstantIs}
use Rattle.law_typing.specs.Spelled as spelled
use Rattle.law_typing.specs.Spelled.{all_true, are_bytes, is_spelled, designator_spelled, element_spelled, tail_spelled, selector_spelled}
use Rattle.law_methods_described.proofs.Nodes.{Has, then_has, any_then, both_have}
use Rattle.law_typing.specs.Makes.{IfThere, Makes}
use Rattle.law_body_context.specs.Knows.{LengthIs, IsDescribed, EntityStands, Knows}
use Rattle.law_body_context.proofs.Lists.{find_has}
use Rattle.law_body_context.proofs.Whole.{bodies_known}
use Rattle.law_body_context.specs.ConstantLaws.{AreShown, ConstantsStand, BodiesStand}
use Rattle.law_body_context.proofs.Folded.{V, E, constant_is, combined_is, opposite_is, signed_is, related_is, element_is, set_is, each_has}
use Rattle.law_body_context.proofs.Functions.{M, AreLengths}
use Rattle.law_body_context.proofs.Phrased.{also_broken, PhraseIs, ArePhrases, BehindIs, AreBehind, behind_are, DescIs, marked_has, out_has, place_has, meant_exported, from_has}
use Rattle.law_lists.proofs.Lists.{and_parts}

-- ---- literals

wants_if : (P : Valued → Type 0) (b : Bool) (which : Rule) (at : Pos) (x : Valued) → (b ≡ true → P x) → Has P (wants b which at x)
wants_if P true which at x h = h refl
wants_if P false which at x h = tt

number_long : (n : ℕ) → nat_le n 2147483647 ≡ true → ConstantIs (literal.Int (pos n))
number_long n e = grind (arith, nat_tests)

code_small : (n : ℕ) → nat_le n 255 ≡ true → n < 256
code_small n e = grind (arith, nat_tests)

byte_small : (n : ℕ) → nat_lt n 256 ≡ true → n < 256
byte_small n e = grind (arith, nat_tests)

characters_are : (cs : List ℕ) → are_bytes cs ≡ true → AreCharacters cs
characters_are [] e = tt
characters_are (c ∷ cs) e = let p = and_parts (nat_lt c 256) (are_bytes cs) e in (byte_small c p.0, characters_are cs p.1)

text_is : (cs : List ℕ) → are_bytes cs ≡ true → ConstantIs (text_value cs)
text_is [] e = (tt, λ n. absurd cc)
text_is (c ∷ []) e = (characters_are (c ∷ []) e).0
text_is (c ∷ d ∷ cs) e = (characters_are (c ∷ d ∷ cs) e, λ n. more n)
  where
    more : suc (suc (length cs)) ≡ 1 → ⊥
    more n = omega (arith, n)

value_has : (at : Pos) (m : Meant) → M m → Has V (value_meant at m)
value_has at (means.Place p) h = tt
value_has at (means.Constant v) h = h
value_has at (means.Procedure name s) h = by (is_value name)
  where
    by : (b : Bool) → Has V (procedure_value b at name (computed (e.Procedure name s) (kind.Procedure s)))
    by true = tt
    by false = tt
value_has at (means.Call x) h = h
value_has at (means.Statement s) h = tt
value_has at (means.Bound c) h = tt
value_has at (means.Out p) h = tt
value_has at (means.Predeclared f) h = tt

constant_of_has : (at : Pos) (o : Option Value) → IfThere ConstantIs o → Has ConstantIs (constant_of at o)
constant_of_has at None h = tt
constant_of_has at (Some v) h = h

constant_has : (at : Pos) (o : Option Valued) (b : Bool) → IfThere V o → Has ConstantIs (constant_if at o b)
constant_has at (Some x) b h = constant_of_has at (constant_in x) (constant_is x h)
constant_has at None true h = tt
constant_has at None false h = tt

module _ (unit : List ℕ) (shown : QName → Option Desc) (are : AreShown shown) where
  abbrev K : Around → Type 0
  K u = Knows ConstantIs unit shown u

  -- LENGTHS

  own_length : (o : Option TypedType) (m : Mark) (n : ℕ) (t : TypeRef) → own_desc o ≡ Some (desc.Array m n t) → IfThere (IsDescribed ConstantIs) o → ConstantIs (literal.Int (pos n))
  own_length None m n t e h = absurd cc
  own_length (Some x) m n t e h = let f : x.desc ≡ desc.Array m n t = cc in (subst (LengthIs ConstantIs) f h.length).0

  map_lengths : (u : Around) → K u → AreLengths (map_of u)
  map_lengths u k q m n t e = by (bytes_eq q.«module» u.unit) refl (same_name q out_string) refl
    where
      by : (a : Bool) → bytes_eq q.«module» u.unit ≡ a → (b : Bool) → same_name q out_string ≡ b → ConstantIs (literal.Int (pos n))
      by true f b g = own_length (find (λ t. bytes_eq t.name q.object) u.own) m n t (sym (ap (λ x. type_desc x (same_name q out_string) u q) f) ∙ e) (find_has (IsDescribed ConstantIs) (λ t. bytes_eq t.name q.object) u.own k.own)
      by false f true g = let bad : Some (desc.OpenArray mark.Hidden (ref.Basic basic.Char)) ≡ Some (desc.Array m n t) = sym (ap (λ x. type_desc x (same_name q out_string) u q) f ∙ ap (λ x. type_desc false x u q) g) ∙ e in absurd cc
      by false f false g = are.lengths q m n t (sym (ap (λ (s : QName → Option Desc). s q) k.shown_is) ∙ (sym (ap (λ x. type_desc x (same_name q out_string) u q) f ∙ ap (λ x. type_desc false x u q) g) ∙ e))

  -- NAMES

  abbrev NameHas : Around → Entity → Type 0
  NameHas u e = EntityStands ConstantIs unit shown u.own e

  variable_has : (u : Around) (b : Bool) (at : Pos) (v : Variable) (t : TypeRef) → Has (NameHas u) (variable_known b at (entity.Variable v t))
  variable_has u true at v t = tt
  variable_has u false at v t = tt

  entity_has : (u : Around) (at : Pos) (scope : ℕ) (e : Entity) → NameHas u e → Has (NameHas u) (entity_known u at scope e)
  entity_has u at scope entity.LeftOut h = tt
  entity_has u at scope entity.Unsound h = tt
  entity_has u at scope (entity.Variable v t) h = variable_has u (is_enclosing u scope) at v t
  entity_has u at scope (entity.Constant v) h = h
  entity_has u at scope (entity.TypeName t) h = h
  entity_has u at scope (entity.Procedure q s) h = tt
  entity_has u at scope (entity.Forward q s) h = tt
  entity_has u at scope (entity.Module n) h = h
  entity_has u at scope (entity.Predeclared f) h = tt

  name_has : (u : Around) (at : Pos) (o : Option Known) → IfThere (λ (k : Known). NameHas u k.what) o → Has (NameHas u) (name_known u at o)
  name_has u at None h = tt
  name_has u at (Some k) h = entity_has u at k.scope k.what h

  named_has : (u : Around) → K u → (x : Ident) → Has (NameHas u) (named u x)
  named_has u k x = name_has u x.pos (find_name u.known x.name) (find_has (λ (k : Known). NameHas u k.what) (λ k. bytes_eq k.name x.name) u.known k.known)

  shown_has : (u : Around) → K u → (q : QName) (at : Pos) (o : Option Desc) → u.shown q ≡ o → Has (λ (e : QName × Desc). DescIs e.1) (export_known q at (shown_of o))
  shown_has u k q at None e = tt
  shown_has u k q at (Some (desc.Const v)) e = are.constants q v (sym (ap (λ (s : QName → Option Desc). s q) k.shown_is) ∙ e)
  shown_has u k q at (Some (desc.Var m t)) e = marked_has q at m (desc.Var m t) tt
  shown_has u k q at (Some (desc.Proc s)) e = tt
  shown_has u k q at (Some (desc.Alias m t)) e = marked_has q at m (desc.Alias m t) tt
  shown_has u k q at (Some (desc.Array m n t)) e = marked_has q at m (desc.Array m n t) tt
  shown_has u k q at (Some (desc.OpenArray m t)) e = marked_has q at m (desc.OpenArray m t) tt
  shown_has u k q at (Some (desc.Pointer m t)) e = marked_has q at m (desc.Pointer m t) tt
  shown_has u k q at (Some (desc.ProcType m s)) e = marked_has q at m (desc.ProcType m s) tt
  shown_has u k q at (Some (desc.Record r)) e = marked_has q at r.mark (desc.Record r) tt

  in_module_has : (u : Around) → K u → (b : Bool) (start : Pos) (m : List ℕ) (x : Ident) → Has M (designators.in_module b u start m x)
  in_module_has u k true start m x = out_has x.pos (out_procedure x.name)
  in_module_has u k false start m x =
      let q : QName = record { «module» = m; object = x.name } in
      then_has (λ (e : QName × Desc). DescIs e.1) M (exported u m x) (λ q. designators.exported_meant u start x.pos m x.name q.1) (shown_has u k q x.pos (u.shown q) refl) (λ e h. meant_exported u start x.pos m x.name e.1 h)

  module_has : (u : Around) → K u → (start : Pos) (m : List ℕ) (o : Option Ident) → Has M (designators.module_front u start m o)
  module_has u k start m None = tt
  module_has u k start m (Some y) = in_module_has u k (is_out m) start m y

  front_has : (u : Around) → K u → (x : Ident) (e : Entity) (dot : Option Ident) → NameHas u e → Has M (designators.front_of u x e dot)
  front_has u k x (entity.Constant v) dot h = h
  front_has u k x (entity.Variable v t) dot h = place_has (designators.variable_named u x.pos v t false)
  front_has u k x (entity.Procedure n s) dot h = tt
  front_has u k x (entity.Forward n s) dot h = tt
  front_has u k x (entity.Predeclared f) dot h = tt
  front_has u k x (entity.Module m) dot h = module_has u k x.pos m dot
  front_has u k x (entity.TypeName t) dot h = tt
  front_has u k x entity.LeftOut dot h = tt
  front_has u k x entity.Unsound dot h = tt

  designates_has : (w : Where) (x : Ident) (bs : List Behind) → AreBehind K bs → (u : Around) → K u → Has M (designators.designates u w x bs)
  designates_has w x bs h u k =
      from_has K u k (map_lengths u k) w x.pos bs (designators.front u x bs (named u x)).node
      (then_has (NameHas u) (λ (p : Meant × List Behind). M p.0 × AreBehind K p.1) (named u x) (λ e. made (λ m. (m, designators.behind (designators.is_module e) bs)) (designators.front_of u x e (designators.dot_of bs))) (named_has u k x)
      (λ e i. then_has M (λ (p : Meant × List Behind). M p.0 × AreBehind K p.1) (designators.front_of u x e (designators.dot_of bs)) (λ m. sound (m, designators.behind (designators.is_module e) bs)) (front_has u k x e (designators.dot_of bs) i) (λ m j. (j, behind_are K (designators.is_module e) bs h))))

  -- PHRASES

  plain : (start : Pos) (f : Around → Judged Valued) → ((u : Around) → K u → Has V (f u)) → PhraseIs K (phrase start f)
  plain start f h = record { value = h; meant = λ u k. tt }

  designator_is : (n : Named) → AreBehind K n.behind → PhraseIs K (designator_phrase n)
  designator_is n h = record {
    value = λ u k. then_has M V (meant_by InExpression n u) (value_meant n.ident.pos) (designates_has InExpression n.ident n.behind h u k) (λ m i. value_has n.ident.pos m i);
    meant = λ u k. designates_has InExpression n.ident n.behind h u k;
  }

  bracketed_is : (x : Valued) → V x → V (bracketed x)
  bracketed_is (valued.Constant v) h = h
  bracketed_is (valued.Place p) h = tt
  bracketed_is (valued.Node n) h = tt

  abbrev AreTails : List Tailed → Type 0
  AreTails ts = AllByRecursion (λ (t : Tailed). PhraseIs K t.operand) ts

  chain_has : (u : Around) → K u → (ts : List Tailed) → AreTails ts → (j : Judged Valued) → Has V j → Has V (combine_all u ts j)
  chain_has u k [] h j i = i
  chain_has u k (t ∷ ts) h j i =
      chain_has u k ts h.1 (both j (t.operand.value u) ▷ λ p. combined (map_of u) t.operator t.at p.0 p.1)
      (then_has (λ (p : Valued × Valued). V p.0 × V p.1) V (both j (t.operand.value u)) (λ p. combined (map_of u) t.operator t.at p.0 p.1) (both_have V V j (t.operand.value u) i (h.0.value u k)) (λ p g. combined_is (map_of u) t.operator t.at p.0 p.1 g.0 g.1))

  -- what is tested is no constant
  pointer_has : (x : Valued) (o : Option (Guarded × QName)) → IfThere V (pointer_test x o)
  pointer_has x None = tt
  pointer_has x (Some g) = tt

  record_has : (p : Place) (o : Option (Guarded × QName)) → IfThere V (record_test p o)
  record_has p None = tt
  record_has p (Some g) = tt

  place_test : (types : Map) (p : Option Place) (t : TypeRef) → IfThere V (test_record types p t)
  place_test types None t = tt
  place_test types (Some p) t = record_has p (designators.guard_of types p t)

  tested_has : (types : Map) (x : Valued) (t : TypeRef) (q : Option QName) → IfThere V (test_of types x t q)
  tested_has types x t (Some a) = pointer_has x (designators.if_extends types guarded.Pointer (Some a) (pointed_record types t))
  tested_has types x t None = place_test types (place_in x) t

  found_if : (at : Pos) (o : Option Valued) → IfThere V o → Has V (found_or rule.UnfitTypeTest at o)
  found_if at None h = tt
  found_if at (Some x) h = h

  is_has : (u : Around) (at : Pos) (x : Judged Valued) (r : Phrase) (q : Option Qualident) → Has V (is_test u at x r q)
  is_has u at x r (Some q) = any_then V (both (untestable (map_of u) at x) (type_named u q)) (λ p. test (map_of u) at p.0 p.1) (λ p. found_if at (test_of (map_of u) p.0 p.1 (record_if (map_of u) (type_in (type p.0)))) (tested_has (map_of u) p.0 p.1 (record_if (map_of u) (type_in (type p.0)))))
  is_has u at x r None = any_then V (both x (r.value u)) (λ p. also (not (testable (map_of u) p.0)) rule.UnfitTypeTest at (breaks rule.UnfitOperands at)) (λ p. also_broken V (not (testable (map_of u) p.0)) rule.UnfitTypeTest rule.UnfitOperands at)

  two_has : (u : Around) → K u → (o : Relation) (at : Pos) (x : Judged Valued) (r : Phrase) → Has V x → PhraseIs K r → Has V (both x (r.value u) ▷ λ p. related (map_of u) o at p.0 p.1)
  two_has u k o at x r h g = then_has (λ (p : Valued × Valued). V p.0 × V p.1) V (both x (r.value u)) (λ p. related (map_of u) o at p.0 p.1) (both_have V V x (r.value u) h (g.value u k)) (λ p i. related_is (map_of u) o at p.0 p.1 i.0 i.1)

  relation_has : (u : Around) → K u → (o : Relation) (at : Pos) (x : Judged Valued) (r : Phrase) → Has V x → PhraseIs K r → Has V (relation_of u o at x r)
  relation_has u k relates.Is at x r h g = is_has u at x r r.name
  relation_has u k relates.Equal at x r h g = two_has u k relates.Equal at x r h g
  relation_has u k relates.NotEqual at x r h g = two_has u k relates.NotEqual at x r h g
  relation_has u k relates.Less at x r h g = two_has u k relates.Less at x r h g
  relation_has u k relates.LessEqual at x r h g = two_has u k relates.LessEqual at x r h g
  relation_has u k relates.Greater at x r h g = two_has u k relates.Greater at x r h g
  relation_has u k relates.GreaterEqual at x r h g = two_has u k relates.GreaterEqual at x r h g
  relation_has u k relates.In at x r h g = two_has u k relates.In at x r h g

  -- sets
  abbrev RangedIs : Ranged → Type 0
  RangedIs r = PhraseIs K r.low × IfThere (PhraseIs K) r.high

  high_has : (u : Around) → K u → (o : Option Phrase) → IfThere (PhraseIs K) o → Has (IfThere V) (value_if u o)
  high_has u k None h = tt
  high_has u k (Some p) h = then_has V (IfThere V) (p.value u) (λ x. sound (Some x)) (h.value u k) (λ x i. i)

  element_has : (u : Around) → K u → (r : Ranged) → RangedIs r → Has E (element_value u r)
  element_has u k r h =
      then_has (λ (p : Valued × Option Valued). V p.0 × IfThere V p.1) E (both (r.low.value u) (value_if u r.high)) (λ p. element (map_of u) r.low.start p.0 p.1)
      (both_have V (IfThere V) (r.low.value u) (value_if u r.high) (h.0.value u k) (high_has u k r.high h.1)) (λ p i. element_is (map_of u) r.low.start p.0 p.1 i.0 i.1)

  elements_have : (u : Around) → K u → (rs : List Ranged) → AllByRecursion RangedIs rs → AllByRecursion (Has E) (map (element_value u) rs)
  elements_have u k [] h = tt
  elements_have u k (r ∷ rs) h = (element_has u k r h.0, elements_have u k rs h.1)

  -- BY INDUCTION OVER EXPRESSIONS

  abbrev PX : Expr → Type 0
  PX x = is_spelled x ≡ true → PhraseIs K (phrase_of x)

  abbrev PB : Selector → Type 0
  PB x = selector_spelled x ≡ true → BehindIs K (behind_of x)

  abbrev PD : Designator → Type 0
  PD x = designator_spelled x ≡ true → AreBehind K (named_of x).behind

  abbrev PR : Element → Type 0
  PR x = element_spelled x ≡ true → RangedIs (ranged_of x)

  abbrev PT : Tail → Type 0
  PT x = tail_spelled x ≡ true → PhraseIs K (tailed_of x).operand

  abbrev SX : Type 0
  SX = (x : Expr) × PX x

  abbrev SB : Type 0
  SB = (x : Selector) × PB x

  abbrev SD : Type 0
  SD = (x : Designator) × PD x

  abbrev SR : Type 0
  SR = (x : Element) × PR x

  abbrev ST : Type 0
  ST = (x : Tail) × PT x

  abbrev exprs_in : List SX → List Expr
  exprs_in xs = map (λ (x : SX). x.0) xs

  phrases_are : (xs : List SX) → all_true (map is_spelled (exprs_in xs)) ≡ true → ArePhrases K (map phrase_of (exprs_in xs))
  phrases_are [] e = tt
  phrases_are (x ∷ xs) e = let p = and_parts (is_spelled x.0) (all_true (map is_spelled (exprs_in xs))) e in (x.1 p.0, phrases_are xs p.1)

  selectors_are : (xs : List SB) → all_true (map selector_spelled (map (λ (x : SB). x.0) xs)) ≡ true → AreBehind K (map behind_of (map (λ (x : SB). x.0) xs))
  selectors_are [] e = tt
  selectors_are (x ∷ xs) e = let p = and_parts (selector_spelled x.0) (all_true (map selector_spelled (map (λ (x : SB). x.0) xs))) e in (x.1 p.0, selectors_are xs p.1)

  ranges_are : (xs : List SR) → all_true (map element_spelled (map (λ (x : SR). x.0) xs)) ≡ true → AllByRecursion RangedIs (map ranged_of (map (λ (x : SR). x.0) xs))
  ranges_are [] e = tt
  ranges_are (x ∷ xs) e = let p = and_parts (element_spelled x.0) (all_true (map element_spelled (map (λ (x : SR). x.0) xs))) e in (x.1 p.0, ranges_are xs p.1)

  tails_are : (xs : List ST) → all_true (map tail_spelled (map (λ (x : ST). x.0) xs)) ≡ true → AreTails (map tailed_of (map (λ (x : ST). x.0) xs))
  tails_are [] e = tt
  tails_are (x ∷ xs) e = let p = and_parts (tail_spelled x.0) (all_true (map tail_spelled (map (λ (x : ST). x.0) xs))) e in (x.1 p.0, tails_are xs p.1)

  by_layers : (x : Expr-F Expr Selector Designator Element Tail) → (spelled.expr_layer (map-Expr Expr Selector Designator Element Tail Bool Bool Bool Bool Bool is_spelled selector_spelled designator_spelled element_spelled tail_spelled x) ≡ true → PhraseIs K (expr_rule (map-Expr Expr Selector Designator Element Tail Phrase Behind Named Ranged Tailed phrase_of behind_of named_of ranged_of tailed_of x))) → PX (roll-Expr x)
  by_layers x h e =
      subst (PhraseIs K) (sym (fold-roll-Expr Phrase Behind Named Ranged Tailed expr_rule selector_rule designator_rule element_rule tail_rule x))
      (h (sym (fold-roll-Expr Bool Bool Bool Bool Bool spelled.expr_layer spelled.selector_layer spelled.designator_layer spelled.element_layer spelled.tail_layer x) ∙ e))

  expr_cases : (y : Expr-F SX SB SD SR ST) → PX (roll-Expr (map-Expr SX SB SD SR ST Expr Selector Designator Element Tail (λ x. x.0) (λ x. x.0) (λ x. x.0) (λ x. x.0) (λ x. x.0) y))
  expr_cases (Expr-F.Designator n) = by_layers (Expr-F.Designator n.0) (λ e. designator_is (named_of n.0) (n.1 e))
  expr_cases (Expr-F.Int at text) = by_layers (Expr-F.Int at text) (λ e. plain at (λ u. integer_literal at (integer_text text)) (λ u k. wants_if V (nat_le (integer_text text) 2147483647) rule.LiteralTooLarge at (constant (literal.Int (pos (integer_text text)))) (number_long (integer_text text))))
  expr_cases (Expr-F.Char at text) = by_layers (Expr-F.Char at text) (λ e. plain at (λ u. char_literal at (marked 0 text)) (λ u k. wants_if V (nat_le (marked 0 text) 255) rule.LiteralTooLarge at (constant (literal.Char (marked 0 text))) (code_small (marked 0 text))))
  expr_cases (Expr-F.Str at text) = by_layers (Expr-F.Str at text) (λ e. plain at (λ u. sound (constant (text_value text))) (λ u k. text_is text e))
  expr_cases (Expr-F.Nil at) = by_layers (Expr-F.Nil at) (λ e. plain at (λ u. sound (constant literal.Nil)) (λ u k. tt))
  expr_cases (Expr-F.Set at xs) =
      let rs = map ranged_of (map (λ (x : SR). x.0) xs) in
      by_layers (Expr-F.Set at (map (λ (x : SR). x.0) xs)) (λ e. plain at (λ u. made set_of (each_sound (map (element_value u) rs))) (λ u k. then_has (AllByRecursion E) V (each_sound (map (element_value u) rs)) (λ x. sound (set_of x)) (each_has E (map (element_value u) rs) (elements_have u k rs (ranges_are xs e))) (λ x i. set_is x i)))
  expr_cases (Expr-F.Paren at x) = by_layers (Expr-F.Paren at x.0) (λ e. plain at (λ u. made bracketed ((phrase_of x.0).value u)) (λ u k. then_has V V ((phrase_of x.0).value u) (λ v. sound (bracketed v)) ((x.1 e).value u k) (λ v i. bracketed_is v i)))
  expr_cases (Expr-F.Not at x) = by_layers (Expr-F.Not at x.0) (λ e. plain at (λ u. (phrase_of x.0).value u ▷ opposite (map_of u) at) (λ u k. then_has V V ((phrase_of x.0).value u) (opposite (map_of u) at) ((x.1 e).value u k) (λ v i. opposite_is (map_of u) at v i)))
  expr_cases (Expr-F.Signed s at x) = by_layers (Expr-F.Signed s at x.0) (λ e. plain at (λ u. (phrase_of x.0).value u ▷ signed (map_of u) s at) (λ u k. then_has V V ((phrase_of x.0).value u) (signed (map_of u) s at) ((x.1 e).value u k) (λ v i. signed_is (map_of u) s at v i)))
  expr_cases (Expr-F.Chain x ts) =
      let us = map tailed_of (map (λ (x : ST). x.0) ts) in
      by_layers (Expr-F.Chain x.0 (map (λ (x : ST). x.0) ts)) (λ e. let p = and_parts (is_spelled x.0) (all_true (map tail_spelled (map (λ (x : ST). x.0) ts))) e in plain (phrase_of x.0).start (λ u. combine_all u us ((phrase_of x.0).value u)) (λ u k. chain_has u k us (tails_are ts p.1) ((phrase_of x.0).value u) ((x.1 p.0).value u k)))
  expr_cases (Expr-F.Relate l o at r) = by_layers (Expr-F.Relate l.0 o at r.0) (λ e. let p = and_parts (is_spelled l.0) (is_spelled r.0) e in plain (phrase_of l.0).start (λ u. relation_value u o at (phrase_of l.0) (phrase_of r.0)) (λ u k. relation_has u k o at ((phrase_of l.0).value u) (phrase_of r.0) ((l.1 p.0).value u k) (r.1 p.1)))

  selector_layers : (x : Selector-F Expr Selector Designator Element Tail) → (spelled.selector_layer (map-Selector Expr Selector Designator Element Tail Bool Bool Bool Bool Bool is_spelled selector_spelled designator_spelled element_spelled tail_spelled x) ≡ true → BehindIs K (selector_rule (map-Selector Expr Selector Designator Element Tail Phrase Behind Named Ranged Tailed phrase_of behind_of named_of ranged_of tailed_of x))) → PB (roll-Selector x)
  selector_layers x h e =
      subst (BehindIs K) (sym (fold-roll-Selector Phrase Behind Named Ranged Tailed expr_rule selector_rule designator_rule element_rule tail_rule x))
      (h (sym (fold-roll-Selector Bool Bool Bool Bool Bool spelled.expr_layer spelled.selector_layer spelled.designator_layer spelled.element_layer spelled.tail_layer x) ∙ e))

  selector_cases : (y : Selector-F SX SB SD SR ST) → PB (roll-Selector (map-Selector SX SB SD SR ST Expr Selector Designator Element Tail (λ x. x.0) (λ x. x.0) (λ x. x.0) (λ x. x.0) (λ x. x.0) y))
  selector_cases (Selector-F.Field at x) = selector_layers (Selector-F.Field at x) (λ e. tt)
  selector_cases (Selector-F.Index at i) = selector_layers (Selector-F.Index at i.0) (λ e. i.1 e)
  selector_cases (Selector-F.Deref at) = selector_layers (Selector-F.Deref at) (λ e. tt)
  selector_cases (Selector-F.Call at xs) = selector_layers (Selector-F.Call at (exprs_in xs)) (λ e. phrases_are xs e)

  designator_cases : (y : Designator-F SX SB SD SR ST) → PD (roll-Designator (map-Designator SX SB SD SR ST Expr Selector Designator Element Tail (λ x. x.0) (λ x. x.0) (λ x. x.0) (λ x. x.0) (λ x. x.0) y))
  designator_cases y e =
      let x = map-Designator SX SB SD SR ST Expr Selector Designator Element Tail (λ x. x.0) (λ x. x.0) (λ x. x.0) (λ x. x.0) (λ x. x.0) y in
      subst (λ (n : Named). AreBehind K n.behind) (sym (fold-roll-Designator Phrase Behind Named Ranged Tailed expr_rule selector_rule designator_rule element_rule tail_rule x))
      (selectors_are y.selectors (sym (fold-roll-Designator Bool Bool Bool Bool Bool spelled.expr_layer spelled.selector_layer spelled.designator_layer spelled.element_layer spelled.tail_layer x) ∙ e))

  element_by : (low : SX) (high : Option SX) → PR (roll-Element (map-Element SX SB SD SR ST Expr Selector Designator Element Tail (λ x. x.0) (λ x. x.0) (λ x. x.0) (λ x. x.0) (λ x. x.0) (record { low = low; high = high })))
  element_by low None e =
      let x = map-Element SX SB SD SR ST Expr Selector Designator Element Tail (λ x. x.0) (λ x. x.0) (λ x. x.0) (λ x. x.0) (λ x. x.0) (record { low = low; high = None }) in
      let p = and_parts (is_spelled low.0) true (sym (fold-roll-Element Bool Bool Bool Bool Bool spelled.expr_layer spelled.selector_layer spelled.designator_layer spelled.element_layer spelled.tail_layer x) ∙ e) in
      subst RangedIs (sym (fold-roll-Element Phrase Behind Named Ranged Tailed expr_rule selector_rule designator_rule element_rule tail_rule x)) (low.1 p.0, tt)
  element_by low (Some h) e =
      let x = map-Element SX SB SD SR ST Expr Selector Designator Element Tail (λ x. x.0) (λ x. x.0) (λ x. x.0) (λ x. x.0) (λ x. x.0) (record { low = low; high = Some h }) in
      let p = and_parts (is_spelled low.0) (is_spelled h.0) (sym (fold-roll-Element Bool Bool Bool Bool Bool spelled.expr_layer spelled.selector_layer spelled.designator_layer spelled.element_layer spelled.tail_layer x) ∙ e) in
      subst RangedIs (sym (fold-roll-Element Phrase Behind Named Ranged Tailed expr_rule selector_rule designator_rule element_rule tail_rule x)) (low.1 p.0, h.1 p.1)

  tail_cases : (y : Tail-F SX SB SD SR ST) → PT (roll-Tail (map-Tail SX SB SD SR ST Expr Selector Designator Element Tail (λ x. x.0) (λ x. x.0) (λ x. x.0) (λ x. x.0) (λ x. x.0) y))
  tail_cases y e =
      let x = map-Tail SX SB SD SR ST Expr Selector Designator Element Tail (λ x. x.0) (λ x. x.0) (λ x. x.0) (λ x. x.0) (λ x. x.0) y in
      subst (λ (t : Tailed). PhraseIs K t.operand) (sym (fold-roll-Tail Phrase Behind Named Ranged Tailed expr_rule selector_rule designator_rule element_rule tail_rule x))
      (y.operand.1 (sym (fold-roll-Tail Bool Bool Bool Bool Bool spelled.expr_layer spelled.selector_layer spelled.designator_layer spelled.element_layer spelled.tail_layer x) ∙ e))

  expr_is : (x : Expr) → PX x
  expr_is = ind-Expr PX PB PD PR PT (λ x y is. subst (λ z. PX (roll-Expr z)) is (expr_cases y)) (λ x y is. subst (λ z. PB (roll-Selector z)) is (selector_cases y)) (λ x y is. subst (λ z. PD (roll-Designator z)) is (designator_cases y)) (λ x y is. subst (λ z. PR (roll-Element z)) is (element_by y.low y.high)) (λ x y is. subst (λ z. PT (roll-Tail z)) is (tail_cases y))

  constant_value_is : (u : Around) → K u → (x : Expr) → is_spelled x ≡ true → Makes ConstantIs (constant_value u (phrase_of x))
  constant_value_is u k x e =
      let v = (phrase_of x).value u in
      record { node = constant_has (phrase_of x).start v.node (is_quiet v.notes.broken) ((expr_is x e).value u k) }

pub constants_stand : ConstantsStand
constants_stand unit shown are u k x e = constant_value_is unit shown are u k x e

pub bodies_stand : BodiesStand
bodies_stand shown tree m e s bases plain o are = bodies_known shown tree m e s bases plain o (constants_stand tree.name.name shown are)
