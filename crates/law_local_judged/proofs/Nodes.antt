-- Each alternative of an expression, of parts that follow.
use Rattle.std.proofs.Common.{◌≡◌, refl, ap, ◌∙◌, subst, ℕ, List, [], ◌∷◌, map, Option, Some, None, Bool, true, false, not}
use Rattle.std.specs.Prelude.{◌||◌, nat_le, pos}
use Rattle.std.specs.List.{AllByRecursion}
use Rattle.ob_tree.specs.declared.pos.Pos.{Pos}
use Rattle.ob_tree.specs.declared.names.QName.{QName}
use Rattle.ob_tree.specs.declared.ident.Ident.{Ident}
use Rattle.ob_tree.specs.declared.ident.Qualident.{Qualident}
use Rattle.ob_tree.specs.declared.expr.Sign.{Sign}
use Rattle.ob_tree.specs.declared.expr.Relation.{Relation}
use Rattle.ob_tree.specs.declared.expr.Relation.TheVariants as relates
use Rattle.ob_types.specs.declared.types.TypeRef.{TypeRef}
use Rattle.ob_types.specs.declared.types.Signature.{Signature}
use Rattle.ob_types.specs.declared.desc.Desc.{Desc}
use Rattle.ob_types.specs.declared.value.Value.{Value as Literal}
use Rattle.ob_types.specs.declared.value.Value.TheVariants as literal
use Rattle.ob_types.specs.declared.typed.Guarded.{Guarded}
use Rattle.ob_types.specs.declared.typed.Guarded.TheVariants as guarded
use Rattle.ob_types.specs.declared.typed.TypedExpr.TheVariants as e
use Rattle.ob_types.specs.declared.typed.ExprType.TheVariants as kind
use Rattle.ob_types.specs.AssigningTests.{is_value}
use Rattle.ob_rules.specs.declared.meant.ElementOf.{ElementOf}
use Rattle.ob_rules.specs.declared.meant.Meant.{Meant}
use Rattle.ob_rules.specs.declared.meant.Meant.TheVariants as means
use Rattle.ob_rules.specs.declared.meant.Where.{Where}
use Rattle.ob_rules.specs.declared.meant.Where.TheVariants.{InExpression}
use Rattle.ob_rules.specs.declared.values.Place.{Place}
use Rattle.ob_rules.specs.declared.values.Valued.{Valued}
use Rattle.ob_rules.specs.declared.values.Valued.TheVariants as valued
use Rattle.ob_rules.specs.declared.broken.Rule.TheVariants as rule
use Rattle.ob_rules.specs.declared.broken.Rule.{Rule}
use Rattle.ob_rules.specs.Judged.{Judged, sound, silent, breaks, both, also, wants, made, each_sound, ◌▷◌}
use Rattle.ob_rules.specs.Shapes.{Map, pointed_record}
use Rattle.ob_rules.specs.Names.{Around, map_of, type_named}
use Rattle.ob_rules.specs.Values.{constant, computed, value_at, type_in, tree, type, place_in}
use Rattle.ob_rules.specs.Operators.{combined, opposite, signed, related, element, set_of}
use Rattle.ob_rules.specs.Phrases.{Phrase, Behind, Dot, Index, Up, Round}
use Rattle.ob_rules.specs.Designators.{designates, guard_of, if_extends}
use Rattle.ob_rules.specs.Expressions.{integer_literal, char_literal, procedure_value, value_meant, name_alone, Named, meant_by, designator_phrase, var_record_in, testable, record_if, record_test, pointer_test, test_record, test_of, test, untestable, type_test, is_test, phrase, Tailed, combine_all, bracketed, Ranged, value_if, element_value, relation_of, relation_value}
use Rattle.law_local_judged.specs.Agreement.{IsIn, Agree}
use Rattle.law_local_judged.specs.Said.{KindIn, SaidIn, PlaceIn, ValuedIn, ValuedTied, MeantIn, MeantTied, ElementIn}
use Rattle.law_local_judged.specs.Followed.{beside, Agrees, Follows}
use Rattle.law_local_judged.proofs.Tests.{pointed_record_same, pointed_record_in}
use Rattle.law_local_judged.proofs.Following.{follows_none, follows_sound, follows_weaker, follows_wants, follows_found, follows_then, follows_made, follows_both, none_then, then_node, front_said, Both}
use Rattle.law_local_judged.proofs.Mentioned.{constant_kind, procedure_mentions, is_pointer_mentions, is_record_mentions, tree_mentions}
use Rattle.law_local_judged.proofs.Names.{maps_agree, type_named_follows}
use Rattle.law_local_judged.proofs.Values.{points_same, type_in_in}
use Rattle.law_local_judged.proofs.Operators.{constant_follows, combined_follows, opposite_follows, signed_follows, related_follows, element_follows, OM, set_tied, set_mentions, each_follows}
use Rattle.law_local_judged.proofs.Actuals.{PhraseFollows, NameSame}
use Rattle.law_local_judged.proofs.Fitting.{place_mentions, place_kind}
use Rattle.law_local_judged.proofs.Selecting.{extends_if_same, guard_of_same}
use Rattle.law_local_judged.proofs.Through.{AreBehind}
use Rattle.law_local_judged.proofs.Fronts.{designates_follows, designates_named}
use Rattle.law_lists.proofs.Lists.{none_some, some_same}

module _ (P : QName → Type 0) where
  abbrev VF : Type 0 → Judged Valued → Judged Valued → Type 0
  VF R i j = Follows P (ValuedTied P) (ValuedIn P) R i j

  value_none : (R : Type 0) (i j : Judged Valued) → i.node ≡ None → VF R i j
  value_none R i j e = follows_none P (ValuedTied P) (ValuedIn P) R i j e

  -- ---- a designator as a value

  procedure_there : (b : Bool) (at : Pos) (q : QName) (g : Signature) → VF (Unit {0}) (procedure_value b at q (computed (e.Procedure q g) (kind.Procedure g))) (procedure_value b at q (computed (e.Procedure q g) (kind.Procedure g)))
  procedure_there true at q g = follows_sound P (ValuedTied P) (ValuedIn P) (Unit {0}) (computed (e.Procedure q g) (kind.Procedure g)) (λ m. procedure_mentions P q g m) (λ m. tt)
  procedure_there false at q g = value_none (Unit {0}) (breaks rule.UnfitProcedureValue at) (breaks rule.UnfitProcedureValue at) refl

  pub value_meant_follows : (at : Pos) (m : Meant) → MeantTied P m → VF (MeantIn P m) (value_meant at m) (value_meant at m)
  value_meant_follows at (means.Place p) t = follows_sound P (ValuedTied P) (ValuedIn P) (PlaceIn P p) (value_at p) t (λ m. m)
  value_meant_follows at (means.Constant c) t = constant_follows P (Unit {0}) c tt
  value_meant_follows at (means.Procedure q g) t = procedure_there (is_value q) at q g
  value_meant_follows at (means.Call x) t = follows_sound P (ValuedTied P) (ValuedIn P) (ValuedIn P x) x t (λ m. m)
  value_meant_follows at (means.Statement y) t = value_none (MeantIn P (means.Statement y)) silent silent refl
  value_meant_follows at (means.Bound c) t = value_none (PlaceIn P c.receiver) (breaks rule.UnfitProcedureValue at) (breaks rule.UnfitProcedureValue at) refl
  value_meant_follows at (means.Out o) t = value_none (Unit {0}) (breaks rule.UnfitProcedureValue at) (breaks rule.UnfitProcedureValue at) refl
  value_meant_follows at (means.Predeclared f) t = value_none (Unit {0}) (breaks rule.UnfitProcedureValue at) (breaks rule.UnfitProcedureValue at) refl

  bracketed_tied : (x : Valued) → ValuedTied P x → ValuedTied P (bracketed x)
  bracketed_tied (valued.Place p) t = t
  bracketed_tied (valued.Constant c) t = t
  bracketed_tied (valued.Node n) t = t

  bracketed_mentions : (x : Valued) → ValuedIn P (bracketed x) → ValuedIn P x
  bracketed_mentions (valued.Place p) m = m
  bracketed_mentions (valued.Constant c) m = m
  bracketed_mentions (valued.Node n) m = m

  -- ---- tests

  module _ (f g : Map) (agree : Agree P f g) where
    testable_same : (x : Valued) → KindIn P (type x) → testable g x ≡ testable f x
    testable_same x h = ap (λ b. b || var_record_in (place_in x)) (points_same P f g agree x h)

    record_if_same : (o : Option TypeRef) → ((t : TypeRef) → o ≡ Some t → IsIn P t) → record_if g o ≡ record_if f o
    record_if_same None h = refl
    record_if_same (Some t) h = pointed_record_same P f g agree t (h t refl)

    record_if_in : (o : Option TypeRef) (q : QName) → ((t : TypeRef) → o ≡ Some t → IsIn P t) → record_if f o ≡ Some q → P q
    record_if_in None q h e = none_some e
    record_if_in (Some t) q h e = pointed_record_in P f g agree t q (h t refl) e

    test_record_same : (x : Valued) (t : TypeRef) → KindIn P (type x) → IsIn P t → test_record g (place_in x) t ≡ test_record f (place_in x) t
    test_record_same x t h i = by (place_in x) refl
      where
        by : (o : Option Place) → place_in x ≡ o → test_record g o t ≡ test_record f o t
        by None e = refl
        by (Some p) e = ap (record_test p) (guard_of_same P f g agree p t (place_kind P x p e h) i)

    test_of_same : (x : Valued) (t : TypeRef) (o : Option QName) → KindIn P (type x) → IsIn P t → ((q : QName) → o ≡ Some q → P q) → test_of g x t o ≡ test_of f x t o
    test_of_same x t (Some q) h i k = ap (pointer_test x) (extends_if_same P f g agree guarded.Pointer q t (k q refl) i)
    test_of_same x t None h i k = test_record_same x t h i

    test_same : (x : Valued) (t : TypeRef) → KindIn P (type x) → IsIn P t → test_of g x t (record_if g (type_in (type x))) ≡ test_of f x t (record_if f (type_in (type x)))
    test_same x t h i =
        ap (test_of g x t) (record_if_same (type_in (type x)) (λ y e. type_in_in P f g agree (type x) y h e))
        ∙ test_of_same x t (record_if f (type_in (type x))) h i (λ q e. record_if_in (type_in (type x)) q (λ y e. type_in_in P f g agree (type x) y h e) e)

    -- a test is of type BOOLEAN and mentions what is tested
    abbrev Tests : Valued → Valued → Type 0
    Tests x y = ValuedTied P y × (ValuedIn P y → ValuedIn P x)

    pointer_tests : (x : Valued) (o : Option (Guarded × QName)) (y : Valued) → pointer_test x o ≡ Some y → Tests x y
    pointer_tests x None y e = none_some e
    pointer_tests x (Some k) y e = subst (Tests x) (some_same e) ((λ m. tt), (λ m. tree_mentions P x (is_pointer_mentions P (tree x) k.1 m).0))

    record_tests : (x : Valued) (p : Place) (o : Option (Guarded × QName)) (y : Valued) → place_in x ≡ Some p → record_test p o ≡ Some y → Tests x y
    record_tests x p None y i e = none_some e
    record_tests x p (Some k) y i e = subst (Tests x) (some_same e) ((λ m. tt), (λ m. place_mentions P x p i (is_record_mentions P p.designator.inner k.1 m).0))

    of_tests : (x : Valued) (t : TypeRef) (o : Option QName) (y : Valued) → test_of f x t o ≡ Some y → Tests x y
    of_tests x t (Some q) y e = pointer_tests x (if_extends f guarded.Pointer (Some q) (pointed_record f t)) y e
    of_tests x t None y e = by (place_in x) refl e
      where
        by : (o : Option Place) → place_in x ≡ o → test_record f o t ≡ Some y → Tests x y
        by None i e = none_some e
        by (Some p) i e = record_tests x p (guard_of f p t) y i e

    pub test_follows : (at : Pos) (x : Valued) (t : TypeRef) → ValuedTied P x → IsIn P t → VF (ValuedIn P x × Unit {0}) (test f at x t) (test g at x t)
    test_follows at x t tied i =
        follows_found P (ValuedTied P) (ValuedIn P) (ValuedIn P x × Unit {0}) rule.UnfitTypeTest at (test_of f x t (record_if f (type_in (type x)))) (test_of g x t (record_if g (type_in (type x))))
        (λ y e. (of_tests x t (record_if f (type_in (type x))) y e).0)
        (λ y e m. let k = (of_tests x t (record_if f (type_in (type x))) y e).1 m in ((k, tt), test_same x t (tied k) i))

  -- ---- expressions

  module _ (u : Around) (s : QName → Option Desc) (a : Agrees P u s) where
    abbrev v : Around
    v = beside u s

    abbrev maps : Agree P (map_of u) (map_of v)
    maps = maps_agree P u s a

    abbrev Ph : Phrase → Type 0
    Ph p = PhraseFollows P u s a p

    pub phrase_follows : (start : Pos) (f : Around → Judged Valued) → VF (Unit {0}) (f u) (f v) → Ph (phrase start f)
    phrase_follows start f h = record { value = h; meant = tt; named = λ x e said. refl; meant_named = tt }

    wants_constant : (b : Bool) (which : Rule) (at : Pos) (c : Literal) → VF (Unit {0}) (wants b which at (constant c)) (wants b which at (constant c))
    wants_constant b which at c = follows_wants P (ValuedTied P) (ValuedIn P) (Unit {0}) b b which at (constant c) (λ m. constant_kind P c) (λ m. tt) (λ r. refl)

    pub integer_follows : (at : Pos) (n : ℕ) → Ph (phrase at (λ u. integer_literal at n))
    integer_follows at n = phrase_follows at (λ u. integer_literal at n) (wants_constant (nat_le n 2147483647) rule.LiteralTooLarge at (literal.Int (pos n)))

    pub char_follows : (at : Pos) (n : ℕ) → Ph (phrase at (λ u. char_literal at n))
    char_follows at n = phrase_follows at (λ u. char_literal at n) (wants_constant (nat_le n 255) rule.LiteralTooLarge at (literal.Char n))

    pub constant_phrase : (at : Pos) (c : Literal) → Ph (phrase at (λ u. sound (constant c)))
    constant_phrase at c = phrase_follows at (λ u. sound (constant c)) (constant_follows P (Unit {0}) c tt)

    -- designators

    abbrev NF : Named → Type 0
    NF n = AreBehind P u s a n.behind

    pub meant_follows : (w : Where) (n : Named) → NF n → Follows P (MeantTied P) (MeantIn P) (Unit {0}) (meant_by w n u) (meant_by w n v)
    meant_follows w n h = designates_follows P u s a w n.ident n.behind h

    name_follows : (x : Ident) (bs : List Behind) (m : Meant) → (designates u InExpression x bs).node ≡ Some m → SaidIn P (designates u InExpression x bs).notes → NameSame P u s a (name_alone x bs)
    name_follows x [] m e said = refl
    name_follows x (Dot at y ∷ []) m e said = designates_named P u s a InExpression x y at m e said
    name_follows x (Dot at y ∷ b ∷ bs) m e said = refl
    name_follows x (Index at i ∷ bs) m e said = refl
    name_follows x (Up at ∷ bs) m e said = refl
    name_follows x (Round at ps ∷ bs) m e said = refl

    pub designator_follows : (n : Named) → NF n → Ph (designator_phrase n)
    designator_follows n h = record {
      value = follows_then P (MeantTied P) (MeantIn P) (ValuedTied P) (ValuedIn P) (Unit {0}) (meant_by InExpression n u) (meant_by InExpression n v) (value_meant n.ident.pos) (value_meant n.ident.pos) (meant_follows InExpression n h) (λ m t. value_meant_follows n.ident.pos m t);
      meant = meant_follows InExpression n h;
      named = λ x e said. let k = then_node (meant_by InExpression n u) (value_meant n.ident.pos) x e in name_follows n.ident n.behind k.0 k.1 (front_said P (meant_by InExpression n u) (value_meant n.ident.pos) said);
      meant_named = λ m e said. name_follows n.ident n.behind m e said;
    }

    -- operators

    pub paren_follows : (at : Pos) (p : Phrase) → Ph p → Ph (phrase at (λ u. made bracketed (p.value u)))
    paren_follows at p h = phrase_follows at (λ u. made bracketed (p.value u)) (follows_made P (ValuedTied P) (ValuedIn P) (ValuedTied P) (ValuedIn P) (Unit {0}) bracketed (p.value u) (p.value v) h.value (λ x t. bracketed_tied x t) (λ x t m. bracketed_mentions x m))

    pub not_follows : (at : Pos) (p : Phrase) → Ph p → Ph (phrase at (λ u. p.value u ▷ opposite (map_of u) at))
    not_follows at p h = phrase_follows at (λ u. p.value u ▷ opposite (map_of u) at) (follows_then P (ValuedTied P) (ValuedIn P) (ValuedTied P) (ValuedIn P) (Unit {0}) (p.value u) (p.value v) (opposite (map_of u) at) (opposite (map_of v) at) h.value (λ x t. opposite_follows P (map_of u) (map_of v) maps at x t))

    pub sign_follows : (k : Sign) (at : Pos) (p : Phrase) → Ph p → Ph (phrase at (λ u. p.value u ▷ signed (map_of u) k at))
    sign_follows k at p h = phrase_follows at (λ u. p.value u ▷ signed (map_of u) k at) (follows_then P (ValuedTied P) (ValuedIn P) (ValuedTied P) (ValuedIn P) (Unit {0}) (p.value u) (p.value v) (signed (map_of u) k at) (signed (map_of v) k at) h.value (λ x t. signed_follows P (map_of u) (map_of v) maps k at x t))

    abbrev Tied2 : Valued × Valued → Type 0
    Tied2 p = ValuedTied P p.0 × ValuedTied P p.1

    abbrev In2 : Valued × Valued → Type 0
    In2 p = ValuedIn P p.0 × ValuedIn P p.1

    alone : (i j : Judged Valued) → VF (Unit {0} × Unit {0}) i j → VF (Unit {0}) i j
    alone i j h = follows_weaker P (ValuedTied P) (ValuedIn P) (Unit {0} × Unit {0}) (Unit {0}) i j (λ r. tt) h

    -- two values and what is made of them
    two_follow : (i j k l : Judged Valued) (f g : Valued × Valued → Judged Valued) → VF (Unit {0}) i j → VF (Unit {0}) k l → ((p : Valued × Valued) → Tied2 p → VF (In2 p) (f p) (g p)) → VF (Unit {0}) (both i k ▷ f) (both j l ▷ g)
    two_follow i j k l f g h m n =
        alone (both i k ▷ f) (both j l ▷ g)
        (follows_then P Tied2 In2 (ValuedTied P) (ValuedIn P) (Unit {0} × Unit {0}) (both i k) (both j l) f g (follows_both P (ValuedTied P) (ValuedIn P) (ValuedTied P) (ValuedIn P) (Unit {0}) (Unit {0}) i j k l h m) n)

    abbrev TF : List Tailed → Type 0
    TF ts = AllByRecursion (λ t. PhraseFollows P u s a t.operand) ts

    all_follow : (ts : List Tailed) (i j : Judged Valued) → TF ts → VF (Unit {0}) i j → VF (Unit {0}) (combine_all u ts i) (combine_all v ts j)
    all_follow [] i j h k = k
    all_follow (t ∷ ts) i j h k =
        all_follow ts (both i (t.operand.value u) ▷ λ p. combined (map_of u) t.operator t.at p.0 p.1) (both j (t.operand.value v) ▷ λ p. combined (map_of v) t.operator t.at p.0 p.1) h.1
        (two_follow i j (t.operand.value u) (t.operand.value v) (λ p. combined (map_of u) t.operator t.at p.0 p.1) (λ p. combined (map_of v) t.operator t.at p.0 p.1) k h.0.value (λ p t2. combined_follows P (map_of u) (map_of v) maps t.operator t.at p.0 p.1 t2.0 t2.1))

    pub chain_follows : (p : Phrase) (ts : List Tailed) → Ph p → TF ts → Ph (phrase p.start (λ u. combine_all u ts (p.value u)))
    chain_follows p ts h k = phrase_follows p.start (λ u. combine_all u ts (p.value u)) (all_follow ts (p.value u) (p.value v) k h.value)

    -- relations

    untestable_follows : (at : Pos) (i j : Judged Valued) → VF (Unit {0}) i j → VF (Unit {0}) (untestable (map_of u) at i) (untestable (map_of v) at j)
    untestable_follows at i j h =
        follows_then P (ValuedTied P) (ValuedIn P) (ValuedTied P) (ValuedIn P) (Unit {0}) i j (λ x. wants (testable (map_of u) x) rule.UnfitTypeTest at x) (λ x. wants (testable (map_of v) x) rule.UnfitTypeTest at x) h
        (λ x t. follows_wants P (ValuedTied P) (ValuedIn P) (ValuedIn P x) (testable (map_of u) x) (testable (map_of v) x) rule.UnfitTypeTest at x t (λ m. m) (λ r. testable_same (map_of u) (map_of v) maps x (t r)))

    type_test_follows : (at : Pos) (i j : Judged Valued) (q : Qualident) → VF (Unit {0}) i j → VF (Unit {0}) (type_test u at i q) (type_test v at j q)
    type_test_follows at i j q h =
        alone (type_test u at i q) (type_test v at j q)
        (follows_then P (λ (p : Valued × TypeRef). ValuedTied P p.0 × IsIn P p.1) (λ p. ValuedIn P p.0 × Unit {0}) (ValuedTied P) (ValuedIn P) (Unit {0} × Unit {0}) (both (untestable (map_of u) at i) (type_named u q)) (both (untestable (map_of v) at j) (type_named v q))
        (λ p. test (map_of u) at p.0 p.1) (λ p. test (map_of v) at p.0 p.1)
        (follows_both P (ValuedTied P) (ValuedIn P) (IsIn P) (λ t. Unit {0}) (Unit {0}) (Unit {0}) (untestable (map_of u) at i) (untestable (map_of v) at j) (type_named u q) (type_named v q) (untestable_follows at i j h) (type_named_follows P u s a q))
        (λ p t. test_follows (map_of u) (map_of v) maps at p.0 p.1 t.0 t.1))

    other_none : (at : Pos) (b : Bool) → (also {A = Valued} b rule.UnfitTypeTest at (breaks rule.UnfitOperands at)).node ≡ None
    other_none at true = refl
    other_none at false = refl

    tested : (at : Pos) (i j : Judged Valued) (r : Phrase) (q : Option Qualident) → VF (Unit {0}) i j → Ph r → VF (Unit {0}) (is_test u at i r q) (is_test v at j r q)
    tested at i j r (Some q) h k = type_test_follows at i j q h
    tested at i j r None h k = value_none (Unit {0}) (is_test u at i r None) (is_test v at j r None) (none_then (both i (r.value u)) (λ p. also (not (testable (map_of u) p.0)) rule.UnfitTypeTest at (breaks rule.UnfitOperands at)) (λ p. other_none at (not (testable (map_of u) p.0))))

    compared : (o : Relation) (at : Pos) (i j : Judged Valued) (r : Phrase) → VF (Unit {0}) i j → Ph r → VF (Unit {0}) (both i (r.value u) ▷ λ p. related (map_of u) o at p.0 p.1) (both j (r.value v) ▷ λ p. related (map_of v) o at p.0 p.1)
    compared o at i j r h k = two_follow i j (r.value u) (r.value v) (λ p. related (map_of u) o at p.0 p.1) (λ p. related (map_of v) o at p.0 p.1) h k.value (λ p t. related_follows P (map_of u) (map_of v) maps o at p.0 p.1 t.0 t.1)

    relation_follows : (o : Relation) (at : Pos) (i j : Judged Valued) (r : Phrase) → VF (Unit {0}) i j → Ph r → VF (Unit {0}) (relation_of u o at i r) (relation_of v o at j r)
    relation_follows relates.Is at i j r h k = tested at i j r r.name h k
    relation_follows relates.Equal at i j r h k = compared relates.Equal at i j r h k
    relation_follows relates.NotEqual at i j r h k = compared relates.NotEqual at i j r h k
    relation_follows relates.Less at i j r h k = compared relates.Less at i j r h k
    relation_follows relates.LessEqual at i j r h k = compared relates.LessEqual at i j r h k
    relation_follows relates.Greater at i j r h k = compared relates.Greater at i j r h k
    relation_follows relates.GreaterEqual at i j r h k = compared relates.GreaterEqual at i j r h k
    relation_follows relates.In at i j r h k = compared relates.In at i j r h k

    pub relate_follows : (l : Phrase) (o : Relation) (at : Pos) (r : Phrase) → Ph l → Ph r → Ph (phrase l.start (λ u. relation_value u o at l r))
    relate_follows l o at r h k = phrase_follows l.start (λ u. relation_value u o at l r) (relation_follows o at (l.value u) (l.value v) r h.value k)

    -- sets

    abbrev pub IfFollows : Option Phrase → Type 0
    IfFollows None = Unit {0}
    IfFollows (Some p) = PhraseFollows P u s a p

    pub record RangedFollows (r : Ranged) : Type 0 where
      pub low : PhraseFollows P u s a r.low
      pub high : IfFollows r.high

    abbrev HighTied : Option Valued → Type 0
    HighTied None = Unit {0}
    HighTied (Some x) = ValuedTied P x

    high_follows : (o : Option Phrase) → IfFollows o → Follows P HighTied (OM P) (Unit {0}) (value_if u o) (value_if v o)
    high_follows None h = follows_sound P HighTied (OM P) (Unit {0}) None tt (λ m. tt)
    high_follows (Some p) h = follows_made P (ValuedTied P) (ValuedIn P) HighTied (OM P) (Unit {0}) (λ x. Some x) (p.value u) (p.value v) h.value (λ x t. t) (λ x t m. m)

    high_tied : (o : Option Valued) (x : Valued) → HighTied o → o ≡ Some x → ValuedTied P x
    high_tied None x h e = none_some e
    high_tied (Some y) x h e = subst (ValuedTied P) (some_same e) h

    element_value_follows : (r : Ranged) → RangedFollows r → Follows P (λ x. Unit {0}) (ElementIn P) (Unit {0}) (element_value u r) (element_value v r)
    element_value_follows r h =
        follows_weaker P (λ x. Unit {0}) (ElementIn P) (Unit {0} × Unit {0}) (Unit {0}) (element_value u r) (element_value v r) (λ k. tt)
        (follows_then P (λ (p : Valued × Option Valued). ValuedTied P p.0 × HighTied p.1) (λ p. ValuedIn P p.0 × OM P p.1) (λ x. Unit {0}) (ElementIn P) (Unit {0} × Unit {0}) (both (r.low.value u) (value_if u r.high)) (both (r.low.value v) (value_if v r.high))
        (λ p. element (map_of u) r.low.start p.0 p.1) (λ p. element (map_of v) r.low.start p.0 p.1)
        (follows_both P (ValuedTied P) (ValuedIn P) HighTied (OM P) (Unit {0}) (Unit {0}) (r.low.value u) (r.low.value v) (value_if u r.high) (value_if v r.high) h.low.value (high_follows r.high h.high))
        (λ p t. element_follows P (map_of u) (map_of v) maps r.low.start p.0 p.1 t.0 (λ b e. high_tied p.1 b t.1 e)))

    elements_follow : (rs : List Ranged) → AllByRecursion RangedFollows rs → Both P (λ x. Unit {0}) (ElementIn P) (map (element_value u) rs) (map (element_value v) rs)
    elements_follow [] h = tt
    elements_follow (r ∷ rs) h = (element_value_follows r h.0, elements_follow rs h.1)

    pub set_follows : (at : Pos) (rs : List Ranged) → AllByRecursion RangedFollows rs → Ph (phrase at (λ u. made set_of (each_sound (map (element_value u) rs))))
    set_follows at rs h =
        phrase_follows at (λ u. made set_of (each_sound (map (element_value u) rs)))
        (follows_made P (AllByRecursion (λ (x : ElementOf). Unit {0})) (AllByRecursion (ElementIn P)) (ValuedTied P) (ValuedIn P) (Unit {0}) set_of (each_sound (map (element_value u) rs)) (each_sound (map (element_value v) rs))
        (each_follows P (λ x. Unit {0}) (ElementIn P) (map (element_value u) rs) (map (element_value v) rs) (elements_follow rs h)) (λ xs t. set_tied P xs) (λ xs t m. set_mentions P xs m))
