-- What nodes mention, by their parts.
use Rattle.std.proofs.Common.{subst, ℕ, List, [], ◌∷◌, ◌++◌, Option}
use Rattle.ob_tree.specs.declared.pos.Pos.{Pos}
use Rattle.ob_tree.specs.declared.names.QName.{QName}
use Rattle.ob_types.specs.declared.types.TypeRef.{TypeRef}
use Rattle.ob_types.specs.declared.types.TypeRef.TheVariants as ref
use Rattle.ob_types.specs.declared.types.Signature.{Signature}
use Rattle.ob_types.specs.declared.value.Value.{Value}
use Rattle.ob_types.specs.declared.value.Value.TheVariants as literal
use Rattle.ob_types.specs.declared.typed.Width.{Width}
use Rattle.ob_types.specs.declared.typed.Width.TheVariants as width
use Rattle.ob_types.specs.declared.typed.Unary.{Unary}
use Rattle.ob_types.specs.declared.typed.Unary.TheVariants as unary
use Rattle.ob_types.specs.declared.typed.Binary.{Binary}
use Rattle.ob_types.specs.declared.typed.Binary.TheVariants as binary
use Rattle.ob_types.specs.declared.typed.Connective.{Connective}
use Rattle.ob_types.specs.declared.typed.Comparison.{Comparison}
use Rattle.ob_types.specs.declared.typed.Guarded.{Guarded}
use Rattle.ob_types.specs.declared.typed.Variable.{Variable}
use Rattle.ob_types.specs.declared.typed.Designator.{Designator}
use Rattle.ob_types.specs.declared.typed.Designator.TheVariants as d
use Rattle.ob_types.specs.declared.typed.TypedExpr.{TypedExpr}
use Rattle.ob_types.specs.declared.typed.TypedExpr.TheVariants as e
use Rattle.ob_types.specs.Maps.{signature_types}
use Rattle.ob_types.specs.TypedKinds.{of_width, smallest, constant_type, unary_type, binary_type}
use Rattle.ob_types.specs.TypedSyntax.{Desig, Expr}
use Rattle.ob_types.specs.TypedView.{designator_view, expr_view}
use Rattle.ob_types.proofs.TypedViews.{view_variable, view_field, view_index, view_deref, view_guard, view_value_of, view_procedure_value, view_monadic, view_dyadic, view_logical, view_compare_texts, view_is_pointer, view_is_record, view_length}
use Rattle.ob_uses_roots.specs.Counts.{Count, Shapes, Layouts, shapes, counts_of_designator, counts_of_expr}
use Rattle.ob_rules.specs.declared.values.Valued.{Valued}
use Rattle.ob_rules.specs.declared.values.Valued.TheVariants as valued
use Rattle.ob_rules.specs.Values.{tree, text_tree}
use Rattle.law_local_judged.specs.Agreement.{IsIn, AreIn}
use Rattle.law_local_judged.specs.Said.{SignatureIn, KindIn, CountsIn, DesignatorIn, ExprIn, ValuedIn}
use Rattle.std.specs.Prelude.{pos, negsuc}

module _ (P : QName → Type 0) where
  pub counts_left : (cs ds : List Count) → CountsIn P (cs ++ ds) → CountsIn P cs
  counts_left [] ds h = tt
  counts_left (Shapes t ∷ cs) ds h = (h.0, counts_left cs ds h.1)
  counts_left (Layouts t ∷ cs) ds h = counts_left cs ds h

  pub counts_right : (cs ds : List Count) → CountsIn P (cs ++ ds) → CountsIn P ds
  counts_right [] ds h = h
  counts_right (Shapes t ∷ cs) ds h = counts_right cs ds h.1
  counts_right (Layouts t ∷ cs) ds h = counts_right cs ds h

  pub shapes_in : (ts : List TypeRef) → CountsIn P (shapes ts) → AreIn P ts
  shapes_in [] h = tt
  shapes_in (t ∷ ts) h = (h.0, shapes_in ts h.1)

  -- ---- designators

  abbrev DI : Desig → Type 0
  DI x = CountsIn P (counts_of_designator x)

  abbrev EI : Expr → Type 0
  EI x = CountsIn P (counts_of_expr x)

  pub variable_mentions : (v : Variable) (t : TypeRef) → DesignatorIn P (d.Variable v t) → IsIn P t
  variable_mentions v t h = (subst DI (view_variable v t) h).0

  pub field_mentions : (x : Designator) (o : QName) (n : List ℕ) (t : TypeRef) → DesignatorIn P (d.Field x o n t) → DesignatorIn P x × IsIn P t
  field_mentions x o n t h =
      let k = subst DI (view_field x o n t) h in
      (counts_left (counts_of_designator (designator_view x)) (Shapes t ∷ []) k, (counts_right (counts_of_designator (designator_view x)) (Shapes t ∷ []) k).0)

  pub deref_mentions : (x : Designator) (at : Pos) (t : TypeRef) → DesignatorIn P (d.Deref x at t) → DesignatorIn P x × IsIn P t
  deref_mentions x at t h =
      let k = subst DI (view_deref x at t) h in
      (counts_left (counts_of_designator (designator_view x)) (Shapes t ∷ []) k, (counts_right (counts_of_designator (designator_view x)) (Shapes t ∷ []) k).0)

  pub guard_mentions : (x : Designator) (g : Guarded) (q : QName) (at : Pos) (t : TypeRef) → DesignatorIn P (d.Guard x g q at t) → DesignatorIn P x × (IsIn P t × P q)
  guard_mentions x g q at t h =
      let k = subst DI (view_guard x g q at t) h in
      let r = counts_right (counts_of_designator (designator_view x)) (Shapes t ∷ Shapes (ref.Named q) ∷ []) k in
      (counts_left (counts_of_designator (designator_view x)) (Shapes t ∷ Shapes (ref.Named q) ∷ []) k, (r.0, r.1.0))

  pub index_mentions : (x : Designator) (n : Option ℕ) (i : TypedExpr) (at : Pos) (t : TypeRef) → DesignatorIn P (d.Index x n i at t) → DesignatorIn P x × (ExprIn P i × IsIn P t)
  index_mentions x n i at t h =
      let k = subst DI (view_index x n i at t) h in
      let cs = counts_of_designator (designator_view x) in
      let ds = counts_of_expr (expr_view i) in
      let l = counts_left (cs ++ ds) (Shapes t ∷ Layouts t ∷ []) k in
      (counts_left cs ds l, (counts_right cs ds l, (counts_right (cs ++ ds) (Shapes t ∷ Layouts t ∷ []) k).0))

  -- ---- expressions

  pub value_of_mentions : (x : Designator) → ExprIn P (e.Designator x) → DesignatorIn P x
  value_of_mentions x h = subst EI (view_value_of x) h

  pub procedure_mentions : (q : QName) (s : Signature) → ExprIn P (e.Procedure q s) → SignatureIn P s
  procedure_mentions q s h = shapes_in (signature_types s) (subst EI (view_procedure_value q s) h)

  pub unary_mentions : (op : Unary) (x : TypedExpr) (at : Pos) → ExprIn P (e.Unary op x at) → ExprIn P x
  unary_mentions op x at h = subst EI (view_monadic op x at) h

  both_mention : (x y : TypedExpr) → CountsIn P (counts_of_expr (expr_view x) ++ counts_of_expr (expr_view y)) → ExprIn P x × ExprIn P y
  both_mention x y k = (counts_left (counts_of_expr (expr_view x)) (counts_of_expr (expr_view y)) k, counts_right (counts_of_expr (expr_view x)) (counts_of_expr (expr_view y)) k)

  pub binary_mentions : (op : Binary) (x y : TypedExpr) (at : Pos) → ExprIn P (e.Binary op x y at) → ExprIn P x × ExprIn P y
  binary_mentions op x y at h = both_mention x y (subst EI (view_dyadic op x y at) h)

  pub logical_mentions : (op : Connective) (x y : TypedExpr) → ExprIn P (e.Logical op x y) → ExprIn P x × ExprIn P y
  logical_mentions op x y h = both_mention x y (subst EI (view_logical op x y) h)

  pub texts_mention : (r : Comparison) (x y : TypedExpr) (at : Pos) → ExprIn P (e.CompareTexts r x y at) → ExprIn P x × ExprIn P y
  texts_mention r x y at h = both_mention x y (subst EI (view_compare_texts r x y at) h)

  pub is_pointer_mentions : (x : TypedExpr) (q : QName) → ExprIn P (e.IsPointer x q) → ExprIn P x × P q
  is_pointer_mentions x q h =
      let k = subst EI (view_is_pointer x q) h in
      (counts_left (counts_of_expr (expr_view x)) (Shapes (ref.Named q) ∷ []) k, (counts_right (counts_of_expr (expr_view x)) (Shapes (ref.Named q) ∷ []) k).0)

  pub is_record_mentions : (x : Designator) (q : QName) → ExprIn P (e.IsRecord x q) → DesignatorIn P x × P q
  is_record_mentions x q h =
      let k = subst EI (view_is_record x q) h in
      (counts_left (counts_of_designator (designator_view x)) (Shapes (ref.Named q) ∷ []) k, (counts_right (counts_of_designator (designator_view x)) (Shapes (ref.Named q) ∷ []) k).0)

  pub length_mentions : (x : Designator) → ExprIn P (e.Length x) → DesignatorIn P x
  length_mentions x h = subst EI (view_length x) h

  -- ---- values by their trees

  pub tree_mentions : (x : Valued) → ExprIn P (tree x) → ValuedIn P x
  tree_mentions (valued.Constant v) h = tt
  tree_mentions (valued.Place p) h = value_of_mentions p.designator.inner h
  tree_mentions (valued.Node n) h = h

  pub text_tree_mentions : (x : Valued) → ExprIn P (text_tree x) → ValuedIn P x
  text_tree_mentions (valued.Constant v) h = tt
  text_tree_mentions (valued.Place p) h = value_of_mentions p.designator.inner h
  text_tree_mentions (valued.Node n) h = h

  -- ---- types that are basic

  pub width_kind : (w : Width) → KindIn P (of_width w)
  width_kind width.ShortInt = tt
  width_kind width.Integer = tt
  width_kind width.LongInt = tt

  pub constant_kind : (c : Value) → KindIn P (constant_type c)
  constant_kind (literal.Bool b) = tt
  constant_kind (literal.Char c) = tt
  constant_kind (literal.Int (pos n)) = width_kind (smallest n)
  constant_kind (literal.Int (negsuc n)) = width_kind (smallest n)
  constant_kind (literal.Set s) = tt
  constant_kind (literal.Str s) = tt
  constant_kind literal.Nil = tt

  pub unary_kind : (op : Unary) → KindIn P (unary_type op)
  unary_kind (unary.Negate w) = width_kind w
  unary_kind unary.Not = tt
  unary_kind unary.Complement = tt
  unary_kind (unary.Abs w) = width_kind w
  unary_kind unary.Cap = tt
  unary_kind unary.Chr = tt
  unary_kind (unary.Long w) = width_kind w
  unary_kind unary.Odd = tt
  unary_kind unary.Ord = tt
  unary_kind (unary.Short w) = width_kind w
  unary_kind unary.Element = tt

  pub binary_kind : (op : Binary) → KindIn P (binary_type op)
  binary_kind (binary.Add w) = width_kind w
  binary_kind (binary.Subtract w) = width_kind w
  binary_kind (binary.Multiply w) = width_kind w
  binary_kind (binary.Quotient w) = width_kind w
  binary_kind (binary.Remainder w) = width_kind w
  binary_kind binary.Union = tt
  binary_kind binary.Difference = tt
  binary_kind binary.Intersection = tt
  binary_kind binary.SymmetricDifference = tt
  binary_kind binary.Range = tt
  binary_kind binary.In = tt
  binary_kind binary.Ash = tt
  binary_kind (binary.Compare r c) = tt
