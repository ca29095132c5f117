-- How many lines a chain has: those of its last link, and those of what stands in front of it; and one turn along it, in lines and
-- in depth.
use Rattle.std.proofs.Common.{◌≡◌, ◌≤◌, ℕ, suc, ◌+◌, List, Option, arith, refl, ap, ◌∙◌}
use Rattle.ob_tree.specs.declared.pos.Pos.{Pos}
use Rattle.ob_tree.specs.declared.names.QName.{QName}
use Rattle.ob_types.specs.declared.types.TypeRef.{TypeRef}
use Rattle.ob_types.specs.declared.typed.Guarded.{Guarded}
use Rattle.ob_types.specs.declared.typed.Binary.{Binary}
use Rattle.ob_types.specs.declared.typed.Connective.{Connective}
use Rattle.ob_types.specs.declared.typed.Designator.{Designator, size-Designator}
use Rattle.ob_types.specs.declared.typed.Designator.TheViews.{sized-Field, sized-Index, sized-Deref, sized-Guard, sized-Binary, sized-Logical}
use Rattle.ob_types.specs.declared.typed.Designator.TheVariants as d
use Rattle.ob_types.specs.declared.typed.TypedExpr.{TypedExpr, size-TypedExpr}
use Rattle.ob_types.specs.declared.typed.TypedExpr.TheVariants as e
use Rattle.ob_types.specs.TypedSyntax.{Desig, Field, Index, Deref, Guard, Expr, Dyadic, Logical}
use Rattle.ob_types.specs.TypedView.{designator_view, expr_view}
use Rattle.ob_types.proofs.TypedViews.{view_field, view_index, view_deref, view_guard, view_dyadic, view_logical}
use Rattle.ob_scheme.specs.declared.want.Want.{Want}
use Rattle.ob_scheme.specs.declared.want.Want.TheVariants as want
use Rattle.ob_scheme.specs.Lines.{behind}
use Rattle.ob_scheme.specs.Context.{Context}
use Rattle.ob_scheme.specs.Descriptions.{elements_of}
use Rattle.ob_scheme.specs.Expressions.{index_want, guard_want, from_guard, from_place, end_desig, end_expr}
use Rattle.ob_gstmt_labels.specs.Sizes.{place_size, pointer_size, guard_size, between, joined}
use Rattle.ob_gstmt_labels.proofs.Behinds.{place_behind, pointer_behind, guard_behind, logical_ends}
use Rattle.ob_gstmt_labels.proofs.Shifts.{desig_shifts, expr_shifts}

-- ---- what a link stands on is no deeper than any bound of the link

pub field_within : (rest x y : Designator) (owner : QName) (name : List ℕ) (t : TypeRef) (n : ℕ) → rest ≡ d.Field x owner name t → y ≡ x → size-Designator rest ≤ n → size-Designator y ≤ n
field_within rest x y owner name t n is first h = grind (arith, sized-Field, is, first, h)

pub index_within : (rest x y : Designator) (l : Option ℕ) (i : TypedExpr) (at : Pos) (t : TypeRef) (n : ℕ) → rest ≡ d.Index x l i at t → y ≡ x → size-Designator rest ≤ n → size-Designator y ≤ n
index_within rest x y l i at t n is first h = grind (arith, sized-Index, is, first, h)

pub deref_within : (rest x y : Designator) (at : Pos) (t : TypeRef) (n : ℕ) → rest ≡ d.Deref x at t → y ≡ x → size-Designator rest ≤ n → size-Designator y ≤ n
deref_within rest x y at t n is first h = grind (arith, sized-Deref, is, first, h)

pub guard_within : (rest x y : Designator) (g : Guarded) (target : QName) (at : Pos) (t : TypeRef) (n : ℕ) → rest ≡ d.Guard x g target at t → y ≡ x → size-Designator rest ≤ n → size-Designator y ≤ n
guard_within rest x y g target at t n is first h = grind (arith, sized-Guard, is, first, h)

pub binary_within : (rest x y i : TypedExpr) (o : Binary) (at : Pos) (n : ℕ) → rest ≡ e.Binary o x i at → y ≡ x → size-TypedExpr rest ≤ n → size-TypedExpr y ≤ n
binary_within rest x y i o at n is first h = grind (arith, sized-Binary, is, first, h)

pub logical_within : (rest x y i : TypedExpr) (o : Connective) (n : ℕ) → rest ≡ e.Logical o x i → y ≡ x → size-TypedExpr rest ≤ n → size-TypedExpr y ≤ n
logical_within rest x y i o n is first h = grind (arith, sized-Logical, is, first, h)

-- ---- lines

-- the end of what stands in front of a link, counted behind the lines of the link
carried : (a k r m n end end' whole : ℕ) → m ≡ end' + a → r ≡ a + k → n ≡ end + r → end' ≡ end + k → n ≡ whole → m ≡ whole
carried a k r m n end end' whole f g h i inv = omega (arith, f, g, h, i, inv)

carried_over : (a b k r m n end line end' whole : ℕ) → m ≡ end' + a → r ≡ a + b + k → n ≡ end + r → line ≡ end + b → end' ≡ line + k → n ≡ whole → m ≡ whole
carried_over a b k r m n end line end' whole f g h i j inv = omega (arith, f, g, h, i, j, inv)

carried_between : (a p b q r m n end start line end' whole : ℕ) → m ≡ end' + a → r ≡ a + p + b + q → n ≡ end + r → start ≡ end + p → line ≡ start + b → end' ≡ line + q → n ≡ whole → m ≡ whole
carried_between a p b q r m n end start line end' whole f g h i j k inv = omega (arith, f, g, h, i, j, k, inv)

module _ (c : Context) where
  desig_from : (w : Want) (x : Designator) (n : ℕ) → end_desig c w (designator_view x) n ≡ n + end_desig c w (designator_view x) 0
  desig_from w x n = desig_shifts c w (designator_view x) n

  expr_from : (w : Want) (x : TypedExpr) (n : ℕ) → end_expr c w (expr_view x) n ≡ n + end_expr c w (expr_view x) 0
  expr_from w x n = expr_shifts c w (expr_view x) n

  field_of : (w : Want) (v : Desig) (owner : QName) (name : List ℕ) (t : TypeRef) → end_desig c w (Field v owner name t) 0 ≡ end_desig c want.Place v 0 + (place_size w + 1)
  field_of w v owner name t =
      let r = end_desig c want.Place v 0 in
      let k : behind (from_place c w t) (suc r) ≡ suc r + place_size w = place_behind c w t (suc r) in
      k ∙ omega arith

  field_lines : (w : Want) (x : Designator) (owner : QName) (name : List ℕ) (t : TypeRef) → end_desig c w (designator_view (d.Field x owner name t)) 0 ≡ end_desig c want.Place (designator_view x) 0 + (place_size w + 1)
  field_lines w x owner name t = ap (λ v. end_desig c w v 0) (view_field x owner name t) ∙ field_of w (designator_view x) owner name t

  index_of : (w : Want) (v : Desig) (n : Option ℕ) (i : Expr) (at : Pos) (t : TypeRef) → end_desig c w (Index v n i at t) 0 ≡ end_desig c (index_want n) v 0 + end_expr c want.Value i 0 + (place_size w + 1)
  index_of w v n i at t =
      let r = end_desig c (index_want n) v 0 in
      let s = end_expr c want.Value i r in
      let k : behind (from_place c w t) (suc s) ≡ suc s + place_size w = place_behind c w t (suc s) in
      let m : s ≡ r + end_expr c want.Value i 0 = expr_shifts c want.Value i r in
      k ∙ omega (arith, m)

  index_lines : (w : Want) (x : Designator) (n : Option ℕ) (i : TypedExpr) (at : Pos) (t : TypeRef) → end_desig c w (designator_view (d.Index x n i at t)) 0 ≡ end_desig c (index_want n) (designator_view x) 0 + end_expr c want.Value (expr_view i) 0 + (place_size w + 1)
  index_lines w x n i at t = ap (λ v. end_desig c w v 0) (view_index x n i at t) ∙ index_of w (designator_view x) n (expr_view i) at t

  deref_of : (w : Want) (v : Desig) (at : Pos) (t : TypeRef) → end_desig c w (Deref v at t) 0 ≡ end_desig c want.Value v 0 + pointer_size w (elements_of c.types t)
  deref_of w v at t = pointer_behind c w t at (end_desig c want.Value v 0)

  deref_lines : (w : Want) (x : Designator) (at : Pos) (t : TypeRef) → end_desig c w (designator_view (d.Deref x at t)) 0 ≡ end_desig c want.Value (designator_view x) 0 + pointer_size w (elements_of c.types t)
  deref_lines w x at t = ap (λ v. end_desig c w v 0) (view_deref x at t) ∙ deref_of w (designator_view x) at t

  guard_of : (w : Want) (v : Desig) (g : Guarded) (target : QName) (at : Pos) (t : TypeRef) → end_desig c w (Guard v g target at t) 0 ≡ end_desig c (guard_want g w) v 0 + (guard_size g w + 1)
  guard_of w v g target at t =
      let r = end_desig c (guard_want g w) v 0 in
      let k : behind (from_guard c g w t) (suc r) ≡ suc r + guard_size g w = guard_behind c g w t (suc r) in
      k ∙ omega arith

  guard_lines : (w : Want) (x : Designator) (g : Guarded) (target : QName) (at : Pos) (t : TypeRef) → end_desig c w (designator_view (d.Guard x g target at t)) 0 ≡ end_desig c (guard_want g w) (designator_view x) 0 + (guard_size g w + 1)
  guard_lines w x g target at t = ap (λ v. end_desig c w v 0) (view_guard x g target at t) ∙ guard_of w (designator_view x) g target at t

  dyadic_of : (w : Want) (o : Binary) (a b : Expr) (at : Pos) → end_expr c w (Dyadic o a b at) 0 ≡ end_expr c want.Value a 0 + end_expr c want.Value b 0 + 1
  dyadic_of w o a b at =
      let r = end_expr c want.Value a 0 in
      let m : end_expr c want.Value b r ≡ r + end_expr c want.Value b 0 = expr_shifts c want.Value b r in
      ap (λ n. suc n) m ∙ omega arith

  dyadic_lines : (w : Want) (o : Binary) (x y : TypedExpr) (at : Pos) → end_expr c w (expr_view (e.Binary o x y at)) 0 ≡ end_expr c want.Value (expr_view x) 0 + end_expr c want.Value (expr_view y) 0 + 1
  dyadic_lines w o x y at = ap (λ v. end_expr c w v 0) (view_dyadic o x y at) ∙ dyadic_of w o (expr_view x) (expr_view y) at

  logical_of : (w : Want) (o : Connective) (a b : Expr) → end_expr c w (Logical o a b) 0 ≡ end_expr c want.Value a 0 + between o + end_expr c want.Value b 0 + joined o
  logical_of w o a b =
      let r = end_expr c want.Value a 0 in
      let s = end_expr c want.Value b (r + between o) in
      let k = logical_ends c w o a b 0 r s refl refl in
      let m : s ≡ (r + between o) + end_expr c want.Value b 0 = expr_shifts c want.Value b (r + between o) in
      k ∙ ap (λ n. n + joined o) m

  logical_lines : (w : Want) (o : Connective) (x y : TypedExpr) → end_expr c w (expr_view (e.Logical o x y)) 0 ≡ end_expr c want.Value (expr_view x) 0 + between o + end_expr c want.Value (expr_view y) 0 + joined o
  logical_lines w o x y = ap (λ v. end_expr c w v 0) (view_logical o x y) ∙ logical_of w o (expr_view x) (expr_view y)

  -- ---- one turn of the loop along a chain, over what is known there

  pub field_turn : (w : Want) (rest x y : Designator) (owner : QName) (name : List ℕ) (t : TypeRef) (end p end' whole : ℕ)
      → rest ≡ d.Field x owner name t → y ≡ x → end' ≡ end + (p + 1) → p ≡ place_size w
      → end_desig c w (designator_view rest) end ≡ whole → end_desig c want.Place (designator_view y) end' ≡ whole
  field_turn w rest x y owner name t end p end' whole is first h k inv =
      ap (λ z. end_desig c want.Place (designator_view z) end') first
      ∙ carried (end_desig c want.Place (designator_view x) 0) (place_size w + 1) (end_desig c w (designator_view rest) 0) (end_desig c want.Place (designator_view x) end') (end_desig c w (designator_view rest) end) end end' whole
      (desig_from want.Place x end') (ap (λ z. end_desig c w (designator_view z) 0) is ∙ field_lines w x owner name t) (desig_from w rest end) (h ∙ ap (λ z. end + (z + 1)) k) inv

  pub index_turn : (w v : Want) (rest x y : Designator) (n : Option ℕ) (i j : TypedExpr) (at : Pos) (t : TypeRef) (end line p end' whole : ℕ)
      → rest ≡ d.Index x n i at t → y ≡ x → j ≡ i → v ≡ index_want n → end' ≡ line + (p + 1) → p ≡ place_size w → line ≡ end_expr c want.Value (expr_view j) end
      → end_desig c w (designator_view rest) end ≡ whole → end_desig c v (designator_view y) end' ≡ whole
  index_turn w v rest x y n i j at t end line p end' whole is first second how h k l inv =
      ap (λ z. end_desig c v (designator_view z) end') first
      ∙ ap (λ z. end_desig c z (designator_view x) end') how
      ∙ carried_over (end_desig c (index_want n) (designator_view x) 0) (end_expr c want.Value (expr_view i) 0) (place_size w + 1) (end_desig c w (designator_view rest) 0) (end_desig c (index_want n) (designator_view x) end') (end_desig c w (designator_view rest) end) end line end' whole
      (desig_from (index_want n) x end') (ap (λ z. end_desig c w (designator_view z) 0) is ∙ index_lines w x n i at t) (desig_from w rest end)
      (l ∙ ap (λ z. end_expr c want.Value (expr_view z) end) second ∙ expr_from want.Value i end) (h ∙ ap (λ z. line + (z + 1)) k) inv

  pub deref_turn : (w : Want) (rest x y : Designator) (at : Pos) (t : TypeRef) (end k end' whole : ℕ)
      → rest ≡ d.Deref x at t → y ≡ x → end' ≡ end + k → k ≡ pointer_size w (elements_of c.types t)
      → end_desig c w (designator_view rest) end ≡ whole → end_desig c want.Value (designator_view y) end' ≡ whole
  deref_turn w rest x y at t end k end' whole is first h i inv =
      ap (λ z. end_desig c want.Value (designator_view z) end') first
      ∙ carried (end_desig c want.Value (designator_view x) 0) (pointer_size w (elements_of c.types t)) (end_desig c w (designator_view rest) 0) (end_desig c want.Value (designator_view x) end') (end_desig c w (designator_view rest) end) end end' whole
      (desig_from want.Value x end') (ap (λ z. end_desig c w (designator_view z) 0) is ∙ deref_lines w x at t) (desig_from w rest end) (h ∙ ap (λ z. end + z) i) inv

  pub guard_turn : (w v : Want) (rest x y : Designator) (g : Guarded) (target : QName) (at : Pos) (t : TypeRef) (end k end' whole : ℕ)
      → rest ≡ d.Guard x g target at t → y ≡ x → v ≡ guard_want g w → end' ≡ end + (k + 1) → k ≡ guard_size g w
      → end_desig c w (designator_view rest) end ≡ whole → end_desig c v (designator_view y) end' ≡ whole
  guard_turn w v rest x y g target at t end k end' whole is first how h i inv =
      ap (λ z. end_desig c v (designator_view z) end') first
      ∙ ap (λ z. end_desig c z (designator_view x) end') how
      ∙ carried (end_desig c (guard_want g w) (designator_view x) 0) (guard_size g w + 1) (end_desig c w (designator_view rest) 0) (end_desig c (guard_want g w) (designator_view x) end') (end_desig c w (designator_view rest) end) end end' whole
      (desig_from (guard_want g w) x end') (ap (λ z. end_desig c w (designator_view z) 0) is ∙ guard_lines w x g target at t) (desig_from w rest end) (h ∙ ap (λ z. end + (z + 1)) i) inv

  pub binary_turn : (w : Want) (rest x y i j : TypedExpr) (o : Binary) (at : Pos) (end line end' whole : ℕ)
      → rest ≡ e.Binary o x i at → y ≡ x → j ≡ i → end' ≡ line + 1 → line ≡ end_expr c want.Value (expr_view j) end
      → end_expr c w (expr_view rest) end ≡ whole → end_expr c want.Value (expr_view y) end' ≡ whole
  binary_turn w rest x y i j o at end line end' whole is first second h l inv =
      ap (λ z. end_expr c want.Value (expr_view z) end') first
      ∙ carried_over (end_expr c want.Value (expr_view x) 0) (end_expr c want.Value (expr_view i) 0) 1 (end_expr c w (expr_view rest) 0) (end_expr c want.Value (expr_view x) end') (end_expr c w (expr_view rest) end) end line end' whole
      (expr_from want.Value x end') (ap (λ z. end_expr c w (expr_view z) 0) is ∙ dyadic_lines w o x i at) (expr_from w rest end)
      (l ∙ ap (λ z. end_expr c want.Value (expr_view z) end) second ∙ expr_from want.Value i end) h inv

  pub logical_turn : (w : Want) (rest x y i j : TypedExpr) (o : Connective) (end p start line q end' whole : ℕ)
      → rest ≡ e.Logical o x i → y ≡ x → j ≡ i → end' ≡ line + q → q ≡ joined o → line ≡ end_expr c want.Value (expr_view j) start → start ≡ end + p → p ≡ between o
      → end_expr c w (expr_view rest) end ≡ whole → end_expr c want.Value (expr_view y) end' ≡ whole
  logical_turn w rest x y i j o end p start line q end' whole is first second h after l k before inv =
      ap (λ z. end_expr c want.Value (expr_view z) end') first
      ∙ carried_between (end_expr c want.Value (expr_view x) 0) (between o) (end_expr c want.Value (expr_view i) 0) (joined o) (end_expr c w (expr_view rest) 0) (end_expr c want.Value (expr_view x) end') (end_expr c w (expr_view rest) end) end start line end' whole
      (expr_from want.Value x end') (ap (λ z. end_expr c w (expr_view z) 0) is ∙ logical_lines w o x i) (expr_from w rest end)
      (k ∙ ap (λ z. end + z) before) (l ∙ ap (λ z. end_expr c want.Value (expr_view z) start) second ∙ expr_from want.Value i start) (h ∙ ap (λ z. line + z) after) inv
