-- Along a chain of selectors or operators: the lines so far, and the rest.
use Rattle.std.proofs.Common.{◌≡◌, ℕ, ◌+◌, sym, ap, ◌∙◌, Option, arith}
use Rattle.ob_tree.specs.declared.pos.Pos.{Pos}
use Rattle.ob_tree.specs.declared.names.QName.{QName}
use Rattle.ob_types.specs.declared.types.TypeRef.{TypeRef}
use Rattle.ob_types.specs.declared.desc.Desc.{Desc}
use Rattle.ob_types.specs.declared.typed.Variable.{Variable}
use Rattle.ob_types.specs.declared.typed.Binary.{Binary}
use Rattle.ob_types.specs.declared.typed.Connective.{Connective}
use Rattle.ob_types.specs.declared.typed.Designator.{Designator}
use Rattle.ob_types.specs.declared.typed.Designator.TheVariants as d
use Rattle.ob_types.specs.declared.typed.TypedExpr.{TypedExpr}
use Rattle.ob_types.specs.declared.typed.TypedExpr.TheVariants as e
use Rattle.ob_types.specs.TypedView.{designator_view, expr_view}
use Rattle.ob_types.proofs.TypedViews.{view_variable, view_index, view_dyadic, view_logical}
use Rattle.ob_scheme.specs.declared.want.Want.{Want}
use Rattle.ob_scheme.specs.declared.want.Want.TheVariants as want
use Rattle.ob_scheme.specs.Expressions.{index_want}
use Rattle.ob_gstmt_labels.specs.Sizes.{place_size, variable_size, between, joined}
use Rattle.ob_gproc_length.specs.Lengths.{capped, desig_lines, expr_lines}

-- a link that has lines of its own
pub behind : (a k lines lines' whole : ℕ) → lines' ≡ capped (lines + k) → capped (lines + (a + k)) ≡ whole → capped (lines' + a) ≡ whole
behind a k lines lines' whole h inv = omega (arith, h, inv)

-- a link that has a part, and lines behind it
part_behind : (a b k lines n u lines' whole : ℕ) → lines' ≡ capped (lines + u) → u ≡ capped (n + k) → n ≡ capped b → capped (lines + (a + (b + k))) ≡ whole → capped (lines' + a) ≡ whole
part_behind a b k lines n u lines' whole h i j inv =
    let part : u ≡ capped (b + k) = omega (arith, i, j) in
    omega (arith, h, part, inv)

-- what has been counted so far, and a last part
last_part : (a lines n r whole : ℕ) → r ≡ capped (lines + n) → n ≡ capped a → capped (lines + a) ≡ whole → r ≡ whole
last_part a lines n r whole h i inv = omega (arith, h, i, inv)

module _ (types : QName → Option Desc) where
  -- the variable at which a chain ends
  pub variable_over : (v w : Want) (whole rest : Designator) (x : Variable) (t : TypeRef) (lines n r : ℕ)
      → rest ≡ d.Variable x t → capped (lines + desig_lines types w (designator_view rest)) ≡ capped (desig_lines types v (designator_view whole))
      → r ≡ capped (lines + n) → n ≡ variable_size w x → r ≡ capped (desig_lines types v (designator_view whole))
  variable_over v w whole rest x t lines n r is inv h i =
      h ∙ ap (λ z. capped (lines + z)) i ∙ ap (λ z. capped (lines + desig_lines types w z)) (sym (ap designator_view is ∙ view_variable x t)) ∙ inv

  -- an index, and the lines behind it
  pub index_turn : (w v : Want) (rest x y : Designator) (l : Option ℕ) (i j : TypedExpr) (at : Pos) (t : TypeRef) (lines n p u lines' whole : ℕ)
      → rest ≡ d.Index x l i at t → y ≡ x → j ≡ i → v ≡ index_want l
      → lines' ≡ capped (lines + u) → u ≡ capped (n + (p + 1)) → p ≡ place_size w → n ≡ capped (expr_lines types want.Value (expr_view j))
      → capped (lines + desig_lines types w (designator_view rest)) ≡ whole → capped (lines' + desig_lines types v (designator_view y)) ≡ whole
  index_turn w v rest x y l i j at t lines n p u lines' whole is first second how f g h k inv =
      ap (λ z. capped (lines' + desig_lines types v (designator_view z))) first
      ∙ ap (λ z. capped (lines' + desig_lines types z (designator_view x))) how
      ∙ part_behind (desig_lines types (index_want l) (designator_view x)) (expr_lines types want.Value (expr_view i)) (place_size w + 1) lines n u lines' whole f
      (g ∙ ap (λ z. capped (n + (z + 1))) h) (k ∙ ap (λ z. capped (expr_lines types want.Value (expr_view z))) second)
      (ap (λ z. capped (lines + desig_lines types w z)) (sym (ap designator_view is ∙ view_index x l i at t)) ∙ inv)

  -- an operator and its right operand
  pub binary_turn : (w : Want) (rest x y i j : TypedExpr) (op : Binary) (at : Pos) (lines n u lines' whole : ℕ)
      → rest ≡ e.Binary op x i at → y ≡ x → j ≡ i
      → lines' ≡ capped (lines + u) → u ≡ capped (n + 1) → n ≡ capped (expr_lines types want.Value (expr_view j))
      → capped (lines + expr_lines types w (expr_view rest)) ≡ whole → capped (lines' + expr_lines types want.Value (expr_view y)) ≡ whole
  binary_turn w rest x y i j op at lines n u lines' whole is first second f g h inv =
      ap (λ z. capped (lines' + expr_lines types want.Value (expr_view z))) first
      ∙ part_behind (expr_lines types want.Value (expr_view x)) (expr_lines types want.Value (expr_view i)) 1 lines n u lines' whole f g (h ∙ ap (λ z. capped (expr_lines types want.Value (expr_view z))) second)
      (ap (λ z. capped (lines + expr_lines types w z)) (sym (ap expr_view is ∙ view_dyadic op x i at)) ∙ inv)

  -- a connective and its right operand
  pub logical_turn : (w : Want) (rest x y i j : TypedExpr) (op : Connective) (lines n p q u lines' whole : ℕ)
      → rest ≡ e.Logical op x i → y ≡ x → j ≡ i
      → lines' ≡ capped (lines + u) → u ≡ capped (n + (p + q)) → p ≡ between op → q ≡ joined op → n ≡ capped (expr_lines types want.Value (expr_view j))
      → capped (lines + expr_lines types w (expr_view rest)) ≡ whole → capped (lines' + expr_lines types want.Value (expr_view y)) ≡ whole
  logical_turn w rest x y i j op lines n p q u lines' whole is first second f g before after h inv =
      ap (λ z. capped (lines' + expr_lines types want.Value (expr_view z))) first
      ∙ part_behind (expr_lines types want.Value (expr_view x)) (expr_lines types want.Value (expr_view i)) (between op + joined op) lines n u lines' whole f
      (g ∙ ap (λ z. capped (n + (z + q))) before ∙ ap (λ z. capped (n + (between op + z))) after) (h ∙ ap (λ z. capped (expr_lines types want.Value (expr_view z))) second)
      (ap (λ z. capped (lines + expr_lines types w z)) (sym (ap expr_view is ∙ view_logical op x i)) ∙ inv)

  -- the expression at which a chain ends
  pub chain_over : (v w : Want) (whole rest : TypedExpr) (lines n r : ℕ)
      → capped (lines + expr_lines types w (expr_view rest)) ≡ capped (expr_lines types v (expr_view whole))
      → r ≡ capped (lines + n) → n ≡ capped (expr_lines types w (expr_view rest)) → r ≡ capped (expr_lines types v (expr_view whole))
  chain_over v w whole rest lines n r inv h i = last_part (expr_lines types w (expr_view rest)) lines n r (capped (expr_lines types v (expr_view whole))) h i inv
