-- A literal within its limit.
use Rattle.std.proofs.Common.{◌≡◌, refl, sym, ap, ◌∙◌, Bool, true, false, Option, Some, None}
use Rattle.ob_tree.specs.declared.pos.Pos.{Pos}
use Rattle.ob_types.specs.declared.value.Value.{Value}
use Rattle.ob_rules.specs.declared.values.Valued.{Valued}
use Rattle.ob_rules.specs.declared.notes.Notebook.{Notebook}
use Rattle.ob_rules.specs.declared.broken.Rule.TheVariants as rule
use Rattle.ob_rules.specs.Constants.{when}
use Rattle.ob_rules.specs.Values.{constant}
use Rattle.ob_rules.specs.Judged.{Judged, wants}
use Rattle.ob_rules.specs.Books.{book_after}
use Rattle.ob_cexpr_operand.specs.Plain.{literal_judged}

within : (b : Bool) (v : Value) (at : Pos) → literal_judged at (when b v) ≡ wants b rule.LiteralTooLarge at (constant v)
within true v at = refl
within false v at = refl

pub literal_node : (b : Bool) (v : Value) (at : Pos) (o : Option Value) (r : Option Valued) → o ≡ when b v → r ≡ (literal_judged at o).node → r ≡ (wants b rule.LiteralTooLarge at (constant v)).node
literal_node b v at o r e f = f ∙ ap (λ x. (literal_judged at x).node) e ∙ ap (λ j. j.node) (within b v at)

pub literal_noted : (b : Bool) (v : Value) (at : Pos) (o : Option Value) (k l : Notebook) → o ≡ when b v → l ≡ book_after k (literal_judged at o).notes → l ≡ book_after k (wants b rule.LiteralTooLarge at (constant v)).notes
literal_noted b v at o k l e f = f ∙ ap (λ x. book_after k (literal_judged at x).notes) e ∙ ap (λ j. book_after k j.notes) (within b v at)
