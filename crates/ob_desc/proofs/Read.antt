-- What two texts spell is read.
use Rattle.std.proofs.Common.{◌≡◌, ℕ, List, Option, Some, sym, ap, ◌∙◌}
use Rattle.ob_tree.specs.declared.names.QName.{QName}
use Rattle.ob_types.specs.declared.desc.Desc.{Desc}
use Rattle.ob_desc.specs.Grammar.{description_at, IsSpelled, shape_text, layout_text}
use Rattle.ob_desc.specs.Laws.{description_again}

pub again_here : (s : List ℕ) (l : Option (List ℕ)) (o : Option (QName × Desc)) → description_at s l ≡ o → (q : QName) (d : Desc) → IsSpelled q d → s ≡ shape_text q d → l ≡ layout_text q d → o ≡ Some (q, d)
again_here s l o read q d fits shape layout = sym read ∙ ap (λ (t : List ℕ). description_at t l) shape ∙ ap (λ (t : Option (List ℕ)). description_at (shape_text q d) t) layout ∙ description_again q d fits
