-- What is among the needs of a module.
use Rattle.std.proofs.Common.{◌≡◌, ℕ, List, ◌++◌, ap, ◌∙◌}
use Rattle.std.specs.Prelude.{◌||◌, ◌&&◌}
use Rattle.ob_link.specs.Walk.{has}
use Rattle.ob_make.specs.Seen.{Seen, needs, is_needed, object_needs, symbol_needs, source_needs}
use Rattle.ob_make.proofs.Names.{has_joined, has_filter}

pub needs_are_all : {K : Type 0} (s : Seen K) (x n : List ℕ) → has n (needs s x) ≡ (is_needed x n && (has n (object_needs (s.object x)) || (has n (symbol_needs (s.symbols x)) || has n (source_needs (s.source x)))))
needs_are_all s x n =
    has_filter (is_needed x) n (object_needs (s.object x) ++ (symbol_needs (s.symbols x) ++ source_needs (s.source x)))
    ∙ ap (λ b. is_needed x n && b) (has_joined n (object_needs (s.object x)) (symbol_needs (s.symbols x) ++ source_needs (s.source x))
    ∙ ap (λ b. has n (object_needs (s.object x)) || b) (has_joined n (symbol_needs (s.symbols x)) (source_needs (s.source x))))
