use Rattle.std.proofs.Common.{◌≡◌, drop}
use Rattle.std.specs.Prelude.{map as each}
use Rattle.std.specs.List.{list_any}
use Rattle.ob_types.specs.TypedView.{procedure_view}
use Rattle.ob_layout.specs.Words.{words_of, most_words}
use Rattle.ob_layout.specs.Room.{above, frame_words}
use Rattle.ob_layout.proofs.limits.has_large_frame.Given as goal

abbrev pub invariant-procedures : goal.invariant-procedures
invariant-procedures g l =
    list_any (λ p. above most_words (frame_words (words_of (g.T.Types.types l.types)) p)) (each procedure_view (drop l.procedure-index l.procedures))
    ≡ list_any (λ p. above most_words (frame_words (words_of (g.T.Types.types l.types)) p)) (each procedure_view l.procedures)
