use Rattle.std.proofs.Common.{◌≡◌, ◌∙◌, ◌+◌, [], ◌∷◌, ◌++◌, ap, sym, arith, rules, FitsSigned, w32}
use Rattle.std.specs.Prelude.{slice_get}
use Rattle.std.proofs.lemmas.Int.{to_z-of_z}
use Rattle.ob_instr.specs.Rows.{low_byte}
use Rattle.ob_machine_loop.proofs.Chars.{one_more}
use Rattle.ob_machine_loop.proofs.print.put_text.Goals as goal

pub chars-preserved : goal.chars-preserved
chars-preserved g c =
    let i = c.chars.invariant in
    let e = c.in_ok-put_char.ensures in
    let later = e.cause.later in
    let more = c.chars-test.true in
    let fits : FitsSigned w32 c.in-Some.word = search rules in
    let start = c.from.ensures in
    let index = c.from-in-chars.ensures in
    let place : c.from.result + c.from-in-chars.result ≡ c.args.start + c.chars.i = omega (arith, start, index) in
    let there = ap (λ k. slice_get c.args.words.now.words k) (sym place) ∙ c.in-Some.ensures in
    let same = ap (λ z. g.S.Sink.taken c.chars.out ++ low_byte z ∷ []) (to_z-of_z w32 c.in-Some.word fits) in
    (omega (arith, more), e.told ∙ i.1, λ t. one_more (g.S.Sink.taken c.args.out.now) (g.S.Sink.taken c.chars.out) (g.S.Sink.taken c.put_char.new.out) c.args.words.now.words c.args.start c.chars.i c.in-Some.word there (i.2 t) (e.bytes (i.1 ∙ t) ∙ same), omega (arith, i.3, later))
