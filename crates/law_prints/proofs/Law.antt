-- Compiles by prints and by texts are alike.
use Rattle.std.proofs.Common.{◌≡◌, ℕ, true, List, [], ◌∷◌, Result, Ok, Err, refl, sym, subst}
use Rattle.std.specs.Prelude.{map as each}
use Rattle.std.specs.List.{AllByRecursion}
use Rattle.ob_tree.specs.declared.print.Print.{Print}
use Rattle.ob_compile_model.specs.Compiling.{Refusal, Compiled, compiled, texts, imported}
use Rattle.law_prints.specs.Printed.{Text, result_printed}
use Rattle.law_prints.specs.Alike.{ComeToTheSame, CompilesAlike, CompilesAlikeAmong}
use Rattle.law_prints.proofs.Walking.{Known}
use Rattle.law_prints.proofs.Made.{bytes_same}
use Rattle.law_prints.proofs.Whole.{IsKnown, compiled_gives}

all_so : {A : Type 0} (xs : List A) → AllByRecursion (λ x. true ≡ true) xs
all_so [] = tt
all_so (x ∷ xs) = (refl, all_so xs)

same_by : (r : Result (Compiled Text) (Refusal Text)) → ComeToTheSame (result_printed r) r
same_by (Ok d) = record { tree = refl; against = refl; shows = refl; object = bytes_same d; symbol = refl }
same_by (Err q) = refl

pub alike_among : CompilesAlikeAmong
alike_among test finds files source looked same told =
    let N : List ℕ → Type 0 = λ m. test m ≡ true in
    let known : Known N (IsKnown N) finds files = record { same = same; holds = λ m f n e. looked.further m f n e; imports = λ f k. k } in
    subst (λ (r : Result (Compiled Print) (Refusal Print)). ComeToTheSame r (compiled texts finds source)) (sym (compiled_gives N finds files known source looked.first told)) (same_by (compiled texts finds source))

pub alike : CompilesAlike
alike finds files source same told =
    alike_among (λ m. true) finds files source
    (record { first = λ text tree e r. all_so (each imported tree.imports); further = λ m f n e. all_so f.imports })
    (λ m n. same m)
    told
