-- The bodies of what compiles have a spelling.
use Rattle.std.proofs.Common.{◌≡◌, ℕ, ◌<◌, ◌^◌, true, List, length, map, Option, Ok, subst, arith}
use Rattle.std.specs.Prelude.{nat_le, bytes_eq}
use Rattle.std.specs.List.{AllByRecursion, IsDistinct}
use Rattle.std.proofs.lemmas.Bool.{leb-true}
use Rattle.ob_types.specs.TypedView.{module_view}
use Rattle.ob_layout.specs.LaidOut.{viewed}
use Rattle.ob_env.specs.Faces.{Face, described}
use Rattle.ob_env.specs.Shown.{shown}
use Rattle.ob_env_walk.specs.Walk.{Entry}
use Rattle.ob_compile_model.specs.Compiling.{Compiled, texts, compiled, most_source}
use Rattle.law_body_context.specs.ConstantLaws.{AreShown}
use Rattle.law_spelling.specs.Laws.{Text, IsSpelled}
use Rattle.law_spelling.specs.Seen.{AreNamedEntries}
use Rattle.law_spelling_stmts.specs.Laws.{AreCoded}
use Rattle.law_spelling_stmts.proofs.Modules.{names_are_coded}
use Rattle.law_spelling_stmts.specs.FitLaws.{AreInRange, AreBounded}
use Rattle.law_spelling_stmts.proofs.Whole.{modules_fit}
use Rattle.law_spelling_values.proofs.Shown.{spelled_shown}
use Rattle.law_spelling_values.proofs.Compiled.{compiled_is}
use Rattle.law_spelling_values.proofs.Outward.{laid_differ}
use Rattle.law_lists.proofs.Lists.{less}

-- a source is no longer than 2^20
few : (n : ℕ) → nat_le n most_source ≡ true → n < 2 ^ 30
few n e = let l = leb-true n most_source e in omega (arith, l)

ranges : (faces : List (Face Text)) → AllByRecursion IsSpelled faces → AreInRange (shown faces)
ranges faces h =
    let r : AreShown (shown faces) = spelled_shown faces h in
    record { constants = r.constants; lengths = λ q m n t e. less n (2 ^ 31) (r.lengths q m n t e) }

abbrev Coded : Compiled Text → Type 0
Coded d = AllByRecursion IsSpelled d.against → IsDistinct bytes_eq (map (λ t. t.name) d.tree.types) → AreBounded (viewed (described d.against) d.tree) d.tree → AreCoded (viewed (described d.against) d.tree) d.tree

pub compiled_coded : (entry : List ℕ → Entry Text) → AreNamedEntries entry → (source : Option (List ℕ)) (c : Compiled Text) → compiled texts entry source ≡ Ok c → Coded c
compiled_coded entry entries source c e =
    let k = compiled_is entry entries source c e in
    subst Coded k.same (λ s distinct bounded.
    let differ = laid_differ (described k.faces) (module_view k.m) k.m.types distinct in
    names_are_coded k.faces s k.fit k.tree k.m k.is differ (modules_fit k.faces s (ranges k.faces s) k.fit k.text (few (length k.text) k.short) k.tree k.read k.apart k.m k.is differ bounded))
