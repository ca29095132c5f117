-- The names of the types of a checked module are short.
use Rattle.std.proofs.Common.{◌≡◌, ◌<◌, ◌≤◌, ◌^◌, List, [], ◌∷◌, length, map, Option, Some, None, refl, subst, arith}
use Rattle.std.specs.Prelude.{bytes_eq}
use Rattle.std.specs.List.{AllByRecursion, find}
use Rattle.ob_types.specs.declared.typed.TypedType.{TypedType}
use Rattle.ob_types.specs.declared.typed.TypedModule.{TypedModule}
use Rattle.ob_rules.specs.declared.broken.Broken.{Broken}
use Rattle.ob_rules.specs.Statements.{judging}
use Rattle.ob_rules.specs.Declarations.{Part, declaration, module_of, described, all_described, typed_module, if_unbroken}
use Rattle.law_spelling_names.specs.Laws.{NamesAreShort}
use Rattle.law_spelling_names.proofs.Typings.{decls_good, module_good}

-- what is bound leaves names what they are
name_stays : (o : Option TypedType) (t : TypedType) → length t.name ≤ 55416 → length (described o t).name < 2 ^ 16
name_stays None t h = omega (arith, h)
name_stays (Some b) t h = omega (arith, h)

names_stay : (bound ts : List TypedType) → AllByRecursion (λ t. length t.name ≤ 55416) ts → AllByRecursion (λ t. length t.name < 2 ^ 16) (all_described bound ts)
names_stay bound [] h = tt
names_stay bound (t ∷ ts) h = (name_stays (find (λ b. bytes_eq b.name t.name) bound) t h.0, names_stay bound ts h.1)

unbroken_is : (bs : List Broken) (x m : TypedModule) → if_unbroken bs x ≡ Some m → x ≡ m
unbroken_is [] x m e = cc
unbroken_is (b ∷ bs) x m e = absurd cc

pub names_are_short : NamesAreShort
names_are_short types shown tree m e words within others seen =
    let parts : Part = module_of shown tree.name tree.imports (map declaration tree.decls) (map judging tree.body) tree.closing in
    let whole : TypedModule = typed_module shown tree.name tree.imports (map declaration tree.decls) parts in
    let ds = decls_good types tree.name.name shown others 200 tree.decls words within in
    let k = module_good types tree.name.name shown others tree.name refl tree.imports (map declaration tree.decls) ds (map judging tree.body) tree.closing seen in
    subst (λ (x : TypedModule). AllByRecursion (λ t. length t.name < 2 ^ 16) x.types) (unbroken_is parts.notes.broken whole m e) (names_stay parts.contents.bound parts.contents.types k)
