-- The bound procedures of a module that compiles have numbers below the number of their record's.
use Rattle.std.proofs.Common.{◌≡◌, ℕ, true, false, List, map, Option, Ok, sym, subst}
use Rattle.std.specs.Prelude.{bytes_eq}
use Rattle.std.specs.List.{AllByRecursion, IsDistinct}
use Rattle.ob_types.specs.declared.types.TypeRef.TheVariants as ref
use Rattle.ob_types.specs.TypedView.{module_view}
use Rattle.ob_layout.specs.LaidOut.{viewed}
use Rattle.ob_env.specs.Faces.{described}
use Rattle.ob_env.specs.Fit.{is_within}
use Rattle.ob_env.specs.Shown.{shown}
use Rattle.ob_env_walk.specs.Walk.{Entry}
use Rattle.ob_compile_model.specs.Compiling.{Compiled, texts, compiled}
use Rattle.law_methods_introduced.proofs.Families.{families_there}
use Rattle.law_methods_introduced.proofs.Below.{numbers_below_all}
use Rattle.law_spelling.specs.Files.{NumbersFit}
use Rattle.law_spelling.specs.Laws.{Text}
use Rattle.law_spelling.specs.Seen.{AreNamedEntries}
use Rattle.law_spelling.proofs.Reading.{readings_named}
use Rattle.law_spelling_values.proofs.Compiled.{compiled_is, name_is}
use Rattle.law_spelling_values.proofs.Outward.{laid_differ}

abbrev AreNumbered : Compiled Text → Type 0
AreNumbered d =
    IsDistinct bytes_eq (map (λ t. t.name) d.tree.types) → AllByRecursion (λ t. is_within (viewed (described d.against) d.tree) 200 (ref.Named (record { «module» = d.tree.name; object = t.name })) ≡ true) d.tree.types →
    AllByRecursion (λ t. NumbersFit (viewed (described d.against) d.tree) d.tree t t.desc) d.tree.types

pub compiled_numbered : (entry : List ℕ → Entry Text) → AreNamedEntries entry → (source : Option (List ℕ)) (c : Compiled Text) → compiled texts entry source ≡ Ok c → AreNumbered c
compiled_numbered entry entries source c e =
    let k = compiled_is entry entries source c e in
    subst AreNumbered k.same (λ differ ends. numbers_below_all k.faces k.m k.fit
    (subst (λ (n : List ℕ). AllByRecursion (λ f. bytes_eq f.«module» n ≡ false) k.faces) (sym (name_is (shown k.faces) k.tree k.m k.is)) k.apart) ends
    (families_there (shown k.faces) k.tree k.m k.is (laid_differ (described k.faces) (module_view k.m) k.m.types differ) (readings_named k.text k.tree k.read).decls))
