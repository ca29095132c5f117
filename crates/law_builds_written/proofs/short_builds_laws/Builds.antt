-- Valid builds.
use Rattle.std.proofs.Common.{◌≡◌, ℕ, ◌<◌, ◌^◌, Bool, true, false, List, [], ◌∷◌, length, map, Option, Some, Ok, refl, sym, subst, arith}
use Rattle.std.specs.Prelude.{nat_le}
use Rattle.std.specs.List.{AllByRecursion}
use Rattle.std.proofs.lemmas.Bool.{leb-true}
use Rattle.ob_tree.specs.declared.names.QName.{QName}
use Rattle.ob_types.specs.declared.desc.Desc.{Desc}
use Rattle.ob_types.specs.declared.typed.TypedType.{TypedType}
use Rattle.ob_types.specs.TypedSyntax.{Module}
use Rattle.ob_types.specs.TypedView.{module_view}
use Rattle.ob_layout.specs.LaidOut.{laid_type}
use Rattle.ob_env.specs.Faces.{face_named, described}
use Rattle.ob_env.specs.Shown.{shown}
use Rattle.ob_env_walk.specs.Walk.{Entry}
use Rattle.ob_parse_grammar.specs.TextReading.{reading}
use Rattle.ob_compile_model.specs.Compiling.{Compiled, texts, most_source, of_short, of_reading, compiled}
use Rattle.law_names_read.proofs.Reading.{readings_are_worded}
use Rattle.law_spelling_names.specs.Laws.{IsSound}
use Rattle.law_spelling_names.proofs.Reading.{readings_within}
use Rattle.law_spelling_names.proofs.Whole.{sound_names_are_short}
use Rattle.law_acyclic.proofs.Grounded.{modules_are_grounded}
use Rattle.law_builds_written.proofs.Views.{checked_so}
use Rattle.ob_builds.specs.Builds.{Text, entry_of}
use Rattle.law_builds_written.proofs.grounds_laws.Builds.{build_from, build_over}
use Rattle.law_builds_written.specs.short_builds_laws.Laws.{BuildsHaveShortNames}

-- a source that compiles has few bytes
few_if : (entry : List ℕ → Entry Text) (source : Text) (c : Compiled Text) (b : Bool) → nat_le (length source) most_source ≡ b → of_short b (of_reading texts entry (reading source)) ≡ Ok c → length source < 4294967295
few_if entry source c true e i = let h = leb-true (length source) most_source e in omega (arith, h)
few_if entry source c false e i = absurd cc

few_bytes : (entry : List ℕ → Entry Text) (source : Text) (c : Compiled Text) → compiled texts entry (Some source) ≡ Ok c → length source < 4294967295
unfolding compiled
few_bytes entry source c i = few_if entry source c (nat_le (length source) most_source) refl i

-- the layout leaves names
names_stay : (types : QName → Option Desc) (m : Module) (ts : List TypedType) → AllByRecursion (λ t. length t.name < 2 ^ 16) ts → AllByRecursion (λ t. length t.name < 2 ^ 16) (map (laid_type types m) ts)
names_stay types m [] h = tt
names_stay types m (t ∷ ts) h = (h.0, names_stay types m ts h.1)

pub builds_short : BuildsHaveShortNames
builds_short b c v names =
    let k = build_from b c v in
    let over = build_over b c v names k in
    let m = k.module_is in
    let so = checked_so c.against k.tree m over in
    let sound : IsSound (shown c.against) k.tree m = record { grounded = so.grounded; apart = so.apart.own; differ = over.names; chains = (modules_are_grounded (shown c.against) k.tree m so).short } in
    let few = few_bytes (λ name. entry_of (face_named b.against name)) b.source c v.is in
    let short = sound_names_are_short (shown c.against) k.tree m k.checked_is (readings_are_worded b.source k.tree few k.read) (readings_within b.source k.tree k.read) sound in
    subst (λ (x : Compiled Text). AllByRecursion (λ t. length t.name < 2 ^ 16) x.tree.types) (sym k.is) (names_stay (described c.against) (module_view m) m.types short)
