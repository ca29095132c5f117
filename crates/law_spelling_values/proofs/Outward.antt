-- The procedures of a module that compiles that others see are named by identifiers.
use Rattle.std.proofs.Common.{◌≡◌, ◌≢◌, ℕ, true, false, List, [], ◌∷◌, map, Option, Ok, refl, sym, ap, subst, ◌∙◌}
use Rattle.std.specs.Prelude.{bytes_eq, ◌&&◌, not, is_none}
use Rattle.std.specs.List.{AllByRecursion, IsDistinct}
use Rattle.std.proofs.lemmas.Bool.{false≢true}
use Rattle.std.proofs.lemmas.Slice.Eq.{bytes_eq-Decides}
use Rattle.ob_tree.specs.declared.names.QName.{QName}
use Rattle.ob_tree.specs.declared.ident.Mark.{Mark}
use Rattle.ob_tree.specs.declared.ident.Mark.TheVariants as mark
use Rattle.ob_types.specs.declared.desc.Desc.{Desc}
use Rattle.ob_types.specs.declared.typed.TypedType.{TypedType}
use Rattle.ob_types.specs.declared.typed.TypedProcedure.{TypedProcedure}
use Rattle.ob_types.specs.TypedSyntax.{Module}
use Rattle.ob_types.specs.TypedView.{module_view, procedure_view}
use Rattle.ob_desc.specs.Grammar.{is_shown}
use Rattle.ob_rules.specs.Names.{is_hidden}
use Rattle.ob_layout.specs.LaidOut.{laid_type}
use Rattle.ob_env.specs.Faces.{described}
use Rattle.ob_env.specs.Shown.{shown}
use Rattle.ob_uses.specs.Objects.{is_exported}
use Rattle.ob_env_walk.specs.Walk.{Entry}
use Rattle.ob_compile_model.specs.Compiling.{Compiled, texts, compiled}
use Rattle.law_names_distinct.specs.Distinct.{AreDistinct}
use Rattle.law_methods_introduced.specs.Laws.{is_outward}
use Rattle.law_methods_introduced.proofs.Exported.{outward_named}
use Rattle.law_spelling.specs.Trees.{IsNamed}
use Rattle.law_spelling.specs.Laws.{Text}
use Rattle.law_spelling.specs.Seen.{AreNamedEntries}
use Rattle.law_spelling.proofs.Reading.{readings_named}
use Rattle.law_spelling_values.proofs.Compiled.{compiled_is}

-- ---- names of types that differ

fresh : (types : QName → Option Desc) (m : Module) (x : List ℕ) (ts : List TypedType) → AllByRecursion (λ y. bytes_eq x y ≡ false) (map (λ t. t.name) (map (laid_type types m) ts)) → AllByRecursion (λ t. t.name ≢ x) ts
fresh types m x [] h = tt
fresh types m x (t ∷ ts) h = ((λ e. false≢true (sym h.0 ∙ (bytes_eq-Decides x t.name).1 (sym e))), fresh types m x ts h.1)

pub laid_differ : (types : QName → Option Desc) (m : Module) (ts : List TypedType) → IsDistinct bytes_eq (map (λ t. t.name) (map (laid_type types m) ts)) → AreDistinct (λ t. t.name) ts
unfolding IsDistinct
laid_differ types m [] h = tt
laid_differ types m (t ∷ ts) h = (fresh types m t.name ts h.0, laid_differ types m ts h.1)

-- ---- exported procedures

same_marks : (m : Mark) → is_shown m ≡ not (is_hidden m)
same_marks mark.Full = refl
same_marks mark.ReadOnly = refl
same_marks mark.Hidden = refl

views : (ps : List TypedProcedure) → AllByRecursion (λ p. is_outward p ≡ true → IsNamed p.name) ps → AllByRecursion (λ p. is_exported p ≡ true → IsNamed p.name) (map procedure_view ps)
views [] h = tt
views (p ∷ ps) h = ((λ e. h.0 (ap (λ b. b && is_none p.binding) (sym (same_marks p.mark)) ∙ e)), views ps h.1)

abbrev AreNamed : Compiled Text → Type 0
AreNamed d = IsDistinct bytes_eq (map (λ t. t.name) d.tree.types) → AllByRecursion (λ p. is_exported p ≡ true → IsNamed p.name) d.tree.procedures

pub compiled_named : (entry : List ℕ → Entry Text) → AreNamedEntries entry → (source : Option (List ℕ)) (c : Compiled Text) → compiled texts entry source ≡ Ok c → AreNamed c
compiled_named entry entries source c e =
    let k = compiled_is entry entries source c e in
    subst AreNamed k.same (λ differ. views k.m.procedures (outward_named (shown k.faces) k.tree k.m k.is (laid_differ (described k.faces) (module_view k.m) k.m.types differ) (readings_named k.text k.tree k.read).decls))
