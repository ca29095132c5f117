-- Exported procedures that are not bound are named by identifiers.
use Rattle.std.proofs.Common.{◌≡◌, true, List, [], inl, inr, sym, ap, ◌∙◌}
use Rattle.std.specs.Prelude.{◌&&◌, not, is_none}
use Rattle.std.proofs.lemmas.Bool.{and_parts, false≢true}
use Rattle.ob_types.specs.declared.typed.TypedProcedure.{TypedProcedure}
use Rattle.ob_format.specs.Names.{is_identifier}
use Rattle.ob_rules.specs.Names.{Around, map_of, is_hidden}
use Rattle.ob_rules.specs.Headings.{Head, bindings}
use Rattle.ob_rules.specs.Declarations.{with_bound, bound_to}
use Rattle.law_methods_introduced.specs.Laws.{is_outward, OutwardAreNamed}
use Rattle.law_methods_introduced.proofs.Binding.{is_bound}
use Rattle.law_methods_introduced.proofs.Blocks.{IsHidden, TypedSo, procedures_good}

abbrev Good : TypedProcedure → Type 0
Good p = is_outward p ≡ true → is_identifier p.name ≡ true

hidden : (p : TypedProcedure) → IsHidden p → Good p
hidden p h e = absurd (false≢true (sym (ap (λ m. not (is_hidden m) && is_none p.binding) h.0) ∙ e))

typed_so : (U : Around) (all : List Head) → (bindings U all).notes.broken ≡ [] → TypedSo Good U all
typed_so U all quiet h (inl k) a f p e c = ((λ x. k.1), tt)
typed_so U all quiet h (inr k) a f p e c =
    let V = with_bound U (bindings U all) in
    let b = is_bound U h k.0 k.1.1.1.0 k.1.0 f all a k.1.1.0 k.1.1.1.1 quiet in
    ((λ e. absurd (false≢true (sym b ∙ (and_parts (not (is_hidden h.mark)) (is_none (bound_to (map_of V) h h.bound)) e).1))), tt)

pub outward_named : OutwardAreNamed
outward_named shown tree m e differ named = procedures_good Good hidden shown tree m e differ named (λ quiet. typed_so _ _ quiet)
