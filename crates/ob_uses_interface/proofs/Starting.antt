-- Where reaching begins, part by part.
use Rattle.std.proofs.Common.{◌≡◌, ℕ, true, List, [], ◌∷◌, ◌++◌, append-nil, map, refl, sym, ap, ◌∙◌}
use Rattle.std.specs.List.{filter, flat_map}
use Rattle.ob_tree.specs.declared.names.QName.{QName}
use Rattle.ob_types.specs.declared.typed.TypedType.{TypedType}
use Rattle.ob_types.specs.declared.typed.TypedVariable.{TypedVariable}
use Rattle.ob_types.specs.declared.typed.TypedProcedure.{TypedProcedure}
use Rattle.ob_types.specs.TypedSyntax.{Procedure, Module}
use Rattle.ob_types.specs.TypedView.{procedure_view}
use Rattle.ob_types.specs.Maps.{signature_types}
use Rattle.ob_desc.specs.Grammar.{is_shown}
use Rattle.ob_env.specs.Shown.{is_visible}
use Rattle.ob_uses_roots.specs.Counts.{own_name}
use Rattle.ob_uses.specs.Objects.{signature_of, is_exported}
use Rattle.ob_uses.specs.Ways.{type_names}
use Rattle.ob_uses.proofs.Leading.{filter_join, map_join, flat_join}

pub one_procedure : (m : List ℕ) (x : Procedure) (v0 v1 : List QName) → v1 ≡ v0 ++ type_names true m (signature_types (signature_of x)) → v1 ≡ v0 ++ type_names true m (flat_map (λ p. signature_types (signature_of p)) (x ∷ []))
one_procedure m x v0 v1 h = h ∙ ap (λ l. v0 ++ type_names true m l) (sym (append-nil (signature_types (signature_of x))))

pub types_cons : (m : Module) (x : TypedType) (xs : List TypedType) → map (own_name m) (filter (λ t. is_visible t.desc) (x ∷ xs)) ≡ map (own_name m) (filter (λ t. is_visible t.desc) (x ∷ [])) ++ map (own_name m) (filter (λ t. is_visible t.desc) xs)
types_cons m x xs = ap (map (own_name m)) (filter_join (λ (t : TypedType). is_visible t.desc) (x ∷ []) xs) ∙ map_join (own_name m) (filter (λ t. is_visible t.desc) (x ∷ [])) (filter (λ t. is_visible t.desc) xs)

pub variables_cons : (x : TypedVariable) (xs : List TypedVariable) → map (λ v. v.of) (filter (λ v. is_shown v.mark) (x ∷ xs)) ≡ map (λ v. v.of) (filter (λ v. is_shown v.mark) (x ∷ [])) ++ map (λ v. v.of) (filter (λ v. is_shown v.mark) xs)
variables_cons x xs = ap (map (λ v. v.of)) (filter_join (λ (v : TypedVariable). is_shown v.mark) (x ∷ []) xs) ∙ map_join (λ (v : TypedVariable). v.of) (filter (λ v. is_shown v.mark) (x ∷ [])) (filter (λ v. is_shown v.mark) xs)

pub procedures_cons : (x : TypedProcedure) (xs : List TypedProcedure) → flat_map (λ p. signature_types (signature_of p)) (filter is_exported (map procedure_view (x ∷ xs))) ≡ flat_map (λ p. signature_types (signature_of p)) (filter is_exported (procedure_view x ∷ [])) ++ flat_map (λ p. signature_types (signature_of p)) (filter is_exported (map procedure_view xs))
procedures_cons x xs = ap (flat_map (λ p. signature_types (signature_of p))) (filter_join is_exported (procedure_view x ∷ []) (map procedure_view xs)) ∙ flat_join (λ (p : Procedure). signature_types (signature_of p)) (filter is_exported (procedure_view x ∷ [])) (filter is_exported (map procedure_view xs))
