use Rattle.std.proofs.Common.{◌≡◌, ◌++◌, List, map, ap, ◌∙◌}
use Rattle.std.specs.List.{filter}
use Rattle.ob_types.specs.declared.face.Aspect.TheVariants.{Shape}
use Rattle.ob_types.specs.declared.typed.TypedConstant.{TypedConstant}
use Rattle.ob_types.specs.declared.typed.TypedVariable.{TypedVariable}
use Rattle.ob_types.specs.declared.typed.TypedProcedure.{TypedProcedure}
use Rattle.ob_types.specs.declared.typed.TypedType.{TypedType}
use Rattle.ob_types.specs.TypedView.{module_view, procedure_view}
use Rattle.ob_desc.specs.Grammar.{is_shown}
use Rattle.ob_uses_roots.specs.Counts.{own_name}
use Rattle.ob_uses_interface.specs.declared.entry.Entry.{Entry}
use Rattle.ob_uses_interface.specs.Entries.{entry_of}
use Rattle.ob_uses.specs.Objects.{constant_object, variable_object, procedure_object, type_object, is_exported}
use Rattle.ob_uses.specs.Ways.{has_pair, paired}
use Rattle.ob_uses_interface.proofs.Objecting.{objects_are}
use Rattle.ob_uses_interface.proofs.objects.objects_of.Goals as goal

pub returns : goal.returns
returns g c =
    let m = module_view c.args.«module».now in
    let ps = c.in_ok-reached.reached.keys in
    let cs : List TypedConstant → List Entry = λ l. map (entry_of m.name) (map constant_object (filter (λ c. is_shown c.mark) l)) in
    let vs : List TypedVariable → List Entry = λ l. map (entry_of m.name) (map variable_object (filter (λ v. is_shown v.mark) l)) in
    let qs : List TypedProcedure → List Entry = λ l. map (entry_of m.name) (map procedure_object (filter is_exported (map procedure_view l))) in
    let ts : List TypedType → List Entry = λ l. map (entry_of m.name) (map type_object (filter (λ t. has_pair ps (paired Shape (own_name m t))) l)) in
    let its = c.args.«module».now in
    let e1 : c.add_constants.new.found.items ≡ cs its.constants = c.in_ok-add_constants.ensures ∙ ap (λ v. v ++ cs c.as_slice-constants.result.now) c.new-found.ensures.items ∙ ap cs c.as_slice-constants.ensures in
    let e2 : c.add_variables.new.found.items ≡ cs its.constants ++ vs its.variables = c.in_ok-add_variables.ensures ∙ ap (λ v. v ++ vs c.as_slice-variables.result.now) e1 ∙ ap (λ l. cs its.constants ++ vs l) c.as_slice-variables.ensures in
    let e3 : c.add_procedures.new.found.items ≡ (cs its.constants ++ vs its.variables) ++ qs its.procedures = c.in_ok-add_procedures.ensures ∙ ap (λ v. v ++ qs c.as_slice-procedures.result.now) e2 ∙ ap (λ l. (cs its.constants ++ vs its.variables) ++ qs l) c.as_slice-procedures.ensures in
    let e4 : c.add_type_objects.new.found.items ≡ ((cs its.constants ++ vs its.variables) ++ qs its.procedures) ++ ts its.types = c.in_ok-add_type_objects.ensures ∙ ap (λ v. v ++ ts c.as_slice-own_types.result.now) e3 ∙ ap (λ l. ((cs its.constants ++ vs its.variables) ++ qs its.procedures) ++ ts l) c.as_slice-own_types.ensures in
    c.in_ok-objects.ensures
    ∙ objects_are m (g.T.Types.types c.args.types.now) c.requires c.as_slice-first.result.now (c.as_slice-first.ensures.value ∙ c.in_ok-starts.ensures) ps c.in_ok-reached.ensures c.add_type_objects.new.found.items e4
