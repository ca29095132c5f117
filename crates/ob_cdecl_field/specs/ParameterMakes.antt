-- Parameters, as they are declared in turn.
use Rattle.std.specs.Prelude.{ℕ, List, [], ◌∷◌, map, Option, Some, None, true}
use Rattle.std.specs.Option.{option_map}
use Rattle.ob_tree.specs.declared.ident.Ident.{Ident}
use Rattle.ob_tree.specs.declared.ident.Mark.{Mark}
use Rattle.ob_tree.specs.declared.ident.Mark.TheVariants as mark
use Rattle.ob_types.specs.declared.types.Mode.{Mode}
use Rattle.ob_types.specs.declared.types.TypeRef.{TypeRef}
use Rattle.ob_types.specs.declared.desc.Desc.TheVariants as desc
use Rattle.ob_types.specs.declared.typed.Passing.{Passing}
use Rattle.ob_types.specs.declared.typed.TypedParameter.{TypedParameter}
use Rattle.ob_types.specs.declared.typed.Variable.TheVariants as variable
use Rattle.ob_rules.specs.declared.entity.Entity.{Entity}
use Rattle.ob_rules.specs.declared.entity.Entity.TheVariants as entity
use Rattle.ob_rules.specs.Judged.{Judged, no_notes, is_quiet, if_quiet}
use Rattle.ob_rules.specs.Shapes.{passing_of}
use Rattle.ob_rules.specs.Names.{Around, map_of}
use Rattle.ob_rules.specs.Types.{Named, Typing, Parameters, WrittenSection, mode_of, section_name, with_notes, new_name, knows, declare_all, with_made, parameters_of, parameters_joined, with_result, typed_as}

-- what a parameter stands for, where its type keeps all rules; the types that it makes are around
abbrev pub parameter_entity : Around → Mode → Ident → Option TypeRef → Entity
parameter_entity v m x None = entity.Unsound
parameter_entity v m x (Some t) = entity.Variable (variable.Parameter (passing_of (map_of v) m t) x.name) t

-- parameters of these names are declared in turn
abbrev pub names_declared : Around → Mode → Option TypeRef → List Ident → Named
names_declared v m t [] = record { notes = no_notes; around = v }
names_declared v m t (x ∷ xs) = with_notes (new_name v x) (names_declared (knows v x (parameter_entity v m x t)) m t xs)

-- what stands around behind a section
abbrev pub behind_names : Around → Mode → List Ident → Option Typing → Around
behind_names u m xs t = with_made (declare_all u m t xs).around t

-- the parameters of a section, where their type keeps all rules and so do their names
abbrev pub section_made : Around → Mode → List Ident → Option Typing → Option Parameters
section_made u m xs t = if_quiet (is_quiet (declare_all u m t xs).notes.broken) (option_map (parameters_of u m xs) t)

-- the type of a section
abbrev pub section_typing : Around → List ℕ → ℕ → WrittenSection → Judged Typing
section_typing u name i s = s.node.typing u (section_name name i) mark.Hidden true

-- what stands around behind it
abbrev pub behind_section : Around → List ℕ → ℕ → WrittenSection → Around
behind_section u name i s = behind_names u (mode_of s.is_var) s.names (section_typing u name i s).node

abbrev pub no_parameters : Parameters
no_parameters = record { signature = record { params = []; result = None }; parameters = []; made = [] }

-- parameters of these names, by their modes and types
abbrev pub modes_all : Mode → TypeRef → List Ident → List (Mode × TypeRef)
modes_all m t xs = map (λ x. (m, t)) xs

-- and as they are known inside
abbrev pub inside_all : Passing → TypeRef → List Ident → List TypedParameter
inside_all p t xs = map (λ x. record { name = x.name; passing = p; of = t }) xs

-- parameters of one section, where the types that it makes are around
abbrev pub parameters_at : Around → Mode → List Ident → Typing → Parameters
parameters_at v m xs t = record {
  signature = record { params = modes_all m t.of xs; result = None };
  parameters = inside_all (passing_of (map_of v) m t.of) t.of xs;
  made = t.made;
}

abbrev pub join_parameters : Option Parameters → Option Parameters → Option Parameters
join_parameters None b = None
join_parameters (Some a) None = None
join_parameters (Some a) (Some b) = Some (parameters_joined a b)

-- parameters with their result, where both are sound
abbrev pub result_joined : Option Parameters → Option (Option TypeRef) → Option Parameters
result_joined None r = None
result_joined (Some p) None = None
result_joined (Some p) (Some r) = Some (with_result p r)

-- a procedure type, where its parameters are sound
abbrev pub procedure_made : Around → List ℕ → Mark → Option Parameters → Option Typing
procedure_made u name m None = None
procedure_made u name m (Some p) = Some (typed_as u name (desc.ProcType m p.signature) p.made)
