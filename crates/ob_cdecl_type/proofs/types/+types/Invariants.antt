use Rattle.std.proofs.Common.{◌≡◌, [], drop, map, Some}
use Rattle.std.specs.Option.{option_map}
use Rattle.ob_cdecl_scopes.specs.Scopes.{around_of}
use Rattle.ob_rules.specs.Books.{book_after}
use Rattle.ob_rules.specs.Types.{field_lists, sections}
use Rattle.ob_cdecl_field.specs.Makes.{parameters_of}
use Rattle.ob_cdecl_field.specs.FieldMakes.{fields_seen, join_fields}
use Rattle.ob_cdecl_field.specs.ParameterMakes.{join_parameters, no_parameters}
use Rattle.ob_cdecl_field.proofs.Scoping.{Grown}
use Rattle.ob_cdecl_type.specs.Nested.{written_fields, written_section}
use Rattle.ob_cdecl_type.proofs.types.+types.Given as goal

-- the lists so far, and those behind them, are the whole
abbrev pub invariant-all_fields-lists : goal.invariant-all_fields-lists
invariant-all_fields-lists g l = record {
  node : join_fields (option_map fields_seen l.all) (field_lists (around_of g.E.Types.types l.fn.scope) l.name l.base l.before (map written_fields (drop l.list-index l.lists))).node ≡ (field_lists (around_of g.E.Types.types l.fn.scope) l.name l.base [] (map written_fields l.lists)).node;
  notes : book_after l.book (field_lists (around_of g.E.Types.types l.fn.scope) l.name l.base l.before (map written_fields (drop l.list-index l.lists))).notes ≡ book_after l.fn.book (field_lists (around_of g.E.Types.types l.fn.scope) l.name l.base [] (map written_fields l.lists)).notes;
  around : around_of g.E.Types.types l.scope ≡ around_of g.E.Types.types l.fn.scope;
}

-- the sections so far, and those behind them, are the whole
abbrev pub invariant-all_sections-sections : goal.invariant-all_sections-sections
invariant-all_sections-sections g l = record {
  node : join_parameters (option_map parameters_of l.all) (sections (around_of g.E.Types.types l.scope) l.name l.number (map written_section (drop l.written-index l.sections))).found.node ≡ (sections (around_of g.E.Types.types l.fn.scope) l.name 1 (map written_section l.sections)).found.node;
  ends : join_parameters (option_map parameters_of l.all) (Some no_parameters) ≡ option_map parameters_of l.all;
  notes : book_after l.book (sections (around_of g.E.Types.types l.scope) l.name l.number (map written_section (drop l.written-index l.sections))).found.notes ≡ book_after l.fn.book (sections (around_of g.E.Types.types l.fn.scope) l.name 1 (map written_section l.sections)).found.notes;
  known : (sections (around_of g.E.Types.types l.scope) l.name l.number (map written_section (drop l.written-index l.sections))).known ≡ (sections (around_of g.E.Types.types l.fn.scope) l.name 1 (map written_section l.sections)).known;
  grown : Grown (around_of g.E.Types.types l.fn.scope) (around_of g.E.Types.types l.scope);
}
