use Rattle.std.proofs.Common.{◌≡◌, drop}
use Rattle.std.specs.Option.{option_map}
use Rattle.ob_cdecl_scopes.specs.Scopes.{around_of}
use Rattle.ob_rules.specs.Books.{book_after}
use Rattle.ob_rules.specs.Types.{names_behind}
use Rattle.ob_cdecl_field.specs.Makes.{typing_of}
use Rattle.ob_cdecl_field.specs.FieldMakes.{fields_in, finish}
use Rattle.ob_cdecl_field.proofs.fields.fields_of.Given as goal

abbrev pub invariant-fields : goal.invariant-fields
invariant-fields g l = record {
  node : finish l.sound l.fields (fields_in (around_of g.E.Types.types l.scope) l.base l.before (drop l.d-index l.names) (option_map typing_of l.typed)).node ≡ (fields_in (around_of g.E.Types.types l.scope) l.base l.fn.before l.names (option_map typing_of l.typed)).node;
  notes : book_after l.book (fields_in (around_of g.E.Types.types l.scope) l.base l.before (drop l.d-index l.names) (option_map typing_of l.typed)).notes ≡ book_after l.fn.book (fields_in (around_of g.E.Types.types l.scope) l.base l.fn.before l.names (option_map typing_of l.typed)).notes;
  behind : names_behind (drop l.d-index l.names) l.before ≡ names_behind l.names l.fn.before;
}
