-- The object file of a module.
use Rattle.std.specs.Prelude.{ℕ, suc, List, [], ◌∷◌, ◌++◌, Option, Some, None, Bool, true, false, ◌&&◌, bytes_eq, if◌then◌else◌}
use Rattle.ob_tree.specs.declared.names.QName.{QName}
use Rattle.ob_tree.specs.declared.ident.Mark.{Mark}
use Rattle.ob_tree.specs.declared.ident.Mark.TheVariants as mark
use Rattle.ob_types.specs.declared.types.TypeRef.{TypeRef}
use Rattle.ob_types.specs.declared.desc.Desc.{Desc}
use Rattle.ob_types.specs.declared.desc.Desc.TheVariants as desc
use Rattle.ob_types.specs.declared.face.Use.{Use}
use Rattle.ob_types.specs.declared.typed.Binding.{Binding}
use Rattle.ob_types.specs.declared.typed.TypedType.{TypedType}
use Rattle.ob_types.specs.declared.typed.TypedVariable.{TypedVariable}
use Rattle.ob_types.specs.TypedSyntax.{Procedure, Module}
use Rattle.ob_obj.specs.declared.parts.Export.{Export}
use Rattle.ob_obj.specs.declared.parts.Variable.{Variable}
use Rattle.ob_obj.specs.declared.parts.Base.{Base}
use Rattle.ob_obj.specs.declared.parts.Base.TheVariants as base
use Rattle.ob_obj.specs.declared.parts.Definition.{Definition}
use Rattle.ob_obj.specs.declared.parts.RecordType.{RecordType}
use Rattle.ob_obj.specs.declared.parts.Command.{Command}
use Rattle.ob_obj.specs.declared.file.ObjFile.{ObjFile}
use Rattle.ob_obj.specs.Grammar.{by_name, by_number}
use Rattle.ob_layout.specs.Lists.{in_order}
use Rattle.ob_layout.specs.Words.{words_of}
use Rattle.ob_layout.specs.Room.{variable_words}
use Rattle.ob_scheme.specs.Descriptions.{own_name, method_number}
use Rattle.ob_scheme.specs.Context.{Context, variable_place, type_index, is_own}
use Rattle.ob_scheme.specs.Numbers.{Named, nothing_named, with_one, same_type, number_among, instrs_in, with_lines, positions_at}
use Rattle.ob_scheme.specs.Procedures.{body_of, within, module_code, module_rows}

-- ---- what is exported

abbrev pub is_seen : Mark → Bool
is_seen mark.Hidden = false
is_seen m = true

abbrev pub is_full : Mark → Bool
is_full mark.Full = true
is_full m = false

abbrev pub is_free : Option Binding → Bool
is_free None = true
is_free (Some b) = false

module _ (types : QName → Option Desc) (m : Module) where
  abbrev pub own : Context
  own = within types m (body_of m)

  -- the words of the module's variables
  abbrev pub own_words : ℕ
  own_words = variable_words (words_of types) m

  -- the exported variables, ascending by name
  abbrev pub seen_variables : List TypedVariable → List Variable
  seen_variables [] = []
  seen_variables (v ∷ vs) = if is_seen v.mark then record { name = v.name; place = variable_place own v.name } ∷ seen_variables vs else seen_variables vs

  abbrev pub variables : List Variable
  variables = in_order (λ a b. by_name a.name b.name) (seen_variables m.variables)

  -- the exported procedures of the module, which are not bound and not inside others, ascending by name; the first procedure of the
  -- list has this index
  abbrev pub commands_among : List Procedure → ℕ → List Command
  commands_among [] n = []
  commands_among (p ∷ ps) n = if is_full p.mark && is_free p.binding then record { name = p.name; procedure = n } ∷ commands_among ps (suc n) else commands_among ps (suc n)

  abbrev pub commands : List Command
  commands = in_order (λ a b. by_name a.name b.name) (commands_among m.procedures 1)

  -- ---- record types

  -- whether a procedure is bound to the record type of that name
  abbrev pub is_bound_to : List ℕ → Option Binding → Bool
  is_bound_to x None = false
  is_bound_to x (Some b) = bytes_eq x b.owner.object

  abbrev pub bound_number : Option Binding → ℕ
  bound_number None = 0
  bound_number (Some b) = method_number types b.family.owner b.family.name

  abbrev pub definitions_among : List ℕ → List Procedure → ℕ → List Definition
  definitions_among x [] n = []
  definitions_among x (p ∷ ps) n = if is_bound_to x p.binding then record { number = bound_number p.binding; procedure = n } ∷ definitions_among x ps (suc n) else definitions_among x ps (suc n)

  -- its own definitions, ascending by number
  abbrev pub definitions : List ℕ → List Definition
  definitions x = in_order by_number (definitions_among x m.procedures 1)

  -- the record type that a record type extends
  abbrev pub base_type : Option TypeRef → Option QName
  base_type None = None
  base_type (Some t) = own_name types t

  abbrev pub base_in : List QName → Option QName → Base
  base_in links None = base.None
  base_in links (Some q) = if is_own own q.module then base.Own (type_index own q.object) else base.Link (number_among same_type links q)

  abbrev pub record_in : List QName → List ℕ → Desc → List RecordType
  record_in links x (desc.Record r) = record { name = x; base = base_in links (base_type r.base); words = r.words; count = r.procedures; definitions = definitions x } ∷ []
  record_in links x d = []

  abbrev pub records_in : List QName → List TypedType → List RecordType
  records_in links [] = []
  records_in links (t ∷ ts) = record_in links t.name t.desc ++ records_in links ts

  -- links that serve as bases alone, behind those of the code, in the order of the types
  abbrev pub with_base : List QName → Option QName → List QName
  with_base links None = links
  with_base links (Some q) = if is_own own q.module then links else with_one same_type links q

  abbrev pub with_record : List QName → Desc → List QName
  with_record links (desc.Record r) = with_base links (base_type r.base)
  with_record links d = links

  abbrev pub with_bases : List QName → List TypedType → List QName
  with_bases links [] = links
  with_bases links (t ∷ ts) = with_bases (with_record links t.desc) ts

  abbrev pub all_named : Named
  all_named = with_lines (nothing_named own_words) (module_code types m)

  abbrev pub type_links : List QName
  type_links = with_bases all_named.types m.types

  -- THE OBJECT FILE: its exports with their prints are those of its interface, its uses those that it was compiled against
  abbrev pub object_file : List Export → List Use → ObjFile
  object_file exports uses = record {
    head = record { «module» = m.name; imports = m.imports; exports = exports; uses = uses };
    globals = record { variable_words = own_words; strings = all_named.strings; variables = variables };
    links = record { variables = all_named.variables; procedures = all_named.procedures; types = type_links };
    body = record {
      types = records_in type_links m.types;
      procedures = module_rows types m;
      commands = commands;
      code = instrs_in (nothing_named own_words) (module_code types m);
      positions = positions_at 0 (module_code types m);
    };
  }
