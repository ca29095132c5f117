-- The fields of records, as they are collected.
use Rattle.std.specs.Prelude.{ℕ, Bool, true, false, ◌||◌, List, ◌∷◌, ◌++◌, Option, Some, None, is_some}
use Rattle.ob_tree.specs.declared.ident.IdentDef.{IdentDef}
use Rattle.ob_types.specs.declared.types.TypeRef.{TypeRef}
use Rattle.ob_types.specs.declared.desc.Field.{Field}
use Rattle.ob_rules.specs.Judged.{Judged, each_sound, unless, ◌▷◌}
use Rattle.ob_rules.specs.Names.{Around, map_of, is_among}
use Rattle.ob_cdecl_field.specs.declared.fields.Fields.{Fields as Made}
use Rattle.ob_tree.specs.declared.ident.Mark.{Mark}
use Rattle.ob_tree.specs.declared.ident.Mark.TheVariants as mark
use Rattle.ob_rules.specs.declared.broken.Rule.TheVariants as rule
use Rattle.ob_rules.specs.Types.{Typing, WrittenFields, with_fields, first_name, field_name, typed_as, record_desc, Fields, fields_of, fields_joined, marked, member_in, record_in}

-- the fields of one list, in order
abbrev pub fields_in : Around → Option (Option TypeRef) → List (List ℕ) → List IdentDef → Option Typing → Judged (List Field)
fields_in u base before ds t = each_sound (fields_of u base before ds t)

-- a field, but for what is judged later
abbrev pub field_marked : Around → Option (Option TypeRef) → List (List ℕ) → IdentDef → TypeRef → Judged Field
field_marked u base before d t = marked u true d ▷ λ m. unless (is_among d.ident.name before || is_some (member_in (map_of u) (record_in (map_of u) base) d.ident.name)) rule.DeclaredTwice d.ident.pos (record { name = d.ident.name; mark = m; place = 0; of = t })

-- those so far and the rest, where all are sound
abbrev pub finish : Bool → List Field → Option (List Field) → Option (List Field)
finish false fs rest = None
finish true fs None = None
finish true fs (Some gs) = Some (fs ++ gs)

abbrev pub one_more : Option Field → Option (List Field) → Option (List Field)
one_more None rest = None
one_more (Some f) None = None
one_more (Some f) (Some fs) = Some (f ∷ fs)

abbrev pub fields_made : Option Typing → Option (List Field) → Option Fields
fields_made None fs = None
fields_made (Some t) None = None
fields_made (Some t) (Some fs) = Some (record { fields = fs; made = t.made })

abbrev pub join_fields : Option Fields → Option Fields → Option Fields
join_fields None b = None
join_fields (Some a) None = None
join_fields (Some a) (Some b) = Some (fields_joined a b)

abbrev pub fields_seen : Made → Fields
fields_seen f = record { fields = f.fields; made = f.made }

-- what a list of fields comes to
abbrev pub list_judged : Around → List ℕ → Option (Option TypeRef) → List (List ℕ) → WrittenFields → Judged Fields
list_judged u name base before l = with_fields u base before l.names (l.node.typing u (field_name name (first_name l.names)) mark.Hidden false)

-- a record, where its base and its fields are sound
abbrev pub record_made : Around → List ℕ → Mark → Option (Option TypeRef) → Option Fields → Option Typing
record_made u name m None fs = None
record_made u name m (Some b) None = None
record_made u name m (Some b) (Some fs) = Some (typed_as u name (record_desc m b fs.fields) fs.made)
