-- What names mean: what is known where, and the rules of names.
use Rattle.std.specs.Prelude.{ℕ, zero, suc, ◌+◌, Bool, true, false, not, ◌&&◌, ◌||◌, nat_eq, nat_lt, nat_le, List, [], ◌∷◌, ◌++◌, Option, Some, None, bytes_eq, codes}
use Rattle.std.specs.List.{find, list_any}
use Rattle.ob_tree.specs.declared.pos.Pos.{Pos}
use Rattle.ob_tree.specs.declared.names.QName.{QName}
use Rattle.ob_tree.specs.declared.ident.Ident.{Ident}
use Rattle.ob_tree.specs.declared.ident.Mark.{Mark}
use Rattle.ob_tree.specs.declared.ident.Mark.TheVariants as mark
use Rattle.ob_tree.specs.declared.ident.Qualident.{Qualident}
use Rattle.ob_types.specs.declared.types.Basic.TheVariants as basic
use Rattle.ob_types.specs.declared.types.TypeRef.{TypeRef}
use Rattle.ob_types.specs.declared.types.TypeRef.TheVariants as ref
use Rattle.ob_types.specs.declared.types.Signature.{Signature}
use Rattle.ob_types.specs.declared.value.Value.{Value}
use Rattle.ob_types.specs.declared.value.Value.TheVariants as literal
use Rattle.ob_types.specs.declared.desc.Desc.{Desc}
use Rattle.ob_types.specs.declared.desc.Desc.TheVariants as desc
use Rattle.ob_types.specs.declared.desc.Receiver.{Receiver}
use Rattle.ob_types.specs.declared.typed.Variable.{Variable}
use Rattle.ob_types.specs.declared.typed.Variable.TheVariants as variable
use Rattle.ob_types.specs.declared.typed.TypedType.{TypedType}
use Rattle.ob_types.specs.declared.typed.OutProcedure.{OutProcedure}
use Rattle.ob_types.specs.declared.typed.OutProcedure.TheVariants as out
use Rattle.ob_rules.specs.declared.entity.Entity.{Entity}
use Rattle.ob_rules.specs.declared.entity.Known.{Known}
use Rattle.ob_rules.specs.declared.entity.Bound.{Bound}
use Rattle.ob_rules.specs.declared.entity.Coming.{Coming}
use Rattle.ob_rules.specs.declared.entity.Received.{Received}
use Rattle.ob_rules.specs.declared.entity.Entity.TheVariants as entity
use Rattle.ob_rules.specs.declared.broken.Predeclared.{Predeclared}
use Rattle.ob_rules.specs.declared.broken.Predeclared.TheVariants as pre
use Rattle.ob_rules.specs.declared.broken.Rule.TheVariants as rule
use Rattle.ob_rules.specs.Judged.{Judged, sound, silent, breaks, names, ◌▷◌}
use Rattle.ob_rules.specs.Shapes.{Map, same_name}

-- what stands around a part of a text
pub record Around : Type 0 where
  -- the module at hand
  pub unit : List ℕ
  -- what the imported modules show
  pub shown : QName → Option Desc
  -- the types of the module so far
  pub own : List TypedType
  -- what is known, the latest first
  pub known : List Known
  -- the innermost scope, and that whose variables may be named
  pub scope : ℕ
  pub level : ℕ
  -- what the names of objects of this scope begin with, as `P/`
  pub path : List ℕ
  -- the types that the scope declares, earlier or later
  pub later_types : List (List ℕ)
  pub coming : List Coming
  pub bound : List Bound
  -- the guards of WITH, the outermost first; none where the guard breaks a rule
  pub guards : List (Variable × Option TypeRef)
  pub receiver : Option Received
  -- the result of the procedure at hand
  pub result : Option TypeRef
  pub in_loop : Bool

abbrev pub in_unit : Around → List ℕ → QName
in_unit u x = record { «module» = u.unit; object = x }

abbrev pub own_desc : Option TypedType → Option Desc
own_desc None = None
own_desc (Some t) = Some t.desc

abbrev pub out_string : QName
out_string = record { «module» = codes "Out"; object = codes "String(1" }

abbrev pub type_desc : Bool → Bool → Around → QName → Option Desc
type_desc true b u q = own_desc (find (λ t. bytes_eq t.name q.object) u.own)
type_desc false true u q = Some (desc.OpenArray mark.Hidden (ref.Basic basic.Char))
type_desc false false u q = u.shown q

-- the map of all types: the module's own, those that the imported modules show, and that of the parameter of Out.String
abbrev pub map_of : Around → Map
map_of u = λ q. type_desc (bytes_eq q.module u.unit) (same_name q out_string) u q

-- KNOWN NAMES

abbrev pub find_name : List Known → List ℕ → Option Known
find_name known x = find (λ k. bytes_eq k.name x) known

abbrev pub in_scope : ℕ → Known → List ℕ → Bool
in_scope scope k x = nat_eq k.scope scope && bytes_eq k.name x

abbrev pub found_in_scope : Around → List ℕ → Option Known
found_in_scope u x = find (λ k. in_scope u.scope k x) u.known

abbrev pub is_among : List ℕ → List (List ℕ) → Bool
is_among x xs = list_any (λ y. bytes_eq y x) xs

-- a name that is declared in the procedure or module at hand
abbrev pub is_declared : Around → List ℕ → Bool
is_declared u x = list_any (λ k. nat_le u.level k.scope && bytes_eq k.name x) u.known

-- the declaration of that name for the record
abbrev pub bound_for : List Bound → QName → List ℕ → Option Bound
bound_for bs q x = find (λ b. bytes_eq b.owner.object q.object && bytes_eq b.name x) bs

abbrev pub is_predeclared_type : List ℕ → Bool
is_predeclared_type x = bytes_eq x (codes "REAL") || bytes_eq x (codes "LONGREAL")

-- a variable of an enclosing procedure: neither of the module nor of the procedure at hand
abbrev pub is_enclosing : Around → ℕ → Bool
is_enclosing u scope = nat_lt 1 scope && nat_lt scope u.level

abbrev pub variable_known : Bool → Pos → Entity → Judged Entity
variable_known true at e = breaks rule.OuterVariable at
variable_known false at e = sound e

-- rule 7: REAL, LONGREAL, ENTIER or SIZE, not declared anew; rule 8: a variable or parameter of an enclosing procedure
abbrev pub entity_known : Around → Pos → ℕ → Entity → Judged Entity
entity_known u at scope entity.LeftOut = breaks rule.LeftOut at
entity_known u at scope entity.Unsound = silent
entity_known u at scope (entity.Variable v t) = variable_known (is_enclosing u scope) at (entity.Variable v t)
entity_known u at scope e = sound e

-- rule 2: a name that is not declared, or not yet
abbrev pub name_known : Around → Pos → Option Known → Judged Entity
name_known u at None = breaks rule.NotDeclared at
name_known u at (Some k) = entity_known u at k.scope k.what

abbrev pub named : Around → Ident → Judged Entity
named u x = name_known u x.pos (find_name u.known x.name)

-- WHAT AN IMPORTED MODULE SHOWS

abbrev pub is_hidden : Mark → Bool
is_hidden mark.Hidden = true
is_hidden m = false

abbrev pub unless_hidden : Mark → Desc → Option Desc
unless_hidden mark.Hidden d = None
unless_hidden m d = Some d

abbrev pub record_unless_hidden : Desc → Option Desc
record_unless_hidden (desc.Var m t) = unless_hidden m (desc.Var m t)
record_unless_hidden (desc.Alias m t) = unless_hidden m (desc.Alias m t)
record_unless_hidden (desc.Array m n t) = unless_hidden m (desc.Array m n t)
record_unless_hidden (desc.OpenArray m t) = unless_hidden m (desc.OpenArray m t)
record_unless_hidden (desc.Pointer m t) = unless_hidden m (desc.Pointer m t)
record_unless_hidden (desc.ProcType m s) = unless_hidden m (desc.ProcType m s)
record_unless_hidden (desc.Record r) = unless_hidden r.mark (desc.Record r)
record_unless_hidden d = Some d

abbrev pub shown_of : Option Desc → Option Desc
shown_of None = None
shown_of (Some d) = record_unless_hidden d

-- rule 2: a name that is not exported
abbrev pub export_known : QName → Pos → Option Desc → Judged (QName × Desc)
export_known q at None = breaks rule.NotDeclared at
export_known q at (Some d) = names q (sound (q, d))

abbrev pub exported : Around → List ℕ → Ident → Judged (QName × Desc)
exported u m x = export_known (record { «module» = m; object = x.name }) x.pos (shown_of (u.shown (record { «module» = m; object = x.name })))

abbrev pub out_chosen : Bool → Bool → Bool → Bool → Option OutProcedure
out_chosen true b c d = Some out.Char
out_chosen false true c d = Some out.Str
out_chosen false false true d = Some out.Int
out_chosen false false false true = Some out.Ln
out_chosen false false false false = None

abbrev pub out_procedure : List ℕ → Option OutProcedure
out_procedure x = out_chosen (bytes_eq x (codes "Char")) (bytes_eq x (codes "String")) (bytes_eq x (codes "Int")) (bytes_eq x (codes "Ln"))

abbrev pub is_out : List ℕ → Bool
is_out m = bytes_eq m (codes "Out")

-- THE NAME OF A TYPE

abbrev pub type_of_desc : Pos → QName → Desc → Judged TypeRef
type_of_desc at q (desc.Const v) = breaks rule.WrongKind at
type_of_desc at q (desc.Var m t) = breaks rule.WrongKind at
type_of_desc at q (desc.Proc s) = breaks rule.WrongKind at
type_of_desc at q d = sound (ref.Named q)

abbrev pub out_type : Pos → Option OutProcedure → Judged TypeRef
out_type at None = breaks rule.NotDeclared at
out_type at (Some p) = breaks rule.WrongKind at

abbrev pub type_in : Bool → Around → List ℕ → Ident → Judged TypeRef
type_in true u m x = out_type x.pos (out_procedure x.name)
type_in false u m x = exported u m x ▷ λ e. type_of_desc x.pos e.0 e.1

-- rule 3: a name whose kind does not fit its place
abbrev pub type_of_entity : Pos → Entity → Judged TypeRef
type_of_entity at (entity.TypeName t) = sound t
type_of_entity at e = breaks rule.WrongKind at

abbrev pub type_behind : Around → Ident → Ident → Entity → Judged TypeRef
type_behind u m x (entity.Module n) = type_in (is_out n) u n x
type_behind u m x e = breaks rule.WrongKind m.pos

-- a variable never fits here, of whatever procedure it is
abbrev pub unless_variable_is : Around → Ident → Known → Entity → (Entity → Judged TypeRef) → Judged TypeRef
unless_variable_is u x k (entity.Variable v t) f = breaks rule.WrongKind x.pos
unless_variable_is u x k e f = entity_known u x.pos k.scope e ▷ f

abbrev pub unless_variable : Around → Ident → Option Known → (Entity → Judged TypeRef) → Judged TypeRef
unless_variable u x None f = breaks rule.NotDeclared x.pos
unless_variable u x (Some k) f = unless_variable_is u x k k.what f

abbrev pub type_by : Around → Option Ident → Ident → Judged TypeRef
type_by u None x = unless_variable u x (find_name u.known x.name) (type_of_entity x.pos)
type_by u (Some m) x = unless_variable u m (find_name u.known m.name) (type_behind u m x)

abbrev pub type_named : Around → Qualident → Judged TypeRef
type_named u q = type_by u q.qualifier q.ident

-- whether it names a type, whatever rule its place breaks; REAL and LONGREAL do
abbrev pub is_type_desc : Option Desc → Bool
is_type_desc None = false
is_type_desc (Some (desc.Const v)) = false
is_type_desc (Some (desc.Var m t)) = false
is_type_desc (Some (desc.Proc s)) = false
is_type_desc (Some d) = true

abbrev pub is_type_entity : List ℕ → Entity → Bool
is_type_entity x (entity.TypeName t) = true
is_type_entity x entity.LeftOut = is_predeclared_type x
is_type_entity x e = false

abbrev pub is_type_behind : Around → List ℕ → Entity → Bool
is_type_behind u x (entity.Module m) = is_type_desc (shown_of (u.shown (record { «module» = m; object = x })))
is_type_behind u x e = false

abbrev pub known_is : (Entity → Bool) → Option Known → Bool
known_is f None = false
known_is f (Some k) = f k.what

abbrev pub is_type_by : Around → Option Ident → Ident → Bool
is_type_by u None x = known_is (is_type_entity x.name) (find_name u.known x.name)
is_type_by u (Some m) x = known_is (is_type_behind u x.name) (find_name u.known m.name)

abbrev pub is_type_name : Around → Qualident → Bool
is_type_name u q = is_type_by u q.qualifier q.ident

-- THE PREDECLARED NAMES

abbrev pub a : List ℕ → Entity → Known
a x e = record { name = x; scope = 0; what = e }

abbrev pub predeclared : List Known
predeclared =
    a (codes "BOOLEAN") (entity.TypeName (ref.Basic basic.Boolean)) ∷ a (codes "CHAR") (entity.TypeName (ref.Basic basic.Char)) ∷ a (codes "SHORTINT") (entity.TypeName (ref.Basic basic.ShortInt)) ∷ a (codes "INTEGER") (entity.TypeName (ref.Basic basic.Integer)) ∷ a (codes "LONGINT") (entity.TypeName (ref.Basic basic.LongInt)) ∷ a (codes "SET") (entity.TypeName (ref.Basic basic.Set))
    ∷ a (codes "TRUE") (entity.Constant (literal.Bool true)) ∷ a (codes "FALSE") (entity.Constant (literal.Bool false))
    ∷ a (codes "ABS") (entity.Predeclared pre.Abs) ∷ a (codes "ASH") (entity.Predeclared pre.Ash) ∷ a (codes "CAP") (entity.Predeclared pre.Cap) ∷ a (codes "CHR") (entity.Predeclared pre.Chr) ∷ a (codes "LEN") (entity.Predeclared pre.Len) ∷ a (codes "LONG") (entity.Predeclared pre.Long) ∷ a (codes "MAX") (entity.Predeclared pre.Max) ∷ a (codes "MIN") (entity.Predeclared pre.Min) ∷ a (codes "ODD") (entity.Predeclared pre.Odd) ∷ a (codes "ORD") (entity.Predeclared pre.Ord) ∷ a (codes "SHORT") (entity.Predeclared pre.Short)
    ∷ a (codes "ASSERT") (entity.Predeclared pre.Assert) ∷ a (codes "COPY") (entity.Predeclared pre.Copy) ∷ a (codes "DEC") (entity.Predeclared pre.Dec) ∷ a (codes "EXCL") (entity.Predeclared pre.Excl) ∷ a (codes "HALT") (entity.Predeclared pre.Halt) ∷ a (codes "INC") (entity.Predeclared pre.Inc) ∷ a (codes "INCL") (entity.Predeclared pre.Incl) ∷ a (codes "NEW") (entity.Predeclared pre.New)
    ∷ a (codes "REAL") entity.LeftOut ∷ a (codes "LONGREAL") entity.LeftOut ∷ a (codes "ENTIER") entity.LeftOut ∷ a (codes "SIZE") entity.LeftOut ∷ []
